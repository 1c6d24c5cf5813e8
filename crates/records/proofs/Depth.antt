-- What the reader gives is at most as deep as its context has room. Assumes nothing.
use mathlib.Core.Path.{◌≡◌, refl, ap, ◌∙◌}
use mathlib.Core.Bool.{Bool, true, false}
use mathlib.Core.List.{List, [], ◌∷◌}
use Rattle.std.specs.Prelude.{Option}
use Prim.Native.Nat.{ℕ, zero, suc, ◌+◌, ◌-◌, ◌≤◌, max}
use Prim.Native.String.{String}
use native.Mathlib.Omega.{arith}
use lib.Dec.{leb, eqb, leb→le}
use lib.ListN.{length}
use Rattle.names.specs.Names.{Bytes, ascii, same}
use Rattle.names.specs.Refusals.{place_at}
use Rattle.records.specs.Records.{mark_width, Body, Binding, Helper, Form, to_bodies, to_bindings, to_helpers}
use Rattle.records.specs.declared.Kind.{Kind}
use Rattle.records.specs.declared.Kind.TheVariants.{Parallel, Sequential, Assign}
use Rattle.records.specs.Depth.{levels, depth, bodies_depth, tail_depth, binding_depth, bindings_depth, helper_depth, helpers_depth, form_depth}
use Rattle.records.proofs.Readers.{Any, not_done, same_value, T_of, reads_whole}
use Rattle.records.proofs.Exact.{bindings_counted}
use Rattle.records.specs.Limits.{level_limit}
use Rattle.records.specs.Read.{Zone, Context, in_bindings, kind_of, more_levels, binding, let_of, tail_after, call_tail, Readers, body_rule, helper_rule, form_rule, rules, readers, assign_of, whole, read_whole}
use Rattle.records.specs.ReadFields.{Input, Fault, malformed, over_limit, Read, done, refused, Reader, ◌>>=◌, ◌>>◌, ret, refuse, check, times, deeper, in_lambda, in_zone, bytes, choose, marked}

-- in a context with room n each result has P
pub record Gives {A : Type 0} (n : ℕ) (P : A → Type 0) (m : Reader A) : Type 0 where
  pub gives : (c : Context) (i : Input) (a : A) (j : Input) → c.room ≡ n → m c i ≡ done a j → P a

any : {A : Type 0} {n : ℕ} {m : Reader A} → Gives n Any m
any = record { gives = λ c i a j q h. tt }

gives_ret : {A : Type 0} {n : ℕ} {P : A → Type 0} (a : A) → P a → Gives n P (ret a)
unfolding ret
gives_ret {P} a p = record { gives = λ c i b j q h. rw (← same_value h) p }

gives_refuse : {A : Type 0} {n : ℕ} {P : A → Type 0} (k : Fault) → Gives n P (refuse k)
unfolding refuse
gives_refuse k = record { gives = λ c i b j q h. absurd (not_done h) }

gives_bind : {A B : Type 0} {n : ℕ} {P : A → Type 0} {Q : B → Type 0} {m : Reader A} {k : A → Reader B} → Gives n P m → ((a : A) → P a → Gives n Q (k a)) → Gives n Q (m >>= k)
unfolding ◌>>=◌
gives_bind {A} {B} {n} {P} {Q} {m} {k} s t = record { gives = λ c i b j q h. go c i b j q (m c i) refl h }
  where
    go : (c : Context) (i : Input) (b : B) (j : Input) → c.room ≡ n → (o : Read A) → m c i ≡ o
        → ◌≡◌ {A = Read B} (elim o [ done a l ↦ k a c l | refused x p ↦ refused x p ]) (done b j) → Q b
    go c i b j q (done a l) e h = (t a (s.gives c i a l q e)).gives c l b j q h
    go c i b j q (refused x p) e h = absurd (not_done h)

weaken : {A : Type 0} {n : ℕ} {P Q : A → Type 0} {m : Reader A} → ((a : A) → P a → Q a) → Gives n P m → Gives n Q m
weaken h s = record { gives = λ c i a j q e. h a (s.gives c i a j q e) }

module _ {A : Type 0} {P : A → Type 0} {m : Reader A} where
  gives_check : (n : ℕ) (x : Fault) (ok : Bool) → Gives n P m → Gives n P (check x ok m)
  unfolding check
  gives_check n x ok s = record { gives = λ c i b j q h. go c i b j q ok h }
    where
      go : (c : Context) (i : Input) (b : A) (j : Input) → c.room ≡ n → (o : Bool) → ◌≡◌ {A = Read A} (elim o [ true ↦ m c i | false ↦ refused x (place_at c.mark) ]) (done b j) → P b
      go c i b j q true h = s.gives c i b j q h
      go c i b j q false h = absurd (not_done h)

  gives_deeper : (n k : ℕ) → (k ≤ n → Gives (n - k) P m) → Gives n P (deeper k m)
  unfolding deeper
  gives_deeper n k s = record { gives = λ c i b j q h. go c i b j q (leb k c.room) refl h }
    where
      go : (c : Context) (i : Input) (b : A) (j : Input) → c.room ≡ n → (o : Bool) → leb k c.room ≡ o
          → ◌≡◌ {A = Read A} (elim o [ true ↦ m (record { mark = c.mark; room = c.room - k; lambdas = c.lambdas; zone = c.zone }) i | false ↦ refused over_limit (place_at c.mark) ]) (done b j) → P b
      go c i b j q true e h = (s (omega (arith, leb→le k c.room (T_of e)))).gives _ i b j (ap (λ (x : ℕ). x - k) q) h
      go c i b j q false e h = absurd (not_done h)

  gives_in_lambda : (n : ℕ) → Gives n P m → Gives n P (in_lambda m)
  unfolding in_lambda
  gives_in_lambda n s = record { gives = λ c i b j q h. go c i b j q (leb 1 c.lambdas) h }
    where
      go : (c : Context) (i : Input) (b : A) (j : Input) → c.room ≡ n → (o : Bool)
          → ◌≡◌ {A = Read A} (elim o [ true ↦ m (record { mark = c.mark; room = c.room; lambdas = c.lambdas - 1; zone = c.zone }) i | false ↦ refused over_limit (place_at c.mark) ]) (done b j) → P b
      go c i b j q true h = s.gives _ i b j q h
      go c i b j q false h = absurd (not_done h)

  gives_in_zone : (n : ℕ) (z : Zone) → Gives n P m → Gives n P (in_zone z m)
  unfolding in_zone
  gives_in_zone n z s = record { gives = λ c i b j q h. s.gives _ i b j q h }

  gives_in_bindings : (n : ℕ) (k : Kind) → Gives n P m → Gives n P (in_bindings k m)
  unfolding in_bindings in_zone
  gives_in_bindings n k s = record { gives = λ c i b j q h. s.gives _ i b j q h }

-- the deepest of a list
abbrev pub deepest : {A : Type 0} → (A → ℕ) → List A → ℕ
deepest f [] = 0
deepest f (a ∷ l) = max (f a) (deepest f l)

pub record Times {A : Type 0} (f : A → ℕ) (n k : ℕ) (l : List A) : Type 0 where
  pub deep : deepest f l ≤ n
  pub long : length l ≡ k

gives_times : {A : Type 0} {n : ℕ} {m : Reader A} (f : A → ℕ) (k : ℕ) → Gives n (λ a. f a ≤ n) m → Gives n (Times f n k) (times k m)
unfolding times
gives_times f zero s = gives_ret [] (record { deep = omega arith; long = refl })
gives_times f (suc k) s = gives_bind s λ a p. gives_bind (gives_times f k s) λ l q. gives_ret (a ∷ l) (record { deep = omega (arith, q.deep); long = ap suc q.long })

pub data Alternatives {A : Type 0} (n : ℕ) (P : A → Type 0) : List (String × Reader A) → Type 0 where
  none_left : Alternatives n P []
  also : {s : String} {m : Reader A} {es : List (String × Reader A)} → Gives n P m → Alternatives n P es → Alternatives n P ((s, m) ∷ es)

gives_choose : {A : Type 0} {n : ℕ} {P : A → Type 0} {es : List (String × Reader A)} (x : Bytes) → Alternatives n P es → Gives n P (choose x es)
unfolding choose
gives_choose x none_left = gives_refuse malformed
gives_choose {A} {n} {P} x (also {s} {m} {es} e rest) = go (same x (ascii s)) (gives_choose x rest)
  where
    go : (o : Bool) → Gives n P (choose x es) → Gives {A = A} n P (elim o [ true ↦ m | false ↦ choose x es ])
    go true ih = e
    go false ih = ih

gives_marked : {A : Type 0} {n : ℕ} {P : A → Type 0} {es : List (String × Reader A)} → Alternatives n P es → Gives n P (marked es)
unfolding marked
gives_marked {A} {n} {P} {es} alts = record { gives = λ c i b j q h. all.gives _ i b j q h }
  where
    all : Gives n P (bytes mark_width >>= λ x. choose x es)
    all = gives_bind any λ x _. gives_choose x alts

bodies_deepest : (l : List Body) → bodies_depth (to_bodies l) ≡ deepest depth l
unfolding bodies_depth to_bodies
bodies_deepest [] = refl
bodies_deepest (b ∷ bs) = ap (λ (n : ℕ). max (depth b) n) (bodies_deepest bs)

bindings_deepest : (l : List Binding) → bindings_depth (to_bindings l) ≡ deepest binding_depth l
unfolding bindings_depth to_bindings
bindings_deepest [] = refl
bindings_deepest (b ∷ bs) = ap (λ (n : ℕ). max (binding_depth b) n) (bindings_deepest bs)

helpers_deepest : (l : List Helper) → helpers_depth (to_helpers l) ≡ deepest helper_depth l
unfolding helpers_depth to_helpers
helpers_deepest [] = refl
helpers_deepest (b ∷ bs) = ap (λ (n : ℕ). max (helper_depth b) n) (helpers_deepest bs)

pub levels_split : (k : Kind) (n : ℕ) → levels k n ≡ 1 + more_levels k n
unfolding levels more_levels
levels_split Parallel n = refl
levels_split Sequential n = omega arith
levels_split Assign n = refl

pub record Deep (r : Readers) : Type 0 where
  pub body : (n : ℕ) → Gives n (λ b. depth b ≤ n) r.body
  pub helper : (n : ℕ) → Gives n (λ x. helper_depth x ≤ n) r.helper
  pub form : (n : ℕ) → Gives n (λ f. form_depth f ≤ n) r.form

module _ (r : Readers) (d : Deep r) where
  gives_binding : (n : ℕ) → Gives n (λ b. binding_depth b ≤ n) (binding r.body)
  unfolding binding binding_depth
  gives_binding n = gives_marked (also (gives_bind any λ l _. gives_bind any λ nl _. gives_bind any λ p _. gives_bind (d.body n) λ b q. gives_ret _ q) none_left)

  gives_tail_after : (n b : ℕ) → Gives n (λ t. tail_depth t ≤ n) (tail_after r.body b)
  unfolding tail_after tail_depth
  gives_tail_after n zero = gives_ret _ (omega arith)
  gives_tail_after n (suc b) = gives_bind (d.body n) λ t q. gives_ret _ q

  gives_call_tail : (n : ℕ) → Gives n (λ t. tail_depth t ≤ n) (call_tail r.body)
  unfolding call_tail
  gives_call_tail n = gives_bind any λ b _. gives_tail_after n b

  gives_let_of : (n : ℕ) (k : Kind) → Gives n (λ b. depth b ≤ 1 + n) (let_of r k)
  unfolding let_of depth
  gives_let_of n k = gives_bind any λ l _. gives_bind any λ w _. gives_bind any λ h _. gives_bind any λ c _. gives_deeper n (more_levels k c)
      λ room. gives_bind (gives_in_bindings _ k (gives_times binding_depth c (gives_binding _))) λ bs t. gives_bind (d.body _) λ b q.
      gives_ret _ (omega (arith, bindings_deepest bs, t.deep, levels_split k c, ap (levels k) (bindings_counted bs ∙ t.long)))

  gives_body_rule : (n : ℕ) → Gives n (λ b. depth b ≤ n) (body_rule r)
  unfolding body_rule depth ◌>>◌
  gives_body_rule n = gives_marked
      (also (gives_deeper n 1 λ h. gives_bind any λ k _. weaken (λ b q. omega arith) (gives_let_of (n - 1) (kind_of k)))
      (also (gives_deeper n 1 λ h. gives_bind any λ s _. gives_ret _ (omega arith))
      (also (gives_deeper n 1 λ h. gives_bind any λ s _. gives_ret _ (omega arith))
      (also (gives_deeper n 1 λ h. gives_bind any λ l _. gives_bind any λ c _. gives_bind (gives_times depth c (d.body (n - 1))) λ bs t. gives_bind (gives_call_tail (n - 1)) λ x q.
      gives_ret _ (omega (arith, bodies_deepest bs, t.deep)))
      (also (gives_deeper n 1 λ h. gives_bind any λ u _. gives_bind any λ l _. gives_bind (gives_in_zone (n - 1) _ (d.form (n - 1))) λ f q. gives_ret _ (omega arith))
      (also (gives_deeper n 1 λ h. gives_in_lambda (n - 1) (gives_bind any λ l _. gives_bind any λ w _. gives_bind any λ ca _. gives_bind (d.body (n - 1)) λ c p. gives_bind any λ a _.
      gives_bind (d.body (n - 1)) λ b q. gives_ret _ (omega arith)))
      none_left))))))

  gives_helper_rule : (n : ℕ) → Gives n (λ x. helper_depth x ≤ n) (helper_rule r)
  unfolding helper_rule helper_depth
  gives_helper_rule n = gives_marked
      (also (gives_deeper n 1 λ h. gives_bind any λ l _. gives_bind any λ m _. gives_bind any λ x _. gives_bind (d.body (n - 1)) λ b q. gives_ret _ (omega arith))
      (also (gives_deeper n 1 λ h. gives_bind any λ l _. gives_bind any λ m _. gives_bind any λ x _. gives_bind any λ a _. gives_bind (d.form (n - 1)) λ f q. gives_ret _ (omega arith))
      (also (gives_deeper n 1 λ h. gives_bind any λ l _. gives_bind any λ i _. gives_bind any λ m _. gives_bind any λ x _. gives_bind any λ a _. gives_bind (d.body (n - 1)) λ b q. gives_ret _ (omega arith))
      (also (gives_deeper n 1 λ h. gives_bind any λ l _. gives_bind any λ m _. gives_bind any λ x _. gives_bind any λ k _. gives_bind (gives_times helper_depth k (d.helper (n - 1))) λ hs t.
      gives_ret _ (omega (arith, helpers_deepest hs, t.deep)))
      (also (gives_deeper n 1 λ h. gives_bind any λ l _. gives_bind any λ m _. gives_bind any λ x _. gives_ret _ (omega arith))
      none_left)))))

  gives_form_rule : (n : ℕ) → Gives n (λ f. form_depth f ≤ n) (form_rule r)
  unfolding form_rule form_depth
  gives_form_rule n = gives_marked (also
      (gives_deeper n 1 λ h. gives_bind any λ l _. gives_bind any λ x _. gives_bind any λ a _. gives_bind any λ k _. gives_bind (gives_times helper_depth k (d.helper (n - 1))) λ hs t. gives_bind (d.body (n - 1)) λ b q.
      gives_ret _ (omega (arith, helpers_deepest hs, t.deep)))
      none_left)

  deep_rules : Deep (rules r)
  unfolding rules
  deep_rules = record { body = gives_body_rule; helper = gives_helper_rule; form = gives_form_rule }

pub deep_readers : (fuel : ℕ) → Deep (readers fuel)
unfolding readers
deep_readers zero = deep_rules _ (record { body = λ n. gives_refuse over_limit; helper = λ n. gives_refuse over_limit; form = λ n. gives_refuse over_limit })
deep_readers (suc fuel) = deep_rules _ (deep_readers fuel)

-- a record that is read whole is at most `level_limit` deep
whole_deep : {A : Type 0} {m : Reader A} (f : A → ℕ) → Gives level_limit (λ a. f a ≤ level_limit) m → (input : Bytes) (a : A) (o : Option ℕ) → read_whole m input ≡ whole a o → f a ≤ level_limit
whole_deep {A} {m} f s input a o h = let r = reads_whole m input a o h in s.gives _ _ a r.end refl r.ran

pub form_deep : (input : Bytes) (a : Form) (o : Option ℕ) → read_whole (readers level_limit).form input ≡ whole a o → form_depth a ≤ level_limit
form_deep = whole_deep form_depth ((deep_readers level_limit).form level_limit)

pub helper_deep : (input : Bytes) (a : Helper) (o : Option ℕ) → read_whole (readers level_limit).helper input ≡ whole a o → helper_depth a ≤ level_limit
helper_deep = whole_deep helper_depth ((deep_readers level_limit).helper level_limit)

gives_assign_of : Gives level_limit (λ b. depth b ≤ level_limit) assign_of
unfolding assign_of
gives_assign_of = gives_marked (also
    (gives_deeper level_limit 1 λ h. gives_bind any λ k _. gives_check (level_limit - 1) malformed (eqb k 2) (gives_let_of _ (deep_readers (level_limit - 1)) (level_limit - 1) Assign))
    none_left)

pub assign_deep : (input : Bytes) (a : Body) (o : Option ℕ) → read_whole assign_of input ≡ whole a o → depth a ≤ level_limit
assign_deep = whole_deep depth gives_assign_of
