-- The plan of an SC by the word at its head. Assumes nothing.
use mathlib.Core.Path.{◌≡◌, refl, sym, ap, subst, ◌∙◌}
use mathlib.Core.Bool.{Bool, true, false, ◌&&◌}
use mathlib.Core.Option.{Option, none, some}
use native.Mathlib.Omega.{arith}
use Prim.Native.Nat.{ℕ, ◌+◌, ◌-◌, ◌≤◌}
use Prim.Native.String.{String}
use lib.ListN.{length}
use Rattle.std.specs.Prelude.{Option as Place, Some, None}
use Rattle.names.specs.Maps.{NameMap}
use Rattle.names.specs.Names.{Bytes, ascii}
use Rattle.names.specs.Segments.{At}
use Rattle.names.proofs.Parts.{into, part, at_from_part}
use Rattle.names.proofs.Places.{at_place}
use Rattle.records.specs.Records.{head_width, Loc, Sexp, SN, SC, SI, SQ, SA, sexp_bytes}
use Rattle.records.specs.Sexps.{nilp, loc_of, is_atom, only}
use Rattle.records.specs.Valid.{SexpFields, cons_depth}
use Rattle.records.specs.Parts.{Skips, fields_part}
use Rattle.walk.specs.Plans.{substitution, OnlyElement, HeadAt, IsAtom, OnlyOfTailAt, single_none, single_one, SeesOnlyOfTail, keeps, quotes, goes_alone, goes_on, PlansPair}
use Rattle.walk.specs.RenameInCons.{requote, rename_in_cons, rename_in_qq, only_in_cons, only_in_qq}
use Rattle.walk.specs.declared.Plan.TheVariants.{Kept, Requoted, Alone, Parts}
use Rattle.walk.specs.declared.Quasi.{Quasi}
use Rattle.walk.specs.declared.Quasi.TheVariants.{Outside, Inside}
use Rattle.walk.proofs.Pairs.{cons, cons_length, cons_deeper}

-- the element behind the head
pub record Element (s : Bytes) (h : Sexp) (x : Sexp) (n : ℕ) : Type 0 where
  pub fields : SexpFields x
  pub there : At s (head_width + length (sexp_bytes h) + head_width) (sexp_bytes x)
  pub within : head_width + length (sexp_bytes h) + head_width + length (sexp_bytes x) ≤ n

pub element : {s : Bytes} (l : Loc) (h : Sexp) (k : Loc) (x z : Sexp) → SexpFields (SC l h (SC k x z)) → At s 0 (sexp_bytes (SC l h (SC k x z)))
    → Element s h x (length (sexp_bytes (SC l h (SC k x z))))
element {s} l h k x z w a =
    let v = cons l h (SC k x z) w a in
    let i = cons k x z v.fields_u (into v.right) in
    record {
      fields = i.fields_h;
      there = at_from_part (head_width + length (sexp_bytes h)) (length s - (head_width + length (sexp_bytes h))) (omega (arith, v.right.fits)) i.left;
      within = omega (arith, cons_length l h (SC k x z) v.width, cons_length k x z i.width);
    }

module _ (qq : Bool) (m : NameMap) where
  -- none there, none by either rule
  none_in_cons : (u : Sexp) → only u ≡ none → only_in_cons qq m u ≡ none
  unfolding only only_in_cons
  none_in_cons (SN l) e = refl
  none_in_cons (SC l x t) e = go (nilp t) e
    where
      go : (b : Bool) → ◌≡◌ {A = Option Sexp} (elim b [ true ↦ some x | false ↦ none ]) none
          → ◌≡◌ {A = Option Sexp} (elim b [ true ↦ some (rename_in_cons qq m x) | false ↦ none ]) none
      go true q = let z : ◌≡◌ {A = ℕ} 0 1 = cc in absurd (omega arith)
      go false q = refl
  none_in_cons (SI l v) e = refl
  none_in_cons (SQ l q n) e = refl
  none_in_cons (SA l n) e = refl

  qq_on : (l : Loc) (h u : Sexp) → is_atom "unquote" h ≡ false → rename_in_qq qq m (SC l h u) ≡ SC l (rename_in_qq qq m h) (rename_in_qq qq m u)
  unfolding rename_in_qq
  qq_on l h u e = rw (e, rename_in_qq)

  qq_none : (l : Loc) (h u : Sexp) → is_atom "unquote" h ≡ true → only u ≡ none
      → rename_in_qq qq m (SC l h u) ≡ SC l (rename_in_qq qq m h) (rename_in_qq qq m u)
  unfolding rename_in_qq
  qq_none l h u e n = rw (e, none_in_cons u n, rename_in_qq)

  qq_one : (l : Loc) (h : Sexp) (k : Loc) (x z : Sexp) → is_atom "unquote" h ≡ true → nilp z ≡ true
      → rename_in_qq qq m (SC l h (SC k x z)) ≡ rename_in_cons qq m x
  unfolding rename_in_qq only_in_cons
  qq_one l h k x z e n = rw (e, n, rename_in_qq, only_in_cons)

  none_in_qq : (u : Sexp) → only u ≡ none → only_in_qq qq m u ≡ none
  unfolding only only_in_qq
  none_in_qq (SN l) e = refl
  none_in_qq (SC l x t) e = go (nilp t) e
    where
      go : (b : Bool) → ◌≡◌ {A = Option Sexp} (elim b [ true ↦ some x | false ↦ none ]) none
          → ◌≡◌ {A = Option Sexp} (elim b [ true ↦ some (rename_in_qq qq m x) | false ↦ none ]) none
      go true q = let z : ◌≡◌ {A = ℕ} 0 1 = cc in absurd (omega arith)
      go false q = refl
  none_in_qq (SI l v) e = refl
  none_in_qq (SQ l q n) e = refl
  none_in_qq (SA l n) e = refl

  -- neither `q` nor `quote`, nor a `qq` that is looked into
  cons_on : (l : Loc) (h u : Sexp) → is_atom "q" h ≡ false → is_atom "quote" h ≡ false → (is_atom "qq" h && qq) ≡ false
      → rename_in_cons qq m (SC l h u) ≡ SC l (rename_in_cons qq m h) (rename_in_cons qq m u)
  unfolding rename_in_cons
  cons_on l h u e₁ e₂ e₃ = rw (e₁, e₂, e₃, rename_in_cons)

  cons_quote : (l : Loc) (h u : Sexp) → is_atom "q" h ≡ false → is_atom "quote" h ≡ true → rename_in_cons qq m (SC l h u) ≡ requote l h u
  unfolding rename_in_cons
  cons_quote l h u e₁ e₂ = rw (e₁, e₂, rename_in_cons)

  cons_qq_none : (l : Loc) (h u : Sexp) → is_atom "q" h ≡ false → is_atom "quote" h ≡ false → (is_atom "qq" h && qq) ≡ true → only u ≡ none
      → rename_in_cons qq m (SC l h u) ≡ SC l h u
  unfolding rename_in_cons
  cons_qq_none l h u e₁ e₂ e₃ n = rw (e₁, e₂, e₃, none_in_qq u n, rename_in_cons)

  cons_qq_one : (l : Loc) (h : Sexp) (k : Loc) (x z : Sexp) → is_atom "q" h ≡ false → is_atom "quote" h ≡ false → (is_atom "qq" h && qq) ≡ true → nilp z ≡ true
      → rename_in_cons qq m (SC l h (SC k x z)) ≡ rename_in_qq qq m x
  unfolding rename_in_cons only_in_qq
  cons_qq_one l h k x z e₁ e₂ e₃ n = rw (e₁, e₂, e₃, n, rename_in_cons, only_in_qq)

  cons_q : (l : Loc) (h u : Sexp) → is_atom "q" h ≡ true → rename_in_cons qq m (SC l h u) ≡ SC l h u
  unfolding rename_in_cons
  cons_q l h u e = rw (e, rename_in_cons)

requote_none : (l : Loc) (h u : Sexp) → only u ≡ none → requote l h u ≡ SC l h u
unfolding requote
requote_none l h u n = rw (n, requote)

requote_one : (l : Loc) (h : Sexp) (k : Loc) (x z : Sexp) → nilp z ≡ true → requote l h (SC k x z) ≡ SC l h (SC (loc_of x) x (SN (loc_of x)))
unfolding requote only
requote_one l h k x z n = rw (n, requote, only)

-- whether the head of an SC at the start is the atom of this word; and whether it is a `qq` that is looked into
abbrev pub Heads : Bytes → String → Bool → Type 0
Heads s w r = (l : Loc) (h u : Sexp) → SexpFields (SC l h u) → At s 0 (sexp_bytes (SC l h u)) → is_atom w h ≡ r

abbrev Looks : Bytes → Bool → Bool → Type 0
Looks s qq r = (l : Loc) (h u : Sexp) → SexpFields (SC l h u) → At s 0 (sexp_bytes (SC l h u)) → (is_atom "qq" h && qq) ≡ r

module _ {s : Bytes} where
  pub heads : {word : Bytes} {n : ℕ} {r b : Bool} (w : String) → HeadAt s n → IsAtom (part s n (length s - n)) word r → word ≡ ascii w → r ≡ b → Heads s w b
  heads {n = n} w hd x e q l h u fine a =
      let v = cons l h u fine a in
      sym (x.is w e h v.fields_h (into (at_place n (sym (hd.is l h u fine a)) v.left))) ∙ q

  pub looks : {qq : Bool} → Heads s "qq" true → qq ≡ true → Looks s qq true
  looks {qq} x e l h u fine a = ap (λ (b : Bool). b && qq) (x l h u fine a) ∙ e

  pub no_qq : (qq : Bool) → Heads s "qq" false → Looks s qq false
  no_qq qq x l h u fine a = ap (λ (b : Bool). b && qq) (x l h u fine a)

  pub not_looked : {qq : Bool} → qq ≡ false → Looks s qq false
  not_looked {qq} e l h u fine a = go (is_atom "qq" h)
    where
      go : (b : Bool) → (b && qq) ≡ false
      go true = e
      go false = refl

-- the only element of the tail u, where it stands at x
record Tail (h u : Sexp) (x : ℕ) : Type 0 where
  k : Loc
  y : Sexp
  z : Sexp
  is : u ≡ SC k y z
  ends : nilp z ≡ true
  place : x ≡ head_width + length (sexp_bytes h) + head_width

module _ {s : Bytes} (l : Loc) (h u : Sexp) (fine : SexpFields (SC l h u)) (a : At s 0 (sexp_bytes (SC l h u))) where
  no_tail : {o : Place ℕ} → SeesOnlyOfTail s o → o ≡ None → only u ≡ none
  no_tail {o} k e = go (k.singles l h u fine a)
    where
      go : OnlyOfTailAt h u o → only u ≡ none
      go (single_none q n) = n
      go (single_one k y z i n p) = absurd (cc)

  tail : {o : Place ℕ} {x : ℕ} → SeesOnlyOfTail s o → o ≡ Some x → Tail h u x
  tail {o} {x} k e = go (k.singles l h u fine a)
    where
      go : OnlyOfTailAt h u o → Tail h u x
      go (single_none q n) = absurd (cc)
      go (single_one k y z i n p) = record { k = k; y = y; z = z; is = i; ends = n; place = cc }

  -- it goes on alone
  lone : {x : ℕ} (rule : NameMap → Sexp → Sexp) (next : Quasi) (j : Tail h u x) → ((m : NameMap) → rule m (SC l h (SC j.k j.y j.z)) ≡ substitution next m j.y)
      → OnlyElement rule next s (SC l h u) x
  lone {x} rule next j makes =
      let P : Sexp → Type 0 = λ v. SexpFields (SC l h v) in
      let Q : Sexp → Type 0 = λ v. At s 0 (sexp_bytes (SC l h v)) in
      let i = element l h j.k j.y j.z (subst P j.is fine) (subst Q j.is a) in
      let q = ap (λ (v : Sexp). length (sexp_bytes (SC l h v))) j.is in
      record {
        x = j.y;
        fields = i.fields;
        there = at_place x (sym j.place) i.there;
        within = omega (arith, j.place, i.within, q);
        deeper = omega (arith, (cons_deeper l h u).1, ap cons_depth j.is, (cons_deeper j.k j.y j.z).0);
        makes = λ m. ap (λ (v : Sexp). rule m (SC l h v)) j.is ∙ makes m;
      }

-- the plans inside `qq`
module _ {s : Bytes} where
  pub plans_on : Heads s "unquote" false → PlansPair (rename_in_qq true) s Parts
  plans_on x =
      record { pairs = λ l h u fine a. goes_on refl record { l = l; h = h; u = u; is = refl; makes = λ m. qq_on true m l h u (x l h u fine a) } }

  module _ {r : Place ℕ} (x : Heads s "unquote" true) (o : SeesOnlyOfTail s r) where
    pub plans_unquote_none : r ≡ None → PlansPair (rename_in_qq true) s Parts
    plans_unquote_none e =
        record {
          pairs = λ l h u fine a.
              goes_on refl record { l = l; h = h; u = u; is = refl; makes = λ m. qq_none true m l h u (x l h u fine a) (no_tail l h u fine a o e) };
        }

    pub plans_unquote : {n e : ℕ} → r ≡ Some n → Skips fields_part s e → PlansPair (rename_in_qq true) s (Alone Outside n e)
    plans_unquote {n} d size =
        record {
          pairs = λ l h u fine a.
              let j = tail l h u fine a o d in
              goes_alone Outside n (ap (Alone Outside n) (size.skips (SC l h u) fine a))
              (lone l h u fine a (rename_in_qq true) Outside j (λ m. qq_one true m l h j.k j.y j.z (x l h u fine a) j.ends));
        }

-- the plans outside
module _ (qq : Bool) {s : Bytes} where
  pub plans_q : {e : ℕ} → Heads s "q" true → Skips fields_part s e → PlansPair (rename_in_cons qq) s (Kept e)
  plans_q x size = record { pairs = λ l h u fine a. keeps (ap Kept (size.skips (SC l h u) fine a)) (λ m. cons_q qq m l h u (x l h u fine a)) }

  pub plans_go_on : Heads s "q" false → Heads s "quote" false → Looks s qq false → PlansPair (rename_in_cons qq) s Parts
  plans_go_on x y z =
      record {
        pairs = λ l h u fine a.
            goes_on refl record { l = l; h = h; u = u; is = refl; makes = λ m. cons_on qq m l h u (x l h u fine a) (y l h u fine a) (z l h u fine a) };
      }

  module _ {r : Place ℕ} {e : ℕ} (x : Heads s "q" false) (o : SeesOnlyOfTail s r) (size : Skips fields_part s e) where
    module _ (y : Heads s "quote" true) where
      pub plans_quote_none : r ≡ None → PlansPair (rename_in_cons qq) s (Kept e)
      plans_quote_none d =
          record {
            pairs = λ l h u fine a.
                keeps (ap Kept (size.skips (SC l h u) fine a))
                (λ m. cons_quote qq m l h u (x l h u fine a) (y l h u fine a) ∙ requote_none l h u (no_tail l h u fine a o d));
          }

      pub plans_quote : {n : ℕ} → r ≡ Some n → PlansPair (rename_in_cons qq) s (Requoted n e)
      plans_quote {n} d =
          record {
            pairs = λ l h u fine a.
                let j = tail l h u fine a o d in
                quotes n (ap (Requoted n) (size.skips (SC l h u) fine a))
                record {
                  l = l;
                  h = h;
                  l₂ = j.k;
                  v = j.y;
                  z = j.z;
                  is = ap (SC l h) j.is;
                  place = j.place;
                  makes = λ m. cons_quote qq m l h u (x l h u fine a) (y l h u fine a) ∙ ap (requote l h) j.is ∙ requote_one l h j.k j.y j.z j.ends;
                };
          }

    module _ (y : Heads s "quote" false) where
      pub plans_qq_none : Looks s qq true → r ≡ None → PlansPair (rename_in_cons qq) s (Kept e)
      plans_qq_none z d =
          record {
            pairs = λ l h u fine a.
                keeps (ap Kept (size.skips (SC l h u) fine a))
                (λ m. cons_qq_none qq m l h u (x l h u fine a) (y l h u fine a) (z l h u fine a) (no_tail l h u fine a o d));
          }

      pub plans_qq : {n : ℕ} → Heads s "qq" true → qq ≡ true → r ≡ Some n → PlansPair (rename_in_cons qq) s (Alone Inside n e)
      plans_qq {n} z is d =
          subst (λ (b : Bool). PlansPair (rename_in_cons b) s (Alone Inside n e)) (sym is)
          record {
            pairs = λ l h u fine a.
                let j = tail l h u fine a o d in
                goes_alone Inside n (ap (Alone Inside n) (size.skips (SC l h u) fine a))
                (lone l h u fine a (rename_in_cons true) Inside j
                (λ m. cons_qq_one true m l h j.k j.y j.z (x l h u fine a) (y l h u fine a) (looks {qq = true} z refl l h u fine a) j.ends));
          }
