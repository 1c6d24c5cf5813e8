-- B, H and CF records by their marks, in the form in which the code meets them. Assumes nothing.
use mathlib.Core.Path.{◌≡◌, refl, ap, sym, ◌∙◌, subst}
use mathlib.Core.List.{List, [], ◌∷◌, map}
use mathlib.Core.Logic.{◌⊎◌, inl, inr}
use Prim.Native.Nat.{ℕ, zero, suc, ◌≤◌, ◌<◌}
use Prim.Native.String.{String}
use native.Mathlib.Omega.{arith}
use lib.ListN.{length, get_or, take}
use Rattle.names.specs.Names.{Bytes, ascii, same}
use Rattle.std.specs.Prelude.{Option, Result, Ok, Err, IsErrAnd}
use Rattle.std.specs.Borrow.{Bor}
use Rattle.names.specs.Refusals.{place_at, refusing}
use Rattle.names.specs.declared.Reason.TheVariants.{NotOneRecord, PastLimit}
use Rattle.names.specs.declared.Refusal.{Refusal}
use Rattle.records.specs.declared.Family.{Family}
use Rattle.std.specs.declared.option.Option.TheVariants.{Some, None}
use Rattle.records.specs.declared.BodyMark.{BodyMark}
use Rattle.records.specs.declared.BodyMark.TheVariants.{Quoted, Value}
use Rattle.records.specs.declared.HelperMark.{HelperMark}
use Rattle.records.specs.declared.Family.TheVariants.{Body as a_Body, Binding as a_binding, Helper as a_helper, Form as a_form}
use Rattle.records.specs.declared.Scan.{Scan}
use Rattle.records.specs.Records.{mark_width, Body, BQ, BV, Helper, Form, Sexp, Binding}
use Rattle.records.specs.Read.{Context, Readers, quoted_after, body_kinds, helper_kinds, body_rule, helper_rule, form_rule, form_after, binding, binding_after, rules, readers, sexp, sexp_at, let_after, call_after, mod_after, constant_after, macro_after, function_after, namespace_after, reference_after}
use Rattle.records.specs.ReadFields.{Reader, refuse, over_limit, bytes, deeper, choose, marked}
use Rattle.records.specs.Scan.{mark_index, body_marks, body_mark_at, body_mark_of, helper_marks, helper_mark_at, helper_mark_of, reader_of, body_after, helper_after, below, starts, Comes, Reads, Goes, lambda_within}
use Rattle.records.proofs.Scans.{comes_of, comes_last, done_at}
use Rattle.records.proofs.Chains.{goes_of}
use Rattle.records.proofs.RecordLaws.{index_mark, index_none, comes_marked, comes_unmarked, comes_unread, index_bound}
use Rattle.records.proofs.Marks.{body_placed}
use Rattle.records.proofs.ContextLaws.{comes_deeper, comes_shallow}
use Rattle.records.specs.Limits.{cons_limit}
use mathlib.Core.Bool.{true, false}
use Rattle.names.proofs.Same.{same→eq}

-- the readers one level down
under : ℕ → Readers
under zero = record { body = refuse over_limit; helper = refuse over_limit; form = refuse over_limit }
under (suc fuel) = readers fuel

body_under : (fuel : ℕ) → (readers fuel).body ≡ marked (body_kinds (under fuel))
unfolding readers rules body_rule under
body_under zero = refl
body_under (suc fuel) = refl

helper_under : (fuel : ℕ) → (readers fuel).helper ≡ marked (helper_kinds (under fuel))
unfolding readers rules helper_rule under
helper_under zero = refl
helper_under (suc fuel) = refl

form_under : (fuel : ℕ) → (readers fuel).form ≡ marked (("CF", deeper 1 (form_after (under fuel))) ∷ [])
unfolding readers rules form_rule under
form_under zero = refl
form_under (suc fuel) = refl

-- no mark stands there
pub goes_unread : (f : Family) {x : Context} {s : Bor Bytes} {first : Option ℕ} {e : Refusal} {r : Result Scan Refusal} → Reads (bytes mark_width) x.mark (starts s first) (Err e) → IsErrAnd r (λ y. y ≡ e) → Goes (reader_of f) x (starts s first) r
unfolding binding
goes_unread a_Body {x} {s} {first} {e} {r} g z = goes_of (λ fuel l. subst (λ (v : Reader Body). Comes v x (starts s first) r) (sym (body_under fuel)) (comes_unread _ (comes_of g x refl) z))
goes_unread a_binding {x} g z = goes_of (λ fuel l. comes_unread _ (comes_of g x refl) z)
goes_unread a_helper {x} {s} {first} {e} {r} g z = goes_of (λ fuel l. subst (λ (v : Reader Helper). Comes v x (starts s first) r) (sym (helper_under fuel)) (comes_unread _ (comes_of g x refl) z))
goes_unread a_form {x} {s} {first} {e} {r} g z = goes_of (λ fuel l. subst (λ (v : Reader Form). Comes v x (starts s first) r) (sym (form_under fuel)) (comes_unread _ (comes_of g x refl) z))

-- a record of some kind, of which es are the alternatives with so much fuel
module _ {A : Type 0} (m : ℕ → Reader A) (es : Readers → List (String × Reader A)) (is : (fuel : ℕ) → m fuel ≡ marked (es (under fuel)))
    {x : Context} {s : Bor Bytes} {first : Option ℕ} {d : Scan} (g : Reads (bytes mark_width) x.mark (starts s first) (Ok d)) where
  -- the mark is w, with which n stands, one level down
  kind_below : {r : Result Scan Refusal} (w : String) (n : Readers → Reader A) → ((q : Readers) → choose (ascii w) (es q) ≡ deeper 1 (n q)) → take mark_width s.now ≡ ascii w → 1 ≤ x.room
      → Goes (λ fuel. (A, n (readers fuel))) (below 1 x) d r → Goes (λ fuel. (A, m fuel)) x (starts s first) r
  unfolding under
  kind_below {r} w n e t h k = goes_of go
    where
      go : (fuel : ℕ) → x.room ≤ fuel → Comes (m fuel) x (starts s first) r
      go zero l = absurd (omega arith)
      go (suc fuel) l = subst (λ (v : Reader A). Comes v x (starts s first) r) (sym (is (suc fuel)))
          (comes_marked (es (readers fuel)) (comes_of g x refl) w _ (e (readers fuel)) t (comes_deeper 1 h (k.enough fuel (omega arith))))

  -- no level is left
  kind_deep : {f : Refusal} (w : String) (n : Readers → Reader A) → ((q : Readers) → choose (ascii w) (es q) ≡ deeper 1 (n q)) → take mark_width s.now ≡ ascii w → x.room ≡ 0 → f ≡ refusing PastLimit (place_at x.mark)
      → Goes (λ fuel. (A, m fuel)) x (starts s first) (Err f)
  kind_deep {f} w n e t h z = goes_of (λ fuel l. subst (λ (v : Reader A). Comes v x (starts s first) (Err f)) (sym (is fuel))
      (comes_marked (es (under fuel)) (comes_of g x refl) w _ (e (under fuel)) t (comes_shallow (n (under fuel)) z 1 (omega arith))))

  -- the mark is none of them
  kind_none : {f : Refusal} → ((q : Readers) → mark_index (take mark_width s.now) (map (λ e. e.0) (es q)) ≡ length (es q)) → f ≡ refusing NotOneRecord (place_at x.mark) → Goes (λ fuel. (A, m fuel)) x (starts s first) (Err f)
  kind_none {f} h z = goes_of (λ fuel l. subst (λ (v : Reader A). Comes v x (starts s first) (Err f)) (sym (is fuel))
      (comes_unmarked (es (under fuel)) (comes_of g x refl) (index_none (take mark_width s.now) (es (under fuel)) (h (under fuel))) z))

-- the B records
module _ {x : Context} {s : Bor Bytes} {first : Option ℕ} {d : Scan} (g : Reads (bytes mark_width) x.mark (starts s first) (Ok d)) where
  pub body_kind : {r : Result Scan Refusal} (i : ℕ) (n : Readers → Reader Body) → ((q : Readers) → choose (ascii (get_or body_marks i "")) (body_kinds q) ≡ deeper 1 (n q))
      → i ≡ mark_index (take mark_width s.now) body_marks → i < 6 → (x.room ≡ 0 → ⊥) → Goes (body_after n) (below 1 x) d r → Goes (reader_of a_Body) x (starts s first) r
  body_kind i n e q l h k = kind_below (λ fuel. (readers fuel).body) body_kinds body_under g (get_or body_marks i "") n e (index_mark _ body_marks i (sym q) l) (omega arith) k

  -- one that holds an S record, a BQ or a BV
  pub body_sexp : {r : Result Scan Refusal} → let k = mark_index (take mark_width s.now) body_marks in (Some Quoted ≡ body_mark_at k) ⊎ (Some Value ≡ body_mark_at k)
      → (x.room ≡ 0 → ⊥) → Reads (sexp_at cons_limit) x.mark d r → Goes (reader_of a_Body) x (starts s first) r
  unfolding sexp choose same ascii
  body_sexp {r} e h t = go e
    where
      quoted : (k : Sexp → Body) → Goes (body_after (λ _. quoted_after k)) (below 1 x) d r
      quoted k = goes_of (λ fuel u. comes_last (λ v. done_at _) (comes_of t (below 1 x) refl))

      go : let k = mark_index (take mark_width s.now) body_marks in (Some Quoted ≡ body_mark_at k) ⊎ (Some Value ≡ body_mark_at k) → Goes (reader_of a_Body) x (starts s first) r
      go (inl q) = body_kind 1 (λ _. quoted_after BQ) (λ _. refl) (body_placed refl q) (omega arith) h (quoted BQ)
      go (inr q) = body_kind 2 (λ _. quoted_after BV) (λ _. refl) (body_placed refl q) (omega arith) h (quoted BV)

  pub body_unknown : {f : Refusal} → 6 ≡ mark_index (take mark_width s.now) body_marks → f ≡ refusing NotOneRecord (place_at x.mark) → Goes (reader_of a_Body) x (starts s first) (Err f)
  body_unknown q z = kind_none (λ fuel. (readers fuel).body) body_kinds body_under g (λ _. sym q) z

  pub body_deep : {m : BodyMark} {f : Refusal} → x.room ≡ 0 → Some m ≡ body_mark_of (take mark_width s.now) → f ≡ refusing PastLimit (place_at x.mark) → Goes (reader_of a_Body) x (starts s first) (Err f)
  unfolding choose same ascii
  body_deep {m} {f} h q z = at (mark_index (take mark_width s.now) body_marks) refl (index_bound (take mark_width s.now) body_marks)
    where
      deep : (i : ℕ) (n : Readers → Reader Body) → ((q : Readers) → choose (ascii (get_or body_marks i "")) (body_kinds q) ≡ deeper 1 (n q)) → i ≡ mark_index (take mark_width s.now) body_marks → i < 6
          → Goes (reader_of a_Body) x (starts s first) (Err f)
      deep i n e w l = kind_deep (λ fuel. (readers fuel).body) body_kinds body_under g (get_or body_marks i "") n e (index_mark _ body_marks i (sym w) l) h z

      at : (i : ℕ) → i ≡ mark_index (take mark_width s.now) body_marks → i ≤ 6 → Goes (reader_of a_Body) x (starts s first) (Err f)
      at zero w l = deep 0 let_after (λ _. refl) w (omega arith)
      at (suc zero) w l = deep 1 (λ _. quoted_after BQ) (λ _. refl) w (omega arith)
      at (suc (suc zero)) w l = deep 2 (λ _. quoted_after BV) (λ _. refl) w (omega arith)
      at (suc (suc (suc zero))) w l = deep 3 call_after (λ _. refl) w (omega arith)
      at (suc (suc (suc (suc zero)))) w l = deep 4 mod_after (λ _. refl) w (omega arith)
      at (suc (suc (suc (suc (suc zero))))) w l = deep 5 lambda_within (λ _. refl) w (omega arith)
      at (suc (suc (suc (suc (suc (suc i)))))) w l = let e : Some m ≡ None = q ∙ ap body_mark_at (sym w) in cc

-- the H records
module _ {x : Context} {s : Bor Bytes} {first : Option ℕ} {d : Scan} (g : Reads (bytes mark_width) x.mark (starts s first) (Ok d)) where
  pub helper_kind : {r : Result Scan Refusal} (i : ℕ) (n : Readers → Reader Helper) → ((q : Readers) → choose (ascii (get_or helper_marks i "")) (helper_kinds q) ≡ deeper 1 (n q))
      → i ≡ mark_index (take mark_width s.now) helper_marks → i < 5 → (x.room ≡ 0 → ⊥) → Goes (helper_after n) (below 1 x) d r → Goes (reader_of a_helper) x (starts s first) r
  helper_kind i n e q l h k = kind_below (λ fuel. (readers fuel).helper) helper_kinds helper_under g (get_or helper_marks i "") n e (index_mark _ helper_marks i (sym q) l) (omega arith) k

  pub helper_unknown : {f : Refusal} → 5 ≡ mark_index (take mark_width s.now) helper_marks → f ≡ refusing NotOneRecord (place_at x.mark) → Goes (reader_of a_helper) x (starts s first) (Err f)
  helper_unknown q z = kind_none (λ fuel. (readers fuel).helper) helper_kinds helper_under g (λ _. sym q) z

  pub helper_deep : {m : HelperMark} {f : Refusal} → x.room ≡ 0 → Some m ≡ helper_mark_of (take mark_width s.now) → f ≡ refusing PastLimit (place_at x.mark) → Goes (reader_of a_helper) x (starts s first) (Err f)
  unfolding choose same ascii
  helper_deep {m} {f} h q z = at (mark_index (take mark_width s.now) helper_marks) refl (index_bound (take mark_width s.now) helper_marks)
    where
      deep : (i : ℕ) (n : Readers → Reader Helper) → ((q : Readers) → choose (ascii (get_or helper_marks i "")) (helper_kinds q) ≡ deeper 1 (n q)) → i ≡ mark_index (take mark_width s.now) helper_marks → i < 5
          → Goes (reader_of a_helper) x (starts s first) (Err f)
      deep i n e w l = kind_deep (λ fuel. (readers fuel).helper) helper_kinds helper_under g (get_or helper_marks i "") n e (index_mark _ helper_marks i (sym w) l) h z

      at : (i : ℕ) → i ≡ mark_index (take mark_width s.now) helper_marks → i ≤ 5 → Goes (reader_of a_helper) x (starts s first) (Err f)
      at zero w l = deep 0 constant_after (λ _. refl) w (omega arith)
      at (suc zero) w l = deep 1 macro_after (λ _. refl) w (omega arith)
      at (suc (suc zero)) w l = deep 2 function_after (λ _. refl) w (omega arith)
      at (suc (suc (suc zero))) w l = deep 3 namespace_after (λ _. refl) w (omega arith)
      at (suc (suc (suc (suc zero)))) w l = deep 4 (λ _. reference_after) (λ _. refl) w (omega arith)
      at (suc (suc (suc (suc (suc i))))) w l = let e : Some m ≡ None = q ∙ ap helper_mark_at (sym w) in cc

form_kinds : Readers → List (String × Reader Form)
form_kinds q = ("CF", deeper 1 (form_after q)) ∷ []

word_there : (x : Bytes) (w : String) → same x (ascii w) ≡ true → x ≡ ascii w
word_there x w t = same→eq x (ascii w) (rw t tt)

-- a CF, and a BB
module _ {x : Context} {s : Bor Bytes} {first : Option ℕ} {d : Scan} (g : Reads (bytes mark_width) x.mark (starts s first) (Ok d)) where
  pub form_kind : {r : Result Scan Refusal} → same (take mark_width s.now) (ascii "CF") ≡ true → (x.room ≡ 0 → ⊥) → Goes (λ fuel. (Form, form_after (readers fuel))) (below 1 x) d r → Goes (reader_of a_form) x (starts s first) r
  unfolding choose same ascii form_kinds
  form_kind t h k = kind_below (λ fuel. (readers fuel).form) form_kinds form_under g "CF" form_after (λ _. refl) (word_there _ "CF" t) (omega arith) k

  pub form_deep : {f : Refusal} → x.room ≡ 0 → same (take mark_width s.now) (ascii "CF") ≡ true → f ≡ refusing PastLimit (place_at x.mark) → Goes (reader_of a_form) x (starts s first) (Err f)
  unfolding choose same ascii form_kinds
  form_deep h t z = kind_deep (λ fuel. (readers fuel).form) form_kinds form_under g "CF" form_after (λ _. refl) (word_there _ "CF" t) h z

  pub form_unknown : {f : Refusal} → same (take mark_width s.now) (ascii "CF") ≡ false → f ≡ refusing NotOneRecord (place_at x.mark) → Goes (reader_of a_form) x (starts s first) (Err f)
  unfolding form_kinds mark_index
  form_unknown t z = kind_none (λ fuel. (readers fuel).form) form_kinds form_under g (λ _. rw (t, mark_index)) z

  pub binding_kind : {r : Result Scan Refusal} → same (take mark_width s.now) (ascii "BB") ≡ true → Goes (λ fuel. (Binding, binding_after (readers fuel).body)) x d r → Goes (reader_of a_binding) x (starts s first) r
  unfolding choose same ascii binding
  binding_kind t k = goes_of (λ fuel l. comes_marked _ (comes_of g x refl) "BB" _ refl (word_there _ "BB" t) (k.enough fuel l))

  pub binding_unknown : {f : Refusal} → same (take mark_width s.now) (ascii "BB") ≡ false → f ≡ refusing NotOneRecord (place_at x.mark) → Goes (reader_of a_binding) x (starts s first) (Err f)
  unfolding choose binding
  binding_unknown t z = goes_of (λ fuel l. comes_unmarked _ (comes_of g x refl) (rw (t, choose)) z)
