-- The bytes of every valid tree are read back as that tree. Assumes nothing.
use mathlib.Core.Path.{◌≡◌, refl, ap, sym, ◌∙◌}
use mathlib.Core.List.{List, [], ◌∷◌, flatten, append-nil}
use Rattle.std.specs.Prelude.{Option, None, Some}
use Prim.Native.Nat.{ℕ, zero, suc, ◌+◌, ◌-◌, ◌≤◌}
use native.Mathlib.Omega.{arith}
use Rattle.names.specs.Names.{Bytes, ascii, same}
use Rattle.records.specs.Limits.{level_limit, lambda_limit}
use Rattle.records.specs.Records.{Loc, byte, record_bytes, kind_field, Body, BL, BQ, BV, BC, BM, BF, body_bytes, Bodies, []ᵇ, ◌∷ᵇ◌, bodies_bytes, Tail, no_tail, tail, tail_bytes, Binding, BB, binding_bytes, Bindings, []ᵍ, ◌∷ᵍ◌, bindings_bytes, Helper, HC, HM, HD, HN, HR, helper_bytes, Helpers, []ʰ, ◌∷ʰ◌, helpers_bytes, Form, CF, form_bytes, to_bodies, to_bindings, list_of, to_helpers, bodies_count, bindings_count, helpers_count}
use Rattle.records.specs.declared.Kind.{Kind}
use Rattle.records.specs.declared.Kind.TheVariants.{Assign}
use Rattle.records.proofs.Depth.{levels_split}
use Rattle.records.proofs.LeastMods.{least_none, form_least}
use Rattle.records.proofs.FirstMods.{behind, first_in, body_first, bodies_first, tail_first, binding_first, bindings_first, helper_first, helpers_first, form_first}
use Rattle.records.specs.Depth.{depth, bodies_depth, tail_depth, binding_depth, bindings_depth, helper_depth, helpers_depth, form_depth}
use Rattle.records.specs.Valid.{BodyFields, BodiesFields, TailFields, BindingFields, BindingsFields, HelperFields, HelpersFields, FormFields, lambda_depth, bodies_lambda_depth, tail_lambda_depth, binding_lambda_depth, bindings_lambda_depth, helper_lambda_depth, helpers_lambda_depth, form_lambda_depth, ValidBody, ValidHelper, ValidForm, ValidAssign, IsLet, NoMod, BodiesNoMod, TailNoMod, BindingNoMod, BindingsNoMod, HelperNoMod, HelpersNoMod, FormNoMod}
use Rattle.records.specs.Read.{Zone, Plain, InMod, Readers, binding_zone, binding, let_of, tail_after, call_tail, body_rule, helper_rule, form_rule, rules, readers, assign_of, whole, left_over, read_whole, from_first}
use Rattle.records.specs.ReadFields.{malformed, Reader, ◌>>◌, times, choose}
use Rattle.records.proofs.ReadBack.{Reads, reads_bind, reads_both, reads_check, reads_count, reads_deeper, reads_hint, reads_in_bindings, reads_in_lambda, reads_in_zone, reads_keyword, reads_kind, reads_last, reads_loc, reads_marked, reads_more, reads_name, reads_next, reads_none, reads_noted, reads_pattern_of, reads_quiet, reads_raw, reads_ret, reads_sexp, reads_then, reads_up_to}

-- the lists of a record, as lists
bodies_list : Bodies → List Body
bodies_list []ᵇ = []
bodies_list (b ∷ᵇ bs) = b ∷ bodies_list bs

bodies_same : (bs : Bodies) → to_bodies (bodies_list bs) ≡ bs
unfolding to_bodies bodies_list
bodies_same []ᵇ = refl
bodies_same (b ∷ᵇ bs) = ap (λ (x : Bodies). b ∷ᵇ x) (bodies_same bs)

pub bindings_same : (bs : Bindings) → to_bindings (list_of bs) ≡ bs
unfolding to_bindings list_of
bindings_same []ᵍ = refl
bindings_same (b ∷ᵍ bs) = ap (λ (x : Bindings). b ∷ᵍ x) (bindings_same bs)

helpers_list : Helpers → List Helper
helpers_list []ʰ = []
helpers_list (h ∷ʰ hs) = h ∷ helpers_list hs

helpers_same : (hs : Helpers) → to_helpers (helpers_list hs) ≡ hs
unfolding to_helpers helpers_list
helpers_same []ʰ = refl
helpers_same (h ∷ʰ hs) = ap (λ (x : Helpers). h ∷ʰ x) (helpers_same hs)

-- every record takes a level
body_level : (b : Body) → 1 ≤ depth b
unfolding depth
body_level (BL k l w h bs b) = omega (arith, levels_split k (bindings_count bs))
body_level (BQ s) = omega arith
body_level (BV s) = omega arith
body_level (BC l bs t) = omega arith
body_level (BM l f) = omega arith
body_level (BF l w ca c a b) = omega arith

helper_level : (h : Helper) → 1 ≤ helper_depth h
unfolding helper_depth
helper_level (HC l n r b) = omega arith
helper_level (HM l n r a f) = omega arith
helper_level (HD l i n r a b) = omega arith
helper_level (HN l n r hs) = omega arith
helper_level (HR l n r) = omega arith

form_level : (f : Form) → 1 ≤ form_depth f
unfolding form_depth
form_level (CF l r a hs b) = omega arith

-- r reads the bytes of every tree back that the context has room for, if that is at most d levels
pub record Complete (d : ℕ) (r : Readers) : Type 0 where
  pub body : (n k : ℕ) (z : Zone) (b : Body) → n ≤ d → BodyFields b → depth b ≤ n → lambda_depth b ≤ k
      → Reads (NoMod z b) (body_first z b) n k z r.body (body_bytes b) b
  pub helper : (n k : ℕ) (z : Zone) (h : Helper) → n ≤ d → HelperFields h → helper_depth h ≤ n → helper_lambda_depth h ≤ k
      → Reads (HelperNoMod z h) (helper_first z h) n k z r.helper (helper_bytes h) h
  pub form : (n k : ℕ) (z : Zone) (f : Form) → n ≤ d → FormFields f → form_depth f ≤ n → form_lambda_depth f ≤ k
      → Reads (FormNoMod z f) (form_first z f) n k z r.form (form_bytes f) f

module _ (r : Readers) (d : ℕ) (e : Complete d r) where
  reads_bodies : (n k : ℕ) (z : Zone) (bs : Bodies) → n ≤ d → BodiesFields bs → bodies_depth bs ≤ n → bodies_lambda_depth bs ≤ k
      → Reads (BodiesNoMod z bs) (bodies_first z bs) n k z (times (bodies_count bs) r.body) (bodies_bytes bs) (bodies_list bs)
  unfolding BodiesFields bodies_depth bodies_lambda_depth BodiesNoMod bodies_first bodies_count bodies_bytes bodies_list
  reads_bodies n k z []ᵇ h v p q = reads_none _
  reads_bodies n k z (b ∷ᵇ bs) h v p q = reads_more _ _ (e.body n k z b h v.0 (omega arith) (omega arith)) (reads_bodies n k z bs h v.1 (omega arith) (omega arith))

  reads_helpers : (n k : ℕ) (z : Zone) (hs : Helpers) → n ≤ d → HelpersFields hs → helpers_depth hs ≤ n → helpers_lambda_depth hs ≤ k
      → Reads (HelpersNoMod z hs) (helpers_first z hs) n k z (times (helpers_count hs) r.helper) (helpers_bytes hs) (helpers_list hs)
  unfolding HelpersFields helpers_depth helpers_lambda_depth HelpersNoMod helpers_first helpers_count helpers_bytes helpers_list
  reads_helpers n k z []ʰ h v p q = reads_none _
  reads_helpers n k z (x ∷ʰ hs) h v p q = reads_more _ _ (e.helper n k z x h v.0 (omega arith) (omega arith)) (reads_helpers n k z hs h v.1 (omega arith) (omega arith))

  pub reads_binding : (n k : ℕ) (z : Zone) (b : Binding) → n ≤ d → BindingFields b → binding_depth b ≤ n → binding_lambda_depth b ≤ k
      → Reads (BindingNoMod z b) (binding_first z b) n k z (binding r.body) (binding_bytes b) b
  unfolding BindingFields binding_depth binding_lambda_depth BindingNoMod binding_first binding binding_bytes record_bytes flatten choose same ascii
  reads_binding n k z (BB l nl x b) h v p q = reads_marked _ "BB" refl
      (reads_bind _ (reads_loc v.0) (reads_bind _ (reads_loc v.1) (reads_bind _ (reads_pattern_of x v.2) (reads_last _ refl (e.body n k z b h v.3 p q)))))

  reads_bindings : (n k : ℕ) (z : Zone) (bs : Bindings) → n ≤ d → BindingsFields bs → bindings_depth bs ≤ n → bindings_lambda_depth bs ≤ k
      → Reads (BindingsNoMod z bs) (bindings_first z bs) n k z (times (bindings_count bs) (binding r.body)) (bindings_bytes bs) (list_of bs)
  unfolding BindingsFields bindings_depth bindings_lambda_depth BindingsNoMod bindings_first bindings_count bindings_bytes list_of
  reads_bindings n k z []ᵍ h v p q = reads_none _
  reads_bindings n k z (b ∷ᵍ bs) h v p q = reads_more _ _ (reads_binding n k z b h v.0 (omega arith) (omega arith)) (reads_bindings n k z bs h v.1 (omega arith) (omega arith))

  reads_call_tail : (n k : ℕ) (z : Zone) (t : Tail) → n ≤ d → TailFields t → tail_depth t ≤ n → tail_lambda_depth t ≤ k
      → Reads (TailNoMod z t) (tail_first z t) n k z (call_tail r.body) (tail_bytes t) t
  unfolding TailFields tail_depth tail_lambda_depth TailNoMod tail_first call_tail tail_after tail_bytes byte
  reads_call_tail n k z no_tail h v p q = reads_bind _ (reads_up_to 1 (omega arith)) (reads_ret refl)
  reads_call_tail n k z (tail b) h v p q = reads_bind _ (reads_up_to 1 (omega arith)) (reads_then tail refl (e.body n k z b h v p q))

  -- a let after its kind byte
  reads_let_of : (n k : ℕ) (z : Zone) (x : Kind) (l : Loc) (w h : Bytes) (bs : Bindings) (b : Body)
      → n ≤ d → BodyFields (BL x l w h bs b) → depth (BL x l w h bs b) ≤ 1 + n → lambda_depth (BL x l w h bs b) ≤ k
      → Reads (NoMod z (BL x l w h bs b))
      (first_in ((l, None) ∷ (w, None) ∷ (h, None) ∷ (byte (bindings_count bs), None) ∷ (bindings_bytes bs, bindings_first (binding_zone x z) bs)
      ∷ (body_bytes b, body_first z b) ∷ []))
      n k z (let_of r x) (flatten (l ∷ w ∷ h ∷ byte (bindings_count bs) ∷ bindings_bytes bs ∷ body_bytes b ∷ [])) (BL x l w h bs b)
  unfolding BodyFields depth lambda_depth NoMod let_of flatten
  reads_let_of n k z x l w h bs b c v p q =
      let t = levels_split x (bindings_count bs) in
      reads_bind _ (reads_loc v.0) (reads_bind _ (reads_keyword v.1) (reads_bind _ (reads_hint v.2) (reads_bind _ (reads_count v.3) (reads_deeper _ (omega arith)
      (reads_both _ (reads_in_bindings x (reads_bindings _ k _ bs (omega arith) v.4 (omega arith) (omega arith)))
      (reads_last _ (ap (λ (y : Bindings). BL x l w h y b) (bindings_same bs)) (e.body _ k z b (omega arith) v.5 (omega arith) (omega arith))))))))

  reads_body_rule : (n k : ℕ) (z : Zone) (b : Body) → n ≤ suc d → BodyFields b → depth b ≤ n → lambda_depth b ≤ k
      → Reads (NoMod z b) (body_first z b) n k z (body_rule r) (body_bytes b) b
  unfolding BodyFields depth lambda_depth NoMod body_first body_rule body_bytes record_bytes flatten choose same ascii ◌>>◌
  reads_body_rule n k z (BL x l w h bs b) c v p q = let t = body_level (BL x l w h bs b) in
      reads_marked _ "BL" refl (reads_deeper 1 (omega arith) (reads_kind (let_of r) x (reads_let_of (n - 1) k z x l w h bs b (omega arith) v (omega arith) q)))
  reads_body_rule n k z (BQ s) c v p q = reads_marked _ "BQ" refl (reads_deeper 1 p (reads_last _ refl (reads_sexp v)))
  reads_body_rule n k z (BV s) c v p q = reads_marked _ "BV" refl (reads_deeper 1 p (reads_last _ refl (reads_sexp v)))
  reads_body_rule n k z (BC l bs t) c v p q = reads_marked _ "BC" refl (reads_deeper 1 (omega arith)
      (reads_bind _ (reads_loc v.0) (reads_bind _ (reads_count v.1) (reads_both _ (reads_bodies (n - 1) k z bs (omega arith) v.2 (omega arith) (omega arith))
      (reads_last _ (ap (λ (y : Bodies). BC l y t) (bodies_same bs)) (reads_call_tail (n - 1) k z t (omega arith) v.3 (omega arith) (omega arith)))))))
  reads_body_rule n k z (BM l f) c v p q = reads_noted _ "BM" _ refl refl (omega arith)
      (reads_bind _ (reads_loc v.0) (reads_last _ refl (reads_in_zone
      (reads_quiet (least_none (form_first InMod f) (form_least InMod f) (λ q k. k)) (e.form (n - 1) k InMod f (omega arith) v.1 (omega arith) q)))))
  reads_body_rule n k z (BF l w ca x a b) c v p q = reads_marked _ "BF" refl (reads_deeper 1 (omega arith) (reads_in_lambda (omega arith)
      (reads_bind _ (reads_loc v.0) (reads_bind _ (reads_keyword v.1) (reads_bind _ (reads_sexp v.2) (reads_both _ (e.body (n - 1) (k - 1) z x (omega arith) v.3 (omega arith) (omega arith))
      (reads_bind _ (reads_sexp v.4) (reads_last _ refl (e.body (n - 1) (k - 1) z b (omega arith) v.5 (omega arith) (omega arith))))))))))

  reads_helper_rule : (n k : ℕ) (z : Zone) (h : Helper) → n ≤ suc d → HelperFields h → helper_depth h ≤ n → helper_lambda_depth h ≤ k
      → Reads (HelperNoMod z h) (helper_first z h) n k z (helper_rule r) (helper_bytes h) h
  unfolding HelperFields helper_depth helper_lambda_depth HelperNoMod helper_first helper_rule helper_bytes record_bytes flatten choose same ascii
  reads_helper_rule n k z (HC l m x b) c v p q = reads_marked _ "HC" refl (reads_deeper 1 (omega arith)
      (reads_bind _ (reads_loc v.0) (reads_bind _ (reads_name v.1) (reads_bind _ (reads_raw v.2) (reads_last _ refl (e.body (n - 1) k z b (omega arith) v.3 (omega arith) q))))))
  reads_helper_rule n k z (HM l m x a f) c v p q = reads_marked _ "HM" refl (reads_deeper 1 (omega arith)
      (reads_bind _ (reads_loc v.0) (reads_bind _ (reads_name v.1) (reads_bind _ (reads_raw v.2) (reads_bind _ (reads_sexp v.3) (reads_last _ refl (e.form (n - 1) k z f (omega arith) v.4 (omega arith) q)))))))
  reads_helper_rule n k z (HD l i m x a b) c v p q = reads_marked _ "HD" refl (reads_deeper 1 (omega arith)
      (reads_bind _ (reads_loc v.0) (reads_bind _ (reads_up_to 1 v.1) (reads_bind _ (reads_name v.2) (reads_bind _ (reads_raw v.3) (reads_bind _ (reads_sexp v.4)
      (reads_last _ refl (e.body (n - 1) k z b (omega arith) v.5 (omega arith) q))))))))
  reads_helper_rule n k z (HN l m x hs) c v p q = reads_marked _ "HN" refl (reads_deeper 1 (omega arith)
      (reads_bind _ (reads_loc v.0) (reads_bind _ (reads_name v.1) (reads_bind _ (reads_raw v.2) (reads_bind _ (reads_count v.3)
      (reads_last _ (ap (λ (y : Helpers). HN l m x y) (helpers_same hs)) (reads_helpers (n - 1) k z hs (omega arith) v.4 (omega arith) q)))))))
  reads_helper_rule n k z (HR l m x) c v p q = reads_marked _ "HR" refl (reads_deeper 1 p (reads_bind _ (reads_loc v.0) (reads_bind _ (reads_name v.1) (reads_last _ refl (reads_raw v.2)))))

  reads_form_rule : (n k : ℕ) (z : Zone) (f : Form) → n ≤ suc d → FormFields f → form_depth f ≤ n → form_lambda_depth f ≤ k
      → Reads (FormNoMod z f) (form_first z f) n k z (form_rule r) (form_bytes f) f
  unfolding FormFields form_depth form_lambda_depth FormNoMod form_first form_rule form_bytes record_bytes flatten choose same ascii
  reads_form_rule n k z (CF l x a hs b) c v p q = reads_marked _ "CF" refl (reads_deeper 1 (omega arith)
      (reads_bind _ (reads_loc v.0) (reads_bind _ (reads_raw v.1) (reads_bind _ (reads_sexp v.2) (reads_bind _ (reads_count v.3)
      (reads_both _ (reads_helpers (n - 1) k z hs (omega arith) v.4 (omega arith) (omega arith))
      (reads_last _ (ap (λ (y : Helpers). CF l x a y b) (helpers_same hs)) (e.body (n - 1) k z b (omega arith) v.5 (omega arith) (omega arith)))))))))

  complete_rules : Complete (suc d) (rules r)
  unfolding rules
  complete_rules = record { body = reads_body_rule; helper = reads_helper_rule; form = reads_form_rule }

pub complete_readers : (fuel : ℕ) → Complete (suc fuel) (readers fuel)
unfolding readers
complete_readers zero = complete_rules _ 0 (record {
  body = λ n k z b c v p q. absurd (omega (arith, body_level b));
  helper = λ n k z h c v p q. absurd (omega (arith, helper_level h));
  form = λ n k z f c v p q. absurd (omega (arith, form_level f));
})
complete_readers (suc fuel) = complete_rules _ (suc fuel) (complete_readers fuel)

reads_assign : (z : Zone) (l : Loc) (w h : Bytes) (bs : Bindings) (b : Body) → ValidBody (BL Assign l w h bs b)
    → Reads (NoMod z (BL Assign l w h bs b)) (body_first z (BL Assign l w h bs b)) level_limit lambda_limit z assign_of (body_bytes (BL Assign l w h bs b)) (BL Assign l w h bs b)
unfolding assign_of body_bytes body_first record_bytes flatten choose same ascii kind_field
reads_assign z l w h bs b v = reads_marked _ "BL" refl (reads_deeper 1 (omega arith) (reads_bind _ (reads_next 2) (reads_check malformed refl
    (reads_let_of _ level_limit (complete_readers (level_limit - 1)) (level_limit - 1) lambda_limit z Assign l w h bs b (omega arith) v.0 (omega arith) v.2))))

pub reads_assign_of : (z : Zone) (b : Body) → ValidAssign b → Reads (NoMod z b) (body_first z b) level_limit lambda_limit z assign_of (body_bytes b) b
unfolding IsLet
reads_assign_of z (BL x l w h bs b) (a, v) = rw a (reads_assign z l w h bs b (rw a at v))
reads_assign_of z (BQ s) (a, v) = absurd a
reads_assign_of z (BV s) (a, v) = absurd a
reads_assign_of z (BC l bs t) (a, v) = absurd a
reads_assign_of z (BM l f) (a, v) = absurd a
reads_assign_of z (BF l w ca c x b) (a, v) = absurd a

-- bs is read whole as a, and x is the first BM noted; none is noted exactly if Q
pub record WholeRead {A : Type 0} (Q : Type 0) (x : Option ℕ) (m : Reader A) (bs : Bytes) (a : A) : Type 0 where
  pub whole_read : read_whole m bs ≡ whole a x
  pub clear : x ≡ None → Q
  pub stays : Q → x ≡ None

-- from the first byte on an offset is a place
behind_zero : (x : Option ℕ) → behind 0 x ≡ x
behind_zero None = refl
behind_zero (Some p) = let e : 0 + p ≡ p = omega arith in ap Some e

pub reads_whole_of : {A : Type 0} {Q : Type 0} {x : Option ℕ} {m : Reader A} {bs : Bytes} {a : A} → Reads Q x level_limit lambda_limit Plain m bs a
    → WholeRead Q x m bs a
unfolding read_whole left_over
reads_whole_of {x = x} {m} {bs} {a} s =
    let u = s.reads 0 (from_first bs) [] (sym (append-nil bs)) in
    record { whole_read = rw (u.ran, u.left, read_whole) (ap (whole a) (u.notes ∙ behind_zero x)); clear = s.clear; stays = s.stays }

pub form_complete : (t : Form) → ValidForm t → WholeRead (FormNoMod Plain t) (form_first Plain t) (readers level_limit).form (form_bytes t) t
form_complete t v = reads_whole_of ((complete_readers level_limit).form level_limit lambda_limit Plain t (omega arith) v.0 v.1 v.2)

pub helper_complete : (t : Helper) → ValidHelper t → WholeRead (HelperNoMod Plain t) (helper_first Plain t) (readers level_limit).helper (helper_bytes t) t
helper_complete t v = reads_whole_of ((complete_readers level_limit).helper level_limit lambda_limit Plain t (omega arith) v.0 v.1 v.2)

pub assign_complete : (t : Body) → ValidAssign t → WholeRead (NoMod Plain t) (body_first Plain t) assign_of (body_bytes t) t
assign_complete t v = reads_whole_of (reads_assign_of Plain t v)
