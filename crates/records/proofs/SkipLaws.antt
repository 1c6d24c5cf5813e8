-- The length of each kind of record, from the ends of its fields and children. Assumes nothing.
use mathlib.Core.Path.{◌≡◌, refl, sym}
use mathlib.Core.Logic.{◌⊎◌, inl, inr}
use mathlib.Core.List.{List, [], ◌∷◌, ◌++◌, append_assoc, flatten}
use Prim.Native.Nat.{ℕ, ◌+◌, ◌≤◌, ◌<◌}
use Prim.Native.String.{String}
use native.Mathlib.Omega.{arith}
use lib.ListN.{length, take, length-append}
use Rattle.names.specs.Names.{Bytes, ascii, name_field}
use Rattle.names.specs.Segments.{At}
use Rattle.names.proofs.Places.{at_left}
use Rattle.records.specs.declared.Family.TheVariants.{Body as a_Body, Binding as a_binding, Helper as a_helper, Form as a_form}
use Rattle.records.specs.declared.TaggedView.{TaggedView}
use Rattle.records.specs.Depth.{depth, tail_depth, binding_depth, helper_depth, form_depth}
use Rattle.records.specs.Lists.{joined}
use Rattle.records.specs.Parts.{Part, family_part, sexp_part, fixed_part, list_part, many_part, tail_part, named_part, name_part, raw_part, keyword_part, hint_part, pattern_part, Skips, Past}
use Rattle.records.specs.Records.{mark_width, loc_width, byte, record_bytes, Loc, kind_field, Sexp, Body, BL, BC, BM, BF, body_bytes, Bodies, Tail, no_tail, tail, tail_bytes, Binding, BB, binding_bytes, Bindings, HC, HM, HD, HN, HR, helper_bytes, Helpers, Form, CF, form_bytes}
use Rattle.records.specs.declared.Kind.{Kind}
use Rattle.records.specs.Scan.{mark_index, body_marks, body_mark_at, helper_marks}
use Rattle.records.specs.declared.BodyMark.TheVariants.{Quoted, Value}
use Rattle.std.specs.declared.option.Option.TheVariants.{Some}
use Rattle.records.specs.Valid.{BodyFields, TailFields, BindingFields, HelperFields, FormFields, lambda_depth, tail_lambda_depth, binding_lambda_depth, helper_lambda_depth, form_lambda_depth}
use Rattle.records.specs.Views.{Closes, SeesTagged, TailAt}
use Rattle.records.proofs.Lists.{Listed, listed_bodies, listed_bindings, listed_helpers}
use Rattle.records.proofs.Marks.{body_placed}
use Rattle.records.proofs.MarkedLaws.{BodyOf, body_by_mark, HelperOf, helper_by_mark}
use Rattle.records.proofs.Parts.{past_then, fixed_past}
use Rattle.records.proofs.Views.{ByteAt, byte_is, byte_length, kind_length, close_mark, close_on, close_step}

-- r is the length of t
abbrev pub Ends : (p : Part) → Bytes → ℕ → p.0 → Type 0
Ends p s r t = p.2 t → At s 0 (p.1 t) → r ≡ length (p.1 t)

-- where the bytes are too few for a mark there is no record
pub skips_short : {p : Part} {s : Bytes} → ((t : p.0) → mark_width ≤ length (p.1 t)) → length s < mark_width → Skips p s (length s)
skips_short h l = record { within = omega arith; skips = λ t v a. absurd (omega (arith, h t, a.fits)) }

-- the length for the mark that was found is the length
module _ {s : Bytes} {k r : ℕ} (w : r ≤ length s) where
  pub body_skips : k ≡ mark_index (take mark_width s) body_marks → BodyOf k (Ends (family_part a_Body) s r) → Skips (family_part a_Body) s r
  body_skips q h = record { within = w; skips = λ t v a. body_by_mark (Ends (family_part a_Body) s r) q h t a v a }

  pub helper_skips : k ≡ mark_index (take mark_width s) helper_marks → HelperOf k (Ends (family_part a_helper) s r) → Skips (family_part a_helper) s r
  helper_skips q h = record { within = w; skips = λ t v a. helper_by_mark (Ends (family_part a_helper) s r) q h t a v a }

-- a count, and that many trees
pub many_past : (p : Part) {s : Bytes} {at n first r : ℕ} → ByteAt s at n → Past (fixed_part 1) s at first → Past (list_part p n) s first r
    → Past (many_part p) s at r
many_past p b x y = record {
  within = y.within;
  onward = omega (arith, x.onward, y.onward);
  past = λ ts v a.
      let n = byte_is b (length ts) (at_left (byte (length ts)) (joined p.1 ts) a) in
      past_then x y (byte (length ts)) ts (byte_length (length ts)) (sym n, v) a;
}

-- a name and R
pub named_past : {s : Bytes} {at raw r : ℕ} → Past name_part s at raw → Past raw_part s raw r → Past named_part s at r
named_past x y = record { within = y.within; onward = omega (arith, x.onward, y.onward); past = λ t v a. past_then x y t.0 t.1 v.0 v.1 a }

-- the tail of a call: none, and a body
module _ {s : Bytes} {at : ℕ} {v : TaggedView} (x : SeesTagged s at v) where
  pub no_tail_past : v.tag ≡ 0 → Past tail_part s at v.next
  unfolding tail_bytes TailAt byte
  no_tail_past z = record { within = x.within; onward = x.past.onward; past = go }
    where
      go : (t : Tail) → tail_part.2 t → At s at (tail_bytes t) → v.next ≡ at + length (tail_bytes t)
      go no_tail f a = x.past.past (0 ∷ []) refl a
      go (tail e) f a = absurd (omega (arith, (x.tail_of (tail e) a).tag))

  pub tail_past : {r : ℕ} → (v.tag ≡ 0 → ⊥) → Past (family_part a_Body) s v.next r → Past tail_part s at r
  unfolding tail_bytes TailAt byte TailFields tail_depth tail_lambda_depth
  tail_past {r} z y = record { within = y.within; onward = omega (arith, x.past.onward, y.onward); past = go }
    where
      go : (t : Tail) → tail_part.2 t → At s at (tail_bytes t) → r ≡ at + length (tail_bytes t)
      go no_tail f a = absurd (z (x.tail_of no_tail a))
      go (tail e) f a = past_then x.past y (1 ∷ []) e refl f a

-- the fields behind a mark, and none left
behind : {s : Bytes} (m : String) (fs : List Bytes) → mark_width ≤ length s → length (ascii m) ≡ mark_width → At s 0 (record_bytes m fs)
    → Closes s mark_width fs (length (record_bytes m fs))
behind m fs h e a = close_mark m (fixed_past h).past fs e a

closed : {s : Bytes} {r n : ℕ} → Closes s r [] n → r ≡ n
unfolding flatten
closed h = omega (arith, h.whole)

-- two fields as one
close_both : {s : Bytes} {at n : ℕ} {f g : Bytes} {fs : List Bytes} (r : ℕ) → (At s at (f ++ g) → r ≡ at + length (f ++ g))
    → Closes s at (f ∷ g ∷ fs) n → Closes s r fs n
unfolding flatten
close_both {s} {at} {f = f} {g = g} {fs = fs} r k h =
    let a : At s at ((f ++ g) ++ flatten fs) = rw append_assoc h.there.there in
    let e : r ≡ at + length f + length g = omega (arith, k (at_left (f ++ g) (flatten fs) a), length-append f g) in
    close_on r e (close_on _ refl h)

-- a name and R are stepped over; so are a count and the trees that are listed
close_named : {s : Bytes} {at n r : ℕ} {fs : List Bytes} → Past named_part s at r → (m w : Bytes) → name_part.2 m → raw_part.2 w
    → Closes s at (name_field m ∷ w ∷ fs) n → Closes s r fs n
close_named x m w vm vw h = close_both _ (x.past (m, w) (vm, vw)) h

close_many : {p : Part} {s : Bytes} {at n r m : ℕ} {bs : Bytes} {fs : List Bytes}
    → Past (many_part p) s at r → Listed p m bs → Closes s at (byte m ∷ bs ∷ fs) n → Closes s r fs n
close_many {p} {m = m} {bs = bs} x l h =
    let e : byte (length l.trees) ++ joined p.1 l.trees ≡ byte m ++ bs = cc (l.count, l.same) in
    close_both _ (rw e at (x.past l.trees l.each)) h

module _ {s : Bytes} (m : mark_width ≤ length s) where
  -- each kind of B record
  pub let_ends : {loc keyword hint at c r : ℕ} → Past (fixed_part 1) s mark_width loc → Past (fixed_part loc_width) s loc keyword
      → Past keyword_part s keyword hint → Past hint_part s hint at → Past (many_part (family_part a_binding)) s at c → Past (family_part a_Body) s c r
      → (k : Kind) (l : Loc) (w h : Bytes) (bs : Bindings) (b : Body) → Ends (family_part a_Body) s r (BL k l w h bs b)
  unfolding ascii body_bytes BodyFields depth lambda_depth
  let_ends xk xl xw xh y z k l w h bs b (f, d, ld) a =
      let located = close_step xl l f.0.width (close_step xk (kind_field k) (kind_length k) (behind "BL" _ m refl a)) in
      let fields = close_step xh h f.2 (close_step xw w f.1 located) in
      closed (close_step z b (f.5, omega arith, omega arith) (close_many y (listed_bindings bs f.4 (omega arith) (omega arith)) fields))

  -- one that holds an S record, a BQ or a BV
  pub sexp_skips : {r : ℕ} → Past sexp_part s mark_width r → let k = mark_index (take mark_width s) body_marks in (Some Quoted ≡ body_mark_at k) ⊎ (Some Value ≡ body_mark_at k)
      → Skips (family_part a_Body) s r
  unfolding ascii body_bytes BodyFields BodyOf
  sexp_skips y (inl q) = body_skips y.within (body_placed refl q) (λ e v a. closed (close_step y e v.0 (behind "BQ" _ m refl a)))
  sexp_skips y (inr q) = body_skips y.within (body_placed refl q) (λ e v a. closed (close_step y e v.0 (behind "BV" _ m refl a)))

  module _ {at : ℕ} (x : Past (fixed_part loc_width) s mark_width at) where
    pub call_ends : {c r : ℕ} → Past (many_part (family_part a_Body)) s at c → Past tail_part s c r
        → (l : Loc) (bs : Bodies) (t : Tail) → Ends (family_part a_Body) s r (BC l bs t)
    unfolding ascii body_bytes BodyFields depth lambda_depth
    call_ends y z l bs t (f, d, ld) a =
        let elements = close_many y (listed_bodies bs f.2 (omega arith) (omega arith)) (close_step x l f.0.width (behind "BC" _ m refl a)) in
        closed (close_step z t (f.3, omega arith, omega arith) elements)

    pub mod_ends : {r : ℕ} → Past (family_part a_form) s at r → (l : Loc) (e : Form) → Ends (family_part a_Body) s r (BM l e)
    unfolding ascii body_bytes BodyFields depth lambda_depth
    mod_ends y l e (f, d, ld) a = closed (close_step y e (f.1, omega arith, omega arith) (close_step x l f.0.width (behind "BM" _ m refl a)))

    pub lambda_ends : {capture_args captures args c r : ℕ} → Past keyword_part s at capture_args → Past sexp_part s capture_args captures
        → Past (family_part a_Body) s captures args → Past sexp_part s args c → Past (family_part a_Body) s c r
        → (l : Loc) (w : Bytes) (ca : Sexp) (cb : Body) (ar : Sexp) (b : Body) → Ends (family_part a_Body) s r (BF l w ca cb ar b)
    unfolding ascii body_bytes BodyFields depth lambda_depth
    lambda_ends xw y1 y2 y3 y4 l w ca cb ar b (f, dp, ld) a =
        let capture_args = close_step xw w f.1 (close_step x l f.0.width (behind "BF" _ m refl a)) in
        let captures = close_step y2 cb (f.3, omega arith, omega arith) (close_step y1 ca f.2 capture_args) in
        closed (close_step y4 b (f.5, omega arith, omega arith) (close_step y3 ar f.4 captures))

    -- a BB
    pub binding_ends : {next c r : ℕ} → Past (fixed_part loc_width) s at next → Past pattern_part s next c → Past (family_part a_Body) s c r
        → (t : Binding) → Ends (family_part a_binding) s r t
    unfolding ascii binding_bytes BindingFields binding_depth binding_lambda_depth
    binding_ends xn y z (BB l nl p b) (f, d, ld) a =
        let located = close_step xn nl f.1.width (close_step x l f.0.width (behind "BB" _ m refl a)) in
        closed (close_step z b (f.3, d, ld) (close_step y p f.2 located))

    -- each kind of H record
    pub constant_ends : {c r : ℕ} → Past named_part s at c → Past (family_part a_Body) s c r
        → (l : Loc) (n w : Bytes) (b : Body) → Ends (family_part a_helper) s r (HC l n w b)
    unfolding ascii helper_bytes HelperFields helper_depth helper_lambda_depth
    constant_ends y z l n w b (f, d, ld) a =
        closed (close_step z b (f.3, omega arith, omega arith) (close_named y n w f.1 f.2 (close_step x l f.0.width (behind "HC" _ m refl a))))

    pub macro_ends : {c e r : ℕ} → Past named_part s at c → Past sexp_part s c e → Past (family_part a_form) s e r
        → (l : Loc) (n w : Bytes) (ar : Sexp) (b : Form) → Ends (family_part a_helper) s r (HM l n w ar b)
    unfolding ascii helper_bytes HelperFields helper_depth helper_lambda_depth
    macro_ends y ya z l n w ar b (f, d, ld) a =
        let named = close_named y n w f.1 f.2 (close_step x l f.0.width (behind "HM" _ m refl a)) in
        closed (close_step z b (f.4, omega arith, omega arith) (close_step ya ar f.3 named))

    pub function_ends : {next c e r : ℕ} → Past (fixed_part 1) s at next → Past named_part s next c → Past sexp_part s c e → Past (family_part a_Body) s e r
        → (l : Loc) (i : ℕ) (n w : Bytes) (ar : Sexp) (b : Body) → Ends (family_part a_helper) s r (HD l i n w ar b)
    unfolding ascii helper_bytes HelperFields helper_depth helper_lambda_depth
    function_ends xi y ya z l i n w ar b (f, d, ld) a =
        let named = close_named y n w f.2 f.3 (close_step xi (byte i) (byte_length i) (close_step x l f.0.width (behind "HD" _ m refl a))) in
        closed (close_step z b (f.5, omega arith, omega arith) (close_step ya ar f.4 named))

    pub namespace_ends : {c r : ℕ} → Past named_part s at c → Past (many_part (family_part a_helper)) s c r
        → (l : Loc) (n w : Bytes) (hs : Helpers) → Ends (family_part a_helper) s r (HN l n w hs)
    unfolding ascii helper_bytes HelperFields helper_depth helper_lambda_depth
    namespace_ends y z l n w hs (f, d, ld) a =
        let named = close_named y n w f.1 f.2 (close_step x l f.0.width (behind "HN" _ m refl a)) in
        closed (close_many z (listed_helpers hs f.4 (omega arith) (omega arith)) named)

    pub reference_ends : {r : ℕ} → Past named_part s at r → (l : Loc) (n w : Bytes) → Ends (family_part a_helper) s r (HR l n w)
    unfolding ascii helper_bytes HelperFields
    reference_ends y l n w (f, d, ld) a = closed (close_named y n w f.1 f.2 (close_step x l f.0.width (behind "HR" _ m refl a)))

    -- a CF
    pub form_ends : {next c e r : ℕ} → Past raw_part s at next → Past sexp_part s next c → Past (many_part (family_part a_helper)) s c e
        → Past (family_part a_Body) s e r → (t : Form) → Ends (family_part a_form) s r t
    unfolding ascii form_bytes FormFields form_depth form_lambda_depth
    form_ends xr ya yh z (CF l w ar hs b) (f, d, ld) a =
        let args = close_step ya ar f.2 (close_step xr w f.1 (close_step x l f.0.width (behind "CF" _ m refl a))) in
        closed (close_step z b (f.5, omega arith, omega arith) (close_many yh (listed_helpers hs f.4 (omega arith) (omega arith)) args))
