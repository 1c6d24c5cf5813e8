-- What each view says follows from the ends of the fields before. Assumes nothing.
use mathlib.Core.Path.{◌≡◌, refl, ◌∙◌}
use mathlib.Core.List.{List, [], ◌∷◌, ◌++◌, flatten}
use Prim.Native.Nat.{ℕ, ◌+◌, ◌^◌, ◌≤◌, ◌<◌}
use Prim.Native.String.{String}
use native.Mathlib.Omega.{arith}
use lib.ListN.{length, take, drop, get_or, length-append}
use Rattle.names.specs.Names.{Bytes, ascii, number_field, number_of, name_width, name_field}
use Rattle.names.proofs.Fields.{number_field_length}
use Rattle.names.proofs.Numbers.{number_at}
use Rattle.names.specs.Segments.{At}
use Rattle.records.specs.Depth.{depth}
use Rattle.records.specs.Limits.{level_limit, lambda_limit}
use Rattle.records.specs.Read.{kind_of}
use Rattle.records.specs.Records.{head_width, mark_width, loc_width, integer_width, integer_field, byte, record_bytes, kind_field, Pattern, Name, Complex, pattern_field, Tail, no_tail, tail, tail_bytes, Sexp, sexp_bytes, body_bytes, HN, helper_bytes, Helpers, helpers_bytes, form_bytes, bodies_count, bindings_count, helpers_count}
use Rattle.records.specs.declared.Kind.{Kind}
use Rattle.records.specs.declared.Kind.TheVariants.{Parallel, Sequential, Assign}
use Rattle.records.specs.Valid.{ValidLoc, ValidName, ValidRaw, ValidSexp, ValidHelper, BodyFields, HelperFields, FormFields, lambda_depth}
use Rattle.records.specs.declared.Family.TheVariants.{Body as a_Body}
use Rattle.records.specs.Parts.{Part, Past, fixed_part, name_part, raw_part, keyword_part, hint_part, sexp_part, family_part}
use Rattle.records.specs.Views.{Stands, Closes, PastHead, SeesCall, SeesLet, SeesLambda, SeesQuote, SeesValue, SeesForm, PastNamed, PastArgs, SeesFunction, SeesConstant, SeesMacro, SeesNamespace, counted_field, SeesCounted, SeesName, SeesInteger, TaggedAt, PatternAt, TailAt, SeesTagged}
use Rattle.records.specs.declared.NameView.{NameView}
use Rattle.records.specs.declared.NamedView.{NamedView}
use Rattle.records.specs.declared.ArgsView.{ArgsView}
use Rattle.names.proofs.Places.{at_left, at_right}
use Rattle.records.proofs.Places.{byte_there}

module _ {s : Bytes} {p : ℕ} {f : Bytes} {fs : List Bytes} where
  -- the first field, and those after it
  pub first_of : Stands s p (f ∷ fs) → At s p f
  unfolding flatten
  first_of h = at_left f (flatten fs) h.there

  pub rest_of : Stands s p (f ∷ fs) → Stands s (p + length f) fs
  unfolding flatten
  rest_of h = record { there = at_right f (flatten fs) h.there }

-- a record's mark is the first of its fields
pub opened : {s : Bytes} (m : String) (fs : List Bytes) → At s 0 (record_bytes m fs) → Stands s 0 (ascii m ∷ fs)
unfolding record_bytes flatten
opened m fs a = record { there = a }

-- a field is stepped over
pub step : {p : Part} {s : Bytes} {at r : ℕ} {fs : List Bytes} → Past p s at r → (t : p.0) → p.2 t → Stands s at (p.1 t ∷ fs) → Stands s r fs
step k t v h = rw (k.past t v (first_of h)) (rest_of h)

-- mark and L
module _ {s : Bytes} where
  pub head_short : length s < head_width → PastHead s (length s)
  unfolding flatten
  head_short h =
      let none : (m l : Bytes) (fs : List Bytes) → length m ≡ mark_width → ValidLoc l → Stands s 0 (m ∷ l ∷ fs) → ⊥ =
      λ m l fs q v k. omega (arith, (rest_of k).there.fits, length-append l (flatten fs)) in
      record {
        within = omega arith;
        moved = λ p. p;
        missing = λ _. refl;
        past = λ m l fs q v k. absurd (none m l fs q v k);
        ends = λ m l fs q v k. absurd (none m l fs q v k);
      }

  pub head_there : head_width ≤ length s → PastHead s (head_width)
  head_there h = record {
    within = h;
    moved = λ p. omega arith;
    missing = λ g. absurd (omega arith);
    past = λ m l fs q v k. rw (q, v.width) at (rest_of (rest_of k));
    ends = λ m l fs q v k. omega (arith, q, v.width);
  }

-- the fields that are left of a record after its mark, after its mark and L, and after the first of them
module _ {s : Bytes} {r : ℕ} (m : String) where
  pub close_mark : Past (fixed_part mark_width) s 0 r → (fs : List Bytes) → length (ascii m) ≡ mark_width → At s 0 (record_bytes m fs) → Closes s r fs (length (record_bytes m fs))
  unfolding record_bytes
  close_mark k fs e a =
      let h = opened m fs a in
      let q = k.past (ascii m) e (first_of h) in
      record { there = step k (ascii m) e h; moved = omega (arith, q, e); whole = omega (arith, q, length-append (ascii m) (flatten fs)) }

  pub close_head : PastHead s r → (l : Bytes) (fs : List Bytes) → length (ascii m) ≡ mark_width → ValidLoc l → At s 0 (record_bytes m (l ∷ fs))
      → Closes s r fs (length (record_bytes m (l ∷ fs)))
  unfolding record_bytes flatten
  close_head x l fs e v a =
      let h = opened m (l ∷ fs) a in
      let q = x.ends (ascii m) l fs e v h in
      record { there = x.past (ascii m) l fs e v h; moved = omega (arith, q, e); whole = omega (arith, q, length-append (ascii m) (l ++ flatten fs), length-append l (flatten fs)) }

pub close_on : {s : Bytes} {at n : ℕ} {f : Bytes} {fs : List Bytes} (r : ℕ) → r ≡ at + length f → Closes s at (f ∷ fs) n → Closes s r fs n
unfolding flatten
close_on {f = f} {fs} r e h = record { there = rw e (rest_of h.there); moved = omega (arith, h.moved); whole = omega (arith, h.whole, length-append f (flatten fs)) }

pub close_step : {p : Part} {s : Bytes} {at r n : ℕ} {fs : List Bytes} → Past p s at r → (t : p.0) → p.2 t → Closes s at (p.1 t ∷ fs) n → Closes s r fs n
close_step k t v h = close_on _ (k.past t v (first_of h.there)) h

-- where a record ends after its last field, and after its last two
pub close_one : {s : Bytes} {p n : ℕ} {f : Bytes} → Closes s p (f ∷ []) n → p + length f ≡ n
unfolding flatten
close_one {f = f} h = omega (arith, h.whole, length-append f [])

pub close_two : {s : Bytes} {p n : ℕ} {f g : Bytes} → Closes s p (f ∷ g ∷ []) n → p + length f + length g ≡ n
close_two h = close_one (close_on _ refl h)

-- the byte at a place
abbrev pub ByteAt : Bytes → ℕ → ℕ → Type 0
ByteAt s at r = r ≡ get_or s at 0

pub byte_is : {s : Bytes} {at r : ℕ} → ByteAt s at r → (b : ℕ) → At s at (byte b) → r ≡ b
byte_is h b a = h ∙ byte_there b a

-- the byte before a pattern, a tail or an L
pub tag_is : {s : Bytes} {at tag : ℕ} → ByteAt s at tag → (k : ℕ) (bs : Bytes) → At s at (k ∷ bs) → tag ≡ k
unfolding byte
tag_is b k bs a = byte_is b k (at_left (k ∷ []) bs a)

-- the kind byte of a let
pub kind_at : {s : Bytes} {at r : ℕ} → ByteAt s at r → (k : Kind) → At s at (kind_field k) → kind_of r ≡ k
unfolding kind_of kind_field
kind_at h Parallel a = rw (byte_is h 0 a)
kind_at h Sequential a = rw (byte_is h 1 a)
kind_at h Assign a = rw (byte_is h 2 a)

pub kind_length : (k : Kind) → length (kind_field k) ≡ 1
unfolding kind_field byte
kind_length Parallel = refl
kind_length Sequential = refl
kind_length Assign = refl

pub byte_length : (b : ℕ) → length (byte b) ≡ 1
unfolding byte
byte_length b = refl

-- bytes after their length: where they start and end
module _ {s : Bytes} (at w : ℕ) where
  -- what is known of bytes that stand there
  counted_at : (n : Bytes) → length n < 256 ^ w → At s at (counted_field w n) → At s (at + w) n × (number_of (take w (drop at s)) ≡ length n)
  unfolding counted_field
  counted_at n v a =
      let f = number_field w (length n) in
      (rw number_field_length at (at_right f n a), number_at w (length n) v (at_left f n a))

  pub sees_none : at ≤ length s → length s < at + w + number_of (take w (drop at s)) → SeesCounted w s at (record { start = length s; end = length s })
  sees_none le h = record {
    onward = le;
    forward = omega arith;
    within = omega arith;
    missing = λ _. (refl, refl);
    sees = λ n v a. let q = counted_at n v a in absurd (omega (arith, q.0.fits, q.1));
  }

  pub sees_counted : {k : ℕ} → k ≡ number_of (take w (drop at s)) → at + w + k ≤ length s → SeesCounted w s at (record { start = at + w; end = at + w + k })
  unfolding counted_field
  sees_counted e h = record {
    onward = omega arith;
    forward = omega arith;
    within = h;
    missing = λ l. absurd (omega (arith, e));
    sees = λ n v a.
        let q = counted_at n v a in
        let f = number_field w (length n) in
        record { bytes = q.0; ends = omega (arith, e, q.1); past = omega (arith, e, q.1, length-append f n, number_field_length w (length n)) };
  }

module _ {s : Bytes} {at : ℕ} {v : NameView} where
  pub sees_name : SeesCounted name_width s at v → SeesName s at v
  unfolding counted_field name_field
  sees_name h = record { onward = h.onward; forward = h.forward; within = h.within; missing = h.missing; sees = λ n f a. h.sees n (omega arith) a }

  pub sees_integer : SeesCounted integer_width s at v → SeesInteger s at v
  unfolding counted_field integer_field
  sees_integer h = record { onward = h.onward; forward = h.forward; within = h.within; missing = h.missing; sees = λ n f a. h.sees n f.1 a }

-- a byte that says what follows
module _ {s : Bytes} {at tag next : ℕ} (h : ByteAt s at tag) (x : Past (fixed_part 1) s at next) where
  tagged : (b : ℕ) (bs : Bytes) → At s at (b ∷ bs) → TaggedAt s (record { tag = tag; next = next }) b bs
  unfolding byte
  tagged b bs a =
      let f = at_left (b ∷ []) bs a in
      record { tag = byte_is h b f; next = rw (x.past (b ∷ []) refl f) (at_right (b ∷ []) bs a) }

  tagged_pattern : (p : Pattern) → At s at (pattern_field p) → PatternAt s (record { tag = tag; next = next }) p
  unfolding pattern_field PatternAt
  tagged_pattern (Name n) a = tagged 0 (name_field n) a
  tagged_pattern (Complex e) a = tagged 1 (sexp_bytes e) a

  tagged_tail : (t : Tail) → At s at (tail_bytes t) → TailAt s (record { tag = tag; next = next }) t
  unfolding tail_bytes TailAt byte
  tagged_tail no_tail a = byte_is h 0 a
  tagged_tail (tail b) a = tagged 1 (body_bytes b) a

  pub sees_tagged : SeesTagged s at (record { tag = tag; next = next })
  sees_tagged = record { within = x.within; past = x; pattern = tagged_pattern; tail_of = tagged_tail }

module _ {s : Bytes} {at first count : ℕ} where
  pub sees_call : PastHead s at → ByteAt s at count → Past (fixed_part 1) s at first → SeesCall s (record { count = count; first = first })
  unfolding ascii body_bytes BodyFields
  sees_call x c y = record {
    within = y.within;
    sees = λ l bs t v a.
        let h = x.past (ascii "BC") l _ refl v.0.0 (opened "BC" _ a) in
        record { count = byte_is c _ (first_of h); rest = step y _ (byte_length (bodies_count bs)) h };
    closes = λ l bs t v a. close_step y _ (byte_length (bodies_count bs)) (close_head "BC" x l _ refl v.0.0 a);
  }

module _ {s : Bytes} {kind : Kind} {m b loc keyword hint at count first : ℕ} where
  pub sees_let : kind ≡ kind_of b → Past (fixed_part mark_width) s 0 m → ByteAt s m b → Past (fixed_part 1) s m loc → Past (fixed_part loc_width) s loc keyword → Past keyword_part s keyword hint
      → Past hint_part s hint at → ByteAt s at count → Past (fixed_part 1) s at first
      → SeesLet s (record { kind = kind; loc = loc; keyword = keyword; hint = hint; count = count; first = first })
  unfolding ascii body_bytes BodyFields
  sees_let q xm bk xk xl xw xh bc xc = record {
    within = xc.within;
    sees = λ k l w h bs b v a.
        let hk = step xm (ascii "BL") refl (opened "BL" _ a) in
        let hl = step xk (kind_field k) (kind_length k) hk in
        let hw = step xl l v.0.0.width hl in
        let hh = step xw w v.0.1 hw in
        let hc = step xh h v.0.2 hh in
        record {
          kind = q ∙ kind_at bk k (first_of hk);
          loc = first_of hl;
          keyword = first_of hw;
          hint = first_of hh;
          count = byte_is bc _ (first_of hc);
          rest = step xc _ (byte_length (bindings_count bs)) hc;
        };
    closes = λ k l w h bs b v a.
        let hl = close_step xk (kind_field k) (kind_length k) (close_mark "BL" xm _ refl a) in
        close_step xc _ (byte_length (bindings_count bs)) (close_step xh h v.0.2 (close_step xw w v.0.1 (close_step xl l v.0.0.width hl)));
  }

module _ {s : Bytes} {keyword ca captures args body : ℕ} where
  pub sees_lambda : PastHead s keyword → Past keyword_part s keyword ca → Past sexp_part s ca captures → Past (family_part a_Body) s captures args → Past sexp_part s args body
      → SeesLambda s (record { keyword = keyword; capture_args = ca; captures = captures; args = args; body = body })
  unfolding ascii body_bytes BodyFields depth lambda_depth
  sees_lambda x xw xca xc xa = record {
    capture_args_within = xw.within;
    args_within = xc.within;
    sees = λ l w ca' c a b v e.
        let hw = x.past (ascii "BF") l _ refl v.0.0 (opened "BF" _ e) in
        let hca = step xw w v.0.1 hw in
        let hc = step xca ca' v.0.2 hca in
        let d : depth c ≤ level_limit = omega (arith, v.1) in
        let ld : lambda_depth c ≤ lambda_limit = omega (arith, v.2) in
        let ha = step xc c (v.0.3, d, ld) hc in
        let hb = step xa a v.0.4 ha in
        record { keyword = first_of hw; capture_args = first_of hca; captures = first_of hc; args = first_of ha; body = first_of hb };
    closes = λ l w ca' c a b v e.
        let d : depth c ≤ level_limit = omega (arith, v.1) in
        let ld : lambda_depth c ≤ lambda_limit = omega (arith, v.2) in
        close_step xc c (v.0.3, d, ld) (close_step xca ca' v.0.2 (close_step xw w v.0.1 (close_head "BF" x l _ refl v.0.0 e)));
    parts = λ l w ca' c a b v e.
        let hw = x.past (ascii "BF") l _ refl v.0.0 (opened "BF" _ e) in
        let hca = step xw w v.0.1 hw in
        let hc = step xca ca' v.0.2 hca in
        let d : depth c ≤ level_limit = omega (arith, v.1) in
        let ld : lambda_depth c ≤ lambda_limit = omega (arith, v.2) in
        let ha = step xc c (v.0.3, d, ld) hc in
        let at-keyword = x.ends (ascii "BF") l _ refl v.0.0 (opened "BF" _ e) in
        let at-capture-args = xw.past w v.0.1 (first_of hw) in
        let at-captures = xca.past ca' v.0.2 (first_of hca) in
        let at_args = xc.past c (v.0.3, d, ld) (first_of hc) in
        let at_body = xa.past a v.0.4 (first_of ha) in
        record { parted = record { capture_args_at = omega (arith, length-append l w); args_at = omega arith; body_at = at_body }; captures_at = at-captures };
  }

module _ {s : Bytes} {r : ℕ} where
  pub sees_quote : Past (fixed_part mark_width) s 0 r → SeesQuote s r
  unfolding ascii body_bytes
  sees_quote x e a = first_of (step x (ascii "BQ") refl (opened "BQ" _ a))

  pub sees_value : Past (fixed_part mark_width) s 0 r → SeesValue s r
  unfolding ascii body_bytes
  sees_value x e a = first_of (step x (ascii "BV") refl (opened "BV" _ a))

module _ {s : Bytes} {raw args at count first : ℕ} where
  pub sees_form : PastHead s raw → Past raw_part s raw args → Past sexp_part s args at → ByteAt s at count → Past (fixed_part 1) s at first
      → SeesForm s (record { raw = raw; args = args; count = count; first = first })
  unfolding ascii form_bytes FormFields
  sees_form x xr xa bc xc = record {
    sees = λ l r a hs b v e.
        let hr = x.past (ascii "CF") l _ refl v.0.0 (opened "CF" _ e) in
        let ha = step xr r v.0.1 hr in
        let hc = step xa a v.0.2 ha in
        record { raw = first_of hr; args = first_of ha; count = byte_is bc _ (first_of hc); rest = step xc _ (byte_length (helpers_count hs)) hc };
    ends = λ l r a hs b v e.
        let ha = close_step xr r v.0.1 (close_head "CF" x l _ refl v.0.0 e) in
        let hc = close_step xa a v.0.2 ha in
        let one = byte_length (helpers_count hs) in
        let at_count = xa.past a v.0.2 (first_of ha.there) in
        let at_first = xc.past _ one (first_of hc.there) in
        (omega (arith, at_count, at_first, one), close_two (close_step xc _ one hc));
  }

module _ {s : Bytes} {at raw next : ℕ} where
  pub past_named : Past name_part s at raw → Past raw_part s raw next → PastNamed s at (record { name = at; raw = raw; next = next })
  past_named x y = record {
    within = y.within;
    past = λ n r fs vn vr h.
        let hr = step x n vn h in
        record { name = first_of h; raw = first_of hr; rest = step y r vr hr };
    ends = λ n r fs vn vr h. omega (arith, x.past n vn (first_of h), y.past r vr (first_of (step x n vn h)));
  }

module _ {s : Bytes} {at next : ℕ} {v : NamedView} where
  pub past_args : PastNamed s at v → Past sexp_part s v.next next → PastArgs s at (record { name = v.name; raw = v.raw; args = v.next; next = next })
  past_args x y = record {
    past = λ n r a fs vn vr va h.
        let w = x.past n r _ vn vr h in
        record { name = w.name; raw = w.raw; args = first_of w.rest; rest = step y a va w.rest };
    ends = λ n r a fs vn vr va h. (x.ends n r _ vn vr h, y.past a va (first_of (x.past n r _ vn vr h).rest));
  }

-- a name and R are stepped over
close_named : {s : Bytes} {at k : ℕ} {v : NamedView} {fs : List Bytes} → PastNamed s at v → (n r : Bytes) → ValidName n → ValidRaw r → Closes s at (name_field n ∷ r ∷ fs) k → Closes s v.next fs k
close_named x n r vn vr h = close_on _ (x.ends n r _ vn vr h.there) (close_on _ refl h)

-- where args end, and the record with the field after them
close_args : {s : Bytes} {at k : ℕ} {v : ArgsView} {f : Bytes} → PastArgs s at v → (n r : Bytes) (a : Sexp) → ValidName n → ValidRaw r → ValidSexp a → Closes s at (name_field n ∷ r ∷ sexp_bytes a ∷ f ∷ []) k
    → (v.next ≡ v.args + length (sexp_bytes a)) × (v.next + length f ≡ k)
close_args x n r a vn vr va h =
    let e = x.ends n r a _ vn vr va h.there in
    (e.1, close_one (close_on _ e.1 (close_on _ e.0 (close_on _ refl h))))

module _ {s : Bytes} {at : ℕ} {v : NamedView} where
  pub sees_constant : PastHead s at → PastNamed s at v → SeesConstant s v
  unfolding ascii helper_bytes HelperFields
  sees_constant x y = record {
    sees = λ l n r b f a. y.past n r _ f.0.1 f.0.2 (x.past (ascii "HC") l _ refl f.0.0 (opened "HC" _ a));
    ends = λ l n r b f a. close_one (close_named y n r f.0.1 f.0.2 (close_head "HC" x l _ refl f.0.0 a));
  }

  pub sees_namespace : {count first : ℕ} → PastHead s at → PastNamed s at v → ByteAt s v.next count → Past (fixed_part 1) s v.next first
      → SeesNamespace s (record { name = v.name; raw = v.raw; count = count; first = first })
  unfolding ascii helper_bytes HelperFields
  sees_namespace {first = first} x y bc xc =
      let closed : (l n r : Bytes) (hs : Helpers) → ValidHelper (HN l n r hs) → At s 0 (helper_bytes (HN l n r hs)) → Closes s first (helpers_bytes hs ∷ []) (length (helper_bytes (HN l n r hs))) =
      λ l n r hs f a. close_step xc _ (byte_length (helpers_count hs)) (close_named y n r f.0.1 f.0.2 (close_head "HN" x l _ refl f.0.0 a)) in
      record {
        sees = λ l n r hs f a.
            let w = y.past n r _ f.0.1 f.0.2 (x.past (ascii "HN") l _ refl f.0.0 (opened "HN" _ a)) in
            record { name = w.name; raw = w.raw; count = byte_is bc _ (first_of w.rest); rest = first_of (step xc _ (byte_length (helpers_count hs)) w.rest) };
        counted = λ l n r hs f a. omega (arith, (closed l n r hs f a).moved);
        ends = λ l n r hs f a. close_one (closed l n r hs f a);
      }

module _ {s : Bytes} {at : ℕ} {v : ArgsView} where
  pub sees_macro : PastHead s at → PastArgs s at v → SeesMacro s v
  unfolding ascii helper_bytes HelperFields
  sees_macro x y = record {
    sees = λ l n r a c f e. y.past n r a _ f.0.1 f.0.2 f.0.3 (x.past (ascii "HM") l _ refl f.0.0 (opened "HM" _ e));
    ends = λ l n r a c f e. close_args y n r a f.0.1 f.0.2 f.0.3 (close_head "HM" x l _ refl f.0.0 e);
  }

  pub sees_function : {b : ℕ} → PastHead s b → Past (fixed_part 1) s b at → PastArgs s at v → SeesFunction s v
  unfolding ascii helper_bytes HelperFields
  sees_function x z y = record {
    sees = λ l i n r a c f e. y.past n r a _ f.0.2 f.0.3 f.0.4 (step z _ (byte_length i) (x.past (ascii "HD") l _ refl f.0.0 (opened "HD" _ e)));
    ends = λ l i n r a c f e. close_args y n r a f.0.2 f.0.3 f.0.4 (close_step z _ (byte_length i) (close_head "HD" x l _ refl f.0.0 e));
  }
