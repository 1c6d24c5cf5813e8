-- A binding of an assign (`assign_one`): its head and the kind of its pattern; a Name binding is copied, and of a Complex one the head, before what is made of
-- its pattern and body. Assumes nothing.
use mathlib.Core.Path.{◌≡◌, refl, sym, ap, subst, ◌∙◌}
use mathlib.Core.List.{◌++◌, append_assoc}
use native.Mathlib.Omega.{arith}
use Prim.Native.Nat.{ℕ, ◌+◌, ◌*◌, ◌-◌, ◌≤◌}
use lib.ListN.{length, drop, get_or, length-append}
use Rattle.names.specs.Maps.{NameMap}
use Rattle.names.specs.Names.{Bytes}
use Rattle.names.specs.Segments.{At, SameOutside, Filled}
use Rattle.names.specs.declared.Refusal.{Refusal}
use Rattle.names.proofs.Frames.{same_then, same_wider, at_below, copied_at}
use Rattle.names.proofs.Parts.{into}
use Rattle.names.proofs.Places.{at_place, at_left, at_right, at_join}
use Rattle.records.specs.Depth.{binding_depth}
use Rattle.records.specs.Parts.{ValidBinding}
use Rattle.records.specs.Records.{head_width, loc_width, Loc, byte, Sexp, sexp_bytes, Pattern, Name, Complex, pattern_field, Body, body_bytes, Binding, BB, binding_bytes}
use Rattle.records.specs.Valid.{ValidLoc, ValidPattern, BindingFields, BindingNoMod, binding_lambda_depth}
use Rattle.records.proofs.Places.{byte_there}
use Rattle.walk.specs.Arena.{outcome}
use Rattle.walk.specs.AssignWalks.{MakesRun, made, stopped, AnyMade, Shaped, AssignBinding, FineParts, inner, BindingReady, MakesBinding, ComplexReady, MakesComplex}
use Rattle.walk.specs.Bodyforms.{walk, rename_assign_binding}
use Rattle.walk.specs.Draws.{atoms, sexp_atoms, pattern_atoms, binding_atoms}
use Rattle.walk.specs.DrawnMaps.{map_growth}
use Rattle.walk.specs.Steps.{M, ◌>>=◌}
use Rattle.walk.specs.declared.Made.{Made}
use Rattle.walk.specs.declared.Task.{Task}
use Rattle.walk.proofs.LetHeads.{binding_head, binding_split, binding_head_length}
use Rattle.walk.proofs.MakesLaws.{MadeOf, made_of, unmade_of}
use Rattle.walk.proofs.MapLaws.{map_after}
use Rattle.walk.proofs.OnParts.{from, rejoin}
use Rattle.walk.proofs.PartMaps.{map_back}
use Rattle.walk.proofs.RunLaws.{ret_then}
use Rattle.walk.proofs.Unique.{Unique, unique_binding, tells_of}
use Rattle.walk.proofs.Wholes.{from_length, whole_frame, whole_at, map_from}
use Rattle.std.specs.declared.result.Result.{Result}
use Rattle.std.specs.declared.result.Result.TheVariants.{Err}
use Rattle.walk.specs.RuleAnswers.{made_with}

-- the bytes before a pattern
abbrev pub before_pattern : ℕ
before_pattern = head_width + loc_width

-- with the byte of a Complex pattern
abbrev tagged : Loc → Loc → Bytes
tagged l nl = binding_head l nl ++ byte 1

complex_split : (l nl : Loc) (p : Sexp) (b : Body) → binding_bytes (BB l nl (Complex p) b) ≡ tagged l nl ++ inner (BB l nl (Complex p) b)
unfolding inner pattern_field byte
complex_split l nl p b = binding_split l nl (Complex p) b ∙ sym (append_assoc (binding_head l nl) (byte 1) (sexp_bytes p ++ body_bytes b))

tagged_size : (l nl : Loc) → ValidLoc l → ValidLoc nl → length (tagged l nl) ≡ before_pattern + 1
unfolding byte
tagged_size l nl v w = omega (arith, binding_head_length l nl v w, length-append (binding_head l nl) (byte 1))

-- what a Name binding is
pub record NameBinding (b : Binding) : Type 0 where
  pub l : Loc
  pub nl : Loc
  pub n : Bytes
  pub e : Body
  pub is : b ≡ BB l nl (Name n) e

-- what a Complex binding is
pub record ComplexBinding (b : Binding) : Type 0 where
  pub l : Loc
  pub nl : Loc
  pub p : Sexp
  pub e : Body
  pub is : b ≡ BB l nl (Complex p) e

module _ {mem : Bytes} where
  tag_place : (l nl : Loc) (p : Pattern) (b : Body) → ValidLoc l → ValidLoc nl → At mem 0 (binding_bytes (BB l nl p b)) → At mem before_pattern (pattern_field p ++ body_bytes b)
  tag_place l nl p b v w a =
      at_place before_pattern (omega (arith, binding_head_length l nl v w)) (at_right (binding_head l nl) (pattern_field p ++ body_bytes b) (subst (At mem 0) (binding_split l nl p b) a))

  -- the byte says which
  name_byte : (l nl : Loc) (n : Bytes) (b : Body) → ValidLoc l → ValidLoc nl → At mem 0 (binding_bytes (BB l nl (Name n) b)) → get_or mem before_pattern 0 ≡ 0
  unfolding pattern_field byte
  name_byte l nl n b v w a = byte_there 0 (at_left (byte 0) _ (tag_place l nl (Name n) b v w a))

  complex_byte : (l nl : Loc) (p : Sexp) (b : Body) → ValidLoc l → ValidLoc nl → At mem 0 (binding_bytes (BB l nl (Complex p) b)) → get_or mem before_pattern 0 ≡ 1
  unfolding pattern_field byte
  complex_byte l nl p b v w a = byte_there 1 (at_left (byte 1) _ (tag_place l nl (Complex p) b v w a))

  is_name : (b : Binding) → ValidBinding b → At mem 0 (binding_bytes b) → get_or mem before_pattern 0 ≡ 0 → NameBinding b
  unfolding BindingFields
  is_name (BB l nl (Name n) b) v a z = record { l = l; nl = nl; n = n; e = b; is = refl }
  is_name (BB l nl (Complex p) b) v a z = absurd (omega (arith, complex_byte l nl p b v.0.0 v.0.1 a))

  is_complex : (b : Binding) → ValidBinding b → At mem 0 (binding_bytes b) → (get_or mem before_pattern 0 ≡ 0 → ⊥) → ComplexBinding b
  unfolding BindingFields
  is_complex (BB l nl (Name n) b) v a z = absurd (z (name_byte l nl n b v.0.0 v.0.1 a))
  is_complex (BB l nl (Complex p) b) v a z = record { l = l; nl = nl; p = p; e = b; is = refl }

-- the parts of a Complex binding that is fine
pub complex_fine : {F d : ℕ} (l nl : Loc) (p : Sexp) (e : Body) → AssignBinding F d (BB l nl (Complex p) e) → FineParts F d (p, e)
unfolding BindingFields ValidPattern binding_depth binding_lambda_depth BindingNoMod inner
complex_fine l nl p e f =
    let s = ap length (complex_split l nl p e) in
    let n = length-append (tagged l nl) (inner (BB l nl (Complex p) e)) in
    let k = length-append (sexp_bytes p) (body_bytes e) in
    record {
      valid = f.valid.0.2;
      body = record { valid = (f.valid.0.3, f.valid.1, f.valid.2); zone = f.zone; clear = f.clear; only = tt; deep = f.deep; short = omega (arith, f.short, s, n, k) };
      short = omega (arith, f.short, s, n, k);
    }

least_size : (b : Binding) → ValidBinding b → before_pattern + 1 ≤ length (binding_bytes b)
unfolding BindingFields pattern_field
least_size (BB l nl (Name n) e) v =
    omega (arith, ap length (binding_split l nl (Name n) e), length-append (binding_head l nl) (pattern_field (Name n) ++ body_bytes e), length-append (pattern_field (Name n)) (body_bytes e), binding_head_length l nl v.0.0 v.0.1)
least_size (BB l nl (Complex p) e) v =
    omega (arith, ap length (complex_split l nl p e), length-append (tagged l nl) (inner (BB l nl (Complex p) e)), tagged_size l nl v.0.0 v.0.1)

unique_fine_binding : {F d : ℕ} → Unique binding_bytes (AssignBinding F d)
unique_fine_binding xs a b p q x y = unique_binding xs a b p.valid q.valid x y

module _ {mem : Bytes} {n sum : ℕ} {t : Task} (p : BindingReady mem n sum t) where
  -- the head and the byte behind it stand there
  pub head_fits : (before_pattern + 1 ≤ n) × (n ≤ t.free) × (n ≤ t.f) × (t.free + 2 * t.f + t.map ≤ length mem)
  head_fits = (
    omega (arith, least_size p.ready.tree p.ready.good.valid, p.size),
    omega (arith, p.ready.below, p.size),
    omega (arith, p.ready.good.short, p.size),
    omega (arith, p.ready.room),
  )

  -- what is answered of the binding that is known to stand there
  makes : {new : Bytes} {r : Result Made Refusal} → SameOutside mem new t.free (length mem - t.map)
      → MakesRun (λ u. binding_bytes u.1) AnyMade t.f (t.map + map_growth * length (binding_bytes p.ready.tree)) (length (binding_bytes p.ready.tree)) new (λ k. t.free)
      (rename_assign_binding t.f (walk t.f t.depth) p.ready.m p.ready.tree) t.counter sum r → MakesBinding mem new sum t r
  makes f x = tells_of unique_fine_binding p.ready f x

  -- a Name binding is copied
  name_runs : (b : Binding) → NameBinding b → (k : NameMap × Binding → M Body) → outcome ((rename_assign_binding t.f (walk t.f t.depth) p.ready.m b >>= k) t.counter sum) ≡ outcome (k (p.ready.m, b) t.counter sum)
  unfolding rename_assign_binding
  name_runs b w k =
      subst (λ (z : Binding). outcome ((rename_assign_binding t.f (walk t.f t.depth) p.ready.m z >>= k) t.counter sum) ≡ outcome (k (p.ready.m, z) t.counter sum)) (sym w.is)
      (ret_then k (p.ready.m, BB w.l w.nl (Name w.n) w.e) t.counter sum)

  pub name_made : {new : Bytes} → get_or mem before_pattern 0 ≡ 0 → Filled mem new t.free (drop 0 mem) n → MakesBinding mem new sum t (made_with n sum t.map t.counter)
  name_made {new} z f =
      let q = p.ready in
      let h = head_fits in
      let w = is_name q.tree q.good.valid q.there z in
      let frame = same_wider t.free (length mem - t.map) (omega arith) (omega (arith, h.2, h.3)) f.frame in
      makes frame
      (made (q.m, q.tree) t.map t.counter sum tt (name_runs q.tree w) (ap (λ (k : ℕ). made_with k sum t.map t.counter) p.size)
      (copied_at 0 t.free f (omega (arith, h.2, h.3)) q.there (omega arith) (omega (arith, p.size)) (omega arith))
      (map_after frame (omega (arith, h.3)) q.map) (record { map = omega arith; sum = p.held; long = omega arith }))

  -- of a Complex one the head is copied
  module _ (z : get_or mem before_pattern 0 ≡ 0 → ⊥) {a : Bytes} (f : Filled mem a t.free (drop 0 mem) (before_pattern + 1)) where
    seen : ComplexBinding p.ready.tree
    seen = is_complex p.ready.tree p.ready.good.valid p.ready.there z

    abbrev parts : Sexp × Body
    parts = (seen.p, seen.e)

    abbrev seen_bytes : Bytes
    seen_bytes = sexp_bytes seen.p ++ body_bytes seen.e

    fine : AssignBinding t.f t.depth (BB seen.l seen.nl (Complex seen.p) seen.e)
    fine = subst (AssignBinding t.f t.depth) seen.is p.ready.good

    bytes_are : binding_bytes p.ready.tree ≡ tagged seen.l seen.nl ++ seen_bytes
    unfolding inner
    bytes_are = ap binding_bytes seen.is ∙ complex_split seen.l seen.nl seen.p seen.e

    tag_size : length (tagged seen.l seen.nl) ≡ before_pattern + 1
    unfolding BindingFields
    tag_size = tagged_size seen.l seen.nl fine.valid.0.0 fine.valid.0.1

    all_size : length (binding_bytes p.ready.tree) ≡ before_pattern + 1 + length seen_bytes
    all_size = omega (arith, ap length bytes_are, length-append (tagged seen.l seen.nl) seen_bytes, tag_size)

    frame : SameOutside mem a t.free (length mem - t.map)
    frame = let h = head_fits in same_wider t.free (length mem - t.map) (omega arith) (omega (arith, h.0, h.2, h.3)) f.frame

    draws : binding_atoms p.ready.tree ≡ sexp_atoms seen.p + atoms seen.e
    unfolding atoms pattern_atoms
    draws = ap binding_atoms seen.is

    parts_there : At a (before_pattern + 1) seen_bytes
    parts_there =
        let x = at_right (tagged seen.l seen.nl) seen_bytes (subst (At mem 0) bytes_are p.ready.there) in
        at_below frame (at_place (before_pattern + 1) (omega (arith, tag_size)) x) (omega (arith, all_size, p.ready.below))

    pub complex_ready : ComplexReady (from a (before_pattern + 1)) sum t
    complex_ready =
        let q = p.ready in
        let h = head_fits in
        let s = frame.size in
        record {
          ready = record {
            tree = parts;
            good = complex_fine seen.l seen.nl seen.p seen.e fine;
            there = into parts_there;
            below = omega (arith, all_size, q.below);
            m = q.m;
            map = map_from (before_pattern + 1) frame (omega (arith, h.3)) (omega (arith, h.0, h.1, h.3)) q.map;
            lone = λ y. let v : ◌≡◌ {A = ℕ} 0 1 = cc in absurd (omega arith);
            room = omega (arith, from_length a (before_pattern + 1) (omega (arith, h.0, h.1, h.3)), q.room, h.0, h.2, p.size, all_size, length-append (sexp_bytes seen.p) (body_bytes seen.e));
            counts = rw draws at q.counts;
            longest = q.longest;
          };
          held = p.held;
        }

    module _ {y : Bytes} {r : Result Made Refusal} (s : MakesComplex (from a (before_pattern + 1)) y sum t r) where
      abbrev pub remade : Bytes
      remade = rejoin a (before_pattern + 1) y

      fit : before_pattern + 1 + t.free + t.map ≤ length a
      fit = let h = head_fits in omega (arith, frame.size, h.0, h.2, h.3)

      inner_frame : SameOutside a remade (before_pattern + 1 + t.free) (length a - t.map)
      inner_frame = whole_frame a (before_pattern + 1) t.free t.map fit s.frame

      both_frame : SameOutside mem remade t.free (length mem - t.map)
      both_frame = same_then t.free (length mem - t.map) (omega arith) (omega arith) (omega arith) (omega (arith, frame.size)) frame inner_frame

      abbrev seen_run : M (NameMap × Binding)
      seen_run = rename_assign_binding t.f (walk t.f t.depth) p.ready.m (BB seen.l seen.nl (Complex seen.p) seen.e)

      said : MakesRun (λ u. inner u.1) (Shaped seen.l seen.nl) t.f (t.map + map_growth * length (sexp_bytes seen.p)) 0 y (λ k. t.free) seen_run t.counter sum r
      unfolding complex_ready
      said = let q = complex_ready.ready in s.says q.m q.map parts q.there q.below q.good seen.l seen.nl

      -- the run of the binding that stands there
      same_run : (k : NameMap × Binding → M Body) → outcome ((rename_assign_binding t.f (walk t.f t.depth) p.ready.m p.ready.tree >>= k) t.counter sum) ≡ outcome ((seen_run >>= k) t.counter sum)
      same_run k = ap (λ (b : Binding). outcome ((rename_assign_binding t.f (walk t.f t.depth) p.ready.m b >>= k) t.counter sum)) seen.is

      pub binding_refused : (k : Refusal) → r ≡ Err k → MakesBinding mem remade sum t (Err k)
      binding_refused k e = makes both_frame (stopped k (λ j. same_run j ∙ unmade_of k e said j) refl)

      module _ {w x len d : ℕ} (e : r ≡ made_with w x len d) where
        got : MadeOf (λ u. inner u.1) (Shaped seen.l seen.nl) t.f (t.map + map_growth * length (sexp_bytes seen.p)) 0 y (λ k. t.free) seen_run t.counter sum w x len d
        got = made_of w x len d e said

        pub binding_short : w ≤ t.f
        binding_short = omega (arith, got.within.long, got.within.sum)

        made_bytes : binding_bytes got.u.1 ≡ tagged seen.l seen.nl ++ inner got.u.1
        made_bytes =
            let h = got.has in
            subst (λ (b : Binding). binding_bytes b ≡ tagged seen.l seen.nl ++ inner b) (sym h.2) (complex_split seen.l seen.nl h.0 h.1)

        made_size : length (binding_bytes got.u.1) ≡ before_pattern + 1 + w
        made_size = omega (arith, ap length made_bytes, length-append (tagged seen.l seen.nl) (inner got.u.1), tag_size, got.wrote)

        stands : At remade t.free (binding_bytes got.u.1)
        stands =
            let h = head_fits in
            let head = at_left (tagged seen.l seen.nl) seen_bytes (subst (At mem 0) bytes_are p.ready.there) in
            let copied = copied_at 0 t.free f (omega (arith, h.0, h.2, h.3)) head (omega arith) (omega (arith, tag_size)) (omega arith) in
            let kept = at_below inner_frame copied (omega (arith, tag_size)) in
            let rest = whole_at a (before_pattern + 1) t.free t.map fit s.frame (t.free + length (tagged seen.l seen.nl)) (omega (arith, tag_size)) got.out in
            subst (At remade t.free) (sym made_bytes) (at_join (tagged seen.l seen.nl) (inner got.u.1) kept rest)

        pub binding_done : MakesBinding mem remade sum t (made_with (before_pattern + 1 + w) x len d)
        binding_done =
            let h = head_fits in
            let n = length-append (sexp_bytes seen.p) (body_bytes seen.e) in
            makes both_frame
            (made got.u len d x tt (λ j. same_run j ∙ got.goes_on j) (ap (λ (k : ℕ). made_with k x len d) (sym made_size)) stands
            (map_back a (before_pattern + 1) (omega (arith, fit)) s.frame.size got.map)
            (record { map = omega (arith, got.within.map, all_size, n); sum = got.within.sum; long = omega (arith, made_size, got.within.long, all_size) }))
