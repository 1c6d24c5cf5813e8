-- A let: where its parts stand, that they are fine one level down, and its bytes once its bindings and its body are made again. Assumes nothing.
use mathlib.Core.Path.{◌≡◌, refl, sym, ap, subst, ◌∙◌}
use mathlib.Core.List.{List, [], ◌∷◌, ◌++◌, flatten, append_assoc, append-nil}
use native.Mathlib.Omega.{arith}
use Prim.Native.Nat.{ℕ, zero, suc, ◌+◌, ◌*◌, ◌-◌, ◌≤◌}
use lib.ListN.{length, drop, length-append}
use Rattle.names.specs.Names.{Bytes, ascii}
use Rattle.names.specs.Segments.{At, SameOutside, Filled}
use Rattle.names.proofs.Frames.{same_then, at_below, copied_at}
use Rattle.names.proofs.Parts.{part_length, at_back, same_back}
use Rattle.names.proofs.Places.{at_place, at_left, at_right}
use Rattle.records.specs.Depth.{depth, bindings_depth, list_depth}
use Rattle.records.specs.Limits.{level_limit, lambda_limit}
use Rattle.records.specs.Lists.{joined, Each}
use Rattle.records.specs.Read.{binding_zone}
use Rattle.records.specs.Records.{Loc, byte, record_bytes, kind_field, Pattern, pattern_field, Body, BL, BQ, BV, BC, BM, BF, body_bytes, Binding, BB, binding_bytes, Bindings, []ᵍ, ◌∷ᵍ◌, bindings_bytes, bindings_count, to_bindings, list_of}
use Rattle.records.specs.declared.Kind.{Kind}
use Rattle.records.specs.Valid.{ValidPattern, ValidBody, BodyFields, BindingFields, BindingsFields, lambda_depth, bindings_lambda_depth, NoMod, BindingsNoMod}
use Rattle.records.specs.Views.{SeesLet}
use Rattle.records.specs.declared.LetView.{LetView}
use Rattle.records.specs.declared.Zone.{Zone}
use Rattle.records.proofs.Exact.{bindings_counted}
use Rattle.records.proofs.Lists.{list_count, list_bytes}
use Rattle.walk.specs.Draws.{atoms, inside_of, patterns_of, dbl}
use Rattle.walk.specs.LetWalks.{head_bytes, binding_pattern, binding_body, own_patterns, heads, FineBinding}
use Rattle.walk.specs.Scopes.{with_pattern, with_patterns}
use Rattle.walk.specs.Walking.{AnyBody, IsBinder, Fine, let_aside}
use Rattle.walk.proofs.Atoms.{list_parts, atoms_list_of}
use Rattle.walk.proofs.LetHeads.{binding_is, head_length, own_length, with_own}
use Rattle.walk.proofs.OnParts.{from, rejoin}
use Rattle.walk.proofs.Sizes.{positive, some_level, dbl_add, dbl_twice, dbl_least, depth_list_of}

pub aside_other : (F n : ℕ) → (n ≡ 1 → ⊥) → 5 * F ≡ let_aside F n
aside_other F zero e = refl
aside_other F (suc zero) e = absurd (e refl)
aside_other F (suc (suc n)) e = refl

-- bindings one level down
each_fine : (F d : ℕ) (z : Zone) (bs : Bindings) → BindingsNoMod z bs → BindingsFields bs → bindings_depth bs ≤ level_limit → bindings_lambda_depth bs ≤ lambda_limit → bindings_depth bs ≤ d
    → length (bindings_bytes bs) ≤ F → Each (FineBinding F d) (list_of bs)
unfolding BindingsNoMod BindingsFields bindings_depth bindings_lambda_depth bindings_bytes Each list_of binding_body
each_fine F d z []ᵍ n f l m e s = tt
each_fine F d z (BB l nl q b ∷ᵍ bs) n f dl dm e s =
    let k = length-append (binding_bytes (BB l nl q b)) (bindings_bytes bs) in
    let i = ap length (binding_is (BB l nl q b)) ∙ length-append (head_bytes (BB l nl q b)) (body_bytes b) in (
      record {
        fields = f.0;
        body = record { valid = (f.0.3, omega arith, omega arith); zone = z; clear = n.0; only = tt; deep = omega arith; short = omega arith };
      },
      each_fine F d z bs n.1 f.1 (omega arith) (omega arith) (omega arith) (omega arith),
    )

-- the bytes of a let: its head, its bindings and its body
abbrev pub let_head : Kind → Loc → Bytes → Bytes → ℕ → Bytes
let_head k l w h n = ascii "BL" ++ (kind_field k ++ (l ++ (w ++ (h ++ byte n))))

-- bindings that were made
made_bytes : (us : List Binding) → bindings_bytes (to_bindings us) ≡ joined binding_bytes us
unfolding bindings_bytes to_bindings joined
made_bytes [] = refl
made_bytes (u ∷ us) = ap (λ (z : Bytes). binding_bytes u ++ z) (made_bytes us)

pub let_split : (k : Kind) (l : Loc) (w h : Bytes) (bs : Bindings) (b : Body) → body_bytes (BL k l w h bs b) ≡ let_head k l w h (bindings_count bs) ++ (bindings_bytes bs ++ body_bytes b)
unfolding body_bytes record_bytes flatten
let_split k l w h bs b = simp (append_assoc, append-nil)

-- a let that was made
pub let_made : (k : Kind) (l : Loc) (w h : Bytes) (us : List Binding) (b : Body) → body_bytes (BL k l w h (to_bindings us) b) ≡ let_head k l w h (length us) ++ (joined binding_bytes us ++ body_bytes b)
let_made k l w h us b =
    let_split k l w h (to_bindings us) b ∙ ap (λ (n : ℕ). let_head k l w h n ++ (bindings_bytes (to_bindings us) ++ body_bytes b)) (bindings_counted us)
    ∙ ap (λ (z : Bytes). let_head k l w h (length us) ++ (z ++ body_bytes b)) (made_bytes us)

-- a let that is given
let_is : (k : Kind) (l : Loc) (w h : Bytes) (bs : Bindings) (b : Body) → body_bytes (BL k l w h bs b) ≡ let_head k l w h (length (list_of bs)) ++ (joined binding_bytes (list_of bs) ++ body_bytes b)
let_is k l w h bs b =
    let_split k l w h bs b ∙ ap (λ (n : ℕ). let_head k l w h n ++ (bindings_bytes bs ++ body_bytes b)) (sym (list_count bs))
    ∙ ap (λ (z : Bytes). let_head k l w h (length (list_of bs)) ++ (z ++ body_bytes b)) (sym (list_bytes bs))

-- a let whose bindings start at a place
pub record Let (F d : ℕ) (mem : Bytes) (first count : ℕ) (k : Kind) (l : Loc) (w h : Bytes) (bs : Bindings) (b : Body) : Type 0 where
  pub head : At mem 0 (let_head k l w h count)
  pub width : length (let_head k l w h count) ≡ first
  pub bindings : At mem first (joined binding_bytes (list_of bs))
  pub last : At mem (first + length (joined binding_bytes (list_of bs))) (body_bytes b)
  pub size : first + (length (joined binding_bytes (list_of bs)) + length (body_bytes b)) ≡ length (body_bytes (BL k l w h bs b))
  pub many : length (list_of bs) ≡ count
  pub each : Each (FineBinding F (d - 1)) (list_of bs)
  pub fine : Fine AnyBody F (d - 1) b
  pub deep : list_depth (list_of bs) ≤ d - 1
  pub level : 2 ≤ d
  pub short : first + (length (joined binding_bytes (list_of bs)) + length (body_bytes b)) ≤ F
  pub draws : patterns_of (list_of bs) + (dbl (d - 1) (inside_of (list_of bs)) + (dbl (d - 1) (atoms b) + dbl (d - 1) (atoms b))) ≤ dbl d (atoms (BL k l w h bs b))

-- its parts
pub let_parts : {Only : Body → Type 0} {F d : ℕ} {mem : Bytes} {first count : ℕ} (k : Kind) (l : Loc) (w h : Bytes) (bs : Bindings) (b : Body) → Fine Only F d (BL k l w h bs b) → At mem 0 (body_bytes (BL k l w h bs b))
    → first + (length (joined binding_bytes (list_of bs)) + length (body_bytes b)) ≡ length (body_bytes (BL k l w h bs b)) → length (list_of bs) ≡ count → Let F d mem first count k l w h bs b
unfolding BodyFields depth lambda_depth NoMod atoms
let_parts {F = F} {d} {mem} {first} {count} k l w h bs b f a s n =
    let g = let_head k l w h count in
    let rest = joined binding_bytes (list_of bs) ++ body_bytes b in
    let e : body_bytes (BL k l w h bs b) ≡ g ++ rest = let_is k l w h bs b ∙ ap (λ (z : ℕ). let_head k l w h z ++ rest) n in
    let n₁ = ap length e ∙ length-append g rest in
    let n₂ = length-append (joined binding_bytes (list_of bs)) (body_bytes b) in
    let width : length g ≡ first = omega arith in
    let a₂ = subst (At mem 0) e a in
    let r = at_place first (omega arith) (at_right g rest a₂) in
    let lv = some_level k (bindings_count bs) in
    let d₁ = f.valid.1 in
    let d₂ = f.valid.2 in
    let d₃ = f.deep in
    let sh = f.short in
    let lb = ap length (list_bytes bs) in
    let fs = f.valid.0 in
    let po = positive b in
    let down : suc (d - 1) ≡ d = omega arith in
    let twice : dbl d (atoms (BL k l w h bs b)) ≡ dbl (d - 1) (atoms (BL k l w h bs b)) + dbl (d - 1) (atoms (BL k l w h bs b)) = subst (λ (z : ℕ). dbl z (atoms (BL k l w h bs b)) ≡ dbl (d - 1) (atoms (BL k l w h bs b)) + dbl (d - 1) (atoms (BL k l w h bs b))) down (dbl_twice (d - 1) (atoms (BL k l w h bs b))) in
    let ps = patterns_of (list_of bs) in
    let is = inside_of (list_of bs) in
    let all : atoms (BL k l w h bs b) ≡ ps + (is + atoms b) = omega (arith, atoms_list_of bs, list_parts (list_of bs)) in
    let parts : dbl (d - 1) (atoms (BL k l w h bs b)) ≡ dbl (d - 1) ps + (dbl (d - 1) is + dbl (d - 1) (atoms b)) = ap (dbl (d - 1)) all ∙ omega (arith, dbl_add (d - 1) ps (is + atoms b), dbl_add (d - 1) is (atoms b)) in
    record {
      head = at_left g rest a₂;
      width = width;
      bindings = at_left (joined binding_bytes (list_of bs)) (body_bytes b) r;
      last = at_right (joined binding_bytes (list_of bs)) (body_bytes b) r;
      size = s;
      many = n;
      each = each_fine F (d - 1) (binding_zone k f.zone) bs f.clear.0 fs.4 (omega arith) (omega arith) (omega arith) (omega arith);
      fine = record { valid = (fs.5, omega arith, omega arith); zone = f.zone; clear = f.clear.1; only = tt; deep = omega arith; short = omega arith };
      deep = omega (arith, depth_list_of bs);
      level = omega arith;
      short = omega arith;
      draws = omega (arith, dbl_least (d - 1) ps);
    }

-- the bindings and the body of a let end where it does
pub let_closes : {mem : Bytes} {v : LetView} → SeesLet mem v → (k : Kind) (l : Loc) (w h : Bytes) (bs : Bindings) (b : Body) → ValidBody (BL k l w h bs b) → At mem 0 (body_bytes (BL k l w h bs b))
    → v.first + (length (joined binding_bytes (list_of bs)) + length (body_bytes b)) ≡ length (body_bytes (BL k l w h bs b))
unfolding flatten
let_closes x k l w h bs b f a =
    omega (arith, (x.closes k l w h bs b f a).whole, length-append (bindings_bytes bs) (body_bytes b ++ []), length-append (body_bytes b) [], ap length (list_bytes bs))

-- a let that a view sees
pub record Seen (F d : ℕ) (mem : Bytes) (first count : ℕ) (tree : Body) : Type 0 where
  pub k : Kind
  pub l : Loc
  pub w : Bytes
  pub h : Bytes
  pub bs : Bindings
  pub b : Body
  pub is : tree ≡ BL k l w h bs b
  pub parts : Let F d mem first count k l w h bs b

pub seen : {Only : Body → Type 0} {F d : ℕ} {mem : Bytes} {v : LetView} → SeesLet mem v → (tree : Body) → IsBinder tree → Fine Only F d tree → At mem 0 (body_bytes tree) → Seen F d mem v.first v.count tree
unfolding IsBinder
seen x (BL k l w h bs b) o f a =
    record { k = k; l = l; w = w; h = h; bs = bs; b = b; is = refl; parts = let_parts k l w h bs b f a (let_closes x k l w h bs b f.valid a) (list_count bs ∙ sym (x.sees k l w h bs b f.valid a).count) }
seen x (BQ s) o f a = absurd o
seen x (BV s) o f a = absurd o
seen x (BC l bs t) o f a = absurd o
seen x (BM l g) o f a = absurd o
seen x (BF l w ca c a' b) o f a = absurd o

-- bindings with their own patterns
pub own_same : (bs : List Binding) → with_patterns (own_patterns bs) bs ≡ bs
unfolding with_patterns own_patterns
own_same [] = refl
own_same (x ∷ xs) = cc (with_own x, own_same xs)

-- as many
pub own_many : (bs : List Binding) → length (own_patterns bs) ≡ length bs
unfolding own_patterns
own_many [] = refl
own_many (x ∷ xs) = ap suc (own_many xs)

-- valid ones
pub own_valid : (F d : ℕ) (bs : List Binding) → Each (FineBinding F d) bs → Each ValidPattern (own_patterns bs)
unfolding own_patterns Each binding_pattern BindingFields
own_valid F d [] e = tt
own_valid F d (BB l nl q b ∷ xs) e = (e.0.fields.2, own_valid F d xs e.1)

-- heads are parts of bindings, and patterns of heads
pub heads_short : (bs : List Binding) → length (joined head_bytes bs) ≤ length (joined binding_bytes bs)
unfolding joined
heads_short [] = omega arith
heads_short (x ∷ xs) =
    omega (arith, heads_short xs, length-append (head_bytes x) (joined head_bytes xs), length-append (binding_bytes x) (joined binding_bytes xs), ap length (binding_is x), length-append (head_bytes x) (body_bytes (binding_body x)))

-- how long heads are
pub heads_are : (F d : ℕ) (ps : List Pattern) (bs : List Binding) → length ps ≡ length bs → Each (FineBinding F d) bs → heads ps bs ≡ 10 * length bs + length (joined pattern_field ps)
unfolding joined with_patterns Each
heads_are F d [] [] n e = omega arith
heads_are F d [] (x ∷ xs) n e = absurd (omega arith)
heads_are F d (p ∷ ps) [] n e = absurd (omega arith)
heads_are F d (p ∷ ps) (x ∷ xs) n e =
    omega (arith, heads_are F d ps xs (omega arith) e.1, head_length p x e.0.fields, length-append (head_bytes (with_pattern p x)) (joined head_bytes (with_patterns ps xs)), length-append (pattern_field p) (joined pattern_field ps))

-- ten bytes of each
pub tens_short : (F d : ℕ) (bs : List Binding) → Each (FineBinding F d) bs → 10 * length bs ≤ length (joined binding_bytes bs)
unfolding joined Each
tens_short F d [] e = omega arith
tens_short F d (x ∷ xs) e =
    omega (arith, tens_short F d xs e.1, own_length x e.0.fields, length-append (binding_bytes x) (joined binding_bytes xs), ap length (binding_is x), length-append (head_bytes x) (body_bytes (binding_body x)))

-- the head is copied, and what bindings become stands behind it
module _ {F d first count free : ℕ} {old mid y : Bytes} {k : Kind} {l : Loc} {w h : Bytes} {bs : Bindings} {b : Body} (x : Let F d old first count k l w h bs b)
    (low : first + (length (joined binding_bytes (list_of bs)) + length (body_bytes b)) ≤ free) (f : Filled old mid free (drop 0 old) first) (top : ℕ) (far : first + top ≤ length old) (wide : free ≤ top)
    (s : SameOutside (from mid first) y free top) where
  -- the part lies within memory
  fit : first + (length mid - first) ≤ length mid
  fit = omega (arith, f.frame.size)

  -- what has changed
  pub half_frame : SameOutside old (rejoin mid first y) free (first + top)
  half_frame =
      same_then free (first + top) (omega arith) (omega arith) (omega arith) (omega arith) f.frame (same_back mid first (length mid - first) fit s (omega (arith, f.frame.size)) (omega (arith, f.frame.size)))

  -- and since the copy
  after_frame : SameOutside mid (rejoin mid first y) (first + free) (first + top)
  after_frame = same_back mid first (length mid - first) fit s (omega (arith, f.frame.size)) (omega (arith, f.frame.size))

  -- the head
  pub half_head : At (rejoin mid first y) free (let_head k l w h count)
  half_head =
      at_below after_frame (copied_at 0 free f (omega arith) x.head (omega arith) (omega (arith, x.width)) (omega arith)) (omega (arith, x.width))

  -- the bindings
  pub half_out : {us : Bytes} → At y free us → At (rejoin mid first y) (free + first) us
  half_out a = at_place (free + first) (omega arith) (at_back mid first (length mid - first) fit y (s.size ∙ part_length mid first (length mid - first) fit) a)

  -- the body still stands where it did
  pub half_last : At (rejoin mid first y) (first + length (joined binding_bytes (list_of bs))) (body_bytes b)
  half_last = at_below half_frame x.last (omega arith)
