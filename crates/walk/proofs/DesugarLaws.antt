-- A sequential let as nested parallel lets: the let of one binding written, and what the bindings that are left give. Assumes nothing.
use mathlib.Core.Path.{◌≡◌, refl, sym, ap, subst, ◌∙◌}
use mathlib.Core.List.{List, [], ◌∷◌, ◌++◌, flatten, append_assoc, append-nil}
use native.Mathlib.Omega.{arith}
use Prim.Native.Nat.{ℕ, ◌+◌, ◌-◌, ◌≤◌, ◌<◌}
use lib.ListN.{length, take, drop, length-append, length-drop}
use lib.Seq.{take-take, length-take-le}
use Rattle.names.specs.Maps.{NameMap}
use Rattle.names.specs.Names.{Bytes, ascii}
use Rattle.names.specs.Segments.{At, SameOutside, Filled}
use Rattle.names.specs.declared.Refusal.{Refusal}
use Rattle.names.proofs.Frames.{same_refl, same_then, at_below, filled_at}
use Rattle.names.proofs.Places.{at_whole, at_own, at_place, at_is, at_left, at_right}
use Rattle.names.proofs.Segments.{filled_then}
use Rattle.records.specs.StepAnswer.{Gives, gave, refused}
use Rattle.records.specs.Depth.{depth}
use Rattle.records.specs.Records.{head_width, mark_width, Loc, Pattern, Body, BL, BQ, BV, BC, BM, BF, Binding, BB, []ᵍ, ◌∷ᵍ◌, byte, kind_field, list_of, loc_width, pattern_field, body_bytes, binding_bytes, bindings_bytes, bindings_count, record_bytes}
use Rattle.records.specs.declared.Kind.TheVariants.{Parallel, Sequential}
use Rattle.records.specs.Valid.{ValidLoc, BodyFields, BindingFields, lambda_depth, ValidBody, IsLet}
use Rattle.records.specs.declared.Family.TheVariants.{Binding as a_binding}
use Rattle.records.specs.declared.Step.{Step}
use Rattle.records.proofs.StepAnswers.{made, unmade}
use Rattle.records.specs.Lists.{joined, Each}
use Rattle.records.specs.Parts.{Skips, family_part, ValidBinding}
use Rattle.records.proofs.Lists.{list_count, list_bytes, list_valid}
use Rattle.records.specs.Views.{SeesLet}
use Rattle.records.specs.declared.LetView.{LetView}
use Rattle.walk.specs.Arena.{MapAt, Asks, fitting}
use Rattle.walk.specs.Steps.{over_long}
use Rattle.walk.specs.Bodyforms.{desugar_sequential_let_bindings}
use Rattle.walk.specs.Leaves.{ValidKind, KeepsBody, Desugars, desugared, Left, left_bytes, ValidLeft, Nests, let_head, let_of}
use Rattle.walk.specs.declared.Task.{Task}
use Rattle.walk.proofs.Fits.{Headed, done_is, whole, headed_refused, headed_done, read_wrote, fitting_long}
use Rattle.walk.proofs.MapLaws.{map_after}
use Rattle.walk.proofs.OnParts.{from, rejoin, asks_part, part_frame, part_gives}
use Rattle.std.specs.declared.result.Result.{Result}
use Rattle.std.specs.declared.result.Result.TheVariants.{Err}
use Rattle.records.specs.StepAnswer.{step_of}

-- the bytes of a let of one binding before its body, of its L and the binding's bytes
abbrev let_bytes : Loc → Bytes → Bytes
let_bytes l b = (ascii "BL" ++ kind_field Parallel) ++ (l ++ ((byte 0 ++ (byte 0 ++ byte 1)) ++ b))

let_bytes_length : (l : Loc) (b : Bytes) → length l ≡ loc_width → length (let_bytes l b) ≡ let_head + length b
unfolding ascii kind_field byte
let_bytes_length l b e = omega (arith, length-append l (0 ∷ 0 ∷ 1 ∷ b))

-- bytes below free are copied, after changes from free on
copied : {xs a b : Bytes} {lo hi p k : ℕ} (s : ℕ) → SameOutside xs a lo hi → Filled a b p (drop s a) k → s + k ≤ lo → lo ≤ length xs
    → Filled a b p (take k (drop s xs)) (length (take k (drop s xs)))
copied {xs} {a} {b} {p = p} {k} s same f le fit =
    let v = take k (drop s xs) in
    let own = at_own xs s k (omega arith) in
    let l : length v ≡ k = length-take-le k (drop s xs) (omega (arith, length-drop s xs)) in
    let e : take k (drop s a) ≡ v = at_is s k refl (sym l) (at_below same own (omega arith)) in
    subst (Filled a b p v) (sym l) record { frame = f.frame; got = f.got ∙ e ∙ sym (take-take k k (drop s xs) (omega arith)) }

-- the let of one binding is written: mark and kind; L; K, hint and count; the binding
pub let_written : {xs a b d ys : Bytes} {free n p q s : ℕ} → Filled xs a free (ascii "BL" ++ kind_field Parallel) (mark_width + 1)
    → Filled a b p (drop mark_width a) loc_width → Filled b d q (byte 0 ++ (byte 0 ++ byte 1)) 3
    → Filled d ys s (drop 0 d) n → p ≡ free + mark_width + 1 → q ≡ p + loc_width → s ≡ free + let_head → head_width ≤ n → n ≤ free
    → free + (let_head + n) ≤ length xs → Filled xs ys free (let_of xs n) (let_head + n)
unfolding ascii kind_field byte
let_written {xs} {a} {b} {d} {ys} {free} {n} {p} {q} {s} f g h k e1 e2 e3 lo le fit =
    let l = take loc_width (drop mark_width xs) in
    let t = take n xs in
    let lt : length t ≡ n = length-take-le n xs (omega arith) in
    let ll : length l ≡ loc_width = length-take-le loc_width (drop mark_width xs) (omega (arith, length-drop mark_width xs)) in
    let sb : SameOutside xs b free (free + let_head) = same_then free (free + let_head) (omega arith) (omega arith) (omega arith) (omega arith) f.frame g.frame in
    let sd : SameOutside xs d free (free + let_head) = same_then free (free + let_head) (omega arith) (omega arith) (omega arith) (omega arith) sb h.frame in
    let g1 : Filled a b p l (length l) = copied mark_width f.frame g (omega arith) (omega arith) in
    let k1 : Filled d ys s t (length t) = copied 0 sd k (omega arith) (omega arith) in
    let l1 = length-append (0 ∷ 0 ∷ 1 ∷ []) t in
    let l2 = length-append l (0 ∷ 0 ∷ 1 ∷ t) in
    let hk : Filled b ys q (0 ∷ 0 ∷ 1 ∷ t) (length (0 ∷ 0 ∷ 1 ∷ t)) = filled_then {us = 0 ∷ 0 ∷ 1 ∷ []} h k1 (omega arith) (omega (arith, sb.size)) in
    let gk : Filled a ys p (l ++ (0 ∷ 0 ∷ 1 ∷ t)) (length (l ++ (0 ∷ 0 ∷ 1 ∷ t))) = filled_then g1 hk (omega arith) (omega (arith, f.frame.size)) in
    let e : length (let_of xs n) ≡ let_head + n = omega arith in
    subst (Filled xs ys free (let_of xs n)) e (filled_then {us = ascii "BL" ++ kind_field Parallel} f gk (omega arith) (omega arith))

-- no binding is left
pub body_left : {mem : Bytes} {left : ℕ} {t : Task} → left ≡ 0 → Asks left_bytes (ValidLeft left) mem t → Asks body_bytes ValidBody mem t
unfolding joined
body_left {mem} {left} {t} z p = go p.tree.0 p.good.many p.there p.below
  where
    go : (bs : List Binding) → length bs ≡ left → At mem 0 (left_bytes (bs, p.tree.1)) → length (left_bytes (bs, p.tree.1)) ≤ t.free → Asks body_bytes ValidBody mem t
    go [] e there below = record { tree = p.tree.1; good = p.good.body; there = there; below = below; m = p.m; map = p.map; room = p.room }
    go (y ∷ ys) e there below = absurd (omega arith)

pub nests_none : {left : ℕ} {old new : Bytes} {t : Task} {r : Result Step Refusal} → left ≡ 0 → KeepsBody old new t r → Nests left old new t r
unfolding joined desugar_sequential_let_bindings
nests_none {left} {old} {new} {t} {r} z k = record { frame = k.frame; says = λ m map x there below v. go m map x.0 x.1 there below v }
  where
    go : (m : NameMap) → MapAt old t.map m → (bs : List Binding) (b : Body) → At old 0 (left_bytes (bs, b)) → length (left_bytes (bs, b)) ≤ t.free → ValidLeft left (bs, b)
        → Gives body_bytes new t.free (length (left_bytes (bs, b))) (fitting body_bytes t.f t.counter (desugar_sequential_let_bindings bs b)) r
    go m map [] b there below v = k.says m map b there below v.body
    go m map (y ∷ ys) b there below v = absurd (omega (arith, v.many))

-- the first binding that is left, of n bytes, and the let that it becomes around a body
pub record First (mem : Bytes) (n : ℕ) (bs : List Binding) (b : Body) : Type 0 where
  pub rest : List Binding
  pub around : Body → Body
  pub is : desugar_sequential_let_bindings bs b ≡ around (desugar_sequential_let_bindings rest b)
  pub parts : (d : Body) → Headed body_bytes body_bytes (let_of mem n) (let_head + n) d (around d)
  pub count : length bs ≡ 1 + length rest
  pub size : length (left_bytes (bs, b)) ≡ n + length (left_bytes (rest, b))
  pub long : head_width ≤ n
  pub bindings : Each ValidBinding rest
  pub there : At mem n (left_bytes (rest, b))

binding_is : (l nl : Loc) (p : Pattern) (e : Body) → binding_bytes (BB l nl p e) ≡ ascii "BB" ++ (l ++ flatten (nl ∷ pattern_field p ∷ body_bytes e ∷ []))
unfolding binding_bytes record_bytes flatten
binding_is l nl p e = refl

let_is : (l nl : Loc) (p : Pattern) (e d : Body)
    → body_bytes (BL Parallel l (byte 0) (byte 0) (BB l nl p e ∷ᵍ []ᵍ) d) ≡ let_bytes l (binding_bytes (BB l nl p e)) ++ body_bytes d
unfolding body_bytes record_bytes flatten bindings_bytes bindings_count byte
let_is l nl p e d = simp (append_assoc, append-nil)

-- where a binding of n bytes stands at the start, its let begins so
let_of_is : {mem : Bytes} {n : ℕ} (l nl : Loc) (p : Pattern) (e : Body) → ValidLoc l → At mem 0 (binding_bytes (BB l nl p e))
    → n ≡ length (binding_bytes (BB l nl p e)) → let_of mem n ≡ let_bytes l (binding_bytes (BB l nl p e))
unfolding ascii
let_of_is {mem} {n} l nl p e w a z =
    let more = flatten (nl ∷ pattern_field p ∷ body_bytes e ∷ []) in
    let x : take n mem ≡ binding_bytes (BB l nl p e) = at_is 0 n refl z a in
    let y : take loc_width (drop mark_width mem) ≡ l =
    at_is mark_width loc_width refl (sym w.width) (at_left l more (at_right (ascii "BB") (l ++ more) (subst (At mem 0) (binding_is l nl p e) a))) in
    cc

pub first : {mem : Bytes} {n : ℕ} → Skips (family_part a_binding) mem n → (bs : List Binding) (b : Body) → 0 < length bs → Each ValidBinding bs → At mem 0 (left_bytes (bs, b))
    → First mem n bs b
unfolding joined Each desugar_sequential_let_bindings BindingFields ascii
first sk [] b z v x = absurd (omega arith)
first {mem} {n} sk (BB l nl p e ∷ bs) b z v x =
    let one = binding_bytes (BB l nl p e) in
    let a = subst (At mem 0) (append_assoc one (joined binding_bytes bs) (body_bytes b)) x in
    let here = at_left one (left_bytes (bs, b)) a in
    let sz = sk.skips (BB l nl p e) v.0 here in
    let w = v.0.0.0 in
    let sum : length (left_bytes (BB l nl p e ∷ bs, b)) ≡ length one + length (left_bytes (bs, b)) =
    ap length (append_assoc one (joined binding_bytes bs) (body_bytes b)) ∙ length-append one (left_bytes (bs, b)) in
    let more = flatten (nl ∷ pattern_field p ∷ body_bytes e ∷ []) in
    record {
      rest = bs;
      around = BL Parallel l (byte 0) (byte 0) (BB l nl p e ∷ᵍ []ᵍ);
      is = refl;
      parts = λ d. record {
        width = ap length (let_of_is l nl p e w here sz) ∙ omega (arith, let_bytes_length l one w.width);
        bytes = let_is l nl p e d ∙ ap (λ (y : Bytes). y ++ body_bytes d) (sym (let_of_is l nl p e w here sz));
      };
      count = omega arith;
      size = omega arith;
      long = omega (arith, ap length (binding_is l nl p e), length-append (ascii "BB") (l ++ more), length-append l more);
      bindings = v.1;
      there = at_place n (omega arith) (at_right one (left_bytes (bs, b)) a);
    }

-- a binding of n bytes is left
module _ {mem : Bytes} {n left : ℕ} (sk : Skips (family_part a_binding) mem n) (some : 0 < left) where
  first_of : (x : Left) → ValidLeft left x → At mem 0 (left_bytes x) → First mem n x.0 x.1
  first_of x v there = first sk x.0 x.1 (omega (arith, v.many)) v.bindings there

  pub nested_no_room : {t : Task} {r : Result Step Refusal} → r ≡ Err over_long → t.f < let_head + n → Nests left mem mem t r
  nested_no_room {t} is lt =
      record {
        frame = same_refl;
        says = λ m map x there below v.
            let k = first_of x v there in
            let d = desugar_sequential_let_bindings k.rest x.1 in
            let long = fitting_long body_bytes t.f t.counter (k.around d) (omega (arith, whole (k.parts d))) in
            refused over_long (ap (fitting body_bytes t.f t.counter) k.is ∙ long) is;
      }

  module _ {t : Task} (p : Asks left_bytes (ValidLeft left) mem t) where
    pub here : First mem n p.tree.0 p.tree.1
    here = first_of p.tree p.good p.there

    pub first_low : n ≤ t.free
    first_low = omega (arith, here.size, p.below)

    -- what the others are given
    abbrev rest_task : Task
    rest_task = record { free = t.free + let_head; map = t.map; f = t.f - (let_head + n); depth = t.depth; counter = t.counter }

    -- the let of the first is written at free
    module _ {a : Bytes} (w : Filled mem a t.free (let_of mem n) (let_head + n)) (le : let_head + n ≤ t.f) where
      fit : n + (t.free + let_head) + (t.f - (let_head + n)) + t.map ≤ length a
      fit = omega (arith, w.frame.size, p.room)

      valid_rest : {x : Left} → ValidLeft left x → (k : First mem n x.0 x.1) → ValidLeft (left - 1) (k.rest, x.1)
      valid_rest v k = record { many = omega (arith, v.many, k.count); bindings = k.bindings; body = v.body }

      pub rest_asks : Asks left_bytes (ValidLeft (left - 1)) (from a n) rest_task
      rest_asks =
          let k = here in
          asks_part n (k.rest, p.tree.1) (valid_rest p.good k) (at_below w.frame k.there (omega (arith, k.size, p.below))) (omega (arith, k.size, p.below))
          (map_after w.frame (omega (arith, p.room)) p.map) fit

      -- the others are answered
      module _ {y : Bytes} {r : Result Step Refusal} (s : Nests (left - 1) (from a n) y rest_task r) where
        abbrev end : Bytes
        end = rejoin a n y

        rest_frame : SameOutside a end (t.free + (let_head + n)) (t.free + t.f)
        rest_frame = part_frame n fit s (t.free + (let_head + n)) (t.free + t.f) (omega arith) (omega arith)

        framed : SameOutside mem end t.free (t.free + t.f)
        framed = same_then t.free (t.free + t.f) (omega arith) (omega arith) (omega arith) (omega arith) w.frame rest_frame

        module _ {m : NameMap} (map : MapAt mem t.map m) {x : Left} (v : ValidLeft left x) (k : First mem n x.0 x.1) (below : length (left_bytes x) ≤ t.free) where
          abbrev inner : Body
          inner = desugar_sequential_let_bindings k.rest x.1

          rest_gives : Gives body_bytes end (t.free + (let_head + n)) (length (left_bytes (k.rest, x.1))) (fitting body_bytes (t.f - (let_head + n)) t.counter inner) r
          rest_gives =
              part_gives n fit s (t.free + (let_head + n)) (omega arith) (map_after w.frame (omega (arith, p.room)) map) (k.rest, x.1)
              (at_below w.frame k.there (omega (arith, k.size))) (omega (arith, k.size)) (valid_rest v k)

          written : At end t.free (let_of mem n)
          written =
              let l = (k.parts x.1).width in
              at_below rest_frame (filled_at t.free w (omega (arith, p.room)) (at_whole (let_of mem n)) (omega arith) (omega arith)) (omega arith)

          -- what is read and written
          sums : (i j d : ℕ) → r ≡ step_of i j d → (n + i ≡ length (left_bytes x)) × (let_head + n + j ≤ t.f)
          sums i j d q =
              let g = read_wrote (k.parts inner) t.free t.f t.counter le rest_gives i j d q in
              (omega (arith, g.0, k.size), g.1)

        pub nested_sums : (i j d : ℕ) → r ≡ step_of i j d → (n + i ≤ t.free) × (let_head + n + j ≤ t.f)
        nested_sums i j d q = let k = sums p.map p.good here p.below i j d q in (omega (arith, k.0, p.below), k.1)

        pub nested_refused : (i : Refusal) → r ≡ Err i → Nests left mem end t (Err i)
        nested_refused i q =
            record {
              frame = framed;
              says = λ m map x there below v.
                  let k = first_of x v there in
                  subst (λ (d : Body). Gives body_bytes end t.free (length (left_bytes x)) (fitting body_bytes t.f t.counter d) (Err i)) (sym k.is)
                  (headed_refused (k.parts (inner map v k below)) t.free t.f t.counter le (rest_gives map v k below) i q);
            }

        pub nested_done : (i j d : ℕ) → r ≡ step_of i j d → Nests left mem end t (step_of (n + i) (let_head + n + j) d)
        nested_done i j d q =
            record {
              frame = framed;
              says = λ m map x there below v.
                  let k = first_of x v there in
                  subst (λ (u : Body). Gives body_bytes end t.free (length (left_bytes x)) (fitting body_bytes t.f t.counter u) (step_of (n + i) (let_head + n + j) d)) (sym k.is)
                  (headed_done (k.parts (inner map v k below)) t.free t.f t.counter le (rest_gives map v k below) i j d q (written map v k below)
                  (sums map v k below i j d q).0);
            }

-- a let at the start: its bindings and its body, and what it is desugared to
record Let (mem : Bytes) (v : LetView) (b : Body) : Type 0 where
  x : Left
  is : desugared b ≡ desugar_sequential_let_bindings x.0 x.1
  valid : ValidLeft v.count x
  size : length (body_bytes b) ≡ v.first + length (left_bytes x)
  there : At mem v.first (left_bytes x)

let_of_view : {mem : Bytes} {v : LetView} → SeesLet mem v → (t : Body) → ValidKind (IsLet Sequential) t → At mem 0 (body_bytes t) → Let mem v t
unfolding IsLet BodyFields depth lambda_depth flatten desugared
let_of_view {mem} {v} x (BL k l w h bs b) i a =
    let f = i.valid in
    let c = x.closes k l w h bs b f a in
    let e : bindings_bytes bs ++ (body_bytes b ++ []) ≡ left_bytes (list_of bs, b) =
    ap (λ (y : Bytes). bindings_bytes bs ++ y) (append-nil (body_bytes b)) ∙ ap (λ (y : Bytes). y ++ body_bytes b) (sym (list_bytes bs)) in
    record {
      x = (list_of bs, b);
      is = refl;
      valid = record {
        many = sym ((x.sees k l w h bs b f a).count ∙ sym (list_count bs));
        bindings = list_valid bs f.0.4 (omega arith) (omega arith);
        body = (f.0.5, omega arith, omega arith);
      };
      size = omega (arith, c.whole, ap length e);
      there = subst (At mem v.first) e c.there.there;
    }
let_of_view x (BQ s) i a = absurd i.only
let_of_view x (BV s) i a = absurd i.only
let_of_view x (BC l bs t) i a = absurd i.only
let_of_view x (BM l g) i a = absurd i.only
let_of_view x (BF l w ca k u b) i a = absurd i.only

module _ {mem : Bytes} {v : LetView} {t : Task} (x : SeesLet mem v) (p : Asks body_bytes (ValidKind (IsLet Sequential)) mem t) where
  the_let : Let mem v p.tree
  the_let = let_of_view x p.tree p.good p.there

  pub let_low : v.first ≤ t.free
  let_low = omega (arith, the_let.size, p.below)

  -- what its bindings are given
  abbrev let_task : Task
  let_task = record { free = t.free - v.first; map = t.map; f = t.f; depth = t.depth; counter = t.counter }

  let_fit : v.first + (t.free - v.first) + t.f + t.map ≤ length mem
  let_fit = omega (arith, let_low, p.room)

  pub let_asks : Asks left_bytes (ValidLeft v.count) (from mem v.first) let_task
  let_asks = let k = the_let in asks_part v.first k.x k.valid k.there (omega (arith, k.size, p.below)) p.map let_fit

  -- their answer, of the whole
  module _ {y : Bytes} {r : Result Step Refusal} (s : Nests v.count (from mem v.first) y let_task r) where
    abbrev all : Bytes
    all = rejoin mem v.first y

    all_frame : SameOutside mem all t.free (t.free + t.f)
    all_frame = let l = let_low in part_frame v.first let_fit s t.free (t.free + t.f) (omega arith) (omega arith)

    all_gives : {m : NameMap} {b : Body} → MapAt mem t.map m → (k : Let mem v b) → length (body_bytes b) ≤ t.free
        → Gives body_bytes all t.free (length (left_bytes k.x)) (fitting body_bytes t.f t.counter (desugared b)) r
    all_gives map k le =
        let l = let_low in
        rw k.is (part_gives v.first let_fit s t.free (omega arith) map k.x k.there (omega (arith, k.size)) k.valid)

    pub let_refused : (k : Refusal) → r ≡ Err k → Desugars mem all t (Err k)
    let_refused k e =
        record {
          frame = all_frame;
          says = λ m map b there below good. refused k (unmade k e (all_gives map (let_of_view x b good there) below)) refl;
        }

    pub let_done : (i j d : ℕ) → r ≡ step_of i j d → Desugars mem all t (step_of (v.first + i) j d)
    let_done i j d e =
        record {
          frame = all_frame;
          says = λ m map b there below good.
              let k = let_of_view x b good there in
              let z = made i j d e (all_gives map k below) in
              gave z.u d z.is (done_is (omega (arith, z.read, k.size)) z.wrote refl) z.out;
        }

    -- what is read
    pub let_read : (i j d : ℕ) → r ≡ step_of i j d → v.first + i ≤ t.free
    let_read i j d e = let z = made i j d e (all_gives p.map the_let p.below) in omega (arith, z.read, the_let.size, p.below)
