-- The B records that go no level down: which of them a rule keeps, and a BQ or BV by the map. Assumes nothing.
use mathlib.Core.Path.{◌≡◌, refl, sym, ap, subst}
use mathlib.Core.List.{◌++◌, flatten, append-nil}
use native.Mathlib.Omega.{arith}
use Prim.Native.Nat.{ℕ, ◌+◌, ◌-◌, ◌≤◌, ◌<◌}
use lib.ListN.{length, drop}
use Rattle.names.specs.Maps.{NameMap}
use Rattle.names.specs.Names.{Bytes, ascii}
use Rattle.names.specs.Segments.{At, SameOutside, Filled}
use Rattle.names.specs.declared.Refusal.{Refusal}
use Rattle.names.proofs.Frames.{same_refl, same_then, at_below, copied_at}
use Rattle.records.specs.StepAnswer.{Outcome, Gives, refused}
use Rattle.records.specs.Records.{mark_width, Loc, Sexp, Body, BL, BQ, BV, BC, BM, BF, Form, sexp_bytes, body_bytes, record_bytes}
use Rattle.records.specs.Valid.{SexpFields, BodyFields}
use Rattle.records.specs.declared.Step.{Step}
use Rattle.walk.specs.Arena.{MapAt, Asks, Substitutes, fitting, outcome}
use Rattle.walk.specs.Bodyforms.{Rules, body_rules, log_assign, rename_args_bodyform, rename_in_quoted, rename_in_value, rename_in_bodyform}
use Rattle.walk.specs.Leaves.{IsQuoted, IsValue, IsKept, ValidKind, InBody, WithMark, with_mark_bytes, ValidWithMark, RenamesWithMark}
use Rattle.walk.specs.RenameInCons.{rename_atom}
use Rattle.walk.specs.Steps.{ret, body_size, step, over_long}
use Rattle.walk.specs.declared.Task.{Task}
use Rattle.walk.proofs.Fits.{Headed, whole, head_at, rest_at, headed_refused, headed_done, read_wrote, fitting_long, same_bytes}
use Rattle.walk.proofs.MapLaws.{map_after}
use Rattle.walk.proofs.OnParts.{from, rejoin, asks_part, part_frame, part_gives}
use Rattle.walk.proofs.StepLaws.{step_fits}
use Rattle.std.specs.declared.result.Result.{Result}
use Rattle.std.specs.declared.result.Result.TheVariants.{Err}
use Rattle.records.specs.StepAnswer.{step_of}

-- a step that makes one record of another and holds nothing
one_record : (F c x : ℕ) (b : Body) → outcome (step F body_size (ret b) c x) ≡ fitting body_bytes F c b
unfolding body_size
one_record = step_fits body_bytes

module _ (F : ℕ) (q : Rules) (c x : ℕ) where
  -- Own keeps a BQ, a BV and a BM
  pub args_keeps : (b : Body) → IsKept b → outcome ((body_rules F q).args_bodyform b c x) ≡ fitting body_bytes F c b
  unfolding IsKept body_rules log_assign rename_args_bodyform
  args_keeps (BL k l w h bs b) p = absurd p
  args_keeps (BQ s) p = one_record F c x (BQ s)
  args_keeps (BV s) p = one_record F c x (BV s)
  args_keeps (BC l bs t) p = absurd p
  args_keeps (BM l f) p = one_record F c x (BM l f)
  args_keeps (BF l w ca k a b) p = absurd p

  module _ (m : NameMap) where
    -- In-body keeps a BM
    pub in_mod : (l : Loc) (f : Form) → outcome ((body_rules F q).in_bodyform m (BM l f) c x) ≡ fitting body_bytes F c (BM l f)
    unfolding body_rules rename_in_bodyform
    in_mod l f = one_record F c x (BM l f)

    -- and has the atom of a BQ and of a BV by the map
    pub in_quoted : (s : Sexp) → outcome ((body_rules F q).in_bodyform m (BQ s) c x) ≡ fitting body_bytes F c (BQ (rename_atom m s))
    unfolding body_rules rename_in_bodyform rename_in_quoted
    in_quoted s = one_record F c x (BQ (rename_atom m s))

    pub in_value : (s : Sexp) → outcome ((body_rules F q).in_bodyform m (BV s) c x) ≡ fitting body_bytes F c (BV (rename_atom m s))
    unfolding body_rules rename_in_bodyform rename_in_value
    in_value s = one_record F c x (BV (rename_atom m s))

-- b has the bytes of a mark and an S record, and In-body has the S record by the map
record Value (b : Body) : Type 0 where
  x : WithMark
  valid : ValidWithMark x
  of : Sexp → Body
  bytes : with_mark_bytes x ≡ body_bytes b
  others : (u : Sexp) → with_mark_bytes (x.0, u) ≡ body_bytes (of u)
  rule : (F : ℕ) (q : Rules) (c : ℕ) (m : NameMap) → outcome ((body_rules F q).in_bodyform m b c 0) ≡ fitting body_bytes F c (of (rename_atom m x.1))

quoted_bytes : (s : Sexp) → ascii "BQ" ++ sexp_bytes s ≡ body_bytes (BQ s)
unfolding body_bytes record_bytes flatten ascii
quoted_bytes s = simp append-nil

value_bytes : (s : Sexp) → ascii "BV" ++ sexp_bytes s ≡ body_bytes (BV s)
unfolding body_bytes record_bytes flatten ascii
value_bytes s = simp append-nil

quoted : (b : Body) → ValidKind IsQuoted b → Value b
unfolding IsQuoted BodyFields ascii
quoted (BL k l w h bs b) v = absurd v.only
quoted (BQ s) v =
    record {
      x = (ascii "BQ", s);
      valid = record { mark = refl; fields = v.valid.0.0 };
      of = BQ;
      bytes = quoted_bytes s;
      others = quoted_bytes;
      rule = λ F q c m. in_quoted F q c 0 m s;
    }
quoted (BV s) v = absurd v.only
quoted (BC l bs t) v = absurd v.only
quoted (BM l f) v = absurd v.only
quoted (BF l w ca k a b) v = absurd v.only

value : (b : Body) → ValidKind IsValue b → Value b
unfolding IsValue BodyFields ascii
value (BL k l w h bs b) v = absurd v.only
value (BQ s) v = absurd v.only
value (BV s) v =
    record {
      x = (ascii "BV", s);
      valid = record { mark = refl; fields = v.valid.0.0 };
      of = BV;
      bytes = value_bytes s;
      others = value_bytes;
      rule = λ F q c m. in_value F q c 0 m s;
    }
value (BC l bs t) v = absurd v.only
value (BM l f) v = absurd v.only
value (BF l w ca k a b) v = absurd v.only

-- of a kind of records that are so
module _ {Only : Body → Type 0} (see : (b : Body) → ValidKind Only b → Value b) {mem : Bytes} {t : Task} where
  asks_behind : Asks body_bytes (ValidKind Only) mem t → Asks with_mark_bytes ValidWithMark mem t
  asks_behind p =
      let v = see p.tree p.good in
      let l = ap length v.bytes in
      record {
        tree = v.x;
        good = v.valid;
        there = subst (At mem 0) (sym v.bytes) p.there;
        below = omega (arith, p.below);
        m = p.m;
        map = p.map;
        room = p.room;
      }

  renames_behind : {new : Bytes} {r : Result Step Refusal} → RenamesWithMark mem new t r → InBody Only mem new t r
  renames_behind {new} {r} s q =
      record {
        frame = s.frame;
        says = λ m map b there below good.
            let v = see b good in
            let l = ap length v.bytes in
            let u = rename_atom m v.x.1 in
            let g = s.says m map v.x (subst (At mem 0) (sym v.bytes) there) (omega arith) v.valid in
            let k = same_bytes with_mark_bytes body_bytes t.f t.counter (v.x.0, u) (v.of u) (v.others u) g in
            subst (λ (o : Outcome Body). Gives body_bytes new t.free (length (body_bytes b)) o r) (sym (v.rule t.f q t.counter m)) (rw v.bytes at k);
      }

pub asks_quoted : {mem : Bytes} {t : Task} → Asks body_bytes (ValidKind IsQuoted) mem t → Asks with_mark_bytes ValidWithMark mem t
asks_quoted = asks_behind quoted

pub asks_value : {mem : Bytes} {t : Task} → Asks body_bytes (ValidKind IsValue) mem t → Asks with_mark_bytes ValidWithMark mem t
asks_value = asks_behind value

pub renames_quoted : {mem new : Bytes} {t : Task} {r : Result Step Refusal} → RenamesWithMark mem new t r → InBody IsQuoted mem new t r
renames_quoted = renames_behind quoted

pub renames_value : {mem new : Bytes} {t : Task} {r : Result Step Refusal} → RenamesWithMark mem new t r → InBody IsValue mem new t r
renames_value = renames_behind value

-- a mark and an S record behind it
mark_parts : {x : WithMark} → ValidWithMark x → (u : Sexp) → Headed sexp_bytes with_mark_bytes x.0 mark_width u (x.0, u)
mark_parts v u = record { width = v.mark; bytes = refl }

pub mark_no_room : {mem : Bytes} {t : Task} {r : Result Step Refusal} → r ≡ Err over_long → t.f < mark_width → RenamesWithMark mem mem t r
mark_no_room {t = t} is lt =
    record {
      frame = same_refl;
      says = λ m map x there below v.
          let u = rename_atom m x.1 in
          refused over_long (fitting_long with_mark_bytes t.f t.counter (x.0, u) (omega (arith, whole (mark_parts v u)))) is;
    }

-- what the S record is given
abbrev pub behind_task : Task → Task
behind_task t = record { free = t.free; map = t.map; f = t.f - mark_width; depth = t.depth; counter = t.counter }

-- the mark is copied to free
module _ {mem a : Bytes} {t : Task} (p : Asks with_mark_bytes ValidWithMark mem t) (w : Filled mem a t.free (drop 0 mem) mark_width) (le : mark_width ≤ t.f) where
  pub behind_asks : Asks sexp_bytes SexpFields (from a mark_width) (behind_task t)
  behind_asks =
      let x = p.tree in
      let k = mark_parts p.good x.1 in
      let n = whole k in
      asks_part mark_width x.1 p.good.fields (at_below w.frame (rest_at k p.there) (omega (arith, p.below))) (omega (arith, p.below))
      (map_after w.frame (omega (arith, p.room)) p.map) (omega (arith, w.frame.size, p.room))

  -- and the S record is answered
  module _ {y : Bytes} {r : Result Step Refusal} (s : Substitutes rename_atom (from a mark_width) y (behind_task t) r) where
    abbrev end : Bytes
    end = rejoin a mark_width y

    fit : mark_width + t.free + (t.f - mark_width) + t.map ≤ length a
    fit = omega (arith, w.frame.size, p.room)

    behind_frame : SameOutside a end (t.free + mark_width) (t.free + t.f)
    behind_frame = part_frame mark_width fit s (t.free + mark_width) (t.free + t.f) (omega arith) (omega arith)

    framed : SameOutside mem end t.free (t.free + t.f)
    framed = same_then t.free (t.free + t.f) (omega arith) (omega arith) (omega arith) (omega arith) w.frame behind_frame

    module _ {m : NameMap} (map : MapAt mem t.map m) {x : WithMark} (v : ValidWithMark x) (here : At mem 0 (with_mark_bytes x)) (below : length (with_mark_bytes x) ≤ t.free) where
      behind_gives : Gives sexp_bytes end (t.free + mark_width) (length (sexp_bytes x.1)) (fitting sexp_bytes (t.f - mark_width) t.counter (rename_atom m x.1)) r
      behind_gives =
          let k = mark_parts v x.1 in
          let n = whole k in
          part_gives mark_width fit s (t.free + mark_width) (omega arith) (map_after w.frame (omega (arith, p.room)) map) x.1
          (at_below w.frame (rest_at k here) (omega arith)) (omega arith) v.fields

      marked : At end t.free x.0
      marked =
          let k = v.mark in
          at_below behind_frame (copied_at 0 t.free w (omega (arith, p.room)) (head_at (mark_parts v x.1) here) (omega arith) (omega arith) (omega arith)) (omega arith)

      -- the sums that are answered
      sums : (i j d : ℕ) → r ≡ step_of i j d → (mark_width + i ≡ length (with_mark_bytes x)) × (mark_width + j ≤ t.f)
      sums i j d e =
          let k = read_wrote (mark_parts v (rename_atom m x.1)) t.free t.f t.counter le behind_gives i j d e in
          (omega (arith, k.0, whole (mark_parts v x.1)), k.1)

    pub behind_sums : (i j d : ℕ) → r ≡ step_of i j d → (mark_width + i ≤ t.free) × (mark_width + j ≤ t.f)
    behind_sums i j d e = let k = sums p.map p.good p.there p.below i j d e in (omega (arith, k.0, p.below), k.1)

    pub behind_refused : (k : Refusal) → r ≡ Err k → RenamesWithMark mem end t (Err k)
    behind_refused k e =
        record {
          frame = framed;
          says = λ m map x there below v.
              headed_refused (mark_parts v (rename_atom m x.1)) t.free t.f t.counter le (behind_gives map v there below) k e;
        }

    pub behind_done : (i j d : ℕ) → r ≡ step_of i j d → RenamesWithMark mem end t (step_of (mark_width + i) (mark_width + j) d)
    behind_done i j d e =
        record {
          frame = framed;
          says = λ m map x there below v.
              headed_done (mark_parts v (rename_atom m x.1)) t.free t.f t.counter le (behind_gives map v there below) i j d e (marked map v there below)
              (sums map v there below i j d e).0;
        }
