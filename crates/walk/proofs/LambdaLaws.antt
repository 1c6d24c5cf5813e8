-- Own of a BF: new names for its args, and Own and In-body of its body by them. Assumes nothing.
use mathlib.Core.Path.{◌≡◌, refl, sym, ap, subst, ◌∙◌}
use mathlib.Core.Bool.{true, false}
use mathlib.Core.List.{[], ◌++◌, flatten, append_assoc}
use native.Mathlib.Omega.{arith}
use Prim.Native.Nat.{ℕ, suc, ◌+◌, ◌*◌, ◌-◌, ◌≤◌}
use lib.ListN.{length, drop, length-append}
use Rattle.names.specs.Maps.{NameMap}
use Rattle.names.specs.Names.{Bytes}
use Rattle.names.specs.Segments.{At, SameOutside, Filled}
use Rattle.names.specs.declared.Refusal.{Refusal}
use Rattle.names.proofs.Frames.{same_then, same_wider, at_below, copied_at}
use Rattle.names.proofs.Parts.{into}
use Rattle.names.proofs.Places.{at_left, at_right, at_place, at_join}
use Rattle.records.specs.StepAnswer.{Outcome, gives, Gives, refused}
use Rattle.records.specs.Depth.{depth}
use Rattle.records.specs.Records.{Loc, Sexp, sexp_bytes, Body, BL, BQ, BV, BC, BM, BF, body_bytes}
use Rattle.records.specs.Valid.{ValidSexp, BodyFields, lambda_depth, NoMod}
use Rattle.records.specs.Views.{SeesLambda, lambda_head}
use Rattle.records.specs.declared.LambdaView.{LambdaView}
use Rattle.records.specs.declared.Step.{Step}
use Rattle.walk.specs.Arena.{MapAt, outcome}
use Rattle.walk.specs.Bodyforms.{walk, args_then_in, rename_args_bodyform}
use Rattle.walk.specs.Draws.{sexp_atoms, atoms, dbl}
use Rattle.walk.specs.NewNames.{ArgsReady, ArgsDrawn, DrawsArgs}
use Rattle.walk.specs.RenameInCons.{rename_in_cons}
use Rattle.walk.specs.Room.{room}
use Rattle.walk.specs.Steps.{M, ◌>>=◌, ret, body_size, step}
use Rattle.walk.specs.Walking.{rule, AnyBody, IsLambda, Fine, BodyReady, Walks, BothReady, WalksBoth, Leads, Finishes}
use Rattle.walk.specs.declared.Drawn.{Drawn}
use Rattle.walk.specs.declared.Piece.{Piece}
use Rattle.walk.specs.declared.Task.{Task}
use Rattle.walk.proofs.LambdaParts.{lambda_split, fine_parts, lambda_draws}
use Rattle.walk.proofs.NewNameLaws.{args_then, args_go_on, ArgsGot, args_got, args_halted}
use Rattle.walk.proofs.OnParts.{from, rejoin}
use Rattle.walk.proofs.MapLaws.{map_of_part}
use Rattle.walk.proofs.PartMaps.{map_back}
use Rattle.walk.proofs.Results.{some_level, room_down, counter_least, invent_draws}
use Rattle.walk.proofs.RunLaws.{own_step, step_refuses}
use Rattle.walk.proofs.Unique.{tells_of, unique_fine}
use Rattle.walk.proofs.Wholes.{from_length, whole_frame, whole_at, Led, took, halted, finished_gives}
use Rattle.std.specs.declared.result.Result.{Result}
use Rattle.std.specs.declared.result.Result.TheVariants.{Err}
use Rattle.walk.specs.RuleAnswers.{drawn_of}
use Rattle.walk.specs.RuleAnswers.{piece_of}

-- the bytes of a BF before its args
abbrev before_args : Loc → Bytes → Sexp → Body → Bytes
before_args l w ca c = lambda_head l w ++ (sexp_bytes ca ++ body_bytes c)

args_split : (l : Loc) (w : Bytes) (ca : Sexp) (c : Body) (a : Sexp) (b : Body) → body_bytes (BF l w ca c a b) ≡ before_args l w ca c ++ (sexp_bytes a ++ body_bytes b)
args_split l w ca c a b = lambda_split l w ca c a b ∙ simp append_assoc

args_length : (l : Loc) (w : Bytes) (ca : Sexp) (c : Body) (a : Sexp) (b : Body)
    → length (body_bytes (BF l w ca c a b)) ≡ length (before_args l w ca c) + length (sexp_bytes a) + length (body_bytes b)
args_length l w ca c a b =
    omega (arith, ap length (args_split l w ca c a b), length-append (before_args l w ca c) (sexp_bytes a ++ body_bytes b), length-append (sexp_bytes a) (body_bytes b))

-- a BF at the start of memory, whose args stand at `args`
pub record LambdaHere (old : Bytes) (args : ℕ) (t : Task) (tree : Body) : Type 0 where
  pub l : Loc
  pub w : Bytes
  pub ca : Sexp
  pub c : Body
  pub a : Sexp
  pub e : Body
  pub is : tree ≡ BF l w ca c a e
  pub args_valid : ValidSexp a
  pub body_fine : Fine AnyBody t.f (t.depth - 1) e
  pub head : At old 0 (before_args l w ca c)
  pub head_length : length (before_args l w ca c) ≡ args
  pub at_args : At old args (sexp_bytes a)
  pub at_body : At old (args + length (sexp_bytes a)) (body_bytes e)
  pub whole : length (body_bytes tree) ≡ args + length (sexp_bytes a) + length (body_bytes e)
  pub short : length (body_bytes tree) ≤ t.f
  pub level : t.depth ≡ suc (t.depth - 1)
  pub draws : sexp_atoms a + (dbl (t.depth - 1) (atoms e) + dbl (t.depth - 1) (atoms e)) ≤ dbl t.depth (atoms tree)

module _ {old : Bytes} {v : LambdaView} {t : Task} (see : SeesLambda old v) where
  lambda_of : (b : Body) → Fine IsLambda t.f t.depth b → At old 0 (body_bytes b) → LambdaHere old v.args t b
  unfolding IsLambda BodyFields depth lambda_depth NoMod atoms flatten
  lambda_of (BL k l w h bs b) f at = absurd f.only
  lambda_of (BQ s) f at = absurd f.only
  lambda_of (BV s) f at = absurd f.only
  lambda_of (BC l bs t) f at = absurd f.only
  lambda_of (BM l x) f at = absurd f.only
  lambda_of (BF l w ca c a e) f at =
      let head = before_args l w ca c in
      let n = args_length l w ca c a e in
      let closes = (see.closes l w ca c a e f.valid at).whole in
      let own : length head ≡ v.args = omega (arith, closes, length-append (sexp_bytes a) (body_bytes e ++ []), length-append (body_bytes e) []) in
      let parts = subst (At old 0) (args_split l w ca c a e) at in
      let rest = at_place v.args (omega arith) (at_right head (sexp_bytes a ++ body_bytes e) parts) in
      let fine = fine_parts f in
      record {
        l = l;
        w = w;
        ca = ca;
        c = c;
        a = a;
        e = e;
        is = refl;
        args_valid = f.valid.0.4;
        body_fine = fine.body;
        head = at_left head (sexp_bytes a ++ body_bytes e) parts;
        head_length = own;
        at_args = at_left (sexp_bytes a) (body_bytes e) rest;
        at_body = at_right (sexp_bytes a) (body_bytes e) rest;
        whole = omega arith;
        short = f.short;
        level = omega (arith, fine.levels);
        draws = omega (arith, lambda_draws t.depth c a e (omega (arith, fine.levels)));
      }

  pub lambda_here : (p : BodyReady IsLambda true old t) → LambdaHere old v.args t p.tree
  lambda_here p = lambda_of p.tree p.good p.there

module _ {old : Bytes} {args : ℕ} {t : Task} (p : BodyReady IsLambda true old t) (o : LambdaHere old args t p.tree) where
  abbrev free : ℕ
  free = t.free

  abbrev F : ℕ
  F = t.f

  -- the room of its level, and of the one below
  lambda_room : free + (8 * F + room F (t.depth - 1)) ≤ length old
  lambda_room =
      omega (arith, p.room, room_down F t.depth (omega (arith, some_level o.body_fine)))

  -- its bytes before the args can be copied
  pub lambda_copies : (args ≤ free) × (free + args ≤ length old)
  lambda_copies = (omega (arith, o.whole, p.below), omega (arith, o.whole, o.short, lambda_room))

  module _ {one : Bytes} (cp : Filled old one free (drop 0 old) args) where
    -- new names for the args
    pub lambda_args : ArgsReady (from one args) free F t.counter
    lambda_args =
        let n = length (sexp_bytes o.a) in
        let l = from_length one args (omega (arith, cp.frame.size, o.whole, p.below, lambda_room)) in
        record {
          s = o.a;
          valid = o.args_valid;
          there = into (at_below cp.frame o.at_args (omega (arith, o.whole, p.below)));
          below = omega (arith, o.whole, p.below);
          room = omega (arith, cp.frame.size, o.whole, o.short, lambda_room);
          counts = counter_least t.counter n (omega (arith, p.counts)) (omega (arith, o.whole, o.short, p.longest));
        }

    module _ {y : Bytes} {r : Result Drawn Refusal} (d : DrawsArgs (from one args) y free false F t.counter r) where
      abbrev two : Bytes
      two = rejoin one args y

      drawn_frame : SameOutside one two (args + free) (length old)
      drawn_frame =
          same_wider (args + free) (length old) (omega arith) (omega (arith, cp.frame.size))
          (whole_frame one args free 0 (omega (arith, cp.frame.size, lambda_copies.1)) (same_wider free (length (from one args) - 0) (omega arith) (omega arith) d.frame))

      both_frame : SameOutside old two free (length old)
      both_frame = same_then free (length old) (omega arith) (omega arith) (omega (arith, lambda_copies.1)) (omega arith) cp.frame drawn_frame

      answer : ArgsDrawn false o.a y free F t.counter r
      answer = d.says o.a o.args_valid (into (at_below cp.frame o.at_args (omega (arith, o.whole, p.below))))

      -- what follows the args
      abbrev then_body : NameMap → Sexp → M Body
      then_body m a' = args_then_in F (walk F (t.depth - 1)) m o.e >>= λ e'. ret (BF o.l o.w o.ca o.c a' e')

      -- Own of it
      lambda_own : outcome (rule F true t.depth p.m p.tree t.counter 0) ≡ outcome (step F body_size (args_then F false o.a then_body) t.counter 0)
      unfolding rename_args_bodyform
      lambda_own =
          ap (λ (b : Body). outcome (rule F true t.depth p.m b t.counter 0)) o.is
          ∙ own_step F t.depth p.m (BF o.l o.w o.ca o.c o.a o.e) t.counter (some_level p.good)

      lambda_tells : {new : Bytes} {z : Result Step Refusal} → SameOutside old new free (length old) → Gives body_bytes new free (length (body_bytes p.tree)) (outcome (rule F true t.depth p.m p.tree t.counter 0)) z
          → Walks IsLambda true old new t z
      lambda_tells f g = tells_of unique_fine p (same_wider free (length old - t.map) (omega arith) (omega (arith, p.lone refl)) f) g

      -- the args are refused
      pub lambda_stopped : (q : Refusal) → r ≡ Err q → Walks IsLambda true old two t (Err q)
      lambda_stopped q e =
          lambda_tells both_frame
          (refused q (lambda_own ∙ step_refuses F body_size (args_then F false o.a then_body) t.counter 0 (args_halted F 0 then_body q (omega arith) e answer)) refl)

      -- they are drawn for
      module _ (i w len c' : ℕ) (e : r ≡ drawn_of i w len c') where
        got : ArgsGot false o.a y free F t.counter i w len c'
        got = args_got i w len c' e answer

        abbrev q : ℕ
        q = args + i

        -- what Own and In-body of its body have to do
        abbrev body_task : Task
        body_task = record { free = free + (args + w) - q; map = len; f = F; depth = t.depth - 1; counter = c' }

        -- where things stand
        pub lambda_places : (q + length (body_bytes o.e) ≤ free) × (q ≤ free + args + w) × (free + args + w + (F + room F (t.depth - 1)) + len ≤ length old)
        lambda_places = (
          omega (arith, got.read, o.whole, p.below),
          omega (arith, got.read, o.whole, p.below),
          omega (arith, got.short, got.small, o.whole, o.short, lambda_room),
        )

        -- the args by their new names, behind the bytes that were copied
        abbrev new_args : Sexp
        new_args = rename_in_cons false got.m o.a

        args_out : At two (free + args) (sexp_bytes new_args)
        args_out = whole_at one args free 0 (omega (arith, cp.frame.size, lambda_copies.1)) (same_wider free (length (from one args) - 0) (omega arith) (omega arith) d.frame) (free + args) (omega arith) got.out

        map_two : MapAt two len got.m
        map_two = map_back one args (omega (arith, cp.frame.size, lambda_copies.0, lambda_room)) d.frame.size got.map

        body_there : At two q (body_bytes o.e)
        body_there = at_below both_frame (at_place q (omega (arith, got.read)) o.at_body) lambda_places.0

        pub lambda_both : BothReady (from two q) w body_task
        lambda_both =
            let size = both_frame.size in
            let l = from_length two q (omega (arith, lambda_places.0, lambda_room)) in
            record {
              ready = record {
                tree = o.e;
                good = o.body_fine;
                there = into body_there;
                below = omega (arith, lambda_places.0);
                m = got.m;
                map = map_of_part q (omega (arith, lambda_places.1, lambda_places.2)) map_two;
                lone = λ z. let z : ◌≡◌ {A = ℕ} 0 1 = cc in absurd (omega arith);
                room = omega (arith, lambda_places.1, lambda_places.2);
                counts = omega (arith, invent_draws [] o.a t.counter 0 got.runs, o.draws, p.counts);
                longest = p.longest;
              };
              held = got.short;
            }

        module _ {x : Bytes} {a : Result Piece Refusal} (b : WalksBoth (from two q) x w body_task a) where
          abbrev three : Bytes
          three = rejoin two q x

          over_frame : SameOutside two three (q + body_task.free) (length two - len)
          over_frame = whole_frame two q body_task.free len (omega (arith, both_frame.size, lambda_places.1, lambda_places.2)) b.frame

          three_frame : SameOutside old three free (length old)
          three_frame = same_then free (length old) (omega arith) (omega (arith, lambda_places.1)) (omega arith) (omega (arith, both_frame.size)) both_frame over_frame

          leads : Leads body_bytes AnyBody F x body_task.free (length (body_bytes o.e)) (args_then_in F (walk F (t.depth - 1)) got.m o.e) c' w a
          leads = b.says got.m (map_of_part q (omega (arith, both_frame.size, lambda_places.1, lambda_places.2)) map_two) o.e (into body_there) (omega (arith, lambda_places.0)) o.body_fine

          -- the run goes on to the body
          goes_on : outcome (args_then F false o.a then_body t.counter 0) ≡ outcome (then_body got.m new_args c' w)
          goes_on =
              let n : 0 + length (sexp_bytes new_args) ≡ w = omega (arith, got.wrote) in
              args_go_on F false o.a t.counter 0 then_body got.runs (omega (arith, got.short)) ∙ ap (λ (z : ℕ). outcome (then_body got.m new_args c' z)) n

          -- the body is refused
          pub lambda_halted : (k : Refusal) → a ≡ Err k → Walks IsLambda true old three t (Err k)
          lambda_halted k z =
              lambda_tells three_frame
              (refused k (lambda_own ∙ step_refuses F body_size (args_then F false o.a then_body) t.counter 0 (goes_on ∙ halted k z leads (λ e'. ret (BF o.l o.w o.ca o.c new_args e')))) refl)

          -- all of it is written
          module _ (j u s n : ℕ) (z : a ≡ piece_of j u s n) where
            done : Led body_bytes AnyBody F x body_task.free (length (body_bytes o.e)) (args_then_in F (walk F (t.depth - 1)) got.m o.e) c' w j u s n
            done = took j u s n z leads

            abbrev made : Body
            made = BF o.l o.w o.ca o.c new_args done.u

            made_length : length (body_bytes made) ≡ args + w + u
            made_length = omega (arith, args_length o.l o.w o.ca o.c new_args done.u, o.head_length, got.wrote, done.wrote)

            body_out : At three (free + args + w) (body_bytes done.u)
            body_out = whole_at two q body_task.free len (omega (arith, both_frame.size, lambda_places.1, lambda_places.2)) b.frame (free + args + w) (omega (arith, lambda_places.1)) done.out

            made_out : At three free (body_bytes made)
            made_out =
                let head = copied_at 0 free (cp) lambda_copies.1 o.head (omega arith) (omega (arith, o.head_length)) (omega arith) in
                let head₃ = at_below over_frame (at_below drawn_frame head (omega (arith, o.head_length))) (omega (arith, o.head_length, lambda_places.1)) in
                let args₃ = at_below over_frame args_out (omega (arith, got.wrote, lambda_places.1)) in
                let body₃ = at_place (free + args + length (sexp_bytes new_args)) (omega (arith, got.wrote)) body_out in
                let rest = at_place (free + length (before_args o.l o.w o.ca o.c)) (omega (arith, o.head_length)) (at_join (sexp_bytes new_args) (body_bytes done.u) args₃ body₃) in
                subst (At three free) (sym (args_split o.l o.w o.ca o.c new_args done.u))
                (at_join (before_args o.l o.w o.ca o.c) (sexp_bytes new_args ++ body_bytes done.u) head₃ rest)

            gives_made : outcome (args_then F false o.a then_body t.counter 0) ≡ gives made n
            unfolding ret outcome
            gives_made = goes_on ∙ done.goes_on (λ e'. ret (BF o.l o.w o.ca o.c new_args e'))

            -- what was read and written
            pub lambda_sums : (q + j ≤ free) × (free + (args + w + u) ≤ length old)
            lambda_sums = (omega (arith, done.read, lambda_places.0), omega (arith, body_out.fits, done.wrote, three_frame.size))

            pub lambda_finished : {z : Result Step Refusal} → Finishes (q + j) (args + w + u) F n z → Walks IsLambda true old three t z
            lambda_finished {z} f =
                lambda_tells three_frame
                (subst (λ (a : Outcome Body). Gives body_bytes three free (length (body_bytes p.tree)) a z) (sym lambda_own)
                (finished_gives (args_then F false o.a then_body) t.counter f gives_made (omega (arith, done.read, got.read, o.whole)) (sym made_length) made_out))
