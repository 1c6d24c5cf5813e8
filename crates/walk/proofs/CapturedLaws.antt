-- In-body of a BF from its captures on: its capture args, its args and its body. Assumes nothing.
use mathlib.Core.Path.{◌≡◌, refl, sym, ap, subst, ◌∙◌}
use mathlib.Core.Bool.{false}
use mathlib.Core.Logic.{inr}
use native.Mathlib.Omega.{arith}
use Prim.Native.Nat.{ℕ, ◌+◌, ◌*◌, ◌-◌, ◌≤◌, ◌<◌}
use lib.ListN.{length, drop}
use Rattle.names.specs.Maps.{NameMap}
use Rattle.names.specs.Names.{Bytes}
use Rattle.names.specs.Segments.{At, SameOutside, Filled, Movable}
use Rattle.names.specs.declared.Refusal.{Refusal}
use Rattle.names.proofs.Frames.{same_wider, same_then, at_below, at_above, copied_at, movable_up}
use Rattle.names.proofs.Parts.{into}
use Rattle.names.proofs.Places.{at_place}
use Rattle.records.specs.StepAnswer.{Outcome, gives, refuses, Gives, refused}
use Rattle.records.specs.Limits.{cons_limit, most_longest}
use Rattle.records.specs.Records.{Sexp, Body, BF, sexp_bytes, body_bytes}
use Rattle.records.specs.Views.{lambda_head}
use Rattle.records.specs.declared.Step.{Step}
use Rattle.records.proofs.StepAnswers.{unmade}
use Rattle.walk.specs.Arena.{MapAt, Asks, Held, Substitutes, fitting, outcome}
use Rattle.walk.specs.Bodyforms.{walk, args_then_in}
use Rattle.walk.specs.Draws.{atoms, dbl, counter_most}
use Rattle.walk.specs.LambdaWalks.{Captured, lambda_bytes, after_captures, FineCaptured, CapturedReady, WalksCaptured}
use Rattle.walk.specs.RenameInCons.{rename_in_cons}
use Rattle.walk.specs.Room.{room}
use Rattle.walk.specs.Steps.{M, over_long, ◌>>=◌, ret, step, body_size}
use Rattle.walk.specs.Walking.{from_sum, AnyBody, BothReady, WalksBoth, Leads, Finishes}
use Rattle.walk.specs.declared.Piece.{Piece}
use Rattle.walk.specs.declared.Task.{Task}
use Rattle.walk.proofs.Fits.{Given, given, refused_long}
use Rattle.walk.proofs.OnParts.{from, rejoin, asks_part, part_frame, part_gives}
use Rattle.walk.proofs.Results.{room_down}
use Rattle.walk.proofs.RunLaws.{step_refuses}
use Rattle.walk.proofs.StepLaws.{substitute_gives, substitute_over}
use Rattle.walk.proofs.Wholes.{from_length, whole_frame, whole_leads, map_from, Led, took, halted, finished_gives}
use Rattle.walk.proofs.LambdaParts.{FineParts, PartsAt, fine_parts, lambda_size, parts_at, parts_join}
use Rattle.std.specs.declared.result.Result.{Result}
use Rattle.std.specs.declared.result.Result.TheVariants.{Err}
use Rattle.walk.specs.RuleAnswers.{piece_of}
use Rattle.records.specs.StepAnswer.{step_of}

-- the run from the captures on
module _ (F n : ℕ) (m : NameMap) (k : Captured) (c x : ℕ) where
  abbrev new_capture_args : Sexp
  new_capture_args = rename_in_cons false m k.capture_args

  -- 7 where the capture args do not fit beside the captures
  over_capture_args : F < x + length (sexp_bytes new_capture_args) → outcome (step F body_size (from_sum x (after_captures F (walk F n) m k)) c 0) ≡ refuses over_long
  unfolding after_captures
  over_capture_args lt = step_refuses F body_size (from_sum x (after_captures F (walk F n) m k)) c 0 (substitute_over F false m k.capture_args _ c x lt)

  -- else what both rules give of the body
  module _ (s : ℕ) (e : s ≡ x + length (sexp_bytes new_capture_args)) (le : s ≤ F) where
    abbrev with_body : Body → Body
    with_body u = BF k.loc k.keyword new_capture_args k.made k.args u

    on_to_body : outcome (after_captures F (walk F n) m k c x) ≡ outcome ((args_then_in F (walk F n) m k.body >>= λ u. ret (with_body u)) c s)
    unfolding after_captures
    on_to_body = substitute_gives F false m k.capture_args _ c x (omega arith) ∙ ap (λ (y : ℕ). outcome ((args_then_in F (walk F n) m k.body >>= λ u. ret (with_body u)) c y)) (sym e)

    body_refuses : {q : Refusal} → ((j : Body → M Body) → outcome ((args_then_in F (walk F n) m k.body >>= j) c s) ≡ refuses q)
        → outcome (step F body_size (from_sum x (after_captures F (walk F n) m k)) c 0) ≡ refuses q
    body_refuses h = step_refuses F body_size (from_sum x (after_captures F (walk F n) m k)) c 0 (on_to_body ∙ h _)

    module _ (u : Body) (d y : ℕ) (h : (j : Body → M Body) → outcome ((args_then_in F (walk F n) m k.body >>= j) c s) ≡ outcome (j u d y)) where
      ends : outcome (after_captures F (walk F n) m k c x) ≡ gives (with_body u) d
      unfolding ret outcome
      ends = on_to_body ∙ h (λ v. ret (with_body v))

-- what stands in memory, of one BF and one map
pub record Setting (mem : Bytes) (at args body x : ℕ) (t : Task) (k : Captured) (m : NameMap) : Type 0 where
  pub good : FineCaptured mem at args body x t k
  pub there : At mem 0 (lambda_bytes k)
  pub below : length (lambda_bytes k) ≤ t.free
  pub map : MapAt mem t.map m
  pub fits : t.free + room t.f t.depth + t.map ≤ length mem

-- what is asked, as that
pub setting : {mem : Bytes} {at args body x : ℕ} {t : Task} (p : CapturedReady mem at args body x t) → Setting mem at args body x t p.tree p.m
setting p = record { good = p.good; there = p.there; below = p.below; map = p.map; fits = p.room }

-- the tasks of the capture args and of the body
abbrev pub capture_args_task : Task → ℕ → ℕ → Task
capture_args_task t at x = record { free = t.free; map = t.map; f = t.f - x; depth = cons_limit; counter = t.counter }

abbrev pub both_task : Task → ℕ → ℕ → ℕ → ℕ → ℕ → ℕ → Task
both_task t at args body x w c = record { free = t.free + at + w + x + (body - args) - body; map = t.map; f = t.f; depth = t.depth - 1; counter = c }

module _ {mem : Bytes} {at args body x : ℕ} {t : Task} {k : Captured} {m : NameMap} (h : Setting mem at args body x t k m) where
  stand : PartsAt mem 0 k.loc k.keyword k.capture_args k.captures k.args k.body
  stand = parts_at h.there

  fine : FineParts t.f t.depth k.capture_args k.captures k.args k.body
  fine = fine_parts h.good.fine

  -- the places and lengths of the parts
  pub record Widths : Type 0 where
    pub sum : body + length (body_bytes k.body) ≡ length (lambda_bytes k)
    pub args_at : args ≡ at + length (sexp_bytes k.capture_args) + length (body_bytes k.captures)
    pub body_at : body ≡ args + length (sexp_bytes k.args)
    pub short : body + length (body_bytes k.body) ≤ t.f
    pub below : body + length (body_bytes k.body) ≤ t.free
    pub room : t.free + (8 * t.f + room t.f (t.depth - 1)) + t.map ≤ length mem
    pub held : x ≤ t.f
    pub levels : 2 ≤ t.depth

  -- as they follow from what stands there
  pub widths : Widths
  widths =
      let q = h.good.parted in
      let z = lambda_size k.loc k.keyword k.capture_args k.captures k.args k.body in
      record {
        sum = omega (arith, q.capture_args_at, q.args_at, q.body_at);
        args_at = q.args_at;
        body_at = q.body_at;
        short = omega (arith, q.capture_args_at, q.args_at, q.body_at, h.good.fine.short);
        below = omega (arith, q.capture_args_at, q.args_at, q.body_at, h.below);
        room = omega (arith, h.fits, room_down t.f t.depth fine.levels);
        held = h.good.held;
        levels = fine.levels;
      }

  -- the parts that are read
  capture_args_here : At mem at (sexp_bytes k.capture_args)
  capture_args_here = at_place at (omega (arith, h.good.parted.capture_args_at)) stand.capture_args

  args_here : At mem args (sexp_bytes k.args)
  args_here = at_place args (omega (arith, h.good.parted.capture_args_at, h.good.parted.args_at)) stand.args

  body_here : At mem body (body_bytes k.body)
  body_here = at_place body (omega (arith, h.good.parted.capture_args_at, h.good.parted.args_at, h.good.parted.body_at)) stand.body

  -- what Substitute is asked of the capture args
  pub capture_args_asks : Asks sexp_bytes (Held cons_limit) (from mem at) (capture_args_task t at x)
  capture_args_asks =
      let w = widths in
      asks_part at k.capture_args (record { fields = fine.capture_args.0; conses = fine.capture_args.1 }) capture_args_here (omega arith) h.map (omega arith)

  -- the capture args are made
  module _ {y : Bytes} {r : Result Step Refusal} (s : Substitutes (rename_in_cons false) (from mem at) y (capture_args_task t at x) r) where
    abbrev one : Bytes
    one = rejoin mem at y

    fit_one : at + t.free + (t.f - x) + t.map ≤ length mem
    fit_one = let w = widths in omega arith

    one_frame : SameOutside mem one (t.free + at) (t.free + at + t.f)
    one_frame = part_frame at fit_one s (t.free + at) (t.free + at + t.f) (omega arith) (omega arith)

    abbrev by_map : Sexp
    by_map = rename_in_cons false m k.capture_args

    capture_args_give : Gives sexp_bytes one (t.free + at) (length (sexp_bytes k.capture_args)) (fitting sexp_bytes (t.f - x) t.counter by_map) r
    capture_args_give = let w = widths in part_gives at fit_one s (t.free + at) (omega arith) h.map k.capture_args capture_args_here (omega arith) fine.capture_args.0

    abbrev whole_run : Outcome Body
    whole_run = outcome (step t.f body_size (from_sum x (after_captures t.f (walk t.f (t.depth - 1)) m k)) t.counter 0)

    capture_args_refused : (q : Refusal) → r ≡ Err q → whole_run ≡ refuses q
    capture_args_refused q e =
        let w = widths in
        let z = refused_long sexp_bytes (t.f - x) t.counter by_map q (unmade q e capture_args_give) in
        over_capture_args t.f (t.depth - 1) m k t.counter x (omega (arith, z.long)) ∙ ap refuses (sym z.is)

    -- and fit
    module _ (i w c : ℕ) (e : r ≡ step_of i w c) where
      capture_args_made : Given sexp_bytes one (t.free + at) (length (sexp_bytes k.capture_args)) (t.f - x) t.counter by_map i w c
      capture_args_made = given (t.f - x) t.counter by_map i w c e capture_args_give

      pub made_fits : w + x ≤ t.f
      made_fits = let z = widths in omega (arith, capture_args_made.wrote, capture_args_made.short)

      -- what goes before the body
      pub before_fits : (args ≤ body) × (body ≤ t.free) × (t.free + at + w + x + (body - args) ≤ length mem)
      before_fits = let z = widths in (omega (arith, z.body_at), omega (arith, z.below), omega (arith, made_fits, z.args_at, z.body_at, z.short, z.room))

      captures_here : At one (t.free + at + t.f) (body_bytes k.made)
      captures_here = at_above one_frame h.good.out (omega arith)

      pub captures_move : Movable one (t.free + at + t.f) (t.free + at + w) x
      captures_move =
          let z = widths in
          let g = h.good.wrote in
          let l = captures_here.fits in
          record { source = omega arith; target = omega (arith, made_fits); safe = inr (omega (arith, made_fits)) }

      -- they move down behind the capture args
      module _ {two : Bytes} (f₁ : Filled one two (t.free + at + w) (drop (t.free + at + t.f) one) x) where
        captures_out : At two (t.free + at + w) (body_bytes k.made)
        captures_out =
            let g = h.good.wrote in
            copied_at (t.free + at + t.f) (t.free + at + w) f₁ captures_move.target captures_here (omega arith) (omega arith) (omega arith)

        capture_args_out : At two (t.free + at) (sexp_bytes by_map)
        capture_args_out = at_below f₁.frame capture_args_made.out (omega (arith, capture_args_made.wrote))

        -- what stands below the room for the result
        kept_two : {p : ℕ} {bs : Bytes} → At mem p bs → p + length bs ≤ t.free + at → At two p bs
        kept_two a le = at_below f₁.frame (at_below one_frame a le) (omega arith)

        two_size : length two ≡ length mem
        two_size = f₁.frame.size ∙ one_frame.size

        pub args_move : Movable two args (t.free + at + w + x) (body - args)
        args_move =
            let z = widths in
            movable_up (omega (arith, z.args_at, z.body_at, z.below)) (omega (arith, two_size, made_fits, z.args_at, z.body_at, z.short, z.room))

        -- the args stand behind them
        module _ {three : Bytes} (f₂ : Filled two three (t.free + at + w + x) (drop args two) (body - args)) where
          abbrev upto : ℕ
          upto = t.free + at + w + x + (body - args)

          args_out : At three (t.free + at + w + x) (sexp_bytes k.args)
          args_out =
              let z = widths in
              copied_at args (t.free + at + w + x) f₂ args_move.target (kept_two args_here (omega (arith, z.body_at, z.below))) (omega arith) (omega (arith, z.body_at)) (omega arith)

          kept_three : {p : ℕ} {bs : Bytes} → At mem p bs → p + length bs ≤ t.free + at → At three p bs
          kept_three a le = at_below f₂.frame (kept_two a le) (omega arith)

          three_frame : SameOutside mem three t.free (length mem - t.map)
          three_frame =
              let z = widths in
              same_then t.free (length mem - t.map) (omega arith) (omega arith) (omega (arith, made_fits, z.short, z.room)) (omega (arith, made_fits, z.args_at, z.body_at, z.short, z.room))
              (same_then t.free (length mem - t.map) (omega arith) (omega arith) (omega (arith, z.args_at, z.body_at, z.short, z.room)) (omega (arith, made_fits, z.args_at, z.body_at, z.short, z.room)) one_frame f₁.frame) f₂.frame

          map_three : MapAt (from three body) t.map m
          map_three = let z = widths in map_from body three_frame (omega (arith, z.room)) (omega (arith, z.below, z.room)) h.map

          pub both_ready : t.counter + (dbl (t.depth - 1) (atoms k.body) + dbl (t.depth - 1) (atoms k.body)) ≤ counter_most → t.f ≤ most_longest
              → BothReady (from three body) (w + x) (both_task t at args body x w c)
          both_ready counts longest =
              let z = widths in
              let l = from_length three body (omega (arith, three_frame.size, z.below, z.room)) in
              record {
                ready =
                    record {
                      tree = k.body;
                      good = fine.body;
                      there = into (kept_three body_here (omega (arith, z.below)));
                      below = omega (arith, z.below);
                      m = m;
                      map = map_three;
                      lone = λ e. let q : ◌≡◌ {A = ℕ} 0 1 = cc in absurd (omega arith);
                      room = omega (arith, three_frame.size, made_fits, z.args_at, z.body_at, z.short, z.below, z.room);
                      counts = omega (arith, counts, capture_args_made.counter);
                      longest = longest;
                    };
                held = made_fits;
              }

          -- both rules for the body
          module _ {v : Bytes} {r₂ : Result Piece Refusal} (s₂ : WalksBoth (from three body) v (w + x) (both_task t at args body x w c) r₂) where
            abbrev four : Bytes
            four = rejoin three body v

            fit_four : body + (upto - body) + t.map ≤ length three
            fit_four = let z = widths in omega (arith, three_frame.size, made_fits, z.args_at, z.body_at, z.short, z.below, z.room)

            four_frame : SameOutside three four (body + (upto - body)) (length three - t.map)
            four_frame = whole_frame three body (upto - body) t.map fit_four s₂.frame

            pub all_frame : SameOutside mem four t.free (length mem - t.map)
            all_frame =
                let z = widths in
                let l = three_frame.size in
                same_then t.free (length mem - t.map) (omega arith) (omega (arith, z.below)) (omega arith) (omega arith) three_frame four_frame

            body_leads : Leads body_bytes AnyBody t.f four upto (length (body_bytes k.body)) (args_then_in t.f (walk t.f (t.depth - 1)) m k.body) t.counter (w + x) r₂
            body_leads =
                let z = widths in
                subst (λ (j : ℕ). Leads body_bytes AnyBody t.f four upto (length (body_bytes k.body)) (args_then_in t.f (walk t.f (t.depth - 1)) m k.body) j (w + x) r₂) capture_args_made.counter
                (whole_leads three body (upto - body) t.map fit_four s₂.frame upto (omega (arith, z.below))
                (s₂.says m map_three k.body (into (kept_three body_here (omega (arith, z.below)))) (omega (arith, z.below)) fine.body))

            sum_is : w + x ≡ x + length (sexp_bytes by_map)
            sum_is = omega (arith, capture_args_made.wrote)

            body_refused : (q : Refusal) → r₂ ≡ Err q → whole_run ≡ refuses q
            body_refused q e₂ = body_refuses t.f (t.depth - 1) m k t.counter x (w + x) sum_is made_fits (halted q e₂ body_leads)

            module _ (j len sum d : ℕ) (e₂ : r₂ ≡ piece_of j len sum d) where
              body_led : Led body_bytes AnyBody t.f four upto (length (body_bytes k.body)) (args_then_in t.f (walk t.f (t.depth - 1)) m k.body) t.counter (w + x) j len sum d
              body_led = took j len sum d e₂ body_leads

              abbrev result : Body
              result = BF k.loc k.keyword by_map k.made k.args body_led.u

              result_size : at + w + x + (body - args) + len ≡ length (body_bytes result)
              result_size =
                  let z = widths in
                  omega (
                    arith,
                    lambda_size k.loc k.keyword by_map k.made k.args body_led.u,
                    h.good.parted.capture_args_at,
                    capture_args_made.wrote,
                    h.good.wrote,
                    z.body_at,
                    body_led.wrote,
                  )

              pub sums : (body + j ≤ t.free) × (upto + len ≤ length mem)
              sums = let z = widths in (omega (arith, body_led.read, z.below), omega (arith, body_led.wrote, body_led.out.fits, all_frame.size))

              below_four : {p : ℕ} {bs : Bytes} → At three p bs → p + length bs ≤ upto → At four p bs
              below_four a le = let z = widths in at_below four_frame a (omega (arith, z.below))

              result_out : At four t.free (body_bytes result)
              result_out =
                  let b = h.good.parted.capture_args_at in
                  let z = widths in
                  let g = h.good.wrote in
                  let n = capture_args_made.wrote in
                  let a = z.body_at in
                  parts_join
                  record {
                    head = below_four (kept_three h.good.head (omega arith)) (omega arith);
                    capture_args = at_place (t.free + length (lambda_head k.loc k.keyword)) (omega arith) (below_four (at_below f₂.frame capture_args_out (omega arith)) (omega arith));
                    captures =
                        at_place (t.free + length (lambda_head k.loc k.keyword) + length (sexp_bytes by_map)) (omega arith)
                        (below_four (at_below f₂.frame captures_out (omega arith)) (omega arith));
                    args =
                        at_place (t.free + length (lambda_head k.loc k.keyword) + length (sexp_bytes by_map) + length (body_bytes k.made)) (omega arith)
                        (below_four args_out (omega arith));
                    body =
                        at_place (t.free + length (lambda_head k.loc k.keyword) + length (sexp_bytes by_map) + length (body_bytes k.made) + length (sexp_bytes k.args)) (omega arith)
                        body_led.out;
                  }

              result_gives : {r : Result Step Refusal} → Finishes (body + j) (at + w + x + (body - args) + len) t.f d r → Gives body_bytes four t.free (length (lambda_bytes k)) whole_run r
              result_gives f =
                  let z = widths in
                  finished_gives (from_sum x (after_captures t.f (walk t.f (t.depth - 1)) m k)) t.counter f
                  (ends t.f (t.depth - 1) m k t.counter x (w + x) sum_is made_fits body_led.u d sum body_led.goes_on)
                  (omega (arith, body_led.read, z.sum)) result_size result_out

-- what is answered
module _ {mem : Bytes} {at args body x : ℕ} {t : Task} (p : CapturedReady mem at args body x t) where
  -- of each BF and each map that stand there
  setting_of : (m : NameMap) → MapAt mem t.map m → (k : Captured) → At mem 0 (lambda_bytes k) → length (lambda_bytes k) ≤ t.free → FineCaptured mem at args body x t k → Setting mem at args body x t k m
  setting_of m map k there below good = record { good = good; there = there; below = below; map = map; fits = p.room }

  module _ {y : Bytes} {r : Result Step Refusal} (s : Substitutes (rename_in_cons false) (from mem at) y (capture_args_task t at x) r) where
    -- the capture args are too long
    pub captured_refused : (q : Refusal) → r ≡ Err q → WalksCaptured mem (rejoin mem at y) at args body x t (Err q)
    captured_refused q e =
        let z = widths (setting p) in
        record {
          frame = same_wider t.free (length mem - t.map) (omega arith) (omega (arith, z.args_at, z.body_at, z.short, z.room)) (one_frame (setting p) s);
          says = λ m map k there below good. refused q (capture_args_refused (setting_of m map k there below good) s q e) refl;
        }

    module _ (i w c : ℕ) (e : r ≡ step_of i w c) {two three : Bytes} (f₁ : Filled (rejoin mem at y) two (t.free + at + w) (drop (t.free + at + t.f) (rejoin mem at y)) x)
        (f₂ : Filled two three (t.free + at + w + x) (drop args two) (body - args)) {v : Bytes} {r₂ : Result Piece Refusal} (s₂ : WalksBoth (from three body) v (w + x) (both_task t at args body x w c) r₂) where
      -- the body is refused
      pub captured_stopped : (q : Refusal) → r₂ ≡ Err q → WalksCaptured mem (rejoin three body v) at args body x t (Err q)
      captured_stopped q e₂ =
          record {
            frame = all_frame (setting p) s i w c e f₁ f₂ s₂;
            says = λ m map k there below good. refused q (body_refused (setting_of m map k there below good) s i w c e f₁ f₂ s₂ q e₂) refl;
          }

      -- the record is finished
      pub captured_done : (j len sum d : ℕ) → r₂ ≡ piece_of j len sum d → {a : Result Step Refusal} → Finishes (body + j) (at + w + x + (body - args) + len) t.f d a → WalksCaptured mem (rejoin three body v) at args body x t a
      captured_done j len sum d e₂ f =
          record {
            frame = all_frame (setting p) s i w c e f₁ f₂ s₂;
            says = λ m map k there below good. result_gives (setting_of m map k there below good) s i w c e f₁ f₂ s₂ j len sum d e₂ f;
          }
