-- An assign whose bindings are made (`moved`): its head and they are moved together, and its body follows by both rules. Assumes nothing.
use mathlib.Core.Path.{◌≡◌, refl, sym, ap, subst, ◌∙◌}
use mathlib.Core.List.{List, ◌++◌}
use native.Mathlib.Omega.{arith}
use Prim.Native.Nat.{ℕ, ◌+◌, ◌*◌, ◌-◌, ◌≤◌}
use lib.ListN.{length, drop, length-append}
use Rattle.names.specs.Names.{Bytes}
use Rattle.names.specs.Segments.{At, SameOutside, Filled}
use Rattle.names.specs.declared.Refusal.{Refusal}
use Rattle.names.proofs.Frames.{same_then, same_wider, at_below, at_above, copied_at}
use Rattle.names.proofs.Parts.{into}
use Rattle.names.proofs.Places.{at_place, at_join}
use Rattle.records.specs.StepAnswer.{gives, refused}
use Rattle.records.specs.Lists.{joined}
use Rattle.records.specs.Records.{Loc, Body, BL, BQ, BV, BC, BM, BF, body_bytes, Binding, binding_bytes, Bindings, bindings_bytes, list_of, to_bindings}
use Rattle.records.specs.declared.Kind.{Kind}
use Rattle.records.specs.declared.Kind.TheVariants.{Assign}
use Rattle.records.specs.Valid.{IsLet}
use Rattle.records.specs.declared.Step.{Step}
use Rattle.records.proofs.Lists.{list_count, list_bytes}
use Rattle.walk.specs.Arena.{outcome}
use Rattle.walk.specs.AssignWalks.{Placed, body_draws, turning, TurnedReady, Turns}
use Rattle.walk.specs.Bodyforms.{walk, args_then_in}
use Rattle.walk.specs.Steps.{M, ◌>>=◌, ret, body_size}
use Rattle.walk.specs.Walking.{count_of, from_sum, AnyBody, Fine, BothReady, WalksBoth, Leads, Finishes}
use Rattle.walk.specs.declared.Piece.{Piece}
use Rattle.walk.specs.declared.Task.{Task}
use Rattle.walk.proofs.LetLaws.{let_head, let_made, Let, let_parts}
use Rattle.walk.proofs.OnParts.{from, rejoin}
use Rattle.walk.proofs.RunLaws.{step_refuses}
use Rattle.walk.proofs.Unique.{unique_fine, tells_of}
use Rattle.walk.proofs.Wholes.{from_length, whole_frame, whole_leads, map_from, Led, took, halted, finished_gives}
use Rattle.std.specs.declared.result.Result.{Result}
use Rattle.std.specs.declared.result.Result.TheVariants.{Err}
use Rattle.walk.specs.RuleAnswers.{piece_of}

-- what an assign is
pub record AssignParts (b : Body) : Type 0 where
  pub l : Loc
  pub w : Bytes
  pub h : Bytes
  pub bs : Bindings
  pub e : Body
  pub is : b ≡ BL Assign l w h bs e

pub assign_parts : (b : Body) → IsLet Assign b → AssignParts b
unfolding IsLet
assign_parts (BL k l w h bs e) q = record { l = l; w = w; h = h; bs = bs; e = e; is = ap (λ (z : Kind). BL z l w h bs e) q }
assign_parts (BQ s) q = absurd q
assign_parts (BV s) q = absurd q
assign_parts (BC l bs t) q = absurd q
assign_parts (BM l f) q = absurd q
assign_parts (BF l w ca c a b) q = absurd q

module _ {mem : Bytes} {first body w sum : ℕ} {t : Task} (p : TurnedReady mem first body w sum t) where
  view : AssignParts p.ready.tree
  view = assign_parts p.ready.tree p.ready.good.only

  abbrev inside : Body
  inside = view.e

  abbrev head : Bytes
  head = let_head Assign view.l view.w view.h (length (list_of view.bs))

  places : (first + length (bindings_bytes view.bs) ≡ body) × (body + length (body_bytes inside) ≡ length (body_bytes p.ready.tree))
  unfolding Placed
  places =
      let q = subst (λ (b : Body). Placed b first body) view.is p.placed in
      (q.0, q.1 ∙ ap (λ (b : Body). length (body_bytes b)) (sym view.is))

  -- its parts
  parts : Let t.f t.depth mem first (length (list_of view.bs)) Assign view.l view.w view.h view.bs inside
  parts =
      let_parts Assign view.l view.w view.h view.bs inside (subst (Fine (IsLet Assign) t.f t.depth) view.is p.ready.good)
      (subst (λ (b : Body). At mem 0 (body_bytes b)) view.is p.ready.there) (omega (arith, places, ap length (list_bytes view.bs), ap (λ (b : Body). length (body_bytes b)) view.is)) refl

  pub deep : 2 ≤ t.depth
  deep = parts.level

  pub low : (first ≤ body) × (body ≤ t.free)
  low = let q = places in (omega (arith, q.0), omega (arith, q.1, p.ready.below))

  pub wide : t.free + 3 * t.f + t.map ≤ length mem
  wide = omega (arith, p.ready.room)

  body_there : At mem body (body_bytes inside)
  body_there = at_place body (omega (arith, places, ap length (list_bytes view.bs))) parts.last

  draws : body_draws (t.depth - 1) p.ready.tree ≡ body_draws (t.depth - 1) (BL Assign view.l view.w view.h view.bs inside)
  draws = ap (body_draws (t.depth - 1)) view.is

  -- its head is copied, and then its bindings
  module _ {a z : Bytes} (f : Filled mem a t.free (drop 0 mem) first) (g : Filled a z (t.free + first) (drop (t.free + 3 * t.f - w) a) w) where
    frame : SameOutside mem z t.free (length mem - t.map)
    frame = same_then t.free (length mem - t.map) (omega arith) (omega arith) (omega (arith, wide, p.wrote)) (omega (arith, wide, p.wrote)) f.frame g.frame

    abbrev pub body_task : Task
    body_task = record { free = t.free + first + w - body; map = t.map; f = t.f; depth = t.depth - 1; counter = t.counter }

    pub both_ready : BothReady (from z body) sum body_task
    unfolding body_draws
    both_ready =
        let q = p.ready in
        let n = from_length z body (omega (arith, frame.size, low, wide)) in
        record {
          ready = record {
            tree = inside;
            good = parts.fine;
            there = into (at_below frame body_there (omega (arith, places, q.below)));
            below = omega (arith, places, q.below, low);
            m = q.m;
            map = map_from body frame (omega (arith, wide)) (omega (arith, wide, low)) q.map;
            lone = λ y. let v : ◌≡◌ {A = ℕ} 0 1 = cc in absurd (omega arith);
            room = omega (arith, n, frame.size, low, p.wrote, q.room);
            counts = omega (arith, q.counts, draws);
            longest = q.longest;
          };
          held = p.held;
        }

    module _ {y : Bytes} {r : Result Piece Refusal} (s : WalksBoth (from z body) y sum body_task r) where
      abbrev pub end : Bytes
      end = rejoin z body y

      fit : body + (t.free + first + w - body) + t.map ≤ length z
      fit = omega (arith, frame.size, low, wide, p.wrote)

      body_frame : SameOutside z end (t.free + first + w) (length z - t.map)
      body_frame = same_wider (t.free + first + w) (length z - t.map) (omega (arith, low)) (omega arith) (whole_frame z body (t.free + first + w - body) t.map fit s.frame)

      pub all_frame : SameOutside mem end t.free (length mem - t.map)
      all_frame = same_then t.free (length mem - t.map) (omega arith) (omega arith) (omega arith) (omega (arith, frame.size)) frame body_frame

      abbrev body_run : M Body
      body_run = args_then_in t.f (walk t.f (t.depth - 1)) p.ready.m inside

      said : Leads body_bytes AnyBody t.f end (t.free + first + w) (length (body_bytes inside)) body_run t.counter sum r
      unfolding both_ready
      said =
          let q = both_ready.ready in
          whole_leads z body (t.free + first + w - body) t.map fit s.frame (t.free + first + w) (omega (arith, low)) (s.says q.m q.map inside q.there q.below q.good)

      -- the assign that it becomes
      abbrev result : List Binding → Body → Body
      result us b = BL Assign view.l view.w view.h (to_bindings us) b

      -- what follows the bindings
      runs : (us : List Binding) → outcome (from_sum sum (turning t.f (walk t.f (t.depth - 1)) p.ready.m us p.ready.tree) t.counter 0)
          ≡ outcome ((body_run >>= λ b. ret (result us b)) t.counter sum)
      unfolding turning
      runs us = ap (λ (b : Body). outcome (turning t.f (walk t.f (t.depth - 1)) p.ready.m us b t.counter sum)) view.is

      pub turned_refused : (k : Refusal) → r ≡ Err k → Turns mem end w sum t (Err k)
      turned_refused k e =
          tells_of unique_fine p.ready all_frame λ us a l n.
          refused k (step_refuses t.f body_size _ t.counter 0 (runs us ∙ halted k e said (λ b. ret (result us b)))) refl

      module _ {i x v d : ℕ} (e : r ≡ piece_of i x v d) where
        got : Led body_bytes AnyBody t.f end (t.free + first + w) (length (body_bytes inside)) body_run t.counter sum i x v d
        got = took i x v d e said

        pub body_read : body + i ≡ length (body_bytes p.ready.tree)
        body_read = omega (arith, got.read, places)

        pub body_short : x + (body + i) ≤ length mem
        body_short = omega (arith, got.out.fits, got.wrote, body_read, p.ready.below, all_frame.size)

        -- of one list of bindings that stands there
        module _ (us : List Binding) (at : At mem (t.free + 3 * t.f - w) (joined binding_bytes us)) (size : w ≡ length (joined binding_bytes us)) (many : length us ≡ count_of p.ready.tree) where
          same_count : length us ≡ length (list_of view.bs)
          unfolding count_of
          same_count = many ∙ ap count_of view.is ∙ sym (list_count view.bs)

          result_bytes : body_bytes (result us got.u) ≡ head ++ (joined binding_bytes us ++ body_bytes got.u)
          result_bytes =
              let_made Assign view.l view.w view.h us got.u
              ∙ ap (λ (n : ℕ). let_head Assign view.l view.w view.h n ++ (joined binding_bytes us ++ body_bytes got.u)) same_count

          result_size : length (body_bytes (result us got.u)) ≡ first + w + x
          result_size =
              omega (arith, ap length result_bytes, length-append head (joined binding_bytes us ++ body_bytes got.u), length-append (joined binding_bytes us) (body_bytes got.u), parts.width, size, got.wrote)

          stands : At end t.free (body_bytes (result us got.u))
          stands =
              let h₁ = copied_at 0 t.free f (omega (arith, wide, p.wrote)) parts.head (omega arith) (omega (arith, parts.width)) (omega arith) in
              let h₂ = at_below body_frame (at_below g.frame h₁ (omega (arith, parts.width))) (omega (arith, parts.width)) in
              let u₁ = at_above f.frame at (omega (arith, p.wrote)) in
              let u₂ = copied_at (t.free + 3 * t.f - w) (t.free + first) g (omega (arith, f.frame.size, wide, p.wrote)) u₁ (omega arith) (omega (arith, size)) (omega arith) in
              let u₃ = at_below body_frame u₂ (omega (arith, size)) in
              let b = at_join (joined binding_bytes us) (body_bytes got.u) u₃ (at_place (t.free + first + length (joined binding_bytes us)) (omega (arith, size)) got.out) in
              subst (At end t.free) (sym result_bytes) (at_join head (joined binding_bytes us ++ body_bytes got.u) h₂ (at_place (t.free + length head) (omega (arith, parts.width)) b))

          given : outcome (from_sum sum (turning t.f (walk t.f (t.depth - 1)) p.ready.m us p.ready.tree) t.counter 0) ≡ gives (result us got.u) d
          unfolding outcome ret
          given = runs us ∙ got.goes_on (λ b. ret (result us b))

        pub turned_done : {q : Result Step Refusal} → Finishes (body + i) (first + w + x) t.f d q → Turns mem end w sum t q
        turned_done k = tells_of unique_fine p.ready all_frame (λ us a l n. finished_gives _ t.counter k (given us a l n) body_read (sym (result_size us a l n)) (stands us a l n))
