-- The bindings of a let in the middle of the loop: those that are left, what is made of the others, and that this holds at first. Assumes nothing.
use mathlib.Core.Path.{◌≡◌, refl, ap, ◌∙◌}
use mathlib.Core.Bool.{Bool}
use mathlib.Core.List.{List, [], ◌∷◌, ◌++◌, append-nil}
use native.Mathlib.Omega.{arith}
use Prim.Native.Nat.{ℕ, ◌+◌, ◌-◌, ◌≤◌, ◌<◌}
use lib.ListN.{length}
use Rattle.names.specs.Names.{Bytes}
use Rattle.names.specs.Segments.{At, SameOutside}
use Rattle.names.proofs.Frames.{same_refl}
use Rattle.records.specs.Lists.{joined, Each}
use Rattle.records.specs.Records.{Pattern, Body, Binding, binding_bytes}
use Rattle.walk.specs.Arena.{outcome}
use Rattle.walk.specs.Bodyforms.{each_binding_body}
use Rattle.walk.specs.Draws.{inside_of, dbl}
use Rattle.walk.specs.LetWalks.{heads, FineBinding, Chosen, AllReady, AllBound}
use Rattle.walk.specs.Scopes.{with_patterns}
use Rattle.walk.specs.Steps.{M, ◌>>=◌}
use Rattle.walk.specs.Walking.{rule, led}
use Rattle.walk.specs.declared.Task.{Task}
use Rattle.walk.proofs.LetRuns.{each_none}
use Rattle.walk.specs.RuleAnswers.{piece_of}

-- the bindings and patterns that are left, what is made of the others, and the rest of the run
pub record Mid {old : Bytes} {count aside held : ℕ} {t : Task} {owning : Bool} (p : AllReady old count aside held t owning) (rest : List Binding) (patterns : List Pattern) (mem : Bytes) (at to pattern sum c i : ℕ) : Type 0 where
  pub made : List Binding
  pub many : i + length rest ≡ count
  pub count_made : length made ≡ i
  pub good : Each (FineBinding t.f t.depth) rest
  pub chosen : Chosen owning mem pattern rest patterns
  pub onward : aside ≤ pattern
  pub there : At mem at (joined binding_bytes rest)
  pub read : at + length (joined binding_bytes rest) ≡ length (joined binding_bytes p.bs)
  pub out : At mem t.free (joined binding_bytes made)
  pub writes : to ≡ t.free + length (joined binding_bytes made)
  pub sums : length (joined binding_bytes made) + held + heads patterns rest ≡ heads p.ps p.bs + sum
  pub within : sum ≤ t.f
  pub frame : SameOutside old mem t.free p.top
  pub draws : c + dbl t.depth (inside_of rest) ≤ t.counter + dbl t.depth (inside_of p.bs)
  pub runs : (k : List Binding → M Body) → outcome ((each_binding_body t.f (rule t.f owning t.depth p.m) (with_patterns p.ps p.bs) >>= k) t.counter held)
      ≡ outcome ((each_binding_body t.f (rule t.f owning t.depth p.m) (with_patterns patterns rest) >>= λ us. k (made ++ us)) c sum)

-- so at some turn
pub record Looping {old : Bytes} {count aside held : ℕ} {t : Task} {owning : Bool} (p : AllReady old count aside held t owning) (mem : Bytes) (at to pattern sum c i : ℕ) : Type 0 where
  pub rest : List Binding
  pub patterns : List Pattern
  pub mid : Mid p rest patterns mem at to pattern sum c i

-- the same where a binding is left
pub record Turn {old : Bytes} {count aside held : ℕ} {t : Task} {owning : Bool} (p : AllReady old count aside held t owning) (mem : Bytes) (at to pattern sum c i : ℕ) : Type 0 where
  pub x : Binding
  pub more : List Binding
  pub q : Pattern
  pub qs : List Pattern
  pub mid : Mid p (x ∷ more) (q ∷ qs) mem at to pattern sum c i

module _ {old : Bytes} {count aside held : ℕ} {t : Task} {owning : Bool} (p : AllReady old count aside held t owning) where
  -- before the first turn
  pub loop_starts : Looping p old 0 t.free aside held t.counter 0
  unfolding joined
  loop_starts =
      record {
        rest = p.bs;
        patterns = p.ps;
        mid = record {
          made = [];
          many = omega (arith, p.many);
          count_made = refl;
          good = p.good;
          chosen = p.chosen;
          onward = omega arith;
          there = p.there;
          read = omega arith;
          out = record { fits = omega (arith, p.room, p.ends.within); there = refl };
          writes = omega arith;
          sums = omega arith;
          within = p.held_within;
          frame = same_refl;
          draws = omega arith;
          runs = λ k. refl;
        };
      }

  module _ {mem : Bytes} {at to pattern sum c i : ℕ} where
    -- after the last
    pub loop_ends : Looping p mem at to pattern sum c i → count ≤ i → AllBound old mem count aside held t owning p (piece_of at (to - t.free) sum c)
    unfolding joined with_patterns
    loop_ends w le = go w.rest w.patterns w.mid
      where
        go : (rest : List Binding) (patterns : List Pattern) → Mid p rest patterns mem at to pattern sum c i → AllBound old mem count aside held t owning p (piece_of at (to - t.free) sum c)
        go (x ∷ more) qs v = absurd (omega (arith, v.many))
        go [] (q ∷ qs) v = absurd (omega (arith, v.chosen.many))
        go [] [] v =
            let us = v.made in
            let n : i ≡ count = omega (arith, v.many) in
            let a : at ≡ length (joined binding_bytes p.bs) = omega (arith, v.read) in
            let b : to - t.free ≡ length (joined binding_bytes us) = omega (arith, v.writes) in
            record {
              frame = v.frame;
              leads = led us c sum (record { many = v.count_made ∙ n; long = omega (arith, v.sums, v.within) }) v.within
                  (λ k. v.runs k ∙ each_none t.f (rule t.f owning t.depth p.m) (λ us. k (v.made ++ us)) c sum ∙ ap (λ (z : List Binding). outcome (k z c sum)) (append-nil us))
                  (cc (a, b)) v.out;
            }

    -- a binding is left
    pub turn : Looping p mem at to pattern sum c i → i < count → Turn p mem at to pattern sum c i
    turn w lt = go w.rest w.patterns w.mid
      where
        go : (rest : List Binding) (patterns : List Pattern) → Mid p rest patterns mem at to pattern sum c i → Turn p mem at to pattern sum c i
        go [] qs v = absurd (omega (arith, v.many))
        go (x ∷ more) [] v = absurd (omega (arith, v.chosen.many))
        go (x ∷ more) (q ∷ qs) v = record { x = x; more = more; q = q; qs = qs; mid = v }
