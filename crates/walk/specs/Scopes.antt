-- What drawing new patterns for the bindings of a parallel let asks of memory, and what it leaves there: the patterns one after the other from `aside` on, and
-- their joined map at the end.
-- Assumes nothing.
use Rattle.std.specs.Prelude.{List, [], ◌∷◌, ◌≡◌, ℕ, ◌+◌, ◌≤◌, length}
use Rattle.names.specs.Maps.{NameMap}
use Rattle.names.specs.Names.{Bytes}
use Rattle.names.specs.Segments.{At, SameOutside}
use Rattle.names.specs.declared.Refusal.{Refusal}
use Rattle.records.specs.StepAnswer.{refuses}
use Rattle.records.specs.Limits.{most_longest}
use Rattle.records.specs.Lists.{joined, Each}
use Rattle.records.specs.Parts.{ValidBinding}
use Rattle.records.specs.Records.{Pattern, pattern_field, Body, Binding, BB, binding_bytes}
use Rattle.records.specs.Valid.{ValidPattern}
use Rattle.walk.specs.Arena.{MapAt, outcome}
use Rattle.walk.specs.Draws.{patterns_of, counter_most}
use Rattle.walk.specs.Patterns.{make_bindings_unique}
use Rattle.walk.specs.Steps.{M, ◌>>=◌}
use Rattle.walk.specs.Walking.{let_aside}
use Rattle.walk.specs.declared.Made.{Made}
use Rattle.walk.specs.declared.Task.{Task}
use Rattle.std.specs.declared.result.Result.{Result}
use Rattle.std.specs.declared.result.Result.TheVariants.{Err}
use Rattle.walk.specs.RuleAnswers.{made_with}

-- bindings with other patterns
unfoldable pub with_pattern : Pattern → Binding → Binding
with_pattern p (BB l nl q b) = BB l nl p b

-- each with its own
unfoldable pub with_patterns : List Pattern → List Binding → List Binding
with_patterns [] bs = []
with_patterns (p ∷ ps) [] = []
with_patterns (p ∷ ps) (b ∷ bs) = with_pattern p b ∷ with_patterns ps bs

-- bindings of a let that stand at a place behind its mark, none past `aside`
pub record LetBindings (mem : Bytes) (first count aside F : ℕ) (bs : List Binding) : Type 0 where
  pub many : length bs ≡ count
  pub valid : Each ValidBinding bs
  pub there : At mem first (joined binding_bytes bs)
  pub moved : 1 ≤ first
  pub below : first + length (joined binding_bytes bs) ≤ aside
  pub short : first + length (joined binding_bytes bs) ≤ F

-- what is asked
pub record PatternsReady (mem : Bytes) (first count aside : ℕ) (t : Task) : Type 0 where
  pub bs : List Binding
  pub stand : LetBindings mem first count aside t.f bs
  pub room : aside + let_aside t.f count ≤ length mem
  pub counts : t.counter + patterns_of bs ≤ counter_most
  pub longest : t.f ≤ most_longest

-- the patterns of bindings, drawn from the counter c on: they and their map stand within the room for them; whatever follows goes on from the counter and the
-- sum then; or a refusal
pub data PatternsDrawn (F : ℕ) (bs : List Binding) (new : Bytes) (aside count c : ℕ) (r : Result Made Refusal) : Type 0 where
  drew : (m : NameMap) (ps : List Pattern) (len c' x : ℕ) → length ps ≡ length bs → Each ValidPattern ps
      → ((k : NameMap × List Binding → M Body) → outcome ((make_bindings_unique F [] bs >>= k) c 0) ≡ outcome (k (m, with_patterns ps bs) c' x))
      → r ≡ made_with (length (joined pattern_field ps)) x len c' → MapAt new len m → At new aside (joined pattern_field ps)
      → x ≤ F → length (joined pattern_field ps) ≤ x + length (joined binding_bytes bs) → length (joined pattern_field ps) + len ≤ let_aside F count → c' ≤ c + patterns_of bs
      → PatternsDrawn F bs new aside count c r
  stopped : (q : Refusal) → ((k : NameMap × List Binding → M Body) → outcome ((make_bindings_unique F [] bs >>= k) c 0) ≡ refuses q) → r ≡ Err q → PatternsDrawn F bs new aside count c r

-- what is answered
pub record DrawsPatterns (old new : Bytes) (first count aside : ℕ) (t : Task) (r : Result Made Refusal) : Type 0 where
  pub frame : SameOutside old new aside (length old)
  pub says : (bs : List Binding) → LetBindings old first count aside t.f bs → PatternsDrawn t.f bs new aside count t.counter r
