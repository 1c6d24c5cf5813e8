-- Own of a parallel let, by scope: its binding bodies go by none of its names, its body by all of them, the later of two alike prevailing. Assumes nothing.
use mathlib.Core.List.{List, [], ◌∷◌, ◌++◌, flatten, reverse, reverse_aux}
use mathlib.Core.Option.{none, some}
use mathlib.Core.Path.{◌≡◌, refl, sym, ap, ◌∙◌}
use native.Mathlib.Omega.{arith}
use native.Mathlib.Nat.{not-suc-le-zero, le_of_suc-le-suc}
use Prim.Native.Nat.{ℕ, zero, suc, ◌<◌}
use lib.ListN.{length, get_or}
use Rattle.names.specs.Maps.{NameMap, lookup, renamed}
use Rattle.names.specs.Names.{Bytes}
use Rattle.records.specs.Records.{Loc, Pattern, Body, BL, Binding, BB, to_bindings}
use Rattle.records.specs.declared.Kind.TheVariants.{Parallel}
use Rattle.ordering.specs.Assign.{body_of, no_binding, body_at}
use Rattle.ordering.specs.Scope.{in_let_body, InScope}
use Rattle.walk.specs.Bodyforms.{each_binding_body, Rules, args_then_in, rename_args_let}
use Rattle.walk.specs.LetWalks.{binding_pattern}
use Rattle.walk.specs.Patterns.{make_binding_unique, make_bindings_unique}
use Rattle.walk.specs.Steps.{M, DoneWith, ◌>>=◌, ◌>>◌, ret, body_size, child, further, add_to_sum, take_from_sum}
use Rattle.walk.proofs.DoneLaws.{both_done, ret_gave}
use Rattle.walk.proofs.JoinedMaps.{renamed_last, renamed_none}

-- some run ends with this value: from some counter and sum, and with some
abbrev pub RunsTo : {A : Type 0} → M A → A → Type 0
RunsTo m a = (c : ℕ) × (x : ℕ) × (c' : ℕ) × (x' : ℕ) × DoneWith (m c x) a c' x'

-- the pattern of the binding with index k
abbrev pub pattern_at : List Binding → ℕ → Pattern
pattern_at bs k = binding_pattern (get_or bs k no_binding)

-- what a run in two parts and a value at once came from
runs_both : {A B : Type 0} (m : M A) (k : A → M B) {b : B} → RunsTo (m >>= k) b → (a : A) × RunsTo m a × RunsTo (k a) b
runs_both m k (c, x, c', x', d) = let q = both_done m k d in (q.a, (c, x, q.c₁, q.x₁, q.first), (q.c₁, q.x₁, c', x', q.second))

runs_ret : {A : Type 0} {a b : A} → RunsTo (ret a) b → a ≡ b
runs_ret r = (ret_gave r.4).0

-- a property of each index, the first and the others
by_index : {n : ℕ} (P : ℕ → Type 0) → P 0 → ((i : ℕ) → i < n → P (suc i)) → (i : ℕ) → i < suc n → P i
by_index P p q zero h = p
by_index P p q (suc i) h = q i (le_of_suc-le-suc h)

-- F: the longest record
module _ (F : ℕ) where
  -- what a child's result and one that is taken further came from
  module _ {A : Type 0} (size : A → ℕ) where
    runs_added : (a : A) {b : A} → RunsTo (add_to_sum F (size a) >> ret a) b → a ≡ b
    unfolding ◌>>◌
    runs_added a r = runs_ret (runs_both (add_to_sum F (size a)) (λ _. ret a) r).2

    runs_child : (m : M A) {b : A} → RunsTo (child F size m) b → RunsTo m b
    unfolding child
    runs_child m r = let (a, first, second) = runs_both m _ r in rw (runs_added a second) at first

    runs_further : (old : A) (f : A → M A) {b : A} → RunsTo (further F size old f) b → RunsTo (f old) b
    unfolding further ◌>>◌
    runs_further old f r = let (a, first, second) = runs_both (f old) _ r in rw (runs_added a (runs_both (take_from_sum F (size old)) _ second).2) at first

  -- each binding body by a rule, the pattern as it was
  record EachBody (f : Body → M Body) (bs us : List Binding) : Type 0 where
    count : length us ≡ length bs
    bodies : (i : ℕ) → i < length bs → RunsTo (f (body_at bs i)) (body_at us i)
    patterns : (i : ℕ) → i < length bs → pattern_at us i ≡ pattern_at bs i

  -- one binding more
  module _ (f : Body → M Body) (l nl : Loc) (p : Pattern) (b : Body) (bs : List Binding) where
    body_next : (b' : Body) (bs' : List Binding) → RunsTo (f b) b' → EachBody f bs bs' → EachBody f (BB l nl p b ∷ bs) (BB l nl p b' ∷ bs')
    unfolding body_of binding_pattern
    body_next b' bs' r e = record {
      count = ap suc e.count;
      bodies = by_index (λ i. RunsTo (f (body_at (BB l nl p b ∷ bs) i)) (body_at (BB l nl p b' ∷ bs') i)) r e.bodies;
      patterns = by_index (λ i. pattern_at (BB l nl p b' ∷ bs') i ≡ pattern_at (BB l nl p b ∷ bs) i) refl e.patterns;
    }

    bodies_next : (us : List Binding) → RunsTo (each_binding_body F f (BB l nl p b ∷ bs)) us
        → ((bs' : List Binding) → RunsTo (each_binding_body F f bs) bs' → EachBody f bs bs') → EachBody f (BB l nl p b ∷ bs) us
    unfolding each_binding_body
    bodies_next us r others =
        let (b', first, more) = runs_both (child F body_size (f b)) _ r in
        let (bs', rest, last) = runs_both (each_binding_body F f bs) _ more in
        rw (← runs_ret last) (body_next b' bs' (runs_child body_size (f b) first) (others bs' rest))

  -- a run over binding bodies has gone so
  each_body_gave : (f : Body → M Body) (bs us : List Binding) → RunsTo (each_binding_body F f bs) us → EachBody f bs us
  unfolding each_binding_body
  each_body_gave f [] us r = rw (← runs_ret r) record {
    count = refl;
    bodies = λ i h. absurd (not-suc-le-zero h);
    patterns = λ i h. absurd (not-suc-le-zero h);
  }
  each_body_gave f (BB l nl p b ∷ bs) us r = bodies_next f l nl p b bs us r (each_body_gave f bs)

  -- the patterns of bindings by their own maps, the bodies as they were; the maps joined before others, the later first
  record Uniques (older : List NameMap) (bs : List Binding) (given : NameMap × List Binding) : Type 0 where
    maps : List NameMap
    many : length maps ≡ length bs
    map_is : given.0 ≡ flatten (reverse_aux maps older)
    count : length given.1 ≡ length bs
    drawn : (i : ℕ) → i < length bs → RunsTo (make_binding_unique F (pattern_at bs i)) (get_or maps i [], pattern_at given.1 i)
    bodies : (i : ℕ) → i < length bs → body_at given.1 i ≡ body_at bs i

  -- one binding more
  module _ (older : List NameMap) (l nl : Loc) (p : Pattern) (b : Body) (bs : List Binding) where
    pattern_next : (v : NameMap × Pattern) (w : NameMap × List Binding) → RunsTo (make_binding_unique F p) v → Uniques (v.0 ∷ older) bs w
        → Uniques older (BB l nl p b ∷ bs) (w.0, BB l nl v.1 b ∷ w.1)
    unfolding body_of binding_pattern
    pattern_next v w r u = record {
      maps = v.0 ∷ u.maps;
      many = ap suc u.many;
      map_is = u.map_is;
      count = ap suc u.count;
      drawn = by_index
          (λ i. RunsTo (make_binding_unique F (pattern_at (BB l nl p b ∷ bs) i)) (get_or (v.0 ∷ u.maps) i [], pattern_at (BB l nl v.1 b ∷ w.1) i))
          r u.drawn;
      bodies = by_index (λ i. body_at (BB l nl v.1 b ∷ w.1) i ≡ body_at (BB l nl p b ∷ bs) i) refl u.bodies;
    }

    patterns_next : (given : NameMap × List Binding) → RunsTo (make_bindings_unique F (flatten older) (BB l nl p b ∷ bs)) given
        → ((m : NameMap) (w : NameMap × List Binding) → RunsTo (make_bindings_unique F (flatten (m ∷ older)) bs) w → Uniques (m ∷ older) bs w)
        → Uniques older (BB l nl p b ∷ bs) given
    unfolding make_bindings_unique flatten
    patterns_next given r others =
        let (v, first, more) = runs_both (make_binding_unique F p) _ r in
        let (w, rest, last) = runs_both (make_bindings_unique F (v.0 ++ flatten older) bs) _ more in
        rw (← runs_ret last) (pattern_next v w first (others v.0 w rest))

  -- a run over patterns has gone so
  uniques_gave : (older : List NameMap) (bs : List Binding) (given : NameMap × List Binding) → RunsTo (make_bindings_unique F (flatten older) bs) given
      → Uniques older bs given
  unfolding make_bindings_unique
  uniques_gave older [] given r = rw (← runs_ret r) record {
    maps = [];
    many = refl;
    map_is = refl;
    count = refl;
    drawn = λ i h. absurd (not-suc-le-zero h);
    bodies = λ i h. absurd (not-suc-le-zero h);
  }
  uniques_gave older (BB l nl p b ∷ bs) given r = patterns_next older l nl p b bs given r (λ m. uniques_gave (m ∷ older) bs)

  -- What Own gives back of a parallel let, by scope.
  pub record OwnLet (r : Rules) (l : Loc) (k h : Bytes) (bs : List Binding) (b : Body) (back : Body) : Type 0 where
    pub bindings : List Binding
    pub body : Body
    pub written : back ≡ BL Parallel l k h (to_bindings bindings) body
    pub count : length bindings ≡ length bs
    -- each binding draws new names into a map of its own
    pub maps : List NameMap
    pub many : length maps ≡ length bs
    pub drawn : (i : ℕ) → i < length bs → RunsTo (make_binding_unique F (pattern_at bs i)) (get_or maps i [], pattern_at bindings i)
    -- none of them is in scope in a binding body: Own takes it, and no map
    pub bodies : (i : ℕ) → i < length bs → RunsTo (r.args_bodyform (body_at bs i)) (body_at bindings i)
    -- all are in scope in the body: Own takes it, and then In-body by their maps, the later before the earlier
    pub between : Body
    pub by_own : RunsTo (r.args_bodyform b) between
    pub map : NameMap
    pub by_map : RunsTo (r.in_bodyform map between) body
    pub map_is : map ≡ flatten (reverse maps)
    -- so that a name becomes what the last binding that is in scope and has an entry of it makes of it, and stays where none has
    pub last : (n v : Bytes) (i : ℕ) → InScope Parallel (length bs) [] i in_let_body → lookup (get_or maps i []) n ≡ some v
        → ((j : ℕ) → InScope Parallel (length bs) [] j in_let_body → i < j → lookup (get_or maps j []) n ≡ none) → renamed map n ≡ v
    pub stays : (n : Bytes) → ((j : ℕ) → InScope Parallel (length bs) [] j in_let_body → lookup (get_or maps j []) n ≡ none) → renamed map n ≡ n

  -- of whatever rules one level down
  pub parallel_scope : (r : Rules) (l : Loc) (k h : Bytes) (bs : List Binding) (b back : Body) → RunsTo (rename_args_let F r l k h bs b) back
      → OwnLet r l k h bs b back
  unfolding rename_args_let args_then_in flatten InScope
  parallel_scope r l k h bs b back run =
      let (v, patterns, run₂) = runs_both (make_bindings_unique F [] bs) _ run in
      let (us, each, run₃) = runs_both (each_binding_body F r.args_bodyform v.1) _ run₂ in
      let (b', whole, end) = runs_both (args_then_in F r v.0 b) _ run₃ in
      let (o, first, second) = runs_both (child F body_size (r.args_bodyform b)) _ whole in
      made v us b' o (uniques_gave [] bs v patterns) (each_body_gave r.args_bodyform v.1 us each)
      (runs_child body_size (r.args_bodyform b) first) (runs_further body_size o (r.in_bodyform v.0) second) (runs_ret end)
    where
      made : (v : NameMap × List Binding) (us : List Binding) (b' o : Body) → Uniques [] bs v → EachBody r.args_bodyform v.1 us
          → RunsTo (r.args_bodyform b) o → RunsTo (r.in_bodyform v.0 o) b' → BL Parallel l k h (to_bindings us) b' ≡ back → OwnLet r l k h bs b back
      made v us b' o u e own into w = record {
        bindings = us;
        body = b';
        written = sym w;
        count = e.count ∙ u.count;
        maps = u.maps;
        many = u.many;
        drawn = λ i lt. rw (e.patterns i (omega (arith, u.count))) (u.drawn i lt);
        bodies = λ i lt. rw (u.bodies i lt) at (e.bodies i (omega (arith, u.count)));
        between = o;
        by_own = own;
        map = v.0;
        by_map = into;
        map_is = u.map_is;
        last = λ n x i lt found later.
            rw u.map_is (renamed_last n u.maps i (omega (arith, u.many)) found (λ j p q. later j (omega (arith, u.many)) p));
        stays = λ n never. rw u.map_is (renamed_none n u.maps (λ j q. never j (omega (arith, u.many))));
      }
