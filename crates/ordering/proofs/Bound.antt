-- The bindings of an assign one after the other: what `binding_names` and `find_names` meet. Assumes nothing.
use mathlib.Core.Path.{◌≡◌, refl, ap, ap₂, sym, subst, ◌∙◌}
use mathlib.Core.List.{List, [], ◌∷◌, ◌++◌, append_assoc, append-nil, flatten}
use Prim.Native.Nat.{ℕ, zero, suc, ◌+◌, ◌*◌, ◌-◌, ◌≤◌, ◌<◌}
use native.Mathlib.Decide.{dec_lt}
use native.Mathlib.Omega.{arith}
use lib.ListN.{length, take, drop, get_or, set, length-append, length-drop}
use lib.Seq.{drop-cons, take_at, take-add, take-length, take-suc, take_all, get_or-set_same, get_or-set_other}
use Rattle.names.specs.Names.{Bytes, ascii}
use Rattle.names.specs.Segments.{At}
use Rattle.names.proofs.Parts.{at_part, at_from_part}
use Rattle.names.proofs.Places.{at_left, at_right}
use Rattle.records.specs.Limits.{most_longest}
use Rattle.records.specs.Records.{Loc, loc_width, record_bytes, Pattern, pattern_field, Body, body_bytes, Binding, BB, binding_bytes, Bindings, list_of}
use Rattle.records.specs.declared.Kind.{Kind}
use Rattle.records.specs.Depth.{depth, binding_depth}
use Rattle.records.specs.Valid.{ValidBody, BodyFields, BindingFields, lambda_depth, binding_lambda_depth}
use Rattle.records.specs.declared.Family.TheVariants.{Body as a_Body}
use Rattle.records.specs.Lists.{joined, Each}
use Rattle.records.specs.Parts.{ValidBinding, Past, fixed_part, pattern_part, family_part}
use Rattle.records.specs.Views.{Stands, PastHead, SeesLet}
use Rattle.records.specs.declared.LetView.{LetView}
use Rattle.records.proofs.Lists.{list_count, list_bytes, list_valid}
use Rattle.records.proofs.Views.{opened, first_of, rest_of, step}
use Rattle.ordering.specs.declared.listed.Listed.{Listed}
use Rattle.ordering.specs.declared.provides.Provided.{Provided}
use Rattle.ordering.specs.Assign.{no_binding, need_limit, body_of, body_at, all_needs, Bound, BindingNames, ListsBinding, FindsNames, Collectable, Let, OrdersBindings}
use Rattle.ordering.specs.Listed.{AddsOne, Added}
use Rattle.ordering.specs.Provisions.{Provisions, ListsNames}
use Rattle.ordering.specs.Listing.{all_words}
use Rattle.ordering.specs.Needs.{binding_limit, Starts, outcome_of}
use Rattle.ordering.specs.Rounds.{rounds}
use Rattle.ordering.specs.Words.{pattern_provides, words, items, toposort_assign_bindings}
use Rattle.ordering.proofs.EntryLaws.{room_then, one_added, added_then, entries_length}
use Rattle.ordering.proofs.Few.{few_entries, few_needs, few_words}
use Rattle.ordering.proofs.Toposort.{means}

-- fields of a part that starts at a place
stands_from : {s : Bytes} {h : ℕ} {fs : List Bytes} (at k : ℕ) → at ≤ length s → Stands (take k (drop at s)) h fs → Stands s (at + h) fs
stands_from at k le w = record { there = at_from_part at k le w.there }

-- the pattern and the body of a binding
module _ {s : Bytes} {at h pattern : ℕ} (le : at ≤ length s) (x : PastHead (take (length s - at) (drop at s)) h) (y : Past (fixed_part loc_width) s (at + h) pattern) where
  -- where they stand, and where the binding ends
  binding_at : (l nl : Loc) (p : Pattern) (b : Body) → ValidBinding (BB l nl p b) → At s at (binding_bytes (BB l nl p b))
      → Stands s pattern (pattern_field p ∷ body_bytes b ∷ []) × (pattern + length (pattern_field p) + length (body_bytes b) ≡ at + length (binding_bytes (BB l nl p b)))
  unfolding binding_bytes BindingFields ascii record_bytes flatten
  binding_at l nl p b v a =
      let whole : At (take (length s - at) (drop at s)) 0 (binding_bytes (BB l nl p b)) = at_part at (length s - at) a (omega arith) (omega (arith, a.fits)) in
      let k = opened "BB" _ whole in
      let w = stands_from at (length s - at) le (x.past (ascii "BB") l _ refl v.0.0 k) in (
        step y nl v.0.1.width w,
        omega (
          arith,
          x.ends (ascii "BB") l _ refl v.0.0 k,
          y.past nl v.0.1.width (first_of w),
          length-append (ascii "BB") (flatten (l ∷ nl ∷ pattern_field p ∷ body_bytes b ∷ [])),
          length-append l (nl ++ (pattern_field p ++ (body_bytes b ++ []))),
          length-append nl (pattern_field p ++ (body_bytes b ++ [])),
          length-append (pattern_field p) (body_bytes b ++ []),
          length-append (body_bytes b) [],
        ),
      )

  -- its names are listed behind a 0
  pub binding_listed : {before zero after : Listed ℕ} {body : ℕ} → AddsOne before zero 0 → ListsNames pattern_part pattern_provides s pattern zero after body → ListsBinding s at before after body
  unfolding BindingFields
  binding_listed {before} {zero} {after} {body} f g = record { room = room_then f.room g.adds.room; names = names }
    where
      names : (l nl : Loc) (p : Pattern) (b : Body) → ValidBinding (BB l nl p b) → At s at (binding_bytes (BB l nl p b)) → before.count + 1 + length (pattern_provides p) ≤ length before.items.now
          → BindingNames s before after body p b (at + length (binding_bytes (BB l nl p b)))
      names l nl p b v a fit =
          let w = binding_at l nl p b v a in
          let e = g.ends p v.0.2 (first_of w.0) in
          let z = one_added f (omega arith) in
          let q = g.lists p v.0.2 (first_of w.0) (omega (arith, z.counted, f.room.size)) in
          record {
            there = rw e (first_of (rest_of w.0));
            ends = omega (arith, w.1, e);
            entries = q.0;
            listed = q.1;
            added = added_then (0 ∷ []) q.0 z q.2 (omega (arith, entries_length s q.0 (pattern_provides p) q.1));
          }

-- provisions one after the other
provisions_append : (a : Bytes) (xs ys : List ℕ) (bs cs : List Binding) → Provisions a xs bs → Provisions a ys cs → Provisions a (xs ++ ys) (bs ++ cs)
unfolding Provisions
provisions_append a xs ys [] cs e q = subst (λ (zs : List ℕ). Provisions a (zs ++ ys) cs) (sym e) q
provisions_append a xs ys (BB l nl p b ∷ bs) cs (es, rest, e, k, h) q =
    (es, rest ++ ys, ap (λ (zs : List ℕ). zs ++ ys) e ∙ ap (λ (zs : List ℕ). 0 ∷ zs) (append_assoc es rest ys), k, provisions_append a rest ys bs cs h q)

-- what was added stands behind what was there
added_is : {before after : Listed ℕ} (vs : List ℕ) → Added before after vs → take after.count after.items.now ≡ take before.count before.items.now ++ vs
added_is {before} {after} vs h =
    rw h.counted (take-add before.count (length vs) after.items.now ∙ ap₂ ◌++◌ h.filled.frame.low (h.filled.got ∙ take-length vs))

-- what is known after j bindings
pub record Found (s : Bytes) (listed : Listed ℕ) (bodies : List ℕ) (at j : ℕ) (bs : List Binding) : Type 0 where
  pub few : 4 * listed.count ≤ at
  pub provisions : Provisions s (take listed.count listed.items.now) (take j bs)
  pub rest : At s at (joined binding_bytes (drop j bs))
  pub there : (k : ℕ) → k < j → At s (get_or bodies k 0) (body_bytes (body_at bs k))

each_at : {A : Type 0} (P : A → Type 0) (xs : List A) (j : ℕ) (d : A) → Each P xs → j < length xs → P (get_or xs j d)
unfolding Each
each_at P [] j d e lt = absurd (omega arith)
each_at P (x ∷ xs) zero d e lt = e.0
each_at P (x ∷ xs) (suc j) d e lt = each_at P xs j d e.1 (omega arith)

module _ {s : Bytes} {listed : Listed ℕ} {bodies : List ℕ} {at j : ℕ} {bs : List Binding} (f : Found s listed bodies at j bs) (v : Each ValidBinding bs) (lt : j < length bs) where
  -- the next binding stands at `at`
  next_at : At s at (binding_bytes (get_or bs j no_binding) ++ joined binding_bytes (drop (suc j) bs))
  unfolding joined
  next_at = rw (drop-cons bs j no_binding lt) at f.rest

  -- there is room for its names
  next_room : (l nl : Loc) (p : Pattern) (b : Body) → get_or bs j no_binding ≡ BB l nl p b → length s ≤ most_longest → listed.count + 1 + length (pattern_provides p) ≤ need_limit
  next_room l nl p b e le =
      let q : ValidBinding (BB l nl p b) = rw e at (each_at ValidBinding bs j no_binding v lt) in
      let a : At s at (binding_bytes (BB l nl p b) ++ joined binding_bytes (drop (suc j) bs)) = rw e at next_at in
      omega (arith, few_entries l nl p b q.0, (at_left (binding_bytes (BB l nl p b)) (joined binding_bytes (drop (suc j) bs)) a).fits, f.few)

  -- one binding more
  found_next : {listed' : Listed ℕ} {body at' : ℕ} (l nl : Loc) (p : Pattern) (b : Body) → get_or bs j no_binding ≡ BB l nl p b → j < length bodies
      → BindingNames s listed listed' body p b (at + length (binding_bytes (BB l nl p b))) → Past (family_part a_Body) s body at'
      → Found s listed' (set bodies j body) at' (j + 1) bs
  unfolding BindingFields Provisions body_of binding_depth binding_lambda_depth
  found_next {listed'} {body} {at'} l nl p b e fits g y =
      let q : ValidBinding (BB l nl p b) = rw e at (each_at ValidBinding bs j no_binding v lt) in
      let a : At s at (binding_bytes (BB l nl p b) ++ joined binding_bytes (drop (suc j) bs)) = rw e at next_at in
      let one : j + 1 ≡ suc j = omega arith in
      let w : at' ≡ body + length (body_bytes b) = y.past b (q.0.3, omega (arith, q.1), omega (arith, q.2)) g.there in
      let end : at' ≡ at + length (binding_bytes (BB l nl p b)) = w ∙ g.ends in
      let entries : Provisions s (0 ∷ g.entries) (BB l nl p b ∷ []) = (g.entries, [], ap (λ (zs : List ℕ). 0 ∷ zs) (sym (append-nil g.entries)), g.listed, refl) in
      let more : Provisions s (take listed.count listed.items.now ++ (0 ∷ g.entries)) (take j bs ++ (BB l nl p b ∷ [])) = provisions_append s (take listed.count listed.items.now) (0 ∷ g.entries) (take j bs) (BB l nl p b ∷ []) f.provisions entries in
      let taken : take (suc j) bs ≡ take j bs ++ (BB l nl p b ∷ []) = take-suc bs j no_binding lt ∙ ap (λ (x : Binding). take j bs ++ (x ∷ [])) e in
      record {
        few = omega (arith, f.few, end, few_entries l nl p b q.0, g.added.counted, entries_length s g.entries (pattern_provides p) g.listed);
        provisions = rw (one, taken, added_is (0 ∷ g.entries) g.added) more;
        rest = rw (one, end) (at_right (binding_bytes (BB l nl p b)) (joined binding_bytes (drop (suc j) bs)) a);
        there = λ k h. elim (dec_lt k j) [
          | yes i ↦ rw (get_or-set_other bodies j k body 0 (λ q. omega (arith, q))) (f.there k i)
          | no i ↦
              let k_is : k ≡ j = omega arith in
              rw (k_is, get_or-set_same bodies j body 0 fits, e) g.there
        ];
      }

  -- the same, from what `binding_names` promises of any binding
  module _ (top : length s ≤ most_longest) (size : length listed.items.now ≡ need_limit) {listed' : Listed ℕ} {body : ℕ} (g : ListsBinding s at listed listed' body) where
    names_of : (l nl : Loc) (p : Pattern) (b : Body) → get_or bs j no_binding ≡ BB l nl p b → BindingNames s listed listed' body p b (at + length (binding_bytes (BB l nl p b)))
    names_of l nl p b e =
        let q : ValidBinding (BB l nl p b) = rw e at (each_at ValidBinding bs j no_binding v lt) in
        let a : At s at (binding_bytes (BB l nl p b) ++ joined binding_bytes (drop (suc j) bs)) = rw e at next_at in
        g.names l nl p b q (at_left (binding_bytes (BB l nl p b)) (joined binding_bytes (drop (suc j) bs)) a) (omega (arith, next_room l nl p b e top))

    pub next_body : body ≤ length s
    next_body = go (get_or bs j no_binding) refl
      where
        go : (b : Binding) → get_or bs j no_binding ≡ b → body ≤ length s
        go (BB l nl p b) e = omega (arith, (names_of l nl p b e).there.fits)

    pub found_step : {at' : ℕ} → j < length bodies → Past (family_part a_Body) s body at' → Found s listed' (set bodies j body) at' (j + 1) bs
    found_step {at'} fits y = go (get_or bs j no_binding) refl
      where
        go : (b : Binding) → get_or bs j no_binding ≡ b → Found s listed' (set bodies j body) at' (j + 1) bs
        go (BB l nl p b) e = found_next l nl p b e fits (names_of l nl p b e) y

-- no binding is behind
pub found_none : {s : Bytes} {listed : Listed ℕ} {bodies : List ℕ} {at : ℕ} (bs : List Binding) → listed.count ≡ 0 → At s at (joined binding_bytes bs) → Found s listed bodies at 0 bs
unfolding Provisions
found_none bs e a = record { few = omega arith; provisions = rw e refl; rest = a; there = λ k h. absurd (omega arith) }

-- all are
pub found_all : {s : Bytes} {listed : Listed ℕ} {entries bodies : List ℕ} {at j : ℕ} {bs : List Binding} → Found s listed bodies at j bs → Each ValidBinding bs → length bs ≤ j → at ≤ most_longest → length listed.items.now ≡ need_limit → entries ≡ listed.items.now
    → FindsNames s entries bodies listed.count bs
unfolding BindingFields body_of binding_depth binding_lambda_depth
found_all {s} {listed} {bodies = bodies} {at} {j} {bs} f v le top size e = record {
  few = rw e (omega (arith, f.few));
  provisions = rw (e, ← take_all j bs le) f.provisions;
  bodies_at = record { valid = λ k h. body_valid (get_or bs k no_binding) (each_at ValidBinding bs k no_binding v h); there = λ k h. f.there k (omega arith) };
}
  where
    body_valid : (b : Binding) → ValidBinding b → ValidBody (body_of b)
    body_valid (BB l nl p b) q = (q.0.3, omega (arith, q.1), omega (arith, q.2))

-- there is room for what bindings need
few_all : (bs : List Binding) → Each ValidBinding bs → 4 * length (all_words (λ b. words (body_of b)) bs) ≤ length (joined binding_bytes bs)
unfolding Each joined body_of BindingFields
few_all [] v = omega arith
few_all (BB l nl p b ∷ bs) v =
    omega (
      arith,
      few_entries l nl p b v.0.0,
      few_words b v.0.0.3,
      few_all bs v.1,
      length-append (words b) (all_words (λ c. words (body_of c)) bs),
      length-append (binding_bytes (BB l nl p b)) (joined binding_bytes bs),
    )

pub bound_fits : {s : Bytes} {at n : ℕ} {bs : List Binding} → Bound s at n bs → length s ≤ most_longest → length (all_needs bs bs) ≤ need_limit
unfolding all_needs
bound_fits {bs = bs} b top = omega (arith, few_needs (items bs) (all_words (λ c. words (body_of c)) bs), few_all bs b.valid.1, b.there.fits)

pub let_bound : {m : ℕ} {s : Bytes} {v : LetView} {k : Kind} {l : Loc} {w h : Bytes} {bs : Bindings} {b : Body} → m ≡ v.count → SeesLet s v → Let s k l w h bs b
    → Bound s v.first m (list_of bs) × (m ≤ binding_limit)
unfolding BodyFields depth lambda_depth
let_bound {k = k} {l} {w} {h} {bs} {b} c x t =
    let e = x.sees k l w h bs b t.valid t.there in
    let n : length (list_of bs) ≡ _ = list_count bs ∙ sym e.count ∙ sym c in (
      record {
        count = n;
        valid = (n, list_valid bs t.valid.0.4 (omega (arith, t.valid.1)) (omega (arith, t.valid.2)));
        there = rw (list_bytes bs) (first_of e.rest);
      },
      omega (arith, t.valid.0.3, e.count, c),
    )

-- bindings that were found can be collected
pub collectable : (given : Provided) {s : Bytes} {xs bodies : List ℕ} {at m n room : ℕ} {bs : List Binding} → given.bytes.now ≡ s → given.entries.now ≡ take n xs → FindsNames s xs bodies n bs → Bound s at m bs → m ≡ length bodies
    → length s ≤ most_longest → room ≡ need_limit → Collectable given bodies room bs
collectable given es ex f b e top r = record { size = b.count ∙ e; provisions = rw (es, ex) f.provisions; bodies_at = rw es f.bodies_at; fits = omega (arith, bound_fits b top) }

-- the number of bindings, told otherwise
pub bound_of : {s : Bytes} {at m : ℕ} {bs : List Binding} (n : ℕ) → m ≡ n → Bound s at m bs → Bound s at n bs
bound_of {s} {at} {m} {bs} n e b = subst (λ (k : ℕ). Bound s at k bs) e b

pub starts_of : {needs starts : List ℕ} {m : ℕ} (n : ℕ) → m ≡ n → Starts m needs starts → Starts n needs starts
starts_of {needs} {starts} n e h = subst (λ (k : ℕ). Starts k needs starts) e h

-- an order in an array that is longer than it
pub ordered_in : {s : Bytes} {at count placed n : ℕ} {bs : List Binding} (row zeros : List ℕ) → Bound s at count bs → length row ≡ count → length zeros ≡ binding_limit → count ≤ binding_limit → placed ≤ length row
    → (toposort_assign_bindings bs ≡ outcome_of row placed) × (n ≡ rounds (items bs)) → OrdersBindings bs (record { row = row ++ drop count zeros; count = count; placed = placed; rounds = n })
unfolding toposort_assign_bindings
ordered_in {count = count} {placed} {bs = bs} row zeros b e z le h o =
    let t : take count (row ++ drop count zeros) ≡ row = take_at row (drop count zeros) count e in
    record {
      count = sym b.count;
      few = le;
      row = omega (arith, length-append row (drop count zeros), length-drop count zeros);
      placed = omega arith;
      order = rw t o.0;
      rounds = o.1;
      means = rw (t, ← o.0) (means (items bs));
    }
