-- Joined maps: names drawn onto a map are those drawn onto none, joined before it; in memory the newer of two joined maps is the map of what stands below the
-- older one; and of several that are joined, the last that has an entry of a name prevails. Assumes nothing.
use mathlib.Core.Path.{◌≡◌, refl, sym, ap, ◌∙◌}
use mathlib.Core.Bool.{Bool, true, false}
use mathlib.Core.List.{List, [], ◌∷◌, ◌++◌, append_assoc, flatten, reverse, reverse_aux}
use mathlib.Core.Option.{Option, none, some}
use native.Mathlib.Nat.{not-suc-le-zero, le_of_suc-le-suc}
use native.Mathlib.Omega.{arith}
use Prim.Native.Nat.{ℕ, zero, suc, ◌+◌, ◌-◌, ◌<◌}
use lib.ListN.{length, get_or, take, drop, length-append, length-drop}
use lib.Seq.{length-take-le, take-append_seam}
use Rattle.names.specs.Maps.{NameMap, lookup, renamed, map_bytes, Limited}
use Rattle.names.specs.Names.{Bytes, ascii, same, name_field}
use Rattle.names.proofs.Places.{take_drop}
use Rattle.records.specs.Records.{Sexp, SN, SC, SI, SQ, SA}
use Rattle.walk.specs.Arena.{MapAt}
use Rattle.walk.specs.Invent.{draw, invent_new_names_sexp}
use Rattle.walk.specs.Steps.{M, Out, Event, done, refused, ◌>>=◌, after, ret}

-- what a run gives, by a function of its value
unfoldable pub on_value : {A B : Type 0} → (A → B) → Out A → Out B
on_value f (done log a c x) = done log (f a) c x
on_value f (refused log r) = refused log r

after_on_value : {A B : Type 0} (f : A → B) (log : List Event) (o : Out A) → after log (on_value f o) ≡ on_value f (after log o)
unfolding after on_value
after_on_value f log (done l a c x) = refl
after_on_value f log (refused l r) = refl

module _ (k : NameMap) where
  abbrev onto : NameMap → NameMap
  onto m = m ++ k

  pub invent_onto : (m : NameMap) (s : Sexp) (c x : ℕ) → invent_new_names_sexp (m ++ k) s c x ≡ on_value onto (invent_new_names_sexp m s c x)
  unfolding invent_new_names_sexp ret on_value ◌>>=◌
  invent_onto m (SN l) c x = refl
  invent_onto m (SC l h t) c x = ap run (invent_onto m h c x) ∙ go (λ m' c' x'. invent_onto m' t c' x') (invent_new_names_sexp m h c x)
    where
      run : Out NameMap → Out NameMap
      run o = elim o as (λ _. Out NameMap) [ done log m' c' x' ↦ after log (invent_new_names_sexp m' t c' x') | refused log r ↦ refused log r ]

      go : ((m : NameMap) (c x : ℕ) → invent_new_names_sexp (m ++ k) t c x ≡ on_value onto (invent_new_names_sexp m t c x)) → (o : Out NameMap)
          → run (on_value onto o) ≡ on_value onto (run o)
      go h (done log m' c' x') = ap (after log) (h m' c' x') ∙ after_on_value onto log (invent_new_names_sexp m' t c' x')
      go h (refused log r) = refl
  invent_onto m (SI l v) c x = refl
  invent_onto m (SQ l q n) c x = refl
  invent_onto m (SA l n) c x = go (same n (ascii "@"))
    where
      drawn : NameMap → Out Bytes → Out NameMap
      drawn m o = elim o as (λ _. Out NameMap) [ done log n' c' x' ↦ after log (done [] ((n, n') ∷ m) c' x') | refused log r ↦ refused log r ]

      draws : (o : Out Bytes) → drawn (onto m) o ≡ on_value onto (drawn m o)
      draws (done log n' c' x') = after_on_value onto log (done [] ((n, n') ∷ m) c' x')
      draws (refused log r) = refl

      by_name : NameMap → Bool → M NameMap
      by_name m b = elim b as (λ _. M NameMap) [ true ↦ ret m | false ↦ (draw n >>= λ n'. ret ((n, n') ∷ m)) ]

      go : (b : Bool) → by_name (onto m) b c x ≡ on_value onto (by_name m b c x)
      go true = refl
      go false = draws (draw n c x)

-- the bytes of joined maps
pub joined_bytes : (a b : NameMap) → map_bytes (a ++ b) ≡ map_bytes a ++ map_bytes b
unfolding map_bytes
joined_bytes [] b = refl
joined_bytes ((n, n') ∷ a) b =
    ap (λ (r : Bytes). name_field n ++ (name_field n' ++ r)) (joined_bytes a b)
    ∙ sym (append_assoc (name_field n) (name_field n' ++ map_bytes a) (map_bytes b)
    ∙ ap (λ (r : Bytes). name_field n ++ r) (append_assoc (name_field n') (map_bytes a) (map_bytes b)))

newer_limited : (a b : NameMap) → Limited (a ++ b) → Limited a
unfolding Limited
newer_limited [] b l = tt
newer_limited (e ∷ a) b l = (l.0, l.1, newer_limited a b l.2)

pub newer_map : {mem : Bytes} {len : ℕ} (a b : NameMap) → MapAt mem len (a ++ b) → MapAt (take (length mem - length (map_bytes b)) mem) (len - length (map_bytes b)) a
newer_map {mem} {len} a b w =
    let na = length (map_bytes a) in
    let nb = length (map_bytes b) in
    let e : drop (length mem - len) mem ≡ map_bytes a ++ map_bytes b = w.there ∙ joined_bytes a b in
    let n : len ≡ na + nb = omega (arith, ap length e, length-drop (length mem - len) mem, length-append (map_bytes a) (map_bytes b), w.within) in
    let l : length (take (length mem - nb) mem) ≡ length mem - nb = length-take-le (length mem - nb) mem (omega arith) in
    let p : length (take (length mem - nb) mem) - (len - nb) ≡ length mem - len = omega (arith, w.within) in
    let q : length mem - nb ≡ length mem - len + na = omega (arith, w.within) in
    record {
      within = omega (arith, w.within);
      there = ap (λ (i : ℕ). drop i (take (length mem - nb) mem)) p ∙ ap (λ (i : ℕ). drop (length mem - len) (take i mem)) q ∙ sym (take_drop (length mem - len) na mem)
          ∙ ap (take na) e ∙ take-append_seam (map_bytes a) (map_bytes b);
      limited = newer_limited a b w.limited;
    }

-- the first of two, where it is there
abbrev or_else : Option Bytes → Option Bytes → Option Bytes
or_else none o = o
or_else (some v) o = some v

module _ (n : Bytes) where
  -- of two joined maps, the first prevails
  lookup_joined : (a b : NameMap) → lookup (a ++ b) n ≡ or_else (lookup a n) (lookup b n)
  unfolding lookup
  lookup_joined [] b = refl
  lookup_joined (e ∷ a) b = go (same n e.0) (lookup_joined a b)
    where
      hit : Bool → Option Bytes → Option Bytes
      hit t o = elim t as (λ _. Option Bytes) [ true ↦ some e.1 | false ↦ o ]

      go : (t : Bool) → lookup (a ++ b) n ≡ or_else (lookup a n) (lookup b n) → hit t (lookup (a ++ b) n) ≡ or_else (hit t (lookup a n)) (lookup b n)
      go true h = refl
      go false h = h

  -- of several, the last first, before older ones: none has an entry, or the last that has one prevails
  joined_none : (ms older : List NameMap) → ((j : ℕ) → j < length ms → lookup (get_or ms j []) n ≡ none)
      → lookup (flatten (reverse_aux ms older)) n ≡ lookup (flatten older) n
  unfolding flatten
  joined_none [] older h = refl
  joined_none (m ∷ ms) older h = joined_none ms (m ∷ older) (λ j lt. h (suc j) (omega arith)) ∙ lookup_joined m (flatten older) ∙ rw (h 0 (omega arith))

  joined_last : (ms older : List NameMap) (i : ℕ) {v : Bytes} → i < length ms → lookup (get_or ms i []) n ≡ some v
      → ((j : ℕ) → i < j → j < length ms → lookup (get_or ms j []) n ≡ none) → lookup (flatten (reverse_aux ms older)) n ≡ some v
  unfolding flatten
  joined_last [] older i lt e h = absurd (not-suc-le-zero lt)
  joined_last (m ∷ ms) older zero lt e h = joined_none ms (m ∷ older) (λ j q. h (suc j) (omega arith) (omega arith)) ∙ lookup_joined m (flatten older) ∙ rw e
  joined_last (m ∷ ms) older (suc i) lt e h = joined_last ms (m ∷ older) i (le_of_suc-le-suc lt) e (λ j p q. h (suc j) (omega arith) (omega arith))

  -- so a name becomes what the last makes of it that has an entry of it, and stays where none has
  pub renamed_last : (ms : List NameMap) (i : ℕ) {v : Bytes} → i < length ms → lookup (get_or ms i []) n ≡ some v
      → ((j : ℕ) → i < j → j < length ms → lookup (get_or ms j []) n ≡ none) → renamed (flatten (reverse ms)) n ≡ v
  unfolding renamed
  renamed_last ms i lt e h = rw (joined_last ms [] i lt e h, renamed)

  pub renamed_none : (ms : List NameMap) → ((j : ℕ) → j < length ms → lookup (get_or ms j []) n ≡ none) → renamed (flatten (reverse ms)) n ≡ n
  unfolding renamed flatten lookup
  renamed_none ms h = rw (joined_none ms [] h, renamed)
