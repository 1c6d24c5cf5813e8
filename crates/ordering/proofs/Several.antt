-- Several bindings or bodies, one after the other: as lists of trees, and the names listed of them. Assumes nothing.
use mathlib.Core.Bool.{true, false}
use mathlib.Core.List.{List, [], ◌∷◌, ◌++◌, append_assoc, append-nil}
use mathlib.Core.Path.{◌≡◌, refl, sym, ap, ◌∙◌}
use Prim.Native.Nat.{ℕ, suc, ◌+◌, ◌≤◌, ◌<◌}
use native.Mathlib.Omega.{arith}
use lib.ListN.{length, length-append}
use Rattle.names.specs.Names.{Bytes}
use Rattle.names.specs.Segments.{At}
use Rattle.names.proofs.Places.{at_left, at_right}
use Rattle.records.specs.Depth.{bodies_depth, bindings_depth}
use Rattle.records.specs.Limits.{level_limit, lambda_limit}
use Rattle.records.specs.Records.{Bodies, []ᵇ, ◌∷ᵇ◌, bodies_bytes, bodies_count, Bindings, []ᵍ, ◌∷ᵍ◌, bindings_bytes, bindings_count}
use Rattle.records.specs.Valid.{BodiesFields, BindingsFields, bodies_lambda_depth, bindings_lambda_depth}
use Rattle.records.specs.Lists.{joined, Each}
use Rattle.records.specs.Parts.{Part, list_part}
use Rattle.ordering.specs.declared.listed.Listed.{Listed}
use Rattle.ordering.specs.declared.provides.Provided.{Provided}
use Rattle.ordering.specs.Listed.{SameRoom}
use Rattle.ordering.specs.Listing.{Names, Reaches, member_part, all_words}
use Rattle.ordering.specs.Words.{words, bodies_words, binding_words, bindings_words}
use Rattle.ordering.proofs.EntryLaws.{room_same, room_then}
use Rattle.ordering.proofs.NeedLaws.{names_none, names_then}

-- trees as a list: as many, each meant, with the same bytes and the same names
pub record Several (p : Part) (names : p.0 → List Bytes) (n : ℕ) (bs : Bytes) (ws : List Bytes) : Type 0 where
  pub trees : List p.0
  pub count : length trees ≡ n
  pub each : Each p.2 trees
  pub bytes : joined p.1 trees ≡ bs
  pub same : all_words names trees ≡ ws

module _ {p : Part} {names : p.0 → List Bytes} where
  several_none : Several p names 0 [] []
  unfolding Each joined
  several_none = record { trees = []; count = refl; each = tt; bytes = refl; same = refl }

  several_more : {n : ℕ} {bs : Bytes} {ws : List Bytes} (t : p.0) → p.2 t → Several p names n bs ws → Several p names (suc n) (p.1 t ++ bs) (names t ++ ws)
  unfolding Each joined
  several_more t v l = record {
    trees = t ∷ l.trees;
    count = ap suc l.count;
    each = (v, l.each);
    bytes = ap (λ (x : Bytes). p.1 t ++ x) l.bytes;
    same = ap (λ (x : List Bytes). names t ++ x) l.same;
  }

pub several_bodies : (bs : Bodies) → BodiesFields bs → bodies_depth bs ≤ level_limit → bodies_lambda_depth bs ≤ lambda_limit → Several (member_part false) words (bodies_count bs) (bodies_bytes bs) (bodies_words bs)
unfolding BodiesFields bodies_depth bodies_lambda_depth bodies_count bodies_bytes bodies_words
several_bodies []ᵇ v d k = several_none
several_bodies (b ∷ᵇ bs) v d k = several_more b (v.0, omega arith, omega arith) (several_bodies bs v.1 (omega arith) (omega arith))

pub several_bindings : (bs : Bindings) → BindingsFields bs → bindings_depth bs ≤ level_limit → bindings_lambda_depth bs ≤ lambda_limit → Several (member_part true) binding_words (bindings_count bs) (bindings_bytes bs) (bindings_words bs)
unfolding BindingsFields bindings_depth bindings_lambda_depth bindings_count bindings_bytes bindings_words
several_bindings []ᵍ v d k = several_none
several_bindings (b ∷ᵍ bs) v d k = several_more b (v.0, omega arith, omega arith) (several_bindings bs v.1 (omega arith) (omega arith))

-- what is listed of several
pub several_told : {p : Part} {names : p.0 → List Bytes} {m n at end : ℕ} {bs : Bytes} {ws : List Bytes} {given : Provided} {s : Bytes} {l l' : Listed ℕ}
    → Reaches 1 (list_part p m) (all_words names) given s at l l' end → m ≡ n → Several p names n bs ws → 0 < at → At s at bs → (end ≡ at + length bs) × Names ws given l l'
several_told {at = at} f q l z k =
    let h = f.tells z l.trees (l.count ∙ sym q, l.each) (rw l.bytes k) in
    (h.0 ∙ ap (λ (x : Bytes). at + length x) l.bytes, rw l.same at h.1)

-- of m trees i are behind, with their names listed; the others stand from `at` on, and end at `total`
pub record Going (p : Part) (names : p.0 → List Bytes) (given : Provided) (s : Bytes) (i m total : ℕ) (ws : List Bytes) (before after : Listed ℕ) (at : ℕ) : Type 0 where
  pub rest : List p.0
  pub done : List Bytes
  pub count : i + length rest ≡ m
  pub each : Each p.2 rest
  pub there : At s at (joined p.1 rest)
  pub moved : 0 < at
  pub ends : at + length (joined p.1 rest) ≡ total
  pub listed : Names done given before after
  pub same : done ++ all_words names rest ≡ ws

module _ {p : Part} {names : p.0 → List Bytes} {given : Provided} {s : Bytes} {m : ℕ} {before : Listed ℕ} where
  going_more : {i total at end : ℕ} {ws : List Bytes} {l l' : Listed ℕ} → i < m → Reaches 1 p names given s at l l' end
      → Going p names given s i m total ws before l at → Going p names given s (i + 1) m total ws before l' end
  unfolding Each joined
  going_more {i} {total} {at} {end} {ws} {l} {l'} q f g = go g.rest g.count g.each g.there g.ends g.same
    where
      go : (ts : List p.0) → i + length ts ≡ m → Each p.2 ts → At s at (joined p.1 ts) → at + length (joined p.1 ts) ≡ total → g.done ++ all_words names ts ≡ ws
          → Going p names given s (i + 1) m total ws before l' end
      go [] c v k d w = absurd (omega arith)
      go (t ∷ ts) c v k d w =
          let h = f.tells g.moved t v.0 (at_left (p.1 t) _ k) in
          record {
            rest = ts;
            done = g.done ++ names t;
            count = omega arith;
            each = v.1;
            there = rw h.0 (at_right (p.1 t) _ k);
            moved = omega (arith, h.0, g.moved);
            ends = omega (arith, h.0, length-append (p.1 t) (joined p.1 ts));
            listed = names_then g.listed h.1;
            same = append_assoc g.done (names t) (all_words names ts) ∙ w;
          }

  going_end : {i total at : ℕ} {ws : List Bytes} {l : Listed ℕ} → m ≤ i → Going p names given s i m total ws before l at → (at ≡ total) × Names ws given before l
  unfolding joined
  going_end {i} {total} {at} {ws} {l} q g = go g.rest g.count g.ends g.same
    where
      go : (ts : List p.0) → i + length ts ≡ m → at + length (joined p.1 ts) ≡ total → g.done ++ all_words names ts ≡ ws → (at ≡ total) × Names ws given before l
      go [] c d w = (omega arith, rw (sym (append-nil g.done) ∙ w) at g.listed)
      go (t ∷ ts) c d w = absurd (omega arith)

-- the loop over them: of every list of m trees that stands from `first` on, i are behind
module _ (p : Part) (names : p.0 → List Bytes) (given : Provided) (s : Bytes) (first m : ℕ) (before : Listed ℕ) where
  pub record ListsSoFar (i : ℕ) (after : Listed ℕ) (at : ℕ) : Type 0 where
    pub within : at ≤ length s
    pub room : SameRoom before after
    pub going : 1 ≤ first → (ts : List p.0) → (list_part p m).2 ts → At s first (joined p.1 ts) → Going p names given s i m (first + length (joined p.1 ts)) (all_words names ts) before after at

module _ {p : Part} {names : p.0 → List Bytes} {given : Provided} {s : Bytes} {first m : ℕ} {before : Listed ℕ} where
  pub goes_first : first ≤ length s → ListsSoFar p names given s first m before 0 before first
  goes_first le = record {
    within = le;
    room = room_same;
    going = λ z ts v k. record {
      rest = ts;
      done = [];
      count = omega (arith, v.0);
      each = v.1;
      there = k;
      moved = z;
      ends = refl;
      listed = names_none;
      same = refl;
    };
  }

  pub goes_more : {i at end : ℕ} {l l' : Listed ℕ} → i < m → Reaches 1 p names given s at l l' end → ListsSoFar p names given s first m before i l at → ListsSoFar p names given s first m before (i + 1) l' end
  goes_more q f g = record { within = f.within; room = room_then g.room f.room; going = λ z ts v k. going_more q f (g.going z ts v k) }

  pub goes_end : {i at : ℕ} {l : Listed ℕ} → m ≤ i → ListsSoFar p names given s first m before i l at → Reaches 1 (list_part p m) (all_words names) given s first before l at
  goes_end q g = record { within = g.within; room = g.room; tells = λ z ts v k. going_end q (g.going z ts v k) }
