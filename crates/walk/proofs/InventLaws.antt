-- Drawing names, case by case, and what it leaves in memory. Assumes nothing.
use mathlib.Core.Path.{◌≡◌, refl, sym, ap, ◌∙◌}
use mathlib.Core.Bool.{true, false}
use mathlib.Core.List.{◌∷◌}
use native.Mathlib.Omega.{arith}
use Prim.Native.Nat.{ℕ, ◌+◌, ◌-◌, ◌≤◌, ◌<◌}
use borrow.Author.Tests.{le-leb, lt-leb}
use lib.ListN.{length, take, drop}
use lib.Seq.{take_at}
use Rattle.names.specs.Maps.{NameMap}
use Rattle.names.specs.CallAnswer.{written}
use Rattle.names.specs.Names.{Bytes, ascii, gensym, name_limit, name_width, same}
use Rattle.names.specs.declared.Refusal.{Refusal}
use Rattle.names.specs.Segments.{SameOutside, Filled}
use Rattle.names.proofs.Frames.{same_refl, same_then, same_wider}
use Rattle.names.proofs.Parts.{part_length}
use Rattle.names.proofs.Places.{at_is}
use Rattle.records.specs.StepAnswer.{gives, refuses}
use Rattle.records.specs.Records.{Loc, SA}
use Rattle.walk.specs.Invent.{name_too_long, draw, invent_new_names_sexp}
use Rattle.walk.specs.DrawnMaps.{between, entry, EntryRoom, NameRoom, NameFrom, growth, Grew, Grown, Draws, Pushes, InventsAtom, atom_size}
use Rattle.walk.specs.Arena.{outcome}
use Rattle.walk.specs.Steps.{M, ◌>>=◌, ret}
use Rattle.walk.specs.declared.Growth.{Growth}
use Rattle.walk.proofs.StepLaws.{outcome_then, outcome_stop}
use Rattle.walk.proofs.MapLaws.{entry_length, entry_bound, map_grown}
use Rattle.std.specs.declared.result.Result.{Result}
use Rattle.std.specs.declared.result.Result.TheVariants.{Ok, Err}

-- a name's draw
module _ (n : Bytes) (c x : ℕ) where
  draw_made : length (gensym n c) ≤ name_limit → outcome (draw n c x) ≡ gives (gensym n c) (c + 1)
  unfolding draw outcome
  draw_made le = rw (le-leb (length (gensym n c)) name_limit le, draw)

  draw_long : name_limit < length (gensym n c) → outcome (draw n c x) ≡ refuses name_too_long
  unfolding draw outcome
  draw_long lt = rw (lt-leb (length (gensym n c)) name_limit lt, draw)

-- nothing is written
pub grown_none : (len : ℕ) (mem : Bytes) {c e : ℕ} → e ≤ length mem → Grew mem mem len (growth len c e)
grown_none len mem le = record { longer = omega arith; within = le; frame = same_refl }

-- one growth after another
pub grown_then : {a b c : Bytes} {len : ℕ} {g h : Growth} → Grew a b len g → Grew b c g.len h → Grew a c len h
grown_then {a} {len = len} {h = h} f k =
    let size = f.frame.size in
    record {
      longer = omega (arith, f.longer, k.longer);
      within = omega (arith, k.within);
      frame =
          same_then (length a - h.len) (length a - len) (omega (arith, k.longer)) (omega arith) (omega arith) (omega (arith, f.longer)) f.frame k.frame;
    }

-- a growth, and then a refusal that leaves room bytes below the grown map changed
pub grown_stop : {a b c : Bytes} {len : ℕ} {g : Growth} (room spare : ℕ) → Grew a b len g → SameOutside b c (length b - (g.len + room)) (length b - g.len) → g.len + room ≤ len + spare
    → SameOutside a c (length a - (len + spare)) (length a - len)
grown_stop {a} {len = len} room spare f k le =
    let size = f.frame.size in
    let longer = f.longer in
    same_then (length a - (len + spare)) (length a - len) (omega arith) (omega arith) (omega arith) (omega arith) f.frame k

-- a name that stands from start to end
name_is : {old : Bytes} {start end : ℕ} {n : Bytes} → NameFrom old start end n → between old start end ≡ n
name_is {start = start} {end} h = at_is start (end - start) refl (omega (arith, h.ends)) h.there

-- the made name as the local array holds it
pub new_is : {b : Bytes} (b₀ g : Bytes) {k : ℕ} → b ≡ written g b₀ → k ≡ length g → take k b ≡ g
unfolding written
new_is b₀ g {k} e l = rw e (take_at g (drop (length g) b₀) k (sym l))

-- a name that is drawn for
module _ {old : Bytes} {start end len c : ℕ} (room : NameRoom old start end len c) where
  abbrev name : Bytes
  name = between old start end

  abbrev new_name : Bytes
  new_name = gensym name c

  -- the bytes of the map with its entry, where the made name has g
  abbrev longer : ℕ → ℕ
  longer g = name_width + (end - start) + name_width + g + len

  pub name_length : length name ≡ end - start
  name_length = part_length old start (end - start) (omega (arith, room.fits, room.forward))

  -- its entry fits
  pub entry_fits : end + longer (length new_name) ≤ length old
  entry_fits = omega (arith, name_length, entry_length name new_name, entry_bound name c room.counts, room.fits)

  -- a made name that is too long
  pub pushes_long : {r : Refusal} → r ≡ name_too_long → name_limit < length new_name → Pushes old old start end len c (Err r)
  pushes_long is lt n h m w = record { runs = λ x. draw_long n c x (rw (name_is h) at lt); is = is }

  -- with the made name as the local array holds it
  module _ {b : Bytes} (b₀ : Bytes) {g : ℕ} (eb : b ≡ written new_name b₀) (eg : g ≡ length new_name) (le : g ≤ name_limit) where
    abbrev held : Bytes
    held = entry name (take g b)

    grows : longer g ≡ length (entry name new_name) + len
    grows = omega (arith, entry_length name new_name, name_length)

    pub entry_asked : EntryRoom old (length old - longer g) start end (take g b)
    entry_asked =
        let new = new_is b₀ new_name eb eg in
        record {
          forward = room.forward;
          behind = omega (arith, entry_fits);
          short = room.short;
          new_short = rw new (omega arith);
          fits = rw new (omega (arith, entry_fits, grows));
        }

    -- and written before the map
    module _ {new : Bytes} (f : Filled old new (length old - longer g) held (length held)) where
      abbrev answer : Growth
      answer = growth (longer g) (c + 1) end

      filled : Filled old new (length old - longer g) (entry name new_name) (length (entry name new_name))
      filled = rw (new_is b₀ new_name eb eg) at f

      grown_made : Grew old new len answer
      grown_made = record {
        longer = omega arith;
        within = omega (arith, entry_fits);
        frame = same_wider (length old - longer g) (length old - len) (omega arith) (omega (arith, grows, entry_fits)) filled.frame;
      }

      pushes_made : Pushes old new start end len c (Ok answer)
      pushes_made n h m w =
          let is = name_is h in
          let short : length new_name ≤ name_limit = omega arith in
          let wrote : Filled old new (length old - longer g) (entry n (gensym n c)) (length (entry n (gensym n c))) = rw is at filled in
          let size : longer g ≡ length (entry n (gensym n c)) + len = rw is at grows in
          record {
            value = gensym n c;
            runs = λ x. draw_made n c x (rw is at short);
            map_at = map_grown n (gensym n c) (longer g) w wrote size (omega (arith, entry_fits)) (omega (arith, room.short, h.ends)) (rw is at short);
            next = refl;
            at_most = omega (arith, entry_bound n c room.counts);
            counted = omega arith;
          }

      pub pushed : Grown old new len 0 (Ok answer) × Pushes old new start end len c (Ok answer)
      pushed = (grown_made, pushes_made)

-- an SA
module _ (m : NameMap) (l : Loc) (n : Bytes) (c x : ℕ) where
  atom_kept : same n (ascii "@") ≡ true → outcome (invent_new_names_sexp m (SA l n) c x) ≡ gives m c
  unfolding invent_new_names_sexp ret outcome
  atom_kept t = rw (t, invent_new_names_sexp)

  abbrev entered : Bytes → M NameMap
  entered n' = ret ((n, n') ∷ m)

  atom_entered : same n (ascii "@") ≡ false → invent_new_names_sexp m (SA l n) c x ≡ (draw n >>= entered) c x
  unfolding invent_new_names_sexp
  atom_entered t = rw (t, invent_new_names_sexp)

  entered_gives : (n' : Bytes) (k y : ℕ) → outcome (entered n' k y) ≡ gives ((n, n') ∷ m) k
  unfolding ret outcome
  entered_gives n' k y = refl

  atom_made : {g : Bytes} {k : ℕ} → same n (ascii "@") ≡ false → outcome (draw n c x) ≡ gives g k → outcome (invent_new_names_sexp m (SA l n) c x) ≡ gives ((n, g) ∷ m) k
  atom_made {g} {k} t e = ap outcome (atom_entered t) ∙ outcome_then (draw n) entered c x e (entered_gives g k)

  atom_long : {r : Refusal} → same n (ascii "@") ≡ false → outcome (draw n c x) ≡ refuses r → outcome (invent_new_names_sexp m (SA l n) c x) ≡ refuses r
  atom_long t e = ap outcome (atom_entered t) ∙ outcome_stop (draw n) entered c x e

module _ {old : Bytes} {start end len c : ℕ} where
  pub invents_kept : same (between old start end) (ascii "@") ≡ true → InventsAtom old old start end len c (Ok (growth len c end))
  invents_kept t l n h m w = record {
    value = m;
    runs = λ x. atom_kept m l n c x (rw (name_is h) at t);
    map_at = w;
    next = refl;
    at_most = omega arith;
    counted = omega arith;
  }

pub invents_drawn : (old new : Bytes) (start end len c : ℕ) (r : Result Growth Refusal) → same (between old start end) (ascii "@") ≡ false → Pushes old new start end len c r
    → InventsAtom old new start end len c r
invents_drawn old new start end len c r t p l n h m w = go r (p n h m w)
  where
    no : same n (ascii "@") ≡ false
    no = rw (name_is h) at t

    go : (r : Result Growth Refusal) → Draws (draw n c) (λ n'. (n, n') ∷ m) new len c (atom_size (length n)) end r
        → Draws (invent_new_names_sexp m (SA l n) c) (λ m'. m') new len c (atom_size (length n)) end r
    go (Ok g) d = record {
      value = (n, d.value) ∷ m;
      runs = λ x. atom_made m l n c x no (d.runs x);
      map_at = d.map_at;
      next = d.next;
      at_most = d.at_most;
      counted = d.counted;
    }
    go (Err k) d = record { runs = λ x. atom_long m l n c x no (d.runs x); is = d.is }
