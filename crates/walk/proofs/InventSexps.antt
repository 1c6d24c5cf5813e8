-- Drawing names for an S record, by what its view says. Assumes nothing.
use mathlib.Core.Path.{◌≡◌, refl, sym, ap, ◌∙◌}
use native.Mathlib.Omega.{arith}
use Prim.Native.Nat.{ℕ, ◌+◌, ◌-◌, ◌*◌, ◌≤◌, ◌<◌}
use lib.ListN.{length}
use Rattle.names.specs.Maps.{NameMap}
use Rattle.names.specs.Names.{Bytes}
use Rattle.names.specs.declared.Refusal.{Refusal}
use Rattle.names.specs.Segments.{At, SameOutside}
use Rattle.names.proofs.Frames.{at_below, same_wider}
use Rattle.names.proofs.Parts.{into, part, back, part_length, same_back}
use Rattle.names.proofs.Places.{at_place}
use Rattle.records.specs.StepAnswer.{Outcome, gives, refuses}
use Rattle.records.specs.Parts.{Skips, fields_part}
use Rattle.records.specs.Records.{Loc, Sexp, SC, SA, sexp_bytes}
use Rattle.records.specs.Valid.{SexpFields, cons_depth}
use Rattle.records.specs.Views.{SexpAt, nil_at, pair_at, integer_at, text_at, atom_at, SeesSexp}
use Rattle.records.specs.declared.NameView.{NameView}
use Rattle.records.specs.declared.SexpView.{SexpView}
use Rattle.records.specs.declared.SexpView.TheVariants.{Pair, Atom}
use Rattle.records.proofs.Views.{first_of, rest_of}
use Rattle.walk.specs.Arena.{MapAt, outcome}
use Rattle.walk.specs.Invent.{invent_new_names_sexp}
use Rattle.walk.specs.DrawnMaps.{map_growth, atom_size, Roomy, NameRoom, growth, Grown, Draws, InventsAtom, InventsFrom, InventsSexp}
use Rattle.walk.specs.Steps.{ret}
use Rattle.walk.specs.declared.Growth.{Growth}
use Rattle.walk.proofs.InventLaws.{grown_none, grown_then, grown_stop}
use Rattle.walk.proofs.MapLaws.{map_of_part}
use Rattle.walk.proofs.PartMaps.{map_back}
use Rattle.walk.proofs.StepLaws.{outcome_then, outcome_stop}
use Rattle.walk.proofs.Views.{NoPair, NoAtom, AtomAt, atom}
use Rattle.std.specs.declared.result.Result.{Result}
use Rattle.std.specs.declared.result.Result.TheVariants.{Ok, Err}

-- an SC whose head stands at start
pub record PairAt (old : Bytes) (start : ℕ) (t : Sexp) : Type 0 where
  pub loc : Loc
  pub head : Sexp
  pub tail : Sexp
  pub is : t ≡ SC loc head tail
  pub head_fields : SexpFields head
  pub tail_fields : SexpFields tail
  pub head_at : At old start (sexp_bytes head)
  pub tail_at : At old (start + length (sexp_bytes head)) (sexp_bytes tail)
  pub whole : length (sexp_bytes t) ≡ start + length (sexp_bytes head) + length (sexp_bytes tail)
  pub moved : 0 < start

pub as_pair : {old : Bytes} {start : ℕ} → SeesSexp old (Pair start) → (t : Sexp) → SexpFields t → At old 0 (sexp_bytes t) → PairAt old start t
unfolding SexpFields
as_pair {old} {start} x t f a = go f (x.sees t f a)
  where
    go : {t : Sexp} → SexpFields t → SexpAt old (Pair start) t → PairAt old start t
    go f (pair_at {l = l} {h = h} {t = u} k e) = record {
      loc = l;
      head = h;
      tail = u;
      is = refl;
      head_fields = f.1;
      tail_fields = f.2;
      head_at = first_of k;
      tail_at = first_of (rest_of k);
      whole = e;
      moved = x.places.0;
    }

-- an SN, SI or SQ
no_draw : {s : Bytes} {v : SexpView} {t : Sexp} → NoPair v → NoAtom v → SexpAt s v t → (m : NameMap) (c x : ℕ) → outcome (invent_new_names_sexp m t c x) ≡ gives m c
unfolding invent_new_names_sexp ret outcome
no_draw p q (nil_at e) m c x = refl
no_draw p q (pair_at {p = at} k e) m c x = absurd (p at refl)
no_draw p q (integer_at k) m c x = refl
no_draw p q (text_at k) m c x = refl
no_draw p q (atom_at {v = n} k) m c x = absurd (q n refl)

-- the room of an atom is its name's, and that of an SC its head's
module _ {old : Bytes} {len c : ℕ} {t : Sexp} (r : Roomy t old 0 len c) where
  pub atom_room : {v : NameView} → AtomAt old v t → NameRoom old v.start v.end len c
  atom_room a =
      let e = a.name.ends in
      record {
        forward = omega arith;
        short = omega (arith, a.valid);
        fits = omega (arith, a.own_size, a.name.past, r.fits);
        counts = omega (arith, r.counts, a.own_size);
      }

  pub head_room : {start : ℕ} (p : PairAt old start t) → Roomy p.head old start len c
  head_room p =
      let w = p.whole in
      let v = p.moved in
      record { fields = p.head_fields; there = p.head_at; fits = omega (arith, r.fits); counts = omega (arith, r.counts) }

  -- one level down
  pub pair_deep : {start depth : ℕ} (p : PairAt old start t) → cons_depth t ≤ depth → (0 < depth) × (cons_depth p.head ≤ depth - 1) × (cons_depth p.tail ≤ depth - 1)
  unfolding cons_depth
  pair_deep p le = let e = ap cons_depth p.is in (omega arith, omega arith, omega arith)

-- r answers for t from the map m and the counter c; the next record stands at e
abbrev Answers : NameMap → Sexp → Bytes → ℕ → ℕ → ℕ → ℕ → Result Growth Refusal → Type 0
Answers m t mem len c size e r = Draws (invent_new_names_sexp m t c) (λ m'. m') mem len c size e r

-- an atom, and what draws nothing
module _ {old : Bytes} {len c : ℕ} where
  pub invents_atom : {new : Bytes} {v : NameView} {r : Result Growth Refusal} → SeesSexp old (Atom v) → Grown old new len 0 r → InventsAtom old new v.start v.end len c r → InventsSexp old new 0 len c r
  invents_atom {new} {v} {r} sa g h t room m w =
      let a = atom sa t room.fields room.there in
      go a r g (h a.l a.n (record { there = a.name.bytes; ends = a.name.ends }) m w)
    where
      go : (a : AtomAt old v t) (r : Result Growth Refusal) → Grown old new len 0 r → Answers m (SA a.l a.n) new len c (atom_size (length a.n)) v.end r → InventsFrom old new 0 len c t m r
      go a (Ok k) g d =
          let size = a.own_size in
          record {
            grown = g;
            draws = record {
              value = d.value;
              runs = λ x. ap (λ (s : Sexp). outcome (invent_new_names_sexp m s c x)) a.is ∙ d.runs x;
              map_at = d.map_at;
              next = omega (arith, d.next, a.name.past);
              at_most = omega (arith, d.at_most);
              counted = omega (arith, d.counted);
            };
          }
      go a (Err k) g d = record {
        grown = same_wider (length old - (len + map_growth * length (sexp_bytes t))) (length old - len) (omega arith) (omega arith) g;
        draws = record { runs = λ x. ap (λ (s : Sexp). outcome (invent_new_names_sexp m s c x)) a.is ∙ d.runs x; is = d.is };
      }

  pub invents_other : {v : SexpView} {end : ℕ} → NoPair v → NoAtom v → SeesSexp old v → Skips fields_part old end → InventsSexp old old 0 len c (Ok (growth len c end))
  invents_other p q see size t room m w = record {
    grown = grown_none len old size.within;
    draws = record {
      value = m;
      runs = no_draw p q (see.sees t room.fields room.there) m c;
      map_at = w;
      next = omega (arith, size.skips t room.fields room.there);
      at_most = omega arith;
      counted = omega arith;
    };
  }

-- an SC by its parts
module _ (m : NameMap) {old : Bytes} {start : ℕ} {t : Sexp} (p : PairAt old start t) (c x : ℕ) where
  pair_runs : {m₁ : NameMap} {c₁ : ℕ} {o : Outcome NameMap} → outcome (invent_new_names_sexp m p.head c x) ≡ gives m₁ c₁ → ((y : ℕ) → outcome (invent_new_names_sexp m₁ p.tail c₁ y) ≡ o)
      → outcome (invent_new_names_sexp m t c x) ≡ o
  unfolding invent_new_names_sexp
  pair_runs e k =
      ap (λ (s : Sexp). outcome (invent_new_names_sexp m s c x)) p.is
      ∙ outcome_then (invent_new_names_sexp m p.head) (λ m'. invent_new_names_sexp m' p.tail) c x e k

  pair_stops : {r : Refusal} → outcome (invent_new_names_sexp m p.head c x) ≡ refuses r → outcome (invent_new_names_sexp m t c x) ≡ refuses r
  unfolding invent_new_names_sexp
  pair_stops e =
      ap (λ (s : Sexp). outcome (invent_new_names_sexp m s c x)) p.is
      ∙ outcome_stop (invent_new_names_sexp m p.head) (λ m'. invent_new_names_sexp m' p.tail) c x e

-- the head of an SC is refused
pub invents_refused : {old mid : Bytes} {start len c : ℕ} {r : Refusal} → ((t : Sexp) → Roomy t old 0 len c → PairAt old start t) → InventsSexp old mid start len c (Err r)
    → InventsSexp old mid 0 len c (Err r)
invents_refused {old} {len = len} {c} pair h t room m w =
    let p = pair t room in
    let d = h p.head (head_room room p) m w in
    let whole = p.whole in
    record {
      grown = same_wider (length old - (len + map_growth * length (sexp_bytes t))) (length old - len) (omega arith) (omega arith) d.grown;
      draws = record { runs = λ x. pair_stops m p c x (d.draws.runs x); is = d.draws.is };
    }

-- after the head of an SC: the tail with its room
module _ {old mid : Bytes} {start len c : ℕ} {g : Growth} (h : InventsSexp old mid start len c (Ok g)) where
  pub tail_room : {t : Sexp} → Roomy t old 0 len c → (p : PairAt old start t) → (m : NameMap) → MapAt old len m → Roomy p.tail mid g.end g.len g.counter
  tail_room {t} room p m w =
      let d = h p.head (head_room room p) m w in
      let whole = p.whole in
      let moved = p.moved in
      let e = d.draws.next in
      let most = d.draws.at_most in
      record {
        fields = p.tail_fields;
        there = at_place g.end (sym e) (at_below d.grown.frame p.tail_at (omega (arith, room.fits)));
        fits = omega (arith, room.fits, d.grown.frame.size);
        counts = omega (arith, room.counts, d.draws.counted);
      }

  module _ (pair : (t : Sexp) → Roomy t old 0 len c → PairAt old start t) {new : Bytes} where
    -- the tail is refused
    pub invents_stopped : {r : Refusal} → InventsSexp mid new g.end g.len g.counter (Err r) → InventsSexp old new 0 len c (Err r)
    invents_stopped k t room m w =
        let p = pair t room in
        let d = h p.head (head_room room p) m w in
        let u = k p.tail (tail_room room p m w) d.draws.value d.draws.map_at in
        let whole = p.whole in
        record {
          grown = grown_stop (map_growth * length (sexp_bytes p.tail)) (map_growth * length (sexp_bytes t)) d.grown u.grown (omega (arith, d.draws.at_most));
          draws = record { runs = λ x. pair_runs m p c x (d.draws.runs x) u.draws.runs; is = u.draws.is };
        }

    -- head and tail
    pub invents_pair : {u : Growth} → InventsSexp mid new g.end g.len g.counter (Ok u) → InventsSexp old new 0 len c (Ok u)
    invents_pair k t room m w =
        let p = pair t room in
        let d = h p.head (head_room room p) m w in
        let u = k p.tail (tail_room room p m w) d.draws.value d.draws.map_at in
        let whole = p.whole in
        record {
          grown = grown_then d.grown u.grown;
          draws = record {
            value = u.draws.value;
            runs = λ x. pair_runs m p c x (d.draws.runs x) u.draws.runs;
            map_at = u.draws.map_at;
            next = omega (arith, u.draws.next, d.draws.next);
            at_most = omega (arith, u.draws.at_most, d.draws.at_most);
            counted = omega (arith, u.draws.counted, d.draws.counted);
          };
        }

-- a callee's answer on `&mut mem[a..]`, of the whole: the next record stands so much later
abbrev pub shifted : ℕ → Growth → Growth
shifted a g = growth g.len g.counter (a + g.end)

abbrev pub moved : ℕ → Result Growth Refusal → Result Growth Refusal
moved a (Ok g) = Ok (shifted a g)
moved a (Err r) = Err r

pub roomy_part : {t : Sexp} {mem : Bytes} {a len c : ℕ} → Roomy t mem a len c → Roomy t (part mem a (length mem - a)) 0 len c
roomy_part {mem = mem} {a} r =
    record {
      fields = r.fields;
      there = into r.there;
      fits = omega (arith, r.fits, part_length mem a (length mem - a) (omega (arith, r.fits)));
      counts = r.counts;
    }

module _ (mem : Bytes) (a : ℕ) (y : Bytes) where
  -- the rest of memory from a on, and memory when it came back
  abbrev rest : ℕ
  rest = length mem - a

  abbrev whole : Bytes
  whole = back mem a rest y

  frame_back : {len k : ℕ} → a + k ≤ length mem → len ≤ k → SameOutside (part mem a rest) y (length (part mem a rest) - k) (length (part mem a rest) - len) → SameOutside mem whole (length mem - k) (length mem - len)
  frame_back {len} {k} le longer f =
      let l = part_length mem a rest (omega arith) in
      same_wider (length mem - k) (length mem - len) (omega arith) (omega arith) (same_back mem a rest (omega arith) f (omega arith) (omega arith))

  pub invents_part : {len c : ℕ} (r : Result Growth Refusal) → InventsSexp (part mem a rest) y 0 len c r → InventsSexp mem whole a len c (moved a r)
  invents_part {len} {c} r h t room m w = go r (h t (roomy_part room) m (map_of_part a (omega (arith, room.fits)) w))
    where
      fit : a + length (sexp_bytes t) + map_growth * length (sexp_bytes t) + len ≤ length mem
      fit = room.fits

      go : (r : Result Growth Refusal) → InventsFrom (part mem a rest) y 0 len c t m r → InventsFrom mem whole a len c t m (moved a r)
      go (Ok g) d =
          let l = part_length mem a rest (omega arith) in
          record {
            grown = record {
              longer = d.grown.longer;
              within = omega (arith, d.grown.within);
              frame = frame_back (omega (arith, d.draws.at_most)) d.grown.longer d.grown.frame;
            };
            draws = record {
              value = d.draws.value;
              runs = d.draws.runs;
              map_at = map_back mem a (omega arith) d.grown.frame.size d.draws.map_at;
              next = omega (arith, d.draws.next);
              at_most = d.draws.at_most;
              counted = d.draws.counted;
            };
          }
      go (Err k) d = record {
        grown = frame_back (omega arith) (omega arith) d.grown;
        draws = record { runs = d.draws.runs; is = d.draws.is };
      }
