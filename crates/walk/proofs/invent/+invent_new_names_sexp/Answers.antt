-- `crate::invent::invent_new_names_sexp` meets its contract. What falls is the depth that is left. Assumes nothing.
use Prim.Native.Nat.{ℕ, ◌+◌, ◌-◌, ◌≤◌, ◌<◌}
use mathlib.Core.Path.{◌≡◌, subst}
use native.Mathlib.Omega.{arith}
use lib.ListN.{length}
use Rattle.names.specs.Names.{Bytes}
use Rattle.names.proofs.Parts.{part, back}
use Rattle.records.specs.Records.{Sexp}
use Rattle.records.specs.Valid.{cons_depth}
use Rattle.records.specs.Views.{SeesSexp}
use Rattle.records.specs.declared.SexpView.{SexpView}
use Rattle.records.specs.declared.SexpView.TheVariants.{Pair}
use Rattle.walk.specs.DrawnMaps.{Roomy, Drawable, InventsFrom, InventsSexp}
use Rattle.walk.specs.declared.Growth.{Growth}
use Rattle.walk.proofs.MapLaws.{map_of_part}
use Rattle.walk.proofs.InventSexps.{PairAt, as_pair, atom_room, head_room, pair_deep, tail_room, roomy_part, moved, invents_part}
use Rattle.walk.proofs.InventSexps.{invents_atom, invents_other, invents_refused, invents_stopped, invents_pair}
use Rattle.walk.proofs.Views.{atom}
use Rattle.walk.proofs.invent.+invent_new_names_sexp.Goals as goal
use Rattle.std.specs.declared.result.Result.{Result}
use Rattle.names.specs.declared.Refusal.{Refusal}
use Rattle.std.specs.declared.result.Result.TheVariants.{Ok}
use Rattle.std.proofs.lemmas.Result.{err_from_is_err_and}

-- the view, where it is told which one it is
seen : {s : Bytes} {v w : SexpView} → v ≡ w → SeesSexp s v → SeesSexp s w
seen {s} e x = subst (SeesSexp s) e x

-- a callee's answer on `&mut mem[a..]`, of the whole
drawn : (mem : Bytes) (a : ℕ) (y : Bytes) {len c : ℕ} {r o : Result Growth Refusal} → InventsSexp (part mem a (length mem - a)) y 0 len c r → r ≡ o
    → InventsSexp mem (back mem a (length mem - a) y) a len c (moved a o)
drawn mem a y {len} {c} {r} h e = subst (λ (r : Result Growth Refusal). InventsSexp mem (back mem a (length mem - a) y) a len c (moved a r)) e (invents_part mem a y r h)

-- an SC
module _ {mem : Bytes} {at len counter depth : ℕ} (x : SeesSexp mem (Pair at)) (g : Drawable mem len counter depth) where
  pairs : (u : Sexp) → Roomy u mem 0 len counter → PairAt mem at u
  pairs u r = as_pair x u r.fields r.there

  this : PairAt mem at g.t
  this = pairs g.t g.room

  deep : (0 < depth) × (cons_depth this.head ≤ depth - 1) × (cons_depth this.tail ≤ depth - 1)
  deep = pair_deep g.room this g.deep

  -- what is given of the head
  head_given : Drawable (part mem at (length mem - at)) len counter (depth - 1)
  head_given =
      let r = g.room in
      let p = this in
      record {
        t = p.head;
        room = roomy_part (head_room r p);
        deep = deep.1;
        m = g.m;
        map_at = map_of_part at (omega (arith, p.whole, r.fits)) g.map_at;
      }

  -- the head was drawn from: the tail has its room, and the map after the head
  module _ {mid : Bytes} {k : Growth} (h : InventsSexp mem mid at len counter (Ok k)) where
    tail : Roomy this.tail mid k.end k.len k.counter
    tail = tail_room h g.room this g.m g.map_at

    after : InventsFrom mem mid at len counter this.head g.m (Ok k)
    after = h this.head (head_room g.room this) g.m g.map_at

    tail_given : Drawable (part mid k.end (length mid - k.end)) k.len k.counter (depth - 1)
    tail_given =
        let r = tail in
        record {
          t = this.tail;
          room = roomy_part r;
          deep = deep.2;
          m = after.draws.value;
          map_at = map_of_part k.end (omega (arith, r.fits)) after.draws.map_at;
        }

    -- the tail was drawn from
    last : {new : Bytes} {l : Growth} → InventsSexp mid new k.end k.len k.counter (Ok l) → l.end ≤ length mem
    last u =
        let w = u this.tail tail after.draws.value after.draws.map_at in
        omega (arith, w.grown.within, after.grown.frame.size)

pub overflow_sub-depth : goal.overflow_sub-depth
overflow_sub-depth t c = (deep (seen c.in-Pair.is c.sexp_view-v.ensures) c.requires).0

pub invent_new_names_sexp-requires : goal.invent_new_names_sexp-requires
invent_new_names_sexp-requires t c =
    let x = seen c.in-Pair.is c.sexp_view-v.ensures in
    (omega (arith, (deep x c.requires).0, c.decreases), head_given x c.requires)

pub returns-in_err-g-in-Pair : goal.returns-in_err-g-in-Pair
returns-in_err-g-in-Pair t c =
    let x = seen c.in-Pair.is c.sexp_view-v.ensures in
    let h = c.invent_new_names_sexp in
    let p = err_from_is_err_and c.from_residual.result c.from_residual.ensures.1 in
    rw (p.1, p.2) (invents_refused (pairs x c.requires) (drawn c.args.mem.now c.in-Pair.head h.new.mem h.ensures c.in_err-g-in-Pair.was))

pub overflow_add-next : goal.overflow_add-next
overflow_add-next t c =
    let x = seen c.in-Pair.is c.sexp_view-v.ensures in
    let h = c.invent_new_names_sexp in
    let r = tail x c.requires (drawn c.args.mem.now c.in-Pair.head h.new.mem h.ensures c.in_ok-g-in-Pair.was) in
    omega (arith, r.fits, r.there.fits, c.well_formed)

pub slice_bounds-invent_new_names_sexp-count-in-Pair : goal.slice_bounds-invent_new_names_sexp-count-in-Pair
slice_bounds-invent_new_names_sexp-count-in-Pair t c =
    let x = seen c.in-Pair.is c.sexp_view-v.ensures in
    let h = c.invent_new_names_sexp in
    omega (arith, (tail x c.requires (drawn c.args.mem.now c.in-Pair.head h.new.mem h.ensures c.in_ok-g-in-Pair.was)).fits)

pub slice_bounds-invent_new_names_sexp-start-in-Pair : goal.slice_bounds-invent_new_names_sexp-start-in-Pair
slice_bounds-invent_new_names_sexp-start-in-Pair t c =
    let x = seen c.in-Pair.is c.sexp_view-v.ensures in
    let h = c.invent_new_names_sexp in
    omega (arith, (tail x c.requires (drawn c.args.mem.now c.in-Pair.head h.new.mem h.ensures c.in_ok-g-in-Pair.was)).fits)

pub overflow_sub-depth-in-Pair : goal.overflow_sub-depth-in-Pair
overflow_sub-depth-in-Pair t c = (deep (seen c.in-Pair.is c.sexp_view-v.ensures) c.requires).0

pub invent_new_names_sexp-requires-in-Pair : goal.invent_new_names_sexp-requires-in-Pair
invent_new_names_sexp-requires-in-Pair t c =
    let x = seen c.in-Pair.is c.sexp_view-v.ensures in
    let h = c.invent_new_names_sexp in
    (omega (arith, (deep x c.requires).0, c.decreases), tail_given x c.requires (drawn c.args.mem.now c.in-Pair.head h.new.mem h.ensures c.in_ok-g-in-Pair.was))

pub returns-in_err-u-in-Pair : goal.returns-in_err-u-in-Pair
returns-in_err-u-in-Pair t c =
    let x = seen c.in-Pair.is c.sexp_view-v.ensures in
    let h = c.invent_new_names_sexp in
    let u = c.invent_new_names_sexp-in-Pair in
    let m = c.args.mem.now in
    let at = c.in-Pair.head in
    let mid = back m at (length m - at) h.new.mem in
    let next = at + c.in_ok-g-in-Pair.g.end in
    let p = err_from_is_err_and c.from_residual-in_err-u-in-Pair.result c.from_residual-in_err-u-in-Pair.ensures.1 in
    rw (p.1, p.2) (invents_stopped (drawn m at h.new.mem h.ensures c.in_ok-g-in-Pair.was) (pairs x c.requires) (drawn mid next u.new.mem u.ensures c.in_err-u-in-Pair.was))

pub overflow_add-result : goal.overflow_add-result
overflow_add-result t c =
    let x = seen c.in-Pair.is c.sexp_view-v.ensures in
    let h = c.invent_new_names_sexp in
    let u = c.invent_new_names_sexp-in-Pair in
    let m = c.args.mem.now in
    let at = c.in-Pair.head in
    let mid = back m at (length m - at) h.new.mem in
    let next = at + c.in_ok-g-in-Pair.g.end in
    omega (arith, last x c.requires (drawn m at h.new.mem h.ensures c.in_ok-g-in-Pair.was) (drawn mid next u.new.mem u.ensures c.in_ok-u-in-Pair.was), c.well_formed)

pub returns-in_ok-u-in-Pair : goal.returns-in_ok-u-in-Pair
returns-in_ok-u-in-Pair t c =
    let x = seen c.in-Pair.is c.sexp_view-v.ensures in
    let h = c.invent_new_names_sexp in
    let u = c.invent_new_names_sexp-in-Pair in
    let m = c.args.mem.now in
    let at = c.in-Pair.head in
    let mid = back m at (length m - at) h.new.mem in
    let next = at + c.in_ok-g-in-Pair.g.end in
    invents_pair (drawn m at h.new.mem h.ensures c.in_ok-g-in-Pair.was) (pairs x c.requires) (drawn mid next u.new.mem u.ensures c.in_ok-u-in-Pair.was)

pub atom-requires : goal.atom-requires
atom-requires t c =
    let r = c.requires.room in
    atom_room r (atom (seen c.in-Atom.is c.sexp_view-v.ensures) _ r.fields r.there)

pub returns-in-Atom : goal.returns-in-Atom
returns-in-Atom t c = invents_atom (seen c.in-Atom.is c.sexp_view-v.ensures) c.atom.ensures.grown c.atom.ensures.invents_atom

pub returns-in_default : goal.returns-in_default
returns-in_default t c = invents_other c.in_default.not-Pair c.in_default.not-Atom c.sexp_view-v.ensures c.skip_sexp.ensures
