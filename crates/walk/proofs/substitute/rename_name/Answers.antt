-- `crate::substitute::rename_name` meets its contract. Assumes nothing.
use native.Mathlib.Omega.{arith}
use mathlib.Core.Path.{◌≡◌, ap, subst, ◌∙◌}
use Prim.Native.Nat.{◌-◌, ◌≤◌}
use lib.ListN.{length, take, drop, length-take}
use lib.Seq.{take-length}
use Rattle.names.specs.Names.{Bytes, name_limit}
use Rattle.names.specs.Segments.{Filled}
use Rattle.records.specs.Records.{head_width, sexp_bytes}
use Rattle.records.specs.Valid.{SexpFields}
use Rattle.records.specs.Views.{SeesSexp}
use Rattle.records.specs.declared.NameView.{NameView}
use Rattle.records.specs.declared.SexpView.TheVariants.{Atom}
use Rattle.walk.specs.Arena.{Asks, named}
use Rattle.walk.specs.declared.Task.{Task}
use Rattle.walk.proofs.Views.{AtomAt, atom}
use Rattle.walk.proofs.Substitutes.{named_length, atom_long, atom_fits}
use Rattle.walk.proofs.substitute.rename_name.Goals as goal

-- the SA that stands there
here : {mem : Bytes} {n : NameView} {t : Task} → SeesSexp mem (Atom n) → (p : Asks sexp_bytes SexpFields mem t) → AtomAt mem n p.tree
here x p = atom x p.tree p.good p.there

low : {mem : Bytes} {n : NameView} {t : Task} → SeesSexp mem (Atom n) → Asks sexp_bytes SexpFields mem t → head_width ≤ t.free
low x p = omega (arith, (here x p).own_size, p.below)

-- its name is within the limit
short : {mem : Bytes} {v : NameView} {t : Task} → SeesSexp mem (Atom v) → Asks sexp_bytes SexpFields mem t
    → length (take (v.end - v.start) (drop v.start mem)) ≤ name_limit
short {mem} {v} x p = let k = here x p in omega (arith, k.valid, k.name.ends, length-take (v.end - v.start) (drop v.start mem))

-- a name that stands whole in the local
size : (found out : Bytes) → take (length found) out ≡ take (length found) found → length (take (length found) out) ≡ length found
size found out e = ap length (e ∙ take-length found)

pub put-requires : goal.put-requires
put-requires c = omega (arith, c.lookup-found.ensures.result_len_bound (short c.requires.sees_sexp c.requires.asks))

pub returns-then-task-size : goal.returns-then-task-size
returns-then-task-size c = atom_long c.args.task c.lookup-found.ensures.result_value c.requires.sees_sexp (cc) c.if-task-size.true

pub put_atom-requires-clause-head_width_le_free : goal.put_atom-requires-clause-head_width_le_free
put_atom-requires-clause-head_width_le_free c = low c.requires.sees_sexp c.requires.asks

pub put_atom-requires-clause-name_in_bounds : goal.put_atom-requires-clause-name_in_bounds
put_atom-requires-clause-name_in_bounds c =
    let found = take (length c.lookup-found.result.now) c.put.new.out in
    let h = low c.requires.sees_sexp c.requires.asks in
    let z = size c.lookup-found.result.now c.put.new.out c.put.ensures.got in
    omega (arith, named_length c.args.mem.now found (omega (arith, h, c.requires.asks.room)), z, c.if-task-size.false, c.requires.asks.room)

pub returns : goal.returns
returns c =
    let mem = c.args.mem.now in
    let new = c.put_atom.new.mem in
    let found = c.lookup-found.result.now in
    let p = c.requires.asks in
    let h = low c.requires.sees_sexp p in
    let fit = p.room in
    let P : Bytes → Type 0 = λ x. Filled mem new c.args.task.free (named mem x) (length (named mem x)) in
    let w : P found = subst P (c.put.ensures.got ∙ take-length found) c.put_atom.ensures in
    atom_fits c.args.task c.lookup-found.ensures.result_value c.requires.sees_sexp c.if-task-size.false (omega (arith, fit)) w
    (named_length mem found (omega (arith, h, fit)))
