-- `crate::invent::push` meets its contract. Assumes nothing.
use native.Mathlib.Omega.{arith}
use Rattle.walk.proofs.InventLaws.{entry_asked, entry_fits, pushed, pushes_long}
use Rattle.walk.proofs.invent.push.Goals as goal

pub returns-then-gensym_len-gt-NAME_LIMIT-clause-pushes : goal.returns-then-gensym_len-gt-NAME_LIMIT-clause-pushes
returns-then-gensym_len-gt-NAME_LIMIT-clause-pushes c =
    pushes_long c.requires c.placeless.ensures (omega (arith, c.gensym_len.ensures, c.if-gensym_len-gt-NAME_LIMIT.true))

pub overflow_sub-mem : goal.overflow_sub-mem
overflow_sub-mem c = omega (arith, entry_fits c.requires, c.gensym-made.ensures.value)

pub put_entry-requires : goal.put_entry-requires
put_entry-requires c =
    entry_asked c.requires _ c.gensym-made.ensures.out_after c.gensym-made.ensures.value
    (omega (arith, c.if-gensym_len-gt-NAME_LIMIT.false, c.gensym_len.ensures, c.gensym-made.ensures.value))

pub returns : goal.returns
returns c =
    let p = pushed c.requires _ c.gensym-made.ensures.out_after c.gensym-made.ensures.value
    (omega (arith, c.if-gensym_len-gt-NAME_LIMIT.false, c.gensym_len.ensures, c.gensym-made.ensures.value)) c.put_entry.ensures in
    record { grown = p.0; pushes = p.1 }
