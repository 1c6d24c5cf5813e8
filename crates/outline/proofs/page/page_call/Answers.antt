-- `outline::page::page_call` meets its contract. Assumes nothing.
use mathlib.Core.Path.{refl, sym, ◌∙◌}
use mir.Syntax.{w8}
use mir.Val.{Fits}
use native.Mathlib.Omega.{arith}
use Prim.Native.Nat.{ℕ}
use lib.ListN.{get_or}
use Rattle.names.specs.Names.{Bytes}
use Rattle.records.specs.Valid.{AreBytes}
use Rattle.outline.proofs.PageCall.{page_call_refused, form_taken, form_ready, form_indexed, lines_few, page_refused, page_accepted}
use Rattle.outline.proofs.page.page_call.Goals as goal

-- numbers that fit eight bits are bytes
bytes : (s : Bytes) → ((i : ℕ) → Fits w8 (get_or s i 0)) → AreBytes s
bytes s h i = omega (arith, h i)

pub index_input-c-requires : goal.index_input-c-requires
index_input-c-requires c =
    let t = form_taken c.args.f _ _ c.args.res.now (bytes _ c.type_inv.input) c.in-Ok.ensures in
    form_ready t refl

pub overflow_mul-len : goal.overflow_mul-len
overflow_mul-len c =
    let t = form_taken c.args.f _ _ c.args.res.now (bytes _ c.type_inv.input) c.in-Ok.ensures in
    omega (arith, lines_few t c.index_input-c.ensures)

pub returns-then-res-len : goal.returns-then-res-len
returns-then-res-len c =
    let t = form_taken c.args.f _ _ c.args.res.now (bytes _ c.type_inv.input) c.in-Ok.ensures in
    c.refused-then-res-len.ensures _ ∙ page_refused t c.index_input-c.ensures c.if-res-len.true c.placeless.ensures

pub lay_out-requires : goal.lay_out-requires
lay_out-requires c =
    let t = form_taken c.args.f _ _ c.args.res.now (bytes _ c.type_inv.input) c.in-Ok.ensures in
    record { form = t.form; indexed = form_indexed t c.index_input-c.ensures; short = t.short; room = c.if-res-len.false }

pub returns-in-Err : goal.returns-in-Err
returns-in-Err c = c.refused.ensures _ ∙ sym (page_call_refused _ _ _ _ c.in-Err.ensures)

pub returns-else-res-len : goal.returns-else-res-len
returns-else-res-len c =
    let t = form_taken c.args.f _ _ c.args.res.now (bytes _ c.type_inv.input) c.in-Ok.ensures in
    page_accepted t c.index_input-c.ensures c.if-res-len.false (c.lay_out.ensures t.form (form_indexed t c.index_input-c.ensures)) c.accepted.ensures
