-- `names::call::name_call` meets its contract. Assumes nothing.
use mathlib.Core.Path.{sym, ◌∙◌}
use native.Mathlib.Omega.{arith}
use Rattle.names.proofs.CallAnswers.{delivered_fits, delivered_short, name_call_counter, name_call_long, name_call_made}
use Rattle.names.proofs.call.name_call.Goals as goal

pub returns-then-counter-gt-MAX_COUNTER : goal.returns-then-counter-gt-MAX_COUNTER
returns-then-counter-gt-MAX_COUNTER c =
    c.refused.ensures c.args.res.now ∙ rw c.placeless.ensures (sym (name_call_counter _ _ _ (omega arith)))

pub returns-then-len-gt-NAME_LIMIT : goal.returns-then-len-gt-NAME_LIMIT
returns-then-len-gt-NAME_LIMIT c =
    c.refused-then-len-gt-NAME_LIMIT.ensures c.args.res.now
    ∙ rw c.placeless-then-len-gt-NAME_LIMIT.ensures (sym (name_call_long _ _ _ (omega arith) (omega arith)))

pub returns-then-len-res : goal.returns-then-len-res
returns-then-len-res c =
    c.refused-then-len-res.ensures c.args.res.now
    ∙ rw c.placeless-then-len-res.ensures
    (sym (name_call_made _ _ _ (omega arith) (omega arith) ∙ delivered_short _ _ _ _ (omega arith)))

pub returns : goal.returns
returns c =
    rw (c.accepted.ensures, c.gensym_len-len.ensures, c.gensym.ensures.out_after)
    (sym (name_call_made _ _ _ (omega arith) (omega arith) ∙ delivered_fits _ _ _ _ (omega arith)))
