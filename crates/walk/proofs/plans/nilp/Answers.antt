-- `crate::plans::nilp` meets its contract. Assumes nothing.
use mathlib.Core.Logic.{inl, inr}
use Rattle.records.proofs.AnySexp.{unseen}
use Rattle.walk.proofs.ProperLists.{nil_nilp, pair_nilp, number_nilp, text_nilp, atom_nilp}
use Rattle.walk.proofs.plans.nilp.Goals as goal

pub returns-in-Nil : goal.returns-in-Nil
returns-in-Nil c t w a = nil_nilp t w a (rw c.in-Nil.is at c.sexp_view-v.ensures)

pub returns-in-Pair : goal.returns-in-Pair
returns-in-Pair c t w a =
    elim c.in-Pair.is [
      | inl e ↦ pair_nilp t w a (rw e.1 at c.sexp_view-v.ensures)
      | inr e ↦ absurd (unseen ((rw e at c.sexp_view-v.ensures).sees t w a))
    ]

pub returns-in-Integer : goal.returns-in-Integer
returns-in-Integer c t w a = number_nilp t w a (rw c.in-Integer.is at c.sexp_view-v.ensures) c.all_zero.ensures

pub returns-in-Text : goal.returns-in-Text
returns-in-Text c t w a =
    elim c.in-Text.is [
      | inl e ↦ text_nilp t w a (rw e at c.sexp_view-v.ensures)
      | inr e ↦ atom_nilp t w a (rw e at c.sexp_view-v.ensures)
    ]
