-- A result that is that of a case. Assumes nothing.
use mathlib.Core.Bool.{Bool}
use mathlib.Core.List.{◌++◌}
use mathlib.Core.Path.{◌≡◌, sym, ap, ◌∙◌}
use Prim.Native.Nat.{ℕ, ◌-◌, ◌≤◌}
use lib.ListN.{length, take, drop, length-replicate}
use lib.Seq.{take_at, drop_at}
use Rattle.std.proofs.lemmas.List.{drop-replicate, take-replicate}
use Rattle.names.specs.Names.{Bytes}
use Rattle.names.specs.declared.Answer.{Answer}
use Rattle.replays.proofs.Deciding.{decides_as}
use Rattle.replays.specs.Judging.{Decides, filling}
use Rattle.replay_calls.specs.declared.calls.Case.{Case}
use Rattle.replay_calls.specs.CallCases.{CallAgrees, due_result, called}

-- A test of the answer and of all memory, of which the call had the first n bytes, decides of the case's result: what stands behind them did not change.
module _ (c : Case) (work : ℕ) (input wanted : Bytes) (m n : ℕ) {mem out : Bytes} {a : Answer} (le : n ≤ m) (fill : mem ≡ filling m)
    (call : (a, out) ≡ called c.call c.f work c.counter input (take n mem)) (kept : length out ≡ length (take n mem)) where
  given : take n mem ≡ filling n
  given = ap (take n) fill ∙ take-replicate n m 7 le

  long : length out ≡ n
  long = kept ∙ ap length given ∙ length-replicate n 7

  whole : (a, take n (out ++ drop n mem)) ≡ called c.call c.f work c.counter input (filling n)
  whole = rw (take_at out (drop n mem) n long) (rw given at call)

  rest : drop n (out ++ drop n mem) ≡ filling (length (drop n (out ++ drop n mem)))
  rest =
      let e : drop n (out ++ drop n mem) ≡ filling (m - n) = drop_at out (drop n mem) n long ∙ ap (drop n) fill ∙ drop-replicate n m 7 in
      e ∙ ap filling (sym (ap length e ∙ length-replicate (m - n) 7))

  pub agrees_with : {t : Bool}
      → Decides t (((a, take n (out ++ drop n mem)) ≡ due_result c wanted n) × (drop n (out ++ drop n mem) ≡ filling (length (drop n (out ++ drop n mem)))))
      → Decides t ((n ≤ m) × CallAgrees c work input wanted n)
  agrees_with d = decides_as (λ h. (le, record { result = sym whole ∙ h.0 })) (λ h. (whole ∙ h.1.result, rest)) d
