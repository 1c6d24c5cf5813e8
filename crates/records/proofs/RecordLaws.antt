-- Records in the form in which the code meets them: a mark and what stands with it, and a child in a part of its own. Assumes nothing.
use mathlib.Core.Path.{◌≡◌, refl, ap, sym, ◌∙◌, subst}
use mathlib.Core.Bool.{Bool, true, false}
use mathlib.Core.List.{List, [], ◌∷◌, map}
use Rattle.std.specs.Prelude.{Option, Result, Ok, Err, IsErrAnd}
use Rattle.std.specs.Borrow.{Bor}
use Prim.Native.Nat.{ℕ, zero, suc, ◌+◌, ◌-◌, ◌≤◌, ◌<◌}
use Prim.Native.String.{String}
use native.Mathlib.Omega.{arith}
use lib.ListN.{length, take, drop, length-drop, get_or}
use lib.Seq.{take_at, take_all, drop-drop}
use Rattle.names.specs.Names.{Bytes, ascii, same}
use Rattle.names.specs.Refusals.{place_at, refusing}
use Rattle.names.specs.declared.Reason.TheVariants.{NotOneRecord}
use Rattle.names.specs.declared.Refusal.{Refusal}
use Rattle.records.specs.Records.{mark_width}
use Rattle.records.specs.declared.Scan.{Scan}
use Rattle.records.specs.Read.{Context}
use Rattle.records.specs.ReadFields.{Input, Fault, malformed, fault_reason, Reader, ◌>>=◌, refuse, bytes, choose, marked}
use Rattle.records.specs.Scan.{left_by, input_at, answer_at, goes_on, starts, Comes, mark_index}
use Rattle.records.proofs.Exact.{exact_bytes}
use Rattle.records.proofs.Scans.{left, input, comes_then, comes_stop}
use Rattle.names.proofs.Same.{same→eq}

-- the context of a record with another mark
abbrev pub at_mark : ℕ → Context → Context
at_mark k x = record { mark = k; room = x.room; lambdas = x.lambdas; zone = x.zone }

-- m takes the mark of its own record, whatever mark stands around it
abbrev pub OwnMark : {A : Type 0} → Reader A → Type 0
OwnMark m = (k : ℕ) (x : Context) (i : Input) → m (at_mark k x) i ≡ m x i

pub own_marked : {A : Type 0} (es : List (String × Reader A)) → OwnMark (marked es)
unfolding marked
own_marked es k x i = refl

-- a child record, read as a part p that starts at its mark
module _ {A : Type 0} {m : Reader A} (x : Context) (c : Scan) (p : Bor Bytes) (own : OwnMark m) (part : p.now ≡ take (length c.s.now - c.at) (left c)) where
  part_left : p.now ≡ left c
  part_left = part ∙ take_all (length c.s.now - c.at) (left c) (omega (arith, length-drop c.at c.s.now))

  child_there : {r : Result Scan Refusal} → Comes m (at_mark (x.mark + c.at) x) (starts p c.first) r → answer_at (x.mark + c.at) r ≡ goes_on m x c
  unfolding input_at
  child_there h = h.there ∙ ap left_by (own (x.mark + c.at) x _ ∙ ap (m x) same_input)
    where
      same_input : input_at (x.mark + c.at) (starts p c.first) ≡ input_at x.mark c
      same_input = let q : x.mark + c.at + 0 ≡ x.mark + c.at = omega arith in ap (λ (k : ℕ). input k p.now c.first) q ∙ ap (λ (l : Bytes). input (x.mark + c.at) l c.first) part_left

  pub comes_child : {d e : Scan} → Comes m (at_mark (x.mark + c.at) x) (starts p c.first) (Ok d) → e.s ≡ c.s → e.at ≡ c.at + d.at → e.first ≡ d.first → Comes m x c (Ok e)
  unfolding input_at
  comes_child {d} {e} h same far first = record { there = ap Ok moved ∙ child_there h; same = same }
    where
      rest : drop e.at e.s.now ≡ left d
      rest = rw (same, far) (sym (drop-drop d.at c.at c.s.now) ∙ ap (drop d.at) (sym part_left ∙ ap (λ (b : Bor Bytes). b.now) (sym h.same)))

      moved : input_at x.mark e ≡ input_at (x.mark + c.at) d
      moved =
          let off : x.mark + e.at ≡ x.mark + c.at + d.at = omega arith in
          ap (λ (k : ℕ). input k (left e) e.first) off ∙ ap (λ (l : Bytes). input (x.mark + c.at + d.at) l e.first) rest ∙ ap (λ (o : Option ℕ). input (x.mark + c.at + d.at) (left d) o) first

  pub comes_child_stop : {e : Refusal} → Comes m (at_mark (x.mark + c.at) x) (starts p c.first) (Err e) → Comes m x c (Err e)
  comes_child_stop h = record { there = child_there h; same = tt }

-- marks by their places
pub index_mark : (x : Bytes) (ms : List String) (k : ℕ) → mark_index x ms ≡ k → k < length ms → x ≡ ascii (get_or ms k "")
unfolding mark_index
index_mark x [] k q h = absurd (omega arith)
index_mark x (m ∷ ms) k q h = go (same x (ascii m)) refl k q h (index_mark x ms)
  where
    go : (b : Bool) → same x (ascii m) ≡ b → (k : ℕ) → ◌≡◌ {A = ℕ} (elim b [ true ↦ 0 | false ↦ suc (mark_index x ms) ]) k → k < length (m ∷ ms)
        → ((n : ℕ) → mark_index x ms ≡ n → n < length ms → x ≡ ascii (get_or ms n "")) → x ≡ ascii (get_or (m ∷ ms) k "")
    go true e zero w h ih = same→eq x (ascii m) (rw e tt)
    go true e (suc k) w h ih = absurd (omega arith)
    go false e zero w h ih = absurd (omega arith)
    go false e (suc k) w h ih = ih k (omega arith) (omega arith)

pub index_bound : (x : Bytes) (ms : List String) → mark_index x ms ≤ length ms
unfolding mark_index
index_bound x [] = omega arith
index_bound x (m ∷ ms) = go (same x (ascii m)) (index_bound x ms)
  where
    go : (b : Bool) → mark_index x ms ≤ length ms → elim b as (λ _. ℕ) [ true ↦ 0 | false ↦ suc (mark_index x ms) ] ≤ suc (length ms)
    go true h = omega arith
    go false h = omega arith

pub index_none : {A : Type 0} (x : Bytes) (es : List (String × Reader A)) → mark_index x (map (λ e. e.0) es) ≡ length es → choose x es ≡ refuse malformed
unfolding mark_index choose
index_none x [] q = refl
index_none {A} x (e ∷ es) q = go (same x (ascii e.0)) q (index_none x es)
  where
    go : (b : Bool) → ◌≡◌ {A = ℕ} (elim b [ true ↦ 0 | false ↦ suc (mark_index x (map (λ e. e.0) es)) ]) (suc (length es))
        → (mark_index x (map (λ e. e.0) es) ≡ length es → choose x es ≡ refuse malformed)
        → ◌≡◌ {A = Reader A} (elim b [ true ↦ e.1 | false ↦ choose x es ]) (refuse malformed)
    go true w ih = absurd (omega arith)
    go false w ih = ih (omega arith)

-- a refusal, by a reader that reads nothing
pub comes_refuse : {A : Type 0} {x : Context} {c : Scan} {e : Refusal} (f : Fault) → e ≡ refusing (fault_reason f) (place_at x.mark) → Comes {A = A} (refuse f) x c (Err e)
unfolding refuse left_by
comes_refuse f z = record { there = ap Err z; same = tt }

-- a record: its mark, and what stands with it
module _ {A : Type 0} (es : List (String × Reader A)) {x : Context} {s : Bor Bytes} {first : Option ℕ} where
  marked_here : {r : Result Scan Refusal} → Comes (bytes mark_width >>= λ w. choose w es) x (starts s first) r → Comes (marked es) x (starts s first) r
  unfolding marked input_at
  marked_here h = record { there = h.there ∙ ap left_by (here (x.mark + 0) (omega arith)); same = h.same }
    where
      here : (k : ℕ) → k ≡ x.mark → (bytes mark_width >>= λ w. choose w es) x (input_at x.mark (starts s first)) ≡ (bytes mark_width >>= λ w. choose w es) (at_mark k x) (input_at x.mark (starts s first))
      here k q = ap (λ (n : ℕ). (bytes mark_width >>= λ w. choose w es) (at_mark n x) (input_at x.mark (starts s first))) (sym q)

  -- no mark stands there
  pub comes_unread : {e : Refusal} {r : Result Scan Refusal} → Comes (bytes mark_width) x (starts s first) (Err e) → IsErrAnd r (λ y. y ≡ e) → Comes (marked es) x (starts s first) r
  comes_unread g z = marked_here (comes_stop _ g z)

  module _ {d : Scan} (g : Comes (bytes mark_width) x (starts s first) (Ok d)) where
    -- the two bytes that are read choose
    chosen : {r : Result Scan Refusal} → Comes (choose (take mark_width s.now) es) x d r → Comes (marked es) x (starts s first) r
    chosen {r} h = marked_here (comes_then _ (exact_bytes mark_width) g (λ a p b. subst (λ (v : Bytes). Comes (choose v es) x d r) (ap (take mark_width) b ∙ take_at a _ mark_width p) h))

    -- the mark is w, with which k stands
    pub comes_marked : {r : Result Scan Refusal} (w : String) (k : Reader A) → choose (ascii w) es ≡ k → take mark_width s.now ≡ ascii w → Comes k x d r → Comes (marked es) x (starts s first) r
    comes_marked {r} w k q t h = chosen (subst (λ (v : Reader A). Comes v x d r) (sym (ap (λ (v : Bytes). choose v es) t ∙ q)) h)

    -- the mark is none of them
    pub comes_unmarked : {e : Refusal} → choose (take mark_width s.now) es ≡ refuse malformed → e ≡ refusing NotOneRecord (place_at x.mark) → Comes (marked es) x (starts s first) (Err e)
    unfolding fault_reason
    comes_unmarked {e} q z = chosen (subst (λ (v : Reader A). Comes v x d (Err e)) (sym q) (comes_refuse malformed z))
