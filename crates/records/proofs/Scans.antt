-- Laws of readings that go on: one reader after another, by what each leaves. Assumes nothing.
use mathlib.Core.Path.{◌≡◌, refl, ap, sym, ◌∙◌}
use mathlib.Core.List.{[], ◌∷◌, ◌++◌}
use Prim.Native.Nat.{ℕ, zero, suc, ◌+◌, ◌-◌, ◌≤◌, ◌<◌}
use native.Mathlib.Omega.{arith}
use lib.ListN.{length, take, drop, length-drop}
use lib.Seq.{drop-drop}
use Rattle.std.specs.Prelude.{Option, Result, Ok, Err, IsErrAnd}
use Rattle.std.specs.Borrow.{Bor}
use Rattle.std.proofs.lemmas.Result.{err_from_is_err_and}
use Rattle.names.specs.Names.{Bytes}
use Rattle.names.specs.Refusals.{place_at, refusing}
use Rattle.names.specs.declared.Reason.TheVariants.{NotOneRecord}
use Rattle.names.specs.declared.Refusal.{Refusal}
use Rattle.records.specs.declared.Scan.{Scan}
use Rattle.records.specs.Read.{Context, Plain}
use Rattle.records.specs.ReadFields.{Input, Read, done, refused, malformed, fault_reason, Reader, ◌>>=◌, ret, times, next, bytes}
use Rattle.records.specs.Scan.{starts, left_by, left_in, input_at, answer_at, SameBytes, Comes, Reads}
use Rattle.records.proofs.Exact.{Exact}

-- the bytes that a reading leaves
abbrev pub left : Scan → Bytes
left c = drop c.at c.s.now

-- an input with these fields
abbrev pub input : ℕ → Bytes → Option ℕ → Input
input n l o = record { offset = n; rest = l; first_mod = o }

-- a reading that is not refused: m took what stands between
pub record Took {A : Type 0} (P : A → Type 0) (f : A → Bytes) (m : Reader A) (x : Context) (c d : Scan) : Type 0 where
  pub value : A
  pub good : P value
  pub there : left c ≡ f value ++ left d
  pub size : d.at ≡ c.at + length (f value)
  pub ran : m x (input_at x.mark c) ≡ done value (input_at x.mark d)

module _ {A : Type 0} {P : A → Type 0} {f : A → Bytes} {m : Reader A} {x : Context} {c d : Scan} where
  pub took : Exact P f [] m → Comes m x c (Ok d) → Took P f m x c d
  unfolding left_by input_at
  took e g = go (m x (input_at x.mark c)) refl g.there
    where
      go : (o : Read A) → m x (input_at x.mark c) ≡ o → ◌≡◌ {A = Result Input Refusal} (Ok (input_at x.mark d)) (left_by o) → Took P f m x c d
      go (done a j) q w =
          let t = e.takes x (input_at x.mark c) a j q in
          let i : j ≡ input_at x.mark d = cc in
          record { value = a; good = t.1; there = t.0 ∙ ap (λ (k : Input). f a ++ k.rest) i; size = omega (arith, t.2, ap (λ (k : Input). k.offset) i); ran = q ∙ ap (done a) i }
      go (refused n p) q w = absurd (let z : ◌≡◌ {A = ℕ} 0 1 = cc in omega arith)

-- what is refused leaves no reading
pub left_err : {A : Type 0} (d : Scan) (q : Result A Refusal) (e : Refusal) → IsErrAnd q (λ y. y ≡ e) → IsErrAnd (left_in d q) (λ y. y ≡ e)
left_err d (Ok a) e h = h
left_err d (Err y) e h = h

-- the same bytes are as many
pub same_length : {b e : Bor Bytes} → b ≡ e → length b.now ≡ length e.now
same_length q = ap (λ (b : Bor Bytes). length b.now) q

-- an answer that reads the bytes of d reads those of c
same_on : (c d : Scan) → d.s ≡ c.s → (r : Result Scan Refusal) → SameBytes d r → SameBytes c r
same_on c d q (Ok e) h = h ∙ q
same_on c d q (Err e) h = tt

module _ {A B : Type 0} {m : Reader A} (k : A → Reader B) {x : Context} {c : Scan} where
  -- m, and then k of what m gave: its bytes stand between the two readings
  pub comes_then : {P : A → Type 0} {f : A → Bytes} {d : Scan} {r : Result Scan Refusal} → Exact P f [] m → Comes m x c (Ok d) → ((a : A) → P a → left c ≡ f a ++ left d → Comes (k a) x d r) → Comes (m >>= k) x c r
  unfolding ◌>>=◌
  comes_then {d} {r} e g h =
      let t = took e g in
      let w = h t.value t.good t.there in
      let ran : (m >>= k) x (input_at x.mark c) ≡ k t.value x (input_at x.mark d) = rw (t.ran, ◌>>=◌) in
      record { there = w.there ∙ ap left_by (sym ran); same = same_on c d g.same r w.same }

  -- m, and then what comes to the same whatever m gave
  pub comes_bind : {P : A → Type 0} {f : A → Bytes} {d : Scan} {r : Result Scan Refusal} → Exact P f [] m → Comes m x c (Ok d) → ((a : A) → Comes (k a) x d r) → Comes (m >>= k) x c r
  comes_bind e g h = comes_then e g (λ a p b. h a)

  -- m is refused, and so is what starts with it
  pub comes_stop : {e : Refusal} {r : Result Scan Refusal} → Comes m x c (Err e) → IsErrAnd r (λ y. y ≡ e) → Comes (m >>= k) x c r
  unfolding ◌>>=◌ left_by
  comes_stop {e} {r} g z = let p = err_from_is_err_and r z in rw (p.1, p.2) (record { there = go (m x (input_at x.mark c)) refl g.there; same = tt })
    where
      go : (o : Read A) → m x (input_at x.mark c) ≡ o → ◌≡◌ {A = Result Input Refusal} (Err e) (left_by o) → ◌≡◌ {A = Result Input Refusal} (Err e) (left_by ((m >>= k) x (input_at x.mark c)))
      go (done a j) q w = absurd (let z : ◌≡◌ {A = ℕ} 0 1 = cc in omega arith)
      go (refused n p) q w =
          let ran : (m >>= k) x (input_at x.mark c) ≡ refused n p = rw (q, ◌>>=◌) in
          w ∙ ap left_by (sym ran)

-- nothing is read
pub comes_ret : {A : Type 0} {x : Context} {c : Scan} (a : A) → Comes (ret a) x c (Ok c)
unfolding ret left_by
comes_ret a = record { there = refl; same = refl }

-- m reads nothing, and is done
pub record Done {A : Type 0} (m : Reader A) : Type 0 where
  pub value : A
  pub is : m ≡ ret value

pub done_at : {A : Type 0} (a : A) → Done (ret a)
done_at a = record { value = a; is = refl }

-- what is made of the value of m is forgotten
module _ {A B : Type 0} {m : Reader A} {k : A → Reader B} {x : Context} {c : Scan} {r : Result Scan Refusal} where
  pub comes_last : ((a : A) → Done (k a)) → Comes m x c r → Comes (m >>= k) x c r
  unfolding ◌>>=◌ ret left_by
  comes_last e h = record { there = h.there ∙ forgotten (m x (input_at x.mark c)); same = h.same }
    where
      forgotten : (o : Read A) → left_by o ≡ left_by {A = B} (elim o [ done a j ↦ k a x j | refused n p ↦ refused n p ])
      forgotten (done a j) = ap (λ (n : Reader B). left_by (n x j)) (sym (e a).is)
      forgotten (refused n p) = refl

-- so many bytes: enough are left, or not
module _ (x : Context) (f : Option ℕ) where
  bytes_enough : (n o : ℕ) (l : Bytes) → n ≤ length l → times n next x (input o l f) ≡ done (take n l) (input (o + n) (drop n l) f)
  unfolding times ret ◌>>=◌ next
  bytes_enough zero o l h = let e : o ≡ o + 0 = omega arith in ap (λ (k : ℕ). done [] (input k l f)) e
  bytes_enough (suc n) o [] h = absurd (omega arith)
  bytes_enough (suc n) o (b ∷ bs) h =
      let e : o + 1 + n ≡ o + suc n = omega arith in
      rw (bytes_enough n (o + 1) bs (omega arith), e, ◌>>=◌)

  bytes_short : (n o : ℕ) (l : Bytes) → length l < n → times n next x (input o l f) ≡ refused malformed (place_at x.mark)
  unfolding times ret ◌>>=◌ next
  bytes_short zero o l h = absurd (omega arith)
  bytes_short (suc n) o [] h = refl
  bytes_short (suc n) o (b ∷ bs) h = rw (bytes_short n (o + 1) bs (omega arith), ◌>>=◌)

module _ {n mark : ℕ} {c : Scan} where
  pub reads_enough : (within : c.at + n ≤ length c.s.now) → n ≤ length c.s.now - c.at → Reads (bytes n) mark c (Ok (record { s = c.s; at = c.at + n; first = c.first; in_bounds = within }))
  unfolding bytes input_at left_by
  reads_enough w h = record {
    anywhere = λ x q.
        let r = bytes_enough x c.first n (x.mark + c.at) (left c) (omega (arith, length-drop c.at c.s.now)) in
        let e : mark + (c.at + n) ≡ x.mark + c.at + n = omega arith in
        let b : drop (c.at + n) c.s.now ≡ drop n (left c) = sym (drop-drop n c.at c.s.now) in
        ap (λ (k : ℕ). Ok (input k (drop (c.at + n) c.s.now) c.first)) e ∙ ap (λ (l : Bytes). Ok (input (x.mark + c.at + n) l c.first)) b ∙ sym (ap left_by r);
    same = refl;
  }

  pub reads_short : {e : Refusal} → length c.s.now - c.at < n → e ≡ refusing NotOneRecord (place_at mark) → Reads (bytes n) mark c (Err e)
  unfolding bytes input_at left_by fault_reason
  reads_short h z = record {
    anywhere = λ x q.
        let r = bytes_short x c.first n (x.mark + c.at) (left c) (omega (arith, length-drop c.at c.s.now)) in
        ap Err (z ∙ ap (λ (k : ℕ). refusing NotOneRecord (place_at k)) (sym q)) ∙ ap left_by (sym r);
    same = tt;
  }

-- the error of a `?`, as it is handed on
pub same_err : {A : Type 0} {r : Result A Refusal} {e : Refusal} → IsErrAnd r (λ y. y ≡ e) → r ≡ Err e
same_err {r} z = let p = err_from_is_err_and r z in p.1 ∙ ap Err p.2

-- the same in every context of a mark
module _ {A : Type 0} {m : Reader A} {mark : ℕ} {c : Scan} {r : Result Scan Refusal} where
  pub comes_of : Reads m mark c r → (x : Context) → x.mark ≡ mark → Comes m x c r
  comes_of h x q = record { there = ap (λ (k : ℕ). answer_at k r) q ∙ h.anywhere x q; same = h.same }

  pub reads_of : ((x : Context) → x.mark ≡ mark → Comes m x c r) → Reads m mark c r
  reads_of h = record {
    anywhere = λ x q. ap (λ (k : ℕ). answer_at k r) (sym q) ∙ (h x q).there;
    same = (h (record { mark = mark; room = 0; lambdas = 0; zone = Plain }) refl).same;
  }

module _ {A : Type 0} {P : A → Type 0} {f : A → Bytes} {m : Reader A} {mark : ℕ} {c d : Scan} where
  pub taken : Exact P f [] m → Reads m mark c (Ok d) → Took P f m (record { mark = mark; room = 0; lambdas = 0; zone = Plain }) c d
  taken e g = took e (comes_of g _ refl)

module _ {A B : Type 0} {m : Reader A} (k : A → Reader B) {mark : ℕ} {c : Scan} where
  pub reads_then : {P : A → Type 0} {f : A → Bytes} {d : Scan} {r : Result Scan Refusal} → Exact P f [] m → Reads m mark c (Ok d) → ((a : A) → P a → left c ≡ f a ++ left d → Reads (k a) mark d r) → Reads (m >>= k) mark c r
  reads_then e g h = reads_of (λ x q. comes_then k e (comes_of g x q) (λ a p b. comes_of (h a p b) x q))

  pub reads_stop : {e : Refusal} {r : Result Scan Refusal} → Reads m mark c (Err e) → IsErrAnd r (λ y. y ≡ e) → Reads (m >>= k) mark c r
  reads_stop g z = reads_of (λ x q. comes_stop k (comes_of g x q) z)

module _ {A B : Type 0} {m : Reader A} {k : A → Reader B} {mark : ℕ} {c : Scan} {r : Result Scan Refusal} where
  pub reads_last : ((a : A) → Done (k a)) → Reads m mark c r → Reads (m >>= k) mark c r
  reads_last e h = reads_of (λ x q. comes_last e (comes_of h x q))

pub reads_ret : {A : Type 0} {mark : ℕ} {c : Scan} (a : A) → Reads (ret a) mark c (Ok c)
reads_ret a = reads_of (λ x q. comes_ret a)

-- a reading at the start of its bytes
module _ {A : Type 0} {m : Reader A} {mark : ℕ} {c : Scan} {r : Result Scan Refusal} where
  pub started : c.at ≡ 0 → Reads m mark c r → Reads m mark (starts c.s c.first) r
  unfolding input_at
  started q h = record { anywhere = λ x w. h.anywhere x w ∙ ap (λ (n : ℕ). left_by (m x (record { offset = x.mark + n; rest = drop n c.s.now; first_mod = c.first }))) q; same = h.same }
