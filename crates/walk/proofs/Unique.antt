-- What stands at a place is one tree alone: of bodies, S records, patterns and bindings, one after the other, and of maps. So what is said of a tree that
-- stands there is said of every one. Assumes nothing.
use mathlib.Core.Path.{◌≡◌, refl, sym, ap, subst, ◌∙◌}
use mathlib.Core.Bool.{Bool}
use mathlib.Core.List.{List, [], ◌∷◌, ◌++◌}
use Rattle.std.specs.Prelude.{Option, None}
use native.Mathlib.Omega.{arith}
use Prim.Native.Nat.{ℕ, suc, ◌+◌, ◌-◌}
use lib.ListN.{length, drop, take-append-drop, length-append}
use lib.Seq.{drop-append_seam}
use Rattle.names.specs.Maps.{NameMap, map_bytes, Limited}
use Rattle.names.specs.Names.{Bytes, name_field}
use Rattle.names.specs.Segments.{At, SameOutside}
use Rattle.names.proofs.Fields.{name_field_length}
use Rattle.names.proofs.Parts.{into}
use Rattle.names.proofs.Places.{at_place, at_left, at_right}
use Rattle.records.specs.Limits.{level_limit, lambda_limit}
use Rattle.records.specs.Lists.{joined, Each}
use Rattle.records.specs.declared.Zone.TheVariants.{Plain}
use Rattle.records.specs.Read.{readers}
use Rattle.records.specs.ReadFields.{Input, Reader}
use Rattle.records.specs.Records.{sexp_bytes, pattern_field, Body, body_bytes, Bodies, []ᵇ, ◌∷ᵇ◌, bodies_bytes, bodies_count, Binding, binding_bytes}
use Rattle.records.specs.Parts.{ValidBinding}
use Rattle.records.specs.Valid.{ValidName, ValidSexp, ValidPattern, ValidBody}
use Rattle.records.proofs.Complete.{complete_readers, reads_binding}
use Rattle.records.proofs.ReadBack.{Reads, reads_name, reads_sexp, reads_pattern_of}
use Rattle.walk.specs.Arena.{MapAt}
use Rattle.walk.specs.CallWalks.{EachFine, FineBodies}
use Rattle.walk.specs.Walking.{Fine, Ready, Tells}
use Rattle.walk.specs.declared.Task.{Task}

-- two trees that one reader reads from the same bytes are one
same_tree : {A : Type 0} {P Q : Type 0} {o p : Option ℕ} {n k : ℕ} {m : Reader A} {a b : A} {bs cs : Bytes} (xs ys : Bytes) → Reads P o n k Plain m bs a → Reads Q p n k Plain m cs b
    → bs ++ xs ≡ cs ++ ys → a ≡ b
same_tree {a = a} {b = b} {bs} xs ys r s e =
    let i : Input = record { rest = bs ++ xs; offset = 0; first_mod = None } in
    let p = r.reads 0 i xs refl in
    let q = s.reads 0 i ys e in
    let z = sym p.ran ∙ q.ran in
    let w : a ≡ b = cc in
    w

-- what stands at the start, and what is behind it
at_front_of : {xs bs : Bytes} → At xs 0 bs → xs ≡ bs ++ drop (length bs) xs
at_front_of {xs} {bs} a = sym (take-append-drop (length bs) xs) ∙ ap (λ (z : Bytes). z ++ drop (length bs) xs) a.there

-- one tree at most stands at the start
abbrev pub Unique : {A : Type 0} → (A → Bytes) → (A → Type 0) → Type 0
Unique {A} bytes Good = (xs : Bytes) (a b : A) → Good a → Good b → At xs 0 (bytes a) → At xs 0 (bytes b) → a ≡ b

-- two trees that one reader reads at the start are one
pub unique_by : {A : Type 0} {P Q : Type 0} {o p : Option ℕ} {n k : ℕ} {m : Reader A} {a b : A} {xs bs cs : Bytes} → Reads P o n k Plain m bs a → Reads Q p n k Plain m cs b → At xs 0 bs → At xs 0 cs → a ≡ b
unique_by r s x y = same_tree _ _ r s (sym (at_front_of x) ∙ at_front_of y)

-- two pairs of the same parts are one
pub same_pair : {A B : Type 0} {p q : A × B} → p.0 ≡ q.0 → p.1 ≡ q.1 → p ≡ q
same_pair {A} {B} {p} {q} e f = let z : ◌≡◌ {A = A × B} (p.0, p.1) (q.0, q.1) = cc in z

-- two trees at one place, with something behind each, are one, and both stand behind it
pub unique_first : {A : Type 0} (f : A → Bytes) {Good : A → Type 0} → Unique f Good → {xs : Bytes} {p : ℕ} (a b : A) (cs bs : Bytes) → Good a → Good b → At xs p (f a ++ cs) → At xs p (f b ++ bs)
    → (a ≡ b) × At xs (p + length (f a)) cs × At xs (p + length (f a)) bs
unique_first {A} f u {p = p} a b cs bs g h x y =
    let e = u _ a b g h (into (at_left (f a) cs x)) (into (at_left (f b) bs y)) in
    (e, at_right (f a) cs x, at_place (p + length (f a)) (omega (arith, ap (λ (z : A). length (f z)) e)) (at_right (f b) bs y))

pub unique_body : Unique body_bytes ValidBody
unique_body xs a b p q x y =
    unique_by ((complete_readers level_limit).body level_limit lambda_limit Plain a (omega arith) p.0 p.1 p.2)
    ((complete_readers level_limit).body level_limit lambda_limit Plain b (omega arith) q.0 q.1 q.2) x y

pub unique_sexp : Unique sexp_bytes ValidSexp
unique_sexp xs a b p q x y = unique_by {n = 0} {k = 0} (reads_sexp p) (reads_sexp q) x y

pub unique_pattern : Unique pattern_field ValidPattern
unique_pattern xs a b p q x y = unique_by {n = 0} {k = 0} (reads_pattern_of a p) (reads_pattern_of b q) x y

pub unique_binding : Unique binding_bytes ValidBinding
unique_binding xs a b p q x y =
    unique_by (reads_binding (readers level_limit) (suc level_limit) (complete_readers level_limit) level_limit lambda_limit Plain a (omega arith) p.0 p.1 p.2)
    (reads_binding (readers level_limit) (suc level_limit) (complete_readers level_limit) level_limit lambda_limit Plain b (omega arith) q.0 q.1 q.2) x y

-- a fine body
pub unique_fine : {Only : Body → Type 0} {F d : ℕ} → Unique body_bytes (Fine Only F d)
unique_fine xs a b p q x y = unique_body xs a b p.valid q.valid x y

-- one list of so many bodies at most stands at a place
same_bodies : (F d : ℕ) (xs : Bytes) (p : ℕ) (cs bs : Bodies) → EachFine F d cs → EachFine F d bs → bodies_count cs ≡ bodies_count bs → At xs p (bodies_bytes cs) → At xs p (bodies_bytes bs) → cs ≡ bs
unfolding EachFine bodies_bytes bodies_count
same_bodies F d xs p []ᵇ []ᵇ f g n x y = refl
same_bodies F d xs p []ᵇ (b ∷ᵇ bs) f g n x y = absurd (omega arith)
same_bodies F d xs p (a ∷ᵇ cs) []ᵇ f g n x y = absurd (omega arith)
same_bodies F d xs p (a ∷ᵇ cs) (b ∷ᵇ bs) f g n x y =
    let s = unique_first body_bytes unique_fine a b (bodies_bytes cs) (bodies_bytes bs) f.0 g.0 x y in
    let e = s.0 in
    let r = same_bodies F d xs (p + length (body_bytes a)) cs bs f.1 g.1 (omega arith) s.1 s.2 in
    cc

-- and so at the start
pub unique_bodies : {F d count : ℕ} → Unique bodies_bytes (FineBodies F d count)
unique_bodies {F} {d} xs cs bs f g x y = same_bodies F d xs 0 cs bs f.each g.each (f.many ∙ sym g.many) x y

-- one list of bindings at most stands at a place
pub unique_bindings : {xs : Bytes} {q : ℕ} (bs cs : List Binding) → Each ValidBinding bs → Each ValidBinding cs → length bs ≡ length cs → At xs q (joined binding_bytes bs) → At xs q (joined binding_bytes cs)
    → bs ≡ cs
unfolding joined Each
unique_bindings [] [] v w e x y = refl
unique_bindings [] (c ∷ cs) v w e x y = absurd (omega arith)
unique_bindings (b ∷ bs) [] v w e x y = absurd (omega arith)
unique_bindings {xs} {q} (b ∷ bs) (c ∷ cs) v w e x y =
    let s = unique_first binding_bytes unique_binding b c (joined binding_bytes bs) (joined binding_bytes cs) v.0 w.0 x y in
    let h = s.0 in
    let r = unique_bindings {q = q + length (binding_bytes b)} bs cs v.1 w.1 (omega arith) s.1 s.2 in
    cc

-- one map at most
name_head : (a b xs ys : Bytes) → ValidName a → ValidName b → name_field a ++ xs ≡ name_field b ++ ys → a ≡ b
name_head a b xs ys p q e = same_tree {n = 0} {k = 0} _ _ (reads_name p) (reads_name q) e

tail_of : (a b xs ys : Bytes) → a ≡ b → name_field a ++ xs ≡ name_field b ++ ys → xs ≡ ys
tail_of a b xs ys e h =
    sym (drop-append_seam (name_field a) xs) ∙ ap (drop (length (name_field a))) h ∙ ap (λ (z : Bytes). drop (length (name_field z)) (name_field b ++ ys)) e ∙ drop-append_seam (name_field b) ys

no_entry : (n x : Bytes) → [] ≡ name_field n ++ x → ⊥
no_entry n x e = absurd (omega (arith, ap length e, length-append (name_field n) x, name_field_length n))

unique_map : (m k : NameMap) → Limited m → Limited k → map_bytes m ≡ map_bytes k → m ≡ k
unfolding map_bytes Limited
unique_map [] [] l r e = refl
unique_map [] ((o, n) ∷ k) l r e = absurd (no_entry o _ e)
unique_map ((o, n) ∷ m) [] l r e = absurd (no_entry o _ (sym e))
unique_map ((o, n) ∷ m) ((o', n') ∷ k) l r e =
    let p = name_head o o' _ _ l.0 r.0 e in
    let e₂ = tail_of o o' _ _ p e in
    let q = name_head n n' _ _ l.1 r.1 e₂ in
    let z = unique_map m k l.2 r.2 (tail_of n n' _ _ q e₂) in
    cc

-- so one map at most stands at the end of memory
pub same_map : {mem : Bytes} {len : ℕ} {m k : NameMap} → MapAt mem len m → MapAt mem len k → m ≡ k
same_map {m = m} {k = k} p q = unique_map m k p.limited q.limited (sym p.there ∙ q.there)

-- what is answered of the tree and the map that are known to stand there is answered of every one
pub tells_of : {A : Type 0} {owning : Bool} {bytes : A → Bytes} {Good : A → Type 0} {needs draws : A → ℕ} {Answers : NameMap → A → Type 0} {old new : Bytes} {t : Task}
    → Unique bytes Good → (p : Ready owning bytes Good needs draws old t) → SameOutside old new t.free (length old - t.map) → Answers p.m p.tree → Tells bytes Good Answers old new t
tells_of {A} {bytes = bytes} {Good} {Answers = Answers} {old} {t = t} u p f x =
    record {
      frame = f;
      says = λ m k a at le g.
          subst (λ (n : NameMap). Answers n a) (same_map p.map k) (subst (λ (b : A). Answers p.m b) (u old p.tree a p.good g p.there at) x);
    }
