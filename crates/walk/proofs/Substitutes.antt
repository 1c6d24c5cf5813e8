-- Steps on S records: a record kept, and an atom by the map. Assumes nothing.
use mathlib.Core.Path.{◌≡◌, refl, sym, ap, subst, ◌∙◌}
use native.Mathlib.Omega.{arith}
use Prim.Native.Nat.{ℕ, ◌+◌, ◌-◌, ◌≤◌, ◌<◌}
use lib.ListN.{length, take, drop, length-append, length-drop}
use lib.Seq.{take_all, length-take-le, take-take}
use Rattle.names.specs.Maps.{NameMap, renamed, map_bytes, MapOf}
use Rattle.names.specs.Names.{Bytes, name_field}
use Rattle.names.specs.Segments.{At, Filled}
use Rattle.names.proofs.Frames.{same_refl, same_wider, filled_at, copied_at}
use Rattle.names.proofs.Parts.{part}
use Rattle.names.proofs.Places.{at_whole, at_own, at_is}
use Rattle.names.proofs.Segments.{filled_then}
use Rattle.records.specs.StepAnswer.{Gives, gave, refused}
use Rattle.records.specs.Records.{head_width, Sexp, SA, sexp_bytes}
use Rattle.records.proofs.AnySexp.{bytes_are}
use Rattle.records.specs.declared.Step.{Step}
use Rattle.records.specs.Views.{SexpAt, nil_at, pair_at, integer_at, text_at, atom_at, SeesSexp}
use Rattle.records.specs.declared.NameView.{NameView}
use Rattle.records.specs.declared.SexpView.{SexpView}
use Rattle.records.specs.declared.SexpView.TheVariants.{Atom}
use Rattle.walk.specs.Arena.{MapAt, Says, fitting, Substitutes, as_bytes, KeepsBytes, named}
use Rattle.walk.specs.Steps.{over_long}
use Rattle.walk.specs.DrawnMaps.{atom_size}
use Rattle.walk.specs.RenameInCons.{rename_atom}
use Rattle.walk.specs.declared.Task.{Task}
use Rattle.walk.proofs.Fits.{done_is, fitting_fits, fitting_long, same_bytes}
use Rattle.names.proofs.Fields.{name_field_length}
use Rattle.walk.proofs.Views.{NoAtom, AtomAt, atom}
use Rattle.std.specs.declared.result.Result.{Result}
use Rattle.names.specs.declared.Refusal.{Refusal}
use Rattle.std.specs.declared.result.Result.TheVariants.{Err}
use Rattle.records.specs.StepAnswer.{step_of}

-- the first n bytes kept
pub bytes_kept : {old new : Bytes} {n : ℕ} {t : Task} → Filled old new t.free (drop 0 old) n → n ≤ t.f → n ≤ t.free → t.free + t.f ≤ length old
    → KeepsBytes old new n t (step_of n n t.counter)
bytes_kept {old} {n = n} {t} w le low fit =
    let l : length (take n old) ≡ n = length-take-le n old (omega arith) in
    let out = copied_at 0 t.free w (omega arith) (at_own old 0 n (omega arith)) (omega arith) (omega arith) (omega arith) in
    record {
      frame = same_wider t.free (t.free + t.f) (omega arith) (omega arith) w.frame;
      says = gave (take n old) t.counter (fitting_fits as_bytes t.f t.counter (take n old) (omega arith)) (done_is refl (sym l) refl) out;
    }

pub bytes_over_long : {old : Bytes} {n : ℕ} {t : Task} {r : Result Step Refusal} → r ≡ Err over_long → t.f < n → n ≤ length old → KeepsBytes old old n t r
bytes_over_long {old} {n} {t} is lt low =
    let l : length (take n old) ≡ n = length-take-le n old low in
    record { frame = same_refl; says = refused over_long (fitting_long as_bytes t.f t.counter (take n old) (omega arith)) is }

-- of every kind of record: they are a tree that the rule keeps
pub trees_kept : {A : Type 0} (bytes : A → Bytes) {Good : A → Type 0} (rule : NameMap → A → A) {old new : Bytes} {n : ℕ} {t : Task} {r : Result Step Refusal} → KeepsBytes old new n t r
    → ((m : NameMap) (a : A) → At old 0 (bytes a) → Good a → (n ≡ length (bytes a)) × (rule m a ≡ a))
    → Says bytes Good bytes (λ m a. fitting bytes t.f t.counter (rule m a)) old new t r
trees_kept {A} bytes rule {old} {new} {n} {t} {r} k h =
    record {
      frame = k.frame;
      says = λ m map a there below good.
          let x = h m a there good in
          let f = t.f in
          let c = t.counter in
          let e : take n old ≡ bytes a = at_is 0 n refl x.0 there in
          let g = subst (λ (i : ℕ). Gives bytes new t.free i (fitting bytes f c a) r) x.0 (same_bytes as_bytes bytes f c (take n old) a e k.says) in
          subst (λ (u : A). Gives bytes new t.free (length (bytes a)) (fitting bytes f c u) r) (sym x.1) g;
    }

-- the atom alone goes by the map
pub others_kept : {s : Bytes} {v : SexpView} {t : Sexp} (m : NameMap) → NoAtom v → SexpAt s v t → rename_atom m t ≡ t
unfolding rename_atom
others_kept m q (nil_at e) = refl
others_kept m q (pair_at k e) = refl
others_kept m q (integer_at k) = refl
others_kept m q (text_at k) = refl
others_kept m q (atom_at {v = n} k) = absurd (q n refl)

pub named_length : (s n : Bytes) → head_width ≤ length s → length (named s n) ≡ atom_size (length n)
named_length s n le = omega (arith, length-append (take head_width s) (name_field n), length-take-le head_width s le, name_field_length n)

-- an SA written with another name: mark and L, then the name
pub written_atom : (n : Bytes) {xs a ys : Bytes} {free p : ℕ} → Filled xs a free (drop 0 xs) head_width → Filled a ys p (name_field n) (length (name_field n))
    → p ≡ free + head_width → free + length (named xs n) ≤ length xs → head_width ≤ length xs → Filled xs ys free (named xs n) (length (named xs n))
written_atom n {xs} {a} {free = free} f g e fit le =
    let head = take head_width xs in
    let size : length head ≡ head_width = length-take-le head_width xs le in
    let copied = subst (Filled xs a free head) (sym size) record { frame = f.frame; got = f.got ∙ sym (take-take head_width head_width xs (omega arith)) } in
    filled_then copied g (omega arith) fit

-- the part lent for the map is the map
map_part : {mem : Bytes} {len : ℕ} {m : NameMap} → MapAt mem len m → part mem (length mem - len) (length mem - (length mem - len)) ≡ map_bytes m
map_part {mem} {len} at =
    let top = length mem - len in
    take_all (length mem - top) (drop top mem) (omega (arith, length-drop top mem)) ∙ at.there

pub map_lent : {mem : Bytes} {len : ℕ} {m : NameMap} → MapAt mem len m → MapOf (part mem (length mem - len) (length mem - (length mem - len))) m
map_lent at = record { is = map_part at; limited = at.limited }

-- what is made of an SA
module _ {mem : Bytes} {v : NameView} {t : Sexp} (m : NameMap) (k : AtomAt mem v t) where
  abbrev result : Sexp
  result = SA k.l (renamed m k.n)

  renames : rename_atom m t ≡ result
  unfolding rename_atom
  renames = ap (rename_atom m) k.is

-- the name that was found is the one in it
module _ (t : Task) {mem found : Bytes} {v : NameView}
    (look : (m : NameMap) → part mem (length mem - t.map) (length mem - (length mem - t.map)) ≡ map_bytes m
    → found ≡ renamed m (part mem v.start (v.end - v.start))) where
  found_name : {s : Sexp} {m : NameMap} → MapAt mem t.map m → (k : AtomAt mem v s) → found ≡ renamed m k.n
  found_name {m = m} at k = look m (map_part at) ∙ ap (renamed m) (bytes_are k.name)

  module _ (x : SeesSexp mem (Atom v)) where
    pub atom_long : {r : Result Step Refusal} → r ≡ Err over_long → t.f < atom_size (length found) → Substitutes rename_atom mem mem t r
    atom_long is lt =
        record {
          frame = same_refl;
          says = λ m at s a b w.
              let k = atom x s w a in
              let l = ap length (found_name at k) in
              let long = fitting_long sexp_bytes t.f t.counter (result m k) (omega (arith, k.size (renamed m k.n))) in
              refused over_long (ap (fitting sexp_bytes t.f t.counter) (renames m k) ∙ long) is;
        }

    pub atom_fits : {new : Bytes} → atom_size (length found) ≤ t.f → t.free + t.f ≤ length mem → Filled mem new t.free (named mem found) (length (named mem found))
        → length (named mem found) ≡ atom_size (length found) → Substitutes rename_atom mem new t (step_of v.end (atom_size (length found)) t.counter)
    atom_fits {new} le fit w sz =
        record {
          frame = same_wider t.free (t.free + t.f) (omega arith) (omega arith) w.frame;
          says = λ m at s a b fine.
              let k = atom x s fine a in
              let e = found_name at k in
              let l = ap length e in
              let n = k.size (renamed m k.n) in
              let there = filled_at t.free w (omega arith) (at_whole (named mem found)) (omega arith) (omega arith) in
              let bytes = k.other (renamed m k.n) ∙ ap (named mem) (sym e) in
              gave (result m k) t.counter (ap (fitting sexp_bytes t.f t.counter) (renames m k) ∙ fitting_fits sexp_bytes t.f t.counter (result m k) (omega arith))
              (done_is k.name.past (omega arith) refl) (subst (At new t.free) (sym bytes) there);
        }
