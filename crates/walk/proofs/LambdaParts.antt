-- A BF: where its parts stand, what they are and what they draw. Assumes nothing.
use mathlib.Core.Path.{◌≡◌, sym, ap, subst, ◌∙◌}
use mathlib.Core.List.{◌++◌, flatten, append_assoc, append-nil}
use native.Mathlib.Omega.{arith}
use Prim.Native.Nat.{ℕ, ◌+◌, ◌-◌, ◌≤◌}
use lib.ListN.{length, length-append}
use Rattle.names.specs.Names.{Bytes, ascii}
use Rattle.names.specs.Segments.{At}
use Rattle.names.proofs.Places.{at_left, at_right, at_join}
use Rattle.records.specs.Depth.{depth}
use Rattle.records.specs.Records.{Loc, Sexp, Body, BF, sexp_bytes, body_bytes, record_bytes}
use Rattle.records.specs.Valid.{ValidSexp, BodyFields, NoMod, lambda_depth}
use Rattle.records.specs.Views.{lambda_head}
use Rattle.walk.specs.Draws.{sexp_atoms, atoms, dbl}
use Rattle.walk.specs.Walking.{AnyBody, IsLambda, Fine}
use Rattle.walk.proofs.Results.{dbl_down}
use Rattle.walk.proofs.Sizes.{positive, dbl_add, dbl_least}

-- the bytes of a BF
pub lambda_split : (l : Loc) (w : Bytes) (ca : Sexp) (c : Body) (a : Sexp) (b : Body)
    → body_bytes (BF l w ca c a b) ≡ lambda_head l w ++ (sexp_bytes ca ++ (body_bytes c ++ (sexp_bytes a ++ body_bytes b)))
unfolding body_bytes record_bytes flatten ascii
lambda_split l w ca c a b = simp (append-nil, append_assoc)

-- and how many they are
pub lambda_size : (l : Loc) (w : Bytes) (ca : Sexp) (c : Body) (a : Sexp) (b : Body)
    → length (body_bytes (BF l w ca c a b)) ≡ length (lambda_head l w) + length (sexp_bytes ca) + length (body_bytes c) + length (sexp_bytes a) + length (body_bytes b)
lambda_size l w ca c a b =
    ap length (lambda_split l w ca c a b)
    ∙ omega (
      arith,
      length-append (lambda_head l w) (sexp_bytes ca ++ (body_bytes c ++ (sexp_bytes a ++ body_bytes b))),
      length-append (sexp_bytes ca) (body_bytes c ++ (sexp_bytes a ++ body_bytes b)),
      length-append (body_bytes c) (sexp_bytes a ++ body_bytes b),
      length-append (sexp_bytes a) (body_bytes b),
    )

-- where they stand
pub record PartsAt (mem : Bytes) (p : ℕ) (l : Loc) (w : Bytes) (ca : Sexp) (c : Body) (a : Sexp) (b : Body) : Type 0 where
  pub head : At mem p (lambda_head l w)
  pub capture_args : At mem (p + length (lambda_head l w)) (sexp_bytes ca)
  pub captures : At mem (p + length (lambda_head l w) + length (sexp_bytes ca)) (body_bytes c)
  pub args : At mem (p + length (lambda_head l w) + length (sexp_bytes ca) + length (body_bytes c)) (sexp_bytes a)
  pub body : At mem (p + length (lambda_head l w) + length (sexp_bytes ca) + length (body_bytes c) + length (sexp_bytes a)) (body_bytes b)

pub parts_at : {mem : Bytes} {p : ℕ} {l : Loc} {w : Bytes} {ca : Sexp} {c : Body} {a : Sexp} {b : Body} → At mem p (body_bytes (BF l w ca c a b)) → PartsAt mem p l w ca c a b
parts_at {mem} {p} {l} {w} {ca} {c} {a} {b} at =
    let h = subst (At mem p) (lambda_split l w ca c a b) at in
    let r₁ = at_right (lambda_head l w) (sexp_bytes ca ++ (body_bytes c ++ (sexp_bytes a ++ body_bytes b))) h in
    let r₂ = at_right (sexp_bytes ca) (body_bytes c ++ (sexp_bytes a ++ body_bytes b)) r₁ in
    let r₃ = at_right (body_bytes c) (sexp_bytes a ++ body_bytes b) r₂ in
    record {
      head = at_left (lambda_head l w) (sexp_bytes ca ++ (body_bytes c ++ (sexp_bytes a ++ body_bytes b))) h;
      capture_args = at_left (sexp_bytes ca) (body_bytes c ++ (sexp_bytes a ++ body_bytes b)) r₁;
      captures = at_left (body_bytes c) (sexp_bytes a ++ body_bytes b) r₂;
      args = at_left (sexp_bytes a) (body_bytes b) r₃;
      body = at_right (sexp_bytes a) (body_bytes b) r₃;
    }

-- the other way round
pub parts_join : {mem : Bytes} {p : ℕ} {l : Loc} {w : Bytes} {ca : Sexp} {c : Body} {a : Sexp} {b : Body} → PartsAt mem p l w ca c a b → At mem p (body_bytes (BF l w ca c a b))
parts_join {mem} {p} {l} {w} {ca} {c} {a} {b} x =
    subst (At mem p) (sym (lambda_split l w ca c a b))
    (at_join (lambda_head l w) (sexp_bytes ca ++ (body_bytes c ++ (sexp_bytes a ++ body_bytes b))) x.head
    (at_join (sexp_bytes ca) (body_bytes c ++ (sexp_bytes a ++ body_bytes b)) x.capture_args
    (at_join (body_bytes c) (sexp_bytes a ++ body_bytes b) x.captures (at_join (sexp_bytes a) (body_bytes b) x.args x.body))))

-- what they are
pub record FineParts (F d : ℕ) (ca : Sexp) (c : Body) (a : Sexp) (b : Body) : Type 0 where
  pub capture_args : ValidSexp ca
  pub captures : Fine AnyBody F (d - 1) c
  pub body : Fine AnyBody F (d - 1) b
  pub levels : 2 ≤ d

-- of a fine BF
pub fine_parts : {F d : ℕ} {l : Loc} {w : Bytes} {ca : Sexp} {c : Body} {a : Sexp} {b : Body} → Fine IsLambda F d (BF l w ca c a b) → FineParts F d ca c a b
unfolding BodyFields depth lambda_depth NoMod
fine_parts {F} {d} {l} {w} {ca} {c} {a} {b} f =
    let z = lambda_size l w ca c a b in
    record {
      capture_args = f.valid.0.2;
      captures =
          record {
            valid = (f.valid.0.3, omega (arith, f.valid.1), omega (arith, f.valid.2));
            zone = f.zone;
            clear = f.clear.0;
            only = tt;
            deep = omega (arith, f.deep);
            short = omega (arith, f.short);
          };
      body =
          record {
            valid = (f.valid.0.5, omega (arith, f.valid.1), omega (arith, f.valid.2));
            zone = f.zone;
            clear = f.clear.1;
            only = tt;
            deep = omega (arith, f.deep);
            short = omega (arith, f.short);
          };
      levels = omega (arith, f.deep, positive b);
    }

-- the draws of its parts one level down, the body's twice
pub lambda_draws : (d : ℕ) (c : Body) (a : Sexp) (b : Body) → 1 ≤ d
    → dbl (d - 1) (atoms c) + (sexp_atoms a + (dbl (d - 1) (atoms b) + dbl (d - 1) (atoms b))) ≤ dbl d (atoms c + (sexp_atoms a + atoms b))
lambda_draws d c a b le =
    omega (
      arith,
      dbl_down d (atoms c + (sexp_atoms a + atoms b)) le,
      dbl_add (d - 1) (atoms c) (sexp_atoms a + atoms b),
      dbl_add (d - 1) (sexp_atoms a) (atoms b),
      dbl_least (d - 1) (sexp_atoms a),
    )
