-- What a valid tree without a BM in an assign's binding body has apart from its depth, and that it stays so where names go by a map: of names, of S
-- records, and of lets and their bindings. Assumes nothing.
use mathlib.Core.Path.{◌≡◌, refl}
use mathlib.Core.Logic.{inl}
use mathlib.Core.Bool.{Bool, true, false, ◌&&◌}
use mathlib.Core.List.{List, [], ◌∷◌}
use mathlib.Core.Option.{Option, none, some}
use Prim.Native.Nat.{ℕ, zero, suc, ◌-◌, ◌≤◌, ◌<◌}
use native.Mathlib.Nat.{not-suc-le-zero, le_of_suc-le-suc}
use native.Mathlib.Omega.{arith}
use lib.ListN.{length, get_or}
use Rattle.names.specs.Names.{Bytes, same}
use Rattle.names.specs.Maps.{NameMap, lookup, renamed}
use Rattle.records.specs.Limits.{cons_limit, count_limit}
use Rattle.records.specs.declared.Zone.{Zone}
use Rattle.records.specs.Read.{binding_zone}
use Rattle.records.specs.Records.{Loc, Sexp, SN, SC, SI, SQ, SA, Pattern, Body, BL, Bodies, Tail, Binding, BB, Bindings, []ᵍ, ◌∷ᵍ◌, Helper, Helpers, Form, to_bindings, list_of, byte}
use Rattle.records.specs.declared.Kind.{Kind}
use Rattle.records.specs.declared.Kind.TheVariants.{Parallel}
use Rattle.records.specs.Sexps.{nilp, loc_of, is_atom, only}
use Rattle.records.specs.Valid.{ValidLoc, ValidName, ValidKeyword, ValidHint, ValidSexp, cons_depth, SexpFields, BodyFields, BodiesFields, TailFields, BindingFields, BindingsFields, HelperFields, HelpersFields, FormFields, lambda_depth, bodies_lambda_depth, tail_lambda_depth, binding_lambda_depth, bindings_lambda_depth, helper_lambda_depth, helpers_lambda_depth, form_lambda_depth, NoMod, BodiesNoMod, TailNoMod, BindingNoMod, BindingsNoMod, HelperNoMod, HelpersNoMod, FormNoMod}
use Rattle.walk.specs.RenameInCons.{requote, rename_in_cons, rename_in_qq, only_in_cons, only_in_qq, rename_atom}
use Rattle.walk.specs.Arena.{Held}
use Rattle.walk.specs.Bodyforms.{desugar_sequential_let_bindings}
use Rattle.walk.proofs.Views.{valid_loc_of}
use Rattle.records.proofs.Exact.{bindings_counted}
use Rattle.records.proofs.Lists.{list_count}
use Rattle.walk.proofs.All.{All, all_none, all_cons}

-- every new name of a map is within its limit
abbrev pub Named : NameMap → Type 0
Named m = All (λ e. ValidName e.1) m

valid_renamed : {m : NameMap} → Named m → (n : Bytes) → ValidName n → ValidName (renamed m n)
unfolding renamed lookup
valid_renamed all_none n h = h
valid_renamed (all_cons {a} {l} p ps) n h = go (valid_renamed ps n h) (same n a.0)
  where
    go : ValidName (elim (lookup l n) [ none ↦ n | some v ↦ v ]) → (b : Bool)
        → ValidName (elim (elim b as (λ _. Option Bytes) [ true ↦ some a.1 | false ↦ lookup l n ]) [ none ↦ n | some v ↦ v ])
    go q true = p
    go q false = q

held_cond : {n : ℕ} {x y : Sexp} (b : Bool) → Held n x → Held n y → Held n (elim b [ true ↦ x | false ↦ y ])
held_cond true p q = p
held_cond false p q = q

held_only : {n : ℕ} {x y : Sexp} (b : Bool) → Held n x → Held n y → Held n (elim (elim b as (λ _. Option Sexp) [ true ↦ some x | false ↦ none ]) [ none ↦ y | some z ↦ z ])
held_only true p q = p
held_only false p q = q

held_requote : {n : ℕ} (l : Loc) (h t : Sexp) → Held n (SC l h t) → Held n (requote l h t)
unfolding requote only SexpFields cons_depth
held_requote l h (SN k) p = p
held_requote {n} l h (SC k x t) p = go (nilp t)
  where
    go : (b : Bool) → Held n (elim (elim b as (λ _. Option Sexp) [ true ↦ some x | false ↦ none ]) [ none ↦ SC l h (SC k x t) | some v ↦ SC l h (SC (loc_of v) v (SN (loc_of v))) ])
    go true =
        let y = p.fields.2.1 in
        let v = valid_loc_of x y in
        record { fields = (p.fields.0, p.fields.1, (v, y, v)); conses = omega arith }
    go false = p
held_requote l h (SI k v) p = p
held_requote l h (SQ k q n) p = p
held_requote l h (SA k n) p = p

module _ (qq : Bool) {m : NameMap} (named : Named m) where
  mutual
    unfolding rename_in_cons SexpFields cons_depth

    held_cons : {n : ℕ} (s : Sexp) → Held n s → Held n (rename_in_cons qq m s)
    held_cons (SN l) p = p
    held_cons {n} (SC l h t) p =
        let x : Held (n - 1) h = record { fields = p.fields.1; conses = omega arith } in
        let y : Held (n - 1) t = record { fields = p.fields.2; conses = omega arith } in
        let h' = held_cons h x in
        let t' = held_cons t y in
        held_cond (is_atom "q" h) p
        (held_cond (is_atom "quote" h) (held_requote l h t p)
        (held_cond (is_atom "qq" h && qq)
        (held_only_in_qq t (SC l h t) (record { fields = y.fields; conses = omega arith }) p)
        (record { fields = (p.fields.0, h'.fields, t'.fields); conses = omega arith })))
    held_cons (SI l v) p = p
    held_cons (SQ l q n) p = p
    held_cons (SA l n) p = record { fields = (p.fields.0, valid_renamed named n p.fields.1); conses = omega arith }

    held_qq : {n : ℕ} (s : Sexp) → Held n s → Held n (rename_in_qq qq m s)
    held_qq (SN l) p = p
    held_qq {n} (SC l h t) p =
        let x : Held (n - 1) h = record { fields = p.fields.1; conses = omega arith } in
        let y : Held (n - 1) t = record { fields = p.fields.2; conses = omega arith } in
        let h' = held_qq h x in
        let t' = held_qq t y in
        let r : Held n (SC l (rename_in_qq qq m h) (rename_in_qq qq m t)) = record { fields = (p.fields.0, h'.fields, t'.fields); conses = omega arith } in
        held_cond (is_atom "unquote" h) (held_only_in_cons t _ (record { fields = y.fields; conses = omega arith }) r) r
    held_qq (SI l v) p = p
    held_qq (SQ l q n) p = p
    held_qq (SA l n) p = p

    held_only_in_cons : {n : ℕ} (s k : Sexp) → Held n s → Held n k → Held n (elim (only_in_cons qq m s) [ none ↦ k | some x ↦ x ])
    held_only_in_cons (SN l) k p q = q
    held_only_in_cons (SC l x t) k p q = held_only (nilp t) (held_cons x (record { fields = p.fields.1; conses = omega arith })) q
    held_only_in_cons (SI l v) k p q = q
    held_only_in_cons (SQ l r n) k p q = q
    held_only_in_cons (SA l n) k p q = q

    held_only_in_qq : {n : ℕ} (s k : Sexp) → Held n s → Held n k → Held n (elim (only_in_qq qq m s) [ none ↦ k | some x ↦ x ])
    held_only_in_qq (SN l) k p q = q
    held_only_in_qq (SC l x t) k p q = held_only (nilp t) (held_qq x (record { fields = p.fields.1; conses = omega arith })) q
    held_only_in_qq (SI l v) k p q = q
    held_only_in_qq (SQ l r n) k p q = q
    held_only_in_qq (SA l n) k p q = q

  pub valid_cons : (s : Sexp) → ValidSexp s → ValidSexp (rename_in_cons qq m s)
  valid_cons s p = let r = held_cons {n = cons_limit} s (record { fields = p.0; conses = p.1 }) in (r.fields, r.conses)

pub valid_atom : {m : NameMap} → Named m → (s : Sexp) → ValidSexp s → ValidSexp (rename_atom m s)
unfolding rename_atom SexpFields cons_depth
valid_atom named (SN l) p = p
valid_atom named (SC l h t) p = p
valid_atom named (SI l v) p = p
valid_atom named (SQ l q n) p = p
valid_atom named (SA l n) p = ((p.0.0, valid_renamed named n p.0.1), p.1)

-- valid fields, BF at most k deep, and no BM where zone z has none
pub record Kept {A : Type 0} (Fields : A → Type 0) (depth-of : A → ℕ) (Clear : Zone → A → Type 0) (z : Zone) (k : ℕ) (a : A) : Type 0 where
  pub fields : Fields a
  pub lambdas : depth-of a ≤ k
  pub clear : Clear z a

abbrev pub BodyKept : Zone → ℕ → Body → Type 0
BodyKept = Kept BodyFields lambda_depth NoMod

abbrev pub BodiesKept : Zone → ℕ → Bodies → Type 0
BodiesKept = Kept BodiesFields bodies_lambda_depth BodiesNoMod

abbrev pub TailKept : Zone → ℕ → Tail → Type 0
TailKept = Kept TailFields tail_lambda_depth TailNoMod

abbrev pub BindingKept : Zone → ℕ → Binding → Type 0
BindingKept = Kept BindingFields binding_lambda_depth BindingNoMod

abbrev pub BindingsKept : Zone → ℕ → Bindings → Type 0
BindingsKept = Kept BindingsFields bindings_lambda_depth BindingsNoMod

abbrev pub HelperKept : Zone → ℕ → Helper → Type 0
HelperKept = Kept HelperFields helper_lambda_depth HelperNoMod

abbrev pub HelpersKept : Zone → ℕ → Helpers → Type 0
HelpersKept = Kept HelpersFields helpers_lambda_depth HelpersNoMod

abbrev pub FormKept : Zone → ℕ → Form → Type 0
FormKept = Kept FormFields form_lambda_depth FormNoMod

-- so many bindings, each kept
abbrev pub ListKept : Zone → ℕ → ℕ → List Binding → Type 0
ListKept z k n bs = All (BindingKept z k) bs × (length bs ≡ n)

-- the bindings of a let as a list
module _ {z : Zone} {k : ℕ} where
  kept_list_of : (bs : Bindings) → BindingsKept z k bs → All (BindingKept z k) (list_of bs)
  unfolding list_of BindingsFields bindings_lambda_depth BindingsNoMod
  kept_list_of []ᵍ p = all_none
  kept_list_of (b ∷ᵍ bs) p =
      all_cons {a = b}
      (record { fields = p.fields.0; lambdas = omega arith; clear = p.clear.0 })
      (kept_list_of bs (record { fields = p.fields.1; lambdas = omega arith; clear = p.clear.1 }))

  kept_to_bindings : {l : List Binding} → All (BindingKept z k) l → BindingsKept z k (to_bindings l)
  unfolding to_bindings BindingsFields bindings_lambda_depth BindingsNoMod
  kept_to_bindings all_none = record { fields = tt; lambdas = omega arith; clear = tt }
  kept_to_bindings (all_cons p ps) =
      let q = kept_to_bindings ps in
      record { fields = (p.fields, q.fields); lambdas = omega arith; clear = (p.clear, q.clear) }

-- one of a list
pub all_at : {A : Type 0} {P : A → Type 0} {l : List A} (d : A) → All P l → (i : ℕ) → i < length l → P (get_or l i d)
all_at d all_none i h = absurd (not-suc-le-zero h)
all_at d (all_cons p ps) zero h = p
all_at d (all_cons p ps) (suc i) h = all_at d ps i (le_of_suc-le-suc h)

-- the parts of a let of kind x that is kept
pub record LetKept (x : Kind) (z : Zone) (k : ℕ) (l : Loc) (w h : Bytes) (bs : List Binding) (b : Body) : Type 0 where
  pub loc : ValidLoc l
  pub keyword : ValidKeyword w
  pub hint : ValidHint h
  pub count : length bs ≤ count_limit
  pub bindings : All (BindingKept (binding_zone x z) k) bs
  pub body : BodyKept z k b

module _ {x : Kind} {z : Zone} {k : ℕ} {l : Loc} {w h : Bytes} {b : Body} where
  pub let_parts : {bs : Bindings} → BodyKept z k (BL x l w h bs b) → LetKept x z k l w h (list_of bs) b
  unfolding BodyFields lambda_depth NoMod
  let_parts {bs} p = record {
    loc = p.fields.0;
    keyword = p.fields.1;
    hint = p.fields.2;
    count = omega (arith, p.fields.3, list_count bs);
    bindings = kept_list_of bs (record { fields = p.fields.4; lambdas = omega arith; clear = p.clear.0 });
    body = record { fields = p.fields.5; lambdas = omega arith; clear = p.clear.1 };
  }

  pub let_kept : {bs : List Binding} → LetKept x z k l w h bs b → BodyKept z k (BL x l w h (to_bindings bs) b)
  unfolding BodyFields lambda_depth NoMod
  let_kept {bs} p =
      let q = kept_to_bindings p.bindings in
      record {
        fields = (p.loc, p.keyword, p.hint, omega (arith, p.count, bindings_counted bs), q.fields, p.body.fields);
        lambdas = omega arith;
        clear = (q.clear, p.body.clear);
      }

-- a let of one binding that a sequential let becomes
pub one_binding : {z : Zone} {k : ℕ} {l nl : Loc} {p : Pattern} {e b : Body} → BindingKept z k (BB l nl p e) → BodyKept z k b → LetKept Parallel z k l (byte 0) (byte 0) (BB l nl p e ∷ []) b
unfolding BindingFields binding_zone
one_binding p q = record { loc = p.fields.0; keyword = inl refl; hint = inl refl; count = omega arith; bindings = all_cons p all_none; body = q }

-- a sequential let, desugared
pub kept_desugar : {z : Zone} {k : ℕ} {b : Body} (bs : List Binding) → All (BindingKept z k) bs → BodyKept z k b → BodyKept z k (desugar_sequential_let_bindings bs b)
unfolding desugar_sequential_let_bindings to_bindings
kept_desugar [] ps q = q
kept_desugar (BB l nl p e ∷ bs) (all_cons b ps) q = let_kept (one_binding b (kept_desugar bs ps q))
