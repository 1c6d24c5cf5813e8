-- A `(quote v)` that is rebuilt: where v stands, and what the four writes of `requote` make. Assumes nothing.
use mathlib.Core.Path.{◌≡◌, refl, sym, ap, subst, ◌∙◌}
use mathlib.Core.List.{◌++◌, flatten, append_assoc, append-nil}
use native.Mathlib.Omega.{arith}
use Prim.Native.Nat.{ℕ, ◌+◌, ◌-◌, ◌≤◌, ◌<◌}
use lib.ListN.{length, drop, length-append}
use Rattle.names.specs.Maps.{NameMap}
use Rattle.names.specs.Names.{Bytes, ascii}
use Rattle.names.specs.Segments.{At, SameOutside, Filled}
use Rattle.names.proofs.Frames.{same_refl, same_then, at_below, at_above, filled_at, copied_at}
use Rattle.names.proofs.Parts.{into, part}
use Rattle.names.proofs.Places.{at_place, at_whole, at_left, at_right, at_join}
use Rattle.records.specs.StepAnswer.{gave, refused}
use Rattle.records.specs.Records.{head_width, mark_width, Loc, Sexp, SN, SC, SI, SQ, SA, loc_width, sexp_bytes, record_bytes}
use Rattle.records.specs.Sexps.{loc_of}
use Rattle.records.specs.Valid.{ValidLoc, SexpFields}
use Rattle.records.specs.declared.Step.{Step}
use Rattle.records.specs.Parts.{Skips, fields_part}
use Rattle.walk.specs.Arena.{fitting, Asks, Substitutes}
use Rattle.walk.specs.Steps.{over_long}
use Rattle.walk.specs.Plans.{Plans}
use Rattle.walk.specs.declared.Plan.TheVariants.{Requoted}
use Rattle.walk.specs.declared.Task.{Task}
use Rattle.walk.proofs.Fits.{done_is, fitting_fits, fitting_long}
use Rattle.walk.proofs.HeadLaws.{element}
use Rattle.walk.proofs.Pairs.{cons_width, cons_length}
use Rattle.walk.proofs.PlanLaws.{plan_says}
use Rattle.walk.proofs.Views.{valid_loc_of, least_sexp}
use Rattle.std.specs.declared.result.Result.{Result}
use Rattle.names.specs.declared.Refusal.{Refusal}
use Rattle.std.specs.declared.result.Result.TheVariants.{Err}
use Rattle.records.specs.StepAnswer.{step_of}

-- a record is its mark, its L and the rest
record Marked (v : Sexp) : Type 0 where
  mark : Bytes
  rest : Bytes
  width : length mark ≡ mark_width
  is : sexp_bytes v ≡ mark ++ (loc_of v ++ rest)

marked : (v : Sexp) → Marked v
unfolding sexp_bytes record_bytes flatten loc_of ascii
marked (SN l) = record { mark = ascii "SN"; rest = _; width = refl; is = refl }
marked (SC l h t) = record { mark = ascii "SC"; rest = _; width = refl; is = refl }
marked (SI l n) = record { mark = ascii "SI"; rest = _; width = refl; is = refl }
marked (SQ l q n) = record { mark = ascii "SQ"; rest = _; width = refl; is = refl }
marked (SA l n) = record { mark = ascii "SA"; rest = _; width = refl; is = refl }

-- so its L stands behind its mark
record Located (s : Bytes) (at : ℕ) (v : Sexp) : Type 0 where
  there : At s (at + mark_width) (loc_of v)
  valid : ValidLoc (loc_of v)
  within : head_width ≤ length (sexp_bytes v)

located : {s : Bytes} {at : ℕ} (v : Sexp) → SexpFields v → At s at (sexp_bytes v) → Located s at v
located {s} {at} v w a =
    let k = marked v in
    let l = valid_loc_of v w in
    let b = at_right k.mark (loc_of v ++ k.rest) (subst (At s at) k.is a) in
    record {
      there = at_place (at + mark_width) (omega (arith, k.width)) (at_left (loc_of v) k.rest b);
      valid = l;
      within = least_sexp v w;
    }

-- a list of two elements up to the L of the second SC
abbrev opening : Loc → Sexp → Bytes
opening l h = (ascii "SC" ++ l) ++ (sexp_bytes h ++ ascii "SC")

pair_bytes : (l : Loc) (h : Sexp) (k : Loc) (v z : Sexp) → sexp_bytes (SC l h (SC k v z)) ≡ opening l h ++ (k ++ (sexp_bytes v ++ sexp_bytes z))
unfolding sexp_bytes record_bytes flatten
pair_bytes l h k v z = simp (append_assoc, append-nil)

nil_bytes : (l : Loc) → sexp_bytes (SN l) ≡ ascii "SN" ++ l
unfolding sexp_bytes record_bytes flatten
nil_bytes l = simp append-nil

nil_width : length (ascii "SN") ≡ mark_width
unfolding ascii
nil_width = refl

opening_length : (l : Loc) (h : Sexp) → ValidLoc l → length (opening l h) ≡ head_width + length (sexp_bytes h) + mark_width
unfolding ascii
opening_length l h w = omega (arith, length-append (ascii "SC" ++ l) (sexp_bytes h ++ ascii "SC"), length-append (sexp_bytes h) (ascii "SC"), cons_width l w)

-- what is made of `(quote v)`
abbrev remade : Loc → Sexp → Sexp → Sexp
remade l h v = SC l h (SC (loc_of v) v (SN (loc_of v)))

remade_length : (l : Loc) (h v : Sexp) → ValidLoc l → ValidLoc (loc_of v)
    → length (sexp_bytes (remade l h v)) ≡ head_width + length (sexp_bytes h) + head_width + length (sexp_bytes v) + head_width
remade_length l h v w k =
    omega (
      arith,
      cons_length l h (SC (loc_of v) v (SN (loc_of v))) (cons_width l w),
      cons_length (loc_of v) v (SN (loc_of v)) (cons_width (loc_of v) k),
      ap length (nil_bytes (loc_of v)),
      length-append (ascii "SN") (loc_of v),
      nil_width,
    )

-- the four writes: the record up to the end of v, v's L over that of the inner SC, and an SN at v's L
module _ {mem a b c new : Bytes} {free last : ℕ} (at : ℕ) (low : last ≤ free) (fit : free + last + head_width ≤ length mem)
    (f₁ : Filled mem a free (drop 0 mem) last) (f₂ : Filled a b (free + at - loc_width) (drop (at + mark_width) a) loc_width)
    (f₃ : Filled b c (free + last) (ascii "SN") mark_width) (f₄ : Filled c new (free + last + mark_width) (drop (at + mark_width) c) loc_width) where
  requoted_frame : (hi : ℕ) → loc_width ≤ at → at ≤ last → free + last + head_width ≤ hi → SameOutside mem new free hi
  requoted_frame hi la le room =
      let s₂ : SameOutside mem b free hi = same_then free hi (omega arith) (omega arith) (omega arith) (omega arith) f₁.frame f₂.frame in
      let s₃ : SameOutside mem c free hi = same_then free hi (omega arith) (omega arith) (omega arith) (omega arith) s₂ f₃.frame in
      same_then free hi (omega arith) (omega arith) (omega arith) (omega arith) s₃ f₄.frame

  -- what stands below the SN stays
  stays : {q : ℕ} {bs : Bytes} → At b q bs → q + length bs ≤ free + last → At new q bs
  stays p le = at_below f₄.frame (at_below f₃.frame p le) (omega arith)

  requoted : (l : Loc) (h : Sexp) (l₂ : Loc) (v z : Sexp) → SexpFields (SC l h (SC l₂ v z)) → At mem 0 (sexp_bytes (SC l h (SC l₂ v z)))
      → at ≡ head_width + length (sexp_bytes h) + head_width → last ≡ at + length (sexp_bytes v) → At new free (sexp_bytes (remade l h v))
  unfolding SexpFields
  requoted l h l₂ v z w x e₁ e₂ =
      let k = loc_of v in
      let t = sexp_bytes v in
      let n = ascii "SN" in
      let o = opening l h in
      let lo = opening_length l h w.0 in
      let ln = nil_width in
      let y = subst (At mem 0) (pair_bytes l h l₂ v z) x in
      let r = at_right l₂ (t ++ sexp_bytes z) (at_right o (l₂ ++ (t ++ sexp_bytes z)) y) in
      let there : At mem at t = at_place at (omega (arith, w.2.0)) (at_left t (sexp_bytes z) r) in
      let i = located v w.2.1 there in
      let lk : length k ≡ loc_width = i.valid.width in
      let lt : head_width ≤ length t = i.within in
      let loc_a : At a (at + mark_width) k = at_below f₁.frame i.there (omega arith) in
      let loc_c : At c (at + mark_width) k = at_below f₃.frame (at_below f₂.frame loc_a (omega arith)) (omega arith) in
      let p₂ = free + length o in
      let p₃ = p₂ + length k in
      let p₄ = p₃ + length t in
      let p₅ = p₄ + length n in
      let a₁ : At a free o = copied_at 0 free f₁ (omega arith) (at_left o (l₂ ++ (t ++ sexp_bytes z)) y) (omega arith) (omega arith) (omega arith) in
      let a₂ : At b p₂ k = copied_at (at + mark_width) p₂ f₂ (omega (arith, f₁.frame.size)) loc_a (omega arith) (omega arith) (omega arith) in
      let a₃ : At a p₃ t = copied_at 0 p₃ f₁ (omega arith) there (omega arith) (omega arith) (omega arith) in
      let lb : length b ≡ length mem = f₂.frame.size ∙ f₁.frame.size in
      let a₄ : At c p₄ n = filled_at p₄ f₃ (omega arith) (at_whole n) (omega arith) (omega arith) in
      let a₅ : At new p₅ k = copied_at (at + mark_width) p₅ f₄ (omega (arith, f₃.frame.size)) loc_c (omega arith) (omega arith) (omega arith) in
      subst (At new free) (sym (pair_bytes l h k v (SN k) ∙ ap (λ (q : Bytes). o ++ (k ++ (t ++ q))) (nil_bytes k)))
      (at_join o (k ++ (t ++ (n ++ k))) (stays (at_below f₂.frame a₁ (omega arith)) (omega arith))
      (at_join k (t ++ (n ++ k)) (stays a₂ (omega arith))
      (at_join t (n ++ k) (stays (at_above f₂.frame a₃ (omega arith)) (omega arith))
      (at_join n k (at_below f₄.frame a₄ (omega arith)) a₅))))

module _ (by : NameMap → Sexp → Sexp) {mem : Bytes} {at end : ℕ} (x : Plans by mem (Requoted at end)) where
  -- the record t that is rebuilt, with v where the plan says
  pub record Seen (t : Sexp) : Type 0 where
    l : Loc
    h : Sexp
    l₂ : Loc
    pub v : Sexp
    z : Sexp
    valid : SexpFields (SC l h (SC l₂ v z))
    starts : At mem 0 (sexp_bytes (SC l h (SC l₂ v z)))
    place : at ≡ head_width + length (sexp_bytes h) + head_width
    ends : end ≡ length (sexp_bytes t)
    rule : (m : NameMap) → by m t ≡ remade l h v
    wide : length (sexp_bytes (remade l h v)) ≡ at + length (sexp_bytes v) + head_width
    pub fields : SexpFields v
    pub there : At mem at (sexp_bytes v)
    pub behind : head_width + head_width ≤ at
    pub within : at + length (sexp_bytes v) ≤ length (sexp_bytes t)

  pub seen : (t : Sexp) → SexpFields t → At mem 0 (sexp_bytes t) → Seen t
  unfolding SexpFields
  seen t w a =
      let k = plan_says by x t w a in
      let q = k.1 in
      let y = subst SexpFields q.is w in
      let b = subst (λ (u : Sexp). At mem 0 (sexp_bytes u)) q.is a in
      let i = element q.l q.h q.l₂ q.v q.z y b in
      let s = ap (λ (u : Sexp). length (sexp_bytes u)) q.is in
      record {
        l = q.l;
        h = q.h;
        l₂ = q.l₂;
        v = q.v;
        z = q.z;
        valid = y;
        starts = b;
        place = q.place;
        ends = k.0;
        rule = q.makes;
        wide = omega (arith, remade_length q.l q.h q.v y.0 (valid_loc_of q.v i.fields), q.place);
        fields = i.fields;
        there = at_place at (sym q.place) i.there;
        behind = omega (arith, q.place);
        within = omega (arith, q.place, i.within);
      }

  -- v has n bytes
  module _ {n : ℕ} (size : Skips fields_part (part mem at (length mem - at)) n) where
    pub measured : {t : Sexp} (k : Seen t) → n ≡ length (sexp_bytes k.v)
    measured k = size.skips k.v k.fields (into k.there)

    module _ {t : Task} where
      pub requote_long : {r : Result Step Refusal} → r ≡ Err over_long → t.f < at + n + head_width → Substitutes by mem mem t r
      requote_long is lt =
          record {
            frame = same_refl;
            says = λ m map x a b w.
                let k = seen x w a in
                let s = measured k in
                let long = fitting_long sexp_bytes t.f t.counter (remade k.l k.h k.v) (omega (arith, k.wide)) in
                refused over_long (ap (fitting sexp_bytes t.f t.counter) (k.rule m) ∙ long) is;
          }

      pub requote_done : {a b d new : Bytes} → Asks sexp_bytes SexpFields mem t → at + n + head_width ≤ t.f
          → Filled mem a t.free (drop 0 mem) (at + n) → Filled a b (t.free + at - loc_width) (drop (at + mark_width) a) loc_width
          → Filled b d (t.free + (at + n)) (ascii "SN") mark_width → Filled d new (t.free + (at + n) + mark_width) (drop (at + mark_width) d) loc_width
          → Substitutes by mem new t (step_of end (at + n + head_width) t.counter)
      requote_done p le f₁ f₂ f₃ f₄ =
          let k₀ = seen p.tree p.good p.there in
          let low : at + n ≤ t.free = omega (arith, k₀.within, measured k₀, p.below) in
          let fit : t.free + (at + n) + head_width ≤ length mem = omega (arith, p.room) in
          record {
            frame = requoted_frame at low fit f₁ f₂ f₃ f₄ (t.free + t.f) (omega (arith, k₀.behind)) (omega arith) (omega arith);
            says = λ m map x a b w.
                let k = seen x w a in
                let u = remade k.l k.h k.v in
                let s = measured k in
                let is = ap (fitting sexp_bytes t.f t.counter) (k.rule m) ∙ fitting_fits sexp_bytes t.f t.counter u (omega (arith, k.wide)) in
                gave u t.counter is (done_is k.ends (omega (arith, k.wide)) refl)
                (requoted at low fit f₁ f₂ f₃ f₄ k.l k.h k.l₂ k.v k.z k.valid k.starts k.place (omega arith));
          }
