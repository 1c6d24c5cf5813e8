-- The two S records of a form, memory after the names are drawn, and what a case then tells. Assumes nothing.
use mathlib.Core.Bool.{true}
use mathlib.Core.Path.{◌≡◌, refl, ap, sym, subst, ◌∙◌}
use mathlib.Core.List.{List, []}
use native.Mathlib.Omega.{arith}
use Prim.Native.Nat.{ℕ, ◌+◌, ◌*◌, ◌-◌, ◌≤◌}
use Prim.Native.String.{String}
use lib.ListN.{length, take, drop, length-drop}
use lib.Seq.{take_all}
use Rattle.names.specs.Maps.{NameMap, map_bytes}
use Rattle.names.specs.Names.{Bytes, ascii, same}
use Rattle.names.specs.declared.Refusal.{Refusal}
use Rattle.names.specs.Segments.{At}
use Rattle.names.proofs.Frames.{at_below}
use Rattle.names.proofs.Parts.{at_from_part, at_part, part}
use Rattle.names.proofs.Places.{at_from_take, at_place, at_whole}
use Rattle.records.specs.Limits.{cons_limit}
use Rattle.records.specs.Opened.{Opened, opened, closed, open_input}
use Rattle.records.specs.Records.{Loc, Sexp, Body, BL, BQ, BV, BC, BM, BF, []ʰ, ◌∷ʰ◌, Form, CF, sexp_bytes, body_bytes, helpers_bytes, helpers_count, form_bytes, record_bytes}
use Rattle.records.specs.declared.Step.{Step}
use Rattle.records.specs.Scan.{mark_index, body_marks, opening_of, wanted_reader}
use Rattle.records.specs.Valid.{AreBytes, SexpFields, cons_depth, BodyFields, FormFields, ValidForm}
use Rattle.std.specs.Prelude.{Ok}
use Rattle.records.specs.declared.Wanted.TheVariants.{Form as a_whole_form}
use Rattle.records.proofs.Accepted.{form_format, opened_valid}
use Rattle.records.proofs.Opened.{OpenedFrom, start}
use Rattle.records.specs.Views.{SeesForm, SeesValue}
use Rattle.records.specs.declared.FormView.{FormView}
use Rattle.records.proofs.AnySexp.{mark_of}
use Rattle.records.proofs.Views.{first_of, rest_of}
use Rattle.walk.specs.Arena.{MapAt, Substitutes, fitting}
use Rattle.walk.specs.DrawnMaps.{Roomy, Drawable, InventsFrom, InventsSexp}
use Rattle.walk.specs.declared.Growth.{Growth}
use Rattle.walk.proofs.InventSexps.{roomy_part, moved, invents_part}
use Rattle.walk.proofs.MapLaws.{no_map}
use Rattle.walk.proofs.OnParts.{from, rejoin, part_gives}
use Rattle.replay_sexps.specs.Cases.{Taken, FormIn, SexpsIn, Ready, Holds, due_step, DueGrowth, ruled, Renamed, Tells, TellsDrawn, AsTold, CaseForm}
use Rattle.replays.proofs.Deciding.{decides_same}
use Rattle.replay_sexps.proofs.Comparing.{step_tells}
use Rattle.replay_sexps.specs.declared.sexps.Case.{Case}
use Rattle.std.specs.declared.result.Result.{Result}
use Rattle.std.specs.declared.result.Result.TheVariants.{Ok, Err}

-- an input that is accepted is a form
pub taken : (F work c : ℕ) (input : Bytes) → AreBytes input → Ok tt ≡ opening_of (open_input (wanted_reader a_whole_form).1 F work c input)
    → Taken input c × ((f : Form) × ValidForm f × (input ≡ form_bytes f))
taken F work c input ok e = go (open_input (wanted_reader a_whole_form).1 F work c input) refl e
  where
    go : (o : Opened Form) → open_input (wanted_reader a_whole_form).1 F work c input ≡ o → Ok tt ≡ opening_of o
        → Taken input c × ((f : Form) × ValidForm f × (input ≡ form_bytes f))
    go (opened f) q z =
        let u = opened_valid form_format F work c input f ok q in
        let st : OpenedFrom (wanted_reader a_whole_form).1 F c input f = rw q at (start (wanted_reader a_whole_form).1 F work c input) in
        (record { short = omega (arith, st.size, st.longest); counts = st.counter }, (f, u.0, u.2))
    go (closed r) q z = let no : ◌≡◌ {A = ℕ} 0 1 = cc in absurd (omega (arith, no))

-- and stands at its start
pub form_in : {input : Bytes} {f : Form} → ValidForm f → input ≡ form_bytes f → FormIn input f
form_in {input} v e = record { valid = v; there = rw (← e) (at_whole input) }

-- a form without helpers: its args, and its body
pub record Bare (input : Bytes) (a b : ℕ) (f : Form) : Type 0 where
  pub loc : Loc
  pub raw : Bytes
  pub args : Sexp
  pub fields : SexpFields args
  pub deep : cons_depth args ≤ cons_limit
  pub there : At input a (sexp_bytes args)
  pub body : Body
  pub body_fields : BodyFields body
  pub body_there : At input b (body_bytes body)
  pub is : f ≡ CF loc raw args []ʰ body

pub bare : {input : Bytes} {v : FormView} → SeesForm input v → v.count ≡ 0 → (f : Form) → FormIn input f → Bare input v.args v.first f
unfolding FormFields helpers_count helpers_bytes
bare {input} {v} see z (CF l r a []ʰ b) h =
    let w = see.sees l r a []ʰ b h.valid h.there in
    record {
      loc = l;
      raw = r;
      args = a;
      fields = h.valid.0.2.0;
      deep = h.valid.0.2.1;
      there = w.args;
      body = b;
      body_fields = h.valid.0.5;
      body_there = at_place v.first (omega arith) (first_of (rest_of w.rest));
      is = refl;
    }
bare {input} {v} see z (CF l r a (x ∷ʰ hs) b) h = let w = see.sees l r a (x ∷ʰ hs) b h.valid h.there in absurd (omega (arith, w.count))

-- a body that is a BV
pub two : {input : Bytes} {a b q : ℕ} {f : Form} → Bare input a b f → 2 ≡ mark_index (take 2 (drop 0 (part input b (length input - b)))) body_marks
    → SeesValue (part input b (length input - b)) q → (p : Sexp) × (t : Sexp) × CaseForm f p t × SexpsIn input a (b + q) p t
unfolding body_bytes BodyFields ascii mark_index same
two {input} {a} {b} {q} {f} w e see = go w.body refl w.body_fields w.body_there
  where
    s : Bytes
    s = part input b (length input - b)

    into : {bs : Bytes} → At input b bs → At s 0 bs
    into z = at_part b (length input - b) z (omega arith) (omega (arith, z.fits))

    -- the place of the body's mark
    marked : (n : String) (fs : List Bytes) → length (ascii n) ≡ 2 → At input b (record_bytes n fs) → 2 ≡ mark_index (ascii n) body_marks
    marked n fs l z = e ∙ ap (λ (x : Bytes). mark_index x body_marks) (mark_of n fs l (into z))

    go : (x : Body) → w.body ≡ x → BodyFields x → At input b (body_bytes x) → (p : Sexp) × (t : Sexp) × CaseForm f p t × SexpsIn input a (b + q) p t
    go (BL m l n h bs x) y v z = absurd (omega (arith, marked "BL" _ refl z))
    go (BQ x) y v z = absurd (omega (arith, marked "BQ" _ refl z))
    go (BV x) y v z = (
      w.args,
      x,
      record { loc = w.loc; raw = w.raw; is = w.is ∙ ap (λ (o : Body). CF w.loc w.raw w.args []ʰ o) y },
      record {
        pattern_fields = w.fields;
        pattern_deep = w.deep;
        pattern = w.there;
        target_valid = v;
        target = at_from_part b (length input - b) (omega (arith, z.fits)) (see x (into z));
      },
    )
    go (BC l bs t) y v z = absurd (omega (arith, marked "BC" _ refl z))
    go (BM l g) y v z = absurd (omega (arith, marked "BM" _ refl z))
    go (BF l n ca cs t x) y v z = absurd (omega (arith, marked "BF" _ refl z))

-- the map of a case, at the end of memory, is the map that stands there
pub same_map : {mem : Bytes} {len : ℕ} {m : NameMap} (map : Bytes) → MapAt mem len m → len ≡ length map → At mem (length mem - length map) map
    → map_bytes m ≡ map
same_map {mem} map h e z =
    let end = drop (length mem - length map) mem in
    let all : take (length map) end ≡ end = take_all (length map) end (omega (arith, length-drop (length mem - length map) mem, z.fits)) in
    sym h.there ∙ ap (λ (k : ℕ). drop (length mem - k) mem) e ∙ sym all ∙ z.there

-- the input of a case stands at the front of memory
module _ {input mem : Bytes} {a b : ℕ} {p t : Sexp} (c : Case) (k : Taken input c.counter) (h : SexpsIn input a b p t)
    (fits : 4 * length input + c.room ≤ length mem) (front : At mem 0 input) where
  in_memory : {i : ℕ} {bs : Bytes} → At input i bs → At mem i bs
  in_memory z = at_from_take (length input) (rw front.there z)

  roomy : Roomy p mem a 0 c.counter
  roomy =
      record {
        fields = h.pattern_fields;
        there = in_memory h.pattern;
        fits = omega (arith, h.pattern.fits);
        counts = omega (arith, h.pattern.fits, k.short, k.counts);
      }

  -- what Invent asks of memory from the pattern on
  pub drawable : Drawable (from mem a) 0 c.counter cons_limit
  drawable = record { t = p; room = roomy_part roomy; deep = h.pattern_deep; m = []; map_at = no_map }

  -- what it answers, said of all memory
  drawn : {y : Bytes} {r : Result Growth Refusal} → InventsSexp (from mem a) y 0 0 c.counter r
      → InventsFrom mem (rejoin mem a y) a 0 c.counter p [] (moved a r)
  drawn {y} {r} i = invents_part mem a y r i p roomy [] no_map

  -- the map that it leaves
  pub ready : {y : Bytes} {g : Growth} → InventsSexp (from mem a) y 0 0 c.counter (Ok g)
      → (m : NameMap) × Ready (rejoin mem a y) (length input) b g.len c.room t m
  ready i =
      let d = drawn i in
      let within = h.pattern.fits in
      let most = d.draws.at_most in (
        d.draws.value,
        record {
          valid = h.target_valid;
          there = at_below d.grown.frame (in_memory h.target) (omega (arith, h.target.fits));
          within = h.target.fits;
          map = d.draws.map_at;
          fits = omega (arith, d.grown.frame.size);
        },
      )

  -- a case tells what is drawn and then substituted
  pub tells_drawn : (map wanted : Bytes) {y : Bytes} {g : Growth} {end : ℕ}
      → InventsSexp (from mem a) y 0 0 c.counter (Ok g) → c.invented ≡ Ok tt → DueGrowth c.after a end (length map) g
      → Holds (rejoin mem a y) input (length input) map → Renamed c (rejoin mem a y) (length input) b g.len wanted
      → AsTold c map wanted p t
  unfolding ready
  tells_drawn map wanted i z due held r =
      let d = drawn i in
      let w = ready i in
      let e = ap (λ (x : Growth). x.counter) due.is in
      let l = ap (λ (x : Growth). x.len) due.is in
      subst (TellsDrawn c map wanted t) (sym (d.draws.runs 0)) (z, e, same_map map d.draws.map_at l held.end, r t w.0 w.1)

  -- a case tells that drawing is refused
  pub tells_refused : (map wanted : Bytes) {y : Bytes} {r : Refusal} → InventsSexp (from mem a) y 0 0 c.counter (Err r)
      → c.invented ≡ Err r → AsTold c map wanted p t
  tells_refused map wanted i e =
      let d = drawn i in
      subst (TellsDrawn c map wanted t) (sym (d.draws.runs 0)) (e ∙ ap Err d.draws.is)

-- a case tells what its rule answers of the S record, from its place on
pub tells_renamed : (c : Case) (wanted : Bytes) {mem y : Bytes} {n at len : ℕ} {t : Sexp} {m : NameMap}
    {step : Result Step Refusal} → Ready mem n at len c.room t m
    → Substitutes (ruled c.rule) (from mem at) y
    (record { free = n - at; map = len; f = c.room; depth = cons_limit; counter = c.after }) step
    → step ≡ due_step c.substituted (n - at) (length wanted) c.after
    → true ≡ same (take (length wanted) (drop n (rejoin mem at y))) wanted
    → Tells c.substituted c.after wanted (fitting sexp_bytes c.room c.after (ruled c.rule m t))
tells_renamed c wanted {mem} {y} {n} {at} {t = t} r s due there =
    let w = r.within in
    let g = part_gives at (omega (arith, r.fits)) s n (omega arith) r.map t r.there (omega arith) r.valid.0 in
    step_tells c.substituted (n - at) c.after n wanted (rejoin mem at y) g due ((decides_same _ _).only (sym there))
