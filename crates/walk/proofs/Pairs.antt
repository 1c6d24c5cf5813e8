-- An SC part by part, where the parts go on. Assumes nothing.
use mathlib.Core.Path.{◌≡◌, refl, sym, ap, subst, ◌∙◌}
use mathlib.Core.List.{◌++◌, flatten, append_assoc, append-nil}
use native.Mathlib.Omega.{arith}
use Prim.Native.Nat.{ℕ, ◌+◌, ◌-◌, ◌≤◌, ◌<◌}
use lib.ListN.{length, drop, length-append}
use Rattle.names.specs.Maps.{NameMap}
use Rattle.names.specs.Names.{Bytes, ascii}
use Rattle.names.specs.Segments.{At, SameOutside, Filled}
use Rattle.names.specs.declared.Refusal.{Refusal}
use Rattle.names.proofs.Frames.{same_refl, same_then, at_below, copied_at}
use Rattle.names.proofs.Places.{at_place, at_left, at_right, at_join}
use Rattle.records.specs.StepAnswer.{Outcome, gives, refuses, Gives, gave, refused}
use Rattle.records.proofs.StepAnswers.{unmade}
use Rattle.records.specs.Records.{head_width, Loc, Sexp, SC, sexp_bytes, record_bytes}
use Rattle.records.specs.Valid.{ValidLoc, SexpFields, cons_depth}
use Rattle.records.specs.declared.Step.{Step}
use Rattle.walk.specs.Arena.{MapAt, Asks, Held, fitting, Substitutes}
use Rattle.walk.specs.Steps.{over_long}
use Rattle.walk.specs.Plans.{PairAtStart}
use Rattle.walk.proofs.Fits.{fitting_fits, fitting_long, refused_long, given, done_is}
use Rattle.walk.specs.declared.Task.{Task}
use Rattle.walk.proofs.MapLaws.{map_after}
use Rattle.walk.proofs.OnParts.{from, rejoin, asks_part, part_frame, part_gives}
use Rattle.std.specs.declared.result.Result.{Result}
use Rattle.std.specs.declared.result.Result.TheVariants.{Err}
use Rattle.records.specs.StepAnswer.{step_of}

-- an SC and where its parts stand
pub record Cons (s : Bytes) (l : Loc) (h u : Sexp) : Type 0 where
  pub fields_h : SexpFields h
  pub fields_u : SexpFields u
  pub head : At s 0 (ascii "SC" ++ l)
  pub width : length (ascii "SC" ++ l) ≡ head_width
  pub left : At s head_width (sexp_bytes h)
  pub right : At s (head_width + length (sexp_bytes h)) (sexp_bytes u)

cons_bytes : (l : Loc) (h u : Sexp) → sexp_bytes (SC l h u) ≡ (ascii "SC" ++ l) ++ (sexp_bytes h ++ sexp_bytes u)
unfolding sexp_bytes record_bytes flatten
cons_bytes l h u = simp (append_assoc, append-nil)

pub cons_width : (l : Loc) → ValidLoc l → length (ascii "SC" ++ l) ≡ head_width
unfolding ascii
cons_width l w = omega arith

pub cons_length : (l : Loc) (h u : Sexp) → length (ascii "SC" ++ l) ≡ head_width
    → length (sexp_bytes (SC l h u)) ≡ head_width + (length (sexp_bytes h) + length (sexp_bytes u))
cons_length l h u w =
    omega (arith, ap length (cons_bytes l h u), length-append (ascii "SC" ++ l) (sexp_bytes h ++ sexp_bytes u), length-append (sexp_bytes h) (sexp_bytes u))

pub cons : {s : Bytes} (l : Loc) (h u : Sexp) → SexpFields (SC l h u) → At s 0 (sexp_bytes (SC l h u)) → Cons s l h u
unfolding SexpFields
cons {s} l h u w a =
    let hw = cons_width l w.0 in
    let b = subst (At s 0) (cons_bytes l h u) a in
    let r = at_place head_width (omega arith) (at_right (ascii "SC" ++ l) (sexp_bytes h ++ sexp_bytes u) b) in
    record {
      fields_h = w.1;
      fields_u = w.2;
      width = hw;
      head = at_left (ascii "SC" ++ l) (sexp_bytes h ++ sexp_bytes u) b;
      left = at_left (sexp_bytes h) (sexp_bytes u) r;
      right = at_right (sexp_bytes h) (sexp_bytes u) r;
    }

-- the parts of an SC nest less deep
pub cons_deeper : (l : Loc) (h u : Sexp) → (cons_depth h < cons_depth (SC l h u)) × (cons_depth u < cons_depth (SC l h u))
unfolding cons_depth
cons_deeper l h u = (omega arith, omega arith)

-- what the first part is given, and the second after hr bytes were read and hw written
abbrev pub head_task : Task → Task
head_task t = record { free = t.free; map = t.map; f = t.f - head_width; depth = t.depth - 1; counter = t.counter }

abbrev pub tail_task : Task → ℕ → ℕ → ℕ → Task
tail_task t hr hw c =
    record { free = t.free + (head_width + hw) - (head_width + hr); map = t.map; f = t.f - (head_width + hw); depth = t.depth - 1; counter = c }

module _ (rule : NameMap → Sexp → Sexp) where
  -- what comes of t where f bytes are left
  abbrev outcome : ℕ → ℕ → NameMap → Sexp → Outcome Sexp
  outcome f c m t = fitting sexp_bytes f c (rule m t)

  -- an SC at the start whose parts go on
  pub record Pair (mem : Bytes) (t : Sexp) : Type 0 where
    pub l : Loc
    pub h : Sexp
    pub u : Sexp
    pub goes : (m : NameMap) → rule m t ≡ SC l (rule m h) (rule m u)
    pub parts : Cons mem l h u
    pub size : length (sexp_bytes t) ≡ head_width + (length (sexp_bytes h) + length (sexp_bytes u))
    pub deeper_h : cons_depth h < cons_depth t
    pub deeper_u : cons_depth u < cons_depth t

  pub pair_of : {mem : Bytes} → PairAtStart rule mem → (t : Sexp) → SexpFields t → At mem 0 (sexp_bytes t) → Pair mem t
  pair_of {mem} ps t w a =
      let g = ps.goes t w a in
      let k = cons g.l g.h g.u (subst SexpFields g.is w) (subst (λ (x : Sexp). At mem 0 (sexp_bytes x)) g.is a) in
      record {
        l = g.l;
        h = g.h;
        u = g.u;
        goes = g.makes;
        parts = k;
        size = ap (λ (x : Sexp). length (sexp_bytes x)) g.is ∙ cons_length g.l g.h g.u k.width;
        deeper_h = omega (arith, ap cons_depth g.is, (cons_deeper g.l g.h g.u).0);
        deeper_u = omega (arith, ap cons_depth g.is, (cons_deeper g.l g.h g.u).1);
      }

  -- what is made of it
  module _ {mem : Bytes} {t : Sexp} (v : Pair mem t) (m : NameMap) where
    abbrev result : Sexp
    result = SC v.l (rule m v.h) (rule m v.u)

    abbrev result_size : ℕ
    result_size = head_width + (length (sexp_bytes (rule m v.h)) + length (sexp_bytes (rule m v.u)))

    whole_size : length (sexp_bytes result) ≡ result_size
    whole_size = cons_length v.l (rule m v.h) (rule m v.u) v.parts.width

    whole_long : (f c : ℕ) → f < result_size → outcome f c m t ≡ refuses over_long
    whole_long f c lt = ap (fitting sexp_bytes f c) (v.goes m) ∙ fitting_long sexp_bytes f c result (omega (arith, whole_size))

    whole_fits : (f c : ℕ) → result_size ≤ f → outcome f c m t ≡ gives result c
    whole_fits f c le = ap (fitting sexp_bytes f c) (v.goes m) ∙ fitting_fits sexp_bytes f c result (omega (arith, whole_size))

  pub no_room : {mem : Bytes} {t : Task} {r : Result Step Refusal} → PairAtStart rule mem → r ≡ Err over_long → t.f < head_width → Substitutes rule mem mem t r
  no_room {t = t} ps is lt =
      record { frame = same_refl; says = λ m at s a b w. refused over_long (whole_long (pair_of ps s w a) m t.f t.counter (omega arith)) is }

  -- after the first part: b holds what the memory held, the mark and the L at free, and the first part's result after them
  record One (mem b : Bytes) (t : Task) (r : Result Step Refusal) : Type 0 where
    frame : SameOutside mem b t.free (t.free + t.f)
    head : (bs : Bytes) → At mem 0 bs → length bs ≡ head_width → At b t.free bs
    says : (m : NameMap) → MapAt mem t.map m → (h : Sexp) → SexpFields h → At mem head_width (sexp_bytes h) → head_width + length (sexp_bytes h) ≤ t.free
        → Gives sexp_bytes b (t.free + head_width) (length (sexp_bytes h)) (outcome (t.f - head_width) t.counter m h) r

  -- the first part is there, and the second is next
  pub record First (b : Bytes) (t : Task) (h u : Sexp) (m : NameMap) (hr hw d : ℕ) : Type 0 where
    pub read : hr ≡ length (sexp_bytes h)
    pub wrote : hw ≡ length (sexp_bytes (rule m h))
    pub counter : d ≡ t.counter
    pub short : head_width + hw ≤ t.f
    pub out : At b (t.free + head_width) (sexp_bytes (rule m h))
    pub tail : At b (head_width + hr) (sexp_bytes u)
    pub below : head_width + hr + length (sexp_bytes u) ≤ t.free

  -- an SC at the start
  module _ {mem : Bytes} {t : Task} (ps : PairAtStart rule mem) (p : Asks sexp_bytes (Held t.depth) mem t) where
    pub view : Pair mem p.tree
    view = pair_of ps p.tree p.good.fields p.there

    pub low : head_width ≤ t.free
    low = omega (arith, view.size, p.below)

    pub levels : 1 ≤ t.depth
    levels = omega (arith, view.deeper_h, p.good.conses)

    -- its mark and its L are copied
    module _ {a : Bytes} (w : Filled mem a t.free (drop 0 mem) head_width) (le : head_width ≤ t.f) where
      pub head_asks : Asks sexp_bytes (Held (t.depth - 1)) (from a head_width) (head_task t)
      head_asks =
          let v = view in
          let l = low in
          let z = w.frame.size in
          asks_part head_width v.h (record { fields = v.parts.fields_h; conses = omega (arith, v.deeper_h, p.good.conses) })
          (at_below w.frame v.parts.left (omega (arith, v.size, p.below))) (omega (arith, v.size, p.below))
          (map_after w.frame (omega (arith, p.room)) p.map) (omega (arith, p.room))

      -- the first part is answered
      module _ {y : Bytes} {r : Result Step Refusal} (s : Substitutes rule (from a head_width) y (head_task t) r) where
        abbrev middle : Bytes
        middle = rejoin a head_width y

        fit : head_width + t.free + (t.f - head_width) + t.map ≤ length a
        fit = omega (arith, w.frame.size, p.room)

        one : One mem middle t r
        one =
            let frame = part_frame head_width fit s (t.free + head_width) (t.free + t.f) (omega arith) (omega arith) in
            record {
              frame = same_then t.free (t.free + t.f) (omega arith) (omega arith) (omega arith) (omega arith) w.frame frame;
              head = λ bs h l. at_below frame (copied_at 0 t.free w (omega (arith, p.room)) h (omega arith) (omega arith) (omega arith)) (omega arith);
              says = λ m map h fine there below.
                  part_gives head_width fit s (t.free + head_width) (omega arith) (map_after w.frame (omega (arith, p.room)) map) h
                  (at_below w.frame there below) (omega arith) fine;
            }

        pub first_refused : (k : Refusal) → r ≡ Err k → Substitutes rule mem middle t (Err k)
        first_refused k e =
            record {
              frame = one.frame;
              says = λ m map x there below fine.
                  let v = pair_of ps x fine there in
                  let g = one.says m map v.h v.parts.fields_h v.parts.left (omega (arith, v.size)) in
                  let n = refused_long sexp_bytes (t.f - head_width) t.counter (rule m v.h) k (unmade k e g) in
                  refused k (whole_long v m t.f t.counter (omega (arith, n.long)) ∙ cc n.is) refl;
            }

        -- the first part is done
        module _ {hr hw d : ℕ} (e : r ≡ step_of hr hw d) where
          first : {m : NameMap} {x : Sexp} → MapAt mem t.map m → (v : Pair mem x) → length (sexp_bytes x) ≤ t.free → First middle t v.h v.u m hr hw d
          first {m} map v below =
              let said = one.says m map v.h v.parts.fields_h v.parts.left (omega (arith, v.size)) in
              let g = given (t.f - head_width) t.counter (rule m v.h) hr hw d e said in
              record {
                read = g.read;
                wrote = g.wrote;
                counter = g.counter;
                short = omega (arith, g.wrote, g.short);
                out = g.out;
                tail = at_place (head_width + hr) (omega (arith, g.read)) (at_below one.frame v.parts.right (omega (arith, v.size)));
                below = omega (arith, v.size, g.read);
              }

          pub first_done : First middle t view.h view.u p.m hr hw d
          first_done = first p.map view p.below

          tail_fit : head_width + hr + (t.free + (head_width + hw) - (head_width + hr)) + (t.f - (head_width + hw)) + t.map ≤ length middle
          tail_fit = let k = first_done in omega (arith, one.frame.size, k.below, k.short, p.room)

          pub tail_asks : Asks sexp_bytes (Held (t.depth - 1)) (from middle (head_width + hr)) (tail_task t hr hw d)
          tail_asks =
              let k = first_done in
              asks_part (head_width + hr) view.u (record { fields = view.parts.fields_u; conses = omega (arith, view.deeper_u, p.good.conses) })
              k.tail (omega (arith, k.below)) (map_after one.frame (omega (arith, p.room)) p.map) tail_fit

          -- the second part is answered
          module _ {z : Bytes} {r₂ : Result Step Refusal} (s₂ : Substitutes rule (from middle (head_width + hr)) z (tail_task t hr hw d) r₂) where
            abbrev read : ℕ
            read = head_width + hr

            abbrev wrote : ℕ
            wrote = head_width + hw

            abbrev end : Bytes
            end = rejoin middle read z

            tail_frame : SameOutside middle end (t.free + wrote) (t.free + t.f)
            tail_frame = let k = first_done in part_frame read tail_fit s₂ (t.free + wrote) (t.free + t.f) (omega (arith, k.below)) (omega (arith, k.below, k.short))

            second_frame : SameOutside mem end t.free (t.free + t.f)
            second_frame =
                let k = first_done in
                same_then t.free (t.free + t.f) (omega arith) (omega arith) (omega arith) (omega (arith, k.short)) one.frame tail_frame

            gave_second : {m : NameMap} {x : Sexp} → MapAt mem t.map m → (v : Pair mem x) → length (sexp_bytes x) ≤ t.free
                → Gives sexp_bytes end (t.free + wrote) (length (sexp_bytes v.u)) (outcome (t.f - wrote) d m v.u) r₂
            gave_second map v below =
                let i = first map v below in
                part_gives read tail_fit s₂ (t.free + wrote) (omega (arith, i.below)) (map_after one.frame (omega (arith, p.room)) map) v.u i.tail
                (omega (arith, i.below)) v.parts.fields_u

            pub second_refused : (k : Refusal) → r₂ ≡ Err k → Substitutes rule mem end t (Err k)
            second_refused k q =
                record {
                  frame = second_frame;
                  says = λ m map x there below fine.
                      let v = pair_of ps x fine there in
                      let i = first map v below in
                      let n = refused_long sexp_bytes (t.f - wrote) d (rule m v.u) k (unmade k q (gave_second map v below)) in
                      refused k (whole_long v m t.f t.counter (omega (arith, n.long, i.wrote)) ∙ cc n.is) refl;
                }

            -- and done
            module _ {tr tw d₂ : ℕ} (q : r₂ ≡ step_of tr tw d₂) where
              pub second_fits : (read + tr ≤ t.free) × (wrote + tw ≤ t.f)
              second_fits =
                  let i = first_done in
                  let g = given (t.f - wrote) d (rule p.m view.u) tr tw d₂ q (gave_second p.map view p.below) in
                  (omega (arith, i.below, g.read), omega (arith, i.short, g.short, g.wrote))

              pub both_done : Substitutes rule mem end t (step_of (read + tr) (wrote + tw) d₂)
              both_done = record { frame = second_frame; says = says }
                where
                  says : (m : NameMap) → MapAt mem t.map m → (x : Sexp) → At mem 0 (sexp_bytes x) → length (sexp_bytes x) ≤ t.free → SexpFields x
                      → Gives sexp_bytes end t.free (length (sexp_bytes x)) (outcome t.f t.counter m x) (step_of (read + tr) (wrote + tw) d₂)
                  says m map x there below fine =
                      let v = pair_of ps x fine there in
                      let i = first map v below in
                      let g = given (t.f - wrote) d (rule m v.u) tr tw d₂ q (gave_second map v below) in
                      let mark = ascii "SC" ++ v.l in
                      let hb = sexp_bytes (rule m v.h) in
                      let ub = sexp_bytes (rule m v.u) in
                      let first_there = at_below tail_frame i.out (omega (arith, i.wrote)) in
                      let parts = at_join hb ub first_there (at_place (t.free + head_width + length hb) (omega (arith, i.wrote)) g.out) in
                      let marked = at_below tail_frame (one.head mark v.parts.head v.parts.width) (omega (arith, v.parts.width)) in
                      let bytes = at_join mark (hb ++ ub) marked (at_place (t.free + length mark) (omega (arith, v.parts.width)) parts) in
                      gave (result v m) t.counter (whole_fits v m t.f t.counter (omega (arith, i.wrote, i.short, g.short)))
                      (done_is (omega (arith, v.size, i.read, g.read)) (omega (arith, whole_size v m, i.wrote, g.wrote)) (g.counter ∙ i.counter))
                      (subst (At end t.free) (sym (cons_bytes v.l (rule m v.h) (rule m v.u))) bytes)
