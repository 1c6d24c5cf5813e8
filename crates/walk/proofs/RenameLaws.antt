-- From the input of a call to its answer: an input that is accepted is a record that its walk takes, and what the walk leaves in work memory is what the call
-- answers. Assumes nothing.
use mathlib.Core.Path.{◌≡◌, refl, ap, sym, subst, ◌∙◌}
use mathlib.Core.Bool.{true}
use mathlib.Core.List.{List, []}
use native.Mathlib.Omega.{arith}
use Prim.Native.Nat.{ℕ, ◌*◌, ◌-◌, ◌^◌, ◌≤◌}
use lib.ListN.{length, take}
use Rattle.names.specs.CallAnswer.{CallResult, refused_answer, delivered, max_counter}
use Rattle.names.specs.Names.{Bytes}
use Rattle.names.specs.Segments.{At, Filled}
use Rattle.names.specs.declared.Refusal.{Refusal}
use Rattle.names.proofs.Frames.{filled_at}
use Rattle.names.proofs.Parts.{part, into}
use Rattle.names.proofs.Places.{at_whole}
use Rattle.records.specs.StepAnswer.{gives, refuses, Gives, step_of}
use Rattle.records.specs.Limits.{level_limit, most_longest, work_factor}
use Rattle.records.specs.Opened.{Opened, opened, closed, open_input}
use Rattle.records.specs.Read.{readers}
use Rattle.records.specs.ReadFields.{Reader}
use Rattle.records.specs.Scan.{opening_of, wanted_reader}
use Rattle.records.specs.Valid.{AreBytes, HelperNoMod, FormNoMod}
use Rattle.std.specs.Prelude.{Ok, Err, Result as Res}
use Rattle.records.specs.declared.Step.{Step}
use Rattle.records.specs.declared.Wanted.{Wanted}
use Rattle.records.specs.declared.Zone.{Zone}
use Rattle.records.specs.declared.Zone.TheVariants.{Plain}
use Rattle.records.proofs.Accepted.{Format, form_format, helper_format, opened_valid}
use Rattle.records.proofs.Opened.{OpenedFrom, work_within, start}
use Rattle.records.proofs.StepAnswers.{Made, made, unmade}
use Rattle.walk.specs.Arena.{outcome}
use Rattle.walk.specs.Assigns.{AssignsOrdered}
use Rattle.walk.specs.Calls.{answered, call_run, whole_run, children_run, helper_run, whole_call, children_call, helper_call}
use Rattle.walk.specs.Draws.{dbl, counter_most}
use Rattle.walk.specs.FormWalks.{TreeOf, tree_bytes, tree_atoms, FineOf, FineTree, WalksTree, WalksChildren}
use Rattle.walk.specs.Helperforms.{whole_walk, children_walk, helper_walk}
use Rattle.walk.specs.Renaming.{call_by, wanted_by, read_by, walk_by, call_task, CallReady, WalksCall}
use Rattle.walk.specs.Room.{room}
use Rattle.walk.specs.Steps.{Out, refused as stopped, Visit}
use Rattle.walk.specs.declared.Request.{Request}
use Rattle.walk.specs.declared.Request.TheVariants.{WholeForm, ChildrenOnly, SingleHelper}
use Rattle.walk.specs.declared.Child.TheVariants.{Helperform, Compileform}
use Rattle.walk.specs.declared.Task.{Task}
use Rattle.walk.proofs.AgainCalls.{opened_limits}
use Rattle.walk.proofs.Atoms.{few_helper, few_form}
use Rattle.walk.proofs.MapLaws.{no_map}
use Rattle.walk.proofs.RunLaws.{ended, ended_stops}
use Rattle.walk.proofs.Sizes.{dbl_mono}
use Rattle.walk.proofs.TreeLaws.{tree_within}
use Rattle.std.specs.declared.result.Result.{Result}
use Rattle.std.specs.declared.result.Result.TheVariants.{Err}

-- the reader of a call
abbrev reader_by : (k : Request) → Reader (TreeOf (read_by k))
reader_by WholeForm = (readers level_limit).form
reader_by ChildrenOnly = (readers level_limit).form
reader_by SingleHelper = (readers level_limit).helper

-- a record that a call takes is its input, within the limits
pub record Taken (k : Request) (input : Bytes) (F work c : ℕ) : Type 0 where
  pub tree : TreeOf (read_by k)
  pub opens : open_input (reader_by k) F work c input ≡ opened tree
  pub fine : FineTree (read_by k) F level_limit tree
  pub is : input ≡ tree_bytes (read_by k) tree
  pub short : length input ≤ F
  pub longest : F ≤ most_longest
  pub counts : c ≤ max_counter
  pub enough : work_factor * F ≤ work

-- a record that is opened is fine, and the input is its bytes
module _ {A : Type 0} {m : Reader A} {bytes : A → Bytes} {Valid : A → Type 0} (Clear : Zone → A → Type 0) {levels : A → ℕ} (s : Format m bytes Valid (Clear Plain)) (l : (a : A) → Valid a → levels a ≤ level_limit) where
  fine_opened : (F work c : ℕ) (input : Bytes) (t : A) → AreBytes input → length input ≤ F → open_input m F work c input ≡ opened t
      → FineOf Valid Clear levels bytes F level_limit t × (input ≡ bytes t)
  fine_opened F work c input t ok le e =
      let u = opened_valid s F work c input t ok e in
      (record { valid = u.0; zone = Plain; clear = u.1; deep = l t u.0; short = rw u.2 at le }, u.2)

-- so of each call
fine_by : (k : Request) (F work c : ℕ) (input : Bytes) (t : TreeOf (read_by k)) → AreBytes input → length input ≤ F → open_input (reader_by k) F work c input ≡ opened t
    → FineTree (read_by k) F level_limit t × (input ≡ tree_bytes (read_by k) t)
fine_by WholeForm = fine_opened FormNoMod form_format (λ a v. v.1)
fine_by ChildrenOnly = fine_opened FormNoMod form_format (λ a v. v.1)
fine_by SingleHelper = fine_opened HelperNoMod helper_format (λ a v. v.1)

-- the opening of a call's input is that of its reader
opening_by : (k : Request) (F work c : ℕ) (input : Bytes) {w : Wanted} {r : Res (Unit {0}) Refusal} → w ≡ wanted_by k → r ≡ opening_of (open_input (wanted_reader w).1 F work c input)
    → r ≡ opening_of (open_input (reader_by k) F work c input)
opening_by WholeForm F work c input p e = rw p at e
opening_by ChildrenOnly F work c input p e = rw p at e
opening_by SingleHelper F work c input p e = rw p at e

-- a call answers its run
call_is : (k : Request) (F work c : ℕ) (input buffer : Bytes) → call_by k F work c input buffer ≡ answered (tree_bytes (read_by k)) c buffer (call_run (reader_by k) (walk_by k) F work c input)
unfolding whole_call children_call helper_call whole_run children_run helper_run
call_is WholeForm F work c input buffer = refl
call_is ChildrenOnly F work c input buffer = refl
call_is SingleHelper F work c input buffer = refl

module _ (k : Request) (F work c : ℕ) (input : Bytes) {w : Wanted} {r : Res (Unit {0}) Refusal} (p : w ≡ wanted_by k) (e : r ≡ opening_of (open_input (wanted_reader w).1 F work c input)) where
  -- an input that is accepted
  pub taken : AreBytes input → r ≡ Ok tt → Taken k input F work c
  taken ok is = go (open_input (reader_by k) F work c input) refl (sym is ∙ opening_by k F work c input p e)
    where
      go : (o : Opened (TreeOf (read_by k))) → open_input (reader_by k) F work c input ≡ o → Ok tt ≡ opening_of o → Taken k input F work c
      go (opened t) q z =
          let st : OpenedFrom (reader_by k) F c input t = rw q at (start (reader_by k) F work c input) in
          let f = fine_by k F work c input t ok st.size q in
          record {
            tree = t;
            opens = q;
            fine = f.0;
            is = f.1;
            short = st.size;
            longest = st.longest;
            counts = st.counter;
            enough = work_within F work c (opened_limits F work (reader_by k) c input t q);
          }
      go (closed r) q z = let no : ◌≡◌ {A = ℕ} 0 1 = cc in absurd (omega (arith, no))

  -- one that is refused
  pub call_refused : (q : Refusal) (buffer : Bytes) → r ≡ Err q → call_by k F work c input buffer ≡ refused_answer c buffer q
  unfolding call_run answered
  call_refused q buffer is = call_is k F work c input buffer ∙ go (open_input (reader_by k) F work c input) (sym is ∙ opening_by k F work c input p e)
    where
      go : (o : Opened (TreeOf (read_by k))) → Err q ≡ opening_of o
          → answered (tree_bytes (read_by k)) c buffer (elim o as (λ _. Out (TreeOf (read_by k))) [ closed r ↦ stopped [] r | opened a ↦ walk_by k F a c 0 ]) ≡ refused_answer c buffer q
      go (opened t) z = let no : ◌≡◌ {A = ℕ} 0 1 = cc in absurd (omega (arith, no))
      go (closed r) z = let same : r ≡ q = cc in ap (refused_answer c buffer) same

-- no walk draws more numbers than this
all_draws : dbl level_limit most_longest ≤ 2 ^ 46
unfolding dbl
all_draws = omega arith

-- the atoms of a record are no more than its bytes
few_by : (k : Request) (t : TreeOf (read_by k)) → tree_atoms (read_by k) t ≤ length (tree_bytes (read_by k) t)
few_by WholeForm t = few_form t
few_by ChildrenOnly t = few_form t
few_by SingleHelper t = few_helper t

-- what a run gives is delivered, and its refusal is the call's
answered_gives : {A : Type 0} (bytes : A → Bytes) (c : ℕ) (buffer : Bytes) (o : Out A) (u : A) (c' : ℕ) → outcome o ≡ gives u c' → answered bytes c buffer o ≡ delivered c buffer (bytes u) c'
unfolding answered
answered_gives bytes c buffer o u c' e = ap (answered bytes c buffer) (ended o e).1.1

answered_refuses : {A : Type 0} (bytes : A → Bytes) (c : ℕ) (buffer : Bytes) (o : Out A) (q : Refusal) → outcome o ≡ refuses q → answered bytes c buffer o ≡ refused_answer c buffer q
unfolding answered
answered_refuses bytes c buffer o q e = ap (answered bytes c buffer) (ended_stops o e).1

module _ (k : Request) {input : Bytes} {F c : ℕ} (work : Bytes) (t : Taken k input F (length work) c) where
  -- it is copied to the start of work memory
  pub copies : length input ≤ length work
  copies = omega (arith, t.short, t.enough)

  -- the call answers its walk
  ran : (buffer : Bytes) → call_by k F (length work) c input buffer ≡ answered (tree_bytes (read_by k)) c buffer (walk_by k F t.tree c 0)
  unfolding call_run
  ran buffer = call_is k F (length work) c input buffer ∙ rw (t.opens, call_run)

  module _ {old : Bytes} (f : Filled work old 0 input (length input)) where
    -- it stands there
    there : At old 0 (tree_bytes (read_by k) t.tree)
    there = rw (← t.is) (filled_at 0 f (omega (arith, copies)) (at_whole input) (omega arith) (omega arith))

    -- and the walk takes it there
    pub call_ready : CallReady k old (call_task (length input) F c)
    unfolding room counter_most
    call_ready = record {
      tree = t.tree;
      good = t.fine;
      there = there;
      below = omega (arith, ap length t.is);
      m = [];
      map = no_map;
      lone = λ _. refl;
      room = omega (arith, t.short, t.enough, f.frame.size);
      counts = omega (arith, t.counts, dbl_mono level_limit (tree_atoms (read_by k) t.tree) most_longest (omega (arith, few_by k t.tree, tree_within (read_by k) F level_limit t.tree t.fine, t.longest)), all_draws);
      longest = t.longest;
    }

    module _ {new : Bytes} {r : Result Step Refusal} (w : WalksCall k old new (call_task (length input) F c) r) where
      -- what the walk answers of it
      walked : Gives (tree_bytes (read_by k)) new (length input) (length (tree_bytes (read_by k) t.tree)) (outcome (walk_by k F t.tree c 0)) r
      walked = w.says [] no_map t.tree there (omega (arith, ap length t.is)) t.fine

      -- the input is no longer than work memory is then
      pub walked_long : length input ≤ length new
      walked_long = omega (arith, copies, w.frame.size, f.frame.size)

      -- a refusal is the call's
      pub walked_refuses : (q : Refusal) → r ≡ Err q → (buffer : Bytes) → refused_answer c buffer q ≡ call_by k F (length work) c input buffer
      walked_refuses q e buffer = sym (ran buffer ∙ answered_refuses (tree_bytes (read_by k)) c buffer (walk_by k F t.tree c 0) q (unmade q e walked))

      module _ (i n d : ℕ) (e : r ≡ step_of i n d) where
        -- what it gives
        got : Made (tree_bytes (read_by k)) new (length input) (length (tree_bytes (read_by k) t.tree)) (outcome (walk_by k F t.tree c 0)) i n d
        got = made i n d e walked

        -- the result stands within the part from free on
        pub walked_within : n ≤ length (part new (length input) (length new - length input))
        walked_within = omega (arith, got.wrote, (into got.out).fits)

        -- and what is delivered of it is what the call answers
        pub walked_answers : (buffer : Bytes) → delivered c buffer (take n (part new (length input) (length new - length input))) d ≡ call_by k F (length work) c input buffer
        walked_answers buffer =
            rw (got.wrote, (into got.out).there) (sym (ran buffer ∙ answered_gives (tree_bytes (read_by k)) c buffer (walk_by k F t.tree c 0) got.u d got.is))

-- the walk of a call that is known is by its rule
pub ready_by : (j : Request) {k : Request} {mem : Bytes} {t : Task} → k ≡ j → CallReady k mem t → CallReady j mem t
ready_by j {mem = mem} {t} e p = subst (λ (x : Request). CallReady x mem t) e p

module _ {k : Request} {old new : Bytes} {r : Result Step Refusal} (free F c : ℕ) where
  -- Whole form
  pub walks_whole : k ≡ WholeForm → WalksTree Compileform true old new (call_task free F c) r → WalksCall k old new (call_task free F c) r
  unfolding whole_walk
  walks_whole e w = rw e w

  -- Children only
  pub walks_children : k ≡ ChildrenOnly → WalksChildren old new (call_task free F c) r → WalksCall k old new (call_task free F c) r
  unfolding children_walk
  walks_children e w = rw e w

  -- Single helper
  pub walks_helper : k ≡ SingleHelper → WalksTree Helperform true old new (call_task free F c) r → WalksCall k old new (call_task free F c) r
  unfolding helper_walk
  walks_helper e w = rw e w

-- an answer that is a call's has what demand 3 says of the call's
pub told : {F : ℕ} {list : List Visit} {x y : CallResult} → x ≡ y → AssignsOrdered F list y.0.refusal → (x ≡ y) × AssignsOrdered F list x.0.refusal
told {F} {list} e p = (e, subst (λ (z : CallResult). AssignsOrdered F list z.0.refusal) (sym e) p)
