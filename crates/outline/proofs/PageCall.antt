-- The call Page by its steps: the input is refused or is a form, the form is indexed, and the page fits the buffer or not. Assumes nothing.
use mathlib.Core.Path.{◌≡◌, refl, sym, ap, ◌∙◌}
use borrow.Author.Tests.{le-leb, lt-leb}
use native.Mathlib.Omega.{arith}
use Prim.Native.Nat.{ℕ, ◌+◌, ◌*◌, ◌≤◌, ◌<◌}
use lib.ListN.{length}
use Rattle.names.specs.CallAnswer.{CallResult, accepted_answer, refused_answer, written}
use Rattle.names.specs.Names.{Bytes}
use Rattle.names.specs.Refusals.{placeless}
use Rattle.names.specs.declared.Reason.TheVariants.{ShortPage}
use Rattle.names.specs.declared.Refusal.{Refusal}
use Rattle.names.specs.Segments.{At}
use Rattle.names.specs.declared.Answer.{Answer}
use Rattle.names.proofs.Places.{at_whole}
use Rattle.records.specs.Limits.{level_limit, most_longest}
use Rattle.records.specs.Opened.{Opened, opened, closed, read_input}
use Rattle.records.specs.Read.{readers}
use Rattle.records.specs.Records.{Form, form_bytes}
use Rattle.records.specs.Scan.{opening_of}
use Rattle.records.specs.Valid.{AreBytes, FormFields}
use Rattle.std.specs.Prelude.{Ok, Err}
use Rattle.records.proofs.Accepted.{read_form}
use Rattle.outline.specs.declared.Counted.{Counted}
use Rattle.outline.specs.Outline.{outline_bytes, outline_records, form_outline}
use Rattle.outline.specs.Index.{nothing_around, entry_width}
use Rattle.outline.specs.Shape.{IndexRoom, Indexes}
use Rattle.outline.specs.Page.{line_width, page, laid_out, page_call}
use Rattle.outline.specs.PageWork.{Indexed}
use Rattle.outline.proofs.Lines.{page_long}
use Rattle.outline.proofs.Listed.{listing_counts}
use Rattle.outline.proofs.OutlineBytes.{form_outline_bytes}
use Rattle.outline.proofs.ShapedTrees.{shaped_form}

-- an input that is accepted is a form, and work memory has room for its index
pub record TakenForm (F work : ℕ) (input buffer : Bytes) : Type 0 where
  pub form : Form
  pub fields : FormFields form
  pub bytes : input ≡ form_bytes form
  pub short : length input ≤ most_longest
  pub room : entry_width * length input ≤ work
  pub is : page_call F work input buffer ≡ laid_out buffer form

module _ (F work : ℕ) (input buffer : Bytes) where
  -- a refused input
  pub page_call_refused : {r : Refusal} → Err r ≡ opening_of (read_input (readers level_limit).form F work 0 input) → page_call F work input buffer ≡ refused_answer 0 buffer r
  unfolding page_call
  page_call_refused {r} e = go (read_input (readers level_limit).form F work 0 input) e
    where
      go : (o : Opened Form) → Err r ≡ opening_of o → elim o as (λ _. CallResult) [ closed q ↦ refused_answer 0 buffer q | opened f ↦ laid_out buffer f ] ≡ refused_answer 0 buffer r
      go (opened f) q = cc
      go (closed p) q = cc

  -- an accepted one
  pub form_taken : AreBytes input → Ok tt ≡ opening_of (read_input (readers level_limit).form F work 0 input) → TakenForm F work input buffer
  unfolding page_call
  form_taken b e = go (read_input (readers level_limit).form F work 0 input) refl e
    where
      go : (o : Opened Form) → read_input (readers level_limit).form F work 0 input ≡ o → Ok tt ≡ opening_of o → TakenForm F work input buffer
      go (closed r) h e = let no : ◌≡◌ {A = ℕ} 0 1 = cc in absurd (omega (arith, no))
      go (opened f) h e =
          let t = read_form F work 0 input f b h in
          record { form = f; fields = t.1.0; bytes = t.0; short = omega (arith, t.2, t.3); room = omega (arith, t.2, t.4); is = rw (h, page_call) refl }

module _ {F work : ℕ} {input buffer : Bytes} (t : TakenForm F work input buffer) where
  -- what the index asks
  pub form_ready : {mem : Bytes} → length mem ≡ work → IndexRoom input mem nothing_around
  form_ready e = record { room = omega (arith, t.room); offset = omega (arith, t.short); depth = omega arith }

  module _ {mem mem' : Bytes} {c : Counted} (x : Indexes input mem mem' nothing_around c) where
    -- what it says
    pub form_indexed : Indexed input mem' c.count t.form
    form_indexed =
        let s = shaped_form t.form t.fields in
        let a : At input 0 (outline_bytes (form_outline t.form)) = rw (form_outline_bytes t.form, ← t.bytes) (at_whole input) in
        record { fields = t.fields; bytes = t.bytes; index = x.lists _ s a; count = x.counts _ s a }

    -- as many lines as records
    lines_long : (line_width + 1) * c.count ≡ (line_width + 1) * outline_records (form_outline t.form)
    lines_long = ap (λ (n : ℕ). (line_width + 1) * n) (form_indexed.count ∙ listing_counts nothing_around (form_outline t.form))

    -- few enough records that the length of the page can be had
    pub lines_few : (line_width + 1) * c.count ≤ (line_width + 1) * most_longest
    lines_few = omega (arith, x.few, x.within, t.short)

    -- a buffer that is too short
    pub page_refused : {r : Refusal} → length buffer < (line_width + 1) * c.count → r ≡ placeless ShortPage → refused_answer 0 buffer r ≡ page_call F work input buffer
    unfolding laid_out
    page_refused lt e =
        let over : laid_out buffer t.form ≡ refused_answer 0 buffer (placeless ShortPage) =
        rw (lt-leb ((line_width + 1) * outline_records (form_outline t.form)) (length buffer) (omega (arith, lines_long)), laid_out) refl in
        ap (refused_answer 0 buffer) e ∙ sym (t.is ∙ over)

    -- one that the page fits
    pub page_accepted : {r : Answer} {out : Bytes} → (line_width + 1) * c.count ≤ length buffer → out ≡ written (page t.form) buffer
        → r ≡ accepted_answer 0 0 ((line_width + 1) * c.count) → (r, out) ≡ page_call F work input buffer
    unfolding laid_out
    page_accepted {r} {out} le w e =
        let len : (line_width + 1) * c.count ≡ length (page t.form) = lines_long ∙ sym (page_long t.form) in
        let fits : laid_out buffer t.form ≡ (accepted_answer 0 0 (length (page t.form)), written (page t.form) buffer) =
        rw (le-leb ((line_width + 1) * outline_records (form_outline t.form)) (length buffer) (omega (arith, lines_long)), laid_out) refl in
        rw (e, w, len) (sym (t.is ∙ fits))
