-- The call Page: a form on lines of one width, one record on each. docs/FORMAT.md, 'Page'.
-- Assumes nothing.
use Rattle.std.specs.Prelude.{true, false, ◌&&◌, cond, List, [], ◌∷◌, ◌++◌, map, ℕ, zero, suc, ◌+◌, ◌*◌, leb, length, take}
use Rattle.std.specs.declared.option.Option.{Option}
use Rattle.std.specs.declared.option.Option.TheVariants.{Some, None}
use Rattle.names.specs.CallAnswer.{CallResult, accepted_answer, refused_answer, written}
use Rattle.names.specs.Names.{Bytes, ascii}
use Rattle.names.specs.Refusals.{placeless}
use Rattle.names.specs.declared.Reason.TheVariants.{ShortPage}
use Rattle.records.specs.Limits.{level_limit}
use Rattle.records.specs.Lists.{joined}
use Rattle.records.specs.Opened.{opened, closed, read_input}
use Rattle.records.specs.Read.{readers}
use Rattle.records.specs.Records.{byte, Form}
use Rattle.outline.specs.declared.Entry.{Entry}
use Rattle.outline.specs.Outline.{Outline, node, ◌++ᵖ◌, mark_bytes, outline_bytes, pieces_bytes, outline_records, pieces_records, sexp_outline, pattern_pieces, own_name, body_outline, bodies_pieces, tail_pieces, binding_outline, bindings_pieces, helper_outline, helpers_pieces, form_outline}
use Rattle.outline.specs.Index.{nothing_around, is_mod, outline_listing, pieces_listing}

-- the characters of a line
abbrev pub line_width : ℕ
line_width = 72

-- n spaces
unfoldable pub spaces : ℕ → Bytes
spaces zero = []
spaces (suc n) = 32 ∷ spaces n

-- a byte outside 21 to 7E prints as a dot
unfoldable pub visible : ℕ → ℕ
visible b = cond (leb 33 b && leb b 126) b 46

-- a name as it prints, or - where there is none
unfoldable pub shown : Option Bytes → Bytes
shown None = ascii "-"
shown (Some n) = map visible n

-- cut at the width, or padded with spaces to it
unfoldable pub fitted : ℕ → Bytes → Bytes
fitted w bs = take w (bs ++ spaces w)

-- what stands on a line: two spaces for each record around it, the mark, a space, the name
unfoldable pub line_parts : ℕ → Bytes → Option Bytes → Bytes
line_parts depth mark n = spaces (2 * depth) ++ (mark ++ (ascii " " ++ shown n))

-- what stands on the line of a record
unfoldable pub line_text : Entry × Outline → Bytes
line_text (e, node m n ps) = line_parts e.around.depth (mark_bytes m) n

-- its line: the text at the width, then 0A
unfoldable pub line : Entry × Outline → Bytes
line l = fitted line_width (line_text l) ++ byte 10

-- the lines of a form, one for each record in the sequence of the marks
unfoldable pub lines : Form → List Bytes
lines f = map line (outline_listing nothing_around (form_outline f))

-- one behind the other
unfoldable pub page : Form → Bytes
page f = joined (λ x. x) (lines f)

-- 9 where the buffer is shorter than 73 times the record count
unfoldable pub laid_out : Bytes → Form → CallResult
laid_out buffer f =
    elim (leb ((line_width + 1) * outline_records (form_outline f)) (length buffer)) [
      | true ↦ (accepted_answer 0 0 (length (page f)), written (page f) buffer)
      | false ↦ refused_answer 0 buffer (placeless ShortPage)
    ]

-- the call Page: the reading refusals, then 9; there is no counter
unfoldable pub page_call : ℕ → ℕ → Bytes → Bytes → CallResult
page_call F work input buffer =
    elim (read_input (readers level_limit).form F work 0 input) [ closed r ↦ refused_answer 0 buffer r | opened f ↦ laid_out buffer f ]

-- unfolds with every definition of a page
unfoldable pub computing_page : Unit {0}
unfolding mark_bytes outline_bytes pieces_bytes outline_records pieces_records ◌++ᵖ◌ sexp_outline pattern_pieces own_name body_outline bodies_pieces tail_pieces binding_outline bindings_pieces helper_outline helpers_pieces form_outline is_mod outline_listing pieces_listing spaces visible shown fitted line_parts line_text line lines page laid_out page_call
computing_page = tt
