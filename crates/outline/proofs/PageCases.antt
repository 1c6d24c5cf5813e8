-- Worked cases of a page, by computation: what stands on the lines of small forms, and a buffer that is just long enough or one byte short.
-- Assumes nothing.
use mathlib.Core.Path.{◌≡◌, refl}
use mathlib.Core.List.{[], ◌∷◌, ◌++◌, map}
use Prim.Native.Nat.{ℕ, ◌-◌}
use Prim.Native.String.{String}
use lib.ListN.{length, replicate, take}
use Rattle.names.specs.CallAnswer.{computing_answers}
use Rattle.names.specs.Names.{Bytes, ascii, computing_names}
use Rattle.names.specs.Refusals.{refusal_number, refusal_place}
use Rattle.records.specs.Opened.{computing_opened}
use Rattle.records.specs.Read.{computing_read}
use Rattle.records.specs.Lists.{joined}
use Rattle.records.specs.Records.{computing_records, Loc, Sexp, SN, SC, SQ, SA, Name, Complex, BL, BQ, BV, BC, BM, tail, BB, HD, Form, CF, to_bodies, to_bindings, to_helpers, form_bytes}
use Rattle.records.specs.declared.Kind.TheVariants.{Assign}
use Rattle.outline.specs.Page.{computing_page, lines, page, page_call}

-- records at location 0, with an empty R
abbrev at : Loc
at = replicate 4 0

abbrev raw : Bytes
raw = replicate 2 0

abbrev atom : String → Sexp
atom n = SA at (ascii n)

-- a line: its text, and spaces up to 72
abbrev padded : String → Bytes
padded text = ascii text ++ replicate (72 - length (ascii text)) 32 ++ 10 ∷ []

-- (mod x x)
abbrev identity : Form
identity = CF at raw (atom "x") (to_helpers []) (BV (atom "x"))

-- a helper, an assign with a Complex and a Name pattern, a text, an empty name, bytes that are not visible, a BM in a binding body
abbrev several : Form
several =
    CF at raw (SC at (atom "") (SA at (32 ∷ 33 ∷ 126 ∷ 127 ∷ [])))
    (to_helpers (HD at 0 (ascii "pay") raw (SN at) (BQ (SQ at 34 (ascii "memo word"))) ∷ []))
    (BL Assign at (0 ∷ []) (0 ∷ []) (to_bindings (BB at at (Complex (atom "y")) (BM at identity) ∷ BB at at (Name (ascii "z")) (BV (atom "y")) ∷ [])) (BC at (to_bodies []) (tail (BV (atom "z")))))

identity_lines : lines identity ≡ map padded ("CF -" ∷ "  SA x" ∷ "  BV -" ∷ "    SA x" ∷ [])
unfolding computing_page computing_records computing_names
identity_lines = refl

several_lines : lines several ≡ map padded (
    "CF -" ∷ "  SC -" ∷ "    SA " ∷ "    SA .!~." ∷ "  HD pay" ∷ "    SN -" ∷ "    BQ -" ∷ "      SQ memo.word" ∷ "  BL -" ∷ "    BB -" ∷ "      SA y" ∷ "      BM -" ∷ "        CF -"
    ∷ "          SA x" ∷ "          BV -" ∷ "            SA x" ∷ "    BB z" ∷ "      BV -" ∷ "        SA y" ∷ "    BC -" ∷ "      BV -" ∷ "        SA z" ∷ [])
unfolding computing_page computing_records computing_names
several_lines = refl

-- a call on an input at F 256, with a buffer of so many zeros: number, place, and the bytes written
abbrev seen : Bytes → ℕ → ℕ × ℕ × Bytes
seen input n = let r = page_call 256 65536 input (replicate n 0) in (refusal_number r.0.refusal, (refusal_place r.0.refusal).start, take r.0.len r.1)

-- a buffer that is just long enough, and one byte short; a byte that is left over is refused first
calls_hold :
    seen (form_bytes identity) 292 ∷ seen (form_bytes identity) 291 ∷ seen (form_bytes identity ++ 0 ∷ []) 0 ∷ seen (form_bytes several) 0 ∷ []
    ≡ (0, 0, page identity) ∷ (9, 0, []) ∷ (2, 27, []) ∷ (9, 0, []) ∷ []
unfolding computing_page computing_records computing_names computing_answers computing_opened computing_read joined
calls_hold = refl
