-- The records of a record in the sequence of their marks, each with what the index says of it: where its mark stands, how many records stand around it, its
-- length, and whether one of those around it is a BM. docs/FORMAT.md, 'Page'.
-- Assumes nothing.
use Rattle.std.specs.Prelude.{Bool, true, false, ◌||◌, List, [], ◌∷◌, ◌++◌, ℕ, ◌+◌, ◌*◌, length}
use Rattle.names.specs.Names.{Bytes, number_field}
use Rattle.records.specs.Records.{byte}
use Rattle.records.specs.Lists.{joined}
use Rattle.records.specs.declared.BodyMark.TheVariants as bodies
use Rattle.outline.specs.declared.Around.{Around}
use Rattle.outline.specs.declared.Entry.{Entry}
use Rattle.outline.specs.declared.Mark.{Mark}
use Rattle.outline.specs.declared.Mark.TheVariants as marks
use Rattle.outline.specs.Outline.{Outline, node, Pieces, no_more, bytes_then, record_then, mark_bytes, outline_bytes}

-- nothing stands around the record, which is a whole input
abbrev pub nothing_around : Around
nothing_around = record { offset = 0; depth = 0; inside = false }

-- so many bytes further on
abbrev pub moved_on : ℕ → Around → Around
moved_on n a = record { offset = a.offset + n; depth = a.depth; inside = a.inside }

-- a BM
unfoldable pub is_mod : Mark → Bool
is_mod (marks.Body bodies.Mod) = true
is_mod m = false

-- one more record stands around the fields of a record, and it may be a BM; the offset is still that of the mark
abbrev pub under : Mark → Around → Around
under m a = record { offset = a.offset; depth = a.depth + 1; inside = is_mod m || a.inside }

-- what the index says of the record x
abbrev pub entry_of : Around → Outline → Entry
entry_of a x = record { around = a; len = length (outline_bytes x) }

unfoldable mutual
  -- a record and the records in it
  pub outline_listing : Around → Outline → List (Entry × Outline)
  outline_listing a (node m n ps) = (entry_of a (node m n ps), node m n ps) ∷ pieces_listing (moved_on (length (mark_bytes m)) (under m a)) ps

  -- the records of what follows a mark
  pub pieces_listing : Around → Pieces → List (Entry × Outline)
  pieces_listing a no_more = []
  pieces_listing a (bytes_then bs ps) = pieces_listing (moved_on (length bs) a) ps
  pieces_listing a (record_then x ps) = outline_listing a x ++ pieces_listing (moved_on (length (outline_bytes x)) a) ps

-- the bytes of a number of an entry
abbrev pub place_width : ℕ
place_width = 2

-- the bytes of an entry
abbrev pub entry_width : ℕ
entry_width = 3 * place_width + 1

-- yes or no in a byte
unfoldable pub flag : Bool → ℕ
flag false = 0
flag true = 1

-- an entry as it stands in work memory: offset, depth, length, and whether in a BM
unfoldable pub entry_bytes : Entry → Bytes
entry_bytes e =
    number_field place_width e.around.offset ++ number_field place_width e.around.depth ++ number_field place_width e.len ++ byte (flag e.around.inside)

-- the index: the entries one after the other
unfoldable pub index_bytes : List (Entry × Outline) → Bytes
index_bytes ls = joined (λ l. entry_bytes l.0) ls
