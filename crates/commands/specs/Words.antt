-- The words by which the command line names the kinds of record. Assumes nothing.
use Rattle.std.specs.Prelude.{true, false}
use Rattle.names.specs.Names.{Bytes, ascii, same}
use Rattle.records.specs.declared.Wanted.TheVariants.{Form, Helper, Assign}
use Rattle.std.specs.declared.option.Option.{Option}
use Rattle.std.specs.declared.option.Option.TheVariants.{Some, None}
use Rattle.records.specs.declared.Wanted.{Wanted}

-- the kind that a word names
unfoldable pub named_kind : Bytes → Option Wanted
named_kind bs =
    elim (same bs (ascii "form")) [
      | true ↦ Some Form
      | false ↦ elim (same bs (ascii "helper")) [
        | true ↦ Some Helper
        | false ↦ elim (same bs (ascii "assign")) [ true ↦ Some Assign | false ↦ None ]
      ]
    ]
