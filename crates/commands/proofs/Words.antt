-- The kind that a word names, word by word. Assumes nothing.
use mathlib.Core.Path.{◌≡◌}
use mathlib.Core.Bool.{true, false}
use Rattle.names.specs.Names.{Bytes, ascii, same}
use Rattle.records.specs.declared.Wanted.TheVariants.{Form, Helper, Assign}
use Rattle.commands.specs.Words.{named_kind}
use Rattle.std.specs.declared.option.Option.TheVariants.{Some, None}

module _ (bs : Bytes) where
  pub kind_form : same bs (ascii "form") ≡ true → named_kind bs ≡ Some Form
  unfolding named_kind
  kind_form e = rw (e, named_kind)

  module _ (f : same bs (ascii "form") ≡ false) where
    pub kind_helper : same bs (ascii "helper") ≡ true → named_kind bs ≡ Some Helper
    unfolding named_kind
    kind_helper e = rw (f, e, named_kind)

    module _ (h : same bs (ascii "helper") ≡ false) where
      pub kind_assign : same bs (ascii "assign") ≡ true → named_kind bs ≡ Some Assign
      unfolding named_kind
      kind_assign e = rw (f, h, e, named_kind)

      pub kind_none : same bs (ascii "assign") ≡ false → named_kind bs ≡ None
      unfolding named_kind
      kind_none e = rw (f, h, e, named_kind)
