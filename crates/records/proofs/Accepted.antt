-- An input is accepted exactly when it is the bytes of a valid tree. Assumes nothing.
use mathlib.Core.Path.{◌≡◌, ap, sym, ◌∙◌}
use mathlib.Core.Bool.{true}
use mathlib.Core.Logic.{◌↔◌}
use Rattle.std.specs.Prelude.{Option, None}
use Prim.Native.Nat.{ℕ, ◌*◌, ◌≤◌}
use lib.Dec.{leb, le→leb}
use lib.ListN.{length}
use Rattle.names.specs.Names.{Bytes}
use Rattle.records.specs.Limits.{level_limit, most_longest, work_factor}
use Rattle.records.specs.Records.{body_bytes, helper_bytes, Form, form_bytes}
use Rattle.records.specs.Read.{Plain, Whole, whole, readers, assign_of, read_whole}
use Rattle.records.specs.ReadFields.{Reader}
use Rattle.records.specs.Opened.{opened, limits, no_mod, open_by, read_input, open_input}
use Rattle.records.specs.Valid.{AreBytes, ValidForm, ValidHelper, ValidAssign, NoMod, HelperNoMod, FormNoMod}
use Rattle.records.proofs.FirstMods.{body_first, helper_first, form_first}
use Rattle.records.proofs.Exact.{form_read_back, helper_read_back, assign_read_back}
use Rattle.records.proofs.Opened.{within_limits, work_within, read_through, start}
use Rattle.records.proofs.Readers.{true_of}
use Rattle.records.proofs.Complete.{WholeRead, form_complete, helper_complete, assign_complete}
use Rattle.records.proofs.Valid.{form_valid, helper_valid, assign_valid}

-- m reads whole what f writes of a tree with Valid, and nothing else; the first BM noted, and that none is noted exactly if the tree has Clear
pub record Format {A : Type 0} (m : Reader A) (f : A → Bytes) (Valid Clear : A → Type 0) : Type 0 where
  pub first : A → Option ℕ
  pub complete : (t : A) → Valid t → WholeRead (Clear t) (first t) m (f t) t
  pub valid : (input : Bytes) (t : A) (o : Option ℕ) → AreBytes input → read_whole m input ≡ whole t o → Valid t
  pub back : (input : Bytes) (t : A) (o : Option ℕ) → read_whole m input ≡ whole t o → input ≡ f t

unfoldable pub form_format : Format (readers level_limit).form form_bytes ValidForm (FormNoMod Plain)
form_format = record { first = form_first Plain; complete = form_complete; valid = form_valid; back = form_read_back }

unfoldable pub helper_format : Format (readers level_limit).helper helper_bytes ValidHelper (HelperNoMod Plain)
helper_format = record { first = helper_first Plain; complete = helper_complete; valid = helper_valid; back = helper_read_back }

unfoldable pub assign_format : Format assign_of body_bytes ValidAssign (NoMod Plain)
assign_format = record { first = body_first Plain; complete = assign_complete; valid = assign_valid; back = assign_read_back }

module _ {A : Type 0} {t u : A} {o p : Option ℕ} where
  same_tree : ◌≡◌ {A = Whole A} (whole t o) (whole u p) → t ≡ u
  same_tree e = cc

  pub same_first : ◌≡◌ {A = Whole A} (whole t o) (whole u p) → o ≡ p
  same_first e = cc

module _ {A : Type 0} {m : Reader A} {f : A → Bytes} {Valid Clear : A → Type 0} (s : Format m f Valid Clear) where
  -- the bytes of a valid tree with no such BM
  pub reads_clear : (t : A) → Valid t → Clear t → read_whole m (f t) ≡ whole t None
  reads_clear t v n = let w = s.complete t v in w.whole_read ∙ ap (whole t) (w.stays n)

  -- where none is noted there is none
  pub clear_valid : (input : Bytes) (t : A) → AreBytes input → read_whole m input ≡ whole t None → Valid t × Clear t
  clear_valid input t b h =
      let v = s.valid input t None b h in
      let w = s.complete t v in
      (v, w.clear (same_first (sym w.whole_read ∙ ap (read_whole m) (sym (s.back input t None h)) ∙ h)))

  -- an input of bytes is read as t exactly if it is the bytes of t, and t is valid
  pub accepted : (input : Bytes) (t : A) → AreBytes input → ((o : Option ℕ) × (read_whole m input ≡ whole t o)) ↔ (Valid t × (input ≡ f t))
  accepted input t b = (
    λ (o, h). (s.valid input t o b h, s.back input t o h),
    λ (v, e). let w = s.complete t v in (s.first t, ap (read_whole m) e ∙ w.whole_read),
  )

  -- valid trees with the same bytes are the same
  pub one_tree : (t u : A) → Valid t → Valid u → f t ≡ f u → t ≡ u
  one_tree t u v w e = same_tree (sym (s.complete t v).whole_read ∙ ap (read_whole m) e ∙ (s.complete u w).whole_read)

  module _ (F work c : ℕ) where
    -- a call opens the bytes of a valid tree with no such BM
    pub opens : (t : A) → limits F work c ≡ true → length (f t) ≤ F → Valid t → Clear t → open_input m F work c (f t) ≡ opened t
    unfolding open_by no_mod
    opens t h l v n = rw (h, true_of (leb (length (f t)) F) (le→leb (length (f t)) F l), reads_clear t v n, open_by)

    -- and nothing else
    pub opened_valid : (input : Bytes) (t : A) → AreBytes input → open_input m F work c input ≡ opened t → Valid t × Clear t × (input ≡ f t)
    opened_valid input t b h = let o = rw h at (start m F work c input) in let p = clear_valid input t b o.read in (p.0, p.1, s.back input t None o.read)

    -- where a BM may stand anywhere, an input that is read is the bytes of a valid tree too, and the limits hold
    pub read_valid : (input : Bytes) (t : A) → AreBytes input → read_input m F work c input ≡ opened t
        → (input ≡ f t) × Valid t × (length input ≤ F) × (F ≤ most_longest) × (work_factor * F ≤ work)
    read_valid input t b h =
        let (x, r) = rw h at (read_through m F work c input) in
        (s.back input t x r.read, s.valid input t x b r.read, r.size, (within_limits F work c r.within).0, work_within F work c r.within)

-- so of compile forms
pub read_form : (F work c : ℕ) (input : Bytes) (f : Form) → AreBytes input → read_input (readers level_limit).form F work c input ≡ opened f
    → (input ≡ form_bytes f) × ValidForm f × (length input ≤ F) × (F ≤ most_longest) × (work_factor * F ≤ work)
read_form F work c input f b h = read_valid form_format F work c input f b h
