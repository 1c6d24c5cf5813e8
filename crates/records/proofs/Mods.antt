-- Refusal 4 as specs/Mods.antt has it: a call within the limits that is given the bytes of a valid tree refuses with 4 exactly if a BM stands in a binding body
-- of an assign that is not itself inside a BM, and its place is the offset of the first; it opens the tree exactly if there is none. Assumes nothing.
use mathlib.Core.Path.{◌≡◌, refl, ap, sym, ◌∙◌}
use mathlib.Core.Bool.{true}
use mathlib.Core.Logic.{◌↔◌}
use Rattle.std.specs.Prelude.{Option, Some}
use Prim.Native.Nat.{ℕ, ◌≤◌}
use lib.Dec.{leb, le→leb}
use lib.ListN.{length}
use Rattle.names.specs.Names.{Bytes, ascii}
use Rattle.names.specs.Refusals.{place_at, refusing}
use Rattle.names.specs.declared.Reason.TheVariants.{ModInBinding}
use Rattle.names.specs.Segments.{At}
use Rattle.names.specs.declared.Place.{Place}
use Rattle.names.proofs.Places.{at_left}
use Rattle.records.specs.Limits.{level_limit}
use Rattle.records.specs.Mods.{Node, body_node, helper_node, form_node, node_bytes, AssignMod, FirstMod, NoAssignMod}
use Rattle.records.specs.Opened.{opened, closed, limits, no_mod, open_by, open_input}
use Rattle.records.specs.Read.{Plain, whole, readers, assign_of, read_whole}
use Rattle.records.specs.ReadFields.{Reader}
use Rattle.records.specs.Records.{record_bytes, Body, body_bytes, Helper, helper_bytes, Form, form_bytes}
use Rattle.records.specs.Valid.{AreBytes, ValidForm, ValidHelper, ValidAssign}
use Rattle.records.proofs.Accepted.{Format, same_first, form_format, helper_format, assign_format}
use Rattle.records.proofs.LeastMods.{Least, least_none, least_some, assign_any, body_least, helper_least, form_least}
use Rattle.records.proofs.Opened.{ReadAs, through}
use Rattle.records.proofs.Readers.{true_of}
use Rattle.records.proofs.Spans.{inside_there}

-- such a BM is there: its mark stands at its place
pub mod_there : {t : Node} (p : ℕ) → AssignMod t p → At (node_bytes t) p (ascii "BM")
unfolding node_bytes body_bytes record_bytes
mod_there p m = let (l, f, i) = assign_any p m in at_left (ascii "BM") _ (inside_there i)

-- the limits hold, and the input is the bytes of the valid tree t, not longer than F
pub record GivenTree {A : Type 0} (f : A → Bytes) (Valid : A → Type 0) (F work c : ℕ) (input : Bytes) (t : A) : Type 0 where
  pub within : limits F work c ≡ true
  pub size : length input ≤ F
  pub valid : Valid t
  pub same : input ≡ f t

module _ {A : Type 0} {m : Reader A} {f : A → Bytes} {Valid Clear : A → Type 0} (s : Format m f Valid Clear) (node : A → Node)
    (first_least : (t : A) → Least (AssignMod (node t)) (s.first t)) where
  -- the same as the `Clear` of a format
  pub no_assign_mod : (t : A) → Valid t → NoAssignMod (node t) ↔ Clear t
  no_assign_mod t v = (
    λ n. (s.complete t v).clear (least_none (s.first t) (first_least t) n),
    λ k. rw ((s.complete t v).stays k) at (first_least t),
  )

  module _ (F work c : ℕ) (input : Bytes) where
    -- such a tree is read whole, and the first BM noted is known
    given_read : {t : A} → GivenTree f Valid F work c input t → read_whole m input ≡ whole t (s.first t)
    given_read {t} g = ap (read_whole m) g.same ∙ (s.complete t g.valid).whole_read

    -- nothing else is
    read_given : AreBytes input → {t : A} {x : Option ℕ} → ReadAs m F work c input t x → GivenTree f Valid F work c input t × (s.first t ≡ x)
    read_given b {t} {x} g =
        let e = g.read in
        let h : GivenTree f Valid F work c input t = record { within = g.within; size = g.size; valid = s.valid input t x b e; same = s.back input t x e } in
        (h, same_first (sym (given_read h) ∙ e))

    -- what a call answers of it
    opened_as : {t : A} {x : Option ℕ} → GivenTree f Valid F work c input t → s.first t ≡ x → open_input m F work c input ≡ no_mod (whole t x)
    unfolding open_by
    opened_as {t} {x} g e = rw (g.within, true_of (leb (length input) F) (le→leb (length input) F g.size), given_read g, e, open_by)

    -- refused with 4 at p exactly if the first such BM of the tree stands at p
    pub mod_refused : AreBytes input → (p : ℕ)
        → (open_input m F work c input ≡ closed (refusing ModInBinding (place_at p))) ↔ ((t : A) × GivenTree f Valid F work c input t × FirstMod (node t) p)
    unfolding no_mod
    mod_refused b p = (to, λ (t, g, h). opened_as g (least_some (s.first t) p (first_least t) h.there h.least))
      where
        to : open_input m F work c input ≡ closed (refusing ModInBinding (place_at p)) → (t : A) × GivenTree f Valid F work c input t × FirstMod (node t) p
        to e =
            let (t, q, g, w) = (rw e at (through m F work c input)).2 refl in
            let d : p ≡ q = ap (λ (x : Place). x.start) w in
            let h = read_given b g in
            let k : Least (AssignMod (node t)) (Some q) = rw h.1 at (first_least t) in
            (t, h.0, rw d (record { there = k.0; least = k.1 }))

    -- opened as t exactly if there is none
    pub mod_free : AreBytes input → (t : A) → (open_input m F work c input ≡ opened t) ↔ (GivenTree f Valid F work c input t × NoAssignMod (node t))
    unfolding no_mod
    mod_free b t = (to, λ (g, n). opened_as g (least_none (s.first t) (first_least t) n))
      where
        to : open_input m F work c input ≡ opened t → GivenTree f Valid F work c input t × NoAssignMod (node t)
        to e =
            let h = read_given b (rw e at (through m F work c input)) in
            (h.0, rw h.1 at (first_least t))

-- of compile forms, helpers and assigns
module _ (F work c : ℕ) (input : Bytes) (b : AreBytes input) where
  pub form_mod_refused : (p : ℕ)
      → (open_input (readers level_limit).form F work c input ≡ closed (refusing ModInBinding (place_at p)))
      ↔ ((t : Form) × GivenTree form_bytes ValidForm F work c input t × FirstMod (form_node t) p)
  unfolding form_format
  form_mod_refused = mod_refused form_format form_node (form_least Plain) F work c input b

  pub helper_mod_refused : (p : ℕ)
      → (open_input (readers level_limit).helper F work c input ≡ closed (refusing ModInBinding (place_at p)))
      ↔ ((t : Helper) × GivenTree helper_bytes ValidHelper F work c input t × FirstMod (helper_node t) p)
  unfolding helper_format
  helper_mod_refused = mod_refused helper_format helper_node (helper_least Plain) F work c input b

  pub assign_mod_refused : (p : ℕ)
      → (open_input assign_of F work c input ≡ closed (refusing ModInBinding (place_at p)))
      ↔ ((t : Body) × GivenTree body_bytes ValidAssign F work c input t × FirstMod (body_node t) p)
  unfolding assign_format
  assign_mod_refused = mod_refused assign_format body_node (body_least Plain) F work c input b

  pub form_mod_free : (t : Form)
      → (open_input (readers level_limit).form F work c input ≡ opened t) ↔ (GivenTree form_bytes ValidForm F work c input t × NoAssignMod (form_node t))
  unfolding form_format
  form_mod_free = mod_free form_format form_node (form_least Plain) F work c input b

  pub helper_mod_free : (t : Helper)
      → (open_input (readers level_limit).helper F work c input ≡ opened t) ↔ (GivenTree helper_bytes ValidHelper F work c input t × NoAssignMod (helper_node t))
  unfolding helper_format
  helper_mod_free = mod_free helper_format helper_node (helper_least Plain) F work c input b

  pub assign_mod_free : (t : Body)
      → (open_input assign_of F work c input ≡ opened t) ↔ (GivenTree body_bytes ValidAssign F work c input t × NoAssignMod (body_node t))
  unfolding assign_format
  assign_mod_free = mod_free assign_format body_node (body_least Plain) F work c input b
