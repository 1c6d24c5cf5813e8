-- How deep B, H and CF records nest, where a sequential let of n bindings counts as the larger of n and 1.
-- Assumes nothing.
use Rattle.std.specs.Prelude.{List, [], ◌∷◌, ℕ, ◌+◌, max}
use Rattle.records.specs.Records.{Body, BL, BQ, BV, BC, BM, BF, Bodies, []ᵇ, ◌∷ᵇ◌, Tail, no_tail, tail, Binding, BB, Bindings, []ᵍ, ◌∷ᵍ◌, Helper, HC, HM, HD, HN, HR, Helpers, []ʰ, ◌∷ʰ◌, Form, CF, bindings_count}
use Rattle.records.specs.declared.Kind.{Kind}
use Rattle.records.specs.declared.Kind.TheVariants.{Parallel, Sequential, Assign}

-- the levels that a let of n bindings takes
unfoldable pub levels : Kind → ℕ → ℕ
levels Parallel n = 1
levels Sequential n = max n 1
levels Assign n = 1

unfoldable mutual
  -- the levels of a body
  pub depth : Body → ℕ
  depth (BL k l w h bs b) = levels k (bindings_count bs) + max (bindings_depth bs) (depth b)
  depth (BQ s) = 1
  depth (BV s) = 1
  depth (BC l bs t) = 1 + max (bodies_depth bs) (tail_depth t)
  depth (BM l f) = 1 + form_depth f
  depth (BF l w ca c a b) = 1 + max (depth c) (depth b)

  -- of the elements of a call
  pub bodies_depth : Bodies → ℕ
  bodies_depth []ᵇ = 0
  bodies_depth (b ∷ᵇ bs) = max (depth b) (bodies_depth bs)

  -- of its tail
  pub tail_depth : Tail → ℕ
  tail_depth no_tail = 0
  tail_depth (tail b) = depth b

  -- of a binding, which takes none itself
  pub binding_depth : Binding → ℕ
  binding_depth (BB l nl p b) = depth b

  -- of the bindings of a let
  pub bindings_depth : Bindings → ℕ
  bindings_depth []ᵍ = 0
  bindings_depth (b ∷ᵍ bs) = max (binding_depth b) (bindings_depth bs)

  -- the levels of a helper
  pub helper_depth : Helper → ℕ
  helper_depth (HC l n x b) = 1 + depth b
  helper_depth (HM l n x a f) = 1 + form_depth f
  helper_depth (HD l i n x a b) = 1 + depth b
  helper_depth (HN l n x hs) = 1 + helpers_depth hs
  helper_depth (HR l n x) = 1

  -- of helpers
  pub helpers_depth : Helpers → ℕ
  helpers_depth []ʰ = 0
  helpers_depth (h ∷ʰ hs) = max (helper_depth h) (helpers_depth hs)

  -- the levels of a compile form
  pub form_depth : Form → ℕ
  form_depth (CF l x a hs b) = 1 + max (helpers_depth hs) (depth b)

-- of a list of bindings
unfoldable pub list_depth : List Binding → ℕ
list_depth [] = 0
list_depth (b ∷ bs) = max (binding_depth b) (list_depth bs)
