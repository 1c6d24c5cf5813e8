-- Laws of the room that the walk has: each level takes at most eight times F, all of them and the form itself at most the work memory; and the least length
-- of a body. That each rule keeps within the room of its level is proved with its code. Assumes nothing.
use mathlib.Core.Path.{◌≡◌}
use mathlib.Core.List.{flatten}
use native.Mathlib.Omega.{arith}
use Prim.Native.Nat.{ℕ, suc, ◌+◌, ◌*◌, ◌≤◌}
use lib.ListN.{length, length-append}
use Rattle.names.specs.Names.{ascii}
use Rattle.records.specs.Limits.{level_limit, work_factor}
use Rattle.records.specs.Records.{head_width, mark_width, byte, record_bytes, Body, BL, BQ, BV, BC, BM, BF, body_bytes, no_tail, tail, tail_bytes, CF, form_bytes}
use Rattle.records.specs.Valid.{BodyFields}
use Rattle.walk.proofs.Views.{least_sexp}
use Rattle.walk.specs.DrawnMaps.{map_growth}
use Rattle.walk.specs.Room.{aside_factor, result_factor, level_room, room}

-- the last level has a result alone
pub room_last : (F : ℕ) → room F 1 ≡ F
unfolding room
room_last F = omega arith

-- each other one has a level's room more than the one below
pub room_level : (F d : ℕ) → room F (suc (suc d)) ≡ level_room F + room F (suc d)
unfolding room
room_level F d = omega arith

-- eight times F for a level
pub level_most : (F : ℕ) → level_room F ≡ 8 * F
level_most F = omega arith

-- the form and all levels
pub room_all : (F : ℕ) → F + room F level_limit ≤ work_factor * F
unfolding room
room_all F = omega arith

-- what a level sets aside, its result and its map are within its room
pub level_holds : (F aside result map : ℕ) → aside ≤ aside_factor * F → result ≤ result_factor * F → map ≤ map_growth * F → aside + result + map ≤ level_room F
level_holds F aside result map a r m = omega arith

-- the least length of a body
pub least_body : (b : Body) → BodyFields b → mark_width + head_width ≤ length (body_bytes b)
unfolding BodyFields body_bytes form_bytes tail_bytes record_bytes flatten ascii byte
least_body (BL k l w h bs b) f = simp length-append (omega (arith, f.0, least_body b f.5))
least_body (BQ s) f = simp length-append (omega (arith, least_sexp s f.0))
least_body (BV s) f = simp length-append (omega (arith, least_sexp s f.0))
least_body (BC l bs no_tail) f = simp length-append (omega (arith, f.0))
least_body (BC l bs (tail b)) f = simp length-append (omega (arith, f.0))
least_body (BM l (CF k r a hs b)) f = simp length-append (omega (arith, f.0))
least_body (BF l w ca c a b) f = simp length-append (omega (arith, f.0, least_sexp ca f.2.0))
