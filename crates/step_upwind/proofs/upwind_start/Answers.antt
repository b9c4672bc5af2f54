use mathlib.Core.Path.{◌≡◌, ap, ◌∙◌}
use mathlib.Core.Bool.{cond}
use Prim.Native.Nat.{◌+◌, ◌*◌}
use native.Mathlib.Omega.{arith}
use lib.IntN.{pos, nat_abs}
use lib.Signed.{non_neg}
use mir.Syntax.{w64}
use mir.Val.{to_z}
use mir.Facts.{to_z-of_z}
use Rattle.whole.specs.Bound.{Within}
use Rattle.whole.proofs.Sizes.{sizes, fits}
use Rattle.step_upwind.specs.Upwind.{sign}
use Rattle.step_upwind.proofs.Laws.{most_places, place-small, chosen-small, machine_place, place_is, start_is}
use Rattle.step_upwind.proofs.upwind_start.Goals as goal
use Rattle.step_upwind.proofs.upwind_start.Goals.{After-sign, Start}

-- the sizes of the two places
places-small : (c : Start) → (Within most_places (to_z w64 (c.args.behind * 9 + c.args.last))) × (Within most_places (to_z w64 (c.args.ahead * 9)))
places-small c = (place-small (c.args.behind * 9 + c.args.last) (omega arith), place-small (c.args.ahead * 9) (omega arith))

pub overflow_mul-result : goal.overflow_mul-result
overflow_mul-result c = let h = places-small (goal.at.overflow_mul-result c).Start in let s = c.sign.ensures in fits (search sizes depth 20) tt

pub overflow_add-result : goal.overflow_add-result
overflow_add-result c = let h = places-small (goal.at.overflow_add-result c).Start in let s = c.sign.ensures in fits (search sizes depth 20) tt

made : (c : After-sign) → machine_place c.sign.result (to_z w64 (c.args.behind * 9 + c.args.last)) (to_z w64 (c.args.ahead * 9))
    ≡ pos (cond (non_neg c.args.c) (c.args.behind * 9 + c.args.last) (c.args.ahead * 9))
made c = let a = c.args in place_is a.c c.sign.result (a.behind * 9 + a.last) (a.ahead * 9) (c.sign.ensures.same ∙ ap sign (to_z-of_z c.ranges.c)) (omega arith) (omega arith)

pub overflow_cast-result : goal.overflow_cast-result
overflow_cast-result c = let a = c.args in
    rw (made (goal.at.overflow_cast-result c).After-sign) (tt, record { fits = omega (arith, chosen-small a.c (a.behind * 9 + a.last) (a.ahead * 9) most_places (omega arith) (omega arith)) })

pub returns : goal.returns
returns c = let a = c.args in ap nat_abs (made (goal.at.returns c).After-sign) ∙ start_is a.c a.behind a.ahead a.last

pub overflow_sub-result : goal.overflow_sub-result
overflow_sub-result c = let h = places-small (goal.at.overflow_sub-result c).Start in fits (search sizes depth 20) tt
