use borrow.Author.Rules.{rules}
use mathlib.Core.Path.{◌≡◌, ◌∙◌}
use native.Mathlib.Omega.{arith}
use mir.Syntax.{w16}
use mir.Val.{to_z, of_z}
use Rattle.whole.proofs.FillLaws.{filled_none, filled_next}
use Rattle.wind_import.proofs.ImportLaws.{walked_none, walked_more, never-refused, winds-are}
use Rattle.wind_import.proofs.lay.Goals as goal
use Rattle.wind_import.proofs.lay.Goals.{In-Ok}

pub loop-e-init : goal.loop-e-init
loop-e-init c = record { walked = walked_none _; east = filled_none (omega arith); north = filled_none (omega (arith, c.requires.halves)) }

pub unreachable-requires : goal.unreachable-requires
unreachable-requires c = never-refused _ _ _ c.loop-e.invariant.walked _ _ _ c.loop-e-test.true c.in_default.ensures.winds c.requires.passed

-- the winds, read back from their bits
east-back : (c : In-Ok) → to_z w16 (of_z w16 c.in-Ok.winds.east) ≡ c.in-Ok.winds.east
east-back c = search rules

north-back : (c : In-Ok) → to_z w16 (of_z w16 c.in-Ok.winds.north) ≡ c.in-Ok.winds.north
north-back c = search rules

pub loop-e-preserved : goal.loop-e-preserved
loop-e-preserved c =
    let at = (goal.at.loop-e-preserved c).In-Ok in
    let w = winds-are _ _ _ c.loop-e.invariant.walked _ c.in-Ok.ensures.winds in
    record {
      walked = walked_more _ _ _ c.loop-e.invariant.walked _ _ c.in-Ok.ensures.winds _ c.in-Ok.ensures.rest;
      east = filled_next c.loop-e.invariant.east (omega arith) (east-back at ∙ w.0);
      north = filled_next c.loop-e.invariant.north (omega arith) (north-back at ∙ w.1);
    }
