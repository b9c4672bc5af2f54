use Rattle.std.proofs.Common.{◌≡◌, ◌∙◌, ap, refl, length, get_or, [], ◌/◌, ◌≤◌, arith}
use lib.IntN.{pos}
use mir.Syntax.{w64}
use mir.Facts.{to_z_pos}
use Rattle.rules.specs.Field.{quadratic, mass, limit}
use Rattle.whole.proofs.FillLaws.{filled_none, filled_next}
use Rattle.whole.proofs.ListParts.{chunk-at}
use Rattle.step_correction.proofs.Laws.{mass-part}
use Rattle.step_correction.proofs.masses.Goals as goal
use Rattle.step_correction.proofs.masses.Goals.{After-mass}

pub loop-e-init : goal.loop-e-init
loop-e-init c = filled_none (omega arith)

-- the mass of a turn, of chunk e
made : (c : After-mass) → c.mass.result ≡ mass quadratic c.args.part.now c.loop-e.e
made c =
    let e = c.loop-e.e in
    let p = c.args.part.now in
    c.mass.ensures
    ∙ ap (λ x. mass quadratic x 0) (ap (λ x. get_or x e []) c.as_chunks.ensures.front ∙ chunk-at 10 (length p / 10) e p (omega (arith, c.loop-e-test.true, c.loop-e.invariant.long, c.requires.part_len)))
    ∙ mass-part p e 10 refl

small : (c : After-mass) → c.mass.result ≤ limit
small c = omega (arith, made c, c.requires.within_limit c.loop-e.e omega arith)

pub overflow_cast-mass : goal.overflow_cast-mass
overflow_cast-mass c = record { sfits = omega (arith, small (goal.at.overflow_cast-mass c).After-mass) }

pub loop-e-preserved : goal.loop-e-preserved
loop-e-preserved c =
    let m = (goal.at.loop-e-preserved c).After-mass in
    filled_next c.loop-e.invariant (omega arith) (to_z_pos w64 (omega (arith, small m)) ∙ ap pos (made m))
