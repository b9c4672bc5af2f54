use Rattle.std.proofs.Common.{◌≡◌, ap, ◌∙◌, pos, ◌+ℤ◌, ◌*ℤ◌, arith}
use Rattle.whole.specs.Table.{at}
use Rattle.whole.proofs.FillLaws.{filled_none, filled_next, filled-rest}
use Rattle.whole.proofs.Sizes.{sizes, fits}
use Rattle.rules.specs.Calls.{wind_at}
use Rattle.step_upwind.specs.Upwind.{as_stage, face_product}
use Rattle.step_stages.specs.Passes.{from_stage, factor}
use Rattle.step_fluxes.proofs.Laws.{B, added-exact, weighed-table}
use Rattle.step_fluxes.proofs.add.Goals as goal
use Rattle.step_fluxes.proofs.add.Goals.{In-loop-f}

pub loop-f-init : goal.loop-f-init
loop-f-init c = filled_none (omega arith)

-- the sum that a turn reads
sum_is : (c : In-loop-f) → at c.loop-f.amounts c.loop-f.f ≡ at c.args.amounts.now c.loop-f.f
sum_is c = filled-rest c.loop-f.invariant c.loop-f.f (pos 0) (omega arith)

pub overflow_add-amount : goal.overflow_add-amount
overflow_add-amount c = let e = sum_is (goal.at.overflow_add-amount c).In-loop-f in let h = c.requires.all_within in rw e (fits (search sizes depth 20) tt)

pub loop-f-preserved : goal.loop-f-preserved
loop-f-preserved c =
    let f = c.loop-f.f in
    let s = c.args.from.stage in
    let t = c.factor-times in
    let g = s.winds.grid.shape in
    let old = at c.args.amounts.now f in
    filled_next c.loop-f.invariant (omega arith)
    (ap (λ z. B (B z +ℤ B (B t.result *ℤ B c.weigh.result))) (sum_is (goal.at.loop-f-preserved c).In-loop-f)
    ∙ added-exact (c.requires.all_within.all f) t.ensures c.weigh.ensures
    ∙ ap (λ x. old +ℤ pos (factor (from_stage c.args.pass)) *ℤ x) (weighed-table (face_product g (wind_at s.winds.wind.now) (as_stage s.phi.now) f) c.at_face.result c.at_face.ensures.value))
