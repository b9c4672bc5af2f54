use Rattle.std.proofs.Common.{pos, ◌+ℤ◌, ◌*ℤ◌, length}
use Rattle.whole.specs.Table.{at}
use Rattle.whole.proofs.FillLaws.{Filled}
use Rattle.rules.specs.Calls.{wind_at}
use Rattle.step_upwind.specs.Upwind.{as_stage}
use Rattle.step_stages.specs.Passes.{from_stage, factor}
use Rattle.step_fluxes.specs.Amount.{stage_amount}
use Rattle.step_fluxes.proofs.add.Given as goal

abbrev pub invariant-loop-f : goal.invariant-loop-f
invariant-loop-f l =
    let s = l.fn.from.stage in
    Filled (λ f. at l.initial.amounts f +ℤ pos (factor (from_stage l.fn.pass)) *ℤ stage_amount s.winds.grid.shape (wind_at s.winds.wind.now) (as_stage s.phi.now) f) l.initial.amounts (length l.initial.amounts) l.f l.amounts
