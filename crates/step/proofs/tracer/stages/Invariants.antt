-- At every turn the sections are the rules' lists.
use mathlib.Core.Path.{◌≡◌}
use Rattle.rules.specs.Calls.{wind_at}
use Rattle.step_stages.proofs.StagesLaws.{stage_list, sums_list}
use Rattle.step_fluxes.proofs.FluxLaws.{amounts_list}
use Rattle.step.proofs.tracer.stages.Given as goal

abbrev pub invariant-loop-pass : goal.invariant-loop-pass
invariant-loop-pass l =
    let w = l.fn.winds in
    let g = w.grid.shape in
    let c = wind_at w.wind.now in
    (l.psi ≡ stage_list g c l.part l.pass-index) × ((l.sums ≡ sums_list g c l.part l.pass-index) × (l.amounts ≡ amounts_list g c l.part l.pass-index))
