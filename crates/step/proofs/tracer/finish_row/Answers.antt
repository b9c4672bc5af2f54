use Rattle.std.proofs.Common.{◌∙◌, ap, refl, ◌+◌, ◌*◌, arith}
use native.Mathlib.Nat.{add-sub_cancel_left}
use Rattle.whole.specs.Sum.{sum}
use Rattle.whole.proofs.FillLaws.{blocks-none, blocks-next}
use Rattle.whole.proofs.SumLaws.{sum_more}
use Rattle.whole.specs.Parts.{positive}
use Rattle.whole.specs.Table.{table, at}
use Rattle.rules.specs.Field.{quadratic}
use Rattle.rules.specs.Correction.{target}
use Rattle.rules.specs.HeldFlux.{with_held_flux}
use Rattle.step_upwind.specs.Upwind.{as_stage}
use Rattle.step.specs.Finish.{mass_of, closed_lent}
use Rattle.step.proofs.Laws.{new-length, closing-lent}
use Rattle.step.proofs.tracer.finish_row.Goals as goal

pub loop-column-init : goal.loop-column-init
unfolding sum
loop-column-init c = (blocks-none (omega (arith, c.requires.part_len)), (refl, omega arith))

pub loop-column-preserved : goal.loop-column-preserved
loop-column-preserved c =
    let a = c.args in
    let l = c.loop-column in
    let r = a.row in
    let g = r.grid.shape in
    let e = r.index * g.nx + l.column in
    let at-row = c.element-element.ensures in
    let values = c.with_held_flux.ensures.values ∙ (λ i. table 9 (with_held_flux quadratic (at-row.grid i).shape (at a.rises.now) (as_stage a.psi.now) (at-row.place i))) in
    let goal = c.target.ensures.value ∙ (λ i. positive (target (at-row.grid i).shape (mass_of a.masses.now) (at a.report.now) (at-row.place i))) in
    let same = closing-lent g a.psi.now a.rises.now a.masses.now a.report.now e values goal in (
      blocks-next (λ i. new-length g a.psi.now a.rises.now a.masses.now a.report.now (r.index * g.nx + i)) l.invariant.0 (omega arith) refl (add-sub_cancel_left (l.column * 10) 10)
          (c.close-clipped.ensures.numbers ∙ ap (λ x. x.numbers) same),
      (
        omega (arith, l.invariant.1.0, c.close-clipped.ensures.clipped, ap (λ x. x.clipped) same, sum_more l.column (λ i. (closed_lent g a.psi.now a.rises.now a.masses.now a.report.now (r.index * g.nx + i)).clipped)),
        omega (arith, l.invariant.1.1, c.close-clipped.ensures.upper_bound),
      ),
    )
