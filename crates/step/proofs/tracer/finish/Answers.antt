use Rattle.std.proofs.Common.{◌≡◌, ◌∙◌, ap, sym, refl, ◌+◌, ◌*◌, ℕ, arith}
use native.Mathlib.Nat.{add-sub_cancel_left}
use lib.ListN.{length}
use Rattle.whole.specs.Sum.{sum}
use Rattle.whole.specs.Table.{overwrite}
use Rattle.rules.specs.Field.{quadratic, elements}
use Rattle.rules.proofs.StoredLaws.{elements-written}
use Rattle.field_layout.proofs.PlaceLaws.{elements-are, part-is}
use Rattle.whole.proofs.FillLaws.{blocks-none, blocks-next, blocks-all}
use Rattle.whole.proofs.SumLaws.{sum_more}
use Rattle.whole.proofs.TableLaws.{length-blocks}
use Rattle.step_grid.proofs.RowLaws.{element-rows, rows-blocks, rows-sum}
use Rattle.step.specs.Finish.{closed_lent}
use Rattle.step.proofs.Laws.{new-length}
use Rattle.step.proofs.tracer.finish.Goals as goal
use Rattle.step.proofs.tracer.finish.Goals.{In-loop-index, After-loop-index, Start}

-- the part has ten numbers an element, and one more
ten : (c : Start) → length c.args.part.now ≡ elements c.args.grid.shape * 10 + 1
ten c = c.requires.part_len ∙ part-is c.args.grid.shape

pub loop-index-init : goal.loop-index-init
unfolding sum
loop-index-init c = (blocks-none (omega (arith, ten (goal.at.loop-index-init c).Start, element-rows c.args.grid.shape)), (refl, omega arith))

pub loop-index-preserved : goal.loop-index-preserved
loop-index-preserved c =
    let a = c.args in
    let l = c.loop-index in
    let g = a.grid.shape in
    let w = g.nx * 10 in
    let each = λ (j : ℕ). length-blocks 10 _ (λ i. new-length g a.psi.now a.rises.now a.masses.now a.report.now (j * g.nx + i)) g.nx in (
      blocks-next each l.invariant.0 (omega arith) refl (add-sub_cancel_left (l.index * w) w) c.finish_row-clipped.ensures.numbers,
      (
        omega (arith, l.invariant.1.0, c.finish_row-clipped.ensures.clipped, sum_more l.index (λ j. sum g.nx (λ i. (closed_lent g a.psi.now a.rises.now a.masses.now a.report.now (j * g.nx + i)).clipped))),
        omega (arith, l.invariant.1.1, c.finish_row-clipped.ensures.upper_bound),
      ),
    )

-- after the loop every row is closed
ended : (c : After-loop-index) → c.loop-index.index ≡ c.args.grid.shape.ny
ended c = omega (arith, c.loop-index-test.false, c.loop-index.invariant.0.within)

pub returns-clause-numbers : goal.returns-clause-numbers
returns-clause-numbers c =
    let a = c.args in
    let g = a.grid.shape in
    let each = new-length g a.psi.now a.rises.now a.masses.now a.report.now in
    let numbers = λ (e : ℕ). (closed_lent g a.psi.now a.rises.now a.masses.now a.report.now e).numbers in
    blocks-all c.loop-index.invariant.0 (omega (arith, ended (goal.at.returns-clause-numbers c).After-loop-index)) (λ j. length-blocks 10 _ (λ i. each (j * g.nx + i)) g.nx)
    ∙ ap (λ x. overwrite 0 x a.part.now) (rows-blocks g.nx g.ny (elements g) (element-rows g) numbers)
    ∙ elements-written quadratic g _ a.part.now (length-blocks 10 _ each (elements g) ∙ sym (elements-are g)) c.requires.part_len

pub returns-clause-clipped : goal.returns-clause-clipped
returns-clause-clipped c =
    let a = c.args in
    let g = a.grid.shape in
    let clipped = λ (e : ℕ). (closed_lent g a.psi.now a.rises.now a.masses.now a.report.now e).clipped in
    c.loop-index.invariant.1.0 ∙ ap (λ n. sum n (λ j. sum g.nx (λ i. clipped (j * g.nx + i)))) (ended (goal.at.returns-clause-clipped c).After-loop-index)
    ∙ rows-sum g.ny g.nx clipped ∙ ap (λ n. sum n clipped) (element-rows g)
