use Rattle.std.proofs.Common.{ap, ◌∙◌, arith, ◌+ℤ◌, pos, get_or}
use mir.Syntax.{w64}
use Rattle.whole.specs.Bound.{Within, floor_div}
use Rattle.whole.specs.Table.{at}
use Rattle.whole.proofs.Sizes.{back_is}
use Rattle.whole.proofs.FillLaws.{filled_none, filled_next}
use Rattle.step_stages.specs.Passes.{from_stage, divisor}
use Rattle.step_stages.proofs.Laws.{B, value-exact}
use Rattle.step_stages.proofs.set.Goals as goal

pub loop-k-init : goal.loop-k-init
loop-k-init c = filled_none (omega (arith, c.requires.values_len))

pub loop-k-preserved : goal.loop-k-preserved
loop-k-preserved c =
    let a = c.args in
    let k = c.loop-k.k in
    let v = pos (get_or a.numbers.now k 0) in
    let small : Within 4294967295 v = record { within = omega (arith, c.type_inv.numbers) } in
    let s = at a.sums.now k in
    filled_next c.loop-k.invariant (omega arith)
    (ap (λ z. B (B z +ℤ B c.divided.result)) c.from.ensures ∙ value-exact small c.divided.ensures ∙ ap (λ z. v +ℤ floor_div z (divisor (from_stage a.pass))) (back_is w64 s (c.requires.sums_small.all k) tt))
