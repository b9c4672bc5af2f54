use Rattle.std.proofs.Common.{◌≡◌, sym, ap, ◌∙◌, arith}
use lib.IntN.{pos, ◌+ℤ◌, ◌*ℤ◌}
use mir.Syntax.{w64}
use Rattle.whole.specs.Table.{at}
use Rattle.whole.proofs.Sizes.{sizes, fits, back_is}
use Rattle.whole.proofs.FillLaws.{filled_none, filled_next, filled-rest}
use Rattle.step_stages.proofs.Laws.{B, add-exact}
use Rattle.step_stages.proofs.add.Goals as goal
use Rattle.step_stages.proofs.add.Goals.{In-loop-k}

pub loop-k-init : goal.loop-k-init
loop-k-init c = filled_none (omega (arith, c.requires.sums_len))

-- the sum that a turn reads
sum_is : (c : In-loop-k) → at c.loop-k.sums c.loop-k.k ≡ at c.args.sums.now c.loop-k.k
sum_is c = filled-rest c.loop-k.invariant c.loop-k.k (pos 0) (omega arith)

pub overflow_add-sum : goal.overflow_add-sum
overflow_add-sum c =
    let e = sum_is (goal.at.overflow_add-sum c).In-loop-k in
    let h = c.requires in
    rw e (fits (search sizes depth 20) tt)

pub loop-k-preserved : goal.loop-k-preserved
loop-k-preserved c =
    let k = c.loop-k.k in
    let h = c.requires in
    filled_next c.loop-k.invariant (omega arith)
    (ap (λ z. B (B z +ℤ B (B c.args.times *ℤ B (at c.args.t.now k)))) (sum_is (goal.at.loop-k-preserved c).In-loop-k) ∙ add-exact (h.all_within.all k) h.within (h.all_within_2.all k)
    ∙ ap (λ m. at c.args.sums.now k +ℤ m *ℤ at c.args.t.now k) (sym (back_is w64 c.args.times h.within tt)))
