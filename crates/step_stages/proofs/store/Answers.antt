use Rattle.std.proofs.Common.{arith}
use mir.Syntax.{w64}
use Rattle.whole.proofs.Sizes.{read_back}
use Rattle.whole.proofs.FillLaws.{filled_none, filled_next}
use Rattle.step_stages.proofs.store.Goals as goal

pub loop-k-init : goal.loop-k-init
loop-k-init c = filled_none (omega (arith, c.requires))

pub loop-k-preserved : goal.loop-k-preserved
loop-k-preserved c = filled_next c.loop-k.invariant (omega arith) (read_back {n = 4294967295} w64 (record { same = c.from.ensures; bound = record { within = omega (arith, c.type_inv.numbers) } }) tt)
