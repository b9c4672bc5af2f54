use native.Mathlib.Omega.{arith}
use Rattle.whole.proofs.NearestLaws.{one-up, none-up}
use Rattle.whole.proofs.nearest.Goals as goal

pub returns-then-d-n : goal.returns-then-d-n
returns-then-d-n c = one-up c.args.n c.args.d c.if-d-n.true

pub returns-else-d-n : goal.returns-else-d-n
returns-else-d-n c = none-up c.args.n c.args.d (omega (arith, c.if-d-n.false))
