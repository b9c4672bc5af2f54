use Rattle.std.proofs.Common.{◌+◌, ◌*◌}
use Rattle.whole.proofs.Sizes.{sizes, exacts, fits, exact}
use Rattle.step_upwind.proofs.Stage.product.Goals as goal

pub overflow_mul-result-2 : goal.overflow_mul-result-2
overflow_mul-result-2 c = let a = c.args in let w = c.requires.wind in let v = a.self.small.all (a.line.start + a.line.stride * a.r) in fits (search sizes depth 20) tt

pub returns : goal.returns
returns c = let a = c.args in let w = c.requires.wind in let v = a.self.small.all (a.line.start + a.line.stride * a.r) in exact (search exacts depth 20) tt
