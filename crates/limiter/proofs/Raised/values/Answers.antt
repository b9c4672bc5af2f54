use mathlib.Core.Path.{◌≡◌}
use Rattle.std.proofs.Common.{rules}
use Rattle.whole.specs.Table.{table}
use Rattle.whole.proofs.FromFn.{table-from_fn}
use Rattle.limiter.proofs.Laws.{cut_value, cut_value-le, up-to}
use Rattle.limiter.proofs.Raised.values.Goals as goal
use Rattle.limiter.proofs.Raised.values.Goals.{After-from_fn}

made : (c : After-from_fn) → let a = c.args.self in c.from_fn.result ≡ table 9 (cut_value a.closing.psi.now a.shift)
made c = let a = c.args.self in table-from_fn _ (cut_value a.closing.psi.now a.shift) (λ k y q l h. search rules) c.from_fn.ensures.items

pub returns-clause-value : goal.returns-clause-value
returns-clause-value c = made (goal.at.returns-clause-value c).After-from_fn

pub returns-clause-upper_bound : goal.returns-clause-upper_bound
returns-clause-upper_bound c = let a = c.args.self in up-to _ (made (goal.at.returns-clause-upper_bound c).After-from_fn) (cut_value-le a.closing.psi.now a.shift a.closing.all_within a.small)
