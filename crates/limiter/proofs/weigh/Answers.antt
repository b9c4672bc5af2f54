use Rattle.std.proofs.Common.{rules, tests, ◌*◌, ℕ}
use Rattle.whole.proofs.ChainSums.{below-items, below-sum, below-fits, serves-below}
use Rattle.rules.specs.Field.{quadratic, weighted}
use Rattle.limiter.specs.Values.{value_of}
use Rattle.limiter.proofs.Laws.{node-fits}
use Rattle.limiter.proofs.weigh.Goals as goal
use Rattle.limiter.proofs.weigh.Goals.{Start}

-- the nine terms
abbrev term : Start → ℕ → ℕ
term c k = quadratic.weight k * value_of c.args.values.now k

pub sum-requires-clause-can : goal.sum-requires-clause-can
sum-requires-clause-can c = (tt, serves-below 9 c.map.ensures.source (λ x q k. search rules) (λ k h. let l = c.requires in search (rules, node-fits)))

pub sum-requires-clause-fits : goal.sum-requires-clause-fits
unfolding weighted quadratic
sum-requires-clause-fits c =
    let t = term (goal.at.sum-requires-clause-fits c).Start in
    below-fits t 9 (below-items _ t _ 9 (λ x r q h k. search (rules, tests)) c.map.ensures.source c.map.ensures.closure) c.requires

pub returns : goal.returns
unfolding weighted quadratic
returns c =
    let t = term (goal.at.returns c).Start in
    below-sum t 9 (below-items _ t _ 9 (λ x r q h k. search (rules, tests)) c.map.ensures.source c.map.ensures.closure) c.sum.ensures.ran
