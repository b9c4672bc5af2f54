use Rattle.std.proofs.Common.{rules, tests, arith}
use mir.Syntax.{w64}
use Rattle.whole.proofs.ChainSums.{below-items, below-sum_ℤ, below-fits_ℤ, serves-below}
use Rattle.whole.proofs.Sizes.{sizes, fits, read_back}
use Rattle.rules.specs.Field.{quadratic}
use Rattle.limiter.proofs.Laws.{term, term-fits, term-is, terms-within}
use Rattle.limiter.proofs.Closing.weighted_sum.Goals as goal
use Rattle.limiter.proofs.Closing.weighted_sum.Goals.{Start}

pub sum-requires-clause-can : goal.sum-requires-clause-can
sum-requires-clause-can c = (tt, serves-below 9 c.map.ensures.source (λ x q k. search rules) (λ k h. let t = c.args.self.all_within in search (rules, term-fits)))

pub sum-requires-clause-fits : goal.sum-requires-clause-fits
sum-requires-clause-fits c =
    let p = c.args.self.psi.now in
    below-fits_ℤ (term p) 9 (below-items _ (term p) _ 9 (λ x r q h k. let t = c.args.self.all_within in search (rules, tests, term-is)) c.map.ensures.source c.map.ensures.closure) (λ m l. let h = terms-within p m c.args.self.all_within l in fits (search sizes depth 20) tt)

pub returns : goal.returns
unfolding quadratic
returns c =
    let p = c.args.self.psi.now in
    let b = terms-within p 9 c.args.self.all_within (omega arith) in
    record { same = read_back w64 (record { same = below-sum_ℤ (term p) 9 (below-items _ (term p) _ 9 (λ x r q h k. let t = c.args.self.all_within in search (rules, tests, term-is)) c.map.ensures.source c.map.ensures.closure) c.sum.ensures.ran; bound = b }) tt; bound = b }
