use Rattle.std.proofs.Common.{rules, tests, ℤ, ℕ, arith}
use mir.Syntax.{w64}
use Rattle.whole.specs.Table.{at}
use Rattle.whole.proofs.ChainSums.{below-items, below-sum_ℤ, below-fits_ℤ, serves-below}
use Rattle.whole.proofs.Sizes.{sizes, fits, read_back}
use Rattle.step_fluxes.proofs.Laws.{term, term-fits, term-is, terms-within}
use Rattle.step_fluxes.proofs.weigh.Goals as goal
use Rattle.step_fluxes.proofs.weigh.Goals.{Start}

-- the three terms
abbrev terms : Start → ℕ → ℤ
terms c = term (at c.args.products.now)

pub sum-requires-clause-can : goal.sum-requires-clause-can
sum-requires-clause-can c = (tt, serves-below 3 c.map.ensures.source (λ x q k. search rules) (λ k h. let small = c.requires.all k in search (rules, term-fits)))

pub sum-requires-clause-fits : goal.sum-requires-clause-fits
sum-requires-clause-fits c =
    let t = terms (goal.at.sum-requires-clause-fits c).Start in
    below-fits_ℤ t 3 (below-items _ t _ 3 (λ x r q h k. let small = c.requires.all x in search (rules, tests, term-is)) c.map.ensures.source c.map.ensures.closure)
    (λ m l. let h = terms-within (at c.args.products.now) c.requires.all m l in fits (search sizes depth 20) tt)

pub returns : goal.returns
returns c =
    let t = terms (goal.at.returns c).Start in
    let b = terms-within (at c.args.products.now) c.requires.all 3 (omega arith) in
    let sum = below-sum_ℤ t 3 (below-items _ t _ 3 (λ x r q h k. let small = c.requires.all x in search (rules, tests, term-is)) c.map.ensures.source c.map.ensures.closure) c.sum.ensures.ran in
    record { same = read_back w64 (record { same = sum; bound = b }) tt; bound = b }
