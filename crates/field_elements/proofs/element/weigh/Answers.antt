use Rattle.std.proofs.Common.{rules, of_calls, tests, ◌∙◌, length, arith}
use Rattle.std.specs.List.{enumerate_from}
use Rattle.std.specs.Iterator.Adapters.{map_source, enumerate_steps}
use Rattle.std.proofs.iter.Yields.{fronts}
use Rattle.std.proofs.lemmas.Iterator.{YieldsList}
use Rattle.std.proofs.lemmas.Iterator.Adapters.{serves_from_places}
use Rattle.whole.proofs.ChainSums.{numbered-items, mapped-sum, mapped-fits}
use Rattle.field_elements.proofs.ElementLaws.{number_term, weighs-fit, weighed-chain, weighed-le}
use Rattle.field_elements.proofs.element.weigh.Goals as goal
use Rattle.field_elements.proofs.element.weigh.Goals.{After-map}

-- the numbers, with their places
items : (c : After-map) → YieldsList (enumerate_steps fronts) (λ p. (p.0, p.1.now)) (map_source c.map.result) (enumerate_from 0 c.args.numbers.now)
items c = numbered-items c.args.numbers.now c.iter.ensures.rest c.enumerate.ensures.source c.enumerate.ensures.count c.map.ensures.source

pub sum-requires-clause-can : goal.sum-requires-clause-can
sum-requires-clause-can c = (search of_calls, serves_from_places (items c) (λ x q k. search rules) (λ x k l e. search (rules, weighs-fit)))

pub sum-requires-clause-fits : goal.sum-requires-clause-fits
sum-requires-clause-fits c =
    let p = c.args.numbers.now in
    mapped-fits _ number_term (items c) c.map.ensures.closure (λ x r q k. search (rules, tests)) (omega (arith, weighed-chain p, weighed-le p (length p) c.type_inv.numbers, c.requires))

pub returns-clause-value : goal.returns-clause-value
returns-clause-value c = mapped-sum _ number_term (items (goal.at.returns-clause-value c).After-map) c.map.ensures.closure (λ x r q k. search (rules, tests)) c.sum.ensures.ran ∙ weighed-chain c.args.numbers.now

pub returns-clause-upper_bound : goal.returns-clause-upper_bound
returns-clause-upper_bound c = omega (arith, returns-clause-value c, weighed-le c.args.numbers.now (length c.args.numbers.now) c.type_inv.numbers, c.requires)
