use mathlib.Core.Path.{◌≡◌, sym, ap, ◌∙◌}
use native.Mathlib.Omega.{arith}
use lib.ListN.{get_or}
use Rattle.rules.specs.Field.{quadratic, stored_total}
use Rattle.rules.proofs.AnswerLaws.{passed_on}
use Rattle.field_layout.proofs.PlaceLaws.{part-is-more}
use Rattle.field_search.proofs.SearchLaws.{sum-refused, sum-is, sum-differs}
use Rattle.field_search.proofs.compared_sum.Given.{Over}
use Rattle.field_search.proofs.compared_sum.Goals as goal
use Rattle.field_search.proofs.compared_sum.Goals.{After-from}

pub search-requires : goal.search-requires
search-requires g c = omega (arith, c.requires, part-is-more c.args.grid.shape)

pub number-requires : goal.number-requires
number-requires g c = omega (arith, c.elements_length.ensures, c.requires, part-is-more c.args.grid.shape)

pub returns-in_err-sum : goal.returns-in_err-sum
returns-in_err-sum g c =
    let r = c.from_residual in
    passed_on r.result _ r.ensures.1 ∙ sym (sum-refused c.args.grid.shape (g.N.Numbers.numbers c.args.numbers.now) _ (sym c.in_err-sum.ensures))

-- the number that is compared is the stored total
stored_is : (g : Over) (c : After-from g) → stored_total quadratic c.args.grid.shape (g.N.Numbers.numbers c.args.numbers.now) ≡ c.from.result
unfolding stored_total
stored_is g c = sym (c.from.ensures ∙ c.number.ensures ∙ ap (λ n. get_or (g.N.Numbers.numbers c.args.numbers.now) n 0) c.elements_length.ensures)

pub returns-then-from-sum : goal.returns-then-from-sum
returns-then-from-sum g c = sym (sum-differs c.args.grid.shape (g.N.Numbers.numbers c.args.numbers.now) c.in_ok-sum.sum (sym c.in_ok-sum.ensures) (λ e. c.if-from-sum.true (sym (stored_is g c.before) ∙ e)))

pub returns : goal.returns
returns g c = sym (sum-is c.args.grid.shape (g.N.Numbers.numbers c.args.numbers.now) c.in_ok-sum.sum (sym c.in_ok-sum.ensures) (stored_is g c.before ∙ c.if-from-sum.false))
