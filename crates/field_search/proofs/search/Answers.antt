use mathlib.Core.Path.{◌≡◌, sym, ◌∙◌}
use mathlib.Core.Bool.{cond}
use Prim.Native.Nat.{◌≤◌, ◌+◌, ◌*◌, ◌^◌}
use native.Mathlib.Omega.{arith}
use lib.ListN.{length}
use Rattle.rules.specs.Answers.{accepted, refused}
use Rattle.rules.specs.Sizes.{most_elements}
use Rattle.rules.proofs.GridLaws.{element-lt}
use Rattle.rules.proofs.ShapeLaws.{all-rows}
use Rattle.field_elements.proofs.ElementLaws.{weighs-small}
use Rattle.field_search.specs.Search.{searched}
use Rattle.field_search.proofs.SearchLaws.{search-starts, at-element, element-starts, number-added, element-ends, numbers-room, sound-all, total-all, broken, searched-is}
use Rattle.field_search.proofs.search.Given.{Over}
use Rattle.field_search.proofs.search.Goals as goal
use Rattle.field_search.proofs.search.Goals.{After-number_weight, In-elements, Left-rows, else-rows-test, then-rows-test+then-elements-test+then-numbers-test+then-breaks}

-- the element of a turn is there, with its numbers
room : (g : Over) (c : In-elements g)
    → (c.elements.start + 10 ≤ length (g.N.Numbers.numbers c.args.numbers.now)) × (c.elements.start + 10 ≤ 10 * most_elements)
room g c =
    let s = c.args.grid.shape in
    let r = numbers-room s c.elements.invariant.0 c.args.grid.admitted (element-lt s c.elements.i c.rows.j c.elements-test.true c.rows-test.true) in
    (omega (arith, r.0, c.requires), r.1)

pub rows-init : goal.rows-init
rows-init g c = (search-starts (g.N.Numbers.numbers c.args.numbers.now) c.args.grid.shape.nx, omega arith)

pub number-requires : goal.number-requires
number-requires g c = let r = room g (goal.at.number-requires g c).In-elements in omega arith

-- what a turn adds
added : (g : Over) (c : After-number_weight g) → c.number_weight.result * c.from-x.result ≤ 16 * 2 ^ 32
added g c = weighs-small c.numbers.v c.number_weight.ensures (record { fits = omega (arith, c.from-x.ensures, c.number.type_inv) })

pub numbers-preserved : goal.numbers-preserved
numbers-preserved g c =
    number-added c.numbers.invariant c.numbers-test.true c.number_weight.ensures (c.from-x.ensures ∙ c.number.ensures) (sym c.breaks.ensures ∙ c.if-breaks.false)

pub elements-preserved : goal.elements-preserved
elements-preserved g c = (at-element (omega arith) (element-ends c.elements.invariant.0 c.numbers.invariant (omega arith)), omega arith)

-- what the two ways out of the search say: no row is left, or a number is a break
outcome : (g : Over) (c : Left-rows g)
    → searched c.args.grid.shape (g.N.Numbers.numbers c.args.numbers.now) ≡ cond c.rows-test.sound (accepted c.rows-test.sum) (refused 6)
outcome g c =
    let s = c.args.grid.shape in
    let p = g.N.Numbers.numbers c.args.numbers.now in
    let r = c.rows in
    elim c.rows-test.branch [
      | else-rows-test w ↦
          let n = all-rows s r.j (omega (arith, w.rows-test.false)) in
          searched-is s p ∙ (rw (w.sum-is, w.sound-is, r.invariant.0.going, sound-all s r.invariant.0 n, total-all s r.invariant.0 n))
      | then-rows-test+then-elements-test+then-numbers-test+then-breaks w ↦
          searched-is s p ∙ (rw (w.sound-is, broken s w.elements.invariant.0 (element-lt s w.elements.i r.j w.elements-test.true w.rows-test.true) w.numbers.invariant w.numbers-test.true w.number_weight.ensures (w.from-x.ensures ∙ w.number.ensures) (sym w.breaks.ensures ∙ w.if-breaks.true)))
    ]

pub returns-then-sound : goal.returns-then-sound
returns-then-sound g c = sym (outcome g (goal.at.returns-then-sound g c).Left-rows ∙ rw c.if-sound.true)

pub returns-else-sound : goal.returns-else-sound
returns-else-sound g c = sym (outcome g (goal.at.returns-else-sound g c).Left-rows ∙ rw c.if-sound.false)

pub numbers-init : goal.numbers-init
numbers-init g c = element-starts c.elements.invariant.0

pub overflow_add-start : goal.overflow_add-start
overflow_add-start g c = let r = room g (goal.at.overflow_add-start g c).In-elements in omega arith

pub overflow_mul-sum : goal.overflow_mul-sum
overflow_mul-sum g c = record { fits = omega (arith, added g (goal.at.overflow_mul-sum g c).After-number_weight) }

pub overflow_add-sum : goal.overflow_add-sum
overflow_add-sum g c = record { fits = omega (arith, added g (goal.at.overflow_add-sum g c).After-number_weight) }
