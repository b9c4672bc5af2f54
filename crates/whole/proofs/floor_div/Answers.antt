use mathlib.Core.Path.{◌∙◌}
use Rattle.whole.proofs.FloorLaws.{floor-negative, floor-exact, less-yes, less-no}
use Rattle.whole.proofs.Sizes.{exacts-wide, exact, exact-test}
use Rattle.whole.proofs.floor_div.Goals as goal

pub returns-then-x-d-lt0 : goal.returns-then-x-d-lt0
returns-then-x-d-lt0 c =
    let a = c.args in
    exact (search exacts-wide depth 20) tt ∙ floor-negative a.x a.d c.requires.pos_bound (less-yes c.if-x-d-lt0.true (exact-test (search exacts-wide depth 20) tt))

pub returns-else-x-d-lt0 : goal.returns-else-x-d-lt0
returns-else-x-d-lt0 c =
    let a = c.args in
    exact (search exacts-wide depth 20) tt ∙ floor-exact a.x a.d c.requires.pos_bound (less-no c.if-x-d-lt0.false (exact-test (search exacts-wide depth 20) tt))
