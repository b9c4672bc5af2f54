-- An element's target: a mass and four limited fluxes are read, each within the limit, so that the machine's sum is the rules' target, which is
-- not below 0.
use mathlib.Core.Path.{◌≡◌, sym, ap, ◌∙◌}
use mathlib.Core.List.{List}
use Prim.Native.Nat.{ℕ, ◌≤◌}
use native.Mathlib.Omega.{arith}
use lib.IntN.{ℤ, pos, nat_abs, ◌+ℤ◌, ◌-ℤ◌}
use lib.ListN.{get_or}
use mir.Syntax.{w64}
use mir.Val.{to_z, of_z}
use Rattle.whole.specs.Bound.{Within}
use Rattle.whole.specs.Parts.{positive}
use Rattle.whole.specs.Table.{at}
use Rattle.whole.proofs.Sizes.{sizes, exacts, fits, exact}
use Rattle.whole.proofs.WholeLaws.{pos-positive, above-positive}
use Rattle.rules.specs.Correction.{target}
use Rattle.rules.specs.Field.{limit}
use Rattle.step_grid.specs.Place.{side_faces}
use Rattle.step.specs.Finish.{mass_of}
use Rattle.step.proofs.Laws.{target-within, read}
use Rattle.step.proofs.tracer.target.Goals as goal
use Rattle.step.proofs.tracer.target.Goals.{After-from-4, Start}

mass-small : (c : Start) → Within limit (at c.args.masses.now c.args.element.index)
mass-small c = (c.requires.mass-sizes c.args.element.index c.args.element.inside).small

pub overflow_add-left : goal.overflow_add-left
overflow_add-left c =
    let m = mass-small (goal.at.overflow_add-left c).Start in
    let r = read c.args.report.now (get_or c.sides.result 1 0) c.requires.flux-sizes c.from.ensures in
    let s = read c.args.report.now (get_or c.sides.result 0 0) c.requires.flux-sizes c.from-2.ensures in
    fits (search sizes depth 20) tt

pub overflow_sub-all : goal.overflow_sub-all
overflow_sub-all c =
    let m = mass-small (goal.at.overflow_sub-all c).Start in
    let r = read c.args.report.now (get_or c.sides.result 1 0) c.requires.flux-sizes c.from.ensures in
    let s = read c.args.report.now (get_or c.sides.result 0 0) c.requires.flux-sizes c.from-2.ensures in
    let t = read c.args.report.now (get_or c.sides.result 3 0) c.requires.flux-sizes c.from-3.ensures in
    fits (search sizes depth 20) tt

pub overflow_add-all : goal.overflow_add-all
overflow_add-all c =
    let m = mass-small (goal.at.overflow_add-all c).Start in
    let r = read c.args.report.now (get_or c.sides.result 1 0) c.requires.flux-sizes c.from.ensures in
    let s = read c.args.report.now (get_or c.sides.result 0 0) c.requires.flux-sizes c.from-2.ensures in
    let t = read c.args.report.now (get_or c.sides.result 3 0) c.requires.flux-sizes c.from-3.ensures in
    let u = read c.args.report.now (get_or c.sides.result 2 0) c.requires.flux-sizes c.from-4.ensures in
    fits (search sizes depth 20) tt

-- a number as it is read
abbrev B : ℤ → ℤ
B z = to_z w64 (of_z w64 z)

-- the sum is the target, which is not below 0
made : (c : After-from-4) → let a = c.args in
    B (B (B (B (B (at a.masses.now a.element.index) -ℤ B c.from.result) +ℤ B c.from-2.result) -ℤ B c.from-3.result) +ℤ B c.from-4.result)
    ≡ pos (positive (target a.element.grid.shape (mass_of a.masses.now) (at a.report.now) a.element.index))
unfolding target
made c =
    let a = c.args in
    let g = a.element.grid.shape in
    let e = a.element.index in
    let f = at a.report.now in
    let l = c.sides.result in
    let m = (c.requires.mass-sizes e a.element.inside).small in
    let r = read c.args.report.now (get_or c.sides.result 1 0) c.requires.flux-sizes c.from.ensures in
    let s = read c.args.report.now (get_or c.sides.result 0 0) c.requires.flux-sizes c.from-2.ensures in
    let t = read c.args.report.now (get_or c.sides.result 3 0) c.requires.flux-sizes c.from-3.ensures in
    let u = read c.args.report.now (get_or c.sides.result 2 0) c.requires.flux-sizes c.from-4.ensures in
    let sum : B (B (B (B (B (at a.masses.now e) -ℤ B c.from.result) +ℤ B c.from-2.result) -ℤ B c.from-3.result) +ℤ B c.from-4.result)
    ≡ at a.masses.now e -ℤ f (get_or l 1 0) +ℤ f (get_or l 0 0) -ℤ f (get_or l 3 0) +ℤ f (get_or l 2 0) = exact (search exacts depth 20) tt in
    sum
    ∙ ap (λ (x : List ℕ). at a.masses.now e -ℤ f (get_or x 1 0) +ℤ f (get_or x 0 0) -ℤ f (get_or x 3 0) +ℤ f (get_or x 2 0)) c.sides.ensures.faces
    ∙ (let z = above-positive _ (c.requires.mass-sizes e a.element.inside).above in let x = side_faces g e in
    ap (λ z. z -ℤ f (get_or x 1 0) +ℤ f (get_or x 0 0) -ℤ f (get_or x 3 0) +ℤ f (get_or x 2 0)) z)
    ∙ sym (pos-positive _ (c.requires.targets e a.element.inside))

bound : (c : After-from-4) → let a = c.args in positive (target a.element.grid.shape (mass_of a.masses.now) (at a.report.now) a.element.index) ≤ 500000000
bound c = let a = c.args in target-within a.element.grid.shape a.masses.now a.report.now a.element.index a.element.inside c.requires

pub returns-clause-value : goal.returns-clause-value
returns-clause-value c = c.unsigned_abs.ensures.value ∙ ap nat_abs (made (goal.at.returns-clause-value c).After-from-4)

pub returns-clause-bound : goal.returns-clause-bound
returns-clause-bound c = let x = (goal.at.returns-clause-bound c).After-from-4 in omega (arith, c.unsigned_abs.ensures.value, ap nat_abs (made x), bound x)
