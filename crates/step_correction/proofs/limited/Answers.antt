-- A face's limited flux: its donor is on the grid, so that the donor's outflow and mass are read where `Amounts` has them.
use mathlib.Core.Path.{◌≡◌, sym, ap, subst, ◌∙◌}
use mathlib.Core.Bool.{cond}
use Prim.Native.Nat.{ℕ, ◌<◌}
use native.Mathlib.Omega.{arith}
use lib.Signed.{non_neg}
use mir.Syntax.{w64}
use mir.Val.{to_z, of_z}
use Rattle.whole.specs.Table.{at}
use Rattle.whole.specs.Parts.{positive}
use Rattle.whole.proofs.Sizes.{back_is, read_back}
use Rattle.rules.proofs.ShapeLaws.{elements-le}
use Rattle.rules.specs.Field.{elements, limit}
use Rattle.rules.specs.Correction.{cut, donor, limited_flux}
use Rattle.rules.specs.Grid.{behind, ahead}
use Rattle.rules.specs.Sizes.{outflow_size}
use Rattle.step_correction.specs.Amounts.{NotNegative}
use Rattle.step_correction.proofs.Laws.{donor-in}
use Rattle.step_correction.proofs.limited.Goals as goal
use Rattle.step_correction.proofs.limited.Goals.{After-donor-d, Start}

-- the flux as it is read
flux-is : (c : Start) → to_z w64 (of_z w64 (at c.args.fluxes.now c.args.face.index)) ≡ at c.args.fluxes.now c.args.face.index
flux-is c = back_is w64 _ (c.requires.amounts.flux-sizes c.args.face.index c.args.face.inside) tt

inside : (c : After-donor-d) → c.donor-d.result < elements c.args.face.grid.shape
inside c = subst (λ (d : ℕ). d < elements c.args.face.grid.shape) (sym c.donor-d.ensures) (donor-in c.args.face _)

-- the donor's outflow and mass as they are read
out-is : (c : After-donor-d) → to_z w64 (of_z w64 (at c.args.outflows.now c.donor-d.result)) ≡ at c.args.outflows.now c.donor-d.result
out-is c = back_is w64 _ (c.requires.amounts.outflow-sizes c.donor-d.result (inside c)).small tt

mass-is : (c : After-donor-d) → to_z w64 (of_z w64 (at c.args.masses.now c.donor-d.result)) ≡ at c.args.masses.now c.donor-d.result
mass-is c = back_is w64 _ (c.requires.amounts.mass-sizes c.donor-d.result (inside c)).small tt

pub offset_bounds-outflows-d : goal.offset_bounds-outflows-d
offset_bounds-outflows-d c = let x = c.args.face in record { fits = omega (arith, inside (goal.at.offset_bounds-outflows-d c).After-donor-d, elements-le x.grid.shape x.grid.admitted) }

pub bounds-outflows-d : goal.bounds-outflows-d
bounds-outflows-d c = omega (arith, inside (goal.at.bounds-outflows-d c).After-donor-d, c.requires.amounts.all-outflows)

pub offset_bounds-masses-d : goal.offset_bounds-masses-d
offset_bounds-masses-d c = let x = c.args.face in record { fits = omega (arith, inside (goal.at.offset_bounds-masses-d c).After-donor-d, elements-le x.grid.shape x.grid.admitted) }

pub bounds-masses-d : goal.bounds-masses-d
bounds-masses-d c = omega (arith, inside (goal.at.bounds-masses-d c).After-donor-d, c.requires.amounts.all-masses)

pub cut-requires-clause-not_negative : goal.cut-requires-clause-not_negative
cut-requires-clause-not_negative c = let d = (goal.at.cut-requires-clause-not_negative c).After-donor-d in subst (NotNegative outflow_size) (sym (out-is d)) (c.requires.amounts.outflow-sizes c.donor-d.result (inside d))

pub cut-requires-clause-not_negative_2 : goal.cut-requires-clause-not_negative_2
cut-requires-clause-not_negative_2 c = let d = (goal.at.cut-requires-clause-not_negative_2 c).After-donor-d in subst (NotNegative limit) (sym (mass-is d)) (c.requires.amounts.mass-sizes c.donor-d.result (inside d))

pub returns : goal.returns
unfolding limited_flux donor
returns c =
    let a = c.args in
    let x = a.face in
    let s = (goal.at.returns c).Start in
    let d = (goal.at.returns c).After-donor-d in
    let donor-is : c.donor-d.result ≡ cond (non_neg (at a.fluxes.now x.index)) (behind x.grid.shape x.index) (ahead x.grid.shape x.index) =
    c.donor-d.ensures ∙ ap (λ z. cond (non_neg z) (behind x.grid.shape x.index) (ahead x.grid.shape x.index)) (flux-is s) in record {
      same = read_back w64 c.cut.ensures tt ∙ (λ i. cut (flux-is s i) (positive (out-is d i)) (positive (mass-is d i))) ∙ ap (λ n. cut (at a.fluxes.now x.index) (positive (at a.outflows.now n)) (positive (at a.masses.now n))) donor-is;
      bound = c.requires.amounts.cut-sizes x.index x.inside;
    }
