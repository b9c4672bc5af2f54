-- The neighbours of an element on the grid are on the grid.
use mathlib.Core.Path.{◌≡◌, sym, ap, ◌∙◌}
use Prim.Native.Nat.{ℕ, ◌-◌, ◌≤◌, ◌<◌}
use native.Mathlib.Omega.{arith}
use Rattle.rules.specs.declared.Shape.{Shape}
use Rattle.rules.specs.Field.{elements, north_face}
use Rattle.rules.specs.Grid.{west, south, north, behind, ahead}
use Rattle.rules.proofs.GridLaws.{west-lt, south-lt, behind-north, ahead-north}
use Rattle.rules.proofs.ShapeLaws.{elements-le}
use Rattle.step_grid.specs.Place.{Placed, side_faces, OnGrid}
use Rattle.step_grid.specs.declared.Element.{Element}
use Rattle.step_grid.specs.declared.Face.{Face}

-- an element of the code is on its grid
pub placed : (x : Element) → Placed x.grid.shape x.index
placed x = record { admits = x.grid.admitted; inside = x.inside }

module _ {g : Shape} {e : ℕ} (h : Placed g e) where
  west-in : west g e < elements g
  west-in = west-lt g h.admits.nx-above h.admits.ny-above e h.inside

  pub south-in : south g e < elements g
  south-in = south-lt g h.admits.nx-above h.admits.ny-above e h.inside

-- an element's faces are on the grid
pub sides-in : (x : Element) → OnGrid x.grid.shape (side_faces x.grid.shape x.index)
sides-in x =
    let g = x.grid.shape in
    let h = placed x in
    record { few = omega (arith, elements-le g h.admits); west = omega (arith, west-in h); east = omega (arith, h.inside); south = omega (arith, south-in h); north = omega (arith, h.inside) }

-- the ends of a north face, by the element e that owns it
pub north-ends : (x : Face) {n : ℕ} → n ≡ elements x.grid.shape → elements x.grid.shape ≤ x.index
    → (x.index - n ≡ behind x.grid.shape x.index) × (north x.grid.shape (x.index - n) ≡ ahead x.grid.shape x.index)
north-ends x {n} en h =
    let g = x.grid.shape in
    let e = x.index - n in
    let f : north_face g e ≡ x.index = omega arith in
    let l : e < elements g = omega (arith, x.inside) in
    (sym (behind-north g e l) ∙ ap (behind g) f, sym (ahead-north g e l) ∙ ap (ahead g) f)
