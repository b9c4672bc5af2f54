-- An element of an admitted shape, by its number, and its faces.
use Rattle.std.specs.Prelude.{List, [], ◌∷◌, ℕ, ◌*◌, ◌≤◌, ◌<◌, get_or}
use Rattle.rules.specs.declared.Shape.{Shape}
use Rattle.rules.specs.Field.{elements, faces, north_face, Admitted}
use Rattle.rules.specs.Sizes.{most_elements}
use Rattle.rules.specs.Grid.{west, south}

-- element e is on its grid
pub record Placed (g : Shape) (e : ℕ) : Type 0 where
  pub admits : Admitted g
  pub inside : e < elements g

-- an element's west, east, south and north face: "Cw belongs to the west neighbour"
abbrev pub side_faces : Shape → ℕ → List ℕ
side_faces g e = west g e ∷ e ∷ north_face g (south g e) ∷ north_face g e ∷ []

-- four faces are on the grid, which has few
pub record OnGrid (g : Shape) (l : List ℕ) : Type 0 where
  pub few : faces g ≤ 2 * most_elements
  pub west : get_or l 0 0 < faces g
  pub east : get_or l 1 0 < faces g
  pub south : get_or l 2 0 < faces g
  pub north : get_or l 3 0 < faces g
