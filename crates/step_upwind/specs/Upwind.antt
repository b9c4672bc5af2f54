-- Where upwind values stand in a stage that is a list, nine numbers an element, and their products with the winds.
use Rattle.std.specs.Prelude.{cond, List, ℕ, ◌+◌, ◌*◌, ◌/◌, ◌%◌, ◌≤◌, ◌<◌, ℤ, pos, negsuc, ◌*ℤ◌, length}
use Rattle.std.specs.Int.Signed.{non_neg}
use Rattle.whole.specs.Table.{table, blocks, at}
use Rattle.whole.specs.Bound.{Within}
use Rattle.rules.specs.declared.Shape.{Shape}
use Rattle.rules.specs.Field.{quadratic, elements, faces}
use Rattle.rules.specs.Stages.{upwind}
use Rattle.rules.specs.Calls.{wind_at}

-- how many numbers a stage has; the first n numbers of one as a list, and a list as one
abbrev pub stage_length : Shape → ℕ
stage_length g = elements g * 9

abbrev pub listed : ℕ → (ℕ → ℕ → ℤ) → List ℤ
listed n φ = table n (λ i. φ (i / 9) (i % 9))

abbrev pub as_stage : List ℤ → ℕ → ℕ → ℤ
as_stage l e k = at l (e * 9 + k)

-- a wind for every face, each in its range
pub record WindsInRange (g : Shape) (wind : List ℤ) : Type 0 where
  pub long : faces g ≤ length wind
  pub small : (f : ℕ) → f < faces g → Within 1024 (wind_at wind f)

-- 0 for a wind that is not negative, else -1
abbrev pub sign : ℤ → ℤ
sign c = cond (non_neg c) (pos 0) (negsuc 0)

-- where the upwind values of a face begin: `last` is the first node of the line that lies at the face in the element behind it
unfoldable pub upwind_start : ℤ → ℕ → ℕ → ℕ → ℕ
upwind_start c behind ahead last = cond (non_neg c) (behind * 9 + last) (ahead * 9)

-- the product of face f's wind and its upwind value at place r; and the products of all faces, three each, in the order of the faces
abbrev pub face_product : Shape → (ℕ → ℤ) → (ℕ → ℕ → ℤ) → ℕ → ℕ → ℤ
face_product g c φ f r = c f *ℤ upwind quadratic g c φ f r

abbrev pub face_products : Shape → (ℕ → ℤ) → (ℕ → ℕ → ℤ) → List ℤ
face_products g c φ = blocks (faces g) (λ f. table 3 (face_product g c φ f))
