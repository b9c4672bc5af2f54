-- Document 01, "Field", and document 02, 2026-06: shapes, the kind of element, where numbers stand, what an element and a tracer hold.
-- A tracer is document 01's smoke; a tracer's part is its numbers in the field buffer.
use Rattle.std.specs.Prelude.{Bool, true, cond, ◌&&◌, List, [], ◌∷◌, ◌++◌, ℕ, eqb, ◌+◌, ◌*◌, ◌-◌, ◌/◌, ◌%◌, ◌≤◌, ◌<◌, leb, ltb, ℤ, pos, nat_abs, ◌-ℤ◌, ◌*ℤ◌, get_or, take, drop}
use Rattle.whole.specs.Sum.{sum, all}
use Rattle.whole.specs.Table.{overwrite}
use Rattle.rules.specs.declared.Shape.{Shape}

-- ---- shape
-- "nx and ny from 1 to 64, K smokes from 1 to 8"
abbrev pub from1to : ℕ → ℕ → Bool
from1to most n = leb 1 n && leb n most

unfoldable pub admitted : Shape → Bool
admitted g = from1to 64 g.nx && (from1to 64 g.ny && from1to 8 g.tracers)

-- the same as facts: what every leaf of the code asks of a shape
pub record Admitted (g : Shape) : Type 0 where
  pub nx-above : 0 < g.nx
  pub nx-small : g.nx ≤ 64
  pub ny-above : 0 < g.ny
  pub ny-small : g.ny ≤ 64
  pub tracers-above : 0 < g.tracers
  pub tracers-small : g.tracers ≤ 8

-- elements of one tracer, and faces: "Each element owns its east and its north face."
abbrev pub elements : Shape → ℕ
elements g = g.nx * g.ny

abbrev pub faces : Shape → ℕ
faces g = elements g + elements g

-- "Work: 64·nx·ny"
abbrev pub work_needed : Shape → ℕ
work_needed g = 64 * elements g

-- element (i, j) has the index j nx + i, "j outer, i inner"; it is there where i and j are on the grid
abbrev pub element : Shape → ℕ → ℕ → ℕ
element g i j = j * g.nx + i

abbrev pub on_grid : Shape → ℕ → ℕ → Bool
on_grid g i j = ltb i g.nx && ltb j g.ny

-- "all east faces (j outer, i inner), then all north faces": the east face of element e has the index e, its north face this
abbrev pub north_face : Shape → ℕ → ℕ
north_face g e = elements g + e

-- C, "−1024 to 1024"
abbrev pub wind_in_range : ℤ → Bool
wind_in_range c = leb (nat_abs c) 1024

-- ---- kind of element: what the rules ask of the nodes
pub record Kind : Type 0 where
  -- how many nodes, and the weight of node k
  pub nodes : ℕ
  pub weight : ℕ → ℕ
  -- nodes each way; node (a, b) is node side b + a
  pub side : ℕ
  -- the weight of place a along one direction, document 01's ω
  pub line_weight : ℕ → ℕ
  -- row q and column a of document 01's E
  pub derivative : ℕ → ℕ → ℤ
  -- the west wind's factor in document 01's c of place q; the east wind's is 2 minus it
  pub west_share : ℕ → ℕ
  -- the factor of the upwind values in the tendency
  pub edge_factor : ℕ
  -- the divisor of a face's sum
  pub face_divisor : ℕ

-- Weights and E are worked out: document 02, 2026-07, "The nine numbers of E are to be worked out from q and a, and the nine node weights from a and b."

-- "Gauss-Lobatto weights as whole numbers: ω = 1, 4, 1"
abbrev pub ω : ℕ → ℕ
ω a = 1 + 3 * (a % 2)

-- "Rows q of E: (−3, 4, −1), (−1, 0, 1), (1, −4, 3)": twice the slope at place q of the parabola that is 1 at place a and 0 at the two others. From a
-- place to the next its slope grows by 1, −2, 1 for a = 0, 1, 2, and it is 0 halfway between the two others, at (3 − a) / 2: so twice the slope at q
-- is that number times 2q + a − 3.
abbrev pub E : ℕ → ℕ → ℤ
E q a = (pos 1 -ℤ pos (3 * (a % 2))) *ℤ (pos (2 * q + a) -ℤ pos 3)

-- the quadratic element: "Node weight ωaωb"; "c0 = 2Cw, c1 = Cw + Ce, c2 = 2Ce"
unfoldable pub quadratic : Kind
quadratic = record {
  nodes = 9;
  weight = λ k. ω (k % 3) * ω (k / 3);
  side = 3;
  line_weight = ω;
  derivative = E;
  west_share = λ q. 2 - q;
  edge_factor = 12;
  face_divisor = 4096;
}

-- "the nine weights sum to 36"
unfoldable pub weight_sum : Kind → ℕ
weight_sum κ = sum κ.nodes κ.weight

-- every node's weight is above 0
abbrev pub PositiveWeights : Kind → Type 0
PositiveWeights κ = (k : ℕ) → k < κ.nodes → 0 < κ.weight k

-- ---- layout: "smoke outer, then j, then i, ten numbers an element", the values and then the remainder
unfoldable pub element_length : Kind → ℕ
element_length κ = κ.nodes + 1

-- how many numbers a tracer's elements have, and its part of the field: document 02, 2026-06, "Each smoke gets one u32 more after its last
-- element, holding its total."
unfoldable pub elements_length : Kind → Shape → ℕ
unfolding element_length
elements_length κ g = elements g * element_length κ

unfoldable pub part_length : Kind → Shape → ℕ
unfolding elements_length
part_length κ g = elements_length κ g + 1

unfoldable pub field_length : Kind → Shape → ℕ
unfolding part_length
field_length κ g = g.tracers * part_length κ g

-- a tracer's part of the field, and the field with that part replaced
unfoldable pub part : Kind → Shape → ℕ → List ℕ → List ℕ
unfolding part_length
part κ g s field = take (part_length κ g) (drop (s * part_length κ g) field)

unfoldable pub with_part : Kind → Shape → ℕ → List ℕ → List ℕ → List ℕ
unfolding part_length overwrite
with_part κ g s p field = overwrite (s * part_length κ g) p field

-- number k of element e of a part: value k, and the remainder (document 01's ρ) after the last node
unfoldable pub cell : Kind → List ℕ → ℕ → ℕ → ℕ
unfolding element_length
cell κ p e k = get_or p (e * element_length κ + k) 0

unfoldable pub remainder : Kind → List ℕ → ℕ → ℕ
unfolding cell
remainder κ p e = cell κ p e κ.nodes

-- the total that a part stores, a part made of its elements' numbers and a total, and a part with another total
unfoldable pub stored_total : Kind → Shape → List ℕ → ℕ
unfolding elements_length
stored_total κ g p = get_or p (elements_length κ g) 0

unfoldable pub part_of : List ℕ → ℕ → List ℕ
part_of numbers t = numbers ++ (t ∷ [])

unfoldable pub with_stored_total : Kind → Shape → ℕ → List ℕ → List ℕ
unfolding elements_length overwrite
with_stored_total κ g t p = overwrite (elements_length κ g) (t ∷ []) p

-- ---- what is held
-- the weighted sum of an element's values
unfoldable pub weighted : Kind → (ℕ → ℕ) → ℕ
weighted κ v = sum κ.nodes (λ k. κ.weight k * v k)

-- an element's mass, "It holds M = Σ ωaωbφ + ρ"
unfoldable pub mass : Kind → List ℕ → ℕ → ℕ
unfolding weighted cell remainder
mass κ p e = weighted κ (cell κ p e) + remainder κ p e

-- "A smoke's total is the sum of M, at most 100,000,000"
unfoldable pub total : Kind → Shape → List ℕ → ℕ
unfolding mass
total κ g p = sum (elements g) (mass κ p)

abbrev pub limit : ℕ
limit = 100000000

-- ---- document 01, "Who meets which refusal", 6, and document 02, 2026-06
-- no "remainder above 35" in element e
abbrev pub remainder_sound : Kind → List ℕ → ℕ → Bool
remainder_sound κ p e = ltb (remainder κ p e) (weight_sum κ)

-- of all elements: no such remainder, and no "total above 100,000,000"
unfoldable pub sum_sound : Kind → Shape → List ℕ → Bool
unfolding remainder total weight_sum all
sum_sound κ g p = all (elements g) (remainder_sound κ p) && leb (total κ g p) limit

-- "Step, the printed map, file reading and file writing still sum, and give 6 where sum and stored total differ."
unfoldable pub sound : Kind → Shape → List ℕ → Bool
unfolding sum_sound total stored_total
sound κ g p = sum_sound κ g p && eqb (total κ g p) (stored_total κ g p)

-- "Emission, withdrawal and the readings look at the named element and the stored total only. They give 6 for that element's remainder above 35, a
-- stored total above 100,000,000, or an element holding more than it; one off the grid has no numbers."
unfoldable pub stored_sound : Kind → Shape → List ℕ → Bool
unfolding stored_total
stored_sound κ g p = leb (stored_total κ g p) limit

unfoldable pub element_sound : Kind → Shape → List ℕ → ℕ → Bool
unfolding remainder weight_sum mass stored_total
element_sound κ g p e = remainder_sound κ p e && leb (mass κ p e) (stored_total κ g p)

-- a test of what may not be there: what is not there "has no numbers", so it passes
unfoldable pub if_there : Bool → Bool → Bool
if_there there test = cond there test true

-- of element (i, j) and the stored total
unfoldable pub named_sound : Kind → Shape → ℕ → ℕ → List ℕ → Bool
unfolding stored_sound element_sound if_there
named_sound κ g i j p = stored_sound κ g p && if_there (on_grid g i j) (element_sound κ g p (element g i j))
