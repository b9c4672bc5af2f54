-- Document 01, "Tendency", of one element, by its own values, the winds of its four faces and the upwind values there, and the same by the products
-- of these winds and upwind values.
use Rattle.std.specs.Prelude.{List, [], ◌∷◌, ℕ, ◌+◌, ◌*◌, ◌/◌, ◌%◌, get_or, ℤ, pos, ◌+ℤ◌, ◌-ℤ◌, ◌*ℤ◌}
use Rattle.whole.specs.Table.{table, at}
use Rattle.whole.specs.Bound.{floor_div}
use Rattle.rules.specs.Field.{quadratic}
use Rattle.rules.specs.Stages.{node, advection}

-- the tendency at node k: v are the element's values, c the winds of its west, east, south and north face, and u the three upwind
-- values of each, in this order
unfoldable pub local_tendency : (ℕ → ℤ) → (ℕ → ℤ) → (ℕ → ℤ) → ℕ → ℤ
unfolding advection
local_tendency v c u k =
    let a = k % 3 in
    let b = k / 3 in
    let ω = quadratic.line_weight in
    floor_div (pos (ω b) *ℤ advection quadratic (λ q. v (node quadratic q b)) (c 0) (c 1) (u b) (u (3 + b)) a
    +ℤ pos (ω a) *ℤ advection quadratic (λ q. v (node quadratic a q)) (c 2) (c 3) (u (6 + a)) (u (9 + a)) b) (8192 * (ω a * ω b))

-- 4096 times what a line of nodes brings to the tendency at its three places, before that is rounded down: X (or Y) divided by twice the place's
-- weight. From the products of winds and values at its three nodes, and from those of the upwind values at its first and its last end.
unfoldable pub place_sums : ℤ → ℤ → ℤ → ℤ → ℤ → List ℤ
place_sums first middle last first_end last_end =
    (pos 3 *ℤ (pos 2 *ℤ first_end -ℤ first) +ℤ (last -ℤ pos 2 *ℤ middle))
    ∷ (first -ℤ last)
    ∷ (pos 3 *ℤ (last -ℤ pos 2 *ℤ last_end) +ℤ (pos 2 *ℤ middle -ℤ first))
    ∷ []

-- the same from the values of its nodes, from the winds cw and ce of the faces at its two ends, and from the products pw and pe of these winds and
-- the upwind values there
unfoldable pub line_tendency : (ℕ → ℤ) → ℤ → ℤ → ℤ → ℤ → List ℤ
unfolding place_sums
line_tendency φ cw ce pw pe = place_sums (cw *ℤ φ 0) ((cw +ℤ ce) *ℤ φ 1) (ce *ℤ φ 2) pw pe

-- the same of line b of those that go one way, from the values v, the faces' products pw and pe and their winds: it starts at step b and goes on by stride
abbrev pub way_line : (ℕ → ℤ) → (ℕ → ℤ) → (ℕ → ℤ) → ℤ → ℤ → ℕ → ℕ → ℕ → List ℤ
way_line v pw pe cw ce step stride b = line_tendency (λ q. v (step * b + stride * q)) cw ce (pw b) (pe b)

-- the tendency at node k, from the lines that go east and those that go north
abbrev pub node_tendency : List (List ℤ) → List (List ℤ) → ℕ → ℤ
node_tendency x y k = floor_div (at (get_or x (k / 3) []) (k % 3) +ℤ at (get_or y (k % 3) []) (k / 3)) 4096

-- the same from the element's values v, from the products of its west, east, south and north face, three each, and from these faces' winds
unfoldable pub element_tendency : (ℕ → ℤ) → (ℕ → ℤ) → (ℕ → ℤ) → (ℕ → ℤ) → (ℕ → ℤ) → ℤ → ℤ → ℤ → ℤ → ℕ → ℤ
unfolding table line_tendency
element_tendency v pw pe ps pn cw ce cs cn = node_tendency (table 3 (way_line v pw pe cw ce 3 1)) (table 3 (way_line v ps pn cs cn 1 3))
