-- Document 01, "Step": upwind values, the tendency, the three stages, and the face amounts (fluxes) G, rounded as document 02, 2026-02 has it.
-- A stage is a function φ of an element and a node, the wind a function c of a face.
use Rattle.std.proofs.Math.Bool.{cond}
use Rattle.std.specs.Prelude.{List, ℕ, ◌+◌, ◌*◌, ◌-◌, ◌/◌, ◌%◌, eqb, ℤ, ◌+ℤ◌, ◌-ℤ◌, ◌*ℤ◌, get_or}
use Rattle.std.proofs.Math.IntN.{pos}
use Rattle.std.specs.Int.Signed.{non_neg}
use Rattle.whole.specs.Bound.{floor_div}
use Rattle.whole.specs.Nearest.{nearest}
use Rattle.whole.specs.Sum.{sum_ℤ}
use Rattle.whole.specs.Table.{table}
use Rattle.rules.specs.declared.Shape.{Shape}
use Rattle.rules.specs.Field.{Kind, elements, north_face, cell}
use Rattle.rules.specs.Grid.{west, south, looks_east, behind, ahead}

-- "Node (a, b) has a, b in 0..2 (west to east, south to north)", "b outer, a inner"
abbrev pub node : Kind → ℕ → ℕ → ℕ
node κ a b = κ.side * b + a

abbrev pub last_place : Kind → ℕ
last_place κ = κ.side - 1

module _ (κ : Kind) (g : Shape) (c : ℕ → ℤ) (φ : ℕ → ℕ → ℤ) where
  -- "on an east face with C ≥ 0 node (2, b) of the west element, else node (0, b) of the east element; north faces likewise":
  -- the upwind value at place r of face f
  unfoldable pub upwind : ℕ → ℕ → ℤ
  unfolding behind ahead
  upwind f r = cond (non_neg (c f))
      (φ (behind g f) (cond (looks_east g f) (node κ (last_place κ) r) (node κ r (last_place κ))))
      (φ (ahead g f) (cond (looks_east g f) (node κ 0 r) (node κ r 0)))

-- the wind at place q between the winds of a west and an east face: "c0 = 2Cw, c1 = Cw + Ce, c2 = 2Ce"
unfoldable pub place_wind : Kind → ℤ → ℤ → ℕ → ℤ
place_wind κ cw ce q = pos (κ.west_share q) *ℤ cw +ℤ pos (2 - κ.west_share q) *ℤ ce

-- "X = Σ over q of ωq·cq·φ(q, b)·E(q, a), minus 12·Ce·(upwind value on the east face at b) if a = 2, plus 12·Cw·(upwind value
-- on the west face at b) if a = 0": for the values of one line of nodes, the winds cw and ce and the upwind values uw and ue of
-- the faces at its two ends, at place a
unfoldable pub advection : Kind → (ℕ → ℤ) → ℤ → ℤ → ℤ → ℤ → ℕ → ℤ
unfolding place_wind
advection κ line cw ce uw ue a =
    sum_ℤ κ.side (λ q. pos (κ.line_weight q) *ℤ place_wind κ cw ce q *ℤ line q *ℤ κ.derivative q a)
    -ℤ cond (eqb a (last_place κ)) (pos κ.edge_factor *ℤ ce *ℤ ue) (pos 0)
    +ℤ cond (eqb a 0) (pos κ.edge_factor *ℤ cw *ℤ uw) (pos 0)

module _ (κ : Kind) (g : Shape) (c : ℕ → ℤ) (φ : ℕ → ℕ → ℤ) where
  -- X at node (a, b) of element e, and Y, "the same along b with south and north"; "Cw belongs to the west neighbour"
  unfoldable pub along_x : ℕ → ℕ → ℕ → ℤ
  unfolding advection upwind west
  along_x e a b = advection κ (λ q. φ e (node κ q b)) (c (west g e)) (c e) (upwind κ g c φ (west g e) b) (upwind κ g c φ e b) a

  unfoldable pub along_y : ℕ → ℕ → ℕ → ℤ
  unfolding advection upwind south
  along_y e a b = advection κ (λ q. φ e (node κ a q)) (c (north_face g (south g e))) (c (north_face g e))
      (upwind κ g c φ (north_face g (south g e)) a) (upwind κ g c φ (north_face g e) a) b

  -- "t(a, b) = floor((ωb·X + ωa·Y) / (8192·ωaωb))", at node k of element e; 8192 is the same for every kind of element
  unfoldable pub tendency : ℕ → ℕ → ℤ
  unfolding along_x along_y
  tendency e k =
      let a = k % κ.side in
      let b = k / κ.side in
      floor_div (pos (κ.line_weight b) *ℤ along_x e a b +ℤ pos (κ.line_weight a) *ℤ along_y e a b) (8192 * (κ.line_weight a * κ.line_weight b))

-- f e k for e < n and k < nodes, computed once
unfoldable pub tabulated : Kind → ℕ → (ℕ → ℕ → ℤ) → ℕ → ℕ → ℤ
unfolding table
tabulated κ n f =
    let l : List ℤ = table (n * κ.nodes) (λ i. f (i / κ.nodes) (i % κ.nodes)) in
    λ e k. get_or l (e * κ.nodes + k) (pos 0)

-- "φ0 (the stored values), φ1 = φ0 + t0, φ2 = φ0 + floor((t0 + t1) / 4)", from the tendencies of the stages before
unfoldable pub stage0 : Kind → List ℕ → ℕ → ℕ → ℤ
unfolding cell
stage0 κ p e k = pos (cell κ p e k)

unfoldable pub stage1 : (ℕ → ℕ → ℤ) → (ℕ → ℕ → ℤ) → ℕ → ℕ → ℤ
stage1 φ0 t0 e k = φ0 e k +ℤ t0 e k

unfoldable pub stage2 : (ℕ → ℕ → ℤ) → (ℕ → ℕ → ℤ) → (ℕ → ℕ → ℤ) → ℕ → ℕ → ℤ
stage2 φ0 t0 t1 e k = φ0 e k +ℤ floor_div (t0 e k +ℤ t1 e k) 4

-- "The tentative ψ = φ0 + floor((t0 + t1 + 4·t2) / 6)"
unfoldable pub tentative : (ℕ → ℕ → ℤ) → (ℕ → ℕ → ℤ) → (ℕ → ℕ → ℤ) → (ℕ → ℕ → ℤ) → ℕ → ℕ → ℤ
tentative φ0 t0 t1 t2 e k = φ0 e k +ℤ floor_div (t0 e k +ℤ t1 e k +ℤ pos 4 *ℤ t2 e k) 6

-- "G = C · Σ ω·(p0 + 4·p2 + p1) / 4096", from the face's sum; in the place of "truncated toward zero" document 02, 2026-02: "to the
-- nearest whole number, an exact half to the even one. G follows."
unfoldable pub flux_of : Kind → ℤ → ℤ → ℤ
unfolding nearest
flux_of κ c s = nearest (c *ℤ s) κ.face_divisor

-- "The sum is over the face's three nodes, ω is 1, 4, 1 along the face, p0..p2 are the stages' upwind values."
unfoldable pub face_sum : Kind → (ℕ → ℤ) → (ℕ → ℤ) → (ℕ → ℤ) → ℤ
face_sum κ p0 p1 p2 = sum_ℤ κ.side (λ r. pos (κ.line_weight r) *ℤ (p0 r +ℤ pos 4 *ℤ p2 r +ℤ p1 r))

-- the stages of a tracer's part under a wind, each computed once: nodal values φ, tendencies t, the tentative ψ
pub record Stages : Type 0 where
  pub φ0 : ℕ → ℕ → ℤ
  pub t0 : ℕ → ℕ → ℤ
  pub φ1 : ℕ → ℕ → ℤ
  pub t1 : ℕ → ℕ → ℤ
  pub φ2 : ℕ → ℕ → ℤ
  pub t2 : ℕ → ℕ → ℤ
  pub ψ : ℕ → ℕ → ℤ

unfoldable pub stages : Kind → Shape → (ℕ → ℤ) → List ℕ → Stages
unfolding stage0 tendency tabulated stage1 stage2 tentative
stages κ g c p =
    let φ0 = stage0 κ p in
    let t0 = tabulated κ (elements g) (tendency κ g c φ0) in
    let φ1 = stage1 φ0 t0 in
    let t1 = tabulated κ (elements g) (tendency κ g c φ1) in
    let φ2 = stage2 φ0 t0 t1 in
    let t2 = tabulated κ (elements g) (tendency κ g c φ2) in
    record { φ0 = φ0; t0 = t0; φ1 = φ1; t1 = t1; φ2 = φ2; t2 = t2; ψ = tentative φ0 t0 t1 t2 }

-- the face amount of face f
unfoldable pub flux : Kind → Shape → (ℕ → ℤ) → Stages → ℕ → ℤ
unfolding flux_of face_sum upwind
flux κ g c s f = flux_of κ (c f) (face_sum κ (upwind κ g c s.φ0 f) (upwind κ g c s.φ1 f) (upwind κ g c s.φ2 f))
