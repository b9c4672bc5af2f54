-- How large the stages are: with every wind number within 1024 and every stored value at most B, a tendency is at most 7 times
-- the largest value that it is made of. The step's code needs these sizes.
use mathlib.Core.Path.{◌≡◌, refl, ap, ◌∙◌}
use mathlib.Core.Bool.{Bool, true, false, cond}
use mathlib.Core.List.{List}
use Prim.Native.Nat.{ℕ, ◌+◌, ◌*◌, ◌-◌, ◌/◌, ◌%◌, ◌≤◌, ◌<◌}
use native.Mathlib.Nat.{mul_comm, mul_assoc, mul_left_comm, mul_right_comm, mul-le-mul, mul-le-mul_left, mul-le-mul_right, div-lt_iff_lt-mul, mod-lt, add-mul}
use native.Mathlib.Omega.{arith}
use lib.Dec.{eqb, leb, leb→le}
use lib.IntN.{ℤ, pos, nat_abs, ◌+ℤ◌, ◌*ℤ◌}
use lib.ListN.{get_or}
use lib.Signed.{non_neg}
use Rattle.whole.specs.Bound.{Within}
use Rattle.whole.specs.Sum.{sum, all}
use Rattle.whole.proofs.Cases.{cond_ind}
use Rattle.whole.proofs.BoundLaws.{within-le, within-add, within-sub, within-mul, within-pos, within-sum, within-floor}
use Rattle.whole.proofs.NearestLaws.{within-nearest}
use Rattle.whole.proofs.SumLaws.{sum-cong, sum-mul-right, all-at}
use Rattle.whole.proofs.TableLaws.{table-all}
use Rattle.rules.specs.declared.Shape.{Shape}
use Rattle.rules.specs.Field.{Kind, quadratic, elements, faces, north_face, cell, element_length}
use Rattle.rules.specs.Grid.{west, south}
use Rattle.rules.specs.Stages.{node, last_place, upwind, place_wind, advection, along_x, along_y, tendency, tabulated, stage0, stage1, stage2, tentative, face_sum, flux_of, Stages, stages, flux}
use Rattle.rules.proofs.GridLaws.{west-lt, south-lt}

-- a bound on the factors by which one line of nodes enters X or Y at place a
unfoldable pub line_bound : Kind → ℕ → ℕ
line_bound κ a = sum κ.side (λ q. κ.line_weight q * 2048 * nat_abs (κ.derivative q a)) + cond (eqb a (last_place κ)) (κ.edge_factor * 1024) 0 + cond (eqb a 0) (κ.edge_factor * 1024) 0

-- what a kind of element must have for the sizes below
pub record BoundedKind (κ : Kind) : Type 0 where
  pub some : 0 < κ.nodes
  pub place : (k : ℕ) → k < κ.nodes → (k % κ.side < κ.side) × (k / κ.side < κ.side)
  pub share : (q : ℕ) → q < κ.side → κ.west_share q ≤ 2
  pub above : (a : ℕ) → a < κ.side → 0 < κ.line_weight a
  pub line : (a : ℕ) → a < κ.side → line_bound κ a ≤ 28672 * κ.line_weight a
  pub face : sum κ.side κ.line_weight ≤ 6
  pub divisor : 4096 ≤ κ.face_divisor

cond-within : {m : ℕ} (c : Bool) (x : ℤ) → Within m x → Within (cond c m 0) (cond c x (pos 0))
cond-within true x h = h
cond-within false x h = within-pos 0

module _ (κ : Kind) (bounded-kind : BoundedKind κ) (B : ℕ) where
  place_wind-within : (cw ce : ℤ) (q : ℕ) → q < κ.side → Within 1024 cw → Within 1024 ce → Within 2048 (place_wind κ cw ce q)
  unfolding place_wind
  place_wind-within cw ce q l h k = within-le (within-add (within-mul (within-pos (κ.west_share q)) h) (within-mul (within-pos (2 - κ.west_share q)) k)) (omega (arith, bounded-kind.share q l))

  cond-mul : (c : Bool) (x : ℕ) → cond c (x * B) 0 ≡ cond c x 0 * B
  cond-mul true x = refl
  cond-mul false x = omega arith

  advection-within : (line : ℕ → ℤ) (cw ce uw ue : ℤ) (a : ℕ) → ((q : ℕ) → q < κ.side → Within B (line q)) → Within 1024 cw → Within 1024 ce → Within B uw → Within B ue
      → Within (line_bound κ a * B) (advection κ line cw ce uw ue a)
  unfolding advection line_bound
  advection-within line cw ce uw ue a hl hw he huw hue =
      let terms = within-sum κ.side (λ q. pos (κ.line_weight q) *ℤ place_wind κ cw ce q *ℤ line q *ℤ κ.derivative q a) (λ q. κ.line_weight q * 2048 * B * nat_abs (κ.derivative q a))
      (λ q l. within-mul (within-mul (within-mul (within-pos (κ.line_weight q)) (place_wind-within cw ce q l hw he)) (hl q l)) (record { within = omega arith })) in
      let east = cond-within (eqb a (last_place κ)) (pos κ.edge_factor *ℤ ce *ℤ ue) (within-mul (within-mul (within-pos κ.edge_factor) he) hue) in
      let west = cond-within (eqb a 0) (pos κ.edge_factor *ℤ cw *ℤ uw) (within-mul (within-mul (within-pos κ.edge_factor) hw) huw) in
      let s = sum κ.side (λ q. κ.line_weight q * 2048 * nat_abs (κ.derivative q a)) in
      let e = cond (eqb a (last_place κ)) (κ.edge_factor * 1024) 0 in
      let f = cond (eqb a 0) (κ.edge_factor * 1024) 0 in
      within-le (within-add (within-sub terms east) west)
      (omega (
        arith,
        sum-cong κ.side (λ q. κ.line_weight q * 2048 * B * nat_abs (κ.derivative q a)) (λ q. κ.line_weight q * 2048 * nat_abs (κ.derivative q a) * B)
            (λ q _. mul_right_comm (κ.line_weight q * 2048) B (nat_abs (κ.derivative q a))),
        sum-mul-right κ.side B (λ q. κ.line_weight q * 2048 * nat_abs (κ.derivative q a)),
        cond-mul (eqb a (last_place κ)) (κ.edge_factor * 1024),
        cond-mul (eqb a 0) (κ.edge_factor * 1024),
        add-mul (s + e) f B,
        add-mul s e B,
      ))

-- 28672 is half of 7 times 8192
shares : (a b B : ℕ) → b * (28672 * a * B) + a * (28672 * b * B) ≡ 7 * B * (8192 * (a * b))
shares a b B = omega (arith, x, y, z)
  where
    x : b * (28672 * a * B) ≡ 28672 * (a * (b * B))
    x = ap (λ n. b * n) (mul_assoc 28672 a B) ∙ mul_left_comm b 28672 (a * B) ∙ ap (λ n. 28672 * n) (mul_left_comm b a B)

    y : a * (28672 * b * B) ≡ 28672 * (a * (b * B))
    y = ap (λ n. a * n) (mul_assoc 28672 b B) ∙ mul_left_comm a 28672 (b * B)

    z : 7 * B * (8192 * (a * b)) ≡ 7 * (8192 * (a * (b * B)))
    z = mul_assoc 7 B (8192 * (a * b)) ∙ ap (λ n. 7 * n) (mul_left_comm B 8192 (a * b) ∙ ap (λ n. 8192 * n) (mul_comm B (a * b) ∙ mul_assoc a b B))

module _ (κ : Kind) (bounded-kind : BoundedKind κ) (g : Shape) (hx : 0 < g.nx) (hy : 0 < g.ny) (c : ℕ → ℤ) (wind-range : (f : ℕ) → f < faces g → Within 1024 (c f)) where
  upwind-within : (B : ℕ) (φ : ℕ → ℕ → ℤ) → ((e k : ℕ) → Within B (φ e k)) → (f r : ℕ) → Within B (upwind κ g c φ f r)
  unfolding upwind
  upwind-within B φ h f r = cond_ind (non_neg (c f)) _ _ (Within B) (λ _. h _ _) (λ _. h _ _)

  -- a tendency is at most 7 times the largest value of its stage
  pub tendency-within : (B : ℕ) (φ : ℕ → ℕ → ℤ) → ((e k : ℕ) → Within B (φ e k)) → (e k : ℕ) → e < elements g → k < κ.nodes → Within (7 * B) (tendency κ g c φ e k)
  unfolding tendency along_x along_y
  tendency-within B φ h e k he hk =
      let a = k % κ.side in
      let b = k / κ.side in
      let ω = κ.line_weight in
      let ha : a < κ.side = (bounded-kind.place k hk).0 in
      let hb : b < κ.side = (bounded-kind.place k hk).1 in
      let w = west g e in
      let s = south g e in
      let wl = west-lt g hx hy e he in
      let sl = south-lt g hx hy e he in
      let x : Within (line_bound κ a * B) (along_x κ g c φ e a b) = advection-within κ bounded-kind B (λ q. φ e (node κ q b)) (c w) (c e) (upwind κ g c φ w b) (upwind κ g c φ e b) a
      (λ q _. h e (node κ q b)) (wind-range w (omega (arith, wl))) (wind-range e (omega arith)) (upwind-within B φ h w b) (upwind-within B φ h e b) in
      let y : Within (line_bound κ b * B) (along_y κ g c φ e a b) = advection-within κ bounded-kind B (λ q. φ e (node κ a q)) (c (north_face g s)) (c (north_face g e)) (upwind κ g c φ (north_face g s) a) (upwind κ g c φ (north_face g e) a) b
      (λ q _. h e (node κ a q)) (wind-range (north_face g s) (omega (arith, sl))) (wind-range (north_face g e) (omega arith)) (upwind-within B φ h (north_face g s) a) (upwind-within B φ h (north_face g e) a) in
      let dx : ω b * (line_bound κ a * B) ≤ ω b * (28672 * ω a * B) = mul-le-mul_left (ω b) (mul-le-mul_right B (bounded-kind.line a ha)) in
      let dy : ω a * (line_bound κ b * B) ≤ ω a * (28672 * ω b * B) = mul-le-mul_left (ω a) (mul-le-mul_right B (bounded-kind.line b hb)) in
      let above : 0 < ω a * ω b = mul-le-mul (bounded-kind.above a ha) (bounded-kind.above b hb) in
      within-floor _ (8192 * (ω a * ω b)) (7 * B) (omega arith)
      (within-le (within-add (within-mul (within-pos (ω b)) x) (within-mul (within-pos (ω a)) y)) (omega (arith, dx, dy, shares (ω a) (ω b) B)))

  -- the tendencies of all elements, as they are tabulated
  tabulated-within : (b : ℕ) (f : ℕ → ℕ → ℤ) → ((e k : ℕ) → e < elements g → k < κ.nodes → Within b (f e k)) → (e k : ℕ) → Within b (tabulated κ (elements g) f e k)
  unfolding tabulated
  tabulated-within b f h e k = table-all (Within b) (elements g * κ.nodes) (λ i. f (i / κ.nodes) (i % κ.nodes)) (pos 0) (within-le (within-pos 0) (omega arith))
      (λ i l. h (i / κ.nodes) (i % κ.nodes) ((div-lt_iff_lt-mul bounded-kind.some).1 l) (mod-lt i bounded-kind.some)) (e * κ.nodes + k)

  tendencies-within : (B : ℕ) (φ : ℕ → ℕ → ℤ) → ((e k : ℕ) → Within B (φ e k)) → (e k : ℕ) → Within (7 * B) (tabulated κ (elements g) (tendency κ g c φ) e k)
  tendencies-within B φ h = tabulated-within (7 * B) (tendency κ g c φ) (λ e k he hk. tendency-within B φ h e k he hk)

  -- ---- the stages of a part whose numbers are at most B
  module _ (p : List ℕ) (B : ℕ) (small : (i : ℕ) → get_or p i 0 ≤ B) where
    abbrev s : Stages
    s = stages κ g c p

    pub φ0-within : (e k : ℕ) → Within B (s.φ0 e k)
    unfolding stages stage0 cell
    φ0-within e k = within-le (within-pos _) (small (e * element_length κ + k))

    pub t0-within : (e k : ℕ) → Within (7 * B) (s.t0 e k)
    unfolding stages
    t0-within = tendencies-within B s.φ0 φ0-within

    pub φ1-within : (e k : ℕ) → Within (8 * B) (s.φ1 e k)
    unfolding stages stage1
    φ1-within e k = within-le (within-add (φ0-within e k) (t0-within e k)) (omega arith)

    pub t1-within : (e k : ℕ) → Within (56 * B) (s.t1 e k)
    unfolding stages
    t1-within e k = within-le (tendencies-within (8 * B) s.φ1 φ1-within e k) (omega arith)

    pub φ2-within : (e k : ℕ) → Within (17 * B) (s.φ2 e k)
    unfolding stages stage2
    φ2-within e k = within-le (within-add (φ0-within e k) (within-floor (s.t0 e k +ℤ s.t1 e k) 4 (16 * B) (omega arith) (within-le (within-add (t0-within e k) (t1-within e k)) (omega arith)))) (omega arith)

    pub t2-within : (e k : ℕ) → Within (119 * B) (s.t2 e k)
    unfolding stages
    t2-within e k = within-le (tendencies-within (17 * B) s.φ2 φ2-within e k) (omega arith)

    pub ψ-within : (e k : ℕ) → Within (91 * B) (s.ψ e k)
    unfolding stages tentative
    ψ-within e k = within-le (within-add (φ0-within e k) (within-floor (s.t0 e k +ℤ s.t1 e k +ℤ pos 4 *ℤ s.t2 e k) 6 (90 * B) (omega arith)
        (within-le (within-add (within-add (t0-within e k) (t1-within e k)) (within-mul (within-pos 4) (t2-within e k))) (omega arith)))) (omega arith)

    -- the sum of a face's upwind values, and its flux
    pub face_sum-within : (f : ℕ) → Within (462 * B) (face_sum κ (upwind κ g c s.φ0 f) (upwind κ g c s.φ1 f) (upwind κ g c s.φ2 f))
    unfolding face_sum
    face_sum-within f = within-le (within-sum κ.side _ (λ r. κ.line_weight r * (77 * B)) (λ r _. within-mul (within-pos (κ.line_weight r)) (within-le
        (within-add (within-add (upwind-within B s.φ0 φ0-within f r) (within-mul (within-pos 4) (upwind-within (17 * B) s.φ2 φ2-within f r))) (upwind-within (8 * B) s.φ1 φ1-within f r)) (omega arith))))
        (omega (arith, sum-mul-right κ.side (77 * B) κ.line_weight, mul-le-mul_right (77 * B) bounded-kind.face))

    pub flux-within : (f : ℕ) → f < faces g → Within (116 * B) (flux κ g c s f)
    unfolding flux flux_of
    flux-within f h = within-nearest _ κ.face_divisor (116 * B) (omega (arith, bounded-kind.divisor)) (within-le (within-mul (wind-range f h) (face_sum-within f)) (omega (arith, mul-le-mul_left (116 * B) bounded-kind.divisor)))

-- ---- the quadratic element is such a kind: its factors are tested by computation
pub quadratic-bounded : BoundedKind quadratic
unfolding quadratic line_bound sum all
quadratic-bounded = record {
  some = omega arith;
  place = λ k h. (mod-lt k (omega arith), omega arith);
  share = λ q h. omega arith;
  above = λ a h. omega arith;
  line = λ a h. leb→le _ _ (all-at 3 (λ a. leb (line_bound quadratic a) (28672 * quadratic.line_weight a)) tt a h);
  face = omega arith;
  divisor = omega arith;
}
