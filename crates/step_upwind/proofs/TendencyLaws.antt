-- The tendency of an element of the grid by its own values, the winds of its four faces and twelve upwind values: by congruence of what it
-- reads, and from the products at the faces. Where a face's upwind values stand in a stage that is a list, and how large their products are.
use mathlib.Core.Path.{◌≡◌, refl, sym, ap, ap₂, subst, ◌∙◌}
use mathlib.Core.Bool.{Bool, true, false, cond, not}
use mathlib.Core.List.{List}
use Prim.Native.Nat.{ℕ, ◌+◌, ◌*◌, ◌/◌, ◌%◌, ◌<◌}
use native.Mathlib.Omega.{arith}
use lib.Dec.{T, eqb}
use lib.IntN.{ℤ, pos, ◌+ℤ◌, ◌-ℤ◌, ◌*ℤ◌}
use lib.ListN.{length, get_or}
use lib.Signed.{non_neg}
use Rattle.whole.specs.Bound.{Within, AllWithin, floor_div}
use Rattle.whole.specs.Table.{table, at}
use Rattle.whole.proofs.Cases.{cond_yes, cond_no}
use Rattle.whole.proofs.BoundLaws.{within-le, within-mul, within-pos}
use Rattle.whole.proofs.SumLaws.{sum_ℤ-cong}
use Rattle.whole.proofs.TableLaws.{get_d-table, get_d-blocks, length-table, length-blocks, table-all, table-cong}
use Rattle.rules.specs.declared.Shape.{Shape}
use Rattle.rules.specs.Field.{quadratic, elements, faces, north_face, Admitted}
use Rattle.rules.specs.Grid.{west, south, looks_east, behind, ahead}
use Rattle.rules.specs.Stages.{node, upwind, place_wind, advection, along_x, along_y, tendency}
use Rattle.rules.proofs.GridLaws.{west-lt, south-lt, behind-lt, ahead-lt}
use Rattle.rules.specs.Sizes.{stage_size}
use Rattle.step_grid.specs.declared.Face.{Face}
use Rattle.step_grid.specs.Place.{side_faces}
use Rattle.step_tendency.specs.Line.{local_tendency, element_tendency}
use Rattle.step_tendency.specs.Sizes.{product_size}
use Rattle.step_tendency.proofs.Laws.{element_tendency-is}
use Rattle.step_upwind.specs.Upwind.{stage_length, as_stage, upwind_start, face_product, face_products}
use Rattle.step_upwind.proofs.Laws.{four}

-- ---- what an advection and a tendency read
advection-cong : (line line' : ℕ → ℤ) (cw ce uw ue : ℤ) (a : ℕ) → ((q : ℕ) → q < 3 → line q ≡ line' q) → advection quadratic line cw ce uw ue a ≡ advection quadratic line' cw ce uw ue a
unfolding advection quadratic
advection-cong line line' cw ce uw ue a h =
    ap (λ s. s -ℤ cond (eqb a 2) (pos 12 *ℤ ce *ℤ ue) (pos 0) +ℤ cond (eqb a 0) (pos 12 *ℤ cw *ℤ uw) (pos 0))
    (sum_ℤ-cong 3 _ _ (λ q l. ap (λ x. pos (quadratic.line_weight q) *ℤ place_wind quadratic cw ce q *ℤ x *ℤ quadratic.derivative q a) (h q l)))

node-lt : (a b : ℕ) → a < 3 → b < 3 → node quadratic a b < 9
unfolding quadratic
node-lt a b ha hb = omega arith

local-cong : (v v' c u u' : ℕ → ℤ) (k : ℕ) → k < 9 → ((i : ℕ) → i < 9 → v i ≡ v' i) → ((m : ℕ) → m < 12 → u m ≡ u' m) → local_tendency v c u k ≡ local_tendency v' c u' k
unfolding local_tendency
local-cong v v' c u u' k hk hv hu =
    let a = k % 3 in
    let b = k / 3 in
    let ω = quadratic.line_weight in
    let ha : a < 3 = omega arith in
    let hb : b < 3 = omega arith in
    let x = advection-cong (λ q. v (node quadratic q b)) (λ q. v' (node quadratic q b)) (c 0) (c 1) (u b) (u (3 + b)) a (λ q l. hv _ (node-lt q b l hb)) in
    let y = advection-cong (λ q. v (node quadratic a q)) (λ q. v' (node quadratic a q)) (c 2) (c 3) (u (6 + a)) (u (9 + a)) b (λ q l. hv _ (node-lt a q ha l)) in
    let x' : advection quadratic (λ q. v (node quadratic q b)) (c 0) (c 1) (u b) (u (3 + b)) a ≡ advection quadratic (λ q. v' (node quadratic q b)) (c 0) (c 1) (u' b) (u' (3 + b)) a =
    x ∙ ap₂ (λ p q. advection quadratic (λ q. v' (node quadratic q b)) (c 0) (c 1) p q a) (hu b (omega arith)) (hu (3 + b) (omega arith)) in
    let y' : advection quadratic (λ q. v (node quadratic a q)) (c 2) (c 3) (u (6 + a)) (u (9 + a)) b ≡ advection quadratic (λ q. v' (node quadratic a q)) (c 2) (c 3) (u' (6 + a)) (u' (9 + a)) b =
    y ∙ ap₂ (λ p q. advection quadratic (λ q. v' (node quadratic a q)) (c 2) (c 3) p q b) (hu (6 + a) (omega arith)) (hu (9 + a) (omega arith)) in
    λ i. floor_div (pos (ω b) *ℤ x' i +ℤ pos (ω a) *ℤ y' i) (8192 * (ω a * ω b))

module _ (g : Shape) (c : ℕ → ℤ) (φ : ℕ → ℕ → ℤ) (e : ℕ) where
  -- the wind of side s of four, and upwind value m of twelve
  abbrev side_wind : ℕ → ℤ
  side_wind s = c (get_or (side_faces g e) s 0)

  abbrev side_value : ℕ → ℤ
  side_value m = upwind quadratic g c φ (get_or (side_faces g e) (m / 3) 0) (m % 3)

  side-at : (s r m : ℕ) → r < 3 → m ≡ 3 * s + r → upwind quadratic g c φ (get_or (side_faces g e) s 0) r ≡ side_value m
  side-at s r m h q = let es : s ≡ m / 3 = omega arith in let er : r ≡ m % 3 = omega arith in λ i. upwind quadratic g c φ (get_or (side_faces g e) (es i) 0) (er i)

  tendency-local : (k : ℕ) → k < 9 → tendency quadratic g c φ e k ≡ local_tendency (φ e) side_wind side_value k
  unfolding tendency along_x along_y local_tendency quadratic
  tendency-local k h =
      let a = k % 3 in
      let b = k / 3 in
      let ω = quadratic.line_weight in
      let ha : a < 3 = omega arith in
      let hb : b < 3 = omega arith in
      λ i. floor_div (pos (ω b) *ℤ advection quadratic (λ q. φ e (node quadratic q b)) (c (west g e)) (c e) (side-at 0 b b hb (omega arith) i) (side-at 1 b (3 + b) hb (omega arith) i) a
      +ℤ pos (ω a) *ℤ advection quadratic (λ q. φ e (node quadratic a q)) (c (north_face g (south g e))) (c (north_face g e)) (side-at 2 a (6 + a) ha (omega arith) i) (side-at 3 a (9 + a) ha (omega arith) i) b)
      (8192 * (ω a * ω b))

  -- the tendency from the products at the four faces
  of_products : (v : ℕ → ℤ) → ((k : ℕ) → k < 9 → v k ≡ φ e k) → (k : ℕ) → k < 9
      → (let p : ℕ → ℕ → ℤ = λ f. at (table 3 (face_product g c φ f)) in element_tendency v (p (west g e)) (p e) (p (north_face g (south g e))) (p (north_face g e))
      (c (west g e)) (c e) (c (north_face g (south g e))) (c (north_face g e)) k) ≡ tendency quadratic g c φ e k
  of_products v same k h =
      element_tendency-is v side_wind side_value _ _ _ _ (side 0 (λ b. b) (λ b. omega arith)) (side 1 (λ b. 3 + b) (λ b. omega arith)) (side 2 (λ b. 6 + b) (λ b. omega arith)) (side 3 (λ b. 9 + b) (λ b. omega arith)) k h
      ∙ local-cong v (φ e) side_wind side_value side_value k h same (λ m l. refl) ∙ sym (tendency-local k h)
    where
      side : (s : ℕ) (m : ℕ → ℕ) → ((b : ℕ) → m b ≡ 3 * s + b) → (b : ℕ) → b < 3 → at (table 3 (face_product g c φ (get_or (side_faces g e) s 0))) b ≡ side_wind s *ℤ side_value (m b)
      side s m is b l = get_d-table 3 (face_product g c φ (get_or (side_faces g e) s 0)) b (pos 0) l ∙ ap (λ x. side_wind s *ℤ x) (side-at s b (m b) l (is b))

-- ---- stages that agree on the grid have the same upwind values and tendencies
module _ (g : Shape) (h : Admitted g) (c : ℕ → ℤ) (φ φ' : ℕ → ℕ → ℤ) (same : (e k : ℕ) → e < elements g → k < 9 → φ e k ≡ φ' e k) where
  line-lt : (b : Bool) (r : ℕ) → r < 3 → (cond b (node quadratic 2 r) (node quadratic r 2) < 9) × (cond b (node quadratic 0 r) (node quadratic r 0) < 9)
  line-lt true r l = (node-lt 2 r (omega arith) l, node-lt 0 r (omega arith) l)
  line-lt false r l = (node-lt r 2 l (omega arith), node-lt r 0 l (omega arith))

  pub upwind-cong : (f r : ℕ) → f < faces g → r < 3 → upwind quadratic g c φ f r ≡ upwind quadratic g c φ' f r
  unfolding upwind quadratic
  upwind-cong f r l lr =
      let n = line-lt (looks_east g f) r lr in
      ap₂ (cond (non_neg (c f))) (same (behind g f) _ (behind-lt g h.nx-above h.ny-above f l) n.0) (same (ahead g f) _ (ahead-lt g h.nx-above h.ny-above f l) n.1)

  pub tendency-cong : (e k : ℕ) → e < elements g → k < 9 → tendency quadratic g c φ e k ≡ tendency quadratic g c φ' e k
  tendency-cong e k le lk = tendency-local g c φ e k lk
      ∙ local-cong (φ e) (φ' e) (side_wind g c φ e) (side_value g c φ e) (side_value g c φ' e) k lk (λ i l. same e i le l) (λ m l. upwind-cong _ (m % 3) (faces-lt (m / 3) (omega arith)) (omega arith))
      ∙ sym (tendency-local g c φ' e k lk)
    where
      faces-lt : (s : ℕ) → s < 4 → get_or (side_faces g e) s 0 < faces g
      faces-lt = four (λ s. get_or (side_faces g e) s 0 < faces g)
          (omega (arith, west-lt g h.nx-above h.ny-above e le)) (omega arith) (omega (arith, south-lt g h.nx-above h.ny-above e le)) (omega arith)

-- ---- a stage that is a list
pick : (l : List ℤ) (b : Bool) (x y x' y' d : ℕ) → x ≡ x' + d → y ≡ y' + d → cond b (at l x) (at l y) ≡ at l (cond b x' y' + d)
pick l true x y x' y' d p q = ap (at l) p
pick l false x y x' y' d p q = ap (at l) q

-- a line of nodes is within its element
room : (east after : Bool) (b a n : ℕ) → b < n → a < n → cond after (b * 9 + cond east 2 6) (a * 9) + 2 * cond east 3 1 < n * 9
room true true b a n hb ha = omega arith
room true false b a n hb ha = omega arith
room false true b a n hb ha = omega arith
room false false b a n hb ha = omega arith

-- whichever way the wind blows
pub line-room : (x : Face) (z : ℤ) → upwind_start z (behind x.grid.shape x.index) (ahead x.grid.shape x.index) (cond (looks_east x.grid.shape x.index) 2 6) + 2 * cond (looks_east x.grid.shape x.index) 3 1 < stage_length x.grid.shape
unfolding upwind_start
line-room x z = let g = x.grid.shape in let h = x.grid.admitted in
    room (looks_east g x.index) (non_neg z) (behind g x.index) (ahead g x.index) (elements g) (behind-lt g h.nx-above h.ny-above x.index x.inside) (ahead-lt g h.nx-above h.ny-above x.index x.inside)

module _ (g : Shape) (c : ℕ → ℤ) (l : List ℤ) where
  abbrev φ : ℕ → ℕ → ℤ
  φ = as_stage l

  -- the upwind value at place r of a face that looks east, or north
  upwind-east-at : (f r : ℕ) → T (looks_east g f) → upwind quadratic g c φ f r ≡ at l (upwind_start (c f) (behind g f) (ahead g f) 2 + 3 * r)
  unfolding upwind upwind_start quadratic
  upwind-east-at f r t =
      ap₂ (λ x y. cond (non_neg (c f)) (φ (behind g f) x) (φ (ahead g f) y)) (cond_yes (looks_east g f) (3 * r + 2) (3 * 2 + r) t) (cond_yes (looks_east g f) (3 * r + 0) (3 * 0 + r) t)
      ∙ pick l (non_neg (c f)) (behind g f * 9 + (3 * r + 2)) (ahead g f * 9 + (3 * r + 0)) (behind g f * 9 + 2) (ahead g f * 9) (3 * r) (omega arith) (omega arith)

  upwind-north-at : (f r : ℕ) → T (not (looks_east g f)) → upwind quadratic g c φ f r ≡ at l (upwind_start (c f) (behind g f) (ahead g f) 6 + 1 * r)
  unfolding upwind upwind_start quadratic
  upwind-north-at f r t =
      ap₂ (λ x y. cond (non_neg (c f)) (φ (behind g f) x) (φ (ahead g f) y)) (cond_no (looks_east g f) (3 * r + 2) (3 * 2 + r) t) (cond_no (looks_east g f) (3 * r + 0) (3 * 0 + r) t)
      ∙ pick l (non_neg (c f)) (behind g f * 9 + (3 * 2 + r)) (ahead g f * 9 + (3 * 0 + r)) (behind g f * 9 + 6) (ahead g f * 9) (1 * r) (omega arith) (omega arith)

  module _ (f : ℕ) where
    -- the line of nodes that has the face's upwind values
    abbrev pub begin : ℕ
    begin = upwind_start (c f) (behind g f) (ahead g f) (cond (looks_east g f) 2 6)

    abbrev pub stride : ℕ
    stride = cond (looks_east g f) 3 1

    pub stands : (r : ℕ) → upwind quadratic g c φ f r ≡ at l (begin + stride * r)
    stands r = go (looks_east g f) refl
      where
        go : (b : Bool) → looks_east g f ≡ b → upwind quadratic g c φ f r ≡ at l (upwind_start (c f) (behind g f) (ahead g f) (cond b 2 6) + cond b 3 1 * r)
        go true e = upwind-east-at f r (rw e tt)
        go false e = upwind-north-at f r (rw e tt)

    upwind-small : AllWithin stage_size l → (r : ℕ) → Within stage_size (upwind quadratic g c φ f r)
    upwind-small h r = subst (Within stage_size) (sym (stands r)) (h.all (begin + stride * r))

    pub product-small : Within 1024 (c f) → AllWithin stage_size l → (r : ℕ) → Within product_size (face_product g c φ f r)
    product-small w h r = within-le (within-mul w (upwind-small h r)) (omega arith)

    pub products-small : Within 1024 (c f) → AllWithin stage_size l → AllWithin product_size (table 3 (face_product g c φ f))
    products-small w h = record { all = table-all (Within product_size) 3 (face_product g c φ f) (pos 0) (within-le (within-pos 0) (omega arith)) (λ r _. product-small w h r) }

    -- where they stand among the products of all faces
    pub product-at : f < faces g → (r : ℕ) → r < 3 → at (face_products g c φ) (f * 3 + r) ≡ face_product g c φ f r
    product-at k r lr = get_d-blocks 3 (λ f. table 3 (face_product g c φ f)) (λ f. length-table 3 _) (faces g) f r (pos 0) k lr ∙ get_d-table 3 (face_product g c φ f) r (pos 0) lr

  pub length-products : length (face_products g c φ) ≡ faces g * 3
  length-products = length-blocks 3 (λ f. table 3 (face_product g c φ f)) (λ f. length-table 3 _) (faces g)

  -- the tendencies from what the code gathers
  pub gathered : (e : ℕ) → (let p : ℕ → ℕ → ℤ = λ f. at (table 3 (face_product g c φ f)) in
      table 9 (element_tendency (at (table 9 (as_stage l e))) (p (west g e)) (p e) (p (north_face g (south g e))) (p (north_face g e)) (c (west g e)) (c e) (c (north_face g (south g e))) (c (north_face g e))))
      ≡ table 9 (tendency quadratic g c φ e)
  gathered e = table-cong 9 _ _ (of_products g c φ e (at (table 9 (as_stage l e))) (λ k h. get_d-table 9 (as_stage l e) k (pos 0) h))
