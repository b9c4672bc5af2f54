-- Neighbours and faces: they stay on the grid, east undoes west and north undoes south, and a sum over all faces of what an
-- element's faces do is a sum over its four sides, also where one face lies on two of them.
use mathlib.Core.Path.{◌≡◌, refl, sym, ap, ap₂, ◌∙◌}
use mathlib.Core.Bool.{Bool, not}
use mathlib.Core.Logic.{◌≢◌}
use Prim.Native.Nat.{ℕ, ◌+◌, ◌*◌, ◌-◌, ◌/◌, ◌%◌, ◌<◌}
use native.Mathlib.Nat.{mul_comm, mod-lt, mod-add-mod, add-mod_right, mod-eq_of_lt, div-lt_iff_lt-mul, div-add-mod'}
use native.Mathlib.Omega.{arith}
use lib.Arith.{digits_lt, digits_div, digits_mod}
use lib.Dec.{T, eqb, ltb→lt, lt→ltb, nltb→le, not_T}
use lib.IntN.{ℤ, pos, neg_ℤ, ◌+ℤ◌, ◌-ℤ◌}
use Rattle.whole.specs.Sum.{sum_ℤ}
use Rattle.whole.proofs.Cases.{cond_ind, cond_yes, cond_no, eqb_of, ne→neqb}
use Rattle.whole.proofs.WholeLaws.{add_parts, sub-parts-of, positive-neg, negative-neg, eq-parts}
use Rattle.whole.proofs.SumLaws.{sum_ℤ-add, sum_ℤ-cong, sum_ℤ-single, sum_ℤ-split}
use Rattle.rules.specs.declared.Shape.{Shape}
use Rattle.rules.specs.declared.Way.{Way}
use Rattle.rules.specs.declared.Way.TheVariants.{East, North}
use Rattle.rules.specs.Field.{elements, faces, element, north_face}
use Rattle.rules.specs.Grid.{east, west, north, south, looks_east, behind, ahead, face_index}
use Rattle.rules.specs.Correction.{target}
use Rattle.rules.specs.Ledger.{only}

-- one place on and back, and back and on, around m places
on-back : (m x : ℕ) → x < m → ((x + (m - 1)) % m + 1) % m ≡ x
on-back m x h = mod-add-mod (x + (m - 1)) m 1 ∙ ap (λ y. y % m) e ∙ add-mod_right x m ∙ mod-eq_of_lt h
  where
    e : x + (m - 1) + 1 ≡ x + m
    e = omega arith

back_on : (m x : ℕ) → x < m → ((x + 1) % m + (m - 1)) % m ≡ x
back_on m x h = mod-add-mod (x + 1) m (m - 1) ∙ ap (λ y. y % m) e ∙ add-mod_right x m ∙ mod-eq_of_lt h
  where
    e : x + 1 + (m - 1) ≡ x + m
    e = omega arith

-- what is kept where a test holds: x there, nothing elsewhere
pub only_yes : (a e : ℕ) (x : ℤ) → a ≡ e → only (eqb a e) x ≡ x
only_yes a e x h = cond_yes (eqb a e) x (pos 0) (eqb_of h)

pub only_no : (a e : ℕ) (x : ℤ) → a ≢ e → only (eqb a e) x ≡ pos 0
only_no a e x h = cond_no (eqb a e) x (pos 0) (ne→neqb a e h)

pub only-neg : (b : Bool) (x : ℤ) → neg_ℤ (only b x) ≡ only b (neg_ℤ x)
only-neg Bool.true x = refl
only-neg Bool.false x = refl

-- a sum over the places that p sends to e, where only q is sent there
pub sum-only : (n : ℕ) (p : ℕ → ℕ) (x : ℕ → ℤ) (e q : ℕ) → q < n → p q ≡ e → ((f : ℕ) → f < n → p f ≡ e → f ≡ q) → sum_ℤ n (λ f. only (eqb (p f) e) (x f)) ≡ x q
sum-only n p x e q h y inj = sum_ℤ-single n (λ f. only (eqb (p f) e) (x f)) q h (λ f l ne. only_no (p f) e (x f) (λ z. ne (inj f l z))) ∙ only_yes (p q) e (x q) y

-- what face f does to element e
unfoldable pub moved : Shape → (ℕ → ℤ) → ℕ → ℕ → ℤ
unfolding behind ahead
moved g x e f = only (eqb (ahead g f) e) (x f) -ℤ only (eqb (behind g f) e) (x f)

arrange : (m a b c d : ℤ) → m +ℤ ((a +ℤ b) +ℤ (c +ℤ d)) ≡ m +ℤ a +ℤ b +ℤ c +ℤ d
arrange m a b c d = eq-parts (omega (
  arith,
  add_parts m ((a +ℤ b) +ℤ (c +ℤ d)),
  add_parts (a +ℤ b) (c +ℤ d),
  add_parts a b,
  add_parts c d,
  add_parts (m +ℤ a +ℤ b +ℤ c) d,
  add_parts (m +ℤ a +ℤ b) c,
  add_parts (m +ℤ a) b,
  add_parts m a,
))

-- a difference, its second number first
swap : (a b : ℤ) → a -ℤ b ≡ neg_ℤ b +ℤ a
swap a b = eq-parts (omega (arith, sub-parts-of a b, add_parts (neg_ℤ b) a, positive-neg b, negative-neg b))

-- an element of the grid, and its faces, have an index below their number
pub element-lt : (g : Shape) (i j : ℕ) → i < g.nx → j < g.ny → element g i j < elements g
element-lt g i j hi hj = omega (arith, digits_lt {q = j} {m = g.ny} {r = i} {c = g.nx} hj hi, mul_comm g.nx g.ny)

pub face-lt : (g : Shape) (way : Way) (i j : ℕ) → i < g.nx → j < g.ny → face_index g way i j < faces g
face-lt g East i j hi hj = omega (arith, element-lt g i j hi hj)
face-lt g North i j hi hj = omega (arith, element-lt g i j hi hj)

module _ (g : Shape) (hx : 0 < g.nx) (hy : 0 < g.ny) where
  row_lt : (e : ℕ) → e < elements g → e / g.nx < g.ny
  row_lt e h = (div-lt_iff_lt-mul hx).1 (omega (arith, mul_comm g.nx g.ny))

  pub east-lt : (e : ℕ) → e < elements g → east g e < elements g
  unfolding east
  east-lt e h = element-lt g ((e % g.nx + 1) % g.nx) (e / g.nx) (mod-lt _ hx) (row_lt e h)

  pub west-lt : (e : ℕ) → e < elements g → west g e < elements g
  unfolding west
  west-lt e h = element-lt g ((e % g.nx + (g.nx - 1)) % g.nx) (e / g.nx) (mod-lt _ hx) (row_lt e h)

  pub north-lt : (e : ℕ) → e < elements g → north g e < elements g
  unfolding north
  north-lt e h = element-lt g (e % g.nx) ((e / g.nx + 1) % g.ny) (mod-lt _ hx) (mod-lt _ hy)

  pub south-lt : (e : ℕ) → e < elements g → south g e < elements g
  unfolding south
  south-lt e h = element-lt g (e % g.nx) ((e / g.nx + (g.ny - 1)) % g.ny) (mod-lt _ hx) (mod-lt _ hy)

  pub east-west : (e : ℕ) → e < elements g → east g (west g e) ≡ e
  unfolding east west
  east-west e h = ap₂ (λ a b. a * g.nx + (b + 1) % g.nx) (digits_div (e / g.nx) (mod-lt _ hx)) (digits_mod (e / g.nx) (mod-lt _ hx))
      ∙ ap (λ x. e / g.nx * g.nx + x) (on-back g.nx (e % g.nx) (mod-lt e hx)) ∙ div-add-mod' e g.nx

  pub west-east : (e : ℕ) → e < elements g → west g (east g e) ≡ e
  unfolding east west
  west-east e h = ap₂ (λ a b. a * g.nx + (b + (g.nx - 1)) % g.nx) (digits_div (e / g.nx) (mod-lt _ hx)) (digits_mod (e / g.nx) (mod-lt _ hx))
      ∙ ap (λ x. e / g.nx * g.nx + x) (back_on g.nx (e % g.nx) (mod-lt e hx)) ∙ div-add-mod' e g.nx

  pub north-south : (e : ℕ) → e < elements g → north g (south g e) ≡ e
  unfolding north south
  north-south e h = ap₂ (λ a b. (a + 1) % g.ny * g.nx + b) (digits_div _ (mod-lt e hx)) (digits_mod _ (mod-lt e hx))
      ∙ ap (λ x. x * g.nx + e % g.nx) (on-back g.ny (e / g.nx) (row_lt e h)) ∙ div-add-mod' e g.nx

  pub south-north : (e : ℕ) → e < elements g → south g (north g e) ≡ e
  unfolding north south
  south-north e h = ap₂ (λ a b. (a + (g.ny - 1)) % g.ny * g.nx + b) (digits_div _ (mod-lt e hx)) (digits_mod _ (mod-lt e hx))
      ∙ ap (λ x. x * g.nx + e % g.nx) (back_on g.ny (e / g.nx) (row_lt e h)) ∙ div-add-mod' e g.nx

-- ---- the ends of east and of north faces
module _ (g : Shape) where
  pub looks-east : (f : ℕ) → f < elements g → T (looks_east g f)
  looks-east f h = lt→ltb f (elements g) h

  pub looks-north : (e : ℕ) → T (not (looks_east g (north_face g e)))
  looks-north e = not_T (looks_east g (north_face g e)) (λ t. let h : north_face g e < elements g = ltb→lt _ _ t in omega arith)

  from-north : (e : ℕ) → north_face g e - elements g ≡ e
  from-north e = omega arith

  pub behind-east : (f : ℕ) → f < elements g → behind g f ≡ f
  unfolding behind
  behind-east f h = cond_yes (looks_east g f) f (f - elements g) (looks-east f h)

  pub ahead-east : (f : ℕ) → f < elements g → ahead g f ≡ east g f
  unfolding ahead
  ahead-east f h = cond_yes (looks_east g f) (east g f) (north g (f - elements g)) (looks-east f h)

  pub behind-north : (e : ℕ) → e < elements g → behind g (north_face g e) ≡ e
  unfolding behind
  behind-north e _ = cond_no (looks_east g (north_face g e)) (north_face g e) (north_face g e - elements g) (looks-north e) ∙ from-north e

  pub ahead-north : (e : ℕ) → e < elements g → ahead g (north_face g e) ≡ north g e
  unfolding ahead
  ahead-north e _ = cond_no (looks_east g (north_face g e)) (east g (north_face g e)) (north g (north_face g e - elements g)) (looks-north e) ∙ ap (north g) (from-north e)

module _ (g : Shape) (hx : 0 < g.nx) (hy : 0 < g.ny) where
  pub behind-lt : (f : ℕ) → f < faces g → behind g f < elements g
  unfolding behind
  behind-lt f h = cond_ind (looks_east g f) f (f - elements g) (λ x. x < elements g) (λ t. ltb→lt f (elements g) t) (λ t. omega (arith, nltb→le f (elements g) t))

  pub ahead-lt : (f : ℕ) → f < faces g → ahead g f < elements g
  unfolding ahead
  ahead-lt f h = cond_ind (looks_east g f) (east g f) (north g (f - elements g)) (λ x. x < elements g)
      (λ t. east-lt g hx hy f (ltb→lt f (elements g) t)) (λ t. north-lt g hx hy (f - elements g) (omega (arith, nltb→le f (elements g) t)))

-- ---- the faces that look one way: face `at f` runs from f to on f, and back undoes on
pub record Direction (g : Shape) : Type 0 where
  pub at : ℕ → ℕ
  pub on : ℕ → ℕ
  pub back : ℕ → ℕ
  pub back-lt : (e : ℕ) → e < elements g → back e < elements g
  pub on-of-back : (e : ℕ) → e < elements g → on (back e) ≡ e
  pub back-of-on : (e : ℕ) → e < elements g → back (on e) ≡ e
  pub behind-is : (f : ℕ) → f < elements g → behind g (at f) ≡ f
  pub ahead-is : (f : ℕ) → f < elements g → ahead g (at f) ≡ on f

module _ (g : Shape) (hx : 0 < g.nx) (hy : 0 < g.ny) where
  abbrev pub eastward : Direction g
  eastward = record {
    at = λ f. f;
    on = east g;
    back = west g;
    back-lt = west-lt g hx hy;
    on-of-back = east-west g hx hy;
    back-of-on = west-east g hx hy;
    behind-is = behind-east g;
    ahead-is = ahead-east g;
  }

  abbrev pub northward : Direction g
  northward = record {
    at = north_face g;
    on = north g;
    back = south g;
    back-lt = south-lt g hx hy;
    on-of-back = north-south g hx hy;
    back-of-on = south-north g hx hy;
    behind-is = behind-north g;
    ahead-is = ahead-north g;
  }

module _ (g : Shape) (d : Direction g) where
  -- over the faces of one direction, what is given to the element behind, x, and to the one ahead, y: element e has the one of its own face and the
  -- other of the face behind it
  pub sum-ends : (x y : ℕ → ℤ) (e : ℕ) → e < elements g → sum_ℤ (elements g) (λ f. only (eqb f e) (x f) +ℤ only (eqb (d.on f) e) (y f)) ≡ x e +ℤ y (d.back e)
  sum-ends x y e h = sum_ℤ-add (elements g) (λ f. only (eqb f e) (x f)) (λ f. only (eqb (d.on f) e) (y f))
      ∙ ap₂ ◌+ℤ◌
      (sum-only (elements g) (λ f. f) x e e h refl (λ f l z. z))
      (sum-only (elements g) d.on y e (d.back e) (d.back-lt e h) (d.on-of-back e h) (λ f l z. sym (d.back-of-on f l) ∙ ap d.back z))

  -- what the faces of one direction do to element e: its own takes, the face behind it adds
  moved-one-way : (x : ℕ → ℤ) (e : ℕ) → e < elements g → sum_ℤ (elements g) (λ f. moved g x e (d.at f)) ≡ neg_ℤ (x (d.at e)) +ℤ x (d.at (d.back e))
  unfolding moved
  moved-one-way x e h =
      sum_ℤ-cong (elements g) (λ f. moved g x e (d.at f)) (λ f. only (eqb f e) (neg_ℤ (x (d.at f))) +ℤ only (eqb (d.on f) e) (x (d.at f)))
      (λ f l. ap₂ (λ a b. only (eqb a e) (x (d.at f)) -ℤ only (eqb b e) (x (d.at f))) (d.ahead-is f l) (d.behind-is f l)
      ∙ swap (only (eqb (d.on f) e) (x (d.at f))) (only (eqb f e) (x (d.at f))) ∙ ap (λ y. y +ℤ only (eqb (d.on f) e) (x (d.at f))) (only-neg (eqb f e) (x (d.at f))))
      ∙ sum-ends (λ f. neg_ℤ (x (d.at f))) (λ f. x (d.at f)) e h

module _ (g : Shape) (hx : 0 < g.nx) (hy : 0 < g.ny) where
  -- over all faces, what is moved at e is the rule of the target
  pub target_is : (m : ℕ → ℕ) (x : ℕ → ℤ) (e : ℕ) → e < elements g → pos (m e) +ℤ sum_ℤ (faces g) (moved g x e) ≡ target g m x e
  unfolding target
  target_is m x e h =
      ap (λ y. pos (m e) +ℤ y) (sum_ℤ-split (elements g) (elements g) (moved g x e)
      ∙ ap₂ ◌+ℤ◌ (moved-one-way g (eastward g hx hy) x e h) (moved-one-way g (northward g hx hy) x e h))
      ∙ arrange (pos (m e)) (neg_ℤ (x e)) (x (west g e)) (neg_ℤ (x (north_face g e))) (x (north_face g (south g e)))
