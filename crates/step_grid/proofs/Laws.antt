-- A neighbour's index by one test, for each of the four ways: the rules' row and column around the grid, by cases on the last and the first.
use mathlib.Core.Path.{◌≡◌, ap, ◌∙◌}
use mathlib.Core.Logic.{◌≢◌}
use Prim.Native.Nat.{ℕ, suc, ◌+◌, ◌*◌, ◌-◌, ◌/◌, ◌%◌, ◌≤◌, ◌<◌}
use native.Mathlib.Nat.{mul_comm, suc-mul, mod-lt, zero-mul, le_antisymm, lt_of_mul-lt-mul_right, mod_self, mod-eq_of_lt, add-mod_right, div-add-mod', div-lt_iff_lt-mul, div-eq_of_lt}
use native.Mathlib.Omega.{arith}
use Rattle.rules.specs.declared.Shape.{Shape}
use Rattle.rules.specs.Field.{elements}
use Rattle.rules.specs.Grid.{west, east, south, north}
use Rattle.step_grid.specs.Place.{Placed}

-- one place back and one on, around m places
back-first : (m x : ℕ) → 0 < m → x ≡ 0 → (x + (m - 1)) % m ≡ m - 1
back-first m x h e = ap (λ y. y % m) (omega arith) ∙ mod-eq_of_lt (omega arith)

back-next : (m x : ℕ) → x < m → x ≢ 0 → (x + (m - 1)) % m ≡ x - 1
back-next m x h ne = ap (λ y. y % m) e ∙ add-mod_right (x - 1) m ∙ mod-eq_of_lt (omega arith)
  where
    e : x + (m - 1) ≡ x - 1 + m
    e = omega (arith, ne)

on-last : (m x : ℕ) → x + 1 ≡ m → (x + 1) % m ≡ 0
on-last m x e = ap (λ y. y % m) e ∙ mod_self m

on-next : (m x : ℕ) → x < m → x + 1 ≢ m → (x + 1) % m ≡ x + 1
on-next m x h ne = mod-eq_of_lt (omega (arith, ne))

module _ (g : Shape) (e : ℕ) (h : Placed g e) where
  -- the row and the column of element e
  pub row-column : e / g.nx * g.nx + e % g.nx ≡ e
  row-column = div-add-mod' e g.nx

  column-lt : e % g.nx < g.nx
  column-lt = mod-lt e h.admits.nx-above

  row_lt : e / g.nx < g.ny
  row_lt = (div-lt_iff_lt-mul h.admits.nx-above).1 (omega (arith, h.inside, mul_comm g.nx g.ny))

  pub west-first : e % g.nx ≡ 0 → e + g.nx - 1 ≡ west g e
  unfolding west
  west-first z = omega (arith, back-first g.nx (e % g.nx) h.admits.nx-above z, row-column, h.admits.nx-above)

  pub west-next : e % g.nx ≢ 0 → e - 1 ≡ west g e
  unfolding west
  west-next z = omega (arith, back-next g.nx (e % g.nx) column-lt z, row-column, z)

  pub east-last : e % g.nx + 1 ≡ g.nx → e + 1 - g.nx ≡ east g e
  unfolding east
  east-last z = omega (arith, on-last g.nx (e % g.nx) z, row-column)

  pub east-next : e % g.nx + 1 ≢ g.nx → e + 1 ≡ east g e
  unfolding east
  east-next z = omega (arith, on-next g.nx (e % g.nx) column-lt z, row-column)

  first-row : e < g.nx → (e / g.nx ≡ 0) × (e % g.nx ≡ e)
  first-row l = (div-eq_of_lt l, mod-eq_of_lt l)

  not_first : g.nx ≤ e → e / g.nx ≢ 0
  not_first l z = omega (arith, row-column, column-lt, ap (λ q. q * g.nx) z, zero-mul g.nx)

  pub south-first : e < g.nx → e + elements g - g.nx ≡ south g e
  unfolding south
  south-first l =
      let f = first-row l in
      let r = back-first g.ny (e / g.nx) h.admits.ny-above f.0 in
      let m : elements g ≡ (g.ny - 1) * g.nx + g.nx = mul_comm g.nx g.ny ∙ ap (λ n. n * g.nx) (omega (arith, h.admits.ny-above)) ∙ suc-mul (g.ny - 1) g.nx in
      omega (arith, ap (λ q. q * g.nx) r, f.1, m)

  pub south-next : g.nx ≤ e → e - g.nx ≡ south g e
  unfolding south
  south-next l =
      let z = not_first l in
      let r = back-next g.ny (e / g.nx) row_lt z in
      let m : e / g.nx * g.nx ≡ (e / g.nx - 1) * g.nx + g.nx = ap (λ n. n * g.nx) (omega (arith, z)) ∙ suc-mul (e / g.nx - 1) g.nx in
      omega (arith, ap (λ q. q * g.nx) r, row-column, m)

  -- the row above, as a product
  row-above : (e / g.nx + 1) * g.nx ≡ e / g.nx * g.nx + g.nx
  row-above = ap (λ n. n * g.nx) (omega arith) ∙ suc-mul (e / g.nx) g.nx

  pub north-next : e + g.nx < elements g → e + g.nx ≡ north g e
  unfolding north
  north-next l =
      let ne : e / g.nx + 1 ≢ g.ny = λ z. omega (arith, row-column, row-above, ap (λ n. n * g.nx) z, mul_comm g.nx g.ny, l) in
      omega (arith, ap (λ q. q * g.nx) (on-next g.ny (e / g.nx) row_lt ne), row-column, row-above)

  pub north-last : elements g ≤ e + g.nx → e + g.nx - elements g ≡ north g e
  unfolding north
  north-last l =
      let m = mul_comm g.nx g.ny in
      let top : e / g.nx + 1 ≡ g.ny = le_antisymm row-lt' (div-above l) in
      omega (arith, ap (λ q. q * g.nx) (on-last g.ny (e / g.nx) top), zero-mul g.nx, row-column, row-above, ap (λ n. n * g.nx) top, m)
    where
      row-lt' : e / g.nx + 1 ≤ g.ny
      row-lt' = omega (arith, row_lt)

      div-above : elements g ≤ e + g.nx → g.ny ≤ e / g.nx + 1
      div-above l = le-of-mul (omega (arith, row-column, column-lt, row-above, mul_comm g.nx g.ny, suc-mul (e / g.nx + 1) g.nx))
        where
          le-of-mul : g.ny * g.nx < suc (e / g.nx + 1) * g.nx → g.ny ≤ e / g.nx + 1
          le-of-mul k = omega (arith, lt_of_mul-lt-mul_right g.nx k)
