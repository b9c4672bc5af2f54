-- A tracer's part: its numbers, masses and total, after its elements are made anew or one of them is replaced.
use mathlib.Core.Path.{◌≡◌, sym, ap, ap₂, ◌∙◌}
use mathlib.Core.List.{List, [], ◌∷◌}
use mathlib.Core.Logic.{◌≢◌}
use Prim.Native.Nat.{ℕ, ◌+◌, ◌*◌, ◌≤◌, ◌<◌}
use native.Mathlib.Nat.{add-zero, one-mul, mul-le-mul_right}
use native.Mathlib.Omega.{arith}
use lib.IntN.{ℤ, pos}
use lib.ListN.{length, get_or, drop, length-append, length-drop, get_or-append}
use lib.Seq.{length-take-le, get_or_at}
use Rattle.whole.specs.Sum.{sum, sum_ℤ}
use Rattle.whole.specs.Table.{table, blocks}
use Rattle.whole.proofs.SumLaws.{sum-cong, sum-pos, sum_ℤ-cong, term-le}
use Rattle.whole.proofs.TableLaws.{length-table, get_d-table, get_d-blocks}
use Rattle.whole.proofs.OverwriteLaws.{part_room, number_same, number-other, length-replaced}
use Rattle.rules.specs.declared.Shape.{Shape}
use Rattle.rules.specs.Field.{Kind, elements, element_length, elements_length, part_length, field_length, part, stored_total, cell, remainder, weighted, mass, total, limit, weight_sum}
use Rattle.rules.specs.Calls.{loaded_element, loaded_value, with_element}

-- what demand 3 says of a tracer's part: its length, its remainders, its total, also as it is stored
pub record Good (κ : Kind) (g : Shape) (p : List ℕ) : Type 0 where
  pub size : length p ≡ part_length κ g
  pub small : (e : ℕ) → e < elements g → remainder κ p e < weight_sum κ
  pub bounded : total κ g p ≤ limit
  pub stored : stored_total κ g p ≡ total κ g p

-- what an element of these numbers holds
unfoldable pub held : Kind → List ℕ → ℕ
held κ x = weighted κ (λ k. get_or x k 0) + get_or x κ.nodes 0

-- the value and the remainder's place are among an element's numbers
pub node-lt : (κ : Kind) (k : ℕ) → k ≤ κ.nodes → k < element_length κ
unfolding element_length
node-lt κ k h = omega arith

-- element e of p has the numbers x
module _ (κ : Kind) (p x : List ℕ) (e : ℕ) (same : (k : ℕ) → k < element_length κ → cell κ p e k ≡ get_or x k 0) where
  pub mass-of : mass κ p e ≡ held κ x
  unfolding mass held weighted remainder
  mass-of = ap₂ ◌+◌ (sum-cong κ.nodes (λ k. κ.weight k * cell κ p e k) (λ k. κ.weight k * get_or x k 0)
      (λ k h. ap (λ y. κ.weight k * y) (same k (node-lt κ k (omega arith))))) (same κ.nodes (node-lt κ κ.nodes (omega arith)))

  pub remainder_of : remainder κ p e ≡ get_or x κ.nodes 0
  unfolding remainder
  remainder_of = same κ.nodes (node-lt κ κ.nodes (omega arith))

-- two parts with the same numbers at e
module _ (κ : Kind) (p p' : List ℕ) (e : ℕ) (same : (k : ℕ) → k < element_length κ → cell κ p e k ≡ cell κ p' e k) where
  pub mass-same : mass κ p e ≡ mass κ p' e
  unfolding mass weighted remainder
  mass-same = ap₂ ◌+◌ (sum-cong κ.nodes (λ k. κ.weight k * cell κ p e k) (λ k. κ.weight k * cell κ p' e k)
      (λ k h. ap (λ y. κ.weight k * y) (same k (node-lt κ k (omega arith))))) (same κ.nodes (node-lt κ κ.nodes (omega arith)))

  pub remainder-same : remainder κ p e ≡ remainder κ p' e
  unfolding remainder
  remainder-same = same κ.nodes (node-lt κ κ.nodes (omega arith))

-- ---- a part made of elements
module _ (κ : Kind) (n : ℕ) (f : ℕ → List ℕ) (each : (e : ℕ) → length (f e) ≡ element_length κ) where
  pub cell-blocks : (e : ℕ) → e < n → (k : ℕ) → k < element_length κ → cell κ (blocks n f) e k ≡ get_or (f e) k 0
  unfolding cell
  cell-blocks e he k hk = get_d-blocks (element_length κ) f each n e k 0 he hk

  pub mass-blocks : (e : ℕ) → e < n → mass κ (blocks n f) e ≡ held κ (f e)
  mass-blocks e he = mass-of κ (blocks n f) (f e) e (cell-blocks e he)

  pub remainder-blocks : (e : ℕ) → e < n → remainder κ (blocks n f) e ≡ get_or (f e) κ.nodes 0
  remainder-blocks e he = remainder_of κ (blocks n f) (f e) e (cell-blocks e he)

-- ---- a part in which element e was replaced
module _ (κ : Kind) (g : Shape) (e : ℕ) (x p : List ℕ) (he : e < elements g) (width : length x ≡ element_length κ) (size : length p ≡ part_length κ g) where
  room : e * element_length κ + element_length κ ≤ length p
  unfolding part_length elements_length
  room = omega (arith, size, part_room (element_length κ) he)

  pub length-with_element : length (with_element κ e x p) ≡ part_length κ g
  unfolding with_element
  length-with_element = length-replaced (element_length κ) e x p width room ∙ size

  cell-there : (k : ℕ) → k < element_length κ → cell κ (with_element κ e x p) e k ≡ get_or x k 0
  unfolding cell with_element
  cell-there k h = number_same (element_length κ) e x p width room 0 k h

  cell-elsewhere : (e' : ℕ) → e ≢ e' → (k : ℕ) → k < element_length κ → cell κ (with_element κ e x p) e' k ≡ cell κ p e' k
  unfolding cell with_element
  cell-elsewhere e' ne k h = number-other (element_length κ) e x p width room 0 e' k ne h

  pub mass-there : mass κ (with_element κ e x p) e ≡ held κ x
  mass-there = mass-of κ (with_element κ e x p) x e cell-there

  pub mass-elsewhere : (e' : ℕ) → e ≢ e' → mass κ (with_element κ e x p) e' ≡ mass κ p e'
  mass-elsewhere e' ne = mass-same κ (with_element κ e x p) p e' (cell-elsewhere e' ne)

  pub remainder-there : remainder κ (with_element κ e x p) e ≡ get_or x κ.nodes 0
  remainder-there = remainder_of κ (with_element κ e x p) x e cell-there

  pub remainder-elsewhere : (e' : ℕ) → e ≢ e' → remainder κ (with_element κ e x p) e' ≡ remainder κ p e'
  remainder-elsewhere e' ne = remainder-same κ (with_element κ e x p) p e' (cell-elsewhere e' ne)

-- ---- a loaded element
module _ (κ : Kind) (numbers : List ℕ) where
  pub length-loaded-element : (e : ℕ) → length (loaded_element κ numbers e) ≡ element_length κ
  unfolding element_length loaded_element
  length-loaded-element e = length-append (table κ.nodes (loaded_value κ numbers e)) (0 ∷ []) ∙ omega (arith, length-table κ.nodes (loaded_value κ numbers e))

  pub loaded-element-remainder : (e : ℕ) → get_or (loaded_element κ numbers e) κ.nodes 0 ≡ 0
  unfolding loaded_element
  loaded-element-remainder e = get_or_at (table κ.nodes (loaded_value κ numbers e)) 0 [] 0 κ.nodes (length-table κ.nodes (loaded_value κ numbers e))

  pub held-loaded-element : (e : ℕ) → held κ (loaded_element κ numbers e) ≡ weighted κ (loaded_value κ numbers e)
  unfolding held weighted loaded_element
  held-loaded-element e = ap₂ ◌+◌ (sum-cong κ.nodes (λ k. κ.weight k * get_or (loaded_element κ numbers e) k 0) (λ k. κ.weight k * loaded_value κ numbers e k)
      (λ k h. ap (λ y. κ.weight k * y) (get_or-append (table κ.nodes (loaded_value κ numbers e)) (0 ∷ []) 0 k (omega (arith, length-table κ.nodes (loaded_value κ numbers e)))
      ∙ get_d-table κ.nodes (loaded_value κ numbers e) k 0 h))) (loaded-element-remainder e) ∙ add-zero (sum κ.nodes (λ k. κ.weight k * loaded_value κ numbers e k))

-- ---- totals, and the sizes of what is stored
module _ (κ : Kind) (p : List ℕ) where
  -- a stored value with a weight above 0 is at most its element's mass
  pub value-le-mass : (e k : ℕ) → k < κ.nodes → 0 < κ.weight k → cell κ p e k ≤ mass κ p e
  unfolding mass weighted
  value-le-mass e k h w = omega (arith, mul-le-mul_right (cell κ p e k) w, one-mul (cell κ p e k), term-le κ.nodes (λ k. κ.weight k * cell κ p e k) k h)

module _ (κ : Kind) (g : Shape) (p : List ℕ) where
  pub total-pos : sum_ℤ (elements g) (λ e. pos (mass κ p e)) ≡ pos (total κ g p)
  unfolding total
  total-pos = sum-pos (elements g) (mass κ p)

  -- a total from numbers that agree with the masses
  pub total-by : (x : ℕ → ℤ) → ((e : ℕ) → e < elements g → x e ≡ pos (mass κ p e)) → pos (total κ g p) ≡ sum_ℤ (elements g) x
  total-by x h = sym total-pos ∙ sum_ℤ-cong (elements g) (λ e. pos (mass κ p e)) x (λ e l. sym (h e l))

  pub mass-le-total : (e : ℕ) → e < elements g → mass κ p e ≤ total κ g p
  unfolding total
  mass-le-total e h = term-le (elements g) (mass κ p) e h

  -- so every stored value of a good part is at most the limit, and fits its 32 bits
  pub value-le-limit : Good κ g p → (e k : ℕ) → e < elements g → k < κ.nodes → 0 < κ.weight k → cell κ p e k ≤ limit
  value-le-limit h e k he hk w = omega (arith, value-le-mass κ p e k hk w, mass-le-total e he, h.bounded)

-- ---- the parts of a field that is long enough
pub length-part : (κ : Kind) (g : Shape) (s : ℕ) (field : List ℕ) → s < g.tracers → field_length κ g ≤ length field → length (part κ g s field) ≡ part_length κ g
unfolding part field_length
length-part κ g s field h r = length-take-le (part_length κ g) (drop (s * part_length κ g) field)
    (omega (arith, length-drop (s * part_length κ g) field, part_room (part_length κ g) h))
