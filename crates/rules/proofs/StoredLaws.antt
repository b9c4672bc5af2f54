-- The stored total of a part (document 02, 2026-06): a part made of its elements' numbers and a total, and a part with another total, hold what
-- their elements hold.
use mathlib.Core.Path.{◌≡◌, sym, ap, ap₂, ◌∙◌}
use mathlib.Core.Bool.{◌&&◌}
use mathlib.Core.List.{List, [], ◌∷◌, ◌++◌}
use Prim.Native.Nat.{ℕ, suc, ◌+◌, ◌*◌, ◌≤◌, ◌<◌}
use native.Mathlib.Nat.{add-zero}
use native.Mathlib.Omega.{arith}
use borrow.Author.Tests.{eq-eqb}
use lib.Arith.{digits_lt}
use lib.Dec.{leb, ltb}
use lib.ListN.{length, get_or, drop, length-append, get_or-append, drop_of_length-le}
use lib.Seq.{get_or_at, drop-cons}
use Rattle.whole.specs.Table.{blocks, overwrite}
use Rattle.whole.proofs.Cases.{and-true}
use Rattle.whole.proofs.SumLaws.{sum-cong, all-cong}
use Rattle.whole.proofs.TableLaws.{length-blocks}
use Rattle.whole.proofs.OverwriteLaws.{length-overwrite, overwrite-below, overwrite-inside, front-is}
use Rattle.rules.specs.declared.Shape.{Shape}
use Rattle.rules.specs.Field.{Kind, elements, element_length, elements_length, part_length, stored_total, part_of, with_stored_total, cell, remainder, weighted, mass, total, limit, weight_sum, remainder_sound, sum_sound, sound}
use Rattle.rules.specs.Calls.{loaded, loaded_element, loaded_value}
use Rattle.rules.proofs.PartLaws.{held, mass-same, remainder-same, mass-blocks, remainder-blocks, length-loaded-element, loaded-element-remainder, held-loaded-element}

-- two parts with the same numbers of elements hold the same
module _ (κ : Kind) (g : Shape) (p p' : List ℕ) (same : (e k : ℕ) → e < elements g → k < element_length κ → cell κ p e k ≡ cell κ p' e k) where
  pub masses-as : (e : ℕ) → e < elements g → mass κ p e ≡ mass κ p' e
  masses-as e h = mass-same κ p p' e (λ k l. same e k h l)

  pub remainders-as : (e : ℕ) → e < elements g → remainder κ p e ≡ remainder κ p' e
  remainders-as e h = remainder-same κ p p' e (λ k l. same e k h l)

  pub total-as : total κ g p ≡ total κ g p'
  unfolding total
  total-as = sum-cong (elements g) (mass κ p) (mass κ p') masses-as

  pub elements-sound-as : sum_sound κ g p ≡ sum_sound κ g p'
  unfolding sum_sound
  elements-sound-as = ap₂ ◌&&◌ (all-cong (elements g) (remainder_sound κ p) (remainder_sound κ p') (λ e h. ap (λ r. ltb r (weight_sum κ)) (remainders-as e h))) (ap (λ t. leb t limit) total-as)

-- a number of an element stands before the stored total
pub cell-before : (κ : Kind) (g : Shape) (e k : ℕ) → e < elements g → k < element_length κ → e * element_length κ + k < elements_length κ g
unfolding elements_length
cell-before κ g e k he hk = digits_lt he hk

-- ---- a part made of its elements' numbers x and a total t
module _ (κ : Kind) (g : Shape) (x : List ℕ) (t : ℕ) (width : length x ≡ elements_length κ g) where
  pub length-part_of : length (part_of x t) ≡ part_length κ g
  unfolding part_of part_length
  length-part_of = length-append x (t ∷ []) ∙ omega (arith, width)

  pub cell-part_of : (e k : ℕ) → e < elements g → k < element_length κ → cell κ (part_of x t) e k ≡ cell κ x e k
  unfolding part_of cell
  cell-part_of e k he hk = get_or-append x (t ∷ []) 0 (e * element_length κ + k) (omega (arith, width, cell-before κ g e k he hk))

  pub stored-part_of : stored_total κ g (part_of x t) ≡ t
  unfolding part_of stored_total
  stored-part_of = get_or_at x t [] 0 (elements_length κ g) width

  pub total-part_of : total κ g (part_of x t) ≡ total κ g x
  total-part_of = total-as κ g (part_of x t) x cell-part_of

-- where the total is worked out it is the sum, and such a part is sound where its elements are
pub sound-worked-out : (κ : Kind) (g : Shape) (x : List ℕ) → length x ≡ elements_length κ g → sound κ g (part_of x (total κ g x)) ≡ sum_sound κ g x
unfolding sound
sound-worked-out κ g x width =
    let t = total κ g x in
    ap₂ ◌&&◌ (elements-sound-as κ g (part_of x t) x (cell-part_of κ g x t width))
    (eq-eqb (total κ g (part_of x t)) (stored_total κ g (part_of x t)) (total-part_of κ g x t width ∙ sym (stored-part_of κ g x t width))) ∙ and-true (sum_sound κ g x)

-- ---- a part with another stored total
module _ (κ : Kind) (g : Shape) (t : ℕ) (p : List ℕ) (size : length p ≡ part_length κ g) where
  room : elements_length κ g + length (t ∷ []) ≤ length p
  unfolding part_length
  room = omega (arith, size)

  pub length-with_stored_total : length (with_stored_total κ g t p) ≡ part_length κ g
  unfolding with_stored_total
  length-with_stored_total = length-overwrite (elements_length κ g) (t ∷ []) p room ∙ size

  pub cell-with_stored_total : (e k : ℕ) → e < elements g → k < element_length κ → cell κ (with_stored_total κ g t p) e k ≡ cell κ p e k
  unfolding with_stored_total cell
  cell-with_stored_total e k he hk = overwrite-below (elements_length κ g) (t ∷ []) p room 0 (e * element_length κ + k) (cell-before κ g e k he hk)

  pub stored-with_stored_total : stored_total κ g (with_stored_total κ g t p) ≡ t
  unfolding with_stored_total stored_total
  stored-with_stored_total = ap (λ n. get_or (with_stored_total κ g t p) n 0) (sym (add-zero (elements_length κ g))) ∙ overwrite-inside (elements_length κ g) (t ∷ []) p room 0 0 (omega arith)

-- a part over whose elements the numbers x are written keeps its stored total
pub elements-written : (κ : Kind) (g : Shape) (x p : List ℕ) → length x ≡ elements_length κ g → length p ≡ part_length κ g → overwrite 0 x p ≡ part_of x (stored_total κ g p)
unfolding part_of part_length stored_total
elements-written κ g x p width size =
    let n = elements_length κ g in
    let rest : drop (length x) p ≡ get_or p n 0 ∷ [] = ap (λ m. drop m p) width ∙ drop-cons p n 0 (omega (arith, size)) ∙ ap (λ r. get_or p n 0 ∷ r) (drop_of_length-le p {i = suc n} (omega (arith, size))) in
    front-is x p ∙ ap (λ r. x ++ r) rest

-- ---- a part whose elements are made anew by f, and a total t
module _ (κ : Kind) (g : Shape) (f : ℕ → List ℕ) (t : ℕ) (each : (e : ℕ) → length (f e) ≡ element_length κ) where
  abbrev all : List ℕ
  all = blocks (elements g) f

  pub length-all : length all ≡ elements_length κ g
  unfolding elements_length
  length-all = length-blocks (element_length κ) f each (elements g)

  pub length-made : length (part_of all t) ≡ part_length κ g
  length-made = length-part_of κ g all t length-all

  pub mass-made : (e : ℕ) → e < elements g → mass κ (part_of all t) e ≡ held κ (f e)
  mass-made e h = masses-as κ g (part_of all t) all (cell-part_of κ g all t length-all) e h ∙ mass-blocks κ (elements g) f each e h

  pub remainder-made : (e : ℕ) → e < elements g → remainder κ (part_of all t) e ≡ get_or (f e) κ.nodes 0
  remainder-made e h = remainders-as κ g (part_of all t) all (cell-part_of κ g all t length-all) e h ∙ remainder-blocks κ (elements g) f each e h

  pub total-made : total κ g (part_of all t) ≡ total κ g all
  total-made = total-part_of κ g all t length-all

  pub stored-made : stored_total κ g (part_of all t) ≡ t
  stored-made = stored-part_of κ g all t length-all

-- a loaded part
module _ (κ : Kind) (g : Shape) (numbers : List ℕ) where
  abbrev laid : List ℕ
  laid = blocks (elements g) (loaded_element κ numbers)

  pub length-loaded : length (loaded κ g numbers) ≡ part_length κ g
  unfolding loaded
  length-loaded = length-made κ g (loaded_element κ numbers) (total κ g laid) (length-loaded-element κ numbers)

  pub mass-loaded : (e : ℕ) → e < elements g → mass κ (loaded κ g numbers) e ≡ weighted κ (loaded_value κ numbers e)
  unfolding loaded
  mass-loaded e h = mass-made κ g (loaded_element κ numbers) (total κ g laid) (length-loaded-element κ numbers) e h ∙ held-loaded-element κ numbers e

  pub remainder-loaded : (e : ℕ) → e < elements g → remainder κ (loaded κ g numbers) e ≡ 0
  unfolding loaded
  remainder-loaded e h = remainder-made κ g (loaded_element κ numbers) (total κ g laid) (length-loaded-element κ numbers) e h ∙ loaded-element-remainder κ numbers e

  -- "load to the new sum"
  pub stored-loaded : stored_total κ g (loaded κ g numbers) ≡ total κ g (loaded κ g numbers)
  unfolding loaded
  stored-loaded = stored-made κ g (loaded_element κ numbers) (total κ g laid) (length-loaded-element κ numbers)
      ∙ sym (total-made κ g (loaded_element κ numbers) (total κ g laid) (length-loaded-element κ numbers))
