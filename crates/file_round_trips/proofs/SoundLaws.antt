-- Soundness: of buffers that agree where the shape has numbers; and how small every number of a sound part is.
use mathlib.Core.Path.{◌≡◌, sym, ap, subst, ◌∙◌}
use mathlib.Core.List.{List}
use Prim.Native.Nat.{ℕ, ◌+◌, ◌*◌, ◌/◌, ◌%◌, ◌≤◌, ◌<◌}
use native.Mathlib.Nat.{mod-lt, div-add-mod', div-lt_iff_lt-mul}
use native.Mathlib.Decide.{dec_lt}
use native.Mathlib.Omega.{arith}
use lib.Arith.{digits_lt}
use lib.Dec.{T, leb→le}
use lib.IntN.{ℤ, nat_abs}
use lib.ListN.{length, get_or}
use lib.Seq.{ext_get_or}
use Rattle.whole.proofs.SumLaws.{all-at, all_of}
use Rattle.rules.specs.declared.Shape.{Shape}
use Rattle.rules.specs.Field.{Kind, elements, faces, element_length, elements_length, part_length, field_length, part, stored_total, cell, remainder, mass, total, limit, PositiveWeights, sound, wind_in_range}
use Rattle.rules.specs.Calls.{wind_at, wind_sound}
use Rattle.rules.specs.FieldFile.{field_sound}
use Rattle.rules.proofs.FieldLaws.{summed}
use Rattle.rules.proofs.PartLaws.{length-part, value-le-mass, mass-le-total}
use Rattle.file_layout.proofs.FileLaws.{part-number}

-- ---- winds that agree on the faces
pub winds-same : (g : Shape) (w w' : List ℤ) → ((f : ℕ) → f < faces g → wind_at w' f ≡ wind_at w f) → T (wind_sound g w) → T (wind_sound g w')
unfolding wind_sound
winds-same g w w' same t = all_of (faces g) (λ f. wind_in_range (wind_at w' f)) (λ f l. subst (λ z. T (wind_in_range z)) (sym (same f l)) (all-at (faces g) (λ f. wind_in_range (wind_at w f)) t f l))

-- a sound wind fits its 16 bits
pub wind-fits : (g : Shape) (w : List ℤ) → T (wind_sound g w) → (f : ℕ) → f < faces g → nat_abs (wind_at w f) < 32768
unfolding wind_sound
wind-fits g w t f l = omega (arith, leb→le (nat_abs (wind_at w f)) 1024 (all-at (faces g) (λ f. wind_in_range (wind_at w f)) t f l))

module _ (κ : Kind) (g : Shape) where
  -- ---- fields that agree on the shape's numbers
  module _ (f f' : List ℕ) (room : field_length κ g ≤ length f) (room' : field_length κ g ≤ length f') (same : (i : ℕ) → i < field_length κ g → get_or f' i 0 ≡ get_or f i 0) where
    pub parts_same : (s : ℕ) → s < g.tracers → part κ g s f' ≡ part κ g s f
    unfolding field_length
    parts_same s h =
        let size = length-part κ g s f h room in
        let size' = length-part κ g s f' h room' in
        ext_get_or 0 (part κ g s f') (part κ g s f) (size' ∙ sym size)
        (λ j l. let m : j < part_length κ g = omega (arith, size') in
        part-number κ g f' s j m ∙ same (s * part_length κ g + j) (digits_lt h m) ∙ sym (part-number κ g f s j m))

    pub fields-same : T (field_sound κ g f) → T (field_sound κ g f')
    unfolding field_sound
    fields-same t = all_of g.tracers (λ s. sound κ g (part κ g s f'))
        (λ s l. subst (λ p. T (sound κ g p)) (sym (parts_same s l)) (all-at g.tracers (λ s. sound κ g (part κ g s f)) t s l))

  -- ---- a sound tracer's numbers, of elements whose every node has a weight
  module _ (weights : PositiveWeights κ) where
    cell-le-mass : (p : List ℕ) (e k : ℕ) → k < element_length κ → cell κ p e k ≤ mass κ p e
    unfolding element_length mass remainder
    cell-le-mass p e k h = go (dec_lt k κ.nodes)
      where
        go : Dec (k < κ.nodes) → cell κ p e k ≤ mass κ p e
        go (yes y) = value-le-mass κ p e k y (weights k y)
        go (no n) = let q : k ≡ κ.nodes = omega (arith, n) in omega (arith, ap (cell κ p e) q)

    element-small : (p : List ℕ) (j : ℕ) → j < elements_length κ g → get_or p j 0 ≤ total κ g p
    unfolding elements_length element_length cell
    element-small p j h =
        let w = element_length κ in
        let e = j / w in
        let k = j % w in
        let above : 0 < w = omega arith in
        let he : e < elements g = (div-lt_iff_lt-mul {k = w} {x = j} {y = elements g} above).1 h in
        let is : get_or p (e * w + k) 0 ≡ get_or p j 0 = ap (λ i. get_or p i 0) (div-add-mod' j w) in
        omega (arith, cell-le-mass p e k (mod-lt j above), mass-le-total κ g p e he)

    -- so every number of a sound part fits its 32 bits, the stored total too
    pub number_fits : (p : List ℕ) → T (sound κ g p) → (j : ℕ) → j < part_length κ g → get_or p j 0 < 4294967296
    unfolding part_length stored_total
    number_fits p t j h = let b = summed κ g p t in go b.0 b.1 (dec_lt j (elements_length κ g))
      where
        go : total κ g p ≤ limit → total κ g p ≡ stored_total κ g p → Dec (j < elements_length κ g) → get_or p j 0 < 4294967296
        go small stored (yes l) = omega (arith, element-small p j l)
        go small stored (no n) = let q : j ≡ elements_length κ g = omega (arith, n) in omega (arith, ap (λ k. get_or p k 0) q)
