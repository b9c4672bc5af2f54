-- One element of the field, lent as ten numbers and written back in place, and the stored total of its tracer's part.
use mathlib.Core.Path.{◌≡◌, refl, sym, ap, ◌∙◌}
use mathlib.Core.List.{List, [], ◌∷◌, ◌++◌}
use Prim.Native.Nat.{ℕ, ◌+◌, ◌*◌, ◌≤◌, ◌<◌}
use native.Mathlib.Nat.{zero-add}
use native.Mathlib.Omega.{arith}
use lib.ListN.{length, get_or, set, take, drop}
use lib.Seq.{get_or-take, get_or-drop}
use Rattle.whole.specs.Table.{overwrite}
use Rattle.whole.proofs.OverwriteLaws.{part_at, length-overwrite, set-is, overwrite-two}
use Rattle.rules.specs.declared.Shape.{Shape}
use Rattle.rules.specs.Field.{quadratic, element, element_length, elements_length, part_length, field_length, part, with_part, stored_total, with_stored_total, cell, mass}
use Rattle.rules.specs.Calls.{with_element, emitted, withdrawn}
use Rattle.rules.proofs.NamedLaws.{mass-alike, emitted-alike, withdrawn-alike}
use Rattle.field_layout.specs.Places.{Inside, element_start}
use Rattle.field_layout.proofs.PlaceLaws.{ten, part-is, part-is-more, tracer-room, total-room, element-room, start_is}
use Rattle.rules.proofs.GridLaws.{element-lt}

-- number v of a tracer's part, in the field
module _ (g : Shape) (s : ℕ) (f : List ℕ) where
  in_part : (v : ℕ) → v < part_length quadratic g → get_or (part quadratic g s f) v 0 ≡ get_or f (s * part_length quadratic g + v) 0
  unfolding part
  in_part v h = get_or-take (part_length quadratic g) (drop (s * part_length quadratic g) f) v 0 h ∙ get_or-drop (s * part_length quadratic g) f v 0

  -- the stored total
  pub stored_at : (at : ℕ) → at ≡ s * part_length quadratic g + elements_length quadratic g → get_or f at 0 ≡ stored_total quadratic g (part quadratic g s f)
  unfolding stored_total
  stored_at at e = ap (λ n. get_or f n 0) e ∙ sym (in_part (elements_length quadratic g) (omega (arith, part-is-more g)))

-- element (i, j) of a tracer, from `start` on in the field
module _ (g : Shape) (s i j : ℕ) (f : List ℕ) (h : Inside g s i j) (room : field_length quadratic g ≤ length f) (start : ℕ) (starts : start ≡ element_start g s i j) where
  abbrev e : ℕ
  e = element g i j

  -- where it starts in its tracer's part
  place : start ≡ s * part_length quadratic g + e * element_length quadratic
  place = omega (arith, starts, start_is g s i j, ap (λ n. e * n) ten)

  ends : e * element_length quadratic + 10 ≤ part_length quadratic g
  ends = omega (arith, ap (λ n. e * n) ten, part-is g, element-lt g i j h.column h.row)

  -- a number of the element, in the field
  pub number_at : (v : ℕ) → v < 10 → get_or f (start + v) 0 ≡ cell quadratic (part quadratic g s f) e v
  unfolding cell
  number_at v hv = ap (λ n. get_or f n 0) (omega (arith, place)) ∙ sym (in_part g s f (e * element_length quadratic + v) (omega (arith, ends)))

  -- its k numbers that are lent, which are ten
  module _ (k : ℕ) (is-ten : k ≡ 10) where
    abbrev lent : List ℕ
    lent = take k (drop start f)

    -- the lent numbers are those of the element in its tracer's part
    lent_same : (v : ℕ) → v < element_length quadratic → cell quadratic lent 0 v ≡ cell quadratic (part quadratic g s f) e v
    unfolding cell quadratic
    lent_same v hv = ap (λ n. get_or lent n 0) (zero-add v) ∙ part_at 10 start k f v 0 is-ten (omega (arith, ten)) ∙ number_at v (omega (arith, ten))

    pub mass-lent : mass quadratic lent 0 ≡ mass quadratic (part quadratic g s f) e
    mass-lent = mass-alike quadratic lent (part quadratic g s f) 0 e lent_same

    pub emitted-lent : (q : ℕ) → emitted quadratic 0 q lent ≡ emitted quadratic e q (part quadratic g s f)
    emitted-lent q = emitted-alike quadratic lent (part quadratic g s f) 0 e lent_same q

    pub withdrawn-lent : (q : ℕ) → withdrawn quadratic 0 q lent ≡ withdrawn quadratic e q (part quadratic g s f)
    withdrawn-lent q = withdrawn-alike quadratic lent (part quadratic g s f) 0 e lent_same q

    -- written back
    module _ (x y : List ℕ) (same : x ≡ y) (width : length y ≡ element_length quadratic) where
      written : take start f ++ (x ++ drop k (drop start f)) ≡ overwrite start y f
      unfolding overwrite
      written = rw (same, is-ten, sym ten ∙ sym width) refl

      long : length (take start f ++ (x ++ drop k (drop start f))) ≡ length f
      long = ap length written ∙ length-overwrite start y f (omega (arith, width, ten, starts, element-room g s i j h))

      -- and with the stored total after them, they replace the element and the total in the part in the field
      pub back-in-place : (t u : ℕ) → t ≡ u
          → set (take start f ++ (x ++ drop k (drop start f))) (s * part_length quadratic g + elements_length quadratic g) t
          ≡ with_part quadratic g s (with_stored_total quadratic g u (with_element quadratic e y (part quadratic g s f))) f
      unfolding with_part with_stored_total with_element part
      back-in-place t u total =
          let at = s * part_length quadratic g + elements_length quadratic g in
          set-is at t (take start f ++ (x ++ drop k (drop start f))) (omega (arith, long, total-room g s h.tracer))
          ∙ (λ n. overwrite at (total n ∷ []) ((written ∙ ap (λ m. overwrite m y f) place) n))
          ∙ sym (overwrite-two s (part_length quadratic g) (e * element_length quadratic) (elements_length quadratic g) y (u ∷ []) f (omega (arith, tracer-room g s h.tracer)) (omega (arith, width, ten, ends)) (omega (arith, part-is-more g)))
