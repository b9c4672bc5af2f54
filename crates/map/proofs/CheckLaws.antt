-- The map's checks, by the code's tests and the sum of the tracer; and what an answer leaves in the page.
use mathlib.Core.Path.{◌≡◌, sym, subst, ◌∙◌}
use mathlib.Core.Bool.{true, false}
use mathlib.Core.List.{List, []}
use Prim.Native.Nat.{ℕ, ◌≤◌, ◌<◌}
use borrow.Author.Tests.{lt-leb, le-leb}
use lib.Dec.{leb}
use lib.ListN.{length}
use Rattle.whole.specs.Table.{overwrite}
use Rattle.whole.proofs.Cases.{and-true, and-false}
use Rattle.rules.specs.declared.Shape.{Shape}
use Rattle.rules.specs.Answers.{Answer, accepted, refused, Check, answer}
use Rattle.rules.specs.Field.{quadratic, admitted, field_length, part, total, sound}
use Rattle.rules.specs.Calls.{part_checks}
use Rattle.rules.specs.Map.{page_text, page_length, map_reading, map_page}
use Rattle.rules.proofs.AnswerLaws.{prefix-refused, prefix-accepted, after-refused, after-accepted}
use Rattle.field.specs.Leaves.{sum_reading}

-- what the map gives for a grid's shape, for the shape that it was made of
pub on_shape : {a : Answer ℕ} {new : List ℕ} {g h : Shape} (s : ℕ) (field page : List ℕ) → g ≡ h
    → (a ≡ map_reading quadratic g s field page) × (new ≡ map_page quadratic g s field page) → (a ≡ map_reading quadratic h s field page) × (new ≡ map_page quadratic h s field page)
on_shape {a} {new} s field page e p = subst (λ k. (a ≡ map_reading quadratic k s field page) × (new ≡ map_page quadratic k s field page)) e p

module _ (g : Shape) (s : ℕ) (field page : List ℕ) where
  abbrev text : List ℕ
  text = page_text quadratic g (part quadratic g s field)

  pub map-bad-shape : admitted g ≡ false → map_reading quadratic g s field page ≡ refused 2
  unfolding map_reading answer
  map-bad-shape a = rw a

  pub map-short : admitted g ≡ true → length page < page_length g → map_reading quadratic g s field page ≡ refused 4
  unfolding map_reading answer
  map-short a h = rw (a, lt-leb _ _ h, and-false (leb (field_length quadratic g) (length field)))

  -- a page that is long enough leaves it to the checks of the sum
  module _ (room : page_length g ≤ length page) where
    abbrev checks : List Check
    checks = part_checks quadratic g (sound quadratic g) s field

    same-checks : map_reading quadratic g s field page ≡ answer checks (length text)
    unfolding map_reading
    same-checks = rw (le-leb _ _ room, and-true (leb (field_length quadratic g) (length field)))

    pub map-refused : (n : ℕ) → sum_reading g s field ≡ refused n → map_reading quadratic g s field page ≡ refused n
    unfolding sum_reading
    map-refused n e = same-checks ∙ prefix-refused checks [] (total quadratic g (part quadratic g s field)) (length text) n e

    pub map_found : (t : ℕ) → sum_reading g s field ≡ accepted t → map_reading quadratic g s field page ≡ accepted (length text)
    unfolding sum_reading answer
    map_found t e = same-checks ∙ prefix-accepted checks [] (total quadratic g (part quadratic g s field)) t (length text) e

  -- what a refused and an accepted map leave
  pub page-kept : (n : ℕ) → map_reading quadratic g s field page ≡ refused n → (refused n ≡ map_reading quadratic g s field page) × (page ≡ map_page quadratic g s field page)
  unfolding map_page
  page-kept n e = (sym e, sym (after-refused (map_reading quadratic g s field page) n _ page e))

  pub page-written : (n : ℕ) → map_reading quadratic g s field page ≡ accepted n → overwrite 0 text page ≡ map_page quadratic g s field page
  unfolding map_page
  page-written n e = sym (after-accepted (map_reading quadratic g s field page) n _ page e)
