-- Which tests of the tail lead to which answer.
use mathlib.Core.Path.{◌≡◌, refl, ap}
use mathlib.Core.Bool.{Bool, true, false, ◌||◌}
use mathlib.Core.List.{List}
use Prim.Native.Nat.{ℕ, ◌-◌, ◌≤◌, ◌<◌}
use borrow.Author.Tests.{lt-leb, le-leb, eq-eqb, ne_eqb}
use lib.Dec.{eqb}
use lib.ListN.{length, get_or, take, drop}
use lib.Seq.{get_or-drop}
use Rattle.std.proofs.lemmas.List.{take_rest}
use Rattle.whole.proofs.SumLaws.{all-cong}
use Rattle.whole.specs.Sum.{all}
use Rattle.rules.specs.declared.Mark.{Mark}
use Rattle.rules.specs.declared.Mark.TheVariants.{Plum, Plu2}
use Rattle.rules.specs.Answers.{accepted, refused, answer}
use Rattle.rules.specs.Field.{admitted}
use Rattle.rules.specs.Bytes.{byte_at}
use Rattle.rules.specs.FieldFile.{mark_bytes, ends_with, tail_mark, tail_shape, tail_right}
use Rattle.file_reading.specs.Reading.{tail_reply}

module _ (file : List ℕ) where
  -- the test of a mark, of the bytes from its place on
  pub mark-tested : (m : Mark) → all 4 (λ i. eqb (byte_at (take (length file - (length file - 4)) (drop (length file - 4) file)) i) (get_or (mark_bytes m) i 0)) ≡ ends_with m file
  unfolding ends_with
  mark-tested m = rw (take_rest file (length file - 4)) (all-cong 4 _ _ (λ i _. ap (λ b. eqb b (get_or (mark_bytes m) i 0)) (get_or-drop (length file - 4) file i 0)))

  -- which of the two it is
  pub mark-plum : ends_with Plum file ≡ true → Plum ≡ tail_mark file
  unfolding tail_mark
  mark-plum e = rw e refl

  pub mark-plu2 : ends_with Plum file ≡ false → Plu2 ≡ tail_mark file
  unfolding tail_mark
  mark-plu2 e = rw e refl

  -- a file ends with one of the two
  abbrev pub marked : Bool
  marked = ends_with Plum file || ends_with Plu2 file

  pub tail-short : length file < 12 → refused 1 ≡ tail_reply file
  unfolding tail_reply answer tail_right
  tail-short l = rw (lt-leb 12 (length file) l)

  pub tail-unmarked : 12 ≤ length file → marked ≡ false → refused 1 ≡ tail_reply file
  unfolding tail_reply answer tail_right
  tail-unmarked l m = rw (le-leb 12 (length file) l, m)

  pub tail-fourth : 12 ≤ length file → marked ≡ true → (byte_at file (length file - 9) ≡ 0 → ⊥) → refused 1 ≡ tail_reply file
  unfolding tail_reply answer tail_right
  tail-fourth l m f = rw (le-leb 12 (length file) l, m, ne_eqb (byte_at file (length file - 9)) 0 f)

  pub tail-bad-shape : 12 ≤ length file → marked ≡ true → byte_at file (length file - 9) ≡ 0 → admitted (tail_shape file) ≡ false → refused 2 ≡ tail_reply file
  unfolding tail_reply answer tail_right
  tail-bad-shape l m f a = rw (le-leb 12 (length file) l, m, eq-eqb (byte_at file (length file - 9)) 0 f, a)

  pub tail-found : 12 ≤ length file → marked ≡ true → byte_at file (length file - 9) ≡ 0 → admitted (tail_shape file) ≡ true → accepted (tail_shape file) ≡ tail_reply file
  unfolding tail_reply answer tail_right
  tail-found l m f a = rw (le-leb 12 (length file) l, m, eq-eqb (byte_at file (length file - 9)) 0 f, a)
