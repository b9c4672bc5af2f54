-- Field files with the marks "PLUM" and "PLU2" (document 02, 2026-06), evaluated: where their sections stand, and a file of one element of each mark,
-- read and written again. Case F's field is in both.
use mathlib.Core.Path.{◌≡◌, refl}
use mathlib.Core.List.{List, [], ◌∷◌, ◌++◌, map}
use Prim.Native.Nat.{ℕ}
use lib.IntN.{ℤ, pos}
use lib.ListN.{replicate}
use Rattle.whole.specs.Sum.{sum, all}
use Rattle.whole.specs.Table.{table, blocks, overwrite}
use Rattle.rules.specs.declared.Shape.{Shape}
use Rattle.rules.specs.declared.Mark.{Mark}
use Rattle.rules.specs.declared.Mark.TheVariants.{Plum, Plu2}
use Rattle.rules.specs.Answers.{Answer, accepted, refused, answer, after}
use Rattle.rules.specs.Bytes.{bytes32, number32, bits16, bytes16, number16}
use Rattle.rules.specs.Field.{quadratic, admitted, weight_sum, weighted, element_length, elements_length, part_length, field_length, part, cell, remainder, mass, total, stored_total, part_of, sum_sound, sound}
use Rattle.rules.specs.Calls.{wind_sound}
use Rattle.rules.specs.FieldFile.{section_length, section_start, table_start, file_length, tail, section_of, file_of, tail_shape, ends_with, tail_mark, tail_right, file_wind, offsets_right, section_numbers, part_from, file_field, field_sound, read_reply, read_field, read_wind, write_reply, write_file}

-- ---- layout, of one element and two tracers: where the wind's section, the tracers' and the table start, and the length
abbrev grid : Shape
grid = record { nx = 1; ny = 1; tracers = 2 }

abbrev places : Mark → List ℕ
places m = table 4 (section_start quadratic m grid) ++ (file_length quadratic m grid ∷ [])

pub layout : places Plum ∷ places Plu2 ∷ [] ≡ (0 ∷ 4 ∷ 44 ∷ 84 ∷ 108 ∷ []) ∷ (0 ∷ 4 ∷ 48 ∷ 92 ∷ 116 ∷ []) ∷ []
unfolding table section_start section_length file_length table_start element_length elements_length part_length quadratic
layout = refl

-- ---- files of one element and one tracer: an east wind of 1024, nine values 7 and the remainder 5, which make 257
abbrev one : Shape
one = record { nx = 1; ny = 1; tracers = 1 }

-- a number below 256 as four bytes
abbrev low : ℕ → List ℕ
low n = n ∷ 0 ∷ 0 ∷ 0 ∷ []

-- wind and element, with the remainder r; offsets, and a tail with the place of the table and the last byte of the mark
abbrev sections : ℕ → List ℕ
sections r = 0 ∷ 4 ∷ 0 ∷ 0 ∷ blocks 9 (λ k. low 7) ++ low r

abbrev ending : ℕ → ℕ → List ℕ
ending place last = low 0 ++ (low 4 ++ (1 ∷ 1 ∷ 1 ∷ 0 ∷ low place ++ (80 ∷ 76 ∷ 85 ∷ last ∷ [])))

-- the two files
abbrev plum : List ℕ
plum = sections 5 ++ ending 44 77

abbrev plu2 : List ℕ
plu2 = sections 5 ++ ((1 ∷ 1 ∷ 0 ∷ 0 ∷ []) ++ ending 48 50)

-- the same bytes with the other one's mark, and with a mark that is neither's
abbrev other-marks : List (List ℕ)
other-marks = (sections 5 ++ ending 44 50) ∷ (sections 5 ++ ((1 ∷ 1 ∷ 0 ∷ 0 ∷ []) ++ ending 48 77)) ∷ (sections 5 ++ ((1 ∷ 1 ∷ 0 ∷ 0 ∷ []) ++ ending 48 51)) ∷ []

-- a stored total of 258, a remainder of 36 by each mark, and a sum that no u32 holds
abbrev unsound : List (List ℕ)
unsound = (sections 5 ++ ((2 ∷ 1 ∷ 0 ∷ 0 ∷ []) ++ ending 48 50)) ∷ (sections 36 ++ ending 44 77) ∷ (sections 36 ++ ((32 ∷ 1 ∷ 0 ∷ 0 ∷ []) ++ ending 48 50))
    ∷ (0 ∷ 4 ∷ 0 ∷ 0 ∷ replicate 36 255 ++ (low 5 ++ ending 44 77)) ∷ []

-- what reading a file into lent buffers, all nines and each a number longer than is needed, answers and leaves
pub record Read : Type 0 where
  pub reply : Answer Shape
  pub field : List ℕ
  pub wind : List ℤ

abbrev nines : List ℕ
nines = replicate 12 9

abbrev nine-winds : List ℤ
nine-winds = replicate 3 (pos 9)

abbrev read : List ℕ → Read
read file = record { reply = read_reply quadratic file nines nine-winds; field = read_field quadratic file nines nine-winds; wind = read_wind quadratic file nines nine-winds }

-- ""PLUM" is still read, its totals worked out"
abbrev held : Read
held = record { reply = accepted one; field = replicate 9 7 ++ (5 ∷ 257 ∷ 9 ∷ []); wind = pos 1024 ∷ pos 0 ∷ pos 9 ∷ [] }

abbrev refusal : ℕ → Read
refusal n = record { reply = refused n; field = nines; wind = nine-winds }

pub reading : map read (plum ∷ plu2 ∷ other-marks ++ unsound) ≡ held ∷ held ∷ refusal 3 ∷ refusal 3 ∷ refusal 1 ∷ refusal 6 ∷ refusal 6 ∷ refusal 6 ∷ refusal 6 ∷ []
unfolding read_reply read_field read_wind answer after admitted tail_shape tail_mark tail_right ends_with offsets_right wind_sound field_sound file_wind file_field section_numbers part_from
    section_start section_length table_start file_length element_length elements_length part_length field_length part part_of stored_total cell remainder mass total weighted weight_sum quadratic sum_sound sound
    number16 number32 sum all table blocks overwrite
reading = refl

-- ---- "such a file is written again as "PLU2"; only files with the new mark come back byte for byte"; a byte more is left alone
pub record Written : Type 0 where
  pub reply : Answer ℕ
  pub file : List ℕ

abbrev write : List ℕ → Written
write field = record { reply = write_reply quadratic one field held.wind (replicate 69 9); file = write_file quadratic one field held.wind (replicate 69 9) }

-- what reading either file left, and the same with another stored total
pub writing : write held.field ∷ write (replicate 9 7 ++ (5 ∷ 256 ∷ [])) ∷ [] ≡ record { reply = accepted 68; file = plu2 ++ (9 ∷ []) } ∷ record { reply = refused 6; file = replicate 69 9 } ∷ []
unfolding write_reply write_file answer after admitted wind_sound field_sound file_of section_of tail section_start section_length table_start file_length
    element_length elements_length part_length field_length part stored_total cell remainder mass total weighted weight_sum quadratic sum_sound sound
    bytes32 bits16 bytes16 sum all table blocks overwrite
writing = refl
