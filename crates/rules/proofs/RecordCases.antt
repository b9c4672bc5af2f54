-- Document 02, 2026-01: records at and beside the edges, one theorem over one table.
use mathlib.Core.Path.{◌≡◌, refl}
use mathlib.Core.List.{List, [], ◌∷◌, ◌++◌, map}
use Prim.Native.Nat.{ℕ, ◌+◌, ◌*◌, ◌-◌, ◌/◌, ◌%◌, ◌^◌}
use lib.IntN.{ℤ, pos, negsuc}
use Rattle.whole.specs.Nearest.{nearest_natural, nearest}
use Rattle.whole.specs.Table.{table, blocks}
use Rattle.rules.specs.Answers.{Answer, accepted, refused, answer}
use Rattle.rules.specs.Bytes.{number32, number64}
use Rattle.rules.specs.WindRecords.{magnitude, exact_value, face_wind, components_at, whole_at, record_checks, record_start, all_record_checks, record_winds}

-- the eight bytes of a number, the lowest first
unfoldable pub bytes64 : ℕ → List ℕ
unfolding table
bytes64 bits = table 8 (λ i. bits / 256 ^ i % 256)

-- those of an f64 by its exponent and its fraction, and of its negative
abbrev pub plus : ℕ → ℕ → List ℕ
plus e f = bytes64 (e * 2 ^ 52 + f)

abbrev pub minus : ℕ → ℕ → List ℕ
minus e f = bytes64 (2 ^ 63 + (e * 2 ^ 52 + f))

-- records by their kind
abbrev pub calm : List ℕ
calm = 0 ∷ []

abbrev pub both : List ℕ → List ℕ → List ℕ
both x y = 1 ∷ x ++ y

abbrev pub east : List ℕ → List ℕ
east x = 2 ∷ x

-- 0.25 is 1024 / 4096: its exponent, and the fraction that makes it 1024.5 / 4096
abbrev pub quarter_exponent : ℕ
quarter_exponent = 1021

abbrev pub half_more : ℕ
half_more = 2 ^ 41

pub record Case : Type 0 where
  pub elements : ℕ
  pub records : List ℕ
  pub expected : Answer (List ℤ)

abbrev pub row : ℕ → List ℕ → Answer (List ℤ) → Case
row n records a = record { elements = n; records = records; expected = a }

abbrev pub cases : List Case
cases =
    -- each kind; all east winds, then all north winds
    row 3 (calm ++ (both (plus quarter_exponent 0) (minus 1019 0) ++ east (plus 1020 0))) (accepted (pos 0 ∷ pos 1024 ∷ pos 512 ∷ pos 0 ∷ negsuc 255 ∷ pos 0 ∷ []))
    -- the bytes of 0.25 as they stand
    ∷ row 1 (2 ∷ 0 ∷ 0 ∷ 0 ∷ 0 ∷ 0 ∷ 0 ∷ 208 ∷ 63 ∷ []) (accepted (pos 1024 ∷ pos 0 ∷ []))
    -- halves: 0.5, 1.5 and 2.5 to 0, 2 and 2, and their negatives
    ∷ row 3 (both (plus 1010 0) (minus 1010 0) ++ (both (plus 1011 (2 ^ 51)) (minus 1011 (2 ^ 51)) ++ both (plus 1012 (2 ^ 50)) (minus 1012 (2 ^ 50))))
    (accepted (pos 0 ∷ pos 2 ∷ pos 2 ∷ pos 0 ∷ negsuc 1 ∷ negsuc 1 ∷ []))
    -- one unit beside 0.5
    ∷ row 1 (both (plus 1009 (2 ^ 52 - 1)) (minus 1010 1)) (accepted (pos 0 ∷ negsuc 0 ∷ []))
    -- 1024.5 is 1024, and more is 1025; a sign changes nothing
    ∷ row 1 (both (plus quarter_exponent half_more) (minus quarter_exponent half_more)) (accepted (pos 1024 ∷ negsuc 1023 ∷ []))
    ∷ row 1 (east (plus quarter_exponent (half_more + 1))) (refused 5)
    ∷ row 1 (east (minus quarter_exponent (half_more + 1))) (refused 5)
    -- −0, subnormals, the largest numbers
    ∷ row 2 (both (minus 0 0) (plus 0 1) ++ east (minus 0 (2 ^ 52 - 1))) (accepted (pos 0 ∷ pos 0 ∷ pos 0 ∷ pos 0 ∷ []))
    ∷ row 1 (east (plus 2046 (2 ^ 52 - 1))) (refused 5)
    -- infinities and NaNs
    ∷ row 1 (east (plus 2047 0)) (refused 12)
    ∷ row 1 (both (plus 0 0) (minus 2047 1)) (refused 12)
    -- no record, an unknown kind, a missing byte, a byte left over
    ∷ row 1 [] (refused 11)
    ∷ row 1 (3 ∷ []) (refused 11)
    ∷ row 2 (calm ++ (2 ∷ 0 ∷ 0 ∷ 0 ∷ 0 ∷ 0 ∷ 0 ∷ 0 ∷ [])) (refused 11)
    ∷ row 1 (calm ++ calm) (refused 11)
    -- two faults: 12 only in a whole record, 5 last in a record, an earlier record first
    ∷ row 1 (1 ∷ plus 2047 1 ++ (0 ∷ 0 ∷ [])) (refused 11)
    ∷ row 1 (both (plus 1022 0) (plus 2047 0)) (refused 12)
    ∷ row 2 (east (plus 1022 0) ++ (3 ∷ [])) (refused 5)
    ∷ row 2 (both (plus 2047 0) (plus 0 0)) (refused 12)
    ∷ row 2 ((3 ∷ []) ++ east (plus 2047 0)) (refused 11)
    ∷ row 1 (east (plus 1022 0) ++ calm) (refused 5)
    ∷ []

-- what the rules answer, with the winds
unfoldable pub answered : Case → Case
unfolding answer all_record_checks record_winds
answered c = row c.elements c.records (answer (all_record_checks c.records c.elements) (record_winds c.records c.elements))

pub record-cases : map answered cases ≡ cases
unfolding answered bytes64 answer all_record_checks record_winds record_checks record_start whole_at components_at face_wind exact_value magnitude nearest nearest_natural number64 number32 table blocks
record-cases = refl
