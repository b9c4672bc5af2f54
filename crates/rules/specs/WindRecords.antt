-- Document 02, 2026-01, "Wind from the weather office": the records, the winds that they give, and what is checked of them.
use Rattle.std.specs.Prelude.{Bool, not, ◌&&◌, ℕ, zero, suc, ◌+◌, ◌*◌, ◌-◌, ◌/◌, ◌%◌, ◌^◌, leb, eqb, ℤ, pos, neg_ℤ, ◌*ℤ◌, length, get_or}
use Rattle.std.proofs.Math.Bool.{cond}
use mathlib.Core.List.{List, [], ◌∷◌, ◌++◌}
use Rattle.std.specs.Float.{binary64}
use Rattle.std.specs.Float.Ieee.{to_bits}
use Rattle.whole.specs.Table.{table, blocks}
use Rattle.whole.specs.Nearest.{nearest}
use Rattle.rules.specs.declared.WindRecord.{WindRecord}
use Rattle.rules.specs.declared.WindRecord.TheVariants.{Calm, Both, East}
use Rattle.rules.specs.Answers.{Check, check}
use Rattle.rules.specs.Bytes.{byte_at, number64}
use Rattle.rules.specs.Field.{wind_in_range}

-- ---- an f64 from its 64 bits: a sign, an exponent of 11 bits and a fraction of 52
abbrev pub sign_bit : ℕ → Bool
sign_bit bits = leb (2 ^ 63) bits

abbrev pub exponent : ℕ → ℕ
exponent bits = bits % 2 ^ 63 / 2 ^ 52

abbrev pub fraction : ℕ → ℕ
fraction bits = bits % 2 ^ 52

-- exponent 2047 is that of infinities and NaNs
abbrev pub finite : ℕ → Bool
finite bits = not (eqb (exponent bits) 2047)

-- the size of a finite one, a whole number of units of 2^−1074: with exponent 0 (subnormal) the fraction, else the fraction after a leading 1,
-- doubled for each exponent above 1
unfoldable pub magnitude : ℕ → ℕ
magnitude bits = cond (eqb (exponent bits) 0) (fraction bits) ((2 ^ 52 + fraction bits) * 2 ^ (exponent bits - 1))

-- "its exact binary value", in these units
unfoldable pub exact_value : ℕ → ℤ
unfolding magnitude
exact_value bits = cond (sign_bit bits) (neg_ℤ (pos (magnitude bits))) (pos (magnitude bits))

-- "Each number becomes C, the whole number nearest 4096 times its exact binary value, the even one at a half."
unfoldable pub face_wind : ℕ → ℤ
unfolding nearest exact_value
face_wind bits = nearest (pos 4096 *ℤ exact_value bits) (2 ^ 1074)

-- ---- a record: its kind, and the bits of its components; those of 0 for one that it does not have
pub record Components : Type 0 where
  pub kind : ℕ
  pub east_bits : ℕ
  pub north_bits : ℕ

-- each case of the enum in these terms
unfoldable pub components : WindRecord → Components
components Calm = record { kind = 0; east_bits = 0; north_bits = 0 }
components (Both p) = record { kind = 1; east_bits = to_bits binary64 p.east; north_bits = to_bits binary64 p.north }
components (East x) = record { kind = 2; east_bits = to_bits binary64 x; north_bits = 0 }

-- "Kind 0 is calm and has no number. Kind 1 has an east and a north component. Kind 2 has an east component only"; any other has none, and
-- is refused by 11
abbrev pub numbers_of : ℕ → ℕ
numbers_of kind = get_or (0 ∷ 2 ∷ 1 ∷ []) kind 0

-- "A record is a kind byte, then little-endian f64 numbers": its bytes
abbrev pub record_length : ℕ → ℕ
record_length kind = 1 + 8 * numbers_of kind

module _ (records : List ℕ) where
  -- the record at place p; "north is zero" in kind 2, as both are in kind 0
  unfoldable pub components_at : ℕ → Components
  unfolding number64
  components_at p =
      let k = byte_at records p in
      record { kind = k; east_bits = cond (leb 1 (numbers_of k)) (number64 records (p + 1)) 0; north_bits = cond (leb 2 (numbers_of k)) (number64 records (p + 9)) 0 }

  -- the winds of its element's east and north face
  abbrev pub east_at : ℕ → ℤ
  east_at p = face_wind (components_at p).east_bits

  abbrev pub north_at : ℕ → ℤ
  north_at p = face_wind (components_at p).north_bits

  -- "11 is an unknown kind, a missing byte": neither
  unfoldable pub whole_at : ℕ → Bool
  whole_at p = leb (byte_at records p) 2 && leb (p + record_length (byte_at records p)) (length records)

  -- "12 is a number not finite, looked for once the record is whole"
  unfoldable pub reading_checks : ℕ → List Check
  unfolding whole_at components_at
  reading_checks p = check 11 (whole_at p) ∷ check 12 (finite (components_at p).east_bits && finite (components_at p).north_bits) ∷ []

  -- "5 comes last within a record"
  unfoldable pub record_checks : ℕ → List Check
  unfolding reading_checks components_at face_wind
  record_checks p = reading_checks p ++ (check 5 (wind_in_range (east_at p) && wind_in_range (north_at p)) ∷ [])

  -- where the record of element e begins: "one per element in grid order (j outer)"
  unfoldable pub record_start : ℕ → ℕ
  record_start zero = 0
  record_start (suc e) = record_start e + record_length (byte_at records (record_start e))

  -- the checks of the records of n elements: "records in order"; 11 also for "bytes after the last record"
  unfoldable pub all_record_checks : ℕ → List Check
  unfolding record_start record_checks blocks
  all_record_checks n = blocks n (λ e. record_checks (record_start e)) ++ (check 11 (eqb (record_start n) (length records)) ∷ [])

  -- the winds of element e
  abbrev pub east_wind : ℕ → ℤ
  east_wind e = east_at (record_start e)

  abbrev pub north_wind : ℕ → ℤ
  north_wind e = north_at (record_start e)

  -- the winds of n elements: all east faces, then all north faces
  unfoldable pub record_winds : ℕ → List ℤ
  unfolding table record_start components_at face_wind
  record_winds n = table n east_wind ++ table n north_wind
