-- Std's conversions from and to little-endian bytes give the numbers and bytes of the file's format.
use Rattle.std.proofs.Common.{◌≡◌, refl, ap, ◌∙◌, ℕ, suc, ◌+◌, ◌*◌, ◌-◌, Bool, true, false, cond, ltb, ℤ, pos, negsuc, List, ◌++◌, take, drop, get_or, arith, w16, w32, w64, of_z, to_z}
use Rattle.std.specs.Int.{to_le_bytes, from_le_bytes}
use native.Mathlib.Nat.{mul_comm}
use mir.Val.{sel}
use Rattle.whole.specs.Table.{overwrite}
use Rattle.rules.specs.Bytes.{byte_at, bytes32, number32, number64, bits16, bytes16, number16}
use Rattle.file_numbers.specs.Laws.{byte, first}

-- the bits of an i16, by its sign
by_sign : (n : ℕ) → to_z w16 n ≡ cond (ltb n 32768) (pos n) (negsuc (65535 - n))
by_sign n = go (ltb n 32768)
  where
    go : (b : Bool) → sel b (pos n) (negsuc (65536 - suc n)) ≡ cond b (pos n) (negsuc (65535 - n))
    go true = refl
    go false = ap negsuc (omega arith)

module _ (l bs : List ℕ) (at : ℕ) where
  pub from-32 : bs ≡ take 4 (drop at l) → from_le_bytes w32 bs ≡ number32 l at
  unfolding number32
  from-32 e = rw (first 4 l bs at e (omega arith), byte 4 l bs at e 1 (omega arith), byte 4 l bs at e 2 (omega arith), byte 4 l bs at e 3 (omega arith), number32) (omega arith)

  pub from-64 : bs ≡ take 8 (drop at l) → from_le_bytes w64 bs ≡ number64 l at
  unfolding number64 number32
  from-64 e =
      let b5 : get_or bs 5 0 ≡ byte_at l (at + 4 + 1) = byte 8 l bs at e 5 (omega arith) ∙ ap (byte_at l) (omega arith) in
      let b6 : get_or bs 6 0 ≡ byte_at l (at + 4 + 2) = byte 8 l bs at e 6 (omega arith) ∙ ap (byte_at l) (omega arith) in
      let b7 : get_or bs 7 0 ≡ byte_at l (at + 4 + 3) = byte 8 l bs at e 7 (omega arith) ∙ ap (byte_at l) (omega arith) in
      rw (first 8 l bs at e (omega arith), byte 8 l bs at e 1 (omega arith), byte 8 l bs at e 2 (omega arith), byte 8 l bs at e 3 (omega arith), byte 8 l bs at e 4 (omega arith), b5, b6, b7, number64, number32) (omega arith)

  pub from-16 : bs ≡ take 2 (drop at l) → to_z w16 (from_le_bytes w16 bs) ≡ number16 l at
  unfolding number16
  from-16 e = rw (first 2 l bs at e (omega arith), byte 2 l bs at e 1 (omega arith), mul_comm (byte_at l (at + 1)) 256) (by_sign (byte_at l at + 256 * byte_at l (at + 1)))

-- the bytes that are copied to the front
module _ (l ys : List ℕ) where
  pub to-32 : (n : ℕ) → ys ≡ to_le_bytes w32 n → ys ++ drop 4 l ≡ overwrite 0 (bytes32 n) l
  unfolding bytes32 overwrite
  to-32 n e = ap (λ r. r ++ drop 4 l) e

  pub to-16 : (z : ℤ) → ys ≡ to_le_bytes w16 (of_z w16 z) → ys ++ drop 2 l ≡ overwrite 0 (bytes16 z) l
  unfolding bytes16 bits16 overwrite
  to-16 (pos n) e = ap (λ r. r ++ drop 2 l) e
  to-16 (negsuc n) e = ap (λ r. r ++ drop 2 l) (e ∙ ap (to_le_bytes w16) (omega arith))
