-- Numbers as bytes, "Little-endian": of the field file (document 01) and of wind records (document 02, 2026-01).
use Rattle.std.specs.Prelude.{cond, List, [], ◌∷◌, ℕ, ◌+◌, ◌*◌, ◌-◌, ◌/◌, ◌%◌, ltb, ℤ, pos, negsuc, get_or}

-- byte i of a file; 0 past its end
abbrev pub byte_at : List ℕ → ℕ → ℕ
byte_at file i = get_or file i 0

unfoldable pub bytes32 : ℕ → List ℕ
bytes32 n = n % 256 ∷ n / 256 % 256 ∷ n / 65536 % 256 ∷ n / 16777216 % 256 ∷ []

unfoldable pub number32 : List ℕ → ℕ → ℕ
number32 file i = byte_at file i + 256 * byte_at file (i + 1) + 65536 * byte_at file (i + 2) + 16777216 * byte_at file (i + 3)

-- eight bytes: the lower four, and the upper four
unfoldable pub number64 : List ℕ → ℕ → ℕ
unfolding number32
number64 file i = number32 file i + 4294967296 * number32 file (i + 4)

-- an i16 in two's complement
unfoldable pub bits16 : ℤ → ℕ
bits16 (pos n) = n
bits16 (negsuc n) = 65535 - n

unfoldable pub bytes16 : ℤ → List ℕ
unfolding bits16
bytes16 z = bits16 z % 256 ∷ bits16 z / 256 % 256 ∷ []

unfoldable pub number16 : List ℕ → ℕ → ℤ
number16 file i =
    let n = byte_at file i + 256 * byte_at file (i + 1) in
    cond (ltb n 32768) (pos n) (negsuc (65535 - n))
