-- Document 01, "Field file", and document 02, 2026-03: the bytes that printed text is made of: numbers in base ten, blanks and the newline.
use Rattle.std.specs.Prelude.{◌≡◌, cond, List, [], ◌∷◌, ◌++◌, ℕ, zero, suc, ◌+◌, ◌*◌, ◌-◌, ◌/◌, ◌%◌, ◌≤◌, ◌<◌, ltb, ℤ, pos, negsuc, length, get_or, replicate}

-- ---- numbers in base ten
-- n without leading zeros: at most `more` digits before the last one
unfoldable pub decimal_by : ℕ → ℕ → List ℕ
decimal_by zero n = (48 + n) ∷ []
decimal_by (suc more) n = cond (ltb n 10) ((48 + n) ∷ []) (decimal_by more (n / 10) ++ ((48 + n % 10) ∷ []))

-- numbers below 10^20 are printed, so 20 digits are enough
abbrev pub decimal : ℕ → List ℕ
decimal n = decimal_by 19 n

-- a minus sign, 45, before a number below 0
unfoldable pub signed : ℤ → List ℕ
unfolding decimal_by
signed (pos n) = decimal n
signed (negsuc n) = 45 ∷ decimal (suc n)

-- ---- lines: "Every printed line ends with a newline byte, 0A hexadecimal."
abbrev pub newline : List ℕ
newline = 10 ∷ []

abbrev pub blanks : ℕ → List ℕ
blanks n = replicate n 32

abbrev pub space : List ℕ
space = blanks 1

-- ---- pages (document 02, 2026-03)
-- "right-aligned in ten": blanks before the bytes, as many as are missing to the width
unfoldable pub right_aligned : ℕ → List ℕ → List ℕ
right_aligned width bytes = blanks (width - length bytes) ++ bytes

-- text of n lines: "Each line is exactly 73 characters and a newline." A character is a byte from 32, the blank, to 126
pub record Lines (n : ℕ) (text : List ℕ) : Type 0 where
  pub long : length text ≡ n * 74
  pub characters : (k c : ℕ) → k < n → c < 73 → (32 ≤ get_or text (k * 74 + c) 0) × (get_or text (k * 74 + c) 0 ≤ 126)
  pub newlines : (k : ℕ) → k < n → get_or text (k * 74 + 73) 0 ≡ 10
