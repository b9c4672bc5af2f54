-- Text as bytes: how many digits a number takes, bytes right-aligned in a width, and lines of 73 characters and a newline.
use mathlib.Core.Path.{◌≡◌, sym, ap, subst, ◌∙◌}
use mathlib.Core.List.{List, [], ◌∷◌, ◌++◌}
use Prim.Native.Nat.{ℕ, zero, suc, ◌+◌, ◌*◌, ◌-◌, ◌/◌, ◌%◌, ◌^◌, ◌≤◌, ◌<◌}
use native.Mathlib.Nat.{mod-lt, pow-suc, pow-le-pow_right, div-lt_iff_lt-mul, suc-mul, zero-mul}
use native.Mathlib.Decide.{dec_lt}
use native.Mathlib.Omega.{arith}
use lib.Dec.{ltb, ltb→lt, nltb→le}
use lib.ListN.{length, get_or, replicate, length-append, length-replicate, get_or-replicate, get_or-append}
use lib.Seq.{get_or-append-add, get_or_at}
use Rattle.whole.specs.Table.{blocks}
use Rattle.whole.proofs.Cases.{cond_ind}
use Rattle.rules.specs.Text.{decimal_by, decimal, newline, blanks, right_aligned, Lines}

-- ---- every byte of a text
-- a byte of two texts, one after the other, is a byte of the first or of the second
append-ind : (P : ℕ → Type 0) (a b : List ℕ) (i : ℕ) → (i < length a → P (get_or a i 0)) → ((j : ℕ) → i ≡ length a + j → P (get_or b j 0)) → P (get_or (a ++ b) i 0)
append-ind P a b i first second = go (dec_lt i (length a))
  where
    go : Dec (i < length a) → P (get_or (a ++ b) i 0)
    go (yes h) = subst P (sym (get_or-append a b 0 i h)) (first h)
    go (no h) = let e : i ≡ length a + (i - length a) = omega arith in
        subst P (sym (ap (λ k. get_or (a ++ b) k 0) e ∙ get_or-append-add a b (i - length a) 0)) (second (i - length a) e)

module _ (P : ℕ → Type 0) where
  -- P holds of every byte
  abbrev pub Every : List ℕ → Type 0
  Every text = (k : ℕ) → k < length text → P (get_or text k 0)

  pub every_append : (a b : List ℕ) → Every a → Every b → Every (a ++ b)
  every_append a b p q k h = append-ind P a b k (p k) (λ j e. q j (omega (arith, length-append a b)))

  pub every-repeated : (n x : ℕ) → P x → Every (replicate n x)
  every-repeated n x p k h = subst P (sym (get_or-replicate n k x 0 (omega (arith, length-replicate n x)))) p

-- ---- numbers in base ten
abbrev pub Digit : ℕ → Type 0
Digit x = (48 ≤ x) × (x ≤ 57)

one-digit : (n : ℕ) → n < 10 → Every Digit ((48 + n) ∷ [])
one-digit n h = every-repeated Digit 1 (48 + n) (omega arith)

-- a number is its one digit, or the digits of its tenth and its last digit
decimal-more : (more n : ℕ) (P : List ℕ → Type 0) → (n < 10 → P ((48 + n) ∷ [])) → (10 ≤ n → P (decimal_by more (n / 10) ++ ((48 + n % 10) ∷ []))) → P (decimal_by (suc more) n)
unfolding decimal_by
decimal-more more n P one more' = cond_ind (ltb n 10) ((48 + n) ∷ []) (decimal_by more (n / 10) ++ ((48 + n % 10) ∷ [])) P (λ t. one (ltb→lt n 10 t)) (λ t. more' (nltb→le n 10 t))

-- the tenth takes one digit less
tenth : (w n : ℕ) → n < 10 ^ suc (suc w) → n / 10 < 10 ^ suc w
tenth w n h = (div-lt_iff_lt-mul {k = 10} (omega arith)).1 (rw (pow-suc 10 (suc w)) at h)

-- a number below 10^(w + 1) has at most w + 1 digits
pub decimal-length : (w more n : ℕ) → n < 10 ^ suc w → length (decimal_by more n) ≤ suc w
unfolding decimal_by
decimal-length w zero n h = omega arith
decimal-length zero (suc more) n h = decimal-more more n (λ l. length l ≤ 1) (λ _. omega arith) (λ l. absurd (omega arith))
decimal-length (suc w) (suc more) n h = decimal-more more n (λ l. length l ≤ suc (suc w)) (λ _. omega arith)
    (λ _. omega (arith, length-append (decimal_by more (n / 10)) ((48 + n % 10) ∷ []), decimal-length w more (n / 10) (tenth w n h)))

-- where there is room for its digits, every byte of a number is a digit
pub decimal-digits : (more n : ℕ) → n < 10 ^ suc more → Every Digit (decimal_by more n)
unfolding decimal_by
decimal-digits zero n h = one-digit n (omega arith)
decimal-digits (suc more) n h = decimal-more more n (Every Digit) (one-digit n)
    (λ _. every_append Digit (decimal_by more (n / 10)) ((48 + n % 10) ∷ []) (decimal-digits more (n / 10) (tenth more n h)) (one-digit (n % 10) (mod-lt n (omega arith))))

-- ---- bytes right-aligned in a width
pub aligned-length : (w : ℕ) (bytes : List ℕ) → length (right_aligned w bytes) ≡ w - length bytes + length bytes
unfolding right_aligned
aligned-length w bytes = length-append (blanks (w - length bytes)) bytes ∙ ap (λ k. k + length bytes) (length-replicate (w - length bytes) 32)

pub right-aligned-length : (w : ℕ) (bytes : List ℕ) → length bytes ≤ w → length (right_aligned w bytes) ≡ w
right-aligned-length w bytes h = aligned-length w bytes ∙ omega arith

-- ---- blocks
-- a statement on a size and a text holds of blocks if it holds of each block, of no text, and of two texts one after the other
blocks-by : (P : ℕ → List ℕ → Type 0) → P 0 [] → ((m n : ℕ) (a b : List ℕ) → P m a → P n b → P (m + n) (a ++ b))
    → (w : ℕ) (f : ℕ → List ℕ) (n : ℕ) → ((i : ℕ) → i < n → P w (f i)) → P (n * w) (blocks n f)
unfolding blocks
blocks-by P none both w f zero h = subst (λ k. P k []) (sym (zero-mul w)) none
blocks-by P none both w f (suc n) h = subst (λ k. P k (blocks n f ++ f n)) (sym (suc-mul n w))
    (both (n * w) w (blocks n f) (f n) (blocks-by P none both w f n (λ i l. h i (omega arith))) (h n (omega arith)))

-- ---- characters, as `Lines` has them
abbrev pub Character : ℕ → Type 0
Character x = (32 ≤ x) × (x ≤ 126)

-- a text of n characters
pub record Characters (n : ℕ) (text : List ℕ) : Type 0 where
  pub long : length text ≡ n
  pub each : Every Character text

pub characters-append : {m n : ℕ} {a b : List ℕ} → Characters m a → Characters n b → Characters (m + n) (a ++ b)
characters-append {m} {n} {a} {b} p q = record { long = length-append a b ∙ omega arith; each = every_append Character a b p.each q.each }

pub characters-repeated : (n x : ℕ) → Character x → Characters n (replicate n x)
characters-repeated n x h = record { long = length-replicate n x; each = every-repeated Character n x h }

pub characters-blanks : (n : ℕ) → Characters n (blanks n)
characters-blanks n = characters-repeated n 32 (omega arith)

pub characters-blocks : (w : ℕ) (f : ℕ → List ℕ) (n : ℕ) → ((i : ℕ) → i < n → Characters w (f i)) → Characters (n * w) (blocks n f)
characters-blocks = blocks-by Characters (characters-blanks 0) (λ _ _ _ _. characters-append)

-- bytes that have room in a width, with the blanks before them
pub characters-aligned : (width : ℕ) (bytes : List ℕ) → length bytes ≤ width → Every Character bytes → Characters width (right_aligned width bytes)
unfolding right_aligned
characters-aligned width bytes few p = record {
  long = right-aligned-length width bytes few;
  each = every_append Character (blanks (width - length bytes)) bytes (characters-blanks (width - length bytes)).each p;
}

-- a number below 10^(w + 1), in a width that has room for w + 1 digits
pub characters-number : (width w n : ℕ) → w < width → w < 20 → n < 10 ^ suc w → Characters width (right_aligned width (decimal n))
characters-number width w n room few h =
    let small : n < 10 ^ 20 = omega (arith, pow-le-pow_right {n = 10} (omega arith) {i = suc w} {j = 20} (omega arith)) in
    characters-aligned width (decimal n) (omega (arith, decimal-length w 19 n h)) (λ k l. omega (arith, decimal-digits 19 n small k l))

-- ---- lines
-- 73 characters and a newline are a line
pub one_line : {text : List ℕ} → Characters 73 text → Lines 1 (text ++ newline)
one_line {text} h = record {
  long = length-append text newline ∙ omega arith;
  characters = λ k c hk hc. append-ind Character text newline (k * 74 + c) (h.each (k * 74 + c)) (λ j e. absurd (omega arith));
  newlines = λ k hk. get_or_at text 10 [] 0 (k * 74 + 73) (h.long ∙ omega arith);
}

pub lines-append : {m n : ℕ} {a b : List ℕ} → Lines m a → Lines n b → Lines (m + n) (a ++ b)
lines-append {m} {n} {a} {b} p q = record {
  long = length-append a b ∙ omega arith;
  characters = λ k c hk hc. by Character k c hk (omega arith) (λ l. p.characters k c l hc) (λ l. q.characters (k - m) c l hc);
  newlines = λ k hk. by (λ x. x ≡ 10) k 73 hk (omega arith) (p.newlines k) (q.newlines (k - m));
}
  where
    -- byte c of line k is of the first text, or of the second
    by : (P : ℕ → Type 0) (k c : ℕ) → k < m + n → c < 74 → (k < m → P (get_or a (k * 74 + c) 0)) → (k - m < n → P (get_or b ((k - m) * 74 + c) 0)) → P (get_or (a ++ b) (k * 74 + c) 0)
    by P k c hk hc first second = append-ind P a b (k * 74 + c) (λ l. first (omega arith))
        (λ j e. subst (λ i. P (get_or b i 0)) (omega arith) (second (omega arith)))

pub no_lines : Lines 0 []
no_lines = omega arith

pub lines-blocks : (w : ℕ) (f : ℕ → List ℕ) (n : ℕ) → ((i : ℕ) → i < n → Lines w (f i)) → Lines (n * w) (blocks n f)
lines-blocks = blocks-by Lines no_lines (λ _ _ _ _. lines-append)
