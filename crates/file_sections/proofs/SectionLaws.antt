-- The numbers of a section, by its bytes.
use Rattle.std.proofs.Common.{◌≡◌, Bool, sym, ap, ◌∙◌, ℕ, ◌*◌, ◌-◌, ◌<◌, List, length, take, drop, get_or}
use native.Mathlib.Nat.{mul_comm}
use Rattle.whole.proofs.TableLaws.{length-table, get_d-table}
use Rattle.rules.specs.Bytes.{number32, number16}
use Rattle.file_numbers.specs.Laws.{StoredLaws, laws16}
use Rattle.file_numbers.proofs.PlaceLaws.{read-at}
use Rattle.rules.specs.Field.{wind_in_range}
use Rattle.file_sections.specs.Numbers.{numbers_of}

pub length-numbers : (section : List ℕ) (n : ℕ) → length (numbers_of section n) ≡ n
unfolding numbers_of
length-numbers section n = length-table n (λ i. number32 section (4 * i))

pub number_at : (section : List ℕ) (n i : ℕ) → i < n → number32 section (4 * i) ≡ get_or (numbers_of section n) i 0
unfolding numbers_of
number_at section n i h = sym (get_d-table n (λ i. number32 section (4 * i)) i 0 h)

-- number i of a section, where m is what the code multiplies by
pub read-next : {A : Type 0} {size : ℕ} {number : List ℕ → ℕ → A} {bytes : A → List ℕ} → StoredLaws size number bytes
    → (l : List ℕ) (i m : ℕ) (x : A) → m ≡ size → x ≡ number (take (length l - i * m) (drop (i * m) l)) 0 → x ≡ number l (size * i)
read-next {size} {number} laws l i m x e h = read-at laws l (i * m) x h ∙ ap (number l) (ap (λ n. i * n) e ∙ mul_comm i size)

-- wind k, tested in a part of its two bytes
pub wind-at : (l x : List ℕ) (b : Bool) (k : ℕ) → x ≡ take 2 (drop (k * 2) l) → b ≡ wind_in_range (number16 x 0) → b ≡ wind_in_range (number16 l (2 * k))
wind-at l x b k e t = t ∙ ap wind_in_range (ap (λ y. number16 y 0) e ∙ laws16.cut l (k * 2) ∙ ap (number16 l) (mul_comm k 2))
