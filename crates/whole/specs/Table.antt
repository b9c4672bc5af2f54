-- The values of a function at 0 .. n − 1, as a list; a number of a list; a list written over another.
use Rattle.std.specs.Prelude.{List, [], ◌∷◌, ◌++◌, ℤ, pos, length, get_or, take, drop, ℕ, zero, suc}

-- the lists f 0, .., f (n − 1), one after the other
unfoldable pub blocks {ℓ} : {A : Type ℓ} → ℕ → (ℕ → List A) → List A
blocks zero f = []
blocks (suc n) f = blocks n f ++ f n

-- the numbers f 0, .., f (n − 1)
unfoldable pub table {ℓ} : {A : Type ℓ} → ℕ → (ℕ → A) → List A
table zero f = []
table (suc n) f = table n f ++ (f n ∷ [])

-- number i of a list of whole numbers; 0 past its end
abbrev pub at : List ℤ → ℕ → ℤ
at l i = get_or l i (pos 0)

-- ys written over xs from place n on; the rest is left alone (a list that is too short becomes longer)
unfoldable pub overwrite {ℓ} : {A : Type ℓ} → ℕ → List A → List A → List A
overwrite n ys xs = take n xs ++ (ys ++ drop (length ys) (drop n xs))
