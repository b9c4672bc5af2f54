-- An element's values as an array holds them.
use Rattle.std.specs.Prelude.{List, ℕ, ◌≤◌, get_or}

-- the value at node k
abbrev pub value_of : List ℕ → ℕ → ℕ
value_of l k = get_or l k 0

-- every value is at most n
pub record AllUpTo (n : ℕ) (l : List ℕ) : Type 0 where
  pub all : (k : ℕ) → value_of l k ≤ n
