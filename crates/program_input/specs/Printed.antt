-- What a call that prints into a lent buffer leaves there.
use Rattle.std.specs.Prelude.{◌≡◌, ℕ, List, replicate, take}
use Rattle.std.specs.Borrow.{MutBor}

-- some call on a buffer of `size` zeros may answer n, and P holds of the first n bytes that it leaves
abbrev pub Printed : (MutBor (List ℕ) → ℕ → MutBor (List ℕ) → Type 0) → ℕ → (List ℕ → Type 0) → Type 0
Printed post size P = (out : MutBor (List ℕ)) × (n : ℕ) × (left : MutBor (List ℕ)) × (out.now ≡ replicate size 0) × post out n left × P (take n left.now)
