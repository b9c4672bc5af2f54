-- The values of a closing after levelling.
use Rattle.std.specs.Prelude.{List, ℕ, ℤ, ◌+ℤ◌}
use Rattle.whole.specs.Table.{at}

-- each raised by s
abbrev pub shifted : List ℤ → ℤ → ℕ → ℤ
shifted l s k = at l k +ℤ s
