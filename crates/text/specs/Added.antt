-- Bytes added to a buffer at a place, and where they end.
use Rattle.std.specs.Prelude.{◌≡◌, List, ℕ, ◌+◌, ◌≤◌, length}
use Rattle.whole.specs.Table.{overwrite}

-- new is old with these bytes, at most n, from place `at` on; they end before place `end`
pub record Added (n at : ℕ) (bytes old new : List ℕ) (end : ℕ) : Type 0 where
  pub same : new ≡ overwrite at bytes old
  pub ends : end ≡ at + length bytes
  pub few : length bytes ≤ n
  -- old has room for them
  pub fits : at + length bytes ≤ length old
