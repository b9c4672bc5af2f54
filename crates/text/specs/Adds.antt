-- Bytes added to a text in a lent buffer.
use Rattle.std.specs.Prelude.{◌≡◌, List, ℕ, ◌+◌, ◌≤◌, length}
use Rattle.text.specs.declared.Text.{Text}
use Rattle.text.specs.Added.{Added}

-- the buffer has room for n bytes behind the text
abbrev pub HasRoom : ℕ → Text → Type 0
HasRoom n t = t.end + n ≤ length t.buffer.now

-- these bytes, at most n, stand behind the text that was there; the rest of the buffer is as it was
pub record Adds (n : ℕ) (bytes : List ℕ) (old new : Text) : Type 0 where
  pub same_buffer : new.buffer.ghost_name ≡ old.buffer.ghost_name
  pub same_size : length new.buffer.now ≡ length old.buffer.now
  pub added : Added n old.end bytes old.buffer.now new.buffer.now new.end
