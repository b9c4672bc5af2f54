-- Bytes added to a text, one after the other.
use mathlib.Core.Path.{◌≡◌, refl, ap, ◌∙◌}
use mathlib.Core.List.{List, [], ◌++◌}
use Prim.Native.Nat.{ℕ, ◌+◌, ◌*◌, ◌-◌, ◌≤◌, ◌<◌}
use native.Mathlib.Nat.{zero-sub}
use native.Mathlib.Omega.{arith}
use borrow.Rule.Slice.PartMut.{put_mid}
use borrow.Rule.Slice.Mut.{set_vals}
use lib.ListN.{length}
use Rattle.whole.specs.Table.{blocks, overwrite}
use Rattle.rules.specs.Text.{blanks, right_aligned}
use Rattle.text.specs.declared.Text.{Text}
use Rattle.text.specs.Added.{Added}
use Rattle.text.specs.Adds.{Adds, HasRoom}
use Rattle.text.proofs.AddedLaws as buffer

-- bytes added to the same buffer
adds : {n : ℕ} {bytes : List ℕ} {old new : Text} → new.buffer.ghost_name ≡ old.buffer.ghost_name → Added n old.end bytes old.buffer.now new.buffer.now new.end → Adds n bytes old new
adds same a = record { same_buffer = same; same_size = buffer.added-length a; added = a }

-- bytes written over the buffer at the text's end, and the end moved behind them
pub written : {t : Text} {k e : ℕ} {word bytes : List ℕ} → word ≡ bytes → length bytes ≡ k → e ≡ k → HasRoom k t
    → Adds k bytes t (record { buffer = set_vals (put_mid t.end e t.buffer.now word) t.buffer; end = t.end + k })
unfolding overwrite
written same h f room = adds refl (record { same = rw (same, h, f) refl; ends = omega arith; few = omega arith; fits = omega arith })

-- the same bytes, written otherwise
pub same_bytes : {n : ℕ} {a b : List ℕ} {old new : Text} → a ≡ b → Adds n a old new → Adds n b old new
same_bytes h p = adds p.same_buffer (buffer.same_bytes h p.added)

module _ {n : ℕ} {a : List ℕ} {old mid : Text} (p : Adds n a old mid) where
  -- the room that is left
  pub room : (m : ℕ) → HasRoom (n + m) old → HasRoom m mid
  room m h = buffer.added-room p.added m h

  -- a larger bound
  pub wider : (m : ℕ) → n ≤ m → Adds m a old mid
  wider m h = adds p.same_buffer (buffer.wider p.added m h)

  -- more bytes behind them
  pub then : {m : ℕ} {b : List ℕ} {new : Text} → Adds m b mid new → Adds (n + m) (a ++ b) old new
  then q = adds (q.same_buffer ∙ p.same_buffer) (buffer.then p.added q.added)

-- ---- a loop that adds a block of at most w bytes at every turn
pub none-added : (t : Text) → HasRoom 0 t → Adds 0 [] t t
none-added t h = adds refl (buffer.none-added t.end t.buffer.now (omega arith))

module _ (w : ℕ) (f : ℕ → List ℕ) where
  pub blocks-none : (t : Text) → HasRoom 0 t → Adds (0 * w) (blocks 0 f) t t
  unfolding blocks
  blocks-none t h = wider (none-added t h) (0 * w) (omega arith)

  module _ {i : ℕ} {old mid : Text} (p : Adds (i * w) (blocks i f) old mid) where
    pub block_room : (n : ℕ) → i < n → HasRoom (n * w) old → HasRoom w mid
    block_room n h room = buffer.block_room w f p.added n h room

    pub block_more : {new : Text} → Adds w (f i) mid new → Adds ((i + 1) * w) (blocks (i + 1) f) old new
    block_more q = adds (q.same_buffer ∙ p.same_buffer) (buffer.block_more w f p.added q.added)

-- blanks and a word behind them are the word right-aligned
pub aligned-added : {old mid new : Text} (width m : ℕ) (word : List ℕ) → m ≡ width - length word → Adds m (blanks m) old mid → Adds (length word) word mid new
    → Adds (length (right_aligned width word)) (right_aligned width word) old new
unfolding right_aligned
aligned-added width m word h p q =
    let all = rw h at (then p q) in
    let a = all.added in
    adds all.same_buffer (record { same = a.same; ends = a.ends; few = omega arith; fits = a.fits })

-- in no width a word stands as it is
pub unaligned : (word : List ℕ) → right_aligned 0 word ≡ word
unfolding right_aligned
unaligned word = ap (λ k. blanks k ++ word) (zero-sub (length word))

-- a text that began at the front of a buffer, when the buffer is given back
pub given_back : {n end : ℕ} {bytes before after : List ℕ} {old new : Text} → Adds n bytes old new → old.buffer.now ≡ before → old.end ≡ 0 → after ≡ new.buffer.now → end ≡ new.end → Added n 0 bytes before after end
given_back p b z a e = rw (← b, a, e) (rw z at p.added)
