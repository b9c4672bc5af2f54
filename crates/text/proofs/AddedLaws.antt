-- Bytes added to a buffer, one after the other.
use mathlib.Core.Path.{◌≡◌, sym, ap, subst, ◌∙◌}
use mathlib.Core.List.{List, [], ◌++◌}
use Prim.Native.Nat.{ℕ, ◌+◌, ◌*◌, ◌-◌, ◌≤◌, ◌<◌}
use native.Mathlib.Nat.{le_trans, suc-mul}
use native.Mathlib.Numerals.{add-one}
use native.Mathlib.Omega.{arith}
use lib.ListN.{length, take, drop, length-append, length-drop, take-append-drop}
use lib.Seq.{take_at, length-take-le}
use Rattle.whole.specs.Table.{blocks, overwrite}
use Rattle.whole.proofs.TableLaws.{blocks_more}
use Rattle.whole.proofs.OverwriteLaws.{length-overwrite, part_room, front-is}
use Rattle.whole.proofs.ListParts.{overwrite-next, part-written}
use Rattle.text.specs.Added.{Added}

module _ {n at e : ℕ} {a old mid : List ℕ} (p : Added n at a old mid e) where
  -- the buffer keeps its length
  pub added-length : length mid ≡ length old
  added-length = ap length p.same ∙ length-overwrite at a old p.fits

  -- the room that is left after them
  pub added-room : (m : ℕ) → at + (n + m) ≤ length old → e + m ≤ length mid
  added-room m h = omega (arith, added-length, p.ends, p.few)

  -- a larger bound
  pub wider : (m : ℕ) → n ≤ m → Added m at a old mid e
  wider m h = record { same = p.same; ends = p.ends; few = le_trans p.few h; fits = p.fits }

  -- more bytes, added where they end
  pub then : {m f : ℕ} {b new : List ℕ} → Added m e b mid new f → Added (n + m) at (a ++ b) old new f
  then {m} {f} {b} {new} q = record {
    same = q.same ∙ ap (overwrite e b) p.same ∙ overwrite-next at e a b old (sym p.ends) (omega (arith, added-length, q.fits));
    ends = omega (arith, p.ends, q.ends, length-append a b);
    few = omega (arith, p.few, q.few, length-append a b);
    fits = omega (arith, added-length, p.ends, q.fits, length-append a b);
  }

-- the same bytes, written otherwise
pub same_bytes : {n at e : ℕ} {a b old new : List ℕ} → a ≡ b → Added n at a old new e → Added n at b old new e
same_bytes {n} {at} {e} {old = old} {new = new} h p = subst (λ (l : List ℕ). Added n at l old new e) h p

-- bytes added at the front of a part that was lent, from a place on to the buffer's end
pub behind : {n at k e : ℕ} {a out part : List ℕ} → k ≡ length out - at → at ≤ length out → Added n 0 a (take k (drop at out)) part e → Added n at a out (take at out ++ (part ++ drop k (drop at out))) (at + e)
behind {n} {at} {k} {e} {a} {out} {part} h room p =
    let size : length (take k (drop at out)) ≡ k = length-take-le k (drop at out) (omega (arith, length-drop at out)) in
    record { same = part-written at k a part out p.same (omega (arith, p.fits)) (omega arith); ends = omega (arith, p.ends); few = p.few; fits = omega (arith, p.fits) }

-- ---- a loop that adds a block of at most w bytes at every turn
overwrite-none : (at : ℕ) (xs : List ℕ) → overwrite at [] xs ≡ xs
unfolding overwrite
overwrite-none at xs = take-append-drop at xs

pub none-added : (at : ℕ) (old : List ℕ) → at ≤ length old → Added 0 at [] old old at
none-added at old h = record { same = sym (overwrite-none at old); ends = omega arith; few = omega arith; fits = omega arith }

module _ (w : ℕ) (f : ℕ → List ℕ) where
  pub blocks-none : (at : ℕ) (old : List ℕ) → at ≤ length old → Added (0 * w) at (blocks 0 f) old old at
  unfolding blocks
  blocks-none at old h = wider (none-added at old h) (0 * w) (omega arith)

  module _ {i at e : ℕ} {old mid : List ℕ} (p : Added (i * w) at (blocks i f) old mid e) where
    pub block_room : (n : ℕ) → i < n → at + n * w ≤ length old → e + w ≤ length mid
    block_room n h room = added-room p w (omega (arith, part_room w h))

    pub block_more : {e' : ℕ} {new : List ℕ} → Added w e (f i) mid new e' → Added ((i + 1) * w) at (blocks (i + 1) f) old new e'
    block_more {e'} {new} q = let k : i * w + w ≡ (i + 1) * w = sym (rw (add-one i) (suc-mul i w)) in
        subst (λ (m : ℕ). Added m at (blocks (i + 1) f) old new e') k (same_bytes (sym (blocks_more i f)) (then p q))

-- bytes that were added at the front are the buffer's front
module _ {n end : ℕ} {bytes old new : List ℕ} (a : Added n 0 bytes old new end) where
  pub front-added : take end new ≡ bytes
  front-added = ap (take end) (a.same ∙ front-is bytes old) ∙ take_at bytes (drop (length bytes) old) end (sym (omega (arith, a.ends)))

  pub end-le : end ≤ length old
  end-le = omega (arith, a.ends, a.fits)

  pub end-within : end ≤ length new
  end-within = omega (arith, end-le, added-length a)
