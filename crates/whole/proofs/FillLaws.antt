-- Loops that fill a list from the front, by entries or by blocks: what holds at every turn, as a record, and what it says in the end.
use mathlib.Core.Path.{◌≡◌, refl, sym, ap, ◌∙◌}
use mathlib.Core.List.{List, ◌++◌, append-nil}
use Prim.Native.Nat.{ℕ, ◌+◌, ◌-◌, ◌*◌, ◌≤◌, ◌<◌}
use native.Mathlib.Nat.{zero-mul, suc-mul}
use native.Mathlib.Numerals.{add-one}
use native.Mathlib.Omega.{arith}
use lib.ListN.{length, get_or, set, take, drop, length-set, drop_of_length-le}
use lib.Seq.{drop_at}
use Rattle.std.proofs.lemmas.List.{get_or-drop, get_or-append_right}
use Rattle.whole.specs.Table.{table, blocks, overwrite}
use Rattle.whole.proofs.TableLaws.{length-table, length-blocks, fill-next, fill-block, length-filled}
use Rattle.whole.proofs.OverwriteLaws.{front-is, part_room}

-- the first k of n entries are f's, the others those of l
pub record Filled {A : Type 0} (f : ℕ → A) (l : List A) (n k : ℕ) (p : List A) : Type 0 where
  pub room : n ≤ length l
  pub within : k ≤ n
  pub long : length p ≡ length l
  pub same : p ≡ table k f ++ drop k l

module _ {A : Type 0} {f : ℕ → A} {l : List A} {n : ℕ} where
  pub filled_none : n ≤ length l → Filled f l n 0 l
  unfolding table
  filled_none h = record { room = h; within = omega arith; long = refl; same = refl }

  pub filled_next : {k : ℕ} {p : List A} {x : A} → Filled f l n k p → k < n → x ≡ f k → Filled f l n (k + 1) (set p k x)
  filled_next {k} {p} {x} h q e = record { room = h.room; within = omega arith; long = rw length-set h.long; same = fill-next k f l p x h.same (omega arith) e }

  -- the entries that are left
  pub filled-rest : {k : ℕ} {p : List A} → Filled f l n k p → (i : ℕ) (d : A) → k ≤ i → get_or p i d ≡ get_or l i d
  filled-rest {k} h i d le = ap (λ x. get_or x i d) h.same ∙ get_or-append_right (table k f) (drop k l) k i d (length-table k f) le ∙ get_or-drop k l (i - k) d
      ∙ (let e : k + (i - k) ≡ i = omega arith in ap (λ j. get_or l j d) e)

  -- a list of n entries that is filled
  pub filled-whole : {k : ℕ} {p : List A} → Filled f l n k p → n ≤ k → length l ≡ n → p ≡ table n f
  filled-whole {k} h end e =
      let same : k ≡ n = omega (arith, h.within) in
      (rw same at h.same) ∙ ap (λ y. table n f ++ y) (drop_of_length-le l {i = n} (omega arith)) ∙ append-nil (table n f)

-- the first k of n blocks of width w are f's, the rest is that of l
pub record BlocksFilled {A : Type 0} (w : ℕ) (f : ℕ → List A) (l : List A) (n k : ℕ) (p : List A) : Type 0 where
  pub room : n * w ≤ length l
  pub within : k ≤ n
  pub long : length p ≡ length l
  pub same : p ≡ blocks k f ++ drop (k * w) l

module _ {A : Type 0} {w : ℕ} {f : ℕ → List A} {l : List A} {n : ℕ} where
  pub blocks-none : n * w ≤ length l → BlocksFilled w f l n 0 l
  unfolding blocks
  blocks-none h = record { room = h; within = omega arith; long = refl; same = rw zero-mul }

  -- a block written from its place on, as a part that is lent comes back
  pub blocks-next : {k at m : ℕ} {p x : List A} → ((e : ℕ) → length (f e) ≡ w) → BlocksFilled w f l n k p → k < n → at ≡ k * w → m ≡ w → x ≡ f k
      → BlocksFilled w f l n (k + 1) (take at p ++ (x ++ drop m (drop at p)))
  blocks-next {k} {at} {m} {p} {x} each h q e d b =
      let s : take at p ++ (x ++ drop m (drop at p)) ≡ blocks (k + 1) f ++ drop ((k + 1) * w) l = rw e (fill-block w f each k m x l p d b h.same) in
      let r : (k + 1) * w ≤ length l = rw (add-one k, suc-mul k w) (omega (arith, part_room w q, h.room)) in
      record { room = h.room; within = omega arith; long = ap length s ∙ length-filled w f each (k + 1) l r; same = s }

  -- the same, as a call writes it
  pub blocks-over : {k at : ℕ} {p x : List A} → ((e : ℕ) → length (f e) ≡ w) → BlocksFilled w f l n k p → k < n → at ≡ k * w → x ≡ f k → BlocksFilled w f l n (k + 1) (overwrite at x p)
  unfolding overwrite
  blocks-over {k} each h q e b = blocks-next each h q e (ap length b ∙ each k) b

  -- what is left
  pub blocks-rest : {k : ℕ} {p : List A} → ((e : ℕ) → length (f e) ≡ w) → BlocksFilled w f l n k p → drop (k * w) p ≡ drop (k * w) l
  blocks-rest {k} each h = ap (drop (k * w)) h.same ∙ drop_at (blocks k f) (drop (k * w) l) (k * w) (length-blocks w f each k)

  module _ {k : ℕ} {p : List A} (h : BlocksFilled w f l n k p) (end : n ≤ k) where
    all_blocks : p ≡ blocks n f ++ drop (n * w) l
    all_blocks = let e : k ≡ n = omega arith in rw e at h.same

    pub blocks-all : ((e : ℕ) → length (f e) ≡ w) → p ≡ overwrite 0 (blocks n f) l
    blocks-all each = all_blocks ∙ ap (λ m. blocks n f ++ drop m l) (sym (length-blocks w f each n)) ∙ sym (front-is (blocks n f) l)

    pub blocks-whole : length l ≡ n * w → p ≡ blocks n f
    blocks-whole e = all_blocks ∙ ap (λ y. blocks n f ++ y) (drop_of_length-le l {i = n * w} (omega arith)) ∙ append-nil (blocks n f)
