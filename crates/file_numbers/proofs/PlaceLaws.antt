-- A number that is read or written at the front of what is left from a place on.
use Rattle.std.proofs.Common.{◌≡◌, sym, ap, ◌∙◌, ℕ, ◌+◌, ◌-◌, ◌≤◌, List, ◌++◌, length, take, drop, arith}
use Rattle.std.proofs.lemmas.List.{take_rest, drop-take, take-take, drop-drop}
use mathlib.Core.List.{append-nil}
use borrow.Rule.Slice.PartMut.{put_mid}
use lib.ListN.{drop_of_length-le, length-drop}
use Rattle.whole.specs.Table.{overwrite}
use Rattle.file_numbers.specs.Laws.{StoredLaws}

module _ {A : Type 0} {size : ℕ} {number : List ℕ → ℕ → A} {bytes : A → List ℕ} (laws : StoredLaws size number bytes) (l : List ℕ) where
  pub read-at : (at : ℕ) (x : A) → x ≡ number (take (length l - at) (drop at l)) 0 → x ≡ number l at
  read-at at x h = h ∙ ap (λ r. number r 0) (take_rest l at) ∙ sym (laws.cut (drop at l) 0) ∙ laws.cut l at

  -- the same in a part of k bytes from place s on
  pub number-part : (s k i : ℕ) → i + size ≤ k → number (take k (drop s l)) i ≡ number l (s + i)
  number-part s k i h =
      let p = drop s l in
      let e : k ≡ i + (k - i) = omega arith in
      sym (laws.cut (take k p) i)
      ∙ ap (λ r. number r 0) (ap (λ m. take size (drop i (take m p))) e ∙ ap (take size) (drop-take i (k - i) p) ∙ take-take size (k - i) (drop i p) (omega arith) ∙ ap (take size) (drop-drop i s l))
      ∙ laws.cut l (s + i)

-- what is written there is written over the list
pub write-at : (a : ℕ) (b p y : List ℕ) → y ≡ overwrite 0 b (take (length p - a) (drop a p)) → put_mid a (length p - a) p y ≡ overwrite a b p
unfolding overwrite
write-at a b p y e =
    rw (e, take_rest p a, drop_of_length-le (drop a p) {i = length p - a} (omega (arith, length-drop a p)))
    (ap (λ r. take a p ++ r) (append-nil (b ++ drop (length b) (drop a p))))
