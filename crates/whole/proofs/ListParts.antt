-- Parts of a list that are read or written one after the other.
use mathlib.Core.Path.{◌≡◌, refl, sym, ap, ◌∙◌}
use mathlib.Core.List.{List, [], ◌∷◌, ◌++◌, append_assoc, append-nil}
use Prim.Native.Nat.{ℕ, zero, suc, ◌+◌, ◌-◌, ◌*◌, ◌≤◌, ◌<◌}
use native.Mathlib.Nat.{add-zero, add-suc, zero-mul, suc-mul}
use native.Mathlib.Omega.{arith}
use lib.ListN.{length, get_or, take, drop, length-append, length-drop, drop_of_length-le}
use lib.Seq.{length-take-le, take-add, take_at, drop_at, drop-drop}
use Rattle.std.specs.Simd.{first_chunks}
use Rattle.whole.specs.Table.{blocks, overwrite}
use Rattle.whole.proofs.TableLaws.{length-blocks}
use Rattle.whole.proofs.OverwriteLaws.{length-overwrite, overwrite-part, front-is}

module _ {A : Type 0} where
  pub blocks-split : (m n : ℕ) (f : ℕ → List A) → blocks (m + n) f ≡ blocks m f ++ blocks n (λ i. f (m + i))
  unfolding blocks
  blocks-split m zero f = ap (λ k. blocks k f) (add-zero m) ∙ sym (append-nil (blocks m f))
  blocks-split m (suc n) f = ap (λ k. blocks k f) (add-suc m n) ∙ ap (λ x. x ++ f (m + n)) (blocks-split m n f) ∙ append_assoc (blocks m f) (blocks n (λ i. f (m + i))) (f (m + n))

  -- blocks of blocks of equal width are one run of blocks
  pub blocks-of-blocks : (n w : ℕ) (f : ℕ → List A) → blocks n (λ s. blocks w (λ i. f (s * w + i))) ≡ blocks (n * w) f
  unfolding blocks
  blocks-of-blocks zero w f = sym (ap (λ k. blocks k f) (zero-mul w))
  blocks-of-blocks (suc n) w f = ap (λ x. x ++ blocks w (λ i. f (n * w + i))) (blocks-of-blocks n w f) ∙ sym (ap (λ k. blocks k f) (suc-mul n w) ∙ blocks-split (n * w) w f)

  -- the parts of width w of a list, one after the other
  pub parts-joined : (n w : ℕ) (l : List A) → blocks n (λ s. take w (drop (s * w) l)) ≡ take (n * w) l
  unfolding blocks
  parts-joined zero w l = sym (ap (λ k. take k l) (zero-mul w))
  parts-joined (suc n) w l = ap (λ x. x ++ take w (drop (n * w) l)) (parts-joined n w l) ∙ sym (ap (λ k. take k l) (suc-mul n w) ∙ take-add (n * w) w l)

  -- part s of blocks of width w
  pub part-of-blocks : (w : ℕ) (f : ℕ → List A) → ((e : ℕ) → length (f e) ≡ w) → (n s : ℕ) → s < n → take w (drop (s * w) (blocks n f)) ≡ f s
  unfolding blocks
  part-of-blocks w f each n s h =
      let r = n - (s + 1) in
      let e : n ≡ s + (1 + r) = omega arith in
      ap (λ k. take w (drop (s * w) (blocks k f))) e ∙ ap (λ l. take w (drop (s * w) l)) (blocks-split s (1 + r) f) ∙ ap (take w) (drop_at (blocks s f) _ (s * w) (length-blocks w f each s)
      ∙ blocks-split 1 r (λ i. f (s + i))) ∙ take_at (f (s + 0)) _ w (each (s + 0)) ∙ ap f (add-zero s)

  -- q written behind p, which was written from place a on
  pub overwrite-next : (a b : ℕ) (p q l : List A) → a + length p ≡ b → b ≤ length l → overwrite b q (overwrite a p l) ≡ overwrite a (p ++ q) l
  unfolding overwrite
  overwrite-next a b p q l e room =
      let d = drop (length p) (drop a l) in
      let front : length (take a l ++ p) ≡ b = length-append (take a l) p ∙ omega (arith, length-take-le a l (omega arith)) in
      let whole : take a l ++ (p ++ d) ≡ (take a l ++ p) ++ d = sym (append_assoc (take a l) p d) in
      let rest : drop (length (p ++ q)) (drop a l) ≡ drop (length q) d = ap (λ n. drop n (drop a l)) (length-append p q) ∙ sym (drop-drop (length q) (length p) (drop a l)) in
      (λ i. take b (whole i) ++ (q ++ drop (length q) (drop b (whole i)))) ∙ (λ i. take_at (take a l ++ p) d b front i ++ (q ++ drop (length q) (drop_at (take a l ++ p) d b front i)))
      ∙ append_assoc (take a l) p (q ++ drop (length q) d) ∙ sym (ap (λ y. take a l ++ ((p ++ q) ++ y)) rest ∙ ap (λ y. take a l ++ y) (append_assoc p q (drop (length q) d)))

  -- a part of k numbers from place a on, lent and come back as y, which has p in front
  pub part-written : (a k : ℕ) (p y l : List A) → y ≡ overwrite 0 p (take k (drop a l)) → length p ≤ k → a + k ≤ length l → take a l ++ (y ++ drop k (drop a l)) ≡ overwrite a p l
  unfolding overwrite
  part-written a k p y l e fits room =
      let x = take k (drop a l) in
      let long : length x ≡ k = length-take-le k (drop a l) (omega (arith, length-drop a l)) in
      let all : length y ≡ k = ap length e ∙ length-overwrite 0 p x (omega arith) ∙ long in
      (λ i. take a l ++ (e i ++ drop (sym (sym (ap length e) ∙ all) i) (drop a l))) ∙ overwrite-part a k 0 p l room (omega arith) ∙ ap (λ n. overwrite n p l) (add-zero a)

-- a list that is written over all of another
pub overwritten : {A : Type 0} (ys xs : List A) → length xs ≡ length ys → overwrite 0 ys xs ≡ ys
overwritten ys xs e = front-is ys xs ∙ ap (λ r. ys ++ r) (drop_of_length-le xs {i = length ys} (omega arith)) ∙ append-nil ys

-- an entry that is there needs no default
pub either-default : {A : Type 0} (l : List A) (i : ℕ) (d d' : A) → i < length l → get_or l i d ≡ get_or l i d'
either-default [] i d d' h = let f : ⊥ = omega arith in absurd f
either-default (x ∷ l) zero d d' h = refl
either-default (x ∷ l) (suc i) d d' h = either-default l i d d' (omega arith)

-- chunk i of the first k of width w, as the library's `as_chunks` lends them
pub chunk-at : {A : Type 0} (w k i : ℕ) (l : List A) → i < k → get_or (first_chunks w k l) i [] ≡ take w (drop (i * w) l)
chunk-at w zero i l h = let f : ⊥ = omega arith in absurd f
chunk-at w (suc k) zero l h = ap (λ m. take w (drop m l)) (sym (zero-mul w))
chunk-at w (suc k) (suc i) l h = chunk-at w k i (drop w l) (omega arith) ∙ ap (take w) (drop-drop (i * w) w l ∙ ap (λ m. drop m l) (omega (arith, suc-mul i w)))
