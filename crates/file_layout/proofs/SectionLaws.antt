-- Sections: numbers of equal width one after the other, as parts of a file.
use mathlib.Core.Path.{◌≡◌, sym, ap, subst, ◌∙◌}
use mathlib.Core.List.{List, ◌++◌}
use Prim.Native.Nat.{ℕ, zero, suc, ◌+◌, ◌*◌, ◌-◌, ◌≤◌, ◌<◌}
use native.Mathlib.Nat.{zero-add, mul_comm}
use native.Mathlib.Decide.{dec_lt}
use native.Mathlib.Omega.{arith}
use lib.Arith.{digits_lt}
use lib.ListN.{length, get_or, take, drop, length-append, length-drop, take-append-drop, get_or-append}
use lib.Seq.{length-take-le, get_or-take, get_or-drop, get_or-append-add, drop-drop, ext_get_or}
use Rattle.whole.specs.Table.{blocks}
use Rattle.whole.proofs.TableLaws.{length-blocks, get_d-blocks}
use Rattle.rules.specs.Bytes.{byte_at, bytes32, number32}
use Rattle.file_layout.proofs.NumberLaws.{Bytes, Has, Code, code32}

-- ---- parts one after the other
pub has-front : (p q : List ℕ) → Has 0 p (p ++ q)
has-front p q = record { at = λ k h. ap (byte_at (p ++ q)) (zero-add k) ∙ get_or-append p q 0 k h }

pub has-behind : (a b : ℕ) (p q r : List ℕ) → length p + a ≡ b → Has a r q → Has b r (p ++ q)
has-behind a b p q r e h = record { at = λ k l. ap (byte_at (p ++ q)) (omega arith) ∙ get_or-append-add p q (a + k) 0 ∙ h.at k l }

module _ (file : List ℕ) (a : ℕ) where
  pub has_both : (p q : List ℕ) → Has a p file → Has (a + length p) q file → Has a (p ++ q) file
  has_both p q hp hq = record { at = λ k l. go k l (dec_lt k (length p)) }
    where
      go : (k : ℕ) → k < length (p ++ q) → Dec (k < length p) → byte_at file (a + k) ≡ get_or (p ++ q) k 0
      go k l (yes y) = hp.at k y ∙ sym (get_or-append p q 0 k y)
      go k l (no n) =
          let j = k - length p in
          let e : k ≡ length p + j = omega (arith, n) in
          ap (byte_at file) (omega (arith, n)) ∙ hq.at j (omega (arith, n, length-append p q)) ∙ sym (ap (λ m. get_or (p ++ q) m 0) e ∙ get_or-append-add p q j 0)

  -- what the file has at a place is cut off there
  pub cut_off : (p : List ℕ) (b : ℕ) → a + length p ≡ b → b ≤ length file → Has a p file → drop a file ≡ p ++ drop b file
  cut_off p b e room h =
      let d = drop a file in
      let front : take (length p) d ≡ p = ext_get_or 0 (take (length p) d) p size (λ k l. let m : k < length p = omega (arith, size) in
      get_or-take (length p) d k 0 m ∙ get_or-drop a file k 0 ∙ h.at k m) in
      sym (take-append-drop (length p) d) ∙ (λ i. front i ++ (drop-drop (length p) a file ∙ ap (λ k. drop k file) e) i)
    where
      size : length (take (length p) (drop a file)) ≡ length p
      size = length-take-le (length p) (drop a file) (omega (arith, length-drop a file))

-- ---- a section of blocks of width w
module _ (w : ℕ) (f : ℕ → List ℕ) (each : (e : ℕ) → length (f e) ≡ w) (file : List ℕ) (a : ℕ) where
  pub block_of : (n : ℕ) → Has a (blocks n f) file → (e : ℕ) → e < n → Has (a + e * w) (f e) file
  block_of n h e he = record {
    at = λ k hk.
        let l : k < w = omega (arith, each e) in
        ap (byte_at file) (omega arith) ∙ h.at (e * w + k) (omega (arith, digits_lt he l, length-blocks w f each n)) ∙ get_d-blocks w f each n e k 0 he l;
  }

  pub section-of : (n : ℕ) → ((e : ℕ) → e < n → Has (a + e * w) (f e) file) → Has a (blocks n f) file
  unfolding blocks
  section-of zero h = record { at = λ k l. let c : ⊥ = omega arith in absurd c }
  section-of (suc n) h = has_both file a (blocks n f) (f n) (section-of n (λ e l. h e (omega arith)))
      (subst (λ m. Has m (f n) file) (ap (λ m. a + m) (sym (length-blocks w f each n))) (h n (omega arith)))

-- ---- the numbers of a section
pub length-section : {A : Type 0} (w : ℕ) (bytes : A → List ℕ) (number : List ℕ → ℕ → A) (Fits : A → Type 0) → Code w bytes number Fits → (n : ℕ) (x : ℕ → A) → length (blocks n (λ i. bytes (x i))) ≡ w * n
length-section w bytes number Fits code n x = length-blocks w (λ i. bytes (x i)) (λ i. code.size (x i)) n ∙ mul_comm n w

pub length-section32 : (n : ℕ) (x : ℕ → ℕ) → length (blocks n (λ i. bytes32 (x i))) ≡ 4 * n
length-section32 = length-section 4 bytes32 number32 (λ n. n < 4294967296) code32

module _ {A : Type 0} (w : ℕ) (bytes : A → List ℕ) (number : List ℕ → ℕ → A) (Fits : A → Type 0) (code : Code w bytes number Fits) (file : List ℕ) (a : ℕ) (x : ℕ → A) (n : ℕ) where
  place : (i : ℕ) → a + i * w ≡ a + w * i
  place i = ap (λ m. a + m) (mul_comm i w)

  -- a section of numbers that fit is read as these numbers
  pub numbers-read : ((i : ℕ) → i < n → Fits (x i)) → Has a (blocks n (λ i. bytes (x i))) file → (i : ℕ) → i < n → number file (a + w * i) ≡ x i
  numbers-read fits h i l = code.read file (a + w * i) (x i) (fits i l)
      (subst (λ m. Has m (bytes (x i)) file) (place i) (block_of w (λ i. bytes (x i)) (λ i. code.size (x i)) file a n h i l))

  -- the numbers that are read from a section of bytes make that section
  pub numbers-written : Bytes file → ((i : ℕ) → i < n → x i ≡ number file (a + w * i)) → Has a (blocks n (λ i. bytes (x i))) file
  numbers-written b h = section-of w (λ i. bytes (x i)) (λ i. code.size (x i)) file a n
      (λ i l. subst (λ m. Has m (bytes (x i)) file) (sym (place i)) (subst (λ y. Has (a + w * i) (bytes y) file) (sym (h i l)) (code.written file (a + w * i) b)))
