-- One number as bytes, and back.
use mathlib.Core.Path.{◌≡◌, refl, sym, ap, ◌∙◌}
use mathlib.Core.List.{List, [], ◌∷◌}
use Prim.Native.Nat.{ℕ, zero, suc, ◌+◌, ◌*◌, ◌-◌, ◌/◌, ◌%◌, ◌<◌}
use native.Mathlib.Nat.{add-zero}
use native.Mathlib.Omega.{arith}
use lib.Dec.{ltb, lit<, lt→ltb}
use lib.Arith.{le→nltb}
use lib.IntN.{ℤ, pos, negsuc, nat_abs}
use lib.ListN.{length, get_or}
use Rattle.whole.proofs.Cases.{cond_ind, cond_yes, cond_no}
use Rattle.file_numbers.specs.Laws.{laws32, laws16}
use Rattle.rules.specs.Bytes.{byte_at, bytes32, number32, bits16, bytes16, number16}

-- every number of the file is a byte
pub record Bytes (file : List ℕ) : Type 0 where
  pub below : (i : ℕ) → byte_at file i < 256

-- the file has the bytes p from place a on
pub record Has (a : ℕ) (p file : List ℕ) : Type 0 where
  pub at : (k : ℕ) → k < length p → byte_at file (a + k) ≡ get_or p k 0

module _ (file : List ℕ) (i : ℕ) where
  first : (p : List ℕ) → Has i p file → 0 < length p → byte_at file i ≡ get_or p 0 0
  first p h l = ap (byte_at file) (sym (add-zero i)) ∙ h.at 0 l

  has-two : (a b : ℕ) → byte_at file i ≡ a → byte_at file (i + 1) ≡ b → Has i (a ∷ b ∷ []) file
  has-two a b ea eb = record { at = go }
    where
      go : (k : ℕ) → k < 2 → byte_at file (i + k) ≡ get_or (a ∷ b ∷ []) k 0
      go zero h = ap (byte_at file) (add-zero i) ∙ ea
      go (suc zero) h = eb
      go (suc (suc k)) h = let c : ⊥ = omega arith in absurd c

  pub has-four : (a b c d : ℕ) → byte_at file i ≡ a → byte_at file (i + 1) ≡ b → byte_at file (i + 2) ≡ c → byte_at file (i + 3) ≡ d → Has i (a ∷ b ∷ c ∷ d ∷ []) file
  has-four a b c d ea eb ec ed = record { at = go }
    where
      go : (k : ℕ) → k < 4 → byte_at file (i + k) ≡ get_or (a ∷ b ∷ c ∷ d ∷ []) k 0
      go zero h = ap (byte_at file) (add-zero i) ∙ ea
      go (suc zero) h = eb
      go (suc (suc zero)) h = ec
      go (suc (suc (suc zero))) h = ed
      go (suc (suc (suc (suc k)))) h = let c : ⊥ = omega arith in absurd c

  -- ---- 32 bits
  number-of-bytes32 : (n : ℕ) → n < 4294967296 → Has i (bytes32 n) file → number32 file i ≡ n
  unfolding bytes32 number32
  number-of-bytes32 n small h =
      let top : n / 16777216 % 256 ≡ n / 16777216 = omega arith in
      let back : n % 256 + 256 * (n / 256 % 256) + 65536 * (n / 65536 % 256) + 16777216 * (n / 16777216) ≡ n = omega arith in
      let e0 : byte_at file i ≡ n % 256 = first (bytes32 n) h (lit< tt) in
      let e1 : byte_at file (i + 1) ≡ n / 256 % 256 = h.at 1 (lit< tt) in
      let e2 : byte_at file (i + 2) ≡ n / 65536 % 256 = h.at 2 (lit< tt) in
      let e3 : byte_at file (i + 3) ≡ n / 16777216 % 256 = h.at 3 (lit< tt) in
      rw (e0, e1, e2, e3, top) back

  bytes-of-number32 : Bytes file → Has i (bytes32 (number32 file i)) file
  unfolding bytes32 number32
  bytes-of-number32 h =
      let a = byte_at file i in
      let b = byte_at file (i + 1) in
      let c = byte_at file (i + 2) in
      let d = byte_at file (i + 3) in
      let ha = h.below i in
      let hb = h.below (i + 1) in
      let hc = h.below (i + 2) in
      let hd = h.below (i + 3) in
      let q1 : number32 file i / 256 ≡ b + 256 * c + 65536 * d = omega arith in
      let q2 : number32 file i / 65536 ≡ c + 256 * d = omega arith in
      let q3 : number32 file i / 16777216 ≡ d = omega arith in
      has-four _ _ _ _ (omega arith) (omega arith) (omega arith) (omega arith)

  -- ---- 16 bits in two's complement
  abbrev both : ℕ
  both = byte_at file i + 256 * byte_at file (i + 1)

  both_of : (m : ℕ) → m < 65536 → Has i (m % 256 ∷ m / 256 % 256 ∷ []) file → both ≡ m
  both_of m small h =
      let top : m / 256 % 256 ≡ m / 256 = omega arith in
      let e0 : byte_at file i ≡ m % 256 = first (m % 256 ∷ m / 256 % 256 ∷ []) h (lit< tt) in
      let e1 : byte_at file (i + 1) ≡ m / 256 % 256 = h.at 1 (lit< tt) in
      rw (e0, e1, top) (omega arith)

  number-of-bytes16 : (z : ℤ) → nat_abs z < 32768 → Has i (bytes16 z) file → number16 file i ≡ z
  unfolding bytes16 bits16 number16
  number-of-bytes16 (pos n) small h =
      let e : both ≡ n = both_of n (omega arith) h in
      cond_yes (ltb both 32768) (pos both) (negsuc (65535 - both)) (lt→ltb both 32768 (omega arith)) ∙ ap pos e
  number-of-bytes16 (negsuc n) small h =
      let e : both ≡ 65535 - n = both_of (65535 - n) (omega arith) h in
      cond_no (ltb both 32768) (pos both) (negsuc (65535 - both)) (le→nltb both 32768 (omega arith)) ∙ ap negsuc (omega arith)

  bytes-of-number16 : Bytes file → Has i (bytes16 (number16 file i)) file
  unfolding bytes16 bits16 number16
  bytes-of-number16 h =
      let ha = h.below i in
      let hb = h.below (i + 1) in
      let e : bits16 (number16 file i) ≡ both = cond_ind (ltb both 32768) (pos both) (negsuc (65535 - both)) (λ z. bits16 z ≡ both) (λ t. refl) (λ t. omega arith) in
      rw e (has-two (both % 256) (both / 256 % 256) (omega arith) (omega arith))

-- ---- a way to write a number as bytes of a fixed width and to read it back, of numbers that fit
pub record Code {A : Type 0} (width : ℕ) (bytes : A → List ℕ) (number : List ℕ → ℕ → A) (Fits : A → Type 0) : Type 0 where
  pub size : (x : A) → length (bytes x) ≡ width
  pub read : (file : List ℕ) (i : ℕ) (x : A) → Fits x → Has i (bytes x) file → number file i ≡ x
  pub written : (file : List ℕ) (i : ℕ) → Bytes file → Has i (bytes (number file i)) file

pub code32 : Code 4 bytes32 number32 (λ n. n < 4294967296)
code32 = record { size = laws32.width; read = number-of-bytes32; written = bytes-of-number32 }

pub code16 : Code 2 bytes16 number16 (λ z. nat_abs z < 32768)
code16 = record { size = laws16.width; read = number-of-bytes16; written = bytes-of-number16 }
