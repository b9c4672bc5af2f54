-- What a type of stored numbers keeps, and that u32 and i16 do.
use Rattle.std.specs.Prelude.{◌≡◌, refl, ℕ, ◌+◌, ◌<◌, List, length, take, drop, get_or}
use Rattle.std.proofs.Common.{ap, ◌∙◌, arith, get_or-take, get_or-drop}
use native.Mathlib.Nat.{add-zero}
use Rattle.rules.specs.Bytes.{byte_at, bytes32, number32, bytes16, number16}

pub record StoredLaws {A : Type 0} (size : ℕ) (number : List ℕ → ℕ → A) (bytes : A → List ℕ) : Type 0 where
  -- the number at a place is that of the bytes which are cut out there
  pub cut : (l : List ℕ) (at : ℕ) → number (take size (drop at l)) 0 ≡ number l at
  pub width : (x : A) → length (bytes x) ≡ size

-- n bytes that are cut out at a place
module _ (n : ℕ) (l bs : List ℕ) (at : ℕ) (e : bs ≡ take n (drop at l)) where
  pub byte : (i : ℕ) → i < n → get_or bs i 0 ≡ byte_at l (at + i)
  byte i h = rw e (get_or-take n (drop at l) i 0 h ∙ get_or-drop at l i 0)

  pub first : 0 < n → get_or bs 0 0 ≡ byte_at l at
  first h = byte 0 h ∙ ap (byte_at l) (add-zero at)

module _ (l bs : List ℕ) (at : ℕ) where
  same32 : bs ≡ take 4 (drop at l) → number32 bs 0 ≡ number32 l at
  unfolding number32
  same32 e = rw (first 4 l bs at e (omega arith), byte 4 l bs at e 1 (omega arith), byte 4 l bs at e 2 (omega arith), byte 4 l bs at e 3 (omega arith)) refl

  same16 : bs ≡ take 2 (drop at l) → number16 bs 0 ≡ number16 l at
  unfolding number16
  same16 e = rw (first 2 l bs at e (omega arith), byte 2 l bs at e 1 (omega arith)) refl

pub laws32 : StoredLaws 4 number32 bytes32
unfolding bytes32
laws32 = record { cut = λ l at. same32 l (take 4 (drop at l)) at refl; width = λ x. refl }

pub laws16 : StoredLaws 2 number16 bytes16
unfolding bytes16
laws16 = record { cut = λ l at. same16 l (take 2 (drop at l)) at refl; width = λ z. refl }
