-- A stage's numbers as a list: what stands where, when two lists are the same, and how large their numbers are.
use mathlib.Core.Path.{◌≡◌, sym, ap, ap₂, ◌∙◌}
use mathlib.Core.List.{List, []}
use Prim.Native.Nat.{ℕ, ◌+◌, ◌*◌, ◌/◌, ◌%◌, ◌≤◌, ◌<◌}
use native.Mathlib.Omega.{arith}
use lib.Arith.{digits_div, digits_mod}
use lib.IntN.{ℤ, pos}
use lib.ListN.{length, get_or, drop, length-drop}
use lib.Seq.{get_or-drop}
use Rattle.std.specs.Simd.{first_chunks}
use Rattle.whole.specs.Bound.{Within, AllWithin}
use Rattle.whole.specs.Table.{table}
use Rattle.whole.proofs.BoundLaws.{within-le, within-pos}
use Rattle.whole.proofs.ListParts.{chunk-at}
use Rattle.whole.proofs.TableLaws.{get_d-table, table-cong, table-all, table-take}
use Rattle.step_upwind.specs.Upwind.{as_stage, listed}

-- chunk e of a list, nine numbers each, is the numbers of element e
pub chunk-of : (l : List ℤ) (e : ℕ) {cs : List (List ℤ)} → cs ≡ first_chunks 9 (length l / 9) l → e * 9 + 9 ≤ length l → get_or cs e [] ≡ table 9 (as_stage l e)
chunk-of l e same room = ap (λ x. get_or x e []) same ∙ chunk-at 9 (length l / 9) e l (omega arith) ∙ sym (table-take 9 (drop (e * 9) l) (pos 0) (omega (arith, length-drop (e * 9) l)))
    ∙ table-cong 9 _ _ (λ k h. get_or-drop (e * 9) l k (pos 0))

-- an element's numbers are as small as all are
pub element-within : {n : ℕ} (l : List ℤ) (e : ℕ) → AllWithin n l → AllWithin n (table 9 (as_stage l e))
element-within {n} l e h = record { all = table-all (Within n) 9 (as_stage l e) (pos 0) (within-le (within-pos 0) (omega arith)) (λ k _. h.all (e * 9 + k)) }

module _ (n : ℕ) where
  pub listed-at : (φ : ℕ → ℕ → ℤ) (e k : ℕ) → e < n → k < 9 → as_stage (listed (n * 9) φ) e k ≡ φ e k
  listed-at φ e k le lk = get_d-table (n * 9) (λ i. φ (i / 9) (i % 9)) (e * 9 + k) (pos 0) (omega arith) ∙ ap₂ φ (digits_div e lk) (digits_mod e lk)

  pub listed-cong : (φ φ' : ℕ → ℕ → ℤ) → ((e k : ℕ) → e < n → k < 9 → φ e k ≡ φ' e k) → listed (n * 9) φ ≡ listed (n * 9) φ'
  listed-cong φ φ' h = table-cong (n * 9) _ _ (λ i l. h (i / 9) (i % 9) (omega arith) (omega arith))

  pub listed-within : {m : ℕ} (φ : ℕ → ℕ → ℤ) → ((e k : ℕ) → e < n → k < 9 → Within m (φ e k)) → AllWithin m (listed (n * 9) φ)
  listed-within {m} φ h = record { all = table-all (Within m) (n * 9) (λ i. φ (i / 9) (i % 9)) (pos 0) (within-le (within-pos 0) (omega arith)) (λ i l. h (i / 9) (i % 9) (omega arith) (omega arith)) }
