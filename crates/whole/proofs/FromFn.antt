-- What `array::from_fn` makes of a closure whose calls leave it as it was: the table of what it gives at each place.
use mathlib.Core.Path.{◌≡◌, refl, sym, ap, subst, ◌∙◌}
use mathlib.Core.List.{List, [], ◌∷◌, ◌++◌}
use Prim.Native.Nat.{ℕ, zero, suc, ◌+◌, ◌<◌}
use native.Mathlib.Nat.{add-zero}
use native.Mathlib.Omega.{arith}
use lib.ListN.{length, take}
use lib.Seq.{take-length}
use denote.Param.Members.{Mut}
use Rattle.std.specs.Fn.{Called}
use Rattle.std.specs.Array.{IsFromFnResult, IsFromFnResultFrom}
use Rattle.std.proofs.lemmas.List.{take_more}
use Rattle.whole.specs.Table.{table}
use Rattle.whole.proofs.TableLaws.{table_more}

module _ {F B : Type 0} (g : Mut F (ℕ × Unit {0}) B) (h : ℕ → B) where
  -- the first i entries are the table's, and the others come from calls at the next m places
  entries : (n : ℕ) (f : F) (ys : List B) → ((k : ℕ) (y : B) (q : F) → k < n → Called g f (k, tt) y q → (q ≡ f) × (y ≡ h k)) → length ys ≡ n
      → (m i : ℕ) → i + m ≡ n → take i ys ≡ table i h → IsFromFnResultFrom g f ys i m → take n ys ≡ table n h
  entries n f ys each long zero i e t r = rw (sym e ∙ add-zero i) t
  entries n f ys each long (suc m) i e t r =
      let c = each i r.1 r.0 (omega arith) r.3 in
      let more : take (i + 1) ys ≡ table (i + 1) h = take_more ys i r.1 (omega arith) ∙ (λ j. t j ++ ((r.2.0 ∙ c.1) j ∷ [])) ∙ sym (table_more i h) in
      entries n f ys each long m (i + 1) (omega arith) more (subst (λ p. IsFromFnResultFrom g p ys (i + 1) m) c.0 r.4)

  pub table-from_fn : {n : ℕ} {f : F} {ys : List B} → ((k : ℕ) (y : B) (q : F) → k < n → Called g f (k, tt) y q → (q ≡ f) × (y ≡ h k)) → IsFromFnResult g f ys n → ys ≡ table n h
  unfolding table
  table-from_fn {n} {f} {ys} each r = sym (ap (λ k. take k ys) (sym r.long) ∙ take-length ys) ∙ entries n f ys each r.long n 0 (omega arith) refl r.each
