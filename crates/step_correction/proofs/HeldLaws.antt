-- q of a face by one division toward zero, and what an element's four sides add at its nodes, as the code reads them.
use mathlib.Core.Path.{◌≡◌, refl, sym, ap, subst, ◌∙◌}
use mathlib.Core.List.{List, [], ◌∷◌}
use Prim.Native.Nat.{ℕ, zero, suc, ◌+◌, ◌*◌, ◌/◌, ◌%◌, ◌<◌}
use native.Mathlib.Omega.{arith}
use lib.IntN.{ℤ, pos, neg_ℤ, nat_abs, ◌+ℤ◌, ◌-ℤ◌, +ℤ_idl, +ℤ_idr}
use lib.Signed.{quot_z}
use mir.Syntax.{w64}
use mir.Val.{to_z, of_z}
use Rattle.whole.specs.Bound.{Within, AllWithin}
use Rattle.whole.specs.Sum.{sum}
use Rattle.whole.specs.Table.{table, at}
use Rattle.whole.proofs.BoundLaws.{within-le, within-add, within-neg, within-pos, within-back}
use Rattle.whole.proofs.TableLaws.{get_d-table, table-all, table-cong}
use Rattle.rules.specs.declared.Shape.{Shape}
use Rattle.rules.specs.Field.{quadratic, elements, north_face, Admitted}
use Rattle.rules.specs.Grid.{west, south}
use Rattle.rules.specs.Correction.{with_sign}
use Rattle.rules.specs.HeldFlux.{node_rise, with_held_flux}
use Rattle.rules.specs.Sizes.{rise_size, tentative_size, closing_size}
use Rattle.rules.proofs.HeldLaws.{line_rise, held-by-sides}
use Rattle.step_upwind.specs.Upwind.{as_stage}
use Rattle.step_correction.proofs.Laws.{quotient}

-- the sum of ω along a face
pub six : sum quadratic.side quadratic.line_weight ≡ 6
unfolding sum quadratic
six = refl

pub rise-divides : (flux limited : ℤ) → quot_z (flux -ℤ limited) (pos 6) ≡ node_rise quadratic flux limited
unfolding node_rise
rise-divides flux limited = quotient (flux -ℤ limited) 6 ∙ ap (λ n. with_sign (flux -ℤ limited) (nat_abs (flux -ℤ limited) / n)) (sym six)

-- ---- what is added at the places of a line
module _ {first last : ℤ} (f : Within rise_size first) (l : Within rise_size last) where
  line_rises-within : AllWithin rise_size (neg_ℤ first ∷ pos 0 ∷ last ∷ [])
  line_rises-within = record { all = each }
    where
      each : (i : ℕ) → Within rise_size (at (neg_ℤ first ∷ pos 0 ∷ last ∷ []) i)
      each zero = within-neg f
      each (suc zero) = within-le (within-pos 0) (omega arith)
      each (suc (suc zero)) = l
      each (suc (suc (suc i))) = within-le (within-pos 0) (omega arith)

-- a line of two numbers that are read
abbrev B : ℤ → ℤ
B z = to_z w64 (of_z w64 z)

pub line-small : (rises : List ℤ) (i j : ℕ) {l : List ℤ} → AllWithin rise_size rises → l ≡ neg_ℤ (B (at rises i)) ∷ pos 0 ∷ B (at rises j) ∷ [] → AllWithin rise_size l
line-small rises i j h e = subst (AllWithin rise_size) (sym e) (line_rises-within (within-back w64 (at rises i) (h.all i)) (within-back w64 (at rises j) (h.all j)))

-- a line by the rules
pub line_rises-are : (first last : ℤ) (a : ℕ) → a < 3 → at (neg_ℤ first ∷ pos 0 ∷ last ∷ []) a ≡ line_rise quadratic first last a
unfolding quadratic
line_rises-are first last zero h = sym (+ℤ_idl (neg_ℤ first))
line_rises-are first last (suc zero) h = refl
line_rises-are first last (suc (suc zero)) h = sym (+ℤ_idr last)
line_rises-are first last (suc (suc (suc a))) h = let z : ⊥ = omega arith in absurd z

-- ---- an element's values
pub values-within : (psi : List ℤ) (e : ℕ) → AllWithin tentative_size psi → AllWithin tentative_size (table 9 (as_stage psi e))
values-within psi e h = record { all = table-all (Within tentative_size) 9 (as_stage psi e) (pos 0) (within-le (within-pos 0) (omega arith)) (λ k _. h.all (e * 9 + k)) }

-- the values v of an element's nodes with what is added at their places
abbrev pub node_values : List ℤ → List ℤ → List ℤ → ℕ → ℤ
node_values v along across k = at v k +ℤ (at along (k % 3) +ℤ at across (k / 3))

pub node_values-within : (v along across : List ℤ) → AllWithin tentative_size v → AllWithin rise_size along → AllWithin rise_size across → AllWithin closing_size (table 9 (node_values v along across))
node_values-within v along across hv ha hb = record {
  all = table-all (Within closing_size) 9 (node_values v along across) (pos 0) (within-le (within-pos 0) (omega arith))
      (λ k _. within-le (within-add (hv.all k) (within-add (ha.all (k % 3)) (hb.all (k / 3)))) (omega arith));
}

-- they are the rules', where v are an element's values and its four sides add
module _ (g : Shape) (h : Admitted g) (psi rises : List ℤ) (e : ℕ) (inside : e < elements g) {v along across : List ℤ} (ev : v ≡ table 9 (as_stage psi e)) (ea : along ≡ neg_ℤ (at rises (west g e)) ∷ pos 0 ∷ at rises e ∷ [])
    (eb : across ≡ neg_ℤ (at rises (north_face g (south g e))) ∷ pos 0 ∷ at rises (north_face g e) ∷ []) where
  pub node_values-are : table 9 (node_values v along across) ≡ table 9 (with_held_flux quadratic g (at rises) (as_stage psi) e)
  unfolding quadratic
  node_values-are = table-cong 9 _ _
      (λ k l. (λ i. at (ev i) k +ℤ (at (ea i) (k % 3) +ℤ at (eb i) (k / 3)))
      ∙ (λ i. get_d-table 9 (as_stage psi e) k (pos 0) l i +ℤ (line_rises-are (at rises (west g e)) (at rises e) (k % 3) (omega arith) i +ℤ line_rises-are (at rises (north_face g (south g e))) (at rises (north_face g e)) (k / 3) (omega arith) i))
      ∙ sym (held-by-sides quadratic g (at rises) (as_stage psi) h.nx-above h.ny-above e k inside))
