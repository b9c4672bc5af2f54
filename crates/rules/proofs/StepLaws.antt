-- A step of one tracer, whatever its fluxes are and whatever its elements are closed with: the report is the limited fluxes, every element is
-- closed to its target, the ledger's line agrees, and the total stays.
use mathlib.Core.Path.{◌≡◌, sym, ap, ◌∙◌, subst}
use mathlib.Core.List.{List}
use Prim.Native.Nat.{ℕ, ◌≤◌, ◌<◌}
use native.Mathlib.Nat.{le_refl}
use native.Mathlib.Omega.{arith}
use lib.Dec.{eqb}
use lib.IntN.{ℤ, pos, nat_abs, ◌+ℤ◌, ◌-ℤ◌}
use lib.ListN.{length, get_or}
use Rattle.whole.specs.Parts.{negative}
use Rattle.whole.specs.Sum.{sum_ℤ}
use Rattle.whole.specs.Table.{table, at}
use Rattle.whole.proofs.WholeLaws.{pos-positive, pos-injective}
use Rattle.whole.proofs.SumLaws.{sum_ℤ-cong}
use Rattle.whole.proofs.TableLaws.{length-table, get_d-table}
use Rattle.whole.proofs.Cases.{cond_ind}
use Rattle.rules.specs.declared.Shape.{Shape}
use Rattle.rules.specs.Field.{Kind, elements, faces, element_length, part_length, stored_total, remainder, mass, total, limit, weight_sum}
use Rattle.rules.specs.Limiter.{closed, closed_unlevelled, adjusted}
use Rattle.rules.specs.Grid.{behind, ahead}
use Rattle.rules.specs.Correction.{donor, outflow, limited_flux, cut, target}
use Rattle.rules.specs.Step.{report, target_mass, closed_element, finish}
use Rattle.rules.specs.Ledger.{only, carried}
use Rattle.rules.proofs.LimiterLaws.{closed-length, closed-remainder, closed-holds, levelled-remainder}
use Rattle.rules.proofs.GridLaws.{moved, target_is, behind-lt, ahead-lt}
use Rattle.rules.proofs.CorrectionLaws.{limited, limited-le, target-negative}
use Rattle.rules.proofs.PartLaws.{Good, held, mass-le-total, total-by, total-pos}
use Rattle.rules.proofs.StoredLaws.{mass-made, length-made, remainder-made, stored-made}
use Rattle.rules.proofs.LedgerLaws.{carried-sum, carried_keeps}

-- a closed element holds its target
pub held-unlevelled : (κ : Kind) (ψ : ℕ → ℤ) (t : ℕ) → held κ (closed_unlevelled κ ψ t).numbers ≡ t
unfolding held
held-unlevelled κ ψ t = closed-holds κ ψ t

pub held-closed : (κ : Kind) (ψ : ℕ → ℤ) (t : ℕ) → held κ (closed κ ψ t).numbers ≡ t
unfolding closed
held-closed κ ψ t = held-unlevelled κ (adjusted κ ψ t) t

pub length-closed : (κ : Kind) (ψ : ℕ → ℤ) (t : ℕ) → length (closed κ ψ t).numbers ≡ element_length κ
unfolding closed
length-closed κ ψ t = closed-length κ (adjusted κ ψ t) t

pub remainder-closed : (κ : Kind) (ψ : ℕ → ℤ) (t : ℕ) → 0 < weight_sum κ → get_or (closed κ ψ t).numbers κ.nodes 0 < weight_sum κ
unfolding closed
remainder-closed κ ψ t hw = subst (λ x. x < weight_sum κ) (sym (closed-remainder κ (adjusted κ ψ t) t)) (levelled-remainder κ ψ t hw)

donor-lt : (g : Shape) (hx : 0 < g.nx) (hy : 0 < g.ny) (x : ℕ → ℤ) (f : ℕ) → f < faces g → donor g x f < elements g
unfolding donor
donor-lt g hx hy x f h = cond_ind (lib.Signed.non_neg (x f)) (behind g f) (ahead g f) (λ e. e < elements g) (λ _. behind-lt g hx hy f h) (λ _. ahead-lt g hx hy f h)

module _ (κ : Kind) (g : Shape) (p : List ℕ) (G : List ℤ) where
  -- the report, of any fluxes G
  abbrev r : List ℤ
  r = report κ g p G

  pub report-length : length r ≡ faces g
  unfolding report
  report-length = length-table (faces g) _

  module _ (hx : 0 < g.nx) (hy : 0 < g.ny) where
    -- the report holds every limited flux
    pub report-is : (f : ℕ) → f < faces g → at r f ≡ limited g (mass κ p) (at G) f
    unfolding report limited_flux
    report-is f h = get_d-table (faces g) (limited_flux (donor g (at G)) (mass κ p) (at G) outs) f (pos 0) h
        ∙ ap (λ o. cut (at G f) o (mass κ p (donor g (at G) f))) (get_d-table (elements g) (outflow g (donor g (at G)) (at G)) (donor g (at G) f) 0 (donor-lt g hx hy (at G) f h))
      where
        outs : ℕ → ℕ
        outs e = get_or (table (elements g) (outflow g (donor g (at G)) (at G))) e 0

    -- a reported number is at most what its donor holds, so at most the limit
    pub report-le : total κ g p ≤ limit → (f : ℕ) → f < faces g → nat_abs (at r f) ≤ limit
    report-le b f h = omega (arith, ap nat_abs (report-is f h), limited-le g (mass κ p) (at G) f h, mass-le-total κ g p (donor g (at G) f) (donor-lt g hx hy (at G) f h))

    moved_same : (e : ℕ) → sum_ℤ (faces g) (moved g (at r) e) ≡ sum_ℤ (faces g) (moved g (limited g (mass κ p) (at G)) e)
    unfolding moved
    moved_same e = sum_ℤ-cong (faces g) (moved g (at r) e) (moved g (limited g (mass κ p) (at G)) e)
        (λ f l. ap (λ x. only (eqb (ahead g f) e) x -ℤ only (eqb (behind g f) e) x) (report-is f l))

    -- the target of the report is not below 0
    pub goal-above : (e : ℕ) → e < elements g → negative (target g (mass κ p) (at r) e) ≡ 0
    goal-above e h = ap negative (sym (target_is g hx hy (mass κ p) (at r) e h) ∙ ap (λ x. pos (mass κ p e) +ℤ x) (moved_same e) ∙ target_is g hx hy (mass κ p) (limited g (mass κ p) (at G)) e h)
        ∙ target-negative g (mass κ p) (at G) hx hy e h

  abbrev goal : ℕ → ℕ
  goal = target_mass κ g p r

  -- ---- what is closed with any values ψ
  module _ (ψ : ℕ → ℕ → ℤ) where
    abbrev after : List ℕ
    after = (finish κ g p r ψ).part

    abbrev numbers : ℕ → List ℕ
    numbers e = (closed κ (ψ e) (goal e)).numbers

    each : (e : ℕ) → length (numbers e) ≡ element_length κ
    each e = length-closed κ (ψ e) (goal e)

    pub mass-after : (e : ℕ) → e < elements g → mass κ after e ≡ goal e
    unfolding finish closed_element
    mass-after e h = mass-made κ g numbers (stored_total κ g p) each e h ∙ held-closed κ (ψ e) (goal e)

    pub length-after : length after ≡ part_length κ g
    unfolding finish closed_element
    length-after = length-made κ g numbers (stored_total κ g p) each

    remainder-after : 0 < weight_sum κ → (e : ℕ) → e < elements g → remainder κ after e < weight_sum κ
    unfolding finish closed_element
    remainder-after hw e h = subst (λ x. x < weight_sum κ) (sym (remainder-made κ g numbers (stored_total κ g p) each e h)) (remainder-closed κ (ψ e) (goal e) hw)

    -- document 02, 2026-06: "a step leaves it"
    pub stored-after : stored_total κ g after ≡ stored_total κ g p
    unfolding finish closed_element
    stored-after = stored-made κ g numbers (stored_total κ g p) each

    module _ (hx : 0 < g.nx) (hy : 0 < g.ny) where
      -- the ledger, going through the report, agrees
      pub entries-after : (e : ℕ) → e < elements g → carried g (at r) (faces g) (λ e. pos (mass κ p e)) e ≡ pos (mass κ after e)
      entries-after e h = carried-sum g (at r) (λ e. pos (mass κ p e)) (faces g) e ∙ target_is g hx hy (mass κ p) (at r) e h
          ∙ sym (pos-positive (target g (mass κ p) (at r) e) (goal-above hx hy e h)) ∙ ap pos (sym (mass-after e h))

      -- and a step keeps the total
      pub total-after : total κ g after ≡ total κ g p
      total-after = pos-injective (total-by κ g after (carried g (at r) (faces g) (λ e. pos (mass κ p e))) entries-after
          ∙ carried_keeps g hx hy (at r) (λ e. pos (mass κ p e)) (faces g) (le_refl (faces g)) ∙ total-pos κ g p)

      pub good-after : 0 < weight_sum κ → total κ g p ≤ limit → stored_total κ g p ≡ total κ g p → Good κ g after
      good-after hw b t = record { size = length-after; small = remainder-after hw; bounded = subst (λ x. x ≤ limit) (sym total-after) b; stored = stored-after ∙ t ∙ sym total-after }
