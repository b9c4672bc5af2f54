-- Demand 3, one statement over every list of calls.
use mathlib.Core.Path.{refl, sym, subst}
use mathlib.Core.List.{List}
use Prim.Native.Nat.{ℕ, ◌≤◌, ◌<◌}
use native.Mathlib.Omega.{arith}
use lib.IntN.{ℤ}
use lib.ListN.{length}
use Rattle.rules.specs.declared.Shape.{Shape}
use Rattle.rules.specs.Field.{Kind, quadratic, weight_sum, field_length, limit}
use Rattle.whole.proofs.Cases.{true_of}
use Rattle.rules.proofs.QuadraticLaws.{weights-36}
use Rattle.rules.proofs.SoundLaws.{good-sound}
use Rattle.ledger.specs.Lists.{Call, Buffers, fresh}
use Rattle.ledger.specs.Demand3.{Demand3}
use Rattle.ledger.proofs.Agreement.{stored-agrees, list-agrees, list-never-6, fresh-agrees}
use Rattle.ledger.proofs.Striking.{Like, struck}

-- for any kind of element whose weights sum to more than 0, every shape, buffers of any content that are long enough, every list
pub demand-3-of : (κ : Kind) → 0 < weight_sum κ → (g : Shape) (b : Buffers) (field : List ℕ) (wind : List ℤ) → field_length κ g ≤ length field → (calls : List Call)
    → Demand3 κ g b (fresh κ g field wind) (weight_sum κ) limit calls
demand-3-of κ hw g b field wind room calls =
    let agrees = list-agrees κ g hw field wind room b calls in
    let start = fresh-agrees κ g hw field wind room in
    let st = fresh κ g field wind in
    let like : (s : ℕ) → Like κ g b s st st = λ s. record { room₁ = start.room; room₂ = start.room; winds = refl; parts = refl } in
    record {
      ledger-agrees = agrees.agree;
      remainders = λ s h e l. (agrees.good s h).small e l;
      totals = λ s h. (agrees.good s h).bounded;
      stored = stored-agrees κ g _ _ agrees;
      never-6 = list-never-6 κ g hw field wind room b calls;
      sound-parts = λ s h. true_of _ (good-sound κ g _ (agrees.good s h));
      replies-stay = λ s h. (struck κ g b s calls st st (like s)).replies-left;
      part_stays = λ s h. sym (struck κ g b s calls st st (like s)).ends.parts;
    }

-- DEMAND 3 of document 01's quadratic elements
pub demand-3 : (g : Shape) (b : Buffers) (field : List ℕ) (wind : List ℤ) → field_length quadratic g ≤ length field → (calls : List Call) → Demand3 quadratic g b (fresh quadratic g field wind) 36 limit calls
demand-3 g b field wind room calls =
    subst (λ n. Demand3 quadratic g b (fresh quadratic g field wind) n limit calls) weights-36 (demand-3-of quadratic (subst (λ n. 0 < n) (sym weights-36) (omega arith)) g b field wind room calls)
