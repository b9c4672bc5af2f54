-- "Checks run in rising number": so are the checks of every call of document 01, and those of a map. (An import's checks go record by record, by document 02.)
use mathlib.Core.Path.{◌≡◌, refl}
use mathlib.Core.Bool.{Bool, true}
use mathlib.Core.List.{List}
use Prim.Native.Nat.{ℕ}
use lib.IntN.{ℤ}
use Rattle.rules.specs.declared.Shape.{Shape}
use Rattle.rules.specs.declared.Face.{Face}
use Rattle.rules.specs.Answers.{rising}
use Rattle.rules.specs.Field.{Kind}
use Rattle.rules.specs.Calls.{Operation, load, emission, withdrawal, step, Lent, checks, call_checks, mass_checks, part_checks, fresh_checks, wind_checks, one_face}
use Rattle.rules.specs.FieldFile.{read_checks, write_checks}
use Rattle.rules.specs.Map.{map_checks}

module _ (κ : Kind) (g : Shape) (field : List ℕ) (wind : List ℤ) where
  call-rising : (s : ℕ) (op : Operation Lent) → rising 0 (call_checks κ g s op field) ≡ true
  unfolding rising checks
  call-rising s (load numbers) = refl
  call-rising s (emission i j q) = refl
  call-rising s (withdrawal i j q) = refl
  call-rising s (step l) = refl

  mass-rising : (s i j : ℕ) → rising 0 (mass_checks κ g s i j field) ≡ true
  unfolding rising
  mass-rising s i j = refl

  part-rising : (test : List ℕ → Bool) (s : ℕ) → rising 0 (part_checks κ g test s field) ≡ true
  unfolding rising
  part-rising test s = refl

  map-rising : (s : ℕ) (page : List ℕ) → rising 0 (map_checks κ g s field page) ≡ true
  unfolding rising
  map-rising s page = refl

  fresh-rising : rising 0 (fresh_checks κ g field wind) ≡ true
  unfolding rising
  fresh-rising = refl

  wind-rising : (f : Face) → rising 0 (wind_checks g (one_face f) wind) ≡ true
  unfolding rising
  wind-rising f = refl

  read-rising : (file : List ℕ) → rising 0 (read_checks κ file field wind) ≡ true
  unfolding rising
  read-rising file = refl

  write-rising : (file : List ℕ) → rising 0 (write_checks κ g field wind file) ≡ true
  unfolding rising
  write-rising file = refl
