-- The record at a place of a list of bytes: what a whole one has, and that it is the record at the front of the bytes from there on.
use mathlib.Core.Path.{◌≡◌, refl, ap, ap₂, subst, sym, ◌∙◌}
use mathlib.Core.Bool.{Bool, true, ◌&&◌, cond}
use mathlib.Core.List.{List, [], ◌∷◌, ◌++◌}
use Prim.Native.Nat.{ℕ, ◌+◌, ◌≤◌}
use native.Mathlib.Nat.{add-zero, add_assoc}
use native.Mathlib.Omega.{arith}
use borrow.Author.Tests.{le-leb, lt-leb}
use lib.Dec.{T, leb, leb→le, nleb→lt}
use lib.ListN.{length, drop, length-drop}
use Rattle.std.proofs.lemmas.List.{get_or-drop}
use Rattle.whole.proofs.Cases.{either, both_yes}
use Rattle.rules.specs.Answers.{Check, check}
use Rattle.rules.specs.Bytes.{byte_at, number32, number64}
use Rattle.rules.specs.Field.{wind_in_range}
use Rattle.rules.specs.WindRecords.{finite, face_wind, Components, numbers_of, record_length, components_at, whole_at, reading_checks, record_checks}
use Rattle.wind_records.specs.Records.{winds_at}

-- ---- what a whole one has
module _ (records : List ℕ) (p : ℕ) where
  pub record Whole : Type 0 where
    pub kind : byte_at records p ≤ 2
    pub room : p + record_length (byte_at records p) ≤ length records

  pub whole_is : whole_at records p ≡ true → Whole
  unfolding whole_at
  whole_is e =
      let t = both_yes (leb (byte_at records p) 2) (leb (p + record_length (byte_at records p)) (length records)) (subst T (sym e) tt) in
      record { kind = leb→le _ _ t.0; room = leb→le _ _ t.1 }

-- ---- at the front of the bytes from p on
module _ (records : List ℕ) (p : ℕ) where
  number64-from : (i : ℕ) → number64 (drop p records) i ≡ number64 records (p + i)
  unfolding number64 number32
  number64-from i = simp (get_or-drop, add_assoc) refl

  pub kind-from : byte_at (drop p records) 0 ≡ byte_at records p
  kind-from = get_or-drop p records 0 0 ∙ ap (byte_at records) (add-zero p)

  components-from : components_at (drop p records) 0 ≡ components_at records p
  unfolding components_at
  components-from i =
      let k = kind-from i in
      record { kind = k; east_bits = cond (leb 1 (numbers_of k)) (number64-from 1 i) 0; north_bits = cond (leb 2 (numbers_of k)) (number64-from 9 i) 0 }

  whole-from : p ≤ length records → whole_at (drop p records) 0 ≡ whole_at records p
  unfolding whole_at
  whole-from h = ap₂ (λ k r. leb k 2 && r) kind-from (ap (λ k. leb (0 + record_length k) (length (drop p records))) kind-from ∙ room (record_length (byte_at records p)))
    where
      room : (n : ℕ) → leb (0 + n) (length (drop p records)) ≡ leb (p + n) (length records)
      room n = either (leb (p + n) (length records))
          (λ t. let k = leb→le (p + n) (length records) t in rw (le-leb (p + n) (length records) k, le-leb (0 + n) (length (drop p records)) (omega (arith, length-drop p records))))
          (λ t. let k = nleb→lt (p + n) (length records) t in rw (lt-leb (p + n) (length records) k, lt-leb (0 + n) (length (drop p records)) (omega (arith, length-drop p records))))

  -- all that is checked of a record
  abbrev checks-of : Bool → Components → List Check
  checks-of w c =
      (check 11 w ∷ check 12 (finite c.east_bits && finite c.north_bits) ∷ []) ++ (check 5 (wind_in_range (face_wind c.east_bits) && wind_in_range (face_wind c.north_bits)) ∷ [])

  pub checks-from : p ≤ length records → record_checks (drop p records) 0 ≡ record_checks records p
  unfolding record_checks reading_checks
  checks-from h = ap₂ checks-of (whole-from h) components-from

  pub winds-from : winds_at (drop p records) 0 ≡ winds_at records p
  unfolding winds_at
  winds-from = ap (λ (c : Components). record { east = face_wind c.east_bits; north = face_wind c.north_bits }) components-from
