-- What the leaves of an import tell of a record: its kind, what stands at the front of a list of bytes, and winds whose size is cut to 4096.
use Rattle.std.specs.Prelude.{◌≡◌, cond, List, ℕ, leb, ◌<◌, ℤ, pos, neg_ℤ, nat_abs, Result, Ok, Err, MatchResult}
use Rattle.rules.specs.declared.Refusal.{Refusal}
use Rattle.rules.specs.declared.Refusal.TheVariants.{BrokenRecords}
use Rattle.rules.specs.WindRecords.{sign_bit, face_wind, components_at, east_at, north_at}
use Rattle.wind_records.specs.declared.Kind.{Kind}
use Rattle.wind_records.specs.declared.Winds.{Winds}

-- the byte of a kind
abbrev pub kind_number : Kind → ℕ
kind_number Kind.Calm = 0
kind_number Kind.Both = 1
kind_number Kind.East = 2

-- the kind of a byte, or that it is of none
abbrev pub KindOf : ℕ → Result Kind Refusal → Type 0
KindOf byte r = MatchResult r (λ k. kind_number k ≡ byte) (λ e. (2 < byte) × (e ≡ BrokenRecords))

-- what was read at the front of a list, f of it, whatever comes after it
abbrev pub front : {A B C : Type 0} → (A → C) → Result (A × B) Refusal → Result C Refusal
front f (Ok r) = Ok (f r.0)
front f (Err e) = Err e

-- the size of the wind that an f64 of these bits becomes, or 4096 where it is larger; and that wind. It is out of range where the wind itself is
unfoldable pub capped_size : ℕ → ℕ
unfolding face_wind
capped_size bits = cond (leb (nat_abs (face_wind bits)) 4096) (nat_abs (face_wind bits)) 4096

unfoldable pub capped_wind : ℕ → ℤ
unfolding capped_size
capped_wind bits = cond (sign_bit bits) (neg_ℤ (pos (capped_size bits))) (pos (capped_size bits))

-- the winds of the record at place p
unfoldable pub winds_at : List ℕ → ℕ → Winds
unfolding components_at face_wind
winds_at records p = record { east = east_at records p; north = north_at records p }
