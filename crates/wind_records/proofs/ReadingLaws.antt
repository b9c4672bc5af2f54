-- A record at a place: which bytes meet which refusal, and what a record of each kind reads as.
use mathlib.Core.Path.{◌≡◌, refl, sym, ap, subst, ◌∙◌}
use mathlib.Core.Bool.{Bool, true, false, ◌&&◌}
use mathlib.Core.List.{List, [], ◌∷◌}
use Prim.Native.Nat.{ℕ, zero, suc, ◌+◌, ◌*◌, ◌-◌, ◌≤◌, ◌<◌}
use borrow.Author.Tests.{le-leb, lt-leb}
use native.Mathlib.Omega.{arith}
use lib.Dec.{T, leb, leb→le, nleb→lt}
use lib.Ieee.{Float, binary64, of_bits, to_bits}
use lib.ListN.{length}
use Rattle.whole.proofs.Cases.{either, both_yes}
use Rattle.rules.specs.Answers.{Answer, accepted, refused, check, answer}
use Rattle.rules.specs.declared.WindRecord.TheVariants.{Calm, Both, East}
use Rattle.rules.specs.Bytes.{byte_at, number32, number64}
use Rattle.rules.specs.WindRecords.{finite, Components, components, numbers_of, record_length, components_at, whole_at, reading_checks}
use Rattle.wind_records.proofs.DoubleLaws.{same_bits}
use Rattle.wind_records.proofs.RecordLaws.{whole_is}

-- the known kinds but 0 have an east component
has-east : (kind : ℕ) → kind ≤ 2 → (kind ≡ 0 → ⊥) → 1 ≤ numbers_of kind
has-east zero h f = absurd (f refl)
has-east (suc zero) h f = omega arith
has-east (suc (suc zero)) h f = omega arith
has-east (suc (suc (suc k))) h f = omega arith

-- ---- two checks, by what was found
two-12 : {A : Type 0} (a b : Bool) (x : A) → a ≡ true → b ≡ false → refused 12 ≡ answer (check 11 a ∷ check 12 b ∷ []) x
unfolding answer
two-12 a b x p q = rw (p, q)

two-done : {A : Type 0} (a b c : Bool) (x : A) → a ≡ true → b ≡ true → c ≡ true → accepted x ≡ answer (check 11 a ∷ check 12 (b && c) ∷ []) x
unfolding answer
two-done a b c x p q r = rw (p, q, r)

both-not : (a b : Bool) → a ≡ true → b ≡ false → (a && b) ≡ false
both-not a b p q = rw (p, q)

-- ---- a number of eight bytes as an f64, and back
number64-lt : (records : List ℕ) → ((i : ℕ) → byte_at records i < 256) → (i : ℕ) → number64 records i < 18446744073709551616
unfolding number64 number32
number64-lt records small i = omega (arith, small i, small (i + 1), small (i + 2), small (i + 3), small (i + 4), small (i + 4 + 1), small (i + 4 + 2), small (i + 4 + 3))

bits_back : (records : List ℕ) → ((i : ℕ) → byte_at records i < 256) → (i : ℕ) → finite (number64 records i) ≡ true → (x : Float) → x ≡ of_bits binary64 (number64 records i) → to_bits binary64 x ≡ number64 records i
bits_back records small i f x e = ap (to_bits binary64) e ∙ same_bits (number64 records i) (number64-lt records small i) (subst T (sym f) tt)

module _ (records : List ℕ) (p : ℕ) where
  -- ---- whether it is whole
  pub missing : length records - p < 1 → false ≡ whole_at records p
  unfolding whole_at
  missing h = rw (lt-leb (p + record_length (byte_at records p)) (length records) (omega arith)) (none (leb (byte_at records p) 2))
    where
      none : (b : Bool) → false ≡ (b && false)
      none true = refl
      none false = refl

  pub unknown : 2 < byte_at records p → false ≡ whole_at records p
  unfolding whole_at
  unknown h = rw (lt-leb (byte_at records p) 2 h)

  pub known : p ≤ length records → byte_at records p ≤ 2 → leb (record_length (byte_at records p)) (length records - p) ≡ whole_at records p
  unfolding whole_at
  known l h = rw (le-leb (byte_at records p) 2 h) (room (record_length (byte_at records p)))
    where
      room : (n : ℕ) → leb n (length records - p) ≡ leb (p + n) (length records)
      room n = either (leb n (length records - p))
          (λ t. let k = leb→le n (length records - p) t in rw (le-leb n (length records - p) k, le-leb (p + n) (length records) (omega arith)))
          (λ t. let k = nleb→lt n (length records - p) t in rw (lt-leb n (length records - p) k, lt-leb (p + n) (length records) (omega arith)))

  -- ---- its components, by its kind
  pub of-calm : byte_at records p ≡ 0 → components_at records p ≡ record { kind = 0; east_bits = 0; north_bits = 0 }
  unfolding components_at
  of-calm e = rw e

  pub of-both : byte_at records p ≡ 1 → components_at records p ≡ record { kind = 1; east_bits = number64 records (p + 1); north_bits = number64 records (p + 9) }
  unfolding components_at
  of-both e = rw e

  pub of-east : byte_at records p ≡ 2 → components_at records p ≡ record { kind = 2; east_bits = number64 records (p + 1); north_bits = 0 }
  unfolding components_at
  of-east e = rw e

  -- ---- the answer of reading it
  abbrev Reads : Answer Components → Type 0
  Reads a = a ≡ answer (reading_checks records p) (components_at records p)

  pub reads-11 : whole_at records p ≡ false → Reads (refused 11)
  unfolding answer reading_checks
  reads-11 w = rw w

  module _ (c : Components) (e : components_at records p ≡ c) (w : whole_at records p ≡ true) where
    by_tests : (a : Answer Components) → ((b : Bool) → b ≡ true → a ≡ answer (check 11 b ∷ check 12 (finite c.east_bits && finite c.north_bits) ∷ []) c) → Reads a
    unfolding reading_checks
    by_tests a h = h (whole_at records p) w ∙ ap (λ x. answer (check 11 (whole_at records p) ∷ check 12 (finite x.east_bits && finite x.north_bits) ∷ []) x) (sym e)

    pub reads-12 : (finite c.east_bits && finite c.north_bits) ≡ false → Reads (refused 12)
    reads-12 f = by_tests (refused 12) (λ b w. two-12 b (finite c.east_bits && finite c.north_bits) c w f)

    pub reads-done : finite c.east_bits ≡ true → finite c.north_bits ≡ true → Reads (accepted c)
    reads-done f g = by_tests (accepted c) (λ b w. two-done b (finite c.east_bits) (finite c.north_bits) c w f g)

  -- ---- the code's ways through them
  pub read-calm : whole_at records p ≡ true → byte_at records p ≡ 0 → Reads (accepted (components Calm))
  unfolding components
  read-calm w k = reads-done (record { kind = 0; east_bits = 0; north_bits = 0 }) (of-calm k) w refl refl

  module _ (w : whole_at records p ≡ true) (k : byte_at records p ≡ 0 → ⊥) where
    pub read-12-east : finite (number64 records (p + 1)) ≡ false → Reads (refused 12)
    unfolding components_at
    read-12-east f = reads-12 (components_at records p) refl w (ap (λ b. b && finite (components_at records p).north_bits) (ap finite east ∙ f))
      where
        east : (components_at records p).east_bits ≡ number64 records (p + 1)
        east = rw (le-leb 1 (numbers_of (byte_at records p)) (has-east (byte_at records p) (whole_is records p w).kind k))

  module _ (w : whole_at records p ≡ true) (small : (i : ℕ) → byte_at records i < 256) (f : finite (number64 records (p + 1)) ≡ true) where
    pub read-east : byte_at records p ≡ 2 → (x : Float) → x ≡ of_bits binary64 (number64 records (p + 1)) → Reads (accepted (components (East x)))
    unfolding components
    read-east k x e = ap (λ b. accepted (record { kind = 2; east_bits = b; north_bits = 0 })) (bits_back records small (p + 1) f x e) ∙ reads-done (record { kind = 2; east_bits = number64 records (p + 1); north_bits = 0 }) (of-east k) w f refl

    pub read-12-north : byte_at records p ≡ 1 → finite (number64 records (p + 9)) ≡ false → Reads (refused 12)
    read-12-north k g = reads-12 (record { kind = 1; east_bits = number64 records (p + 1); north_bits = number64 records (p + 9) }) (of-both k) w (both-not (finite (number64 records (p + 1))) (finite (number64 records (p + 9))) f g)

    pub read-both : byte_at records p ≡ 1 → finite (number64 records (p + 9)) ≡ true → (x y : Float) → x ≡ of_bits binary64 (number64 records (p + 1)) → y ≡ of_bits binary64 (number64 records (p + 9))
        → Reads (accepted (components (Both (record { east = x; north = y }))))
    unfolding components
    read-both k g x y e d =
        let a = bits_back records small (p + 1) f x e in
        let b = bits_back records small (p + 9) g y d in
        (λ i. accepted (record { kind = 1; east_bits = a i; north_bits = b i })) ∙ reads-done (record { kind = 1; east_bits = number64 records (p + 1); north_bits = number64 records (p + 9) }) (of-both k) w f g
