-- The winds of a record, by its case: cut to 4096, and where they are in range, the very winds; and which winds are refused by 5.
use mathlib.Core.Path.{◌≡◌, refl, sym, ap, ap₂, subst, ◌∙◌}
use mathlib.Core.Bool.{Bool, true, false, ◌&&◌, cond}
use mathlib.Core.List.{List, [], ◌∷◌}
use Prim.Native.Nat.{ℕ}
use lib.Dec.{T}
use lib.Ieee.{Float, binary64, to_bits}
use lib.IntN.{ℤ, pos}
use Rattle.whole.proofs.Cases.{both_yes}
use Rattle.rules.specs.declared.WindPair.{WindPair}
use Rattle.rules.specs.declared.WindRecord.{WindRecord}
use Rattle.rules.specs.declared.WindRecord.TheVariants.{Calm, Both, East}
use Rattle.rules.specs.Answers.{Answer, accepted, refused, check, answer}
use Rattle.rules.specs.Field.{wind_in_range}
use Rattle.rules.specs.WindRecords.{components, components_at, reading_checks, record_checks}
use Rattle.rules.proofs.AnswerLaws.{accepted-is, prefix-refused, prefix-accepted}
use Rattle.wind_records.specs.declared.Winds.{Winds}
use Rattle.wind_records.specs.Records.{capped_wind, winds_at}
use Rattle.wind_records.proofs.DoubleLaws.{capped_zero, range-kept, wind-kept}

-- the winds of w, of which the sizes are cut, are a and b
abbrev Capped : WindRecord → ℤ → ℤ → Type 0
Capped w a b = (a ≡ capped_wind (components w).east_bits) × (b ≡ capped_wind (components w).north_bits)

module _ (w : WindRecord) where
  pub calm-winds : w ≡ Calm → Capped w (pos 0) (pos 0)
  unfolding components
  calm-winds e = subst (λ x. Capped x (pos 0) (pos 0)) (sym e) (sym capped_zero, sym capped_zero)

  pub both-winds : (p : WindPair) (a b : ℤ) → w ≡ Both p → a ≡ capped_wind (to_bits binary64 p.east) → b ≡ capped_wind (to_bits binary64 p.north) → Capped w a b
  unfolding components
  both-winds p a b e f g = subst (λ x. Capped x a b) (sym e) (f, g)

  pub east-winds : (x : Float) (a : ℤ) → w ≡ East x → a ≡ capped_wind (to_bits binary64 x) → Capped w a (pos 0)
  unfolding components
  east-winds x a e f = subst (λ y. Capped y a (pos 0)) (sym e) (f, sym capped_zero)

-- whether an element's winds are in range
abbrev in_range : Winds → Bool
in_range x = wind_in_range x.east && wind_in_range x.north

-- x is the winds where these are in range
cond-kept : (b : Bool) (x winds : Winds) → (T b → x ≡ winds) → cond b (accepted x) (refused 5) ≡ cond b (accepted winds) (refused 5)
cond-kept true x winds h = ap accepted (h tt)
cond-kept false x winds h = refl

-- the record at place p was read as w, whose winds are x, of which the sizes are cut
module _ (records : List ℕ) (p : ℕ) (w : WindRecord) (x : Winds) where
  pub imported : accepted (components w) ≡ answer (reading_checks records p) (components_at records p)
      → Capped w x.east x.north
      → cond (in_range x) (accepted x) (refused 5) ≡ answer (record_checks records p) (winds_at records p)
  unfolding record_checks reading_checks answer winds_at
  imported e k =
      let found = components_at records p in
      let winds = winds_at records p in
      let same = (accepted-is (reading_checks records p) (components w) found e).1 in
      let east = k.0 ∙ ap (λ c. capped_wind c.east_bits) same in
      let north = k.1 ∙ ap (λ c. capped_wind c.north_bits) same in
      let range : in_range x ≡ in_range winds = ap₂ ◌&&◌ (ap wind_in_range east ∙ range-kept found.east_bits) (ap wind_in_range north ∙ range-kept found.north_bits) in
      let kept : T (in_range winds) → x ≡ winds = λ t.
      let both = both_yes (wind_in_range winds.east) (wind_in_range winds.north) t in
      (λ i. record { east = (east ∙ wind-kept found.east_bits both.0) i; north = (north ∙ wind-kept found.north_bits both.1) i }) in
      ap (λ b. cond b (accepted x) (refused 5)) range ∙ cond-kept (in_range winds) x winds kept
      ∙ sym (prefix-accepted (reading_checks records p) (check 5 (in_range winds) ∷ []) found (components w) winds (sym e))

north-not : (a b : Bool) → b ≡ false → (a && b) ≡ false
north-not true b p = p
north-not false b p = refl

module _ (records : List ℕ) (p : ℕ) where
  abbrev Imports : Answer Winds → Type 0
  Imports a = a ≡ answer (record_checks records p) (winds_at records p)

  -- refused when it was read
  pub import-refused : (n : ℕ) → refused n ≡ answer (reading_checks records p) (components_at records p) → Imports (refused n)
  unfolding record_checks reading_checks
  import-refused n e = sym (prefix-refused (reading_checks records p) _ (components_at records p) (winds_at records p) n (sym e))

  module _ (w : WindRecord) (e : accepted (components w) ≡ answer (reading_checks records p) (components_at records p)) (a b : ℤ) (k : Capped w a b) where
    by-range : (c : Bool) → in_range (record { east = a; north = b }) ≡ c → Imports (cond c (accepted (record { east = a; north = b })) (refused 5))
    by-range c h = ap (λ d. cond d (accepted (record { east = a; north = b })) (refused 5)) (sym h) ∙ imported records p w (record { east = a; north = b }) e k

    pub import-5-east : wind_in_range a ≡ false → Imports (refused 5)
    import-5-east h = by-range false (rw h)

    pub import-5-north : wind_in_range b ≡ false → Imports (refused 5)
    import-5-north h = by-range false (north-not (wind_in_range a) (wind_in_range b) h)

    pub import-done : wind_in_range a ≡ true → wind_in_range b ≡ true → Imports (accepted (record { east = a; north = b }))
    import-done h i = by-range true (rw (h, i))
