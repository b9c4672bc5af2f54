-- The walk over the records, one at a time, and which walk leads to which answer of the import.
use mathlib.Core.Path.{◌≡◌, refl, sym, ap, subst, ◌∙◌}
use mathlib.Core.Bool.{true, false}
use mathlib.Core.List.{List, [], ◌∷◌, ◌++◌, append_assoc}
use Prim.Native.Nat.{ℕ, ◌+◌, ◌-◌, ◌≤◌, ◌<◌}
use borrow.Author.Tests.{le-leb, lt-leb, eq-eqb, ne_eqb}
use native.Mathlib.Numerals.{add-one}
use native.Mathlib.Omega.{arith}
use lib.Dec.{eqb}
use lib.IntN.{ℤ}
use lib.ListN.{length, drop, length-append, length-drop}
use lib.Seq.{drop-drop}
use Rattle.whole.specs.Table.{blocks, table, overwrite}
use Rattle.whole.proofs.Cases.{true_of}
use Rattle.whole.proofs.ListParts.{blocks-split}
use Rattle.whole.proofs.TableLaws.{blocks_more, length-table}
use Rattle.whole.proofs.OverwriteLaws.{front-is}
use Rattle.rules.specs.declared.Shape.{Shape}
use Rattle.rules.specs.Answers.{Answer, accepted, refused, Check, check, answer, after}
use Rattle.rules.specs.Field.{admitted, elements, faces}
use Rattle.rules.specs.Calls.{from_records, wind_reply, new_wind, wind_after}
use Rattle.rules.specs.Bytes.{byte_at}
use Rattle.rules.specs.WindRecords.{record_length, whole_at, record_checks, record_start, all_record_checks, east_wind, north_wind, record_winds}
use Rattle.rules.proofs.AnswerLaws.{Passed, accepted-is, passed-prefix, passed-both, prefix-refused, after-refused, after-accepted}
use Rattle.wind_records.specs.declared.Winds.{Winds}
use Rattle.wind_records.specs.Records.{winds_at}
use Rattle.wind_records.proofs.RecordLaws.{whole_is, kind-from, checks-from, winds-from}

module _ (records : List ℕ) where
  -- the checks of the record of element e
  abbrev checks_of : ℕ → List Check
  checks_of e = record_checks records (record_start records e)

  -- the answer of the records of n elements
  abbrev pub records_reply : ℕ → Answer (Unit {0})
  records_reply n = answer (all_record_checks records n) tt

  -- the check after the last of n records
  abbrev last : ℕ → List Check
  last n = check 11 (eqb (record_start records n) (length records)) ∷ []

  -- the first e records have passed, and these bytes are left
  pub record Walked (e : ℕ) (left : List ℕ) : Type 0 where
    pub rest : left ≡ drop (record_start records e) records
    pub room : record_start records e ≤ length records
    pub passed : Passed (blocks e checks_of)

  pub walked_none : Walked 0 records
  unfolding record_start blocks
  walked_none = record { rest = refl; room = omega arith; passed = tt }

  module _ (e : ℕ) (left : List ℕ) (w : Walked e left) where
    -- the record of element e is the one at the front of them
    front : record_checks left 0 ≡ checks_of e
    front = ap (λ l. record_checks l 0) w.rest ∙ checks-from records (record_start records e) w.room

    module _ {A : Type 0} (y : A) where
      -- it passes
      pub walked_more : (x : A) → accepted x ≡ answer (record_checks left 0) y → (rest : List ℕ) → rest ≡ drop (record_length (byte_at left 0)) left → Walked (e + 1) rest
      unfolding record_checks record_start
      walked_more x a rest r =
          let p = record_start records e in
          let passed = accepted-is (checks_of e) x y (a ∙ ap (λ cs. answer cs y) front) in
          let whole = whole_is records p (true_of (whole_at records p) passed.0.0) in
          let next : p + record_length (byte_at records p) ≡ record_start records (e + 1) = ap (record_start records) (sym (add-one e)) in
          record {
            rest = r ∙ ap (λ l. drop (record_length (byte_at l 0)) l) w.rest ∙ ap (λ k. drop (record_length k) (drop p records)) (kind-from records p) ∙ drop-drop _ p records ∙ ap (λ k. drop k records) next;
            room = subst (λ k. k ≤ length records) next whole.room;
            passed = subst Passed (sym (blocks_more e checks_of)) (passed-both (blocks e checks_of) (checks_of e) w.passed passed.0);
          }

      -- it is refused, and so is the import, whatever comes after it
      pub walked-refused : (n k : ℕ) → e < n → refused k ≡ answer (record_checks left 0) y → refused k ≡ records_reply n
      unfolding all_record_checks
      walked-refused n k l a =
          let m : e + 1 + (n - (e + 1)) ≡ n = omega arith in
          let rest = blocks (n - (e + 1)) (λ i. checks_of (e + 1 + i)) in
          let b = ap (λ i. blocks i checks_of) (sym m) ∙ blocks-split (e + 1) (n - (e + 1)) checks_of in
          let r = ap (λ cs. answer cs y) (blocks_more e checks_of) ∙ passed-prefix (blocks e checks_of) (checks_of e) y w.passed ∙ ap (λ cs. answer cs y) (sym front) ∙ sym a in
          sym (ap (λ cs. answer (cs ++ last n) tt) b ∙ ap (λ cs. answer cs tt) (append_assoc (blocks (e + 1) checks_of) rest (last n)) ∙ prefix-refused (blocks (e + 1) checks_of) (rest ++ last n) y tt k r)

      pub never-refused : (n k : ℕ) → e < n → refused k ≡ answer (record_checks left 0) y → accepted tt ≡ records_reply n → ⊥
      never-refused n k l a p = let q : accepted tt ≡ refused k = p ∙ sym (walked-refused n k l a) in let z : ◌≡◌ {A = ℕ} 0 1 = cc in omega arith

    -- the winds of a record that passed
    pub winds-are : (x : Winds) → accepted x ≡ answer (record_checks left 0) (winds_at left 0) → (x.east ≡ east_wind records e) × (x.north ≡ north_wind records e)
    unfolding winds_at
    winds-are x a =
        let s = (accepted-is (record_checks left 0) x (winds_at left 0) a).1 ∙ ap (λ l. winds_at l 0) w.rest ∙ winds-from records (record_start records e) in
        (ap (λ z. z.east) s, ap (λ z. z.north) s)

  -- after the last record
  module _ (n : ℕ) (left : List ℕ) (w : Walked n left) where
    long : length left ≡ length records - record_start records n
    long = ap length w.rest ∙ length-drop (record_start records n) records

    pub bytes_left : (length left ≡ 0 → ⊥) → refused 11 ≡ records_reply n
    unfolding all_record_checks answer
    bytes_left l = sym (passed-prefix (blocks n checks_of) (last n) tt w.passed ∙ rw (ne_eqb (record_start records n) (length records) (λ z. l (omega (arith, long)))) refl)

    pub none_left : length left ≡ 0 → accepted tt ≡ records_reply n
    unfolding all_record_checks answer
    none_left l = sym (passed-prefix (blocks n checks_of) (last n) tt w.passed ∙ rw (eq-eqb (record_start records n) (length records) (omega (arith, long, w.room))) refl)

-- ---- the import
module _ (g : Shape) (records : List ℕ) (wind : List ℤ) where
  abbrev Imports : Answer (Unit {0}) → List ℤ → Type 0
  Imports a new = (a ≡ wind_reply g (from_records records) wind) × (new ≡ wind_after g (from_records records) wind)

  pub import-2 : admitted g ≡ false → Imports (refused 2) wind
  unfolding wind_reply wind_after answer after
  import-2 a = rw a (refl, refl)

  pub import-4 : admitted g ≡ true → length wind < faces g → Imports (refused 4) wind
  unfolding wind_reply wind_after answer after
  import-4 a l = rw (a, lt-leb (faces g) (length wind) l) (refl, refl)

  module _ (a : admitted g ≡ true) (l : faces g ≤ length wind) where
    records-decide : wind_reply g (from_records records) wind ≡ records_reply records (elements g)
    unfolding wind_reply answer
    records-decide = rw (a, le-leb (faces g) (length wind) l)

    module _ (n : ℕ) (count : n ≡ elements g) where
      decided : records_reply records n ≡ wind_reply g (from_records records) wind
      decided = ap (records_reply records) count ∙ sym records-decide

      pub import-refused : (k : ℕ) → refused k ≡ records_reply records n → Imports (refused k) wind
      unfolding wind_after
      import-refused k e = (e ∙ decided, sym (after-refused (wind_reply g (from_records records) wind) k (new_wind g (from_records records) wind) wind (sym (e ∙ decided))))

      -- both walks are done: over the first m faces stand the east winds, over the m after them the north winds
      pub import-done : accepted tt ≡ records_reply records n → {m : ℕ} {easts norths rest : List ℤ} → m ≡ n → easts ≡ table m (east_wind records) → norths ≡ table m (north_wind records)
          → rest ≡ drop n wind → Imports (accepted tt) (easts ++ (norths ++ drop n rest))
      unfolding wind_after new_wind record_winds
      import-done e {m} {easts} {norths} {rest} mn en nn rn =
          let east = table n (east_wind records) in
          let north = table n (north_wind records) in
          let size : n + n ≡ length (east ++ north) = simp length-append (omega (arith, length-table n (east_wind records), length-table n (north_wind records))) in
          let laid : easts ++ (norths ++ drop n rest) ≡ overwrite 0 (record_winds records (elements g)) wind =
          rw (en, nn, mn, rn) (sym (append_assoc east north (drop n (drop n wind))) ∙ ap (λ l. (east ++ north) ++ l) (drop-drop n n wind ∙ ap (λ i. drop i wind) size))
          ∙ sym (front-is (east ++ north) wind) ∙ ap (λ i. overwrite 0 (record_winds records i) wind) count in
          (e ∙ decided, laid ∙ sym (after-accepted (wind_reply g (from_records records) wind) tt (new_wind g (from_records records) wind) wind (sym (e ∙ decided))))
