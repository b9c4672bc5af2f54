-- Document 01, "Who meets which refusal": how checks make an answer, and the number of each refusal.
use Rattle.std.specs.Prelude.{◌≡◌, Bool, true, ◌&&◌, cond, List, [], ◌∷◌, ℕ, ◌≤◌, ltb, Result, Ok, Err}
use Rattle.rules.specs.declared.Refusal.{Refusal}
use Rattle.rules.specs.declared.Refusal.TheVariants.{NoFieldFile, BadShape, BadOffsets, ShortBuffer, WindOutOfRange, UnsoundTracer, NoSuchTracer, NoSuchElement, TotalAboveLimit, MassTooSmall, BrokenRecords, NotFinite}

-- an answer in the paper's terms: accepted, with what is answered beside that, or refused by a number
pub data Answer (A : Type 0) : Type 0 where
  accepted : A → Answer A
  refused : ℕ → Answer A

-- a check: the number of its refusal, and whether the call passes it
pub record Check : Type 0 where
  pub number : ℕ
  pub passes : Bool

abbrev pub check : ℕ → Bool → Check
check n b = record { number = n; passes = b }

-- "Checks run in rising number": each has a larger number than the one before it, the first than n. So is the list of every call of document 01
-- and that of a map (`RisingLaws`); an import's goes record by record
unfoldable pub rising : ℕ → List Check → Bool
rising n [] = true
rising n (c ∷ cs) = ltb n c.number && rising c.number cs

-- "each only when those before it passed"
unfoldable pub answer : {A : Type 0} → List Check → A → Answer A
answer [] x = accepted x
answer (c ∷ cs) x = cond c.passes (answer cs x) (refused c.number)

-- a buffer after a call: the new content where the call was accepted; "field, wind, report, work and output stay untouched"
-- where it was refused
unfoldable pub after : {A B : Type 0} → Answer A → B → B → B
after (accepted x) new old = new
after (refused n) new old = old

-- an accepted answer with f of what it held; a refusal as it is
unfoldable pub mapped : {A B : Type 0} → (A → B) → Answer A → Answer B
mapped f (accepted x) = accepted (f x)
mapped f (refused n) = refused n

-- whether a call was accepted, and nothing else of its answer
abbrev pub plain : {A : Type 0} → Answer A → Answer (Unit {0})
plain a = mapped (λ x. tt) a

-- an answered number is at most m
pub record AtMost (m : ℕ) (a : Answer ℕ) : Type 0 where
  pub small : (n : ℕ) → a ≡ accepted n → n ≤ m

-- ---- each case of an answer, in the paper's numbers and values
abbrev pub number : Refusal → ℕ
number NoFieldFile = 1
number BadShape = 2
number BadOffsets = 3
number ShortBuffer = 4
number WindOutOfRange = 5
number UnsoundTracer = 6
number NoSuchTracer = 7
number NoSuchElement = 8
number TotalAboveLimit = 9
number MassTooSmall = 10
-- document 02, 2026-01
number BrokenRecords = 11
number NotFinite = 12

-- "The promises use a definition for any answer that is an enum": accepted with what the call gives, or refused by the paper's number
abbrev pub answered : {A : Type 0} → Result A Refusal → Answer A
answered (Ok x) = accepted x
answered (Err r) = refused (number r)

-- the answer of a call is this one
abbrev pub answers : {A : Type 0} → Result A Refusal → Answer A → Type 0
answers r a = answered r ≡ a
