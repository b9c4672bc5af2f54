-- A test of each of n numbers, or of each part of them, by one run of std's `all`.
use Rattle.std.proofs.Common.{◌≡◌, refl, sym, ap, subst, ◌∙◌, ℕ, zero, suc, ◌+◌, ◌*◌, ◌/◌, ◌<◌, ◌≤◌, Bool, true, false, List, [], ◌∷◌, length, take, drop, get_or, Option, Some, None, arith}
use Rattle.std.specs.Borrow.{Bor}
use Rattle.std.specs.Bool.{MatchBool}
use Rattle.std.specs.List.{HoldsAt, IsSubsliceAt, FoldsTo}
use Rattle.std.specs.Option.{IfSome, option_map, IsSomeAnd}
use Rattle.std.specs.Fn.{Called}
use denote.Param.Members.{Mut}
use Rattle.std.specs.Iterator.{Yields, CallableAtEachTurn}
use Rattle.std.specs.Iterator.Runs.{Run, SomeRun, IsChunksExactRun, ItemsMapTo, ProjectsRun, AllItemsGive, AnyItemGives, CallKeepsClosure}
use Rattle.std.proofs.lemmas.Nat.{le-div}
use Rattle.whole.specs.Sum.{all}
use Rattle.whole.proofs.SumLaws.{all-cong, all-fails}
use lib.Seq.{length-take-le, get_or-take}

all-hold : (n : ℕ) (f : ℕ → Bool) → ((i : ℕ) → i < n → f i ≡ true) → all n f ≡ true
unfolding all
all-hold zero f h = refl
all-hold (suc n) f h = rw (all-hold n f (λ i l. h i (omega arith)), h n (omega arith)) refl

-- there is an item at a place of a run
there : {A : Type 0} (o : Option A) (xs : List A) (y : A → A) → 0 < length xs → ((d : A) → option_map (λ x. x) o ≡ Some (y d)) → IsSomeAnd o (λ _. Unit {0})
there (Some x) xs y h f = tt
there None [] y h f = absurd (omega arith)
there None (d ∷ xs) y h f = let e = f d in absurd cc

-- item k is what At says of place k, and there the closure computes test k
module _ {A F : Type 0} (g : Mut F (A × Unit {0}) Bool) (f : F) (n : ℕ) (test : ℕ → Bool) (At : ℕ → A → Type 0)
    (tests : (x : A) (b : Bool) (k : ℕ) → k < n → At k x → Called g f (x, tt) b f → b ≡ test k) where
  passes : (k : ℕ) (b : Bool) (o : Option A) → k < n → IsSomeAnd o (λ _. Unit {0}) → IfSome o (At k) → IfSome o (λ x. Called g f (x, tt) b f) → test k ≡ b
  passes k b (Some x) h t p c = sym (tests x b k h p c)
  passes k b None h t p c = absurd t

  fails : (k : ℕ) (b : Bool) (o : Option A) → k < n → IsSomeAnd o (λ x. Called g f (x, tt) b f) → IfSome o (At k) → test k ≡ b
  fails k b (Some x) h c p = sym (tests x b k h p c)
  fails k b None h c p = absurd c

  -- whether every item passes
  pub run-all : {S : Type 0} {steps : S → Option A → S → Type 0} (s : S) (r : Bool)
      → ((p : Run steps) → p.from ≡ s → (p.len ≤ n) × (p.whole ≡ true → p.len ≡ n) × ((k : ℕ) → IfSome (p.at k) (At k))) → CallKeepsClosure g f
      → SomeRun steps s (λ p. MatchBool r ((p.whole ≡ true) × AllItemsGive p g f true) (AnyItemGives p g f false)) → r ≡ all n test
  run-all s true items keeps (p, e, m) =
      let q = items p e in
      let w = q.1 m.0 in
      sym (all-hold n test (λ i t. passes i true (p.at i) t (there (p.at i) p.items _ (omega (arith, p.long)) (λ d. p.reads i d (omega arith))) (q.2 i) (m.1 keeps i)))
  run-all s false items keeps (p, e, m) =
      let b = m keeps in
      let q = items p e in
      sym (all-fails n test b.0 (omega arith) (fails b.0 false (p.at b.0) (omega arith) b.2 (q.2 b.0)))

-- the items of a slice by reference
pub items-all : {A F S : Type 0} (g : Mut F (Bor A × Unit {0}) Bool) (f : F) (l : List A) (p : A → Bool) (d : A)
    → ((x : Bor A) (b : Bool) → Called g f (x, tt) b f → b ≡ p x.now)
    → {steps : S → Option (Bor A) → S → Type 0} (s : S) (r : Bool) → ((q : Run steps) → q.from ≡ s → ItemsMapTo q (λ y. y.now) l) → CallKeepsClosure g f
    → SomeRun steps s (λ q. MatchBool r ((q.whole ≡ true) × AllItemsGive q g f true) (AnyItemGives q g f false)) → r ≡ all (length l) (λ k. p (get_or l k d))
items-all g f l p d tests s r items keeps =
    run-all g f (length l) (λ k. p (get_or l k d)) (λ k x. HoldsAt (λ y. x.now ≡ y) l k) (λ x b k h a c. tests x b c ∙ ap p (a d)) s r (λ q e. let t = items q e in (t.0, t.1, t.3)) keeps

-- part k of n items each
abbrev IsPart : {A : Type 0} → ℕ → List A → ℕ → Bor (List A) → Type 0
IsPart n l k x = (length x.now ≡ n) × (k * n + n ≤ length l) × IsSubsliceAt n l (k * n) x.now

-- m parts of n items, and the tests of a part
pub chunks-all : {A F S : Type 0} (g : Mut F (Bor (List A) × Unit {0}) Bool) (f : F) (n m : ℕ) (l : List A) (test : ℕ → Bool)
    → ((x : Bor (List A)) (b : Bool) (k : ℕ) → k < m → x.now ≡ take n (drop (k * n) l) → Called g f (x, tt) b f → b ≡ test k)
    → {steps : S → Option (Bor (List A)) → S → Type 0} (s : S) (r : Bool) → 0 < n → length l / n ≡ m → ((p : Run steps) → p.from ≡ s → IsChunksExactRun p n l) → CallKeepsClosure g f
    → SomeRun steps s (λ p. MatchBool r ((p.whole ≡ true) × AllItemsGive p g f true) (AnyItemGives p g f false)) → r ≡ all m test
chunks-all g f n m l test tests s r h e parts keeps =
    run-all g f m test (λ k x. IsPart n l k x) (λ x b k h a c. tests x b k h a.2.0 c) s r
    (λ p q. let t = parts p q in (rw (← e) (le-div p.len (length l) n h t.0), (λ w. t.1 w ∙ e), t.2)) keeps

-- the same of the parts with their numbers
numbered : {X : Type 0} (P : X → Type 0) (k : ℕ) (o : Option (ℕ × X)) (q : Option X) → q ≡ option_map (λ x. x.1) o → IfSome o (λ x. x.0 ≡ k) → IfSome q P → IfSome o (λ x. (x.0 ≡ k) × P x.1)
numbered P k (Some x) q e a h = (a, subst (λ z. IfSome z P) e h)
numbered P k None q e a h = tt

pub numbered-chunks-all : {A F S T : Type 0} (g : Mut F ((ℕ × Bor (List A)) × Unit {0}) Bool) (f : F) (n m : ℕ) (l : List A) (test : ℕ → Bool)
    → ((x : ℕ × Bor (List A)) (b : Bool) (k : ℕ) → k < m → x.0 ≡ k → x.1.now ≡ take n (drop (k * n) l) → Called g f (x, tt) b f → b ≡ test k)
    → {steps : S → Option (ℕ × Bor (List A)) → S → Type 0} {source : T → Option (Bor (List A)) → T → Type 0} (s : S) (t : T) (r : Bool) → 0 < n → length l / n ≡ m
    → ((p : Run steps) → p.from ≡ s → ((k : ℕ) → IfSome (p.at k) (λ x. x.0 ≡ k)) × SomeRun source t (λ q. ProjectsRun p q (λ x. x.1) × (q.whole ≡ p.whole)))
    → ((q : Run source) → q.from ≡ t → IsChunksExactRun q n l) → CallKeepsClosure g f
    → SomeRun steps s (λ p. MatchBool r ((p.whole ≡ true) × AllItemsGive p g f true) (AnyItemGives p g f false)) → r ≡ all m test
numbered-chunks-all g f n m l test tests s t r h e counts parts keeps =
    run-all g f m test (λ k x. (x.0 ≡ k) × IsPart n l k x.1) (λ x b k h a c. tests x b k h a.0 a.1.2.0 c) s r
    (λ p z.
    let w = counts p z in
    let q = w.1.0 in
    let d = w.1.2 in
    let u = parts q w.1.1 in
    let same = d.0.0 in
    (rw (← same, ← e) (le-div q.len (length l) n h u.0), (λ v. sym same ∙ u.1 (d.1 ∙ v) ∙ e), (λ k. numbered _ k (p.at k) (q.at k) (d.0.2 k) (w.0 k) (u.2 k)))) keeps

-- what each item may be asked, where I holds of every state on the way and a call leaves the closure as it was
reached : {S A : Type 0} (steps : S → Option A → S → Type 0) (I : S → Type 0) → ((u : S) (x : A) (w : S) → I u → steps u (Some x) w → I w) → (xs : List A) (s t : S) → I s → Yields steps s xs t → I t
reached steps I turn [] s t i y = subst I y i
reached steps I turn (x ∷ xs) s t i y = reached steps I turn xs y.0 t (turn s x y.0 i y.1) y.2

unmoved : {A P : Type 0} (R : P → A → P → Type 0) (p : P) → ((x : A) (q : P) → R p x q → q ≡ p) → (xs : List A) (q : P) → FoldsTo R p xs q → q ≡ p
unmoved R p stays [] q f = sym f
unmoved R p stays (x ∷ xs) q f = unmoved R p stays xs q (subst (λ j. FoldsTo R j xs q) (stays x f.0 f.1) f.2)

pub serves : {S A P : Type 0} {steps : S → Option A → S → Type 0} {R : P → A → P → Type 0} {Q : P → A → Type 0} {s : S} {p : P} (I : S → Type 0)
    → ((u : S) (x : A) (w : S) → I u → steps u (Some x) w → I w × Q p x) → ((x : A) (q : P) → R p x q → q ≡ p) → I s → CallableAtEachTurn steps R Q s p
serves {steps = steps} {R = R} {Q = Q} {s = s} {p = p} I turn stays i = record {
  at = λ xs t q x u y f e. subst (λ k. Q k x) (sym (unmoved R p stays xs q f)) (turn t x u (reached steps I (λ u x w i e. (turn u x w i e).0) xs s t i y) e).1;
}

-- the test of the first entries of a list, by their places in it
pub all-of-taken : {A : Type 0} (p : A → Bool) (k n : ℕ) (xs : List A) (d : A) → k ≡ n → n ≤ length xs → all (length (take k xs)) (λ i. p (get_or (take k xs) i d)) ≡ all n (λ i. p (get_or xs i d))
all-of-taken p k n xs d e h = rw (e, length-take-le n xs h) (all-cong n _ _ (λ i l. ap p (get_or-take n xs i d l)))
