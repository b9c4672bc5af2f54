-- Laws of tables: their length, a number of theirs, and one more entry.
use mathlib.Core.Path.{◌≡◌, refl, sym, ap, subst, ◌∙◌}
use mathlib.Core.List.{List, [], ◌∷◌, ◌++◌, append_assoc, append-nil}
use Prim.Native.Nat.{ℕ, zero, suc, ◌+◌, ◌*◌, ◌/◌, ◌%◌, ◌≤◌, ◌<◌}
use native.Mathlib.Nat.{add-zero, add-suc, mul-one, suc-mul, zero-mul}
use native.Mathlib.Decide.{ℕ_discrete, dec_lt}
use native.Mathlib.Numerals.{add-one}
use native.Mathlib.Omega.{arith}
use lib.Arith.{digits_lt, digits_div, digits_mod}
use lib.ListN.{length, get_or, set, take, drop, length-drop, drop_of_length-le, length-append, get_or-append, get_or-eq_default}
use lib.Seq.{get_or-append-add, drop-cons, set_at, take_at, drop_at, drop-drop, take-suc}
use Rattle.whole.specs.Table.{blocks, table}

module _ {ℓ} {A : Type ℓ} where
  pub blocks_more : (n : ℕ) (f : ℕ → List A) → blocks (n + 1) f ≡ blocks n f ++ f n
  unfolding blocks
  blocks_more n f = rw (add-one n)

  pub table_more : (n : ℕ) (f : ℕ → A) → table (n + 1) f ≡ table n f ++ (f n ∷ [])
  unfolding table
  table_more n f = rw (add-one n)

  -- a table is blocks of one number each
  pub table-blocks : (n : ℕ) (f : ℕ → A) → table n f ≡ blocks n (λ i. f i ∷ [])
  unfolding table blocks
  table-blocks zero f = refl
  table-blocks (suc n) f = ap (λ l. l ++ (f n ∷ [])) (table-blocks n f)

  module _ (w : ℕ) (f : ℕ → List A) (each : (e : ℕ) → length (f e) ≡ w) where
    pub length-blocks : (n : ℕ) → length (blocks n f) ≡ n * w
    unfolding blocks
    length-blocks zero = omega arith
    length-blocks (suc n) = length-append (blocks n f) (f n) ∙ omega (arith, length-blocks n, each n, suc-mul n w)

    pub get_d-blocks : (n e k : ℕ) (d : A) → e < n → k < w → get_or (blocks n f) (e * w + k) d ≡ get_or (f e) k d
    unfolding blocks
    get_d-blocks zero e k d he hk = let c : ⊥ = omega arith in absurd c
    get_d-blocks (suc n) e k d he hk = go (ℕ_discrete e n) (λ l. get_d-blocks n e k d l hk)
      where
        here : get_or (blocks n f ++ f n) (n * w + k) d ≡ get_or (f n) k d
        here = ap (λ x. get_or (blocks n f ++ f n) (x + k) d) (sym (length-blocks n)) ∙ get_or-append-add (blocks n f) (f n) k d

        go : Dec (e ≡ n) → (e < n → get_or (blocks n f) (e * w + k) d ≡ get_or (f e) k d) → get_or (blocks n f ++ f n) (e * w + k) d ≡ get_or (f e) k d
        go (yes q) ih = ap (λ x. get_or (blocks n f ++ f n) (x * w + k) d) q ∙ here ∙ ap (λ x. get_or (f x) k d) (sym q)
        go (no ne) ih = let l : e < n = omega (arith, ne) in
            get_or-append (blocks n f) (f n) d (e * w + k) (omega (arith, digits_lt l hk, length-blocks n)) ∙ ih l

  pub length-table : (n : ℕ) (f : ℕ → A) → length (table n f) ≡ n
  length-table n f = ap length (table-blocks n f) ∙ length-blocks 1 (λ i. f i ∷ []) (λ e. refl) n ∙ mul-one n

  pub get_d-table : (n : ℕ) (f : ℕ → A) (i : ℕ) (d : A) → i < n → get_or (table n f) i d ≡ f i
  get_d-table n f i d h = ap (λ l. get_or l i d) (table-blocks n f) ∙ ap (λ x. get_or (blocks n (λ i. f i ∷ [])) x d) (sym (add-zero (i * 1) ∙ mul-one i))
      ∙ get_d-blocks 1 (λ i. f i ∷ []) (λ e. refl) n i 0 d h (omega arith)

  pub table-cong : (n : ℕ) (f g : ℕ → A) → ((i : ℕ) → i < n → f i ≡ g i) → table n f ≡ table n g
  unfolding table
  table-cong zero f g h = refl
  table-cong (suc n) f g h = λ i. table-cong n f g (λ j l. h j (omega arith)) i ++ (h n (omega arith) i ∷ [])

  pub blocks-cong : (n : ℕ) (f g : ℕ → List A) → ((i : ℕ) → i < n → f i ≡ g i) → blocks n f ≡ blocks n g
  unfolding blocks
  blocks-cong zero f g h = refl
  blocks-cong (suc n) f g h = λ i. blocks-cong n f g (λ j l. h j (omega arith)) i ++ h n (omega arith) i

  -- the table of a list's own first entries
  pub table-take : (n : ℕ) (l : List A) (d : A) → n ≤ length l → table n (λ i. get_or l i d) ≡ take n l
  unfolding table
  table-take zero l d h = refl
  table-take (suc n) l d h = ap (λ x. x ++ (get_or l n d ∷ [])) (table-take n l d (omega arith)) ∙ sym (take-suc l n d (omega arith))

  -- a statement on every entry and on what stands for an entry that is not there
  pub table-all : (P : A → Type 0) (n : ℕ) (f : ℕ → A) (d : A) → P d → ((i : ℕ) → i < n → P (f i)) → (i : ℕ) → P (get_or (table n f) i d)
  table-all P n f d none all' i = go (dec_lt i n)
    where
      go : Dec (i < n) → P (get_or (table n f) i d)
      go (yes h) = subst P (sym (get_d-table n f i d h)) (all' i h)
      go (no h) = subst P (sym (get_or-eq_default (table n f) d (omega (arith, length-table n f)))) none

  -- blocks of equal width, each a table, are one table
  pub blocks-table : (w : ℕ) (f : ℕ → ℕ → A) → 0 < w → (n : ℕ) → blocks n (λ e. table w (f e)) ≡ table (n * w) (λ i. f (i / w) (i % w))
  unfolding blocks table
  blocks-table w f h zero = sym (ap (λ k. table k (λ i. f (i / w) (i % w))) (zero-mul w))
  blocks-table w f h (suc n) = ap (λ l. l ++ table w (f n)) (blocks-table w f h n) ∙ joined w (λ r l. l) ∙ sym (ap (λ k. table k (λ i. f (i / w) (i % w))) (suc-mul n w))
    where
      joined : (m : ℕ) → ((r : ℕ) → r < m → r < w) → table (n * w) (λ i. f (i / w) (i % w)) ++ table m (f n) ≡ table (n * w + m) (λ i. f (i / w) (i % w))
      joined zero k = append-nil _ ∙ sym (ap (λ k. table k (λ i. f (i / w) (i % w))) (add-zero (n * w)))
      joined (suc m) k =
          let r : m < w = k m (omega arith) in
          sym (append_assoc (table (n * w) (λ i. f (i / w) (i % w))) (table m (f n)) (f n m ∷ [])) ∙ (λ i. joined m (λ r l. k r (omega arith)) i ++ (f (sym (digits_div n r) i) (sym (digits_mod n r) i) ∷ []))
          ∙ sym (ap (λ k. table k (λ i. f (i / w) (i % w))) (add-suc (n * w) m))

  -- ---- a loop that fills a list from the front: the first n entries are the table's, the others as they were
  pub fill_more : (n : ℕ) (f : ℕ → A) (l : List A) → n < length l → set (table n f ++ drop n l) n (f n) ≡ table (n + 1) f ++ drop (n + 1) l
  fill_more n f l h = ap (λ x. set (table n f ++ x) n (f n)) (drop-cons l n (f n) h) ∙ set_at (table n f) (get_or l n (f n)) (drop (suc n) l) (f n) n (length-table n f)
      ∙ sym (rw (table_more n f, add-one n) (append_assoc (table n f) (f n ∷ []) (drop (suc n) l)))

  -- the same for a list p that is so filled, and a value x that is the table's
  pub fill-next : (n : ℕ) (f : ℕ → A) (l p : List A) (x : A) → p ≡ table n f ++ drop n l → n < length l → x ≡ f n → set p n x ≡ table (n + 1) f ++ drop (n + 1) l
  fill-next n f l p x e h q = (λ i. set (e i) n (q i)) ∙ fill_more n f l h

  -- and the last entry of the list is set
  pub fill-last : (n : ℕ) (f : ℕ → A) (l : List A) (x : A) → length l ≡ n + 1 → set (table n f ++ drop n l) n x ≡ table n f ++ (x ∷ [])
  fill-last n f l x h = ap (λ y. set (table n f ++ y) n x) (drop-cons l n x (omega arith)) ∙ set_at (table n f) (get_or l n x) (drop (suc n) l) x n (length-table n f)
      ∙ ap (λ y. table n f ++ (x ∷ y)) (drop_of_length-le l {i = suc n} (omega arith))

  -- a loop that fills a list by blocks of width w: block e is written where the first e blocks end
  pub fill-block : (w : ℕ) (f : ℕ → List A) (each : (e : ℕ) → length (f e) ≡ w) (e k : ℕ) (x l p : List A) → k ≡ w → x ≡ f e → p ≡ blocks e f ++ drop (e * w) l
      → take (e * w) p ++ (x ++ drop k (drop (e * w) p)) ≡ blocks (e + 1) f ++ drop ((e + 1) * w) l
  fill-block w f each e k x l p hk hx hp =
      let front : take (e * w) p ≡ blocks e f = rw hp (take_at (blocks e f) (drop (e * w) l) (e * w) (length-blocks w f each e)) in
      let back : drop (e * w) p ≡ drop (e * w) l = rw hp (drop_at (blocks e f) (drop (e * w) l) (e * w) (length-blocks w f each e)) in
      let n : e * w + w ≡ (e + 1) * w = sym (rw (add-one e) (suc-mul e w)) in
      rw (front, back, hk, hx, blocks_more e f) (ap (λ y. blocks e f ++ (f e ++ y)) (drop-drop w (e * w) l ∙ ap (λ m. drop m l) n) ∙ sym (append_assoc (blocks e f) (f e) (drop ((e + 1) * w) l)))

  -- the length of a list whose first e blocks are filled
  pub length-filled : (w : ℕ) (f : ℕ → List A) (each : (e : ℕ) → length (f e) ≡ w) (e : ℕ) (l : List A) → e * w ≤ length l → length (blocks e f ++ drop (e * w) l) ≡ length l
  length-filled w f each e l h = length-append (blocks e f) (drop (e * w) l) ∙ omega (arith, length-blocks w f each e, length-drop (e * w) l)
