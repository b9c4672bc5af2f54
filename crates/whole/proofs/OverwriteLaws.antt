-- A list written over another: lengths, numbers, and the parts of equal width w into which the list is divided.
use mathlib.Core.Path.{◌≡◌, refl, sym, ap, ◌∙◌}
use mathlib.Core.List.{List, [], ◌∷◌, ◌++◌, append_assoc}
use mathlib.Core.Logic.{◌≢◌}
use Prim.Native.Nat.{ℕ, zero, suc, ◌+◌, ◌*◌, ◌-◌, ◌≤◌, ◌<◌, min}
use native.Mathlib.Nat.{suc-mul, mul-le-mul_right}
use native.Mathlib.Decide.{dec_lt}
use native.Mathlib.Numerals.{add-one}
use native.Mathlib.Omega.{arith}
use lib.ListN.{length, get_or, set, take, drop, take-append-drop, replicate, replicate-append-replicate, length-replicate, length-append, length-take, length-drop, get_or-append}
use lib.Seq.{set_split, take-take, take-add, drop-drop, drop-append-le, length-take-le, drop_at, take_at, get_or-append-add, get_or-take, get_or-drop, ext_get_or}
use Rattle.whole.specs.Table.{table, overwrite}
use Rattle.whole.proofs.TableLaws.{length-table}

-- part s of width w ends within parts 0 .. n − 1
pub part_room : (w : ℕ) {s n : ℕ} → s < n → s * w + w ≤ n * w
part_room w {s} {n} h = omega (arith, mul-le-mul_right w h, suc-mul s w)

-- ---- a lent part of a list
module _ {ℓ} {A : Type ℓ} (w s k : ℕ) (l : List A) where
  pub part_at : (i : ℕ) (d : A) → k ≡ w → i < w → get_or (take k (drop s l)) i d ≡ get_or l (s + i) d
  part_at i d e h = rw e (get_or-take w (drop s l) i d h ∙ get_or-drop s l i d)

  pub part-size : k ≡ w → s + w ≤ length l → length (take k (drop s l)) ≡ w
  part-size e h = rw (e, length-take, length-drop) (omega arith)

module _ {ℓ} {A : Type ℓ} (n : ℕ) (ys xs : List A) (room : n + length ys ≤ length xs) where
  length_front : length (take n xs) ≡ n
  length_front = length-take-le n xs (omega arith)

  pub length-overwrite : length (overwrite n ys xs) ≡ length xs
  unfolding overwrite
  length-overwrite = simp (length-append, length-drop) (omega (arith, length_front))

  pub overwrite-below : (d : A) (i : ℕ) → i < n → get_or (overwrite n ys xs) i d ≡ get_or xs i d
  unfolding overwrite
  overwrite-below d i h = get_or-append (take n xs) (ys ++ drop (length ys) (drop n xs)) d i (omega (arith, length_front)) ∙ get_or-take n xs i d h

  -- the numbers from n on
  from-n : (d : A) (j : ℕ) → get_or (overwrite n ys xs) (n + j) d ≡ get_or (ys ++ drop (length ys) (drop n xs)) j d
  unfolding overwrite
  from-n d j = ap (λ x. get_or (overwrite n ys xs) (x + j) d) (sym length_front) ∙ get_or-append-add (take n xs) (ys ++ drop (length ys) (drop n xs)) j d

  pub overwrite-inside : (d : A) (j : ℕ) → j < length ys → get_or (overwrite n ys xs) (n + j) d ≡ get_or ys j d
  overwrite-inside d j h = from-n d j ∙ get_or-append ys (drop (length ys) (drop n xs)) d j h

  pub overwrite-above : (d : A) (j : ℕ) → get_or (overwrite n ys xs) (n + (length ys + j)) d ≡ get_or xs (n + (length ys + j)) d
  overwrite-above d j = from-n d (length ys + j) ∙ get_or-append-add ys (drop (length ys) (drop n xs)) j d ∙ get_or-drop (length ys) (drop n xs) j d ∙ get_or-drop n xs (length ys + j) d

-- ---- the list in parts of width w; part s is replaced
module _ {ℓ} {A : Type ℓ} (w s : ℕ) (ys xs : List A) (width : length ys ≡ w) (room : s * w + w ≤ length xs) where
  room-ys : s * w + length ys ≤ length xs
  room-ys = omega arith

  pub length-replaced : length (overwrite (s * w) ys xs) ≡ length xs
  length-replaced = length-overwrite (s * w) ys xs room-ys

  pub number_same : (d : A) (k : ℕ) → k < w → get_or (overwrite (s * w) ys xs) (s * w + k) d ≡ get_or ys k d
  number_same d k h = overwrite-inside (s * w) ys xs room-ys d k (omega arith)

  pub number-other : (d : A) (s' k : ℕ) → s ≢ s' → k < w → get_or (overwrite (s * w) ys xs) (s' * w + k) d ≡ get_or xs (s' * w + k) d
  number-other d s' k ne hk = go (dec_lt s' s)
    where
      go : Dec (s' < s) → get_or (overwrite (s * w) ys xs) (s' * w + k) d ≡ get_or xs (s' * w + k) d
      go (yes l) = overwrite-below (s * w) ys xs room-ys d (s' * w + k) (omega (arith, part_room w {s = s'} {n = s} l))
      go (no l) =
          let e : s' * w + k ≡ s * w + (length ys + (s' * w + k - (s * w + w))) = omega (arith, ne, part_room w {s = s} {n = s'} (omega (arith, ne))) in
          ap (λ x. get_or (overwrite (s * w) ys xs) x d) e ∙ overwrite-above (s * w) ys xs room-ys d (s' * w + k - (s * w + w)) ∙ ap (λ x. get_or xs x d) (sym e)

  pub part_same : take w (drop (s * w) (overwrite (s * w) ys xs)) ≡ ys
  unfolding overwrite
  part_same = ap (take w) (drop_at (take (s * w) xs) (ys ++ drop (length ys) (drop (s * w) xs)) (s * w) (length_front (s * w) ys xs room-ys)) ∙ take_at ys (drop (length ys) (drop (s * w) xs)) w width

  pub part-other : (d : A) (s' : ℕ) → s ≢ s' → take w (drop (s' * w) (overwrite (s * w) ys xs)) ≡ take w (drop (s' * w) xs)
  part-other d s' ne = ext_get_or d (take w (drop (s' * w) new)) (take w (drop (s' * w) xs))
      (length-take w (drop (s' * w) new) ∙ ap (min w) (length-drop (s' * w) new ∙ ap (λ x. x - s' * w) length-replaced ∙ sym (length-drop (s' * w) xs)) ∙ sym (length-take w (drop (s' * w) xs)))
      (λ i h. let k : i < w = omega (arith, length-take w (drop (s' * w) new)) in
      read new i k ∙ number-other d s' i ne k ∙ sym (read xs i k))
    where
      new : List A
      new = overwrite (s * w) ys xs

      read : (l : List A) (i : ℕ) → i < w → get_or (take w (drop (s' * w) l)) i d ≡ get_or l (s' * w + i) d
      read l i k = get_or-take w (drop (s' * w) l) i d k ∙ get_or-drop (s' * w) l i d

-- ---- written over the front
module _ {ℓ} {A : Type ℓ} where
  pub front-is : (ys xs : List A) → overwrite 0 ys xs ≡ ys ++ drop (length ys) xs
  unfolding overwrite
  front-is ys xs = refl

  -- a loop that filled the first n entries
  pub filled-front : (n : ℕ) (f : ℕ → A) (l : List A) → table n f ++ drop n l ≡ overwrite 0 (table n f) l
  filled-front n f l = ap (λ k. table n f ++ drop k l) (sym (length-table n f)) ∙ sym (front-is (table n f) l)

  pub table-const : (n : ℕ) (a : A) → table n (λ _. a) ≡ replicate n a
  unfolding table
  table-const zero a = refl
  table-const (suc n) a = ap (λ l. l ++ (a ∷ [])) (table-const n a) ∙ replicate-append-replicate n 1 a ∙ ap (λ k. replicate k a) (add-one n)

  -- the same value over the first n, as the library's `fill` leaves it
  pub filled-part : (n : ℕ) (a : A) (l p : List A) → n ≤ length l → p ≡ replicate (length (take n l)) a → p ++ drop n l ≡ overwrite 0 (replicate n a) l
  filled-part n a l p h e = rw (e, length-take-le n l h) (ap (λ m. replicate n a ++ drop m l) (sym (length-replicate n a)) ∙ sym (front-is (replicate n a) l))

  -- a list with ys in front, and beyond it the numbers of xs
  pub front-written : (d : A) (ys xs new : List A) → length new ≡ length xs → length ys ≤ length xs → ((i : ℕ) → i < length ys → get_or new i d ≡ get_or ys i d)
      → ((i : ℕ) → length ys ≤ i → get_or new i d ≡ get_or xs i d) → new ≡ overwrite 0 ys xs
  front-written d ys xs new size room front beyond = ext_get_or d new (overwrite 0 ys xs) (size ∙ sym (length-overwrite 0 ys xs fits)) (λ i l. go i (dec_lt i (length ys)))
    where
      fits : 0 + length ys ≤ length xs
      fits = omega arith

      here : (i j : ℕ) → i ≡ j → get_or (overwrite 0 ys xs) j d ≡ get_or (overwrite 0 ys xs) i d
      here i j e = ap (λ k. get_or (overwrite 0 ys xs) k d) (sym e)

      go : (i : ℕ) → Dec (i < length ys) → get_or new i d ≡ get_or (overwrite 0 ys xs) i d
      go i (yes l) = front i l ∙ sym (overwrite-inside 0 ys xs fits d i l) ∙ here i (0 + i) (omega arith)
      go i (no l) =
          let n : i ≡ 0 + (length ys + (i - length ys)) = omega arith in
          beyond i (omega arith) ∙ ap (λ k. get_or xs k d) n ∙ sym (overwrite-above 0 ys xs fits d (i - length ys)) ∙ here i (0 + (length ys + (i - length ys))) n

-- a part written within a part: b numbers into the n from place a on
pub overwrite-part : {A : Type 0} (a n b : ℕ) (x l : List A) → a + n ≤ length l → b + length x ≤ n
    → overwrite a (overwrite b x (take n (drop a l))) l ≡ overwrite (a + b) x l
unfolding overwrite
overwrite-part a n b x l room fits =
    let d = drop a l in
    let p = take n d in
    let w = length x in
    let len : length p ≡ n = length-take-le n d (omega (arith, length-drop a l)) in
    let all : length (overwrite b x p) ≡ n = length-overwrite b x p (omega (arith, len)) ∙ len in
    let front : take b p ≡ take b d = take-take b n d (omega arith) in
    let back : drop w (drop b p) ++ drop n d ≡ drop w (drop (a + b) l) =
    ap (λ y. y ++ drop n d) (drop-drop w b p) ∙ sym (drop-append-le (b + w) p (drop n d) (omega (arith, len)))
    ∙ ap (drop (b + w)) (take-append-drop n d) ∙ sym (drop-drop w b d) ∙ ap (drop w) (drop-drop b a l) in
    rw (all, front, take-add a b l) (simp append_assoc (ap (λ y. take a l ++ (take b d ++ (x ++ y))) back))

-- one number that is set is a list of one that is written
pub set-is : {A : Type 0} (n : ℕ) (a : A) (l : List A) → n < length l → set l n a ≡ overwrite n (a ∷ []) l
unfolding overwrite
set-is n a l h = set_split l n a h ∙ ap (λ r. take n l ++ (a ∷ r)) (ap (λ m. drop m l) (sym (add-one n)) ∙ sym (drop-drop 1 n l))

-- a list written over one of the same length
overwrite-again : {A : Type 0} (n : ℕ) (x y l : List A) → length x ≡ length y → n + length x ≤ length l → overwrite n y (overwrite n x l) ≡ overwrite n y l
unfolding overwrite
overwrite-again n x y l same room =
    let rest = x ++ drop (length x) (drop n l) in
    let len : length (take n l) ≡ n = length-take-le n l (omega arith) in
    let back : drop (length y) rest ≡ drop (length y) (drop n l) = drop_at x (drop (length x) (drop n l)) (length y) same ∙ ap (λ m. drop m (drop n l)) same in
    rw (take_at (take n l) rest n len, drop_at (take n l) rest n len, back) refl

-- two lists written in turn within part s of width w: x from its place b on, and then y from c on
pub overwrite-two : {A : Type 0} (s w b c : ℕ) (x y l : List A) → s * w + w ≤ length l → b + length x ≤ w → c + length y ≤ w
    → overwrite (s * w) (overwrite c y (overwrite b x (take w (drop (s * w) l)))) l ≡ overwrite (s * w + c) y (overwrite (s * w + b) x l)
overwrite-two s w b c x y l room first second =
    let p = take w (drop (s * w) l) in
    let q = overwrite b x p in
    let m = overwrite (s * w) q l in
    let size : length p ≡ w = length-take-le w (drop (s * w) l) (omega (arith, length-drop (s * w) l)) in
    let width : length q ≡ w = length-overwrite b x p (omega (arith, size)) ∙ size in
    let long : length m ≡ length l = length-overwrite (s * w) q l (omega (arith, width)) in
    let other : length (overwrite c y q) ≡ w = length-overwrite c y q (omega (arith, width)) ∙ width in
    sym (overwrite-again (s * w) q (overwrite c y q) l (width ∙ sym other) (omega (arith, width)))
    ∙ ap (λ r. overwrite (s * w) (overwrite c y r) m) (sym (part_same w s q l width room))
    ∙ overwrite-part (s * w) w c y m (omega (arith, long)) second
    ∙ ap (overwrite (s * w + c) y) (overwrite-part (s * w) w b x l room first)
