-- Numbers that are lent in parts of nine or ten: what is loaded, weighed and closed is what the whole list says, because number i of a
-- part is number start + i of the list.
use mathlib.Core.Path.{◌≡◌, refl, sym, ap, ◌∙◌}
use mathlib.Core.List.{List, [], ◌∷◌, ◌++◌}
use Prim.Native.Nat.{ℕ, ◌+◌, ◌*◌, ◌-◌, ◌/◌, ◌≤◌, ◌<◌, ◌^◌}
use native.Mathlib.Nat.{zero-add}
use native.Mathlib.Omega.{arith}
use lib.IntN.{ℤ, pos}
use mir.Syntax.{w32}
use mir.Val.{Fits}
use lib.ListN.{length, get_or, take, drop}
use Rattle.whole.specs.Table.{table, at}
use Rattle.std.specs.List.{sum_by}
use Rattle.whole.specs.Sum.{sum}
use Rattle.whole.proofs.ChainSums.{sum_by-places}
use Rattle.whole.proofs.SumLaws.{sum-le-each, sum-cong}
use lib.Seq.{length-take-le, get_or-take}
use Rattle.std.proofs.Common.{length-drop}
use Rattle.std.specs.Simd.{first_chunks}
use Rattle.whole.proofs.ListParts.{chunk-at, either-default}
use Rattle.whole.proofs.OverwriteLaws.{part_at, part_room}
use Rattle.whole.proofs.TableLaws.{table-all, get_d-table, table-cong}
use Rattle.rules.specs.Field.{quadratic, element_length, cell, weighted, mass, limit}
use Rattle.rules.specs.Limiter.{closed, closed_unlevelled}
use Rattle.rules.specs.Calls.{loaded_value, loaded_element, emitted, withdrawn}
use Rattle.rules.proofs.LimiterLaws.{closed-cong, unlevelled-cong}
use Rattle.rules.proofs.PartLaws.{value-le-mass, length-loaded-element}
use Rattle.rules.proofs.QuadraticLaws.{weights-above}
use Rattle.rules.specs.Sizes.{closing_size}
use Rattle.rules.specs.Sizes.{most_elements}
use Rattle.std.proofs.lemmas.Nat.{le-div}
use Rattle.whole.specs.Bound.{Within, AllWithin}
use Rattle.whole.proofs.BoundLaws.{within-le, within-pos}
use Rattle.field_elements.specs.Weighing.{number_weight, weighed}
use Rattle.field_layout.proofs.PlaceLaws.{ten}
use Rattle.field_elements.proofs.ElementLaws.{node-number, weighs-small}

-- ---- the nine numbers of element e of a load
module _ (l : List ℕ) (e k : ℕ) (nine : k ≡ 9) where
  lent : (i : ℕ) → i < 9 → get_or (take k (drop (e * 9) l)) (0 + i) 0 ≡ get_or l (e * 9 + i) 0
  lent i h = ap (λ n. get_or (take k (drop (e * 9) l)) n 0) (zero-add i) ∙ part_at 9 (e * 9) k l i 0 nine h

  pub loaded-part : loaded_element quadratic (take k (drop (e * 9) l)) 0 ≡ loaded_element quadratic l e
  unfolding loaded_element loaded_value quadratic
  loaded-part = ap (λ t. t ++ (0 ∷ [])) (table-cong 9 (λ i. get_or (take k (drop (e * 9) l)) (0 * 9 + i) 0) (λ i. get_or l (e * 9 + i) 0) lent)

-- what a list of numbers weighs, and numbers that are cut out of one
abbrev pub chunk-weight : List ℕ → ℕ
chunk-weight x = weighed quadratic x 0 (length x)

weighed-taken : (n : ℕ) (l : List ℕ) (at : ℕ) → weighed quadratic (take n (drop at l)) 0 n ≡ weighed quadratic l at n
unfolding weighed
weighed-taken n l at = sum-cong n (λ v. number_weight quadratic v * get_or (take n (drop at l)) (0 + v) 0) (λ v. number_weight quadratic v * get_or l (at + v) 0)
    (λ v h. ap (λ x. number_weight quadratic v * x) (ap (λ i. get_or (take n (drop at l)) i 0) (zero-add v) ∙ part_at n at n l v 0 refl h))

-- nine numbers are a load's element, ten a part's
pub nine-loaded : (l : List ℕ) (e : ℕ) → weighed quadratic l (e * 9) 9 ≡ weighted quadratic (loaded_value quadratic l e)
unfolding weighed weighted loaded_value quadratic
nine-loaded l e = sum-cong 9 (λ v. number_weight quadratic v * get_or l (e * 9 + v) 0) (λ v. quadratic.weight v * get_or l (e * 9 + v) 0) (λ v h. ap (λ w. w * get_or l (e * 9 + v) 0) (node-number quadratic v h))

-- ---- chunks of `width` numbers, as the library's `as_chunks` lends them
module _ (width : ℕ) (l : List ℕ) (cs : List (List ℕ)) (n : ℕ) (same : cs ≡ first_chunks width (length l / width) l) (long : length cs ≡ length l / width) (room : n * width ≤ length l) (above : 0 < width) where
  chunks : n ≤ length cs
  chunks = omega (arith, le-div n (length l) width above room)

  -- chunk e of the first n
  pub lent-chunk : (e : ℕ) → e < length (take n cs) → (e < n) × (get_or (take n cs) e [] ≡ take width (drop (e * width) l))
  lent-chunk e h =
      let k : e < n = omega (arith, length-take-le n cs chunks) in
      (k, get_or-take n cs e [] k ∙ ap (λ x. get_or x e []) same ∙ chunk-at width (length l / width) e l (omega (arith, long, chunks)))

  pub wide-chunk : (e : ℕ) (x : List ℕ) → e < length (take n cs) → x ≡ get_or (take n cs) e x → length x ≡ width
  wide-chunk e x h q =
      let k = lent-chunk e h in
      ap length (q ∙ either-default (take n cs) e x [] h ∙ k.1) ∙ length-take-le width (drop (e * width) l) (omega (arith, length-drop (e * width) l, part_room width k.0))

  -- a chain that weighs each of them
  pub weighed-chunks : sum_by chunk-weight (take n cs) ≡ sum n (λ e. weighed quadratic l (e * width) width)
  weighed-chunks =
      let many : length (take n cs) ≡ n = length-take-le n cs chunks in
      sum_by-places chunk-weight (take n cs) []
      ∙ ap (λ m. sum m (λ e. chunk-weight (get_or (take n cs) e []))) many
      ∙ sum-cong n (λ e. chunk-weight (get_or (take n cs) e [])) (λ e. weighed quadratic l (e * width) width) (λ e h.
      let x = take width (drop (e * width) l) in
      let wide : length x ≡ width = length-take-le width (drop (e * width) l) (omega (arith, length-drop (e * width) l, part_room width h)) in
      ap chunk-weight (lent-chunk e (omega arith)).1 ∙ ap (weighed quadratic x 0) wide ∙ weighed-taken width l (e * width))

  pub weighed-small : width ≤ 10 → n ≤ most_elements → ((i : ℕ) → Fits w32 (get_or l i 0)) → sum n (λ e. weighed quadratic l (e * width) width) < 2 ^ 64
  unfolding weighed
  weighed-small w m f = omega (
    arith,
    sum-le-each n (10 * (16 * 2 ^ 32)) (λ e. weighed quadratic l (e * width) width)
        (λ e _. omega (arith, sum-le-each width (16 * 2 ^ 32) (λ v. number_weight quadratic v * get_or l (e * width + v) 0) (λ v _. weighs-small v refl (f (e * width + v))))),
  )

pub loaded-length : (l : List ℕ) (e : ℕ) → length (loaded_element quadratic l e) ≡ 10
loaded-length l e = length-loaded-element quadratic l e ∙ ten

-- ---- an element's own values, as the closing takes them
module _ (p : List ℕ) where
  abbrev own : List ℤ
  own = table 9 (λ k. pos (get_or p k 0))

  first_cell : (k : ℕ) → cell quadratic p 0 k ≡ get_or p k 0
  unfolding cell element_length quadratic
  first_cell k = ap (λ n. get_or p n 0) (zero-add k)

  pub own-within : mass quadratic p 0 ≤ limit → AllWithin closing_size own
  unfolding quadratic
  own-within b = record {
    all = table-all (Within closing_size) 9 (λ k. pos (get_or p k 0)) (pos 0) (within-le (within-pos 0) (omega arith))
        (λ k h. record { within = omega (arith, first_cell k, value-le-mass quadratic p 0 k h (weights-above k h)) });
  }

  own_at : (k : ℕ) → k < 9 → at own k ≡ pos (cell quadratic p 0 k)
  own_at k h = get_d-table 9 (λ k. pos (get_or p k 0)) k (pos 0) h ∙ ap pos (sym (first_cell k))

  pub emitted-is : (q : ℕ) → closed quadratic (at own) (mass quadratic p 0 + q) ≡ emitted quadratic 0 q p
  unfolding emitted quadratic
  emitted-is q = closed-cong quadratic (at own) (λ k. pos (cell quadratic p 0 k)) (mass quadratic p 0 + q) own_at

  pub withdrawn-is : (q : ℕ) → closed_unlevelled quadratic (at own) (mass quadratic p 0 - q) ≡ withdrawn quadratic 0 q p
  unfolding withdrawn quadratic
  withdrawn-is q = unlevelled-cong quadratic (at own) (λ k. pos (cell quadratic p 0 k)) (mass quadratic p 0 - q) own_at
