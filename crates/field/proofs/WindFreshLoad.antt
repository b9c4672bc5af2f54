-- Which tests lead to which answer of wind, fresh and load, and what the buffers are after it.
use mathlib.Core.Path.{◌≡◌, refl, sym, ap, subst, ◌∙◌}
use mathlib.Core.Bool.{true, false}
use mathlib.Core.List.{List, [], ◌∷◌, ◌++◌}
use Prim.Native.Nat.{ℕ, ◌+◌, ◌-◌, ◌*◌, ◌≤◌, ◌<◌}
use native.Mathlib.Omega.{arith}
use borrow.Author.Tests.{lt-leb, le-leb, lt-ltb, le-ltb}
use lib.IntN.{ℤ, pos}
use lib.ListN.{length, set, replicate, take, drop}
use Rattle.whole.specs.Sum.{sum}
use Rattle.whole.specs.Table.{blocks, overwrite}
use Rattle.whole.proofs.SumLaws.{sum-cong}
use Rattle.whole.proofs.OverwriteLaws.{length-overwrite, set-is}
use Rattle.whole.proofs.ListParts.{overwrite-next}
use Rattle.rules.specs.declared.Shape.{Shape}
use Rattle.rules.specs.declared.Face.{Face}
use Rattle.rules.specs.Answers.{Answer, accepted, refused, answer, after, mapped, plain}
use Rattle.rules.specs.Field.{quadratic, admitted, elements, faces, on_grid, part_length, field_length, with_part, part_of, weighted, mass, total, limit, elements_length, wind_in_range}
use Rattle.rules.specs.Grid.{face_index}
use Rattle.rules.specs.Calls.{one_face, wind_reply, new_wind, wind_after, fresh_reply, fresh_field, fresh_wind, zero_field, zero_wind, load, loaded, loaded_element, loaded_value, lent_enough, checks, done, call}
use Rattle.rules.proofs.PartLaws.{length-loaded-element}
use Rattle.rules.proofs.StoredLaws.{length-all, total-made, mass-loaded}

-- ---- wind
module _ (g : Shape) (f : Face) (w : List ℤ) where
  abbrev WindAnswered : Answer (Unit {0}) → List ℤ → Type 0
  WindAnswered a new = (a ≡ wind_reply g (one_face f) w) × (new ≡ wind_after g (one_face f) w)

  pub wind-2 : admitted g ≡ false → WindAnswered (refused 2) w
  unfolding wind_reply wind_after answer after
  wind-2 a = rw a (refl, refl)

  pub wind-4 : admitted g ≡ true → length w < faces g → WindAnswered (refused 4) w
  unfolding wind_reply wind_after answer after
  wind-4 a l = rw (a, lt-leb (faces g) (length w) l) (refl, refl)

  pub wind-5 : admitted g ≡ true → faces g ≤ length w → wind_in_range f.wind ≡ false → WindAnswered (refused 5) w
  unfolding wind_reply wind_after answer after
  wind-5 a l r = rw (a, le-leb (faces g) (length w) l, r) (refl, refl)

  pub wind-8 : admitted g ≡ true → faces g ≤ length w → wind_in_range f.wind ≡ true → on_grid g f.i f.j ≡ false → WindAnswered (refused 8) w
  unfolding wind_reply wind_after answer after
  wind-8 a l r o = rw (a, le-leb (faces g) (length w) l, r, o) (refl, refl)

  pub wind-done : admitted g ≡ true → faces g ≤ length w → wind_in_range f.wind ≡ true → on_grid g f.i f.j ≡ true
      → WindAnswered (accepted tt) (set w (face_index g f.way f.i f.j) f.wind)
  unfolding wind_reply new_wind wind_after answer after
  wind-done a l r o = rw (a, le-leb (faces g) (length w) l, r, o) (refl, refl)

-- what is given on the grid of a shape is given on the shape
pub wind-on-shape : {a : Answer (Unit {0})} {new : List ℤ} {g h : Shape} (f : Face) (w : List ℤ) → g ≡ h → (a ≡ wind_reply g (one_face f) w) × (new ≡ wind_after g (one_face f) w) → (a ≡ wind_reply h (one_face f) w) × (new ≡ wind_after h (one_face f) w)
wind-on-shape {a} {new} f w e p = subst (λ k. (a ≡ wind_reply k (one_face f) w) × (new ≡ wind_after k (one_face f) w)) e p

-- ---- fresh
module _ (g : Shape) (field : List ℕ) (w : List ℤ) where
  abbrev Freshened : Answer (Unit {0}) → List ℕ → List ℤ → Type 0
  Freshened a f' w' = (a ≡ fresh_reply quadratic g field w) × ((f' ≡ fresh_field quadratic g field w) × (w' ≡ fresh_wind quadratic g field w))

  pub fresh-2 : admitted g ≡ false → Freshened (refused 2) field w
  unfolding fresh_reply fresh_field fresh_wind answer after
  fresh-2 a = rw a (refl, (refl, refl))

  pub fresh-4-field : admitted g ≡ true → length field < field_length quadratic g → Freshened (refused 4) field w
  unfolding fresh_reply fresh_field fresh_wind answer after
  fresh-4-field a l = rw (a, lt-leb (field_length quadratic g) (length field) l) (refl, (refl, refl))

  pub fresh-4-wind : admitted g ≡ true → field_length quadratic g ≤ length field → length w < faces g → Freshened (refused 4) field w
  unfolding fresh_reply fresh_field fresh_wind answer after
  fresh-4-wind a l k = rw (a, le-leb (field_length quadratic g) (length field) l, lt-leb (faces g) (length w) k) (refl, (refl, refl))

  pub fresh-done : admitted g ≡ true → field_length quadratic g ≤ length field → faces g ≤ length w
      → Freshened (accepted tt) (overwrite 0 (replicate (field_length quadratic g) 0) field) (overwrite 0 (replicate (faces g) (pos 0)) w)
  unfolding fresh_reply fresh_field fresh_wind zero_field zero_wind answer after
  fresh-done a l k = rw (a, le-leb (field_length quadratic g) (length field) l, le-leb (faces g) (length w) k) (refl, (refl, refl))

-- what is given on the grid of a shape is given on the shape
pub fresh-on-shape : {a : Answer (Unit {0})} {f' : List ℕ} {w' : List ℤ} {g h : Shape} (field : List ℕ) (w : List ℤ) → g ≡ h
    → (a ≡ fresh_reply quadratic g field w) × ((f' ≡ fresh_field quadratic g field w) × (w' ≡ fresh_wind quadratic g field w))
    → (a ≡ fresh_reply quadratic h field w) × ((f' ≡ fresh_field quadratic h field w) × (w' ≡ fresh_wind quadratic h field w))
fresh-on-shape {a} {f'} {w'} field w e p = subst (λ k. (a ≡ fresh_reply quadratic k field w) × ((f' ≡ fresh_field quadratic k field w) × (w' ≡ fresh_wind quadratic k field w))) e p

-- ---- load
module _ (g : Shape) (numbers : List ℕ) where
  pub load-total : total quadratic g (loaded quadratic g numbers) ≡ sum (elements g) (λ e. weighted quadratic (loaded_value quadratic numbers e))
  unfolding total
  load-total = sum-cong (elements g) (mass quadratic (loaded quadratic g numbers)) (λ e. weighted quadratic (loaded_value quadratic numbers e)) (mass-loaded quadratic g numbers)

  -- the elements' numbers and their sum, one behind the other
  loaded-is : (p : List ℕ) (t : ℕ) → p ≡ blocks (elements g) (loaded_element quadratic numbers) → t ≡ total quadratic g (loaded quadratic g numbers) → p ++ (t ∷ []) ≡ loaded quadratic g numbers
  unfolding loaded part_of
  loaded-is p t hp ht =
      let all = blocks (elements g) (loaded_element quadratic numbers) in
      let same : t ≡ total quadratic g all = ht ∙ total-made quadratic g (loaded_element quadratic numbers) (total quadratic g all) (length-loaded-element quadratic numbers) in
      λ i. hp i ++ (same i ∷ [])

module _ (g : Shape) (s : ℕ) (numbers field : List ℕ) where
  abbrev Loaded : Answer (Unit {0}) → List ℕ → Type 0
  Loaded a new = (a ≡ plain (call quadratic g s (load numbers) field).reply) × (new ≡ (call quadratic g s (load numbers) field).field)

  pub load-2 : admitted g ≡ false → Loaded (refused 2) field
  unfolding call answer after mapped
  load-2 a = rw a (refl, refl)

  pub load-4-field : admitted g ≡ true → length field < field_length quadratic g → Loaded (refused 4) field
  unfolding call answer after mapped
  load-4-field a l = rw (a, lt-leb (field_length quadratic g) (length field) l) (refl, refl)

  pub load-4-numbers : admitted g ≡ true → field_length quadratic g ≤ length field → length numbers < elements g * 9 → Loaded (refused 4) field
  unfolding call lent_enough quadratic answer after mapped
  load-4-numbers a l k = rw (a, le-leb (field_length quadratic g) (length field) l, lt-leb (elements g * 9) (length numbers) k) (refl, refl)

  pub load-7 : admitted g ≡ true → field_length quadratic g ≤ length field → elements g * 9 ≤ length numbers → g.tracers ≤ s → Loaded (refused 7) field
  unfolding call lent_enough checks quadratic answer after mapped
  load-7 a l k t = rw (a, le-leb (field_length quadratic g) (length field) l, le-leb (elements g * 9) (length numbers) k, le-ltb s g.tracers t) (refl, refl)

  pub load-9 : admitted g ≡ true → field_length quadratic g ≤ length field → elements g * 9 ≤ length numbers → s < g.tracers
      → limit < total quadratic g (loaded quadratic g numbers) → Loaded (refused 9) field
  unfolding call lent_enough checks quadratic answer after mapped
  load-9 a l k t m = rw (a, le-leb (field_length quadratic g) (length field) l, le-leb (elements g * 9) (length numbers) k, lt-ltb s g.tracers t, lt-leb (total quadratic g (loaded quadratic g numbers)) limit m) (refl, refl)

  pub load-done : admitted g ≡ true → field_length quadratic g ≤ length field → elements g * 9 ≤ length numbers → s < g.tracers
      → total quadratic g (loaded quadratic g numbers) ≤ limit → Loaded (accepted tt) (with_part quadratic g s (loaded quadratic g numbers) field)
  unfolding call lent_enough checks done quadratic answer after mapped
  load-done a l k t m = rw (a, le-leb (field_length quadratic g) (length field) l, le-leb (elements g * 9) (length numbers) k, lt-ltb s g.tracers t, le-leb (total quadratic g (loaded quadratic g numbers)) limit m) (refl, refl)

  -- the elements that were lent and written, back in their place, which ends where the stored total stands
  module _ (at end : ℕ) (p : List ℕ) (starts : at ≡ s * part_length quadratic g) (ends : end ≡ s * part_length quadratic g + elements_length quadratic g) (made : p ≡ blocks (elements g) (loaded_element quadratic numbers)) (room : end < length field) where
    width : at + length p ≡ end
    width = omega (arith, starts, ends, ap length made ∙ length-all quadratic g (loaded_element quadratic numbers) 0 (length-loaded-element quadratic numbers))

    written : take at field ++ (p ++ drop (end - at) (drop at field)) ≡ overwrite at p field
    unfolding overwrite
    written = let k : end - at ≡ length p = omega (arith, width) in ap (λ n. take at field ++ (p ++ drop n (drop at field))) k

    long : length (take at field ++ (p ++ drop (end - at) (drop at field))) ≡ length field
    long = ap length written ∙ length-overwrite at p field (omega (arith, width, room))

    -- and their sum behind them
    pub load-back : (t : ℕ) → t ≡ total quadratic g (loaded quadratic g numbers)
        → set (take at field ++ (p ++ drop (end - at) (drop at field))) (s * part_length quadratic g + elements_length quadratic g) t ≡ with_part quadratic g s (loaded quadratic g numbers) field
    unfolding with_part
    load-back t sum_is =
        let back = take at field ++ (p ++ drop (end - at) (drop at field)) in
        ap (λ n. set back n t) (sym ends) ∙ set-is end t back (omega (arith, long, room)) ∙ ap (overwrite end (t ∷ [])) written
        ∙ overwrite-next at end p (t ∷ []) field width (omega (arith, room))
        ∙ (λ i. overwrite (starts i) (loaded-is g numbers p t made sum_is i) field)
