-- Writing: the tracers of a field, searched and written one after the other.
use mathlib.Core.Path.{◌≡◌, refl, sym, ap, ◌∙◌}
use mathlib.Core.Bool.{Bool}
use mathlib.Core.List.{List, ◌++◌}
use Prim.Native.Nat.{ℕ, ◌+◌, ◌*◌, ◌-◌, ◌/◌, ◌≤◌, ◌<◌}
use native.Mathlib.Nat.{mul-div_cancel}
use native.Mathlib.Omega.{arith}
use lib.ListN.{length, get_or, take, drop, length-append}
use lib.Seq.{length-take-le, get_or-take}
use borrow.Rule.Slice.PartMut.{put_mid}
use Rattle.file_numbers.proofs.PlaceLaws.{write-at}
use Rattle.whole.specs.Table.{blocks, overwrite}
use Rattle.whole.proofs.OverwriteLaws.{part-size, part_room, length-overwrite, front-is}
use Rattle.whole.proofs.TableLaws.{blocks_more, blocks-cong}
use Rattle.std.proofs.lemmas.List.{take-take, drop-take}
use Rattle.rules.specs.declared.Shape.{Shape}
use Rattle.rules.specs.declared.Mark.{Mark}
use Rattle.rules.specs.declared.Mark.TheVariants.{Plu2}
use Rattle.field_layout.specs.declared.grid.Grid.{Grid}
use Rattle.rules.specs.Field.{quadratic, part_length, field_length, part, sound}
use Rattle.rules.specs.Bytes.{bytes32}
use Rattle.rules.specs.FieldFile.{mark_bytes, table_start, tail}
use Rattle.file_layout.proofs.FileLaws.{shape_bytes}
use Rattle.file_layout.proofs.NumberLaws.{code32}
use Rattle.whole.proofs.ListParts.{overwrite-next, overwritten}
use Rattle.file_layout.proofs.SectionLaws.{length-section32}

-- a number of a layout of grid g with the mark "PLU2"
pub of-layout : {m : Mark} {k g : Grid} {n : ℕ} (f : Mark → Shape → ℕ) → n ≡ f m k.shape → k ≡ g → m ≡ Plu2 → n ≡ f Plu2 g.shape
of-layout f e grid mark = e ∙ (λ i. f (mark i) (grid i).shape)

-- ---- the part of tracer k, in the front of the field that its tracers take
module _ (g : Shape) (field : List ℕ) where
  part-of : (n m k : ℕ) (x : List ℕ) → n ≡ field_length quadratic g → m ≡ part_length quadratic g → k < g.tracers → x ≡ take m (drop (k * m) (take n field)) → x ≡ part quadratic g k field
  unfolding part field_length
  part-of n m k x en em h e =
      let w = part_length quadratic g in
      let room : k * w + w ≤ g.tracers * w = part_room w h in
      let q : g.tracers * w ≡ k * w + (g.tracers * w - k * w) = omega arith in
      e ∙ (λ i. take (em i) (drop (k * em i) (take (en i) field))) ∙ ap (λ t. take w (drop (k * w) (take t field))) q ∙ ap (take w) (drop-take (k * w) (g.tracers * w - k * w) field)
      ∙ take-take w (g.tracers * w - k * w) (drop (k * w) field) (omega arith)

  pub parts-many : (n m : ℕ) → n ≡ field_length quadratic g → m ≡ part_length quadratic g → 0 < m → field_length quadratic g ≤ length field → length (take n field) / m ≡ g.tracers
  unfolding field_length
  parts-many n m en em h room = ap (λ l. l / m) (length-take-le n field (omega arith) ∙ en ∙ ap (λ w. g.tracers * w) (sym em)) ∙ mul-div_cancel g.tracers h

  pub part-tested : (n m k : ℕ) (x : List ℕ) (b : Bool) → n ≡ field_length quadratic g → m ≡ part_length quadratic g → k < g.tracers → x ≡ take m (drop (k * m) (take n field))
      → b ≡ sound quadratic g x → b ≡ sound quadratic g (part quadratic g k field)
  part-tested n m k x b en em h e t = t ∙ ap (sound quadratic g) (part-of n m k x en em h e)

-- ---- the table: offset i behind those before it
module _ (x : ℕ → ℕ) (table₀ : List ℕ) where
  pub next-offset : (i n : ℕ) (table : List ℕ) → n ≡ x i → table ≡ overwrite 0 (blocks i (λ k. bytes32 (x k))) table₀ → 4 * i ≤ length table₀
      → overwrite (4 * i) (bytes32 n) table ≡ overwrite 0 (blocks (i + 1) (λ k. bytes32 (x k))) table₀
  next-offset i n table en e room =
      (λ j. overwrite (4 * i) (bytes32 (en j)) (e j)) ∙ overwrite-next 0 (4 * i) (blocks i (λ k. bytes32 (x k))) (bytes32 (x i)) table₀ (omega (arith, length-section32 i x)) (omega arith)
      ∙ ap (λ l. overwrite 0 l table₀) (sym (blocks_more i (λ k. bytes32 (x k))))

-- ---- the tail, in three stretches of four bytes
module _ (g : Shape) (out : List ℕ) (size : length out ≡ 12) where
  abbrev shape : List ℕ
  shape = shape_bytes g

  abbrev offset : List ℕ
  offset = bytes32 (table_start quadratic Plu2 g)

  abbrev mark : List ℕ
  mark = mark_bytes Plu2

  pub tail_written : (n : ℕ) (o₁ o₂ y z : List ℕ) → n ≡ table_start quadratic Plu2 g → o₁ ≡ shape ++ drop 4 out → y ≡ overwrite 0 (bytes32 n) (take (length o₁ - 4) (drop 4 o₁))
      → o₂ ≡ put_mid 4 (length o₁ - 4) o₁ y → z ≡ mark → put_mid 8 (length o₂ - 8) o₂ z ≡ tail quadratic Plu2 g
  unfolding tail
  tail_written n o₁ o₂ y z en e₁ ey e₂ ez =
      let a : o₁ ≡ overwrite 0 shape out = e₁ ∙ sym (front-is shape out) in
      let b : o₂ ≡ overwrite 0 (shape ++ offset) out = e₂ ∙ write-at 4 (bytes32 n) o₁ y ey ∙ (λ i. overwrite 4 (bytes32 (en i)) (a i)) ∙ overwrite-next 0 4 shape offset out refl (omega arith) in
      let lo : length (shape ++ offset) ≡ 8 = length-append shape offset ∙ omega (arith, code32.size (table_start quadratic Plu2 g)) in
      let lb : length o₂ ≡ 12 = ap length b ∙ length-overwrite 0 (shape ++ offset) out (omega arith) ∙ size in
      let last = part-size 4 8 (length o₂ - 8) o₂ (omega arith) (omega arith) in
      write-at 8 mark o₂ z (ez ∙ sym (overwritten mark (take (length o₂ - 8) (drop 8 o₂)) last)) ∙ ap (overwrite 8 mark) b
      ∙ overwrite-next 0 8 (shape ++ offset) mark out (omega arith) (omega arith) ∙ overwritten ((shape ++ offset) ++ mark) out (size ∙ refl)

-- ---- the bytes of the numbers at the front of a buffer
pub front-bytes : {A : Type 0} (bytes : A → List ℕ) (d : A) (k n : ℕ) (xs : List A) → k ≡ n → n ≤ length xs
    → blocks (length (take k xs)) (λ i. bytes (get_or (take k xs) i d)) ≡ blocks n (λ i. bytes (get_or xs i d))
front-bytes bytes d k n xs e h =
    let size : length (take k xs) ≡ n = ap (λ m. length (take m xs)) e ∙ length-take-le n xs h in
    ap (λ m. blocks m (λ i. bytes (get_or (take k xs) i d))) size ∙ blocks-cong n _ _ (λ i l. ap bytes (get_or-take k xs i d (omega arith)))
