-- Where the sections, the table and the tail stand; a file has them there exactly where it is the file of that field and wind.
use mathlib.Core.Path.{◌≡◌, refl, sym, ap, subst, ◌∙◌}
use mathlib.Core.List.{List, [], ◌∷◌, ◌++◌, append-nil}
use Prim.Native.Nat.{ℕ, zero, suc, ◌+◌, ◌*◌, ◌≤◌, ◌<◌}
use native.Mathlib.Nat.{zero-mul, add-zero, mul-le-mul_right}
use native.Mathlib.Numerals.{add-one}
use native.Mathlib.Omega.{arith}
use lib.IntN.{ℤ, nat_abs}
use lib.ListN.{length, get_or, drop, length-append, drop_of_length-le}
use Rattle.whole.specs.Table.{blocks}
use Rattle.whole.proofs.TableLaws.{length-blocks, blocks-cong}
use Rattle.whole.proofs.ListParts.{blocks-of-blocks}
use Rattle.whole.proofs.OverwriteLaws.{part_at}
use Rattle.rules.specs.declared.Shape.{Shape}
use Rattle.rules.specs.declared.Mark.{Mark}
use Rattle.rules.specs.declared.Mark.TheVariants.{Plum, Plu2}
use Rattle.rules.specs.Field.{Kind, faces, part_length, field_length, part}
use Rattle.rules.specs.Calls.{wind_at}
use Rattle.rules.specs.Bytes.{bytes32, bytes16, number16}
use Rattle.rules.specs.FieldFile.{mark_bytes, section_length, section_start, table_start, file_length, tail, section_of, file_of}
use Rattle.file_layout.proofs.LayoutLaws.{plu2-length, tracer-start, length-is}
use Rattle.file_layout.proofs.NumberLaws.{Has, code32, code16}
use Rattle.file_layout.proofs.SectionLaws.{length-section, length-section32, has-front, has-behind, cut_off}

module _ (κ : Kind) (m : Mark) (g : Shape) where
  -- the table comes behind the sections, and the tail behind the table
  abbrev pub tail_start : ℕ
  tail_start = table_start κ m g + 4 * (g.tracers + 1)

  pub field-start : section_start κ m g 1 ≡ 2 * faces g
  unfolding section_start
  field-start = rw (zero-mul (4 * section_length κ m g)) (add-zero (2 * faces g))

  -- the bytes of all tracers' sections
  abbrev pub sections_length : ℕ
  sections_length = g.tracers * (4 * section_length κ m g)

  pub table-start : table_start κ m g ≡ 2 * faces g + sections_length
  unfolding table_start
  table-start = tracer-start κ m g g.tracers

  -- where the tracers' sections and the table start, as the code finds it
  pub record Places (tracers table : ℕ) : Type 0 where
    pub winds : tracers ≡ 2 * faces g
    pub sections : table ≡ tracers + sections_length
    pub whole : file_length κ m g ≡ table + 4 * (g.tracers + 1) + 12

  pub places : (tracers table : ℕ) → tracers ≡ section_start κ m g 1 → table ≡ table_start κ m g → Places tracers table
  places tracers table ht hb = record {
    winds = ht ∙ field-start;
    sections = omega (arith, table-start, field-start);
    whole = omega (arith, length-is κ m g);
  }

  -- every section starts before the table ends
  pub start-le : (i : ℕ) → i < g.tracers + 1 → section_start κ m g i ≤ table_start κ m g
  unfolding table_start section_start
  start-le zero h = omega arith
  start-le (suc i) h = subst (λ n. section_start κ m g n ≤ section_start κ m g (g.tracers + 1)) (add-one i)
      (omega (arith, tracer-start κ m g i, tracer-start κ m g g.tracers, mul-le-mul_right (4 * section_length κ m g) (earlier i h)))
    where
      earlier : (i : ℕ) → suc i < g.tracers + 1 → i ≤ g.tracers
      earlier i h = omega arith

-- ---- the parts of a file, and their lengths
abbrev pub wind_bytes : Shape → List ℤ → List ℕ
wind_bytes g wind = blocks (faces g) (λ f. bytes16 (wind_at wind f))

abbrev pub field_bytes : Kind → Mark → Shape → List ℕ → List ℕ
field_bytes κ m g field = blocks g.tracers (λ s. section_of κ m g (part κ g s field))

abbrev pub table_bytes : Kind → Mark → Shape → List ℕ
table_bytes κ m g = blocks (g.tracers + 1) (λ i. bytes32 (section_start κ m g i))

abbrev pub shape_bytes : Shape → List ℕ
shape_bytes g = g.nx ∷ g.ny ∷ g.tracers ∷ 0 ∷ []

pub length-winds : (g : Shape) (wind : List ℤ) → length (wind_bytes g wind) ≡ 2 * faces g
length-winds g wind = length-section 2 bytes16 number16 (λ z. nat_abs z < 32768) code16 (faces g) (wind_at wind)

pub length-section-of : (κ : Kind) (m : Mark) (g : Shape) (p : List ℕ) → length (section_of κ m g p) ≡ 4 * section_length κ m g
unfolding section_of
length-section-of κ m g p = length-section32 (section_length κ m g) (λ i. get_or p i 0)

pub length-numbers : (κ : Kind) (m : Mark) (g : Shape) (field : List ℕ) → length (field_bytes κ m g field) ≡ sections_length κ m g
length-numbers κ m g field = length-blocks (4 * section_length κ m g) (λ s. section_of κ m g (part κ g s field)) (λ s. length-section-of κ m g (part κ g s field)) g.tracers

-- number j of tracer s's part
pub part-number : (κ : Kind) (g : Shape) (field : List ℕ) (s j : ℕ) → j < part_length κ g → get_or (part κ g s field) j 0 ≡ get_or field (s * part_length κ g + j) 0
unfolding part
part-number κ g field s j h = part_at (part_length κ g) (s * part_length κ g) (part_length κ g) field j 0 refl h

-- the sections of "PLU2" are all the field's numbers, one after the other
pub plu2-bytes : (κ : Kind) (g : Shape) (field : List ℕ) → field_bytes κ Plu2 g field ≡ blocks (field_length κ g) (λ i. bytes32 (get_or field i 0))
unfolding section_of field_length
plu2-bytes κ g field =
    let w = part_length κ g in
    blocks-cong g.tracers (λ s. section_of κ Plu2 g (part κ g s field)) (λ s. blocks w (λ i. bytes32 (get_or field (s * w + i) 0)))
    (λ s h. ap (λ n. blocks n (λ i. bytes32 (get_or (part κ g s field) i 0))) (plu2-length κ g)
    ∙ blocks-cong w (λ i. bytes32 (get_or (part κ g s field) i 0)) (λ i. bytes32 (get_or field (s * w + i) 0)) (λ i l. ap bytes32 (part-number κ g field s i l)))
    ∙ blocks-of-blocks g.tracers w (λ i. bytes32 (get_or field i 0))

pub plu2-sections : (κ : Kind) (g : Shape) → sections_length κ Plu2 g ≡ 4 * field_length κ g
plu2-sections κ g = sym (length-numbers κ Plu2 g []) ∙ ap length (plu2-bytes κ g []) ∙ length-section32 (field_length κ g) (λ i. get_or {A = ℕ} [] i 0)

pub length-offsets : (κ : Kind) (m : Mark) (g : Shape) → length (table_bytes κ m g) ≡ 4 * (g.tracers + 1)
length-offsets κ m g = length-section32 (g.tracers + 1) (section_start κ m g)

length-table : (κ : Kind) (m : Mark) (g : Shape) → length (bytes32 (table_start κ m g)) ≡ 4
length-table κ m g = code32.size (table_start κ m g)

pub mark-length : (m : Mark) → length (mark_bytes m) ≡ 4
mark-length Plum = refl
mark-length Plu2 = refl

pub length-tail : (κ : Kind) (m : Mark) (g : Shape) → length (tail κ m g) ≡ 12
unfolding tail
length-tail κ m g = length-append (shape_bytes g) (bytes32 (table_start κ m g) ++ mark_bytes m) ∙ omega (arith, length-append (bytes32 (table_start κ m g)) (mark_bytes m), length-table κ m g, mark-length m)

-- ---- the file of a field and a wind
module _ (κ : Kind) (m : Mark) (g : Shape) (field : List ℕ) (wind : List ℤ) where
  abbrev winds : List ℕ
  winds = wind_bytes g wind

  abbrev numbers : List ℕ
  numbers = field_bytes κ m g field

  abbrev offsets : List ℕ
  offsets = table_bytes κ m g

  abbrev shape : List ℕ
  shape = shape_bytes g

  -- the file has each of its parts in its place
  pub record Holds (file : List ℕ) : Type 0 where
    pub size : length file ≡ file_length κ m g
    pub has-winds : Has 0 winds file
    pub has-numbers : Has (2 * faces g) numbers file
    pub has-offsets : Has (table_start κ m g) offsets file
    pub has-shape : Has (tail_start κ m g) shape file
    pub has-table : Has (tail_start κ m g + 4) (bytes32 (table_start κ m g)) file
    pub has-mark : Has (tail_start κ m g + 8) (mark_bytes m) file

  -- what stands in the tail, and behind the sections
  in_tail : (a b : ℕ) (r : List ℕ) → Has a r (tail κ m g) → tail_start κ m g + a ≡ b → Has b r (file_of κ m g field wind)
  unfolding file_of
  in_tail a b r h e =
      has-behind (sections_length κ m g + (4 * (g.tracers + 1) + a)) b winds (numbers ++ (offsets ++ tail κ m g)) r (omega (arith, length-winds g wind, table-start κ m g))
      (has-behind (4 * (g.tracers + 1) + a) (sections_length κ m g + (4 * (g.tracers + 1) + a)) numbers (offsets ++ tail κ m g) r (omega (arith, length-numbers κ m g field))
      (has-behind a (4 * (g.tracers + 1) + a) offsets (tail κ m g) r (omega (arith, length-offsets κ m g)) h))

  pub length-file : length (file_of κ m g field wind) ≡ file_length κ m g
  unfolding file_of
  length-file = length-append winds (numbers ++ (offsets ++ tail κ m g)) ∙ omega (
    arith,
    length-append numbers (offsets ++ tail κ m g),
    length-append offsets (tail κ m g),
    length-winds g wind,
    length-numbers κ m g field,
    length-offsets κ m g,
    length-tail κ m g,
    table-start κ m g,
    length-is κ m g,
  )

  mark-front : Has 0 (mark_bytes m) (mark_bytes m)
  mark-front = subst (Has 0 (mark_bytes m)) (append-nil (mark_bytes m)) (has-front (mark_bytes m) [])

  pub file-holds : Holds (file_of κ m g field wind)
  unfolding file_of tail
  file-holds = record {
    size = length-file;
    has-winds = has-front winds (numbers ++ (offsets ++ tail κ m g));
    has-numbers = has-behind 0 (2 * faces g) winds (numbers ++ (offsets ++ tail κ m g)) numbers (omega (arith, length-winds g wind)) (has-front numbers (offsets ++ tail κ m g));
    has-offsets = has-behind (sections_length κ m g) (table_start κ m g) winds (numbers ++ (offsets ++ tail κ m g)) offsets (omega (arith, length-winds g wind, table-start κ m g))
        (has-behind 0 (sections_length κ m g) numbers (offsets ++ tail κ m g) offsets (omega (arith, length-numbers κ m g field)) (has-front offsets (tail κ m g)));
    has-shape = in_tail 0 (tail_start κ m g) shape (has-front shape (bytes32 (table_start κ m g) ++ mark_bytes m)) (omega arith);
    has-table = in_tail 4 (tail_start κ m g + 4) (bytes32 (table_start κ m g)) (has-behind 0 4 shape (bytes32 (table_start κ m g) ++ mark_bytes m) (bytes32 (table_start κ m g)) refl
        (has-front (bytes32 (table_start κ m g)) (mark_bytes m))) (omega arith);
    has-mark = in_tail 8 (tail_start κ m g + 8) (mark_bytes m) (has-behind 4 8 shape (bytes32 (table_start κ m g) ++ mark_bytes m) (mark_bytes m) refl
        (has-behind 0 4 (bytes32 (table_start κ m g)) (mark_bytes m) (mark_bytes m) (omega (arith, length-table κ m g)) mark-front)) (omega arith);
  }

  -- and a file that has each part in its place is that file
  pub file-is : (file : List ℕ) → Holds file → file ≡ file_of κ m g field wind
  unfolding file_of tail
  file-is file h =
      let t = tail_start κ m g in
      let ends : t + 12 ≡ length file = sym (h.size ∙ length-is κ m g) in
      let a = cut_off file 0 winds (2 * faces g) (omega (arith, length-winds g wind)) (omega (arith, table-start κ m g)) h.has-winds in
      let b = cut_off file (2 * faces g) numbers (table_start κ m g) (omega (arith, length-numbers κ m g field, table-start κ m g)) (omega arith) h.has-numbers in
      let c = cut_off file (table_start κ m g) offsets t (omega (arith, length-offsets κ m g)) (omega arith) h.has-offsets in
      let d = cut_off file t shape (t + 4) refl (omega arith) h.has-shape in
      let e = cut_off file (t + 4) (bytes32 (table_start κ m g)) (t + 8) (omega (arith, length-table κ m g)) (omega arith) h.has-table in
      let f = cut_off file (t + 8) (mark_bytes m) (t + 12) (omega (arith, mark-length m)) (omega arith) h.has-mark in
      let last : drop (t + 12) file ≡ [] = drop_of_length-le file {i = t + 12} (omega arith) in
      a ∙ ap (λ r. winds ++ r) (b ∙ ap (λ r. numbers ++ r) (c ∙ ap (λ r. offsets ++ r)
      (d ∙ ap (λ r. shape ++ r) (e ∙ ap (λ r. bytes32 (table_start κ m g) ++ r) (f ∙ ap (λ r. mark_bytes m ++ r) last ∙ append-nil (mark_bytes m))))))
