-- A field written to a file is the field read from it.
use mathlib.Core.Path.{◌≡◌, sym, ap, subst, ◌∙◌}
use mathlib.Core.Bool.{false, ◌||◌}
use mathlib.Core.List.{List}
use Prim.Native.Nat.{ℕ, ◌+◌, ◌*◌, ◌-◌, ◌≤◌, ◌<◌}
use native.Mathlib.Nat.{zero-add}
use native.Mathlib.Omega.{arith}
use lib.Dec.{T, leb, eqb, le→leb, lit<}
use lib.IntN.{ℤ, pos, nat_abs}
use lib.ListN.{length, get_or, take, drop}
use lib.Seq.{length-take-le, get_or-take, take_at}
use Rattle.std.proofs.lemmas.List.{take_all}
use Rattle.whole.specs.Table.{table, overwrite}
use Rattle.whole.proofs.Cases.{eqb_of, both}
use Rattle.whole.proofs.SumLaws.{all-at, all-fails, all_of}
use Rattle.whole.proofs.OverwriteLaws.{front-is}
use Rattle.whole.proofs.ListParts.{parts-joined}
use Rattle.whole.proofs.TableLaws.{get_d-table, table-cong, blocks-cong, table-take}
use Rattle.rules.specs.declared.Shape.{Shape}
use Rattle.rules.specs.declared.Mark.TheVariants.{Plum, Plu2}
use Rattle.rules.specs.Answers.{accepted}
use Rattle.rules.specs.Field.{Kind, PositiveWeights, admitted, faces, part_length, field_length, part, sound}
use Rattle.rules.specs.Calls.{wind_at, wind_sound}
use Rattle.rules.specs.Bytes.{byte_at, bytes32, number32, bytes16, number16}
use Rattle.rules.specs.FieldFile.{mark_bytes, section_length, section_start, table_start, file_length, section_of, file_of, tail_shape, ends_with, tail_mark, tail_right, file_wind, offsets_right, section_numbers, part_from, file_field, field_sound, read_reply, read_field, read_wind, write_reply, write_file}
use Rattle.rules.proofs.PartLaws.{length-part}
use Rattle.file_round_trips.specs.RoundTrips.{WrittenIsRead}
use Rattle.file_layout.proofs.NumberLaws.{code32, code16}
use Rattle.file_layout.proofs.SectionLaws.{block_of, numbers-read}
use Rattle.file_layout.proofs.LayoutLaws.{plu2-length, tracer-start, length-is}
use Rattle.file_layout.proofs.FileLaws.{tail_start, shape_bytes, start-le, length-section-of, Holds, length-file, file-holds}
use Rattle.file_layout.proofs.ReplyLaws.{Readable, read-accepted, field-read, wind-read, Writable, write-shown, file-written}
use Rattle.file_round_trips.proofs.SoundLaws.{winds-same, wind-fits, fields-same, number_fits}

-- what reading finds in a file that holds the parts of a field and a wind, with the mark "PLU2"
module _ (κ : Kind) (g : Shape) (field : List ℕ) (wind : List ℤ) (file : List ℕ) (h : Holds κ Plu2 g field wind file) where
  size : length file ≡ tail_start κ Plu2 g + 12
  size = h.size ∙ length-is κ Plu2 g

  tail-byte : (n k : ℕ) → length file - n ≡ tail_start κ Plu2 g + k → k < 4 → byte_at file (length file - n) ≡ get_or (shape_bytes g) k 0
  tail-byte n k e l = ap (byte_at file) e ∙ h.has-shape.at k l

  shape-found : tail_shape file ≡ g
  unfolding tail_shape
  shape-found = λ i. record { nx = tail-byte 12 0 (omega (arith, size)) (lit< tt) i; ny = tail-byte 11 1 (omega (arith, size)) (lit< tt) i; tracers = tail-byte 10 2 (omega (arith, size)) (lit< tt) i }

  mark-byte : (k : ℕ) → k < 4 → byte_at file (length file - 4 + k) ≡ get_or (mark_bytes Plu2) k 0
  mark-byte k l = ap (byte_at file) (omega (arith, size)) ∙ h.has-mark.at k l

  ends-new : T (ends_with Plu2 file)
  unfolding ends_with
  ends-new = all_of 4 (λ i. eqb (byte_at file (length file - 4 + i)) (get_or (mark_bytes Plu2) i 0)) (λ i l. eqb_of (mark-byte i l))

  -- the marks differ in their last byte
  ends-old : ends_with Plum file ≡ false
  unfolding ends_with
  ends-old = all-fails 4 (λ i. eqb (byte_at file (length file - 4 + i)) (get_or (mark_bytes Plum) i 0)) 3 (lit< tt) (ap (λ b. eqb b 77) (mark-byte 3 (lit< tt)))

  mark-found : tail_mark file ≡ Plu2
  unfolding tail_mark
  mark-found = rw ends-old

  tail-found : T (tail_right file)
  unfolding tail_right
  tail-found = both (leb 12 (length file)) _ (le→leb 12 (length file) (omega (arith, size)))
      (both (ends_with Plum file || ends_with Plu2 file) _ (rw ends-old ends-new) (eqb_of (tail-byte 9 3 (omega (arith, size)) (lit< tt))))

  offsets-found : file_length κ Plu2 g < 4294967296 → T (offsets_right κ Plu2 g file)
  unfolding offsets_right
  offsets-found fits = both (eqb (length file) (file_length κ Plu2 g)) _ (eqb_of h.size)
      (both (eqb (number32 file (length file - 8)) (table_start κ Plu2 g)) _ (eqb_of table-found)
      (all_of (g.tracers + 1) (λ i. eqb (number32 file (table_start κ Plu2 g + 4 * i)) (section_start κ Plu2 g i))
      (λ i l. eqb_of (numbers-read 4 bytes32 number32 (λ n. n < 4294967296) code32 file (table_start κ Plu2 g) (section_start κ Plu2 g) (g.tracers + 1) starts_fit h.has-offsets i l))))
    where
      table_fits : table_start κ Plu2 g < 4294967296
      table_fits = omega (arith, length-is κ Plu2 g)

      starts_fit : (i : ℕ) → i < g.tracers + 1 → section_start κ Plu2 g i < 4294967296
      starts_fit i l = omega (arith, start-le κ Plu2 g i l, table_fits)

      table-found : number32 file (length file - 8) ≡ table_start κ Plu2 g
      table-found = ap (number32 file) (omega (arith, size)) ∙ code32.read file (tail_start κ Plu2 g + 4) (table_start κ Plu2 g) table_fits h.has-table

  wind-found : ((f : ℕ) → f < faces g → nat_abs (wind_at wind f) < 32768) → file_wind g file ≡ table (faces g) (wind_at wind)
  unfolding file_wind
  wind-found fits = table-cong (faces g) (λ f. number16 file (2 * f)) (wind_at wind) (λ f l. ap (number16 file) (sym (zero-add (2 * f)))
      ∙ numbers-read 2 bytes16 number16 (λ z. nat_abs z < 32768) code16 file 0 (wind_at wind) (faces g) fits h.has-winds f l)

  section-found : (s : ℕ) → s < g.tracers → ((i : ℕ) → i < part_length κ g → get_or (part κ g s field) i 0 < 4294967296) → section_numbers κ Plu2 g file s ≡ table (part_length κ g) (λ i. get_or (part κ g s field) i 0)
  unfolding section_numbers section_of
  section-found s hs fits =
      let w = section_length κ Plu2 g in
      let number = λ (i : ℕ). get_or (part κ g s field) i 0 in
      let here = block_of (4 * w) (λ t. section_of κ Plu2 g (part κ g t field)) (λ t. length-section-of κ Plu2 g (part κ g t field)) file (2 * faces g) g.tracers h.has-numbers s hs in
      table-cong w (λ i. number32 file (section_start κ Plu2 g (s + 1) + 4 * i)) number (λ i l. ap (λ a. number32 file (a + 4 * i)) (tracer-start κ Plu2 g s)
      ∙ numbers-read 4 bytes32 number32 (λ n. n < 4294967296) code32 file (2 * faces g + s * (4 * w)) number w (λ i l. fits i (omega (arith, plu2-length κ g))) here i l)
      ∙ ap (λ n. table n number) (plu2-length κ g)

  -- the field's numbers, where each fits
  field_found : field_length κ g ≤ length field → ((s : ℕ) → s < g.tracers → (i : ℕ) → i < part_length κ g → get_or (part κ g s field) i 0 < 4294967296) → file_field κ Plu2 g file ≡ take (field_length κ g) field
  unfolding file_field part_from field_length part
  field_found room fits = blocks-cong g.tracers (λ s. section_numbers κ Plu2 g file s) (λ s. part κ g s field) each ∙ parts-joined g.tracers (part_length κ g) field
    where
      each : (s : ℕ) → s < g.tracers → section_numbers κ Plu2 g file s ≡ part κ g s field
      each s h =
          let long = length-part κ g s field h room in
          section-found s h (fits s h) ∙ table-take (part_length κ g) (part κ g s field) 0 (omega (arith, long)) ∙ take_all (part_length κ g) (part κ g s field) (omega (arith, long))

-- a kind of element whose fields fit a file: every node has a weight, and the offsets of every admitted shape fit 32 bits
pub record Storable (κ : Kind) : Type 0 where
  pub weights : PositiveWeights κ
  pub offsets : (g : Shape) → T (admitted g) → file_length κ Plu2 g < 4294967296

module _ (κ : Kind) (ok : Storable κ) (g : Shape) (field field' : List ℕ) (wind wind' : List ℤ) (out : List ℕ) where
  -- the file of a field that may be written is read
  module _ (w : Writable κ g field wind out) (field_room : field_length κ g ≤ length field') (wind-room : faces g ≤ length wind') where
    abbrev file : List ℕ
    file = file_of κ Plu2 g field wind

    holds : Holds κ Plu2 g field wind file
    holds = file-holds κ Plu2 g field wind

    mark-back : tail_mark file ≡ Plu2
    mark-back = mark-found κ g field wind file holds

    winds-back : file_wind g file ≡ table (faces g) (wind_at wind)
    winds-back = wind-found κ g field wind file holds (wind-fits g wind w.winds)

    numbers_fit : (s : ℕ) → s < g.tracers → (i : ℕ) → i < part_length κ g → get_or (part κ g s field) i 0 < 4294967296
    unfolding field_sound
    numbers_fit s h = number_fits κ g ok.weights (part κ g s field) (all-at g.tracers (λ s. sound κ g (part κ g s field)) w.tracers s h)

    numbers-back : file_field κ Plu2 g file ≡ take (field_length κ g) field
    numbers-back = field_found κ g field wind file holds w.field_room numbers_fit

    wind-sound : T (wind_sound g (table (faces g) (wind_at wind)))
    wind-sound = winds-same g wind (table (faces g) (wind_at wind)) (λ f l. get_d-table (faces g) (wind_at wind) f (pos 0) l) w.winds

    field-sound : T (field_sound κ g (take (field_length κ g) field))
    field-sound = fields-same κ g field (take (field_length κ g) field) w.field_room (omega (arith, length-take-le (field_length κ g) field w.field_room))
        (λ i l. get_or-take (field_length κ g) field i 0 l) w.tracers

    readable : Readable κ g file field' wind'
    readable = record {
      tail = tail-found κ g field wind file holds;
      shape = shape-found κ g field wind file holds;
      ranges = w.ranges;
      offsets = subst (λ m. T (offsets_right κ m g file)) (sym mark-back) (offsets-found κ g field wind file holds (ok.offsets g w.ranges));
      field_room = field_room;
      wind-room = wind-room;
      winds = subst (λ l. T (wind_sound g l)) (sym winds-back) wind-sound;
      tracers = subst (λ m. T (field_sound κ g (file_field κ m g file))) (sym mark-back) (subst (λ l. T (field_sound κ g l)) (sym numbers-back) field-sound);
    }

    -- the n bytes that were written are that file
    read_back : (n : ℕ) → file_length κ Plu2 g ≡ n → WrittenIsRead κ g field field' wind wind' out n
    read_back n e = record {
      shape = ap (λ l. read_reply κ l field' wind') bytes ∙ read-accepted κ g file field' wind' readable;
      numbers = ap (λ l. read_field κ l field' wind') bytes ∙ field-read κ g file field' wind' readable
          ∙ ap (λ l. overwrite 0 l field') (ap (λ m. file_field κ m g file) mark-back ∙ numbers-back);
      winds = ap (λ l. read_wind κ l field' wind') bytes ∙ wind-read κ g file field' wind' readable
          ∙ ap (λ l. overwrite 0 l wind') (winds-back ∙ table-take (faces g) wind (pos 0) w.wind-room);
    }
      where
        bytes : take n (write_file κ g field wind out) ≡ file
        bytes = ap (take n) (file-written κ g field wind out w ∙ front-is file out) ∙ take_at file (drop (length file) out) n (length-file κ Plu2 g field wind ∙ e)

  pub written-is-read-of : (n : ℕ) → write_reply κ g field wind out ≡ accepted n → field_length κ g ≤ length field' → faces g ≤ length wind' → WrittenIsRead κ g field field' wind wind' out n
  written-is-read-of n e field_room wind-room =
      let w = write-shown κ g field wind out n e in
      read_back w.0 field_room wind-room n w.1
