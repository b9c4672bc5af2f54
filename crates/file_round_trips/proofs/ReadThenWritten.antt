-- An accepted file is that of what was read, with its own mark; written again it is the same with the mark "PLU2".
use mathlib.Core.Path.{◌≡◌, sym, ap, subst, ◌∙◌}
use mathlib.Core.Bool.{Bool, true, false, not, ◌||◌}
use mathlib.Core.List.{List}
use Prim.Native.Nat.{ℕ, ◌+◌, ◌*◌, ◌-◌, ◌≤◌, ◌<◌}
use native.Mathlib.Nat.{zero-add}
use native.Mathlib.Omega.{arith}
use lib.Dec.{T, leb, eqb, eqb→eq}
use lib.IntN.{ℤ, pos, nat_abs}
use lib.ListN.{length, get_or}
use Rattle.whole.specs.Table.{overwrite}
use Rattle.whole.proofs.Cases.{both_yes, cond_ind}
use Rattle.whole.proofs.OverwriteLaws.{length-overwrite, overwrite-inside}
use Rattle.whole.proofs.SumLaws.{all-at}
use Rattle.whole.proofs.TableLaws.{length-table, get_d-table}
use Rattle.rules.specs.declared.Shape.{Shape}
use Rattle.rules.specs.declared.Mark.{Mark}
use Rattle.rules.specs.declared.Mark.TheVariants.{Plum, Plu2}
use Rattle.rules.specs.Answers.{accepted}
use Rattle.rules.specs.Field.{Kind, faces, field_length, part, stored_total, total, sound}
use Rattle.rules.specs.Calls.{wind_at}
use Rattle.rules.specs.Bytes.{byte_at, bytes32, number32, bytes16, number16}
use Rattle.rules.specs.FieldFile.{mark_bytes, section_length, section_start, table_start, file_length, section_of, file_of, tail_shape, ends_with, tail_mark, tail_right, file_wind, offsets_right, file_field, field_sound, read_reply, write_reply, write_file}
use Rattle.rules.proofs.FieldLaws.{summed}
use Rattle.file_round_trips.specs.RoundTrips.{ReadIsWritten}
use Rattle.file_layout.proofs.NumberLaws.{Bytes, Has, has-four, code32, code16}
use Rattle.file_layout.proofs.SectionLaws.{section-of, numbers-written}
use Rattle.file_layout.proofs.LayoutLaws.{length-is}
use Rattle.file_layout.proofs.FileLaws.{tail_start, mark-length, length-section-of, Holds, file-is}
use Rattle.file_layout.proofs.ReplyLaws.{Readable, read-shown, field-read, wind-read, Writable, write-accepted, file-written}
use Rattle.file_round_trips.proofs.SoundLaws.{winds-same, parts_same, fields-same}
use Rattle.file_round_trips.proofs.SectionParts.{length-file_field, number-of-file}

-- a list written over the front of one that is long enough
module _ {A : Type 0} (ys xs : List A) (room : length ys ≤ length xs) where
  front_length : length (overwrite 0 ys xs) ≡ length xs
  front_length = length-overwrite 0 ys xs (omega arith)

  front_at : (d : A) (i : ℕ) → i < length ys → get_or (overwrite 0 ys xs) i d ≡ get_or ys i d
  front_at d i h = ap (λ k. get_or (overwrite 0 ys xs) k d) (sym (zero-add i)) ∙ overwrite-inside 0 ys xs (omega arith) d i h

-- a file that ends with either mark ends with the one that it is read by
own-mark : (file : List ℕ) → T (ends_with Plum file || ends_with Plu2 file) → T (ends_with (tail_mark file) file)
unfolding tail_mark
own-mark file t = cond_ind (ends_with Plum file) Plum Plu2 (λ m. T (ends_with m file)) (λ a. a) (other (ends_with Plum file) (ends_with Plu2 file) t)
  where
    other : (a b : Bool) → T (a || b) → T (not a) → T b
    other true b t n = absurd n
    other false b t n = t

module _ (κ : Kind) (g : Shape) (file field : List ℕ) (wind : List ℤ) (r : Readable κ g file field wind) where
  -- ---- what stands in the file
  abbrev m : Mark
  m = tail_mark file

  marked : T (ends_with m file) × T (eqb (byte_at file (length file - 9)) 0)
  unfolding tail_right
  marked =
      let b = both_yes (ends_with Plum file || ends_with Plu2 file) (eqb (byte_at file (length file - 9)) 0) (both_yes (leb 12 (length file)) _ r.tail).1 in
      (own-mark file b.0, b.1)

  record Placed : Type 0 where
    long : length file ≡ file_length κ m g
    table : number32 file (length file - 8) ≡ table_start κ m g
    starts : (i : ℕ) → i < g.tracers + 1 → number32 file (table_start κ m g + 4 * i) ≡ section_start κ m g i

  placed : Placed
  unfolding offsets_right
  placed =
      let a = both_yes (eqb (length file) (file_length κ m g)) _ r.offsets in
      let b = both_yes (eqb (number32 file (length file - 8)) (table_start κ m g)) _ a.1 in
      record {
        long = eqb→eq _ _ a.0;
        table = eqb→eq _ _ b.0;
        starts = λ i l. eqb→eq _ _ (all-at (g.tracers + 1) (λ i. eqb (number32 file (table_start κ m g + 4 * i)) (section_start κ m g i)) b.1 i l);
      }

  size : length file ≡ tail_start κ m g + 12
  size = placed.long ∙ length-is κ m g

  -- ---- what stands in the buffers
  abbrev new-field : List ℕ
  new-field = overwrite 0 (file_field κ m g file) field

  abbrev new-wind : List ℤ
  new-wind = overwrite 0 (file_wind g file) wind

  field-long : length (file_field κ m g file) ≡ field_length κ g
  field-long = length-file_field κ m g file

  wind-long : length (file_wind g file) ≡ faces g
  unfolding file_wind
  wind-long = length-table (faces g) (λ f. number16 file (2 * f))

  field_at : (i : ℕ) → i < field_length κ g → get_or new-field i 0 ≡ get_or (file_field κ m g file) i 0
  field_at i l = front_at (file_field κ m g file) field (omega (arith, field-long, r.field_room)) 0 i (omega (arith, field-long))

  wind-at : (f : ℕ) → f < faces g → wind_at new-wind f ≡ wind_at (file_wind g file) f
  wind-at f l = front_at (file_wind g file) wind (omega (arith, wind-long, r.wind-room)) (pos 0) f (omega (arith, wind-long))

  wind-number : (f : ℕ) → f < faces g → wind_at (file_wind g file) f ≡ number16 file (0 + 2 * f)
  unfolding file_wind
  wind-number f l = get_d-table (faces g) (λ f. number16 file (2 * f)) f (pos 0) l ∙ ap (number16 file) (sym (zero-add (2 * f)))

  pub new-field-long : length new-field ≡ length field
  new-field-long = front_length (file_field κ m g file) field (omega (arith, field-long, r.field_room))

  new-wind-long : length new-wind ≡ length wind
  new-wind-long = front_length (file_wind g file) wind (omega (arith, wind-long, r.wind-room))

  parts-read : (s : ℕ) → s < g.tracers → part κ g s new-field ≡ part κ g s (file_field κ m g file)
  parts-read = parts_same κ g (file_field κ m g file) new-field (omega (arith, field-long)) (omega (arith, r.field_room, new-field-long)) field_at

  -- the buffers are sound
  pub new-field-sound : T (field_sound κ g new-field)
  new-field-sound = fields-same κ g (file_field κ m g file) new-field (omega (arith, field-long)) (omega (arith, r.field_room, new-field-long)) field_at r.tracers

  -- so each stored total is the sum
  totals-read : (s : ℕ) → s < g.tracers → stored_total κ g (part κ g s new-field) ≡ total κ g (part κ g s new-field)
  unfolding field_sound
  totals-read s h = sym (summed κ g (part κ g s new-field) (all-at g.tracers (λ s. sound κ g (part κ g s new-field)) new-field-sound s h)).1

  -- and the file is that of the buffers, which may be written
  module _ (bytes : Bytes file) where
    section-read : (s : ℕ) → s < g.tracers → Has (2 * faces g + s * (4 * section_length κ m g)) (section_of κ m g (part κ g s new-field)) file
    unfolding section_of
    section-read s h = numbers-written 4 bytes32 number32 (λ n. n < 4294967296) code32 file (2 * faces g + s * (4 * section_length κ m g)) (λ i. get_or (part κ g s new-field) i 0) (section_length κ m g) bytes
        (λ i l. ap (λ p. get_or p i 0) (parts-read s h) ∙ number-of-file κ m g file s i h l)

    mark-read : Has (tail_start κ m g + 8) (mark_bytes m) file
    unfolding ends_with
    mark-read = record { at = λ k l. ap (byte_at file) (omega (arith, size)) ∙ eqb→eq _ _ (all-at 4 (λ i. eqb (byte_at file (length file - 4 + i)) (get_or (mark_bytes m) i 0)) marked.0 k (omega (arith, mark-length m))) }

    holds : Holds κ m g new-field new-wind file
    unfolding tail_shape
    holds = record {
      size = placed.long;
      has-winds = numbers-written 2 bytes16 number16 (λ z. nat_abs z < 32768) code16 file 0 (wind_at new-wind) (faces g) bytes (λ f l. wind-at f l ∙ wind-number f l);
      has-numbers = section-of (4 * section_length κ m g) (λ s. section_of κ m g (part κ g s new-field)) (λ s. length-section-of κ m g (part κ g s new-field)) file (2 * faces g) g.tracers section-read;
      has-offsets = numbers-written 4 bytes32 number32 (λ n. n < 4294967296) code32 file (table_start κ m g) (section_start κ m g) (g.tracers + 1) bytes (λ i l. sym (placed.starts i l));
      has-shape = has-four file (tail_start κ m g) g.nx g.ny g.tracers 0
          (ap (byte_at file) (omega (arith, size)) ∙ ap (λ h. h.nx) r.shape)
          (ap (byte_at file) (omega (arith, size)) ∙ ap (λ h. h.ny) r.shape)
          (ap (byte_at file) (omega (arith, size)) ∙ ap (λ h. h.tracers) r.shape)
          (ap (byte_at file) (omega (arith, size)) ∙ eqb→eq _ _ marked.1);
      has-table = subst (λ n. Has (tail_start κ m g + 4) (bytes32 n) file) (ap (number32 file) (omega (arith, size)) ∙ placed.table) (code32.written file (tail_start κ m g + 4) bytes);
      has-mark = mark-read;
    }

    module _ (out : List ℕ) (room : file_length κ Plu2 g ≤ length out) where
      writable : Writable κ g new-field new-wind out
      writable = record {
        ranges = r.ranges;
        field_room = omega (arith, r.field_room, new-field-long);
        wind-room = omega (arith, r.wind-room, new-wind-long);
        out-room = room;
        winds = winds-same g (file_wind g file) new-wind wind-at r.winds;
        tracers = new-field-sound;
      }

      written-again : ReadIsWritten κ g file field wind out
      written-again =
          let f = field-read κ g file field wind r in
          let w = wind-read κ g file field wind r in
          record {
            own = file-is κ m g new-field new-wind file holds ∙ (λ i. file_of κ m g (sym f i) (sym w i));
            totals = λ s h. ap (λ l. stored_total κ g (part κ g s l)) f ∙ totals-read s h ∙ ap (λ l. total κ g (part κ g s l)) (sym f);
            size = (λ i. write_reply κ g (f i) (w i) out) ∙ write-accepted κ g new-field new-wind out writable;
            bytes = (λ i. write_file κ g (f i) (w i) out) ∙ file-written κ g new-field new-wind out writable ∙ (λ i. overwrite 0 (file_of κ Plu2 g (sym f i) (sym w i)) out);
          }

module _ (κ : Kind) (g : Shape) (file field : List ℕ) (wind : List ℤ) (read : read_reply κ file field wind ≡ accepted g) where
  -- the length of a file that is read
  pub length-read : length file ≡ file_length κ (tail_mark file) g
  length-read = (placed κ g file field wind (read-shown κ g file field wind read)).long

  -- for any kind of element, any buffers that the file was read into, and any buffer that is long enough for it as "PLU2"
  pub read-is-written-of : (out : List ℕ) → ((i : ℕ) → byte_at file i < 256) → file_length κ Plu2 g ≤ length out → ReadIsWritten κ g file field wind out
  read-is-written-of out below room = written-again κ g file field wind (read-shown κ g file field wind read) (record { below = below }) out room
