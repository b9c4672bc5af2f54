-- The pages of a field that was read: no map of it is refused, each is added behind the one before, and there is room for all.
use mathlib.Core.Path.{◌≡◌, sym, subst, ◌∙◌}
use mathlib.Core.List.{List, ◌++◌}
use Prim.Native.Nat.{ℕ, ◌+◌, ◌*◌, ◌-◌, ◌≤◌, ◌<◌}
use native.Mathlib.Nat.{mul-add, mul_assoc, mul-le-mul, mul-le-mul_right}
use native.Mathlib.Decide.{dec_lt}
use native.Mathlib.Omega.{arith}
use lib.Dec.{T, leb, ltb, le→leb, lt→ltb}
use lib.IntN.{ℤ}
use lib.ListN.{length, take, drop, length-drop}
use lib.Seq.{length-take-le}
use Rattle.whole.proofs.Cases.{both}
use Rattle.whole.proofs.SumLaws.{all-at}
use Rattle.rules.specs.declared.Shape.{Shape}
use Rattle.rules.specs.Answers.{accepted, refused}
use Rattle.rules.specs.Field.{quadratic, Admitted, elements, faces, field_length, part, sound}
use Rattle.rules.specs.FieldFile.{field_sound, read_field}
use Rattle.rules.specs.Map.{block_count, page_text, page_length, map_checks, map_reading, map_page}
use Rattle.rules.proofs.AnswerLaws.{passed-accepts}
use Rattle.rules.proofs.FieldLaws.{total-small}
use Rattle.rules.proofs.SoundLaws.{where_there}
use Rattle.rules.proofs.MapLaws.{page-length}
use Rattle.field_layout.proofs.PlaceLaws.{is-admitted}
use Rattle.file_layout.proofs.ReplyLaws.{Readable, field-read}
use Rattle.file_round_trips.proofs.ReadThenWritten.{new-field-long, new-field-sound}
use Rattle.map.proofs.CheckLaws.{page-written}
use Rattle.text.specs.Added.{Added}
use Rattle.text.proofs.AddedLaws.{behind}
use Rattle.output_maps.specs.SoundField.{SoundField}

module _ (g : Shape) (a : Admitted g) (field : List ℕ) (h : SoundField g field) (s : ℕ) (there : s < g.tracers) where
  abbrev text : List ℕ
  text = page_text quadratic g (part quadratic g s field)

  sound-part : T (sound quadratic g (part quadratic g s field))
  unfolding field_sound
  sound-part = all-at g.tracers (λ s. sound quadratic g (part quadratic g s field)) h.tracers s there

  text-long : length text ≡ page_length g
  text-long = page-length quadratic g (part quadratic g s field) a (total-small quadratic g (part quadratic g s field) sound-part)

  -- a page that is long enough is accepted
  accepts : (page : List ℕ) → page_length g ≤ length page → map_reading quadratic g s field page ≡ accepted (length text)
  unfolding map_reading
  accepts page room = passed-accepts (map_checks quadratic g s field page) (length text)
      (rw (is-admitted g a) tt, (both (leb (field_length quadratic g) (length field)) (leb (page_length g) (length page)) (le→leb _ _ h.room) (le→leb _ _ room), (where_there (ltb s g.tracers) (sound quadratic g (part quadratic g s field)) (λ _. sound-part), (lt→ltb _ _ there, tt))))

  module _ (out : List ℕ) (room : page_length g ≤ length out) where
    pub never-refused : {A : Type 0} (n : ℕ) → refused n ≡ map_reading quadratic g s field out → A
    never-refused n e = let q : refused n ≡ accepted (length text) = e ∙ accepts out room in let z : ◌≡◌ {A = ℕ} 0 1 = cc in absurd (omega arith)

    pub number_is : (n : ℕ) → accepted n ≡ map_reading quadratic g s field out → n ≡ page_length g
    number_is n e = let q : accepted n ≡ accepted (length text) = e ∙ accepts out room in let z : n ≡ length text = cc in z ∙ text-long

    pub page-in-front : (n : ℕ) (y : List ℕ) → accepted n ≡ map_reading quadratic g s field out → y ≡ map_page quadratic g s field out → Added (page_length g) 0 text out y n
    page-in-front n y e w = record {
      same = w ∙ sym (page-written g s field out _ (accepts out room));
      ends = omega (arith, number_is n e, text-long);
      few = omega (arith, text-long);
      fits = omega (arith, text-long);
    }

  module _ (out : List ℕ) (at k : ℕ) (rest : k ≡ length out - at) (room : at + page_length g ≤ length out) where
    -- what is lent to the map: the buffer from place `at` on
    abbrev lent : List ℕ
    lent = take k (drop at out)

    lent-room : page_length g ≤ length lent
    lent-room = omega (arith, length-drop at out, length-take-le k (drop at out) (omega (arith, length-drop at out)))

    pub page-added : (n : ℕ) (y : List ℕ) → accepted n ≡ map_reading quadratic g s field lent → y ≡ map_page quadratic g s field lent → Added (page_length g) at text out (take at out ++ (y ++ drop k (drop at out))) (at + n)
    page-added n y e w = behind rest (omega arith) (page-in-front lent lent-room n y e w)

-- the field of an accepted file
pub read-sound : (g : Shape) (file field : List ℕ) (wind : List ℤ) → Readable quadratic g file field wind → SoundField g (read_field quadratic file field wind)
read-sound g file field wind r = subst (SoundField g) (sym (field-read quadratic g file field wind r))
    (record { room = omega (arith, r.field_room, new-field-long quadratic g file field wind r); tracers = new-field-sound quadratic g file field wind r })

-- ---- the room for all pages: the longest page of 128 elements has 66 lines
few-lines : (g : Shape) → Admitted g → elements g ≤ 128 → block_count g * (g.ny + 1) ≤ 65
unfolding block_count
few-lines g a h = go (dec_lt g.nx 8)
  where
    go : Dec (g.nx < 8) → block_count g * (g.ny + 1) ≤ 65
    go (yes narrow) = let one : block_count g ≡ 1 = omega (arith, a.nx-above) in rw one (omega (arith, a.ny-small))
    go (no wide) =
        let four : 4 * block_count g ≤ g.nx = omega arith in
        let rows : 4 * block_count g * g.ny ≤ elements g = mul-le-mul_right g.ny four in
        omega (arith, mul_assoc 4 (block_count g) g.ny, mul-add (block_count g) g.ny 1, a.nx-small)

pub pages-fit : (g : Shape) → Admitted g → faces g ≤ 256 → g.tracers * page_length g ≤ 39072
unfolding page_length
pages-fit g a h = mul-le-mul {n₂ = 8} {m₂ = 4884} a.tracers-small (omega (arith, few-lines g a (omega arith)))
