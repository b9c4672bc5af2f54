-- The numbers of a section of a file, and the parts that tracers' sections make.
use Rattle.std.specs.Prelude.{List, ℕ, ◌*◌, ℤ, take, drop}
use Rattle.whole.specs.Table.{table, blocks}
use Rattle.rules.specs.declared.Shape.{Shape}
use Rattle.rules.specs.declared.Mark.{Mark}
use Rattle.rules.specs.Field.{quadratic}
use Rattle.rules.specs.FieldFile.{section_length, part_from}
use Rattle.rules.specs.Bytes.{number32, number16}

-- the first n u32
unfoldable pub numbers_of : List ℕ → ℕ → List ℕ
numbers_of section n = table n (λ i. number32 section (4 * i))

-- the first n i16
unfoldable pub winds_of : List ℕ → ℕ → List ℤ
winds_of section n = table n (λ i. number16 section (2 * i))

-- a tracer's part, from its section
unfoldable pub part_of_section : Mark → Shape → List ℕ → List ℕ
unfolding part_from numbers_of section_length
part_of_section m g section = part_from quadratic m g (numbers_of section (section_length quadratic m g))

-- the parts of all tracers, from their sections one after the other
unfoldable pub parts_of_sections : Mark → Shape → List ℕ → List ℕ
unfolding blocks part_of_section section_length
parts_of_sections m g sections =
    let n = 4 * section_length quadratic m g in
    blocks g.tracers (λ s. part_of_section m g (take n (drop (s * n) sections)))
