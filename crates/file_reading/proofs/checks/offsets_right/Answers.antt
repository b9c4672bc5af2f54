-- Length and offsets: each test is the definition's; entry i of the table is that of section i.
use Rattle.std.proofs.Common.{◌≡◌, sym, ap, ◌∙◌, ◌≤◌, ◌+◌, ◌-◌, ◌*◌, length, take, drop, rules, arith}
use borrow.Author.Tests.{eqb-true, eqb-false}
use lib.ListN.{length-drop, length-append}
use Rattle.std.proofs.lemmas.List.{take_rest}
use Rattle.whole.proofs.OverwriteLaws.{part-size}
use Rattle.rules.specs.Field.{quadratic}
use Rattle.rules.specs.FieldFile.{file_length}
use Rattle.field_search.proofs.RunLaws.{numbered-chunks-all, serves}
use Rattle.file_layout.proofs.LayoutLaws.{length-is}
use Rattle.file_reading.proofs.ReadLaws.{place-at, entry-right, offset, wrong-length, wrong-table, by-offsets}
use Rattle.file_reading.proofs.checks.offsets_right.Goals as goal
use Rattle.file_reading.proofs.checks.offsets_right.Goals.{After-table_start-table, Else-n-file_length}

pub returns-then-n-file_length : goal.returns-then-n-file_length
returns-then-n-file_length c =
    let a = c.args in
    wrong-length a.layout.mark a.layout.grid.shape a.file.now (λ e. omega (arith, e, c.if-n-file_length.true, c.file_length.ensures))

-- a file of the right length
long : (c : Else-n-file_length) → length c.args.file.now ≡ file_length quadratic c.args.layout.mark c.args.layout.grid.shape
long c = omega (arith, c.if-n-file_length.false, c.file_length.ensures)

pub overflow_sub-n : goal.overflow_sub-n
overflow_sub-n c = omega (arith, long (goal.at.overflow_sub-n c).Else-n-file_length, length-is quadratic c.args.layout.mark c.args.layout.grid.shape)

pub overflow_sub-n-2 : goal.overflow_sub-n-2
overflow_sub-n-2 c = omega (arith, long (goal.at.overflow_sub-n-2 c).Else-n-file_length, length-is quadratic c.args.layout.mark c.args.layout.grid.shape)

pub is_place-requires : goal.is_place-requires
is_place-requires c = simp (take_rest, length-drop) (omega (arith, long (goal.at.is_place-requires c).Else-n-file_length, length-is quadratic c.args.layout.mark c.args.layout.grid.shape))

pub slice_bounds-chunks_exact-count : goal.slice_bounds-chunks_exact-count
slice_bounds-chunks_exact-count c = omega (arith, long (goal.at.slice_bounds-chunks_exact-count c).Else-n-file_length, length-is quadratic c.args.layout.mark c.args.layout.grid.shape, c.table_start-table.ensures)

pub slice_bounds-chunks_exact-start : goal.slice_bounds-chunks_exact-start
slice_bounds-chunks_exact-start c = omega (arith, long (goal.at.slice_bounds-chunks_exact-start c).Else-n-file_length, length-is quadratic c.args.layout.mark c.args.layout.grid.shape, c.table_start-table.ensures)

-- the table of a file of the right length has an entry for each section
size : (c : After-table_start-table) → length c.args.file.now ≡ file_length quadratic c.args.layout.mark c.args.layout.grid.shape
    → length c.args.file.now - 12 - c.table_start-table.result ≡ 4 * (c.args.layout.grid.shape.tracers + 1)
size c h = omega (arith, h, length-is quadratic c.args.layout.mark c.args.layout.grid.shape, c.table_start-table.ensures)

entries : (c : After-table_start-table) → length c.args.file.now ≡ file_length quadratic c.args.layout.mark c.args.layout.grid.shape
    → length (take (length c.args.file.now - 12 - c.table_start-table.result) (drop c.table_start-table.result c.args.file.now)) ≡ 4 * (c.args.layout.grid.shape.tracers + 1)
entries c h = part-size (4 * (c.args.layout.grid.shape.tracers + 1)) c.table_start-table.result _ c.args.file.now (size c h) (omega (arith, h, length-is quadratic c.args.layout.mark c.args.layout.grid.shape, c.table_start-table.ensures))

pub returns-then-not-is_place : goal.returns-then-not-is_place
returns-then-not-is_place c =
    let a = c.args in
    wrong-table a.layout.mark a.layout.grid.shape a.file.now (long (goal.at.returns-then-not-is_place c).Else-n-file_length)
    (λ q. eqb-false _ _ (sym c.is_place.ensures ∙ c.if-not-is_place.true) (place-at a.file.now (length a.file.now - 8) ∙ q ∙ sym c.table_start-table.ensures))

-- the table has an entry for each section: a turn takes one, and the entries taken and left are all of them
pub all-requires-clause-callable : goal.all-requires-clause-callable
all-requires-clause-callable c =
    serves (λ u. (u.iter.size ≡ 4) × (4 * u.count + length u.iter.rest.now ≡ 4 * (c.args.layout.grid.shape.tracers + 1)))
    (λ u x w i e.
    let size : length x.1.now ≡ 4 = e.0.1.1 ∙ i.0 in
    let rest : length u.iter.rest.now ≡ length x.1.now + length w.iter.rest.now = ap length e.0.1.0 ∙ length-append x.1.now w.iter.rest.now in
    let there : x.0 ≤ c.args.layout.grid.shape.tracers + 1 = omega (arith, e.1, i.1) in
    ((e.0.0 ∙ i.0, omega (arith, e.2, i.1)), search rules))
    (λ x q k. search rules) (ap (λ s. s.size) c.enumerate.ensures.source ∙ c.chunks_exact.ensures.size, omega (arith, c.enumerate.ensures.count, ap (λ s. length s.rest.now) c.enumerate.ensures.source, ap length c.chunks_exact.ensures.rest, entries (goal.at.all-requires-clause-callable c).After-table_start-table (long (goal.at.all-requires-clause-callable c).Else-n-file_length)))

pub returns : goal.returns
returns c =
    let a = c.args in
    let m = a.layout.mark in
    let g = a.layout.grid.shape in
    let h = long (goal.at.returns c).Else-n-file_length in
    let n = length a.file.now - 12 - c.table_start-table.result in
    let l = take n (drop c.table_start-table.result a.file.now) in
    let many = entries (goal.at.returns c).After-table_start-table h in
    by-offsets m g a.file.now h (sym (place-at a.file.now (length a.file.now - 8)) ∙ eqb-true _ _ (sym c.is_place.ensures ∙ c.if-not-is_place.false) ∙ c.table_start-table.ensures) _
    (sym (numbered-chunks-all _ _ 4 (g.tracers + 1) l (offset m g a.file.now) (λ x b k i d q t. entry-right m g a.file.now _ n c.table_start-table.ensures x.0 k x.1.now b (omega (arith, i, size (goal.at.returns c).After-table_start-table h)) d q (search rules)) c.enumerate.result c.chunks_exact.result c.all.result (omega arith) (omega (arith, many))
    (λ p e. c.enumerate.ensures.runs p p.seen e) (λ p e. grind (arith, c.chunks_exact.ensures)) (λ x r q k. search rules) c.all.ensures.runs))
