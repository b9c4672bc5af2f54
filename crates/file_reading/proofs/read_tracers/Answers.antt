use Rattle.std.proofs.Common.{◌≡◌, ◌<◌, ◌≤◌, ◌+◌, ◌-◌, ◌*◌, refl, sym, ap, subst, ◌∙◌, inl, ◌++◌, take, drop, get_or, arith}
use native.Mathlib.Nat.{zero-mul}
use Rattle.rules.specs.Field.{quadratic, field_length}
use Rattle.rules.specs.FieldFile.{section_length}
use Rattle.field_layout.proofs.PlaceLaws.{field_is, field-le}
use Rattle.file_reading.proofs.PartLaws.{above, TracersRead, none-read, sections-left, is_next, next-room, next-sound, next-held, next-read, all-read}
use Rattle.file_reading.proofs.read_tracers.Goals as goal
use Rattle.file_reading.proofs.read_tracers.Goals.{In-Some}

pub chunks_exact-requires : goal.chunks_exact-requires
chunks_exact-requires c = omega (arith, c.section_length.ensures, above c.args.layout)

pub loop-s-init : goal.loop-s-init
loop-s-init c =
    let m = c.args.layout.mark in
    let g = c.args.layout.grid.shape in
    let a = c.args.layout.grid.admitted in
    let b = c.args.sections.now in
    let n = 4 * section_length quadratic m g in
    let e = c.into_iter-s-iterator.ensures.into_iter_gives in
    let q = c.enumerate-s-items.ensures in
    let source = ap (λ s. s.iter) e ∙ q.source in
    let none = ap (λ s. s.count) e ∙ q.count in
    let size = ap (λ s. s.size) source ∙ c.chunks_exact.ensures.size ∙ ap (λ k. 4 * k) c.section_length.ensures in
    let within : c.into_iter-s-iterator.result.count ≤ g.tracers = omega (arith, none) in
    let rest = ap (λ s. s.rest.now) source ∙ c.chunks_exact.ensures.rest in
    let first = rest ∙ sym (ap (λ k. drop k b) (ap (λ k. k * n) none ∙ zero-mul n)) in (
      (omega (arith, size, above c.args.layout), tt, inl (omega (arith, a.tracers-small, sections-left m g b n refl c.requires.sections_len within first (above c.args.layout) _ size))),
      tt,
      size,
      within,
      subst (λ k. TracersRead m g b n refl c.args.field.now k c.into_iter-s-iterator.result.iter.rest.now 0 c.args.field.now) (sym none)
          (subst (λ l. TracersRead m g b n refl c.args.field.now 0 l 0 c.args.field.now) (sym rest) (none-read m g b n refl c.args.field.now c.requires.shape_in_bounds)),
    )

-- a section that is read is one of the tracers', and its part is there
there : (c : In-Some) → c.loop-s.s-iterator.count < c.args.layout.grid.shape.tracers
there c =
    let l = c.loop-s in
    let e = c.in-Some.ensures.steps.0.1 in
    is_next c.args.layout.mark c.args.layout.grid.shape c.args.sections.now _ refl c.requires.sections_len l.invariant.3 l.invariant.4.rest c.in-Some.section.now _ e.0 (e.1 ∙ l.invariant.2) (above c.args.layout)

room : (c : In-Some) → c.loop-s.to + c.part_length-n.result ≤ field_length quadratic c.args.layout.grid.shape
room c =
    let l = c.loop-s in
    let e = c.in-Some.ensures.steps.0.1 in
    omega (arith, c.part_length-n.ensures, next-room c.args.layout.mark c.args.layout.grid.shape c.args.sections.now _ refl c.requires.sections_len l.invariant.3 l.invariant.4.rest c.in-Some.section.now _ e.0 (e.1 ∙ l.invariant.2) (above c.args.layout) l.to l.invariant.4.place)

pub overflow_add-to : goal.overflow_add-to
overflow_add-to c = record { fits = omega (arith, room (goal.at.overflow_add-to c).In-Some, field_is c.args.layout.grid.shape, field-le c.args.layout.grid.shape c.args.layout.grid.admitted) }

pub offset_bounds-field-to : goal.offset_bounds-field-to
offset_bounds-field-to c = record { fits = omega (arith, room (goal.at.offset_bounds-field-to c).In-Some, field_is c.args.layout.grid.shape, field-le c.args.layout.grid.shape c.args.layout.grid.admitted) }

pub bounds-totals-s : goal.bounds-totals-s
bounds-totals-s c = omega (arith, c.in-Some.ensures.steps.1, there (goal.at.bounds-totals-s c).In-Some, c.args.layout.grid.admitted.tracers-small)

pub slice_bounds-read_summed-end : goal.slice_bounds-read_summed-end
slice_bounds-read_summed-end c = omega (arith, room (goal.at.slice_bounds-read_summed-end c).In-Some, c.requires.shape_in_bounds, c.loop-s.auto.field)

pub read_summed-requires-clause-section_len : goal.read_summed-requires-clause-section_len
read_summed-requires-clause-section_len c = c.in-Some.ensures.steps.0.1.1 ∙ c.loop-s.invariant.2

pub read_summed-requires-clause-section_sound : goal.read_summed-requires-clause-section_sound
read_summed-requires-clause-section_sound c =
    let l = c.loop-s in
    let e = c.in-Some.ensures.steps.0.1 in
    next-sound c.args.layout.mark c.args.layout.grid.shape c.args.sections.now _ refl c.requires.sections_len l.invariant.3 l.invariant.4.rest c.in-Some.section.now _ e.0 (e.1 ∙ l.invariant.2) (above c.args.layout) c.requires.sections_sound

pub read_summed-requires-clause-section_sum : goal.read_summed-requires-clause-section_sum
read_summed-requires-clause-section_sum c =
    let l = c.loop-s in
    let p = there (goal.at.read_summed-requires-clause-section_sum c).In-Some in
    let e = c.in-Some.ensures.steps.0.1 in
    ap (λ k. get_or c.args.totals.now k 0) c.in-Some.ensures.steps.1 ∙ c.requires.sections_totals l.s-iterator.count p
    ∙ sym (next-held c.args.layout.mark c.args.layout.grid.shape c.args.sections.now _ refl c.requires.sections_len l.invariant.3 l.invariant.4.rest c.in-Some.section.now _ e.0 (e.1 ∙ l.invariant.2) (above c.args.layout))

pub loop-s-preserved : goal.loop-s-preserved
loop-s-preserved c =
    let m = c.args.layout.mark in
    let g = c.args.layout.grid.shape in
    let a = c.args.layout.grid.admitted in
    let b = c.args.sections.now in
    let n = 4 * section_length quadratic m g in
    let f = c.args.field.now in
    let l = c.loop-s in
    let t = c.in-Some.ensures.steps in
    let count : c.next.new.self.count ≡ l.s-iterator.count + 1 = t.2 in
    let size = t.0.0 ∙ l.invariant.2 in
    let within : c.next.new.self.count ≤ g.tracers = omega (arith, count, there (goal.at.loop-s-preserved c).In-Some) in
    let h = above c.args.layout in
    let next = subst (λ k. TracersRead m g b n refl f k c.next.new.self.iter.rest.now (l.to + c.part_length-n.result) (take l.to l.field ++ (c.read_summed.new.part ++ drop (l.to + c.part_length-n.result - l.to) (drop l.to l.field)))) (sym count)
    (next-read m g b n refl c.requires.sections_len l.invariant.3 l.invariant.4.rest c.in-Some.section.now _ t.0.1.0 (t.0.1.1 ∙ l.invariant.2) h
    c.part_length-n.result (l.to + c.part_length-n.result - l.to) c.read_summed.new.part l.invariant.4 c.part_length-n.ensures (omega arith) c.read_summed.ensures) in (
      (omega (arith, size, h), tt, inl (omega (arith, a.tracers-small, sections-left m g b n refl c.requires.sections_len within next.rest h _ size))),
      tt,
      size,
      within,
      next,
    )

pub returns : goal.returns
returns c =
    let l = c.loop-s in
    all-read c.args.layout.mark c.args.layout.grid.shape c.args.sections.now _ refl c.requires.sections_len l.invariant.3 l.invariant.4.rest l.invariant.4 (omega (arith, c.in-None.ensures.steps.0.1.0, l.invariant.2))
