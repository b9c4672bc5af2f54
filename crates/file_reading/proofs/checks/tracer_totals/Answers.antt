-- The sections, cut where each tracer's begins: every one makes the part of its tracer.
use Rattle.std.proofs.Common.{◌≡◌, ◌<◌, ◌≤◌, ◌+◌, ◌*◌, refl, sym, ap, subst, ◌∙◌, inl, is_ok, arith}
use native.Mathlib.Nat.{zero-mul}
use lib.ListN.{set, drop}
use Rattle.rules.specs.Answers.{answered}
use Rattle.rules.specs.Field.{quadratic}
use Rattle.rules.specs.FieldFile.{section_length}
use Rattle.field_search.proofs.SearchLaws.{is-sound}
use Rattle.file_sections.specs.Numbers.{part_of_section}
use Rattle.file_reading.proofs.PartLaws.{above, TracersSummed, none-summed, sections-left, is_next, next-unsound, next-summed, all-sound, all-summed}
use Rattle.file_reading.proofs.checks.tracer_totals.Goals as goal
use Rattle.file_reading.proofs.checks.tracer_totals.Goals.{In-Some}

pub chunks_exact-requires : goal.chunks_exact-requires
chunks_exact-requires c = omega (arith, c.section_length.ensures, above c.args.layout)

pub loop-s-init : goal.loop-s-init
loop-s-init c =
    let m = c.args.layout.mark in
    let g = c.args.layout.grid.shape in
    let a = c.args.layout.grid.admitted in
    let b = c.args.sections.now in
    let n = 4 * section_length quadratic m g in
    let e = c.into_iter-s-iterator.ensures.into_iter_gives in
    let q = c.enumerate-s-items.ensures in
    let source = ap (λ s. s.iter) e ∙ q.source in
    let none = ap (λ s. s.count) e ∙ q.count in
    let size = ap (λ s. s.size) source ∙ c.chunks_exact.ensures.size ∙ ap (λ k. 4 * k) c.section_length.ensures in
    let within : c.into_iter-s-iterator.result.count ≤ g.tracers = omega (arith, none) in
    let rest = ap (λ s. s.rest.now) source ∙ c.chunks_exact.ensures.rest in
    let first = rest ∙ sym (ap (λ k. drop k b) (ap (λ k. k * n) none ∙ zero-mul n)) in (
      (omega (arith, size, above c.args.layout), tt, inl (omega (arith, a.tracers-small, sections-left m g b n refl c.requires within first (above c.args.layout) _ size))),
      tt,
      size,
      within,
      subst (λ k. TracersSummed m g b n refl _ k c.into_iter-s-iterator.result.iter.rest.now _) (sym none) (subst (λ l. TracersSummed m g b n refl _ 0 l _) (sym rest) (none-summed m g b n refl _ (omega (arith, a.tracers-small)))),
    )

-- a section that is searched is one of the tracers'
there : (c : In-Some) → c.loop-s.s-iterator.count < c.args.layout.grid.shape.tracers
there c =
    let l = c.loop-s in
    let e = c.in-Some.ensures.steps.0.1 in
    is_next c.args.layout.mark c.args.layout.grid.shape c.args.sections.now _ refl c.requires l.invariant.3 l.invariant.4.rest c.in-Some.section.now _ e.0 (e.1 ∙ l.invariant.2) (above c.args.layout)

pub returns-in_default-clause-sound : goal.returns-in_default-clause-sound
returns-in_default-clause-sound c =
    let l = c.loop-s in
    let m = c.args.layout.mark in
    let g = c.args.layout.grid.shape in
    let e = c.in-Some.ensures.steps.0.1 in
    sym (next-unsound m g c.args.sections.now _ refl c.requires l.invariant.3 l.invariant.4.rest c.in-Some.section.now _ e.0 (e.1 ∙ l.invariant.2) (above c.args.layout)
    (sym (ap is_ok c.in_default.is) ∙ is-sound g (part_of_section m g c.in-Some.section.now) c.tracer_sum.result c.tracer_sum.ensures))

pub bounds-totals-s : goal.bounds-totals-s
bounds-totals-s c = omega (arith, c.in-Some.ensures.steps.1, there (goal.at.bounds-totals-s c).In-Some, c.args.layout.grid.admitted.tracers-small)

pub loop-s-preserved : goal.loop-s-preserved
loop-s-preserved c =
    let m = c.args.layout.mark in
    let g = c.args.layout.grid.shape in
    let a = c.args.layout.grid.admitted in
    let b = c.args.sections.now in
    let n = 4 * section_length quadratic m g in
    let l = c.loop-s in
    let t = c.in-Some.ensures.steps in
    let count : c.next.new.self.count ≡ l.s-iterator.count + 1 = t.2 in
    let size = t.0.0 ∙ l.invariant.2 in
    let within : c.next.new.self.count ≤ g.tracers = omega (arith, count, there (goal.at.loop-s-preserved c).In-Some) in
    let h = above c.args.layout in
    let summed = subst (λ k. TracersSummed m g b n refl _ (l.s-iterator.count + 1) c.next.new.self.iter.rest.now (set l.totals k c.in-Ok.sum)) (sym t.1)
    (next-summed m g b n refl c.requires l.invariant.3 l.invariant.4.rest c.in-Some.section.now _ t.0.1.0 (t.0.1.1 ∙ l.invariant.2) h c.in-Ok.sum l.invariant.4 (sym (ap answered c.in-Ok.is) ∙ c.tracer_sum.ensures)) in
    let next = subst (λ k. TracersSummed m g b n refl _ k c.next.new.self.iter.rest.now (set l.totals c.in-Some.s c.in-Ok.sum)) (sym count) summed in (
      (omega (arith, size, h), tt, inl (omega (arith, a.tracers-small, sections-left m g b n refl c.requires within next.rest h _ size))),
      tt,
      size,
      within,
      next,
    )

pub returns-clause-sound : goal.returns-clause-sound
returns-clause-sound c =
    let l = c.loop-s in
    all-sound c.args.layout.mark c.args.layout.grid.shape c.args.sections.now _ refl c.requires l.invariant.3 l.invariant.4.rest l.invariant.4 (omega (arith, c.in-None.ensures.steps.0.1.0, l.invariant.2))

pub returns-clause-totals : goal.returns-clause-totals
returns-clause-totals c =
    let l = c.loop-s in
    all-summed c.args.layout.mark c.args.layout.grid.shape c.args.sections.now _ refl c.requires l.invariant.3 l.invariant.4.rest l.invariant.4 (omega (arith, c.in-None.ensures.steps.0.1.0, l.invariant.2))
