-- Reading: the tail's answer and then the checks make the definition's answer; what is read after them is the file's wind and field.
use mathlib.Core.Path.{◌≡◌, sym, ap, subst, ◌∙◌}
use Rattle.whole.specs.Table.{overwrite}
use lib.ListN.{length}
use lib.Seq.{length-take-le}
use Prim.Native.Nat.{◌*◌}
use native.Mathlib.Omega.{arith}
use Rattle.rules.specs.Answers.{answered, accepted, mapped}
use Rattle.rules.specs.Field.{quadratic, faces}
use Rattle.rules.specs.FieldFile.{field_sound}
use Rattle.rules.specs.Bytes.{number16}
use Rattle.rules.proofs.AnswerLaws.{passed_on}
use Rattle.file_sections.specs.Numbers.{winds_of}
use Rattle.file_reading.specs.Reading.{tail_reply, shape_reply, AreTotals}
use Rattle.file_reading.proofs.CheckLaws.{given, Fitting, fitting, read-no-tail, read-refused, read_done}
use Rattle.file_reading.proofs.ReadLaws.{front-filled}
use Rattle.file_reading.proofs.read.Goals as goal
use Rattle.file_reading.proofs.read.Goals.{In_ok-totals, In-Ok}

-- the tail gave no shape, and its answer is the call's
pub returns-in_default : goal.returns-in_default
returns-in_default c =
    let a = c.args in
    let e = ap answered c.in_default.is in
    let r = read-no-tail a.file.now a.field.now a.wind.now _ (sym c.read_tail-tail.ensures ∙ e) in
    (e ∙ r.0, r.1)

-- the tail gave a shape
shaped : (c : In-Ok) → tail_reply c.args.file.now ≡ accepted c.in-Ok.shape
shaped c = sym c.read_tail-tail.ensures ∙ ap answered c.in-Ok.is

pub invariant_of-grid : goal.invariant_of-grid
invariant_of-grid c = record { admitted = (given c.args.file.now c.in-Ok.shape (shaped (goal.at.invariant_of-grid c).In-Ok)).sizes }

pub read_mark-mark-requires : goal.read_mark-mark-requires
read_mark-mark-requires c = (given c.args.file.now c.in-Ok.shape (shaped (goal.at.read_mark-mark-requires c).In-Ok)).long

-- every check is passed
passed : (c : In_ok-totals) → shape_reply c.read_mark-mark.result c.in-Ok.shape c.args.file.now (length c.args.field.now) (length c.args.wind.now) ≡ accepted tt
unfolding mapped
passed c = sym c.in_ok-totals.ensures.reply

fits : (c : In_ok-totals) → Fitting c.read_mark-mark.result c.in-Ok.shape c.args.file.now (length c.args.field.now) (length c.args.wind.now)
fits c = let a = c.args in fitting c.read_mark-mark.result c.in-Ok.shape a.file.now (length a.field.now) (length a.wind.now) (passed c)

pub sections-requires : goal.sections-requires
sections-requires c = (fits (goal.at.sections-requires c).In_ok-totals).long

pub slice_bounds-read_all-end : goal.slice_bounds-read_all-end
slice_bounds-read_all-end c = let h = fits (goal.at.slice_bounds-read_all-end c).In_ok-totals in omega (arith, h.winds, c.faces.ensures)

pub slice_bounds-read_all-end-2 : goal.slice_bounds-read_all-end-2
slice_bounds-read_all-end-2 c = let h = fits (goal.at.slice_bounds-read_all-end-2 c).In_ok-totals in sym (length-take-le c.faces.result c.args.wind.now (omega (arith, h.winds, c.faces.ensures)))

pub read_tracers-requires : goal.read_tracers-requires
read_tracers-requires c =
    let h = fits (goal.at.read_tracers-requires c).In_ok-totals in
    record { sections_len = c.sections.ensures.tracers_length; sections_sound = ap (field_sound quadratic c.in-Ok.shape) c.sections.ensures.tracers ∙ h.tracers; sections_totals = subst (λ f. AreTotals c.in-Ok.shape f c.in_ok-totals.totals) (sym c.sections.ensures.tracers) c.in_ok-totals.ensures.totals; shape_in_bounds = h.fields }

pub returns-in_err-totals : goal.returns-in_err-totals
unfolding mapped
returns-in_err-totals c =
    let a = c.args in
    let r = read-refused a.file.now a.field.now a.wind.now c.read_mark-mark.result c.read_mark-mark.ensures c.in-Ok.shape _ (shaped (goal.at.returns-in_err-totals c).In-Ok) (sym c.in_err-totals.ensures.reply) in
    (passed_on c.from_residual.result _ c.from_residual.ensures.1 ∙ r.0, r.1)

pub returns : goal.returns
unfolding winds_of
returns c =
    let a = c.args in
    let g = c.in-Ok.shape in
    let p = goal.at.returns c in
    let h = fits p.In_ok-totals in
    let r = read_done a.file.now a.field.now a.wind.now c.read_mark-mark.result c.read_mark-mark.ensures g (shaped p.In-Ok) (passed p.In_ok-totals) in
    let s = c.sections in (
      r.0,
      (
        c.read_tracers.ensures ∙ ap (λ l. overwrite 0 l a.field.now) s.ensures.tracers ∙ r.1.0,
        front-filled c.faces.result (faces g) (λ i. number16 s.result.0.now (2 * i)) _ _ a.wind.now c.faces.ensures h.winds c.read_all.ensures s.ensures.winds ∙ r.1.1,
      ),
    )
