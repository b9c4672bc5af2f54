-- Lists of calls, evaluated: their answers, what they leave, their ledgers, and the same with the calls on smoke 1 struck out, in one theorem over
-- a table. The numbers are the reference program's (`reference/tests/listed.rs`).
use mathlib.Core.Path.{◌≡◌, refl}
use mathlib.Core.List.{List, [], ◌∷◌, map}
use Prim.Native.Nat.{ℕ, ◌+◌, ◌*◌}
use lib.IntN.{ℤ, pos, negsuc}
use lib.ListN.{get_or, replicate}
use Rattle.whole.specs.Sum.{sum, sum_ℤ, all}
use Rattle.whole.specs.Nearest.{nearest_natural, nearest}
use Rattle.whole.specs.Parts.{positive}
use Rattle.whole.specs.Table.{table, blocks, overwrite}
use Rattle.rules.specs.declared.Shape.{Shape}
use Rattle.rules.specs.declared.Way.{Way}
use Rattle.rules.specs.declared.Way.TheVariants.{East, North}
use Rattle.rules.specs.Answers.{Answer, accepted, refused, answer, after}
use Rattle.rules.specs.Field.{quadratic, admitted, elements, faces, work_needed, element_length, elements_length, part_length, field_length, part, with_part, cell, remainder, mass, total, stored_total, part_of, with_stored_total, sum_sound, sound, stored_sound, element_sound, named_sound, if_there, weighted, weight_sum}
use Rattle.rules.specs.Limiter.{mean_shift, adjusted, truncated, clipped, rescaled, rescaled_value, closing_remainder, closed_unlevelled, closed}
use Rattle.rules.specs.Grid.{east, west, north, south, behind, ahead}
use Rattle.rules.specs.Stages.{upwind, place_wind, advection, along_x, along_y, tendency, tabulated, stage0, stage1, stage2, tentative, flux_of, face_sum, stages, flux}
use Rattle.rules.specs.Correction.{donor, outflow, with_sign, cut, limited_flux, target}
use Rattle.rules.specs.HeldFlux.{node_rise, face_rise, with_held_flux}
use Rattle.rules.specs.Step.{fluxes, report, closed_element, finish, tracer_step}
use Rattle.rules.specs.Calls.{load, emission, withdrawal, step, Reply, no_report, wind_sound, zero_wind, zero_field, loaded_value, loaded_element, with_element, emitted, withdrawn, loaded, done, lent_enough, checks, call, one_face, from_records, wind_reply, new_wind, wind_after}
use Rattle.rules.specs.Bytes.{number32, number64}
use Rattle.rules.specs.WindRecords.{magnitude, exact_value, face_wind, components_at, whole_at, reading_checks, record_checks, record_start, all_record_checks, record_winds}
use Rattle.rules.specs.Ledger.{carried, entry}
use Rattle.ledger.specs.Lists.{Call, on_wind, on, fresh, lend, unreported, perform, run, line, ledger_from, ledger, stays, strike, replies_left}

-- a list of calls on two smokes, its answers, the parts of the smokes, each with its stored total at the end, the winds and the ledgers of the smokes after it
pub record Listing : Type 0 where
  pub shape : Shape
  pub calls : List Call
  pub replies : List (Answer Reply)
  pub parts : List (List ℕ)
  pub winds : List ℤ
  pub ledgers : List (List ℤ)

abbrev wind : Way → ℕ → ℕ → ℤ → Call
wind way i j c = on_wind (one_face (record { way = way; i = i; j = j; wind = c }))

abbrev imports : List ℕ → Call
imports records = on_wind (from_records records)

abbrev yes : Answer Reply
yes = accepted (no_report 0)

abbrev stepped : List ℤ → ℕ → Answer Reply
stepped r n = accepted (record { report = r; clipped = n })

-- one row, so that a north face has both its ends at one element: both steps of smoke 0 cut what leaves an element, less than 6 at each face, so that no
-- node rises or falls; one face runs against its wind
abbrev pub on-one-row : Listing
on-one-row = record {
  shape = record { nx = 2; ny = 1; tracers = 2 };
  calls =
      on 0 (load (0 ∷ 0 ∷ 37 ∷ 0 ∷ 0 ∷ 0 ∷ 0 ∷ 4 ∷ 26 ∷ 0 ∷ 0 ∷ 0 ∷ 15 ∷ 0 ∷ 0 ∷ 0 ∷ 4 ∷ 0 ∷ []))
      ∷ on 0 (emission 1 0 16)
      ∷ on 1 (emission 2 0 100000001)
      ∷ on 1 (emission 0 0 172)
      ∷ wind East 0 0 (pos 1024)
      ∷ wind East 1 0 (pos 700)
      ∷ wind East 2 0 (negsuc 1024)
      ∷ wind North 0 0 (pos 300)
      ∷ on 0 (step tt)
      ∷ on 1 (step tt)
      ∷ on 0 (withdrawal 1 0 107)
      ∷ on 0 (withdrawal 1 0 54)
      ∷ on 1 (load (100000000 ∷ 0 ∷ 0 ∷ 0 ∷ 0 ∷ 0 ∷ 0 ∷ 0 ∷ 0 ∷ 0 ∷ 0 ∷ 0 ∷ 0 ∷ 0 ∷ 0 ∷ 0 ∷ 0 ∷ 1 ∷ []))
      ∷ on 0 (step tt)
      ∷ [];
  replies =
      yes
      ∷ yes
      ∷ refused 8
      ∷ yes
      ∷ yes
      ∷ yes
      ∷ refused 5
      ∷ yes
      ∷ stepped (pos 61 ∷ negsuc 6 ∷ pos 9 ∷ pos 0 ∷ []) 52
      ∷ stepped (pos 28 ∷ negsuc 3 ∷ pos 8 ∷ pos 0 ∷ []) 6
      ∷ yes
      ∷ refused 10
      ∷ refused 9
      ∷ stepped (pos 5 ∷ negsuc 3 ∷ pos 0 ∷ pos 0 ∷ []) 4
      ∷ [];
  parts = (0 ∷ 0 ∷ 1 ∷ 0 ∷ 0 ∷ 0 ∷ 0 ∷ 0 ∷ 0 ∷ 1 ∷ 6 ∷ 3 ∷ 0 ∷ 1 ∷ 1 ∷ 0 ∷ 4 ∷ 2 ∷ 1 ∷ 11 ∷ 64 ∷ []) ∷ (1 ∷ 4 ∷ 4 ∷ 1 ∷ 4 ∷ 4 ∷ 1 ∷ 4 ∷ 4 ∷ 14 ∷ 3 ∷ 0 ∷ 0 ∷ 3 ∷ 0 ∷ 0 ∷ 3 ∷ 0 ∷ 0 ∷ 14 ∷ 172 ∷ []) ∷ [];
  winds = pos 1024 ∷ pos 700 ∷ pos 300 ∷ pos 0 ∷ [];
  ledgers = (pos 2 ∷ pos 62 ∷ []) ∷ (pos 140 ∷ pos 32 ∷ []) ∷ [];
}

-- the same winds by an import: halves that go to the even one, and a record with an east component only in the place of a wind call that set its
-- north wind; the other imports are refused by their first fault
abbrev pub by-import : Listing
by-import = record {
  shape = on-one-row.shape;
  calls =
      on 0 (load (0 ∷ 0 ∷ 37 ∷ 0 ∷ 0 ∷ 0 ∷ 0 ∷ 4 ∷ 26 ∷ 0 ∷ 0 ∷ 0 ∷ 15 ∷ 0 ∷ 0 ∷ 0 ∷ 4 ∷ 0 ∷ []))
      ∷ on 0 (emission 1 0 16)
      ∷ on 1 (emission 0 0 172)
      ∷ wind North 1 0 (pos 55)
      ∷ imports (1 ∷ 0 ∷ 0 ∷ 0 ∷ 0 ∷ 0 ∷ 2 ∷ 208 ∷ 63 ∷ 0 ∷ 0 ∷ 0 ∷ 0 ∷ 0 ∷ 200 ∷ 178 ∷ 63 ∷ 2 ∷ 0 ∷ 0 ∷ 0 ∷ 0 ∷ 0 ∷ 220 ∷ 197 ∷ 63 ∷ [])
      ∷ imports (1 ∷ 0 ∷ 0 ∷ 0 ∷ 0 ∷ 0 ∷ 4 ∷ 208 ∷ 63 ∷ 0 ∷ 0 ∷ 0 ∷ 0 ∷ 0 ∷ 0 ∷ 0 ∷ 0 ∷ 2 ∷ 0 ∷ 0 ∷ 0 ∷ 0 ∷ 0 ∷ 0 ∷ 248 ∷ 127 ∷ [])
      ∷ on 0 (step tt)
      ∷ imports (2 ∷ 0 ∷ 0 ∷ 0 ∷ 0 ∷ 0 ∷ 0 ∷ 240 ∷ 255 ∷ 3 ∷ [])
      ∷ on 1 (step tt)
      ∷ on 0 (withdrawal 1 0 107)
      ∷ imports (1 ∷ 0 ∷ 0 ∷ 0 ∷ 0 ∷ 0 ∷ 0 ∷ 208 ∷ 63 ∷ 0 ∷ 0 ∷ 0 ∷ 0 ∷ 0 ∷ 0 ∷ 208 ∷ 63 ∷ 2 ∷ 0 ∷ 0 ∷ 0 ∷ 0 ∷ 0 ∷ 0 ∷ 208 ∷ [])
      ∷ imports (0 ∷ 0 ∷ 0 ∷ [])
      ∷ on 0 (step tt)
      ∷ [];
  replies =
      yes
      ∷ yes
      ∷ yes
      ∷ yes
      ∷ yes
      ∷ refused 5
      ∷ stepped (pos 61 ∷ negsuc 6 ∷ pos 9 ∷ pos 0 ∷ []) 52
      ∷ refused 12
      ∷ stepped (pos 28 ∷ negsuc 3 ∷ pos 8 ∷ pos 0 ∷ []) 6
      ∷ yes
      ∷ refused 11
      ∷ refused 11
      ∷ stepped (pos 5 ∷ negsuc 3 ∷ pos 0 ∷ pos 0 ∷ []) 4
      ∷ [];
  parts = on-one-row.parts;
  winds = on-one-row.winds;
  ledgers = on-one-row.ledgers;
}

-- winds that go all four ways: the first step of smoke 0 cuts what leaves an element, 17 at one face, whose nodes fall and rise by 2, and two faces run
-- against their winds
abbrev pub all-four-ways : Listing
all-four-ways = record {
  shape = record { nx = 2; ny = 2; tracers = 2 };
  calls =
      on 0 (load (24 ∷ 38 ∷ 0 ∷ 6 ∷ 0 ∷ 0 ∷ 0 ∷ 0 ∷ 0 ∷ 21 ∷ 0 ∷ 22 ∷ 15 ∷ 0 ∷ 0 ∷ 8 ∷ 0 ∷ 0 ∷ 35 ∷ 0 ∷ 3 ∷ 15 ∷ 31 ∷ 10 ∷ 0 ∷ 0 ∷ 0 ∷ 24 ∷ 2 ∷ 0 ∷ 24 ∷ 2 ∷ 0 ∷ 38 ∷ 0 ∷ 0 ∷ []))
      ∷ on 0 (emission 1 1 16)
      ∷ on 1 (emission 2 0 100000001)
      ∷ on 1 (emission 0 0 172)
      ∷ wind East 0 0 (negsuc 1023)
      ∷ wind East 1 0 (pos 700)
      ∷ wind East 2 0 (negsuc 1024)
      ∷ wind East 0 1 (pos 300)
      ∷ wind East 1 1 (pos 300)
      ∷ wind North 0 0 (pos 500)
      ∷ wind North 1 0 (negsuc 299)
      ∷ wind North 0 1 (pos 1024)
      ∷ wind North 1 1 (pos 250)
      ∷ on 0 (step tt)
      ∷ on 1 (step tt)
      ∷ on 0 (step tt)
      ∷ on 0 (withdrawal 0 1 207)
      ∷ on 0 (withdrawal 0 1 220)
      ∷ on 1 (load (100000000 ∷ 0 ∷ 0 ∷ 0 ∷ 0 ∷ 0 ∷ 0 ∷ 0 ∷ 0 ∷ 0 ∷ 0 ∷ 0 ∷ 0 ∷ 0 ∷ 0 ∷ 0 ∷ 0 ∷ 1 ∷ 0 ∷ 0 ∷ 0 ∷ 0 ∷ 0 ∷ 0 ∷ 0 ∷ 0 ∷ 0 ∷ 0 ∷ 0 ∷ 0 ∷ 0 ∷ 0 ∷ 0 ∷ 0 ∷ 0 ∷ 0 ∷ []))
      ∷ on 0 (step tt)
      ∷ [];
  replies =
      yes
      ∷ yes
      ∷ refused 8
      ∷ yes
      ∷ yes
      ∷ yes
      ∷ refused 5
      ∷ yes
      ∷ yes
      ∷ yes
      ∷ yes
      ∷ yes
      ∷ yes
      ∷ stepped (negsuc 89 ∷ pos 20 ∷ pos 23 ∷ negsuc 2 ∷ negsuc 0 ∷ negsuc 11 ∷ pos 57 ∷ pos 12 ∷ []) 179
      ∷ stepped (pos 0 ∷ pos 0 ∷ pos 0 ∷ pos 0 ∷ pos 19 ∷ pos 0 ∷ negsuc 5 ∷ pos 0 ∷ []) 8
      ∷ stepped (negsuc 18 ∷ pos 3 ∷ pos 25 ∷ negsuc 1 ∷ pos 10 ∷ negsuc 10 ∷ pos 107 ∷ pos 12 ∷ []) 66
      ∷ yes
      ∷ refused 10
      ∷ refused 9
      ∷ stepped (negsuc 17 ∷ pos 2 ∷ pos 12 ∷ negsuc 1 ∷ pos 30 ∷ negsuc 8 ∷ pos 50 ∷ pos 11 ∷ []) 13
      ∷ [];
  parts = (0 ∷ 11 ∷ 10 ∷ 6 ∷ 23 ∷ 1 ∷ 4 ∷ 14 ∷ 2 ∷ 15 ∷ 7 ∷ 0 ∷ 2 ∷ 0 ∷ 0 ∷ 0 ∷ 3 ∷ 0 ∷ 0 ∷ 14 ∷ 2 ∷ 3 ∷ 0 ∷ 0 ∷ 7 ∷ 6 ∷ 0 ∷ 7 ∷ 7 ∷ 0 ∷ 7 ∷ 4 ∷ 1 ∷ 14 ∷ 5 ∷ 0 ∷ 16 ∷ 4 ∷ 0 ∷ 22 ∷ 952 ∷ []) ∷ (0 ∷ 0 ∷ 0 ∷ 3 ∷ 5 ∷ 1 ∷ 3 ∷ 7 ∷ 1 ∷ 19 ∷ 0 ∷ 0 ∷ 0 ∷ 0 ∷ 0 ∷ 0 ∷ 0 ∷ 0 ∷ 0 ∷ 0 ∷ 0 ∷ 2 ∷ 1 ∷ 0 ∷ 0 ∷ 0 ∷ 0 ∷ 0 ∷ 0 ∷ 16 ∷ 0 ∷ 0 ∷ 0 ∷ 0 ∷ 0 ∷ 0 ∷ 0 ∷ 0 ∷ 0 ∷ 0 ∷ 172 ∷ []) ∷ [];
  winds = negsuc 1023 ∷ pos 700 ∷ pos 300 ∷ pos 300 ∷ pos 500 ∷ negsuc 299 ∷ pos 1024 ∷ pos 250 ∷ [];
  ledgers = (pos 527 ∷ pos 26 ∷ pos 185 ∷ pos 214 ∷ []) ∷ (pos 147 ∷ pos 0 ∷ pos 25 ∷ pos 0 ∷ []) ∷ [];
}

-- a list evaluated from buffers of the needed lengths, which hold sevens before they are made fresh
unfoldable pub evaluated : Shape → List Call → Listing
unfolding run fresh ledger table part field_length
evaluated g cs =
    let r = run quadratic g (record { report_length = faces g; work_length = work_needed g }) cs (fresh quadratic g (replicate (field_length quadratic g) 7) (replicate (faces g) (pos 7))) in
    record {
      shape = g;
      calls = cs;
      replies = r.replies;
      parts = table 2 (λ s. part quadratic g s r.end.field);
      winds = r.end.wind;
      ledgers = table 2 (λ s. table (elements g) (ledger quadratic g cs r.replies s));
    }

-- the same with the calls on smoke 1 struck out: the answers that are left, and nothing of smoke 1
unfoldable pub struck : Listing → Listing
unfolding strike replies_left
struck l = record {
  shape = l.shape;
  calls = strike 0 l.calls;
  replies = replies_left 0 l.calls l.replies;
  parts = get_or l.parts 0 [] ∷ replicate (elements l.shape * 10 + 1) 0 ∷ [];
  winds = l.winds;
  ledgers = get_or l.ledgers 0 [] ∷ replicate (elements l.shape) (pos 0) ∷ [];
}

abbrev pub listings : List Listing
listings = on-one-row ∷ by-import ∷ all-four-ways ∷ struck on-one-row ∷ struck by-import ∷ struck all-four-ways ∷ []

pub listed : map (λ l. evaluated l.shape l.calls) listings ≡ listings
unfolding evaluated struck strike stays replies_left ledger ledger_from line entry carried
    run perform lend unreported call answer after admitted lent_enough checks if_there sum_sound sound stored_sound element_sound named_sound stored_total part_of with_stored_total wind_sound done loaded loaded_element loaded_value with_element emitted withdrawn wind_reply new_wind wind_after
    all_record_checks record_checks reading_checks record_start whole_at components_at record_winds face_wind exact_value magnitude nearest nearest_natural number64 number32
    fresh zero_field zero_wind element_length elements_length part_length field_length part with_part cell remainder mass total weighted weight_sum quadratic
    tracer_step stages stage0 stage1 stage2 tentative tabulated tendency along_x along_y advection place_wind upwind flux flux_of face_sum fluxes report donor outflow limited_flux cut with_sign node_rise face_rise with_held_flux closed_element finish target
    closed closed_unlevelled clipped adjusted mean_shift truncated rescaled rescaled_value closing_remainder east west north south behind ahead
    sum sum_ℤ all table blocks overwrite positive
listed = refl
