-- The passes of a step, one after the other, are document 01's step of a tracer's part: each section of work is the rules' list, so that the
-- report and every target are the rules'.
use mathlib.Core.Path.{◌≡◌, refl, sym, ap, subst, ◌∙◌}
use mathlib.Core.Bool.{true}
use mathlib.Core.List.{List}
use Prim.Native.Nat.{ℕ, suc, ◌+◌, ◌*◌, ◌/◌, ◌%◌, ◌≤◌, ◌<◌}
use native.Mathlib.Decide.{dec_lt}
use native.Mathlib.Nat.{div-add-mod'}
use native.Mathlib.Omega.{arith}
use lib.Dec.{le→leb}
use lib.IntN.{ℤ, pos, ◌+ℤ◌, ◌-ℤ◌, ◌*ℤ◌}
use lib.ListN.{length, get_or, replicate, get_or-eq_default}
use lib.Signed.{non_neg, ◌≤ℤ◌}
use Rattle.whole.specs.Bound.{Within, AllWithin}
use Rattle.whole.specs.Parts.{positive, negative}
use Rattle.whole.specs.Sum.{sum}
use Rattle.whole.specs.Table.{table, blocks, overwrite, at}
use Rattle.whole.proofs.Cases.{cond_ind}
use Rattle.whole.proofs.ListParts.{overwritten}
use Rattle.whole.proofs.BoundLaws.{within-le, within-sub, within-pos}
use Rattle.whole.proofs.SumLaws.{sum-cong}
use Rattle.whole.proofs.TableLaws.{length-table, get_d-table, table-all, table-cong, blocks-cong}
use Rattle.whole.proofs.WholeLaws.{positive-pos, abs-parts}
use Rattle.rules.specs.declared.Shape.{Shape}
use Rattle.rules.specs.Field.{quadratic, elements, faces, north_face, element_length, elements_length, part_length, stored_total, part_of, cell, remainder, mass, total, sound, limit, Admitted}
use Rattle.rules.specs.Grid.{west, south, behind, ahead}
use Rattle.rules.specs.Stages.{Stages, stages, stage0, flux}
use Rattle.rules.specs.Limiter.{closed}
use Rattle.rules.specs.Correction.{donor, outflow, cut, limited_flux, target}
use Rattle.rules.specs.HeldFlux.{rises, with_held_flux}
use Rattle.rules.specs.Step.{fluxes, report, closed_element}
use Rattle.rules.specs.Calls.{wind_at}
use Rattle.rules.specs.Sizes.{flux_size, outflow_size, stage_size, earlier_sum_size, sum_size, tentative_size, rise_size}
use Rattle.rules.proofs.FieldLaws.{summed}
use Rattle.rules.proofs.CorrectionLaws.{outflow-local}
use Rattle.rules.proofs.GridLaws.{behind-lt, ahead-lt}
use Rattle.rules.proofs.PartLaws.{value-le-mass, mass-le-total}
use Rattle.rules.proofs.LimiterLaws.{closed-cong}
use Rattle.rules.proofs.QuadraticLaws.{weights-above}
use Rattle.rules.proofs.StageBounds.{quadratic-bounded, ψ-within, flux-within}
use Rattle.rules.proofs.HeldLaws.{with_held_flux-cong, node_rise-within}
use Rattle.rules.proofs.StepLaws.{report-length, report-le, goal-above}
use Rattle.field_layout.proofs.PlaceLaws.{elements-are, part-is}
use Rattle.step_upwind.specs.Upwind.{stage_length, listed, as_stage, WindsInRange}
use Rattle.step_upwind.proofs.ListedLaws.{listed-at, listed-within}
use Rattle.step_stages.specs.Passes.{factor, new_value, new_sums}
use Rattle.step_stages.proofs.StagesLaws.{stage_list, sums_list, first-stage, first-sums, next-sums, next-stage, stage-small, sums-small}
use Rattle.step_stages.proofs.Laws.{new_sums-small}
use Rattle.step_fluxes.specs.Amount.{amount_size, stage_amount, rounded}
use Rattle.step_fluxes.proofs.FluxLaws.{amounts_list, first-amounts, next-amounts, amounts-small, fluxes-are}
use Rattle.step_correction.proofs.HeldLaws.{six}
use Rattle.step_correction.specs.Amounts.{NotNegative, Amounts, limited_face}
use Rattle.step.specs.Finish.{Balance, Values, mass_of, closed_lent}

not-below : (n : ℕ) → pos 0 ≤ℤ pos n
not-below n = record { le = le→leb 0 n (omega arith) }

-- what the step of a tracer's part is given
pub record Given (g : Shape) (wind : List ℤ) (p : List ℕ) : Type 0 where
  pub admits : Admitted g
  pub winds : WindsInRange g wind
  pub numbers : length p ≡ part_length quadratic g
  pub within-limit : total quadratic g p ≤ limit
  pub stored-within : stored_total quadratic g p ≤ limit

pub given-of : {g : Shape} {wind : List ℤ} {p : List ℕ} → Admitted g → WindsInRange g wind → length p ≡ part_length quadratic g → sound quadratic g p ≡ true → Given g wind p
given-of {g} {wind} {p} admits winds numbers h =
    let s = summed quadratic g p (rw h tt) in
    record { admits = admits; winds = winds; numbers = numbers; within-limit = s.0; stored-within = omega (arith, s.0, s.1) }

module _ {g : Shape} {wind : List ℤ} {p : List ℕ} (given : Given g wind p) where
  abbrev c : ℕ → ℤ
  c = wind_at wind

  abbrev s : Stages
  s = stages quadratic g c p

  admits : Admitted g
  admits = given.admits

  hx : 0 < g.nx
  hx = admits.nx-above

  hy : 0 < g.ny
  hy = admits.ny-above

  -- ---- sizes
  pub mass-small : (e : ℕ) → e < elements g → mass quadratic p e ≤ limit
  mass-small e l = omega (arith, mass-le-total quadratic g p e l, given.within-limit)

  -- every number of the part, those of its elements
  element_small : (i : ℕ) → i < elements g * 10 → get_or p i 0 ≤ limit
  unfolding mass remainder cell element_length quadratic
  element_small i l = go (dec_lt (i % 10) 9)
    where
      place : i ≡ i / 10 * 10 + i % 10
      place = sym (div-add-mod' i 10)

      e : i / 10 < elements g
      e = omega arith

      go : Dec (i % 10 < 9) → get_or p i 0 ≤ limit
      go (yes k) = omega (arith, ap (λ n. get_or p n 0) place, value-le-mass quadratic p (i / 10) (i % 10) k (weights-above (i % 10) k), mass-small (i / 10) e)
      go (no k) =
          let n : i % 10 ≡ 9 = omega arith in
          omega (arith, ap (λ n. get_or p n 0) place, ap (λ n. get_or p (i / 10 * 10 + n) 0) n, mass-small (i / 10) e)

  -- and its stored total
  number_small : (i : ℕ) → get_or p i 0 ≤ limit
  unfolding stored_total
  number_small i = go (dec_lt i (elements g * 10)) (dec_lt i (length p))
    where
      go : Dec (i < elements g * 10) → Dec (i < length p) → get_or p i 0 ≤ limit
      go (yes l) k = element_small i l
      go (no l) (yes k) = let n : i ≡ elements_length quadratic g = omega (arith, given.numbers, part-is g, elements-are g) in omega (arith, ap (λ n. get_or p n 0) n, given.stored-within)
      go (no l) (no k) = let z : get_or p i 0 ≡ 0 = get_or-eq_default p 0 (omega arith) in omega arith

  -- ---- the stages
  -- stage m, and the sums of the tendencies of those before it
  abbrev pub phi : ℕ → List ℤ
  phi = stage_list g c p

  abbrev pub sums : ℕ → List ℤ
  sums = sums_list g c p

  pub phi-small : (m : ℕ) → m < 3 → AllWithin stage_size (phi m)
  phi-small = stage-small g c p admits given.winds.small number_small

  pub earlier-small : (m : ℕ) → m < 3 → AllWithin earlier_sum_size (sums m)
  earlier-small = sums-small g c p admits given.winds.small number_small

  pub psi-small : AllWithin tentative_size (phi 3)
  psi-small = listed-within (elements g) s.ψ (λ e k le lk. within-le (ψ-within quadratic quadratic-bounded g hx hy c given.winds.small p limit number_small e k) (omega arith))

  -- the sums with those of stage m, and the sums of the faces
  pub with-small : (m : ℕ) → m < 3 → AllWithin sum_size (sums (suc m))
  with-small m l = subst (AllWithin sum_size) (next-sums g c p admits m l) (new_sums-small g wind (phi m) admits given.winds (phi-small m l) m (sums m) l (earlier-small m l))

  abbrev pub face_sums : ℕ → List ℤ
  face_sums = amounts_list g c p

  pub face_sums-small : (m : ℕ) → m ≤ 3 → AllWithin amount_size (face_sums m)
  face_sums-small = amounts-small g c p admits given.winds.small number_small

  pub stored : {first : List ℤ} → first ≡ listed (stage_length g) (stage0 quadratic p) → first ≡ phi 0
  stored e = e ∙ first-stage g c p

  pub zero_sums : {n : ℕ} {before : List ℤ} → n ≡ stage_length g → before ≡ replicate n (pos 0) → before ≡ sums 0
  zero_sums en e = e ∙ ap (λ n. replicate n (pos 0)) en ∙ first-sums g c p

  pub zero_face_sums : {n : ℕ} {before : List ℤ} → n ≡ faces g → before ≡ replicate n (pos 0) → before ≡ face_sums 0
  zero_face_sums en e = e ∙ ap (λ n. replicate n (pos 0)) en ∙ first-amounts g c p

  -- a pass, of stage k
  pub added : (m : ℕ) {k : ℕ} {stage before after : List ℤ} → m < 3 → k ≡ m → stage ≡ phi m → before ≡ sums m → after ≡ listed (stage_length g) (new_sums g c k before stage) → after ≡ sums (suc m)
  added m l ek es eb h = h ∙ (λ i. listed (stage_length g) (new_sums g c (ek i) (eb i) (es i))) ∙ next-sums g c p admits m l

  pub face-added : (m : ℕ) {k : ℕ} {stage before after : List ℤ} → k ≡ m → stage ≡ phi m → before ≡ face_sums m → after ≡ table (faces g) (λ f. at before f +ℤ pos (factor k) *ℤ stage_amount g c (as_stage stage) f) → after ≡ face_sums (suc m)
  face-added m ek es eb h = h ∙ (λ i. table (faces g) (λ f. at (eb i) f +ℤ pos (factor (ek i)) *ℤ stage_amount g c (as_stage (es i)) f)) ∙ next-amounts g c p admits m

  pub advanced : (m : ℕ) {k : ℕ} {after next : List ℤ} → m < 3 → k ≡ m → after ≡ sums (suc m) → next ≡ listed (stage_length g) (λ e n. new_value k (stage0 quadratic p e n) (as_stage after e n)) → next ≡ phi (suc m)
  advanced m l ek ea h = h ∙ (λ i. listed (stage_length g) (λ e n. new_value (ek i) (stage0 quadratic p e n) (as_stage (ea i) e n))) ∙ next-stage g c p m l

  -- ---- the fluxes
  abbrev pub flux_list : List ℤ
  flux_list = fluxes quadratic g c s

  abbrev G : ℕ → ℤ
  G = at flux_list

  flux-length : length flux_list ≡ faces g
  unfolding fluxes
  flux-length = length-table (faces g) _

  pub fluxed : {n : ℕ} {before made : List ℤ} → n ≡ faces g → before ≡ face_sums 3 → made ≡ table n (λ f. rounded (at before f)) → made ≡ flux_list
  unfolding fluxes
  fluxed en e h = h ∙ (λ i. table (en i) (λ f. rounded (at (e i) f))) ∙ fluxes-are g c p

  G-small : (f : ℕ) → Within flux_size (G f)
  unfolding fluxes
  G-small = table-all (Within flux_size) (faces g) (flux quadratic g c s) (pos 0) (within-le (within-pos 0) (omega arith)) (λ f l. flux-within quadratic quadratic-bounded g hx hy c given.winds.small p limit number_small f l)

  pub fluxes-small : AllWithin flux_size flux_list
  fluxes-small = record { all = G-small }

  -- ---- masses and outflows
  abbrev pub masses : List ℤ
  masses = table (elements g) (λ e. pos (mass quadratic p e))

  abbrev pub outflows : List ℤ
  outflows = table (elements g) (λ e. pos (outflow g (donor g G) G e))

  pub weighed : {n : ℕ} {made : List ℤ} → n ≡ elements g → made ≡ table n (λ e. pos (mass quadratic p e)) → made ≡ masses
  weighed en h = h ∙ ap (λ n. table n (λ e. pos (mass quadratic p e))) en

  pub drained : {fs made : List ℤ} → fs ≡ flux_list → made ≡ table (elements g) (λ e. pos (outflow g (donor g (at fs)) (at fs) e)) → made ≡ outflows
  drained ef h = h ∙ ap (λ (l : List ℤ). table (elements g) (λ e. pos (outflow g (donor g (at l)) (at l) e))) ef

  mass-at : (e : ℕ) → e < elements g → at masses e ≡ pos (mass quadratic p e)
  mass-at e l = get_d-table (elements g) (λ e. pos (mass quadratic p e)) e (pos 0) l

  out-at : (e : ℕ) → e < elements g → at outflows e ≡ pos (outflow g (donor g G) G e)
  out-at e l = get_d-table (elements g) (λ e. pos (outflow g (donor g G) G e)) e (pos 0) l

  mass-within : (e : ℕ) → e < elements g → NotNegative limit (at masses e)
  mass-within e l = subst (NotNegative limit) (sym (mass-at e l)) (record { above = not-below _; small = within-le (within-pos _) (mass-small e l) })

  -- an outflow is at most four fluxes
  out-small : (e : ℕ) → e < elements g → outflow g (donor g G) G e ≤ 464 * limit
  out-small e l =
      omega (
        arith,
        outflow-local g hx hy G e l,
        abs-parts (G e),
        abs-parts (G (west g e)),
        abs-parts (G (north_face g e)),
        abs-parts (G (north_face g (south g e))),
        (G-small e).within,
        (G-small (west g e)).within,
        (G-small (north_face g e)).within,
        (G-small (north_face g (south g e))).within,
      )

  -- ---- the limited fluxes
  donor-in : (f : ℕ) → f < faces g → donor g G f < elements g
  unfolding donor
  donor-in f l = cond_ind (non_neg (G f)) (behind g f) (ahead g f) (λ d. d < elements g) (λ _. behind-lt g hx hy f l) (λ _. ahead-lt g hx hy f l)

  abbrev pub limited : List ℤ
  limited = report quadratic g p flux_list

  cut_is : table (faces g) (limited_face g flux_list outflows masses) ≡ limited
  unfolding report limited_flux
  cut_is = table-cong (faces g) _ _ (λ f l. let d = donor-in f l in λ i. cut (G f) (out (donor g G f) d i) (own (donor g G f) d i))
    where
      out : (e : ℕ) → e < elements g → positive (at outflows e) ≡ get_or (table (elements g) (outflow g (donor g G) G)) e 0
      out e l = ap positive (out-at e l) ∙ positive-pos _ ∙ sym (get_d-table (elements g) (outflow g (donor g G) G) e 0 l)

      own : (e : ℕ) → e < elements g → positive (at masses e) ≡ mass quadratic p e
      own e l = ap positive (mass-at e l) ∙ positive-pos (mass quadratic p e)

  pub reported : {fs os ms made : List ℤ} → fs ≡ flux_list → os ≡ outflows → ms ≡ masses → made ≡ table (faces g) (limited_face g fs os ms) → made ≡ limited
  reported ef eo em h = h ∙ (λ i. table (faces g) (limited_face g (ef i) (eo i) (em i))) ∙ cut_is

  -- surplus of a report stays
  pub reported-over : (r : List ℤ) {fs os ms made : List ℤ} → fs ≡ flux_list → os ≡ outflows → ms ≡ masses → made ≡ overwrite 0 (table (faces g) (limited_face g fs os ms)) r → made ≡ overwrite 0 limited r
  reported-over r ef eo em h = h ∙ ap (λ x. overwrite 0 x r) (reported ef eo em refl)

  pub limited-over : (r : List ℤ) → length r ≡ faces g → overwrite 0 limited r ≡ limited
  limited-over r h = overwritten limited r (h ∙ sym (report-length quadratic g p flux_list))

  limited-small : (f : ℕ) → f < faces g → Within limit (at limited f)
  limited-small f l = record { within = report-le quadratic g p flux_list hx hy given.within-limit f l }

  limited-within : AllWithin limit limited
  limited-within = record { all = λ f. go f (dec_lt f (faces g)) }
    where
      go : (f : ℕ) → Dec (f < faces g) → Within limit (at limited f)
      go f (yes l) = limited-small f l
      go f (no l) = subst (Within limit) (sym (get_or-eq_default limited (pos 0) (omega (arith, report-length quadratic g p flux_list)))) (within-le (within-pos 0) (omega arith))

  amounts : Amounts g flux_list outflows masses
  amounts = record {
    all-faces = flux-length;
    all-outflows = length-table (elements g) _;
    all-masses = length-table (elements g) _;
    flux-sizes = λ f _. fluxes-small.all f;
    outflow-sizes = λ e l. subst (NotNegative outflow_size) (sym (out-at e l)) (record { above = not-below _; small = within-le (within-pos _) (omega (arith, out-small e l)) });
    mass-sizes = mass-within;
    cut-sizes = λ f l. subst (Within limit) (sym (sym (get_d-table (faces g) (limited_face g flux_list outflows masses) f (pos 0) l) ∙ ap (λ x. at x f) cut_is)) (limited-small f l);
  }

  pub amounts-of : {fs os ms : List ℤ} → fs ≡ flux_list → os ≡ outflows → ms ≡ masses → Amounts g fs os ms
  amounts-of ef eo em = rw (ef, eo, em) amounts

  -- ---- by how much the nodes of each face rise
  abbrev q : ℕ → ℤ
  q = rises quadratic flux_list limited

  abbrev pub rise_list : List ℤ
  rise_list = table (faces g) q

  pub raised : {fs r made : List ℤ} → fs ≡ flux_list → r ≡ limited → made ≡ table (length fs) (rises quadratic fs r) → made ≡ rise_list
  raised ef er h = h ∙ (λ i. table (length (ef i)) (rises quadratic (ef i) (er i))) ∙ ap (λ n. table n q) flux-length

  rise-small : (f : ℕ) → Within rise_size (q f)
  rise-small f = node_rise-within quadratic rise_size (at flux_list f) (at limited f) (omega (arith, six)) (within-le (within-sub (G-small f) (limited-within.all f)) (omega (arith, six)))

  values : Values g (phi 3) rise_list
  values = record {
    all-nodes = length-table (stage_length g) _;
    node-sizes = psi-small;
    all-faces = length-table (faces g) q;
    rise-sizes = record { all = table-all (Within rise_size) (faces g) q (pos 0) (within-le (within-pos 0) (omega arith)) (λ f _. rise-small f) };
  }

  pub values-of : {psi hs : List ℤ} → psi ≡ phi 3 → hs ≡ rise_list → Values g psi hs
  values-of ep eh = rw (ep, eh) values

  -- what is held back is found from both, as they are lent
  pub fluxes-lent : {fs : List ℤ} → fs ≡ flux_list → AllWithin flux_size fs
  fluxes-lent e = subst (AllWithin flux_size) (sym e) fluxes-small

  pub limited-lent : {r : List ℤ} → r ≡ limited → AllWithin limit r
  limited-lent e = subst (AllWithin limit) (sym e) limited-within

  -- ---- the targets
  target-same : (e : ℕ) → e < elements g → target g (mass_of masses) (at limited) e ≡ target g (mass quadratic p) (at limited) e
  unfolding target
  target-same e l =
      ap (λ m. pos m -ℤ at limited e +ℤ at limited (west g e) -ℤ at limited (north_face g e) +ℤ at limited (north_face g (south g e))) (ap positive (mass-at e l) ∙ positive-pos (mass quadratic p e))

  balance : Balance g masses limited
  balance = record {
    all-masses = length-table (elements g) _;
    mass-sizes = mass-within;
    all-fluxes = report-length quadratic g p flux_list;
    flux-sizes = limited-within;
    targets = λ e l. ap negative (target-same e l) ∙ goal-above quadratic g p flux_list hx hy e l;
  }

  pub balance-of : {ms r : List ℤ} → ms ≡ masses → r ≡ limited → Balance g ms r
  balance-of em er = rw (em, er) balance

  -- ---- the closings, from what is lent
  module _ {psi hs ms r : List ℤ} (ep : psi ≡ phi 3) (eh : hs ≡ rise_list) (em : ms ≡ masses) (er : r ≡ limited) where
    -- what the rules close with
    abbrev ψ : ℕ → ℕ → ℤ
    ψ = with_held_flux quadratic g q s.ψ

    same_values : (e k : ℕ) → e < elements g → k < 9 → with_held_flux quadratic g (at rise_list) (as_stage (phi 3)) e k ≡ ψ e k
    same_values e k le lk = with_held_flux-cong quadratic g (at rise_list) q (as_stage (phi 3)) s.ψ e k (λ f l. get_d-table (faces g) q f (pos 0) l) (listed-at (elements g) s.ψ e k le lk)

    same_closing : (e : ℕ) → e < elements g → closed_lent g psi hs ms r e ≡ closed_element quadratic g p limited ψ e
    unfolding closed_element closed_lent quadratic
    same_closing e l = (λ i. closed_lent g (ep i) (eh i) (em i) (er i) e)
        ∙ ap (λ z. closed quadratic (with_held_flux quadratic g (at rise_list) (as_stage (phi 3)) e) (positive z)) (target-same e l)
        ∙ closed-cong quadratic (with_held_flux quadratic g (at rise_list) (as_stage (phi 3)) e) (ψ e) _ (λ k lk. same_values e k l lk)

    pub all_closed : {part : List ℕ} → part ≡ part_of (blocks (elements g) (λ e. (closed_lent g psi hs ms r e).numbers)) (stored_total quadratic g p)
        → part ≡ part_of (blocks (elements g) (λ e. (closed_element quadratic g p limited ψ e).numbers)) (stored_total quadratic g p)
    all_closed h = h ∙ ap (λ x. part_of x (stored_total quadratic g p)) (blocks-cong (elements g) _ _ (λ e l. ap (λ x. x.numbers) (same_closing e l)))

    pub all_clipped : {n : ℕ} → n ≡ sum (elements g) (λ e. (closed_lent g psi hs ms r e).clipped) → n ≡ sum (elements g) (λ e. (closed_element quadratic g p limited ψ e).clipped)
    all_clipped h = h ∙ sum-cong (elements g) _ _ (λ e l. ap (λ x. x.clipped) (same_closing e l))
