-- Reading the record of a run gives that run, whatever bytes follow, and whatever rate is expected and room is lent.
use mathlib.Core.Path.{◌≡◌, refl, sym, ap, ap₂, ◌∙◌, subst}
use mathlib.Core.Bool.{Bool, true, false, cond}
use mathlib.Core.List.{List, [], ◌∷◌, ◌++◌, append-nil}
use mathlib.Core.Logic.{◌⊎◌}
use mathlib.Core.Option.{Option, none, some}
use Prim.Native.Nat.{ℕ, ◌≤◌, ◌<◌, ◌^◌}
use native.Mathlib.Omega.{arith}
use borrow.Author.Tests.{le-ltb}
use lib.ListN.{length}
use Rattle.lists.specs.Lists.{member}
use Rattle.lists.specs.Optional.{missing, list_of}
use Rattle.refusals.specs.declared.Refusal.{Refusal}
use Rattle.refusals.specs.Tests.{Test, test, refusal, first_of}
use Rattle.refusals.proofs.Tests.{first_of_here, first_of_skip, first_of_end, first_of_cong, first_of-append_clear}
use Rattle.outputs.specs.Outputs.{over}
use Rattle.ratio_format.specs.Bodies.{coded_ratios}
use Rattle.record_format.specs.declared.CheckAnswer.{CheckAnswer}
use Rattle.record_format.specs.Fields.{Field}
use Rattle.record_format.specs.Runs.{Run, positions_tag, ratios_tag, count_size, positions_field, ratios_field, front_fields, fields_of, record_of}
use Rattle.record_format.specs.Reading.{rate_at, positions_at, ratios_at, end_at, count_in, positions_in, ratios_in, other_rate, front_tests, positions_tests, ratios_tests, record_tests}
use Rattle.record_format.specs.Checking.{run_by, sound_check, found}
use Rattle.record_format.specs.Fetching.{lacks_room, read_tests, as_read, record_answer, read_with}
use Rattle.record_format.specs.Claims.{count_place}
use Rattle.record_format.specs.CheckClaims.{Expects, refused_found, run_check}
use Rattle.record_format.specs.OpenReading.{refused_by, run_answer}
use Rattle.record_format.proofs.Fields.{FieldStands, StandAll, laid_stand, past_all, stand_past, stand_append, past_append}
use Rattle.record_format.proofs.Reading.Fronts.{count_at_lem, front_past, rate_is, side_is, count_is, front_pass, form_is, positions_are, positions_pass}
use Rattle.record_format.proofs.Reading.{field_passes, front-numbered, other_rate_not, other_rate_none}
use Rattle.record_format.proofs.Checking.{found-refused, found-sound}
use Rattle.record_format.proofs.Fetching.{lacks_room_lem, with_room, without_room, answer_good, read_refused}
use Rattle.record_format.proofs.Runs.{same-run, fields_small}
use Rattle.record_format.proofs.Writing.{Fitting, fitting_few}

module _ (r : Run) (fit : Fitting r) (rest : List ℕ) where
  abbrev s : List ℕ
  s = record_of r ++ rest

  -- ---- its fields: the front, the positions' and the ratios'

  abbrev front : List Field
  front = front_fields r.rate r.side (length r.positions)

  abbrev points_fields : List Field
  points_fields = positions_field r.form r.positions ∷ ratios_field r.ratios ∷ []

  all : StandAll s rate_at (fields_of r)
  unfolding record_of
  all = laid_stand [] (fields_of r) rest (fields_small r fit)

  parts : StandAll s rate_at front × StandAll s (past_all s rate_at front) points_fields
  parts = stand_append s rate_at front points_fields all

  counts : length r.positions < 256 ^ count_size
  counts = omega (arith, fitting_few r fit)

  past_front : past_all s rate_at front ≡ positions_at s
  past_front = front_past s r.rate r.side (length r.positions) fit.listed fit.sided counts parts.0

  later : StandAll s (positions_at s) points_fields
  later = subst (λ (p : ℕ). StandAll s p points_fields) past_front parts.1

  pub positions_stand : FieldStands s (positions_at s) (positions_field r.form r.positions)
  positions_stand = later.0

  pub ratios_stand : FieldStands s (ratios_at s) (ratios_field r.ratios)
  ratios_stand = later.1.0

  pub at_end_lem : end_at s ≡ length (record_of r)
  unfolding record_of
  at_end_lem =
      ap (λ (p : ℕ). past_all s p points_fields) (sym past_front) ∙ sym (past_append s rate_at front points_fields)
      ∙ stand_past s rate_at (fields_of r) all ∙ omega arith

  -- ---- what is read in them

  pub count_read : count_in s ≡ length r.positions
  count_read = count_is s r.rate r.side (length r.positions) fit.listed fit.sided counts parts.0

  points : positions_in s ≡ some r.positions
  points = positions_are s r.form r.positions fit.few fit.valid count_read positions_stand

  module _ (k : ℕ → List ℕ → Option (List ℕ)) (read : k (length r.ratios) (coded_ratios r.ratios) ≡ some r.ratios) where
    ratios_are : ratios_in k s ≡ some r.ratios
    ratios_are = ap₂ k (count_read ∙ sym fit.paired) ratios_stand.within ∙ read

    ratios_pass : first_of (ratios_tests k s) ≡ first_of []
    unfolding member
    ratios_pass = field_passes ratios_stand (ratios_tag ∷ []) none _ refl tt ∙ first_of_skip _ _ (ap missing ratios_are)

    -- the run
    pub run_is : run_by k s ≡ r
    run_is =
        same-run _ r
        (rate_is s r.rate r.side (length r.positions) fit.listed fit.sided counts parts.0)
        (side_is s r.rate r.side (length r.positions) fit.listed fit.sided counts parts.0)
        (form_is s r.form r.positions fit.few fit.valid count_read positions_stand)
        (ap list_of points)
        (ap list_of ratios_are)

    -- the one test that can apply: another rate is expected
    pub only_rate : (e : ℕ) → first_of (record_tests k e s) ≡ first_of (test (other_rate e r.rate) 14 rate_at ∷ [])
    only_rate e =
        front_pass s r.rate r.side (length r.positions) fit.listed fit.sided counts parts.0 e (positions_tests s ++ ratios_tests k s)
        ∙ first_of_cong _ _ _
        (first_of_skip _ _ (le-ltb _ _ (fitting_few r fit))
        ∙ positions_pass s r.form r.positions fit.few fit.valid count_read positions_stand (ratios_tests k s) ∙ ratios_pass)

    -- what is found in it
    own : sound_check s ≡ run_check r
    own =
        ap (λ (q : Run). record { number = 0; place = 0; rate = q.rate; side = q.side; count = count_in s; form = positions_tag q.form; size = end_at s }) run_is
        ∙ ap₂ (λ (c u : ℕ). record { number = 0; place = 0; rate = r.rate; side = r.side; count = c; form = positions_tag r.form; size = u }) count_read at_end_lem

    module _ (e : ℕ) where
      other_rate_lem : (Expects e r.rate → ⊥) → other_rate e r.rate ≡ true
      other_rate_lem d = go (other_rate e r.rate) refl
        where
          go : (b : Bool) → other_rate e r.rate ≡ b → other_rate e r.rate ≡ true
          go true q = q
          go false q = absurd (d (other_rate_none e r.rate q))

      rate_refused : (Expects e r.rate → ⊥) → first_of (record_tests k e s) ≡ refusal 14 0
      rate_refused d = only_rate e ∙ first_of_here _ _ (other_rate_lem d)

      pub all_clear : Expects e r.rate → first_of (record_tests k e s) ≡ first_of []
      all_clear o = only_rate e ∙ first_of_skip _ _ (other_rate_not e r.rate o)

      pub found_other : (Expects e r.rate → ⊥) → found k e s ≡ refused_found 14 0
      found_other d = found-refused k e s 14 0 (λ z. omega arith) (rate_refused d)

      pub found_own : Expects e r.rate → found k e s ≡ run_check r
      found_own o = found-sound k e s (ap (λ (f : Refusal). f.number) (all_clear o ∙ first_of_end)) ∙ own

      -- read into outputs
      module _ (ts vs : List ℕ) where
        front_clear : Expects e r.rate → (first_of (front_tests e s)).number ≡ 0
        front_clear o =
            (first_of-append_clear (front_tests e s) (positions_tests s ++ ratios_tests k s) (front-numbered e s) (ap (λ (f : Refusal). f.number) (all_clear o ∙ first_of_end))).0

        pub read_other : (Expects e r.rate → ⊥) → read_with k e s ts vs ≡ refused_by 14 0 ts vs
        read_other d =
            read_refused k e s ts vs 14 0 (λ z. omega arith)
            (with_room k e s (length ts) (length vs) (λ clear. absurd (refused-front clear)) ∙ rate_refused d)
          where
            refused-front : (first_of (front_tests e s)).number ≡ 0 → ⊥
            refused-front clear =
                let f = front_pass s r.rate r.side (length r.positions) fit.listed fit.sided counts parts.0 e [] ∙ first_of_here _ _ (other_rate_lem d) in
                let g : (first_of (front_tests e s)).number ≡ 14 = ap (λ (l : List Test). (first_of l).number) (sym (append-nil (front_tests e s))) ∙ ap (λ (x : Refusal). x.number) f in
                omega (arith, clear, g)

        pub read_short : Expects e r.rate → (length ts < length r.positions) ⊎ (length vs < length r.positions)
            → read_with k e s ts vs ≡ refused_by 16 (count_place r.side) ts vs
        read_short o h =
            read_refused k e s ts vs 16 (count_place r.side) (λ z. omega arith)
            (without_room k e s (length ts) (length vs) (front_clear o) (ap (lacks_room (length ts) (length vs)) count_read ∙ lacks_room_lem (length ts) (length vs) (length r.positions) h)
            ∙ ap (refusal 16) (count_at_lem s r.rate r.side (length r.positions) fit.listed fit.sided counts parts.0))

        pub read_own : Expects e r.rate → length r.positions ≤ length ts → length r.positions ≤ length vs → read_with k e s ts vs ≡ run_answer r ts vs
        unfolding read_with
        read_own o m n =
            answer_good (record_answer k s ts vs) ts vs (read_tests k e s (length ts) (length vs))
            (with_room k e s (length ts) (length vs)
            (λ _. ap (lacks_room (length ts) (length vs)) count_read ∙ ap₂ (λ (a b : Bool). cond a true b) (le-ltb _ _ m) (le-ltb _ _ n))
            ∙ all_clear o)
            ∙ ap₂ (λ (a : CheckAnswer) (q : Run). record { answer = as_read a; positions = over q.positions ts; ratios = over q.ratios vs }) own run_is
