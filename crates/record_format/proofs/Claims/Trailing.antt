-- Bytes after as many whole fields as a record has change nothing in a reading or a move, whatever the fields hold: each is the same field, at the same
-- offset.
use mathlib.Core.Path.{◌≡◌, refl, ap, ap₂, ◌∙◌, subst}
use mathlib.Core.Bool.{Bool, true, false, cond}
use mathlib.Core.List.{List, [], ◌∷◌, ◌++◌, map}
use mathlib.Core.Option.{Option}
use Prim.Native.Nat.{ℕ, ◌≤◌}
use native.Mathlib.Nat.{add-zero}
use native.Mathlib.Omega.{arith}
use lib.Dec.{ltb, lit<}
use lib.ListN.{length}
use Rattle.refusals.specs.Tests.{Test, test, first_of, refused}
use Rattle.refusals.proofs.Tests.{further, further_append, further_none}
use Rattle.outputs.specs.Outputs.{over}
use Rattle.position_format.specs.declared.Form.{Form}
use Rattle.ratio_format.specs.Bodies.{strict_ratios}
use Rattle.record_format.specs.declared.CheckAnswer.{CheckAnswer}
use Rattle.record_format.specs.Fields.{next_at}
use Rattle.record_format.specs.Runs.{Run, positions_tag, positions_tags, record_of}
use Rattle.record_format.specs.Reading.{rate_at, side_at, has_side, count_at, end_at, front_tests, positions_tests_by, positions_tests, ratios_tests, record_tests}
use Rattle.record_format.specs.Checking.{run_by, run_in, refused_check, sound_check, found}
use Rattle.record_format.specs.Fetching.{room_tests, read_tests, as_read, Answer, answer_by, read_with}
use Rattle.record_format.specs.Moves.{other_form, in_form, source_tests, target_tests, move_tests, Move, refused_move, record_move, move_of}
use Rattle.record_format.specs.Claims.{Followed, MoveFollowed}
use Rattle.record_format.proofs.Fields.{first-whole, next_later}
use Rattle.record_format.proofs.Runs.{opening_field_count, closing_field_count}
use Rattle.record_format.proofs.Reading.Shifted.{FieldsShifted, whole_fields, rate_same, side_same, count_shifted, end_shifted, count_same, form_same, positions_same, ratios-same, room_tests_shifted, positions_tests_shifted, ratios_tests_shifted, front_tests_shifted}
use Rattle.record_format.proofs.Reading.Sides.{absent_count, present_count}

module _ (s rest : List ℕ) (framed : end_at s ≤ length s) where
  count_whole : next_at s (count_at s) ≤ length s
  count_whole = first-whole s (count_at s) closing_field_count (lit< tt) framed

  -- the side's, or else the count's, which stands in its place
  side_whole : next_at s (side_at s) ≤ length s
  side_whole = go (has_side s) refl
    where
      go : (b : Bool) → has_side s ≡ b → next_at s (side_at s) ≤ length s
      go true e = omega (arith, present_count s e, next_later s (count_at s), count_whole)
      go false e = subst (λ (p : ℕ). next_at s p ≤ length s) (absent_count s e) count_whole

  -- the rate's field and the one past it, and those from the count's on
  front : FieldsShifted 0 s rate_at (s ++ rest) rate_at opening_field_count
  front = whole_fields s rest rate_at rate_at opening_field_count refl side_whole

  points : FieldsShifted 0 s (count_at s) (s ++ rest) (count_at (s ++ rest)) closing_field_count
  points = whole_fields s rest (count_at s) (count_at (s ++ rest)) closing_field_count (count_shifted front ∙ add-zero (count_at s)) framed

  end_same : end_at (s ++ rest) ≡ end_at s
  end_same = end_shifted points ∙ add-zero (end_at s)

-- ---- readings

module _ (k : ℕ → List ℕ → Option (List ℕ)) (e : ℕ) (s rest : List ℕ) (framed : end_at s ≤ length s) where
  -- the tests of the points, and all of them
  points_tests_lem : positions_tests (s ++ rest) ++ ratios_tests k (s ++ rest) ≡ map (further 0) (positions_tests s ++ ratios_tests k s)
  points_tests_lem =
      let p = points s rest framed in
      further_append 0 (positions_tests s) (ratios_tests k s) (positions_tests_shifted p positions_tags) (ratios_tests_shifted p k)

  tests_same : record_tests k e (s ++ rest) ≡ record_tests k e s
  tests_same =
      further_append 0 (front_tests e s) (positions_tests s ++ ratios_tests k s) (front_tests_shifted (front s rest framed) (points s rest framed) e) points_tests_lem
      ∙ further_none (record_tests k e s)

  sound-same : sound_check (s ++ rest) ≡ sound_check s
  sound-same =
      let a = rate_same (front s rest framed) in
      let b = side_same (front s rest framed) in
      let c = count_same (points s rest framed) in
      let d = end_same s rest framed in
      let h = form_same (points s rest framed) in
      cc

  found_followed : found k e (s ++ rest) ≡ found k e s
  unfolding found
  found_followed = ap₂ (λ (l : List Test) (a : CheckAnswer). cond (refused (first_of l)) (refused_check (first_of l)) a) tests_same sound-same

  run_followed : run_by k (s ++ rest) ≡ run_by k s
  run_followed =
      let a = rate_same (front s rest framed) in
      let b = side_same (front s rest framed) in
      let c = form_same (points s rest framed) in
      let d = positions_same (points s rest framed) in
      let f = ratios-same (points s rest framed) k in
      cc

  module _ (ts vs : List ℕ) where
    -- with 16 among them
    read_tests_same : read_tests k e (s ++ rest) (length ts) (length vs) ≡ read_tests k e s (length ts) (length vs)
    read_tests_same =
        let p = points s rest framed in
        let room = room_tests s (length ts) (length vs) in
        let later = positions_tests s ++ ratios_tests k s in
        further_append 0 (front_tests e s) (room ++ later) (front_tests_shifted (front s rest framed) p e)
        (further_append 0 room later (room_tests_shifted p (length ts) (length vs)) points_tests_lem)
        ∙ further_none (read_tests k e s (length ts) (length vs))

    read_followed : read_with k e (s ++ rest) ts vs ≡ read_with k e s ts vs
    unfolding read_with
    read_followed =
        ap₂ (λ (l : List Test) (a : Answer). answer_by l a ts vs) read_tests_same
        (ap₂ (λ (a : CheckAnswer) (r : Run). record { answer = as_read a; positions = over r.positions ts; ratios = over r.ratios vs }) sound-same run_followed)

-- whatever a reading makes of the ratios' field
pub followed : Followed
followed k e s rest h = (found_followed k e s rest h, run_followed k e s rest h, read_followed k e s rest h)

-- ---- moves: the run that one finds, and its tests

module _ (f : Form) (s rest o : List ℕ) (framed : end_at s ≤ length s) where
  run_in_lem : run_in (s ++ rest) ≡ run_in s
  run_in_lem = run_followed strict_ratios 0 s rest framed

  source_tests_lem : source_tests f (s ++ rest) ≡ source_tests f s
  source_tests_lem =
      let p = points s rest framed in
      let tags = positions_tag (other_form f) ∷ [] in
      further_append 0 (front_tests 0 s) (positions_tests_by tags s ++ ratios_tests strict_ratios s) (front_tests_shifted (front s rest framed) p 0)
      (further_append 0 (positions_tests_by tags s) (ratios_tests strict_ratios s) (positions_tests_shifted p tags) (ratios_tests_shifted p strict_ratios))
      ∙ further_none (source_tests f s)

  move_tests_lem : move_tests f (s ++ rest) o ≡ move_tests f s o
  move_tests_lem =
      ap₂ (λ (a b : List Test). a ++ b) source_tests_lem
      (ap (λ (r : Run). target_tests f r.positions ++ (test (ltb (length o) (length (record_of (in_form f r)))) 6 0 ∷ [])) run_in_lem)

  move_same : record_move f (s ++ rest) o ≡ record_move f s o
  move_same =
      ap₂ (λ (r : Run) (n : ℕ). record { answer = record { number = 0; place = 0; length = length (record_of (in_form f r)); used = n }; output = over (record_of (in_form f r)) o })
      run_in_lem (end_same s rest framed)

  moved_alike : move_of f (s ++ rest) o ≡ move_of f s o
  unfolding move_of
  moved_alike = ap₂ (λ (l : List Test) (m : Move). cond (refused (first_of l)) (refused_move (first_of l) o) m) move_tests_lem move_same

pub move_followed : MoveFollowed
move_followed f s rest o h = moved_alike f s rest o h
