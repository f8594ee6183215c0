-- Document 02, No. 5: moving a record to the other form; the standard term is transcoding. Document 02's "run in it" is the rate, the side, the
-- positions and the ratios.
--   other_form f       the form that is not f
--   in_form f r        the run r in the form f, and nothing else of it changed
--   source_tests f s   the tests of a record that is to be moved to the form f: those of a check in their order, with no rate expected, but that
--                      at the positions' field the other form's tag alone is good
--   target_tests f ts  those of its positions in the form f: 3 toward wide, 5 toward old
--   move_tests f s o   all tests of a move, with 6, which asks for room for the record that is written
--   Move               what a move returns, and the output afterwards
--   refused_move, record_move  that of a refusal, and of a record
--   move_of f s o      moving the record that the bytes s begin with to the form f, at the front of the output o: number, place, the length written and
--                      the bytes used, and the output afterwards
use Rattle.std.specs.Prelude.{cond, List, [], ◌∷◌, ◌++◌, ℕ, ltb, length}
use Rattle.refusals.specs.declared.Refusal.{Refusal}
use Rattle.refusals.specs.Tests.{Test, test, first_of, refused}
use Rattle.outputs.specs.Outputs.{zeros, over}
use Rattle.position_format.specs.declared.Form.{Form}
use Rattle.position_format.specs.declared.Form.TheVariants.{Old, Wide}
use Rattle.position_format.specs.Tables.{points_of}
use Rattle.ratio_format.specs.Bodies.{strict_ratios}
use Rattle.record_format.specs.declared.MoveAnswer.{MoveAnswer}
use Rattle.record_format.specs.Runs.{Run, run, positions_tag, record_of}
use Rattle.record_format.specs.Writing.{outside_tests}
use Rattle.record_format.specs.Reading.{end_at, record_tests_by}
use Rattle.record_format.specs.Checking.{run_in}

-- ---- forms

-- there are two
abbrev pub other_form : Form → Form
other_form Old = Wide
other_form Wide = Old

-- the same run, written otherwise
abbrev pub in_form : Form → Run → Run
in_form f r = run r.rate r.side f r.positions r.ratios

-- ---- the tests

-- a check's, with 11 at the positions' tag when it is the form moved to
abbrev pub source_tests : Form → List ℕ → List Test
source_tests f s = record_tests_by (positions_tag (other_form f) ∷ []) strict_ratios 0 s

-- toward wide above 3,500 points, toward old at the first step outside the old table
abbrev pub target_tests : Form → List ℕ → List Test
target_tests Wide ts = test (ltb (points_of Wide) (length ts)) 3 0 ∷ []
target_tests Old ts = outside_tests Old ts

-- and then the room
abbrev pub move_tests : Form → List ℕ → List ℕ → List Test
move_tests f s o =
    source_tests f s
    ++ (target_tests f (run_in s).positions
    ++ (test (ltb (length o) (length (record_of (in_form f (run_in s))))) 6 0 ∷ []))

-- ---- the answer

-- the whole answer of a move
pub record Move : Type 0 where
  pub answer : MoveAnswer
  pub output : List ℕ

-- of a refusal: zeros beside its number and place, and an output that is 0 from end to end
abbrev pub refused_move : Refusal → List ℕ → Move
refused_move g o = record { answer = record { number = g.number; place = g.place; length = 0; used = 0 }; output = zeros o }

-- of a record: the length of the one written and the bytes of the one read; what is written stands at the front of the output
abbrev pub record_move : Form → List ℕ → List ℕ → Move
record_move f s o = record {
  answer = record { number = 0; place = 0; length = length (record_of (in_form f (run_in s))); used = end_at s };
  output = over (record_of (in_form f (run_in s))) o;
}

-- the refusal of the first test that applies, or else the record in the form f
unfoldable pub move_of : Form → List ℕ → List ℕ → Move
move_of f s o =
    let g = first_of (move_tests f s o) in
    cond (refused g) (refused_move g o) (record_move f s o)
