-- Document 02, No. 8: what a check finds in bytes; the standard term is validation. It needs no output, and every reading into outputs, every move and
-- every comparison is defined over it.
--   run_by k s           the run in the fields of the bytes s, its ratios by the reading k; where the bytes are refused, a run that no answer shows
--   run_in s             the same, its ratios read strictly
--   refused_check f      the answer of the refusal f
--   sound_check s        the answer of a record: its rate, its side (0 for none), its count, the tag of its form, and its size
--   found k e s          what the reading k finds in the bytes s, with the rate e expected (0 for none): the refusal, or the record's numbers
--   checked e s          what a check finds: the ratios' field must be the coding of its ratios
--   place_base           by which C multiplies a refusal's number
--   check_number a       the answer a as one number, for C: 65,536 times the refusal's number plus its place, or the size
use Rattle.std.specs.Prelude.{cond, List, ℕ, ◌+◌, ◌*◌, eqb}
use Rattle.std.proofs.Math.Option.{Option}
use Rattle.lists.specs.Optional.{list_of}
use Rattle.refusals.specs.declared.Refusal.{Refusal}
use Rattle.refusals.specs.Tests.{first_of, refused}
use Rattle.ratio_format.specs.Bodies.{strict_ratios}
use Rattle.record_format.specs.declared.CheckAnswer.{CheckAnswer}
use Rattle.record_format.specs.Runs.{Run, run, positions_tag}
use Rattle.record_format.specs.Reading.{rate_in, side_in, count_in, form_in, positions_in, ratios_in, end_at, record_tests}

-- ---- the run

-- what the fields hold
abbrev pub run_by : (ℕ → List ℕ → Option (List ℕ)) → List ℕ → Run
run_by k s = run (rate_in s) (side_in s) (form_in s) (list_of (positions_in s)) (list_of (ratios_in k s))

-- read strictly
abbrev pub run_in : List ℕ → Run
run_in s = run_by strict_ratios s

-- ---- the answer

-- zeros beside number and place
abbrev pub refused_check : Refusal → CheckAnswer
refused_check f = record { number = f.number; place = f.place; rate = 0; side = 0; count = 0; form = 0; size = 0 }

-- the numbers in its fields, and where it ends
abbrev pub sound_check : List ℕ → CheckAnswer
sound_check s = record { number = 0; place = 0; rate = rate_in s; side = side_in s; count = count_in s; form = positions_tag (form_in s); size = end_at s }

-- the refusal of the first test that applies, or else the record's numbers
unfoldable pub found : (ℕ → List ℕ → Option (List ℕ)) → ℕ → List ℕ → CheckAnswer
found k e s =
    let f = first_of (record_tests k e s) in
    cond (refused f) (refused_check f) (sound_check s)

-- strictly
abbrev pub checked : ℕ → List ℕ → CheckAnswer
checked e s = found strict_ratios e s

-- ---- one number, for C

-- more than any place, and more than any size
abbrev pub place_base : ℕ
place_base = 65536

-- the size is never 0, and no refusal has the number 0
abbrev pub check_number : CheckAnswer → ℕ
check_number a = cond (eqb a.number 0) a.size (place_base * a.number + a.place)
