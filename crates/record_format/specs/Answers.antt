-- What C gets of the Result that a call answers: number and place of a refusal beside zeros, or 0 and 0 with what was found or written.
--   written_answer r   of writing, which answers the record's length
--   check_answer r     of a check, which answers what is found of a record
--   fetch_answer r     of a fetch, which answers the count of points
--   read_answer r      of open reading, which answers what is found of a record
--   move_answer r      of a move, which answers the length written and the bytes used
use Rattle.std.specs.Prelude.{ℕ, Result, Ok, Err}
use Rattle.refusals.specs.declared.Refusal.{Refusal}
use Rattle.record_format.specs.Runs.{positions_tag}
use Rattle.record_format.specs.Checking.{refused_check}
use Rattle.record_format.specs.Fetching.{as_read}
use Rattle.record_format.specs.declared.Description.{Description}
use Rattle.record_format.specs.declared.Moved.{Moved}
use Rattle.record_format.specs.declared.WriteAnswer.{WriteAnswer}
use Rattle.record_format.specs.declared.CheckAnswer.{CheckAnswer}
use Rattle.record_format.specs.declared.FetchAnswer.{FetchAnswer}
use Rattle.record_format.specs.declared.ReadAnswer.{ReadAnswer}
use Rattle.record_format.specs.declared.MoveAnswer.{MoveAnswer}

-- writing
abbrev pub written_answer : Result ℕ Refusal → WriteAnswer
written_answer (Ok n) = record { number = 0; place = 0; length = n }
written_answer (Err g) = record { number = g.number; place = g.place; length = 0 }

-- checking
abbrev pub check_answer : Result Description Refusal → CheckAnswer
check_answer (Ok d) = record { number = 0; place = 0; rate = d.rate; side = d.side; count = d.count; form = positions_tag d.form; size = d.size }
check_answer (Err g) = refused_check g

-- fetching
abbrev pub fetch_answer : Result ℕ Refusal → FetchAnswer
fetch_answer (Ok n) = record { number = 0; place = 0; count = n }
fetch_answer (Err g) = record { number = g.number; place = g.place; count = 0 }

-- open reading: the same numbers as a check's
abbrev pub read_answer : Result Description Refusal → ReadAnswer
read_answer r = as_read (check_answer r)

-- moving
abbrev pub move_answer : Result Moved Refusal → MoveAnswer
move_answer (Ok d) = record { number = 0; place = 0; length = d.length; used = d.used }
move_answer (Err g) = record { number = g.number; place = g.place; length = 0; used = 0 }
