-- Document 02, No. 5: what the program prints and writes, given the number of its arguments, the first of them and a file's bytes.
--   blank_record                     an output with room for every record, all 0
--   move_input f s                   the move of the input s to the form f: at most input_limit bytes of it, into such an output
--   standard_output, standard_error  the streams that a line can go to
--   Response                         what the program does: the stream that its line goes to, whether it makes a file, the bytes of that file, and the
--                                    line, which goes out where no file is to be made or once it stands
--   move_response m                  that of the move m
--   usage_response                   that of a call that asks for no form
--   response_to a s                  that of a call that asks for the form a, or for none, and the input s
--   response n w s                   that of a call with n arguments and the word w, as `form_asked` takes them, and the input s
--   Told q r o p                     what the function that does all but read, write and print leaves of the response q: its answer r, an output that was
--                                    blank_record and is now o, and the line p
use Rattle.std.specs.Prelude.{Option, None, Some, IfSome, Bool, false, List, [], ◌≡◌, ℕ, ◌≤◌, eqb, length, take, replicate}
use Rattle.std.specs.Bool.{then_some}
use Rattle.outputs.specs.Outputs.{over}
use Rattle.position_format.specs.declared.Form.{Form}
use Rattle.record_format.specs.Moves.{Move, move_of}
use Rattle.record_format.specs.Sizes.{max_record}
use Rattle.inputs.specs.Inputs.{input_limit}
use Rattle.move_record.specs.declared.Outcome.{Outcome}
use Rattle.move_record.specs.declared.Stream.{Stream}
use Rattle.move_record.specs.declared.Stream.TheVariants.{Output, Error}
use Rattle.move_record.specs.Words.{form_asked}
use Rattle.move_record.specs.Lines.{answer_line, usage_line}

-- 61,709 bytes
unfoldable pub blank_record : List ℕ
blank_record = replicate max_record 0

-- a longer file is cut, and no record is
abbrev pub move_input : Form → List ℕ → Move
move_input f s = move_of f (take input_limit s) blank_record

-- ---- the response

-- of the two that the program writes to
abbrev pub standard_output : Stream
standard_output = Output

-- the other
abbrev pub standard_error : Stream
standard_error = Error

-- all that the program does
pub record Response : Type 0 where
  pub stream : Stream
  pub moved : Bool
  pub file : List ℕ
  pub line : List ℕ

-- a file unless it is refused, and one line in any case
abbrev pub move_response : Move → Response
move_response m = record {
  stream = standard_output;
  moved = eqb m.answer.number 0;
  file = take m.answer.length m.output;
  line = answer_line m.answer;
}

-- no file, and the line that says how the program is called
abbrev pub usage_response : Response
usage_response = record { stream = standard_error; moved = false; file = []; line = usage_line }

-- no form, no move
abbrev pub response_to : Option Form → List ℕ → Response
response_to (Some f) s = move_response (move_input f s)
response_to None s = usage_response

-- by the form that is asked for
abbrev pub response : ℕ → List ℕ → List ℕ → Response
response n w s = response_to (form_asked n w) s

-- how many bytes are saved where a file is to be made, the file's bytes at the front of the output, and the line; `room` follows from the rest, and is
-- stated for whoever saves
pub record Told (q : Response) (r : Outcome) (o p : List ℕ) : Type 0 where
  pub stream : r.stream ≡ q.stream
  pub saved : r.saved ≡ then_some q.moved (length q.file)
  pub output : o ≡ over q.file blank_record
  pub room : IfSome r.saved (λ n. n ≤ length o)
  pub line : p ≡ q.line
