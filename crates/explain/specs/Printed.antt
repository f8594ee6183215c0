-- Document 02, No. 1: what the program prints, given a record's bytes and the text of an index.
--   body_limit           how many bytes the body of a run's ratios has at most
--   argument_limit       how many bytes of an argument it reads at most: Linux passes no longer one, where a page has 4,096 bytes
--   text_limit           how many bytes it prints at most
--   body_in s            the offset of the body of the ratios' field in the bytes s
--   cost_of vs i         how many bytes the ratio of index i takes
--   offset_of b vs i     where the first of them stands, in a body that begins at offset b: past those of the ratios before it
--   cost_text b vs i     the line of that, of an index below the count
--   point_text b vs i    the text for an index: both lines, or the line of a refusal
--   index_text b vs o    the same of an index that may be none
--   answer_text s a q t  the text for the answer a of a check of the bytes s, by which q is the run
--   printed s t          the program's whole output for the input s and the text t
use Rattle.std.specs.Prelude.{cond, List, [], ◌++◌, ℕ, ◌+◌, ◌*◌, ltb, eqb, length, get_or, take}
use Rattle.std.proofs.Math.Option.{Option, none, some}
use Rattle.limits.specs.Points.{max_points}
use Rattle.ratio_format.specs.Bodies.{coded_ratios}
use Rattle.ratio_format.specs.RatioForms.{coded}
use Rattle.record_format.specs.Fields.{head_size}
use Rattle.record_format.specs.Reading.{ratios_at}
use Rattle.record_format.specs.Runs.{Run}
use Rattle.record_format.specs.declared.CheckAnswer.{CheckAnswer}
use Rattle.text.specs.Lines.{refused_line}
use Rattle.reasons.specs.Reasons.{window_at, explained}
use Rattle.inputs.specs.Inputs.{input_limit, check_input, run_input}
use Rattle.explain.specs.Indexes.{given_index}
use Rattle.explain.specs.Lines.{cost_line, reason_line}

-- nine bytes for each ratio
abbrev pub body_limit : ℕ
body_limit = 9 * max_points

-- 32 pages of 4,096 bytes, with the 0 that ends an argument
abbrev pub argument_limit : ℕ
argument_limit = 131072

-- 95 for the line of the cost, and 111 for the longest line of a reason
abbrev pub text_limit : ℕ
text_limit = 206

-- past the head of the ratios' field
abbrev pub body_in : List ℕ → ℕ
body_in s = ratios_at s + head_size

-- the bytes of the form that the writer chose
abbrev pub cost_of : List ℕ → ℕ → ℕ
cost_of vs i = length (coded (get_or vs i 0) (window_at vs i))

-- past the bytes of the ratios before it
abbrev pub offset_of : ℕ → List ℕ → ℕ → ℕ
offset_of b vs i = b + length (coded_ratios (take i vs))

-- the line of the cost, of an index below the count
abbrev pub cost_text : ℕ → List ℕ → ℕ → List ℕ
cost_text b vs i = cond (ltb i (length vs)) (cost_line i (get_or vs i 0) (cost_of vs i) (offset_of b vs i)) []

-- cost and reason; a refusal is one line
abbrev pub point_text : ℕ → List ℕ → ℕ → List ℕ
point_text b vs i = cost_text b vs i ++ reason_line (explained vs i)

-- what is no number is no index: 22
abbrev pub index_text : ℕ → List ℕ → Option ℕ → List ℕ
index_text b vs none = refused_line 22 0
index_text b vs (some i) = point_text b vs i

-- the check's refusal first, whatever the index
unfoldable pub answer_text : List ℕ → CheckAnswer → Run → List ℕ → List ℕ
answer_text s a q t = cond (eqb a.number 0) (index_text (body_in s) q.ratios (given_index t)) (refused_line a.number a.place)

-- the program's whole output
abbrev pub printed : List ℕ → List ℕ → List ℕ
printed s t = answer_text (take input_limit s) (check_input s) (run_input s) t
