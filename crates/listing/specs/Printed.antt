-- Document 01, "Bytes to compare", the listing, with the side of document 02, No. 2: what the program prints.
--   text_limit      how many bytes it prints at most
--   listing_of r    the listing of the run r: its rate, its side unless that is 0, its count, its span, and each point
--   text_of a r     the text for the answer a of a check, by which r is the run: that run's listing, or the line of the refusal
--   printed s       the text for the input s
use Rattle.std.specs.Prelude.{cond, List, ℕ, ◌+◌, ◌*◌, eqb}
use Rattle.limits.specs.Points.{max_points}
use Rattle.record_format.specs.Runs.{Run}
use Rattle.record_format.specs.declared.CheckAnswer.{CheckAnswer}
use Rattle.span.specs.Spans.{spanned}
use Rattle.text.specs.Lines.{refused_line}
use Rattle.inputs.specs.Inputs.{check_input, run_input}
use Rattle.listing.specs.Lines.{listing}

-- 106 for the lines of rate, side, count and span, and 38 for each point
abbrev pub text_limit : ℕ
text_limit = 106 + 38 * max_points

-- of a run
abbrev pub listing_of : Run → List ℕ
listing_of r = listing r.rate r.side (spanned r.rate r.positions).milliseconds r.positions r.ratios

-- a refusal is one line
unfoldable pub text_of : CheckAnswer → Run → List ℕ
text_of a r = cond (eqb a.number 0) (listing_of r) (refused_line a.number a.place)

-- the program's whole output
abbrev pub printed : List ℕ → List ℕ
printed s = text_of (check_input s) (run_input s)
