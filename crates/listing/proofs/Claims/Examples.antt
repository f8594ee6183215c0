-- What the program prints of document 01's example, of the same run on a side, of a run in the wide form, and of no input.
use mathlib.Core.Path.{◌≡◌, refl, sym, ap, ◌∙◌}
use mathlib.Core.List.{[], append-nil}
use Rattle.lists.specs.Lists.{member, first_index}
use Rattle.bits.specs.Digits.{digits_of}
use Rattle.limits.specs.Rates.{rates, is_rate}
use Rattle.refusals.specs.Tests.{first_of}
use Rattle.record_format.specs.Examples.{listed_run, sided_run, paused_run}
use Rattle.record_format.specs.Checking.{found}
use Rattle.record_format.specs.Runs.{record_of}
use Rattle.record_format.proofs.Examples.{listed_record, listed_accepted, sided_record, sided_accepted, paused_record, paused_accepted}
use Rattle.span.specs.Spans.{spanned}
use Rattle.text.specs.Numbers.{trimmed, decimal, hex16, signed}
use Rattle.text.specs.Lines.{refused_line}
use Rattle.listing.specs.Lines.{rate_line, side_line, count_line, span_line, point_line, point_lines, listing}
use Rattle.listing.specs.Examples.{listed_text, sided_text, paused_text, refused_text}
use Rattle.listing.specs.Printed.{listing_of, text_of, printed}
use Rattle.listing.specs.Claims.{PrintsListed}
use Rattle.listing.proofs.Claims.{prints_run}

-- the run's listing is the text, and so it is on a side and in the wide form
text_is : (listing_of listed_run ≡ listed_text) × (listing_of sided_run ≡ sided_text) × (listing_of paused_run ≡ paused_text)
unfolding spanned first_of is_rate rates member first_index digits_of trimmed decimal hex16 signed rate_line side_line count_line span_line point_line point_lines listing
text_is = (refl, refl, refl)

-- of no input the head of the rate's field is not whole
refused_is : printed [] ≡ refused_text
unfolding found first_of text_of digits_of trimmed decimal refused_line
refused_is = refl

pub prints_listed : PrintsListed
prints_listed = (
  ap printed (sym (append-nil (record_of listed_run) ∙ listed_record)) ∙ prints_run listed_run listed_accepted [] ∙ text_is.0,
  ap printed (sym (append-nil (record_of sided_run) ∙ sided_record)) ∙ prints_run sided_run sided_accepted [] ∙ text_is.1,
  ap printed (sym (append-nil (record_of paused_run) ∙ paused_record)) ∙ prints_run paused_run paused_accepted [] ∙ text_is.2,
  refused_is,
)
