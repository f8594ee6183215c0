-- What the program prints of a run's record, and of all other input.
pub mod Examples
use mathlib.Core.Path.{ap₂}
use borrow.Author.Tests.{ne_eqb}
use Rattle.inputs.specs.Inputs.{check_input}
use Rattle.inputs.proofs.Inputs.{reads_record, reads_no_other}
use Rattle.listing.specs.Printed.{text_of}
use Rattle.listing.specs.Claims.{PrintsRun, PrintsOnly}

pub prints_run : PrintsRun
unfolding text_of
prints_run r a rest = let h = reads_record r a rest in ap₂ text_of h.0 h.1

pub prints_only : PrintsOnly
unfolding text_of
prints_only s b never =
    let n = reads_no_other s b never in
    (n, rw (ne_eqb (check_input s).number 0 n))
