-- The run of document 01's listing, the same on a side, and a run in the wide form: their records, and that they are accepted.
use mathlib.Core.Path.{◌≡◌, refl}
use lib.Dec.{lit<}
use Rattle.lists.specs.Below.{Below}
use Rattle.lists.specs.Lists.{member, first_index}
use Rattle.bits.specs.Digits.{digits_of, number_of}
use Rattle.bits.specs.Packing.{eights, pack}
use Rattle.limits.specs.Rates.{rates, is_rate}
use Rattle.refusals.specs.Tests.{first_of}
use Rattle.position_format.specs.Rows.{rows, wide_rows, code, in_table}
use Rattle.position_format.specs.Steps.{steps_from, steps}
use Rattle.position_format.specs.Positions.{step_bits, position_bits, coded_positions}
use Rattle.ratio_format.specs.Choice.{find, best, ratio_form}
use Rattle.ratio_format.specs.RatioForms.{written, coded}
use Rattle.ratio_format.specs.Bodies.{coded_from}
use Rattle.record_format.specs.Claims.{Accepted}
use Rattle.record_format.specs.Examples.{listed_run, listed_bytes, sided_run, sided_bytes, paused_run, paused_bytes}
use Rattle.record_format.specs.Fields.{field_bytes, laid}
use Rattle.record_format.specs.Runs.{record_of}
use Rattle.record_format.specs.Writing.{accepts}

pub listed_record : record_of listed_run ≡ listed_bytes
unfolding digits_of number_of eights pack rows code steps_from step_bits position_bits coded_positions find best ratio_form written coded coded_from field_bytes laid record_of
listed_record = refl

pub sided_record : record_of sided_run ≡ sided_bytes
unfolding digits_of number_of eights pack rows code steps_from step_bits position_bits coded_positions find best ratio_form written coded coded_from field_bytes laid record_of
sided_record = refl

pub paused_record : record_of paused_run ≡ paused_bytes
unfolding digits_of number_of eights pack rows wide_rows code steps_from step_bits position_bits coded_positions find best ratio_form written coded coded_from field_bytes laid record_of
paused_record = refl

pub listed_accepted : Accepted listed_run
unfolding Below accepts first_of is_rate rates member first_index steps steps_from rows in_table
listed_accepted = record { words = (lit< tt, (lit< tt, (lit< tt, tt))); passes = refl }

pub sided_accepted : Accepted sided_run
unfolding Below accepts first_of is_rate rates member first_index steps steps_from rows in_table
sided_accepted = record { words = (lit< tt, (lit< tt, (lit< tt, tt))); passes = refl }

pub paused_accepted : Accepted paused_run
unfolding Below accepts first_of is_rate rates member first_index
paused_accepted = record { words = (lit< tt, (lit< tt, (lit< tt, tt))); passes = refl }
