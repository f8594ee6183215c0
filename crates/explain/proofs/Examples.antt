-- What the program prints of the example: the run is accepted, and its lines are computed.
use mathlib.Core.List.{List, [], ◌∷◌, ◌++◌, append-nil}
use mathlib.Core.Path.{◌≡◌, refl, sym, ap, ◌∙◌}
use Prim.Native.Nat.{ℕ, ◌≤◌}
use lib.Dec.{lit<, lit≤}
use lib.ListN.{get_or}
use Rattle.lists.specs.Below.{Below}
use Rattle.lists.specs.Lists.{member, first_index}
use Rattle.bits.specs.Digits.{digits_of, number_of}
use Rattle.bits.specs.Packing.{eights, pack}
use Rattle.limits.specs.Rates.{rates, is_rate}
use Rattle.limits.specs.Sides.{max_side}
use Rattle.refusals.specs.Tests.{first_of}
use Rattle.position_format.specs.Rows.{rows, in_table, code}
use Rattle.position_format.specs.Steps.{steps_from, steps}
use Rattle.position_format.specs.Positions.{step_bits, position_bits, coded_positions, valid_positions}
use Rattle.ratio_format.specs.Bodies.{coded_from}
use Rattle.ratio_format.specs.Choice.{find, best, ratio_form}
use Rattle.ratio_format.specs.RatioForms.{written, coded}
use Rattle.ratio_format.specs.Zeros.{zeros_at, lead_zeros, trail_zeros, sum_of}
use Rattle.record_format.specs.Claims.{Accepted}
use Rattle.record_format.specs.Fields.{field_bytes, laid, tag_at, length_at, next_at}
use Rattle.record_format.specs.Reading.{count_at}
use Rattle.record_format.specs.Runs.{record_of}
use Rattle.record_format.proofs.Writing.{fitting_accepted}
use Rattle.text.specs.Numbers.{trimmed, decimal, hex16}
use Rattle.reasons.specs.Reasons.{reason_of, explained}
use Rattle.explain.specs.Lines.{cost_line, xor_line, reason_line}
use Rattle.explain.specs.Printed.{body_in, cost_of, offset_of, printed}
use Rattle.explain.specs.Examples.{explained_run, explained_text, PrintsExample}
use Rattle.explain.proofs.Claims.{prints_reason}

-- on a side, and on none
run_accepted : (d : ℕ) → d ≤ max_side → Accepted (explained_run d)
unfolding Below is_rate rates member valid_positions first_index steps steps_from rows in_table
run_accepted d h = record {
  words = (lit< tt, (lit< tt, tt));
  passes = fitting_accepted (explained_run d) (record { listed = refl; sided = h; paired = refl; few = lit≤ tt; valid = refl });
}

-- both lines of a run's record, where the offset is the one given
prints : (d : ℕ) → d ≤ max_side → (o : List ℕ)
    → (let vs = (explained_run d).ratios in cost_line 1 (get_or vs 1 0) (cost_of vs 1) (offset_of (body_in (record_of (explained_run d))) vs 1) ++ reason_line (explained vs 1) ≡ explained_text o)
    → printed (record_of (explained_run d)) (49 ∷ []) ≡ explained_text o
unfolding number_of first_index
prints d h o e =
    ap (λ l. printed l (49 ∷ [])) (sym (append-nil (record_of (explained_run d))))
    ∙ prints_reason (explained_run d) (run_accepted d h) [] (49 ∷ []) 1 refl (lit< tt)
    ∙ e

pub prints_example : PrintsExample
unfolding digits_of number_of eights pack rows code steps_from step_bits position_bits coded_positions zeros_at lead_zeros trail_zeros sum_of find best ratio_form written coded coded_from field_bytes laid record_of tag_at length_at next_at count_at first_of reason_of explained trimmed decimal hex16 cost_line xor_line reason_line
prints_example = (prints 0 (lit≤ tt) (52 ∷ 51 ∷ []) refl, prints 4 (lit≤ tt) (52 ∷ 55 ∷ []) refl)
