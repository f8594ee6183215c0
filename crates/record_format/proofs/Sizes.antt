-- The bounds on the sizes of a record and of its bodies, and that both bounds on the record are reached.
pub mod Longest
use mathlib.Core.Bool.{true}
use mathlib.Core.List.{[]}
use mathlib.Core.Path.{◌≡◌, refl, ap, ap₂, ◌∙◌}
use Prim.Native.Nat.{ℕ, zero, suc, ◌+◌, ◌≤◌}
use native.Mathlib.Omega.{arith}
use lib.Dec.{lit≤}
use lib.ListN.{length}
use Rattle.lists.specs.Below.{Below}
use Rattle.bits.specs.Packing.{eights, pack}
use Rattle.limits.specs.Rates.{is_rate}
use Rattle.limits.specs.Sides.{max_side}
use Rattle.position_format.specs.declared.Form.{Form}
use Rattle.position_format.specs.declared.Form.TheVariants.{Old, Wide}
use Rattle.position_format.specs.Positions.{position_bits, coded_positions}
use Rattle.position_format.specs.Tables.{table_of}
use Rattle.position_format.proofs.Positions.Valid.{valid_none}
use Rattle.ratio_format.specs.Bodies.{coded_from}
use Rattle.record_format.specs.Runs.{run, side_length, record_of}
use Rattle.record_format.specs.Claims.{Accepted}
use Rattle.record_format.specs.Sizes.{min_record, max_positions_body, max_ratios_body, longest_on, Within, NoPoints, longest, Reached}
use Rattle.record_format.proofs.Writing.{accepted_fits, fitting_accepted}
use Rattle.record_format.proofs.Runs.{positions_size, ratios_size, length_record}
use Rattle.record_format.proofs.Sizes.Longest.{longest_positions, longest-ratios, longest_accepted}

-- the longest in either form, on any side
side_longest : (d : ℕ) → side_length d ≤ side_length max_side
side_longest zero = lit≤ tt
side_longest (suc d) = lit≤ tt

form_longest : (f : Form) → max_positions_body f + max_ratios_body f ≤ max_positions_body Wide + max_ratios_body Wide
form_longest Old = lit≤ tt
form_longest Wide = lit≤ tt

pub within : Within
within r a =
    let f = accepted_fits r a.passes in
    let n = length_record r in
    let p = positions_size r f in
    let v = ratios_size r f in
    let m = form_longest r.form in
    let d = side_longest r.side in
    (omega arith, omega arith, omega arith, p, v)

no_bytes : (rate side : ℕ) (form : Form) → length (record_of (run rate side form [] [])) ≡ min_record + side_length side
unfolding eights pack position_bits coded_positions coded_from
no_bytes rate side form = length_record (run rate side form [] []) ∙ omega arith

none_accepted : (rate side : ℕ) (form : Form) → is_rate rate ≡ true → side ≤ max_side → Accepted (run rate side form [] [])
unfolding Below
none_accepted rate side form e h = record {
  words = tt;
  passes = fitting_accepted (run rate side form [] []) (record { listed = e; sided = h; paired = refl; few = omega arith; valid = valid_none (table_of form) });
}

pub no_points_lem : NoPoints
no_points_lem rate side form = (no_bytes rate side form, none_accepted rate side form)

-- the longest run in a form and on a side
longest_side : (f : Form) (d : ℕ) → (longest f d).side ≡ d
unfolding longest
longest_side f d = refl

longest_form : (f : Form) (d : ℕ) → (longest f d).form ≡ f
unfolding longest
longest_form f d = refl

on_side : (f : Form) (d : ℕ) → length (record_of (longest f d)) ≡ longest_on f d
on_side f d =
    length_record (longest f d)
    ∙ ap₂ (λ (x y : ℕ). x + y)
    (ap₂ (λ (x y : ℕ). min_record + side_length x + y) (longest_side f d)
    (ap (λ (x : Form). length (coded_positions (table_of x) (longest f d).positions)) (longest_form f d) ∙ longest_positions f d))
    (longest-ratios f d)

pub reached : Reached
reached = (
  λ f d h. (longest_accepted f d h, on_side f d, longest_positions f d),
  on_side Old 0,
  on_side Old max_side,
  on_side Wide 0,
  on_side Wide max_side,
  refl,
  refl,
  refl,
)
