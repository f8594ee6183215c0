-- `bytes_of` meets its contract: the body of the ratios before it, and of those with it.
use mathlib.Core.Path.{◌≡◌, ap}
use Prim.Native.Nat.{◌+◌}
use native.Mathlib.Omega.{arith}
use lib.ListN.{length, get_or, take, length-append}
use Rattle.ratio_format.specs.Bodies.{coded_ratios}
use Rattle.ratio_format.specs.RatioForms.{coded}
use Rattle.ratio_format.specs.Windows.{window_size}
use Rattle.ratio_format.proofs.Bodies.{coded_more}
use Rattle.reasons.specs.Reasons.{window_at}
use Rattle.explain.specs.Printed.{cost_of}
use Rattle.explain.proofs.bytes_of.Goals as goal

pub overflow_sub-result : goal.overflow_sub-result
overflow_sub-result c =
    let longer : c.body_size-after.result ≡ c.body_size-before.result + cost_of c.args.ratios.now c.args.i = omega (
      arith,
      c.body_size-after.ensures,
      c.body_size-before.ensures,
      ap length (coded_more window_size c.args.ratios.now c.args.i c.requires.0),
      length-append (coded_ratios (take c.args.i c.args.ratios.now)) (coded (get_or c.args.ratios.now c.args.i 0) (window_at c.args.ratios.now c.args.i)),
    ) in
    omega (arith, longer)

pub returns : goal.returns
returns c =
    let longer : c.body_size-after.result ≡ c.body_size-before.result + cost_of c.args.ratios.now c.args.i = omega (
      arith,
      c.body_size-after.ensures,
      c.body_size-before.ensures,
      ap length (coded_more window_size c.args.ratios.now c.args.i c.requires.0),
      length-append (coded_ratios (take c.args.i c.args.ratios.now)) (coded (get_or c.args.ratios.now c.args.i 0) (window_at c.args.ratios.now c.args.i)),
    ) in
    (c.body_size-before.ensures, omega (arith, longer))
