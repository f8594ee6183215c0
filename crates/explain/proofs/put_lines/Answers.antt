-- `put_lines` meets its contract: the offset fits.
use native.Mathlib.Omega.{arith}
use lib.ListN.{take}
use lib.Seq.{length-take-le}
use Rattle.ratio_format.specs.Windows.{window_size}
use Rattle.ratio_format.proofs.Bodies.{nine_bytes}
use mathlib.Core.List.{[]}
use Rattle.explain.proofs.put_lines.Goals as goal

pub overflow_add-b : goal.overflow_add-b
overflow_add-b c = record {
  fits = omega (arith, c.bytes_of-bytes.ensures.0, nine_bytes window_size [] (take c.args.i c.args.ratios.now), length-take-le c.args.i c.args.ratios.now (omega (arith, c.requires.1)), c.requires.1, c.requires.2, c.requires.3);
}
