-- `body_size` meets its contract: nine bytes for each ratio are room enough.
use mathlib.Core.List.{List, []}
use mathlib.Core.Path.{refl}
use Prim.Native.Nat.{ℕ, ◌≤◌}
use native.Mathlib.Omega.{arith}
use lib.ListN.{length, length-replicate}
use Rattle.std.specs.Prelude.{Option, Some, None, IsSome}
use Rattle.outputs.specs.Outputs.{Placed}
use Rattle.ratio_format.specs.Bodies.{coded_ratios}
use Rattle.ratio_format.specs.Windows.{window_size}
use Rattle.ratio_format.proofs.Bodies.{nine_bytes}
use Rattle.explain.proofs.body_size.Goals as goal

placed_some : (bs o p : List ℕ) (w : Option ℕ) → length bs ≤ length o → Placed bs w o p → IsSome w
placed_some bs o p None room h = absurd (omega arith)
placed_some bs o p (Some n) room h = refl

pub unwrap-requires : goal.unwrap-requires
unwrap-requires c =
    placed_some (coded_ratios c.args.ratios.now) _ _ c.put_ratios.result
    (omega (arith, length-replicate {A = ℕ} 36864 0, nine_bytes window_size [] c.args.ratios.now, c.requires)) c.put_ratios.ensures
