-- No bytes that the open rule reads as some ratios are fewer than the coding of these ratios.
use mathlib.Core.Path.{◌≡◌, sym, ◌∙◌, subst}
use mathlib.Core.List.{List}
use mathlib.Core.Option.{some}
use Prim.Native.Nat.{ℕ, zero, suc, ◌^◌, ◌≤◌}
use native.Mathlib.Omega.{arith}
use lib.ListN.{length, drop, length-append, length-drop}
use Rattle.lists.specs.Below.{Below}
use Rattle.lists.proofs.Below.{below_drop}
use Rattle.ratio_format.specs.Windows.{push}
use Rattle.ratio_format.specs.Open.{open_one}
use Rattle.ratio_format.specs.Bodies.{coded_from, open_from}
use Rattle.ratio_format.proofs.Windows.{push_below}
use Rattle.ratio_format.proofs.Open.{open_value, open_short}
use Rattle.ratio_format.proofs.Bodies.ReadFrom.{read_from, read_first, read_none, open_is}

by_ratio : (size : ℕ) (w : List ℕ) (n : ℕ) (s vs : List ℕ) → Below 256 s → Below (2 ^ 64) w → read_from open_one size w n s ≡ some vs
    → length (coded_from size w vs) ≤ length s
unfolding coded_from
by_ratio size w zero s vs hs ha e =
    subst (λ (l : List ℕ). length (coded_from size w l) ≤ length s) (sym (read_none open_one size w s vs e).1) (omega arith)
by_ratio size w (suc n) s vs hs ha e =
    let f = read_first open_one size w n s vs e in
    let v = f.ratio in
    let k = f.used in
    let b = open_value w s v k hs ha f.reads in
    let first = open_short w s v k hs ha f.reads in
    let others = by_ratio size (push size v w) n (drop k s) f.others (below_drop 256 k s hs) (push_below (2 ^ 64) size v w b.0 ha) f.goes in
    subst (λ (l : List ℕ). length (coded_from size w l) ≤ length s) (sym f.splits)
    (rw length-append (omega (arith, length-drop k s, b.2)))

pub shortest : (size : ℕ) (w : List ℕ) (n : ℕ) (s vs : List ℕ) → Below 256 s → Below (2 ^ 64) w → open_from size w n s ≡ some vs
    → length (coded_from size w vs) ≤ length s
shortest size w n s vs hs ha e = by_ratio size w n s vs hs ha (sym (open_is size w n s) ∙ e)
