-- Laws of the text in pieces: the lines of the points, index by index.
use mathlib.Core.List.{List, [], ◌++◌}
use mathlib.Core.Path.{◌≡◌, refl, ap}
use Prim.Native.Nat.{ℕ, ◌+◌}
use native.Mathlib.Numerals.{add-one}
use Rattle.compare.specs.Pieces.{lines_at, lines_below}

module _ (ts vs us ws : List ℕ) where
  pub below_none : lines_below ts vs us ws 0 ≡ []
  unfolding lines_below
  below_none = refl

  pub below_more : (i : ℕ) → lines_below ts vs us ws (i + 1) ≡ lines_below ts vs us ws i ++ lines_at ts vs us ws i
  unfolding lines_below
  below_more i = ap (lines_below ts vs us ws) (add-one i)
