-- What the calls answer, of all that they can be given.
use mathlib.Core.Logic.{◌⊎◌, inl, inr}
use mathlib.Core.Path.{◌≡◌, sym, ap}
use Prim.Native.Nat.{ℕ, ◌+◌}
use native.Mathlib.Omega.{arith}
use Rattle.std.proofs.Common.{Some, option_map}
use Rattle.differences.specs.declared.Property.{Property}
use Rattle.differences.specs.declared.Property.TheVariants.{Rate, Side, Count, Form}
use Rattle.differences.specs.declared.Difference.TheVariants.{More}
use Rattle.differences.specs.Differences.{property_difference, more_difference, position_by, ratio_by, position_at, ratio_at}
use Rattle.differences.specs.Overall.{overall_sound}
use Rattle.differences.specs.Claims.{AtIndex, NoneBeyond, Tells, OverallExactly}
use Rattle.differences.proofs.Differences.{property_same, property_other, more_same, more_other, values_beyond, values_same, values_other}
use Rattle.differences.proofs.Overall.{overall_first, overall_second, overall_both}

-- ---- at an index

pub at_index : AtIndex
unfolding position_at ratio_at
at_index xs ys i m n = (
  λ e. let v = sym (values_same xs ys i m n e) in (ap (option_map (position_by i)) v, ap (option_map (ratio_by i)) v),
  λ d. let v = sym (values_other xs ys i m n d) in (ap (option_map (position_by i)) v, ap (option_map (ratio_by i)) v),
)

pub none_beyond : NoneBeyond
unfolding position_at ratio_at
none_beyond xs ys i h = let v = sym (values_beyond xs ys i h) in (ap (option_map (position_by i)) v, ap (option_map (ratio_by i)) v)

-- ---- of no index

tells : (p : Property) (x y : ℕ) → Tells p x y (property_difference p x y)
tells p x y = (λ e. sym (property_same p x y e), λ d. sym (property_other p x y d))

-- the points that only the longer run has
more_told : (m n k : ℕ) → (k ≡ 0 → ⊥) → (m ≡ n + k) ⊎ (n ≡ m + k) → more_difference m n ≡ Some (More k)
more_told m n k d (inl e) = sym (more_other m n (λ q. d (omega (arith, e, q))) k (omega (arith, e)))
more_told m n k d (inr e) = sym (more_other m n (λ q. d (omega (arith, e, q))) k (omega (arith, e)))

pub overall_exactly : OverallExactly
overall_exactly a b = (
  λ n. sym (overall_first a b n),
  λ ok n. sym (overall_second a b ok n),
  λ ok fine. (
    overall_sound a b,
    sym (overall_both a b ok fine),
    tells Rate a.rate b.rate,
    tells Side a.side b.side,
    tells Count a.count b.count,
    tells Form a.form b.form,
    λ e. sym (more_same a.count b.count e),
    λ n d e. more_told a.count b.count n d e,
  ),
)
