-- d * 1000 divided by r in two parts, whole multiples of r and the rest, for products that 64 bits do not hold.
use mathlib.Core.Path.{◌≡◌, sym, ap, ◌∙◌}
use Prim.Native.Nat.{ℕ, ◌+◌, ◌*◌, ◌/◌, ◌%◌, ◌≤◌, ◌<◌}
use native.Mathlib.Nat.{add-mul, mul_assoc, mul_comm, div-add-mod', mul-add-div_right, mul-add-mod_self_right, div-mul-le_self, mul-le-mul_left, div-lt_iff_lt-mul, mod-lt}
use native.Mathlib.Omega.{arith}

module _ (d r : ℕ) (r≥ : 1000 ≤ r) where
  r⁺ : 0 < r
  r⁺ = omega arith

  whole_rest : d * 1000 ≡ d / r * 1000 * r + d % r * 1000
  whole_rest =
      ap (λ (x : ℕ). x * 1000) (sym (div-add-mod' d r))
      ∙ add-mul (d / r * r) (d % r) 1000
      ∙ ap (λ (x : ℕ). x + d % r * 1000) (mul_assoc (d / r) r 1000 ∙ ap (λ (x : ℕ). d / r * x) (mul_comm r 1000) ∙ sym (mul_assoc (d / r) 1000 r))

  -- the two parts add up to the quotient
  pub in_parts : d / r * 1000 + d % r * 1000 / r ≡ d * 1000 / r
  in_parts = sym (ap (λ (x : ℕ). x / r) whole_rest ∙ mul-add-div_right r⁺ (d / r * 1000) (d % r * 1000))

  -- the whole multiples leave no remainder
  pub remainder_is : d % r * 1000 % r ≡ d * 1000 % r
  remainder_is = sym (ap (λ (x : ℕ). x % r) whole_rest ∙ mul-add-mod_self_right (d / r * 1000) r (d % r * 1000))

  -- the bounds that keep each step within 64 bits
  pub rest_small : d % r < r
  rest_small = mod-lt d r⁺

  pub whole_le : d / r * 1000 ≤ d
  whole_le = omega (arith, mul-le-mul_left (d / r) r≥, div-mul-le_self d r)

  pub rest_lt : d % r * 1000 / r < 1000
  rest_lt = (div-lt_iff_lt-mul r⁺).1 (omega (arith, rest_small))
