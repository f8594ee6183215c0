-- The value of 64 bits as a double, by the bits without their sign: above an infinity's, equal to them, or below.
use mathlib.Core.Path.{◌≡◌, refl, sym, ap, ap₂, ◌∙◌, subst}
use mathlib.Core.Bool.{Bool, true, false, not}
use Prim.Native.Nat.{ℕ, ◌/◌, ◌%◌, ◌^◌, ◌≤◌, ◌<◌}
use native.Mathlib.Omega.{arith}
use borrow.Author.Tests.{lt-ltb, le-ltb}
use lib.Dec.{T, leb}
use lib.Pow.{mod-mod-pow}
use lib.Ieee.{Float, nan, inf, fin, binary64, of_bits, of_fields, to_bits, is_nan, nan_bits}
use lib.Ieee.Bits.{nan_bits_is, nan_bits_above, to_bits-of_bits}
use Rattle.kind.specs.declared.Kind.TheVariants.{Number}
use Rattle.kind.specs.Kinds.{kind_at}

-- the bits of an infinity without its sign
abbrev pub infinity : ℕ
infinity = 9218868437227405312

is_nan_lem : (v : Float) → is_nan v ≡ true → v ≡ nan
unfolding is_nan
is_nan_lem nan e = refl
is_nan_lem (inf s) e = cc
is_nan_lem (fin s m x) e = cc

pub value_above : (n : ℕ) → infinity < n % 2 ^ 63 → of_bits binary64 n ≡ nan
value_above n h = is_nan_lem (of_bits binary64 n) (sym (nan_bits_is binary64 n) ∙ nan_bits_above binary64 n ∙ lt-ltb infinity (n % 2 ^ 63) h)

pub value_equal : (n : ℕ) → n % 2 ^ 63 ≡ infinity → of_bits binary64 n ≡ inf (leb (2 ^ 63) n)
unfolding of_bits of_fields
value_equal n e = ap₂ (λ (x t : ℕ). of_fields binary64 (leb (2 ^ 63) n) (x / 2 ^ 52) t) e (sym (mod-mod-pow n 11 52) ∙ ap (λ (x : ℕ). x % 2 ^ 52) e)

no_nan : (n : ℕ) → n % 2 ^ 63 ≤ infinity → nan_bits binary64 n ≡ false
no_nan n h = nan_bits_above binary64 n ∙ le-ltb infinity (n % 2 ^ 63) h

holds_not : {b : Bool} → b ≡ false → T (not b)
holds_not e = subst (λ (c : Bool). T (not c)) (sym e) tt

-- bits that are no not-a-number's, as a conversion to a float asks
pub value_not_nan : (n : ℕ) → n % 2 ^ 63 ≤ infinity → T (not (nan_bits binary64 n))
value_not_nan n h = holds_not (no_nan n h)

inf_bits : (s : Bool) → to_bits binary64 (inf s) % 2 ^ 63 ≡ infinity
unfolding to_bits
inf_bits true = refl
inf_bits false = refl

module _ (n : ℕ) (n< : n < 2 ^ 64) (h : n % 2 ^ 63 < infinity) where
  is_number : is_nan (of_bits binary64 n) ≡ false
  is_number = sym (nan_bits_is binary64 n) ∙ no_nan n (omega arith)

  back : to_bits binary64 (of_bits binary64 n) ≡ n
  back = to_bits-of_bits binary64 n n< (holds_not is_number)

  by_value : (v : Float) → of_bits binary64 n ≡ v → Number v ≡ kind_at n v
  unfolding is_nan
  by_value nan e = let z : true ≡ false = sym (ap is_nan e) ∙ is_number in cc
  by_value (inf s) e =
      let k : infinity ≡ n % 2 ^ 63 = sym (inf_bits s) ∙ ap (λ (v : Float). to_bits binary64 v % 2 ^ 63) (sym e) ∙ ap (λ (x : ℕ). x % 2 ^ 63) back in
      absurd (omega arith)
  by_value (fin s m x) e = refl

  pub value_below : Number (of_bits binary64 n) ≡ kind_at n (of_bits binary64 n)
  value_below = by_value (of_bits binary64 n) refl
