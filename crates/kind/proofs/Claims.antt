-- What document 01 says of a ratio's kind holds, in numbers.
pub mod Values
use mathlib.Core.Bool.{Bool}
use mathlib.Core.Path.{◌≡◌, refl, sym, ap, ◌∙◌}
use Prim.Native.Nat.{ℕ, ◌/◌, ◌%◌, ◌^◌, ◌<◌}
use native.Mathlib.Omega.{arith}
use borrow.Author.Tests.{le-leb, lt-leb}
use lib.Dec.{leb}
use lib.Ieee.{Float, binary64, of_bits, of_fields}
use Rattle.kind.specs.declared.Kind.TheVariants.{Infinity}
use Rattle.kind.specs.Kinds.{kind_at}
use Rattle.kind.specs.Numbers.{zero_float, kind_numbers}
use Rattle.kind.specs.Claims.{kind_is, float_zero, ShowsKind}
use Rattle.kind.proofs.Claims.Values.{infinity, value_above, value_equal, value_below}

zero_float_lem : zero_float ≡ float_zero
unfolding of_bits of_fields
zero_float_lem = refl

-- the fields tell where the bits without their sign stand
module _ (n : ℕ) where
  below : (n / 2 ^ 52 % 2 ^ 11 ≡ 2047 → ⊥) → n % 2 ^ 63 < infinity
  below e = omega arith

  equal : n / 2 ^ 52 % 2 ^ 11 ≡ 2047 → n % 2 ^ 52 ≡ 0 → n % 2 ^ 63 ≡ infinity
  equal e f = omega arith

  above : n / 2 ^ 52 % 2 ^ 11 ≡ 2047 → (n % 2 ^ 52 ≡ 0 → ⊥) → infinity < n % 2 ^ 63
  above e f = omega arith

-- the numbers of an infinity with the sign s
infinite : (n : ℕ) {s : Bool} → n % 2 ^ 63 ≡ infinity → leb (2 ^ 63) n ≡ s → kind_numbers (kind_at n (of_bits binary64 n)) ≡ kind_numbers (Infinity s)
infinite n h e = ap (λ (v : Float). kind_numbers (kind_at n v)) (value_equal n h) ∙ ap (λ (s : Bool). kind_numbers (Infinity s)) e

pub shows_kind : ShowsKind
shows_kind n n< = (
  λ e. sym (ap kind_numbers (value_below n n< (below n e))),
  (λ e f g. infinite n (equal n e f) (lt-leb (2 ^ 63) n g) ∙ ap (λ (v : Float). kind_is 1 0 v 0) zero_float_lem),
  (λ e f g. infinite n (equal n e f) (le-leb (2 ^ 63) n g) ∙ ap (λ (v : Float). kind_is 1 1 v 0) zero_float_lem),
  (λ e f. ap (λ (v : Float). kind_numbers (kind_at n v)) (value_above n (above n e f)) ∙ ap (λ (v : Float). kind_is 2 0 v n) zero_float_lem),
)
