-- Document 01, "Kinds and span", as statements about the answer in numbers. ShowsKind is proved in proofs/Claims, KindsApart in proofs/Numbers.
--   kind_is k s v b  numbers of a kind, each of them written out: the kind, whether it is a negative infinity, the value and the bits
--   float_zero       0 as a float, written out and not by the definitions
--   ShowsKind        what is shown of any 64 bits, told by their sign, their 11 bits of exponent and their 52 of fraction
--   KindsApart       no two kinds have the same numbers
use Rattle.std.specs.Prelude.{false, ◌≡◌, ℕ, ◌/◌, ◌%◌, ◌^◌, ◌≤◌, ◌<◌, Float, pos}
use Rattle.std.specs.Float.{fin, binary64}
use Rattle.std.specs.Float.Ieee.{of_bits}
use Rattle.kind.specs.declared.Kind.{Kind}
use Rattle.kind.specs.declared.KindAnswer.{KindAnswer}
use Rattle.kind.specs.Kinds.{kind_of}
use Rattle.kind.specs.Numbers.{kind_numbers}

-- all four
abbrev pub kind_is : ℕ → ℕ → Float → ℕ → KindAnswer
kind_is k s v b = record { kind = k; negative = s; value = v; bits = b }

-- positive, 0 times 2^0
abbrev pub float_zero : Float
float_zero = fin false 0 (pos 0)

-- where the exponent is all ones: an infinity, of either sign, where the fraction is 0, and else a not-a-number with its bits; everything else is a
-- number with its value, the subnormals and both zeros too
abbrev pub ShowsKind : Type 0
ShowsKind = (n : ℕ) → n < 2 ^ 64
    → let exponent = n / 2 ^ 52 % 2 ^ 11 in
    let fraction = n % 2 ^ 52 in
    let shown = kind_numbers (kind_of n) in
    ((exponent ≡ 2047 → ⊥) → shown ≡ kind_is 0 0 (of_bits binary64 n) 0)
    × (exponent ≡ 2047 → fraction ≡ 0 → n < 2 ^ 63 → shown ≡ kind_is 1 0 float_zero 0)
    × (exponent ≡ 2047 → fraction ≡ 0 → 2 ^ 63 ≤ n → shown ≡ kind_is 1 1 float_zero 0)
    × (exponent ≡ 2047 → (fraction ≡ 0 → ⊥) → shown ≡ kind_is 2 0 float_zero n)

-- so each case can be told, with all that it carries
abbrev pub KindsApart : Type 0
KindsApart = (k l : Kind) → kind_numbers k ≡ kind_numbers l → k ≡ l
