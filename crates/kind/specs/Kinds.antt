-- Document 01, "Kinds and span": what kind of double a ratio is. The standard term is the class of a floating-point number.
--   kind_at n v the kind by the value v of the bits n
--   kind_of n   the kind of the double whose 64 bits are n
-- It has no test, so it never refuses, and it gives back no number and no place.
use Rattle.std.specs.Prelude.{ℕ, Float}
use Rattle.std.specs.Float.{nan, inf, fin, binary64}
use Rattle.std.specs.Float.Ieee.{of_bits}
use Rattle.kind.specs.declared.Kind.{Kind}
use Rattle.kind.specs.declared.Kind.TheVariants.{Number, Infinity, Nan}

-- by the value v of the bits n: a number is shown with its float value, an infinity with its sign, a not-a-number with its bits
abbrev pub kind_at : ℕ → Float → Kind
kind_at n nan = Nan n
kind_at n (inf negative) = Infinity negative
kind_at n (fin s m e) = Number (fin s m e)

-- the kind of the bits n
abbrev pub kind_of : ℕ → Kind
kind_of n = kind_at n (of_bits binary64 n)
