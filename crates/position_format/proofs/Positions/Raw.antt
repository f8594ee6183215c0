-- The first two positions, which stand raw in front: what their bits are read as.
use mathlib.Core.List.{List, ◌++◌}
use mathlib.Core.Path.{◌≡◌, sym, ap, ◌∙◌}
use Prim.Native.Nat.{ℕ, ◌≤◌}
use native.Mathlib.Omega.{arith}
use lib.ListN.{take, drop}
use lib.Seq.{take_at, drop_at, drop-drop}
use Rattle.bits.specs.Digits.{bits_of, number_of}
use Rattle.bits.proofs.Digits.{two⁺, length_digits, number_digits_lt}
use Rattle.limits.specs.Points.{max_position}

module _ (a : ℕ) (ds : List ℕ) where
  pub raw_first : a ≤ max_position → number_of 2 (take 64 (bits_of 64 a ++ ds)) ≡ a
  raw_first h = ap (number_of 2) (take_at (bits_of 64 a) ds 64 (length_digits 2 64 a)) ∙ number_digits_lt two⁺ 64 (omega arith)

  pub raw_rest : drop 64 (bits_of 64 a ++ ds) ≡ ds
  raw_rest = drop_at (bits_of 64 a) ds 64 (length_digits 2 64 a)

pub raw_both : (a b : ℕ) (ds : List ℕ) → drop 128 (bits_of 64 a ++ (bits_of 64 b ++ ds)) ≡ ds
raw_both a b ds = sym (drop-drop 64 64 (bits_of 64 a ++ (bits_of 64 b ++ ds))) ∙ ap (drop 64) (raw_rest a (bits_of 64 b ++ ds)) ∙ raw_rest b ds
