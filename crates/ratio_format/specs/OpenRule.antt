-- Document 01, "Ratios": the open rule as it is worded there, form by form, as a relation, and that open reading is by it. Proved in proofs/OpenRule.
--   OpenReads w s r   the open rule reads the string s, against the window w, as r: a ratio with the number of its bytes, or nothing
--   OpenForms         of every window and every string of bytes the open rule says exactly one thing, and `open_one` answers it
--   ReadAs w vs s     s is the ratios vs one after the other, each in bytes that the open rule reads as it, and no byte more; the window, w at
--                     first, takes each ratio as it is read
--   OpenBodies        of every count and every string of bytes `open_ratios` gives the ratios vs exactly when they are as many as the count, and the
--                     string is read as them from a fresh window; else it gives nothing
use Rattle.std.specs.Prelude.{List, [], ◌∷◌, ◌++◌, ◌↔◌, ◌≡◌, ℕ, ◌+◌, ◌*◌, ◌≤◌, ◌<◌, length, get_or, take, replicate, None}
use Rattle.std.proofs.Math.Option.{some}
use Rattle.std.specs.Int.Bits.{bit_xor}
use Rattle.lists.specs.Below.{Below}
use Rattle.bits.specs.Digits.{number_of}
use Rattle.ratio_format.specs.Open.{Read, Ratio, open_one}
use Rattle.ratio_format.specs.Bodies.{open_ratios}

-- no byte: nothing.
-- "A byte below 128 is a place": the ratio there, in one byte. "A place must hold a ratio."
-- "128 to 254 is a place plus 128, then a trailing count and a length whose sum is at most 8 (length 0 allowed), then that many bytes, put at that
-- height and xored with the window's ratio": the count in the high four bits of one byte and the length in the low four; the bytes at that height
-- are the number that they make with as many zero bytes behind them as the trailing count says.
-- "255 is an exception": the eight bytes of the ratio.
pub data OpenReads (w s : List ℕ) (r : Read) : Type 0 where
  empty : s ≡ [] → r ≡ None → OpenReads w s r
  place_held : (p : ℕ) (rest : List ℕ) → s ≡ p ∷ rest → p < 128 → p < length w → r ≡ Ratio (get_or w p 0) 1 → OpenReads w s r
  place_not_held : (p : ℕ) (rest : List ℕ) → s ≡ p ∷ rest → p < 128 → length w ≤ p → r ≡ None → OpenReads w s r
  xor_place_not_held : (p : ℕ) (rest : List ℕ) → s ≡ (p + 128) ∷ rest → p < 127 → length w ≤ p → r ≡ None → OpenReads w s r
  counts_missing : (p : ℕ) → s ≡ (p + 128) ∷ [] → p < 127 → p < length w → r ≡ None → OpenReads w s r
  counts_above_eight : (p t n : ℕ) (rest : List ℕ) → s ≡ (p + 128) ∷ (t * 16 + n) ∷ rest → p < 127 → p < length w → n < 16 → 8 < t + n → r ≡ None
      → OpenReads w s r
  middle_cut : (p t n : ℕ) (rest : List ℕ) → s ≡ (p + 128) ∷ (t * 16 + n) ∷ rest → p < 127 → p < length w → t + n ≤ 8 → length rest < n → r ≡ None
      → OpenReads w s r
  xored : (p t : ℕ) (middle rest : List ℕ) → s ≡ (p + 128) ∷ (t * 16 + length middle) ∷ (middle ++ rest) → p < 127 → p < length w → t + length middle ≤ 8
      → r ≡ Ratio (bit_xor (number_of 256 (middle ++ replicate t 0)) (get_or w p 0)) (2 + length middle) → OpenReads w s r
  exception : (eight rest : List ℕ) → s ≡ 255 ∷ (eight ++ rest) → length eight ≡ 8 → r ≡ Ratio (number_of 256 eight) 9 → OpenReads w s r
  exception_cut : (rest : List ℕ) → s ≡ 255 ∷ rest → length rest < 8 → r ≡ None → OpenReads w s r

-- both ways: from left to right the rule says something of every string, from right to left it is what is answered
abbrev pub OpenForms : Type 0
OpenForms = (w s : List ℕ) (r : Read) → Below 256 s → (open_one w s ≡ r) ↔ OpenReads w s r

-- at most 127 ratios stay in the window
unfoldable pub ReadAs : List ℕ → List ℕ → List ℕ → Type 0
ReadAs w [] s = s ≡ []
ReadAs w (v ∷ vs) s = (form rest : List ℕ) × (s ≡ form ++ rest) × OpenReads w form (Ratio v (length form)) × ReadAs (take 127 (v ∷ w)) vs rest

-- "The count must come out with every byte used"
abbrev pub OpenBodies : Type 0
OpenBodies = (n : ℕ) (s vs : List ℕ) → Below 256 s → (open_ratios n s ≡ some vs) ↔ ((length vs ≡ n) × ReadAs [] vs s)
