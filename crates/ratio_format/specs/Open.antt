-- Document 01, "Ratios": the open rule for one ratio, and strict reading of one: lenient and canonical decoding.
--   Read              what reading one ratio finds: the ratio and the number of its bytes, or none; Ratio v k: such a ratio
--   open_xor u s      after the byte of a place that holds u: the two counts in one byte, and the middle
--   open_one w s      the ratio at the front of the bytes s, against the window w, by the open rule
--   strict_of w s r   an open reading r, accepted only so
--   strict_one w s    the same, accepted only where the bytes are those that are written for that ratio
use Rattle.std.specs.Prelude.{cond, List, [], ◌∷◌, ℕ, ◌+◌, ◌-◌, ◌*◌, ◌/◌, ◌%◌, ◌^◌, leb, ltb, length, get_or, take, Option, Some, None}
use Rattle.std.specs.Int.Bits.{bit_xor}
use Rattle.lists.specs.Compare.{begins}
use Rattle.bits.specs.Digits.{number_of}
use Rattle.ratio_format.specs.RatioForms.{xor_byte, exception_byte, coded}

-- the ratio and the number of its bytes, or no ratio
abbrev pub Read : Type 0
Read = Option (ℕ × ℕ)

-- the ratio v, of k bytes
pattern abbrev pub Ratio : ℕ → ℕ → Read
Ratio v k = Some (v, k)

-- the counts' sum is at most 8, a length of 0 is allowed, and the middle is put at its height and xored with u
unfoldable pub open_xor : ℕ → List ℕ → Read
open_xor u [] = None
open_xor u (c ∷ s) =
    cond (leb (c / 16 + c % 16) 8)
    (cond (leb (c % 16) (length s)) (Ratio (bit_xor (number_of 256 (take (c % 16) s) * 256 ^ (c / 16)) u) (c % 16 + 2)) None)
    None

-- a byte below 128 is a place, 128 to 254 a place plus 128, 255 an exception; a place must hold a ratio
unfoldable pub open_one : List ℕ → List ℕ → Read
open_one w [] = None
open_one w (b ∷ s) =
    cond (ltb b xor_byte)
    (cond (ltb b (length w)) (Ratio (get_or w b 0) 1) None)
    (cond (ltb b exception_byte)
    (cond (ltb (b - xor_byte) (length w)) (open_xor (get_or w (b - xor_byte) 0) s) None)
    (cond (leb 8 (length s)) (Ratio (number_of 256 (take 8 s)) 9) None))

-- an open reading whose bytes are those that are written for the ratio
abbrev pub strict_of : List ℕ → List ℕ → Read → Read
strict_of w s (Ratio v n) = cond (begins (coded v w) s) (Ratio v n) None
strict_of w s None = None

-- only the choices of the writer are accepted
unfoldable pub strict_one : List ℕ → List ℕ → Read
strict_one w s = strict_of w s (open_one w s)
