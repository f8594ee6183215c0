-- Document 01, "Ratios": the bytes of one ratio.
--   xor_byte        the first byte of an xor form at place 0; below it a first byte is a place
--   exception_byte  the first byte of an exception
--   written v f     the bytes of the ratio v in the form f
--   coded v w       the bytes of v against the window w
--   Fit n f         the numbers of the form f are those of a form against a window of n ratios
use Rattle.std.specs.Prelude.{List, [], ◌∷◌, ℕ, ◌+◌, ◌*◌, ◌≤◌, ◌<◌}
use Rattle.bits.specs.Digits.{bytes_of}
use Rattle.ratio_format.specs.declared.RatioForm.{RatioForm}
use Rattle.ratio_format.specs.declared.RatioForm.TheVariants.{Reference, Xor, Exception}
use Rattle.ratio_format.specs.Choice.{ratio_form}

-- a place plus 128 is the first byte of an xor form
abbrev pub xor_byte : ℕ
xor_byte = 128

-- 255, which is no place plus 128
abbrev pub exception_byte : ℕ
exception_byte = 255

-- a reference is its place; an xor form the place plus 128, the trailing count in the high four bits and the middle's length in the low
-- four, and the middle; an exception 255 and the eight bytes of the ratio
unfoldable pub written : ℕ → RatioForm → List ℕ
written v (Reference p) = p ∷ []
written v (Xor p t n m) = (p + xor_byte) ∷ (t * 16 + n) ∷ bytes_of n m
written v Exception = exception_byte ∷ bytes_of 8 v

-- what is written for v
unfoldable pub coded : ℕ → List ℕ → List ℕ
coded v w = written v (ratio_form v w)

-- the numbers of a form, in a window of n ratios: a place of the window, at most eight trailing zero bytes, and a middle of at most six bytes
abbrev pub Fit : ℕ → RatioForm → Type 0
Fit n (Reference p) = p < n
Fit n (Xor p t k m) = (p < n) × (t ≤ 8) × (k ≤ 6)
Fit n Exception = Unit {0}
