-- The bytes with which a ratio form begins, before its middle or its ratio.
--   ratio_form_head f  a place; a place plus 128 and the two counts; 255
use Rattle.std.specs.Prelude.{List, [], ◌∷◌, ℕ, ◌+◌, ◌*◌}
use Rattle.ratio_format.specs.RatioForms.{xor_byte, exception_byte}
use Rattle.ratio_format.specs.declared.RatioForm.{RatioForm}
use Rattle.ratio_format.specs.declared.RatioForm.TheVariants.{Reference, Xor, Exception}

-- the first byte, and of an xor form the first two
abbrev pub ratio_form_head : RatioForm → List ℕ
ratio_form_head (Reference p) = p ∷ []
ratio_form_head (Xor p t n m) = (p + xor_byte) ∷ (t * 16 + n) ∷ []
ratio_form_head Exception = exception_byte ∷ []
