-- The bytes of one ratio: how many there are, by the form, and that each is a byte.
use mathlib.Core.Path.{◌≡◌, refl}
use mathlib.Core.List.{List}
use Prim.Native.Nat.{ℕ, ◌+◌, ◌≤◌}
use native.Mathlib.Omega.{arith}
use lib.Dec.{lit<}
use lib.ListN.{length}
use Rattle.lists.specs.Below.{Below}
use Rattle.bits.proofs.Digits.{below_digits, length_digits}
use Rattle.ratio_format.specs.declared.RatioForm.{RatioForm}
use Rattle.ratio_format.specs.declared.RatioForm.TheVariants.{Reference, Xor, Exception}
use Rattle.ratio_format.specs.Windows.{window_size}
use Rattle.ratio_format.specs.Choice.{ratio_form}
use Rattle.ratio_format.specs.RatioForms.{written, coded, Fit}
use Rattle.ratio_format.proofs.Choice.{ratio_form_fit}

-- how many bytes a form takes
abbrev pub ratio_form_len : RatioForm → ℕ
ratio_form_len (Reference p) = 1
ratio_form_len (Xor p t n m) = n + 2
ratio_form_len Exception = 9

pub written-length : (v : ℕ) (f : RatioForm) → length (written v f) ≡ ratio_form_len f
unfolding written
written-length v (Reference p) = refl
written-length v (Xor p t n m) = omega (arith, length_digits 256 n m)
written-length v Exception = omega (arith, length_digits 256 8 v)

pub coded_is : (v : ℕ) (w : List ℕ) → length (coded v w) ≡ ratio_form_len (ratio_form v w)
unfolding coded
coded_is v w = written-length v (ratio_form v w)

-- a form takes 1 to 9 bytes
fit_length : (n : ℕ) (f : RatioForm) → Fit n f → (1 ≤ ratio_form_len f) × (ratio_form_len f ≤ 9)
fit_length n (Reference p) h = (omega arith, omega arith)
fit_length n (Xor p t k m) h = (omega arith, omega arith)
fit_length n Exception h = (omega arith, omega arith)

pub coded-length : (v : ℕ) (w : List ℕ) → (1 ≤ length (coded v w)) × (length (coded v w) ≤ 9)
coded-length v w = rw coded_is (fit_length (length w) (ratio_form v w) (ratio_form_fit v w))

-- and each is below 256, where the window's places are
fit_below : (v n : ℕ) (f : RatioForm) → n ≤ window_size → Fit n f → Below 256 (written v f)
unfolding written Below
fit_below v n (Reference p) h g = (omega arith, tt)
fit_below v n (Xor p t k m) h g = (omega arith, (omega arith, below_digits 256 (lit< tt) k m))
fit_below v n Exception h g = (omega arith, below_digits 256 (lit< tt) 8 v)

pub coded_below : (v : ℕ) (w : List ℕ) → length w ≤ window_size → Below 256 (coded v w)
unfolding coded
coded_below v w h = fit_below v (length w) (ratio_form v w) h (ratio_form_fit v w)
