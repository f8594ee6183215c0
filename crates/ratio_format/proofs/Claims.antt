-- The claims of specs/Claims.
use mathlib.Core.Bool.{Bool, true, false}
use mathlib.Core.List.{List, []}
use mathlib.Core.Logic.{◌⊎◌, inl, inr}
use mathlib.Core.Path.{◌≡◌, refl, sym, ap, ◌∙◌}
use Prim.Native.Nat.{ℕ, ◌+◌, ◌-◌, ◌/◌, ◌^◌, ◌≤◌, ◌<◌}
use native.Mathlib.Omega.{arith}
use borrow.Author.Tests.{lt-ltb, le-ltb, le-leb, lt-leb, leb-true, leb-false}
use lib.Bits.{bit_xor}
use lib.Dec.{leb, ltb}
use lib.ListN.{length, get_or, take, drop}
use Rattle.bits.specs.Digits.{digits_of, bytes_of}
use Rattle.bits.proofs.Digits.{take_digits, drop_digits}
use Rattle.ratio_format.specs.declared.RatioForm.{RatioForm}
use Rattle.ratio_format.specs.declared.RatioForm.TheVariants.{Reference, Xor, Exception}
use Rattle.ratio_format.specs.Windows.{window_size}
use Rattle.ratio_format.specs.Zeros.{lead_zeros, trail_zeros, sum_of}
use Rattle.ratio_format.specs.Choice.{find, best, ratio_form}
use Rattle.ratio_format.specs.RatioForms.{Fit, written, coded}
use Rattle.ratio_format.specs.Claims.{ChoosesForm, RatioBytes, BodyBytes}
use Rattle.ratio_format.proofs.Choice.{best_at, best_most, best-first, find_at, find_first, find_lt, ratio_form_fit, Tight, ratio_form_tight}
use Rattle.ratio_format.proofs.RatioForms.{ratio_form_len, coded_is}
use Rattle.ratio_format.proofs.Bodies.{coded_bytes}

-- ---- the choice

-- the bytes of x between its zero bytes
middle_bytes : (x l t : ℕ) → take (8 - (l + t)) (drop l (bytes_of 8 x)) ≡ bytes_of (8 - (l + t)) (x / 256 ^ t)
unfolding digits_of
middle_bytes x l t = go (8 - (l + t)) refl (leb (l + t) 8) refl
  where
    go : (n : ℕ) → 8 - (l + t) ≡ n → (b : Bool) → leb (l + t) 8 ≡ b → take n (drop l (bytes_of 8 x)) ≡ bytes_of n (x / 256 ^ t)
    go n q true e =
        let h = leb-true (l + t) 8 e in
        let eight : 8 ≡ l + (n + t) = omega arith in
        ap (λ (k : ℕ). take n (drop l (bytes_of k x))) eight ∙ ap (take n) (drop_digits 256 l (n + t) x) ∙ take_digits 256 n t x
    go n q false e =
        let z : n ≡ 0 = omega (arith, leb-false (l + t) 8 e) in
        ap (λ (k : ℕ). take k (drop l (bytes_of 8 x))) z ∙ sym (ap (λ (k : ℕ). bytes_of k (x / 256 ^ t)) z)

module _ (v : ℕ) (w : List ℕ) where
  -- the smallest place
  found_at : (p : ℕ) → p < length w → get_or w p 0 ≡ v → ((q : ℕ) → q < p → get_or w q 0 ≡ v → ⊥) → find v w ≡ p
  found_at p h e first =
      let f = find_lt v w p h e in
      let nearer : (find v w < p → ⊥) = λ l. first (find v w) l (find_at v w f) in
      let farther : (p < find v w → ⊥) = λ l. find_first v w p l e in
      omega arith

  absent : ((q : ℕ) → q < length w → get_or w q 0 ≡ v → ⊥) → ltb (find v w) (length w) ≡ false
  absent never =
      let none : (find v w < length w → ⊥) = λ l. never (find v w) l (find_at v w l) in
      le-ltb (find v w) (length w) (omega arith)

  -- the largest sum, at its smallest place
  best_is : (p s : ℕ) → p < length w → 0 < s → sum_of v (get_or w p 0) ≡ s → ((q : ℕ) → q < length w → sum_of v (get_or w q 0) ≤ s)
      → ((q : ℕ) → q < p → sum_of v (get_or w q 0) < s) → ((best v w).place ≡ p) × ((best v w).sum ≡ s)
  best_is p s h pos e most first =
      let m = best_most v w p h in
      let b = best_at v w (omega arith) in
      let i : (best v w).sum ≡ s = omega (arith, most (best v w).place b.0) in
      let nearer : ((best v w).place < p → ⊥) = λ l. omega (arith, first (best v w).place l) in
      let farther : (p < (best v w).place → ⊥) = λ l. omega (arith, best-first v w p l) in
      (omega arith, i)

  small : ((q : ℕ) → q < length w → sum_of v (get_or w q 0) < 2) → (best v w).sum < 2
  small low =
      let none : (2 ≤ (best v w).sum → ⊥) = λ h. let b = best_at v w (omega arith) in omega (arith, low (best v w).place b.0) in
      omega arith

pub chooses_form : ChoosesForm
unfolding coded written ratio_form sum_of
chooses_form v w = (
  λ p h e first. let f = found_at v w p h e first in rw (f, lt-ltb p (length w) h) refl,
  λ never. (
    λ p h two most first.
        let x = bit_xor v (get_or w p 0) in
        let l = lead_zeros x in
        let t = trail_zeros x in
        let b = best_is v w p (l + t) h (omega arith) refl most first in
        rw (absent v w never, b.1, le-leb 2 (l + t) two, b.0, middle_bytes x l t) refl,
    λ low. rw (absent v w never, lt-leb 2 (best v w).sum (small v w low)) refl,
  ),
)

-- ---- its length

ratio_form_length : (n : ℕ) (f : RatioForm) → Fit n f → Tight f → (ratio_form_len f ≡ 1) ⊎ (((3 ≤ ratio_form_len f) × (ratio_form_len f ≤ 8)) ⊎ (ratio_form_len f ≡ 9))
ratio_form_length n (Reference p) h g = inl refl
ratio_form_length n (Xor p t k m) h g = inr (inl (omega arith, omega arith))
ratio_form_length n Exception h g = inr (inr refl)

pub ratio_bytes : RatioBytes
ratio_bytes v w hv ha = rw coded_is (ratio_form_length (length w) (ratio_form v w) (ratio_form_fit v w) (ratio_form_tight v w hv ha))

pub body_bytes : BodyBytes
body_bytes vs = coded_bytes window_size (omega arith) [] vs (omega arith)
