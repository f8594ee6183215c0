-- The form of a ratio against a slice with the oldest ratio first: from the place and the sum that a search found, and that it fits its bytes.
use mathlib.Core.Path.{◌≡◌, sym, ap, ◌∙◌, subst}
use mathlib.Core.List.{List, reverse}
use Prim.Native.Nat.{ℕ, ◌+◌, ◌-◌, ◌*◌, ◌/◌, ◌^◌, ◌≤◌, ◌<◌}
use native.Mathlib.Omega.{arith}
use lib.Bits.{bit_xor}
use lib.ListN.{length, get_or, take, drop, length-take, length-reverse}
use Rattle.lists.specs.Below.{Below}
use Rattle.lists.proofs.Below.{below_of}
use Rattle.bits.proofs.Digits.{pow_bytes}
use Rattle.ratio_format.specs.declared.RatioForm.{RatioForm}
use Rattle.ratio_format.specs.declared.RatioForm.TheVariants.{Reference, Xor, Exception}
use Rattle.ratio_format.specs.Windows.{window_size, window_of}
use Rattle.ratio_format.specs.Zeros.{equal_sum, lead_zeros, trail_zeros}
use Rattle.ratio_format.specs.Choice.{best, ratio_form}
use Rattle.ratio_format.specs.RatioForms.{Fit}
use Rattle.ratio_format.proofs.Choice.{ratio_form_fit, ratio_form_reference, ratio_form_xor, ratio_form_exception, sum_small, best_at, best-xor}
use Rattle.ratio_format.proofs.Windows.{reverse-back, reverse_below, window_of_lem}
use Rattle.ratio_window.specs.Searched.{Searched}

module _ (l : List ℕ) (v p s : ℕ) (known : (k : ℕ) → get_or l k 0 < 2 ^ 64) (v64 : v < 2 ^ 64) (found : Searched v (reverse l) p s) where
  all64 : Below (2 ^ 64) (reverse l)
  all64 = reverse_below (2 ^ 64) l (below_of (2 ^ 64) l known)

  pub chosen_reference : s ≡ equal_sum → Reference p ≡ ratio_form v (reverse l)
  chosen_reference e =
      let b = found.0 (omega arith) in
      ap Reference b.0 ∙ sym (ratio_form_reference v (reverse l) v64 all64 (sym b.1 ∙ e))

  pub chosen_exception : s < 2 → Exception ≡ ratio_form v (reverse l)
  chosen_exception h = sym (ratio_form_exception v (reverse l) v64 all64 (found.1 h))

  -- the xor form: x is the xor with the ratio at the place, in the slice
  module _ (other : s ≡ equal_sum → ⊥) (h : 2 ≤ s) where
    abbrev x : ℕ
    x = bit_xor v (get_or l (length l - 1 - p) 0)

    place : p ≡ (best v (reverse l)).place
    place = (found.0 h).0

    sum : s ≡ (best v (reverse l)).sum
    sum = (found.0 h).1

    pub chosen_in : p < length l
    chosen_in = omega (arith, place, sum, (best_at v (reverse l) (omega (arith, sum))).0, length-reverse l)

    pub chosen_small : s < 8
    chosen_small = omega (arith, sum, sum_small v (reverse l) v64 all64 (λ e. other (sum ∙ e)))

    same-xor : bit_xor v (get_or (reverse l) (best v (reverse l)).place 0) ≡ x
    same-xor = ap (λ (k : ℕ). bit_xor v (get_or (reverse l) k 0)) (sym place) ∙ ap (bit_xor v) (reverse-back l p chosen_in)

    pub chosen_short : trail_zeros x < 8
    chosen_short =
        omega (arith, sum, chosen_small, subst (λ (y : ℕ). lead_zeros y + trail_zeros y ≡ (best v (reverse l)).sum) same-xor (best-xor v (reverse l) (omega (arith, sum))))

    pub chosen_xor : (t : ℕ) → t ≡ trail_zeros x → Xor p t (8 - s) (x / 2 ^ (8 * t)) ≡ ratio_form v (reverse l)
    chosen_xor t e =
        let f = ratio_form_xor v (reverse l) v64 all64 (λ e. other (sum ∙ e)) (omega (arith, sum)) in
        let q = pow_bytes t in
        cc (same-xor, place, sum)

-- its numbers fit, of a window of our size
fit_more : (m n : ℕ) (f : RatioForm) → m ≤ n → Fit m f → Fit n f
fit_more m n (Reference p) h g = omega arith
fit_more m n (Xor p t k x) h g = (omega arith, g.1, g.2)
fit_more m n Exception h g = tt

pub chosen_fit : (l : List ℕ) (v : ℕ) (f : RatioForm) → f ≡ ratio_form v (reverse l) → length l ≤ window_size → Fit window_size f
chosen_fit l v f e h =
    subst (Fit window_size) (sym e) (fit_more (length (reverse l)) window_size (ratio_form v (reverse l)) (rw length-reverse h) (ratio_form_fit v (reverse l)))

-- of the window of ratio i of a list
pub window_fit : (l : List ℕ) (i v : ℕ) (f : RatioForm) → i ≤ length l → f ≡ ratio_form v (window_of window_size (take i l)) → Fit window_size f
window_fit l i v f h e =
    let a = i - window_size in
    chosen_fit (take (i - a) (drop a l)) v f (e ∙ ap (ratio_form v) (sym (window_of_lem window_size l i h))) (omega (arith, length-take (i - a) (drop a l)))
