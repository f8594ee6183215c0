-- Ratios that all take nine bytes: each differs in the top byte and in the lowest byte from every ratio in its window.
use mathlib.Core.List.{List, [], reverse}
use mathlib.Core.Path.{◌≡◌, refl, sym, ap, ◌∙◌}
use Prim.Native.Nat.{ℕ, zero, suc, ◌+◌, ◌-◌, ◌*◌, ◌/◌, ◌%◌, ◌^◌, ◌≤◌, ◌<◌, min}
use native.Mathlib.Nat.{lt_of_not-le}
use native.Mathlib.Numerals.{add-one}
use native.Mathlib.Omega.{arith}
use lib.Bits.{bit_xor, xor_lt, xor_shr, xor_mod}
use lib.Count.{under}
use lib.Dec.{lit<}
use lib.ListN.{length, get_or, take, length-append, length-take, length-reverse}
use lib.Seq.{take-length, get_or-take, length-take-le}
use Rattle.lists.specs.Below.{Below}
use Rattle.bits.specs.Digits.{digits_of}
use Rattle.lists.proofs.Below.{below_at, below_take}
use Rattle.ratio_format.specs.Zeros.{zeros_at, lead_zeros, trail_zeros, sum_of}
use Rattle.ratio_format.specs.Windows.{window_of}
use Rattle.ratio_format.specs.Choice.{best}
use Rattle.ratio_format.specs.RatioForms.{coded}
use Rattle.ratio_format.specs.Bodies.{coded_from}
use Rattle.ratio_format.proofs.Zeros.{low_bytes, trail_is}
use Rattle.ratio_format.proofs.Zeros.Sums.{xor-zero}
use Rattle.ratio_format.proofs.Choice.{best_at, ratio_form_exception}
use Rattle.ratio_format.proofs.RatioForms.{ratio_form_len, coded_is}
use Rattle.ratio_format.proofs.Windows.{reverse-back_at, window_below}
use Rattle.ratio_format.proofs.Bodies.{coded_more}

-- different in the top byte of 64 bits and in the lowest
abbrev pub Apart : ℕ → ℕ → Type 0
Apart v u = (v / 2 ^ 56 ≡ u / 2 ^ 56 → ⊥) × (v % 2 ^ 8 ≡ u % 2 ^ 8 → ⊥)

under_none : (d n : ℕ) → (d ≡ 0 → ⊥) → under d n ≡ 0
under_none zero n h = absurd (h refl)
under_none (suc d) n h = refl

module _ (v u : ℕ) where
  lead-none : v < 2 ^ 64 → u < 2 ^ 64 → (v / 2 ^ 56 ≡ u / 2 ^ 56 → ⊥) → lead_zeros (bit_xor v u) ≡ 0
  unfolding lead_zeros zeros_at digits_of
  lead-none hv hu n =
      under_none (bit_xor v u / 2 ^ 56 % 256) _
      (λ e. n (xor-zero (v / 2 ^ 56) (u / 2 ^ 56) (sym (xor_shr v u 56) ∙ omega (arith, xor_lt 64 v u hv hu))))

  trail_none : (v % 2 ^ 8 ≡ u % 2 ^ 8 → ⊥) → trail_zeros (bit_xor v u) ≡ 0
  unfolding zeros_at low_bytes
  trail_none n =
      trail_is (bit_xor v u)
      ∙ under_none (bit_xor v u % 256) _ (λ e. n (xor-zero (v % 2 ^ 8) (u % 2 ^ 8) (sym (xor_mod v u 8) ∙ e)))

  -- the sum of such a pair
  pub sum_apart : v < 2 ^ 64 → u < 2 ^ 64 → Apart v u → sum_of v u ≡ 0
  unfolding sum_of
  sum_apart hv hu a = omega (arith, lead-none hv hu a.0, trail_none a.1)

-- a ratio that is apart from every ratio of its window is an exception
pub nine_apart : (v : ℕ) (w : List ℕ) → v < 2 ^ 64 → Below (2 ^ 64) w → ((p : ℕ) → p < length w → Apart v (get_or w p 0)) → length (coded v w) ≡ 9
nine_apart v w hv ha apart =
    let none : (best v w).sum < 2 =
    lt_of_not-le
    (λ (g : 2 ≤ (best v w).sum).
    let b = best_at v w (omega arith) in
    omega (arith, b.1, sum_apart v (get_or w (best v w).place 0) hv (below_at (2 ^ 64) (lit< tt) w ha (best v w).place) (apart (best v w).place b.0))) in
    coded_is v w ∙ ap ratio_form_len (ratio_form_exception v w hv ha none)

-- ratios of which each is apart from those before it, as many as a window holds
module _ (size : ℕ) (vs : List ℕ) (words : Below (2 ^ 64) vs)
    (apart : (i j : ℕ) → i < length vs → j < i → i ≤ j + size → Apart (get_or vs i 0) (get_or vs j 0)) where
  -- place p of the window at index i holds the ratio of index i - 1 - p
  window_apart : (i : ℕ) → i < length vs → (p : ℕ) → p < length (window_of size (take i vs)) → Apart (get_or vs i 0) (get_or (window_of size (take i vs)) p 0)
  window_apart i h p l =
      let w = reverse (take i vs) in
      let n : length (take size w) ≡ min size (length w) = length-take size w in
      let m : length w ≡ i = length-reverse (take i vs) ∙ length-take-le i vs (omega arith) in
      rw (get_or-take size w p 0 (omega arith), reverse-back_at vs i p (omega arith) (omega arith)) (apart i (i - 1 - p) h (omega arith) (omega arith))

  nine_at : (i : ℕ) → i < length vs → length (coded (get_or vs i 0) (window_of size (take i vs))) ≡ 9
  nine_at i h =
      nine_apart (get_or vs i 0) (window_of size (take i vs)) (below_at (2 ^ 64) (lit< tt) vs words i)
      (window_below (2 ^ 64) size (take i vs) (below_take (2 ^ 64) i vs words))
      (window_apart i h)

  nines : (i : ℕ) → i ≤ length vs → length (coded_from size [] (take i vs)) ≡ 9 * i
  unfolding coded_from
  nines zero h = refl
  nines (suc i) h =
      rw (← add-one i, coded_more size vs i h, length-append) (omega (arith, nines i (omega arith), nine_at i h))

  pub all_nine : length (coded_from size [] vs) ≡ 9 * length vs
  all_nine = rw take-length at (nines (length vs) (omega arith))
