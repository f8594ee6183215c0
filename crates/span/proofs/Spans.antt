-- Laws of a span: what is divided, by the order of the first and the last position; the milliseconds of no points or one; and the whole answer by the
-- first of its tests that applies.
pub mod Parts
pub mod Rounding
use mathlib.Core.List.{List, [], ◌∷◌}
use mathlib.Core.Path.{◌≡◌, ap, ◌∙◌}
use Prim.Native.Nat.{ℕ, suc, ◌-◌, ◌*◌, ◌/◌, ◌≤◌, ◌<◌}
use native.Mathlib.Nat.{zero-div}
use native.Mathlib.Omega.{arith}
use lib.IntN.{ℤ, pos, neg_ℤ, ◌-ℤ◌, ◌*ℤ◌}
use lib.ListN.{length}
use Rattle.span.specs.Spans.{rounded_down, milliseconds, span_tests, span_answer, spanned}
use Rattle.integers.proofs.Integers.{diff_pos, diff_neg}
use mathlib.Core.Bool.{true, false, not}
use borrow.Author.Tests.{lt-ltb, le-ltb}
use Rattle.refusals.specs.declared.Refusal.{Refusal}
use Rattle.limits.specs.Points.{max_points, first_high}
use Rattle.limits.specs.Rates.{is_rate}
use Rattle.refusals.specs.Tests.{first_of}
use Rattle.refusals.proofs.Tests.{first_of_end, first_of_skip, first_of_here}

-- ---- milliseconds

-- what is divided, by the order of the two positions
module _ (first last : ℕ) where
  pub dividend_forward : first ≤ last → (pos last -ℤ pos first) *ℤ pos 1000 ≡ pos ((last - first) * 1000)
  dividend_forward h = ap (λ (z : ℤ). z *ℤ pos 1000) (diff_pos last first h)

  pub dividend-backward : last < first → (pos last -ℤ pos first) *ℤ pos 1000 ≡ neg_ℤ (pos ((first - last) * 1000))
  dividend-backward h =
      let e : suc (first - suc last) ≡ first - last = omega arith in
      ap (λ (z : ℤ). z *ℤ pos 1000) (diff_neg last first h) ∙ ap (λ (x : ℕ). neg_ℤ (pos (x * 1000))) e

same : (t r : ℕ) → rounded_down ((pos t -ℤ pos t) *ℤ pos 1000) r ≡ pos 0
same t r =
    let e : (t - t) * 1000 ≡ 0 = omega arith in
    ap (λ (z : ℤ). rounded_down z r) (dividend_forward t t (omega arith)) ∙ ap (λ (x : ℕ). pos (x / r)) e ∙ ap pos (zero-div r)

-- of no points or one it is 0
pub milliseconds_short : (r : ℕ) (ts : List ℕ) → length ts ≤ 1 → milliseconds r ts ≡ pos 0
milliseconds_short r [] h = same 0 r
milliseconds_short r (t ∷ []) h = same t r
milliseconds_short r (t ∷ s ∷ ts) h = absurd (omega arith)

-- ---- the answer

module _ (r : ℕ) (ts : List ℕ) where
  answered : {f : Refusal} → first_of (span_tests r ts) ≡ f → spanned r ts ≡ span_answer f (milliseconds r ts)
  unfolding spanned
  answered e = ap (λ (f : Refusal). span_answer f (milliseconds r ts)) e

  pub spanned_no_rate : is_rate r ≡ false → spanned r ts ≡ record { number = 1; place = 0; milliseconds = pos 0 }
  spanned_no_rate e = answered (first_of_here _ _ (ap not e))

  module _ (rate : is_rate r ≡ true) where
    pub spanned_many : max_points < length ts → spanned r ts ≡ record { number = 3; place = 0; milliseconds = pos 0 }
    spanned_many h = answered (first_of_skip _ _ (ap not rate) ∙ first_of_here _ _ (lt-ltb _ _ h))

    module _ (few : length ts ≤ max_points) where
      pub spanned_high : first_high ts < length ts → spanned r ts ≡ record { number = 4; place = first_high ts; milliseconds = pos 0 }
      spanned_high h = answered (first_of_skip _ _ (ap not rate) ∙ first_of_skip _ _ (le-ltb _ _ few) ∙ first_of_here _ _ (lt-ltb _ _ h))

      pub spanned_accepted : length ts ≤ first_high ts → spanned r ts ≡ record { number = 0; place = 0; milliseconds = milliseconds r ts }
      spanned_accepted h = answered (first_of_skip _ _ (ap not rate) ∙ first_of_skip _ _ (le-ltb _ _ few) ∙ first_of_skip _ _ (le-ltb _ _ h) ∙ first_of_end)
