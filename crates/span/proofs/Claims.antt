-- The statements of specs/Claims.
use mathlib.Core.Bool.{Bool, true, false, not}
use mathlib.Core.List.{List, [], ◌∷◌, ◌++◌}
use mathlib.Core.Logic.{inl, inr}
use mathlib.Core.Path.{◌≡◌, refl, sym, ap, ◌∙◌, subst}
use Prim.Native.Nat.{ℕ, ◌-◌, ◌*◌, ◌/◌, ◌%◌, ◌^◌, ◌≤◌, ◌<◌}
use native.Mathlib.Nat.{div-add-mod', mul-mod_left, mul-le-mul_left}
use native.Mathlib.Omega.{arith}
use borrow.Author.Tests.{ltb-true, ltb-false, leb-true, leb-false, lt-ltb}
use lib.Dec.{ltb, leb}
use lib.IntN.{ℤ, pos, neg_ℤ, nat_abs, ◌-ℤ◌, ◌*ℤ◌}
use lib.ListN.{length, get_or, length-append}
use lib.Seq.{get_or_at}
use Rattle.lists.proofs.Below.{below_at}
use Rattle.lists.proofs.Lists.{first_at, first_found}
use Rattle.integers.proofs.Integers.{abs_neg, abs_diff}
use Rattle.limits.specs.Rates.{is_rate}
use Rattle.limits.specs.Points.{max_points, max_position, too_high, first_high}
use Rattle.limits.proofs.Rates.{rate_low}
use Rattle.limits.proofs.Points.{none_high, high_below}
use Rattle.refusals.specs.declared.Refusal.{Refusal}
use Rattle.refusals.specs.Tests.{first_of}
use Rattle.refusals.proofs.Tests.{first_of_here}
use Rattle.span.specs.declared.SpanAnswer.{SpanAnswer}
use Rattle.span.specs.Spans.{rounded_down, first_position, last_position, dividend, milliseconds, span_tests, span_answer, spanned}
use Rattle.span.specs.Claims.{SpanAccepted, AcceptsOnly, refused_span, RefusesSpan, span_of, IsFloor, RoundsDown, ZeroShort, toward_zero, answer_with, Exact, SameSpan, OneLess, SpanFits}
use Rattle.span.proofs.Spans.Rounding.{toward_neg, down_exact, down_inexact, down_abs, down_floor}
use Rattle.integers.proofs.Negation.{neg_less, neg_times, abs_times}
use Rattle.span.proofs.Spans.{dividend_forward, dividend-backward, milliseconds_short, spanned_no_rate, spanned_many, spanned_high, spanned_accepted}

-- ---- which spans there are

-- what holds of every refusal, and of the answer where there is none, holds of every answer
by_answer : (P : SpanAnswer → Type 0) (r : ℕ) (ts : List ℕ)
    → ((n p : ℕ) → 0 < n → P (record { number = n; place = p; milliseconds = pos 0 }))
    → (SpanAccepted r ts → P (span_of (milliseconds r ts)))
    → P (spanned r ts)
by_answer P r ts refusal good = go (is_rate r) refl (ltb max_points (length ts)) refl (ltb (first_high ts) (length ts)) refl
  where
    go : (b : Bool) → is_rate r ≡ b → (c : Bool) → ltb max_points (length ts) ≡ c → (d : Bool) → ltb (first_high ts) (length ts) ≡ d → P (spanned r ts)
    go false e c f d g = subst P (sym (spanned_no_rate r ts e)) (refusal 1 0 (omega arith))
    go true e true f d g = subst P (sym (spanned_many r ts e (ltb-true max_points (length ts) f))) (refusal 3 0 (omega arith))
    go true e false f true g =
        subst P (sym (spanned_high r ts e (ltb-false max_points (length ts) f) (ltb-true (first_high ts) (length ts) g))) (refusal 4 (first_high ts) (omega arith))
    go true e false f false g =
        let few = ltb-false max_points (length ts) f in
        let low = ltb-false (first_high ts) (length ts) g in
        subst P (sym (spanned_accepted r ts e few low)) (good (record { listed = e; few = few; low = high_below ts low }))

pub accepts_only : AcceptsOnly
accepts_only r ts = by_answer (λ (a : SpanAnswer). a.number ≡ 0 → SpanAccepted r ts) r ts (λ n p h e. absurd (omega arith)) (λ t e. t)

-- a position out of range before which there is none is the first
first_high_lem : (ts : List ℕ) (i : ℕ) → i < length ts → ((j : ℕ) → j < i → get_or ts j 0 < 2 ^ 62) → 2 ^ 62 ≤ get_or ts i 0 → first_high ts ≡ i
first_high_lem ts i h low high =
    let up : i ≤ first_high ts = go (ltb (first_high ts) i) refl in
    first_found too_high 0 ts i h up (lt-ltb max_position (get_or ts i 0) (omega arith))
  where
    go : (b : Bool) → ltb (first_high ts) i ≡ b → i ≤ first_high ts
    go true e =
        let l = ltb-true (first_high ts) i e in
        let f = ltb-true max_position (get_or ts (first_high ts) 0) (first_at too_high 0 ts (omega arith)) in
        absurd (omega (arith, low (first_high ts) l))
    go false e = ltb-false (first_high ts) i e

pub refuses_span : RefusesSpan
refuses_span r ts = (
  λ e. spanned_no_rate r ts e,
  λ e h. spanned_many r ts e h,
  λ e h i il low high.
      let f = first_high_lem ts i il low high in
      spanned_high r ts e h (omega (arith, f)) ∙ ap (refused_span 4) f,
)

-- ---- what they are

module _ (r : ℕ) (ts : List ℕ) (t : SpanAccepted r ts) where
  -- a rate is above 0
  rate⁺ : 0 < r
  rate⁺ = omega (arith, rate_low r t.listed)

  answer : spanned r ts ≡ span_of (milliseconds r ts)
  answer = spanned_accepted r ts t.listed t.few (none_high ts t.low)

last_is : (a b : ℕ) (mid : List ℕ) → last_position (a ∷ (mid ++ (b ∷ []))) ≡ b
last_is a b mid = get_or_at (a ∷ mid) b [] 0 (length (a ∷ (mid ++ (b ∷ []))) - 1) (omega (arith, length-append mid (b ∷ [])))

pub rounds_down : RoundsDown
rounds_down r a b mid t =
    let ts = a ∷ (mid ++ (b ∷ [])) in
    (milliseconds r ts, answer r ts t, subst (λ (l : ℕ). IsFloor (milliseconds r ts) ((pos l -ℤ pos a) *ℤ pos 1000) r) (last_is a b mid) (down_floor r (rate⁺ r ts t) (dividend ts)))

pub zero_short : ZeroShort
zero_short r ts t h = answer r ts t ∙ ap span_of (milliseconds_short r ts h)

-- ---- beside document 01's rounding

module _ (r : ℕ) (ts : List ℕ) where
  -- the samples from the last position on to the first
  abbrev back : ℕ
  back = first_position ts - last_position ts

  same_forward : first_position ts ≤ last_position ts → milliseconds r ts ≡ toward_zero (dividend ts) r
  same_forward h = rw (dividend_forward (first_position ts) (last_position ts) h) refl

  module _ (h : last_position ts < first_position ts) where
    divided : dividend ts ≡ neg_ℤ (pos (back * 1000))
    divided = dividend-backward (first_position ts) (last_position ts) h

    toward_back : toward_zero (dividend ts) r ≡ neg_ℤ (pos (back * 1000 / r))
    toward_back = ap (λ (z : ℤ). toward_zero z r) divided ∙ toward_neg (back * 1000) r

    -- exact is that the remainder is 0
    no_remainder : Exact r ts → back * 1000 % r ≡ 0
    no_remainder (m, e) =
        let same : nat_abs m * r ≡ back * 1000 = sym (abs_times m r) ∙ ap nat_abs (e ∙ divided) ∙ abs_neg (pos (back * 1000)) in
        ap (λ (x : ℕ). x % r) (sym same) ∙ mul-mod_left (nat_abs m) r

    exact : back * 1000 % r ≡ 0 → Exact r ts
    exact e =
        let same : back * 1000 / r * r ≡ back * 1000 = omega (arith, div-add-mod' (back * 1000) r) in
        (neg_ℤ (pos (back * 1000 / r)), neg_times (back * 1000 / r) r ∙ ap (λ (x : ℕ). neg_ℤ (pos x)) same ∙ sym divided)

    module _ (r⁺ : 0 < r) where
      same_exact : Exact r ts → milliseconds r ts ≡ toward_zero (dividend ts) r
      same_exact x =
          ap (λ (z : ℤ). rounded_down z r) divided ∙ down_exact r r⁺ (back * 1000) (no_remainder x) ∙ sym toward_back

      less : (Exact r ts → ⊥) → milliseconds r ts ≡ toward_zero (dividend ts) r -ℤ pos 1
      less n =
          ap (λ (z : ℤ). rounded_down z r) divided
          ∙ down_inexact r r⁺ (back * 1000) (λ e. n (exact e))
          ∙ sym (neg_less (back * 1000 / r))
          ∙ ap (λ (z : ℤ). z -ℤ pos 1) (sym toward_back)

-- answers with the same tests are the same where the rate is good and the milliseconds are
same_answer : (r : ℕ) (ts : List ℕ) (z : ℤ) → (0 < r → milliseconds r ts ≡ z) → spanned r ts ≡ answer_with r ts z
unfolding spanned
same_answer r ts z h = go (is_rate r) refl
  where
    refusal : is_rate r ≡ false → first_of (span_tests r ts) ≡ record { number = 1; place = 0 }
    refusal e = first_of_here _ _ (ap not e)

    go : (b : Bool) → is_rate r ≡ b → answer_with r ts (milliseconds r ts) ≡ answer_with r ts z
    go true e = ap (answer_with r ts) (h (omega (arith, rate_low r e)))
    go false e = ap (λ (f : Refusal). span_answer f (milliseconds r ts)) (refusal e) ∙ sym (ap (λ (f : Refusal). span_answer f z) (refusal e))

pub same_span : SameSpan
same_span r ts (inr h) = same_answer r ts _ (λ r⁺. same_forward r ts h)
same_span r ts (inl x) = same_answer r ts _ (go (leb (first_position ts) (last_position ts)) refl)
  where
    go : (b : Bool) → leb (first_position ts) (last_position ts) ≡ b → 0 < r → milliseconds r ts ≡ toward_zero (dividend ts) r
    go true e r⁺ = same_forward r ts (leb-true (first_position ts) (last_position ts) e)
    go false e r⁺ = same_exact r ts (leb-false (first_position ts) (last_position ts) e) r⁺ x

pub one_less : OneLess
one_less r ts n h = same_answer r ts _ (λ r⁺. less r ts h r⁺ n)

-- ---- their size

-- of two positions
within : (first last r : ℕ) → first < 2 ^ 62 → last < 2 ^ 62 → 1000 ≤ r → nat_abs (rounded_down ((pos last -ℤ pos first) *ℤ pos 1000) r) < 2 ^ 62
within first last r f l h =
    let d = nat_abs (pos last -ℤ pos first) in
    let far : d ≤ 2 ^ 62 - 1 = abs_diff last first (2 ^ 62 - 1) (omega arith) (omega arith) in
    let most : nat_abs ((pos last -ℤ pos first) *ℤ pos 1000) ≤ d * r = rw (abs_times (pos last -ℤ pos first) 1000) (mul-le-mul_left d h) in
    omega (arith, down_abs r (omega arith) ((pos last -ℤ pos first) *ℤ pos 1000) d most)

small : (r : ℕ) (ts : List ℕ) → SpanAccepted r ts → nat_abs (milliseconds r ts) < 2 ^ 62
small r [] t = within 0 0 r (omega arith) (omega arith) (rate_low r t.listed)
small r (x ∷ ts) t =
    let low = below_at (2 ^ 62) (omega arith) (x ∷ ts) t.low in
    within (first_position (x ∷ ts)) (last_position (x ∷ ts)) r (low 0) (low (length (x ∷ ts) - 1)) (rate_low r t.listed)

pub span_fits : SpanFits
span_fits r ts = by_answer (λ (a : SpanAnswer). nat_abs a.milliseconds < 2 ^ 62) r ts (λ n p h. omega arith) (small r ts)
