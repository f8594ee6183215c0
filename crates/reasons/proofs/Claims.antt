-- What document 02 says of the reason for a ratio's bytes holds.
use mathlib.Core.Bool.{Bool, true, false, cond}
use mathlib.Core.List.{List, ◌++◌, append_assoc, reverse}
use Rattle.std.proofs.Common.{Ok}
use mathlib.Core.Path.{◌≡◌, refl, sym, ap, ap₂, ◌∙◌}
use Prim.Native.Nat.{ℕ, ◌+◌, ◌-◌, ◌≤◌, ◌<◌, min}
use native.Mathlib.Nat.{lt_of_not-le}
use native.Mathlib.Omega.{arith}
use borrow.Author.Tests.{ltb-true, ltb-false}
use lib.Bits.{bit_xor}
use lib.Dec.{leb, ltb, eqb}
use lib.ListN.{length, get_or, take, drop, length-take, length-reverse, take-append-drop}
use lib.Seq.{ext_get_or, length-take-le}
use Rattle.ratio_format.specs.declared.RatioForm.TheVariants.{Reference as ByPlace, Exception as Literal}
use Rattle.ratio_format.specs.Bodies.{coded_from, coded_ratios}
use Rattle.ratio_format.specs.Choice.{find, best, xor_form, ratio_form}
use Rattle.ratio_format.specs.RatioForms.{coded}
use Rattle.ratio_format.specs.Windows.{window_size}
use Rattle.ratio_format.specs.Zeros.{lead_zeros, trail_zeros, sum_of}
use Rattle.ratio_format.proofs.Bodies.{coded_on, coded_more}
use Rattle.ratio_format.proofs.Choice.{best_at, best_most, best-first, best-xor, best_xor, find_at, find_first}
use Rattle.ratio_format.proofs.Windows.Before.{window_inside, window_at_lem}
use Rattle.reasons.specs.declared.Reason.{Reason}
use Rattle.reasons.specs.declared.Reason.TheVariants.{Reference, Xor, Exception, Empty}
use Rattle.reasons.specs.Reasons.{xor_reason, reason_of, window_at}
use Rattle.reasons.specs.Numbers.{reason_numbers}
use Rattle.reasons.specs.Claims.{NoneEqual, Says, SaysTrue, WindowIs, SaysOne, ratio_form_named, NamesRatioForm, OnlyWindow, RefusesExactly}
use Rattle.reasons.proofs.Reasons.{reason_cases, explained_many, explained_past, explained_here}

-- ---- of one ratio and its window

module _ (v : ℕ) (w : List ℕ) where
  -- a ratio that is not found is equal to none
  none_equal : length w ≤ find v w → NoneEqual v w (length w)
  none_equal h q q< e = find_first v w q (omega arith) e

  -- a best sum below 2 of a window that is not empty is that of some ratio, be it 0
  some-best : 0 < length w → (q : ℕ) × (q < length w) × (sum_of v (get_or w q 0) ≡ (best v w).sum)
  some-best h = go (ltb 0 (best v w).sum) refl
    where
      go : (t : Bool) → ltb 0 (best v w).sum ≡ t → (q : ℕ) × (q < length w) × (sum_of v (get_or w q 0) ≡ (best v w).sum)
      go true e = let b = best_at v w (ltb-true 0 (best v w).sum e) in ((best v w).place, b.0, b.1)
      go false e = (0, h, omega (arith, best_most v w 0 h, ltb-false 0 (best v w).sum e))

  reason_says : Says v w (reason_of v w)
  reason_says =
      reason_cases v w (Says v w)
      (λ h. (h, find_at v w h, λ q q< e. find_first v w q q< e))
      (λ h g.
      let s = best-xor v w g in (
        (best_at v w (omega arith)).0,
        refl,
        refl,
        omega (arith, s),
        none_equal h,
        (λ q q<. omega (arith, best_most v w q q<, s)),
        (λ q q<. omega (arith, best-first v w q q<, s)),
      ))
      (λ h e g. e)
      (λ h p g. (g, some-best p, (λ q q<. best_most v w q q<), none_equal h))

  -- the reason's form is the one that is chosen
  reason_names : ratio_form_named v w (reason_of v w) ≡ ratio_form v w
  unfolding reason_of ratio_form
  reason_names = go (ltb (find v w) (length w)) (leb 2 (best v w).sum) (eqb (length w) 0)
    where
      go : (t s r : Bool)
          → ratio_form_named v w (cond t (Reference (find v w)) (cond s (xor_reason (best v w).place (best_xor v w)) (cond r Empty (Exception (best v w).sum))))
          ≡ cond t (ByPlace (find v w)) (cond s (xor_form (best v w).place (best_xor v w)) Literal)
      go true s r = refl
      go false true r = refl
      go false false true = refl
      go false false false = refl

-- ---- no two reasons are true of it

module _ (v : ℕ) (w : List ℕ) where
  -- two places that no nearer one can stand for are the same
  one_place : (p q : ℕ) → (p < q → ⊥) → (q < p → ⊥) → p ≡ q
  one_place p q a b = omega (arith, lt_of_not-le (λ (g : p + 1 ≤ q). a (omega arith)), lt_of_not-le (λ (g : q + 1 ≤ p). b (omega arith)))

  -- the sum of an xor reason is that at its place
  xor-sum : (p l t : ℕ) → Says v w (Xor p l t) → sum_of v (get_or w p 0) ≡ l + t
  unfolding sum_of
  xor-sum p l t h = ap₂ (λ (a b : ℕ). a + b) (sym h.1) (sym h.2)

  xor-one : (p l t q m u : ℕ) → Says v w (Xor p l t) → Says v w (Xor q m u) → Xor p l t ≡ Xor q m u
  xor-one p l t q m u h g =
      let a = xor-sum p l t h in
      let b = xor-sum q m u g in
      let sums : l + t ≡ m + u = omega (arith, h.5 q g.0, g.5 p h.0) in
      let place : p ≡ q = one_place p q (λ s. omega (arith, g.6 p s)) (λ s. omega (arith, h.6 q s)) in
      let lead : l ≡ m = h.1 ∙ ap (λ (k : ℕ). lead_zeros (bit_xor v (get_or w k 0))) place ∙ sym g.1 in
      let trail : t ≡ u = h.2 ∙ ap (λ (k : ℕ). trail_zeros (bit_xor v (get_or w k 0))) place ∙ sym g.2 in
      ap (λ (k : ℕ). Xor k l t) place ∙ ap₂ (λ (a b : ℕ). Xor q a b) lead trail

pub says_one : SaysOne
says_one v w (Reference p) (Reference q) h g = ap Reference (one_place v w p q (λ s. g.2 p s h.1) (λ s. h.2 q s g.1))
says_one v w (Reference p) (Xor q m u) h g = absurd (g.4 p h.0 h.1)
says_one v w (Reference p) (Exception s) h g = absurd (g.3 p h.0 h.1)
says_one v w (Reference p) Empty h g = absurd (omega (arith, h.0, g))
says_one v w (Xor p l t) (Reference q) h g = absurd (h.4 q g.0 g.1)
says_one v w (Xor p l t) (Xor q m u) h g = xor-one v w p l t q m u h g
says_one v w (Xor p l t) (Exception s) h g = absurd (omega (arith, xor-sum v w p l t h, g.2 p h.0, g.0, h.3))
says_one v w (Xor p l t) Empty h g = absurd (omega (arith, h.0, g))
says_one v w (Exception s) (Reference q) h g = absurd (h.3 q g.0 g.1)
says_one v w (Exception s) (Xor q m u) h g = absurd (omega (arith, xor-sum v w q m u g, h.2 q g.0, h.0, g.3))
says_one v w (Exception s) (Exception r) h g =
    let e : s ≡ r = omega (arith, h.1.2, g.1.2, h.2 g.1.0 g.1.1, g.2 h.1.0 h.1.1) in
    ap Exception e
says_one v w (Exception s) Empty h g = absurd (omega (arith, h.1.1, g))
says_one v w Empty (Reference q) h g = absurd (omega (arith, g.0, h))
says_one v w Empty (Xor q m u) h g = absurd (omega (arith, g.0, h))
says_one v w Empty (Exception s) h g = absurd (omega (arith, g.1.1, h))
says_one v w Empty Empty h g = refl

-- ---- of a run's ratios

pub says_true : SaysTrue
says_true vs i few h = (reason_of (get_or vs i 0) (window_at vs i), explained_here vs i few h, reason_says (get_or vs i 0) (window_at vs i))

pub names_ratio_form : NamesRatioForm
unfolding coded
names_ratio_form vs i few h =
    let v = get_or vs i 0 in
    let w = window_at vs i in
    let rest = coded_from window_size (window_at vs (i + 1)) (drop (i + 1) vs) in (
      (reason_of v w, explained_here vs i few h, reason_names v w),
      ap coded_ratios (sym (take-append-drop (i + 1) vs))
          ∙ coded_on window_size (take (i + 1) vs) (drop (i + 1) vs)
          ∙ ap (λ (l : List ℕ). l ++ rest) (coded_more window_size vs i h)
          ∙ append_assoc (coded_ratios (take i vs)) (coded v w) rest,
    )

-- how many ratios the window holds, and which
window_size_lem : (vs : List ℕ) (i : ℕ) → i ≤ length vs → length (window_at vs i) ≡ min window_size i
window_size_lem vs i h = omega (arith, length-take window_size (reverse (take i vs)), length-reverse (take i vs), length-take-le i vs h)

pub window_is : WindowIs
window_is vs i h = (window_size_lem vs i h, λ p p<. window_at_lem window_size vs i h p (omega arith) (omega arith))

-- windows of lists that agree in the last 127 ratios
window_same : (vs us : List ℕ) (i : ℕ) → i < length vs → i < length us → ((j : ℕ) → j ≤ i → i ≤ j + window_size → get_or vs j 0 ≡ get_or us j 0)
    → window_at vs i ≡ window_at us i
window_same vs us i hv hu same = ext_get_or 0 (window_at vs i) (window_at us i) sizes at
  where
    sizes : length (window_at vs i) ≡ length (window_at us i)
    sizes = window_size_lem vs i (omega arith) ∙ sym (window_size_lem us i (omega arith))

    at : (p : ℕ) → p < length (window_at vs i) → get_or (window_at vs i) p 0 ≡ get_or (window_at us i) p 0
    at p p< =
        let q = window_inside window_size vs i (omega arith) p p< in
        window_at_lem window_size vs i (omega arith) p q.0 q.1
        ∙ same (i - 1 - p) (omega arith) (omega (arith, q.0, q.1))
        ∙ sym (window_at_lem window_size us i (omega arith) p q.0 q.1)

pub only_window : OnlyWindow
only_window vs us i fv fu hv hu same =
    explained_here vs i fv hv
    ∙ ap₂ (λ v w. Ok (reason_of v w)) (same i (omega arith) (omega arith)) (window_same vs us i hv hu same)
    ∙ sym (explained_here us i fu hu)

-- a reason has the number 0 and the place 0
reason_clear : (r : Reason) → ((reason_numbers (Ok r)).number ≡ 0) × ((reason_numbers (Ok r)).place ≡ 0)
reason_clear (Reference p) = (refl, refl)
reason_clear (Xor p l t) = (refl, refl)
reason_clear (Exception s) = (refl, refl)
reason_clear Empty = (refl, refl)

pub refuses_exactly : RefusesExactly
refuses_exactly vs i = (
  λ h. let e = explained_many vs i h in (e, ap reason_numbers e),
  (λ few h. let e = explained_past vs i few h in (e, ap reason_numbers e)),
  λ few h.
      let here = explained_here vs i few h in
      let clear = rw (← here) at (reason_clear (reason_of (get_or vs i 0) (window_at vs i))) in
      ((λ f e. cc), clear.0, clear.1),
)
