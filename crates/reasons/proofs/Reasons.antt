-- Laws of the reason for a ratio's bytes: by cases of the choice, by the best of the window alone, the whole answer by its tests, and
-- that its numbers are small.
use mathlib.Core.Bool.{Bool, true, false, cond, not}
use mathlib.Core.List.{List, reverse}
use mathlib.Core.Logic.{⊎_elim}
use mathlib.Core.Path.{◌≡◌, refl, sym, ap, subst, ◌∙◌}
use Prim.Native.Nat.{ℕ, ◌-◌, ◌^◌, ◌≤◌, ◌<◌}
use native.Mathlib.Omega.{arith}
use borrow.Author.Tests.{lt-ltb, le-ltb, le-leb, lt-leb, ltb-true, ltb-false, leb-true, leb-false, eq-eqb, ne_eqb, eqb-true, eqb-false}
use lib.Bits.{bit_xor}
use lib.Dec.{leb, ltb, eqb}
use Rattle.std.proofs.Common.{Result, Ok, Err}
use lib.ListN.{length, get_or, take, length-reverse}
use Rattle.lists.specs.Below.{Below}
use Rattle.lists.proofs.Below.{below_of}
use Rattle.limits.specs.Points.{max_points}
use Rattle.refusals.specs.declared.Refusal.{Refusal}
use Rattle.refusals.specs.Tests.{refusal, first_of}
use Rattle.refusals.proofs.Tests.{first_of_end, first_of_skip, first_of_here}
use Rattle.ratio_format.specs.Choice.{find, best}
use Rattle.ratio_format.specs.Windows.{window_size}
use Rattle.ratio_format.specs.Zeros.{equal_sum, lead_zeros, trail_zeros}
use Rattle.ratio_format.proofs.Choice.{best-find, best_at, best_xor}
use Rattle.ratio_format.proofs.Windows.{reverse-back, reverse_below, window_few}
use Rattle.ratio_format.proofs.Zeros.{lead_le, trail_le}
use Rattle.reasons.specs.declared.Reason.{Reason}
use Rattle.reasons.specs.declared.Reason.TheVariants.{Reference, Xor, Exception, Empty}
use Rattle.reasons.specs.Reasons.{xor_reason, reason_of, window_at, explain_tests, reason_by, explained}

-- ---- by cases of the choice

module _ (v : ℕ) (w : List ℕ) where
  pub reason_cases : (P : Reason → Type 0)
      → (find v w < length w → P (Reference (find v w)))
      → (length w ≤ find v w → 2 ≤ (best v w).sum → P (xor_reason (best v w).place (best_xor v w)))
      → (length w ≤ find v w → length w ≡ 0 → (best v w).sum < 2 → P Empty)
      → (length w ≤ find v w → 0 < length w → (best v w).sum < 2 → P (Exception (best v w).sum))
      → P (reason_of v w)
  unfolding reason_of
  reason_cases P ref xor none exc = go (ltb (find v w) (length w)) refl (leb 2 (best v w).sum) refl (eqb (length w) 0) refl
    where
      go : (t : Bool) → ltb (find v w) (length w) ≡ t → (s : Bool) → leb 2 (best v w).sum ≡ s → (r : Bool) → eqb (length w) 0 ≡ r
          → P (cond t (Reference (find v w)) (cond s (xor_reason (best v w).place (best_xor v w)) (cond r Empty (Exception (best v w).sum))))
      go true e s f r g = ref (ltb-true (find v w) (length w) e)
      go false e true f r g = xor (ltb-false (find v w) (length w) e) (leb-true 2 (best v w).sum f)
      go false e false f true g = none (ltb-false (find v w) (length w) e) (eqb-true (length w) 0 g) (leb-false 2 (best v w).sum f)
      go false e false f false g =
          exc (ltb-false (find v w) (length w) e) (omega (arith, eqb-false (length w) 0 g)) (leb-false 2 (best v w).sum f)

-- ---- by the best of the window alone

module _ (v : ℕ) (w : List ℕ) (hv : v < 2 ^ 64) (ha : Below (2 ^ 64) w) where
  -- only an equal ratio has the sum 16
  pub reason_reference : (best v w).sum ≡ equal_sum → reason_of v w ≡ Reference (best v w).place
  unfolding reason_of
  reason_reference e =
      ⊎_elim
      (λ a. rw (lt-ltb (find v w) (length w) a.2) (ap Reference a.1))
      (λ b. absurd (omega arith))
      (best-find v w hv ha)

  absent : ((best v w).sum ≡ equal_sum → ⊥) → ltb (find v w) (length w) ≡ false
  absent n = ⊎_elim (λ a. absurd (n a.0)) (λ b. le-ltb (find v w) (length w) (omega arith)) (best-find v w hv ha)

  pub reason_xor : ((best v w).sum ≡ equal_sum → ⊥) → 2 ≤ (best v w).sum → reason_of v w ≡ xor_reason (best v w).place (best_xor v w)
  unfolding reason_of
  reason_xor n h = rw (absent n, le-leb 2 (best v w).sum h)

  pub reason_empty : (best v w).sum < 2 → length w ≡ 0 → reason_of v w ≡ Empty
  unfolding reason_of
  reason_empty h e = rw (absent (λ s. omega arith), lt-leb 2 (best v w).sum h, eq-eqb (length w) 0 e)

  pub reason_exception : (best v w).sum < 2 → (length w ≡ 0 → ⊥) → reason_of v w ≡ Exception (best v w).sum
  unfolding reason_of
  reason_exception h n = rw (absent (λ s. omega arith), lt-leb 2 (best v w).sum h, ne_eqb (length w) 0 n)

-- against a slice with the oldest ratio first a best sum is that of some ratio
pub found_inside : (l : List ℕ) (v : ℕ) → 2 ≤ (best v (reverse l)).sum → (best v (reverse l)).place < length l
found_inside l v h = omega (arith, (best_at v (reverse l) (omega arith)).0, length-reverse l)

-- the reason against such a slice, whose best has the place p and the sum s
module _ (l : List ℕ) (v p s : ℕ) (known : (k : ℕ) → get_or l k 0 < 2 ^ 64) (v64 : v < 2 ^ 64) (place : p ≡ (best v (reverse l)).place) (sum : s ≡ (best v (reverse l)).sum) where
  all64 : Below (2 ^ 64) (reverse l)
  all64 = reverse_below (2 ^ 64) l (below_of (2 ^ 64) l known)

  pub sliced_reference : s ≡ equal_sum → Reference p ≡ reason_of v (reverse l)
  sliced_reference e = ap Reference place ∙ sym (reason_reference v (reverse l) v64 all64 (sym sum ∙ e))

  pub sliced_xor : (s ≡ equal_sum → ⊥) → 2 ≤ s → (a b : ℕ) → let x = bit_xor v (get_or l (length l - 1 - p) 0) in
      a ≡ lead_zeros x → b ≡ trail_zeros x → Xor p a b ≡ reason_of v (reverse l)
  sliced_xor n h a b ea eb =
      let same : best_xor v (reverse l) ≡ bit_xor v (get_or l (length l - 1 - p) 0) =
      ap (λ (k : ℕ). bit_xor v (get_or (reverse l) k 0)) (sym place) ∙ ap (bit_xor v) (reverse-back l p (omega (arith, place, sum, found_inside l v (omega (arith, sum))))) in
      let e = reason_xor v (reverse l) v64 all64 (λ e. n (sum ∙ e)) (omega (arith, sum)) in
      cc (same, place, e, ea, eb)

  pub sliced_empty : s < 2 → length l ≡ 0 → Empty ≡ reason_of v (reverse l)
  sliced_empty h e = sym (reason_empty v (reverse l) v64 all64 (omega (arith, sum)) (length-reverse l ∙ e))

  pub sliced_exception : s < 2 → (length l ≡ 0 → ⊥) → Exception s ≡ reason_of v (reverse l)
  sliced_exception h n = ap Exception sum ∙ sym (reason_exception v (reverse l) v64 all64 (omega (arith, sum)) (λ e. n (sym (length-reverse l) ∙ e)))

-- ---- the whole answer

module _ (vs : List ℕ) (i : ℕ) where
  answered : {f : Refusal} → first_of (explain_tests vs i) ≡ f → explained vs i ≡ reason_by f (reason_of (get_or vs i 0) (window_at vs i))
  unfolding explained
  answered e = ap (λ (f : Refusal). reason_by f (reason_of (get_or vs i 0) (window_at vs i))) e

  pub explained_many : max_points < length vs → explained vs i ≡ Err (refusal 3 0)
  explained_many h = answered (first_of_here _ _ (lt-ltb _ _ h))

  module _ (few : length vs ≤ max_points) where
    pub explained_past : length vs ≤ i → explained vs i ≡ Err (refusal 22 0)
    explained_past h = answered (first_of_skip _ _ (le-ltb _ _ few) ∙ first_of_here _ _ (ap not (le-ltb i (length vs) h)))

    pub explained_here : i < length vs → explained vs i ≡ Ok (reason_of (get_or vs i 0) (window_at vs i))
    explained_here h = answered (first_of_skip _ _ (le-ltb _ _ few) ∙ first_of_skip _ _ (ap not (lt-ltb i (length vs) h)) ∙ first_of_end)

-- ---- its numbers are small

abbrev pub Small : Reason → Type 0
Small (Reference p) = p < window_size
Small (Xor p l t) = (p < window_size) × (l ≤ 8) × (t ≤ 8)
Small (Exception s) = s < 2
Small Empty = Unit {0}

-- a refusal has its number and place alone
abbrev pub SmallAnswer : Result Reason Refusal → Type 0
SmallAnswer (Ok r) = Small r
SmallAnswer (Err g) = Unit {0}

reason_small : (v : ℕ) (w : List ℕ) → length w ≤ window_size → Small (reason_of v w)
reason_small v w few =
    reason_cases v w Small
    (λ h. omega arith)
    (λ h g. (omega (arith, (best_at v w (omega arith)).0), lead_le (best_xor v w), trail_le (best_xor v w)))
    (λ h e g. tt)
    (λ h p g. g)

pub explained_small : (vs : List ℕ) (i : ℕ) → SmallAnswer (explained vs i)
explained_small vs i = many (ltb max_points (length vs)) refl
  where
    past : length vs ≤ max_points → (t : Bool) → ltb i (length vs) ≡ t → SmallAnswer (explained vs i)
    past few true e =
        subst SmallAnswer (sym (explained_here vs i few (ltb-true i (length vs) e))) (reason_small (get_or vs i 0) (window_at vs i) (window_few window_size (take i vs)).0)
    past few false e = subst SmallAnswer (sym (explained_past vs i few (ltb-false i (length vs) e))) tt

    many : (t : Bool) → ltb max_points (length vs) ≡ t → SmallAnswer (explained vs i)
    many true e = subst SmallAnswer (sym (explained_many vs i (ltb-true max_points (length vs) e))) tt
    many false e = past (ltb-false max_points (length vs) e) (ltb i (length vs)) refl
