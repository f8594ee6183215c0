-- What the choice says: the best of a window is the largest sum at its smallest place, a ratio is found at its smallest place, and the
-- form follows from the best alone.
pub mod Exceptions
use mathlib.Core.Path.{◌≡◌, refl, sym, ap, ◌∙◌}
use mathlib.Core.Logic.{◌⊎◌, inl, inr, ⊎_elim}
use mathlib.Core.Bool.{Bool, true, false, cond}
use mathlib.Core.List.{List, [], ◌∷◌}
use Prim.Native.Nat.{ℕ, zero, suc, ◌+◌, ◌-◌, ◌/◌, ◌^◌, ◌≤◌, ◌<◌}
use native.Mathlib.Nat.{lt_of_not-le}
use native.Mathlib.Omega.{arith}
use native.Mathlib.Numerals.{add-one}
use lib.Bits.{bit_xor, xor_lt}
use lib.Dec.{lit<, eqb, leb, ltb}
use lib.ListN.{length, get_or}
use borrow.Author.Tests.{ltb-true, ltb-false, eqb-true, eqb-false, leb-true, leb-false, lt-leb, le-leb, lt-ltb, le-ltb}
use Rattle.lists.specs.Below.{Below}
use Rattle.lists.proofs.Below.{below_at}
use Rattle.ratio_format.specs.declared.RatioForm.{RatioForm}
use Rattle.ratio_format.specs.declared.RatioForm.TheVariants.{Reference, Xor, Exception}
use Rattle.ratio_format.specs.Zeros.{equal_sum, lead_zeros, trail_zeros, sum_of}
use Rattle.ratio_format.specs.RatioForms.{Fit}
use Rattle.ratio_format.specs.Choice.{Best, newer, best, find, ratio_form, xor_form}
use Rattle.ratio_format.proofs.Zeros.{trail_le, middle_fits}
use Rattle.ratio_format.proofs.Zeros.Sums.{sum_same, sum_other}

-- the best of a window and one newer ratio, by the test of their sums
abbrev by_test : Bool → ℕ → Best → Best
by_test t s b = cond t (record { place = 0; sum = s }) (record { place = b.place + 1; sum = b.sum })

-- the best place is in the window and has the best sum
pub best_at : (v : ℕ) (w : List ℕ) → 0 < (best v w).sum → ((best v w).place < length w) × (sum_of v (get_or w (best v w).place 0) ≡ (best v w).sum)
unfolding best
best_at v [] h = absurd (omega arith)
best_at v (u ∷ w) h = go (best_at v w) (leb (best v w).sum (sum_of v u)) h
  where
    go : (0 < (best v w).sum → ((best v w).place < length w) × (sum_of v (get_or w (best v w).place 0) ≡ (best v w).sum))
        → (t : Bool) → let b = by_test t (sum_of v u) (best v w) in
        0 < b.sum → (b.place < length (u ∷ w)) × (sum_of v (get_or (u ∷ w) b.place 0) ≡ b.sum)
    go ih true h = (omega arith, refl)
    go ih false h = let r = ih h in (omega (arith, r.0), rw add-one r.1)

-- no sum of the window is larger
pub best_most : (v : ℕ) (w : List ℕ) (i : ℕ) → i < length w → sum_of v (get_or w i 0) ≤ (best v w).sum
unfolding best
best_most v [] i h = absurd (omega arith)
best_most v (u ∷ w) i h = go (best_most v w) (leb (best v w).sum (sum_of v u)) refl i h
  where
    go : ((j : ℕ) → j < length w → sum_of v (get_or w j 0) ≤ (best v w).sum) → (t : Bool) → leb (best v w).sum (sum_of v u) ≡ t
        → (i : ℕ) → i < suc (length w) → sum_of v (get_or (u ∷ w) i 0) ≤ (by_test t (sum_of v u) (best v w)).sum
    go ih true e zero h = omega arith
    go ih true e (suc i) h = omega (arith, ih i (omega arith), leb-true (best v w).sum (sum_of v u) e)
    go ih false e zero h = omega (arith, leb-false (best v w).sum (sum_of v u) e)
    go ih false e (suc i) h = ih i (omega arith)

-- and each at a smaller place is smaller
pub best-first : (v : ℕ) (w : List ℕ) (i : ℕ) → i < (best v w).place → sum_of v (get_or w i 0) < (best v w).sum
unfolding best
best-first v [] i h = absurd (omega arith)
best-first v (u ∷ w) i h = go (best-first v w) (leb (best v w).sum (sum_of v u)) refl i h
  where
    go : ((j : ℕ) → j < (best v w).place → sum_of v (get_or w j 0) < (best v w).sum) → (t : Bool) → leb (best v w).sum (sum_of v u) ≡ t
        → let b = by_test t (sum_of v u) (best v w) in
        (i : ℕ) → i < b.place → sum_of v (get_or (u ∷ w) i 0) < b.sum
    go ih true e i h = absurd (omega arith)
    go ih false e zero h = leb-false (best v w).sum (sum_of v u) e
    go ih false e (suc i) h = ih i (omega arith)

-- one newer ratio, by the sums
pub best_wins : (v u : ℕ) (w : List ℕ) {p s : ℕ} → best v w ≡ record { place = p; sum = s } → s ≤ sum_of v u → best v (u ∷ w) ≡ record { place = 0; sum = sum_of v u }
unfolding best
best_wins v u w {p} {s} e h = rw (e, le-leb s (sum_of v u) h)

pub best_stays : (v u : ℕ) (w : List ℕ) {p s : ℕ} → best v w ≡ record { place = p; sum = s } → sum_of v u < s → best v (u ∷ w) ≡ record { place = p + 1; sum = s }
unfolding best
best_stays v u w {p} {s} e h = rw (e, lt-leb s (sum_of v u) h)

-- the ratio stands at the place that is found
pub find_at : (v : ℕ) (w : List ℕ) → find v w < length w → get_or w (find v w) 0 ≡ v
unfolding find
find_at v [] h = absurd (omega arith)
find_at v (u ∷ w) h = go (find_at v w) (eqb v u) refl h
  where
    go : (find v w < length w → get_or w (find v w) 0 ≡ v) → (t : Bool) → eqb v u ≡ t
        → cond t 0 (find v w + 1) < suc (length w) → get_or (u ∷ w) (cond t 0 (find v w + 1)) 0 ≡ v
    go ih true e h = sym (eqb-true v u e)
    go ih false e h = rw add-one (ih (omega arith))

-- and at no smaller one; where it is not found, at none of the window
pub find_first : (v : ℕ) (w : List ℕ) (i : ℕ) → i < find v w → get_or w i 0 ≡ v → ⊥
unfolding find
find_first v [] i h = absurd (omega arith)
find_first v (u ∷ w) i h = go (find_first v w) (eqb v u) refl i h
  where
    go : ((j : ℕ) → j < find v w → get_or w j 0 ≡ v → ⊥) → (t : Bool) → eqb v u ≡ t
        → (i : ℕ) → i < cond t 0 (find v w + 1) → get_or (u ∷ w) i 0 ≡ v → ⊥
    go ih true e i h q = omega arith
    go ih false e zero h q = eqb-false v u e (sym q)
    go ih false e (suc i) h q = ih i (omega arith) q

pub find_le : (v : ℕ) (w : List ℕ) → find v w ≤ length w
unfolding find
find_le v [] = omega arith
find_le v (u ∷ w) = go (find_le v w) (eqb v u)
  where
    go : find v w ≤ length w → (t : Bool) → cond t 0 (find v w + 1) ≤ suc (length w)
    go ih true = omega arith
    go ih false = omega arith

-- Of a window of n ratios with the best sum s at place p, and the ratio's own smallest place f: the ratio is in the window, s is 16 and
-- p is f; or it is not, and s is below 8.
abbrev pub FoundAt : ℕ → ℕ → ℕ → ℕ → Type 0
FoundAt s p f n = ((s ≡ equal_sum) × (f ≡ p) × (f < n)) ⊎ ((s < 8) × (f ≡ n))

pub best-find : (v : ℕ) (w : List ℕ) → v < 2 ^ 64 → Below (2 ^ 64) w → FoundAt (best v w).sum (best v w).place (find v w) (length w)
unfolding best find Below
best-find v [] hv ha = inr (omega arith, refl)
best-find v (u ∷ w) hv ha = go (best-find v w hv ha.1) (eqb v u) refl
  where
    other : eqb v u ≡ false → sum_of v u < 8
    other e = sum_other v u hv ha.0 (eqb-false v u e)

    late : (best v w).sum < 8 → find v w ≡ length w → sum_of v u < 8 → (t : Bool)
        → let b = by_test t (sum_of v u) (best v w) in
        FoundAt b.sum b.place (find v w + 1) (suc (length w))
    late a e o true = inr (o, omega arith)
    late a e o false = inr (a, omega arith)

    go : FoundAt (best v w).sum (best v w).place (find v w) (length w) → (t : Bool) → eqb v u ≡ t
        → FoundAt (newer (sum_of v u) (best v w)).sum (newer (sum_of v u) (best v w)).place (cond t 0 (find v w + 1)) (suc (length w))
    go ih true e =
        let q : sum_of v u ≡ equal_sum = ap (sum_of v) (sym (eqb-true v u e)) ∙ sum_same v in
        rw (le-leb (best v w).sum (sum_of v u) (⊎_elim (λ a. omega arith) (λ b. omega arith) ih)) (inl (q, refl, omega arith))
    go (inl a) false e = rw (lt-leb (best v w).sum (sum_of v u) (omega (arith, other e))) (inl (a.0, omega arith, omega arith))
    go (inr b) false e = late b.0 b.1 (other e) (leb (best v w).sum (sum_of v u))

-- the xor form by the best's place and sum, where x is the xor
abbrev pub xor_of : Best → ℕ → RatioForm
xor_of b x = Xor b.place (trail_zeros x) (8 - b.sum) (x / 256 ^ trail_zeros x)

-- the form, by the best alone
module _ (v : ℕ) (w : List ℕ) (hv : v < 2 ^ 64) (ha : Below (2 ^ 64) w) where
  pub ratio_form_reference : (best v w).sum ≡ equal_sum → ratio_form v w ≡ Reference (best v w).place
  unfolding ratio_form
  ratio_form_reference e =
      ⊎_elim
      (λ a. rw (lt-ltb (find v w) (length w) a.2) (ap Reference a.1))
      (λ b. absurd (omega arith))
      (best-find v w hv ha)

  small : ((best v w).sum ≡ equal_sum → ⊥) → ((best v w).sum < 8) × (ltb (find v w) (length w) ≡ false)
  small n = ⊎_elim (λ a. absurd (n a.0)) (λ b. (b.0, le-ltb (find v w) (length w) (omega arith))) (best-find v w hv ha)

  pub ratio_form_xor : ((best v w).sum ≡ equal_sum → ⊥) → 2 ≤ (best v w).sum
      → ratio_form v w ≡ xor_of (best v w) (bit_xor v (get_or w (best v w).place 0))
  unfolding ratio_form sum_of
  ratio_form_xor n h =
      rw ((small n).1, le-leb 2 (best v w).sum h)
      (let x = bit_xor v (get_or w (best v w).place 0) in ap (λ (s : ℕ). Xor (best v w).place (trail_zeros x) (8 - s) (x / 256 ^ trail_zeros x)) (best_at v w (omega arith)).1)

  pub ratio_form_exception : (best v w).sum < 2 → ratio_form v w ≡ Exception
  unfolding ratio_form
  ratio_form_exception h = rw ((small (λ e. omega arith)).1, lt-leb 2 (best v w).sum h)

  -- a sum other than 16 is below 8
  pub sum_small : ((best v w).sum ≡ equal_sum → ⊥) → (best v w).sum < 8
  sum_small n = (small n).0

-- What holds of the form: by cases of the choice.
module _ (v : ℕ) (w : List ℕ) where
  abbrev pub best_xor : ℕ
  best_xor = bit_xor v (get_or w (best v w).place 0)

  pub ratio_form_cases : (P : RatioForm → Type 0)
      → (find v w < length w → P (Reference (find v w)))
      → (length w ≤ find v w → 2 ≤ (best v w).sum → P (xor_form (best v w).place best_xor))
      → (length w ≤ find v w → (best v w).sum < 2 → P Exception)
      → P (ratio_form v w)
  unfolding ratio_form
  ratio_form_cases P ref xor exc = go (ltb (find v w) (length w)) refl (leb 2 (best v w).sum) refl
    where
      go : (t : Bool) → ltb (find v w) (length w) ≡ t → (s : Bool) → leb 2 (best v w).sum ≡ s
          → P (cond t (Reference (find v w)) (cond s (xor_form (best v w).place best_xor) Exception))
      go true e s f = ref (ltb-true (find v w) (length w) e)
      go false e true f = xor (ltb-false (find v w) (length w) e) (leb-true 2 (best v w).sum f)
      go false e false f = exc (ltb-false (find v w) (length w) e) (leb-false 2 (best v w).sum f)

  -- the xor at the best place has the best sum
  pub best-xor : 2 ≤ (best v w).sum → lead_zeros best_xor + trail_zeros best_xor ≡ (best v w).sum
  unfolding sum_of
  best-xor h = (best_at v w (omega arith)).1

  -- a ratio that is not in the window has a best sum below 8
  pub absent_small : v < 2 ^ 64 → Below (2 ^ 64) w → length w ≤ find v w → (best v w).sum < 8
  absent_small hv ha h = ⊎_elim (λ a. absurd (omega arith)) (λ b. b.0) (best-find v w hv ha)

  -- a ratio that stands in the window is found
  pub find_lt : (p : ℕ) → p < length w → get_or w p 0 ≡ v → find v w < length w
  find_lt p h e = lt_of_not-le (λ (g : length w ≤ find v w). find_first v w p (omega arith) e)

pub ratio_form_fit : (v : ℕ) (w : List ℕ) → Fit (length w) (ratio_form v w)
ratio_form_fit v w =
    ratio_form_cases v w (Fit (length w)) (λ h. h)
    (λ h g. ((best_at v w (omega arith)).0, trail_le (best_xor v w), omega (arith, best-xor v w g)))
    (λ h g. tt)

-- Of ratios of 64 bits: the middle has a byte or more, the counts leave room for it, and it fits its bytes.
abbrev pub Tight : RatioForm → Type 0
Tight (Reference p) = Unit {0}
Tight (Xor p t k m) = (1 ≤ k) × (t + k ≤ 8) × (m < 256 ^ k)
Tight Exception = Unit {0}

pub ratio_form_tight : (v : ℕ) (w : List ℕ) → v < 2 ^ 64 → Below (2 ^ 64) w → Tight (ratio_form v w)
ratio_form_tight v w hv ha =
    ratio_form_cases v w Tight (λ h. tt)
    (λ h g.
    let s : (best v w).sum < 8 = absent_small v w hv ha h in
    let e = best-xor v w g in
    let x : best_xor v w < 2 ^ 64 = xor_lt 64 v (get_or w (best v w).place 0) hv (below_at (2 ^ 64) (lit< tt) w ha (best v w).place) in
    (omega arith, omega arith, middle_fits (best_xor v w) x (omega arith)))
    (λ h g. tt)
