-- Rows whose ranges widen from one row to the next: the first row that holds a step is known by the row before it. And rows whose ranges are as even
-- as can be around 0: what their bits are read as is known by counting from the lowest step.
use mathlib.Core.Bool.{Bool, true, false, cond, false≢true}
use mathlib.Core.List.{List, [], ◌∷◌}
use mathlib.Core.Path.{◌≡◌, refl, sym, ap, ◌∙◌}
use Prim.Native.Nat.{ℕ, zero, suc, ◌+◌, ◌-◌, ◌/◌, ◌%◌, ◌^◌, ◌≤◌, ◌<◌}
use native.Mathlib.Nat.{mod-eq_of_lt, mod-eq-sub-mod, lt_of_not-le}
use native.Mathlib.Omega.{arith}
use borrow.Author.Tests.{lt-ltb, le-ltb, le-leb, leb-true, leb-false, eqb-true}
use lib.Dec.{ltb, leb, eqb}
use lib.IntN.{ℤ, pos, negsuc, nat_abs, ◌-ℤ◌}
use lib.ListN.{length, get_or}
use lib.Pow.{pow_mono, pow-lt}
use lib.Signed.{le_z}
use Rattle.lists.specs.Compare.{both}
use Rattle.lists.proofs.Compare.{both_true, not_so}
use Rattle.lists.proofs.Lists.{every, first_below}
use Rattle.position_format.specs.Rows.{Row, neg, holds, in_table, reading, no_row, row_of}
use Rattle.integers.proofs.Integers.{diff_pos, diff_neg}
use Rattle.position_format.proofs.Rows.Signs.{neg-holds, neg_le_pos, neg_le_neg}
use Rattle.lists.proofs.Lists.Tests.{every_at}
use Rattle.position_format.proofs.Rows.{good_table, full, good_full, full_is, reading_ends, holds_ends}
use Rattle.position_format.proofs.Rows.Codes.{in_table-row, row-in_table, row_is, row-holds}

-- ---- ranges that widen

-- each end of s is at least as far as that of r
abbrev wider : Row → Row → Bool
wider r s = both (leb (nat_abs r.low) (nat_abs s.low)) (leb (nat_abs r.high) (nat_abs s.high))

unfoldable pub widening : List Row → Bool
widening [] = true
widening (r ∷ []) = true
widening (r ∷ s ∷ rs) = both (wider r s) (widening (s ∷ rs))

wider_at : (rs : List Row) → widening rs ≡ true → (i : ℕ) → suc i < length rs → wider (get_or rs i no_row) (get_or rs (suc i) no_row) ≡ true
unfolding widening
wider_at [] e i h = absurd (omega arith)
wider_at (r ∷ []) e i h = absurd (omega arith)
wider_at (r ∷ s ∷ rs) e zero h = (both_true (wider r s) _ e).0
wider_at (r ∷ s ∷ rs) e (suc i) h = wider_at (s ∷ rs) (both_true (wider r s) _ e).1 i (omega arith)

-- ---- a range with further ends holds what one with nearer ends does

further : (l h m k : ℕ) → l ≤ m → h ≤ k → (z : ℤ) → both (le_z (neg l) z) (le_z z (pos h)) ≡ true → both (le_z (neg m) z) (le_z z (pos k)) ≡ true
further l h m k a b (pos n) e = rw (neg_le_pos m n) (le-leb n k (omega (arith, leb-true n h (both_true (le_z (neg l) (pos n)) _ e).1)))
further l h m k a b (negsuc n) e = rw (neg_le_neg m n (omega (arith, neg-holds l n (both_true (le_z (neg l) (negsuc n)) _ e).0)))

module _ (rs : List Row) (good : good_table rs ≡ true) (wide : widening rs ≡ true) where
  ends_at : (i : ℕ) → suc i < length rs → (nat_abs (get_or rs i no_row).low ≤ nat_abs (get_or rs (suc i) no_row).low) × (nat_abs (get_or rs i no_row).high ≤ nat_abs (get_or rs (suc i) no_row).high)
  ends_at i h =
      let p = both_true (leb (nat_abs (get_or rs i no_row).low) (nat_abs (get_or rs (suc i) no_row).low)) _ (wider_at rs wide i h) in
      (leb-true _ _ p.0, leb-true _ _ p.1)

  -- so a row holds what the row before it does
  holds_next : (z : ℤ) (i : ℕ) → suc i < length rs → holds (get_or rs i no_row) z ≡ true → holds (get_or rs (suc i) no_row) z ≡ true
  holds_next z i h e =
      let r = get_or rs i no_row in
      let s = get_or rs (suc i) no_row in
      let o = ends_at i h in
      holds_ends s (good_full no_row rs good (suc i) h) z
      ∙ further (nat_abs r.low) (nat_abs r.high) (nat_abs s.low) (nat_abs s.high) o.0 o.1 z (sym (holds_ends r (good_full no_row rs good i (omega arith)) z) ∙ e)

  holds_later : (z : ℤ) (i n : ℕ) → i + n < length rs → holds (get_or rs i no_row) z ≡ true → holds (get_or rs (i + n) no_row) z ≡ true
  holds_later z i zero h e = let s : i + 0 ≡ i = omega arith in rw s e
  holds_later z i (suc n) h e = let s : i + suc n ≡ suc (i + n) = omega arith in rw s (holds_next z (i + n) (omega arith) (holds_later z i n (omega arith) e))

  -- so where any row holds it, the last one does
  pub in_last : (z : ℤ) (n : ℕ) → length rs ≡ suc n → in_table rs z ≡ holds (get_or rs n no_row) z
  in_last z n e = go (in_table rs z) refl
    where
      go : (t : Bool) → in_table rs z ≡ t → t ≡ holds (get_or rs n no_row) z
      go true s =
          let i< = in_table-row rs z s in
          let k : row_of rs z + (n - row_of rs z) ≡ n = omega arith in
          sym (rw k at (holds_later z (row_of rs z) (n - row_of rs z) (omega arith) (row-holds no_row z rs s)))
      go false s = sym (not_so (holds (get_or rs n no_row) z) held)
        where
          held : holds (get_or rs n no_row) z ≡ true → ⊥
          held h =
              let first : (n < row_of rs z → ⊥) = λ g. false≢true (sym (first_below (λ (r : Row). holds r z) no_row rs n g) ∙ h) in
              false≢true (sym s ∙ row-in_table rs z (omega arith))

  -- and the row before has no more bits
  width_next : (i k : ℕ) → suc i < length rs → (get_or rs (suc i) no_row).width ≤ k → (get_or rs i no_row).width ≤ k
  width_next i k h w≤ =
      let r = get_or rs i no_row in
      let s = get_or rs (suc i) no_row in
      let o = ends_at i h in
      let few : 2 ^ r.width ≤ 2 ^ s.width =
      omega (arith, (full_is r (good_full no_row rs good i (omega arith))).size, (full_is s (good_full no_row rs good (suc i) h)).size, o.0, o.1) in
      omega (arith, lt_of_not-le (λ (g : suc k ≤ r.width). omega (arith, few, pow_mono w≤, pow-lt g)))

  pub width_before : (i k : ℕ) → 0 < i → i < length rs → (get_or rs i no_row).width ≤ k → (get_or rs (i - 1) no_row).width ≤ k
  width_before i k some h w≤ =
      let one : suc (i - 1) ≡ i = omega arith in
      width_next (i - 1) k (omega arith) (rw one w≤)

  -- ---- the first row that holds z, by the row before row i

  module _ (z : ℤ) (i : ℕ) (some : 0 < i) (i< : i < length rs) where
    pub row_before : holds (get_or rs (i - 1) no_row) z ≡ true → row_of rs z ≡ i → ⊥
    row_before e s = false≢true (sym (first_below (λ (r : Row). holds r z) no_row rs (i - 1) (omega arith)) ∙ e)

    pub row_first : holds (get_or rs (i - 1) no_row) z ≡ false → holds (get_or rs i no_row) z ≡ true → row_of rs z ≡ i
    row_first e f = row_is no_row z rs i i< f go
      where
        go : (j : ℕ) → j < i → holds (get_or rs j no_row) z ≡ false
        go j h =
            let s : j + (i - 1 - j) ≡ i - 1 = omega arith in
            not_so (holds (get_or rs j no_row) z) (λ t. false≢true (sym e ∙ rw s at (holds_later z j (i - 1 - j) (omega arith) t)))

-- ---- counting from the lowest step

-- modulo the number m of steps
counted : (l h m x : ℕ) → suc (l + h) ≡ m → x < m → pos ((x + l) % m) -ℤ pos l ≡ cond (le_z (pos x) (pos h)) (pos x) (pos x -ℤ pos m)
counted l h m x size x< = go (leb x h) refl
  where
    go : (t : Bool) → leb x h ≡ t → pos ((x + l) % m) -ℤ pos l ≡ cond t (pos x) (pos x -ℤ pos m)
    go true e =
        let g : x ≤ h = leb-true x h e in
        let s : x + l - l ≡ x = omega arith in
        ap (λ (y : ℕ). pos y -ℤ pos l) (mod-eq_of_lt (omega arith)) ∙ diff_pos (x + l) l (omega arith) ∙ ap pos s
    go false e =
        let g : h < x = leb-false x h e in
        let s : l - suc (x + l - m) ≡ m - suc x = omega arith in
        ap (λ (y : ℕ). pos y -ℤ pos l) (mod-eq-sub-mod (omega arith) ∙ mod-eq_of_lt (omega arith))
        ∙ diff_neg (x + l - m) l (omega arith) ∙ ap negsuc s ∙ sym (diff_neg x m x<)

-- a narrower range, from -a to b, holds the same number when it does so counted from its own lowest step
module _ (l h m a b n x : ℕ) (size : suc (l + h) ≡ m) (part : suc (a + b) ≡ n) (a≤ : a ≤ l) (b≤ : b ≤ h) (x< : x < m) where
  abbrev held : ℤ → Bool
  held z = both (le_z (neg a) z) (le_z z (pos b))

  at_low : x ≤ h → ltb ((x + a) % m) n ≡ held (pos x)
  at_low g = ap (λ (y : ℕ). ltb y n) (mod-eq_of_lt (omega arith)) ∙ rw (neg_le_pos a x) (go (leb x b) refl)
    where
      go : (t : Bool) → leb x b ≡ t → ltb (x + a) n ≡ t
      go true e = lt-ltb (x + a) n (omega (arith, leb-true x b e))
      go false e = le-ltb (x + a) n (omega (arith, leb-false x b e))

  at_high : h < x → ltb ((x + a) % m) n ≡ held (negsuc (m - suc x))
  at_high g = go (leb m (x + a)) refl
    where
      go : (t : Bool) → leb m (x + a) ≡ t → ltb ((x + a) % m) n ≡ held (negsuc (m - suc x))
      go true e =
          let f : m ≤ x + a = leb-true m (x + a) e in
          ap (λ (y : ℕ). ltb y n) (mod-eq-sub-mod f ∙ mod-eq_of_lt (omega arith)) ∙ lt-ltb (x + a - m) n (omega arith)
          ∙ sym (rw (neg_le_neg a (m - suc x) (omega arith)))
      go false e =
          let f : x + a < m = leb-false m (x + a) e in
          let o : le_z (neg a) (negsuc (m - suc x)) ≡ false = not_so (le_z (neg a) (negsuc (m - suc x))) (λ t. omega (arith, neg-holds a (m - suc x) t)) in
          ap (λ (y : ℕ). ltb y n) (mod-eq_of_lt f) ∙ le-ltb (x + a) n (omega arith) ∙ sym (rw o)

  narrower : ltb ((x + a) % m) n ≡ held (cond (le_z (pos x) (pos h)) (pos x) (pos x -ℤ pos m))
  narrower = go (leb x h) refl
    where
      go : (t : Bool) → leb x h ≡ t → ltb ((x + a) % m) n ≡ held (cond t (pos x) (pos x -ℤ pos m))
      go true e = at_low (leb-true x h e)
      go false e = at_high (leb-false x h e) ∙ ap held (sym (diff_neg x m x<))

-- ---- rows whose ranges are even around 0

-- as many steps below 0 as above it, or one fewer
abbrev below_of_row : Row → ℕ
below_of_row r = (2 ^ r.width - 1) / 2

abbrev even : Row → Bool
even r = eqb (nat_abs r.low) (below_of_row r)

-- every row of at most k bits is so
abbrev pub even_up_to : ℕ → List Row → Bool
even_up_to k rs = every (λ (r : Row). cond (leb r.width k) (even r) true) rs

module _ (rs : List Row) (good : good_table rs ≡ true) (k : ℕ) (evens : even_up_to k rs ≡ true) where
  below_is : (i : ℕ) → i < length rs → (get_or rs i no_row).width ≤ k → nat_abs (get_or rs i no_row).low ≡ below_of_row (get_or rs i no_row)
  below_is i h w≤ =
      let r = get_or rs i no_row in
      let e = every_at (λ (r : Row). cond (leb r.width k) (even r) true) rs no_row evens i h in
      eqb-true (nat_abs r.low) (below_of_row r) (rw (le-leb r.width k w≤) at e)

  -- what the row of index i reads its bits x as
  module _ (i : ℕ) (i< : i < length rs) (x : ℕ) (x< : x < 2 ^ (get_or rs i no_row).width) (w≤ : (get_or rs i no_row).width ≤ k) where
    abbrev here : Row
    here = get_or rs i no_row

    g : full here ≡ true
    g = good_full no_row rs good i i<

    pub reading-counted : pos ((x + below_of_row here) % 2 ^ here.width) -ℤ pos (below_of_row here) ≡ reading here x
    reading-counted =
        ap (λ (l : ℕ). pos ((x + l) % 2 ^ here.width) -ℤ pos l) (sym (below_is i i< w≤))
        ∙ counted (nat_abs here.low) (nat_abs here.high) (2 ^ here.width) x (full_is here g).size x<
        ∙ sym (reading_ends here g x)

    -- whether the row before holds it
    pub before-counted : widening rs ≡ true → 0 < i
        → ltb ((x + below_of_row (get_or rs (i - 1) no_row)) % 2 ^ here.width) (2 ^ (get_or rs (i - 1) no_row).width) ≡ holds (get_or rs (i - 1) no_row) (reading here x)
    before-counted wide some =
        let prior = get_or rs (i - 1) no_row in
        let one : suc (i - 1) ≡ i = omega arith in
        let j< : i - 1 < length rs = omega arith in
        let f = good_full no_row rs good (i - 1) j< in
        let o = rw one at (ends_at rs good wide (i - 1) (omega arith)) in
        ap (λ (l : ℕ). ltb ((x + l) % 2 ^ here.width) (2 ^ prior.width)) (sym (below_is (i - 1) j< (width_before rs good wide i k some i< w≤)))
        ∙ narrower (nat_abs here.low) (nat_abs here.high) (2 ^ here.width) (nat_abs prior.low) (nat_abs prior.high) (2 ^ prior.width) x
        (full_is here g).size (full_is prior f).size o.0 o.1 x<
        ∙ sym (holds_ends prior f _)
        ∙ ap (holds prior) (sym (reading_ends here g x))
