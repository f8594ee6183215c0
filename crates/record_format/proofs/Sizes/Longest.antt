-- The longest run in each form and on each side: it is accepted, each of its steps takes as many bits as a code can have, 36 or 69, and each of its
-- ratios nine bytes.
use mathlib.Core.Bool.{Bool, true, false, not}
use mathlib.Core.List.{List, ◌∷◌}
use mathlib.Core.Path.{◌≡◌, refl, sym, ap, ◌∙◌}
use Prim.Native.Nat.{ℕ, zero, suc, ◌+◌, ◌-◌, ◌*◌, ◌/◌, ◌%◌, ◌^◌, ◌≤◌, ◌<◌}
use native.Mathlib.Nat.{mul-suc, mul-zero}
use native.Mathlib.Omega.{arith}
use borrow.Author.Tests.{le-ltb}
use lib.IntN.{ℤ}
use lib.ListN.{length, get_or, length-append}
use Rattle.lists.specs.Below.{Below}
use Rattle.bits.specs.Digits.{digits_of}
use Rattle.lists.specs.Lists.{member, first_index}
use Rattle.limits.specs.Rates.{rates, is_rate}
use Rattle.limits.specs.Points.{max_points, max_wide_points, max_position, too_high}
use Rattle.limits.specs.Sides.{max_side}
use Rattle.position_format.specs.declared.Form.{Form}
use Rattle.position_format.specs.declared.Form.TheVariants.{Old, Wide}
use Rattle.position_format.specs.Rows.{Row, rows, wide_rows, in_table, code}
use Rattle.position_format.specs.Steps.{step_of, steps_from, steps, outside}
use Rattle.position_format.specs.Positions.{step_bits, position_bits, coded_positions, valid_positions}
use Rattle.position_format.specs.Tables.{table_of, points_of}
use Rattle.lists.proofs.Lists.Tests.{cons_none}
use Rattle.position_format.proofs.Positions.Valid.{valid_of}
use Rattle.position_format.proofs.Positions.Sizes.{length-coded, length_raw}
use Rattle.position_format.proofs.Tables.{most_bits}
use Rattle.ratio_format.specs.Windows.{window_size}
use Rattle.ratio_format.specs.Bodies.{coded_ratios}
use Rattle.ratio_format.proofs.Choice.Exceptions.{Apart, all_nine}
use Rattle.record_format.specs.Claims.{Accepted}
use Rattle.record_format.specs.Sizes.{max_positions_body, max_ratios_body, first_values, far_of, swing, two_ends, longest}
use Rattle.record_format.proofs.Writing.{Fitting, fitting_accepted}

-- ---- the first values of a function

module _ {A : Type 0} where
  pub length_values : (f : ℕ → A) (n : ℕ) → length (first_values f n) ≡ n
  unfolding first_values
  length_values f zero = refl
  length_values f (suc n) = ap suc (length_values (λ i. f (suc i)) n)

  pub values_at_lem : (f : ℕ → A) (n : ℕ) (d : A) (i : ℕ) → i < n → get_or (first_values f n) i d ≡ f i
  unfolding first_values
  values_at_lem f zero d i h = absurd (omega arith)
  values_at_lem f (suc n) d zero h = refl
  values_at_lem f (suc n) d (suc i) h = values_at_lem (λ j. f (suc j)) n d i (omega arith)

  -- a test that holds of no value
  pub values_none : (p : A → Bool) (f : ℕ → A) (n : ℕ) → ((i : ℕ) → p (f i) ≡ false) → first_index p (first_values f n) ≡ length (first_values f n)
  unfolding first_values first_index
  values_none p f zero h = refl
  values_none p f (suc n) h = cons_none p (f 0) (first_values (λ i. f (suc i)) n) (h 0) (values_none p (λ i. f (suc i)) n (λ i. h (suc i)))

pub values_below : (b : ℕ) (f : ℕ → ℕ) (n : ℕ) → ((i : ℕ) → f i < b) → Below b (first_values f n)
unfolding first_values Below
values_below b f zero h = tt
values_below b f (suc n) h = (h 0, values_below b (λ i. f (suc i)) n (λ i. h (suc i)))

-- ---- positions by their index

-- the step at the position of index i + 2
abbrev step_after : (ℕ → ℕ) → ℕ → ℤ
step_after f i = step_of (f i) (f (suc i)) (f (suc (suc i)))

values_steps : (f : ℕ → ℕ) (n : ℕ) → steps (first_values f (suc (suc n))) ≡ first_values (step_after f) n
unfolding first_values steps steps_from
values_steps f zero = refl
values_steps f (suc n) = ap (λ (l : List ℤ). step_after f 0 ∷ l) (values_steps (λ i. f (suc i)) n)

module _ (rs : List Row) where
  -- steps that take k bits each
  values_bits : (k : ℕ) (z : ℕ → ℤ) (n : ℕ) → ((i : ℕ) → length (code rs (z i)) ≡ k) → length (step_bits rs (first_values z n)) ≡ k * n
  unfolding first_values step_bits
  values_bits k z zero h = sym (mul-zero k)
  values_bits k z (suc n) h =
      let y : ℕ → ℤ = λ i. z (suc i) in
      omega (arith, length-append (code rs (z 0)) (step_bits rs (first_values y n)), h 0, values_bits k y n (λ i. h (suc i)), mul-suc k n)

  module _ (f : ℕ → ℕ) (n : ℕ) where
    pub positions_bits : (k : ℕ) → ((i : ℕ) → length (code rs (step_after f i)) ≡ k) → length (position_bits rs (first_values f (suc (suc n)))) ≡ 128 + k * n
    unfolding first_values position_bits steps
    positions_bits k h =
        length_raw (f 0) (f 1) (step_bits rs (steps (first_values f (suc (suc n)))))
        ∙ ap (λ (m : ℕ). 128 + m) (ap (λ (l : List ℤ). length (step_bits rs l)) (values_steps f n) ∙ values_bits k (step_after f) n h)

    pub positions_valid : ((i : ℕ) → f i ≤ max_position) → ((i : ℕ) → in_table rs (step_after f i) ≡ true) → valid_positions rs (first_values f (suc (suc n))) ≡ true
    positions_valid low held =
        valid_of rs (first_values f (suc (suc n)))
        (values_none too_high f (suc (suc n)) (λ i. le-ltb max_position (f i) (low i)))
        (rw (values_steps f n) (values_none (outside rs) (step_after f) n (λ i. ap not (held i))))

-- ---- the positions of the longest run

-- each step is twice as far as the positions swing, down or up
swing-step : (n : ℕ) (P : ℤ → Type 0) → P (step_of (0 * n) (1 * n) (0 * n)) → P (step_of (1 * n) (0 * n) (1 * n)) → (i : ℕ) → P (step_after (λ (j : ℕ). j % 2 * n) i)
swing-step n P a b i =
    let one : suc i % 2 ≡ 1 - i % 2 = omega arith in
    let two : suc (suc i) % 2 ≡ i % 2 = omega arith in
    rw (one, two) (go (i % 2) (omega arith))
  where
    go : (x : ℕ) → x < 2 → P (step_of (x * n) ((1 - x) * n) (x * n))
    go zero h = a
    go (suc zero) h = b
    go (suc (suc x)) h = absurd (omega arith)

long_step : (f : Form) (i : ℕ) → length (code (table_of f) (step_after (swing f) i)) ≡ most_bits f
unfolding rows wide_rows code digits_of
long_step Old = swing-step (far_of Old) (λ z. length (code rows z) ≡ 36) refl refl
long_step Wide = swing-step (far_of Wide) (λ z. length (code wide_rows z) ≡ 69) refl refl

held-step : (f : Form) (i : ℕ) → in_table (table_of f) (step_after (swing f) i) ≡ true
unfolding rows wide_rows in_table
held-step Old = swing-step (far_of Old) (λ z. in_table rows z ≡ true) refl refl
held-step Wide = swing-step (far_of Wide) (λ z. in_table wide_rows z ≡ true) refl refl

swing_low : (f : Form) (i : ℕ) → swing f i ≤ max_position
swing_low Old i = omega arith
swing_low Wide i = omega arith

pub longest_positions : (f : Form) (d : ℕ) → length (coded_positions (table_of f) (longest f d).positions) ≡ max_positions_body f
unfolding longest
longest_positions Old d = omega (arith, length-coded rows (first_values (swing Old) max_points), positions_bits rows (swing Old) 4094 36 (long_step Old))
longest_positions Wide d = omega (arith, length-coded wide_rows (first_values (swing Wide) max_wide_points), positions_bits wide_rows (swing Wide) 3498 69 (long_step Wide))

-- ---- its ratios

top_end : (a : ℕ) → a < 128 → a * (2 ^ 56 + 1) / 2 ^ 56 ≡ a
top_end a h = omega arith

low_end : (a : ℕ) → a < 128 → a * (2 ^ 56 + 1) % 2 ^ 8 ≡ a
low_end a h = omega arith

two_ends_lem : (i j : ℕ) → j < i → i ≤ j + window_size → Apart (two_ends i) (two_ends j)
two_ends_lem i j h g =
    let other : (i % 128 ≡ j % 128 → ⊥) = λ e. omega arith in
    let m : i % 128 < 128 = omega arith in
    let n : j % 128 < 128 = omega arith in
    (λ e. other (sym (top_end (i % 128) m) ∙ e ∙ top_end (j % 128) n), λ e. other (sym (low_end (i % 128) m) ∙ e ∙ low_end (j % 128) n))

longest_words : (f : Form) (d : ℕ) → Below (2 ^ 64) (longest f d).ratios
unfolding longest
longest_words f d = values_below (2 ^ 64) two_ends (points_of f) (λ i. omega arith)

pub longest-ratios : (f : Form) (d : ℕ) → length (coded_ratios (longest f d).ratios) ≡ max_ratios_body f
unfolding longest
longest-ratios f d =
    all_nine window_size (first_values two_ends (points_of f)) (longest_words f d)
    (λ i j h g k.
    let n : length (first_values two_ends (points_of f)) ≡ points_of f = length_values two_ends (points_of f) in
    rw (values_at_lem two_ends (points_of f) 0 i (omega arith), values_at_lem two_ends (points_of f) 0 j (omega arith)) (two_ends_lem i j g k))
    ∙ ap (λ (n : ℕ). 9 * n) (length_values two_ends (points_of f))

-- ---- the run

longest_valid : (f : Form) → valid_positions (table_of f) (first_values (swing f) (points_of f)) ≡ true
longest_valid Old = positions_valid rows (swing Old) 4094 (swing_low Old) (held-step Old)
longest_valid Wide = positions_valid wide_rows (swing Wide) 3498 (swing_low Wide) (held-step Wide)

pub longest_fits : (f : Form) (d : ℕ) → d ≤ max_side → Fitting (longest f d)
unfolding longest is_rate rates member
longest_fits f d h = record {
  listed = refl;
  sided = h;
  paired = length_values two_ends (points_of f) ∙ sym (length_values (swing f) (points_of f));
  few = omega (arith, length_values (swing f) (points_of f));
  valid = longest_valid f;
}

pub longest_accepted : (f : Form) (d : ℕ) → d ≤ max_side → Accepted (longest f d)
longest_accepted f d h = record { words = longest_words f d; passes = fitting_accepted (longest f d) (longest_fits f d h) }
