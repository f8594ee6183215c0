-- Zero bytes: the counts of zero bits at either end of a number, divided by 8, are its zero bytes; their bounds; and what stands between
-- them. Each law is for any number k of bytes, and for the eight of a ratio.
pub mod Sums
pub mod Bounds
use mathlib.Core.Path.{◌≡◌, refl, sym, ap, ap₂, ◌∙◌, subst}
use mathlib.Core.List.{List, [], ◌∷◌, ◌++◌, reverse, reverse-cons}
use Prim.Native.Nat.{ℕ, zero, suc, ◌+◌, ◌-◌, ◌*◌, ◌/◌, ◌%◌, ◌^◌, ◌≤◌, ◌<◌}
use native.Mathlib.Nat.{pow-suc, pow-succ', div-lt_iff_lt-mul, div-eq_of_lt, lt_of_not-le, mul-suc, zero-add, suc-add, div-one, div-div-eq-div-mul, add_comm, mul_assoc, pow-le-pow_right, lt_of_lt_of_le, mul-lt-mul_of_pos_right}
use native.Mathlib.Omega.{arith}
use lib.Arith.{mod-mul}
use lib.Pow.{pow_mono, pow-add, pow_pos}
use lib.Dec.{lit<}
use lib.Count.{under, count_leading_zeros, count_trailing_zeros, leading_length}
use Rattle.bits.specs.Digits.{digits_of, bytes_of}
use Rattle.bits.proofs.Digits.{pow_above, pow_bytes}
use Rattle.ratio_format.specs.Zeros.{zeros_at, lead_zeros, trail_zeros}

pub pos_256 : (k : ℕ) → 0 < 256 ^ k
pos_256 k = pow_above (lit< tt) k

-- the lowest k bytes of x, the lowest first
unfoldable pub low_bytes : ℕ → ℕ → List ℕ
low_bytes zero x = []
low_bytes (suc k) x = (x % 256) ∷ low_bytes k (x / 256)

low_more : (k x : ℕ) → low_bytes (suc k) x ≡ low_bytes k x ++ (x / 256 ^ k % 256 ∷ [])
unfolding low_bytes
low_more zero x = rw div-one
low_more (suc k) x =
    ap (λ (l : List ℕ). x % 256 ∷ l)
    (low_more k (x / 256) ∙ ap (λ (y : ℕ). low_bytes k (x / 256) ++ (y % 256 ∷ [])) (div-div-eq-div-mul x 256 (256 ^ k) ∙ ap (λ (y : ℕ). x / y) (sym (pow-succ' 256 k))))

pub reverse_bytes : (k x : ℕ) → reverse (bytes_of k x) ≡ low_bytes k x
unfolding digits_of low_bytes
reverse_bytes zero x = refl
reverse_bytes (suc k) x =
    reverse-cons (x / 256 ^ k % 256) (bytes_of k x) ∙ ap (λ (l : List ℕ). l ++ (x / 256 ^ k % 256 ∷ [])) (reverse_bytes k x) ∙ sym (low_more k x)

-- how many of the k lowest bytes of x are 0 from the top down, and from the lowest up
abbrev pub lead_bytes : ℕ → ℕ → ℕ
lead_bytes k x = zeros_at (bytes_of k x)

abbrev pub trail_bytes : ℕ → ℕ → ℕ
trail_bytes k x = zeros_at (low_bytes k x)

pub lead_is : (x : ℕ) → lead_zeros x ≡ lead_bytes 8 x
unfolding lead_zeros
lead_is x = refl

pub trail_is : (x : ℕ) → trail_zeros x ≡ trail_bytes 8 x
unfolding trail_zeros
trail_is x = ap zeros_at (reverse_bytes 8 x)

-- 256 ^ m is the least power of 256 above x
lead-length : (k x : ℕ) → x < 256 ^ k → (m : ℕ) × (lead_bytes k x + m ≡ k) × (x < 256 ^ m) × (256 ^ m ≤ 256 * x + 255)
unfolding zeros_at digits_of
lead-length zero x h = (0, refl, h, omega arith)
lead-length (suc k) x h = go (lead-length k x) (x / 256 ^ k % 256) refl
  where
    top : x / 256 ^ k < 256
    top = (div-lt_iff_lt-mul (pos_256 k)).1 (omega (arith, pow-suc 256 k))

    go : (x < 256 ^ k → (m : ℕ) × (lead_bytes k x + m ≡ k) × (x < 256 ^ m) × (256 ^ m ≤ 256 * x + 255))
        → (d : ℕ) → x / 256 ^ k % 256 ≡ d → (m : ℕ) × (under d (lead_bytes k x) + m ≡ suc k) × (x < 256 ^ m) × (256 ^ m ≤ 256 * x + 255)
    go rest zero e =
        let first : x / 256 ^ k < 1 = omega (arith, top) in
        let ih = rest (omega (arith, (div-lt_iff_lt-mul (pos_256 k)).0 first)) in
        (ih.0, omega (arith, ih.1), ih.2, ih.3)
    go rest (suc d) e =
        let big : 256 ^ k ≤ x = omega (arith, lt_of_not-le (λ (g : suc x ≤ 256 ^ k). omega (arith, div-eq_of_lt g))) in
        (suc k, omega arith, h, omega (arith, pow-suc 256 k))

-- the leading zero bits, eight to a byte
lead_eighths : (k x : ℕ) → x < 2 ^ (8 * k) → count_leading_zeros (8 * k) x / 8 ≡ lead_bytes k x
lead_eighths k x h = go s.0 s.1 s.2 s.3
  where
    s : (m : ℕ) × (lead_bytes k x + m ≡ k) × (x < 256 ^ m) × (256 ^ m ≤ 256 * x + 255)
    s = lead-length k x (rw pow_bytes h)

    b : (m : ℕ) × (count_leading_zeros (8 * k) x + m ≡ 8 * k) × (x < 2 ^ m) × (2 ^ m ≤ 2 * x + 1)
    b = leading_length (8 * k) x h

    go : (m : ℕ) → lead_bytes k x + m ≡ k → x < 256 ^ m → 256 ^ m ≤ 256 * x + 255 → count_leading_zeros (8 * k) x / 8 ≡ lead_bytes k x
    go zero e lo hi =
        let none : b.0 < 1 = lt_of_not-le (λ (g : 1 ≤ b.0). omega (arith, pow_mono g, b.3)) in
        omega (arith, b.1)
    go (suc j) e lo hi =
        let under : b.0 ≤ 8 * suc j = omega (arith, lt_of_not-le (λ (g : 8 * suc j + 1 ≤ b.0). omega (arith, pow_mono g, pow_bytes (suc j), pow-add 2 (8 * suc j) 1, b.3))) in
        let over : 8 * j < b.0 = lt_of_not-le (λ (g : b.0 ≤ 8 * j). omega (arith, pow_mono g, pow_bytes j, pow-suc 256 j, b.2)) in
        omega (arith, b.1)

pub lead_eighth : (x : ℕ) → x < 2 ^ 64 → count_leading_zeros 64 x / 8 ≡ lead_zeros x
lead_eighth x h = lead_eighths 8 x h ∙ sym (lead_is x)

-- a number whose j lowest bits are 0 has j trailing zeros more than what stands above them; any other has fewer than j
low_bits : (j x : ℕ) → x % 2 ^ suc j ≡ (x / 2 % 2 ^ j) * 2 + x % 2
low_bits j x = rw pow-suc (mod-mul x (pow_pos j) (lit< tt))

skip : (j n x : ℕ) → x % 2 ^ j ≡ 0 → count_trailing_zeros (j + n) x ≡ j + count_trailing_zeros n (x / 2 ^ j)
unfolding count_trailing_zeros
skip zero n x e = simp (zero-add, div-one)
skip (suc j) n x e =
    let even : x % 2 ≡ 0 = omega (arith, low_bits j x) in
    let rest : x / 2 % 2 ^ j ≡ 0 = omega (arith, low_bits j x) in
    rw (suc-add j n, even, skip j n (x / 2) rest, div-div-eq-div-mul x 2 (2 ^ j), ← pow-succ' 2 j, suc-add)

stop : (j n x : ℕ) → (x % 2 ^ j ≡ 0 → ⊥) → count_trailing_zeros (j + n) x < j
unfolding count_trailing_zeros
stop zero n x e = absurd (e (omega (arith)))
stop (suc j) n x e = rw suc-add (go (stop j n (x / 2)) (x % 2) refl)
  where
    go : ((x / 2 % 2 ^ j ≡ 0 → ⊥) → count_trailing_zeros (j + n) (x / 2) < j) → (d : ℕ) → x % 2 ≡ d → under d (count_trailing_zeros (j + n) (x / 2)) < suc j
    go rest zero q = omega (arith, rest (λ z. e (omega (arith, low_bits j x))))
    go rest (suc d) q = omega arith

-- the trailing zero bits, eight to a byte
trail_eighths : (k x : ℕ) → count_trailing_zeros (8 * k) x / 8 ≡ trail_bytes k x
unfolding zeros_at low_bytes count_trailing_zeros
trail_eighths zero x = refl
trail_eighths (suc k) x = rw (mul-suc 8 k, add_comm (8 * k) 8) (go (trail_eighths k (x / 256)) (x % 256) refl)
  where
    go : count_trailing_zeros (8 * k) (x / 256) / 8 ≡ trail_bytes k (x / 256) → (d : ℕ) → x % 256 ≡ d → count_trailing_zeros (8 + 8 * k) x / 8 ≡ under d (trail_bytes k (x / 256))
    go ih zero e = omega (arith, skip 8 (8 * k) x e)
    go ih (suc d) e = omega (arith, stop 8 (8 * k) x (λ z. omega arith))

pub trail_eighth : (x : ℕ) → count_trailing_zeros 64 x / 8 ≡ trail_zeros x
trail_eighth x = trail_eighths 8 x ∙ sym (trail_is x)

-- a number of k bytes has no more than k zero bytes at either end
under_le : (d t k : ℕ) → t ≤ k → under d t ≤ suc k
under_le zero t k h = omega arith
under_le (suc d) t k h = omega arith

lead_bytes_le : (k x : ℕ) → lead_bytes k x ≤ k
unfolding zeros_at digits_of
lead_bytes_le zero x = omega arith
lead_bytes_le (suc k) x = under_le (x / 256 ^ k % 256) (lead_bytes k x) k (lead_bytes_le k x)

trail_bytes_le : (k x : ℕ) → trail_bytes k x ≤ k
unfolding zeros_at low_bytes
trail_bytes_le zero x = omega arith
trail_bytes_le (suc k) x = under_le (x % 256) (trail_bytes k (x / 256)) k (trail_bytes_le k (x / 256))

pub lead_le : (x : ℕ) → lead_zeros x ≤ 8
lead_le x = rw lead_is (lead_bytes_le 8 x)

pub trail_le : (x : ℕ) → trail_zeros x ≤ 8
trail_le x = rw trail_is (trail_bytes_le 8 x)

-- the trailing zero bytes stand below a number that is not 0
trail_low : (k x : ℕ) → 0 < x → 256 ^ trail_bytes k x ≤ x
unfolding zeros_at low_bytes
trail_low zero x h = omega arith
trail_low (suc k) x h = go (trail_low k (x / 256)) (x % 256) refl
  where
    go : (0 < x / 256 → 256 ^ trail_bytes k (x / 256) ≤ x / 256) → (d : ℕ) → x % 256 ≡ d → 256 ^ under d (trail_bytes k (x / 256)) ≤ x
    go rest zero e = omega (arith, pow-suc 256 (trail_bytes k (x / 256)), rest (omega arith))
    go rest (suc d) e = omega arith

-- so the two counts of such a number do not meet
bytes_apart : (k x : ℕ) → 0 < x → x < 256 ^ k → lead_bytes k x + trail_bytes k x < k
bytes_apart k x p h =
    let s = lead-length k x h in
    let t : trail_bytes k x < s.0 = lt_of_not-le (λ (g : s.0 ≤ trail_bytes k x). omega (arith, pow-le-pow_right {n = 256} (lit< tt) g, trail_low k x p, s.2)) in
    omega (arith, s.1)

pub zeros_apart : (x : ℕ) → 0 < x → x < 2 ^ 64 → lead_zeros x + trail_zeros x < 8
zeros_apart x p h = rw (lead_is, trail_is) (bytes_apart 8 x p h)

-- a number is what stands above its trailing zero bytes, times a power of 256
factor : (k x : ℕ) → x / 256 ^ trail_bytes k x * 256 ^ trail_bytes k x ≡ x
unfolding zeros_at low_bytes
factor zero x = omega arith
factor (suc k) x = go (factor k (x / 256)) (x % 256) refl
  where
    go : x / 256 / 256 ^ trail_bytes k (x / 256) * 256 ^ trail_bytes k (x / 256) ≡ x / 256
        → (d : ℕ) → x % 256 ≡ d → x / 256 ^ under d (trail_bytes k (x / 256)) * 256 ^ under d (trail_bytes k (x / 256)) ≡ x
    go ih zero e =
        let t = trail_bytes k (x / 256) in
        ap₂ (λ (a b : ℕ). x / a * b) (pow-succ' 256 t) (pow-suc 256 t)
        ∙ ap (λ (a : ℕ). a * (256 ^ t * 256)) (sym (div-div-eq-div-mul x 256 (256 ^ t)))
        ∙ sym (mul_assoc (x / 256 / 256 ^ t) (256 ^ t) 256)
        ∙ ap (λ (a : ℕ). a * 256) ih ∙ omega arith
    go ih (suc d) e = omega arith

pub trail_factor : (x : ℕ) → x / 256 ^ trail_zeros x * 256 ^ trail_zeros x ≡ x
trail_factor x = subst (λ (t : ℕ). x / 256 ^ t * 256 ^ t ≡ x) (sym (trail_is x)) (factor 8 x)

-- the middle fits its bytes
pub middle_fits : (x : ℕ) → x < 2 ^ 64 → lead_zeros x + trail_zeros x ≤ 8 → x / 256 ^ trail_zeros x < 256 ^ (8 - (lead_zeros x + trail_zeros x))
middle_fits x h g =
    let s = lead-length 8 x h in
    let t = trail_zeros x in
    let n = 8 - (lead_zeros x + t) in
    let e : s.0 ≡ n + t = omega (arith, s.1, lead_is x) in
    (div-lt_iff_lt-mul (pos_256 t)).1 (subst (λ (y : ℕ). x < y) (ap (λ (y : ℕ). 256 ^ y) e ∙ pow-add 256 n t) s.2)

-- A middle of n bytes that is raised by t bytes leaves all other bytes 0. The standard term for raising is shifting left.
lead_most : (k n x : ℕ) → n ≤ k → x < 256 ^ n → k - n ≤ lead_bytes k x
lead_most k n x h g =
    let s = lead-length k x (lt_of_lt_of_le g (pow-le-pow_right {n = 256} (lit< tt) h)) in
    let m : s.0 ≤ n = omega (arith, lt_of_not-le (λ (f : suc n ≤ s.0). omega (arith, pow-le-pow_right {n = 256} (lit< tt) f, pow-suc 256 n, s.3))) in
    omega (arith, s.1)

trail_most : (k t m : ℕ) → t ≤ k → t ≤ trail_bytes k (m * 256 ^ t)
unfolding zeros_at low_bytes
trail_most k zero m h = omega arith
trail_most zero (suc t) m h = absurd (omega arith)
trail_most (suc k) (suc t) m h =
    let e : m * 256 ^ suc t ≡ m * 256 ^ t * 256 = ap (λ (y : ℕ). m * y) (pow-suc 256 t) ∙ sym (mul_assoc m (256 ^ t) 256) in
    let low : m * 256 ^ suc t % 256 ≡ 0 = omega arith in
    let high : m * 256 ^ suc t / 256 ≡ m * 256 ^ t = omega arith in
    rw (low, high) (omega (arith, trail_most k t m (omega arith)))

pub raised_lt : (m n t : ℕ) → m < 256 ^ n → m * 256 ^ t < 256 ^ (n + t)
raised_lt m n t h = rw pow-add (mul-lt-mul_of_pos_right h (pos_256 t))

-- m below 256 ^ n, raised by t bytes, stays below 2 ^ 64
pub raised_fits : (m n t : ℕ) → m < 256 ^ n → t + n ≤ 8 → m * 256 ^ t < 2 ^ 64
raised_fits m n t h g = lt_of_lt_of_le (raised_lt m n t h) (pow-le-pow_right {n = 256} (lit< tt) {i = n + t} {j = 8} (omega arith))

pub zeros_most : (m n t : ℕ) → m < 256 ^ n → t + n ≤ 8 → 8 - n ≤ lead_zeros (m * 256 ^ t) + trail_zeros (m * 256 ^ t)
zeros_most m n t h g =
    let x = m * 256 ^ t in
    omega (arith, lead_is x, trail_is x, lead_most 8 (n + t) x (omega arith) (raised_lt m n t h), trail_most 8 t m (omega arith))
