-- Digits as text: the fewest digits that hold a number are all of its digits without the leading zeros.
pub mod Absolute
pub mod Lengths
use mathlib.Core.Path.{◌≡◌, refl, sym, ap, ◌∙◌}
use mathlib.Core.Bool.{Bool, true, false, cond}
use mathlib.Core.List.{List, [], ◌∷◌, ◌++◌, map, map-append}
use Prim.Native.Nat.{ℕ, zero, suc, ◌-◌, ◌/◌, ◌%◌, ◌^◌, ◌≤◌, ◌<◌}
use native.Mathlib.Nat.{pow-zero, pow-suc, pow-le-pow_right, mod-eq_of_lt, zero-mod, div-one, div-eq_of_lt, div-lt_iff_lt-mul, le-div_iff_mul-le, one-mul, mul_comm}
use native.Mathlib.Numerals.{add-one}
use native.Mathlib.Omega.{arith}
use borrow.Author.Tests.{leb-true, leb-false, eq-eqb, ne_eqb}
use lib.Dec.{leb}
use Rattle.bits.specs.Digits.{digits_of}
use Rattle.bits.proofs.Digits.{pow_one, pow_above, digits_append}
use Rattle.io.specs.Digits.{last_digits, IsDigitCount}
use Rattle.text.specs.Numbers.{glyph, trimmed, decimal, hex16}

-- digits from the last to the first
pub digits_glyphs : (b k n : ℕ) → last_digits b k n ≡ map glyph (digits_of b k n)
unfolding digits_of
digits_glyphs b zero n = refl
digits_glyphs b (suc k) n =
    ap (λ (l : List ℕ). l ++ (glyph (n % b) ∷ [])) (digits_glyphs b k (n / b))
    ∙ sym (ap (λ (j : ℕ). map glyph (digits_of b j n)) (sym (add-one k))
    ∙ ap (map glyph) (digits_append b k 1 n)
    ∙ map-append glyph (digits_of b k (n / b ^ 1)) (digits_of b 1 n)
    ∙ simp (pow_one, pow-zero, div-one))

-- no more than m digits are the fewest where m hold the number
pub fewest_le : {b least n k : ℕ} (m : ℕ) → zero < b → least ≤ m → n < b ^ m → IsDigitCount b least n k → k ≤ m
fewest_le {b} {least} {n} {k} m b⁺ l≤ n< h = go (leb k m) refl
  where
    go : (t : Bool) → leb k m ≡ t → k ≤ m
    go true e = leb-true k m e
    go false e =
        let m< : m < k = leb-false k m e in
        let m≤ : m ≤ k - 1 = omega arith in
        absurd (omega (arith, h.2 (omega arith), pow-le-pow_right b⁺ m≤))

module _ (b : ℕ) (b⁺ : zero < b) (n : ℕ) where
  -- a digit above all those that hold the number is 0
  top_zero : (j : ℕ) → n < b ^ j → n / b ^ j % b ≡ 0
  top_zero j h = rw (div-eq_of_lt h) (zero-mod b)

  -- the first of the fewest digits is not 0
  top_some : (j : ℕ) → b ^ j ≤ n → n < b ^ suc j → n / b ^ j % b ≡ 0 → ⊥
  top_some j h g e =
      let p : zero < b ^ j = pow_above b⁺ j in
      let q< : n / b ^ j < b = (div-lt_iff_lt-mul p).1 (omega (arith, pow-suc b j, mul_comm (b ^ j) b)) in
      let q⁺ : 1 ≤ n / b ^ j = (le-div_iff_mul-le p).1 (omega (arith, one-mul (b ^ j))) in
      omega (arith, mod-eq_of_lt q<)

  pub trimmed_fewest : (j k : ℕ) → k ≤ j → IsDigitCount b 1 n k → trimmed (digits_of b j n) ≡ digits_of b k n
  unfolding digits_of trimmed
  trimmed_fewest zero k k≤ h = absurd (omega arith)
  trimmed_fewest (suc zero) k k≤ h = let e : 1 ≡ k = omega arith in ap (λ (i : ℕ). digits_of b i n) e
  trimmed_fewest (suc (suc i)) k k≤ h = go (leb k (suc i)) refl (trimmed_fewest (suc i) k)
    where
      whole : List ℕ
      whole = digits_of b (suc (suc i)) n

      go : (t : Bool) → leb k (suc i) ≡ t → (k ≤ suc i → IsDigitCount b 1 n k → trimmed (digits_of b (suc i) n) ≡ digits_of b k n) → trimmed whole ≡ digits_of b k n
      go true e ih =
          let k≤' : k ≤ suc i = leb-true k (suc i) e in
          let n< : n < b ^ suc i = omega (arith, pow-le-pow_right b⁺ k≤') in
          ap (λ (t : Bool). cond t (trimmed (digits_of b (suc i) n)) whole) (eq-eqb _ 0 (top_zero (suc i) n<)) ∙ ih k≤' h
      go false e ih =
          let ek : suc (suc i) ≡ k = omega (arith, leb-false k (suc i) e) in
          let el : suc i ≡ k - 1 = omega arith in
          ap (λ (t : Bool). cond t (trimmed (digits_of b (suc i) n)) whole)
          (ne_eqb _ 0 (top_some (suc i) (rw el (h.2 (omega arith))) (rw ek h.1)))
          ∙ ap (λ (i : ℕ). digits_of b i n) ek

-- a number in base 10, by the fewest digits that hold it
pub decimal_fewest : {n k : ℕ} → n < 2 ^ 64 → IsDigitCount 10 1 n k → last_digits 10 k n ≡ decimal n
unfolding decimal
decimal_fewest {n} {k} n< h =
    let k≤ : k ≤ 20 = fewest_le 20 (omega arith) (omega arith) (omega arith) h in
    digits_glyphs 10 k n ∙ ap (map glyph) (sym (trimmed_fewest 10 (omega arith) n 20 k k≤ h))

-- 64 bits by 16 hex digits
pub hex_fewest : {v k : ℕ} → v < 2 ^ 64 → IsDigitCount 16 16 v k → last_digits 16 k v ≡ hex16 v
unfolding hex16
hex_fewest {v} {k} v< h =
    let k≤ : k ≤ 16 = fewest_le 16 (omega arith) (omega arith) (omega arith) h in
    let e : k ≡ 16 = omega arith in
    digits_glyphs 16 k v ∙ ap (λ (i : ℕ). map glyph (digits_of 16 i v)) e
