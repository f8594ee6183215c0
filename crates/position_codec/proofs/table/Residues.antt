-- An integer of 64 bits in two's complement: its bits as the machine has them, those of it that a narrower field has, and the integer that the
-- bits of a row stand for.
use mathlib.Core.Path.{◌≡◌, refl, sym, ap, ap₂, ◌∙◌}
use mathlib.Core.Bool.{Bool, true, cond}
use Prim.Native.Nat.{ℕ, zero, suc, ◌+◌, ◌-◌, ◌*◌, ◌/◌, ◌%◌, ◌≤◌, ◌<◌, ◌^◌}
use native.Mathlib.Nat.{div-add-mod', mod-lt, mod-eq_of_lt, mul-sub, mul_comm, suc-mul, mul-le-mul_right, div-lt_iff_lt-mul, pow-zero}
use native.Mathlib.Omega.{arith}
use borrow.Author.Tests.{le-leb, lt-leb}
use lib.Arith.{digits_mod}
use lib.Dec.{leb}
use lib.IntN.{ℤ, pos, negsuc, nat_abs, ◌-ℤ◌}
use lib.Pow.{pow_pos, pow-add, mod-mod-pow, ones_split, ones_lt, high}
use lib.Signed.{le_z}
use mir.Syntax.{w64}
use mir.Val.{to_z, of_z, SFits}
use mir.ValLaws.{to_z-of_z, to_z_pos}
use Rattle.integers.proofs.Integers.{diff_neg}
use Rattle.position_format.specs.Rows.{Row, residue, reading}
use Rattle.position_format.proofs.Rows.{full, full_is}

-- ---- -1 less a number

less_pos : (n : ℕ) → negsuc 0 -ℤ pos n ≡ negsuc n
less_pos zero = refl
less_pos (suc n) = let e : suc (0 + n) ≡ suc n = omega arith in ap negsuc e

-- ---- the bits of an integer of 64 bits

pub twos : (z : ℤ) → SFits w64 z → of_z w64 z ≡ residue 64 z
twos (pos n) f = sym (mod-eq_of_lt (omega (arith, f.sfits)))
twos (negsuc n) f = let r : n % 2 ^ 64 ≡ n = mod-eq_of_lt (omega (arith, f.sfits)) in ap (λ (m : ℕ). 2 ^ 64 - suc m) (sym r)

-- ---- the lower bits of it

sub_mul : (a b k : ℕ) → (a - b) * k ≡ a * k - b * k
sub_mul a b k = mul_comm (a - b) k ∙ mul-sub k a b ∙ ap₂ (λ (x y : ℕ). x - y) (mul_comm k a) (mul_comm k b)

-- W less n + 1, modulo P, where P times Q is W
below : (P Q W n : ℕ) → 0 < P → Q * P ≡ W → n < W → (W - suc n) % P ≡ P - suc (n % P)
below P Q W n P⁺ whole n< =
    let q< : n / P < Q = (div-lt_iff_lt-mul P⁺).1 (rw whole n<) in
    let r< : n % P < P = mod-lt n P⁺ in
    let d : n / P * P + n % P ≡ n = div-add-mod' n P in
    let m : suc (n / P) * P ≤ Q * P = mul-le-mul_right P q< in
    let s : suc (n / P) * P ≡ n / P * P + P = suc-mul (n / P) P in
    let e : W - suc n ≡ (Q - suc (n / P)) * P + (P - suc (n % P)) = omega (arith, sub_mul Q (suc (n / P)) P) in
    ap (λ (x : ℕ). x % P) e ∙ digits_mod (Q - suc (n / P)) (omega arith)

module _ (k : ℕ) (k≤ : k ≤ 64) where
  all : (64 - k) + k ≡ 64
  all = omega arith

  whole : 2 ^ (64 - k) * 2 ^ k ≡ 2 ^ 64
  whole = sym (pow-add 2 (64 - k) k) ∙ ap (λ (m : ℕ). 2 ^ m) all

  mod_down : (n : ℕ) → n % 2 ^ 64 % 2 ^ k ≡ n % 2 ^ k
  mod_down n = ap (λ (m : ℕ). n % 2 ^ m % 2 ^ k) (sym all) ∙ mod-mod-pow n (64 - k) k

  pub residue_down : (z : ℤ) → residue 64 z % 2 ^ k ≡ residue k z
  residue_down (pos n) = mod_down n
  residue_down (negsuc n) =
      below (2 ^ k) (2 ^ (64 - k)) (2 ^ 64) (n % 2 ^ 64) (pow_pos k) whole (mod-lt n (pow_pos 64)) ∙ ap (λ (x : ℕ). 2 ^ k - suc x) (mod_down n)

  -- k ones, by a shift of 64 ones
  ones : (2 ^ 64 - 1) / 2 ^ (64 - k) ≡ 2 ^ k - 1
  ones =
      let e : k + (64 - k) ≡ 64 = omega arith in
      ap (λ (m : ℕ). (2 ^ m - 1) / 2 ^ (64 - k)) (sym e) ∙ ap (λ (x : ℕ). x / 2 ^ (64 - k)) (ones_split k (64 - k)) ∙ high (2 ^ k - 1) (64 - k) (ones_lt (64 - k))

-- ---- the integer that the bits x of a row stand for, by the row's highest step h

-- a row whose steps fit 64 bits
pub record Fitted (r : Row) (h : ℕ) : Type 0 where
  pub full : full r ≡ true
  pub width : r.width ≤ 64
  pub high : r.high ≡ pos h
  pub high_fits : h < 2 ^ 63
  pub low_fits : nat_abs r.low ≤ 2 ^ 63

module _ (r : Row) (h : ℕ) (f : Fitted r h) (x : ℕ) (x< : x < 2 ^ r.width) where
  by_top : reading r x ≡ cond (leb x h) (pos x) (pos x -ℤ pos (2 ^ r.width))
  by_top = ap (λ (z : ℤ). cond (le_z (pos x) z) (pos x) (pos x -ℤ pos (2 ^ r.width))) f.high

  -- up to it they are the step
  pub reading_low : x ≤ h → to_z w64 x ≡ reading r x
  reading_low l = to_z_pos w64 x (omega (arith, f.high_fits)) ∙ sym (by_top ∙ ap (λ (t : Bool). cond t (pos x) (pos x -ℤ pos (2 ^ r.width))) (le-leb x h l))

  -- above it they lack as much to 2 ^ width as the step is below 0
  module _ (g : h < x) where
    pub some_bits : 0 < r.width
    some_bits = go r.width x<
      where
        go : (j : ℕ) → x < 2 ^ j → 0 < j
        go zero l = absurd (omega (arith, pow-zero 2))
        go (suc j) l = omega arith

    abbrev pub lacks : ℕ
    lacks = (2 ^ 64 - 1) / 2 ^ (64 - r.width) - x

    pub lacks_from : x ≤ (2 ^ 64 - 1) / 2 ^ (64 - r.width)
    lacks_from = rw (ones r.width f.width) (omega arith)

    lacks_is : lacks ≡ 2 ^ r.width - suc x
    lacks_is = ap (λ (n : ℕ). n - x) (ones r.width f.width) ∙ (let s : 2 ^ r.width - 1 - x ≡ 2 ^ r.width - suc x = omega arith in s)

    pub lacks_small : lacks < 2 ^ 63
    lacks_small = omega (arith, lacks_is, (full_is r f.full).size, ap nat_abs f.high, f.low_fits)

    below_zero : negsuc 0 -ℤ to_z w64 lacks ≡ negsuc lacks
    below_zero = ap (λ (y : ℤ). negsuc 0 -ℤ y) (to_z_pos w64 lacks lacks_small) ∙ less_pos lacks

    pub below_fits : SFits w64 (negsuc 0 -ℤ to_z w64 lacks)
    below_fits = rw below_zero (record { sfits = lacks_small })

    pub reading_high : to_z w64 (of_z w64 (negsuc 0 -ℤ to_z w64 lacks)) ≡ reading r x
    reading_high =
        to_z-of_z w64 _ below_fits ∙ below_zero ∙ ap negsuc lacks_is ∙ sym (diff_neg x (2 ^ r.width) x<)
        ∙ sym (by_top ∙ ap (λ (t : Bool). cond t (pos x) (pos x -ℤ pos (2 ^ r.width))) (lt-leb x h g))
