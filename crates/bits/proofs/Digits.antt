-- Laws of digits in any base: a number's digits by parts, the number that digits stand for, and that each undoes the other.
pub mod Read
pub mod Write
pub mod Word
use mathlib.Core.Path.{◌≡◌, refl, sym, ap, ap₂, ◌∙◌}
use mathlib.Core.List.{List, [], ◌∷◌, ◌++◌}
use Prim.Native.Nat.{ℕ, zero, suc, ◌+◌, ◌-◌, ◌*◌, ◌/◌, ◌%◌, ◌^◌, ◌<◌}
use native.Mathlib.Nat.{zero-add, suc-add, add-zero, add_assoc, add-mul, one-mul, mul-one, mul_assoc, mul_comm, mul-suc, pow-zero, pow-suc, pow-succ', one-le-pow, mod-one, mod-lt, mod-eq_of_lt}
use native.Mathlib.Nat.{zero-div, zero-mod, div-div-eq-div-mul, div-add-mod', mul-add-div_right, mul-add-mod_self_right}
use native.Mathlib.Omega.{arith}
use lib.Bits.{bit_xor, xor_shr, xor_mod}
use lib.Arith.{digits_div, mod-mul, digits_lt as join-lt}
use lib.Pow.{pow-add}
use lib.ListN.{length, get_or, take, drop, replicate, length-append}
use lib.Seq.{take_at, drop_at}
use Rattle.lists.specs.Below.{Below}
use Rattle.bits.specs.Digits.{digits_of, bytes_of, byte_of, number_of}

-- powers of the base

pub two⁺ : zero < 2
two⁺ = omega arith

pub pow_above : {b : ℕ} → zero < b → (j : ℕ) → zero < b ^ j
pow_above {b} b⁺ j = one-le-pow j b b⁺

pub pow_one : (b : ℕ) → b ^ 1 ≡ b
pow_one b = rw (pow-suc b 0, pow-zero, one-mul)

-- a byte is eight bits
pub pow_bytes : (j : ℕ) → 256 ^ j ≡ 2 ^ (8 * j)
pow_bytes zero = refl
pow_bytes (suc j) = rw (pow-suc, pow_bytes j, mul-suc 8 j, pow-add)

-- a number's digits

pub length_digits : (b k n : ℕ) → length (digits_of b k n) ≡ k
unfolding digits_of
length_digits b zero n = refl
length_digits b (suc k) n = ap suc (length_digits b k n)

-- each is below the base
pub below_digits : (b : ℕ) → zero < b → (k n : ℕ) → Below b (digits_of b k n)
unfolding Below digits_of
below_digits b b⁺ zero n = tt
below_digits b b⁺ (suc k) n = (mod-lt (n / b ^ k) b⁺, below_digits b b⁺ k n)

pub digits_zero : (b k : ℕ) → digits_of b k 0 ≡ replicate k 0
unfolding digits_of
digits_zero b zero = refl
digits_zero b (suc k) = rw (zero-div, zero-mod, digits_zero b k)

-- the digits of i + j places are the upper i, then the lower j
pub digits_append : (b i j n : ℕ) → digits_of b (i + j) n ≡ digits_of b i (n / b ^ j) ++ digits_of b j n
unfolding digits_of
digits_append b zero j n = rw zero-add
digits_append b (suc i) j n =
    rw (suc-add, digits_append b i j n, div-div-eq-div-mul, mul_comm (b ^ j) (b ^ i), ← pow-add b i j)

pub take_digits : (b i j n : ℕ) → take i (digits_of b (i + j) n) ≡ digits_of b i (n / b ^ j)
take_digits b i j n =
    ap (take i) (digits_append b i j n) ∙ take_at (digits_of b i (n / b ^ j)) (digits_of b j n) i (length_digits b i (n / b ^ j))

pub drop_digits : (b i j n : ℕ) → drop i (digits_of b (i + j) n) ≡ digits_of b j n
drop_digits b i j n =
    ap (drop i) (digits_append b i j n) ∙ drop_at (digits_of b i (n / b ^ j)) (digits_of b j n) i (length_digits b i (n / b ^ j))

-- what stands above the lower j places does not matter
pub digits_low : {b : ℕ} → zero < b → (j h l : ℕ) → digits_of b j (h * b ^ j + l) ≡ digits_of b j l
unfolding digits_of
digits_low b⁺ zero h l = refl
digits_low {b} b⁺ (suc j) h l =
    rw (pow-suc, mul_comm (b ^ j) b, ← mul_assoc h b (b ^ j), digits_low b⁺ j (h * b) l, mul-add-div_right (pow_above b⁺ j), mul-add-mod_self_right)

-- two numbers put together have their digits one after the other
pub digits_join : {b : ℕ} → zero < b → (i j h : ℕ) {l : ℕ} → l < b ^ j → digits_of b (i + j) (h * b ^ j + l) ≡ digits_of b i h ++ digits_of b j l
digits_join {b} b⁺ i j h {l} l< = rw (digits_append, digits_low b⁺, digits_div h l<)

pub digits_of_mod : {b : ℕ} → zero < b → (j n : ℕ) → digits_of b j (n % b ^ j) ≡ digits_of b j n
digits_of_mod {b} b⁺ j n = sym (digits_low b⁺ j (n / b ^ j) (n % b ^ j)) ∙ ap (digits_of b j) (div-add-mod' n (b ^ j))

-- a byte is a digit in base 256
pub byte_digit : (x j : ℕ) → x / 256 ^ j % 256 ≡ byte_of x j
byte_digit x j = ap (λ (y : ℕ). x / y % 256) (pow_bytes j)

-- which byte stands at an index
pub get_d_bytes : (n x k : ℕ) → k < n → get_or (bytes_of n x) k 0 ≡ byte_of x (n - 1 - k)
unfolding digits_of
get_d_bytes zero x k h = absurd (omega arith)
get_d_bytes (suc n) x zero h = byte_digit x n ∙ ap (byte_of x) (omega arith)
get_d_bytes (suc n) x (suc k) h = get_d_bytes n x k (omega arith) ∙ ap (byte_of x) (omega arith)

-- a byte of the xor is the xor of the bytes
pub byte_xor : (x y j : ℕ) → byte_of (bit_xor x y) j ≡ bit_xor (byte_of x j) (byte_of y j)
byte_xor x y j = ap (λ (z : ℕ). z % 256) (xor_shr x y (8 * j)) ∙ xor_mod (x / 2 ^ (8 * j)) (y / 2 ^ (8 * j)) 8

-- the number that digits stand for

pub number_append : (b : ℕ) (ds es : List ℕ) → number_of b (ds ++ es) ≡ number_of b ds * b ^ length es + number_of b es
unfolding number_of
number_append b [] es = omega arith
number_append b (d ∷ ds) es =
    ap₂ (λ (n y : ℕ). d * n + y) (ap (λ (n : ℕ). b ^ n) (length-append ds es) ∙ pow-add b (length ds) (length es)) (number_append b ds es)
    ∙ rw (add-mul, add_assoc, mul_assoc)

-- one digit more at the end
pub number_snoc : (b : ℕ) (ds : List ℕ) (d : ℕ) → number_of b (ds ++ (d ∷ [])) ≡ number_of b ds * b + d
unfolding number_of
number_snoc b ds d = number_append b ds (d ∷ []) ∙ simp (pow_one, pow-zero, mul-one, add-zero)

-- digits below the base give a number below the base's power
pub number_lt : (b : ℕ) (ds : List ℕ) → Below b ds → number_of b ds < b ^ length ds
unfolding Below number_of
number_lt b [] h = omega (arith, pow-zero b)
number_lt b (d ∷ ds) h = rw pow-succ' (join-lt h.0 (number_lt b ds h.1))

-- each undoes the other

-- the number of a number's digits is the number, cut to as many places
pub number_digits : {b : ℕ} → zero < b → (k n : ℕ) → number_of b (digits_of b k n) ≡ n % b ^ k
unfolding digits_of number_of
number_digits b⁺ zero n = simp (pow-zero, mod-one)
number_digits {b} b⁺ (suc k) n =
    ap₂ (λ (l y : ℕ). n / b ^ k % b * b ^ l + y) (length_digits b k n) (number_digits b⁺ k n)
    ∙ sym (ap (λ (y : ℕ). n % y) (pow-succ' b k) ∙ mod-mul n b⁺ (pow_above b⁺ k))

pub number_digits_lt : {b : ℕ} → zero < b → (k : ℕ) {n : ℕ} → n < b ^ k → number_of b (digits_of b k n) ≡ n
number_digits_lt b⁺ k {n} n< = number_digits b⁺ k n ∙ mod-eq_of_lt n<

-- the digits of the number of digits are these digits
pub digits_number : (b : ℕ) (ds : List ℕ) → Below b ds → digits_of b (length ds) (number_of b ds) ≡ ds
unfolding Below digits_of number_of
digits_number b [] h = refl
digits_number b (d ∷ ds) h =
    let b⁺ : zero < b = omega (arith, h.0) in
    let l : number_of b ds < b ^ length ds = number_lt b ds h.1 in
    ap₂ (λ (x : ℕ) (xs : List ℕ). x ∷ xs)
    (ap (λ (x : ℕ). x % b) (digits_div d l) ∙ mod-eq_of_lt h.0)
    (digits_low b⁺ (length ds) d (number_of b ds) ∙ digits_number b ds h.1)
