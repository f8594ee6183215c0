-- Bytes read into a number from the first to the last: what a turn adds, and that it fits.
use mathlib.Core.Path.{◌≡◌, sym, ap, ap₂, ◌∙◌}
use mathlib.Core.List.{List}
use Prim.Native.Nat.{ℕ, ◌+◌, ◌-◌, ◌*◌, ◌/◌, ◌^◌, ◌≤◌, ◌<◌}
use native.Mathlib.Nat.{pow-suc, pow-le-pow_right, lt_of_lt_of_le}
use native.Mathlib.Numerals.{add-one}
use native.Mathlib.Omega.{arith}
use lib.Arith.{digits_lt as join-lt, digits_div}
use lib.ListN.{length, take, drop, get_or, length-drop}
use lib.Seq.{take-suc, take-add, length-take-le}
use Rattle.std.proofs.lemmas.List.{get_or-take}
use Rattle.bits.specs.Digits.{number_of}
use Rattle.lists.specs.Below.{Below}
use Rattle.lists.proofs.Below.{below_take, below_drop}
use Rattle.bits.proofs.Digits.{pow_bytes, number_append, number_snoc, number_lt}

-- one byte more
pub read_lt : (i : ℕ) {y d : ℕ} → y < 256 ^ i → d < 256 → y * 256 + d < 256 ^ (i + 1)
read_lt i y< d< = rw (add-one, pow-suc) (join-lt y< d<)

pub read_step : (s : List ℕ) (at m i y d : ℕ) → i < m → at + m ≤ length s → d ≡ get_or (take (at + m - at) (drop at s)) i 0
    → y ≡ number_of 256 (take i (drop at s)) → y * 256 + d ≡ number_of 256 (take (i + 1) (drop at s))
read_step s at m i y d i< room ed ey =
    let h : i < length (drop at s) = simp length-drop (omega arith) in
    let w : i < at + m - at = omega arith in
    ap₂ (λ (u v : ℕ). u * 256 + v) ey (ed ∙ get_or-take (at + m - at) (drop at s) i 0 w)
    ∙ sym (number_snoc 256 (take i (drop at s)) (get_or (drop at s) i 0))
    ∙ ap (number_of 256) (sym (take-suc (drop at s) i 0 h) ∙ ap (λ (m : ℕ). take m (drop at s)) (sym (add-one i)))

-- what fits in n bytes fits in m, for n up to m
pub bytes_lt : (m n : ℕ) {x : ℕ} → n ≤ m → x < 256 ^ n → x < 256 ^ m
bytes_lt m n h l = lt_of_lt_of_le l (pow-le-pow_right (omega arith) h)

-- of the number of i + j bytes, the first i
first_of : (l : List ℕ) (i j : ℕ) → i + j ≤ length l → Below 256 l
    → (number_of 256 (take (i + j) l) / 256 ^ j ≡ number_of 256 (take i l)) × (number_of 256 (take i l) < 256 ^ i)
first_of l i j h b =
    let rest = take j (drop i l) in
    let m : length rest ≡ j = length-take-le j (drop i l) (simp length-drop (omega arith)) in
    let few : number_of 256 rest < 256 ^ j = rw m at (number_lt 256 rest (below_take 256 j (drop i l) (below_drop 256 i l b))) in (
      ap (λ (n : ℕ). n / 256 ^ j) (ap (number_of 256) (take-add i j l) ∙ number_append 256 (take i l) rest ∙ ap (λ (n : ℕ). number_of 256 (take i l) * 256 ^ n + number_of 256 rest) m)
          ∙ digits_div (number_of 256 (take i l)) few,
      rw (length-take-le i l (omega arith)) at (number_lt 256 (take i l) (below_take 256 i l b)),
    )

-- the first n of eight bytes, by a shift of their number
pub first_bytes : (l : List ℕ) (n y : ℕ) → n ≤ 8 → 8 ≤ length l → Below 256 l → y ≡ number_of 256 (take 8 l)
    → (y / 2 ^ (8 * (8 - n)) ≡ number_of 256 (take n l)) × (y / 2 ^ (8 * (8 - n)) < 256 ^ n)
first_bytes l n y h e b is =
    let all : n + (8 - n) ≡ 8 = omega arith in
    let f = first_of l n (8 - n) (omega arith) b in
    let q : y / 2 ^ (8 * (8 - n)) ≡ number_of 256 (take n l) =
    ap₂ (λ (u v : ℕ). u / v) (is ∙ ap (λ (k : ℕ). number_of 256 (take k l)) (sym all)) (sym (pow_bytes (8 - n))) ∙ f.0 in
    (q, rw q f.1)
