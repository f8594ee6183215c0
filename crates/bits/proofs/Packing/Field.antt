-- Laws of a field of bits in a list of bytes: the bytes that hold it, the number that it holds, and a field as two.
use mathlib.Core.Path.{◌≡◌, sym, ap, ap₂, ◌∙◌}
use mathlib.Core.List.{List, ◌++◌, append_assoc}
use Prim.Native.Nat.{ℕ, ◌+◌, ◌-◌, ◌*◌, ◌/◌, ◌%◌, ◌^◌, ◌≤◌, ◌<◌}
use native.Mathlib.Nat.{mod-lt, lt_of_lt_of_le}
use native.Mathlib.Omega.{arith}
use lib.Pow.{pow_pos, pow_mono}
use lib.ListN.{length, take, drop, length-drop, take-append-drop}
use lib.Seq.{length-take-le, take_at, drop_at, drop-append-add, take-add, drop-drop}
use Rattle.lists.specs.Below.{Below}
use Rattle.bits.specs.Digits.{bits_of, number_of}
use Rattle.bits.specs.Packing.{bits}
use Rattle.lists.proofs.Below.{below_take, below_drop}
use Rattle.bits.proofs.Digits.{two⁺, length_digits, digits_append, number_append, number_digits, digits_number}
use Rattle.bits.proofs.Packing.{bits-append, length-bits, bits_bytes, length_left}
use Rattle.bits.proofs.Digits.Word.{mask_pow, shl_is, two_lt}

-- the field of k bits from 8 * b + r on is read by way of the e bytes from b on
module _ (s : List ℕ) (b r k pad e : ℕ) (whole : r + k + pad ≡ 8 * e) (room : b + e ≤ length s) (bytes : Below 256 s) where
  -- the number of the bytes
  abbrev held : ℕ
  held = number_of 256 (take e (drop b s))

  held-bits : bits (take e (drop b s)) ≡ bits_of (8 * e) held
  held-bits =
      let n : length (take e (drop b s)) ≡ e = length-take-le e (drop b s) (simp length-drop (omega arith)) in
      ap bits (sym (rw n at (digits_number 256 (take e (drop b s)) (below_take 256 e (drop b s) (below_drop 256 b s bytes)))))
      ∙ bits_bytes e held

  pub bits_field : take k (drop (8 * b + r) (bits s)) ≡ bits_of k (held / 2 ^ pad)
  bits_field =
      let A : List ℕ = bits_of r (held / 2 ^ pad / 2 ^ k) in
      let K : List ℕ = bits_of k (held / 2 ^ pad) in
      let Z : List ℕ = bits (drop e (drop b s)) in
      let h : length (bits (take b s)) ≡ 8 * b = length-bits (take b s) ∙ ap (λ (m : ℕ). 8 * m) (length-take-le b s (omega arith)) in
      let t : bits (drop b s) ≡ A ++ (K ++ (bits_of pad held ++ Z)) =
      ap bits (sym (take-append-drop e (drop b s))) ∙ bits-append (take e (drop b s)) (drop e (drop b s))
      ∙ ap (λ (l : List ℕ). l ++ Z)
      (held-bits ∙ ap (λ (m : ℕ). bits_of m held) (sym whole) ∙ digits_append 2 (r + k) pad held
      ∙ ap (λ (l : List ℕ). l ++ bits_of pad held) (digits_append 2 r k (held / 2 ^ pad)))
      ∙ regroup A K (bits_of pad held) Z in
      ap₂ (λ (m : ℕ) (l : List ℕ). take k (drop (m + r) l)) (sym h) (ap bits (sym (take-append-drop b s)) ∙ bits-append (take b s) (drop b s))
      ∙ ap (take k)
      (drop-append-add (bits (take b s)) (bits (drop b s)) r ∙ ap (drop r) t
      ∙ drop_at A (K ++ (bits_of pad held ++ Z)) r (length_digits 2 r (held / 2 ^ pad / 2 ^ k)))
      ∙ take_at K (bits_of pad held ++ Z) k (length_digits 2 k (held / 2 ^ pad))
    where
      regroup : (a k p z : List ℕ) → a ++ k ++ p ++ z ≡ a ++ (k ++ (p ++ z))
      regroup a k p z = simp append_assoc

  pub number_field : number_of 2 (take k (drop (8 * b + r) (bits s))) ≡ held / 2 ^ pad % 2 ^ k
  number_field = ap (number_of 2) bits_field ∙ number_digits two⁺ k (held / 2 ^ pad)

-- the code's own terms: the field of k bits from bit `at` on

-- how many bytes hold it, and how many bits of the last one stand after it
abbrev pub bytes_for : ℕ → ℕ → ℕ
bytes_for at k = (at % 8 + k + 7) / 8

abbrev pub pad_after : ℕ → ℕ → ℕ
pad_after at k = 8 * bytes_for at k - (at % 8 + k)

-- of the number x of the bytes that hold the field
pub field_one : (s : List ℕ) (at k x : ℕ) → k ≤ 57 → at + k ≤ 8 * length s → Below 256 s
    → x ≡ number_of 256 (take (bytes_for at k) (drop (at / 8) s))
    → (x / 2 ^ pad_after at k % (1 * 2 ^ k % 2 ^ 64) ≡ number_of 2 (take k (drop at (bits s)))) × (x / 2 ^ pad_after at k % (1 * 2 ^ k % 2 ^ 64) < 2 ^ k)
field_one s at k x k≤ room bytes ex =
    let place : 8 * (at / 8) + at % 8 ≡ at = omega arith in
    rw (mask_pow k (omega arith)) (
      ap (λ (y : ℕ). y / 2 ^ pad_after at k % 2 ^ k) ex
          ∙ sym (number_field s (at / 8) (at % 8) k (pad_after at k) (bytes_for at k) (omega arith) (omega arith) bytes)
          ∙ ap (λ (m : ℕ). number_of 2 (take k (drop m (bits s)))) place,
      mod-lt (x / 2 ^ pad_after at k) (pow_pos k),
    )

-- ---- a field as two

-- the number of i + j bits by those of the first i and the other j
number_two : (l : List ℕ) (i j : ℕ) → i + j ≤ length l → number_of 2 (take (i + j) l) ≡ number_of 2 (take i l) * 2 ^ j + number_of 2 (take j (drop i l))
number_two l i j h =
    let n : length (take j (drop i l)) ≡ j = length-take-le j (drop i l) (omega (arith, length-drop i l)) in
    ap (number_of 2) (take-add i j l) ∙ number_append 2 (take i l) (take j (drop i l))
    ∙ ap (λ (m : ℕ). number_of 2 (take i l) * 2 ^ m + number_of 2 (take j (drop i l))) n

-- the first 32 of k bits, and the others
module _ (s : List ℕ) (at k : ℕ) (many : 57 < k) (k≤ : k ≤ 64) (room : at + k ≤ 8 * length s) (x y : ℕ) (x< : x < 2 ^ 32) (y< : y < 2 ^ (k - 32))
    (ex : x ≡ number_of 2 (take 32 (drop at (bits s)))) (ey : y ≡ number_of 2 (take (k - 32) (drop (at + 32) (bits s)))) where
  all : 32 + (k - 32) ≡ k
  all = omega arith

  abbrev both : ℕ
  both = x * 2 ^ (k - 32) % 2 ^ 64 + y

  both_lt : both < 2 ^ k
  both_lt = rw all at (two_lt 32 (k - 32) x< y< (omega arith))

  pub field_fits : both < 2 ^ 64
  field_fits = lt_of_lt_of_le both_lt (pow_mono k≤)

  pub field_two : (both ≡ number_of 2 (take k (drop at (bits s)))) × (both < 2 ^ k)
  field_two =
      let l = drop at (bits s) in (
        ap (λ (m : ℕ). m + y) (shl_is 32 (k - 32) {l = y} x< y< (omega arith))
            ∙ ap₂ (λ (u v : ℕ). u * 2 ^ (k - 32) + v) ex (ey ∙ ap (λ (d : List ℕ). number_of 2 (take (k - 32) d)) (sym (drop-drop 32 at (bits s))))
            ∙ sym (number_two l 32 (k - 32) (omega (arith, length_left s at)))
            ∙ ap (λ (m : ℕ). number_of 2 (take m l)) all,
        both_lt,
      )
