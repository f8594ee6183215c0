-- Laws of bits packed to bytes: lengths, bounds, parts, and that packing and the bits of bytes undo each other.
pub mod Ahead
pub mod Field
pub mod Fill
use mathlib.Core.Path.{◌≡◌, refl, sym, ap, ap₂, ◌∙◌}
use mathlib.Core.List.{List, [], ◌∷◌, ◌++◌, append_assoc, append-nil}
use Prim.Native.Nat.{ℕ, zero, suc, ◌+◌, ◌-◌, ◌*◌, ◌/◌, ◌^◌, ◌≤◌}
use native.Mathlib.Nat.{add_comm, mul-suc, mod-eq_of_lt}
use native.Mathlib.Omega.{arith}
use lib.ListN.{length, take, drop, replicate, length-append, length-drop, length-replicate, take-append-drop}
use lib.Seq.{length-take-le, take_at, drop_at}
use Rattle.lists.specs.Below.{Below}
use Rattle.bits.specs.Digits.{digits_of, bits_of, bytes_of, number_of}
use Rattle.bits.specs.Packing.{bits, eights, fill_of, pack}
use Rattle.lists.proofs.Below.{below_append, below_take, below_drop, below_replicate}
use Rattle.bits.proofs.Digits.{below_digits, two⁺, pow_bytes, length_digits, digits_append, digits_of_mod, number_lt, number_digits, digits_number}

-- the bits of bytes

pub bits-append : (xs ys : List ℕ) → bits (xs ++ ys) ≡ bits xs ++ bits ys
unfolding bits
bits-append [] ys = refl
bits-append (x ∷ xs) ys = rw (append_assoc, bits-append xs ys)

pub length-bits : (xs : List ℕ) → length (bits xs) ≡ 8 * length xs
unfolding bits
length-bits [] = refl
length-bits (x ∷ xs) = omega (arith, length-append (bits_of 8 x) (bits xs), length_digits 2 8 x, length-bits xs)

pub below_bits : (xs : List ℕ) → Below 2 (bits xs)
unfolding bits Below
below_bits [] = tt
below_bits (x ∷ xs) = below_append 2 (bits_of 8 x) (bits xs) (below_digits 2 two⁺ 8 x) (below_bits xs)

-- the bits of a number's bytes are the number's bits
pub bits_bytes : (j x : ℕ) → bits (bytes_of j x) ≡ bits_of (8 * j) x
unfolding bits digits_of
bits_bytes zero x = refl
bits_bytes (suc j) x =
    ap (λ (l : List ℕ). l ++ bits (bytes_of j x)) (digits_of_mod two⁺ 8 (x / 256 ^ j))
    ∙ ap₂ (λ (p : ℕ) (l : List ℕ). bits_of 8 (x / p) ++ l) (pow_bytes j) (bits_bytes j x)
    ∙ sym (digits_append 2 8 (8 * j) x)
    ∙ ap (λ (n : ℕ). bits_of n x) (add_comm 8 (8 * j) ∙ sym (mul-suc 8 j))

-- eight bits to a byte

pub length-eights : (n : ℕ) (ds : List ℕ) → length (eights n ds) ≡ n
unfolding eights
length-eights zero ds = refl
length-eights (suc n) ds = ap suc (length-eights n (drop 8 ds))

below_eights : (n : ℕ) (ds : List ℕ) → Below 2 ds → length ds ≡ 8 * n → Below 256 (eights n ds)
unfolding eights Below
below_eights zero ds h e = tt
below_eights (suc n) ds h e = (
  rw (length-take-le 8 ds (omega arith)) at (number_lt 2 (take 8 ds) (below_take 2 8 ds h)),
  below_eights n (drop 8 ds) (below_drop 2 8 ds h) (omega (arith, length-drop 8 ds)),
)

bits-eights : (n : ℕ) (ds : List ℕ) → Below 2 ds → length ds ≡ 8 * n → bits (eights n ds) ≡ ds
unfolding bits eights
bits-eights zero [] h e = refl
bits-eights zero (d ∷ ds) h e = absurd (omega arith)
bits-eights (suc n) ds h e =
    ap₂ (λ (x y : List ℕ). x ++ y)
    (rw (length-take-le 8 ds (omega arith)) at (digits_number 2 (take 8 ds) (below_take 2 8 ds h)))
    (bits-eights n (drop 8 ds) (below_drop 2 8 ds h) (omega (arith, length-drop 8 ds)))
    ∙ take-append-drop 8 ds

eights-bits : (xs : List ℕ) → Below 256 xs → eights (length xs) (bits xs) ≡ xs
unfolding bits eights Below
eights-bits [] h = refl
eights-bits (x ∷ xs) h =
    let n : length (bits_of 8 x) ≡ 8 = length_digits 2 8 x in
    ap₂ (λ (y : ℕ) (ys : List ℕ). y ∷ ys)
    (ap (number_of 2) (take_at (bits_of 8 x) (bits xs) 8 n) ∙ number_digits two⁺ 8 x ∙ mod-eq_of_lt h.0)
    (ap (eights (length xs)) (drop_at (bits_of 8 x) (bits xs) 8 n) ∙ eights-bits xs h.1)

-- packing

module _ (ds : List ℕ) where
  -- the bits and the fill
  abbrev filled : List ℕ
  filled = ds ++ replicate (fill_of (length ds)) 0

  length_filled : length filled ≡ 8 * ((length ds + 7) / 8)
  length_filled = omega (arith, length-append ds (replicate (fill_of (length ds)) 0), length-replicate {A = ℕ} (fill_of (length ds)) 0)

  below_filled : Below 2 ds → Below 2 filled
  below_filled h = below_append 2 ds (replicate (fill_of (length ds)) 0) h (below_replicate 2 (fill_of (length ds)) two⁺)

  pub length-pack : length (pack ds) ≡ (length ds + 7) / 8
  unfolding pack
  length-pack = length-eights ((length ds + 7) / 8) filled

  pub below_pack : Below 2 ds → Below 256 (pack ds)
  unfolding pack
  below_pack h = below_eights ((length ds + 7) / 8) filled (below_filled h) length_filled

  pub bits-pack : Below 2 ds → bits (pack ds) ≡ ds ++ replicate (fill_of (length ds)) 0
  unfolding pack
  bits-pack h = bits-eights ((length ds + 7) / 8) filled (below_filled h) length_filled

  -- bytes whose bits are these and the fill are these packed
  pub pack_is : (xs : List ℕ) → Below 256 xs → bits xs ≡ ds ++ replicate (fill_of (length ds)) 0 → pack ds ≡ xs
  unfolding pack
  pack_is xs h e =
      let k : length xs ≡ (length ds + 7) / 8 = omega (arith, length-bits xs, ap length e, length_filled) in
      ap₂ eights (sym k) (sym e) ∙ eights-bits xs h

pub pack-bits : (xs : List ℕ) → Below 256 xs → pack (bits xs) ≡ xs
pack-bits xs h =
    let f : fill_of (length (bits xs)) ≡ 0 = omega (arith, length-bits xs) in
    pack_is (bits xs) xs h (rw (f, append-nil))

-- bytes are known by their bits
pub bits-same : (xs ys : List ℕ) → Below 256 xs → Below 256 ys → bits xs ≡ bits ys → xs ≡ ys
bits-same xs ys h g e = sym (pack-bits xs h) ∙ ap pack e ∙ pack-bits ys g

-- the bits of a part of a list of bytes

module _ (xs : List ℕ) (k : ℕ) (k≤ : k ≤ length xs) where
  split : bits xs ≡ bits (take k xs) ++ bits (drop k xs)
  split = ap bits (sym (take-append-drop k xs)) ∙ bits-append (take k xs) (drop k xs)

  len : length (bits (take k xs)) ≡ 8 * k
  len = length-bits (take k xs) ∙ ap (λ (m : ℕ). 8 * m) (length-take-le k xs k≤)

  pub bits-take : bits (take k xs) ≡ take (8 * k) (bits xs)
  bits-take = sym (ap (take (8 * k)) split ∙ take_at (bits (take k xs)) (bits (drop k xs)) (8 * k) len)

  pub bits-drop : bits (drop k xs) ≡ drop (8 * k) (bits xs)
  bits-drop = sym (ap (drop (8 * k)) split ∙ drop_at (bits (take k xs)) (bits (drop k xs)) (8 * k) len)

-- the number x of eight bytes from k on
pub bits_eight : (xs : List ℕ) (k x : ℕ) → Below 256 xs → k + 8 ≤ length xs → x ≡ number_of 256 (take 8 (drop k xs)) → take 64 (drop (8 * k) (bits xs)) ≡ bits_of 64 x
bits_eight xs k x bytes room ex =
    let l = drop k xs in
    let n : length (take 8 l) ≡ 8 = length-take-le 8 l (omega (arith, length-drop k xs)) in
    ap (take 64) (sym (bits-drop xs k (omega arith))) ∙ sym (bits-take l 8 (omega (arith, length-drop k xs)))
    ∙ ap bits (sym (rw n at (digits_number 256 (take 8 l) (below_take 256 8 l (below_drop 256 k xs bytes)))) ∙ ap (bytes_of 8) (sym ex))
    ∙ bits_bytes 8 x

-- the bits from the offset `at` on
module _ (xs : List ℕ) (at : ℕ) where
  pub length_left : length (drop at (bits xs)) ≡ 8 * length xs - at
  length_left = omega (arith, length-drop at (bits xs), length-bits xs)

  pub below_left : Below 2 (drop at (bits xs))
  below_left = below_drop 2 at (bits xs) (below_bits xs)
