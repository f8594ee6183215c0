-- Laws of bits at the top of a word: parts of the word as parts of its bits, eight bytes shifted, and bits ahead.
use mathlib.Core.Bool.{Bool, true, false}
use mathlib.Core.List.{List, [], ◌∷◌, ◌++◌, append-nil}
use mathlib.Core.Path.{◌≡◌, refl, sym, ap, ap₂, ◌∙◌}
use Prim.Native.Nat.{ℕ, zero, suc, ◌+◌, ◌-◌, ◌*◌, ◌/◌, ◌%◌, ◌^◌, ◌≤◌, ◌<◌}
use native.Mathlib.Nat.{suc-add}
use native.Mathlib.Omega.{arith}
use borrow.Author.Tests.{leb-true, leb-false}
use lib.Dec.{leb}
use lib.ListN.{length, take, drop, replicate, length-take}
use lib.Pow.{shl-shr}
use lib.Seq.{drop-drop, take-nil, take-take, take_all, take-append-le, take-append-add}
use Rattle.lists.specs.Below.{Below}
use Rattle.bits.specs.Digits.{bits_of, number_of}
use Rattle.bits.specs.Packing.{bits, ahead}
use Rattle.bits.proofs.Digits.{two⁺, digits_zero, digits_append, take_digits, drop_digits, digits_low, digits_of_mod, number_digits}
use Rattle.bits.proofs.Packing.{bits_eight, length_left}

drop-take : (p k : ℕ) (l : List ℕ) → drop p (take (p + k) l) ≡ take k (drop p l)
drop-take zero k l = let e : 0 + k ≡ k = omega arith in ap (λ (n : ℕ). take n l) e
drop-take (suc p) k [] = rw suc-add (sym (take-nil k))
drop-take (suc p) k (x ∷ l) = rw suc-add (drop-take p k l)

-- ---- bits ahead

-- as many as there are
pub ahead_many : (n : ℕ) (ds : List ℕ) → n ≤ length ds → ahead n ds ≡ take n ds
ahead_many n ds h = let z : n - length ds ≡ 0 = omega arith in ap (λ (m : ℕ). take n ds ++ replicate m 0) z ∙ append-nil (take n ds)

-- the first q of them
pub take-ahead : (q n : ℕ) (ds : List ℕ) → q ≤ n → q ≤ length ds → take q (ahead n ds) ≡ take q ds
take-ahead q n ds h g = take-append-le q (take n ds) (replicate (n - length ds) 0) (rw length-take (omega arith)) ∙ take-take q n ds h

take-zeros : (q n : ℕ) → q ≤ n → take {A = ℕ} q (replicate n 0) ≡ replicate q 0
take-zeros zero n h = refl
take-zeros (suc q) zero h = absurd (omega arith)
take-zeros (suc q) (suc n) h = ap (λ (l : List ℕ). 0 ∷ l) (take-zeros q n (omega arith))

pub ahead-ahead : (q n : ℕ) (ds : List ℕ) → q ≤ n → take q (ahead n ds) ≡ ahead q ds
ahead-ahead q n ds h = go (leb q (length ds)) refl
  where
    go : (t : Bool) → leb q (length ds) ≡ t → take q (ahead n ds) ≡ ahead q ds
    go true e = let g : q ≤ length ds = leb-true q (length ds) e in take-ahead q n ds h g ∙ sym (ahead_many q ds g)
    go false e =
        let g : length ds < q = leb-false q (length ds) e in
        let k : length ds + (q - length ds) ≡ q = omega arith in
        ap₂ (λ (m : ℕ) (l : List ℕ). take m (l ++ replicate (n - length ds) 0)) (sym k) (take_all n ds (omega arith))
        ∙ take-append-add ds (replicate (n - length ds) 0) (q - length ds)
        ∙ ap₂ (λ (l r : List ℕ). l ++ r) (sym (take_all q ds (omega arith))) (take-zeros (q - length ds) (n - length ds) (omega arith))

-- ---- the parts of a word

module _ (w : ℕ) where
  -- the first i bits
  pub word_first : (i : ℕ) → i ≤ 64 → take i (bits_of 64 w) ≡ bits_of i (w / 2 ^ (64 - i))
  word_first i h = let e : i + (64 - i) ≡ 64 = omega arith in ap (λ (n : ℕ). take i (bits_of n w)) (sym e) ∙ take_digits 2 i (64 - i) w

  -- the k bits after the first p
  word_field : (p k : ℕ) → p + k ≤ 64 → number_of 2 (take k (drop p (bits_of 64 w))) ≡ w / 2 ^ (64 - (p + k)) % 2 ^ k
  word_field p k h =
      ap (number_of 2) (sym (drop-take p k (bits_of 64 w)) ∙ ap (drop p) (word_first (p + k) h) ∙ drop_digits 2 p k (w / 2 ^ (64 - (p + k))))
      ∙ number_digits two⁺ k (w / 2 ^ (64 - (p + k)))

  -- the word begins with the first m of the bits ds, with 0 bits past their end
  module _ (m : ℕ) (m≤ : m ≤ 64) (ds : List ℕ) (alike : take m (bits_of 64 w) ≡ ahead m ds) where
    first : (n : ℕ) → n ≤ m → n ≤ length ds → take n (bits_of 64 w) ≡ take n ds
    first n h g = sym (take-take n m (bits_of 64 w) h) ∙ ap (take n) alike ∙ take-ahead n m ds h g

    -- a field of these, after p others
    pub ahead_field : (p k : ℕ) → p + k ≤ m → p + k ≤ length ds → number_of 2 (take k (drop p ds)) ≡ w / 2 ^ (64 - (p + k)) % 2 ^ k
    ahead_field p k h g =
        ap (number_of 2) (sym (drop-take p k ds) ∙ ap (drop p) (sym (first (p + k) h g)) ∙ drop-take p k (bits_of 64 w))
        ∙ word_field p k (omega arith)

    -- the first q of them
    pub ahead-first : (q : ℕ) → q ≤ m → bits_of q (w / 2 ^ (64 - q)) ≡ ahead q ds
    ahead-first q h = sym (word_first q (omega arith)) ∙ sym (take-take q m (bits_of 64 w) h) ∙ ap (take q) alike ∙ ahead-ahead q m ds h

-- ---- eight bytes as one word, and s of its bits shifted out

module _ (xs : List ℕ) (bytes : Below 256 xs) (from s x : ℕ) (room : from + 8 ≤ length xs) (s< : s < 64) (ex : x ≡ number_of 256 (take 8 (drop from xs))) where
  abbrev ds : List ℕ
  ds = drop (8 * from + s) (bits xs)

  abbrev moved : ℕ
  moved = x * 2 ^ s % 2 ^ 64

  rest : bits_of (64 - s) x ≡ take (64 - s) ds
  rest =
      let e : s + (64 - s) ≡ 64 = omega arith in
      sym (drop_digits 2 s (64 - s) x)
      ∙ ap (drop s) (ap (λ (m : ℕ). bits_of m x) e ∙ sym (bits_eight xs from x bytes room ex) ∙ ap (λ (m : ℕ). take m (drop (8 * from) (bits xs))) (sym e))
      ∙ drop-take s (64 - s) (drop (8 * from) (bits xs))
      ∙ ap (take (64 - s)) (drop-drop s (8 * from) (bits xs))

  moved_bits : bits_of 64 moved ≡ take (64 - s) ds ++ replicate s 0
  moved_bits =
      let e : (64 - s) + s ≡ 64 = omega arith in
      let z : x * 2 ^ s ≡ x * 2 ^ s + 0 = omega arith in
      digits_of_mod two⁺ 64 (x * 2 ^ s) ∙ ap (λ (m : ℕ). bits_of m (x * 2 ^ s)) (sym e) ∙ digits_append 2 (64 - s) s (x * 2 ^ s)
      ∙ ap₂ (λ (a b : List ℕ). a ++ b) (ap (bits_of (64 - s)) (shl-shr x s) ∙ rest) (ap (bits_of s) z ∙ digits_low two⁺ s x 0 ∙ digits_zero 2 s)

  left : length ds ≡ 8 * length xs - (8 * from + s)
  left = length_left xs (8 * from + s)

  -- as many as are left in them
  pub moved_front : (m : ℕ) → m ≤ 64 - s → take m (bits_of 64 moved) ≡ ahead m ds
  moved_front m h =
      ap (take m) moved_bits
      ∙ take-append-le m (take (64 - s) ds) (replicate s 0) (rw length-take (omega (arith, left)))
      ∙ take-take m (64 - s) ds h ∙ sym (ahead_many m ds (omega (arith, left)))

  -- or there are no others
  pub moved_last : from + 8 ≡ length xs → (m : ℕ) → m ≤ 64 → take m (bits_of 64 moved) ≡ ahead m ds
  moved_last e m h =
      let k : length ds ≡ 64 - s = omega (arith, left) in
      let z : s ≡ 64 - length ds = omega arith in
      ap (take m)
      (moved_bits ∙ ap₂ (λ (d : List ℕ) (j : ℕ). d ++ replicate j 0) (take_all (64 - s) ds (omega arith) ∙ sym (take_all 64 ds (omega arith))) z)
      ∙ ahead-ahead m 64 ds h
