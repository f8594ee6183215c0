-- The rows of a table: what the coding needs of them as a test, and that a row's bits give the step back.
pub mod Signs
pub mod Codes
pub mod Extended
pub mod Decoding
pub mod Prefixes
pub mod Ranges
use mathlib.Core.Bool.{Bool, true, false, cond, not}
use mathlib.Core.List.{List, [], ◌∷◌}
use mathlib.Core.Path.{◌≡◌, refl, sym, ap, ap₂, ◌∙◌}
use Prim.Native.Nat.{ℕ, zero, suc, ◌+◌, ◌-◌, ◌%◌, ◌^◌, ◌≤◌, ◌<◌}
use native.Mathlib.Nat.{mod-lt, mod-eq_of_lt}
use native.Mathlib.Omega.{arith}
use borrow.Author.Tests.{le-leb, lt-leb, ltb-true, leb-true, leb-false, eqb-true}
use lib.Dec.{leb, ltb, eqb}
use lib.IntN.{ℤ, pos, negsuc, nat_abs, ◌-ℤ◌}
use lib.ListN.{length, get_or}
use lib.Pow.{pow_pos, pow-sub-lt}
use lib.Signed.{le_z}
use Rattle.lists.specs.Below.{Below}
use Rattle.lists.specs.Compare.{both, begins}
use Rattle.lists.proofs.Compare.{both_true}
use Rattle.lists.proofs.Lists.{every, every_cons}
use Rattle.position_format.specs.Rows.{Row, neg, holds, residue, reading}
use Rattle.integers.proofs.Integers.{diff_neg}
use Rattle.position_format.proofs.Rows.Signs.{at_least, at_most, neg-holds, neg_le_pos, neg_le_neg}

-- ---- the test

-- every bit is 0 or 1
abbrev pub are_bits : List ℕ → Bool
are_bits ds = every (λ (d : ℕ). ltb d 2) ds

-- the row holds 2 ^ width numbers, and 0 is one of them
abbrev pub full : Row → Bool
full r = both (both (le_z r.low (pos 0)) (le_z (pos 0) r.high)) (eqb (suc (nat_abs r.low + nat_abs r.high)) (2 ^ r.width))

-- neither begins with the other
abbrev pub apart : List ℕ → List ℕ → Bool
apart p q = both (not (begins p q)) (not (begins q p))

-- what each row needs by itself
abbrev pub good_row : Row → Bool
good_row r = both (are_bits r.prefix) (full r)

-- every row has what it needs, and no prefix is a beginning of another row's prefix
unfoldable pub good_table : List Row → Bool
good_table [] = true
good_table (r ∷ rs) = both (good_row r) (both (every (λ (s : Row). apart r.prefix s.prefix) rs) (good_table rs))

-- ---- its parts

bits_below : (ds : List ℕ) → are_bits ds ≡ true → Below 2 ds
unfolding Below
bits_below [] e = tt
bits_below (b ∷ ds) e =
    let p = every_cons (λ (x : ℕ). ltb x 2) b ds e in
    (ltb-true b 2 p.0, bits_below ds p.1)

-- the first row, the rows after it, and that their prefixes are apart
pub record Good (r : Row) (rs : List Row) : Type 0 where
  pub bits : are_bits r.prefix ≡ true
  pub full : full r ≡ true
  pub apart : every (λ (s : Row). apart r.prefix s.prefix) rs ≡ true
  pub rest : good_table rs ≡ true

pub good_cons : (r : Row) (rs : List Row) → good_table (r ∷ rs) ≡ true → Good r rs
unfolding good_table
good_cons r rs e =
    let p = both_true (good_row r) _ e in
    let q = both_true (are_bits r.prefix) _ p.0 in
    let s = both_true (every (λ (s : Row). apart r.prefix s.prefix) rs) _ p.1 in
    record { bits = q.0; full = q.1; apart = s.0; rest = s.1 }

module _ (d : Row) where
  -- each row passes its own tests
  pub good_full : (rs : List Row) → good_table rs ≡ true → (i : ℕ) → i < length rs → full (get_or rs i d) ≡ true
  good_full [] e i h = absurd (omega arith)
  good_full (r ∷ rs) e zero h = (good_cons r rs e).full
  good_full (r ∷ rs) e (suc i) h = good_full rs (good_cons r rs e).rest i (omega arith)

  pub good_bits : (rs : List Row) → good_table rs ≡ true → (i : ℕ) → i < length rs → Below 2 (get_or rs i d).prefix
  good_bits [] e i h = absurd (omega arith)
  good_bits (r ∷ rs) e zero h = bits_below r.prefix (good_cons r rs e).bits
  good_bits (r ∷ rs) e (suc i) h = good_bits rs (good_cons r rs e).rest i (omega arith)

-- a row that holds 2 ^ width numbers, none of its ends on the other side of 0
pub record Full (r : Row) : Type 0 where
  pub low : r.low ≡ neg (nat_abs r.low)
  pub high : r.high ≡ pos (nat_abs r.high)
  pub size : suc (nat_abs r.low + nat_abs r.high) ≡ 2 ^ r.width

pub full_is : (r : Row) → full r ≡ true → Full r
full_is r e =
    let p = both_true (both (le_z r.low (pos 0)) (le_z (pos 0) r.high)) _ e in
    let q = both_true (le_z r.low (pos 0)) _ p.0 in
    record {
      low = at_most r.low q.0;
      high = at_least r.high q.1;
      size = eqb-true (suc (nat_abs r.low + nat_abs r.high)) (2 ^ r.width) p.1;
    }

-- ---- residues and readings

pub residue_lt : (k : ℕ) (z : ℤ) → residue k z < 2 ^ k
residue_lt k (pos n) = mod-lt n (pow_pos k)
residue_lt k (negsuc n) = pow-sub-lt k (omega arith)

-- a row of w bits from -l to h, and 2 ^ w is m
module _ (l h m : ℕ) (size : suc (l + h) ≡ m) where
  abbrev read : ℕ → ℤ
  read x = cond (le_z (pos x) (pos h)) (pos x) (pos x -ℤ pos m)

  read_low : (n : ℕ) → n ≤ h → read n ≡ pos n
  read_low n g = ap (λ (t : Bool). cond t (pos n) (pos n -ℤ pos m)) (le-leb n h g)

  read_high : (n : ℕ) → n < l → read (m - suc n) ≡ negsuc n
  read_high n g =
      let e : m - suc (m - suc n) ≡ n = omega arith in
      ap (λ (t : Bool). cond t (pos (m - suc n)) (pos (m - suc n) -ℤ pos m)) (lt-leb (m - suc n) h (omega arith))
      ∙ diff_neg (m - suc n) m (omega arith) ∙ ap negsuc e

  read_back : (w : ℕ) → 2 ^ w ≡ m → (z : ℤ) → le_z (neg l) z ≡ true → le_z z (pos h) ≡ true → read (residue w z) ≡ z
  read_back w e (pos n) p q =
      let n≤ : n ≤ h = leb-true n h q in
      let r : n % 2 ^ w ≡ n = mod-eq_of_lt (omega arith) in
      ap read r ∙ read_low n n≤
  read_back w e (negsuc n) p q =
      let n< : n < l = neg-holds l n p in
      let r : n % 2 ^ w ≡ n = mod-eq_of_lt (omega arith) in
      ap (λ (x : ℕ). read (2 ^ w - suc x)) r ∙ ap (λ (x : ℕ). read (x - suc n)) e ∙ read_high n n<

  -- the row holds what a number below 2 ^ w is read as, and its residue is that number
  module _ (x : ℕ) (x< : x < m) where
    read_above : h < x → read x ≡ negsuc (m - suc x)
    read_above g = ap (λ (t : Bool). cond t (pos x) (pos x -ℤ pos m)) (lt-leb x h g) ∙ diff_neg x m x<

    read_held : both (le_z (neg l) (read x)) (le_z (read x) (pos h)) ≡ true
    read_held = go (leb x h) refl
      where
        go : (t : Bool) → leb x h ≡ t → both (le_z (neg l) (read x)) (le_z (read x) (pos h)) ≡ true
        go true e =
            let g : x ≤ h = leb-true x h e in
            rw (read_low x g, neg_le_pos l x, e)
        go false e =
            let g : h < x = leb-false x h e in
            rw (read_above g, neg_le_neg l (m - suc x) (omega arith))

    read_residue : (w : ℕ) → 2 ^ w ≡ m → residue w (read x) ≡ x
    read_residue w p = go (leb x h) refl
      where
        go : (t : Bool) → leb x h ≡ t → residue w (read x) ≡ x
        go true e = ap (residue w) (read_low x (leb-true x h e)) ∙ mod-eq_of_lt (omega arith)
        go false e =
            let r : (m - suc x) % 2 ^ w ≡ m - suc x = mod-eq_of_lt (omega arith) in
            let g : h < x = leb-false x h e in
            let u : 2 ^ w - suc (m - suc x) ≡ x = omega arith in
            ap (residue w) (read_above g) ∙ ap (λ (y : ℕ). 2 ^ w - suc y) r ∙ u

-- ---- of a row

module _ (r : Row) (good : full r ≡ true) where
  abbrev l : ℕ
  l = nat_abs r.low

  abbrev h : ℕ
  h = nat_abs r.high

  f : Full r
  f = full_is r good

  -- by the absolute values of its ends
  pub reading_ends : (x : ℕ) → reading r x ≡ cond (le_z (pos x) (pos h)) (pos x) (pos x -ℤ pos (2 ^ r.width))
  reading_ends x = ap (λ (z : ℤ). cond (le_z (pos x) z) (pos x) (pos x -ℤ pos (2 ^ r.width))) f.high

  pub holds_ends : (z : ℤ) → holds r z ≡ both (le_z (neg l) z) (le_z z (pos h))
  holds_ends z = ap₂ (λ (u v : ℤ). both (le_z u z) (le_z z v)) f.low f.high

  -- the reading of a step's bits is the step
  pub reading-residue : (z : ℤ) → holds r z ≡ true → reading r (residue r.width z) ≡ z
  reading-residue z e =
      let p = both_true (le_z (neg l) z) _ (sym (holds_ends z) ∙ e) in
      reading_ends (residue r.width z) ∙ read_back l h (2 ^ r.width) f.size r.width refl z p.0 p.1

  -- the row holds what its bits are read as
  pub reading-held : (x : ℕ) → x < 2 ^ r.width → holds r (reading r x) ≡ true
  reading-held x x< = ap (holds r) (reading_ends x) ∙ holds_ends (read l h (2 ^ r.width) f.size x) ∙ read_held l h (2 ^ r.width) f.size x x<

  -- and the bits are those of what they are read as
  pub residue-reading : (x : ℕ) → x < 2 ^ r.width → residue r.width (reading r x) ≡ x
  residue-reading x x< = ap (residue r.width) (reading_ends x) ∙ read_residue l h (2 ^ r.width) f.size x x< r.width refl
