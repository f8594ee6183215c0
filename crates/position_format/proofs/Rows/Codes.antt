-- The code of a step by a table: the first row that holds it, what that row's code is, that it is bits, and how long it is.
use mathlib.Core.Bool.{Bool, true, false, cond, false≢true}
use mathlib.Core.List.{List, [], ◌∷◌}
use mathlib.Core.Path.{◌≡◌, refl, sym, ap, ◌∙◌}
use Prim.Native.Nat.{ℕ, zero, suc, ◌+◌, ◌≤◌, ◌<◌}
use native.Mathlib.Omega.{arith}
use borrow.Author.Tests.{lt-ltb, le-ltb, leb-true}
use lib.Dec.{leb, ltb}
use lib.IntN.{ℤ}
use lib.ListN.{length, get_or, length-append}
use Rattle.lists.specs.Below.{Below}
use Rattle.lists.specs.Compare.{both}
use Rattle.bits.specs.Digits.{bits_of}
use Rattle.lists.proofs.Below.{below_append}
use Rattle.bits.proofs.Digits.{below_digits, two⁺, length_digits}
use Rattle.lists.proofs.Compare.{both_true}
use Rattle.lists.specs.Lists.{first_index}
use Rattle.lists.proofs.Lists.{every, first_next, first_found, first_at, first_below}
use Rattle.position_format.specs.Rows.{Row, holds, in_table, residue, code_in, code_length, code, row_of, no_row}
use Rattle.lists.proofs.Lists.Tests.{every_at}
use Rattle.position_format.proofs.Rows.{good_table, good_bits}

-- ---- the first row that holds a step

in_table-row_next : (t b : Bool) (m n : ℕ) → (b ≡ true → m < n) → cond t true b ≡ true → cond t zero (suc m) < suc n
in_table-row_next true b m n f e = omega arith
in_table-row_next false b m n f e = let h : m < n = f e in omega arith

-- the table holds a step when there is such a row
pub in_table-row : (rs : List Row) (z : ℤ) → in_table rs z ≡ true → row_of rs z < length rs
unfolding in_table first_index
in_table-row [] z e = absurd (false≢true e)
in_table-row (r ∷ rs) z e = in_table-row_next (holds r z) (in_table rs z) (row_of rs z) (length rs) (in_table-row rs z) e

row-in_table_next : (t b : Bool) (m n : ℕ) → (m < n → b ≡ true) → cond t zero (suc m) < suc n → cond t true b ≡ true
row-in_table_next true b m n f h = refl
row-in_table_next false b m n f h = f (omega arith)

pub row-in_table : (rs : List Row) (z : ℤ) → row_of rs z < length rs → in_table rs z ≡ true
unfolding in_table first_index
row-in_table [] z h = absurd (omega arith)
row-in_table (r ∷ rs) z h = row-in_table_next (holds r z) (in_table rs z) (row_of rs z) (length rs) (row-in_table rs z) h

-- so the index tells whether it does
pub in_table-test : (rs : List Row) (z : ℤ) → ltb (row_of rs z) (length rs) ≡ in_table rs z
in_table-test rs z = go (in_table rs z) refl
  where
    go : (t : Bool) → in_table rs z ≡ t → ltb (row_of rs z) (length rs) ≡ t
    go true e = lt-ltb (row_of rs z) (length rs) (in_table-row rs z e)
    go false e =
        let n : (row_of rs z < length rs → ⊥) = λ h. false≢true (sym e ∙ row-in_table rs z h) in
        le-ltb (row_of rs z) (length rs) (omega arith)

-- by the test of row i, where no row before it holds z: it is the first, or a later one is
module _ (rs : List Row) (z : ℤ) (i : ℕ) (i≤ : i ≤ row_of rs z) where
  pub row-found : i < length rs → holds (get_or rs i no_row) z ≡ true → i ≡ row_of rs z
  row-found h e = sym (first_found (λ (r : Row). holds r z) no_row rs i h i≤ e)

  pub row_later : i < length rs → holds (get_or rs i no_row) z ≡ false → suc i ≤ row_of rs z
  row_later h e = first_next (λ (r : Row). holds r z) no_row rs i h i≤ e

module _ (d : Row) (z : ℤ) where
  -- it is the row of index i when that row holds z and no row before it does
  pub row_is : (rs : List Row) (i : ℕ) → i < length rs → holds (get_or rs i d) z ≡ true → ((j : ℕ) → j < i → holds (get_or rs j d) z ≡ false) → row_of rs z ≡ i
  row_is rs i h e f =
      let not-before : (row_of rs z < i → ⊥) = λ g. false≢true (sym (f (row_of rs z) g) ∙ first_at (λ (r : Row). holds r z) d rs (omega arith)) in
      let not_after : (i < row_of rs z → ⊥) = λ g. false≢true (sym (first_below (λ (r : Row). holds r z) d rs i g) ∙ e) in
      omega arith

  pub row-holds : (rs : List Row) → in_table rs z ≡ true → holds (get_or rs (row_of rs z) d) z ≡ true
  row-holds rs e = first_at (λ (r : Row). holds r z) d rs (in_table-row rs z e)

  lead : (r : Row) (rs : List Row) (c : List ℕ) (b t : Bool) (m : ℕ) → (b ≡ true → c ≡ code_in (get_or rs m d) z)
      → cond t true b ≡ true → cond t (code_in r z) c ≡ code_in (get_or (r ∷ rs) (cond t zero (suc m)) d) z
  lead r rs c b true m f e = refl
  lead r rs c b false m f e = f e

  -- the code is by that row: its prefix, then its bits
  pub code_row : (rs : List Row) → in_table rs z ≡ true → code rs z ≡ code_in (get_or rs (row_of rs z) d) z
  unfolding in_table code first_index
  code_row [] e = absurd (false≢true e)
  code_row (r ∷ rs) e = lead r rs (code rs z) (in_table rs z) (holds r z) (row_of rs z) (code_row rs) e

  length_in : (r : Row) → length (code_in r z) ≡ code_length r
  length_in r = length-append r.prefix _ ∙ ap (λ (n : ℕ). length r.prefix + n) (length_digits 2 r.width (residue r.width z))

  pub length-code : (rs : List Row) → in_table rs z ≡ true → length (code rs z) ≡ code_length (get_or rs (row_of rs z) d)
  length-code rs e = ap length (code_row rs e) ∙ length_in (get_or rs (row_of rs z) d)

-- ---- its bits

-- each is 0 or 1
pub code_below : (rs : List Row) → good_table rs ≡ true → (z : ℤ) → in_table rs z ≡ true → Below 2 (code rs z)
code_below rs g z e =
    let r = get_or rs (row_of rs z) no_row in
    rw (code_row no_row z rs e)
    (below_append 2 r.prefix (bits_of r.width (residue r.width z))
    (good_bits no_row rs g (row_of rs z) (in_table-row rs z e))
    (below_digits 2 two⁺ r.width (residue r.width z)))

-- ---- how many they are

-- the test that each row's codes have from lo to hi bits
abbrev pub lengths : ℕ → ℕ → List Row → Bool
lengths lo hi rs = every (λ (r : Row). both (leb lo (code_length r)) (leb (code_length r) hi)) rs

pub row_within : (lo hi : ℕ) (rs : List Row) → lengths lo hi rs ≡ true → (i : ℕ) → i < length rs → (lo ≤ code_length (get_or rs i no_row)) × (code_length (get_or rs i no_row) ≤ hi)
row_within lo hi rs g i h =
    let n = code_length (get_or rs i no_row) in
    let p = both_true (leb lo n) (leb n hi) (every_at (λ (r : Row). both (leb lo (code_length r)) (leb (code_length r) hi)) rs no_row g i h) in
    (leb-true lo n p.0, leb-true n hi p.1)

pub code_within : (lo hi : ℕ) (rs : List Row) → lengths lo hi rs ≡ true → (z : ℤ) → in_table rs z ≡ true → (lo ≤ length (code rs z)) × (length (code rs z) ≤ hi)
code_within lo hi rs g z e = rw (length-code no_row z rs e) (row_within lo hi rs g (row_of rs z) (in_table-row rs z e))
