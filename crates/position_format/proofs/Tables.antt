-- The test of a table: all that the laws of coding, and the codec, ask of one. The checker computes it once for the table of each form.
pub mod WideRows
use mathlib.Core.Bool.{Bool, true, false}
use mathlib.Core.List.{List, [], ◌∷◌}
use mathlib.Core.Path.{◌≡◌, refl, ap}
use Prim.Native.Nat.{ℕ, ◌^◌, ◌≤◌, ◌<◌}
use native.Mathlib.Omega.{arith}
use borrow.Author.Tests.{eqb-true, leb-true, ltb-true}
use lib.Dec.{ltb, leb, eqb}
use lib.IntN.{pos, nat_abs}
use lib.ListN.{length, get_or}
use Rattle.lists.specs.Compare.{both, begins, same}
use Rattle.lists.specs.Lists.{first_index}
use Rattle.lists.proofs.Compare.{both_true, same_is}
use Rattle.lists.proofs.Lists.{every}
use Rattle.bits.specs.Digits.{digits_of, bits_of}
use Rattle.position_format.specs.declared.Form.{Form}
use Rattle.position_format.specs.declared.Form.TheVariants.{Old, Wide}
use Rattle.position_format.specs.Rows.{Row, rows, wide_rows, holds, reading, code, no_row, row_of}
use Rattle.position_format.specs.Tables.{table_of}
use Rattle.lists.proofs.Lists.Tests.{every_at}
use Rattle.position_format.proofs.Rows.{good_table, full, good_cons, full_is, holds_ends, reading_ends}
use Rattle.position_format.proofs.Rows.Codes.{lengths}
use Rattle.position_format.proofs.Rows.Ranges.{widening, even_up_to}

-- ---- the test

-- prefixes have at most q bits
abbrev pub short_prefixes : ℕ → List Row → Bool
short_prefixes q rs = every (λ (r : Row). leb (length r.prefix) q) rs

-- the first row has the prefix 0 and no bits after it
abbrev zero_first : List Row → Bool
zero_first [] = false
zero_first (r ∷ rs) = both (same r.prefix (0 ∷ [])) (eqb r.width 0)

-- a row's bits and both its ends fit a word of 64 bits
abbrev fits_word : Row → Bool
fits_word r = both (leb r.width 64) (both (ltb (nat_abs r.high) (2 ^ 63)) (leb (nat_abs r.low) (2 ^ 63)))

-- codes have at most m bits, prefixes at most 5, and rows of at most 57 bits are even around 0
abbrev sound_table : ℕ → List Row → Bool
sound_table m rs =
    both (both (good_table rs) (widening rs))
    (both (both (lengths 1 m rs) (short_prefixes 5 rs)) (both (both (even_up_to 57 rs) (zero_first rs)) (every fits_word rs)))

-- the most bits of a code in each form
abbrev pub most_bits : Form → ℕ
most_bits Old = 36
most_bits Wide = 69

table_passes : (f : Form) → sound_table (most_bits f) (table_of f) ≡ true
unfolding good_table widening rows wide_rows begins same
table_passes Old = refl
table_passes Wide = refl

-- ---- its parts

pub record TableSound (m : ℕ) (rs : List Row) : Type 0 where
  pub good : good_table rs ≡ true
  pub widens : widening rs ≡ true
  pub lengths : lengths 1 m rs ≡ true
  pub short : short_prefixes 5 rs ≡ true
  pub even : even_up_to 57 rs ≡ true
  pub zero_first_lem : zero_first rs ≡ true
  pub words : every fits_word rs ≡ true

pub form_sound : (f : Form) → TableSound (most_bits f) (table_of f)
form_sound f =
    let rs = table_of f in
    let p = both_true (both (good_table rs) (widening rs)) _ (table_passes f) in
    let a = both_true (good_table rs) _ p.0 in
    let q = both_true (both (lengths 1 (most_bits f) rs) (short_prefixes 5 rs)) _ p.1 in
    let b = both_true (lengths 1 (most_bits f) rs) _ q.0 in
    let c = both_true (both (even_up_to 57 rs) (zero_first rs)) _ q.1 in
    let d = both_true (even_up_to 57 rs) _ c.0 in
    record { good = a.0; widens = a.1; lengths = b.0; short = b.1; even = d.0; zero_first_lem = d.1; words = c.1 }

pub table_good : (f : Form) → good_table (table_of f) ≡ true
table_good f = (form_sound f).good

pub prefix_short : (q : ℕ) (rs : List Row) → short_prefixes q rs ≡ true → (i : ℕ) → i < length rs → length (get_or rs i no_row).prefix ≤ q
prefix_short q rs e i h = leb-true (length (get_or rs i no_row).prefix) q (every_at (λ (r : Row). leb (length r.prefix) q) rs no_row e i h)

pub record FitsWord (r : Row) : Type 0 where
  pub narrow : r.width ≤ 64
  pub high_fits : nat_abs r.high < 2 ^ 63
  pub low_fits : nat_abs r.low ≤ 2 ^ 63

pub row_words : (rs : List Row) → every fits_word rs ≡ true → (i : ℕ) → i < length rs → FitsWord (get_or rs i no_row)
row_words rs e i h =
    let p = both_true (leb (get_or rs i no_row).width 64) _ (every_at fits_word rs no_row e i h) in
    let q = both_true (ltb (nat_abs (get_or rs i no_row).high) (2 ^ 63)) _ p.1 in
    record { narrow = leb-true _ _ p.0; high_fits = ltb-true _ _ q.0; low_fits = leb-true _ _ q.1 }

-- ---- the step 0

-- the first row is that of the step 0, and its code is one bit
pub record Zero (rs : List Row) : Type 0 where
  pub nonempty : 0 < length rs
  pub width : (get_or rs 0 no_row).width ≡ 0
  pub reads : reading (get_or rs 0 no_row) 0 ≡ pos 0
  pub first : row_of rs (pos 0) ≡ 0
  pub code : bits_of 1 0 ≡ code rs (pos 0)

pub zero_row : (m : ℕ) (rs : List Row) → TableSound m rs → Zero rs
unfolding first_index code digits_of
zero_row m [] s = absurd (let z : ◌≡◌ {A = ℕ} 0 1 = cc s.zero_first_lem in omega arith)
zero_row m (r ∷ rs) s =
    let p = both_true (same r.prefix (0 ∷ [])) _ s.zero_first_lem in
    let w : r.width ≡ 0 = eqb-true r.width 0 p.1 in
    let x : r.prefix ≡ 0 ∷ [] = same_is r.prefix (0 ∷ []) p.0 in
    let g : full r ≡ true = (good_cons r rs s.good).full in
    let f = full_is r g in
    let one : 2 ^ r.width ≡ 1 = ap (λ (k : ℕ). 2 ^ k) w in
    let low : nat_abs r.low ≡ 0 = omega (arith, f.size) in
    let high : nat_abs r.high ≡ 0 = omega (arith, f.size) in
    let held : holds r (pos 0) ≡ true = rw (holds_ends r g (pos 0), low, high) in
    record {
      nonempty = omega arith;
      width = w;
      reads = rw (reading_ends r g 0, high);
      first = rw held;
      code = rw (held, x, w);
    }
