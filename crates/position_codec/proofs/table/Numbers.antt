-- The numbers in the code are those of the tables' rows. The checker computes this: ranges and widths once, of the wide table, which has every
-- row; prefixes and leads for each table.
use mathlib.Core.Bool.{Bool, true, false, cond}
use mathlib.Core.List.{List, [], ◌∷◌}
use mathlib.Core.Path.{◌≡◌, refl, ap, ◌∙◌}
use Prim.Native.Nat.{ℕ, zero, suc, ◌-◌, ◌/◌, ◌^◌, ◌≤◌, ◌<◌}
use native.Mathlib.Omega.{arith}
use borrow.Author.Tests.{ltb-true, leb-true, le-ltb, lt-ltb, eq-eqb, ne_eqb, eqb-true, eqb-false}
use lib.Dec.{ltb, leb, eqb}
use lib.IntN.{ℤ, pos, negsuc, nat_abs}
use lib.ListN.{length, get_or}
use mir.Syntax.{w64}
use mir.Val.{to_z, of_z}
use Rattle.lists.specs.Compare.{both, begins, same}
use Rattle.lists.proofs.Compare.{both_true, same_is}
use Rattle.bits.specs.Digits.{digits_of, bits_of, byte_of}
use Rattle.position_format.specs.declared.Form.{Form}
use Rattle.position_format.specs.declared.Form.TheVariants.{Old, Wide}
use Rattle.position_format.specs.Rows.{Row, rows, wide_rows, code_length, no_row}
use Rattle.position_format.specs.Tables.{table_of}
use Rattle.position_format.proofs.Rows.{good_full, full_is}
use Rattle.position_format.proofs.Tables.{form_sound, FitsWord, row_words}
use Rattle.position_format.proofs.Tables.WideRows.{rows_count, wide_count}
use Rattle.position_codec.specs.Codes.{PrefixIs}
use Rattle.position_codec.specs.Found.{Leads}
use Rattle.position_codec.proofs.table.Residues.{Fitted}

-- a test of every number below a bound
abbrev all_below : ℕ → (ℕ → Bool) → Bool
all_below zero q = true
all_below (suc n) q = both (q n) (all_below n q)

all_at : (n : ℕ) (q : ℕ → Bool) → all_below n q ≡ true → (i : ℕ) → i < n → q i ≡ true
all_at zero q e i h = absurd (omega arith)
all_at (suc n) q e i h =
    let p = both_true (q n) (all_below n q) e in
    go (eqb i n) refl p.0 (λ l. all_at n q p.1 i l)
  where
    go : (t : Bool) → eqb i n ≡ t → q n ≡ true → (i < n → q i ≡ true) → q i ≡ true
    go true s f g = rw (eqb-true i n s) f
    go false s f g = g (omega (arith, eqb-false i n s))

-- ---- the range and the width of each row, as the code has them

abbrev pub lows : List ℤ
lows = pos 0 ∷ negsuc 62 ∷ negsuc 254 ∷ negsuc 2046 ∷ negsuc 2147483646 ∷ negsuc 9223372036854775807 ∷ []

abbrev pub highs : List ℤ
highs = pos 0 ∷ pos 64 ∷ pos 256 ∷ pos 2048 ∷ pos 2147483648 ∷ pos 9223372036854775807 ∷ []

-- the range of a row, how many bits follow its prefix, and that its ends fit 64 bits
pub record Ranged (i : ℕ) (low high : ℤ) (width : ℕ) : Type 0 where
  pub low_is : low ≡ (get_or wide_rows i no_row).low
  pub high_is : high ≡ (get_or wide_rows i no_row).high
  pub wide : width ≡ (get_or wide_rows i no_row).width
  pub low_back : to_z w64 (of_z w64 (get_or wide_rows i no_row).low) ≡ (get_or wide_rows i no_row).low
  pub high_back : to_z w64 (of_z w64 (get_or wide_rows i no_row).high) ≡ (get_or wide_rows i no_row).high

pub ranged : (i : ℕ) → i < 6 → Ranged i (to_z w64 (of_z w64 (get_or lows i (pos 0)))) (to_z w64 (of_z w64 (get_or highs i (pos 0)))) (byte_of 70506385049344 i)
unfolding wide_rows rows
ranged zero h = record { low_is = refl; high_is = refl; wide = refl; low_back = refl; high_back = refl }
ranged (suc zero) h = record { low_is = refl; high_is = refl; wide = refl; low_back = refl; high_back = refl }
ranged (suc (suc zero)) h = record { low_is = refl; high_is = refl; wide = refl; low_back = refl; high_back = refl }
ranged (suc (suc (suc zero))) h = record { low_is = refl; high_is = refl; wide = refl; low_back = refl; high_back = refl }
ranged (suc (suc (suc (suc zero)))) h = record { low_is = refl; high_is = refl; wide = refl; low_back = refl; high_back = refl }
ranged (suc (suc (suc (suc (suc zero))))) h = record { low_is = refl; high_is = refl; wide = refl; low_back = refl; high_back = refl }
ranged (suc (suc (suc (suc (suc (suc i)))))) h = absurd (omega arith)

-- they fit a word
pub row_fits : (i : ℕ) → i < 6 → FitsWord (get_or wide_rows i no_row)
row_fits i h = row_words wide_rows (form_sound Wide).words i (omega (arith, wide_count))

-- its top is a number, and every number that its bits can be is in reach
pub fitted : (i : ℕ) → i < 6 → Fitted (get_or wide_rows i no_row) (nat_abs (get_or wide_rows i no_row).high)
fitted i h =
    let full_row = good_full no_row wide_rows (form_sound Wide).good i (omega (arith, h, wide_count)) in
    let w = row_fits i h in
    record {
      full = full_row;
      width = w.narrow;
      high = (full_is (get_or wide_rows i no_row) full_row).high;
      high_fits = w.high_fits;
      low_fits = w.low_fits;
    }

-- the top as the code reads it
pub top_at : (i : ℕ) → i < 6 → (y : ℤ) → y ≡ (get_or wide_rows i no_row).high → to_z w64 (of_z w64 y) ≡ pos (nat_abs (get_or wide_rows i no_row).high)
top_at i h y e = ap (λ (z : ℤ). to_z w64 (of_z w64 z)) e ∙ (ranged i h).high_back ∙ (fitted i h).high

-- ---- the prefixes, and the row that five bits lead to, of each table

-- the words of the prefixes and of their lengths
abbrev values_of : Form → ℕ
values_of Old = 64659784192
values_of Wide = 34213944754688

abbrev lens_of : Form → ℕ
lens_of Old = 17247175169
lens_of Wide = 5519100281345

abbrev is_prefix : Row → ℕ → ℕ → Bool
is_prefix r x p = both (both (ltb 0 p) (leb p 64)) (both (ltb x (2 ^ p)) (same r.prefix (bits_of p x)))

-- the words of the rows and of the codes' lengths, after a first bit 1, by the three bits after it
abbrev lead_rows : ℕ
lead_rows = 289077008711876865

abbrev lead_lengths : Form → ℕ
lead_lengths Old = 2598590230823504137
lead_lengths Wide = 2670647824861432073

-- but five bits 1 of the wide table
abbrev row_by : Form → ℕ → ℕ
row_by Old j = byte_of lead_rows (j / 2 - 8)
row_by Wide j = cond (eqb j 31) 5 (byte_of lead_rows (j / 2 - 8))

abbrev len_by : Form → ℕ → ℕ
len_by Old j = byte_of (lead_lengths Old) (j / 2 - 8)
len_by Wide j = cond (eqb j 31) 69 (byte_of (lead_lengths Wide) (j / 2 - 8))

-- the row i leads the five bits of j, and its codes have n bits
abbrev leads : Form → ℕ → ℕ → ℕ → Bool
leads f j i n = both (both (ltb i (length (table_of f))) (begins (get_or (table_of f) i no_row).prefix (bits_of 5 j))) (eqb n (code_length (get_or (table_of f) i no_row)))

-- after a first bit 0 it is the first row, with codes of one bit, and else another
abbrev leads_at : Form → ℕ → Bool
leads_at f j = cond (ltb j 16) (leads f j 0 1) (both (ltb 0 (row_by f j)) (leads f j (row_by f j) (len_by f j)))

abbrev numbers_of : Form → Bool
numbers_of f = both (all_below (length (table_of f)) (λ (i : ℕ). is_prefix (get_or (table_of f) i no_row) (byte_of (values_of f) i) (byte_of (lens_of f) i))) (all_below 32 (leads_at f))

numbers_are : (f : Form) → numbers_of f ≡ true
unfolding rows wide_rows begins same digits_of
numbers_are Old = refl
numbers_are Wide = refl

-- ---- its parts

prefix_at : (f : Form) (i : ℕ) → i < length (table_of f) → PrefixIs (get_or (table_of f) i no_row) (byte_of (values_of f) i) (byte_of (lens_of f) i)
prefix_at f i h =
    let n = length (table_of f) in
    let x = byte_of (values_of f) i in
    let p = byte_of (lens_of f) i in
    let all = (both_true (all_below n (λ (j : ℕ). is_prefix (get_or (table_of f) j no_row) (byte_of (values_of f) j) (byte_of (lens_of f) j))) _ (numbers_are f)).0 in
    let t = both_true (both (ltb 0 p) (leb p 64)) _ (all_at n _ all i h) in
    let a = both_true (ltb 0 p) _ t.0 in
    let b = both_true (ltb x (2 ^ p)) _ t.1 in
    record { prefixed = ltb-true _ _ a.0; short = leb-true _ _ a.1; fits = ltb-true _ _ b.0; bits = same_is _ _ b.1 }

pub old_prefix : (i : ℕ) → i < length rows → PrefixIs (get_or rows i no_row) (byte_of (values_of Old) i) (byte_of (lens_of Old) i)
old_prefix = prefix_at Old

pub wide_prefix : (i : ℕ) → i < length wide_rows → PrefixIs (get_or wide_rows i no_row) (byte_of (values_of Wide) i) (byte_of (lens_of Wide) i)
wide_prefix = prefix_at Wide

led_by : (f : Form) (j i n : ℕ) → leads f j i n ≡ true → Leads (table_of f) (bits_of 5 j) i n
led_by f j i n e =
    let p = both_true (both (ltb i (length (table_of f))) (begins (get_or (table_of f) i no_row).prefix (bits_of 5 j))) _ e in
    let q = both_true (ltb i (length (table_of f))) _ p.0 in
    record { row = ltb-true _ _ q.0; front = q.1; len = eqb-true _ _ p.1 }

module _ (f : Form) (j : ℕ) (h : j < 32) where
  at_lead : leads_at f j ≡ true
  at_lead =
      let e = (both_true (all_below (length (table_of f)) (λ (i : ℕ). is_prefix (get_or (table_of f) i no_row) (byte_of (values_of f) i) (byte_of (lens_of f) i))) _ (numbers_are f)).1 in
      all_at 32 (leads_at f) e j h

  pub lead_zero : j < 16 → Leads (table_of f) (bits_of 5 j) 0 1
  lead_zero l = led_by f j 0 1 (rw (lt-ltb j 16 l) at at_lead)

  lead_more : 16 ≤ j → Leads (table_of f) (bits_of 5 j) (row_by f j) (len_by f j) × (0 < row_by f j)
  lead_more l =
      let p = both_true (ltb 0 (row_by f j)) _ (rw (le-ltb j 16 l) at at_lead) in
      (led_by f j (row_by f j) (len_by f j) p.1, ltb-true _ _ p.0)

module _ (j : ℕ) (h : j < 32) (l : 16 ≤ j) where
  pub old_leads : Leads rows (bits_of 5 j) (row_by Old j) (len_by Old j) × (0 < row_by Old j)
  old_leads = lead_more Old j h l

  pub last_leads : j ≡ 31 → Leads wide_rows (bits_of 5 j) 5 69 × (◌<◌ 0 5)
  last_leads e = rw (eq-eqb j 31 e) at (lead_more Wide j h l)

  -- each is a row of the wide table
  pub lead_small : byte_of lead_rows (j / 2 - 8) < 6
  lead_small = omega (arith, old_leads.0.row, rows_count)

  pub wide_leads : (j ≡ 31 → ⊥) → Leads wide_rows (bits_of 5 j) (byte_of lead_rows (j / 2 - 8)) (byte_of (lead_lengths Wide) (j / 2 - 8)) × (0 < byte_of lead_rows (j / 2 - 8))
  wide_leads d = rw (ne_eqb j 31 d) at (lead_more Wide j h l)
