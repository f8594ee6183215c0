-- The wide table: every step between positions in range has a code by it, by the same row as in document 01's table where that holds the step, and
-- else by the row of 64 bits.
use mathlib.Core.Bool.{Bool, true, false, cond}
use mathlib.Core.List.{List, [], ◌∷◌, ◌++◌, map}
use mathlib.Core.Path.{◌≡◌, refl, sym, ap, ap₂, ◌∙◌}
use Prim.Native.Nat.{ℕ, zero, suc, ◌-◌, ◌^◌, ◌≤◌, ◌<◌}
use native.Mathlib.Omega.{arith}
use borrow.Author.Tests.{le-leb}
use lib.IntN.{ℤ, pos, negsuc}
use lib.ListN.{length, get_or, take, drop}
use lib.Seq.{get_or-take}
use lib.Signed.{mag}
use Rattle.lists.specs.Lists.{first_index}
use Rattle.bits.specs.Digits.{bits_of}
use Rattle.limits.specs.Points.{first_high}
use Rattle.position_format.specs.declared.Form.{Form}
use Rattle.position_format.specs.declared.Form.TheVariants.{Old, Wide}
use Rattle.position_format.specs.Rows.{Row, rows, wide_rows, holds, in_table, residue, code_in, code, no_row, row_of}
use Rattle.position_format.specs.Steps.{step_of}
use Rattle.position_format.specs.Positions.{valid_positions, read_positions}
use Rattle.position_format.specs.Tables.{table_of, EveryStep, OldSteps, EscapedSteps, ReadsCoded}
use Rattle.position_format.proofs.Rows.Signs.{neg_le_pos, neg_le_neg}
use Rattle.position_format.proofs.Rows.Codes.{in_table-row, row-in_table, code_row}
use Rattle.position_format.proofs.Rows.Extended.{ranged, extended_range, extended_index, extended_past, extended_row}
use Rattle.position_format.proofs.Rows.Ranges.{in_last}
use Rattle.position_format.proofs.Positions.{read_coded, read_only}
use Rattle.position_format.proofs.Positions.Every.{step_mag, step-held, valid_every}
use Rattle.position_format.proofs.Tables.{form_sound, table_good}

-- ---- computed

-- how many rows each table has
pub rows_count : length rows ≡ 5
unfolding rows
rows_count = refl

pub wide_count : length wide_rows ≡ 6
unfolding wide_rows rows
wide_count = refl

-- the first rows of the wide table have the ranges of document 01's, and one row follows
ranges_same : map ranged (take (length rows) wide_rows) ≡ map ranged rows
unfolding wide_rows rows
ranges_same = refl

abbrev last_row : Row
last_row = get_or wide_rows 5 no_row

last_alone : drop (length rows) wide_rows ≡ last_row ∷ []
unfolding wide_rows rows
last_alone = refl

-- ---- the row of a step

pub form_count : (f : Form) → length (table_of f) ≤ 6
form_count Old = omega (arith, rows_count)
form_count Wide = omega (arith, wide_count)

-- each row of either table has the range and the width of the wide table's row of its index
pub same_range : (f : Form) (i : ℕ) → i < length (table_of f) → ranged (get_or (table_of f) i no_row) ≡ ranged (get_or wide_rows i no_row)
same_range Old i h = extended_range rows wide_rows ranges_same i h
same_range Wide i h = refl

-- a row of document 01's table that holds z has the same index in the wide one
pub old_index : (z : ℤ) → in_table rows z ≡ true → row_of wide_rows z ≡ row_of rows z
old_index = extended_index rows wide_rows ranges_same

pub form_row : (f : Form) (z : ℤ) → in_table (table_of f) z ≡ true → row_of (table_of f) z ≡ row_of wide_rows z
form_row Old z e = sym (old_index z e)
form_row Wide z e = refl

-- a row of either table is the first that holds z in it where it is so in the wide one
pub form_row-first : (f : Form) (z : ℤ) (i : ℕ) → i < length (table_of f) → row_of wide_rows z ≡ i → row_of (table_of f) z ≡ i
form_row-first Old z i h e = extended_row rows wide_rows ranges_same z i h e
form_row-first Wide z i h e = e

-- document 01's table holds what its last row holds
pub old-test : (z : ℤ) → holds (get_or wide_rows 4 no_row) z ≡ in_table rows z
old-test z =
    let sound = form_sound Old in
    sym (in_last rows sound.good sound.widens z 4 rows_count ∙ ap (λ (r : Row). holds r z) (same_range Old 4 (omega (arith, rows_count))))

-- the first four rows are the same, and the fifth differs in its prefix alone
first_rows : take 4 wide_rows ≡ take 4 rows
unfolding wide_rows rows
first_rows = refl

fifth_rows : (z : ℤ) → (code_in (get_or rows 4 no_row) z ≡ (1 ∷ 1 ∷ 1 ∷ 1 ∷ []) ++ bits_of 32 (residue 32 z))
    × (code_in (get_or wide_rows 4 no_row) z ≡ (1 ∷ 1 ∷ 1 ∷ 1 ∷ 0 ∷ []) ++ bits_of 32 (residue 32 z))
unfolding wide_rows rows
fifth_rows z = (refl, refl)

pub old-steps : OldSteps
old-steps z e =
    let i = row_of rows z in
    let same = old_index z e in
    let h = in_table-row rows z e in
    let wide : code wide_rows z ≡ code_in (get_or wide_rows i no_row) z =
    code_row no_row z wide_rows (row-in_table wide_rows z (omega (arith, same, rows_count, wide_count))) ∙ ap (λ (j : ℕ). code_in (get_or wide_rows j no_row) z) same in
    let old : code rows z ≡ code_in (get_or rows i no_row) z = code_row no_row z rows e in (
      λ l.
          wide
          ∙ ap (λ (r : Row). code_in r z)
          (sym (get_or-take 4 wide_rows i no_row l) ∙ ap (λ (rs : List Row). get_or rs i no_row) first_rows ∙ get_or-take 4 rows i no_row l)
          ∙ sym old,
      λ q. (
        old ∙ ap (λ (j : ℕ). code_in (get_or rows j no_row) z) q ∙ (fifth_rows z).0,
        wide ∙ ap (λ (j : ℕ). code_in (get_or wide_rows j no_row) z) q ∙ (fifth_rows z).1,
      ),
    )

-- the last row holds every integer of 64 bits
pub last_holds : (z : ℤ) → mag z < 2 ^ 63 → holds (get_or wide_rows 5 no_row) z ≡ true
unfolding wide_rows rows
last_holds (pos n) h = rw (neg_le_pos (2 ^ 63) n) (le-leb n (2 ^ 63 - 1) (omega arith))
last_holds (negsuc n) h = rw (neg_le_neg (2 ^ 63) n h)

-- so where document 01's table holds none of it, that is the row
pub last_row_lem : (z : ℤ) → mag z < 2 ^ 63 → in_table rows z ≡ false → row_of wide_rows z ≡ 5
unfolding first_index
last_row_lem z h e =
    let one : row_of (last_row ∷ []) z ≡ 0 = ap (λ (t : Bool). cond t zero (suc zero)) (last_holds z h) in
    omega (arith, extended_past rows wide_rows ranges_same z e, ap (λ (l : List Row). row_of l z) last_alone, rows_count)

-- and there is one in the wide table
pub wide-holds : (z : ℤ) → mag z < 2 ^ 63 → in_table wide_rows z ≡ true
wide-holds z h =
    let sound = form_sound Wide in
    in_last wide_rows sound.good sound.widens z 5 wide_count ∙ last_holds z h

-- ---- steps between positions in range

pub wide_valid : (ts : List ℕ) → length ts ≤ first_high ts → valid_positions wide_rows ts ≡ true
wide_valid = valid_every wide_rows wide-holds

pub every_step : EveryStep
every_step = (step-held wide_rows wide-holds, wide_valid)

-- and what document 01's table does not hold is escaped
escaped-code : (z : ℤ) → code_in last_row z ≡ (1 ∷ 1 ∷ 1 ∷ 1 ∷ 1 ∷ []) ++ bits_of 64 (residue 64 z)
unfolding wide_rows rows
escaped-code z = refl

pub escaped-steps : EscapedSteps
escaped-steps a b t a≤ b≤ t≤ e =
    let z = step_of a b t in
    code_row no_row z wide_rows (step-held wide_rows wide-holds a b t a≤ b≤ t≤)
    ∙ ap (λ (i : ℕ). code_in (get_or wide_rows i no_row) z) (last_row_lem z (step_mag a b t a≤ b≤ t≤) e)
    ∙ escaped-code z

-- ---- reading

pub reads-coded : ReadsCoded
reads-coded f n body ts = (
  λ e. let p = read_only (table_of f) n body ts e in (p.0, p.2, p.1),
  λ c. ap₂ (read_positions (table_of f)) (sym c.1) c.0 ∙ read_coded (table_of f) (table_good f) ts c.2,
)
