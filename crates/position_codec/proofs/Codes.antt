-- Laws of a step's code as two numbers, for any table: the prefix, and the step modulo 2 ^ width. Laws of what can be coded in a form: its table holds
-- each such step, and its valid positions are those that can be coded.
use mathlib.Core.Bool.{true}
use mathlib.Core.List.{List, ◌++◌}
use mathlib.Core.Path.{◌≡◌, refl, sym, ap, ap₂, ◌∙◌}
use Prim.Native.Nat.{ℕ, ◌-◌, ◌^◌, ◌≤◌, ◌<◌}
use native.Mathlib.Omega.{arith}
use lib.IntN.{ℤ}
use lib.ListN.{length, get_or}
use Rattle.bits.specs.Digits.{bits_of}
use Rattle.limits.specs.Points.{max_position, too_high, first_high}
use Rattle.limits.proofs.Points.{high_none}
use Rattle.position_format.specs.declared.Form.{Form}
use Rattle.position_format.specs.declared.Form.TheVariants.{Old, Wide}
use Rattle.position_format.specs.Rows.{Row, rows, wide_rows, in_table, residue, code_in, no_row, row_of}
use Rattle.position_format.specs.Steps.{steps, outside, first_outside, step_here}
use Rattle.position_format.specs.Positions.{valid_positions}
use Rattle.position_format.specs.Tables.{table_of}
use Rattle.lists.proofs.Lists.{first_le}
use Rattle.position_format.proofs.Steps.{length-steps}
use Rattle.position_format.proofs.Rows.{residue_lt}
use Rattle.position_format.proofs.Rows.Codes.{code_row, in_table-row}
use Rattle.position_format.proofs.Points.{valid_here}
use Rattle.position_format.proofs.Positions.Valid.{valid_parts, valid_of}
use Rattle.position_format.proofs.Tables.WideRows.{every_step, same_range, form_row}
use Rattle.position_codec.specs.declared.row.TableRow.{TableRow}
use Rattle.position_codec.specs.declared.table.Code.{Code}
use Rattle.position_codec.proofs.table.Numbers.{row_fits}
use Rattle.position_codec.specs.Codes.{row_at, PrefixIs, Coded, CodableStep, CodablePositions}

-- ---- a code as two numbers

-- a code by its parts
abbrev code_of : ℕ → ℕ → ℕ → ℕ → Code
code_of p x k y = record { size = p; prefix = x; width = k; rest = y }

-- the table holds z, its row is that of index i, and the row has the prefix x of p bits and k bits after it
pub coded_by_lem : (rs : List Row) (z : ℤ) → in_table rs z ≡ true → (i : ℕ) → row_of rs z ≡ i → (p x k y : ℕ)
    → 0 < p → p ≤ 64 → x < 2 ^ p → k ≤ 64 → (get_or rs i no_row).prefix ≡ bits_of p x → (get_or rs i no_row).width ≡ k → y ≡ residue k z → Coded rs z (code_of p x k y)
coded_by_lem rs z e i is p x k y prefixed short x< narrow prefix width ey = record {
  prefixed = prefixed;
  short = short;
  prefix = x<;
  narrow = narrow;
  rest = rw ey (residue_lt k z);
  bits = ap₂ (λ (q : List ℕ) (m : ℕ). q ++ bits_of k m) (sym prefix) ey
      ∙ ap (λ (m : ℕ). (get_or rs i no_row).prefix ++ bits_of m (residue m z)) (sym width)
      ∙ ap (λ (j : ℕ). code_in (get_or rs j no_row) z) (sym is)
      ∙ sym (code_row no_row z rs e);
}

-- by a row of the wide table, whose width the form's table has too
pub coded_by : (f : Form) (r : TableRow) (z : ℤ) → in_table (table_of f) z ≡ true → row_of (table_of f) z ≡ r.index → (x p k y : ℕ)
    → PrefixIs (get_or (table_of f) r.index no_row) x p → k ≡ (row_at r).width → y ≡ residue k z → Coded (table_of f) z (code_of p x k y)
coded_by f r z e is x p k y prefix width ey =
    let inside : r.index < length (table_of f) = omega (arith, is, in_table-row (table_of f) z e) in
    coded_by_lem (table_of f) z e r.index is p x k y prefix.prefixed prefix.short prefix.fits (omega (arith, width, (row_fits r.index r.known).narrow)) prefix.bits
    (ap (λ (q : Row). q.width) (same_range f r.index inside) ∙ sym width) ey

-- ---- what can be coded in a form

-- its table holds such a step
pub codable_held : (f : Form) (z : ℤ) → CodableStep f z → in_table (table_of f) z ≡ true
codable_held Old z e = e
codable_held Wide z s = ap (in_table wide_rows) s.step ∙ every_step.0 s.a s.b s.t s.a_low s.b_low s.t_low

-- and the first row that holds it is the same in every table
pub codable_row : (f : Form) (z y : ℤ) (i : ℕ) → CodableStep f z → y ≡ z → i ≡ row_of wide_rows y → (in_table (table_of f) y ≡ true) × (row_of (table_of f) y ≡ i)
codable_row f z y i s same e = let held = ap (in_table (table_of f)) same ∙ codable_held f z s in (held, form_row f y held ∙ sym e)

-- such positions are those that are valid by its table, and all are in range
valid_range : (rs : List Row) (ts : List ℕ) → valid_positions rs ts ≡ true → length ts ≤ first_high ts
valid_range rs ts v = omega (arith, (valid_parts rs ts v).0)

pub codable_valid : (f : Form) (ts : List ℕ) → CodablePositions f ts → valid_positions (table_of f) ts ≡ true
codable_valid Old ts v = v
codable_valid Wide ts low = every_step.1 ts low

pub valid_codable : (f : Form) (ts : List ℕ) → valid_positions (table_of f) ts ≡ true → CodablePositions f ts
valid_codable Old ts v = v
valid_codable Wide ts v = valid_range wide_rows ts v

pub codable_range : (f : Form) (ts : List ℕ) → CodablePositions f ts → length ts ≤ first_high ts
codable_range Old ts v = valid_range rows ts v
codable_range Wide ts low = low

-- no step of such positions is outside the table, and where none is, positions in range are such
pub codable_inside : (f : Form) (ts : List ℕ) → CodablePositions f ts → length ts ≤ first_outside (table_of f) ts
codable_inside f ts c = omega (arith, (valid_parts (table_of f) ts (codable_valid f ts c)).1, length-steps ts)

pub inside_codable : (f : Form) (ts : List ℕ) → length ts ≤ first_high ts → length ts ≤ first_outside (table_of f) ts → CodablePositions f ts
inside_codable f ts low inside =
    valid_codable f ts
    (valid_of (table_of f) ts (omega (arith, first_le too_high ts)) (omega (arith, length-steps ts, first_le (outside (table_of f)) (steps ts))))

-- each of their steps can be coded
pub codable_here : (f : Form) (ts : List ℕ) (i : ℕ) → 2 ≤ i → i < length ts → CodablePositions f ts → CodableStep f (step_here ts i)
codable_here Old ts i two here v = valid_here ts i two here rows v
codable_here Wide ts i two here low =
    let in-range : (k : ℕ) → k < length ts → get_or ts k 0 ≤ max_position = λ k k<. omega (arith, high_none ts low k k<) in
    record {
      a = get_or ts (i - 2) 0;
      b = get_or ts (i - 1) 0;
      t = get_or ts i 0;
      a_low = in-range (i - 2) (omega arith);
      b_low = in-range (i - 1) (omega arith);
      t_low = in-range i here;
      step = refl;
    }
