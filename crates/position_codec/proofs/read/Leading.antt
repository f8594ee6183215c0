-- What follows from the row that five bits lead to, at a bit offset in a body: how many bits its codes have, and the step that stands there.
use Rattle.std.specs.Prelude.{Some, None}
use mathlib.Core.List.{List}
use mathlib.Core.Path.{◌≡◌, sym, ap, ◌∙◌}
use Prim.Native.Nat.{ℕ, ◌+◌, ◌-◌, ◌*◌, ◌/◌, ◌%◌, ◌^◌, ◌≤◌, ◌<◌}
use native.Mathlib.Omega.{arith}
use lib.Dec.{lit≤}
use lib.IntN.{ℤ}
use lib.ListN.{length, get_or, take, drop}
use Rattle.bits.specs.Digits.{bits_of, number_of}
use Rattle.bits.specs.Packing.{bits, ahead}
use Rattle.bits.proofs.Packing.{length_left, below_left}
use Rattle.position_format.specs.declared.Form.{Form}
use Rattle.position_format.specs.Rows.{Row, no_row}
use Rattle.position_format.specs.Tables.{table_of}
use Rattle.position_format.proofs.Rows.Codes.{row_within}
use Rattle.position_format.proofs.Tables.{most_bits, form_sound}
use Rattle.position_format.proofs.Tables.WideRows.{same_range}
use Rattle.position_format.specs.Rows.{wide_rows}
use Rattle.position_codec.specs.declared.table.Lead.{Lead}
use Rattle.position_codec.specs.Codes.{row_at}
use Rattle.position_codec.specs.Found.{Ahead, Leads, ReadBy, StepFound}
use Rattle.position_codec.proofs.Found.StepFound.{field_word, field_body, lead-ahead, read_form, found_few, found_none_by, found_by}

module _ (f : Form) (body : List ℕ) (at w : ℕ) (alike : Ahead body at w) (l : Lead) (led : Leads (table_of f) (bits_of 5 (w / 2 ^ 59)) l.row.index l.len) where
  abbrev rs : List Row
  rs = table_of f

  abbrev ds : List ℕ
  ds = drop at (bits body)

  -- the row in the form's table, and how many bits follow its prefix
  abbrev here : Row
  here = get_or rs l.row.index no_row

  abbrev width : ℕ
  width = (row_at l.row).width

  leads : Leads rs (ahead 5 ds) l.row.index l.len
  leads = lead-ahead rs ds w alike 5 (lit≤ tt) l.row.index l.len led

  width_is : width ≡ here.width
  width_is = sym (ap (λ (r : Row). r.width) (same_range f l.row.index leads.row))

  pub some_bits : 0 < l.len
  some_bits = omega (arith, leads.len, (row_within 1 (most_bits f) rs (form_sound f).lengths l.row.index leads.row).0)

  pub width_within : width ≤ l.len
  width_within = omega (arith, leads.len, width_is)

  -- there are too few bits
  pub few_bits : 8 * length body - at < l.len → StepFound rs ds None
  few_bits h =
      found_few rs (form_sound f).good 5 (form_sound f).short ds (below_left body at) l.row.index l.len leads (omega (arith, length_left body at))

  -- or there are enough, and x is the number of those after the prefix
  module _ (enough : l.len ≤ 8 * length body - at) where
    pub room : l.len ≤ length ds
    room = omega (arith, length_left body at)

    abbrev Field : ℕ → Type 0
    Field x = x ≡ number_of 2 (take here.width (drop (length here.prefix) ds))

    pub field_near : (k x : ℕ) → l.len ≤ 57 → k ≡ width → x ≡ w / 2 ^ (64 - l.len) % 2 ^ k → Field x
    field_near k x h ek ex =
        ex ∙ ap (λ (m : ℕ). w / 2 ^ (64 - l.len) % 2 ^ m) (ek ∙ width_is) ∙ field_word here ds w alike l.len leads.len h room

    pub field_far : (k x : ℕ) → k ≡ width → x ≡ number_of 2 (take k (drop (at + (l.len - k)) (bits body))) → Field x
    field_far k x ek ex = field_body here body at l.len k x leads.len (ek ∙ width_is) ex

    module _ (x : ℕ) (field : Field x) where
      pub no_step : ReadBy wide_rows l.row.index x None → StepFound rs ds None
      no_step e =
          found_none_by rs (form_sound f).good 5 (form_sound f).short ds (below_left body at) l.row.index l.len leads room x field
          (read_form f l.row.index leads.row x None e)

      pub that_step : (z y : ℤ) → y ≡ z → ReadBy wide_rows l.row.index x (Some z) → StepFound rs ds (Some (y, l.len))
      that_step z y same e =
          rw same
          (found_by rs (form_sound f).good 5 (form_sound f).short ds (below_left body at) l.row.index l.len leads room x field z
          (read_form f l.row.index leads.row x (Some z) e))
