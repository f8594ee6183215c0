-- Laws of a step found at the front of bits, for any table that passes the test of a table and whose prefixes are short: by the row that the
-- first bits lead to.
use Rattle.std.specs.Prelude.{Option, Some, None}
use mathlib.Core.Bool.{true, false}
use mathlib.Core.List.{List}
use mathlib.Core.Path.{◌≡◌, sym, ap, ap₂, ◌∙◌}
use Prim.Native.Nat.{ℕ, ◌+◌, ◌-◌, ◌/◌, ◌%◌, ◌^◌, ◌≤◌, ◌<◌}
use native.Mathlib.Omega.{arith}
use lib.IntN.{ℤ, pos}
use lib.ListN.{length, get_or, take, drop, length-append}
use lib.Seq.{drop-drop}
use Rattle.lists.specs.Below.{Below}
use Rattle.lists.specs.Compare.{begins}
use Rattle.lists.proofs.Compare.{begins_rest, not_so, begins-take, take_begins, begins_short}
use Rattle.bits.specs.Digits.{bits_of, number_of}
use Rattle.bits.specs.Packing.{bits, ahead}
use Rattle.bits.proofs.Packing.Ahead.{take-ahead, ahead-first, ahead_field}
use Rattle.position_format.specs.declared.Form.{Form}
use Rattle.position_format.specs.declared.Form.TheVariants.{Wide}
use Rattle.position_format.specs.Rows.{Row, wide_rows, holds, in_table, reading, code, code_length, no_row, row_of}
use Rattle.position_format.specs.Tables.{table_of}
use Rattle.position_format.proofs.Rows.{good_table, good_full, reading-held}
use Rattle.position_format.proofs.Rows.Ranges.{widening, row_before, row_first}
use Rattle.position_format.proofs.Rows.Codes.{in_table-row, row-in_table, length-code, lengths, code_within}
use Rattle.position_format.proofs.Tables.{form_sound, short_prefixes, prefix_short}
use Rattle.position_format.proofs.Tables.WideRows.{wide_count, same_range, form_row, form_row-first}
use Rattle.position_format.proofs.Rows.Decoding.{code-begins, prefix_one, front-step, front_table, front-code}
use Rattle.position_codec.specs.declared.row.TableRow.{TableRow}
use Rattle.position_codec.specs.Codes.{row_at}
use Rattle.position_codec.specs.Found.{Leads, ReadBy, StepFound}

-- no bits are no code
pub found_none : (lo hi : ℕ) (rs : List Row) → lengths lo hi rs ≡ true → 0 < lo → (ds : List ℕ) → length ds ≡ 0 → StepFound rs ds None
found_none lo hi rs within nonzero ds h z e = begins_short (code rs z) ds (omega (arith, (code_within lo hi rs within z e).0))

-- the row that q bits lead to, by the first q of the word w that begins with the bits ds, with 0 bits past their end
pub lead-ahead : (rs : List Row) (ds : List ℕ) (w : ℕ) → take 57 (bits_of 64 w) ≡ ahead 57 ds → (q : ℕ) → q ≤ 57
    → (i n : ℕ) → Leads rs (bits_of q (w / 2 ^ (64 - q))) i n → Leads rs (ahead q ds) i n
lead-ahead rs ds w alike q h i n l = rw (ahead-first w 57 (omega arith) ds alike q h) at l

-- the bits after a row's prefix, as the code has them: in that word
module _ (r : Row) (ds : List ℕ) (w : ℕ) (alike : take 57 (bits_of 64 w) ≡ ahead 57 ds) (n : ℕ) (en : n ≡ code_length r) (few : n ≤ 57) (room : n ≤ length ds) where
  pub field_word : w / 2 ^ (64 - n) % 2 ^ r.width ≡ number_of 2 (take r.width (drop (length r.prefix) ds))
  field_word =
      ap (λ (m : ℕ). w / 2 ^ (64 - m) % 2 ^ r.width) en
      ∙ sym (ahead_field w 57 (omega arith) ds alike (length r.prefix) r.width (omega arith) (omega arith))

-- or after it in the body
pub field_body : (r : Row) (body : List ℕ) (at n k x : ℕ) → n ≡ code_length r → k ≡ r.width
    → x ≡ number_of 2 (take k (drop (at + (n - k)) (bits body))) → x ≡ number_of 2 (take r.width (drop (length r.prefix) (drop at (bits body))))
field_body r body at n k x en ek ex =
    let p : n - k ≡ length r.prefix = omega arith in
    ex ∙ ap₂ (λ (m j : ℕ). number_of 2 (take m (drop (at + j) (bits body)))) ek p
    ∙ ap (λ (l : List ℕ). number_of 2 (take r.width l)) (sym (drop-drop (length r.prefix) at (bits body)))

-- ---- the step that row i reads in its bits x, by the row before it

module _ (rs : List Row) (good : good_table rs ≡ true) (wide : widening rs ≡ true) (i : ℕ) (nonzero : 0 < i) (i< : i < length rs)
    (x : ℕ) (x< : x < 2 ^ (get_or rs i no_row).width) where
  pub read_early : holds (get_or rs (i - 1) no_row) (reading (get_or rs i no_row) x) ≡ true → ReadBy rs i x None
  read_early e = row_before rs good wide (reading (get_or rs i no_row) x) i nonzero i< e

  pub read_first : holds (get_or rs (i - 1) no_row) (reading (get_or rs i no_row) x) ≡ false → (z : ℤ) → z ≡ reading (get_or rs i no_row) x → ReadBy rs i x (Some z)
  read_first e z is =
      let r = get_or rs i no_row in
      (is, ap (row_of rs) is ∙ row_first rs good wide (reading r x) i nonzero i< e (reading-held r (good_full no_row rs good i i<) x x<))

-- the same of a row that is named by its index in the wide table
module _ (r : TableRow) (nonzero : 0 < r.index) (x : ℕ) (x< : x < 2 ^ (row_at r).width) where
  in_wide : r.index < length wide_rows
  in_wide = omega (arith, r.known, wide_count)

  pub table_early : holds (get_or wide_rows (r.index - 1) no_row) (reading (row_at r) x) ≡ true → ReadBy wide_rows r.index x None
  table_early = read_early wide_rows (form_sound Wide).good (form_sound Wide).widens r.index nonzero in_wide x x<

  pub table_first : holds (get_or wide_rows (r.index - 1) no_row) (reading (row_at r) x) ≡ false → (z : ℤ) → z ≡ reading (row_at r) x → ReadBy wide_rows r.index x (Some z)
  table_first = read_first wide_rows (form_sound Wide).good (form_sound Wide).widens r.index nonzero in_wide x x<

-- ---- the same by the table of a form, of which the wide table has every row

pub read_form : (f : Form) (i : ℕ) → i < length (table_of f) → (x : ℕ) (g : Option ℤ) → ReadBy wide_rows i x g → ReadBy (table_of f) i x g
read_form f i h x (Some z) e = (e.0 ∙ sym (ap (λ (r : Row). reading r x) (same_range f i h)), form_row-first f z i h e.1)
read_form f i h x None e =
    λ is.
    let same : reading (get_or (table_of f) i no_row) x ≡ reading (get_or wide_rows i no_row) x = ap (λ (r : Row). reading r x) (same_range f i h) in
    let z = reading (get_or (table_of f) i no_row) x in
    e (ap (row_of wide_rows) (sym same) ∙ sym (form_row f z (row-in_table (table_of f) z (omega arith))) ∙ is)

-- ---- prefixes of at most q bits

-- bits and those ahead begin with the same prefixes, where there are so many
begins-ahead : (q : ℕ) (p ds : List ℕ) → length p ≤ q → begins p ds ≡ true → begins p (ahead q ds) ≡ true
begins-ahead q p ds h b =
    let t = begins_rest p ds b in
    take_begins p (ahead q ds) (take-ahead (length p) q ds h (omega (arith, ap length t.1, length-append p t.0)) ∙ begins-take p ds b)

ahead-begins : (q : ℕ) (p ds : List ℕ) → length p ≤ q → length p ≤ length ds → begins p (ahead q ds) ≡ true → begins p ds ≡ true
ahead-begins q p ds h g b = take_begins p ds (sym (take-ahead (length p) q ds h g) ∙ begins-take p (ahead q ds) b)

-- ---- the step

-- the q bits ahead lead to row i, whose codes have n bits
module _ (rs : List Row) (good : good_table rs ≡ true) (q : ℕ) (short : short_prefixes q rs ≡ true) (ds : List ℕ) (below : Below 2 ds)
    (i n : ℕ) (lead : Leads rs (ahead q ds) i n) where
  abbrev here : Row
  here = get_or rs i no_row

  -- a code that stands there is by that row
  pub by_row : (z : ℤ) → in_table rs z ≡ true → begins (code rs z) ds ≡ true → row_of rs z ≡ i
  by_row z e b =
      let t = begins_rest (code rs z) ds b in
      let p = (get_or rs (row_of rs z) no_row).prefix in
      let bp : begins p ds ≡ true = rw t.1 (code-begins no_row rs z e t.0) in
      prefix_one no_row rs good (ahead q ds) (row_of rs z) i (in_table-row rs z e) lead.row
      (begins-ahead q p ds (prefix_short q rs short (row_of rs z) (in_table-row rs z e)) bp) lead.front

  pub size_by : (z : ℤ) → in_table rs z ≡ true → row_of rs z ≡ i → length (code rs z) ≡ n
  size_by z e is = length-code no_row z rs e ∙ ap (λ (j : ℕ). code_length (get_or rs j no_row)) is ∙ sym lead.len

  -- so there is none where there are fewer bits than its codes have
  pub found_few : length ds < n → StepFound rs ds None
  found_few l z e =
      not_so (begins (code rs z) ds) (λ b.
      let t = begins_rest (code rs z) ds b in
      omega (arith, size_by z e (by_row z e b), ap length t.1, length-append (code rs z) t.0))

  -- where there are bits enough, x is the number of those after the prefix
  module _ (enough : n ≤ length ds) (x : ℕ) (ex : x ≡ number_of 2 (take here.width (drop (length here.prefix) ds))) where
    front : begins here.prefix ds ≡ true
    front = ahead-begins q here.prefix ds (prefix_short q rs short i lead.row) (omega (arith, lead.len)) lead.front

    abbrev field : ℕ
    field = number_of 2 (take here.width (drop (length here.prefix) ds))

    step_is : reading here field ≡ reading here x
    step_is = ap (reading here) (sym ex)

    -- a code stands there only if that row is the first that holds what it reads
    other_row : (row_of rs (reading here x) ≡ i → ⊥) → StepFound rs ds None
    other_row f y e =
        not_so (begins (code rs y) ds) (λ b.
        let t = begins_rest (code rs y) ds b in
        f (ap (row_of rs) (sym step_is ∙ front-step no_row rs good i lead.row ds front y e t.0 t.1) ∙ by_row y e b))

    -- and then it is the code of that step
    this_row : row_of rs (reading here x) ≡ i → StepFound rs ds (Some (reading here x, n))
    this_row is =
        let z = reading here x in
        let fits : code_length here ≤ length ds = omega (arith, lead.len) in
        let first : row_of rs (reading here field) ≡ i = ap (row_of rs) step_is ∙ is in
        let held : in_table rs z ≡ true = ap (in_table rs) (sym step_is) ∙ front_table no_row rs good i lead.row ds front below fits first in
        let c : code rs z ≡ take n ds =
        ap (code rs) (sym step_is) ∙ front-code no_row rs good i lead.row ds front below fits first ∙ ap (λ (m : ℕ). take m ds) (sym lead.len) in
        let s : length (code rs z) ≡ n = size_by z held is in
        (held, take_begins (code rs z) ds (ap (λ (m : ℕ). take m ds) s ∙ sym c), sym s)

    -- by what the row reads
    pub found_none_by : ReadBy rs i x None → StepFound rs ds None
    found_none_by e = other_row e

    pub found_by : (z : ℤ) → ReadBy rs i x (Some z) → StepFound rs ds (Some (z, n))
    found_by z e = rw e.0 (this_row (ap (row_of rs) (sym e.0) ∙ e.1))

  -- a row with no bits after its prefix, which reads 0 and is the first that holds it
  pub found-zero : here.width ≡ 0 → reading here 0 ≡ pos 0 → row_of rs (pos 0) ≡ i → n ≤ length ds → StepFound rs ds (Some (pos 0, n))
  unfolding number_of
  found-zero empty reads first enough =
      found_by enough 0 (ap (λ (k : ℕ). number_of 2 (take k (drop (length here.prefix) ds))) (sym empty)) (pos 0) (sym reads, first)
