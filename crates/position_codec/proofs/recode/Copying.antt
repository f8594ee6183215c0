-- Laws of a code that is copied from one form to another: its bits as a number, in a word or in the body, its row, whether it is the same in both, and its
-- bits after the prefix.
use mathlib.Core.Bool.{Bool, true, false}
use mathlib.Core.List.{List, ◌++◌, append_assoc}
use mathlib.Core.Path.{◌≡◌, refl, sym, ap, ap₂, ◌∙◌, subst}
use Prim.Native.Nat.{ℕ, zero, suc, ◌+◌, ◌-◌, ◌*◌, ◌/◌, ◌%◌, ◌^◌, ◌≤◌, ◌<◌}
use native.Mathlib.Nat.{mod-lt}
use native.Mathlib.Omega.{arith}
use borrow.Author.Tests.{ltb-true, ltb-false, lt-ltb}
use lib.Dec.{ltb}
use lib.IntN.{ℤ}
use lib.ListN.{length, get_or, take, drop, replicate, length-append, length-take, length-drop}
use lib.Pow.{pow_pos, shl-shr}
use lib.Seq.{take_at, drop_at, drop-drop, length-take-le, take-add, take-append-le, drop-append-le}
use Rattle.lists.proofs.Below.{below_take}
use Rattle.lists.proofs.Compare.{not_so, begins_rest}
use Rattle.bits.specs.Digits.{digits_of, bits_of, number_of}
use Rattle.bits.specs.Packing.{bits, ahead}
use Rattle.bits.proofs.Digits.{two⁺, length_digits, digits_number, digits_append, drop_digits, digits_of_mod}
use Rattle.bits.proofs.Digits.Word.{two_lt, two_fits, two-bits}
use Rattle.bits.proofs.Packing.{length_left, below_left}
use Rattle.bits.proofs.Packing.Ahead.{ahead_many, word_first, ahead_field, ahead-first}
use Rattle.position_format.specs.declared.Form.{Form}
use Rattle.position_format.specs.declared.Form.TheVariants.{Old, Wide}
use Rattle.position_format.specs.Rows.{Row, rows, wide_rows, in_table, residue, code, code_in, code_length, no_row, row_of}
use Rattle.position_format.specs.Tables.{table_of}
use Rattle.position_format.proofs.Rows.Codes.{in_table-row, row-in_table, code_row, code_within}
use Rattle.position_format.proofs.Tables.{most_bits, form_sound, prefix_short}
use Rattle.position_format.proofs.Tables.WideRows.{rows_count, wide_count, same_range, form_row, form_row-first}
use Rattle.position_codec.specs.Found.{Ahead, Leads}
use Rattle.position_codec.specs.declared.table.Lead.{Lead}
use Rattle.position_codec.specs.Codes.{row_at, PrefixIs}
use Rattle.position_codec.specs.Recoding.{CodeStands, Led, Fore, Shared, SharedCode, ThreeShared}
use Rattle.position_codec.proofs.Found.StepFound.{by_row, size_by}

-- bits of a body by their number
pub bits_number : (body : List ℕ) (at k x : ℕ) → at + k ≤ 8 * length body → x ≡ number_of 2 (take k (drop at (bits body))) → bits_of k x ≡ take k (drop at (bits body))
bits_number body at k x h e =
    let ds = take k (drop at (bits body)) in
    let n : length ds ≡ k = length-take-le k (drop at (bits body)) (omega (arith, length_left body at)) in
    ap₂ (λ (m y : ℕ). bits_of m y) (sym n) e ∙ digits_number 2 ds (below_take 2 k (drop at (bits body)) (below_left body at))

-- the last k of the n bits that a word of the bits ahead is sure to hold
pub field_bits : (body : List ℕ) (at w n k : ℕ) → Ahead body at w → n ≤ 57 → at + n ≤ 8 * length body → k ≤ n
    → bits_of k (w / 2 ^ (64 - n) % 2 ^ k) ≡ take k (drop (at + (n - k)) (bits body))
field_bits body at w n k alike few room narrow =
    let ds = drop at (bits body) in
    let m : n - k + k ≡ n = omega arith in
    let field = ahead_field w 57 (omega arith) ds alike (n - k) k (omega arith) (omega (arith, length_left body at)) in
    bits_number body (at + (n - k)) k (w / 2 ^ (64 - n) % 2 ^ k) (omega arith)
    (ap (λ (i : ℕ). w / 2 ^ (64 - i) % 2 ^ k) (sym m) ∙ sym field ∙ ap (λ (l : List ℕ). number_of 2 (take k l)) (drop-drop (n - k) at (bits body)))

-- ---- a word of the bits ahead

drop-take : (p k : ℕ) (l : List ℕ) → p ≤ length l → drop p (take (p + k) l) ≡ take k (drop p l)
drop-take p k l h = ap (drop p) (take-add p k l) ∙ drop_at (take p l) (take k (drop p l)) p (length-take-le p l h)

ahead_later : (k n : ℕ) (ds : List ℕ) → n ≤ k → n ≤ length ds → drop n (ahead k ds) ≡ ahead (k - n) (drop n ds)
ahead_later k n ds few long =
    let m : n + (k - n) ≡ k = omega arith in
    let d : length (drop n ds) ≡ length ds - n = length-drop n ds in
    let z : k - length ds ≡ (k - n) - length (drop n ds) = omega arith in
    drop-append-le n (take k ds) (replicate (k - length ds) 0) (rw length-take (omega arith))
    ∙ ap₂ (λ (l : List ℕ) (j : ℕ). l ++ replicate j 0) (ap (λ (j : ℕ). drop n (take j ds)) (sym m) ∙ drop-take n (k - n) ds long) z

-- the first k of the bits ahead
pub fore_front : (body : List ℕ) (at w k : ℕ) → Ahead body at w → k ≤ 57 → at + k ≤ 8 * length body → take k (bits_of 64 w) ≡ take k (drop at (bits body))
fore_front body at w k alike few room =
    let ds = drop at (bits body) in
    word_first w k (omega arith) ∙ ahead-first w 57 (omega arith) ds alike k few ∙ ahead_many k ds (omega (arith, length_left body at))

-- a word without the first n of the bits ahead
pub fore_shift : (body : List ℕ) (at w k n : ℕ) → k ≤ 64 → n ≤ k → at + n ≤ 8 * length body → Fore k body at w → Fore (k - n) body (at + n) (w * 2 ^ n % 2 ^ 64)
fore_shift body at w k n fits few room alike =
    let ds = drop at (bits body) in
    let e : (64 - n) + n ≡ 64 = omega arith in
    let f : n + (64 - n) ≡ 64 = omega arith in
    let m : n + (k - n) ≡ k = omega arith in
    let upper : bits_of (64 - n) w ≡ drop n (bits_of 64 w) = sym (drop_digits 2 n (64 - n) w) ∙ ap (λ (j : ℕ). drop n (bits_of j w)) f in
    let moved : bits_of 64 (w * 2 ^ n % 2 ^ 64) ≡ drop n (bits_of 64 w) ++ bits_of n (w * 2 ^ n) =
    digits_of_mod two⁺ 64 (w * 2 ^ n) ∙ ap (λ (j : ℕ). bits_of j (w * 2 ^ n)) (sym e) ∙ digits_append 2 (64 - n) n (w * 2 ^ n)
    ∙ ap (λ (l : List ℕ). l ++ bits_of n (w * 2 ^ n)) (ap (bits_of (64 - n)) (shl-shr w n) ∙ upper) in
    let long : length (drop n (bits_of 64 w)) ≡ 64 - n = ap length (sym upper) ∙ length_digits 2 (64 - n) w in
    ap (take (k - n)) moved
    ∙ take-append-le (k - n) (drop n (bits_of 64 w)) (bits_of n (w * 2 ^ n)) (omega (arith, long))
    ∙ sym (drop-take n (k - n) (bits_of 64 w) (omega (arith, length_digits 2 64 w)))
    ∙ ap (λ (j : ℕ). drop n (take j (bits_of 64 w))) m
    ∙ ap (drop n) alike
    ∙ ahead_later k n ds few (omega (arith, length_left body at))
    ∙ ap (ahead (k - n)) (drop-drop n at (bits body))

-- ---- the code that stands there

-- the row that five bits lead to
lead_told : (f : Form) (body : List ℕ) (at : ℕ) (lead : Lead) → let ds = drop at (bits body) in Leads (table_of f) (ahead 5 ds) lead.row.index lead.len → Led (table_of f) ds lead
lead_told f body at lead l z s =
    let i = lead.row.index in
    let n = lead.len in
    let ds = drop at (bits body) in
    let t = form_sound f in
    let is : row_of (table_of f) z ≡ i = by_row (table_of f) t.good 5 t.short ds (below_left body at) i n l z s.held s.front in
    (sym is, sym (size_by (table_of f) t.good 5 t.short ds (below_left body at) i n l z s.held is))

-- the first row has one bit, 0, and none after it
pub row_zero : (f : Form) (at n : ℕ) (body : List ℕ)
    → bits_of 1 0 ≡ (get_or (table_of f) 0 no_row).prefix ++ take (get_or wide_rows 0 no_row).width (drop (at + (n - (get_or wide_rows 0 no_row).width)) (bits body))
unfolding rows wide_rows digits_of
row_zero Old at n body = refl
row_zero Wide at n body = refl

-- a code that stands in a body ends in it
pub code-room : (f : Form) (body : List ℕ) (at : ℕ) (z : ℤ) → CodeStands (table_of f) (drop at (bits body)) z
    → (0 < length (code (table_of f) z)) × (at + length (code (table_of f) z) ≤ 8 * length body)
code-room f body at z s =
    let c = code (table_of f) z in
    let r = begins_rest c (drop at (bits body)) s.front in
    let some = (code_within 1 (most_bits f) (table_of f) (form_sound f).lengths z s.held).0 in
    (omega arith, omega (arith, ap length r.1, length-append c r.0, length_left body at))

-- ---- the first four rows, which both tables have

four_rows : (f : Form) (i : ℕ) → i < 4 → get_or (table_of f) i no_row ≡ get_or wide_rows i no_row
unfolding rows wide_rows
four_rows Wide i h = refl
four_rows Old zero h = refl
four_rows Old (suc zero) h = refl
four_rows Old (suc (suc zero)) h = refl
four_rows Old (suc (suc (suc zero))) h = refl
four_rows Old (suc (suc (suc (suc i)))) h = absurd (omega arith)

short_wide : (i : ℕ) → i < 4 → (1 ≤ code_length (get_or wide_rows i no_row)) × (code_length (get_or wide_rows i no_row) ≤ 16)
unfolding rows wide_rows
short_wide zero h = (omega arith, omega arith)
short_wide (suc zero) h = (omega arith, omega arith)
short_wide (suc (suc zero)) h = (omega arith, omega arith)
short_wide (suc (suc (suc zero))) h = (omega arith, omega arith)
short_wide (suc (suc (suc (suc i)))) h = absurd (omega arith)

-- their codes are short
pub short_row : (f : Form) (i : ℕ) → i < 4 → (1 ≤ code_length (get_or (table_of f) i no_row)) × (code_length (get_or (table_of f) i no_row) ≤ 16)
short_row f i h = rw (four_rows f i h) (short_wide i h)

-- what five bits at the top of a word tell of a code there
pub lead_read : (f : Form) (w : ℕ) (lead : Lead) → Leads (table_of f) (bits_of 5 (w / 2 ^ 59)) lead.row.index lead.len
    → (lead.row.index < 4 → (0 < lead.len) × (lead.len ≤ 16))
    × ((body : List ℕ) (at k : ℕ) → 5 ≤ k → k ≤ 64 → Fore k body at w → Led (table_of f) (drop at (bits body)) lead)
lead_read f w lead l = (
  λ h. let r = short_row f lead.row.index h in (omega (arith, l.len, r.0), omega (arith, l.len, r.1)),
  λ body at k five fits e. lead_told f body at lead (rw (ahead-first w k fits (drop at (bits body)) e 5 five) at l),
)

form_more : (f : Form) → 5 ≤ length (table_of f)
form_more Old = omega (arith, rows_count)
form_more Wide = omega (arith, wide_count)

-- ---- a step that both tables hold

-- a table has the row of a step of another exactly if it holds the step
pub row-test : (f g : Form) (z : ℤ) → in_table (table_of f) z ≡ true → ltb (row_of (table_of f) z) (length (table_of g)) ≡ in_table (table_of g) z
row-test f g z held = go (ltb (row_of (table_of f) z) (length (table_of g))) refl
  where
    same : row_of (table_of f) z ≡ row_of wide_rows z
    same = form_row f z held

    go : (t : Bool) → ltb (row_of (table_of f) z) (length (table_of g)) ≡ t → t ≡ in_table (table_of g) z
    go true e =
        let i< : row_of wide_rows z < length (table_of g) = omega (arith, same, ltb-true (row_of (table_of f) z) (length (table_of g)) e) in
        sym (row-in_table (table_of g) z (omega (arith, form_row-first g z (row_of wide_rows z) i< refl)))
    go false e =
        sym
        (not_so (in_table (table_of g) z) (λ h.
        omega (arith, same, form_row g z h, in_table-row (table_of g) z h, ltb-false (row_of (table_of f) z) (length (table_of g)) e)))

-- the code by one of the first four rows is the same in both
shared_row : (f g : Form) (z : ℤ) → in_table (table_of f) z ≡ true → row_of (table_of f) z < 4 → Shared f g z
shared_row f g z held h =
    let i = row_of (table_of f) z in
    let in_g : in_table (table_of g) z ≡ true = sym (row-test f g z held) ∙ lt-ltb i (length (table_of g)) (omega (arith, form_more g)) in
    let is : row_of (table_of g) z ≡ i = form_row g z in_g ∙ sym (form_row f z held) in
    record {
      held = in_g;
      alike =
          code_row no_row z (table_of g) in_g
          ∙ ap (λ (j : ℕ). code_in (get_or (table_of g) j no_row) z) is
          ∙ ap (λ (r : Row). code_in r z) (four_rows g i h ∙ sym (four_rows f i h))
          ∙ sym (code_row no_row z (table_of f) held);
    }

-- so whatever code of these stands at the top of a word, every form has it
pub shared_code : (f : Form) (w : ℕ) (lead : Lead) → lead.row.index < 4
    → ((body : List ℕ) (at k : ℕ) → 5 ≤ k → k ≤ 64 → Fore k body at w → Led (table_of f) (drop at (bits body)) lead) → SharedCode f w lead.len
shared_code f w lead four led body at k five fits e z s =
    let l = led body at k five fits e z s in
    (l.1, λ g. shared_row f g z s.held (omega (arith, l.0, four)))

-- three such codes, each in the word without those before it
pub three_shared : (f : Form) (w n m k : ℕ) → n ≤ 16 → m ≤ 16 → SharedCode f w n → SharedCode f (w * 2 ^ n % 2 ^ 64) m → SharedCode f (w * 2 ^ n % 2 ^ 64 * 2 ^ m % 2 ^ 64) k
    → (body : List ℕ) (at : ℕ) → Ahead body at w → ThreeShared f body at (n + m + k)
three_shared f w n m k n≤ m≤ one two three body at alike g x y z st =
    let rs = table_of f in
    let lx = one body at 57 (omega arith) (omega arith) alike x st.first in
    let room = code-room f body at x st.first in
    let v = w * 2 ^ n % 2 ^ 64 in
    let fore = fore_shift body at w 57 n (omega arith) (omega arith) (omega (arith, lx.0, room.1)) alike in
    let here : at + length (code rs x) ≡ at + n = omega (arith, lx.0) in
    let second : CodeStands rs (drop (at + n) (bits body)) y = subst (λ (j : ℕ). CodeStands rs (drop j (bits body)) y) here st.second in
    let ly = two body (at + n) (57 - n) (omega arith) (omega arith) fore y second in
    let room2 = code-room f body (at + n) y second in
    let fore2 = fore_shift body (at + n) v (57 - n) m (omega arith) (omega arith) (omega (arith, ly.0, room2.1)) fore in
    let there : at + length (code rs x) + length (code rs y) ≡ at + n + m = omega (arith, lx.0, ly.0) in
    let third : CodeStands rs (drop (at + n + m) (bits body)) z = subst (λ (j : ℕ). CodeStands rs (drop j (bits body)) z) there st.third in
    let lz = three body (at + n + m) (57 - n - m) (omega arith) (omega arith) fore2 z third in
    (omega (arith, lx.0, ly.0, lz.0), lx.1 g, ly.1 g, lz.1 g)

-- ---- a code's prefix and the bits after it, as one field

module _ (f : Form) (l : Lead) (body : List ℕ) (at w : ℕ) (inside : l.row.index < length (table_of f)) (narrow : (row_at l.row).width ≤ l.len)
    (room : at + l.len ≤ 8 * length body) (alike : Ahead body at w) (size prefix : ℕ) (p : PrefixIs (get_or (table_of f) l.row.index no_row) prefix size)
    (near : l.len ≤ 57) (k rest : ℕ) (ek : k ≡ (row_at l.row).width) (er : rest ≡ w / 2 ^ (64 - l.len) % 2 ^ k) where
  pub one_field : size + k ≤ 64
  one_field =
      omega (arith, ap length p.bits, length_digits 2 size prefix, prefix_short 5 (table_of f) (form_sound f).short l.row.index inside)

  rest_fits : rest < 2 ^ k
  rest_fits = rw er (mod-lt (w / 2 ^ (64 - l.len)) (pow_pos k))

  pub field_fits : prefix * 2 ^ k % 2 ^ 64 + rest < 2 ^ 64
  field_fits = two_fits size k p.fits rest_fits one_field

  pub field_lt : prefix * 2 ^ k % 2 ^ 64 + rest < 2 ^ (size + k)
  field_lt = two_lt size k p.fits rest_fits one_field

  pub field_is : bits_of (size + k) (prefix * 2 ^ k % 2 ^ 64 + rest)
      ≡ (get_or (table_of f) l.row.index no_row).prefix ++ take (row_at l.row).width (drop (at + (l.len - (row_at l.row).width)) (bits body))
  field_is =
      two-bits size k p.fits rest_fits one_field
      ∙ ap₂ (λ (d e : List ℕ). d ++ e) (sym p.bits)
      (ap (bits_of k) er ∙ field_bits body at w l.len k alike near room (omega arith)
      ∙ ap (λ (j : ℕ). take j (drop (at + (l.len - j)) (bits body))) ek)

module _ (f g : Form) (z : ℤ) (in_f : in_table (table_of f) z ≡ true) (in_g : in_table (table_of g) z ≡ true) where
  -- the row has the same index and the same width in both
  abbrev index : ℕ
  index = row_of (table_of f) z

  abbrev width : ℕ
  width = (get_or wide_rows index no_row).width

  width_in : (h : Form) → in_table (table_of h) z ≡ true → row_of (table_of h) z ≡ index → (get_or (table_of h) index no_row).width ≡ width
  width_in h e is = ap (λ (r : Row). r.width) (same_range h index (omega (arith, is, in_table-row (table_of h) z e)))

  code_in_lem : (h : Form) → in_table (table_of h) z ≡ true → row_of (table_of h) z ≡ index → code (table_of h) z ≡ (get_or (table_of h) index no_row).prefix ++ bits_of width (residue width z)
  code_in_lem h e is =
      code_row no_row z (table_of h) e
      ∙ ap (λ (j : ℕ). code_in (get_or (table_of h) j no_row) z) is
      ∙ ap (λ (w : ℕ). (get_or (table_of h) index no_row).prefix ++ bits_of w (residue w z)) (width_in h e is)

  -- so its code in the one has its bits after the prefix from that in the other
  recoded : (ds rest : List ℕ) (n : ℕ) → ds ≡ code (table_of f) z ++ rest → n ≡ length (code (table_of f) z)
      → (width ≤ n) × ((get_or (table_of g) index no_row).prefix ++ take width (drop (n - width) ds) ≡ code (table_of g) z)
  recoded ds rest n e en =
      let p = (get_or (table_of f) index no_row).prefix in
      let x = bits_of width (residue width z) in
      let c : code (table_of f) z ≡ p ++ x = code_in_lem f in_f refl in
      let size : length x ≡ width = length_digits 2 width (residue width z) in
      let m : n ≡ length p + width = en ∙ ap length c ∙ length-append p x ∙ ap (λ (k : ℕ). length p + k) size in
      let d : drop (n - width) ds ≡ x ++ rest = ap (drop (n - width)) (e ∙ ap (λ (l : List ℕ). l ++ rest) c ∙ append_assoc p x rest) ∙ drop_at p (x ++ rest) (n - width) (omega (arith, m)) in
      let is : row_of (table_of g) z ≡ index = form_row g z in_g ∙ sym (form_row f z in_f) in
      (omega (arith, m), ap (λ (l : List ℕ). (get_or (table_of g) index no_row).prefix ++ l) (ap (take width) d ∙ take_at x rest width size) ∙ sym (code_in_lem g in_g is))

  -- by the row that was found, in a body
  pub recoded_at : (body rest : List ℕ) (at i n : ℕ) → drop at (bits body) ≡ code (table_of f) z ++ rest → i ≡ index → n ≡ length (code (table_of f) z)
      → ((get_or wide_rows i no_row).width ≤ n)
      × ((get_or (table_of g) i no_row).prefix ++ take (get_or wide_rows i no_row).width (drop (at + (n - (get_or wide_rows i no_row).width)) (bits body)) ≡ code (table_of g) z)
  recoded_at body rest at i n e is en =
      let r = recoded (drop at (bits body)) rest n e en in
      rw is
      (r.0, ap (λ (l : List ℕ). (get_or (table_of g) index no_row).prefix ++ take width l) (sym (drop-drop (n - width) at (bits body))) ∙ r.1)
