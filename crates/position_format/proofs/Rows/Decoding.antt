-- A step read from bits: the row whose prefix they begin with, and that a step's code gives the step and leaves what follows it.
use mathlib.Core.Bool.{true, false≢true}
use mathlib.Core.List.{List, [], ◌∷◌, ◌++◌, append_assoc}
use mathlib.Core.Path.{◌≡◌, refl, sym, ap, ap₂, ◌∙◌}
use Prim.Native.Nat.{ℕ, zero, suc, ◌^◌, ◌≤◌, ◌<◌}
use native.Mathlib.Omega.{arith}
use lib.IntN.{ℤ}
use lib.ListN.{length, get_or, take, drop, length-drop}
use lib.Seq.{take_at, drop_at, length-take-le, take-add}
use Rattle.lists.specs.Below.{Below}
use Rattle.lists.specs.Compare.{begins}
use Rattle.bits.specs.Digits.{bits_of, number_of}
use Rattle.lists.proofs.Below.{below_take, below_drop}
use Rattle.lists.proofs.Compare.{begins_own, begins_rest, begins-take}
use Rattle.bits.proofs.Digits.{two⁺, length_digits, number_lt, number_digits_lt, digits_number}
use Rattle.position_format.specs.Rows.{Row, holds, in_table, residue, reading, code_in, code_length, code, no_row, row_of}
use Rattle.position_format.specs.Positions.{StepTaken, step_at}
use Rattle.lists.proofs.Lists.Tests.{every_at}
use Rattle.position_format.proofs.Rows.Prefixes.{apart_not}
use Rattle.position_format.proofs.Rows.{good_table, full, apart, good_cons, good_full, residue_lt, reading-residue, residue-reading}
use Rattle.position_format.proofs.Rows.Codes.{in_table-row, row-in_table, row-holds, code_row}

-- a step and the bits after it
abbrev pub taken : ℤ → List ℕ → StepTaken
taken z ds = record { step = z; rest = ds }

-- by the row r, of the bits after its prefix
abbrev pub taken_by : Row → List ℕ → StepTaken
taken_by r ds = taken (reading r (number_of 2 (take r.width ds))) (drop r.width ds)

-- the row whose prefix the bits begin with reads them
pub step_at-row : (d : Row) (rs : List Row) → good_table rs ≡ true → (i : ℕ) → i < length rs → (ds : List ℕ) → step_at rs ((get_or rs i d).prefix ++ ds) ≡ taken_by (get_or rs i d) ds
unfolding step_at
step_at-row d [] g i h ds = absurd (omega arith)
step_at-row d (r ∷ rs) g zero h ds = rw (begins_own r.prefix ds, drop_at r.prefix ds (length r.prefix) refl)
step_at-row d (r ∷ rs) g (suc i) h ds =
    let c = good_cons r rs g in
    rw (apart_not r.prefix (get_or rs i d).prefix ds (every_at (λ (s : Row). apart r.prefix s.prefix) rs d c.apart i (omega arith)))
    (step_at-row d rs c.rest i (omega arith) ds)

-- a row's own bits
taken_by_code : (r : Row) → full r ≡ true → (z : ℤ) → holds r z ≡ true → (ds : List ℕ) → taken_by r (bits_of r.width (residue r.width z) ++ ds) ≡ taken z ds
taken_by_code r f z e ds =
    let x = residue r.width z in
    let n : length (bits_of r.width x) ≡ r.width = length_digits 2 r.width x in
    ap₂ taken
    (ap (λ (l : List ℕ). reading r (number_of 2 l)) (take_at (bits_of r.width x) ds r.width n)
    ∙ ap (reading r) (number_digits_lt two⁺ r.width (residue_lt r.width z)) ∙ reading-residue r f z e)
    (drop_at (bits_of r.width x) ds r.width n)

-- a step's code gives the step, and leaves what follows it
pub step_at-code : (rs : List Row) → good_table rs ≡ true → (z : ℤ) → in_table rs z ≡ true → (ds : List ℕ) → step_at rs (code rs z ++ ds) ≡ record { step = z; rest = ds }
step_at-code rs g z e ds =
    let r = get_or rs (row_of rs z) no_row in
    let h : row_of rs z < length rs = in_table-row rs z e in
    ap (λ (l : List ℕ). step_at rs (l ++ ds)) (code_row no_row z rs e)
    ∙ ap (step_at rs) (append_assoc r.prefix (bits_of r.width (residue r.width z)) ds)
    ∙ step_at-row no_row rs g (row_of rs z) h (bits_of r.width (residue r.width z) ++ ds)
    ∙ taken_by_code r (good_full no_row rs g (row_of rs z) h) z (row-holds no_row z rs e) ds

-- the code of a step begins with its row's prefix
pub code-begins : (d : Row) (rs : List Row) (z : ℤ) → in_table rs z ≡ true → (ds : List ℕ) → begins (get_or rs (row_of rs z) d).prefix (code rs z ++ ds) ≡ true
code-begins d rs z e ds =
    let r = get_or rs (row_of rs z) d in
    rw (code_row d z rs e, append_assoc r.prefix (bits_of r.width (residue r.width z)) ds) (begins_own r.prefix (bits_of r.width (residue r.width z) ++ ds))

-- ---- bits that begin with the prefix of the row of index k

not_both : (d r : Row) (rs : List Row) → good_table (r ∷ rs) ≡ true → (ds : List ℕ) (j : ℕ) → j < length rs → begins r.prefix ds ≡ true → begins (get_or rs j d).prefix ds ≡ true → ⊥
not_both d r rs g ds j h b c =
    let t = begins_rest (get_or rs j d).prefix ds c in
    false≢true (sym (apart_not r.prefix (get_or rs j d).prefix t.0 (every_at (λ (s : Row). apart r.prefix s.prefix) rs d (good_cons r rs g).apart j h)) ∙ rw t.1 at b)

-- at most one row's prefix is a beginning
pub prefix_one : (d : Row) (rs : List Row) → good_table rs ≡ true → (ds : List ℕ) (i j : ℕ) → i < length rs → j < length rs
    → begins (get_or rs i d).prefix ds ≡ true → begins (get_or rs j d).prefix ds ≡ true → i ≡ j
prefix_one d [] g ds i j hi hj bi bj = absurd (omega arith)
prefix_one d (r ∷ rs) g ds zero zero hi hj bi bj = refl
prefix_one d (r ∷ rs) g ds zero (suc j) hi hj bi bj = absurd (not_both d r rs g ds j (omega arith) bi bj)
prefix_one d (r ∷ rs) g ds (suc i) zero hi hj bi bj = absurd (not_both d r rs g ds i (omega arith) bj bi)
prefix_one d (r ∷ rs) g ds (suc i) (suc j) hi hj bi bj = ap suc (prefix_one d rs (good_cons r rs g).rest ds i j (omega arith) (omega arith) bi bj)

module _ (d : Row) (rs : List Row) (good : good_table rs ≡ true) (k : ℕ) (k< : k < length rs) (ds : List ℕ) (front : begins (get_or rs k d).prefix ds ≡ true) where
  -- the row, the bits after its prefix, and what they are read as
  abbrev here : Row
  here = get_or rs k d

  after_prefix : here.prefix ++ drop (length here.prefix) ds ≡ ds
  after_prefix =
      let b = begins_rest here.prefix ds front in
      ap (λ (l : List ℕ). here.prefix ++ l) (ap (drop (length here.prefix)) b.1 ∙ drop_at here.prefix b.0 (length here.prefix) refl) ∙ sym b.1

  pub step_at-front : step_at rs ds ≡ taken_by here (drop (length here.prefix) ds)
  step_at-front = ap (step_at rs) (sym after_prefix) ∙ step_at-row d rs good k k< (drop (length here.prefix) ds)

  -- where the code of a step stands there, the bits are read as that step
  module _ (z : ℤ) (e : in_table rs z ≡ true) (es : List ℕ) (is : ds ≡ code rs z ++ es) where
    pub front-step : reading here (number_of 2 (take here.width (drop (length here.prefix) ds))) ≡ z
    front-step = ap (λ (t : StepTaken). t.step) (sym step_at-front ∙ ap (step_at rs) is ∙ step_at-code rs good z e es)

  -- where there are bits enough, the row holds what they are read as, and they are its code by this row
  module _ (below : Below 2 ds) (enough : code_length here ≤ length ds) where
    abbrev field : List ℕ
    field = take here.width (drop (length here.prefix) ds)

    length_field : length field ≡ here.width
    length_field = length-take-le here.width (drop (length here.prefix) ds) (omega (arith, length-drop (length here.prefix) ds))

    below_field : Below 2 field
    below_field = below_take 2 here.width (drop (length here.prefix) ds) (below_drop 2 (length here.prefix) ds below)

    field_lt : number_of 2 field < 2 ^ here.width
    field_lt = rw length_field at (number_lt 2 field below_field)

    pub front_in : code_in here (reading here (number_of 2 field)) ≡ take (code_length here) ds
    front_in =
        let digits : bits_of here.width (number_of 2 field) ≡ field = rw length_field at (digits_number 2 field below_field) in
        ap (λ (x : ℕ). here.prefix ++ bits_of here.width x) (residue-reading here (good_full d rs good k k<) (number_of 2 field) field_lt)
        ∙ ap (λ (l : List ℕ). here.prefix ++ l) digits
        ∙ sym (take-add (length here.prefix) here.width ds ∙ ap (λ (l : List ℕ). l ++ field) (begins-take here.prefix ds front))

    -- so they are its code where no row before this one holds it
    module _ (lead : row_of rs (reading here (number_of 2 field)) ≡ k) where
      pub front_table : in_table rs (reading here (number_of 2 field)) ≡ true
      front_table = row-in_table rs (reading here (number_of 2 field)) (omega arith)

      pub front-code : code rs (reading here (number_of 2 field)) ≡ take (code_length here) ds
      front-code =
          code_row d (reading here (number_of 2 field)) rs front_table
          ∙ ap (λ (i : ℕ). code_in (get_or rs i d) (reading here (number_of 2 field))) lead ∙ front_in
