-- Laws of a run's record: the forms and their tags, which field is which, how long the bodies of its fields are, and how long it is.
use mathlib.Core.Bool.{Bool, true, false, false≢true}
use mathlib.Core.List.{List, [], ◌∷◌, ◌++◌}
use mathlib.Core.Path.{◌≡◌, refl, ap, ap₂, ◌∙◌}
use Prim.Native.Nat.{ℕ, zero, suc, ◌+◌, ◌≤◌}
use native.Mathlib.Omega.{arith}
use lib.Dec.{eqb, lit≤}
use lib.ListN.{length, length-append}
use Rattle.lists.specs.Lists.{member}
use Rattle.bits.proofs.Digits.{length_digits}
use Rattle.position_format.specs.declared.Form.{Form}
use Rattle.position_format.specs.declared.Form.TheVariants.{Old, Wide}
use Rattle.position_format.specs.Positions.{coded_positions, valid_positions}
use Rattle.position_format.specs.Tables.{table_of, points_of}
use Rattle.position_format.proofs.Positions.Sizes.{form_size}
use Rattle.ratio_format.specs.Windows.{window_size}
use Rattle.ratio_format.specs.Bodies.{coded_ratios}
use Rattle.ratio_format.proofs.Bodies.{nine_bytes}
use Rattle.record_format.specs.Fields.{head_size, max_body, field_bytes, laid}
use Rattle.record_format.specs.Runs.{Run, run, positions_tag, positions_tags, form_of, rate_size, side_size, count_size, rate_field, side_fields, side_length, count_field, positions_field, ratios_field, front_fields, fields_of, record_of}
use Rattle.record_format.specs.Sizes.{min_record, max_positions_body, max_ratios_body}
use Rattle.record_format.proofs.Fields.{Small, length_field, length-laid, laid-append, small_append}
use Rattle.record_format.proofs.Writing.{Fitting}

-- a run is its parts
pub same-run : (r q : Run) → r.rate ≡ q.rate → r.side ≡ q.side → r.form ≡ q.form → r.positions ≡ q.positions → r.ratios ≡ q.ratios → r ≡ q
same-run r q a d f b c =
    ap₂ (λ (x y : ℕ). run x y r.form r.positions r.ratios) a d
    ∙ ap (λ (x : Form). run q.rate q.side x r.positions r.ratios) f
    ∙ ap₂ (λ (x y : List ℕ). run q.rate q.side q.form x y) b c

-- ---- the forms and their tags

pub form_of_lem : (f : Form) → form_of (positions_tag f) ≡ f
form_of_lem Old = refl
form_of_lem Wide = refl

-- the tag of either form is good
pub tag_good : (f : Form) → member (positions_tag f) positions_tags ≡ true
unfolding member
tag_good Old = refl
tag_good Wide = refl

-- and a good tag is that of the form that it names
pub tag_named : (t : ℕ) → member t positions_tags ≡ true → member t (positions_tag (form_of t) ∷ []) ≡ true
unfolding member
tag_named t e = go (eqb t (positions_tag Wide)) refl (eqb t (positions_tag Old)) refl
  where
    go : (b : Bool) → eqb t (positions_tag Wide) ≡ b → (c : Bool) → eqb t (positions_tag Old) ≡ c → member t (positions_tag (form_of t) ∷ []) ≡ true
    go true q c u = rw (q, q)
    go false q true u = rw (q, u)
    go false q false u = absurd (false≢true (rw (q, u) at e))

-- ---- its fields by what they hold: indices in all of them, in those from the side's on, and in those from the count's on

abbrev pub rate_index : ℕ
rate_index = 0

-- or else the count's, which stands in its place
abbrev pub side_index : ℕ
side_index = 0

abbrev pub count_index : ℕ
count_index = 0

abbrev pub positions_index : ℕ
positions_index = 1

abbrev pub ratios_index : ℕ
ratios_index = 2

-- how many fields tell where the count's stands: the rate's and the one past it
abbrev pub opening_field_count : ℕ
opening_field_count = 2

-- and how many from the count's on
abbrev pub closing_field_count : ℕ
closing_field_count = 3

-- ---- its front

pub length_side : (n : ℕ) → length (laid (side_fields n)) ≡ side_length n
length_side zero = length-laid []
length_side (suc n) = length-laid (side_fields (suc n)) ∙ omega (arith, length_digits 256 side_size (suc n))

side_small : (n : ℕ) → Small (side_fields n)
side_small zero = tt
side_small (suc n) = (omega (arith, length_digits 256 side_size (suc n)), tt)

pub length_front : (rate side count : ℕ) → length (laid (front_fields rate side count)) ≡ head_size + rate_size + side_length side + (head_size + count_size)
unfolding laid
length_front rate side count =
    length-append (field_bytes (rate_field rate)) (laid (side_fields side ++ (count_field count ∷ [])))
    ∙ omega
    (arith, length_field (rate_field rate), length_digits 256 rate_size rate, ap length (laid-append (side_fields side) (count_field count ∷ [])), length-append (laid (side_fields side)) (laid (count_field count ∷ [])), length_side side, length-laid (count_field count ∷ []), length_digits 256 count_size count)

-- its bodies are short
pub front_small : (rate side count : ℕ) → Small (front_fields rate side count)
front_small rate side count = (
  omega (arith, length_digits 256 rate_size rate),
  small_append (side_fields side) _ (side_small side) (omega (arith, length_digits 256 count_size count), tt),
)

-- ---- its length

-- the most bytes of the positions in a form
pub coded_size : (f : Form) (ts : List ℕ) → valid_positions (table_of f) ts ≡ true → length ts ≤ points_of f → length (coded_positions (table_of f) ts) ≤ max_positions_body f
coded_size Old ts v h = form_size Old ts v h
coded_size Wide ts v h = form_size Wide ts v h

-- and the length of each body takes two bytes
pub form_bodies : (f : Form) → (max_positions_body f ≤ max_body) × (max_ratios_body f ≤ max_body)
form_bodies Old = (lit≤ tt, lit≤ tt)
form_bodies Wide = (lit≤ tt, lit≤ tt)

module _ (r : Run) (fit : Fitting r) where
  pub positions_size : length (coded_positions (table_of r.form) r.positions) ≤ max_positions_body r.form
  positions_size = coded_size r.form r.positions fit.valid fit.few

  pub ratios_size : length (coded_ratios r.ratios) ≤ max_ratios_body r.form
  ratios_size = omega (arith, nine_bytes window_size [] r.ratios, fit.paired, fit.few)

  pub fields_small : Small (fields_of r)
  fields_small =
      let m = form_bodies r.form in
      small_append (front_fields r.rate r.side (length r.positions)) _ (front_small r.rate r.side (length r.positions))
      (omega (arith, positions_size, m.0), (omega (arith, ratios_size, m.1), tt))

pub length_record : (r : Run) → length (record_of r) ≡ min_record + side_length r.side + length (coded_positions (table_of r.form) r.positions) + length (coded_ratios r.ratios)
unfolding record_of
length_record r =
    let front = front_fields r.rate r.side (length r.positions) in
    let points = positions_field r.form r.positions ∷ ratios_field r.ratios ∷ [] in
    ap length (laid-append front points) ∙ length-append (laid front) (laid points)
    ∙ omega (arith, length_front r.rate r.side (length r.positions), length-laid points)
