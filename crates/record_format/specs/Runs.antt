-- Document 01, "What a run record holds" and "The record", with the side and the form of document 02, No. 2 and No. 3.
--   Run, run       a rate, a side, the form that it is written in, positions and ratios. The standard term is a time series; its points are its
--                  samples, a sample position and the ratio there, the 64 bits of an IEEE 754 double. The side is that of the disc, 0 for none
--   rate_tag .. ratios_tag  the tags of the fields, by what they hold; that of the positions' field is by its form, and positions_tags has them all
--   form_of t      the form that the tag t names
--   rate_size, side_size, count_size  how many bytes the rate, the side and the count take
--   side_fields n  the field of the side n, an optional one: none for side 0; side_length n: how many bytes it takes
--   rate_field r, count_field n, positions_field f ts, ratios_field vs  the fields of the rate r, of the count n, of the positions ts in the form f, and of
--                  the ratios vs
--   front_fields r d n  the fields of the rate r, of the side d unless it is 0, and of the count n
--   fields_of r    the fields of the record of the run r: those, coded positions, coded ratios, each once, in this order
--   record_of r    the record of the run r: its fields laid end to end
use Rattle.std.specs.Prelude.{cond, List, [], ◌∷◌, ◌++◌, ℕ, zero, suc, ◌+◌, eqb, length}
use Rattle.bits.specs.Digits.{bytes_of}
use Rattle.position_format.specs.declared.Form.{Form}
use Rattle.position_format.specs.declared.Form.TheVariants.{Old, Wide}
use Rattle.position_format.specs.Tables.{table_of}
use Rattle.position_format.specs.Positions.{coded_positions}
use Rattle.ratio_format.specs.Bodies.{coded_ratios}
use Rattle.record_format.specs.Fields.{Field, field_of, head_size, laid}

-- what is written and read
pub record Run : Type 0 where
  pub rate : ℕ
  pub side : ℕ
  pub form : Form
  pub positions : List ℕ
  pub ratios : List ℕ

-- a run by its parts
abbrev pub run : ℕ → ℕ → Form → List ℕ → List ℕ → Run
run rate side form positions ratios = record { rate = rate; side = side; form = form; positions = positions; ratios = ratios }

-- the tag of the rate's field
abbrev pub rate_tag : ℕ
rate_tag = 1

-- of the side's
abbrev pub side_tag : ℕ
side_tag = 6

-- of the count's
abbrev pub count_tag : ℕ
count_tag = 2

-- of the positions', in each form
abbrev pub positions_tag : Form → ℕ
positions_tag Old = 3
positions_tag Wide = 5

-- in either
abbrev pub positions_tags : List ℕ
positions_tags = positions_tag Old ∷ positions_tag Wide ∷ []

-- 5 names the wide form, and every other number the old one
abbrev pub form_of : ℕ → Form
form_of t = cond (eqb t (positions_tag Wide)) Wide Old

-- of the ratios'
abbrev pub ratios_tag : ℕ
ratios_tag = 4

-- the bytes of a rate
abbrev pub rate_size : ℕ
rate_size = 4

-- of a side
abbrev pub side_size : ℕ
side_size = 1

-- and of a count
abbrev pub count_size : ℕ
count_size = 2

-- the rate, a number
abbrev pub rate_field : ℕ → Field
rate_field r = field_of rate_tag (bytes_of rate_size r)

-- no side, no field
abbrev pub side_fields : ℕ → List Field
side_fields zero = []
side_fields (suc n) = field_of side_tag (bytes_of side_size (suc n)) ∷ []

-- no byte, or a head and a byte: the length of that field, laid (length_side, in proofs/Runs)
abbrev pub side_length : ℕ → ℕ
side_length zero = 0
side_length (suc n) = head_size + side_size

-- the count, a number
abbrev pub count_field : ℕ → Field
count_field n = field_of count_tag (bytes_of count_size n)

-- coded positions
abbrev pub positions_field : Form → List ℕ → Field
positions_field f ts = field_of (positions_tag f) (coded_positions (table_of f) ts)

-- coded ratios
abbrev pub ratios_field : List ℕ → Field
ratios_field vs = field_of ratios_tag (coded_ratios vs)

-- rate, side, count
abbrev pub front_fields : ℕ → ℕ → ℕ → List Field
front_fields r d n = rate_field r ∷ (side_fields d ++ (count_field n ∷ []))

-- the front, positions, ratios
abbrev pub fields_of : Run → List Field
fields_of r = front_fields r.rate r.side (length r.positions) ++ (positions_field r.form r.positions ∷ ratios_field r.ratios ∷ [])

-- the fields, end to end
unfoldable pub record_of : Run → List ℕ
record_of r = laid (fields_of r)
