-- Document 01, "Numbers that bound it", with document 02, No. 2 and No. 3: the sizes of a record and of its bodies, as statements. Each is proved
-- in proofs/Sizes.
--   min_record, max_record  the fewest and the most bytes of a record
--   max_positions_body f, max_ratios_body f  the most bytes of the bodies of positions and of ratios of a run in the form f
--   longest_on f d   the most bytes of the record of a run in the form f on the side d
--   Within           an accepted run's record has 18 to 61,709 bytes: in the old form 18 to 55,321 on side 0, and 22 to 55,325 on any other, in the
--                    wide form 18 to 61,705 and 22 to 61,709; its positions' body has at most 18,439 or 30,187, its ratios' at most 36,864 or 31,500
--   NoPoints         the record of no points has 18 bytes, or 22 on a side, and at each rate of the list, on each side and in each form that run is
--                    accepted
--   first_values f n the values f 0, f 1, .., n of them; swing f, which goes as far as far_of f, and two_ends: those of the longest run's positions and
--                    ratios
--   longest f d      a run in the form f on the side d whose record is as long as it can be
--   Reached          in each form and on each side it is accepted, and its record and its positions' body have that length: 55,321 and 55,325
--                    bytes, 61,705 and 61,709, and 18,439 and 30,187
use Rattle.std.specs.Prelude.{true, List, [], ◌∷◌, ◌≡◌, ℕ, zero, suc, ◌+◌, ◌*◌, ◌/◌, ◌%◌, ◌^◌, ◌≤◌, length}
use Rattle.limits.specs.Rates.{is_rate}
use Rattle.limits.specs.Sides.{max_side}
use Rattle.position_format.specs.declared.Form.{Form}
use Rattle.position_format.specs.declared.Form.TheVariants.{Old, Wide}
use Rattle.position_format.specs.Tables.{table_of, points_of}
use Rattle.position_format.specs.Positions.{coded_positions}
use Rattle.ratio_format.specs.Windows.{window_size}
use Rattle.ratio_format.specs.Bodies.{coded_ratios}
use Rattle.record_format.specs.Runs.{Run, run, side_length, record_of}
use Rattle.record_format.specs.Claims.{Accepted}

-- four heads, the rate and the count
abbrev pub min_record : ℕ
min_record = 18

-- 128 bits for the first two positions, and then 36 for each of 4,094 more, or 69 for each of 3,498, laid in bytes
abbrev pub max_positions_body : Form → ℕ
max_positions_body Old = (128 + 36 * 4094 + 7) / 8
max_positions_body Wide = (128 + 69 * 3498 + 7) / 8

-- nine bytes for each ratio
abbrev pub max_ratios_body : Form → ℕ
max_ratios_body f = 9 * points_of f

-- with the longest bodies
abbrev pub longest_on : Form → ℕ → ℕ
longest_on f d = min_record + side_length d + max_positions_body f + max_ratios_body f

-- in the wide form with the field of a side, the longest of all
abbrev pub max_record : ℕ
max_record = longest_on Wide max_side

-- the bounds, for every accepted run
abbrev pub Within : Type 0
Within = (r : Run) → Accepted r
    → (min_record + side_length r.side ≤ length (record_of r))
    × (length (record_of r) ≤ max_record)
    × (length (record_of r) ≤ longest_on r.form r.side)
    × (length (coded_positions (table_of r.form) r.positions) ≤ max_positions_body r.form)
    × (length (coded_ratios r.ratios) ≤ max_ratios_body r.form)

-- no points: the lower bound is reached
abbrev pub NoPoints : Type 0
NoPoints = (rate side : ℕ) (form : Form)
    → (length (record_of (run rate side form [] [])) ≡ min_record + side_length side)
    × (is_rate rate ≡ true → side ≤ max_side → Accepted (run rate side form [] []))

-- n values of f, from f 0 on
unfoldable pub first_values : {A : Type 0} → (ℕ → A) → ℕ → List A
first_values f zero = []
first_values f (suc n) = f 0 ∷ first_values (λ i. f (suc i)) n

-- how far the longest run's positions swing: in each form every step takes as many bits as a code can have
abbrev pub far_of : Form → ℕ
far_of Old = 5000
far_of Wide = 2 ^ 40

-- positions 0, 5,000, 0, 5,000, .., so that every step is -10,000 or 10,000 and takes 36 bits; or 0, 2^40, .., with steps of 69 bits
abbrev pub swing : Form → ℕ → ℕ
swing f i = i % 2 * far_of f

-- i modulo 128, one more than a window holds, in the top byte and in the lowest: any two of 128 in a row differ in both bytes, so that each is an
-- exception
abbrev pub two_ends : ℕ → ℕ
two_ends i = i % (window_size + 1) * (2 ^ 56 + 1)

-- as many points as a run can have, each as long as it can be
unfoldable pub longest : Form → ℕ → Run
longest f d = run 44100 d f (first_values (swing f) (points_of f)) (first_values two_ends (points_of f))

-- the upper bounds are reached
abbrev pub Reached : Type 0
Reached =
    ((f : Form) (d : ℕ) → d ≤ max_side
    → Accepted (longest f d)
    × (length (record_of (longest f d)) ≡ longest_on f d)
    × (length (coded_positions (table_of f) (longest f d).positions) ≡ max_positions_body f))
    × (length (record_of (longest Old 0)) ≡ 55321)
    × (length (record_of (longest Old max_side)) ≡ 55325)
    × (length (record_of (longest Wide 0)) ≡ 61705)
    × (length (record_of (longest Wide max_side)) ≡ 61709)
    × (max_positions_body Old ≡ 18439)
    × (max_positions_body Wide ≡ 30187)
    × (max_record ≡ 61709)
