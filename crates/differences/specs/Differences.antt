-- Document 02, No. 7: what differs between two runs, one difference after the other. The standard term is a diff.
--   property_difference p a b      the difference in the property p, whose values are a and b
--   more_difference m n            how many points only the longer of two runs has, by their numbers of points
--   values_at xs ys i              the values at the index i, where both lists have one there and they are not the same
--   position_by i z, ratio_by i z  the difference that the two values z at the index i make, as positions and as ratios
--   position_at ts us i            the difference between the positions ts and us at the index i
--   ratio_at vs ws i               that between the ratios vs and ws, by the kinds and the bits of both
--   listed d                       the list of the difference d: nothing where there is none
--   points_to r q n                the differences at the indices below n, in rising order, the position's before the ratio's
--   differences r q                all differences of the runs r and q: rate, side, count, form, those at each index that both have, and the points
--                                  that only the longer one has
-- `None` says that there is no difference.
use Rattle.std.specs.Prelude.{Option, Some, None, option_map, cond, List, [], ◌∷◌, ◌++◌, ℕ, zero, suc, ◌+◌, ◌-◌, min, eqb, ltb, length, get_or}
use Rattle.lists.specs.Compare.{both}
use Rattle.kind.specs.Kinds.{kind_of}
use Rattle.record_format.specs.Runs.{Run, positions_tag}
use Rattle.differences.specs.declared.Property.{Property}
use Rattle.differences.specs.declared.Property.TheVariants.{Rate, Side, Count, Form}
use Rattle.differences.specs.declared.Difference.{Difference}
use Rattle.differences.specs.declared.Difference.TheVariants.{InProperty, Position, Ratio, More}

-- ---- of no index

-- both values, where they are not the same
abbrev pub property_difference : Property → ℕ → ℕ → Option Difference
property_difference p a b = cond (eqb a b) None (Some (InProperty p a b))

-- the larger number less the smaller one; the other of the two subtractions gives 0
abbrev pub more_difference : ℕ → ℕ → Option Difference
more_difference m n = cond (eqb m n) None (Some (More ((m - n) + (n - m))))

-- ---- at an index

-- nothing at an index that not both have
abbrev pub values_at : List ℕ → List ℕ → ℕ → Option (ℕ × ℕ)
values_at xs ys i =
    let x = get_or xs i 0 in
    let y = get_or ys i 0 in
    cond (both (ltb i (length xs)) (ltb i (length ys))) (cond (eqb x y) None (Some (x, y))) None

-- of a position: both values
abbrev pub position_by : ℕ → ℕ × ℕ → Difference
position_by i z = Position i z.0 z.1

-- of a ratio: the bits of each, and its kind
abbrev pub ratio_by : ℕ → ℕ × ℕ → Difference
ratio_by i z = Ratio i z.0 (kind_of z.0) z.1 (kind_of z.1)

-- the position at the index i
unfoldable pub position_at : List ℕ → List ℕ → ℕ → Option Difference
position_at ts us i = option_map (position_by i) (values_at ts us i)

-- the ratio at the index i
unfoldable pub ratio_at : List ℕ → List ℕ → ℕ → Option Difference
ratio_at vs ws i = option_map (ratio_by i) (values_at vs ws i)

-- ---- all of them

-- nothing equal is listed
abbrev pub listed : Option Difference → List Difference
listed None = []
listed (Some d) = d ∷ []

-- index by index
unfoldable pub points_to : Run → Run → ℕ → List Difference
points_to r q zero = []
points_to r q (suc n) =
    points_to r q n ++ (listed (position_at r.positions q.positions n) ++ listed (ratio_at r.ratios q.ratios n))

-- the whole list; the value of a form is the tag of the positions' field
unfoldable pub differences : Run → Run → List Difference
differences r q =
    let m = length r.positions in
    let n = length q.positions in
    listed (property_difference Rate r.rate q.rate)
    ++ (listed (property_difference Side r.side q.side)
    ++ (listed (property_difference Count m n)
    ++ (listed (property_difference Form (positions_tag r.form) (positions_tag q.form))
    ++ (points_to r q (min m n)
    ++ listed (more_difference m n)))))
