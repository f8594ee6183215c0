-- Document 02, No. 7, as statements. Those of two runs are proved in proofs/Claims and, InOrder, in proofs/Claims/Order; those of the calls in proofs/Claims/Calls;
-- those of two strings of bytes in proofs/Comparisons.
--   value_of p r      the value of the property p of the run r
--   HasBoth r q i     both runs have a point of index i
--   Differs r q d     the runs r and q differ in what d says, and d has the values of both: document 02's words, for each case
--   rank d            the place of d in the order of the list: rate, side, count, form; by rising index the position and then the ratio; more
--   Rising l          each element of l but the first has a larger rank than the one before it
-- Of two runs:
--   ListsExactly      nothing equal is listed, and nothing that differs is left out: d is in the list exactly when the runs differ in it
--   InOrder           the list is in this order, and so nothing is listed twice
--   EmptyWhenSame     the list is empty exactly when the two records are the same bytes
-- Of the calls, for all that they can be given:
--   AtIndex           at an index that both lists have there is a difference exactly where the numbers are not the same, and which it is
--   NoneBeyond        at an index that not both lists have there is no difference
--   Tells p x y d     d is the difference in the property p between the values x and y
--   OverallExactly    what `overall_of` answers: a refusal with no difference beside it, or the differences that are of no index, each in its place
-- Of two strings of bytes:
--   Compares          where they begin with the records of accepted runs the answer is their runs' differences, whatever follows either
--   ComparesOnly      only such strings have an answer other than a refusal
--   EmptyExactly      nothing is refused and the list is empty exactly when both begin with the same record
--   RefusesFirst, RefusesSecond   all else is refused as a check refuses it with no rate expected, the first record first, with which it was; never by 14,
--                     and never by 16
--   run_called a f    the run that a caller has: what a check answered, a, and of the outputs that a fetch left, f, the first `count` numbers
--   MakeUp, ByCalls   what the calls answer makes up the comparison, whatever room for the counts that the checks answered the fetches were lent: its
--                     refusal is that of `overall_of`, and its list the differences of that and those at each index
--   ComparisonTrailing   whatever follows a record changes no answer, also where the other record is refused; ComparisonFollowed: nor does what follows
--                     any whole fields. Both are parts of demand 3
use Rattle.std.specs.Prelude.{Option, Some, None, Result, Ok, Err, List, [], ◌∷◌, ◌++◌, ◌⊎◌, ◌↔◌, ◌≡◌, ℕ, ◌+◌, ◌*◌, ◌≤◌, ◌<◌, min, length, get_or, take}
use Rattle.lists.specs.Among.{Among}
use Rattle.kind.specs.Kinds.{kind_of}
use Rattle.record_format.specs.Claims.{Accepted, Beginning, Bytes}
use Rattle.record_format.specs.Reading.{end_at}
use Rattle.record_format.specs.Checking.{checked}
use Rattle.record_format.specs.Fetching.{Fetched, fetched}
use Rattle.record_format.specs.Runs.{Run, run, form_of, positions_tag, record_of}
use Rattle.record_format.specs.declared.CheckAnswer.{CheckAnswer}
use Rattle.differences.specs.declared.Property.{Property}
use Rattle.differences.specs.declared.Property.TheVariants.{Rate, Side, Count, Form}
use Rattle.differences.specs.declared.Difference.{Difference}
use Rattle.differences.specs.declared.Difference.TheVariants.{InProperty, Position, Ratio, More}
use Rattle.refusals.specs.Tests.{refusal}
use Rattle.differences.specs.declared.OverallDifferences.{OverallDifferences}
use Rattle.differences.specs.declared.Which.TheVariants.{First, Second}
use Rattle.differences.specs.declared.RefusedRecord.{RefusedRecord}
use Rattle.differences.specs.Differences.{position_at, ratio_at, listed, points_to, differences}
use Rattle.differences.specs.Numbers.{which_number}
use Rattle.differences.specs.Overall.{overall_of}
use Rattle.differences.specs.Comparisons.{Comparison, comparison}

-- ---- what a difference says

-- a form's is the positions' tag
abbrev pub value_of : Property → Run → ℕ
value_of Rate r = r.rate
value_of Side r = r.side
value_of Count r = length r.positions
value_of Form r = positions_tag r.form

-- an index below both counts
abbrev pub HasBoth : Run → Run → ℕ → Type 0
HasBoth r q i = (i < length r.positions) × (i < length q.positions)

-- the first run's value and the second's, which are not the same; of a ratio its kind beside its bits; of the points that only the longer run has their number, which is not 0
abbrev pub Differs : Run → Run → Difference → Type 0
Differs r q (InProperty p a b) = (a ≡ value_of p r) × (b ≡ value_of p q) × (a ≡ b → ⊥)
Differs r q (Position i t u) = HasBoth r q i × (t ≡ get_or r.positions i 0) × (u ≡ get_or q.positions i 0) × (t ≡ u → ⊥)
Differs r q (Ratio i v k w l) =
    HasBoth r q i × (v ≡ get_or r.ratios i 0) × (w ≡ get_or q.ratios i 0) × (v ≡ w → ⊥) × (k ≡ kind_of v) × (l ≡ kind_of w)
Differs r q (More n) =
    (n ≡ 0 → ⊥) × ((length r.positions ≡ length q.positions + n) ⊎ (length q.positions ≡ length r.positions + n))

-- ---- the order

-- no run has more than 4,096 points, so that the points that only the longer run has come last
abbrev pub rank : Difference → ℕ
rank (InProperty Rate a b) = 0
rank (InProperty Side a b) = 1
rank (InProperty Count a b) = 2
rank (InProperty Form a b) = 3
rank (Position i t u) = 4 + 2 * i
rank (Ratio i v k w l) = 5 + 2 * i
rank (More n) = 4 + 2 * 4096

-- one after the other
unfoldable pub Rising : List Difference → Type 0
Rising [] = Unit {0}
Rising (d ∷ []) = Unit {0}
Rising (d ∷ (e ∷ l)) = (rank d < rank e) × Rising (e ∷ l)

-- ---- the list of two runs

-- for each property and each index, in both directions
abbrev pub ListsExactly : Type 0
ListsExactly = (r q : Run) → Accepted r → Accepted q → (d : Difference) → Among d (differences r q) ↔ Differs r q d

-- rate, side, count, form, points, more
abbrev pub InOrder : Type 0
InOrder = (r q : Run) → Accepted r → Accepted q → Rising (differences r q)

-- records as bytes
abbrev pub EmptyWhenSame : Type 0
EmptyWhenSame = (r q : Run) → Accepted r → Accepted q → (differences r q ≡ []) ↔ (record_of r ≡ record_of q)

-- ---- the calls

-- of any two lists, as positions and as ratios
abbrev pub AtIndex : Type 0
AtIndex = (xs ys : List ℕ) (i : ℕ) → i < length xs → i < length ys
    → let x = get_or xs i 0 in
    let y = get_or ys i 0 in
    (x ≡ y → (position_at xs ys i ≡ None) × (ratio_at xs ys i ≡ None))
    × ((x ≡ y → ⊥) → (position_at xs ys i ≡ Some (Position i x y)) × (ratio_at xs ys i ≡ Some (Ratio i x (kind_of x) y (kind_of y))))

-- and past the end of either
abbrev pub NoneBeyond : Type 0
NoneBeyond = (xs ys : List ℕ) (i : ℕ) → (length xs ≤ i) ⊎ (length ys ≤ i) → (position_at xs ys i ≡ None) × (ratio_at xs ys i ≡ None)

-- by both values
abbrev pub Tells : Property → ℕ → ℕ → Option Difference → Type 0
Tells p x y d = (x ≡ y → d ≡ None) × ((x ≡ y → ⊥) → d ≡ Some (InProperty p x y))

-- of any two answers, the first record's refusal first; of the points that only the longer run has their number
abbrev pub OverallExactly : Type 0
OverallExactly = (a b : CheckAnswer)
    → let answer = overall_of a b in
    ((a.number ≡ 0 → ⊥) → answer ≡ Err (record { refusal = refusal a.number a.place; which = First }))
    × (a.number ≡ 0 → (b.number ≡ 0 → ⊥) → answer ≡ Err (record { refusal = refusal b.number b.place; which = Second }))
    × (a.number ≡ 0 → b.number ≡ 0
    → (h : OverallDifferences) × (answer ≡ Ok h)
    × Tells Rate a.rate b.rate h.rate
    × Tells Side a.side b.side h.side
    × Tells Count a.count b.count h.count
    × Tells Form a.form b.form h.form
    × (a.count ≡ b.count → h.more ≡ None)
    × ((n : ℕ) → (n ≡ 0 → ⊥) → (a.count ≡ b.count + n) ⊎ (b.count ≡ a.count + n) → h.more ≡ Some (More n)))

-- ---- the answer to two strings of bytes

-- two records, and whatever follows each
abbrev pub Compares : Type 0
Compares = (r q : Run) → Accepted r → Accepted q → (x y : List ℕ)
    → comparison (record_of r ++ x) (record_of q ++ y) ≡ record { number = 0; place = 0; which = 0; list = differences r q }

-- the records are the beginnings of the two strings
abbrev pub ComparesOnly : Type 0
ComparesOnly = (s t : List ℕ) → Bytes s → Bytes t → (comparison s t).number ≡ 0
    → (r q : Run) × Accepted r × Accepted q × Beginning (record_of r) s × Beginning (record_of q) t
    × (comparison s t ≡ record { number = 0; place = 0; which = 0; list = differences r q })

-- the same bytes, at the beginning of each
abbrev pub EmptyExactly : Type 0
EmptyExactly = (s t : List ℕ) → Bytes s → Bytes t
    → (((comparison s t).number ≡ 0) × ((comparison s t).list ≡ [])) ↔ ((r : Run) × Accepted r × Beginning (record_of r) s × Beginning (record_of r) t)

-- the first string begins with no record, whatever the second is
abbrev pub RefusesFirst : Type 0
RefusesFirst = (s t : List ℕ) → Bytes s → ((r : Run) → Accepted r → Beginning (record_of r) s → ⊥)
    → let a = checked 0 s in
    (a.number ≡ 0 → ⊥) × (a.number ≡ 14 → ⊥) × (a.number ≡ 16 → ⊥) × (comparison s t ≡ record { number = a.number; place = a.place; which = 1; list = [] })

-- the first begins with a record, and the second with none
abbrev pub RefusesSecond : Type 0
RefusesSecond = (r : Run) → Accepted r → (x t : List ℕ) → Bytes t → ((q : Run) → Accepted q → Beginning (record_of q) t → ⊥)
    → let a = checked 0 t in
    (a.number ≡ 0 → ⊥) × (a.number ≡ 14 → ⊥) × (a.number ≡ 16 → ⊥) × (comparison (record_of r ++ x) t ≡ record { number = a.number; place = a.place; which = 2; list = [] })

-- by its parts
abbrev pub run_called : CheckAnswer → Fetched → Run
run_called a f = run a.rate a.side (form_of a.form) (take a.count f.positions) (take a.count f.ratios)

-- the differences that are of no index, and the points of the runs r and q up to the smaller of the counts m and n, make up the comparison c; or the
-- refusal does
abbrev pub MakeUp : Result OverallDifferences RefusedRecord → Run → Run → ℕ → ℕ → Comparison → Type 0
MakeUp (Err f) r q m n c = c ≡ record { number = f.refusal.number; place = f.refusal.place; which = which_number f.which; list = [] }
MakeUp (Ok h) r q m n c = c ≡ record {
  number = 0;
  place = 0;
  which = 0;
  list = listed h.rate
      ++ (listed h.side
      ++ (listed h.count
      ++ (listed h.form
      ++ (points_to r q (min m n)
      ++ listed h.more))));
}

-- of any two strings of bytes
abbrev pub ByCalls : Type 0
ByCalls = (s t ts vs us ws : List ℕ) → Bytes s → Bytes t
    → let a = checked 0 s in
    let b = checked 0 t in
    a.count ≤ length ts → a.count ≤ length vs → b.count ≤ length us → b.count ≤ length ws
    → MakeUp (overall_of a b) (run_called a (fetched 0 s ts vs)) (run_called b (fetched 0 t us ws)) a.count b.count (comparison s t)

-- demand 3: bytes behind either record
abbrev pub ComparisonTrailing : Type 0
ComparisonTrailing = (r : Run) → Accepted r → (rest s : List ℕ)
    → (comparison (record_of r ++ rest) s ≡ comparison (record_of r) s) × (comparison s (record_of r ++ rest) ≡ comparison s (record_of r))

-- the same of any bytes that have as many whole fields as a record
abbrev pub ComparisonFollowed : Type 0
ComparisonFollowed = (t rest s : List ℕ) → end_at t ≤ length t
    → (comparison (t ++ rest) s ≡ comparison t s) × (comparison s (t ++ rest) ≡ comparison s t)
