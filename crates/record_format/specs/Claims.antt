-- The demands on records as statements about the definitions, in the terms of document 01, "What demand 3 compares", for runs that carry a
-- side, 0 for none, and the form that they are written in (document 02, No. 2 and No. 3). Those of the check (CheckClaims, FrontClaims,
-- PointClaims), of fetch (FetchClaims), of open reading (OpenReading), of the moves (MoveClaims) and of what is written (WritingClaims, FourFields, Sizes)
-- stand by themselves. Each is proved in proofs/Claims, and Followed and MoveFollowed in
-- proofs/Claims/Trailing; the calls are tied to them by their contracts.
--   Accepted r          r is a run that the writer accepts, in the standard term valid: its ratios have 64 bits, and no test of writing but 6
--                       applies. AllAccepted rs: every run of a list is
--   Bytes s             s is a string of bytes
--   Beginning a b       the string a is a beginning of b, in the standard term a prefix: b is a and then any bytes, or none
--   joined rs           the records of the runs rs, joined in their order: their concatenation
--   count_place d       the offset of the count's field past a front with the side d, 7 or 11: what count_at finds there; positions_place d: that of
--                       the positions', 12 or 16
--   FieldPlaces         these offsets, in numbers
--   WritesRun, Writes   writing gives exactly the record, where the run is accepted and there is room for it, and else the refusal, and zeros
--   PrefixFree          no record begins another, in the same form or in the other: in the standard term, records are a prefix code
--   ListsApart          joined records, in which forms may mix, tell their lists: a uniquely decodable code
--   TrailingBytes       whatever follows a record changes neither what a check answers, in full (to C describe) or as its number to C, nor a fetch, an open reading or a
--                       move; Followed, MoveFollowed: nor does what follows any whole fields
--   Shortest, NineEach  no string of the same ratios is shorter than ours, which takes at most nine bytes a ratio
-- Demands 2 and 3, whole, are conjunctions: farigolenc/specs/Demand2 and Demand3.
use Rattle.std.specs.Prelude.{true, false, List, [], ◌∷◌, ◌++◌, ◌↔◌, ◌≡◌, ℕ, ◌+◌, ◌*◌, ◌≤◌, ◌<◌, ◌^◌, length, drop, replicate}
use Rattle.std.proofs.Math.Option.{Option, some}
use Rattle.lists.specs.Below.{Below}
use Rattle.refusals.specs.Tests.{first_of}
use Rattle.position_format.specs.declared.Form.{Form}
use Rattle.ratio_format.specs.Bodies.{coded_ratios, open_ratios}
use Rattle.record_format.specs.Fields.{head_size}
use Rattle.record_format.specs.Runs.{Run, rate_size, count_size, side_length, record_of}
use Rattle.record_format.specs.Writing.{run_tests, accepts, write_answer, write_output}
use Rattle.record_format.specs.Reading.{end_at}
use Rattle.record_format.specs.Checking.{run_by, found, checked, check_number}
use Rattle.record_format.specs.Fetching.{read_with, read_open, fetched}
use Rattle.record_format.specs.Moves.{move_of}

-- an accepted run
pub record Accepted (r : Run) : Type 0 where
  pub words : Below (2 ^ 64) r.ratios
  pub passes : accepts r ≡ true

-- every run of a list is accepted
abbrev pub AllAccepted : List Run → Type 0
AllAccepted [] = Unit {0}
AllAccepted (r ∷ rs) = Accepted r × AllAccepted rs

-- a string of bytes
abbrev pub Bytes : List ℕ → Type 0
Bytes s = Below 256 s

-- a is a beginning of b
abbrev pub Beginning : List ℕ → List ℕ → Type 0
Beginning a b = (t : List ℕ) × (b ≡ a ++ t)

-- the empty list gives no bytes
unfoldable pub joined : List Run → List ℕ
joined [] = []
joined (r ∷ rs) = record_of r ++ joined rs

-- where the count's field stands: past the rate's, and past the side's if there is one
abbrev pub count_place : ℕ → ℕ
count_place d = head_size + rate_size + side_length d

-- and the positions', past the count's
abbrev pub positions_place : ℕ → ℕ
positions_place d = count_place d + (head_size + count_size)

-- as the documents give them: on no side, and on any other
abbrev pub FieldPlaces : Type 0
FieldPlaces = ((count_place 0 ≡ 7) × (positions_place 0 ≡ 12)) × ((d : ℕ) → 0 < d → (count_place d ≡ 11) × (positions_place d ≡ 16))

-- demands 1 and 2: a run that is not accepted is refused by the first of its tests, and one without room by 6, with zeros; a success writes the record at
-- the front of the output and nothing else
abbrev pub WritesRun : Run → List ℕ → Type 0
WritesRun r o =
    let f = first_of (run_tests r) in
    let n = length (record_of r) in
    (accepts r ≡ false → (write_answer r o ≡ record { number = f.number; place = f.place; length = 0 }) × (write_output r o ≡ replicate (length o) 0))
    × (accepts r ≡ true → length o < n → (write_answer r o ≡ record { number = 6; place = 0; length = 0 }) × (write_output r o ≡ replicate (length o) 0))
    × (accepts r ≡ true → n ≤ length o → (write_answer r o ≡ record { number = 0; place = 0; length = n }) × (write_output r o ≡ record_of r ++ drop n o))

-- every run and every output
abbrev pub Writes : Type 0
Writes = (r : Run) (o : List ℕ) → WritesRun r o

-- demand 3: of two runs that differ, in rate, side, form, positions or ratios, neither record is a beginning of the other
abbrev pub PrefixFree : Type 0
PrefixFree = (r q : Run) → Accepted r → Accepted q → (r ≡ q → ⊥)
    → (Beginning (record_of r) (record_of q) → ⊥) × (Beginning (record_of q) (record_of r) → ⊥)

-- demand 3: for every two lists of runs, each in its form, the joined records are the same exactly when the lists are the same
abbrev pub ListsApart : Type 0
ListsApart = (rs qs : List Run) → AllAccepted rs → AllAccepted qs → (joined rs ≡ joined qs) ↔ (rs ≡ qs)

-- demand 3: whatever bytes follow a record, each call that takes one answers as for the record alone: the check, in full (to C describe) and by its number to C, fetch,
-- open reading and both moves
abbrev pub TrailingBytes : Type 0
TrailingBytes = (r : Run) → Accepted r → (e : ℕ) (rest ts vs : List ℕ)
    → (checked e (record_of r ++ rest) ≡ checked e (record_of r))
    × (check_number (checked e (record_of r ++ rest)) ≡ check_number (checked e (record_of r)))
    × (fetched e (record_of r ++ rest) ts vs ≡ fetched e (record_of r) ts vs)
    × (read_open e (record_of r ++ rest) ts vs ≡ read_open e (record_of r) ts vs)
    × ((f : Form) (o : List ℕ) → move_of f (record_of r ++ rest) o ≡ move_of f (record_of r) o)

-- the same of any bytes that have as many whole fields as a record, four or, where the second has a side's tag, five; also of such as only open
-- reading accepts, or none: by every reading of the ratios' field, without outputs and with them
abbrev pub Followed : Type 0
Followed = (k : ℕ → List ℕ → Option (List ℕ)) (e : ℕ) (s rest : List ℕ) → end_at s ≤ length s
    → (found k e (s ++ rest) ≡ found k e s) × (run_by k (s ++ rest) ≡ run_by k s) × ((ts vs : List ℕ) → read_with k e (s ++ rest) ts vs ≡ read_with k e s ts vs)

-- and of moves
abbrev pub MoveFollowed : Type 0
MoveFollowed = (f : Form) (s rest o : List ℕ) → end_at s ≤ length s → move_of f (s ++ rest) o ≡ move_of f s o

-- demand 3: a string that the open rule reads as the same ratios, at the same count, is at least as long as ours
abbrev pub Shortest : Type 0
Shortest = (vs s : List ℕ) → Below (2 ^ 64) vs → Bytes s → open_ratios (length vs) s ≡ some vs → length (coded_ratios vs) ≤ length s

-- demand 3: ours takes at most nine bytes for each ratio
abbrev pub NineEach : Type 0
NineEach = (vs : List ℕ) → length (coded_ratios vs) ≤ 9 * length vs
