-- Document 02, No. 8: the check, as statements. The refusals of each field, with their places and their order, stand in FrontClaims and PointClaims. Each is
-- proved in proofs/CheckClaims, and NumberTells in proofs/CheckClaims/Numbers.
--   Expects e r        the expected rate e is r, or none is
--   refused_found n p  what the refusal n at the place p answers: zeros beside them
--   run_check r        what a check answers of the record of r: its rate, side, count, form's tag and size
--   ChecksBack r e s   a check of the bytes s gives back the numbers of r, or 14 at 0 where another rate is expected; and the run in their fields is r
--   ChecksRecord       so it is of each run's record, whatever follows it
--   ChecksExactly      a check accepts bytes exactly when they begin with some run's record whose rate is the expected one, or none is expected
--   ChecksOnly         then its answer is that run's, and the run in the fields is that run
--   RunCounted         the run in the fields of bytes that a check accepts has as many positions and ratios as the count's field says
--   ChecksWhole        what a check refuses leaves zeros beside its number and place
--   CheckRefusals      the numbers that a check gives: never 16; and 14 only where a rate is expected
--   TellsAnswer a n    the number n tells what the check's answer a says: a size, or a refusal's number and place, and never one for the other
--   NumberTells        the number to C does, of all bytes, and it fits 32 bits
use Rattle.std.specs.Prelude.{List, [], ◌∷◌, ◌++◌, ◌⊎◌, ◌↔◌, ◌≡◌, ℕ, ◌/◌, ◌%◌, ◌^◌, ◌≤◌, ◌<◌, length}
use Rattle.lists.specs.Among.{Among}
use Rattle.record_format.specs.declared.CheckAnswer.{CheckAnswer}
use Rattle.record_format.specs.Runs.{Run, positions_tag, record_of}
use Rattle.record_format.specs.Reading.{count_in}
use Rattle.record_format.specs.Checking.{run_in, checked, check_number}
use Rattle.record_format.specs.Claims.{Accepted, Bytes, Beginning}

-- 0 expects none
abbrev pub Expects : ℕ → ℕ → Type 0
Expects e r = (e ≡ 0) ⊎ (e ≡ r)

-- it is written out here, so that the statements do not rest on the definition of reading
abbrev pub refused_found : ℕ → ℕ → CheckAnswer
refused_found n p = record { number = n; place = p; rate = 0; side = 0; count = 0; form = 0; size = 0 }

-- a success
abbrev pub run_check : Run → CheckAnswer
run_check r = record {
  number = 0;
  place = 0;
  rate = r.rate;
  side = r.side;
  count = length r.positions;
  form = positions_tag r.form;
  size = length (record_of r);
}

-- of bytes s that begin with the record of r
abbrev pub ChecksBack : Run → ℕ → List ℕ → Type 0
ChecksBack r e s = ((Expects e r.rate → ⊥) → checked e s ≡ refused_found 14 0) × (Expects e r.rate → checked e s ≡ run_check r) × (run_in s ≡ r)

-- demand 2: every accepted run, and whatever follows its record
abbrev pub ChecksRecord : Type 0
ChecksRecord = (r : Run) → Accepted r → (e : ℕ) (rest : List ℕ) → ChecksBack r e (record_of r ++ rest)

-- demand 2: one equivalence
abbrev pub ChecksExactly : Type 0
ChecksExactly = (e : ℕ) (s : List ℕ) → Bytes s
    → ((checked e s).number ≡ 0) ↔ ((r : Run) × Accepted r × Beginning (record_of r) s × Expects e r.rate)

-- demand 2: the answer is a run's
abbrev pub ChecksOnly : Type 0
ChecksOnly = (e : ℕ) (s : List ℕ) → Bytes s → (checked e s).number ≡ 0
    → (r : Run) × Accepted r × Beginning (record_of r) s × (checked e s ≡ run_check r) × (run_in s ≡ r)

-- of any numbers, bytes or not
abbrev pub RunCounted : Type 0
RunCounted = (e : ℕ) (s : List ℕ) → (checked e s).number ≡ 0
    → ((checked e s).count ≡ count_in s) × (length (run_in s).positions ≡ count_in s) × (length (run_in s).ratios ≡ count_in s)

-- demand 1
abbrev pub ChecksWhole : Type 0
ChecksWhole = (e : ℕ) (s : List ℕ) → ((checked e s).number ≡ 0 → ⊥) → checked e s ≡ refused_found (checked e s).number (checked e s).place

-- all numbers but 16 that document 01 gives reading, and 20
abbrev pub CheckRefusals : Type 0
CheckRefusals = (e : ℕ) (s : List ℕ)
    → Among (checked e s).number (0 ∷ 10 ∷ 11 ∷ 12 ∷ 13 ∷ 14 ∷ 15 ∷ 17 ∷ 18 ∷ 20 ∷ []) × ((checked 0 s).number ≡ 14 → ⊥)

-- below 65,536 a size, and from there on a refusal
pub record TellsAnswer (a : CheckAnswer) (n : ℕ) : Type 0 where
  pub sound : a.number ≡ 0 → (n ≡ a.size) × (18 ≤ n) × (n ≤ 61709)
  pub refused : (a.number ≡ 0 → ⊥) → (655360 ≤ n) × (n / 65536 ≡ a.number) × (n % 65536 ≡ a.place) × (a.place ≤ 30206)
  pub fits : n < 2 ^ 32

-- of every string of bytes, with any rate expected
abbrev pub NumberTells : Type 0
NumberTells = (e : ℕ) (s : List ℕ) → Bytes s → TellsAnswer (checked e s) (check_number (checked e s))
