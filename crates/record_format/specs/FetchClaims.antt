-- Document 02, No. 8: fetch, as statements. Which refusal stands first, and where, is the check's (FrontClaims, PointClaims), with 16 put in after the
-- front. Each is proved in proofs/FetchClaims.
--   refused_fetch n p ts vs  the whole answer of the refusal n at the place p: zeros beside them, and both outputs 0 from end to end
--   run_fetch r ts vs        the whole answer of a success: the run's count, its positions and its ratios at the front of the outputs, whose rest stays
--   FetchesBack r e s ..     a fetch from the bytes s gives back each position and each ratio of r, given room; 14 at 0 where another rate is expected; 16 at
--                            the count's field where an output lacks room
--   FetchesRecord            so it is from each run's record, whatever follows it
--   FetchesExactly           a fetch accepts bytes exactly when they begin with some run's record, its rate is the expected one or none is, and its count is
--                            within both rooms
--   FetchesOnly              then its answer is that run's
--   FetchesWhole             what a fetch refuses leaves zeros, in both outputs too
--   Short e s ts vs          past a sound front an output lacks room for the count
--   RoomFirst                16 at the count's field exactly there, whatever follows
--   AgreesWithCheck          all else is as a check finds it: the refusal's number and place, or the count and the points of the run
--   RoomEnough               with room for 4,096 numbers in each output a fetch returns just what a check finds: the same number and place, or the count
--   PairGives                of bytes that a check accepts both calls give back one run: the check its numbers, and a fetch its points, given room
--   BesideSixteen            where a fetch gives 16 a check gives 0, 10, 11, 15, 17 or 18; 15 for a wide record above 3,500 points
use Rattle.std.specs.Prelude.{true, List, [], ◌∷◌, ◌++◌, ◌⊎◌, ◌↔◌, ◌≡◌, ℕ, ◌≤◌, ◌<◌, length, drop, replicate}
use Rattle.lists.specs.Among.{Among}
use Rattle.limits.specs.Rates.{is_rate}
use Rattle.record_format.specs.Fields.{tag_at}
use Rattle.record_format.specs.Runs.{Run, record_of}
use Rattle.record_format.specs.Reading.{positions_at, count_in}
use Rattle.record_format.specs.Checking.{run_in, checked}
use Rattle.record_format.specs.Fetching.{Fetched, fetched}
use Rattle.record_format.specs.Claims.{Accepted, Bytes, Beginning, count_place}
use Rattle.record_format.specs.CheckClaims.{Expects, run_check}
use Rattle.record_format.specs.PointClaims.{front_bytes}

-- a refusal
abbrev pub refused_fetch : ℕ → ℕ → List ℕ → List ℕ → Fetched
refused_fetch n p ts vs = record {
  answer = record { number = n; place = p; count = 0 };
  positions = replicate (length ts) 0;
  ratios = replicate (length vs) 0;
}

-- a success
abbrev pub run_fetch : Run → List ℕ → List ℕ → Fetched
run_fetch r ts vs = record {
  answer = record { number = 0; place = 0; count = length r.positions };
  positions = r.positions ++ drop (length r.positions) ts;
  ratios = r.ratios ++ drop (length r.ratios) vs;
}

-- of bytes s that begin with the record of r
abbrev pub FetchesBack : Run → ℕ → List ℕ → List ℕ → List ℕ → Type 0
FetchesBack r e s ts vs =
    let n = length r.positions in
    ((Expects e r.rate → ⊥) → fetched e s ts vs ≡ refused_fetch 14 0 ts vs)
    × (Expects e r.rate → (length ts < n) ⊎ (length vs < n) → fetched e s ts vs ≡ refused_fetch 16 (count_place r.side) ts vs)
    × (Expects e r.rate → n ≤ length ts → n ≤ length vs → fetched e s ts vs ≡ run_fetch r ts vs)

-- demand 2: every accepted run, and whatever follows its record
abbrev pub FetchesRecord : Type 0
FetchesRecord = (r : Run) → Accepted r → (e : ℕ) (rest ts vs : List ℕ) → FetchesBack r e (record_of r ++ rest) ts vs

-- demand 2: one equivalence
abbrev pub FetchesExactly : Type 0
FetchesExactly = (e : ℕ) (s ts vs : List ℕ) → Bytes s
    → ((fetched e s ts vs).answer.number ≡ 0)
    ↔ ((r : Run) × Accepted r × Beginning (record_of r) s
    × Expects e r.rate × (length r.positions ≤ length ts) × (length r.positions ≤ length vs))

-- demand 2: bit for bit
abbrev pub FetchesOnly : Type 0
FetchesOnly = (e : ℕ) (s ts vs : List ℕ) → Bytes s → (fetched e s ts vs).answer.number ≡ 0
    → (r : Run) × Accepted r × Beginning (record_of r) s × (fetched e s ts vs ≡ run_fetch r ts vs)

-- demand 1
abbrev pub FetchesWhole : Type 0
FetchesWhole = (e : ℕ) (s ts vs : List ℕ) → let a = fetched e s ts vs in (a.answer.number ≡ 0 → ⊥) → a ≡ refused_fetch a.answer.number a.answer.place ts vs

-- the fields of a rate that is not refused, a side unless it is 0 and a count of at most 4,096, for which an output lacks room
abbrev pub Short : ℕ → List ℕ → List ℕ → List ℕ → Type 0
Short e s ts vs = (r d n : ℕ) × (rest : List ℕ)
    × (s ≡ front_bytes r d n ++ rest) × (is_rate r ≡ true) × Expects e r × (d ≤ 26) × (n ≤ 4096) × ((length ts < n) ⊎ (length vs < n))

-- before the positions' field is looked at
abbrev pub RoomFirst : Type 0
RoomFirst =
    ((e r d n : ℕ) (rest ts vs : List ℕ) → is_rate r ≡ true → Expects e r → d ≤ 26 → n ≤ 4096 → (length ts < n) ⊎ (length vs < n)
    → fetched e (front_bytes r d n ++ rest) ts vs ≡ refused_fetch 16 (count_place d) ts vs)
    × ((e : ℕ) (s ts vs : List ℕ) → Bytes s → (fetched e s ts vs).answer.number ≡ 16 → Short e s ts vs)

-- the two calls on the same bytes, with the same rate expected
abbrev pub AgreesWithCheck : Type 0
AgreesWithCheck = (e : ℕ) (s ts vs : List ℕ) → ((fetched e s ts vs).answer.number ≡ 16 → ⊥)
    → let a = checked e s in
    ((a.number ≡ 0 → ⊥) → fetched e s ts vs ≡ refused_fetch a.number a.place ts vs)
    × (a.number ≡ 0
    → fetched e s ts vs
    ≡ record {
      answer = record { number = 0; place = 0; count = a.count };
      positions = (run_in s).positions ++ drop (length (run_in s).positions) ts;
      ratios = (run_in s).ratios ++ drop (length (run_in s).ratios) vs;
    })

-- a caller who lends room for 4,096 numbers in each output
abbrev pub RoomEnough : Type 0
RoomEnough = (e : ℕ) (s ts vs : List ℕ) → 4096 ≤ length ts → 4096 ≤ length vs
    → let a = checked e s in (fetched e s ts vs).answer ≡ record { number = a.number; place = a.place; count = a.count }

-- demand 2, of the pair: one run for both calls, whoever calls which first
abbrev pub PairGives : Type 0
PairGives = (e : ℕ) (s : List ℕ) → Bytes s → (checked e s).number ≡ 0
    → (r : Run) × Accepted r × Beginning (record_of r) s × (checked e s ≡ run_check r)
    × ((ts vs : List ℕ) → length r.positions ≤ length ts → length r.positions ≤ length vs → fetched e s ts vs ≡ run_fetch r ts vs)

-- what a caller who lent too little room may learn from a check
abbrev pub BesideSixteen : Type 0
BesideSixteen = (e : ℕ) (s ts vs : List ℕ) → (fetched e s ts vs).answer.number ≡ 16
    → Among (checked e s).number (0 ∷ 10 ∷ 11 ∷ 15 ∷ 17 ∷ 18 ∷ []) × ((checked e s).number ≡ 15 → (tag_at s (positions_at s) ≡ 5) × (3500 < count_in s))
