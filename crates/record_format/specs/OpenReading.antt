-- Document 01, "Ratios" and "Numbers that come back": open reading of a record, by the open rule as document 01 words it. Which refusal stands first, and
-- where, is what FrontClaims and PointClaims say of every reading, with 16 put in after the front. Each is proved in proofs/OpenReading.
--   refused_read n p        what the refusal n at the place p returns; refused_by n p ts vs: its whole answer
--   run_answer r ts vs      the whole answer to the record of r: the run, its count, its form's tag and its record's length, and each point
--   OpensBack r e s ..      open reading of the bytes s gives back the run r, given room; 14 at 0 where another rate is expected; 16 at the count's field
--                           where an output lacks room
--   OpensRecord             so it is of each run's record, whatever follows it
--   OpensWhole              what open reading refuses leaves zeros, in both outputs too
--   OpenRoomFirst           16 at the count's field exactly where past a sound front an output lacks room
--   OpenAsFound             all else is as the open rule finds it without outputs
--   ReadsOpenly             past a front and positions that any reading takes, with room: whatever body the ratios' field has, the answer has the ratios that
--                           the open rule reads it as, as many as the count; and where it reads the body as no such ratios, 18 at that field
--   DiffersInRatios         "Open reading differs from strict reading in field 4 only": what open reading refuses a fetch refuses alike; where a fetch is not
--                           refused by 18 the two have the same number, place, count and outputs, and of a record that it accepts open reading returns
--                           what a check does
use Rattle.std.specs.Prelude.{true, List, [], ◌∷◌, ◌++◌, ◌⊎◌, ◌≡◌, ℕ, ◌+◌, ◌^◌, ◌≤◌, ◌<◌, length, drop, replicate}
use Rattle.limits.specs.Rates.{is_rate}
use Rattle.position_format.specs.declared.Form.{Form}
use Rattle.position_format.specs.Positions.{valid_positions}
use Rattle.position_format.specs.Tables.{table_of, points_of}
use Rattle.ratio_format.specs.OpenRule.{ReadAs}
use Rattle.ratio_format.specs.Bodies.{open_ratios}
use Rattle.record_format.specs.declared.ReadAnswer.{ReadAnswer}
use Rattle.record_format.specs.Fields.{field_of, field_bytes, laid}
use Rattle.record_format.specs.Runs.{Run, positions_tag, positions_field, front_fields, record_of}
use Rattle.record_format.specs.Checking.{run_by, found, checked}
use Rattle.record_format.specs.Fetching.{Answer, as_read, read_open, as_fetched, fetched}
use Rattle.record_format.specs.Claims.{Accepted, Bytes, count_place}
use Rattle.record_format.specs.CheckClaims.{Expects}
use Rattle.record_format.specs.PointClaims.{front_bytes}
use Rattle.record_format.specs.FetchClaims.{Short}

-- what a refusal returns: zeros beside its number and place
abbrev pub refused_read : ℕ → ℕ → ReadAnswer
refused_read n p = record { number = n; place = p; rate = 0; side = 0; count = 0; form = 0; used = 0 }

-- and both outputs 0 from end to end
abbrev pub refused_by : ℕ → ℕ → List ℕ → List ℕ → Answer
refused_by n p ts vs = record { answer = refused_read n p; positions = replicate (length ts) 0; ratios = replicate (length vs) 0 }

-- a success
abbrev pub run_answer : Run → List ℕ → List ℕ → Answer
run_answer r ts vs = record {
  answer = record { number = 0; place = 0; rate = r.rate; side = r.side; count = length r.positions; form = positions_tag r.form; used = length (record_of r) };
  positions = r.positions ++ drop (length r.positions) ts;
  ratios = r.ratios ++ drop (length r.ratios) vs;
}

-- of bytes s that begin with the record of r
abbrev pub OpensBack : Run → ℕ → List ℕ → List ℕ → List ℕ → Type 0
OpensBack r e s ts vs =
    let n = length r.positions in
    ((Expects e r.rate → ⊥) → read_open e s ts vs ≡ refused_by 14 0 ts vs)
    × (Expects e r.rate → (length ts < n) ⊎ (length vs < n) → read_open e s ts vs ≡ refused_by 16 (count_place r.side) ts vs)
    × (Expects e r.rate → n ≤ length ts → n ≤ length vs → read_open e s ts vs ≡ run_answer r ts vs)

-- demand 2: every accepted run, and whatever follows its record
abbrev pub OpensRecord : Type 0
OpensRecord = (r : Run) → Accepted r → (e : ℕ) (rest ts vs : List ℕ) → OpensBack r e (record_of r ++ rest) ts vs

-- demand 1
abbrev pub OpensWhole : Type 0
OpensWhole = (e : ℕ) (s ts vs : List ℕ) → let a = read_open e s ts vs in (a.answer.number ≡ 0 → ⊥) → a ≡ refused_by a.answer.number a.answer.place ts vs

-- before the positions' field is looked at
abbrev pub OpenRoomFirst : Type 0
OpenRoomFirst =
    ((e r d n : ℕ) (rest ts vs : List ℕ) → is_rate r ≡ true → Expects e r → d ≤ 26 → n ≤ 4096 → (length ts < n) ⊎ (length vs < n)
    → read_open e (front_bytes r d n ++ rest) ts vs ≡ refused_by 16 (count_place d) ts vs)
    × ((e : ℕ) (s ts vs : List ℕ) → Bytes s → (read_open e s ts vs).answer.number ≡ 16 → Short e s ts vs)

-- the refusal's number and place, or all that is returned and the points of the run
abbrev pub OpenAsFound : Type 0
OpenAsFound = (e : ℕ) (s ts vs : List ℕ) → ((read_open e s ts vs).answer.number ≡ 16 → ⊥)
    → let a = found open_ratios e s in
    let r = run_by open_ratios s in
    ((a.number ≡ 0 → ⊥) → read_open e s ts vs ≡ refused_by a.number a.place ts vs)
    × (a.number ≡ 0
    → read_open e s ts vs
    ≡ record { answer = as_read a; positions = r.positions ++ drop (length r.positions) ts; ratios = r.ratios ++ drop (length r.ratios) vs })

-- a record with the ratios' field at the offset b; what follows it plays no part
abbrev pub ReadsOpenly : Type 0
ReadsOpenly = (e r d : ℕ) (f : Form) (ps body rest ts vs : List ℕ) → is_rate r ≡ true → Expects e r → d ≤ 26
    → length ps ≤ points_of f → valid_positions (table_of f) ps ≡ true → length ps ≤ length ts → length ps ≤ length vs
    → Bytes body → length body < 256 ^ 2
    → let n = length ps in
    let before = laid (front_fields r d n ++ (positions_field f ps ∷ [])) in
    let b = length before in
    let s = before ++ (field_bytes (field_of 4 body) ++ rest) in
    ((qs : List ℕ) → length qs ≡ n → ReadAs [] qs body
    → read_open e s ts vs
    ≡ record {
      answer = record { number = 0; place = 0; rate = r; side = d; count = n; form = positions_tag f; used = b + 3 + length body };
      positions = ps ++ drop n ts;
      ratios = qs ++ drop n vs;
    })
    × (((qs : List ℕ) → length qs ≡ n → ReadAs [] qs body → ⊥) → read_open e s ts vs ≡ refused_by 18 b ts vs)

-- both outputs too
abbrev pub DiffersInRatios : Type 0
DiffersInRatios = (e : ℕ) (s ts vs : List ℕ) → Bytes s
    → (((read_open e s ts vs).answer.number ≡ 0 → ⊥) → fetched e s ts vs ≡ as_fetched (read_open e s ts vs))
    × (((fetched e s ts vs).answer.number ≡ 18 → ⊥) → as_fetched (read_open e s ts vs) ≡ fetched e s ts vs)
    × ((fetched e s ts vs).answer.number ≡ 0 → (read_open e s ts vs).answer ≡ as_read (checked e s))
