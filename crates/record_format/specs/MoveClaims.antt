-- Document 02, No. 5: what moves do, as statements. FormFirst is proved in proofs/Moves, each other in proofs/MoveClaims; that bytes behind a record change
-- no move is a part of demand 3 (TrailingBytes and MoveFollowed, in Claims). Together with ChecksOnly, FormFirst, CheckFirst, ToWide and ToOld say the
-- answer to every string of bytes.
--   not_moved n p o   the answer of the refusal n at the place p
--   moved_to r q o    that of a success: the record of the run r was read, and that of the run q written
--   ByRoom f r q ..   the move of the record of r to the form f writes that of q, or is refused by 6, exactly where there is no room for it
--   ToWide            an accepted run in the old form: 3 above 3,500 points; else the same run is accepted in the wide form, and the move is refused by 6 alone,
--                     exactly where there is no room for that record
--   StepHeld ts i     document 01's table holds the step at the point of index i
--   ToOld             an accepted run in the wide form: 5 at the first point whose step document 01's table does not hold; else the same of the old form
--   FormThere f s     the bytes s begin with the fields of a rate, a side unless it is 0 and a count of at most 4,096, and past them stands a whole head with
--                     the tag of the form f
--   FormFirst         such bytes are refused by 11 at the positions' field, whatever follows the head
--   CheckFirst        everything else that a check refuses, with no rate expected, the move refuses alike, by number and place
--   MovesOnly         bytes that are moved begin with the record of an accepted run in the other form, and the answer is that run's
--   MovesBack         the standard term is a round trip: a record that was moved is moved back to the bytes that it was, and refused by 6 alone, exactly where
--                     there is no room for them
--   ReadsAlike        both records read alike: a check finds the same rate, side and count, or the same refusal, and form and size are each its own; a fetch
--                     gives the same count and points, or the same refusal
--   MovesWhole        what a move refuses leaves zeros beside its number and place, and in the output
use Rattle.std.specs.Prelude.{true, cond, List, ◌++◌, ◌≡◌, ℕ, ◌≤◌, ◌<◌, eqb, length, take, drop, replicate}
use Rattle.limits.specs.Rates.{is_rate}
use Rattle.position_format.specs.declared.Form.{Form}
use Rattle.position_format.specs.declared.Form.TheVariants.{Old, Wide}
use Rattle.position_format.specs.Rows.{rows, in_table}
use Rattle.position_format.specs.Steps.{step_here}
use Rattle.record_format.specs.Fields.{tag_at}
use Rattle.record_format.specs.Runs.{Run, positions_tag, record_of}
use Rattle.record_format.specs.Checking.{checked}
use Rattle.record_format.specs.Fetching.{fetched}
use Rattle.record_format.specs.Moves.{Move, other_form, in_form, move_of}
use Rattle.record_format.specs.Claims.{Accepted, Bytes, Beginning, positions_place}
use Rattle.record_format.specs.PointClaims.{front_bytes}

-- with zeros beside it, and the output 0 from end to end
abbrev pub not_moved : ℕ → ℕ → List ℕ → Move
not_moved n p o = record { answer = record { number = n; place = p; length = 0; used = 0 }; output = replicate (length o) 0 }

-- the length of the record written, the bytes of the one read; what is written stands at the front, and the output past it stays
abbrev pub moved_to : Run → Run → List ℕ → Move
moved_to r q o = record {
  answer = record { number = 0; place = 0; length = length (record_of q); used = length (record_of r) };
  output = record_of q ++ drop (length (record_of q)) o;
}

-- by room alone
abbrev pub ByRoom : Form → Run → Run → List ℕ → List ℕ → Type 0
ByRoom f r q rest o =
    (length o < length (record_of q) → move_of f (record_of r ++ rest) o ≡ not_moved 6 0 o)
    × (length (record_of q) ≤ length o → move_of f (record_of r ++ rest) o ≡ moved_to r q o)

-- never refused up to 3,500 points, given room
abbrev pub ToWide : Type 0
ToWide = (r : Run) → Accepted r → r.form ≡ Old → (rest o : List ℕ)
    → (3500 < length r.positions → move_of Wide (record_of r ++ rest) o ≡ not_moved 3 0 o)
    × (length r.positions ≤ 3500 → Accepted (in_form Wide r) × ByRoom Wide r (in_form Wide r) rest o)

-- from the third point on
abbrev pub StepHeld : List ℕ → ℕ → Type 0
StepHeld ts i = in_table rows (step_here ts i) ≡ true

-- never refused where every step is in the old table, given room
abbrev pub ToOld : Type 0
ToOld = (r : Run) → Accepted r → r.form ≡ Wide → (rest o : List ℕ)
    → let ts = r.positions in
    ((p : ℕ) → 2 ≤ p → p < length ts → (StepHeld ts p → ⊥) → ((i : ℕ) → 2 ≤ i → i < p → StepHeld ts i) → move_of Old (record_of r ++ rest) o ≡ not_moved 5 p o)
    × (((i : ℕ) → 2 ≤ i → i < length ts → StepHeld ts i) → Accepted (in_form Old r) × ByRoom Old r (in_form Old r) rest o)

-- a sound front, and past it the head of positions in the form f
abbrev pub FormThere : Form → List ℕ → Type 0
FormThere f s = (r d n : ℕ) × (rest : List ℕ) × (is_rate r ≡ true) × (d ≤ 26) × (n ≤ 4096) × (s ≡ front_bytes r d n ++ rest) × (3 ≤ length rest) × (tag_at rest 0 ≡ positions_tag f)

-- at the positions' tag: before the wide form's 15, and before all that follows the head
abbrev pub FormFirst : Type 0
FormFirst = (f : Form) (r d n : ℕ) (rest o : List ℕ) → is_rate r ≡ true → d ≤ 26 → n ≤ 4096 → 3 ≤ length rest → tag_at rest 0 ≡ positions_tag f
    → move_of f (front_bytes r d n ++ rest) o ≡ not_moved 11 (positions_place d) o

-- before 3, 5 and 6
abbrev pub CheckFirst : Type 0
CheckFirst = (f : Form) (s o : List ℕ) → Bytes s → (FormThere f s → ⊥)
    → let a = checked 0 s in
    (a.number ≡ 0 → ⊥) → move_of f s o ≡ not_moved a.number a.place o

-- an accepted run in the other form, which is accepted in the form moved to as well
abbrev pub MovesOnly : Type 0
MovesOnly = (f : Form) (s o : List ℕ) → Bytes s → (move_of f s o).answer.number ≡ 0
    → (r : Run) × Accepted r × (r.form ≡ other_form f) × Beginning (record_of r) s
    × Accepted (in_form f r) × (length (record_of (in_form f r)) ≤ length o) × (move_of f s o ≡ moved_to r (in_form f r) o)

-- in both directions, whatever follows the record that was written
abbrev pub MovesBack : Type 0
MovesBack = (f : Form) (s o : List ℕ) → Bytes s → (move_of f s o).answer.number ≡ 0 → (rest p : List ℕ)
    → let m = move_of f s o in
    let there = take m.answer.length m.output in
    let back = move_of (other_form f) (there ++ rest) p in
    (length p < m.answer.used → back ≡ not_moved 6 0 p)
    × (m.answer.used ≤ length p
    → back ≡ record {
      answer = record { number = 0; place = 0; length = m.answer.used; used = m.answer.length };
      output = take m.answer.used s ++ drop m.answer.used p;
    })

-- what is written, checked and fetched with any rate expected and any outputs
abbrev pub ReadsAlike : Type 0
ReadsAlike = (f : Form) (s o : List ℕ) → Bytes s → (move_of f s o).answer.number ≡ 0 → (e : ℕ)
    → let m = move_of f s o in
    let a = checked e s in
    (checked e m.output
    ≡ cond (eqb a.number 0)
    (record { number = 0; place = 0; rate = a.rate; side = a.side; count = a.count; form = positions_tag f; size = m.answer.length })
    a)
    × ((ts vs : List ℕ) → fetched e m.output ts vs ≡ fetched e s ts vs)

-- demand 1, of every move
abbrev pub MovesWhole : Type 0
MovesWhole = (f : Form) (s o : List ℕ) → let m = move_of f s o in (m.answer.number ≡ 0 → ⊥) → m ≡ not_moved m.answer.number m.answer.place o
