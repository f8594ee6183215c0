-- Document 01, "Numbers that come back", and document 02, No. 8: reading into outputs, the caller's buffers: fetch, and open reading. It has the tests of a
-- check, and 16 among them; what it leaves in the outputs is the run that is found.
--   lacks_room m n c       an output lacks room for c numbers, in the standard term capacity; room_tests s m n: the test of it
--   read_tests k e s m n   the tests in their order: those of a record, with that of the room after the front
--   as_read a              what a check answers, as open reading returns it
--   Answer                 what a reading returns, and both outputs afterwards
--   refusal_answer, record_answer, answer_by  that of a refusal, of a record, and by a list of tests
--   read_with k e s ts vs  reading the bytes s into the outputs ts and vs, with the reading k of the ratios' field and the rate e expected (0 for none)
--   read_open              open reading: number, place, rate, side, count, the form's tag, bytes used, and both outputs afterwards
--   Fetched, as_fetched    what a fetch returns, and both outputs afterwards; that of an answer
--   fetched                fetch, in standard terms decoding into the caller's buffers: number, place, count, and both outputs afterwards
use Rattle.std.specs.Prelude.{Bool, true, cond, List, [], ◌∷◌, ◌++◌, ℕ, ltb, length}
use Rattle.std.proofs.Math.Option.{Option}
use Rattle.refusals.specs.declared.Refusal.{Refusal}
use Rattle.refusals.specs.Tests.{Test, test, first_of, refused}
use Rattle.outputs.specs.Outputs.{zeros, over}
use Rattle.ratio_format.specs.Bodies.{open_ratios, strict_ratios}
use Rattle.record_format.specs.declared.CheckAnswer.{CheckAnswer}
use Rattle.record_format.specs.declared.ReadAnswer.{ReadAnswer}
use Rattle.record_format.specs.declared.FetchAnswer.{FetchAnswer}
use Rattle.record_format.specs.Reading.{count_at, count_in, front_tests, points_tests}
use Rattle.record_format.specs.Checking.{run_by, refused_check, sound_check}

-- ---- the tests

-- whether an output has room for fewer than c numbers, where one has room for m and the other for n
abbrev pub lacks_room : ℕ → ℕ → ℕ → Bool
lacks_room m n c = cond (ltb m c) true (ltb n c)

-- the room that is lent: 16, at the count's field
abbrev pub room_tests : List ℕ → ℕ → ℕ → List Test
room_tests s m n = test (lacks_room m n (count_in s)) 16 (count_at s) ∷ []

-- a record's, and 16 once the count is known
abbrev pub read_tests : (ℕ → List ℕ → Option (List ℕ)) → ℕ → List ℕ → ℕ → ℕ → List Test
read_tests k e s m n = front_tests e s ++ (room_tests s m n ++ points_tests k s)

-- ---- the answer

-- the size is the bytes used
abbrev pub as_read : CheckAnswer → ReadAnswer
as_read a = record { number = a.number; place = a.place; rate = a.rate; side = a.side; count = a.count; form = a.form; used = a.size }

-- the whole answer of a reading into outputs
pub record Answer : Type 0 where
  pub answer : ReadAnswer
  pub positions : List ℕ
  pub ratios : List ℕ

-- of a refusal: outputs that are 0 from end to end
abbrev pub refusal_answer : Refusal → List ℕ → List ℕ → Answer
refusal_answer f ts vs = record { answer = as_read (refused_check f); positions = zeros ts; ratios = zeros vs }

-- of a record: the points of its run at the front of the outputs
abbrev pub record_answer : (ℕ → List ℕ → Option (List ℕ)) → List ℕ → List ℕ → List ℕ → Answer
record_answer k s ts vs = record { answer = as_read (sound_check s); positions = over (run_by k s).positions ts; ratios = over (run_by k s).ratios vs }

-- the refusal of the first test that applies, or else the answer a
abbrev pub answer_by : List Test → Answer → List ℕ → List ℕ → Answer
answer_by tests a ts vs =
    let f = first_of tests in
    cond (refused f) (refusal_answer f ts vs) a

-- reading the bytes s, with the rate e expected, into the outputs ts and vs
unfoldable pub read_with : (ℕ → List ℕ → Option (List ℕ)) → ℕ → List ℕ → List ℕ → List ℕ → Answer
read_with k e s ts vs = answer_by (read_tests k e s (length ts) (length vs)) (record_answer k s ts vs) ts vs

-- ---- open reading and fetch

-- open reading: the ratios' field is read by the open rule
abbrev pub read_open : ℕ → List ℕ → List ℕ → List ℕ → Answer
read_open e s ts vs = read_with open_ratios e s ts vs

-- the whole answer of a fetch
pub record Fetched : Type 0 where
  pub answer : FetchAnswer
  pub positions : List ℕ
  pub ratios : List ℕ

-- of an answer the number, the place and the count
abbrev pub as_fetched : Answer → Fetched
as_fetched a = record {
  answer = record { number = a.answer.number; place = a.answer.place; count = a.answer.count };
  positions = a.positions;
  ratios = a.ratios;
}

-- fetch: the ratios' field must be the coding of its ratios
abbrev pub fetched : ℕ → List ℕ → List ℕ → List ℕ → Fetched
fetched e s ts vs = as_fetched (read_with strict_ratios e s ts vs)
