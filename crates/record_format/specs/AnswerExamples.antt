-- Answers by example: what an example of reading and of writing is, and that every one of a table is as it is given.
--   given_rate, given_side d, given_count n  bytes of fields: the rate 96,000, a side that stores d, a count
--   two_open t             the fields of two points at 0, the positions' with the tag t, whose ratios are the exceptions 0 and 1: no coding, but an open form
--   sound d n f u          what a check answers of a record at 96,000 on side d, with n points, the form's tag f and u bytes
--   ReadExample, ReadsSo   the expected rate, the room for numbers, the input, and the answers of check, fetch and open reading
--   alike, open_only, no_room  such examples in which all answer alike, in which only open reading accepts, and in which there is no room to read into
--   WriteExample, WritesSo a run, the room for bytes, and the answer; wrote: such an example
use Rattle.std.specs.Prelude.{◌≡◌, List, [], ◌∷◌, ◌++◌, map, ℕ, replicate}
use Rattle.bits.specs.Digits.{bytes_of}
use Rattle.record_format.specs.declared.CheckAnswer.{CheckAnswer}
use Rattle.record_format.specs.declared.FetchAnswer.{FetchAnswer}
use Rattle.record_format.specs.declared.ReadAnswer.{ReadAnswer}
use Rattle.record_format.specs.declared.WriteAnswer.{WriteAnswer}
use Rattle.record_format.specs.Runs.{Run}
use Rattle.record_format.specs.Writing.{write_answer}
use Rattle.record_format.specs.Checking.{checked}
use Rattle.record_format.specs.Fetching.{as_read, read_open, fetched}

-- a rate's field
abbrev pub given_rate : List ℕ
given_rate = 0x01 ∷ 0x00 ∷ 0x04 ∷ 0x00 ∷ 0x01 ∷ 0x77 ∷ 0x00 ∷ []

-- a side's
abbrev pub given_side : ℕ → List ℕ
given_side d = 0x06 ∷ 0x00 ∷ 0x01 ∷ d ∷ []

-- a count's
abbrev pub given_count : ℕ → List ℕ
given_count n = 0x02 ∷ 0x00 ∷ 0x02 ∷ bytes_of 2 n

-- the positions' and the ratios' of two points, openly
abbrev pub two_open : ℕ → List ℕ
two_open t = t ∷ 0x00 ∷ 0x10 ∷ (replicate 16 0 ++ (0x04 ∷ 0x00 ∷ 0x12 ∷ 0xFF ∷ (replicate 8 0 ++ (0xFF ∷ (replicate 7 0 ++ (0x01 ∷ []))))))

-- a success
abbrev pub sound : ℕ → ℕ → ℕ → ℕ → CheckAnswer
sound d n f u = record { number = 0; place = 0; rate = 96000; side = d; count = n; form = f; size = u }

-- what is read, and what it gives
pub record ReadExample : Type 0 where
  pub expected : ℕ
  pub room : ℕ
  pub input : List ℕ
  pub checks : CheckAnswer
  pub fetches : FetchAnswer
  pub opens : ReadAnswer

-- of a check's answer what a fetch returns
abbrev pub counted : CheckAnswer → FetchAnswer
counted a = record { number = a.number; place = a.place; count = a.count }

-- all three answer alike
abbrev pub alike : ℕ → ℕ → List ℕ → CheckAnswer → ReadExample
alike e m s a = record { expected = e; room = m; input = s; checks = a; fetches = counted a; opens = as_read a }

-- only open reading accepts
abbrev pub open_only : ℕ → List ℕ → CheckAnswer → CheckAnswer → ReadExample
open_only m s a b = record { expected = 0; room = m; input = s; checks = a; fetches = counted a; opens = as_read b }

-- there is no room: 16 at the place p, whatever a check finds
abbrev pub no_room : ℕ → List ℕ → ℕ → CheckAnswer → ReadExample
no_room m s p a = record {
  expected = 0;
  room = m;
  input = s;
  checks = a;
  fetches = record { number = 16; place = p; count = 0 };
  opens = record { number = 16; place = p; rate = 0; side = 0; count = 0; form = 0; used = 0 };
}

-- each answer, computed from the definitions, is the one that is given
abbrev pub ReadsSo : List ReadExample → Type 0
ReadsSo xs =
    (map (λ x. checked x.expected x.input) xs ≡ map (λ x. x.checks) xs)
    × (map (λ x. (fetched x.expected x.input (replicate x.room 0) (replicate x.room 0)).answer) xs ≡ map (λ x. x.fetches) xs)
    × (map (λ x. (read_open x.expected x.input (replicate x.room 0) (replicate x.room 0)).answer) xs ≡ map (λ x. x.opens) xs)

-- a run, the room that is lent, and the answer
pub record WriteExample : Type 0 where
  pub subject : Run
  pub room : ℕ
  pub answer : WriteAnswer

-- such an example: the answer's number, place and length
abbrev pub wrote : Run → ℕ → ℕ → ℕ → ℕ → WriteExample
wrote r m n p l = record { subject = r; room = m; answer = record { number = n; place = p; length = l } }

-- each answer, computed from the definitions, is the one that is given
abbrev pub WritesSo : List WriteExample → Type 0
WritesSo xs = map (λ x. write_answer x.subject (replicate x.room 0)) xs ≡ map (λ x. x.answer) xs
