-- Document 02, No. 5, the program, as statements about its calls: n counts the arguments, the program's own name too; the word is the first after that
-- name, and the input is what the file holds that the second names. MovesFile, RefusesFile and SaysUsage together say the response to every call.
-- NamesForms and ReadsFile are proved in proofs/Words, each other in proofs/Claims.
--   MovesFile      given four arguments or more, the word of the form f, and input that begins with the record of an accepted run in the other form, which is
--                  accepted in the form f as well, the program makes a file of that run's record in the form f, and prints `moved`, the bytes of the one and
--                  of the other, whatever follows
--   RefusesFile    given such arguments and any other input it makes no file, and prints the line of the refusal of a move, whose number is neither 0 nor 6
--   NamesForms     `wide` and `old` name the forms, and no other word does
--   ReadsFile      given four arguments or more and the word of a form the program reads the file
--   SaysUsage      given fewer, or any other word, it reads no file and makes none, and a line on standard error says how it is called
use Rattle.std.specs.Prelude.{None, Some, true, false, List, [], ◌∷◌, ◌++◌, ◌⊎◌, ◌≡◌, ℕ, ◌≤◌, ◌<◌, length, take}
use Rattle.position_format.specs.declared.Form.{Form}
use Rattle.position_format.specs.declared.Form.TheVariants.{Old, Wide}
use Rattle.record_format.specs.Claims.{Accepted, Beginning, Bytes}
use Rattle.record_format.specs.Moves.{other_form, in_form, move_of}
use Rattle.record_format.specs.Runs.{Run, record_of}
use Rattle.text.specs.Lines.{refused_line}
use Rattle.inputs.specs.Inputs.{input_limit}
use Rattle.move_record.specs.Words.{word_of, form_named, is_call}
use Rattle.move_record.specs.Lines.{moved_line, usage_line}
use Rattle.move_record.specs.Printed.{blank_record, standard_output, standard_error, response}

-- a run that both forms take
abbrev pub MovesFile : Type 0
MovesFile = (n : ℕ) → 4 ≤ n → (f : Form) (r : Run) → Accepted r → r.form ≡ other_form f → Accepted (in_form f r) → (rest : List ℕ)
    → response n (word_of f) (record_of r ++ rest)
    ≡ record {
      stream = standard_output;
      moved = true;
      file = record_of (in_form f r);
      line = moved_line (length (record_of r)) (length (record_of (in_form f r)));
    }

-- all other input, by the bytes that the program reads
abbrev pub RefusesFile : Type 0
RefusesFile = (n : ℕ) → 4 ≤ n → (f : Form) (s : List ℕ) → Bytes s
    → ((r : Run) → Accepted r → r.form ≡ other_form f → Accepted (in_form f r) → Beginning (record_of r) s → ⊥)
    → let a = (move_of f (take input_limit s) blank_record).answer in
    (a.number ≡ 0 → ⊥) × (a.number ≡ 6 → ⊥)
    × (response n (word_of f) s ≡ record { stream = standard_output; moved = false; file = []; line = refused_line a.number a.place })

-- 119 105 100 101 and 111 108 100
abbrev pub NamesForms : Type 0
NamesForms =
    (form_named (119 ∷ 105 ∷ 100 ∷ 101 ∷ []) ≡ Some Wide)
    × (form_named (111 ∷ 108 ∷ 100 ∷ []) ≡ Some Old)
    × ((w : List ℕ) → (w ≡ 119 ∷ 105 ∷ 100 ∷ 101 ∷ [] → ⊥) → (w ≡ 111 ∷ 108 ∷ 100 ∷ [] → ⊥) → form_named w ≡ None)

-- more than four change nothing
abbrev pub ReadsFile : Type 0
ReadsFile = (n : ℕ) → 4 ≤ n → (f : Form) → is_call n (word_of f) ≡ true

-- every other call, whatever the input is
abbrev pub SaysUsage : Type 0
SaysUsage = (n : ℕ) (w : List ℕ) → (n < 4) ⊎ ((f : Form) → w ≡ word_of f → ⊥) → (s : List ℕ)
    → (is_call n w ≡ false) × (response n w s ≡ record { stream = standard_error; moved = false; file = []; line = usage_line })
