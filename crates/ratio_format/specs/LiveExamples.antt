-- Document 01, "Live" and "Numbers that come back": additions, as one table, computed from the definitions by one statement.
--   state vs fill seen        a state whose first cells are the ratios vs, and the others 0
--   AddExample                a state, a ratio and an output; and the answer, the output and the state afterwards
--   adds s v o n p t          such an example of a success with n bytes; refuses s v o n: of a refusal by n, with zeros in the output and the state as it was
--   add_examples              the rows; add_examples_hold: each is as it is given
use Rattle.std.specs.Prelude.{List, [], ◌∷◌, ◌++◌, map, ◌≡◌, refl, ℕ, ◌-◌, length, replicate}
use Rattle.bits.specs.Digits.{digits_of}
use Rattle.refusals.specs.Tests.{first_of}
use Rattle.ratio_format.specs.declared.Live.{Live}
use Rattle.ratio_format.specs.declared.AddAnswer.{AddAnswer}
use Rattle.ratio_format.specs.Zeros.{zeros_at, lead_zeros, trail_zeros, sum_of}
use Rattle.ratio_format.specs.Choice.{find, best, ratio_form}
use Rattle.ratio_format.specs.RatioForms.{written, coded}
use Rattle.ratio_format.specs.OpenExamples.{one}
use Rattle.ratio_format.specs.Lives.{add_refusal_by, add_answer_by, add_output_by, add_state_by, add_answer, add_output, add_state}

-- a state by its numbers
abbrev state : List ℕ → ℕ → ℕ → Live
state vs fill seen = record { window = record { ratios = vs ++ replicate (127 - length vs) 0; fill = fill }; seen = seen }

-- what is given, and what comes back
pub record AddExample : Type 0 where
  pub before : Live
  pub ratio : ℕ
  pub lent : List ℕ
  pub answer : AddAnswer
  pub output : List ℕ
  pub after : Live

-- a success
abbrev adds : Live → ℕ → List ℕ → ℕ → List ℕ → Live → AddExample
adds s v o n p t =
    record { before = s; ratio = v; lent = o; answer = record { number = 0; place = 0; length = n }; output = p; after = t }

-- a refusal
abbrev refuses : Live → ℕ → List ℕ → ℕ → AddExample
refuses s v o n =
    record { before = s; ratio = v; lent = o; answer = record { number = n; place = 0; length = 0 }; output = replicate (length o) 0; after = s }

-- an exception, a reference, which is kept as a repeat, and an xor form; the last ratio that is taken, to a full window; a bad state: each condition by
-- itself, and 7 before 3 and 6; 3, with room and without, so before 6; and 6
pub add_examples : List AddExample
add_examples =
    adds (state [] 0 0) 1 (replicate 10 7) 9 (one ++ (7 ∷ [])) (state (1 ∷ []) 1 1)
    ∷ adds (state (1 ∷ []) 1 1) 1 (7 ∷ 8 ∷ []) 1 (0x00 ∷ 8 ∷ []) (state (1 ∷ 1 ∷ []) 2 2)
    ∷ adds (state (1 ∷ []) 1 1) 2 (replicate 3 7) 3 (0x80 ∷ 0x01 ∷ 0x03 ∷ []) (state (1 ∷ 2 ∷ []) 2 2)
    ∷ adds (state (9 ∷ replicate 126 5) 127 4095) 9 (7 ∷ []) 1 (0x7E ∷ []) (state (replicate 126 5 ++ (9 ∷ [])) 127 4096)
    ∷ refuses (state [] 1 0) 1 (replicate 9 7) 7
    ∷ refuses (state (1 ∷ []) 0 1) 1 (replicate 9 7) 7
    ∷ refuses (state (replicate 127 5) 126 127) 1 (replicate 9 7) 7
    ∷ refuses (state (replicate 127 5) 128 200) 1 (replicate 9 7) 7
    ∷ refuses (state (replicate 127 5) 127 4097) 1 (replicate 9 7) 7
    ∷ refuses (state (replicate 127 5) 126 4096) 1 (7 ∷ 7 ∷ []) 7
    ∷ refuses (state (replicate 127 5) 127 4097) 1 (7 ∷ []) 7
    ∷ refuses (state (replicate 127 5) 127 4096) 1 (replicate 9 7) 3
    ∷ refuses (state (replicate 127 5) 127 4096) 1 (7 ∷ []) 3
    ∷ refuses (state [] 0 0) 1 (replicate 8 7) 6
    ∷ refuses (state (1 ∷ []) 1 1) 2 (replicate 2 7) 6
    ∷ refuses (state (1 ∷ []) 1 1) 1 [] 6
    ∷ []

-- each answer, output and state, computed from the definitions, is the one that is given
pub add_examples_hold :
    (map (λ e. add_answer e.before e.ratio e.lent) add_examples ≡ map (λ e. e.answer) add_examples)
    × (map (λ e. add_output e.before e.ratio e.lent) add_examples ≡ map (λ e. e.output) add_examples)
    × (map (λ e. add_state e.before e.ratio e.lent) add_examples ≡ map (λ e. e.after) add_examples)
unfolding add_examples digits_of first_of zeros_at lead_zeros trail_zeros sum_of find best ratio_form written coded add_refusal_by add_answer_by add_output_by add_state_by
add_examples_hold = (refl, refl, refl)
