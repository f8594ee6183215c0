-- Document 01, "Stepping" and "Numbers that come back": readers that are made and steps, as tables, computed from the definitions by one statement each.
--   reader place count seen vs fill   a reader's state whose window's first cells are the ratios vs, and the others 0
--   MakeExample, makes n b f k c      a count and a body, and what making gives: its number, the body that is held and the state
--   make_examples                     the rows; make_examples_hold: each is as it is given
--   StepExample                       a body and a state, and the answer and the state afterwards
--   gives b c v d                     such an example of the ratio v; refuses b c n: of a refusal by n, with the state as it was
--   step_examples                     the rows; step-examples_hold: each is as it is given
--   only_the_form                     a form, and then a byte that begins none: the ratio, and then 18
use Rattle.std.specs.Prelude.{List, [], ◌∷◌, ◌++◌, map, ◌≡◌, refl, ℕ, ◌-◌, length, replicate}
use Rattle.lists.specs.Compare.{begins}
use Rattle.bits.specs.Digits.{digits_of, number_of}
use Rattle.refusals.specs.declared.Refusal.{Refusal}
use Rattle.refusals.specs.Tests.{first_of}
use Rattle.ratio_format.specs.declared.Cursor.{Cursor}
use Rattle.ratio_format.specs.declared.StepAnswer.{StepAnswer}
use Rattle.ratio_format.specs.Zeros.{zeros_at, lead_zeros, trail_zeros, sum_of}
use Rattle.ratio_format.specs.Choice.{find, best, ratio_form}
use Rattle.ratio_format.specs.RatioForms.{written, coded}
use Rattle.ratio_format.specs.Open.{open_xor, open_one, strict_one}
use Rattle.ratio_format.specs.OpenExamples.{one}
use Rattle.ratio_format.specs.Stepping.{made, made_body, made_cursor, step_refusal, step_answer, step_cursor}
use Rattle.ratio_format.specs.SteppingClaims.{step_answers}

-- a state by its numbers
abbrev reader : ℕ → ℕ → ℕ → List ℕ → ℕ → Cursor
reader place count seen vs fill =
    record { place = place; count = count; seen = seen; window = record { ratios = vs ++ replicate (127 - length vs) 0; fill = fill } }

-- ---- making

-- what is given, and what comes back
pub record MakeExample : Type 0 where
  pub count : ℕ
  pub body : List ℕ
  pub refusal : Refusal
  pub held : List ℕ
  pub state : Cursor

-- such an example
abbrev makes : ℕ → List ℕ → ℕ → List ℕ → Cursor → MakeExample
makes n b f k c = record { count = n; body = b; refusal = record { number = f; place = 0 }; held = k; state = c }

-- the smallest and the largest count, with a body that cannot hold so many; and a count above it
pub make_examples : List MakeExample
make_examples =
    makes 0 one 0 one (reader 0 0 0 [] 0)
    ∷ makes 4096 one 0 one (reader 0 4096 0 [] 0)
    ∷ makes 4097 one 15 [] (reader 0 0 0 [] 0)
    ∷ []

-- each, computed from the definitions, is the one that is given
pub make_examples_hold :
    (map (λ e. made e.count) make_examples ≡ map (λ e. e.refusal) make_examples)
    × (map (λ e. made_body e.count e.body) make_examples ≡ map (λ e. e.held) make_examples)
    × (map (λ e. made_cursor e.count) make_examples ≡ map (λ e. e.state) make_examples)
unfolding make_examples first_of made made_body made_cursor
make_examples_hold = (refl, refl, refl)

-- ---- steps

-- what is given, and what comes back
pub record StepExample : Type 0 where
  pub body : List ℕ
  pub before : Cursor
  pub answer : StepAnswer
  pub after : Cursor

-- a ratio
abbrev gives : List ℕ → Cursor → ℕ → Cursor → StepExample
gives b c v d = record { body = b; before = c; answer = record { number = 0; place = 0; ratio = v }; after = d }

-- a refusal, or the end
abbrev refuses : List ℕ → Cursor → ℕ → StepExample
refuses b c n = record { body = b; before = c; answer = record { number = n; place = 0; ratio = 0 }; after = c }

-- each form, the last ratio that a count of 4,096 has, and a form with a byte behind it that begins none; a bad state: each condition by itself, and 7
-- before 18 and before 8; all given with the body used up, and with a byte left; before that no byte, a form that is cut, forms that only the open rule
-- reads, and a place that holds no ratio
pub step_examples : List StepExample
step_examples =
    gives one (reader 0 1 0 [] 0) 1 (reader 9 1 1 (1 ∷ []) 1)
    ∷ gives (one ++ (0x00 ∷ [])) (reader 9 2 1 (1 ∷ []) 1) 1 (reader 10 2 2 (1 ∷ 1 ∷ []) 2)
    ∷ gives (one ++ (0x80 ∷ 0x01 ∷ 0x03 ∷ [])) (reader 9 2 1 (1 ∷ []) 1) 2 (reader 12 2 2 (1 ∷ 2 ∷ []) 2)
    ∷ gives (0x7E ∷ []) (reader 0 4096 4095 (9 ∷ replicate 126 5) 127) 9 (reader 1 4096 4096 (replicate 126 5 ++ (9 ∷ [])) 127)
    ∷ gives (0xFF ∷ (replicate 8 0 ++ (0x7F ∷ []))) (reader 0 2 0 [] 0) 0 (reader 9 2 1 (0 ∷ []) 1)
    ∷ refuses one (reader 0 1 0 [] 1) 7
    ∷ refuses one (reader 9 2 1 (1 ∷ []) 0) 7
    ∷ refuses (one ++ one) (reader 9 1 2 (1 ∷ 1 ∷ []) 2) 7
    ∷ refuses one (reader 0 4097 0 [] 0) 7
    ∷ refuses one (reader 10 2 1 (1 ∷ []) 1) 7
    ∷ refuses one (reader 10 1 1 (1 ∷ []) 1) 7
    ∷ refuses [] (reader 0 0 0 [] 1) 7
    ∷ refuses one (reader 9 1 1 (1 ∷ []) 1) 8
    ∷ refuses [] (reader 0 0 0 [] 0) 8
    ∷ refuses (one ++ (0x00 ∷ [])) (reader 9 1 1 (1 ∷ []) 1) 18
    ∷ refuses one (reader 9 2 1 (1 ∷ []) 1) 18
    ∷ refuses (0xFF ∷ replicate 7 0) (reader 0 1 0 [] 0) 18
    ∷ refuses (one ++ (0x80 ∷ 0x00 ∷ [])) (reader 9 2 1 (1 ∷ []) 1) 18
    ∷ refuses (one ++ (0x80 ∷ 0x02 ∷ 0x00 ∷ 0x03 ∷ [])) (reader 9 2 1 (1 ∷ []) 1) 18
    ∷ refuses (one ++ one) (reader 9 2 1 (1 ∷ []) 1) 18
    ∷ refuses (0xFF ∷ (replicate 8 0 ++ (0x7F ∷ []))) (reader 9 2 1 (0 ∷ []) 1) 18
    ∷ []

-- each answer and state, computed from the definitions, is the one that is given
pub step-examples_hold :
    (map (λ e. step_answer e.body e.before) step_examples ≡ map (λ e. e.answer) step_examples)
    × (map (λ e. step_cursor e.body e.before) step_examples ≡ map (λ e. e.after) step_examples)
unfolding step_examples begins digits_of number_of first_of zeros_at lead_zeros trail_zeros sum_of find best ratio_form written coded open_xor open_one strict_one step_refusal step_answer step_cursor
step-examples_hold = (refl, refl)

-- what stands behind the form that is read has no part in a step
pub only_the_form :
    step_answers (0xFF ∷ (replicate 8 0 ++ (0x7F ∷ []))) (made_cursor 2) 2
    ≡ record { number = 0; place = 0; ratio = 0 } ∷ record { number = 18; place = 0; ratio = 0 } ∷ []
unfolding begins digits_of number_of first_of zeros_at lead_zeros trail_zeros sum_of find best ratio_form written coded open_xor open_one strict_one made made_cursor step_refusal step_answer step_cursor step_answers
only_the_form = refl
