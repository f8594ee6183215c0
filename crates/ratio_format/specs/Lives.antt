-- Document 01, "Ratios" (Live, and kept states) and "Numbers that come back": adding one ratio at a tick. The standard term is streaming,
-- or incremental, encoding. Tests, state and refusals are the same whatever the coder of one ratio is.
--   fresh_live         the first state: a fresh window and none seen
--   bad_window w n     the window's fill is not the smaller of its size and the number n seen
--   bad_live s         the state is bad
--   state_tests s      the tests of an addition that need no bytes: 7, 3
--   added_to s v       the state after the ratio v was added
--   Coder              a coder of one ratio: a ratio and a window, newest first, to bytes
--   add_tests_by k s v o  the tests of an addition by the coder k, in their order: 7, 3, 6
--   add_bytes_by, add_refusal_by, add_answer_by, add_output_by, add_state_by  the definitions below by any coder, their first argument; document 01's are
--                      these at the coder `coded`
--   add_bytes s v      the bytes of the ratio v in the state s
--   add_refusal s v o  the refusal of an addition, or none
--   add_answer s v o   the answer: number, place and the number of bytes written
--   add_output s v o   the output o afterwards
--   add_state s v o    the state afterwards
--   added_numbers a    the number of bytes written, or the refusal in its place, in numbers
use Rattle.std.specs.Prelude.{Bool, true, not, cond, List, [], ◌∷◌, ◌++◌, ℕ, ◌+◌, min, leb, ltb, eqb, length, Result, Ok, Err}
use Rattle.refusals.specs.declared.Refusal.{Refusal}
use Rattle.limits.specs.Points.{max_points}
use Rattle.refusals.specs.Tests.{Test, test, first_of, refused}
use Rattle.outputs.specs.Outputs.{zeros, over}
use Rattle.ratio_format.specs.declared.Window.{Window}
use Rattle.ratio_format.specs.declared.Live.{Live}
use Rattle.ratio_format.specs.declared.AddAnswer.{AddAnswer}
use Rattle.ratio_format.specs.Windows.{window_size, fresh_window, held, pushed}
use Rattle.ratio_format.specs.RatioForms.{coded}

-- where a live coding starts
abbrev pub fresh_live : Live
fresh_live = record { window = fresh_window; seen = 0 }

-- "the window's fill is not the smaller of 127 and the number seen"
abbrev pub bad_window : Window → ℕ → Bool
bad_window w n = not (eqb w.fill (min window_size n))

-- or the number seen exceeds its limit, 4,096
abbrev pub bad_live : Live → Bool
bad_live s = cond (bad_window s.window s.seen) true (ltb max_points s.seen)

-- 3 means that there would be more than 4,096 points with this one
abbrev pub state_tests : Live → List Test
state_tests s = test (bad_live s) 7 0 ∷ test (leb max_points s.seen) 3 0 ∷ []

-- the state after a ratio that was added
abbrev pub added_to : Live → ℕ → Live
added_to s v = record { window = pushed s.window v; seen = s.seen + 1 }

-- ---- an addition by any coder of one ratio

-- from a ratio and a window, newest first
abbrev pub Coder : Type 0
Coder = ℕ → List ℕ → List ℕ

-- the bytes of the ratio in this state
abbrev pub add_bytes_by : Coder → Live → ℕ → List ℕ
add_bytes_by k s v = k v (held s.window)

-- 6 means that the output has no room for them
abbrev pub add_tests_by : Coder → Live → ℕ → List ℕ → List Test
add_tests_by k s v o = state_tests s ++ (test (ltb (length o) (length (add_bytes_by k s v))) 6 0 ∷ [])

-- the refusal of an addition, or none
unfoldable pub add_refusal_by : Coder → Live → ℕ → List ℕ → Refusal
add_refusal_by k s v o = first_of (add_tests_by k s v o)

-- the answer
unfoldable pub add_answer_by : Coder → Live → ℕ → List ℕ → AddAnswer
add_answer_by k s v o =
    let f = add_refusal_by k s v o in
    record { number = f.number; place = f.place; length = cond (refused f) 0 (length (add_bytes_by k s v)) }

-- the output afterwards
unfoldable pub add_output_by : Coder → Live → ℕ → List ℕ → List ℕ
add_output_by k s v o = cond (refused (add_refusal_by k s v o)) (zeros o) (over (add_bytes_by k s v) o)

-- the state afterwards: unchanged by a refusal, every cell of it
unfoldable pub add_state_by : Coder → Live → ℕ → List ℕ → Live
add_state_by k s v o = cond (refused (add_refusal_by k s v o)) s (added_to s v)

-- ---- document 01's addition

-- the bytes
abbrev pub add_bytes : Live → ℕ → List ℕ
add_bytes = add_bytes_by coded

-- the refusal
abbrev pub add_refusal : Live → ℕ → List ℕ → Refusal
add_refusal = add_refusal_by coded

-- the answer
abbrev pub add_answer : Live → ℕ → List ℕ → AddAnswer
add_answer = add_answer_by coded

-- the output afterwards
abbrev pub add_output : Live → ℕ → List ℕ → List ℕ
add_output = add_output_by coded

-- the state afterwards
abbrev pub add_state : Live → ℕ → List ℕ → Live
add_state = add_state_by coded

-- the number of bytes written, or the refusal in its place, in numbers
abbrev pub added_numbers : Result ℕ Refusal → AddAnswer
added_numbers (Ok n) = record { number = 0; place = 0; length = n }
added_numbers (Err f) = record { number = f.number; place = f.place; length = 0 }
