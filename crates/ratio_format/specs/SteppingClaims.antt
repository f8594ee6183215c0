-- Document 01, "Stepping" and "Numbers that come back": what is said of making a reader, of a step, and of successive ones. Proved in
-- proofs/SteppingClaims; those of successive steps, CursorStays and MadeStays in proofs/Stepping.
--   Makes               what making a reader answers, and the reader that it gives
--   GoodReader b c      the state c of a reader of the body b is not bad
--   RefusesStep c n a d   a refusal by n of a step from the state c, or the end: a is its answer, d the state afterwards
--   StepsSo b c a d     what a step through the body b answers and leaves, in each case
--   Steps               every step does so
--   step_answers b c n  the answers of n successive steps through the body b, from the state c
--   step_cursors b c n  the state after them
--   ratio_given v       the answer of a step that gives the ratio v
--   ended               the answer of a step when all are given and the body is used up
--   SteppingGives       a reader of a coded body gives its ratios one by one, and from then on the end
--   SteppingEnds        the end leaves the reader's state
--   SteppingOnly        no other body is read so
--   CursorStays         no step makes a good state bad
--   MadeStays           every reader that is made is good
use Rattle.std.specs.Prelude.{false, List, [], ◌∷◌, ◌++◌, map, ◌≡◌, ℕ, zero, suc, ◌+◌, ◌^◌, ◌≤◌, ◌<◌, min, length, drop, replicate}
use Rattle.lists.specs.Below.{Below}
use Rattle.limits.specs.Points.{max_points}
use Rattle.ratio_format.specs.declared.Cursor.{Cursor}
use Rattle.ratio_format.specs.declared.StepAnswer.{StepAnswer}
use Rattle.ratio_format.specs.Windows.{fresh_window, held}
use Rattle.ratio_format.specs.WindowClaims.{Takes}
use Rattle.ratio_format.specs.RatioForms.{coded}
use Rattle.ratio_format.specs.Bodies.{coded_ratios}
use Rattle.ratio_format.specs.Stepping.{made, made_body, made_cursor, bad_cursor, step_answer, step_cursor}

-- ---- making a reader

-- "It is made from a body and a count, with place 0, none seen and a fresh window. A refused making gives a reader with an empty body, count 0, place 0,
-- none seen and a fresh window"; 15 at place 0 for a count above 4,096, whatever the body is
abbrev pub Makes : Type 0
Makes = (n : ℕ) (b : List ℕ)
    → (n ≤ 4096
    → (made n ≡ record { number = 0; place = 0 })
    × (made_body n b ≡ b)
    × (made_cursor n ≡ record { place = 0; count = n; seen = 0; window = fresh_window }))
    × (4096 < n
    → (made n ≡ record { number = 15; place = 0 })
    × (made_body n b ≡ [])
    × (made_cursor n ≡ record { place = 0; count = 0; seen = 0; window = fresh_window }))

-- ---- one step

-- none of the four conditions that make a state bad
pub record GoodReader (b : List ℕ) (c : Cursor) : Type 0 where
  pub filled : c.window.fill ≡ min 127 c.seen
  pub seen : c.seen ≤ c.count
  pub counted : c.count ≤ 4096
  pub within : c.place ≤ length b

-- the other returned number is 0, and the state stays
abbrev pub RefusesStep : Cursor → ℕ → StepAnswer → Cursor → Type 0
RefusesStep c n a d = (a ≡ record { number = n; place = 0; ratio = 0 }) × (d ≡ c)

-- 7 for each of the four conditions, whatever else is so; of a good state, when as many were given as the count says, 8 where the body is used up, or
-- else 18; before that 18 where the bytes at its place begin with no written form of a ratio, and else the ratio whose written form they begin with,
-- whatever stands behind it: the place is past that form, one ratio more is seen, and it is in the window
pub record StepsSo (b : List ℕ) (c : Cursor) (a : StepAnswer) (d : Cursor) : Type 0 where
  pub other_fill : (c.window.fill ≡ min 127 c.seen → ⊥) → RefusesStep c 7 a d
  pub above_count : c.count < c.seen → RefusesStep c 7 a d
  pub above_limit : 4096 < c.count → RefusesStep c 7 a d
  pub past_body : length b < c.place → RefusesStep c 7 a d
  pub used_up : GoodReader b c → c.seen ≡ c.count → c.place ≡ length b → RefusesStep c 8 a d
  pub bytes_left : GoodReader b c → c.seen ≡ c.count → c.place < length b → RefusesStep c 18 a d
  pub no_form : GoodReader b c → c.seen < c.count
      → ((v : ℕ) (rest : List ℕ) → v < 2 ^ 64 → drop c.place b ≡ coded v (held c.window) ++ rest → ⊥)
      → RefusesStep c 18 a d
  pub given : GoodReader b c → c.seen < c.count
      → (v : ℕ) (rest : List ℕ) → v < 2 ^ 64 → drop c.place b ≡ coded v (held c.window) ++ rest
      → (a ≡ record { number = 0; place = 0; ratio = v })
      × (d.place ≡ c.place + length (coded v (held c.window)))
      × (d.count ≡ c.count)
      × (d.seen ≡ c.seen + 1)
      × Takes c.window v d.window

-- of every body and state: the three conditions are those of their types, bytes and 127 cells of 64 bits. What the written form of a ratio is, is
-- ChoosesForm (Claims)
abbrev pub Steps : Type 0
Steps = (b : List ℕ) (c : Cursor) → Below 256 b → length c.window.ratios ≡ 127 → Below (2 ^ 64) c.window.ratios
    → StepsSo b c (step_answer b c) (step_cursor b c)

-- ---- successive steps

-- the answers of n steps
unfoldable pub step_answers : List ℕ → Cursor → ℕ → List StepAnswer
step_answers b c zero = []
step_answers b c (suc n) = step_answer b c ∷ step_answers b (step_cursor b c) n

-- the state after n steps
unfoldable pub step_cursors : List ℕ → Cursor → ℕ → Cursor
step_cursors b c zero = c
step_cursors b c (suc n) = step_cursors b (step_cursor b c) n

-- a ratio
abbrev pub ratio_given : ℕ → StepAnswer
ratio_given v = record { number = 0; place = 0; ratio = v }

-- the end
abbrev pub ended : StepAnswer
ended = record { number = 8; place = 0; ratio = 0 }

-- as many steps as there are ratios give these, and m more give the end
abbrev pub SteppingGives : Type 0
SteppingGives = (vs : List ℕ) → length vs ≤ max_points → Below (2 ^ 64) vs → (m : ℕ)
    → step_answers (made_body (length vs) (coded_ratios vs)) (made_cursor (length vs)) (length vs + m) ≡ map ratio_given vs ++ replicate m ended

-- the state after the last ratio
abbrev pub SteppingEnds : Type 0
SteppingEnds = (vs : List ℕ) → length vs ≤ max_points → Below (2 ^ 64) vs
    → let b = made_body (length vs) (coded_ratios vs) in
    let c = step_cursors b (made_cursor (length vs)) (length vs) in
    (step_answer b c ≡ ended) × (step_cursor b c ≡ c)

-- "stepping is strict": a body through which a reader gives as many ratios as its count and then the end is their coding
abbrev pub SteppingOnly : Type 0
SteppingOnly = (b vs : List ℕ) → Below 256 b
    → step_answers (made_body (length vs) b) (made_cursor (length vs)) (length vs + 1) ≡ map ratio_given vs ++ (ended ∷ [])
    → b ≡ coded_ratios vs

-- whatever the body is
abbrev pub CursorStays : Type 0
CursorStays = (b : List ℕ) (c : Cursor) → bad_cursor b c ≡ false → bad_cursor b (step_cursor b c) ≡ false

-- a refused making too
abbrev pub MadeStays : Type 0
MadeStays = (n : ℕ) (b : List ℕ) → bad_cursor (made_body n b) (made_cursor n) ≡ false
