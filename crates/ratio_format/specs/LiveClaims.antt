-- Document 01, "Live" and "Numbers that come back": what is said of a live addition, and of successive ones. Proved in proofs/LiveClaims; LiveBody,
-- LiveJoined and LiveStays in proofs/Lives.
--   RefusesAdd s o n a p t   a refusal by n of an addition to the state s with the output o: a is its answer, p the output and t the state afterwards
--   AddsSo s v b o a p t     what an addition of the ratio v, whose bytes are b, answers and leaves, in each case
--   Adds                       every addition does so, with the bytes that are written for the ratio against the state's window
--   StartsFresh                a live coding starts with no ratio seen and a fresh window
--   Tick               what an addition is given: a ratio, and the output that is lent for it
--   ratios_of ts       the ratios of the ticks ts, in their order
--   Roomy ts           each output has at least nine cells
--   tick_state s t, tick_bytes s t   the state after one tick, and the bytes written at it
--   add_numbers s ts   the numbers that successive additions answer, from the state s
--   add_joined s ts    the bytes that they write, joined
--   add_taken s ts     the ratios of those that answered 0
--   LiveBody           the bytes of successive additions, joined, are the ratios body
--   LiveJoined         whatever was refused, they are the body of the ratios that were added
--   LiveStays          no addition makes a good state bad
use Rattle.std.specs.Prelude.{false, cond, List, [], ◌∷◌, ◌++◌, map, ◌≡◌, ℕ, ◌+◌, ◌≤◌, ◌<◌, min, eqb, length, take, drop, replicate}
use Rattle.limits.specs.Points.{max_points}
use Rattle.ratio_format.specs.declared.Live.{Live}
use Rattle.ratio_format.specs.declared.AddAnswer.{AddAnswer}
use Rattle.ratio_format.specs.Windows.{fresh_window, held}
use Rattle.ratio_format.specs.WindowClaims.{Takes}
use Rattle.ratio_format.specs.RatioForms.{coded}
use Rattle.ratio_format.specs.Bodies.{coded_ratios}
use Rattle.ratio_format.specs.Lives.{fresh_live, bad_live, Coder, add_state_by, add_answer, add_output, add_state}

-- ---- one addition

-- "On a refusal every other returned number is 0, a kept state (not an output) is unchanged, and all lent outputs are 0 from end to end"
abbrev pub RefusesAdd : Live → List ℕ → ℕ → AddAnswer → List ℕ → Live → Type 0
RefusesAdd s o n a p t = (a ≡ record { number = n; place = 0; length = 0 }) × (p ≡ replicate (length o) 0) × (t ≡ s)

-- 7 for each of the two conditions that make a state bad, whatever else is so; of a good state 3 where 4,096 ratios were seen, whatever room there is;
-- then 6 where the output is shorter than the bytes; and else the bytes at the front of the output, whose rest stays, one ratio more seen, and the ratio
-- in the window
pub record AddsSo (s : Live) (v : ℕ) (b o : List ℕ) (a : AddAnswer) (p : List ℕ) (t : Live) : Type 0 where
  pub other_fill : (s.window.fill ≡ min 127 s.seen → ⊥) → RefusesAdd s o 7 a p t
  pub above_limit : 4096 < s.seen → RefusesAdd s o 7 a p t
  pub at_limit : s.window.fill ≡ min 127 s.seen → s.seen ≡ 4096 → RefusesAdd s o 3 a p t
  pub no_room : s.window.fill ≡ min 127 s.seen → s.seen < 4096 → length o < length b → RefusesAdd s o 6 a p t
  pub added : s.window.fill ≡ min 127 s.seen → s.seen < 4096 → length b ≤ length o
      → (a ≡ record { number = 0; place = 0; length = length b })
      × (p ≡ b ++ drop (length b) o)
      × (t.seen ≡ s.seen + 1)
      × Takes s.window v t.window

-- of every state, ratio and output; which bytes are written for a ratio is ChoosesForm (Claims)
abbrev pub Adds : Type 0
Adds = (s : Live) (v : ℕ) (o : List ℕ) → AddsSo s v (coded v (held s.window)) o (add_answer s v o) (add_output s v o) (add_state s v o)

-- so the first addition meets an empty window
abbrev pub StartsFresh : Type 0
StartsFresh = (fresh_live.seen ≡ 0) × (fresh_live.window ≡ fresh_window)

-- ---- successive additions

-- one addition's input
pub record Tick : Type 0 where
  pub ratio : ℕ
  pub output : List ℕ

-- the ratios of the ticks
abbrev pub ratios_of : List Tick → List ℕ
ratios_of ts = map (λ t. t.ratio) ts

-- no ratio takes more than nine bytes
unfoldable pub Roomy : List Tick → Type 0
Roomy [] = Unit {0}
Roomy (t ∷ ts) = (9 ≤ length t.output) × Roomy ts

-- the state after one tick
abbrev pub tick_state : Live → Tick → Live
tick_state s t = add_state s t.ratio t.output

-- the bytes written at one tick: as many of the output's first cells as the addition answers
abbrev pub tick_bytes : Live → Tick → List ℕ
tick_bytes s t = take (add_answer s t.ratio t.output).length (add_output s t.ratio t.output)

-- the numbers that the additions answer
unfoldable pub add_numbers : Live → List Tick → List ℕ
add_numbers s [] = []
add_numbers s (t ∷ ts) = (add_answer s t.ratio t.output).number ∷ add_numbers (tick_state s t) ts

-- the bytes of the additions, joined
unfoldable pub add_joined : Live → List Tick → List ℕ
add_joined s [] = []
add_joined s (t ∷ ts) = tick_bytes s t ++ add_joined (tick_state s t) ts

-- the ratios that were added
unfoldable pub add_taken : Live → List Tick → List ℕ
add_taken s [] = []
add_taken s (t ∷ ts) = cond (eqb (add_answer s t.ratio t.output).number 0) (t.ratio ∷ []) [] ++ add_taken (tick_state s t) ts

-- "The bytes of successive additions, joined, are the ratios body"; none is refused while there are at most 4,096 and each output has nine cells
abbrev pub LiveBody : Type 0
LiveBody = (ts : List Tick) → length ts ≤ max_points → Roomy ts
    → (add_numbers fresh_live ts ≡ replicate (length ts) 0) × (add_joined fresh_live ts ≡ coded_ratios (ratios_of ts))

-- whatever ticks there are, and whichever of them are refused
abbrev pub LiveJoined : Type 0
LiveJoined = (ts : List Tick) → add_joined fresh_live ts ≡ coded_ratios (add_taken fresh_live ts)

-- whatever the coder is
abbrev pub LiveStays : Type 0
LiveStays = (k : Coder) (s : Live) (v : ℕ) (o : List ℕ) → bad_live s ≡ false → bad_live (add_state_by k s v o) ≡ false
