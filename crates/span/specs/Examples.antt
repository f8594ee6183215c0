-- Documents 01 and 02, No. 6: answers of spans, as one table, computed from the definitions by one statement.
--   Example       a rate, positions, and the answer
--   spans, back   such an example with the span m forward, and with m milliseconds back
--   refuses       with the refusal n at p
--   plain, backward, onward, refusals   rows by what they are of
--   examples      all rows; examples_hold: each is as it is given
use Rattle.std.specs.Prelude.{◌≡◌, refl, List, [], ◌∷◌, ◌++◌, map, ℕ, ◌^◌, pos, neg_ℤ, replicate}
use Rattle.lists.specs.Lists.{member, first_index}
use Rattle.limits.specs.Rates.{rates, is_rate}
use Rattle.limits.specs.Points.{max_position}
use Rattle.refusals.specs.Tests.{first_of}
use Rattle.span.specs.declared.SpanAnswer.{SpanAnswer}
use Rattle.span.specs.Spans.{spanned}
use Rattle.span.specs.Claims.{span_of}

-- a rate, positions, and the answer
pub record Example : Type 0 where
  pub rate : ℕ
  pub positions : List ℕ
  pub answer : SpanAnswer

-- m milliseconds forwards
abbrev spans : ℕ → List ℕ → ℕ → Example
spans r ts m = record { rate = r; positions = ts; answer = span_of (pos m) }

-- m milliseconds backwards
abbrev back : ℕ → List ℕ → ℕ → Example
back r ts m = record { rate = r; positions = ts; answer = span_of (neg_ℤ (pos m)) }

-- refused with the number n at the place p
abbrev refuses : ℕ → List ℕ → ℕ → ℕ → Example
refuses r ts n p = record { rate = r; positions = ts; answer = record { number = n; place = p; milliseconds = pos 0 } }

-- document 01's run; no positions, one, and equal ends; 49 samples forward and back, with positions between that lie outside; and as many as there can be
abbrev plain : List Example
plain =
    spans 96000 (0 ∷ 960 ∷ 1920 ∷ []) 20
    ∷ spans 48000 [] 0
    ∷ spans 48000 (7 ∷ []) 0
    ∷ spans 48000 (max_position ∷ []) 0
    ∷ spans 48000 (7 ∷ 480000 ∷ 7 ∷ []) 0
    ∷ spans 48000 (65510 ∷ 9 ∷ 0 ∷ 65559 ∷ []) 1
    ∷ back 48000 (65559 ∷ 0 ∷ 2000000 ∷ 3 ∷ 65510 ∷ []) 2
    ∷ back 48000 (49 ∷ replicate 4095 0) 2
    ∷ []

-- back at each rate: a sample, the fewest samples that are whole milliseconds, and one more; at 44,100 and 48,000 samples around a millisecond, at 48,000 a
-- third of one and two seconds, at 176,400 two and a half milliseconds; and the longest way, at the lowest rate
abbrev backward : List Example
backward =
    back 44100 (1 ∷ 0 ∷ []) 1
    ∷ back 44100 (44 ∷ 0 ∷ []) 1
    ∷ back 44100 (45 ∷ 0 ∷ []) 2
    ∷ back 44100 (441 ∷ 0 ∷ []) 10
    ∷ back 44100 (442 ∷ 0 ∷ []) 11
    ∷ back 48000 (1 ∷ 0 ∷ []) 1
    ∷ back 48000 (16 ∷ 0 ∷ []) 1
    ∷ back 48000 (47 ∷ 0 ∷ []) 1
    ∷ back 48000 (48 ∷ 0 ∷ []) 1
    ∷ back 48000 (49 ∷ 0 ∷ []) 2
    ∷ back 48000 (96000 ∷ 0 ∷ []) 2000
    ∷ back 48000 (96001 ∷ 0 ∷ []) 2001
    ∷ back 88200 (1 ∷ 0 ∷ []) 1
    ∷ back 88200 (441 ∷ 0 ∷ []) 5
    ∷ back 88200 (442 ∷ 0 ∷ []) 6
    ∷ back 96000 (1 ∷ 0 ∷ []) 1
    ∷ back 96000 (96 ∷ 0 ∷ []) 1
    ∷ back 96000 (97 ∷ 0 ∷ []) 2
    ∷ back 176400 (1 ∷ 0 ∷ []) 1
    ∷ back 176400 (441 ∷ 0 ∷ []) 3
    ∷ back 176400 (882 ∷ 0 ∷ []) 5
    ∷ back 176400 (883 ∷ 0 ∷ []) 6
    ∷ back 192000 (1 ∷ 0 ∷ []) 1
    ∷ back 192000 (192 ∷ 0 ∷ []) 1
    ∷ back 192000 (193 ∷ 0 ∷ []) 2
    ∷ back 44100 (max_position ∷ 0 ∷ []) 104573379102661858
    ∷ []

-- forward at each rate, a sample before whole milliseconds; at 48,000 a third of one, one, and a sample more, at 176,400 two and a half; and the longest way
abbrev onward : List Example
onward =
    spans 44100 (0 ∷ 440 ∷ []) 9
    ∷ spans 48000 (0 ∷ 16 ∷ []) 0
    ∷ spans 48000 (0 ∷ 47 ∷ []) 0
    ∷ spans 48000 (0 ∷ 48 ∷ []) 1
    ∷ spans 48000 (0 ∷ 49 ∷ []) 1
    ∷ spans 88200 (0 ∷ 440 ∷ []) 4
    ∷ spans 96000 (0 ∷ 95 ∷ []) 0
    ∷ spans 176400 (0 ∷ 441 ∷ []) 2
    ∷ spans 176400 (0 ∷ 881 ∷ []) 4
    ∷ spans 192000 (0 ∷ 191 ∷ []) 0
    ∷ spans 44100 (0 ∷ max_position ∷ []) 104573379102661857
    ∷ []

-- 1 before 3 and 4, and of no positions too; 3 before 4; 4 at the first such index
abbrev refusals : List Example
refusals =
    refuses 48001 (49 ∷ 0 ∷ []) 1 0
    ∷ refuses 132300 (49 ∷ 0 ∷ []) 1 0
    ∷ refuses 144000 (49 ∷ 0 ∷ []) 1 0
    ∷ refuses 0 [] 1 0
    ∷ refuses 48001 ((2 ^ 62) ∷ []) 1 0
    ∷ refuses 48001 (replicate 4097 (2 ^ 62)) 1 0
    ∷ refuses 48000 ((2 ^ 62) ∷ replicate 4096 0) 3 0
    ∷ refuses 48000 ((2 ^ 62) ∷ []) 4 0
    ∷ refuses 48000 (0 ∷ (2 ^ 62) ∷ []) 4 1
    ∷ refuses 48000 (49 ∷ (2 ^ 62) ∷ (2 ^ 62) ∷ 0 ∷ []) 4 1
    ∷ []

-- all of them
pub examples : List Example
examples = plain ++ (backward ++ (onward ++ refusals))

-- each answer, computed from the definitions, is the one that is given
pub examples_hold : map (λ e. spanned e.rate e.positions) examples ≡ map (λ e. e.answer) examples
unfolding examples spanned first_of is_rate rates member first_index
examples_hold = refl
