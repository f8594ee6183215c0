-- Document 02, No. 1, as statements about the answer `explained` and its numbers; ReasonsApart is proved in proofs/Numbers, each other in proofs/Claims.
--   NoneEqual v w n         no ratio of the window w before place n is v; NoneAbove v w s: none of it has a sum above s
--   Says v w r              what the reason r says of the ratio v is true of the window w
--   SaysTrue                the answer for an index says what is true of the window there
--   SaysOne                 no two answers are true of the same ratio and window
--   WindowIs                what that window holds: the ratio before the index at place 0, up to 127 of them, and not the ratio itself
--   ratio_form_named v w r  the ratio form of v that the reason r names
--   NamesRatioForm          it is the ratio form that the writer chooses there, and its bytes are those at that point of the body of the whole run
--   OnlyWindow              the answer goes by the ratio at the index and the 127 before it, and by no other
--   refused_numbers n       the numbers of the refusal n, each of them written out: its place and all else is 0
--   RefusesExactly          it is the refusal 3 for more than 4,096 ratios, else 22 for an index not below their number, and else no refusal, in numbers too
--   ReasonsApart            no two answers have the same numbers
use Rattle.std.specs.Prelude.{Result, Ok, Err, List, ◌++◌, ◌≡◌, ℕ, ◌+◌, ◌-◌, ◌/◌, ◌^◌, ◌≤◌, ◌<◌, min, length, get_or, take, drop}
use Rattle.std.specs.Int.Bits.{bit_xor}
use Rattle.limits.specs.Points.{max_points}
use Rattle.refusals.specs.declared.Refusal.{Refusal}
use Rattle.refusals.specs.Tests.{refusal}
use Rattle.ratio_format.specs.declared.RatioForm.{RatioForm}
use Rattle.ratio_format.specs.declared.RatioForm.TheVariants.{Reference as ByPlace, Xor as ByXor, Exception as Literal}
use Rattle.ratio_format.specs.Bodies.{coded_from, coded_ratios}
use Rattle.ratio_format.specs.Choice.{ratio_form}
use Rattle.ratio_format.specs.RatioForms.{written}
use Rattle.ratio_format.specs.Windows.{window_size}
use Rattle.ratio_format.specs.Zeros.{lead_zeros, trail_zeros, sum_of}
use Rattle.reasons.specs.declared.Reason.{Reason}
use Rattle.reasons.specs.declared.Reason.TheVariants.{Reference, Xor, Exception, Empty}
use Rattle.reasons.specs.declared.ExplainAnswer.{ExplainAnswer}
use Rattle.reasons.specs.Reasons.{window_at, explained}
use Rattle.reasons.specs.Numbers.{reason_numbers}

-- no equal ratio nearer than place n
abbrev pub NoneEqual : ℕ → List ℕ → ℕ → Type 0
NoneEqual v w n = (q : ℕ) → q < n → get_or w q 0 ≡ v → ⊥

-- no ratio of the window has a sum above s
abbrev pub NoneAbove : ℕ → List ℕ → ℕ → Type 0
NoneAbove v w s = (q : ℕ) → q < length w → sum_of v (get_or w q 0) ≤ s

-- equal to the ratio at place p, no nearer one equal; xored with place p, with the two counts, no ratio of the window equal, none with a
-- larger sum nor a nearer one with the same; an exception, with the best sum, below 2, which some ratio has and none exceeds, and none
-- equal; nothing in the window
abbrev pub Says : ℕ → List ℕ → Reason → Type 0
Says v w (Reference p) = (p < length w) × (get_or w p 0 ≡ v) × NoneEqual v w p
Says v w (Xor p l t) =
    (p < length w) × (l ≡ lead_zeros (bit_xor v (get_or w p 0))) × (t ≡ trail_zeros (bit_xor v (get_or w p 0))) × (2 ≤ l + t)
    × NoneEqual v w (length w) × NoneAbove v w (l + t) × ((q : ℕ) → q < p → sum_of v (get_or w q 0) < l + t)
Says v w (Exception s) =
    (s < 2) × ((q : ℕ) × (q < length w) × (sum_of v (get_or w q 0) ≡ s)) × NoneAbove v w s × NoneEqual v w (length w)
Says v w Empty = length w ≡ 0

-- the answer is a reason, and it is true of the window at the index
abbrev pub SaysTrue : Type 0
SaysTrue = (vs : List ℕ) (i : ℕ) → length vs ≤ max_points → i < length vs → (r : Reason) × (explained vs i ≡ Ok r) × Says (get_or vs i 0) (window_at vs i) r

-- place p is the ratio p + 1 before the index, as far as 127 and as the ratios go
abbrev pub WindowIs : Type 0
WindowIs = (vs : List ℕ) (i : ℕ) → i ≤ length vs
    → (length (window_at vs i) ≡ min window_size i) × ((p : ℕ) → p < min window_size i → get_or (window_at vs i) p 0 ≡ get_or vs (i - 1 - p) 0)

-- so it is the only answer that is true of it
abbrev pub SaysOne : Type 0
SaysOne = (v : ℕ) (w : List ℕ) (r q : Reason) → Says v w r → Says v w q → r ≡ q

-- a reference; the xor's middle between the zero bytes; an exception
abbrev pub ratio_form_named : ℕ → List ℕ → Reason → RatioForm
ratio_form_named v w (Reference p) = ByPlace p
ratio_form_named v w (Xor p l t) = ByXor p t (8 - (l + t)) (bit_xor v (get_or w p 0) / 256 ^ t)
ratio_form_named v w (Exception s) = Literal
ratio_form_named v w Empty = Literal

-- the writer's form there, and the bytes there: after those of the ratios before it, and before those of the ratios after it
abbrev pub NamesRatioForm : Type 0
NamesRatioForm = (vs : List ℕ) (i : ℕ) → length vs ≤ max_points → i < length vs
    → let v = get_or vs i 0 in let w = window_at vs i in
    ((r : Reason) × (explained vs i ≡ Ok r) × (ratio_form_named v w r ≡ ratio_form v w))
    × (coded_ratios vs ≡ coded_ratios (take i vs) ++ (written v (ratio_form v w) ++ coded_from window_size (window_at vs (i + 1)) (drop (i + 1) vs)))

-- two runs that have the same ratio at the index and the same 127 before it get the same answer
abbrev pub OnlyWindow : Type 0
OnlyWindow = (vs us : List ℕ) (i : ℕ) → length vs ≤ max_points → length us ≤ max_points → i < length vs → i < length us
    → ((j : ℕ) → j ≤ i → i ≤ j + window_size → get_or vs j 0 ≡ get_or us j 0) → explained vs i ≡ explained us i

-- all but the number is 0
abbrev pub refused_numbers : ℕ → ExplainAnswer
refused_numbers n = record { number = n; place = 0; reason = 0; at = 0; leading = 0; trailing = 0; sum = 0 }

-- the refusals, and their places; where there is none, number and place are 0
abbrev pub RefusesExactly : Type 0
RefusesExactly = (vs : List ℕ) (i : ℕ)
    → let answer = explained vs i in
    let numbers = reason_numbers answer in
    (max_points < length vs → (answer ≡ Err (refusal 3 0)) × (numbers ≡ refused_numbers 3))
    × (length vs ≤ max_points → length vs ≤ i → (answer ≡ Err (refusal 22 0)) × (numbers ≡ refused_numbers 22))
    × (length vs ≤ max_points → i < length vs → ((f : Refusal) → answer ≡ Err f → ⊥) × (numbers.number ≡ 0) × (numbers.place ≡ 0))

-- so each case can be told, with all that it carries
abbrev pub ReasonsApart : Type 0
ReasonsApart = (r q : Result Reason Refusal) → reason_numbers r ≡ reason_numbers q → r ≡ q
