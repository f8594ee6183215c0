-- What reading finds in the fields of the rate, the side and the count, as statements of `found`: of every reading k of the ratios' field, so of the check
-- and, by what FetchClaims and OpenReading say of outputs, of fetch and of open reading; and of all bytes that follow. Each is proved in
-- proofs/FrontClaims.
--   rate_bytes r, side_bytes d  the field of the rate r, and the field of a side that stores d
--   RateRefused                 the rate's field: 10 at 0 for a cut head, 11 for another tag than 1, 12 for another length than 4, 10 for fewer bytes
--   RateFirst                   13 and 14 stand before all that follows the rate
--   HeadCut                     past the rate fewer bytes than a head: 10 at 7; past a side: 10 at 11
--   TagRefused                  past the rate a tag that is neither 2 nor 6: 11 at 7; past a side a tag that is not 2: 11 at 11
--   LengthRefused               a side's field of another length than 1: 12 at 7
--   BodyCut                     a side's field without its byte: 10 at 7
--   SideRefused                 a stored side that is 0 or above 26: 20 at 7
--   CountRefused                a count's field of another length than 2: 12 at 7, or past a side at 11; one without its two bytes: 10 there
--   shifted d a                 the answer a with each offset four bytes further on and, of a success, the side d
--   SideShifts                  a side's field shifts what follows it by four bytes and changes nothing else: not the refusal's number, not a point
use Rattle.std.specs.Prelude.{true, false, cond, List, ◌∷◌, ◌++◌, ◌⊎◌, ◌≡◌, ℕ, ◌+◌, ◌^◌, ◌≤◌, ◌<◌, eqb, length}
use Rattle.std.proofs.Math.Option.{Option}
use Rattle.bits.specs.Digits.{bytes_of}
use Rattle.limits.specs.Rates.{is_rate}
use Rattle.record_format.specs.declared.CheckAnswer.{CheckAnswer}
use Rattle.record_format.specs.Fields.{field_of, field_bytes, tag_at}
use Rattle.record_format.specs.Runs.{run}
use Rattle.record_format.specs.Checking.{run_by, found}
use Rattle.record_format.specs.CheckClaims.{Expects, refused_found}

-- tag 1, four bytes
abbrev pub rate_bytes : ℕ → List ℕ
rate_bytes r = field_bytes (field_of 1 (bytes_of 4 r))

-- tag 6, one byte
abbrev pub side_bytes : ℕ → List ℕ
side_bytes d = field_bytes (field_of 6 (bytes_of 1 d))

-- fewer bytes than a head, another tag, another length, fewer bytes than that
abbrev pub RateRefused : Type 0
RateRefused = (k : ℕ → List ℕ → Option (List ℕ)) (e : ℕ) (rest : List ℕ)
    → (length rest < 3 → found k e rest ≡ refused_found 10 0)
    × (3 ≤ length rest → (tag_at rest 0 ≡ 1 → ⊥) → found k e rest ≡ refused_found 11 0)
    × ((l : ℕ) → l < 256 ^ 2 → (l ≡ 4 → ⊥) → found k e ((1 ∷ bytes_of 2 l) ++ rest) ≡ refused_found 12 0)
    × (length rest < 4 → found k e ((1 ∷ bytes_of 2 4) ++ rest) ≡ refused_found 10 0)

-- a rate that is none, or another than is expected, whatever follows
abbrev pub RateFirst : Type 0
RateFirst = (k : ℕ → List ℕ → Option (List ℕ)) (e r : ℕ) (rest : List ℕ) → r < 2 ^ 32
    → (is_rate r ≡ false → found k e (rate_bytes r ++ rest) ≡ refused_found 13 0)
    × (is_rate r ≡ true → (Expects e r → ⊥) → found k e (rate_bytes r ++ rest) ≡ refused_found 14 0)

-- no whole head past the rate, or past a side
abbrev pub HeadCut : Type 0
HeadCut = (k : ℕ → List ℕ → Option (List ℕ)) (e r : ℕ) (rest : List ℕ) → is_rate r ≡ true → Expects e r → length rest < 3
    → (found k e (rate_bytes r ++ rest) ≡ refused_found 10 7)
    × ((d : ℕ) → 1 ≤ d → d ≤ 26 → found k e (rate_bytes r ++ (side_bytes d ++ rest)) ≡ refused_found 10 11)

-- a whole head with another tag
abbrev pub TagRefused : Type 0
TagRefused = (k : ℕ → List ℕ → Option (List ℕ)) (e r : ℕ) (rest : List ℕ) → is_rate r ≡ true → Expects e r → 3 ≤ length rest → (tag_at rest 0 ≡ 2 → ⊥)
    → ((tag_at rest 0 ≡ 6 → ⊥) → found k e (rate_bytes r ++ rest) ≡ refused_found 11 7)
    × ((d : ℕ) → 1 ≤ d → d ≤ 26 → found k e (rate_bytes r ++ (side_bytes d ++ rest)) ≡ refused_found 11 11)

-- a side's tag and another length than 1, before its body is looked at
abbrev pub LengthRefused : Type 0
LengthRefused = (k : ℕ → List ℕ → Option (List ℕ)) (e r l : ℕ) (rest : List ℕ) → is_rate r ≡ true → Expects e r → l < 256 ^ 2 → (l ≡ 1 → ⊥)
    → found k e (rate_bytes r ++ ((6 ∷ bytes_of 2 l) ++ rest)) ≡ refused_found 12 7

-- a side's tag and the length 1, and nothing more
abbrev pub BodyCut : Type 0
BodyCut = (k : ℕ → List ℕ → Option (List ℕ)) (e r : ℕ) → is_rate r ≡ true → Expects e r
    → found k e (rate_bytes r ++ (6 ∷ bytes_of 2 1)) ≡ refused_found 10 7

-- a number that is no side, before the count's head is looked at
abbrev pub SideRefused : Type 0
SideRefused = (k : ℕ → List ℕ → Option (List ℕ)) (e r d : ℕ) (rest : List ℕ) → is_rate r ≡ true → Expects e r → (d ≡ 0) ⊎ ((26 < d) × (d < 256))
    → found k e (rate_bytes r ++ (side_bytes d ++ rest)) ≡ refused_found 20 7

-- a count's tag, and then another length than 2, or fewer bytes than that
abbrev pub CountRefused : Type 0
CountRefused = (k : ℕ → List ℕ → Option (List ℕ)) (e r l : ℕ) (rest : List ℕ) → is_rate r ≡ true → Expects e r → l < 256 ^ 2
    → let count = (2 ∷ bytes_of 2 l) ++ rest in
    ((l ≡ 2 → ⊥)
    → (found k e (rate_bytes r ++ count) ≡ refused_found 12 7)
    × ((d : ℕ) → 1 ≤ d → d ≤ 26 → found k e (rate_bytes r ++ (side_bytes d ++ count)) ≡ refused_found 12 11))
    × (l ≡ 2 → length rest < 2
    → (found k e (rate_bytes r ++ count) ≡ refused_found 10 7)
    × ((d : ℕ) → 1 ≤ d → d ≤ 26 → found k e (rate_bytes r ++ (side_bytes d ++ count)) ≡ refused_found 10 11))

-- of a refusal the place, of a success the side and the size
abbrev pub shifted : ℕ → CheckAnswer → CheckAnswer
shifted d a =
    cond (eqb a.number 0)
    (record { number = 0; place = 0; rate = a.rate; side = d; count = a.count; form = a.form; size = a.size + 4 })
    (record { number = a.number; place = a.place + 4; rate = 0; side = 0; count = 0; form = 0; size = 0 })

-- a side between the rate and what is no side's field: the answer, and of a success each point
abbrev pub SideShifts : Type 0
SideShifts = (k : ℕ → List ℕ → Option (List ℕ)) (e r d : ℕ) (rest : List ℕ) → is_rate r ≡ true → Expects e r → 1 ≤ d → d ≤ 26 → (tag_at rest 0 ≡ 6 → ⊥)
    → let s = rate_bytes r ++ rest in
    let t = rate_bytes r ++ (side_bytes d ++ rest) in
    (found k e t ≡ shifted d (found k e s)) × (run_by k t ≡ run (run_by k s).rate d (run_by k s).form (run_by k s).positions (run_by k s).ratios)
