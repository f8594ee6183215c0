-- What reading finds past the rate and the side, as statements of `found`: the count, the positions' field in either form and the ratios' field. They are
-- of every reading k of the ratios' field, so of the check and, by what FetchClaims and OpenReading say of outputs, of fetch and of open reading; and of all
-- bytes that follow. Each is proved in proofs/PointClaims.
--   front_bytes r d n  the fields of the rate r, the side d unless it is 0, and the count n
--   CountFirst      15 above 4,096 points, before the positions' field is looked at
--   TagFirst        10 for a cut head of the positions' field; 11 for a tag that is neither 3 nor 5; 15, at the count's field, for tag 5 above 3,500
--                   points, before the body
--   BodyByForm      in each form up to its number of points: 10 for a cut body, and 17 for one that is no coding in that form
--   RatiosByReading past positions in either form: 10 for a cut head or body of the ratios' field, 11 for a tag that is not 4, 18 for a body that the
--                   reading does not take; and else the answer is the rate, the side, the count, the form's tag and the size, and the run has all points
--   ReadsFront      what is not refused begins with the fields of the rate, the side, the count and the positions that are answered, the last in the form
--                   whose tag is answered
--   ChecksStrictly  of the check: past such positions it accepts the ratios' field exactly where its body is the coding of as many ratios as the count,
--                   and gives 18 at that field where it is not
use Rattle.std.specs.Prelude.{true, List, [], ◌∷◌, ◌++◌, ◌≡◌, ℕ, ◌+◌, ◌^◌, ◌≤◌, ◌<◌, length}
use Rattle.std.proofs.Math.Option.{Option, none, some}
use Rattle.lists.specs.Below.{Below}
use Rattle.bits.specs.Digits.{bytes_of}
use Rattle.limits.specs.Rates.{is_rate}
use Rattle.limits.specs.Sides.{max_side}
use Rattle.position_format.specs.declared.Form.{Form}
use Rattle.position_format.specs.Positions.{valid_positions, read_positions}
use Rattle.position_format.specs.Tables.{table_of, points_of}
use Rattle.ratio_format.specs.Bodies.{coded_ratios}
use Rattle.record_format.specs.Fields.{field_of, field_bytes, laid, tag_at}
use Rattle.record_format.specs.Runs.{run, positions_tag, positions_field, front_fields}
use Rattle.record_format.specs.Checking.{run_by, run_in, found, checked}
use Rattle.record_format.specs.Claims.{Bytes, Beginning, count_place, positions_place}
use Rattle.record_format.specs.CheckClaims.{Expects, refused_found}

-- the front of a record
abbrev pub front_bytes : ℕ → ℕ → ℕ → List ℕ
front_bytes r d n = laid (front_fields r d n)

-- too many points for either form
abbrev pub CountFirst : Type 0
CountFirst = (k : ℕ → List ℕ → Option (List ℕ)) (e r d n : ℕ) (rest : List ℕ) → is_rate r ≡ true → Expects e r → d ≤ 26 → n < 256 ^ 2
    → 4096 < n → found k e (front_bytes r d n ++ rest) ≡ refused_found 15 (count_place d)

-- the head of the positions' field, and then the count by the form
abbrev pub TagFirst : Type 0
TagFirst = (k : ℕ → List ℕ → Option (List ℕ)) (e r d n : ℕ) (rest : List ℕ) → is_rate r ≡ true → Expects e r → d ≤ 26 → n ≤ 4096
    → (length rest < 3 → found k e (front_bytes r d n ++ rest) ≡ refused_found 10 (positions_place d))
    × (3 ≤ length rest → (tag_at rest 0 ≡ 3 → ⊥) → (tag_at rest 0 ≡ 5 → ⊥) → found k e (front_bytes r d n ++ rest) ≡ refused_found 11 (positions_place d))
    × (3 ≤ length rest → tag_at rest 0 ≡ 5 → 3500 < n → found k e (front_bytes r d n ++ rest) ≡ refused_found 15 (count_place d))

-- a head that states l bytes with fewer behind it, and a whole body that holds no positions
abbrev pub BodyByForm : Type 0
BodyByForm = (k : ℕ → List ℕ → Option (List ℕ)) (e r d n : ℕ) (f : Form) (rest : List ℕ) → is_rate r ≡ true → Expects e r → d ≤ 26
    → n ≤ points_of f
    → ((l : ℕ) → l < 256 ^ 2 → length rest < l
    → found k e (front_bytes r d n ++ ((positions_tag f ∷ bytes_of 2 l) ++ rest)) ≡ refused_found 10 (positions_place d))
    × ((body : List ℕ) → length body < 256 ^ 2 → read_positions (table_of f) n body ≡ none
    → found k e (front_bytes r d n ++ (field_bytes (field_of (positions_tag f) body) ++ rest)) ≡ refused_found 17 (positions_place d))

-- the ratios' field past n positions, which end at the offset b
abbrev pub RatiosByReading : Type 0
RatiosByReading = (k : ℕ → List ℕ → Option (List ℕ)) (e r d : ℕ) (f : Form) (ps rest : List ℕ) → is_rate r ≡ true → Expects e r → d ≤ 26
    → length ps ≤ points_of f → valid_positions (table_of f) ps ≡ true
    → let n = length ps in
    let before = laid (front_fields r d n ++ (positions_field f ps ∷ [])) in
    let b = length before in
    (length rest < 3 → found k e (before ++ rest) ≡ refused_found 10 b)
    × (3 ≤ length rest → (tag_at rest 0 ≡ 4 → ⊥) → found k e (before ++ rest) ≡ refused_found 11 b)
    × ((l : ℕ) → l < 256 ^ 2 → length rest < l → found k e (before ++ ((4 ∷ bytes_of 2 l) ++ rest)) ≡ refused_found 10 b)
    × ((body : List ℕ) → length body < 256 ^ 2
    → (k n body ≡ none → found k e (before ++ (field_bytes (field_of 4 body) ++ rest)) ≡ refused_found 18 b)
    × ((qs : List ℕ) → k n body ≡ some qs
    → let s = before ++ (field_bytes (field_of 4 body) ++ rest) in
    (found k e s ≡ record { number = 0; place = 0; rate = r; side = d; count = n; form = positions_tag f; size = b + 3 + length body })
    × (run_by k s ≡ run r d f ps qs)))

-- each is in its range. So a side that is stored is answered, a stored 0 is not accepted, and side 0 is answered where no side's field stands
abbrev pub ReadsFront : Type 0
ReadsFront = (k : ℕ → List ℕ → Option (List ℕ)) (e : ℕ) (s : List ℕ) → Bytes s → (found k e s).number ≡ 0
    → let a = found k e s in
    (f : Form) × (ps : List ℕ)
    × (a.form ≡ positions_tag f) × (a.count ≡ length ps) × ((run_by k s).positions ≡ ps)
    × (is_rate a.rate ≡ true) × (a.side ≤ max_side) × (length ps ≤ points_of f) × (valid_positions (table_of f) ps ≡ true)
    × Beginning (laid (front_fields a.rate a.side (length ps) ++ (positions_field f ps ∷ []))) s

-- the check, in the words of 18: the body is the coding of as many ratios as the count, or it is refused at the ratios' field, which stands at the offset b
abbrev pub ChecksStrictly : Type 0
ChecksStrictly = (e r d : ℕ) (f : Form) (ps body rest : List ℕ) → is_rate r ≡ true → Expects e r → d ≤ 26
    → length ps ≤ points_of f → valid_positions (table_of f) ps ≡ true → Bytes body → length body < 256 ^ 2
    → let n = length ps in
    let before = laid (front_fields r d n ++ (positions_field f ps ∷ [])) in
    let b = length before in
    let s = before ++ (field_bytes (field_of 4 body) ++ rest) in
    ((qs : List ℕ) → length qs ≡ n → Below (2 ^ 64) qs → body ≡ coded_ratios qs
    → (checked e s ≡ record { number = 0; place = 0; rate = r; side = d; count = n; form = positions_tag f; size = b + 3 + length body }) × (run_in s ≡ run r d f ps qs))
    × (((qs : List ℕ) → length qs ≡ n → Below (2 ^ 64) qs → body ≡ coded_ratios qs → ⊥) → checked e s ≡ refused_found 18 b)
