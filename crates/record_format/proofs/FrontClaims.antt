-- What reading finds in the fields of the rate, the side and the count.
use mathlib.Core.Path.{◌≡◌, refl, sym, ap, ap₂, ◌∙◌, subst}
use mathlib.Core.Bool.{Bool, true, false, not, cond}
use mathlib.Core.List.{List, [], ◌∷◌, ◌++◌, append-nil, map}
use mathlib.Core.Logic.{inl, inr}
use mathlib.Core.Option.{Option, some}
use Prim.Native.Nat.{ℕ, ◌+◌, ◌^◌, ◌≤◌, ◌<◌}
use native.Mathlib.Nat.{add-zero}
use native.Mathlib.Omega.{arith}
use borrow.Author.Tests.{eqb-false, eq-eqb, ne_eqb, le-leb, lt-leb}
use lib.Dec.{ltb, eqb, lit<}
use lib.ListN.{length, drop, get_or, length-append}
use lib.Seq.{drop_at, drop-drop, get_or-drop, get_or-append-add}
use Rattle.lists.specs.Compare.{both}
use Rattle.lists.specs.Lists.{member}
use Rattle.bits.specs.Digits.{bytes_of, number_of}
use Rattle.bits.proofs.Digits.{length_digits, number_digits_lt}
use Rattle.limits.specs.Points.{max_points}
use Rattle.limits.specs.Rates.{is_rate}
use Rattle.limits.specs.Sides.{max_side, is_side}
use Rattle.limits.proofs.Rates.{rate_high}
use Rattle.limits.proofs.Sides.{side_in_lem}
use Rattle.refusals.specs.declared.Refusal.{Refusal}
use Rattle.refusals.specs.Tests.{Test, test, refusal, first_of, refused}
use Rattle.refusals.proofs.Tests.{first_of_here, first_of_skip, further, further_append, Further, first_of_further}
use Rattle.record_format.specs.Fields.{Field, field_of, length_size, head_size, tag_at, length_at, body_at, next_at, field_tests}
use Rattle.record_format.specs.Runs.{run, rate_tag, side_tag, count_tag, positions_tags, rate_size, side_size, count_size, rate_field}
use Rattle.record_format.specs.Reading.{rate_at, side_at, has_side, count_at, rate_in, side_in, count_in, other_rate, side_tests, count_tests, positions_tests, ratios_tests, record_tests}
use Rattle.record_format.specs.declared.CheckAnswer.{CheckAnswer}
use Rattle.record_format.specs.Checking.{run_by, refused_check, sound_check, found}
use Rattle.record_format.specs.CheckClaims.{Expects, refused_found}
use Rattle.record_format.specs.FrontClaims.{rate_bytes, side_bytes, RateRefused, RateFirst, HeadCut, TagRefused, LengthRefused, BodyCut, SideRefused, CountRefused, shifted, SideShifts}
use Rattle.record_format.proofs.Fields.{FieldStands, length_field, field_stands, head_stands}
use Rattle.record_format.proofs.Reading.{head_short, tag_other, length_other, body_short, field_passes, tests_flat, other_rate_not, other_rate_none}
use Rattle.record_format.proofs.Checking.{found-refused}
use Rattle.record_format.proofs.Reading.Shifted.{FieldsShifted, later_fields, end_shifted, count_same, form_same, positions_same, ratios-same, count_tests_shifted, positions_tests_shifted, ratios_tests_shifted}
use Rattle.record_format.proofs.Runs.{closing_field_count}
use Rattle.record_format.proofs.Reading.Sides.{absent_count, absent_tests, present_count, present_side, present_tests}

-- the offset of the side's field, past the rate's
abbrev side_place : ℕ
side_place = head_size + rate_size

-- how many bytes a side's field takes
abbrev side_takes : ℕ
side_takes = head_size + side_size

-- a tag that is the one of a list of one
is_one_lem : (x t : ℕ) → x ≡ t → member x (t ∷ []) ≡ true
unfolding member
is_one_lem x t q = rw (eq-eqb x t q)

-- and one that is not
not_one : (x t : ℕ) → (x ≡ t → ⊥) → member x (t ∷ []) ≡ false
unfolding member
not_one x t d = rw (ne_eqb x t d)

-- ---- the rate's field

module _ (k : ℕ → List ℕ → Option (List ℕ)) (e : ℕ) (s : List ℕ) where
  -- what its tests give is the answer
  rate_refuses : (n p : ℕ) → (n ≡ 0 → ⊥) → ((us : List Test) → refusal n p ≡ first_of (field_tests s (rate_tag ∷ []) (some rate_size) rate_at ++ us)) → found k e s ≡ refused_found n p
  rate_refuses n p d q = found-refused k e s n p d (ap first_of (tests_flat k e s) ∙ sym (q _))

pub rate_refused : RateRefused
unfolding next_at
rate_refused k e rest = (
  λ h. rate_refuses k e rest 10 rate_at (λ z. omega arith) (λ us. head_short rest (rate_tag ∷ []) (some rate_size) rate_at us (omega arith)),
  λ long one.
      rate_refuses k e rest 11 rate_at (λ z. omega arith)
      (λ us. tag_other rest (rate_tag ∷ []) (some rate_size) rate_at us (omega arith) (not_one _ _ one)),
  λ l small d.
      let s = (rate_tag ∷ bytes_of length_size l) ++ rest in
      let h = head_stands [] rate_tag l rest small in
      rate_refuses k e s 12 rate_at (λ z. omega arith)
      (λ us. length_other s (rate_tag ∷ []) (some rate_size) rate_at us (omega (arith, length-append (rate_tag ∷ bytes_of length_size l) rest, length_digits 256 length_size l)) (is_one_lem _ _ h.0) rate_size refl (λ z. d (sym h.1 ∙ z))),
  λ cut.
      let s = (rate_tag ∷ bytes_of length_size rate_size) ++ rest in
      let h = head_stands [] rate_tag rate_size rest (lit< tt) in
      rate_refuses k e s 10 rate_at (λ z. omega arith)
      (λ us.
      body_short s (rate_tag ∷ []) (some rate_size) rate_at us (omega (arith, length-append (rate_tag ∷ bytes_of length_size rate_size) rest, length_digits 256 length_size rate_size)) (is_one_lem _ _ h.0) h.1
      (omega (arith, h.1, length-append (rate_tag ∷ bytes_of length_size rate_size) rest, length_digits 256 length_size rate_size))),
)

-- ---- past the rate

module _ (k : ℕ → List ℕ → Option (List ℕ)) (e r : ℕ) (rest : List ℕ) where
  abbrev s : List ℕ
  s = rate_bytes r ++ rest

  abbrev tests : List Test
  tests = record_tests k e s

  -- the tests from the count's on, and from the side's on
  abbrev from_count : List Test
  from_count = count_tests s ++ (positions_tests s ++ ratios_tests k s)

  abbrev from_side : List Test
  from_side = side_tests s ++ from_count

  length_rate : length (rate_bytes r) ≡ side_place
  length_rate = length_field (rate_field r) ∙ ap (λ (n : ℕ). head_size + n) (length_digits 256 rate_size r)

  length_all : length s ≡ side_place + length rest
  length_all = length-append (rate_bytes r) rest ∙ ap (λ (n : ℕ). n + length rest) length_rate

  rate_stands : FieldStands s rate_at (rate_field r)
  rate_stands = field_stands [] (rate_field r) rest (omega (arith, length_digits 256 rate_size r))

  at_side : side_at s ≡ side_place
  at_side = rate_stands.next ∙ omega (arith, length_rate)

  -- what follows the rate
  rest_here : drop side_place s ≡ rest
  rest_here = drop_at (rate_bytes r) rest side_place length_rate

  tag_rest : tag_at s (side_at s) ≡ tag_at rest 0
  unfolding tag_at
  tag_rest = ap (λ (p : ℕ). get_or s p 0) (at_side ∙ sym length_rate ∙ sym (add-zero (length (rate_bytes r)))) ∙ get_or-append-add (rate_bytes r) rest 0 0

  rate_tests_lem : first_of tests ≡ first_of (test (not (is_rate (rate_in s))) 13 rate_at ∷ test (other_rate e (rate_in s)) 14 rate_at ∷ from_side)
  unfolding member
  rate_tests_lem =
      ap first_of (tests_flat k e s)
      ∙ field_passes rate_stands (rate_tag ∷ []) (some rate_size) (test (not (is_rate (rate_in s))) 13 rate_at ∷ test (other_rate e (rate_in s)) 14 rate_at ∷ from_side)
      refl (length_digits 256 rate_size r)

  abbrev refuses : (n p : ℕ) → (n ≡ 0 → ⊥) → first_of tests ≡ refusal n p → found k e s ≡ refused_found n p
  refuses n p d q = found-refused k e s n p d q

  module _ (small : r < 2 ^ 32) where
    rate_is : rate_in s ≡ r
    rate_is = ap (number_of 256) rate_stands.within ∙ number_digits_lt (lit< tt) rate_size (omega arith)

    thirteen : is_rate r ≡ false → found k e s ≡ refused_found 13 rate_at
    thirteen b = refuses 13 rate_at (λ z. omega arith) (rate_tests_lem ∙ first_of_here _ _ (ap (λ (x : ℕ). not (is_rate x)) rate_is ∙ ap not b))

    fourteen : is_rate r ≡ true → (Expects e r → ⊥) → found k e s ≡ refused_found 14 rate_at
    fourteen b d =
        refuses 14 rate_at (λ z. omega arith)
        (rate_tests_lem ∙ first_of_skip _ _ (ap (λ (x : ℕ). not (is_rate x)) rate_is ∙ ap not b) ∙ first_of_here _ _ (ap (other_rate e) rate_is ∙ differs (other_rate e r) refl))
      where
        differs : (b : Bool) → other_rate e r ≡ b → other_rate e r ≡ true
        differs true q = q
        differs false q = absurd (d (other_rate_none e r q))

  module _ (listed : is_rate r ≡ true) (o : Expects e r) where
    rate_small : r < 2 ^ 32
    rate_small = omega (arith, rate_high r listed)

    past_rate : first_of tests ≡ first_of from_side
    past_rate =
        rate_tests_lem
        ∙ first_of_skip _ _ (ap (λ (x : ℕ). not (is_rate x)) (rate_is rate_small) ∙ ap not listed)
        ∙ first_of_skip _ _ (ap (other_rate e) (rate_is rate_small) ∙ other_rate_not e r o)

    past_absent : has_side s ≡ false → first_of tests ≡ first_of from_count
    past_absent a = past_rate ∙ ap (λ (l : List Test). first_of (l ++ from_count)) (absent_tests s a)

    ten : length rest < head_size → found k e s ≡ refused_found 10 side_place
    ten h = refuses 10 side_place (λ z. omega arith) (go (has_side s) refl)
      where
        go : (b : Bool) → has_side s ≡ b → first_of tests ≡ refusal 10 side_place
        go false a =
            let at : count_at s ≡ side_place = absent_count s a ∙ at_side in
            past_absent a ∙ sym (head_short s (count_tag ∷ []) (some count_size) (count_at s) _ (omega (arith, length_all))) ∙ ap (refusal 10) at
        go true a =
            past_rate
            ∙ ap (λ (l : List Test). first_of (l ++ from_count)) (present_tests s a)
            ∙ sym (head_short s (side_tag ∷ []) (some side_size) (side_at s) _ (omega (arith, length_all, at_side)))
            ∙ ap (refusal 10) at_side

    eleven : head_size ≤ length rest → (tag_at rest 0 ≡ count_tag → ⊥) → (tag_at rest 0 ≡ side_tag → ⊥) → found k e s ≡ refused_found 11 side_place
    eleven h count side =
        let absent : has_side s ≡ false = ne_eqb _ _ (λ z. side (sym tag_rest ∙ z)) in
        let at : count_at s ≡ side_at s = absent_count s absent in
        refuses 11 side_place (λ z. omega arith)
        (past_absent absent
        ∙ sym
        (tag_other s (count_tag ∷ []) (some count_size) (count_at s) _ (omega (arith, at, at_side, length_all))
        (not_one _ _ (λ z. count (sym tag_rest ∙ ap (tag_at s) (sym at) ∙ z))))
        ∙ ap (refusal 11) (at ∙ at_side))

    -- a tag and a length
    module _ (tag l : ℕ) (t : List ℕ) (is : rest ≡ (tag ∷ bytes_of length_size l) ++ t) (small : l < 256 ^ length_size) where
      headed : (tag_at s (side_at s) ≡ tag) × (length_at s (side_at s) ≡ l)
      headed =
          subst (λ (p : ℕ). (tag_at s p ≡ tag) × (length_at s p ≡ l)) (length_rate ∙ sym at_side)
          (subst (λ (x : List ℕ). (tag_at (rate_bytes r ++ x) (length (rate_bytes r)) ≡ tag) × (length_at (rate_bytes r ++ x) (length (rate_bytes r)) ≡ l)) (sym is)
          (head_stands (rate_bytes r) tag l t small))

      tag_is : tag_at s (side_at s) ≡ tag
      tag_is = headed.0

      stated : length_at s (side_at s) ≡ l
      stated = headed.1

      long : length rest ≡ head_size + length t
      long = ap length is ∙ omega (arith, length-append (tag ∷ bytes_of length_size l) t, length_digits 256 length_size l)

      head : side_at s + head_size ≤ length s
      head = omega (arith, at_side, length_all, long)

      tagged : member (tag_at s (side_at s)) (tag ∷ []) ≡ true
      tagged = is_one_lem _ _ tag_is

      -- the body is cut
      short : length t < l → length s < next_at s (side_at s)
      unfolding next_at
      short h = omega (arith, at_side, stated, length_all, long)

    -- a side's: the tests of its field decide
    module _ (l : ℕ) (t : List ℕ) (is : rest ≡ (side_tag ∷ bytes_of length_size l) ++ t) (small : l < 256 ^ length_size) where
      past_tag : first_of tests ≡ first_of (field_tests s (side_tag ∷ []) (some side_size) (side_at s) ++ (test (not (is_side (number_of 256 (body_at s (side_at s))))) 20 (side_at s) ∷ from_count))
      past_tag = past_rate ∙ ap (λ (l : List Test). first_of (l ++ from_count)) (present_tests s (ap (λ (x : ℕ). eqb x side_tag) (tag_is side_tag l t is small)))

      twelve : (l ≡ side_size → ⊥) → found k e s ≡ refused_found 12 side_place
      twelve d =
          refuses 12 side_place (λ z. omega arith)
          (past_tag
          ∙ sym (length_other s (side_tag ∷ []) (some side_size) (side_at s) _ (head side_tag l t is small) (tagged side_tag l t is small) side_size refl (λ z. d (sym (stated side_tag l t is small) ∙ z)))
          ∙ ap (refusal 12) at_side)

      ten_body : l ≡ side_size → t ≡ [] → found k e s ≡ refused_found 10 side_place
      ten_body one empty =
          refuses 10 side_place (λ z. omega arith)
          (past_tag
          ∙ sym
          (body_short s (side_tag ∷ []) (some side_size) (side_at s) _ (head side_tag l t is small) (tagged side_tag l t is small) (stated side_tag l t is small ∙ one)
          (short side_tag l t is small (omega (arith, ap length empty))))
          ∙ ap (refusal 10) at_side)

    -- a count's: there is no side, and the tests of the count's field decide
    module _ (l : ℕ) (t : List ℕ) (is : rest ≡ (count_tag ∷ bytes_of length_size l) ++ t) (small : l < 256 ^ length_size) where
      no_side : has_side s ≡ false
      no_side = ap (λ (x : ℕ). eqb x side_tag) (tag_is count_tag l t is small)

      here : count_at s ≡ side_at s
      here = absent_count s no_side

      -- they are made at the side's offset
      count_decides : first_of tests ≡ first_of (field_tests s (count_tag ∷ []) (some count_size) (side_at s) ++ (test (ltb max_points (count_in s)) 15 (count_at s) ∷ (positions_tests s ++ ratios_tests k s)))
      count_decides =
          past_absent no_side
          ∙ ap (λ (p : ℕ). first_of (field_tests s (count_tag ∷ []) (some count_size) p ++ (test (ltb max_points (count_in s)) 15 (count_at s) ∷ (positions_tests s ++ ratios_tests k s)))) here

      twelve_count : (l ≡ count_size → ⊥) → found k e s ≡ refused_found 12 side_place
      twelve_count d =
          refuses 12 side_place (λ z. omega arith)
          (count_decides
          ∙ sym (length_other s (count_tag ∷ []) (some count_size) (side_at s) _ (head count_tag l t is small) (tagged count_tag l t is small) count_size refl (λ z. d (sym (stated count_tag l t is small) ∙ z)))
          ∙ ap (refusal 12) at_side)

      ten_count : l ≡ count_size → length t < count_size → found k e s ≡ refused_found 10 side_place
      ten_count two h =
          refuses 10 side_place (λ z. omega arith)
          (count_decides
          ∙ sym (body_short s (count_tag ∷ []) (some count_size) (side_at s) _ (head count_tag l t is small) (tagged count_tag l t is small) (stated count_tag l t is small ∙ two) (short count_tag l t is small (omega arith)))
          ∙ ap (refusal 10) at_side)

pub rate_first : RateFirst
rate_first k e r rest small = (thirteen k e r rest small, fourteen k e r rest small)

pub length-refused : LengthRefused
length-refused k e r l rest listed o small d = twelve k e r ((side_tag ∷ bytes_of length_size l) ++ rest) listed o l rest refl small d

pub body_cut : BodyCut
body_cut k e r listed o = ten_body k e r (side_tag ∷ bytes_of length_size side_size) listed o side_size [] (sym (append-nil (side_tag ∷ bytes_of length_size side_size))) (lit< tt) refl refl

-- ---- past a side

module _ (k : ℕ → List ℕ → Option (List ℕ)) (e r d : ℕ) (rest : List ℕ) (listed : is_rate r ≡ true) (o : Expects e r) (small : d < 256) where
  abbrev sided : List ℕ
  sided = rate_bytes r ++ (side_bytes d ++ rest)

  abbrev side_field : Field
  side_field = field_of side_tag (bytes_of side_size d)

  at_sided : side_at sided ≡ side_place
  at_sided = at_side k e r (side_bytes d ++ rest)

  side_stands : FieldStands sided (side_at sided) side_field
  side_stands =
      subst (λ (p : ℕ). FieldStands sided p side_field) (length_rate k e r (side_bytes d ++ rest) ∙ sym at_sided)
      (field_stands (rate_bytes r) side_field rest (omega (arith, length_digits 256 side_size d)))

  present : has_side sided ≡ true
  present = ap (λ (t : ℕ). eqb t side_tag) side_stands.tagged

  stored_is : number_of 256 (body_at sided (side_at sided)) ≡ d
  stored_is = ap (number_of 256) side_stands.within ∙ number_digits_lt (lit< tt) side_size (omega arith)

  count_past : count_at sided ≡ side_place + side_takes
  count_past = present_count sided present ∙ side_stands.next ∙ omega (arith, at_sided, length_field side_field, length_digits 256 side_size d)

  -- the number in it decides
  side_decides : first_of (tests k e r (side_bytes d ++ rest)) ≡ first_of (test (not (is_side d)) 20 side_place ∷ from_count k e r (side_bytes d ++ rest))
  unfolding member
  side_decides =
      past_rate k e r (side_bytes d ++ rest) listed o
      ∙ ap (λ (l : List Test). first_of (l ++ from_count k e r (side_bytes d ++ rest))) (present_tests sided present)
      ∙ field_passes side_stands (side_tag ∷ []) (some side_size)
      (test (not (is_side (number_of 256 (body_at sided (side_at sided))))) 20 (side_at sided) ∷ from_count k e r (side_bytes d ++ rest)) refl (length_digits 256 side_size d)
      ∙ ap₂ (λ (n p : ℕ). first_of (test (not (is_side n)) 20 p ∷ from_count k e r (side_bytes d ++ rest))) stored_is at_sided

  twenty : is_side d ≡ false → found k e sided ≡ refused_found 20 side_place
  twenty b = refuses k e r (side_bytes d ++ rest) 20 side_place (λ z. omega arith) (side_decides ∙ first_of_here _ _ (ap not b))

  past_side : is_side d ≡ true → first_of (tests k e r (side_bytes d ++ rest)) ≡ first_of (from_count k e r (side_bytes d ++ rest))
  past_side b = side_decides ∙ first_of_skip _ _ (ap not b)

pub side_refused : SideRefused
unfolding is_side
side_refused k e r d rest listed o (inl z) = twenty k e r d rest listed o (omega arith) (rw z)
side_refused k e r d rest listed o (inr h) =
    twenty k e r d rest listed o h.1 (ap₂ both (le-leb 1 d (omega arith)) (lt-leb d max_side h.0))

-- ---- what a side's field shifts

-- an answer by its refusal, shifted
answer_shifted : (d : ℕ) (f g : Refusal) → Further side_takes f g → (a b : CheckAnswer) → b ≡ shifted d a
    → cond (refused g) (refused_check g) b ≡ shifted d (cond (refused f) (refused_check f) a)
answer_shifted d f g h a b e = go (eqb f.number 0) refl
  where
    go : (t : Bool) → eqb f.number 0 ≡ t → cond (refused g) (refused_check g) b ≡ shifted d (cond (refused f) (refused_check f) a)
    go true q = rw (h.0, q) e
    go false q = rw (h.1 (eqb-false f.number 0 q), q, q)

-- a side between the rate and what follows
module _ (k : ℕ → List ℕ → Option (List ℕ)) (e r d : ℕ) (rest : List ℕ) (listed : is_rate r ≡ true) (o : Expects e r) (low : 1 ≤ d) (high : d ≤ max_side) where
  abbrev with_side : List ℕ
  with_side = rate_bytes r ++ (side_bytes d ++ rest)

  small : d < 256
  small = omega arith

  length_side : length (side_bytes d) ≡ side_takes
  length_side = length_field (field_of side_tag (bytes_of side_size d)) ∙ ap (λ (n : ℕ). head_size + n) (length_digits 256 side_size d)

  at_count : count_at with_side ≡ side_place + side_takes
  at_count = count_past k e r d rest listed o small

  length_both : length with_side ≡ side_place + side_takes + length rest
  length_both = omega (arith, length_all k e r (side_bytes d ++ rest), length-append (side_bytes d) rest, length_side)

  -- what follows both
  rest_past : drop (count_at with_side) with_side ≡ rest
  rest_past =
      ap (λ (p : ℕ). drop p with_side) at_count ∙ sym (drop-drop side_takes side_place with_side)
      ∙ ap (drop side_takes) (rest_here k e r (side_bytes d ++ rest)) ∙ drop_at (side_bytes d) rest side_takes length_side

  from_here : first_of (tests k e r (side_bytes d ++ rest)) ≡ first_of (from_count k e r (side_bytes d ++ rest))
  from_here = past_side k e r d rest listed o small (side_in_lem d low high)

  -- a tag that is not the count's
  eleven_past : head_size ≤ length rest → (tag_at rest 0 ≡ count_tag → ⊥) → found k e with_side ≡ refused_found 11 (side_place + side_takes)
  unfolding tag_at
  eleven_past h count =
      let tag : tag_at with_side (count_at with_side) ≡ tag_at rest 0 =
      ap (λ (p : ℕ). get_or with_side p 0) (sym (add-zero (count_at with_side))) ∙ sym (get_or-drop (count_at with_side) with_side 0 0) ∙ ap (λ (l : List ℕ). get_or l 0 0) rest_past in
      refuses k e r (side_bytes d ++ rest) 11 (side_place + side_takes) (λ z. omega arith)
      (from_here
      ∙ sym (tag_other with_side (count_tag ∷ []) (some count_size) (count_at with_side) _ (omega (arith, at_count, length_both)) (not_one _ _ (λ z. count (sym tag ∙ z))))
      ∙ ap (refusal 11) at_count)

  -- fewer bytes than a head
  ten_past : length rest < head_size → found k e with_side ≡ refused_found 10 (side_place + side_takes)
  ten_past h =
      refuses k e r (side_bytes d ++ rest) 10 (side_place + side_takes) (λ z. omega arith)
      (from_here
      ∙ sym (head_short with_side (count_tag ∷ []) (some count_size) (count_at with_side) _ (omega (arith, at_count, length_both)))
      ∙ ap (refusal 10) at_count)

  -- where what follows is no side's field, its fields are those of the record without the side, further on
  module _ (other : tag_at rest 0 ≡ side_tag → ⊥) where
    abbrev without : List ℕ
    without = rate_bytes r ++ rest

    absent : has_side without ≡ false
    absent = ne_eqb _ _ (λ z. other (sym (tag_rest k e r rest) ∙ z))

    count_here : count_at without ≡ side_place
    count_here = absent_count without absent ∙ at_side k e r rest

    points : FieldsShifted side_takes without (count_at without) with_side (count_at with_side) closing_field_count
    points =
        later_fields side_takes without with_side (omega (arith, length_both, length_all k e r rest)) (count_at without) (count_at with_side) closing_field_count (at_count ∙ omega (arith, count_here))
        (rest_past ∙ sym (ap (λ (p : ℕ). drop p without) count_here ∙ rest_here k e r rest))

    tests_further : from_count k e r (side_bytes d ++ rest) ≡ map (further side_takes) (from_count k e r rest)
    tests_further =
        further_append side_takes (count_tests without) (positions_tests without ++ ratios_tests k without) (count_tests_shifted points)
        (further_append side_takes (positions_tests without) (ratios_tests k without) (positions_tests_shifted points positions_tags) (ratios_tests_shifted points k))

    refusal_further : Further side_takes (first_of (tests k e r rest)) (first_of (tests k e r (side_bytes d ++ rest)))
    refusal_further =
        let a = past_absent k e r rest listed o absent in
        let b = from_here ∙ ap first_of tests_further in
        rw (a, b) (first_of_further side_takes (from_count k e r rest))

    -- what its fields hold
    same_rate : rate_in with_side ≡ rate_in without
    same_rate = let here = rate_small k e r rest listed o in rate_is k e r (side_bytes d ++ rest) here ∙ sym (rate_is k e r rest here)

    own_side : side_in with_side ≡ d
    own_side = present_side with_side (present k e r d rest listed o small) ∙ stored_is k e r d rest listed o small

    record_shifted : sound_check with_side ≡ shifted d (sound_check without)
    record_shifted =
        let a = same_rate in
        let b = own_side in
        let c = count_same points in
        let u = end_shifted points in
        let f = form_same points in
        cc

    shifts : found k e with_side ≡ shifted d (found k e without)
    unfolding found
    shifts = answer_shifted d _ _ refusal_further (sound_check without) (sound_check with_side) record_shifted

    run_shifts : run_by k with_side ≡ run (run_by k without).rate d (run_by k without).form (run_by k without).positions (run_by k without).ratios
    run_shifts =
        let a = same_rate in
        let b = own_side in
        let p = positions_same points in
        let q = ratios-same points k in
        let f = form_same points in
        cc

pub side_shifts : SideShifts
side_shifts k e r d rest listed o low high other = (shifts k e r d rest listed o low high other, run_shifts k e r d rest listed o low high other)

pub count_refused : CountRefused
unfolding tag_at
count_refused k e r l rest listed o small =
    let count = (count_tag ∷ bytes_of length_size l) ++ rest in
    let other : (tag_at count 0 ≡ side_tag → ⊥) = λ z. omega arith in (
      λ d.
          let h = twelve_count k e r count listed o l rest refl small d in
          (h, λ n low high. (side_shifts k e r n count listed o low high other).0 ∙ ap (shifted n) h),
      λ two cut.
          let h = ten_count k e r count listed o l rest refl small two cut in
          (h, λ n low high. (side_shifts k e r n count listed o low high other).0 ∙ ap (shifted n) h),
    )

pub head_cut : HeadCut
head_cut k e r rest listed o h = (ten k e r rest listed o h, λ d low high. ten_past k e r d rest listed o low high h)

pub tag_refused : TagRefused
tag_refused k e r rest listed o long other =
    (λ side. eleven k e r rest listed o long other side, λ d low high. eleven_past k e r d rest listed o low high long other)
