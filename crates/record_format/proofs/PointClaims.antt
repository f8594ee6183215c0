-- What reading finds past the rate and the side: the count, the positions in either form and the ratios.
use mathlib.Core.Path.{◌≡◌, refl, sym, ap, ap₂, ◌∙◌, subst}
use mathlib.Core.Bool.{true, not}
use mathlib.Core.List.{List, [], ◌∷◌, ◌++◌}
use mathlib.Core.Option.{Option, none, some}
use Prim.Native.Nat.{ℕ, ◌+◌, ◌^◌, ◌≤◌, ◌<◌}
use native.Mathlib.Nat.{add-zero}
use native.Mathlib.Omega.{arith}
use borrow.Author.Tests.{ne_eqb, le-ltb, lt-ltb}
use lib.Dec.{ltb}
use lib.ListN.{length, get_or, length-append}
use lib.Seq.{get_or-append-add}
use Rattle.lists.specs.Lists.{member}
use Rattle.lists.specs.Optional.{missing, list_of}
use Rattle.bits.specs.Digits.{bytes_of}
use Rattle.bits.proofs.Digits.{length_digits}
use Rattle.limits.specs.Points.{max_points}
use Rattle.limits.specs.Rates.{is_rate}
use Rattle.limits.specs.Sides.{max_side}
use Rattle.refusals.specs.declared.Refusal.{Refusal}
use Rattle.refusals.specs.Tests.{Test, test, refusal, first_of}
use Rattle.refusals.proofs.Tests.{first_of_here, first_of_skip, first_of_end}
use Rattle.position_format.specs.declared.Form.{Form}
use Rattle.position_format.specs.declared.Form.TheVariants.{Old, Wide}
use Rattle.position_format.specs.Positions.{valid_positions, read_positions}
use Rattle.position_format.specs.Tables.{table_of, points_of}
use Rattle.position_format.proofs.Positions.Sizes.{points_few}
use Rattle.ratio_format.specs.Bodies.{strict_ratios}
use Rattle.ratio_format.proofs.Bodies.Strict.{strict_coded, strict_only_body, strict_below}
use Rattle.record_format.specs.Fields.{Field, field_of, length_size, head_size, field_bytes, laid, tag_at, length_at, body_at, next_at, field_tests}
use Rattle.record_format.specs.Runs.{run, positions_tag, positions_tags, form_of, ratios_tag, count_size, positions_field, front_fields}
use Rattle.record_format.specs.Reading.{rate_at, count_at, positions_at, ratios_at, end_at, count_in, form_in, positions_in, ratios_in, positions_tests, ratios_tests, record_tests}
use Rattle.record_format.specs.Checking.{run_by, found}
use Rattle.record_format.specs.Claims.{count_place, positions_place}
use Rattle.record_format.specs.CheckClaims.{Expects, refused_found}
use Rattle.record_format.specs.PointClaims.{front_bytes, CountFirst, TagFirst, BodyByForm, RatiosByReading, ReadsFront, ChecksStrictly}
use Rattle.record_format.proofs.Fields.{FieldStands, StandAll, length_field, field_stands, laid_stand, past_all, stand_past, small_append, stand_append, past_append, head_stands}
use Rattle.record_format.proofs.Reading.Fronts.{count_at_lem, positions_at_lem, front_past, rate_is, side_is, count_is, front_pass, input, front_all, front_length, input_length, tag_there, form_is, positions_are, positions_pass}
use Rattle.record_format.proofs.Reading.{body_short, field_good, positions_few, positions_many, other_rate_not}
use Rattle.record_format.proofs.Checking.{found-refused, found-sound, found_clear}
use Rattle.record_format.proofs.Claims.Admitted.{front_stands}
use Rattle.record_format.proofs.Runs.{form_of_lem, tag_good, front_small, coded_size, form_bodies}

-- ---- reading past the front, which stands at the front of the bytes s

module _ (k : ℕ → List ℕ → Option (List ℕ)) (e r d n : ℕ) (s : List ℕ) (listed : is_rate r ≡ true) (o : Expects e r) (sided : d ≤ max_side) (counts : n < 256 ^ count_size)
    (all : StandAll s rate_at (front_fields r d n)) where
  abbrev tests : List Test
  tests = record_tests k e s

  at_count : count_at s ≡ count_place d
  at_count = count_at_lem s r d n listed sided counts all

  at_positions : positions_at s ≡ positions_place d
  at_positions = positions_at_lem s r d n listed sided counts all ∙ omega (arith, at_count)

  counted : count_in s ≡ n
  counted = count_is s r d n listed sided counts all

  abbrev refuses : (x p : ℕ) → (x ≡ 0 → ⊥) → first_of tests ≡ refusal x p → found k e s ≡ refused_found x p
  refuses x p z q = found-refused k e s x p z q

  past_rate : first_of tests ≡ first_of (test (ltb max_points n) 15 (count_at s) ∷ (positions_tests s ++ ratios_tests k s))
  past_rate = front_pass s r d n listed sided counts all e (positions_tests s ++ ratios_tests k s) ∙ first_of_skip _ _ (other_rate_not e r o)

  fifteen : max_points < n → found k e s ≡ refused_found 15 (count_place d)
  fifteen h = refuses 15 (count_place d) (λ z. omega arith) (past_rate ∙ first_of_here _ _ (lt-ltb _ _ h) ∙ ap (refusal 15) at_count)

  module _ (few : n ≤ max_points) where
    past_count : first_of tests ≡ first_of (positions_tests s ++ ratios_tests k s)
    past_count = past_rate ∙ first_of_skip _ _ (le-ltb _ _ few)

    -- the head of the positions' field is cut
    ten_head : length s < positions_at s + head_size → found k e s ≡ refused_found 10 (positions_place d)
    ten_head h = refuses 10 (positions_place d) (λ z. omega arith) (past_count ∙ first_of_here _ _ (lt-ltb _ _ h) ∙ ap (refusal 10) at_positions)

    -- or it is whole, with a tag
    module _ (head : positions_at s + head_size ≤ length s) (tag : ℕ) (tagged : tag_at s (positions_at s) ≡ tag) where
      eleven : (tag ≡ positions_tag Old → ⊥) → (tag ≡ positions_tag Wide → ⊥) → found k e s ≡ refused_found 11 (positions_place d)
      unfolding member
      eleven old wide =
          refuses 11 (positions_place d) (λ z. omega arith)
          (past_count ∙ first_of_skip _ _ (le-ltb _ _ head)
          ∙ first_of_here _ _ (ap (λ (t : ℕ). not (member t positions_tags)) tagged ∙ rw (ne_eqb tag (positions_tag Old) old, ne_eqb tag (positions_tag Wide) wide))
          ∙ ap (refusal 11) at_positions)

      fifteen_wide : tag ≡ positions_tag Wide → points_of Wide < n → found k e s ≡ refused_found 15 (count_place d)
      unfolding member
      fifteen_wide wide many =
          let is = tagged ∙ wide in
          refuses 15 (count_place d) (λ z. omega arith)
          (past_count
          ∙ sym
          (positions_many s (ratios_tests k s) head (ap (λ (t : ℕ). member t positions_tags) is)
          (ap (λ (t : ℕ). ltb (points_of (form_of t)) (count_in s)) is ∙ ap (ltb (points_of Wide)) counted ∙ lt-ltb (points_of Wide) n many))
          ∙ ap (refusal 15) at_count)

      -- that of a form, where there are not too many points for it
      module _ (f : Form) (named : tag ≡ positions_tag f) (points : n ≤ points_of f) where
        formed : form_in s ≡ f
        formed = ap form_of (tagged ∙ named) ∙ form_of_lem f

        is_good : member (tag_at s (positions_at s)) positions_tags ≡ true
        is_good = ap (λ (t : ℕ). member t positions_tags) (tagged ∙ named) ∙ tag_good f

        past_many : first_of tests ≡ first_of (field_tests s positions_tags none (positions_at s) ++ (test (missing (positions_in s)) 17 (positions_at s) ∷ ratios_tests k s))
        past_many = past_count ∙ positions_few s (ratios_tests k s) (ap₂ (λ (x : Form) (c : ℕ). ltb (points_of x) c) formed counted ∙ le-ltb _ _ points)

        ten_body : length s < next_at s (positions_at s) → found k e s ≡ refused_found 10 (positions_place d)
        ten_body h =
            refuses 10 (positions_place d) (λ z. omega arith) (past_many ∙ sym (body_short s positions_tags none (positions_at s) _ head is_good tt h) ∙ ap (refusal 10) at_positions)

        seventeen : next_at s (positions_at s) ≤ length s → read_positions (table_of f) n (body_at s (positions_at s)) ≡ none → found k e s ≡ refused_found 17 (positions_place d)
        seventeen h unread =
            refuses 17 (positions_place d) (λ z. omega arith)
            (past_many
            ∙ field_good s positions_tags none (positions_at s) _ head is_good tt h
            ∙ first_of_here _ _ (ap₂ (λ (x : Form) (c : ℕ). missing (read_positions (table_of x) c (body_at s (positions_at s)))) formed counted ∙ ap missing unread)
            ∙ ap (refusal 17) at_positions)

    -- positions that are read: the ratios' field is left
    module _ (f : Form) (ps : List ℕ) (many : length ps ≡ n) (points : length ps ≤ points_of f) (valid : valid_positions (table_of f) ps ≡ true) (there : FieldStands s (positions_at s) (positions_field f ps)) where
      as_counted : count_in s ≡ length ps
      as_counted = counted ∙ sym many

      past_positions : first_of tests ≡ first_of (ratios_tests k s)
      past_positions = past_count ∙ positions_pass s f ps points valid as_counted there (ratios_tests k s)

      ten_ratios : length s < ratios_at s + head_size → found k e s ≡ refused_found 10 (ratios_at s)
      ten_ratios h = refuses 10 (ratios_at s) (λ z. omega arith) (past_positions ∙ first_of_here _ _ (lt-ltb _ _ h))

      module _ (head : ratios_at s + head_size ≤ length s) (tag : ℕ) (tagged : tag_at s (ratios_at s) ≡ tag) where
        eleven_ratios : (tag ≡ ratios_tag → ⊥) → found k e s ≡ refused_found 11 (ratios_at s)
        unfolding member
        eleven_ratios other =
            refuses 11 (ratios_at s) (λ z. omega arith)
            (past_positions ∙ first_of_skip _ _ (le-ltb _ _ head) ∙ first_of_here _ _ (ap (λ (t : ℕ). not (member t (ratios_tag ∷ []))) tagged ∙ rw (ne_eqb tag ratios_tag other)))

        module _ (named : tag ≡ ratios_tag) where
          ratios_good : member (tag_at s (ratios_at s)) (ratios_tag ∷ []) ≡ true
          unfolding member
          ratios_good = ap (λ (t : ℕ). member t (ratios_tag ∷ [])) (tagged ∙ named)

          ten_ratios-body : length s < next_at s (ratios_at s) → found k e s ≡ refused_found 10 (ratios_at s)
          ten_ratios-body h =
              refuses 10 (ratios_at s) (λ z. omega arith) (past_positions ∙ sym (body_short s (ratios_tag ∷ []) none (ratios_at s) _ head ratios_good tt h))

          module _ (h : end_at s ≤ length s) where
            past_ratios : first_of tests ≡ first_of (test (missing (ratios_in k s)) 18 (ratios_at s) ∷ [])
            past_ratios = past_positions ∙ field_good s (ratios_tag ∷ []) none (ratios_at s) _ head ratios_good tt h

            eighteen : k n (body_at s (ratios_at s)) ≡ none → found k e s ≡ refused_found 18 (ratios_at s)
            eighteen unread =
                refuses 18 (ratios_at s) (λ z. omega arith) (past_ratios ∙ first_of_here _ _ (ap (λ (c : ℕ). missing (k c (body_at s (ratios_at s)))) counted ∙ ap missing unread))

            read_as : (qs : List ℕ) → k n (body_at s (ratios_at s)) ≡ some qs
                → (found k e s ≡ record { number = 0; place = 0; rate = r; side = d; count = n; form = positions_tag f; size = end_at s }) × (run_by k s ≡ run r d f ps qs)
            read_as qs read =
                let v : ratios_in k s ≡ some qs = ap (λ (c : ℕ). k c (body_at s (ratios_at s))) counted ∙ read in
                let a = rate_is s r d n listed sided counts all in
                let b = side_is s r d n listed sided counts all in
                let c = counted in
                let h : form_in s ≡ f = form_is s f ps points valid as_counted there in
                let g : positions_tag (form_in s) ≡ positions_tag f = ap positions_tag h in
                let x : list_of (positions_in s) ≡ ps = ap list_of (positions_are s f ps points valid as_counted there) in
                let y : list_of (ratios_in k s) ≡ qs = ap list_of v in
                (found-sound k e s (ap (λ (g : Refusal). g.number) (past_ratios ∙ first_of_skip _ _ (ap missing v) ∙ first_of_end)) ∙ cc, cc)

-- ---- the statements

pub count_first : CountFirst
count_first k e r d n rest listed o sided counts many =
    fifteen k e r d n (input r d n rest listed sided counts) listed o sided counts (front_all r d n rest listed sided counts) many

pub tag_first : TagFirst
tag_first k e r d n rest listed o sided few =
    let counts : n < 256 ^ count_size = omega arith in
    let s = input r d n rest listed sided counts in
    let all = front_all r d n rest listed sided counts in
    let size = input_length r d n rest listed sided counts in
    let tag = tag_there r d n rest listed sided counts in (
      λ h. ten_head k e r d n s listed o sided counts all few (omega arith),
      λ long old wide. eleven k e r d n s listed o sided counts all few (omega arith) (tag_at rest 0) tag old wide,
      λ long wide more. fifteen_wide k e r d n s listed o sided counts all few (omega arith) (tag_at rest 0) tag wide more,
    )

pub body_by_form : BodyByForm
unfolding next_at
body_by_form k e r d n f rest listed o sided points =
    let few : n ≤ max_points = omega (arith, points_few f) in
    let counts : n < 256 ^ count_size = omega arith in (
      λ l small cut.
          let x = (positions_tag f ∷ bytes_of length_size l) ++ rest in
          let s = input r d n x listed sided counts in
          let all = front_all r d n x listed sided counts in
          let at = front_length r d n x listed sided counts in
          let h = subst (λ (p : ℕ). (tag_at s p ≡ positions_tag f) × (length_at s p ≡ l)) at (head_stands (front_bytes r d n) (positions_tag f) l rest small) in
          let size = input_length r d n x listed sided counts in
          let long : length x ≡ head_size + length rest = length-append (positions_tag f ∷ bytes_of length_size l) rest ∙ omega (arith, length_digits 256 length_size l) in
          ten_body k e r d n s listed o sided counts all few (omega arith) (positions_tag f) h.0 f refl points (omega (arith, h.1)),
      λ body small unread.
          let x = field_bytes (field_of (positions_tag f) body) ++ rest in
          let s = input r d n x listed sided counts in
          let all = front_all r d n x listed sided counts in
          let at = front_length r d n x listed sided counts in
          let h = subst (λ (p : ℕ). FieldStands s p (field_of (positions_tag f) body)) at (field_stands (front_bytes r d n) (field_of (positions_tag f) body) rest (omega arith)) in
          seventeen k e r d n s listed o sided counts all few h.head_whole (positions_tag f) h.tagged f refl points h.whole
          (ap (read_positions (table_of f) n) h.within ∙ unread),
    )

-- the front and positions in a form, and then any bytes
module _ (r d : ℕ) (f : Form) (ps rest : List ℕ) (listed : is_rate r ≡ true) (sided : d ≤ max_side) (points : length ps ≤ points_of f) (valid : valid_positions (table_of f) ps ≡ true) where
  abbrev front : List Field
  front = front_fields r d (length ps)

  abbrev before : List ℕ
  before = laid (front ++ (positions_field f ps ∷ []))

  abbrev whole : List ℕ
  whole = before ++ rest

  few_points : length ps ≤ max_points
  few_points = omega (arith, points_few f)

  counts_points : length ps < 256 ^ count_size
  counts_points = omega (arith, few_points)

  stood : StandAll whole rate_at (front ++ (positions_field f ps ∷ []))
  stood =
      laid_stand [] (front ++ (positions_field f ps ∷ [])) rest
      (small_append front (positions_field f ps ∷ []) (front_small r d (length ps)) (omega (arith, coded_size f ps valid points, (form_bodies f).0), tt))

  parts : StandAll whole rate_at front × StandAll whole (past_all whole rate_at front) (positions_field f ps ∷ [])
  parts = stand_append whole rate_at front (positions_field f ps ∷ []) stood

  pub points_counted : count_in whole ≡ length ps
  points_counted = count_is whole r d (length ps) listed sided counts_points parts.0

  past_front : past_all whole rate_at front ≡ positions_at whole
  past_front = front_past whole r d (length ps) listed sided counts_points parts.0

  points_stand : FieldStands whole (positions_at whole) (positions_field f ps)
  points_stand = subst (λ (p : ℕ). FieldStands whole p (positions_field f ps)) past_front parts.1.0

  -- the ratios' field begins where these end
  before-length : length before ≡ ratios_at whole
  before-length =
      omega (arith, stand_past whole rate_at (front ++ (positions_field f ps ∷ [])) stood) ∙ past_append whole rate_at front (positions_field f ps ∷ []) ∙ ap (next_at whole) past_front

  whole_length : length whole ≡ ratios_at whole + length rest
  whole_length = length-append before rest ∙ ap (λ (m : ℕ). m + length rest) before-length

  ratios_tag_lem : tag_at whole (ratios_at whole) ≡ tag_at rest 0
  unfolding tag_at
  ratios_tag_lem = ap (λ (p : ℕ). get_or whole p 0) (sym before-length ∙ sym (add-zero (length before))) ∙ get_or-append-add before rest 0 0

pub ratios_by_reading : RatiosByReading
unfolding next_at
ratios_by_reading k e r d f ps rest listed o sided points valid =
    let n = length ps in
    let b = before r d f ps rest listed sided points valid in
    let few = few_points r d f ps rest listed sided points valid in
    let counts = counts_points r d f ps rest listed sided points valid in (
      λ h.
          let s = b ++ rest in
          let at = before-length r d f ps rest listed sided points valid in
          let size = whole_length r d f ps rest listed sided points valid in
          ten_ratios k e r d n s listed o sided counts (parts r d f ps rest listed sided points valid).0 few f ps refl points valid (points_stand r d f ps rest listed sided points valid) (omega arith)
          ∙ ap (λ (p : ℕ). refused_found 10 p) (sym at),
      λ long other.
          let s = b ++ rest in
          let at = before-length r d f ps rest listed sided points valid in
          let size = whole_length r d f ps rest listed sided points valid in
          eleven_ratios k e r d n s listed o sided counts (parts r d f ps rest listed sided points valid).0 few f ps refl points valid (points_stand r d f ps rest listed sided points valid)
          (omega arith) (tag_at rest 0) (ratios_tag_lem r d f ps rest listed sided points valid) other
          ∙ ap (λ (p : ℕ). refused_found 11 p) (sym at),
      λ l small cut.
          let x = (ratios_tag ∷ bytes_of length_size l) ++ rest in
          let s = b ++ x in
          let at = before-length r d f ps x listed sided points valid in
          let size = whole_length r d f ps x listed sided points valid in
          let h = subst (λ (p : ℕ). (tag_at s p ≡ ratios_tag) × (length_at s p ≡ l)) at (head_stands b ratios_tag l rest small) in
          let long : length x ≡ head_size + length rest = length-append (ratios_tag ∷ bytes_of length_size l) rest ∙ omega (arith, length_digits 256 length_size l) in
          ten_ratios-body k e r d n s listed o sided counts (parts r d f ps x listed sided points valid).0 few f ps refl points valid (points_stand r d f ps x listed sided points valid)
          (omega arith) ratios_tag h.0 refl (omega (arith, h.1))
          ∙ ap (λ (p : ℕ). refused_found 10 p) (sym at),
      λ body small.
          let x = field_bytes (field_of ratios_tag body) ++ rest in
          let s = b ++ x in
          let at = before-length r d f ps x listed sided points valid in
          let h = subst (λ (p : ℕ). FieldStands s p (field_of ratios_tag body)) at (field_stands b (field_of ratios_tag body) rest (omega arith)) in
          let p = (parts r d f ps x listed sided points valid).0 in
          let q = points_stand r d f ps x listed sided points valid in (
            λ unread.
                eighteen k e r d n s listed o sided counts p few f ps refl points valid q h.head_whole ratios_tag h.tagged refl h.whole (ap (k n) h.within ∙ unread)
                ∙ ap (λ (y : ℕ). refused_found 18 y) (sym at),
            λ qs read.
                let used : end_at s ≡ length b + head_size + length body = h.next ∙ omega (arith, at, length_field (field_of ratios_tag body)) in
                let h = read_as k e r d n s listed o sided counts p few f ps refl points valid q h.head_whole ratios_tag h.tagged refl h.whole qs (ap (k n) h.within ∙ read) in
                (h.0 ∙ ap (λ (u : ℕ). record { number = 0; place = 0; rate = r; side = d; count = n; form = positions_tag f; size = u }) used, h.1),
          ),
    )

-- nothing is read where no list is
pub none_read : (o : Option (List ℕ)) → ((l : List ℕ) → o ≡ some l → ⊥) → o ≡ none
none_read none never = refl
none_read (some l) never = absurd (never l refl)

pub checks_strictly : ChecksStrictly
checks_strictly e r d f ps body rest listed o sided points valid bytes small =
    let n = length ps in
    let by = (ratios_by_reading strict_ratios e r d f ps rest listed o sided points valid).3 body small in (
      λ qs many words is.
          by.1 qs (ap₂ strict_ratios (sym many) is ∙ strict_coded qs words),
      λ never.
          by.0 (none_read (strict_ratios n body) (λ qs q. let h = strict_only_body n body qs q in never qs h.1 (strict_below n body qs bytes q) h.0)),
    )

-- ---- what is not refused

pub reads-front : ReadsFront
reads-front k e s bytes h =
    let clear = found_clear k e s h in
    let f = front_stands k e s bytes clear in
    rw (found-sound k e s clear)
    (form_in s, f.points, refl, f.many, ap list_of f.read, f.listed, f.sided, f.few, f.valid, (f.rest, f.splits))
