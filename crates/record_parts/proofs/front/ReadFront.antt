-- Laws of the front of a record as it is read: what each outcome leaves to be said of a number, of the rate, of the side, of the count, and of
-- all three.
use mathlib.Core.Path.{◌≡◌, refl, sym, ap, ◌∙◌, subst}
use mathlib.Core.Bool.{Bool, true, false, not}
use mathlib.Core.List.{List, [], ◌∷◌, ◌++◌}
use mathlib.Core.Option.{some}
use Prim.Native.Nat.{ℕ, ◌≤◌, ◌<◌}
use native.Mathlib.Omega.{arith}
use borrow.Author.Tests.{ltb-false, le-ltb, lt-ltb}
use lib.Dec.{ltb, eqb, lit<}
use lib.ListN.{length}
use Rattle.bits.specs.Digits.{number_of}
use Rattle.limits.specs.Points.{max_points}
use Rattle.limits.specs.Rates.{is_rate}
use Rattle.limits.specs.Sides.{is_side}
use Rattle.refusals.specs.declared.Refusal.{Refusal}
use Rattle.refusals.specs.Tests.{Test, test, refusal, first_of}
use Rattle.refusals.proofs.Tests.{first_of_here, first_of_skip, first_of_clear, first_of_end}
use Rattle.record_format.specs.Fields.{tag_at, body_at, next_at, field_tests}
use Rattle.record_format.specs.Runs.{rate_tag, side_tag, count_tag, rate_size, side_size, count_size}
use Rattle.record_format.specs.Reading.{rate_at, side_at, has_side, count_at, count_in, other_rate, rate_tests, side_tests, count_tests, front_tests}
use Rattle.record_format.proofs.Reading.{field_clear, side_numbered}
use Rattle.record_format.proofs.Reading.Sides.{absent_count, absent_side, absent_tests, present_count, present_side, present_tests}
use Rattle.record_parts.specs.declared.front.Number.{Number}
use Rattle.std.specs.Prelude.{Ok}
use Rattle.record_parts.specs.Fields.{farthest, RefusedBy, NumberRead, SideRead, CountFound, FrontRead}
use Rattle.record_parts.proofs.Fields.{refused_first, refused_as, refused_at, past_clear}

-- ---- a number, and then the tests of its contents

module _ (s : List ℕ) (tag n p : ℕ) (contents : ℕ → List Test) (f : Number) (h : NumberRead n (field_tests s (tag ∷ []) (some n) p) s p (Ok f)) where
  contents-are : first_of (field_tests s (tag ∷ []) (some n) p ++ contents (number_of 256 (body_at s p))) ≡ first_of (contents f.value)
  contents-are = past_clear (field_tests s (tag ∷ []) (some n) p) _ refl h.0 ∙ ap (λ (x : ℕ). first_of (contents x)) (sym h.1.value)

-- ---- the rate

module _ (e : ℕ) (s : List ℕ) (f : Number) (h : NumberRead rate_size (field_tests s (rate_tag ∷ []) (some rate_size) rate_at) s rate_at (Ok f)) where
  abbrev rate_contents : ℕ → List Test
  rate_contents x = test (not (is_rate x)) 13 rate_at ∷ test (other_rate e x) 14 rate_at ∷ []

  rate-are : first_of (rate_tests e s) ≡ first_of (rate_contents f.value)
  rate-are = contents-are s rate_tag rate_size rate_at rate_contents f h

  pub rate_unlisted : {g : Refusal} → g ≡ refusal 13 rate_at → is_rate f.value ≡ false → RefusedBy (rate_tests e s) g
  rate_unlisted q b = refused_at 13 rate_at q (λ z. omega arith) (sym (rate-are ∙ first_of_here _ _ (ap not b)))

  module _ (listed : is_rate f.value ≡ true) where
    pub rate_other : {g : Refusal} → g ≡ refusal 14 rate_at → other_rate e f.value ≡ true → RefusedBy (rate_tests e s) g
    rate_other q b = refused_at 14 rate_at q (λ z. omega arith) (sym (rate-are ∙ first_of_skip _ _ (ap not listed) ∙ first_of_here _ _ b))

    pub rate_good : other_rate e f.value ≡ false → NumberRead rate_size (rate_tests e s) s rate_at (Ok f)
    rate_good b = (rate-are ∙ first_of_skip _ _ (ap not listed) ∙ first_of_skip _ _ b ∙ first_of_end, h.1)

-- ---- the side, at the offset p, if there is one

-- as its tag tells
pub side_seen : {b : Bool} (s : List ℕ) (p : ℕ) → p ≡ side_at s → b ≡ eqb (tag_at s p) side_tag → b ≡ has_side s
side_seen s p at e = e ∙ ap (λ (q : ℕ). eqb (tag_at s q) side_tag) at

-- there is none
pub side_absent : (s : List ℕ) (p : ℕ) → p ≡ side_at s → p ≤ length s → has_side s ≡ false → SideRead s (Ok (record { value = 0; end = p }))
side_absent s p at inside e = (
  ap first_of (absent_tests s e) ∙ first_of_end,
  record {
    value = sym (absent_side s e);
    small = lit< tt;
    next = at ∙ sym (absent_count s e);
    inside = omega (arith, absent_count s e);
    near = omega (arith, absent_count s e);
  },
)

-- the test of a side n at the offset q
abbrev side_contents : ℕ → ℕ → List Test
side_contents q n = test (not (is_side n)) 20 q ∷ []

module _ (s : List ℕ) (p : ℕ) (at : p ≡ side_at s) (present : has_side s ≡ true) where
  -- its field and its contents
  side_are : first_of (side_tests s) ≡ first_of (field_tests s (side_tag ∷ []) (some side_size) p ++ side_contents p (number_of 256 (body_at s p)))
  side_are =
      ap first_of (present_tests s present)
      ∙ sym (ap (λ (q : ℕ). first_of (field_tests s (side_tag ∷ []) (some side_size) q ++ side_contents q (number_of 256 (body_at s q)))) at)

  pub side_first : {g : Refusal} → RefusedBy (field_tests s (side_tag ∷ []) (some side_size) p) g → RefusedBy (side_tests s) g
  side_first r = refused_as side_are (refused_first _ r)

  module _ (f : Number) (h : NumberRead side_size (field_tests s (side_tag ∷ []) (some side_size) p) s p (Ok f)) where
    sided : first_of (side_tests s) ≡ first_of (side_contents p f.value)
    sided = side_are ∙ contents-are s side_tag side_size p (side_contents p) f h

    pub side_other : {g : Refusal} → g ≡ refusal 20 p → is_side f.value ≡ false → RefusedBy (side_tests s) g
    side_other q b = refused_at 20 p q (λ z. omega arith) (sym (sided ∙ first_of_here _ _ (ap not b)))

    pub side_good : is_side f.value ≡ true → SideRead s (Ok f)
    side_good b =
        let past : next_at s p ≡ count_at s = ap (next_at s) at ∙ sym (present_count s present) in (
          sided ∙ first_of_skip _ _ (ap not b) ∙ first_of_end,
          record {
            value = h.1.value ∙ ap (λ (q : ℕ). number_of 256 (body_at s q)) at ∙ sym (present_side s present);
            small = h.1.small;
            next = h.1.part.next ∙ past;
            inside = omega (arith, h.1.part.inside, past);
            near = omega (arith, h.1.part.near, past, at);
          },
        )

-- ---- the count, at the offset p

-- the test of a count c at the offset q
abbrev count_contents : ℕ → ℕ → List Test
count_contents q c = test (ltb max_points c) 15 q ∷ []

module _ (s : List ℕ) (p : ℕ) (at : p ≡ count_at s) where
  -- its field and its contents
  count_are : first_of (count_tests s) ≡ first_of (field_tests s (count_tag ∷ []) (some count_size) p ++ count_contents p (number_of 256 (body_at s p)))
  count_are = sym (ap (λ (q : ℕ). first_of (field_tests s (count_tag ∷ []) (some count_size) q ++ count_contents q (number_of 256 (body_at s q)))) at)

  pub count_first : {g : Refusal} → RefusedBy (field_tests s (count_tag ∷ []) (some count_size) p) g → RefusedBy (count_tests s) g
  count_first r = refused_as count_are (refused_first _ r)

  module _ (f : Number) (h : NumberRead count_size (field_tests s (count_tag ∷ []) (some count_size) p) s p (Ok f)) where
    counted : first_of (count_tests s) ≡ first_of (count_contents p f.value)
    counted = count_are ∙ contents-are s count_tag count_size p (count_contents p) f h

    pub count_many : {g : Refusal} → g ≡ refusal 15 p → max_points < f.value → RefusedBy (count_tests s) g
    count_many q l = refused_at 15 p q (λ z. omega arith) (sym (counted ∙ first_of_here _ _ (lt-ltb _ _ l)))

    pub count_good : f.value ≤ max_points → NumberRead count_size (count_tests s) s p (Ok f)
    count_good l = (counted ∙ first_of_skip _ _ (le-ltb _ _ l) ∙ first_of_end, h.1)

-- ---- all three

module _ (e : ℕ) (s : List ℕ) (f : Number) (h : NumberRead rate_size (rate_tests e s) s rate_at (Ok f)) where
  past_rate : first_of (front_tests e s) ≡ first_of (side_tests s ++ count_tests s)
  past_rate = past_clear (rate_tests e s) (side_tests s ++ count_tests s) refl h.0

  pub front_side : {g : Refusal} → RefusedBy (side_tests s) g → RefusedBy (front_tests e s) g
  front_side r = refused_as past_rate (refused_first (count_tests s) r)

  module _ (d : Number) (i : SideRead s (Ok d)) where
    past_side : first_of (front_tests e s) ≡ first_of (count_tests s)
    past_side = past_rate ∙ past_clear (side_tests s) (count_tests s) (side_numbered s) i.0

    pub front_count : {g : Refusal} → RefusedBy (count_tests s) g → RefusedBy (front_tests e s) g
    front_count r = refused_as past_side r

    module _ (g : Number) (k : NumberRead count_size (count_tests s) s d.end (Ok g)) where
      few_in : count_in s ≤ max_points
      few_in =
          let c = field_clear s (count_tag ∷ []) (some count_size) (count_at s) (count_contents (count_at s) (count_in s)) (ap (λ (x : Refusal). x.number) k.0) in
          ltb-false max_points (count_in s) (first_of_clear _ _ (lit< tt) c.1).0

      pub front-found : FrontRead e s (Ok (record { rate = f.value; side = d.value; count = g.value; place = d.end; end = g.end }))
      front-found =
          let at : d.end ≡ count_at s = i.1.next in
          let next : next_at s d.end ≡ next_at s (count_at s) = ap (next_at s) at in (
            past_side ∙ k.0,
            record {
              rate = h.1.value;
              side = i.1.value;
              count = record {
                counted = k.1.value ∙ ap (λ (q : ℕ). number_of 256 (body_at s q)) at;
                few = few_in;
                stands = at;
                next = k.1.part.next ∙ next;
                inside = subst (λ (q : ℕ). q ≤ length s) next k.1.part.inside;
                near = omega (arith, h.1.part.near, i.1.near, k.1.part.near, next, at);
              };
            },
          )

-- the count's field begins before it ends
pub place_near : {s : List ℕ} {c q p : ℕ} → CountFound s c q p → q ≤ farthest 3
unfolding next_at
place_near h = omega (arith, h.stands, h.near)
