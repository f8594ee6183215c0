-- Laws of the tests of reading: those of a field by how it turns out, and those of the front.
pub mod Shifted
pub mod Fronts
pub mod Sides
pub mod Sound
use mathlib.Core.Path.{◌≡◌, refl, sym, ap, ap₂, ◌∙◌, subst}
use mathlib.Core.Bool.{Bool, true, false, not, cond}
use mathlib.Core.List.{List, [], ◌∷◌, ◌++◌, append_assoc}
use mathlib.Core.Logic.{◌⊎◌, inl, inr}
use mathlib.Core.Option.{Option, none, some}
use Prim.Native.Nat.{ℕ, ◌+◌, ◌≤◌, ◌<◌}
use native.Mathlib.Omega.{arith}
use borrow.Author.Tests.{eqb-true, eq-eqb, ne_eqb, ltb-false, le-ltb, lt-ltb, not-false}
use lib.Dec.{ltb, eqb, lit<}
use lib.ListN.{length, drop}
use Rattle.lists.specs.Below.{Below}
use Rattle.lists.specs.Compare.{both}
use Rattle.lists.specs.Lists.{member}
use Rattle.lists.specs.Optional.{missing}
use Rattle.bits.specs.Digits.{bytes_of, digits_of, number_of}
use Rattle.bits.proofs.Digits.{digits_number}
use Rattle.limits.specs.Points.{max_points}
use Rattle.limits.specs.Sides.{is_side}
use Rattle.refusals.specs.Tests.{Test, test, refusal, first_of}
use Rattle.refusals.proofs.Tests.{numbered, never, first_of_here, first_of_skip, first_of_clear}
use Rattle.position_format.specs.declared.Form.TheVariants.{Wide}
use Rattle.position_format.specs.Tables.{points_of}
use Rattle.record_format.specs.Fields.{Field, field_of, head_size, field_bytes, tag_at, length_at, body_at, next_at, length_tests, field_tests}
use Rattle.record_format.specs.Reading.{side_at, has_side, count_at, positions_at, side_in, count_in, form_in, positions_in, other_rate, rate_tests, side_tests, count_tests, front_tests, positions_tests, ratios_tests, record_tests}
use Rattle.record_format.specs.Runs.{side_tag, positions_tag, positions_tags, form_of, side_size}
use Rattle.record_format.proofs.Fields.{FieldStands, length-body, field_here, below_body}

-- ---- the tests of a field, by how it turns out

-- the stated length is the one that is asked for, if one is
abbrev pub Stated : Option ℕ → ℕ → Type 0
Stated none l = Unit {0}
Stated (some n) l = l ≡ n

module _ (s tags : List ℕ) (n : Option ℕ) (p : ℕ) (ts : List Test) where
  -- the head is not whole
  pub head_short : length s < p + head_size → refusal 10 p ≡ first_of (field_tests s tags n p ++ ts)
  head_short h = sym (first_of_here _ _ (lt-ltb (length s) (p + head_size) h))

  module _ (head : p + head_size ≤ length s) where
    past_head : first_of (field_tests s tags n p ++ ts)
        ≡ first_of (test (not (member (tag_at s p) tags)) 11 p ∷ ((length_tests s n p ++ (test (ltb (length s) (next_at s p)) 10 p ∷ [])) ++ ts))
    past_head = first_of_skip _ _ (le-ltb (length s) (p + head_size) head)

    -- the tag is another
    pub tag_other : member (tag_at s p) tags ≡ false → refusal 11 p ≡ first_of (field_tests s tags n p ++ ts)
    tag_other e = sym (past_head ∙ first_of_here _ _ (ap not e))

    module _ (tagged : member (tag_at s p) tags ≡ true) where
      past_tag : first_of (field_tests s tags n p ++ ts) ≡ first_of ((length_tests s n p ++ (test (ltb (length s) (next_at s p)) 10 p ∷ [])) ++ ts)
      past_tag = past_head ∙ first_of_skip _ _ (ap not tagged)

      -- the length is another
      pub length_other : (k : ℕ) → n ≡ some k → (length_at s p ≡ k → ⊥) → refusal 12 p ≡ first_of (field_tests s tags n p ++ ts)
      length_other k e d =
          sym
          (past_tag
          ∙ ap (λ (m : Option ℕ). first_of ((length_tests s m p ++ (test (ltb (length s) (next_at s p)) 10 p ∷ [])) ++ ts)) e
          ∙ first_of_here _ _ (ap not (ne_eqb _ _ d)))

      module _ (stated : Stated n (length_at s p)) where
        past_length : first_of (field_tests s tags n p ++ ts) ≡ first_of (test (ltb (length s) (next_at s p)) 10 p ∷ ts)
        past_length = past_tag ∙ go n stated
          where
            go : (m : Option ℕ) → Stated m (length_at s p)
                → first_of ((length_tests s m p ++ (test (ltb (length s) (next_at s p)) 10 p ∷ [])) ++ ts) ≡ first_of (test (ltb (length s) (next_at s p)) 10 p ∷ ts)
            go none h = refl
            go (some k) h = first_of_skip _ _ (ap not (eq-eqb _ _ h))

        -- the body is not whole
        pub body_short : length s < next_at s p → refusal 10 p ≡ first_of (field_tests s tags n p ++ ts)
        body_short h = sym (past_length ∙ first_of_here _ _ (lt-ltb (length s) (next_at s p) h))

        -- the field is whole, and the tests of its contents decide
        pub field_good : next_at s p ≤ length s → first_of (field_tests s tags n p ++ ts) ≡ first_of ts
        field_good h = past_length ∙ first_of_skip _ _ (le-ltb (length s) (next_at s p) h)

-- a field that stands there
pub field_passes : {s : List ℕ} {p : ℕ} {f : Field} → FieldStands s p f → (tags : List ℕ) (n : Option ℕ) (ts : List Test)
    → member f.tag tags ≡ true → Stated n (length f.body) → first_of (field_tests s tags n p ++ ts) ≡ first_of ts
field_passes {s} {p} {f} h tags n ts t l =
    field_good s tags n p ts h.head_whole (ap (λ (x : ℕ). member x tags) h.tagged ∙ t) (subst (Stated n) (sym h.stated) l) h.whole

-- ---- a field that is not refused

pub record FieldSound (s tags : List ℕ) (n : Option ℕ) (p : ℕ) : Type 0 where
  pub head_whole : p + head_size ≤ length s
  pub tagged : member (tag_at s p) tags ≡ true
  pub stated : Stated n (length_at s p)
  pub whole : next_at s p ≤ length s

pub field_clear : (s tags : List ℕ) (n : Option ℕ) (p : ℕ) (ts : List Test) → (first_of (field_tests s tags n p ++ ts)).number ≡ 0 → FieldSound s tags n p × ((first_of ts).number ≡ 0)
field_clear s tags n p ts clear = go n clear
  where
    made : (m : Option ℕ) → ltb (length s) (p + head_size) ≡ false → not (member (tag_at s p) tags) ≡ false → Stated m (length_at s p) → ltb (length s) (next_at s p) ≡ false → FieldSound s tags m p
    made m a b c d = record { head_whole = ltb-false _ _ a; tagged = not-false _ b; stated = c; whole = ltb-false _ _ d }

    go : (m : Option ℕ) → (first_of (field_tests s tags m p ++ ts)).number ≡ 0 → FieldSound s tags m p × ((first_of ts).number ≡ 0)
    go none e =
        let a = first_of_clear _ _ (lit< tt) e in
        let b = first_of_clear _ _ (lit< tt) a.1 in
        let d = first_of_clear _ _ (lit< tt) b.1 in
        (made none a.0 b.0 tt d.0, d.1)
    go (some k) e =
        let a = first_of_clear _ _ (lit< tt) e in
        let b = first_of_clear _ _ (lit< tt) a.1 in
        let c = first_of_clear _ _ (lit< tt) b.1 in
        let d = first_of_clear _ _ (lit< tt) c.1 in
        (made (some k) a.0 b.0 (eqb-true _ _ (not-false _ c.0)) d.0, d.1)

one_of : (x t : ℕ) → member x (t ∷ []) ≡ true → x ≡ t
unfolding member
one_of x t e = go (eqb x t) refl e
  where
    go : (b : Bool) → eqb x t ≡ b → cond b true false ≡ true → x ≡ t
    go true q h = eqb-true x t q
    go false q h = cc

module _ {s : List ℕ} {tag : ℕ} {n : Option ℕ} {p : ℕ} (bytes : Below 256 s) (h : FieldSound s (tag ∷ []) n p) where
  -- it is the field of its tag with the body that stands there, written as b
  pub sound_follows : (b : List ℕ) → body_at s p ≡ b → drop p s ≡ field_bytes (field_of tag b) ++ drop (next_at s p) s
  sound_follows b e =
      field_here s p bytes h.head_whole h.whole
      ∙ ap₂ (λ (t : ℕ) (l : List ℕ). field_bytes (field_of t l) ++ drop (next_at s p) s) (one_of (tag_at s p) tag h.tagged) e

  pub sound_below : Below 256 (body_at s p)
  sound_below = below_body s p bytes h.head_whole h.whole

-- a field of k bytes holds the number that they stand for
pub sound_number : {s : List ℕ} {tag k p : ℕ} → Below 256 s → FieldSound s (tag ∷ []) (some k) p → body_at s p ≡ bytes_of k (number_of 256 (body_at s p))
sound_number {s} {tag} {k} {p} bytes h =
    let e : length (body_at s p) ≡ k = length-body s p bytes h.head_whole h.whole ∙ h.stated in
    sym (ap (λ (j : ℕ). digits_of 256 j (number_of 256 (body_at s p))) (sym e) ∙ digits_number 256 (body_at s p) (sound_below bytes h))

-- a list that is not missing
pub missing-some : (o : Option (List ℕ)) → missing o ≡ false → (l : List ℕ) × (o ≡ some l)
missing-some none e = absurd (let z : ◌≡◌ {A = ℕ} 0 1 = cc in omega arith)
missing-some (some l) e = (l, refl)

-- ---- the tests of the positions' field

-- where there are not too many points for the form they are those of any field of coded numbers
pub positions_few : (s : List ℕ) (ts : List Test) → ltb (points_of (form_in s)) (count_in s) ≡ false
    → first_of (positions_tests s ++ ts) ≡ first_of (field_tests s positions_tags none (positions_at s) ++ (test (missing (positions_in s)) 17 (positions_at s) ∷ ts))
unfolding first_of
positions_few s ts few = rw few

-- and where there are, past a good tag, they are refused before the body
pub positions_many : (s : List ℕ) (ts : List Test) → positions_at s + head_size ≤ length s → member (tag_at s (positions_at s)) positions_tags ≡ true
    → ltb (points_of (form_in s)) (count_in s) ≡ true → refusal 15 (count_at s) ≡ first_of (positions_tests s ++ ts)
positions_many s ts head tagged many = sym (first_of_skip _ _ (le-ltb _ _ head) ∙ first_of_skip _ _ (ap not tagged) ∙ first_of_here _ _ many)

-- which is so in the wide form alone, whose tag is good
pub many_tag : (t c : ℕ) → c ≤ max_points → points_of (form_of t) < c → member t positions_tags ≡ true
unfolding member
many_tag t c few many = go (eqb t (positions_tag Wide)) refl
  where
    go : (b : Bool) → eqb t (positions_tag Wide) ≡ b → member t positions_tags ≡ true
    go true q = rw (eqb-true t (positions_tag Wide) q)
    go false q = absurd (let n : max_points < c = rw q at many in omega arith)

-- ---- the tests of a record

-- field after field: the front's, and then any others
pub front-flat : (e : ℕ) (s : List ℕ) (ts : List Test) → front_tests e s ++ ts ≡ rate_tests e s ++ (side_tests s ++ (count_tests s ++ ts))
front-flat e s ts = ap (λ (l : List Test). rate_tests e s ++ l) (append_assoc (side_tests s) (count_tests s) ts)

pub tests_flat : (k : ℕ → List ℕ → Option (List ℕ)) (e : ℕ) (s : List ℕ)
    → record_tests k e s ≡ rate_tests e s ++ (side_tests s ++ (count_tests s ++ (positions_tests s ++ ratios_tests k s)))
tests_flat k e s = front-flat e s (positions_tests s ++ ratios_tests k s)

-- no test of the side, nor of the front, has the number of a success

abbrev pub side_of : List ℕ → Bool → List Test
side_of s b = cond b (field_tests s (side_tag ∷ []) (some side_size) (side_at s) ++ (test (not (is_side (side_in s))) 20 (side_at s) ∷ [])) []

pub side_numbered : (s : List ℕ) → numbered (side_tests s) ≡ true
side_numbered s = go (has_side s)
  where
    go : (b : Bool) → numbered (side_of s b) ≡ true
    go true = refl
    go false = refl

pub front-numbered : (e : ℕ) (s : List ℕ) → numbered (front_tests e s) ≡ true
front-numbered e s = go (has_side s)
  where
    go : (b : Bool) → numbered (rate_tests e s ++ (side_of s b ++ count_tests s)) ≡ true
    go true = refl
    go false = refl

-- nor that of a test of room for bytes
pub front_never_six : (e : ℕ) (s : List ℕ) → never 6 (front_tests e s) ≡ true
front_never_six e s = go (has_side s)
  where
    go : (b : Bool) → never 6 (rate_tests e s ++ (side_of s b ++ count_tests s)) ≡ true
    go true = refl
    go false = refl

-- ---- the rate that is expected

-- none is, or the record's own
pub other_rate_not : (e r : ℕ) → (e ≡ 0) ⊎ (e ≡ r) → other_rate e r ≡ false
other_rate_not e r (inl h) = rw (eq-eqb e 0 h)
other_rate_not e r (inr h) = go (eqb e 0)
  where
    go : (b : Bool) → both (not b) (not (eqb e r)) ≡ false
    go true = refl
    go false = rw (eq-eqb e r h)

pub other_rate_none : (e r : ℕ) → other_rate e r ≡ false → (e ≡ 0) ⊎ (e ≡ r)
other_rate_none e r h = go (eqb e 0) refl h
  where
    go : (b : Bool) → eqb e 0 ≡ b → both (not b) (not (eqb e r)) ≡ false → (e ≡ 0) ⊎ (e ≡ r)
    go true q k = inl (eqb-true e 0 q)
    go false q k = inr (eqb-true e r (not-false (eqb e r) k))
