-- Laws of the side's field, which may be missing: where it stands in a record and what is read there, what its tests say of any bytes, and that
-- two records with the same fields have the same side.
use mathlib.Core.Path.{◌≡◌, refl, sym, ap, ◌∙◌, subst}
use mathlib.Core.Bool.{Bool, true, false, not, cond}
use mathlib.Core.List.{List, [], ◌∷◌, ◌++◌}
use mathlib.Core.Logic.{◌⊎◌, inl, inr}
use mathlib.Core.Option.{some}
use Prim.Native.Nat.{ℕ, zero, suc, ◌≤◌}
use native.Mathlib.Omega.{arith}
use lib.Dec.{eqb, lit<}
use lib.ListN.{drop}
use Rattle.lists.specs.Below.{Below}
use Rattle.lists.specs.Lists.{member}
use Rattle.bits.specs.Digits.{bytes_of, number_of}
use Rattle.bits.proofs.Digits.{length_digits, number_digits_lt}
use Rattle.limits.specs.Sides.{max_side, is_side}
use Rattle.limits.proofs.Sides.{side_range, side_in_lem}
use Rattle.refusals.specs.Tests.{Test, test, first_of}
use Rattle.refusals.proofs.Tests.{first_of_skip, first_of_clear}
use borrow.Author.Tests.{not-false}
use Rattle.record_format.specs.Fields.{Field, field_of, body_at, next_at, field_tests}
use Rattle.record_format.specs.Runs.{side_tag, count_tag, side_size, side_fields}
use Rattle.record_format.specs.Reading.{side_at, has_side, count_at, side_in, side_tests}
use Rattle.record_format.proofs.Fields.{FieldStands, StandAll, Follow, past_all, field_in}
use Rattle.record_format.proofs.Runs.{side_index}
use Rattle.record_format.proofs.Reading.{FieldSound, field_passes, field_clear, sound_follows, sound_number}

-- ---- by whether it stands there

module _ (s : List ℕ) where
  -- the number in it, if it does
  abbrev stored : ℕ
  stored = number_of 256 (body_at s (side_at s))

  -- its tests, if it does
  abbrev stored_tests : List Test
  stored_tests = field_tests s (side_tag ∷ []) (some side_size) (side_at s) ++ (test (not (is_side (side_in s))) 20 (side_at s) ∷ [])

  module _ (absent : has_side s ≡ false) where
    pub absent_count : count_at s ≡ side_at s
    unfolding count_at
    absent_count = ap (λ (b : Bool). cond b (next_at s (side_at s)) (side_at s)) absent

    pub absent_side : side_in s ≡ 0
    unfolding side_in
    absent_side = ap (λ (b : Bool). cond b stored 0) absent

    pub absent_tests : side_tests s ≡ []
    absent_tests = ap (λ (b : Bool). cond b stored_tests []) absent

  module _ (present : has_side s ≡ true) where
    pub present_count : count_at s ≡ next_at s (side_at s)
    unfolding count_at
    present_count = ap (λ (b : Bool). cond b (next_at s (side_at s)) (side_at s)) present

    pub present_side : side_in s ≡ stored
    unfolding side_in
    present_side = ap (λ (b : Bool). cond b stored 0) present

    pub present_tests : side_tests s ≡ field_tests s (side_tag ∷ []) (some side_size) (side_at s) ++ (test (not (is_side stored)) 20 (side_at s) ∷ [])
    present_tests =
        ap (λ (b : Bool). cond b stored_tests []) present
        ∙ ap (λ (n : ℕ). field_tests s (side_tag ∷ []) (some side_size) (side_at s) ++ (test (not (is_side n)) 20 (side_at s) ∷ [])) present_side

-- ---- in a record: the field of the side n, if it has one, and then that of the count

module _ (s : List ℕ) (c : Field) (counts : c.tag ≡ count_tag) where
  -- the tag tells
  no_side : FieldStands s (side_at s) c → has_side s ≡ false
  no_side k = ap (λ (t : ℕ). eqb t side_tag) (k.tagged ∙ counts)

  a_side : (b : List ℕ) → FieldStands s (side_at s) (field_of side_tag b) → has_side s ≡ true
  a_side b k = ap (λ (t : ℕ). eqb t side_tag) k.tagged

  pub stand_count : (n : ℕ) → StandAll s (side_at s) (side_fields n) → FieldStands s (past_all s (side_at s) (side_fields n)) c → past_all s (side_at s) (side_fields n) ≡ count_at s
  stand_count zero h k = sym (absent_count s (no_side k))
  stand_count (suc n) h k = sym (present_count s (a_side _ h.0))

  pub stand_side : (n : ℕ) → n ≤ max_side → StandAll s (side_at s) (side_fields n) → FieldStands s (past_all s (side_at s) (side_fields n)) c → side_in s ≡ n
  stand_side zero m h k = absent_side s (no_side k)
  stand_side (suc n) m h k =
      present_side s (a_side _ h.0) ∙ ap (number_of 256) h.0.within ∙ number_digits_lt (lit< tt) side_size (omega arith)

  pub side_passes : (n : ℕ) → n ≤ max_side → StandAll s (side_at s) (side_fields n) → FieldStands s (past_all s (side_at s) (side_fields n)) c
      → (ts : List Test) → first_of (side_tests s ++ ts) ≡ first_of ts
  unfolding member
  side_passes zero m h k ts = ap (λ (l : List Test). first_of (l ++ ts)) (absent_tests s (no_side k))
  side_passes (suc n) m h k ts =
      let e = present_side s (a_side _ h.0) in
      ap (λ (l : List Test). first_of (l ++ ts)) (present_tests s (a_side _ h.0))
      ∙ field_passes h.0 (side_tag ∷ []) (some side_size) (test (not (is_side (stored s))) 20 (side_at s) ∷ ts) refl (length_digits 256 side_size (suc n))
      ∙ first_of_skip _ _ (ap not (side_in_lem (stored s) (omega (arith, e, stand_side (suc n) m h k)) (omega (arith, e, stand_side (suc n) m h k))))

-- ---- in any bytes that its tests do not refuse

-- there is none, or a whole one that holds a side
abbrev pub SideSound : List ℕ → Type 0
SideSound s = (has_side s ≡ false) ⊎ ((has_side s ≡ true) × FieldSound s (side_tag ∷ []) (some side_size) (side_at s) × (is_side (stored s) ≡ true))

pub side_clear : (s : List ℕ) (ts : List Test) → (first_of (side_tests s ++ ts)).number ≡ 0 → SideSound s × ((first_of ts).number ≡ 0)
side_clear s ts clear = go (has_side s) refl
  where
    go : (b : Bool) → has_side s ≡ b → SideSound s × ((first_of ts).number ≡ 0)
    go false e = (inl e, sym (ap (λ (l : List Test). (first_of (l ++ ts)).number) (absent_tests s e)) ∙ clear)
    go true e =
        let h = field_clear s (side_tag ∷ []) (some side_size) (side_at s) (test (not (is_side (stored s))) 20 (side_at s) ∷ ts)
        (sym (ap (λ (l : List Test). (first_of (l ++ ts)).number) (present_tests s e)) ∙ clear) in
        let i = first_of_clear _ _ (lit< tt) h.1 in
        (inr (e, h.0, not-false _ i.0), i.1)

-- then it is the field of a side, and the count's stands past it
pub record SideFollows (s : List ℕ) (n : ℕ) : Type 0 where
  pub follows : Follow s (side_at s) (side_fields n)
  pub then_count : past_all s (side_at s) (side_fields n) ≡ count_at s
  pub sided : n ≤ max_side

pub side_follows : (s : List ℕ) → Below 256 s → SideSound s → SideFollows s (side_in s)
side_follows s bytes (inl e) =
    subst (SideFollows s) (sym (absent_side s e)) (record { follows = tt; then_count = sym (absent_count s e); sided = omega arith })
side_follows s bytes (inr h) = subst (SideFollows s) (sym (present_side s h.0)) (go (stored s) refl)
  where
    range : (1 ≤ stored s) × (stored s ≤ max_side)
    range = side_range (stored s) h.2

    go : (n : ℕ) → stored s ≡ n → SideFollows s (stored s)
    go zero q = absurd (omega (arith, range.0))
    go (suc n) q =
        rw q
        (record {
          follows = (sound_follows bytes h.1 (bytes_of side_size (suc n)) (sound_number bytes h.1 ∙ ap (bytes_of side_size) q), tt);
          then_count = sym (present_count s h.0);
          sided = omega (arith, range.1);
        })

-- ---- records with the same fields have the same side, and the same fields past it

pub sides_same : (m n : ℕ) → m ≤ max_side → n ≤ max_side → (c d : Field) (fs gs : List Field) → c.tag ≡ count_tag → d.tag ≡ count_tag
    → side_fields m ++ (c ∷ fs) ≡ side_fields n ++ (d ∷ gs) → (m ≡ n) × (◌≡◌ {A = List Field} (c ∷ fs) (d ∷ gs))
sides_same zero zero a b c d fs gs x y e = (refl, e)
sides_same zero (suc n) a b c d fs gs x y e =
    let t : count_tag ≡ side_tag = sym x ∙ ap (λ (l : List Field). (field_in l side_index).tag) e in absurd (omega arith)
sides_same (suc m) zero a b c d fs gs x y e =
    let t : side_tag ≡ count_tag = ap (λ (l : List Field). (field_in l side_index).tag) e ∙ y in absurd (omega arith)
sides_same (suc m) (suc n) a b c d fs gs x y e =
    let t : bytes_of side_size (suc m) ≡ bytes_of side_size (suc n) = ap (λ (l : List Field). (field_in l side_index).body) e in
    (sym (number_digits_lt (lit< tt) side_size (omega arith)) ∙ ap (number_of 256) t ∙ number_digits_lt (lit< tt) side_size (omega arith), ap (drop 1) e)
