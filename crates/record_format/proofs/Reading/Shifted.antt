-- Fields of the bytes s that stand d bytes further on in the bytes t: what is read in them is the same, and their tests are the same d bytes further on.
-- So of the same field where bytes follow that are others (d is 0), and of fields that others stand before.
use mathlib.Core.Path.{◌≡◌, refl, sym, ap, ap₂, ◌∙◌}
use mathlib.Core.Bool.{Bool, true, false, not, cond}
use mathlib.Core.List.{List, [], ◌∷◌, ◌++◌, map}
use mathlib.Core.Option.{Option, none, some}
use Prim.Native.Nat.{ℕ, zero, suc, ◌+◌, ◌≤◌, ◌<◌}
use native.Mathlib.Nat.{add-zero}
use native.Mathlib.Omega.{arith}
use borrow.Author.Tests.{ltb-true, ltb-false, lt-ltb, le-ltb}
use lib.Dec.{ltb, eqb}
use lib.ListN.{length, take, drop, get_or, length-append}
use lib.Seq.{drop-drop, get_or-drop}
use Rattle.lists.specs.Lists.{member}
use Rattle.lists.specs.Optional.{missing}
use Rattle.bits.specs.Digits.{number_of}
use Rattle.limits.specs.Points.{max_points}
use Rattle.limits.specs.Rates.{is_rate}
use Rattle.limits.specs.Sides.{is_side}
use Rattle.refusals.specs.Tests.{Test, test}
use Rattle.refusals.proofs.Tests.{further, further_append}
use Rattle.position_format.specs.declared.Form.{Form}
use Rattle.position_format.specs.Positions.{read_positions}
use Rattle.position_format.specs.Tables.{table_of, points_of}
use Rattle.record_format.specs.Fields.{tag_size, length_size, head_size, tag_at, length_at, body_at, next_at, head_tests, length_tests, body_tests, field_tests}
use Rattle.record_format.specs.Runs.{rate_tag, side_tag, count_tag, form_of, ratios_tag, rate_size, side_size, count_size}
use Rattle.record_format.specs.Reading.{rate_at, side_at, has_side, count_at, positions_at, ratios_at, end_at, rate_in, side_in, count_in, form_in, positions_in, ratios_in, other_rate, rate_tests, side_tests, count_tests, front_tests, many_tests, positions_tests_by, ratios_tests}
use Rattle.record_format.specs.Fetching.{lacks_room, room_tests}
use Rattle.record_format.proofs.Fields.{field_at, first-whole, tag_same, length-same, next_same, head_within, body_same}
use Rattle.record_format.proofs.Reading.{side_of}
use Rattle.record_format.proofs.Runs.{opening_field_count, closing_field_count}

-- ---- a field

-- the field at p of s is the field at q of t, d bytes further on; and its head and its body are whole in both or in neither
pub record FieldShifted (d : ℕ) (s : List ℕ) (p : ℕ) (t : List ℕ) (q : ℕ) : Type 0 where
  pub place : q ≡ p + d
  pub tagged : tag_at t q ≡ tag_at s p
  pub stated : length_at t q ≡ length_at s p
  pub within : body_at t q ≡ body_at s p
  pub heads : ltb (length t) (q + head_size) ≡ ltb (length s) (p + head_size)
  pub bodies : ltb (length t) (next_at t q) ≡ ltb (length s) (next_at s p)

module _ {d : ℕ} {s : List ℕ} {p : ℕ} {t : List ℕ} {q : ℕ} (h : FieldShifted d s p t q) where
  -- what follows it stands as far further on
  next_shifted : next_at t q ≡ next_at s p + d
  unfolding next_at
  next_shifted = omega (arith, h.place, h.stated)

  -- a test that is the same
  test-shifted : (x : ℕ) {a b : Bool} → a ≡ b → ◌≡◌ {A = List Test} (test a x q ∷ []) (map (further d) (test b x p ∷ []))
  test-shifted x e = ap₂ (λ (c : Bool) (y : ℕ). test c x y ∷ []) e h.place

  head_tests_shifted : (tags : List ℕ) → head_tests t tags q ≡ map (further d) (head_tests s tags p)
  head_tests_shifted tags =
      ap₂ (λ (a b : List Test). a ++ b) (test-shifted 10 h.heads) (test-shifted 11 (ap (λ (x : ℕ). not (member x tags)) h.tagged))

  length_tests_shifted : (n : Option ℕ) → length_tests t n q ≡ map (further d) (length_tests s n p)
  length_tests_shifted none = refl
  length_tests_shifted (some k) = test-shifted 12 (ap (λ (x : ℕ). not (eqb x k)) h.stated)

  body_tests_shifted : body_tests t q ≡ map (further d) (body_tests s p)
  body_tests_shifted = test-shifted 10 h.bodies

  field_tests_shifted : (tags : List ℕ) (n : Option ℕ) → field_tests t tags n q ≡ map (further d) (field_tests s tags n p)
  field_tests_shifted tags n =
      further_append d (head_tests s tags p) (length_tests s n p ++ body_tests s p) (head_tests_shifted tags)
      (further_append d (length_tests s n p) (body_tests s p) (length_tests_shifted n) body_tests_shifted)

-- ---- fields that follow one another

-- n of them, from p on in s and from q on in t, and then the same place
abbrev pub FieldsShifted : ℕ → List ℕ → ℕ → List ℕ → ℕ → ℕ → Type 0
FieldsShifted d s p t q zero = q ≡ p + d
FieldsShifted d s p t q (suc n) = FieldShifted d s p t q × FieldsShifted d s (next_at s p) t (next_at t q) n

-- bytes after n whole fields change nothing in them
module _ (s rest : List ℕ) where
  whole_field : (p q : ℕ) → q ≡ p → next_at s p ≤ length s → FieldShifted 0 s p (s ++ rest) q
  whole_field p q at whole =
      let head = head_within s rest p whole in
      let next : next_at (s ++ rest) q ≡ next_at s p = ap (next_at (s ++ rest)) at ∙ next_same s rest p head in
      let long = length-append s rest in
      record {
        place = omega arith;
        tagged = ap (tag_at (s ++ rest)) at ∙ tag_same s rest p head;
        stated = ap (length_at (s ++ rest)) at ∙ length-same s rest p head;
        within = ap (body_at (s ++ rest)) at ∙ body_same s rest p whole;
        heads = le-ltb (length (s ++ rest)) (q + head_size) (omega arith) ∙ sym (le-ltb (length s) (p + head_size) head);
        bodies = le-ltb (length (s ++ rest)) (next_at (s ++ rest) q) (omega arith) ∙ sym (le-ltb (length s) (next_at s p) whole);
      }

  pub whole_fields : (p q n : ℕ) → q ≡ p → field_at s p n ≤ length s → FieldsShifted 0 s p (s ++ rest) q n
  whole_fields p q zero at whole = omega arith
  whole_fields p q (suc n) at whole =
      let one = whole_field p q at (first-whole s p (suc n) (omega arith) whole) in
      (one, whole_fields (next_at s p) (next_at (s ++ rest) q) n (next_shifted one ∙ add-zero (next_at s p)) whole)

-- two tests of order that hold together
ltb_same : (a b c d : ℕ) → (a < b → c < d) → (b ≤ a → d ≤ c) → ltb c d ≡ ltb a b
ltb_same a b c d f g = go (ltb a b) refl
  where
    go : (t : Bool) → ltb a b ≡ t → ltb c d ≡ t
    go true e = lt-ltb c d (f (ltb-true a b e))
    go false e = le-ltb c d (g (ltb-false a b e))

-- nor do d bytes more before them
module _ (d : ℕ) (s t : List ℕ) (long : length t ≡ length s + d) where
  later_field : (p q : ℕ) → q ≡ p + d → drop q t ≡ drop p s → FieldShifted d s p t q
  unfolding tag_at length_at body_at next_at
  later_field p q at same =
      let from : (n : ℕ) → drop (q + n) t ≡ drop (p + n) s = λ n. sym (drop-drop n q t) ∙ ap (drop n) same ∙ drop-drop n p s in
      let stated : length_at t q ≡ length_at s p = ap (λ (l : List ℕ). number_of 256 (take length_size l)) (from tag_size) in
      record {
        place = at;
        tagged = ap (λ (n : ℕ). get_or t n 0) (sym (add-zero q)) ∙ sym (get_or-drop q t 0 0) ∙ ap (λ (l : List ℕ). get_or l 0 0) same ∙ get_or-drop p s 0 0 ∙ ap (λ (n : ℕ). get_or s n 0) (add-zero p);
        stated = stated;
        within = ap₂ take stated (from head_size);
        heads = ltb_same (length s) (p + head_size) (length t) (q + head_size) (λ z. omega arith) (λ z. omega arith);
        bodies = ltb_same (length s) (next_at s p) (length t) (next_at t q) (λ z. omega (arith, stated)) (λ z. omega (arith, stated));
      }

  pub later_fields : (p q n : ℕ) → q ≡ p + d → drop q t ≡ drop p s → FieldsShifted d s p t q n
  unfolding next_at
  later_fields p q zero at same = at
  later_fields p q (suc n) at same =
      let one = later_field p q at same in
      let size = head_size + length_at s p in
      let there : next_at t q ≡ q + size = omega (arith, one.stated) in
      let here : p + size ≡ next_at s p = omega arith in
      let from : drop (next_at t q) t ≡ drop (next_at s p) s =
      ap (λ (m : ℕ). drop m t) there ∙ sym (drop-drop size q t) ∙ ap (drop size) same ∙ drop-drop size p s ∙ ap (λ (m : ℕ). drop m s) here in
      (one, later_fields (next_at s p) (next_at t q) n (next_shifted one) from)

-- ---- the rate's field and the one past it

module _ {d : ℕ} {s t : List ℕ} (all : FieldsShifted d s rate_at t rate_at opening_field_count) where
  rate_field_lem : FieldShifted d s rate_at t rate_at
  rate_field_lem = all.0

  past_rate : FieldShifted d s (side_at s) t (side_at t)
  past_rate = all.1.0

  pub rate_same : rate_in t ≡ rate_in s
  rate_same = ap (number_of 256) rate_field_lem.within

  has_side_lem : has_side t ≡ has_side s
  has_side_lem = ap (λ (x : ℕ). eqb x side_tag) past_rate.tagged

  pub side_same : side_in t ≡ side_in s
  unfolding side_in
  side_same = ap₂ (λ (b : Bool) (l : List ℕ). cond b (number_of 256 l) 0) has_side_lem past_rate.within

  pub count_shifted : count_at t ≡ count_at s + d
  unfolding count_at
  count_shifted = ap (λ (b : Bool). cond b (next_at t (side_at t)) (side_at t)) has_side_lem ∙ go (has_side s)
    where
      go : (b : Bool) → cond b (next_at t (side_at t)) (side_at t) ≡ cond b (next_at s (side_at s)) (side_at s) + d
      go true = next_shifted past_rate
      go false = past_rate.place

  rate_tests_shifted : (e : ℕ) → rate_tests e t ≡ map (further d) (rate_tests e s)
  rate_tests_shifted e =
      further_append d (field_tests s (rate_tag ∷ []) (some rate_size) rate_at) (test (not (is_rate (rate_in s))) 13 rate_at ∷ test (other_rate e (rate_in s)) 14 rate_at ∷ [])
      (field_tests_shifted rate_field_lem (rate_tag ∷ []) (some rate_size))
      (ap₂ (λ (a b : List Test). a ++ b) (test-shifted rate_field_lem 13 (ap (λ (x : ℕ). not (is_rate x)) rate_same)) (test-shifted rate_field_lem 14 (ap (other_rate e) rate_same)))

  side_tests_shifted : side_tests t ≡ map (further d) (side_tests s)
  side_tests_shifted = ap (side_of t) has_side_lem ∙ go (has_side s)
    where
      go : (b : Bool) → side_of t b ≡ map (further d) (side_of s b)
      go true =
          further_append d (field_tests s (side_tag ∷ []) (some side_size) (side_at s)) (test (not (is_side (side_in s))) 20 (side_at s) ∷ [])
          (field_tests_shifted past_rate (side_tag ∷ []) (some side_size)) (test-shifted past_rate 20 (ap (λ (x : ℕ). not (is_side x)) side_same))
      go false = refl

-- ---- the fields from the count's on

module _ {d : ℕ} {s t : List ℕ} (all : FieldsShifted d s (count_at s) t (count_at t) closing_field_count) where
  count_field_lem : FieldShifted d s (count_at s) t (count_at t)
  count_field_lem = all.0

  positions_field_lem : FieldShifted d s (positions_at s) t (positions_at t)
  positions_field_lem = all.1.0

  ratios_field_lem : FieldShifted d s (ratios_at s) t (ratios_at t)
  ratios_field_lem = all.1.1.0

  pub end_shifted : end_at t ≡ end_at s + d
  end_shifted = all.1.1.1

  pub count_same : count_in t ≡ count_in s
  count_same = ap (number_of 256) count_field_lem.within

  pub form_same : form_in t ≡ form_in s
  form_same = ap form_of positions_field_lem.tagged

  pub positions_same : positions_in t ≡ positions_in s
  positions_same =
      ap₂ (λ (f : Form) (c : ℕ). read_positions (table_of f) c (body_at t (positions_at t))) form_same count_same
      ∙ ap (read_positions (table_of (form_in s)) (count_in s)) positions_field_lem.within

  pub ratios-same : (k : ℕ → List ℕ → Option (List ℕ)) → ratios_in k t ≡ ratios_in k s
  ratios-same k = ap₂ k count_same ratios_field_lem.within

  pub count_tests_shifted : count_tests t ≡ map (further d) (count_tests s)
  count_tests_shifted =
      further_append d (field_tests s (count_tag ∷ []) (some count_size) (count_at s)) (test (ltb max_points (count_in s)) 15 (count_at s) ∷ [])
      (field_tests_shifted count_field_lem (count_tag ∷ []) (some count_size)) (test-shifted count_field_lem 15 (ap (ltb max_points) count_same))

  pub room_tests_shifted : (m n : ℕ) → room_tests t m n ≡ map (further d) (room_tests s m n)
  room_tests_shifted m n = test-shifted count_field_lem 16 (ap (lacks_room m n) count_same)

  pub positions_tests_shifted : (tags : List ℕ) → positions_tests_by tags t ≡ map (further d) (positions_tests_by tags s)
  positions_tests_shifted tags =
      let read = test (missing (positions_in s)) 17 (positions_at s) ∷ [] in
      further_append d (head_tests s tags (positions_at s)) (many_tests s ++ (body_tests s (positions_at s) ++ read)) (head_tests_shifted positions_field_lem tags)
      (further_append d (many_tests s) (body_tests s (positions_at s) ++ read) (test-shifted count_field_lem 15 (ap₂ (λ (f : Form) (c : ℕ). ltb (points_of f) c) form_same count_same))
      (further_append d (body_tests s (positions_at s)) read (body_tests_shifted positions_field_lem) (test-shifted positions_field_lem 17 (ap missing positions_same))))

  pub ratios_tests_shifted : (k : ℕ → List ℕ → Option (List ℕ)) → ratios_tests k t ≡ map (further d) (ratios_tests k s)
  ratios_tests_shifted k =
      further_append d (field_tests s (ratios_tag ∷ []) none (ratios_at s)) (test (missing (ratios_in k s)) 18 (ratios_at s) ∷ [])
      (field_tests_shifted ratios_field_lem (ratios_tag ∷ []) none) (test-shifted ratios_field_lem 18 (ap missing (ratios-same k)))

-- ---- the front

pub front_tests_shifted : {d : ℕ} {s t : List ℕ} → FieldsShifted d s rate_at t rate_at opening_field_count → FieldsShifted d s (count_at s) t (count_at t) closing_field_count
    → (e : ℕ) → front_tests e t ≡ map (further d) (front_tests e s)
front_tests_shifted {d} {s} front points e =
    further_append d (rate_tests e s) (side_tests s ++ count_tests s) (rate_tests_shifted front e) (further_append d (side_tests s) (count_tests s) (side_tests_shifted front) (count_tests_shifted points))
