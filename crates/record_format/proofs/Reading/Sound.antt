-- Bytes to which no test of reading applies: what that says of the front, and of the whole record.
use mathlib.Core.Path.{◌≡◌, sym, ap, ◌∙◌}
use mathlib.Core.Bool.{true, false, not}
use mathlib.Core.List.{List, [], ◌∷◌, ◌++◌}
use mathlib.Core.Option.{Option, none, some}
use Prim.Native.Nat.{ℕ, ◌≤◌}
use borrow.Author.Tests.{ltb-false, not-false}
use lib.Dec.{ltb, lit<}
use Rattle.lists.specs.Optional.{missing}
use Rattle.limits.specs.Rates.{is_rate}
use Rattle.limits.specs.Points.{max_points}
use Rattle.refusals.specs.Tests.{Test, test, first_of}
use Rattle.refusals.proofs.Tests.{first_of_clear}
use Rattle.position_format.specs.Tables.{points_of}
use Rattle.record_format.specs.Fields.{tag_at}
use Rattle.record_format.specs.Runs.{rate_tag, count_tag, positions_tag, ratios_tag, rate_size, count_size}
use Rattle.record_format.specs.Reading.{rate_at, count_at, positions_at, ratios_at, rate_in, count_in, form_in, positions_in, ratios_in, other_rate, side_tests, count_tests, front_tests, positions_tests, ratios_tests, record_tests}
use Rattle.record_format.proofs.Reading.{FieldSound, field_clear, missing-some, front-flat}
use Rattle.record_format.proofs.Reading.Sides.{SideSound, side_clear}
use Rattle.record_format.proofs.Runs.{tag_named}

-- ---- the front

-- what its tests say of bytes to which none applies
pub record FrontSound (s : List ℕ) : Type 0 where
  pub rate : FieldSound s (rate_tag ∷ []) (some rate_size) rate_at
  pub listed : is_rate (rate_in s) ≡ true
  pub side : SideSound s
  pub count : FieldSound s (count_tag ∷ []) (some count_size) (count_at s)
  pub few : count_in s ≤ max_points

-- and which others are left
pub front_clear : (e : ℕ) (s : List ℕ) (ts : List Test) → (first_of (front_tests e s ++ ts)).number ≡ 0 → FrontSound s × ((first_of ts).number ≡ 0)
front_clear e s ts clear =
    let from_side = side_tests s ++ (count_tests s ++ ts) in
    let flat = sym (ap (λ (l : List Test). (first_of l).number) (front-flat e s ts)) ∙ clear in
    let a = field_clear s (rate_tag ∷ []) (some rate_size) rate_at (test (not (is_rate (rate_in s))) 13 rate_at ∷ test (other_rate e (rate_in s)) 14 rate_at ∷ from_side) flat in
    let a13 = first_of_clear _ _ (lit< tt) a.1 in
    let a14 = first_of_clear _ _ (lit< tt) a13.1 in
    let a20 = side_clear s (count_tests s ++ ts) a14.1 in
    let b = field_clear s (count_tag ∷ []) (some count_size) (count_at s) (test (ltb max_points (count_in s)) 15 (count_at s) ∷ ts) a20.1 in
    let b15 = first_of_clear _ _ (lit< tt) b.1 in
    (record { rate = a.0; listed = not-false _ a13.0; side = a20.0; count = b.0; few = ltb-false _ _ b15.0 }, b15.1)

-- no other rate than its own is expected
pub rate_expected : (e : ℕ) (s : List ℕ) (ts : List Test) → (first_of (front_tests e s ++ ts)).number ≡ 0 → other_rate e (rate_in s) ≡ false
rate_expected e s ts clear =
    let from_side = side_tests s ++ (count_tests s ++ ts) in
    let flat = sym (ap (λ (l : List Test). (first_of l).number) (front-flat e s ts)) ∙ clear in
    let a = field_clear s (rate_tag ∷ []) (some rate_size) rate_at (test (not (is_rate (rate_in s))) 13 rate_at ∷ test (other_rate e (rate_in s)) 14 rate_at ∷ from_side) flat in
    let a13 = first_of_clear _ _ (lit< tt) a.1 in
    (first_of_clear _ _ (lit< tt) a13.1).0

-- ---- the record

-- what the tests of reading say of bytes to which none applies, by the reading k of the ratios' field
pub record RecordSound (k : ℕ → List ℕ → Option (List ℕ)) (s : List ℕ) : Type 0 where
  pub front : FrontSound s
  pub positions : FieldSound s (positions_tag (form_in s) ∷ []) none (positions_at s)
  pub few : count_in s ≤ points_of (form_in s)
  pub points : (ts : List ℕ) × (positions_in s ≡ some ts)
  pub ratios : FieldSound s (ratios_tag ∷ []) none (ratios_at s)
  pub values : (vs : List ℕ) × (ratios_in k s ≡ some vs)

pub record_clear : (k : ℕ → List ℕ → Option (List ℕ)) (e : ℕ) (s : List ℕ) → (first_of (record_tests k e s)).number ≡ 0 → RecordSound k s
record_clear k e s clear =
    let f = front_clear e s (positions_tests s ++ ratios_tests k s) clear in
    let head = first_of_clear _ _ (lit< tt) f.1 in
    let tag = first_of_clear _ _ (lit< tt) head.1 in
    let c15 = first_of_clear _ _ (lit< tt) tag.1 in
    let body = first_of_clear _ _ (lit< tt) c15.1 in
    let c17 = first_of_clear _ _ (lit< tt) body.1 in
    let d = field_clear s (ratios_tag ∷ []) none (ratios_at s) (test (missing (ratios_in k s)) 18 (ratios_at s) ∷ []) c17.1 in
    let d18 = first_of_clear _ _ (lit< tt) d.1 in
    record {
      front = f.0;
      positions = record { head_whole = ltb-false _ _ head.0; tagged = tag_named (tag_at s (positions_at s)) (not-false _ tag.0); stated = tt; whole = ltb-false _ _ body.0 };
      few = ltb-false _ _ c15.0;
      points = missing-some (positions_in s) c17.0;
      ratios = d.0;
      values = missing-some (ratios_in k s) d18.0;
    }
