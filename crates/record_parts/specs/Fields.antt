-- What the functions that read and write the parts of a record say of what they did.
--   longest_field       the most bytes that a field can take
--   farthest n          the farthest offset that n fields can end at
--   max_place           offsets up to here are returned as places, in 32 bits
--   length_asked l      the length that a field must state, if one is asked for, as the tests have it
--   length_good n l     whether a field states the length that is asked for, if one is
--   RefusedBy ts g      g is the refusal of the first of the tests ts that applies, and its number is not 0
--   Judged ts P r       no test of ts applies, and of what r found P holds; or r is the refusal of the first that applies
--   PartFound s p e     past the field at the offset p stands the offset e
--   FieldFound ..       the same, with the start of its body
--   NumberFound ..      the same of a field that holds a number, with the number
--   SideFound s f       the same of the side's field, which may be missing: then the side is 0, and the count's stands in its place
--   CountFound s c q p  of the bytes s: the count c, the place q of its field, and the offset p past it
--   FrontFound s f      the front f of the bytes s: these, rate and side
--   FieldRead .. FrontRead  these, judged by their tests
--   tag_of, coded_by    of a coding: its field's tag, and the body of numbers
--   Codable c ns        the numbers ns can be coded so
--   ratios_by r         the ratios of a body, strictly or by the open rule
--   FoundInto ..        whether there is a list of c numbers, and where the output has room for them they stand at its front
--   RoomToRead ..       the output has the room that the reading needs: strictly none, by the open rule for the count c
--   RatiosDue ..        the ratios' field stands at the offset p, and the count is c
--   CodedFound ..       a field of coded numbers, which the reading k takes: the offset past it, and where the output has room for the count c its
--                       numbers stand at its front; CodedRead: that, or its refusal
--   PointsFound ..      positions and ratios: where they stand, and each at the front of its output, where that has room; PointsRead: that, or their
--                       refusal
use Rattle.std.specs.Prelude.{◌≡◌, Bool, true, false, not, List, ◌++◌, ℕ, ◌+◌, ◌*◌, ◌^◌, ◌≤◌, ◌<◌, eqb, length, Result, Ok, Err}
use Rattle.std.specs.Prelude.{Option as Asked, Some, None}
use Rattle.std.proofs.Math.Option.{Option, none, some}
use Rattle.lists.specs.Optional.{missing, list_of}
use Rattle.bits.specs.Digits.{number_of}
use Rattle.limits.specs.Points.{max_points}
use Rattle.outputs.specs.Outputs.{over}
use Rattle.refusals.specs.declared.Refusal.{Refusal}
use Rattle.refusals.specs.Tests.{Test, first_of, no_refusal}
use Rattle.position_format.specs.Positions.{coded_positions}
use Rattle.position_codec.specs.Codes.{CodablePositions}
use Rattle.position_format.specs.Tables.{table_of}
use Rattle.ratio_format.specs.Bodies.{coded_ratios, open_ratios, strict_ratios}
use Rattle.record_format.specs.Fields.{head_size, max_body, body_at, next_at}
use Rattle.record_format.specs.Runs.{positions_tag, ratios_tag, side_size}
use Rattle.record_format.specs.Reading.{side_at, count_at, positions_at, ratios_at, end_at, rate_in, side_in, count_in, form_in, side_tests, front_tests, positions_tests, ratios_tests}
use Rattle.record_format.specs.Checking.{run_by}
use Rattle.record_parts.specs.declared.field.FieldBody.{FieldBody}
use Rattle.record_parts.specs.declared.front.Number.{Number}
use Rattle.record_parts.specs.declared.front.Front.{Front}
use Rattle.record_parts.specs.declared.coding.Coding.{Coding}
use Rattle.record_parts.specs.declared.coding.Reading.{Reading}
use Rattle.record_parts.specs.declared.coding.Reading.TheVariants.{Strict, Open}
use Rattle.record_parts.specs.declared.points.Points.{Points}
use Rattle.record_parts.specs.declared.coding.Coding.TheVariants.{Positions, Ratios}

-- head and body
abbrev pub longest_field : ℕ
longest_field = head_size + max_body

-- n fields from the front of a record on
abbrev pub farthest : ℕ → ℕ
farthest n = n * longest_field

-- a record's fields all begin before it
abbrev pub max_place : ℕ
max_place = 2 ^ 31

-- ---- reading a field

-- as the tests have it
abbrev pub length_asked : Asked ℕ → Option ℕ
length_asked None = none
length_asked (Some n) = some n

-- whether a stated length is the one that is asked for, if one is
abbrev pub length_good : Option ℕ → ℕ → Bool
length_good none n = true
length_good (some m) n = eqb n m

-- a refusal, and the first test's
pub record RefusedBy (tests : List Test) (g : Refusal) : Type 0 where
  pub first : g ≡ first_of tests
  pub numbered : g.number ≡ 0 → ⊥

-- nothing is refused, and P holds of what was found; or it is refused
abbrev pub Judged : {T : Type 0} → List Test → (T → Type 0) → Result T Refusal → Type 0
Judged tests P (Ok x) = (first_of tests ≡ no_refusal) × P x
Judged tests P (Err g) = RefusedBy tests g

-- where the next field stands
pub record PartFound (s : List ℕ) (p end : ℕ) : Type 0 where
  pub next : end ≡ next_at s p
  pub inside : next_at s p ≤ length s
  pub near : next_at s p ≤ p + longest_field

-- one field, with the start of its body
pub record FieldFound (s : List ℕ) (p : ℕ) (f : FieldBody) : Type 0 where
  pub part : PartFound s p f.to
  pub from : f.from ≡ p + head_size

-- with the number that it holds in n bytes
pub record NumberFound (n : ℕ) (s : List ℕ) (p : ℕ) (f : Number) : Type 0 where
  pub part : PartFound s p f.end
  pub value : f.value ≡ number_of 256 (body_at s p)
  pub small : f.value < 256 ^ n

-- the side, and where the count's field stands
pub record SideFound (s : List ℕ) (f : Number) : Type 0 where
  pub value : f.value ≡ side_in s
  pub small : f.value < 256 ^ side_size
  pub next : f.end ≡ count_at s
  pub inside : count_at s ≤ length s
  pub near : count_at s ≤ side_at s + longest_field

-- the count, where its field stands, and where the positions' does
pub record CountFound (s : List ℕ) (c q p : ℕ) : Type 0 where
  pub counted : c ≡ count_in s
  pub few : count_in s ≤ max_points
  pub stands : q ≡ count_at s
  pub next : p ≡ positions_at s
  pub inside : positions_at s ≤ length s
  pub near : positions_at s ≤ farthest 3

-- with rate and side
pub record FrontFound (s : List ℕ) (f : Front) : Type 0 where
  pub rate : f.rate ≡ rate_in s
  pub side : f.side ≡ side_in s
  pub count : CountFound s f.count f.place f.end

-- each of them, or its refusal
abbrev pub FieldRead : List Test → List ℕ → ℕ → Result FieldBody Refusal → Type 0
FieldRead tests s p = Judged tests (FieldFound s p)

abbrev pub NumberRead : ℕ → List Test → List ℕ → ℕ → Result Number Refusal → Type 0
NumberRead n tests s p = Judged tests (NumberFound n s p)

abbrev pub SideRead : List ℕ → Result Number Refusal → Type 0
SideRead s = Judged (side_tests s) (SideFound s)

abbrev pub FrontRead : ℕ → List ℕ → Result Front Refusal → Type 0
FrontRead e s = Judged (front_tests e s) (FrontFound s)

-- ---- fields of coded numbers

-- the tag of the field
abbrev pub tag_of : Coding → ℕ
tag_of (Positions f) = positions_tag f
tag_of Ratios = ratios_tag

-- numbers as a body
abbrev pub coded_by : Coding → List ℕ → List ℕ
coded_by (Positions f) ns = coded_positions (table_of f) ns
coded_by Ratios ns = coded_ratios ns

-- not too many, and positions that the form can code
abbrev pub Codable : Coding → List ℕ → Type 0
Codable (Positions f) ns = CodablePositions f ns × (length ns ≤ max_points)
Codable Ratios ns = length ns ≤ max_points

-- ratios strictly, or by the open rule
abbrev pub ratios_by : Reading → ℕ → List ℕ → Option (List ℕ)
ratios_by Strict = strict_ratios
ratios_by Open = open_ratios

-- a list that was read, or not, into the output o, which is now q
abbrev pub FoundInto : Option (List ℕ) → ℕ → Bool → List ℕ → List ℕ → Type 0
FoundInto x c b o q = (b ≡ not (missing x)) × (missing x ≡ false → c ≤ length o → q ≡ over (list_of x) o)

-- the open rule looks back in the output
abbrev pub RoomToRead : Reading → ℕ → List ℕ → Type 0
RoomToRead Strict c o = Unit {0}
RoomToRead Open c o = c ≤ length o

-- where ratios are to be read, and how many
pub record RatiosDue (s : List ℕ) (p c : ℕ) : Type 0 where
  pub here : p ≡ ratios_at s
  pub inside : p ≤ length s
  pub near : p ≤ max_place
  pub counted : c ≡ count_in s
  pub few : c ≤ max_points

-- numbers that the reading k takes from a field's body, and what they leave in the output o, which is now q
pub record CodedFound (k : List ℕ → Option (List ℕ)) (c : ℕ) (s : List ℕ) (p : ℕ) (o q : List ℕ) (end : ℕ) : Type 0 where
  pub part : PartFound s p end
  pub filled : c ≤ length o → q ≡ over (list_of (k (body_at s p))) o

-- or their refusal
abbrev pub CodedRead : List Test → (List ℕ → Option (List ℕ)) → ℕ → List ℕ → ℕ → Result ℕ Refusal → List ℕ → List ℕ → Type 0
CodedRead tests k c s p r o q = Judged tests (CodedFound k c s p o q) r

-- positions and ratios past a front, the ratios by the reading k: where they stand, and each at the front of its output, ts and vs, which are now ps
-- and qs
pub record PointsFound (k : ℕ → List ℕ → Option (List ℕ)) (s ts vs ps qs : List ℕ) (f : Points) : Type 0 where
  pub form : f.form ≡ form_in s
  pub from : f.from ≡ ratios_at s
  pub next : f.end ≡ end_at s
  pub inside : end_at s ≤ length s
  pub near : end_at s ≤ farthest 5
  pub positions : count_in s ≤ length ts → ps ≡ over (run_by k s).positions ts
  pub ratios : count_in s ≤ length vs → qs ≡ over (run_by k s).ratios vs

-- or their refusal
abbrev pub PointsRead : (ℕ → List ℕ → Option (List ℕ)) → List ℕ → List ℕ → List ℕ → Result Points Refusal → List ℕ → List ℕ → Type 0
PointsRead k s ts vs r ps qs = Judged (positions_tests s ++ ratios_tests k s) (PointsFound k s ts vs ps qs) r
