-- Laws of a record as it is moved: the whole answer, by how its points, their number, their steps in the form moved to and the room turn out.
use mathlib.Core.Path.{◌≡◌, sym, ap, ap₂, ◌∙◌, subst}
use mathlib.Core.Bool.{Bool, true, false}
use mathlib.Core.List.{List, ◌++◌}
use mathlib.Core.Option.{Option}
use Prim.Native.Nat.{ℕ, ◌+◌, ◌-◌, ◌≤◌, ◌<◌}
use native.Mathlib.Omega.{arith}
use borrow.Author.Tests.{lt-ltb, le-ltb}
use lib.Dec.{leb, eqb}
use Rattle.lists.specs.Compare.{both}
use lib.ListN.{length, take, drop, length-append}
use Rattle.lists.specs.Below.{Below}
use Rattle.lists.specs.Optional.{missing, list_of}
use Rattle.limits.specs.Points.{max_points, first_high}
use Rattle.std.specs.Prelude.{Result, Ok, Err}
use Rattle.refusals.specs.declared.Refusal.{Refusal}
use Rattle.refusals.specs.Tests.{refusal, first_of}
use Rattle.refusals.proofs.Tests.{first_of_here, first_of_skip, first_of_end}
use Rattle.position_format.specs.declared.Form.{Form}
use Rattle.position_format.specs.declared.Form.TheVariants.{Old, Wide}
use Rattle.position_format.specs.Positions.{read_positions}
use Rattle.position_format.specs.Steps.{first_outside}
use Rattle.position_format.specs.Tables.{table_of, points_of}
use Rattle.position_format.proofs.Positions.Valid.{valid_parts}
use Rattle.position_codec.specs.Codes.{CodablePositions}
use Rattle.position_codec.specs.declared.recode.RecodeError.{RecodeError}
use Rattle.position_codec.specs.declared.recode.RecodeError.TheVariants.{Outside, NoRoom}
use Rattle.position_codec.proofs.Codes.{codable_inside}
use Rattle.ratio_format.specs.Bodies.{strict_ratios}
use Rattle.record_format.specs.Fields.{head_size, tag_at, length_at, body_at, next_at, laid}
use Rattle.record_format.specs.Runs.{positions_tag, record_of}
use Rattle.record_format.specs.Reading.{positions_at, rate_in, side_in, count_in, form_in, positions_in, front_tests, positions_tests, ratios_tests, record_tests}
use Rattle.record_format.specs.Checking.{run_in}
use Rattle.record_format.specs.Moves.{Move, in_form, source_tests, target_tests, refused_move, move_of}
use Rattle.std.specs.Result.{IsErrAnd}
use Rattle.record_format.specs.declared.Moved.{Moved}
use Rattle.record_format.specs.Answers.{move_answer}
use Rattle.record_format.proofs.Reading.Sound.{record_clear}
use Rattle.record_format.proofs.Writing.{fitting_few, valid_steps}
use Rattle.record_format.proofs.Moves.{head_of, source_front, source_form, source_points, source_check, source_refused, target_refused, room-refused, move_done, moved-laid, SourceSound, source_sound}
use Rattle.record_parts.specs.declared.front.Front.{Front}
use Rattle.record_parts.specs.declared.points.Points.{Points}
use Rattle.record_parts.specs.Fields.{RefusedBy, FrontFound, FrontRead, PointsRead}
use Rattle.record_parts.proofs.Fields.{refused_at, refused_as}
use Rattle.record_parts.specs.Leads.{lead_fields, RecodedAs}
use Rattle.record_codec.specs.Answers.{Moves}
use Rattle.record_codec.specs.Movable.{NotThere, Movable, Opened}

-- ---- bytes, and then more bytes

pub longer : (xs ys o : List ℕ) → length o < length xs → length o < length (xs ++ ys)
longer xs ys o short = omega (arith, short, length-append xs ys)

-- ---- refusals

module _ (f : Form) (s o p : List ℕ) where
  -- by the tests of the record that is to be moved
  pub moves_err : (r : Result Moved Refusal) {g : Refusal} → IsErrAnd r (λ y. y ≡ g) → RefusedBy (source_tests f s) g → Moves (move_of f s o) o r p
  moves_err (Ok d) h k = absurd h
  moves_err (Err y) {g} h k = subst (λ (x : Refusal). Moves (move_of f s o) o (Err x) p) (sym h) (source_refused f s o g k.first k.numbered, k.numbered)

  -- with a number that is known
  pub moves_at : {g : Refusal} (x q : ℕ) → g ≡ refusal x q → (x ≡ 0 → ⊥) → refused_move (refusal x q) o ≡ move_of f s o → Moves (move_of f s o) o (Err g) p
  moves_at x q e d h = subst (λ (x : Refusal). Moves (move_of f s o) o (Err x) p) (sym e) (h, d)

-- ---- the front

module _ (f : Form) (s : List ℕ) where
  pub opened_err : (r : Result Front Refusal) {g : Refusal} → IsErrAnd r (λ y. y ≡ g) → RefusedBy (front_tests 0 s) g → Opened f s r
  opened_err (Ok h) e k = absurd e
  opened_err (Err y) e k =
      subst (RefusedBy (source_tests f s)) (sym e)
      (record { first = k.first ∙ sym (source_front f s (λ z. k.numbered (ap (λ (x : Refusal). x.number) k.first ∙ z))); numbered = k.numbered })

  -- the form moved to
  pub opened_form : (h : Front) → FrontRead 0 s (Ok h) → {b : Bool} → b ≡ both (leb (h.end + head_size) (length s)) (eqb (tag_at s h.end) (positions_tag f)) → b ≡ true
      → {g : Refusal} → g ≡ refusal 11 h.end → RefusedBy (source_tests f s) g
  opened_form h i is e q =
      let head : head_of f s ≡ true = sym (ap (λ (p : ℕ). both (leb (p + head_size) (length s)) (eqb (tag_at s p) (positions_tag f))) i.1.count.next) ∙ sym is ∙ e in
      refused_at 11 h.end q (λ z. omega arith) (ap (refusal 11) i.1.count.next ∙ sym (source_form f s (ap (λ (x : Refusal). x.number) i.0) head))

-- ---- the tests of positions in the form moved to

-- more than a run in it has: the wide one, since there are no more than in the old one
target_many : (f : Form) (ts : List ℕ) → length ts ≤ max_points → points_of f < length ts → refusal 3 0 ≡ first_of (target_tests f ts)
target_many Old ts few many = absurd (omega arith)
target_many Wide ts few many = sym (first_of_here _ _ (lt-ltb _ _ many))

-- a step that its table does not hold: the old one, since the wide one holds every step between positions in range
target_outside : (f : Form) (ts : List ℕ) → length ts ≤ first_high ts → first_outside (table_of f) ts < length ts
    → refusal 5 (first_outside (table_of f) ts) ≡ first_of (target_tests f ts)
target_outside Old ts low out = sym (first_of_here _ _ (lt-ltb _ _ out))
target_outside Wide ts low out = absurd (omega (arith, codable_inside Wide ts low))

-- and else they are good
target_good : (f : Form) (ts : List ℕ) → length ts ≤ points_of f → CodablePositions f ts → (first_of (target_tests f ts)).number ≡ 0
target_good Old ts few valid = ap (λ (g : Refusal). g.number) (valid_steps Old ts valid ∙ first_of_end)
target_good Wide ts few low = ap (λ (g : Refusal). g.number) (first_of_skip _ _ (le-ltb _ _ few) ∙ first_of_end)

-- ---- the points

-- points past a front, in bytes that are to be moved to the form f, whatever outputs they were read with
pub record PointsPast (f : Form) (s : List ℕ) (h : Front) (g : Points) : Type 0 where
  pub bytes : Below 256 s
  pub movable : Movable f s h
  pub ts : List ℕ
  pub vs : List ℕ
  pub ps : List ℕ
  pub qs : List ℕ
  pub read : PointsRead strict_ratios s ts vs (Ok g) ps qs

pub points_past : {f : Form} {s : List ℕ} {h : Front} {g : Points} → Below 256 s → Movable f s h → (ts vs ps qs : List ℕ) → PointsRead strict_ratios s ts vs (Ok g) ps qs → PointsPast f s h g
points_past b m ts vs ps qs r = record { bytes = b; movable = m; ts = ts; vs = vs; ps = ps; qs = qs; read = r }

-- or their refusal
pub points_stop : {f : Form} {s : List ℕ} {h : Front} → Movable f s h → {g : Refusal} → RefusedBy (positions_tests s ++ ratios_tests strict_ratios s) g → RefusedBy (source_tests f s) g
points_stop {f} {s} m k = refused_as (source_points f s m.elsewhere.0 m.elsewhere.1) k

module _ {f : Form} {s : List ℕ} {h : Front} {g : Points} (i : PointsPast f s h g) where
  elsewhere : NotThere f s
  elsewhere = i.movable.elsewhere

  front : FrontFound s h
  front = i.movable.found

  -- the body of the positions' field, and the positions in it
  abbrev body : List ℕ
  body = take (g.from - (h.end + head_size)) (drop (h.end + head_size) s)

  abbrev points : Option (List ℕ)
  points = read_positions (table_of g.form) h.count body

  -- and the ratios' field
  abbrev field : List ℕ
  field = take (g.end - g.from) (drop g.from s)

  clear : (first_of (source_tests f s)).number ≡ 0
  clear = ap (λ (x : Refusal). x.number) (source_points f s elsewhere.0 elsewhere.1 ∙ i.read.0)

  sound : SourceSound s
  sound = source_sound f s i.bytes elsewhere.1 clear

  -- where they stand
  body_size : g.from ≡ h.end + head_size + length_at s (positions_at s)
  unfolding next_at
  body_size = i.read.1.from ∙ ap (λ (p : ℕ). p + head_size + length_at s (positions_at s)) (sym front.count.next)

  pub body_order : h.end + head_size ≤ g.from
  body_order = omega (arith, body_size)

  pub field_order : (g.from ≤ g.end) × (g.end ≤ length s)
  field_order = (omega (arith, i.read.1.from, i.read.1.next, sound.order), omega (arith, i.read.1.next, i.read.1.inside))

  body_is : body ≡ body_at s (positions_at s)
  unfolding body_at
  body_is =
      let size : g.from - (h.end + head_size) ≡ length_at s (positions_at s) = omega (arith, body_size) in
      ap₂ (λ (n p : ℕ). take n (drop (p + head_size) s)) size front.count.next

  points-are : points ≡ positions_in s
  points-are =
      ap₂ (λ (x : Form) (n : ℕ). read_positions (table_of x) n body) (i.read.1.form) front.count.counted
      ∙ ap (λ (l : List ℕ). read_positions (table_of (form_in s)) (count_in s) l) body_is

  run_are : list_of points ≡ (run_in s).positions
  run_are = ap list_of points-are

  -- the positions are there, and not too many
  pub body-sound : (missing points ≡ false) × (h.count ≤ max_points)
  body-sound =
      let checked : (first_of (record_tests strict_ratios 0 s)).number ≡ 0 = sym (ap (λ (x : Refusal). x.number) (source_check f s (λ _. elsewhere.1))) ∙ clear in
      (ap missing (points-are ∙ (record_clear strict_ratios 0 s checked).points.1), omega (arith, front.count.counted, front.count.few))

  many_is : h.count ≡ length (run_in s).positions
  many_is = front.count.counted ∙ sound.many

  low : length (run_in s).positions ≤ first_high (run_in s).positions
  low = omega (arith, (valid_parts (table_of (run_in s).form) (run_in s).positions sound.fits.valid).0)

  pub many_stop : points_of f < h.count → (o : List ℕ) → refused_move (refusal 3 0) o ≡ move_of f s o
  many_stop many o =
      target_refused f s o clear (refusal 3 0) (target_many f (run_in s).positions (fitting_few (run_in s) sound.fits) (omega (arith, many_is))) (λ z. omega arith)

  -- what the writer of the record says
  abbrev moved : List ℕ
  moved = record_of (in_form f (run_in s))

  bytes_are : laid (lead_fields h.rate h.side f (list_of points)) ++ field ≡ moved
  bytes_are =
      ap₂ (λ (x y : List ℕ). x ++ y)
      (ap₂ (λ (x y : ℕ). laid (lead_fields x y f (list_of points))) front.rate front.side ∙ ap (λ (l : List ℕ). laid (lead_fields (rate_in s) (side_in s) f l)) run_are)
      (ap₂ (λ (a b : ℕ). take (b - a) (drop a s)) i.read.1.from i.read.1.next ∙ sound.ratios)
      ∙ sym (moved-laid f (run_in s))

  module _ (o p : List ℕ) (r : Result ℕ RecodeError) (put : RecodedAs f (list_of points) (laid (lead_fields h.rate h.side f (list_of points)) ++ field) r o p) where
    put_record : RecodedAs f (run_in s).positions moved r o p
    put_record = subst (λ (l : List ℕ). RecodedAs f (run_in s).positions l r o p) bytes_are (subst (λ (l : List ℕ). RecodedAs f l (laid (lead_fields h.rate h.side f (list_of points)) ++ field) r o p) run_are put)

    pub put_as : (x : Result ℕ RecodeError) → r ≡ x → RecodedAs f (run_in s).positions moved x o p
    put_as x e = subst (λ (y : Result ℕ RecodeError). RecodedAs f (run_in s).positions moved y o p) e put_record

  -- a step outside
  module _ (o p : List ℕ) (k : ℕ) (put : RecodedAs f (run_in s).positions moved (Err (Outside k)) o p) where
    pub outside_low : k ≤ max_points
    outside_low = omega (arith, put.1, fitting_few (run_in s) sound.fits)

    pub outside_stop : refused_move (refusal 5 k) o ≡ move_of f s o
    outside_stop =
        target_refused f s o clear (refusal 5 k)
        (ap (refusal 5) put.0 ∙ target_outside f (run_in s).positions low (omega (arith, put.0, put.1))) (λ z. omega arith)

  -- or none: the record, or no room for it
  module _ (few : h.count ≤ points_of f) where
    target_clear : CodablePositions f (run_in s).positions → (first_of (target_tests f (run_in s).positions)).number ≡ 0
    target_clear valid = target_good f (run_in s).positions (omega (arith, many_is)) valid

    pub move_short : (o p : List ℕ) → RecodedAs f (run_in s).positions moved (Err NoRoom) o p → refused_move (refusal 6 0) o ≡ move_of f s o
    move_short o p put = room-refused f s o clear (target_clear put.0) put.1

    pub move_ends : (o p : List ℕ) (n : ℕ) → RecodedAs f (run_in s).positions moved (Ok n) o p → Moves (move_of f s o) o (Ok (record { length = n; used = g.end })) p
    move_ends o p n put =
        let a = put.1 in
        let done = move_done f s o clear (target_clear put.0) a.1 in (
          ap₂ (λ (x y : ℕ). move_answer (Ok (record { length = x; used = y }))) a.0 i.read.1.next ∙ ap (λ (m : Move). m.answer) done,
          a.2 ∙ ap (λ (m : Move). m.output) done,
        )
