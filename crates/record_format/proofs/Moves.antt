-- Laws of moves: the tests of a record that is to be moved by those of a check, the answer by the test at which a mover stops, and the move of a run's
-- record.
use mathlib.Core.Path.{◌≡◌, refl, sym, ap, ap₂, ◌∙◌, subst}
use mathlib.Core.Bool.{Bool, true, false, not, cond}
use mathlib.Core.List.{List, [], ◌∷◌, ◌++◌, append-nil, append_assoc}
use mathlib.Core.Logic.{inl}
use Prim.Native.Nat.{ℕ, zero, suc, ◌+◌, ◌-◌, ◌^◌, ◌≤◌, ◌<◌}
use native.Mathlib.Omega.{arith}
use borrow.Author.Tests.{eqb-true, eq-eqb, ne_eqb, leb-true, leb-false, le-leb, le-ltb, lt-ltb, ltb-false}
use lib.Dec.{ltb, leb, eqb, lit<, eqb-suc-zero}
use lib.ListN.{length, take, drop, length-append}
use lib.Seq.{take_at, drop_at}
use Rattle.lists.specs.Below.{Below}
use Rattle.lists.specs.Compare.{both}
use Rattle.lists.proofs.Compare.{both_true}
use Rattle.lists.specs.Lists.{member}
use Rattle.lists.specs.Optional.{missing}
use Rattle.limits.specs.Points.{first_high}
use Rattle.refusals.specs.declared.Refusal.{Refusal}
use Rattle.refusals.specs.Tests.{Test, test, refusal, first_of, refused}
use Rattle.refusals.proofs.Tests.{numbered, first_of_here, first_of_skip, first_of_end, first_of_clear, first_of-append-none, first_of-append-some, first_of-append_cong, first_of-append_clear, numbered-append, never, first_of_never, never_append}
use Rattle.outputs.specs.Outputs.{over}
use Rattle.position_format.specs.declared.Form.{Form}
use Rattle.position_format.specs.declared.Form.TheVariants.{Old, Wide}
use Rattle.position_format.specs.Positions.{valid_positions}
use Rattle.position_format.specs.Tables.{table_of, points_of}
use Rattle.position_format.proofs.Positions.Valid.{valid_parts}
use Rattle.position_format.proofs.Tables.WideRows.{wide_valid}
use Rattle.ratio_format.specs.Bodies.{strict_ratios}
use Rattle.ratio_format.proofs.Bodies.Strict.{strict_coded}
use Rattle.record_format.specs.Fields.{Field, head_size, field_bytes, laid, tag_at, body_tests}
use Rattle.record_format.specs.Runs.{Run, positions_tag, positions_tags, count_size, positions_field, ratios_field, front_fields, record_of}
use Rattle.record_format.specs.Reading.{positions_at, ratios_at, end_at, count_in, positions_in, front_tests, many_tests, positions_tests_by, positions_tests, ratios_tests, record_tests}
use Rattle.record_format.specs.Checking.{run_in}
use Rattle.record_format.specs.Moves.{other_form, in_form, source_tests, target_tests, move_tests, Move, refused_move, record_move, move_of}
use Rattle.record_format.specs.Claims.{positions_place}
use Rattle.record_format.specs.MoveClaims.{not_moved, moved_to, FormFirst}
use Rattle.record_format.proofs.Fields.{length-laid, laid-append, laid_one}
use Rattle.record_format.proofs.Reading.Fronts.{count_at_lem, positions_at_lem, front_pass, input, front_all, input_length, tag_there}
use Rattle.record_format.proofs.Reading.{front-numbered, front_never_six}
use Rattle.record_format.proofs.Claims.Returned.{positions_stand, ratios_stand, at_end_lem, count_read, run_is, all_clear}
use Rattle.record_format.proofs.Claims.Admitted.{clear_begins}
use Rattle.record_format.proofs.Writing.{Fitting, fitting_few, steps_valid, valid_steps}

-- ---- forms

pub other_other : (f : Form) → other_form (other_form f) ≡ f
other_other Old = refl
other_other Wide = refl

-- where the tag is not that of the form f, either form's is good exactly where the other's is
tags_other : (f : Form) (t : ℕ) → eqb t (positions_tag f) ≡ false → member t (positions_tag (other_form f) ∷ []) ≡ member t positions_tags
unfolding member
tags_other Old t e = rw e
tags_other Wide t e = rw e

-- and the tag of f is not the other's
tag_not_other : (f : Form) (t : ℕ) → eqb t (positions_tag f) ≡ true → member t (positions_tag (other_form f) ∷ []) ≡ false
unfolding member
tag_not_other Old t e = rw (eqb-true t (positions_tag Old) e)
tag_not_other Wide t e = rw (eqb-true t (positions_tag Wide) e)

-- ---- the tests of the record

-- the head of the positions' field is whole, and has the tag of the form f
abbrev pub head_of : Form → List ℕ → Bool
head_of f s = both (leb (positions_at s + head_size) (length s)) (eqb (tag_at s (positions_at s)) (positions_tag f))

module _ (f : Form) (s : List ℕ) where
  abbrev later : List Test
  later = ratios_tests strict_ratios s

  abbrev tags : List ℕ
  tags = positions_tag (other_form f) ∷ []

  -- the tests of the head, and past it those that do not look at the list of tags
  abbrev cut_test : Test
  cut_test = test (ltb (length s) (positions_at s + head_size)) 10 (positions_at s)

  abbrev tag_test : Test
  tag_test = test (not (member (tag_at s (positions_at s)) tags)) 11 (positions_at s)

  abbrev past_tag : List Test
  past_tag = (many_tests s ++ (body_tests s (positions_at s) ++ (test (missing (positions_in s)) 17 (positions_at s) ∷ []))) ++ later

  -- what the front's tests refuse is refused
  pub source_front : ((first_of (front_tests 0 s)).number ≡ 0 → ⊥) → first_of (source_tests f s) ≡ first_of (front_tests 0 s)
  source_front d = first_of-append-some (front_tests 0 s) _ d

  -- a head that has not the tag of f is tested as in reading
  other_positions : head_of f s ≡ false → first_of (positions_tests_by tags s ++ later) ≡ first_of (positions_tests s ++ later)
  other_positions e = go (leb (positions_at s + head_size) (length s)) refl e
    where
      go : (b : Bool) → leb (positions_at s + head_size) (length s) ≡ b → both b (eqb (tag_at s (positions_at s)) (positions_tag f)) ≡ false
          → first_of (positions_tests_by tags s ++ later) ≡ first_of (positions_tests s ++ later)
      go true q h =
          ap (λ (b : Bool). first_of (cut_test ∷ test (not b) 11 (positions_at s) ∷ past_tag))
          (tags_other f (tag_at s (positions_at s)) h)
      go false q h =
          let cut : ltb (length s) (positions_at s + head_size) ≡ true = lt-ltb _ _ (leb-false (positions_at s + head_size) (length s) q) in
          first_of_here cut_test _ cut ∙ sym (first_of_here cut_test _ cut)

  module _ (clear : (first_of (front_tests 0 s)).number ≡ 0) where
    past_front : first_of (source_tests f s) ≡ first_of (cut_test ∷ tag_test ∷ past_tag)
    past_front = first_of-append-none (front_tests 0 s) _ (front-numbered 0 s) clear

    -- and then 11 for the form moved to
    pub source_form : head_of f s ≡ true → first_of (source_tests f s) ≡ refusal 11 (positions_at s)
    source_form e =
        let p = both_true (leb (positions_at s + head_size) (length s)) _ e in
        past_front ∙ first_of_skip cut_test _ (le-ltb (length s) (positions_at s + head_size) (leb-true _ _ p.0)) ∙ first_of_here tag_test _ (ap not (tag_not_other f (tag_at s (positions_at s)) p.1))

    -- and else those of reading are left
    pub source_points : head_of f s ≡ false → first_of (source_tests f s) ≡ first_of (positions_tests s ++ later)
    source_points e = past_front ∙ other_positions e

  -- all else is refused as a check refuses it
  pub source_check : ((first_of (front_tests 0 s)).number ≡ 0 → head_of f s ≡ false) → first_of (source_tests f s) ≡ first_of (record_tests strict_ratios 0 s)
  source_check other = first_of-append_cong (front_tests 0 s) _ _ (front-numbered 0 s) (λ clear. other_positions (other clear))

-- ---- the whole answer

source_numbered : (f : Form) (s : List ℕ) → numbered (source_tests f s) ≡ true
source_numbered f s = numbered-append (front_tests 0 s) _ (front-numbered 0 s) refl

pub target_numbered : (f : Form) (ts : List ℕ) → numbered (target_tests f ts) ≡ true
target_numbered Old ts = refl
target_numbered Wide ts = refl

-- none but the last has the number 6
source_never_six : (f : Form) (s : List ℕ) → never 6 (source_tests f s) ≡ true
source_never_six f s = never_append 6 (front_tests 0 s) _ (front_never_six 0 s) refl

target_never_six : (f : Form) (ts : List ℕ) → never 6 (target_tests f ts) ≡ true
target_never_six Old ts = refl
target_never_six Wide ts = refl

-- the tests past those of the record, of a run r
abbrev pub run_move_tests : Form → Run → List ℕ → List Test
run_move_tests f r o = target_tests f r.positions ++ (test (ltb (length o) (length (record_of (in_form f r)))) 6 0 ∷ [])

-- by the test at which a mover stops
module _ (f : Form) (s o : List ℕ) where
  refuses : (g : Refusal) → first_of (move_tests f s o) ≡ g → (g.number ≡ 0 → ⊥) → refused_move g o ≡ move_of f s o
  unfolding move_of
  refuses g e d = rw (e, ne_eqb g.number 0 d)

  pub source_refused : (g : Refusal) → g ≡ first_of (source_tests f s) → (g.number ≡ 0 → ⊥) → refused_move g o ≡ move_of f s o
  source_refused g e d = refuses g (first_of-append-some (source_tests f s) _ (λ z. d (ap (λ (x : Refusal). x.number) e ∙ z)) ∙ sym e) d

  module _ (clear : (first_of (source_tests f s)).number ≡ 0) where
    past_source : first_of (move_tests f s o) ≡ first_of (run_move_tests f (run_in s) o)
    past_source = first_of-append-none (source_tests f s) _ (source_numbered f s) clear

    pub target_refused : (g : Refusal) → g ≡ first_of (target_tests f (run_in s).positions) → (g.number ≡ 0 → ⊥) → refused_move g o ≡ move_of f s o
    target_refused g e d =
        refuses g (past_source ∙ first_of-append-some (target_tests f (run_in s).positions) _ (λ z. d (ap (λ (x : Refusal). x.number) e ∙ z)) ∙ sym e) d

    module _ (fits : (first_of (target_tests f (run_in s).positions)).number ≡ 0) where
      past_target : first_of (move_tests f s o) ≡ first_of (test (ltb (length o) (length (record_of (in_form f (run_in s))))) 6 0 ∷ [])
      past_target = past_source ∙ first_of-append-none (target_tests f (run_in s).positions) _ (target_numbered f (run_in s).positions) fits

      pub room-refused : length o < length (record_of (in_form f (run_in s))) → refused_move (refusal 6 0) o ≡ move_of f s o
      room-refused h = refuses (refusal 6 0) (past_target ∙ first_of_here _ _ (lt-ltb _ _ h)) (λ z. omega arith)

      pub move_done : length (record_of (in_form f (run_in s))) ≤ length o → record_move f s o ≡ move_of f s o
      unfolding move_of
      move_done h =
          let e : first_of (move_tests f s o) ≡ refusal 0 0 = past_target ∙ first_of_skip _ _ (le-ltb (length o) (length (record_of (in_form f (run_in s)))) h) ∙ first_of_end in
          rw e

-- a move with number 0 comes of no refusal
pub move_clear : (f : Form) (s o : List ℕ) → (move_of f s o).answer.number ≡ 0 → ((first_of (source_tests f s)).number ≡ 0) × ((first_of (run_move_tests f (run_in s) o)).number ≡ 0)
unfolding move_of
move_clear f s o e = first_of-append_clear (source_tests f s) _ (source_numbered f s) (go (first_of (move_tests f s o)).number refl e)
  where
    go : (n : ℕ) → (first_of (move_tests f s o)).number ≡ n → (cond (not (eqb n 0)) (refused_move (first_of (move_tests f s o)) o) (record_move f s o)).answer.number ≡ 0 → (first_of (move_tests f s o)).number ≡ 0
    go zero q h = q
    go (suc n) q h = rw (eqb-suc-zero n) at h

-- a move that is refused by 6 finds too little room, and nothing else
pub move_short : (f : Form) (s o : List ℕ) → (move_of f s o).answer.number ≡ 6
    → ((first_of (source_tests f s)).number ≡ 0) × ((first_of (target_tests f (run_in s).positions)).number ≡ 0) × (length o < length (record_of (in_form f (run_in s))))
move_short f s o e = go (first_of (source_tests f s)).number refl
  where
    by_target : (first_of (source_tests f s)).number ≡ 0 → (n : ℕ) → (first_of (target_tests f (run_in s).positions)).number ≡ n
        → ((first_of (source_tests f s)).number ≡ 0) × ((first_of (target_tests f (run_in s).positions)).number ≡ 0) × (length o < length (record_of (in_form f (run_in s))))
    by_target clear zero q = (clear, q, by_room (leb (length (record_of (in_form f (run_in s)))) (length o)) refl)
      where
        by_room : (b : Bool) → leb (length (record_of (in_form f (run_in s)))) (length o) ≡ b → length o < length (record_of (in_form f (run_in s)))
        by_room true h = absurd (let z : ◌≡◌ {A = ℕ} 0 6 = ap (λ (m : Move). m.answer.number) (move_done f s o clear q (leb-true _ _ h)) ∙ e in omega arith)
        by_room false h = leb-false _ _ h
    by_target clear (suc n) q =
        absurd
        (let d : ((first_of (target_tests f (run_in s).positions)).number ≡ 0 → ⊥) = λ z. omega arith in
        first_of_never 6 (lit< tt) (target_tests f (run_in s).positions) (target_never_six f (run_in s).positions)
        (ap (λ (m : Move). m.answer.number) (target_refused f s o clear (first_of (target_tests f (run_in s).positions)) refl d) ∙ e))

    go : (n : ℕ) → (first_of (source_tests f s)).number ≡ n
        → ((first_of (source_tests f s)).number ≡ 0) × ((first_of (target_tests f (run_in s).positions)).number ≡ 0) × (length o < length (record_of (in_form f (run_in s))))
    go zero q = by_target q (first_of (target_tests f (run_in s).positions)).number refl
    go (suc n) q =
        absurd
        (let d : ((first_of (source_tests f s)).number ≡ 0 → ⊥) = λ z. omega arith in
        first_of_never 6 (lit< tt) (source_tests f s) (source_never_six f s)
        (ap (λ (m : Move). m.answer.number) (source_refused f s o (first_of (source_tests f s)) refl d) ∙ e))

-- ---- the run in the other form

-- the run fits the form f where the tests of its positions refuse nothing
pub moved_fits : (f : Form) (r : Run) → Fitting r → (first_of (target_tests f r.positions)).number ≡ 0 → Fitting (in_form f r)
moved_fits f r fit clear =
    let low : length r.positions ≤ first_high r.positions = omega (arith, (valid_parts (table_of r.form) r.positions fit.valid).0) in
    record { listed = fit.listed; sided = fit.sided; paired = fit.paired; few = few f clear; valid = valid low f clear }
  where
    few : (f : Form) → (first_of (target_tests f r.positions)).number ≡ 0 → length r.positions ≤ points_of f
    few Old e = fitting_few r fit
    few Wide e = ltb-false (points_of Wide) (length r.positions) (first_of_clear (test (ltb (points_of Wide) (length r.positions)) 3 0) [] (lit< tt) e).0

    valid : length r.positions ≤ first_high r.positions → (f : Form) → (first_of (target_tests f r.positions)).number ≡ 0 → valid_positions (table_of f) r.positions ≡ true
    valid low Old e = steps_valid r.positions low Old e
    valid low Wide e = wide_valid r.positions low

-- and there only
pub fits_target : (f : Form) (r : Run) → Fitting (in_form f r) → first_of (target_tests f r.positions) ≡ first_of []
fits_target Old r fit = valid_steps Old r.positions fit.valid
fits_target Wide r fit = first_of_skip _ _ (le-ltb _ _ fit.few)

-- ---- the record of a run, and then any bytes

-- what a move of the record of r to the form f answers, where r is in the other form
abbrev pub own_move : Form → Run → List ℕ → Move
own_move f r o =
    let g = first_of (run_move_tests f r o) in
    cond (refused g) (refused_move g o) (moved_to r (in_form f r) o)

module _ (f : Form) (r : Run) (fit : Fitting r) (words : Below (2 ^ 64) r.ratios) (rest : List ℕ) (other : r.form ≡ other_form f) where
  abbrev s : List ℕ
  s = record_of r ++ rest

  other_tag_lem : (g : Form) → g ≡ other_form f → eqb (positions_tag g) (positions_tag f) ≡ false
  other_tag_lem g e = go f g e
    where
      go : (f g : Form) → g ≡ other_form f → eqb (positions_tag g) (positions_tag f) ≡ false
      go Old Old e = absurd (let z : ◌≡◌ {A = ℕ} (positions_tag Old) (positions_tag Wide) = ap positions_tag e in omega arith)
      go Old Wide e = refl
      go Wide Old e = refl
      go Wide Wide e = absurd (let z : ◌≡◌ {A = ℕ} (positions_tag Wide) (positions_tag Old) = ap positions_tag e in omega arith)

  other_head : head_of f s ≡ false
  other_head =
      ap (both (leb (positions_at s + head_size) (length s))) (ap (λ (t : ℕ). eqb t (positions_tag f)) (positions_stand r fit rest).tagged ∙ other_tag_lem r.form other)
      ∙ go (leb (positions_at s + head_size) (length s))
    where
      go : (b : Bool) → both b false ≡ false
      go true = refl
      go false = refl

  -- the tests of the record pass
  pub own_source : first_of (source_tests f s) ≡ first_of []
  own_source =
      source_check f s (λ _. other_head) ∙ all_clear r fit rest strict_ratios (strict_coded r.ratios words) 0 (inl refl)

  pub own_run : run_in s ≡ r
  own_run = run_is r fit rest strict_ratios (strict_coded r.ratios words)

  -- and the run decides
  pub own_move_lem : (o : List ℕ) → move_of f s o ≡ own_move f r o
  unfolding move_of
  own_move_lem o =
      ap₂ (λ (g : Refusal) (m : Move). cond (refused g) (refused_move g o) m)
      (past_source f s o (ap (λ (g : Refusal). g.number) (own_source ∙ first_of_end)) ∙ ap (λ (q : Run). first_of (run_move_tests f q o)) own_run)
      (ap₂ (λ (q : Run) (n : ℕ). record { answer = record { number = 0; place = 0; length = length (record_of (in_form f q)); used = n }; output = over (record_of (in_form f q)) o })
      own_run (at_end_lem r fit rest))

-- by its tests in turn
module _ (f : Form) (r : Run) (o : List ℕ) where
  own_refused : (g : Refusal) → first_of (run_move_tests f r o) ≡ g → (g.number ≡ 0 → ⊥) → own_move f r o ≡ refused_move g o
  own_refused g e d = rw (e, ne_eqb g.number 0 d)

  pub own_target : (g : Refusal) → first_of (target_tests f r.positions) ≡ g → (g.number ≡ 0 → ⊥) → own_move f r o ≡ refused_move g o
  own_target g e d = own_refused g (first_of-append-some (target_tests f r.positions) _ (λ z. d (ap (λ (x : Refusal). x.number) (sym e) ∙ z)) ∙ e) d

  module _ (fits : (first_of (target_tests f r.positions)).number ≡ 0) where
    room_left : first_of (run_move_tests f r o) ≡ first_of (test (ltb (length o) (length (record_of (in_form f r)))) 6 0 ∷ [])
    room_left = first_of-append-none (target_tests f r.positions) _ (target_numbered f r.positions) fits

    pub own_room : length o < length (record_of (in_form f r)) → own_move f r o ≡ refused_move (refusal 6 0) o
    own_room h = own_refused (refusal 6 0) (room_left ∙ first_of_here _ _ (lt-ltb _ _ h)) (λ z. omega arith)

    pub own_done : length (record_of (in_form f r)) ≤ length o → own_move f r o ≡ moved_to r (in_form f r) o
    own_done h =
        let e : first_of (run_move_tests f r o) ≡ refusal 0 0 = room_left ∙ first_of_skip _ _ (le-ltb (length o) (length (record_of (in_form f r))) h) ∙ first_of_end in
        rw e

-- ---- a front, and past it the head of the form moved to

pub form_first : FormFirst
form_first f r d n rest o listed sided few long tagged =
    let counts : n < 256 ^ count_size = omega arith in
    let s = input r d n rest listed sided counts in
    let all = front_all r d n rest listed sided counts in
    let size = input_length r d n rest listed sided counts in
    let tag : tag_at s (positions_at s) ≡ positions_tag f = tag_there r d n rest listed sided counts ∙ tagged in
    let head : head_of f s ≡ true = ap₂ both (le-leb (positions_at s + head_size) (length s) (omega arith)) (eq-eqb _ _ tag) in
    let clear : first_of (front_tests 0 s) ≡ first_of [] =
    ap first_of (sym (append-nil (front_tests 0 s))) ∙ front_pass s r d n listed sided counts all 0 [] ∙ first_of_skip _ _ refl ∙ first_of_skip _ _ (le-ltb _ _ few) in
    let at : positions_at s ≡ positions_place d = positions_at_lem s r d n listed sided counts all ∙ omega (arith, count_at_lem s r d n listed sided counts all) in
    sym
    (source_refused f s o (refusal 11 (positions_place d))
    (sym (source_form f s (ap (λ (g : Refusal). g.number) (clear ∙ first_of_end)) head ∙ ap (refusal 11) at)) (λ z. omega arith))

-- a field and others have at least a head
head_long : (g : Field) (gs : List Field) (rest : List ℕ) → head_size ≤ length (laid (g ∷ gs) ++ rest)
head_long g gs rest = omega (arith, length-append (laid (g ∷ gs)) rest, length-laid (g ∷ gs))

-- so the record of a run is not moved to the form that it has
pub own_form : (f : Form) (r : Run) → Fitting r → (rest : List ℕ) → r.form ≡ f → (o : List ℕ) → move_of f (record_of r ++ rest) o ≡ not_moved 11 (positions_place r.side) o
unfolding record_of laid field_bytes tag_at
own_form f r fit rest e o =
    let few = fitting_few r fit in
    let points = positions_field r.form r.positions in
    let values = ratios_field r.ratios ∷ [] in
    let later = laid (points ∷ values) in
    let front = front_fields r.rate r.side (length r.positions) in
    let splits : record_of r ++ rest ≡ laid front ++ (later ++ rest) = ap (λ (l : List ℕ). l ++ rest) (laid-append front _) ∙ append_assoc (laid front) later rest in
    ap (λ (l : List ℕ). move_of f l o) splits
    ∙ form_first f r.rate r.side (length r.positions) (later ++ rest) o fit.listed fit.sided few (head_long points values rest) (ap positions_tag e)

-- the record of the run in another form, from its fields up to the positions' and the ratios' field
pub moved-laid : (f : Form) (r : Run)
    → record_of (in_form f r)
    ≡ laid (front_fields r.rate r.side (length r.positions) ++ (positions_field f r.positions ∷ []))
    ++ laid (ratios_field r.ratios ∷ [])
unfolding record_of
moved-laid f r =
    let front = front_fields r.rate r.side (length r.positions) in
    let points = positions_field f r.positions ∷ [] in
    let values = ratios_field r.ratios ∷ [] in
    ap laid (sym (append_assoc front points values)) ∙ laid-append (front ++ points) values

-- ---- bytes that the tests of the record do not refuse

-- the run in them, and the bytes of its ratios' field
pub record SourceSound (s : List ℕ) : Type 0 where
  pub fits : Fitting (run_in s)
  pub many : count_in s ≡ length (run_in s).positions
  pub order : ratios_at s ≤ end_at s
  pub ratios : take (end_at s - ratios_at s) (drop (ratios_at s) s) ≡ laid (ratios_field (run_in s).ratios ∷ [])

module _ (r : Run) (fit : Fitting r) (words : Below (2 ^ 64) r.ratios) (rest : List ℕ) where
  abbrev here : List ℕ
  here = record_of r ++ rest

  abbrev points : List Field
  points = front_fields r.rate r.side (length r.positions) ++ (positions_field r.form r.positions ∷ [])

  abbrev values : List Field
  values = ratios_field r.ratios ∷ []

  split : record_of r ≡ laid points ++ laid values
  split = moved-laid r.form r

  run_here : run_in here ≡ r
  run_here = run_is r fit rest strict_ratios (strict_coded r.ratios words)

  record_sound : SourceSound here
  record_sound =
      let stands = ratios_stand r fit rest in
      let one : length (laid values) ≡ length (field_bytes (ratios_field r.ratios)) = ap length (laid_one _) in
      let end : end_at here ≡ length (laid points) + length (laid values) = at_end_lem r fit rest ∙ ap length split ∙ length-append (laid points) (laid values) in
      let at : ratios_at here ≡ length (laid points) = omega (arith, stands.next, end, one) in
      let size : end_at here - ratios_at here ≡ length (laid values) = omega (arith, end, at) in
      let past : drop (ratios_at here) here ≡ laid values ++ rest =
      ap₂ drop at (ap (λ (l : List ℕ). l ++ rest) split ∙ append_assoc (laid points) (laid values) rest) ∙ drop_at (laid points) (laid values ++ rest) (length (laid points)) refl in
      record {
        fits = subst Fitting (sym run_here) fit;
        many = count_read r fit rest ∙ ap (λ (q : Run). length q.positions) (sym run_here);
        order = omega (arith, end, at);
        ratios = ap₂ take size past ∙ take_at (laid values) rest (length (laid values)) refl
            ∙ ap (λ (q : Run). laid (ratios_field q.ratios ∷ [])) (sym run_here);
      }

pub source_sound : (f : Form) (s : List ℕ) → Below 256 s → head_of f s ≡ false → (first_of (source_tests f s)).number ≡ 0 → SourceSound s
source_sound f s bytes other clear =
    let b = clear_begins 0 s bytes (sym (ap (λ (g : Refusal). g.number) (source_check f s (λ _. other))) ∙ clear) in
    subst SourceSound (sym b.splits) (record_sound b.own b.fits b.ratios b.rest)
