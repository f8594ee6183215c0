-- What moves do, proved of the definitions.
use mathlib.Core.Path.{◌≡◌, refl, sym, ap, ◌∙◌, subst}
use mathlib.Core.Bool.{Bool, true, false, cond, false≢true}
use mathlib.Core.List.{List, [], ◌∷◌, ◌++◌, append-nil}
use mathlib.Core.Logic.{◌⊎◌, inl, inr}
use Prim.Native.Nat.{ℕ, zero, suc, ◌+◌, ◌-◌, ◌≤◌, ◌<◌}
use native.Mathlib.Nat.{add-zero}
use native.Mathlib.Omega.{arith}
use borrow.Author.Tests.{eqb-true, le-ltb, lt-ltb, leb-true, leb-false, ltb-false}
use lib.Dec.{ltb, leb, eqb, lit<}
use lib.ListN.{length, get_or, take, drop, length-drop}
use lib.Seq.{take_at, get_or-drop}
use Rattle.lists.proofs.Compare.{both_true}
use Rattle.refusals.specs.declared.Refusal.{Refusal}
use Rattle.refusals.specs.Tests.{Test, test, refusal, first_of}
use Rattle.refusals.proofs.Tests.{first_of_here, first_of_skip, first_of_end, first_of_clear, first_of-append_clear}
use Rattle.position_format.specs.declared.Form.{Form}
use Rattle.position_format.specs.declared.Form.TheVariants.{Old, Wide}
use Rattle.position_format.specs.Rows.{rows, in_table}
use Rattle.position_format.specs.Steps.{first_outside, step_here}
use Rattle.position_format.proofs.Points.{outside_here, outside_later}
use Rattle.ratio_format.specs.Bodies.{strict_ratios}
use Rattle.record_format.specs.Fields.{head_size, tag_at}
use Rattle.record_format.specs.Runs.{Run, positions_tag, record_of}
use Rattle.record_format.specs.Reading.{positions_at, rate_in, side_in, count_in, other_rate, front_tests, record_tests}
use Rattle.record_format.specs.Checking.{run_in, checked}
use Rattle.record_format.specs.Fetching.{lacks_room, fetched}
use Rattle.record_format.specs.Moves.{Move, other_form, in_form, source_tests, target_tests, move_tests, move_of}
use Rattle.record_format.specs.Claims.{Accepted, Bytes, Beginning}
use Rattle.record_format.specs.CheckClaims.{Expects}
use Rattle.record_format.specs.MoveClaims.{not_moved, moved_to, ByRoom, ToWide, StepHeld, ToOld, FormThere, CheckFirst, MovesOnly, MovesBack, ReadsAlike, MovesWhole}
use Rattle.record_format.proofs.Reading.{front-numbered, other_rate_not, other_rate_none}
use Rattle.record_format.proofs.Checking.{found_number, found-whole}
use Rattle.record_format.proofs.Fetching.{room_enough, room_lacks}
use Rattle.record_format.proofs.Reading.Sound.{FrontSound, front_clear}
use Rattle.record_format.proofs.Claims.Admitted.{front_splits, clear_begins}
use Rattle.record_format.proofs.Reading.Sides.{side_follows}
use Rattle.record_format.proofs.Moves.{other_other, head_of, source_form, source_check, target_numbered, run_move_tests, source_refused, move_done, move_clear, move_short, moved_fits, fits_target, own_move, own_run, own_move_lem, own_target, own_room, own_done, own_form}
use Rattle.record_format.proofs.CheckClaims.{checks_record}
use Rattle.record_format.proofs.FetchClaims.{fetches_record}
use Rattle.record_format.proofs.Writing.{Fitting, accepted_fits, fitting_accepted}

-- ---- the record of a run in the other form

module _ (f : Form) (r : Run) (a : Accepted r) (other : r.form ≡ other_form f) (rest o : List ℕ) where
  fit : Fitting r
  fit = accepted_fits r a.passes

  moves : move_of f (record_of r ++ rest) o ≡ own_move f r o
  moves = own_move_lem f r fit a.words rest other o

  -- refused by the tests of its positions
  by_target : (n p : ℕ) → first_of (target_tests f r.positions) ≡ refusal n p → (n ≡ 0 → ⊥) → move_of f (record_of r ++ rest) o ≡ not_moved n p o
  by_target n p e d = moves ∙ own_target f r o (refusal n p) e d

  module _ (clear : (first_of (target_tests f r.positions)).number ≡ 0) where
    -- or taken
    there : Accepted (in_form f r)
    there = record { words = a.words; passes = fitting_accepted (in_form f r) (moved_fits f r fit clear) }

    pub by_room : ByRoom f r (in_form f r) rest o
    by_room = (λ h. moves ∙ own_room f r o clear h, λ h. moves ∙ own_done f r o clear h)

pub to_wide : ToWide
to_wide r a e rest o = (
  λ many. by_target Wide r a e rest o 3 0 (first_of_here _ _ (lt-ltb _ _ many)) (λ z. omega arith),
  λ few.
      let clear = ap (λ (g : Refusal). g.number) (first_of_skip (test (ltb 3500 (length r.positions)) 3 0) [] (le-ltb _ _ few) ∙ first_of_end) in
      (there Wide r a e rest o clear, by_room Wide r a e rest o clear),
)

-- steps that the table holds from the third point on, up to the point of index k + 2
held_to : (ts : List ℕ) (k : ℕ) → ((i : ℕ) → 2 ≤ i → i < k + 2 → StepHeld ts i) → k + 2 ≤ length ts → k + 2 ≤ first_outside rows ts
held_to ts zero all h = omega arith
held_to ts (suc k) all h =
    let so_far = held_to ts k (λ i a b. all i a (omega arith)) (omega arith) in
    let next = outside_later rows ts (k + 2) (omega arith) (omega arith) so_far true (sym (all (k + 2) (omega arith) (omega arith))) refl in
    omega arith

-- and of every point
held_all : (ts : List ℕ) → ((i : ℕ) → 2 ≤ i → i < length ts → StepHeld ts i) → length ts ≤ first_outside rows ts
held_all ts all = go (leb 2 (length ts)) refl
  where
    go : (b : Bool) → leb 2 (length ts) ≡ b → length ts ≤ first_outside rows ts
    go true e =
        let long = leb-true 2 (length ts) e in
        let near = held_to ts (length ts - 2) (λ i a b. all i a (omega arith)) (omega arith) in
        omega arith
    go false e =
        let short = leb-false 2 (length ts) e in
        omega arith

-- the first point whose step it does not hold
not_held : (ts : List ℕ) (p : ℕ) → 2 ≤ p → p < length ts → (StepHeld ts p → ⊥) → ((i : ℕ) → 2 ≤ i → i < p → StepHeld ts i) → p ≡ first_outside rows ts
not_held ts p two here out all = go (in_table rows (step_here ts p)) refl
  where
    go : (b : Bool) → in_table rows (step_here ts p) ≡ b → p ≡ first_outside rows ts
    go true e = absurd (out e)
    go false e =
        let so_far : p ≤ first_outside rows ts =
        (let near = held_to ts (p - 2) (λ i a b. all i a (omega arith)) (omega arith) in omega arith) in
        outside_here rows ts p two here so_far false (sym e) refl

pub to_old : ToOld
to_old r a e rest o =
    let ts = r.positions in (
      λ p two here out all.
          let is = not_held ts p two here out all in
          by_target Old r a e rest o 5 p
          (first_of_here (test (ltb (first_outside rows ts) (length ts)) 5 (first_outside rows ts)) [] (lt-ltb _ _ (subst (λ (n : ℕ). n < length ts) is here)) ∙ ap (refusal 5) (sym is)) (λ z. omega arith),
      λ all.
          let clear = ap (λ (g : Refusal). g.number) (first_of_skip (test (ltb (first_outside rows ts) (length ts)) 5 (first_outside rows ts)) [] (le-ltb _ _ (held_all ts all)) ∙ first_of_end) in
          (there Old r a e rest o clear, by_room Old r a e rest o clear),
    )

-- ---- everything else that a check refuses

-- a front that is not refused, and past it the head of the form f
form_there : (f : Form) (s : List ℕ) → Bytes s → FrontSound s → head_of f s ≡ true → FormThere f s
unfolding tag_at
form_there f s bytes h e =
    let p = both_true (leb (positions_at s + head_size) (length s)) _ e in
    let whole : positions_at s + head_size ≤ length s = leb-true _ _ p.0 in (
      rate_in s,
      side_in s,
      count_in s,
      drop (positions_at s) s,
      h.listed,
      (side_follows s bytes h.side).sided,
      h.few,
      front_splits s bytes h,
      omega (arith, length-drop (positions_at s) s),
      get_or-drop (positions_at s) s 0 0 ∙ ap (λ (n : ℕ). get_or s n 0) (add-zero (positions_at s)) ∙ eqb-true _ _ p.1,
    )

pub check_first : CheckFirst
check_first f s o bytes none d =
    let first = first_of (record_tests strict_ratios 0 s) in
    let e : first_of (source_tests f s) ≡ first = source_check f s (λ clear. other clear (head_of f s) refl) in
    let n = found_number strict_ratios 0 s in
    rw (found-whole strict_ratios 0 s d) (sym (source_refused f s o first (sym e) (λ z. d (n ∙ z))))
  where
    other : (first_of (front_tests 0 s)).number ≡ 0 → (b : Bool) → head_of f s ≡ b → head_of f s ≡ false
    other clear true e = absurd (none (form_there f s bytes (front_clear 0 s [] (ap (λ (l : List Test). (first_of l).number) (append-nil (front_tests 0 s)) ∙ clear)).0 e))
    other clear false e = e

-- ---- what is moved

-- either a run has the form f, or the other one
by_form : (f g : Form) → (g ≡ f) ⊎ (g ≡ other_form f)
by_form Old Old = inl refl
by_form Old Wide = inr refl
by_form Wide Old = inr refl
by_form Wide Wide = inl refl

moved_run : (f : Form) (r : Run) → Accepted r → (rest o : List ℕ) → (move_of f (record_of r ++ rest) o).answer.number ≡ 0
    → (r.form ≡ other_form f) × Accepted (in_form f r) × (length (record_of (in_form f r)) ≤ length o) × (move_of f (record_of r ++ rest) o ≡ moved_to r (in_form f r) o)
moved_run f r a rest o h = go (by_form f r.form)
  where
    go : (r.form ≡ f) ⊎ (r.form ≡ other_form f)
        → (r.form ≡ other_form f) × Accepted (in_form f r) × (length (record_of (in_form f r)) ≤ length o) × (move_of f (record_of r ++ rest) o ≡ moved_to r (in_form f r) o)
    go (inl e) = absurd (let z = ap (λ (m : Move). m.answer.number) (own_form f r (accepted_fits r a.passes) rest e o) in omega (arith, z, h))
    go (inr e) =
        let fit = accepted_fits r a.passes in
        let run-clear : (first_of (run_move_tests f r o)).number ≡ 0 =
        sym (ap (λ (q : Run). (first_of (run_move_tests f q o)).number) (own_run f r fit a.words rest e)) ∙ (move_clear f (record_of r ++ rest) o h).1 in
        let c = first_of-append_clear (target_tests f r.positions) (test (ltb (length o) (length (record_of (in_form f r)))) 6 0 ∷ []) (target_numbered f r.positions) run-clear in
        let room : length (record_of (in_form f r)) ≤ length o = ltb-false _ _ (first_of_clear (test (ltb (length o) (length (record_of (in_form f r)))) 6 0) [] (lit< tt) c.1).0 in
        (e, there f r a e rest o c.0, room, (by_room f r a e rest o c.0).1 room)

pub moves_only : MovesOnly
moves_only f s o bytes h =
    let clear = (move_clear f s o h).0 in
    let front = (first_of-append_clear (front_tests 0 s) _ (front-numbered 0 s) clear).0 in
    let read = sym (ap (λ (g : Refusal). g.number) (source_check f s (λ z. other clear z (head_of f s) refl))) ∙ clear in
    let b = clear_begins 0 s bytes read in
    let r = b.own in
    let a : Accepted r = record { words = b.ratios; passes = fitting_accepted r b.fits } in
    let m = moved_run f r a b.rest o (ap (λ (l : List ℕ). (move_of f l o).answer.number) (sym b.splits) ∙ h) in
    (r, a, m.0, (b.rest, b.splits), m.1, m.2, ap (λ (l : List ℕ). move_of f l o) b.splits ∙ m.3)
  where
    other : (first_of (source_tests f s)).number ≡ 0 → (first_of (front_tests 0 s)).number ≡ 0 → (b : Bool) → head_of f s ≡ b → head_of f s ≡ false
    other clear front true e = absurd (let z = ap (λ (g : Refusal). g.number) (source_form f s front e) in omega (arith, z, clear))
    other clear front false e = e

-- ---- there and back

pub moves-back : MovesBack
moves-back f s o bytes h rest p =
    let w = moves_only f s o bytes h in
    let r : Run = w.0 in
    let q = in_form f r in
    let same : in_form (other_form f) q ≡ r = ap (λ (g : Form). in_form g r) (sym w.2) in
    let fit = subst Fitting (sym same) (accepted_fits r w.1.passes) in
    let clear = ap (λ (g : Refusal). g.number) (fits_target (other_form f) r fit ∙ first_of_end) in
    let room : ByRoom (other_form f) q r rest p = subst (λ (x : Run). ByRoom (other_form f) q x rest p) same (by_room (other_form f) q w.4 (sym (other_other f)) rest p clear) in
    let written : take (length (record_of q)) (record_of q ++ drop (length (record_of q)) o) ≡ record_of q = take_at (record_of q) _ (length (record_of q)) refl in
    let used : take (length (record_of r)) s ≡ record_of r = ap (take (length (record_of r))) w.3.1 ∙ take_at (record_of r) w.3.0 (length (record_of r)) refl in
    rw w.6 (rw (written, used) room)

-- ---- both records read alike

-- the record in the bytes s, which was moved to the form f by m, and the record that was written, both with the rate e expected
abbrev Alike : Form → ℕ → List ℕ → Move → Type 0
Alike f e s m =
    let a = checked e s in
    (checked e m.output
    ≡ cond (eqb a.number 0)
    (record { number = 0; place = 0; rate = a.rate; side = a.side; count = a.count; form = positions_tag f; size = m.answer.length })
    a)
    × ((ts vs : List ℕ) → fetched e m.output ts vs ≡ fetched e s ts vs)

module _ (f : Form) (e : ℕ) (r : Run) (a : Accepted r) (b : Accepted (in_form f r)) (x o : List ℕ) where
  abbrev target : Run
  target = in_form f r

  abbrev y : List ℕ
  y = drop (length (record_of target)) o

  fetched-alike : (ts vs : List ℕ) → Expects e r.rate → (c : Bool) → lacks_room (length ts) (length vs) (length r.positions) ≡ c
      → fetched e (record_of target ++ y) ts vs ≡ fetched e (record_of r ++ x) ts vs
  fetched-alike ts vs k true h =
      let l = room_lacks (length ts) (length vs) (length r.positions) h in
      (fetches_record target b e y ts vs).1 k l ∙ sym ((fetches_record r a e x ts vs).1 k l)
  fetched-alike ts vs k false h =
      let l = room_enough (length ts) (length vs) (length r.positions) h in
      (fetches_record target b e y ts vs).2 k l.0 l.1 ∙ sym ((fetches_record r a e x ts vs).2 k l.0 l.1)

  own_alike : (c : Bool) → other_rate e r.rate ≡ c → Alike f e (record_of r ++ x) (moved_to r target o)
  own_alike true q =
      let d : (Expects e r.rate → ⊥) = λ z. false≢true (sym (other_rate_not e r.rate z) ∙ q) in
      (rw ((checks_record r a e x).0 d) ((checks_record target b e y).0 d), λ ts vs. (fetches_record target b e y ts vs).0 d ∙ sym ((fetches_record r a e x ts vs).0 d))
  own_alike false q =
      let k = other_rate_none e r.rate q in
      (rw ((checks_record r a e x).1 k) ((checks_record target b e y).1 k), λ ts vs. fetched-alike ts vs k (lacks_room (length ts) (length vs) (length r.positions)) refl)

pub reads-alike : ReadsAlike
reads-alike f s o bytes h e =
    let w = moves_only f s o bytes h in
    let r : Run = w.0 in
    let own = own_alike f e r w.1 w.4 w.3.0 o (other_rate e r.rate) refl in
    subst (Alike f e s) (sym w.6) (subst (λ (l : List ℕ). Alike f e l (moved_to r (in_form f r) o)) (sym w.3.1) own)

-- ---- refusals

pub moves-whole : MovesWhole
unfolding move_of
moves-whole f s o d = go (eqb (first_of (move_tests f s o)).number 0) refl
  where
    go : (b : Bool) → eqb (first_of (move_tests f s o)).number 0 ≡ b → move_of f s o ≡ not_moved (move_of f s o).answer.number (move_of f s o).answer.place o
    go true e = absurd (d (rw e))
    go false e = rw e

-- ---- bytes that are refused by 6

-- they begin with a run's record, which has no room in the form moved to
pub short_only : (f : Form) (s o : List ℕ) → Bytes s → (move_of f s o).answer.number ≡ 6
    → (r : Run) × Accepted r × (r.form ≡ other_form f) × Beginning (record_of r) s × Accepted (in_form f r) × (length o < length (record_of (in_form f r)))
short_only f s o bytes e =
    let h = move_short f s o e in
    let large = record_of (in_form f (run_in s)) in
    let c = move_done f s large h.0 h.1 (omega arith) in
    let m = moves_only f s large bytes (sym (ap (λ (x : Move). x.answer.number) c)) in
    let is : length (record_of (in_form f m.0)) ≡ length large = sym (ap (λ (x : Move). x.answer.length) (c ∙ m.6)) in
    (m.0, m.1, m.2, m.3, m.4, omega (arith, h.2, is))

-- ---- what is written lies within the output

pub moved_within : (f : Form) (s o : List ℕ) → (move_of f s o).answer.length ≤ length o
moved_within f s o = go (move_of f s o).answer.number refl
  where
    go : (n : ℕ) → (move_of f s o).answer.number ≡ n → (move_of f s o).answer.length ≤ length o
    go zero e =
        let c = first_of-append_clear (target_tests f (run_in s).positions) (test (ltb (length o) (length (record_of (in_form f (run_in s))))) 6 0 ∷ [])
        (target_numbered f (run_in s).positions) (move_clear f s o e).1 in
        let room = ltb-false (length o) (length (record_of (in_form f (run_in s)))) (first_of_clear (test (ltb (length o) (length (record_of (in_form f (run_in s))))) 6 0) [] (lit< tt) c.1).0 in
        subst (λ (m : Move). m.answer.length ≤ length o) (move_done f s o (move_clear f s o e).0 c.0 room) room
    go (suc n) e =
        let q = moves-whole f s o (λ z. omega arith) in
        let none : (move_of f s o).answer.length ≡ 0 = ap (λ (m : Move). m.answer.length) q in
        omega arith
