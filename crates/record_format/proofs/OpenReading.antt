-- What open reading does, proved of the definitions.
use mathlib.Core.Bool.{Bool, true, false, false≢true}
use mathlib.Core.List.{List, [], ◌∷◌, ◌++◌, append_assoc}
use mathlib.Core.Logic.{◌↔◌}
use mathlib.Core.Option.{Option, none, some}
use mathlib.Core.Path.{◌≡◌, refl, sym, ap, ap₂, subst, ◌∙◌}
use Prim.Native.Nat.{ℕ, ◌≤◌}
use native.Mathlib.Omega.{arith}
use borrow.Author.Tests.{eqb-true, eqb-false}
use lib.Dec.{eqb, lit≤}
use lib.ListN.{length}
use Rattle.lists.specs.Below.{Below}
use Rattle.lists.specs.Optional.{missing}
use Rattle.refusals.specs.Tests.{Test, test, refusal, first_of}
use Rattle.refusals.proofs.Tests.{numbered, numbered-append, first_of_here, first_of_skip, first_of-append-none, first_of-append-some}
use Rattle.outputs.specs.Outputs.{over}
use Rattle.ratio_format.specs.Windows.{window_size}
use Rattle.ratio_format.specs.OpenRule.{ReadAs}
use Rattle.ratio_format.specs.Bodies.{open_ratios, strict_ratios}
use Rattle.ratio_format.proofs.Bodies.ReadFrom.{open_coded}
use Rattle.ratio_format.proofs.Bodies.Strict.{strict_coded, strict_reads}
use Rattle.ratio_format.proofs.OpenRule.{open_bodies}
use Rattle.record_format.specs.Fields.{field_of, field_bytes, body_at, field_tests}
use Rattle.record_format.specs.declared.CheckAnswer.{CheckAnswer}
use Rattle.record_format.specs.Runs.{Run, ratios_tag}
use Rattle.record_format.specs.Reading.{count_in, ratios_at, ratios_in, front_tests, positions_tests}
use Rattle.record_format.specs.Checking.{checked}
use Rattle.record_format.specs.Fetching.{room_tests, read_tests, as_read, Answer, refusal_answer, record_answer, read_with, read_open, as_fetched, fetched}
use Rattle.record_format.specs.Claims.{Bytes}
use Rattle.record_format.specs.CheckClaims.{run_check}
use Rattle.record_format.specs.OpenReading.{refused_by, run_answer, OpensRecord, OpensWhole, OpenRoomFirst, OpenAsFound, ReadsOpenly, DiffersInRatios}
use Rattle.record_format.proofs.Reading.{front-numbered}
use Rattle.record_format.proofs.Fetching.{answer_refused, answer_good, read_refused}
use Rattle.record_format.proofs.Claims.Returned.{read_other, read_short, read_own}
use Rattle.record_format.proofs.CheckClaims.{checks_record}
use Rattle.record_format.proofs.FetchClaims.{read_whole, as_found, never_short, short_only, short_refused, own_rate, own_room, fetches_only}
use Rattle.record_format.proofs.PointClaims.{points_counted, ratios_by_reading, none_read}
use Rattle.record_format.proofs.Writing.{accepted_fits}

-- ---- records, refusals and the room

pub opens_record : OpensRecord
unfolding Below
opens_record r a e rest ts vs =
    let fit = accepted_fits r a.passes in
    let read = open_coded window_size (lit≤ tt) [] r.ratios (lit≤ tt) tt a.words in
    (read_other r fit rest open_ratios read e ts vs, read_short r fit rest open_ratios read e ts vs, read_own r fit rest open_ratios read e ts vs)

pub opens_whole : OpensWhole
opens_whole e s ts vs d = read_whole open_ratios e s ts vs d

pub open_room-first : OpenRoomFirst
open_room-first = (short_refused open_ratios, short_only open_ratios)

pub open_as_found : OpenAsFound
open_as_found e s ts vs d = as_found open_ratios e s ts vs d

-- ---- by the open rule

pub reads-openly : ReadsOpenly
reads-openly e r d f ps body rest ts vs listed o sided points valid first second bytes small =
    let n = length ps in
    let x = field_bytes (field_of ratios_tag body) ++ rest in
    let c = points_counted r d f ps x listed sided points valid in
    let roomy = never_short open_ratios e _ ts vs (subst (λ (m : ℕ). m ≤ length ts) (sym c) first) (subst (λ (m : ℕ). m ≤ length vs) (sym c) second) in
    let like = as_found open_ratios e _ ts vs roomy in
    let by = (ratios_by_reading open_ratios e r d f ps rest listed o sided points valid).3 body small in
    let rule : (qs : List ℕ) → (open_ratios n body ≡ some qs) ↔ ((length qs ≡ n) × ReadAs [] qs body) = λ qs. open_bodies n body qs bytes in (
      λ qs many read.
          let h = by.1 qs ((rule qs).1 (many, read)) in
          rw many at
          (like.1 (ap (λ (a : CheckAnswer). a.number) h.0)
          ∙ ap₂ (λ (a : CheckAnswer) (q : Run). record { answer = as_read a; positions = over q.positions ts; ratios = over q.ratios vs }) h.0 h.1),
      λ never.
          let h = by.0 (none_read (open_ratios n body) (λ qs e. let x = (rule qs).0 e in never qs x.0 x.1)) in
          like.0 (λ z. let y = sym (ap (λ (a : CheckAnswer). a.number) h) ∙ z in omega arith) ∙ ap (λ (a : CheckAnswer). refused_by a.number a.place ts vs) h,
    )

-- ---- beside a fetch

module _ (e : ℕ) (s ts vs : List ℕ) where
  -- the tests of the fields before the ratios' and of that field's head: the rule that reads the ratios has no part in them
  abbrev later : List Test
  later = room_tests s (length ts) (length vs) ++ (positions_tests s ++ field_tests s (ratios_tag ∷ []) none (ratios_at s))

  before : List Test
  before = front_tests e s ++ later

  before-numbered : numbered before ≡ true
  unfolding before
  before-numbered = numbered-append (front_tests e s) later (front-numbered e s) refl

  module _ (k : ℕ → List ℕ → Option (List ℕ)) where
    -- and the one in which it has
    abbrev last : List Test
    last = test (missing (ratios_in k s)) 18 (ratios_at s) ∷ []

    abbrev tests : List Test
    tests = read_tests k e s (length ts) (length vs)

    split : tests ≡ before ++ last
    unfolding before
    split = sym (append_assoc (front_tests e s) later last)

    -- one of the tests before it applies
    refused-before : ((first_of before).number ≡ 0 → ⊥) → read_with k e s ts vs ≡ refusal_answer (first_of before) ts vs
    unfolding read_with
    refused-before d = answer_refused (record_answer k s ts vs) ts vs tests (first_of before) (sym (ap first_of split ∙ first_of-append-some before last d)) d

    -- none does
    module _ (z : (first_of before).number ≡ 0) where
      past : first_of tests ≡ first_of last
      past = ap first_of split ∙ first_of-append-none before last before-numbered z

      unread : missing (ratios_in k s) ≡ true → read_with k e s ts vs ≡ refusal_answer (refusal 18 (ratios_at s)) ts vs
      unread m = read_refused k e s ts vs 18 (ratios_at s) (λ q. omega arith) (past ∙ first_of_here _ _ m)

      taken : missing (ratios_in k s) ≡ false → read_with k e s ts vs ≡ record_answer k s ts vs
      unfolding read_with
      taken m = answer_good (record_answer k s ts vs) ts vs tests (past ∙ first_of_skip _ _ m)

  -- what is read strictly is read openly
  strict_missing : missing (ratios_in open_ratios s) ≡ true → missing (ratios_in strict_ratios s) ≡ true
  strict_missing m = go (ratios_in strict_ratios s) refl
    where
      go : (o : Option (List ℕ)) → ratios_in strict_ratios s ≡ o → missing (ratios_in strict_ratios s) ≡ true
      go none q = ap missing q
      go (some l) q =
          let r = (strict_reads (count_in s) (body_at s (ratios_at s)) l q).0 in
          absurd (false≢true (sym (ap missing r) ∙ m))

  -- what a fetch accepts open reading answers alike, and returns what a check does
  open_agrees : Bytes s → (fetched e s ts vs).answer.number ≡ 0 → (read_open e s ts vs ≡ read_with strict_ratios e s ts vs) × ((read_open e s ts vs).answer ≡ as_read (checked e s))
  open_agrees bytes h =
      let b = fetches_only e s ts vs bytes h in
      let r : Run = b.0 in
      let here = ap (λ (l : List ℕ). (fetched e l ts vs).answer.number) (sym b.2.1) ∙ h in
      let o = own_rate e r b.1 b.2.0 ts vs here in
      let m = own_room e r b.1 b.2.0 ts vs here in
      let q : read_open e s ts vs ≡ run_answer r ts vs =
      ap (λ (l : List ℕ). read_open e l ts vs) b.2.1 ∙ (opens_record r b.1 e b.2.0 ts vs).2 o m.0 m.1 in
      let p : read_with strict_ratios e s ts vs ≡ run_answer r ts vs =
      ap (λ (l : List ℕ). read_with strict_ratios e l ts vs) b.2.1
      ∙ read_own r (accepted_fits r b.1.passes) b.2.0 strict_ratios (strict_coded r.ratios b.1.words) e ts vs o m.0 m.1 in
      let c : checked e s ≡ run_check r = ap (checked e) b.2.1 ∙ (checks_record r b.1 e b.2.0).1 o in
      (q ∙ sym p, ap (λ (a : Answer). a.answer) q ∙ ap as_read (sym c))

  abbrev Alike : Type 0
  Alike =
      (((read_open e s ts vs).answer.number ≡ 0 → ⊥) → fetched e s ts vs ≡ as_fetched (read_open e s ts vs))
      × (((fetched e s ts vs).answer.number ≡ 18 → ⊥) → as_fetched (read_open e s ts vs) ≡ fetched e s ts vs)

  alike : Bytes s → (b : Bool) → eqb (first_of before).number 0 ≡ b → (o : Bool) → missing (ratios_in open_ratios s) ≡ o → (c : Bool) → missing (ratios_in strict_ratios s) ≡ c → Alike
  alike bytes false b o eo c ec =
      let d = eqb-false (first_of before).number 0 b in
      let same = ap as_fetched (refused-before strict_ratios d ∙ sym (refused-before open_ratios d)) in
      (λ _. same, λ _. sym same)
  alike bytes true b true o c ec =
      let z = eqb-true (first_of before).number 0 b in
      let same = ap as_fetched (unread strict_ratios z (strict_missing o) ∙ sym (unread open_ratios z o)) in
      (λ _. same, λ _. sym same)
  alike bytes true b false o true c =
      let z = eqb-true (first_of before).number 0 b in (
        λ d. absurd (d (ap (λ (a : Answer). a.answer.number) (taken open_ratios z o))),
        λ d. absurd (d (ap (λ (a : Answer). a.answer.number) (unread strict_ratios z c))),
      )
  alike bytes true b false o false c =
      let z = eqb-true (first_of before).number 0 b in
      let same = ap as_fetched (open_agrees bytes (ap (λ (a : Answer). a.answer.number) (taken strict_ratios z c))).0 in
      (λ _. sym same, λ _. same)

pub differs_in_ratios : DiffersInRatios
differs_in_ratios e s ts vs bytes =
    let h = alike e s ts vs bytes (eqb (first_of (before e s ts vs)).number 0) refl (missing (ratios_in open_ratios s)) refl (missing (ratios_in strict_ratios s)) refl in
    (h.0, h.1, λ z. (open_agrees e s ts vs bytes z).1)
