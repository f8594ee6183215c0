-- Laws of a record as it is read: what is answered, by how the front, the room and the points turn out.
use mathlib.Core.Path.{◌≡◌, sym, ap, ◌∙◌, subst}
use mathlib.Core.Bool.{true, false}
use mathlib.Core.List.{List, ◌++◌}
use mathlib.Core.Option.{Option}
use Prim.Native.Nat.{ℕ, ◌≤◌}
use native.Mathlib.Omega.{arith}
use lib.ListN.{length}
use Rattle.std.specs.Prelude.{Result, Ok, Err}
use Rattle.std.specs.Result.{IsErrAnd}
use Rattle.refusals.specs.declared.Refusal.{Refusal}
use Rattle.refusals.specs.Tests.{Test, refusal, first_of, no_refusal}
use Rattle.refusals.proofs.Tests.{first_of_skip, first_of_end}
use Rattle.record_format.specs.declared.Description.{Description}
use Rattle.record_format.specs.Answers.{check_answer}
use Rattle.record_format.specs.Reading.{front_tests, positions_tests, ratios_tests, record_tests}
use Rattle.record_format.specs.Checking.{found}
use Rattle.record_format.specs.Fetching.{lacks_room, read_tests, as_read, Answer, record_answer, read_with}
use Rattle.record_format.proofs.Reading.{front-numbered}
use Rattle.record_format.proofs.Checking.{found-refusal, found-sound}
use Rattle.record_format.proofs.Fetching.{room_enough, without_room, answer_refused, answer_good}
use Rattle.record_parts.specs.declared.front.Front.{Front}
use Rattle.record_parts.specs.Fields.{RefusedBy, Judged, FrontRead}
use Rattle.record_parts.proofs.Fields.{refused_at, judged_as, past_clear}
use Rattle.record_codec.specs.Answers.{RecordFound, Answered, Reads}

-- ---- a check

module _ (k : ℕ → List ℕ → Option (List ℕ)) (e : ℕ) (s ts vs ps qs : List ℕ) where
  pub check_of : (r : Result Description Refusal) → Judged (record_tests k e s) (RecordFound k s ts vs ps qs) r → check_answer r ≡ found k e s
  check_of (Ok d) h = h.1.same ∙ sym (found-sound k e s (ap (λ (g : Refusal). g.number) h.0))
  check_of (Err g) h = sym (found-refusal k e s g h.first h.numbered)

  -- past a sound front
  pub check_past : (r : Result Description Refusal) → first_of (front_tests e s) ≡ no_refusal
      → Judged (positions_tests s ++ ratios_tests k s) (RecordFound k s ts vs ps qs) r → check_answer r ≡ found k e s
  check_past r clear h =
      check_of r (judged_as (record_tests k e s) (positions_tests s ++ ratios_tests k s) (RecordFound k s ts vs ps qs) r (past_clear (front_tests e s) (positions_tests s ++ ratios_tests k s) (front-numbered e s) clear) h)

-- ---- into outputs

module _ (k : ℕ → List ℕ → Option (List ℕ)) (e : ℕ) (s ts vs : List ℕ) where
  abbrev tests : List Test
  tests = read_tests k e s (length ts) (length vs)

  -- the whole answer of a refusal
  pub reads-refused : {g : Refusal} → RefusedBy tests g → Reads (read_with k e s ts vs) ts vs (Err g) ts vs
  unfolding read_with
  reads-refused {g} h = (sym (answer_refused (record_answer k s ts vs) ts vs tests g h.first h.numbered), h.numbered)

  pub reads_err : (r : Result Description Refusal) {g : Refusal} → IsErrAnd r (λ y. y ≡ g) → RefusedBy tests g → Reads (read_with k e s ts vs) ts vs r ts vs
  reads_err (Ok d) h i = absurd h
  reads_err (Err y) h i = reads-refused (subst (RefusedBy tests) (sym h) i)

  pub reads_found : (d : Description) (ps qs : List ℕ) → first_of tests ≡ no_refusal → Answered (record_answer k s ts vs) (check_answer (Ok d)) ps qs
      → Reads (read_with k e s ts vs) ts vs (Ok d) ps qs
  unfolding read_with
  reads_found d ps qs clear h =
      subst (λ (a : Answer). Answered a (check_answer (Ok d)) ps qs) (sym (answer_good (record_answer k s ts vs) ts vs tests (clear ∙ sym first_of_end))) h

  -- past a sound front
  module _ (f : Front) (h : FrontRead e s (Ok f)) where
    -- no room
    pub read_lacks : {g : Refusal} → g ≡ refusal 16 f.place → lacks_room (length ts) (length vs) f.count ≡ true → RefusedBy tests g
    read_lacks q l =
        refused_at 16 f.place q (λ z. omega arith)
        (ap (refusal 16) h.1.count.stands
        ∙ sym (without_room k e s (length ts) (length vs) (ap (λ (g : Refusal). g.number) h.0) (ap (lacks_room (length ts) (length vs)) (sym h.1.count.counted) ∙ l)))

    module _ (room : lacks_room (length ts) (length vs) f.count ≡ false) where
      pub room-both : (f.count ≤ length ts) × (f.count ≤ length vs)
      room-both = room_enough (length ts) (length vs) f.count room

      past_room : first_of tests ≡ first_of (positions_tests s ++ ratios_tests k s)
      past_room =
          past_clear (front_tests e s) _ (front-numbered e s) h.0
          ∙ first_of_skip _ _ (ap (lacks_room (length ts) (length vs)) (sym h.1.count.counted) ∙ room)

      pub reads_past : (r : Result Description Refusal) (ps qs : List ℕ) → Judged (positions_tests s ++ ratios_tests k s) (RecordFound k s ts vs ps qs) r
          → Reads (read_with k e s ts vs) ts vs r ps qs
      reads_past (Ok d) ps qs i =
          let b = h.1.count.counted in
          reads_found d ps qs (past_room ∙ i.0)
          (ap as_read i.1.same, i.1.positions (omega (arith, b, room-both.0)), i.1.ratios (omega (arith, b, room-both.1)))
      reads_past (Err g) ps qs i = reads-refused (record { first = i.first ∙ sym past_room; numbered = i.numbered })
