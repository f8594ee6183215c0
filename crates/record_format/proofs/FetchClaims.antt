-- What a fetch does, proved of the definitions.
use mathlib.Core.Bool.{Bool, true, false, cond, false≢true}
use mathlib.Core.List.{List, [], ◌∷◌, ◌++◌, append-nil}
use mathlib.Core.Logic.{◌⊎◌}
use mathlib.Core.Option.{Option, none}
use mathlib.Core.Path.{◌≡◌, refl, sym, ap, ap₂, subst, ◌∙◌}
use Prim.Native.Nat.{ℕ, ◌^◌, ◌≤◌, ◌<◌}
use native.Mathlib.Omega.{arith}
use borrow.Author.Tests.{eqb-true, ltb-true, le-ltb}
use lib.Dec.{eqb, ltb, lit<}
use lib.ListN.{length, drop}
use Rattle.lists.specs.Among.{Among}
use Rattle.lists.specs.Optional.{missing}
use Rattle.limits.specs.Points.{max_points}
use Rattle.limits.specs.Rates.{is_rate}
use Rattle.refusals.specs.declared.Refusal.{Refusal}
use Rattle.refusals.specs.Tests.{Test, test, refusal, first_of, refused}
use Rattle.refusals.proofs.Tests.{first_of_skip, first_of_end, first_of-append-none, first_of_never, first_of_among}
use Rattle.position_format.specs.declared.Form.TheVariants.{Old, Wide}
use Rattle.position_format.specs.Tables.{points_of}
use Rattle.ratio_format.specs.Bodies.{strict_ratios}
use Rattle.ratio_format.proofs.Bodies.Strict.{strict_coded}
use Rattle.record_format.specs.Fields.{tag_at, field_tests}
use Rattle.record_format.specs.Runs.{Run, positions_tags, count_size, record_of}
use Rattle.record_format.specs.Reading.{positions_at, rate_in, side_in, count_in, form_in, positions_in, other_rate, front_tests, positions_tests, ratios_tests, record_tests}
use Rattle.record_format.specs.Checking.{run_by, run_in, refused_check, sound_check, found, checked}
use Rattle.record_format.specs.Fetching.{lacks_room, read_tests, as_read, refusal_answer, record_answer, read_with, Fetched, as_fetched, fetched}
use Rattle.record_format.specs.Claims.{Accepted, Bytes, Beginning, count_place}
use Rattle.record_format.specs.CheckClaims.{Expects}
use Rattle.record_format.specs.PointClaims.{front_bytes}
use Rattle.record_format.specs.FetchClaims.{FetchesRecord, FetchesExactly, FetchesOnly, FetchesWhole, Short, RoomFirst, AgreesWithCheck, RoomEnough, PairGives, BesideSixteen}
use Rattle.record_format.specs.OpenReading.{refused_by}
use Rattle.record_format.proofs.Reading.{positions_few, front-numbered, other_rate_not, other_rate_none}
use Rattle.record_format.proofs.Reading.Fronts.{count_at_lem, count_is, front_pass, input, front_all}
use Rattle.record_format.proofs.Reading.Sides.{side_follows}
use Rattle.record_format.proofs.Reading.Sound.{front_clear, rate_expected}
use Rattle.record_format.proofs.Checking.{found_number, found-sound, found_clear, found-whole}
use Rattle.record_format.proofs.Fetching.{room_enough, room_lacks, lacks_room_lem, with_room, without_room, sixteen_only, not_sixteen, answer_number, answer_refused, read_refused, refused-reading}
use Rattle.record_format.proofs.CheckClaims.{expected, checks_only}
use Rattle.record_format.proofs.Claims.Returned.{read_other, read_short, read_own}
use Rattle.record_format.proofs.Claims.Admitted.{front_splits, clear_begins}
use Rattle.record_format.proofs.Writing.{accepted_fits, fitting_accepted}

-- ---- every reading into outputs

module _ (k : ℕ → List ℕ → Option (List ℕ)) (e : ℕ) (s ts vs : List ℕ) where
  abbrev tests : List Test
  tests = read_tests k e s (length ts) (length vs)

  pub read_number : (read_with k e s ts vs).answer.number ≡ (first_of tests).number
  unfolding read_with
  read_number = answer_number tests (record_answer k s ts vs) ts vs refl

  -- what is refused leaves zeros
  pub read_whole : let a = read_with k e s ts vs in (a.answer.number ≡ 0 → ⊥) → a ≡ refused_by a.answer.number a.answer.place ts vs
  unfolding read_with
  read_whole d = rw (refused-reading tests (record_answer k s ts vs) ts vs d refl)

  -- all but 16 is as it is found without outputs
  pub as_found : ((read_with k e s ts vs).answer.number ≡ 16 → ⊥)
      → let a = found k e s in
      let r = run_by k s in
      ((a.number ≡ 0 → ⊥) → read_with k e s ts vs ≡ refused_by a.number a.place ts vs)
      × (a.number ≡ 0
      → read_with k e s ts vs
      ≡ record { answer = as_read a; positions = r.positions ++ drop (length r.positions) ts; ratios = r.ratios ++ drop (length r.ratios) vs })
  unfolding read_with
  as_found d =
      let q = not_sixteen k e s (length ts) (length vs) (λ z. d (read_number ∙ z)) in (
        λ n.
            rw (found-whole k e s n)
            (answer_refused (record_answer k s ts vs) ts vs tests (first_of (record_tests k e s)) (sym q) (λ z. n (found_number k e s ∙ z))),
        λ z.
            let c = found_clear k e s z in
            rw (found-sound k e s c) (rw q (rw c)),
      )

  -- with room 16 is not given
  pub never_short : count_in s ≤ length ts → count_in s ≤ length vs → (read_with k e s ts vs).answer.number ≡ 16 → ⊥
  never_short m n z =
      let h = sixteen_only k e s (length ts) (length vs) (sym read_number ∙ z) in
      false≢true (sym (ap₂ (λ (a b : Bool). cond a true b) (le-ltb _ _ m) (le-ltb _ _ n)) ∙ h.1)

  -- it is given where the front is sound and an output lacks room
  pub short_only : Bytes s → (read_with k e s ts vs).answer.number ≡ 16 → Short e s ts vs
  short_only bytes z =
      let h = sixteen_only k e s (length ts) (length vs) (sym read_number ∙ z) in
      let f = (front_clear e s [] (ap (λ (l : List Test). (first_of l).number) (append-nil (front_tests e s)) ∙ h.0)).0 in (
        rate_in s,
        side_in s,
        count_in s,
        drop (positions_at s) s,
        front_splits s bytes f,
        f.listed,
        other_rate_none e (rate_in s) (rate_expected e s [] (ap (λ (l : List Test). (first_of l).number) (append-nil (front_tests e s)) ∙ h.0)),
        (side_follows s bytes f.side).sided,
        f.few,
        room_lacks (length ts) (length vs) (count_in s) h.1,
      )

-- and is given there, whatever follows
pub short_refused : (k : ℕ → List ℕ → Option (List ℕ)) (e r d n : ℕ) (rest ts vs : List ℕ) → is_rate r ≡ true → Expects e r → d ≤ 26 → n ≤ 4096
    → (length ts < n) ⊎ (length vs < n) → read_with k e (front_bytes r d n ++ rest) ts vs ≡ refused_by 16 (count_place d) ts vs
short_refused k e r d n rest ts vs listed o sided few h =
    let counts : n < 256 ^ count_size = omega arith in
    let s = input r d n rest listed sided counts in
    let all = front_all r d n rest listed sided counts in
    let clear : first_of (front_tests e s) ≡ first_of [] =
    ap first_of (sym (append-nil (front_tests e s))) ∙ front_pass s r d n listed sided counts all e [] ∙ first_of_skip _ _ (other_rate_not e r o) ∙ first_of_skip _ _ (le-ltb _ _ few) in
    read_refused k e s ts vs 16 (count_place d) (λ z. omega arith)
    (without_room k e s (length ts) (length vs) (ap (λ (f : Refusal). f.number) (clear ∙ first_of_end))
    (ap (lacks_room (length ts) (length vs)) (count_is s r d n listed sided counts all) ∙ lacks_room_lem (length ts) (length vs) n h)
    ∙ ap (refusal 16) (count_at_lem s r d n listed sided counts all))

-- ---- fetch

pub fetches_record : FetchesRecord
fetches_record r a e rest ts vs =
    let fit = accepted_fits r a.passes in
    let read = strict_coded r.ratios a.words in (
      λ d. ap as_fetched (read_other r fit rest strict_ratios read e ts vs d),
      λ o h. ap as_fetched (read_short r fit rest strict_ratios read e ts vs o h),
      λ o m n. ap as_fetched (read_own r fit rest strict_ratios read e ts vs o m n),
    )

-- a record, with the rate expected and room
module _ (e : ℕ) (r : Run) (a : Accepted r) (rest ts vs : List ℕ) (h : (fetched e (record_of r ++ rest) ts vs).answer.number ≡ 0) where
  abbrev n : ℕ
  n = length r.positions

  its_rate : (b : Bool) → other_rate e r.rate ≡ b → Expects e r.rate
  its_rate true q =
      let d : (Expects e r.rate → ⊥) = λ z. false≢true (sym (other_rate_not e r.rate z) ∙ q) in
      absurd (let z = ap (λ (x : Fetched). x.answer.number) ((fetches_record r a e rest ts vs).0 d) in omega (arith, z, h))
  its_rate false q = other_rate_none e r.rate q

  pub own_rate : Expects e r.rate
  own_rate = its_rate (other_rate e r.rate) refl

  its_room : (b : Bool) → lacks_room (length ts) (length vs) n ≡ b → (n ≤ length ts) × (n ≤ length vs)
  its_room true q =
      absurd (let z = ap (λ (x : Fetched). x.answer.number) ((fetches_record r a e rest ts vs).1 own_rate (room_lacks (length ts) (length vs) n q)) in omega (arith, z, h))
  its_room false q = room_enough (length ts) (length vs) n q

  pub own_room : (n ≤ length ts) × (n ≤ length vs)
  own_room = its_room (lacks_room (length ts) (length vs) n) refl

-- a run whose record the bytes begin with
admitted : (e : ℕ) (s ts vs : List ℕ) → Bytes s → (fetched e s ts vs).answer.number ≡ 0 → (r : Run) × Accepted r × Beginning (record_of r) s
admitted e s ts vs bytes h =
    let z = sym (read_number strict_ratios e s ts vs) ∙ h in
    let q = not_sixteen strict_ratios e s (length ts) (length vs) (λ x. omega arith) in
    let b = clear_begins e s bytes (sym (ap (λ (f : Refusal). f.number) q) ∙ z) in
    (b.own, record { words = b.ratios; passes = fitting_accepted b.own b.fits }, (b.rest, b.splits))

pub fetches_only : FetchesOnly
fetches_only e s ts vs bytes h =
    let b = admitted e s ts vs bytes h in
    let here = ap (λ (l : List ℕ). (fetched e l ts vs).answer.number) (sym b.2.1) ∙ h in
    let o = own_rate e b.0 b.1 b.2.0 ts vs here in
    let m = own_room e b.0 b.1 b.2.0 ts vs here in
    (b.0, b.1, b.2, ap (λ (l : List ℕ). fetched e l ts vs) b.2.1 ∙ (fetches_record b.0 b.1 e b.2.0 ts vs).2 o m.0 m.1)

pub fetches_exactly : FetchesExactly
fetches_exactly e s ts vs bytes = (
  λ h.
      let b = admitted e s ts vs bytes h in
      let here = ap (λ (l : List ℕ). (fetched e l ts vs).answer.number) (sym b.2.1) ∙ h in
      let m = own_room e b.0 b.1 b.2.0 ts vs here in
      (b.0, b.1, b.2, own_rate e b.0 b.1 b.2.0 ts vs here, m.0, m.1),
  λ b.
      ap (λ (x : Fetched). x.answer.number)
      (ap (λ (l : List ℕ). fetched e l ts vs) b.2.1 ∙ (fetches_record b.0 b.1 e b.2.0 ts vs).2 b.3 b.4 b.5),
)

pub fetches_whole : FetchesWhole
fetches_whole e s ts vs d = ap as_fetched (read_whole strict_ratios e s ts vs d)

pub room-first : RoomFirst
room-first = (
  λ e r d n rest ts vs listed o sided few h. ap as_fetched (short_refused strict_ratios e r d n rest ts vs listed o sided few h),
  λ e s ts vs bytes z. short_only strict_ratios e s ts vs bytes z,
)

pub agrees_with_check : AgreesWithCheck
agrees_with_check e s ts vs d =
    let h = as_found strict_ratios e s ts vs d in
    (λ n. ap as_fetched (h.0 n), λ z. ap as_fetched (h.1 z) ∙ ap₂ (λ (n p : ℕ). numbered n p) (z) (sound_place z))
  where
    numbered : ℕ → ℕ → Fetched
    numbered n p = record { answer = record { number = n; place = p; count = (checked e s).count }; positions = (run_in s).positions ++ drop (length (run_in s).positions) ts; ratios = (run_in s).ratios ++ drop (length (run_in s).ratios) vs }

    sound_place : (checked e s).number ≡ 0 → (checked e s).place ≡ 0
    sound_place z = rw (found-sound strict_ratios e s (found_clear strict_ratios e s z))

-- a sound front has no more than 4,096 points
few_points : (e : ℕ) (s : List ℕ) → (first_of (front_tests e s)).number ≡ 0 → count_in s ≤ max_points
few_points e s clear = (front_clear e s [] (ap (λ (l : List Test). (first_of l).number) (append-nil (front_tests e s)) ∙ clear)).0.few

pub room_enough_for_all : RoomEnough
unfolding read_with found
room_enough_for_all e s ts vs m n =
    let q = with_room strict_ratios e s (length ts) (length vs)
    (λ clear. let few = few_points e s clear in ap₂ (λ (a b : Bool). cond a true b) (le-ltb (length ts) (count_in s) (omega arith)) (le-ltb (length vs) (count_in s) (omega arith))) in
    rw q (go (refused (first_of (record_tests strict_ratios e s))))
  where
    go : (b : Bool)
        → (as_fetched (cond b (refusal_answer (first_of (record_tests strict_ratios e s)) ts vs) (record_answer strict_ratios s ts vs))).answer
        ≡ (let a = cond b (refused_check (first_of (record_tests strict_ratios e s))) (sound_check s) in record { number = a.number; place = a.place; count = a.count })
    go true = refl
    go false = refl

pub pair_gives : PairGives
pair_gives e s bytes h =
    let b = checks_only e s bytes h in
    let o = expected e b.0 b.1 b.2.0 (ap (λ (l : List ℕ). (checked e l).number) (sym b.2.1) ∙ h) in (
      b.0,
      b.1,
      b.2,
      b.3,
      λ ts vs m n. ap (λ (l : List ℕ). fetched e l ts vs) b.2.1 ∙ (fetches_record b.0 b.1 e b.2.0 ts vs).2 o m n,
    )

-- beside 16 the front is sound, so that the tests past it decide
pub beside_sixteen : BesideSixteen
beside_sixteen e s ts vs z =
    let h = sixteen_only strict_ratios e s (length ts) (length vs) (sym (read_number strict_ratios e s ts vs) ∙ z) in
    let later = positions_tests s ++ ratios_tests strict_ratios s in
    let q : first_of (record_tests strict_ratios e s) ≡ first_of later = first_of-append-none (front_tests e s) later (front-numbered e s) h.0 in
    let n : (checked e s).number ≡ (first_of later).number = found_number strict_ratios e s ∙ ap (λ (f : Refusal). f.number) q in
    (subst (λ (x : ℕ). Among x (0 ∷ 10 ∷ 11 ∷ 15 ∷ 17 ∷ 18 ∷ [])) (sym n) (first_of_among (10 ∷ 11 ∷ 15 ∷ 17 ∷ 18 ∷ []) later refl), λ f. only_wide h.0 (sym n ∙ f))
  where
    only_wide : (first_of (front_tests e s)).number ≡ 0 → (first_of (positions_tests s ++ ratios_tests strict_ratios s)).number ≡ 15 → (tag_at s (positions_at s) ≡ 5) × (3500 < count_in s)
    only_wide clear f = go (ltb (points_of (form_in s)) (count_in s)) refl
      where
        wide : (b : Bool) → eqb (tag_at s (positions_at s)) 5 ≡ b → points_of (cond b Wide Old) < count_in s → (tag_at s (positions_at s) ≡ 5) × (3500 < count_in s)
        wide true q many = (eqb-true _ _ q, many)
        wide false q many = absurd (let few = few_points e s clear in omega arith)

        go : (b : Bool) → ltb (points_of (form_in s)) (count_in s) ≡ b → (tag_at s (positions_at s) ≡ 5) × (3500 < count_in s)
        go true q = wide (eqb (tag_at s (positions_at s)) 5) refl (ltb-true _ _ q)
        go false q =
            absurd
            (first_of_never 15 (lit< tt) (field_tests s positions_tags none (positions_at s) ++ (test (missing (positions_in s)) 17 (positions_at s) ∷ ratios_tests strict_ratios s)) refl
            (sym (ap (λ (g : Refusal). g.number) (positions_few s (ratios_tests strict_ratios s) q)) ∙ f))
