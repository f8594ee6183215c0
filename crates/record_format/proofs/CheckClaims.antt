-- What a check does, proved of the definitions.
pub mod Numbers
use mathlib.Core.Bool.{Bool, true, false, false≢true}
use mathlib.Core.List.{List, [], ◌∷◌, ◌++◌}
use mathlib.Core.Option.{Option}
use mathlib.Core.Path.{◌≡◌, refl, sym, ap, subst, ◌∙◌}
use Prim.Native.Nat.{ℕ}
use native.Mathlib.Omega.{arith}
use lib.Dec.{lit<}
use lib.ListN.{length}
use Rattle.lists.specs.Among.{Among}
use Rattle.lists.specs.Optional.{list_of}
use Rattle.refusals.specs.Tests.{first_of}
use Rattle.refusals.proofs.Tests.{never, first_of_never, first_of_among}
use Rattle.position_format.specs.Tables.{table_of}
use Rattle.position_format.proofs.Positions.{read_only}
use Rattle.ratio_format.specs.Bodies.{strict_ratios}
use Rattle.ratio_format.proofs.Bodies.Strict.{strict_coded, strict_only_body}
use Rattle.record_format.specs.declared.CheckAnswer.{CheckAnswer}
use Rattle.record_format.specs.Fields.{body_at}
use Rattle.record_format.specs.Runs.{Run, record_of}
use Rattle.record_format.specs.Reading.{positions_at, ratios_at, count_in, form_in, has_side, other_rate, rate_tests, count_tests, positions_tests, ratios_tests, record_tests}
use Rattle.record_format.specs.Checking.{run_in, checked}
use Rattle.record_format.specs.Claims.{Accepted, Bytes, Beginning}
use Rattle.record_format.specs.CheckClaims.{Expects, ChecksRecord, ChecksExactly, ChecksOnly, RunCounted, ChecksWhole, CheckRefusals}
use Rattle.record_format.proofs.Reading.{side_of, other_rate_not, other_rate_none}
use Rattle.record_format.proofs.Reading.Sound.{record_clear}
use Rattle.record_format.proofs.Checking.{found_number, found-sound, found_clear, found-whole}
use Rattle.record_format.proofs.Claims.Returned.{run_is, found_other, found_own}
use Rattle.record_format.proofs.Claims.Admitted.{clear_begins}
use Rattle.record_format.proofs.Writing.{accepted_fits, fitting_accepted}

pub checks_record : ChecksRecord
checks_record r a e rest =
    let fit = accepted_fits r a.passes in
    let read = strict_coded r.ratios a.words in
    (found_other r fit rest strict_ratios read e, found_own r fit rest strict_ratios read e, run_is r fit rest strict_ratios read)

-- ---- what is accepted

-- a run whose record the bytes begin with
admitted : (e : ℕ) (s : List ℕ) → Bytes s → (checked e s).number ≡ 0 → (r : Run) × Accepted r × Beginning (record_of r) s
admitted e s bytes h =
    let b = clear_begins e s bytes (found_clear strict_ratios e s h) in
    (b.own, record { words = b.ratios; passes = fitting_accepted b.own b.fits }, (b.rest, b.splits))

-- its rate is the expected one, or none is
pub expected : (e : ℕ) (r : Run) → Accepted r → (rest : List ℕ) → (checked e (record_of r ++ rest)).number ≡ 0 → Expects e r.rate
expected e r a rest h = go (other_rate e r.rate) refl
  where
    go : (b : Bool) → other_rate e r.rate ≡ b → Expects e r.rate
    go true q =
        let d : (Expects e r.rate → ⊥) = λ z. false≢true (sym (other_rate_not e r.rate z) ∙ q) in
        absurd (let n = ap (λ (x : CheckAnswer). x.number) ((checks_record r a e rest).0 d) in omega (arith, n, h))
    go false q = other_rate_none e r.rate q

pub checks_only : ChecksOnly
checks_only e s bytes h =
    let b = admitted e s bytes h in
    let r : Run = b.0 in
    let o = expected e r b.1 b.2.0 (ap (λ (l : List ℕ). (checked e l).number) (sym b.2.1) ∙ h) in
    let c = checks_record r b.1 e b.2.0 in
    (r, b.1, b.2, ap (checked e) b.2.1 ∙ c.1 o, ap run_in b.2.1 ∙ c.2)

pub checks_exactly : ChecksExactly
checks_exactly e s bytes = (
  λ h.
      let b = admitted e s bytes h in
      (b.0, b.1, b.2, expected e b.0 b.1 b.2.0 (ap (λ (l : List ℕ). (checked e l).number) (sym b.2.1) ∙ h)),
  λ b. ap (λ (x : CheckAnswer). x.number) (ap (checked e) b.2.1 ∙ (checks_record b.0 b.1 e b.2.0).1 b.3),
)

pub run-counted : RunCounted
run-counted e s h =
    let clear = found_clear strict_ratios e s h in
    let r = record_clear strict_ratios e s clear in
    let p = read_only (table_of (form_in s)) (count_in s) (body_at s (positions_at s)) r.points.0 r.points.1 in
    let q = strict_only_body (count_in s) (body_at s (ratios_at s)) r.values.0 r.values.1 in (
      ap (λ (a : CheckAnswer). a.count) (found-sound strict_ratios e s clear),
      ap (λ (o : Option (List ℕ)). length (list_of o)) r.points.1 ∙ p.2,
      ap (λ (o : Option (List ℕ)). length (list_of o)) r.values.1 ∙ q.1,
    )

-- ---- what is refused

pub checks_whole : ChecksWhole
checks_whole e s d = rw (found-whole strict_ratios e s d)

-- where no rate is expected, that of another rate does not apply
never_fourteen : (s : List ℕ) → never 14 (record_tests strict_ratios 0 s) ≡ true
never_fourteen s = go (has_side s)
  where
    go : (b : Bool) → never 14 ((rate_tests 0 s ++ (side_of s b ++ count_tests s)) ++ (positions_tests s ++ ratios_tests strict_ratios s)) ≡ true
    go true = refl
    go false = refl

-- the numbers of the tests
abbrev allowed : List ℕ
allowed = 10 ∷ 11 ∷ 12 ∷ 13 ∷ 14 ∷ 15 ∷ 17 ∷ 18 ∷ 20 ∷ []

pub check_refusals : CheckRefusals
check_refusals e s = (
  subst (λ (n : ℕ). Among n (0 ∷ allowed)) (sym (found_number strict_ratios e s)) (go (has_side s)),
  λ z. first_of_never 14 (lit< tt) (record_tests strict_ratios 0 s) (never_fourteen s) (sym (found_number strict_ratios 0 s) ∙ z),
)
  where
    go : (b : Bool) → Among (first_of ((rate_tests e s ++ (side_of s b ++ count_tests s)) ++ (positions_tests s ++ ratios_tests strict_ratios s))).number (0 ∷ allowed)
    go true = first_of_among allowed _ refl
    go false = first_of_among allowed _ refl
