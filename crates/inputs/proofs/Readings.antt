-- Laws of what reading an input left: by the answer of a check and, where it accepts, the outputs of a fetch; and the run that stands there.
use mathlib.Core.Path.{◌≡◌, refl, sym, ap, ap₂, ◌∙◌, subst}
use mathlib.Core.List.{List}
use mathlib.Core.Logic.{inl}
use Prim.Native.Nat.{ℕ, ◌+◌, ◌≤◌}
use native.Mathlib.Omega.{arith}
use lib.ListN.{length, take, drop, length-append}
use lib.Seq.{take_at}
use Rattle.limits.specs.Points.{max_points}
use Rattle.record_format.specs.Claims.{Accepted, Beginning, Bytes}
use Rattle.record_format.specs.Checking.{run_in, checked}
use Rattle.record_format.specs.CheckClaims.{run_check}
use Rattle.record_format.specs.Fetching.{Fetched, fetched}
use Rattle.record_format.specs.FetchClaims.{run_fetch}
use Rattle.record_format.specs.Runs.{Run, record_of}
use Rattle.std.specs.Prelude.{Result, Ok, Err}
use Rattle.std.specs.Result.{IsErrAnd}
use Rattle.refusals.specs.declared.Refusal.{Refusal}
use Rattle.record_format.specs.Answers.{check_answer}
use Rattle.record_format.specs.declared.Description.{Description}
use Rattle.record_format.specs.declared.CheckAnswer.{CheckAnswer}
use Rattle.record_format.proofs.CheckClaims.{checks_only}
use Rattle.record_format.proofs.FetchClaims.{fetches_record}
use Rattle.record_format.proofs.Writing.{Fitting, accepted_fits, fitting_few}
use Rattle.inputs.specs.Inputs.{input_limit, run_input}
use Rattle.inputs.specs.Readings.{InputRead}
use Rattle.inputs.proofs.Inputs.{reads_whole}

-- by the answer of a check
module _ (s : List ℕ) {r : CheckAnswer} (bytes : Bytes s) (whole : length s ≤ input_limit) (answered : r ≡ checked 0 s) where
  -- a refusal, whatever the outputs hold
  pub reading-refused : {ts vs : List ℕ} → (r.number ≡ 0 → ⊥) → InputRead s r ts vs
  reading-refused d = record {
    bytes = bytes;
    whole = whole;
    answered = answered ∙ sym (reads_whole s whole).0;
    held = λ ok. absurd (d ok);
    positions = λ ok. absurd (d ok);
    ratios = λ ok. absurd (d ok);
  }

  -- the points of a run at the front of the outputs
  reading-run : (q : Run) → Fitting q → r ≡ run_check q → run_in s ≡ q → (ps qs : List ℕ) {ts vs : List ℕ}
      → ts ≡ (run_fetch q ps qs).positions → vs ≡ (run_fetch q ps qs).ratios → InputRead s r ts vs
  reading-run q fit e is ps qs {ts} {vs} left more =
      let n = length q.positions in
      let own = (reads_whole s whole).1 ∙ is in
      let few = fitting_few q fit in
      let count : r.count ≡ n = ap (λ (x : CheckAnswer). x.count) e in
      let long : length (run_fetch q ps qs).positions ≡ n + length (drop n ps) = length-append q.positions _ in
      let wide : length (run_fetch q ps qs).ratios ≡ length q.ratios + length (drop (length q.ratios) qs) = length-append q.ratios _ in
      let room : length ts ≡ length (run_fetch q ps qs).positions = ap length left in
      let space : length vs ≡ length (run_fetch q ps qs).ratios = ap length more in
      record {
        bytes = bytes;
        whole = whole;
        answered = answered ∙ sym (reads_whole s whole).0;
        held = λ _. record { few = omega arith; positions = omega arith; ratios = omega (arith, fit.paired) };
        positions = λ _. ap₂ take count left ∙ take_at q.positions _ n refl ∙ sym (ap (λ (x : Run). x.positions) own);
        ratios = λ _. ap₂ take count more ∙ take_at q.ratios _ n fit.paired ∙ sym (ap (λ (x : Run). x.ratios) own);
      }

  -- the run that a fetch leaves in outputs with room for every run
  fetched-own : (ps qs : List ℕ) → r.number ≡ 0 → max_points ≤ length ps → max_points ≤ length qs
      → (q : Run) × Fitting q × (r ≡ run_check q) × (run_in s ≡ q) × (fetched 0 s ps qs ≡ run_fetch q ps qs)
  fetched-own ps qs ok m n =
      let h = checks_only 0 s bytes (sym (ap (λ (x : CheckAnswer). x.number) answered) ∙ ok) in
      let fit = accepted_fits h.0 h.1.passes in
      let few = fitting_few h.0 fit in (
        h.0,
        fit,
        answered ∙ h.3,
        h.4,
        ap (λ (l : List ℕ). fetched 0 l ps qs) h.2.1 ∙ (fetches_record h.0 h.1 0 h.2.0 ps qs).2 (inl refl) (omega arith) (omega arith),
      )

  -- which is refused nothing
  pub fetched_clear : (ps qs : List ℕ) → r.number ≡ 0 → max_points ≤ length ps → max_points ≤ length qs → (fetched 0 s ps qs).answer.number ≡ 0
  fetched_clear ps qs ok m n = let f = fetched-own ps qs ok m n in ap (λ (x : Fetched). x.answer.number) f.4

  -- and stands there
  pub reading-fetched : (ps qs : List ℕ) {ts vs : List ℕ} → r.number ≡ 0 → max_points ≤ length ps → max_points ≤ length qs
      → ts ≡ (fetched 0 s ps qs).positions → vs ≡ (fetched 0 s ps qs).ratios → InputRead s r ts vs
  reading-fetched ps qs ok m n left more =
      let f = fetched-own ps qs ok m n in
      reading-run f.0 f.1 f.2 f.3 ps qs (left ∙ ap (λ (x : Fetched). x.positions) f.4) (more ∙ ap (λ (x : Fetched). x.ratios) f.4)

-- a refusal that is passed on
pub reading_err : {s ts vs : List ℕ} (r : Result Description Refusal) {g : Refusal} → Bytes s → length s ≤ input_limit → IsErrAnd r (λ y. y ≡ g)
    → check_answer (Err g) ≡ checked 0 s → (g.number ≡ 0 → ⊥) → InputRead s (check_answer r) ts vs
reading_err (Ok d) b w h a n = absurd h
reading_err {s} {ts} {vs} (Err y) b w h a n = subst (λ (x : Refusal). InputRead s (check_answer (Err x)) ts vs) (sym h) (reading-refused s b w a n)

-- where nothing was refused the input begins with a run's record: the answer is that run's, and it is the run that the program reads
pub read_own : {s : List ℕ} {r : CheckAnswer} {ts vs : List ℕ} → InputRead s r ts vs → r.number ≡ 0
    → (own : Run) × Accepted own × Beginning (record_of own) s × (r ≡ run_check own) × (run_input s ≡ own)
read_own {s} h ok =
    let is = h.answered ∙ (reads_whole s h.whole).0 in
    let o = checks_only 0 s h.bytes (sym (ap (λ (x : CheckAnswer). x.number) is) ∙ ok) in
    (o.0, o.1, o.2, is ∙ o.3, (reads_whole s h.whole).1 ∙ o.4)
