-- Laws of an addition by any coder, in the parts that the code has: a test of the state refuses it, there is no room, or the coder's bytes stand in
-- the output.
use mathlib.Core.Path.{◌≡◌, sym, ap, ◌∙◌}
use mathlib.Core.List.{List}
use Prim.Native.Nat.{ℕ, ◌≤◌, ◌<◌}
use native.Mathlib.Omega.{arith}
use lib.ListN.{length}
use Rattle.std.proofs.Common.{Ok, Err, Some}
use Rattle.limits.specs.Points.{max_points}
use Rattle.refusals.specs.declared.Refusal.{Refusal}
use Rattle.refusals.specs.Tests.{refusal, no_refusal, first_of}
use Rattle.outputs.specs.Outputs.{zeros, Placed}
use Rattle.ratio_format.specs.declared.Live.{Live}
use Rattle.ratio_format.specs.Windows.{window_size}
use Rattle.ratio_format.specs.Lives.{state_tests, added_to, added_numbers, Coder, add_bytes_by, add_answer_by, add_output_by, add_state_by}
use Rattle.ratio_format.proofs.Lives.{good_fill, good_live, state_passed, state_place, add_tested, add_short, add_none, add_refused, add_good}

-- what a state that no test refuses allows
module _ (s : Live) (e : first_of (state_tests s) ≡ no_refusal) where
  clear : (first_of (state_tests s)).number ≡ 0
  clear = ap (λ (f : Refusal). f.number) e

  pub passed_fill : s.window.fill ≤ window_size
  passed_fill = omega (arith, good_fill s.window s.seen (good_live s (state_passed s clear).0).0)

  pub passed_seen : s.seen < max_points
  passed_seen = (state_passed s clear).1

module _ (k : Coder) (s : Live) (v : ℕ) (o : List ℕ) where
  -- a refusal: what it leaves
  abbrev pub Refuses : Refusal → Type 0
  Refuses f = (add_answer_by k s v o ≡ added_numbers (Err f)) × (add_state_by k s v o ≡ s) × (add_output_by k s v o ≡ zeros o)

  pub addition_tested : (f : Refusal) → f ≡ first_of (state_tests s) → (f.number ≡ 0 → ⊥) → Refuses f
  addition_tested f e n =
      let number : f.number ≡ (first_of (state_tests s)).number = ap (λ (g : Refusal). g.number) e in
      let place : f.place ≡ 0 = ap (λ (g : Refusal). g.place) e ∙ state_place s in
      rw place (add_refused k s v o f.number n (add_tested k s v o f.number number n))

  module _ (e : first_of (state_tests s) ≡ no_refusal) where
    pub addition_short : length o < length (add_bytes_by k s v) → Refuses (refusal 6 0)
    addition_short h = add_refused k s v o 6 (λ n. omega arith) (add_short k s v o (clear s e) h)

    pub addition_written : (n : ℕ) (p : List ℕ) → Placed (add_bytes_by k s v) (Some n) o p
        → (add_answer_by k s v o ≡ added_numbers (Ok n)) × (add_state_by k s v o ≡ added_to s v) × (add_output_by k s v o ≡ p)
    addition_written n p q =
        let g = add_good k s v o (add_none k s v o (clear s e) q.1) in
        (g.0 ∙ ap (λ (i : ℕ). added_numbers (Ok i)) (sym q.0), g.1, g.2 ∙ sym q.2)
