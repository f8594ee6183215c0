-- The claims of specs/LiveClaims on one addition, whatever the coder is; those on successive ones are proved in proofs/Lives.
use mathlib.Core.Bool.{Bool, true, false, not, cond}
use mathlib.Core.List.{List}
use mathlib.Core.Path.{◌≡◌, refl, ap, sym}
use Prim.Native.Nat.{ℕ, ◌<◌, min}
use native.Mathlib.Omega.{arith}
use borrow.Author.Tests.{ne_eqb, lt-ltb}
use lib.Dec.{ltb}
use Rattle.limits.specs.Points.{max_points}
use Rattle.refusals.specs.declared.Refusal.{Refusal}
use Rattle.refusals.specs.Tests.{first_of}
use Rattle.ratio_format.specs.declared.Window.{Window}
use Rattle.ratio_format.specs.declared.Live.{Live}
use Rattle.ratio_format.specs.Windows.{window_size}
use Rattle.ratio_format.specs.RatioForms.{coded}
use Rattle.ratio_format.specs.Lives.{bad_window, bad_live, state_tests, Coder, add_bytes_by, add_answer_by, add_output_by, add_state_by}
use Rattle.ratio_format.specs.LiveClaims.{RefusesAdd, AddsSo, Adds, StartsFresh}
use Rattle.ratio_format.proofs.Lives.{fill_good, live_good, refusal_by, state_bad, state_many, state_passes, add_tested, add_short, add_none, add_refused, add_good}
use Rattle.ratio_format.proofs.WindowClaims.{takes_ratio}

-- ---- a bad state

pub fill_bad : (w : Window) (n : ℕ) → (w.fill ≡ min window_size n → ⊥) → bad_window w n ≡ true
fill_bad w n e = ap not (ne_eqb w.fill (min window_size n) e)

seen_bad : (s : Live) → max_points < s.seen → bad_live s ≡ true
seen_bad s h = go (bad_window s.window s.seen)
  where
    go : (t : Bool) → cond t true (ltb max_points s.seen) ≡ true
    go true = refl
    go false = lt-ltb max_points s.seen h

-- ---- one addition

module _ (k : Coder) (s : Live) (v : ℕ) (o : List ℕ) where
  number_is : (f : Refusal) → first_of (state_tests s) ≡ f → f.number ≡ (first_of (state_tests s)).number
  number_is f e = ap (λ (x : Refusal). x.number) (sym e)

  -- a test of the state applies
  tested : (n : ℕ) → (n ≡ 0 → ⊥) → first_of (state_tests s) ≡ refusal_by n → RefusesAdd s o n (add_answer_by k s v o) (add_output_by k s v o) (add_state_by k s v o)
  tested n z e =
      let r = add_refused k s v o n z (add_tested k s v o n (number_is (refusal_by n) e) z) in
      (r.0, r.2, r.1)

  pub adds_by : AddsSo s v (add_bytes_by k s v) o (add_answer_by k s v o) (add_output_by k s v o) (add_state_by k s v o)
  adds_by = record {
    other_fill = λ e. tested 7 (λ z. omega arith) (state_bad s (rw (fill_bad s.window s.seen e) refl));
    above_limit = λ h. tested 7 (λ z. omega arith) (state_bad s (seen_bad s h));
    at_limit = λ e h. tested 3 (λ z. omega arith) (state_many s (live_good s (fill_good s.window s.seen e) (omega arith)) (omega arith));
    no_room = λ e h l.
        let p = state_passes s (live_good s (fill_good s.window s.seen e) (omega arith)) h in
        let r = add_refused k s v o 6 (λ z. omega arith) (add_short k s v o (ap (λ (x : Refusal). x.number) p) l) in
        (r.0, r.2, r.1);
    added = λ e h l.
        let p = state_passes s (live_good s (fill_good s.window s.seen e) (omega arith)) h in
        let g = add_good k s v o (add_none k s v o (ap (λ (x : Refusal). x.number) p) l) in
        (g.0, g.2, ap (λ (t : Live). t.seen) g.1, rw g.1 (takes_ratio s.window v));
  }

pub adds : Adds
adds s v o = adds_by coded s v o

pub starts_fresh : StartsFresh
starts_fresh = (refl, refl)
