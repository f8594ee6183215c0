-- Laws of a live addition: its refusal by its tests and what it leaves by its refusal, whatever the coder is; and what successive additions write.
use mathlib.Core.Path.{◌≡◌, refl, sym, ap, ap₂, ◌∙◌}
use mathlib.Core.Bool.{Bool, true, false, not, cond}
use mathlib.Core.List.{List, [], ◌∷◌, ◌++◌}
use Prim.Native.Nat.{ℕ, ◌+◌, ◌≤◌, ◌<◌, min}
use native.Mathlib.Omega.{arith}
use lib.Dec.{leb, ltb, eqb}
use lib.ListN.{length, drop, take, replicate}
use lib.Seq.{take_at}
use borrow.Author.Tests.{ltb-true, ltb-false, leb-true, leb-false, eqb-true, eqb-false, eq-eqb, ne_eqb, not-false, lt-ltb, le-ltb, le-leb, lt-leb}
use Rattle.refusals.specs.declared.Refusal.{Refusal}
use Rattle.limits.specs.Points.{max_points}
use Rattle.refusals.specs.Tests.{no_refusal, first_of}
use Rattle.outputs.specs.Outputs.{zeros, over}
use Rattle.refusals.proofs.Tests.{first_of_here, first_of_skip, first_of_end, first_of_clear, first_of-append-none, first_of-append-some}
use Rattle.ratio_format.specs.declared.Window.{Window}
use Rattle.ratio_format.specs.declared.Live.{Live}
use Rattle.ratio_format.specs.declared.AddAnswer.{AddAnswer}
use Rattle.ratio_format.specs.Windows.{window_size, push, held, pushed}
use Rattle.ratio_format.specs.RatioForms.{coded}
use Rattle.ratio_format.specs.Bodies.{coded_from, coded_ratios}
use Rattle.ratio_format.specs.Lives.{fresh_live, bad_window, bad_live, state_tests, Coder, add_bytes_by, add_refusal_by, add_answer_by, add_output_by, added_to, add_state_by, add_bytes, add_refusal, add_answer}
use Rattle.ratio_format.specs.LiveClaims.{Tick, ratios_of, Roomy, tick_state, tick_bytes, add_numbers, add_joined, add_taken, LiveBody, LiveJoined, LiveStays}
use Rattle.ratio_format.proofs.Windows.{pushed_fill, pushed_size, held-pushed}
use Rattle.ratio_format.proofs.RatioForms.{coded-length}

-- ---- a state that is not bad

pub good_fill : (w : Window) (n : ℕ) → bad_window w n ≡ false → w.fill ≡ min window_size n
good_fill w n e = eqb-true w.fill (min window_size n) (not-false (eqb w.fill (min window_size n)) e)

pub fill_good : (w : Window) (n : ℕ) → w.fill ≡ min window_size n → bad_window w n ≡ false
fill_good w n e = ap not (eq-eqb w.fill (min window_size n) e)

-- one ratio more
pub window_stays : (w : Window) (v n : ℕ) → bad_window w n ≡ false → bad_window (pushed w v) (n + 1) ≡ false
window_stays w v n e = fill_good (pushed w v) (n + 1) (pushed_fill w v n (good_fill w n e))

pub good_live : (s : Live) → bad_live s ≡ false → (bad_window s.window s.seen ≡ false) × (s.seen ≤ max_points)
good_live s e = go (bad_window s.window s.seen) refl e
  where
    go : (t : Bool) → bad_window s.window s.seen ≡ t → cond t true (ltb max_points s.seen) ≡ false → (bad_window s.window s.seen ≡ false) × (s.seen ≤ max_points)
    go true q e = let z : ◌≡◌ {A = ℕ} 0 1 = cc in absurd (omega arith)
    go false q e = (q, ltb-false max_points s.seen e)

pub live_good : (s : Live) → bad_window s.window s.seen ≡ false → s.seen ≤ max_points → bad_live s ≡ false
live_good s e h = rw e (le-ltb max_points s.seen h)

-- ---- the tests of the state alone

-- a refusal with the number n
abbrev pub refusal_by : ℕ → Refusal
refusal_by n = record { number = n; place = 0 }

module _ (s : Live) where
  pub state_bad : bad_live s ≡ true → first_of (state_tests s) ≡ refusal_by 7
  state_bad b = first_of_here _ _ b

  pub state_many : bad_live s ≡ false → max_points ≤ s.seen → first_of (state_tests s) ≡ refusal_by 3
  state_many b m = first_of_skip _ _ b ∙ first_of_here _ _ (le-leb max_points s.seen m)

  pub state_passes : bad_live s ≡ false → s.seen < max_points → first_of (state_tests s) ≡ no_refusal
  state_passes b m = first_of_skip _ _ b ∙ first_of_skip _ _ (lt-leb max_points s.seen m) ∙ first_of_end

  -- where none of them applies
  pub state_passed : (first_of (state_tests s)).number ≡ 0 → (bad_live s ≡ false) × (s.seen < max_points)
  state_passed e =
      let bad = first_of_clear _ _ (omega arith) e in
      let many = first_of_clear _ _ (omega arith) bad.1 in
      (bad.0, leb-false max_points s.seen many.0)

  -- each gives the place 0
  pub state_place : (first_of (state_tests s)).place ≡ 0
  state_place = go (bad_live s) refl (leb max_points s.seen) refl
    where
      go : (b : Bool) → bad_live s ≡ b → (m : Bool) → leb max_points s.seen ≡ m → (first_of (state_tests s)).place ≡ 0
      go true b m em = rw (state_bad b)
      go false b true m = rw (state_many b (leb-true max_points s.seen m))
      go false b false m = rw (state_passes b (leb-false max_points s.seen m))

-- ---- the refusal of an addition, and what the addition leaves, by any coder

module _ (k : Coder) (s : Live) (v : ℕ) (o : List ℕ) where
  -- a test of the state applies
  pub add_tested : (n : ℕ) → n ≡ (first_of (state_tests s)).number → (n ≡ 0 → ⊥) → add_refusal_by k s v o ≡ refusal_by n
  unfolding add_refusal_by
  add_tested n e z =
      first_of-append-some (state_tests s) _ (λ q. z (e ∙ q)) ∙ ap₂ (λ (i j : ℕ). record { number = i; place = j }) (sym e) (state_place s)

  -- none does: the room decides
  pub add_short : (first_of (state_tests s)).number ≡ 0 → length o < length (add_bytes_by k s v) → add_refusal_by k s v o ≡ refusal_by 6
  unfolding add_refusal_by
  add_short z r = first_of-append-none (state_tests s) _ refl z ∙ first_of_here _ _ (lt-ltb (length o) (length (add_bytes_by k s v)) r)

  pub add_none : (first_of (state_tests s)).number ≡ 0 → length (add_bytes_by k s v) ≤ length o → add_refusal_by k s v o ≡ no_refusal
  unfolding add_refusal_by
  add_none z r = first_of-append-none (state_tests s) _ refl z ∙ first_of_skip _ _ (le-ltb (length o) (length (add_bytes_by k s v)) r) ∙ first_of_end

  -- a refusal: nothing is written, the state stays, and the output is cleared
  pub add_refused : (n : ℕ) → (n ≡ 0 → ⊥) → add_refusal_by k s v o ≡ refusal_by n
      → (add_answer_by k s v o ≡ record { number = n; place = 0; length = 0 }) × (add_state_by k s v o ≡ s) × (add_output_by k s v o ≡ zeros o)
  unfolding add_answer_by add_state_by add_output_by
  add_refused n z e = let q = ne_eqb n 0 z in (simp (e, q), simp (e, q), simp (e, q))

  -- a success
  pub add_good : add_refusal_by k s v o ≡ no_refusal
      → (add_answer_by k s v o ≡ record { number = 0; place = 0; length = length (add_bytes_by k s v) })
      × (add_state_by k s v o ≡ added_to s v)
      × (add_output_by k s v o ≡ over (add_bytes_by k s v) o)
  unfolding add_answer_by add_state_by add_output_by
  add_good e = (simp e, simp e, simp e)

  -- one or the other
  pub data AddOutcome : Type 0 where
    no : (n : ℕ) → (n ≡ 0 → ⊥) → add_refusal_by k s v o ≡ refusal_by n → AddOutcome
    yes : bad_live s ≡ false → s.seen < max_points → add_refusal_by k s v o ≡ no_refusal → AddOutcome

  pub add_outcome : AddOutcome
  add_outcome = go (eqb (first_of (state_tests s)).number 0) refl (ltb (length o) (length (add_bytes_by k s v))) refl
    where
      go : (t : Bool) → eqb (first_of (state_tests s)).number 0 ≡ t → (r : Bool) → ltb (length o) (length (add_bytes_by k s v)) ≡ r → AddOutcome
      go false t r er = let z = eqb-false (first_of (state_tests s)).number 0 t in no (first_of (state_tests s)).number z (add_tested (first_of (state_tests s)).number refl z)
      go true t true r = no 6 (λ z. omega arith) (add_short (eqb-true (first_of (state_tests s)).number 0 t) (ltb-true (length o) (length (add_bytes_by k s v)) r))
      go true t false r =
          let z = eqb-true (first_of (state_tests s)).number 0 t in
          let g = state_passed s z in
          yes g.0 g.1 (add_none z (ltb-false (length o) (length (add_bytes_by k s v)) r))

-- ---- a good state stays good, and the array of its window keeps its cells

pub fresh_good : bad_live fresh_live ≡ false
fresh_good = refl

pub live_stays : LiveStays
live_stays k s v o b = go (add_outcome k s v o)
  where
    go : AddOutcome k s v o → bad_live (add_state_by k s v o) ≡ false
    go (no n z e) = rw (add_refused k s v o n z e).1 b
    go (yes _ m e) =
        rw (add_good k s v o e).1
        (live_good (added_to s v) (window_stays s.window v s.seen (good_live s b).0) (omega arith))

size_stays : (k : Coder) (s : Live) (v : ℕ) (o : List ℕ) → length s.window.ratios ≡ window_size → length (add_state_by k s v o).window.ratios ≡ window_size
size_stays k s v o h = go (add_outcome k s v o)
  where
    go : AddOutcome k s v o → length (add_state_by k s v o).window.ratios ≡ window_size
    go (no n z e) = rw (add_refused k s v o n z e).1 h
    go (yes b m e) = rw (add_good k s v o e).1 (pushed_size s.window v h)

-- after a success the ratio is the window's newest
held_added : (k : Coder) (s : Live) (v : ℕ) (o : List ℕ) → length s.window.ratios ≡ window_size → bad_live s ≡ false → add_refusal_by k s v o ≡ no_refusal
    → held (add_state_by k s v o).window ≡ push window_size v (held s.window)
held_added k s v o h b e =
    let f = good_fill s.window s.seen (good_live s b).0 in
    ap (λ (u : Live). held u.window) (add_good k s v o e).1 ∙ held-pushed s.window v h (omega arith)

-- ---- successive additions, by the coder of document 01

-- the bytes of one addition, by its outcome
module _ (s : Live) (t : Tick) where
  bytes_no : (n : ℕ) → (n ≡ 0 → ⊥) → add_refusal s t.ratio t.output ≡ refusal_by n → tick_bytes s t ≡ []
  bytes_no n z e = rw (add_refused coded s t.ratio t.output n z e).0

  bytes_yes : add_refusal s t.ratio t.output ≡ no_refusal → tick_bytes s t ≡ coded t.ratio (held s.window)
  bytes_yes e =
      let b = add_bytes s t.ratio in
      let g = add_good coded s t.ratio t.output e in
      ap₂ (λ (a : AddAnswer) (l : List ℕ). take a.length l) g.0 g.2 ∙ take_at b (drop (length b) t.output) (length b) refl

-- one addition more: none is coded where it is refused, and else the ratio is coded before the others
module _ (s : Live) (t : Tick) (ts : List Tick) (h : length s.window.ratios ≡ window_size) where
  abbrev Joined : Live → List Tick → Type 0
  Joined s ts = add_joined s ts ≡ coded_from window_size (held s.window) (add_taken s ts)

  joined_more : AddOutcome coded s t.ratio t.output → Joined (tick_state s t) ts → Joined s (t ∷ ts)
  unfolding add_joined add_taken coded_from
  joined_more (no n z e) ih =
      let f = add_refused coded s t.ratio t.output n z e in
      rw (bytes_no s t n z e, f.0, ne_eqb n 0 z) (ih ∙ ap (λ (u : Live). coded_from window_size (held u.window) (add_taken (tick_state s t) ts)) f.1)
  joined_more (yes b m e) ih =
      let v = t.ratio in
      rw (bytes_yes s t e, (add_good coded s v t.output e).0)
      (ap (λ (l : List ℕ). coded v (held s.window) ++ l)
      (ih ∙ ap (λ (l : List ℕ). coded_from window_size l (add_taken (tick_state s t) ts)) (held_added coded s v t.output h b e)))

-- whatever was refused, the bytes are the coding of the ratios that were added
joined_from : (s : Live) (ts : List Tick) → length s.window.ratios ≡ window_size → add_joined s ts ≡ coded_from window_size (held s.window) (add_taken s ts)
unfolding add_joined add_taken coded_from
joined_from s [] h = refl
joined_from s (t ∷ ts) h =
    joined_more s t ts h (add_outcome coded s t.ratio t.output) (joined_from (tick_state s t) ts (size_stays coded s t.ratio t.output h))

-- from a fresh state
pub live_joined : LiveJoined
live_joined ts = joined_from fresh_live ts refl

-- and none is refused while there are at most 4,096 and each output has nine cells
module _ (s : Live) (t : Tick) (b : bad_live s ≡ false) (h : s.seen < max_points) (g : 9 ≤ length t.output) where
  fits : add_refusal s t.ratio t.output ≡ no_refusal
  fits =
      add_none coded s t.ratio t.output (ap (λ (f : Refusal). f.number) (state_passes s b h))
      (omega (arith, (coded-length t.ratio (held s.window)).1))

  number_fits : (add_answer s t.ratio t.output).number ≡ 0
  number_fits = ap (λ (a : AddAnswer). a.number) (add_good coded s t.ratio t.output fits).0

  seen_fits : (tick_state s t).seen ≡ s.seen + 1
  seen_fits = ap (λ (u : Live). u.seen) (add_good coded s t.ratio t.output fits).1

none-refused : (s : Live) (ts : List Tick) → bad_live s ≡ false → s.seen + length ts ≤ max_points → Roomy ts
    → (add_numbers s ts ≡ replicate (length ts) 0) × (add_taken s ts ≡ ratios_of ts)
unfolding add_numbers add_taken Roomy
none-refused s [] b h g = (refl, refl)
none-refused s (t ∷ ts) b h g =
    let l : s.seen < max_points = omega arith in
    let ih = none-refused (tick_state s t) ts (live_stays coded s t.ratio t.output b) (omega (arith, seen_fits s t b l g.0)) g.1 in (
      ap₂ (λ (x : ℕ) (l : List ℕ). x ∷ l) (number_fits s t b l g.0) ih.0,
      rw (number_fits s t b l g.0) (ap (λ (l : List ℕ). t.ratio ∷ l) ih.1),
    )

pub live_body : LiveBody
live_body ts h g =
    let n = none-refused fresh_live ts fresh_good (omega arith) g in
    (n.0, live_joined ts ∙ ap coded_ratios n.1)
