-- Laws of a step: its refusal by its tests, what it leaves by its refusal, and what successive steps answer.
use Rattle.std.specs.Prelude.{None}
use mathlib.Core.Path.{◌≡◌, refl, sym, ap, ap₂, ◌∙◌}
use mathlib.Core.Bool.{Bool, true, false, cond}
use mathlib.Core.List.{List, [], ◌∷◌, ◌++◌, map}
use Prim.Native.Nat.{ℕ, zero, suc, ◌+◌, ◌^◌, ◌≤◌, ◌<◌}
use native.Mathlib.Nat.{suc-add, zero-add}
use native.Mathlib.Omega.{arith}
use lib.Dec.{ltb, eqb}
use lib.ListN.{length, get_or, drop, replicate, length-drop}
use lib.Seq.{drop_at, drop-drop, drop-length}
use borrow.Author.Tests.{ltb-true, ltb-false, eqb-true, eqb-false, eq-eqb, ne_eqb, lt-ltb, le-ltb}
use Rattle.lists.specs.Below.{Below}
use Rattle.lists.proofs.Below.{below_drop}
use Rattle.limits.specs.Points.{max_points}
use Rattle.refusals.specs.Tests.{no_refusal}
use Rattle.refusals.proofs.Tests.{first_of_here, first_of_skip, first_of_end}
use Rattle.ratio_format.specs.declared.Cursor.{Cursor}
use Rattle.ratio_format.specs.declared.StepAnswer.{StepAnswer}
use Rattle.ratio_format.specs.Windows.{window_size, fresh_window, push, held, pushed}
use Rattle.ratio_format.specs.RatioForms.{coded}
use Rattle.ratio_format.specs.Open.{Read, Ratio, strict_one}
use Rattle.ratio_format.specs.Bodies.{coded_from, coded_ratios}
use Rattle.ratio_format.specs.Lives.{bad_window}
use Rattle.ratio_format.specs.Stepping.{made, made_body, made_cursor, bad_cursor, next_read, step_refusal, step_answer, step_cursor}
use Rattle.ratio_format.specs.SteppingClaims.{step_answers, step_cursors, ratio_given, ended, SteppingGives, SteppingEnds, SteppingOnly, CursorStays, MadeStays}
use Rattle.ratio_format.proofs.Windows.{pushed_size, held-pushed, held-length, push_below}
use Rattle.ratio_format.proofs.Open.{strict_takes, strict_open, strict_only, strict_used, open_value}
use Rattle.ratio_format.proofs.Lives.{good_fill, window_stays, refusal_by}

-- ---- a state that is not bad

-- its four tests fail
pub record Good (b : List ℕ) (c : Cursor) : Type 0 where
  pub window : bad_window c.window c.seen ≡ false
  pub seen : c.seen ≤ c.count
  pub count : c.count ≤ max_points
  pub place : c.place ≤ length b

pub good_cursor : (b : List ℕ) (c : Cursor) → bad_cursor b c ≡ false → Good b c
good_cursor b c e = go (bad_window c.window c.seen) refl (ltb c.count c.seen) refl (ltb max_points c.count) refl e
  where
    go : (w : Bool) → bad_window c.window c.seen ≡ w → (s : Bool) → ltb c.count c.seen ≡ s → (n : Bool) → ltb max_points c.count ≡ n
        → cond w true (cond s true (cond n true (ltb (length b) c.place))) ≡ false → Good b c
    go true w s es n en e = let z : ◌≡◌ {A = ℕ} 0 1 = cc in absurd (omega arith)
    go false w true s n en e = let z : ◌≡◌ {A = ℕ} 0 1 = cc in absurd (omega arith)
    go false w false s true n e = let z : ◌≡◌ {A = ℕ} 0 1 = cc in absurd (omega arith)
    go false w false s false n e =
        record { window = w; seen = ltb-false c.count c.seen s; count = ltb-false max_points c.count n; place = ltb-false (length b) c.place e }

pub cursor_good : (b : List ℕ) (c : Cursor) → Good b c → bad_cursor b c ≡ false
cursor_good b c g =
    rw (g.window, le-ltb c.count c.seen g.seen, le-ltb max_points c.count g.count) (le-ltb (length b) c.place g.place)

-- ---- what a reading takes

-- the next ratio ends within the body
pub read_within : (b : List ℕ) (c : Cursor) (v k : ℕ) → Good b c → next_read b c ≡ Ratio v k → c.place + k ≤ length b
read_within b c v k g r = omega (arith, g.place, length-drop c.place b, strict_used (held c.window) (drop c.place b) v k r)

-- ---- the refusal of a step, and what the step leaves

-- a refusal with the number n
abbrev pub refusal : ℕ → StepAnswer
refusal n = record { number = n; place = 0; ratio = 0 }

-- the state after the ratio v, of k bytes
abbrev pub moved : Cursor → ℕ → ℕ → Cursor
moved c v k = record { place = c.place + k; count = c.count; seen = c.seen + 1; window = pushed c.window v }

module _ (b : List ℕ) (c : Cursor) where
  pub step_bad : bad_cursor b c ≡ true → step_refusal b c ≡ refusal_by 7
  unfolding step_refusal
  step_bad g = first_of_here _ _ g

  pub step_end : bad_cursor b c ≡ false → c.seen ≡ c.count → c.place ≡ length b → step_refusal b c ≡ refusal_by 8
  unfolding step_refusal
  step_end g s p = first_of_skip _ _ g ∙ first_of_here _ _ (rw (eq-eqb c.seen c.count s) (eq-eqb c.place (length b) p))

  pub step-over : bad_cursor b c ≡ false → c.seen ≡ c.count → (c.place ≡ length b → ⊥) → step_refusal b c ≡ refusal_by 18
  unfolding step_refusal
  step-over g s p =
      let e = eq-eqb c.seen c.count s in
      first_of_skip _ _ g ∙ first_of_skip _ _ (rw e (ne_eqb c.place (length b) p)) ∙ first_of_here _ _ e

  pub step_no : bad_cursor b c ≡ false → (c.seen ≡ c.count → ⊥) → next_read b c ≡ None → step_refusal b c ≡ refusal_by 18
  unfolding step_refusal
  step_no g s r =
      let e = ne_eqb c.seen c.count s in
      first_of_skip _ _ g ∙ first_of_skip _ _ (rw e) ∙ first_of_skip _ _ e ∙ first_of_here _ _ (rw r)

  pub step-none : bad_cursor b c ≡ false → (c.seen ≡ c.count → ⊥) → (v k : ℕ) → next_read b c ≡ Ratio v k → step_refusal b c ≡ no_refusal
  unfolding step_refusal
  step-none g s v k r =
      let e = ne_eqb c.seen c.count s in
      first_of_skip _ _ g ∙ first_of_skip _ _ (rw e) ∙ first_of_skip _ _ e ∙ first_of_skip _ _ (rw r) ∙ first_of_end

  -- a refusal: the state stays
  pub step-refused : (n : ℕ) → eqb n 0 ≡ false → step_refusal b c ≡ refusal_by n
      → (step_answer b c ≡ refusal n) × (step_cursor b c ≡ c)
  unfolding step_answer step_cursor
  step-refused n z e = (simp (e, z), simp (e, z))

  -- a ratio
  pub step_good : (v k : ℕ) → next_read b c ≡ Ratio v k → step_refusal b c ≡ no_refusal
      → (step_answer b c ≡ ratio_given v) × (step_cursor b c ≡ moved c v k)
  unfolding step_answer step_cursor
  step_good v k r e = (simp (e, r), simp (e, r))

  -- one of five
  pub data StepOutcome : Type 0 where
    bad : bad_cursor b c ≡ true → StepOutcome
    end : bad_cursor b c ≡ false → c.seen ≡ c.count → c.place ≡ length b → StepOutcome
    over : bad_cursor b c ≡ false → c.seen ≡ c.count → (c.place ≡ length b → ⊥) → StepOutcome
    no : bad_cursor b c ≡ false → (c.seen ≡ c.count → ⊥) → next_read b c ≡ None → StepOutcome
    yes : (v k : ℕ) → bad_cursor b c ≡ false → (c.seen ≡ c.count → ⊥) → next_read b c ≡ Ratio v k → StepOutcome

  pub step_outcome : StepOutcome
  step_outcome = go (bad_cursor b c) refl (eqb c.seen c.count) refl (eqb c.place (length b)) refl (next_read b c) refl
    where
      go : (g : Bool) → bad_cursor b c ≡ g → (s : Bool) → eqb c.seen c.count ≡ s → (p : Bool) → eqb c.place (length b) ≡ p
          → (r : Read) → next_read b c ≡ r → StepOutcome
      go true g s es p ep r er = bad g
      go false g true s true p r er = end g (eqb-true c.seen c.count s) (eqb-true c.place (length b) p)
      go false g true s false p r er = over g (eqb-true c.seen c.count s) (eqb-false c.place (length b) p)
      go false g false s p ep None r = no g (eqb-false c.seen c.count s) r
      go false g false s p ep (Ratio v k) r = yes v k g (eqb-false c.seen c.count s) r

  -- what is answered and left in each
  pub left_bad : bad_cursor b c ≡ true → (step_answer b c ≡ refusal 7) × (step_cursor b c ≡ c)
  left_bad g = step-refused 7 refl (step_bad g)

  pub left_end : bad_cursor b c ≡ false → c.seen ≡ c.count → c.place ≡ length b → (step_answer b c ≡ ended) × (step_cursor b c ≡ c)
  left_end g s p = step-refused 8 refl (step_end g s p)

  pub left_over : bad_cursor b c ≡ false → c.seen ≡ c.count → (c.place ≡ length b → ⊥) → (step_answer b c ≡ refusal 18) × (step_cursor b c ≡ c)
  left_over g s p = step-refused 18 refl (step-over g s p)

  pub left_no : bad_cursor b c ≡ false → (c.seen ≡ c.count → ⊥) → next_read b c ≡ None → (step_answer b c ≡ refusal 18) × (step_cursor b c ≡ c)
  left_no g s r = step-refused 18 refl (step_no g s r)

  pub left_ratio : (v k : ℕ) → bad_cursor b c ≡ false → (c.seen ≡ c.count → ⊥) → next_read b c ≡ Ratio v k
      → (step_answer b c ≡ ratio_given v) × (step_cursor b c ≡ moved c v k)
  left_ratio v k g s r = step_good v k r (step-none g s v k r)

-- the count stays
pub step_count : (b : List ℕ) (c : Cursor) → (step_cursor b c).count ≡ c.count
step_count b c = go (step_outcome b c)
  where
    go : StepOutcome b c → (step_cursor b c).count ≡ c.count
    go (bad g) = ap (λ (d : Cursor). d.count) (left_bad b c g).1
    go (end g s p) = ap (λ (d : Cursor). d.count) (left_end b c g s p).1
    go (over g s p) = ap (λ (d : Cursor). d.count) (left_over b c g s p).1
    go (no g s r) = ap (λ (d : Cursor). d.count) (left_no b c g s r).1
    go (yes v k g s r) = ap (λ (d : Cursor). d.count) (left_ratio b c v k g s r).1

-- ---- a good state stays good

pub moved_good : (b : List ℕ) (c : Cursor) (v k : ℕ) → bad_cursor b c ≡ false → (c.seen ≡ c.count → ⊥) → next_read b c ≡ Ratio v k
    → bad_cursor b (moved c v k) ≡ false
moved_good b c v k e s r =
    let g = good_cursor b c e in
    cursor_good b (moved c v k) (record {
      window = window_stays c.window v c.seen g.window;
      seen = omega (arith, g.seen, s);
      count = g.count;
      place = read_within b c v k g r;
    })

pub cursor_stays : CursorStays
cursor_stays b c e = go (step_outcome b c)
  where
    go : StepOutcome b c → bad_cursor b (step_cursor b c) ≡ false
    go (bad g) = rw (left_bad b c g).1 e
    go (end g s p) = rw (left_end b c g s p).1 e
    go (over g s p) = rw (left_over b c g s p).1 e
    go (no g s r) = rw (left_no b c g s r).1 e
    go (yes v k g s r) = rw (left_ratio b c v k g s r).1 (moved_good b c v k g s r)

-- ---- successive steps

-- a reader that stands before the coding of the ratios vs
record Standing (b : List ℕ) (c : Cursor) (vs : List ℕ) : Type 0 where
  good : bad_cursor b c ≡ false
  size : length c.window.ratios ≡ window_size
  below : Below (2 ^ 64) (held c.window)
  more : c.seen + length vs ≡ c.count
  rest : drop c.place b ≡ coded_from window_size (held c.window) vs

-- it gives the first, and stands before the others
module _ (b : List ℕ) (c : Cursor) (v : ℕ) (vs : List ℕ) (hv : v < 2 ^ 64) (s : Standing b c (v ∷ vs)) where
  w : List ℕ
  w = held c.window

  fits : c.window.fill ≤ window_size
  fits = omega (arith, good_fill c.window c.seen (good_cursor b c s.good).window)

  reads : next_read b c ≡ Ratio v (length (coded v w))
  unfolding coded_from w
  reads =
      ap (strict_one w) s.rest
      ∙ strict_takes v w (coded_from window_size (push window_size v w) vs) hv s.below (omega (arith, fits, held-length c.window (omega (arith, fits, s.size))))

  before_end : c.seen ≡ c.count → ⊥
  before_end e = omega (arith, e, s.more)

  gives : step_answer b c ≡ ratio_given v
  gives = (left_ratio b c v (length (coded v w)) s.good before_end reads).0

  goes : step_cursor b c ≡ moved c v (length (coded v w))
  goes = (left_ratio b c v (length (coded v w)) s.good before_end reads).1

  stands : Standing b (step_cursor b c) vs
  unfolding coded_from w
  stands =
      let k = length (coded v w) in
      let p : held (pushed c.window v) ≡ push window_size v w = held-pushed c.window v s.size fits in
      let r : drop (c.place + k) b ≡ coded_from window_size (push window_size v w) vs =
      sym (drop-drop k c.place b) ∙ ap (drop k) s.rest ∙ drop_at (coded v w) (coded_from window_size (push window_size v w) vs) k refl in
      rw goes (record {
        good = moved_good b c v k s.good before_end reads;
        size = pushed_size c.window v s.size;
        below = rw p (push_below (2 ^ 64) window_size v w hv s.below);
        more = omega (arith, s.more);
        rest = r ∙ ap (λ (l : List ℕ). coded_from window_size l vs) (sym p);
      })

-- before no more ratios it answers the end, and its state stays
standing_ends : (b : List ℕ) (c : Cursor) → Standing b c [] → (step_answer b c ≡ ended) × (step_cursor b c ≡ c)
unfolding coded_from
standing_ends b c s =
    let n = ap length s.rest in
    left_end b c s.good (omega (arith, s.more)) (omega (arith, n, length-drop c.place b, (good_cursor b c s.good).place))

standing_ends_on : (b : List ℕ) (c : Cursor) → Standing b c [] → (m : ℕ) → step_answers b c m ≡ replicate m ended
unfolding step_answers
standing_ends_on b c s zero = refl
standing_ends_on b c s (suc m) =
    let e = standing_ends b c s in
    ap₂ (λ (a : StepAnswer) (l : List StepAnswer). a ∷ l) e.0 (ap (λ (d : Cursor). step_answers b d m) e.1 ∙ standing_ends_on b c s m)

standing_steps : (b : List ℕ) (c : Cursor) (vs : List ℕ) → Below (2 ^ 64) vs → Standing b c vs → (m : ℕ) → step_answers b c (length vs + m) ≡ map ratio_given vs ++ replicate m ended
unfolding step_answers Below
standing_steps b c [] h s m = rw zero-add (standing_ends_on b c s m)
standing_steps b c (v ∷ vs) h s m =
    rw suc-add
    (ap₂ (λ (a : StepAnswer) (l : List StepAnswer). a ∷ l) (gives b c v vs h.0 s) (standing_steps b (step_cursor b c) vs h.1 (stands b c v vs h.0 s) m))

stands_after : (b : List ℕ) (c : Cursor) (vs : List ℕ) → Below (2 ^ 64) vs → Standing b c vs → Standing b (step_cursors b c (length vs)) []
unfolding step_cursors Below
stands_after b c [] h s = s
stands_after b c (v ∷ vs) h s = stands_after b (step_cursor b c) vs h.1 (stands b c v vs h.0 s)

-- ---- making a reader

-- the state of a reader that was made with the count n
abbrev pub started : ℕ → Cursor
started n = record { place = 0; count = n; seen = 0; window = fresh_window }

module _ (n : ℕ) (b : List ℕ) where
  pub made_good : n ≤ max_points → (made n ≡ no_refusal) × (made_body n b ≡ b) × (made_cursor n ≡ started n)
  unfolding made made_body made_cursor
  made_good h = let e : made n ≡ no_refusal = first_of_skip _ _ (le-ltb max_points n h) ∙ first_of_end in (e, rw e, rw e)

  pub made-refused : max_points < n → (made n ≡ refusal_by 15) × (made_body n b ≡ []) × (made_cursor n ≡ started 0)
  unfolding made made_body made_cursor
  made-refused h = let e : made n ≡ refusal_by 15 = first_of_here _ _ (lt-ltb max_points n h) in (e, rw e, rw e)

pub made_stays : MadeStays
made_stays n b = go (ltb max_points n) refl
  where
    go : (t : Bool) → ltb max_points n ≡ t → bad_cursor (made_body n b) (made_cursor n) ≡ false
    go true e = let m = made-refused n b (ltb-true max_points n e) in rw (m.1, m.2)
    go false e =
        let h = ltb-false max_points n e in
        let m = made_good n b h in
        rw (m.1, m.2) (cursor_good b (started n) (record { window = refl; seen = omega arith; count = h; place = omega arith }))

made_stands : (vs : List ℕ) → length vs ≤ max_points → Standing (coded_ratios vs) (made_cursor (length vs)) vs
unfolding Below
made_stands vs h =
    let m = made_good (length vs) (coded_ratios vs) h in
    let g = made_stays (length vs) (coded_ratios vs) in
    rw m.2 (record { good = rw (m.1, m.2) at g; size = refl; below = tt; more = zero-add (length vs); rest = refl })

pub stepping_gives : SteppingGives
stepping_gives vs h hs m =
    rw (made_good (length vs) (coded_ratios vs) h).1 (standing_steps (coded_ratios vs) (made_cursor (length vs)) vs hs (made_stands vs h) m)

pub stepping_ends : SteppingEnds
stepping_ends vs h hs =
    let b = coded_ratios vs in
    rw (made_good (length vs) b h).1
    (standing_ends b (step_cursors b (made_cursor (length vs)) (length vs)) (stands_after b (made_cursor (length vs)) vs hs (made_stands vs h)))

-- ---- no other body

-- what a step that ends, and one that gives a ratio, say
says_end : (b : List ℕ) (c : Cursor) → step_answer b c ≡ ended → c.place ≡ length b
says_end b c e = go (step_outcome b c)
  where
    number : {a : StepAnswer} → step_answer b c ≡ a → a.number ≡ 8
    number q = sym (ap (λ (a : StepAnswer). a.number) q) ∙ ap (λ (a : StepAnswer). a.number) e

    go : StepOutcome b c → c.place ≡ length b
    go (bad g) = absurd (omega (arith, number (left_bad b c g).0))
    go (end g s p) = p
    go (over g s p) = absurd (omega (arith, number (left_over b c g s p).0))
    go (no g s r) = absurd (omega (arith, number (left_no b c g s r).0))
    go (yes v k g s r) = absurd (omega (arith, number (left_ratio b c v k g s r).0))

says_ratio : (b : List ℕ) (c : Cursor) (v : ℕ) → step_answer b c ≡ ratio_given v
    → (k : ℕ) × (bad_cursor b c ≡ false) × (next_read b c ≡ Ratio v k) × (step_cursor b c ≡ moved c v k)
says_ratio b c v e = go (step_outcome b c)
  where
    number : {a : StepAnswer} → step_answer b c ≡ a → a.number ≡ 0
    number q = sym (ap (λ (a : StepAnswer). a.number) q) ∙ ap (λ (a : StepAnswer). a.number) e

    go : StepOutcome b c → (k : ℕ) × (bad_cursor b c ≡ false) × (next_read b c ≡ Ratio v k) × (step_cursor b c ≡ moved c v k)
    go (bad g) = absurd (omega (arith, number (left_bad b c g).0))
    go (end g s p) = absurd (omega (arith, number (left_end b c g s p).0))
    go (over g s p) = absurd (omega (arith, number (left_over b c g s p).0))
    go (no g s r) = absurd (omega (arith, number (left_no b c g s r).0))
    go (yes u k g s r) =
        let l = left_ratio b c u k g s r in
        let q : u ≡ v = sym (ap (λ (a : StepAnswer). a.ratio) l.0) ∙ ap (λ (a : StepAnswer). a.ratio) e in
        (k, g, r ∙ ap (λ (x : ℕ). Ratio x k) q, l.1 ∙ ap (λ (x : ℕ). moved c x k) q)

-- the bytes of a ratio, and those of the others after it
drop_joins : (b : List ℕ) (at k : ℕ) (x t y : List ℕ) → drop at b ≡ x ++ t → k ≡ length x → drop (at + k) b ≡ y → drop at b ≡ x ++ y
drop_joins b at k x t y e q f =
    e ∙ ap (λ (l : List ℕ). x ++ l) (sym (drop_at x t k (sym q)) ∙ sym (ap (drop k) e) ∙ drop-drop k at b ∙ f)

only_from : (b : List ℕ) (c : Cursor) (vs : List ℕ) → Below 256 b → length c.window.ratios ≡ window_size → Below (2 ^ 64) (held c.window)
    → step_answers b c (length vs + 1) ≡ map ratio_given vs ++ (ended ∷ [])
    → drop c.place b ≡ coded_from window_size (held c.window) vs
unfolding step_answers coded_from
only_from b c [] hb size below e =
    let p = says_end b c (ap (λ (l : List StepAnswer). get_or l 0 ended) e) in
    rw (p, drop-length)
only_from b c (v ∷ vs) hb size below e =
    let q : step_answer b c ∷ step_answers b (step_cursor b c) (length vs + 1) ≡ ratio_given v ∷ (map ratio_given vs ++ (ended ∷ [])) = rw suc-add at e in
    let w = held c.window in
    let s = drop c.place b in
    let y = says_ratio b c v (ap (λ (l : List StepAnswer). get_or l 0 ended) q) in
    let k = y.0 in
    let fits : c.window.fill ≤ window_size = omega (arith, good_fill c.window c.seen (good_cursor b c y.1).window) in
    let hw : length w ≤ window_size = omega (arith, held-length c.window (omega arith)) in
    let hv = (open_value w s v k (below_drop 256 c.place b hb) below (strict_open v k w s y.2).0).0 in
    let o = strict_only v k w s hv below hw y.2 in
    let p = held-pushed c.window v size fits in
    let others = only_from b (moved c v k) vs hb (pushed_size c.window v size) (rw p (push_below (2 ^ 64) window_size v w hv below))
    (ap (λ (d : Cursor). step_answers b d (length vs + 1)) (sym y.3) ∙ ap (drop 1) q) in
    drop_joins b c.place k (coded v w) o.0 (coded_from window_size (push window_size v w) vs) o.1 o.2
    (others ∙ ap (λ (l : List ℕ). coded_from window_size l vs) p)

-- a refused making gives a reader whose first step ends
refused_ends : step_answer [] (started 0) ≡ ended
refused_ends = (left_end [] (started 0) (cursor_good [] (started 0) (record { window = refl; seen = omega arith; count = omega arith; place = omega arith })) refl refl).0

pub stepping_only : SteppingOnly
unfolding Below step_answers
stepping_only b vs hb e = go (ltb max_points (length vs)) refl
  where
    no_first : (us : List ℕ) → max_points < length us → step_answers [] (started 0) (length us + 1) ≡ map ratio_given us ++ (ended ∷ []) → ⊥
    no_first [] h q = omega arith
    no_first (u ∷ us) h q =
        let all : step_answer [] (started 0) ∷ step_answers [] (step_cursor [] (started 0)) (length us + 1) ≡ ratio_given u ∷ (map ratio_given us ++ (ended ∷ [])) = rw suc-add at q in
        let first : step_answer [] (started 0) ≡ ratio_given u = ap (λ (l : List StepAnswer). get_or l 0 ended) all in
        omega (arith, ap (λ (a : StepAnswer). a.number) (sym refused_ends ∙ first))

    go : (t : Bool) → ltb max_points (length vs) ≡ t → b ≡ coded_ratios vs
    go true t =
        let h = ltb-true max_points (length vs) t in
        let m = made-refused (length vs) b h in
        absurd (no_first vs h (rw (m.1, m.2) at e))
    go false t =
        let m = made_good (length vs) b (ltb-false max_points (length vs) t) in
        only_from b (started (length vs)) vs hb refl tt (rw (m.1, m.2) at e)
