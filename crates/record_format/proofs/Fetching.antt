-- Laws of reading into outputs: the tests beside those of a check, and the answer by the tests that are left to make.
use mathlib.Core.Bool.{Bool, true, false, cond, false≢true}
use mathlib.Core.List.{List, [], ◌++◌}
use mathlib.Core.Logic.{◌⊎◌, inl, inr}
use mathlib.Core.Option.{Option}
use mathlib.Core.Path.{◌≡◌, refl, sym, ap, ◌∙◌}
use Prim.Native.Nat.{ℕ, ◌≤◌, ◌<◌}
use borrow.Author.Tests.{eqb-true, ne_eqb, ltb-true, ltb-false, lt-ltb}
use lib.Dec.{ltb, eqb, lit<}
use lib.ListN.{length}
use Rattle.refusals.specs.declared.Refusal.{Refusal}
use Rattle.refusals.specs.Tests.{Test, refusal, first_of, refused}
use Rattle.refusals.proofs.Tests.{never, first_of_here, first_of_skip, first_of_end, first_of-append-none, first_of-append_cong, first_of_never}
use Rattle.record_format.specs.Reading.{rate_tests, count_tests, count_at, count_in, has_side, front_tests, positions_tests, ratios_tests, record_tests}
use Rattle.record_format.specs.Fetching.{lacks_room, read_tests, Answer, refusal_answer, record_answer, answer_by, read_with}
use Rattle.record_format.proofs.Reading.{side_of, front-numbered}

-- ---- the room

-- both outputs have room
pub room_enough : (m n c : ℕ) → lacks_room m n c ≡ false → (c ≤ m) × (c ≤ n)
room_enough m n c e = go (ltb m c) refl e
  where
    go : (b : Bool) → ltb m c ≡ b → cond b true (ltb n c) ≡ false → (c ≤ m) × (c ≤ n)
    go true q k = absurd (false≢true (sym k))
    go false q k = (ltb-false m c q, ltb-false n c k)

-- or one lacks it
pub room_lacks : (m n c : ℕ) → lacks_room m n c ≡ true → (m < c) ⊎ (n < c)
room_lacks m n c e = go (ltb m c) refl e
  where
    go : (b : Bool) → ltb m c ≡ b → cond b true (ltb n c) ≡ true → (m < c) ⊎ (n < c)
    go true q k = inl (ltb-true m c q)
    go false q k = inr (ltb-true n c k)

pub lacks_room_lem : (m n c : ℕ) → (m < c) ⊎ (n < c) → lacks_room m n c ≡ true
lacks_room_lem m n c (inl h) = rw (lt-ltb m c h)
lacks_room_lem m n c (inr h) = go (ltb m c)
  where
    go : (b : Bool) → cond b true (ltb n c) ≡ true
    go true = refl
    go false = lt-ltb n c h

-- ---- the tests beside those of a check

-- no test of a record has the number 16
pub never_sixteen : (k : ℕ → List ℕ → Option (List ℕ)) (e : ℕ) (s : List ℕ) → (first_of (record_tests k e s)).number ≡ 16 → ⊥
never_sixteen k e s = first_of_never 16 (lit< tt) (record_tests k e s) (go (has_side s))
  where
    go : (b : Bool) → never 16 ((rate_tests e s ++ (side_of s b ++ count_tests s)) ++ (positions_tests s ++ ratios_tests k s)) ≡ true
    go true = refl
    go false = refl

module _ (k : ℕ → List ℕ → Option (List ℕ)) (e : ℕ) (s : List ℕ) (m n : ℕ) where
  -- with room, wherever the count is known, they are those of a check
  pub with_room : ((first_of (front_tests e s)).number ≡ 0 → lacks_room m n (count_in s) ≡ false) → first_of (read_tests k e s m n) ≡ first_of (record_tests k e s)
  with_room h = first_of-append_cong (front_tests e s) _ _ (front-numbered e s) (λ clear. first_of_skip _ _ (h clear))

  -- without, 16 at the count's field
  pub without_room : (first_of (front_tests e s)).number ≡ 0 → lacks_room m n (count_in s) ≡ true → first_of (read_tests k e s m n) ≡ refusal 16 (count_at s)
  without_room clear h = first_of-append-none (front_tests e s) _ (front-numbered e s) clear ∙ first_of_here _ _ h

  -- so 16 is given there only
  pub sixteen_only : (first_of (read_tests k e s m n)).number ≡ 16 → ((first_of (front_tests e s)).number ≡ 0) × (lacks_room m n (count_in s) ≡ true)
  sixteen_only z = go (eqb (first_of (front_tests e s)).number 0) refl (lacks_room m n (count_in s)) refl
    where
      as_record : first_of (read_tests k e s m n) ≡ first_of (record_tests k e s) → ⊥
      as_record q = never_sixteen k e s (sym (ap (λ (f : Refusal). f.number) q) ∙ z)

      go : (b : Bool) → eqb (first_of (front_tests e s)).number 0 ≡ b → (c : Bool) → lacks_room m n (count_in s) ≡ c
          → ((first_of (front_tests e s)).number ≡ 0) × (lacks_room m n (count_in s) ≡ true)
      go true b true c = (eqb-true _ _ b, c)
      go true b false c = absurd (as_record (with_room (λ _. c)))
      go false b c d =
          absurd (as_record (with_room (λ clear. absurd (false≢true (sym b ∙ ap (λ (x : ℕ). eqb x 0) clear)))))

  -- and all else is a check's
  pub not_sixteen : ((first_of (read_tests k e s m n)).number ≡ 16 → ⊥) → first_of (read_tests k e s m n) ≡ first_of (record_tests k e s)
  not_sixteen d = with_room (λ clear. go clear (lacks_room m n (count_in s)) refl)
    where
      go : (first_of (front_tests e s)).number ≡ 0 → (b : Bool) → lacks_room m n (count_in s) ≡ b → lacks_room m n (count_in s) ≡ false
      go clear true h = absurd (d (ap (λ (f : Refusal). f.number) (without_room clear h)))
      go clear false h = h

-- ---- the answer by the tests

-- the number of an answer is that of the first test that applies
pub answer_number : (tests : List Test) (a : Answer) (ts vs : List ℕ) → a.answer.number ≡ 0 → (answer_by tests a ts vs).answer.number ≡ (first_of tests).number
answer_number tests a ts vs z = go (eqb (first_of tests).number 0) refl
  where
    go : (b : Bool) → eqb (first_of tests).number 0 ≡ b → (answer_by tests a ts vs).answer.number ≡ (first_of tests).number
    go true q = rw q (z ∙ sym (eqb-true (first_of tests).number 0 q))
    go false q = rw q

module _ (a : Answer) (ts vs : List ℕ) where
  -- a refusal is the whole answer
  pub answer_refused : (tests : List Test) (f : Refusal) → f ≡ first_of tests → (f.number ≡ 0 → ⊥) → answer_by tests a ts vs ≡ refusal_answer f ts vs
  answer_refused tests f e d = ap (λ (g : Refusal). cond (refused g) (refusal_answer g ts vs) a) (sym e) ∙ rw (ne_eqb f.number 0 d)

  pub answer_good : (tests : List Test) → first_of tests ≡ first_of [] → answer_by tests a ts vs ≡ a
  answer_good tests e = ap (λ (g : Refusal). cond (refused g) (refusal_answer g ts vs) a) (e ∙ first_of_end)

-- a reading that is refused
pub read_refused : (k : ℕ → List ℕ → Option (List ℕ)) (e : ℕ) (s ts vs : List ℕ) (n p : ℕ) → (n ≡ 0 → ⊥) → first_of (read_tests k e s (length ts) (length vs)) ≡ refusal n p
    → read_with k e s ts vs ≡ refusal_answer (refusal n p) ts vs
unfolding read_with
read_refused k e s ts vs n p d q = answer_refused (record_answer k s ts vs) ts vs (read_tests k e s (length ts) (length vs)) (refusal n p) (sym q) d

-- a refused reading is the answer of its refusal
pub refused-reading : (tests : List Test) (a : Answer) (ts vs : List ℕ) → ((answer_by tests a ts vs).answer.number ≡ 0 → ⊥) → a.answer.number ≡ 0
    → answer_by tests a ts vs ≡ refusal_answer (first_of tests) ts vs
refused-reading tests a ts vs d z = go (eqb (first_of tests).number 0) refl
  where
    go : (b : Bool) → eqb (first_of tests).number 0 ≡ b → answer_by tests a ts vs ≡ refusal_answer (first_of tests) ts vs
    go true e = absurd (d (rw e z))
    go false e = rw e
