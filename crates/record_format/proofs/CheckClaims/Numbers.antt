-- The number to C: how far a refusal's place, a record's size and a refusal's number go, and that the number tells them apart.
use mathlib.Core.Bool.{Bool, true, false, cond, not}
use mathlib.Core.List.{List, [], ◌∷◌, ◌++◌, append-nil}
use mathlib.Core.Logic.{inl, inr}
use mathlib.Core.Option.{Option, none, some}
use mathlib.Core.Path.{◌≡◌, refl, sym, ap, ◌∙◌, subst}
use Prim.Native.Nat.{ℕ, ◌+◌, ◌≤◌}
use native.Mathlib.Omega.{arith}
use borrow.Author.Tests.{leb-true, eqb-true, eqb-false, ltb-false}
use lib.Dec.{eqb, leb, ltb, lit<, lit≤}
use lib.ListN.{length, drop, length-take, length-drop}
use Rattle.lists.specs.Compare.{both}
use Rattle.lists.proofs.Compare.{both_true}
use Rattle.lists.proofs.Among.{among_every}
use Rattle.limits.specs.Points.{max_points}
use Rattle.limits.specs.Rates.{is_rate}
use Rattle.refusals.specs.Tests.{Test, test, refusal, first_of}
use Rattle.refusals.proofs.Tests.{numbered, first_of_clear, first_of-append-none, first_of-append-some, first_of-append_clear}
use Rattle.position_format.specs.declared.Form.{Form}
use Rattle.position_format.specs.declared.Form.TheVariants.{Old, Wide}
use Rattle.position_format.specs.Tables.{table_of, points_of}
use Rattle.position_format.proofs.Positions.{read_only}
use Rattle.ratio_format.specs.Bodies.{strict_ratios}
use Rattle.record_format.specs.declared.CheckAnswer.{CheckAnswer}
use Rattle.record_format.specs.Fields.{head_size, length_at, body_at, next_at, field_tests}
use Rattle.record_format.specs.Runs.{rate_tag, side_tag, count_tag, ratios_tag, rate_size, side_size, count_size}
use Rattle.record_format.specs.Reading.{rate_at, side_at, has_side, count_at, positions_at, ratios_at, rate_in, count_in, form_in, positions_in, other_rate, rate_tests, side_tests, count_tests, front_tests, positions_tests, ratios_tests, record_tests}
use Rattle.record_format.specs.Checking.{checked, check_number}
use Rattle.record_format.specs.Claims.{Bytes}
use Rattle.record_format.specs.CheckClaims.{TellsAnswer, NumberTells}
use Rattle.record_format.specs.Sizes.{max_positions_body}
use Rattle.record_format.proofs.Reading.{field_clear, side_numbered, front-numbered, missing-some}
use Rattle.record_format.proofs.Reading.Sides.{SideSound, absent_count, absent_tests, present_count, present_tests, side_clear}
use Rattle.record_format.proofs.Checking.{found-whole}
use Rattle.record_format.proofs.CheckClaims.{checks_only, check_refusals}
use Rattle.record_format.proofs.Runs.{coded_size}
use Rattle.record_format.proofs.Sizes.{within}

-- ---- places

-- a refusal's place is at most b: of a test, and of one list after another
first_near : (b : ℕ) (t : Test) (ts : List Test) → t.place ≤ b → (first_of ts).place ≤ b → (first_of (t ∷ ts)).place ≤ b
unfolding first_of
first_near b t ts h g = go t.applies
  where
    go : (x : Bool) → (cond x (refusal t.number t.place) (first_of ts)).place ≤ b
    go true = h
    go false = g

end_near : (b : ℕ) → (first_of []).place ≤ b
unfolding first_of
end_near b = omega arith

append_near : (b : ℕ) (ss ts : List Test) → numbered ss ≡ true → (first_of ss).place ≤ b → ((first_of ss).number ≡ 0 → (first_of ts).place ≤ b) → (first_of (ss ++ ts)).place ≤ b
append_near b ss ts n h g = go (eqb (first_of ss).number 0) refl
  where
    go : (x : Bool) → eqb (first_of ss).number 0 ≡ x → (first_of (ss ++ ts)).place ≤ b
    go true e = let z = eqb-true _ _ e in rw (first_of-append-none ss ts n z) (g z)
    go false e = rw (first_of-append-some ss ts (eqb-false _ _ e)) h

-- the tests of a field at p, and then others
field_near : (b : ℕ) (s tags : List ℕ) (n : Option ℕ) (p : ℕ) (ts : List Test) → p ≤ b → (first_of ts).place ≤ b → (first_of (field_tests s tags n p ++ ts)).place ≤ b
field_near b s tags none p ts h g = first_near b _ _ h (first_near b _ _ h (first_near b _ _ h g))
field_near b s tags (some k) p ts h g = first_near b _ _ h (first_near b _ _ h (first_near b _ _ h (first_near b _ _ h g)))

-- in the wide form they can be longest
size_widest : (f : Form) → max_positions_body f ≤ 30187
size_widest Old = lit≤ tt
size_widest Wide = lit≤ tt

module _ (s : List ℕ) where
  rate_near : (e b : ℕ) → (first_of (rate_tests e s)).place ≤ b
  rate_near e b =
      let h : rate_at ≤ b = omega arith in
      field_near b s (rate_tag ∷ []) (some rate_size) rate_at _ h (first_near b _ _ h (first_near b _ _ h (end_near b)))

  -- past the rate
  side_at_lem : (e : ℕ) → (first_of (rate_tests e s)).number ≡ 0 → side_at s ≡ 7
  unfolding next_at
  side_at_lem e z =
      let f = (field_clear s (rate_tag ∷ []) (some rate_size) rate_at (test (not (is_rate (rate_in s))) 13 rate_at ∷ test (other_rate e (rate_in s)) 14 rate_at ∷ []) z).0 in
      omega (arith, f.stated)

  side_near : (b : ℕ) → side_at s ≤ b → (first_of (side_tests s)).place ≤ b
  side_near b h = go (has_side s) refl
    where
      go : (x : Bool) → has_side s ≡ x → (first_of (side_tests s)).place ≤ b
      go true e = rw (present_tests s e) (field_near b s (side_tag ∷ []) (some side_size) (side_at s) _ h (first_near b _ _ h (end_near b)))
      go false e = rw (absent_tests s e) (end_near b)

  -- past the side
  count_at_lem : (first_of (side_tests s)).number ≡ 0 → count_at s ≤ side_at s + 4
  unfolding next_at
  count_at_lem z = go (side_clear s [] (ap (λ (l : List Test). (first_of l).number) (append-nil (side_tests s)) ∙ z)).0
    where
      go : SideSound s → count_at s ≤ side_at s + 4
      go (inl e) = omega (arith, absent_count s e)
      go (inr h) = omega (arith, present_count s h.0, h.1.stated)

  count_near : (b : ℕ) → count_at s ≤ b → (first_of (count_tests s)).place ≤ b
  count_near b h = field_near b s (count_tag ∷ []) (some count_size) (count_at s) _ h (first_near b _ _ h (end_near b))

  -- past the count
  positions_at_lem : (first_of (count_tests s)).number ≡ 0 → positions_at s ≤ count_at s + 5
  unfolding next_at
  positions_at_lem z =
      let f = field_clear s (count_tag ∷ []) (some count_size) (count_at s) (test (ltb max_points (count_in s)) 15 (count_at s) ∷ []) z in
      omega (arith, f.0.stated)

  positions_near : (b : ℕ) → count_at s ≤ b → positions_at s ≤ b → (first_of (positions_tests s)).place ≤ b
  positions_near b g h = first_near b _ _ h (first_near b _ _ h (first_near b _ _ g (first_near b _ _ h (first_near b _ _ h (end_near b)))))

  -- past the positions, which take no more than a run in their form can have
  ratios_at_lem : (first_of (positions_tests s)).number ≡ 0 → ratios_at s ≤ positions_at s + 30190
  unfolding next_at body_at
  ratios_at_lem z =
      let head = first_of_clear _ _ (lit< tt) z in
      let tag = first_of_clear _ _ (lit< tt) head.1 in
      let c15 = first_of_clear _ _ (lit< tt) tag.1 in
      let body = first_of_clear _ _ (lit< tt) c15.1 in
      let c17 = first_of_clear _ _ (lit< tt) body.1 in
      let points = missing-some (positions_in s) c17.0 in
      let p = positions_at s in
      let q = read_only (table_of (form_in s)) (count_in s) (body_at s p) points.0 points.1 in
      let few = ltb-false (points_of (form_in s)) (count_in s) c15.0 in
      let whole = ltb-false (length s) (next_at s p) body.0 in
      omega (
        arith,
        ap length q.0,
        coded_size (form_in s) points.0 q.1 (omega (arith, q.2)),
        size_widest (form_in s),
        length-take (length_at s p) (drop (p + head_size) s),
        length-drop (p + head_size) s,
        ltb-false (length s) (p + head_size) head.0,
      )

  ratios_near : (b : ℕ) → ratios_at s ≤ b → (first_of (ratios_tests strict_ratios s)).place ≤ b
  ratios_near b h = field_near b s (ratios_tag ∷ []) none (ratios_at s) _ h (first_near b _ _ h (end_near b))

  -- no refusal of a check has a place past that of the ratios' field behind the longest positions
  pub check_place : (e : ℕ) → (first_of (record_tests strict_ratios e s)).place ≤ 30206
  check_place e =
      append_near 30206 (front_tests e s) _ (front-numbered e s)
      (append_near 30206 (rate_tests e s) _ refl (rate_near e 30206)
      (λ r. append_near 30206 (side_tests s) _ (side_numbered s) (side_near 30206 (omega (arith, side_at_lem e r)))
      (λ d. count_near 30206 (omega (arith, side_at_lem e r, count_at_lem d)))))
      (λ f.
      let g = parts e f in
      append_near 30206 (positions_tests s) _ refl (positions_near 30206 (omega (arith, g.0)) (omega (arith, g.1)))
      (λ p. ratios_near 30206 (omega (arith, g.1, ratios_at_lem p))))
    where
      parts : (e : ℕ) → (first_of (front_tests e s)).number ≡ 0 → (count_at s ≤ 11) × (positions_at s ≤ 16)
      parts e f =
          let a = first_of-append_clear (rate_tests e s) (side_tests s ++ count_tests s) refl f in
          let b = first_of-append_clear (side_tests s) (count_tests s) (side_numbered s) a.1 in
          let n = positions_at_lem b.1 in
          let k : count_at s ≤ 11 = omega (arith, side_at_lem e a.0, count_at_lem b.0) in
          (k, omega (arith, n))

-- ---- sizes and numbers

check_size : (e : ℕ) (s : List ℕ) → Bytes s → (checked e s).number ≡ 0 → (18 ≤ (checked e s).size) × ((checked e s).size ≤ 61709)
check_size e s bytes z =
    let b = checks_only e s bytes z in
    let w = within b.0 b.1 in
    let n = ap (λ (a : CheckAnswer). a.size) b.3 in
    (omega (arith, w.0, n), omega (arith, w.1, n))

-- a refusal's
check_number_lem : (e : ℕ) (s : List ℕ) → ((checked e s).number ≡ 0 → ⊥) → (10 ≤ (checked e s).number) × ((checked e s).number ≤ 20)
check_number_lem e s d =
    let n = (checked e s).number in
    let h = among_every (λ m. cond (eqb m 0) true (both (leb 10 m) (leb m 20))) n _ refl (check_refusals e s).0 in
    go n d h
  where
    go : (n : ℕ) → (n ≡ 0 → ⊥) → cond (eqb n 0) true (both (leb 10 n) (leb n 20)) ≡ true → (10 ≤ n) × (n ≤ 20)
    go n d h = by (eqb n 0) refl h
      where
        by : (b : Bool) → eqb n 0 ≡ b → cond b true (both (leb 10 n) (leb n 20)) ≡ true → (10 ≤ n) × (n ≤ 20)
        by true q h = absurd (d (eqb-true n 0 q))
        by false q h = let p = both_true (leb 10 n) _ h in (leb-true 10 n p.0, leb-true n 20 p.1)

pub number_tells : NumberTells
number_tells e s bytes = go (eqb (checked e s).number 0) refl
  where
    go : (x : Bool) → eqb (checked e s).number 0 ≡ x → TellsAnswer (checked e s) (check_number (checked e s))
    go true q =
        let z = eqb-true _ _ q in
        let n = check_size e s bytes z in
        rw q (record { sound = λ _. (refl, n.0, n.1); refused = λ d. absurd (d z); fits = omega arith })
    go false q =
        let d = eqb-false _ _ q in
        let p : (checked e s).place ≤ 30206 = subst (λ (a : CheckAnswer). a.place ≤ 30206) (sym (found-whole strict_ratios e s d)) (check_place s e) in
        let n = check_number_lem e s d in
        rw q (record { sound = λ z. absurd (d z); refused = λ _. (omega arith, omega arith, omega arith, p); fits = omega arith })
