-- Two strings of bytes compared: by what a check finds in each, of two records, and of all else.
use mathlib.Core.Bool.{Bool, true, false}
use mathlib.Core.List.{List, [], ◌++◌, append-nil}
use mathlib.Core.Logic.{inl}
use mathlib.Core.Path.{◌≡◌, refl, sym, ap, ap₂, subst, ◌∙◌}
use Prim.Native.Nat.{ℕ, ◌≤◌}
use native.Mathlib.Omega.{arith}
use borrow.Author.Tests.{eqb-true, eqb-false, eq-eqb, ne_eqb}
use lib.Dec.{eqb}
use lib.ListN.{length, take}
use Rattle.position_format.specs.declared.Form as form
use Rattle.record_format.specs.Claims.{Accepted, Beginning, Bytes}
use Rattle.record_format.specs.Checking.{run_in, checked}
use Rattle.record_format.specs.CheckClaims.{run_check}
use Rattle.record_format.specs.Fetching.{fetched}
use Rattle.record_format.specs.FetchClaims.{run_fetch}
use Rattle.record_format.specs.Runs.{Run, run, record_of}
use Rattle.record_format.specs.declared.CheckAnswer.{CheckAnswer}
use Rattle.record_format.proofs.Checking.{found_number}
use Rattle.record_format.proofs.CheckClaims.{checks_record, checks_only, check_refusals}
use Rattle.record_format.proofs.Fetching.{never_sixteen}
use Rattle.record_format.proofs.FetchClaims.{fetches_record}
use Rattle.record_format.proofs.Claims.{trailing_bytes}
use Rattle.record_format.proofs.Claims.Trailing.{followed}
use Rattle.record_format.proofs.Runs.{form_of_lem}
use Rattle.record_format.proofs.Writing.{accepted_fits}
use Rattle.ratio_format.specs.Bodies.{strict_ratios}
use Rattle.outputs.proofs.Outputs.{take-over}
use Rattle.std.proofs.Common.{Result, Ok, Err}
use Rattle.differences.specs.declared.Which.{Which}
use Rattle.differences.specs.declared.Which.TheVariants.{First, Second}
use Rattle.differences.specs.declared.OverallDifferences.{OverallDifferences}
use Rattle.differences.specs.declared.RefusedRecord.{RefusedRecord}
use Rattle.differences.specs.Numbers.{which_number}
use Rattle.differences.specs.Differences.{differences}
use Rattle.differences.specs.Overall.{refused_record, overall_sound, overall_of}
use Rattle.differences.specs.Comparisons.{Comparison, refused_comparison, compared, comparison}
use Rattle.differences.specs.Claims.{Compares, ComparesOnly, EmptyExactly, RefusesFirst, RefusesSecond, run_called, MakeUp, ByCalls, ComparisonTrailing, ComparisonFollowed}
use Rattle.differences.proofs.Claims.{same-run, none_own}
use Rattle.differences.proofs.Overall.{both_zero, overall_first, overall_second, overall_both}

-- ---- by two checks

module _ (a : CheckAnswer) (r : Run) (b : CheckAnswer) (q : Run) where
  pub compared-first : (a.number ≡ 0 → ⊥) → compared a r b q ≡ refused_comparison a 1
  unfolding compared
  compared-first n = rw (ne_eqb a.number 0 n)

  pub compared-second : a.number ≡ 0 → (b.number ≡ 0 → ⊥) → compared a r b q ≡ refused_comparison b 2
  unfolding compared
  compared-second ok n = rw (eq-eqb a.number 0 ok, ne_eqb b.number 0 n)

  compared-both : a.number ≡ 0 → b.number ≡ 0 → compared a r b q ≡ record { number = 0; place = 0; which = 0; list = differences r q }
  unfolding compared
  compared-both ok fine = rw (eq-eqb a.number 0 ok, eq-eqb b.number 0 fine)

  -- where neither was refused
  compared_clear : (compared a r b q).number ≡ 0 → (a.number ≡ 0) × (b.number ≡ 0)
  unfolding compared
  compared_clear e =
      both_zero (λ (c : Comparison). c.number) a.number b.number
      (record { number = 0; place = 0; which = 0; list = differences r q }) (refused_comparison b 2) (refused_comparison a 1) refl refl e

-- ---- of two records

-- what a check finds in two strings of bytes, of which neither is refused
module _ (s t : List ℕ) (r q : Run) (e : checked 0 s ≡ run_check r) (is : run_in s ≡ r) (k : checked 0 t ≡ run_check q) (are : run_in t ≡ q) where
  compared_own : comparison s t ≡ record { number = 0; place = 0; which = 0; list = differences r q }
  compared_own =
      compared-both (checked 0 s) (run_in s) (checked 0 t) (run_in t) (ap (λ (x : CheckAnswer). x.number) e) (ap (λ (x : CheckAnswer). x.number) k)
      ∙ ap₂ (λ (x y : Run). record { number = 0; place = 0; which = 0; list = differences x y }) is are

pub compares : Compares
compares r q a b x y =
    let c = checks_record r a 0 x in
    let d = checks_record q b 0 y in
    compared_own (record_of r ++ x) (record_of q ++ y) r q (c.1 (inl refl)) c.2 (d.1 (inl refl)) d.2

pub compares_only : ComparesOnly
compares_only s t u v e =
    let h = compared_clear (checked 0 s) (run_in s) (checked 0 t) (run_in t) e in
    let r = checks_only 0 s u h.0 in
    let q = checks_only 0 t v h.1 in
    (r.0, q.0, r.1, q.1, r.2, q.2, compared_own s t r.0 q.0 r.3 r.4 q.3 q.4)

pub empty_exactly : EmptyExactly
empty_exactly s t u v = (
  λ e.
      let c = compares_only s t u v e.0 in
      let r : Run = c.0 in
      let same = same-run r c.1 c.2 c.3 (sym (ap (λ (x : Comparison). x.list) c.6) ∙ e.1) in
      (r, c.2, c.4, subst (λ (x : Run). Beginning (record_of x) t) (sym same) c.5),
  λ h.
      let r : Run = h.0 in
      let is : comparison s t ≡ record { number = 0; place = 0; which = 0; list = differences r r } =
      ap₂ comparison h.2.1 h.3.1 ∙ compares r r h.1 h.1 h.2.0 h.3.0 in
      (ap (λ (x : Comparison). x.number) is, ap (λ (x : Comparison). x.list) is ∙ none_own r h.1),
)

-- ---- of all else

-- what begins with no record is refused, and how it never is
module _ (s : List ℕ) where
  refused-some : Bytes s → ((r : Run) → Accepted r → Beginning (record_of r) s → ⊥) → (checked 0 s).number ≡ 0 → ⊥
  refused-some bytes never e = let r = checks_only 0 s bytes e in never r.0 r.1 r.2

  refused_sixteen : (checked 0 s).number ≡ 16 → ⊥
  refused_sixteen z = never_sixteen strict_ratios 0 s (sym (found_number strict_ratios 0 s) ∙ z)

pub refuses-first : RefusesFirst
refuses-first s t u never =
    let n = refused-some s u never in
    (n, (check_refusals 0 s).1, refused_sixteen s, compared-first (checked 0 s) (run_in s) (checked 0 t) (run_in t) n)

pub refuses-second : RefusesSecond
refuses-second r a x t u never =
    let n = refused-some t u never in
    let s = record_of r ++ x in (
      n,
      (check_refusals 0 t).1,
      refused_sixteen t,
      compared-second (checked 0 s) (run_in s) (checked 0 t) (run_in t) (ap (λ (b : CheckAnswer). b.number) ((checks_record r a 0 x).1 (inl refl))) n,
    )

-- ---- by what the calls answer

-- a refusal
made-refused : (x y : Run) (m n : ℕ) {h : Result OverallDifferences RefusedRecord} {c : Comparison} (a : CheckAnswer) (w : Which)
    → h ≡ Err (refused_record a w) → c ≡ refused_comparison a (which_number w) → MakeUp h x y m n c
made-refused x y m n a w e k = rw (e, k) refl

-- two records
made_own : (r q : Run)
    → MakeUp (Ok (overall_sound (run_check r) (run_check q))) r q (length r.positions) (length q.positions)
    (record { number = 0; place = 0; which = 0; list = differences r q })
unfolding differences
made_own r q = refl

-- any two strings of bytes, by the answers of their checks and, where these accept, by the runs in their fields
module _ (s t : List ℕ) (u : Bytes s) (v : Bytes t) (x y : Run) (is : (checked 0 s).number ≡ 0 → x ≡ run_in s) (are : (checked 0 t).number ≡ 0 → y ≡ run_in t) where
  abbrev a : CheckAnswer
  a = checked 0 s

  abbrev b : CheckAnswer
  b = checked 0 t

  made-sound : (r q : Run) → a ≡ run_check r → run_in s ≡ r → b ≡ run_check q → run_in t ≡ q → x ≡ run_in s → y ≡ run_in t
      → MakeUp (Ok (overall_sound a b)) x y a.count b.count (comparison s t)
  made-sound r q e i k j f g = rw (compared_own s t r q e i k j, f ∙ i, g ∙ j, e, k) (made_own r q)

  pub made_up : MakeUp (overall_of a b) x y a.count b.count (comparison s t)
  made_up = go (eqb a.number 0) refl (eqb b.number 0) refl
    where
      go : (o : Bool) → eqb a.number 0 ≡ o → (p : Bool) → eqb b.number 0 ≡ p → MakeUp (overall_of a b) x y a.count b.count (comparison s t)
      go false w p z =
          let no = eqb-false _ _ w in
          made-refused x y a.count b.count a First (sym (overall_first a b no)) (compared-first a (run_in s) b (run_in t) no)
      go true w false z =
          let ok = eqb-true _ _ w in
          let no = eqb-false _ _ z in
          made-refused x y a.count b.count b Second (sym (overall_second a b ok no)) (compared-second a (run_in s) b (run_in t) ok no)
      go true w true z =
          let ok = eqb-true _ _ w in
          let fine = eqb-true _ _ z in
          let r = checks_only 0 s u ok in
          let q = checks_only 0 t v fine in
          subst (λ (h : Result OverallDifferences RefusedRecord). MakeUp h x y a.count b.count (comparison s t)) (overall_both a b ok fine)
          (made-sound r.0 q.0 r.3 r.4 q.3 q.4 (is ok) (are fine))

-- a run comes back from what a check answers of its record and what a fetch leaves, whatever the outputs held
own_called : (r : Run) → Accepted r → (ts vs : List ℕ) → run_called (run_check r) (run_fetch r ts vs) ≡ r
own_called r a ts vs =
    let f = accepted_fits r a.passes in
    let o = run_fetch r ts vs in
    let n = length r.positions in
    ap (λ (x : form.Form). run r.rate r.side x (take n o.positions) (take n o.ratios)) (form_of_lem r.form)
    ∙ ap₂ (λ (x y : List ℕ). run r.rate r.side r.form x y) (take-over r.positions ts n refl) (take-over r.ratios vs n f.paired)

-- so does the run in bytes that a check accepts
run_called_lem : (s ts vs : List ℕ) → Bytes s → (checked 0 s).count ≤ length ts → (checked 0 s).count ≤ length vs → (checked 0 s).number ≡ 0
    → run_called (checked 0 s) (fetched 0 s ts vs) ≡ run_in s
run_called_lem s ts vs bytes m n ok =
    let h = checks_only 0 s bytes ok in
    let r : Run = h.0 in
    let c = ap (λ (x : CheckAnswer). x.count) h.3 in
    let f = (fetches_record r h.1 0 h.2.0 ts vs).2 (inl refl) (omega (arith, c, m)) (omega (arith, c, n)) in
    ap₂ run_called h.3 (ap (λ (l : List ℕ). fetched 0 l ts vs) h.2.1 ∙ f) ∙ own_called r h.1 ts vs ∙ sym h.4

pub by_calls : ByCalls
by_calls s t ts vs us ws u v m n k l =
    made_up s t u v (run_called (checked 0 s) (fetched 0 s ts vs)) (run_called (checked 0 t) (fetched 0 t us ws)) (run_called_lem s ts vs u m n) (run_called_lem t us ws v k l)

-- ---- bytes behind

-- what a check finds decides
module _ (s t u : List ℕ) (e : checked 0 s ≡ checked 0 t) (is : run_in s ≡ run_in t) where
  comparison-same : (comparison s u ≡ comparison t u) × (comparison u s ≡ comparison u t)
  comparison-same = (
    ap₂ (λ (a : CheckAnswer) (r : Run). compared a r (checked 0 u) (run_in u)) e is,
    ap₂ (compared (checked 0 u) (run_in u)) e is,
  )

pub comparison_trailing : ComparisonTrailing
comparison_trailing r a rest s =
    comparison-same (record_of r ++ rest) (record_of r) s (trailing_bytes r a 0 rest [] []).0
    ((checks_record r a 0 rest).2 ∙ sym (checks_record r a 0 []).2 ∙ ap run_in (append-nil (record_of r)))

pub comparison_followed : ComparisonFollowed
comparison_followed t rest s whole = let h = followed strict_ratios 0 t rest whole in comparison-same (t ++ rest) t s h.0 h.1
