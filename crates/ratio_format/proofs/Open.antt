-- Laws of the open rule for one ratio, and of strict reading of one: what each reads, by outcome; that what is written for a ratio is read back as
-- that ratio, whatever follows, and strict reading takes exactly that; and what a ratio that was read says: it has 64 bits, its bytes are
-- there, and no form that is read as it is shorter than the one that is written.
pub mod Shortest
use Rattle.std.specs.Prelude.{None}
use mathlib.Core.Path.{◌≡◌, refl, sym, ap, ◌∙◌, subst}
use mathlib.Core.Bool.{Bool, true, false, cond}
use mathlib.Core.List.{List, [], ◌∷◌, ◌++◌}
use Prim.Native.Nat.{ℕ, ◌+◌, ◌-◌, ◌*◌, ◌/◌, ◌%◌, ◌^◌, ◌≤◌, ◌<◌}
use native.Mathlib.Omega.{arith}
use lib.Bits.{bit_xor, xor_lt}
use lib.ListN.{length, get_or, take, drop, length-append, length-drop}
use lib.Dec.{lit<, leb, ltb}
use lib.Seq.{take_at, length-take-le}
use borrow.Author.Tests.{lt-ltb, le-ltb, le-leb, lt-leb, ltb-true, leb-true}
use Rattle.std.specs.Bool.{then_some}
use Rattle.std.proofs.lemmas.Option.{some_pair_parts}
use Rattle.lists.specs.Compare.{begins}
use Rattle.lists.specs.Below.{Below}
use Rattle.bits.specs.Digits.{number_of, bytes_of}
use Rattle.lists.proofs.Below.{below_at, below_take, below_drop}
use Rattle.lists.proofs.Compare.{begins_own, begins_rest}
use Rattle.bits.proofs.Digits.{length_digits, number_digits_lt, number_lt}
use Rattle.ratio_format.specs.declared.RatioForm.{RatioForm}
use Rattle.ratio_format.specs.Zeros.{lead_zeros, trail_zeros, sum_of}
use Rattle.ratio_format.specs.Windows.{window_size}
use Rattle.ratio_format.specs.Choice.{best, find, ratio_form}
use Rattle.ratio_format.specs.RatioForms.{xor_byte, exception_byte, written, coded}
use Rattle.ratio_format.specs.Open.{Read, Ratio, open_one, open_xor, strict_one, strict_of}
use Rattle.ratio_format.proofs.Zeros.{trail_factor, middle_fits, raised_fits, zeros_most}
use Rattle.ratio_format.proofs.Zeros.Sums.{xor-back}
use Rattle.ratio_format.proofs.Choice.{best_at, best_most, find_at, find_lt, ratio_form_cases, best-xor, absent_small}
use Rattle.ratio_format.proofs.RatioForms.{ratio_form_len, coded_is, coded-length}

-- ---- what is read, by outcome

-- after the byte of a place that holds u
module _ (u : ℕ) where
  pub xor-empty : (s : List ℕ) → length s ≡ 0 → None ≡ open_xor u s
  unfolding open_xor
  xor-empty [] e = refl
  xor-empty (c ∷ s) e = absurd (omega arith)

  pub xor_high : (s : List ℕ) → (length s ≡ 0 → ⊥) → 8 < get_or s 0 0 / 16 + get_or s 0 0 % 16 → None ≡ open_xor u s
  unfolding open_xor
  xor_high [] n h = absurd (n refl)
  xor_high (c ∷ s) n h = rw (lt-leb (c / 16 + c % 16) 8 h)

  pub xor_short : (s : List ℕ) → (length s ≡ 0 → ⊥) → get_or s 0 0 / 16 + get_or s 0 0 % 16 ≤ 8 → length s - 1 < get_or s 0 0 % 16 → None ≡ open_xor u s
  unfolding open_xor
  xor_short [] n h g = absurd (n refl)
  xor_short (c ∷ s) n h g = rw (le-leb (c / 16 + c % 16) 8 h, lt-leb (c % 16) (length s) (omega arith))

  pub xor_good : (s : List ℕ) (m r : ℕ) → (length s ≡ 0 → ⊥) → get_or s 0 0 / 16 + get_or s 0 0 % 16 ≤ 8 → get_or s 0 0 % 16 ≤ length s - 1
      → m ≡ number_of 256 (take (get_or s 0 0 % 16) (drop 1 s)) → r ≡ m * 256 ^ (get_or s 0 0 / 16) → Ratio (bit_xor r u) (get_or s 0 0 % 16 + 2) ≡ open_xor u s
  unfolding open_xor
  xor_good [] m r n h g e q = absurd (n refl)
  xor_good (c ∷ s) m r n h g e q = rw (le-leb (c / 16 + c % 16) 8 h, le-leb (c % 16) (length s) (omega arith), q, e)

-- from the first byte on
module _ (w : List ℕ) where
  pub open_empty : (s : List ℕ) → length s ≡ 0 → None ≡ open_one w s
  unfolding open_one
  open_empty [] e = refl
  open_empty (c ∷ s) e = absurd (omega arith)

  pub open_reference : (s : List ℕ) (v : ℕ) → (length s ≡ 0 → ⊥) → get_or s 0 0 < xor_byte → get_or s 0 0 < length w → v ≡ get_or w (get_or s 0 0) 0 → Ratio v 1 ≡ open_one w s
  unfolding open_one
  open_reference [] v n h g e = absurd (n refl)
  open_reference (b ∷ s) v n h g e = rw (lt-ltb b xor_byte h, lt-ltb b (length w) g, e)

  pub open_far : (s : List ℕ) → (length s ≡ 0 → ⊥) → get_or s 0 0 < xor_byte → length w ≤ get_or s 0 0 → None ≡ open_one w s
  unfolding open_one
  open_far [] n h g = absurd (n refl)
  open_far (b ∷ s) n h g = rw (lt-ltb b xor_byte h, le-ltb b (length w) g)

  pub open_xor_lem : (s : List ℕ) (u : ℕ) (r : Read) → (length s ≡ 0 → ⊥) → xor_byte ≤ get_or s 0 0 → get_or s 0 0 < exception_byte → get_or s 0 0 - xor_byte < length w
      → u ≡ get_or w (get_or s 0 0 - xor_byte) 0 → r ≡ open_xor u (drop 1 s) → r ≡ open_one w s
  unfolding open_one
  open_xor_lem [] u r n h g f e q = absurd (n refl)
  open_xor_lem (b ∷ s) u r n h g f e q = rw (le-ltb b xor_byte h, lt-ltb b exception_byte g, lt-ltb (b - xor_byte) (length w) f) (q ∙ ap (λ (x : ℕ). open_xor x s) e)

  pub open_away : (s : List ℕ) → (length s ≡ 0 → ⊥) → xor_byte ≤ get_or s 0 0 → get_or s 0 0 < exception_byte → length w ≤ get_or s 0 0 - xor_byte → None ≡ open_one w s
  unfolding open_one
  open_away [] n h g f = absurd (n refl)
  open_away (b ∷ s) n h g f = rw (le-ltb b xor_byte h, lt-ltb b exception_byte g, le-ltb (b - xor_byte) (length w) f)

  pub open_exception : (s : List ℕ) (v : ℕ) → exception_byte ≤ get_or s 0 0 → 9 ≤ length s → v ≡ number_of 256 (take 8 (drop 1 s)) → Ratio v 9 ≡ open_one w s
  unfolding open_one
  open_exception [] v h g e = absurd (omega arith)
  open_exception (b ∷ s) v h g e = rw (le-ltb b xor_byte (omega arith), le-ltb b exception_byte h, le-leb 8 (length s) (omega arith), e)

  pub open_cut : (s : List ℕ) → (length s ≡ 0 → ⊥) → exception_byte ≤ get_or s 0 0 → length s < 9 → None ≡ open_one w s
  unfolding open_one
  open_cut [] n h g = absurd (n refl)
  open_cut (b ∷ s) n h g = rw (le-ltb b xor_byte (omega arith), le-ltb b exception_byte h, lt-leb 8 (length s) (omega arith))

-- strict reading, from an open one
module _ (w s : List ℕ) (r : Read) (o : r ≡ open_one w s) where
  pub strict_nothing : r ≡ None → None ≡ strict_one w s
  unfolding strict_one
  strict_nothing e = ap (strict_of w s) (sym e ∙ o)

  -- of a ratio read openly the test of its bytes decides
  pub strict_if : (v n : ℕ) (t : Bool) → r ≡ Ratio v n → t ≡ begins (coded v w) s → then_some t (v, n) ≡ strict_one w s
  unfolding strict_one
  strict_if v n t e b = given t ∙ ap (λ (x : Bool). cond x (Ratio v n) None) b ∙ ap (strict_of w s) (sym e ∙ o)
    where
      given : (x : Bool) → then_some x (v, n) ≡ cond x (Ratio v n) None
      given true = refl
      given false = refl

-- ---- what is written is read back

-- each form is read back
module _ (w rest : List ℕ) (small : length w ≤ window_size) where
  pub read_reference : (v p : ℕ) → p < length w → get_or w p 0 ≡ v → open_one w (p ∷ rest) ≡ Ratio v 1
  unfolding open_one
  read_reference v p h e = rw (lt-ltb p xor_byte (omega arith), lt-ltb p (length w) h) (ap (λ (x : ℕ). Ratio x 1) e)

  pub read_xor : (p t n m : ℕ) → p < length w → t + n ≤ 8 → m < 256 ^ n
      → open_one w ((p + xor_byte) ∷ (t * 16 + n) ∷ (bytes_of n m ++ rest)) ≡ Ratio (bit_xor (m * 256 ^ t) (get_or w p 0)) (n + 2)
  unfolding open_one open_xor
  read_xor p t n m h g f =
      let a : p + xor_byte - xor_byte ≡ p = omega arith in
      let b : (t * 16 + n) / 16 ≡ t = omega arith in
      let c : (t * 16 + n) % 16 ≡ n = omega arith in
      rw (le-ltb (p + xor_byte) xor_byte (omega arith), lt-ltb (p + xor_byte) exception_byte (omega arith), a, lt-ltb p (length w) h, b, c, le-leb (t + n) 8 g)
      (rw (le-leb n (length (bytes_of n m ++ rest)) (rw (length-append, length_digits) (omega arith)), take_at (bytes_of n m) rest n (length_digits 256 n m), number_digits_lt (lit< tt) n f))

  pub read_exception : (v : ℕ) → v < 2 ^ 64 → open_one w (exception_byte ∷ (bytes_of 8 v ++ rest)) ≡ Ratio v 9
  unfolding open_one
  read_exception v h =
      rw (le-leb 8 (length (bytes_of 8 v ++ rest)) (rw (length-append, length_digits) (omega arith)), take_at (bytes_of 8 v) rest 8 (length_digits 256 8 v), number_digits_lt (lit< tt) 8 h)

module _ (v : ℕ) (w rest : List ℕ) (hv : v < 2 ^ 64) (ha : Below (2 ^ 64) w) (hw : length w ≤ window_size) where
  by_form : open_one w (written v (ratio_form v w) ++ rest) ≡ Ratio v (ratio_form_len (ratio_form v w))
  unfolding written
  by_form =
      ratio_form_cases v w (λ (f : RatioForm). open_one w (written v f ++ rest) ≡ Ratio v (ratio_form_len f))
      (λ h. read_reference w rest hw v (find v w) h (find_at v w h))
      (λ h g.
      let b = best_at v w (omega arith) in
      let u = get_or w (best v w).place 0 in
      let x = bit_xor v u in
      let s : lead_zeros x + trail_zeros x < 8 = omega (arith, best-xor v w g, absent_small v w hv ha h) in
      let fits = middle_fits x (xor_lt 64 v u hv (below_at (2 ^ 64) (lit< tt) w ha (best v w).place)) (omega arith) in
      let reads = read_xor w rest hw (best v w).place (trail_zeros x) (8 - (lead_zeros x + trail_zeros x)) (x / 256 ^ trail_zeros x) b.0 (omega arith) fits in
      reads ∙ ap (λ (y : ℕ). Ratio y (8 - (lead_zeros x + trail_zeros x) + 2)) (ap (λ (y : ℕ). bit_xor y u) (trail_factor x) ∙ xor-back v u))
      (λ h g. read_exception w rest hw v hv)

  pub read_back : open_one w (coded v w ++ rest) ≡ Ratio v (length (coded v w))
  unfolding coded
  read_back = by_form ∙ ap (λ (n : ℕ). Ratio v n) (sym (coded_is v w))

  pub strict_takes : strict_one w (coded v w ++ rest) ≡ Ratio v (length (coded v w))
  unfolding strict_one
  strict_takes = rw (read_back, begins_own (coded v w) rest)

-- what strict reading gives is read openly, and its written form stands at the front
pub strict_open : (v n : ℕ) (w s : List ℕ) → strict_one w s ≡ Ratio v n → (open_one w s ≡ Ratio v n) × (begins (coded v w) s ≡ true)
unfolding strict_one
strict_open v n w s e = go (open_one w s) refl e
  where
    at : (v' n' : ℕ) → open_one w s ≡ Ratio v' n' → (t : Bool) → begins (coded v' w) s ≡ t → cond t (Ratio v' n') None ≡ Ratio v n
        → (open_one w s ≡ Ratio v n) × (begins (coded v w) s ≡ true)
    at v' n' q true b e = let i : v' ≡ v = (some_pair_parts v' v n' n e).0 in (q ∙ e, rw i at b)
    at v' n' q false b e = let z : ◌≡◌ {A = ℕ} 0 1 = cc in absurd (omega arith)

    go : (r : Read) → open_one w s ≡ r → strict_of w s r ≡ Ratio v n → (open_one w s ≡ Ratio v n) × (begins (coded v w) s ≡ true)
    go None q e = let z : ◌≡◌ {A = ℕ} 0 1 = cc in absurd (omega arith)
    go (Ratio v' n') q e = at v' n' q (begins (coded v' w) s) refl e

-- and nothing else: a ratio that strict reading gives stands there as it is written
pub strict_only : (v n : ℕ) (w s : List ℕ) → v < 2 ^ 64 → Below (2 ^ 64) w → length w ≤ window_size → strict_one w s ≡ Ratio v n
    → (t : List ℕ) × (s ≡ coded v w ++ t) × (n ≡ length (coded v w))
strict_only v n w s hv ha hw e =
    let o = strict_open v n w s e in
    let r = begins_rest (coded v w) s o.1 in
    let b : open_one w s ≡ Ratio v (length (coded v w)) = rw r.1 (read_back v w r.0 hv ha hw) in
    (r.0, r.1, (some_pair_parts v v n (length (coded v w)) (sym o.0 ∙ b)).1)

-- ---- what a ratio that was read says

-- the ratio v, read from k bytes of s, by its form
pub data Opened (w s : List ℕ) (v k : ℕ) : Type 0 where
  referred : (p : ℕ) → p < length w → 1 ≤ length s → v ≡ get_or w p 0 → k ≡ 1 → Opened w s v k
  xored : (p t n : ℕ) → p < length w → t + n ≤ 8 → n + 2 ≤ length s → v ≡ bit_xor (number_of 256 (take n (drop 2 s)) * 256 ^ t) (get_or w p 0) → k ≡ n + 2
      → Opened w s v k
  excepted : 9 ≤ length s → v ≡ number_of 256 (take 8 (drop 1 s)) → k ≡ 9 → Opened w s v k

module _ (w : List ℕ) (v k : ℕ) where
  abbrev When : Read → Type 0
  When r = r ≡ Ratio v k

  never : {A : Type 0} → When None → A
  never e = let z : ◌≡◌ {A = ℕ} 0 1 = cc in absurd (omega arith)

  -- of a ratio read both numbers are known
  parts : (x n : ℕ) → When (Ratio x n) → (v ≡ x) × (k ≡ n)
  parts x n e = let p = some_pair_parts x v n k e in (sym p.0, sym p.1)

  xor_opened : (b p : ℕ) (s : List ℕ) → p < length w → When (open_xor (get_or w p 0) s) → Opened w (b ∷ s) v k
  unfolding open_xor
  xor_opened b p [] h e = never e
  xor_opened b p (c ∷ s) h e = go (leb (c / 16 + c % 16) 8) refl (leb (c % 16) (length s)) refl e
    where
      go : (x : Bool) → leb (c / 16 + c % 16) 8 ≡ x → (y : Bool) → leb (c % 16) (length s) ≡ y
          → When (cond x (cond y (Ratio (bit_xor (number_of 256 (take (c % 16) s) * 256 ^ (c / 16)) (get_or w p 0)) (c % 16 + 2)) None) None)
          → Opened w (b ∷ c ∷ s) v k
      go true f true g e =
          xored p (c / 16) (c % 16) h (leb-true (c / 16 + c % 16) 8 f) (omega (arith, leb-true (c % 16) (length s) g)) (parts _ _ e).0 (parts _ _ e).1
      go true f false g e = never e
      go false f y g e = never e

  pub open_cases : (s : List ℕ) → open_one w s ≡ Ratio v k → Opened w s v k
  unfolding open_one
  open_cases [] e = never e
  open_cases (b ∷ s) e =
      go (ltb b xor_byte) (ltb b (length w)) refl (ltb b exception_byte) (ltb (b - xor_byte) (length w)) refl (leb 8 (length s)) refl e
    where
      go : (x y : Bool) → ltb b (length w) ≡ y → (f g : Bool) → ltb (b - xor_byte) (length w) ≡ g → (n : Bool) → leb 8 (length s) ≡ n
          → When (cond x (cond y (Ratio (get_or w b 0) 1) None)
          (cond f (cond g (open_xor (get_or w (b - xor_byte) 0) s) None) (cond n (Ratio (number_of 256 (take 8 s)) 9) None)))
          → Opened w (b ∷ s) v k
      go true true y f g eg n en e = referred b (ltb-true b (length w) y) (omega arith) (parts _ _ e).0 (parts _ _ e).1
      go true false y f g eg n en e = never e
      go false x y true true eg n en e = xor_opened b (b - xor_byte) s (ltb-true (b - xor_byte) (length w) eg) e
      go false x y true false eg n en e = never e
      go false x y false g eg true en e = excepted (omega (arith, leb-true 8 (length s) en)) (parts _ _ e).0 (parts _ _ e).1
      go false x y false g eg false en e = never e

-- n bytes from i on are a number below 256 ^ n
part_lt : (n i : ℕ) (s : List ℕ) → Below 256 s → n + i ≤ length s → number_of 256 (take n (drop i s)) < 256 ^ n
part_lt n i s hs h =
    let e : length (take n (drop i s)) ≡ n = length-take-le n (drop i s) (rw length-drop (omega arith)) in
    subst (λ (l : ℕ). number_of 256 (take n (drop i s)) < 256 ^ l) e (number_lt 256 (take n (drop i s)) (below_take 256 n (drop i s) (below_drop 256 i s hs)))

-- it takes no more bytes than there are
used_of_lem : (w s : List ℕ) (v k : ℕ) → Opened w s v k → k ≤ length s
used_of_lem w s v k (referred p h g e q) = omega arith
used_of_lem w s v k (xored p t n h g f e q) = omega arith
used_of_lem w s v k (excepted f e q) = omega arith

pub open_used : (w s : List ℕ) (v k : ℕ) → open_one w s ≡ Ratio v k → k ≤ length s
open_used w s v k e = used_of_lem w s v k (open_cases w v k s e)

pub strict_used : (w s : List ℕ) (v k : ℕ) → strict_one w s ≡ Ratio v k → k ≤ length s
strict_used w s v k e = open_used w s v k (strict_open v k w s e).0

-- the ratio has 64 bits, and the bytes are there
module _ (w s : List ℕ) (v k : ℕ) (hs : Below 256 s) (ha : Below (2 ^ 64) w) where
  value_of : Opened w s v k → (v < 2 ^ 64) × (1 ≤ k) × (k ≤ length s)
  value_of (referred p h g e q) = (subst (λ (x : ℕ). x < 2 ^ 64) (sym e) (below_at (2 ^ 64) (lit< tt) w ha p), omega arith, omega arith)
  value_of (xored p t n h g f e q) = (
    subst (λ (x : ℕ). x < 2 ^ 64) (sym e) (xor_lt 64 (number_of 256 (take n (drop 2 s)) * 256 ^ t) (get_or w p 0) (raised_fits (number_of 256 (take n (drop 2 s))) n t (part_lt n 2 s hs f) g) (below_at (2 ^ 64) (lit< tt) w ha p)),
    omega arith,
    omega arith,
  )
  value_of (excepted f e q) = (subst (λ (x : ℕ). x < 2 ^ 64) (sym e) (part_lt 8 1 s hs f), omega arith, omega arith)

  pub open_value : open_one w s ≡ Ratio v k → (v < 2 ^ 64) × (1 ≤ k) × (k ≤ length s)
  open_value e = value_of (open_cases w v k s e)

  -- the bytes that are written for the ratio are no more
  short_of : Opened w s v k → length (coded v w) ≤ k
  unfolding sum_of
  short_of (referred p h g e q) =
      rw coded_is
      (ratio_form_cases v w (λ (f : RatioForm). ratio_form_len f ≤ k)
      (λ _. omega arith)
      (λ l _. absurd (omega (arith, find_lt v w p h (sym e))))
      (λ l _. absurd (omega (arith, find_lt v w p h (sym e)))))
  short_of (xored p t n h g f e q) =
      let m = number_of 256 (take n (drop 2 s)) in
      let u = get_or w p 0 in
      let x : bit_xor v u ≡ m * 256 ^ t = ap (λ (y : ℕ). bit_xor y u) e ∙ xor-back (m * 256 ^ t) u in
      let z : 8 - n ≤ sum_of v u = rw x (zeros_most m n t (part_lt n 2 s hs f) g) in
      let b = best_most v w p h in
      rw coded_is
      (ratio_form_cases v w (λ (f : RatioForm). ratio_form_len f ≤ k)
      (λ _. omega arith)
      (λ _ i. omega (arith, best-xor v w i))
      (λ _ i. omega arith))
  short_of (excepted f e q) = omega (arith, (coded-length v w).1)

  pub open_short : open_one w s ≡ Ratio v k → length (coded v w) ≤ k
  open_short e = short_of (open_cases w v k s e)
