-- The head of a form: the tests of its bytes, and that of bytes which the open rule reads as a ratio it decides whether they are written for it.
use Rattle.std.specs.Prelude.{None, nat_eq}
use Rattle.std.specs.List.{starts_with}
use mathlib.Core.Path.{◌≡◌, refl, sym, ap, ap₂, ◌∙◌}
use mathlib.Core.Bool.{Bool, true, false, cond}
use mathlib.Core.List.{List, [], ◌∷◌}
use Prim.Native.Nat.{ℕ, ◌+◌, ◌-◌, ◌*◌, ◌/◌, ◌%◌, ◌^◌, ◌≤◌, ◌<◌}
use native.Mathlib.Nat.{mul-div_cancel}
use native.Mathlib.Omega.{arith}
use borrow.Author.Tests.{eqb-true, leb-true, le-ltb, lt-ltb, le-leb}
use lib.Bits.{bit_xor}
use lib.Dec.{eqb, leb}
use lib.ListN.{length, get_or, take, drop, take-append-drop}
use lib.Seq.{length-take-le}
use Rattle.std.proofs.lemmas.Option.{some_pair_parts}
use Rattle.lists.specs.Below.{Below}
use Rattle.lists.specs.Compare.{both, begins}
use Rattle.bits.specs.Digits.{bytes_of, number_of}
use Rattle.lists.proofs.Below.{below_take}
use Rattle.lists.proofs.Compare.{begins_own}
use Rattle.bits.proofs.Digits.{digits_number}
use Rattle.ratio_format.specs.declared.RatioForm.{RatioForm}
use Rattle.ratio_format.specs.Windows.{window_size}
use Rattle.ratio_format.specs.Zeros.{lead_zeros, trail_zeros}
use Rattle.ratio_format.specs.Choice.{best, ratio_form}
use Rattle.ratio_format.specs.RatioForms.{xor_byte, exception_byte, written, coded}
use Rattle.ratio_format.specs.Open.{Ratio, open_one, open_xor}
use Rattle.ratio_format.proofs.Zeros.{trail_le, pos_256}
use Rattle.ratio_format.proofs.Zeros.Sums.{xor-back}
use Rattle.ratio_format.proofs.Choice.{ratio_form_cases, best_xor, best_at}
use Rattle.ratio_codec.specs.Heads.{ratio_form_head}

-- the test of one byte, and the library's of many

both_true : (t : Bool) → t ≡ both t true
both_true true = refl
both_true false = refl

pub one_is : (s : List ℕ) (a : ℕ) → 1 ≤ length s → eqb a (get_or s 0 0) ≡ begins (a ∷ []) s
unfolding begins
one_is [] a h = absurd (omega arith)
one_is (x ∷ s) a h = both_true (eqb a x)

pub starts_begins : (a s : List ℕ) → starts_with nat_eq s a ≡ begins a s
unfolding begins
starts_begins [] s = refl
starts_begins (b ∷ a) [] = refl
starts_begins (b ∷ a) (c ∷ s) = ap (both (eqb b c)) (starts_begins a s)

-- the head decides

-- bytes begin with those of the number that they stand for
begins_number : (n : ℕ) (r : List ℕ) → Below 256 r → n ≤ length r → begins (bytes_of n (number_of 256 (take n r))) r ≡ true
begins_number n r hr h =
    let l : length (take n r) ≡ n = length-take-le n r h in
    let d : bytes_of n (number_of 256 (take n r)) ≡ take n r =
    ap (λ (k : ℕ). bytes_of k (number_of 256 (take n r))) (sym l) ∙ digits_number 256 (take n r) (below_take 256 n r hr) in
    ap₂ begins d (sym (take-append-drop n r)) ∙ begins_own (take n r) (drop n r)

module _ (v k : ℕ) (w : List ℕ) (hw : length w ≤ window_size) where
  never : {A : Type 0} → None ≡ Ratio v k → A
  never e = let z : ◌≡◌ {A = ℕ} 0 1 = cc in absurd (omega arith)

  -- after the head of an xor form the middle stands as it is written
  xor_middle : (p t n : ℕ) (r : List ℕ) → Below 256 r → p < length w → t + n ≤ 8 → open_one w ((p + xor_byte) ∷ (t * 16 + n) ∷ r) ≡ Ratio v k
      → begins (bytes_of n (bit_xor v (get_or w p 0) / 256 ^ t)) r ≡ true
  unfolding open_one open_xor
  xor_middle p t n r hr h g e =
      let a : p + xor_byte - xor_byte ≡ p = omega arith in
      let b : (t * 16 + n) / 16 ≡ t = omega arith in
      let c : (t * 16 + n) % 16 ≡ n = omega arith in
      go (leb n (length r)) refl
      (rw (le-ltb (p + xor_byte) xor_byte (omega arith), lt-ltb (p + xor_byte) exception_byte (omega arith), a, lt-ltb p (length w) h, b, c, le-leb (t + n) 8 g) at e)
    where
      go : (x : Bool) → leb n (length r) ≡ x → cond x (Ratio (bit_xor (number_of 256 (take n r) * 256 ^ t) (get_or w p 0)) (n + 2)) None ≡ Ratio v k
          → begins (bytes_of n (bit_xor v (get_or w p 0) / 256 ^ t)) r ≡ true
      go true f e =
          let u = get_or w p 0 in
          let m = number_of 256 (take n r) in
          let q : v ≡ bit_xor (m * 256 ^ t) u = sym (some_pair_parts _ _ _ _ e).0 in
          let y : bit_xor v u / 256 ^ t ≡ m =
          ap (λ (x : ℕ). bit_xor x u / 256 ^ t) q ∙ ap (λ (x : ℕ). x / 256 ^ t) (xor-back (m * 256 ^ t) u) ∙ mul-div_cancel m (pos_256 t) in
          ap (λ (x : ℕ). begins (bytes_of n x) r) y ∙ begins_number n r hr (leb-true n (length r) f)
      go false f e = never e

  xor-head : (p t n : ℕ) (s : List ℕ) → Below 256 s → p < length w → t + n ≤ 8 → open_one w s ≡ Ratio v k
      → begins ((p + xor_byte) ∷ (t * 16 + n) ∷ bytes_of n (bit_xor v (get_or w p 0) / 256 ^ t)) s ≡ begins ((p + xor_byte) ∷ (t * 16 + n) ∷ []) s
  unfolding begins Below
  xor-head p t n [] hs h g e = refl
  xor-head p t n (b ∷ []) hs h g e = refl
  xor-head p t n (b ∷ c ∷ r) hs h g e = go (eqb (p + xor_byte) b) refl (eqb (t * 16 + n) c) refl
    where
      go : (x : Bool) → eqb (p + xor_byte) b ≡ x → (y : Bool) → eqb (t * 16 + n) c ≡ y
          → both x (both y (begins (bytes_of n (bit_xor v (get_or w p 0) / 256 ^ t)) r)) ≡ both x (both y true)
      go false f y i = refl
      go true f false i = refl
      go true f true i =
          xor_middle p t n r hs.1.1 h g
          (ap₂ (λ (x y : ℕ). open_one w (x ∷ y ∷ r)) (eqb-true (p + xor_byte) b f) (eqb-true (t * 16 + n) c i) ∙ e)

  -- and after that of an exception the ratio
  exception-head : (s : List ℕ) → Below 256 s → open_one w s ≡ Ratio v k → begins (exception_byte ∷ bytes_of 8 v) s ≡ begins (exception_byte ∷ []) s
  unfolding begins open_one Below
  exception-head [] hs e = refl
  exception-head (b ∷ r) hs e = go (eqb exception_byte b) refl
    where
      at : (x : Bool) → leb 8 (length r) ≡ x → cond x (Ratio (number_of 256 (take 8 r)) 9) None ≡ Ratio v k → begins (bytes_of 8 v) r ≡ true
      at true f e =
          let q : v ≡ number_of 256 (take 8 r) = sym (some_pair_parts _ _ _ _ e).0 in
          ap (λ (x : ℕ). begins (bytes_of 8 x) r) q ∙ begins_number 8 r hs.1 (leb-true 8 (length r) f)
      at false f e = never e

      go : (x : Bool) → eqb exception_byte b ≡ x → both x (begins (bytes_of 8 v) r) ≡ both x true
      go false f = refl
      go true f = at (leb 8 (length r)) refl (ap (λ (x : ℕ). open_one w (x ∷ r)) (eqb-true exception_byte b f) ∙ e)

  pub head_decides : (s : List ℕ) → Below 256 s → open_one w s ≡ Ratio v k → begins (coded v w) s ≡ begins (ratio_form_head (ratio_form v w)) s
  unfolding coded written
  head_decides s hs e =
      ratio_form_cases v w (λ (f : RatioForm). begins (written v f) s ≡ begins (ratio_form_head f) s)
      (λ h. refl)
      (λ h g. let x = best_xor v w in xor-head (best v w).place (trail_zeros x) (8 - (lead_zeros x + trail_zeros x)) s hs (best_at v w (omega arith)).0 (omega (arith, trail_le x)) e)
      (λ h g. exception-head s hs e)
