-- Bytes that name a ratio by its place in the window, a reference: what is written for such a ratio, its strict reading, and that a ratio is
-- so named exactly where it was read from one byte.
use Rattle.std.specs.Prelude.{None}
use mathlib.Core.Path.{◌≡◌, refl, sym, ap, ◌∙◌}
use mathlib.Core.Bool.{Bool, true, false, cond}
use mathlib.Core.List.{List, [], ◌∷◌}
use Prim.Native.Nat.{ℕ, ◌+◌, ◌-◌, ◌*◌, ◌/◌, ◌%◌, ◌^◌, ◌≤◌, ◌<◌}
use native.Mathlib.Omega.{arith}
use lib.Bits.{bit_xor}
use lib.Dec.{eqb, leb, ltb}
use lib.ListN.{length, get_or, take}
use borrow.Author.Tests.{lt-ltb, ltb-true, eqb-true}
use Rattle.std.specs.Bool.{then_some}
use Rattle.std.proofs.lemmas.Option.{some_pair_parts}
use Rattle.lists.specs.Compare.{both, begins}
use Rattle.bits.specs.Digits.{number_of}
use Rattle.ratio_format.specs.Windows.{window_size}
use Rattle.ratio_format.specs.Choice.{find, ratio_form}
use Rattle.ratio_format.specs.RatioForms.{xor_byte, exception_byte, written, coded}
use Rattle.ratio_format.specs.Open.{Ratio, open_one, open_xor, strict_one}
use Rattle.ratio_format.proofs.Choice.{find_at, find_lt}
use Rattle.ratio_format.proofs.Open.{open_reference, strict_if}
use Rattle.ratio_format.proofs.Open.{read_reference}
use Rattle.ratio_codec.proofs.Heads.{one_is}

module _ (w : List ℕ) (v : ℕ) where
  -- a ratio of the window is written as its smallest place
  pub coded_in : (p : ℕ) → p < length w → get_or w p 0 ≡ v → coded v w ≡ find v w ∷ []
  unfolding coded written ratio_form
  coded_in p h e = rw (lt-ltb (find v w) (length w) (find_lt v w p h e))

  -- the first byte is a place of the window that holds v
  abbrev pub Named : List ℕ → Type 0
  Named s = (1 ≤ length s) × (get_or s 0 0 < length w) × (get_or w (get_or s 0 0) 0 ≡ v)

  module _ (s : List ℕ) (n : Named s) where
    -- a reference is the one that is written where its place is the smallest
    pub named_begins : begins (coded v w) s ≡ eqb (find v w) (get_or s 0 0)
    named_begins = ap (λ (c : List ℕ). begins c s) (coded_in (get_or s 0 0) n.1 n.2) ∙ sym (one_is s (find v w) n.0)

    -- only then it is accepted
    module _ (small : length w ≤ window_size) where
      named_open : Ratio v 1 ≡ open_one w s
      named_open = open_reference w s v (λ e. omega arith) (omega arith) n.1 (sym n.2)

      pub named_strict : then_some (eqb (find v w) (get_or s 0 0)) (v, 1) ≡ strict_one w s
      named_strict = strict_if w s (Ratio v 1) named_open v 1 (eqb (find v w) (get_or s 0 0)) refl (sym named_begins)

  -- a ratio that was read from one byte is named
  never : {A : Type 0} → None ≡ Ratio v 1 → A
  never e = let z : ◌≡◌ {A = ℕ} 0 1 = cc in absurd (omega arith)

  xor_longer : (u : ℕ) (s : List ℕ) → open_xor u s ≡ Ratio v 1 → ⊥
  unfolding open_xor
  xor_longer u [] e = never e
  xor_longer u (c ∷ s) e = go (leb (c / 16 + c % 16) 8) (leb (c % 16) (length s)) e
    where
      go : (x y : Bool) → cond x (cond y (Ratio (bit_xor (number_of 256 (take (c % 16) s) * 256 ^ (c / 16)) u) (c % 16 + 2)) None) None ≡ Ratio v 1 → ⊥
      go true true e = omega (arith, (some_pair_parts _ _ _ _ e).1)
      go true false e = never e
      go false y e = never e

  pub named_one : (s : List ℕ) → open_one w s ≡ Ratio v 1 → Named s
  unfolding open_one
  named_one [] e = never e
  named_one (b ∷ s) e = go (ltb b xor_byte) (ltb b (length w)) refl (ltb b exception_byte) (ltb (b - xor_byte) (length w)) (leb 8 (length s)) e
    where
      go : (x y : Bool) → ltb b (length w) ≡ y → (z t u : Bool)
          → cond x (cond y (Ratio (get_or w b 0) 1) None)
          (cond z (cond t (open_xor (get_or w (b - xor_byte) 0) s) None) (cond u (Ratio (number_of 256 (take 8 s)) 9) None)) ≡ Ratio v 1
          → Named (b ∷ s)
      go true true f z t u e = (omega arith, ltb-true b (length w) f, (some_pair_parts _ _ _ _ e).0)
      go true false f z t u e = never e
      go false y f true true u e = absurd (xor_longer (get_or w (b - xor_byte) 0) s e)
      go false y f true false u e = never e
      go false y f false t true e = absurd (omega (arith, (some_pair_parts _ _ _ _ e).1))
      go false y f false t false e = never e

  -- what is accepted and takes more than one byte is not in the window
  begins-one : (s : List ℕ) (a : ℕ) → begins (a ∷ []) s ≡ true → (rest : List ℕ) × (s ≡ a ∷ rest)
  unfolding begins
  begins-one [] a e = let z : ◌≡◌ {A = ℕ} 0 1 = cc in absurd (omega arith)
  begins-one (b ∷ s) a e = (s, ap (λ (x : ℕ). x ∷ s) (go (eqb a b) refl e))
    where
      go : (t : Bool) → eqb a b ≡ t → both t true ≡ true → b ≡ a
      go true f g = sym (eqb-true a b f)
      go false f g = let z : ◌≡◌ {A = ℕ} 0 1 = cc in absurd (omega arith)

  pub named_absent : length w ≤ window_size → (s : List ℕ) (n : ℕ) → open_one w s ≡ Ratio v n → begins (coded v w) s ≡ true → (n ≡ 1 → ⊥)
      → (p : ℕ) → p < length w → get_or w p 0 ≡ v → ⊥
  named_absent small s n e g m p h q =
      let f = find_lt v w p h q in
      let r = begins-one s (find v w) (ap (λ (c : List ℕ). begins c s) (sym (coded_in p h q)) ∙ g) in
      let o = ap (open_one w) r.1 ∙ read_reference w r.0 small v (find v w) f (find_at v w f) in
      m (some_pair_parts v v n 1 (sym e ∙ o)).1
