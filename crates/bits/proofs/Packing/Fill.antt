-- Laws of the fill: whether the bits left from an offset on are the fill of the last byte, by how many they are and by their number.
use mathlib.Core.Bool.{Bool, true, false}
use mathlib.Core.List.{List}
use mathlib.Core.Path.{◌≡◌, refl, sym, ap, ap₂, ◌∙◌}
use Prim.Native.Nat.{ℕ, ◌-◌, ◌*◌, ◌^◌, ◌≤◌, ◌<◌}
use native.Mathlib.Nat.{zero-mod}
use native.Mathlib.Omega.{arith}
use borrow.Author.Tests.{eqb-true, eqb-false}
use lib.Dec.{eqb}
use lib.ListN.{length, take, drop, replicate, length-replicate}
use lib.Seq.{take_all}
use Rattle.lists.specs.Compare.{same}
use Rattle.lists.proofs.Compare.{same_own, same_not}
use Rattle.bits.specs.Digits.{bits_of, number_of}
use Rattle.bits.specs.Packing.{bits, fill_of}
use Rattle.bits.proofs.Digits.{two⁺, digits_zero, digits_number, number_digits}
use Rattle.bits.proofs.Packing.{length_left, below_left}

module _ (body : List ℕ) (at : ℕ) (inside : at ≤ 8 * length body) where
  -- the bits left, and the fill
  abbrev ds : List ℕ
  ds = drop at (bits body)

  abbrev zeros : List ℕ
  zeros = replicate (fill_of at) 0

  -- a byte or more is too many
  pub fill_long : 7 < 8 * length body - at → same ds zeros ≡ false
  fill_long h = same_not ds zeros (λ e. omega (arith, ap length e, length_left body at, length-replicate {A = ℕ} (fill_of at) 0))

  -- fewer are as many as they should be, and are the fill when their number x is 0
  module _ (few : 8 * length body - at ≤ 7) (x : ℕ) (ex : x ≡ number_of 2 (take (8 * length body - at) ds)) where
    number_left : x ≡ number_of 2 ds
    number_left = ex ∙ ap (number_of 2) (take_all (8 * length body - at) ds (omega (arith, length_left body at)))

    fill_on : x ≡ 0 → ds ≡ zeros
    fill_on e =
        let n : length ds ≡ fill_of at = omega (arith, length_left body at) in
        sym (digits_number 2 ds (below_left body at)) ∙ ap₂ bits_of n (sym number_left ∙ e) ∙ digits_zero 2 (fill_of at)

    fill_zero : ds ≡ zeros → x ≡ 0
    fill_zero e = number_left ∙ ap (number_of 2) (e ∙ sym (digits_zero 2 (fill_of at))) ∙ number_digits two⁺ (fill_of at) 0 ∙ zero-mod (2 ^ fill_of at)

    pub fill_by : eqb x 0 ≡ same ds zeros
    fill_by = go (eqb x 0) refl
      where
        go : (t : Bool) → eqb x 0 ≡ t → t ≡ same ds zeros
        go true e = sym (ap (λ (l : List ℕ). same l zeros) (fill_on (eqb-true x 0 e)) ∙ same_own zeros)
        go false e = sym (same_not ds zeros (λ f. eqb-false x 0 e (fill_zero f)))
