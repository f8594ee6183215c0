-- Laws of the position that a step of 64 bits leads to: where the step 0 leads fits 64 bits, and the step is compared with the room on either side.
use mathlib.Core.Bool.{Bool, true, false}
use mathlib.Core.Path.{◌≡◌, refl, sym, ap, ap₂, ◌∙◌}
use Prim.Native.Nat.{ℕ, ◌+◌, ◌-◌, ◌^◌, ◌≤◌, ◌<◌}
use native.Mathlib.Omega.{arith}
use borrow.Author.Tests.{leb-true, leb-false}
use lib.Dec.{leb, leb-zero}
use lib.IntN.{ℤ, pos, neg_ℤ, nat_abs, ◌+ℤ◌, ◌-ℤ◌, +ℤ_assoc, +ℤ_comm, +ℤ_idl, neg_ℤ-+ℤ, neg_ℤ-neg_ℤ}
use lib.Signed.{le_z}
use mir.Syntax.{w64}
use mir.Val.{to_z, of_z, SFits}
use mir.ValLaws.{to_z-of_z, to_z_pos}
use Rattle.lists.specs.Compare.{both}
use Rattle.lists.proofs.Compare.{both_true}
use Rattle.limits.specs.Points.{max_position}
use Rattle.integers.proofs.Integers.{diff_pos, diff_neg, le_diff, abs_neg, abs_diff, abs_add}
use Rattle.position_format.specs.Steps.{step_of}
use Rattle.position_format.proofs.Rows.Signs.{at_least}
use Rattle.position_codec.proofs.row.Between.{contains_lem, between}
use Rattle.position_format.proofs.Positions.After.{step_of_lem, of_step}
use Rattle.integers.proofs.Machine.{abs_fits, diff_abs, diff_back}

-- z is from -c to m - c when c + z is from 0 to m
around : (m c z : ℤ) → both (le_z (pos 0 -ℤ c) z) (le_z z (m -ℤ c)) ≡ both (le_z (pos 0) (c +ℤ z)) (le_z (c +ℤ z) m)
around m c z = ap₂ both low high
  where
    low : le_z (pos 0 -ℤ c) z ≡ le_z (pos 0) (c +ℤ z)
    low = le_diff (pos 0 -ℤ c) z ∙ ap (le_z (pos 0)) (ap (λ (y : ℤ). z -ℤ y) (+ℤ_idl (neg_ℤ c)) ∙ ap (λ (y : ℤ). z +ℤ y) (neg_ℤ-neg_ℤ c) ∙ +ℤ_comm z c)

    high : le_z z (m -ℤ c) ≡ le_z (c +ℤ z) m
    high = le_diff z (m -ℤ c) ∙ ap (le_z (pos 0)) (+ℤ_assoc m (neg_ℤ c) (neg_ℤ z) ∙ ap (λ (y : ℤ). m +ℤ y) (sym (neg_ℤ-+ℤ c z))) ∙ sym (le_diff (c +ℤ z) m)

-- so c + z is a number up to m, or none
inside : (m : ℕ) (y : ℤ) → both (le_z (pos 0) y) (le_z y (pos m)) ≡ true → (y ≡ pos (nat_abs y)) × (nat_abs y ≤ m)
inside m y e =
    let p = both_true (le_z (pos 0) y) (le_z y (pos m)) e in
    let n = at_least y p.0 in
    (n, leb-true (nat_abs y) m (rw n at p.1))

outside : (m : ℕ) (y : ℤ) → both (le_z (pos 0) y) (le_z y (pos m)) ≡ false → (t : ℕ) → t ≤ m → y ≡ pos t → ⊥
outside m y e t h is =
    let f : leb t m ≡ false = rw (is, leb-zero t) at e in
    omega (arith, leb-false t m f)

-- ---- where the step 0 leads

module _ (a b : ℕ) (a< : a < 2 ^ 62) (b< : b < 2 ^ 62) where
  abbrev centre : ℤ
  centre = pos b +ℤ (pos b -ℤ pos a)

  centre_diff : centre ≡ pos (b + b) -ℤ pos a
  centre_diff = sym (+ℤ_assoc (pos b) (pos b) (neg_ℤ (pos a)))

  centre_abs : nat_abs centre ≤ 2 ^ 63 - 2
  centre_abs = omega (arith, abs_add (pos b) (pos b -ℤ pos a), diff_abs b a b< a<)

  -- the room above it
  above_abs : nat_abs (pos max_position -ℤ centre) ≤ 2 ^ 63 - 2
  above_abs = rw centre_diff (go (leb a (b + b)) refl)
    where
      go : (t : Bool) → leb a (b + b) ≡ t → nat_abs (pos max_position -ℤ (pos (b + b) -ℤ pos a)) ≤ 2 ^ 63 - 2
      go true e =
          rw (diff_pos (b + b) a (leb-true a (b + b) e)) (abs_diff max_position (b + b - a) (2 ^ 63 - 2) (omega arith) (omega arith))
      go false e =
          rw (diff_neg (b + b) a (leb-false a (b + b) e)) (omega (arith, leb-false a (b + b) e))

  -- as the machine computes it
  abbrev sum : ℤ
  sum = to_z w64 b +ℤ to_z w64 (of_z w64 (to_z w64 b -ℤ to_z w64 a))

  sum_is : sum ≡ centre
  sum_is = ap₂ (λ (x y : ℤ). x +ℤ y) (to_z_pos w64 b (omega arith)) (diff_back b a b< a<)

  pub sum_fits : SFits w64 sum
  sum_fits = rw sum_is (abs_fits centre (omega (arith, centre_abs)))

  sum_back : to_z w64 (of_z w64 sum) ≡ centre
  sum_back = to_z-of_z w64 sum sum_fits ∙ sum_is

  neg_abs : nat_abs (pos 0 -ℤ centre) ≤ 2 ^ 63 - 2
  neg_abs = omega (arith, abs_add (pos 0) (neg_ℤ centre), abs_neg centre, centre_abs)

  -- the room on either side
  low_fits : SFits w64 (pos 0 -ℤ to_z w64 (of_z w64 sum))
  low_fits = rw sum_back (abs_fits (pos 0 -ℤ centre) (omega (arith, neg_abs)))

  high_fits : SFits w64 (pos max_position -ℤ to_z w64 (of_z w64 sum))
  high_fits = rw sum_back (abs_fits (pos max_position -ℤ centre) (omega (arith, above_abs)))

  -- ---- the test

  low_is : to_z w64 (of_z w64 (pos 0 -ℤ to_z w64 (of_z w64 sum))) ≡ pos 0 -ℤ centre
  low_is = to_z-of_z w64 _ low_fits ∙ ap (λ (y : ℤ). pos 0 -ℤ y) sum_back

  high_is : to_z w64 (of_z w64 (pos max_position -ℤ to_z w64 (of_z w64 sum))) ≡ pos max_position -ℤ centre
  high_is = to_z-of_z w64 _ high_fits ∙ ap (λ (y : ℤ). pos max_position -ℤ y) sum_back

  module _ (z : ℤ) (fz : SFits w64 z) (s e : ℤ) (x t : Bool)
      (es : s ≡ to_z w64 (of_z w64 (pos 0 -ℤ to_z w64 (of_z w64 sum))))
      (ee : e ≡ to_z w64 (of_z w64 (pos max_position -ℤ to_z w64 (of_z w64 sum))))
      (ex : x ≡ false)
      (et : t ≡ contains_lem s e x (to_z w64 (of_z w64 z))) where
    tested : t ≡ both (le_z (pos 0) (centre +ℤ z)) (le_z (centre +ℤ z) (pos max_position))
    tested =
        between (pos 0 -ℤ centre) (pos max_position -ℤ centre) (to_z w64 (of_z w64 z)) s e x t (es ∙ low_is) (ee ∙ high_is) ex et ∙ ap (λ (y : ℤ). both (le_z (pos 0 -ℤ centre) y) (le_z y (pos max_position -ℤ centre))) (to_z-of_z w64 z fz)
        ∙ around (pos max_position) centre z

    regroup : pos b +ℤ ((pos b -ℤ pos a) +ℤ z) ≡ centre +ℤ z
    regroup = sym (+ℤ_assoc (pos b) (pos b -ℤ pos a) z)

    -- there is no such position in range
    pub position-none : t ≡ false → (v : ℕ) → v ≤ max_position → step_of a b v ≡ z → ⊥
    position-none off v h is = outside max_position (centre +ℤ z) (sym tested ∙ off) v h (sym regroup ∙ of_step a b v z is)

    -- or it is their sum
    module _ (on : t ≡ true) where
      abbrev next : ℕ
      next = nat_abs (centre +ℤ z)

      place : (centre +ℤ z ≡ pos next) × (next ≤ max_position)
      place = inside max_position (centre +ℤ z) (sym tested ∙ on)

      abbrev total : ℤ
      total = to_z w64 (of_z w64 sum) +ℤ to_z w64 (of_z w64 z)

      total_is : total ≡ pos next
      total_is = ap₂ (λ (x y : ℤ). x +ℤ y) sum_back (to_z-of_z w64 z fz) ∙ place.0

      pub total_fits : SFits w64 total
      total_fits = rw total_is (abs_fits (pos next) (omega (arith, place.1)))

      pub total_back : to_z w64 (of_z w64 total) ≡ pos next
      total_back = to_z-of_z w64 total total_fits ∙ total_is

      pub position_small : next < 2 ^ 62
      position_small = omega (arith, place.1)

      pub position_is : (nat_abs (to_z w64 (of_z w64 total)) ≤ max_position) × (step_of a b (nat_abs (to_z w64 (of_z w64 total))) ≡ z)
      position_is = rw total_back (place.1, step_of_lem a b next z (regroup ∙ place.0))
