-- The list of two runs' differences is in order: its pieces, one after the other, have ranks that rise from piece to piece.
use mathlib.Core.Bool.{Bool, true, false, cond}
use mathlib.Core.List.{List, [], ◌∷◌, ◌++◌}
use Prim.Native.Nat.{ℕ, zero, suc, ◌+◌, ◌*◌, ◌-◌, ◌≤◌, min}
use native.Mathlib.Nat.{le_refl, le_trans}
use native.Mathlib.Omega.{arith}
use lib.Dec.{eqb}
use Rattle.std.proofs.Common.{Option, Some, None, option_map}
use lib.ListN.{length}
use Rattle.record_format.specs.Runs.{Run, positions_tag}
use Rattle.record_format.proofs.Writing.{accepted_fits, fitting_few}
use Rattle.differences.specs.declared.Property.{Property}
use Rattle.differences.specs.declared.Property.TheVariants.{Rate, Side, Count, Form}
use Rattle.differences.specs.declared.Difference.{Difference}
use Rattle.differences.specs.declared.Difference.TheVariants.{InProperty, More}
use Rattle.differences.specs.Differences.{property_difference, more_difference, values_at, position_by, ratio_by, position_at, ratio_at, listed, points_to, differences}
use Rattle.differences.specs.Claims.{rank, Rising, InOrder}

-- ranks that rise from lo on, all of them below hi
unfoldable pub Spread : ℕ → ℕ → List Difference → Type 0
Spread lo hi [] = lo ≤ hi
Spread lo hi (d ∷ l) = (lo ≤ rank d) × Spread (suc (rank d)) hi l

spread_lower : (lo mid hi : ℕ) (l : List Difference) → lo ≤ mid → Spread mid hi l → Spread lo hi l
unfolding Spread
spread_lower lo mid hi [] h s = le_trans h s
spread_lower lo mid hi (d ∷ l) h s = (le_trans h s.0, s.1)

spread_upper : (lo mid hi : ℕ) (l : List Difference) → mid ≤ hi → Spread lo mid l → Spread lo hi l
unfolding Spread
spread_upper lo mid hi [] h s = le_trans s h
spread_upper lo mid hi (d ∷ l) h s = (s.0, spread_upper (suc (rank d)) mid hi l h s.1)

-- a piece, and then the next
spread_append : (lo mid hi : ℕ) (a b : List Difference) → Spread lo mid a → Spread mid hi b → Spread lo hi (a ++ b)
unfolding Spread
spread_append lo mid hi [] b s t = spread_lower lo mid hi b s t
spread_append lo mid hi (d ∷ a) b s t = (s.0, spread_append (suc (rank d)) mid hi a b s.1 t)

spread_rising : (lo hi : ℕ) (l : List Difference) → Spread lo hi l → Rising l
unfolding Spread Rising
spread_rising lo hi [] s = tt
spread_rising lo hi (d ∷ []) s = tt
spread_rising lo hi (d ∷ (e ∷ l)) s = (s.1.0, spread_rising (suc (rank d)) hi (e ∷ l) s.1)

-- ---- the pieces

spread_property : (p : Property) (a b : ℕ) → Spread (rank (InProperty p a b)) (suc (rank (InProperty p a b))) (listed (property_difference p a b))
unfolding Spread
spread_property p a b = go (eqb a b)
  where
    go : (t : Bool) → Spread (rank (InProperty p a b)) (suc (rank (InProperty p a b))) (listed (cond t None (Some (InProperty p a b))))
    go true = omega arith
    go false = (le_refl _, le_refl _)

spread_more : (m n lo : ℕ) → lo ≤ 4 + 2 * 4096 → Spread lo (5 + 2 * 4096) (listed (more_difference m n))
unfolding Spread
spread_more m n lo h = go (eqb m n)
  where
    go : (t : Bool) → Spread lo (5 + 2 * 4096) (listed (cond t None (Some (More ((m - n) + (n - m))))))
    go true = omega arith
    go false = (h, le_refl _)

spread_position : (i : ℕ) (z : Option (ℕ × ℕ)) → Spread (4 + 2 * i) (5 + 2 * i) (listed (option_map (position_by i) z))
unfolding Spread
spread_position i None = omega arith
spread_position i (Some z) = (le_refl _, omega arith)

spread_ratio : (i : ℕ) (z : Option (ℕ × ℕ)) → Spread (5 + 2 * i) (6 + 2 * i) (listed (option_map (ratio_by i) z))
unfolding Spread
spread_ratio i None = omega arith
spread_ratio i (Some z) = (le_refl _, omega arith)

module _ (r q : Run) where
  spread_points : (n : ℕ) → Spread 4 (4 + 2 * n) (points_to r q n)
  unfolding Spread points_to position_at ratio_at
  spread_points zero = omega arith
  spread_points (suc n) =
      spread_append 4 (4 + 2 * n) (4 + 2 * suc n) (points_to r q n) _ (spread_points n)
      (spread_append (4 + 2 * n) (5 + 2 * n) (4 + 2 * suc n) (listed (position_at r.positions q.positions n)) (listed (ratio_at r.ratios q.ratios n))
      (spread_position n (values_at r.positions q.positions n))
      (spread_upper (5 + 2 * n) (6 + 2 * n) (4 + 2 * suc n) (listed (ratio_at r.ratios q.ratios n)) (omega arith) (spread_ratio n (values_at r.ratios q.ratios n))))

pub in_order : InOrder
unfolding differences
in_order r q a b =
    let m = length r.positions in
    let n = length q.positions in
    let few = fitting_few r (accepted_fits r a.passes) in
    spread_rising 0 (5 + 2 * 4096) _
    (spread_append 0 1 _ (listed (property_difference Rate r.rate q.rate)) _ (spread_property Rate r.rate q.rate)
    (spread_append 1 2 _ (listed (property_difference Side r.side q.side)) _ (spread_property Side r.side q.side)
    (spread_append 2 3 _ (listed (property_difference Count m n)) _ (spread_property Count m n)
    (spread_append 3 4 _ (listed (property_difference Form (positions_tag r.form) (positions_tag q.form))) _
    (spread_property Form (positions_tag r.form) (positions_tag q.form))
    (spread_append 4 (4 + 2 * min m n) _ (points_to r q (min m n)) _ (spread_points r q (min m n))
    (spread_more m n (4 + 2 * min m n) (omega (arith, few))))))))
