-- One stretch of a reading through an array: where it is the last one, what all stretches took; where the array is full and more are wanted, that as
-- many more were taken as it had room for.
use mathlib.Core.List.{List, ◌++◌, append_assoc}
use mathlib.Core.Path.{◌≡◌, sym, ap, ap₂, ◌∙◌}
use Prim.Native.Nat.{ℕ, ◌+◌, ◌-◌, ◌≤◌, ◌<◌, min}
use native.Mathlib.Omega.{arith}
use lib.ListN.{length, take, drop, length-append, length-drop}
use lib.Seq.{length-take-le, take_at}
use Rattle.ratio_format.specs.Windows.{window_size, window_of}
use Rattle.ratio_format.specs.Open.{strict_one}
use Rattle.ratio_format.specs.Bodies.{Taken, taken_from, strict_taken}
use Rattle.ratio_format.proofs.Bodies.Taken.{taken_count}
use Rattle.ratio_bodies.specs.Taking.{took_of, TakenOnto}
use Rattle.ratio_bodies.specs.Sliding.{room}
use Rattle.ratio_bodies.proofs.through.Counting.{Counted, counted_is, counted_more, counted_end}

module _ (count before from begun to n at : ℕ) (body l p : List ℕ) (counted : Counted count body (take from l) (before + from) begun) (within : from ≤ length l)
    (end : to ≡ min (count - before) (length l))
    (read : TakenOnto (taken_from strict_one window_size (window_of window_size (take from l)) (to - from) (drop begun body)) from begun n at l p) where
  abbrev m : ℕ
  m = to - from

  abbrev t : Taken
  t = taken_from strict_one window_size (window_of window_size (take from l)) m (drop begun body)

  low : from ≤ to
  low = omega (arith, end, within, counted.few)

  few : before + from + m ≤ count
  few = omega (arith, end, low, counted.few)

  -- no more are taken than are wanted
  pub stretch_fits : before + n ≤ count
  stretch_fits =
      omega (arith, read.0, few, taken_count strict_one window_size (window_of window_size (take from l)) m (drop begun body))

  -- the last stretch
  pub stretch_last : (to ≤ n → count - before ≤ to) → record { count = before + n; used = at } ≡ took_of (strict_taken count body)
  stretch_last f =
      let q : before + n ≡ before + from + length t.ratios = omega (arith, read.0) in
      ap₂ (λ (i j : ℕ). record { count = i; used = j }) q read.1
      ∙ sym (counted_end count body (take from l) (before + from) begun m counted few
      (λ g. let reached : to ≤ n = omega (arith, read.0, g, low) in omega (arith, f reached, low)))

  -- the array is full
  module _ (size : length l ≡ room) (reached : to ≤ n) (wanted : to < count - before) (inside : at ≤ length body) where
    whole : length t.ratios ≡ m
    whole = omega (arith, read.0, reached, low, taken_count strict_one window_size (window_of window_size (take from l)) m (drop begun body))

    pub stretch_full : (n ≡ room) × (length p ≡ room) × Counted count body (take room p) (before + room) at
    stretch_full =
        let front = take from l in
        let x : from + m ≡ room = omega (arith, low, end, size, wanted) in
        let w : length (front ++ t.ratios) ≡ room = omega (arith, length-append front t.ratios, length-take-le from l within, whole, x) in
        let r = drop (from + length t.ratios) l in
        let d : length r ≡ 0 = omega (arith, length-drop (from + length t.ratios) l, whole, x, size) in
        let is : p ≡ (front ++ t.ratios) ++ r = read.2 ∙ sym (append_assoc front t.ratios r) in
        let k : before + from + m ≡ before + room = omega (arith, x) in
        let g : Counted count body (front ++ t.ratios) (before + from + m) (begun + t.used) =
        counted_more count body front (before + from) begun m counted few whole (omega (arith, read.1, inside)) in (
          omega (arith, read.0, whole, x),
          omega (arith, ap length is, length-append (front ++ t.ratios) r, w, d),
          counted_is count body _ _ _ _ _ _ (sym (ap (take room) is ∙ take_at (front ++ t.ratios) r room w)) k (sym read.1) g,
        )
