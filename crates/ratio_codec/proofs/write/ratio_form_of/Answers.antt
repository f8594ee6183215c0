-- `ratio_form_of` meets its contract: the form follows from the place and the sum that the search found.
use Prim.Native.Nat.{ℕ, ◌^◌, ◌<◌}
use mathlib.Core.List.{reverse}
use native.Mathlib.Omega.{arith}
use lib.ListN.{length, get_or}
use Rattle.ratio_window.specs.Searched.{Searched}
use Rattle.ratio_codec.proofs.write.Chosen.{chosen_reference, chosen_exception, chosen_in, chosen_small, chosen_short, chosen_xor}
use Rattle.ratio_codec.proofs.write.ratio_form_of.Goals as goal

pub returns-then-sum-eq-EQUAL_SUM : goal.returns-then-sum-eq-EQUAL_SUM
returns-then-sum-eq-EQUAL_SUM c =
    let found : Searched c.args.v (reverse c.args.window.now) c.args.b.place c.args.b.sum = c.requires in
    let v64 : c.args.v < 2 ^ 64 = c.ranges.v.fits in
    let known : (k : ℕ) → get_or c.args.window.now k 0 < 2 ^ 64 = λ k. (c.shared_slice_known-1.given k).fits in
    chosen_reference c.args.window.now c.args.v c.args.b.place c.args.b.sum known v64 found c.if-sum-eq-EQUAL_SUM.true

pub overflow_sub-x : goal.overflow_sub-x
overflow_sub-x c =
    let found : Searched c.args.v (reverse c.args.window.now) c.args.b.place c.args.b.sum = c.requires in
    let v64 : c.args.v < 2 ^ 64 = c.ranges.v.fits in
    let known : (k : ℕ) → get_or c.args.window.now k 0 < 2 ^ 64 = λ k. (c.shared_slice_known-1.given k).fits in
    let in_slice : c.args.b.place < length c.args.window.now = chosen_in c.args.window.now c.args.v c.args.b.place c.args.b.sum known v64 found c.if-sum-eq-EQUAL_SUM.false c.if-sum-ge2.true in
    omega (arith, in_slice)

pub overflow_sub-x-then-sum-ge2 : goal.overflow_sub-x-then-sum-ge2
overflow_sub-x-then-sum-ge2 c =
    let found : Searched c.args.v (reverse c.args.window.now) c.args.b.place c.args.b.sum = c.requires in
    let v64 : c.args.v < 2 ^ 64 = c.ranges.v.fits in
    let known : (k : ℕ) → get_or c.args.window.now k 0 < 2 ^ 64 = λ k. (c.shared_slice_known-1.given k).fits in
    let in_slice : c.args.b.place < length c.args.window.now = chosen_in c.args.window.now c.args.v c.args.b.place c.args.b.sum known v64 found c.if-sum-eq-EQUAL_SUM.false c.if-sum-ge2.true in
    omega (arith, in_slice)

pub bounds-window-window : goal.bounds-window-window
bounds-window-window c =
    let found : Searched c.args.v (reverse c.args.window.now) c.args.b.place c.args.b.sum = c.requires in
    let v64 : c.args.v < 2 ^ 64 = c.ranges.v.fits in
    let known : (k : ℕ) → get_or c.args.window.now k 0 < 2 ^ 64 = λ k. (c.shared_slice_known-1.given k).fits in
    let in_slice : c.args.b.place < length c.args.window.now = chosen_in c.args.window.now c.args.v c.args.b.place c.args.b.sum known v64 found c.if-sum-eq-EQUAL_SUM.false c.if-sum-ge2.true in
    omega (arith, in_slice)

pub overflow_sub-result : goal.overflow_sub-result
overflow_sub-result c =
    let found : Searched c.args.v (reverse c.args.window.now) c.args.b.place c.args.b.sum = c.requires in
    let v64 : c.args.v < 2 ^ 64 = c.ranges.v.fits in
    let known : (k : ℕ) → get_or c.args.window.now k 0 < 2 ^ 64 = λ k. (c.shared_slice_known-1.given k).fits in
    omega (arith, chosen_small c.args.window.now c.args.v c.args.b.place c.args.b.sum known v64 found c.if-sum-eq-EQUAL_SUM.false c.if-sum-ge2.true)

pub overflow_shr-result : goal.overflow_shr-result
overflow_shr-result c =
    let found : Searched c.args.v (reverse c.args.window.now) c.args.b.place c.args.b.sum = c.requires in
    let v64 : c.args.v < 2 ^ 64 = c.ranges.v.fits in
    let known : (k : ℕ) → get_or c.args.window.now k 0 < 2 ^ 64 = λ k. (c.shared_slice_known-1.given k).fits in
    let short : c.trail_zeros-trail.result < 8 = omega (arith, chosen_short c.args.window.now c.args.v c.args.b.place c.args.b.sum known v64 found c.if-sum-eq-EQUAL_SUM.false c.if-sum-ge2.true) in
    omega (arith, short)

pub returns-then-sum-ge2 : goal.returns-then-sum-ge2
returns-then-sum-ge2 c =
    let found : Searched c.args.v (reverse c.args.window.now) c.args.b.place c.args.b.sum = c.requires in
    let v64 : c.args.v < 2 ^ 64 = c.ranges.v.fits in
    let known : (k : ℕ) → get_or c.args.window.now k 0 < 2 ^ 64 = λ k. (c.shared_slice_known-1.given k).fits in
    chosen_xor c.args.window.now c.args.v c.args.b.place c.args.b.sum known v64 found c.if-sum-eq-EQUAL_SUM.false c.if-sum-ge2.true c.trail_zeros-trail.result c.trail_zeros-trail.ensures.0

pub returns : goal.returns
returns c =
    let found : Searched c.args.v (reverse c.args.window.now) c.args.b.place c.args.b.sum = c.requires in
    let v64 : c.args.v < 2 ^ 64 = c.ranges.v.fits in
    let known : (k : ℕ) → get_or c.args.window.now k 0 < 2 ^ 64 = λ k. (c.shared_slice_known-1.given k).fits in
    chosen_exception c.args.window.now c.args.v c.args.b.place c.args.b.sum known v64 found c.if-sum-ge2.false
