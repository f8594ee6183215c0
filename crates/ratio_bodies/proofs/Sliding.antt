-- The last ratios of a full array moved to its front: planes, marks and window are theirs.
use mathlib.Core.Path.{◌≡◌, sym, ap, ◌∙◌, subst}
use mathlib.Core.List.{List}
use Prim.Native.Nat.{ℕ, ◌+◌, ◌-◌, ◌*◌, ◌%◌, ◌≤◌, ◌<◌}
use native.Mathlib.Omega.{arith}
use lib.ListN.{length, get_or, take}
use lib.Seq.{ext_get_or}
use Rattle.bits.specs.Digits.{byte_of}
use Rattle.ratio_format.specs.Windows.{window_size, window_of}
use Rattle.ratio_format.proofs.Windows.{window_few}
use Rattle.ratio_format.proofs.Windows.Before.{window_inside, window_has, window_at_lem}
use Rattle.ratio_search.specs.BytePlanes.{slots, Kept}
use Rattle.ratio_bodies.specs.Marks.{Again, Marks}
use Rattle.ratio_search.specs.declared.planes.BytePlanes.{BytePlanes}
use Rattle.ratio_bodies.specs.Taking.{Ready}
use Rattle.ratio_bodies.specs.Sliding.{room, shift, Slid}

module _ (l m : List ℕ) (s : Slid l m) where
  -- a ratio keeps its slot
  same_slot : (k : ℕ) → (k + shift) % slots ≡ k % slots
  same_slot k = omega arith

  kept_slid : (ps : List ℕ) (n : ℕ) → n ≤ room → Kept ps l n → Kept ps m (n - shift)
  kept_slid ps n h p = (
    p.0,
    λ j k x y z.
        ap (λ (i : ℕ). get_or ps (j * slots + i) 0) (sym (same_slot k)) ∙ p.1 j (k + shift) x (omega arith) (omega arith) ∙ ap (λ (v : ℕ). byte_of v j) (sym (s.1 k (omega arith))),
  )

  marks_slid : (ms : List ℕ) → Marks ms l room → Marks ms m slots
  marks_slid ms p = (
    p.0,
    λ k h g. let q = p.1 (k + shift) (omega arith) (omega arith) in (
      λ z j x y e. q.0 (ap (λ (i : ℕ). get_or ms i 0) (same_slot k) ∙ z) (j + shift) (omega arith) (omega arith) (sym (s.1 j y) ∙ e ∙ s.1 k h),
      λ z. let a = q.1 (λ e. z (ap (λ (i : ℕ). get_or ms i 0) (sym (same_slot k)) ∙ e)) in again k h a,
    ),
  )
    where
      again : (k : ℕ) → k < slots → Again l (k + shift) room → Again m k slots
      again k h a =
          let j = a.0 - shift in
          let e : j + shift ≡ a.0 = omega (arith, a.1) in
          let y : j < slots = omega (arith, a.1, a.2) in
          (j, omega (arith, a.1), y, s.1 j y ∙ ap (λ (i : ℕ). get_or l i 0) e ∙ a.3 ∙ sym (s.1 k h))

  pub ready_slid : (p : BytePlanes) (ms : List ℕ) (i n : ℕ) → i ≡ room → n ≡ p.done - shift → Ready p ms l i → Ready (record { cells = p.cells; done = n }) ms m slots
  ready_slid p ms i n e f r = record {
    planes = (rw f (kept_slid p.cells p.done (omega (arith, r.planes.1)) r.planes.0), omega (arith, r.planes.1));
    marks = marks_slid ms (subst (Marks ms l) e r.marks);
  }

  pub window_slid : length l ≡ room → window_of window_size (take slots m) ≡ window_of window_size (take room l)
  window_slid e =
      let hm : slots ≤ length m = omega (arith, s.0) in
      let hl : room ≤ length l = omega arith in
      let a = (window_few window_size (take slots m)).0 in
      let b = (window_few window_size (take room l)).0 in
      let c = window_has window_size m slots hm 126 (omega arith) (omega arith) in
      let d = window_has window_size l room hl 126 (omega arith) (omega arith) in
      ext_get_or 0 (window_of window_size (take slots m)) (window_of window_size (take room l)) (omega arith)
      (λ p g.
      let i = window_inside window_size m slots hm p g in
      let x : slots - 1 - p + shift ≡ room - 1 - p = omega arith in
      window_at_lem window_size m slots hm p i.0 i.1 ∙ s.1 (slots - 1 - p) (omega arith) ∙ ap (λ (n : ℕ). get_or l n 0) x
      ∙ sym (window_at_lem window_size l room hl p i.0 (omega (arith, i.1))))
