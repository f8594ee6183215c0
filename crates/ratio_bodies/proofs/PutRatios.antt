-- Writing ratio by ratio: what an output holds after the first i ratios, after one more, where there is no room, and at the end.
use mathlib.Core.Path.{◌≡◌, refl, sym, ap, ap₂, ◌∙◌, subst}
use mathlib.Core.List.{List, [], ◌++◌, append_assoc}
use Prim.Native.Nat.{ℕ, ◌+◌, ◌-◌, ◌≤◌, ◌<◌}
use native.Mathlib.Omega.{arith}
use borrow.Rule.Slice.PartMut.{put_mid, same_len_mid}
use lib.ListN.{length, take, drop, get_or, length-append, length-drop}
use lib.Seq.{take-length, take_at, drop_at, drop-drop}
use Rattle.std.specs.Prelude.{Option, Some, None}
use Rattle.outputs.specs.Outputs.{over, Placed}
use Rattle.ratio_format.specs.Windows.{window_size, window_of}
use Rattle.ratio_format.specs.RatioForms.{coded}
use Rattle.ratio_format.specs.Bodies.{coded_from, coded_ratios}
use Rattle.ratio_format.proofs.Bodies.{coded_more, coded-room}
use Rattle.outputs.proofs.Outputs.Parts.{rest_is, put_rest}

-- bytes after bytes
over_on : (t bs o out : List ℕ) (at : ℕ) → length t ≡ at → out ≡ over t o → take at out ++ over bs (drop at out) ≡ over (t ++ bs) o
over_on t bs o out at e q =
    ap₂ (λ (f r : List ℕ). f ++ over bs r) (ap (take at) q ∙ take_at t (drop (length t) o) at e) (ap (drop at) q ∙ drop_at t (drop (length t) o) at e)
    ∙ ap (λ (l : List ℕ). t ++ (bs ++ l)) (drop-drop (length bs) (length t) o)
    ∙ sym (append_assoc t bs (drop (length t + length bs) o))
    ∙ ap (λ (n : ℕ). (t ++ bs) ++ drop n o) (sym (length-append t bs))

-- the output o after the first i of the ratios rs is out, and `at` bytes are written
abbrev pub Writing : List ℕ → List ℕ → List ℕ → ℕ → ℕ → Type 0
Writing rs o out at i =
    (i ≤ length rs) × (at ≡ length (coded_ratios (take i rs))) × (at ≤ length o) × (length out ≡ length o) × (out ≡ over (coded_ratios (take i rs)) o)

pub writing_start : (rs o : List ℕ) → Writing rs o o 0 0
unfolding coded_from
writing_start rs o = (omega arith, refl, omega arith, refl, refl)

pub writing_all : (rs o out : List ℕ) (at i : ℕ) → Writing rs o out at i → length rs ≤ i → Placed (coded_ratios rs) (Some at) o out
writing_all rs o out at i s h =
    let e : i ≡ length rs = omega arith in
    let t : take i rs ≡ rs = ap (λ (n : ℕ). take n rs) e ∙ take-length rs in
    subst (λ (l : List ℕ). Placed (coded_ratios l) (Some at) o out) t (s.1, omega arith, s.4)

module _ (rs o out : List ℕ) (at i : ℕ) (s : Writing rs o out at i) where
  -- the part of the output that is still to be written
  abbrev pub part : List ℕ
  part = take (length out - at) (drop at out)

  part_length : length part ≡ length o - at
  part_length = rw (rest_is at out) (omega (arith, length-drop at out))

  -- there bytes are put that are those of the ratios up to j
  pub writing_on : (bs : List ℕ) (j : ℕ) → j ≤ length rs → coded_ratios (take j rs) ≡ coded_ratios (take i rs) ++ bs
      → (n : ℕ) (p : List ℕ) → (n ≡ length bs) × (length bs ≤ length part) × (p ≡ over bs part) → length p ≡ length part
      → Writing rs o (put_mid at (length out - at) out p) (at + n) j
  writing_on bs j h e n p q k = (
    h,
    omega (arith, s.1, q.0, ap length e, length-append (coded_ratios (take i rs)) bs),
    omega (arith, q.0, q.1, part_length, s.2),
    same_len_mid at (length out - at) out p k ∙ s.3,
    put_rest at out p ∙ ap (λ (l : List ℕ). take at out ++ l) (q.2 ∙ ap (over bs) (rest_is at out))
        ∙ over_on (coded_ratios (take i rs)) bs o out at (sym s.1) s.4 ∙ ap (λ (l : List ℕ). over l o) (sym e),
  )

  module _ (h : i < length rs) where
    -- the bytes of ratio i
    abbrev next : List ℕ
    next = coded (get_or rs i 0) (window_of window_size (take i rs))

    counted : length (coded_ratios (take (i + 1) rs)) ≡ at + length next
    counted = omega (arith, ap length (coded_more window_size rs i h), length-append (coded_ratios (take i rs)) next)

    -- there is no room for them, nor for all
    pub writing_full : (r : Option ℕ) (p : List ℕ) → r ≡ None → Placed next r part p → length o < length (coded_ratios rs)
    writing_full r p e d =
        let n : length part < length next = subst (λ (x : Option ℕ). Placed next x part p) e d in
        omega (arith, counted, part_length, coded-room window_size [] rs (i + 1))

    -- they are written
    pub writing_more : (r : Option ℕ) (n : ℕ) (p : List ℕ) → r ≡ Some n → Placed next r part p → length p ≡ length part
        → Writing rs o (put_mid at (length out - at) out p) (at + n) (i + 1)
    writing_more r n p e d k = writing_on next (i + 1) (omega arith) (coded_more window_size rs i h) n p (subst (λ (x : Option ℕ). Placed next x part p) e d) k
