-- A ratio of a list read by the open rule, by its first byte b: b % 128 is the place in the window, and the ratio there stands in the list
-- itself. Where ten bytes are left, no form runs past them.
use Rattle.std.specs.Prelude.{None}
use mathlib.Core.Path.{◌≡◌, refl, sym, ap, ◌∙◌}
use mathlib.Core.Bool.{Bool, true, false}
use mathlib.Core.List.{List}
use Prim.Native.Nat.{ℕ, ◌+◌, ◌-◌, ◌*◌, ◌/◌, ◌%◌, ◌^◌, ◌≤◌, ◌<◌}
use native.Mathlib.Omega.{arith}
use lib.ListN.{length, get_or, take, drop, length-take, length-drop}
use lib.Bits.{bit_xor}
use lib.Seq.{get_or-drop, drop-drop}
use lib.Dec.{ltb}
use borrow.Author.Tests.{ltb-true, ltb-false}
use Rattle.ratio_format.specs.RatioForms.{xor_byte, exception_byte}
use Rattle.bits.specs.Digits.{number_of}
use Rattle.ratio_format.specs.Windows.{window_size, window_of}
use Rattle.ratio_format.specs.Open.{Read, Ratio, open_one, open_xor}
use Rattle.ratio_format.proofs.Open.{xor_high, xor_good, open_reference, open_far, open_xor_lem, open_away, open_exception}
use Rattle.ratio_format.proofs.Windows.{window_few}
use Rattle.ratio_codec.proofs.read.References.{Named}
use Rattle.ratio_format.proofs.Windows.Before.{window_has, window_at_lem}

-- the first byte of a rest
pub rest_first : (at : ℕ) (l : List ℕ) → get_or (drop at l) 0 0 ≡ get_or l at 0
rest_first at l =
    let z : at + 0 ≡ at = omega arith in
    get_or-drop at l 0 0 ∙ ap (λ (k : ℕ). get_or l k 0) z

-- a rest whose first byte names a ratio
pub named_at : (w : List ℕ) (v at : ℕ) (l : List ℕ) → Named w v (drop at l) → (at < length l) × (get_or l at 0 < length w) × (get_or w (get_or l at 0) 0 ≡ v)
named_at w v at l n = let e = rest_first at l in (omega (arith, n.0, length-drop at l), rw (← e) n.1, rw (← e) n.2)

-- what stands after the byte of a place that holds u, where nine bytes are left
module _ (u at : ℕ) (l : List ℕ) (room : at + 9 ≤ length l) where
  many : 9 ≤ length (drop at l)
  many = omega (arith, length-drop at l)

  filled : length (drop at l) ≡ 0 → ⊥
  filled e = omega (arith, many)

  pub xor-ahead_high : 8 < get_or l at 0 / 16 + get_or l at 0 % 16 → None ≡ open_xor u (drop at l)
  xor-ahead_high h = xor_high u (drop at l) filled (rw (rest_first at l) h)

  pub xor-ahead_good : (m r : ℕ) → get_or l at 0 / 16 + get_or l at 0 % 16 ≤ 8 → m ≡ number_of 256 (take (get_or l at 0 % 16) (drop (at + 1) l))
      → r ≡ m * 256 ^ (get_or l at 0 / 16) → Ratio (bit_xor r u) (get_or l at 0 % 16 + 2) ≡ open_xor u (drop at l)
  xor-ahead_good m r h e q =
      let f = sym (rest_first at l) in
      rw f (xor_good u (drop at l) m r filled (rw (rest_first at l) h) (rw (rest_first at l) (omega (arith, many)))
      (rw (rest_first at l, drop-drop 1 at l) e) (rw (rest_first at l) q))

-- where ten bytes are left
pub ahead-some : (at : ℕ) (l : List ℕ) → at + 10 ≤ length l → length (drop at l) ≡ 0 → ⊥
ahead-some at l h e = omega (arith, length-drop at l)

pub ahead-exception : (w : List ℕ) (at : ℕ) (l : List ℕ) → at + 10 ≤ length l → (v : ℕ) → get_or l at 0 ≡ exception_byte
    → v ≡ number_of 256 (take 8 (drop (at + 1) l)) → Ratio v 9 ≡ open_one w (drop at l)
ahead-exception w at l h v b e =
    open_exception w (drop at l) v (omega (arith, rest_first at l, b)) (omega (arith, length-drop at l)) (rw (drop-drop 1 at l) e)

-- a ratio after those of a list, whose window they are
module _ (rs : List ℕ) (i : ℕ) (room : i ≤ length rs) where
  abbrev w : List ℕ
  w = window_of window_size (take i rs)

  most : (length w ≤ window_size) × (length w ≤ i)
  most = let n = window_few window_size (take i rs) in let k = length-take i rs in (n.0, omega arith)

  module _ (s : List ℕ) (b : ℕ) (is : get_or s 0 0 ≡ b) (filled : length s ≡ 0 → ⊥) (byte : b < 256) (plain : b ≡ exception_byte → ⊥) where
    -- no ratio stands at the place
    place_none : length w ≤ b % xor_byte → None ≡ open_one w s
    place_none h = go (ltb b xor_byte) refl
      where
        go : (t : Bool) → ltb b xor_byte ≡ t → None ≡ open_one w s
        go true e = let l = ltb-true b xor_byte e in open_far w s filled (omega arith) (omega arith)
        go false e = let l = ltb-false b xor_byte e in open_away w s filled (omega arith) (omega arith) (omega arith)

    pub place_out : i - (i - window_size) ≤ b % xor_byte → None ≡ open_one w s
    place_out h = place_none (omega (arith, most))

    -- one does
    module _ (v : ℕ) (inside : b % xor_byte < i - (i - window_size)) (at : v ≡ get_or rs (i - 1 - b % xor_byte) 0) where
      few : b % xor_byte < window_size
      few = omega arith

      in_List : b % xor_byte < i
      in_List = omega arith

      holds : (p : ℕ) → p ≡ b % xor_byte → (p < length w) × (v ≡ get_or w p 0)
      holds p e = rw e (window_has window_size rs i room (b % xor_byte) few in_List, at ∙ sym (window_at_lem window_size rs i room (b % xor_byte) few in_List))

      pub place_reference : b < xor_byte → Ratio v 1 ≡ open_one w s
      place_reference l =
          let h = holds (get_or s 0 0) (omega arith) in
          open_reference w s v filled (omega arith) h.0 h.1

      pub place_xor : xor_byte ≤ b → (r : Read) → r ≡ open_xor v (drop 1 s) → r ≡ open_one w s
      place_xor l r e =
          let h = holds (get_or s 0 0 - xor_byte) (omega arith) in
          open_xor_lem w s v r filled (omega arith) (omega arith) h.0 h.1 e
