-- Laws of what an output holds with a part replaced: its length, what stands after the part, two parts after each other, and the part at its front.
pub mod Clear
pub mod Parts
pub mod Over
pub mod Writers
use mathlib.Core.Path.{◌≡◌, sym, ap, ap₂, ◌∙◌}
use mathlib.Core.List.{List, ◌++◌, append_assoc}
use Prim.Native.Nat.{ℕ, ◌+◌, ◌≤◌}
use native.Mathlib.Nat.{add_assoc}
use native.Mathlib.Omega.{arith}
use lib.ListN.{length, take, drop, length-append, length-drop}
use lib.Seq.{length-take-le, take_at, drop_at, drop-drop}
use Rattle.outputs.specs.Outputs.{over, over_at}

module _ (xs : List ℕ) (at n : ℕ) (vs : List ℕ) (len : length vs ≡ n) (room : at + n ≤ length xs) where
  length_before : length (take at xs) ≡ at
  length_before = length-take-le at xs (omega arith)

  pub length-over_at : length (over_at xs at n vs) ≡ length xs
  length-over_at =
      omega (arith, length-append (take at xs) (vs ++ drop (at + n) xs), length-append vs (drop (at + n) xs), length_before, length-drop (at + n) xs)

  -- what stands after the part
  pub drop-over_at : drop (at + n) (over_at xs at n vs) ≡ drop (at + n) xs
  drop-over_at =
      sym (drop-drop n at (over_at xs at n vs))
      ∙ ap (drop n) (drop_at (take at xs) (vs ++ drop (at + n) xs) at length_before)
      ∙ drop_at vs (drop (at + n) xs) n len

  -- a part, and then the next one after it
  pub over_at-over_at : (m : ℕ) (ws : List ℕ) → over_at (over_at xs at n vs) (at + n) m ws ≡ over_at xs at (n + m) (vs ++ ws)
  over_at-over_at m ws =
      let t : take (at + n) (over_at xs at n vs) ≡ take at xs ++ vs =
      ap (take (at + n)) (sym (append_assoc (take at xs) vs (drop (at + n) xs)))
      ∙ take_at (take at xs ++ vs) (drop (at + n) xs) (at + n) (omega (arith, length-append (take at xs) vs, length_before)) in
      let d : drop (at + n + m) (over_at xs at n vs) ≡ drop (at + (n + m)) xs =
      sym (drop-drop m (at + n) (over_at xs at n vs)) ∙ ap (drop m) drop-over_at ∙ drop-drop m (at + n) xs
      ∙ ap (λ (k : ℕ). drop k xs) (add_assoc at n m) in
      ap₂ (λ (p r : List ℕ). p ++ (ws ++ r)) t d ∙ simp append_assoc

-- what was put at the front
pub take-over : (bs o : List ℕ) (n : ℕ) → length bs ≡ n → take n (over bs o) ≡ bs
take-over bs o n e = take_at bs (drop (length bs) o) n e
