-- `over` by stores: one or two bytes set at the front of an output, and a run of bytes after them.
use mathlib.Core.Path.{◌≡◌, refl, ap}
use mathlib.Core.List.{List, [], ◌∷◌, ◌++◌}
use Prim.Native.Nat.{ℕ, suc, ◌+◌, ◌≤◌}
use native.Mathlib.Omega.{arith}
use lib.ListN.{length, set, drop}
use Rattle.outputs.specs.Outputs.{over, over_at}

-- one byte
pub over-one : (o : List ℕ) (b : ℕ) → 1 ≤ length o → set o 0 b ≡ over (b ∷ []) o
over-one [] b h = absurd (omega arith)
over-one (x ∷ o) b h = refl

-- one byte, and n more
pub over-one_more : (o bs : List ℕ) (b n : ℕ) → length bs ≡ n → n + 1 ≤ length o → over_at (set o 0 b) 1 n bs ≡ over (b ∷ bs) o
over-one_more [] bs b n e h = absurd (omega arith)
over-one_more (x ∷ o) bs b n e h =
    let q : 1 + n ≡ suc (length bs) = omega arith in
    ap (λ (k : ℕ). b ∷ (bs ++ drop k (b ∷ o))) q

-- two bytes, and n more
pub over-two_more : (o bs : List ℕ) (a b n : ℕ) → length bs ≡ n → n + 2 ≤ length o → over_at (set (set o 0 a) 1 b) 2 n bs ≡ over (a ∷ b ∷ bs) o
over-two_more [] bs a b n e h = absurd (omega arith)
over-two_more (x ∷ []) bs a b n e h = absurd (omega arith)
over-two_more (x ∷ y ∷ o) bs a b n e h =
    let q : 2 + n ≡ suc (suc (length bs)) = omega arith in
    ap (λ (k : ℕ). a ∷ b ∷ (bs ++ drop k (a ∷ b ∷ o))) q
