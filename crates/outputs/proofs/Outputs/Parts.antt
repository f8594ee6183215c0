-- The rest of a slice from an index on, lent to a callee: what it is lent, and what the slice is when the rest has come back.
use mathlib.Core.Path.{◌≡◌}
use mathlib.Core.List.{List, ◌++◌, append-nil}
use Prim.Native.Nat.{ℕ, ◌-◌}
use native.Mathlib.Omega.{arith}
use borrow.Rule.Slice.PartMut.{put_mid}
use lib.ListN.{length, take, drop, length-drop, drop_of_length-le}
use lib.Seq.{take_all}

pub rest_is : (a : ℕ) (xs : List ℕ) → take (length xs - a) (drop a xs) ≡ drop a xs
rest_is a xs = take_all (length xs - a) (drop a xs) (rw length-drop (omega arith))

pub put_rest : (a : ℕ) (xs ys : List ℕ) → put_mid a (length xs - a) xs ys ≡ take a xs ++ ys
put_rest a xs ys = rw (drop_of_length-le (drop a xs) {i = length xs - a} (rw length-drop (omega arith)), append-nil)
