-- A number's bytes written into a list from the last to the first: what stands there before, after a turn, and at the end.
use mathlib.Core.Path.{◌≡◌}
use mathlib.Core.List.{List, ◌++◌, append_assoc}
use Prim.Native.Nat.{ℕ, zero, suc, ◌+◌, ◌-◌, ◌/◌, ◌%◌, ◌^◌, ◌≤◌, ◌<◌}
use native.Mathlib.Nat.{add-suc, sub_self, pow-suc, div-one, div-div-eq-div-mul}
use native.Mathlib.Numerals.{sub-one}
use native.Mathlib.Omega.{arith}
use lib.ListN.{length, take, drop, set, take-append-drop}
use lib.Seq.{take-suc, length-take-le, set_at}
use Rattle.bits.specs.Digits.{digits_of, bytes_of}

-- the list o after the last n - i of the n bytes of x at `at` are written
abbrev pub written : List ℕ → ℕ → ℕ → ℕ → ℕ → List ℕ
written o at n x i = take (at + i) o ++ (bytes_of (n - i) x ++ drop (at + n) o)

module _ (o : List ℕ) (at n x i : ℕ) (i< : i < n) (room : at + n ≤ length o) where
  more : n - i ≡ suc (n - suc i)
  more = omega arith

  write_step : set (written o at n x (suc i)) (at + i) (x / 256 ^ (n - suc i) % 256) ≡ written o at n x i
  unfolding digits_of
  write_step =
      let h : at + i < length o = omega arith in
      let e : length (take (at + i) o) ≡ at + i = length-take-le (at + i) o (omega arith) in
      rw (add-suc, take-suc o (at + i) 0 h, append_assoc, more) (set_at (take (at + i) o) _ _ _ (at + i) e)

  shift-step : x / 256 ^ (n - suc i) / 256 ≡ x / 256 ^ (n - i)
  shift-step = rw (more, pow-suc) (div-div-eq-div-mul x _ 256)

-- before the first turn
pub shift_start : (x n : ℕ) → x / 256 ^ (n - n) ≡ x
shift_start x n = rw sub_self (div-one x)

pub write_start : (o : List ℕ) (at n x : ℕ) → written o at n x n ≡ o
unfolding digits_of
write_start o at n x = rw sub_self (take-append-drop (at + n) o)

-- what a turn keeps
pub write_again : (o p : List ℕ) (at n x i y : ℕ) → 0 < i → i ≤ n → at + n ≤ length o → y ≡ x / 256 ^ (n - i) → p ≡ written o at n x i
    → (y / 256 ≡ x / 256 ^ (n - (i - 1))) × (set p (at + (i - 1)) (y % 256) ≡ written o at n x (i - 1))
write_again o p at n x zero y i⁺ i≤ room ey ep = absurd (omega arith)
write_again o p at n x (suc i) y i⁺ i≤ room ey ep = rw (sub-one, ey, ep) (shift-step o at n x i i≤ room, write_step o at n x i i≤ room)
