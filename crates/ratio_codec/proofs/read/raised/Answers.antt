-- `raised` meets its contract: a shift by 8 bits for each byte, and 64 of them leave only 0.
use Rattle.std.specs.Prelude.{if◌then◌else◌, nat_lt}
use Rattle.std.proofs.Common.{◌≡◌, ◌∙◌, Bool, true, false, refl, ℕ, ◌*◌, ◌%◌, ◌^◌, ◌≤◌, ◌<◌, arith}
use native.Mathlib.Nat.{mod-eq_of_lt}
use borrow.Author.Tests.{ltb-false}
use Rattle.bits.proofs.Digits.{pow_bytes}
use Rattle.ratio_codec.proofs.read.raised.Goals as goal

shifted : (m t : ℕ) → t ≤ 8 → m * 256 ^ t < 2 ^ 64 → (if nat_lt (8 * t) 64 then (m * 2 ^ (8 * t)) % 2 ^ 64 else 0) ≡ m * 256 ^ t
shifted m t small fits = go (nat_lt (8 * t) 64) refl
  where
    go : (x : Bool) → nat_lt (8 * t) 64 ≡ x → (if x then (m * 2 ^ (8 * t)) % 2 ^ 64 else 0) ≡ m * 256 ^ t
    go true e = rw (← pow_bytes) (mod-eq_of_lt fits)
    go false e =
        let eight : t ≡ 8 = omega (arith, ltb-false (8 * t) 64 e) in
        let none : m ≡ 0 = omega (arith, rw eight at fits) in
        rw none (omega arith)

pub returns : goal.returns
returns c = c.unbounded_shl.ensures ∙ shifted c.args.m c.args.t c.requires.0 c.requires.1
