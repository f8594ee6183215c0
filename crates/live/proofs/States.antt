-- Laws of making a reader and of a step, in the parts that the code has.
use mathlib.Core.Bool.{false}
use mathlib.Core.List.{List, []}
use mathlib.Core.Path.{◌≡◌}
use Prim.Native.Nat.{ℕ, ◌≤◌, ◌<◌}
use native.Mathlib.Omega.{arith}
use borrow.Author.Tests.{ne_eqb}
use Rattle.std.proofs.Common.{Option, Some, None}
use Rattle.std.specs.Option.{ok_or}
use Rattle.refusals.specs.declared.Refusal.{Refusal}
use Rattle.refusals.specs.Tests.{refusal, no_refusal}
use Rattle.ratio_format.specs.declared.Cursor.{Cursor}
use Rattle.ratio_format.specs.Stepping.{made, made_body, bad_cursor, next_read}
use Rattle.ratio_format.proofs.Stepping.{good_cursor, read_within, left_no, left_ratio}
use Rattle.live.specs.States.{Sought}

-- the body that a reader holds
module _ (n : ℕ) (b : List ℕ) where
  pub body_kept : no_refusal ≡ made n → b ≡ made_body n b
  unfolding made_body
  body_kept e = rw (← e)

  pub body_empty : (f : Refusal) → f ≡ made n → (f.number ≡ 0 → ⊥) → [] ≡ made_body n b
  unfolding made_body
  body_empty f e z = rw (← e, ne_eqb f.number 0 z)

module _ (b : List ℕ) (c : Cursor) (g : bad_cursor b c ≡ false) where
  -- not fewer than all are all
  pub seen_all : c.count ≤ c.seen → c.seen ≡ c.count
  seen_all h = omega (arith, (good_cursor b c g).seen)

  -- before the end: what is read decides
  pub read_next : c.seen < c.count → (r : Option (ℕ × ℕ)) → next_read b c ≡ r → Sought b c (ok_or r (refusal 18 0))
  read_next h None e = let left = left_no b c g (λ s. omega arith) e in (left.0, left.1, λ z. omega arith)
  read_next h (Some (v, k)) e =
      let left = left_ratio b c v k g (λ s. omega arith) e in
      let good = good_cursor b c g in
      (left.0, left.1, read_within b c v k good e, omega (arith, good.count))
