-- The law of two writers: bytes put at the front of an output, and then more bytes in the rest that they leave.
use mathlib.Core.Path.{◌≡◌, sym, ap, ap₂, ◌∙◌, subst}
use mathlib.Core.List.{List, ◌++◌, append_assoc}
use Prim.Native.Nat.{ℕ, ◌+◌, ◌-◌}
use native.Mathlib.Omega.{arith}
use borrow.Rule.Slice.PartMut.{put_mid}
use lib.ListN.{length, take, drop, length-append, length-drop}
use lib.Seq.{take_at, drop_at, drop-drop}
use Rattle.std.specs.Prelude.{Option, Some, None}
use Rattle.outputs.specs.Outputs.{Placed, both_wrote}
use Rattle.outputs.proofs.Outputs.Parts.{rest_is, put_rest}

-- xs took n bytes of o, which is then p; of ys a writer said v in the rest, which is then q
module _ (xs ys o p : List ℕ) (n : ℕ) (put : Placed xs (Some n) o p) (q : List ℕ) where
  in_rest : (v : Option ℕ) → Placed ys v (take (length p - n) (drop n p)) q → Placed ys v (drop n o) q
  in_rest v next =
      subst (λ (l : List ℕ). Placed ys v l q)
      (rest_is n p ∙ ap (drop n) put.2 ∙ drop_at xs (drop (length xs) o) n (sym put.0) ∙ ap (λ (k : ℕ). drop k o) (sym put.0)) next

  both_placed : (v : Option ℕ) → Placed ys v (drop n o) q → Placed (xs ++ ys) (both_wrote n v) o (put_mid n (length p - n) p q)
  both_placed (Some m) h =
      let l : n + length ys ≡ length (xs ++ ys) = omega (arith, length-append xs ys, put.0) in (
        omega (arith, h.0, l),
        omega (arith, h.0, h.1, length-drop n o, put.0, put.1, l),
        put_rest n p q
            ∙ ap₂ (λ (a b : List ℕ). a ++ b) (ap (take n) put.2 ∙ take_at xs (drop (length xs) o) n (sym put.0))
            (h.2 ∙ ap (λ (k : List ℕ). ys ++ k) (drop-drop (length ys) n o))
            ∙ sym (append_assoc xs ys (drop (n + length ys) o))
            ∙ ap (λ (k : ℕ). (xs ++ ys) ++ drop k o) l,
      )
  both_placed None h = omega (arith, h, length-append xs ys, length-drop n o, put.0, put.1)

  pub placed_then : (v : Option ℕ) → Placed ys v (take (length p - n) (drop n p)) q → Placed (xs ++ ys) (both_wrote n v) o (put_mid n (length p - n) p q)
  placed_then v next = both_placed v (in_rest v next)
