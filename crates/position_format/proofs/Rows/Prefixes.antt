-- Prefixes that are apart: bits that begin with one of them do not begin with the other.
use mathlib.Core.Bool.{Bool, true, false, not, false≢true}
use mathlib.Core.List.{List, [], ◌∷◌, ◌++◌}
use mathlib.Core.Path.{◌≡◌, refl, sym}
use Prim.Native.Nat.{ℕ}
use borrow.Author.Tests.{eqb-true, eq-eqb}
use lib.Dec.{eqb}
use Rattle.lists.specs.Compare.{both, begins}
use Rattle.position_format.proofs.Rows.{apart}

pub apart_not : (p q ds : List ℕ) → apart p q ≡ true → begins p (q ++ ds) ≡ false
unfolding begins
apart_not [] q ds e = absurd (false≢true e)
apart_not (b ∷ p) [] ds e = absurd (false≢true e)
apart_not (b ∷ p) (c ∷ q) ds e = go (eqb b c) refl e (apart_not p q ds)
  where
    go : (t : Bool) → eqb b c ≡ t → both (not (both t (begins p q))) (not (both (eqb c b) (begins q p))) ≡ true → (apart p q ≡ true → begins p (q ++ ds) ≡ false) → both t (begins p (q ++ ds)) ≡ false
    go true s e f = f (rw (eq-eqb c b (sym (eqb-true b c s))) at e)
    go false s e f = refl
