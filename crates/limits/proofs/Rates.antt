-- Laws of the rates.
use mathlib.Core.Bool.{Bool, true, false, cond, ◌||◌}
use mathlib.Core.List.{List, [], ◌∷◌}
use mathlib.Core.Path.{◌≡◌, refl, sym, ap₂, ◌∙◌}
use Prim.Native.Nat.{ℕ, ◌≤◌}
use borrow.Author.Tests.{leb-true, eqb-true, eq-eqb}
use lib.Dec.{leb, eqb}
use Rattle.std.specs.List.{list_any}
use Rattle.limits.specs.Rates.{rates, is_rate, six_rates, RateRule}
use Rattle.lists.specs.Lists.{member}
use Rattle.lists.proofs.Compare.{same_test}
use Rattle.lists.proofs.Lists.{member_every}

-- ---- the rule and the list

-- computed: each of the rates is in the list, and each of the list is one of the rates
pub rate_rule : RateRule
unfolding is_rate rates member
rate_rule r = same_test (is_rate r) (member r six_rates) (member_every (λ x. member x six_rates) rates r refl) (member_every is_rate six_rates r refl)

or_cond : (a b : Bool) → (a || b) ≡ cond a true b
or_cond true b = refl
or_cond false b = refl

-- a list contains its members
pub member_any : (x : ℕ) (l : List ℕ) → list_any (λ y. eqb y x) l ≡ member x l
unfolding member
member_any x [] = refl
member_any x (y ∷ l) = ap₂ (λ s t. s || t) (same_test (eqb y x) (eqb x y) (λ e. eq-eqb x y (sym (eqb-true y x e))) (λ e. eq-eqb y x (sym (eqb-true x y e)))) (member_any x l) ∙ or_cond (eqb x y) (member x l)

-- ---- bounds

-- no rate is below 1,000, so a span has no more milliseconds than samples
pub rate_low : (r : ℕ) → is_rate r ≡ true → 1000 ≤ r
unfolding is_rate rates
rate_low r e = leb-true 1000 r (member_every (λ x. leb 1000 x) rates r refl e)

-- the largest rate
pub rate_high : (r : ℕ) → is_rate r ≡ true → r ≤ 192000
unfolding is_rate rates
rate_high r e = leb-true r 192000 (member_every (λ x. leb x 192000) rates r refl e)
