-- Laws of the tests that compare lists: what they say when true, and when they are true.
use mathlib.Core.Path.{◌≡◌, refl, sym, ap, ap₂, ◌∙◌}
use mathlib.Core.Bool.{Bool, true, false, false≢true}
use mathlib.Core.List.{List, [], ◌∷◌, ◌++◌}
use Prim.Native.Nat.{ℕ, ◌<◌}
use native.Mathlib.Omega.{arith}
use lib.Dec.{eqb}
use lib.ListN.{length, take, drop, length-append, take-append-drop}
use lib.Seq.{take_at}
use borrow.Author.Tests.{eqb-true, eq-eqb}
use Rattle.lists.specs.Compare.{both, begins, same}

-- the conjunction of two tests
pub both_true : (s t : Bool) → both s t ≡ true → (s ≡ true) × (t ≡ true)
both_true true t e = (refl, e)
both_true false t e = absurd (false≢true e)

-- a test that is not true is false
pub not_so : (t : Bool) → (t ≡ true → ⊥) → t ≡ false
not_so true f = absurd (f refl)
not_so false f = refl

-- two tests are one where each holds wherever the other does
pub same_test : (a b : Bool) → (a ≡ true → b ≡ true) → (b ≡ true → a ≡ true) → a ≡ b
same_test true true f g = refl
same_test true false f g = sym (f refl)
same_test false true f g = g refl
same_test false false f g = refl

-- a beginning

pub begins_own : (a s : List ℕ) → begins a (a ++ s) ≡ true
unfolding begins
begins_own [] s = refl
begins_own (b ∷ a) s = rw (eq-eqb b b refl) (begins_own a s)

pub begins_rest : (a s : List ℕ) → begins a s ≡ true → (t : List ℕ) × (s ≡ a ++ t)
unfolding begins
begins_rest [] s e = (s, refl)
begins_rest (b ∷ a) [] e = absurd (false≢true e)
begins_rest (b ∷ a) (c ∷ s) e =
    let h = both_true (eqb b c) (begins a s) e in
    let r = begins_rest a s h.1 in
    (r.0, ap₂ (λ (x : ℕ) (l : List ℕ). x ∷ l) (sym (eqb-true b c h.0)) r.1)

-- what begins with p begins with the elements of p, and no others
pub begins-take : (p ds : List ℕ) → begins p ds ≡ true → take (length p) ds ≡ p
begins-take p ds e =
    let t = begins_rest p ds e in
    ap (take (length p)) t.1 ∙ take_at p t.0 (length p) refl

pub take_begins : (p ds : List ℕ) → take (length p) ds ≡ p → begins p ds ≡ true
take_begins p ds e = rw (sym (take-append-drop (length p) ds) ∙ ap (λ (l : List ℕ). l ++ drop (length p) ds) e) (begins_own p (drop (length p) ds))

-- fewer elements do not begin with it
pub begins_short : (p ds : List ℕ) → length ds < length p → begins p ds ≡ false
begins_short p ds h = not_so (begins p ds) go
  where
    go : begins p ds ≡ true → ⊥
    go e =
        let t = begins_rest p ds e in
        omega (arith, ap length t.1, length-append p t.0)

-- equal lists

pub same_own : (a : List ℕ) → same a a ≡ true
unfolding same
same_own [] = refl
same_own (b ∷ a) = rw (eq-eqb b b refl) (same_own a)

pub same_is : (a s : List ℕ) → same a s ≡ true → a ≡ s
unfolding same
same_is [] [] e = refl
same_is [] (c ∷ s) e = absurd (false≢true e)
same_is (b ∷ a) [] e = absurd (false≢true e)
same_is (b ∷ a) (c ∷ s) e =
    let h = both_true (eqb b c) (same a s) e in
    ap₂ (λ (x : ℕ) (l : List ℕ). x ∷ l) (eqb-true b c h.0) (same_is a s h.1)

pub same_not : (a s : List ℕ) → (a ≡ s → ⊥) → same a s ≡ false
same_not a s n = not_so (same a s) (λ e. n (same_is a s e))
