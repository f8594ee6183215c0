-- Laws of elements of a list: of two lists joined, of no list, and of what holds of every element.
use mathlib.Core.Bool.{Bool, true}
use mathlib.Core.List.{List, [], ◌∷◌, ◌++◌}
use mathlib.Core.Logic.{◌⊎◌, inl, inr, ⊎_elim}
use mathlib.Core.Path.{◌≡◌, ap, ◌∙◌, subst}
use Rattle.lists.specs.Among.{Among}
use Rattle.lists.proofs.Lists.{every, every_cons}

module _ {A : Type 0} (x : A) where
  pub among_left : (a b : List A) → Among x a → Among x (a ++ b)
  unfolding Among
  among_left [] b h = absurd h
  among_left (y ∷ a) b (inl e) = inl e
  among_left (y ∷ a) b (inr h) = inr (among_left a b h)

  pub among_right : (a b : List A) → Among x b → Among x (a ++ b)
  unfolding Among
  among_right [] b h = h
  among_right (y ∷ a) b h = inr (among_right a b h)

  pub among_either : (a b : List A) → Among x (a ++ b) → Among x a ⊎ Among x b
  unfolding Among
  among_either [] b h = inr h
  among_either (y ∷ a) b (inl e) = inl (inl e)
  among_either (y ∷ a) b (inr h) = ⊎_elim (λ k. inl (inr k)) (λ k. inr k) (among_either a b h)

  pub among_none : (l : List A) → l ≡ [] → Among x l → ⊥
  unfolding Among
  among_none l e h = subst (Among x) e h

-- what holds of every element holds of one
pub among_every : {A : Type 0} (p : A → Bool) (x : A) (l : List A) → every p l ≡ true → Among x l → p x ≡ true
unfolding Among
among_every p x [] w h = absurd h
among_every p x (y ∷ l) w (inl e) = ap p e ∙ (every_cons p y l w).0
among_every p x (y ∷ l) w (inr h) = among_every p x l (every_cons p y l w).1 h
