-- Laws of lists whose elements are all below a bound: by parts and by index.
use mathlib.Core.List.{List, [], ◌∷◌, ◌++◌}
use Prim.Native.Nat.{ℕ, zero, suc, ◌<◌}
use lib.ListN.{get_or, take, drop, replicate}
use Rattle.lists.specs.Below.{Below}

module _ (b : ℕ) where
  -- one list after the other
  pub below_append : (ds es : List ℕ) → Below b ds → Below b es → Below b (ds ++ es)
  unfolding Below
  below_append [] es h g = g
  below_append (d ∷ ds) es h g = (h.0, below_append ds es h.1 g)

  -- the first k elements, and those after them
  pub below_take : (k : ℕ) (ds : List ℕ) → Below b ds → Below b (take k ds)
  unfolding Below
  below_take zero ds h = tt
  below_take (suc k) [] h = tt
  below_take (suc k) (d ∷ ds) h = (h.0, below_take k ds h.1)

  pub below_drop : (k : ℕ) (ds : List ℕ) → Below b ds → Below b (drop k ds)
  unfolding Below
  below_drop zero ds h = h
  below_drop (suc k) [] h = tt
  below_drop (suc k) (d ∷ ds) h = below_drop k ds h.1

  -- by index: past the end stands 0
  pub below_at : zero < b → (ds : List ℕ) → Below b ds → (i : ℕ) → get_or ds i 0 < b
  unfolding Below
  below_at b⁺ [] h i = b⁺
  below_at b⁺ (d ∷ ds) h zero = h.0
  below_at b⁺ (d ∷ ds) h (suc i) = below_at b⁺ ds h.1 i

  pub below_of : (ds : List ℕ) → ((i : ℕ) → get_or ds i 0 < b) → Below b ds
  unfolding Below
  below_of [] h = tt
  below_of (d ∷ ds) h = (h 0, below_of ds (λ i. h (suc i)))

  -- one element many times
  pub below_replicate : (k : ℕ) {d : ℕ} → d < b → Below b (replicate k d)
  unfolding Below
  below_replicate zero h = tt
  below_replicate (suc k) h = (h, below_replicate k h)
