-- Planes: the bytes of a ratio put into its slot one by one, and planes brought up to date ratio by ratio.
use mathlib.Core.Path.{◌≡◌, refl, sym, ap, ◌∙◌}
use mathlib.Core.Bool.{Bool, true, false}
use mathlib.Core.List.{List}
use Prim.Native.Nat.{ℕ, ◌+◌, ◌-◌, ◌*◌, ◌%◌, ◌≤◌, ◌<◌}
use native.Mathlib.Omega.{arith}
use borrow.Author.Tests.{eqb-true, eqb-false, leb-true, leb-false}
use lib.Dec.{eqb, leb}
use lib.ListN.{length, get_or, set, length-set}
use lib.Seq.{get_or-set_same, get_or-set_other}
use Rattle.bits.specs.Digits.{byte_of}
use Rattle.ratio_search.specs.BytePlanes.{slots, cells, Planes, Kept}

-- the planes ps after the lowest n bytes of v were put into the slot of i
abbrev pub InSlot : List ℕ → ℕ → ℕ → List ℕ → ℕ → Type 0
InSlot ps₀ i v ps n =
    (n ≤ 8) × (length ps ≡ cells) × ((j : ℕ) → j < n → get_or ps (j * slots + i % slots) 0 ≡ byte_of v j)
    × ((m : ℕ) → (m % slots ≡ i % slots → ⊥) → get_or ps m 0 ≡ get_or ps₀ m 0)

pub in_slot_start : (ps : List ℕ) (i v : ℕ) → length ps ≡ cells → InSlot ps i v ps 0
in_slot_start ps i v e = (omega arith, e, λ j h. absurd (omega arith), λ m n. refl)

module _ (ps₀ ps : List ℕ) (i v n b : ℕ) (p : InSlot ps₀ i v ps n) (h : n < 8) (e : b ≡ byte_of v n) where
  abbrev at : ℕ
  at = n * slots + i % slots

  pub in_slot_more : InSlot ps₀ i v (set ps at b) (n + 1)
  in_slot_more = (
    omega arith,
    length-set ps at b ∙ p.1,
    λ j g. byte j g (eqb j n) refl,
    λ m g. get_or-set_other ps at m b 0 (λ q. g (omega arith)) ∙ p.3 m g,
  )
    where
      byte : (j : ℕ) → j < n + 1 → (t : Bool) → eqb j n ≡ t → get_or (set ps at b) (j * slots + i % slots) 0 ≡ byte_of v j
      byte j g true f =
          let q = eqb-true j n f in
          ap (λ (k : ℕ). get_or (set ps at b) (k * slots + i % slots) 0) q ∙ get_or-set_same ps at b 0 (omega (arith, p.1)) ∙ e ∙ ap (byte_of v) (sym q)
      byte j g false f =
          let q = eqb-false j n f in
          get_or-set_other ps at (j * slots + i % slots) b 0 (λ r. q (omega arith)) ∙ p.2 j (omega arith)

-- planes of the ratios of l, of which those up to `to` are wanted: one ratio more
module _ (ps qs l : List ℕ) (to k : ℕ) (h : k < to) (p : Planes ps l (to - slots) k) where
  pub planes_more : ((j : ℕ) → j < 8 → get_or qs (j * slots + k % slots) 0 ≡ byte_of (get_or l k 0) j)
      → ((m : ℕ) → (m % slots ≡ k % slots → ⊥) → get_or qs m 0 ≡ get_or ps m 0) → Planes qs l (to - slots) (k + 1)
  planes_more byte other j x g f d = go (eqb x k) refl
    where
      go : (t : Bool) → eqb x k ≡ t → get_or qs (j * slots + x % slots) 0 ≡ byte_of (get_or l x 0) j
      go true e =
          let q = eqb-true x k e in
          ap (λ (n : ℕ). get_or qs (j * slots + n % slots) 0) q ∙ byte j g ∙ ap (λ (n : ℕ). byte_of (get_or l n 0) j) (sym q)
      go false e =
          let q = eqb-false x k e in
          other (j * slots + x % slots) (λ r. q (omega arith)) ∙ p j x g f (omega arith)

-- of the planes up to `done` those that are wanted up to `to`, where all before k are out of date or done
pub planes_start : (ps l : List ℕ) (done to k : ℕ) → done ≤ to → (done < k → k ≡ to - slots) → Planes ps l (done - slots) done → Planes ps l (to - slots) k
planes_start ps l done to k h late p j x g f d = go (leb done x) refl
  where
    go : (t : Bool) → leb done x ≡ t → get_or ps (j * slots + x % slots) 0 ≡ byte_of (get_or l x 0) j
    go true e = let q = leb-true done x e in absurd (omega (arith, late (omega arith)))
    go false e = p j x g (omega arith) (leb-false done x e)

-- planes of fewer ratios
pub planes_part : (ps l : List ℕ) (a b c d : ℕ) → a ≤ c → d ≤ b → Planes ps l a b → Planes ps l c d
planes_part ps l a b c d h g p j k x y z = p j k x (omega arith) (omega arith)

-- a ratio past them is set
pub kept_set : (ps l : List ℕ) (n i v : ℕ) → n ≤ i → Kept ps l n → Kept ps (set l i v) n
kept_set ps l n i v h p =
    (p.0, λ j k x y z. p.1 j k x y z ∙ ap (λ (u : ℕ). byte_of u j) (sym (get_or-set_other l i k v 0 (λ q. omega arith))))

-- before the first ratio
pub kept_start : (ps l : List ℕ) → length ps ≡ cells → Kept ps l 0
kept_start ps l e = (e, λ j k x y z. absurd (omega arith))
