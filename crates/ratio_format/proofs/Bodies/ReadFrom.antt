-- Reading ratio by ratio, by any rule for one ratio: what is read when the bytes are a coding, and what a reading says of its first ratio.
-- The open rule's laws are instances.
use Rattle.std.specs.Prelude.{None}
use mathlib.Core.Path.{◌≡◌, refl, sym, ap, ◌∙◌, subst}
use mathlib.Core.List.{List, [], ◌∷◌, ◌++◌}
use mathlib.Core.Option.{Option, none, some}
use Prim.Native.Nat.{ℕ, zero, suc, ◌^◌, ◌≤◌, ◌<◌}
use native.Mathlib.Omega.{arith}
use lib.ListN.{length, drop}
use lib.Seq.{drop_at}
use Rattle.lists.specs.Below.{Below}
use Rattle.lists.proofs.Below.{below_drop}
use Rattle.ratio_format.specs.Windows.{window_size, push}
use Rattle.ratio_format.specs.RatioForms.{coded}
use Rattle.ratio_format.specs.Open.{Read, Ratio, open_one}
use Rattle.ratio_format.specs.Bodies.{coded_from, open_from, before, at_end, on_ratio}
use Rattle.ratio_format.proofs.Windows.{push-length, push_below}
use Rattle.ratio_format.proofs.Open.{read_back, open_value}

-- a rule for one ratio: a window and bytes to what is read
abbrev pub Rule : Type 0
Rule = List ℕ → List ℕ → Read

-- n ratios by that rule, every byte used
unfoldable pub read_from : Rule → ℕ → List ℕ → ℕ → List ℕ → Option (List ℕ)
read_from rule size w zero s = at_end s
read_from rule size w (suc n) s = on_ratio (rule w s) (λ v k. before v (read_from rule size (push size v w) n (drop k s)))

pub open_is : (size : ℕ) (w : List ℕ) (n : ℕ) (s : List ℕ) → open_from size w n s ≡ read_from open_one size w n s
unfolding open_from read_from
open_is size w zero s = refl
open_is size w (suc n) s = go (λ v k. open_is size (push size v w) n (drop k s)) (open_one w s)
  where
    go : ((v k : ℕ) → open_from size (push size v w) n (drop k s) ≡ read_from open_one size (push size v w) n (drop k s)) → (r : Read)
        → on_ratio r (λ v k. before v (open_from size (push size v w) n (drop k s))) ≡ on_ratio r (λ v k. before v (read_from open_one size (push size v w) n (drop k s)))
    go ih None = refl
    go ih (Ratio v k) = ap (before v) (ih v k)

-- the rule reads what is written for one ratio, whatever follows
abbrev pub ReadsBack : Rule → Type 0
ReadsBack rule = (v : ℕ) (w rest : List ℕ) → v < 2 ^ 64 → Below (2 ^ 64) w → length w ≤ window_size → rule w (coded v w ++ rest) ≡ Ratio v (length (coded v w))

-- then it reads a whole coding
pub read_coded : (rule : Rule) → ReadsBack rule → (size : ℕ) → size ≤ window_size → (w vs : List ℕ) → length w ≤ window_size → Below (2 ^ 64) w → Below (2 ^ 64) vs
    → read_from rule size w (length vs) (coded_from size w vs) ≡ some vs
unfolding coded_from read_from Below
read_coded rule back size hz w [] hw ha hs = refl
read_coded rule back size hz w (v ∷ vs) hw ha hs =
    let p = push size v w in
    let rest = coded_from size p vs in
    rw (back v w rest hs.0 ha hw, drop_at (coded v w) rest (length (coded v w)) refl)
    (ap (before v) (read_coded rule back size hz p vs (omega (arith, push-length size v w)) (push_below (2 ^ 64) size v w hs.0 ha) hs.1))

-- what a reading of one ratio and more says: the first, and the others
pub record FirstOf (rule : Rule) (size : ℕ) (w : List ℕ) (n : ℕ) (s vs : List ℕ) : Type 0 where
  pub ratio : ℕ
  pub used : ℕ
  pub others : List ℕ
  pub reads : rule w s ≡ Ratio ratio used
  pub goes : read_from rule size (push size ratio w) n (drop used s) ≡ some others
  pub splits : vs ≡ ratio ∷ others

module _ (rule : Rule) (size : ℕ) where
  pub read_first : (w : List ℕ) (n : ℕ) (s vs : List ℕ) → read_from rule size w (suc n) s ≡ some vs → FirstOf rule size w n s vs
  unfolding read_from
  read_first w n s vs e = go (rule w s) refl e
    where
      at : (v k : ℕ) → rule w s ≡ Ratio v k → (r : Option (List ℕ)) → read_from rule size (push size v w) n (drop k s) ≡ r → before v r ≡ some vs
          → FirstOf rule size w n s vs
      at v k q none f e = let z : ◌≡◌ {A = ℕ} 0 1 = cc in absurd (omega arith)
      at v k q (some us) f e = record { ratio = v; used = k; others = us; reads = q; goes = f; splits = cc }

      go : (r : Read) → rule w s ≡ r → on_ratio r (λ v k. before v (read_from rule size (push size v w) n (drop k s))) ≡ some vs → FirstOf rule size w n s vs
      go None q e = let z : ◌≡◌ {A = ℕ} 0 1 = cc in absurd (omega arith)
      go (Ratio v k) q e = at v k q (read_from rule size (push size v w) n (drop k s)) refl e

  -- no ratios are read from no bytes only
  pub read_none : (w s vs : List ℕ) → read_from rule size w zero s ≡ some vs → (s ≡ []) × (vs ≡ [])
  unfolding read_from
  read_none w [] vs e = (refl, cc)
  read_none w (b ∷ s) vs e = let z : ◌≡◌ {A = ℕ} 0 1 = cc in absurd (omega arith)

  -- as many ratios are read as were asked for
  pub read_length : (w : List ℕ) (n : ℕ) (s vs : List ℕ) → read_from rule size w n s ≡ some vs → length vs ≡ n
  read_length w zero s vs e = ap length (read_none w s vs e).1
  read_length w (suc n) s vs e =
      let f = read_first w n s vs e in
      ap length f.splits ∙ ap suc (read_length (push size f.ratio w) n (drop f.used s) f.others f.goes)

-- the rule gives ratios of 64 bits
abbrev pub Gives64 : Rule → Type 0
Gives64 rule = (w s : List ℕ) (v k : ℕ) → Below 256 s → Below (2 ^ 64) w → rule w s ≡ Ratio v k → v < 2 ^ 64

pub read_below : (rule : Rule) → Gives64 rule → (size : ℕ) (w : List ℕ) (n : ℕ) (s vs : List ℕ) → Below 256 s → Below (2 ^ 64) w
    → read_from rule size w n s ≡ some vs → Below (2 ^ 64) vs
unfolding Below
read_below rule fits size w zero s vs hs ha e = subst (Below (2 ^ 64)) (sym (read_none rule size w s vs e).1) tt
read_below rule fits size w (suc n) s vs hs ha e =
    let f = read_first rule size w n s vs e in
    let v = f.ratio in
    let h = fits w s v f.used hs ha f.reads in
    subst (Below (2 ^ 64)) (sym f.splits)
    (h, read_below rule fits size (push size v w) n (drop f.used s) f.others (below_drop 256 f.used s hs) (push_below (2 ^ 64) size v w h ha) f.goes)

-- the open rule
pub open_coded : (size : ℕ) → size ≤ window_size → (w vs : List ℕ) → length w ≤ window_size → Below (2 ^ 64) w → Below (2 ^ 64) vs
    → open_from size w (length vs) (coded_from size w vs) ≡ some vs
open_coded size hz w vs hw ha hs =
    open_is size w (length vs) (coded_from size w vs) ∙ read_coded open_one read_back size hz w vs hw ha hs

module _ (size : ℕ) (w : List ℕ) (n : ℕ) (s vs : List ℕ) where
  pub open_length : open_from size w n s ≡ some vs → length vs ≡ n
  open_length e = read_length open_one size w n s vs (sym (open_is size w n s) ∙ e)

  pub open_below : Below 256 s → Below (2 ^ 64) w → open_from size w n s ≡ some vs → Below (2 ^ 64) vs
  open_below hs ha e =
      read_below open_one (λ w s v k b a q. (open_value w s v k b a q).0) size w n s vs hs ha (sym (open_is size w n s) ∙ e)
