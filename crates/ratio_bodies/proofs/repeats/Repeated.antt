-- Ratios that repeat the one before them: their coding, and the index after them.
use mathlib.Core.Path.{◌≡◌, refl, sym, ap, ◌∙◌}
use mathlib.Core.Bool.{Bool, true, false}
use mathlib.Core.List.{List, [], ◌∷◌, ◌++◌, append-nil, append_assoc}
use Prim.Native.Nat.{ℕ, zero, suc, ◌+◌, ◌-◌, ◌≤◌, ◌<◌}
use native.Mathlib.Numerals.{add-one}
use native.Mathlib.Omega.{arith}
use borrow.Author.Tests.{eqb-true, eqb-false}
use lib.Dec.{eqb}
use lib.ListN.{length, get_or, take, replicate, replicate-append-replicate}
use Rattle.ratio_format.specs.Windows.{window_size, window_of}
use Rattle.ratio_format.specs.RatioForms.{coded}
use Rattle.ratio_format.specs.Bodies.{coded_ratios}
use Rattle.ratio_format.proofs.Bodies.{coded_more}
use Rattle.ratio_bodies.specs.Indexes.{NearlyIndexed}
use Rattle.ratio_bodies.proofs.Indexes.{coded_newest, nearly_same}

-- as many zeros
abbrev zeros : ℕ → List ℕ
zeros r = replicate r 0

-- the r ratios of l from i on are equal to the one before them
abbrev pub Repeats : List ℕ → ℕ → ℕ → Type 0
Repeats l i r = (k : ℕ) → k < r → get_or l (i + k) 0 ≡ get_or l (i - 1) 0

-- no ratio, and one more
pub repeats_start : (l : List ℕ) (i : ℕ) → Repeats l i 0
repeats_start l i k h = absurd (omega arith)

pub repeats_more : (l : List ℕ) (i r : ℕ) → Repeats l i r → get_or l (i + r) 0 ≡ get_or l (i - 1) 0 → Repeats l i (r + 1)
repeats_more l i r x e k h = go (eqb k r) refl
  where
    go : (t : Bool) → eqb k r ≡ t → get_or l (i + k) 0 ≡ get_or l (i - 1) 0
    go true q = rw (eqb-true k r q) e
    go false q = let n = eqb-false k r q in x k (omega arith)

module _ (l : List ℕ) (i : ℕ) (nonzero : 0 < i) where
  -- each is equal to the one before it
  last : (r : ℕ) → Repeats l i (suc r) → get_or l (i + r - 1) 0 ≡ get_or l (i + r) 0
  last zero x =
      let z : i + 0 - 1 ≡ i - 1 = omega arith in
      ap (λ (m : ℕ). get_or l m 0) z ∙ sym (x 0 (omega arith))
  last (suc r) x =
      let z : i + suc r - 1 ≡ i + r = omega arith in
      ap (λ (m : ℕ). get_or l m 0) z ∙ x r (omega arith) ∙ sym (x (suc r) (omega arith))

  -- all but the last
  fewer : (r : ℕ) → Repeats l i (suc r) → Repeats l i r
  fewer r x k h = x k (omega arith)

  next : (r : ℕ) → i + suc r ≡ i + r + 1
  next r = omega arith

  -- each is written as the place 0
  pub repeats_coded : (r : ℕ) → i + r ≤ length l → Repeats l i r → coded_ratios (take (i + r) l) ≡ coded_ratios (take i l) ++ replicate r 0
  repeats_coded zero h x =
      let z : i + 0 ≡ i = omega arith in
      ap (λ (m : ℕ). coded_ratios (take m l)) z ∙ sym (append-nil (coded_ratios (take i l)))
  repeats_coded (suc r) h x =
      let z : i + r - 1 - 0 ≡ i + r - 1 = omega arith in
      let c : coded (get_or l (i + r) 0) (window_of window_size (take (i + r) l)) ≡ 0 ∷ [] =
      coded_newest l (i + r) (get_or l (i + r) 0) 0 (omega arith) (omega arith) (omega arith) (rw z (last r x)) (λ k f g e. omega arith) in
      let t : zeros r ++ zeros 1 ≡ zeros (suc r) = replicate-append-replicate {A = ℕ} r 1 0 ∙ ap zeros (add-one r) in
      ap (λ (m : ℕ). coded_ratios (take m l)) (next r)
      ∙ coded_more window_size l (i + r) (omega arith)
      ∙ ap (λ (bs : List ℕ). coded_ratios (take (i + r) l) ++ bs) c
      ∙ ap (λ (bs : List ℕ). bs ++ (0 ∷ [])) (repeats_coded r (omega arith) (fewer r x))
      ∙ append_assoc (coded_ratios (take i l)) (replicate r 0) (0 ∷ [])
      ∙ ap (λ (bs : List ℕ). coded_ratios (take i l) ++ bs) t

  -- the index needs no change
  pub repeats_nearly : (ns : List ℕ) (r : ℕ) → Repeats l i r → NearlyIndexed ns l i → NearlyIndexed ns l (i + r)
  repeats_nearly ns zero x t = let z : i + 0 ≡ i = omega arith in rw z t
  repeats_nearly ns (suc r) x t =
      rw (next r) (nearly_same ns l (i + r) (omega arith) (last r x) (repeats_nearly ns r (fewer r x) t))
