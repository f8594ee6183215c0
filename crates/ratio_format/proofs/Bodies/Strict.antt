-- Strict reading of bodies: it gives some ratios exactly when the bytes are their coding.
use mathlib.Core.Path.{◌≡◌, refl, sym, ap, ◌∙◌}
use mathlib.Core.Bool.{Bool, true, false, cond}
use mathlib.Core.List.{List, []}
use mathlib.Core.Option.{Option, none, some}
use Prim.Native.Nat.{ℕ, ◌^◌}
use native.Mathlib.Omega.{arith}
use lib.ListN.{length}
use Rattle.lists.specs.Below.{Below}
use Rattle.lists.specs.Compare.{same}
use Rattle.lists.proofs.Compare.{same_own, same_is}
use Rattle.ratio_format.specs.Windows.{window_size}
use Rattle.ratio_format.specs.Bodies.{coded_ratios, open_ratios, strict_ratios, if_coded}
use Rattle.ratio_format.proofs.Bodies.ReadFrom.{open_coded, open_length, open_below}

-- the coding is accepted
pub strict_coded : (vs : List ℕ) → Below (2 ^ 64) vs → strict_ratios (length vs) (coded_ratios vs) ≡ some vs
unfolding strict_ratios Below
strict_coded vs hs = rw (open_coded window_size (omega arith) [] vs (omega arith) tt hs, same_own (coded_ratios vs))

-- what is accepted is read openly, and the bytes are its coding
pub strict_reads : (n : ℕ) (s vs : List ℕ) → strict_ratios n s ≡ some vs → (open_ratios n s ≡ some vs) × (s ≡ coded_ratios vs)
unfolding strict_ratios
strict_reads n s vs e = go (open_ratios n s) refl e
  where
    at : (us : List ℕ) → open_ratios n s ≡ some us → (t : Bool) → same (coded_ratios us) s ≡ t → cond t (some us) none ≡ some vs
        → (open_ratios n s ≡ some vs) × (s ≡ coded_ratios vs)
    at us q true f e = let i : us ≡ vs = cc in (q ∙ e, sym (same_is (coded_ratios us) s f) ∙ ap coded_ratios i)
    at us q false f e = let z : ◌≡◌ {A = ℕ} 0 1 = cc in absurd (omega arith)

    go : (r : Option (List ℕ)) → open_ratios n s ≡ r → if_coded s r ≡ some vs → (open_ratios n s ≡ some vs) × (s ≡ coded_ratios vs)
    go none q e = let z : ◌≡◌ {A = ℕ} 0 1 = cc in absurd (omega arith)
    go (some us) q e = at us q (same (coded_ratios us) s) refl e

pub strict_only_body : (n : ℕ) (s vs : List ℕ) → strict_ratios n s ≡ some vs → (s ≡ coded_ratios vs) × (length vs ≡ n)
strict_only_body n s vs e = let r = strict_reads n s vs e in (r.1, open_length window_size [] n s vs r.0)

-- the ratios that are read have 64 bits
pub strict_below : (n : ℕ) (s vs : List ℕ) → Below 256 s → strict_ratios n s ≡ some vs → Below (2 ^ 64) vs
unfolding Below
strict_below n s vs hs e = open_below window_size [] n s vs hs tt (strict_reads n s vs e).0
