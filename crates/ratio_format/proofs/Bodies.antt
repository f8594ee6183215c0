-- Bodies of coded ratios: how many bytes they have, that each is a byte, their parts, and the window at each part.
pub mod ReadFrom
pub mod Strict
pub mod Taken
use mathlib.Core.Path.{◌≡◌, refl, sym, ap, ◌∙◌}
use mathlib.Core.List.{List, [], ◌∷◌, ◌++◌, append_assoc, append-nil, reverse, reverse-cons}
use Prim.Native.Nat.{ℕ, ◌+◌, ◌*◌, ◌≤◌, ◌<◌}
use native.Mathlib.Omega.{arith}
use native.Mathlib.Numerals.{add-one}
use lib.ListN.{length, take, drop, get_or, length-append, take-append-drop}
use lib.Seq.{take_all, take-suc, append_snoc}
use Rattle.lists.specs.Below.{Below}
use Rattle.lists.proofs.Below.{below_append}
use Rattle.ratio_format.specs.Windows.{window_size, push, window_of}
use Rattle.ratio_format.specs.RatioForms.{coded}
use Rattle.ratio_format.specs.Bodies.{coded_from}
use Rattle.ratio_format.proofs.Windows.{push-length, take_late}
use Rattle.ratio_format.proofs.RatioForms.{coded-length, coded_below}

-- a ratio takes at most nine bytes
pub nine_bytes : (size : ℕ) (w vs : List ℕ) → length (coded_from size w vs) ≤ 9 * length vs
unfolding coded_from
nine_bytes size w [] = omega arith
nine_bytes size w (v ∷ vs) =
    rw length-append (omega (arith, (coded-length v w).1, nine_bytes size (push size v w) vs))

-- the window after the ratios vs, from the window w
unfoldable pub window_from : ℕ → List ℕ → List ℕ → List ℕ
window_from size w [] = w
window_from size w (v ∷ vs) = window_from size (push size v w) vs

pub coded-append : (size : ℕ) (w xs ys : List ℕ) → coded_from size w (xs ++ ys) ≡ coded_from size w xs ++ coded_from size (window_from size w xs) ys
unfolding coded_from window_from
coded-append size w [] ys = refl
coded-append size w (x ∷ xs) ys =
    let p = push size x w in
    ap (λ (l : List ℕ). coded x w ++ l) (coded-append size p xs ys)
    ∙ sym (append_assoc (coded x w) (coded_from size p xs) (coded_from size (window_from size p xs) ys))

-- it is the newest ratios of vs, and then those of w
pub window_from_lem : (size : ℕ) (w vs : List ℕ) → length w ≤ size → window_from size w vs ≡ take size (reverse vs ++ w)
unfolding window_from
window_from_lem size w [] h = sym (take_all size w h)
window_from_lem size w (v ∷ vs) h =
    window_from_lem size (push size v w) vs (push-length size v w)
    ∙ take_late size size (reverse vs) (v ∷ w) (omega arith)
    ∙ ap (take size) (sym (append_snoc (reverse vs) v w) ∙ ap (λ (l : List ℕ). l ++ w) (sym (reverse-cons v vs)))

-- from none it is the window of the definition
pub window_fresh : (size : ℕ) (vs : List ℕ) → window_from size [] vs ≡ window_of size vs
window_fresh size vs = window_from_lem size [] vs (omega arith) ∙ ap (take size) (append-nil (reverse vs))

-- the coding from a fresh window, by parts
pub coded_on : (size : ℕ) (xs ys : List ℕ) → coded_from size [] (xs ++ ys) ≡ coded_from size [] xs ++ coded_from size (window_of size xs) ys
coded_on size xs ys = coded-append size [] xs ys ∙ ap (λ (w : List ℕ). coded_from size [] xs ++ coded_from size w ys) (window_fresh size xs)

-- and one ratio more
pub coded_snoc : (size : ℕ) (vs : List ℕ) (v : ℕ) → coded_from size [] (vs ++ (v ∷ [])) ≡ coded_from size [] vs ++ coded v (window_of size vs)
unfolding coded_from
coded_snoc size vs v = coded_on size vs (v ∷ []) ∙ ap (λ (l : List ℕ). coded_from size [] vs ++ l) (append-nil (coded v (window_of size vs)))

-- the coding of a run's first ratios: one ratio more, and that the whole has room for it
pub coded_more : (size : ℕ) (rs : List ℕ) (i : ℕ) → i < length rs
    → coded_from size [] (take (i + 1) rs) ≡ coded_from size [] (take i rs) ++ coded (get_or rs i 0) (window_of size (take i rs))
coded_more size rs i h =
    ap (coded_from size []) (ap (λ (n : ℕ). take n rs) (add-one i) ∙ take-suc rs i 0 h) ∙ coded_snoc size (take i rs) (get_or rs i 0)

pub coded-room : (size : ℕ) (w rs : List ℕ) (i : ℕ) → length (coded_from size w (take i rs)) ≤ length (coded_from size w rs)
coded-room size w rs i =
    let f = take i rs in
    let e = ap (coded_from size w) (sym (take-append-drop i rs)) ∙ coded-append size w f (drop i rs) in
    omega (arith, ap length e, length-append (coded_from size w f) (coded_from size (window_from size w f) (drop i rs)))

-- each element of a coding is a byte, where the windows have at most window_size places
pub coded_bytes : (size : ℕ) → size ≤ window_size → (w vs : List ℕ) → length w ≤ window_size → Below 256 (coded_from size w vs)
unfolding coded_from Below
coded_bytes size hz w [] hw = tt
coded_bytes size hz w (v ∷ vs) hw =
    let p = push size v w in
    below_append 256 (coded v w) (coded_from size p vs) (coded_below v w hw) (coded_bytes size hz p vs (omega (arith, push-length size v w)))
