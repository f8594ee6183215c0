-- The cells of a window shifted down by one, with the last one replaced.
use Rattle.std.proofs.Common.{◌≡◌, sym, ap, ◌∙◌, List, [], ◌∷◌, ◌++◌, ℕ, suc, ◌+◌, ◌-◌, arith, length, drop, set, get_or, length-drop}
use Rattle.std.specs.List.{copy_within}
use Rattle.std.proofs.lemmas.List.Edits.{paste_all}
use lib.ListN.{drop_of_length-le}
use lib.Seq.{paste, drop-cons, set_at}

pub shifted : (l : List ℕ) (n v : ℕ) → length l ≡ suc n → set (copy_within l 1 (length l) 0) n v ≡ drop 1 l ++ (v ∷ [])
shifted l n v e =
    let front : length (drop 1 l) ≡ n = rw length-drop (omega arith) in
    let few : length l - 1 ≡ n = omega arith in
    let at : 0 + n ≡ n = omega arith in
    ap (λ (k : ℕ). set (paste l 0 (drop 1 l) k) n v) few
    ∙ ap (λ (t : List ℕ). set t n v) (paste_all l 0 (drop 1 l) n (sym front))
    ∙ ap (λ (k : ℕ). set (drop 1 l ++ drop k l) n v) at
    ∙ ap (λ (r : List ℕ). set (drop 1 l ++ r) n v) (drop-cons l n 0 (omega arith))
    ∙ set_at (drop 1 l) (get_or l n 0) (drop (suc n) l) v n front
    ∙ ap (λ (r : List ℕ). drop 1 l ++ v ∷ r) (drop_of_length-le l {i = suc n} (omega arith))
