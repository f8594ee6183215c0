-- Laws of the text of a list of differences: of a list joined from two, of what is listed of one difference, and of the points.
use mathlib.Core.List.{List, [], ◌∷◌, ◌++◌, append_assoc, append-nil}
use mathlib.Core.Path.{◌≡◌, refl, sym, ap, ap₂, ◌∙◌}
use Prim.Native.Nat.{ℕ, zero, suc}
use Rattle.std.proofs.Common.{Option, Some, None}
use Rattle.record_format.specs.Runs.{Run}
use Rattle.differences.specs.declared.Difference.{Difference}
use Rattle.differences.specs.Differences.{position_at, ratio_at, listed, points_to}
use Rattle.compare.specs.Lines.{line_of, line_if, differences_text}
use Rattle.compare.specs.Pieces.{lines_below}
use Rattle.compare.specs.Claims.{TextByLines}

pub text_append : (l m : List Difference) → differences_text (l ++ m) ≡ differences_text l ++ differences_text m
unfolding differences_text
text_append [] m = refl
text_append (d ∷ l) m = ap (λ (x : List ℕ). line_of d ++ x) (text_append l m) ∙ sym (append_assoc (line_of d) (differences_text l) (differences_text m))

pub text_by_lines : TextByLines
unfolding differences_text
text_by_lines = (refl, λ d. append-nil (line_of d), text_append)

pub text_listed : (d : Option Difference) → differences_text (listed d) ≡ line_if d
unfolding differences_text
text_listed None = refl
text_listed (Some d) = append-nil (line_of d)

-- what is listed of one difference, and then a list
pub text_then : (d : Option Difference) (l : List Difference) → differences_text (listed d ++ l) ≡ line_if d ++ differences_text l
text_then d l = text_append (listed d) l ∙ ap (λ (x : List ℕ). x ++ differences_text l) (text_listed d)

pub text_below : (r q : Run) (n : ℕ) → differences_text (points_to r q n) ≡ lines_below r.positions r.ratios q.positions q.ratios n
unfolding differences_text points_to lines_below
text_below r q zero = refl
text_below r q (suc n) =
    let p = position_at r.positions q.positions n in
    let v = ratio_at r.ratios q.ratios n in
    text_append (points_to r q n) (listed p ++ listed v)
    ∙ ap₂ (λ (x y : List ℕ). x ++ y) (text_below r q n) (text_then p (listed v) ∙ ap (λ (x : List ℕ). line_if p ++ x) (text_listed v))
