-- Laws of lines: the side's, which may be missing, and those of the points, one after the other.
use mathlib.Core.Path.{◌≡◌, refl, sym, ap, ap₂, ◌∙◌}
use mathlib.Core.List.{List, [], ◌∷◌, ◌++◌, append_assoc, append-nil}
use Prim.Native.Nat.{ℕ, zero, suc}
use Rattle.text.specs.Lines.{newline, side_word}
use Rattle.text.specs.Numbers.{decimal}
use Rattle.listing.specs.Lines.{side_line, point_line, point_lines}

pub side_none : side_line 0 ≡ []
unfolding side_line
side_none = refl

pub side_some : (n : ℕ) → (n ≡ 0 → ⊥) → side_line n ≡ side_word ++ (decimal n ++ newline)
unfolding side_line
side_some zero d = absurd (d refl)
side_some (suc n) d = refl

-- a point's line put, and the lines of those that are left
pub points_step : (o p : List ℕ) {ts vs : List ℕ} (us ws : List ℕ) (t v : ℕ) → ts ≡ t ∷ us → vs ≡ v ∷ ws → p ≡ o ++ point_line t v → p ++ point_lines us ws ≡ o ++ point_lines ts vs
unfolding point_lines
points_step o p us ws t v e f h =
    ap (λ (l : List ℕ). l ++ point_lines us ws) h
    ∙ append_assoc o (point_line t v) (point_lines us ws)
    ∙ ap (λ (l : List ℕ). o ++ l) (ap₂ point_lines (sym e) (sym f))

-- none is left
pub points_end : (o ts vs : List ℕ) → ts ≡ [] → o ≡ o ++ point_lines ts vs
unfolding point_lines
points_end o ts vs e = sym (append-nil o) ∙ ap (λ (l : List ℕ). o ++ point_lines l vs) (sym e)
