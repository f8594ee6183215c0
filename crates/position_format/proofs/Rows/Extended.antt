-- Two tables of which one goes on where the other ends: the rows of the longer one have the ranges of the shorter one's, as far as that goes. Which row
-- is the first that holds a step goes by the ranges alone.
use mathlib.Core.Bool.{Bool, true, false, cond}
use mathlib.Core.List.{List, [], ◌∷◌, ◌++◌, map}
use mathlib.Core.Path.{◌≡◌, refl, sym, ap, ◌∙◌}
use Prim.Native.Nat.{ℕ, zero, suc, ◌+◌, ◌<◌}
use native.Mathlib.Omega.{arith}
use borrow.Author.Tests.{ltb-false}
use lib.IntN.{ℤ}
use lib.ListN.{length, get_or, take, drop, take-append-drop}
use lib.Seq.{get_or-take}
use Rattle.lists.specs.Lists.{first_index}
use Rattle.lists.proofs.Lists.{first_le}
use Rattle.lists.proofs.Lists.Tests.{first_in_front, first_past_front}
use Rattle.position_format.specs.Rows.{Row, row, holds, in_table, no_row, row_of}
use Rattle.position_format.proofs.Rows.Codes.{in_table-row, in_table-test}

-- a row without its prefix
abbrev pub ranged : Row → Row
ranged r = row [] r.width r.low r.high

by_range : (rs : List Row) (z : ℤ) → row_of (map ranged rs) z ≡ row_of rs z
unfolding first_index
by_range [] z = refl
by_range (r ∷ rs) z = ap (λ (n : ℕ). cond (holds r z) zero (suc n)) (by_range rs z)

pub ranged_at : (rs : List Row) (i : ℕ) → get_or (map ranged rs) i no_row ≡ ranged (get_or rs i no_row)
ranged_at [] i = refl
ranged_at (r ∷ rs) zero = refl
ranged_at (r ∷ rs) (suc i) = ranged_at rs i

length_ranged : (rs : List Row) → length (map ranged rs) ≡ length rs
length_ranged [] = refl
length_ranged (r ∷ rs) = ap suc (length_ranged rs)

module _ (old rs : List Row) (same : map ranged (take (length old) rs) ≡ map ranged old) where
  abbrev front : List Row
  front = take (length old) rs

  abbrev rest : List Row
  rest = drop (length old) rs

  front_count : length front ≡ length old
  front_count = sym (length_ranged front) ∙ ap length same ∙ length_ranged old

  whole : front ++ rest ≡ rs
  whole = take-append-drop (length old) rs

  front-row : (z : ℤ) → row_of front z ≡ row_of old z
  front-row z = sym (by_range front z) ∙ ap (λ (l : List Row). row_of l z) same ∙ by_range old z

  -- the rows of one index have one range and one width
  pub extended_range : (i : ℕ) → i < length old → ranged (get_or old i no_row) ≡ ranged (get_or rs i no_row)
  extended_range i h =
      sym (ranged_at old i) ∙ ap (λ (l : List Row). get_or l i no_row) (sym same) ∙ ranged_at front i ∙ ap ranged (get_or-take (length old) rs i no_row h)

  -- a row of the shorter table that is the first to hold z is so in the longer one
  pub extended_index : (z : ℤ) → in_table old z ≡ true → row_of rs z ≡ row_of old z
  extended_index z e =
      ap (λ (l : List Row). row_of l z) (sym whole)
      ∙ first_in_front (λ (r : Row). holds r z) front rest (omega (arith, in_table-row old z e, front-row z, front_count))
      ∙ front-row z

  -- and where none of its rows holds z, that of the longer one is past them
  pub extended_past : (z : ℤ) → in_table old z ≡ false → row_of rs z ≡ length old + row_of rest z
  extended_past z e =
      let none : row_of old z ≡ length old = omega (arith, first_le (λ (r : Row). holds r z) old, ltb-false (row_of old z) (length old) (in_table-test old z ∙ e)) in
      ap (λ (l : List Row). row_of l z) (sym whole)
      ∙ first_past_front (λ (r : Row). holds r z) front rest (front-row z ∙ none ∙ sym front_count)
      ∙ ap (λ (n : ℕ). n + row_of rest z) front_count

  -- so one of its rows is the first that holds z in both tables, or in neither
  pub extended_row : (z : ℤ) (i : ℕ) → i < length old → row_of rs z ≡ i → row_of old z ≡ i
  extended_row z i h e = go (in_table old z) refl
    where
      go : (t : Bool) → in_table old z ≡ t → row_of old z ≡ i
      go true q = sym (extended_index z q) ∙ e
      go false q = absurd (omega (arith, extended_past z q))
