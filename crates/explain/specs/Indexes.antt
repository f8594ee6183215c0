-- Document 02, No. 1: the index that the program is given, a text of ASCII codes.
--   is_digit c     c is one of 0 to 9
--   digit_of c     the digit of that code
--   not_digit c    it is not
--   given_index t  the number that the text t is, in base 10: digits alone, at least one, leading zeros allowed; or nothing
--   capped o       the number as far as it can be an index, as the program holds it: 4,096 stands for all from there on
use Rattle.std.specs.Prelude.{Option as Index, None, Some, Bool, not, cond, List, map, ℕ, ◌-◌, min, leb, eqb, length}
use Rattle.std.proofs.Math.Option.{Option, none, some}
use Rattle.limits.specs.Points.{max_points}
use Rattle.lists.specs.Compare.{both}
use Rattle.lists.specs.Lists.{first_index}
use Rattle.bits.specs.Digits.{number_of}

-- "0" is 48 and "9" is 57
abbrev pub is_digit : ℕ → Bool
is_digit c = both (leb 48 c) (leb c 57)

-- any other byte
abbrev pub not_digit : ℕ → Bool
not_digit c = not (is_digit c)

-- its value
abbrev pub digit_of : ℕ → ℕ
digit_of c = c - 48

-- no text is no number, and a number however long is that number
abbrev pub given_index : List ℕ → Option ℕ
given_index t =
    cond (both (not (eqb (length t) 0)) (eqb (first_index not_digit t) (length t)))
    (some (number_of 10 (map digit_of t)))
    none

-- no run has an index from 4,096 on
abbrev pub capped : Option ℕ → Index ℕ
capped none = None
capped (some n) = Some (min max_points n)
