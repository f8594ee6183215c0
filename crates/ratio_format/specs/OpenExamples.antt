-- Document 01, "Ratios": bodies that the open rule reads, and bodies that it does not, as one table, computed from the definitions by one statement.
--   OpenExample, reads     a count, a body, and the ratios that it is read as, or nothing
--   one                    the exception of the ratio 1
--   back n                 the body of the ratio 5, an exception, and of n ratios 6: an exception, and then references to place 0
--   open_examples          the rows; open_examples_hold: each is as it is given
use Rattle.std.specs.Prelude.{List, [], ◌∷◌, ◌++◌, map, ◌≡◌, refl, ℕ, ◌-◌, replicate}
use Rattle.std.proofs.Math.Option.{Option, none, some}
use Rattle.bits.specs.Digits.{number_of}
use Rattle.ratio_format.specs.Open.{open_xor, open_one}
use Rattle.ratio_format.specs.Bodies.{open_from, open_ratios}

-- an example
pub record OpenExample : Type 0 where
  pub count : ℕ
  pub body : List ℕ
  pub ratios : Option (List ℕ)

-- such an example
abbrev reads : ℕ → List ℕ → Option (List ℕ) → OpenExample
reads n s o = record { count = n; body = s; ratios = o }

-- FF and the eight bytes of 1
abbrev pub one : List ℕ
one = 0xFF ∷ (replicate 7 0 ++ (0x01 ∷ []))

-- n is at least 1
abbrev back : ℕ → List ℕ
back n = 0xFF ∷ (replicate 7 0 ++ (0x05 ∷ 0xFF ∷ (replicate 7 0 ++ (0x06 ∷ replicate (n - 1) 0))))

-- lengths 0 and 7 with the smallest and the largest trailing count, and length 8; sums of 9; places that hold no ratio; bytes that end before the counts, in
-- the middle and in an exception; a byte left over, and a ratio too few; no ratio; what our writer writes for 1, 2, 1, 2; forms that it does not choose: an
-- exception and a far place for a repeat, zero bytes in a middle; ratios 127 and 128 back
pub open_examples : List OpenExample
open_examples =
    reads 2 (one ++ (0x80 ∷ 0x00 ∷ [])) (some (1 ∷ 1 ∷ []))
    ∷ reads 2 (one ++ (0x80 ∷ 0x80 ∷ [])) (some (1 ∷ 1 ∷ []))
    ∷ reads 2 (one ++ (0x80 ∷ 0x07 ∷ 0x01 ∷ 0x02 ∷ 0x03 ∷ 0x04 ∷ 0x05 ∷ 0x06 ∷ 0x07 ∷ [])) (some (1 ∷ 0x0001020304050606 ∷ []))
    ∷ reads 2 (one ++ (0x80 ∷ 0x17 ∷ 0x01 ∷ 0x02 ∷ 0x03 ∷ 0x04 ∷ 0x05 ∷ 0x06 ∷ 0x07 ∷ [])) (some (1 ∷ 0x0102030405060701 ∷ []))
    ∷ reads 2 (one ++ (0x80 ∷ 0x08 ∷ 0x80 ∷ 0x00 ∷ 0x00 ∷ 0x00 ∷ 0x00 ∷ 0x00 ∷ 0x00 ∷ 0x03 ∷ [])) (some (1 ∷ 0x8000000000000002 ∷ []))
    ∷ reads 2 (one ++ (0x80 ∷ 0x18 ∷ replicate 8 0)) none
    ∷ reads 2 (one ++ (0x80 ∷ 0x27 ∷ replicate 7 0)) none
    ∷ reads 2 (one ++ (0x80 ∷ 0x09 ∷ replicate 9 0)) none
    ∷ reads 2 (one ++ (0x80 ∷ 0x90 ∷ [])) none
    ∷ reads 2 (one ++ (0x01 ∷ [])) none
    ∷ reads 2 (one ++ (0x7F ∷ [])) none
    ∷ reads 2 (one ++ (0x81 ∷ 0x00 ∷ [])) none
    ∷ reads 2 (one ++ (0xFE ∷ 0x00 ∷ [])) none
    ∷ reads 1 (0x00 ∷ []) none
    ∷ reads 2 (one ++ (0x80 ∷ [])) none
    ∷ reads 2 (one ++ (0x80 ∷ 0x02 ∷ 0x01 ∷ [])) none
    ∷ reads 2 (one ++ (0xFF ∷ replicate 7 0)) none
    ∷ reads 2 (one ++ (0x00 ∷ 0x00 ∷ [])) none
    ∷ reads 2 one none
    ∷ reads 0 [] (some [])
    ∷ reads 0 (0x00 ∷ []) none
    ∷ reads 1 [] none
    ∷ reads 4 (one ++ (0x80 ∷ 0x01 ∷ 0x03 ∷ 0x01 ∷ 0x01 ∷ [])) (some (1 ∷ 2 ∷ 1 ∷ 2 ∷ []))
    ∷ reads 2 (one ++ one) (some (1 ∷ 1 ∷ []))
    ∷ reads 3 (one ++ (0x00 ∷ 0x01 ∷ [])) (some (1 ∷ 1 ∷ 1 ∷ []))
    ∷ reads 2 (one ++ (0x80 ∷ 0x03 ∷ 0x00 ∷ 0x00 ∷ 0x03 ∷ [])) (some (1 ∷ 2 ∷ []))
    ∷ reads 128 (back 126 ++ (0x7E ∷ [])) (some (5 ∷ (replicate 126 6 ++ (5 ∷ []))))
    ∷ reads 129 (back 127 ++ (0x7E ∷ [])) (some (5 ∷ replicate 128 6))
    ∷ reads 129 (back 127 ++ (0x7F ∷ [])) none
    ∷ []

-- each, computed from the definitions, is the one that is given
pub open_examples_hold : map (λ e. open_ratios e.count e.body) open_examples ≡ map (λ e. e.ratios) open_examples
unfolding open_examples number_of open_xor open_one open_from
open_examples_hold = refl
