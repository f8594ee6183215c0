-- Tests that compare two lists of numbers; `begins` is the beginning of document 01, "What demand 3 compares".
--   both a b      a and b
--   begins a s    the list s begins with the list a, its prefix: s is a, and then anything or nothing
--   same a s      the lists are equal
use Rattle.std.specs.Prelude.{Bool, true, false, List, [], ◌∷◌, ℕ, eqb}

-- the conjunction of two tests
abbrev pub both : Bool → Bool → Bool
both true t = t
both false t = false

-- s begins with a
unfoldable pub begins : List ℕ → List ℕ → Bool
begins [] s = true
begins (b ∷ a) [] = false
begins (b ∷ a) (c ∷ s) = both (eqb b c) (begins a s)

-- s is a
unfoldable pub same : List ℕ → List ℕ → Bool
same [] [] = true
same [] (c ∷ s) = false
same (b ∷ a) [] = false
same (b ∷ a) (c ∷ s) = both (eqb b c) (same a s)
