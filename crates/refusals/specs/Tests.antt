-- Document 01, "Numbers that come back": a call's tests in their order, and the refusal that they give.
--   Test           whether it applies, the number that it gives, and the place beside it
--   test b n p     such a test
--   refusal n p    the refusal with the number n at the place p
--   no_refusal     a success: number 0, place 0
--   first_of ts    the refusal of the first test that applies, or no_refusal
--   refused f      f is a refusal: its number is not 0
-- In standard terms a refusal is an error, its number an error code, and the place beside it an error position: an index, or a field's offset.
use Rattle.std.specs.Prelude.{Bool, not, cond, List, [], ◌∷◌, ℕ, eqb}
use Rattle.refusals.specs.declared.Refusal.{Refusal}

-- one row of document 01's table, at an input
pub record Test : Type 0 where
  pub applies : Bool
  pub number : ℕ
  pub place : ℕ

-- the test b, which gives number n at place p
abbrev pub test : Bool → ℕ → ℕ → Test
test b n p = record { applies = b; number = n; place = p }

-- a refusal by its number and place
abbrev pub refusal : ℕ → ℕ → Refusal
refusal n p = record { number = n; place = p }

-- success
abbrev pub no_refusal : Refusal
no_refusal = refusal 0 0

-- the first test that applies decides
unfoldable pub first_of : List Test → Refusal
first_of [] = no_refusal
first_of (t ∷ ts) = cond t.applies (refusal t.number t.place) (first_of ts)

-- every number but 0 is a refusal
abbrev pub refused : Refusal → Bool
refused f = not (eqb f.number 0)
