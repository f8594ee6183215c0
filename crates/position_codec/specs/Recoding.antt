-- What recoding says of positions that are coded in one form and are to be coded in another (document 02, No. 5).
--   CodeStands rs ds z            the bits ds begin with the code of a step z that the table rs holds
--   Led rs ds l                   l says by which row that code is, and how many bits it has
--   Fore k body at w              the word w begins with the bits of a body from a bit offset on, k of them, with 0 bits past the end
--   ThreeStand rs body at x y z   from that offset on stand the codes of three steps, one after the other
--   Shared f g z                  the table of the form g holds the step z, with the code that it has in the form f
--   SharedCode f w n              a code of the form f that stands at the top of the word w has n bits, and every form has it
--   ThreeShared f body at n       three codes of the form f that stand there have n bits, and every form has them
--   RecodedInto f ts r o p        the coding of the positions ts in the form f was put at the front of o, which is now p, or there was no room for it; or
--                                 r is the index of the first point whose step the table of f does not hold. That is told whatever the room
use Rattle.std.specs.Prelude.{Some, None, Result, Ok, Err, true, List, ◌≡◌, ℕ, ◌+◌, ◌≤◌, ◌<◌, ℤ, length, take, drop}
use Rattle.lists.specs.Compare.{begins}
use Rattle.bits.specs.Digits.{bits_of}
use Rattle.bits.specs.Packing.{bits, ahead}
use Rattle.outputs.specs.Outputs.{Placed}
use Rattle.position_format.specs.declared.Form.{Form}
use Rattle.position_format.specs.Rows.{Row, in_table, code, row_of}
use Rattle.position_format.specs.Steps.{first_outside}
use Rattle.position_format.specs.Tables.{table_of}
use Rattle.position_format.specs.Positions.{coded_positions}
use Rattle.position_codec.specs.Codes.{CodablePositions}
use Rattle.position_codec.specs.declared.table.Lead.{Lead}
use Rattle.position_codec.specs.declared.recode.RecodeError.{RecodeError}
use Rattle.position_codec.specs.declared.recode.RecodeError.TheVariants.{Outside, NoRoom}

-- a code at the front of bits
pub record CodeStands (rs : List Row) (ds : List ℕ) (z : ℤ) : Type 0 where
  pub held : in_table rs z ≡ true
  pub front : begins (code rs z) ds ≡ true

-- its row and its length
abbrev pub Led : List Row → List ℕ → Lead → Type 0
Led rs ds l = (z : ℤ) → CodeStands rs ds z → (l.row.index ≡ row_of rs z) × (l.len ≡ length (code rs z))

-- bits at the top of a word, any number of them
abbrev pub Fore : ℕ → List ℕ → ℕ → ℕ → Type 0
Fore k body at w = take k (bits_of 64 w) ≡ ahead k (drop at (bits body))

-- three codes
pub record ThreeStand (rs : List Row) (body : List ℕ) (at : ℕ) (x y z : ℤ) : Type 0 where
  pub first : CodeStands rs (drop at (bits body)) x
  pub second : CodeStands rs (drop (at + length (code rs x)) (bits body)) y
  pub third : CodeStands rs (drop (at + length (code rs x) + length (code rs y)) (bits body)) z

-- a code that two forms have
pub record Shared (f g : Form) (z : ℤ) : Type 0 where
  pub held : in_table (table_of g) z ≡ true
  pub alike : code (table_of g) z ≡ code (table_of f) z

-- a code at the top of a word that every form has
abbrev pub SharedCode : Form → ℕ → ℕ → Type 0
SharedCode f w n =
    (body : List ℕ) (at k : ℕ) → 5 ≤ k → k ≤ 64 → Fore k body at w → (z : ℤ) → CodeStands (table_of f) (drop at (bits body)) z
    → (n ≡ length (code (table_of f) z)) × ((g : Form) → Shared f g z)

-- three codes that every form has
abbrev pub ThreeShared : Form → List ℕ → ℕ → ℕ → Type 0
ThreeShared f body at n =
    (g : Form) (x y z : ℤ) → ThreeStand (table_of f) body at x y z
    → (n ≡ length (code (table_of f) x) + length (code (table_of f) y) + length (code (table_of f) z)) × Shared f g x × Shared f g y × Shared f g z

-- a step outside the table wins over missing room, as test 5 does over 6
abbrev pub RecodedInto : Form → List ℕ → Result ℕ RecodeError → List ℕ → List ℕ → Type 0
RecodedInto f ts (Ok n) o p = CodablePositions f ts × Placed (coded_positions (table_of f) ts) (Some n) o p
RecodedInto f ts (Err NoRoom) o p = CodablePositions f ts × Placed (coded_positions (table_of f) ts) None o p
RecodedInto f ts (Err (Outside i)) o p = (i ≡ first_outside (table_of f) ts) × (i < length ts)
