-- Document 02, No. 7, the program, as statements about runs and bytes; proved in proofs/Claims, but TextByLines in proofs/Lines and
-- PrintsExample, which stands in Examples, in proofs/Examples.
--   TextByLines         the text of a list of one difference is its line, and that of a joined list the texts of its parts, joined; so the text of any list
--                       is its lines, in its order
--   PrintsDifferences   of two files that begin with the records of accepted runs the program prints the text of the list of their differences, whatever follows
--                       either record
--   PrintsNothing       it prints nothing at all exactly when both files begin with the same record
--   PrintsFirst         of a first file that begins with no record it prints the line of the refusal of its check, in record 1, whatever the second holds
--   PrintsSecond        of a second one that begins with none, where the first begins with a record, the like, in record 2
--   PrintsTrailing      bytes behind either record change nothing, also where the other file is refused
use Rattle.std.specs.Prelude.{List, [], ◌∷◌, ◌++◌, ◌↔◌, ◌≡◌, ℕ}
use Rattle.record_format.specs.Claims.{Accepted, Beginning, Bytes}
use Rattle.record_format.specs.Runs.{Run, record_of}
use Rattle.inputs.specs.Inputs.{check_input}
use Rattle.differences.specs.declared.Difference.{Difference}
use Rattle.differences.specs.Differences.{differences}
use Rattle.compare.specs.Lines.{line_of, differences_text, refused_in_line}
use Rattle.compare.specs.Printed.{printed}

-- of any lists
abbrev pub TextByLines : Type 0
TextByLines = (differences_text [] ≡ []) × ((d : Difference) → differences_text (d ∷ []) ≡ line_of d) × ((l m : List Difference) → differences_text (l ++ m) ≡ differences_text l ++ differences_text m)

-- two records
abbrev pub PrintsDifferences : Type 0
PrintsDifferences = (r q : Run) → Accepted r → Accepted q → (x y : List ℕ) → printed (record_of r ++ x) (record_of q ++ y) ≡ differences_text (differences r q)

-- of equal records, and of nothing else
abbrev pub PrintsNothing : Type 0
PrintsNothing = (s t : List ℕ) → Bytes s → Bytes t
    → (printed s t ≡ []) ↔ ((r : Run) × Accepted r × Beginning (record_of r) s × Beginning (record_of r) t)

-- the first record first
abbrev pub PrintsFirst : Type 0
PrintsFirst = (s t : List ℕ) → Bytes s → ((r : Run) → Accepted r → Beginning (record_of r) s → ⊥)
    → let a = check_input s in (a.number ≡ 0 → ⊥) × (printed s t ≡ refused_in_line a.number a.place 1)

-- and then the second
abbrev pub PrintsSecond : Type 0
PrintsSecond = (r : Run) → Accepted r → (x t : List ℕ) → Bytes t → ((q : Run) → Accepted q → Beginning (record_of q) t → ⊥)
    → let a = check_input t in (a.number ≡ 0 → ⊥) × (printed (record_of r ++ x) t ≡ refused_in_line a.number a.place 2)

-- demand 3, of the program
abbrev pub PrintsTrailing : Type 0
PrintsTrailing = (r : Run) → Accepted r → (rest s : List ℕ)
    → (printed (record_of r ++ rest) s ≡ printed (record_of r) s) × (printed s (record_of r ++ rest) ≡ printed s (record_of r))
