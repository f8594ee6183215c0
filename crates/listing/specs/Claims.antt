-- Document 01, "Bytes to compare", and document 02, No. 2 and No. 3: the listing, as a statement about runs; proved in proofs/Claims, and PrintsListed
-- in proofs/Claims/Examples.
--   PrintsRun     of input that begins with the record of an accepted run the program prints that run's listing, whatever follows
--   PrintsListed  of document 01's 46 bytes it prints the output that document 01 gives in full, of the same run on side 4 that output with
--                 `side 4` after the rate, of a run in the wide form the like, and of no input the line `refused 10 at 0`
--   PrintsOnly    of input that begins with no accepted run's record it prints the line of a refusal, whose number is not 0
use Rattle.std.specs.Prelude.{List, [], ◌++◌, ◌≡◌, ℕ}
use Rattle.record_format.specs.Claims.{Accepted, Beginning, Bytes}
use Rattle.record_format.specs.Examples.{listed_bytes, sided_bytes, paused_bytes}
use Rattle.record_format.specs.Runs.{Run, record_of}
use Rattle.text.specs.Lines.{refused_line}
use Rattle.inputs.specs.Inputs.{check_input}
use Rattle.listing.specs.Examples.{listed_text, sided_text, paused_text, refused_text}
use Rattle.listing.specs.Printed.{listing_of, printed}

-- of its record
abbrev pub PrintsRun : Type 0
PrintsRun = (r : Run) → Accepted r → (rest : List ℕ) → printed (record_of r ++ rest) ≡ listing_of r

-- of all else: the refusal of the bytes that the program reads
abbrev pub PrintsOnly : Type 0
PrintsOnly = (s : List ℕ) → Bytes s → ((r : Run) → Accepted r → Beginning (record_of r) s → ⊥)
    → let a = check_input s in (a.number ≡ 0 → ⊥) × (printed s ≡ refused_line a.number a.place)

-- document 01's example, the same on a side, a run in the wide form, and no input
abbrev pub PrintsListed : Type 0
PrintsListed = (printed listed_bytes ≡ listed_text) × (printed sided_bytes ≡ sided_text) × (printed paused_bytes ≡ paused_text) × (printed [] ≡ refused_text)
