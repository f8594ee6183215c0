-- Document 01, "Bytes to compare", the listing, with the limit of document 02, No. 3: what a program reads of its input. Every program reads as far.
--   input_limit    how many bytes a program reads at most
--   check_input s  what a check finds in the input s: in at most input_limit bytes of it, with no rate expected
--   run_input s    the run in the fields of those bytes
--   ReadsFar       input up to 65,536 bytes is read whole, and bytes past these change nothing; proved in proofs/Inputs
use Rattle.std.specs.Prelude.{List, ◌++◌, ◌≡◌, ℕ, ◌^◌, ◌≤◌, length, take}
use Rattle.record_format.specs.Checking.{run_in, checked}
use Rattle.record_format.specs.Runs.{Run}
use Rattle.record_format.specs.declared.CheckAnswer.{CheckAnswer}

-- 64 KiB, which every record stays below
abbrev pub input_limit : ℕ
input_limit = 2 ^ 16

-- the answer of a check
abbrev pub check_input : List ℕ → CheckAnswer
check_input s = checked 0 (take input_limit s)

-- and the run; where the check refuses, one that no program prints
abbrev pub run_input : List ℕ → Run
run_input s = run_in (take input_limit s)

-- as far as 64 KiB, and no further
abbrev pub ReadsFar : Type 0
ReadsFar = (s : List ℕ)
    → (length s ≤ 65536 → (check_input s ≡ checked 0 s) × (run_input s ≡ run_in s))
    × ((rest : List ℕ) → length s ≡ 65536 → (check_input (s ++ rest) ≡ check_input s) × (run_input (s ++ rest) ≡ run_input s))
