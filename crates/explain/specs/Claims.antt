-- Document 02, No. 1, the program, as statements about runs; proved in proofs/Claims.
--   BytesThere      the bytes that the first line speaks of are those of the record: from the offset on stand the bytes of the writer's form of
--                   that ratio, which is the one that the reason names (NamesRatioForm), as many as it says, and then those of the ratios after it
--   PrintsReason    of input that begins with the record of an accepted run, and an index below its count, the program prints cost and
--                   reason, whatever follows
--   PrintsPast      of such input and any other text `refused 22 at 0`
--   PrintsOnly      of input that begins with no accepted run's record it prints the line of the check's refusal, whatever the index
use Rattle.std.specs.Prelude.{List, ◌++◌, ◌≡◌, ◌⊎◌, ℕ, ◌+◌, ◌≤◌, ◌<◌, length, get_or, drop}
use Rattle.std.proofs.Math.Option.{none, some}
use Rattle.ratio_format.specs.Bodies.{coded_from}
use Rattle.ratio_format.specs.Choice.{ratio_form}
use Rattle.ratio_format.specs.RatioForms.{written}
use Rattle.ratio_format.specs.Windows.{window_size}
use Rattle.record_format.specs.Claims.{Accepted, Beginning, Bytes}
use Rattle.record_format.specs.Runs.{Run, record_of}
use Rattle.text.specs.Lines.{refused_line}
use Rattle.reasons.specs.Reasons.{window_at, explained}
use Rattle.inputs.specs.Inputs.{check_input}
use Rattle.explain.specs.Indexes.{given_index}
use Rattle.explain.specs.Lines.{cost_line, reason_line}
use Rattle.explain.specs.Printed.{body_in, cost_of, offset_of, printed}

-- what stands from the offset on to the end of the record fixes the offset
abbrev pub BytesThere : Type 0
BytesThere = (r : Run) → Accepted r → (i : ℕ) → i < length r.ratios
    → let v = get_or r.ratios i 0 in let w = window_at r.ratios i in
    (drop (offset_of (body_in (record_of r)) r.ratios i) (record_of r)
    ≡ written v (ratio_form v w) ++ coded_from window_size (window_at r.ratios (i + 1)) (drop (i + 1) r.ratios))
    × (cost_of r.ratios i ≡ length (written v (ratio_form v w)))

-- both lines
abbrev pub PrintsReason : Type 0
PrintsReason = (r : Run) → Accepted r → (rest t : List ℕ) (i : ℕ) → given_index t ≡ some i → i < length r.ratios
    → printed (record_of r ++ rest) t
    ≡ cost_line i (get_or r.ratios i 0) (cost_of r.ratios i) (offset_of (body_in (record_of r)) r.ratios i) ++ reason_line (explained r.ratios i)

-- an index that is not below the count, or a text that is no number
abbrev pub PrintsPast : Type 0
PrintsPast = (r : Run) → Accepted r → (rest t : List ℕ)
    → (given_index t ≡ none) ⊎ ((i : ℕ) × (given_index t ≡ some i) × (length r.ratios ≤ i)) → printed (record_of r ++ rest) t ≡ refused_line 22 0

-- of all else: the refusal of the bytes that the program reads
abbrev pub PrintsOnly : Type 0
PrintsOnly = (s t : List ℕ) → Bytes s → ((r : Run) → Accepted r → Beginning (record_of r) s → ⊥)
    → let a = check_input s in (a.number ≡ 0 → ⊥) × (printed s t ≡ refused_line a.number a.place)
