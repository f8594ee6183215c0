-- What a lent output holds after a call. `over` and `over_at` say what stands in it; `Placed` and `Filled` what an internal function says that it
-- did. Document 01 says nothing of internal functions: they leave an output as they please where they fail, and the call above them then
-- fills it with zeros; a slice keeps its length in any case. The same is said of bits by `PlacedBits` (bits), and of ratios, with how many were
-- taken, by `TakenInto` (ratio_bodies).
--   zeros l            as many zeros as l is long: document 01's output after a refusal
--   over bs o          bs at the front of the output o, whose rest stays: document 01's output after a success
--   over_at o at n bs  o with the n elements from `at` on replaced by bs, of which there are n
--   Placed bs w o p    the bytes bs were put at the front of o, which is now p; or there was no room for them
--   both_wrote n w     what two writers wrote: the first n bytes, and the second what w says
--   Filled l b o p     the list l was put at the front of o, which is now p; or there is no such list
use Rattle.std.specs.Prelude.{Bool, true, false, List, ◌++◌, ◌≡◌, ℕ, ◌+◌, ◌≤◌, ◌<◌, length, take, drop, replicate, Option, Some, None}
use Rattle.std.proofs.Math.Option.{none, some}
use Rattle.std.proofs.Math.Option as maybe

-- on a refusal a lent output is 0 from end to end
abbrev pub zeros : List ℕ → List ℕ
zeros l = replicate (length l) 0

-- on a success what is written stands at the front, and the output past it stays
abbrev pub over : List ℕ → List ℕ → List ℕ
over bs o = bs ++ drop (length bs) o

-- n elements from `at` on replaced
abbrev pub over_at : List ℕ → ℕ → ℕ → List ℕ → List ℕ
over_at o at n bs = take at o ++ (bs ++ drop (at + n) o)

-- how many bytes were written, or that they do not fit
abbrev pub Placed : List ℕ → Option ℕ → List ℕ → List ℕ → Type 0
Placed bs (Some n) o p = (n ≡ length bs) × (length bs ≤ length o) × (p ≡ over bs o)
Placed bs None o p = length o < length bs

-- no room for one is no room for both
abbrev pub both_wrote : ℕ → Option ℕ → Option ℕ
both_wrote n (Some m) = Some (n + m)
both_wrote n None = None

-- whether a list was read
abbrev pub Filled : maybe.Option (List ℕ) → Bool → List ℕ → List ℕ → Type 0
Filled none b o p = b ≡ false
Filled (some l) b o p = (b ≡ true) × (p ≡ over l o)
