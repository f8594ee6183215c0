-- Laws of what a program reads: a record is not cut, what begins with none is refused, and how far is read.
use mathlib.Core.Path.{◌≡◌, refl, sym, ap, ◌∙◌}
use mathlib.Core.List.{List, ◌++◌, append_assoc}
use mathlib.Core.Logic.{inl}
use Prim.Native.Nat.{ℕ, ◌+◌, ◌-◌, ◌≤◌}
use native.Mathlib.Omega.{arith}
use lib.ListN.{length, take, drop, take-append-drop}
use lib.Seq.{take_all, take_at, take-append-add}
use Rattle.lists.proofs.Below.{below_take}
use Rattle.record_format.specs.Claims.{Accepted, Beginning, Bytes}
use Rattle.record_format.specs.Checking.{run_in, checked}
use Rattle.record_format.specs.CheckClaims.{run_check}
use Rattle.record_format.specs.Runs.{Run, record_of}
use Rattle.record_format.proofs.Sizes.{within}
use Rattle.record_format.proofs.CheckClaims.{checks_record, checks_only}
use Rattle.inputs.specs.Inputs.{input_limit, check_input, run_input, ReadsFar}

-- ---- what a program reads of a record, and of all else

-- a record is not cut: it is no longer than what a program reads
pub record_uncut : (r : Run) → Accepted r → (rest : List ℕ) → take input_limit (record_of r ++ rest) ≡ record_of r ++ take (input_limit - length (record_of r)) rest
record_uncut r a rest =
    let h = (within r a).1 in
    let e : input_limit ≡ length (record_of r) + (input_limit - length (record_of r)) = omega arith in
    ap (λ (n : ℕ). take n (record_of r ++ rest)) e ∙ take-append-add (record_of r) rest (input_limit - length (record_of r))

pub reads_record : (r : Run) → Accepted r → (rest : List ℕ) → (check_input (record_of r ++ rest) ≡ run_check r) × (run_input (record_of r ++ rest) ≡ r)
reads_record r a rest =
    let cut = record_uncut r a rest in
    let c = checks_record r a 0 (take (input_limit - length (record_of r)) rest) in
    (ap (checked 0) cut ∙ c.1 (inl refl), ap run_in cut ∙ c.2)

-- what the bytes that a program reads begin with the whole input begins with
pub begins-whole : (a s : List ℕ) → Beginning a (take input_limit s) → Beginning a s
begins-whole a s h =
    (h.0 ++ drop input_limit s, sym (take-append-drop input_limit s) ∙ ap (λ (x : List ℕ). x ++ drop input_limit s) h.1 ∙ append_assoc a h.0 (drop input_limit s))

pub reads_no_other : (s : List ℕ) → Bytes s → ((r : Run) → Accepted r → Beginning (record_of r) s → ⊥) → (check_input s).number ≡ 0 → ⊥
reads_no_other s b never e =
    let r = checks_only 0 (take input_limit s) (below_take 256 input_limit s b) e in
    never r.0 r.1 (begins-whole (record_of r.0) s r.2)

-- ---- how far

-- what is no longer than a program reads is read whole
pub reads_whole : (s : List ℕ) → length s ≤ input_limit → (check_input s ≡ checked 0 s) × (run_input s ≡ run_in s)
reads_whole s h = let all = take_all input_limit s h in (ap (checked 0) all, ap run_in all)

pub reads_far : ReadsFar
reads_far s = (
  reads_whole s,
  λ rest h.
      let cut : take input_limit (s ++ rest) ≡ take input_limit s = take_at s rest input_limit h ∙ sym (take_all input_limit s (omega (arith, h))) in
      (ap (checked 0) cut, ap run_in cut),
)
