-- What reading an input left, for the programs that print of it.
--   RunHeld n ts vs       two outputs have at least n numbers each, and n is no more than a run can have
--   InputRead s r ts vs   the input s, which a program reads whole, was checked with no rate expected, which answered r; where nothing was refused, the run's
--                         points are the first numbers of the outputs ts and vs, as many as its count
use Rattle.std.specs.Prelude.{List, ◌≡◌, ℕ, ◌≤◌, length, take}
use Rattle.limits.specs.Points.{max_points}
use Rattle.record_format.specs.Claims.{Bytes}
use Rattle.record_format.specs.declared.CheckAnswer.{CheckAnswer}
use Rattle.inputs.specs.Inputs.{input_limit, check_input, run_input}

-- so many can be taken from the front of both
pub record RunHeld (n : ℕ) (ts vs : List ℕ) : Type 0 where
  pub few : n ≤ max_points
  pub positions : n ≤ length ts
  pub ratios : n ≤ length vs

-- an input of bytes, no longer than a program reads
pub record InputRead (s : List ℕ) (r : CheckAnswer) (ts vs : List ℕ) : Type 0 where
  pub bytes : Bytes s
  pub whole : length s ≤ input_limit
  pub answered : r ≡ check_input s
  pub held : r.number ≡ 0 → RunHeld r.count ts vs
  pub positions : r.number ≡ 0 → take r.count ts ≡ (run_input s).positions
  pub ratios : r.number ≡ 0 → take r.count vs ≡ (run_input s).ratios
