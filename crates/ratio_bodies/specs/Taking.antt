-- What a reader of a body of ratios answers, and what its output then holds. Internal: document 01 says nothing of it.
--   took_of t          the numbers of what was taken: how many ratios, and how many bytes they used
--   TakenInto t r o p  r is what was taken, and the ratios taken stand at the front of the output o, which is then p and whose rest stays
--   TakenOnto t from begun count at o p   the same past the first `from` numbers of o, from the offset `begun` on: `count` numbers then stand in p,
--                      and `at` is the offset past the bytes used
--   Taking rule to body o from begun out at i   how far reading by the rule has come that began with the first `from` numbers of o and at the
--                      offset `begun` of the body and goes up to the index `to`: i numbers stand in out, and `at` is the offset past the bytes used
--   Ready p ms l i     the planes p and the marks ms are those of the ratios l, of which strict reading has read the first i
use Rattle.std.specs.Prelude.{List, ◌++◌, ◌≡◌, ℕ, ◌+◌, ◌-◌, ◌≤◌, length, take, drop}
use Rattle.outputs.specs.Outputs.{over}
use Rattle.ratio_format.specs.Windows.{window_size, window_of}
use Rattle.ratio_format.specs.Bodies.{Taken, after_taken, taken_from}
use Rattle.ratio_search.specs.declared.planes.BytePlanes.{BytePlanes}
use Rattle.ratio_search.specs.BytePlanes.{KeptTo}
use Rattle.ratio_bodies.specs.Marks.{Marks}
use Rattle.ratio_bodies.specs.declared.Took.{Took}
use Rattle.ratio_format.specs.Open.{Read}

-- the answer
abbrev pub took_of : Taken → Took
took_of t = record { count = length t.ratios; used = t.used }

-- and the output
abbrev pub TakenInto : Taken → Took → List ℕ → List ℕ → Type 0
TakenInto t r o p = (r ≡ took_of t) × (p ≡ over t.ratios o)

-- after numbers that stand in the output already
abbrev pub TakenOnto : Taken → ℕ → ℕ → ℕ → ℕ → List ℕ → List ℕ → Type 0
TakenOnto t from begun count at o p =
    (count ≡ from + length t.ratios) × (at ≡ begun + t.used) × (p ≡ take from o ++ (t.ratios ++ drop (from + length t.ratios) o))

-- the ratios vs, of k bytes, were read, and all that reading takes is these and what it takes after them
pub record Taking (rule : List ℕ → List ℕ → Read) (to : ℕ) (body o : List ℕ) (from begun : ℕ) (out : List ℕ) (at i : ℕ) : Type 0 where
  pub vs : List ℕ
  pub k : ℕ
  pub few : i ≤ to
  pub inside : at ≤ length body
  pub many : i ≡ from + length vs
  pub place : at ≡ begun + k
  pub sized : length out ≡ length o
  pub front : take i out ≡ take from o ++ vs
  pub back : drop i out ≡ drop i o
  pub is : taken_from rule window_size (window_of window_size (take from o)) (to - from) (drop begun body)
      ≡ after_taken vs k (taken_from rule window_size (window_of window_size (take i out)) (to - i) (drop at body))

-- what strict reading keeps
pub record Ready (p : BytePlanes) (ms l : List ℕ) (i : ℕ) : Type 0 where
  pub planes : KeptTo p l i
  pub marks : Marks ms l i
