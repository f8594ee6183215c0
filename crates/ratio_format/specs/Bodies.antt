-- Document 01, "Ratios": the coding of a list of ratios, and what a body is the coding, or an open form, of.
--   coded_from size w vs     the ratios vs coded one after the other, from the window w of that size
--   coded_ratios vs          from a fresh window of our size: the body of the ratios' field
--   before, at_end, on_ratio the parts of a reading: a ratio before the rest, the end of the bytes, what follows a ratio
--   open_from size w n s     the n ratios that the open rule reads from the bytes s, every byte used; or nothing
--   open_ratios n s          from a fresh window of our size
--   if_coded s o             what was read openly, where the bytes s are its coding
--   strict_ratios n s        the n ratios that the bytes s are the coding of, or nothing
--   Taken                    what reading takes from the front of bytes: the ratios, and how many bytes they used
--   none_taken, and_taken    no ratio; a ratio and its bytes before what the rest gives; on_taken: what follows a ratio, or none
--   after_taken vs k t       the ratios vs, of k bytes, before what t has
--   taken_from r size w n s  the ratios that the rule r reads one by one from the bytes s, at most n, up to the first that it does not read
--   open_taken n s           by the open rule, from a fresh window of our size
--   strict_taken n s         strictly
--   whole_taken n s t        the ratios of t, where they are n and used every byte of s; or nothing
use Rattle.std.specs.Prelude.{cond, List, [], ◌∷◌, ◌++◌, ℕ, zero, suc, ◌+◌, eqb, length, drop, None}
use Rattle.std.proofs.Math.Option.{Option, none, some}
use Rattle.lists.specs.Compare.{both, same}
use Rattle.ratio_format.specs.Windows.{window_size, push}
use Rattle.ratio_format.specs.RatioForms.{coded}
use Rattle.ratio_format.specs.Open.{Read, Ratio, open_one, strict_one}

-- each ratio goes into the window after it is coded
unfoldable pub coded_from : ℕ → List ℕ → List ℕ → List ℕ
coded_from size w [] = []
coded_from size w (v ∷ vs) = coded v w ++ coded_from size (push size v w) vs

-- the body of the ratios' field
abbrev pub coded_ratios : List ℕ → List ℕ
coded_ratios vs = coded_from window_size [] vs

-- a ratio before what the rest gives
abbrev pub before : ℕ → Option (List ℕ) → Option (List ℕ)
before v none = none
before v (some vs) = some (v ∷ vs)

-- no ratios are left to read: every byte must be used
abbrev pub at_end : List ℕ → Option (List ℕ)
at_end [] = some []
at_end (b ∷ s) = none

-- what follows a ratio that was read, or nothing where none was
abbrev pub on_ratio : Read → (ℕ → ℕ → Option (List ℕ)) → Option (List ℕ)
on_ratio None f = none
on_ratio (Ratio v k) f = f v k

-- the open rule, from a window that takes each ratio as it is read
unfoldable pub open_from : ℕ → List ℕ → ℕ → List ℕ → Option (List ℕ)
open_from size w zero s = at_end s
open_from size w (suc n) s = on_ratio (open_one w s) (λ v k. before v (open_from size (push size v w) n (drop k s)))

-- from a fresh window
abbrev pub open_ratios : ℕ → List ℕ → Option (List ℕ)
open_ratios n s = open_from window_size [] n s

-- what was read openly, where the bytes are its coding
abbrev pub if_coded : List ℕ → Option (List ℕ) → Option (List ℕ)
if_coded s none = none
if_coded s (some vs) = cond (same (coded_ratios vs) s) (some vs) none

-- only the choices of the writer are accepted
unfoldable pub strict_ratios : ℕ → List ℕ → Option (List ℕ)
strict_ratios n s = if_coded s (open_ratios n s)

-- the ratios taken, and how many bytes they used
pub record Taken : Type 0 where
  pub ratios : List ℕ
  pub used : ℕ

-- none
abbrev pub none_taken : Taken
none_taken = record { ratios = []; used = 0 }

-- the ratio v of k bytes, and the rest
abbrev pub and_taken : ℕ → ℕ → Taken → Taken
and_taken v k t = record { ratios = v ∷ t.ratios; used = k + t.used }

-- the ratios vs of k bytes, and the rest
abbrev pub after_taken : List ℕ → ℕ → Taken → Taken
after_taken vs k t = record { ratios = vs ++ t.ratios; used = k + t.used }

-- what follows a ratio that was read; none is taken where none was
abbrev pub on_taken : Read → (ℕ → ℕ → Taken) → Taken
on_taken None f = none_taken
on_taken (Ratio v k) f = f v k

-- by a rule for one ratio, from a window that takes each ratio as it is read
unfoldable pub taken_from : (List ℕ → List ℕ → Read) → ℕ → List ℕ → ℕ → List ℕ → Taken
taken_from rule size w zero s = none_taken
taken_from rule size w (suc n) s = on_taken (rule w s) (λ v k. and_taken v k (taken_from rule size (push size v w) n (drop k s)))

-- by the open rule
abbrev pub open_taken : ℕ → List ℕ → Taken
open_taken n s = taken_from open_one window_size [] n s

-- strictly: it stops at the first bytes that are no written form of a next ratio
abbrev pub strict_taken : ℕ → List ℕ → Taken
strict_taken n s = taken_from strict_one window_size [] n s

-- a sound body: as many ratios as were asked for, and no byte too many
abbrev pub whole_taken : ℕ → List ℕ → Taken → Option (List ℕ)
whole_taken n s t = cond (both (eqb (length t.ratios) n) (eqb t.used (length s))) (some t.ratios) none
