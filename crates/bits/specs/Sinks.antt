-- Bits on their way into an output, field after field (document 01, "Positions"). The standard term for a sink is a bit writer.
--   Held ds s              of the bits ds, all that were laid, those from byte `at` on are held: they are the lower `width` bits of `held`
--   over_word p at x        the output p with the eight bytes of x at `at`, if there is room for them
--   PlacedBits ds at o p   the bits ds before byte `at` were put at the front of o, which is now p, if there is room for them
--   Laid es s r p q        from the sink s and the output p to r and q: the bits es come after all that were laid
use Rattle.std.specs.Prelude.{cond, List, ◌++◌, ◌≡◌, ℕ, ◌+◌, ◌*◌, ◌≤◌, leb, length, take, drop}
use Rattle.outputs.specs.Outputs.{over, over_at}
use Rattle.bits.specs.Digits.{bits_of, bytes_of}
use Rattle.bits.specs.Packing.{bits}
use Rattle.bits.specs.declared.laying.Sink.{Sink}

-- what is held of the bits that were laid
pub record Held (ds : List ℕ) (s : Sink) : Type 0 where
  pub size : length ds ≡ 8 * s.at + s.width
  pub tail : bits_of s.width s.held ≡ drop (8 * s.at) ds

-- eight bytes, or nothing
abbrev pub over_word : List ℕ → ℕ → ℕ → List ℕ
over_word p at x = cond (leb (at + 8) (length p)) (over_at p at 8 (bytes_of 8 x)) p

-- whole bytes; without room nothing is said of the output but its length
pub record PlacedBits (ds : List ℕ) (at : ℕ) (o p : List ℕ) : Type 0 where
  pub same : length p ≡ length o
  pub front : at ≤ length o → bits p ≡ over (take (8 * at) ds) (bits o)

-- bits more
abbrev pub Laid : List ℕ → Sink → Sink → List ℕ → List ℕ → Type 0
Laid es s r p q =
    (ds : List ℕ) → Held ds s → Held (ds ++ es) r × ((o : List ℕ) → PlacedBits ds s.at o p → PlacedBits (ds ++ es) r.at o q)
