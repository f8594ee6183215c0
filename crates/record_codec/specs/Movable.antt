-- What the functions that move a record know of it when its front is read.
--   NotThere f s       no test of the front applies to the bytes s, and past it stands no whole head with the tag of the form f
--   Movable f s g      that, and g is the front
--   Opened f s r       what r answers is that front, or the refusal of a record that is to be moved
use Rattle.std.specs.Prelude.{◌≡◌, false, List, ℕ, ◌+◌, leb, eqb, length, Result, Ok, Err}
use Rattle.lists.specs.Compare.{both}
use Rattle.refusals.specs.declared.Refusal.{Refusal}
use Rattle.refusals.specs.Tests.{first_of}
use Rattle.position_format.specs.declared.Form.{Form}
use Rattle.record_format.specs.Fields.{head_size, tag_at}
use Rattle.record_format.specs.Runs.{positions_tag}
use Rattle.record_format.specs.Reading.{positions_at, front_tests}
use Rattle.record_format.specs.Moves.{source_tests}
use Rattle.record_parts.specs.declared.front.Front.{Front}
use Rattle.record_parts.specs.Fields.{RefusedBy, FrontFound}

-- a sound front, and not the form moved to
abbrev pub NotThere : Form → List ℕ → Type 0
NotThere f s =
    ((first_of (front_tests 0 s)).number ≡ 0)
    × (both (leb (positions_at s + head_size) (length s)) (eqb (tag_at s (positions_at s)) (positions_tag f)) ≡ false)

-- with the front
pub record Movable (f : Form) (s : List ℕ) (g : Front) : Type 0 where
  pub elsewhere : NotThere f s
  pub found : FrontFound s g

-- or the refusal
abbrev pub Opened : Form → List ℕ → Result Front Refusal → Type 0
Opened f s (Ok g) = Movable f s g
Opened f s (Err g) = RefusedBy (source_tests f s) g
