-- The fields of a record that stand before the ratios', and what a writer says that recodes their positions.
--   lead_fields r d f ts     those of the rate r, of the side d unless it is 0, of the count, and of the positions ts in the form f
--   RecodedAs f ts bs r o p  the bytes bs, in which the positions ts stand in the form f, were put at the front of o, which is now p, or there was no
--                            room for them; or r is the index of the first point whose step the table of f does not hold. That is told whatever the
--                            room
--   RecodedNowhere f ts e    the same of the error e, of any bytes and any output that has no room for them
use Rattle.std.specs.Prelude.{Some, None, Result, Ok, Err, List, [], ◌∷◌, ◌++◌, ◌≡◌, ℕ, ◌<◌, length}
use Rattle.outputs.specs.Outputs.{Placed}
use Rattle.position_format.specs.declared.Form.{Form}
use Rattle.position_format.specs.Steps.{first_outside}
use Rattle.position_format.specs.Tables.{table_of}
use Rattle.position_codec.specs.Codes.{CodablePositions}
use Rattle.position_codec.specs.declared.recode.RecodeError.{RecodeError}
use Rattle.position_codec.specs.declared.recode.RecodeError.TheVariants.{Outside, NoRoom}
use Rattle.record_format.specs.Fields.{Field}
use Rattle.record_format.specs.Runs.{positions_field, front_fields}

-- the front, and then the coded positions
abbrev pub lead_fields : ℕ → ℕ → Form → List ℕ → List Field
lead_fields rate side form ts = front_fields rate side (length ts) ++ (positions_field form ts ∷ [])

-- a step outside the table wins over missing room, as test 5 does over 6
abbrev pub RecodedAs : Form → List ℕ → List ℕ → Result ℕ RecodeError → List ℕ → List ℕ → Type 0
RecodedAs f ts bs (Ok n) o p = CodablePositions f ts × Placed bs (Some n) o p
RecodedAs f ts bs (Err NoRoom) o p = CodablePositions f ts × Placed bs None o p
RecodedAs f ts bs (Err (Outside i)) o p = (i ≡ first_outside (table_of f) ts) × (i < length ts)

-- nothing is written
abbrev pub RecodedNowhere : Form → List ℕ → RecodeError → Type 0
RecodedNowhere f ts e = (bs o p : List ℕ) → length o < length bs → RecodedAs f ts bs (Err e) o p
