-- What a body is the coding of (document 01, "Positions", and document 02, No. 3).
--   positions_of c   the positions that are read from the coded positions c
use Rattle.std.specs.Prelude.{List, ℕ}
use Rattle.lists.specs.Optional.{list_of}
use Rattle.position_format.specs.Tables.{table_of}
use Rattle.position_format.specs.Positions.{read_positions}
use Rattle.position_codec.specs.declared.coded.CodedPositions.{CodedPositions}

-- they are there, since the body is known to be their coding
abbrev pub positions_of : CodedPositions → List ℕ
positions_of c = list_of (read_positions (table_of c.form) c.count c.body.now)
