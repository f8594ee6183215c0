-- `get_positions` meets its contract: it is a walk with room for all.
use native.Mathlib.Omega.{arith}
use Rattle.position_format.specs.Positions.{read_positions}
use Rattle.position_format.specs.Tables.{table_of}
use Rattle.position_format.proofs.Positions.{read_only}
use Rattle.position_codec.proofs.read.State.{part_filled}
use Rattle.position_codec.proofs.read.get_positions.Goals as goal

pub returns : goal.returns
returns c = part_filled (read_positions (table_of c.args.form) c.args.count c.args.body.now) c.walk_positions.result c.args.out.now _
    (λ l e. omega (arith, (read_only (table_of c.args.form) c.args.count c.args.body.now l e).2, c.requires.0)) c.walk_positions.ensures
