-- `put_positions` meets its contract: the goals that the check leaves.
use native.Mathlib.Omega.{arith}
use lib.Seq.{take_all}
use Rattle.lists.proofs.Below.{below_of}
use Rattle.position_format.specs.Tables.{table_of}
use Rattle.position_format.specs.Positions.{position_bits, coded_positions}
use Rattle.position_format.proofs.Tables.{table_good}
use Rattle.position_format.proofs.Positions.{positions_below}
use Rattle.position_format.proofs.Positions.Sizes.{bits_few}
use Rattle.position_codec.proofs.Codes.{codable_valid}
use Rattle.position_codec.proofs.write.put_positions.Goals as goal

pub put_last-requires : goal.put_last-requires
put_last-requires c =
    let a = c.args in
    let held = rw (take_all c.loop-i.i a.positions.now c.loop-i-test.false) at c.loop-i.invariant.0 in
    omega (arith, held.size, bits_few a.form a.positions.now (codable_valid a.form a.positions.now c.requires.0) c.requires.1)

pub returns : goal.returns
unfolding coded_positions
returns c =
    let a = c.args in
    let l = c.loop-i in
    let all = take_all l.i a.positions.now c.loop-i-test.false in
    c.put_last.ensures a.out.now (position_bits (table_of a.form) a.positions.now) (below_of 256 a.out.now (λ i. (c.slice_known-1.given i).fits))
    (positions_below (table_of a.form) (table_good a.form) a.positions.now (codable_valid a.form a.positions.now c.requires.0))
    (rw all at l.invariant.0) (rw all at l.invariant.1)
