-- `TableRow::reading` meets its contract: by the row's highest step.
use mathlib.Core.Path.{ap}
use native.Mathlib.Omega.{arith}
use lib.IntN.{nat_abs}
use Rattle.position_codec.specs.Codes.{row_at}
use Rattle.position_codec.proofs.table.Numbers.{fitted, top_at}
use Rattle.position_codec.proofs.table.Residues.{reading_low, lacks_from, lacks_small, reading_high}
use Rattle.position_codec.proofs.row.TableRow.reading.Goals as goal

pub overflow_cast-high : goal.overflow_cast-high
overflow_cast-high c =
    let i = c.args.self in
    rw (top_at i.index i.known c.range-high.result.high c.range-high.ensures.1) (tt, record { fits = omega (arith, (fitted i.index i.known).high_fits) })

pub overflow_cast-result : goal.overflow_cast-result
overflow_cast-result c =
    let i = c.args.self in
    let r = row_at i in
    let f = fitted i.index i.known in
    let top = ap nat_abs (top_at i.index i.known c.range-high.result.high c.range-high.ensures.1) in
    record { sfits = omega (arith, c.if-x-high.true, top, f.high_fits) }

pub returns-then-x-high : goal.returns-then-x-high
returns-then-x-high c =
    let i = c.args.self in
    let r = row_at i in
    let f = fitted i.index i.known in
    let top = ap nat_abs (top_at i.index i.known c.range-high.result.high c.range-high.ensures.1) in
    reading_low r (nat_abs r.high) f c.args.x c.requires (omega (arith, c.if-x-high.true, top))

pub overflow_sub-result : goal.overflow_sub-result
overflow_sub-result c = omega (arith, c.width.ensures, (fitted c.args.self.index c.args.self.known).width)

pub overflow_sub-result-2 : goal.overflow_sub-result-2
overflow_sub-result-2 c =
    let i = c.args.self in
    let r = row_at i in
    let f = fitted i.index i.known in
    let top = ap nat_abs (top_at i.index i.known c.range-high.result.high c.range-high.ensures.1) in
    rw c.width.ensures (lacks_from r (nat_abs r.high) f c.args.x c.requires (omega (arith, c.if-x-high.false, top)))

pub overflow_cast-result-2 : goal.overflow_cast-result-2
overflow_cast-result-2 c =
    let i = c.args.self in
    let r = row_at i in
    let f = fitted i.index i.known in
    let top = ap nat_abs (top_at i.index i.known c.range-high.result.high c.range-high.ensures.1) in
    rw c.width.ensures (record { sfits = lacks_small r (nat_abs r.high) f c.args.x c.requires (omega (arith, c.if-x-high.false, top)) })

pub returns : goal.returns
returns c =
    let i = c.args.self in
    let r = row_at i in
    let f = fitted i.index i.known in
    let top = ap nat_abs (top_at i.index i.known c.range-high.result.high c.range-high.ensures.1) in
    rw c.width.ensures (reading_high r (nat_abs r.high) f c.args.x c.requires (omega (arith, c.if-x-high.false, top)))
