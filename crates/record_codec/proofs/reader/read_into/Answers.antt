-- `read_into` meets its contract: a law of readings answers each return.
use mathlib.Core.Path.{sym, ◌∙◌}
use native.Mathlib.Omega.{arith}
use Rattle.record_parts.specs.Fields.{ratios_by}
use Rattle.record_parts.proofs.Fields.{refused_first}
use Rattle.record_parts.proofs.front.ReadFront.{place_near}
use Rattle.record_codec.proofs.reader.ReadRecord.{reads_err, reads-refused, read_lacks, reads_past}
use Rattle.record_codec.proofs.reader.read_into.Goals as goal

pub returns-in_err-front : goal.returns-in_err-front
returns-in_err-front c =
    reads_err (ratios_by c.args.reading) c.args.expected c.args.input.now c.args.positions.now c.args.ratios.now c.from_residual.result c.from_residual.ensures.1
    (refused_first _ c.in_err-front.ensures)

pub at-requires : goal.at-requires
at-requires c = let near = place_near c.in_ok-front.ensures.1.count in omega arith

pub returns-then-lacks : goal.returns-then-lacks
returns-then-lacks c =
    reads-refused (ratios_by c.args.reading) c.args.expected c.args.input.now c.args.positions.now c.args.ratios.now
    (read_lacks (ratios_by c.args.reading) c.args.expected c.args.input.now c.args.positions.now c.args.ratios.now c.in_ok-front.front c.in_ok-front.ensures c.at.ensures
    (sym c.lacks.ensures ∙ c.if-lacks.true))

pub returns : goal.returns
returns c =
    reads_past (ratios_by c.args.reading) c.args.expected c.args.input.now c.args.positions.now c.args.ratios.now c.in_ok-front.front c.in_ok-front.ensures
    (sym c.lacks.ensures ∙ c.if-lacks.false) c.read_past.result _ _ c.read_past.ensures
