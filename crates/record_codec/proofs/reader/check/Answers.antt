-- `check` meets its contract: the front is refused, or what is past it decides.
use mathlib.Core.List.{[]}
use Rattle.ratio_format.specs.Bodies.{strict_ratios}
use Rattle.record_parts.proofs.Fields.{passed_on, refused_first}
use Rattle.record_codec.proofs.reader.ReadRecord.{check_of, check_past}
use Rattle.record_codec.proofs.reader.check.Goals as goal

pub returns-in_err-front-clause-answer : goal.returns-in_err-front-clause-answer
returns-in_err-front-clause-answer c =
    check_of strict_ratios c.args.expected c.args.input.now [] [] [] [] c.from_residual.result
    (passed_on _ c.from_residual.result c.from_residual.ensures.1 (refused_first _ c.in_err-front.ensures))

pub returns-clause-answer : goal.returns-clause-answer
returns-clause-answer c =
    check_past strict_ratios c.args.expected c.args.input.now [] [] _ _ c.read_past.result c.in_ok-front.ensures.0 c.read_past.ensures
