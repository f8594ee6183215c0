-- A run as the writer is given it.
--   run_of r   the run that r lends
use Rattle.record_format.specs.Runs as Runs
use Rattle.record_codec.specs.declared.writer.Run.{Run as Given}

abbrev pub run_of : Given → Runs.Run
run_of r = Runs.run r.rate r.side r.form r.positions.now r.ratios.now
