-- Demand 2, whole.
use Rattle.record_format.proofs.Claims.{writes}
use Rattle.record_format.proofs.WritingClaims.{record_fields}
use Rattle.record_format.proofs.CheckClaims.{checks_record, checks_exactly, checks_only, run-counted}
use Rattle.record_format.proofs.CheckClaims.Numbers.{number_tells}
use Rattle.record_format.proofs.FetchClaims.{fetches_record, fetches_exactly, fetches_only, room-first, agrees_with_check, beside_sixteen, room_enough_for_all, pair_gives}
use Rattle.record_format.proofs.OpenReading.{opens_record, open_room-first, open_as_found, reads-openly, differs_in_ratios}
use Rattle.farigolenc.specs.Demand2.{Demand2}

pub demand2 : Demand2
demand2 = (
  (writes, record_fields),
  (checks_record, checks_exactly, checks_only, run-counted, number_tells),
  (fetches_record, fetches_exactly, fetches_only, room-first, agrees_with_check, beside_sixteen, room_enough_for_all, pair_gives),
  (opens_record, open_room-first, open_as_found, reads-openly, differs_in_ratios),
)
