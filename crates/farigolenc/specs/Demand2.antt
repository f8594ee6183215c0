-- Demand 2, whole: the conjunction of its parts. Writing gives exactly the bytes of document 01 (Writes, RecordFields); strict reading is the pair of check and
-- fetch: a check accepts exactly what begins with some run's record and gives back its numbers, a fetch gives back each position and each ratio, and the two
-- agree wherever a fetch does not give 16; open reading follows the open rule. They stand in record_format/specs. Proved in proofs/Demand2.
use Rattle.record_format.specs.Claims.{Writes}
use Rattle.record_format.specs.WritingClaims.{RecordFields}
use Rattle.record_format.specs.CheckClaims.{ChecksRecord, ChecksExactly, ChecksOnly, RunCounted, NumberTells}
use Rattle.record_format.specs.FetchClaims.{FetchesRecord, FetchesExactly, FetchesOnly, RoomFirst, AgreesWithCheck, BesideSixteen, RoomEnough, PairGives}
use Rattle.record_format.specs.OpenReading.{OpensRecord, OpenRoomFirst, OpenAsFound, ReadsOpenly, DiffersInRatios}

-- writing; the check, in full and as one number; fetch, and the pair; open reading
abbrev pub Demand2 : Type 0
Demand2 =
    (Writes × RecordFields)
    × (ChecksRecord × ChecksExactly × ChecksOnly × RunCounted × NumberTells)
    × (FetchesRecord × FetchesExactly × FetchesOnly × RoomFirst × AgreesWithCheck × BesideSixteen × RoomEnough × PairGives)
    × (OpensRecord × OpenRoomFirst × OpenAsFound × ReadsOpenly × DiffersInRatios)
