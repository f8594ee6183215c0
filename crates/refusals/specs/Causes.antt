-- Why a call refuses, and the number of each cause in document 01's table. In standard terms these are error codes.
--   BadRate           1   writing and span: the rate is not one of the six
--   UnequalCounts     2   the numbers of positions and of ratios differ
--   TooManyPoints     3   more points than a run in the form may have
--   HighPosition      4   a position above the largest
--   StepOutside       5   a step that the table of the form does not hold
--   NoRoom            6   the output is shorter than what would be written
--   BadState          7   a kept state is bad
--   AllGiven          8   stepping: all ratios were given, and the body is used up
--   CutShort         10   the input ends inside a field, or before it
--   OtherTag         11   a field has another tag
--   OtherLength      12   a field that holds a number states another length
--   BadStoredRate    13   the rate in a record is not one of the six
--   OtherRate        14   a rate was expected, and the record has another
--   BadCount         15   a count that no run, or no run in the form, has
--   NoRoomForPoints  16   an output has room for fewer numbers than the count
--   BadPositions     17   the positions' body is not their coding
--   BadRatios        18   the ratios' body is not their coding, or not read by the open rule
--   BadStoredSide    20   the side in a record is not one that a record stores
--   BadSide          21   writing: the side is above the largest
--   BadIndex         22   an index that no ratio has
use Rattle.std.specs.Prelude.{ℕ}
use Rattle.refusals.specs.declared.Cause.{Cause}
use Rattle.refusals.specs.declared.Cause.TheVariants.{BadRate, UnequalCounts, TooManyPoints, HighPosition, StepOutside, NoRoom, BadState, AllGiven, CutShort, OtherTag, OtherLength, BadStoredRate, OtherRate, BadCount, NoRoomForPoints, BadPositions, BadRatios, BadStoredSide, BadSide, BadIndex}

-- its number in the table
abbrev pub number_of : Cause → ℕ
number_of BadRate = 1
number_of UnequalCounts = 2
number_of TooManyPoints = 3
number_of HighPosition = 4
number_of StepOutside = 5
number_of NoRoom = 6
number_of BadState = 7
number_of AllGiven = 8
number_of CutShort = 10
number_of OtherTag = 11
number_of OtherLength = 12
number_of BadStoredRate = 13
number_of OtherRate = 14
number_of BadCount = 15
number_of NoRoomForPoints = 16
number_of BadPositions = 17
number_of BadRatios = 18
number_of BadStoredSide = 20
number_of BadSide = 21
number_of BadIndex = 22
