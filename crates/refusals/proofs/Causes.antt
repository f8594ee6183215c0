-- Laws of the causes of refusals: each has a number, and it is not 0, which stands for no refusal.
use Rattle.std.specs.Prelude.{◌≡◌, ◌<◌, ℕ}
use Rattle.std.proofs.Common.{arith}
use Rattle.refusals.specs.Causes.{number_of}
use Rattle.refusals.specs.declared.Cause.{Cause}
use Rattle.refusals.specs.declared.Cause.TheVariants.{BadRate, UnequalCounts, TooManyPoints, HighPosition, StepOutside, NoRoom, BadState, AllGiven, CutShort, OtherTag, OtherLength, BadStoredRate, OtherRate, BadCount, NoRoomForPoints, BadPositions, BadRatios, BadStoredSide, BadSide, BadIndex}

-- no cause has the number of a success
pub cause-above : (c : Cause) → 0 < number_of c
cause-above BadRate = omega arith
cause-above UnequalCounts = omega arith
cause-above TooManyPoints = omega arith
cause-above HighPosition = omega arith
cause-above StepOutside = omega arith
cause-above NoRoom = omega arith
cause-above BadState = omega arith
cause-above AllGiven = omega arith
cause-above CutShort = omega arith
cause-above OtherTag = omega arith
cause-above OtherLength = omega arith
cause-above BadStoredRate = omega arith
cause-above OtherRate = omega arith
cause-above BadCount = omega arith
cause-above NoRoomForPoints = omega arith
cause-above BadPositions = omega arith
cause-above BadRatios = omega arith
cause-above BadStoredSide = omega arith
cause-above BadSide = omega arith
cause-above BadIndex = omega arith
