-- Demand 3, whole: the conjunction of its parts. They are of every call that takes a record, and of the comparison of two records, which the calls that
-- compare make up of what check and fetch answered (ByCalls). They stand in record_format/specs/Claims and differences/specs/Claims. Proved in proofs/Demand3.
use Rattle.record_format.specs.Claims.{PrefixFree, ListsApart, TrailingBytes, Followed, MoveFollowed, Shortest, NineEach}
use Rattle.differences.specs.Claims.{ComparisonTrailing, ComparisonFollowed}

-- no record begins another; lists are told apart; what follows changes nothing, of the check, in full (to C describe) and by its number to C, of fetch, open reading, moves and comparisons;
-- ours are the shortest ratios
abbrev pub Demand3 : Type 0
Demand3 = PrefixFree × ListsApart × TrailingBytes × ComparisonTrailing × Followed × MoveFollowed × ComparisonFollowed × Shortest × NineEach
