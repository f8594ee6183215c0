-- Demand 3, of its parts.
use Rattle.record_format.proofs.Claims.{prefix_free, lists_apart, trailing_bytes, shortest_of_all, nine_each}
use Rattle.record_format.proofs.Claims.Trailing.{followed, move_followed}
use Rattle.differences.proofs.Comparisons.{comparison_trailing, comparison_followed}
use Rattle.farigolenc.specs.Demand3.{Demand3}

pub demand3 : Demand3
demand3 = (prefix_free, lists_apart, trailing_bytes, comparison_trailing, followed, move_followed, comparison_followed, shortest_of_all, nine_each)
