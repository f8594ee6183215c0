-- `has_row` meets its contract: document 01's table has five rows, and the wide one all.
use borrow.Author.Tests.{lt-ltb}
use mathlib.Core.Path.{sym, ap}
use Prim.Native.Nat.{ℕ}
use native.Mathlib.Omega.{arith}
use lib.Dec.{ltb}
use Rattle.position_format.proofs.Tables.WideRows.{rows_count, wide_count}
use Rattle.position_codec.proofs.recode.has_row.Goals as goal

pub returns-in-Old : goal.returns-in-Old
returns-in-Old c = rw c.in-Old.is (ap (λ (k : ℕ). ltb c.args.row.index k) (sym rows_count))

pub returns-in-Wide : goal.returns-in-Wide
returns-in-Wide c = rw c.in-Wide.is (sym (lt-ltb c.args.row.index _ (omega (arith, c.args.row.known, wide_count))))
