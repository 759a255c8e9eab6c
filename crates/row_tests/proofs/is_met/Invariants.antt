-- `is_met` walks a chain. The loop keeps whether the rest of it still meets the row. Assumes nothing.
use Rattle.std.proofs.Common.{◌≡◌, ◌-◌, length}
use Rattle.row_tests.specs.Parts.{met_along}
use Rattle.row_tests.proofs.is_met.Given as goal

abbrev pub invariant-loop : goal.invariant-loop
invariant-loop g l =
    met_along g.R.Chained.after g.R.Placed.bars g.R.Row.clear l.rows l.i l.row (length l.rows - l.counter) l.l
    ≡ met_along g.R.Chained.after g.R.Placed.bars g.R.Row.clear l.rows l.i l.row (length l.rows) l.fn.head
