-- `last_in` walks a chain. The loop keeps what the rest of it still answers. Assumes nothing.
use Rattle.std.proofs.Common.{◌≡◌, ◌-◌, length, get_or}
use Rattle.std.specs.Prelude.{None}
use Rattle.row_tests.specs.Parts.{last_along}
use Rattle.sound.proofs.last_in.Given as goal

abbrev pub invariant-loop : goal.invariant-loop
invariant-loop g l =
    last_along (λ j. g.R.Chained.after (get_or l.rows j g.R.Row.clear)) (λ j. g.R.Placed.stands_in (get_or l.rows j g.R.Row.clear) l.t) (length l.rows - l.counter) l.l l.last
    ≡ last_along (λ j. g.R.Chained.after (get_or l.rows j g.R.Row.clear)) (λ j. g.R.Placed.stands_in (get_or l.rows j g.R.Row.clear) l.t) (length l.rows) l.fn.head None
