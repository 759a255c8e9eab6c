-- `find_named` answers the first row of the chain that has the name. The loop keeps what the rest of the chain comes to. Assumes nothing.
use Rattle.std.proofs.Common.{◌≡◌, ◌-◌, length, get_or}
use Rattle.store.specs.Chain.{find_from}
use Rattle.store.proofs.find_named.Given as goal

abbrev pub invariant-loop : goal.invariant-loop
invariant-loop g l =
    find_from (λ i. g.R.Chained.after (get_or l.rows i g.R.Row.clear)) (λ i. g.R.Chained.named (get_or l.rows i g.R.Row.clear) l.name) (l.end - l.counter) l.link
    ≡ find_from (λ i. g.R.Chained.after (get_or l.rows i g.R.Row.clear)) (λ i. g.R.Chained.named (get_or l.rows i g.R.Row.clear) l.name) (length l.rows) l.fn.first
