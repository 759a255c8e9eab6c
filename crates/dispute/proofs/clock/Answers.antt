-- `clock` changes the status of a row of the store, and the order stays. Assumes nothing.
use Rattle.std.proofs.Common.{rules, ap, sym, ◌∙◌}
use Rattle.routing.specs.Order.{order_of}
use Rattle.changes.specs.Laws.{clocked_below}
use Rattle.dispute.proofs.Ordered.{order_kept}
use Rattle.dispute.proofs.clock.Goals as goal

pub status_rows-requires : goal.status_rows-requires
status_rows-requires c = clocked_below _ _ _ _ _ (search rules) (sym c.clocked_row.ensures ∙ c.in_ok-i.was)

pub returns-clause-routed : goal.returns-clause-routed
returns-clause-routed c = ap order_of c.status_rows.ensures ∙ order_kept _ _ _ _ (sym c.clocked_row.ensures ∙ c.in_ok-i.was) c.requires
