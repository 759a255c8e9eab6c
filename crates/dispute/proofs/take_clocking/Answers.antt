-- `take_clocking` takes an advance or a seal at the row that the order has for its address. Assumes nothing.
use mathlib.Core.Path.{subst}
use Rattle.dispute.specs.declared.Applied.{Applied}
use Rattle.dispute.specs.Steps.{Left}
use Rattle.dispute.proofs.Ordered.{clocked_step}
use Rattle.dispute.proofs.take_clocking.Goals as goal

pub returns-in-Some-clause-left : goal.returns-in-Some-clause-left
returns-in-Some-clause-left c =
    subst (λ (a : Applied). Left c.clock.result c.clock.new.s a) (clocked_step _ _ _ _ c.requires.1 c.in-Some.ensures.found) c.clock.ensures.left
