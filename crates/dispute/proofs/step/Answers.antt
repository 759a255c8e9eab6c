-- `step` changes rows of the store: a change names no others. Assumes nothing.
use mathlib.Core.Path.{subst, sym, ◌∙◌}
use Rattle.std.proofs.Common.{rules}
use Rattle.changes.specs.Within.{Within}
use Rattle.changes.specs.Laws.{change_within}
use Rattle.dispute.proofs.step.Goals as goal

pub perform-requires : goal.perform-requires
perform-requires c =
    subst Within (sym c.change_of.ensures ∙ c.in_ok-change.was)
    (change_within c.args.s.now c.args.e (search rules) (search rules) (search rules))
