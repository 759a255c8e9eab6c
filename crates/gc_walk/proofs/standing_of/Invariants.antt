-- No row before is the tournament's own. Assumes nothing.
use Rattle.std.proofs.Common.{◌≡◌, drop}
use Rattle.gc_walk.specs.Standings.{standing_of}
use Rattle.gc_walk.proofs.standing_of.Given as goal

abbrev pub invariant-loop-row : goal.invariant-loop-row
invariant-loop-row l = standing_of (drop l.row-index l.standings) l.address ≡ standing_of l.standings l.address
