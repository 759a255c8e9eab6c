-- `rises` goes up from a tournament. The loop keeps what the rise still answers. Assumes nothing.
use Rattle.std.proofs.Common.{◌≡◌, ◌-◌}
use Rattle.row_tests.specs.Sound.{rises}
use Rattle.sound.proofs.rises.Given as goal

abbrev pub invariant-loop : goal.invariant-loop
invariant-loop l = rises (8 - l.counter) l.s l.u ≡ rises 8 l.s l.t
