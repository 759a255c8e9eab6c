-- `latest_named` walks a chain of matches. The loop keeps what the matches still to come leave. Assumes nothing.
use Rattle.std.proofs.Common.{◌≡◌, ◌-◌, None}
use Rattle.row_tests.specs.Sound.{latest_from}
use Rattle.row_tests.proofs.latest_named.Given as goal

abbrev pub invariant-loop : goal.invariant-loop
invariant-loop l = latest_from l.s l.root (128 - l.counter) l.l l.latest ≡ latest_from l.s l.root 128 l.fn.head None
