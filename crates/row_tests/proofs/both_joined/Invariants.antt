-- `both_joined` walks a chain for two commitments at once. The loop keeps what is left to be met of both. Assumes nothing.
use Rattle.std.proofs.Common.{◌≡◌, ◌-◌, ◌&&◌, false}
use Rattle.row_tests.specs.Sound.{both_joined}
use Rattle.row_tests.specs.Laws.{seen_both}
use Rattle.row_tests.proofs.both_joined.Given as goal

abbrev pub invariant-loop : goal.invariant-loop
invariant-loop l = ((l.one && l.two) ≡ false) × (seen_both l.s l.id l.one l.two (256 - l.counter) l.l ≡ both_joined l.s l.t l.id)
