-- `free_beneath` clears a tournament and what is beneath it. The loop keeps what is still to be cleared of its matches. Assumes nothing.
use Rattle.std.proofs.Common.{◌≡◌, ◌-◌}
use Rattle.store.specs.Free.{free_m, free_t}
use Rattle.freeing.proofs.+free_beneath.Given as goal

abbrev pub decreases-free_beneath : goal.decreases-free_beneath
decreases-free_beneath l = l.levels

abbrev pub invariant-loop : goal.invariant-loop
invariant-loop l = free_m (free_t (l.levels - 1)) (128 - l.counter) l.s l.link ≡ free_m (free_t (l.levels - 1)) 128 l.initial.s l.initial.link
