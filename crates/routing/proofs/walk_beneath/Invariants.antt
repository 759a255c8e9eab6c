-- `walk_beneath` answers what the places beneath the root come to. The loop keeps what those still to be met come to, with the stack in the first
-- places of `above`. Assumes nothing.
use Prim.Native.Nat.{◌-◌, ◌≤◌}
use Rattle.std.proofs.Common.{◌≡◌, length, []}
use Rattle.store.specs.Rows.{tournament_at}
use Rattle.store.specs.Find.{places_from}
use Rattle.store.specs.Routing.{Keeps}
use Rattle.routing.specs.Walk.{onward}
use Rattle.routing.proofs.walk_beneath.Given as goal

abbrev pub invariant-loop : goal.invariant-loop
invariant-loop l =
    (l.depth ≤ 7) × (length l.above ≡ 8) × (length l.s.tournaments ≡ 32)
    × Keeps (onward l.s l.wanted l.order) l.s (160 - l.counter) l.depth l.link l.above (onward l.s l.wanted l.fn.order (places_from 160 l.s (tournament_at l.s 0).matches []))
