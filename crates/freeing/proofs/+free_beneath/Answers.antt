-- `free_beneath` clears a tournament and what is beneath it. Assumes nothing.
use Prim.Native.Nat.{◌-◌}
use Rattle.std.proofs.Common.{arith, ◌≡◌, ◌∙◌}
use Rattle.store.specs.Free.{free_s, free_m, free_t}
use Rattle.freeing.proofs.Freeing.{free_m_out, free_m_end, free_m_step, freed_child, freed_childless, freed}
use Rattle.freeing.proofs.+free_beneath.Goals.{in-Inner, in_default-status, else-loop-test, then-loop-test+in_default}
use Rattle.freeing.proofs.+free_beneath.Goals as goal

pub returns-then-levels-eq0 : goal.returns-then-levels-eq0
unfolding free_t
returns-then-levels-eq0 t c = rw c.if-levels-eq0.true

pub loop-preserved : goal.loop-preserved
loop-preserved t c =
    let child : c.match-row.s ≡ free_s (free_t (c.args.levels - 1)) c.loop.s c.row_at-row.result.status =
    elim c.match-row.branch [
      | in-Inner w ↦ freed_child (free_t (c.args.levels - 1)) _ _ _ _ w.in-Inner.is (w.s-is ∙ w.free_beneath.ensures)
      | in_default-status w ↦ freed_childless (free_t (c.args.levels - 1)) _ _ _ w.in_default-status.not-Inner w.s-is
    ] in
    rw (c.set_row.ensures, c.clear.ensures, child, c.row_at-row.ensures) (free_m_step _ _ _ _ _ _ c.loop.invariant _ c.loop-test.true c.in-Some.is)

pub returns : goal.returns
returns t c =
    let done : c.loop.s ≡ free_m (free_t (c.args.levels - 1)) 128 c.free_commitments.new.s c.row_at-tournament.result.matches =
    elim c.loop-test.branch [
      | else-loop-test w ↦ free_m_out _ _ _ _ _ _ c.loop.invariant (omega (arith, w.loop-test.false))
      | then-loop-test+in_default w ↦ free_m_end _ _ _ _ _ _ c.loop.invariant w.in_default.is
    ] in
    rw (c.set_row-2.ensures, c.clear-2.ensures) (freed _ _ _ _ _ _ c.if-levels-eq0.false c.row_at-tournament.ensures c.free_commitments.ensures done)
