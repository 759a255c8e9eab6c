-- `walk_beneath` answers what the places beneath the root come to. The loop keeps what those still to be met come to, with the stack in the first
-- places of `above`. Assumes nothing.
use Prim.Native.Nat.{◌<◌}
use Rattle.std.proofs.Common.{arith, rules, ◌≡◌, refl, ◌∙◌, sym, length-set, true, false}
use Rattle.store.specs.Rows.{tournament_at, match_at}
use Rattle.store.specs.Free.{child_beneath}
use Rattle.store.specs.Routing.{frames, child_depth, used_below, one-step, walk-out, walk_end, walk-pop, walk-past, walk-child}
use Rattle.routing.specs.Walk.{onward}
use Rattle.routing.proofs.Gathered.{wanted-here, wanted-on}
use Rattle.routing.proofs.walk_beneath.Goals as goal

pub loop-init : goal.loop-init
unfolding frames
loop-init c = (omega arith, refl, search rules, record { is = refl })

pub returns-then-depth-eq0 : goal.returns-then-depth-eq0
unfolding onward
returns-then-depth-eq0 c = walk_end _ _ _ _ _ _ _ c.loop.invariant.3 (omega arith) c.in_default.is c.if-depth-eq0.true

-- to the tournament above
pub loop-preserved-in_default : goal.loop-preserved-in_default
loop-preserved-in_default c = (
  omega arith,
  c.loop.invariant.1,
  c.loop.invariant.2,
  one-step _ _ _ _ _ _ 160 _ (walk-pop _ _ _ _ _ _ _ c.loop.invariant.3 (omega arith) c.in_default.is c.if-depth-eq0.false),
)

-- past a match with no child that is looked at
pub loop-preserved-then-not-child : goal.loop-preserved-then-not-child
loop-preserved-then-not-child c =
    let b : c.child_beneath-c.result ≡ child_beneath c.loop.depth (match_at c.args.s.now c.in-Some.i).status = rw c.row_at-row.ensures at c.child_beneath-c.ensures in
    let u : (tournament_at c.args.s.now c.child_beneath-c.result).used ≡ false = rw c.row_at-child.ensures at c.if-not-child.true in (
      c.loop.invariant.0,
      c.loop.invariant.1,
      c.loop.invariant.2,
      rw c.row_at-row.ensures (one-step _ _ _ _ _ _ 160 _ (walk-past _ _ _ _ _ _ _ _ _ c.loop.invariant.3 (omega arith) c.in-Some.is b c.loop.invariant.2 u)),
    )

pub returns-then-is_wanted : goal.returns-then-is_wanted
returns-then-is_wanted c =
    let b : c.child_beneath-c.result ≡ child_beneath c.loop.depth (match_at c.args.s.now c.in-Some.i).status = rw c.row_at-row.ensures at c.child_beneath-c.ensures in
    let u : (tournament_at c.args.s.now c.child_beneath-c.result).used ≡ true = rw c.row_at-child.ensures at c.if-not-child.false in
    wanted-here _ _ _ _ _ _ (walk-child _ _ _ _ _ _ _ _ _ c.loop.invariant.3 (omega arith) c.in-Some.is b c.loop.invariant.2 u c.loop.invariant.1)
    (sym (rw c.row_at-child.ensures at c.is_wanted.ensures) ∙ c.if-is_wanted.true)

-- into a child
pub loop-preserved : goal.loop-preserved
loop-preserved c =
    let b : c.child_beneath-c.result ≡ child_beneath c.loop.depth (match_at c.args.s.now c.in-Some.i).status = rw c.row_at-row.ensures at c.child_beneath-c.ensures in
    let u : (tournament_at c.args.s.now c.child_beneath-c.result).used ≡ true = rw c.row_at-child.ensures at c.if-not-child.false in
    let g : c.loop.depth < 7 = child_depth _ (match_at c.args.s.now c.in-Some.i).status _ b (used_below c.args.s.now _ c.loop.invariant.2 u) in (
      omega (arith, g),
      length-set c.loop.above c.loop.depth _ ∙ c.loop.invariant.1,
      c.loop.invariant.2,
      rw (c.row_at-child.ensures, c.row_at-row.ensures) (one-step _ _ _ _ _ _ 160 _ (record {
        is = wanted-on _ _ _ _ _ _ (walk-child _ _ _ _ _ _ _ _ _ c.loop.invariant.3 (omega arith) c.in-Some.is b c.loop.invariant.2 u c.loop.invariant.1)
            (sym (rw c.row_at-child.ensures at c.is_wanted.ensures) ∙ c.if-is_wanted.false) _ (rw c.row_at-child.ensures at c.note.ensures);
      })),
    )

pub returns : goal.returns
unfolding onward
returns c = walk-out _ _ _ _ _ _ _ c.loop.invariant.3 (omega arith)
