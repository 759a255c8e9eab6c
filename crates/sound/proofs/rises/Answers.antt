-- `rises` goes up from a tournament. The loop keeps what the rise still answers. Assumes nothing.
use Rattle.std.proofs.Common.{◌∙◌, ap, sym, rules, arith}
use Rattle.store.specs.Rows.{clear_tournament, clear_match}
use Rattle.store.specs.declared.TournamentRow.{TournamentRow}
use Rattle.row_tests.specs.Laws.{no_row, rises-out, rises-free, rises-far, rises-top, rises-past, rises-not, rises-on}
use Rattle.sound.proofs.rises.Goals as goal

pub returns-in_default : goal.returns-in_default
returns-in_default c = rises-far _ _ _ _ c.loop.invariant c.in_default.ensures.lookup.3

pub returns-then-not-row : goal.returns-then-not-row
returns-then-not-row c =
    rises-free _ _ _ _ c.loop.invariant (sym (ap (λ (r : TournamentRow). r.used) (c.in-Some.ensures.lookup.3.1 clear_tournament)) ∙ c.if-not-row.true)

pub returns-in_default-parent : goal.returns-in_default-parent
returns-in_default-parent c =
    rises-top _ _ 8 _ _ c.loop.invariant c.loop-test.true _ (c.in-Some.ensures.lookup.3.1 clear_tournament) c.if-not-row.false (no_row _ c.in_default-parent.not-Some)

pub returns-in_default-get : goal.returns-in_default-get
returns-in_default-get c =
    rises-past _ _ 8 _ _ c.loop.invariant c.loop-test.true _ (c.in-Some.ensures.lookup.3.1 clear_tournament) c.if-not-row.false _ c.in-Some-parent.is
    c.in_default-get.ensures.lookup.3 (search rules)

pub returns-then-child_row-u : goal.returns-then-child_row-u
returns-then-child_row-u c =
    rises-not _ _ 8 _ _ c.loop.invariant c.loop-test.true _ (c.in-Some.ensures.lookup.3.1 clear_tournament) c.if-not-row.false _ _ _ c.in-Some-parent.is
    (c.in-Some-get.ensures.lookup.3.1 clear_match) c.child_row.ensures c.if-child_row-u.true

pub loop-preserved : goal.loop-preserved
loop-preserved c =
    rises-on _ _ 8 _ _ c.loop.invariant c.loop-test.true _ (c.in-Some.ensures.lookup.3.1 clear_tournament) c.if-not-row.false _ _ _ c.in-Some-parent.is
    (c.in-Some-get.ensures.lookup.3.1 clear_match) c.child_row.ensures c.if-child_row-u.false

pub returns : goal.returns
returns c = rises-out _ _ _ _ c.loop.invariant (omega (arith, c.loop-test.false))
