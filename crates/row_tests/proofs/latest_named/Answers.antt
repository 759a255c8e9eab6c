-- `latest_named` walks a chain of matches. The loop keeps what the matches still to come leave. Assumes nothing.
use Rattle.std.proofs.Common.{◌∙◌, sym, arith}
use Rattle.store.specs.Rows.{clear_match}
use Rattle.row_tests.specs.Laws.{no_row, latest-on, latest-out, latest-end, latest-past}
use Rattle.row_tests.proofs.latest_named.Goals.{then-names, else-names}
use Rattle.row_tests.proofs.latest_named.Goals as goal

pub returns-in_default : goal.returns-in_default
returns-in_default c = latest-end _ _ _ _ _ _ c.loop.invariant (no_row _ c.in_default.not-Some)

pub returns-in_default-get : goal.returns-in_default-get
returns-in_default-get c = latest-past _ _ _ _ _ _ _ c.loop.invariant c.in-Some.is c.in_default-get.ensures.lookup.3

pub loop-preserved : goal.loop-preserved
loop-preserved c =
    latest-on _ _ _ 128 _ _ _ _ _ _ c.loop.invariant c.loop-test.true c.in-Some.is (c.in-Some-get.ensures.lookup.3.1 clear_match)
    (elim c.if-names.branch [
      | then-names w ↦ rw (sym c.names.ensures ∙ w.if-names.true) w.latest-is
      | else-names w ↦ rw (sym c.names.ensures ∙ w.if-names.false) w.latest-is
    ])

pub returns : goal.returns
returns c = latest-out _ _ _ _ _ _ c.loop.invariant (omega (arith, c.loop-test.false))
