-- `is_met` walks a chain. The loop keeps whether the rest of it still meets the row. Assumes nothing.
use Rattle.std.proofs.Common.{◌∙◌, ap, sym, arith, ne_eqb, eq-eqb}
use Rattle.std.proofs.Math.ListN.{get_or-eq_default}
use Rattle.row_tests.specs.Laws.{no_row, meets-out, meets-end, meets-here, meets-bad, meets_on, meets-past}
use Rattle.row_tests.proofs.is_met.Goals as goal

pub returns-in_default : goal.returns-in_default
returns-in_default g c = meets-end _ _ _ _ _ _ c.loop.invariant (no_row _ c.in_default.not-Some)

pub returns-then-j-i : goal.returns-then-j-i
returns-then-j-i g c = meets-here _ _ _ _ _ _ _ _ c.loop.invariant c.loop-test.true c.in-Some.is (eq-eqb _ _ c.if-j-i.true)

pub returns-in_default-get : goal.returns-in_default-get
returns-in_default-get g c =
    meets-past _ _ _ _ _ _ _ c.loop.invariant c.in-Some.is (ne_eqb _ _ c.if-j-i.false)
    (ap g.R.Chained.after (get_or-eq_default c.args.rows.now g.R.Row.clear c.in_default-get.ensures.lookup.3) ∙ g.met.R.Chained.clear_ends)

pub returns-then-bars : goal.returns-then-bars
returns-then-bars g c =
    meets-bad _ _ _ _ _ _ _ _ c.loop.invariant c.loop-test.true c.in-Some.is (ne_eqb _ _ c.if-j-i.false)
    (rw (c.in-Some-get.ensures.lookup.3.1 g.R.Row.clear) at (sym c.bars.ensures ∙ c.if-bars.true))

pub loop-preserved : goal.loop-preserved
loop-preserved g c =
    meets_on _ _ _ _ _ _ _ _ _ c.loop.invariant c.loop-test.true c.in-Some.is (ne_eqb _ _ c.if-j-i.false)
    (rw (c.in-Some-get.ensures.lookup.3.1 g.R.Row.clear) at (sym c.bars.ensures ∙ c.if-bars.false))
    (c.next-l.ensures ∙ ap g.R.Chained.after (c.in-Some-get.ensures.lookup.3.1 g.R.Row.clear))

pub returns : goal.returns
returns g c = meets-out _ _ _ _ _ _ c.loop.invariant (omega (arith, c.loop-test.false))
