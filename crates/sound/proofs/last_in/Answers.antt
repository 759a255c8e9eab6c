-- `last_in` walks a chain. The loop keeps what the rest of it still answers. Assumes nothing.
use Rattle.std.proofs.Common.{◌∙◌, ap, sym, arith}
use Rattle.std.proofs.Math.ListN.{get_or-eq_default}
use Rattle.row_tests.specs.Laws.{no_row, last-more, last-end, last-not, last_on}
use Rattle.sound.proofs.last_in.Goals as goal

pub returns-in_default : goal.returns-in_default
returns-in_default g c = last-end _ _ _ _ _ _ c.loop.invariant (no_row _ c.in_default.not-Some)

pub returns-in_default-get : goal.returns-in_default-get
returns-in_default-get g c =
    last-not _ _ _ _ _ _ _ c.loop.invariant c.in-Some.is
    (ap (λ r. g.R.Placed.stands_in r c.args.t) (get_or-eq_default c.args.rows.now g.R.Row.clear c.in_default-get.ensures.lookup.3)
    ∙ g.met.R.Placed.clear_stands c.args.t)

pub returns-then-not-is_in : goal.returns-then-not-is_in
returns-then-not-is_in g c =
    last-not _ _ _ _ _ _ _ c.loop.invariant c.in-Some.is
    (rw (c.in-Some-get.ensures.lookup.3.1 g.R.Row.clear) at (sym c.is_in.ensures ∙ c.if-not-is_in.true))

pub loop-preserved : goal.loop-preserved
loop-preserved g c =
    last_on _ _ _ _ _ _ _ _ _ c.loop.invariant c.loop-test.true c.in-Some.is
    (rw (c.in-Some-get.ensures.lookup.3.1 g.R.Row.clear) at (sym c.is_in.ensures ∙ c.if-not-is_in.false))
    (c.next-l.ensures ∙ ap g.R.Chained.after (c.in-Some-get.ensures.lookup.3.1 g.R.Row.clear))

pub returns-in-None : goal.returns-in-None
returns-in-None g c = last-end _ _ _ _ _ _ c.loop.invariant c.in-None.is

pub returns-in-Some-l : goal.returns-in-Some-l
returns-in-Some-l g c = last-more _ _ _ _ _ _ _ c.loop.invariant (omega (arith, c.loop-test.false)) c.in-Some-l.is
