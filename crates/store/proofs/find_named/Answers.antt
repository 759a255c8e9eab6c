-- `find_named` answers the first row of the chain that has the name. Assumes nothing.
use Rattle.std.proofs.Common.{arith, rules, ◌≡◌, ap, ◌∙◌, sym, ltb-false, get_or}
use Rattle.std.proofs.Math.ListN.{get_or-eq_default}
use Rattle.store.specs.Laws.{find-out, find-end, find-here, find-far}
use Rattle.store.proofs.Scans.{find-next}
use Rattle.store.proofs.find_named.Goals as goal

pub returns-in_err-i : goal.returns-in_err-i
returns-in_err-i g c = c.from_residual.ensures ∙ find-end _ _ _ _ _ c.loop.invariant c.in_err-i.was

pub returns-in_err-row : goal.returns-in_err-row
returns-in_err-row g c =
    let e : get_or c.args.rows.now c.in_ok-i.i g.R.Row.clear ≡ g.R.Row.clear = get_or-eq_default _ _ (ltb-false _ _ (sym c.in_err-row.ensures.lookup.0)) in
    c.from_residual-in_err-row.ensures
    ∙ find-far _ _ _ _ _ _ c.loop.invariant c.in_ok-i.was
    (ap (λ r. g.R.Chained.after r) e ∙ g.met.R.Chained.clear_ends)
    (ap (λ r. g.R.Chained.named r c.args.name) e ∙ g.met.R.Chained.clear_is_unnamed c.args.name)

pub returns-then-is_named : goal.returns-then-is_named
returns-then-is_named g c =
    let e : c.in_ok-row.row.now ≡ get_or c.args.rows.now c.in_ok-i.i g.R.Row.clear = search rules in
    find-here _ _ _ _ _ _ c.loop.invariant (omega arith) c.in_ok-i.was
    (ap (λ r. g.R.Chained.named r c.args.name) (sym e) ∙ sym c.is_named.ensures ∙ c.if-is_named.true)

pub loop-preserved : goal.loop-preserved
loop-preserved g c =
    let e : c.in_ok-row.row.now ≡ get_or c.args.rows.now c.in_ok-i.i g.R.Row.clear = search rules in
    find-next _ _ _ _ _ _ _ _ c.loop.invariant c.loop-test.true c.in_ok-i.was
    (ap (λ r. g.R.Chained.named r c.args.name) (sym e) ∙ sym c.is_named.ensures ∙ c.if-is_named.false)
    (c.next-link.ensures ∙ ap (λ r. g.R.Chained.after r) e)

pub returns : goal.returns
returns g c = find-out _ _ _ _ _ c.loop.invariant (omega arith)
