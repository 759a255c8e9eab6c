-- The last borrow is false exactly where there is enough. Assumes nothing.
use Rattle.std.proofs.Common.{sym, arith, rules}
use Rattle.u256.specs.Laws.{fits}
use Rattle.u256.proofs.Words.{sum}
use Rattle.u256.proofs.U256.checked_sub.Goals as goal

pub returns-then-b3 : goal.returns-then-b3
returns-then-b3 c =
    let e = sum _ c.args.other c.args.self _ _ _ _ (sym c.borrowing_sub-w0.ensures) (sym c.borrowing_sub-w1.ensures) (sym c.borrowing_sub-w2.ensures) (sym c.borrowing_sub-w3.ensures) in
    let f = fits {x = record { w3 = c.borrowing_sub-w3.result.0; w2 = c.borrowing_sub-w2.result.0; w1 = c.borrowing_sub-w1.result.0; w0 = c.borrowing_sub-w0.result.0 }} (search rules) in
    λ h. omega (arith, h, rw c.if-b3.true at e, f)

pub returns-else-b3 : goal.returns-else-b3
returns-else-b3 c =
    let e = sum _ c.args.other c.args.self _ _ _ _ (sym c.borrowing_sub-w0.ensures) (sym c.borrowing_sub-w1.ensures) (sym c.borrowing_sub-w2.ensures) (sym c.borrowing_sub-w3.ensures) in
    let r = rw c.if-b3.false at e in
    (omega (arith, r), omega (arith, r))
