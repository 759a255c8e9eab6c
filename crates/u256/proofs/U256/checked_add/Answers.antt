-- The last carry is false exactly where the sum fits. Assumes nothing.
use Rattle.std.proofs.Common.{arith, rules}
use Rattle.u256.specs.Laws.{fits}
use Rattle.u256.proofs.Words.{sum}
use Rattle.u256.proofs.U256.checked_add.Goals as goal

pub returns-then-c3 : goal.returns-then-c3
returns-then-c3 c =
    let e = sum c.args.self c.args.other _ _ _ _ _ c.carrying_add-w0.ensures c.carrying_add-w1.ensures c.carrying_add-w2.ensures c.carrying_add-w3.ensures in
    λ h. omega (arith, h, rw c.if-c3.true at e)

pub returns-else-c3 : goal.returns-else-c3
returns-else-c3 c =
    let e = sum c.args.self c.args.other _ _ _ _ _ c.carrying_add-w0.ensures c.carrying_add-w1.ensures c.carrying_add-w2.ensures c.carrying_add-w3.ensures in
    let r = rw c.if-c3.false at e in
    let f = fits {x = record { w3 = c.carrying_add-w3.result.0; w2 = c.carrying_add-w2.result.0; w1 = c.carrying_add-w1.result.0; w0 = c.carrying_add-w0.result.0 }} (search rules) in
    (omega (arith, r, f), omega (arith, r))
