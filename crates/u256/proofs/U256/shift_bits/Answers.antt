-- Four words with what goes on from each make the product, and what goes on from the last is lost. Assumes nothing.
use Rattle.std.proofs.Common.{ℕ, ◌*◌, ◌%◌, ap, ◌∙◌, rules}
use Rattle.u256.specs.Value.{value_of, limit}
use Rattle.u256.specs.Laws.{fits}
use Rattle.u256.proofs.Words.{product, wrapped}
use Rattle.u256.proofs.Remainders.{bit}
use Rattle.u256.proofs.U256.shift_bits.Goals as goal

pub returns : goal.returns
returns c =
    wrapped limit _ c.carrying_mul-w3.result.1 _ (fits (search rules))
    (product c.args.self _ _ _ _ _ _ c.carrying_mul-w0.ensures c.carrying_mul-w1.ensures c.carrying_mul-w2.ensures c.carrying_mul-w3.ensures)
    ∙ ap (λ (n : ℕ). (value_of c.args.self * n) % limit) (bit c.args.bits c.requires)
