-- Whole words first, and then fewer bits than a word has. Assumes nothing.
use Rattle.std.proofs.Common.{ℕ, ◌+◌, mul-one, ◌*◌, ◌%◌, sym, ap, ◌∙◌, mod-eq_of_lt, arith, rules}
use Rattle.u256.specs.Value.{value_of, limit}
use Rattle.u256.specs.Laws.{fits}
use Rattle.u256.proofs.Shifts.{shifted-on, shifted_out}
use Rattle.u256.proofs.U256.shift_left.Goals as goal

pub returns-then-k-ge256 : goal.returns-then-k-ge256
returns-then-k-ge256 c = c.from.ensures ∙ sym (shifted_out (value_of c.args.self) c.args.k c.if-k-ge256.true)

pub loop-init : goal.loop-init
loop-init c = sym (ap (λ (n : ℕ). n % limit) (mul-one (value_of c.args.self)) ∙ mod-eq_of_lt (fits (search rules)))

pub loop-preserved : goal.loop-preserved
loop-preserved c =
    c.up_word-shifted.ensures
    ∙ shifted-on (value_of c.loop.shifted) (value_of c.args.self) (64 * c.loop.counter) 64 (64 * (c.loop.counter + 1)) (omega arith) c.loop.invariant

pub returns : goal.returns
returns c =
    c.shift_bits.ensures
    ∙ shifted-on (value_of c.loop.shifted) (value_of c.args.self) (64 * c.loop.counter) (c.args.k % 64) c.args.k (omega arith) c.loop.invariant
