-- After i turns the number has moved up by i words. Assumes nothing.
use Rattle.std.proofs.Common.{◌≡◌, ◌*◌, ◌%◌, ◌^◌}
use Rattle.u256.specs.Value.{limit, value_of}
use Rattle.u256.proofs.U256.shift_left.Given as goal

abbrev pub invariant-loop : goal.invariant-loop
invariant-loop l = value_of l.shifted ≡ (value_of l.fn.self * 2 ^ (64 * l.counter)) % limit
