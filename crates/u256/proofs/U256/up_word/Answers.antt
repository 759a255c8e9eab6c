-- The words move up by one place, and the highest is lost. Assumes nothing.
use Rattle.std.proofs.Common.{rules}
use Rattle.u256.specs.Value.{limit, value_of}
use Rattle.u256.specs.Laws.{fits}
use Rattle.u256.proofs.Words.{wrapped}
use Rattle.u256.proofs.Shifts.{lifted_words}
use Rattle.u256.proofs.U256.up_word.Goals as goal

pub returns : goal.returns
unfolding value_of
returns c =
    let a = c.args.self in
    wrapped limit _ a.w3 _ (fits (search rules)) (lifted_words a.w0 a.w1 a.w2 a.w3)
