-- `has_joined` tells that a chain holds a commitment. Assumes nothing.
use Rattle.std.proofs.Common.{◌∙◌, sym}
use Rattle.store.specs.Rows.{clear_commitment}
use Rattle.chain_tests.proofs.Seeing.{some_row}
use Rattle.chain_tests.proofs.has_joined.Goals as goal

pub returns-in-Some-get : goal.returns-in-Some-get
returns-in-Some-get c =
    λ e. some_row c.args.s.now _ _ c.in-Some.j _ _ _ (sym c.first_joined.ensures ∙ c.in-Some.is) (c.in-Some-get.ensures.lookup.3.1 clear_commitment) c.has_root.ensures e
