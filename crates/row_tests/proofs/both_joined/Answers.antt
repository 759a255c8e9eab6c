-- `both_joined` walks a chain for two commitments at once. The loop keeps what is left to be met of both. Assumes nothing.
use Rattle.std.proofs.Common.{◌∙◌, ap, ◌||◌, false, refl, arith}
use Rattle.store.specs.Rows.{clear_commitment}
use Rattle.row_tests.specs.Laws.{seen_both, no_row, both-starts, both-on, both-met, both-out, both-end, both-past}
use Rattle.row_tests.proofs.both_joined.Goals as goal

pub loop-init : goal.loop-init
loop-init c = (refl, ap (seen_both c.args.s.now c.args.id.now false false 256) c.commitments_of-l.ensures ∙ both-starts c.args.s.now c.args.id.now c.args.t)

pub returns-in_default : goal.returns-in_default
returns-in_default c = both-end _ _ _ _ _ _ _ c.loop.invariant.1 c.loop.invariant.0 (no_row _ c.in_default.not-Some)

pub returns-in_default-get : goal.returns-in_default-get
returns-in_default-get c = both-past _ _ _ _ _ _ _ c.loop.invariant.1 c.loop.invariant.0 _ c.in-Some.is c.in_default-get.ensures.lookup.3

pub returns-then-one-two : goal.returns-then-one-two
returns-then-one-two c =
    both-met _ _ _ _ _ _ _
    (both-on _ _ _ _ _ 256 _ _ _ _ _ _ c.loop.invariant.1 c.loop-test.true c.in-Some.is (c.in-Some-get.ensures.lookup.3.1 clear_commitment)
    (ap (λ b. c.loop.one || b) c.has_root-one.ensures) (ap (λ b. c.loop.two || b) c.has_root-two.ensures))
    c.if-one-two.true

pub loop-preserved : goal.loop-preserved
loop-preserved c = (
  c.if-one-two.false,
  both-on _ _ _ _ _ 256 _ _ _ _ _ _ c.loop.invariant.1 c.loop-test.true c.in-Some.is (c.in-Some-get.ensures.lookup.3.1 clear_commitment)
      (ap (λ b. c.loop.one || b) c.has_root-one.ensures) (ap (λ b. c.loop.two || b) c.has_root-two.ensures),
)

pub returns : goal.returns
returns c = both-out _ _ _ _ _ _ _ c.loop.invariant.1 c.loop.invariant.0 (omega (arith, c.loop-test.false))
