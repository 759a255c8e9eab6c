-- Document 01, "Numbers to hold it to": the rows marked * are one table, and `Numbers` is the single statement that they hold. The rows on
-- geometry are numbers, in `Rattle.geometry.specs.Table`; the others are said of every store, opening, block and digest that they fit.
-- Assumes nothing: these are definitions, and `table` of proofs/ is the theorem.
use Rattle.std.specs.Prelude.{ℕ, ◌≤◌, length, ◌≡◌, false, List, [], ◌∷◌, None, Ok, Some}
use Rattle.digest.specs.declared.Digest.{Digest}
use Rattle.digest.specs.Digest.{same_digest}
use Rattle.domain.specs.declared.GcIntent.TheVariants.{EliminateMatch, EliminateChild}
use Rattle.domain.specs.declared.InnerEliminationReason.{InnerEliminationReason}
use Rattle.domain.specs.declared.MatchID.{MatchID}
use Rattle.domain.specs.declared.MatchDeletionReason.{MatchDeletionReason}
use Rattle.domain.specs.declared.TournamentDescriptor.{TournamentDescriptor}
use Rattle.domain.specs.declared.TournamentStanding.{TournamentStanding}
use Rattle.domain.specs.declared.TournamentStanding.TheVariants.{InnerEliminable}
use Rattle.domain.specs.declared.dispute.WinnerCommitment.TheVariants as winner
use Rattle.domain.specs.declared.dispute.Event.{Event}
use Rattle.domain.specs.declared.dispute.Event.TheVariants.{Opening, Emitted}
use Rattle.domain.specs.declared.dispute.EventKind.TheVariants.{CommitmentJoined, MatchCreated, MatchDeleted}
use Rattle.domain.specs.Values.{id_hash}
use Rattle.geometry.specs.Table.{Holds, rows}
use Rattle.store.specs.declared.Store.{Store}
use Rattle.dispute.specs.declared.Match.{Match}
use Rattle.dispute.specs.declared.CommitmentPosition.TheVariants as answered
use Rattle.dispute.specs.Apply.{apply_rows}
use Rattle.dispute.specs.Position.{position_of}
use Rattle.gc_walk.specs.declared.StandingRow.{StandingRow}
use Rattle.gc_planner.specs.declared.GcPlan.{GcPlan}
use Rattle.gc_planner.specs.Cleanup.{standing_of, twice, plan_gc}
use Rattle.told.specs.Tree.{Commitment, Tournament, Tournament.tournament, Matches.empty, Matches.created, Status.Clocked, Status.Inner, descriptor_of}
use Rattle.told.specs.Good.{Good}
use Rattle.told.specs.Events.{HoldsTree, store_after}

abbrev pub against : Digest → Digest → MatchID
against a b = record { commitment_one = a; commitment_two = b }

-- both join, they are paired, the match is resolved for One, and they are paired again
abbrev pub paired_again : TournamentDescriptor → Digest → Digest → MatchDeletionReason → ℕ → ℕ → List Event
paired_again d a b reason m n =
    Emitted d.address (CommitmentJoined a)
    ∷ Emitted d.address (CommitmentJoined b)
    ∷ Emitted d.address (MatchCreated (against a b) m)
    ∷ Emitted d.address (MatchDeleted (id_hash (against a b)) reason winner.One)
    ∷ Emitted d.address (MatchCreated (against a b) n)
    ∷ []

abbrev pub latest : Digest → MatchID → Commitment
latest x id = record { root = x; latest = Some (id_hash id) }

-- over any store, after any accepted opening: A is a candidate, and B is eliminated by that match
pub record Again (s : Store) (d : TournamentDescriptor) (a b : Digest) (reason : MatchDeletionReason) (m n : ℕ) : Type 0 where
  pub one : position_of (store_after s (Opening d ∷ paired_again d a b reason m n)) d.address a ≡ Ok answered.Candidate
  pub by : Match
  pub two : position_of (store_after s (Opening d ∷ paired_again d a b reason m n)) d.address b
      ≡ Ok (answered.Eliminated by reason)
  pub that : by.id ≡ against a b

-- ---- the rows on the cleanup, over any store that holds such a tree and any list of standings that answers so

-- what a plan of the tree x is at a block
abbrev pub Plans : Tournament → List StandingRow → ℕ → GcPlan → Type 0
Plans x st at p = (s : Store) → HoldsTree s x → Good x → length st ≤ 32 → twice [] st ≡ None → plan_gc s st at ≡ p

-- a root with one match, clocked until block 10
abbrev pub clocked10 : TournamentDescriptor → List Commitment → MatchID → Tournament
clocked10 d cs id = tournament d cs (created id (Clocked 10) empty)

-- a root with a match that is clocked until a block, then a delegated one
abbrev pub delegating : TournamentDescriptor → List Commitment → MatchID → ℕ → MatchID → Tournament → Tournament
delegating d cs id block other child = tournament d cs (created id (Clocked block) (created other (Inner child) empty))

-- "eliminable block 10: at 9 none, at 10 due"
pub record Clock (d : TournamentDescriptor) (cs : List Commitment) (id : MatchID) (st : List StandingRow) : Type 0 where
  pub at-nine : Plans (clocked10 d cs id) st 9 (record { planned = Ok None; steps = 2 })
  pub at-ten : Plans (clocked10 d cs id) st 10 (record { planned = Ok (Some (EliminateMatch d.address id)); steps = 2 })

-- ---- all rows

-- `first`: "root (level 0) with a due match, then an eliminable child of level 1: the child; 3 steps"
-- `again`: "A against B resolved for One, then created again: A candidate, B eliminated, since the first match is found"
pub record Numbers : Type 0 where
  pub geometry : Holds rows
  pub clock : (d : TournamentDescriptor) (cs : List Commitment) (id : MatchID) (st : List StandingRow) (v : TournamentStanding)
      → standing_of st d.address ≡ Some v → Clock d cs id st
  pub first : (d : TournamentDescriptor) (cs : List Commitment) (id : MatchID) (block : ℕ) (other : MatchID) (child : Tournament)
      (st : List StandingRow) (at : ℕ) (v : TournamentStanding) (reason : InnerEliminationReason) → d.level ≡ 0 → block ≤ at
      → (descriptor_of child).level ≡ 1 → standing_of st d.address ≡ Some v → standing_of st (descriptor_of child).address ≡ Some
      (InnerEliminable reason) → Plans (delegating d cs id block other child) st at
      (record { planned = Ok (Some (EliminateChild d.address (descriptor_of child).address)); steps = 3 })
  pub again : (s : Store) (d : TournamentDescriptor) (a b : Digest) (reason : MatchDeletionReason) (m n : ℕ)
      → (apply_rows s (Opening d)).answer ≡ Ok tt → same_digest a b ≡ false → Again s d a b reason m n
