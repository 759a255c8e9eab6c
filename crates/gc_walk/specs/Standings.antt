-- The standings of tournaments, as "a lent list of rows, address and standing": whose standing is there, and which of them make a
-- tournament eliminable. Assumes nothing: these are definitions.
use Rattle.std.specs.Prelude.{Bool, true, false, cond, List, [], ◌∷◌, None, Option, Some}
use Rattle.domain.specs.declared.Address.{Address}
use Rattle.domain.specs.declared.TournamentStanding.{TournamentStanding}
use Rattle.domain.specs.declared.TournamentStanding.TheVariants.{MatchesActive, AwaitingClosure, RootWinner, RootFailed, InnerWinner, InnerEliminable}
use Rattle.domain.specs.Values.{same_address}
use Rattle.gc_walk.specs.declared.StandingRow.{StandingRow}

abbrev pub standing_of : List StandingRow → Address → Option TournamentStanding
standing_of [] a = None
standing_of (r ∷ rs) a = cond (same_address r.tournament a) (Some r.standing) (standing_of rs a)

abbrev pub eliminable : TournamentStanding → Bool
eliminable (MatchesActive joins candidate) = false
eliminable AwaitingClosure = false
eliminable (RootWinner w) = false
eliminable RootFailed = false
eliminable (InnerWinner w) = false
eliminable (InnerEliminable reason) = true
