-- What the functions here answer: a value, or why there is none. Assumes nothing: these are abbreviations.
use Rattle.std.specs.Prelude.{Result}
use Rattle.domain.specs.declared.refusal.Refusal.{Refusal}
use Rattle.domain.specs.declared.TournamentStanding.{TournamentStanding}

abbrev pub StandingDecoded : Type 0
StandingDecoded = Result TournamentStanding Refusal
