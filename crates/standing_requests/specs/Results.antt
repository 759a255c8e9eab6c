-- What the functions here answer: a value, or why there is none. Assumes nothing: these are abbreviations.
use Rattle.std.specs.Prelude.{Result}
use Rattle.domain.specs.declared.refusal.Refusal.{Refusal}
use Rattle.standing_requests.specs.declared.StandingRequests.{StandingRequests}

abbrev pub Collected : Type 0
Collected = Result StandingRequests Refusal
