-- What the functions here answer: a value, or why there is none. Assumes nothing: these are abbreviations.
use Rattle.std.specs.Prelude.{Result}
use Rattle.domain.specs.declared.LiveMatch.{LiveMatch}
use Rattle.domain.specs.declared.refusal.Refusal.{Refusal}

abbrev pub MatchRead : Type 0
MatchRead = Result LiveMatch Refusal
