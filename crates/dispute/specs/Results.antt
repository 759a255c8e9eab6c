-- What the functions here answer: a value, or why there is none. Assumes nothing: these are abbreviations.
use Rattle.std.specs.Prelude.{Option, Result}
use Rattle.dispute.specs.declared.CommitmentPosition.{CommitmentPosition}
use Rattle.dispute.specs.declared.Match.{Match}
use Rattle.domain.specs.declared.refusal.Refusal.{Refusal}

abbrev pub Answer : Type 0
Answer = Result (Unit {0}) Refusal

abbrev pub Positioned : Type 0
Positioned = Result CommitmentPosition Refusal

abbrev pub MatchFound : Type 0
MatchFound = Result (Option Match) Refusal
