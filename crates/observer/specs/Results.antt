-- What the functions here answer: a value, or why there is none. Assumes nothing: these are abbreviations.
use Rattle.std.specs.Prelude.{Result}
use Rattle.domain.specs.declared.LiveMatchState.{LiveMatchState}
use Rattle.domain.specs.declared.observer.MatchPhase.{MatchPhase}
use Rattle.domain.specs.declared.MatchSide.{MatchSide}
use Rattle.domain.specs.declared.refusal.Refusal.{Refusal}
use Rattle.observer.specs.declared.TimeoutRead.{TimeoutRead}
use Rattle.domain.specs.declared.TournamentDescriptor.{TournamentDescriptor}
use Rattle.domain.specs.declared.TournamentKind.{TournamentKind}

abbrev pub PhaseDecoded : Type 0
PhaseDecoded = Result MatchPhase Refusal

abbrev pub KindDecoded : Type 0
KindDecoded = Result TournamentKind Refusal

abbrev pub SideDecoded : Type 0
SideDecoded = Result MatchSide Refusal

abbrev pub DescriptorDecoded : Type 0
DescriptorDecoded = Result TournamentDescriptor Refusal

abbrev pub TimeoutDecoded : Type 0
TimeoutDecoded = Result TimeoutRead Refusal

abbrev pub StateDecoded : Type 0
StateDecoded = Result LiveMatchState Refusal

abbrev pub EventChecked : Type 0
EventChecked = Result (Unit {0}) Refusal
