-- What the functions here answer: a value, or why there is none. Assumes nothing: these are abbreviations.
use Rattle.std.specs.Prelude.{Result, ℕ}
use Rattle.domain.specs.declared.dispute.DisputeError.{DisputeError}
use Rattle.domain.specs.declared.refusal.Refusal.{Refusal}
use Rattle.changes.specs.declared.Change.{Change}

abbrev pub Row : Type 0
Row = Result ℕ DisputeError

-- what an event changes, or why it is refused
abbrev pub Changed : Type 0
Changed = Result Change Refusal
