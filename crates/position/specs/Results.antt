-- What the functions here answer: a value, or why there is none. Assumes nothing: these are abbreviations.
use Rattle.std.specs.Prelude.{Result, ℕ}
use Rattle.domain.specs.declared.refusal.Refusal.{Refusal}
use Rattle.position.specs.declared.Rows.{Rows}

abbrev pub Reached : Type 0
Reached = Result ℕ Refusal

abbrev pub Counted : Type 0
Counted = Result Rows Refusal
