-- What the functions here answer: a value, or why there is none. Assumes nothing: these are abbreviations.
use Rattle.std.specs.Prelude.{Result}
use Rattle.domain.specs.declared.refusal.Refusal.{Refusal}

abbrev pub Linked : Type 0
Linked = Result (Unit {0}) Refusal
