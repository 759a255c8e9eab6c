-- What the functions here answer: a value, or why there is none. Assumes nothing: these are abbreviations.
use Rattle.std.specs.Prelude.{Result}
use Rattle.domain.specs.declared.DomainError.{DomainError}

abbrev pub Checked : Type 0
Checked = Result (Unit {0}) DomainError
