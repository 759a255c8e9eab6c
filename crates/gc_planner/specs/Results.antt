-- What the functions here answer: a value, or why there is none. Assumes nothing: these are abbreviations.
use Rattle.std.specs.Prelude.{Option, Result}
use Rattle.domain.specs.declared.GcIntent.{GcIntent}
use Rattle.domain.specs.declared.refusal.Refusal.{Refusal}

abbrev pub Planned : Type 0
Planned = Result (Option GcIntent) Refusal
