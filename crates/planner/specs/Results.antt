-- What the functions here answer: a value, or why there is none. Assumes nothing: these are abbreviations.
use Rattle.std.specs.Prelude.{Result}
use Rattle.domain.specs.declared.hero.HeroDecision.{HeroDecision}
use Rattle.domain.specs.declared.refusal.Refusal.{Refusal}

abbrev pub HeroPlanned : Type 0
HeroPlanned = Result HeroDecision Refusal
