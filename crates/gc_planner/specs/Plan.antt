-- The rules before the walk, and what the walk over the rows has met, said in the store's words. Assumes nothing: these are definitions.
use Rattle.std.specs.Prelude.{ℕ, cond, leb, List, [], Err, None, Ok, Some, Option}
use Rattle.std.specs.declared.result.Result.{Result}
use Rattle.domain.specs.declared.GcIntent.{GcIntent}
use Rattle.domain.specs.declared.GcIntent.TheVariants.{EliminateMatch, EliminateChild}
use Rattle.domain.specs.declared.refusal.Refusal.TheVariants.{MissingTournament}
use Rattle.domain.specs.declared.refusal.CoreError.{CoreError}
use Rattle.domain.specs.declared.refusal.CoreError.TheVariants.{StoreUnsound, UnknownTournament, TooManyStandings}
use Rattle.store.specs.declared.Store.{Store}
use Rattle.store.specs.Rows.{match_at, used_tournament}
use Rattle.row_tests.specs.Sound.{sound_rows}
use Rattle.gc_walk.specs.declared.Due.{Due}
use Rattle.gc_walk.specs.declared.Item.{Item}
use Rattle.gc_walk.specs.declared.Item.TheVariants.{Match, Child}
use Rattle.gc_walk.specs.declared.StandingRow.{StandingRow}
use Rattle.gc_walk.specs.Walk.{Walked, address_at}
use Rattle.gc_planner.specs.Cleanup.{twice, unless_twice, outcome, walk_tournament}
use Rattle.gc_planner.specs.declared.GcPlan.{GcPlan}

abbrev pub intent_of : Store → Item → GcIntent
intent_of s (Match t i) = EliminateMatch (address_at s t) (match_at s i).id
intent_of s (Child t c) = EliminateChild (address_at s t) (address_at s c)

abbrev pub best_of : Store → Option Due → Option GcIntent
best_of s None = None
best_of s (Some d) = Some (intent_of s d.item)

abbrev pub plan_of : Store → Walked → GcPlan
plan_of s (Ok m) = record { planned = Ok (best_of s m.best); steps = m.steps }
plan_of s (Err e) = record { planned = Err (MissingTournament (address_at s e.tournament)); steps = e.met.steps }

-- 61, 62 and 68, for so many standings
abbrev pub barred : Store → ℕ → Result (Unit {0}) CoreError
barred s n =
    cond (sound_rows s) (cond (used_tournament s 0) (cond (leb n 32) (Ok tt) (Err (TooManyStandings n))) (Err (UnknownTournament None))) (Err StoreUnsound)

-- 67, and then the walk
abbrev pub planned_by : Store → List StandingRow → ℕ → GcPlan
planned_by s st at = unless_twice (twice [] st) (outcome (walk_tournament 8 s st at 0))
