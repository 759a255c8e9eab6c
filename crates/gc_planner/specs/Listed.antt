-- The standings that a list by value holds. Assumes nothing: these are definitions.
use Rattle.std.specs.Prelude.{ℕ, zero, suc, ◌+◌, false, List, [], ◌∷◌, get_or, None}
use Rattle.domain.specs.declared.Address.{Address}
use Rattle.domain.specs.declared.TournamentStanding.TheVariants.{MatchesActive}
use Rattle.gc_walk.specs.declared.StandingRow.{StandingRow}
use Rattle.gc_planner.specs.declared.StandingList.{StandingList}

abbrev pub no_address : Address
no_address = record { high = 0; mid = 0; low = 0 }

abbrev pub clear_row : StandingRow
clear_row = record { tournament = no_address; standing = MatchesActive false None }

-- the n rows of an array from i on; past its end they are clear
unfoldable pub rows_from : List StandingRow → ℕ → ℕ → List StandingRow
rows_from rows i zero = []
rows_from rows i (suc n) = get_or rows i clear_row ∷ rows_from rows (i + 1) n

-- the standings that a list by value holds: as many as it says
abbrev pub rows_of : StandingList → List StandingRow
rows_of l = rows_from l.rows 0 l.count
