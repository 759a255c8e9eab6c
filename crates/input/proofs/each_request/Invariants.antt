-- The requests read so far were whole and were handed on in turn.
use Rattle.std.proofs.Common.{ℕ, ◌≡◌, List, length, Ok}
use Rattle.std.specs.List.{All, FoldsTo, concat}
use Rattle.std.specs.Fn.{CalledAt}
use Rattle.std.specs.Io.KnownBytes.{Consumes}
use Rattle.input.proofs.each_request.Given as goal

abbrev pub invariant-loop-turn : goal.invariant-loop-turn
invariant-loop-turn g l =
    (length l.buf ≡ length l.initial.buf)
    × (requests : List (List ℕ))
    × (length requests ≡ l._turn)
    × All (λ x. length x ≡ length l.initial.buf) requests
    × FoldsTo (λ p x q. CalledAt g.F.FnMut p x (Ok tt) q) l.initial.answer requests l.answer
    × Consumes (g.R.Read.remaining l.initial.from) (g.R.Read.remaining l.from) (concat requests)
