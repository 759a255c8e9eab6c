-- What a failed read leaves of a reader and a buffer, and what is read and answered of requests. Assumes nothing: these are definitions.
use Rattle.std.specs.Prelude.{ℕ, ◌-◌, ◌^◌, ◌≡◌, ◌≤◌, ◌<◌, List, ◌++◌, length, take}
use Rattle.std.specs.List.{All, FoldsTo, concat}
use Rattle.std.specs.Io.KnownBytes.{Consumes, IsAtEnd}
use Rattle.std.specs.declared.option.Option.{Option}

-- what a reader gave from its bytes before to those after stands at the buffer's front
abbrev pub HoldsConsumed : Option (List ℕ) → Option (List ℕ) → List ℕ → Type 0
HoldsConsumed old new buf = (n : ℕ) × (n ≤ length buf) × Consumes old new (take n buf)

-- A reader gave requests of n bytes each, and steps took the state p to another, one step for each request, in order; after fewer than
-- 2 ^ 64 - 1 of them the reader is at its end, and what it gave last is shorter than a request.
abbrev pub AnswersEach : {F : Type 0} → (F → List ℕ → F → Type 0) → F → Option (List ℕ) → Option (List ℕ) → ℕ → Type 0
AnswersEach {F} step p old new n =
    (requests : List (List ℕ)) × (rest : List ℕ) × (last : F)
    × All (λ x. length x ≡ n) requests × FoldsTo step p requests last × Consumes old new (concat requests ++ rest)
    × (length requests < 2 ^ 64 - 1 → (length rest < n) × IsAtEnd new)
