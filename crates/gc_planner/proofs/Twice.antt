-- The laws by which the loop of `first_twice` follows `twice`. Assumes nothing.
use Rattle.std.specs.Prelude.{ℕ, ◌+◌, ◌<◌, ◌≡◌, Bool, true, false, cond, List, [], ◌∷◌, ◌++◌, get_or, length, take, drop, None, Option, Some}
use Rattle.std.specs.Option.{is_some}
use Rattle.std.proofs.Common.{refl, ap, sym, ◌∙◌}
use Rattle.std.proofs.lemmas.List.{take_more, drop_more}
use Rattle.domain.specs.declared.Address.{Address}
use Rattle.domain.specs.declared.TournamentStanding.{TournamentStanding}
use Rattle.domain.specs.Values.{same_address}
use Rattle.gc_walk.specs.declared.StandingRow.{StandingRow}
use Rattle.gc_walk.specs.Standings.{standing_of}
use Rattle.gc_planner.specs.Cleanup.{is_there, twice}

there-some : (x : Option TournamentStanding) → is_there x ≡ is_some x
there-some None = refl
there-some (Some v) = refl

is_there-either : (b : Bool) (v : TournamentStanding) (x y : Option TournamentStanding) → is_there x ≡ is_there y → is_there (cond b (Some v) x) ≡ is_there (cond b (Some v) y)
is_there-either true v x y e = refl
is_there-either false v x y e = e

is_there-first : (b c : Bool) (v w : TournamentStanding) (x : Option TournamentStanding) → is_there (cond b (Some v) (cond c (Some w) x)) ≡ is_there (cond c (Some w) (cond b (Some v) x))
is_there-first true true v w x = refl
is_there-first true false v w x = refl
is_there-first false c v w x = refl

-- whether an address is there does not depend on the order of the rows
there-last : (a : Address) (r : StandingRow) (xs : List StandingRow) → is_there (standing_of (r ∷ xs) a) ≡ is_there (standing_of (xs ++ r ∷ []) a)
there-last a r [] = refl
there-last a r (x ∷ xs) =
    is_there-first (same_address r.tournament a) (same_address x.tournament a) r.standing x.standing (standing_of xs a)
    ∙ is_there-either (same_address x.tournament a) x.standing (standing_of (r ∷ xs) a) (standing_of (xs ++ r ∷ []) a) (there-last a r xs)

twice-same : (before others ys : List StandingRow) → ((a : Address) → is_there (standing_of before a) ≡ is_there (standing_of others a)) → twice before ys ≡ twice others ys
twice-same before others [] e = refl
twice-same before others (y ∷ ys) e =
    ap (λ b. cond b (Some y.tournament) (twice (y ∷ before) ys)) (e y.tournament)
    ∙ ap (cond (is_there (standing_of others y.tournament)) (Some y.tournament))
    (twice-same (y ∷ before) (y ∷ others) ys (λ a. is_there-either (same_address y.tournament a) y.standing (standing_of before a) (standing_of others a) (e a)))

-- the row that comes next
module _ (ys : List StandingRow) (i : ℕ) (d : StandingRow) (x : Option Address) (h : i < length ys) (q : twice (take i ys) (drop i ys) ≡ x) where
  opened : cond (is_there (standing_of (take i ys) (get_or ys i d).tournament)) (Some (get_or ys i d).tournament) (twice (get_or ys i d ∷ take i ys) (drop (i + 1) ys)) ≡ x
  opened = ap (twice (take i ys)) (sym (drop_more ys i d h)) ∙ q

  module _ (v : Option TournamentStanding) (is : v ≡ standing_of (take i ys) (get_or ys i d).tournament) where
    pub twice-here : is_some v ≡ true → Some (get_or ys i d).tournament ≡ x
    twice-here t = let f : is_there (standing_of (take i ys) (get_or ys i d).tournament) ≡ true = ap is_there (sym is) ∙ there-some v ∙ t in rw f at opened

    pub twice-on : is_some v ≡ false → twice (take (i + 1) ys) (drop (i + 1) ys) ≡ x
    twice-on t =
        let f : is_there (standing_of (take i ys) (get_or ys i d).tournament) ≡ false = ap is_there (sym is) ∙ there-some v ∙ t in
        rw (take_more ys i d h)
        (sym (twice-same (get_or ys i d ∷ take i ys) (take i ys ++ get_or ys i d ∷ []) (drop (i + 1) ys) (λ a. there-last a (get_or ys i d) (take i ys)))
        ∙ (rw f at opened))
