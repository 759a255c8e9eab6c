-- The rows of a list by value are as many as it counts, and are the array's first where it holds that many; so its plan is that of the
-- rows that it lends. Assumes nothing.
use Rattle.std.specs.Prelude.{ℕ, zero, suc, ◌+◌, ◌≤◌, ◌≡◌, Bool, true, false, cond, leb, List, ◌∷◌, get_or, length, take, drop, Ok, Err, None}
use Rattle.std.specs.declared.result.Result.{Result}
use Rattle.std.proofs.Common.{refl, ap, sym, ◌∙◌, arith}
use Rattle.std.proofs.lemmas.List.{drop_more}
use Rattle.gc_walk.specs.declared.StandingRow.{StandingRow}
use Rattle.domain.specs.declared.refusal.Refusal.TheVariants.{Core}
use Rattle.domain.specs.declared.refusal.CoreError.{CoreError}
use Rattle.domain.specs.declared.refusal.CoreError.TheVariants.{StoreUnsound, UnknownTournament, TooManyStandings}
use Rattle.store.specs.declared.Store.{Store}
use Rattle.store.specs.Rows.{used_tournament}
use Rattle.row_tests.specs.Sound.{sound_rows}
use Rattle.gc_planner.specs.declared.GcPlan.{GcPlan}
use Rattle.gc_planner.specs.declared.StandingList.{StandingList}
use Rattle.gc_planner.specs.Cleanup.{early, plan_gc}
use Rattle.gc_planner.specs.Listed.{clear_row, rows_from, rows_of}
use Rattle.gc_planner.specs.Plan.{barred, planned_by}

pub rows_length : (rows : List StandingRow) (i n : ℕ) → length (rows_from rows i n) ≡ n
unfolding rows_from
rows_length rows i zero = refl
rows_length rows i (suc n) = ap suc (rows_length rows (i + 1) n)

rows_drop : (rows : List StandingRow) (i n : ℕ) → i + n ≤ length rows → rows_from rows i n ≡ take n (drop i rows)
unfolding rows_from
rows_drop rows i zero h = refl
rows_drop rows i (suc n) h =
    ap (λ l. get_or rows i clear_row ∷ l) (rows_drop rows (i + 1) n (omega (arith, h)))
    ∙ ap (take (suc n)) (sym (drop_more rows i clear_row (omega (arith, h))))

pub rows_taken : (rows : List StandingRow) (n : ℕ) → n ≤ length rows → rows_from rows 0 n ≡ take n rows
rows_taken rows n h = rows_drop rows 0 n (omega (arith, h))

-- ---- its plan

-- what comes after the rules before the walk
abbrev after : Result (Unit {0}) CoreError → GcPlan → GcPlan
after (Ok u) next = next
after (Err e) next = early (Core e)

plan-is : (s : Store) (st : List StandingRow) (at : ℕ) → plan_gc s st at ≡ after (barred s (length st)) (planned_by s st at)
unfolding plan_gc
plan-is s st at = go (sound_rows s) (used_tournament s 0) (leb (length st) 32)
  where
    go : (a b c : Bool)
        → cond a (cond b (cond c (planned_by s st at) (early (Core (TooManyStandings (length st))))) (early (Core (UnknownTournament None)))) (early (Core StoreUnsound))
        ≡ after (cond a (cond b (cond c (Ok tt) (Err (TooManyStandings (length st)))) (Err (UnknownTournament None))) (Err StoreUnsound)) (planned_by s st at)
    go true true true = refl
    go true true false = refl
    go true false c = refl
    go false b c = refl

module _ (s : Store) (l : StandingList) (at : ℕ) (x : GcPlan) where
  listed-is : plan_gc s (rows_of l) at ≡ after (barred s l.count) (planned_by s (rows_of l) at)
  listed-is = plan-is s (rows_of l) at ∙ ap (λ n. after (barred s n) (planned_by s (rows_of l) at)) (rows_length l.rows 0 l.count)

  pub listed_refused : (e : CoreError) → barred s l.count ≡ Err e → x ≡ early (Core e) → x ≡ plan_gc s (rows_of l) at
  listed_refused e b q = q ∙ sym (listed-is ∙ ap (λ r. after r (planned_by s (rows_of l) at)) b)

  pub listed-planned : barred s l.count ≡ Ok tt → l.count ≤ length l.rows → x ≡ planned_by s (take l.count l.rows) at → x ≡ plan_gc s (rows_of l) at
  listed-planned b h q =
      q
      ∙ ap (λ ys. planned_by s ys at) (sym (rows_taken l.rows l.count h))
      ∙ sym (listed-is ∙ ap (λ r. after r (planned_by s (rows_of l) at)) b)
