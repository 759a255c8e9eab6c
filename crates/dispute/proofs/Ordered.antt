-- An advance or a seal by the routing order: what the order finds is where the event leads, and the match's new status leaves the order.
-- Assumes nothing.
use Rattle.std.specs.Prelude.{ℕ, ◌≡◌, Ok, Some}
use Rattle.std.proofs.Common.{ap, sym, subst, arith}
use Rattle.std.proofs.lemmas.Option.{same_Some}
use Rattle.domain.specs.declared.Address.{Address}
use Rattle.domain.specs.declared.dispute.Event.{Event}
use Rattle.domain.specs.declared.dispute.Event.TheVariants.{Opening, Emitted}
use Rattle.domain.specs.declared.dispute.EventKind.{EventKind}
use Rattle.domain.specs.declared.dispute.EventKind.TheVariants.{CommitmentJoined, MatchCreated, MatchAdvanced, LeafMatchSealed, NewInnerTournament, MatchDeleted}
use Rattle.store.specs.declared.Store.{Store}
use Rattle.store.specs.Rows.{match_at}
use Rattle.routing.specs.Order.{order_of, row_in}
use Rattle.routing.specs.Laws.{Leads, found-in-order, status-order, clocked_childless}
use Rattle.changes.specs.Rules.{clocked_row, advance_at, seal_at, emitted, routed}
use Rattle.changes.specs.Laws.{found_clocked}
use Rattle.dispute.specs.declared.Clocking.{Clocking}
use Rattle.dispute.specs.Apply.{performed, step_rows}
use Rattle.dispute.specs.Rows.{status_rows}
use Rattle.dispute.specs.Steps.{Childless, clocking_kind, clocking_of, clocked_by}

-- ---- where it leads

module _ (s : Store) (t : ℕ) where
  leads-kind : (a : Address) (k : EventKind) (c : Clocking) → clocking_kind a k ≡ Some c → Leads s c.tournament t → clocked_by s t c ≡ performed s (emitted s a k)
  unfolding emitted advance_at seal_at
  leads-kind a (CommitmentJoined root) c e l = let z : ◌≡◌ {A = ℕ} 0 1 = cc in absurd (omega arith)
  leads-kind a (MatchCreated id block) c e l = let z : ◌≡◌ {A = ℕ} 0 1 = cc in absurd (omega arith)
  leads-kind a (MatchAdvanced x block) c e l =
      subst (λ (c : Clocking). Leads s c.tournament t → clocked_by s t c ≡ performed s (emitted s a (MatchAdvanced x block))) (same_Some _ _ e)
      (λ m. ap (λ r. performed s (routed s a (MatchAdvanced x block) r)) (sym m.route)) l
  leads-kind a (LeafMatchSealed x block) c e l =
      subst (λ (c : Clocking). Leads s c.tournament t → clocked_by s t c ≡ performed s (emitted s a (LeafMatchSealed x block))) (same_Some _ _ e)
      (λ m. ap (λ r. performed s (routed s a (LeafMatchSealed x block) r)) (sym m.route)) l
  leads-kind a (NewInnerTournament x child) c e l = let z : ◌≡◌ {A = ℕ} 0 1 = cc in absurd (omega arith)
  leads-kind a (MatchDeleted x reason winner) c e l = let z : ◌≡◌ {A = ℕ} 0 1 = cc in absurd (omega arith)

  -- by the row that the order has for the address it is the step
  pub clocked_step : (e : Event) (c : Clocking) → clocking_of e ≡ Some c → Some t ≡ row_in (order_of s) c.tournament → clocked_by s t c ≡ step_rows s e
  clocked_step (Opening d) c q f = let z : ◌≡◌ {A = ℕ} 0 1 = cc in absurd (omega arith)
  clocked_step (Emitted a k) c q f = leads-kind a k c q (found-in-order s c.tournament t (sym f))

  -- ---- and what it leaves

  pub order_kept : (c : Clocking) (i : ℕ) → clocked_row s t c.tournament c.match_id_hash ≡ Ok i → Childless c.status → order_of (status_rows s i c.status) ≡ order_of s
  order_kept c i e h = status-order s i c.status (clocked_childless s (match_at s i).status (found_clocked s t c.tournament c.match_id_hash i e)) (h s)
