-- A run of records, which is tested for soundness once, as its events taken one after the other with the test each time: what it means.
-- Assumes nothing: these are definitions.
use Rattle.std.specs.Prelude.{ℕ, zero, suc, ◌≡◌, true, List, [], ◌∷◌, ◌++◌, Err, Ok}
use Rattle.domain.specs.declared.dispute.Event.{Event}
use Rattle.record.specs.Results.{RecordRead}
use Rattle.record.specs.Record.{read_record}
use Rattle.store.specs.declared.Store.{Store}
use Rattle.row_tests.specs.Sound.{sound_rows}
use Rattle.dispute.specs.declared.Applied.{Applied}
use Rattle.dispute.specs.Apply.{refused, apply_rows}
use Rattle.dispute.specs.Run as run
use Rattle.dispute.specs.Run.{record_at}
use Rattle.told.specs.Events.{store_after, Sized}

-- the event that a record tells, if it tells one
abbrev pub events_in : RecordRead → List Event
events_in (Ok e) = e ∷ []
events_in (Err r) = []

-- those of the first n records
abbrev pub events_of : ℕ → List ℕ → List Event
events_of zero bytes = []
events_of (suc n) bytes = events_of n bytes ++ events_in (read_record (record_at n bytes))

-- one record, with the test
abbrev pub apply_read : Store → RecordRead → Applied
apply_read s (Ok e) = apply_rows s e
apply_read s (Err r) = refused s r

-- the store after a run over a sound store, which is sound again
pub record RunsAs (n : ℕ) (s : Store) (bytes : List ℕ) : Type 0 where
  pub store_is : run.store_after n s bytes ≡ store_after s (events_of n bytes)
  pub sized : Sized (run.store_after n s bytes)
  pub sound : sound_rows (run.store_after n s bytes) ≡ true
