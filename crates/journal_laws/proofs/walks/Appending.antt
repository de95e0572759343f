-- Rows, records and moments behind events that follow others.
use Rattle.std.proofs.Common.{◌≡◌, List, [], ◌∷◌, ◌++◌, refl, ap}
use Rattle.sig_core.specs.Rows.{RowsState}
use Rattle.local_ckpt.specs.Events.{Event, Moment, after, changed, logged}
use Rattle.journal_laws.specs.Checkpoints.{moment_behind}
use Rattle.journal_laws.specs.Events.{records_behind, rows_behind}

pub rows_append : (s : RowsState) (newer older : List Event)
    → rows_behind s (newer ++ older) ≡ rows_behind (rows_behind s older) newer
rows_append s [] older = refl
rows_append s (event ∷ newer) older = ap (changed event) (rows_append s newer older)

-- where some events lead to the same rows as others, so they do with further ones
module _ (s t : RowsState) (xs ys : List Event) (same : rows_behind s xs ≡ rows_behind t ys) where
  pub rows_on : (events : List Event) → rows_behind s (events ++ xs) ≡ rows_behind t (events ++ ys)
  rows_on [] = same
  rows_on (event ∷ newer) = ap (changed event) (rows_on newer)

-- a moment that has the rows and the records behind some events has those behind further ones
module _ (m : Moment) (s : RowsState) (older : List Event) (rows : m.rows ≡ rows_behind s older) where
  pub rows_are : (events : List Event) → (moment_behind m events).rows ≡ rows_behind s (events ++ older)
  rows_are [] = rows
  rows_are (event ∷ newer) = ap (changed event) (rows_are newer)

  pub log_is : m.log ≡ records_behind s older → (events : List Event)
      → (moment_behind m events).log ≡ records_behind s (events ++ older)
  log_is log [] = log
  log_is log (event ∷ newer) = λ i. logged event (rows_are newer i) (log_is log newer i)

-- events, of which the newest comes first, in their order, and then others
abbrev pub in_order : List Event → List Event → List Event
in_order [] further = further
in_order (event ∷ older) further = in_order older (event ∷ further)

pub after_order : (m : Moment) (events further : List Event)
    → after (in_order events further) m ≡ after further (moment_behind m events)
after_order m [] further = refl
after_order m (event ∷ older) further = after_order m older (event ∷ further)
