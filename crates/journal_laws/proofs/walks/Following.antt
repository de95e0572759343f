-- Records that come to what is committed behind some events do so behind further ones.
use Rattle.std.proofs.Common.{◌≡◌, ℕ, List, [], ◌∷◌, ◌++◌, sym, ap, ◌∙◌, subst}
use Rattle.sig_core.specs.Rows.{RowsState}
use Rattle.sig_core.specs.Table.{Rows}
use Rattle.redo_log.specs.Replaying.{replayed}
use Rattle.local_ckpt.specs.Events.{Event, changed, left_by, logged}
use Rattle.local_ckpt.specs.Laws.{HasPrepares}
use Rattle.local_ckpt.specs.Orderly.{IsOrderly}
use Rattle.journal_laws.specs.Events.{own_behind, records_behind, rows_behind}
use Rattle.journal_laws.proofs.replays.Replays.{has_more, orderly_behind, replays_more}
use Rattle.journal_laws.proofs.walks.Appending.{rows_on}

-- The records of some events, of others' rows, which have what is prepared.
module _ (s t : RowsState) (xs ys : List Event) (same : rows_behind s xs ≡ rows_behind t ys) (is : IsOrderly t)
    (has : HasPrepares (rows_behind t ys) (records_behind s xs)) where
  pub has_on : (events : List Event) → HasPrepares (rows_behind t (events ++ ys)) (records_behind s (events ++ xs))
  has_on [] = has
  has_on (event ∷ newer) =
      subst
      (λ u. HasPrepares (changed event (rows_behind t (newer ++ ys))) (logged event u (records_behind s (newer ++ xs))))
      (sym (rows_on s t xs ys same newer))
      (has_more (rows_behind t (newer ++ ys)) (records_behind s (newer ++ xs)) (orderly_behind t (newer ++ ys) is)
      (has_on newer) event)

  pub come_on : (epoch : ℕ) (rows before : Rows)
      → replayed epoch rows (records_behind s xs) ≡ own_behind epoch t before ys → (events : List Event)
      → replayed epoch rows (records_behind s (events ++ xs)) ≡ own_behind epoch t before (events ++ ys)
  come_on epoch rows before come [] = come
  come_on epoch rows before come (event ∷ newer) =
      ap (λ u. replayed epoch rows (logged event u (records_behind s (newer ++ xs)))) (rows_on s t xs ys same newer)
      ∙ replays_more (rows_behind t (newer ++ ys)) (records_behind s (newer ++ xs))
      (orderly_behind t (newer ++ ys) is) (has_on newer) epoch rows event
      ∙ ap (left_by epoch event (rows_behind t (newer ++ ys))) (come_on epoch rows before come newer)
