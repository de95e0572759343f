-- Where a walk begins: behind the records of some events, all of which are finished; so those from there on have
-- whatever is prepared.
use Rattle.std.proofs.Common.{◌≡◌, ◌+◌, ◌∙◌, ◌++◌, ℕ, Bool, true, false, cond, List, [], ◌∷◌, length, refl, sym}
use Rattle.std.proofs.Common.{ap, subst, append-nil, append_assoc, arith}
use Rattle.std.proofs.lemmas.Bool.{and_parts, true≢false}
use Rattle.std.proofs.lemmas.List.{length-append}
use Rattle.std.specs.Prelude.{if◌then◌else◌, Option, None, Some, option_to_list}
use Rattle.run_theory.specs.Lists.{Each}
use Rattle.sig_core.proofs.RecordLemmas.{record_of-first}
use Rattle.sig_core.specs.declared.member.TxId.{TxId}
use Rattle.sig_core.specs.declared.redo.Redo.{Redo}
use Rattle.sig_core.specs.declared.redo.Redo.TheVariants as redo
use Rattle.sig_core.specs.declared.rows.PendingRecord.{PendingRecord}
use Rattle.sig_core.specs.Firsts.{first}
use Rattle.sig_core.specs.Redo.{bytes_of}
use Rattle.sig_core.specs.Rows.{RowsState, is_of, record_state, state_by}
use Rattle.sig_core.specs.Same.{same_key, same_tx}
use Rattle.sig_core.proofs.TxLemmas.{same_tx-is}
use Rattle.row_records.proofs.KeyLemmas.{same}
use Rattle.redo_log.specs.declared.image_id.ImageId.{ImageId}
use Rattle.redo_log.specs.Replaying.{id_of, image_of, log_bytes, prepared_by, same_id}
use Rattle.local_ckpt.specs.Events.{Abort, Commit, Complete, Event, Prepare, Step, log_if, logged}
use Rattle.local_ckpt.specs.Laws.{HasPrepares, last_image}
use Rattle.local_ckpt.specs.Orderly.{image_in, prepared_in}
use Rattle.lqh_saver.specs.Redo.{is_open, is_unfinished, oldest_from}
use Rattle.journal_laws.specs.Events.{records_behind, rows_behind}
use Rattle.journal_laws.proofs.follow.Parsing.{in_turn, sized, turn_append}
use Rattle.journal_laws.proofs.walks.Appending.{rows_append}

-- the record that an event adds, if it adds one
added_if : Redo → Option (Option (List ℕ)) → Option Redo
added_if record_of None = None
added_if record_of (Some image) = Some record_of

pub added : Event → RowsState → Option Redo
added (Prepare tx fragment key image) s = Some (redo.Prepare tx fragment key image)
added (Commit tx key epoch) s = added_if (redo.Commit tx epoch key) (image_in s tx key)
added (Abort tx key) s = added_if (redo.Abort tx key) (image_in s tx key)
added (Complete tx key) s = None
added Step s = None

logged_if : (record_of : Redo) (image : Option (Option (List ℕ))) (log : List Redo)
    → log_if record_of image log ≡ option_to_list (added_if record_of image) ++ log
unfolding added_if
logged_if record_of None log = refl
logged_if record_of (Some image) log = refl

pub logged_is : (event : Event) (s : RowsState) (log : List Redo)
    → logged event s log ≡ option_to_list (added event s) ++ log
unfolding added
logged_is (Prepare tx fragment key image) s log = refl
logged_is (Commit tx key epoch) s log = logged_if (redo.Commit tx epoch key) (image_in s tx key) log
logged_is (Abort tx key) s log = logged_if (redo.Abort tx key) (image_in s tx key) log
logged_is (Complete tx key) s log = refl
logged_is Step s log = refl

-- records behind events that follow others stand in front of the records of these
pub records_append : (s : RowsState) (newer older : List Event)
    → records_behind s (newer ++ older) ≡ records_behind (rows_behind s older) newer ++ records_behind s older
records_append s [] older = refl
records_append s (event ∷ newer) older =
    let rows : RowsState = rows_behind (rows_behind s older) newer in
    ap (λ (r : RowsState). logged event r (records_behind s (newer ++ older))) (rows_append s newer older)
    ∙ ap (logged event rows) (records_append s newer older)
    ∙ logged_is event rows (records_behind (rows_behind s older) newer ++ records_behind s older)
    ∙ sym (append_assoc (option_to_list (added event rows)) (records_behind (rows_behind s older) newer)
    (records_behind s older))
    ∙ ap (λ (log : List Redo). log ++ records_behind s older)
    (sym (logged_is event rows (records_behind (rows_behind s older) newer)))

-- and so do their bytes
pub bytes_append : (newer older : List Redo) → log_bytes (newer ++ older) ≡ log_bytes older ++ log_bytes newer
bytes_append [] older = sym (append-nil (log_bytes older))
bytes_append (r ∷ newer) older =
    ap (λ (w : List ℕ). w ++ bytes_of r) (bytes_append newer older)
    ∙ append_assoc (log_bytes older) (log_bytes newer) (bytes_of r)

module _ (rows : RowsState) where
  abbrev pub IsFinished : Redo → Type 0
  IsFinished r = is_unfinished rows r ≡ false

  -- records that are finished are passed
  pub passes_finished : (log : List Redo) (at : ℕ) (further : List (Redo × ℕ)) → Each IsFinished log
      → oldest_from rows at (in_turn log ++ further) ≡ oldest_from rows (at + length (log_bytes log)) further
  passes_finished [] at further all = ap (λ (n : ℕ). oldest_from rows n further) (omega arith)
  passes_finished (r ∷ older) at further all =
      let next : at + length (log_bytes older) + length (bytes_of r) ≡ at + length (log_bytes (r ∷ older)) =
      omega (arith, length-append (log_bytes older) (bytes_of r)) in
      ap (oldest_from rows at) (append_assoc (in_turn older) (sized r ∷ []) further)
      ∙ passes_finished older at (sized r ∷ further) all.1
      ∙ ap (λ (b : Bool). if b then at + length (log_bytes older)
      else oldest_from rows (at + length (log_bytes older) + length (bytes_of r)) further) all.0
      ∙ ap (λ (n : ℕ). oldest_from rows n further) next

  -- one that isn't finished ends it
  ends_at : (r : Redo) (older : List Redo) (at : ℕ) (further : List (Redo × ℕ)) → Each IsFinished older
      → is_unfinished rows r ≡ true
      → oldest_from rows at (in_turn (r ∷ older) ++ further) ≡ at + length (log_bytes older)
  ends_at r older at further all unfinished =
      ap (oldest_from rows at) (append_assoc (in_turn older) (sized r ∷ []) further)
      ∙ passes_finished older at (sized r ∷ further) all
      ∙ ap (λ (b : Bool). if b then at + length (log_bytes older)
      else oldest_from rows (at + length (log_bytes older) + length (bytes_of r)) further) unfinished

  module _ (s : RowsState) (at : ℕ) where
    -- All records of these events are finished, or those of some of them, behind which one stands that isn't.
    data Found (events : List Event) : Type 0 where
      none : Each IsFinished (records_behind s events) → Found events
      some : (nearer more : List Event) → events ≡ nearer ++ more → Each IsFinished (records_behind s more)
          → ((further : List (Redo × ℕ)) → oldest_from rows at (in_turn (records_behind s events) ++ further)
          ≡ at + length (log_bytes (records_behind s more)))
          → Found events

    find : (events : List Event) → Found events
    find [] = none tt
    find (event ∷ older) = by (find older)
      where
        log : List Redo
        log = records_behind s older

        here : RowsState
        here = rows_behind s older

        records_are : (o : Option Redo) → added event here ≡ o
            → records_behind s (event ∷ older) ≡ option_to_list o ++ log
        records_are o is = logged_is event here log ∙ ap (λ (o : Option Redo). option_to_list o ++ log) is

        unless : Each IsFinished log → (r : Redo) → added event here ≡ Some r → (b : Bool) → is_unfinished rows r ≡ b
            → Found (event ∷ older)
        unless all r is true unfinished =
            some (event ∷ []) older refl all (λ further.
            ap (λ (all : List Redo). oldest_from rows at (in_turn all ++ further)) (records_are (Some r) is)
            ∙ ends_at r log at further all unfinished)
        unless all r is false finished = none (subst (Each IsFinished) (sym (records_are (Some r) is)) (finished, all))

        one : Each IsFinished log → (o : Option Redo) → added event here ≡ o → Found (event ∷ older)
        one all None is = none (subst (Each IsFinished) (sym (records_are None is)) all)
        one all (Some r) is = unless all r is (is_unfinished rows r) refl

        more_behind : (further : List (Redo × ℕ)) → (rest : List (Redo × ℕ))
            × (in_turn (records_behind s (event ∷ older)) ++ further ≡ in_turn log ++ rest)
        more_behind further = (
          in_turn (option_to_list (added event here)) ++ further,
          ap (λ (all : List Redo). in_turn all ++ further) (records_are (added event here) refl)
              ∙ ap (λ (all : List (Redo × ℕ)). all ++ further)
              (turn_append (option_to_list (added event here)) log)
              ∙ append_assoc (in_turn log) (in_turn (option_to_list (added event here))) further,
        )

        by : Found older → Found (event ∷ older)
        by (none all) = one all (added event here) refl
        by (some nearer more split all position) =
            some (event ∷ nearer) more (ap (λ (w : List Event). event ∷ w) split) all (λ further.
            ap (oldest_from rows at) (more_behind further).1 ∙ position (more_behind further).0)

    -- So the position of the oldest record that isn't finished is behind the records of some events, which are.
    pub record IsBehindFinished (events : List Event) : Type 0 where
      pub nearer : List Event
      pub more : List Event
      pub split : events ≡ nearer ++ more
      pub finished : Each IsFinished (records_behind s more)
      pub position : oldest_from rows at (in_turn (records_behind s events))
          ≡ at + length (log_bytes (records_behind s more))

    pub behind_finished : (events : List Event) → IsBehindFinished events
    behind_finished events = by (find events)
      where
        whole : oldest_from rows at (in_turn (records_behind s events))
            ≡ oldest_from rows at (in_turn (records_behind s events) ++ [])
        whole = ap (oldest_from rows at) (sym (append-nil (in_turn (records_behind s events))))

        by : Found events → IsBehindFinished events
        by (none all) = record {
          nearer = [];
          more = events;
          split = refl;
          finished = all;
          position = whole ∙ passes_finished (records_behind s events) at [] all;
        }
        by (some nearer more split all position) =
            record { nearer = nearer; more = more; split = split; finished = all; position = whole ∙ position [] }

  -- a record of a prepared image isn't finished
  opens : (tx : TxId) (key : List ℕ) (image : Option (List ℕ)) → image_in rows tx key ≡ Some image
      → is_open (record_state rows tx key) ≡ true
  unfolding record_state
  opens tx key image there =
      ap (λ (o : Option PendingRecord). is_open (state_by o)) (record_of-first rows tx key)
      ∙ by (first (is_of tx key) rows.pending) there
    where
      if_done : (r : PendingRecord) (b : Bool) → r.committed ≡ b → (if b then None else Some r.image) ≡ Some image
          → is_open (state_by (Some r)) ≡ true
      if_done r true done there = absurd cc
      if_done r false begun there = ap (λ (b : Bool). is_open (Some b)) begun

      by : (o : Option PendingRecord) → prepared_in o ≡ Some image → is_open (state_by o) ≡ true
      by None there = absurd cc
      by (Some r) there = if_done r r.committed refl there

  -- so finished records have prepared nothing that is
  module _ (tx : TxId) (key : List ℕ) (image : Option (List ℕ)) (there : image_in rows tx key ≡ Some image) where
    abbrev id : ImageId
    id = record { tx = tx; key = key }

    own : (r : Redo) → IsFinished r → same_id (id_of r) id ≡ true → prepared_by r ≡ Some image → ⊥
    own (redo.Prepare other fragment key2 found) finished is one =
        let parts = and_parts (same_tx other tx) (same_key key2 key) is in
        let tx_is : other ≡ tx = same_tx-is other tx parts.0 in
        let key_is : key2 ≡ key = same key2 key parts.1 in
        true≢false (sym (opens tx key image there)
        ∙ sym (λ i. is_open (record_state rows (tx_is i) (key_is i))) ∙ finished)
    own (redo.Commit other epoch key2) finished is one = absurd cc
    own (redo.Abort other key2) finished is one = absurd cc

    none_prepared : (log : List Redo) → Each IsFinished log → image_of log id ≡ Some image → ⊥
    none_prepared [] all has = absurd cc
    none_prepared (r ∷ older) all has = by (none_prepared older all.1) (same_id (id_of r) id) refl has
      where
        by : (image_of older id ≡ Some image → ⊥) → (b : Bool) → same_id (id_of r) id ≡ b
            → cond b (prepared_by r) (image_of older id) ≡ Some image → ⊥
        by never true is one = own r all.0 is one
        by never false is more = never more

    without : (newer older : List Redo) → Each IsFinished older → image_of (newer ++ older) id ≡ Some image
        → image_of newer id ≡ Some image
    without [] older all has = absurd (none_prepared older all has)
    without (r ∷ newer) older all has = by (without newer older all) (same_id (id_of r) id) has
      where
        by : (image_of (newer ++ older) id ≡ Some image → image_of newer id ≡ Some image) → (b : Bool)
            → cond b (prepared_by r) (image_of (newer ++ older) id) ≡ Some image
            → cond b (prepared_by r) (image_of newer id) ≡ Some image
        by further true one = one
        by further false more = further more

  -- what is prepared is in the records behind those that are finished
  pub prepares_nearer : (s : RowsState) (nearer more : List Event)
      → HasPrepares rows (records_behind s (nearer ++ more)) → Each IsFinished (records_behind s more)
      → HasPrepares rows (records_behind (rows_behind s more) nearer)
  prepares_nearer s nearer more has all tx key image there =
      without tx key image there (records_behind (rows_behind s more) nearer) (records_behind s more) all
      (sym (ap (λ (log : List Redo). last_image log tx key) (records_append s nearer more)) ∙ has tx key image there)
