-- What an event makes of one key: of its row and its records, and of the row that is committed up to an epoch.
use Rattle.std.proofs.Common.{◌≡◌, ◌∙◌, ℕ, Bool, true, false, List, refl, sym, ap, subst}
use Rattle.std.specs.FinMap as map
use Rattle.std.specs.Prelude.{nat_le, if◌then◌else◌, Option, None, Some}
use Rattle.sig_core.proofs.Keys.{same_key-self, same_key-swap}
use Rattle.sig_core.proofs.RecordLemmas.{record_of-first}
use Rattle.sig_core.proofs.TxLemmas.{same_tx-is}
use Rattle.sig_core.specs.Rows.{RowsState, record_of, state_by}
use Rattle.sig_core.specs.Rows as rows
use Rattle.sig_core.specs.Same.{same_key, same_tx}
use Rattle.sig_core.specs.Table.{Rows}
use Rattle.sig_core.specs.declared.member.TxId.{TxId}
use Rattle.sig_core.specs.declared.rows.PendingRecord.{PendingRecord}
use Rattle.redo_log.specs.Replaying.{applied, with_image}
use Rattle.sig_core.specs.declared.redo.Redo.TheVariants as redo
use Rattle.row_records.proofs.KeyLemmas.{same}
use Rattle.local_ckpt.specs.Events.{Abort, Commit, Complete, Event, Prepare, Step, changed, left_by}
use Rattle.local_ckpt.specs.Orderly.{image_in, prepared_in}
use Rattle.local_ckpt.proofs.RedoLemmas.{get-with_image}
use Rattle.key_laws.specs.Placed.{IsPlaced}
use Rattle.key_laws.specs.Records.{AreOnce, as_committed, committed_row, edited, found, if_committed}
use Rattle.key_laws.specs.Records.{stored, unless_committed}
use Rattle.key_laws.specs.Replica.{Cell, aborting, cell_at, committing, completing, storing}
use Rattle.key_laws.proofs.CellsAt.{cell-aborted, cell-committed, cell-completed, cell-storing}
use Rattle.key_laws.proofs.EpochLemmas.{record_in_cell, without}
use Rattle.key_laws.proofs.RecordLemmas.{KeepsTx, committed_keeps, found-edited, found-stored, if_keeps, unless_keeps}
use Rattle.commit_laws.proofs.records.Moves.{found_own, now_by}

-- the cell of a key behind an event
abbrev pub cell_behind : List ℕ → Event → Cell → Cell
cell_behind key (Prepare tx fragment own image) c = if same_key own key then storing c tx own image false else c
cell_behind key (Commit tx own epoch) c = if same_key own key then committing c tx else c
cell_behind key (Abort tx own) c = if same_key own key then aborting c tx else c
cell_behind key (Complete tx own) c = if same_key own key then completing c tx else c
cell_behind key Step c = c

pub cell_changed : (event : Event) (s : RowsState) → IsPlaced s → (key : List ℕ)
    → cell_at key (changed event s) ≡ cell_behind key event (cell_at key s)
cell_changed (Prepare tx fragment own image) s is key = cell-storing s tx own image key
cell_changed (Commit tx own epoch) s is key = cell-committed s is tx own epoch key
cell_changed (Abort tx own) s is key = cell-aborted s is tx own key
cell_changed (Complete tx own) s is key = cell-completed s is tx own key
cell_changed Step s is key = refl

-- nothing comes to be committed
abbrev pub NoneIsNew : Cell → Cell → Type 0
NoneIsNew c now =
    (v : TxId) → state_by (found v now.pending) ≡ Some true → state_by (found v c.pending) ≡ Some true

-- What an event makes of the cell of a key, and of the row beside it that takes what is committed up to an epoch:
-- nothing is committed of the key, or something that was prepared.
pub data Goes (epoch : ℕ) (key : List ℕ) (event : Option Event) (c now : Cell) (own own_now : Option (List ℕ)) : Type 0
  where
    still : own_now ≡ own → now.row ≡ c.row → NoneIsNew c now → Goes epoch key event c now own own_now
    commits : (tx : TxId) (at : ℕ) → event ≡ Some (Commit tx key at) → (r : PendingRecord)
        → found tx c.pending ≡ Some r → r.committed ≡ false → now ≡ committing c tx
        → own_now ≡ (if nat_le at epoch then r.image else own) → Goes epoch key event c now own own_now

-- an edit by which nothing comes to be committed
edit_new : (f : PendingRecord → Option PendingRecord) → KeepsTx f
    → ((r : PendingRecord) → state_by (f r) ≡ Some true → r.committed ≡ true) → (tx : TxId) (xs : List PendingRecord)
    → AreOnce xs → (v : TxId) → state_by (found v (edited f tx xs)) ≡ Some true → state_by (found v xs) ≡ Some true
edit_new f keeps own tx xs once v is = by (same_tx tx v) refl
  where
    here : (o : Option PendingRecord) → state_by (now_by f o) ≡ Some true → state_by o ≡ Some true
    here None is = is
    here (Some r) is = ap (λ b. Some b) (own r is)

    by : (b : Bool) → same_tx tx v ≡ b → state_by (found v xs) ≡ Some true
    by true e =
        here (found v xs)
        (sym (ap state_by (ap (λ t. found v (edited f t xs)) (same_tx-is tx v e) ∙ found_own f keeps v xs once)) ∙ is)
    by false e = sym (ap state_by (found-edited f keeps tx v xs e)) ∙ is

if_done : (r : PendingRecord) → state_by (if_committed r) ≡ Some true → r.committed ≡ true
if_done r is = by r.committed refl is
  where
    by : (b : Bool) → r.committed ≡ b → state_by (if b then Some r else None) ≡ Some true → r.committed ≡ true
    by true e is = e
    by false e is = absurd cc

unless_done : (r : PendingRecord) → state_by (unless_committed r) ≡ Some true → r.committed ≡ true
unless_done r is = by r.committed refl is
  where
    by : (b : Bool) → r.committed ≡ b → state_by (if b then None else Some r) ≡ Some true → r.committed ≡ true
    by true e is = e
    by false e is = cc

stored_new : (r : PendingRecord) (xs : List PendingRecord) → r.committed ≡ false → (v : TxId)
    → state_by (found v (stored r xs)) ≡ Some true → state_by (found v xs) ≡ Some true
stored_new r xs begun v is = by (same_tx r.tx v) (sym (ap state_by (found-stored v r xs)) ∙ is)
  where
    by : (b : Bool) → state_by (if b then Some r else found v xs) ≡ Some true → state_by (found v xs) ≡ Some true
    by true is = absurd (let both : Some false ≡ Some true = sym (ap (λ b. Some b) begun) ∙ is in cc)
    by false is = is

-- what a transaction has prepared is told by the cell
pub image_here : (s : RowsState) (tx : TxId) (key : List ℕ)
    → image_in s tx key ≡ prepared_in (found tx (cell_at key s).pending)
image_here s tx key =
    ap prepared_in (sym (record_of-first s tx key)) ∙ by (record_of s tx key)
    ∙ ap prepared_in (record_in_cell s tx key)
  where
    by : (o : Option PendingRecord) → prepared_in o ≡ prepared_in (without o)
    by None = refl
    by (Some r) = refl

-- a transaction that has nothing prepared commits nothing
none_prepared : (tx : TxId) (c : Cell) → AreOnce c.pending → prepared_in (found tx c.pending) ≡ None
    → NoneIsNew c (committing c tx)
none_prepared tx c once none v is = by (same_tx tx v) refl
  where
    here : (o : Option PendingRecord) → prepared_in o ≡ None → state_by (now_by as_committed o) ≡ Some true
        → state_by o ≡ Some true
    here None none is = is
    here (Some r) none is = if_so r.committed refl none
      where
        if_so : (b : Bool) → r.committed ≡ b → (if b then None else Some r.image) ≡ None → Some r.committed ≡ Some true
        if_so true e none = ap (λ b. Some b) e
        if_so false e none = absurd cc

    by : (b : Bool) → same_tx tx v ≡ b → state_by (found v c.pending) ≡ Some true
    by true e =
        here (found v c.pending) (ap (λ t. prepared_in (found t c.pending)) (sym (same_tx-is tx v e)) ∙ none)
        (sym (ap state_by (ap (λ t. found v (edited as_committed t c.pending)) (same_tx-is tx v e)
        ∙ found_own as_committed committed_keeps v c.pending once)) ∙ is)
    by false e = sym (ap state_by (found-edited as_committed committed_keeps tx v c.pending e)) ∙ is

unmoved : (row : Option (List ℕ)) (o : Option PendingRecord) → prepared_in o ≡ None → committed_row row o ≡ row
unmoved row None none = refl
unmoved row (Some r) none = by r.committed refl none
  where
    by : (b : Bool) → r.committed ≡ b → (if b then None else Some r.image) ≡ None → (if b then row else r.image) ≡ row
    by true e none = refl
    by false e none = absurd cc

module _ (epoch : ℕ) (key : List ℕ) (s : RowsState) (placed : IsPlaced s) (once : AreOnce (cell_at key s).pending)
    (before : Rows) where
  abbrev c : Cell
  c = cell_at key s

  abbrev own : Option (List ℕ)
  own = map.get before key

  abbrev Behind : Event → Type 0
  Behind event =
      Goes epoch key (Some event) (cell_at key s) (cell_at key (changed event s)) (map.get before key)
      (map.get (left_by epoch event s before) key)

  -- an event of this key that commits nothing, or of another one
  quiet : (event : Event) (b : Bool) (now : Cell) → cell_at key (changed event s) ≡ (if b then now else c)
      → map.get (left_by epoch event s before) key ≡ own → now.row ≡ c.row → NoneIsNew c now → Behind event
  quiet event true now is same row none =
      still same (ap (λ (d : Cell). d.row) is ∙ row) (subst (NoneIsNew c) (sym is) none)
  quiet event false now is same row none =
      still same (ap (λ (d : Cell). d.row) is) (subst (NoneIsNew c) (sym is) (λ v done. done))

  -- a commit of another key
  elsewhere : (tx : TxId) (at : ℕ) (other : List ℕ) → same_key other key ≡ false → Behind (Commit tx other at)
  elsewhere tx at other off = still (by (image_in s tx other)) (ap (λ (d : Cell). d.row) is)
      (subst (NoneIsNew c) (sym is) (λ v done. done))
    where
      is : cell_at key (changed (Commit tx other at) s) ≡ c
      is = cell_changed (Commit tx other at) s placed key ∙ ap (λ b. if b then committing c tx else c) off

      by : (o : Option (Option (List ℕ)))
          → map.get (applied epoch (redo.Commit tx at other) o before) key ≡ own
      by None = refl
      by (Some image) = if_low (nat_le at epoch)
        where
          if_low : (b : Bool) → map.get (if b then with_image before other image else before) key ≡ own
          if_low true =
              get-with_image before other image key
              ∙ ap (λ b. if b then image else own) (same_key-swap key other ∙ off)
          if_low false = refl

  -- and of this one
  here : (tx : TxId) (at : ℕ) → Behind (Commit tx key at)
  here tx at = by (found tx c.pending) refl
    where
      now_is : cell_at key (changed (Commit tx key at) s) ≡ committing c tx
      now_is =
          cell_changed (Commit tx key at) s placed key ∙ ap (λ b. if b then committing c tx else c) (same_key-self key)

      nothing : (o : Option PendingRecord) → found tx c.pending ≡ o → prepared_in o ≡ None → Behind (Commit tx key at)
      nothing o is none =
          still
          (ap (λ image. map.get (applied epoch (redo.Commit tx at key) image before) key)
          (image_here s tx key ∙ ap prepared_in is ∙ none))
          (ap (λ (d : Cell). d.row) now_is ∙ unmoved c.row (found tx c.pending) (ap prepared_in is ∙ none))
          (subst (NoneIsNew c) (sym now_is) (none_prepared tx c once (ap prepared_in is ∙ none)))

      low : (image : Option (List ℕ)) (b : Bool)
          → map.get (if b then with_image before key image else before) key ≡ (if b then image else own)
      low image true =
          get-with_image before key image key ∙ ap (λ b. if b then image else own) (same_key-self key)
      low image false = refl

      by : (o : Option PendingRecord) → found tx c.pending ≡ o → Behind (Commit tx key at)
      by None is = nothing None is refl
      by (Some r) is = if_done r.committed refl
        where
          if_done : (b : Bool) → r.committed ≡ b → Behind (Commit tx key at)
          if_done true e = nothing (Some r) is (ap (λ b. if b then None else Some r.image) e)
          if_done false e =
              commits tx at refl r is e now_is
              (ap (λ image. map.get (applied epoch (redo.Commit tx at key) image before) key)
              (image_here s tx key ∙ ap prepared_in is ∙ ap (λ b. if b then None else Some r.image) e)
              ∙ low r.image (nat_le at epoch))

  pub event_goes : (event : Event) → Goes epoch key (Some event) (cell_at key s) (cell_at key (changed event s))
      (map.get before key) (map.get (left_by epoch event s before) key)
  event_goes (Prepare tx fragment other image) =
      quiet (Prepare tx fragment other image) (same_key other key) (storing c tx other image false)
      (cell_changed (Prepare tx fragment other image) s placed key) refl refl
      (stored_new (rows.prepared tx other image) c.pending refl)
  event_goes (Commit tx other at) = by (same_key other key) refl
    where
      by : (b : Bool) → same_key other key ≡ b → Behind (Commit tx other at)
      by true e = subst (λ k. Behind (Commit tx k at)) (sym (same other key e)) (here tx at)
      by false e = elsewhere tx at other e
  event_goes (Abort tx other) =
      quiet (Abort tx other) (same_key other key) (aborting c tx) (cell_changed (Abort tx other) s placed key) refl refl
      (edit_new if_committed if_keeps if_done tx c.pending once)
  event_goes (Complete tx other) =
      quiet (Complete tx other) (same_key other key) (completing c tx) (cell_changed (Complete tx other) s placed key)
      refl refl (edit_new unless_committed unless_keeps unless_done tx c.pending once)
  event_goes Step = still refl refl (λ v done. done)
