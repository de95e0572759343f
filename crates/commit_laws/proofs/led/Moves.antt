-- What becomes of the row and the records of a key that is tidy at a replica.
use Rattle.std.proofs.Common.{◌≡◌, ◌⊎◌, ℕ, Bool, true, false, not, ◌&&◌, ◌||◌, List, [], ◌∷◌, refl, sym, ap, ◌∙◌, subst}
use Rattle.std.proofs.Common.{inl, inr}
use Rattle.std.specs.Prelude.{if◌then◌else◌, Option, None, Some}
use Rattle.std.specs.List.{list_any}
use Rattle.std.proofs.lemmas.Bool.{and_left, and_right, or_from, or_parts, or_right, true≢false}
use Rattle.run_theory.specs.Lists.{Each}
use Rattle.run_theory.proofs.Pasts.{each_map}
use Rattle.row_locks.specs.declared.claim.Holder.{Holder}
use Rattle.row_locks.specs.declared.mode.Mode.TheVariants.{Exclusive}
use Rattle.row_locks.specs.Holders.{holds_enough}
use Rattle.sig_core.proofs.TxLemmas.{same_tx-is, same_tx-swap}
use Rattle.sig_core.specs.declared.member.TxId.{TxId}
use Rattle.sig_core.specs.declared.rows.PendingRecord.{PendingRecord}
use Rattle.sig_core.specs.Rows as rows
use Rattle.sig_core.specs.Same.{same_tx}
use Rattle.key_laws.proofs.BackupMoves.{edited_none, edited_same}
use Rattle.key_laws.proofs.PrimaryGood.{still_owned}
use Rattle.key_laws.specs.Backup.{Backup, IsLedUnlessSpoilt, is_spoilt, kept_of}
use Rattle.key_laws.specs.Primary.{HasPrepared, HoldOn, IsOwned}
use Rattle.key_laws.specs.PrimaryLaws.{nobody_gone}
use Rattle.key_laws.specs.Records.{AreOnce, as_committed, committed, committed_row, edited, found, if_committed}
use Rattle.key_laws.specs.Records.{kept_row, put_back, stored, unless_committed}
use Rattle.key_laws.proofs.Holding.{holds_so, only_holder}
use Rattle.key_laws.proofs.PrimaryValue.{all_committed}
use Rattle.key_laws.proofs.RecordLemmas.{OnlyOf, committed_keeps, each-edited, each-stored, each_apart, each_both}
use Rattle.key_laws.proofs.RecordLemmas.{each_found, if_keeps, if_same, kept_row-aborted, kept_row-committed}
use Rattle.key_laws.proofs.RecordLemmas.{kept_row-completed, kept_row-one, kept_row-stored, once-edited}
use Rattle.key_laws.proofs.RecordLemmas.{once-stored, unless_keeps, unless_same}
use Rattle.commit_laws.specs.Led.{IsTidy, IsUnkept, Leads}

-- what is committed is decided
abbrev IsOver : (TxId → Bool) → PendingRecord → Type 0
IsOver decided r = r.committed ≡ true → decided r.tx ≡ true

-- all that isn't committed is of an exclusive holder
pub only_held : (decided : TxId → Bool) (b : Backup) → IsTidy decided b → (tx : TxId)
    → holds_enough tx Exclusive b.holders ≡ true → OnlyOf tx b.pending
only_held decided b tidy tx exclusive =
    each_map (IsOwned b.holders) (λ (r : PendingRecord). (r.committed ≡ true) ⊎ (r.tx ≡ tx)) b.pending one tidy.owned
  where
    one : (r : PendingRecord) → IsOwned b.holders r → (r.committed ≡ true) ⊎ (r.tx ≡ tx)
    one r (inl done) = inl done
    one r (inr is) = inr (only_holder b.holders tidy.agreed tx r.tx exclusive (holds_so r.tx Exclusive b.holders is))

pub prepared_holds : (decided : TxId → Bool) (b : Backup) → IsTidy decided b → (tx : TxId) (x : PendingRecord)
    → found tx b.pending ≡ Some x → x.committed ≡ false → holds_enough tx Exclusive b.holders ≡ true
prepared_holds decided b tidy tx x is waits = by (each_found (IsOwned b.holders) tx b.pending x tidy.owned is)
  where
    by : IsOwned b.holders x × (x.tx ≡ tx) → holds_enough tx Exclusive b.holders ≡ true
    by (inl done, own) = absurd (true≢false (sym done ∙ waits))
    by (inr held, own) = ap (λ t. holds_enough t Exclusive b.holders) (sym own) ∙ held

-- who has an image prepared has all that is prepared
pub only_prepared : (decided : TxId → Bool) (b : Backup) → IsTidy decided b → (tx : TxId) (x : PendingRecord)
    → found tx b.pending ≡ Some x → x.committed ≡ false → OnlyOf tx b.pending
only_prepared decided b tidy tx x is waits = only_held decided b tidy tx (prepared_holds decided b tidy tx x is waits)

-- and an abort too
edited_kept : (tx : TxId) (xs : List PendingRecord) (x : PendingRecord) → found tx xs ≡ Some x → x.committed ≡ true
    → edited if_committed tx xs ≡ xs
edited_kept tx [] x is done = absurd cc
edited_kept tx (r ∷ rest) x is done = by (same_tx r.tx tx) refl is (λ more. edited_kept tx rest x more done)
  where
    by : (b : Bool) → same_tx r.tx tx ≡ b → (if b then Some r else found tx rest) ≡ Some x
        → (found tx rest ≡ Some x → edited if_committed tx rest ≡ rest)
        → (if b then put_back (if_committed r) rest else r ∷ edited if_committed tx rest) ≡ r ∷ rest
    by true e is more =
        let one : r ≡ x = cc in
        let own : r.committed ≡ true = ap (λ (r : PendingRecord). r.committed) one ∙ done in
        ap (λ c. put_back (if c then Some r else None) rest) own
    by false e is more = ap (λ w. r ∷ w) (more is)

-- What isn't spoilt afterwards wasn't before: where an image is stored, or a record is committed, given up or
-- completed.
module _ (final : TxId → Bool) where
  abbrev is_clean : List PendingRecord → Type 0
  is_clean xs = list_any (is_spoilt final) xs ≡ false

  clean_both : (r : PendingRecord) (rest : List PendingRecord) → is_spoilt final r ≡ false → is_clean rest
      → is_clean (r ∷ rest)
  clean_both r rest own clean = or_from (is_spoilt final r) (list_any (is_spoilt final) rest) own clean

  clean_parts : (r : PendingRecord) (rest : List PendingRecord) → is_clean (r ∷ rest)
      → (is_spoilt final r ≡ false) × is_clean rest
  clean_parts r rest clean = or_parts (is_spoilt final r) (list_any (is_spoilt final) rest) clean

  clean_stored : (r : PendingRecord) (xs : List PendingRecord)
      → ((x : PendingRecord) → found r.tx xs ≡ Some x → x.committed ≡ false) → is_clean (stored r xs) → is_clean xs
  clean_stored r [] plain clean = refl
  clean_stored r (x ∷ rest) plain clean = by (same_tx x.tx r.tx) refl clean (clean_stored r rest)
    where
      by : (b : Bool) → same_tx x.tx r.tx ≡ b → is_clean (if b then r ∷ rest else x ∷ stored r rest)
          → (((y : PendingRecord) → found r.tx rest ≡ Some y → y.committed ≡ false) → is_clean (stored r rest)
          → is_clean rest) → is_clean (x ∷ rest)
      by true e clean more =
          clean_both x rest
          (and_left x.committed (not (final x.tx)) (plain x (ap (λ b. if b then Some x else found r.tx rest) e)))
          (clean_parts r rest clean).1
      by false e clean more =
          let parts = clean_parts x (stored r rest) clean in
          clean_both x rest parts.0
          (more (λ y is. plain y (ap (λ b. if b then Some x else found r.tx rest) e ∙ is)) parts.1)

  module _ (tx : TxId) where
    -- how an edit may leave the transaction's record
    abbrev LeftClean : (PendingRecord → Option PendingRecord) → Option PendingRecord → Type 0
    LeftClean f o =
        (r : PendingRecord) (rest : List PendingRecord) → o ≡ Some r → r.tx ≡ tx → is_clean (put_back (f r) rest)
        → is_clean (r ∷ rest)

    clean_edited : (f : PendingRecord → Option PendingRecord) (xs : List PendingRecord) → LeftClean f (found tx xs)
        → is_clean (edited f tx xs) → is_clean xs
    clean_edited f [] own clean = refl
    clean_edited f (r ∷ rest) own clean = by (same_tx r.tx tx) refl own clean (clean_edited f rest)
      where
        by : (b : Bool) → same_tx r.tx tx ≡ b → LeftClean f (if b then Some r else found tx rest)
            → is_clean (if b then put_back (f r) rest else r ∷ edited f tx rest)
            → (LeftClean f (found tx rest) → is_clean (edited f tx rest) → is_clean rest) → is_clean (r ∷ rest)
        by true e own clean more = own r rest refl (same_tx-is r.tx tx e) clean
        by false e own clean more =
            let parts = clean_parts r (edited f tx rest) clean in clean_both r rest parts.0 (more own parts.1)

    clean_committed : (xs : List PendingRecord) → is_clean (edited as_committed tx xs) → is_clean xs
    clean_committed xs clean =
        clean_edited as_committed xs
        (λ r rest is own after.
        let parts = clean_parts (committed r) rest after in
        clean_both r rest (and_right r.committed (not (final r.tx)) parts.0) parts.1)
        clean

    clean_given_up : (xs : List PendingRecord) → is_clean (edited if_committed tx xs) → is_clean xs
    clean_given_up xs clean =
        clean_edited if_committed xs (λ r rest is own after. by r rest r.committed refl after) clean
      where
        by : (r : PendingRecord) (rest : List PendingRecord) (b : Bool) → r.committed ≡ b
            → is_clean (put_back (if b then Some r else None) rest) → is_clean (r ∷ rest)
        by r rest true e after = after
        by r rest false e after = clean_both r rest (ap (λ b. b && not (final r.tx)) e) after

    clean_completed : (xs : List PendingRecord) → ((x : PendingRecord) → found tx xs ≡ Some x → final tx ≡ true)
        → is_clean (edited unless_committed tx xs) → is_clean xs
    clean_completed xs told clean =
        clean_edited unless_committed xs (λ r rest is own after. by r rest own (told r is) r.committed refl after) clean
      where
        by : (r : PendingRecord) (rest : List PendingRecord) → r.tx ≡ tx → final tx ≡ true → (b : Bool)
            → r.committed ≡ b
            → is_clean (put_back (if b then None else Some r) rest) → is_clean (r ∷ rest)
        by r rest own on true e after =
            clean_both r rest (and_right r.committed (not (final r.tx)) (ap not (ap final own ∙ on))) after
        by r rest own on false e after = after

-- more holders
pub grants_lead : (decided final : TxId → Bool) (b : Backup) (holders : List Holder) → IsTidy decided b
    → HoldOn nobody_gone b.holders holders
    → Leads decided final b (record { row = b.row; pending = b.pending; holders = holders })
grants_lead decided final b holders tidy on = record {
  tidy = record {
    once = tidy.once;
    owned =
        each_map (IsOwned b.holders) (IsOwned holders) b.pending
        (λ r is. still_owned nobody_gone b.holders holders on r refl is) tidy.owned;
    agreed = on.agreed;
    done = tidy.done;
  };
  led = λ value led. led;
}

-- an image of a transaction that holds the lock exclusive, and isn't kept
pub images_lead : (decided final : TxId → Bool) (b : Backup) (tx : TxId) (key : List ℕ) (image : Option (List ℕ))
    → IsTidy decided b → holds_enough tx Exclusive b.holders ≡ true → IsUnkept decided final b.pending tx
    → Leads decided final b
    (record { row = b.row; pending = stored (rows.prepared tx key image) b.pending; holders = b.holders })
images_lead decided final b tx key image tidy exclusive off = record {
  tidy = record {
    once = once-stored (rows.prepared tx key image) b.pending tidy.once;
    owned = each-stored (IsOwned b.holders) (rows.prepared tx key image) b.pending (inr exclusive) tidy.owned;
    agreed = tidy.agreed;
    done = each-stored (IsOver decided) (rows.prepared tx key image) b.pending (λ over. absurd cc) tidy.done;
  };
  led = λ value led clean.
      kept_row-stored (kept_of decided final) b.row (rows.prepared tx key image) b.pending off.unkept
      ∙ led (clean_stored final (rows.prepared tx key image) b.pending off.plain clean);
}

-- a commit, by which the transaction may let go of the lock
module _ (decided final : TxId → Bool) (b : Backup) (tx : TxId) (holders : List Holder) (tidy : IsTidy decided b)
    (on : HoldOn (same_tx tx) b.holders holders) where
  others_owned : (r : PendingRecord) → same_tx r.tx tx ≡ false → IsOwned b.holders r → IsOwned holders r
  others_owned r apart is = still_owned (same_tx tx) b.holders holders on r (same_tx-swap tx r.tx ∙ apart) is

  abbrev committed_here : Backup
  committed_here =
      record {
        row = committed_row b.row (found tx b.pending);
        pending = edited as_committed tx b.pending;
        holders = holders;
      }

  commits_with : Each (IsOver decided) (edited as_committed tx b.pending)
      → ((value : Option (List ℕ)) → IsLedUnlessSpoilt decided final value b
      → IsLedUnlessSpoilt decided final value committed_here)
      → Leads decided final b committed_here
  commits_with over led = record {
    tidy = record {
      once = once-edited as_committed committed_keeps tx b.pending tidy.once;
      owned = each-edited (IsOwned b.holders) (IsOwned holders) as_committed tx b.pending tidy.once others_owned
          (λ r y same edit own. inl
          (let one : committed r ≡ y = cc in sym (ap (λ (x : PendingRecord). x.committed) one)))
          tidy.owned;
      agreed = on.agreed;
      done = over;
    };
    led = led;
  }

  commit_stays : edited as_committed tx b.pending ≡ b.pending → committed_row b.row (found tx b.pending) ≡ b.row
      → Leads decided final b committed_here
  commit_stays same row =
      commits_with (subst (Each (IsOver decided)) (sym same) tidy.done)
      (λ value led clean.
      (λ i. kept_row (kept_of decided final) (row i) (same i))
      ∙ led (ap (list_any (is_spoilt final)) (sym same) ∙ clean))

  -- the commit of one that isn't kept spoils the row
  spoils_if : (x : PendingRecord) (rest : List PendingRecord) (r : PendingRecord) (b : Bool) → final tx ≡ false
      → same_tx r.tx tx ≡ b → (if b then Some r else found tx rest) ≡ Some x
      → (found tx rest ≡ Some x → list_any (is_spoilt final) (edited as_committed tx rest) ≡ true)
      → list_any (is_spoilt final) (if b then committed r ∷ rest else r ∷ edited as_committed tx rest) ≡ true
  spoils_if x rest r true off same is more =
      ap (λ c. not c || list_any (is_spoilt final) rest) (ap final (same_tx-is r.tx tx same) ∙ off)
  spoils_if x rest r false off same is more =
      or_right (is_spoilt final r) (list_any (is_spoilt final) (edited as_committed tx rest)) (more is)

  spoils : (x : PendingRecord) → final tx ≡ false → (xs : List PendingRecord) → found tx xs ≡ Some x
      → list_any (is_spoilt final) (edited as_committed tx xs) ≡ true
  spoils x off [] is = absurd cc
  spoils x off (r ∷ rest) is = spoils_if x rest r (same_tx r.tx tx) off refl is (spoils x off rest)

  commit_led : (x : PendingRecord) → found tx b.pending ≡ Some x → x.committed ≡ false → decided tx ≡ true → (c : Bool)
      → final tx ≡ c → (value : Option (List ℕ)) → IsLedUnlessSpoilt decided final value b
      → list_any (is_spoilt final) (edited as_committed tx b.pending) ≡ false
      → kept_row (kept_of decided final) x.image (edited as_committed tx b.pending) ≡ value
  commit_led x is waits told true e value led clean =
      let only = only_prepared decided b tidy tx x is waits in
      let on : kept_of decided final tx ≡ true = (λ i. told i && e i) in
      kept_row-committed (kept_of decided final) x.image (edited as_committed tx b.pending)
      (all_committed tx b.pending tidy.once only)
      ∙ sym (kept_row-one (kept_of decided final) b.row tx b.pending x only is waits on)
      ∙ led (clean_committed final tx b.pending clean)
  commit_led x is waits told false e value led clean = absurd (true≢false (sym (spoils x e b.pending is) ∙ clean))

  pub commits_lead : (HasPrepared tx b.pending → decided tx ≡ true) → Leads decided final b committed_here
  commits_lead told = by (found tx b.pending) refl
    where
      own_over : decided tx ≡ true → (r y : PendingRecord) → same_tx r.tx tx ≡ true → as_committed r ≡ Some y
          → IsOver decided r → IsOver decided y
      own_over is r y same edit over done =
          ap decided (committed_keeps r y edit ∙ same_tx-is r.tx tx same) ∙ is

      moves : (x : PendingRecord) → found tx b.pending ≡ Some x → (c : Bool) → x.committed ≡ c
          → Leads decided final b committed_here
      moves x is true done =
          commit_stays (edited_same tx b.pending x is done)
          (ap (committed_row b.row) is ∙ ap (λ c. if c then b.row else x.image) done)
      moves x is false waits =
          let now = told (record { record_is = x; there = is; prepared = waits }) in
          commits_with
          (each-edited (IsOver decided) (IsOver decided) as_committed tx b.pending tidy.once (λ r apart over. over)
          (own_over now) tidy.done)
          (λ value led clean.
          ap (λ row. kept_row (kept_of decided final) row (edited as_committed tx b.pending))
          (ap (committed_row b.row) is ∙ ap (λ c. if c then b.row else x.image) waits)
          ∙ commit_led x is waits now (final tx) refl value led clean)

      by : (o : Option PendingRecord) → found tx b.pending ≡ o → Leads decided final b committed_here
      by None is = commit_stays (edited_none as_committed tx b.pending is) (ap (committed_row b.row) is)
      by (Some x) is = moves x is x.committed refl

  over_after : (f : PendingRecord → Option PendingRecord) → ((r x : PendingRecord) → f r ≡ Some x → r ≡ x)
      → Each (IsOver decided) (edited f tx b.pending)
  over_after f same =
      each-edited (IsOver decided) (IsOver decided) f tx b.pending tidy.once (λ r apart over. over)
      (λ r x own is over. subst (IsOver decided) (same r x is) over) tidy.done

  -- a record that goes leaves those of others
  owned_dropped : (f : PendingRecord → Option PendingRecord) (xs : List PendingRecord) → AreOnce xs
      → Each (IsOwned b.holders) xs → ((r : PendingRecord) → found tx xs ≡ Some r → f r ≡ None)
      → Each (IsOwned holders) (edited f tx xs)
  owned_dropped f [] once all gone = tt
  owned_dropped f (r ∷ rest) once all gone = by (same_tx r.tx tx) refl (owned_dropped f rest once.1 all.1)
    where
      by : (c : Bool) → same_tx r.tx tx ≡ c
          → (((x : PendingRecord) → found tx rest ≡ Some x → f x ≡ None) → Each (IsOwned holders) (edited f tx rest))
          → Each (IsOwned holders) (if c then put_back (f r) rest else r ∷ edited f tx rest)
      by true e more =
          subst (λ o. Each (IsOwned holders) (put_back o rest))
          (sym (gone r (ap (λ c. if c then Some r else found tx rest) e)))
          (each_both (λ (x : PendingRecord). same_tx x.tx tx ≡ false) (IsOwned b.holders)
          (IsOwned holders) rest others_owned
          (each_apart tx rest (ap (λ t. found t rest) (sym (same_tx-is r.tx tx e)) ∙ once.0)) all.1)
      by false e more =
          (others_owned r e all.0, more (λ x is. gone x (ap (λ c. if c then Some r else found tx rest) e ∙ is)))

  -- a completion, behind the commit, of one that is kept in the end
  pub completions_lead : ((x : PendingRecord) → found tx b.pending ≡ Some x → (x.committed ≡ true) × (final tx ≡ true))
      → Leads decided final b
      (record { row = b.row; pending = edited unless_committed tx b.pending; holders = holders })
  completions_lead told = record {
    tidy = record {
      once = once-edited unless_committed unless_keeps tx b.pending tidy.once;
      owned = owned_dropped unless_committed b.pending tidy.once tidy.owned
          (λ r is. ap (λ c. if c then None else Some r) (told r is).0);
      agreed = on.agreed;
      done = over_after unless_committed unless_same;
    };
    led = λ value led clean.
        kept_row-completed (kept_of decided final) b.row tx b.pending
        ∙ led (clean_completed final tx b.pending (λ x is. (told x is).1) clean);
  }

  -- an abort, of one that isn't, if it has something to give up
  aborted_row : (HasPrepared tx b.pending → kept_of decided final tx ≡ false)
      → kept_row (kept_of decided final) b.row (edited if_committed tx b.pending)
      ≡ kept_row (kept_of decided final) b.row b.pending
  aborted_row told = by (found tx b.pending) refl
    where
      at : (x : PendingRecord) → found tx b.pending ≡ Some x → (c : Bool) → x.committed ≡ c
          → kept_row (kept_of decided final) b.row (edited if_committed tx b.pending)
          ≡ kept_row (kept_of decided final) b.row b.pending
      at x is true done =
          ap (kept_row (kept_of decided final) b.row) (edited_kept tx b.pending x is done)
      at x is false waits =
          kept_row-aborted (kept_of decided final) b.row tx b.pending
          (told (record { record_is = x; there = is; prepared = waits }))

      by : (o : Option PendingRecord) → found tx b.pending ≡ o
          → kept_row (kept_of decided final) b.row (edited if_committed tx b.pending)
          ≡ kept_row (kept_of decided final) b.row b.pending
      by None is = ap (kept_row (kept_of decided final) b.row) (edited_none if_committed tx b.pending is)
      by (Some x) is = at x is x.committed refl

  pub aborts_lead : (HasPrepared tx b.pending → kept_of decided final tx ≡ false)
      → Leads decided final b (record { row = b.row; pending = edited if_committed tx b.pending; holders = holders })
  aborts_lead off = record {
    tidy = record {
      once = once-edited if_committed if_keeps tx b.pending tidy.once;
      owned = each-edited (IsOwned b.holders) (IsOwned holders) if_committed tx b.pending tidy.once others_owned
          (λ r y same edit own. inl (stayed r y r.committed refl edit)) tidy.owned;
      agreed = on.agreed;
      done = over_after if_committed if_same;
    };
    led = λ value led clean.
        aborted_row off ∙ led (clean_given_up final tx b.pending clean);
  }
    where
      stayed : (r y : PendingRecord) (c : Bool) → r.committed ≡ c → (if c then Some r else None) ≡ Some y
          → y.committed ≡ true
      stayed r y true e is = let one : r ≡ y = cc in sym (ap (λ (x : PendingRecord). x.committed) one) ∙ e
      stayed r y false e is = absurd cc
