-- The events of one key at a backup.
use Rattle.std.proofs.Common.{◌≡◌, ◌⊎◌, ℕ, Bool, true, false, not, ◌&&◌, ◌||◌, List, [], ◌∷◌, refl, sym, ap, ◌∙◌, subst}
use Rattle.std.proofs.Common.{inl, inr}
use Rattle.std.specs.Prelude.{if◌then◌else◌, Option, None, Some}
use Rattle.std.specs.List.{list_any}
use Rattle.std.proofs.lemmas.Bool.{and_left, and_right, or_from, or_right}
use Rattle.run_theory.specs.Lists.{Each}
use Rattle.run_theory.proofs.Pasts.{each_map}
use Rattle.sig_core.specs.declared.member.TxId.{TxId}
use Rattle.sig_core.specs.declared.rows.PendingRecord.{PendingRecord}
use Rattle.sig_core.specs.Rows as rows
use Rattle.sig_core.specs.Same.{same_tx}
use Rattle.row_locks.specs.declared.claim.Holder.{Holder}
use Rattle.row_locks.specs.declared.mode.Mode.TheVariants.{Exclusive}
use Rattle.row_locks.specs.Holders.{holds_enough}
use Rattle.sig_core.proofs.TxLemmas.{same_tx-is, same_tx-swap}
use Rattle.key_laws.specs.Backup.{Backup, HasImage, IsLedUnlessSpoilt, IsSound, committed_at, is_spoilt, kept_of}
use Rattle.key_laws.specs.BackupLaws.{AbortsMove, CommitsMove, CompletionsMove, DecisionsMove, GrantsMove, ImagesMove}
use Rattle.key_laws.specs.BackupLaws.{Moves, UnkeptDecisionsMove}
use Rattle.key_laws.specs.Primary.{HoldOn, ended_too}
use Rattle.key_laws.specs.Records.{AreOnce, as_committed, committed, committed_row, edited, found, if_committed}
use Rattle.key_laws.specs.Records.{kept_row, put_back, unless_committed}
use Rattle.key_laws.proofs.Holding.{holds_so, only_holder}
use Rattle.sig_core.proofs.Keys.{same_tx-self}
use Rattle.key_laws.proofs.PrimaryValue.{all_committed}
use Rattle.key_laws.proofs.RecordLemmas.{KeepsTx, OnlyOf, committed_keeps, each-edited, each-stored, each_apart}
use Rattle.key_laws.proofs.RecordLemmas.{each_both, each_found, if_keeps, if_same, kept_row-aborted, kept_row-committed}
use Rattle.key_laws.proofs.RecordLemmas.{kept_row-completed, kept_row-one, kept_row-others, kept_row-stored, none_first}
use Rattle.key_laws.proofs.RecordLemmas.{once-edited, once-stored, unless_keeps, unless_same}

-- every record is of this transaction
abbrev AllOf : TxId → List PendingRecord → Type 0
AllOf tx xs = Each (λ (r : PendingRecord). r.tx ≡ tx) xs

-- who holds the lock exclusive has all the records that there are
all_of : (decided : TxId → Bool) (b : Backup) → IsSound decided b → (tx : TxId)
    → holds_enough tx Exclusive b.holders ≡ true → AllOf tx b.pending
all_of decided b sound tx exclusive =
    each_map (λ (r : PendingRecord). holds_enough r.tx Exclusive b.holders ≡ true) (λ (r : PendingRecord). r.tx ≡ tx)
    b.pending
    (λ r is. only_holder b.holders sound.agreed tx r.tx exclusive (holds_so r.tx Exclusive b.holders is)) sound.owned

-- who has a record holds the lock exclusive
found_holds : (decided : TxId → Bool) (b : Backup) → IsSound decided b → (tx : TxId) (x : PendingRecord)
    → found tx b.pending ≡ Some x → holds_enough tx Exclusive b.holders ≡ true
found_holds decided b sound tx x is =
    let own = each_found (λ (r : PendingRecord). holds_enough r.tx Exclusive b.holders ≡ true) tx b.pending x
    sound.owned is in
    ap (λ t. holds_enough t Exclusive b.holders) (sym own.1) ∙ own.0

only_from : (tx : TxId) (xs : List PendingRecord) → AllOf tx xs → OnlyOf tx xs
only_from tx xs all = each_map (λ (r : PendingRecord). r.tx ≡ tx)
    (λ (r : PendingRecord). (r.committed ≡ true) ⊎ (r.tx ≡ tx)) xs (λ r is. inr is) all

-- none is spoilt
any_none : (test : PendingRecord → Bool) (xs : List PendingRecord) → Each (λ r. test r ≡ false) xs
    → list_any test xs ≡ false
any_none test [] none = refl
any_none test (x ∷ xs) none = or_from (test x) (list_any test xs) none.0 (any_none test xs none.1)

spoilt_unlike : (final : TxId → Bool) (r : PendingRecord) → final r.tx ≡ true → is_spoilt final r ≡ false
spoilt_unlike final r is = by r.committed (final r.tx) is
  where
    by : (b c : Bool) → c ≡ true → (b && not c) ≡ false
    by true c is = ap not is
    by false c is = refl

all_final : (final : TxId → Bool) (tx : TxId) (xs : List PendingRecord) → AllOf tx xs → final tx ≡ true
    → list_any (is_spoilt final) xs ≡ false
all_final final tx xs all is = any_none (is_spoilt final) xs
    (each_map (λ (r : PendingRecord). r.tx ≡ tx) (λ r. is_spoilt final r ≡ false) xs
    (λ r own. spoilt_unlike final r (ap final own ∙ is)) all)

-- what isn't decided isn't committed here, so not spoilt
all_undecided : (decided final : TxId → Bool) (tx : TxId) (xs : List PendingRecord) → AllOf tx xs
    → Each (λ (r : PendingRecord). r.committed ≡ true → decided r.tx ≡ true) xs
    → decided tx ≡ false → list_any (is_spoilt final) xs ≡ false
all_undecided decided final tx xs all done off =
    any_none (is_spoilt final) xs
    (each_both (λ (r : PendingRecord). r.tx ≡ tx) (λ (r : PendingRecord). r.committed ≡ true → decided r.tx ≡ true)
    (λ r. is_spoilt final r ≡ false) xs (λ r own over. at r own over r.committed refl) all done)
  where
    at : (r : PendingRecord) → r.tx ≡ tx → (r.committed ≡ true → decided r.tx ≡ true) → (b : Bool) → r.committed ≡ b
        → is_spoilt final r ≡ false
    at r own over true e = absurd (let both : true ≡ false = sym (over e) ∙ (ap decided own ∙ off) in cc)
    at r own over false e = ap (λ b. b && not (final r.tx)) e

unkept : (decided final : TxId → Bool) (tx : TxId) → decided tx ≡ false → kept_of decided final tx ≡ false
unkept decided final tx off = and_left (decided tx) (final tx) off

-- an edit leaves records alone where the transaction has none
pub edited_none : (f : PendingRecord → Option PendingRecord) (tx : TxId) (xs : List PendingRecord) → found tx xs ≡ None
    → edited f tx xs ≡ xs
edited_none f tx [] none = refl
edited_none f tx (r ∷ rest) none =
    let parts = none_first tx r rest none in
    ap (λ b. if b then put_back (f r) rest else r ∷ edited f tx rest) parts.0
    ∙ ap (λ w. r ∷ w) (edited_none f tx rest parts.1)

-- a commit does where the transaction's record is committed
pub edited_same : (tx : TxId) (xs : List PendingRecord) (x : PendingRecord) → found tx xs ≡ Some x → x.committed ≡ true
    → edited as_committed tx xs ≡ xs
edited_same tx [] x is done = absurd cc
edited_same tx (r ∷ rest) x is done = by (same_tx r.tx tx) refl is (λ more. edited_same tx rest x more done)
  where
    by : (b : Bool) → same_tx r.tx tx ≡ b → (if b then Some r else found tx rest) ≡ Some x
        → (found tx rest ≡ Some x → edited as_committed tx rest ≡ rest)
        → (if b then committed r ∷ rest else r ∷ edited as_committed tx rest) ≡ r ∷ rest
    by true e is more =
        let one : r ≡ x = cc in
        let own : r.committed ≡ true = ap (λ (r : PendingRecord). r.committed) one ∙ done in
        λ i. record { tx = r.tx; key = r.key; image = r.image; committed = sym own i; epoch = r.epoch } ∷ rest
    by false e is more = ap (λ w. r ∷ w) (more is)

pub grants_move : GrantsMove
grants_move decided final b holders sound on = record {
  sound = record {
    once = sound.once;
    owned = each_map (λ (r : PendingRecord). holds_enough r.tx Exclusive b.holders ≡ true)
        (λ (r : PendingRecord). holds_enough r.tx Exclusive holders ≡ true) b.pending
        (λ r is. on.exclusive r.tx refl is) sound.owned;
    agreed = on.agreed;
    done = sound.done;
  };
  led = λ value led. led;
}

pub images_move : ImagesMove
images_move decided final b tx key image sound exclusive off = record {
  sound = record {
    once = once-stored (rows.prepared tx key image) b.pending sound.once;
    owned = each-stored (λ (r : PendingRecord). holds_enough r.tx Exclusive b.holders ≡ true)
        (rows.prepared tx key image) b.pending exclusive sound.owned;
    agreed = sound.agreed;
    done = each-stored (λ (r : PendingRecord). r.committed ≡ true → decided r.tx ≡ true) (rows.prepared tx key image)
        b.pending (λ over. absurd cc) sound.done;
  };
  led = λ value led clean.
      kept_row-stored (kept_of decided final) b.row (rows.prepared tx key image) b.pending (unkept decided final tx off)
      ∙ led (all_undecided decided final tx b.pending (all_of decided b sound tx exclusive) sound.done off);
}

pub commits_move : CommitsMove
commits_move decided final b tx sound told = by (found tx b.pending) refl
  where
    Owned : PendingRecord → Type 0
    Owned = λ r. holds_enough r.tx Exclusive b.holders ≡ true

    stays : edited as_committed tx b.pending ≡ b.pending → committed_row b.row (found tx b.pending) ≡ b.row
        → Moves decided final b (committed_at b tx)
    stays same row =
        let now : committed_at b tx ≡ b = λ i. record { row = row i; pending = same i; holders = b.holders } in
        subst (Moves decided final b) (sym now) (record { sound = sound; led = λ value led. led })

    at : (x : PendingRecord) → found tx b.pending ≡ Some x → x.committed ≡ false → (c : Bool) → final tx ≡ c
        → (value : Option (List ℕ)) → IsLedUnlessSpoilt decided final value b
        → list_any (is_spoilt final) (edited as_committed tx b.pending) ≡ false
        → kept_row (kept_of decided final) x.image (edited as_committed tx b.pending) ≡ value
    at x is waits true e value led clean =
        let all = all_of decided b sound tx (found_holds decided b sound tx x is) in
        let on : kept_of decided final tx ≡ true =
        (λ i. told (record { record_is = x; there = is; prepared = waits }) i && e i) in
        kept_row-committed (kept_of decided final) x.image (edited as_committed tx b.pending)
        (all_committed tx b.pending sound.once (only_from tx b.pending all))
        ∙ sym (kept_row-one (kept_of decided final) b.row tx b.pending x (only_from tx b.pending all) is waits on)
        ∙ led (all_final final tx b.pending all e)
    at x is waits false e value led clean = absurd (let both : true ≡ false = sym (spoils b.pending is) ∙ clean in cc)
      where
        spoils_if : (xs rest : List PendingRecord) (r : PendingRecord) (b : Bool) → same_tx r.tx tx ≡ b
            → (if b then Some r else found tx rest) ≡ Some x
            → (found tx rest ≡ Some x → list_any (is_spoilt final) (edited as_committed tx rest) ≡ true)
            → list_any (is_spoilt final) (if b then committed r ∷ rest else r ∷ edited as_committed tx rest) ≡ true
        spoils_if xs rest r true same is more =
            ap (λ c. not c || list_any (is_spoilt final) rest) (ap final (same_tx-is r.tx tx same) ∙ e)
        spoils_if xs rest r false same is more =
            or_right (is_spoilt final r) (list_any (is_spoilt final) (edited as_committed tx rest)) (more is)

        spoils : (xs : List PendingRecord) → found tx xs ≡ Some x
            → list_any (is_spoilt final) (edited as_committed tx xs) ≡ true
        spoils [] is = absurd cc
        spoils (r ∷ rest) is = spoils_if (r ∷ rest) rest r (same_tx r.tx tx) refl is (spoils rest)

    moves : (x : PendingRecord) → found tx b.pending ≡ Some x → (c : Bool) → x.committed ≡ c
        → Moves decided final b (committed_at b tx)
    moves x is true done = stays (edited_same tx b.pending x is done)
        (ap (committed_row b.row) is ∙ ap (λ c. if c then b.row else x.image) done)
    moves x is false waits = record {
      sound = record {
        once = once-edited as_committed committed_keeps tx b.pending sound.once;
        owned = each-edited Owned Owned as_committed tx b.pending sound.once (λ r apart own. own)
            (λ r y same edit own. subst (λ t. holds_enough t Exclusive b.holders ≡ true)
            (sym (committed_keeps r y edit)) own) sound.owned;
        agreed = sound.agreed;
        done = each-edited (λ (r : PendingRecord). r.committed ≡ true → decided r.tx ≡ true)
            (λ (r : PendingRecord). r.committed ≡ true → decided r.tx ≡ true) as_committed tx b.pending sound.once
            (λ r apart over. over)
            (λ r y same edit over done. ap decided (committed_keeps r y edit ∙ same_tx-is r.tx tx same)
            ∙ told (record { record_is = x; there = is; prepared = waits })) sound.done;
      };
      led = λ value led clean.
          ap (λ row. kept_row (kept_of decided final) row (edited as_committed tx b.pending))
          (ap (committed_row b.row) is ∙ ap (λ c. if c then b.row else x.image) waits)
          ∙ at x is waits (final tx) refl value led clean;
    }

    by : (o : Option PendingRecord) → found tx b.pending ≡ o → Moves decided final b (committed_at b tx)
    by None is = stays (edited_none as_committed tx b.pending is) (ap (committed_row b.row) is)
    by (Some x) is = moves x is x.committed refl

-- the end of a transaction, which lets go of the lock
module _ (decided final : TxId → Bool) (b : Backup) (tx : TxId) (f : PendingRecord → Option PendingRecord)
    (holders : List Holder) (sound : IsSound decided b) (on : HoldOn (same_tx tx) b.holders holders) where
  abbrev ended : Backup
  ended = record { row = b.row; pending = edited f tx b.pending; holders = holders }

  owned_if : (xs : List PendingRecord) → AreOnce xs
      → Each (λ (r : PendingRecord). holds_enough r.tx Exclusive b.holders ≡ true) xs
      → ((r : PendingRecord) → found tx xs ≡ Some r → f r ≡ None)
      → Each (λ (r : PendingRecord). holds_enough r.tx Exclusive holders ≡ true) (edited f tx xs)
  owned_if [] once all gone = tt
  owned_if (r ∷ rest) once all gone = by (same_tx r.tx tx) refl (λ more. owned_if rest once.1 all.1 more)
    where
      still : (x : PendingRecord) → same_tx x.tx tx ≡ false → holds_enough x.tx Exclusive b.holders ≡ true
          → holds_enough x.tx Exclusive holders ≡ true
      still x apart is = on.exclusive x.tx (same_tx-swap tx x.tx ∙ apart) is

      by : (c : Bool) → same_tx r.tx tx ≡ c
          → (((x : PendingRecord) → found tx rest ≡ Some x → f x ≡ None) → Each
          (λ (r : PendingRecord). holds_enough r.tx Exclusive holders ≡ true) (edited f tx rest))
          → Each (λ (r : PendingRecord). holds_enough r.tx Exclusive holders ≡ true)
          (if c then put_back (f r) rest else r ∷ edited f tx rest)
      by true e more =
          subst (λ o. Each (λ (r : PendingRecord). holds_enough r.tx Exclusive holders ≡ true) (put_back o rest))
          (sym (gone r (ap (λ c. if c then Some r else found tx rest) e)))
          (each_both (λ (x : PendingRecord). same_tx x.tx tx ≡ false)
          (λ (x : PendingRecord). holds_enough x.tx Exclusive b.holders ≡ true)
          (λ (x : PendingRecord). holds_enough x.tx Exclusive holders ≡ true) rest still
          (each_apart tx rest (ap (λ t. found t rest) (sym (same_tx-is r.tx tx e)) ∙ once.0)) all.1)
      by false e more = (still r e all.0, more (λ x is. gone x (ap (λ c. if c then Some r else found tx rest) e ∙ is)))

  ends_sound : KeepsTx f → ((r x : PendingRecord) → f r ≡ Some x → r ≡ x)
      → ((r : PendingRecord) → found tx b.pending ≡ Some r → f r ≡ None) → IsSound decided ended
  ends_sound keeps same gone = record {
    once = once-edited f keeps tx b.pending sound.once;
    owned = owned_if b.pending sound.once sound.owned gone;
    agreed = on.agreed;
    done = each-edited (λ (r : PendingRecord). r.committed ≡ true → decided r.tx ≡ true)
        (λ (r : PendingRecord). r.committed ≡ true → decided r.tx ≡ true) f tx b.pending sound.once
        (λ r apart over. over)
        (λ r x own is over. subst (λ (r : PendingRecord). r.committed ≡ true → decided r.tx ≡ true) (same r x is) over)
        sound.done;
  }

  -- the records were clean before where they are so after, if all of the transaction's are
  clean_before : ((r : PendingRecord) → found tx b.pending ≡ Some r → list_any (is_spoilt final) b.pending ≡ false)
      → list_any (is_spoilt final) (edited f tx b.pending) ≡ false → list_any (is_spoilt final) b.pending ≡ false
  clean_before own clean = by (found tx b.pending) refl
    where
      by : (o : Option PendingRecord) → found tx b.pending ≡ o → list_any (is_spoilt final) b.pending ≡ false
      by None is = ap (list_any (is_spoilt final)) (sym (edited_none f tx b.pending is)) ∙ clean
      by (Some r) is = own r is

pub completions_move : CompletionsMove
completions_move decided final b tx holders sound told on = record {
  sound = ends_sound decided final b tx unless_committed holders sound on unless_keeps unless_same
      (λ r is. ap (λ c. if c then None else Some r) (told r is).0);
  led = λ value led clean.
      kept_row-completed (kept_of decided final) b.row tx b.pending
      ∙ led (clean_before decided final b tx unless_committed holders sound on
      (λ r is. all_final final tx b.pending (all_of decided b sound tx (found_holds decided b sound tx r is))
      (told r is).1) clean);
}

pub aborts_move : AbortsMove
aborts_move decided final b tx holders sound off on = record {
  sound = ends_sound decided final b tx if_committed holders sound on if_keeps if_same
      (λ r is. waiting r is r.committed refl);
  led = λ value led clean.
      kept_row-aborted (kept_of decided final) b.row tx b.pending (unkept decided final tx off)
      ∙ led (clean_before decided final b tx if_committed holders sound on
      (λ r is. all_undecided decided final tx b.pending
      (all_of decided b sound tx (found_holds decided b sound tx r is)) sound.done off) clean);
}
  where
    waiting : (r : PendingRecord) → found tx b.pending ≡ Some r → (c : Bool) → r.committed ≡ c
        → (if r.committed then Some r else None) ≡ None
    waiting r is true e =
        let own = each_found (λ (r : PendingRecord). r.committed ≡ true → decided r.tx ≡ true) tx b.pending r sound.done
        is in
        absurd (let both : true ≡ false = sym (own.0 e) ∙ (ap decided own.1 ∙ off) in cc)
    waiting r is false e = ap (λ c. if c then Some r else None) e

-- one more is decided
more_done : (decided : TxId → Bool) (tx : TxId) (b : Backup) → IsSound decided b → IsSound (ended_too decided tx) b
more_done decided tx b sound = record {
  once = sound.once;
  owned = sound.owned;
  agreed = sound.agreed;
  done = each_map (λ (r : PendingRecord). r.committed ≡ true → decided r.tx ≡ true)
      (λ (r : PendingRecord). r.committed ≡ true → ended_too decided tx r.tx ≡ true) b.pending
      (λ r over is. or_right (same_tx tx r.tx) (decided r.tx) (over is)) sound.done;
}

pub decisions_move : DecisionsMove
decisions_move decided final b tx before after sound led new kept told = record {
  sound = more_done decided tx b sound;
  led = by told;
}
  where
    own : kept_of (ended_too decided tx) final tx ≡ true
    own = λ i. (same_tx-self tx i || decided tx) && kept i

    others : (v : TxId) → same_tx v tx ≡ false → kept_of (ended_too decided tx) final v ≡ kept_of decided final v
    others v apart = ap (λ c. (c || decided v) && final v) (same_tx-swap tx v ∙ apart)

    by : HasImage tx after b.pending ⊎ ((found tx b.pending ≡ None) × (after ≡ before))
        → IsLedUnlessSpoilt (ended_too decided tx) final after b
    by (inl has) clean =
        kept_row-one (kept_of (ended_too decided tx) final) b.row tx b.pending has.is_record
        (only_from tx b.pending (all_of decided b sound tx (found_holds decided b sound tx has.is_record has.there)))
        has.there has.waits own ∙ has.image_is
    by (inr none) clean = kept_row-others (kept_of decided final) (kept_of (ended_too decided tx) final) b.row tx
        b.pending others none.0 ∙ led clean ∙ sym none.1

-- the same are kept, so the row is led to the same
pub kept_row-same : (kept now : TxId → Bool) (row : Option (List ℕ)) (xs : List PendingRecord)
    → ((v : TxId) → now v ≡ kept v) → kept_row now row xs ≡ kept_row kept row xs
kept_row-same kept now row [] same = refl
kept_row-same kept now row (r ∷ rest) same =
    λ i. if not r.committed && same r.tx i then r.image else kept_row-same kept now row rest same i

pub unkept_decisions_move : UnkeptDecisionsMove
unkept_decisions_move decided final b tx value sound led off = record {
  sound = more_done decided tx b sound;
  led = λ clean. kept_row-same (kept_of decided final) (kept_of (ended_too decided tx) final) b.row b.pending same
      ∙ led clean;
}
  where
    by : (v : TxId) (c : Bool) → same_tx tx v ≡ c → ((c || decided v) && final v) ≡ (decided v && final v)
    by v true e =
        let none : final v ≡ false = ap final (sym (same_tx-is tx v e)) ∙ off in
        none ∙ sym (and_right (decided v) (final v) none)
    by v false e = refl

    same : (v : TxId) → kept_of (ended_too decided tx) final v ≡ kept_of decided final v
    same v = by v (same_tx tx v) refl
