-- Of transactions that are decided and take effect one event at a key of a member: the row that takes what is committed
-- up to an epoch goes on to be led to a value by what they have prepared.
use Rattle.std.proofs.Common.{◌≡◌, ◌≤◌, ◌∙◌, ℕ, Bool, true, false, List, ◌∷◌, refl, sym, ap, subst}
use Rattle.std.proofs.lemmas.Bool.{leb-true, le-leb, true≢false}
use Rattle.std.specs.Prelude.{nat_le, if◌then◌else◌, Option, None, Some}
use Rattle.run_theory.proofs.Pasts.{past_less}
use Rattle.run_theory.specs.Lists.{IsIn}
use Rattle.row_locks.specs.declared.mode.Mode.TheVariants.{Exclusive}
use Rattle.row_locks.specs.Holders.{holds_enough}
use Rattle.sig_core.specs.Rows.{state_by}
use Rattle.sig_core.specs.Same.{same_tx}
use Rattle.sig_core.specs.Table.{Rows}
use Rattle.sig_core.specs.declared.member.Member.{Member}
use Rattle.sig_core.specs.declared.member.TxId.{TxId}
use Rattle.sig_core.specs.declared.rows.PendingRecord.{PendingRecord}
use Rattle.sig_core.specs.declared.signal.chain.ChainSignal.TheVariants.{Abort}
use Rattle.sig_core.proofs.TxLemmas.{same_tx-is}
use Rattle.local_ckpt.specs.Events.{Event}
use Rattle.key_laws.specs.Records.{as_committed, committed, found, if_committed, unless_committed}
use Rattle.key_laws.specs.Replica.{Cell}
use Rattle.key_laws.proofs.Holding.{holds_so, only_holder}
use Rattle.key_laws.proofs.RecordLemmas.{committed_keeps, found-edited}
use Rattle.world_core.specs.Start.{Start, made}
use Rattle.world_core.specs.Steps.{HostStep}
use Rattle.moment_laws.proofs.MomentViews.{moment_less}
use Rattle.moment_laws.specs.Moments.{IsMoment, logs_of}
use Rattle.moment_laws.specs.Places.{ldm_of}
use Rattle.commit_laws.specs.Going.{is_decided}
use Rattle.commit_laws.specs.Owed.{AbortedAreNotFinal, IsAlong}
use Rattle.commit_laws.specs.Traces.{IsReplicaOf, record_at, replica_at}
use Rattle.commit_laws.specs.Values.{is_final}
use Rattle.commit_laws.proofs.fates.AbortedFinals.{aborted_are_not_final}
use Rattle.commit_laws.proofs.fates.Committed.{decided_calm}
use Rattle.commit_laws.proofs.fates.FinalsForth.{finals_are_forth}
use Rattle.commit_laws.proofs.fates.Moves.{fates_move}
use Rattle.commit_laws.proofs.forth.All.{forth_is_known}
use Rattle.commit_laws.proofs.forth.KnownComes.{known_commit}
use Rattle.commit_laws.proofs.hosts.DecidersGo.{deciders_go_on}
use Rattle.commit_laws.proofs.led.Owed.{finals_go_forward}
use Rattle.commit_laws.proofs.led.Replicas.{moment_at}
use Rattle.commit_laws.proofs.links.TakenChains.{abort_aborts}
use Rattle.commit_laws.proofs.links.Transit.{moments_have_transit}
use Rattle.commit_laws.proofs.records.KeyGoes.{RecordGoes, is_aborted, is_committed, is_completed, key_goes}
use Rattle.commit_laws.proofs.records.KeyGoes.{record_stays}
use Rattle.commit_laws.proofs.records.Moves.{now_by}
use Rattle.commit_laws.proofs.records.Once.{rows_well}
use Rattle.commit_laws.proofs.records.Replicas.{members_full}
use Rattle.commit_laws.proofs.settled.All.{all_stand}
use Rattle.saved_laws.specs.Closings.{Commits}
use Rattle.saved_laws.proofs.rows.Own.{MomentGoes, own_row, rests, takes}

-- whoever aborts doesn't take effect
aborted_never : AbortedAreNotFinal
aborted_never = aborted_are_not_final all_stand (fates_move known_commit) moments_have_transit deciders_go_on

module _ (start : Start) (end : List HostStep) (member : Member) (key : List ℕ) (kept : TxId → Bool) where
  -- one of the transactions that are kept has this image prepared
  pub record Waits (value : Option (List ℕ)) (es : List HostStep) : Type 0 where
    pub tx : TxId
    pub is_kept : kept tx ≡ true
    pub r : PendingRecord
    pub there : record_at start (logs_of start es) member key tx ≡ Some r
    pub begun : r.committed ≡ false
    pub image_is : r.image ≡ value

  -- none of them has anything prepared
  abbrev pub NoneWaits : List HostStep → Type 0
  NoneWaits es =
      (v : TxId) → kept v ≡ true → (r : PendingRecord) → record_at start (logs_of start es) member key v ≡ Some r
      → r.committed ≡ false → ⊥

  -- So the row is led to the value: by an image that one of them has prepared, or it is the value, and none has.
  pub data IsLed (value own : Option (List ℕ)) (es : List HostStep) : Type 0 where
    by_image : Waits value es → IsLed value own es
    by_row : NoneWaits es → own ≡ value → IsLed value own es

  -- they are decided at a moment, and take effect
  pub record AreKept (es : List HostStep) : Type 0 where
    pub decided : (v : TxId) → kept v ≡ true → is_decided start (logs_of start es) v ≡ true
    pub final : (v : TxId) → kept v ≡ true → is_final start end v ≡ true

  module _ (all : ℕ → List HostStep) (e : HostStep) (es : List HostStep) (along : IsAlong start all end (e ∷ es))
      (there : IsIn member (made start)) (are : AreKept es) where
    abbrev was : TxId → Option PendingRecord
    was v = record_at start (logs_of start es) member key v

    abbrev now : TxId → Option PendingRecord
    now v = record_at start (logs_of start (e ∷ es)) member key v

    here : IsMoment start all (e ∷ es)
    here = moment_at start all end (e ∷ es) along

    before : IsMoment start all es
    before = moment_less start all e es here

    along_old : IsAlong start all end es
    along_old = record { moment = along.moment; past = past_less e along.past }

    goes : (v : TxId) → kept v ≡ true → RecordGoes start all e es here member there key v
    goes v on =
        (key_goes start all e es here member there key v
        (decided_calm start all es before v (are.decided v on)
        (finals_go_forward finals_are_forth start all end es along_old v (are.final v on)))).record_goes

    -- what is prepared was so before
    was_prepared : (v : TxId) → kept v ≡ true → (r : PendingRecord)
        → record_at start (logs_of start (e ∷ es)) member key v ≡ Some r → r.committed ≡ false
        → record_at start (logs_of start es) member key v ≡ Some r
    was_prepared v on r is begun = by (goes v on)
      where
        as_before : (o : Option PendingRecord) → was v ≡ o → now_by as_committed o ≡ Some r
            → was v ≡ Some r
        as_before None old is = absurd cc
        as_before (Some x) old is =
            absurd (let one : committed x ≡ r = cc in
            true≢false (ap (λ (y : PendingRecord). y.committed) one ∙ begun))

        unless_before : (o : Option PendingRecord) → was v ≡ o → now_by unless_committed o ≡ Some r
            → was v ≡ Some r
        unless_before None old is = absurd cc
        unless_before (Some x) old is = old ∙ same x.committed is
          where
            same : (b : Bool) → (if b then None else Some x) ≡ Some r → Some x ≡ Some r
            same true is = absurd cc
            same false is = is

        if_before : (o : Option PendingRecord) → was v ≡ o → now_by if_committed o ≡ Some r → was v ≡ Some r
        if_before None old is = absurd cc
        if_before (Some x) old is = old ∙ same x.committed is
          where
            same : (b : Bool) → (if b then Some x else None) ≡ Some r → Some x ≡ Some r
            same true is = is
            same false is = absurd cc

        by : RecordGoes start all e es here member there key v → was v ≡ Some r
        by (record_stays same) = sym same ∙ is
        by (is_committed t epoch chain at about same) = as_before (was v) refl (sym same ∙ is)
        by (is_completed t chain at about same) = unless_before (was v) refl (sym same ∙ is)
        by (is_aborted t about same) = if_before (was v) refl (sym same ∙ is)

    pub none_waits_on : NoneWaits es → NoneWaits (e ∷ es)
    none_waits_on none v on r is begun = none v on r (was_prepared v on r is begun) begun

    module _ (epoch : ℕ) (first : Rows) (value : Option (List ℕ)) (older events : List Event) where
      abbrev own : List Event → Option (List ℕ)
      own list = own_row start member there epoch first key list

      -- Where whoever is committed up to the epoch is kept, the row stays, as long as none of them has anything
      -- prepared.
      pub row_stays :
          ((v : TxId) (at : ℕ) → Commits start e es member v key at → at ≤ epoch → kept v ≡ true) → NoneWaits es
          → MomentGoes start member there epoch first key e es older events → own events ≡ own older
      row_stays low none (rests own_is row new) = own_is
      row_stays low none (takes v at c r is begun cell own_is) = by (nat_le at epoch) refl
        where
          by : (b : Bool) → nat_le at epoch ≡ b → own events ≡ own older
          by true f = absurd (none v (low v at c (leb-true at epoch f)) r is begun)
          by false f = own_is ∙ ap (λ b. if b then r.image else own older) f

      -- who has an image prepared keeps it, or makes it the row
      module _ (replica : IsReplicaOf start (logs_of start es) key member)
          (at_low : (v : TxId) → kept v ≡ true → (at : ℕ) → Commits start e es member v key at → at ≤ epoch)
          (w : Waits value es) where
        -- nobody else has one beside it
        alone : (v : TxId) (r : PendingRecord) → was v ≡ Some r → r.committed ≡ false → v ≡ w.tx
        alone v r is begun =
            only_holder (replica_at start (logs_of start es) member key).lock.holders
            ((rows_well start along.moment.cluster.nobody member there
            (logs_of start es (ldm_of start member))).orderly.each key).agreed w.tx v
            (held w.tx w.r w.there w.begun)
            (holds_so v Exclusive (replica_at start (logs_of start es) member key).lock.holders (held v r is begun))
          where
            held : (u : TxId) (x : PendingRecord) → was u ≡ Some x → x.committed ≡ false
                → holds_enough u Exclusive (replica_at start (logs_of start es) member key).lock.holders ≡ true
            held u x is begun =
                (all_stand start all es before).commits.prepared member
                (subst (IsIn member) (sym (members_full start all es before)) replica.full) key u x is begun

        committed_now : now w.tx ≡ Some (committed w.r)
            → MomentGoes start member there epoch first key e es older events → IsLed value (own events) (e ∷ es)
        committed_now is (rests own_is row new) =
            absurd (let both : Some false ≡ Some true =
            sym (ap (λ b. Some b) w.begun) ∙ sym (ap state_by w.there) ∙ new w.tx (ap state_by is) in cc)
        committed_now is (takes v at c r r_is begun cell own_is) = by (same_tx v w.tx) refl
          where
            by : (b : Bool) → same_tx v w.tx ≡ b → IsLed value (own events) (e ∷ es)
            by true f =
                let same = same_tx-is v w.tx f in
                let one : w.r ≡ r = let both : Some w.r ≡ Some r = sym w.there ∙ ap was (sym same) ∙ r_is in cc in
                by_row none
                (own_is
                ∙ ap (λ b. if b then r.image else own older)
                (le-leb at epoch (at_low w.tx w.is_kept at (subst (λ t. Commits start e es member t key at) same c)))
                ∙ ap (λ (x : PendingRecord). x.image) (sym one) ∙ w.image_is)
              where
                none : NoneWaits (e ∷ es)
                none u on x x_is x_begun =
                    let own_tx = alone u x (was_prepared u on x x_is x_begun) x_begun in
                    let both : Some true ≡ Some false =
                    sym (ap state_by is) ∙ ap (λ t. state_by (now t)) (sym own_tx) ∙ ap state_by x_is
                    ∙ ap (λ b. Some b) x_begun in
                    absurd cc
            by false f =
                absurd (let both : Some true ≡ Some false =
                sym (ap state_by is) ∙ ap (λ (d : Cell). state_by (found w.tx d.pending)) cell
                ∙ ap state_by (found-edited as_committed committed_keeps v w.tx
                (replica_at start (logs_of start es) member key).cell.pending f)
                ∙ ap state_by w.there ∙ ap (λ b. Some b) w.begun in cc)

        pub waits_on : MomentGoes start member there epoch first key e es older events
            → IsLed value (own events) (e ∷ es)
        waits_on moved = by (goes w.tx w.is_kept)
          where
            still : now w.tx ≡ Some w.r → IsLed value (own events) (e ∷ es)
            still is =
                by_image (record {
                  tx = w.tx;
                  is_kept = w.is_kept;
                  r = w.r;
                  there = is;
                  begun = w.begun;
                  image_is = w.image_is;
                })

            by : RecordGoes start all e es here member there key w.tx → IsLed value (own events) (e ∷ es)
            by (record_stays same) = still (same ∙ w.there)
            by (is_committed t at_epoch chain at about same) =
                committed_now (same ∙ ap (now_by as_committed) w.there) moved
            by (is_completed t chain at about same) =
                still (same ∙ ap (now_by unless_committed) w.there ∙ ap (λ b. if b then None else Some w.r) w.begun)
            by (is_aborted t about same) =
                absurd (true≢false (sym (are.final w.tx w.is_kept)
                ∙ aborted_never start all end es along_old key member replica w.tx
                (abort_aborts start all e es here t.now (Abort w.tx key) about forth_is_known
                (all_stand start all es before).spoken w.tx key refl)
                (record { record_is = w.r; there = w.there; prepared = w.begun })))
