-- At an event: no replica comes to be without what is kept, records of it have the image that it leaves, and what is
-- committed, or remembered of a commit, is of a key that it wrote.
use Rattle.std.proofs.Common.{◌≡◌, ◌⊎◌, ◌∙◌, ℕ, Bool, true, false, List, [], ◌∷◌, refl, sym, ap, subst, inl, inr}
use Rattle.std.proofs.lemmas.Bool.{or_cases, true≢false}
use Rattle.std.specs.Prelude.{if◌then◌else◌, Option, None, Some}
use Rattle.std.specs.List.{list_any, slice_get}
use Rattle.run_theory.specs.Lists.{IsIn}
use Rattle.frag_map.specs.Layout.{chain_of}
use Rattle.frag_map.specs.Replicas.{is_member}
use Rattle.sig_core.specs.declared.member.Member.{Member}
use Rattle.sig_core.specs.declared.member.TxId.{TxId}
use Rattle.sig_core.specs.declared.op.Answer.{Answer}
use Rattle.sig_core.specs.declared.op.Op.{Op}
use Rattle.sig_core.specs.declared.rows.PendingRecord.{PendingRecord}
use Rattle.sig_core.specs.declared.signal.Body.TheVariants.{Chain}
use Rattle.sig_core.specs.declared.signal.chain.ChainSignal.TheVariants.{Abort}
use Rattle.key_laws.specs.OneKey.{ops_on}
use Rattle.lqh_views.specs.State.{ReplicaState}
use Rattle.key_laws.specs.Records.{as_committed, committed, found, unless_committed}
use Rattle.key_laws.specs.Replica.{at_key}
use Rattle.world_core.specs.Start.{Start, made}
use Rattle.world_core.specs.Steps.{HostStep}
use Rattle.moment_laws.specs.Moments.{IsMoment, current, logs_of}
use Rattle.moment_laws.proofs.MomentViews.{moment_less}
use Rattle.request_laws.specs.Routed.{layout_in}
use Rattle.request_laws.proofs.routes.ChainsStay.{any_in}
use Rattle.commit_laws.specs.Commits.{HasWritten, HoldsImage, IsKept, by_marker, by_record}
use Rattle.commit_laws.specs.Forth.{ForthIsKnownAlways}
use Rattle.commit_laws.specs.Going.{decided_ops, image_by, is_decided, is_written_by}
use Rattle.commit_laws.specs.Markers.{CommitsAreRemembered}
use Rattle.commit_laws.specs.Settled.{HasImageIf, IsSettledWith, row_behind}
use Rattle.commit_laws.specs.Together.{AllStand, FatesMove}
use Rattle.commit_laws.specs.Traces.{IsReplicaOf, has_marker_at, is_known, record_at, replica_at}
use Rattle.commit_laws.proofs.fates.Committed.{IsCalm}
use Rattle.commit_laws.proofs.commits.Remain.{AcknowledgedAreKnown, acknowledged_known, record_remembered}
use Rattle.commit_laws.proofs.forth.DecidedStay.{ops_same, unknown_before, written_before, written_more}
use Rattle.commit_laws.proofs.records.Images.{image_is}
use Rattle.commit_laws.proofs.fates.Decided.{DecidesNow, decides_now, kept_before, kept_calm, rows_same}
use Rattle.commit_laws.proofs.records.KeyGoes.{IsAcknowledged, KeyGoes, RecordGoes, TakesNow, is_aborted, is_committed}
use Rattle.commit_laws.proofs.records.KeyGoes.{is_completed, key_goes, record_stays}
use Rattle.commit_laws.proofs.records.Moves.{now_by}
use Rattle.commit_laws.proofs.records.Replicas.{full_in, replica_before, replica_made, self}
use Rattle.commit_laws.proofs.links.TakenChains.{abort_aborts}

-- a list with a member has a first one
record First (xs : List Member) : Type 0 where
  one : Member
  is : slice_get xs 0 ≡ Some one

first_of : (xs : List Member) (x : Member) → IsIn x xs → First xs
first_of [] x there = absurd there
first_of (y ∷ ys) x there = record { one = y; is = refl }

pub some_is : (r own : PendingRecord) → Some r ≡ Some own → r ≡ own
some_is r own is = cc

module _ (forth : ForthIsKnownAlways) (remembered : CommitsAreRemembered) (acknowledged : AcknowledgedAreKnown)
    (start : Start) (all : ℕ → List HostStep) (e : HostStep) (es : List HostStep) (moment : IsMoment start all (e ∷ es))
    (stood : AllStand start es) (moves : (tx : TxId) → FatesMove start e es tx)
    (settled : (tx : TxId) → IsKept start (logs_of start (e ∷ es)) tx → is_decided start (logs_of start es) tx ≡ false
    → (key : List ℕ) → IsSettledWith start (logs_of start es) key tx (decided_ops start (logs_of start (e ∷ es)) tx))
  where
    abbrev old : ℕ → List HostStep
    old = logs_of start es

    abbrev new : ℕ → List HostStep
    new = logs_of start (e ∷ es)

    abbrev before : IsMoment start all es
    before = moment_less start all e es moment

    -- a transaction that is decided by the event, and kept
    module _ (tx : TxId) (kept : IsKept start new tx) (isnt : is_decided start old tx ≡ false) where
      decides : DecidesNow forth start all e es moment tx
      decides = decides_now forth start all e es moment tx kept.decided isnt

      abbrev ops : List (Op × Answer)
      ops = decided_ops start new tx

      settled_on : (key : List ℕ) → IsSettledWith start old key tx ops
      settled_on key = settled tx kept isnt key

      record_same : (member : Member) → IsIn member (made start) → (key : List ℕ)
          → record_at start new member key tx ≡ record_at start old member key tx
      record_same member there key =
          ap (λ (s : ReplicaState). found tx (at_key key s.lqh).cell.pending)
          (rows_same forth start all e es moment tx decides member there)

      -- the image that is there is the one that it leaves
      image_at : (key : List ℕ) (primary : Member)
          → slice_get (chain_of (layout_in start (current start old)) key) 0 ≡ Some primary
          → HasWritten start new tx key → row_behind start old key primary ops ≡ image_by ops key
      image_at key primary first written =
          image_is (replica_at start old primary key).cell.row (ops_on key ops)
          ((settled_on key).right primary first) written

      new_held : (key : List ℕ) → HasWritten start new tx key → (member : Member) → IsReplicaOf start new key member
          → HoldsImage start new member key tx
      new_held key written member is =
          let was = replica_before start all e es moment key member is in
          let there = replica_made start all es before key member was in
          let primary = first_of (chain_of (layout_in start (current start old)) key) member was.chained in
          by there primary
          (subst (λ b. HasImageIf b (row_behind start old key primary.one ops) (record_at start old member key tx))
          written
          ((settled_on key).images primary.one primary.is member was))
        where
          by : IsIn member (made start)
              → (primary : First (chain_of (layout_in start (current start old)) key))
              → HasImageIf true (row_behind start old key primary.one ops) (record_at start old member key tx)
              → HoldsImage start new member key tx
          by there primary has =
              by_record has.0 (record_same member there key ∙ has.1.0)
              (has.1.1.1 ∙ image_at key primary.one primary.is written)

      new_records : (member : Member) → IsIn member (made start) → (key : List ℕ) (r : PendingRecord)
          → record_at start new member key tx ≡ Some r
          → HasWritten start new tx key × (r.image ≡ image_by (decided_ops start new tx) key)
      new_records member there key r is =
          by (list_any (is_member member) (current start old).full) refl
          (list_any (is_member member) (chain_of (layout_in start (current start old)) key)) refl
        where
          was_there : record_at start old member key tx ≡ Some r
          was_there = sym (record_same member there key) ∙ is

          nowhere : (IsReplicaOf start old key member → ⊥)
              → HasWritten start new tx key × (r.image ≡ image_by ops key)
          nowhere off =
              absurd (let nothing : None ≡ Some r = sym ((settled_on key).others member there off) ∙ was_there in cc)

          has : (primary : First (chain_of (layout_in start (current start old)) key)) (b : Bool)
              → is_written_by ops key ≡ b
              → HasImageIf b (row_behind start old key primary.one ops) (record_at start old member key tx)
              → HasWritten start new tx key × (r.image ≡ image_by ops key)
          has primary true written one = (
            written,
            ap (λ (x : PendingRecord). x.image) (some_is r one.0 (sym was_there ∙ one.1.0))
                ∙ (one.1.1.1 ∙ image_at key primary.one primary.is written),
          )
          has primary false written none =
              absurd (let nothing : None ≡ Some r = sym none ∙ was_there in cc)

          here : IsReplicaOf start old key member → HasWritten start new tx key × (r.image ≡ image_by ops key)
          here replica =
              let primary = first_of (chain_of (layout_in start (current start old)) key) member replica.chained in
              has primary (is_written_by ops key) refl ((settled_on key).images primary.one primary.is member replica)

          by : (f : Bool) → list_any (is_member member) (current start old).full ≡ f → (c : Bool)
              → list_any (is_member member) (chain_of (layout_in start (current start old)) key) ≡ c
              → HasWritten start new tx key × (r.image ≡ image_by ops key)
          by true full true chained = here (record {
            full = full_in (current start old).full member full;
            chained = full_in (chain_of (layout_in start (current start old)) key) member chained;
          })
          by false full c chained =
              nowhere (λ replica.
              true≢false (sym (any_in (is_member member) member (current start old).full replica.full (self member))
              ∙ full))
          by true full false chained =
              nowhere (λ replica.
              true≢false (sym (any_in (is_member member) member (chain_of (layout_in start (current start old)) key)
              replica.chained (self member)) ∙ chained))

    -- one that was decided, and kept, before
    module _ (tx : TxId) (kept : IsKept start old tx) where
      calm : IsCalm start old tx
      calm = kept_calm forth start all es before tx kept

      goes : (member : Member) (there : IsIn member (made start)) (key : List ℕ)
          → KeyGoes start all e es moment member there key tx
      goes member there key = key_goes start all e es moment member there key tx calm

      -- no abort of it is taken
      not_aborted : (member : Member) (there : IsIn member (made start)) (key : List ℕ)
          → TakesNow start all e es moment member there → e.step.taken.body ≡ Chain (Abort tx key) → ⊥
      not_aborted member there key takes about =
          kept.fate_is (abort_aborts start all e es moment takes.now (Abort tx key) about forth stood.spoken tx key
          refl)

      old_records : (member : Member) → IsIn member (made start) → (key : List ℕ) (r : PendingRecord)
          → record_at start new member key tx ≡ Some r
          → HasWritten start old tx key × (r.image ≡ image_by (decided_ops start old tx) key)
      old_records member there key r is = by (goes member there key).record_goes (record_at start old member key tx)
          refl
        where
          was : (own : PendingRecord) → record_at start old member key tx ≡ Some own → r.image ≡ own.image
              → HasWritten start old tx key × (r.image ≡ image_by (decided_ops start old tx) key)
          was own own_is same =
              let had = stood.commits.records tx kept member there key own own_is in (had.0, same ∙ had.1)

          nothing : None ≡ Some r → HasWritten start old tx key × (r.image ≡ image_by (decided_ops start old tx) key)
          nothing none = absurd cc

          dropped : (own : PendingRecord) → record_at start old member key tx ≡ Some own → (b : Bool)
              → (if b then None else Some own) ≡ Some r
              → HasWritten start old tx key × (r.image ≡ image_by (decided_ops start old tx) key)
          dropped own own_is true same = absurd cc
          dropped own own_is false same =
              was own own_is (ap (λ (x : PendingRecord). x.image) (sym (some_is own r same)))

          by : RecordGoes start all e es moment member there key tx → (o : Option PendingRecord)
              → record_at start old member key tx ≡ o
              → HasWritten start old tx key × (r.image ≡ image_by (decided_ops start old tx) key)
          by (record_stays same) o own_is = was r (sym same ∙ is) refl
          by (is_committed takes epoch chain at about now) None own_is =
              nothing (sym (now ∙ ap (now_by as_committed) own_is) ∙ is)
          by (is_committed takes epoch chain at about now) (Some own) own_is =
              was own own_is
              (ap (λ (x : PendingRecord). x.image)
              (sym (some_is (committed own) r (sym (now ∙ ap (now_by as_committed) own_is) ∙ is))))
          by (is_completed takes chain at about now) None own_is =
              nothing (sym (now ∙ ap (now_by unless_committed) own_is) ∙ is)
          by (is_completed takes chain at about now) (Some own) own_is =
              dropped own own_is own.committed (sym (now ∙ ap (now_by unless_committed) own_is) ∙ is)
          by (is_aborted takes about now) o own_is = absurd (not_aborted member there key takes about)

      -- while the client's side doesn't know of it
      module _ (unknown : is_known start old tx ≡ false) where
        marker_held : (member : Member) (there : IsIn member (made start)) (key : List ℕ)
            → has_marker_at start old member key tx ≡ true → HoldsImage start new member key tx
        marker_held member there key on = by ((goes member there key).marker_keeps on)
          where
            by : (has_marker_at start new member key tx ≡ true)
                ⊎ IsAcknowledged start all e es moment member there key tx → HoldsImage start new member key tx
            by (inl still) = by_marker still
            by (inr ack) =
                absurd (true≢false
                (sym (acknowledged_known forth remembered acknowledged start all e es moment member there key tx ack)
                ∙ unknown))

        image_stays : (key : List ℕ) → image_by (decided_ops start old tx) key ≡ image_by (decided_ops start new tx) key
        image_stays key = ap (λ ops. image_by ops key) (sym (ops_same start all e es moment tx kept.decided))

        old_held : (member : Member) (there : IsIn member (made start)) (key : List ℕ)
            → HoldsImage start old member key tx → HoldsImage start new member key tx
        old_held member there key (by_marker on) = marker_held member there key on
        old_held member there key (by_record r is image) = by (goes member there key).record_goes
          where
            still : record_at start new member key tx ≡ Some r → HoldsImage start new member key tx
            still now = by_record r now (image ∙ image_stays key)

            completed : (b : Bool) → r.committed ≡ b
                → record_at start new member key tx ≡ (if b then None else Some r) → HoldsImage start new member key tx
            completed false off now = still now
            completed true done now =
                either (or_cases (has_marker_at start old member key tx) (is_known start old tx)
                (record_remembered forth remembered acknowledged start all e es moment member there key tx
                (goes member there key) r is done))
              where
                either : (has_marker_at start old member key tx ≡ true) ⊎ (is_known start old tx ≡ true)
                    → HoldsImage start new member key tx
                either (inl on) = marker_held member there key on
                either (inr known) = absurd (true≢false (sym known ∙ unknown))

            by : RecordGoes start all e es moment member there key tx → HoldsImage start new member key tx
            by (record_stays same) = still (same ∙ is)
            by (is_committed takes epoch chain at about now) =
                by_record (committed r) (now ∙ ap (now_by as_committed) is) (image ∙ image_stays key)
            by (is_completed takes chain at about now) =
                completed r.committed refl (now ∙ ap (now_by unless_committed) is)
            by (is_aborted takes about now) = absurd (not_aborted member there key takes about)

    -- so nobody comes to be without it
    pub held_now : (tx : TxId) → IsKept start (logs_of start (e ∷ es)) tx
        → is_known start (logs_of start (e ∷ es)) tx ≡ false → (key : List ℕ)
        → HasWritten start (logs_of start (e ∷ es)) tx key → (member : Member)
        → IsReplicaOf start (logs_of start (e ∷ es)) key member
        → HoldsImage start (logs_of start (e ∷ es)) member key tx
    held_now tx kept unknown key written member is = by (is_decided start old tx) refl
      where
        by : (b : Bool) → is_decided start old tx ≡ b → HoldsImage start new member key tx
        by false isnt = new_held tx kept isnt key written member is
        by true decided =
            let was = kept_before forth start all e es moment tx (moves tx) decided kept in
            let replica = replica_before start all e es moment key member is in
            let off = unknown_before start all e es moment tx unknown in
            old_held tx was off member (replica_made start all es before key member replica) key
            (stood.commits.held tx was off key (written_before start all e es moment tx key decided written) member
            replica)

    pub records_now : (tx : TxId) → IsKept start (logs_of start (e ∷ es)) tx → (member : Member)
        → IsIn member (made start) → (key : List ℕ) (r : PendingRecord)
        → record_at start (logs_of start (e ∷ es)) member key tx ≡ Some r
        → HasWritten start (logs_of start (e ∷ es)) tx key
        × (r.image ≡ image_by (decided_ops start (logs_of start (e ∷ es)) tx) key)
    records_now tx kept member there key r is = by (is_decided start old tx) refl
      where
        by : (b : Bool) → is_decided start old tx ≡ b
            → HasWritten start new tx key × (r.image ≡ image_by (decided_ops start new tx) key)
        by false isnt = new_records tx kept isnt member there key r is
        by true decided =
            let was = kept_before forth start all e es moment tx (moves tx) decided kept in
            let had = old_records tx was member there key r is in (
              written_more start all e es moment tx key decided had.0,
              had.1 ∙ ap (λ ops. image_by ops key) (sym (ops_same start all e es moment tx decided)),
            )
