-- Rows ask others on the chain well for what they were asked well for.
use Rattle.std.proofs.Common.{◌≡◌, ℕ, Bool, true, false, List, [], ◌∷◌, map, refl, sym, ap, subst, nat_lt}
use Rattle.std.specs.Prelude.{◌+◌, IfSome, is_some, Option, None, Some, slice_get, remove}
use Rattle.run_theory.specs.Lists.{Each}
use Rattle.run_theory.proofs.EachSent.{each_get, each_removed}
use Rattle.run_theory.proofs.Pasts.{each_append}
use Rattle.sig_core.specs.declared.member.Member.{Member}
use Rattle.sig_core.specs.declared.member.TxId.{TxId}
use Rattle.sig_core.specs.declared.op.Answer.{Answer}
use Rattle.sig_core.specs.declared.op.Answer.TheVariants as answer
use Rattle.sig_core.specs.declared.op.Op.{Op}
use Rattle.sig_core.specs.declared.outs.Outgoing.{Outgoing}
use Rattle.sig_core.specs.declared.rows.PendingRecord.{PendingRecord}
use Rattle.sig_core.specs.declared.signal.Body.{Body}
use Rattle.sig_core.specs.declared.signal.Body.TheVariants.{Host}
use Rattle.sig_core.specs.declared.signal.host.HostSignal.TheVariants.{Continue}
use Rattle.sig_core.specs.declared.signal.Signal.{Signal}
use Rattle.sig_core.specs.declared.signal.chain.RowWork.{RowWork}
use Rattle.sig_core.specs.declared.signal.chain.RowWork.TheVariants.{Operate, Store}
use Rattle.sig_core.specs.declared.signal.host.Work.{Work}
use Rattle.sig_core.specs.declared.signal.host.Work.TheVariants as work
use Rattle.sig_core.specs.declared.view.View.{View}
use Rattle.sig_core.specs.Op.{answer_to, image_of, key_of}
use Rattle.sig_core.specs.Rows.{is_full, seen}
use Rattle.sig_core.specs.Step.{Step}
use Rattle.sig_core.specs.Work.{work_image, work_key}
use Rattle.row_locks.specs.Rounds.{expired}
use Rattle.row_locks.specs.Tables.{unwaited_at}
use Rattle.lqh_block.specs.declared.request.Request.{Request}
use Rattle.lqh_block.specs.Expire as expire
use Rattle.lqh_block.specs.Lqh.{lqh_row, lqh_table}
use Rattle.lqh_block.specs.Operate as operate
use Rattle.lqh_block.specs.State.{LqhState, freed_lock, go_on_if, storage_of, with_lock, with_markers}
use Rattle.lqh_block.specs.State.{with_storage, with_waiting}
use Rattle.lqh_block.specs.Storage as storage
use Rattle.lqh_block.specs.Storage.{StorageState}
use Rattle.lqh_block.proofs.LqhForms.{ExpireForms, LqhForms, expiring, lqh_forms}
use Rattle.lqh_views.specs.Address.{addressed}
use Rattle.lqh_views.specs.Replica.{replica_row}
use Rattle.lqh_views.specs.Report.{told_record_if}
use Rattle.lqh_views.specs.State.{ReplicaState}
use Rattle.lqh_views.proofs.AddressLemmas.{same-body}
use Rattle.lqh_views.proofs.Walk.{replica_outcomes}
use Rattle.redo_format.specs.Records.{IsKey, IsValue}
use Rattle.journal_laws.proofs.events.Writable.{IsWork}
use Rattle.journal_laws.proofs.asked.WellAsked.{AsksWell, FitsTx, IsWellAsked}

-- the request is of a transaction whose number can be written, and of such work
abbrev pub IsWellWaiting : Request → Type 0
IsWellWaiting r = FitsTx r.tx × IsWork r.work

abbrev pub RowsWell : LqhState → Type 0
RowsWell s = Each IsWellWaiting s.waiting

-- all that waits behind a step was asked well, and so is what it asks
abbrev Goes : Step LqhState → Type 0
Goes step = RowsWell step.state × Each AsksWell step.effects.sends

-- a request that is performed
module _ (s : StorageState) (r : Request) (own : IsWellWaiting r) where
  passes : (key : List ℕ) (image : Option (List ℕ)) → work_key r.work ≡ key → work_image r.work ≡ image
      → (next : Option Member) → AsksWell (storage.passed_to r.tx key image r.chain r.at next)
  passes key image key_is image_is None = tt
  passes key image key_is image_is (Some next) =
      (own.0, (subst IsKey key_is own.1.0, subst (λ image. IfSome image IsValue) image_is own.1.1))

  stores : (key : List ℕ) (image : Option (List ℕ)) → work_key r.work ≡ key → work_image r.work ≡ image
      → Each AsksWell (storage.store_row s r.tx key image r.chain r.at).effects.sends
  unfolding storage.store_row
  stores key image key_is image_is =
      by (storage.is_log_full s.journal (storage.need_of r.tx key image)) (is_full s.rows key)
    where
      by : (log full : Bool) → Each AsksWell (storage.store_if s r.tx key image r.chain r.at log full).effects.sends
      by true full = (tt, tt)
      by false true = (tt, tt)
      by false false = (passes key image key_is image_is (slice_get r.chain (r.at + 1)), tt)

  operates : (op : Op) → r.work ≡ Operate op → (a : Answer)
      → Each AsksWell (storage.operate_by s r.tx op r.chain r.at a).effects.sends
  operates op is answer.Done = stores (key_of op) (image_of op) (ap work_key is) (ap work_image is)
  operates op is (answer.Found value) = (tt, tt)
  operates op is answer.Missing = (tt, tt)
  operates op is answer.E626 = (tt, tt)
  operates op is answer.E630 = (tt, tt)

  performs : Each AsksWell (storage.perform s r).effects.sends
  unfolding storage.perform
  performs = by r.work refl
    where
      by : (w : RowWork) → r.work ≡ w → Each AsksWell (storage.perform_by s r.tx r.chain r.at w).effects.sends
      by (Operate op) is = operates op is (answer_to op (seen s.rows r.tx (key_of op)))
      by (Store key image) is = stores key image (ap work_key is) (ap work_image is)

module _ (s : LqhState) (well : RowsWell s) where
  -- the block goes on with something, or doesn't
  goes_on_if : (node : ℕ) (what : Work) → IsWellAsked (Host (Continue what 0)) → (b : Bool)
      → Each AsksWell (go_on_if node what b)
  goes_on_if node what own true = (own, tt)
  goes_on_if node what own false = tt

  grants_on : (b : Bool) → Each AsksWell (go_on_if s.node work.Granted b)
  grants_on b = goes_on_if s.node work.Granted tt b

  granted : (place : ℕ) (r : Request) → slice_get s.waiting place ≡ Some r
      → Goes (operate.granted_on (with_waiting s (remove s.waiting place)) r)
  granted place r here =
      let left = with_waiting s (remove s.waiting place) in (
        each_removed IsWellWaiting s.waiting place well,
        each_append AsksWell (operate.performed left r).effects.sends (operate.more_granted left)
            (performs (storage_of left) r (each_get IsWellWaiting s.waiting place r well here))
            (grants_on (is_some (operate.first_granted left.locks left.waiting))),
      )

  -- a wait ends, also where the locks are a round older
  expires : (t : LqhState) → t.node ≡ s.node → t.waiting ≡ s.waiting → ExpireForms (λ step. Goes step) t
  expires t node waiting = record {
    rests = λ is. (all, tt);
    none = λ tx key is none. (all, one tx key t.waiting);
    some = λ tx key is at r there here. (each_removed IsWellWaiting t.waiting at all, one tx key (remove t.waiting at));
  }
    where
      all : Each IsWellWaiting t.waiting
      all = subst (Each IsWellWaiting) (sym waiting) well

      one : (tx : TxId) (key : List ℕ) (waiting : List Request)
          → Each AsksWell (expiring t tx key (unwaited_at t.locks key tx) waiting).effects.sends
      one tx key waiting =
          let served = unwaited_at t.locks key tx in (
            tt,
            each_append AsksWell (go_on_if t.node work.Granted (nat_lt 0 served.granted)) _
                (goes_on_if t.node work.Granted tt (nat_lt 0 served.granted))
                (goes_on_if t.node work.Expired tt (is_some (expired (with_lock t key served).locks))),
          )

  forms : LqhForms (λ body step. IsWellAsked body → Goes step) s
  forms = record {
    asks = λ r. record {
      granted = λ is own. (well, performs (storage_of (operate.asked_for s r)) r own);
      queued = λ ahead is own. (each_append IsWellWaiting s.waiting (r ∷ []) well (own, tt), tt);
    };
    grants = λ at. record {
      none = λ is own. (well, tt);
      some = λ place r is here own. granted place r here;
    };
    commits = λ tx key epoch members at. record {
      last = λ had st markers applies first own.
          (well, (tt, grants_on (nat_lt 0 (freed_lock (with_markers (with_storage s st) markers) tx key).granted)));
      passes = λ had st markers applies first own. (well, (tt, tt));
    };
    completes = λ tx key members at. record {
      last = λ first own. (well, (tt, grants_on (nat_lt 0 (freed_lock s tx key).granted)));
      passes = λ first own. (well, (tt, grants_on (nat_lt 0 (freed_lock s tx key).granted)));
    };
    aborts = λ tx key. record {
      none = λ had st gives none own. (well, (tt, grants_on (nat_lt 0 (freed_lock s tx key).granted)));
      some = λ had st gives at r there here own. (
        each_removed IsWellWaiting s.waiting at well,
        (tt, (tt, grants_on (nat_lt 0 (freed_lock s tx key).granted))),
      );
    };
    acknowledges = λ tx markers own. (well, tt);
    waits = λ tx key. record { none = λ is own. (well, tt); some = λ ahead is own. (well, (tt, tt)) };
    dumps = λ at rows next own. (well, (tt, tt));
    ages = record {
      rests = λ is own. (expires (expire.aged s) refl refl).rests is;
      none = λ tx key is none own. (expires (expire.aged s) refl refl).none tx key is none;
      some = λ tx key is at r there here own.
          (expires (expire.aged s) refl refl).some tx key is at r there here;
    };
    expires = λ at. record {
      rests = λ is own. (expires s refl refl).rests is;
      none = λ tx key is none own. (expires s refl refl).none tx key is none;
      some = λ tx key is place r there here own. (expires s refl refl).some tx key is place r there here;
    };
    rests = λ body is own. (well, tt);
  }

  -- whatever the rows take
  rows_go : (body : Body) → IsWellAsked body → Goes (lqh_table s body)
  rows_go body own = lqh_forms (λ body step. IsWellAsked body → Goes step) s forms body own

-- a signal says the same wherever it is addressed
all_addressed : (view : View) (sends : List Outgoing) → Each AsksWell sends
    → Each AsksWell (map (addressed view) sends)
all_addressed view [] all = tt
all_addressed view (sent ∷ sends) all =
    (subst IsWellAsked (sym (same-body view sent)) all.0, all_addressed view sends all.1)

-- whatever they take under views
pub rows_ask : (s : ReplicaState) (x : Signal) → RowsWell s.lqh → IsWellAsked x.body
    → RowsWell (replica_row s x).state.lqh × Each AsksWell (replica_row s x).effects.sends
rows_ask s x well asked =
    replica_outcomes s x (λ step. RowsWell step.state.lqh × Each AsksWell step.effects.sends) (record {
      passes = λ of_rows.
          let own = rows_go s.lqh well x.body asked in
          (own.0, all_addressed s.lqh.layout.view (lqh_row s.lqh x).effects.sends own.1);
      stales = λ of_waits stale. (well, tt);
      unasked = λ at is none. (well, tt);
      ignores = λ signal is. (well, tt);
      promises = λ proposal is. (well, (tt, tt));
      closes = λ epoch is. (well, (tt, tt));
      saves = λ epoch is. (well, (tt, tt));
      states = λ is. (well, (tt, tt));
      tells_record = λ r under_way at one last there. (well, (tells r.to one one.committed, (tt, tt)));
      tells_marker = λ r under_way at m none last there. (well, (tt, (tt, tt)));
      ends = λ r under_way none no_more. (well, (tt, tt));
    })
  where
    tells : (to : ℕ) (one : PendingRecord) (b : Bool) → AsksWell (told_record_if to one b)
    tells to one true = tt
    tells to one false = tt
