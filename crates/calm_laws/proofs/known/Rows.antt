-- The rows of a node send only signals about known transactions, if what they took, who waits at them, and who holds
-- their locks is known.
use Rattle.std.proofs.Common.{◌≡◌, ℕ, Bool, true, false, List, [], ◌∷◌, refl}
use Rattle.std.specs.Prelude.{is_some, nat_lt, remove, Some}
use Rattle.run_theory.specs.Lists.{Each}
use Rattle.run_theory.proofs.EachSent.{each_get, each_removed}
use Rattle.run_theory.proofs.Pasts.{each_append}
use Rattle.sig_core.specs.declared.member.TxId.{TxId}
use Rattle.sig_core.specs.declared.signal.Body.{Body}
use Rattle.sig_core.specs.declared.signal.host.Work.TheVariants as work
use Rattle.sig_core.specs.Step.{Step}
use Rattle.sig_core.specs.Work.{work_key}
use Rattle.row_locks.specs.Rounds.{expired}
use Rattle.row_locks.specs.Tables.{kept, unwaited_at}
use Rattle.lqh_block.specs.declared.request.Request.{Request}
use Rattle.lqh_block.specs.Expire as expire
use Rattle.lqh_block.specs.Lqh.{lqh_table}
use Rattle.lqh_block.specs.Operate as operate
use Rattle.lqh_block.specs.State.{LqhState, freed_lock, go_on_if, serve_granted, storage_of, with_lock}
use Rattle.lqh_block.specs.State.{with_waiting}
use Rattle.lqh_block.specs.Storage as storage
use Rattle.lqh_block.specs.Storage.{StorageState}
use Rattle.lqh_block.specs.Work.{work_mode}
use Rattle.lqh_block.proofs.LqhForms.{ExpireForms, LqhForms, expiring, lqh_forms, perform_forms}
use Rattle.world_core.specs.Start.{Start}
use Rattle.calm_laws.specs.Known.{IsOfFirst}
use Rattle.calm_laws.proofs.known.Locks.{AreLocksOf, ages_of, ahead_of, asks_of, expired_of, releases_of}
use Rattle.calm_laws.proofs.known.Locks.{unwaits_of}
use Rattle.calm_laws.proofs.known.Signals.{AreKnown, IsKnown}

-- who has a lock, and who waits, is known
pub record AreRowsKnown (start : Start) (s : LqhState) : Type 0 where
  pub locks : AreLocksOf (IsOfFirst start) s.locks
  pub waiting : Each (λ (q : Request). IsOfFirst start q.tx) s.waiting

-- a step of rows leaves it so
pub record RowsKnow (start : Start) (step : Step LqhState) : Type 0 where
  pub state : AreRowsKnown start step.state
  pub sends : AreKnown start step.effects.sends

module _ (start : Start) where
  -- the rows go on with their own work
  grants_if : (node : ℕ) (b : Bool) → AreKnown start (go_on_if node work.Granted b)
  grants_if node true = (record { txs = tt; plain = refl }, tt)
  grants_if node false = tt

  expires_if : (node : ℕ) (b : Bool) → AreKnown start (go_on_if node work.Expired b)
  expires_if node true = (record { txs = tt; plain = refl }, tt)
  expires_if node false = tt

  -- a request of a known transaction
  performed_known : (s : StorageState) (r : Request) → IsOfFirst start r.tx
      → AreKnown start (storage.perform s r).effects.sends
  performed_known s r own =
      perform_forms (λ step. AreKnown start step.effects.sends) s r (record {
        log_full = λ used reserved need. (record { txs = (own, tt); plain = refl }, tt);
        table_full = λ rows. (record { txs = (own, tt); plain = refl }, tt);
        answers = λ a. (record { txs = (own, tt); plain = refl }, tt);
        passes = λ image next is. (record { txs = (own, tt); plain = refl }, tt);
        ends = λ image is. (record { txs = (own, tt); plain = refl }, tt);
      })

  -- one that waited
  granted_known : (s : LqhState) (at : ℕ) (r : Request) → IsOfFirst start r.tx → AreRowsKnown start s
      → RowsKnow start (operate.granted_on (with_waiting s (remove s.waiting at)) r)
  granted_known s at r own all =
      let left = with_waiting s (remove s.waiting at) in
      record {
        state = record {
          locks = all.locks;
          waiting = each_removed (λ (q : Request). IsOfFirst start q.tx) s.waiting at all.waiting;
        };
        sends =
            each_append (λ o. IsKnown start o.body) (operate.performed left r).effects.sends (operate.more_granted left)
            (performed_known (storage_of left) r own)
            (grants_if s.node (is_some (operate.first_granted left.locks left.waiting)));
      }

  -- a wait that stood too long
  expires_known : (t : LqhState) → AreRowsKnown start t → ExpireForms (λ step. RowsKnow start step) t
  expires_known t all = record {
    rests = λ is. record { state = all; sends = tt };
    none = λ tx key is none. one tx key is t.waiting all.waiting;
    some = λ tx key is at r there here. one tx key is (remove t.waiting at)
        (each_removed (λ (q : Request). IsOfFirst start q.tx) t.waiting at all.waiting);
  }
    where
      one : (tx : TxId) (key : List ℕ) → expired t.locks ≡ Some (tx, key) → (waiting : List Request)
          → Each (λ (q : Request). IsOfFirst start q.tx) waiting
          → RowsKnow start (expiring t tx key (unwaited_at t.locks key tx) waiting)
      one tx key is waiting left =
          let served = unwaited_at t.locks key tx in
          record {
            state = record { locks = unwaits_of (IsOfFirst start) t.locks key tx all.locks; waiting = left };
            sends = (
              record { txs = (expired_of (IsOfFirst start) t.locks tx key all.locks is, tt); plain = refl },
              each_append (λ o. IsKnown start o.body) (serve_granted t.node served)
                  (expire.more_expired (with_lock t key served)) (grants_if t.node (nat_lt 0 served.granted))
                  (expires_if t.node (is_some (expired (with_lock t key served).locks))),
            );
          }

  module _ (s : LqhState) (all : AreRowsKnown start s) where
    freed : (tx : TxId) (key : List ℕ) → AreKnown start (serve_granted s.node (freed_lock s tx key))
    freed tx key = grants_if s.node (nat_lt 0 (freed_lock s tx key).granted)

    let_go : (tx : TxId) (key : List ℕ) → AreLocksOf (IsOfFirst start) (kept s.locks key (freed_lock s tx key).lock)
    let_go tx key = releases_of (IsOfFirst start) s.locks key tx all.locks

    known_forms : LqhForms (λ body step. IsKnown start body → RowsKnow start step) s
    known_forms = record {
      asks = λ r. record {
        granted = λ is own. record {
          state = record {
            locks = asks_of (IsOfFirst start) s.locks (work_key r.work) r.tx (work_mode r.work) own.txs.0 all.locks;
            waiting = all.waiting;
          };
          sends = performed_known (storage_of s) r own.txs.0;
        };
        queued = λ ahead is own. record {
          state = record {
            locks = asks_of (IsOfFirst start) s.locks (work_key r.work) r.tx (work_mode r.work) own.txs.0 all.locks;
            waiting = each_append (λ (q : Request). IsOfFirst start q.tx) s.waiting (r ∷ []) all.waiting
                (own.txs.0, tt);
          };
          sends = tt;
        };
      };
      grants = λ at. record {
        none = λ is own. record { state = all; sends = tt };
        some = λ place r is here own.
            granted_known s place r
            (each_get (λ (q : Request). IsOfFirst start q.tx) s.waiting place r all.waiting here) all;
      };
      commits = λ tx key epoch chain at. record {
        last = λ had st markers applies first own. record {
          state = record { locks = let_go tx key; waiting = all.waiting };
          sends = (record { txs = (own.txs.0, tt); plain = refl }, freed tx key);
        };
        passes = λ had st markers applies first own. record {
          state = record { locks = all.locks; waiting = all.waiting };
          sends = (record { txs = (own.txs.0, tt); plain = refl }, tt);
        };
      };
      completes = λ tx key chain at. record {
        last = λ first own. record {
          state = record { locks = let_go tx key; waiting = all.waiting };
          sends = (record { txs = (own.txs.0, tt); plain = refl }, freed tx key);
        };
        passes = λ first own. record {
          state = record { locks = let_go tx key; waiting = all.waiting };
          sends = (record { txs = (own.txs.0, tt); plain = refl }, freed tx key);
        };
      };
      aborts = λ tx key. record {
        none = λ had st gives none own. record {
          state = record { locks = let_go tx key; waiting = all.waiting };
          sends = (record { txs = (own.txs.0, tt); plain = refl }, freed tx key);
        };
        some = λ had st gives at r there here own. record {
          state = record {
            locks = let_go tx key;
            waiting = each_removed (λ (q : Request). IsOfFirst start q.tx) s.waiting at all.waiting;
          };
          sends = (
            record { txs = (own.txs.0, tt); plain = refl },
            (record { txs = (own.txs.0, tt); plain = refl }, freed tx key),
          );
        };
      };
      acknowledges = λ tx markers own. record {
        state = record { locks = all.locks; waiting = all.waiting };
        sends = tt;
      };
      waits = λ tx key. record {
        none = λ is own. record { state = all; sends = tt };
        some = λ ahead is own. record {
          state = all;
          sends = (
            record {
              txs = (own.txs.0, (ahead_of (IsOfFirst start) s.locks key tx ahead own.txs.0 all.locks is, tt));
              plain = refl;
            },
            tt,
          );
        };
      };
      dumps = λ at rows next own. record { state = all; sends = (record { txs = tt; plain = refl }, tt) };
      ages = record {
        rests = λ is own. aged_forms.rests is;
        none = λ tx key is none own. aged_forms.none tx key is none;
        some = λ tx key is at r there here own. aged_forms.some tx key is at r there here;
      };
      expires = λ at. record {
        rests = λ is own. (expires_known s all).rests is;
        none = λ tx key is none own. (expires_known s all).none tx key is none;
        some = λ tx key is place r there here own. (expires_known s all).some tx key is place r there here;
      };
      rests = λ body is own. record { state = all; sends = tt };
    }
      where
        aged_forms : ExpireForms (λ step. RowsKnow start step) (expire.aged s)
        aged_forms =
            expires_known (expire.aged s)
            (record { locks = ages_of (IsOfFirst start) s.locks all.locks; waiting = all.waiting })

  -- whatever the rows take
  pub rows_known : (s : LqhState) (body : Body) → IsKnown start body → AreRowsKnown start s
      → RowsKnow start (lqh_table s body)
  rows_known s body own all =
      lqh_forms (λ taken step. IsKnown start taken → RowsKnow start step) s (known_forms s all) body own
