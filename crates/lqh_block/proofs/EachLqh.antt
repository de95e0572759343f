-- What holds of each form of signal and mark of the rows of a node holds of all that a step of them sends and marks.
use Rattle.std.proofs.Common.{◌≡◌, ◌==◌, ℕ, List, ◌++◌, Bool, true, false, refl, sym, subst}
use Rattle.std.specs.Prelude.{◌+◌, ◌-◌, nat_lt, is_some, remove, Option, None, Some, slice_get}
use Rattle.run_theory.specs.Lists.{Each}
use Rattle.run_theory.proofs.Pasts.{each_append}
use Rattle.sig_core.specs.declared.mark.Mark.{Mark}
use Rattle.sig_core.specs.declared.mark.Mark.TheVariants.{Prepared, Applied, Done}
use Rattle.sig_core.specs.declared.mark.Mark.TheVariants as mark
use Rattle.sig_core.specs.declared.member.Member.{Member}
use Rattle.sig_core.specs.declared.member.TxId.{TxId}
use Rattle.sig_core.specs.declared.op.Answer.{Answer}
use Rattle.sig_core.specs.declared.op.Answer.TheVariants as answer
use Rattle.sig_core.specs.declared.outcome.AbortCause.TheVariants as cause
use Rattle.sig_core.specs.declared.outs.Outgoing.{Outgoing}
use Rattle.sig_core.specs.declared.signal.Body.{Body}
use Rattle.sig_core.specs.declared.signal.Body.TheVariants.{Client, Chain}
use Rattle.sig_core.specs.declared.signal.chain.ChainSignal.TheVariants.{LqhKeyReq, Commit, Complete, Abort, Committed}
use Rattle.sig_core.specs.declared.signal.chain.ChainSignal.TheVariants.{Completed, Aborted}
use Rattle.sig_core.specs.declared.signal.chain.RowWork.TheVariants.{Store}
use Rattle.sig_core.specs.declared.signal.client.ClientSignal.TheVariants.{LqhWaitReq, LqhWaitConf, DumpReq, DumpConf}
use Rattle.sig_core.specs.declared.signal.host.Work.TheVariants as work
use Rattle.sig_core.specs.Chain.{node_at}
use Rattle.sig_core.specs.Place.{client, coordinator_of, rows_of}
use Rattle.sig_core.specs.Rows.{record_state}
use Rattle.sig_core.specs.Step.{Step, stay, to_place}
use Rattle.sig_core.specs.Work.{work_key}
use Rattle.row_locks.specs.Rounds.{expired}
use Rattle.row_locks.specs.Rows.{Served}
use Rattle.row_locks.specs.Tables.{ahead_at, unwaited_at}
use Rattle.lqh_block.specs.Abort as abort
use Rattle.lqh_block.specs.Commit as commit
use Rattle.lqh_block.specs.declared.request.Request.{Request}
use Rattle.lqh_block.specs.Expire as expire
use Rattle.lqh_block.specs.Lqh.{lqh_table}
use Rattle.lqh_block.specs.Operate as operate
use Rattle.lqh_block.specs.State.{LqhState, freed_lock, go_on, go_on_if, serve_granted, storage_of, with_lock}
use Rattle.lqh_block.specs.State.{with_waiting}
use Rattle.lqh_block.specs.Storage as storage
use Rattle.lqh_block.specs.Storage.{StorageState}
use Rattle.lqh_block.proofs.LqhForms.{CommitForms, AbortForms, ExpireForms, LqhForms, expiring, lqh_forms}
use Rattle.lqh_block.proofs.LqhForms.{perform_forms}

-- what is sent of a request that is performed: it is refused or answered, or its image goes to the next place of its
-- chain
pub record RequestSends (P : Outgoing → Type 0) (r : Request) : Type 0 where
  pub log_full : (used reserved need : ℕ)
      → P (storage.refusal r.tx (work_key r.work) (cause.LogFull used reserved need))
  pub table_full : (rows : ℕ) → P (storage.refusal r.tx (work_key r.work) (cause.TableFull rows))
  pub answers : (a : Answer) → P (storage.confirmed r.tx (work_key r.work) a)
  pub passes : (image : Option (List ℕ)) (next : Member) → slice_get r.chain (r.at + 1) ≡ Some next
      → P (to_place (rows_of next.node) (Chain (LqhKeyReq r.tx (Store (work_key r.work) image) r.chain (r.at + 1))))

-- what the rows send from this state, at this signal: of a request that comes or that waited, to go on with their own
-- work,
-- of a commit, a completion or an abort, and to a client
pub record RowsSend (P : Outgoing → Type 0) (s : LqhState) (body : Body) : Type 0 where
  pub asked : (r : Request) → body ≡ Chain (LqhKeyReq r.tx r.work r.chain r.at) → RequestSends P r
  pub waited : (at : ℕ) (r : Request) → slice_get s.waiting at ≡ Some r → RequestSends P r
  pub grants_more : P (go_on s.node work.Granted)
  pub expires_more : P (go_on s.node work.Expired)
  pub commits_on : (tx : TxId) (key : List ℕ) (epoch : ℕ) (chain : List Member) (at : ℕ)
      → body ≡ Chain (Commit tx key epoch chain at) → (at == 0) ≡ false
      → P (to_place (rows_of (node_at chain (at - 1))) (Chain (Commit tx key epoch chain (at - 1))))
  pub committed : (tx : TxId) (key : List ℕ) (epoch : ℕ) (chain : List Member) (at : ℕ)
      → body ≡ Chain (Commit tx key epoch chain at) → (at == 0) ≡ true
      → P (to_place (coordinator_of tx) (Chain (Committed tx key)))
  pub completes_on : (tx : TxId) (key : List ℕ) (chain : List Member) (at : ℕ)
      → body ≡ Chain (Complete tx key chain at) → (at == 0) ≡ false
      → P (to_place (rows_of (node_at chain (at - 1))) (Chain (Complete tx key chain (at - 1))))
  pub completed : (tx : TxId) (key : List ℕ) (chain : List Member) (at : ℕ)
      → body ≡ Chain (Complete tx key chain at) → (at == 0) ≡ true
      → P (to_place (coordinator_of tx) (Chain (Completed tx key)))
  pub aborted : (tx : TxId) (key : List ℕ) → body ≡ Chain (Abort tx key)
      → P (to_place (coordinator_of tx) (Chain (Aborted tx key)))
  pub gives_up : (tx : TxId) (key : List ℕ) → body ≡ Chain (Abort tx key) → P (storage.refusal tx key cause.Request)
  pub times_out : (tx : TxId) (key : List ℕ) → P (storage.refusal tx key cause.Timeout)
  pub waits : (tx : TxId) (key : List ℕ) (ahead : TxId) → body ≡ Client (LqhWaitReq tx key)
      → ahead_at s.locks key tx ≡ Some ahead
      → P (to_place (coordinator_of tx) (Client (LqhWaitConf tx ahead)))
  pub dumps : (at : ℕ) (rows : List (List ℕ × List ℕ)) (next : Option ℕ) → body ≡ Client (DumpReq at)
      → P (to_place client (Client (DumpConf rows next)))

-- what the rows mark from this state, at this signal: a commit where there is a record, an abort where it was prepared
pub record RowsMark (M : Mark → Type 0) (s : LqhState) (body : Body) : Type 0 where
  pub prepared : (tx : TxId) (key : List ℕ) → M (Prepared tx key)
  pub applied : (tx : TxId) (key : List ℕ) (epoch : ℕ) (chain : List Member) (at : ℕ) (committed : Bool)
      → body ≡ Chain (Commit tx key epoch chain at)
      → (at == 0) ≡ true → record_state s.rows tx key ≡ Some committed → M (Applied tx key)
  pub completed : (tx : TxId) (key : List ℕ) (chain : List Member) (at : ℕ) → body ≡ Chain (Complete tx key chain at)
      → M (Done tx key)
  pub given_up : (tx : TxId) (key : List ℕ) → body ≡ Chain (Abort tx key) → record_state s.rows tx key ≡ Some false
      → M (Done tx key)
  pub expired : (tx : TxId) (key : List ℕ) → M (mark.Expired tx key)

-- all that a step sends, and all that it marks
pub record StepEach (P : Outgoing → Type 0) (M : Mark → Type 0) {S : Type 0} (step : Step S) : Type 0 where
  pub sends : Each P step.effects.sends
  pub marks : Each M step.effects.marks

module _ (P : Outgoing → Type 0) (M : Mark → Type 0) where
  nothing : {S : Type 0} (s : S) → StepEach P M (stay s)
  nothing s = record { sends = tt; marks = tt }

  performed : (s : StorageState) (r : Request) → RequestSends P r → ((tx : TxId) (key : List ℕ) → M (Prepared tx key))
      → StepEach P M (storage.perform s r)
  performed s r sends marks =
      perform_forms (λ step. StepEach P M step) s r (record {
        log_full = λ used reserved need. record { sends = (sends.log_full used reserved need, tt); marks = tt };
        table_full = λ rows. record { sends = (sends.table_full rows, tt); marks = tt };
        answers = λ a. record { sends = (sends.answers a, tt); marks = tt };
        passes = λ image next is. record {
          sends = (sends.passes image next is, tt);
          marks =
              (marks r.tx (work_key r.work), tt);
        };
        ends = λ image is. record {
          sends = (sends.answers answer.Done, tt);
          marks =
              (marks r.tx (work_key r.work), tt);
        };
      })

  module _ (s : LqhState) (body : Body) (sends : RowsSend P s body) (marks : RowsMark M s body) where
    grants_if : (b : Bool) → Each P (go_on_if s.node work.Granted b)
    grants_if true = (sends.grants_more, tt)
    grants_if false = tt

    expires_if : (b : Bool) → Each P (go_on_if s.node work.Expired b)
    expires_if true = (sends.expires_more, tt)
    expires_if false = tt

    -- a request that waited is performed
    granted : (at : ℕ) (r : Request) → slice_get s.waiting at ≡ Some r
        → StepEach P M (operate.granted_on (with_waiting s (remove s.waiting at)) r)
    granted at r is =
        let left = with_waiting s (remove s.waiting at) in
        let own = performed (storage_of left) r (sends.waited at r is) marks.prepared in
        record {
          sends = each_append P (operate.performed left r).effects.sends (operate.more_granted left) own.sends
              (grants_if (is_some (operate.first_granted left.locks left.waiting)));
          marks = own.marks;
        }

    commits : (tx : TxId) (key : List ℕ) (epoch : ℕ) (chain : List Member) (at : ℕ)
        → body ≡ Chain (Commit tx key epoch chain at)
        → CommitForms (λ step. StepEach P M step) s tx key epoch chain at
    commits tx key epoch chain at is = record {
      last = λ had st markers applies first. record {
        sends = (sends.committed tx key epoch chain at is first, grants_if (nat_lt 0 (freed_lock s tx key).granted));
        marks = applied_marks had applies.had_is first;
      };
      passes = λ had st markers applies first.
          record { sends = (sends.commits_on tx key epoch chain at is first, tt); marks = tt };
    }
      where
        applied_marks : (had : Option Bool) → record_state s.rows tx key ≡ had → (at == 0) ≡ true
            → Each M (commit.applied_marks tx key had)
        applied_marks None there first = tt
        applied_marks (Some committed) there first = (marks.applied tx key epoch chain at committed is first there, tt)

    aborts : (tx : TxId) (key : List ℕ) → body ≡ Chain (Abort tx key) → AbortForms (λ step. StepEach P M step) s tx key
    aborts tx key is = record {
      none = λ had st gives none. record {
        sends = (sends.aborted tx key is, more);
        marks =
            given_marks had gives.had_is;
      };
      some = λ had st gives at r there here. record {
        sends = (sends.gives_up tx key is, (sends.aborted tx key is, more));
        marks = given_marks had gives.had_is;
      };
    }
      where
        more : Each P (serve_granted s.node (freed_lock s tx key))
        more = grants_if (nat_lt 0 (freed_lock s tx key).granted)

        given_marks : (had : Option Bool) → record_state s.rows tx key ≡ had → Each M (abort.given_up_marks tx key had)
        given_marks None there = tt
        given_marks (Some true) there = tt
        given_marks (Some false) there = (marks.given_up tx key is there, tt)

    -- also where the locks are a round older
    expires : (t : LqhState) → t.node ≡ s.node → ExpireForms (λ step. StepEach P M step) t
    expires t same = record {
      rests = λ is. nothing t;
      none = λ tx key is none. one tx key t.waiting (unwaited_at t.locks key tx);
      some = λ tx key is at r there here. one tx key (remove t.waiting at) (unwaited_at t.locks key tx);
    }
      where
        one : (tx : TxId) (key : List ℕ) (waiting : List Request) (served : Served)
            → StepEach P M (expiring t tx key served waiting)
        one tx key waiting served = record {
          sends = (
            sends.times_out tx key,
            subst (λ n. Each P (serve_granted n served ++ go_on_if n work.Expired
                (is_some (expired (with_lock t key served).locks)))) (sym same)
                (each_append P (serve_granted s.node served) _ (grants_if (nat_lt 0 served.granted))
                (expires_if (is_some (expired (with_lock t key served).locks)))),
          );
          marks = (marks.expired tx key, tt);
        }

  each_forms : (s : LqhState) → LqhForms (λ body step. RowsSend P s body → RowsMark M s body → StepEach P M step) s
  each_forms s = record {
    asks = λ r. record {
      granted = λ is sends marks.
          let own = performed (storage_of s) r (sends.asked r refl) marks.prepared in
          record { sends = own.sends; marks = own.marks };
      queued = λ ahead is sends marks. nothing _;
    };
    grants = λ at. record {
      none = λ is sends marks. nothing s;
      some = λ place r is here sends marks.
          granted s _ sends marks place r here;
    };
    commits = λ tx key epoch chain at. record {
      last = λ had st markers applies first sends marks.
          (commits s _ sends marks tx key epoch chain at refl).last had st markers applies first;
      passes = λ had st markers applies first sends marks.
          (commits s _ sends marks tx key epoch chain at refl).passes had st markers applies first;
    };
    completes = λ tx key chain at. record {
      last = λ first sends marks. record {
        sends = (
          sends.completed tx key chain
              at refl first,
          grants_if s _ sends marks (nat_lt 0 (freed_lock s tx key).granted),
        );
        marks = (marks.completed tx key chain at refl, tt);
      };
      passes = λ first sends marks. record {
        sends = (
          sends.completes_on tx key chain
              at refl first,
          grants_if s _ sends marks (nat_lt 0 (freed_lock s tx key).granted),
        );
        marks = (marks.completed tx key chain at refl, tt);
      };
    };
    aborts = λ tx key. record {
      none = λ had st gives none sends marks. (aborts s _ sends marks tx key refl).none had st gives none;
      some = λ had st gives at r there here sends marks.
          (aborts s _ sends marks tx key refl).some had st gives at r there here;
    };
    acknowledges = λ tx markers sends marks. nothing _;
    waits = λ tx key. record {
      none = λ is sends marks. nothing s;
      some = λ ahead is sends marks. record { sends = (sends.waits tx key ahead refl is, tt); marks = tt };
    };
    dumps = λ at rows next sends marks. record { sends = (sends.dumps at rows next refl, tt); marks = tt };
    ages = record {
      rests = λ is sends marks. nothing _;
      none = λ tx key is none sends marks. (expires s _ sends marks (expire.aged s) refl).none tx key is none;
      some = λ tx key is at r there here sends marks.
          (expires s _ sends marks (expire.aged s) refl).some tx key is at r there here;
    };
    expires = λ at. record {
      rests = λ is sends marks. nothing s;
      none = λ tx key is none sends marks. (expires s _ sends marks s refl).none tx key is none;
      some = λ tx key is place r there here sends marks.
          (expires s _ sends marks s refl).some tx key is place r there here;
    };
    rests = λ body is sends marks. nothing s;
  }

  -- whatever the rows take
  pub lqh_each : (s : LqhState) (body : Body) → RowsSend P s body → RowsMark M s body → StepEach P M (lqh_table s body)
  lqh_each s body sends marks =
      lqh_forms (λ body step. RowsSend P s body → RowsMark M s body → StepEach P M step) s
      (each_forms s) body sends marks

request_any : (r : Request) → RequestSends (λ (o : Outgoing). Unit {0}) r
request_any r = record {
  log_full = λ used reserved need. tt;
  table_full = λ rows. tt;
  answers = λ a. tt;
  passes =
      λ image next is. tt;
}

send_any : (s : LqhState) (body : Body) → RowsSend (λ (o : Outgoing). Unit {0}) s body
send_any s body = record {
  asked = λ r is. request_any r;
  waited = λ at r is. request_any r;
  grants_more = tt;
  expires_more = tt;
  commits_on = λ tx key epoch chain at is behind. tt;
  committed = λ tx key epoch chain at is first. tt;
  completes_on = λ tx key chain at is behind. tt;
  completed = λ tx key chain at is first. tt;
  aborted = λ tx key is. tt;
  gives_up = λ tx key is. tt;
  times_out = λ tx key. tt;
  waits = λ tx key ahead is there. tt;
  dumps = λ at rows next is. tt;
}

mark_any : (s : LqhState) (body : Body) → RowsMark (λ (m : Mark). Unit {0}) s body
mark_any s body = record {
  prepared = λ tx key. tt;
  applied = λ tx key epoch chain at committed is first there. tt;
  completed = λ tx key chain at is. tt;
  given_up = λ tx key is there. tt;
  expired = λ tx key. tt;
}

-- what is sent, whatever is marked
pub lqh_sends_each : (P : Outgoing → Type 0) (s : LqhState) (body : Body) → RowsSend P s body
    → Each P (lqh_table s body).effects.sends
lqh_sends_each P s body sends = (lqh_each P (λ (m : Mark). Unit {0}) s body sends (mark_any s body)).sends

-- what is marked, whatever is sent
pub lqh_marks_each : (M : Mark → Type 0) (s : LqhState) (body : Body) → RowsMark M s body
    → Each M (lqh_table s body).effects.marks
lqh_marks_each M s body marks = (lqh_each (λ (o : Outgoing). Unit {0}) M s body (send_any s body) marks).marks
