-- At each moment the transaction of each request that waits at rows for a key holds its lock as it needs to, or waits
-- for it, and no two are of one transaction.
use Rattle.std.proofs.Common.{◌≡◌, ◌⊎◌, ◌==◌, ◌∙◌, ℕ, Bool, true, false, List, [], ◌∷◌, refl, sym, ap, subst, inl, inr}
use Rattle.std.specs.Prelude.{if◌then◌else◌, Option, None, Some}
use Rattle.run_theory.proofs.Pasts.{each_filter}
use Rattle.run_theory.specs.Lists.{Each, IsIn}
use Rattle.sig_core.specs.declared.member.Member.{Member}
use Rattle.sig_core.specs.declared.member.TxId.{TxId}
use Rattle.sig_core.specs.declared.signal.Body.{Body}
use Rattle.sig_core.specs.declared.signal.Body.TheVariants.{Chain, Epoch, Host, Membership, Takeover}
use Rattle.sig_core.specs.declared.signal.Signal.{Signal}
use Rattle.sig_core.specs.declared.signal.chain.ChainSignal.TheVariants.{Abort, Commit, Complete, LqhKeyReq}
use Rattle.sig_core.specs.declared.signal.host.HostSignal.TheVariants.{Continue, Round}
use Rattle.sig_core.specs.declared.signal.host.Work.TheVariants as work
use Rattle.sig_core.specs.declared.signal.membership.MembershipSignal.TheVariants.{FenceReq}
use Rattle.sig_core.specs.declared.signal.takeover.TakeoverSignal.TheVariants.{LqhTransReq}
use Rattle.sig_core.specs.Firsts.{first}
use Rattle.sig_core.specs.Same.{same_key, same_tx}
use Rattle.sig_core.specs.Work.{work_key}
use Rattle.sig_core.proofs.Keys.{same_tx-self}
use Rattle.row_locks.specs.Rounds.{expired}
use Rattle.lqh_block.specs.declared.request.Request.{Request}
use Rattle.lqh_block.specs.Operate.{is_granted}
use Rattle.lqh_block.specs.State.{storage_of}
use Rattle.lqh_views.specs.Replica.{is_stale, replica_row}
use Rattle.lqh_views.specs.State.{ReplicaState}
use Rattle.node_views.specs.declared.host_body.HostBody as node
use Rattle.key_laws.specs.PrimaryEvents.{NoneOf}
use Rattle.key_laws.specs.Replica.{Event, Replica, aborts, asks, asks_for, at_key, commits, completes, event_at}
use Rattle.key_laws.specs.Replica.{expires, expires_if, if_on, is_refused, rests, serves, serves_if}
use Rattle.world_core.specs.Start.{Start, made}
use Rattle.world_core.specs.Steps.{Addressed, HostStep}
use Rattle.run_laws.specs.Tokens.{is_token}
use Rattle.moment_laws.specs.Moments.{IsMoment, logs_of}
use Rattle.moment_laws.proofs.MomentHosts.{ldm_started}
use Rattle.moment_laws.proofs.MomentViews.{moment_less}
use Rattle.request_laws.specs.Blocks.{no_replica, rows_in}
use Rattle.request_laws.specs.Replicas.{event_by, event_if, event_under}
use Rattle.request_laws.specs.Waiting.{AreAttended, IsOneByOne}
use Rattle.request_laws.proofs.replicas.Waits.{installed_are_attended, signals_keep_attended}
use Rattle.commit_laws.specs.Forth.{ForthIsKnownAlways, IsForth, TellsForth}
use Rattle.commit_laws.specs.Going.{is_forth}
use Rattle.commit_laws.specs.Traces.{replica_at, rows_at}
use Rattle.commit_laws.proofs.fates.Committed.{alone_waits, calm_idle, forth_calm}
use Rattle.commit_laws.proofs.commits.Places.{asker_made}
use Rattle.commit_laws.proofs.records.KeyGoes.{TakesNow}
use Rattle.commit_laws.proofs.records.Once.{well_between}
use Rattle.commit_laws.proofs.hosts.RowsTurn.{IsBetween, IsTakenAt, RowsGo, enter, rest, rows_go, take}
use Rattle.commit_laws.proofs.hosts.RowsTurn.{between_so}
use Rattle.commit_laws.proofs.links.TakenChains.{chain_told}

-- the event of a signal is that within a view, or none
pub under_is : (key : List ℕ) (s : ReplicaState) (x : Signal)
    → (event_under key s x ≡ rests) ⊎ (event_under key s x ≡ event_at key s.lqh x.body)
under_is key s x = by x.body
  where
    stale : (b : Bool) → (event_if (event_at key s.lqh x.body) b ≡ rests)
        ⊎ (event_if (event_at key s.lqh x.body) b ≡ event_at key s.lqh x.body)
    stale true = inl refl
    stale false = inr refl

    by : (body : Body) → (event_by key s x body ≡ rests) ⊎ (event_by key s x body ≡ event_at key s.lqh x.body)
    by (Membership (FenceReq proposal)) = inl refl
    by (Takeover LqhTransReq) = inl refl
    by (Host (Continue work.Report at)) = inl refl
    by (Host (Continue work.Granted at)) = stale (is_stale s x)
    by (Host (Continue work.Expired at)) = stale (is_stale s x)
    by (Epoch signal) = inl refl
    by body = inr refl

-- what is so of an event, and of none, is so of it where it is on the key
pub on_so : (P : Event → Type 0) (own key : List ℕ) (event : Event) → P rests → P event → P (if_on own key event)
on_so P own key event none is = by (same_key own key)
  where
    by : (b : Bool) → P (if b then event else rests)
    by true = is
    by false = none

module _ (forth : ForthIsKnownAlways) (start : Start) (all : ℕ → List HostStep) where
  module _ (e : HostStep) (es : List HostStep) (moment : IsMoment start all (e ∷ es)) (member : Member)
      (there : IsIn member (made start)) (key : List ℕ) (s : ReplicaState)
      (between : IsBetween start all e es moment member there s)
      (taken : IsTakenAt start all e es moment member there s)
    where
      abbrev old : ℕ → List HostStep
      old = logs_of start es

      abbrev x : Signal
      x = e.step.taken

      abbrev r : Replica
      r = at_key key s.lqh

      takes : TakesNow start all e es moment member there
      takes = record { rows = s; between = between; taken = taken; at = taken.at; now = taken.now }

      none_of : (tx : TxId) → Each (λ (q : Request). same_tx q.tx tx ≡ false) s.lqh.waiting → NoneOf tx r.waiting
      none_of tx none = each_filter (λ (q : Request). same_tx q.tx tx ≡ false) (asks_for key) s.lqh.waiting none

      gone_none : (tx : TxId) → is_forth start old tx ≡ true → NoneOf tx r.waiting
      gone_none tx gone =
          none_of tx
          (calm_idle start all e es moment member there tx
          (forth_calm start all es (moment_less start all e es moment) tx gone) key s between taken).waits

      one_event : (body : Body) → x.body ≡ body → IsOneByOne r (event_at key s.lqh body)
      one_event (Chain (LqhKeyReq tx asked chain at)) is =
          on_so (IsOneByOne r) (work_key asked) key
          (asks (record { tx = tx; work = asked; chain = chain; at = at })
          (is_refused (storage_of s.lqh) (record { tx = tx; work = asked; chain = chain; at = at }))) tt
          (none_of tx
          (alone_waits start all e es moment member there tx
          (asker_made start all e es moment member there takes tx asked chain at is) s between taken
          (ap (is_token tx) is ∙ same_tx-self tx)))
      one_event (Chain (Commit tx own epoch chain at)) is =
          on_so (IsOneByOne r) own key (commits tx (at == 0)) tt (by (at == 0))
        where
          gone : is_forth start old tx ≡ true
          gone =
              subst (TellsForth (IsForth start old)) is
              (chain_told start all e es moment taken.now (Commit tx own epoch chain at) is
              (λ (y : Addressed). TellsForth (IsForth start old) y.signal.body)
              (forth start all es (moment_less start all e es moment)).signals)

          by : (first : Bool) → IsOneByOne r (commits tx first)
          by true = gone_none tx gone
          by false = tt
      one_event (Chain (Complete tx own chain at)) is =
          on_so (IsOneByOne r) own key (completes tx) tt
          (gone_none tx
          (subst (TellsForth (IsForth start old)) is
          (chain_told start all e es moment taken.now (Complete tx own chain at) is
          (λ (y : Addressed). TellsForth (IsForth start old) y.signal.body)
          (forth start all es (moment_less start all e es moment)).signals)))
      one_event (Chain (Abort tx own)) is = on_so (IsOneByOne r) own key (aborts tx) tt tt
      one_event (Host (Continue work.Granted at)) is = by (first (is_granted s.lqh.locks) s.lqh.waiting)
        where
          by : (o : Option Request) → IsOneByOne r (serves_if key s.lqh o)
          by None = tt
          by (Some q) = on_so (IsOneByOne r) (work_key q.work) key (serves (is_refused (storage_of s.lqh) q)) tt tt
      one_event (Host Round) is = tt
      one_event (Host (Continue work.Expired at)) is = by (expired s.lqh.locks)
        where
          by : (o : Option (TxId × List ℕ)) → IsOneByOne r (expires_if key o)
          by None = tt
          by (Some wait) = on_so (IsOneByOne r) wait.1 key (expires wait.0) tt tt
      one_event body is = tt

      one_by_one : IsOneByOne r (event_under key s x)
      one_by_one = by (under_is key s x)
        where
          by : (event_under key s x ≡ rests) ⊎ (event_under key s x ≡ event_at key s.lqh x.body)
              → IsOneByOne r (event_under key s x)
          by (inl is) = subst (IsOneByOne r) (sym is) tt
          by (inr is) = subst (IsOneByOne r) (sym is) (one_event x.body refl)

      -- it is so of the rows before they take the signal
      pub attended_between : AreAttended (replica_at start old member key) → AreAttended r
      attended_between was =
          between_so start all e es moment member there (λ s. AreAttended (at_key key s.lqh)) s between was
          (λ view. installed_are_attended (rows_at start old member) view key)

      taken_attended : AreAttended (replica_at start old member key)
          → AreAttended (at_key key (replica_row s x).state.lqh)
      taken_attended was =
          signals_keep_attended s x key (well_between start all e es moment member there s between) one_by_one
          (attended_between was)

  pub rows_attended : (es : List HostStep) → IsMoment start all es → (member : Member) → IsIn member (made start)
      → (key : List ℕ) → AreAttended (replica_at start (logs_of start es) member key)
  rows_attended [] moment member there key =
      subst (λ (s : node.HostBody). AreAttended (at_key key (rows_in (no_replica start member) s.parts).lqh))
      (sym (ldm_started start moment.cluster.nobody member there)) (record { attended = tt; alone = tt })
  rows_attended (e ∷ es) moment member there key =
      by (rows_go start all e es moment member there)
      (rows_attended es (moment_less start all e es moment) member there key)
    where
      by : RowsGo start all e es moment member there → AreAttended (replica_at start (logs_of start es) member key)
          → AreAttended (replica_at start (logs_of start (e ∷ es)) member key)
      by (rest is quiet) was = subst (λ (s : ReplicaState). AreAttended (at_key key s.lqh)) (sym is) was
      by (enter view is quiet) was =
          subst (λ (s : ReplicaState). AreAttended (at_key key s.lqh)) (sym is)
          (installed_are_attended (rows_at start (logs_of start es) member) view key)
      by (take s between taken) was =
          subst (λ (s : ReplicaState). AreAttended (at_key key s.lqh)) (sym taken.rows_are)
          (taken_attended e es moment member there key s between taken was)
