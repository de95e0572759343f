-- At rest a live replica of a key has no record of it, and so has the row that the history leaves.
use Rattle.std.proofs.Common.{◌≡◌, ◌||◌, ◌++◌, ◌<◌, ◌+◌, ◌-◌, ◌*◌, ◌∙◌, ℕ, zero, suc, Bool, true, false, length}
use Rattle.std.proofs.Common.{List, [], ◌∷◌, refl, sym, ap, subst, arith, inl, inr}
use Rattle.std.proofs.lemmas.Bool.{or_from, true≢false}
use Rattle.std.specs.List.{list_any}
use Rattle.std.specs.Prelude.{if◌then◌else◌, is_some, Option, None, Some}
use Rattle.run_theory.proofs.Runs.{log_of-own}
use Rattle.run_theory.specs.Lists.{IsIn}
use Rattle.run_theory.specs.Ranks.{in_order}
use Rattle.run_theory.proofs.EventCases.{event_cases}
use Rattle.frag_map.proofs.FirstReplicas.{first_all}
use Rattle.frag_map.specs.Laws.{HasReplica, first_chain}
use Rattle.frag_map.specs.Fragment.{frag_of}
use Rattle.frag_map.specs.Layout.{chain_of, first_view, holds}
use Rattle.frag_map.specs.Replicas.{is_member}
use Rattle.sig_core.proofs.Keys.{same_tx-self}
use Rattle.sig_core.specs.Chain.{node_at}
use Rattle.sig_core.specs.Rows.{record_state, state_by}
use Rattle.sig_core.specs.declared.mark.Mark.{Mark}
use Rattle.sig_core.specs.declared.mark.Mark.TheVariants.{Done}
use Rattle.sig_core.specs.declared.member.Member.{Member}
use Rattle.sig_core.specs.declared.member.TxId.{TxId}
use Rattle.sig_core.specs.declared.rows.PendingRecord.{PendingRecord}
use Rattle.sig_core.specs.declared.signal.Body.TheVariants.{Chain}
use Rattle.sig_core.specs.declared.signal.chain.ChainSignal.TheVariants.{Abort, Complete}
use Rattle.sig_core.specs.declared.view.View.{View}
use Rattle.sig_core.specs.Place as place
use Rattle.lqh_views.specs.Replica.{replica_row}
use Rattle.lqh_views.specs.State.{ReplicaState}
use Rattle.key_laws.specs.Records.{AreOnce, found, if_committed, unless_committed}
use Rattle.key_laws.specs.Replica.{Cell, Replica, aborts, at_key, completes, key_after}
use Rattle.key_laws.proofs.EpochLemmas.{state_found}
use Rattle.key_laws.proofs.RecordLemmas.{if_keeps, unless_keeps}
use Rattle.world_core.proofs.MadeFirst.{begins_made}
use Rattle.world_core.proofs.HostNumbers.{node_host}
use Rattle.world_core.specs.Hosts.{rows_host}
use Rattle.world_core.specs.Marks.{has_mark}
use Rattle.world_core.specs.Rest.{IsAtRest, IsLiveReplica, IsSettled, is_done_mark, is_prepared}
use Rattle.world_core.specs.Start.{NobodyStarts, Start, made}
use Rattle.world_core.specs.Steps.{Addressed, HostStep}
use Rattle.world_views.specs.At.{row_at, row_in}
use Rattle.world_views.specs.Machine.{after, machine}
use Rattle.view_laws.proofs.runs.FirstMembers.{made_same, node_low, node_some}
use Rattle.view_laws.specs.Order.{by_views}
use Rattle.view_laws.specs.Runs.{AreOfCluster}
use Rattle.moment_laws.proofs.MomentHosts.{ldm_number}
use Rattle.moment_laws.proofs.MomentMembers.{full_made}
use Rattle.moment_laws.proofs.MomentRuns.{are_moments, logs_in_views}
use Rattle.moment_laws.proofs.MomentViews.{moment_installed, moment_less}
use Rattle.moment_laws.specs.Moments.{IsMoment, current, logs_of}
use Rattle.moment_laws.specs.Places.{ldm_of}
use Rattle.request_laws.proofs.routes.ChainsStay.{any_in, nobody_later_first}
use Rattle.request_laws.proofs.routes.PartSteps.{rows_are}
use Rattle.request_laws.proofs.routes.PartsOfTheFirst.{nobody_later}
use Rattle.request_laws.proofs.tokens.Rows.{rows_run}
use Rattle.request_laws.specs.Routed.{layout_in}
use Rattle.commit_laws.specs.Commits.{ComesWhenDone}
use Rattle.commit_laws.specs.Cuts.{RestingRowsFollow}
use Rattle.commit_laws.specs.Together.{AllStand, AllStandAlways}
use Rattle.commit_laws.specs.Traces.{IsCommittedAtAll, IsReplicaOf, has_marker_at, is_committed_by, is_known, record_at}
use Rattle.commit_laws.specs.Traces.{replica_at}
use Rattle.commit_laws.proofs.commits.Places.{cell_before, chain_event, on_self, well}
use Rattle.commit_laws.proofs.forth.All.{forth_is_known}
use Rattle.commit_laws.proofs.views.Greatest.{greatest_current}
use Rattle.commit_laws.proofs.records.KeyGoes.{TakesNow}
use Rattle.commit_laws.proofs.led.AllLed.{followed_histories}
use Rattle.commit_laws.proofs.hosts.RowsGo.{AreUnapplied, is_row_mark, any_front}
use Rattle.commit_laws.proofs.led.Begins.{replicas_begin_at_rest}
use Rattle.commit_laws.proofs.records.Moves.{found_own, now_by}
use Rattle.commit_laws.proofs.records.Once.{rows_once}
use Rattle.commit_laws.proofs.records.Replicas.{chain_full, chained, in_turns, replica_before, replica_made, self}
use Rattle.commit_laws.proofs.records.Replicas.{turn_in}
use Rattle.commit_laws.proofs.hosts.RowsTurn.{IsBetween, IsTakenAt, RowsGo, enter, rest, rows_go, take}
use Rattle.commit_laws.proofs.commits.RowsPrepare.{Ends, completes_it, done_ends, gives_up, record_marked}
use Rattle.commit_laws.proofs.links.TakenChains.{IsKeptForth, chain_told, complete_kept}
use Rattle.commit_laws.proofs.hosts.Goes.{any_behind}

-- a write of the key was prepared in this log, and isn't done with
pub record IsUnfinished (key : List ℕ) (v : TxId) (log : List HostStep) : Type 0 where
  pub newer : List HostStep
  pub step : HostStep
  pub older : List HostStep
  pub is : log ≡ newer ++ step ∷ older
  pub prepared : list_any (is_prepared v key) step.step.marks ≡ true
  pub undone : has_mark (is_done_mark v key) newer ≡ false

-- where all is done with there is no record
settled_empty : (key : List ℕ) (log : List HostStep) (pending : List PendingRecord) → IsSettled key log
    → ((v : TxId) → is_some (found v pending) ≡ true → IsUnfinished key v log) → pending ≡ []
settled_empty key log [] settled unfinished = refl
settled_empty key log (r ∷ others) settled unfinished =
    let is = unfinished r.tx (ap (λ b. is_some (if b then Some r else found r.tx others)) (same_tx-self r.tx)) in
    absurd (true≢false (sym (settled is.newer is.step is.older r.tx is.is is.prepared) ∙ is.undone))

-- marks that rows don't make end nothing
unapplied_undone : (v : TxId) (key : List ℕ) (marks : List Mark) → AreUnapplied marks
    → list_any (is_done_mark v key) marks ≡ false
unapplied_undone v key [] none = refl
unapplied_undone v key (mark ∷ marks) none =
    or_from (is_done_mark v key mark) (list_any (is_done_mark v key) marks) (one mark none.0)
    (unapplied_undone v key marks none.1)
  where
    one : (m : Mark) → is_row_mark m ≡ false → is_done_mark v key m ≡ false
    one (Done tx own) off = absurd (true≢false off)
    one m off = refl

none_both : (test : Mark → Bool) (front marks : List Mark) → list_any test front ≡ false
    → list_any test marks ≡ false → list_any test (front ++ marks) ≡ false
none_both test [] marks none more = more
none_both test (m ∷ front) marks none more = by (test m) none (none_both test front marks)
  where
    by : (b : Bool) → (b || list_any test front) ≡ false
        → (list_any test front ≡ false → list_any test marks ≡ false → list_any test (front ++ marks) ≡ false)
        → (b || list_any test (front ++ marks)) ≡ false
    by true none also = absurd (true≢false none)
    by false none also = also none more

never : {A : Type 0} (o : Option PendingRecord) → o ≡ None → is_some o ≡ true → A
never o none is = absurd (true≢false (sym is ∙ ap is_some none))

-- an event leaves what is unfinished so, unless it takes the record away
module _ (start : Start) (all : ℕ → List HostStep) (e : HostStep) (es : List HostStep)
    (moment : IsMoment start all (e ∷ es)) (stood : AllStand start es) (member : Member)
    (there : IsIn member (made start))
    (key : List ℕ) (replica : IsReplicaOf start (logs_of start es) key member) (v : TxId) where
  abbrev old : ℕ → List HostStep
  old = logs_of start es

  abbrev new : ℕ → List HostStep
  new = logs_of start (e ∷ es)

  abbrev h : ℕ
  h = ldm_of start member

  abbrev was : Option PendingRecord
  was = record_at start old member key v

  abbrev now : Option PendingRecord
  now = record_at start new member key v

  carries : (e.host ≡ h → list_any (is_done_mark v key) e.step.marks ≡ false) → IsUnfinished key v (old h)
      → IsUnfinished key v (new h)
  carries none one =
      event_cases (machine start) e es h (IsUnfinished key v)
      (λ at. record {
        newer = e ∷ one.newer;
        step = one.step;
        older = one.older;
        is = ap (λ w. e ∷ w) one.is;
        prepared = one.prepared;
        undone =
            or_from (list_any (is_done_mark v key) e.step.marks) (has_mark (is_done_mark v key) one.newer) (none at)
            one.undone;
      })
      (λ off. one)

  module _ (s : ReplicaState) (between : IsBetween start all e es moment member there s)
      (taken : IsTakenAt start all e es moment member there s) where
    abbrev takes : TakesNow start all e es moment member there
    takes = record { rows = s; between = between; taken = taken; at = taken.at; now = taken.now }

    abbrev own_marks : List Mark
    own_marks = (replica_row s e.step.taken).effects.marks

    cell_is : (at_key key s.lqh).cell ≡ (replica_at start old member key).cell
    cell_is = cell_before start all e es moment member there takes key

    found_is : found v (at_key key s.lqh).cell.pending ≡ was
    found_is = ap (λ (c : Cell). found v c.pending) cell_is

    now_is : now ≡ found v (at_key key (replica_row s e.step.taken).state.lqh).cell.pending
    now_is = ap (λ (s : ReplicaState). found v (at_key key s.lqh).cell.pending) taken.rows_are

    -- a new record
    begins : is_some now ≡ true → was ≡ None → IsUnfinished key v (new h)
    begins is none =
        subst (IsUnfinished key v) (sym (log_of-own (machine start) e es h taken.at))
        (record {
          newer = [];
          step = e;
          older = old h;
          is = refl;
          prepared =
              ap (list_any (is_prepared v key)) taken.marks_are
              ∙ any_behind (is_prepared v key) taken.front (own_marks ++ taken.back)
              (any_front (is_prepared v key) own_marks taken.back
              (record_marked v key s e.step.taken (well start all e es moment member there takes)
              (sym (ap is_some now_is) ∙ is) (found_is ∙ none)));
          undone = refl;
        })

    once : AreOnce (at_key key s.lqh).cell.pending
    once =
        subst (λ (c : Cell). AreOnce c.pending) (sym cell_is)
        (rows_once start moment.cluster.nobody member there (old h) key)

    -- a completion takes the record away
    completed_gone : (chain : List Member) (at : ℕ) → e.step.taken.body ≡ Chain (Complete v key chain at)
        → (y : PendingRecord) → was ≡ Some y → now ≡ None
    completed_gone chain at about y there_y =
        ap (λ (r : Replica). found v r.cell.pending)
        (chain_event start all e es moment member there takes (Complete v key chain at) about key
        ∙ ap (λ event. key_after event (at_key key s.lqh))
        (on_self start all e es moment member there takes key (completes v)))
        ∙ found_own unless_committed unless_keeps v (at_key key s.lqh).cell.pending once
        ∙ ap (now_by unless_committed) (found_is ∙ there_y)
        ∙ ap (λ b. if b then None else Some y) is_committed
      where
        kept : IsKeptForth start all e es moment taken.now (Complete v key chain at) about forth_is_known stood.spoken v
        kept =
            complete_kept start all e es moment taken.now (Complete v key chain at) about forth_is_known stood.spoken v
            key chain at refl

        all_done : IsCommittedAtAll start old v key
        all_done =
            subst (ComesWhenDone start old) about
            (chain_told start all e es moment taken.now (Complete v key chain at) about
            (λ (y : Addressed). ComesWhenDone start old y.signal.body) stood.commits.done)
            key (stood.commits.records v kept.kept member there key y there_y).0

        is_committed : y.committed ≡ true
        is_committed =
            subst (λ o. is_committed_by (has_marker_at start old member key v || is_known start old v) o ≡ true) there_y
            (all_done.committed member replica)

    -- and so does an abort of what is only prepared
    aborted_gone : e.step.taken.body ≡ Chain (Abort v key) → record_state s.lqh.rows v key ≡ Some false
        → (y : PendingRecord) → was ≡ Some y → now ≡ None
    aborted_gone about state y there_y =
        ap (λ (r : Replica). found v r.cell.pending)
        (chain_event start all e es moment member there takes (Abort v key) about key
        ∙ ap (λ event. key_after event (at_key key s.lqh))
        (on_self start all e es moment member there takes key (aborts v)))
        ∙ found_own if_committed if_keeps v (at_key key s.lqh).cell.pending once
        ∙ ap (now_by if_committed) (found_is ∙ there_y)
        ∙ ap (λ b. if b then Some y else None) uncommitted
      where
        uncommitted : y.committed ≡ false
        uncommitted =
            let one : Some y.committed ≡ Some false =
            sym (ap state_by (found_is ∙ there_y)) ∙ sym (state_found s.lqh.rows v key) ∙ state in
            cc (one)

    stays : is_some now ≡ true → (y : PendingRecord) → was ≡ Some y → IsUnfinished key v (old h)
        → IsUnfinished key v (new h)
    stays is y there_y =
        carries (λ at.
        ap (list_any (is_done_mark v key)) taken.marks_are
        ∙ none_both (is_done_mark v key) taken.front (own_marks ++ taken.back)
        (unapplied_undone v key taken.front taken.unapplied)
        (none_both (is_done_mark v key) own_marks taken.back (by (list_any (is_done_mark v key) own_marks) refl)
        (unapplied_undone v key taken.back taken.unapplied_behind)))
      where
        ended : Ends v key s e.step.taken → now ≡ None
        ended (completes_it chain at about) = completed_gone chain at about y there_y
        ended (gives_up about state) = aborted_gone about state y there_y

        by : (b : Bool) → list_any (is_done_mark v key) own_marks ≡ b
            → list_any (is_done_mark v key) own_marks ≡ false
        by false off = off
        by true done = never now (ended (done_ends v key s e.step.taken done)) is

  unfinished_next : (is_some was ≡ true → IsUnfinished key v (old h)) → is_some now ≡ true
      → IsUnfinished key v (new h)
  unfinished_next before is = by (rows_go start all e es moment member there)
    where
      same : now ≡ was → (e.host ≡ h → AreUnapplied e.step.marks) → IsUnfinished key v (new h)
      same is_same quiet =
          carries (λ at. unapplied_undone v key e.step.marks (quiet at)) (before (sym (ap is_some is_same) ∙ is))

      by : RowsGo start all e es moment member there → IsUnfinished key v (new h)
      by (rest rows quiet) =
          same (ap (λ (s : ReplicaState). found v (at_key key s.lqh).cell.pending) rows) (λ at. (quiet at).marks)
      by (enter view rows quiet) =
          same (ap (λ (s : ReplicaState). found v (at_key key s.lqh).cell.pending) rows) (λ at. (quiet at).marks)
      by (take s between taken) = at_found was refl
        where
          at_found : (o : Option PendingRecord) → was ≡ o → IsUnfinished key v (new h)
          at_found None none = begins s between taken is none
          at_found (Some y) there_y = stays s between taken is y there_y (before (ap is_some there_y))

-- so along moments a record at a replica is of what is unfinished
unfinished : AllStandAlways → (start : Start) (all : ℕ → List HostStep) (es : List HostStep) → IsMoment start all es
    → (key : List ℕ) (member : Member) → IsReplicaOf start (logs_of start es) key member → (v : TxId)
    → is_some (record_at start (logs_of start es) member key v) ≡ true
    → IsUnfinished key v (logs_of start es (ldm_of start member))
unfinished stand start all [] moment key member replica v is =
    never (record_at start (logs_of start []) member key v)
    (ap (found v) (replicas_begin_at_rest start all moment key member replica).pending) is
unfinished stand start all (e ∷ es) moment key member replica v is =
    let before : IsMoment start all es = moment_less start all e es moment in
    let was : IsReplicaOf start (logs_of start es) key member =
    replica_before start all e es moment key member replica in
    unfinished_next start all e es moment (stand start all es before) member
    (replica_made start all es before key member was) key was v
    (unfinished stand start all es before key member was v) is

-- a member at a place of a chain
record Seat (xs : List Member) (at : ℕ) : Type 0 where
  one : Member
  there : IsIn one xs
  node : node_at xs at ≡ one.node

seat : (xs : List Member) (at : ℕ) → at < length xs → Seat xs at
seat [] at inside = absurd (omega (arith, inside))
seat (x ∷ xs) zero inside = record { one = x; there = inl refl; node = refl }
seat (x ∷ xs) (suc at) inside =
    let more = seat xs at (omega (arith, inside)) in record { one = more.one; there = inr more.there; node = more.node }

-- a live replica is a replica in the current view
module _ (start : Start) (all : ℕ → List HostStep) (es : List HostStep) (moment : IsMoment start all es)
    (key : List ℕ) (member : Member) where
  abbrev view : View
  view = current start (logs_of start es)

  abbrev first : View
  first = first_view start.shape.nodes

  -- a full member whose node holds a key is a replica of it
  pub full_replica : IsIn member (current start (logs_of start es)).full → holds start.shape member.node key ≡ true
      → IsReplicaOf start (logs_of start es) key member
  full_replica full has = record { full = full; chained = placed }
    where
      in_made : IsIn member (made start)
      in_made = full_made start all moment.cluster view (moment_installed start all es moment) member full

      own : HasReplica (first_chain start.shape key) member.node
      own =
          first_all start.shape moment.cluster.shape key member.node
          (node_some start moment.cluster.nobody member in_made)
          (node_low start moment.cluster.nobody member in_made) has

      sits : Seat (first_chain start.shape key) own.at
      sits = seat (first_chain start.shape key) own.at own.inside

      is : sits.one ≡ member
      is =
          made_same start moment.cluster.nobody sits.one member
          (begins_made start sits.one
          (chain_full start key moment.cluster.shape first (nobody_later_first start.shape.nodes) sits.one sits.there))
          in_made (sym sits.node ∙ own.is)

      chained_first : IsIn member (chain_of (layout_in start first) key)
      chained_first = subst (λ m. IsIn m (chain_of (layout_in start first) key)) is sits.there

      placed : IsIn member (chain_of (layout_in start view) key)
      placed =
          chained start key moment.cluster.shape view
          (nobody_later start all moment.cluster view (moment_installed start all es moment)) member
          (turn_in start.shape (frag_of start.shape key) first view start.shape.replicas member
          (in_turns start key moment.cluster.shape first (nobody_later_first start.shape.nodes) member chained_first)
          (any_in (is_member member) member view.full full (self member)))

-- rows of a node are those of its member
module _ (start : Start) (nobody : NobodyStarts start) (member : Member) (there : IsIn member (made start)) where
  rows_number : rows_host start member.node ≡ ldm_of start member
  rows_number =
      let number : rows_host start member.node ≡ (member.node - 1) * 3 + 3 =
      node_host start (place.rows_of member.node) (node_some start nobody member there)
      (node_low start nobody member there) in
      let is = ldm_number start nobody member there in
      omega (arith, number, is)

  row_there : (logs : ℕ → List HostStep) (key : List ℕ)
      → row_in start logs member.node key ≡ (replica_at start logs member key).cell.row
  row_there logs key =
      let runs = rows_run start nobody member there (logs (ldm_of start member)) in
      ap (λ k. row_at (after start k (logs k)).parts key) rows_number
      ∙ (ap (λ parts. row_at parts key) runs.is
      ∙ ap (λ (s : ReplicaState). (at_key key s.lqh).cell.row)
      (sym (rows_are start member (ldm_of start member) (logs (ldm_of start member)) refl runs.part runs.is)))

module _ (stand : AllStandAlways) (start : Start) (logs : ℕ → List HostStep) (are : AreOfCluster start logs) where
  abbrev events : List HostStep
  events = in_order (by_views start logs)

  module _ (key : List ℕ) (at_rest : IsAtRest start logs key) (member : Member)
      (live : IsLiveReplica start logs key member) where
    replica_events : IsReplicaOf start (logs_of start events) key member
    replica_events =
        full_replica start logs events (are_moments start logs are) key member
        (subst (λ ls. IsIn member (current start ls).full) (sym (logs_in_views start logs are))
        (subst (λ (v : View). IsIn member v.full) (greatest_current start logs are) live.live))
        live.holding

    replica_logs : IsReplicaOf start logs key member
    replica_logs = subst (λ ls. IsReplicaOf start ls key member) (logs_in_views start logs are) replica_events

    in_made : IsIn member (made start)
    in_made = replica_made start logs events (are_moments start logs are) key member replica_events

    empty : (replica_at start logs member key).cell.pending ≡ []
    empty =
        settled_empty key (logs (ldm_of start member)) (replica_at start logs member key).cell.pending
        (subst (λ k. IsSettled key (logs k)) (rows_number start are.nobody member in_made) (at_rest member live))
        (subst (λ (ls : ℕ → List HostStep). (v : TxId)
        → is_some (found v (replica_at start ls member key).cell.pending) ≡ true
        → IsUnfinished key v (ls (ldm_of start member))) (logs_in_views start logs are)
        (unfinished stand start logs events (are_moments start logs are) key member replica_events))

pub resting_rows : AllStandAlways → RestingRowsFollow
resting_rows stand start logs are key at_rest member live =
    row_there start are.nobody member (in_made stand start logs are key at_rest member live) logs key
    ∙ followed_histories stand start logs are key member (replica_logs stand start logs are key at_rest member live)
    (empty stand start logs are key at_rest member live)
