-- A full member of the current view that has a record on a key is one of the key's replicas: records come by requests,
-- which go along chains; and a full member that was in a chain in one view is in it in each in which it is full.
use Rattle.std.proofs.Common.{◌≡◌, ◌⊎◌, ◌∙◌, ◌<◌, ℕ, zero, suc, Bool, true, false, cond, filter, length, map, List, []}
use Rattle.std.proofs.Common.{◌∷◌, inl, inr, refl, sym, ap, subst, arith}
use Rattle.std.specs.Prelude.{if◌then◌else◌, Option, None, Some}
use Rattle.run_theory.specs.Lists.{Each, IsIn}
use Rattle.run_theory.proofs.Pasts.{each_append, each_in, each_map}
use Rattle.frag_map.specs.Fragment.{frag_of}
use Rattle.frag_map.specs.Replicas.{first_start, in_turn, is_member, node_in_turn}
use Rattle.frag_map.specs.Shape.{IsShape}
use Rattle.sig_core.specs.Chain.{node_at}
use Rattle.sig_core.specs.Firsts.{first}
use Rattle.sig_core.specs.Place.{rows_of}
use Rattle.sig_core.specs.Rows.{is_on, no_rows}
use Rattle.sig_core.specs.Same.{same_key}
use Rattle.sig_core.specs.Work.{work_key}
use Rattle.sig_core.specs.declared.member.Member.{Member}
use Rattle.sig_core.specs.declared.member.TxId.{TxId}
use Rattle.sig_core.specs.declared.place.Place.{Place}
use Rattle.sig_core.specs.declared.rows.PendingRecord.{PendingRecord}
use Rattle.sig_core.specs.declared.signal.Body.{Body}
use Rattle.sig_core.specs.declared.signal.Body.TheVariants.{Chain, Epoch, Host, Membership, Takeover}
use Rattle.sig_core.specs.declared.signal.Signal.{Signal}
use Rattle.sig_core.specs.declared.signal.chain.ChainSignal.TheVariants.{Abort, Commit, Complete, LqhKeyReq}
use Rattle.sig_core.specs.declared.signal.host.HostSignal.TheVariants.{Continue, Round}
use Rattle.sig_core.specs.declared.signal.host.Work.TheVariants as work
use Rattle.sig_core.specs.declared.signal.membership.MembershipSignal.TheVariants.{FenceReq}
use Rattle.sig_core.specs.declared.signal.takeover.TakeoverSignal.TheVariants.{LqhTransReq}
use Rattle.sig_core.specs.declared.view.View.{View}
use Rattle.row_locks.specs.Rounds.{expired}
use Rattle.row_records.proofs.KeyLemmas.{same}
use Rattle.lqh_block.specs.declared.request.Request.{Request}
use Rattle.lqh_block.specs.Operate.{is_granted}
use Rattle.lqh_block.specs.State.{LqhState, storage_of}
use Rattle.lqh_views.specs.Replica.{is_stale, replica_row}
use Rattle.lqh_views.specs.State.{ReplicaState}
use Rattle.key_laws.proofs.Waiting.{each-first_item}
use Rattle.key_laws.specs.Records.{as_committed, edited, found, if_committed, unless_committed, without_epoch}
use Rattle.key_laws.specs.Replica.{Event, Replica, aborts, ages, asks, at_key, commits, completes, event_at, expires}
use Rattle.key_laws.specs.Replica.{expires_if, if_on, is_refused, key_after, rests, serves, serves_if}
use Rattle.host_laws.specs.ReplicaLaws.{IsWell}
use Rattle.node_core.specs.Fresh.{own_rows}
use Rattle.node_views.specs.declared.host_body.HostBody as hosts
use Rattle.world_core.specs.Start.{NobodyStarts, Start, made}
use Rattle.world_core.specs.Steps.{HostStep}
use Rattle.view_laws.specs.Runs.{WasInstalled, view_after}
use Rattle.moment_laws.specs.Moments.{IsMoment, current, logs_of}
use Rattle.moment_laws.specs.Places.{ldm_of}
use Rattle.moment_laws.proofs.MomentHosts.{ldm_started}
use Rattle.moment_laws.proofs.MomentMembers.{current_made}
use Rattle.moment_laws.proofs.MomentViews.{moment_installed, moment_less}
use Rattle.request_laws.specs.Blocks.{no_replica, rows_in}
use Rattle.request_laws.specs.Replicas.{event_by, event_if, event_under}
use Rattle.request_laws.specs.Routed.{IsGivenUp, IsRoutedSignal, WasAskedIn, WasDrivenIn, layout_in, view_of_ldm}
use Rattle.request_laws.specs.Routes.{IsRequestRouted, IsRouted}
use Rattle.request_laws.proofs.replicas.KeyEvents.{signals_are_events}
use Rattle.request_laws.proofs.routes.All.{signals_are_routed}
use Rattle.request_laws.proofs.routes.BesideRows.{is_of_rows}
use Rattle.request_laws.proofs.routes.ChainsStay.{NobodyLater, any_in, is_full}
use Rattle.request_laws.proofs.routes.Headers.{chain_fenced, header_is, own_installed, told_of}
use Rattle.request_laws.proofs.routes.Places.{is_for_rows, rows_know_node}
use Rattle.request_laws.proofs.routes.PartsOfTheFirst.{nobody_later}
use Rattle.request_laws.proofs.tokens.HostsApart.{ldm_low}
use Rattle.commit_laws.specs.Traces.{IsReplicaOf, record_at, replica_at, rows_at}
use Rattle.commit_laws.proofs.records.Once.{well_between}
use Rattle.world_views.proofs.FreshBodies.{none_pending}
use Rattle.view_laws.proofs.runs.Headers.{installed_at}
use Rattle.commit_laws.proofs.records.Replicas.{chained, in_turns, self, turn_in}
use Rattle.commit_laws.proofs.hosts.RowsTurn.{IsBetween, IsTakenAt, RowsGo, enter, rest, rows_go, take}
use Rattle.commit_laws.proofs.hosts.RowsTurn.{between_so}

-- something may be stored by the event
abbrev Stores : Event → Type 0
Stores (asks q refused) = Unit {0}
Stores (serves refused) = Unit {0}
Stores event = ⊥

-- of keys of which this isn't so there are no records, as long as it is so of the key of each request
module _ (P : List ℕ → Type 0) where
  abbrev IsEmptyOr : List ℕ → ReplicaState → Type 0
  IsEmptyOr key s = ((at_key key s.lqh).cell.pending ≡ []) ⊎ P key

  -- what the signal asks for
  abbrev IsAsked : Body → Type 0
  IsAsked (Chain (LqhKeyReq tx asked chain at)) = P (work_key asked)
  IsAsked body = Unit {0}

  abbrev AllWait : LqhState → Type 0
  AllWait s = Each (λ (q : Request). P (work_key q.work)) s.waiting

  module _ (key : List ℕ) where
    behind : (event : Event) (r : Replica) → (Stores event → P key) → (r.cell.pending ≡ []) ⊎ P key
        → ((key_after event r).cell.pending ≡ []) ⊎ P key
    behind event r stores (inr is) = inr is
    behind (asks q refused) r stores (inl none) = inr (stores tt)
    behind (serves refused) r stores (inl none) = inr (stores tt)
    behind rests r stores (inl none) = inl none
    behind (commits tx true) r stores (inl none) = inl (ap (edited as_committed tx) none)
    behind (commits tx false) r stores (inl none) = inl (ap (edited as_committed tx) none)
    behind (completes tx) r stores (inl none) = inl (ap (edited unless_committed tx) none)
    behind (aborts tx) r stores (inl none) = inl (ap (edited if_committed tx) none)
    behind (expires tx) r stores (inl none) = inl none
    behind (ages None) r stores (inl none) = inl none
    behind (ages (Some tx)) r stores (inl none) = inl none

    stores_on : (own : List ℕ) (event : Event) → P own → Stores (if_on own key event) → P key
    stores_on own event here = by (same_key own key) refl
      where
        by : (b : Bool) → same_key own key ≡ b → Stores (if b then event else rests) → P key
        by true e stores = subst P (same own key e) here
        by false e stores = absurd stores

    none_on : (own : List ℕ) (event : Event) → (Stores event → ⊥) → Stores (if_on own key event) → P key
    none_on own event none = by (same_key own key)
      where
        by : (b : Bool) → Stores (if b then event else rests) → P key
        by true stores = absurd (none stores)
        by false stores = absurd stores

    module _ (s : LqhState) (waits : AllWait s) where
      serving : (o : Option Request) → first (is_granted s.locks) s.waiting ≡ o → Stores (serves_if key s o) → P key
      serving None is stores = absurd stores
      serving (Some q) is stores =
          stores_on (work_key q.work) (serves (is_refused (storage_of s) q))
          (each-first_item (λ (q : Request). P (work_key q.work)) (is_granted s.locks) s.waiting q waits is) stores

      expiring : (o : Option (TxId × List ℕ)) → Stores (expires_if key o) → P key
      expiring None stores = absurd stores
      expiring (Some wait) stores = none_on wait.1 (expires wait.0) (λ none. none) stores

      stores_at : (body : Body) → IsAsked body → Stores (event_at key s body) → P key
      stores_at (Chain (LqhKeyReq tx asked chain at)) here stores =
          let q : Request = record { tx = tx; work = asked; chain = chain; at = at } in
          stores_on (work_key asked) (asks q (is_refused (storage_of s) q)) here stores
      stores_at (Chain (Commit tx own epoch chain at)) here stores =
          none_on own (commits tx _) (λ none. none) stores
      stores_at (Chain (Complete tx own chain at)) here stores = none_on own (completes tx) (λ none. none) stores
      stores_at (Chain (Abort tx own)) here stores = none_on own (aborts tx) (λ none. none) stores
      stores_at (Host (Continue work.Granted at)) here stores =
          serving (first (is_granted s.locks) s.waiting) refl stores
      stores_at (Host Round) here stores = absurd stores
      stores_at (Host (Continue work.Expired at)) here stores = expiring (expired s.locks) stores
      stores_at body here stores = absurd stores

    -- so it stays at each signal
    module _ (s : ReplicaState) (x : Signal) (well : IsWell s.lqh) (asked : IsAsked x.body) (waits : AllWait s.lqh)
      where
        unless : (stale : Bool) → Stores (event_if (event_at key s.lqh x.body) stale) → P key
        unless true stores = absurd stores
        unless false stores = stores_at s.lqh waits x.body asked stores

        stores_by : (body : Body) → Stores (event_by key s x body) → P key
        stores_by (Membership (FenceReq proposal)) stores = absurd stores
        stores_by (Takeover LqhTransReq) stores = absurd stores
        stores_by (Host (Continue work.Report at)) stores = absurd stores
        stores_by (Host (Continue work.Granted at)) stores = unless (is_stale s x) stores
        stores_by (Host (Continue work.Expired at)) stores = unless (is_stale s x) stores
        stores_by (Epoch signal) stores = absurd stores
        stores_by _ stores = stores_at s.lqh waits x.body asked stores

        row_keeps : IsEmptyOr key s → IsEmptyOr key (replica_row s x).state
        row_keeps was =
            subst (λ (r : Replica). (r.cell.pending ≡ []) ⊎ P key) (sym (signals_are_events s x key well))
            (behind (event_under key s x) (at_key key s.lqh) (stores_by x.body) was)

-- whoever is in turn began with the life
begun : (m : Member) → m.start ≡ 0 → m ≡ first_start m.node
begun m is = λ i. record { node = m.node; start = is i }

module _ (start : Start) where
  -- the member of the node that began with the life is in turn for the key in some view
  record WasChained (node : ℕ) (key : List ℕ) : Type 0 where
    view : View
    there : IsIn (first_start node) (in_turn start.shape view (frag_of start.shape key) start.shape.replicas)

  turns_begun : (view : View) (fragment n : ℕ)
      → Each (λ (m : Member). m.start ≡ 0) (in_turn start.shape view fragment n)
  turns_begun view fragment zero = tt
  turns_begun view fragment (suc n) =
      each_append (λ (m : Member). m.start ≡ 0) (in_turn start.shape view fragment n) _
      (turns_begun view fragment n) (by (is_full view (first_start (node_in_turn start.shape fragment n))))
    where
      by : (b : Bool) → Each (λ (m : Member). m.start ≡ 0)
          (cond b (first_start (node_in_turn start.shape fragment n) ∷ []) [])
      by true = (refl, tt)
      by false = tt

  -- a place of a chain has a member
  record HasMember (chain : List Member) (at : ℕ) : Type 0 where
    member : Member
    there : IsIn member chain
    node_is : node_at chain at ≡ member.node

  member_there : (chain : List Member) (at : ℕ) → at < length chain → HasMember chain at
  member_there [] zero low = absurd (omega (arith, low))
  member_there [] (suc at) low = absurd (omega (arith, low))
  member_there (m ∷ chain) zero low = record { member = m; there = inl refl; node_is = refl }
  member_there (m ∷ chain) (suc at) low =
      let more = member_there chain at (omega (arith, low)) in
      record { member = more.member; there = inr more.there; node_is = more.node_is }

  -- so it is of whom a request is for
  request_chained : IsShape start.shape → (view : View) → NobodyLater view → (to : Place) (q : Request) (node : ℕ)
      → IsRequestRouted (layout_in start view) to q → to ≡ rows_of node → WasChained node (work_key q.work)
  request_chained shape view later to q node routed is = record {
    view = view;
    there =
        subst (λ m. IsIn m (in_turn start.shape view (frag_of start.shape (work_key q.work)) start.shape.replicas))
        (begun has.member
        (each_in (λ (m : Member). m.start ≡ 0) has.member
        (in_turn start.shape view (frag_of start.shape (work_key q.work)) start.shape.replicas)
        (turns_begun view (frag_of start.shape (work_key q.work)) start.shape.replicas) there)
        ∙ ap first_start (sym has.node_is ∙ ap (λ (p : Place). p.node) (sym routed.place ∙ is)))
        there;
  }
    where
      has : HasMember q.chain q.at
      has = member_there q.chain q.at routed.inside

      there : IsIn has.member (in_turn start.shape view (frag_of start.shape (work_key q.work)) start.shape.replicas)
      there =
          in_turns start (work_key q.work) shape view later has.member (subst (IsIn has.member) routed.chain has.there)

  abbrev ArePlaced : (ℕ → List HostStep) → Member → Type 0
  ArePlaced logs member = (key : List ℕ) → IsEmptyOr (WasChained member.node) key (rows_at start logs member)

  module _ (all : ℕ → List HostStep) (e : HostStep) (es : List HostStep) (moment : IsMoment start all (e ∷ es))
      (member : Member) (there : IsIn member (made start)) (placed : ArePlaced (logs_of start es) member)
    where
      abbrev old : ℕ → List HostStep
      old = logs_of start es

      abbrev new : ℕ → List HostStep
      new = logs_of start (e ∷ es)

      abbrev x : Signal
      x = e.step.taken

      abbrev P : List ℕ → Type 0
      P = WasChained member.node

      less : IsMoment start all es
      less = moment_less start all e es moment

      module _ (s : ReplicaState) (between : IsBetween start all e es moment member there s)
          (taken : IsTakenAt start all e es moment member there s)
        where
          well : IsWell s.lqh
          well = well_between start all e es moment member there s between

          was : (key : List ℕ) → IsEmptyOr P key s
          was key = between_so start all e es moment member there (IsEmptyOr P key) s between (placed key)
              (λ view. placed key)

          -- the view in which its rows stood was installed
          stood_installed : WasInstalled start all (view_of_ldm start (logs_of start es) member)
          stood_installed = installed_at start moment.cluster.nobody all (ldm_of start member)
              (ldm_low start moment.cluster.nobody member there)
              (old (ldm_of start member)) (less.inside (ldm_of start member))

          waits : AllWait P s.lqh
          waits = between_so start all e es moment member there (λ s. AllWait P s.lqh) s between own (λ view. tt)
            where
              own : AllWait P (rows_at start old member).lqh
              own =
                  each_map _ (λ (q : Request). P (work_key q.work)) (rows_at start old member).lqh.waiting
                  (λ q routed.
                  request_chained moment.cluster.shape (view_of_ldm start old member)
                  (nobody_later start all moment.cluster (view_of_ldm start old member) stood_installed)
                  (rows_of (rows_at start old member).lqh.node) q member.node routed.0
                  (ap rows_of (rows_know_node start moment.cluster.nobody member there (old (ldm_of start member)))))
                  ((signals_are_routed start all es less).rows member there)

          asked : IsAsked P x.body
          asked = by x.body refl
            where
              by : (body : Body) → x.body ≡ body → IsAsked P body
              by (Chain (LqhKeyReq tx asked chain at)) is =
                  request_chained moment.cluster.shape x.view
                  (nobody_later start all moment.cluster x.view
                  (subst (WasInstalled start all) (sym header) (own_installed start all e es moment)))
                  x.to (record { tx = tx; work = asked; chain = chain; at = at }) member.node
                  (subst
                  (IsRouted (layout_in start x.view) (WasAskedIn start old x.view) (WasDrivenIn start old x.view)
                  (IsGivenUp start old) x.to) is
                  (told_of start all e es moment (IsRoutedSignal start old)
                  (signals_are_routed start all es less).signals taken.now.sound (ap is_of_rows is))).0
                  (is_for_rows start all e es moment member there taken.at taken.now.sound taken.now.block
                  (ap is_of_rows is))
                where
                  header : x.view ≡ view_after start e.host (e ∷ old e.host)
                  header =
                      header_is start all e es moment
                      (taken.now.fresh (chain_fenced x (LqhKeyReq tx asked chain at) is)
                      ∙ sym (ap (λ (v : View). v.number) taken.now.stands))
              by body is = tt

          now : (key : List ℕ) → IsEmptyOr P key (rows_at start (logs_of start (e ∷ es)) member)
          now key = subst (IsEmptyOr P key) (sym taken.rows_are) (row_keeps P key s x well asked waits (was key))

      placed_next : ArePlaced (logs_of start (e ∷ es)) member
      placed_next key = by (rows_go start all e es moment member there)
        where
          by : RowsGo start all e es moment member there → IsEmptyOr P key (rows_at start new member)
          by (rest is quiet) = subst (IsEmptyOr P key) (sym is) (placed key)
          by (enter view is quiet) = subst (IsEmptyOr P key) (sym is) (placed key)
          by (take s between taken) = now s between taken key

  none_first : NobodyStarts start → (member : Member) → IsIn member (made start) → (key : List ℕ)
      → (replica_at start (logs_of start []) member key).cell.pending ≡ []
  none_first nobody member there key =
      ap (λ (s : hosts.HostBody). (at_key key (rows_in (no_replica start member) s.parts).lqh).cell.pending)
      (ldm_started start nobody member there)
      ∙ ap (λ (xs : List PendingRecord). map without_epoch (filter (is_on key) xs))
      (none_pending no_rows (own_rows start.shape member.node start.rows) start.start_epoch)

  always_placed : (all : ℕ → List HostStep) (es : List HostStep) → IsMoment start all es → (member : Member)
      → IsIn member (made start) → ArePlaced (logs_of start es) member
  always_placed all [] moment member there = λ key. inl (none_first moment.cluster.nobody member there key)
  always_placed all (e ∷ es) moment member there =
      placed_next all e es moment member there
      (always_placed all es (moment_less start all e es moment) member there)

pub records_are_at_replicas : (start : Start) (all : ℕ → List HostStep) (es : List HostStep) → IsMoment start all es
    → (member : Member) → IsIn member (current start (logs_of start es)).full → (key : List ℕ) (tx : TxId)
    (own : PendingRecord)
    → record_at start (logs_of start es) member key tx ≡ Some own → IsReplicaOf start (logs_of start es) key member
records_are_at_replicas start all es moment member full key tx own is =
    by (always_placed start all es moment member (current_made start all es moment member full) key)
  where
    view : View
    view = current start (logs_of start es)

    later : NobodyLater (current start (logs_of start es))
    later =
        nobody_later start all moment.cluster (current start (logs_of start es)) (moment_installed start all es moment)

    first_is : member ≡ first_start member.node
    first_is = begun member (each_in (λ (m : Member). m.start ≡ 0) member view.full later.full full)

    by : IsEmptyOr (WasChained start member.node) key (rows_at start (logs_of start es) member)
        → IsReplicaOf start (logs_of start es) key member
    by (inl none) =
        absurd (let no : None ≡ Some own = sym (ap (found tx) none) ∙ is in cc)
    by (inr was) = record {
      full = full;
      chained =
          chained start key moment.cluster.shape (current start (logs_of start es)) later member
          (turn_in start.shape (frag_of start.shape key) was.view (current start (logs_of start es))
          start.shape.replicas member
          (subst
          (λ m. IsIn m (in_turn start.shape was.view (frag_of start.shape key) start.shape.replicas)) (sym first_is)
          was.there)
          (any_in (is_member member) member (current start (logs_of start es)).full full (self member)));
    }
