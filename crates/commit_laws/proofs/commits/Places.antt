-- Where rows take a commit or a completion: the record is committed, and the chain is that of the key in the current
-- view, with their member at the place.
use Rattle.std.proofs.Common.{◌≡◌, ◌<◌, ◌==◌, ◌∙◌, ℕ, zero, suc, Bool, true, false, length, List, [], ◌∷◌, refl, sym}
use Rattle.std.proofs.Common.{ap, subst, arith, inl, inr}
use Rattle.std.specs.Prelude.{if◌then◌else◌, Some}
use Rattle.std.specs.List.{slice_get}
use Rattle.run_theory.specs.Lists.{IsIn}
use Rattle.frag_map.specs.Layout.{chain_of}
use Rattle.sig_core.specs.declared.member.Member.{Member}
use Rattle.sig_core.specs.declared.member.TxId.{TxId}
use Rattle.sig_core.specs.declared.place.Place.{Place}
use Rattle.sig_core.specs.declared.signal.Body.TheVariants.{Chain}
use Rattle.sig_core.specs.declared.signal.Signal.{Signal}
use Rattle.sig_core.specs.declared.signal.chain.ChainSignal.{ChainSignal}
use Rattle.sig_core.specs.declared.signal.chain.ChainSignal.TheVariants.{Commit, Complete, LqhKeyReq}
use Rattle.sig_core.specs.declared.signal.chain.RowWork.{RowWork}
use Rattle.sig_core.specs.declared.view.View.{View}
use Rattle.sig_core.specs.Chain.{node_at, node_of}
use Rattle.sig_core.specs.Place.{rows_of}
use Rattle.sig_core.proofs.Keys.{same_key-self}
use Rattle.lqh_views.specs.Replica.{installed}
use Rattle.lqh_views.specs.State.{ReplicaState}
use Rattle.key_laws.specs.Records.{AreOnce, as_committed, edited, found}
use Rattle.key_laws.specs.Replica.{Cell, Event, Replica, at_key, commits, event_at, if_on, key_after, rests}
use Rattle.key_laws.proofs.RecordLemmas.{committed_keeps}
use Rattle.host_laws.specs.ReplicaLaws.{IsWell}
use Rattle.sig_core.specs.Work.{work_key}
use Rattle.run_laws.specs.Routes.{IsWorkAt}
use Rattle.world_core.specs.Start.{Start, made}
use Rattle.world_core.specs.Steps.{Addressed, HostStep}
use Rattle.view_laws.proofs.runs.FirstMembers.{made_same}
use Rattle.moment_laws.specs.Moments.{IsMoment, current, logs_of}
use Rattle.moment_laws.specs.Places.{ldm_of}
use Rattle.moment_laws.proofs.MomentMembers.{current_made}
use Rattle.moment_laws.proofs.MomentViews.{moment_less}
use Rattle.outcome_laws.specs.Counts.{coordinator_member}
use Rattle.request_laws.specs.Replicas.{event_by}
use Rattle.request_laws.specs.Routed.{IsGivenUp, IsRoutedSignal, WasAskedIn, WasDrivenIn, layout_in}
use Rattle.request_laws.specs.Routes.{IsCommitRouted, IsCompletionRouted, IsRouted, IsRequestRouted}
use Rattle.request_laws.proofs.replicas.KeyEvents.{signals_are_events}
use Rattle.request_laws.proofs.routes.All.{signals_are_routed}
use Rattle.request_laws.proofs.routes.BesideRows.{is_of_rows}
use Rattle.request_laws.proofs.routes.Headers.{chain_fenced, header_is}
use Rattle.request_laws.proofs.routes.Places.{is_for_rows}
use Rattle.commit_laws.specs.Commits.{HasWritten}
use Rattle.commit_laws.specs.Traces.{IsReplicaOf, record_at, replica_at, rows_at}
use Rattle.commit_laws.specs.Whole.{CommitsGoWhole, GoesWhole}
use Rattle.commit_laws.proofs.records.KeyGoes.{TakesNow}
use Rattle.commit_laws.proofs.records.Moves.{found_own, now_by}
use Rattle.commit_laws.proofs.records.Once.{rows_once, well_between}
use Rattle.commit_laws.proofs.records.Replicas.{chain_replica, replica_made}
use Rattle.commit_laws.proofs.hosts.RowsTurn.{between_so}
use Rattle.commit_laws.proofs.links.TakenChains.{chain_current, chain_told}

-- what stands at a place is one of the list
pub in_at : {A : Type 0} (xs : List A) (at : ℕ) (x : A) → slice_get xs at ≡ Some x → IsIn x xs
in_at [] at x there = absurd cc
in_at (y ∷ xs) zero x there = inl cc
in_at (y ∷ xs) (suc at) x there = inr (in_at xs at x there)

-- and one of the list has a place
pub record HasPlace (xs : List Member) (x : Member) : Type 0 where
  pub at : ℕ
  pub is : slice_get xs at ≡ Some x

pub place_of : (xs : List Member) (x : Member) → IsIn x xs → HasPlace xs x
place_of [] x there = absurd there
place_of (y ∷ xs) x (inl same) = record { at = 0; is = ap (λ z. Some z) (sym same) }
place_of (y ∷ xs) x (inr there) = let one = place_of xs x there in record { at = suc one.at; is = one.is }

-- a place within a list has a member
pub record At (xs : List Member) (at : ℕ) : Type 0 where
  pub one : Member
  pub is : slice_get xs at ≡ Some one

pub within_at : (xs : List Member) (at : ℕ) → at < length xs → At xs at
within_at [] at inside = absurd (omega (arith, inside))
within_at (x ∷ xs) zero inside = record { one = x; is = refl }
within_at (x ∷ xs) (suc at) inside =
    let rest = within_at xs at (omega (arith, inside)) in record { one = rest.one; is = rest.is }

module _ (start : Start) (all : ℕ → List HostStep) (e : HostStep) (es : List HostStep)
    (moment : IsMoment start all (e ∷ es)) (member : Member) (there : IsIn member (made start))
    (takes : TakesNow start all e es moment member there)
  where
    abbrev old : ℕ → List HostStep
    old = logs_of start es

    abbrev new : ℕ → List HostStep
    new = logs_of start (e ∷ es)

    abbrev x : Signal
    x = e.step.taken

    abbrev s : ReplicaState
    s = takes.rows

    abbrev before : IsMoment start all es
    before = moment_less start all e es moment

    pub as_before : (P : ReplicaState → Type 0) → P (rows_at start old member)
        → ((view : View) → P (installed (rows_at start old member) view)) → P takes.rows
    as_before P = between_so start all e es moment member there P s takes.between

    pub well : IsWell takes.rows.lqh
    well = well_between start all e es moment member there s takes.between

    pub cell_before : (key : List ℕ) → (at_key key takes.rows.lqh).cell ≡ (replica_at start old member key).cell
    cell_before key =
        as_before (λ s. (at_key key s.lqh).cell ≡ (replica_at start old member key).cell) refl (λ view. refl)

    -- the key behind a signal about a chain
    pub chain_event : (signal : ChainSignal) → e.step.taken.body ≡ Chain signal → (key : List ℕ)
        → replica_at start new member key
        ≡ key_after (event_at key takes.rows.lqh (Chain signal)) (at_key key takes.rows.lqh)
    chain_event signal is key =
        ap (λ (s : ReplicaState). at_key key s.lqh) takes.taken.rows_are
        ∙ (signals_are_events s x key well
        ∙ ap (λ event. key_after event (at_key key s.lqh)) (ap (event_by key s x) is ∙ ap (event_at key s.lqh) is))

    pub on_self : (key : List ℕ) (event : Event) → if_on key key event ≡ event
    on_self key event = ap (λ b. if b then event else rests) (same_key-self key)

    module _ (tx : TxId) (key : List ℕ) (epoch : ℕ) (chain : List Member) (at : ℕ)
        (about : e.step.taken.body ≡ Chain (Commit tx key epoch chain at))
      where
        pub commit_event : replica_at start new member key
            ≡ key_after (commits tx (at == 0)) (at_key key takes.rows.lqh)
        commit_event =
            chain_event (Commit tx key epoch chain at) about key
            ∙ ap (λ event. key_after event (at_key key s.lqh)) (on_self key (commits tx (at == 0)))

        -- the record is committed
        pub commit_record : record_at start new member key tx ≡ now_by as_committed (record_at start old member key tx)
        commit_record =
            ap (λ (r : Replica). found tx r.cell.pending) commit_event
            ∙ (by (at == 0)
            ∙ (found_own as_committed committed_keeps tx (at_key key s.lqh).cell.pending once
            ∙ ap (λ (c : Cell). now_by as_committed (found tx c.pending)) (cell_before key)))
          where
            once : AreOnce (at_key key s.lqh).cell.pending
            once =
                subst (λ (c : Cell). AreOnce c.pending) (sym (cell_before key))
                (rows_once start moment.cluster.nobody member there (old (ldm_of start member)) key)

            by : (first : Bool) → found tx (key_after (commits tx first) (at_key key s.lqh)).cell.pending
                ≡ found tx (edited as_committed tx (at_key key s.lqh).cell.pending)
            by true = refl
            by false = refl

    -- the header is the current view
    module _ (signal : ChainSignal) (is : e.step.taken.body ≡ Chain signal) where
      header : e.step.taken.view ≡ current start old
      header =
          header_is start all e es moment
          (takes.now.fresh (chain_fenced x signal is) ∙ sym (ap (λ (v : View). v.number) takes.now.stands))
          ∙ (takes.now.stands ∙ chain_current start all e es moment takes.now signal is)

      routed : IsRouted (layout_in start (current start old)) (WasAskedIn start old (current start old))
          (WasDrivenIn start old (current start old)) (IsGivenUp start old) x.to (Chain signal)
      routed =
          subst (λ v. IsRouted (layout_in start v) (WasAskedIn start old v) (WasDrivenIn start old v)
          (IsGivenUp start old) x.to
          (Chain signal)) header
          (subst (IsRouted (layout_in start x.view) (WasAskedIn start old x.view) (WasDrivenIn start old x.view)
          (IsGivenUp start old) x.to) is
          (chain_told start all e es moment takes.now signal is (IsRoutedSignal start old)
          (signals_are_routed start all es before).signals))

      placed : x.to ≡ rows_of member.node
      placed = is_for_rows start all e es moment member there takes.at takes.now.sound takes.now.block
          (ap is_of_rows is)

      -- who stands at the place to which it went
      module _ (key : List ℕ) (chain : List Member) (at : ℕ)
          (along : chain ≡ chain_of (layout_in start (current start old)) key) (inside : at < length chain)
          (place : x.to ≡ rows_of (node_at chain at)) where
        taker_place : slice_get (chain_of (layout_in start (current start old)) key) at ≡ Some member
        taker_place = subst (λ ms. slice_get ms at ≡ Some member) along (one.is ∙ ap (λ m. Some m) same)
          where
            one : At chain at
            one = within_at chain at inside

            replica : IsReplicaOf start old key one.one
            replica =
                chain_replica start all es before key one.one
                (subst (IsIn one.one) along (in_at chain at one.one one.is))

            nodes : one.one.node ≡ member.node
            nodes =
                sym (ap node_of one.is)
                ∙ ap (λ (p : Place). p.node) (sym place ∙ placed)

            same : one.one ≡ member
            same =
                made_same start moment.cluster.nobody one.one member
                (replica_made start all es before key one.one replica) there nodes

    -- of a commit of a key that was written
    pub commit_place : (whole : CommitsGoWhole) (tx : TxId) (key : List ℕ) (epoch : ℕ) (chain : List Member) (at : ℕ)
        → e.step.taken.body ≡ Chain (Commit tx key epoch chain at) → HasWritten start old tx key
        → (chain ≡ chain_of (layout_in start (current start old)) key)
        × (slice_get (chain_of (layout_in start (current start old)) key) at ≡ Some member)
    commit_place whole tx key epoch chain at about written =
        (along, taker_place (Commit tx key epoch chain at) about key chain at along way.0.inside way.0.place)
      where
        way : IsCommitRouted (layout_in start (current start old)) x.to key chain at
            × WasDrivenIn start old (current start old) tx
        way = routed (Commit tx key epoch chain at) about

        along : chain ≡ chain_of (layout_in start (current start old)) key
        along =
            subst (λ v. chain ≡ chain_of (layout_in start v) key) (header (Commit tx key epoch chain at) about)
            (subst (GoesWhole start old x.view) about
            (chain_told start all e es moment takes.now (Commit tx key epoch chain at) about
            (λ (y : Addressed). GoesWhole start old y.signal.view y.signal.body) (whole start all es before)) written)

    -- and of a completion
    pub complete_place : (tx : TxId) (key : List ℕ) (chain : List Member) (at : ℕ)
        → e.step.taken.body ≡ Chain (Complete tx key chain at) → IsReplicaOf start old key member
    complete_place tx key chain at about =
        chain_replica start all es before key member
        (in_at (chain_of (layout_in start (current start old)) key) at member
        (taker_place (Complete tx key chain at) about key chain at way.0.along way.0.inside way.0.place))
      where
        way : IsCompletionRouted (layout_in start (current start old)) x.to key chain at
            × WasDrivenIn start old (current start old) tx
        way = routed (Complete tx key chain at) about

    -- who asks for an operation was made
    pub asker_made : (tx : TxId) (asked : RowWork) (chain : List Member) (at : ℕ)
        → e.step.taken.body ≡ Chain (LqhKeyReq tx asked chain at) → IsIn (coordinator_member tx) (made start)
    asker_made tx asked chain at about =
        current_made start all es before (coordinator_member tx) (routed (LqhKeyReq tx asked chain at) about).1.full

    -- and of a request
    pub request_place : (tx : TxId) (w : RowWork) (chain : List Member) (at : ℕ)
        → e.step.taken.body ≡ Chain (LqhKeyReq tx w chain at)
        → (chain ≡ chain_of (layout_in start (current start (logs_of start es))) (work_key w))
        × ((slice_get (chain_of (layout_in start (current start (logs_of start es))) (work_key w)) at ≡ Some member)
        × IsWorkAt at w)
    request_place tx w chain at about = (
      way.0.chain,
      (
        taker_place (LqhKeyReq tx w chain at) about (work_key w) chain at way.0.chain way.0.inside way.0.place,
        way.0.work,
      ),
    )
      where
        way : IsRequestRouted (layout_in start (current start old)) x.to
            (record { tx = tx; work = w; chain = chain; at = at })
            × WasAskedIn start old (current start old) tx
        way = routed (LqhKeyReq tx w chain at) about
