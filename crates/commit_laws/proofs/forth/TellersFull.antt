-- The client's side acknowledges the word of coordinators alone that are full members of the current view.
use Rattle.std.proofs.Common.{◌≡◌, ◌≤◌, ◌⊎◌, ◌==◌, ◌&&◌, ◌||◌, ◌++◌, ◌∙◌, ℕ, Bool, true, false, List, [], ◌∷◌, refl}
use Rattle.std.proofs.Common.{sym, ap, subst, inl, inr}
use Rattle.std.proofs.lemmas.Bool.{and_parts, eq-eqb, eqb-true, or_cases, true≢false}
use Rattle.sig_core.specs.declared.member.Member.{Member}
use Rattle.sig_core.specs.declared.member.TxId.{TxId}
use Rattle.sig_core.specs.declared.outs.Outgoing.{Outgoing}
use Rattle.sig_core.specs.declared.place.BlockId.{BlockId}
use Rattle.sig_core.specs.declared.place.BlockId.TheVariants as block
use Rattle.sig_core.specs.declared.signal.Body.{Body}
use Rattle.sig_core.specs.declared.signal.Body.TheVariants.{Client}
use Rattle.sig_core.specs.declared.signal.Signal.{Signal}
use Rattle.sig_core.specs.declared.signal.client.ClientSignal.TheVariants.{TcCommitAck, TcCommitConf}
use Rattle.sig_core.specs.declared.view.View.{View}
use Rattle.api_views.specs.Client.{client_row, client_table, is_known as is_vouched, vouched_table}
use Rattle.api_views.specs.Members.{is_among, is_member, noted, same_member}
use Rattle.api_views.specs.State.{ClientState}
use Rattle.arbiter_block.specs.Arbiter.{arbiter_row}
use Rattle.lqh_block.specs.Views.{is_coordinated, was_begun_by}
use Rattle.node_views.specs.Parts.{shell_row}
use Rattle.node_views.specs.WellFormed.{is_well_formed}
use Rattle.world_core.specs.Start.{Start}
use Rattle.world_core.specs.Steps.{HostStep}
use Rattle.world_views.specs.Machine.{IsOwnWork, step_after}
use Rattle.view_laws.specs.Runs.{view_after}
use Rattle.moment_laws.specs.Moments.{IsMoment, current, logs_of}
use Rattle.moment_laws.specs.PartSteps.{PartEnters, PartTakes, ShellDoes, handles, ignores, installs, remains}
use Rattle.moment_laws.specs.PartSteps.{shell_kind}
use Rattle.moment_laws.proofs.MomentSignals.{taken_told}
use Rattle.moment_laws.proofs.MomentTurns.{taker_stands}
use Rattle.moment_laws.proofs.MomentViews.{moment_installed, moment_less}
use Rattle.outcome_laws.specs.Counts.{coordinator_member}
use Rattle.outcome_laws.proofs.knowledge.TellsNothing.{AreUntold, IsUntold}
use Rattle.outcome_laws.proofs.knowledge.Parts.{arbiter_tells_nothing}
use Rattle.request_laws.specs.Ways.{is_sent}
use Rattle.request_laws.proofs.routes.PartsOfTheFirst.{nobody_later}
use Rattle.request_laws.proofs.routes.ChainsStay.{any_in}
use Rattle.commit_laws.specs.Fates.{is_led_by_full}
use Rattle.commit_laws.specs.Traces.{is_acknowledgement}
use Rattle.commit_laws.proofs.commits.Step.{not_closing}
use Rattle.commit_laws.proofs.views.AtEvents.{led_was}
use Rattle.commit_laws.proofs.forth.OwnTellers.{IsOfOwn, IsToldByOwn, own_tellers}
use Rattle.commit_laws.proofs.hosts.ShellSees.{IsSeeing, did, noted_sees, seeing}
use Rattle.commit_laws.proofs.hosts.SomePasses.{passing}

-- what tells nothing acknowledges nothing
pub untold_off : (tx : TxId) (sends : List Outgoing) → AreUntold sends → is_sent (is_acknowledgement tx) sends ≡ false
untold_off tx [] none = refl
untold_off tx (o ∷ sends) none =
    ap (λ b. b || is_sent (is_acknowledgement tx) sends) (by o.body none.0) ∙ untold_off tx sends none.1
  where
    by : (body : Body) → IsUntold (record o { body = body }) → is_acknowledgement tx body ≡ false
    by (Client (TcCommitAck other)) off = absurd cc
    by body off = refl

-- who is among members of a view, of which none is starting, is a full one that began its transactions
module _ (tx : TxId) where
  same_begun : (m : Member) → same_member (coordinator_member tx) m ≡ true → was_begun_by tx m ≡ true
  same_begun m is =
      let parts = and_parts (tx.tc == m.node) (tx.start == m.start) is in
      ap (λ b. b && (m.start == tx.start)) (eq-eqb m.node tx.tc (sym (eqb-true tx.tc m.node parts.0)))
      ∙ eq-eqb m.start tx.start (sym (eqb-true tx.start m.start parts.1))

  member_leads : (view : View) → view.starting ≡ [] → is_member view (coordinator_member tx) ≡ true
      → is_coordinated view.full tx ≡ true
  unfolding is_member
  member_leads view none is =
      by (or_cases (is_among view.full (coordinator_member tx)) (is_among view.starting (coordinator_member tx)) is)
    where
      by : (is_among view.full (coordinator_member tx) ≡ true)
          ⊎ (is_among view.starting (coordinator_member tx) ≡ true) → is_coordinated view.full tx ≡ true
      by (inl among) =
          let one = passing (same_member (coordinator_member tx)) view.full among in
          any_in (was_begun_by tx) one.item view.full one.there (same_begun one.item one.is)
      by (inr among) =
          absurd (true≢false (sym among ∙ ap (λ ms. is_among ms (coordinator_member tx)) none))

-- the client's side is told of a commit by whom it doesn't know: it sends nothing
module _ (tx : TxId) (epoch : ℕ) (x : Signal) (body_is : x.body ≡ Client (TcCommitConf tx epoch)) where
  unvouched : (s : ClientState) → is_vouched (noted s x.view) x ≡ false → (client_row s x).effects.sends ≡ []
  unvouched s off =
      ap (λ body. (client_table (noted s x.view) x body).effects.sends) body_is
      ∙ (ap (λ body. (vouched_table (noted s x.view) x body (is_vouched (noted s x.view) x)).effects.sends) body_is
      ∙ ap (λ b. (vouched_table (noted s x.view) x (Client (TcCommitConf tx epoch)) b).effects.sends) off)

  vouched : (s : ClientState) (other : TxId)
      → is_sent (is_acknowledgement other) (client_row s x).effects.sends ≡ true
      → is_vouched (noted s x.view) x ≡ true
  vouched s other is = by (is_vouched (noted s x.view) x) refl
    where
      by : (b : Bool) → is_vouched (noted s x.view) x ≡ b → b ≡ true
      by true known = refl
      by false off =
          absurd (true≢false (sym is ∙ ap (is_sent (is_acknowledgement other)) (unvouched s off)))

module _ (start : Start) (all : ℕ → List HostStep) (e : HostStep) (es : List HostStep)
    (moment : IsMoment start all (e ∷ es)) (at : e.host ≡ 0)
    (sound : is_well_formed start.shape e.step.taken ≡ true) (tx : TxId) (epoch : ℕ)
    (body_is : e.step.taken.body ≡ Client (TcCommitConf tx epoch))
    (sends_it : is_sent (is_acknowledgement tx) (step_after start 0 (logs_of start es 0) e).effects.sends ≡ true)
  where
    abbrev old : ℕ → List HostStep
    old = logs_of start es

    abbrev new : ℕ → List HostStep
    new = logs_of start (e ∷ es)

    abbrev x : Signal
    x = e.step.taken

    abbrev log : List HostStep
    log = logs_of start es 0

    abbrev seen : View
    seen = view_after start 0 (e ∷ logs_of start es 0)

    abbrev sends : List Outgoing
    sends = (step_after start 0 (logs_of start es 0) e).effects.sends

    now : IsSeeing start (logs_of start es 0)
    now = seeing start moment.cluster.nobody (logs_of start es 0)

    step : ShellDoes start.shape now.part (view_after start 0 (logs_of start es 0)) e.step.taken
        (step_after start 0 (logs_of start es 0) e).state.parts (view_after start 0 (e ∷ logs_of start es 0))
        (step_after start 0 (logs_of start es 0) e).effects.sends
    step = did start moment.cluster.nobody (logs_of start es 0) e now.part now.runs now.sees

    -- nothing acknowledges nothing
    nothing : {G : Type 0} (os : List Outgoing) → os ≡ [] → is_sent (is_acknowledgement tx) os ≡ true → G
    nothing os none is = absurd (true≢false (sym is ∙ ap (is_sent (is_acknowledgement tx)) none))

    front_none : PartEnters shell_kind now.part (view_after start 0 log) x step.between seen step.front
        → step.front ≡ []
    front_none (remains same stands none) = none
    front_none (installs above same stands is) = is

    rest_sends : is_sent (is_acknowledgement tx) step.rest ≡ true
    rest_sends = by step.sent
      where
        by : (sends ≡ step.front ++ step.rest) ⊎ (sends ≡ []) → is_sent (is_acknowledgement tx) step.rest ≡ true
        by (inl whole) =
            sym (ap (is_sent (is_acknowledgement tx))
            (whole ∙ ap (λ front. front ++ step.rest) (front_none step.enters))) ∙ sends_it
        by (inr none) = nothing sends none sends_it

    -- the client's side takes it, and knows the member in the view in which the host stands
    record IsVouched : Type 0 where
      low : x.view.number ≤ seen.number
      known : is_member seen x.member ≡ true

    row_vouched : x.view.number ≤ seen.number → (b : BlockId)
        → is_sent (is_acknowledgement tx) (shell_row step.between b x).effects.sends ≡ true → IsVouched
    unfolding shell_row step
    row_vouched low block.Api is = record {
      low = low;
      known =
          ap (λ view. is_member view x.member)
          (sym (noted_sees start moment.cluster.nobody (logs_of start es 0) e now.part now.runs now.sees low))
          ∙ vouched tx epoch x body_is step.between.client tx is;
    }
    row_vouched low block.Arbiter is =
        absurd (true≢false (sym is
        ∙ untold_off tx (arbiter_row step.between.arbiter x).effects.sends
        (arbiter_tells_nothing step.between.arbiter x).0))
    row_vouched low _ is = absurd (true≢false (sym is))

    takes_vouched : PartTakes shell_kind start.shape step.between seen x step.own step.rest → IsVouched
    takes_vouched (ignores same none) = nothing step.rest none rest_sends
    takes_vouched (handles passed same is) =
        row_vouched passed.low x.to.block (sym (ap (is_sent (is_acknowledgement tx)) is) ∙ rest_sends)

    is_known_there : IsVouched
    is_known_there = takes_vouched step.takes

    -- that is the current view
    stands : seen ≡ current start new
    stands =
        ap (λ h. view_after start h (e ∷ old h)) (sym at)
        ∙ taker_stands start all e es moment
        (subst (λ h. x.view.number ≤ (view_after start h (e ∷ old h)).number) (sym at) is_known_there.low)

    own : coordinator_member tx ≡ x.member
    own =
        subst (IsOfOwn x.member) body_is
        (taken_told start IsToldByOwn all e es moment
        (own_tellers start all es (moment_less start all e es moment)) sound
        (λ work. absurd (subst (IsOwnWork start e.host) body_is work))
        (not_closing (TcCommitConf tx epoch) x.body body_is))

    pub teller_full : is_led_by_full start (logs_of start es) tx ≡ true
    teller_full =
        led_was start all e es moment tx
        (member_leads tx (current start new)
        (nobody_later start all moment.cluster (current start new)
        (moment_installed start all (e ∷ es) moment)).starting
        (ap (is_member (current start new)) own
        ∙ (ap (λ view. is_member view x.member) (sym stands) ∙ is_known_there.known)))
