-- What is told takeovers of transactions is for takeovers.
use Rattle.std.proofs.Common.{◌≡◌, ◌∙◌, ℕ, Bool, true, false, List, [], ◌∷◌, refl, sym, ap, subst}
use Rattle.std.specs.Prelude.{Option, None, Some}
use Rattle.run_theory.specs.Lists.{Each, IsIn}
use Rattle.sig_core.specs.declared.outs.Outgoing.{Outgoing}
use Rattle.sig_core.specs.declared.signal.Body.{Body}
use Rattle.sig_core.specs.declared.signal.Body.TheVariants.{Host, Takeover}
use Rattle.sig_core.specs.declared.signal.Signal.{Signal}
use Rattle.sig_core.specs.declared.signal.host.HostSignal.TheVariants.{Closed}
use Rattle.sig_core.specs.declared.signal.takeover.TakeoverSignal.TheVariants.{LqhTransConf}
use Rattle.sig_core.specs.declared.view.View.{View}
use Rattle.lqh_block.specs.declared.request.Request.{Request}
use Rattle.lqh_views.proofs.Walk.{replica_sends_each}
use Rattle.lqh_block.proofs.EachLqh.{RequestSends}
use Rattle.lqh_views.specs.Address.{about, addressed, owned_by, owned_if, to_takeover}
use Rattle.lqh_views.specs.Replica.{replica_row}
use Rattle.lqh_views.specs.State.{ReplicaState}
use Rattle.run_theory.proofs.Pasts.{each_map}
use Rattle.sig_core.specs.declared.member.Member.{Member}
use Rattle.sig_core.specs.declared.member.TxId.{TxId}
use Rattle.sig_core.specs.declared.place.BlockId.TheVariants as block
use Rattle.sig_core.specs.declared.place.Place.{Place}
use Rattle.sig_core.specs.Place.{takeover}
use Rattle.lqh_block.specs.Views.{is_coordinated}
use Rattle.world_core.specs.Start.{Start, made}
use Rattle.world_core.specs.Steps.{Addressed, HostStep}
use Rattle.world_views.specs.Machine.{IsOwnWork, step_after}
use Rattle.view_laws.specs.Runs.{view_after}
use Rattle.moment_laws.specs.Moments.{IsMoment, logs_of}
use Rattle.moment_laws.specs.PartSteps.{tc_kind}
use Rattle.moment_laws.specs.Places.{ldm_of}
use Rattle.moment_laws.proofs.MomentSignals.{EachSent, sent_next, taken_told}
use Rattle.moment_laws.proofs.MomentTurns.{host_low}
use Rattle.moment_laws.proofs.MomentViews.{moment_less}
use Rattle.request_laws.proofs.routes.Headers.{sent_so}
use Rattle.request_laws.proofs.routes.Hosts.{PartHost, beside_sends, coordinates, is_beside, keeps_rows, part_host}
use Rattle.request_laws.proofs.routes.PartSteps.{TcStep, tc_step}
use Rattle.commit_laws.specs.Telling.{TellingsAreForTakeovers}
use Rattle.node_views.specs.Parts.{tc_entered, tc_row}
use Rattle.commit_laws.proofs.hosts.PartEach.{part_each}
use Rattle.commit_laws.proofs.hosts.RowsTurn.{rows_each}
use Rattle.commit_laws.proofs.hosts.SaverGoes.{of_saver}
use Rattle.commit_laws.proofs.takeover.Reports.{Fated, AreFated, IsFated, all_aside_fated, tc_enters_fated, tc_fated}

-- the body tells of a transaction, and is for a takeover
abbrev pub IsFor : Place → Body → Type 0
IsFor to (Takeover (LqhTransConf tx key told epoch)) = to.block ≡ block.Takeover
IsFor to body = Unit {0}

abbrev IsPlaced : Outgoing → Type 0
IsPlaced o = IsFor o.to o.body

abbrev ArePlaced : List Outgoing → Type 0
ArePlaced sends = Each (λ (o : Outgoing). IsFor o.to o.body) sends

-- rows

takeover_for : (node : ℕ) (body : Body) → IsFor (takeover node) body
takeover_for node (Takeover (LqhTransConf tx key told epoch)) = refl
takeover_for node body = tt

moved_for : (view : View) (o : Outgoing) → IsPlaced o → IsPlaced (addressed view o)
unfolding addressed
moved_for view o placed = by (about o.body)
  where
    by_full : (full : List Member) → IsPlaced (to_takeover full o)
    by_full [] = placed
    by_full (oldest ∷ others) = takeover_for oldest.node o.body

    by_if : (full : List Member) (b : Bool) → IsPlaced (owned_if full o b)
    by_if full true = placed
    by_if full false = by_full full

    by : (about : Option TxId) → IsPlaced (owned_by view.full o about)
    by None = placed
    by (Some tx) = by_if view.full (is_coordinated view.full tx)

rows_placed : (s : ReplicaState) (x : Signal) → ArePlaced (replica_row s x).effects.sends
rows_placed s x =
    replica_sends_each s x IsPlaced (λ of_rows. record {
      asked = λ r is. request_placed r;
      waited = λ at r is. request_placed r;
      grants_more = moved _ tt;
      expires_more = moved _ tt;
      commits_on = λ tx key epoch chain at is behind. moved _ tt;
      committed = λ tx key epoch chain at is first. moved _ tt;
      completes_on = λ tx key chain at is behind. moved _ tt;
      completed = λ tx key chain at is first. moved _ tt;
      aborted = λ tx key is. moved _ tt;
      gives_up = λ tx key is. moved _ tt;
      times_out = λ tx key. moved _ tt;
      waits = λ tx key ahead is there. moved _ tt;
      dumps = λ at rows next is. moved _ tt;
    }) (record {
      promises = λ proposal is. tt;
      closes = λ epoch is. tt;
      saves = λ epoch is. tt;
      states = λ is. tt;
      tells_committed = λ r under_way at one there is. refl;
      tells_prepared = λ r under_way at one there is. refl;
      tells_marker = λ r under_way at m there. refl;
      reports_on = λ r under_way. tt;
      ends = λ r under_way. tt;
    })
  where
    moved : (o : Outgoing) → IsPlaced o → IsPlaced (addressed s.lqh.layout.view o)
    moved o placed = moved_for s.lqh.layout.view o placed

    request_placed : (r : Request) → RequestSends (λ o. IsPlaced (addressed s.lqh.layout.view o)) r
    request_placed r = record {
      log_full = λ used reserved need. moved _ tt;
      table_full = λ rows. moved _ tt;
      answers = λ a. moved _ tt;
      passes = λ image next is. moved _ tt;
    }

-- other hosts tell nothing of transactions
abbrev Nothing : TxId → Option ℕ → Type 0
Nothing tx epoch = ⊥

of_fated : (to : Place) (body : Body) → Fated Nothing body → IsFor to body
of_fated to (Takeover (LqhTransConf tx key told epoch)) fated = absurd fated
of_fated to body fated = tt

all_of_fated : (sends : List Outgoing) → AreFated Nothing sends → ArePlaced sends
all_of_fated sends all =
    each_map (IsFated Nothing) (λ (o : Outgoing). IsFor o.to o.body) sends (λ o fated. of_fated o.to o.body fated) all

abbrev IsForOne : Addressed → Type 0
IsForOne y = IsFor y.signal.to y.signal.body

module _ (start : Start) (all : ℕ → List HostStep) (e : HostStep) (es : List HostStep)
    (moment : IsMoment start all (e ∷ es))
  where
    abbrev old : ℕ → List HostStep
    old = logs_of start es

    abbrev x : Signal
    x = e.step.taken

    abbrev view : View
    view = view_after start e.host (e ∷ old e.host)

    abbrev sends : List Outgoing
    sends = (step_after start e.host (old e.host) e).effects.sends

    tc_placed : TcStep start e.host (old e.host) e → ArePlaced sends
    tc_placed step =
        part_each tc_kind IsPlaced start.shape step.own (view_after start e.host (old e.host)) x _ view sends step.does
        (λ above.
        all_of_fated (tc_entered step.own x.view).effects.sends (tc_enters_fated Nothing step.own x.view))
        (λ passed.
        all_of_fated (tc_row step.does.between x.to.block x).effects.sends
        (tc_fated Nothing step.does.between x x.to.block))

    own_placed : (member : Member) → IsIn member (made start) → e.host ≡ ldm_of start member → ArePlaced sends
    own_placed member there at =
        subst ArePlaced (sym (ap (λ k. (step_after start k (old k) e).effects.sends) at))
        (rows_each start all e es moment member there IsPlaced
        (λ o own.
        of_saver (IsFor o.to) (record { reports = λ epoch. tt; confirms = tt; goes_on = λ at. tt }) o.body own)
        (λ s between taken. rows_placed s x) at)

    sends_placed : ArePlaced sends
    sends_placed = by (part_host start moment.cluster.nobody e.host (host_low start all e es moment))
      where
        by : PartHost start e.host → ArePlaced sends
        by (coordinates me there at) = tc_placed (tc_step start moment.cluster.nobody me there e.host at (old e.host) e)
        by (keeps_rows me there at) = own_placed me there at
        by (is_beside first) =
            all_of_fated sends (all_aside_fated Nothing sends (beside_sends start e.host first (old e.host) e))

    placed_next : EachSent start IsForOne (logs_of start es) → EachSent start IsForOne (logs_of start (e ∷ es))
    placed_next before =
        sent_next start IsForOne all e es moment before
        (λ goes.
        sent_so start e.host (old e.host) e (λ (v : View) (to : Place) (body : Body). IsFor to body) sends_placed)

all_placed : (start : Start) (all : ℕ → List HostStep) (es : List HostStep) → IsMoment start all es
    → EachSent start IsForOne (logs_of start es)
all_placed start all [] moment = λ i j. tt
all_placed start all (e ∷ es) moment =
    placed_next start all e es moment (all_placed start all es (moment_less start all e es moment))

pub tellings_are_for_takeovers : TellingsAreForTakeovers
tellings_are_for_takeovers start all e es moment sound tx key told epoch is =
    subst (IsFor e.step.taken.to) is
    (taken_told start IsForOne all e es moment (all_placed start all es (moment_less start all e es moment)) sound
    (λ work. subst (IsOwnWork start e.host) is work)
    (λ closes.
    let differ : Takeover (LqhTransConf tx key told epoch) ≡ Host (Closed closes.cause) = sym is ∙ closes.is in
    absurd cc))
