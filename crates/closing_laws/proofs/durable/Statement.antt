-- What members have noted of closed and durable epochs, what is told of that, and how it grows with the logs.
use Rattle.std.proofs.Common.{◌≡◌, ◌≤◌, ◌<◌, ◌⊎◌, ℕ, false, List, ◌∷◌, sym, subst, inl, inr, arith}
use Rattle.run_theory.specs.Lists.{Each, IsIn}
use Rattle.run_theory.proofs.EventCases.{event_keeps}
use Rattle.world_views.specs.Machine.{machine}
use Rattle.sig_core.specs.declared.mark.Mark.{Mark}
use Rattle.sig_core.specs.declared.mark.Mark.TheVariants.{Durable}
use Rattle.sig_core.specs.declared.member.Member.{Member}
use Rattle.sig_core.specs.declared.outs.Outgoing.{Outgoing}
use Rattle.sig_core.specs.declared.place.Place.{Place}
use Rattle.sig_core.specs.declared.signal.Body.{Body}
use Rattle.sig_core.specs.declared.signal.Body.TheVariants.{Epoch}
use Rattle.sig_core.specs.declared.signal.epoch.EpochSignal.TheVariants.{GcpClosed, GcpDone, GcpStateConf}
use Rattle.dih_node.specs.State.{DihState}
use Rattle.gcp_master.specs.declared.known.Known.{Known}
use Rattle.gcp_master.specs.declared.known.Told.{Told}
use Rattle.gcp_master.specs.declared.phase.Phase.{Phase}
use Rattle.gcp_master.specs.declared.phase.Phase.TheVariants.{Gathering, Closing, Saving, Copying}
use Rattle.gcp_master.specs.Master.{told}
use Rattle.qmgr_block.specs.declared.known.Known as membership
use Rattle.world_core.specs.Hosts.{hosts}
use Rattle.world_core.specs.Start.{Start, made}
use Rattle.world_core.specs.Steps.{Addressed, HostStep}
use Rattle.moment_laws.specs.Moments.{IsMoment, logs_of}
use Rattle.moment_laws.proofs.MomentSignals.{EachSent}
use Rattle.outcome_laws.specs.Decided.{IsMarked}
use Rattle.epoch_laws.specs.Members.{epochs_of, master_of}
use Rattle.epoch_laws.proofs.DihMoves.{Moves, Stays}
use Rattle.epoch_laws.proofs.DihRows.{Rises}
use Rattle.epoch_laws.proofs.MasterMoves.{state_body}
use Rattle.epoch_laws.proofs.MasterSends.{Closes, MaySay}
use Rattle.epoch_laws.proofs.SentMembership.{OrdersBy}
use Rattle.epoch_laws.proofs.SentNone.{is_order}
use Rattle.epoch_laws.proofs.SentRows.{IsOfRowsBy}
use Rattle.epoch_laws.proofs.MasterKnows.{greater_is}
use Rattle.closing_laws.specs.Closed.{WasClosed}
use Rattle.closing_laws.proofs.durable.Noted.{Notes, NotesAt}
use Rattle.closing_laws.proofs.durable.Reached.{HasReached, reached_moves, reached_stays}
use Rattle.closing_laws.proofs.durable.Tells.{TellsNoted}
use Rattle.closing_laws.proofs.durable.WereClosed.{IsKnownTruly, IsNoted, IsToldTruly}
use Rattle.closing_laws.proofs.durable.LateMasters.{IsGood}

module _ (start : Start) (logs : ℕ → List HostStep) where
  -- an order to note an epoch is of one that is closed, and what is told of the state of a block is so
  abbrev pub IsSaidTruly : Body → Type 0
  IsSaidTruly (Epoch (GcpClosed epoch)) = WasClosed start logs epoch
  IsSaidTruly (Epoch (GcpStateConf current prepared next noted saved durable)) =
      (current ≡ 0) ⊎ IsToldTruly start logs (told current prepared next noted saved durable)
  IsSaidTruly body = Unit {0}

  abbrev pub AllSaid : List Outgoing → Type 0
  AllSaid sends = Each (λ (sent : Outgoing). IsSaidTruly sent.body) sends

  -- what a member has noted as closed was closed, and the member has come to it; as durable it has noted none before
  -- the start
  pub record HasNoted (s : DihState) : Type 0 where
    pub noted : IsNoted start logs s.closed
    pub reached : HasReached s.closed s
    pub least : start.start_epoch ≤ s.durable

  abbrev pub IsGoodPhase : Phase → Type 0
  IsGoodPhase phase = IsGood (WasClosed start logs) (IsKnownTruly start logs) phase

  pub told_truly : (t : Told) → IsSaidTruly (state_body t) → (t.current ≡ 0) ⊎ IsToldTruly start logs t
  told_truly t (inl none) = inl none
  told_truly t (inr is) = inr (record { noted = is.noted; below = is.below; least = is.least })

  -- what a signal makes of what is noted, where the member has come to each epoch that was closed
  module _ (s now : DihState) (was : HasNoted s) where
    pub installed_noted : Notes s now → Stays s now → HasNoted now
    installed_noted notes stays = record {
      noted = subst (IsNoted start logs) (sym notes.closed) was.noted;
      reached =
          subst (λ n. HasReached n now) (sym notes.closed) (reached_stays s.closed s now stays was.reached);
      least = subst (λ n. start.start_epoch ≤ n) (sym notes.durable) was.least;
    }

    pub dih_noted : (body : Body) → NotesAt s body now → Moves s body now → Rises body
        → ((epoch : ℕ) → WasClosed start logs epoch → HasReached epoch s) → IsSaidTruly body → HasNoted now
    dih_noted (Epoch (GcpClosed epoch)) notes moves rises closed said = record {
      noted =
          subst (IsNoted start logs) (sym notes.0)
          (greater_is (IsNoted start logs) s.closed epoch was.noted (inr said));
      reached =
          subst (λ n. HasReached n now) (sym notes.0)
          (reached_moves _ s now (Epoch (GcpClosed epoch)) rises moves
          (greater_is (λ n. HasReached n s) s.closed epoch was.reached (closed epoch said)));
      least = subst (λ n. start.start_epoch ≤ n) (sym notes.1) was.least;
    }
    dih_noted (Epoch (GcpDone epoch)) notes moves rises closed said =
        let up = notes.1 in
        let low = was.least in
        record {
          noted = subst (IsNoted start logs) (sym notes.0) was.noted;
          reached =
              subst (λ n. HasReached n now) (sym notes.0)
              (reached_moves s.closed s now (Epoch (GcpDone epoch)) rises moves was.reached);
          least = omega (arith, up, low);
        }
    dih_noted body notes moves rises closed said = record {
      noted = subst (IsNoted start logs) (sym notes.closed) was.noted;
      reached =
          subst (λ n. HasReached n now) (sym notes.closed)
          (reached_moves s.closed s now body rises moves was.reached);
      least = subst (λ n. start.start_epoch ≤ n) (sym notes.durable) was.least;
    }

  -- and what is told then
  pub dih_said : (s : DihState) → HasNoted s → (body : Body) → TellsNoted s body → IsSaidTruly body
  dih_said s was (Epoch (GcpClosed epoch)) tells = absurd tells
  dih_said s was (Epoch (GcpStateConf current prepared next noted saved durable)) (noted_is, (order_is, durable_is)) =
      let below = was.reached.ordered in
      inr (record {
        noted = subst (IsNoted start logs) (sym noted_is) was.noted;
        below = omega (arith, below, noted_is, order_is);
        least = subst (λ n. start.start_epoch ≤ n) (sym durable_is) was.least;
      })
  dih_said s was body tells = tt

  pub rows_said : (body : Body) → IsOfRowsBy body → IsSaidTruly body
  rows_said (Epoch (GcpClosed epoch)) is = absurd cc
  rows_said (Epoch (GcpStateConf current prepared next noted saved durable)) is = inl is
  rows_said body is = tt

  pub none_said : (body : Body) → is_order body ≡ false → IsSaidTruly body
  none_said (Epoch (GcpClosed epoch)) none = absurd cc
  none_said (Epoch (GcpStateConf current prepared next noted saved durable)) none = absurd cc
  none_said body none = tt

  pub orders_said : (k : membership.Known) (to : Place) (body : Body) → OrdersBy k to body → IsSaidTruly body
  orders_said k to (Epoch (GcpClosed epoch)) is = absurd cc
  orders_said k to (Epoch (GcpStateConf current prepared next noted saved durable)) is = absurd cc
  orders_said k to body is = tt

  closing_said : (phase : Phase) (epoch : ℕ) → Closes epoch phase → IsGoodPhase phase → WasClosed start logs epoch
  closing_said (Closing run) epoch same good = subst (WasClosed start logs) (sym same) good
  closing_said phase epoch closes good = absurd closes

  pub master_said : (phase : Phase) (body : Body) → MaySay phase body → IsGoodPhase phase → IsSaidTruly body
  master_said phase (Epoch (GcpClosed epoch)) may good = closing_said phase epoch may good
  master_said phase (Epoch (GcpStateConf current prepared next noted saved durable)) may good = absurd may
  master_said phase body may good = tt

  abbrev pub IsTrulySaid : Addressed → Type 0
  IsTrulySaid y = IsSaidTruly y.signal.body

  -- all of it
  pub record AllNoted : Type 0 where
    pub said : EachSent start IsTrulySaid logs
    pub epochs : (member : Member) → IsIn member (made start) → HasNoted (epochs_of start logs member)
    pub masters : (member : Member) → IsIn member (made start) → IsGoodPhase (master_of start logs member).phase
    pub durables : (h epoch : ℕ) → h < hosts start → IsMarked (Durable epoch) (logs h) → WasClosed start logs epoch

-- what was marked is marked behind an event
module _ (start : Start) (all : ℕ → List HostStep) (e : HostStep) (es : List HostStep)
    (moment : IsMoment start all (e ∷ es))
  where
    abbrev old : ℕ → List HostStep
    old = logs_of start es

    abbrev new : ℕ → List HostStep
    new = logs_of start (e ∷ es)

    pub marked_grows : (mark : Mark) (h : ℕ) → IsMarked mark (old h) → IsMarked mark (new h)
    marked_grows mark = event_keeps (machine start) e es (λ h. IsMarked mark) (λ was. inr was)

    pub closed_grows : (epoch : ℕ) → WasClosed start old epoch → WasClosed start new epoch
    closed_grows epoch is =
        record { host = is.host; below = is.below; marked = marked_grows _ is.host is.marked }

    noted_grows : (epoch : ℕ) → IsNoted start old epoch → IsNoted start new epoch
    noted_grows epoch (inl before) = inl before
    noted_grows epoch (inr was) = inr (closed_grows epoch was)

    told_grows : (t : Told) → IsToldTruly start old t → IsToldTruly start new t
    told_grows t is = record { noted = noted_grows t.closed is.noted; below = is.below; least = is.least }

    pub said_grows : (body : Body) → IsSaidTruly start old body → IsSaidTruly start new body
    said_grows (Epoch (GcpClosed epoch)) is = closed_grows epoch is
    said_grows (Epoch (GcpStateConf current prepared next noted saved durable)) (inl none) = inl none
    said_grows (Epoch (GcpStateConf current prepared next noted saved durable)) (inr is) =
        inr (told_grows (told current prepared next noted saved durable) is)
    said_grows body is = tt

    pub has_grows : (s : DihState) → HasNoted start old s → HasNoted start new s
    has_grows s is = record { noted = noted_grows s.closed is.noted; reached = is.reached; least = is.least }

    known_grows : (known : Known) → IsKnownTruly start old known → IsKnownTruly start new known
    known_grows known is = record {
      noted = λ low. noted_grows known.epoch (is.noted low);
      closed = is.closed;
      durable = is.durable;
    }

    pub phase_grows : (phase : Phase) → IsGoodPhase start old phase → IsGoodPhase start new phase
    phase_grows (Gathering known) is = known_grows known is
    phase_grows (Closing run) is = closed_grows run.epoch is
    phase_grows (Saving run) is = closed_grows run.epoch is
    phase_grows (Copying run) is = closed_grows run.epoch is
    phase_grows phase is = tt
