-- Events keep what is answered, where coordinators do.
use Rattle.std.proofs.Common.{◌≡◌, ℕ, List, ◌∷◌}
use Rattle.run_theory.specs.Lists.{Each, IsIn}
use Rattle.sig_core.specs.declared.member.Member.{Member}
use Rattle.sig_core.specs.declared.member.TxId.{TxId}
use Rattle.sig_core.specs.declared.outs.Outgoing.{Outgoing}
use Rattle.sig_core.specs.declared.place.BlockId.TheVariants as block
use Rattle.sig_core.specs.declared.place.Place.{Place}
use Rattle.sig_core.specs.declared.signal.Body.{Body}
use Rattle.sig_core.specs.declared.view.View.{View}
use Rattle.node_views.specs.declared.parts.Parts.TheVariants as part
use Rattle.node_views.specs.Parts.{tc_row}
use Rattle.world_core.specs.Start.{Start, made}
use Rattle.world_core.specs.Steps.{Addressed, HostStep}
use Rattle.world_views.specs.Machine.{step_after}
use Rattle.view_laws.specs.Runs.{view_after}
use Rattle.moment_laws.specs.Moments.{logs_of}
use Rattle.moment_laws.specs.Parts.{IsPassed}
use Rattle.moment_laws.specs.Places.{tc_of}
use Rattle.moment_laws.proofs.MomentSignals.{sent_next}
use Rattle.moment_laws.proofs.MomentTurns.{host_low}
use Rattle.request_laws.proofs.routes.Headers.{sent_so}
use Rattle.request_laws.proofs.routes.Hosts.{PartHost, coordinates, is_beside, keeps_rows, part_host}
use Rattle.commit_laws.specs.Answered.{IsAnswered}
use Rattle.commit_laws.specs.Together.{EventsKeepAnswered, FatesMove, Follows}
use Rattle.commit_laws.proofs.answered.Rows.{beside_answered, rows_answered}
use Rattle.commit_laws.proofs.answered.Stays.{sent_answered}
use Rattle.commit_laws.proofs.answered.Takeover.{takeover_answered}
use Rattle.commit_laws.proofs.drive.Foreign.{step}

-- what the host of an event sends is answered behind it
abbrev pub AreAnsweredNow : Start → HostStep → List HostStep → List Outgoing → Type 0
AreAnsweredNow start e es sends =
    Each (λ (o : Outgoing). IsAnswered start (logs_of start (e ∷ es))
    (view_after start e.host (e ∷ logs_of start es e.host)).number o.body) sends

-- so it is of a host that coordinates, if what its takeover sends is answered
abbrev pub CoordinatorAnswers : Type 0
CoordinatorAnswers =
    (start : Start) (all : ℕ → List HostStep) (e : HostStep) (es : List HostStep) (follows : Follows start all e es)
    → ((tx : TxId) → FatesMove start e es tx) → (member : Member) (there : IsIn member (made start))
    (at : e.host ≡ tc_of start member)
    → (IsPassed start.shape (part.Tc (step start all e es follows.moment member there at).does.between)
    (view_after start e.host (e ∷ logs_of start es e.host)) e.step.taken → e.step.taken.to.block ≡ block.Takeover
    → AreAnsweredNow start e es
    (tc_row (step start all e es follows.moment member there at).does.between block.Takeover
    e.step.taken).effects.sends)
    → AreAnsweredNow start e es (step_after start e.host (logs_of start es e.host) e).effects.sends

pub events_keep_answered : CoordinatorAnswers → EventsKeepAnswered
events_keep_answered coordinators start all e es follows moves =
    sent_next start (λ (y : Addressed). IsAnswered start (logs_of start (e ∷ es)) y.signal.view.number y.signal.body)
    all e es follows.moment (sent_answered start all e es follows.moment follows.stood.answered)
    (λ on.
    sent_so start e.host (logs_of start es e.host) e
    (λ (v : View) (to : Place) (body : Body). IsAnswered start (logs_of start (e ∷ es)) v.number body)
    (by (part_host start follows.moment.cluster.nobody e.host (host_low start all e es follows.moment))))
  where
    by : PartHost start e.host
        → AreAnsweredNow start e es (step_after start e.host (logs_of start es e.host) e).effects.sends
    by (coordinates member there at) =
        coordinators start all e es follows moves member there at
        (takeover_answered start all e es follows member there at)
    by (keeps_rows member there at) =
        rows_answered start all e es follows.moment follows.stood.answered member there at
    by (is_beside first) = beside_answered start all e es follows.moment follows.stood.answered first
