-- Where the current view rises, and all that go on keep to it, all parts stand behind the event: of whoever goes on
-- nothing is under way, and what it has settled is so still.
use Rattle.std.proofs.Common.{◌≡◌, ◌<◌, ℕ, List, ◌∷◌, sym, ap, subst}
use Rattle.std.specs.Prelude.{None}
use Rattle.run_theory.specs.Lists.{IsIn}
use Rattle.sig_core.specs.declared.member.Member.{Member}
use Rattle.sig_core.specs.declared.member.TxId.{TxId}
use Rattle.tc_block.specs.declared.transaction.Transaction.{Transaction}
use Rattle.lqh_views.specs.State.{ReplicaState}
use Rattle.key_laws.specs.Replica.{at_key}
use Rattle.world_core.specs.Start.{Start, made}
use Rattle.world_core.specs.Steps.{Addressed, HostStep}
use Rattle.moment_laws.specs.Moments.{current, logs_of}
use Rattle.moment_laws.proofs.MomentViews.{current_number}
use Rattle.request_laws.specs.Blocks.{rows_after}
use Rattle.request_laws.specs.Strays.{KeepsTo}
use Rattle.commit_laws.specs.Parts.{IsHale, IsOff, PartsStand}
use Rattle.commit_laws.specs.Raised.{CurrentIsFenced}
use Rattle.commit_laws.specs.Settled.{IsSettledWith}
use Rattle.commit_laws.specs.Together.{Follows}
use Rattle.commit_laws.specs.Traces.{replica_at}
use Rattle.commit_laws.specs.Transit.{AreInTransit}
use Rattle.commit_laws.proofs.records.MemberKeeps.{KeepsFor, keeps_self}
use Rattle.commit_laws.proofs.parts.Quiet.{IsIdle, idle_told, idle_waits, unasked_idle}
use Rattle.commit_laws.proofs.views.RaisedChains.{raised_same}
use Rattle.commit_laws.proofs.views.RaisedGoing.{raised_unasked, raised_was}
use Rattle.commit_laws.proofs.views.RaisedKeeps.{raised_keeps}
use Rattle.commit_laws.proofs.settled.Kept.{settled_kept}
use Rattle.commit_laws.proofs.views.Raised.{rows_still}

module _ (start : Start) (all : ℕ → List HostStep) (e : HostStep) (es : List HostStep)
    (follows : Follows start all e es)
    (above : current_number start (logs_of start es) < current_number start (logs_of start (e ∷ es)))
    (keeps : (tx : TxId) (t : Transaction) → IsHale start (logs_of start (e ∷ es)) tx t
    → KeepsTo (current start (logs_of start (e ∷ es))) t)
    (xs : List Addressed) (transit : AreInTransit start (e ∷ es) xs)
  where
    abbrev old : ℕ → List HostStep
    old = logs_of start es

    abbrev new : ℕ → List HostStep
    new = logs_of start (e ∷ es)

    members_keep : (key : List ℕ) (tx : TxId) (m : Member) → IsIn m (made start)
        → KeepsFor tx (replica_at start old m key) (replica_at start new m key)
    members_keep key tx m there =
        subst (λ (s : ReplicaState). KeepsFor tx (replica_at start old m key) (at_key key s.lqh))
        (sym (ap (rows_after start m) (rows_still start all e es follows.moment above m there)))
        (keeps_self tx (replica_at start old m key))

    module _ (tx : TxId) (t : Transaction) (hale : IsHale start (logs_of start (e ∷ es)) tx t) where
      none : t.asked ≡ None
      none = raised_unasked start all e es follows.moment above tx t hale

      went : IsHale start old tx t
      went = raised_was start all e es follows.moment above tx t hale

      idle : IsIdle start all (e ∷ es) follows.moment tx xs
      idle = unasked_idle start all (e ∷ es) follows.moment tx t hale xs transit none

      rests : (key : List ℕ) → IsSettledWith start new key tx t.ops
      rests key =
          settled_kept start all e es follows.moment follows.stood.commits key tx t.ops
          (raised_same start all e es follows.moment above follows.stood.commits tx t hale (keeps tx t hale) key)
          (members_keep key tx)
          ((follows.stood.parts transit.0 transit.1.0).rests tx t went key
          (subst (IsOff start old key tx t) (sym none) tt))

    pub parts_raised : PartsStand start (logs_of start (e ∷ es)) xs
    parts_raised = record {
      signals = λ tx t hale key.
          idle_told start all (e ∷ es) follows.moment tx xs (idle tx t hale) t key;
      waits = λ tx t hale key m there stands.
          idle_waits start all (e ∷ es) follows.moment tx xs (idle tx t hale) t key m there stands;
      rests = λ tx t hale key off. rests tx t hale key;
    }

-- so they do where the coordinators of its members are fenced at it
pub fenced_parts : CurrentIsFenced → (start : Start) (all : ℕ → List HostStep) (e : HostStep) (es : List HostStep)
    → Follows start all e es → current_number start (logs_of start es) < current_number start (logs_of start (e ∷ es))
    → (xs : List Addressed) → AreInTransit start (e ∷ es) xs → PartsStand start (logs_of start (e ∷ es)) xs
fenced_parts fenced start all e es follows above =
    parts_raised start all e es follows above
    (λ tx t hale. raised_keeps fenced start all e es follows.moment above tx t hale)
