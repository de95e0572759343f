-- What a step does to what the logs have of one transaction on one key.
use Rattle.std.proofs.Common.{◌≡◌, ◌⊎◌, ◌≢◌, ℕ, false, List, [], ◌∷◌, refl, sym, ap, ◌∙◌, subst, inl, inr}
use Rattle.std.proofs.lemmas.Bool.{cases_eq}
use Rattle.std.specs.Prelude.{Some}
use Rattle.run_theory.proofs.EventCases.{event_leaves}
use Rattle.run_theory.proofs.Runs.{log_of-other, log_of-own}
use Rattle.world_core.specs.Steps.{HostStep}
use Rattle.sig_core.specs.declared.member.TxId.{TxId}
use Rattle.world_core.specs.Machine.{after, machine}
use Rattle.world_core.specs.Start.{Start}
use Rattle.key_laws.specs.PrimaryEvents.{AtPrimary, ended_after, made_after, primary_after}
use Rattle.key_laws.specs.Records.{found}
use Rattle.key_laws.specs.Replica.{Event, Replica, ages, expires, key_after}
use Rattle.host_laws.specs.ReplicaLaws.{event_in, key_in}
use Rattle.host_laws.proofs.rows.Replicas.{logs_follow}
use Rattle.run_laws.specs.Circle.{at_host, at_primary, primary_along}
use Rattle.run_laws.specs.Routes.{primary_host}
use Rattle.run_laws.specs.Transit.{logs_of}
use Rattle.run_laws.proofs.circle.View.{IsAs, View}
use Rattle.run_laws.proofs.circle.OthersStay.{ended_stays, event_of, is_of, made_stays, others_stay, waits_of}
use Rattle.run_laws.proofs.circle.ViewOf.{view_of}

-- the replica beside its answers
pub replica_along : (start : Start) (h : ℕ) (key : List ℕ) (log : List HostStep)
    → (primary_along start h key log).replica ≡ key_in key (after start h log)
replica_along start h key [] = refl
replica_along start h key (e ∷ log) =
    ap (key_after (event_in key (after start h log) e.step.taken)) (replica_along start h key log)
    ∙ sym (logs_follow start h log e key)

-- one has the requests that wait of the other, too
pub record IsLike (v w : View) : Type 0 where
  pub likewise : IsAs v w
  pub waits : (h : ℕ) → w.waits h ≡ v.waits h

module _ (start : Start) (es : List HostStep) (e : HostStep) (tx : TxId) (key : List ℕ) where
  abbrev logs : ℕ → List HostStep
  logs = logs_of start es

  abbrev now : ℕ → List HostStep
  now = logs_of start (e ∷ es)

  -- the host of the step, the key there before it, and the event of the key
  abbrev pub host_of : ℕ
  host_of = e.host

  abbrev pub before_here : Replica
  before_here = at_host start logs key host_of

  abbrev pub event_here : Event
  event_here = event_in key (after start host_of (logs host_of)) e.step.taken

  -- what the primary had answered, were it here
  abbrev pub answered_here : AtPrimary
  answered_here = record {
    replica = before_here;
    made = (at_primary start logs key).made;
    ended = (at_primary start logs key).ended;
  }

  abbrev pub view_before : View
  view_before = view_of start logs tx key

  abbrev pub view_now : View
  view_now = view_of start now tx key

  own_log : now host_of ≡ e ∷ logs host_of
  own_log = log_of-own (machine start) e es host_of refl

  other_log : (h : ℕ) → host_of ≢ h → now h ≡ logs h
  other_log h off = log_of-other (machine start) e es h off

  key_next : key_in key (after start host_of (e ∷ logs host_of)) ≡ key_after event_here before_here
  key_next = logs_follow start host_of (logs host_of) e key

  pub key_here : at_host start now key host_of ≡ key_after event_here before_here
  key_here = ap (λ log. key_in key (after start host_of log)) own_log ∙ key_next

  pub key_other : (h : ℕ) → host_of ≢ h → at_host start now key h ≡ at_host start logs key h
  key_other h off = ap (λ log. key_in key (after start h log)) (other_log h off)

  along_here : (h : ℕ) → host_of ≡ h
      → primary_along start h key (now h)
      ≡ primary_after event_here (record {
        replica = before_here;
        made = (primary_along start h key (logs h)).made;
        ended = (primary_along start h key (logs h)).ended;
      })
  along_here h is =
      subst
      (λ h. primary_along start h key (now h)
      ≡ primary_after event_here (record {
        replica = before_here;
        made = (primary_along start h key (logs h)).made;
        ended = (primary_along start h key (logs h)).ended;
      }))
      is
      (ap (primary_along start host_of key) own_log
      ∙ ap (λ r. primary_after event_here (record {
        replica = r;
        made = (primary_along start host_of key (logs host_of)).made;
        ended = (primary_along start host_of key (logs host_of)).ended;
      }))
      (replica_along start host_of key (logs host_of)))

  pub made_here : host_of ≡ primary_host start key → view_now.made ≡ made_after event_here answered_here tx
  made_here is = ap (λ (p : AtPrimary). p.made tx) (along_here (primary_host start key) is)

  pub ended_here : host_of ≡ primary_host start key → view_now.ended ≡ ended_after event_here answered_here tx
  ended_here is = ap (λ (p : AtPrimary). p.ended tx) (along_here (primary_host start key) is)

  pub made_other : host_of ≢ primary_host start key → view_now.made ≡ view_before.made
  made_other off = ap (λ log. (primary_along start (primary_host start key) key log).made tx)
      (other_log (primary_host start key) off)

  pub ended_other : host_of ≢ primary_host start key → view_now.ended ≡ view_before.ended
  ended_other off = ap (λ log. (primary_along start (primary_host start key) key log).ended tx)
      (other_log (primary_host start key) off)

  made_same : made_after event_here answered_here tx ≡ (at_primary start logs key).made tx
      → view_now.made ≡ view_before.made
  made_same made_is = by (cases_eq host_of (primary_host start key))
    where
      by : (host_of ≡ primary_host start key) ⊎ (host_of ≢ primary_host start key) → view_now.made ≡ view_before.made
      by (inl is) = made_here is ∙ made_is
      by (inr off) = made_other off

  pub ended_same : ended_after event_here answered_here tx ≡ (at_primary start logs key).ended tx
      → view_now.ended ≡ view_before.ended
  ended_same ended_is = by (cases_eq host_of (primary_host start key))
    where
      by : (host_of ≡ primary_host start key) ⊎ (host_of ≢ primary_host start key)
          → view_now.ended ≡ view_before.ended
      by (inl is) = ended_here is ∙ ended_is
      by (inr off) = ended_other off

  -- where the event leaves alone what is here of the transaction, but for the requests that wait
  pub view_as : found tx (key_after event_here before_here).cell.pending ≡ found tx before_here.cell.pending
      → made_after event_here answered_here tx ≡ (at_primary start logs key).made tx
      → ended_after event_here answered_here tx ≡ (at_primary start logs key).ended tx → IsAs view_before view_now
  view_as found_is made_is ended_is = record {
    made = made_same made_is;
    ended = ended_same ended_is;
    rec = event_leaves (machine start) e es (λ h log. found tx (key_in key (after start h log)).cell.pending)
        (ap (λ (r : Replica). found tx r.cell.pending) key_next ∙ found_is);
  }

  pub waits_other : (h : ℕ) → host_of ≢ h → view_now.waits h ≡ view_before.waits h
  waits_other h off = ap (waits_of tx) (key_other h off)

  -- and these too
  pub view_like : found tx (key_after event_here before_here).cell.pending ≡ found tx before_here.cell.pending
      → waits_of tx (key_after event_here before_here) ≡ waits_of tx before_here
      → made_after event_here answered_here tx ≡ (at_primary start logs key).made tx
      → ended_after event_here answered_here tx ≡ (at_primary start logs key).ended tx → IsLike view_before view_now
  view_like found_is waits_are made_is ended_is = record {
    likewise = view_as found_is made_is ended_is;
    waits = event_leaves (machine start) e es (λ h log. waits_of tx (key_in key (after start h log)))
        (ap (waits_of tx) key_next ∙ waits_are);
  }

  -- an event of another transaction, or of none
  pub others_like : is_of tx (event_of event_here before_here) ≡ false → IsLike view_before view_now
  others_like off =
      let stays = others_stay tx event_here before_here off in
      view_like stays.found_is stays.waits_are (made_stays tx event_here answered_here off)
      (ended_stays tx event_here answered_here off)

  -- a wait that ends
  pub expired_as : (event_here ≡ expires tx) ⊎ (event_here ≡ ages (Some tx)) → IsAs view_before view_now
  expired_as (inl is) =
      view_as (ap (λ event. found tx (key_after event before_here).cell.pending) is)
      (ap (λ event. made_after event answered_here tx) is) (ap (λ event. ended_after event answered_here tx) is)
  expired_as (inr is) =
      view_as (ap (λ event. found tx (key_after event before_here).cell.pending) is)
      (ap (λ event. made_after event answered_here tx) is) (ap (λ event. ended_after event answered_here tx) is)
