-- What the epochs of a member tell of themselves, and what they give.
use Rattle.std.proofs.Common.{◌≡◌, ◌⊎◌, ◌||◌, ℕ, ◌≤◌, ◌<◌, Bool, true, false, nat_lt, length, refl, subst, arith}
use Rattle.std.proofs.Common.{inl, inr}
use Rattle.std.proofs.lemmas.Bool.{false≢true, ltb-false}
use Rattle.std.specs.Prelude.{Some, not, remove}
use Rattle.run_theory.specs.Lists.{Each}
use Rattle.run_theory.proofs.Pasts.{each_append}
use Rattle.sig_core.specs.declared.mark.Mark.{Mark}
use Rattle.sig_core.specs.declared.mark.Mark.TheVariants.{Decided}
use Rattle.sig_core.specs.declared.member.TxId.{TxId}
use Rattle.sig_core.specs.declared.outs.Outgoing.{Outgoing}
use Rattle.sig_core.specs.declared.signal.Body.{Body}
use Rattle.sig_core.specs.declared.signal.Body.TheVariants.{Host, Epoch}
use Rattle.sig_core.specs.declared.signal.Signal.{Signal}
use Rattle.sig_core.specs.declared.signal.epoch.EpochSignal.TheVariants.{GcpPrepare, GcpPrepareConf, GcpCommit}
use Rattle.sig_core.specs.declared.signal.epoch.EpochSignal.TheVariants.{GcpNodeFinish, GcpOrd, GcpStateConf}
use Rattle.sig_core.specs.Step.{Step, stay}
use Rattle.dih_node.specs.declared.dih.Report.{Report}
use Rattle.dih_node.specs.Dih.{dih_row}
use Rattle.dih_node.specs.Orders.{committed, install_row, serving}
use Rattle.dih_node.specs.State.{DihState, can_serve, gives, go_on_if, is_fenced, is_prepared}
use Rattle.dih_node.proofs.Walk.{IsDecided, ReportOutcomes, asks, dih_each, dih_installed_each, dih_outcomes, ordered}
use Rattle.dih_node.proofs.Walk.{reporting, was_oldest}
use Rattle.epoch_laws.specs.Alike.{IsPast, IsSound}
use Rattle.epoch_laws.specs.Masters.{HasPrepared}
use Rattle.epoch_laws.proofs.DihMoves.{IsAt, rests}
use Rattle.epoch_laws.proofs.DihRows.{IsOrderPast, Rises, still_past}

-- It has prepared this epoch, or doesn't give it any more. It may give a lesser one: an order may be ahead.
abbrev pub HasTaken : ℕ → DihState → Type 0
HasTaken epoch s = (epoch < s.current) ⊎ ((s.current ≤ epoch) × (s.prepared ≡ epoch) × (epoch < s.next))

-- where it gives no lesser one it has prepared
pub taken_prepared : (epoch : ℕ) (s : DihState) → HasTaken epoch s → epoch ≤ s.current → HasPrepared epoch s
taken_prepared epoch s (inl beyond) least = inl beyond
taken_prepared epoch s (inr taken) least =
    let most = taken.0 in
    inr (omega (arith, most, least), taken.1, taken.2)

-- this was asked for, and has been done
pub record IsTaken (asked : Body) (epoch : ℕ) (now : DihState) : Type 0 where
  pub next : ℕ
  pub is : asked ≡ Epoch (GcpPrepare epoch next)
  pub taken : HasTaken epoch now

-- What a signal that is sent at another one tells of the states before and after it. Orders are not sent.
abbrev pub TellsOf : DihState → Body → DihState → Body → Type 0
TellsOf s asked now (Epoch (GcpPrepare epoch next)) = ⊥
TellsOf s asked now (Epoch (GcpCommit epoch next)) = ⊥
TellsOf s asked now (Epoch GcpOrd) = ⊥
TellsOf s asked now (Epoch (GcpPrepareConf epoch)) = IsTaken asked epoch now
TellsOf s asked now (Epoch (GcpStateConf current prepared next closed saved durable)) =
    IsAt current prepared next s × IsAt current prepared next now
TellsOf s asked now (Epoch (GcpNodeFinish epoch)) = epoch < now.current
TellsOf s asked now body = Unit {0}

abbrev pub Tells : DihState → Body → Step DihState → Type 0
Tells s asked step = Each (λ sent. TellsOf s asked step.state sent.body) step.effects.sends

module _ (s : DihState) (asked : Body) where
  more_tells : (now : DihState) (node : ℕ) (b : Bool) → Each (λ sent. TellsOf s asked now sent.body) (go_on_if node b)
  more_tells now node true = (tt, tt)
  more_tells now node false = tt

  serving_tells : (step : Step DihState) → Tells s asked step → Tells s asked (serving step)
  serving_tells step tells =
      each_append (λ (sent : Outgoing). TellsOf s asked step.state sent.body) step.effects.sends
      (go_on_if step.state.node (can_serve step.state)) tells
      (more_tells step.state step.state.node (can_serve step.state))

  below : (now : DihState) (order : Report) → IsOrderPast now → now.order ≡ Some order → order.epoch < now.current
  below now order past there = subst (λ o. IsPast o now.current) there past

  reports_tell : (now : DihState) → IsOrderPast now → ReportOutcomes now (λ step. Tells s asked step)
  reports_tell now past = record {
    unordered = λ none. tt;
    waits = λ order there left. tt;
    reports = λ order there none. (below now order past there, tt);
  }

  serves_tell : (now : DihState) → IsOrderPast now → ReportOutcomes now (λ step. Tells s asked (serving step))
  serves_tell now past = record {
    unordered = λ none. serving_tells (stay now) tt;
    waits = λ order there left. serving_tells (stay now) tt;
    reports = λ order there none. serving_tells (reporting now order) (below now order past there, tt);
  }

-- whatever it takes
pub dih_tells : (s : DihState) (x : Signal) → Rises x.body → IsSound s → Tells s x.body (dih_row s x)
dih_tells s x rises sound =
    dih_outcomes s x (λ step. Tells s x.body step) (record {
      stays = tt;
      decides = λ tx ops is on. (tt, tt);
      holds = λ tx ops is off. tt;
      serves = λ at tx is own on first. (tt, more_tells s x.body _ s.node (nat_lt 0 (length (remove s.held 0))));
      ends = λ tx now is done. reports_tell s x.body now (still_past s tx now done sound.order);
      prepares = λ epoch next is ahead.
          (record { next = next; is = is; taken = inr (ahead, refl, subst Rises is rises) }, tt);
      prepares_late = λ epoch next is late. (record { next = next; is = is; taken = inl late }, tt);
      commits = λ epoch next is ahead.
          serves_tell s x.body (ordered (committed s epoch next) x.member.node epoch) (subst Rises is rises);
      commits_late = λ epoch next is late. reports_tell s x.body (ordered s x.member.node epoch) late;
      closes = λ epoch is. (tt, tt);
      copies = λ epoch mask is. (tt, tt);
      notes = λ epoch is. tt;
      tells = λ is. ((rests s, rests s), tt);
      fences = λ proposal is. (tt, tt);
    })

-- at an installation it goes on at most
abbrev pub IsOwn : Body → Type 0
IsOwn (Host signal) = Unit {0}
IsOwn body = ⊥

pub dih_installs_own : (s : DihState) (number : ℕ)
    → Each (λ sent. IsOwn sent.body) (install_row s number).effects.sends
dih_installs_own s number =
    (dih_installed_each s number (λ (sent : Outgoing). IsOwn sent.body) (λ (mark : Mark). Unit {0}) tt).0

-- it gives the current epoch, while it prepares for none
abbrev pub IsGivenBy : DihState → Mark → Type 0
IsGivenBy s (Decided tx epoch) = (epoch ≡ s.current) × (s.next ≤ s.current)
IsGivenBy s mark = Unit {0}

abbrev pub Gives : DihState → Step DihState → Type 0
Gives s step = Each (IsGivenBy s) step.effects.marks

rested : (s : DihState) → gives s ≡ true → s.next ≤ s.current
unfolding gives
rested s on = by (is_prepared s) (is_fenced s) refl on
  where
    by : (b c : Bool) → is_prepared s ≡ b → not (b || c) ≡ true → s.next ≤ s.current
    by true c is on = absurd (false≢true on)
    by false c is on = ltb-false s.current s.next is

-- it gives one, so it prepares for none
giving : (s : DihState) (x : Signal) (tx : TxId) → IsDecided s x tx → gives s ≡ true
giving s x tx (asks ops is on) = on
giving s x tx (was_oldest at is own on first) = on

-- whatever it takes, and none at an installation
pub dih_gives : (s : DihState) (x : Signal) → Gives s (dih_row s x)
dih_gives s x =
    (dih_each s x (λ (sent : Outgoing). Unit {0}) (IsGivenBy s) (record {
      decided = λ tx is. (refl, rested s (giving s x tx is));
      confirms = λ tx is. tt;
      goes_on = tt;
      prepares = λ epoch next is. tt;
      reports = λ order is. tt;
      closes = λ epoch is. tt;
      copies = λ epoch mask is. tt;
      tells = λ is. tt;
      fences = λ proposal is. tt;
    })).1
