-- A member that has ended an epoch has ended it for good, since what it counts from then on has a later one; and what
-- it reports to be ended has ended.
use Rattle.std.proofs.Common.{◌≡◌, ◌<◌, ℕ, Bool, true, false, nat_le, nat_lt, List, [], ◌∷◌, ◌++◌, length, refl}
use Rattle.std.proofs.Common.{subst, arith}
use Rattle.std.proofs.lemmas.Bool.{leb-false, or_from, or_parts}
use Rattle.std.specs.Prelude.{Some, remove}
use Rattle.run_theory.proofs.Pasts.{each_append}
use Rattle.run_theory.specs.Lists.{Each}
use Rattle.sig_core.specs.declared.member.TxId.{TxId}
use Rattle.sig_core.specs.declared.outs.Outgoing.{Outgoing}
use Rattle.sig_core.specs.declared.signal.Body.{Body}
use Rattle.sig_core.specs.declared.signal.Body.TheVariants.{Epoch}
use Rattle.sig_core.specs.declared.signal.Signal.{Signal}
use Rattle.sig_core.specs.declared.signal.epoch.EpochSignal.TheVariants.{GcpNodeFinish}
use Rattle.sig_core.specs.Step.{Step, stay}
use Rattle.dih_node.specs.declared.dih.Report.{Report}
use Rattle.dih_node.specs.Dih.{dih_row}
use Rattle.dih_node.specs.Orders.{committed, install_row, serving}
use Rattle.dih_node.specs.State.{DihState, can_serve, go_on_if, is_unfinished}
use Rattle.dih_node.proofs.Walk.{IsEnded, ReportOutcomes, dih_outcomes, ordered, reporting, was_counted, was_held}
use Rattle.dih_node.proofs.Walk.{was_unknown}
use Rattle.epoch_laws.specs.Alike.{IsPast, IsSound}
use Rattle.epoch_laws.proofs.DihRows.{IsOrderPast, Rises, dih_never_falls, still_past}
use Rattle.run_theory.proofs.EachSent.{each_removed}
use Rattle.dih_node.specs.declared.dih.Counted.{Counted}
use Rattle.commit_laws.proofs.orders.Counts.{le_none}
use Rattle.closing_laws.specs.Closed.{HasEnded}

-- each that is counted has a later epoch
abbrev pub AreLater : ℕ → List Counted → Type 0
AreLater epoch counted = Each (λ (one : Counted). epoch < one.epoch) counted

later_of : (epoch : ℕ) (counted : List Counted) → is_unfinished counted epoch ≡ false → AreLater epoch counted
later_of epoch [] none = tt
later_of epoch (one ∷ counted) none =
    let parts = or_parts (nat_le one.epoch epoch) (is_unfinished counted epoch) none in
    (leb-false one.epoch epoch parts.0, later_of epoch counted parts.1)

finished_of : (epoch : ℕ) (counted : List Counted) → AreLater epoch counted → is_unfinished counted epoch ≡ false
finished_of epoch [] later = refl
finished_of epoch (one ∷ counted) later =
    or_from (nat_le one.epoch epoch) (is_unfinished counted epoch) (le_none one.epoch epoch later.0)
    (finished_of epoch counted later.1)

-- what is counted stays later
module _ (epoch : ℕ) where
  abbrev Later : DihState → Type 0
  Later s = AreLater epoch s.counted

  reports_later : (now : DihState) → Later now → ReportOutcomes now (λ step. Later step.state)
  reports_later now later =
      record { unordered = λ none. later; waits = λ order there left. later; reports = λ order there none. later }

  of_end : (s : DihState) (tx : TxId) (now : DihState) → IsEnded s tx now → Later s → Later now
  of_end s tx _ (was_counted at is) later =
      each_removed (λ (one : Counted). epoch < one.epoch) s.counted at later
  of_end s tx _ (was_held at none is) later = later
  of_end s tx _ (was_unknown none is) later = later

  later_after : (s : DihState) (x : Signal) → epoch < s.current → Later s → Later (dih_row s x).state
  later_after s x above later =
      dih_outcomes s x (λ step. Later step.state) (record {
        stays = later;
        decides = λ tx ops is on. one_more tx;
        holds = λ tx ops is off. later;
        serves = λ at tx is own on first. one_more tx;
        ends = λ tx now is done. reports_later now (of_end s tx now done later);
        prepares = λ about next is ahead. later;
        prepares_late = λ about next is late. later;
        commits = λ about next is ahead. reports_later (ordered (committed s about next) x.member.node about) later;
        commits_late = λ about next is late. reports_later (ordered s x.member.node about) later;
        closes = λ about is. later;
        copies = λ about mask is. later;
        notes = λ about is. later;
        tells = λ is. later;
        fences = λ proposal is. later;
      })
    where
      one_more : (tx : TxId) → AreLater epoch (s.counted ++ record { tx = tx; epoch = s.current } ∷ [])
      one_more tx =
          each_append (λ (one : Counted). epoch < one.epoch) s.counted (record { tx = tx; epoch = s.current } ∷ [])
          later (above, tt)

  -- so the member has ended the epoch, whatever it takes and whatever view is installed
  pub ended_keeps : (s : DihState) (x : Signal) → Rises x.body → HasEnded epoch s → HasEnded epoch (dih_row s x).state
  ended_keeps s x rises ended =
      let above = ended.later in
      let up = dih_never_falls s x rises in
      record {
        later = omega (arith, above, up);
        finished =
            finished_of epoch (dih_row s x).state.counted
            (later_after s x above (later_of epoch s.counted ended.finished));
      }

  pub ended_installs : (s : DihState) (number : ℕ) → HasEnded epoch s → HasEnded epoch (install_row s number).state
  unfolding install_row
  ended_installs s number ended = record { later = ended.later; finished = ended.finished }

-- what is reported to be ended has ended in this state
abbrev pub TellsEnd : DihState → Body → Type 0
TellsEnd now (Epoch (GcpNodeFinish epoch)) = HasEnded epoch now
TellsEnd now body = Unit {0}

abbrev Tells : Step DihState → Type 0
Tells step = Each (λ sent. TellsEnd step.state sent.body) step.effects.sends

more_tells : (now : DihState) (node : ℕ) (b : Bool) → Each (λ sent. TellsEnd now sent.body) (go_on_if node b)
more_tells now node true = (tt, tt)
more_tells now node false = tt

serving_tells : (step : Step DihState) → Tells step → Tells (serving step)
serving_tells step tells =
    each_append (λ (sent : Outgoing). TellsEnd step.state sent.body) step.effects.sends
    (go_on_if step.state.node (can_serve step.state)) tells
    (more_tells step.state step.state.node (can_serve step.state))

-- what is reported has ended
reports_end : (now : DihState) → IsOrderPast now → (order : Report) → now.order ≡ Some order
    → is_unfinished now.counted order.epoch ≡ false → Tells (reporting now order)
reports_end now past order there none =
    (record { later = subst (λ o. IsPast o now.current) there past; finished = none }, tt)

reports_tell : (now : DihState) → IsOrderPast now → ReportOutcomes now Tells
reports_tell now past =
    record { unordered = λ none. tt; waits = λ order there left. tt; reports = reports_end now past }

serves_tell : (now : DihState) → IsOrderPast now → ReportOutcomes now (λ step. Tells (serving step))
serves_tell now past = record {
  unordered = λ none. serving_tells (stay now) tt;
  waits = λ order there left. serving_tells (stay now) tt;
  reports = λ order there none. serving_tells (reporting now order) (reports_end now past order there none);
}

-- whatever it takes
pub ended_tells : (s : DihState) (x : Signal) → Rises x.body → IsSound s
    → Each (λ sent. TellsEnd (dih_row s x).state sent.body) (dih_row s x).effects.sends
ended_tells s x rises sound =
    dih_outcomes s x Tells (record {
      stays = tt;
      decides = λ tx ops is on. (tt, tt);
      holds = λ tx ops is off. tt;
      serves = λ at tx is own on first. (tt, more_tells _ s.node (nat_lt 0 (length (remove s.held 0))));
      ends = λ tx now is done. reports_tell now (still_past s tx now done sound.order);
      prepares = λ epoch next is ahead. (tt, tt);
      prepares_late = λ epoch next is late. (tt, tt);
      commits = λ epoch next is ahead.
          serves_tell (ordered (committed s epoch next) x.member.node epoch) (subst Rises is rises);
      commits_late = λ epoch next is late. reports_tell (ordered s x.member.node epoch) late;
      closes = λ epoch is. (tt, tt);
      copies = λ epoch mask is. (tt, tt);
      notes = λ epoch is. tt;
      tells = λ is. (tt, tt);
      fences = λ proposal is. (tt, tt);
    })
