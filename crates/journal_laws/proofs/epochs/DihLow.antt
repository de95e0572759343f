-- The epochs of a node that are told only of epochs that can be written give only such.
use Rattle.std.proofs.Common.{ℕ, subst}
use Rattle.sig_core.specs.declared.signal.Signal.{Signal}
use Rattle.step_forms.specs.Does.{Does}
use Rattle.sig_core.specs.declared.member.TxId.{TxId}
use Rattle.dih_node.specs.Dih.{dih_row}
use Rattle.dih_node.specs.Orders.{install_row}
use Rattle.dih_node.specs.State.{DihState}
use Rattle.dih_node.proofs.Walk.{IsEnded, ReportOutcomes, dih_each, dih_installed_each, dih_outcomes, ordered}
use Rattle.dih_node.proofs.Walk.{was_counted, was_held, was_unknown}
use Rattle.journal_laws.proofs.epochs.Low.{IsLow, IsLowTold, MarksLow, TellsLow}

-- the epoch that they give, and the one that is to follow
abbrev pub DihLow : DihState → Type 0
DihLow s = IsLow s.current × IsLow s.next

ended_low : (s : DihState) (tx : TxId) (now : DihState) → IsEnded s tx now → DihLow s → DihLow now
ended_low s tx _ (was_counted at is) low = low
ended_low s tx _ (was_held at none is) low = low
ended_low s tx _ (was_unknown none is) low = low

stays_low : (s : DihState) → DihLow s → ReportOutcomes s (λ step. DihLow step.state)
stays_low s low = record {
  unordered = λ none. low;
  waits = λ order there left. low;
  reports = λ order there none. low;
}

-- whatever they take that tells only such
pub dih_low : (s : DihState) (x : Signal) → DihLow s → IsLowTold x.body
    → DihLow (dih_row s x).state × Does TellsLow MarksLow (dih_row s x)
dih_low s x low told = (
  dih_outcomes s x (λ step. DihLow step.state) (record {
    stays = low;
    decides = λ tx ops is on. low;
    holds = λ tx ops is off. low;
    serves = λ at tx is own on first. low;
    ends = λ tx now is ended. stays_low now (ended_low s tx now ended low);
    prepares = λ epoch next is ahead. (low.0, subst IsLowTold is told);
    prepares_late = λ epoch next is late. low;
    commits = λ epoch next is ahead.
        let next_low : IsLow next = subst IsLowTold is told in
        record {
          unordered = λ none. (next_low, next_low);
          waits = λ order there left. (next_low, next_low);
          reports = λ order there none. (next_low, next_low);
        };
    commits_late = λ epoch next is late. stays_low (ordered s x.member.node epoch) low;
    closes = λ epoch is. low;
    copies = λ epoch mask is. low;
    notes = λ epoch is. low;
    tells = λ is. low;
    fences = λ proposal is. low;
  }),
  dih_each s x TellsLow MarksLow (record {
    decided = λ tx is. low.0;
    confirms = λ tx is. tt;
    goes_on = tt;
    prepares = λ epoch next is. tt;
    reports = λ order is. tt;
    closes = λ epoch is. tt;
    copies = λ epoch mask is. tt;
    tells = λ is. low.1;
    fences = λ proposal is. tt;
  }),
)

-- where a view is installed they go on so
pub dih_installs_low : (s : DihState) (number : ℕ) → DihLow s → DihLow (install_row s number).state
unfolding install_row
dih_installs_low s number low = low

pub dih_installs_tell : (s : DihState) (number : ℕ) → Does TellsLow MarksLow (install_row s number)
dih_installs_tell s number = dih_installed_each s number TellsLow MarksLow tt
