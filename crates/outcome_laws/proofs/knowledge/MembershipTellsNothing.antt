-- A membership tells nothing of transactions, whatever it takes.
use Rattle.std.proofs.Common.{◌≡◌, true, false, refl}
use Rattle.sig_core.specs.declared.mark.Mark.{Mark}
use Rattle.sig_core.specs.declared.mark.Mark.TheVariants.{Decided, Reported}
use Rattle.sig_core.specs.declared.signal.Body.{Body}
use Rattle.sig_core.specs.declared.signal.Body.TheVariants.{Chain, Client, Epoch, Host, Takeover}
use Rattle.sig_core.specs.declared.signal.Signal.{Signal}
use Rattle.sig_core.specs.declared.signal.client.ClientSignal.TheVariants.{ViewRep}
use Rattle.sig_core.specs.declared.signal.epoch.EpochSignal.TheVariants.{DiVerifyConf, DiVerifyEnd, DiVerifyReq}
use Rattle.sig_core.specs.declared.signal.host.HostSignal.TheVariants.{Continue}
use Rattle.sig_core.specs.declared.signal.host.Work.TheVariants.{Transaction}
use Rattle.sig_core.specs.declared.signal.takeover.TakeoverSignal.TheVariants.{LqhTransConf, LqhTransEnd, LqhTransReq}
use Rattle.sig_core.specs.declared.view.View.{View}
use Rattle.sig_core.specs.Step.{Step}
use Rattle.step_forms.specs.Does.{Speaks}
use Rattle.step_forms.proofs.DoesLemmas.{speaks_do}
use Rattle.qmgr_block.specs.Qmgr.{qmgr_installed, qmgr_row}
use Rattle.qmgr_block.specs.State.{QmgrState}
use Rattle.qmgr_block.specs.Words.{is_qmgr_mark, is_qmgr_word}
use Rattle.qmgr_block.proofs.Walk.{qmgr_words}
use Rattle.outcome_laws.proofs.knowledge.TellsNothing.{TellsNothing, is_tale}
use Rattle.outcome_laws.proofs.knowledge.MarksOfNoOutcome.{IsNoOutcome}

untold : (body : Body) → is_qmgr_word body ≡ true → is_tale body ≡ false
untold (Client ViewRep) is = refl
untold (Client signal) is = absurd cc
untold (Chain signal) is = absurd cc
untold (Epoch (DiVerifyReq tx ops)) is = absurd cc
untold (Epoch (DiVerifyConf tx epoch)) is = absurd cc
untold (Epoch (DiVerifyEnd tx)) is = absurd cc
untold (Takeover (LqhTransConf tx key told epoch)) is = absurd cc
untold (Takeover LqhTransReq) is = absurd cc
untold (Takeover LqhTransEnd) is = absurd cc
untold (Host (Continue (Transaction tx) at)) is = absurd cc
untold body is = refl

undecided : (mark : Mark) → is_qmgr_mark mark ≡ true → IsNoOutcome mark
undecided (Decided tx epoch) is = absurd cc
undecided (Reported tx outcome) is = absurd cc
undecided mark is = refl

nothing : {S : Type 0} (step : Step S) → Speaks is_qmgr_word is_qmgr_mark step → TellsNothing step
nothing step = speaks_do is_qmgr_word is_qmgr_mark (λ body. is_tale body ≡ false) IsNoOutcome step untold undecided

-- whatever it takes, and whatever view is installed
pub membership_tells_nothing : (s : QmgrState) (x : Signal) → TellsNothing (qmgr_row s x)
membership_tells_nothing s x = nothing (qmgr_row s x) (qmgr_words.at_signals s x)

pub membership_installs_nothing : (s : QmgrState) (view : View) → TellsNothing (qmgr_installed s view)
membership_installs_nothing s view = nothing (qmgr_installed s view) (qmgr_words.at_installations s view)
