-- A master of checkpoints tells nothing of transactions, whatever it takes.
use Rattle.std.proofs.Common.{◌≡◌, true, false, refl}
use Rattle.sig_core.specs.declared.mark.Mark.{Mark}
use Rattle.sig_core.specs.declared.mark.Mark.TheVariants.{Decided, Reported}
use Rattle.sig_core.specs.declared.signal.Body.{Body}
use Rattle.sig_core.specs.declared.signal.Body.TheVariants.{Chain, Client, Epoch, Host, Takeover}
use Rattle.sig_core.specs.declared.signal.Signal.{Signal}
use Rattle.sig_core.specs.declared.signal.epoch.EpochSignal.TheVariants.{DiVerifyConf, DiVerifyEnd, DiVerifyReq}
use Rattle.sig_core.specs.declared.signal.host.HostSignal.TheVariants.{Continue}
use Rattle.sig_core.specs.declared.signal.host.Work.TheVariants.{Transaction}
use Rattle.step_forms.proofs.DoesLemmas.{speaks_do}
use Rattle.gcp_master.specs.Master.{master_row}
use Rattle.gcp_master.specs.State.{MasterState}
use Rattle.gcp_master.specs.Words.{is_master_mark, is_master_word}
use Rattle.gcp_master.proofs.Walk.{master_words}
use Rattle.outcome_laws.proofs.knowledge.TellsNothing.{TellsNothing, is_tale}
use Rattle.outcome_laws.proofs.knowledge.MarksOfNoOutcome.{IsNoOutcome}

untold : (body : Body) → is_master_word body ≡ true → is_tale body ≡ false
untold (Client signal) is = absurd cc
untold (Chain signal) is = absurd cc
untold (Takeover signal) is = absurd cc
untold (Epoch (DiVerifyReq tx ops)) is = absurd cc
untold (Epoch (DiVerifyConf tx epoch)) is = absurd cc
untold (Epoch (DiVerifyEnd tx)) is = absurd cc
untold (Host (Continue (Transaction tx) at)) is = absurd cc
untold body is = refl

undecided : (mark : Mark) → is_master_mark mark ≡ true → IsNoOutcome mark
undecided (Decided tx epoch) is = absurd cc
undecided (Reported tx outcome) is = absurd cc
undecided mark is = refl

pub master_tells_nothing : (s : MasterState) (x : Signal) → TellsNothing (master_row s x)
master_tells_nothing s x =
    speaks_do is_master_word is_master_mark (λ body. is_tale body ≡ false) IsNoOutcome (master_row s x) untold undecided
    (master_words s x)
