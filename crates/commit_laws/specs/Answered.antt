-- A client is told of a commit, and keys are completed, when each key that was written has been committed in that view.
use Rattle.std.specs.Prelude.{◌≡◌, ◌⊎◌, ℕ, true, List}
use Rattle.run_theory.specs.Links.{sent}
use Rattle.run_theory.specs.Lists.{IsIn}
use Rattle.sig_core.specs.declared.member.TxId.{TxId}
use Rattle.sig_core.specs.declared.signal.Body.{Body}
use Rattle.sig_core.specs.declared.signal.Body.TheVariants.{Chain, Client}
use Rattle.sig_core.specs.declared.signal.chain.ChainSignal.TheVariants.{Committed, Complete}
use Rattle.sig_core.specs.declared.signal.client.ClientSignal.TheVariants.{TcCommitConf, TcKeyFailConf}
use Rattle.world_core.specs.Start.{Start}
use Rattle.world_core.specs.Steps.{Addressed, HostStep}
use Rattle.view_laws.specs.Order.{sound_machine}
use Rattle.commit_laws.specs.Going.{decided_ops, is_written_by}
use Rattle.commit_laws.specs.Traces.{is_known}

module _ (start : Start) (logs : ℕ → List HostStep) where
  -- its primary has told, in the view of this number, that the key is committed
  pub record WasCommittedIn (number : ℕ) (tx : TxId) (key : List ℕ) : Type 0 where
    pub from : ℕ
    pub to : ℕ
    pub signal : Addressed
    pub there : IsIn signal (sent (sound_machine start) from to (logs from))
    pub body : signal.signal.body ≡ Chain (Committed tx key)
    pub view : signal.signal.view.number ≡ number

  -- each key that the transaction wrote
  abbrev pub AllWereCommittedIn : ℕ → TxId → Type 0
  AllWereCommittedIn number tx =
      (key : List ℕ) → is_written_by (decided_ops start logs tx) key ≡ true → WasCommittedIn number tx key

  abbrev pub IsAnswered : ℕ → Body → Type 0
  IsAnswered number (Client (TcCommitConf tx epoch)) = AllWereCommittedIn number tx
  IsAnswered number (Client (TcKeyFailConf tx epoch)) = AllWereCommittedIn number tx ⊎ (is_known start logs tx ≡ true)
  IsAnswered number (Chain (Complete tx key chain at)) = AllWereCommittedIn number tx ⊎ (is_known start logs tx ≡ true)
  IsAnswered number body = Unit {0}
