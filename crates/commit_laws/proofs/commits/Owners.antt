-- What hosts of coordinators send of commits: commits from the ends of their chains, no word of rows, and none of the
-- client's side; and takeovers tell the client's side of whom they commit.
use Rattle.std.specs.Prelude.{◌≡◌, ◌≤◌, ◌+◌, ℕ, List, ◌∷◌, length, Some}
use Rattle.std.specs.List.{slice_get}
use Rattle.run_theory.specs.Lists.{Each, IsIn}
use Rattle.sig_core.specs.declared.member.Member.{Member}
use Rattle.sig_core.specs.declared.member.TxId.{TxId}
use Rattle.sig_core.specs.declared.outs.Outgoing.{Outgoing}
use Rattle.sig_core.specs.declared.signal.Body.{Body}
use Rattle.sig_core.specs.declared.signal.Body.TheVariants.{Chain, Client}
use Rattle.sig_core.specs.declared.signal.chain.ChainSignal.TheVariants.{Commit, Committed, Completed}
use Rattle.sig_core.specs.declared.signal.client.ClientSignal.TheVariants.{TcCommitAck, TcKeyFailConf}
use Rattle.takeover_block.specs.declared.gathered.Gathered.{Gathered}
use Rattle.world_core.specs.Start.{Start, made}
use Rattle.world_core.specs.Steps.{HostStep}
use Rattle.world_views.specs.Machine.{step_after}
use Rattle.view_laws.specs.Runs.{view_after}
use Rattle.moment_laws.specs.Moments.{IsMoment, current, logs_of}
use Rattle.moment_laws.specs.Places.{tc_of}
use Rattle.commit_laws.specs.Takeovers.{takeover_at}
use Rattle.commit_laws.proofs.commits.OwnersTakeover.{IsBusy}

-- the takeover of the member is at the commit of the transaction, or at its completion, in the current view
pub record IsAtCommit (start : Start) (logs : ℕ → List HostStep) (member : Member) (tx : TxId) : Type 0 where
  pub number_is : (view_after start (tc_of start member) (logs (tc_of start member))).number
      ≡ (current start logs).number
  pub busy : IsBusy (takeover_at start logs member).stage
  pub gathered : Gathered
  pub first : slice_get (takeover_at start logs member).gathered 0 ≡ Some gathered
  pub tx_is : gathered.tx ≡ tx

abbrev pub IsOwnersWord : Start → (ℕ → List HostStep) → Member → Body → Type 0
IsOwnersWord start logs member (Chain (Commit tx key epoch chain at)) = length chain ≤ at + 1
IsOwnersWord start logs member (Chain (Committed tx key)) = ⊥
IsOwnersWord start logs member (Chain (Completed tx key)) = ⊥
IsOwnersWord start logs member (Client (TcCommitAck tx)) = ⊥
IsOwnersWord start logs member (Client (TcKeyFailConf tx epoch)) = IsAtCommit start logs member tx
IsOwnersWord start logs member body = Unit {0}

abbrev pub OwnersSayCommits : Type 0
OwnersSayCommits =
    (start : Start) (all : ℕ → List HostStep) (e : HostStep) (es : List HostStep) → IsMoment start all (e ∷ es)
    → (member : Member) → IsIn member (made start) → e.host ≡ tc_of start member
    → Each (λ (sent : Outgoing). IsOwnersWord start (logs_of start es) member sent.body)
    (step_after start (tc_of start member) (logs_of start es (tc_of start member)) e).effects.sends
