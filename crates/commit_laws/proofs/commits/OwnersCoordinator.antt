-- What a coordinator sends of commits: a commit goes to the last place of its chain, and there is no word of rows, and
-- none of the client's side.
use Rattle.std.proofs.Common.{◌+◌, ◌≤◌, ℕ, List, length, arith}
use Rattle.run_theory.specs.Lists.{Each}
use Rattle.sig_core.specs.declared.mark.Mark.{Mark}
use Rattle.sig_core.specs.declared.member.TxId.{TxId}
use Rattle.sig_core.specs.declared.outs.Outgoing.{Outgoing}
use Rattle.sig_core.specs.declared.signal.Body.{Body}
use Rattle.sig_core.specs.declared.signal.Body.TheVariants.{Chain, Client}
use Rattle.sig_core.specs.declared.signal.Signal.{Signal}
use Rattle.sig_core.specs.declared.signal.chain.ChainSignal.TheVariants.{Commit, Committed, Completed}
use Rattle.sig_core.specs.declared.signal.client.ClientSignal.TheVariants.{TcCommitAck, TcKeyFailConf}
use Rattle.sig_core.specs.declared.view.View.{View}
use Rattle.sig_core.specs.Step.{Step}
use Rattle.tc_block.specs.declared.transaction.Transaction.{Transaction}
use Rattle.tc_block.proofs.TurnSends.{DriveSends}
use Rattle.frag_map.specs.Layout.{Layout}
use Rattle.tc_views.specs.Coordinator.{coordinator_row}
use Rattle.tc_views.specs.State.{CoordinatorState}
use Rattle.tc_views.specs.Views.{install_row}
use Rattle.tc_views.proofs.Walk.{coordinator_each, coordinator_installed_each}

-- a word of a coordinator
abbrev pub IsWord : Body → Type 0
IsWord (Chain (Commit tx key epoch chain at)) = length chain ≤ at + 1
IsWord (Chain (Committed tx key)) = ⊥
IsWord (Chain (Completed tx key)) = ⊥
IsWord (Client (TcCommitAck tx)) = ⊥
IsWord (Client (TcKeyFailConf tx epoch)) = ⊥
IsWord body = Unit {0}

abbrev pub IsWordOf : Outgoing → Type 0
IsWordOf sent = IsWord sent.body

abbrev pub AreWords : List Outgoing → Type 0
AreWords sends = Each IsWordOf sends

abbrev pub SendsWords : {S : Type 0} → Step S → Type 0
SendsWords step = AreWords step.effects.sends

abbrev AnyMark : Mark → Type 0
AnyMark mark = Unit {0}

drives_words : (node : ℕ) (layout : Layout) (tx : TxId) (t : Transaction) (body : Body)
    → DriveSends node layout tx t body (λ turn sent. IsWordOf sent)
drives_words node layout tx t body = record {
  goes_on = λ turn left. tt;
  commits = λ turn epoch awaited has in_phase u there. omega arith;
  confirms = λ turn epoch has how. tt;
  completes = λ turn epoch awaited has in_phase u there written. tt;
  aborts = λ turn why verifying awaited is in_phase key r there. tt;
  leaves = λ turn over. tt;
  rolls_back = λ turn why is over. tt;
}

-- whatever it takes
pub coordinator_words : (s : CoordinatorState) (x : Signal) → SendsWords (coordinator_row s x)
coordinator_words s x =
    (coordinator_each s x IsWordOf AnyMark (record {
      turns = λ tx t at split. record {
        drives = drives_words s.tc.node s.tc.layout tx t x.body;
        operates = λ op is can. tt;
        answers = λ key answer asked is own at. tt;
        waits = λ asked is on r. tt;
        decides = λ is ready. tt;
      };
      resumes = λ tx t at split. drives_words s.tc.node s.tc.layout tx t x.body;
      full = λ name. tt;
      begins = λ name. tt;
      passes = λ tx ahead. tt;
      promises = tt;
      goes_on = λ node. tt;
    })).0

-- and whatever view is installed
pub coordinator_installs_words : (s : CoordinatorState) (view : View) → SendsWords (install_row s view)
coordinator_installs_words s view = (coordinator_installed_each s view IsWordOf AnyMark tt).0
