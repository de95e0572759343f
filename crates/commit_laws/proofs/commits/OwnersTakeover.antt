-- What a takeover sends of commits: a commit goes to the last place of its chain, and the client's side is told of whom
-- it commits.
use Rattle.std.proofs.Common.{ℕ, List, ◌≡◌, ◌≤◌, ◌+◌, length, sym, subst, arith}
use Rattle.std.specs.Prelude.{Some, slice_get}
use Rattle.sig_core.specs.declared.member.TxId.{TxId}
use Rattle.sig_core.specs.declared.signal.Body.{Body}
use Rattle.sig_core.specs.declared.signal.Signal.{Signal}
use Rattle.takeover_block.specs.declared.gathered.Gathered.{Gathered}
use Rattle.takeover_block.specs.declared.stage.Stage.{Stage}
use Rattle.takeover_block.specs.declared.stage.Stage.TheVariants.{Committing, Completing}
use Rattle.takeover_block.specs.State.{TakeoverState}
use Rattle.takeover_block.specs.Takeover.{takeover_row}
use Rattle.sig_core.specs.declared.mark.Mark.{Mark}
use Rattle.takeover_block.proofs.Walk.{IsAtCommit, commits_it, completing_it, drives_completion, takeover_does}
use Rattle.run_theory.specs.Lists.{Each}
use Rattle.sig_core.specs.declared.outs.Outgoing.{Outgoing}
use Rattle.sig_core.specs.declared.signal.Body.TheVariants.{Chain, Client}
use Rattle.sig_core.specs.declared.signal.chain.ChainSignal.TheVariants.{Commit, Committed, Completed}
use Rattle.sig_core.specs.declared.signal.client.ClientSignal.TheVariants.{TcCommitAck, TcKeyFailConf}
use Rattle.sig_core.specs.Step.{Step}

-- it is at a commit, or at the completion behind it
abbrev pub IsBusy : Stage → Type 0
IsBusy (Committing epoch n) = Unit {0}
IsBusy (Completing epoch n) = Unit {0}
IsBusy other = ⊥

-- where this is so of whom the client's side is told
module _ (W : TxId → Type 0) where
  abbrev pub IsTold : Body → Type 0
  IsTold (Chain (Commit tx key epoch chain at)) = length chain ≤ at + 1
  IsTold (Chain (Committed tx key)) = ⊥
  IsTold (Chain (Completed tx key)) = ⊥
  IsTold (Client (TcCommitAck tx)) = ⊥
  IsTold (Client (TcKeyFailConf tx epoch)) = W tx
  IsTold body = Unit {0}

  abbrev IsToldOf : Outgoing → Type 0
  IsToldOf sent = IsTold sent.body

  abbrev pub AreTold : List Outgoing → Type 0
  AreTold sends = Each (λ (sent : Outgoing). IsTold sent.body) sends

  abbrev SendsTold : {S : Type 0} → Step S → Type 0
  SendsTold step = AreTold step.effects.sends

  completing_told : (s : TakeoverState) (g : Gathered) (epoch : ℕ) → IsAtCommit s g epoch
      → ((g : Gathered) → IsBusy s.stage → slice_get s.gathered 0 ≡ Some g → W g.tx) → W g.tx
  completing_told s g epoch (commits_it n first at) so = so g (subst IsBusy (sym at) tt) first
  completing_told s g epoch (completing_it n first at) so = so g (subst IsBusy (sym at) tt) first

  pub takeover_told : (s : TakeoverState) (x : Signal)
      → ((g : Gathered) → IsBusy s.stage → slice_get s.gathered 0 ≡ Some g → W g.tx) → SendsTold (takeover_row s x)
  takeover_told s x so =
      (takeover_does s x IsToldOf (λ (mark : Mark). Unit {0}) (record {
        asks = λ member. tt;
        asks_on = λ left. tt;
        commits = λ g epoch n drives key there. omega arith;
        confirms = λ g epoch n drives. completing_told s g epoch (drives_completion s x.body g epoch n drives) so;
        completes = λ g epoch n drives key there. tt;
        aborts = λ g n drives key there member among. tt;
        drives_on = λ g left. tt;
        gives_up = λ g key n is first at last. tt;
        ends = λ gathered rules none. (tt, tt);
      })).0
