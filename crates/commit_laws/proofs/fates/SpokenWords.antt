-- What signals say of aborts and of commits.
use Rattle.std.proofs.Common.{◌≡◌, false, List}
use Rattle.run_theory.specs.Lists.{Each}
use Rattle.sig_core.specs.declared.member.TxId.{TxId}
use Rattle.sig_core.specs.declared.outs.Outgoing.{Outgoing}
use Rattle.sig_core.specs.declared.signal.Body.{Body}
use Rattle.sig_core.specs.declared.signal.Body.TheVariants.{Chain, Client}
use Rattle.sig_core.specs.declared.signal.chain.ChainSignal.TheVariants.{Abort, Aborted, Commit, Committed, Complete}
use Rattle.sig_core.specs.declared.signal.chain.ChainSignal.TheVariants.{Completed}
use Rattle.sig_core.specs.declared.signal.client.ClientSignal.TheVariants.{TcKeyFailRef, TcRollbackRep, ViewRep}
use Rattle.outcome_laws.proofs.knowledge.TellsNothing.{is_tale}
use Rattle.commit_laws.specs.Fates.{Fate, aborts, commits}
use Rattle.commit_laws.specs.Speaks.{SaysAbort, SaysCommit}

-- where this is said of whose abort a signal speaks, and that of whose commit
module _ (A C : TxId → Type 0) where
  abbrev pub Speaks : Body → Type 0
  Speaks (Chain (Abort tx key)) = A tx
  Speaks (Chain (Aborted tx key)) = A tx
  Speaks (Client (TcRollbackRep tx cause)) = A tx
  Speaks (Client (TcKeyFailRef tx)) = A tx
  Speaks (Chain (Commit tx key epoch chain at)) = C tx
  Speaks (Chain (Committed tx key)) = C tx
  Speaks (Chain (Complete tx key chain at)) = C tx
  Speaks (Chain (Completed tx key)) = C tx
  Speaks body = Unit {0}

  abbrev pub IsSpoken : Outgoing → Type 0
  IsSpoken sent = Speaks sent.body

  abbrev pub AreSpoken : List Outgoing → Type 0
  AreSpoken sends = Each (λ (sent : Outgoing). Speaks sent.body) sends

  -- what tells no tale speaks of none, nor does what the client's side sends
  untold_speaks : (body : Body) → is_tale body ≡ false → Speaks body
  untold_speaks (Client ViewRep) none = tt
  untold_speaks (Client signal) none = absurd cc
  untold_speaks (Chain signal) none = absurd cc
  untold_speaks body none = tt

-- where one is so of whoever the other is so of, a signal that speaks of the other does of the one
module _ (A C B D : TxId → Type 0) (one : (tx : TxId) → A tx → B tx) (other : (tx : TxId) → C tx → D tx) where
  pub speaks_so : (body : Body) → Speaks A C body → Speaks B D body
  speaks_so (Chain (Abort tx key)) spoken = one tx spoken
  speaks_so (Chain (Aborted tx key)) spoken = one tx spoken
  speaks_so (Client (TcRollbackRep tx cause)) spoken = one tx spoken
  speaks_so (Client (TcKeyFailRef tx)) spoken = one tx spoken
  speaks_so (Chain (Commit tx key epoch chain at)) spoken = other tx spoken
  speaks_so (Chain (Committed tx key)) spoken = other tx spoken
  speaks_so (Chain (Complete tx key chain at)) spoken = other tx spoken
  speaks_so (Chain (Completed tx key)) spoken = other tx spoken
  speaks_so body spoken = tt

-- of fates: it is what is said of aborts, and of commits
module _ (F : TxId → Fate) where
  pub abort_said : (body : Body) → Speaks (λ tx. F tx ≡ aborts) (λ tx. F tx ≡ commits) body → SaysAbort F body
  abort_said (Chain (Abort tx key)) spoken = spoken
  abort_said (Chain (Aborted tx key)) spoken = spoken
  abort_said (Client (TcRollbackRep tx cause)) spoken = spoken
  abort_said (Client (TcKeyFailRef tx)) spoken = spoken
  abort_said body spoken = tt

  pub commit_said : (body : Body) → Speaks (λ tx. F tx ≡ aborts) (λ tx. F tx ≡ commits) body → SaysCommit F body
  commit_said (Chain (Commit tx key epoch chain at)) spoken = spoken
  commit_said (Chain (Committed tx key)) spoken = spoken
  commit_said (Chain (Complete tx key chain at)) spoken = spoken
  commit_said (Chain (Completed tx key)) spoken = spoken
  commit_said body spoken = tt

  pub both_said : (body : Body) → SaysAbort F body → SaysCommit F body
      → Speaks (λ tx. F tx ≡ aborts) (λ tx. F tx ≡ commits) body
  both_said (Chain (Abort tx key)) abort commit = abort
  both_said (Chain (Aborted tx key)) abort commit = abort
  both_said (Client (TcRollbackRep tx cause)) abort commit = abort
  both_said (Client (TcKeyFailRef tx)) abort commit = abort
  both_said (Chain (Commit tx key epoch chain at)) abort commit = commit
  both_said (Chain (Committed tx key)) abort commit = commit
  both_said (Chain (Complete tx key chain at)) abort commit = commit
  both_said (Chain (Completed tx key)) abort commit = commit
  both_said body abort commit = tt

-- what is said of some fates is said of others
module _ (F G : TxId → Fate) where
  pub aborts_grow : ((tx : TxId) → F tx ≡ aborts → G tx ≡ aborts) → (body : Body) → SaysAbort F body → SaysAbort G body
  aborts_grow so (Chain (Abort tx key)) says = so tx says
  aborts_grow so (Chain (Aborted tx key)) says = so tx says
  aborts_grow so (Client (TcRollbackRep tx cause)) says = so tx says
  aborts_grow so (Client (TcKeyFailRef tx)) says = so tx says
  aborts_grow so body says = tt

  pub commits_grow : ((tx : TxId) → F tx ≡ commits → G tx ≡ commits) → (body : Body) → SaysCommit F body
      → SaysCommit G body
  commits_grow so (Chain (Commit tx key epoch chain at)) says = so tx says
  commits_grow so (Chain (Committed tx key)) says = so tx says
  commits_grow so (Chain (Complete tx key chain at)) says = so tx says
  commits_grow so (Chain (Completed tx key)) says = so tx says
  commits_grow so body says = tt
