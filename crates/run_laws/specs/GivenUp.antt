-- Transactions that their coordinator has given up.
use Rattle.world_core.specs.Hosts.{home, first_hosts}
use Rattle.std.specs.List.{list_any}
use Rattle.std.specs.Prelude.{◌≡◌, ◌||◌, ℕ, Bool, true, false, List}
use Rattle.world_core.specs.Steps.{HostStep}
use Rattle.sig_core.specs.declared.member.TxId.{TxId}
use Rattle.sig_core.specs.declared.signal.Body.TheVariants.{Chain}
use Rattle.sig_core.specs.declared.signal.chain.ChainSignal.TheVariants.{Abort, Commit, Complete}
use Rattle.sig_core.specs.Same.{same_tx}
use Rattle.world_core.specs.History.{is_applied, is_reported}
use Rattle.world_core.specs.Marks.{have_mark}
use Rattle.world_core.specs.Start.{Start}
use Rattle.host_laws.specs.Ways.{back_by, forth_by, sent_ways}
use Rattle.run_laws.specs.Transit.{Comes, IsRun, logs_of}

-- its coordinator has told a replica to abort it, or its client that it is
abbrev pub is_given_up : Start → (ℕ → List HostStep) → TxId → Bool
is_given_up start logs tx = list_any (same_tx tx) (sent_ways start back_by (home start tx) (logs (home start tx)))

-- its coordinator has told a replica to commit it, or its client that it is
abbrev pub is_carried_out : Start → (ℕ → List HostStep) → TxId → Bool
is_carried_out start logs tx = list_any (same_tx tx) (sent_ways start forth_by (home start tx) (logs (home start tx)))

-- none is both
abbrev pub NoneIsBoth : Type 0
NoneIsBoth = (start : Start) (logs : ℕ → List HostStep) (tx : TxId) → is_carried_out start logs tx ≡ true
    → is_given_up start logs tx ≡ false

-- a row is aborted of a transaction that is given up
abbrev pub AbortsAreOfGivenUp : Type 0
AbortsAreOfGivenUp =
    (start : Start) (es : List HostStep) (e : HostStep) (tx : TxId) (key : List ℕ) → Comes start es e
    → e.step.taken.body ≡ Chain (Abort tx key)
    → is_given_up start (logs_of start es) tx ≡ true

-- and committed or completed of one that is carried out
abbrev pub CommitsAreOfCarriedOut : Type 0
CommitsAreOfCarriedOut =
    (start : Start) (es : List HostStep) (e : HostStep) (tx : TxId) (key : List ℕ) (epoch : ℕ) (chain : _) (at : ℕ)
    → Comes start es e
    → e.step.taken.body ≡ Chain (Commit tx key epoch chain at)
    → is_carried_out start (logs_of start es) tx ≡ true

abbrev pub CompletionsAreOfCarriedOut : Type 0
CompletionsAreOfCarriedOut =
    (start : Start) (es : List HostStep) (e : HostStep) (tx : TxId) (key : List ℕ) (chain : _) (at : ℕ)
    → Comes start es e
    → e.step.taken.body ≡ Chain (Complete tx key chain at)
    → is_carried_out start (logs_of start es) tx ≡ true

-- what was applied, or reported committed, isn't given up
abbrev pub KeptAreNotGivenUp : Type 0
KeptAreNotGivenUp =
    (start : Start) (es : List HostStep) (tx : TxId) → IsRun start es
    → (have_mark (is_applied tx) (first_hosts start) (logs_of start es) || have_mark (is_reported tx)
    (first_hosts start)
    (logs_of start es)) ≡ true
    → is_given_up start (logs_of start es) tx ≡ false
