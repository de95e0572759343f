-- In each view each key of a transaction is committed once at most, and completed once at most.
use Rattle.std.specs.Prelude.{◌≤◌, ◌&&◌, ◌==◌, ℕ, Bool, false, List}
use Rattle.sig_core.specs.declared.member.Member.{Member}
use Rattle.sig_core.specs.declared.member.TxId.{TxId}
use Rattle.sig_core.specs.declared.signal.Body.{Body}
use Rattle.sig_core.specs.declared.signal.Body.TheVariants.{Chain}
use Rattle.sig_core.specs.declared.signal.chain.ChainSignal.TheVariants.{Commit, Committed, Complete, Completed}
use Rattle.sig_core.specs.declared.signal.Signal.{Signal}
use Rattle.sig_core.specs.Same.{same_key, same_tx}
use Rattle.world_core.specs.Start.{Start, made}
use Rattle.world_core.specs.Steps.{HostStep}
use Rattle.moment_laws.specs.Moments.{IsMoment, logs_of}
use Rattle.moment_laws.specs.Places.{tc_of}
use Rattle.request_laws.specs.Tokens.{all_sent, sent_along, total_of}

module _ (tx : TxId) (key : List ℕ) where
  abbrev pub is_of : TxId → List ℕ → Bool
  is_of other own = same_tx other tx && same_key own key

  -- the key is to be committed, and was; it is to be completed, and was
  abbrev pub commits : Body → Bool
  commits (Chain (Commit other own epoch chain at)) = is_of other own
  commits body = false

  abbrev pub has_committed : Body → Bool
  has_committed (Chain (Committed other own)) = is_of other own
  has_committed body = false

  abbrev pub completes : Body → Bool
  completes (Chain (Complete other own chain at)) = is_of other own
  completes body = false

  abbrev pub has_completed : Body → Bool
  has_completed (Chain (Completed other own)) = is_of other own
  has_completed body = false

-- of a view
abbrev pub in_number : ℕ → (Body → Bool) → Signal → Bool
in_number number p x = p x.body && (x.view.number == number)

-- how many of these coordinators and takeovers have sent
abbrev pub owners_sent : Start → (Signal → Bool) → (ℕ → List HostStep) → ℕ
owners_sent start p logs =
    total_of (made start) (λ (member : Member). sent_along start p (tc_of start member) (logs (tc_of start member)))

pub record AreDrivenOnce (start : Start) (logs : ℕ → List HostStep) (number : ℕ) (tx : TxId) (key : List ℕ) : Type 0
  where
    pub commits_once : owners_sent start (in_number number (commits tx key)) logs ≤ 1
    pub committed_once : all_sent start (in_number number (has_committed tx key)) logs ≤ 1
    pub completes_once : owners_sent start (in_number number (completes tx key)) logs ≤ 1
    pub completed_once : all_sent start (in_number number (has_completed tx key)) logs ≤ 1

abbrev pub KeysAreDrivenOnce : Type 0
KeysAreDrivenOnce =
    (start : Start) (all : ℕ → List HostStep) (es : List HostStep) → IsMoment start all es
    → (number : ℕ) (tx : TxId) (key : List ℕ) → AreDrivenOnce start (logs_of start es) number tx key
