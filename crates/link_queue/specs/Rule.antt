-- The rule of a link: what was sent is what was taken and then what the queue holds.
use Rattle.std.specs.Prelude.{◌≡◌, ℕ, Bool, true, List, ◌++◌, ◌<◌, ◌^◌, length}
use Rattle.std.specs.List.{AllByRecursion}
use mathlib.Core.Option.{some}
use lib.ListN.{get_elem?}
use Rattle.sig_core.specs.declared.signal.Signal.{Signal}
use Rattle.link_queue.specs.declared.rule.PassView.{PassView}
use Rattle.link_queue.specs.End.{IsSentBy}

abbrev pub pass_view : Bool → Bool → ℕ → ℕ → List Signal → List Signal → PassView
pass_view sends takes from to sent taken =
    record { sends = sends; takes = takes; from = from; to = to; sent = sent; taken = taken }

-- what is so of a link at a moment: its hosts, the numbers of the passes that may send and take, and what was sent and
-- taken
pub record LinkFacts : Type 0 where
  pub from : ℕ
  pub to : ℕ
  pub sender : ℕ
  pub taker : ℕ
  pub sent : List Signal
  pub taken : List Signal

-- the pass is the sender, and knows the hosts and all that was sent
abbrev pub IsSender : LinkFacts → ℕ → PassView → Type 0
IsSender f pass v = (pass ≡ f.sender) × (v.sent ≡ f.sent) × (v.from ≡ f.from) × (v.to ≡ f.to)

-- the pass is the taker, and knows the hosts and all that was taken
abbrev pub IsTaker : LinkFacts → ℕ → PassView → Type 0
IsTaker f pass v = (pass ≡ f.taker) × (v.taken ≡ f.taken) × (v.from ≡ f.from) × (v.to ≡ f.to)

-- no pass may send but the sender, nor take but the taker
pub record Knows (f : LinkFacts) (pass : ℕ) (v : PassView) : Type 0 where
  pub sends : v.sends ≡ true → IsSender f pass v
  pub takes : v.takes ≡ true → IsTaker f pass v

abbrev pub AllKnow : LinkFacts → List PassView → Type 0
AllKnow f views = (pass : ℕ) (v : PassView) → get_elem? views pass ≡ some v → Knows f pass v

pub record KeepsLink (f : LinkFacts) (held : List Signal) (views : List PassView) : Type 0 where
  pub splits : f.sent ≡ f.taken ++ held
  pub room : length f.sent < 2 ^ 64
  pub from_sender : AllByRecursion (IsSentBy f.from) f.sent
  pub knows : AllKnow f views

-- the queue holds these signals, the oldest first, and its passes know that much
abbrev pub IsLink : List Signal → List PassView → Type 0
IsLink held views = (f : LinkFacts) × KeepsLink f held views
