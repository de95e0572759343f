-- What a takeover sends along a list of signals, by what it has heard.
use Rattle.std.specs.Prelude.{◌≡◌, ◌≤◌, ℕ, ◌+◌, ◌-◌, ◌&&◌, Bool, true, false, nat_lt, List, [], ◌∷◌, length}
use Rattle.std.specs.Prelude.{Option, None, Some}
use Rattle.run_theory.specs.Lists.{Each, IsIn}
use Rattle.sig_core.specs.declared.member.TxId.{TxId}
use Rattle.sig_core.specs.declared.outs.Outgoing.{Outgoing}
use Rattle.sig_core.specs.declared.signal.Body.{Body}
use Rattle.sig_core.specs.declared.signal.Body.TheVariants.{Chain, Client, Takeover}
use Rattle.sig_core.specs.declared.signal.Signal.{Signal}
use Rattle.sig_core.specs.declared.signal.chain.ChainSignal.TheVariants.{Commit, Committed, Abort, Aborted}
use Rattle.sig_core.specs.declared.signal.client.ClientSignal.TheVariants.{TcKeyFailConf, TcKeyFailRef}
use Rattle.sig_core.specs.declared.signal.takeover.TakeoverSignal.TheVariants.{TakeoverOrd, LqhTransConf, LqhTransEnd}
use Rattle.sig_core.specs.Same.{same_tx}
use Rattle.frag_map.specs.Layout.{Layout}
use Rattle.takeover_block.specs.declared.gathered.Gathered.{Gathered}
use Rattle.takeover_block.specs.Gather.{member_count}
use Rattle.takeover_block.specs.Gathered.{is_before, told_epoch}
use Rattle.takeover_block.specs.Keys.{with_key}
use Rattle.takeover_block.specs.Rule.{replica_count}
use Rattle.takeover_block.specs.State.{TakeoverState, resting}
use Rattle.takeover_block.specs.Takeover.{takeover_row}

-- what a member told of a transaction: its epoch, where the record is committed or a marker
pub record Telling : Type 0 where
  pub tx : TxId
  pub epoch : Option ℕ

-- what was heard since the last order: how many members have still to end, and what was told before all had, the newest
-- first
pub record Heard : Type 0 where
  pub awaited : ℕ
  pub told : List Telling

-- no order was heard
abbrev pub unordered : Heard
unordered = record { awaited = 0; told = [] }

abbrev pub telling : TxId → Option ℕ → Telling
telling tx epoch = record { tx = tx; epoch = epoch }

abbrev pub hear_if : Heard → Telling → Bool → Heard
hear_if h t true = record { awaited = h.awaited; told = t ∷ h.told }
hear_if h t false = h

-- one more signal is heard, in a view of so many members
abbrev pub hear : ℕ → Heard → Body → Heard
hear members h (Takeover TakeoverOrd) = record { awaited = members; told = [] }
hear members h (Takeover (LqhTransConf tx key state epoch)) =
    hear_if h (telling tx (told_epoch state epoch)) (nat_lt 0 h.awaited)
hear members h (Takeover LqhTransEnd) = record { awaited = h.awaited - 1; told = h.told }
hear members h _ = h

-- a member told that the transaction is committed, in this epoch
abbrev pub IsTold : List Telling → TxId → ℕ → Type 0
IsTold told tx epoch = IsIn (telling tx (Some epoch)) told

-- no member told so, in whatever epoch
abbrev pub IsUntold : List Telling → TxId → Type 0
IsUntold told tx = Each (λ t. t.tx ≡ tx → t.epoch ≡ None) told

-- each stands before all that are behind it, by TxId
abbrev pub AreInOrder : List Gathered → Type 0
AreInOrder [] = Unit {0}
AreInOrder (g ∷ gs) = Each (λ later. is_before g.tx later.tx ≡ true) gs × AreInOrder gs

-- the takeover after these signals
abbrev pub after_all : TakeoverState → List Signal → TakeoverState
after_all s [] = s
after_all s (x ∷ xs) = after_all (takeover_row s x).state xs

-- P is of each signal that is sent along these, with what was heard when it was sent
abbrev pub EachSent : {H : Type 0} → (H → Body → H) → (H → Outgoing → Type 0) → TakeoverState → H → List Signal → Type 0
EachSent hearing P s h [] = Unit {0}
EachSent hearing P s h (x ∷ xs) =
    Each (P (hearing h x.body)) (takeover_row s x).effects.sends
    × EachSent hearing P (takeover_row s x).state (hearing h x.body) xs

-- so whatever signals come, from the beginning or from the installation of a view
abbrev pub Always : (Heard → Outgoing → Type 0) → Type 0
Always P =
    (node : ℕ) (layout : Layout) (signals : List Signal)
    → EachSent (hear (member_count layout.view)) P (resting node layout) unordered signals

-- a commit, and the word of it to the client, is of a transaction that a member told to be committed in that epoch
abbrev pub CommitIsTold : Heard → Body → Type 0
CommitIsTold h (Chain (Commit tx key epoch chain at)) = IsTold h.told tx epoch
CommitIsTold h (Client (TcKeyFailConf tx epoch)) = IsTold h.told tx epoch
CommitIsTold h _ = Unit {0}

-- an abort, and the word of it to the client, is of a transaction that no member told to be committed
abbrev pub AbortIsUntold : Heard → Body → Type 0
AbortIsUntold h (Chain (Abort tx key)) = IsUntold h.told tx
AbortIsUntold h (Client (TcKeyFailRef tx)) = IsUntold h.told tx
AbortIsUntold h _ = Unit {0}

-- what ends a transaction, and the word that the takeover is over, is sent when all members have ended
abbrev pub AllHaveEnded : Heard → Body → Type 0
AllHaveEnded h (Chain signal) = h.awaited ≡ 0
AllHaveEnded h (Client signal) = h.awaited ≡ 0
AllHaveEnded h _ = Unit {0}

abbrev pub CommitsWhatWasTold : Type 0
CommitsWhatWasTold = Always (λ h send. CommitIsTold h send.body)

abbrev pub AbortsWhatNobodyCommitted : Type 0
AbortsWhatNobodyCommitted = Always (λ h send. AbortIsUntold h send.body)

abbrev pub RulesWhenAllHaveEnded : Type 0
RulesWhenAllHaveEnded = Always (λ h send. AllHaveEnded h send.body)

-- whatever was heard, what is gathered stands in order of TxId, each transaction once. The first of it is ruled on, and
-- then the next
abbrev pub GatheredStandInOrder : Type 0
GatheredStandInOrder =
    (node : ℕ) (layout : Layout) (signals : List Signal) → AreInOrder (after_all (resting node layout) signals).gathered

-- what was heard of one transaction since the last order: how many members have still to end, the keys that it was told
-- of with before all had, each once, and how often a key of it was committed, and was aborted at a replica
pub record Followed : Type 0 where
  pub awaited : ℕ
  pub keys : List (List ℕ)
  pub committed : ℕ
  pub aborted : ℕ

-- no order was heard
abbrev pub unfollowed : Followed
unfollowed = record { awaited = 0; keys = []; committed = 0; aborted = 0 }

abbrev pub key_if : Followed → List ℕ → Bool → Followed
key_if f key true =
    record { awaited = f.awaited; keys = with_key f.keys key; committed = f.committed; aborted = f.aborted }
key_if f key false = f

abbrev pub committed_if : Followed → Bool → Followed
committed_if f true =
    record { awaited = f.awaited; keys = f.keys; committed = f.committed + 1; aborted = f.aborted }
committed_if f false = f

abbrev pub aborted_if : Followed → Bool → Followed
aborted_if f true = record { awaited = f.awaited; keys = f.keys; committed = f.committed; aborted = f.aborted + 1 }
aborted_if f false = f

-- one more signal is heard, in a view of so many members
abbrev pub follow : TxId → ℕ → Followed → Body → Followed
follow tx members f (Takeover TakeoverOrd) = record { awaited = members; keys = []; committed = 0; aborted = 0 }
follow tx members f (Takeover (LqhTransConf other key state epoch)) =
    key_if f key (nat_lt 0 f.awaited && same_tx other tx)
follow tx members f (Takeover LqhTransEnd) =
    record { awaited = f.awaited - 1; keys = f.keys; committed = f.committed; aborted = f.aborted }
follow tx members f (Chain (Committed other key)) = committed_if f (same_tx other tx)
follow tx members f (Chain (Aborted other key)) = aborted_if f (same_tx other tx)
follow tx members f _ = f

-- the client is told of the transaction when as many answers came as it has keys, or as these have replicas
abbrev pub AllHaveAnswered : TxId → Layout → Followed → Body → Type 0
AllHaveAnswered tx layout f (Client (TcKeyFailConf other epoch)) = other ≡ tx → length f.keys ≤ f.committed
AllHaveAnswered tx layout f (Client (TcKeyFailRef other)) = other ≡ tx → replica_count layout f.keys ≤ f.aborted
AllHaveAnswered tx layout f _ = Unit {0}

abbrev pub TellsWhenAllHaveAnswered : Type 0
TellsWhenAllHaveAnswered =
    (tx : TxId) (node : ℕ) (layout : Layout) (signals : List Signal)
    → EachSent (follow tx (member_count layout.view)) (λ f send. AllHaveAnswered tx layout f send.body)
    (resting node layout) unfollowed signals
