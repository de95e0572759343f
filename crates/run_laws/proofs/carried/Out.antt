-- A transaction that is carried out: what holds of its keys, of its signals in transit, and of what its coordinator has
-- of it.
use Rattle.std.proofs.Common.{◌≡◌, ◌⊎◌, ◌≤◌, ◌<◌, ℕ, true, length, List, ◌∷◌, ◌++◌, inl, inr}
use Rattle.std.specs.Prelude.{Option, None, Some}
use Rattle.run_theory.specs.Lists.{Each}
use Rattle.run_theory.proofs.Pasts.{each_map}
use Rattle.world_core.specs.Steps.{Addressed, HostStep}
use Rattle.sig_core.specs.declared.member.Member.{Member}
use Rattle.sig_core.specs.declared.member.TxId.{TxId}
use Rattle.sig_core.specs.declared.signal.Body.{Body}
use Rattle.sig_core.specs.declared.signal.Body.TheVariants.{Chain}
use Rattle.sig_core.specs.declared.signal.chain.ChainSignal.TheVariants.{Commit, Complete}
use Rattle.sig_core.specs.Chain.{last_place, node_at}
use Rattle.tc_block.specs.declared.sends.TheConstants.{SENDS}
use Rattle.tc_block.specs.declared.phase.Phase.{Phase}
use Rattle.tc_block.specs.declared.phase.Phase.TheVariants.{Open, Verifying, Committing, Completing, Aborting}
use Rattle.tc_block.specs.declared.touched.Touched.{Touched}
use Rattle.tc_block.specs.declared.transaction.Transaction.{Transaction}
use Rattle.world_core.specs.History.{is_applied}
use Rattle.world_core.specs.Hosts.{home, rows_host}
use Rattle.world_core.specs.Machine.{after}
use Rattle.world_core.specs.Marks.{has_mark}
use Rattle.world_core.specs.Start.{Start}
use Rattle.key_laws.specs.Primary.{HasPrepared}
use Rattle.run_laws.specs.Circle.{at_host}
use Rattle.run_laws.specs.Completions.{IsCommittedAtAll}
use Rattle.run_laws.specs.Live.{live_at}
use Rattle.run_laws.specs.Routes.{primary_host}
use Rattle.run_laws.proofs.hosts.TxSteps.{next_number}
use Rattle.run_laws.proofs.fades.Records.{HasRecord}
use Rattle.run_laws.proofs.fades.Steps.{StepFades}
use Rattle.run_laws.proofs.fades.Signals.{Tells, cover, weight}
use Rattle.run_laws.proofs.transit.Weighing.{in_transit}

-- the host is that of one of these places of a chain
pub record IsUpTo (start : Start) (chain : List Member) (at h : ℕ) : Type 0 where
  pub place : ℕ
  pub low : place ≤ at
  pub is : rows_host start (node_at chain place) ≡ h

-- a record of the transaction on the key is prepared at no host
pub record IsDone (start : Start) (logs : ℕ → List HostStep) (tx : TxId) (key : List ℕ) : Type 0 where
  pub none : (h : ℕ) → HasPrepared tx (at_host start logs key h).cell.pending → ⊥

-- or at these places of a chain alone
pub record IsSpread (start : Start) (logs : ℕ → List HostStep) (tx : TxId) (key : List ℕ) (chain : List Member)
    (at : ℕ) : Type 0 where
  pub within : (h : ℕ) → HasPrepared tx (at_host start logs key h).cell.pending → IsUpTo start chain at h

-- where there is one, the primary has it prepared or has marked its commit
pub record IsMarked (start : Start) (logs : ℕ → List HostStep) (tx : TxId) (key : List ℕ) : Type 0 where
  pub marked : (h : ℕ) → HasRecord tx (at_host start logs key h).cell.pending
      → HasPrepared tx (at_host start logs key (primary_host start key)).cell.pending
      ⊎ (has_mark (is_applied tx) (logs (primary_host start key)) ≡ true)

-- a key that it touched
pub record IsAlong (start : Start) (logs : ℕ → List HostStep) (tx : TxId) (u : Touched) : Type 0 where
  pub spread : IsSpread start logs tx u.key u.chain (last_place u.chain)
  pub marked : IsMarked start logs tx u.key

-- It commits, and awaits so many: no more are on their way, and for each key one is, unless the key is done.
pub record IsGoing (start : Start) (logs : ℕ → List HostStep) (xs : List Addressed) (tx : TxId) (touched : List Touched)
    (awaited : ℕ) : Type 0 where
  pub few : length touched ≤ SENDS
  pub weighs : in_transit (weight tx (length touched)) xs ≤ awaited
  pub along : Each (IsAlong start logs tx) touched
  pub covered : (front : List Touched) (u : Touched) (back : List Touched) → touched ≡ front ++ u ∷ back
      → (1 ≤ in_transit (cover tx u.key (length front)) xs) ⊎ IsDone start logs tx u.key

abbrev pub IsAhead : Start → (ℕ → List HostStep) → List Addressed → TxId → List Touched → Phase → Type 0
IsAhead start logs xs tx touched (Committing epoch awaited) = IsGoing start logs xs tx touched awaited
IsAhead start logs xs tx touched (Completing epoch awaited) =
    Each (λ (u : Touched). IsCommittedAtAll start logs tx u.key) touched
IsAhead start logs xs tx touched Open = ⊥
IsAhead start logs xs tx touched Verifying = ⊥
IsAhead start logs xs tx touched (Aborting why verifying awaited) = ⊥

abbrev pub IsLiveAhead : Start → (ℕ → List HostStep) → List Addressed → TxId → Option Transaction → Type 0
IsLiveAhead start logs xs tx None = Unit {0}
IsLiveAhead start logs xs tx (Some t) = IsAhead start logs xs tx t.touched t.phase

-- what a signal in transit tells: a commit how far its key is committed, a completion that its key is
abbrev pub TellsOf : Start → (ℕ → List HostStep) → TxId → Body → Type 0
TellsOf start logs tx body = Tells tx (IsSpread start logs tx) (IsCommittedAtAll start logs tx) body

pub record IsCarried (start : Start) (logs : ℕ → List HostStep) (xs : List Addressed) (tx : TxId) : Type 0 where
  pub old : tx.seq < next_number (after start (home start tx) (logs (home start tx)))
  pub told : Each (λ (x : Addressed). TellsOf start logs tx x.signal.body) xs
  pub live : IsLiveAhead start logs xs tx (live_at start logs tx)

-- it tells that still, where its parts do
pub tells_too : (tx : TxId) (Spread SpreadNow : List ℕ → List Member → ℕ → Type 0) (AtAll AtAllNow : List ℕ → Type 0)
    → ((key : List ℕ) (chain : List Member) (at : ℕ) → Spread key chain at → SpreadNow key chain at)
    → ((key : List ℕ) → AtAll key → AtAllNow key) → (body : Body) → Tells tx Spread AtAll body
    → Tells tx SpreadNow AtAllNow body
tells_too tx Spread SpreadNow AtAll AtAllNow spread everywhere (Chain (Commit other key epoch chain at)) tells =
    λ e. spread key chain at (tells e)
tells_too tx Spread SpreadNow AtAll AtAllNow spread everywhere (Chain (Complete other key chain at)) tells =
    λ e. everywhere key (tells e)
tells_too tx Spread SpreadNow AtAll AtAllNow spread everywhere _ tells = tt

-- a key that is done and marked is committed
pub at_all : (start : Start) (logs : ℕ → List HostStep) (tx : TxId) (key : List ℕ) → IsMarked start logs tx key
    → IsDone start logs tx key → IsCommittedAtAll start logs tx key
at_all start logs tx key m d = record {
  committed = d.none;
  applied = λ h r is. by (m.marked h (record { record_is = r; there = is }));
}
  where
    by : HasPrepared tx (at_host start logs key (primary_host start key)).cell.pending
        ⊎ (has_mark (is_applied tx) (logs (primary_host start key)) ≡ true)
        → has_mark (is_applied tx) (logs (primary_host start key)) ≡ true
    by (inl p) = absurd (d.none (primary_host start key) p)
    by (inr is) = is

-- all that stays so in a step
module _ (start : Start) (logs now : ℕ → List HostStep) (e : HostStep) (tx : TxId)
    (f : StepFades start logs now e tx) where
  pub done_stays : (key : List ℕ) → IsDone start logs tx key → IsDone start now tx key
  done_stays key d = record { none = λ h p. d.none h (f.prepared key h p) }

  pub spread_stays : (key : List ℕ) (chain : List Member) (at : ℕ) → IsSpread start logs tx key chain at
      → IsSpread start now tx key chain at
  spread_stays key chain at s = record { within = λ h p. s.within h (f.prepared key h p) }

  pub marked_stays : (key : List ℕ) → IsMarked start logs tx key → IsMarked start now tx key
  marked_stays key m = record { marked = λ h r. by (m.marked h (f.there key h r)) }
    where
      by : HasPrepared tx (at_host start logs key (primary_host start key)).cell.pending
          ⊎ (has_mark (is_applied tx) (logs (primary_host start key)) ≡ true)
          → HasPrepared tx (at_host start now key (primary_host start key)).cell.pending
          ⊎ (has_mark (is_applied tx) (now (primary_host start key)) ≡ true)
      by (inl p) = f.at_primary key p
      by (inr is) = inr (f.marks (primary_host start key) is)

  pub along_stays : (touched : List Touched) → Each (IsAlong start logs tx) touched
      → Each (IsAlong start now tx) touched
  along_stays touched all =
      each_map (IsAlong start logs tx) (IsAlong start now tx) touched
      (λ u a. record {
        spread = spread_stays u.key u.chain (last_place u.chain) a.spread;
        marked =
            marked_stays u.key a.marked;
      }) all

  pub committed_stays : (key : List ℕ) → IsCommittedAtAll start logs tx key → IsCommittedAtAll start now tx key
  committed_stays key c = record {
    committed = λ h p. c.committed h (f.prepared key h p);
    applied = λ h r is. let was = f.there key h (record { record_is = r; there = is }) in f.marks
        (primary_host start key) (c.applied h was.record_is was.there);
  }

  pub tells_stay : (body : Body) → TellsOf start logs tx body → TellsOf start now tx body
  tells_stay body tells =
      tells_too tx (IsSpread start logs tx) (IsSpread start now tx) (IsCommittedAtAll start logs tx)
      (IsCommittedAtAll start now tx) spread_stays committed_stays body tells
