-- What rows have saved, beside what is durable, at a moment. What the rows of a member have saved is durable, or it is
-- the last order of each full member, which has gone on with the first epoch of a later checkpoint. So the president's
-- master begins nothing before that is durable, and its orders to save name the run that it saves.
use Rattle.std.proofs.Common.{◌/◌, ◌<◌, ◌∷◌, ◌≡◌, ◌≤◌, ◌⊎◌, List, arith, inl, inr, true, ℕ}
use Rattle.run_theory.specs.Lists.{Each, IsIn}
use Rattle.sig_core.specs.declared.mark.Mark.TheVariants.{Durable}
use Rattle.sig_core.specs.declared.member.Member.{Member}
use Rattle.sig_core.specs.declared.outs.Outgoing.{Outgoing}
use Rattle.sig_core.specs.declared.signal.Body.{Body}
use Rattle.sig_core.specs.declared.signal.Body.TheVariants.{Epoch}
use Rattle.sig_core.specs.declared.signal.epoch.EpochSignal.TheVariants.{GcpSaveReq, GcpStateConf}
use Rattle.dih_node.specs.State.{DihState}
use Rattle.gcp_master.specs.Numbers.{is_first}
use Rattle.gcp_master.specs.declared.known.Known.{Known}
use Rattle.gcp_master.specs.declared.numbers.TheConstants.{MICROS}
use Rattle.gcp_master.specs.declared.phase.Phase.{Phase}
use Rattle.gcp_master.specs.declared.phase.Phase.TheVariants.{Closing, Committing, Copying, Gathering, Preparing}
use Rattle.gcp_master.specs.declared.phase.Phase.TheVariants.{Resting, Saving, Unordered}
use Rattle.world_core.specs.Start.{Start, made}
use Rattle.world_core.specs.Steps.{Addressed, HostStep}
use Rattle.moment_laws.proofs.MomentSignals.{EachSent}
use Rattle.moment_laws.specs.Moments.{IsMoment, current, logs_of}
use Rattle.epoch_laws.specs.Alike.{EachFull}
use Rattle.epoch_laws.specs.Members.{IsPresident, IsStanding, epochs_of, master_of}
use Rattle.commit_laws.specs.Traces.{rows_at}
use Rattle.closing_laws.proofs.durable.LateMasters.{IsGood}
use Rattle.closing_laws.proofs.durable.Statement.{marked_grows}
use Rattle.saved_laws.proofs.masters.Orders.{Saves}
use Rattle.saved_laws.specs.Behind.{IsDurable}

-- the epoch is the last order of these epochs, and the one that they give is the first of a later checkpoint
pub record IsFollowed (saved : ℕ) (s : DihState) : Type 0 where
  pub behind : saved / MICROS < s.current / MICROS
  pub first : is_first s.current ≡ true
  pub last : s.prepared ≤ saved

module _ (start : Start) (logs : ℕ → List HostStep) where
  -- what the rows of a member have saved
  abbrev pub saved_at : Member → ℕ
  saved_at member = (rows_at start logs member).saved

  -- what the rows of a member have saved is durable, or full members have gone on behind it
  abbrev pub IsSettled : Member → DihState → Type 0
  IsSettled member s = IsDurable start logs (saved_at member) ⊎ IsFollowed (saved_at member) s

  abbrev pub AreSettled : Type 0
  AreSettled =
      (member : Member) → IsIn member (made start) → EachFull start logs (IsSettled member)

  -- what rows have saved before this epoch is durable; and so is all that they have saved
  abbrev pub AreDurableBefore : ℕ → Type 0
  AreDurableBefore epoch =
      (member : Member) → IsIn member (made start)
      → IsDurable start logs (saved_at member) ⊎ (epoch ≤ saved_at member)

  abbrev pub AreDurable : Type 0
  AreDurable = (member : Member) → IsIn member (made start) → IsDurable start logs (saved_at member)

  -- no full member has prepared for a later one
  abbrev pub IsLastOrder : ℕ → Type 0
  IsLastOrder epoch = EachFull start logs (λ (s : DihState). s.prepared ≤ epoch)

  -- so it is where the president's master has come to this phase
  abbrev pub IsBehind : Phase → Type 0
  IsBehind Unordered = Unit {0}
  IsBehind (Gathering known) = Unit {0}
  IsBehind (Resting epoch) = AreDurable
  IsBehind (Preparing run) = AreDurableBefore run.epoch
  IsBehind (Committing run) = AreDurableBefore run.epoch
  IsBehind (Closing run) = AreDurableBefore run.epoch × IsLastOrder run.epoch
  IsBehind (Saving run) = AreDurableBefore run.epoch × (IsLastOrder run.epoch × (is_first run.next ≡ true))
  IsBehind (Copying run) = AreDurableBefore run.epoch × IsLastOrder run.epoch

  -- the president's master has the epoch saved; or the rows of each full member have saved it
  pub record IsSaving (epoch : ℕ) : Type 0 where
    pub president : Member
    pub is : IsPresident start logs president
    pub stands : IsStanding start logs president
    pub saves : Saves epoch (master_of start logs president).phase

  abbrev pub IsAsked : ℕ → Type 0
  IsAsked epoch = IsSaving epoch ⊎ Each (λ (member : Member). epoch ≤ saved_at member) (current start logs).full

  abbrev pub IsTrueOrderBy : Body → Type 0
  IsTrueOrderBy (Epoch (GcpSaveReq epoch)) = IsAsked epoch
  IsTrueOrderBy body = Unit {0}

  -- an order of the current view is so
  abbrev pub IsTrueOrder : Addressed → Type 0
  IsTrueOrder y = y.signal.view.number ≡ (current start logs).number → IsTrueOrderBy y.signal.body

  -- all of it
  pub record AllBehind : Type 0 where
    pub settled : AreSettled
    pub president : (member : Member) → IsPresident start logs member → IsStanding start logs member
        → IsBehind (master_of start logs member).phase
    pub orders : EachSent start IsTrueOrder logs

  -- What blocks of epochs tell and have noted as durable is durable, and so is what masters know of them, once they
  -- know of one.
  abbrev pub IsToldDurable : Body → Type 0
  IsToldDurable (Epoch (GcpStateConf now prepared next closed saved durable)) =
      (now ≡ 0) ⊎ IsDurable start logs durable
  IsToldDurable body = Unit {0}

  abbrev pub KnowsDurable : Known → Type 0
  KnowsDurable known = (known.greatest ≡ 0) ⊎ IsDurable start logs known.durable

  abbrev pub KnowsIn : Phase → Type 0
  KnowsIn phase = IsGood (λ (epoch : ℕ). Unit {0}) KnowsDurable phase

  abbrev pub AreToldDurable : List Outgoing → Type 0
  AreToldDurable sends = Each (λ (sent : Outgoing). IsToldDurable sent.body) sends

  pub record AllDurable : Type 0 where
    pub said : EachSent start (λ (y : Addressed). IsToldDurable y.signal.body) logs
    pub epochs : (member : Member) → IsIn member (made start)
        → IsDurable start logs (epochs_of start logs member).durable
    pub masters : (member : Member) → IsIn member (made start) → KnowsIn (master_of start logs member).phase

-- what is durable stays so behind an event, and an epoch before it is durable too
module _ (start : Start) (logs : ℕ → List HostStep) where
  pub durable_before : (less epoch : ℕ) → less ≤ epoch → IsDurable start logs epoch → IsDurable start logs less
  durable_before less epoch low (inl before) = inl (omega (arith, low, before))
  durable_before less epoch low (inr was) =
      let least = was.least in
      inr (record {
        host = was.host;
        below = was.below;
        at = was.at;
        marked = was.marked;
        least = omega (arith, low, least);
      })

module _ (start : Start) (all : ℕ → List HostStep) (e : HostStep) (es : List HostStep)
    (moment : IsMoment start all (e ∷ es))
  where
    pub durable_stays : (epoch : ℕ) → IsDurable start (logs_of start es) epoch
        → IsDurable start (logs_of start (e ∷ es)) epoch
    durable_stays epoch (inl before) = inl before
    durable_stays epoch (inr was) = inr (record {
      host = was.host;
      below = was.below;
      at = was.at;
      marked = marked_grows start all e es moment (Durable was.at) was.host was.marked;
      least = was.least;
    })

    pub told_stays : (body : Body) → IsToldDurable start (logs_of start es) body
        → IsToldDurable start (logs_of start (e ∷ es)) body
    told_stays (Epoch (GcpStateConf now prepared next closed saved durable)) (inl none) = inl none
    told_stays (Epoch (GcpStateConf now prepared next closed saved durable)) (inr is) = inr (durable_stays durable is)
    told_stays body is = tt

    pub knows_stays : (phase : Phase) → KnowsIn start (logs_of start es) phase
        → KnowsIn start (logs_of start (e ∷ es)) phase
    knows_stays (Gathering known) (inl none) = inl none
    knows_stays (Gathering known) (inr is) = inr (durable_stays known.durable is)
    knows_stays (Closing run) is = tt
    knows_stays (Saving run) is = tt
    knows_stays (Copying run) is = tt
    knows_stays _ is = tt
