-- What a takeover has, in words of what becomes of transactions.
use Rattle.std.proofs.Common.{◌≡◌, ℕ, List, [], ◌∷◌}
use Rattle.std.specs.Prelude.{Option, None, Some, slice_get}
use Rattle.run_theory.specs.Lists.{Each}
use Rattle.run_theory.proofs.Pasts.{each_map}
use Rattle.sig_core.specs.declared.member.TxId.{TxId}
use Rattle.takeover_block.specs.declared.gathered.Gathered.{Gathered}
use Rattle.takeover_block.specs.declared.stage.Stage.{Stage}
use Rattle.takeover_block.specs.declared.stage.Stage.TheVariants.{Aborting, Committing, Completing, Gathering, Resting}
use Rattle.takeover_block.specs.State.{TakeoverState}
use Rattle.world_core.specs.Start.{Start}
use Rattle.world_core.specs.Steps.{HostStep}
use Rattle.outcome_laws.specs.Known.{IsDecidedAs, IsDecidedAt}
use Rattle.commit_laws.specs.Commits.{HasWrittenOne}
use Rattle.commit_laws.specs.Fates.{aborts, commits, fate}
use Rattle.commit_laws.specs.Takeovers.{AbortsIfUntold, FirstIs, HasAllKeys, IsLeft, IsRuled, IsWhole, TellsFate}
use Rattle.commit_laws.proofs.forth.Speaks.{Anyone, Of}
use Rattle.commit_laws.proofs.fates.SpokenTakeover.{IsAbortingAt, IsOnceClosed, TakeoverIs}

-- what is so of each that is gathered, once all members have ended
abbrev pub IsRight : Start → (ℕ → List HostStep) → Gathered → Type 0
IsRight start logs g = AbortsIfUntold start logs g × HasAllKeys start logs g

module _ (start : Start) (logs : ℕ → List HostStep) where
  abbrev pub Aborts : TxId → Type 0
  Aborts tx = fate start logs tx ≡ aborts

  -- it commits, and wrote something
  abbrev pub Commits : TxId → Type 0
  Commits tx = (fate start logs tx ≡ commits) × HasWrittenOne start logs tx

  -- all of it, of a takeover
  pub record Stands (s : TakeoverState) : Type 0 where
    pub told : Each (λ (g : Gathered). TellsFate start logs g.tx g.epoch) s.gathered
    pub ruled : FirstIs start logs (IsRuled start logs s.stage) (slice_get s.gathered 0)
    pub whole : Each (IsWhole start logs s.stage) s.gathered
    pub left : Each (IsLeft start logs s.stage) s.gathered

  tells_as : (tx : TxId) (epoch : Option ℕ) → TellsFate start logs tx epoch → IsDecidedAs (Of Commits) Anyone tx epoch
  tells_as tx None told = tt
  tells_as tx (Some epoch) told = told

  as_tells : (tx : TxId) (epoch : Option ℕ) → IsDecidedAs (Of Commits) Anyone tx epoch → TellsFate start logs tx epoch
  as_tells tx None told = tt
  as_tells tx (Some epoch) told = told

  ruled_commits : (stage : Stage) (first : Option Gathered) → FirstIs start logs (IsRuled start logs stage) first
      → IsDecidedAt (Of Commits) Anyone stage first
  ruled_commits (Committing epoch n) (Some g) ruled = ruled
  ruled_commits (Completing epoch n) (Some g) ruled = ruled
  ruled_commits stage first ruled = tt

  ruled_aborts : (stage : Stage) (first : Option Gathered) → FirstIs start logs (IsRuled start logs stage) first
      → IsAbortingAt Aborts stage first
  ruled_aborts (Aborting n) (Some g) ruled = ruled
  ruled_aborts stage first ruled = tt

  both_ruled : (stage : Stage) (first : Option Gathered) → IsAbortingAt Aborts stage first
      → IsDecidedAt (Of Commits) Anyone stage first → FirstIs start logs (IsRuled start logs stage) first
  both_ruled stage None back forth = tt
  both_ruled (Committing epoch n) (Some g) back forth = forth
  both_ruled (Completing epoch n) (Some g) back forth = forth
  both_ruled (Aborting n) (Some g) back forth = back
  both_ruled Resting (Some g) back forth = tt
  both_ruled (Gathering n) (Some g) back forth = tt

  closed_of : (stage : Stage) (gs : List Gathered) → Each (IsWhole start logs stage) gs
      → Each (IsLeft start logs stage) gs
      → Each (IsOnceClosed (IsRight start logs) stage) gs
  closed_of stage [] whole left = tt
  closed_of stage (g ∷ gs) whole left = (by stage whole.0 left.0, closed_of stage gs whole.1 left.1)
    where
      by : (stage : Stage) → IsWhole start logs stage g → IsLeft start logs stage g
          → IsOnceClosed (IsRight start logs) stage g
      by Resting whole left = tt
      by (Gathering n) whole left = tt
      by (Committing epoch n) whole left = (left, whole)
      by (Completing epoch n) whole left = (left, whole)
      by (Aborting n) whole left = (left, whole)

  whole_of : (stage : Stage) (g : Gathered) → IsOnceClosed (IsRight start logs) stage g → IsWhole start logs stage g
  whole_of Resting g is = tt
  whole_of (Gathering n) g is = tt
  whole_of (Committing epoch n) g is = is.1
  whole_of (Completing epoch n) g is = is.1
  whole_of (Aborting n) g is = is.1

  left_of : (stage : Stage) (g : Gathered) → IsOnceClosed (IsRight start logs) stage g → IsLeft start logs stage g
  left_of Resting g is = tt
  left_of (Gathering n) g is = tt
  left_of (Committing epoch n) g is = is.0
  left_of (Completing epoch n) g is = is.0
  left_of (Aborting n) g is = is.0

  pub stands_is : (s : TakeoverState) → Stands s → TakeoverIs Aborts Commits (IsRight start logs) s
  stands_is s own = record {
    knows = record {
      gathered = each_map _ _ s.gathered (λ (g : Gathered) told. tells_as g.tx g.epoch told) own.told;
      first = ruled_commits s.stage (slice_get s.gathered 0) own.ruled;
    };
    aborting = ruled_aborts s.stage (slice_get s.gathered 0) own.ruled;
    closed = closed_of s.stage s.gathered own.whole own.left;
  }

  pub is_stands : (s : TakeoverState) → TakeoverIs Aborts Commits (IsRight start logs) s → Stands s
  is_stands s own = record {
    told = each_map _ _ s.gathered (λ (g : Gathered) told. as_tells g.tx g.epoch told) own.knows.gathered;
    ruled = both_ruled s.stage (slice_get s.gathered 0) own.aborting own.knows.first;
    whole = each_map _ _ s.gathered (λ (g : Gathered) is. whole_of s.stage g is) own.closed;
    left = each_map _ _ s.gathered (λ (g : Gathered) is. left_of s.stage g is) own.closed;
  }

-- what is so of others is so of a takeover, where what it has gathered goes on to be
module _ (A C B D : TxId → Type 0) (V W : Gathered → Type 0) (one : (tx : TxId) → A tx → B tx)
    (other : (tx : TxId) → C tx → D tx)
  where
    grown_as : (tx : TxId) (epoch : Option ℕ) → IsDecidedAs (Of C) Anyone tx epoch → IsDecidedAs (Of D) Anyone tx epoch
    grown_as tx None told = tt
    grown_as tx (Some epoch) told = other tx told

    grown_at : (stage : Stage) (first : Option Gathered) → IsDecidedAt (Of C) Anyone stage first
        → IsDecidedAt (Of D) Anyone stage first
    grown_at (Committing epoch n) (Some g) told = other g.tx told
    grown_at (Completing epoch n) (Some g) told = other g.tx told
    grown_at stage first told = tt

    grown_back : (stage : Stage) (first : Option Gathered) → IsAbortingAt A stage first → IsAbortingAt B stage first
    grown_back (Aborting n) (Some g) told = one g.tx told
    grown_back stage first told = tt

    grown_closed : (P : Gathered → Type 0) → ((g : Gathered) → P g → V g → W g) → (stage : Stage) (gs : List Gathered)
        → Each P gs → Each (IsOnceClosed V stage) gs → Each (IsOnceClosed W stage) gs
    grown_closed P so stage [] all own = tt
    grown_closed P so stage (g ∷ gs) all own = (by stage own.0, grown_closed P so stage gs all.1 own.1)
      where
        by : (stage : Stage) → IsOnceClosed V stage g → IsOnceClosed W stage g
        by Resting is = tt
        by (Gathering n) is = tt
        by (Committing epoch n) is = so g all.0 is
        by (Completing epoch n) is = so g all.0 is
        by (Aborting n) is = so g all.0 is

    pub takeover_grows : (P : Gathered → Type 0) → ((g : Gathered) → P g → V g → W g) → (s : TakeoverState)
        → Each P s.gathered → TakeoverIs A C V s → TakeoverIs B D W s
    takeover_grows P so s all own = record {
      knows = record {
        gathered = each_map _ _ s.gathered (λ (g : Gathered) told. grown_as g.tx g.epoch told) own.knows.gathered;
        first = grown_at s.stage (slice_get s.gathered 0) own.knows.first;
      };
      aborting = grown_back s.stage (slice_get s.gathered 0) own.aborting;
      closed = grown_closed P so s.stage s.gathered all own.closed;
    }
