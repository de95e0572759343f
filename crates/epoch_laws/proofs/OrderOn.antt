-- The three ways in which members and president go on in one view: the president takes a signal, a member carries out
-- an order, or each is where it was.
use Rattle.std.proofs.Common.{◌≡◌, ◌≤◌, ◌⊎◌, ℕ, List, ap, sym, subst, inl, arith}
use Rattle.sig_core.specs.declared.member.Member.{Member}
use Rattle.sig_core.specs.declared.signal.Body.{Body}
use Rattle.gcp_master.specs.declared.voices.Voice.{Voice}
use Rattle.gcp_master.specs.State.{MasterState}
use Rattle.world_core.specs.Start.{Start}
use Rattle.world_core.specs.Steps.{HostStep}
use Rattle.epoch_laws.specs.Masters.{Commits, HasPrepared, IsRight, IsSilent, Prepares}
use Rattle.epoch_laws.specs.Members.{IsPresident, IsStanding, epochs_of, master_of}
use Rattle.moment_laws.specs.Moments.{current}
use Rattle.epoch_laws.specs.Told.{IsAllSilent}
use Rattle.epoch_laws.proofs.DihMoves.{Stays}
use Rattle.epoch_laws.proofs.MasterMoves.{Moved}
use Rattle.epoch_laws.proofs.MasterSpeaks.{commits_on, order_on, speaks_on}
use Rattle.epoch_laws.proofs.MemberStays.{prepared_stays}
use Rattle.epoch_laws.proofs.OrderMoves.{each_moves}
use Rattle.epoch_laws.proofs.SignalsOn.{GoOn}

module _ (start : Start) (logs now : ℕ → List HostStep)
    (full : (current start logs).full ≡ (current start now).full)
    (number : (current start logs).number ≡ (current start now).number)
    (stands : (p : Member) → IsStanding start logs p → IsStanding start now p) where
  -- the president of the current view takes a signal, or none
  pub master_on : ((member : Member) → Stays (epochs_of start logs member) (epochs_of start now member))
      → ((p : Member) → IsPresident start logs p → IsStanding start logs p → (voice : Voice) × ((body : Body)
      × Moved (master_of start logs p) voice body (master_of start now p).phase (master_of start now p).voices))
      → ((p : Member) → IsPresident start logs p → IsStanding start logs p → IsRight start now (master_of start now p))
      → GoOn start logs now
  master_on stays moved right =
      record {
        full = full;
        number = number;
        stands = stands;
        speaks = λ p is at loud silent.
            let move = moved p is at in
            speaks_on (master_of start logs p) move.0 move.1.0 (master_of start now p).phase
            (master_of start now p).voices loud move.1.1 silent;
        orders = λ p is at epoch next under.
            let move = moved p is at in
            order_on (master_of start logs p) move.0 move.1.0 (master_of start now p).phase
            (master_of start now p).voices epoch next start now (right p is at) under move.1.1;
        commits = λ p is at epoch next under.
            let move = moved p is at in
            commits_on (master_of start logs p) move.0 move.1.0 (master_of start now p).phase
            (master_of start now p).voices epoch next start now (right p is at) under move.1.1;
        rises = λ member. let same = (stays member).current_is in omega (arith, same);
        prepared = λ member epoch has.
            prepared_stays (epochs_of start logs member) (epochs_of start now member) (stays member) epoch has;
        told = λ silent member. stays member;
      }

  -- the masters are as they were, and one member carries out an order of a president that has spoken
  pub member_on : ((p : Member) → master_of start logs p ≡ master_of start now p) → (m : Member)
      → ((other : Member) → (other ≡ m → ⊥) → epochs_of start logs other ≡ epochs_of start now other)
      → (epochs_of start logs m).current ≤ (epochs_of start now m).current
      → ((epoch : ℕ) → HasPrepared epoch (epochs_of start logs m) → HasPrepared epoch (epochs_of start now m))
      → (IsAllSilent start now → ⊥) → GoOn start logs now
  member_on same m others rises prepared loud =
      record {
        full = full;
        number = number;
        stands = stands;
        speaks = λ p is at speaks silent. speaks (subst IsSilent (sym (phase_same p)) silent);
        orders = λ p is at epoch next under.
            inl (subst (λ phase. Prepares epoch next phase ⊎ Commits epoch next phase) (phase_same p) under);
        commits = λ p is at epoch next under. inl (subst (Commits epoch next) (phase_same p) under);
        rises = not_below;
        prepared = λ member epoch has.
            each_moves start logs now m others full (HasPrepared epoch) (prepared epoch) member has;
        told = λ silent member. absurd (loud silent);
      }
    where
      phase_same : (p : Member) → (master_of start logs p).phase ≡ (master_of start now p).phase
      phase_same p = ap (λ (s : MasterState). s.phase) (same p)

      not_below : (member : Member) → (epochs_of start logs member).current ≤ (epochs_of start now member).current
      not_below member =
          each_moves start logs now m others full
          (λ s. (epochs_of start logs member).current ≤ s.current)
          (λ low. omega (arith, low, rises)) member (omega arith)
