-- Rows save a later epoch where the president's master of the current view saves it, in a run whose members rest
-- already.
use Rattle.std.proofs.Common.{◌∙◌, ◌∷◌, ◌≡◌, ◌≤◌, ◌⊎◌, List, ap, arith, inl, inr, refl, subst, sym, ℕ}
use Rattle.run_theory.proofs.Pasts.{each_in}
use Rattle.run_theory.specs.Lists.{IsIn}
use Rattle.sig_core.specs.declared.member.Member.{Member}
use Rattle.sig_core.specs.declared.place.Part.TheVariants.{Ldm}
use Rattle.sig_core.specs.declared.signal.Signal.{Signal}
use Rattle.sig_core.specs.declared.signal.epoch.EpochSignal.TheVariants.{GcpSaveReq}
use Rattle.gcp_master.specs.declared.phase.Phase.{Phase}
use Rattle.gcp_master.specs.declared.phase.Phase.TheVariants.{Saving}
use Rattle.gcp_master.specs.declared.phase.Run.{Run}
use Rattle.world_core.specs.Hosts.{member_at}
use Rattle.world_core.specs.Start.{Start, made}
use Rattle.world_core.specs.Steps.{Addressed, HostStep}
use Rattle.moment_laws.proofs.MomentHosts.{ldm_member, part_some}
use Rattle.moment_laws.proofs.MomentMembers.{current_host}
use Rattle.moment_laws.proofs.MomentSignals.{epoch_told, sent_below}
use Rattle.moment_laws.proofs.MomentTurns.{current_rises, host_low, old_current, own_behind}
use Rattle.moment_laws.proofs.MomentViews.{current_number, moment_less}
use Rattle.moment_laws.specs.Moments.{IsMoment, current, logs_of}
use Rattle.moment_laws.specs.Places.{ldm_of}
use Rattle.epoch_laws.proofs.MomentEvents.{fenced_is}
use Rattle.epoch_laws.proofs.StandMasters.{first_same}
use Rattle.epoch_laws.specs.Members.{IsPresident, master_of}
use Rattle.commit_laws.proofs.records.Replicas.{full_before}
use Rattle.saved_laws.proofs.behind.Rows.{IsOrdered, rows_do, saved_rises}
use Rattle.saved_laws.proofs.behind.Statement.{AllBehind, IsAsked, IsSaving, IsTrueOrder, IsTrueOrderBy, saved_at}
use Rattle.saved_laws.proofs.masters.Orders.{Saves}

-- the run of a phase in which it is saved
pub record IsRunOf (epoch : ℕ) (phase : Phase) : Type 0 where
  pub run : Run
  pub is : phase ≡ Saving run
  pub epoch_is : epoch ≡ run.epoch

pub run_of : (epoch : ℕ) (phase : Phase) → Saves epoch phase → IsRunOf epoch phase
run_of epoch (Saving run) same = record { run = run; is = refl; epoch_is = same }
run_of epoch _ saves = absurd saves

module _ (start : Start) (all : ℕ → List HostStep) (e : HostStep) (es : List HostStep)
    (moment : IsMoment start all (e ∷ es)) (behind : AllBehind start (logs_of start es))
  where
    abbrev old : ℕ → List HostStep
    old = logs_of start es

    abbrev new : ℕ → List HostStep
    new = logs_of start (e ∷ es)

    abbrev x : Signal
    x = e.step.taken

    module _ (member : Member) (there : IsIn member (made start)) where
      abbrev before : ℕ
      before = saved_at start old member

      abbrev now : ℕ
      now = saved_at start new member

      pub record SavesNow : Type 0 where
        pub at : e.host ≡ ldm_of start member
        pub view : current start new ≡ current start old
        pub saving : IsSaving start old now

      -- the order is one of the current view, which stays
      module _ (ordered : IsOrdered start all e es moment member there now) where
        low : x.view.number ≤ current_number start old
        low =
            epoch_told start (λ (y : Addressed). y.signal.view.number ≤ current_number start old) all e es moment
            (sent_below start all es (moment_less start all e es moment)) ordered.taken.sound (GcpSaveReq now)
            ordered.body

        header : x.view.number ≡ current_number start new
        header = ordered.taken.fresh (fenced_is start all e es moment (GcpSaveReq now) ordered.body refl)

        same : current_number start new ≡ current_number start old
        same =
            let rises = current_rises start all e es moment in
            let below = low in
            let is = header in
            omega (arith, below, is, rises)

        asked : IsAsked start old now
        asked =
            subst (IsTrueOrderBy start old) ordered.body
            (epoch_told start (IsTrueOrder start old) all e es moment behind.orders ordered.taken.sound
            (GcpSaveReq now) ordered.body (header ∙ same))

        view : current start new ≡ current start old
        view = old_current start all e es moment same

        full : IsIn member (current start old).full
        full =
            full_before start all e es moment member
            (subst (λ m. IsIn m (current start new).full)
            (ap (member_at (made start)) ordered.at ∙ ldm_member start moment.cluster.nobody member there)
            (current_host start all (e ∷ es) moment e.host
            (subst (λ h. 1 ≤ h) (sym ordered.at) (part_some start Ldm member)) (host_low start all e es moment)
            (own_behind start all e es moment ∙ ordered.taken.stands)))

        saves : (now ≡ before) ⊎ SavesNow
        saves = by asked
          where
            by : IsAsked start old now → (now ≡ before) ⊎ SavesNow
            by (inl saving) = inr (record { at = ordered.at; view = view; saving = saving })
            by (inr each) =
                let least : now ≤ before =
                each_in (λ (m : Member). now ≤ saved_at start old m) member (current start old).full each full in
                let rises = saved_rises start all e es moment member there in
                inl (omega (arith, least, rises))

      pub saves_do : (now ≡ before) ⊎ SavesNow
      saves_do = by (rows_do start all e es moment member there)
        where
          by : (now ≡ before) ⊎ IsOrdered start all e es moment member there now → (now ≡ before) ⊎ SavesNow
          by (inl same) = inl same
          by (inr ordered) = saves ordered

      -- so the master of whoever is the president saves it
      pub saving_of : (saves : SavesNow) (p : Member) → IsPresident start old p
          → Saves now (master_of start old p).phase
      saving_of saves p first =
          subst (λ (m : Member). Saves now (master_of start old m).phase)
          (first_same saves.saving.president p (current start old).full saves.saving.is first) saves.saving.saves
