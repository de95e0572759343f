-- What a master in the current view has said stays so, and what it sends is true.
use Rattle.std.proofs.Common.{◌≡◌, ◌≤◌, ◌<◌, ◌⊎◌, ℕ, List, [], refl, sym, subst, inl, inr, arith}
use Rattle.run_theory.proofs.Pasts.{each_map}
use Rattle.sig_core.specs.declared.member.Member.{Member}
use Rattle.sig_core.specs.declared.signal.Body.{Body}
use Rattle.sig_core.specs.declared.signal.Body.TheVariants.{Epoch}
use Rattle.sig_core.specs.declared.signal.epoch.EpochSignal.TheVariants.{GcpCommit, GcpNodeFinish, GcpOrd, GcpPrepare}
use Rattle.sig_core.specs.declared.signal.epoch.EpochSignal.TheVariants.{GcpPrepareConf, GcpStateConf}
use Rattle.sig_core.specs.declared.view.View.{View}
use Rattle.gcp_master.specs.declared.phase.Phase.{Phase}
use Rattle.gcp_master.specs.declared.phase.Phase.TheVariants.{Unordered, Gathering, Preparing, Committing, Closing}
use Rattle.gcp_master.specs.declared.phase.Run.{Run}
use Rattle.gcp_master.specs.declared.voices.Voice.{Voice}
use Rattle.gcp_master.specs.Resume.{in_view}
use Rattle.gcp_master.specs.State.{MasterState}
use Rattle.dih_node.specs.State.{DihState}
use Rattle.world_core.specs.Start.{Start}
use Rattle.world_core.specs.Steps.{Addressed, HostStep}
use Rattle.epoch_laws.specs.Alike.{EachFull, Rests}
use Rattle.epoch_laws.specs.Masters.{Commits, IsRightIn, IsSilent, Prepares}
use Rattle.epoch_laws.specs.Members.{IsPresident, IsStanding, epochs_of, master_of}
use Rattle.moment_laws.specs.Moments.{current}
use Rattle.epoch_laws.specs.Told.{IsTrueOf}
use Rattle.epoch_laws.proofs.MasterMoves.{BeginsFrom, IsLate, Moved}
use Rattle.epoch_laws.proofs.MasterMoves.{closes, closes_owed, commits, ends, goes_late, hears_finished, hears_prepared}
use Rattle.epoch_laws.proofs.MasterMoves.{is_ordered, learns, resumes, stays, takes_up}
use Rattle.epoch_laws.proofs.MasterSends.{MaySay}

-- where a view is installed a master has nothing under way, and hears nobody
pub record IsInstalled (s : MasterState) (view : View) (now : MasterState) : Type 0 where
  pub member : now.member ≡ s.member
  pub view_is : now.view ≡ view
  pub phase : now.phase ≡ Unordered
  pub voices : now.voices ≡ []

pub installed : (s : MasterState) (view : View) → IsInstalled s view (in_view s view)
unfolding in_view
installed s view = record { member = refl; view_is = refl; phase = refl; voices = refl }

-- whoever has ordered something isn't silent
begins_speaks : (epoch : ℕ) (phase : Phase) → BeginsFrom epoch phase → IsSilent phase → ⊥
begins_speaks epoch Unordered begins silent = begins
begins_speaks epoch (Gathering known) begins silent = begins
begins_speaks epoch _ begins silent = silent

late_speaks : (run : Run) (phase : Phase) → IsLate run phase → IsSilent phase → ⊥
late_speaks run Unordered late silent = late
late_speaks run (Gathering known) late silent = late
late_speaks run _ late silent = silent

module _ (s : MasterState) (voice : Voice) (body : Body) (phase : Phase) (voices : List Voice) where
  -- a master that has ordered something goes on so
  pub speaks_on : (IsSilent s.phase → ⊥) → Moved s voice body phase voices → IsSilent phase → ⊥
  speaks_on loud (stays same heard) silent = loud (subst IsSilent same silent)
  speaks_on loud (is_ordered ord is now empty) silent = loud (subst IsSilent (sym is) tt)
  speaks_on loud (learns known told is_body is new now more) silent = loud (subst IsSilent (sym is) tt)
  speaks_on loud (resumes known told is_body is new all goes empty) silent = loud (subst IsSilent (sym is) tt)
  speaks_on loud (hears_prepared run is_body is new now more) silent = subst IsSilent now silent
  speaks_on loud (commits run is_body is new all now empty) silent = subst IsSilent now silent
  speaks_on loud (hears_finished run is_body is new now more) silent = subst IsSilent now silent
  speaks_on loud (closes run is_body is new all now empty) silent = subst IsSilent now silent
  speaks_on loud (closes_owed run is all now empty) silent = subst IsSilent now silent
  speaks_on loud (goes_late run late now) silent = late_speaks run phase now silent
  speaks_on loud (ends run late begins empty) silent = begins_speaks run.next phase begins silent
  speaks_on loud (takes_up epoch is begins empty) silent = begins_speaks epoch phase begins silent

-- the two phases in which orders name epochs
prepares_speaks : (epoch next : ℕ) (phase : Phase) → Prepares epoch next phase → IsSilent phase → ⊥
prepares_speaks epoch next (Preparing run) is silent = silent
prepares_speaks epoch next _ is silent = is

commits_speaks : (epoch next : ℕ) (phase : Phase) → Commits epoch next phase → IsSilent phase → ⊥
commits_speaks epoch next (Committing run) is silent = silent
commits_speaks epoch next _ is silent = is

late_prepares : (epoch next : ℕ) (run : Run) (phase : Phase) → IsLate run phase → Prepares epoch next phase → ⊥
late_prepares epoch next run (Preparing other) late is = late
late_prepares epoch next run _ late is = is

late_commits : (epoch next : ℕ) (run : Run) (phase : Phase) → IsLate run phase → Commits epoch next phase → ⊥
late_commits epoch next run (Committing other) late is = late
late_commits epoch next run _ late is = is

module _ (s : MasterState) (voice : Voice) (body : Body) (phase : Phase) (voices : List Voice) (epoch next : ℕ) where
  -- what is being prepared goes on so, or is committed
  pub prepares_on : Prepares epoch next s.phase → Moved s voice body phase voices
      → Prepares epoch next phase ⊎ Commits epoch next phase
  prepares_on at (stays same heard) = inl (subst (Prepares epoch next) (sym same) at)
  prepares_on at (is_ordered ord is now empty) = absurd (subst (Prepares epoch next) is at)
  prepares_on at (learns known told is_body is new now more) = absurd (subst (Prepares epoch next) is at)
  prepares_on at (resumes known told is_body is new all goes empty) = absurd (subst (Prepares epoch next) is at)
  prepares_on at (hears_prepared run is_body is new now more) =
      inl (subst (Prepares epoch next) (sym now) (subst (Prepares epoch next) is at))
  prepares_on at (commits run is_body is new all now empty) =
      let same : Prepares epoch next (Preparing run) = subst (Prepares epoch next) is at in
      inr (subst (Commits epoch next) (sym now) same)
  prepares_on at (hears_finished run is_body is new now more) = absurd (subst (Prepares epoch next) is at)
  prepares_on at (closes run is_body is new all now empty) = absurd (subst (Prepares epoch next) is at)
  prepares_on at (closes_owed run is all now empty) = absurd (subst (Prepares epoch next) is at)
  prepares_on at (goes_late run late now) = absurd (late_prepares epoch next run s.phase late at)
  prepares_on at (ends run late begins empty) = absurd (late_prepares epoch next run s.phase late at)
  prepares_on at (takes_up current is begins empty) = absurd (subst (Prepares epoch next) is at)

  module _ (start : Start) (logs : ℕ → List HostStep) (right : IsRightIn start logs voices phase) where
    -- each full member is beyond what was committed
    abbrev pub AreBeyond : Type 0
    AreBeyond = EachFull start logs (λ s. next ≤ s.current)

    closed_beyond : (run : Run) → phase ≡ Closing run → Commits epoch next (Committing run) → AreBeyond
    closed_beyond run now same =
        let under = subst (IsRightIn start logs voices) now right in
        each_map _ _ (current start logs).full (λ member rests. beyond (epochs_of start logs member) rests) under.each
      where
        beyond : (d : DihState) → Rests run.next d → next ≤ d.current
        beyond d rests = let gives = rests.gives in let is = same.1 in omega (arith, gives, is)

    -- what is being committed goes on so, or each member is beyond it
    pub commits_on : Commits epoch next s.phase → Moved s voice body phase voices
        → Commits epoch next phase ⊎ AreBeyond
    commits_on at (stays same heard) = inl (subst (Commits epoch next) (sym same) at)
    commits_on at (is_ordered ord is now empty) = absurd (subst (Commits epoch next) is at)
    commits_on at (learns known told is_body is new now more) = absurd (subst (Commits epoch next) is at)
    commits_on at (resumes known told is_body is new all goes empty) = absurd (subst (Commits epoch next) is at)
    commits_on at (hears_prepared run is_body is new now more) = absurd (subst (Commits epoch next) is at)
    commits_on at (commits run is_body is new all now empty) = absurd (subst (Commits epoch next) is at)
    commits_on at (hears_finished run is_body is new now more) =
        inl (subst (Commits epoch next) (sym now) (subst (Commits epoch next) is at))
    commits_on at (closes run is_body is new all now empty) =
        inr (closed_beyond run now (subst (Commits epoch next) is at))
    commits_on at (closes_owed run is all now empty) = inr (closed_beyond run now (subst (Commits epoch next) is at))
    commits_on at (goes_late run late now) = absurd (late_commits epoch next run s.phase late at)
    commits_on at (ends run late begins empty) = absurd (late_commits epoch next run s.phase late at)
    commits_on at (takes_up current is begins empty) = absurd (subst (Commits epoch next) is at)

    -- and so it is of an order to prepare
    abbrev IsFar : Phase → Type 0
    IsFar phase = (Prepares epoch next phase ⊎ Commits epoch next phase) ⊎ AreBeyond

    pub order_on : Prepares epoch next s.phase ⊎ Commits epoch next s.phase → Moved s voice body phase voices
        → (Prepares epoch next phase ⊎ Commits epoch next phase) ⊎ AreBeyond
    order_on (inl prepares) moved = inl (prepares_on prepares moved)
    order_on (inr committing) moved = by (commits_on committing moved)
      where
        by : Commits epoch next phase ⊎ AreBeyond → IsFar phase
        by (inl on) = inl (inr on)
        by (inr beyond) = inr beyond

module _ (start : Start) (logs : ℕ → List HostStep) where
  prepares_rise : (voices : List Voice) (epoch next : ℕ) (phase : Phase) → IsRightIn start logs voices phase
      → Prepares epoch next phase → epoch < next
  prepares_rise voices epoch next (Preparing run) right (same, same_next) =
      let rises = right.0.rises in omega (arith, rises, same, same_next)
  prepares_rise voices epoch next _ right is = absurd is

  commits_rise : (voices : List Voice) (epoch next : ℕ) (phase : Phase) → IsRightIn start logs voices phase
      → Commits epoch next phase → epoch < next
  commits_rise voices epoch next (Committing run) right (same, same_next) =
      let rises = right.0.rises in omega (arith, rises, same, same_next)
  commits_rise voices epoch next _ right is = absurd is

  -- what the president of the current view says is true
  module _ (president : Member) (is : IsPresident start logs president) (stands : IsStanding start logs president)
      (voices : List Voice) (right : IsRightIn start logs voices (master_of start logs president).phase) where
    abbrev phase : Phase
    phase = (master_of start logs president).phase

    pub says_true : (x : Addressed) (body : Body) → MaySay phase body → IsTrueOf start logs x body
    says_true x (Epoch (GcpPrepare epoch next)) may = (
      prepares_rise voices epoch next phase right may,
      record {
        president = president;
        is = is;
        stands = stands;
        speaks = prepares_speaks epoch next phase may;
        far = inl (inl may);
      },
    )
    says_true x (Epoch (GcpCommit epoch next)) may = (
      commits_rise voices epoch next phase right may,
      record {
        president = president;
        is = is;
        stands = stands;
        speaks = commits_speaks epoch next phase may;
        far = inl may;
      },
    )
    says_true x (Epoch (GcpPrepareConf epoch)) may = absurd may
    says_true x (Epoch (GcpNodeFinish epoch)) may = absurd may
    says_true x (Epoch (GcpStateConf now prepared next closed saved durable)) may = absurd may
    says_true x (Epoch GcpOrd) may = absurd may
    says_true x _ may = tt
