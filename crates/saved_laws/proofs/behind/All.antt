-- So it is at each moment: rows that save a later epoch save that of a run of the president's master, which it didn't
-- begin before what they had saved was durable.
use Rattle.std.proofs.Common.{◌<◌, ◌∷◌, ◌≡◌, ◌≤◌, ◌⊎◌, Bool, List, [], ap, arith, false, inl, inr, subst, sym, true}
use Rattle.std.proofs.Common.{ℕ}
use Rattle.run_theory.proofs.Pasts.{each_from}
use Rattle.run_theory.specs.Lists.{IsIn}
use Rattle.sig_core.specs.declared.member.Member.{Member}
use Rattle.frag_map.specs.Layout.{first_layout}
use Rattle.gcp_master.specs.Master.{first_phase, fresh_master}
use Rattle.gcp_master.specs.Resume.{is_president}
use Rattle.gcp_master.specs.declared.phase.Phase.TheVariants.{Saving}
use Rattle.node_views.specs.declared.host_body.HostBody.{HostBody}
use Rattle.node_views.specs.declared.host_body.HostBody as node
use Rattle.world_core.specs.Start.{Start, made}
use Rattle.world_core.specs.Steps.{HostStep}
use Rattle.view_laws.proofs.follow.Hosts.{main_started}
use Rattle.moment_laws.proofs.MomentHosts.{ldm_started}
use Rattle.moment_laws.proofs.MomentMembers.{current_made}
use Rattle.moment_laws.proofs.MomentViews.{moment_less}
use Rattle.moment_laws.specs.Moments.{IsMoment, current, logs_of}
use Rattle.epoch_laws.proofs.StandAll.{epochs_stand}
use Rattle.epoch_laws.proofs.StandMasters.{first_inside}
use Rattle.epoch_laws.specs.Members.{epochs_of, master_in, master_of}
use Rattle.request_laws.specs.Blocks.{no_replica, rows_in}
use Rattle.saved_laws.proofs.behind.Durable.{all_durable}
use Rattle.saved_laws.proofs.behind.Masters.{presidents_next}
use Rattle.saved_laws.proofs.behind.Members.{settled_next}
use Rattle.saved_laws.proofs.behind.Orders.{orders_next}
use Rattle.saved_laws.proofs.behind.Saves.{IsRunOf, SavesNow, run_of, saves_do}
use Rattle.saved_laws.proofs.behind.Statement.{AllBehind, AreDurable, IsBehind, IsSettled, saved_at}
use Rattle.saved_laws.specs.Behind.{IsDurable, SavedBeforeIsDurable}

-- at the beginning all have saved what the life started from
module _ (start : Start) (all : ℕ → List HostStep) (moment : IsMoment start all []) where
  abbrev logs : ℕ → List HostStep
  logs = logs_of start []

  first_durable : AreDurable start logs
  first_durable member there =
      inl
      (subst (λ n. n ≤ start.start_epoch)
      (sym (ap (λ (s : node.HostBody). (rows_in (no_replica start member) s.parts).saved)
      (ldm_started start moment.cluster.nobody member there)))
      (omega arith))

  first_behind : (epoch : ℕ) (b : Bool) → IsBehind start logs (first_phase epoch b)
  first_behind epoch true = first_durable
  first_behind epoch false = tt

  behind_first : AllBehind start logs
  behind_first = record {
    settled = λ member there.
        each_from (λ (m : Member). IsSettled start logs member (epochs_of start logs m)) (current start logs).full
        (λ full inside. inl (first_durable member there));
    president = λ member first stands.
        subst
        (λ (s : node.HostBody). IsBehind start logs
        (master_in (fresh_master member (first_layout start.shape).view 0) s.parts).phase)
        (sym (main_started start moment.cluster.nobody member
        (current_made start all [] moment member (first_inside member (current start logs).full first))))
        (first_behind start.epoch (is_president member (first_layout start.shape).view));
    orders = λ i j. tt;
  }

all_behind : (start : Start) (all : ℕ → List HostStep) (es : List HostStep) → start.start_epoch < start.epoch
    → IsMoment start all es → AllBehind start (logs_of start es)
all_behind start all [] some moment = behind_first start all moment
all_behind start all (e ∷ es) some moment =
    let less = moment_less start all e es moment in
    let stand = epochs_stand start all es some less in
    let behind = all_behind start all es some less in
    record {
      settled = settled_next start all e es moment stand behind;
      president = presidents_next start all e es some moment stand behind (all_durable start all es some less);
      orders =
          orders_next start all e es some moment (epochs_stand start all (e ∷ es) some moment) behind.orders;
    }

-- rows that save a later epoch
module _ (start : Start) (all : ℕ → List HostStep) (e : HostStep) (es : List HostStep)
    (moment : IsMoment start all (e ∷ es)) (behind : AllBehind start (logs_of start es)) (member : Member)
    (there : IsIn member (made start))
    (rises : saved_at start (logs_of start es) member < saved_at start (logs_of start (e ∷ es)) member)
  where
    abbrev old : ℕ → List HostStep
    old = logs_of start es

    abbrev now : ℕ
    now = saved_at start (logs_of start (e ∷ es)) member

    of_run : (saves : SavesNow start all e es moment behind member there)
        → IsRunOf now (master_of start old saves.saving.president).phase
        → IsDurable start old (saved_at start old member)
    of_run saves run = by (earlier.0 member there)
      where
        earlier : IsBehind start old (Saving run.run)
        earlier =
            subst (IsBehind start old) run.is
            (behind.president saves.saving.president saves.saving.is saves.saving.stands)

        by : IsDurable start old (saved_at start old member) ⊎ (run.run.epoch ≤ saved_at start old member)
            → IsDurable start old (saved_at start old member)
        by (inl durable) = durable
        by (inr low) = let same = run.epoch_is in absurd (omega (arith, low, same, rises))

    saved_durable : IsDurable start old (saved_at start old member)
    saved_durable = by (saves_do start all e es moment behind member there)
      where
        by : (now ≡ saved_at start old member) ⊎ SavesNow start all e es moment behind member there
            → IsDurable start old (saved_at start old member)
        by (inl same) = absurd (omega (arith, same, rises))
        by (inr saves) =
            of_run saves
            (run_of now (master_of start old saves.saving.president).phase saves.saving.saves)

pub saved_before_durable : SavedBeforeIsDurable
saved_before_durable start all e es some moment member there rises =
    saved_durable start all e es moment (all_behind start all es some (moment_less start all e es moment)) member there
    rises
