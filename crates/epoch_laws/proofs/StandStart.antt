-- All stands at the beginning.
use Rattle.std.proofs.Common.{◌≡◌, ◌<◌, ◌⊎◌, ℕ, suc, Bool, true, false, List, [], ◌∷◌, refl, sym, ap, subst, ◌∙◌}
use Rattle.std.proofs.Common.{inl, inr, arith}
use Rattle.std.specs.Prelude.{slice_get}
use Rattle.frag_map.specs.Layout.{first_layout}
use Rattle.run_theory.proofs.Pasts.{each_from}
use Rattle.run_theory.specs.Lists.{IsIn}
use Rattle.sig_core.specs.declared.member.Member.{Member}
use Rattle.sig_core.specs.declared.view.View.{View}
use Rattle.dih_node.specs.Dih.{fresh_dih}
use Rattle.gcp_master.specs.declared.phase.Phase.TheVariants.{Unordered}
use Rattle.gcp_master.specs.Master.{first_phase, fresh_master}
use Rattle.gcp_master.specs.Resume.{is_first_by, is_president}
use Rattle.gcp_master.specs.State.{MasterState}
use Rattle.node_views.specs.declared.host_body.HostBody as hosts
use Rattle.world_core.specs.Hosts as world
use Rattle.world_core.specs.Start.{Start, made}
use Rattle.world_core.specs.Steps.{HostStep}
use Rattle.view_laws.proofs.follow.Hosts.{main_started}
use Rattle.view_laws.proofs.runs.Step.{started_view}
use Rattle.epoch_laws.specs.Alike.{AreAlike, IsSound, Rests, Waits}
use Rattle.epoch_laws.specs.Masters.{IsRight, IsRightIn}
use Rattle.epoch_laws.specs.Members.{IsFirst, IsPresident, dih_in, epochs_of, master_in, master_of}
use Rattle.moment_laws.specs.Moments.{IsMoment, current, logs_of}
use Rattle.epoch_laws.specs.Stand.{AllStand}
use Rattle.epoch_laws.proofs.MasterHears.{same_member-is}
use Rattle.epoch_laws.proofs.StandMasters.{first_inside}
use Rattle.moment_laws.proofs.MomentHosts.{tc_started}
use Rattle.moment_laws.proofs.MomentMembers.{current_made}
use Rattle.moment_laws.proofs.MomentViews.{IsViewOf, current_is}

-- the first of these members
first_is : (member : Member) (members : List Member) → is_first_by member (slice_get members 0) ≡ true
    → IsFirst member members
first_is member [] is = absurd cc
first_is member (oldest ∷ members) is = same_member-is member oldest is

module _ (start : Start) (all : ℕ → List HostStep) (below : start.start_epoch < start.epoch)
    (moment : IsMoment start all []) where
  abbrev logs : ℕ → List HostStep
  logs = logs_of start []

  abbrev first : View
  first = (first_layout start.shape).view

  module _ (member : Member) (there : IsIn member (made start)) where
    epochs_begin : epochs_of start logs member
        ≡ fresh_dih member.node first.number start.epoch start.start_epoch
    epochs_begin = ap (λ (s : hosts.HostBody). dih_in (fresh_dih 0 0 0 0) s.parts)
        (tc_started start moment.cluster.nobody member there)

    master_begins : master_of start logs member ≡ fresh_master member first start.epoch
    master_begins =
        ap (λ (s : hosts.HostBody). master_in (fresh_master member first 0) s.parts)
        (main_started start moment.cluster.nobody member there)

    sound_begun : IsSound (fresh_dih member.node first.number start.epoch start.start_epoch)
    sound_begun = record {
      some = omega (arith, below);
      preparing = λ less. absurd (omega (arith, less));
      resting = λ low. (refl, below);
      order = tt;
    }

    sound : IsSound (epochs_of start logs member)
    sound = subst IsSound (sym epochs_begin) sound_begun

    rests : Rests start.epoch (epochs_of start logs member)
    rests = subst (Rests start.epoch) (sym epochs_begin) (record { gives = refl; next_is = refl })

    waits : Waits start.epoch (suc start.epoch) (epochs_of start logs member)
    waits =
        subst (Waits start.epoch (suc start.epoch)) (sym epochs_begin)
        (record { gives = refl; prepared = λ less. absurd (omega (arith, less)) })

  full_made : (member : Member) → IsIn member (current start logs).full → IsIn member (made start)
  full_made = current_made start all [] moment

  alike : AreAlike start logs
  alike = record {
    epoch = start.epoch;
    next = suc start.epoch;
    rises = omega arith;
    together =
        inl (
          each_from _ (current start logs).full (λ member inside. waits member (full_made member inside)),
          record {
            gives = λ member there. let gives = (rests member there).gives in omega (arith, gives);
            given = λ h. tt;
          },
        );
  }

  -- the current view is the first one
  current_first : current start logs ≡ first
  current_first = by (current start logs) (current_is start logs moment.cluster.nobody)
    where
      by : (view : View) → (view ≡ first) ⊎ IsViewOf start logs (world.hosts start) view → view ≡ first
      by view (inl is) = is
      by view (inr one) = one.is ∙ started_view start moment.cluster.nobody one.host

  right_begun : (member : Member) (president : Bool) → IsRightIn start logs [] (first_phase start.epoch president)
  right_begun member true =
      each_from _ (current start logs).full (λ member inside. rests member (full_made member inside))
  right_begun member false = tt

  right : (member : Member) → IsIn member (made start) → IsRight start logs (master_of start logs member)
  right member there =
      subst (IsRight start logs) (sym (master_begins member there)) (right_begun member (is_president member first))

  unordered : (member : Member) → IsIn member (made start) → (IsPresident start logs member → ⊥)
      → (master_of start logs member).phase ≡ Unordered
  unordered member there other =
      ap (λ (s : MasterState). s.phase) (master_begins member there) ∙ by (is_president member first) refl
    where
      by : (b : Bool) → is_president member first ≡ b → first_phase start.epoch b ≡ Unordered
      by true is =
          absurd (other (subst (λ (v : View). IsFirst member v.full) (sym current_first)
          (first_is member first.full is)))
      by false is = refl

  pub stands_first : AllStand start logs
  stands_first = record {
    sound = sound;
    alike = alike;
    president =
        λ member is stands. right member (full_made member (first_inside member (current start logs).full is));
    others = λ member there other stands. unordered member there other;
    signals = λ i j. tt;
  }
