-- How far the members are where a master goes on, once all have told.
use Rattle.std.proofs.Common.{◌≡◌, ◌≤◌, ◌<◌, ◌⊎◌, ℕ, List, [], sym, ◌∙◌, subst, inl, inr, arith}
use Rattle.std.proofs.lemmas.Bool.{cases_lt}
use Rattle.run_theory.specs.Lists.{IsIn}
use Rattle.run_theory.proofs.Pasts.{each_from, each_in}
use Rattle.sig_core.specs.declared.member.Member.{Member}
use Rattle.gcp_master.specs.declared.known.Known.{Known}
use Rattle.gcp_master.specs.declared.phase.Phase.{Phase}
use Rattle.gcp_master.specs.declared.phase.Phase.TheVariants.{Unordered, Gathering, Resting, Preparing, Committing}
use Rattle.gcp_master.specs.declared.phase.Phase.TheVariants.{Closing, Saving, Copying}
use Rattle.gcp_master.specs.declared.voices.Voice.{Voice}
use Rattle.gcp_master.specs.Known.{last_run}
use Rattle.dih_node.specs.State.{DihState}
use Rattle.world_core.specs.Start.{Start}
use Rattle.world_core.specs.Steps.{HostStep}
use Rattle.epoch_laws.specs.Alike.{AreAlike, AreTogether, EachFull, IsAcross, IsReady, IsSound, Rests, Waits}
use Rattle.epoch_laws.specs.Masters.{IsHad, IsKnown, IsRightIn, IsUnderWay, IsWithin}
use Rattle.epoch_laws.specs.Members.{epochs_of}
use Rattle.moment_laws.specs.Moments.{current}
use Rattle.epoch_laws.proofs.MasterMoves.{BeginsFrom, GoesOn, from_commit, from_copy, from_prepare, with_none}

-- one member by itself
pub sound_next : (s : DihState) → IsSound s → s.current ≤ s.next
sound_next s sound = by (cases_lt s.current s.next)
  where
    by : (s.current < s.next) ⊎ (s.next ≤ s.current) → s.current ≤ s.next
    by (inl below) = omega (arith, below)
    by (inr above) = let same = (sound.resting above).0 in omega (arith, same)

waits_prepared : (epoch next : ℕ) (s : DihState) → IsSound s → Waits epoch next s → s.prepared ≤ epoch
waits_prepared epoch next s sound waits = by (cases_lt s.current s.next)
  where
    by : (s.current < s.next) ⊎ (s.next ≤ s.current) → s.prepared ≤ epoch
    by (inl below) = let same = (waits.prepared below).0 in omega (arith, same)
    by (inr above) =
        let less = (sound.resting above).1 in
        let gives = waits.gives in
        omega (arith, less, gives)

across_prepared : (epoch next : ℕ) (s : DihState) → IsAcross epoch next s → s.prepared ≤ epoch
across_prepared epoch next s (inl ready) = let same = ready.prepared_is in omega (arith, same)
across_prepared epoch next s (inr gone) = gone.prepared

pub across_next : (epoch next : ℕ) (s : DihState) → IsAcross epoch next s → s.next ≡ next
across_next epoch next s (inl ready) = ready.next_is
across_next epoch next s (inr gone) = gone.next_is

module _ (start : Start) (logs : ℕ → List HostStep) where
  -- those that rest in an epoch, from which something begins
  pub begins_right : (epoch : ℕ) (phase : Phase) → EachFull start logs (Rests epoch) → BeginsFrom epoch phase
      → IsRightIn start logs [] phase
  begins_right epoch (Resting current) each is = subst (λ n. EachFull start logs (Rests n)) (sym is) each
  begins_right epoch (Preparing run) each (same, less) =
      (record { rises = subst (λ n. n < run.next) (sym same) less; each = each_from _ _ waits }, tt)
    where
      waits : (member : Member) → IsIn member (current start logs).full
          → Waits run.epoch run.next (epochs_of start logs member)
      waits member inside =
          let rests = each_in _ member _ each inside in
          let gives = rests.gives in
          let next_is = rests.next_is in
          record { gives = gives ∙ sym same; prepared = λ below. absurd (omega (arith, below, gives, next_is)) }
  begins_right epoch Unordered each is = absurd is
  begins_right epoch (Gathering known) each is = absurd is
  begins_right epoch (Committing run) each is = absurd is
  begins_right epoch (Closing run) each is = absurd is
  begins_right epoch (Saving run) each is = absurd is
  begins_right epoch (Copying run) each is = absurd is

  -- what some full member has isn't beyond what bounds each
  had_top : (part : DihState → ℕ) (value bound : ℕ) → IsHad start logs part value
      → ((member : Member) → IsIn member (current start logs).full → part (epochs_of start logs member) ≤ bound)
      → value ≤ bound
  had_top part value bound (inl none) top = omega (arith, none)
  had_top part value bound (inr (member, (inside, has))) top =
      let most = top member inside in omega (arith, most, has)

  had_below : (part : DihState → ℕ) (value bound : ℕ) → IsHad start logs part value → 1 ≤ bound
      → ((member : Member) → IsIn member (current start logs).full → part (epochs_of start logs member) < bound)
      → value < bound
  had_below part value bound (inl none) one top = omega (arith, none, one)
  had_below part value bound (inr (member, (inside, has))) one top =
      let most = top member inside in omega (arith, most, has)

  module _ (known : Known) (voices : List Voice) (is : IsKnown start logs voices known)
      (within : EachFull start logs (IsWithin start logs known)) (sound : EachFull start logs IsSound)
      (one : Member) (one_in : IsIn one (current start logs).full) where
    near : (member : Member) → IsIn member (current start logs).full
        → IsWithin start logs known (epochs_of start logs member)
    near member inside = each_in _ member _ within inside

    good : (member : Member) → IsIn member (current start logs).full → IsSound (epochs_of start logs member)
    good member inside = each_in _ member _ sound inside

    -- it begins the last order anew: each waits
    prepare_waits : (epoch next : ℕ) → epoch < next → EachFull start logs (Waits epoch next)
        → known.greatest < known.next → IsUnderWay start logs (last_run known) (Waits known.epoch known.next)
    prepare_waits epoch next rises each less = by is.next
      where
        top : known.epoch ≤ epoch
        top =
            had_top (λ s. s.prepared) known.epoch epoch is.epoch
            (λ member inside. waits_prepared epoch next _ (good member inside) (each_in _ member _ each inside))

        so : known.epoch ≡ epoch → known.next ≡ next
            → IsUnderWay start logs (last_run known) (Waits known.epoch known.next)
        so same same_next =
            record {
              rises = omega (arith, rises, same, same_next);
              each =
                  subst (λ n. EachFull start logs (Waits known.epoch n)) (sym same_next)
                  (subst (λ n. EachFull start logs (Waits n next)) (sym same) each);
            }

        by : IsHad start logs (λ s. s.next) known.next
            → IsUnderWay start logs (last_run known) (Waits known.epoch known.next)
        by (inl none) = absurd (omega (arith, none, less))
        by (inr (member, (inside, has))) =
            let waits : Waits epoch next (epochs_of start logs member) = each_in _ member _ each inside in
            let high = (near member inside).greatest in
            let prepares = waits.prepared (omega (arith, high, less, has)) in
            let now = prepares.0 in
            let up = (near member inside).epoch in
            so (omega (arith, now, up, top)) (sym has ∙ prepares.1)

    prepare_ready : (epoch next : ℕ) → epoch < next → EachFull start logs (IsAcross epoch next)
        → known.greatest < known.next → IsUnderWay start logs (last_run known) (Waits known.epoch known.next)
    prepare_ready epoch next rises each less =
        let own = ready one one_in in
        let own_next = own.next_is in
        let own_prepared = own.prepared_is in
        let up = (near one one_in).next in
        let up_prepared = (near one one_in).epoch in
        let next_is : known.next ≡ next = omega (arith, own_next, up, top_next) in
        let epoch_is : known.epoch ≡ epoch = omega (arith, own_prepared, up_prepared, top) in
        record { rises = omega (arith, rises, next_is, epoch_is); each = each_from _ _ (waits epoch_is next_is) }
      where
        across : (member : Member) → IsIn member (current start logs).full
            → IsAcross epoch next (epochs_of start logs member)
        across member inside = each_in _ member _ each inside

        top : known.epoch ≤ epoch
        top =
            had_top (λ s. s.prepared) known.epoch epoch is.epoch
            (λ member inside. across_prepared epoch next _ (across member inside))

        top_next : known.next ≤ next
        top_next =
            had_top (λ s. s.next) known.next next is.next
            (λ member inside. let same = across_next epoch next _ (across member inside) in omega (arith, same))

        ready : (member : Member) → IsIn member (current start logs).full
            → IsReady epoch next (epochs_of start logs member)
        ready member inside = by (across member inside)
          where
            by : IsAcross epoch next (epochs_of start logs member) → IsReady epoch next (epochs_of start logs member)
            by (inl ready) = ready
            by (inr gone) =
                let gives = gone.gives in
                let high = (near member inside).greatest in
                absurd (omega (arith, gives, high, less, top_next))

        waits : known.epoch ≡ epoch → known.next ≡ next → (member : Member) → IsIn member (current start logs).full
            → Waits known.epoch known.next (epochs_of start logs member)
        waits epoch_is next_is member inside =
            let r = ready member inside in
            record {
              gives = r.gives ∙ sym epoch_is;
              prepared = λ below. (r.prepared_is ∙ sym epoch_is, r.next_is ∙ sym next_is);
            }

    -- it commits the last order: some have gone on, and the others are prepared
    commit_rests : (epoch next : ℕ) → EachFull start logs (Waits epoch next) → known.next ≤ known.greatest
        → IsUnderWay start logs (last_run known) (IsAcross known.epoch known.next)
    commit_rests epoch next each most =
        record { rises = subst (λ n. known.epoch < n) (sym next_is) epoch_below; each = each_from _ _ gone }
      where
        waits : (member : Member) → IsIn member (current start logs).full
            → Waits epoch next (epochs_of start logs member)
        waits member inside = each_in _ member _ each inside

        top : known.greatest ≤ epoch
        top =
            had_top (λ s. s.current) known.greatest epoch is.greatest
            (λ member inside. let gives = (waits member inside).gives in omega (arith, gives))

        resting : (member : Member) → (inside : IsIn member (current start logs).full)
            → ((epochs_of start logs member).next ≡ (epochs_of start logs member).current)
            × ((epochs_of start logs member).prepared < (epochs_of start logs member).current)
        resting member inside =
            let up = (near member inside).next in
            let gives = (waits member inside).gives in
            (good member inside).resting (omega (arith, up, gives, most, top))

        next_is : known.next ≡ epoch
        next_is =
            let up = (near one one_in).next in
            let gives = (waits one one_in).gives in
            let same = (resting one one_in).0 in
            omega (arith, up, gives, same, most, top)

        epoch_below : known.epoch < epoch
        epoch_below =
            let some = (good one one_in).some in
            let gives = (waits one one_in).gives in
            had_below (λ s. s.prepared) known.epoch epoch is.epoch (omega (arith, some, gives))
            (λ member inside. let gives = (waits member inside).gives in let less = (resting member inside).1 in
            omega (arith, gives, less))

        gone : (member : Member) → IsIn member (current start logs).full
            → IsAcross known.epoch known.next (epochs_of start logs member)
        gone member inside =
            let gives = (waits member inside).gives in
            inr (record {
              gives = gives ∙ sym next_is;
              next_is = (resting member inside).0 ∙ gives ∙ sym next_is;
              prepared = (near member inside).epoch;
            })

    commit_across : (epoch next : ℕ) → epoch < next → EachFull start logs (IsAcross epoch next)
        → IsUnderWay start logs (last_run known) (IsAcross known.epoch known.next)
    commit_across epoch next rises each =
        record {
          rises = omega (arith, rises, top, next_is);
          each = each_from _ _ (λ member inside. by member inside (across member inside));
        }
      where
        across : (member : Member) → IsIn member (current start logs).full
            → IsAcross epoch next (epochs_of start logs member)
        across member inside = each_in _ member _ each inside

        top : known.epoch ≤ epoch
        top =
            had_top (λ s. s.prepared) known.epoch epoch is.epoch
            (λ member inside. across_prepared epoch next _ (across member inside))

        next_is : known.next ≡ next
        next_is =
            let top_next : known.next ≤ next =
            had_top (λ s. s.next) known.next next is.next
            (λ member inside. let same = across_next epoch next _ (across member inside) in omega (arith, same)) in
            let same = across_next epoch next _ (across one one_in) in
            let up = (near one one_in).next in
            omega (arith, top_next, same, up)

        by : (member : Member) → IsIn member (current start logs).full
            → IsAcross epoch next (epochs_of start logs member)
            → IsAcross known.epoch known.next (epochs_of start logs member)
        by member inside (inl ready) =
            let prepared = ready.prepared_is in
            let up = (near member inside).epoch in
            let epoch_is : known.epoch ≡ epoch = omega (arith, prepared, up, top) in
            inl (record {
              gives = ready.gives ∙ sym epoch_is;
              prepared_is = prepared ∙ sym epoch_is;
              next_is = ready.next_is ∙ sym next_is;
            })
        by member inside (inr gone) =
            inr (record {
              gives = gone.gives ∙ sym next_is;
              next_is = gone.next_is ∙ sym next_is;
              prepared = (near member inside).epoch;
            })

    -- all have gone on
    rests_all : known.next ≤ known.least → EachFull start logs (Rests known.next)
    rests_all least = each_from _ _ rests
      where
        rests : (member : Member) → IsIn member (current start logs).full
            → Rests known.next (epochs_of start logs member)
        rests member inside =
            let low = (near member inside).least in
            let up = (near member inside).next in
            let follows = sound_next _ (good member inside) in
            record {
              gives = omega (arith, low, up, follows, least);
              next_is = omega (arith, low, up, follows, least);
            }

    copy_rests : known.next ≤ known.least → IsUnderWay start logs (last_run known) (Rests known.next)
    copy_rests least =
        let all = rests_all least in
        let some = (good one one_in).some in
        let gives = (each_in _ one _ all one_in).gives in
        record {
          rises =
              had_below (λ s. s.prepared) known.epoch known.next is.epoch (omega (arith, some, gives))
              (λ member inside. below member inside (each_in _ member _ all inside));
          each = all;
        }
      where
        below : (member : Member) → IsIn member (current start logs).full
            → Rests known.next (epochs_of start logs member) → (epochs_of start logs member).prepared < known.next
        below member inside rests =
            let gives = rests.gives in
            let next_is = rests.next_is in
            let less = ((good member inside).resting (omega (arith, gives, next_is))).1 in
            omega (arith, gives, less)

    -- wherever it goes on, the members are so far
    pub goes_on_right : AreAlike start logs → (phase : Phase) → GoesOn known phase → IsRightIn start logs [] phase
    goes_on_right alike phase (from_prepare less at) = subst (IsRightIn start logs []) (sym at) (by alike.together, tt)
      where
        by : AreTogether start logs alike.epoch alike.next
            → IsUnderWay start logs (last_run known) (Waits known.epoch known.next)
        by (inl (each, up_to)) = prepare_waits alike.epoch alike.next alike.rises each less
        by (inr (each, up_to)) = prepare_ready alike.epoch alike.next alike.rises each less
    goes_on_right alike phase (from_commit more at) = subst (IsRightIn start logs []) (sym at) (by alike.together, tt)
      where
        by : AreTogether start logs alike.epoch alike.next
            → IsUnderWay start logs (last_run known) (IsAcross known.epoch known.next)
        by (inl (each, up_to)) = commit_rests alike.epoch alike.next each more
        by (inr (each, up_to)) = commit_across alike.epoch alike.next alike.rises each
    goes_on_right alike phase (from_copy more least at) =
        subst (IsRightIn start logs []) (sym at) (copy_rests least)
    goes_on_right alike phase (with_none more least begins) =
        begins_right known.next phase (rests_all least) begins
