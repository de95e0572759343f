-- Epochs never fall along the decisions in the order of views.
use Rattle.std.proofs.Common.{◌≡◌, ◌≤◌, ◌<◌, ◌⊎◌, ◌++◌, ℕ, Bool, true, false, cond, filter, reverse, List}
use Rattle.std.proofs.Common.{[], ◌∷◌, refl, sym, ap, subst, ◌∙◌, inl, inr, arith}
use Rattle.std.proofs.lemmas.List.{reverse-append}
use Rattle.run_theory.proofs.Pasts.{each_append, each_filter, each_in, each_map, each_past}
use Rattle.run_theory.proofs.Runs.{log_of-own, log_of-past}
use Rattle.run_theory.specs.Lists.{Each, IsIn}
use Rattle.sig_core.specs.declared.entry.Entry.{Entry}
use Rattle.sig_core.specs.declared.mark.Mark.{Mark}
use Rattle.sig_core.specs.declared.mark.Mark.TheVariants.{Decided}
use Rattle.sig_core.specs.declared.member.Member.{Member}
use Rattle.sig_core.specs.declared.place.Part.TheVariants.{Tc}
use Rattle.sig_core.specs.declared.view.View.{View}
use Rattle.dih_node.specs.Dih.{fresh_dih}
use Rattle.dih_node.specs.State.{DihState}
use Rattle.world_core.specs.Entries.{entries, entries_in, entry_of}
use Rattle.world_core.specs.Hosts.{hosts, member_at}
use Rattle.world_core.specs.SerialLaw.{AreEpochsOrdered}
use Rattle.world_core.specs.Start.{Start, made}
use Rattle.world_core.specs.Steps.{HostStep}
use Rattle.world_views.specs.Machine.{after, machine, step_after}
use Rattle.view_laws.specs.Order.{EntriesStandInOrder, by_views, decisions}
use Rattle.run_theory.specs.Ranks.{in_order}
use Rattle.view_laws.specs.Runs.{view_after}
use Rattle.epoch_laws.specs.Alike.{AreTogether, AreUpTo, GivesUpTo, IsAcross, Waits}
use Rattle.epoch_laws.specs.Falls.{EpochsNeverFall, EpochsOfHistoriesNeverFall}
use Rattle.epoch_laws.specs.Members.{dih_in, epochs_of}
use Rattle.moment_laws.specs.Places.{tc_of}
use Rattle.moment_laws.specs.Moments.{IsMoment, current, logs_of}
use Rattle.epoch_laws.specs.Stand.{AllStand}
use Rattle.epoch_laws.proofs.DihSends.{IsGivenBy}
use Rattle.epoch_laws.proofs.FallMarks.{DecidesLow, tc_low}
use Rattle.moment_laws.proofs.MomentRuns.{are_moments}
use Rattle.view_laws.proofs.eras.DecisionMarks.{DecidesNone, IsUndecided}
use Rattle.view_laws.proofs.eras.Deciders.{told_view}
use Rattle.view_laws.proofs.eras.Entries.{undecided_same}
use Rattle.epoch_laws.proofs.MarkSteps.{others_decide_none, tc_steps_give}
use Rattle.moment_laws.proofs.MomentHosts.{TcHost, never_tc, of_none, of_tc, part_some, tc_host_is, tc_member}
use Rattle.moment_laws.proofs.MomentMembers.{current_host}
use Rattle.moment_laws.proofs.MomentTurns.{host_low, own_behind, taker_stands}
use Rattle.moment_laws.proofs.MomentViews.{moment_less}
use Rattle.epoch_laws.proofs.OrderKeeps.{AreGivenTo}
use Rattle.epoch_laws.proofs.StandAll.{epochs_stand}
use Rattle.epoch_laws.proofs.StandMarks.{full_before, marks_are}
use Rattle.epoch_laws.proofs.StepKinds.{RunsTc, tc_at}

-- no entry has a later epoch than those in front of it
abbrev AreDown : List Entry → Type 0
AreDown [] = Unit {0}
AreDown (a ∷ rest) = Each (λ (b : Entry). b.epoch ≤ a.epoch) rest × AreDown rest

turned : (a : Entry) (rest : List Entry) → reverse (a ∷ rest) ≡ reverse rest ++ a ∷ []
turned a rest = reverse-append (a ∷ []) rest

each_turned : (P : Entry → Type 0) (xs : List Entry) → Each P xs → Each P (reverse xs)
each_turned P [] all = tt
each_turned P (x ∷ xs) all =
    subst (Each P) (sym (turned x xs)) (each_append P (reverse xs) (x ∷ []) (each_turned P xs all.1) (all.0, tt))

ordered_behind : (xs : List Entry) (a : Entry) → AreEpochsOrdered xs → Each (λ (b : Entry). b.epoch ≤ a.epoch) xs
    → AreEpochsOrdered (xs ++ a ∷ [])
ordered_behind [] a ordered low = (tt, tt)
ordered_behind (x ∷ xs) a ordered low = (
  each_append (λ (b : Entry). x.epoch ≤ b.epoch) xs (a ∷ []) ordered.0 (low.0, tt),
  ordered_behind xs a ordered.1 low.1,
)

down_turned : (xs : List Entry) → AreDown xs → AreEpochsOrdered (reverse xs)
down_turned [] down = tt
down_turned (a ∷ rest) down =
    subst AreEpochsOrdered (sym (turned a rest))
    (ordered_behind (reverse rest) a (down_turned rest down.1)
    (each_turned (λ (b : Entry). b.epoch ≤ a.epoch) rest down.0))

pub ordered_filter : (p : Entry → Bool) (xs : List Entry) → AreEpochsOrdered xs → AreEpochsOrdered (filter p xs)
ordered_filter p [] ordered = tt
ordered_filter p (x ∷ xs) ordered = by (p x) (ordered_filter p xs ordered.1)
  where
    by : (b : Bool) → AreEpochsOrdered (filter p xs) → AreEpochsOrdered (cond b (x ∷ filter p xs) (filter p xs))
    by true rest = (each_filter (λ (b : Entry). x.epoch ≤ b.epoch) p xs ordered.0, rest)
    by false rest = rest

-- a mark gives exactly this epoch
abbrev IsExactly : ℕ → Mark → Type 0
IsExactly epoch (Decided tx given) = given ≡ epoch
IsExactly epoch mark = Unit {0}

-- the entries of a step, in front of those before
module _ (h stamp : ℕ) (log : List HostStep) where
  in_low : (epoch : ℕ) (marks : List Mark) (before : List Entry) → Each (GivesUpTo epoch) marks
      → Each (λ (a : Entry). a.epoch ≤ epoch) before
      → Each (λ (a : Entry). a.epoch ≤ epoch) (entries_in h stamp log marks before)
  in_low epoch [] before all low = low
  in_low epoch (Decided tx given ∷ marks) before all low =
      in_low epoch marks (entry_of h stamp log tx given ∷ before) all.1 (all.0, low)
  in_low epoch (_ ∷ marks) before all low = in_low epoch marks before all.1 low

  in_down : (epoch : ℕ) (marks : List Mark) (before : List Entry) → Each (IsExactly epoch) marks
      → Each (λ (a : Entry). a.epoch ≤ epoch) before → AreDown before → AreDown (entries_in h stamp log marks before)
  in_down epoch [] before all low down = down
  in_down epoch (Decided tx given ∷ marks) before all low down =
      let same : given ≡ epoch = all.0 in
      in_down epoch marks (entry_of h stamp log tx given ∷ before) all.1 (omega (arith, same), low) (
        each_map (λ (a : Entry). a.epoch ≤ epoch) (λ (a : Entry). a.epoch ≤ given) before
            (λ a less. omega (arith, less, same)) low,
        down,
      )
  in_down epoch (_ ∷ marks) before all low down = in_down epoch marks before all.1 low down

given_exactly : (s : DihState) (mark : Mark) → IsGivenBy s mark → IsExactly s.current mark
given_exactly s (Decided tx given) is = is.0
given_exactly s _ is = tt

-- some decision among marks, with what its member gives then
record HasGiven (s : DihState) (marks : List Mark) : Type 0 where
  rest : s.next ≤ s.current

some_given : (s : DihState) (marks : List Mark) → Each (IsGivenBy s) marks → Each IsUndecided marks ⊎ HasGiven s marks
some_given s [] all = inl tt
some_given s (Decided tx given ∷ marks) all = let is = all.0 in inr (record { rest = is.1 })
some_given s (mark ∷ marks) all = by (some_given s marks all.1)
  where
    by : Each IsUndecided marks ⊎ HasGiven s marks → Each IsUndecided (mark ∷ marks) ⊎ HasGiven s (mark ∷ marks)
    by (inl none) = inl (refl, none)
    by (inr has) = inr (record { rest = has.rest })

module _ (start : Start) (all : ℕ → List HostStep) where
  -- no decision is of a later epoch than all that were given
  decided_low : (epoch : ℕ) (es : List HostStep) → AreGivenTo start (logs_of start es) epoch
      → Each (λ (a : Entry). a.epoch ≤ epoch) (decisions start es)
  decided_low epoch [] given = tt
  decided_low epoch (e ∷ es) given =
      let own : Each (λ (e : HostStep). Each (GivesUpTo epoch) e.step.marks) (e ∷ logs_of start es e.host) =
      subst (Each (λ (e : HostStep). Each (GivesUpTo epoch) e.step.marks)) (log_of-own (machine start) e es e.host refl)
      (given e.host) in
      in_low e.host e.step.stamp (e ∷ logs_of start es e.host) epoch e.step.marks (decisions start es) own.0
      (decided_low epoch es
      (λ h. each_past (λ (e : HostStep). Each (GivesUpTo epoch) e.step.marks) (log_of-past (machine start) e es h)
      (given h)))

  module _ (e : HostStep) (es : List HostStep) (moment : IsMoment start all (e ∷ es))
      (stand : AllStand start (logs_of start es))
    where
      abbrev old : ℕ → List HostStep
      old = logs_of start es

      none_down : DecidesNone (step_after start e.host (old e.host) e) → AreDown (decisions start es)
          → AreDown (decisions start (e ∷ es))
      none_down none down =
          subst AreDown
          (sym (undecided_same e.host e.step.stamp (e ∷ old e.host) e.step.marks (decisions start es)
          (subst (Each IsUndecided) (sym (marks_are start all e es moment stand)) none)))
          down

      -- a full member that isn't prepared gives the last epoch
      last : (d : DihState) → d.next ≤ d.current → (epoch next : ℕ) → epoch < next
          → (Waits epoch next d × AreUpTo start old epoch) ⊎ (IsAcross epoch next d × AreUpTo start old next)
          → AreUpTo start old d.current
      last d rest epoch next rises (inl (waits, up)) = subst (AreUpTo start old) (sym waits.gives) up
      last d rest epoch next rises (inr (inl ready, up)) =
          let gives = ready.gives in let is = ready.next_is in absurd (omega (arith, rest, rises, gives, is))
      last d rest epoch next rises (inr (inr gone, up)) = subst (AreUpTo start old) (sym gone.gives) up

      together_of : (me : Member) → IsIn me (current start old).full → (epoch next : ℕ)
          → AreTogether start old epoch next
          → (Waits epoch next (epochs_of start old me) × AreUpTo start old epoch)
          ⊎ (IsAcross epoch next (epochs_of start old me) × AreUpTo start old next)
      together_of me inside epoch next (inl (each, up)) =
          inl (
            each_in (λ member. Waits epoch next (epochs_of start old member)) me (current start old).full each
                inside,
            up,
          )
      together_of me inside epoch next (inr (each, up)) =
          inr (
            each_in (λ member. IsAcross epoch next (epochs_of start old member)) me (current start old).full each
                inside,
            up,
          )

      given_down : (me : Member) → IsIn me (current start old).full
          → (epochs_of start old me).next ≤ (epochs_of start old me).current
          → Each (IsGivenBy (epochs_of start old me)) e.step.marks → AreDown (decisions start es)
          → AreDown (decisions start (e ∷ es))
      given_down me inside rest given down =
          let d = epochs_of start old me in
          let up =
          last d rest stand.alike.epoch stand.alike.next stand.alike.rises
          (together_of me inside stand.alike.epoch stand.alike.next stand.alike.together) in
          in_down e.host e.step.stamp (e ∷ old e.host) d.current e.step.marks (decisions start es)
          (each_map (IsGivenBy d) (IsExactly d.current) e.step.marks (given_exactly d) given)
          (decided_low d.current es up.given) down

      -- a host of epochs
      module _ (me : Member) (there : IsIn me (made start)) (at : e.host ≡ tc_of start me) where
        runs : RunsTc start e.host (old e.host)
        runs = tc_at start e.host moment.cluster.nobody me there at (old e.host)

        epochs_are : epochs_of start old me ≡ runs.part.dih
        epochs_are =
            ap (λ h. dih_in (fresh_dih 0 0 0 0) (after start h (old h)).parts) (sym at)
            ∙ ap (dih_in (fresh_dih 0 0 0 0)) runs.is

        gives : Each (IsGivenBy (epochs_of start old me)) e.step.marks
        gives =
            subst (λ (d : DihState). Each (IsGivenBy d) e.step.marks) (sym epochs_are)
            (subst (Each (IsGivenBy runs.part.dih)) (sym (marks_are start all e es moment stand))
            (tc_steps_give e.host (after start e.host (old e.host)) e.step.taken runs.part runs.is))

        -- whoever decides is a full member
        decider_full : e.step.taken.view.number ≤ (view_after start e.host (e ∷ old e.host)).number
            → IsIn me (current start old).full
        decider_full low =
            full_before start all e es moment stand me
            (subst (λ (m : Member). IsIn m (current start (logs_of start (e ∷ es))).full)
            (ap (member_at (made start)) at ∙ tc_member start moment.cluster.nobody me there)
            (current_host start all (e ∷ es) moment e.host (subst (λ h. 1 ≤ h) (sym at) (part_some start Tc me))
            (host_low start all e es moment)
            (own_behind start all e es moment ∙ taker_stands start all e es moment low)))

        low_or : DecidesNone (step_after start e.host (old e.host) e)
            ⊎ (e.step.taken.view.number ≤ (view_after start e.host (e ∷ old e.host)).number)
        low_or = by (tc_low e.step.taken e.host (after start e.host (old e.host)) runs.part runs.is)
          where
            by : DecidesLow e.step.taken (step_after start e.host (old e.host) e)
                → DecidesNone (step_after start e.host (old e.host) e)
                ⊎ (e.step.taken.view.number ≤ (view_after start e.host (e ∷ old e.host)).number)
            by (inl none) = inl none
            by (inr low) =
                let same : (view_after start e.host (e ∷ old e.host)).number
                ≡ (step_after start e.host (old e.host) e).state.standing.view.number =
                ap (λ (v : View). v.number) (told_view e.host (step_after start e.host (old e.host) e)) in
                inr (omega (arith, low, same))

        tc_down : AreDown (decisions start es) → AreDown (decisions start (e ∷ es))
        tc_down down = by low_or (some_given (epochs_of start old me) e.step.marks gives)
          where
            by : DecidesNone (step_after start e.host (old e.host) e)
                ⊎ (e.step.taken.view.number ≤ (view_after start e.host (e ∷ old e.host)).number)
                → Each IsUndecided e.step.marks ⊎ HasGiven (epochs_of start old me) e.step.marks
                → AreDown (decisions start (e ∷ es))
            by (inl none) given = none_down none down
            by (inr low) (inl none) =
                none_down (subst (Each IsUndecided) (marks_are start all e es moment stand) none) down
            by (inr low) (inr has) = given_down me (decider_full low) has.rest gives down

      decisions_next : AreDown (decisions start es) → AreDown (decisions start (e ∷ es))
      decisions_next down = by (tc_host_is start moment.cluster.nobody e.host (host_low start all e es moment))
        where
          by : TcHost start e.host → AreDown (decisions start (e ∷ es))
          by (of_tc me there at) = tc_down me there at down
          by (of_none none) =
              none_down
              (others_decide_none e.host (after start e.host (old e.host)) e.step.taken
              (never_tc start e.host (old e.host) none)) down

  decisions_down : (es : List HostStep) → start.start_epoch < start.epoch → IsMoment start all es
      → AreDown (decisions start es)
  decisions_down [] some moment = tt
  decisions_down (e ∷ es) some moment =
      let less = moment_less start all e es moment in
      decisions_next e es moment (epochs_stand start all es some less) (decisions_down es some less)

module _ (in_place : EntriesStandInOrder) where
  pub epochs_never_fall : EpochsNeverFall
  epochs_never_fall start logs some are =
      subst AreEpochsOrdered (sym (in_place start logs are))
      (down_turned (decisions start (in_order (by_views start logs)))
      (decisions_down start logs (in_order (by_views start logs)) some (are_moments start logs are)))

  pub epochs_of_histories : EpochsOfHistoriesNeverFall
  epochs_of_histories start logs some are =
      ordered_filter _ (entries (hosts start) logs) (epochs_never_fall start logs some are)
