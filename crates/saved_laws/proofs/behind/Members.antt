-- Behind an event what the rows of each member have saved is durable, or each full member has gone on behind it. Rows
-- that save find each full member so. An order that a full member carries out is of a run before whose epoch all that
-- was saved is durable; and who goes on from an epoch had gone on behind all before it.
use Rattle.std.proofs.Common.{◌<◌, ◌∷◌, ◌≡◌, ◌≤◌, ◌⊎◌, List, arith, inl, inr, subst, sym, true, ℕ}
use Rattle.std.proofs.lemmas.Bool.{eqb-true}
use Rattle.std.specs.Prelude.{◌%◌, ◌/◌}
use Rattle.run_theory.proofs.Pasts.{each_from, each_in}
use Rattle.run_theory.specs.Lists.{IsIn}
use Rattle.sig_core.specs.declared.member.Member.{Member}
use Rattle.dih_node.specs.State.{DihState}
use Rattle.gcp_master.specs.Numbers.{is_first}
use Rattle.gcp_master.specs.Voices.{is_in}
use Rattle.gcp_master.specs.declared.numbers.TheConstants.{MICROS}
use Rattle.gcp_master.specs.declared.phase.Phase.{Phase}
use Rattle.gcp_master.specs.declared.phase.Phase.TheVariants.{Committing, Preparing, Saving}
use Rattle.world_core.specs.Start.{Start, made}
use Rattle.world_core.specs.Steps.{HostStep}
use Rattle.moment_laws.proofs.MomentHosts.{ldm_number, tc_number}
use Rattle.moment_laws.proofs.MomentMembers.{current_made}
use Rattle.moment_laws.proofs.MomentViews.{moment_less}
use Rattle.moment_laws.specs.Moments.{IsMoment, current, logs_of}
use Rattle.epoch_laws.proofs.DihMoves.{IsAt, Stays, rests}
use Rattle.epoch_laws.proofs.MomentEvents.{EpochsDo, epochs_do, leave, take}
use Rattle.epoch_laws.proofs.StandMarks.{full_before}
use Rattle.epoch_laws.proofs.StandTakes.{Carries, carries, commits, others_same, prepares, stay}
use Rattle.epoch_laws.specs.Alike.{EachFull, Rests}
use Rattle.epoch_laws.specs.Masters.{Commits, IsRightIn, Prepares}
use Rattle.epoch_laws.specs.Members.{epochs_of, master_of}
use Rattle.epoch_laws.specs.Stand.{AllStand}
use Rattle.epoch_laws.specs.Told.{IsOrdered}
use Rattle.closing_laws.proofs.closers.Hear.{is_or}
use Rattle.saved_laws.proofs.behind.Saves.{IsRunOf, SavesNow, run_of, saves_do}
use Rattle.saved_laws.proofs.behind.Statement.{AllBehind, AreDurableBefore, AreSettled, IsBehind, IsFollowed}
use Rattle.saved_laws.proofs.behind.Statement.{IsSettled, durable_stays, saved_at}
use Rattle.saved_laws.specs.Behind.{IsDurable}

-- the first epoch of a checkpoint number lies behind all before it
pub first_behind : (epoch next : ℕ) → epoch < next → is_first next ≡ true → epoch / MICROS < next / MICROS
first_behind epoch next rises first =
    let none : next % MICROS ≡ 0 = eqb-true (next % MICROS) 0 first in
    omega (arith, rises, none)

not_behind : (current saved : ℕ) → current ≤ saved → saved / MICROS < current / MICROS → ⊥
not_behind current saved above behind = absurd (omega (arith, above, behind))

-- what stays so where epochs stay, or prepare for the next one
followed_stays : (saved : ℕ) (s now : DihState) → Stays s now → IsFollowed saved s → IsFollowed saved now
followed_stays saved s now same is = record {
  behind = subst (λ n. saved / MICROS < n / MICROS) (sym same.current_is) is.behind;
  first = subst (λ n. is_first n ≡ true) (sym same.current_is) is.first;
  last = subst (λ n. n ≤ saved) (sym same.prepared_is) is.last;
}

followed_prepares : (saved epoch next : ℕ) (s now : DihState) → IsAt s.current epoch next now → epoch ≤ saved
    → IsFollowed saved s → IsFollowed saved now
followed_prepares saved epoch next s now at low is = record {
  behind = subst (λ n. saved / MICROS < n / MICROS) (sym at.current_is) is.behind;
  first = subst (λ n. is_first n ≡ true) (sym at.current_is) is.first;
  last = subst (λ n. n ≤ saved) (sym at.prepared_is) low;
}

-- what has been saved before an epoch whose run is under way
module _ (start : Start) (logs : ℕ → List HostStep) where
  prepares_before : (epoch next : ℕ) (phase : Phase) → Prepares epoch next phase → IsBehind start logs phase
      → AreDurableBefore start logs epoch
  prepares_before epoch next (Preparing run) is behind = subst (AreDurableBefore start logs) is.0 behind
  prepares_before epoch next _ is behind = absurd is

  commits_before : (epoch next : ℕ) (phase : Phase) → Commits epoch next phase → IsBehind start logs phase
      → AreDurableBefore start logs epoch
  commits_before epoch next (Committing run) is behind = subst (AreDurableBefore start logs) is.0 behind
  commits_before epoch next _ is behind = absurd is

  -- the order isn't late for this full member
  module _ (m : Member) (inside : IsIn m (current start logs).full) (epoch next : ℕ) (rises : epoch < next)
      (late : (epochs_of start logs m).current ≤ epoch)
    where
      beyond_none : EachFull start logs (λ (s : DihState). next ≤ s.current) → ⊥
      beyond_none each =
          let far : next ≤ (epochs_of start logs m).current =
          each_in (λ (m : Member). next ≤ (epochs_of start logs m).current) m (current start logs).full each inside in
          absurd (omega (arith, far, rises, late))

      pub order_before : AllBehind start logs
          → IsOrdered start logs next (λ phase. Prepares epoch next phase ⊎ Commits epoch next phase)
          → AreDurableBefore start logs epoch
      order_before behind order = by order.far
        where
          phase : Phase
          phase = (master_of start logs order.president).phase

          here : IsBehind start logs (master_of start logs order.president).phase
          here = behind.president order.president order.is order.stands

          by : (Prepares epoch next (master_of start logs order.president).phase
              ⊎ Commits epoch next (master_of start logs order.president).phase)
              ⊎ EachFull start logs (λ (s : DihState). next ≤ s.current) → AreDurableBefore start logs epoch
          by (inl (inl is)) = prepares_before epoch next (master_of start logs order.president).phase is here
          by (inl (inr is)) = commits_before epoch next (master_of start logs order.president).phase is here
          by (inr beyond) = absurd (beyond_none beyond)

      pub commit_before : AllBehind start logs → IsOrdered start logs next (Commits epoch next)
          → AreDurableBefore start logs epoch
      commit_before behind order = by order.far
        where
          by : Commits epoch next (master_of start logs order.president).phase
              ⊎ EachFull start logs (λ (s : DihState). next ≤ s.current) → AreDurableBefore start logs epoch
          by (inl is) =
              commits_before epoch next (master_of start logs order.president).phase is
              (behind.president order.president order.is order.stands)
          by (inr beyond) = absurd (beyond_none beyond)

module _ (start : Start) (all : ℕ → List HostStep) (e : HostStep) (es : List HostStep)
    (moment : IsMoment start all (e ∷ es)) (stand : AllStand start (logs_of start es))
    (behind : AllBehind start (logs_of start es))
  where
    abbrev old : ℕ → List HostStep
    old = logs_of start es

    abbrev new : ℕ → List HostStep
    new = logs_of start (e ∷ es)

    -- of one member's rows and one full member
    module _ (member : Member) (there : IsIn member (made start)) (full : Member)
        (inside : IsIn full (current start old).full)
      where
        abbrev before : ℕ
        before = saved_at start old member

        abbrev now : ℕ
        now = saved_at start new member

        abbrev s : DihState
        s = epochs_of start old full

        abbrev t : DihState
        t = epochs_of start new full

        was : IsSettled start old member s
        was = each_in (λ (m : Member). IsSettled start old member (epochs_of start old m)) full
            (current start old).full (behind.settled member there) inside

        -- rows that keep what they have
        module _ (same : now ≡ before) where
          durable : IsDurable start old before → IsSettled start new member t
          durable is = inl (subst (IsDurable start new) (sym same) (durable_stays start all e es moment before is))

          followed : IsFollowed before t → IsSettled start new member t
          followed is = inr (subst (λ n. IsFollowed n t) (sym same) is)

          stayed : Stays s t → IsSettled start new member t
          stayed stays = by was
            where
              by : IsSettled start old member s → IsSettled start new member t
              by (inl is) = durable is
              by (inr is) = followed (followed_stays before s t stays is)

          prepared : (epoch next : ℕ) → IsAt s.current epoch next t → AreDurableBefore start old epoch
              → IsSettled start new member t
          prepared epoch next at earlier = by was (earlier member there)
            where
              by : IsSettled start old member s → IsDurable start old before ⊎ (epoch ≤ before)
                  → IsSettled start new member t
              by (inl is) low = durable is
              by (inr is) (inl early) = durable early
              by (inr is) (inr low) = followed (followed_prepares before epoch next s t at low is)

          committed : (epoch : ℕ) → s.current ≤ epoch → AreDurableBefore start old epoch
              → IsSettled start new member t
          committed epoch late earlier = by was (earlier member there)
            where
              by : IsSettled start old member s → IsDurable start old before ⊎ (epoch ≤ before)
                  → IsSettled start new member t
              by (inl is) low = durable is
              by (inr is) (inl early) = durable early
              by (inr is) (inr low) =
                  absurd (not_behind s.current before (omega (arith, low, late)) is.behind)

          kept : Carries start all e es moment stand → IsSettled start new member t
          kept (stay stays) = stayed (stays full)
          kept (prepares m at is_in view epoch next rises order late goes) = by (is_or full m)
            where
              by : (full ≡ m) ⊎ (full ≡ m → ⊥) → IsSettled start new member t
              by (inr apart) =
                  stayed (subst (Stays s) (others_same start all e es moment stand m at full apart) (rests s))
              by (inl is) =
                  prepared epoch next
                  (subst (λ (k : Member). IsAt (epochs_of start old k).current epoch next (epochs_of start new k))
                  (sym is) goes)
                  (order_before start old m is_in epoch next rises late behind order)
          kept (commits m at is_in view epoch next rises order late goes) = by (is_or full m)
            where
              by : (full ≡ m) ⊎ (full ≡ m → ⊥) → IsSettled start new member t
              by (inr apart) =
                  stayed (subst (Stays s) (others_same start all e es moment stand m at full apart) (rests s))
              by (inl is) =
                  committed epoch
                  (subst (λ (k : Member). (epochs_of start old k).current ≤ epoch) (sym is) late)
                  (commit_before start old m is_in epoch next rises late behind order)

        -- rows that save: all rest in the epoch that follows
        module _ (saves : SavesNow start all e es moment behind member there) where
          president : Member
          president = saves.saving.president

          run : IsRunOf now (master_of start old saves.saving.president).phase
          run = run_of now (master_of start old saves.saving.president).phase saves.saving.saves

          right : IsRightIn start old (master_of start old saves.saving.president).voices (Saving run.run)
          right =
              subst (IsRightIn start old (master_of start old saves.saving.president).voices) run.is
              (stand.president saves.saving.president saves.saving.is saves.saving.stands)

          phase : IsBehind start old (Saving run.run)
          phase =
              subst (IsBehind start old) run.is
              (behind.president saves.saving.president saves.saving.is saves.saving.stands)

          unmoved : Stays s t
          unmoved = by (epochs_do start all e es moment full)
            where
              made_full : IsIn full (made start)
              made_full = current_made start all es (moment_less start all e es moment) full inside

              by : EpochsDo start all e es moment full → Stays s t
              by (leave stays sound) = stays
              by (take at taken moves sound) =
                  let one = ldm_number start moment.cluster.nobody member there in
                  let other = tc_number start moment.cluster.nobody full made_full in
                  let here = saves.at in
                  absurd (omega (arith, at, here, one, other))

          follows : IsFollowed now s
          follows =
              let rests : Rests run.run.next s =
              each_in (λ (m : Member). Rests run.run.next (epochs_of start old m)) full (current start old).full
              right.each inside in
              let last : s.prepared ≤ run.run.epoch =
              each_in (λ (m : Member). (epochs_of start old m).prepared ≤ run.run.epoch) full
              (current start old).full phase.1.0 inside in
              let is = run.epoch_is in
              let rises = right.rises in
              record {
                behind =
                    subst (λ n. now / MICROS < n / MICROS) (sym rests.gives)
                    (first_behind now run.run.next (omega (arith, is, rises)) phase.1.1);
                first = subst (λ n. is_first n ≡ true) (sym rests.gives) phase.1.1;
                last = omega (arith, last, is);
              }

          gone : IsSettled start new member t
          gone = inr (followed_stays now s t unmoved follows)

        settled_now : IsSettled start new member t
        settled_now = by (saves_do start all e es moment behind member there)
          where
            by : (now ≡ before) ⊎ SavesNow start all e es moment behind member there → IsSettled start new member t
            by (inl same) = kept same (carries start all e es moment stand)
            by (inr saves) = gone saves

    pub settled_next : AreSettled start new
    settled_next member there =
        each_from (λ (m : Member). IsSettled start new member (epochs_of start new m)) (current start new).full
        (λ full inside.
        settled_now member there full (full_before start all e es moment stand full inside))
