-- What is said of members is of how far their epochs are, and of the current view alone: where these stay, it does.
use Rattle.std.proofs.Common.{◌≡◌, ◌<◌, ◌≤◌, ℕ, List, sym, ◌∙◌, subst, inl, inr, arith}
use Rattle.run_theory.specs.Lists.{Each, IsIn}
use Rattle.run_theory.proofs.Pasts.{each_map}
use Rattle.sig_core.specs.declared.member.Member.{Member}
use Rattle.gcp_master.specs.declared.known.Known.{Known}
use Rattle.gcp_master.specs.declared.phase.Phase.{Phase}
use Rattle.gcp_master.specs.declared.phase.Phase.TheVariants.{Unordered, Gathering, Resting, Preparing, Committing}
use Rattle.gcp_master.specs.declared.phase.Phase.TheVariants.{Closing, Saving, Copying}
use Rattle.gcp_master.specs.declared.phase.Run.{Run}
use Rattle.gcp_master.specs.declared.voices.Voice.{Voice}
use Rattle.dih_node.specs.State.{DihState}
use Rattle.world_core.specs.Start.{Start}
use Rattle.world_core.specs.Steps.{HostStep}
use Rattle.epoch_laws.specs.Alike.{EachFull, IsAcross, Rests, Waits}
use Rattle.epoch_laws.specs.Masters.{EachHeard, HasPrepared, IsHad, IsKnown, IsRightIn, IsUnderWay, IsWithin}
use Rattle.epoch_laws.specs.Members.{epochs_of}
use Rattle.moment_laws.specs.Moments.{current}
use Rattle.epoch_laws.proofs.DihMoves.{Stays}

-- of one member
module _ (s now : DihState) (stays : Stays s now) where
  pub rests_stays : (epoch : ℕ) → Rests epoch s → Rests epoch now
  rests_stays epoch rests =
      record { gives = stays.current_is ∙ rests.gives; next_is = stays.next_is ∙ rests.next_is }

  pub waits_stays : (epoch next : ℕ) → Waits epoch next s → Waits epoch next now
  waits_stays epoch next waits =
      record { gives = stays.current_is ∙ waits.gives; prepared = λ below. prepared (was below) }
    where
      was : now.current < now.next → s.current < s.next
      was below = let same = stays.current_is in let same_next = stays.next_is in omega (arith, below, same, same_next)

      prepared : s.current < s.next → (now.prepared ≡ epoch) × (now.next ≡ next)
      prepared below =
          (stays.prepared_is ∙ (waits.prepared below).0, stays.next_is ∙ (waits.prepared below).1)

  pub across_stays : (epoch next : ℕ) → IsAcross epoch next s → IsAcross epoch next now
  across_stays epoch next (inl ready) =
      inl (record {
        gives = stays.current_is ∙ ready.gives;
        prepared_is = stays.prepared_is ∙ ready.prepared_is;
        next_is = stays.next_is ∙ ready.next_is;
      })
  across_stays epoch next (inr gone) =
      inr (record {
        gives = stays.current_is ∙ gone.gives;
        next_is = stays.next_is ∙ gone.next_is;
        prepared = subst (λ n. n ≤ epoch) (sym stays.prepared_is) gone.prepared;
      })

  pub prepared_stays : (epoch : ℕ) → HasPrepared epoch s → HasPrepared epoch now
  prepared_stays epoch (inl beyond) = inl (subst (λ n. epoch < n) (sym stays.current_is) beyond)
  prepared_stays epoch (inr (gives, prepared, below)) =
      inr (
        stays.current_is ∙ gives,
        stays.prepared_is ∙ prepared,
        subst (λ n. epoch < n) (sym stays.next_is) below,
      )

  pub beyond_stays : (epoch : ℕ) → epoch < s.current → epoch < now.current
  beyond_stays epoch beyond = subst (λ n. epoch < n) (sym stays.current_is) beyond

module _ (start : Start) (logs now : ℕ → List HostStep)
    (stays : (member : Member) → Stays (epochs_of start logs member) (epochs_of start now member))
    (full : (current start logs).full ≡ (current start now).full) where
  full_stays : (P : DihState → Type 0) → ((s later : DihState) → Stays s later → P s → P later)
      → EachFull start logs P → EachFull start now P
  full_stays P keep each =
      subst (Each (λ member. P (epochs_of start now member))) full
      (each_map _ _ (current start logs).full (λ member p. keep _ _ (stays member) p) each)

  heard_stays : (P : DihState → Type 0) → ((s later : DihState) → Stays s later → P s → P later)
      → (voices : List Voice) → EachHeard start logs P voices → EachHeard start now P voices
  heard_stays P keep voices each = each_map _ _ voices (λ voice p. keep _ _ (stays voice.member) p) each

  within_stays : (known : Known) (s later : DihState) → Stays s later → IsWithin start logs known s
      → IsWithin start now known later
  within_stays known s later same w =
      record {
        least = subst (λ n. known.least ≤ n) (sym same.current_is) w.least;
        greatest = subst (λ n. n ≤ known.greatest) (sym same.current_is) w.greatest;
        epoch = subst (λ n. n ≤ known.epoch) (sym same.prepared_is) w.epoch;
        next = subst (λ n. n ≤ known.next) (sym same.next_is) w.next;
      }

  had_stays : (part : DihState → ℕ) → ((s later : DihState) → Stays s later → part later ≡ part s) → (value : ℕ)
      → IsHad start logs part value → IsHad start now part value
  had_stays part keep value (inl none) = inl none
  had_stays part keep value (inr (member, (inside, has))) =
      inr (member, (subst (IsIn member) full inside, keep _ _ (stays member) ∙ has))

  known_stays : (voices : List Voice) (known : Known) → IsKnown start logs voices known
      → IsKnown start now voices known
  known_stays voices known is =
      record {
        within =
            each_map _ _ voices
            (λ voice fits inside from.
            within_stays known _ _ (stays voice.member) (fits (subst (IsIn voice.member) (sym full) inside) from))
            is.within;
        greatest = had_stays (λ s. s.current) (λ s later same. same.current_is) known.greatest is.greatest;
        epoch = had_stays (λ s. s.prepared) (λ s later same. same.prepared_is) known.epoch is.epoch;
        next = had_stays (λ s. s.next) (λ s later same. same.next_is) known.next is.next;
      }

  late_stays : (run : Run) → IsUnderWay start logs run (Rests run.next) → IsUnderWay start now run (Rests run.next)
  late_stays run under =
      record {
        rises = under.rises;
        each = full_stays (Rests run.next) (λ s later same. rests_stays s later same run.next) under.each;
      }

  -- what the master of the current view says stays right
  pub right_stays : (voices : List Voice) (phase : Phase) → IsRightIn start logs voices phase
      → IsRightIn start now voices phase
  right_stays voices Unordered right = tt
  right_stays voices (Gathering known) right =
      (known_stays voices known right.0, (each_map _ _ voices (λ voice of. of) right.1.0, right.1.1))
  right_stays voices (Resting epoch) right =
      full_stays (Rests epoch) (λ s later same. rests_stays s later same epoch) right
  right_stays voices (Preparing run) right = (
    record {
      rises = right.0.rises;
      each =
          full_stays (Waits run.epoch run.next) (λ s later same. waits_stays s later same run.epoch run.next)
          right.0.each;
    },
    heard_stays (HasPrepared run.epoch) (λ s later same. prepared_stays s later same run.epoch) voices right.1,
  )
  right_stays voices (Committing run) right = (
    record {
      rises = right.0.rises;
      each =
          full_stays (IsAcross run.epoch run.next) (λ s later same. across_stays s later same run.epoch run.next)
          right.0.each;
    },
    heard_stays (λ s. run.epoch < s.current) (λ s later same. beyond_stays s later same run.epoch) voices right.1,
  )
  right_stays voices (Closing run) right = late_stays run right
  right_stays voices (Saving run) right = late_stays run right
  right_stays voices (Copying run) right = late_stays run right
