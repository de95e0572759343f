-- All that is said of the members of the current view stays so, where one of them carries out an order of its
-- president.
use Rattle.std.proofs.Common.{◌≡◌, ◌<◌, ◌≤◌, ◌⊎◌, ℕ, List, sym, ◌∙◌, subst, inl, inr, arith}
use Rattle.run_theory.specs.Lists.{Each, IsIn}
use Rattle.run_theory.proofs.Pasts.{each_in, each_map}
use Rattle.sig_core.specs.declared.mark.Mark.{Mark}
use Rattle.sig_core.specs.declared.mark.Mark.TheVariants.{Decided}
use Rattle.sig_core.specs.declared.member.Member.{Member}
use Rattle.gcp_master.specs.declared.phase.Phase.{Phase}
use Rattle.gcp_master.specs.declared.phase.Phase.TheVariants.{Preparing, Committing}
use Rattle.gcp_master.specs.declared.voices.Voice.{Voice}
use Rattle.dih_node.specs.State.{DihState}
use Rattle.world_core.specs.Start.{Start}
use Rattle.world_core.specs.Steps.{HostStep}
use Rattle.epoch_laws.specs.Alike.{AreAlike, AreTogether, AreUpTo, EachFull, GivesUpTo, IsAcross, Waits}
use Rattle.epoch_laws.specs.Masters.{Commits, HasPrepared, IsRightIn, Prepares}
use Rattle.epoch_laws.specs.Members.{epochs_of}
use Rattle.moment_laws.specs.Moments.{current}
use Rattle.epoch_laws.proofs.DihMoves.{IsAt}
use Rattle.epoch_laws.proofs.OrderMoves.{across_commit, across_own, across_prepare, beyond_commit, beyond_prepare}
use Rattle.epoch_laws.proofs.OrderMoves.{full_moves, heard_moves, prepared_prepare, up_to_moves, waits_prepare}

-- a mark of no later epoch than one is of none later than a greater one
gives_wider : (low high : ℕ) → low ≤ high → (mark : Mark) → GivesUpTo low mark → GivesUpTo high mark
gives_wider low high wider (Decided tx given) up = omega (arith, up, wider)
gives_wider low high wider _ up = tt

module _ (start : Start) (logs : ℕ → List HostStep) where
  -- that no decision in these logs gives a later epoch
  abbrev pub AreGivenTo : ℕ → Type 0
  AreGivenTo epoch = (h : ℕ) → Each (λ e. Each (GivesUpTo epoch) e.step.marks) (logs h)

  up_to_wider : (low high : ℕ) → low ≤ high → AreUpTo start logs low → AreUpTo start logs high
  up_to_wider low high wider up =
      record {
        gives = λ member inside. let less = up.gives member inside in omega (arith, less, wider);
        given = λ h. each_map _ _ (logs h) (λ e marks. each_map _ _ e.step.marks (gives_wider low high wider) marks)
            (up.given h);
      }

-- what stays so
pub record IsKept (start : Start) (now : ℕ → List HostStep) (voices : List Voice) (phase : Phase) : Type 0 where
  pub right : IsRightIn start now voices phase
  pub alike : AreAlike start now

module _ (start : Start) (logs now : ℕ → List HostStep) (m : Member)
    (others : (other : Member) → (other ≡ m → ⊥) → epochs_of start logs other ≡ epochs_of start now other)
    (full : (current start logs).full ≡ (current start now).full)
    (inside : IsIn m (current start logs).full)
    (marks : (epoch : ℕ) → (epochs_of start logs m).current ≤ epoch → AreGivenTo start logs epoch
    → AreGivenTo start now epoch)
    (alike : AreAlike start logs) where
  abbrev before : DihState
  before = epochs_of start logs m

  abbrev after : DihState
  after = epochs_of start now m

  -- nobody is beyond an epoch now, where nobody was, and this member isn't
  up_to : (epoch : ℕ) → before.current ≤ epoch → after.current ≤ epoch → AreUpTo start logs epoch
      → AreUpTo start now epoch
  up_to epoch low low_now up =
      up_to_moves start logs now m others full epoch low_now (marks epoch low up.given) up

  module _ (epoch next : ℕ) (rises : epoch < next) (late : before.current ≤ epoch) where
    -- it prepares while the members prepare
    prepare_alike : EachFull start logs (Waits epoch next) → IsAt before.current epoch next after
        → AreAlike start now
    prepare_alike each at =
        record { epoch = epoch; next = next; rises = rises; together = by alike.together }
      where
        waits : Waits epoch next before
        waits = each_in _ m _ each inside

        still : after.current ≤ epoch
        still = let same = at.current_is in let gives = waits.gives in omega (arith, same, gives)

        waiting : EachFull start now (Waits epoch next)
        waiting =
            full_moves start logs now m others full (Waits epoch next)
            (waits_prepare epoch next rises before after at) each

        over : (e : ℕ) → before.current ≡ e → AreUpTo start logs e → AreTogether start now epoch next
        over e own up =
            let same : e ≡ epoch = sym own ∙ waits.gives in
            inl (waiting, up_to epoch late still (subst (AreUpTo start logs) same up))

        ready : (e n : ℕ) → e < n → EachFull start logs (IsAcross e n) → AreUpTo start logs n → IsAcross e n before
            → AreTogether start now epoch next
        ready e n less across up (inr gone) = over n gone.gives up
        ready e n less across up (inl is) =
            let gives = is.gives in
            let follows = is.next_is in
            let same : e ≡ epoch = sym gives ∙ waits.gives in
            let same_next : n ≡ next = sym follows ∙ (waits.prepared (omega (arith, gives, follows, less))).1 in
            let here : EachFull start logs (IsAcross epoch next) =
            subst (λ k. EachFull start logs (IsAcross epoch k)) same_next
            (subst (λ k. EachFull start logs (IsAcross k n)) same across) in
            inr (
              full_moves start logs now m others full (IsAcross epoch next)
                  (across_prepare epoch next rises before after at late) here,
              up_to next (omega (arith, late, rises)) (omega (arith, still, rises))
                  (subst (AreUpTo start logs) same_next up),
            )

        by : AreTogether start logs alike.epoch alike.next → AreTogether start now epoch next
        by (inl (each_waits, up)) =
            let own : Waits alike.epoch alike.next before = each_in _ m _ each_waits inside in
            over alike.epoch own.gives up
        by (inr (across, up)) =
            ready alike.epoch alike.next alike.rises across up (each_in _ m _ across inside)

    -- it prepares or commits while the members commit
    commit_alike : EachFull start logs (IsAcross epoch next)
        → (IsAcross epoch next before → IsAcross epoch next after) → after.current ≤ next → AreAlike start now
    commit_alike each step low =
        record {
          epoch =
              epoch;
          next = next;
          rises = rises;
          together = inr (across, up_to next below low (by alike.together));
        }
      where
        own : IsAcross epoch next before
        own = each_in _ m _ each inside

        gives : before.current ≡ epoch
        gives = across_own epoch next rises before after late own

        below : before.current ≤ next
        below = omega (arith, late, rises)

        across : EachFull start now (IsAcross epoch next)
        across = full_moves start logs now m others full (IsAcross epoch next) step each

        next_of : (e n : ℕ) → IsAcross e n before → before.next ≡ n
        next_of e n (inl ready) = ready.next_is
        next_of e n (inr gone) = gone.next_is

        by : AreTogether start logs alike.epoch alike.next → AreUpTo start logs next
        by (inl (each_waits, up)) =
            let waits : Waits alike.epoch alike.next before = each_in _ m _ each_waits inside in
            let there = waits.gives in
            up_to_wider start logs alike.epoch next (omega (arith, there, gives, rises)) up
        by (inr (each_across, up)) =
            let there = next_of alike.epoch alike.next (each_in _ m _ each_across inside) in
            let here = next_of epoch next own in
            subst (AreUpTo start logs) (sym there ∙ here) up

    -- an order to prepare, carried out while the members prepare, or late, while they commit
    prepare_preparing : (voices : List Voice) (phase : Phase) → IsRightIn start logs voices phase
        → Prepares epoch next phase → IsAt before.current epoch next after → IsKept start now voices phase
    prepare_preparing voices (Preparing run) right (same, same_next) at =
        let at_run : IsAt before.current run.epoch run.next after =
        record {
          current_is = at.current_is;
          prepared_is = at.prepared_is ∙ sym same;
          next_is = at.next_is ∙ sym same_next;
        } in
        let waits : Waits run.epoch run.next before = each_in _ m _ right.0.each inside in
        record {
          right = (
            record {
              rises = right.0.rises;
              each =
                  full_moves start logs now m others full (Waits run.epoch run.next)
                  (waits_prepare run.epoch run.next right.0.rises before after at_run) right.0.each;
            },
            heard_moves start logs now m others full (HasPrepared run.epoch)
                (prepared_prepare run.epoch run.next right.0.rises before after at_run waits.gives run.epoch) voices
                right.1,
          );
          alike =
              prepare_alike
              (subst (λ k. EachFull start logs (Waits epoch k)) same_next
              (subst (λ k. EachFull start logs (Waits k run.next)) same right.0.each))
              at;
        }
    prepare_preparing voices _ right is at = absurd is

    prepare_committing : (voices : List Voice) (phase : Phase) → IsRightIn start logs voices phase
        → Commits epoch next phase → IsAt before.current epoch next after → IsKept start now voices phase
    prepare_committing voices (Committing run) right (same, same_next) at =
        let at_run : IsAt before.current run.epoch run.next after =
        record {
          current_is = at.current_is;
          prepared_is = at.prepared_is ∙ sym same;
          next_is = at.next_is ∙ sym same_next;
        } in
        let late_run : before.current ≤ run.epoch = subst (λ k. before.current ≤ k) (sym same) late in
        let still = at.current_is in
        record {
          right = (
            record {
              rises = right.0.rises;
              each =
                  full_moves start logs now m others full (IsAcross run.epoch run.next)
                  (across_prepare run.epoch run.next right.0.rises before after at_run late_run) right.0.each;
            },
            heard_moves start logs now m others full (λ s. run.epoch < s.current)
                (beyond_prepare run.epoch run.next right.0.rises before after at_run run.epoch) voices right.1,
          );
          alike =
              commit_alike
              (subst (λ k. EachFull start logs (IsAcross epoch k)) same_next
              (subst (λ k. EachFull start logs (IsAcross k run.next)) same right.0.each))
              (across_prepare epoch next rises before after at late) (omega (arith, still, late, rises));
        }
    prepare_committing voices _ right is at = absurd is

    -- an order to commit
    commit_committing : (voices : List Voice) (phase : Phase) → IsRightIn start logs voices phase
        → Commits epoch next phase → IsAt next epoch next after → IsKept start now voices phase
    commit_committing voices (Committing run) right (same, same_next) at =
        let at_run : IsAt run.next run.epoch run.next after =
        record {
          current_is = at.current_is ∙ sym same_next;
          prepared_is = at.prepared_is ∙ sym same;
          next_is = at.next_is ∙ sym same_next;
        } in
        let late_run : before.current ≤ run.epoch = subst (λ k. before.current ≤ k) (sym same) late in
        let across : IsAcross run.epoch run.next before = each_in _ m _ right.0.each inside in
        let own = across_own run.epoch run.next right.0.rises before after late_run across in
        let gone = at.current_is in
        record {
          right = (
            record {
              rises = right.0.rises;
              each =
                  full_moves start logs now m others full (IsAcross run.epoch run.next)
                  (λ is. across_commit run.epoch run.next right.0.rises before after at_run) right.0.each;
            },
            heard_moves start logs now m others full (λ s. run.epoch < s.current)
                (beyond_commit run.epoch run.next right.0.rises before after at_run own run.epoch) voices right.1,
          );
          alike =
              commit_alike
              (subst (λ k. EachFull start logs (IsAcross epoch k)) same_next
              (subst (λ k. EachFull start logs (IsAcross k run.next)) same right.0.each))
              (λ is. across_commit epoch next rises before after at) (omega (arith, gone));
        }
    commit_committing voices _ right is at = absurd is

    -- it isn't beyond the order
    not_beyond : EachFull start logs (λ s. next ≤ s.current) → ⊥
    not_beyond each = let beyond = each_in _ m _ each inside in omega (arith, beyond, late, rises)

    pub prepare_keeps : (voices : List Voice) (phase : Phase) → IsRightIn start logs voices phase
        → (Prepares epoch next phase ⊎ Commits epoch next phase) ⊎ EachFull start logs (λ s. next ≤ s.current)
        → IsAt before.current epoch next after → IsKept start now voices phase
    prepare_keeps voices phase right (inl (inl prepares)) at = prepare_preparing voices phase right prepares at
    prepare_keeps voices phase right (inl (inr commits)) at = prepare_committing voices phase right commits at
    prepare_keeps voices phase right (inr beyond) at = absurd (not_beyond beyond)

    pub commit_keeps : (voices : List Voice) (phase : Phase) → IsRightIn start logs voices phase
        → Commits epoch next phase ⊎ EachFull start logs (λ s. next ≤ s.current) → IsAt next epoch next after
        → IsKept start now voices phase
    commit_keeps voices phase right (inl commits) at = commit_committing voices phase right commits at
    commit_keeps voices phase right (inr beyond) at = absurd (not_beyond beyond)
