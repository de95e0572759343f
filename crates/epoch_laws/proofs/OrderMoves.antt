-- How far the members are, and what is said of them, where one of them carries out an order of the current view.
use Rattle.std.proofs.Common.{◌≡◌, ◌<◌, ◌≤◌, ℕ, Bool, true, false, List, refl, sym, ◌∙◌, subst, inl, inr, arith}
use Rattle.std.proofs.lemmas.Bool.{false≢true}
use Rattle.run_theory.specs.Lists.{Each}
use Rattle.run_theory.proofs.Pasts.{each_map}
use Rattle.sig_core.specs.declared.member.Member.{Member}
use Rattle.gcp_master.specs.declared.voices.Voice.{Voice}
use Rattle.gcp_master.specs.Voices.{same_member}
use Rattle.dih_node.specs.State.{DihState}
use Rattle.world_core.specs.Start.{Start}
use Rattle.world_core.specs.Steps.{HostStep}
use Rattle.epoch_laws.specs.Alike.{AreUpTo, EachFull, GivesUpTo, IsAcross, Waits}
use Rattle.epoch_laws.specs.Masters.{EachHeard, HasPrepared}
use Rattle.epoch_laws.specs.Members.{epochs_of}
use Rattle.moment_laws.specs.Moments.{current}
use Rattle.epoch_laws.proofs.DihMoves.{IsAt}
use Rattle.epoch_laws.proofs.MasterHears.{same_member-is, same_member-self}

-- One member carries out an order to prepare, or to commit.
module _ (epoch next : ℕ) (rises : epoch < next) (s now : DihState) where
  pub waits_prepare : IsAt s.current epoch next now → Waits epoch next s → Waits epoch next now
  waits_prepare at waits =
      record { gives = at.current_is ∙ waits.gives; prepared = λ below. (at.prepared_is, at.next_is) }

  pub across_prepare : IsAt s.current epoch next now → s.current ≤ epoch → IsAcross epoch next s
      → IsAcross epoch next now
  across_prepare at late (inl ready) =
      inl (record { gives = at.current_is ∙ ready.gives; prepared_is = at.prepared_is; next_is = at.next_is })
  across_prepare at late (inr gone) = let gives = gone.gives in absurd (omega (arith, gives, late, rises))

  pub prepared_prepare : IsAt s.current epoch next now → s.current ≡ epoch → (e : ℕ) → HasPrepared e s
      → HasPrepared e now
  prepared_prepare at own e (inl beyond) = inl (subst (λ n. e < n) (sym at.current_is) beyond)
  prepared_prepare at own e (inr (gives, prepared, below)) =
      let same : epoch ≡ e = sym own ∙ gives in
      inr (
        at.current_is ∙ gives,
        at.prepared_is ∙ same,
        subst (λ n. e < n) (sym at.next_is) (subst (λ n. n < next) same rises),
      )

  pub beyond_prepare : IsAt s.current epoch next now → (e : ℕ) → e < s.current → e < now.current
  beyond_prepare at e beyond = subst (λ n. e < n) (sym at.current_is) beyond

  pub across_commit : IsAt next epoch next now → IsAcross epoch next now
  across_commit at =
      let prepared = at.prepared_is in
      inr (record { gives = at.current_is; next_is = at.next_is; prepared = omega (arith, prepared) })

  pub beyond_commit : IsAt next epoch next now → s.current ≡ epoch → (e : ℕ) → e < s.current → e < now.current
  beyond_commit at own e beyond = let gives = at.current_is in omega (arith, gives, own, beyond, rises)

  pub prepared_commit : IsAt next epoch next now → s.current ≡ epoch → (e : ℕ) → HasPrepared e s
      → HasPrepared e now
  prepared_commit at own e (inl beyond) = inl (beyond_commit at own e beyond)
  prepared_commit at own e (inr (gives, prepared, below)) =
      let now_gives = at.current_is in inl (omega (arith, now_gives, own, gives, rises))

  -- who hasn't gone on gives the epoch of the order
  pub across_own : s.current ≤ epoch → IsAcross epoch next s → s.current ≡ epoch
  across_own late (inl ready) = ready.gives
  across_own late (inr gone) = let gives = gone.gives in absurd (omega (arith, gives, late, rises))

-- All members, where one of them moves.
module _ (start : Start) (logs now : ℕ → List HostStep) (m : Member)
    (others : (other : Member) → (other ≡ m → ⊥) → epochs_of start logs other ≡ epochs_of start now other)
    (full : (current start logs).full ≡ (current start now).full) where
  abbrev pub before : DihState
  before = epochs_of start logs m

  abbrev pub after : DihState
  after = epochs_of start now m

  -- what is so of this one is so of each
  pub each_moves : (P : DihState → Type 0) → (P before → P after) → (other : Member)
      → P (epochs_of start logs other) → P (epochs_of start now other)
  each_moves P step other p = by (same_member other m) refl
    where
      by : (b : Bool) → same_member other m ≡ b → P (epochs_of start now other)
      by true e =
          let same = same_member-is other m e in
          subst (λ k. P (epochs_of start now k)) (sym same) (step (subst (λ k. P (epochs_of start logs k)) same p))
      by false e =
          subst P (others other (λ same. false≢true (sym e ∙ same_member-self other m same))) p

  pub full_moves : (P : DihState → Type 0) → (P before → P after) → EachFull start logs P → EachFull start now P
  full_moves P step each =
      subst (Each (λ member. P (epochs_of start now member))) full
      (each_map _ _ (current start logs).full (each_moves P step) each)

  pub heard_moves : (P : DihState → Type 0) → (P before → P after) → (voices : List Voice)
      → EachHeard start logs P voices → EachHeard start now P voices
  heard_moves P step voices each = each_map _ _ voices (λ voice. each_moves P step voice.member) each

  -- nobody is beyond this now, if nobody was, and this member isn't
  pub up_to_moves : (epoch : ℕ) → after.current ≤ epoch
      → ((h : ℕ) → Each (λ e. Each (GivesUpTo epoch) e.step.marks) (now h)) → AreUpTo start logs epoch
      → AreUpTo start now epoch
  up_to_moves epoch low given up =
      record {
        gives = λ member inside. each_moves (λ s. s.current ≤ epoch) (λ p. low) member (up.gives member inside);
        given = given;
      }
