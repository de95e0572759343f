-- What a master knows of its members, signal by signal.
use Rattle.std.proofs.Common.{◌≡◌, ◌≤◌, ℕ, Bool, true, false, ◌==◌, nat_lt, List, [], ◌∷◌, refl, sym, ◌∙◌, subst, inl}
use Rattle.std.proofs.Common.{inr, arith}
use Rattle.std.proofs.lemmas.Bool.{eqb-true, eqb-false}
use Rattle.std.proofs.lemmas.Bool.Decides.{nat_tests}
use Rattle.std.specs.Prelude.{if◌then◌else◌}
use Rattle.run_theory.specs.Lists.{IsIn}
use Rattle.run_theory.proofs.Pasts.{each_append, each_map}
use Rattle.sig_core.specs.declared.signal.Signal.{Signal}
use Rattle.gcp_master.specs.declared.known.Known.{Known}
use Rattle.gcp_master.specs.declared.known.Told.{Told}
use Rattle.gcp_master.specs.declared.voices.Voice.{Voice}
use Rattle.gcp_master.specs.Known.{greater, learned, learned_of_epochs, learned_of_rows, lesser, nothing_known}
use Rattle.gcp_master.specs.Resume.{learned_if}
use Rattle.gcp_master.specs.State.{MasterState}
use Rattle.gcp_master.specs.Voices.{is_among}
use Rattle.gcp_master.proofs.Outcomes.{voice_of}
use Rattle.dih_node.specs.State.{DihState}
use Rattle.world_core.specs.Start.{Start}
use Rattle.world_core.specs.Steps.{HostStep}
use Rattle.epoch_laws.specs.Alike.{IsSound}
use Rattle.epoch_laws.specs.Masters.{IsHad, IsKnown, IsWithin}
use Rattle.epoch_laws.specs.Members.{epochs_of}
use Rattle.moment_laws.specs.Places.{ldm_of, tc_of}
use Rattle.moment_laws.specs.Moments.{current}
use Rattle.epoch_laws.specs.Told.{IsAllSilent, IsAsTold, IsTrueState}
use Rattle.epoch_laws.proofs.MasterHears.{among_in, among_out}
use Rattle.epoch_laws.proofs.MasterMoves.{known_with, with_one}

-- the lesser and the greater of two are on their sides of both, and one of them
pub lesser_first : (one other : ℕ) → lesser one other ≤ one
lesser_first one other = by (nat_lt one other) refl
  where
    by : (b : Bool) → nat_lt one other ≡ b → (if b then one else other) ≤ one
    by true e = omega arith
    by false e = grind (arith, nat_tests)

-- the lesser of two is at most the second
pub lesser_second : (one other : ℕ) → lesser one other ≤ other
lesser_second one other = by (nat_lt one other) refl
  where
    by : (b : Bool) → nat_lt one other ≡ b → (if b then one else other) ≤ other
    by true e = grind (arith, nat_tests)
    by false e = omega arith

greater_first : (one other : ℕ) → one ≤ greater one other
greater_first one other = by (nat_lt one other) refl
  where
    by : (b : Bool) → nat_lt one other ≡ b → one ≤ (if b then other else one)
    by true e = grind (arith, nat_tests)
    by false e = omega arith

-- the second is at most the greater
pub greater_second : (one other : ℕ) → other ≤ greater one other
greater_second one other = by (nat_lt one other) refl
  where
    by : (b : Bool) → nat_lt one other ≡ b → other ≤ (if b then other else one)
    by true e = omega arith
    by false e = grind (arith, nat_tests)

-- what is so of both is so of the greater
pub greater_is : (P : ℕ → Type 0) (one other : ℕ) → P one → P other → P (greater one other)
greater_is P one other p q = by (nat_lt one other)
  where
    by : (b : Bool) → P (if b then other else one)
    by true = q
    by false = p

module _ (start : Start) (logs : ℕ → List HostStep) where
  -- nothing is known yet
  pub nothing_is_known : IsKnown start logs [] nothing_known
  nothing_is_known = record { within = tt; greatest = inl refl; epoch = inl refl; next = inl refl }

  -- what is known lies further apart, and so does what was within
  within_more : (known : Known) (told : Told) (s : DihState) → IsWithin start logs known s
      → IsWithin start logs (learned_of_epochs known told) s
  within_more known told s w =
      let least = lesser_first known.least told.current in
      let greatest = greater_first known.greatest told.current in
      let epoch = greater_first known.epoch told.prepared in
      let next = greater_first known.next told.next in
      let low = w.least in
      let high = w.greatest in
      let prepared = w.epoch in
      let follows = w.next in
      record {
        least = omega (arith, least, low);
        greatest = omega (arith, greatest, high);
        epoch = omega (arith, epoch, prepared);
        next = omega (arith, next, follows);
      }

  within_told : (known : Known) (told : Told) (s : DihState)
      → IsAsTold start logs told.current told.prepared told.next s
      → IsWithin start logs (learned_of_epochs known told) s
  within_told known told s same =
      let least = lesser_second known.least told.current in
      let greatest = greater_second known.greatest told.current in
      let epoch = greater_second known.epoch told.prepared in
      let next = greater_second known.next told.next in
      record {
        least = subst (λ n. lesser known.least told.current ≤ n) (sym same.current_is) least;
        greatest = subst (λ n. n ≤ greater known.greatest told.current) (sym same.current_is) greatest;
        epoch = subst (λ n. n ≤ greater known.epoch told.prepared) (sym same.prepared_is) epoch;
        next = subst (λ n. n ≤ greater known.next told.next) (sym same.next_is) next;
      }

  -- what is so of a confirmation, by what is known
  abbrev Fits : Known → Voice → Type 0
  Fits known voice =
      IsIn voice.member (current start logs).full → voice.from.0 ≡ tc_of start voice.member
      → IsWithin start logs known (epochs_of start logs voice.member)

  -- one confirmation more, that fits what was known before
  one_more : (voices : List Voice) (voice : Voice) (known : Known) → IsKnown start logs voices known
      → Fits known voice → IsKnown start logs (with_one voices voice) known
  one_more voices voice known is fits =
      record {
        within = each_append (Fits known) voices (voice ∷ []) is.within (fits, tt);
        greatest = is.greatest;
        epoch = is.epoch;
        next = is.next;
      }

  module _ (x : Signal) (known : Known) (told : Told) (voices : List Voice) (is : IsKnown start logs voices known)
      (true_state : IsTrueState start logs x told.current told.prepared told.next)
      (silent : IsAllSilent start logs) where
    abbrev voice : Voice
    voice = voice_of x

    -- a starting member tells nothing that counts
    known_of_starting : (IsIn x.member (current start logs).full → ⊥)
        → IsKnown start logs (with_one voices voice) known
    known_of_starting out = one_more voices voice known is (λ inside from. absurd (out inside))

    module _ (inside : IsIn x.member (current start logs).full)
        (sound : IsSound (epochs_of start logs x.member))
        (apart : tc_of start x.member ≡ ldm_of start x.member → ⊥) where
      -- rows tell of no epochs
      known_of_rows : told.current ≡ 0 → IsKnown start logs (with_one voices voice) (learned_of_rows known told)
      known_of_rows zero_now =
          let same : IsKnown start logs voices (learned_of_rows known told) =
          record {
            within =
                each_map (Fits known) (Fits (learned_of_rows known told)) voices
                (λ v fits inside from. widen v (fits inside from))
                is.within;
            greatest = is.greatest;
            epoch = is.epoch;
            next = is.next;
          } in
          one_more voices voice (learned_of_rows known told) same (λ inside from. absurd (by from true_state))
        where
          widen : (v : Voice) → IsWithin start logs known (epochs_of start logs v.member)
              → IsWithin start logs (learned_of_rows known told) (epochs_of start logs v.member)
          widen v w = record { least = w.least; greatest = w.greatest; epoch = w.epoch; next = w.next }

          by : x.from.0 ≡ tc_of start x.member → IsTrueState start logs x told.current told.prepared told.next → ⊥
          by from (inl epochs) =
              let some = sound.some in
              let now = (epochs.1 silent).current_is in
              omega (arith, some, now, zero_now)
          by from (inr rows) = apart (sym from ∙ rows.0)

      known_of_epochs : (told.current ≡ 0 → ⊥)
          → IsKnown start logs (with_one voices voice) (learned_of_epochs known told)
      known_of_epochs some = by true_state
        where
          had : (part : DihState → ℕ) (one other : ℕ) → IsHad start logs part one
              → part (epochs_of start logs x.member) ≡ other → IsHad start logs part (greater one other)
          had part one other before now =
              greater_is (IsHad start logs part) one other before (inr (x.member, (inside, now)))

          as_told : IsAsTold start logs told.current told.prepared told.next (epochs_of start logs x.member)
              → IsKnown start logs (with_one voices voice) (learned_of_epochs known told)
          as_told same =
              let wide : IsKnown start logs voices (learned_of_epochs known told) =
              record {
                within =
                    each_map (Fits known) (Fits (learned_of_epochs known told)) voices
                    (λ v fits inside from. within_more known told _ (fits inside from)) is.within;
                greatest = had (λ s. s.current) known.greatest told.current is.greatest same.current_is;
                epoch = had (λ s. s.prepared) known.epoch told.prepared is.epoch same.prepared_is;
                next = had (λ s. s.next) known.next told.next is.next same.next_is;
              } in
              one_more voices voice (learned_of_epochs known told) wide (λ inside from. within_told known told _ same)

          by : IsTrueState start logs x told.current told.prepared told.next
              → IsKnown start logs (with_one voices voice) (learned_of_epochs known told)
          by (inl epochs) = as_told (epochs.1 silent)
          by (inr rows) = absurd (some rows.1)

      known_of_full : IsKnown start logs (with_one voices voice) (learned known told)
      known_of_full = by (told.current == 0) refl
        where
          by : (b : Bool) → (told.current == 0) ≡ b
              → IsKnown start logs (with_one voices voice)
              (if b then learned_of_rows known told else learned_of_epochs known told)
          by true e = known_of_rows (eqb-true told.current 0 e)
          by false e = known_of_epochs (eqb-false told.current 0 e)

    -- whoever tells, what is known then is so
    pub known_more : (s : MasterState) → s.view.full ≡ (current start logs).full
        → (IsIn x.member (current start logs).full
        → IsSound (epochs_of start logs x.member) × (tc_of start x.member ≡ ldm_of start x.member → ⊥))
        → IsKnown start logs (with_one voices voice) (known_with s voice known told)
    known_more s view of_full = by (is_among s.view.full x.member) refl
      where
        by : (b : Bool) → is_among s.view.full x.member ≡ b
            → IsKnown start logs (with_one voices voice) (learned_if known told b)
        by true e =
            let inside = subst (IsIn x.member) view (among_in x.member s.view.full e) in
            known_of_full inside (of_full inside).0 (of_full inside).1
        by false e =
            known_of_starting (λ inside. among_out x.member s.view.full e (subst (IsIn x.member) (sym view) inside))
