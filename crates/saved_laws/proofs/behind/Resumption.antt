-- A master that goes on by what all full members have told: before the last order that it knows all that was saved is
-- durable, nobody has prepared for a later one, and where it rests all that was saved is durable.
use Rattle.std.proofs.Common.{◌∙◌, ◌≡◌, ◌≤◌, ◌⊎◌, Bool, List, ap, arith, false, inl, inr, refl, subst, sym, true, ℕ}
use Rattle.std.proofs.lemmas.Bool.{and_parts, ltb-false, not-true, true≢false}
use Rattle.std.specs.Prelude.{◌&&◌, if◌then◌else◌, nat_lt, not}
use Rattle.run_theory.proofs.Pasts.{each_from, each_in}
use Rattle.run_theory.specs.Lists.{IsIn}
use Rattle.sig_core.specs.declared.member.Member.{Member}
use Rattle.dih_node.specs.State.{DihState}
use Rattle.gcp_master.proofs.Outcomes.{heard_one, known_with, state_body, voice_of}
use Rattle.gcp_master.proofs.Walk.{all_heard}
use Rattle.gcp_master.specs.Known.{last_run, resumed}
use Rattle.gcp_master.specs.Numbers.{is_first}
use Rattle.gcp_master.specs.State.{MasterState, all_in, counts}
use Rattle.gcp_master.specs.Voices.{is_heard, is_in, voices_of}
use Rattle.gcp_master.specs.declared.known.Known.{Known}
use Rattle.gcp_master.specs.declared.known.Told.{Told}
use Rattle.gcp_master.specs.declared.phase.Phase.TheVariants.{Committing, Copying, Gathering, Preparing, Resting}
use Rattle.gcp_master.specs.declared.voices.Voice.{Voice}
use Rattle.world_core.specs.Start.{Start, made}
use Rattle.world_core.specs.Steps.{Addressed, HostStep}
use Rattle.moment_laws.specs.Moments.{current}
use Rattle.moment_laws.specs.Places.{tc_of}
use Rattle.epoch_laws.proofs.MasterHears.{heard_epochs}
use Rattle.epoch_laws.proofs.MasterKeeps.{IsBefore, keeps}
use Rattle.epoch_laws.proofs.MasterMoves.{IsNew, learns, with_one}
use Rattle.epoch_laws.proofs.MasterResumption.{sound_next}
use Rattle.epoch_laws.specs.Alike.{IsSound}
use Rattle.epoch_laws.specs.Masters.{IsHad, IsRightIn, IsWithin}
use Rattle.epoch_laws.specs.Members.{epochs_of}
use Rattle.epoch_laws.specs.Told.{IsTrueOf}
use Rattle.closing_laws.proofs.durable.Reached.{HasReached}
use Rattle.saved_laws.proofs.behind.Reached.{AreReached}
use Rattle.saved_laws.proofs.behind.Statement.{AreDurable, AreDurableBefore, AreSettled, IsLastOrder, IsSettled}
use Rattle.saved_laws.proofs.behind.Statement.{KnowsDurable, durable_before, saved_at}
use Rattle.saved_laws.specs.Behind.{IsDurable}

-- a confirmation that counts is new
new_voice : (s : MasterState) (voice : Voice) → counts s voice ≡ true → IsNew s voice
unfolding counts
new_voice s voice on =
    let parts = and_parts (is_in s.view voice.member) _ on in
    let unheard = and_parts (not (is_heard s.voices voice)) _ parts.1 in
    record { inside = parts.0; new = not-true (is_heard s.voices voice) unheard.0 }

-- it rests where the epoch that follows is no first one, or each knows the last order to be durable
rests_durably : (known : Known) → resumed known ≡ Resting known.next
    → (is_first known.next ≡ false) ⊎ (known.epoch ≤ known.durable)
rests_durably known =
    by (nat_lt known.greatest known.next) (nat_lt known.least known.next) (nat_lt known.closed known.epoch)
    (is_first known.next) (nat_lt known.saved known.epoch) (nat_lt known.durable known.epoch) refl refl
  where
    by : (a b c d f g : Bool) → is_first known.next ≡ d → nat_lt known.durable known.epoch ≡ g
        → (if a then Preparing (last_run known)
        else if b then Committing (last_run known)
        else if c then Committing (last_run known)
        else if d && f then Committing (last_run known)
        else if d && g then Copying (last_run known)
        else Resting known.next)
        ≡ Resting known.next
        → (is_first known.next ≡ false) ⊎ (known.epoch ≤ known.durable)
    by true b c d f g is_d is_g is = absurd cc
    by false true c d f g is_d is_g is = absurd cc
    by false false true d f g is_d is_g is = absurd cc
    by false false false true true g is_d is_g is = absurd cc
    by false false false true false true is_d is_g is = absurd cc
    by false false false true false false is_d is_g is = inr (ltb-false known.durable known.epoch is_g)
    by false false false false f g is_d is_g is = inl is_d

module _ (start : Start) (logs : ℕ → List HostStep) (s : MasterState) (x : Addressed)
    (before : IsBefore start logs s) (told_true : IsTrueOf start logs x x.signal.body) (known : Known) (t : Told)
    (is : x.signal.body ≡ state_body t) (at : s.phase ≡ Gathering known)
    (on : counts s (voice_of x.signal) ≡ true) (all : all_in 2 (heard_one s x.signal) ≡ true)
    (settled : AreSettled start logs)
  where
    abbrev voice : Voice
    voice = voice_of x.signal

    abbrev learned : Known
    learned = known_with s voice known t

    right : IsRightIn start logs (with_one s.voices voice) (Gathering learned)
    right =
        keeps start logs s x before told_true (Gathering learned) (with_one s.voices voice)
        (learns known t is at (new_voice s voice on) refl refl)

    within : (full : Member) → IsIn full (current start logs).full
        → IsWithin start logs learned (epochs_of start logs full)
    within full inside =
        let two : 2 ≤ voices_of (with_one s.voices voice) full =
        each_in (λ member. 2 ≤ voices_of (with_one s.voices voice) member) full s.view.full
        (all_heard 2 (heard_one s x.signal) all) (subst (IsIn full) (sym before.view) inside) in
        let h = heard_epochs start logs full (with_one s.voices voice) two right.1.1 right.1.0 in
        let fits =
        each_in
        (λ (voice : Voice). IsIn voice.member (current start logs).full → voice.from.0 ≡ tc_of start voice.member
        → IsWithin start logs learned (epochs_of start logs voice.member))
        h.voice (with_one s.voices voice) right.0.within h.inside
        in
        subst (λ m. IsWithin start logs learned (epochs_of start logs m)) (sym h.of)
        (fits (subst (λ m. IsIn m (current start logs).full) h.of inside) h.holds)

    settled_by : (member : Member) → IsIn member (made start) → (full : Member) → IsIn full (current start logs).full
        → IsSettled start logs member (epochs_of start logs full)
    settled_by member there full inside =
        each_in (λ (m : Member). IsSettled start logs member (epochs_of start logs m)) full (current start logs).full
        (settled member there) inside

    pub resumed_before : AreDurableBefore start logs learned.epoch
    resumed_before member there = by right.0.epoch
      where
        one : (full : Member) → (epochs_of start logs full).prepared ≡ learned.epoch
            → IsSettled start logs member (epochs_of start logs full)
            → IsDurable start logs (saved_at start logs member) ⊎ (learned.epoch ≤ saved_at start logs member)
        one full has (inl durable) = inl durable
        one full has (inr followed) = let last = followed.last in inr (omega (arith, last, has))

        by : IsHad start logs (λ s. s.prepared) learned.epoch
            → IsDurable start logs (saved_at start logs member) ⊎ (learned.epoch ≤ saved_at start logs member)
        by (inl none) = inr (omega (arith, none))
        by (inr (full, (inside, has))) = one full has (settled_by member there full inside)

    pub resumed_last : IsLastOrder start logs learned.epoch
    resumed_last =
        each_from (λ (m : Member). (epochs_of start logs m).prepared ≤ learned.epoch) (current start logs).full
        (λ full inside. (within full inside).epoch)

    pub resumed_resting : AreReached start logs → KnowsDurable start logs learned → learned.next ≤ learned.least
        → resumed learned ≡ Resting learned.next → AreDurable start logs
    resumed_resting reached knows least rests member there = by (rests_durably learned rests) knows
      where
        one : DihState
        one = epochs_of start logs before.one

        here : IsWithin start logs learned one
        here = within before.one before.one_in

        sound : IsSound one
        sound =
            each_in (λ (m : Member). IsSound (epochs_of start logs m)) before.one (current start logs).full before.sound
            before.one_in

        gives : one.current ≡ learned.next
        gives =
            let low = here.least in
            let up = here.next in
            let follows = sound_next one sound in
            omega (arith, low, up, follows, least)

        other_number : is_first learned.next ≡ false → IsSettled start logs member one
            → IsDurable start logs (saved_at start logs member)
        other_number other (inl durable) = durable
        other_number other (inr followed) =
            absurd (true≢false (sym followed.first ∙ ap is_first gives ∙ other))

        durable_up : learned.epoch ≤ learned.durable → IsDurable start logs learned.durable
            → IsDurable start logs (saved_at start logs member)
        durable_up up durable =
            let has : HasReached (saved_at start logs member) one =
            each_in (λ (m : Member). HasReached (saved_at start logs member) (epochs_of start logs m)) before.one
            (current start logs).full (reached member there) before.one_in in
            let low = has.ordered in
            let last = here.epoch in
            durable_before start logs (saved_at start logs member) learned.durable (omega (arith, low, last, up))
            durable

        by : (is_first learned.next ≡ false) ⊎ (learned.epoch ≤ learned.durable) → KnowsDurable start logs learned
            → IsDurable start logs (saved_at start logs member)
        by (inl other) knows = other_number other (settled_by member there before.one before.one_in)
        by (inr up) (inr durable) = durable_up up durable
        by (inr up) (inl none) =
            let some = sound.some in
            let most = here.greatest in
            absurd (omega (arith, some, most, none))
