-- What the master of the current view says of its members stays right, at each signal that tells the truth.
use Rattle.std.proofs.Common.{◌≡◌, ◌<◌, ℕ, List, [], ◌∷◌, sym, subst, inl, inr, arith}
use Rattle.run_theory.specs.Lists.{Each, IsIn}
use Rattle.run_theory.proofs.Pasts.{each_append, each_from, each_in}
use Rattle.sig_core.specs.declared.member.Member.{Member}
use Rattle.sig_core.specs.declared.signal.Body.{Body}
use Rattle.sig_core.specs.declared.signal.Body.TheVariants.{Epoch}
use Rattle.sig_core.specs.declared.signal.epoch.EpochSignal.TheVariants.{GcpNodeFinish, GcpPrepareConf}
use Rattle.gcp_master.specs.declared.known.Known.{Known}
use Rattle.gcp_master.specs.declared.known.Told.{Told}
use Rattle.gcp_master.specs.declared.phase.Phase.{Phase}
use Rattle.gcp_master.specs.declared.phase.Phase.TheVariants.{Gathering, Resting, Preparing, Committing, Closing}
use Rattle.gcp_master.specs.declared.phase.Phase.TheVariants.{Saving, Copying}
use Rattle.gcp_master.specs.declared.phase.Run.{Run}
use Rattle.gcp_master.specs.declared.voices.Voice.{Voice}
use Rattle.gcp_master.specs.Known.{nothing_known}
use Rattle.gcp_master.specs.Master.{master_row}
use Rattle.gcp_master.specs.State.{MasterState}
use Rattle.gcp_master.proofs.Outcomes.{voice_of}
use Rattle.dih_node.specs.State.{DihState}
use Rattle.world_core.specs.Start.{Start}
use Rattle.world_core.specs.Steps.{Addressed, HostStep}
use Rattle.epoch_laws.specs.Alike.{AreAlike, EachFull, IsAcross, IsReady, IsSound, Rests, Waits}
use Rattle.epoch_laws.specs.Masters.{EachHeard, HasPrepared, IsOfHosts, IsRight, IsRightIn, IsSilent, IsUnderWay}
use Rattle.epoch_laws.specs.Masters.{IsWithin}
use Rattle.epoch_laws.specs.Members.{epochs_of}
use Rattle.moment_laws.specs.Places.{ldm_of, tc_of}
use Rattle.moment_laws.specs.Moments.{current}
use Rattle.epoch_laws.specs.Told.{IsAllSilent, IsTrueOf, IsTrueState}
use Rattle.epoch_laws.proofs.MasterHears.{all_by_one, heard_epochs, once_more}
use Rattle.epoch_laws.proofs.MasterKnows.{known_more, nothing_is_known}
use Rattle.epoch_laws.proofs.MasterMoves.{HaveAll, IsLate, IsNew, Moved, known_with, state_body, with_one}
use Rattle.epoch_laws.proofs.MasterMoves.{closes, closes_owed, commits, ends, goes_late, hears_finished, hears_prepared}
use Rattle.epoch_laws.proofs.MasterMoves.{is_ordered, learns, resumes, stays, takes_up}
use Rattle.epoch_laws.proofs.MasterResumption.{begins_right, goes_on_right}
use Rattle.epoch_laws.proofs.MasterRows.{master_goes}

-- what is so before the master of the current view takes a signal of this view
pub record IsBefore (start : Start) (logs : ℕ → List HostStep) (s : MasterState) : Type 0 where
  pub view : s.view.full ≡ (current start logs).full
  pub one : Member
  pub one_in : IsIn one (current start logs).full
  pub apart : (member : Member) → IsIn member (current start logs).full → tc_of start member ≡ ldm_of start member → ⊥
  pub sound : EachFull start logs IsSound
  pub alike : AreAlike start logs
  pub right : IsRight start logs s
  pub silent : IsSilent s.phase → IsAllSilent start logs

-- each is prepared, where each waits and has confirmed it
ready_of : (epoch next : ℕ) (s : DihState) → Waits epoch next s → HasPrepared epoch s → IsReady epoch next s
ready_of epoch next s waits (inl beyond) = let gives = waits.gives in absurd (omega (arith, beyond, gives))
ready_of epoch next s waits (inr (gives, prepared, below)) =
    let follows = waits.prepared (omega (arith, below, gives)) in
    record { gives = gives; prepared_is = prepared; next_is = follows.1 }

-- each rests in the next epoch, where each is across and is beyond the one before
rests_of : (epoch next : ℕ) (s : DihState) → IsAcross epoch next s → epoch < s.current → Rests next s
rests_of epoch next s (inl ready) beyond = let gives = ready.gives in absurd (omega (arith, beyond, gives))
rests_of epoch next s (inr gone) beyond = record { gives = gone.gives; next_is = gone.next_is }

module _ (start : Start) (logs : ℕ → List HostStep) where
  full_by : (P Q R : DihState → Type 0) → ((s : DihState) → P s → Q s → R s) → EachFull start logs P
      → EachFull start logs Q → EachFull start logs R
  full_by P Q R step p q =
      each_from _ _ (λ member inside. step _ (each_in _ member _ p inside) (each_in _ member _ q inside))

  module _ (s : MasterState) (x : Addressed) (before : IsBefore start logs s)
      (told_true : IsTrueOf start logs x x.signal.body) where
    abbrev voice : Voice
    voice = voice_of x.signal

    -- what is right of the phase
    right_at : (phase : Phase) → s.phase ≡ phase → IsRightIn start logs s.voices phase
    right_at phase is = subst (IsRightIn start logs s.voices) is before.right

    true_at : (body : Body) → x.signal.body ≡ body → IsTrueOf start logs x body
    true_at body is = subst (IsTrueOf start logs x) is told_true

    -- what is so of each that is heard is so of each full member
    all_full : (P : DihState → Type 0) (voices : List Voice) → HaveAll 1 voices s.view → EachHeard start logs P voices
        → EachFull start logs P
    all_full P voices all heard =
        subst (Each (λ member. P (epochs_of start logs member))) before.view
        (all_by_one start logs P voices s.view.full all heard)

    one_heard : (P : DihState → Type 0) → EachHeard start logs P s.voices → P (epochs_of start logs x.signal.member)
        → EachHeard start logs P (with_one s.voices voice)
    one_heard P heard one = each_append _ s.voices (voice ∷ []) heard (one, tt)

    -- all have prepared: each is ready
    all_ready : (run : Run) → IsRightIn start logs s.voices (Preparing run)
        → EachHeard start logs (HasPrepared run.epoch) (with_one s.voices voice)
        → HaveAll 1 (with_one s.voices voice) s.view → IsRightIn start logs [] (Committing run)
    all_ready run (under, heard) prepared all = (
      record {
        rises = under.rises;
        each =
            full_by (Waits run.epoch run.next) (HasPrepared run.epoch) (IsAcross run.epoch run.next)
            (λ s waits has. inl (ready_of run.epoch run.next s waits has)) under.each
            (all_full (HasPrepared run.epoch) (with_one s.voices voice) all prepared);
      },
      tt,
    )

    -- all have finished: each rests in the next epoch
    all_rest : (run : Run) (voices : List Voice) → IsUnderWay start logs run (IsAcross run.epoch run.next)
        → EachHeard start logs (λ s. run.epoch < s.current) voices → HaveAll 1 voices s.view
        → IsRightIn start logs [] (Closing run)
    all_rest run voices under beyond all =
        record {
          rises = under.rises;
          each =
              full_by (IsAcross run.epoch run.next) (λ s. run.epoch < s.current) (Rests run.next)
              (rests_of run.epoch run.next) under.each
              (all_full (λ s. run.epoch < s.current) voices all beyond);
        }

    -- the same in each late phase
    late_each : (run : Run) (phase : Phase) (voices : List Voice) → IsLate run phase
        → IsRightIn start logs voices phase → IsUnderWay start logs run (Rests run.next)
    late_each run (Closing other) voices is right = subst (λ r. IsUnderWay start logs r (Rests r.next)) is right
    late_each run (Saving other) voices is right = subst (λ r. IsUnderWay start logs r (Rests r.next)) is right
    late_each run (Copying other) voices is right = subst (λ r. IsUnderWay start logs r (Rests r.next)) is right
    late_each run _ voices is right = absurd is

    late_right : (run : Run) (phase : Phase) (voices : List Voice) → IsLate run phase
        → IsUnderWay start logs run (Rests run.next) → IsRightIn start logs voices phase
    late_right run (Closing other) voices is right = subst (λ r. IsUnderWay start logs r (Rests r.next)) (sym is) right
    late_right run (Saving other) voices is right = subst (λ r. IsUnderWay start logs r (Rests r.next)) (sym is) right
    late_right run (Copying other) voices is right = subst (λ r. IsUnderWay start logs r (Rests r.next)) (sym is) right
    late_right run _ voices is right = absurd is

    -- one more has told how far it is
    told_more : (known : Known) (told : Told) → x.signal.body ≡ state_body told → s.phase ≡ Gathering known
        → IsNew s voice → IsRightIn start logs (with_one s.voices voice) (Gathering (known_with s voice known told))
    told_more known told body is new =
        let right = right_at (Gathering known) is in
        let state = true_at (state_body told) body in
        let quiet = before.silent (subst IsSilent (sym is) tt) in (
          known_more start logs x.signal known told s.voices right.0 state quiet s before.view (λ inside. (
            each_in _ x.signal.member _ before.sound inside,
            before.apart x.signal.member inside,
          )),
          (
            each_append (IsOfHosts start logs) s.voices (voice ∷ []) right.1.0 (hosts state, tt),
            once_more start logs s.voices voice right.1.1 new.new,
          ),
        )
      where
        hosts : IsTrueState start logs x.signal told.current told.prepared told.next → IsOfHosts start logs voice
        hosts (inl epochs) = inl epochs.0
        hosts (inr rows) = inr rows.0

    -- all have: what is known holds for each full member
    all_within : (known : Known) → IsRightIn start logs (with_one s.voices voice) (Gathering known)
        → HaveAll 2 (with_one s.voices voice) s.view → EachFull start logs (IsWithin start logs known)
    all_within known right all = each_from _ _ within
      where
        within : (member : Member) → IsIn member (current start logs).full
            → IsWithin start logs known (epochs_of start logs member)
        within member inside =
            let two = each_in _ member _ all (subst (IsIn member) (sym before.view) inside) in
            let h = heard_epochs start logs member (with_one s.voices voice) two right.1.1 right.1.0 in
            let fits = each_in _ h.voice _ right.0.within h.inside in
            subst (λ m. IsWithin start logs known (epochs_of start logs m)) (sym h.of)
            (fits (subst (λ m. IsIn m (current start logs).full) h.of inside) h.holds)

    -- what a signal makes of it is right again
    pub keeps : (phase : Phase) (voices : List Voice) → Moved s voice x.signal.body phase voices
        → IsRightIn start logs voices phase
    keeps phase voices (stays same heard) =
        subst (λ p. IsRightIn start logs voices p) (sym same)
        (subst (λ v. IsRightIn start logs v s.phase) (sym heard) before.right)
    keeps phase voices (is_ordered body is now none) =
        subst (IsRightIn start logs voices) (sym now)
        (subst (λ v. IsRightIn start logs v (Gathering nothing_known)) (sym none)
        (nothing_is_known start logs, (tt, tt)))
    keeps phase voices (learns known told body is new now more) =
        subst (IsRightIn start logs voices) (sym now)
        (subst (λ v. IsRightIn start logs v (Gathering (known_with s voice known told))) (sym more)
        (told_more known told body is new))
    keeps phase voices (resumes known told body is new all goes none) =
        let right = told_more known told body is new in
        subst (λ v. IsRightIn start logs v phase) (sym none)
        (goes_on_right start logs (known_with s voice known told) (with_one s.voices voice) right.0
        (all_within (known_with s voice known told) right all) before.sound before.one before.one_in before.alike
        phase goes)
    keeps phase voices (hears_prepared run body is new now more) =
        let right = right_at (Preparing run) is in
        subst (IsRightIn start logs voices) (sym now)
        (subst (λ v. IsRightIn start logs v (Preparing run)) (sym more)
        (right.0, one_heard (HasPrepared run.epoch) right.1 (true_at (Epoch (GcpPrepareConf run.epoch)) body)))
    keeps phase voices (commits run body is new all now none) =
        let right = right_at (Preparing run) is in
        subst (IsRightIn start logs voices) (sym now)
        (subst (λ v. IsRightIn start logs v (Committing run)) (sym none)
        (all_ready run right
        (one_heard (HasPrepared run.epoch) right.1 (true_at (Epoch (GcpPrepareConf run.epoch)) body)) all))
    keeps phase voices (hears_finished run body is new now more) =
        let right = right_at (Committing run) is in
        subst (IsRightIn start logs voices) (sym now)
        (subst (λ v. IsRightIn start logs v (Committing run)) (sym more)
        (right.0, one_heard (λ s. run.epoch < s.current) right.1 (true_at (Epoch (GcpNodeFinish run.epoch)) body)))
    keeps phase voices (closes run body is new all now none) =
        let right = right_at (Committing run) is in
        subst (IsRightIn start logs voices) (sym now)
        (all_rest run (with_one s.voices voice) right.0
        (one_heard (λ s. run.epoch < s.current) right.1 (true_at (Epoch (GcpNodeFinish run.epoch)) body)) all)
    keeps phase voices (closes_owed run is all now none) =
        let right = right_at (Committing run) is in
        subst (IsRightIn start logs voices) (sym now) (all_rest run s.voices right.0 right.1 all)
    keeps phase voices (goes_late run late now) =
        late_right run phase voices now (late_each run s.phase s.voices late before.right)
    keeps phase voices (ends run late begins none) =
        subst (λ v. IsRightIn start logs v phase) (sym none)
        (begins_right start logs run.next phase (late_each run s.phase s.voices late before.right).each begins)
    keeps phase voices (takes_up epoch is begins none) =
        subst (λ v. IsRightIn start logs v phase) (sym none)
        (begins_right start logs epoch phase (right_at (Resting epoch) is) begins)

    -- so it is whatever the master takes
    pub master_right : IsRight start logs (master_row s x.signal).state
    master_right =
        let now = (master_row s x.signal).state in
        keeps now.phase now.voices (master_goes s x.signal).moved
