-- What a master has heard of what members saved and noted as durable: it stays so whatever the master takes, and so it
-- marks an epoch as durable when each full member has told it.
use Rattle.std.proofs.Common.{◌≡◌, ◌≤◌, ◌⊎◌, ℕ, Bool, true, false, List, [], ◌∷◌, refl, sym, subst, inl, inr, arith}
use Rattle.std.proofs.lemmas.Bool.{and_parts, not-true}
use Rattle.std.specs.Prelude.{is_some, not}
use Rattle.run_theory.proofs.Pasts.{each_append, each_from, each_in, each_map}
use Rattle.run_theory.specs.Lists.{Each, IsIn}
use Rattle.sig_core.specs.declared.mark.Mark.{Mark}
use Rattle.sig_core.specs.declared.mark.Mark.TheVariants.{Closed, Durable}
use Rattle.sig_core.specs.declared.member.Member.{Member}
use Rattle.sig_core.specs.declared.signal.Body.TheVariants.{Epoch}
use Rattle.sig_core.specs.declared.signal.Signal.{Signal}
use Rattle.sig_core.specs.declared.signal.epoch.EpochSignal.TheVariants.{CopyGciConf, GcpSaveConf}
use Rattle.sig_core.specs.declared.view.View.{View}
use Rattle.sig_core.specs.Step.{Step}
use Rattle.gcp_master.specs.declared.known.Known.{Known}
use Rattle.gcp_master.specs.declared.known.Told.{Told}
use Rattle.gcp_master.specs.declared.orders.Ended.TheVariants.{Micro}
use Rattle.gcp_master.specs.declared.phase.Asked.{Asked}
use Rattle.gcp_master.specs.declared.phase.Phase.{Phase}
use Rattle.gcp_master.specs.declared.phase.Phase.TheVariants.{Gathering, Preparing, Committing, Closing}
use Rattle.gcp_master.specs.declared.phase.Phase.TheVariants.{Saving, Copying}
use Rattle.gcp_master.specs.declared.phase.Run.{Run}
use Rattle.gcp_master.specs.declared.voices.Voice.{Voice}
use Rattle.gcp_master.specs.Known.{last_run, learned, nothing_known, resumed}
use Rattle.gcp_master.specs.Master.{master_row}
use Rattle.gcp_master.specs.Resume.{knowing, learned_if}
use Rattle.gcp_master.specs.Sends.{list_effects, listing, marking}
use Rattle.gcp_master.specs.State.{MasterState, all_in, at_phase, counts}
use Rattle.gcp_master.specs.Voices.{is_among, is_heard, is_in, voices_of}
use Rattle.gcp_master.proofs.Outcomes.{BeginOutcomes, Begins, Resumes, a_global, a_micro, at_durable, at_end, beginning}
use Rattle.gcp_master.proofs.Outcomes.{have_walked, heard_one, known_with, master_outcomes, not_owing, nothing_asked}
use Rattle.gcp_master.proofs.Outcomes.{state_body, to_commit, to_copy, to_prepare, voice_of}
use Rattle.gcp_master.proofs.Walk.{all_heard, listing_state}
use Rattle.world_core.specs.Start.{Start}
use Rattle.world_core.specs.Steps.{HostStep}
use Rattle.moment_laws.specs.Places.{ldm_of, tc_of}
use Rattle.epoch_laws.specs.Masters.{AreOnce, IsOfHosts}
use Rattle.epoch_laws.proofs.MasterHears.{among_out, once_more}
use Rattle.saved_laws.specs.Copied.{TellsDurable, TellsSaved, WasTold}
use Rattle.saved_laws.proofs.masters.Known.{copies_saved, saved_below, saved_falls}
use Rattle.saved_laws.proofs.masters.Told.{saved_less, told_map}
use Rattle.saved_laws.proofs.masters.Voices.{IsOfRows, each_by_one, heard_rows}

-- who counts wasn't heard before
unheard : (s : MasterState) (voice : Voice) → counts s voice ≡ true → is_heard s.voices voice ≡ false
unfolding counts
unheard s voice on =
    let rest = and_parts (is_in s.view voice.member) _ on in
    not-true (is_heard s.voices voice) (and_parts (not (is_heard s.voices voice)) _ rest.1).0

module _ (start : Start) (logs : ℕ → List HostStep) where
  -- a member has told that its rows saved the epoch, and that its block of epochs noted it as durable
  abbrev pub HasSaved : ℕ → Member → Type 0
  HasSaved epoch member = WasTold start logs (TellsSaved epoch) (ldm_of start member)

  abbrev pub HasNoted : ℕ → Member → Type 0
  HasNoted epoch member = WasTold start logs (TellsDurable epoch) (tc_of start member)

  pub saved_before : (less epoch : ℕ) → less ≤ epoch → (member : Member) → HasSaved epoch member
      → HasSaved less member
  saved_before less epoch low member =
      told_map start logs (TellsSaved epoch) (TellsSaved less) (saved_less less epoch low) (ldm_of start member)

  -- what rows that are heard saved, where their member is full, isn't less than what is known
  abbrev pub IsLearnedOf : View → Known → Voice → Type 0
  IsLearnedOf view known voice =
      IsIn voice.member view.full → IsOfRows start logs voice → HasSaved known.saved voice.member

  pub record IsLearned (view : View) (voices : List Voice) (known : Known) : Type 0 where
    pub saved : Each (IsLearnedOf view known) voices
    pub hosts : Each (IsOfHosts start logs) voices
    pub once : AreOnce voices

  -- what a master in this view has heard
  abbrev pub IsHeard : View → List Voice → Phase → Type 0
  IsHeard view voices (Gathering known) = IsLearned view voices known
  IsHeard view voices (Saving run) = Each (λ (voice : Voice). HasSaved run.epoch voice.member) voices
  IsHeard view voices (Copying run) =
      Each (HasSaved run.epoch) view.full × Each (λ (voice : Voice). HasNoted run.epoch voice.member) voices
  IsHeard view voices phase = Unit {0}

  abbrev pub HasHeard : MasterState → Type 0
  HasHeard s = IsHeard s.view s.voices s.phase

  -- a block tells how far it is: that of the epochs of a member, or of its rows
  abbrev pub IsState : Signal → Told → Type 0
  IsState x t =
      ((x.from.0 ≡ tc_of start x.member) × (x.from.0 ≡ ldm_of start x.member → ⊥))
      ⊎ ((x.from.0 ≡ ldm_of start x.member) × ((t.current ≡ 0) × HasSaved t.saved x.member))

  -- what a signal tells a master
  pub record IsAnswer (x : Signal) : Type 0 where
    pub saves : (epoch : ℕ) → x.body ≡ Epoch (GcpSaveConf epoch) → HasSaved epoch x.member
    pub notes : (epoch : ℕ) → x.body ≡ Epoch (CopyGciConf epoch) → HasNoted epoch x.member
    pub states : (t : Told) → x.body ≡ state_body t → IsState x t

  -- an epoch is marked durable where each full member has noted it
  abbrev pub IsNotedBy : View → Mark → Type 0
  IsNotedBy view (Durable epoch) = Each (HasNoted epoch) view.full
  IsNotedBy view mark = Unit {0}

  abbrev Now : Step MasterState → Type 0
  Now step = HasHeard step.state × Each (IsNotedBy step.state.view) step.effects.marks

  unmarked : (t : MasterState) (at : ℕ) (view : View) → Each (IsNotedBy view) (listing t at).effects.marks
  unfolding listing list_effects
  unmarked t at view = tt

  lists : (t : MasterState) (at : ℕ) → HasHeard t → Now (listing t at)
  lists t at heard =
      (listing_state t at (λ u. HasHeard u) heard heard, unmarked t at (listing t at).state.view)

  begun : (s : MasterState) (current : ℕ) (phase : Phase) (asked : Asked) → Begins s current phase asked
      → IsHeard s.view [] phase
  begun s current _ _ (a_global next for is) = tt
  begun s current _ _ (a_micro next none for is) = tt
  begun s current _ _ (nothing_asked none micro) = tt

  begins : (s : MasterState) (current : ℕ) (behind : Bool) → HasHeard s → BeginOutcomes s current behind Now
  begins s current behind heard = record {
    stops = λ spent. (heard, (tt, tt));
    follows = λ phase asked is front. (begun s current phase asked is, tt);
    begins = λ phase asked is front. lists (beginning s phase asked) 0 (begun s current phase asked is);
  }

  -- a run that is closed
  closes : (run : Run) (t : MasterState) → Now (marking (Closed run.epoch) (listing (at_phase t (Closing run)) 0))
  closes run t =
      let now = lists (at_phase t (Closing run)) 0 tt in (now.0, (tt, now.1))

  -- and one that is durable
  ends_durable : (run : Run) (t : MasterState) → HasHeard t → Each (HasNoted run.epoch) t.view.full
      → BeginOutcomes t run.next false (λ step. Now (marking (Durable run.epoch) step))
  ends_durable run t heard noted = record {
    stops = λ spent. (heard, (noted, (tt, tt)));
    follows = λ phase asked is front. (begun t run.next phase asked is, (noted, tt));
    begins = λ phase asked is front.
        let now = lists (beginning t phase asked) 0 (begun t run.next phase asked is) in (
          now.0,
          (
            listing_state (beginning t phase asked) 0 (λ u. Each (HasNoted run.epoch) u.view.full) noted noted,
            now.1,
          ),
        );
  }

  module _ (s : MasterState) (was : HasHeard s) (x : Signal) (answer : IsAnswer x) where
    abbrev voice : Voice
    voice = voice_of x

    at_it : (phase : Phase) → s.phase ≡ phase → IsHeard s.view s.voices phase
    at_it phase at = subst (IsHeard s.view s.voices) at was

    still : (phase : Phase) → s.phase ≡ phase → IsHeard s.view (heard_one s x).voices phase → HasHeard (heard_one s x)
    still phase at = subst (IsHeard s.view (heard_one s x).voices) (sym at)

    -- one more confirmation
    saved_more : (run : Run) → x.body ≡ Epoch (GcpSaveConf run.epoch) → s.phase ≡ Saving run
        → Each (λ (voice : Voice). HasSaved run.epoch voice.member) (heard_one s x).voices
    saved_more run is at =
        each_append (λ (voice : Voice). HasSaved run.epoch voice.member) s.voices (voice ∷ [])
        (at_it (Saving run) at) (answer.saves run.epoch is, tt)

    noted_more : (run : Run) → x.body ≡ Epoch (CopyGciConf run.epoch) → s.phase ≡ Copying run
        → Each (λ (voice : Voice). HasNoted run.epoch voice.member) (heard_one s x).voices
    noted_more run is at =
        each_append (λ (voice : Voice). HasNoted run.epoch voice.member) s.voices (voice ∷ [])
        (at_it (Copying run) at).1 (answer.notes run.epoch is, tt)

    -- one more block that tells how far it is
    module _ (known : Known) (t : Told) (is : x.body ≡ state_body t) (at : s.phase ≡ Gathering known)
        (on : counts s (voice_of x) ≡ true)
      where
        knows : IsLearned s.view s.voices known
        knows = at_it (Gathering known) at

        falls : (b : Bool) → (learned_if known t b).saved ≤ known.saved
        falls true = saved_falls known t
        falls false = omega arith

        before : Each (IsLearnedOf s.view (known_with s voice known t)) s.voices
        before =
            each_map (IsLearnedOf s.view known) (IsLearnedOf s.view (known_with s voice known t)) s.voices
            (λ other saved full rows.
            saved_before (known_with s voice known t).saved known.saved (falls (is_among s.view.full x.member))
            other.member (saved full rows))
            knows.saved

        own : IsState x t → IsLearnedOf s.view (known_with s voice known t) voice
        own (inl (epochs, apart)) full rows = absurd (apart rows)
        own (inr (from, (none, saved))) full rows = by (is_among s.view.full x.member) refl
          where
            by : (b : Bool) → is_among s.view.full x.member ≡ b → HasSaved (learned_if known t b).saved x.member
            by true among = saved_before (learned known t).saved t.saved (saved_below known t none) x.member saved
            by false out = absurd (among_out x.member s.view.full out full)

        host : IsState x t → IsOfHosts start logs voice
        host (inl epochs) = inl epochs.0
        host (inr rows) = inr rows.0

        learns : IsLearned s.view (heard_one s x).voices (known_with s voice known t)
        learns =
            let state = answer.states t is in
            record {
              saved =
                  each_append (IsLearnedOf s.view (known_with s voice known t)) s.voices (voice ∷ []) before
                  (own state, tt);
              hosts = each_append (IsOfHosts start logs) s.voices (voice ∷ []) knows.hosts (host state, tt);
              once = once_more start logs s.voices voice knows.once (unheard s voice on);
            }

        -- all have told
        each_saved : all_in 2 (heard_one s x) ≡ true → Each (HasSaved (known_with s voice known t).saved) s.view.full
        each_saved all =
            each_from (HasSaved (known_with s voice known t).saved) s.view.full
            (λ member full.
            let two = each_in (λ member. 2 ≤ voices_of (heard_one s x).voices member) member s.view.full
            (all_heard 2 (heard_one s x) all) full
            in
            let h = heard_rows start logs member (heard_one s x).voices two learns.once learns.hosts in
            let saved = each_in (IsLearnedOf s.view (known_with s voice known t)) h.voice (heard_one s x).voices
            learns.saved h.inside
            in
            subst (HasSaved (known_with s voice known t).saved) (sym h.of)
            (saved (subst (λ m. IsIn m s.view.full) h.of full) h.holds))

        goes_on : (phase : Phase) → all_in 2 (heard_one s x) ≡ true → resumed (known_with s voice known t) ≡ phase
            → Resumes (known_with s voice known t) phase → IsHeard s.view [] phase
        goes_on _ all same (to_prepare less) = tt
        goes_on _ all same (to_commit more) = tt
        goes_on _ all same (to_copy more each) =
            let known_then = known_with s voice known t in (
              each_map (HasSaved known_then.saved) (HasSaved known_then.epoch) s.view.full
                  (saved_before known_then.epoch known_then.saved
                  (copies_saved known_then (last_run known_then) same))
                  (each_saved all),
              tt,
            )

    -- whatever it takes
    pub goes : Now (master_row s x)
    goes =
        master_outcomes s x Now (record {
          stays = (was, tt);
          goes_on = λ at is own low. lists s at was;
          asks = λ asked is. (was, tt);
          asks_resting = λ asked current is at. begins (record s { asked = asked }) current (is_some s.front) was;
          is_ordered = λ is at.
              lists (at_phase s (Gathering nothing_known)) 0 (record { saved = tt; hosts = tt; once = tt });
          learns = λ known t is at on some. (learns known t is at on, tt);
          resumes = λ known t phase is at on all same to.
              lists (at_phase (knowing (heard_one s x) (known_with s voice known t)) phase) 0
              (goes_on known t is at on phase all same to);
          resumes_resting = λ known t is at on all most least.
              begins (knowing (heard_one s x) (known_with s voice known t)) (known_with s voice known t).next false
              (learns known t is at on);
          prepares = λ run is at on some. (still (Preparing run) at tt, tt);
          commits = λ run is at on all. lists (at_phase (heard_one s x) (Committing run)) 0 tt;
          finishes = λ run is at on some. (still (Committing run) at tt, tt);
          closes = λ run is at on none all. closes run (heard_one s x);
          is_over = λ is. (was, tt);
          closes_over = λ run is at all. closes run (not_owing s);
          notes = λ run is at on some. (still (Closing run) at tt, tt);
          goes_saving = λ run is at on all first. lists (at_phase (heard_one s x) (Saving run)) 0 tt;
          ends_micro = λ run is at on all other.
              begins (at_end (heard_one s x) run (Micro run.epoch)) run.next false tt;
          saves = λ run is at on some. (still (Saving run) at (saved_more run is at), tt);
          goes_copying = λ run is at on all.
              lists (at_phase (heard_one s x) (Copying run)) 0 (
                each_by_one (HasSaved run.epoch) (heard_one s x).voices s.view.full
                    (all_heard 1 (heard_one s x) all) (saved_more run is at),
                tt,
              );
          copies = λ run is at on some.
              (still (Copying run) at ((at_it (Copying run) at).0, noted_more run is at), tt);
          ends_global = λ run is at on all.
              ends_durable run (at_durable (heard_one s x) run) tt
              (each_by_one (HasNoted run.epoch) (heard_one s x).voices s.view.full
              (all_heard 1 (heard_one s x) all) (noted_more run is at));
          walks = λ is at first. (was, tt);
          hears_walk = λ epoch is at on some. (was, tt);
          asks_walked = λ epoch is at on all. (was, tt);
          asks_walked_resting = λ epoch current is at on all rests.
              begins (have_walked s) current (is_some s.front) was;
          hears_switch = λ epoch is at on some. (was, tt);
          ends_local = λ epoch is at on all. (was, tt);
        })
