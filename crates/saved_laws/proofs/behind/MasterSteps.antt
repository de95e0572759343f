-- Whatever the president's master takes, it begins nothing before all that was saved is durable: a run that is closed
-- without being saved has not been named by a saved epoch, and one that is durable makes so all that was saved.
use Rattle.std.proofs.Common.{◌∙◌, ◌∷◌, ◌≡◌, ◌≤◌, ◌⊎◌, Bool, List, ap, arith, false, inl, inr, refl, subst, sym, true}
use Rattle.std.proofs.Common.{ℕ}
use Rattle.std.proofs.lemmas.Bool.{true≢false}
use Rattle.std.specs.Prelude.{is_some}
use Rattle.run_theory.proofs.Pasts.{each_from, each_in, each_map}
use Rattle.run_theory.specs.Lists.{IsIn}
use Rattle.sig_core.specs.Step.{Step}
use Rattle.sig_core.specs.declared.mark.Mark.{Mark}
use Rattle.sig_core.specs.declared.mark.Mark.TheVariants.{Durable}
use Rattle.sig_core.specs.declared.member.Member.{Member}
use Rattle.sig_core.specs.declared.signal.Body.{Body}
use Rattle.sig_core.specs.declared.signal.Body.TheVariants.{Epoch}
use Rattle.sig_core.specs.declared.signal.Signal.{Signal}
use Rattle.sig_core.specs.declared.signal.epoch.EpochSignal.TheVariants.{GcpStateConf}
use Rattle.dih_node.specs.State.{DihState}
use Rattle.gcp_master.proofs.Outcomes.{BeginOutcomes, Begins, Resumes, a_global, a_micro, at_durable, at_end}
use Rattle.gcp_master.proofs.Outcomes.{beginning, begins_outcomes, have_walked, heard_one, known_with}
use Rattle.gcp_master.proofs.Outcomes.{master_outcomes, not_owing, nothing_asked, resumed_is, state_body, to_commit}
use Rattle.gcp_master.proofs.Outcomes.{to_copy, to_prepare, voice_of}
use Rattle.gcp_master.proofs.Walk.{listing_state}
use Rattle.gcp_master.specs.Known.{last_run, nothing_known, resumed}
use Rattle.gcp_master.specs.Master.{master_row, master_table, told}
use Rattle.gcp_master.specs.Numbers.{is_first}
use Rattle.gcp_master.specs.Resume.{knowing, resume_at, state_by, state_if, state_row, told_all_if}
use Rattle.gcp_master.specs.Sends.{listing}
use Rattle.gcp_master.specs.State.{MasterState, all_in, at_phase, counts}
use Rattle.gcp_master.specs.declared.known.Known.{Known}
use Rattle.gcp_master.specs.declared.known.Told.{Told}
use Rattle.gcp_master.specs.declared.orders.Ended.TheVariants.{Micro}
use Rattle.gcp_master.specs.declared.phase.Asked.{Asked}
use Rattle.gcp_master.specs.declared.phase.Phase.{Phase}
use Rattle.gcp_master.specs.declared.phase.Phase.TheVariants.{Closing, Committing, Copying, Gathering, Preparing}
use Rattle.gcp_master.specs.declared.phase.Phase.TheVariants.{Resting, Saving, Unordered}
use Rattle.gcp_master.specs.declared.phase.Run.{Run}
use Rattle.world_core.specs.Start.{Start, made}
use Rattle.world_core.specs.Steps.{Addressed, HostStep}
use Rattle.moment_laws.specs.Moments.{IsMoment, current, logs_of}
use Rattle.epoch_laws.proofs.DihMoves.{Stays}
use Rattle.epoch_laws.proofs.MasterKeeps.{IsBefore}
use Rattle.epoch_laws.proofs.StandMarks.{full_before}
use Rattle.epoch_laws.specs.Alike.{IsAcross, Rests}
use Rattle.epoch_laws.specs.Masters.{IsRightIn}
use Rattle.epoch_laws.specs.Members.{epochs_of}
use Rattle.epoch_laws.specs.Stand.{AllStand}
use Rattle.epoch_laws.specs.Told.{IsTrueOf}
use Rattle.closing_laws.proofs.durable.Reached.{HasReached}
use Rattle.saved_laws.proofs.behind.Phases.{before_next, durable_next, phase_next}
use Rattle.saved_laws.proofs.behind.Reached.{AreReached}
use Rattle.saved_laws.proofs.behind.Resumption.{resumed_before, resumed_last, resumed_resting}
use Rattle.saved_laws.proofs.behind.Statement.{AllBehind, AreDurable, AreDurableBefore, IsBehind, IsLastOrder}
use Rattle.saved_laws.proofs.behind.Statement.{IsSettled, KnowsDurable, durable_before, saved_at}
use Rattle.saved_laws.proofs.behind.Tells.{is_state}
use Rattle.saved_laws.specs.Behind.{IsDurable}

-- who is across has prepared for no later epoch
across_last : (epoch next : ℕ) (s : DihState) → IsAcross epoch next s → s.prepared ≤ epoch
across_last epoch next s (inl ready) = let same = ready.prepared_is in omega (arith, same)
across_last epoch next s (inr gone) = gone.prepared

module _ (start : Start) (all : ℕ → List HostStep) (e : HostStep) (es : List HostStep)
    (moment : IsMoment start all (e ∷ es)) (stand : AllStand start (logs_of start es))
    (behind : AllBehind start (logs_of start es)) (reached : AreReached start (logs_of start es))
    (kept : (member : Member) → IsIn member (made start)
    → saved_at start (logs_of start (e ∷ es)) member ≡ saved_at start (logs_of start es) member)
    (stays : (member : Member) → Stays (epochs_of start (logs_of start es) member)
    (epochs_of start (logs_of start (e ∷ es)) member))
  where
    abbrev old : ℕ → List HostStep
    old = logs_of start es

    abbrev new : ℕ → List HostStep
    new = logs_of start (e ∷ es)

    abbrev x : Signal
    x = e.step.taken

    abbrev it : Addressed
    it = record { to = e.host; signal = x }

    last_on : (epoch : ℕ) → IsLastOrder start old epoch → IsLastOrder start new epoch
    last_on epoch each =
        each_from (λ (m : Member). (epochs_of start new m).prepared ≤ epoch) (current start new).full
        (λ full inside.
        subst (λ n. n ≤ epoch) (sym (stays full).prepared_is)
        (each_in (λ (m : Member). (epochs_of start old m).prepared ≤ epoch) full (current start old).full each
        (full_before start all e es moment stand full inside)))

    before_on : (epoch : ℕ) → AreDurableBefore start old epoch → AreDurableBefore start new epoch
    before_on epoch = before_next start all e es moment epoch (λ member there. inl (kept member there))

    durable_on : AreDurable start old → AreDurable start new
    durable_on = durable_next start all e es moment kept

    phase_on : (phase : Phase) → IsBehind start old phase → IsBehind start new phase
    phase_on phase =
        phase_next start all e es moment phase (λ member there. inl (kept member there))
        (λ run late. last_on run.epoch)

    -- what a step comes to, where what it marks as durable is so
    abbrev IsSo : MasterState → Type 0
    IsSo s = IsBehind start new s.phase

    abbrev AreMarked : List Mark → Type 0
    AreMarked marks = (epoch : ℕ) → IsIn (Durable epoch) marks → IsDurable start new epoch

    abbrev Now : Step MasterState → Type 0
    Now step = AreMarked step.effects.marks → IsSo step.state

    lists : (t : MasterState) (at : ℕ) → IsSo t → Now (listing t at)
    lists t at is marked = listing_state t at IsSo is is

    begun : (t : MasterState) (current : ℕ) (phase : Phase) (asked : Asked) → Begins t current phase asked
        → AreDurable start new → IsBehind start new phase
    begun t current _ _ (a_global next for is) durable = λ member there. inl (durable member there)
    begun t current _ _ (a_micro next none for is) durable = λ member there. inl (durable member there)
    begun t current _ _ (nothing_asked none micro) durable = durable

    begins : (t : MasterState) (current : ℕ) (late : Bool) → IsSo t → AreDurable start new
        → BeginOutcomes t current late Now
    begins t current late is durable = record {
      stops = λ spent marked. is;
      follows = λ phase asked begins front marked. begun t current phase asked begins durable;
      begins = λ phase asked begins front.
          lists (beginning t phase asked) 0 (begun t current phase asked begins durable);
    }

    -- of the master that takes the signal
    module _ (s : MasterState) (before : (s.phase ≡ Unordered) ⊎ IsBefore start old s)
        (was : IsBehind start old s.phase) (told_true : IsTrueOf start old it x.body)
      where
        still : IsSo s
        still = phase_on s.phase was

        was_at : (phase : Phase) → s.phase ≡ phase → IsBehind start old phase
        was_at phase at = subst (IsBehind start old) at was

        at_it : (phase : Phase) → s.phase ≡ phase → IsBehind start new phase
        at_it phase at = phase_on phase (was_at phase at)

        -- a master that does something is that of the current view
        acts : (phase : Phase) → s.phase ≡ phase → (Unordered ≡ phase → ⊥) → IsBefore start old s
        acts phase at differ = by before
          where
            by : (s.phase ≡ Unordered) ⊎ IsBefore start old s → IsBefore start old s
            by (inl idle) = absurd (differ (sym idle ∙ at))
            by (inr stands) = stands

        right_at : (phase : Phase) → s.phase ≡ phase → (Unordered ≡ phase → ⊥) → IsRightIn start old s.voices phase
        right_at phase at differ = subst (IsRightIn start old s.voices) at (acts phase at differ).right

        -- a run that is closed
        closing : (run : Run) → s.phase ≡ Committing run → IsBehind start new (Closing run)
        closing run at = (
          at_it (Committing run) at,
          last_on run.epoch
              (each_map (λ (m : Member). IsAcross run.epoch run.next (epochs_of start old m))
              (λ (m : Member). (epochs_of start old m).prepared ≤ run.epoch) (current start old).full
              (λ m. across_last run.epoch run.next (epochs_of start old m))
              (right_at (Committing run) at (λ same. absurd cc)).0.each),
        )

        -- all rest in an epoch that is no first one
        ends_small : (run : Run) → s.phase ≡ Closing run → is_first run.next ≡ false → AreDurable start new
        ends_small run at other = durable_on durable
          where
            stands : IsBefore start old s
            stands = acts (Closing run) at (λ same. absurd cc)

            rests : Rests run.next (epochs_of start old stands.one)
            rests =
                each_in (λ (m : Member). Rests run.next (epochs_of start old m)) stands.one (current start old).full
                (right_at (Closing run) at (λ same. absurd cc)).each stands.one_in

            by : (member : Member) → IsSettled start old member (epochs_of start old stands.one)
                → IsDurable start old (saved_at start old member)
            by member (inl is) = is
            by member (inr followed) =
                absurd (true≢false (sym followed.first ∙ ap is_first rests.gives ∙ other))

            durable : AreDurable start old
            durable member there =
                by member
                (each_in (λ (m : Member). IsSettled start old member (epochs_of start old m)) stands.one
                (current start old).full (behind.settled member there) stands.one_in)

        -- all that was saved is at most the epoch that becomes durable
        ends_durable : (run : Run) → s.phase ≡ Copying run → IsDurable start new run.epoch → AreDurable start new
        ends_durable run at durable member there =
            let stands : IsBefore start old s = acts (Copying run) at (λ same. absurd cc) in
            let last : (epochs_of start old stands.one).prepared ≤ run.epoch =
            each_in (λ (m : Member). (epochs_of start old m).prepared ≤ run.epoch) stands.one (current start old).full
            (was_at (Copying run) at).1 stands.one_in in
            let has : HasReached (saved_at start old member) (epochs_of start old stands.one) =
            each_in (λ (m : Member). HasReached (saved_at start old member) (epochs_of start old m)) stands.one
            (current start old).full (reached member there) stands.one_in in
            let low = has.ordered in
            let same = kept member there in
            durable_before start new (saved_at start new member) run.epoch (omega (arith, last, low, same)) durable

        -- all have told how far they are
        module _ (known : Known) (t : Told) (is : x.body ≡ state_body t) (at : s.phase ≡ Gathering known)
            (on : counts s (voice_of x) ≡ true)
            (knows : KnowsDurable start old (known_with s (voice_of x) known t))
          where
            abbrev learned : Known
            learned = known_with s (voice_of x) known t

            module _ (told_all : all_in 2 (heard_one s x) ≡ true) where
              stands : IsBefore start old s
              stands = acts (Gathering known) at (λ same. absurd cc)

              earlier : AreDurableBefore start new learned.epoch
              earlier =
                  before_on learned.epoch
                  (resumed_before start old s it stands told_true known t is at on told_all behind.settled)

              goes_on : (phase : Phase) → resumed learned ≡ phase
                  → Resumes learned phase
                  ⊎ ((phase ≡ Resting learned.next)
                  × ((learned.next ≤ learned.greatest) × (learned.next ≤ learned.least)))
                  → Now (resume_at (knowing (heard_one s x) learned) phase)
              goes_on _ same (inl (to_prepare low)) =
                  lists (at_phase (knowing (heard_one s x) learned) (Preparing (last_run learned))) 0 earlier
              goes_on _ same (inl (to_commit most)) =
                  lists (at_phase (knowing (heard_one s x) learned) (Committing (last_run learned))) 0 earlier
              goes_on _ same (inl (to_copy most least)) =
                  lists (at_phase (knowing (heard_one s x) learned) (Copying (last_run learned))) 0 (
                    earlier,
                    last_on learned.epoch
                        (resumed_last start old s it stands told_true known t is at on told_all behind.settled),
                  )
              goes_on phase same (inr (rests, (most, least))) =
                  subst (λ phase. Now (resume_at (knowing (heard_one s x) learned) phase)) (sym rests)
                  (begins_outcomes (knowing (heard_one s x) learned) learned.next false Now
                  (begins (knowing (heard_one s x) learned) learned.next false tt
                  (durable_on
                  (resumed_resting start old s it stands told_true known t is at on told_all behind.settled reached
                  knows least (same ∙ rests)))))

            told_by : (b : Bool) → all_in 2 (heard_one s x) ≡ b
                → Now (told_all_if (knowing (heard_one s x) learned) learned b)
            told_by true told_all = goes_on told_all (resumed learned) refl (resumed_is learned)
            told_by false some = λ marked. tt

        module _ (learns : (t : Told) → x.body ≡ state_body t → (known : Known) → s.phase ≡ Gathering known
            → KnowsDurable start old (known_with s (voice_of x) known t))
          where
            states : (t : Told) → x.body ≡ state_body t → Now (state_row s (voice_of x) t)
            unfolding state_row
            states t is = by s.phase refl
              where
                heard : (known : Known) → s.phase ≡ Gathering known → (b : Bool) → counts s (voice_of x) ≡ b
                    → Now (state_if s (voice_of x) (known_with s (voice_of x) known t) b)
                heard known at true on =
                    told_by known t is at on (learns t is known at) (all_in 2 (heard_one s x)) refl
                heard known at false off = λ marked. still

                by : (phase : Phase) → s.phase ≡ phase → Now (state_by s (voice_of x) t phase)
                by (Gathering known) at = heard known at (counts s (voice_of x)) refl
                by _ at = λ marked. still

            else_so : is_state x.body ≡ false → Now (master_row s x)
            else_so off =
                master_outcomes s x Now (record {
                  stays = λ marked. still;
                  goes_on = λ at is own low. lists s at still;
                  asks = λ asked is marked. still;
                  asks_resting = λ asked current is at.
                      begins (record s { asked = asked }) current (is_some s.front) still (at_it (Resting current) at);
                  is_ordered = λ is at. lists (at_phase s (Gathering nothing_known)) 0 tt;
                  learns = λ known t is at on some. absurd (true≢false (sym (ap is_state is) ∙ off));
                  resumes = λ known t phase is at on all same to. absurd (true≢false (sym (ap is_state is) ∙ off));
                  resumes_resting = λ known t is at on all most least.
                      absurd (true≢false (sym (ap is_state is) ∙ off));
                  prepares = λ run is at on some marked. still;
                  commits = λ run is at on all.
                      lists (at_phase (heard_one s x) (Committing run)) 0 (at_it (Preparing run) at);
                  finishes = λ run is at on some marked. still;
                  closes = λ run is at on none all marked.
                      lists (at_phase (heard_one s x) (Closing run)) 0 (closing run at)
                      (λ epoch there. marked epoch (inr there));
                  is_over = λ is marked. still;
                  closes_over = λ run is at all marked.
                      lists (at_phase (not_owing s) (Closing run)) 0 (closing run at)
                      (λ epoch there. marked epoch (inr there));
                  notes = λ run is at on some marked. still;
                  goes_saving = λ run is at on all first.
                      lists (at_phase (heard_one s x) (Saving run)) 0
                      (let late = at_it (Closing run) at in (late.0, (late.1, first)));
                  ends_micro = λ run is at on all other.
                      let durable = ends_small run at other in
                      begins (at_end (heard_one s x) run (Micro run.epoch)) run.next false durable durable;
                  saves = λ run is at on some marked. still;
                  goes_copying = λ run is at on all.
                      lists (at_phase (heard_one s x) (Copying run)) 0
                      (let late = at_it (Saving run) at in (late.0, late.1.0));
                  copies = λ run is at on some marked. still;
                  ends_global = λ run is at on all.
                      let t = at_durable (heard_one s x) run in
                      let now : IsDurable start new run.epoch → AreDurable start new = ends_durable run at in
                      record {
                        stops = λ spent marked. now (marked run.epoch (inl refl));
                        follows = λ phase asked begins front marked.
                            begun t run.next phase asked begins (now (marked run.epoch (inl refl)));
                        begins = λ phase asked begins front marked.
                            lists (beginning t phase asked) 0
                            (begun t run.next phase asked begins (now (marked run.epoch (inl refl))))
                            (λ epoch there. marked epoch (inr there));
                      };
                  walks = λ is at first marked. still;
                  hears_walk = λ epoch is at on some marked. still;
                  asks_walked = λ epoch is at on all marked. still;
                  asks_walked_resting = λ epoch current is at on all rests.
                      begins (have_walked s) current (is_some s.front) still (at_it (Resting current) rests);
                  hears_switch = λ epoch is at on some marked. still;
                  ends_local = λ epoch is at on all marked. still;
                })

            -- whatever it takes
            pub master_behind : Now (master_row s x)
            master_behind = by x.body refl
              where
                by : (body : Body) → x.body ≡ body → Now (master_row s x)
                by (Epoch (GcpStateConf now prepared next closed saved durable)) is =
                    subst
                    (λ body. Now (master_table s (voice_of x) x.view.number body))
                    (sym is) (states (told now prepared next closed saved durable) is)
                by body is = else_so (ap is_state is)
