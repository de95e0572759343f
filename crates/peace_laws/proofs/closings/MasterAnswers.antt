-- What the president's master does where a member answers in a stage of a closing.
use Rattle.std.proofs.Common.{◌≡◌, ◌⊎◌, ◌∙◌, ◌&&◌, inl, inr, Bool, true, false, not, [], refl, sym, ap}
use Rattle.std.proofs.lemmas.Bool.{false≢true, true≢false}
use Rattle.std.specs.Prelude.{◌==◌, Some}
use Rattle.api_views.specs.declared.closings.Closing.{Closing}
use Rattle.api_views.specs.declared.closings.Closing.TheVariants.{Gcp, Micro, Lcp}
use Rattle.gcp_master.specs.declared.orders.Ended.{Ended}
use Rattle.gcp_master.specs.declared.orders.Ended.TheVariants as ended_as
use Rattle.gcp_master.specs.declared.phase.Asked.{Asked}
use Rattle.gcp_master.specs.declared.phase.Phase.TheVariants as phase
use Rattle.gcp_master.specs.declared.phase.Run.{Run}
use Rattle.gcp_master.specs.declared.voices.Voice.{Voice}
use Rattle.gcp_master.specs.Begin.{begin_if, begins, begins_if, begun, is_global_asked}
use Rattle.gcp_master.specs.Closing.{close_if_all, closed_if, copied_if, copy_by, copy_if, copy_row, ended, finish_by}
use Rattle.gcp_master.specs.Closing.{finish_if, finish_row, note_by, note_if, note_row, noted_by, noted_if, prepare_by}
use Rattle.gcp_master.specs.Closing.{prepare_if, prepare_row, prepared_if, save_by, save_if, save_row, saved_if}
use Rattle.gcp_master.specs.Master.{epoch_table}
use Rattle.gcp_master.specs.Numbers.{is_first}
use Rattle.gcp_master.specs.Sends.{entering, list_effects, listing, marking}
use Rattle.gcp_master.specs.State.{MasterState, all_in, at_phase, counted, counts}
use Rattle.sig_core.specs.declared.mark.Mark.TheVariants.{Closed, Durable}
use Rattle.sig_core.specs.declared.signal.epoch.EpochSignal.{EpochSignal}
use Rattle.sig_core.specs.declared.signal.epoch.EpochSignal.TheVariants as signal
use Rattle.sig_core.specs.Step.{Step, stay}
use Rattle.peace_laws.specs.Closing.{Course, closes_epoch}
use Rattle.peace_laws.specs.UnderWay.{Closes, Commits, Copies, IsAnswer, Prepares, Saves, Stage, blocks_of, ended_by}
use Rattle.peace_laws.specs.UnderWay.{ended_of}
use Rattle.peace_laws.specs.UnderWay.{is_later, is_saving, phase_of, run_of}

-- it answers what was ordered in the stage
abbrev pub is_answer : Course → Stage → EpochSignal → Bool
is_answer c Prepares (signal.GcpPrepareConf epoch) = c.epoch == epoch
is_answer c Commits (signal.GcpNodeFinish epoch) = c.epoch == epoch
is_answer c Closes (signal.GcpClosedConf epoch) = c.epoch == epoch
is_answer c Saves (signal.GcpSaveConf epoch) = c.epoch == epoch
is_answer c Copies (signal.CopyGciConf epoch) = c.epoch == epoch
is_answer c stage signal = false

-- where all have answered the next stage begins, or the closing has ended
abbrev pub completed : Course → Stage → MasterState → Bool → Step MasterState
completed c stage s false = stay s
completed c Prepares s true = entering s (phase.Committing (run_of c))
completed c Commits s true = marking (Closed c.epoch) (entering s (phase.Closing (run_of c)))
completed c Closes s true = noted_by s (run_of c) (is_first c.next)
completed c Saves s true = entering s (phase.Copying (run_of c))
completed c Copies s true = marking (Durable c.epoch) (ended s (run_of c) (ended_as.Global c.epoch false false))

abbrev pub answered : Course → Stage → MasterState → Voice → Bool → Step MasterState
answered c stage s voice true = completed c stage (counted s voice) (all_in (blocks_of stage) (counted s voice))
answered c stage s voice false = stay s

module _ (c : Course) (s : MasterState) (voice : Voice) (owed : s.owed ≡ false) where
  abbrev run : Run
  run = run_of c

  prepare_is : (b : Bool) → prepare_if s voice run b ≡ answered c Prepares s voice b
  prepare_is true = by (all_in 1 (counted s voice))
    where
      by : (all : Bool) → prepared_if (counted s voice) run all ≡ completed c Prepares (counted s voice) all
      by true = refl
      by false = refl
  prepare_is false = refl

  finish_is : (b : Bool) → finish_if s voice run b ≡ answered c Commits s voice b
  unfolding close_if_all
  finish_is true =
      ap (λ o. closed_if (counted s voice) run (not o && all_in 1 (counted s voice))) owed
      ∙ by (all_in 1 (counted s voice))
    where
      by : (all : Bool) → closed_if (counted s voice) run all ≡ completed c Commits (counted s voice) all
      by true = refl
      by false = refl
  finish_is false = refl

  note_is : (b : Bool) → note_if s voice run b ≡ answered c Closes s voice b
  note_is true = by (all_in 2 (counted s voice))
    where
      by : (all : Bool) → noted_if (counted s voice) run all ≡ completed c Closes (counted s voice) all
      by true = refl
      by false = refl
  note_is false = refl

  save_is : (b : Bool) → save_if s voice run b ≡ answered c Saves s voice b
  save_is true = by (all_in 1 (counted s voice))
    where
      by : (all : Bool) → saved_if (counted s voice) run all ≡ completed c Saves (counted s voice) all
      by true = refl
      by false = refl
  save_is false = refl

  copy_is : (b : Bool) → copy_if s voice run b ≡ answered c Copies s voice b
  copy_is true = by (all_in 1 (counted s voice))
    where
      by : (all : Bool) → copied_if (counted s voice) run all ≡ completed c Copies (counted s voice) all
      by true = refl
      by false = refl
  copy_is false = refl

  -- in a stage
  pub answer_is : (committed : Type 0) (said : EpochSignal) → IsAnswer committed said → (stage : Stage)
      → s.phase ≡ phase_of c stage
      → epoch_table s voice said ≡ answered c stage s voice (is_answer c stage said && counts s voice)
  unfolding prepare_row finish_row note_row save_row copy_row
  answer_is committed (signal.GcpPrepareConf epoch) is Prepares at =
      ap (prepare_by s voice epoch) at ∙ prepare_is (c.epoch == epoch && counts s voice)
  answer_is committed (signal.GcpPrepareConf epoch) is stage at = ap (prepare_by s voice epoch) at
  answer_is committed (signal.GcpNodeFinish epoch) is Commits at =
      ap (finish_by s voice epoch) at ∙ finish_is (c.epoch == epoch && counts s voice)
  answer_is committed (signal.GcpNodeFinish epoch) is stage at = ap (finish_by s voice epoch) at
  answer_is committed (signal.GcpClosedConf epoch) is Closes at =
      ap (note_by s voice epoch) at ∙ note_is (c.epoch == epoch && counts s voice)
  answer_is committed (signal.GcpClosedConf epoch) is stage at = ap (note_by s voice epoch) at
  answer_is committed (signal.GcpSaveConf epoch) is Saves at =
      ap (save_by s voice epoch) at ∙ save_is (c.epoch == epoch && counts s voice)
  answer_is committed (signal.GcpSaveConf epoch) is stage at = ap (save_by s voice epoch) at
  answer_is committed (signal.CopyGciConf epoch) is Copies at =
      ap (copy_by s voice epoch) at ∙ copy_is (c.epoch == epoch && counts s voice)
  answer_is committed (signal.CopyGciConf epoch) is stage at = ap (copy_by s voice epoch) at
  answer_is committed said is stage at = absurd is

  -- behind all of them
  pub none_counts : (committed : Type 0) (said : EpochSignal) → IsAnswer committed said
      → s.phase ≡ phase.Resting c.next → epoch_table s voice said ≡ stay s
  unfolding prepare_row finish_row note_row save_row copy_row
  none_counts committed (signal.GcpPrepareConf epoch) is at = ap (prepare_by s voice epoch) at
  none_counts committed (signal.GcpNodeFinish epoch) is at = ap (finish_by s voice epoch) at
  none_counts committed (signal.GcpClosedConf epoch) is at = ap (note_by s voice epoch) at
  none_counts committed (signal.GcpSaveConf epoch) is at = ap (save_by s voice epoch) at
  none_counts committed (signal.CopyGciConf epoch) is at = ap (copy_by s voice epoch) at
  none_counts committed said is at = absurd is

-- a checkpoint ends an epoch of a checkpoint number, and a micro closing doesn't
abbrev pub is_gcp : Closing → Bool
is_gcp Gcp = true
is_gcp Micro = false
is_gcp Lcp = true

abbrev none_asked : Asked
none_asked = record { global = false; copy = false; local = false; micro = false }

-- a master that has ended the closing
abbrev pub over_at : Course → MasterState → MasterState
over_at c s = record s { phase = phase.Resting c.next; front = Some (ended_of c); voices = [] }

-- the next stage begins with such a step
pub record Enters (c : Course) (stage : Stage) (s : MasterState) (t : Step MasterState) : Type 0 where
  pub next : Stage
  pub state : t.state ≡ (listing (at_phase s (phase_of c next)) 0).state
  pub sends : t.effects.sends ≡ (list_effects (at_phase s (phase_of c next)) 0).sends
  pub later : is_later next ≡ true → (is_later stage ≡ true) ⊎ (stage ≡ Commits)
  pub global : is_saving next ≡ true → c.kind ≡ Gcp

-- or the closing ends with it
pub record Ends (c : Course) (stage : Stage) (s : MasterState) (t : Step MasterState) : Type 0 where
  pub state : t.state ≡ (listing (over_at c s) 0).state
  pub sends : t.effects.sends ≡ (list_effects (over_at c s) 0).sends
  pub later : is_later stage ≡ true

module _ (c : Course) (s : MasterState) (asked : s.asked ≡ none_asked) where
  ended_is : (what : Ended) → what ≡ ended_of c → ended s (run_of c) what ≡ listing (over_at c s) 0
  unfolding begins begun
  ended_is what is =
      ap (ended s (run_of c)) is
      ∙ ap (λ (a : Asked).
      begins_if
      (begin_if (record (at_phase s (phase.Resting c.next)) { front = Some (ended_of c) }) c.next
      (is_global_asked a) a.micro).state
      (begin_if (record (at_phase s (phase.Resting c.next)) { front = Some (ended_of c) }) c.next
      (is_global_asked a) a.micro).spent false) asked

  listing_sends : (now : MasterState) → (listing now 0).effects.sends ≡ (list_effects now 0).sends
  unfolding listing
  listing_sends now = refl

  enters : (stage next : Stage) (t : Step MasterState) → t ≡ listing (at_phase s (phase_of c next)) 0
      → (is_later next ≡ true → (is_later stage ≡ true) ⊎ (stage ≡ Commits))
      → (is_saving next ≡ true → c.kind ≡ Gcp) → Enters c stage s t
  enters stage next t is later global = record {
    next = next;
    state = ap (λ (t : Step MasterState). t.state) is;
    sends = ap (λ (t : Step MasterState). t.effects.sends) is ∙ listing_sends (at_phase s (phase_of c next));
    later = later;
    global = global;
  }

  ends : (stage : Stage) (t : Step MasterState) → t ≡ listing (over_at c s) 0 → is_later stage ≡ true
      → Ends c stage s t
  ends stage t is later = record {
    state = ap (λ (t : Step MasterState). t.state) is;
    sends = ap (λ (t : Step MasterState). t.effects.sends) is ∙ listing_sends (over_at c s);
    later = later;
  }

  -- where all have answered
  pub completes : is_first c.next ≡ is_gcp c.kind → (stage : Stage) → (is_saving stage ≡ true → c.kind ≡ Gcp)
      → Enters c stage s (completed c stage s true) ⊎ Ends c stage s (completed c stage s true)
  completes first Prepares global =
      inl (enters Prepares Commits _ refl (λ later. absurd (false≢true later)) (λ saves. absurd (false≢true saves)))
  completes first Commits global =
      inl (record {
        next = Closes;
        state = refl;
        sends = listing_sends (at_phase s (phase.Closing (run_of c)));
        later = λ later. inr refl;
        global = λ saves. absurd (false≢true saves);
      })
  completes first Closes global = by c.kind refl
    where
      by : (kind : Closing) → c.kind ≡ kind
          → Enters c Closes s (completed c Closes s true) ⊎ Ends c Closes s (completed c Closes s true)
      by Gcp is =
          inl
          (enters Closes Saves _ (ap (noted_by s (run_of c)) (first ∙ ap is_gcp is)) (λ later. inl refl)
          (λ saves. is))
      by Micro is =
          inr
          (ends Closes _
          (ap (noted_by s (run_of c)) (first ∙ ap is_gcp is)
          ∙ ended_is (ended_as.Micro c.epoch) (ap (ended_by c.epoch) (sym is))) refl)
      by Lcp is = absurd (true≢false (sym c.closes ∙ ap closes_epoch is))
  completes first Saves global =
      inl (enters Saves Copies _ refl (λ later. inl refl) (λ saves. global refl))
  completes first Copies global =
      let step : Ends c Copies s (ended s (run_of c) (ended_as.Global c.epoch false false)) =
      ends Copies _ (ended_is (ended_as.Global c.epoch false false) (ap (ended_by c.epoch) (sym (global refl)))) refl in
      inr (record { state = step.state; sends = step.sends; later = step.later })
