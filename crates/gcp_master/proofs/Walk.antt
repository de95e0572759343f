-- What holds of each list of a master of checkpoints, and of each mark, holds of all that it sends and marks.
use Rattle.std.proofs.Common.{◌≡◌, ◌≤◌, ℕ, Bool, true, false, nat_le, nat_lt, List, [], ◌∷◌, length, ◌+◌, refl, arith}
use Rattle.std.proofs.lemmas.Bool.{and_parts}
use Rattle.std.proofs.lemmas.Bool.Decides.{nat_tests}
use Rattle.std.specs.Prelude.{None, is_some}
use Rattle.run_theory.specs.Lists.{Each, IsIn}
use Rattle.sig_core.specs.declared.mark.Mark.{Mark}
use Rattle.sig_core.specs.declared.mark.Mark.TheVariants.{Closed, Durable, Stopped}
use Rattle.sig_core.specs.declared.member.Member.{Member}
use Rattle.sig_core.specs.declared.outcome.StopCause.TheVariants.{Clock}
use Rattle.sig_core.specs.declared.outs.Outgoing.{Outgoing}
use Rattle.sig_core.specs.declared.portion.TheConstants.{PORTION}
use Rattle.sig_core.specs.declared.place.BlockId.TheVariants.{Lqh}
use Rattle.sig_core.specs.declared.signal.Body.TheVariants.{Takeover, Epoch, Checkpoint}
use Rattle.sig_core.specs.declared.signal.Signal.{Signal}
use Rattle.sig_core.specs.declared.signal.checkpoint.CheckpointSignal.TheVariants.{LcpReq, LcpFragOrd, LcpRep}
use Rattle.sig_core.specs.declared.signal.checkpoint.CheckpointSignal.TheVariants.{LcpSwitchConf}
use Rattle.sig_core.specs.declared.signal.epoch.EpochSignal.TheVariants.{GcpNodeFinish, CopyGciConf}
use Rattle.sig_core.specs.declared.signal.takeover.TakeoverSignal.TheVariants.{TakeoverEnd}
use Rattle.sig_core.specs.Place.{client}
use Rattle.sig_core.specs.Step.{Step, stay, to_place}
use Rattle.step_forms.specs.Does.{Does, IsAmong, IsWord}
use Rattle.gcp_master.specs.declared.local.LocalStage.TheVariants.{Idle, Switching}
use Rattle.gcp_master.specs.declared.orders.Order.TheVariants.{Walk}
use Rattle.gcp_master.specs.declared.phase.Phase.TheVariants.{Committing, Copying}
use Rattle.gcp_master.specs.declared.phase.Run.{Run}
use Rattle.gcp_master.specs.Master.{master_row}
use Rattle.gcp_master.specs.Orders.{order_body}
use Rattle.gcp_master.specs.Resume.{is_president}
use Rattle.gcp_master.specs.Sends.{list_effects, listing, marking, master_sends, told_if}
use Rattle.gcp_master.specs.State.{MasterState, all_in, counts}
use Rattle.gcp_master.specs.Voices.{has_all, voices_of}
use Rattle.gcp_master.specs.Words.{MasterKeepsToItsWords, is_master_mark, is_master_word}
use Rattle.gcp_master.proofs.Lists.{ListForms, list_each, mapped_order}
use Rattle.gcp_master.proofs.Outcomes.{BeginOutcomes, heard_one, master_outcomes, not_owing, stopping, telling_local}
use Rattle.gcp_master.proofs.Outcomes.{voice_of, walking}

-- so many blocks of each full member are heard
pub all_heard : (blocks : ℕ) (s : MasterState) → all_in blocks s ≡ true
    → Each (λ member. blocks ≤ voices_of s.voices member) s.view.full
unfolding all_in
all_heard blocks s is =
    each_all s.view.full (and_parts (has_all blocks s.voices s.view.full) (has_all blocks s.voices s.view.starting)
    is).0
  where
    each_all : (members : List Member) → has_all blocks s.voices members ≡ true
        → Each (λ member. blocks ≤ voices_of s.voices member) members
    each_all [] is = tt
    each_all (member ∷ members) is =
        let parts = and_parts (nat_le blocks (voices_of s.voices member)) (has_all blocks s.voices members) is in
        let here = parts.0 in
        (grind (arith, nat_tests, here), each_all members parts.1)

-- a run is closed: the last confirmation came and no takeover is owed, or all were there and the takeover has ended
pub data IsClosing (s : MasterState) (x : Signal) (run : Run) : Type 0 where
  is_last : x.body ≡ Epoch (GcpNodeFinish run.epoch) → counts s (voice_of x) ≡ true → s.owed ≡ false
      → all_in 1 (heard_one s x) ≡ true → IsClosing s x run
  is_over : x.body ≡ Takeover TakeoverEnd → all_in 1 (not_owing s) ≡ true → IsClosing s x run

-- R is of each kind of step that the master may take: it sends nothing, it stops, it sends of a list, a run is closed
-- or becomes durable beside that, or a local checkpoint begins or has ended
pub record MasterSteps (s : MasterState) (x : Signal) (R : Step MasterState → Type 0) : Type 0 where
  pub stays : (t : MasterState) → R (stay t)
  pub stops : (t : MasterState) → R (stopping t)
  pub lists : (t : MasterState) (at : ℕ) → t.member ≡ s.member → t.view ≡ s.view → R (listing t at)
  pub closes : (run : Run) (t : MasterState) → t.member ≡ s.member → t.view ≡ s.view → s.phase ≡ Committing run
      → IsClosing s x run → R (marking (Closed run.epoch) (listing t 0))
  pub makes_durable : (run : Run) (step : Step MasterState) → x.body ≡ Epoch (CopyGciConf run.epoch)
      → s.phase ≡ Copying run → counts s (voice_of x) ≡ true → all_in 1 (heard_one s x) ≡ true → R step
      → R (marking (Durable run.epoch) step)
  pub walks : x.body ≡ Checkpoint LcpReq → s.local.stage ≡ Idle → is_president s.member s.view ≡ true
      → R (walking s)
  pub tells_local : (epoch : ℕ) → x.body ≡ Checkpoint LcpSwitchConf → s.local.stage ≡ Switching epoch
      → R (telling_local s epoch)

steps_begin : (s : MasterState) (x : Signal) (R : Step MasterState → Type 0) → MasterSteps s x R → (t : MasterState)
    (current : ℕ) (behind : Bool) → t.member ≡ s.member → t.view ≡ s.view → BeginOutcomes t current behind R
steps_begin s x R steps t current behind member view =
    record {
      stops = λ spent. steps.stops t;
      follows = λ phase asked is front. steps.stays _;
      begins = λ phase asked is front. steps.lists _ 0 member view;
    }

pub master_steps : (s : MasterState) (x : Signal) (R : Step MasterState → Type 0) → MasterSteps s x R
    → R (master_row s x)
master_steps s x R steps =
    master_outcomes s x R (record {
      stays = steps.stays s;
      goes_on = λ at is own low. steps.lists s at refl refl;
      asks = λ asked is. steps.stays _;
      asks_resting = λ asked current is at. steps_begin s x R steps _ current (is_some s.front) refl refl;
      is_ordered = λ is at. steps.lists _ 0 refl refl;
      learns = λ known t is at on some. steps.stays _;
      resumes = λ known t phase is at on all same to. steps.lists _ 0 refl refl;
      resumes_resting = λ known t is at on all most least. steps_begin s x R steps _ _ false refl refl;
      prepares = λ run is at on some. steps.stays _;
      commits = λ run is at on all. steps.lists _ 0 refl refl;
      finishes = λ run is at on some. steps.stays _;
      closes = λ run is at on none all. steps.closes run _ refl refl at (is_last is on none all);
      is_over = λ is. steps.stays _;
      closes_over = λ run is at all. steps.closes run _ refl refl at (is_over is all);
      notes = λ run is at on some. steps.stays _;
      goes_saving = λ run is at on all first. steps.lists _ 0 refl refl;
      ends_micro = λ run is at on all other. steps_begin s x R steps _ run.next false refl refl;
      saves = λ run is at on some. steps.stays _;
      goes_copying = λ run is at on all. steps.lists _ 0 refl refl;
      copies = λ run is at on some. steps.stays _;
      ends_global = λ run is at on all. record {
        stops = λ spent. steps.makes_durable run _ is at on all (steps.stops _);
        follows = λ phase asked begun behind. steps.makes_durable run _ is at on all (steps.stays _);
        begins = λ phase asked begun behind. steps.makes_durable run _ is at on all (steps.lists _ 0 refl refl);
      };
      walks = steps.walks;
      hears_walk = λ epoch is at on some. steps.stays _;
      asks_walked = λ epoch is at on all. steps.stays _;
      asks_walked_resting = λ epoch current is at on all rests.
          steps_begin s x R steps _ current (is_some s.front) refl refl;
      hears_switch = λ epoch is at on some. steps.stays _;
      ends_local = λ epoch is at on all. steps.tells_local epoch is at;
    })

-- P is of each signal of each list, and M of each mark
pub record MasterForms (s : MasterState) (x : Signal) (P : Outgoing → Type 0) (M : Mark → Type 0) : Type 0 where
  pub lists : (t : MasterState) → t.member ≡ s.member → t.view ≡ s.view → ListForms t P
  pub closed : (run : Run) → s.phase ≡ Committing run → IsClosing s x run → M (Closed run.epoch)
  pub durable : (run : Run) → x.body ≡ Epoch (CopyGciConf run.epoch) → s.phase ≡ Copying run
      → counts s (voice_of x) ≡ true → all_in 1 (heard_one s x) ≡ true → M (Durable run.epoch)
  pub stopped : M (Stopped Clock)
  pub walks : (member : Member) → x.body ≡ Checkpoint LcpReq → s.local.stage ≡ Idle
      → is_president s.member s.view ≡ true → IsIn member s.view.full
      → P (to_place (record { node = member.node; block = Lqh }) (Checkpoint LcpFragOrd))
  pub tells_local : (epoch : ℕ) → x.body ≡ Checkpoint LcpSwitchConf → s.local.stage ≡ Switching epoch
      → P (to_place client (Checkpoint (LcpRep epoch)))

-- what a listing sends and marks
pub listing_does : (s : MasterState) (at : ℕ) (P : Outgoing → Type 0) (M : Mark → Type 0) → ListForms s P
    → Does P M (listing s at)
unfolding listing list_effects
listing_does s at P M forms = (list_each s P forms at, tt)

-- its state is the one that lists, but for whom is left to tell
pub listing_state : (s : MasterState) (at : ℕ) (Q : MasterState → Type 0) → Q s → Q (record s { front = None })
    → Q (listing s at).state
unfolding listing
listing_state s at Q same told = by (nat_lt (at + PORTION) (length (master_sends s)))
  where
    by : (left : Bool) → Q (told_if s left)
    by true = same
    by false = told

-- what is sent where a local checkpoint begins
pub walking_does : (s : MasterState) (P : Outgoing → Type 0) (M : Mark → Type 0)
    → ((member : Member) → IsIn member s.view.full
    → P (to_place (record { node = member.node; block = Lqh }) (Checkpoint LcpFragOrd)))
    → Does P M (walking s)
unfolding order_body
walking_does s P M own = (mapped_order s P Lqh Walk s.view.full own, tt)

-- all that it sends and marks
pub master_each : (s : MasterState) (x : Signal) (P : Outgoing → Type 0) (M : Mark → Type 0) → MasterForms s x P M
    → Does P M (master_row s x)
master_each s x P M forms =
    master_steps s x (λ step. Does P M step) (record {
      stays = λ t. (tt, tt);
      stops = λ t. (tt, (forms.stopped, tt));
      lists = λ t at member view. listing_does t at P M (forms.lists t member view);
      closes = λ run t member view at is.
          let does = listing_does t 0 P M (forms.lists t member view) in
          (does.0, (forms.closed run at is, does.1));
      makes_durable = λ run step is at on all does. (does.0, (forms.durable run is at on all, does.1));
      walks = λ is at first. walking_does s P M (λ member there. forms.walks member is at first there);
      tells_local = λ epoch is at. ((forms.tells_local epoch is at, tt), tt);
    })

-- it keeps to its words
pub master_words : MasterKeepsToItsWords
unfolding order_body
master_words s x =
    master_each s x (IsWord is_master_word) (IsAmong is_master_mark) (record {
      lists = λ t member view. record {
        asks = λ known to member is one there. refl;
        prepares = λ run member is there. refl;
        commits = λ run member is there. refl;
        closes = λ run to member is one there. refl;
        saves = λ run member is there. refl;
        copies = λ run member is there. refl;
        tells_micro = λ epoch is. refl;
        tells_global = λ epoch copy local is. refl;
        tells_members = λ epoch copy local to member is one there. refl;
        tells_copying = λ epoch local is. refl;
        switches = λ epoch copy member is there. refl;
        goes_on = λ left. refl;
      };
      closed = λ run at is. refl;
      durable = λ run is at on all. refl;
      stopped = refl;
      walks = λ member is at first there. refl;
      tells_local = λ epoch is at. refl;
    })
