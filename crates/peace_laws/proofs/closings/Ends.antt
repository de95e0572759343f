-- A closing that was asked for has ended once nothing is under way any more.
use Rattle.std.proofs.Common.{◌≡◌, ◌≤◌, ◌<◌, ◌⊎◌, ◌∙◌, inl, inr, ℕ, ◌+◌, Bool, true, false, List, [], ◌∷◌, refl, sym}
use Rattle.std.proofs.Common.{subst}
use Rattle.std.proofs.lemmas.Bool.{false≢true}
use Rattle.std.specs.Prelude.{None, Some}
use Rattle.frag_map.specs.Replicas.{first_start}
use Rattle.frag_map.specs.Shape.{IsShape}
use Rattle.gcp_master.specs.State.{MasterState}
use Rattle.gcp_master.specs.Voices.{is_heard, voices_of}
use Rattle.node_views.specs.declared.parts.Parts.{Parts}
use Rattle.node_views.specs.declared.parts.Parts.TheVariants.{Shell, Main, Tc, Ldm}
use Rattle.run_theory.specs.Lists.{IsIn}
use Rattle.sig_core.specs.declared.outs.Outgoing.{Outgoing}
use Rattle.sig_core.specs.Place.{checkpoints}
use Rattle.sig_core.specs.Step.{to_place}
use Rattle.api_views.specs.Closings.{ask_of}
use Rattle.world_core.specs.Start.{Start}
use Rattle.peace_laws.specs.Closing.{ClosingsEnd, Course, EpochsRest, IsEnded, MainRests, ShellWaits, host_in}
use Rattle.peace_laws.specs.Closing.{main, next_of}
use Rattle.peace_laws.specs.Moments.{GoesOn, IsStill, Moment, Takes}
use Rattle.peace_laws.specs.UnderWay.{AnAnswer, Closes, Commits, Copies, GoingOn, HasCommitted, HasMember}
use Rattle.peace_laws.specs.UnderWay.{IsAnswered, IsAt, IsClient, IsLeft, IsLetter, IsOver, IsOwed, IsUnderWay}
use Rattle.peace_laws.specs.UnderWay.{Prepares}
use Rattle.peace_laws.specs.UnderWay.{Saves, ShellHas, Stage, blocks_of, report_of, voice_of}
use Rattle.peace_laws.proofs.closings.AnswerOn as answer
use Rattle.peace_laws.proofs.closings.ListOn as list
use Rattle.peace_laws.proofs.closings.MemberOn.{member_on}
use Rattle.peace_laws.proofs.closings.NextEpochs.{next_is}
use Rattle.peace_laws.proofs.closings.RequestOn.{request_on}
use Rattle.peace_laws.proofs.closings.ShellOn.{shell_on}
use Rattle.peace_laws.proofs.closings.Voices.{all_are_in, both_heard, one_heard}
use Rattle.peace_laws.proofs.closings.WayOn.{letter}

-- whatever is taken, the closing goes on
pub goes_on : (start : Start) → IsShape start.shape → (c : Course) → next_of c.kind c.epoch ≡ Some c.next
    → (before after : Moment) → IsUnderWay start c before → Takes start before after → IsUnderWay start c after
goes_on start shape c next before after w step = by (letter start c before after w step)
  where
    s : MasterState
    s = w.main_part.master

    answers : AnAnswer start c before step.sender step.host step.sent
        → ((stage : Stage) × IsAt start c stage before w.main_part.master) ⊎ IsOver start c before w.main_part.master
        → IsUnderWay start c after
    answers said (inl under) =
        answer.stage_on start shape c (next_is c.kind c.epoch c.next next) before after w step said under.0 under.1
    answers said (inr over) =
        answer.over_on start shape c (next_is c.kind c.epoch c.next next) before after w step said over

    lists : GoingOn start step.sender step.host step.sent
        → ((stage : Stage) × IsAt start c stage before w.main_part.master) ⊎ IsOver start c before w.main_part.master
        → IsUnderWay start c after
    lists on (inl under) = list.list_on start shape c before after w step on under.0 under.1
    lists on (inr over) = list.over_on start shape c before after w step on over

    by : IsLetter start c before step.sender step.host step.sent → IsUnderWay start c after
    by (inl order) = member_on start shape c before after w step order
    by (inr (inl said)) = answers said w.stage
    by (inr (inr (inl on))) = lists on w.stage
    by (inr (inr (inr report))) = shell_on start c before after w step report

-- Where nothing is under way:
module _ (start : Start) (shape : IsShape start.shape) (c : Course) (now : Moment) (w : IsUnderWay start c now)
    (still : IsStill now) where
  abbrev s : MasterState
  s = w.main_part.master

  nothing : (i j : ℕ) (one : Outgoing) → IsIn one (now.under_way i j) → ⊥
  nothing i j one is = subst (IsIn one) (still i j) is

  -- all were heard that were to answer a stage, so none is under way
  heard : (stage : Stage) (place : ℕ) (rows : Bool) → IsOwed start c stage now s place rows
      → is_heard s.voices (voice_of place rows) ≡ true
  heard stage place rows (inl is) = is
  heard stage place rows (inr (inl said)) = absurd (nothing _ _ _ said)
  heard stage place rows (inr (inr (inl coming))) = absurd (nothing _ _ _ coming)
  heard stage place rows (inr (inr (inr unsent))) = absurd (nothing _ _ _ unsent.coming)

  all_heard : (stage : Stage) → IsAt start c stage now s → (place : ℕ) → place < start.shape.nodes
      → blocks_of stage ≤ voices_of s.voices (first_start (place + 1))
  all_heard Prepares at place low =
      one_heard place s.voices false (heard Prepares place false (at.owed place low false refl))
  all_heard Commits at place low =
      one_heard place s.voices false (heard Commits place false (at.owed place low false refl))
  all_heard Closes at place low =
      both_heard place s.voices (heard Closes place false (at.owed place low false refl))
      (heard Closes place true (at.owed place low true refl))
  all_heard Saves at place low =
      one_heard place s.voices true (heard Saves place true (at.owed place low true refl))
  all_heard Copies at place low =
      one_heard place s.voices false (heard Copies place false (at.owed place low false refl))

  no_stage : (stage : Stage) → IsAt start c stage now s → ⊥
  no_stage stage at =
      false≢true (sym at.missing ∙ all_are_in start s w.master.view (blocks_of stage) (all_heard stage at))

  -- the closing is over, and all were told
  over : IsOver start c now s
  over = go w.stage
    where
      go : ((stage : Stage) × IsAt start c stage now s) ⊎ IsOver start c now s → IsOver start c now s
      go (inl under) = absurd (no_stage under.0 under.1)
      go (inr over) = over

  answered : IsAnswered c now
  answered = go over.report
    where
      go : IsAnswered c now ⊎ (IsIn (report_of c) (now.under_way main 0) ⊎ IsLeft start c now s) → IsAnswered c now
      go (inl is) = is
      go (inr (inl coming)) = absurd (nothing _ _ _ coming)
      go (inr (inr left)) = absurd (nothing _ _ _ left.coming)

  told_all : s.front ≡ None
  told_all = go over.front
    where
      go : (s.front ≡ None) ⊎ IsLeft start c now s → s.front ≡ None
      go (inl none) = none
      go (inr left) = absurd (nothing _ _ _ left.coming)

  waits : (parts : Parts) → ShellHas (IsClient start) parts → ShellHas (λ s. s.closing ≡ None) parts
      → ShellWaits start None parts
  waits (Shell p) is none = record { view = is.view; replies = is.replies; closing_is = none }
  waits (Main p) is none = absurd is
  waits (Tc p) is none = absurd is
  waits (Ldm p) is none = absurd is

  rests : (parts : Parts) → HasMember c parts → HasCommitted c parts → EpochsRest c.next parts
  rests (Tc p) member gone = record {
    current = gone.0;
    next = gone.1;
    counted = member.counted;
    held = member.held;
    order = member.order_none;
  }
  rests (Shell p) member gone = absurd member
  rests (Main p) member gone = absurd member
  rests (Ldm p) member gone = absurd member

  ended : IsEnded start c now
  ended = record {
    rest = record {
      master = subst (MainRests start c.next) (sym w.main_is) (record {
        member = w.master.member;
        view = w.master.view;
        phase = over.phase_is;
        front = told_all;
        asked = w.master.asked;
        owed = w.master.owed;
      });
      epochs = λ place low.
          rests (now.parts (host_in place false)) (w.epochs place low) (over.committed place low);
      rows = w.rows;
    };
    client = waits (now.parts 0) w.shell answered.0;
    replies = answered.1;
  }

pub closings_end : ClosingsEnd
closings_end start c was [] shape next asked goes still =
    let none : to_place (checkpoints 1) (ask_of c.kind) ∷ [] ≡ [] = sym asked.request ∙ still 0 main in
    absurd (cc (none))
closings_end start c was (now ∷ earlier) shape next asked goes still =
    ended start shape c now (under_way earlier now goes) still
  where
    under_way : (earlier : List Moment) (now : Moment) → GoesOn start was (now ∷ earlier) → IsUnderWay start c now
    under_way [] now goes = request_on start shape c next was now asked goes.1
    under_way (before ∷ earlier) now goes =
        goes_on start shape c next before now (under_way earlier before goes.0) goes.1
