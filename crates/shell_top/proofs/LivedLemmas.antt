-- What the logs say where a session ends.
use Rattle.std.proofs.Common.{◌≡◌, inl, ℕ, List, [], ◌∷◌, ◌++◌, length, take, reverse, true, false, refl, ap, sym}
use Rattle.std.proofs.Common.{subst, ◌∙◌}
use Rattle.std.specs.Prelude.{Option, None, Some, slice_get}
use Rattle.std.specs.Io.KnownBytes.{Appends}
use Rattle.std.proofs.lemmas.List.{append-nil, take_at}
use Rattle.run_theory.proofs.Pasts.{past_self}
use Rattle.script_lang.specs.declared.command.Command.{Command}
use Rattle.sig_core.specs.declared.log.HostLog.{HostLog}
use Rattle.shell_top.specs.Asked.{AreAsked, AreAskedInFront, AreAskedInPart, AsksInPart, are_peaceful}
use Rattle.shell_top.specs.declared.ended.Ending.{Ending}
use Rattle.shell_top.specs.declared.ended.Ending.TheVariants as ending
use Rattle.shell_top.specs.Lived.{AreAskedFor, AreLived}
use Rattle.shell_top.specs.Printed.{AppendsPart, is_cut_short}
use Rattle.shell_top.specs.Served.{AreLeft, IsServed, NoneStops}
use Rattle.shell_top.proofs.PeaceLemmas.{asked_peaceful, commands_back, commands_front, head_peaceful, none_before}
use Rattle.shell_top.proofs.GivingUp.{none_stops}
use Rattle.shell_top.proofs.PrintedLemmas.{part_behind}
use Rattle.world_views.specs.Requests.{requests}
use Rattle.world_core.specs.Start.{Start}
use Rattle.world_core.specs.Steps.{HostStep}
use Rattle.world_core.specs.World.{logs_at}
use Rattle.world_views.specs.World.{Whole}
use Rattle.world_views.proofs.QuietLemmas.{quiet_logs}
use Rattle.world_views.proofs.StepDriven.{right_logs, within}
use Rattle.world_views.proofs.WorldLemmas.{sound_labels}

-- what stands behind a front
get_behind : (front rest : List Command) (c : Command) → slice_get (front ++ c ∷ rest) (length front) ≡ Some c
get_behind [] rest c = refl
get_behind (x ∷ front) rest c = get_behind front rest c

module _ (start : Start) where
  -- the world has served these commands, which are a front of all
  served_in_front : (done rest : List Command) (w : Whole) (commands : List Command) → IsServed start done w
      → commands ≡ done ++ rest → AreAskedInFront start commands (logs_at w.logs 0)
  served_in_front done rest w commands was is =
      let front : take (length done) commands ≡ done =
      ap (take (length done)) is ∙ take_at done rest (length done) refl in
      record {
        count = length done;
        asked = subst (λ cs. AreAsked start (reverse cs) (logs_at w.logs 0)) (sym front) was.asked;
      }

  -- and nothing of the next one
  none_begun : (log : List HostStep) (next : Option Command) → AsksInPart start next log log
  none_begun log None = refl
  none_begun log (Some c) = inl (record { part = 0; begun = sym (append-nil (requests log)) })

  served_in_part : (done rest : List Command) (w : Whole) (commands : List Command) → IsServed start done w
      → commands ≡ done ++ rest → AreAskedInPart start commands (logs_at w.logs 0)
  served_in_part done rest w commands was is =
      let front : take (length done) commands ≡ done =
      ap (take (length done)) is ∙ take_at done rest (length done) refl in
      record {
        count = length done;
        before = logs_at w.logs 0;
        asked = subst (λ cs. AreAsked start (reverse cs) (logs_at w.logs 0)) (sym front) was.asked;
        past = past_self (logs_at w.logs 0);
        begun = none_begun (logs_at w.logs 0) (slice_get commands (length done));
      }

  -- these are all, unless the session was cut short
  pub served_lived : (e : Ending) (done rest : List Command) (w : Whole) (commands : List Command)
      → IsServed start done w → commands ≡ done ++ rest
      → (is_cut_short e ≡ false → rest ≡ []) → AreLived start e commands w.logs
  served_lived e done rest w commands was is last =
      record {
        labelled = sound_labels start w (record { given = was.given; right = was.right });
        right = right_logs start was.given w was.right;
        next_stamps = was.right.next;
        within = within start was.given w was.right;
        asked = asked e last;
        at_quiet = was.at_quiet;
        quiet = λ kept. quiet_logs start was.given w was.right was.quiet;
        unscheduled = was.unscheduled;
        in_peace = λ peaceful wants.
            was.peace (commands_front done rest (subst (λ cs. are_peaceful cs ≡ true) is peaceful))
            (none_stops start (logs_at w.logs) (right_logs start was.given w was.right) was.unscheduled wants);
      }
    where
      asked : (e : Ending) → (is_cut_short e ≡ false → rest ≡ [])
          → AreAskedFor start e commands (logs_at w.logs 0)
      asked ending.WriteFault none = served_in_front done rest w commands was is
      asked ending.NoMemory none = served_in_part done rest w commands was is
      asked _ none =
          let all : commands ≡ done = is ∙ ap (λ cs. done ++ cs) (none refl) ∙ append-nil done in
          subst (λ cs. AreAsked start (reverse cs) (logs_at w.logs 0)) (sym all) was.asked

  -- memory was wanting while the next command was served
  pub left_lived : (done : List Command) (c : Command) (rest : List Command) (w : Whole) (logs : List HostLog)
      (commands : List Command) → IsServed start done w → AreLeft start c w logs
      → commands ≡ done ++ c ∷ rest → AreLived start ending.NoMemory commands logs
  left_lived done c rest w logs commands was left is =
      let front : take (length done) commands ≡ done =
      ap (take (length done)) is ∙ take_at done (c ∷ rest) (length done) refl in
      let next : slice_get commands (length done) ≡ Some c =
      ap (λ cs. slice_get cs (length done)) is ∙ get_behind done rest c in
      record {
        labelled = left.left.labelled;
        right = left.left.right;
        next_stamps = left.left.next_stamps;
        within = left.left.within;
        asked = record {
          count = length done;
          before = logs_at w.logs 0;
          asked = subst (λ cs. AreAsked start (reverse cs) (logs_at w.logs 0)) (sym front) was.asked;
          past = left.left.more 0;
          begun = subst (λ o. AsksInPart start o (logs_at w.logs 0) (logs_at logs 0)) (sym next) left.begun;
        };
        at_quiet = left.left.at_quiet was.quiet was.at_quiet;
        quiet = λ kept. absurd (kept refl);
        unscheduled = left.left.unscheduled was.unscheduled;
        in_peace = λ peaceful wants.
            let none : NoneStops (logs_at logs) =
            none_stops start (logs_at logs) left.left.right (left.left.unscheduled was.unscheduled) wants in
            let all : are_peaceful (done ++ c ∷ rest) ≡ true =
            subst (λ cs. are_peaceful cs ≡ true) is peaceful in
            left.left.peace (record { given = was.given; right = was.right }) was.quiet
            (was.peace (commands_front done (c ∷ rest) all)
            (none_before (logs_at w.logs) (logs_at logs) left.left.more none))
            (asked_peaceful c left.own left.left_out left.are
            (head_peaceful c rest (commands_back done (c ∷ rest) all))) none;
      }

-- as much as this text is printed, and the logs tell that and more
pub told_front : (text more all : List ℕ) (written now : Option (List ℕ)) → all ≡ text ++ more
    → Appends written now text → AppendsPart written now all
told_front text more all written now is printed =
    record {
      count = length text;
      appended = subst (Appends written now)
          (sym (ap (take (length text)) is ∙ take_at text more (length text) refl)) printed;
    }

-- or all before the last command, and a part of that
pub told_part : (text more all : List ℕ) (written mid now : Option (List ℕ)) → all ≡ text ++ more
    → Appends written mid text → AppendsPart mid now more → AppendsPart written now all
told_part text more all written mid now is printed part =
    subst (AppendsPart written now) (sym is) (part_behind written mid now text more printed part)
