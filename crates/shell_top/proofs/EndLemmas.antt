-- How a whole session is told: its lines, and then the line of the fault by which it was meant to end.
use Rattle.std.proofs.Common.{◌≡◌, ◌≤◌, ℕ, List, [], length, true, false, refl, ap, sym, subst, ◌∙◌}
use Rattle.std.proofs.Common.{arith}
use Rattle.std.specs.Prelude.{Option, None, Some}
use Rattle.std.specs.Io.KnownBytes.{Consumes}
use Rattle.std.proofs.KnownBytes.{Appends-nil, Consumes-nil}
use Rattle.std.proofs.lemmas.Bool.{true≢false}
use Rattle.frag_map.specs.Shape.{IsShape}
use Rattle.host_io.specs.Fault.{Rose}
use Rattle.sig_core.specs.declared.fault.RestartFault.TheVariants as fault
use Rattle.sig_core.specs.declared.log.Life.{Life}
use Rattle.sig_core.specs.declared.view.Shape.{Shape}
use Rattle.shell_top.specs.Chapters.{IsUnborn, Unopened, may_be_unborn}
use Rattle.shell_top.specs.declared.ended.Ending.{Ending}
use Rattle.shell_top.specs.declared.ended.Ending.TheVariants as ending
use Rattle.shell_top.specs.Lives.{AreServed, Going, HasBegun}
use Rattle.shell_top.specs.Printed.{Prints, is_cut_short}
use Rattle.shell_top.specs.Script.{script_from}
use Rattle.shell_top.specs.Seen.{HasGrown, Seen}
use Rattle.shell_top.specs.Session.{AreLinesDone, IsSession, IsUnderWay}
use Rattle.shell_top.specs.Text.{fault_line}
use Rattle.shell_top.proofs.BetweenLemmas.{first_served}
use Rattle.shell_top.proofs.HistoryLemmas.{one_history}
use Rattle.shell_top.proofs.PrintedLemmas.{prints_both}
use Rattle.shell_top.proofs.SeenLemmas.{grown_itself}
use Rattle.shell_top.proofs.SessionLemmas.{early_ends, early_words}
use Rattle.shell_top.proofs.UnbornLemmas.{unborn_early, unborn_may}

-- the session is before its first line
pub starts : (left written : Option (List ℕ)) (shape : Shape) (sound : IsShape shape) (opened seen : Seen) (line : ℕ)
    (held : List ℕ) (gone : List Life) (now : Option Going) → held ≡ [] → line ≡ 1 → gone ≡ []
    → HasBegun shape opened seen now → HasGrown opened seen
    → IsUnderWay shape left left written written opened seen line held gone now
starts left written shape sound opened seen line held gone now empty first none begun grown =
    record {
      consumed = [];
      commands = [];
      text = [];
      read = subst (Consumes left left) (sym empty) (Consumes-nil left);
      lines = λ ended more. ap (λ n. script_from shape.nodes ended n more) (sym first);
      printed = Appends-nil written;
      served = subst (λ lives. AreServed shape [] [] opened seen lives now) (sym none)
          (first_served shape sound now opened seen begun grown);
      line_low = omega (arith, first);
      held_short = let short : length held ≡ 0 = ap length empty in omega arith;
      consumed_short = omega (arith, first);
    }

-- a count that rose and doesn't fall has risen
pub rose_still : (before mid now : ℕ) → Rose before mid → mid ≤ now → Rose before now
rose_still before mid now rose kept = omega (arith, rose, kept)

-- where printing was cut short, nothing more is printed
pub nothing_more_printed : (meant : Ending) (written : Option (List ℕ)) → is_cut_short meant ≡ true
    → Prints meant meant written written (fault_line meant)
nothing_more_printed ending.WriteFault written cut = record { count = 0; appended = Appends-nil written }
nothing_more_printed ending.NoMemory written cut = record { count = 0; appended = Appends-nil written }
nothing_more_printed _ written cut = cc

-- it was done with its lines
pub session_done : (shape : Shape) → (left left_now written mid now : Option (List ℕ))
    → (ReadFailed WriteFailed : Type 0) (given seen : Seen) (meant result : Ending) (lives : List Life)
    → AreLinesDone shape left left_now written mid given seen meant lives
    → (meant ≡ ending.ReadFault → ReadFailed) → (meant ≡ ending.WriteFault → WriteFailed)
    → (is_cut_short meant ≡ true → result ≡ meant) → Prints result meant mid now (fault_line meant)
    → IsSession (Some shape) left left_now written now ReadFailed WriteFailed given seen result lives
session_done shape left left_now written mid now ReadFailed WriteFailed given seen meant result lives lines read_cause
    write_cause cut_short last =
    record {
      input = lines.input;
      text = lines.text;
      ended = lines.ended;
      meant = meant;
      consumed = lines.consumed;
      at_end = lines.at_end;
      ends = lines.ends;
      read_cause = read_cause;
      write_cause = write_cause;
      cut_short = cut_short;
      told = prints_both (is_cut_short meant) (is_cut_short result) meant result refl refl written mid now lines.text
          lines.told last;
      lived = lines.lived;
      none_read = λ none. absurd (lines.some none);
      words_refused = λ is. absurd (lines.no_words is);
      bounded = lines.bounded;
    }

-- what is seen of the disks, and the lives, by other names
pub lines_named : (shape : Shape) (left left_now written mid : Option (List ℕ)) (given seen other : Seen)
    → (meant : Ending) (lives all : List Life) → other ≡ seen → all ≡ lives
    → AreLinesDone shape left left_now written mid given seen meant lives
    → AreLinesDone shape left left_now written mid given other meant all
lines_named shape left left_now written mid given seen other meant lives all same equal lines =
    subst (λ s. AreLinesDone shape left left_now written mid given s meant all) (sym same)
    (subst (λ ls. AreLinesDone shape left left_now written mid given seen meant ls) (sym equal) lines)

pub session_named : (shape other_shape : Shape) (left left_now written now : Option (List ℕ))
    → (ReadFailed WriteFailed : Type 0) (given other_given seen other_seen : Seen) (result : Ending) (lives : List Life)
    → shape ≡ other_shape → given ≡ other_given → seen ≡ other_seen
    → IsSession (Some shape) left left_now written now ReadFailed WriteFailed given seen result lives
    → IsSession (Some other_shape) left left_now written now ReadFailed WriteFailed other_given other_seen result lives
session_named shape other_shape left left_now written now ReadFailed WriteFailed given other_given seen other_seen
    result lives one two three session =
    subst
    (λ s. IsSession (Some other_shape) left left_now written now ReadFailed WriteFailed other_given s result lives)
    three
    (subst (λ s. IsSession (Some other_shape) left left_now written now ReadFailed WriteFailed s seen result lives) two
    (subst (λ s. IsSession (Some s) left left_now written now ReadFailed WriteFailed given seen result lives) one
    session))

-- who is unborn failed in no call of the source or the sink
unborn_calls : (e : Ending) → may_be_unborn e ≡ true → (e ≡ ending.ReadFault → ⊥) × (e ≡ ending.WriteFault → ⊥)
unborn_calls e unborn =
    (λ is. true≢false (sym unborn ∙ ap may_be_unborn is), λ is. true≢false (sym unborn ∙ ap may_be_unborn is))

-- the first life didn't begin, and nothing is read
pub session_unopened : (shape : Shape) (left written now : Option (List ℕ)) (ReadFailed WriteFailed : Type 0)
    → (given seen : Seen) (meant result : Ending) (lives : List Life) → lives ≡ [] → HasGrown given seen
    → IsUnborn shape meant given seen → (is_cut_short meant ≡ true → result ≡ meant)
    → Prints result meant written now (fault_line meant)
    → IsSession (Some shape) left left written now ReadFailed WriteFailed given seen result lives
session_unopened shape left written now ReadFailed WriteFailed given seen meant result lives none grown unborn cut_short
    last =
    record {
      input = [];
      text = [];
      ended = false;
      meant = meant;
      consumed = Consumes-nil left;
      at_end = λ is. cc;
      ends = early_ends meant false (script_from shape.nodes false 1 []) (unborn_early shape meant given seen unborn);
      read_cause = λ is. absurd ((unborn_calls meant (unborn_may shape meant given seen unborn)).0 is);
      write_cause = λ is. absurd ((unborn_calls meant (unborn_may shape meant given seen unborn)).1 is);
      cut_short = cut_short;
      told = last;
      lived = record {
        chapters = [];
        last = Unopened given;
        own = (script_from shape.nodes false 1 []).commands;
        are = tt;
        is_last = unborn;
        disks = (refl, grown);
        asked = refl;
        all = none;
        told = refl;
        history = λ fit.
            one_history shape given fit meant [] (Unopened given) (script_from shape.nodes false 1 []).commands seen tt
            unborn (refl, grown);
      };
      none_read = λ is. (unborn_may shape meant given seen unborn, refl);
      words_refused = λ is. absurd (early_words meant (unborn_early shape meant given seen unborn) is);
      bounded = omega arith;
    }

-- where memory is wanting, no life begins
pub unremembered : (shape : Shape) (opened seen : Seen) → IsUnborn shape ending.NoMemory opened seen
unremembered shape opened seen =
    record { fault = fault.NoMemory; is = refl; cause = tt; refused = λ records told inside. cc }

-- the words are refused, and nothing is read
pub session_refused : (asked : Option Shape) (left written now : Option (List ℕ)) (ReadFailed WriteFailed : Type 0)
    → (given seen : Seen) (result : Ending) (lives : List Life) → lives ≡ [] → asked ≡ None → seen ≡ given
    → Prints result ending.Words written now (fault_line ending.Words)
    → IsSession asked left left written now ReadFailed WriteFailed given seen result lives
session_refused asked left written now ReadFailed WriteFailed given seen result lives no_life none same printed =
    subst (λ (asked : Option Shape). IsSession asked left left written now ReadFailed WriteFailed given seen result
    lives) (sym none)
    (record {
      input = [];
      text = [];
      ended = false;
      meant = ending.Words;
      consumed = Consumes-nil left;
      at_end = λ is. cc;
      ends = tt;
      read_cause = λ is. cc;
      write_cause = λ is. cc;
      cut_short = λ is. cc;
      told = printed;
      lived = (no_life, refl, same);
      none_read = λ any. (refl, refl);
      words_refused = λ is. refl;
      bounded = omega arith;
    })

-- memory is wanting before the first line
unstarted : (asked : Option Shape) (left written : Option (List ℕ)) (ReadFailed WriteFailed : Type 0)
    → (given seen : Seen) (lives : List Life) → lives ≡ [] → seen ≡ given
    → IsSession asked left left written written ReadFailed WriteFailed given seen ending.NoMemory lives
unstarted (Some shape) left written ReadFailed WriteFailed given seen lives none same =
    session_unopened shape left written written ReadFailed WriteFailed given seen ending.NoMemory ending.NoMemory lives
    none (subst (HasGrown given) (sym same) (grown_itself given)) (unremembered shape given seen) (λ is. refl)
    (record { count = 0; appended = Appends-nil written })
unstarted None left written ReadFailed WriteFailed given seen lives none same =
    record {
      input = [];
      text = [];
      ended = false;
      meant = ending.NoMemory;
      consumed = Consumes-nil left;
      at_end = λ is. cc;
      ends = tt;
      read_cause = λ is. cc;
      write_cause = λ is. cc;
      cut_short = λ is. refl;
      told = record { count = 0; appended = Appends-nil written };
      lived = (none, refl, same);
      none_read = λ is. (refl, refl);
      words_refused = λ is. cc;
      bounded = omega arith;
    }

pub session_unstarted : (asked : Option Shape) (left written : Option (List ℕ)) (ReadFailed WriteFailed : Type 0)
    → (given seen : Seen) (result : Ending) (lives : List Life) → result ≡ ending.NoMemory → lives ≡ []
    → seen ≡ given → IsSession asked left left written written ReadFailed WriteFailed given seen result lives
session_unstarted asked left written ReadFailed WriteFailed given seen result lives is none same =
    subst (λ e. IsSession asked left left written written ReadFailed WriteFailed given seen e lives) (sym is)
    (unstarted asked left written ReadFailed WriteFailed given seen lives none same)
