-- What a cluster obeys between two lives: a crash, commands that are refused, and a restart.
use Rattle.std.proofs.Common.{◌≡◌, ℕ, List, [], ◌∷◌, ◌++◌, Bool, true, false, not, refl, ap, sym, subst, ◌∙◌, append_assoc}
use Rattle.std.specs.Prelude.{Option, None, Some, codes}
use Rattle.std.specs.Io.KnownBytes.{Appends}
use Rattle.std.proofs.lemmas.List.{append-nil}
use Rattle.frag_map.specs.Shape.{IsShape}
use Rattle.run_theory.specs.Lists.{Each}
use Rattle.script_lang.specs.declared.command.Command.{Command}
use Rattle.script_lang.specs.declared.command.Command.TheVariants as command
use Rattle.script_lang.specs.ReplyText.{newline, reply_text}
use Rattle.sig_core.specs.declared.log.Life.{Life}
use Rattle.sig_core.specs.declared.reply.ApiReply.TheVariants.{Crashed, Restarted}
use Rattle.sig_core.specs.declared.view.Shape.{Shape}
use Rattle.shell_top.specs.Chapters.{AreHandedOn, Chapter, EndsBy, IsChapter, Unopened, asked_in}
use Rattle.shell_top.specs.Chapters.{asked_in_all, chapters_text, crash_commands, crash_text, down_lines, life_text}
use Rattle.shell_top.specs.Chapters.{lives_of}
use Rattle.shell_top.specs.declared.ended.Ending.{Ending}
use Rattle.shell_top.specs.declared.ended.Ending.TheVariants as ending
use Rattle.shell_top.specs.Lived.{IsLife}
use Rattle.shell_top.specs.Lives.{AreServed, EndsIn, Going, HasBegun, HaveLostPower, IsCrashed, IsLineTold, IsUnopened}
use Rattle.shell_top.specs.Lives.{IsUp, Obeys, all_lives, is_up, life_of}
use Rattle.shell_top.specs.Seen.{HasGrown, HaveLost, Seen}
use Rattle.shell_top.specs.AllLives.{AreLives}
use Rattle.shell_top.specs.Told.{text_of}
use Rattle.shell_top.proofs.ChapterLemmas.{going_life}
use Rattle.shell_top.proofs.FreshLemmas.{fresh_served, fresh_told}
use Rattle.shell_top.proofs.LivedLemmas.{served_lived, told_front, told_part}
use Rattle.shell_top.proofs.LivesLemmas.{ends_served, printed_whole, some_last, some_life}
use Rattle.shell_top.proofs.FitLemmas.{disks_are_handed_on}
use Rattle.shell_top.proofs.HistoryLemmas.{one_history}
use Rattle.shell_top.proofs.OnDisksLemmas.{left_as_history}
use Rattle.shell_top.proofs.UnbornLemmas.{unborn_early}
use Rattle.world_core.specs.Start.{Start}
use Rattle.world_core.specs.World.{logs_at}
use Rattle.world_views.proofs.ShellLemmas.{down_is}
use Rattle.world_views.specs.Shell.{finds_down}
use Rattle.world_views.specs.World.{is_down}

-- the line of a command that is refused since the cluster is down
abbrev down : List ℕ
down = codes "down" ++ newline

more_commands : (b : Bool) (refused : List Command) (c : Command) → b ≡ true
    → crash_commands b refused ++ c ∷ [] ≡ crash_commands b (refused ++ c ∷ [])
more_commands true refused c is = refl
more_commands false refused c is = cc

more_lines : (refused : List Command) (c : Command) → down_lines refused ++ down ≡ down_lines (refused ++ c ∷ [])
more_lines [] c = refl
more_lines (r ∷ refused) c =
    append_assoc down (down_lines refused) down ∙ ap (λ xs. down ++ xs) (more_lines refused c)

more_text : (b : Bool) (refused : List Command) (c : Command) → b ≡ true
    → crash_text b refused ++ down ≡ crash_text b (refused ++ c ∷ [])
more_text true refused c is =
    append_assoc (reply_text Crashed) (down_lines refused) down
    ∙ ap (λ xs. reply_text Crashed ++ xs) (more_lines refused c)
more_text false refused c is = cc

-- who isn't up is down
down_is_not : (b : Bool) → not b ≡ false → b ≡ true
down_is_not true is = refl
down_is_not false is = cc

-- the chapters of a session, of which the last one was ended by a restart
record AreClosed (shape : Shape) (commands : List Command) (text : List ℕ) (given seen : Seen) (ended : List Life)
    : Type 0 where
  chapter : Chapter
  earlier : List Chapter
  are : Each (IsChapter shape) (chapter ∷ earlier)
  disks : AreHandedOn given (chapter ∷ earlier) seen
  asked : commands ≡ asked_in_all (chapter ∷ earlier)
  told : text ≡ chapters_text shape (chapter ∷ earlier)
  were : ended ≡ lives_of (chapter ∷ earlier)

module _ (shape : Shape) (sound : IsShape shape) where
  -- a command is answered by a line
  pub line_obeys : (c : Command) (line : List ℕ) (seen seen_now : Seen) (ended later : List Life)
      (now next : Option Going) (written written_now : Option (List ℕ))
      → ((commands : List Command) (text : List ℕ) (given : Seen) → AreServed shape commands text given seen ended now
      → AreServed shape (commands ++ c ∷ []) (text ++ line) given seen_now later next)
      → (result : Option Ending) → IsLineTold result line written written_now
      → Obeys shape c seen seen_now ended later now next written written_now result
  line_obeys c line seen seen_now ended later now next written written_now serves None told commands text given s =
      record { more = line; served = serves commands text given s; printed = told }
  line_obeys c line seen seen_now ended later now next written written_now serves (Some e) told commands text given s =
      by e told
    where
      after : AreServed shape (commands ++ c ∷ []) (text ++ line) given seen_now later next
      after = serves commands text given s

      by : (e : Ending) → IsLineTold (Some e) line written written_now
          → EndsIn shape c commands text given seen_now later next written written_now e
      by ending.WriteFault part =
          record {
            told = text ++ line;
            early = refl;
            some = some_life shape sound later next (commands ++ c ∷ []) (text ++ line) given seen_now after;
            lived = λ rest.
                subst (λ cs. AreLives shape ending.WriteFault cs given seen_now (all_lives later next) (text ++ line))
                (append_assoc commands (c ∷ []) rest)
                (ends_served shape sound later next (commands ++ c ∷ []) (text ++ line) given seen_now after
                ending.WriteFault refl rest (λ whole. cc));
            printed = λ before was. told_part text line (text ++ line) before written written_now refl was part;
          }
      by ending.NoMemory same =
          record {
            told = text ++ line;
            early = refl;
            some = some_life shape sound later next (commands ++ c ∷ []) (text ++ line) given seen_now after;
            lived = λ rest.
                subst (λ cs. AreLives shape ending.NoMemory cs given seen_now (all_lives later next) (text ++ line))
                (append_assoc commands (c ∷ []) rest)
                (ends_served shape sound later next (commands ++ c ∷ []) (text ++ line) given seen_now after
                ending.NoMemory refl rest (λ whole. cc));
            printed = λ before was.
                told_front text line (text ++ line) before written_now refl
                (subst (λ at. Appends before at text) (sym same) was);
          }
      by _ none = absurd none

  -- where no life goes on, a command is refused
  module _ (c : Command) (seen : Seen) (ended : List Life) where
    pub refuses : (commands : List Command) (text : List ℕ) (given : Seen)
        → AreServed shape commands text given seen ended None
        → AreServed shape (commands ++ c ∷ []) (text ++ down) given seen ended None
    refuses commands text given s =
        record {
          chapters = s.chapters;
          own = s.own ++ c ∷ [];
          own_text = s.own_text ++ down;
          are = s.are;
          asked = ap (λ cs. cs ++ c ∷ []) s.asked ∙ append_assoc (asked_in_all s.chapters) s.own (c ∷ []);
          told = ap (λ xs. xs ++ down) s.told ∙ append_assoc (chapters_text shape s.chapters) s.own_text down;
          is_now = record {
            crash = further;
            disks = was.disks;
            is = record {
              restored = was.is.restored;
              life = was.is.life;
              ends = subst (EndsBy shape further) (sym was.crashed) was.crashed;
              restarts = was.is.restarts;
              hands_on = was.is.hands_on;
            };
            crashed = was.crashed;
            asked = ap (λ cs. cs ++ c ∷ []) was.asked
                ∙ append_assoc was.crash.served (crash_commands was.crash.crashed was.crash.refused) (c ∷ [])
                ∙ ap (λ cs. was.crash.served ++ cs)
                (more_commands was.crash.crashed was.crash.refused c was.crashed);
            were = was.were;
            told = ap (λ xs. xs ++ down) was.told
                ∙ append_assoc (life_text shape s.chapters was.crash.life)
                (crash_text was.crash.crashed was.crash.refused) down
                ∙ ap (λ xs. life_text shape s.chapters was.crash.life ++ xs)
                (more_text was.crash.crashed was.crash.refused c was.crashed);
          };
        }
      where
        was : IsCrashed shape s.chapters s.own s.own_text given seen ended
        was = s.is_now

        further : Chapter
        further = record was.crash { refused = was.crash.refused ++ c ∷ [] }

  -- what a life that goes on says where it ends
  ended_life : (g : Going) (chapters : List Chapter) (own : List Command) (text : List ℕ) (given seen : Seen)
      (ended : List Life) → IsUp shape chapters own text given seen ended g
      → IsLife shape ending.Finished own (life_of g)
  ended_life g chapters own text given seen ended up =
      going_life shape sound ending.Finished own g up.begins
      (served_lived g.start ending.Finished own [] g.whole own up.served (sym (append-nil own)) (λ whole. refl))

  -- a life ends by a crash, and with it the power of its disks
  module _ (seen lost : Seen) (cut : HaveLost seen lost) (ended : List Life) (g : Going) where
    pub crashes : (commands : List Command) (text : List ℕ) (given : Seen)
        → AreServed shape commands text given seen ended (Some g)
        → AreServed shape (commands ++ command.Crash ∷ []) (text ++ reply_text Crashed) given lost
        (ended ++ life_of g ∷ []) None
    crashes commands text given s =
        record {
          chapters = s.chapters;
          own = s.own ++ command.Crash ∷ [];
          own_text = s.own_text ++ reply_text Crashed;
          are = s.are;
          asked = ap (λ cs. cs ++ command.Crash ∷ []) s.asked
              ∙ append_assoc (asked_in_all s.chapters) s.own (command.Crash ∷ []);
          told = ap (λ xs. xs ++ reply_text Crashed) s.told
              ∙ append_assoc (chapters_text shape s.chapters) s.own_text (reply_text Crashed);
          is_now = record {
            crash = record {
              life = life_of g;
              served = s.own;
              crashed = true;
              refused = [];
              opened = s.is_now.opened;
              left = seen;
            };
            disks = (s.is_now.disks.0, (s.is_now.disks.1, cut));
            is = record {
              restored = s.is_now.restored;
              life = ended_life g s.chapters s.own s.own_text given seen ended s.is_now;
              ends = refl;
              restarts = left_as_history shape s.is_now.opened seen g s.is_now.begins s.is_now.lived;
              hands_on = disks_are_handed_on shape s.is_now.opened seen g s.is_now.disks.1 s.is_now.restored
                  s.is_now.begins s.is_now.lived;
            };
            crashed = refl;
            asked = refl;
            were = ap (λ ls. ls ++ life_of g ∷ []) s.is_now.were;
            told = ap (λ xs. xs ++ reply_text Crashed) s.is_now.told;
          };
        }

  -- what went on, or crashed, is over, and its disks lost their power
  closes : (seen lost : Seen) (ended : List Life) (now : Option Going) → HaveLostPower now seen lost
      → (commands : List Command) (text : List ℕ) (given : Seen)
      → AreServed shape commands text given seen ended now → is_up now ≡ false
      → AreClosed shape (commands ++ command.Restart ∷ []) text given lost (all_lives ended now)
  closes seen lost ended (Some g) cut commands text given s down_now =
      record {
        chapter = record {
          life = life_of g;
          served = s.own;
          crashed = false;
          refused = [];
          opened = s.is_now.opened;
          left = seen;
        };
        earlier = s.chapters;
        disks = (s.is_now.disks.0, (s.is_now.disks.1, cut));
        are = (
          record {
            restored = s.is_now.restored;
            life = ended_life g s.chapters s.own s.own_text given seen ended s.is_now;
            ends = (
              refl,
              subst (λ start. finds_down start (logs_at g.whole.logs 0) ≡ true) s.is_now.begins
                  (sym (down_is g.start s.is_now.served.given g.whole s.is_now.served.right)
                  ∙ down_is_not (is_down g.whole) down_now),
            );
            restarts = left_as_history shape s.is_now.opened seen g s.is_now.begins s.is_now.lived;
            hands_on = disks_are_handed_on shape s.is_now.opened seen g s.is_now.disks.1 s.is_now.restored
                s.is_now.begins s.is_now.lived;
          },
          s.are,
        );
        asked = ap (λ cs. cs ++ command.Restart ∷ []) s.asked
            ∙ append_assoc (asked_in_all s.chapters) s.own (command.Restart ∷ [])
            ∙ ap (λ cs. asked_in_all s.chapters ++ (cs ++ command.Restart ∷ [])) (sym (append-nil s.own));
        told = s.told ∙ ap (λ xs. chapters_text shape s.chapters ++ xs)
            (s.is_now.told ∙ sym (append-nil (life_text shape s.chapters (life_of g))));
        were = ap (λ ls. ls ++ life_of g ∷ []) s.is_now.were;
      }
  closes seen lost ended None same commands text given s down_now =
      let all : s.own ++ command.Restart ∷ [] ≡ asked_in s.is_now.crash ++ command.Restart ∷ [] =
      ap (λ cs. cs ++ command.Restart ∷ []) s.is_now.asked in
      record {
        chapter = s.is_now.crash;
        earlier = s.chapters;
        disks =
            subst (λ (at : Seen). AreHandedOn given (s.is_now.crash ∷ s.chapters) at) (sym same) s.is_now.disks;
        are = (s.is_now.is, s.are);
        asked = ap (λ cs. cs ++ command.Restart ∷ []) s.asked
            ∙ append_assoc (asked_in_all s.chapters) s.own (command.Restart ∷ [])
            ∙ ap (λ cs. asked_in_all s.chapters ++ cs) all;
        told = s.told ∙ ap (λ xs. chapters_text shape s.chapters ++ xs) s.is_now.told;
        were = s.is_now.were;
      }

  -- the next life doesn't begin
  pub restart_refused : (seen lost seen_now : Seen) (ended : List Life) (now next : Option Going)
      (written : Option (List ℕ)) → is_up now ≡ false → HaveLostPower now seen lost
      → (e : Ending) → IsUnopened shape lost seen_now next e → HasGrown lost seen_now
      → Obeys shape command.Restart seen seen_now ended (all_lives ended now) now next written written (Some e)
  restart_refused seen lost seen_now ended now next written may cut e unopened grown commands text given s =
      subst
      (λ then. EndsIn shape command.Restart commands text given seen_now (all_lives ended now) then written written e)
      (sym unopened.none)
      (record {
        told = text;
        early = unborn_early shape e lost seen_now unopened.unborn;
        some = λ none. some_last (lives_of closed.earlier) closed.chapter.life (sym closed.were ∙ none);
        lived = λ rest. record {
          chapters = closed.chapter ∷ closed.earlier;
          last = Unopened lost;
          own = rest;
          are = closed.are;
          is_last = unopened.unborn;
          disks = (closed.disks, grown);
          history = λ fit.
              one_history shape given fit e (closed.chapter ∷ closed.earlier) (Unopened lost) rest seen_now closed.are
              unopened.unborn (closed.disks, grown);
          asked = sym (append_assoc commands (command.Restart ∷ []) rest) ∙ ap (λ cs. cs ++ rest) closed.asked;
          all = closed.were ∙ sym (append-nil (lives_of (closed.chapter ∷ closed.earlier)));
          told = closed.told ∙ sym (append-nil (chapters_text shape (closed.chapter ∷ closed.earlier)));
        };
        printed = λ before was. printed_whole e text before written was;
      })
    where
      closed : AreClosed shape (commands ++ command.Restart ∷ []) text given lost (all_lives ended now)
      closed = closes seen lost ended now cut commands text given s may

  -- it begins
  pub restarts : (seen lost seen_now : Seen) (ended : List Life) (now next : Option Going) → is_up now ≡ false
      → HaveLostPower now seen lost → (begun : HasBegun shape lost seen_now next) → HasGrown lost seen_now
      → (commands : List Command) (text : List ℕ) (given : Seen) → AreServed shape commands text given seen ended now
      → AreServed shape (commands ++ command.Restart ∷ [])
      (text ++ reply_text (Restarted begun.going.start.start_epoch)) given seen_now (all_lives ended now) next
  restarts seen lost seen_now ended now next may cut begun grown commands text given s =
      subst
      (λ then.
      AreServed shape (commands ++ command.Restart ∷ []) (text ++ line) given seen_now (all_lives ended now) then)
      (sym begun.is)
      (record {
        chapters = closed.chapter ∷ closed.earlier;
        own = [];
        own_text = line;
        are = closed.are;
        asked = closed.asked ∙ sym (append-nil (asked_in_all (closed.chapter ∷ closed.earlier)));
        told = ap (λ xs. xs ++ line) closed.told;
        is_now = record {
          opened = lost;
          disks = (closed.disks, grown);
          begins = begun.begins;
          restored = begun.restored;
          lived = begun.lived;
          were = closed.were;
          served =
              fresh_served g.start g.whole begun.fresh (ap (λ (start : Start). start.late) begun.begins);
          told = sym
              (ap (λ xs. line ++ xs)
              (subst (λ start. text_of start (logs_at g.whole.logs 0) ≡ []) begun.begins
              (fresh_told g.start g.whole begun.fresh))
              ∙ append-nil line);
        };
      })
    where
      g : Going
      g = begun.going

      line : List ℕ
      line = reply_text (Restarted g.start.start_epoch)

      closed : AreClosed shape (commands ++ command.Restart ∷ []) text given lost (all_lives ended now)
      closed = closes seen lost ended now cut commands text given s may

  -- before the first command
  pub first_served : (next : Option Going) (opened seen : Seen) → HasBegun shape opened seen next
      → HasGrown opened seen → AreServed shape [] [] opened seen [] next
  first_served next opened seen begun grown =
      subst (AreServed shape [] [] opened seen []) (sym begun.is)
      (record {
        chapters = [];
        own = [];
        own_text = [];
        are = tt;
        asked = refl;
        told = refl;
        is_now = record {
          opened = opened;
          disks = (refl, grown);
          begins = begun.begins;
          restored = begun.restored;
          lived = begun.lived;
          were = refl;
          served =
              fresh_served begun.going.start begun.going.whole begun.fresh
              (ap (λ (start : Start). start.late) begun.begins);
          told = sym
              (subst (λ start. text_of start (logs_at begun.going.whole.logs 0) ≡ []) begun.begins
              (fresh_told begun.going.start begun.going.whole begun.fresh));
        };
      })
