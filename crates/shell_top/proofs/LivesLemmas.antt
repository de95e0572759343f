-- A cluster obeys one command more, in a life or between two.
use Rattle.std.proofs.Common.{◌≡◌, ℕ, List, [], ◌∷◌, ◌++◌, Bool, true, false, refl, ap, sym, subst, ◌∙◌, append_assoc}
use Rattle.std.specs.Prelude.{Option, None, Some}
use Rattle.std.specs.Io.KnownBytes.{Appends}
use Rattle.std.proofs.lemmas.List.{append-nil}
use Rattle.disk_world.specs.Disks.{disks_with}
use Rattle.frag_map.specs.Shape.{IsShape}
use Rattle.node_disk.specs.Slots.{SlotsInUse}
use Rattle.script_lang.specs.declared.command.Command.{Command}
use Rattle.sig_core.specs.declared.log.Life.{Life}
use Rattle.sig_core.specs.declared.view.Shape.{Shape}
use Rattle.shell_top.specs.Chapters.{AreHandedOn, asked_in_all, chapters_text, is_refusal, life_text}
use Rattle.shell_top.specs.Chapters.{lives_of}
use Rattle.shell_top.specs.declared.ended.Ending.{Ending}
use Rattle.shell_top.specs.declared.ended.Ending.TheVariants as ending
use Rattle.shell_top.specs.Lives.{AreServed, EndsIn, Going, HasObeyed, IsLivedSince, IsUp, Obeys, all_lives, life_of}
use Rattle.shell_top.specs.OnDisks.{ComesTo, UnlessWanting}
use Rattle.shell_top.specs.Printed.{Prints, is_cut_short, prints_if}
use Rattle.shell_top.specs.Seen.{HasGrown, Seen}
use Rattle.shell_top.specs.Served.{AreLeft, CommandEnds, PrintsCommand, WrittenInPart, WrittenWhole}
use Rattle.shell_top.specs.AllLives.{AreLives}
use Rattle.shell_top.specs.Told.{text_of}
use Rattle.shell_top.proofs.ChapterLemmas.{ends_crashed, ends_living, life_longer}
use Rattle.shell_top.proofs.FitLemmas.{kept_as_history}
use Rattle.shell_top.proofs.LivedLemmas.{left_lived, served_lived, told_front, told_part}
use Rattle.shell_top.proofs.SeenLemmas.{grown_then}
use Rattle.world_core.specs.World.{logs_at}
use Rattle.world_views.specs.World.{Whole}

-- a list with a last item isn't empty
pub some_last : {A : Type 0} (xs : List A) (x : A) → xs ++ x ∷ [] ≡ [] → ⊥
some_last [] x is = cc
some_last (y ∷ xs) x is = cc

-- a text that is printed whole is printed as far as it had to be
pub printed_whole : (e : Ending) (text : List ℕ) (written now : Option (List ℕ)) → Appends written now text
    → Prints e e written now text
printed_whole e text written now all = go (is_cut_short e)
  where
    go : (cut : Bool) → prints_if cut e e written now text
    go true = told_front text [] text written now (sym (append-nil text)) all
    go false = (refl, all)

module _ (shape : Shape) (sound : IsShape shape) (ended : List Life) where
  -- where the session ends between two commands, and no others came, unless it was cut short
  pub ends_served : (now : Option Going) (commands : List Command) (text : List ℕ) (given seen : Seen)
      → AreServed shape commands text given seen ended now → (e : Ending) → is_refusal e ≡ false
      → (rest : List Command) → (is_cut_short e ≡ false → rest ≡ [])
      → AreLives shape e (commands ++ rest) given seen (all_lives ended now) text
  ends_served (Some g) commands text given seen s e none rest last =
      ends_living shape sound s.chapters s.are given seen e none (commands ++ rest) (s.own ++ rest)
      (ap (λ cs. cs ++ rest) s.asked ∙ append_assoc (asked_in_all s.chapters) s.own rest) s.is_now.opened
      s.is_now.disks ended s.is_now.were g s.is_now.begins s.is_now.restored
      (served_lived g.start e s.own rest g.whole (s.own ++ rest) s.is_now.served refl last)
      (λ kept. kept_as_history shape s.is_now.opened seen g s.is_now.disks.1 s.is_now.restored s.is_now.begins
      s.is_now.lived) text
      (s.told ∙ ap (λ xs. chapters_text shape s.chapters ++ xs) s.is_now.told)
  ends_served None commands text given seen s e none rest last =
      ends_crashed shape sound s.chapters s.are given seen e none (commands ++ rest) (s.own ++ rest)
      (ap (λ cs. cs ++ rest) s.asked ∙ append_assoc (asked_in_all s.chapters) s.own rest) s.is_now.crash
      s.is_now.disks s.is_now.is s.is_now.crashed
      (record { rest = rest; are = ap (λ cs. cs ++ rest) s.is_now.asked; all = last }) ended s.is_now.were text
      (s.told ∙ ap (λ xs. chapters_text shape s.chapters ++ xs) s.is_now.told)

  -- there was a life
  pub some_life : (now : Option Going) (commands : List Command) (text : List ℕ) (given seen : Seen)
      → AreServed shape commands text given seen ended now → all_lives ended now ≡ [] → ⊥
  some_life (Some g) commands text given seen s none = some_last ended (life_of g) none
  some_life None commands text given seen s none =
      some_last (lives_of s.chapters) s.is_now.crash.life (sym s.is_now.were ∙ none)

  -- the life that goes on serves a command, in which the records of its disks only grow
  module _ (c : Command) (g : Going) (t : Whole) (slots : List SlotsInUse) (seen seen_now : Seen)
      (grown : HasGrown seen seen_now) (written now : Option (List ℕ)) where
    abbrev pub next : Going
    next = record { start = g.start; whole = t; slots = slots }

    -- it comes to its next world and disks
    abbrev Comes : Type 0
    Comes = ComesTo g.start g.whole (disks_with seen.told g.slots) t (disks_with seen_now.told slots)

    module _ (commands : List Command) (text : List ℕ) (given : Seen)
        (s : AreServed shape commands text given seen ended (Some g)) where
      up : IsUp shape s.chapters s.own s.own_text given seen ended g
      up = s.is_now

      handed_on : AreHandedOn given s.chapters up.opened × HasGrown up.opened seen_now
      handed_on = (up.disks.0, grown_then up.opened seen seen_now up.disks.1 grown)

      lived_on : Comes → IsLivedSince shape up.opened seen_now next
      lived_on comes records told r fit = comes r (up.lived records told r fit)

      asked_on : (rest : List Command) → commands ++ c ∷ rest ≡ asked_in_all s.chapters ++ (s.own ++ c ∷ rest)
      asked_on rest =
          ap (λ cs. cs ++ c ∷ rest) s.asked ∙ append_assoc (asked_in_all s.chapters) s.own (c ∷ rest)

      own_longer : (more : List ℕ)
          → text_of g.start (logs_at t.logs 0) ≡ text_of g.start (logs_at g.whole.logs 0) ++ more
          → s.own_text ++ more ≡ life_text shape s.chapters (life_of next)
      own_longer more longer =
          ap (λ xs. xs ++ more) up.told
          ∙ sym (life_longer shape s.chapters g.start g.whole t more up.begins longer)

      text_longer : (more : List ℕ)
          → text_of g.start (logs_at t.logs 0) ≡ text_of g.start (logs_at g.whole.logs 0) ++ more
          → text ++ more ≡ chapters_text shape s.chapters ++ life_text shape s.chapters (life_of next)
      text_longer more longer =
          ap (λ xs. xs ++ more) s.told ∙ append_assoc (chapters_text shape s.chapters) s.own_text more
          ∙ ap (λ xs. chapters_text shape s.chapters ++ xs) (own_longer more longer)

      obeyed : Comes → WrittenWhole g.start s.own c g.whole t written now
          → HasObeyed shape c commands text given seen_now ended (Some next) written now
      obeyed comes all =
          record {
            more = all.text;
            served = record {
              chapters = s.chapters;
              own = s.own ++ c ∷ [];
              own_text = s.own_text ++ all.text;
              are = s.are;
              asked = asked_on [];
              told = ap (λ xs. xs ++ all.text) s.told
                  ∙ append_assoc (chapters_text shape s.chapters) s.own_text all.text;
              is_now = record {
                opened = up.opened;
                disks = handed_on;
                begins = up.begins;
                restored = up.restored;
                lived = lived_on comes;
                were = up.were;
                served = all.served;
                told = own_longer all.text all.told;
              };
            };
            printed = all.all;
          }

      unwritten : Comes → WrittenInPart g.start s.own c g.whole t written now
          → EndsIn shape c commands text given seen_now ended (Some next) written now ending.WriteFault
      unwritten comes part =
          record {
            told = text ++ part.text;
            early = refl;
            some = some_last ended (life_of next);
            lived = λ rest.
                ends_living shape sound s.chapters s.are given seen_now ending.WriteFault refl (commands ++ c ∷ rest)
                (s.own ++ c ∷ rest) (asked_on rest) up.opened handed_on ended up.were next up.begins up.restored
                (served_lived g.start ending.WriteFault (s.own ++ c ∷ []) rest t (s.own ++ c ∷ rest) part.served
                (sym (append_assoc s.own (c ∷ []) rest)) (λ whole. cc))
                (λ kept. kept_as_history shape up.opened seen_now next handed_on.1 up.restored up.begins
                (lived_on comes))
                (text ++ part.text) (text_longer part.text part.told);
            printed = λ before was. told_part text part.text (text ++ part.text) before written now refl was part.part;
          }

      forgotten : now ≡ written → AreLeft g.start c g.whole t.logs
          → EndsIn shape c commands text given seen_now ended (Some next) written now ending.NoMemory
      forgotten same left =
          record {
            told = text ++ left.more;
            early = refl;
            some = some_last ended (life_of next);
            lived = λ rest.
                ends_living shape sound s.chapters s.are given seen_now ending.NoMemory refl (commands ++ c ∷ rest)
                (s.own ++ c ∷ rest) (asked_on rest) up.opened handed_on ended up.were next up.begins up.restored
                (left_lived g.start s.own c rest g.whole t.logs (s.own ++ c ∷ rest) up.served left refl)
                (λ kept. absurd (kept refl)) (text ++ left.more) (text_longer left.more left.text);
            printed = λ before was.
                told_front text left.more (text ++ left.more) before now refl
                (subst (λ at. Appends before at text) (sym same) was);
          }

      ends_in : (e : Ending) → UnlessWanting (Some e) Comes → CommandEnds g.start e s.own c g.whole t written now
          → EndsIn shape c commands text given seen_now ended (Some next) written now e
      ends_in ending.WriteFault comes cut = unwritten comes cut
      ends_in ending.NoMemory comes cut = forgotten cut.0 cut.1
      ends_in _ comes cut = absurd cut

    pub obeys_served : (result : Option Ending) → UnlessWanting result Comes
        → PrintsCommand g.start c g.whole t result written now
        → Obeys shape c seen seen_now ended ended (Some g) (Some next) written now result
    obeys_served None comes p commands text given s =
        obeyed commands text given s comes (p.printed s.own s.is_now.served)
    obeys_served (Some e) comes p commands text given s =
        ends_in commands text given s e comes (p.printed s.own s.is_now.served)
