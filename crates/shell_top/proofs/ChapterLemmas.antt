-- How the lives of a session are told: what a life says, and what a session says of its lives where it ends.
use Rattle.std.proofs.Common.{◌≡◌, ◌<◌, ℕ, List, [], ◌∷◌, ◌++◌, true, false, refl, ap, sym, subst}
use Rattle.std.proofs.Common.{◌∙◌, append_assoc, arith}
use Rattle.frag_map.specs.Shape.{IsShape}
use Rattle.peace_laws.proofs.lives.Peaceful.{closings_answered, lives_plain}
use Rattle.report_laws.proofs.Growing.{histories_grow}
use Rattle.run_theory.proofs.Merging.{merged_run}
use Rattle.run_theory.specs.Lists.{Each}
use Rattle.script_lang.specs.declared.command.Command.{Command}
use Rattle.sig_core.specs.declared.log.Life.{Life}
use Rattle.sig_core.specs.declared.view.Shape.{Shape}
use Rattle.shell_top.specs.Chapters.{AreFirst, AreHandedOn, Chapter, Crash, IsChapter, IsLast, IsRestored, Living}
use Rattle.shell_top.specs.Chapters.{RestartsAsHistory, asked_in, asked_in_all, chapter_text, chapters_text}
use Rattle.shell_top.specs.Chapters.{first_line, is_refusal, life_text, lives_of}
use Rattle.shell_top.specs.declared.ended.Ending.{Ending}
use Rattle.shell_top.specs.declared.ended.Ending.TheVariants.{NoMemory}
use Rattle.shell_top.specs.Fit.{HandsOn}
use Rattle.shell_top.specs.Lived.{AreLived, IsLife}
use Rattle.shell_top.specs.Lives.{Going, life_of}
use Rattle.shell_top.specs.Seen.{HasGrown, Seen}
use Rattle.shell_top.specs.AllLives.{AreLives}
use Rattle.shell_top.specs.Told.{text_of}
use Rattle.shell_top.proofs.HistoryLemmas.{one_history}
use Rattle.shell_top.proofs.PeacefulLemmas.{peacefully_served}
use Rattle.shell_top.proofs.SafeLemmas.{between_cuts, cuts_are_safe}
use Rattle.talk_laws.proofs.Reports.{reported}
use Rattle.world_core.specs.Hosts.{hosts}
use Rattle.world_core.specs.Lives.{logs_of}
use Rattle.world_core.specs.Start.{Start}
use Rattle.world_core.specs.World.{logs_at}
use Rattle.world_views.proofs.SentFacts.{is_stamped}
use Rattle.world_views.specs.Lives.{start_of}
use Rattle.world_views.specs.Machine.{machine}
use Rattle.world_views.specs.World.{Whole}

-- the first epoch of a life is behind the epoch that it restored
begins_behind : (shape : Shape) (life : Life) → (start_of shape life).start_epoch < (start_of shape life).epoch
begins_behind shape life = omega arith

-- what a life says
pub is_life : (shape : Shape) → IsShape shape → (e : Ending) (commands : List Command) (life : Life)
    → life.slots ≡ [] → AreLived (start_of shape life) e commands life.logs → IsLife shape e commands life
is_life shape sound e commands life no_slots lived =
    let start : Start = start_of shape life in
    record {
      lived = lived;
      run = merged_run (machine start) (is_stamped start) (hosts start) (logs_of life) lived.within lived.right;
      safe = cuts_are_safe start (logs_of life) (begins_behind shape life) sound refl lived.within lived.right;
      between = between_cuts start (logs_of life) (begins_behind shape life) sound refl lived.within lived.right;
      grows = λ small large inside cut. histories_grow start small large inside;
      reported = reported start refl (logs_of life) lived.right;
      peaceful = λ none peaceful wants.
          let peace = lived.in_peace peaceful wants in
          peacefully_served lives_plain closings_answered start refl sound none (begins_behind shape life) peace.0
          (logs_of life) peace.1 e lived.quiet;
      no_slots = no_slots;
    }

module _ (shape : Shape) (sound : IsShape shape) where
  -- so it does of one that goes on, as its end would leave it
  pub going_life : (e : Ending) (own : List Command) (g : Going) → g.start ≡ start_of shape (life_of g)
      → AreLived g.start e own g.whole.logs → IsLife shape e own (life_of g)
  going_life e own g begins lived =
      is_life shape sound e own (life_of g) refl (subst (λ start. AreLived start e own g.whole.logs) begins lived)

  -- the chapters before are these, of which these commands were asked, and the session was given these disks
  module _ (chapters : List Chapter) (are : Each (IsChapter shape) chapters) (given seen : Seen) where
    -- the session ends in a life
    pub ends_living : (e : Ending) → is_refusal e ≡ false → (all own : List Command)
        → all ≡ asked_in_all chapters ++ own → (opened : Seen)
        → AreHandedOn given chapters opened × HasGrown opened seen → (ended : List Life) → ended ≡ lives_of chapters
        → (g : Going) → g.start ≡ start_of shape (life_of g) → IsRestored shape opened (life_of g)
        → AreLived g.start e own g.whole.logs
        → ((e ≡ NoMemory → ⊥) → RestartsAsHistory shape opened seen (life_of g) × HandsOn shape opened seen)
        → (text : List ℕ) → text ≡ chapters_text shape chapters ++ life_text shape chapters (life_of g)
        → AreLives shape e all given seen (ended ++ life_of g ∷ []) text
    ends_living e none all own asked opened disks ended were g begins restored lived left text is =
        let is_last : IsLast shape e own seen (Living (life_of g) opened) =
        (restored, going_life e own g begins lived, none, left) in
        record {
          chapters = chapters;
          last = Living (life_of g) opened;
          own = own;
          are = are;
          is_last = is_last;
          disks = disks;
          asked = asked;
          all = ap (λ ls. ls ++ life_of g ∷ []) were;
          told = is;
          history =
              λ fit. one_history shape given fit e chapters (Living (life_of g) opened) own seen are is_last disks;
        }

    -- it ends behind a crash
    pub ends_crashed : (e : Ending) → is_refusal e ≡ false → (all own : List Command)
        → all ≡ asked_in_all chapters ++ own → (c : Chapter) → AreHandedOn given (c ∷ chapters) seen
        → IsChapter shape c → c.crashed ≡ true
        → AreFirst e (asked_in c) own → (ended : List Life) → ended ≡ lives_of chapters ++ c.life ∷ []
        → (text : List ℕ) → text ≡ chapters_text shape chapters ++ chapter_text shape chapters c
        → AreLives shape e all given seen ended text
    ends_crashed e none all own asked c disks is crashed first ended were text told =
        let is_last : IsLast shape e own seen (Crash c) = (is, crashed, none, first) in
        record {
          chapters = chapters;
          last = Crash c;
          own = own;
          are = are;
          is_last = is_last;
          disks = disks;
          asked = asked;
          all = were;
          told = told;
          history = λ fit. one_history shape given fit e chapters (Crash c) own seen are is_last disks;
        }

-- the text of a life goes on as its log does
pub life_longer : (shape : Shape) (chapters : List Chapter) (start : Start) (w t : Whole) (more : List ℕ)
    → start ≡ start_of shape (life_of (record { start = start; whole = w; slots = [] }))
    → text_of start (logs_at t.logs 0) ≡ text_of start (logs_at w.logs 0) ++ more
    → life_text shape chapters (life_of (record { start = start; whole = t; slots = [] }))
    ≡ life_text shape chapters (life_of (record { start = start; whole = w; slots = [] })) ++ more
life_longer shape chapters start w t more begins longer =
    let was : Life = life_of (record { start = start; whole = w; slots = [] }) in
    let first : List ℕ = first_line chapters start.start_epoch in
    ap (λ xs. first ++ xs)
    (subst (λ s. text_of s (logs_at t.logs 0) ≡ text_of s (logs_at w.logs 0) ++ more) begins longer)
    ∙ sym (append_assoc first (text_of (start_of shape was) (logs_at w.logs 0)) more)
