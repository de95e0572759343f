-- The lives of a session have one history: chapter by chapter, from fit disks that it was given.
use Rattle.std.proofs.Common.{◌≡◌, ◌<◌, ◌+◌, ◌∙◌, ℕ, List, [], ◌∷◌, length, get_or, ap, subst, sym, arith}
use Rattle.std.specs.FinMap as map
use Rattle.std.specs.Prelude.{Option, None, Result, Ok, Err}
use Rattle.host_io.specs.Call.{Call}
use Rattle.life_start.specs.Begun.{HasBegun, end_of_epochs}
use Rattle.restart_laws.proofs.begun.History.{rows_of_history}
use Rattle.restart_laws.proofs.handed.CutRecords.{left_disks_are_cut}
use Rattle.restart_laws.specs.HandedOn.{AreCut}
use Rattle.restart_laws.specs.Lived.{AreFitFor}
use Rattle.restart_laws.specs.Restart.{IsOfLife}
use Rattle.run_theory.specs.Lists.{Each}
use Rattle.saved_laws.specs.History.{row_up_to}
use Rattle.script_lang.specs.declared.command.Command.{Command}
use Rattle.serial_model.specs.Legal.{rows_of}
use Rattle.shell_top.specs.Chapters.{AreHandedBack, AreHandedOn, Chapter, Crash, IsChapter, IsLast, IsRestored, Last}
use Rattle.shell_top.specs.Chapters.{Living, RestartsAs, Unopened}
use Rattle.shell_top.specs.declared.ended.Ending.{Ending}
use Rattle.shell_top.specs.Fit.{AreFit}
use Rattle.shell_top.specs.OneHistory.{AreOneHistory, GoesOnFrom, HaveOneHistory, IsNext}
use Rattle.shell_top.specs.Seen.{HasGrown, HasLost, HaveLost, Seen}
use Rattle.sig_core.specs.declared.fault.RestartFault.{RestartFault}
use Rattle.sig_core.specs.declared.log.Life.{Life}
use Rattle.sig_core.specs.declared.view.Shape.{Shape}
use Rattle.sys_restart.proofs.AlikeLemmas.{same_answer}
use Rattle.sys_restart.specs.declared.restored.Restored.{Restored}
use Rattle.sys_restart.specs.Files.{disks_of}
use Rattle.sys_restart.specs.Restored.{restored_of}
use Rattle.world_core.specs.Lives.{logs_of}
use Rattle.world_views.specs.Lives.{start_of}

-- a life began with what a restart finds on fit disks, as this generation
abbrev BeginsOn : (shape : Shape) (opened : Seen) → AreFit shape opened → ℕ → Life → Type 0
BeginsOn shape opened fit generation life =
    HasBegun shape (disks_of fit.records) generation life.start_epoch life.start_rows

-- and they are fit for that life
fit_for : (shape : Shape) (opened : Seen) (fit : AreFit shape opened) (generation : ℕ) (life : Life)
    (begun : BeginsOn shape opened fit generation life) → AreFitFor shape begun.restored fit.records
fit_for shape opened fit generation life begun =
    fit.for_life begun.restored begun.read
    (subst (λ (epoch : ℕ). epoch < end_of_epochs) begun.begins.1 begun.low)

-- a life that begins where the power of the disks of the one before was cut goes on from that
module _ (shape : Shape) (c : Chapter) (fit : AreFit shape c.opened) (generation : ℕ)
    (begun : BeginsOn shape c.opened fit generation c.life) (restarts : RestartsAs shape begun.restored c.left c.life)
    (grown : HasGrown c.opened c.left) (now : Seen) (lost : HaveLost c.left now) (fit_now : AreFit shape now)
    (later : ℕ) (life : Life) (begun_now : BeginsOn shape now fit_now later life) where
  cut : AreCut shape c.left.told fit_now.records
  cut =
      left_disks_are_cut shape begun.restored fit.records fit_now.records c.opened.told c.left.told now.told fit.tell
      fit.many (fit_for shape c.opened fit generation c.life begun) grown.more fit_now.tell lost.many
      (λ at calls is.
      subst (λ (before : Option (List Call)). HasLost before (get_or now.told at None)) is (lost.each at))

  of_life : IsOfLife (start_of shape c.life) begun.restored (logs_of c.life) begun_now.restored
  of_life =
      let comes = restarts (disks_of fit_now.records) cut.left in
      subst (λ (x : Restored). IsOfLife (start_of shape c.life) begun.restored (logs_of c.life) x)
      (same_answer comes.0 begun_now.restored (restored_of shape (disks_of fit_now.records)) comes.1.0 begun_now.read)
      comes.1.1

  next_generation : later ≡ generation + 1
  next_generation =
      let now_is = begun_now.begins.0 in
      let one_more = of_life.generation_is in
      let was = begun.begins.0 in
      omega (arith, now_is, one_more, was)

  goes_on : GoesOnFrom shape c.life life
  goes_on = record {
    least =
        let is = begun_now.begins.1 in
        let was = begun.begins.1 in
        let least = of_life.least in
        omega (arith, is, was, least);
    durable = λ h epoch below marked.
        let is = begun_now.begins.1 in
        let low = of_life.durable h epoch below marked in
        omega (arith, is, low);
    rows = λ key.
        ap (λ (rows : List (List ℕ × List ℕ)). map.get (rows_of rows) key) begun_now.begins.2
        ∙ rows_of_history (start_of shape c.life) begun.restored begun_now.restored (logs_of c.life) of_life
        (fit_for shape now fit_now later life begun_now).1 key
        ∙ ap (λ (epoch : ℕ). row_up_to (start_of shape c.life) (logs_of c.life) epoch key) (sym begun_now.begins.1);
  }

-- the generation behind what is restored, if anything is
generation_behind : Result Restored RestartFault → ℕ
generation_behind (Ok r) = r.generation + 1
generation_behind (Err fault) = 0

-- what is so of disks behind chapters, whose first life is of this generation
record AreBehind (shape : Shape) (first : ℕ) (earlier : List Chapter) (now : Seen) : Type 0 where
  fit : AreFit shape now
  one : AreOneHistory shape first earlier
  next : (life : Life) → IsRestored shape now life → IsNext shape first earlier now life

-- it is so behind one more
module _ (shape : Shape) (first : ℕ) (c : Chapter) (earlier : List Chapter) (now : Seen) (is : IsChapter shape c)
    (grown : HasGrown c.opened c.left) (lost : HaveLost c.left now) (before : AreBehind shape first earlier c.opened)
  where
    own : IsNext shape first earlier c.opened c.life
    own = before.next c.life is.restored

    restarts : RestartsAs shape own.begun.restored c.left c.life
    restarts =
        is.restarts own.fit.records own.fit.tell own.begun.restored
        (fit_for shape c.opened own.fit (first + length earlier) c.life own.begun)

    fit_behind : AreFit shape now
    fit_behind = is.hands_on own.fit now lost

    next_behind : (life : Life) (generation : ℕ) → BeginsOn shape now fit_behind generation life
        → IsNext shape first (c ∷ earlier) now life
    next_behind life generation begun = record {
      fit = fit_behind;
      begun =
          subst (λ (n : ℕ). HasBegun shape (disks_of fit_behind.records) n life.start_epoch life.start_rows)
          (let one_more =
          next_generation shape c own.fit (first + length earlier) own.begun restarts grown now lost fit_behind
          generation life begun in
          let same : generation ≡ first + length (c ∷ earlier) = omega (arith, one_more) in
          same)
          begun;
      goes_on =
          goes_on shape c own.fit (first + length earlier) own.begun restarts grown now lost fit_behind generation life
          begun;
    }

    one_more_behind : AreBehind shape first (c ∷ earlier) now
    one_more_behind = record {
      fit = fit_behind;
      one = (before.one, (own, restarts));
      next = λ life restored.
          let begun = restored fit_behind.records fit_behind.tell in next_behind life begun.0 begun.1;
    }

module _ (shape : Shape) (given : Seen) (fit : AreFit shape given) where
  abbrev first : ℕ
  first = generation_behind (restored_of shape (disks_of fit.records))

  first_begins : (life : Life) (generation : ℕ) → BeginsOn shape given fit generation life
      → IsNext shape first [] given life
  unfolding generation_behind
  first_begins life generation begun = record {
    fit = fit;
    begun =
        subst (λ (n : ℕ). HasBegun shape (disks_of fit.records) n life.start_epoch life.start_rows)
        (let read : first ≡ begun.restored.generation + 1 = ap generation_behind begun.read in
        let is = begun.begins.0 in
        let same : generation ≡ first + 0 = omega (arith, read, is) in
        same)
        begun;
    goes_on = tt;
  }

  behind : (chapters : List Chapter) (now : Seen) → Each (IsChapter shape) chapters → AreHandedOn given chapters now
      → AreBehind shape first chapters now
  behind [] now are same =
      subst (AreBehind shape first []) (sym same)
      (record {
        fit = fit;
        one = tt;
        next = λ life restored. let begun = restored fit.records fit.tell in first_begins life begun.0 begun.1;
      })
  behind (c ∷ earlier) now are handed =
      one_more_behind shape first c earlier now are.0 handed.1.0 handed.1.1 (behind earlier c.opened are.1 handed.0)

  -- up to its end
  pub one_history : (e : Ending) (chapters : List Chapter) (last : Last) (own : List Command) (now : Seen)
      → Each (IsChapter shape) chapters → IsLast shape e own now last → AreHandedBack given chapters last now
      → HaveOneHistory shape e chapters now last
  one_history e chapters (Living life opened) own now are is disks =
      let before = behind chapters opened are disks.0 in
      let next : IsNext shape first chapters opened life = before.next life is.0 in (
        first,
        (
          before.one,
          (
            next,
            λ kept.
                (is.3 kept).0 next.fit.records next.fit.tell next.begun.restored
                (fit_for shape opened next.fit (first + length chapters) life next.begun),
          ),
        ),
      )
  one_history e chapters (Crash c) own now are is disks =
      let all = behind (c ∷ chapters) now (is.0, are) disks in (first, (all.one.0, (all.one, all.fit)))
  one_history e chapters (Unopened opened) own now are is disks =
      let before = behind chapters opened are disks.0 in (first, (before.one, before.fit))
