-- What is told of a session in place of its replies.
use Rattle.std.proofs.Common.{◌≡◌, ◌-◌, ℕ, List, [], ◌∷◌, ◌++◌, Bool, true, false, arith, length, refl, sym, subst}
use Rattle.std.specs.Prelude.{IfSome, Option, None, Some, if◌then◌else◌, nat_lt}
use Rattle.std.specs.List.{list_any}
use Rattle.run_theory.specs.Lists.{Each}
use Rattle.run_theory.proofs.EachSent.{each_get}
use Rattle.host_io.specs.Fault.{Rose}
use Rattle.script_lang.specs.declared.command.Command.{Command}
use Rattle.shell_top.specs.AllLives.{AreLives}
use Rattle.shell_top.specs.Chapters.{Chapter, Crash, IsChapter, IsLast, Last, Living, Unopened, last_lives, lives_of}
use Rattle.shell_top.specs.declared.ended.Ending.{Ending}
use Rattle.shell_top.specs.declared.ended.Ending.TheVariants as ending
use Rattle.shell_top.specs.Seen.{Seen}
use Rattle.shell_top.specs.Session.{IsSession}
use Rattle.shell_top.specs.declared.telling.Telling.{Telling}
use Rattle.shell_top.specs.Stopped.{has_wanted}
use Rattle.shell_top.specs.Text.{fault_line, status_after, status_by}
use Rattle.shell_top.specs.TraceText.{too_long}
use Rattle.shell_top.specs.Traced.{has_trace, last_life, trace_of_any, traced, unless_too_long}
use Rattle.sig_core.specs.declared.log.Life.{Life}
use Rattle.sig_core.specs.declared.view.Shape.{Shape}
use Rattle.trace_write.specs.declared.trace.TheConstants.{TRACE_BYTES}

-- ---- lives without slots

abbrev HasNoSlots : Life → Type 0
HasNoSlots life = life.slots ≡ []

each_behind : (P : Life → Type 0) (xs ys : List Life) → Each P xs → Each P ys → Each P (xs ++ ys)
each_behind P [] ys one two = two
each_behind P (x ∷ xs) ys one two = (one.0, each_behind P xs ys one.1 two)

chapters_slotless : (shape : Shape) (chapters : List Chapter) → Each (IsChapter shape) chapters
    → Each HasNoSlots (lives_of chapters)
chapters_slotless shape [] are = tt
chapters_slotless shape (c ∷ earlier) are =
    each_behind HasNoSlots (lives_of earlier) (c.life ∷ []) (chapters_slotless shape earlier are.1)
    (are.0.life.no_slots, tt)

last_slotless : (shape : Shape) (e : Ending) (own : List Command) (now : Seen) (last : Last)
    → IsLast shape e own now last → Each HasNoSlots (last_lives last)
last_slotless shape e own now (Living life opened) is = (is.1.no_slots, tt)
last_slotless shape e own now (Crash c) is = (is.0.life.no_slots, tt)
last_slotless shape e own now (Unopened opened) is = tt

lives_slotless : (shape : Shape) (e : Ending) (commands : List Command) (given now : Seen) (lives : List Life)
    (text : List ℕ) → AreLives shape e commands given now lives text → Each HasNoSlots lives
lives_slotless shape e commands given now lives text are =
    subst (Each HasNoSlots) (sym are.all)
    (each_behind HasNoSlots (lives_of are.chapters) (last_lives are.last)
    (chapters_slotless shape are.chapters are.are)
    (last_slotless shape e are.own now are.last are.is_last))

last_of : (lives : List Life) → Each HasNoSlots lives → IfSome (last_life lives) HasNoSlots
last_of lives each = go (last_life lives) refl
  where
    go : (last : Option Life) → last_life lives ≡ last → IfSome last HasNoSlots
    go None is = tt
    go (Some life) is = each_get HasNoSlots lives (length lives - 1) life each is

module _ (shape : Shape) (left left_now written now : Option (List ℕ)) (ReadFailed WriteFailed : Type 0)
    (given seen : Seen) (e : Ending) (lives : List Life) where
  -- the last life of a session
  pub session_slotless :
      IsSession (Some shape) left left_now written now ReadFailed WriteFailed given seen e lives
      → IfSome (last_life lives) (λ life. life.slots ≡ [])
  session_slotless session =
      last_of lives (lives_slotless shape session.meant _ given seen lives session.text session.lived)

  -- where no sink failed
  pub unheard : (WriteFailed → ⊥)
      → IsSession (Some shape) left left_now written now ReadFailed WriteFailed given seen e lives
      → IsSession (Some shape) left left_now written now ReadFailed ⊥ given seen e lives
  unheard never s = record {
    input = s.input;
    text = s.text;
    ended = s.ended;
    meant = s.meant;
    consumed = s.consumed;
    at_end = s.at_end;
    ends = s.ends;
    read_cause = s.read_cause;
    write_cause = λ is. never (s.write_cause is);
    cut_short = s.cut_short;
    told = s.told;
    lived = s.lived;
    none_read = s.none_read;
    words_refused = s.words_refused;
    bounded = s.bounded;
  }

-- a sink that counts no faults has none
pub none_rose : Rose 0 0 → ⊥
none_rose rose = omega (arith, rose)

-- ---- the status behind it

abbrev bare : List ℕ → ℕ → Telling
bare text status = record { text = text; status = status }

long_status : (long : Bool) (bytes : List ℕ) (status s : ℕ) → (s ≡ 9 → ⊥)
    → (if long then too_long else bare bytes status).status ≡ s → status ≡ s
long_status true bytes status s never is = absurd (never (sym is))
long_status false bytes status s never is = is

trace_status : (has : Bool) (bytes line : List ℕ) (status s : ℕ) → (s ≡ 9 → ⊥)
    → (if has then unless_too_long bytes status else bare line status).status ≡ s → status ≡ s
trace_status true bytes line status s never is =
    long_status (nat_lt TRACE_BYTES (length bytes)) bytes status s never is
trace_status false bytes line status s never is = is

traced_status : (shape : Shape) (e : Ending) (lives : List Life) (s : ℕ) → (s ≡ 9 → ⊥)
    → (traced shape e lives).status ≡ s → status_after e lives ≡ s
traced_status shape e lives s never is =
    trace_status (has_trace e) (trace_of_any shape (last_life lives)) (fault_line e) (status_after e lives) s never is

status_read : (wanted : Bool) (e : Ending) → status_by wanted e ≡ 3 → e ≡ ending.ReadFault
status_read true ending.ReadFault is = refl
status_read false ending.ReadFault is = refl
status_read true _ is = absurd (omega (arith, is))
status_read false _ is = absurd (omega (arith, is))

status_write : (wanted : Bool) (e : Ending) → status_by wanted e ≡ 4 → e ≡ ending.WriteFault
status_write true ending.WriteFault is = refl
status_write false ending.WriteFault is = refl
status_write true _ is = absurd (omega (arith, is))
status_write false _ is = absurd (omega (arith, is))

-- the source failed
pub traced_read : (shape : Shape) (e : Ending) (lives : List Life) → (traced shape e lives).status ≡ 3
    → e ≡ ending.ReadFault
traced_read shape e lives is =
    status_read (list_any has_wanted lives) e (traced_status shape e lives 3 (λ bad. omega (arith, bad)) is)

-- or the sink
pub traced_write : (shape : Shape) (e : Ending) (lives : List Life) → (traced shape e lives).status ≡ 4
    → e ≡ ending.WriteFault
traced_write shape e lives is =
    status_write (list_any has_wanted lives) e (traced_status shape e lives 4 (λ bad. omega (arith, bad)) is)
