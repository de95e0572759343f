-- How a session goes on, line by line, and how it ends.
use Rattle.std.proofs.Common.{◌≡◌, ℕ, ◌+◌, ◌*◌, ◌≤◌, ◌<◌, List, [], ◌∷◌, ◌++◌, length, take, drop, Bool, true, false}
use Rattle.std.proofs.Common.{refl, ap, sym, subst, ◌∙◌, append_assoc, arith}
use Rattle.std.specs.Prelude.{Option, None, Some, MatchOption, position, nat_lt, ◌==◌, ◌&&◌}
use Rattle.std.proofs.lemmas.Bool.{true≢false}
use Rattle.std.proofs.lemmas.Bool.Decides.{nat_tests}
use Rattle.std.specs.Io.KnownBytes.{Consumes, Appends, IsAtEnd}
use Rattle.std.proofs.KnownBytes.{Appends-trans, Consumes-trans}
use Rattle.std.proofs.lemmas.List.{append-nil, take-append-drop, length-append, length-take-le, length-drop}
use Rattle.shell_top.specs.declared.ended.Ending.{Ending}
use Rattle.shell_top.specs.declared.ended.Ending.TheVariants as ending
use Rattle.script_lang.specs.declared.fault.LineFault.{LineFault}
use Rattle.shell_top.specs.declared.script.Parsed.{Parsed}
use Rattle.shell_top.specs.declared.script.Parsed.TheVariants as parsed
use Rattle.sig_core.specs.declared.view.Shape.{Shape}
use Rattle.sig_core.specs.declared.log.Life.{Life}
use Rattle.frag_map.specs.Shape.{IsShape}
use Rattle.script_lang.specs.declared.command.Command.{Command}
use Rattle.shell_top.specs.Chapters.{is_refusal}
use Rattle.shell_top.specs.Lives.{EndsIn, Going, HasObeyed, Obeys, all_lives, stops_early}
use Rattle.shell_top.specs.Printed.{Prints, is_cut_short}
use Rattle.shell_top.proofs.LivesLemmas.{ends_served, printed_whole, some_life}
use Rattle.shell_top.specs.Parsed.{parsed as parsed_line}
use Rattle.shell_top.specs.Reader.{Reads, IsPartial, is_newline}
use Rattle.shell_top.specs.Script.{Script, nothing_more, ends_with, follow, is_too_long, last_part, script_from}
use Rattle.shell_top.specs.Seen.{Seen}
use Rattle.shell_top.specs.AllLives.{AreLives}
use Rattle.shell_top.specs.Session.{Ends, IsUnderWay, AreLinesDone, after, is_finished}
use Rattle.shell_top.proofs.ScriptLemmas.{script-part, script-line, script-held, found_within, whole_line-long}
use Rattle.shell_top.proofs.ScriptLemmas.{whole_line-short, too_long_line, too_long_bytes, short_line, last_part-long}
use Rattle.shell_top.proofs.ScriptLemmas.{last_part-partial, last_part-whole, after-append}

-- something is held, and nothing
pub some_held : (held bytes : List ℕ) (empty : Bool) → bytes ≡ held → empty ≡ (length bytes == 0) → empty ≡ false
    → 0 < length held
some_held held bytes empty same is some =
    let tested : (length held == 0) ≡ false = ap (λ xs. length xs == 0) (sym same) ∙ sym is ∙ some in
    grind (arith, nat_tests, tested)

-- what the test for the last line says
pub past_end : (line : ℕ) (held : List ℕ) (past : Bool) → past ≡ (nat_lt 65536 line && nat_lt 0 (length held))
    → past ≡ true → (65536 < line) × (0 < length held)
past_end line held past is holds = both (nat_lt 65536 line) (nat_lt 0 (length held)) refl refl (sym is ∙ holds)
  where
    both : (a b : Bool) → nat_lt 65536 line ≡ a → nat_lt 0 (length held) ≡ b → (a && b) ≡ true
        → (65536 < line) × (0 < length held)
    both true true p q e = (grind (arith, nat_tests, p), grind (arith, nat_tests, q))
    both true false p q e = cc
    both false b p q e = cc

pub not_past_end : (line : ℕ) (held : List ℕ) (past : Bool) → past ≡ (nat_lt 65536 line && nat_lt 0 (length held))
    → past ≡ false → 0 < length held → line ≤ 65536
not_past_end line held past is fails some =
    either (nat_lt 65536 line) (nat_lt 0 (length held)) refl refl (sym is ∙ fails)
  where
    either : (a b : Bool) → nat_lt 65536 line ≡ a → nat_lt 0 (length held) ≡ b → (a && b) ≡ false → line ≤ 65536
    either true true p q e = cc
    either true false p q e = absurd (grind (arith, nat_tests, q))
    either false b p q e = grind (arith, nat_tests, p)

pub none_held : (held bytes : List ℕ) (empty : Bool) → bytes ≡ held → empty ≡ (length bytes == 0) → empty ≡ true
    → length held ≡ 0
none_held held bytes empty same is some =
    let tested : (length held == 0) ≡ true = ap (λ xs. length xs == 0) (sym same) ∙ sym is ∙ some in
    grind (arith, nat_tests, tested)

empty_held : (held : List ℕ) → length held ≡ 0 → held ≡ []
empty_held [] none = refl
empty_held (byte ∷ held) none = absurd (omega arith)

-- a session that stops early ends so whatever its script asks for
pub early_ends : (e : Ending) (at_end : Bool) (script : Script) → stops_early e ≡ true → Ends e at_end script
early_ends ending.WriteFault at_end script early = tt
early_ends ending.NoMemory at_end script early = tt
early_ends (ending.DiskFault node count) at_end script early = tt
early_ends (ending.OtherShape found asked) at_end script early = tt
early_ends (ending.Damaged node file at byte) at_end script early = tt
early_ends (ending.UsedUp generation epoch) at_end script early = tt
early_ends _ at_end script early = cc

pub early_words : (e : Ending) → stops_early e ≡ true → e ≡ ending.Words → ⊥
early_words e early is = true≢false (sym early ∙ ap stops_early is)

module _ (shape : Shape) (sound : IsShape shape) (left written : Option (List ℕ)) (given : Seen) where
  -- more was read
  pub read_on : (left_now left_then written_now : Option (List ℕ)) (seen : Seen) (line : ℕ)
      (held held_then : List ℕ) (gone : List Life) (now : Option Going)
      → IsUnderWay shape left left_now written written_now given seen line held gone now
      → Reads left_now left_then held held_then → length held_then ≤ 1024
      → IsUnderWay shape left left_then written written_now given seen line held_then gone now
  read_on left_now left_then written_now seen line held held_then gone now u r short = record {
    consumed = u.consumed;
    commands = u.commands;
    text = u.text;
    read = subst (Consumes left left_then)
        (append_assoc u.consumed held r.more ∙ ap (λ xs. u.consumed ++ xs) (sym r.kept))
        (Consumes-trans left left_now left_then (u.consumed ++ held) r.more u.read r.consumed);
    lines = u.lines;
    printed = u.printed;
    served = u.served;
    line_low = u.line_low;
    held_short = short;
    consumed_short = u.consumed_short;
  }

  module _ (left_now written_now : Option (List ℕ)) (seen : Seen) (line : ℕ) (held : List ℕ) (gone : List Life)
      (now : Option Going) (u : IsUnderWay shape left left_now written written_now given seen line held gone now) where
    -- what all that was read asks for
    abbrev all_read : Bool → Script
    all_read ended = script_from shape.nodes ended 1 (u.consumed ++ held)

    -- it is what was done, and what the part that is held asks for
    all_asked : (ended : Bool) (rest : Script) → script_from shape.nodes ended line held ≡ rest
        → all_read ended ≡ after u.commands rest
    all_asked ended rest e = u.lines ended held ∙ ap (after u.commands) e

    last_asked_for : (ended : Bool) (rest : Script) → script_from shape.nodes ended line held ≡ rest
        → (all_read ended).last ≡ rest.last
    last_asked_for ended rest e = ap (λ (x : Script). x.last) (all_asked ended rest e)

    all_bounded : length (u.consumed ++ held) ≤ 513 * 65536 + 1024
    all_bounded = omega (arith, length-append u.consumed held, u.consumed_short, u.line_low, u.held_short)

    -- the session ends here
    ends_here : (written_then : Option (List ℕ)) (seen_then : Seen) (e : Ending) (ended : Bool) (lives : List Life)
        (text : List ℕ) → (ended ≡ true → IsAtEnd left_now) → Ends e ended (all_read ended)
        → Prints e e written written_then text
        → AreLives shape e (all_read ended).commands given seen_then lives text → (lives ≡ [] → ⊥)
        → (e ≡ ending.Words → ⊥)
        → AreLinesDone shape left left_now written written_then given seen_then e lives
    ends_here written_then seen_then e ended lives text at_end ends told lived some no_words = record {
      input = u.consumed ++ held;
      text = text;
      ended = ended;
      consumed = u.read;
      at_end = at_end;
      ends = ends;
      told = told;
      lived = lived;
      some = some;
      no_words = no_words;
      bounded = all_bounded;
    }

    -- it ends between two commands
    ends_between : (e : Ending) (ended : Bool) (rest : Script) → is_refusal e ≡ false
        → script_from shape.nodes ended line held ≡ rest → (is_cut_short e ≡ false → rest.commands ≡ [])
        → (ended ≡ true → IsAtEnd left_now) → Ends e ended (all_read ended) → (e ≡ ending.Words → ⊥)
        → AreLinesDone shape left left_now written written_now given seen e (all_lives gone now)
    ends_between e ended rest none is all at_end ends no_words =
        ends_here written_now seen e ended (all_lives gone now) u.text at_end ends
        (printed_whole e u.text written written_now u.printed)
        (subst (λ cs. AreLives shape e cs given seen (all_lives gone now) u.text)
        (sym (ap (λ (x : Script). x.commands) (all_asked ended rest is)))
        (ends_served shape sound gone now u.commands u.text given seen u.served e none rest.commands all))
        (some_life shape sound gone now u.commands u.text given seen u.served) no_words

    -- a line is refused
    pub ends_refused : (fault : LineFault) (ended : Bool) → (ended ≡ true → IsAtEnd left_now)
        → script_from shape.nodes ended line held ≡ ends_with (ending.Refused line fault)
        → AreLinesDone shape left left_now written written_now given seen (ending.Refused line fault)
        (all_lives gone now)
    ends_refused fault ended at_end e =
        ends_between (ending.Refused line fault) ended _ refl e (λ whole. refl) at_end (last_asked_for ended _ e)
        (λ is. cc)

    -- a line is too long
    pub ends_too_long : script_from shape.nodes false line held ≡ ends_with (ending.TooLong line)
        → AreLinesDone shape left left_now written written_now given seen (ending.TooLong line) (all_lives gone now)
    ends_too_long e =
        ends_between (ending.TooLong line) false _ refl e (λ whole. refl) (λ is. cc) (last_asked_for false _ e)
        (λ is. cc)

    -- the source failed, and no line is whole
    pub ends_unread : script_from shape.nodes false line held ≡ nothing_more
        → AreLinesDone shape left left_now written written_now given seen ending.ReadFault (all_lives gone now)
    ends_unread e =
        ends_between ending.ReadFault false _ refl e (λ whole. refl) (λ is. cc) (refl, last_asked_for false _ e)
        (λ is. cc)

    -- the source was read to its end, and nothing is left to do
    pub ends_finished : IsAtEnd left_now → script_from shape.nodes true line held ≡ nothing_more
        → AreLinesDone shape left left_now written written_now given seen ending.Finished (all_lives gone now)
    ends_finished at_end e =
        ends_between ending.Finished true _ refl e (λ whole. refl) (λ is. at_end)
        (ap (is_finished true) (last_asked_for true _ e)) (λ is. cc)

    -- or the session is to end
    pub ends_quit : (ended : Bool) → (ended ≡ true → IsAtEnd left_now)
        → script_from shape.nodes ended line held ≡ ends_with ending.Finished
        → AreLinesDone shape left left_now written written_now given seen ending.Finished (all_lives gone now)
    ends_quit ended at_end e =
        ends_between ending.Finished ended _ refl e (λ whole. refl) at_end
        (ap (is_finished ended) (last_asked_for ended _ e)) (λ is. cc)

    -- memory is wanting
    pub ends_unremembered
        : AreLinesDone shape left left_now written written_now given seen ending.NoMemory (all_lives gone now)
    ends_unremembered =
        ends_between ending.NoMemory false (script_from shape.nodes false line held) refl refl (λ whole. cc) (λ is. cc)
        tt (λ is. cc)

    -- what is held begins with a command, in which the session ends
    pub ends_in : (written_then : Option (List ℕ)) (seen_then : Seen) (c : Command) (ended : Bool) (rest : Script)
        → script_from shape.nodes ended line held ≡ after (c ∷ []) rest → (ended ≡ true → IsAtEnd left_now)
        → (later : List Life) (next : Option Going) (e : Ending)
        → EndsIn shape c u.commands u.text given seen_then later next written_now written_then e
        → AreLinesDone shape left left_now written written_then given seen_then e (all_lives later next)
    ends_in written_then seen_then c ended rest asked at_end later next e cut =
        ends_here written_then seen_then e ended (all_lives later next) cut.told at_end
        (early_ends e ended (all_read ended) cut.early) (cut.printed written u.printed)
        (subst (λ cs. AreLives shape e cs given seen_then (all_lives later next) cut.told)
        (sym (ap (λ (x : Script). x.commands) (all_asked ended _ asked))) (cut.lived rest.commands))
        cut.some (early_words e cut.early)

    -- the text of a command behind the text before
    printed_on : (written_then : Option (List ℕ)) (seen_then : Seen) (c : Command) (later : List Life)
        (next : Option Going)
        → (o : HasObeyed shape c u.commands u.text given seen_then later next written_now written_then)
        → Appends written written_then (u.text ++ o.more)
    printed_on written_then seen_then c later next o =
        Appends-trans written written_now written_then u.text o.more u.printed o.printed

    -- the last line is a command, and it was served
    pub ends_answered : (written_then : Option (List ℕ)) (seen_then : Seen) (c : Command) (later : List Life)
        (next : Option Going)
        → script_from shape.nodes true line held ≡ after (c ∷ []) nothing_more → IsAtEnd left_now
        → HasObeyed shape c u.commands u.text given seen_then later next written_now written_then
        → AreLinesDone shape left left_now written written_then given seen_then ending.Finished (all_lives later next)
    ends_answered written_then seen_then c later next asked at_end o =
        ends_here written_then seen_then ending.Finished true (all_lives later next) (u.text ++ o.more) (λ is. at_end)
        (ap (is_finished true) (last_asked_for true _ asked))
        (refl, printed_on written_then seen_then c later next o)
        (subst (λ cs. AreLives shape ending.Finished cs given seen_then (all_lives later next) (u.text ++ o.more))
        (append-nil (u.commands ++ c ∷ []) ∙ sym (ap (λ (x : Script). x.commands) (all_asked true _ asked)))
        (ends_served shape sound later next (u.commands ++ c ∷ []) (u.text ++ o.more) given seen_then o.served
        ending.Finished refl [] (λ whole. refl)))
        (some_life shape sound later next (u.commands ++ c ∷ []) (u.text ++ o.more) given seen_then o.served)
        (λ is. cc)

    -- a whole line is passed
    module _ (at : ℕ) (found : position is_newline held ≡ Some at) (low : line ≤ 65536) (short : at ≤ 512) where
      line_length : length (take at held) ≡ at
      line_length = length-take-le at held (let within = found_within held at found in omega arith)

      front_length : length (take (at + 1) held) ≡ at + 1
      front_length = length-take-le (at + 1) held (let within = found_within held at found in omega arith)

      line_short : is_too_long line (take at held) ≡ false
      line_short = short_line line (take at held) low (omega (arith, line_length))

      -- what is held asks for what its first line does, and then for the rest
      pub first_asked : (ended : Bool) (is : Parsed) → parsed_line shape.nodes (take at held) ≡ is
          → script_from shape.nodes ended line held
          ≡ follow line is (script_from shape.nodes ended (line + 1) (drop (at + 1) held))
      first_asked ended is e =
          script-held shape.nodes ended line held at found
          ∙ whole_line-short shape.nodes line (take at held) _ line_short
          ∙ ap (λ p. follow line p (script_from shape.nodes ended (line + 1) (drop (at + 1) held))) e

      lines_on : (commands : List Command) (is : Parsed) → parsed_line shape.nodes (take at held) ≡ is
          → ((rest : Script) → follow line is rest ≡ after commands rest)
          → (ended : Bool) (more : List ℕ)
          → script_from shape.nodes ended 1 ((u.consumed ++ take (at + 1) held) ++ more)
          ≡ after (u.commands ++ commands) (script_from shape.nodes ended (line + 1) more)
      lines_on commands is e follows ended more =
          ap (script_from shape.nodes ended 1) (append_assoc u.consumed (take (at + 1) held) more)
          ∙ u.lines ended (take (at + 1) held ++ more)
          ∙ ap (after u.commands)
          (script-line shape.nodes ended line held at more found
          ∙ whole_line-short shape.nodes line (take at held) _ line_short
          ∙ ap (λ p. follow line p (script_from shape.nodes ended (line + 1) more)) e
          ∙ follows (script_from shape.nodes ended (line + 1) more))
          ∙ sym (after-append u.commands commands (script_from shape.nodes ended (line + 1) more))

      read_rest : Consumes left left_now ((u.consumed ++ take (at + 1) held) ++ drop (at + 1) held)
      read_rest = subst (Consumes left left_now)
          (ap (λ xs. u.consumed ++ xs) (sym (take-append-drop (at + 1) held))
          ∙ sym (append_assoc u.consumed (take (at + 1) held) (drop (at + 1) held)))
          u.read

      -- the line asks for nothing
      pub goes_on : parsed_line shape.nodes (take at held) ≡ parsed.Nothing
          → IsUnderWay shape left left_now written written_now given seen (line + 1) (drop (at + 1) held) gone now
      goes_on e = record {
        consumed = u.consumed ++ take (at + 1) held;
        commands = u.commands;
        text = u.text;
        read = read_rest;
        lines = λ ended more. lines_on [] parsed.Nothing e (λ rest. refl) ended more
            ∙ ap (λ commands. after commands (script_from shape.nodes ended (line + 1) more)) (append-nil u.commands);
        printed = u.printed;
        served = u.served;
        line_low = omega arith;
        held_short = omega (arith, u.held_short, length-drop (at + 1) held);
        consumed_short = omega (arith, u.consumed_short, length-append u.consumed (take (at + 1) held), front_length);
      }

      -- the line is a command, and it was served
      goes_on_asked : (written_then : Option (List ℕ)) (seen_then : Seen) (later : List Life) (next : Option Going)
          (c : Command) → parsed_line shape.nodes (take at held) ≡ parsed.Ask c
          → HasObeyed shape c u.commands u.text given seen_then later next written_now written_then
          → IsUnderWay shape left left_now written written_then given seen_then (line + 1) (drop (at + 1) held) later
          next
      goes_on_asked written_then seen_then later next c e o =
          record {
            consumed = u.consumed ++ take (at + 1) held;
            commands = u.commands ++ c ∷ [];
            text = u.text ++ o.more;
            read = read_rest;
            lines = lines_on (c ∷ []) (parsed.Ask c) e (λ rest. refl);
            printed = printed_on written_then seen_then c later next o;
            served = o.served;
            line_low = omega arith;
            held_short = omega (arith, u.held_short, length-drop (at + 1) held);
            consumed_short =
                omega (arith, u.consumed_short, length-append u.consumed (take (at + 1) held), front_length);
          }

      -- or the session ends in it
      pub line_asked : (written_then : Option (List ℕ)) (seen_then : Seen) (shape_now : Shape) (later : List Life)
          (next : Option Going) (c : Command) (result : Option Ending) → shape_now ≡ shape
          → parsed_line shape.nodes (take at held) ≡ parsed.Ask c
          → Obeys shape c seen seen_then gone later now next written_now written_then result
          → MatchOption result
          ((shape_now ≡ shape) × IsUnderWay shape_now left left_now written written_then given seen_then (line + 1)
          (drop (at + 1) held) later next)
          (λ ending. AreLinesDone shape left left_now written written_then given seen_then ending
          (all_lives later next))
      line_asked written_then seen_then shape_now later next c None same e obeys = (
        same,
        subst
            (λ sh. IsUnderWay sh left left_now written written_then given seen_then (line + 1) (drop (at + 1) held)
            later next)
            (sym same)
            (goes_on_asked written_then seen_then later next c e (obeys u.commands u.text given u.served)),
      )
      line_asked written_then seen_then shape_now later next c (Some ending) same e obeys =
          ends_in written_then seen_then c false _ (first_asked false (parsed.Ask c) e) (λ is. cc) later next ending
          (obeys u.commands u.text given u.served)

      -- the session is to end
      pub line_quit : parsed_line shape.nodes (take at held) ≡ parsed.Quit
          → AreLinesDone shape left left_now written written_now given seen ending.Finished (all_lives gone now)
      line_quit e = ends_quit false (λ is. cc) (first_asked false parsed.Quit e)

      -- the line is refused
      pub line_fault : (fault : LineFault) → parsed_line shape.nodes (take at held) ≡ parsed.Fault fault
          → AreLinesDone shape left left_now written written_now given seen (ending.Refused line fault)
          (all_lives gone now)
      line_fault fault e = ends_refused fault false (λ is. cc) (first_asked false (parsed.Fault fault) e)

    -- a whole line is too long
    pub line_too_long : (at : ℕ) → position is_newline held ≡ Some at → 512 < at
        → AreLinesDone shape left left_now written written_now given seen (ending.TooLong line) (all_lives gone now)
    line_too_long at found long =
        let size : length (take at held) ≡ at =
        length-take-le at held (let within = found_within held at found in omega arith) in
        ends_too_long (script-held shape.nodes false line held at found ∙ whole_line-long shape.nodes line
        (take at held) _ (too_long_bytes line (take at held) (omega (arith, size))))

    -- what is held can't be a line any more
    pub part_too_long : position is_newline held ≡ None → 512 < length held
        → AreLinesDone shape left left_now written written_now given seen (ending.TooLong line) (all_lives gone now)
    part_too_long none long =
        let some : 0 < length held = omega arith in
        ends_too_long (script-part shape.nodes false line held none ∙ last_part-long shape.nodes false line held some
        (too_long_bytes line held long))

    -- there is a line after the last that may be
    past_by : (found : Option ℕ) → position is_newline held ≡ found → 65536 < line → 0 < length held
        → AreLinesDone shape left left_now written written_now given seen (ending.TooLong line) (all_lives gone now)
    past_by None e past some = ends_too_long
        (script-part shape.nodes false line held e
        ∙ last_part-long shape.nodes false line held some (too_long_line line held past))
    past_by (Some at) e past some = ends_too_long
        (script-held shape.nodes false line held at e
        ∙ whole_line-long shape.nodes line (take at held) _ (too_long_line line (take at held) past))

    pub line_past : 65536 < line → 0 < length held
        → AreLinesDone shape left left_now written written_now given seen (ending.TooLong line) (all_lives gone now)
    line_past past some = past_by (position is_newline held) refl past some

    -- the source failed
    pub part_unread : IsPartial held → (0 < length held → line ≤ 65536)
        → AreLinesDone shape left left_now written written_now given seen ending.ReadFault (all_lives gone now)
    part_unread partial low = ends_unread
        (script-part shape.nodes false line held partial.no_newline
        ∙ last_part-partial shape.nodes line held (λ some. short_line line held (low some) partial.short))

    -- the last line
    module _ (partial : IsPartial held) (low : 0 < length held → line ≤ 65536) (at_end : IsAtEnd left_now) where
      pub last_none : length held ≡ 0
          → AreLinesDone shape left left_now written written_now given seen ending.Finished (all_lives gone now)
      last_none none = ends_finished at_end
          (script-part shape.nodes true line held partial.no_newline
          ∙ ap (last_part shape.nodes true line) (empty_held held none))

      last_asked : (is : Parsed) → 0 < length held → parsed_line shape.nodes held ≡ is
          → script_from shape.nodes true line held ≡ follow line is nothing_more
      last_asked is some e =
          script-part shape.nodes true line held partial.no_newline
          ∙ last_part-whole shape.nodes line held some (short_line line held (low some) partial.short)
          ∙ ap (λ p. follow line p nothing_more) e

      pub last_nothing : 0 < length held → parsed_line shape.nodes held ≡ parsed.Nothing
          → AreLinesDone shape left left_now written written_now given seen ending.Finished (all_lives gone now)
      last_nothing some e = ends_finished at_end (last_asked parsed.Nothing some e)

      pub last_fault : (fault : LineFault) → 0 < length held → parsed_line shape.nodes held ≡ parsed.Fault fault
          → AreLinesDone shape left left_now written written_now given seen (ending.Refused line fault)
          (all_lives gone now)
      last_fault fault some e = ends_refused fault true (λ is. at_end) (last_asked (parsed.Fault fault) some e)

      pub last_quit : 0 < length held → parsed_line shape.nodes held ≡ parsed.Quit
          → AreLinesDone shape left left_now written written_now given seen ending.Finished (all_lives gone now)
      last_quit some e = ends_quit true (λ is. at_end) (last_asked parsed.Quit some e)

      pub last_command : (written_then : Option (List ℕ)) (seen_then : Seen) (later : List Life)
          (next : Option Going) (c : Command) (result : Option Ending) → 0 < length held
          → parsed_line shape.nodes held ≡ parsed.Ask c
          → Obeys shape c seen seen_then gone later now next written_now written_then result
          → MatchOption result
          (AreLinesDone shape left left_now written written_then given seen_then ending.Finished
          (all_lives later next))
          (λ ending. AreLinesDone shape left left_now written written_then given seen_then ending
          (all_lives later next))
      last_command written_then seen_then later next c None some e obeys =
          ends_answered written_then seen_then c later next (last_asked (parsed.Ask c) some e) at_end
          (obeys u.commands u.text given u.served)
      last_command written_then seen_then later next c (Some ending) some e obeys =
          ends_in written_then seen_then c true nothing_more (last_asked (parsed.Ask c) some e) (λ is. at_end) later
          next ending (obeys u.commands u.text given u.served)
