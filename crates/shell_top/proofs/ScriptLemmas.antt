-- How a script falls into lines, as they are read.
use Rattle.std.proofs.Common.{◌≡◌, ℕ, suc, ◌+◌, ◌≤◌, ◌<◌, List, [], ◌∷◌, ◌++◌, length, take, drop, Bool, true, false}
use Rattle.std.proofs.Common.{cond, not, refl, ap, sym, subst, ◌∙◌, append_assoc, arith}
use Rattle.std.specs.Prelude.{Option, None, Some, Result, Ok, Err, position, nat_lt, if◌then◌else◌}
use Rattle.std.specs.List.{position_or_len, slice_split, onto_first}
use Rattle.std.proofs.lemmas.Bool.Decides.{nat_tests}
use Rattle.std.proofs.lemmas.List.{take-append-drop}
use Rattle.std.proofs.lemmas.List.Splits.{slice_split-cons_yes, slice_split-cons_no, length-slice_split}
use Rattle.script_lang.proofs.ReadIsSpelled.{lines_are_spelled}
use Rattle.script_lang.specs.Spelling.{IsCommand}
use Rattle.script_lang.specs.declared.command.Command.{Command}
use Rattle.shell_top.specs.declared.ended.Ending.TheVariants.{TooLong}
use Rattle.script_lang.specs.declared.command.Command.TheVariants as command
use Rattle.script_lang.specs.declared.fault.LineFault.{LineFault}
use Rattle.script_lang.specs.declared.fault.LineFault.TheVariants.{UnknownCommand}
use Rattle.script_lang.specs.Line.{first_word, parsed_line as whole_grammar}
use Rattle.shell_top.specs.Asked.{IsOfWords, is_asked_for}
use Rattle.shell_top.specs.declared.script.Parsed.{Parsed}
use Rattle.shell_top.specs.declared.script.Parsed.TheVariants as parsed
use Rattle.shell_top.specs.Parsed.{asked as asked_as, available, may_stand, parsed as parsed_line, parsed_as}
use Rattle.shell_top.specs.Reader.{is_newline}
use Rattle.shell_top.specs.Script.{Script, nothing_more, ends_with, follow, is_too_long, whole_line, last_part}
use Rattle.shell_top.specs.Script.{script_of, script_from}
use Rattle.shell_top.specs.Session.{after}

-- where a newline stands in what comes first, the first part ends there
place-yes : (byte : ℕ) (bytes : List ℕ) → is_newline byte ≡ true → position_or_len is_newline (byte ∷ bytes) ≡ 0
place-yes byte bytes is = ap (λ b. cond (not b) (1 + position_or_len is_newline bytes) 0) is

place-no : (byte : ℕ) (bytes : List ℕ) → is_newline byte ≡ false
    → position_or_len is_newline (byte ∷ bytes) ≡ suc (position_or_len is_newline bytes)
place-no byte bytes is =
    let one_more : 1 + position_or_len is_newline bytes ≡ suc (position_or_len is_newline bytes) = omega arith in
    ap (λ b. cond (not b) (1 + position_or_len is_newline bytes) 0) is ∙ one_more

-- up to the newline at a place stands one part, and the others are those of what follows
pub record SplitsAt (held : List ℕ) (at : ℕ) : Type 0 where
  pub parts : (more : List ℕ)
      → slice_split is_newline (take (at + 1) held ++ more) ≡ take at held ∷ slice_split is_newline more

splits_here : (byte : ℕ) (bytes : List ℕ) → is_newline byte ≡ true → SplitsAt (byte ∷ bytes) 0
splits_here byte bytes is = record { parts = λ more. slice_split-cons_yes is_newline byte more is }

splits_later : (byte : ℕ) (bytes : List ℕ) (at : ℕ) → is_newline byte ≡ false → SplitsAt bytes at
    → SplitsAt (byte ∷ bytes) (suc at)
splits_later byte bytes at is later = record {
  parts = λ more.
      (let shift : suc at + 1 ≡ suc (at + 1) = omega arith in
      ap (λ n. slice_split is_newline (take n (byte ∷ bytes) ++ more)) shift)
      ∙ slice_split-cons_no is_newline byte (take (at + 1) bytes ++ more) is ∙ ap (onto_first byte) (later.parts more);
}

splits_by : (byte : ℕ) (bytes : List ℕ) (b : Bool) → is_newline byte ≡ b
    → position_or_len is_newline (byte ∷ bytes) < length (byte ∷ bytes)
    → (position_or_len is_newline bytes < length bytes → SplitsAt bytes (position_or_len is_newline bytes))
    → SplitsAt (byte ∷ bytes) (position_or_len is_newline (byte ∷ bytes))
splits_by byte bytes true is found later =
    subst (SplitsAt (byte ∷ bytes)) (sym (place-yes byte bytes is)) (splits_here byte bytes is)
splits_by byte bytes false is found later =
    let place = place-no byte bytes is in
    subst (SplitsAt (byte ∷ bytes)) (sym place) (splits_later byte bytes _ is (later (omega (arith, place, found))))

splits_found : (held : List ℕ) → position_or_len is_newline held < length held
    → SplitsAt held (position_or_len is_newline held)
splits_found [] found = absurd (omega arith)
splits_found (byte ∷ bytes) found = splits_by byte bytes (is_newline byte) refl found (splits_found bytes)

-- the place that was found, and that it lies within
found_at : (b : Bool) (n at : ℕ) → cond b (Some n) None ≡ Some at → (b ≡ true) × (n ≡ at)
found_at true n at e = (refl, cc)
found_at false n at e = cc

pub splits_at : (held : List ℕ) (at : ℕ) → position is_newline held ≡ Some at → SplitsAt held at
splits_at held at e =
    let found =
    found_at (nat_lt (position_or_len is_newline held) (length held)) (position_or_len is_newline held) at e in
    let within : position_or_len is_newline held < length held = grind (arith, nat_tests, found.0) in
    subst (SplitsAt held) found.1 (splits_found held within)

pub found_within : (held : List ℕ) (at : ℕ) → position is_newline held ≡ Some at → at < length held
found_within held at e =
    let found =
    found_at (nat_lt (position_or_len is_newline held) (length held)) (position_or_len is_newline held) at e in
    let within : position_or_len is_newline held < length held = grind (arith, nat_tests, found.0) in
    subst (λ n. n < length held) found.1 within

-- bytes with no newline are one part
pub record IsOnePart (held : List ℕ) : Type 0 where
  pub parts : slice_split is_newline held ≡ held ∷ []

one_part_by : (byte : ℕ) (bytes : List ℕ) (b : Bool) → is_newline byte ≡ b
    → length (byte ∷ bytes) ≤ position_or_len is_newline (byte ∷ bytes)
    → (length bytes ≤ position_or_len is_newline bytes → IsOnePart bytes) → IsOnePart (byte ∷ bytes)
one_part_by byte bytes true is none later = absurd (omega (arith, place-yes byte bytes is, none))
one_part_by byte bytes false is none later =
    let rest = later (omega (arith, place-no byte bytes is, none)) in
    record { parts = slice_split-cons_no is_newline byte bytes is ∙ ap (onto_first byte) rest.parts }

one_part_past : (held : List ℕ) → length held ≤ position_or_len is_newline held → IsOnePart held
one_part_past [] none = record { parts = refl }
one_part_past (byte ∷ bytes) none = one_part_by byte bytes (is_newline byte) refl none (one_part_past bytes)

not_found : (b : Bool) (n : ℕ) → cond b (Some n) None ≡ None → b ≡ false
not_found true n e = cc
not_found false n e = refl

pub one_part : (held : List ℕ) → position is_newline held ≡ None → IsOnePart held
one_part held e =
    let none = not_found (nat_lt (position_or_len is_newline held) (length held)) (position_or_len is_newline held) e in
    one_part_past held (grind (arith, nat_tests, none))

-- a line that is too long, and one that isn't
pub too_long_line : (line : ℕ) (bytes : List ℕ) → 65536 < line → is_too_long line bytes ≡ true
too_long_line line bytes past = grind (arith, nat_tests)

pub too_long_bytes : (line : ℕ) (bytes : List ℕ) → 512 < length bytes → is_too_long line bytes ≡ true
too_long_bytes line bytes long = grind (arith, nat_tests)

pub short_line : (line : ℕ) (bytes : List ℕ) → line ≤ 65536 → length bytes ≤ 512 → is_too_long line bytes ≡ false
short_line line bytes low short = grind (arith, nat_tests)

-- lines of a script for so many nodes
module _ (nodes : ℕ) where
  -- so what is held without a newline is the last part of what was read
  pub script-part : (ended : Bool) (line : ℕ) (held : List ℕ) → position is_newline held ≡ None
      → script_from nodes ended line held ≡ last_part nodes ended line held
  script-part ended line held e = ap (script_of nodes ended line) (one_part held e).parts

  -- a list of parts is never empty
  split_some : (ys : List ℕ) → 0 < length (slice_split is_newline ys)
  split_some ys = omega (arith, length-slice_split is_newline ys)

  script_of-line : (ended : Bool) (line : ℕ) (part : List ℕ) (parts : List (List ℕ)) → 0 < length parts
      → script_of nodes ended line (part ∷ parts) ≡ whole_line nodes line part (script_of nodes ended (line + 1) parts)
  script_of-line ended line part [] some = absurd (omega arith)
  script_of-line ended line part (next ∷ more) some = refl

  -- a line that is whole, and the script behind it
  pub script-line : (ended : Bool) (line : ℕ) (held : List ℕ) (at : ℕ) (more : List ℕ)
      → position is_newline held ≡ Some at
      → script_from nodes ended line (take (at + 1) held ++ more)
      ≡ whole_line nodes line (take at held) (script_from nodes ended (line + 1) more)
  script-line ended line held at more e =
      ap (script_of nodes ended line) ((splits_at held at e).parts more)
      ∙ script_of-line ended line (take at held) (slice_split is_newline more) (split_some more)

  -- the same, of all that is held
  pub script-held : (ended : Bool) (line : ℕ) (held : List ℕ) (at : ℕ) → position is_newline held ≡ Some at
      → script_from nodes ended line held
      ≡ whole_line nodes line (take at held) (script_from nodes ended (line + 1) (drop (at + 1) held))
  script-held ended line held at e =
      ap (script_from nodes ended line) (sym (take-append-drop (at + 1) held))
      ∙ script-line ended line held at (drop (at + 1) held) e

  -- a line that is too long, and one that isn't
  pub whole_line-long : (line : ℕ) (bytes : List ℕ) (rest : Script) → is_too_long line bytes ≡ true
      → whole_line nodes line bytes rest ≡ ends_with (TooLong line)
  whole_line-long line bytes rest long =
      ap (λ b. if b then ends_with (TooLong line) else follow line (parsed_line nodes bytes) rest) long

  pub whole_line-short : (line : ℕ) (bytes : List ℕ) (rest : Script) → is_too_long line bytes ≡ false
      → whole_line nodes line bytes rest ≡ follow line (parsed_line nodes bytes) rest
  whole_line-short line bytes rest short =
      ap (λ b. if b then ends_with (TooLong line) else follow line (parsed_line nodes bytes) rest) short

  -- the last part of what was read
  pub last_part-long : (ended : Bool) (line : ℕ) (held : List ℕ) → 0 < length held → is_too_long line held ≡ true
      → last_part nodes ended line held ≡ ends_with (TooLong line)
  last_part-long ended line [] some long = absurd (omega arith)
  last_part-long true line (byte ∷ bytes) some long = whole_line-long line (byte ∷ bytes) nothing_more long
  last_part-long false line (byte ∷ bytes) some long =
      ap (λ b. if b then ends_with (TooLong line) else nothing_more) long

  pub last_part-partial : (line : ℕ) (held : List ℕ) → (0 < length held → is_too_long line held ≡ false)
      → last_part nodes false line held ≡ nothing_more
  last_part-partial line [] short = refl
  last_part-partial line (byte ∷ bytes) short =
      ap (λ b. if b then ends_with (TooLong line) else nothing_more) (short (omega arith))

  pub last_part-whole : (line : ℕ) (held : List ℕ) → 0 < length held → is_too_long line held ≡ false
      → last_part nodes true line held ≡ follow line (parsed_line nodes held) nothing_more
  last_part-whole line [] some short = absurd (omega arith)
  last_part-whole line (byte ∷ bytes) some short = whole_line-short line (byte ∷ bytes) nothing_more short

-- commands, and then others
pub after-append : (first second : List Command) (script : Script)
    → after (first ++ second) script ≡ after first (after second script)
after-append first second script =
    ap (λ commands. record { commands = commands; last = script.last }) (append_assoc first second script.commands)

-- what a line asks for is a command of the whole grammar, which is served
asks_it : (c found : Command) → asked_as found ≡ parsed.Ask c → (found ≡ c) × (is_asked_for found ≡ true)
asks_it c (command.Begin name at) e = (cc, refl)
asks_it c (command.Operate name op) e = (cc, refl)
asks_it c (command.Commit name) e = (cc, refl)
asks_it c (command.Abort name) e = (cc, refl)
asks_it c (command.Kill at) e = (cc, refl)
asks_it c (command.Cut one other) e = (cc, refl)
asks_it c command.Micro e = (cc, refl)
asks_it c command.Gcp e = (cc, refl)
asks_it c command.Lcp e = (cc, refl)
asks_it c command.View e = (cc, refl)
asks_it c (command.Tick rounds) e = (cc, refl)
asks_it c (command.Rows at) e = (cc, refl)
asks_it c (command.Digest at) e = (cc, refl)
asks_it c command.Crash e = (cc, refl)
asks_it c command.Restart e = (cc, refl)
asks_it c command.Quit e = absurd cc
asks_it c _ e = absurd cc

line_asks : (nodes : ℕ) (line : List ℕ) (c : Command) → parsed_line nodes line ≡ parsed.Ask c
    → (whole_grammar false nodes line ≡ Ok (Some c)) × (is_asked_for c ≡ true)
line_asks nodes line c e = go (may_stand (first_word line)) e
  where
    by : (result : Result (Option Command) LineFault) → parsed_as result ≡ parsed.Ask c
        → (result ≡ Ok (Some c)) × (is_asked_for c ≡ true)
    by (Ok None) e = absurd cc
    by (Ok (Some found)) e =
        let it = asks_it c found e in
        (ap (λ x. Ok (Some x)) it.0, ap is_asked_for (sym it.0) ∙ it.1)
    by (Err fault) e = absurd cc

    go : (b : Bool) → (if b then available nodes line else parsed.Fault UnknownCommand) ≡ parsed.Ask c
        → (whole_grammar false nodes line ≡ Ok (Some c)) × (is_asked_for c ≡ true)
    go true e = by (whole_grammar false nodes line) e
    go false e = absurd cc

pub command_served : (nodes : ℕ) (line : List ℕ) (c : Command) → parsed_line nodes line ≡ parsed.Ask c
    → is_asked_for c ≡ true
command_served nodes line c e = (line_asks nodes line c e).1

-- and one for an operation is for one of words
pub command_words : (nodes : ℕ) (line : List ℕ) (c : Command) → nodes ≤ 8 → parsed_line nodes line ≡ parsed.Ask c
    → IsOfWords c
command_words nodes line c few e =
    of_words c (lines_are_spelled false nodes line c (omega (arith, few)) (line_asks nodes line c e).0).1
  where
    of_words : (c : Command) → IsCommand false nodes c → IsOfWords c
    of_words (command.Operate None op) is = is.1
    of_words (command.Operate (Some name) op) is = is.1
    of_words _ is = tt

-- what the session took a line for is what it asks for
pub line_means : (nodes told : ℕ) (line read : List ℕ) (found is : Parsed) → told ≡ nodes → read ≡ line
    → found ≡ parsed_line told read → found ≡ is → parsed_line nodes line ≡ is
line_means nodes told line read found is many same takes means =
    ap (λ n. parsed_line n line) (sym many) ∙ ap (parsed_line told) (sym same) ∙ sym takes ∙ means
