-- Lines that a console takes are commands of the session.
use Rattle.std.proofs.Common.{◌≡◌, ℕ, zero, suc, ◌+◌, ◌≤◌, List, [], ◌∷◌, length, take, Bool, true, false}
use Rattle.std.proofs.Common.{cond, refl, ap, sym, subst, arith}
use Rattle.std.specs.Prelude.{◌==◌, ◌&&◌, ◌||◌, not, nat_lt, if◌then◌else◌, filter, slice_index, Option, None, Some}
use Rattle.std.specs.Prelude.{Result, Ok, Err, bytes_eq, codes}
use Rattle.std.specs.List.{All, slice_split, onto_first}
use Rattle.std.proofs.lemmas.Bool.Decides.{nat_tests}
use Rattle.std.proofs.lemmas.List.Elements.{All-nil, All-cons}
use Rattle.std.proofs.lemmas.List.Splits.{length-slice_split, slice_split_at, slice_split-cons_yes, slice_split-cons_no}
use Rattle.console.specs.Given.{is_newline, text_of}
use Rattle.console.specs.Taken.{asks, is_operation, is_taken, may_begin}
use Rattle.script_lang.specs.declared.command.Command.{Command}
use Rattle.script_lang.specs.declared.command.Command.TheVariants as command
use Rattle.script_lang.specs.declared.fault.LineFault.{LineFault}
use Rattle.script_lang.specs.declared.fault.LineFault.TheVariants.{UnknownCommand}
use Rattle.script_lang.specs.Line.{first_word, parsed_line}
use Rattle.shell_top.specs.declared.ended.Ending.TheVariants.{TooLong}
use Rattle.shell_top.specs.declared.script.Parsed.TheVariants as parsed
use Rattle.shell_top.specs.Parsed.{available, may_stand, parsed_as}
use Rattle.shell_top.specs.Script.{Script, ends_with, follow, is_too_long, script_of, whole_line}
use Rattle.ndb_console.specs.Laws.{HasNoFault, NoLineIsRefused}

-- a byte that ends no line, and a line of such bytes
abbrev IsInLine : ℕ → Type 0
IsInLine byte = is_newline byte ≡ false

abbrev IsLine : List ℕ → Type 0
IsLine line = All IsInLine line

-- so it is of each
abbrev AreLines : List (List ℕ) → Type 0
AreLines [] = Unit {0}
AreLines (line ∷ lines) = IsLine line × AreLines lines

-- and each of them is taken
abbrev AreTaken : ℕ → List (List ℕ) → Type 0
AreTaken nodes [] = Unit {0}
AreTaken nodes (line ∷ lines) = IsLine line × (is_taken nodes line ≡ true) × AreTaken nodes lines

onto_lines : (byte : ℕ) (lines : List (List ℕ)) → is_newline byte ≡ false → AreLines lines
    → AreLines (onto_first byte lines)
onto_lines byte [] is are = (All-cons IsInLine byte [] is (All-nil IsInLine), tt)
onto_lines byte (line ∷ lines) is are = (All-cons IsInLine byte line is are.0, are.1)

-- the parts of a text are lines
parts_are_lines : (bytes : List ℕ) → AreLines (slice_split is_newline bytes)
parts_are_lines [] = (All-nil IsInLine, tt)
parts_are_lines (byte ∷ bytes) = go (is_newline byte) refl (parts_are_lines bytes)
  where
    go : (b : Bool) → is_newline byte ≡ b → AreLines (slice_split is_newline bytes)
        → AreLines (slice_split is_newline (byte ∷ bytes))
    go true is are = subst AreLines (sym (slice_split-cons_yes is_newline byte bytes is))
        (All-nil IsInLine, are)
    go false is are =
        subst AreLines (sym (slice_split-cons_no is_newline byte bytes is))
        (onto_lines byte (slice_split is_newline bytes) is are)

-- those that pass the test, and the first of them
passed_are_taken : (nodes : ℕ) (lines : List (List ℕ)) → AreLines lines
    → AreTaken nodes (filter (is_taken nodes) lines)
passed_are_taken nodes [] are = tt
passed_are_taken nodes (line ∷ lines) are = go (is_taken nodes line) refl (passed_are_taken nodes lines are.1)
  where
    go : (b : Bool) → is_taken nodes line ≡ b → AreTaken nodes (filter (is_taken nodes) lines)
        → AreTaken nodes (cond b (line ∷ filter (is_taken nodes) lines) (filter (is_taken nodes) lines))
    go true is rest = (are.0, is, rest)
    go false is rest = rest

first_are_taken : (nodes count : ℕ) (lines : List (List ℕ)) → AreTaken nodes lines → AreTaken nodes (take count lines)
first_are_taken nodes zero lines are = tt
first_are_taken nodes (suc count) [] are = tt
first_are_taken nodes (suc count) (line ∷ lines) are = (are.0, are.1, first_are_taken nodes count lines are.2)

-- the tests of a line that is taken
both_front : (a b : Bool) → (a && b) ≡ true → a ≡ true
both_front true b e = refl
both_front false b e = e

both_back : (a b : Bool) → (a && b) ≡ true → b ≡ true
both_back true b e = e
both_back false b e = cc

-- what may begin a line of a console may begin one of a script
begins_one : (word : Option (List ℕ)) → may_begin word ≡ true → may_stand word ≡ true
begins_one None e = refl
begins_one (Some word) e =
    go (slice_index word 0 == 35) (slice_index word 0 == 64) (is_operation word) (bytes_eq word (codes "begin"))
    (bytes_eq word (codes "commit")) (bytes_eq word (codes "abort")) (bytes_eq word (codes "tick"))
    (bytes_eq word (codes "rows")) (bytes_eq word (codes "digest")) (bytes_eq word (codes "crash"))
    (bytes_eq word (codes "restart")) (bytes_eq word (codes "quit"))
    (bytes_eq word (codes "kill") || bytes_eq word (codes "cut") || bytes_eq word (codes "micro")
    || bytes_eq word (codes "gcp") || bytes_eq word (codes "lcp") || bytes_eq word (codes "view")) e
  where
    last_one : (last : Bool) → ((last || false) || false) ≡ true → last ≡ true
    last_one true e = refl
    last_one false e = e

    go : (sign name operation begin commit abort tick rows digest crash restart quit last : Bool)
        → (name || ((operation || ((((((begin || commit) || abort) || tick) || rows) || digest) || quit))
        || ((last || crash) || restart))) ≡ true
        → ((((sign || name) || operation)
        || ((((((((begin || commit) || abort) || tick) || rows) || digest) || crash) || restart) || quit)) || last)
        ≡ true
    go true name operation begin commit abort tick rows digest crash restart quit last e = refl
    go false true operation begin commit abort tick rows digest crash restart quit last e = refl
    go false false true begin commit abort tick rows digest crash restart quit last e = refl
    go false false false true commit abort tick rows digest crash restart quit last e = refl
    go false false false false true abort tick rows digest crash restart quit last e = refl
    go false false false false false true tick rows digest crash restart quit last e = refl
    go false false false false false false true rows digest crash restart quit last e = refl
    go false false false false false false false true digest crash restart quit last e = refl
    go false false false false false false false false true crash restart quit last e = refl
    go false false false false false false false false false true restart quit last e = refl
    go false false false false false false false false false false true quit last e = refl
    go false false false false false false false false false false false true last e = refl
    go false false false false false false false false false false false false last e = last_one last e

-- a command that is asked for goes on with the script, or ends it as finished
goes_on : (line : ℕ) (p : Result (Option Command) LineFault) (rest : Script) → asks p ≡ true → HasNoFault rest.last
    → HasNoFault (follow line (parsed_as p) rest).last
goes_on line (Ok None) rest e none = cc
goes_on line (Ok (Some command.Quit)) rest e none = tt
goes_on line (Ok (Some (command.Begin name at))) rest e none = none
goes_on line (Ok (Some (command.Operate name op))) rest e none = none
goes_on line (Ok (Some (command.Commit name))) rest e none = none
goes_on line (Ok (Some (command.Abort name))) rest e none = none
goes_on line (Ok (Some (command.Kill at))) rest e none = none
goes_on line (Ok (Some (command.Cut one other))) rest e none = none
goes_on line (Ok (Some (command.Tick rounds))) rest e none = none
goes_on line (Ok (Some command.Micro)) rest e none = none
goes_on line (Ok (Some command.Gcp)) rest e none = none
goes_on line (Ok (Some command.Lcp)) rest e none = none
goes_on line (Ok (Some command.View)) rest e none = none
goes_on line (Ok (Some command.Crash)) rest e none = none
goes_on line (Ok (Some command.Restart)) rest e none = none
goes_on line (Ok (Some (command.Rows at))) rest e none = none
goes_on line (Ok (Some (command.Digest at))) rest e none = none
goes_on line (Ok (Some _)) rest e none = cc
goes_on line (Err fault) rest e none = cc

line_goes_on : (nodes at : ℕ) (line : List ℕ) (rest : Script) → is_taken nodes line ≡ true → at ≤ 65536
    → HasNoFault rest.last → HasNoFault (whole_line nodes at line rest).last
line_goes_on nodes at line rest is low none = go (is_too_long at line) short (may_stand (first_word line)) stands
  where
    front : (not (nat_lt 512 (length line)) && may_begin (first_word line)) ≡ true
    front =
        both_front (not (nat_lt 512 (length line)) && may_begin (first_word line)) (asks (parsed_line false nodes line))
        is

    asked_for : asks (parsed_line false nodes line) ≡ true
    asked_for =
        both_back (not (nat_lt 512 (length line)) && may_begin (first_word line)) (asks (parsed_line false nodes line))
        is

    fits : not (nat_lt 512 (length line)) ≡ true
    fits = both_front (not (nat_lt 512 (length line))) (may_begin (first_word line)) front

    begins : may_begin (first_word line) ≡ true
    begins = both_back (not (nat_lt 512 (length line))) (may_begin (first_word line)) front

    short : is_too_long at line ≡ false
    short = grind (arith, nat_tests, fits, low)

    stands : may_stand (first_word line) ≡ true
    stands = begins_one (first_word line) begins

    go : (long : Bool) → long ≡ false → (b : Bool) → b ≡ true
        → HasNoFault (if long then ends_with (TooLong at) else follow at
        (if b then available nodes line else parsed.Fault UnknownCommand) rest).last
    go true e b f = cc
    go false e true f = goes_on at (parsed_line false nodes line) rest asked_for none
    go false e false f = cc

-- a script of such lines has no fault
lines_have_none : (nodes : ℕ) (ended : Bool) (lines : List (List ℕ)) (at : ℕ) → AreTaken nodes lines
    → at + length lines ≤ 65537
    → HasNoFault (script_of nodes ended at (slice_split is_newline (text_of lines))).last
lines_have_none nodes ended [] at are low = tt
lines_have_none nodes ended (line ∷ lines) at are low =
    subst (λ parts. HasNoFault (script_of nodes ended at parts).last)
    (sym (slice_split_at is_newline line 10 (text_of lines) are.0 refl))
    (go (slice_split is_newline (text_of lines)) refl
    (lines_have_none nodes ended lines (at + 1) are.2 (omega (arith, low))))
  where
    go : (parts : List (List ℕ)) → slice_split is_newline (text_of lines) ≡ parts
        → HasNoFault (script_of nodes ended (at + 1) parts).last
        → HasNoFault (script_of nodes ended at (line ∷ parts)).last
    go [] same none =
        absurd (omega (arith, length-slice_split is_newline (text_of lines), ap length same))
    go (next ∷ more) same none =
        line_goes_on nodes at line (script_of nodes ended (at + 1) (next ∷ more)) are.1 (omega (arith, low)) none

length_take : (count : ℕ) (lines : List (List ℕ)) → length (take count lines) ≤ count
length_take zero lines = omega arith
length_take (suc count) [] = omega arith
length_take (suc count) (line ∷ lines) = omega (arith, length_take count lines)

pub no_line_is_refused : NoLineIsRefused
no_line_is_refused nodes count ended typed low =
    let lines : List (List ℕ) = take count (filter (is_taken nodes) (slice_split is_newline typed)) in
    lines_have_none nodes ended lines 1
    (first_are_taken nodes count (filter (is_taken nodes) (slice_split is_newline typed))
    (passed_are_taken nodes (slice_split is_newline typed) (parts_are_lines typed)))
    (omega (arith, low, length_take count (filter (is_taken nodes) (slice_split is_newline typed))))
