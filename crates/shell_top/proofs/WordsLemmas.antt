-- What the words behind the program's name ask for.
use Rattle.std.proofs.Common.{◌≡◌, ℕ, Bool, true, false, not, List, [], refl, ap, ap₂, sym, ◌∙◌}
use Rattle.std.specs.Prelude.{◌&&◌, if◌then◌else◌, Option, None}
use Rattle.std.proofs.Math.Path.{fun_ext}
use Rattle.std.specs.List.{list_any}
use Rattle.clap.proofs.OnLiterals.{clap_on_literals}
use Rattle.clap.proofs.WalkLemmas.{first_value-rows}
use Rattle.clap.specs.Faults.{fault_of, is_simple_and_free}
use Rattle.clap.specs.Kinds.{Kinds}
use Rattle.clap.specs.Matches.{first_value, found_of}
use Rattle.clap.specs.Simple.{App, HasMatchesOf, is_simple, matches_of}
use Rattle.clap.specs.Walk.{first_of, is_empty, rows_of}
use Rattle.clap.specs.declared.parser.matches.ArgMatches.{ArgMatches}
use Rattle.shell_top.specs.declared.words.Asked.{Asked}
use Rattle.shell_top.specs.Words.{are_taken, asked_in, asked_of, is_separator, ndb}

-- the command is one whose parse is told
ndb_free : is_simple_and_free ndb ≡ true
unfolding clap_on_literals
ndb_free = refl

ndb_simple : is_simple ndb ≡ true
unfolding clap_on_literals
ndb_simple = refl

pub free : (app : App) → app ≡ ndb → is_simple_and_free app ≡ true
free app is = ap is_simple_and_free is ∙ ndb_free

-- what the words are, by what was found
taken_by : (words : List (List ℕ)) (separated : Bool) (kinds : Kinds) → list_any is_separator words ≡ separated
    → fault_of ndb words ≡ kinds
    → are_taken words ≡ (not separated && is_empty kinds)
taken_by words separated kinds one two = ap₂ (λ s k. not s && is_empty k) one two

asked_if : (words : List (List ℕ)) (taken : Bool) → are_taken words ≡ taken
    → asked_of words ≡ (if taken then asked_in (λ name. first_of name (matches_of ndb words)) else None)
asked_if words taken is = ap (λ t. if t then asked_in (λ name. first_of name (matches_of ndb words)) else None) is

module _ (app : App) (app_is : app ≡ ndb) (words : List (List ℕ)) (separated : Bool)
    (is : separated ≡ list_any is_separator words) (fails : separated ≡ false) where
  -- they are taken
  pub taken_words : (m : ArgMatches) (result : Option Asked) → fault_of app words ≡ [] → HasMatchesOf app words m
      → result ≡ asked_in (first_value (found_of m)) → result ≡ asked_of words
  taken_words m result none has told =
      let rows : rows_of (found_of m) ≡ matches_of ndb words =
      (has (ap is_simple app_is ∙ ndb_simple)).0 ∙ ap (λ (a : App). matches_of a words) app_is in
      told ∙ ap asked_in (fun_ext (first_value-rows (found_of m))) ∙ ap (λ rs. asked_in (λ name. first_of name rs)) rows
      ∙ sym (asked_if words true (taken_by words false [] (sym is ∙ fails)
      (sym (ap (λ (a : App). fault_of a words) app_is) ∙ none)))
