-- What the words behind the program's name ask for.
use Rattle.std.specs.Prelude.{ℕ, ◌&&◌, Bool, true, false, not, nat_le, if◌then◌else◌, List, [], length, codes, Option}
use Rattle.std.specs.Prelude.{None, Some}
use Rattle.std.specs.List.{list_any}
use Rattle.std.specs.Str.{bytes_eq}
use Rattle.clap.specs.declared.builder.action.ArgAction.TheVariants.{SetTrue}
use Rattle.clap.specs.Faults.{fault_of}
use Rattle.clap.specs.Walk.{Rule, first_of, is_empty}
use Rattle.clap.specs.Simple.{App, matches_of, new_rule, new_shape, with_rule}
use Rattle.frag_map.specs.Shape.{IsShape, is_shape}
use Rattle.script_lang.specs.Number.{read_digits}
use Rattle.shell_top.specs.declared.words.Asked.{Asked}
use Rattle.shell_top.specs.declared.words.Asked.TheVariants.{Check, Replies, Trace}
use Rattle.sig_core.specs.declared.view.Shape.{Shape}

-- an option with a value: `--name value`, or `--name=value`
abbrev pub option : List ℕ → Rule
option name = record (new_rule name) { long = Some name }

-- a flag without a value: `--name`
abbrev pub flag : List ℕ → Rule
flag name = record (option name) { action = Some SetTrue }

-- a command that takes no words and has no help
abbrev pub bare : App
bare = record {
  top = record (new_shape (codes "ndb")) { no_binary_name = true; disable_help_flag = true };
  subs = [];
}

-- the options of the shape
abbrev pub with_shape : App
with_shape = with_rule (with_rule (with_rule bare (option (codes "nodes"))) (option (codes "replicas")))
    (option (codes "fragments"))

-- `ndb`: three options and two flags, each at most once, in any order
abbrev pub ndb : App
ndb = with_rule (with_rule with_shape (flag (codes "trace"))) (flag (codes "check"))

-- the word `--`, which is no option
abbrev pub is_separator : List ℕ → Bool
is_separator word = bytes_eq word (codes "--")

-- the words are options of `ndb` with their values, and flags
abbrev pub are_taken : List (List ℕ) → Bool
are_taken words = not (list_any is_separator words) && is_empty (fault_of ndb words)

-- the number that 1 to 20 decimal digits tell, if it is at most 255
abbrev pub number : List ℕ → Option ℕ
number text = if nat_le 1 (length text) && nat_le (length text) 20 then read_digits 255 0 text else None

-- the number that a value tells, or the default where the option is left out
abbrev pub number_or : ℕ → Option (List ℕ) → Option ℕ
number_or default None = Some default
number_or default (Some text) = number text

-- the shape, where a cluster may be laid out so
abbrev pub if_sound : Shape → Option Shape
if_sound shape = if is_shape shape then Some shape else None

-- the shape of these numbers, where each is told and a cluster may be laid out so
abbrev pub shape_of : Option ℕ → Option ℕ → Option ℕ → Option Shape
shape_of (Some nodes) (Some replicas) (Some fragments) =
    if_sound (record { nodes = nodes; replicas = replicas; fragments = fragments })
shape_of nodes replicas fragments = None

-- The shape that the values of options tell, by their names: 2 nodes, 2 replicas and 4 fragments where they tell
-- nothing else.
abbrev pub shape_in : (List ℕ → Option (List ℕ)) → Option Shape
shape_in value =
    shape_of (number_or 2 (value (codes "nodes"))) (number_or 2 (value (codes "replicas")))
    (number_or 4 (value (codes "fragments")))

-- a flag stands among the words, where this is its value
abbrev pub is_given : Option (List ℕ) → Bool
is_given None = false
is_given (Some value) = bytes_eq value (codes "true")

-- what is asked for by these flags, of a cluster of this shape; nothing by both
abbrev pub asked_by : (trace check : Bool) → Shape → Option Asked
asked_by false false shape = Some (Replies shape)
asked_by true false shape = Some (Trace shape)
asked_by false true shape = Some Check
asked_by true true shape = None

abbrev pub asked_with : (trace check : Bool) → Option Shape → Option Asked
asked_with trace check None = None
asked_with trace check (Some shape) = asked_by trace check shape

-- what the values of flags and options tell, by their names
abbrev pub asked_in : (List ℕ → Option (List ℕ)) → Option Asked
asked_in value =
    asked_with (is_given (value (codes "trace"))) (is_given (value (codes "check"))) (shape_in value)

-- what the words ask for, or nothing where they are refused
abbrev pub asked_of : List (List ℕ) → Option Asked
asked_of words = if are_taken words then asked_in (λ name. first_of name (matches_of ndb words)) else None

-- there may be a cluster of the shape that is asked for
abbrev pub IsAskable : Asked → Type 0
IsAskable (Replies shape) = IsShape shape
IsAskable (Trace shape) = IsShape shape
IsAskable Check = Unit {0}

-- the shape of the cluster of which a session is asked for, if one is
abbrev pub session_shape : Option Asked → Option Shape
session_shape None = None
session_shape (Some (Replies shape)) = Some shape
session_shape (Some (Trace shape)) = Some shape
session_shape (Some Check) = None

abbrev pub asked_shape : List (List ℕ) → Option Shape
asked_shape words = session_shape (asked_of words)
