-- The operations of a line.
use Rattle.std.specs.Prelude.{ℕ, Bool, true, false, List, [], Option, None, Some, Result, Ok, Err}
use Rattle.sig_core.specs.declared.key.TheConstants.{KEY_BYTES}
use Rattle.sig_core.specs.declared.value.TheConstants.{VALUE_BYTES}
use Rattle.sig_core.specs.declared.op.Op.{Op}
use Rattle.sig_core.specs.declared.op.Op.TheVariants as op
use Rattle.sig_core.specs.declared.word.WordFault.{WordFault}
use Rattle.sig_core.specs.Word.{if_word}
use Rattle.script_lang.specs.declared.command.Command.{Command}
use Rattle.script_lang.specs.declared.command.Command.TheVariants.{Operate}
use Rattle.script_lang.specs.declared.fault.LineFault.{LineFault}
use Rattle.script_lang.specs.declared.fault.LineFault.TheVariants.{BadWord}
use Rattle.script_lang.specs.declared.keyword.OpKind.{OpKind}
use Rattle.script_lang.specs.declared.keyword.OpKind.TheVariants.{Get, GetX, Put, Ins, Upd, Del}
use Rattle.script_lang.specs.Words.{one_word, one_or_two}

-- whether a value stands behind the key
abbrev pub takes_value : OpKind → Bool
takes_value Get = false
takes_value GetX = false
takes_value Put = true
takes_value Ins = true
takes_value Upd = true
takes_value Del = false

abbrev pub only_key : Option (List ℕ) → Option (List ℕ × List ℕ)
only_key None = None
only_key (Some key) = Some (key, [])

abbrev pub operands_if : Bool → List (List ℕ) → Option (List ℕ × List ℕ)
operands_if true words = one_or_two words
operands_if false words = only_key (one_word words)

-- a key and a value, if there are as many words as the operation takes; the value is empty where it is left out
abbrev pub operands : OpKind → List (List ℕ) → Option (List ℕ × List ℕ)
operands kind words = operands_if (takes_value kind) words

abbrev pub op_with : OpKind → List ℕ → List ℕ → Op
op_with Get key value = op.Get key
op_with GetX key value = op.GetX key
op_with Put key value = op.Put key value
op_with Ins key value = op.Ins key value
op_with Upd key value = op.Upd key value
op_with Del key value = op.Del key

abbrev pub operate_if : Option ℕ → OpKind → Result (List ℕ) WordFault → Result (List ℕ) WordFault
    → Result Command LineFault
operate_if name kind (Ok key) (Ok value) = Ok (Operate name (op_with kind key value))
operate_if name kind (Ok key) (Err fault) = Err BadWord
operate_if name kind (Err fault) value = Err BadWord

-- the command of an operation, if the words are a key and a value
abbrev pub operate : Option ℕ → OpKind → List ℕ → List ℕ → Result Command LineFault
operate name kind key value = operate_if name kind (if_word 1 KEY_BYTES key key) (if_word 0 VALUE_BYTES value value)
