-- The numbers of the faults of a line.
use Rattle.std.specs.Prelude.{ℕ}
use Rattle.script_lang.specs.declared.fault.LineFault.{LineFault}
use Rattle.script_lang.specs.declared.fault.LineFault.TheVariants.{UnknownCommand, Arity, BadWord, BadNumber}

abbrev pub code_of : LineFault → ℕ
code_of UnknownCommand = 1
code_of Arity = 2
code_of BadWord = 3
code_of BadNumber = 4
