-- What is told of traces, but for their bytes.
use Rattle.std.specs.Prelude.{ℕ, List, [], ◌∷◌, ◌++◌, codes, length}
use Rattle.std.specs.Fmt.{decimal}
use Rattle.script_lang.specs.EpochText.{epoch_words}
use Rattle.script_lang.specs.ReplyText.{newline}
use Rattle.shell_top.specs.declared.telling.Telling.{Telling}
use Rattle.sig_core.specs.declared.entry.Entry.{Entry}
use Rattle.sig_core.specs.declared.member.TxId.{TxId}
use Rattle.trace_check.specs.declared.fault.TraceFault.{TraceFault}
use Rattle.trace_check.specs.declared.fault.TraceFault.TheVariants.{NoMemory, NotHosts, NotStep, NotTrace}

-- a trace has more bytes than it may have
abbrev pub too_long : Telling
too_long = record { text = codes "trace too long" ++ newline; status = 9 }

-- why bytes aren't the trace of a right life
abbrev pub trace_fault_line : TraceFault → List ℕ
trace_fault_line (NotTrace at) = codes "not a trace at " ++ decimal at ++ newline
trace_fault_line NotHosts = codes "not one log a host" ++ newline
trace_fault_line (NotStep host step cause) =
    codes "not a step " ++ decimal host.0 ++ codes " " ++ decimal step ++ newline
trace_fault_line NoMemory = []

abbrev pub trace_fault_status : TraceFault → ℕ
trace_fault_status (NotTrace at) = 11
trace_fault_status NotHosts = 11
trace_fault_status (NotStep host step cause) = 12
trace_fault_status NoMemory = 5

abbrev pub of_trace_fault : TraceFault → Telling
of_trace_fault fault = record { text = trace_fault_line fault; status = trace_fault_status fault }

-- the name of a transaction: the node of its coordinator, the start of that, and its number there
abbrev pub tx_words : TxId → List ℕ
tx_words tx = decimal tx.tc ++ codes "." ++ decimal tx.start ++ codes "." ++ decimal tx.seq

-- the line of an entry of a history
abbrev pub entry_line : Entry → List ℕ
entry_line entry = codes "tx " ++ tx_words entry.tx ++ codes " epoch " ++ epoch_words entry.epoch ++ newline

abbrev pub entry_lines : List Entry → List ℕ
entry_lines [] = []
entry_lines (entry ∷ entries) = entry_line entry ++ entry_lines entries

-- a line for each entry of a history, in their order, and then how many there are
abbrev pub history_text : List Entry → List ℕ
history_text entries = entry_lines entries ++ (codes "entries " ++ decimal (length entries) ++ newline)

abbrev pub of_history : List Entry → Telling
of_history entries = record { text = history_text entries; status = 0 }
