-- What the crates below say of faults, in the words of this one.
use Rattle.std.proofs.Common.{◌≡◌, ◌∙◌, ℕ, ◌≤◌, Bool, false, nat_lt, List, length, refl, ap, sym, subst, arith}
use Rattle.std.specs.Prelude.{Option, Result, Ok, Err}
use Rattle.std.proofs.lemmas.Bool.{le-ltb, true≢false}
use Rattle.sig_core.specs.Table.{Rows}
use Rattle.sig_core.specs.declared.fault.ReadFault.{ReadFault}
use Rattle.sig_core.specs.declared.fault.ReadFault.TheVariants.{Damaged, DiskFault, NoMemory}
use Rattle.sig_core.specs.declared.fault.RestartFault.{RestartFault}
use Rattle.lcp_store.specs.Reading.{rows_in}
use Rattle.redo_log.specs.Stored as redo
use Rattle.sysfile_core.specs.Reading as slots
use Rattle.sys_restart.specs.Answers.{HasCause, IsCause, IsCauseOf, is_outer, is_outside, of_node, on_node}
use Rattle.sys_restart.specs.Checkpoint.{rows_in_size, unless_cut}

-- of slots
pub slot_fault : {S : Type 0} (found : Result (Option S) ReadFault) (fault : ReadFault) → slots.Reads found (Err fault)
    → is_outer fault ≡ false → found ≡ Err fault
slot_fault found (DiskFault count) is inside = absurd (true≢false inside)
slot_fault found (Damaged file at byte) is inside = is
slot_fault found NoMemory is inside = absurd is

pub slot_cause : (S : Type 0) (before now : ℕ) (fault : ReadFault) → slots.HasCause {S = S} before now (Err fault)
    → IsCause before now fault
slot_cause S before now (DiskFault count) is = is
slot_cause S before now (Damaged file at byte) is = tt
slot_cause S before now NoMemory is = tt

-- of a replay
pub redo_cause : (before now : ℕ) (old new : Rows) (fault : ReadFault) → redo.HasCause before now old new (Err fault)
    → IsCause before now fault
redo_cause before now old new (DiskFault count) is = (is.0, is.1)
redo_cause before now old new (Damaged of at byte) is = tt
redo_cause before now old new NoMemory is = tt

-- a cause behind calls that didn't lower the count
pub cause_behind : (first before now : ℕ) (fault : ReadFault) → first ≤ before → IsCause before now fault
    → IsCause first now fault
cause_behind first before now (DiskFault count) less is = (omega (arith, less, is.0), is.1)
cause_behind first before now (Damaged of at byte) less is = tt
cause_behind first before now NoMemory less is = tt

-- with the node whose disk was read
pub node_fault : {A : Type 0} (found : Result A ReadFault) (node : ℕ) (fault : ReadFault)
    → (is_outer fault ≡ false → found ≡ Err fault)
    → is_outside (of_node node fault) ≡ false → on_node node found ≡ Err (of_node node fault)
node_fault found node (DiskFault count) is inside = absurd (true≢false inside)
node_fault found node (Damaged of at byte) is inside = ap (on_node node) (is refl)
node_fault found node NoMemory is inside = absurd (true≢false inside)

pub node_cause : (node before now : ℕ) (fault : ReadFault) → IsCause before now fault
    → IsCauseOf node before now (of_node node fault)
node_cause node before now (DiskFault count) is = (refl, is.0, is.1)
node_cause node before now (Damaged of at byte) is = tt
node_cause node before now NoMemory is = tt

-- the same of an answer that says so
pub node_answer : {A : Type 0} (found : Result A ReadFault) (node : ℕ) (fault : ReadFault) (answer : RestartFault)
    → answer ≡ of_node node fault → (is_outer fault ≡ false → found ≡ Err fault)
    → is_outside answer ≡ false → on_node node found ≡ Err answer
node_answer found node fault answer is read =
    subst (λ (told : RestartFault). is_outside told ≡ false → on_node node found ≡ Err told) (sym is)
    (node_fault found node fault read)

pub node_reason : (node before now : ℕ) (fault : ReadFault) (answer : RestartFault) → answer ≡ of_node node fault
    → IsCause before now fault → IsCauseOf node before now answer
node_reason node before now fault answer is cause =
    subst (IsCauseOf node before now) (sym is) (node_cause node before now fault cause)

-- the cause of an answer behind calls that didn't lower the count
pub cause_after : {A : Type 0} (first before now : ℕ) (result : Result A ReadFault) → first ≤ before
    → HasCause before now result → HasCause first now result
cause_after first before now (Ok a) less is = tt
cause_after first before now (Err fault) less is = cause_behind first before now fault less is

-- bytes of a checkpoint that are as many as they should be, and such as are fewer
pub rows_whole : (file size latest : ℕ) (bytes : List ℕ) (rows : Rows) → rows_in file latest bytes ≡ Ok rows
    → size ≤ length bytes → rows_in_size file size latest bytes ≡ Ok rows
rows_whole file size latest bytes rows is enough =
    ap (unless_cut file bytes (nat_lt (length bytes) size)) is
    ∙ ap (λ (cut : Bool). unless_cut file bytes cut (Ok rows)) (le-ltb (length bytes) size enough)
