-- What a first difference tells of a list of entries.
use Rattle.std.specs.Prelude.{◌≡◌, ℕ, List}
use Rattle.sig_core.specs.declared.op.Answer.{Answer}
use Rattle.sig_core.specs.declared.entry.Entry.{Entry}
use Rattle.sig_core.specs.Table.{Rows}
use Rattle.serial_model.specs.Legal.{IsLegal, IsFirstDifference}

-- a legal list has no first difference
abbrev pub LegalListsHaveNoDifference : Type 0
LegalListsHaveNoDifference =
    (rows : Rows) (entries : List Entry) (entry op : ℕ) (stored found : Answer)
    → IsLegal rows entries → IsFirstDifference rows entries entry op stored found → ⊥

-- two first differences of a list are in the same place, with the same answers
abbrev pub FirstDifferencesAreOne : Type 0
FirstDifferencesAreOne =
    (rows : Rows) (entries : List Entry) (entry1 entry2 op1 op2 : ℕ) (stored1 stored2 found1 found2 : Answer)
    → IsFirstDifference rows entries entry1 op1 stored1 found1
    → IsFirstDifference rows entries entry2 op2 stored2 found2
    → (entry1 ≡ entry2) × (op1 ≡ op2) × (stored1 ≡ stored2) × (found1 ≡ found2)
