-- Legal lists of entries: one map, on which the operations are performed one after the other, gives each stored answer.
-- Lists are in the order of time.
use Rattle.std.specs.Prelude.{◌≡◌, ℕ, List, [], ◌∷◌, ◌++◌, length}
use Rattle.std.specs.FinMap as map
use Rattle.sig_core.specs.declared.op.Answer.{Answer}
use Rattle.sig_core.specs.declared.op.Op.{Op}
use Rattle.sig_core.specs.declared.entry.Entry.{Entry}
use Rattle.sig_core.specs.Table.{Rows}
use Rattle.serial_model.specs.Serial.{perform}
use Rattle.serial_model.specs.declared.legal.OpsFault.{OpsFault}
use Rattle.serial_model.specs.declared.legal.OpsFault.TheVariants as ops_fault
use Rattle.serial_model.specs.declared.legal.ReplayFault.{ReplayFault}
use Rattle.serial_model.specs.declared.legal.ReplayFault.TheVariants.{Differs, NoMemory}

-- these rows with more rows put in, one after the other: of two with the same key the later one stays
abbrev pub rows_over : Rows → List (List ℕ × List ℕ) → Rows
rows_over rows [] = rows
rows_over rows (row ∷ rest) = rows_over (map.insert rows row.0 row.1) rest

-- the start rows alone
abbrev pub rows_of : List (List ℕ × List ℕ) → Rows
rows_of start = rows_over map.empty start

-- every stored answer is the one that its operation gets at that point
abbrev pub AreAnswered : Rows → List (Op × Answer) → Type 0
AreAnswered rows [] = Unit {0}
AreAnswered rows (op ∷ rest) = (op.1 ≡ (perform op.0 rows).answer) × AreAnswered (perform op.0 rows).rows rest

-- the rows after the operations
abbrev pub after_ops : Rows → List (Op × Answer) → Rows
after_ops rows [] = rows
after_ops rows (op ∷ rest) = after_ops (perform op.0 rows).rows rest

-- entry after entry, every stored answer is the one that its operation gets at that point
abbrev pub IsLegal : Rows → List Entry → Type 0
IsLegal rows [] = Unit {0}
IsLegal rows (entry ∷ rest) = AreAnswered rows entry.ops × IsLegal (after_ops rows entry.ops) rest

-- the rows after the operations of the entries
abbrev pub fold : Rows → List Entry → Rows
fold rows [] = rows
fold rows (entry ∷ rest) = fold (after_ops rows entry.ops) rest

-- the operation at this place is the first with a stored answer that isn't the one that it gets
pub record IsFirstWrong (rows : Rows) (ops : List (Op × Answer)) (op : ℕ) (stored found : Answer) : Type 0 where
  pub first : List (Op × Answer)
  pub asked : Op
  pub rest : List (Op × Answer)
  pub whole : ops ≡ first ++ (asked, stored) ∷ rest
  pub place : length first ≡ op
  pub answered : AreAnswered rows first
  pub gets : found ≡ (perform asked (after_ops rows first)).answer
  pub differs : stored ≡ found → ⊥

-- the entries before this one are legal, and this operation of it is its first with a wrong answer
pub record IsFirstDifference (rows : Rows) (entries : List Entry) (entry op : ℕ) (stored found : Answer) : Type 0 where
  pub before : List Entry
  pub at : Entry
  pub behind : List Entry
  pub whole : entries ≡ before ++ at ∷ behind
  pub place : length before ≡ entry
  pub legal : IsLegal rows before
  pub wrong : IsFirstWrong (fold rows before) at.ops op stored found

-- what a replay that failed says of the list
abbrev pub IsReplayFault : Rows → List Entry → ReplayFault → Type 0
IsReplayFault rows entries (Differs entry op stored found) = IsFirstDifference rows entries entry op stored found
IsReplayFault rows entries NoMemory = Unit {0}

-- what a replay of one entry's operations that failed says of them
abbrev pub IsOpsFault : Rows → List (Op × Answer) → OpsFault → Type 0
IsOpsFault rows ops (ops_fault.Differs op stored found) = IsFirstWrong rows ops op stored found
IsOpsFault rows ops ops_fault.NoMemory = Unit {0}

-- that fault, in the entry at this place
abbrev pub fault_at : ℕ → OpsFault → ReplayFault
fault_at entry (ops_fault.Differs op stored found) = Differs entry op stored found
fault_at entry ops_fault.NoMemory = NoMemory
