-- Whom the promise of a view dooms.
use Rattle.std.specs.Prelude.{ℕ, ◌&&◌, ◌||◌, Bool, true, false, not, is_some, List, [], ◌∷◌}
use Rattle.std.specs.List.{flat_map, list_any}
use Rattle.sig_core.specs.declared.member.Member.{Member}
use Rattle.sig_core.specs.declared.member.TxId.{TxId}
use Rattle.sig_core.specs.declared.view.View.{View}
use Rattle.sig_core.specs.Same.{same_tx}
use Rattle.frag_map.specs.Replicas.{is_member}
use Rattle.tc_block.specs.declared.phase.Phase.{Phase}
use Rattle.tc_block.specs.declared.phase.Phase.TheVariants.{Open, Verifying}
use Rattle.tc_block.specs.declared.touched.Touched.{Touched}
use Rattle.tc_block.specs.declared.transaction.Transaction.{Transaction}

-- neither decided nor aborted
abbrev pub is_undecided : Phase → Bool
is_undecided Open = true
is_undecided Verifying = true
is_undecided _ = false

-- the view does without this start of a node
abbrev pub is_outside : View → Member → Bool
is_outside view member = not (list_any (is_member member) view.full || list_any (is_member member) view.starting)

-- and so without a replica that the key would be committed at
abbrev pub strays : View → Touched → Bool
strays view t = list_any (is_outside view) t.chain

-- the promise of a view dooms a transaction that is undecided, if an operation is unanswered or a key strays
unfoldable pub is_doomed_by : View → Transaction → Bool
is_doomed_by view t = is_undecided t.phase && (is_some t.asked || list_any (strays view) t.touched)

-- the transaction is among these
abbrev pub is_among : List TxId → TxId → Bool
is_among txs tx = list_any (same_tx tx) txs

abbrev pub doomed_if : TxId → Bool → List TxId
doomed_if tx true = tx ∷ []
doomed_if tx false = []

-- one that isn't forgotten is doomed, or was before
abbrev pub doomed_of : View → List TxId → TxId × Transaction → List TxId
doomed_of view before e = doomed_if e.0 (is_among before e.0 || is_doomed_by view e.1)

-- all that are, in the order in which they began
unfoldable pub doomed_in : View → List TxId → List (TxId × Transaction) → List TxId
doomed_in view before live = flat_map (doomed_of view before) live
