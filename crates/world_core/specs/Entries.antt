-- The entries of a cut: what each decided transaction asked and was answered.
use Rattle.std.specs.Prelude.{ℕ, zero, suc, ◌==◌, nat_lt, ◌&&◌, ◌||◌, if◌then◌else◌, Bool, List, [], ◌∷◌, Option, None}
use Rattle.std.specs.Prelude.{Some}
use Rattle.sig_core.specs.declared.entry.Entry.{Entry}
use Rattle.world_core.specs.Steps.{HostStep}
use Rattle.sig_core.specs.declared.mark.Mark.{Mark}
use Rattle.sig_core.specs.declared.mark.Mark.TheVariants.{Decided, Installed}
use Rattle.sig_core.specs.declared.member.TxId.{TxId}
use Rattle.sig_core.specs.declared.op.Answer.{Answer}
use Rattle.sig_core.specs.declared.op.Op.{Op}
use Rattle.sig_core.specs.declared.signal.Body.{Body}
use Rattle.sig_core.specs.declared.signal.Body.TheVariants.{Epoch}
use Rattle.sig_core.specs.declared.signal.epoch.EpochSignal.TheVariants.{DiVerifyReq}
use Rattle.sig_core.specs.Same.{same_tx}
use Rattle.frag_map.specs.Layout.{first_number}

-- the number of the view that is installed after these marks, where this one was before
abbrev pub installed_in : List Mark → ℕ → ℕ
installed_in [] number = number
installed_in (Installed view ∷ marks) number = installed_in marks view.number
installed_in (mark ∷ marks) number = installed_in marks number

-- the number of the view that a host with this log has installed
abbrev pub view_at : List HostStep → ℕ
view_at [] = first_number
view_at (e ∷ log) = installed_in e.step.marks (view_at log)

-- the operations and answers with which the signal asks for an epoch for the transaction
abbrev pub verified_by : TxId → Body → Option (List (Op × Answer))
verified_by tx (Epoch (DiVerifyReq asked ops)) = if same_tx asked tx then Some ops else None
verified_by tx body = None

abbrev pub else_of : {A : Type 0} → Option A → A → A
else_of (Some x) other = x
else_of None other = other

-- those of the request that a host with this log has taken
abbrev pub ops_of : TxId → List HostStep → List (Op × Answer)
ops_of tx [] = []
ops_of tx (e ∷ log) = else_of (verified_by tx e.step.taken.body) (ops_of tx log)

-- the entry of a transaction that was decided in the newest step of host h's log, at this stamp and in this epoch
abbrev pub entry_of : ℕ → ℕ → List HostStep → TxId → ℕ → Entry
entry_of h stamp log tx epoch =
    record { tx = tx; view = view_at log; stamp = stamp; host = record { 0 = h }; epoch = epoch; ops = ops_of tx log }

-- the entries of these marks of the newest step of a log, in front of those before
abbrev pub entries_in : ℕ → ℕ → List HostStep → List Mark → List Entry → List Entry
entries_in h stamp log [] before = before
entries_in h stamp log (Decided tx epoch ∷ marks) before =
    entries_in h stamp log marks (entry_of h stamp log tx epoch ∷ before)
entries_in h stamp log (mark ∷ marks) before = entries_in h stamp log marks before

-- the entries of a host's log, the newest first
abbrev pub entries_of : ℕ → List HostStep → List Entry
entries_of h [] = []
entries_of h (e ∷ log) = entries_in h e.step.stamp (e ∷ log) e.step.marks (entries_of h log)

-- the order of entries: by view, stamp and host
abbrev pub is_before : Entry → Entry → Bool
is_before a b =
    nat_lt a.view b.view || ((a.view == b.view) && (nat_lt a.stamp b.stamp ||
    ((a.stamp == b.stamp) && nat_lt a.host.0 b.host.0)))

-- an entry at its place, the earliest first; behind those that it isn't before
abbrev pub insert : Entry → List Entry → List Entry
insert a [] = a ∷ []
insert a (b ∷ rest) = if is_before a b then a ∷ b ∷ rest else b ∷ insert a rest

abbrev pub insert_all : List Entry → List Entry → List Entry
insert_all [] into = into
insert_all (a ∷ more) into = insert a (insert_all more into)

-- the entries of the hosts below n, in their order
abbrev pub entries : ℕ → (ℕ → List HostStep) → List Entry
entries zero logs = []
entries (suc n) logs = insert_all (entries_of n (logs n)) (entries n logs)
