-- How the lock of a row is told apart from others as data: by the numbers that it is made of.
use Rattle.std.specs.Prelude.{◌≡◌, ℕ, refl, Bool, true, false, List}
use Rattle.std.specs.Coded.{Coded, code_by, coded×, coded_ℕ, coded_bool, coded_list}
use Rattle.sig_core.specs.declared.member.TxId.{TxId}
use Rattle.row_locks.specs.declared.mode.Mode.{Mode}
use Rattle.row_locks.specs.declared.mode.Mode.TheVariants.{Shared, Exclusive}
use Rattle.row_locks.specs.declared.claim.Holder.{Holder}
use Rattle.row_locks.specs.declared.claim.Wait.{Wait}
use Rattle.row_locks.specs.Modes.{is_shared}
use Rattle.row_locks.specs.Rows.{RowLock}

-- a transaction, as three numbers
abbrev pub tx_code : Coded TxId
tx_code =
    code_by (ℕ × (ℕ × ℕ)) (coded× coded_ℕ (coded× coded_ℕ coded_ℕ)) (λ tx. (tx.tc, (tx.start, tx.seq)))
    (λ p. record { tc = p.0; start = p.1.0; seq = p.1.1 }) (λ _. refl)

-- a mode, by whether it is shared
abbrev pub mode_of : Bool → Mode
mode_of true = Shared
mode_of false = Exclusive

pub mode_of-is_shared : (mode : Mode) → mode_of (is_shared mode) ≡ mode
mode_of-is_shared Shared = refl
mode_of-is_shared Exclusive = refl

abbrev pub mode_code : Coded Mode
mode_code = code_by Bool coded_bool is_shared mode_of mode_of-is_shared

abbrev pub holder_code : Coded Holder
holder_code = code_by (TxId × Mode) (coded× tx_code mode_code) (λ h. (h.tx, h.mode))
    (λ p. record { tx = p.0; mode = p.1 }) (λ _. refl)

abbrev pub wait_code : Coded Wait
wait_code =
    code_by (TxId × (Mode × ℕ)) (coded× tx_code (coded× mode_code coded_ℕ)) (λ w. (w.tx, (w.mode, w.rounds)))
    (λ p. record { tx = p.0; mode = p.1.0; rounds = p.1.1 }) (λ _. refl)

-- the lock of a row, as its two lists
abbrev pub lock_code : Coded RowLock
lock_code =
    code_by (List Holder × List Wait) (coded× (coded_list holder_code) (coded_list wait_code))
    (λ l. (l.holders, l.queue))
    (λ p. record { holders = p.0; queue = p.1 }) (λ _. refl)
