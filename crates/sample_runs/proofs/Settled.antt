-- A key is settled in a log where at each preparation what stands in front of it has the end.
use Rattle.std.proofs.Common.{◌≡◌, ℕ, true, List, [], ◌∷◌, ◌++◌, sym, subst}
use Rattle.std.proofs.lemmas.List.{append-nil, append_assoc}
use Rattle.std.specs.List.{list_any}
use Rattle.sig_core.specs.declared.member.TxId.{TxId}
use Rattle.world_core.specs.Marks.{has_mark}
use Rattle.world_core.specs.Rest.{IsSettled, is_done_mark, is_prepared}
use Rattle.world_core.specs.Steps.{HostStep}

-- in the log behind these newer steps
abbrev pub AreEnded : List ℕ → List HostStep → List HostStep → Type 0
AreEnded key front [] = Unit {0}
AreEnded key front (e ∷ older) =
    ((tx : TxId) → list_any (is_prepared tx key) e.step.marks ≡ true → has_mark (is_done_mark tx key) front ≡ true)
    × AreEnded key (front ++ e ∷ []) older

ended_at : (key : List ℕ) (front newer : List HostStep) (e : HostStep) (older : List HostStep) (tx : TxId)
    → AreEnded key front (newer ++ e ∷ older) → list_any (is_prepared tx key) e.step.marks ≡ true
    → has_mark (is_done_mark tx key) (front ++ newer) ≡ true
ended_at key front [] e older tx are prepared =
    subst (λ log. has_mark (is_done_mark tx key) log ≡ true) (sym (append-nil front)) (are.0 tx prepared)
ended_at key front (f ∷ newer) e older tx are prepared =
    subst (λ log. has_mark (is_done_mark tx key) log ≡ true) (append_assoc front (f ∷ []) newer)
    (ended_at key (front ++ f ∷ []) newer e older tx are.1 prepared)

pub settled : (key : List ℕ) (log : List HostStep) → AreEnded key [] log → IsSettled key log
settled key log are newer e older tx is prepared =
    ended_at key [] newer e older tx (subst (AreEnded key []) is are) prepared
