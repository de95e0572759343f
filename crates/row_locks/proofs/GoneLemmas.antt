-- To keep all but a transaction is to take it out.
use Rattle.std.proofs.Common.{◌≡◌, Bool, true, false, not, cond, List, [], ◌∷◌, refl, ap, ◌∙◌}
use Rattle.std.specs.List.{filter}
use Rattle.sig_core.specs.declared.member.TxId.{TxId}
use Rattle.row_locks.specs.declared.claim.Holder.{Holder}
use Rattle.row_locks.specs.declared.claim.Wait.{Wait}
use Rattle.sig_core.specs.Same.{same_tx}
use Rattle.row_locks.specs.Holders.{unless_gone, others}
use Rattle.row_locks.specs.Queues.{without}

kept_at : {A : Type 0} (gone : Bool) (item : A) (items : List A)
    → cond (not gone) (item ∷ items) items ≡ unless_gone gone item items
kept_at true item items = refl
kept_at false item items = refl

pub filter-others : (tx : TxId) (hs : List Holder) → filter (λ h. not (same_tx h.tx tx)) hs ≡ others tx hs
filter-others tx [] = refl
filter-others tx (h ∷ hs) =
    kept_at (same_tx h.tx tx) h (filter (λ x. not (same_tx x.tx tx)) hs)
    ∙ ap (λ xs. unless_gone (same_tx h.tx tx) h xs) (filter-others tx hs)

pub filter-without : (tx : TxId) (ws : List Wait) → filter (λ w. not (same_tx w.tx tx)) ws ≡ without tx ws
filter-without tx [] = refl
filter-without tx (w ∷ ws) =
    kept_at (same_tx w.tx tx) w (filter (λ x. not (same_tx x.tx tx)) ws)
    ∙ ap (λ xs. unless_gone (same_tx w.tx tx) w xs) (filter-without tx ws)
