-- Who waits doesn't hold what it waits for: each call keeps that.
use Rattle.std.proofs.Common.{◌≡◌, Bool, true, false, not, ◌&&◌, ◌||◌, List, [], ◌∷◌, ◌++◌, refl, ap, sym, ◌∙◌}
use Rattle.std.proofs.lemmas.Bool.{true≢false, and_parts, and_from, not-true, or_parts}
use Rattle.sig_core.specs.declared.member.TxId.{TxId}
use Rattle.row_locks.specs.declared.mode.Mode.{Mode}
use Rattle.row_locks.specs.declared.mode.Mode.TheVariants.{Shared, Exclusive}
use Rattle.row_locks.specs.declared.claim.Holder.{Holder}
use Rattle.row_locks.specs.declared.claim.Wait.{Wait}
use Rattle.sig_core.specs.Same.{same_tx}
use Rattle.row_locks.specs.Modes.{is_enough, stronger}
use Rattle.row_locks.specs.Holders.{unless_gone, others, holds, holds_enough, holder_of, hold}
use Rattle.row_locks.specs.Queues.{waits, without, raised, raised_if, aged_all}
use Rattle.row_locks.specs.Rows.{is_quiet}
use Rattle.row_locks.specs.Orderly.{none_has_enough}
use Rattle.sig_core.proofs.TxLemmas.{same_tx-swap, same_tx-is, apart_too}

-- who holds a lock has what a shared request asks

and_enough : (b : Bool) (m : Mode) → (b && is_enough m Shared) ≡ b
and_enough true Shared = refl
and_enough true Exclusive = refl
and_enough false m = refl

pub enough_shared : (tx : TxId) (hs : List Holder) → holds_enough tx Shared hs ≡ holds tx hs
enough_shared tx [] = refl
enough_shared tx (h ∷ hs) = λ i. and_enough (same_tx h.tx tx) h.mode i || enough_shared tx hs i

-- what another transaction holds is no matter

enough_others_at : (u tx : TxId) (m : Mode) (h : Holder) (hs rest : List Holder) (b : Bool) → same_tx h.tx tx ≡ b
    → same_tx tx u ≡ false
    → holds_enough u m rest ≡ holds_enough u m hs
    → holds_enough u m (unless_gone b h rest) ≡ ((same_tx h.tx u && is_enough h.mode m) || holds_enough u m hs)
enough_others_at u tx m h hs rest true e apart r =
    r ∙ sym (ap (λ b. (b && is_enough h.mode m) || holds_enough u m hs) (apart_too h.tx tx u e apart))
enough_others_at u tx m h hs rest false e apart r = ap (λ b. (same_tx h.tx u && is_enough h.mode m) || b) r

enough-others : (u tx : TxId) (m : Mode) (hs : List Holder) → same_tx tx u ≡ false
    → holds_enough u m (others tx hs) ≡ holds_enough u m hs
enough-others u tx m [] apart = refl
enough-others u tx m (h ∷ hs) apart =
    enough_others_at u tx m h hs (others tx hs) (same_tx h.tx tx) refl apart (enough-others u tx m hs apart)

pub enough-last : (u : TxId) (m : Mode) (hs : List Holder) (h : Holder) → same_tx h.tx u ≡ false
    → holds_enough u m (hs ++ h ∷ []) ≡ holds_enough u m hs
enough-last u m [] h e = ap (λ b. (b && is_enough h.mode m) || false) e
enough-last u m (x ∷ hs) h e = ap (λ b. (same_tx x.tx u && is_enough x.mode m) || b) (enough-last u m hs h e)

enough-hold : (tx : TxId) (n : Mode) (hs : List Holder) (u : TxId) (m : Mode) → same_tx tx u ≡ false
    → holds_enough u m (hold tx n hs) ≡ holds_enough u m hs
enough-hold tx n hs u m apart = enough-last u m (others tx hs) (holder_of tx n) apart ∙ enough-others u tx m hs apart

module _ (tx : TxId) (hs new : List Holder)
    (same : (u : TxId) (m : Mode) → same_tx tx u ≡ false → holds_enough u m new ≡ holds_enough u m hs) where
  need-same : (ws : List Wait) → waits tx ws ≡ false → none_has_enough new ws ≡ none_has_enough hs ws
  need-same [] n = refl
  need-same (w ∷ ws) n =
      let parts = or_parts (same_tx w.tx tx) (waits tx ws) n in
      λ i. not (same w.tx w.mode (same_tx-swap tx w.tx ∙ parts.0) i) && need-same ws parts.1 i

pub need-others : (tx : TxId) (hs : List Holder) (ws : List Wait) → waits tx ws ≡ false
    → none_has_enough (others tx hs) ws ≡ none_has_enough hs ws
need-others tx hs ws n = need-same tx hs (others tx hs) (λ u m apart. enough-others u tx m hs apart) ws n

pub need-hold : (tx : TxId) (m : Mode) (hs : List Holder) (ws : List Wait) → waits tx ws ≡ false
    → none_has_enough (hold tx m hs) ws ≡ none_has_enough hs ws
need-hold tx m hs ws n = need-same tx hs (hold tx m hs) (enough-hold tx m hs) ws n

pub need-last : (h : Holder) (hs : List Holder) (ws : List Wait) → waits h.tx ws ≡ false
    → none_has_enough (hs ++ h ∷ []) ws ≡ none_has_enough hs ws
need-last h hs ws n = need-same h.tx hs (hs ++ h ∷ []) (λ u m apart. enough-last u m hs h apart) ws n

-- the queue changes

need_at : (hs : List Holder) (w : Wait) (rest : List Wait) (b : Bool) → not (holds_enough w.tx w.mode hs) ≡ true
    → none_has_enough hs rest ≡ true → none_has_enough hs (unless_gone b w rest) ≡ true
need_at hs w rest true n r = r
need_at hs w rest false n r = and_from _ _ n r

pub need-without : (hs : List Holder) (tx : TxId) (ws : List Wait) → none_has_enough hs ws ≡ true
    → none_has_enough hs (without tx ws) ≡ true
need-without hs tx [] n = refl
need-without hs tx (w ∷ ws) n =
    let parts = and_parts (not (holds_enough w.tx w.mode hs)) (none_has_enough hs ws) n in
    need_at hs w (without tx ws) (same_tx w.tx tx) parts.0 (need-without hs tx ws parts.1)

pub need-aged : (hs : List Holder) (ws : List Wait) → none_has_enough hs (aged_all ws) ≡ none_has_enough hs ws
need-aged hs [] = refl
need-aged hs (w ∷ ws) = ap (λ b. not (holds_enough w.tx w.mode hs) && b) (need-aged hs ws)

enough-stronger : (u : TxId) (m n : Mode) (hs : List Holder) → holds_enough u m hs ≡ false → holds_enough u n hs ≡ false
    → holds_enough u (stronger m n) hs ≡ false
enough-stronger u Shared n hs p q = q
enough-stronger u Exclusive n hs p q = p

raise_at : (hs : List Holder) (tx : TxId) (m : Mode) (w : Wait) (b : Bool) → same_tx w.tx tx ≡ b
    → holds_enough tx m hs ≡ false → holds_enough w.tx w.mode hs ≡ false
    → holds_enough (raised_if b m w).tx (raised_if b m w).mode hs ≡ false
raise_at hs tx m w true e p q =
    enough-stronger w.tx w.mode m hs q (ap (λ t. holds_enough t m hs) (same_tx-is w.tx tx e) ∙ p)
raise_at hs tx m w false e p q = q

pub need-raised : (hs : List Holder) (tx : TxId) (m : Mode) (ws : List Wait) → holds_enough tx m hs ≡ false
    → none_has_enough hs ws ≡ true → none_has_enough hs (raised tx m ws) ≡ true
need-raised hs tx m [] p n = refl
need-raised hs tx m (w ∷ ws) p n =
    let parts = and_parts (not (holds_enough w.tx w.mode hs)) (none_has_enough hs ws) n in
    and_from _ _ (ap not (raise_at hs tx m w (same_tx w.tx tx) refl p (not-true _ parts.0)))
    (need-raised hs tx m ws p parts.1)

pub need-end : (hs : List Holder) (ws : List Wait) (w : Wait) → holds_enough w.tx w.mode hs ≡ false
    → none_has_enough hs ws ≡ true → none_has_enough hs (ws ++ w ∷ []) ≡ true
need-end hs [] w e n = and_from _ _ (ap not e) refl
need-end hs (x ∷ ws) w e n =
    let parts = and_parts (not (holds_enough x.tx x.mode hs)) (none_has_enough hs ws) n in
    and_from _ _ parts.0 (need-end hs ws w e parts.1)

pub need-quiet : (hs : List Holder) (ws : List Wait) → is_quiet ws ≡ true → none_has_enough hs ws ≡ true
need-quiet hs [] q = refl
need-quiet hs (w ∷ ws) q = absurd (true≢false (sym q))
