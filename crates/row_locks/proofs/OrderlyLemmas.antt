-- Each call leaves the lock of a row orderly.
use Rattle.std.proofs.Common.{◌≡◌, ℕ, ◌+◌, Bool, true, false, not, ◌&&◌, ◌||◌, nat_lt, List, [], ◌∷◌, ◌++◌, refl, ap}
use Rattle.std.proofs.Common.{sym, ◌∙◌, arith}
use Rattle.std.proofs.lemmas.Bool.Decides.{nat_tests}
use Rattle.std.proofs.lemmas.Bool.{true≢false, and_parts, and_from, not-true, or_parts, or_from}
use Rattle.sig_core.specs.declared.member.TxId.{TxId}
use Rattle.row_locks.specs.declared.mode.Mode.{Mode}
use Rattle.row_locks.specs.declared.mode.Mode.TheVariants.{Shared, Exclusive}
use Rattle.row_locks.specs.declared.claim.Holder.{Holder}
use Rattle.row_locks.specs.declared.claim.Wait.{Wait}
use Rattle.sig_core.specs.Same.{same_tx}
use Rattle.row_locks.specs.Modes.{agree, stronger}
use Rattle.row_locks.specs.Holders.{unless_gone, others, agrees_with, holds, holds_enough, holder_of, hold}
use Rattle.row_locks.specs.Queues.{waits, without, wait_of, raised, raised_if, aged, aged_all, ages, is_open, one_round}
use Rattle.row_locks.specs.Rows.{RowLock, may_hold, served, served_if, asked, asked_by, asked_anew, anew, is_quiet}
use Rattle.row_locks.specs.Rows.{released, unwaited, unqueued, grown_old}
use Rattle.row_locks.specs.Orderly.{IsOrderly, are_held_once, are_agreed, are_waiting_once, is_first_held_up}
use Rattle.row_locks.specs.Orderly.{none_holds, are_raises_first, test_if, none_has_enough, are_within_rounds}
use Rattle.sig_core.proofs.TxLemmas.{same_tx-swap, apart_too}
use Rattle.row_locks.proofs.NeedLemmas.{enough_shared, need-others, need-hold, need-without, need-aged, need-raised}
use Rattle.row_locks.proofs.NeedLemmas.{need-end, need-quiet}
use Rattle.row_locks.proofs.WithinLemmas.{within-without, within-aged, within-raised, within-end}

agree-swap : (m n : Mode) → agree m n ≡ agree n m
agree-swap Shared Shared = refl
agree-swap Shared Exclusive = refl
agree-swap Exclusive Shared = refl
agree-swap Exclusive Exclusive = refl

-- without a holder

not_held-others : (tx : TxId) (hs : List Holder) → holds tx (others tx hs) ≡ false
not_held-others tx [] = refl
not_held-others tx (h ∷ hs) = at (same_tx h.tx tx) refl (not_held-others tx hs)
  where
    at : (b : Bool) → same_tx h.tx tx ≡ b → holds tx (others tx hs) ≡ false
        → holds tx (unless_gone b h (others tx hs)) ≡ false
    at true e r = r
    at false e r = or_from (same_tx h.tx tx) (holds tx (others tx hs)) e r

unheld_at : (u : TxId) (h : Holder) (rest : List Holder) (b : Bool) → same_tx h.tx u ≡ false → holds u rest ≡ false
    → holds u (unless_gone b h rest) ≡ false
unheld_at u h rest true e r = r
unheld_at u h rest false e r = or_from (same_tx h.tx u) (holds u rest) e r

unheld-others : (u tx : TxId) (hs : List Holder) → holds u hs ≡ false → holds u (others tx hs) ≡ false
unheld-others u tx [] n = refl
unheld-others u tx (h ∷ hs) n =
    let parts = or_parts (same_tx h.tx u) (holds u hs) n in
    unheld_at u h (others tx hs) (same_tx h.tx tx) parts.0 (unheld-others u tx hs parts.1)

once_at : (h : Holder) (rest : List Holder) (b : Bool) → holds h.tx rest ≡ false → are_held_once rest ≡ true
    → are_held_once (unless_gone b h rest) ≡ true
once_at h rest true n r = r
once_at h rest false n r = and_from (not (holds h.tx rest)) (are_held_once rest) (ap not n) r

once-others : (tx : TxId) (hs : List Holder) → are_held_once hs ≡ true → are_held_once (others tx hs) ≡ true
once-others tx [] o = refl
once-others tx (h ∷ hs) o =
    let parts = and_parts (not (holds h.tx hs)) (are_held_once hs) o in
    once_at h (others tx hs) (same_tx h.tx tx) (unheld-others h.tx tx hs (not-true _ parts.0))
    (once-others tx hs parts.1)

agrees_at : (u : TxId) (m : Mode) (h : Holder) (rest : List Holder) (b : Bool)
    → (same_tx h.tx u || agree h.mode m) ≡ true → agrees_with u m rest ≡ true
    → agrees_with u m (unless_gone b h rest) ≡ true
agrees_at u m h rest true e r = r
agrees_at u m h rest false e r = and_from _ _ e r

agrees-others : (u : TxId) (m : Mode) (tx : TxId) (hs : List Holder) → agrees_with u m hs ≡ true
    → agrees_with u m (others tx hs) ≡ true
agrees-others u m tx [] a = refl
agrees-others u m tx (h ∷ hs) a =
    let parts = and_parts (same_tx h.tx u || agree h.mode m) (agrees_with u m hs) a in
    agrees_at u m h (others tx hs) (same_tx h.tx tx) parts.0 (agrees-others u m tx hs parts.1)

agreed_at : (h : Holder) (rest : List Holder) (b : Bool) → agrees_with h.tx h.mode rest ≡ true → are_agreed rest ≡ true
    → are_agreed (unless_gone b h rest) ≡ true
agreed_at h rest true a r = r
agreed_at h rest false a r = and_from _ _ a r

agreed-others : (tx : TxId) (hs : List Holder) → are_agreed hs ≡ true → are_agreed (others tx hs) ≡ true
agreed-others tx [] a = refl
agreed-others tx (h ∷ hs) a =
    let parts = and_parts (agrees_with h.tx h.mode hs) (are_agreed hs) a in
    agreed_at h (others tx hs) (same_tx h.tx tx) (agrees-others h.tx h.mode tx hs parts.0) (agreed-others tx hs parts.1)

-- one holder more, at the end

holds-end : (u : TxId) (hs : List Holder) (h : Holder) → holds u hs ≡ false → same_tx h.tx u ≡ false
    → holds u (hs ++ h ∷ []) ≡ false
holds-end u [] h n e = or_from _ _ e refl
holds-end u (x ∷ hs) h n e =
    let parts = or_parts (same_tx x.tx u) (holds u hs) n in
    or_from _ _ parts.0 (holds-end u hs h parts.1 e)

once-end : (hs : List Holder) (h : Holder) → are_held_once hs ≡ true → holds h.tx hs ≡ false
    → are_held_once (hs ++ h ∷ []) ≡ true
once-end [] h o n = refl
once-end (x ∷ hs) h o n =
    let once = and_parts (not (holds x.tx hs)) (are_held_once hs) o in
    let apart = or_parts (same_tx x.tx h.tx) (holds h.tx hs) n in
    and_from _ _ (ap not (holds-end x.tx hs h (not-true _ once.0) (same_tx-swap h.tx x.tx ∙ apart.0)))
    (once-end hs h once.1 apart.1)

agrees-end : (u : TxId) (m : Mode) (hs : List Holder) (h : Holder) → agrees_with u m hs ≡ true
    → (same_tx h.tx u || agree h.mode m) ≡ true → agrees_with u m (hs ++ h ∷ []) ≡ true
agrees-end u m [] h a e = and_from _ _ e refl
agrees-end u m (x ∷ hs) h a e =
    let parts = and_parts (same_tx x.tx u || agree x.mode m) (agrees_with u m hs) a in
    and_from _ _ parts.0 (agrees-end u m hs h parts.1 e)

beside-swap : (x h : Holder) → (same_tx x.tx h.tx || agree x.mode h.mode) ≡ (same_tx h.tx x.tx || agree h.mode x.mode)
beside-swap x h = λ i. same_tx-swap x.tx h.tx i || agree-swap x.mode h.mode i

agreed-end : (hs : List Holder) (h : Holder) → are_agreed hs ≡ true → agrees_with h.tx h.mode hs ≡ true
    → are_agreed (hs ++ h ∷ []) ≡ true
agreed-end [] h a e = refl
agreed-end (x ∷ hs) h a e =
    let agreed = and_parts (agrees_with x.tx x.mode hs) (are_agreed hs) a in
    let beside = and_parts (same_tx x.tx h.tx || agree x.mode h.mode) (agrees_with h.tx h.mode hs) e in
    and_from _ _ (agrees-end x.tx x.mode hs h agreed.0 (sym (beside-swap x h) ∙ beside.0))
    (agreed-end hs h agreed.1 beside.1)

once-hold : (tx : TxId) (m : Mode) (hs : List Holder) → are_held_once hs ≡ true → are_held_once (hold tx m hs) ≡ true
once-hold tx m hs o = once-end (others tx hs) (holder_of tx m) (once-others tx hs o) (not_held-others tx hs)

agreed-hold : (tx : TxId) (m : Mode) (hs : List Holder) → are_agreed hs ≡ true → agrees_with tx m hs ≡ true
    → are_agreed (hold tx m hs) ≡ true
agreed-hold tx m hs a e =
    agreed-end (others tx hs) (holder_of tx m) (agreed-others tx hs a) (agrees-others tx m tx hs e)

-- the queue

unwaiting_at : (u : TxId) (w : Wait) (rest : List Wait) (b : Bool) → same_tx w.tx u ≡ false → waits u rest ≡ false
    → waits u (unless_gone b w rest) ≡ false
unwaiting_at u w rest true e r = r
unwaiting_at u w rest false e r = or_from _ _ e r

unwaiting-without : (u tx : TxId) (ws : List Wait) → waits u ws ≡ false → waits u (without tx ws) ≡ false
unwaiting-without u tx [] n = refl
unwaiting-without u tx (w ∷ ws) n =
    let parts = or_parts (same_tx w.tx u) (waits u ws) n in
    unwaiting_at u w (without tx ws) (same_tx w.tx tx) parts.0 (unwaiting-without u tx ws parts.1)

waiting_at : (w : Wait) (rest : List Wait) (b : Bool) → waits w.tx rest ≡ false → are_waiting_once rest ≡ true
    → are_waiting_once (unless_gone b w rest) ≡ true
waiting_at w rest true n r = r
waiting_at w rest false n r = and_from _ _ (ap not n) r

pub waiting-without : (tx : TxId) (ws : List Wait) → are_waiting_once ws ≡ true
    → are_waiting_once (without tx ws) ≡ true
waiting-without tx [] o = refl
waiting-without tx (w ∷ ws) o =
    let parts = and_parts (not (waits w.tx ws)) (are_waiting_once ws) o in
    waiting_at w (without tx ws) (same_tx w.tx tx) (unwaiting-without w.tx tx ws (not-true _ parts.0))
    (waiting-without tx ws parts.1)

-- those that hold the lock stand before those that don't

holds_others_at : (u tx : TxId) (h : Holder) (hs rest : List Holder) (b : Bool) → same_tx h.tx tx ≡ b
    → same_tx tx u ≡ false → holds u rest ≡ holds u hs
    → holds u (unless_gone b h rest) ≡ (same_tx h.tx u || holds u hs)
holds_others_at u tx h hs rest true e apart r = r ∙ sym (ap (λ b. b || holds u hs) (apart_too h.tx tx u e apart))
holds_others_at u tx h hs rest false e apart r = ap (λ b. same_tx h.tx u || b) r

holds-others : (u tx : TxId) (hs : List Holder) → same_tx tx u ≡ false → holds u (others tx hs) ≡ holds u hs
holds-others u tx [] apart = refl
holds-others u tx (h ∷ hs) apart =
    holds_others_at u tx h hs (others tx hs) (same_tx h.tx tx) refl apart (holds-others u tx hs apart)

holds-last : (u : TxId) (hs : List Holder) (h : Holder) → same_tx h.tx u ≡ false → holds u (hs ++ h ∷ []) ≡ holds u hs
holds-last u [] h e = or_from (same_tx h.tx u) false e refl
holds-last u (x ∷ hs) h e = ap (λ b. same_tx x.tx u || b) (holds-last u hs h e)

holds-hold : (tx : TxId) (m : Mode) (hs : List Holder) (u : TxId) → same_tx tx u ≡ false
    → holds u (hold tx m hs) ≡ holds u hs
holds-hold tx m hs u apart = holds-last u (others tx hs) (holder_of tx m) apart ∙ holds-others u tx hs apart

module _ (tx : TxId) (hs new : List Holder) (same : (u : TxId) → same_tx tx u ≡ false → holds u new ≡ holds u hs) where
  none-same : (ws : List Wait) → waits tx ws ≡ false → none_holds new ws ≡ none_holds hs ws
  none-same [] n = refl
  none-same (w ∷ ws) n =
      let parts = or_parts (same_tx w.tx tx) (waits tx ws) n in
      λ i. not (same w.tx (same_tx-swap tx w.tx ∙ parts.0) i) && none-same ws parts.1 i

  raises-same : (ws : List Wait) → waits tx ws ≡ false → are_raises_first new ws ≡ are_raises_first hs ws
  raises-same [] n = refl
  raises-same (w ∷ ws) n =
      let parts = or_parts (same_tx w.tx tx) (waits tx ws) n in
      λ i. test_if (same w.tx (same_tx-swap tx w.tx ∙ parts.0) i) (raises-same ws parts.1 i) (none-same ws parts.1 i)

raises_from_none : (hs : List Holder) (ws : List Wait) → none_holds hs ws ≡ true → are_raises_first hs ws ≡ true
raises_from_none hs [] n = refl
raises_from_none hs (w ∷ ws) n =
    let parts = and_parts (not (holds w.tx hs)) (none_holds hs ws) n in
    ap (λ b. test_if b (are_raises_first hs ws) (none_holds hs ws)) (not-true _ parts.0) ∙ parts.1

raises_tail_at : (hs : List Holder) (ws : List Wait) (b : Bool)
    → test_if b (are_raises_first hs ws) (none_holds hs ws) ≡ true → are_raises_first hs ws ≡ true
raises_tail_at hs ws true r = r
raises_tail_at hs ws false r = raises_from_none hs ws r

raises_tail : (hs : List Holder) (w : Wait) (ws : List Wait) → are_raises_first hs (w ∷ ws) ≡ true
    → are_raises_first hs ws ≡ true
raises_tail hs w ws r = raises_tail_at hs ws (holds w.tx hs) r

test_more : (b one other one_now other_now : Bool) → (one ≡ true → one_now ≡ true) → (other ≡ true → other_now ≡ true)
    → test_if b one other ≡ true → test_if b one_now other_now ≡ true
test_more true one other one_now other_now f g r = f r
test_more false one other one_now other_now f g r = g r

none_at : (hs : List Holder) (w : Wait) (rest : List Wait) (b : Bool) → not (holds w.tx hs) ≡ true
    → none_holds hs rest ≡ true → none_holds hs (unless_gone b w rest) ≡ true
none_at hs w rest true n r = r
none_at hs w rest false n r = and_from _ _ n r

none-without : (hs : List Holder) (tx : TxId) (ws : List Wait) → none_holds hs ws ≡ true
    → none_holds hs (without tx ws) ≡ true
none-without hs tx [] n = refl
none-without hs tx (w ∷ ws) n =
    let parts = and_parts (not (holds w.tx hs)) (none_holds hs ws) n in
    none_at hs w (without tx ws) (same_tx w.tx tx) parts.0 (none-without hs tx ws parts.1)

raises_at : (hs : List Holder) (w : Wait) (rest : List Wait) (b : Bool) → are_raises_first hs rest ≡ true
    → are_raises_first hs (w ∷ rest) ≡ true
    → are_raises_first hs (unless_gone b w rest) ≡ true
raises_at hs w rest true r s = r
raises_at hs w rest false r s = s

raises-without : (hs : List Holder) (tx : TxId) (ws : List Wait) → are_raises_first hs ws ≡ true
    → are_raises_first hs (without tx ws) ≡ true
raises-without hs tx [] r = refl
raises-without hs tx (w ∷ ws) r =
    raises_at hs w (without tx ws) (same_tx w.tx tx) (raises-without hs tx ws (raises_tail hs w ws r))
    (test_more (holds w.tx hs) (are_raises_first hs ws) (none_holds hs ws) (are_raises_first hs (without tx ws))
    (none_holds hs (without tx ws))
    (raises-without hs tx ws) (none-without hs tx ws) r)

gone_at : (tx : TxId) (w : Wait) (rest : List Wait) (b : Bool) → same_tx w.tx tx ≡ b → waits tx rest ≡ false
    → waits tx (unless_gone b w rest) ≡ false
gone_at tx w rest true e r = r
gone_at tx w rest false e r = or_from _ _ e r

pub gone-without : (tx : TxId) (ws : List Wait) → waits tx (without tx ws) ≡ false
gone-without tx [] = refl
gone-without tx (w ∷ ws) = gone_at tx w (without tx ws) (same_tx w.tx tx) refl (gone-without tx ws)

-- serving

pub served_orderly : (g : ℕ) (hs : List Holder) (ws : List Wait) → are_held_once hs ≡ true → are_agreed hs ≡ true
    → are_waiting_once ws ≡ true → are_raises_first hs ws ≡ true
    → none_has_enough hs ws ≡ true → are_within_rounds ws ≡ true → IsOrderly (served g hs ws).lock
served_orderly g hs [] o a w r n k =
    record {
      held_once = o;
      agreed = a;
      waiting_once = refl;
      held_up = refl;
      raises_first = refl;
      in_need = refl;
      within_rounds = refl;
    }
served_orderly g hs (x ∷ ws) o a w r n k =
    let once = and_parts (not (waits x.tx ws)) (are_waiting_once ws) w in
    let raises = raises-same x.tx hs (hold x.tx x.mode hs) (holds-hold x.tx x.mode hs) ws (not-true _ once.0)
    ∙ raises_tail hs x ws r in
    let need = need-hold x.tx x.mode hs ws (not-true _ once.0)
    ∙ (and_parts (not (holds_enough x.tx x.mode hs)) (none_has_enough hs ws) n).1 in
    let within = (and_parts (not (nat_lt 8 x.rounds)) (are_within_rounds ws) k).1 in
    at (may_hold x hs) refl
    (λ e. served_orderly (g + 1) (hold x.tx x.mode hs) ws (once-hold x.tx x.mode hs o)
    (agreed-hold x.tx x.mode hs a (and_parts (is_open x) (agrees_with x.tx x.mode hs) e).1) once.1 raises need
    within)
  where
    at : (b : Bool) → may_hold x hs ≡ b
        → (may_hold x hs ≡ true → IsOrderly (served (g + 1) (hold x.tx x.mode hs) ws).lock)
        → IsOrderly (served_if b (served (g + 1) (hold x.tx x.mode hs) ws)
        (record { lock = record { holders = hs; queue = x ∷ ws }; granted = g })).lock
    at true e f = f e
    at false e f = record {
      held_once =
          o;
      agreed = a;
      waiting_once = w;
      held_up = ap not e;
      raises_first = r;
      in_need = n;
      within_rounds = k;
    }

pub released_orderly : (lock : RowLock) (tx : TxId) → IsOrderly lock → IsOrderly (released lock tx).lock
released_orderly lock tx is =
    let gone = gone-without tx lock.queue in
    served_orderly 0 (others tx lock.holders) (without tx lock.queue) (once-others tx lock.holders is.held_once)
    (agreed-others tx lock.holders is.agreed) (waiting-without tx lock.queue is.waiting_once)
    (raises-same tx lock.holders (others tx lock.holders) (λ u apart. holds-others u tx lock.holders apart)
    (without tx lock.queue) gone ∙ raises-without lock.holders tx lock.queue is.raises_first)
    (need-others tx lock.holders (without tx lock.queue) gone ∙ need-without lock.holders tx lock.queue is.in_need)
    (within-without tx lock.queue is.within_rounds)

pub unwaited_orderly : (lock : RowLock) (tx : TxId) → IsOrderly lock → IsOrderly (unwaited lock tx).lock
unwaited_orderly lock tx is =
    served_orderly 0 lock.holders (without tx lock.queue) is.held_once is.agreed
    (waiting-without tx lock.queue is.waiting_once)
    (raises-without lock.holders tx lock.queue is.raises_first) (need-without lock.holders tx lock.queue is.in_need)
    (within-without tx lock.queue is.within_rounds)

pub unqueued_orderly : (lock : RowLock) → IsOrderly lock → IsOrderly (unqueued lock)
unqueued_orderly lock is =
    record {
      held_once = is.held_once;
      agreed = is.agreed;
      waiting_once = refl;
      held_up = refl;
      raises_first = refl;
      in_need = refl;
      within_rounds = refl;
    }

-- ageing keeps who waits, and in which mode

waits-aged : (u : TxId) (ws : List Wait) → waits u (aged_all ws) ≡ waits u ws
waits-aged u [] = refl
waits-aged u (w ∷ ws) = ap (λ b. same_tx w.tx u || b) (waits-aged u ws)

waiting-aged : (ws : List Wait) → are_waiting_once (aged_all ws) ≡ are_waiting_once ws
waiting-aged [] = refl
waiting-aged (w ∷ ws) = λ i. not (waits-aged w.tx ws i) && waiting-aged ws i

not_more : (a b : Bool) → (b ≡ true → a ≡ true) → not a ≡ true → not b ≡ true
not_more a false f n = refl
not_more a true f n = absurd (true≢false (sym (f refl) ∙ not-true a n))

-- what is open a round later was open before
open_earlier : (b : Bool) (rounds : ℕ) → nat_lt (one_round b rounds) 8 ≡ true → nat_lt rounds 8 ≡ true
open_earlier false rounds e = e
open_earlier true rounds e = grind (arith, nat_tests)

held_up-aged : (hs : List Holder) (ws : List Wait) → is_first_held_up hs ws ≡ true
    → is_first_held_up hs (aged_all ws) ≡ true
held_up-aged hs [] up = refl
held_up-aged hs (w ∷ ws) up =
    not_more (may_hold w hs) (may_hold (aged w) hs)
    (λ e. let parts = and_parts (is_open (aged w)) (agrees_with w.tx w.mode hs) e in
    and_from (is_open w) _ (open_earlier (ages w) w.rounds parts.0) parts.1) up

none-aged : (hs : List Holder) (ws : List Wait) → none_holds hs (aged_all ws) ≡ none_holds hs ws
none-aged hs [] = refl
none-aged hs (w ∷ ws) = ap (λ b. not (holds w.tx hs) && b) (none-aged hs ws)

raises-aged : (hs : List Holder) (ws : List Wait) → are_raises_first hs (aged_all ws) ≡ are_raises_first hs ws
raises-aged hs [] = refl
raises-aged hs (w ∷ ws) = λ i. test_if (holds w.tx hs) (raises-aged hs ws i) (none-aged hs ws i)

pub grown_old_orderly : (lock : RowLock) → IsOrderly lock → IsOrderly (grown_old lock)
grown_old_orderly lock is =
    record {
      held_once = is.held_once;
      agreed = is.agreed;
      waiting_once = waiting-aged lock.queue ∙ is.waiting_once;
      held_up = held_up-aged lock.holders lock.queue is.held_up;
      raises_first = raises-aged lock.holders lock.queue ∙ is.raises_first;
      in_need = need-aged lock.holders lock.queue ∙ is.in_need;
      within_rounds = within-aged lock.queue is.within_rounds;
    }

-- a wait that is raised keeps its transaction, and agrees with no more

raised_tx : (b : Bool) (m : Mode) (w : Wait) → (raised_if b m w).tx ≡ w.tx
raised_tx true m w = refl
raised_tx false m w = refl

waits-raised : (u tx : TxId) (m : Mode) (ws : List Wait) → waits u (raised tx m ws) ≡ waits u ws
waits-raised u tx m [] = refl
waits-raised u tx m (w ∷ ws) = λ i. same_tx (raised_tx (same_tx w.tx tx) m w i) u || waits-raised u tx m ws i

waiting-raised : (tx : TxId) (m : Mode) (ws : List Wait) → are_waiting_once (raised tx m ws) ≡ are_waiting_once ws
waiting-raised tx m [] = refl
waiting-raised tx m (w ∷ ws) =
    (λ i. not (waits (raised_tx (same_tx w.tx tx) m w i) (raised tx m ws)) && waiting-raised tx m ws i)
    ∙ ap (λ b. not b && are_waiting_once ws) (waits-raised w.tx tx m ws)

none-raised : (hs : List Holder) (tx : TxId) (m : Mode) (ws : List Wait)
    → none_holds hs (raised tx m ws) ≡ none_holds hs ws
none-raised hs tx m [] = refl
none-raised hs tx m (w ∷ ws) = λ i. not (holds (raised_tx (same_tx w.tx tx) m w i) hs) && none-raised hs tx m ws i

raises-raised : (hs : List Holder) (tx : TxId) (m : Mode) (ws : List Wait)
    → are_raises_first hs (raised tx m ws) ≡ are_raises_first hs ws
raises-raised hs tx m [] = refl
raises-raised hs tx m (w ∷ ws) =
    λ i. test_if (holds (raised_tx (same_tx w.tx tx) m w i) hs) (raises-raised hs tx m ws i) (none-raised hs tx m ws i)

agree-stronger : (x m n : Mode) → agree x (stronger m n) ≡ true → agree x m ≡ true
agree-stronger Shared Shared n e = refl
agree-stronger Shared Exclusive n e = e
agree-stronger Exclusive m n e = e

or_more : (a b c : Bool) → (b ≡ true → c ≡ true) → (a || b) ≡ true → (a || c) ≡ true
or_more true b c f e = refl
or_more false b c f e = f e

agrees-stronger : (u : TxId) (m n : Mode) (hs : List Holder) → agrees_with u (stronger m n) hs ≡ true
    → agrees_with u m hs ≡ true
agrees-stronger u m n [] e = refl
agrees-stronger u m n (h ∷ hs) e =
    let parts = and_parts (same_tx h.tx u || agree h.mode (stronger m n)) (agrees_with u (stronger m n) hs) e in
    and_from _ _ (or_more (same_tx h.tx u) (agree h.mode (stronger m n)) (agree h.mode m) (agree-stronger h.mode m n)
    parts.0) (agrees-stronger u m n hs parts.1)

not_from : (b : Bool) → (b ≡ true → ⊥) → not b ≡ true
not_from true never = absurd (never refl)
not_from false never = refl

held_up_at : (hs : List Holder) (b : Bool) (m : Mode) (w : Wait) → not (may_hold w hs) ≡ true
    → not (may_hold (raised_if b m w) hs) ≡ true
held_up_at hs true m w n =
    not_more (may_hold w hs) (may_hold (raised_if true m w) hs)
    (λ e. let parts = and_parts (is_open w) (agrees_with w.tx (stronger w.mode m) hs) e in
    and_from (is_open w) _ parts.0 (agrees-stronger w.tx w.mode m hs parts.1)) n
held_up_at hs false m w n = n

held_up-raised : (hs : List Holder) (tx : TxId) (m : Mode) (ws : List Wait) → is_first_held_up hs ws ≡ true
    → is_first_held_up hs (raised tx m ws) ≡ true
held_up-raised hs tx m [] n = refl
held_up-raised hs tx m (w ∷ ws) n = held_up_at hs (same_tx w.tx tx) m w n

-- one waiter more, at the end

waits-end : (u : TxId) (ws : List Wait) (w : Wait) → waits u ws ≡ false → same_tx w.tx u ≡ false
    → waits u (ws ++ w ∷ []) ≡ false
waits-end u [] w n e = or_from _ _ e refl
waits-end u (x ∷ ws) w n e =
    let parts = or_parts (same_tx x.tx u) (waits u ws) n in
    or_from _ _ parts.0 (waits-end u ws w parts.1 e)

waiting-end : (ws : List Wait) (w : Wait) → are_waiting_once ws ≡ true → waits w.tx ws ≡ false
    → are_waiting_once (ws ++ w ∷ []) ≡ true
waiting-end [] w o n = refl
waiting-end (x ∷ ws) w o n =
    let once = and_parts (not (waits x.tx ws)) (are_waiting_once ws) o in
    let apart = or_parts (same_tx x.tx w.tx) (waits w.tx ws) n in
    and_from _ _ (ap not (waits-end x.tx ws w (not-true _ once.0) (same_tx-swap w.tx x.tx ∙ apart.0)))
    (waiting-end ws w once.1 apart.1)

none-end : (hs : List Holder) (ws : List Wait) (w : Wait) → holds w.tx hs ≡ false → none_holds hs ws ≡ true
    → none_holds hs (ws ++ w ∷ []) ≡ true
none-end hs [] w e n = and_from _ _ (ap not e) refl
none-end hs (x ∷ ws) w e n =
    let parts = and_parts (not (holds x.tx hs)) (none_holds hs ws) n in
    and_from _ _ parts.0 (none-end hs ws w e parts.1)

raises-end : (hs : List Holder) (ws : List Wait) (w : Wait) → holds w.tx hs ≡ false → are_raises_first hs ws ≡ true
    → are_raises_first hs (ws ++ w ∷ []) ≡ true
raises-end hs [] w e r = ap (λ b. test_if b true true) e
raises-end hs (x ∷ ws) w e r =
    test_more (holds x.tx hs) (are_raises_first hs ws) (none_holds hs ws) (are_raises_first hs (ws ++ w ∷ []))
    (none_holds hs (ws ++ w ∷ []))
    (raises-end hs ws w e) (none-end hs ws w e) r

raises-quiet : (hs : List Holder) (ws : List Wait) → is_quiet ws ≡ true → are_raises_first hs ws ≡ true
raises-quiet hs [] q = refl
raises-quiet hs (w ∷ ws) q = absurd (true≢false (sym q))

-- who is first doesn't agree with a transaction that is raised to exclusive

pub agrees-last : (u : TxId) (m : Mode) (hs : List Holder) (h : Holder) → agrees_with u m (hs ++ h ∷ []) ≡ true
    → (same_tx h.tx u || agree h.mode m) ≡ true
agrees-last u m [] h e = (and_parts (same_tx h.tx u || agree h.mode m) true e).0
agrees-last u m (x ∷ hs) h e =
    agrees-last u m hs h (and_parts (same_tx x.tx u || agree x.mode m) (agrees_with u m (hs ++ h ∷ [])) e).1

held_up-exclusive : (tx : TxId) (hs : List Holder) (ws : List Wait) → waits tx ws ≡ false
    → is_first_held_up (hold tx Exclusive hs) ws ≡ true
held_up-exclusive tx hs [] n = refl
held_up-exclusive tx hs (w ∷ ws) n =
    let apart : same_tx tx w.tx ≡ false = same_tx-swap tx w.tx ∙ (or_parts (same_tx w.tx tx) (waits tx ws) n).0 in
    not_from (may_hold w (hold tx Exclusive hs))
    (λ e. true≢false (sym (agrees-last w.tx w.mode (others tx hs) (holder_of tx Exclusive)
    (and_parts (is_open w) (agrees_with w.tx w.mode (hold tx Exclusive hs)) e).1)
    ∙ or_from (same_tx tx w.tx) false apart refl))

raise_orderly : (lock : RowLock) (tx : TxId) (m : Mode) → IsOrderly lock → holds_enough tx m lock.holders ≡ false
    → waits tx lock.queue ≡ false → holds tx lock.holders ≡ true
    → is_first_held_up (hold tx m lock.holders) lock.queue ≡ true
raise_orderly lock tx Shared is enough waiting held =
    absurd (true≢false (sym held ∙ sym (enough_shared tx lock.holders) ∙ enough))
raise_orderly lock tx Exclusive is enough waiting held = held_up-exclusive tx lock.holders lock.queue waiting

held_up-quiet : (hs : List Holder) (ws : List Wait) → is_quiet ws ≡ true → is_first_held_up hs ws ≡ true
held_up-quiet hs [] q = refl
held_up-quiet hs (w ∷ ws) q = absurd (true≢false (sym q))

-- a waiter more at the end, where the queue isn't empty or the new waiter doesn't agree
held_up-end : (hs : List Holder) (ws : List Wait) (w : Wait) → is_first_held_up hs ws ≡ true
    → (is_quiet ws ≡ true → agrees_with w.tx w.mode hs ≡ false)
    → is_first_held_up hs (ws ++ w ∷ []) ≡ true
held_up-end hs [] w n f = ap (λ b. not (is_open w && b)) (f refl) ∙ none (is_open w)
  where
    none : (b : Bool) → not (b && false) ≡ true
    none true = refl
    none false = refl
held_up-end hs (x ∷ ws) w n f = n

anew_at : (lock : RowLock) (tx : TxId) (m : Mode) → IsOrderly lock → holds_enough tx m lock.holders ≡ false
    → waits tx lock.queue ≡ false
    → (held agrees quiet : Bool) → holds tx lock.holders ≡ held → agrees_with tx m lock.holders ≡ agrees
    → is_quiet lock.queue ≡ quiet
    → IsOrderly (asked_anew held agrees quiet lock tx m).lock
anew_at lock tx m is enough waiting true true quiet h a q =
    record {
      held_once = once-hold tx m lock.holders is.held_once;
      agreed = agreed-hold tx m lock.holders is.agreed a;
      waiting_once = is.waiting_once;
      held_up = raise_orderly lock tx m is enough waiting h;
      raises_first = raises-same tx lock.holders (hold tx m lock.holders) (holds-hold tx m lock.holders) lock.queue
          waiting ∙ is.raises_first;
      in_need = need-hold tx m lock.holders lock.queue waiting ∙ is.in_need;
      within_rounds = is.within_rounds;
    }
anew_at lock tx m is enough waiting true false quiet h a q =
    record {
      held_once = is.held_once;
      agreed = is.agreed;
      waiting_once = and_from _ _ (ap not waiting) is.waiting_once;
      held_up = ap not a;
      raises_first = ap (λ b. test_if b (are_raises_first lock.holders lock.queue) (none_holds lock.holders lock.queue))
          h ∙ is.raises_first;
      in_need = and_from _ _ (ap not enough) is.in_need;
      within_rounds = is.within_rounds;
    }
anew_at lock tx m is enough waiting false true true h a q =
    record {
      held_once = once-hold tx m lock.holders is.held_once;
      agreed = agreed-hold tx m lock.holders is.agreed a;
      waiting_once = is.waiting_once;
      held_up = held_up-quiet (hold tx m lock.holders) lock.queue q;
      raises_first = raises-quiet (hold tx m lock.holders) lock.queue q;
      in_need = need-quiet (hold tx m lock.holders) lock.queue q;
      within_rounds = is.within_rounds;
    }
anew_at lock tx m is enough waiting false true false h a q =
    record {
      held_once = is.held_once;
      agreed = is.agreed;
      waiting_once = waiting-end lock.queue (wait_of tx m) is.waiting_once waiting;
      held_up = held_up-end lock.holders lock.queue (wait_of tx m) is.held_up (λ e. absurd (true≢false (sym e ∙ q)));
      raises_first = raises-end lock.holders lock.queue (wait_of tx m) h is.raises_first;
      in_need = need-end lock.holders lock.queue (wait_of tx m) enough is.in_need;
      within_rounds = within-end lock.queue (wait_of tx m) refl is.within_rounds;
    }
anew_at lock tx m is enough waiting false false quiet h a q =
    record {
      held_once = is.held_once;
      agreed = is.agreed;
      waiting_once = waiting-end lock.queue (wait_of tx m) is.waiting_once waiting;
      held_up = held_up-end lock.holders lock.queue (wait_of tx m) is.held_up (λ e. a);
      raises_first = raises-end lock.holders lock.queue (wait_of tx m) h is.raises_first;
      in_need = need-end lock.holders lock.queue (wait_of tx m) enough is.in_need;
      within_rounds = within-end lock.queue (wait_of tx m) refl is.within_rounds;
    }

pub anew_orderly : (lock : RowLock) (tx : TxId) (m : Mode) → IsOrderly lock → holds_enough tx m lock.holders ≡ false
    → waits tx lock.queue ≡ false → IsOrderly (anew lock tx m).lock
anew_orderly lock tx m is enough waiting = anew_at lock tx m is enough waiting _ _ _ refl refl refl

pub asked_at-orderly : (lock : RowLock) (tx : TxId) (m : Mode) → IsOrderly lock → (enough waiting : Bool)
    → holds_enough tx m lock.holders ≡ enough → waits tx lock.queue ≡ waiting
    → IsOrderly (asked_by enough waiting lock tx m).lock
asked_at-orderly lock tx m is true waiting e w = is
asked_at-orderly lock tx m is false true e w =
    record {
      held_once = is.held_once;
      agreed = is.agreed;
      waiting_once = waiting-raised tx m lock.queue ∙ is.waiting_once;
      held_up = held_up-raised lock.holders tx m lock.queue is.held_up;
      raises_first = raises-raised lock.holders tx m lock.queue ∙ is.raises_first;
      in_need = need-raised lock.holders tx m lock.queue e is.in_need;
      within_rounds = within-raised tx m lock.queue ∙ is.within_rounds;
    }
asked_at-orderly lock tx m is false false e w = anew_orderly lock tx m is e w

pub asked_orderly : (lock : RowLock) (tx : TxId) (mode : Mode) → IsOrderly lock → IsOrderly (asked lock tx mode).lock
asked_orderly lock tx mode is = asked_at-orderly lock tx mode is _ _ refl refl
