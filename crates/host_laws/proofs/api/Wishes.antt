-- Wishes for a transaction, and the coordinators' replies to them.
use Rattle.std.proofs.Common.{◌≡◌, ℕ, ◌+◌, List, Bool, true, false, refl, ap, ◌∙◌, arith}
use Rattle.std.specs.Prelude.{◌==◌, ◌&&◌, Option}
use Rattle.sig_core.specs.declared.member.TxId.{TxId}
use Rattle.sig_core.specs.declared.outs.Outgoing.{Outgoing}
use Rattle.sig_core.specs.declared.place.BlockId.{BlockId}
use Rattle.sig_core.specs.declared.place.BlockId.TheVariants as block
use Rattle.sig_core.specs.declared.place.Place.{Place}
use Rattle.sig_core.specs.declared.signal.Body.{Body}
use Rattle.sig_core.specs.declared.signal.Body.TheVariants.{Client}
use Rattle.sig_core.specs.declared.signal.client.ClientSignal.TheVariants.{TcBeginReq, TcBeginConf, TcBeginRef}
use Rattle.api_block.specs.Opened.{same_name}
use Rattle.node_core.specs.Dih.{DihState, dih_table}
use Rattle.lqh_block.specs.Lqh.{lqh_table}
use Rattle.lqh_block.specs.State.{LqhState}
use Rattle.tc_block.specs.State.{TcState}
use Rattle.tc_block.specs.Tc.{begin_if, begin_row, is_full, tc_table}
use Rattle.host_laws.proofs.hosts.DihSends.{dih_kinds}
use Rattle.host_laws.proofs.rows.Sends.{lqh_kinds}
use Rattle.host_laws.proofs.hosts.SendKinds.{is_dih_kind, is_lqh_kind, is_tc_kind, none_of}
use Rattle.run_theory.specs.Counts.{one_if, tally}
use Rattle.tc_block.proofs.TurnRows.{tx_in}
use Rattle.host_laws.proofs.coordinator.Sends.{tc_kinds}
use Rattle.sig_core.specs.Step.{Step}
use Rattle.tc_block.specs.Tc.{next_tx}
use Rattle.tc_block.proofs.TurnRows.{TcStep, begins, misses, passes, refuses, rests, takes, tc_step}
use Rattle.host_laws.proofs.coordinator.Sends.{turn_sends}
use Rattle.sig_core.specs.Place.{client}
use Rattle.sig_core.specs.declared.signal.client.ClientSignal.TheVariants.{TcWaitConf}

abbrev pub is_tc : BlockId → Bool
is_tc block.Tc = true
is_tc _ = false

abbrev pub is_api : BlockId → Bool
is_api block.Api = true
is_api _ = false

-- the wish for a transaction of this name
abbrev pub wish_of : Option ℕ → Body → Bool
wish_of name (Client (TcBeginReq other)) = same_name other name
wish_of name _ = false

abbrev pub is_wish : Option ℕ → Place → Body → Bool
is_wish name to body = is_tc to.block && wish_of name body

-- the reply to such a wish
abbrev pub reply_of : Option ℕ → Body → Bool
reply_of name (Client (TcBeginConf other tx)) = same_name other name
reply_of name (Client (TcBeginRef other)) = same_name other name
reply_of name _ = false

abbrev pub is_reply : Option ℕ → Place → Body → Bool
is_reply name to body = is_api to.block && reply_of name body

-- what is for a node and passes a test
abbrev pub to_node : ℕ → (Place → Body → Bool) → Place → Body → Bool
to_node node test to body = (to.node == node) && test to body

abbrev pub sends_of : (Place → Body → Bool) → List Outgoing → ℕ
sends_of test sends = tally (λ (x : Outgoing). test x.to x.body) sends

-- a test of two fails where the second does
pub second_fails : (a : Bool) {b : Bool} → b ≡ false → (a && b) ≡ false
second_fails true e = e
second_fails false e = refl

pub and_false : (a b : Bool) {c : Bool} → c ≡ false → (a && (b && c)) ≡ false
and_false true true e = e
and_false true false e = refl
and_false false b e = refl

-- neither block sends a reply, nor a wish
no_reply_tc : (name : Option ℕ) (tx : TxId) (body : Body) → is_tc_kind tx body ≡ true → reply_of name body ≡ false
no_reply_tc name one (Client (TcBeginConf other tx)) e = cc
no_reply_tc name one (Client (TcBeginRef other)) e = cc
no_reply_tc name one _ e = refl

no_reply_dih : (name : Option ℕ) (body : Body) → is_dih_kind body ≡ true → reply_of name body ≡ false
no_reply_dih name (Client (TcBeginConf other tx)) e = cc
no_reply_dih name (Client (TcBeginRef other)) e = cc
no_reply_dih name _ e = refl

no_reply_lqh : (name : Option ℕ) (body : Body) → is_lqh_kind body ≡ true → reply_of name body ≡ false
no_reply_lqh name (Client (TcBeginConf other tx)) e = cc
no_reply_lqh name (Client (TcBeginRef other)) e = cc
no_reply_lqh name _ e = refl

no_wish_tc : (name : Option ℕ) (tx : TxId) (body : Body) → is_tc_kind tx body ≡ true → wish_of name body ≡ false
no_wish_tc name one (Client (TcBeginReq other)) e = cc
no_wish_tc name one _ e = refl

no_wish_dih : (name : Option ℕ) (body : Body) → is_dih_kind body ≡ true → wish_of name body ≡ false
no_wish_dih name (Client (TcBeginReq other)) e = cc
no_wish_dih name _ e = refl

no_wish_lqh : (name : Option ℕ) (body : Body) → is_lqh_kind body ≡ true → wish_of name body ≡ false
no_wish_lqh name (Client (TcBeginReq other)) e = cc
no_wish_lqh name _ e = refl

-- a coordinator sends none of what it sends neither of a transaction nor of one that begins
pub tc_none : (p : Place → Body → Bool)
    → ((one : TxId) (to : Place) (b : Body) → is_tc_kind one b ≡ true → p to b ≡ false)
    → ((name : Option ℕ) → p client (Client (TcBeginRef name)) ≡ false)
    → ((name : Option ℕ) (tx : TxId) → p client (Client (TcBeginConf name tx)) ≡ false)
    → (s : TcState) (body : Body) → sends_of p (tc_table s body).effects.sends ≡ 0
tc_none p fails fails_ref fails_conf s body = by (tc_table s body) (tc_step s body)
  where
    sent : Step TcState → ℕ
    sent step = sends_of p step.effects.sends

    by : (step : Step TcState) → TcStep s body step → sent step ≡ 0
    by step (rests off is) = ap sent is
    by step (refuses name about is) = ap sent is ∙ ap (λ b. one_if b + 0) (fails_ref name)
    by step (begins name about room is) = ap sent is ∙ ap (λ b. one_if b + 0) (fails_conf name (next_tx s))
    by step (passes tx ahead about is) =
        ap sent is ∙ ap (λ b. one_if b + 0) (fails tx client (Client (TcWaitConf tx ahead)) refl)
    by step (misses turns none is) = ap sent is
    by step (takes turns t front back was is) =
        ap sent is ∙ none_of (is_tc_kind (tx_in body)) p (fails (tx_in body)) _ (turn_sends s body t)

begin_replies : (name : Option ℕ) (s : TcState) (other : Option ℕ) (b : Bool)
    → sends_of (to_node 0 (is_reply name)) (begin_if s other b).effects.sends ≡ one_if (same_name other name)
begin_replies name s other true = omega arith
begin_replies name s other false = omega arith

-- a coordinator replies to each wish that it takes, and to nothing else
pub tc_replies : (name : Option ℕ) (s : TcState) (body : Body)
    → sends_of (to_node 0 (is_reply name)) (tc_table s body).effects.sends ≡ one_if (wish_of name body)
unfolding begin_row
tc_replies name s (Client (TcBeginReq other)) = begin_replies name s other (is_full s)
tc_replies name s body =
    none_of (is_tc_kind (tx_in body)) (to_node 0 (is_reply name))
    (λ to b k. and_false (to.node == 0) (is_api to.block) (no_reply_tc name (tx_in body) b k))
    (tc_table s body).effects.sends (tc_kinds s body refl)

-- epochs and rows reply to none
pub dih_replies : (name : Option ℕ) (s : DihState) (body : Body)
    → sends_of (to_node 0 (is_reply name)) (dih_table s body).effects.sends ≡ 0
dih_replies name s body =
    none_of is_dih_kind (to_node 0 (is_reply name))
    (λ to b k. and_false (to.node == 0) (is_api to.block) (no_reply_dih name b k))
    (dih_table s body).effects.sends (dih_kinds s body)

pub lqh_replies : (name : Option ℕ) (s : LqhState) (body : Body)
    → sends_of (to_node 0 (is_reply name)) (lqh_table s body).effects.sends ≡ 0
lqh_replies name s body =
    none_of is_lqh_kind (to_node 0 (is_reply name))
    (λ to b k. and_false (to.node == 0) (is_api to.block) (no_reply_lqh name b k))
    (lqh_table s body).effects.sends (lqh_kinds s body)

-- none of them wishes for one
pub tc_wishes : (name : Option ℕ) (s : TcState) (body : Body)
    → sends_of (is_wish name) (tc_table s body).effects.sends ≡ 0
tc_wishes name =
    tc_none (is_wish name) (λ one to b k. second_fails (is_tc to.block) (no_wish_tc name one b k)) (λ other. refl)
    (λ other tx. refl)

pub dih_wishes : (name : Option ℕ) (s : DihState) (body : Body)
    → sends_of (is_wish name) (dih_table s body).effects.sends ≡ 0
dih_wishes name s body =
    none_of is_dih_kind (is_wish name) (λ to b k. second_fails (is_tc to.block) (no_wish_dih name b k))
    (dih_table s body).effects.sends (dih_kinds s body)

pub lqh_wishes : (name : Option ℕ) (s : LqhState) (body : Body)
    → sends_of (is_wish name) (lqh_table s body).effects.sends ≡ 0
lqh_wishes name s body =
    none_of is_lqh_kind (is_wish name) (λ to b k. second_fails (is_tc to.block) (no_wish_lqh name b k))
    (lqh_table s body).effects.sends (lqh_kinds s body)
