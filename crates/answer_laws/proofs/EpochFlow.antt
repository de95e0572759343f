-- The block of epochs gives one to each transaction that asks, since it never counts as many as a coordinator keeps
-- when it is asked.
use Rattle.std.proofs.Common.{◌≡◌, ◌+◌, ◌≤◌, ◌<◌, List, ◌∷◌, length, Bool, true, false, refl, sym, ap, ◌∙◌, arith}
use Rattle.std.specs.Prelude.{◌&&◌, not, nat_lt}
use Rattle.std.proofs.lemmas.Bool.Decides.{nat_tests}
use Rattle.api_block.specs.declared.opened.OpenTransaction.{OpenTransaction}
use Rattle.api_block.specs.State.{ApiState}
use Rattle.node_core.specs.Dih.{DihState, dih_table}
use Rattle.node_core.proofs.DihForms.{dih_forms, is_for_epochs}
use Rattle.sig_core.specs.declared.member.TxId.{TxId}
use Rattle.sig_core.specs.declared.outs.Outgoing.{Outgoing}
use Rattle.sig_core.specs.declared.place.Place.{Place}
use Rattle.sig_core.specs.declared.signal.Body.{Body}
use Rattle.sig_core.specs.declared.signal.Body.TheVariants.{Epoch}
use Rattle.sig_core.specs.declared.signal.epoch.EpochSignal.TheVariants.{DiVerifyReq, DiVerifyConf, DiVerifyEnd}
use Rattle.sig_core.specs.declared.view.View.{View}
use Rattle.sig_core.specs.Place.{client, coordinator, epochs}
use Rattle.sig_core.specs.Same.{same_tx}
use Rattle.sig_core.specs.Step.{Step}
use Rattle.tc_block.specs.declared.tc.TheConstants.{TRANSACTIONS}
use Rattle.tc_block.specs.Sends.{verify_end}
use Rattle.tc_block.specs.State.{TcState}
use Rattle.tc_block.specs.Tc.{tc_table}
use Rattle.world_core.specs.Machine.{after}
use Rattle.run_laws.proofs.hosts.AlongSteps.{is_dih}
use Rattle.host_laws.proofs.api.Moves.{ApiMove, begun_as, ends, goes, is_api_kind, opens, refuses, rests}
use Rattle.answer_laws.proofs.EpochCounts.{counts_by, ended_by, is_epochless, with_asked}
use Rattle.answer_laws.proofs.EpochLives.{TurnCounts, asking, ending, gone, unchanged, turn_counts}
use Rattle.host_laws.proofs.hosts.SendKinds.{are_of, is_dih_kind, is_lqh_kind, is_tc_kind, none_of, of_kind}
use Rattle.run_theory.proofs.Tally.{and_few, none_if, tally_append}
use Rattle.run_theory.specs.Counts.{one_if}
use Rattle.tc_block.proofs.TurnRows as turns
use Rattle.tc_block.proofs.TurnRows.{begins, misses, takes, tc_step, TcStep, turn_row, tx_in}
use Rattle.host_laws.proofs.coordinator.Turns.{turn_moves}
use Rattle.host_laws.proofs.api.Wishes.{and_false, is_tc, second_fails, sends_of, tc_none}

-- a transaction asks for an epoch, and is given one
abbrev pub is_req : TxId → Place → Body → Bool
is_req tx to (Epoch (DiVerifyReq other ops)) = is_dih to.block && same_tx other tx
is_req tx to _ = false

abbrev pub is_conf : TxId → Place → Body → Bool
is_conf tx to (Epoch (DiVerifyConf other epoch)) = is_tc to.block && same_tx other tx
is_conf tx to _ = false

-- what a block of epochs heeds
abbrev pub is_epoch : Place → Body → Bool
is_epoch to body = is_dih to.block && not (is_epochless body)

-- of what is for such places
abbrev pub at_place : (Place → Bool) → (Place → Body → Bool) → Place → Body → Bool
at_place at test to body = at to && test to body

pub plain_none : (at : Place → Bool) (sends : List Outgoing) → are_of is_epochless sends ≡ true
    → sends_of (at_place at is_epoch) sends ≡ 0
plain_none at sends kind =
    none_of is_epochless (at_place at is_epoch) (λ to body k. and_false (at to) (is_dih to.block) (ap not k)) sends kind

pub dih_plain : (body : Body) → is_dih_kind body ≡ true → is_epochless body ≡ true
dih_plain (Epoch (DiVerifyConf tx epoch)) e = refl
dih_plain (Epoch (DiVerifyReq tx ops)) e = cc
dih_plain (Epoch (DiVerifyEnd tx)) e = cc
dih_plain (Epoch _) e = cc
dih_plain _ e = refl

pub lqh_plain : (body : Body) → is_lqh_kind body ≡ true → is_epochless body ≡ true
lqh_plain (Epoch (DiVerifyReq tx ops)) e = cc
lqh_plain (Epoch (DiVerifyEnd tx)) e = cc
lqh_plain _ e = refl

api_plain : (body : Body) → is_api_kind body ≡ true → is_epochless body ≡ true
api_plain (Epoch (DiVerifyReq tx ops)) e = cc
api_plain (Epoch (DiVerifyEnd tx)) e = cc
api_plain _ e = refl

-- a coordinator sends such signals to its own node alone
pub tc_epochs : (s : TcState) (at : Place → Bool) → at (epochs s.node) ≡ false → (body : Body)
    → sends_of (at_place at is_epoch) (tc_table s body).effects.sends ≡ 0
tc_epochs s at off body = go (tc_table s body) (tc_step s body)
  where
    go : (step : Step TcState) → TcStep s body step → sends_of (at_place at is_epoch) step.effects.sends ≡ 0
    go step (turns.rests off is) = ap (λ (x : Step TcState). sends_of (at_place at is_epoch) x.effects.sends) is
    go step (turns.refuses name about is) =
        ap (λ (x : Step TcState). sends_of (at_place at is_epoch) x.effects.sends) is ∙ none_if (at client)
    go step (begins name about room is) = ap (λ (x : Step TcState). sends_of (at_place at is_epoch) x.effects.sends) is
        ∙ none_if (at client)
    go step (turns.passes tx ahead about is) =
        ap (λ (x : Step TcState). sends_of (at_place at is_epoch) x.effects.sends) is ∙ none_if (at client)
    go step (misses about none is) = ap (λ (x : Step TcState). sends_of (at_place at is_epoch) x.effects.sends) is
    go step (takes about t front back was is) =
        ap (λ (x : Step TcState). sends_of (at_place at is_epoch) x.effects.sends) is
        ∙ by (turn_counts s (tx_in body) t body (turn_row s body t) (turn_moves s body t about))
      where
        by : TurnCounts s.node (tx_in body) t (turn_row s body t)
            → sends_of (at_place at is_epoch) (turn_row s body t).step.effects.sends ≡ 0
        by (unchanged over keeps_it kind) = plain_none at _ kind
        by (gone over none kind) = plain_none at _ kind
        by (asking ops over none some told) = ap (sends_of (at_place at is_epoch)) told
            ∙ ap (λ b. one_if (b && true) + 0) off
        by (ending over some before behind kind other told) =
            omega (
              arith,
              ap (sends_of (at_place at is_epoch)) told,
              tally_append (λ (x : Outgoing). at_place at is_epoch x.to x.body) before
                  (verify_end s.node (tx_in body) ∷ behind),
              plain_none at before kind,
              plain_none at behind other,
              ap (λ b. one_if (b && true)) off,
            )

pub move_epochs : (at : Place → Bool) (s : ApiState) (body : Body) (after : View × List OpenTransaction)
    (sends : List Outgoing) → ApiMove s body after sends → sends_of (at_place at is_epoch) sends ≡ 0
move_epochs at s body after sends (rests is kind void) =
    plain_none at sends (of_kind is_api_kind is_epochless api_plain sends kind)
move_epochs at s body after sends (opens other node op new request is told) = ap (sends_of (at_place at is_epoch)) told
    ∙ none_if (at (coordinator node))
move_epochs at s body after sends (begun_as other one front t u back about passes begun was is kind) =
    plain_none at sends (of_kind is_api_kind is_epochless api_plain sends kind)
move_epochs at s body after sends (goes front t u back go void was is kind) =
    plain_none at sends (of_kind is_api_kind is_epochless api_plain sends kind)
move_epochs at s body after sends (ends one front t back about passes was is kind) =
    plain_none at sends (of_kind is_api_kind is_epochless api_plain sends kind)
move_epochs at s body after sends (refuses other front t back about passes was is kind) =
    plain_none at sends (of_kind is_api_kind is_epochless api_plain sends kind)

-- what the block makes of its transactions
pub dih_counts : (s : DihState) (body : Body) → (dih_table s body).state.counted ≡ counts_by body s.counted
dih_counts s =
    dih_forms (λ body step. step.state.counted ≡ counts_by body s.counted) s (record {
      decides = λ tx ops low. ap (with_asked s.counted tx) (sym low);
      is_full = λ tx ops high. ap (with_asked s.counted tx) (sym high);
      ends = λ tx at there. ap (ended_by s.counted) (sym there);
      misses = λ tx none. ap (ended_by s.counted) (sym none);
      rests = others;
    })
  where
    others : (body : Body) → is_for_epochs body ≡ false → s.counted ≡ counts_by body s.counted
    others (Epoch (DiVerifyReq tx ops)) off = cc
    others (Epoch (DiVerifyEnd tx)) off = cc
    others (Epoch _) off = refl
    others _ off = refl

pub dih_stays : (s : DihState) (body : Body) → (dih_table s body).state.node ≡ s.node
dih_stays s =
    dih_forms (λ body step. step.state.node ≡ s.node) s (record {
      decides = λ tx ops low. refl;
      is_full = λ tx ops high. refl;
      ends = λ tx at there. refl;
      misses = λ tx none. refl;
      rests = λ body off. refl;
    })

-- it gives an epoch to each that asks, where fewer are counted than a coordinator keeps, and to no other
abbrev pub req_body : TxId → Body → Bool
req_body tx (Epoch (DiVerifyReq other ops)) = same_tx other tx
req_body tx _ = false

pub dih_few : (at : Place → Bool) (tx : TxId) (s : DihState) (body : Body)
    → sends_of (at_place at (is_conf tx)) (dih_table s body).effects.sends ≤ one_if (req_body tx body)
dih_few at tx s =
    dih_forms (λ body step. sends_of (at_place at (is_conf tx)) step.effects.sends ≤ one_if (req_body tx body)) s
    (record {
      decides = λ other ops low. omega (arith, and_few (at (coordinator s.node)) (same_tx other tx));
      is_full = λ other ops high. omega arith;
      ends = λ other place there. omega arith;
      misses = λ other none. omega arith;
      rests = λ body off. omega arith;
    })

pub dih_gives : (at : Place → Bool) (tx : TxId) (s : DihState) (body : Body) → at (coordinator s.node) ≡ true
    → (req_body tx body ≡ true → length s.counted < TRANSACTIONS)
    → one_if (req_body tx body) ≤ sends_of (at_place at (is_conf tx)) (dih_table s body).effects.sends
dih_gives at tx s body own =
    dih_forms (λ b step. (req_body tx b ≡ true → length s.counted < TRANSACTIONS)
    → one_if (req_body tx b) ≤ sends_of (at_place at (is_conf tx)) step.effects.sends) s
    (record {
      decides = λ other ops low few. omega (arith, ap (λ b. one_if (b && same_tx other tx)) own);
      is_full = λ other ops high few. none_asks (same_tx other tx) high few;
      ends = λ other place there few. omega arith;
      misses = λ other none few. omega arith;
      rests = λ b off few. others b off;
    }) body
  where
    none_asks : (m : Bool) → nat_lt (length s.counted) TRANSACTIONS ≡ false
        → (m ≡ true → length s.counted < TRANSACTIONS) → one_if m ≤ 0
    none_asks true high few = absurd (grind (arith, nat_tests, high, few refl))
    none_asks false high few = omega arith

    others : (b : Body) → is_for_epochs b ≡ false → one_if (req_body tx b) ≤ 0
    others (Epoch (DiVerifyReq other ops)) off = cc
    others (Epoch _) off = omega arith
    others _ off = omega arith

pub tc_confless : (at : Place → Bool) (tx : TxId) (s : TcState) (body : Body)
    → sends_of (at_place at (is_conf tx)) (tc_table s body).effects.sends ≡ 0
tc_confless at tx s body =
    tc_none (at_place at (is_conf tx)) (λ one to b k. second_fails (at to) (fails one to b k))
    (λ name. second_fails (at client) refl) (λ name other. second_fails (at client) refl) s body
  where
    fails : (one : TxId) (to : Place) (body : Body) → is_tc_kind one body ≡ true → is_conf tx to body ≡ false
    fails one to (Epoch (DiVerifyConf other epoch)) e = cc
    fails one to _ e = refl
