-- A transaction whose commit isn't asked for stays open, or is aborted for want of room or of time.
use Rattle.std.proofs.Common.{◌≡◌, ◌⊎◌, ◌+◌, ℕ, Bool, true, false, List, [], ◌∷◌, ◌++◌, length, refl, sym, ap, ◌∙◌, inl}
use Rattle.std.proofs.Common.{inr}
use Rattle.std.specs.List.{flat_map}
use Rattle.std.specs.Prelude.{if◌then◌else◌, None, drop, nat_lt, not, take}
use Rattle.sig_core.specs.declared.portion.TheConstants.{PORTION}
use Rattle.sig_core.specs.declared.member.TxId.{TxId}
use Rattle.sig_core.specs.declared.outcome.AbortCause.{AbortCause}
use Rattle.sig_core.specs.declared.outs.Outgoing.{Outgoing}
use Rattle.sig_core.specs.declared.signal.Body.{Body}
use Rattle.sig_core.specs.declared.signal.Body.TheVariants.{Host, Client}
use Rattle.sig_core.specs.declared.signal.client.ClientSignal.TheVariants.{TcCommitConf, TcCommitReq, TcRollbackRep}
use Rattle.sig_core.specs.declared.signal.client.ClientSignal.TheVariants.{TcRollbackReq}
use Rattle.sig_core.specs.declared.signal.host.HostSignal.TheVariants.{Continue}
use Rattle.sig_core.specs.declared.signal.host.Work.TheVariants as work
use Rattle.frag_map.specs.Layout.{Layout}
use Rattle.sig_core.specs.Op.{key_of}
use Rattle.sig_core.specs.Same.{same_tx}
use Rattle.tc_block.specs.declared.phase.Phase.{Phase}
use Rattle.tc_block.specs.declared.phase.Phase.TheVariants.{Open, Verifying, Committing, Completing, Aborting}
use Rattle.tc_block.specs.declared.touched.Touched.{Touched}
use Rattle.tc_block.specs.declared.transaction.Transaction.{Transaction}
use Rattle.tc_block.specs.Abort as abort
use Rattle.frag_map.specs.Layout.{chain_of}
use Rattle.tc_block.specs.Part.{part_effects, rest_if}
use Rattle.tc_block.specs.Sends.{entering, front_sends, key_sends, phase_sends, wait_of}
use Rattle.tc_block.specs.State.{TcState}
use Rattle.tc_block.specs.Turn.{Turn, asking}
use Rattle.tc_block.proofs.EachTurn.{AbortForms, TurnForms}
use Rattle.host_laws.proofs.hosts.SendKinds.{are_of, of_append, of_drop, of_map, of_take, one_kind}
use Rattle.command_laws.proofs.ends.FairRows.{is_fair}
use Rattle.host_laws.proofs.coordinator.PhaseSends.{HasChains, aborts_of_kind, entering_of_kind, rest_of_kind}
use Rattle.tc_block.proofs.TurnRows.{tx_in, turn_row}
use Rattle.host_laws.proofs.coordinator.Turns.{turn_at}
use Rattle.sig_core.proofs.Keys.{same_tx-self}
use Rattle.command_laws.specs.Served.{is_refusal}

-- it is aborted for want of room or of time
abbrev pub is_past : Phase → Bool
is_past (Aborting cause verifying awaited) = is_refusal cause
is_past phase = false

-- all but reports of a commit, or of an abort for another cause
abbrev pub is_no_end : Body → Bool
is_no_end (Client (TcCommitConf tx epoch)) = false
is_no_end (Client (TcRollbackRep tx cause)) = is_refusal cause
is_no_end _ = true

-- what may lead elsewhere: the wish for a commit or an abort
abbrev pub is_wish : Body → Bool
is_wish (Client (TcCommitReq tx)) = true
is_wish (Client (TcRollbackReq tx)) = true
is_wish _ = false

-- It is still open, and nothing is aborted; or it is aborted so, or over.
pub record StaysOpen (tx : TxId) (t : Transaction) (turn : Turn) : Type 0 where
  pub goes : turn.over ≡ false
  pub was : t.phase ≡ Open
  pub now : turn.step.state.phase ≡ Open
  pub ends : are_of is_no_end turn.step.effects.sends ≡ true
  pub fair : are_of (is_fair tx) turn.step.effects.sends ≡ true

pub record IsLeaving (turn : Turn) : Type 0 where
  pub past : turn.over ≡ false → is_past turn.step.state.phase ≡ true
  pub ends : are_of is_no_end turn.step.effects.sends ≡ true

abbrev pub EarlyTurn : TxId → Transaction → Turn → Type 0
EarlyTurn tx t turn = StaysOpen tx t turn ⊎ IsLeaving turn

chains : (tx : TxId) → HasChains tx is_no_end
chains tx = record {
  commits = λ key epoch chain at. refl;
  completes = λ key chain at. refl;
  aborts = λ key. refl;
  goes_on = λ at. refl;
}

front_past : (tx : TxId) (phase : Phase) → is_past phase ≡ true → are_of is_no_end (front_sends tx phase) ≡ true
unfolding front_sends
front_past tx (Aborting cause verifying awaited) e = refl
front_past tx Open e = refl
front_past tx Verifying e = refl
front_past tx (Committing epoch awaited) e = refl
front_past tx (Completing epoch awaited) e = cc

-- while it is open it sends no list
none_open : (layout : Layout) (tx : TxId) (touched : List Touched) → flat_map (key_sends layout tx Open) touched ≡ []
unfolding key_sends
none_open layout tx [] = refl
none_open layout tx (t ∷ touched) = none_open layout tx touched

phase_open : (layout : Layout) (tx : TxId) (phase : Phase) (touched : List Touched) → phase ≡ Open
    → phase_sends layout tx phase touched ≡ []
unfolding phase_sends front_sends
phase_open layout tx phase touched is =
    ap (λ p. front_sends tx p ++ flat_map (key_sends layout tx p) touched) is ∙ none_open layout tx touched

part_none : (kind : Body → Bool) (node : ℕ) (tx : TxId) (at : ℕ)
    → ((n : ℕ) → kind (Host (Continue (work.Transaction tx) n)) ≡ true) → (sends : List Outgoing) → sends ≡ []
    → are_of kind (part_effects node tx sends at).sends ≡ true
unfolding part_effects
part_none kind node tx at goes sends none =
    of_append kind (take PORTION (drop at sends)) (rest_if node tx at (nat_lt (at + PORTION) (length sends)))
    (of_take kind PORTION (drop at sends) (of_drop kind at sends (ap (are_of kind) none)))
    (by (nat_lt (at + PORTION) (length sends)))
  where
    by : (b : Bool) → are_of kind (rest_if node tx at b) ≡ true
    by true = one_kind (kind (Host (Continue (work.Transaction tx) (at + PORTION)))) (goes (at + PORTION))
    by false = refl

fair_cause : (b same : Bool) → same ≡ true → (if b then true else not same) ≡ true → b ≡ true
fair_cause true same is e = refl
fair_cause false true is e = cc
fair_cause false false is e = cc

not_wished : (body wish : Body) → is_wish body ≡ false → body ≡ wish → is_wish wish ≡ true → ⊥
not_wished body wish plain is on = let both : true ≡ false = sym on ∙ (ap is_wish (sym is) ∙ plain) in cc

abbrev is_open : Phase → Bool
is_open Open = true
is_open phase = false

module _ (node : ℕ) (layout : Layout) (tx : TxId) (t : Transaction) where
  end_kind : (why : AbortCause) (verifying : Bool) → is_refusal why ≡ true
      → are_of is_no_end (abort.abort_end node tx why verifying) ≡ true
  end_kind why true e = one_kind (is_refusal why) e
  end_kind why false e = one_kind (is_refusal why) e

  -- a transaction that is open
  module _ (at : t.phase ≡ Open) where
    not_open : (phase : Phase) → t.phase ≡ phase → is_open phase ≡ false → ⊥
    not_open phase is off = let both : true ≡ false = sym (ap is_open at) ∙ (ap is_open is ∙ off) in cc

    leaves : (u : Transaction) (why : AbortCause) → is_refusal why ≡ true
        → AbortForms node layout tx u why (EarlyTurn tx t)
    unfolding entering
    leaves u why e = record {
      enters = λ some. inr (record {
        past = λ off. e;
        ends = entering_of_kind is_no_end layout tx (chains tx) node u
            (Aborting why (abort.is_verifying u.phase) (abort.aborts_awaited layout u))
            (front_past tx (Aborting why (abort.is_verifying u.phase) (abort.aborts_awaited layout u)) e);
      });
      ends = λ none. inr (record { past = λ off. cc; ends = end_kind why (abort.is_verifying u.phase) e });
    }

    turns_open : (body : Body) → is_wish body ≡ false → is_fair tx body ≡ true
        → TurnForms node layout tx t body (EarlyTurn tx t)
    turns_open body plain fair = record {
      stays = inl (record { goes = refl; was = at; now = at; ends = refl; fair = refl });
      goes_on = λ place. inl (record {
        goes = refl;
        was = at;
        now = at;
        ends = part_none is_no_end node tx place (λ n. refl) (phase_sends layout tx t.phase t.touched)
            (phase_open layout tx t.phase t.touched at);
        fair = part_none (is_fair tx) node tx place (λ n. refl) (phase_sends layout tx t.phase t.touched)
            (phase_open layout tx t.phase t.touched at);
      });
      operates = λ op is can. inl (record { goes = refl; was = at; now = at; ends = refl; fair = refl });
      answers = λ key answer asked is on opened. inl
          (record { goes = refl; was = at; now = at; ends = refl; fair = refl });
      late = λ key asked why verifying awaited on aborting. absurd
          (not_open (Aborting why verifying awaited) aborting refl);
      waits = λ asked on. inl (record {
        goes = refl;
        was = at;
        now = at;
        ends = of_map is_no_end (wait_of tx (key_of asked.op)) asked.chain (λ m. refl);
        fair = of_map (is_fair tx) (wait_of tx (key_of asked.op)) asked.chain (λ m. refl);
      });
      decides = λ is ready. absurd (not_wished body (Client (TcCommitReq tx)) plain is refl);
      commits = λ epoch is verifying some. absurd (not_open Verifying verifying refl);
      commits_none = λ epoch is verifying. absurd (not_open Verifying verifying refl);
      committed = λ epoch awaited committing more. absurd (not_open (Committing epoch awaited) committing refl);
      committed_all = λ epoch awaited committing. absurd (not_open (Committing epoch awaited) committing refl);
      completed = λ epoch awaited completing more. absurd (not_open (Completing epoch awaited) completing refl);
      completed_all = λ epoch awaited completing last. absurd (not_open (Completing epoch awaited) completing refl);
      rolls_back = λ is undecided unaborted. absurd (not_wished body (Client (TcRollbackReq tx)) plain is refl);
      refuses = λ key why asked is on opened. leaves (asking t None) why
          (fair_cause (is_refusal why) (same_tx tx tx) (same_tx-self tx) (ap (is_fair tx) (sym is) ∙ fair));
      aborted = λ why verifying awaited aborting more. absurd (not_open (Aborting why verifying awaited) aborting refl);
      aborted_all = λ why verifying awaited aborting last. absurd
          (not_open (Aborting why verifying awaited) aborting refl);
    }

  -- one that is aborted so
  module _ (past : is_past t.phase ≡ true) where
    not_past : (phase : Phase) → t.phase ≡ phase → is_past phase ≡ false → ⊥
    not_past phase is off = let both : false ≡ true = sym off ∙ (ap is_past (sym is) ∙ past) in cc

    turns_past : (body : Body) → is_wish body ≡ false → TurnForms node layout tx t body IsLeaving
    turns_past body plain = record {
      stays = record { past = λ off. past; ends = refl };
      goes_on = λ place. record {
        past = λ off. past;
        ends = rest_of_kind is_no_end layout tx (chains tx) node t place (front_past tx t.phase past);
      };
      operates = λ op is can. record { past = λ off. past; ends = refl };
      answers = λ key answer asked is on opened. absurd (not_past Open opened refl);
      late = λ key asked why verifying awaited on aborting. record {
        past = λ off. past;
        ends =
            aborts_of_kind is_no_end layout tx (chains tx) key (chain_of layout key);
      };
      waits = λ asked on. record {
        past = λ off. past;
        ends = of_map is_no_end (wait_of tx (key_of asked.op)) asked.chain (λ m. refl);
      };
      decides = λ is ready. absurd (not_wished body (Client (TcCommitReq tx)) plain is refl);
      commits = λ epoch is verifying some. absurd (not_past Verifying verifying refl);
      commits_none = λ epoch is verifying. absurd (not_past Verifying verifying refl);
      committed = λ epoch awaited committing more. absurd (not_past (Committing epoch awaited) committing refl);
      committed_all = λ epoch awaited committing. absurd (not_past (Committing epoch awaited) committing refl);
      completed = λ epoch awaited completing more. absurd (not_past (Completing epoch awaited) completing refl);
      completed_all = λ epoch awaited completing last. absurd (not_past (Completing epoch awaited) completing refl);
      rolls_back = λ is undecided unaborted. absurd (not_wished body (Client (TcRollbackReq tx)) plain is refl);
      refuses = λ key why asked is on opened. absurd (not_past Open opened refl);
      aborted = λ why verifying awaited aborting more. record {
        past = λ off. ap is_past (sym aborting) ∙ past;
        ends =
            refl;
      };
      aborted_all = λ why verifying awaited aborting last. record {
        past = λ off. cc;
        ends = end_kind why verifying (ap is_past (sym aborting) ∙ past);
      };
    }

-- an open one, where no refusal for another cause comes
pub open_turn : (s : TcState) (tx : TxId) (body : Body) (t : Transaction) → is_wish body ≡ false → tx_in body ≡ tx
    → is_fair tx body ≡ true → t.phase ≡ Open → EarlyTurn tx t (turn_row s body t)
open_turn s tx body t wish same fair at =
    turn_at s tx body t (EarlyTurn tx t) same (turns_open s.node s.layout tx t at body wish fair)

pub past_turn : (s : TcState) (tx : TxId) (body : Body) (t : Transaction) → is_wish body ≡ false → tx_in body ≡ tx
    → is_past t.phase ≡ true → IsLeaving (turn_row s body t)
past_turn s tx body t wish same past =
    turn_at s tx body t IsLeaving same (turns_past s.node s.layout tx t past body wish)
