-- An open transaction that has nothing unanswered misses neither an operation nor its commit.
use Rattle.std.proofs.Common.{◌≡◌, ◌+◌, ◌≤◌, ◌<◌, List, [], ◌∷◌, length, Bool, true, false, refl, ap, sym, ◌∙◌}
use Rattle.std.proofs.Common.{arith}
use Rattle.std.specs.Prelude.{◌&&◌, ◌||◌, nat_lt, is_some, if◌then◌else◌, Option, None, Some}
use Rattle.std.proofs.lemmas.Bool.{false≢true}
use Rattle.std.proofs.lemmas.Bool.Decides.{nat_tests}
use Rattle.api_block.specs.declared.opened.OpenTransaction.{OpenTransaction}
use Rattle.api_block.specs.Opened.{has_tx}
use Rattle.api_block.specs.State.{ApiState}
use Rattle.node_core.specs.Row.{shell_row}
use Rattle.sig_core.specs.declared.member.TxId.{TxId}
use Rattle.sig_core.specs.declared.place.BlockId.{BlockId}
use Rattle.sig_core.specs.declared.place.BlockId.TheVariants as block
use Rattle.sig_core.specs.declared.place.Place.{Place}
use Rattle.sig_core.specs.declared.signal.Body.{Body}
use Rattle.sig_core.specs.declared.signal.Signal.{Signal}
use Rattle.sig_core.specs.declared.signal.Body.TheVariants.{Client}
use Rattle.sig_core.specs.declared.signal.client.ClientSignal.TheVariants.{TcKeyReq, TcCommitReq}
use Rattle.sig_core.specs.Op.{key_of}
use Rattle.sig_core.specs.Step.{stay}
use Rattle.tc_block.specs.declared.touched.TheConstants.{KEYS}
use Rattle.tc_block.specs.declared.phase.Asked.{Asked}
use Rattle.tc_block.specs.declared.phase.Phase.TheVariants.{Open}
use Rattle.tc_block.specs.declared.transaction.Transaction.{Transaction}
use Rattle.tc_block.specs.Operate.{can_operate, is_ready}
use Rattle.tc_block.specs.Touched.{fits, place_of}
use Rattle.answer_laws.proofs.ApiEntries.{is_commit_req, of_opened}
use Rattle.answer_laws.proofs.OpenTurns.{commit_body}
use Rattle.run_theory.specs.Counts.{one_if, tally}
use Rattle.host_laws.proofs.coordinator.Keys.{key_of_tx}
use Rattle.host_laws.proofs.coordinator.Moves.{same_tx-is}
use Rattle.tc_block.proofs.EachTurn.{IsMissed}
use Rattle.tc_block.proofs.TurnRows.{tx_in, is_turn}
use Rattle.host_laws.proofs.api.Wishes.{is_api, is_tc}

pub some_held : (tx : TxId) (opened : List OpenTransaction) (t : OpenTransaction) → of_opened tx opened ≡ Some t
    → 1 ≤ tally (has_tx tx) opened
some_held tx [] t there = absurd cc
some_held tx (x ∷ opened) t there = go (has_tx tx x) refl there (some_held tx opened t)
  where
    go : (b : Bool) → has_tx tx x ≡ b → (if b then Some x else of_opened tx opened) ≡ Some t
        → (of_opened tx opened ≡ Some t → 1 ≤ tally (has_tx tx) opened)
        → 1 ≤ one_if (has_tx tx x) + tally (has_tx tx) opened
    go true is there rest = omega (arith, ap one_if is)
    go false is there rest = omega (arith, rest there)

pub api_is : (at : BlockId) → is_api at ≡ true → at ≡ block.Api
api_is block.Api e = refl
api_is _ e = cc

pub shell_stays : (s : ApiState) (at : BlockId) (x : Signal) → is_api at ≡ false → shell_row s at x ≡ stay s
unfolding shell_row
shell_stays s block.Api x e = cc
shell_stays s _ x e = refl

pub commit_at : (tx : TxId) (to : Place) (body : Body)
    → is_commit_req tx to body ≡ (is_tc to.block && commit_body tx body)
commit_at tx to (Client (TcCommitReq other)) = refl
commit_at tx to _ = by (is_tc to.block)
  where
    by : (b : Bool) → false ≡ (b && false)
    by true = refl
    by false = refl

pub key_turn : (tx : TxId) (body : Body) → key_of_tx tx body ≡ true → (is_turn body ≡ true) × (tx_in body ≡ tx)
key_turn tx (Client (TcKeyReq other op)) e = (refl, same_tx-is other tx e)
key_turn tx _ e = cc

pub commit_turn : (tx : TxId) (body : Body) → commit_body tx body ≡ true → (is_turn body ≡ true) × (tx_in body ≡ tx)
commit_turn tx (Client (TcCommitReq other)) e = (refl, same_tx-is other tx e)
commit_turn tx _ e = cc

-- an open transaction that has nothing unanswered misses neither
pub none_asked : (o : Option Asked) → one_if (is_some o) ≡ 0 → o ≡ None
none_asked None e = refl
none_asked (Some a) e = absurd (omega (arith, e))

pub ready : (t : Transaction) → t.phase ≡ Open → t.asked ≡ None → is_ready t.phase t.asked ≡ true
ready t p q = ap (λ x. is_ready x t.asked) p ∙ ap (is_ready Open) q

pub missed_key : (tx : TxId) (t : Transaction) (body : Body) → IsMissed t body → key_of_tx tx body ≡ true
    → t.phase ≡ Open → t.asked ≡ None → length t.touched < KEYS → ⊥
missed_key tx t (Client (TcKeyReq other op)) missed e p q low = false≢true (sym missed ∙ can)
  where
    room : nat_lt (length t.touched) KEYS ≡ true
    room = grind (arith, nat_tests, low)

    can : can_operate t op ≡ true
    can = ap (λ b. b && fits t.touched (key_of op)) (ready t p q)
        ∙ (ap (λ b. is_some (place_of t.touched (key_of op)) || b) room ∙ either
        (is_some (place_of t.touched (key_of op))))
      where
        either : (b : Bool) → (b || true) ≡ true
        either true = refl
        either false = refl
missed_key tx t _ missed e p q low = false≢true e

pub missed_commit : (tx : TxId) (t : Transaction) (body : Body) → IsMissed t body → commit_body tx body ≡ true
    → t.phase ≡ Open → t.asked ≡ None → ⊥
missed_commit tx t (Client (TcCommitReq other)) missed e p q = false≢true (sym missed ∙ ready t p q)
missed_commit tx t _ missed e p q = false≢true e
