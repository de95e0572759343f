-- The rows of a node do in calm what the plain ones do: the coordinators of all transactions are there.
use Rattle.std.proofs.Common.{◌≡◌, ◌∙◌, ◌≤◌, ◌<◌, ◌⊎◌, ℕ, zero, suc, ◌+◌, true, false, not, nat_eq, nat_lt, List, []}
use Rattle.std.proofs.Common.{◌∷◌, ◌++◌, arith, refl, sym, ap, subst, inl, inr}
use Rattle.std.specs.List.{list_any}
use Rattle.std.proofs.lemmas.Bool.{and_from, cases_lt, eq-eqb, false≢true, or_from}
use Rattle.frag_map.specs.Layout.{Layout, first_number, members}
use Rattle.key_laws.proofs.LockHolding.{any_last, any_longer}
use Rattle.lqh_block.specs.Lqh.{lqh_row, lqh_table}
use Rattle.lqh_block.specs.State.{LqhState}
use Rattle.lqh_block.specs.Views.{is_coordinated, was_begun_by}
use Rattle.lqh_block.specs.declared.request.Request.{Request}
use Rattle.lqh_block.proofs.EachLqh.{RequestSends, RowsMark, RowsSend, lqh_marks_each, lqh_sends_each}
use Rattle.lqh_saver.specs.Saver.{idling, passed, saver_by, saver_row}
use Rattle.lqh_saver.specs.State.{SavingState, saving}
use Rattle.lqh_views.specs.Laws.{IsCalm, beside, is_of_rows_by}
use Rattle.lqh_views.specs.Replica.{replica_row}
use Rattle.lqh_views.specs.State.{ReplicaState}
use Rattle.lqh_views.proofs.LawLemmas.{calm_steps}
use Rattle.lqh_views.proofs.ListsKept.{lists_kept}
use Rattle.node_core.specs.declared.host.Host.TheVariants as plain_host
use Rattle.node_core.specs.Row as plain_row
use Rattle.node_views.specs.Blocks.{in_ldm}
use Rattle.node_views.specs.Parts.{in_saving, raised}
use Rattle.node_views.specs.Row.{is_stop}
use Rattle.node_views.specs.declared.ldm_part.LdmPart.{LdmPart}
use Rattle.node_views.specs.declared.parts.Parts.TheVariants.{Ldm}
use Rattle.run_theory.specs.Lists.{Each}
use Rattle.sig_core.specs.declared.mark.Mark.{Mark}
use Rattle.sig_core.specs.declared.member.TxId.{TxId}
use Rattle.sig_core.specs.declared.signal.Body.{Body}
use Rattle.sig_core.specs.declared.signal.Body.TheVariants.{Host, Chain, Checkpoint, Epoch, Membership, Takeover}
use Rattle.sig_core.specs.declared.signal.Signal.{Signal}
use Rattle.sig_core.specs.declared.signal.chain.ChainSignal.TheVariants.{Abort, Commit, Complete}
use Rattle.sig_core.specs.declared.signal.checkpoint.CheckpointSignal.TheVariants.{LcpFragOrd, LcpSwitch}
use Rattle.sig_core.specs.declared.signal.epoch.EpochSignal.TheVariants.{GcpClosed, GcpDone, GcpSaveReq, GcpStateReq}
use Rattle.sig_core.specs.declared.signal.host.HostSignal.TheVariants.{Continue}
use Rattle.sig_core.specs.declared.signal.host.Work.TheVariants as work
use Rattle.sig_core.specs.declared.signal.membership.MembershipSignal.TheVariants.{FenceReq}
use Rattle.sig_core.specs.declared.signal.takeover.TakeoverSignal.TheVariants.{LqhTransReq}
use Rattle.sig_core.specs.declared.view.View.{View}
use Rattle.sig_core.specs.Step.{Step}
use Rattle.world_core.specs.Start.{Start}
use Rattle.world_views.specs.Machine.{stops_by}
use Rattle.calm_laws.specs.Alike.{ArePartsAlike, first}
use Rattle.calm_laws.specs.Calm.{is_for_rows}
use Rattle.calm_laws.specs.Known.{IsOfFirst, txs_in}
use Rattle.calm_laws.specs.Steps.{IsPlainSend}
use Rattle.calm_laws.proofs.plain_steps.PartsAlike.{PartsAlike}

-- the coordinator of a member that began the life is a full member of the first view
begun_by_one : (tx : TxId) (n : ℕ) → 1 ≤ tx.tc → tx.tc ≤ n → tx.start ≡ 0
    → list_any (was_begun_by tx) (members n) ≡ true
begun_by_one tx zero some low begun = absurd (omega (arith, some, low))
begun_by_one tx (suc n) some low begun = by (λ below. begun_by_one tx n some below begun) (cases_lt n tx.tc)
  where
    by : (tx.tc ≤ n → list_any (was_begun_by tx) (members n) ≡ true) → (n < tx.tc) ⊎ (tx.tc ≤ n)
        → list_any (was_begun_by tx) (members n ++ record { node = n + 1; start = 0 } ∷ []) ≡ true
    by before (inl above) =
        let node : n + 1 ≡ tx.tc = omega (arith, above, low) in
        any_last (was_begun_by tx) (members n) _
        (and_from (nat_eq (n + 1) tx.tc) (nat_eq 0 tx.start) (eq-eqb (n + 1) tx.tc node)
        (eq-eqb 0 tx.start (sym begun)))
    by before (inr below) = any_longer (was_begun_by tx) (members n) _ (before below)

coordinated : (start : Start) (view : View) (tx : TxId) → view ≡ first start → IsOfFirst start tx
    → is_coordinated view.full tx ≡ true
coordinated start view tx is known =
    ap (λ (v : View). is_coordinated v.full tx) is ∙ begun_by_one tx start.shape.nodes known.some known.low known.first

-- so whoever is told of the end of its part is one
module _ (start : Start) (view : View) (is_first : view ≡ first start) (body : Body)
    (known : Each (IsOfFirst start) (txs_in body)) where
  request_calm : (r : Request) → RequestSends (IsCalm view) r
  request_calm r = record {
    log_full = λ used reserved need. tt;
    table_full = λ rows. tt;
    answers = λ a. tt;
    passes = λ image next is. tt;
  }

  owner : (tx : TxId) (one : Body) → body ≡ one → (Each (IsOfFirst start) (txs_in one) → IsOfFirst start tx)
      → is_coordinated view.full tx ≡ true
  owner tx one is first_of =
      coordinated start view tx is_first (first_of (subst (λ b. Each (IsOfFirst start) (txs_in b)) is known))

  rows_calm : (s : LqhState) → RowsSend (IsCalm view) s body
  rows_calm s = record {
    asked = λ r is. request_calm r;
    waited = λ at r is. request_calm r;
    grants_more = tt;
    expires_more = tt;
    commits_on = λ tx key epoch chain at is behind. tt;
    committed = λ tx key epoch chain at is first. owner tx (Chain (Commit tx key epoch chain at)) is (λ all. all.0);
    completes_on = λ tx key chain at is behind. tt;
    completed = λ tx key chain at is first. owner tx (Chain (Complete tx key chain at)) is (λ all. all.0);
    aborted = λ tx key is. owner tx (Chain (Abort tx key)) is (λ all. all.0);
    gives_up = λ tx key is. tt;
    times_out = λ tx key. tt;
    waits = λ tx key ahead is there. tt;
    dumps = λ at rows next is. tt;
  }

-- the rows send to the parts of nodes, and to the client
request_plain : (h : ℕ) (r : Request) → RequestSends (IsPlainSend (suc h)) r
request_plain h r = record {
  log_full = λ used reserved need. record { place = inl refl; work = refl };
  table_full = λ rows. record { place = inl refl; work = refl };
  answers = λ a. record { place = inl refl; work = refl };
  passes = λ image next is. record { place = inl refl; work = refl };
}

rows_plain : (h : ℕ) (s : LqhState) (body : Body) → RowsSend (IsPlainSend (suc h)) s body
rows_plain h s body = record {
  asked = λ r is. request_plain h r;
  waited = λ at r is. request_plain h r;
  grants_more = record { place = inl refl; work = refl };
  expires_more = record { place = inl refl; work = refl };
  commits_on = λ tx key epoch chain at is behind. record { place = inl refl; work = refl };
  committed = λ tx key epoch chain at is first. record { place = inl refl; work = refl };
  completes_on = λ tx key chain at is behind. record { place = inl refl; work = refl };
  completed = λ tx key chain at is first. record { place = inl refl; work = refl };
  aborted = λ tx key is. record { place = inl refl; work = refl };
  gives_up = λ tx key is. record { place = inl refl; work = refl };
  times_out = λ tx key. record { place = inl refl; work = refl };
  waits = λ tx key ahead is there. record { place = inl refl; work = refl };
  dumps = λ at rows next is. record { place = inr refl; work = refl };
}

-- and none of their marks stops the host
abbrev GoesOn : Mark → Type 0
GoesOn mark = is_stop mark ≡ false

rows_mark : (s : LqhState) (body : Body) → RowsMark GoesOn s body
rows_mark s body = record {
  prepared = λ tx key. refl;
  applied = λ tx key epoch chain at committed is first there. refl;
  completed = λ tx key chain at is. refl;
  given_up = λ tx key is there. refl;
  expired = λ tx key. refl;
}

-- where no mark is a stop, none stops
pub none_stops : (marks : List Mark) → Each GoesOn marks → stops_by marks ≡ false
none_stops [] all = refl
none_stops (mark ∷ marks) all = or_from (is_stop mark) (stops_by marks) all.0 (none_stops marks all.1)

-- a signal of the rows in calm is about no fence, no report and no epoch, and is of no older view
of_rows : (s : ReplicaState) (x : Signal) → x.view.number ≡ first_number → s.lqh.layout.view.number ≡ first_number
    → (body : Body) → is_for_rows body ≡ true → is_of_rows_by s x body ≡ true
of_rows s x view own (Membership (FenceReq proposal)) is = absurd (false≢true is)
of_rows s x view own (Takeover LqhTransReq) is = absurd (false≢true is)
of_rows s x view own (Host (Continue work.Report at)) is = absurd (false≢true is)
of_rows s x view own (Host (Continue work.Granted at)) is =
    ap (λ n. not (nat_lt n s.lqh.layout.view.number)) view ∙ ap (λ n. not (nat_lt first_number n)) own
of_rows s x view own (Host (Continue work.Expired at)) is =
    ap (λ n. not (nat_lt n s.lqh.layout.view.number)) view ∙ ap (λ n. not (nat_lt first_number n)) own
of_rows s x view own (Epoch (GcpClosed epoch)) is = absurd (false≢true is)
of_rows s x view own (Epoch (GcpSaveReq epoch)) is = absurd (false≢true is)
of_rows s x view own (Epoch GcpStateReq) is = absurd (false≢true is)
of_rows s x view own body is = refl

-- nor of a local checkpoint, and tells of no durable epoch: the rows take it themselves
of_saver : (s : SavingState) (x : Signal) (body : Body) → is_for_rows body ≡ true → saver_by s x body ≡ passed s x
of_saver s x (Checkpoint LcpFragOrd) is = absurd (false≢true is)
of_saver s x (Checkpoint LcpSwitch) is = absurd (false≢true is)
of_saver s x (Host (Continue work.Walk at)) is = absurd (false≢true is)
of_saver s x (Epoch (GcpDone epoch)) is = absurd (false≢true is)
of_saver s x body is = refl

not_raised : (fence : ℕ) (body : Body) → is_for_rows body ≡ true → raised fence body ≡ fence
not_raised fence (Membership (FenceReq proposal)) is = absurd (false≢true is)
not_raised fence body is = refl

-- the layout stays
some_tx : TxId
some_tx = record { tc = 0; start = 0; seq = 0 }

same_view : (s : LqhState) (body : Body) → (lqh_table s body).state.layout.view ≡ s.layout.view
same_view s body = ap (λ (layout : Layout). layout.view) (lists_kept some_tx [] s body).2

module _ (start : Start) (h : ℕ) (p : LdmPart) (x : Signal) where
  abbrev saved : Step SavingState
  saved = saver_row (saving p.replica p.saver) x

  rows_alone : p.replica.lqh.layout.view ≡ first start → x.view.number ≡ first_number
      → Each (IsOfFirst start) (txs_in x.body) → is_for_rows x.body ≡ true
      → replica_row p.replica x ≡ beside p.replica (lqh_row p.replica.lqh x)
  rows_alone own view known is =
      calm_steps p.replica x
      (of_rows p.replica x view (ap (λ (v : View). v.number) own) x.body is)
      (lqh_sends_each (IsCalm p.replica.lqh.layout.view) p.replica.lqh x.body
      (rows_calm start p.replica.lqh.layout.view own x.body known p.replica.lqh))

  -- with whatever their saver notices
  rows_step : p.replica.lqh.layout.view ≡ first start → p.fence ≡ first_number → x.view.number ≡ first_number
      → Each (IsOfFirst start) (txs_in x.body) → is_for_rows x.body ≡ true
      → PartsAlike start h (in_ldm (in_saving p x.body (passed (idling (saving p.replica p.saver)) x)))
      (plain_row.in_ldm (lqh_row p.replica.lqh x))
  rows_step own fence view known is = record {
    marks = ap (λ (step : Step ReplicaState). step.effects.marks) same;
    sends = ap (λ (step : Step ReplicaState). step.effects.sends) same;
    plain = lqh_sends_each (IsPlainSend (suc h)) p.replica.lqh x.body (rows_plain h p.replica.lqh x.body);
    goes_on = none_stops (lqh_row p.replica.lqh x).effects.marks
        (lqh_marks_each GoesOn p.replica.lqh x.body (rows_mark p.replica.lqh x.body));
    alike = (
      ap (λ (step : Step ReplicaState). step.state.lqh) same,
      (same_view p.replica.lqh x.body ∙ own, not_raised p.fence x.body is ∙ fence),
    );
  }
    where
      same : replica_row p.replica x ≡ beside p.replica (lqh_row p.replica.lqh x)
      same = rows_alone own view known is

  pub row_step : (s : LqhState) → ArePartsAlike start [] (Ldm p) (plain_host.Ldm s) → x.view.number ≡ first_number
      → Each (IsOfFirst start) (txs_in x.body) → is_for_rows x.body ≡ true
      → PartsAlike start h (in_ldm (in_saving p x.body saved)) (plain_row.in_ldm (lqh_row s x))
  row_step s alike view known is =
      subst (λ (t : Step SavingState). PartsAlike start h (in_ldm (in_saving p x.body t))
      (plain_row.in_ldm (lqh_row s x)))
      (sym (of_saver (idling (saving p.replica p.saver)) x x.body is))
      (subst (λ (s : LqhState).
      PartsAlike start h (in_ldm (in_saving p x.body (passed (idling (saving p.replica p.saver)) x)))
      (plain_row.in_ldm (lqh_row s x))) alike.0
      (rows_step (ap (λ (l : LqhState). l.layout.view) alike.0 ∙ alike.1.0) alike.1.1 view known is))
