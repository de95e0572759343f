-- Whoever is decided, at some later moment, in an epoch that is closed or one before it, has gone forth there, and
-- doesn't abort at the closing, is decided and done at the closing.
use Rattle.std.proofs.Common.{◌<◌, ◌≡◌, ◌≢◌, ◌≤◌, ◌⊎◌, ◌&&◌, ◌∙◌, ℕ, Bool, true, false, List, [], ◌∷◌, eq-eqb, refl}
use Rattle.std.proofs.Common.{◌++◌, sym, ap, subst, inl, inr}
use Rattle.std.proofs.lemmas.Bool.{true≢false}
use Rattle.std.specs.List.{list_any}
use Rattle.run_theory.specs.Lists.{IsIn, IsPast}
use Rattle.frag_map.specs.Layout.{first_layout, members}
use Rattle.lqh_block.specs.Views.{was_begun_by}
use Rattle.sig_core.proofs.Keys.{same_tx-self}
use Rattle.sig_core.specs.declared.entry.Entry.{Entry}
use Rattle.sig_core.specs.declared.mark.Mark.TheVariants.{Closed, Decided}
use Rattle.sig_core.specs.declared.member.TxId.{TxId}
use Rattle.sig_core.specs.declared.view.View.{View}
use Rattle.sig_core.specs.Same.{same_tx}
use Rattle.world_core.proofs.MadeFirst.{made_begins}
use Rattle.world_core.specs.Start.{Start}
use Rattle.world_core.specs.Steps.{HostStep}
use Rattle.moment_laws.specs.Moments.{IsMoment, current, logs_of}
use Rattle.moment_laws.specs.Places.{tc_of}
use Rattle.outcome_laws.proofs.knowledge.CommitsWereDecided.{decided_entry}
use Rattle.outcome_laws.specs.Counts.{coordinator_member}
use Rattle.outcome_laws.specs.Decided.{IsDecided, IsMarked}
use Rattle.request_laws.proofs.routes.ChainsStay.{any_in}
use Rattle.commit_laws.specs.Fates.{aborts, commits, fate, is_led_by_full}
use Rattle.commit_laws.specs.Going.{is_forth}
use Rattle.commit_laws.proofs.fates.Committed.{forth_made}
use Rattle.commit_laws.proofs.fates.Forth.{fate_decided, orphan_commits}
use Rattle.commit_laws.proofs.forth.Grows.{grows}
use Rattle.commit_laws.proofs.led.Entries.{decisions_once, one_entry}
use Rattle.closing_laws.proofs.counted.ForgottenAreDone.{forgotten_are_done}
use Rattle.closing_laws.proofs.counted.OrForgotten.{uncounted_are_forgotten}
use Rattle.closing_laws.proofs.settled.Cuts.{log_past}
use Rattle.closing_laws.proofs.settled.Led.{IsDecidedAndDone, done_where_led}
use Rattle.closing_laws.proofs.takeover.Done.{over_leaves}
use Rattle.closing_laws.specs.Closed.{IsOver}
use Rattle.closing_laws.specs.Over.{LeavesNone}
use Rattle.saved_laws.proofs.settled.ClosingViews.{closer_made, closing}

-- a transaction is decided in one epoch
one_epoch : (start : Start) (all : ℕ → List HostStep) (es : List HostStep) → IsMoment start all es → (tx : TxId)
    → (one other : ℕ) → IsMarked (Decided tx one) (logs_of start es (tc_of start (coordinator_member tx)))
    → IsMarked (Decided tx other) (logs_of start es (tc_of start (coordinator_member tx))) → one ≡ other
one_epoch start all es moment tx one other marked also =
    let h = tc_of start (coordinator_member tx) in
    let a = decided_entry start tx one h es marked in
    let b = decided_entry start tx other h es also in
    let same =
    one_entry _ a.entry b.entry (decisions_once start all es moment) a.there b.there
    (ap (λ (t : TxId). same_tx t b.entry.tx) (a.tx_is ∙ sym b.tx_is) ∙ same_tx-self b.entry.tx) in
    sym a.epoch_is ∙ (ap (λ (z : Entry). z.epoch) same ∙ b.epoch_is)

-- who is decided at a moment is so at each later one
pub decided_past : (start : Start) (tx : TxId) (given : ℕ) (es later : List HostStep) → IsPast es later
    → IsDecided start (logs_of start es) tx given → IsDecided start (logs_of start later) tx given
decided_past start tx given es later past decided =
    subst (λ xs. IsDecided start (logs_of start xs) tx given) (sym past.is) (go past.newer)
  where
    go : (newer : List HostStep) → IsDecided start (logs_of start (newer ++ es)) tx given
    go [] = decided
    go (e ∷ newer) =
        grows start e (newer ++ es) (IsMarked (Decided tx given)) (tc_of start (coordinator_member tx))
        (λ log was. inr was) (go newer)

module _ (start : Start) (all : ℕ → List HostStep) (e : HostStep) (es : List HostStep)
    (begins : start.start_epoch < start.epoch) (moment : IsMoment start all (e ∷ es)) (epoch : ℕ)
    (marked : IsIn (Closed epoch) e.step.marks) (end : List HostStep) (last : IsMoment start all end)
    (past : IsPast (e ∷ es) end) (tx : TxId) (given : ℕ) (decided : IsDecided start (logs_of start end) tx given)
    (low : given ≤ epoch) (forth : is_forth start (logs_of start end) tx ≡ true)
    (kept : fate start (logs_of start (e ∷ es)) tx ≢ aborts)
  where
    abbrev here : ℕ → List HostStep
    here = logs_of start (e ∷ es)

    part : (h : ℕ) → IsPast (logs_of start (e ∷ es) h) (logs_of start end h)
    part h =
        subst (λ xs. IsPast (logs_of start (e ∷ es) h) (logs_of start xs h)) (sym past.is)
        (log_past start h past.newer (e ∷ es))

    -- in the first view all are full
    not_first : is_led_by_full start (logs_of start (e ∷ es)) tx ≡ false
        → current start (logs_of start (e ∷ es)) ≡ (first_layout start.shape).view → ⊥
    not_first gone same =
        true≢false (sym (ap (λ (v : View). list_any (was_begun_by tx) v.full) same
        ∙ any_in (was_begun_by tx) (coordinator_member tx) (members start.shape.nodes)
        (made_begins start moment.cluster.nobody (coordinator_member tx) (forth_made start all end last tx forth))
        (λ i. eq-eqb tx.tc tx.tc refl i && eq-eqb tx.start tx.start refl i)) ∙ gone)

    none : is_led_by_full start (logs_of start (e ∷ es)) tx ≡ false → LeavesNone start (logs_of start (e ∷ es))
    none gone = by (closing start all e es begins moment epoch marked).is.over
      where
        by : (current start (logs_of start (e ∷ es)) ≡ (first_layout start.shape).view)
            ⊎ IsOver start (logs_of start (e ∷ es)) (closing start all e es begins moment epoch marked).member
            → LeavesNone start (logs_of start (e ∷ es))
        by (inl first) = absurd (not_first gone first)
        by (inr over) =
            over_leaves start all (e ∷ es) moment (closing start all e es begins moment epoch marked).member
            (closer_made start all e es begins moment epoch marked) over

    pub done_there : IsDecidedAndDone start (logs_of start (e ∷ es)) tx
    done_there = by (is_led_by_full start here tx) refl
      where
        by : (b : Bool) → is_led_by_full start (logs_of start (e ∷ es)) tx ≡ b
            → IsDecidedAndDone start (logs_of start (e ∷ es)) tx
        by true led =
            done_where_led uncounted_are_forgotten forgotten_are_done start all begins (e ∷ es) end moment last part
            epoch (closing start all e es begins moment epoch marked).is.ended tx led given decided
            (one_epoch start all end last tx) low forth
        by false gone =
            let is : fate start here tx ≡ commits = orphan_commits start all (e ∷ es) moment tx gone kept in
            record {
              decided = fate_decided start all (e ∷ es) moment tx is;
              done = (none gone).done tx gone is;
            }
