-- Whoever has an epoch that is closed, and a full coordinator where it is, was decided by then, and is done.
use Rattle.std.proofs.Common.{◌<◌, ◌≡◌, ◌≤◌, ◌⊎◌, ◌∙◌, ◌++◌, ℕ, Bool, true, false, List, [], ◌∷◌, refl, sym, subst, inl}
use Rattle.std.proofs.Common.{inr}
use Rattle.std.proofs.Common.{arith}
use Rattle.std.proofs.lemmas.Bool.{le-leb, true≢false}
use Rattle.std.specs.Prelude.{None, Some}
use Rattle.run_theory.proofs.Pasts.{each_in}
use Rattle.run_theory.specs.Lists.{IsIn, IsPast}
use Rattle.dih_node.specs.declared.dih.Counted.{Counted}
use Rattle.dih_node.specs.State.{is_up_to}
use Rattle.lqh_block.specs.Views.{was_begun_by}
use Rattle.sig_core.proofs.TxLemmas.{same_tx-is}
use Rattle.sig_core.specs.declared.mark.Mark.{Mark}
use Rattle.sig_core.specs.declared.mark.Mark.TheVariants.{Decided}
use Rattle.sig_core.specs.declared.member.Member.{Member}
use Rattle.sig_core.specs.declared.member.TxId.{TxId}
use Rattle.sig_core.specs.Same.{same_tx}
use Rattle.tc_block.specs.Phases.{is_aborting}
use Rattle.world_core.specs.Start.{Start, made}
use Rattle.world_core.specs.Steps.{HostStep}
use Rattle.moment_laws.proofs.MomentMembers.{current_made}
use Rattle.moment_laws.specs.Moments.{IsMoment, current, logs_of}
use Rattle.moment_laws.specs.Places.{tc_of}
use Rattle.outcome_laws.specs.Counts.{coordinator_member}
use Rattle.outcome_laws.specs.Decided.{IsMarked}
use Rattle.request_laws.proofs.phases.GoneWays.{gone_stays}
use Rattle.request_laws.proofs.phases.Stands.{coordinators_stand}
use Rattle.request_laws.specs.Phases.{HasGone, WaitsWith}
use Rattle.request_laws.specs.Ways.{has_gone_back, tells_abort}
use Rattle.request_laws.proofs.routes.ChainsStay.{any_in}
use Rattle.epoch_laws.specs.Alike.{EachFull}
use Rattle.epoch_laws.specs.Members.{epochs_of}
use Rattle.commit_laws.specs.Commits.{IsDone}
use Rattle.commit_laws.specs.Fates.{is_led_by_full}
use Rattle.commit_laws.specs.Going.{is_decided, is_forth, own_live}
use Rattle.commit_laws.proofs.fates.Committed.{decided_at}
use Rattle.commit_laws.proofs.fates.Moves.{begun_by}
use Rattle.commit_laws.proofs.hosts.SomePasses.{Passes, passing}
use Rattle.closing_laws.specs.Closed.{HasEnded}
use Rattle.closing_laws.specs.Ended.{ForgottenAreDone, UncountedAreForgotten, is_counted}
use Rattle.closing_laws.proofs.settled.CountedAreDecided.{counted_are_decided}
use Rattle.closing_laws.proofs.settled.EpochsRise.{decided_by_then}

-- a mark of a part of a log is one of the whole
marked_past : (mark : Mark) (log whole : List HostStep) → IsPast log whole → IsMarked mark log → IsMarked mark whole
marked_past mark log whole past is = subst (IsMarked mark) (sym past.is) (go past.newer)
  where
    go : (newer : List HostStep) → IsMarked mark (newer ++ log)
    go [] = is
    go (e ∷ newer) = inr (go newer)

-- who was given up along a part of a log was so along the whole
back_past : (start : Start) (me : Member) (tx : TxId) (log whole : List HostStep) → IsPast log whole
    → has_gone_back start me tx log ≡ true → has_gone_back start me tx whole ≡ true
back_past start me tx log whole past is =
    subst (λ w. has_gone_back start me tx w ≡ true) (sym past.is) (go past.newer)
  where
    go : (newer : List HostStep) → has_gone_back start me tx (newer ++ log) ≡ true
    go [] = is
    go (e ∷ newer) = gone_stays start me tx is_aborting (tells_abort tx) (newer ++ log) e (go newer)

pub record IsDecidedAndDone (start : Start) (logs : ℕ → List HostStep) (tx : TxId) : Type 0 where
  pub decided : is_decided start logs tx ≡ true
  pub done : IsDone start logs tx

module _ (uncounted : UncountedAreForgotten) (forgotten : ForgottenAreDone) (start : Start) (all : ℕ → List HostStep)
    (begins : start.start_epoch < start.epoch) (es end : List HostStep) (at : IsMoment start all es)
    (last : IsMoment start all end)
    (part : (h : ℕ) → IsPast (logs_of start es h) (logs_of start end h)) (epoch : ℕ)
    (ended : EachFull start (logs_of start es) (HasEnded epoch)) (tx : TxId)
    (led : is_led_by_full start (logs_of start es) tx ≡ true) (given : ℕ)
    (marked : IsMarked (Decided tx given) (logs_of start end (tc_of start (coordinator_member tx))))
    (once : (one other : ℕ) → IsMarked (Decided tx one) (logs_of start end (tc_of start (coordinator_member tx)))
    → IsMarked (Decided tx other) (logs_of start end (tc_of start (coordinator_member tx))) → one ≡ other)
    (low : given ≤ epoch) (forth : is_forth start (logs_of start end) tx ≡ true)
  where
    abbrev me : Member
    me = coordinator_member tx

    abbrev h : ℕ
    h = tc_of start (coordinator_member tx)

    full : IsIn (coordinator_member tx) (current start (logs_of start es)).full
    full =
        let one = passing (was_begun_by tx) (current start (logs_of start es)).full led in
        subst (λ (m : Member). IsIn m (current start (logs_of start es)).full) (begun_by tx one.item one.is)
        one.there

    there : IsIn (coordinator_member tx) (made start)
    there = current_made start all es at me full

    its : HasEnded epoch (epochs_of start (logs_of start es) (coordinator_member tx))
    its =
        each_in (λ (m : Member). HasEnded epoch (epochs_of start (logs_of start es) m)) me
        (current start (logs_of start es)).full ended full

    decided : is_decided start (logs_of start es) tx ≡ true
    decided =
        decided_by_then start all begins es end last me there (part h) tx given marked
        (let later = its.later in omega (arith, later, low))

    -- it isn't counted any more
    uncounted_there : is_counted start (logs_of start es) tx ≡ false
    uncounted_there = by (is_counted start (logs_of start es) tx) refl
      where
        counted : List Counted
        counted = (epochs_of start (logs_of start es) me).counted

        never : Passes (λ (one : Counted). same_tx one.tx tx) (epochs_of start (logs_of start es) me).counted → ⊥
        never one =
            let c = one.item in
            let there_marked =
            each_in (λ (c : Counted). IsMarked (Decided c.tx c.epoch) (logs_of start es h)) c counted
            (counted_are_decided start all me there es at) one.there in
            let is =
            once c.epoch given
            (marked_past (Decided tx c.epoch) (logs_of start es h) (logs_of start end h) (part h)
            (subst (λ t. IsMarked (Decided t c.epoch) (logs_of start es h)) (same_tx-is c.tx tx one.is)
            there_marked))
            marked in
            true≢false
            (sym (any_in (is_up_to epoch) c counted one.there (le-leb c.epoch epoch (omega (arith, is, low))))
            ∙ its.finished)

        by : (b : Bool) → is_counted start (logs_of start es) tx ≡ b → b ≡ false
        by false is = refl
        by true is = absurd (never (passing (λ (one : Counted). same_tx one.tx tx) counted is))

    none : own_live start (logs_of start es) tx ≡ None
    none = uncounted start all es at tx there decided uncounted_there

    -- so it was committed
    forth_there : is_forth start (logs_of start es) tx ≡ true
    forth_there =
        let own = decided_at (logs_of start es h) tx decided in
        by ((coordinators_stand start all es at me there).decided tx own.epoch own.marked).waits
      where
        gone : HasGone start me (logs_of start es h) tx → is_forth start (logs_of start es) tx ≡ true
        gone (inl is) = is
        gone (inr back) =
            absurd (true≢false (sym (back_past start me tx (logs_of start es h) (logs_of start end h) (part h) back)
            ∙ (coordinators_stand start all end last me there).one_way tx forth))

        by : {ops : _} → HasGone start me (logs_of start es h) tx ⊎ WaitsWith start me (logs_of start es h) tx ops
            → is_forth start (logs_of start es) tx ≡ true
        by (inl is) = gone is
        by (inr waits) =
            let both : None ≡ Some waits.transaction = sym none ∙ waits.there in
            absurd cc

    pub done_where_led : IsDecidedAndDone start (logs_of start es) tx
    done_where_led = record { decided = decided; done = forgotten start all es at tx forth_there none }
