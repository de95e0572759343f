-- Where a coordinator confirms a commit to its client, or completes a key, each key that the transaction wrote has been
-- committed in the view in which its host stands.
use Rattle.std.proofs.Common.{◌≡◌, ◌≤◌, ◌⊎◌, ◌==◌, ◌&&◌, ◌∙◌, ℕ, Bool, true, false, List, [], ◌∷◌, inl, inr, refl, sym}
use Rattle.std.proofs.Common.{ap, arith, subst}
use Rattle.std.proofs.lemmas.Bool.{eq-eqb, eqb-true, true≢false}
use Rattle.std.specs.Prelude.{Some}
use Rattle.run_theory.specs.Lists.{Each, IsIn}
use Rattle.run_theory.proofs.Pasts.{each_append, each_from, each_in, each_map}
use Rattle.commit_laws.proofs.hosts.PartEach.{part_each_by}
use Rattle.host_laws.proofs.coordinator.OfLive.{each_found}
use Rattle.sig_core.specs.declared.mark.Mark.TheVariants.{Decided}
use Rattle.sig_core.specs.declared.member.Member.{Member}
use Rattle.sig_core.specs.declared.member.TxId.{TxId}
use Rattle.sig_core.specs.declared.op.Answer.{Answer}
use Rattle.sig_core.specs.declared.op.Op.{Op}
use Rattle.sig_core.specs.declared.outs.Outgoing.{Outgoing}
use Rattle.sig_core.specs.declared.place.BlockId.{BlockId}
use Rattle.sig_core.specs.declared.place.BlockId.TheVariants as block
use Rattle.sig_core.specs.declared.signal.Body.{Body}
use Rattle.sig_core.specs.declared.signal.Body.TheVariants.{Chain, Client}
use Rattle.sig_core.specs.declared.signal.Signal.{Signal}
use Rattle.sig_core.specs.declared.signal.chain.ChainSignal.TheVariants.{Complete}
use Rattle.sig_core.specs.declared.signal.client.ClientSignal.TheVariants.{TcCommitConf, TcKeyFailConf}
use Rattle.sig_core.specs.declared.view.View.{View}
use Rattle.sig_core.proofs.Keys.{same_tx-self}
use Rattle.frag_map.specs.Layout.{Layout}
use Rattle.tc_block.specs.Complete.{one_if, written_count}
use Rattle.tc_block.specs.declared.phase.Phase.{Phase}
use Rattle.tc_block.specs.declared.phase.Phase.TheVariants.{Aborting, Committing, Completing, Open, Verifying}
use Rattle.tc_block.specs.declared.touched.Touched.{Touched}
use Rattle.tc_block.specs.declared.transaction.Transaction.{Transaction}
use Rattle.tc_block.specs.Phases.{is_decided as is_in_commit}
use Rattle.tc_views.specs.Coordinator.{coordinator_row}
use Rattle.tc_views.specs.State.{CoordinatorState}
use Rattle.tc_views.specs.Views as coordinators
use Rattle.dih_node.specs.Orders as epochs
use Rattle.node_views.specs.declared.parts.Parts.TheVariants as part
use Rattle.node_views.specs.declared.tc_part.TcPart.{TcPart}
use Rattle.node_views.specs.Parts.{tc_row}
use Rattle.node_views.specs.WellFormed.{is_well_formed}
use Rattle.run_laws.specs.Keyed.{IsTouchedRightly, IsWrittenRightly}
use Rattle.world_core.specs.Entries.{ops_of}
use Rattle.world_core.specs.Marks.{has_mark}
use Rattle.world_core.specs.Start.{Start, made}
use Rattle.world_core.specs.Steps.{HostStep}
use Rattle.world_views.specs.Machine.{step_after}
use Rattle.view_laws.specs.Runs.{view_after}
use Rattle.view_laws.proofs.words.Coordinator.{AreOfCoordinator, coordinator_kinds}
use Rattle.view_laws.proofs.words.Sent.{IsOf}
use Rattle.view_laws.proofs.words.Turns.{is_of_coordinator}
use Rattle.moment_laws.specs.Moments.{IsMoment, logs_of}
use Rattle.moment_laws.specs.Parts.{IsPassed}
use Rattle.moment_laws.specs.PartSteps.{tc_kind}
use Rattle.moment_laws.specs.Places.{tc_of}
use Rattle.moment_laws.proofs.MomentTurns.{own_log}
use Rattle.moment_laws.proofs.MomentViews.{moment_less}
use Rattle.outcome_laws.specs.Counts.{IsCoordinatorOf, coordinator_member, is_decision}
use Rattle.outcome_laws.specs.Decided.{IsMarked}
use Rattle.request_laws.specs.Blocks.{coordinator_after}
use Rattle.request_laws.specs.Phases.{CoordinatorStands, HasGone, IsGivenWith, SaysIn, SaysOf, WaitsWith}
use Rattle.request_laws.specs.Routed.{layout_in}
use Rattle.request_laws.specs.Ways.{entry_of}
use Rattle.request_laws.proofs.phases.HeardFromItself.{heard_at}
use Rattle.request_laws.proofs.phases.Stands.{coordinators_stand}
use Rattle.request_laws.proofs.phases.ToldByHosts.{Heard}
use Rattle.request_laws.proofs.phases.Steps.{is_about, is_held_back}
use Rattle.request_laws.proofs.routes.PartSteps.{TcStep, coordinator_is}
use Rattle.commit_laws.specs.Answered.{AllWereCommittedIn, IsAnswered}
use Rattle.commit_laws.specs.Going.{decided_ops, is_decided, is_written_by}
use Rattle.commit_laws.proofs.answered.Coordinator.{completes_answered}
use Rattle.commit_laws.proofs.answered.Written.{Has, written_touched}
use Rattle.commit_laws.proofs.forth.DecidedStay.{decided_so, ops_same}
use Rattle.commit_laws.proofs.drive.Foreign.{between_of, step}
use Rattle.commit_laws.proofs.drive.Kinds.{comes, committing, goes}
use Rattle.commit_laws.proofs.drive.Lists.{any, mine, onward}
use Rattle.commit_laws.proofs.drive.Own.{IsDriven, between_entry, driven, known, number_at, sent_in, taken_in}
use Rattle.commit_laws.proofs.drive.States.{Counts, Knows, Untouched, is_counted}
use Rattle.commit_laws.proofs.commits.EndTurns.{EndStep, HasEpoch, LeadsOn, before, by_going, by_key, by_now}
use Rattle.commit_laws.proofs.commits.EndTurns.{completing, end_step, is_end, unwritten}
use Rattle.commit_laws.proofs.forth.Coordinator.{coordinator_installs_speak}
use Rattle.commit_laws.proofs.forth.Epochs.{dih_installs_speak, dih_speaks}
use Rattle.commit_laws.proofs.forth.Speaks.{Anyone, AreSpoken, Speaks}

-- a key that was written is counted
pub counted_written : (touched : List Touched) (u : Touched) → IsIn u touched → u.written ≡ true
    → (written_count touched == 0) ≡ true → ⊥
counted_written touched u there is none =
    let nothing = eqb-true (written_count touched) 0 none in omega (arith, nothing, some touched there)
  where
    some : (touched : List Touched) → IsIn u touched → 1 ≤ written_count touched
    some [] there = absurd there
    some (v ∷ touched) (inl same) =
        let first : one_if v.written ≡ 1 = ap one_if (ap (λ (w : Touched). w.written) (sym same) ∙ is) in
        omega (arith, first)
    some (v ∷ touched) (inr there) = omega (arith, some touched there)

module _ (start : Start) (all : ℕ → List HostStep) (e : HostStep) (es : List HostStep)
    (moment : IsMoment start all (e ∷ es)) (member : Member) (there : IsIn member (made start))
    (at : e.host ≡ tc_of start member)
  where
    abbrev old : ℕ → List HostStep
    old = logs_of start es

    abbrev new : ℕ → List HostStep
    new = logs_of start (e ∷ es)

    -- the log of its host before the event
    abbrev own : List HostStep
    own = logs_of start es (tc_of start member)

    abbrev x : Signal
    x = e.step.taken

    abbrev view : View
    view = view_after start e.host (e ∷ logs_of start es e.host)

    abbrev layout : Layout
    layout = layout_in start view

    abbrev number : ℕ
    number = (view_after start e.host (e ∷ logs_of start es e.host)).number

    abbrev tc : TcStep start e.host (logs_of start es e.host) e
    tc = step start all e es moment member there at

    abbrev between : TcPart
    between = tc.does.between

    abbrev IsTold : Body → Type 0
    IsTold body = IsAnswered start (logs_of start (e ∷ es)) number body

    abbrev AreTold : List Outgoing → Type 0
    AreTold sends = Each (λ (o : Outgoing). IsAnswered start (logs_of start (e ∷ es)) number o.body) sends

    stood : CoordinatorStands start member old
    stood = coordinators_stand start all es (moment_less start all e es moment) member there

    stands : CoordinatorStands start member new
    stands = coordinators_stand start all (e ∷ es) moment member there

    new_log : new (tc_of start member) ≡ e ∷ old e.host
    new_log = subst (λ k. new k ≡ e ∷ old e.host) at (own_log start all e es moment)

    module _ (tx : TxId) (is_own : coordinator_member tx ≡ member) where
      -- what its host has sent in the view in which it stands
      abbrev SentBy : ℕ → List HostStep → Counts
      SentBy h log = sent_in start member tx h (number_at start member tx h log) log

      was_driven : IsDriven start member tx e.host (old e.host)
      was_driven =
          subst (λ h. IsDriven start member tx h (logs_of start es h)) (sym at)
          (driven start member there tx is_own all es (moment_less start all e es moment))

      -- who takes such a signal has driven the transaction in that view
      module _ (passed : IsPassed start.shape (part.Tc between) view x) (to : x.to.block ≡ block.Tc) where
        has_driven : is_held_back between.coordinator x.view.number x.body ≡ false → LeadsOn tx x.body
            → Untouched tx (SentBy e.host (e ∷ old e.host)) → ⊥
        has_driven free leads un = by leads
          where
            knows : Knows tx layout (sent_in start member tx e.host number (old e.host))
                (taken_in start member tx e.host number (old e.host))
                (taken_in start member tx e.host number (e ∷ old e.host)) x.body
            knows = known start member there tx is_own all e es moment at was_driven passed to free

            sent_more : (p : Body → Bool)
                → sent_in start member tx e.host number (old e.host) p
                ≤ sent_in start member tx e.host number (e ∷ old e.host) p
            sent_more p = omega arith

            by : LeadsOn tx x.body → ⊥
            by (by_key key is) =
                omega (
                  arith,
                  knows.takes_one (ap (is_counted tx layout) is) (comes committing (mine tx any))
                      (ap (comes committing (mine tx any)) is ∙ ap (λ b. b && true) (same_tx-self tx)),
                  knows.comes_back committing,
                  sent_more (goes committing (mine tx any)),
                  un.keys committing any,
                )
            by (by_going place is) =
                omega (
                  arith,
                  knows.takes_one (ap (is_counted tx layout) is) (onward tx place)
                      (ap (onward tx place) is
                      ∙ (ap (λ b. b && (place == place)) (same_tx-self tx) ∙ eq-eqb place place refl)),
                  knows.goes_on place,
                  sent_more (onward tx place),
                  un.goes_on place,
                )

        has_driven_so : is_held_back between.coordinator x.view.number x.body ≡ false → LeadsOn tx x.body
            → Untouched tx (SentBy (tc_of start member) (new (tc_of start member))) → ⊥
        has_driven_so free leads =
            subst (λ h. Untouched tx (SentBy h (new h)) → ⊥) at
            (subst (λ log. Untouched tx (SentBy e.host log) → ⊥) (sym (own_log start all e es moment))
            (has_driven free leads))

      -- what was decided before, or is by the signal
      record HadOps (t : Transaction) : Type 0 where
        decided : is_decided start old tx ≡ true
        ops_are : decided_ops start old tx ≡ t.ops

      had_ops : (t : Transaction) (epoch : ℕ) → IsMarked (Decided tx epoch) own → ops_of tx own ≡ t.ops → HadOps t
      had_ops t epoch marked ops_are = record {
        decided =
            subst (λ (m : Member). has_mark (is_decision tx) (old (tc_of start m)) ≡ true) (sym is_own)
            (decided_so tx epoch own marked);
        ops_are = ap (λ (m : Member). ops_of tx (old (tc_of start m))) is_own ∙ ops_are;
      }

      module _ (t : Transaction) (found : entry_of (coordinator_after start member own) tx ≡ Some t) where
        says : (phase : Phase) → t.phase ≡ phase → SaysIn start member own tx t phase
        says phase is =
            subst (SaysIn start member own tx t) is
            (each_found (SaysOf start member own) (coordinator_after start member own).tc.live tx t stood.says found)

        had_decided : (phase : Phase) → t.phase ≡ phase → is_in_commit phase ≡ true → HadOps t
        had_decided (Committing epoch awaited) is decided =
            let with_it = (says (Committing epoch awaited) is).1.1 in had_ops t epoch with_it.marked with_it.ops_are
        had_decided (Completing epoch awaited) is decided =
            let with_it = (says (Completing epoch awaited) is).1.1 in had_ops t epoch with_it.marked with_it.ops_are
        had_decided Open is decided = absurd (true≢false (sym decided))
        had_decided Verifying is decided = absurd (true≢false (sym decided))
        had_decided (Aborting why verifying awaited) is decided = absurd (true≢false (sym decided))

        had_given : is_well_formed start.shape x ≡ true → HasEpoch tx t x.body → HadOps t
        had_given sound (before decided) = had_decided t.phase refl decided
        had_given sound (by_now epoch is verifying) = had_ops t epoch marked (given.decided.ops_are ∙ waits given.waits)
          where
            heard : Heard start member (e ∷ own)
            heard =
                subst (Heard start member) (subst (λ k. new k ≡ e ∷ old k) at (own_log start all e es moment))
                (heard_at start all member there (e ∷ es) moment)

            marked : IsMarked (Decided tx epoch) own
            marked = heard.0.gives tx epoch is sound is_own

            given : IsGivenWith start member own tx epoch
            given = stood.decided tx epoch marked

            waits : HasGone start member own tx ⊎ WaitsWith start member own tx given.ops → given.ops ≡ t.ops
            waits (inl (inl forth)) =
                absurd (true≢false (sym forth ∙ (says Verifying verifying).1.0))
            waits (inl (inr back)) =
                absurd (true≢false (sym back ∙ (says Verifying verifying).1.1))
            waits (inr wait) =
                let both : Some wait.transaction ≡ Some t = sym wait.there ∙ found in
                let same : wait.transaction ≡ t = cc (both) in
                sym wait.ops_are ∙ ap (λ (u : Transaction). u.ops) same

        -- so nothing was written
        none_written : (written_count t.touched == 0) ≡ true → HadOps t → AllWereCommittedIn start new number tx
        none_written none had key written =
            absurd
            (counted_written t.touched has.one has.among
            (each_in (IsWrittenRightly t.ops) has.one t.touched right.written has.among
            ∙ (ap (is_written_by t.ops) has.key_is ∙ is_written))
            none)
          where
            right : IsTouchedRightly t
            right =
                each_found (λ (one : TxId × Transaction). IsTouchedRightly one.1)
                (coordinator_after start member own).tc.live tx t stood.keyed found

            is_written : is_written_by t.ops key ≡ true
            is_written =
                subst (λ (ops : List (Op × Answer)). is_written_by ops key ≡ true)
                (ops_same start all e es moment tx had.decided ∙ had.ops_are) written

            has : Has t.touched key
            has = written_touched t.touched t.ops key right.answered is_written

    -- the coordinator takes the signal
    module _ (passed : IsPassed start.shape (part.Tc between) view x) (to : x.to.block ≡ block.Tc)
        (is : tc.does.own ≡ (tc_row between block.Tc x).state)
      where
        behind : coordinator_after start member (new (tc_of start member))
            ≡ (coordinator_row between.coordinator x).state
        unfolding tc_row
        behind =
            ap (coordinator_after start member) new_log
            ∙ (coordinator_is start member e.host (e ∷ old e.host) at tc.does.own tc.does.is
            ∙ ap (λ (q : TcPart). q.coordinator) is)

        number_is : (view_after start (tc_of start member) (new (tc_of start member))).number ≡ number
        number_is =
            ap (λ k. (view_after start k (new k)).number) (sym at)
            ∙ ap (λ log. (view_after start e.host log).number) (own_log start all e es moment)

        ended : (tx : TxId) → EndStep between.coordinator x tx (coordinator_row between.coordinator x).state
            → AllWereCommittedIn start new number tx
        ended tx (completing leads free t found epoch awaited phase) =
            subst (λ n. AllWereCommittedIn start new n tx) number_is
            (completes_answered start all e es moment member there tx is_own at t now epoch awaited phase
            (has_driven_so tx is_own passed to free leads))
          where
            now : entry_of (coordinator_after start member (new (tc_of start member))) tx ≡ Some t
            now = ap (λ (s : CoordinatorState). entry_of s tx) behind ∙ found

            is_own : coordinator_member tx ≡ member
            is_own =
                each_found (λ (one : TxId × Transaction). coordinator_member one.0 ≡ member)
                (coordinator_after start member (new (tc_of start member))).tc.live tx t stands.of.own now
        ended tx (unwritten t found none given) =
            none_written tx is_own t was none (had_given tx is_own t was passed.sound given)
          where
            of : IsCoordinatorOf member between.coordinator
            of = between_of start all e es moment member there at

            is_own : coordinator_member tx ≡ member
            is_own =
                each_found (λ (one : TxId × Transaction). coordinator_member one.0 ≡ member) between.coordinator.tc.live
                tx t of.own found

            was : entry_of (coordinator_after start member own) tx ≡ Some t
            was =
                subst (λ h. entry_of (coordinator_after start member (old h)) tx ≡ Some t) at
                (sym (between_entry start member there tx is_own all e es moment at (was_driven tx is_own)) ∙ found)

        sent_ended : (o : Outgoing) → IsIn o (coordinator_row between.coordinator x).effects.sends → (tx : TxId)
            → is_end o.body ≡ true → is_about tx o.body ≡ true → AllWereCommittedIn start new number tx
        sent_ended o inside tx ends about =
            ended tx
            (end_step member between.coordinator (between_of start all e es moment member there at) x o tx ends about
            inside)

        one_answered : (o : Outgoing) → IsIn o (coordinator_row between.coordinator x).effects.sends
            → is_of_coordinator o.body ≡ true → IsTold o.body
        one_answered o inside kind = by o.body refl
          where
            by : (body : Body) → o.body ≡ body → IsTold body
            by (Client (TcCommitConf tx epoch)) is =
                sent_ended o inside tx (ap is_end is) (ap (is_about tx) is ∙ same_tx-self tx)
            by (Client (TcKeyFailConf tx epoch)) is = absurd (true≢false (sym kind ∙ ap is_of_coordinator is))
            by (Chain (Complete tx key chain place)) is =
                inl (sent_ended o inside tx (ap is_end is) (ap (is_about tx) is ∙ same_tx-self tx))
            by body is = tt

        pub coordinator_answered : Each (λ (o : Outgoing). IsAnswered start (logs_of start (e ∷ es))
            (view_after start e.host (e ∷ logs_of start es e.host)).number o.body)
            (tc_row tc.does.between block.Tc e.step.taken).effects.sends
        unfolding tc_row
        coordinator_answered = by (coordinator_kinds between.coordinator x)
          where
            sends : List Outgoing
            sends = (coordinator_row between.coordinator x).effects.sends

            by : AreOfCoordinator between.coordinator.tc.node x.body sends → AreTold sends
            by (inl kinds) =
                each_from (λ (o : Outgoing). IsTold o.body) sends
                (λ o inside. one_answered o inside (each_in (IsOf is_of_coordinator) o sends kinds inside))
            by (inr confirms) = subst AreTold (sym confirms.1) (tt, tt)

    -- who speaks of no commit has nothing to answer for
    silent_one : (body : Body) → Speaks (λ tx. ⊥) Anyone body → IsTold body
    silent_one (Client (TcCommitConf tx epoch)) spoken = absurd spoken
    silent_one (Client (TcKeyFailConf tx epoch)) spoken = absurd spoken
    silent_one (Chain (Complete tx key chain place)) spoken = absurd spoken
    silent_one body spoken = tt

    silent_answered : (sends : List Outgoing) → AreSpoken (λ tx. ⊥) Anyone sends → AreTold sends
    silent_answered sends all =
        each_map (λ (o : Outgoing). Speaks (λ tx. ⊥) Anyone o.body) (λ (o : Outgoing). IsTold o.body) sends
        (λ o spoken. silent_one o.body spoken) all

    -- all that the host sends, if what its takeover sends is answered
    module _ (takeover : IsPassed start.shape (part.Tc tc.does.between) view e.step.taken
        → e.step.taken.to.block ≡ block.Takeover
        → Each (λ (o : Outgoing). IsAnswered start (logs_of start (e ∷ es))
        (view_after start e.host (e ∷ logs_of start es e.host)).number o.body)
        (tc_row tc.does.between block.Takeover e.step.taken).effects.sends)
      where
        row_answered : IsPassed start.shape (part.Tc between) view x → (b : BlockId) → x.to.block ≡ b
            → tc.does.own ≡ (tc_row between b x).state → AreTold (tc_row between b x).effects.sends
        unfolding tc_row
        row_answered passed block.Tc to is = coordinator_answered passed to is
        row_answered passed block.Takeover to is = takeover passed to
        row_answered passed block.Dih to is = silent_answered _ (dih_speaks (λ tx. ⊥) Anyone between.dih x)
        row_answered passed b to is = tt

        pub host_answered : Each (λ (o : Outgoing). IsAnswered start (logs_of start (e ∷ es))
            (view_after start e.host (e ∷ logs_of start es e.host)).number o.body)
            (step_after start e.host (logs_of start es e.host) e).effects.sends
        host_answered =
            part_each_by tc_kind (λ (o : Outgoing). IsTold o.body) start.shape tc.own _ x _ view
            (step_after start e.host (old e.host) e).effects.sends tc.does
            (λ above.
            each_append (λ (o : Outgoing). IsTold o.body)
            (coordinators.install_row tc.own.coordinator x.view).effects.sends
            (epochs.install_row tc.own.dih x.view.number).effects.sends
            (silent_answered _ (coordinator_installs_speak (λ tx. ⊥) Anyone tc.own.coordinator x.view))
            (silent_answered _ (dih_installs_speak (λ tx. ⊥) Anyone tc.own.dih x.view.number)))
            (λ passed same all. row_answered passed x.to.block refl same)
