-- Where a coordinator completes a transaction that it has driven in its view, each key that the transaction touched was
-- committed in that view.
use Rattle.std.proofs.Common.{◌≡◌, ◌≤◌, ◌&&◌, inl, inr, ◌∙◌, ℕ, Bool, true, false, List, [], ◌∷◌, refl, sym, ap}
use Rattle.std.proofs.Common.{arith, subst}
use Rattle.std.proofs.lemmas.Bool.{or_left, or_right, true≢false}
use Rattle.std.specs.Prelude.{Some, not}
use Rattle.run_theory.specs.Lists.{Each, IsIn}
use Rattle.run_theory.proofs.Pasts.{each_map}
use Rattle.host_laws.proofs.hosts.Sums.{total_at}
use Rattle.sig_core.specs.declared.member.Member.{Member}
use Rattle.sig_core.specs.declared.member.TxId.{TxId}
use Rattle.sig_core.specs.declared.outs.Outgoing.{Outgoing}
use Rattle.sig_core.specs.declared.signal.Body.{Body}
use Rattle.sig_core.specs.declared.signal.Body.TheVariants.{Chain}
use Rattle.sig_core.specs.declared.signal.chain.ChainSignal.TheVariants.{Commit}
use Rattle.sig_core.specs.Same.{same_key, same_tx}
use Rattle.sig_core.proofs.Keys.{same_key-self}
use Rattle.frag_map.specs.Layout.{Layout}
use Rattle.tc_block.specs.declared.phase.Phase.{Phase}
use Rattle.tc_block.specs.declared.phase.Phase.TheVariants.{Committing, Completing}
use Rattle.tc_block.specs.declared.touched.Touched.{Touched}
use Rattle.tc_block.specs.declared.transaction.Transaction.{Transaction}
use Rattle.tc_block.specs.Phases.{is_aborting, is_decided}
use Rattle.tc_block.specs.Sends.{phase_sends}
use Rattle.world_core.specs.Hosts.{hosts}
use Rattle.world_core.specs.Start.{Start, made}
use Rattle.world_core.specs.Steps.{HostStep}
use Rattle.view_laws.specs.Runs.{view_after}
use Rattle.moment_laws.specs.Moments.{IsMoment, logs_of}
use Rattle.moment_laws.specs.Places.{tc_of}
use Rattle.moment_laws.proofs.MomentHosts.{tc_low}
use Rattle.outcome_laws.specs.Counts.{coordinator_member, count_sent}
use Rattle.outcome_laws.proofs.coordinators.Lists.{none_counted}
use Rattle.request_laws.specs.Blocks.{coordinator_after}
use Rattle.request_laws.specs.Routed.{layout_in}
use Rattle.request_laws.specs.Tokens.{all_sent, sent_along, taken_along}
use Rattle.request_laws.specs.Ways.{entry_of}
use Rattle.request_laws.proofs.tokens.SumsOverHosts.{takes_few}
use Rattle.commit_laws.specs.Answered.{WasCommittedIn}
use Rattle.commit_laws.proofs.answered.Counts.{among, each_told, outside, told, told_rows}
use Rattle.commit_laws.proofs.answered.Told.{told_sent}
use Rattle.commit_laws.proofs.drive.Foreign.{IsLedIn}
use Rattle.commit_laws.proofs.drive.Kinds.{committing, goes, numbered}
use Rattle.commit_laws.proofs.drive.Led.{owners_own}
use Rattle.commit_laws.proofs.drive.Lists.{commits_of, completions_of, mine, only, taken_less}
use Rattle.commit_laws.proofs.drive.Moments.{told_few}
use Rattle.commit_laws.proofs.drive.Own.{coordinators_drive_once, driven, number_at, sent_in, taken_in}
use Rattle.commit_laws.proofs.drive.States.{Drives, DrivesLeft, Sending, Untouched, commits, completes, given_up}
use Rattle.commit_laws.proofs.drive.States.{undecided, waits}
use Rattle.commit_laws.proofs.drive.Tasks.{listed}
use Rattle.commit_laws.proofs.commits.WholeTurns.{IsOfKeys, keys_in, phase_keys}

-- of keys that weren't touched no commit is among what is sent
among_in : (touched : List Touched) (u : Touched) (key : List ℕ) → IsIn u touched → u.key ≡ key
    → among touched key ≡ true
among_in [] u key there is = absurd there
among_in (v ∷ touched) u key (inl same) is =
    or_left (same_key key v.key) (among touched key)
    (ap (same_key key) (ap (λ (w : Touched). w.key) (sym same) ∙ is) ∙ same_key-self key)
among_in (v ∷ touched) u key (inr there) is =
    or_right (same_key key v.key) (among touched key) (among_in touched u key there is)

module _ (layout : Layout) (tx : TxId) (touched : List Touched) where
  one_off : (keys : List Touched)
      → ((u : Touched) (key : List ℕ) → IsIn u keys → u.key ≡ key → among touched key ≡ true)
      → (body : Body) → IsOfKeys keys body → goes committing (mine tx (outside touched)) body ≡ false
  one_off keys inside (Chain (Commit one key epoch chain at)) is =
      off (same_tx one tx) (among touched key) (inside is.one key is.among is.key_is)
    where
      off : (a b : Bool) → b ≡ true → (a && not b) ≡ false
      off true true e = refl
      off true false e = absurd (true≢false (sym e))
      off false b e = refl
  one_off keys inside body is = refl

  none_outside : (phase : Phase) → ((u : Touched) (key : List ℕ) → IsIn u (keys_in phase touched) → u.key ≡ key
      → among touched key ≡ true)
      → count_sent (goes committing (mine tx (outside touched))) (phase_sends layout tx phase touched) ≡ 0
  none_outside phase inside =
      none_counted (goes committing (mine tx (outside touched))) (phase_sends layout tx phase touched)
      (each_map (λ (o : Outgoing). IsOfKeys (keys_in phase touched) o.body)
      (λ (o : Outgoing). goes committing (mine tx (outside touched)) o.body ≡ false)
      (phase_sends layout tx phase touched)
      (λ o is. one_off (keys_in phase touched) inside o.body is) (phase_keys 0 layout tx phase touched))

module _ (start : Start) (all : ℕ → List HostStep) (es : List HostStep) (moment : IsMoment start all es)
    (member : Member)
    (there : IsIn member (made start)) (tx : TxId) (own : coordinator_member tx ≡ member)
    (led : IsLedIn start all tx
    (number_at start member tx (tc_of start member) (logs_of start es (tc_of start member))))
  where
    abbrev logs : ℕ → List HostStep
    logs = logs_of start es

    abbrev h : ℕ
    h = tc_of start member

    abbrev log : List HostStep
    log = logs_of start es (tc_of start member)

    abbrev n : ℕ
    n = number_at start member tx (tc_of start member) (logs_of start es (tc_of start member))

    abbrev layout : Layout
    layout = layout_in start (view_after start (tc_of start member) (logs_of start es (tc_of start member)))

    there_too : IsIn (coordinator_member tx) (made start)
    there_too = subst (λ (m : Member). IsIn m (made start)) (sym own) there

    -- what its host took was sent, and no more than its host commits
    taken_sent : (wk : List ℕ → Bool) → taken_along start (told tx n wk) log ≤ all_sent start (told tx n wk) logs
    taken_sent wk =
        omega (
          arith,
          total_at (hosts start) (λ k. taken_along start (told tx n wk) (logs k)) h
              (tc_low start moment.cluster.nobody member there),
          takes_few start (told tx n wk) (told_rows tx n wk) all es moment,
        )

    taken_own : (wk : List ℕ → Bool) → taken_along start (told tx n wk) log
        ≤ sent_along start (numbered n (goes committing (mine tx wk))) h log
    taken_own wk =
        omega (
          arith,
          taken_sent wk,
          told_few committing (mine tx wk) n start all es moment,
          owners_own start all tx n led es moment there_too committing wk,
          ap (λ (m : Member). sent_along start (numbered n (goes committing (mine tx wk))) (tc_of start m)
              (logs (tc_of start m))) own,
        )

    once : (key : List ℕ) → taken_along start (told tx n (only key)) log ≤ 1
    once key =
        omega (
          arith,
          taken_own (only key),
          coordinators_drive_once start all es moment tx there_too n committing key,
          ap (λ (m : Member). sent_along start (numbered n (goes committing (mine tx (only key)))) (tc_of start m)
              (logs (tc_of start m))) own,
        )

    module _ (t : Transaction) (found : entry_of (coordinator_after start member log) tx ≡ Some t) (epoch awaited : ℕ)
        (at : t.phase ≡ Completing epoch awaited) (busy : Untouched tx (sent_in start member tx h n log) → ⊥)
      where
        abbrev Is : Type 0
        Is = Each (λ (u : Touched). WasCommittedIn start (logs_of start es) n tx u.key) t.touched

        none_taken : (before left place : ℕ)
            → Sending tx (sent_in start member tx h n log) (taken_in start member tx h n log)
            (commits_of layout tx before left t.touched) (completions_of layout tx before left t.touched) place
            → taken_along start (told tx n (outside t.touched)) log ≡ 0
        none_taken before left place sending =
            omega (
              arith,
              taken_own (outside t.touched),
              sending.keys committing (outside t.touched),
              none_outside layout tx t.touched (Committing before left)
                  (λ u key there is. among_in t.touched u key there is),
              none_outside layout tx t.touched (Completing before left) (λ u key there is. absurd there),
              taken_less (λ (o : Outgoing). goes committing (mine tx (outside t.touched)) o.body) place
                  (completions_of layout tx before left t.touched),
            )

        by : (count : ℕ)
            → Drives tx layout (sent_in start member tx h n log) (taken_in start member tx h n log) t count → Is
        by count (undecided undone other zero un) = absurd (true≢false (sym (ap is_decided at) ∙ undone))
        by count (given_up back none) = absurd (true≢false (sym back ∙ ap is_aborting at))
        by count (waits done few un) = absurd (busy un)
        by count (commits before left place is zero sending enough) =
            absurd (let both : Committing before left ≡ Completing epoch awaited = sym is ∙ at in cc)
        by count (completes before left place is zero sending enough) =
            each_map (λ (u : Touched). 1 ≤ taken_along start (told tx n (only u.key)) log)
            (λ (u : Touched). WasCommittedIn start logs n tx u.key) t.touched
            (λ u one. told_sent start logs n tx u.key (omega (arith, one, taken_sent (only u.key))))
            (each_told tx n start log t.touched once (none_taken before left place sending) enough)

        pub keys_committed : Each (λ (u : Touched). WasCommittedIn start (logs_of start es)
            (number_at start member tx (tc_of start member) (logs_of start es (tc_of start member))) tx u.key) t.touched
        keys_committed =
            by (listed tx (coordinator_after start member log))
            (subst
            (λ o. DrivesLeft tx layout (sent_in start member tx h n log) (taken_in start member tx h n log) o
            (listed tx (coordinator_after start member log)))
            found
            (driven start member there tx own all es moment).now.drives)
