-- What goes on along a log may be told by other events; those commit the same, and their records have the same bytes.
use Rattle.std.proofs.Common.{◌≡◌, ◌∙◌, ℕ, true, List, [], ◌∷◌, ◌++◌, length, drop, refl, sym, ap}
use Rattle.std.proofs.Common.{subst, option_to_list}
use Rattle.std.proofs.Math.Seq.{drop-append_seam}
use Rattle.std.specs.Prelude.{Option, None, Some, is_some}
use Rattle.redo_log.specs.Replaying.{log_bytes}
use Rattle.run_theory.specs.Lists.{IsIn}
use Rattle.sig_core.specs.declared.member.Member.{Member}
use Rattle.sig_core.specs.declared.member.TxId.{TxId}
use Rattle.sig_core.specs.declared.redo.Redo.TheVariants as redo
use Rattle.sig_core.specs.declared.signal.Body.{Body}
use Rattle.sig_core.specs.declared.signal.Body.TheVariants.{Chain}
use Rattle.sig_core.specs.declared.signal.chain.ChainSignal.TheVariants as chain
use Rattle.sig_core.specs.Journal.{OutletState}
use Rattle.sig_core.specs.Redo.{bytes_of}
use Rattle.sig_core.specs.Rows.{RowsState}
use Rattle.sig_core.specs.Table.{Rows}
use Rattle.local_ckpt.specs.Events.{Abort, Commit, Complete, Event, Prepare, Step, left_by, log_if}
use Rattle.local_ckpt.specs.Orderly.{image_in}
use Rattle.lqh_saver.specs.declared.stage.Todo.{Todo}
use Rattle.lqh_saver.specs.declared.stage.Todo.TheVariants as todo
use Rattle.lqh_saver.specs.State.{SavingState}
use Rattle.world_core.specs.Start.{NobodyStarts, Start, made}
use Rattle.world_core.specs.Steps.{HostStep}
use Rattle.journal_laws.specs.Events.{IsOfPrepared, IsOrdered, behind_all, own_behind, records_behind, records_if}
use Rattle.journal_laws.specs.Events.{rows_behind}
use Rattle.journal_laws.specs.Journal.{AreEventsOf, first_rows, lqh_after}
use Rattle.journal_laws.specs.Saver.{IsStepBy, todo_at}
use Rattle.request_laws.specs.Blocks.{saving_after}
use Rattle.journal_laws.proofs.follow.Oldest.{bytes_append}
use Rattle.saved_laws.proofs.rows.ByStep.{IsStepAt, IsTold, ordered_by, prepared_by, told_by}
use Rattle.saved_laws.proofs.rows.Own.{rows_are}
use Rattle.saved_laws.proofs.standing.Journals.{appended, keeps_bytes}
use Rattle.saved_laws.proofs.standing.Records.{records_more}

-- an event, or none, that commits nothing
abbrev IsNoCommit : Option Event → Type 0
IsNoCommit (Some (Commit tx key at)) = ⊥
IsNoCommit event = Unit {0}

data IsEither (event : Option Event) : Type 0 where
  a_commit : (tx : TxId) (key : List ℕ) (at : ℕ) → event ≡ Some (Commit tx key at) → IsEither event
  another : IsNoCommit event → IsEither event

either : (event : Option Event) → IsEither event
either None = another tt
either (Some (Commit tx key at)) = a_commit tx key at refl
either (Some (Prepare tx fragment key image)) = another tt
either (Some (Abort tx key)) = another tt
either (Some (Complete tx key)) = another tt
either (Some Step) = another tt

-- the kind of the first record, where there is one
abbrev first_kind : List ℕ → ℕ
first_kind [] = 0
first_kind (kind ∷ bytes) = kind

module _ (s : RowsState) (body : Body) where
  abbrev if_bytes : Option Event → List ℕ
  if_bytes event = log_bytes (records_if event s)

  commit_kind : (tx : TxId) (key : List ℕ) (at : ℕ) (found : Option (Option (List ℕ))) → is_some found ≡ true
      → first_kind (log_bytes (log_if (redo.Commit tx at key) found [])) ≡ 2
  unfolding bytes_of
  commit_kind tx key at None there = absurd cc
  commit_kind tx key at (Some image) there = refl

  abort_kind : (tx : TxId) (key : List ℕ) (found : Option (Option (List ℕ)))
      → first_kind (log_bytes (log_if (redo.Abort tx key) found [])) ≡ 2 → ⊥
  unfolding bytes_of
  abort_kind tx key None is = absurd cc
  abort_kind tx key (Some image) is = absurd cc

  other_kind : (event : Option Event) → IsNoCommit event → first_kind (if_bytes event) ≡ 2 → ⊥
  unfolding bytes_of
  other_kind None other is = absurd cc
  other_kind (Some (Commit tx key at)) other is = absurd other
  other_kind (Some (Prepare tx fragment key image)) other is = absurd cc
  other_kind (Some (Abort tx key)) other is = absurd (abort_kind tx key (image_in s tx key) is)
  other_kind (Some (Complete tx key)) other is = absurd cc
  other_kind (Some Step) other is = absurd cc

  module _ (epoch : ℕ) (before : Rows) where
    -- what an event leaves of rows that are committed up to the epoch
    abbrev left_if : Option Event → Rows
    left_if None = before
    left_if (Some event) = left_by epoch event s before

    other_leaves : (event : Option Event) → IsNoCommit event → left_if event ≡ before
    other_leaves None other = refl
    other_leaves (Some (Commit tx key at)) other = absurd other
    other_leaves (Some (Prepare tx fragment key image)) other = refl
    other_leaves (Some (Abort tx key)) other = refl
    other_leaves (Some (Complete tx key)) other = refl
    other_leaves (Some Step) other = refl

    -- a commit and what is none have other bytes
    differ : (event other : Option Event) (tx : TxId) (key : List ℕ) (at : ℕ) → event ≡ Some (Commit tx key at)
        → IsOfPrepared event s → IsNoCommit other → if_bytes event ≡ if_bytes other → ⊥
    differ event other tx key at is prepared none same =
        other_kind other none
        (ap first_kind (sym same) ∙ ap (λ o. first_kind (if_bytes o)) is
        ∙ commit_kind tx key at (image_in s tx key) (subst (λ o. IsOfPrepared o s) is prepared))

    -- two commits are both that which was ordered
    ordered_same : (tx other : TxId) (key key2 : List ℕ) (at late : ℕ) → IsOrdered (Some (Commit tx key at)) body
        → IsOrdered (Some (Commit other key2 late)) body → left_by epoch (Commit tx key at) s before
        ≡ left_by epoch (Commit other key2 late) s before
    ordered_same tx other key key2 at late one two =
        let both : Chain (chain.Commit tx key at one.0 one.1.0) ≡ Chain (chain.Commit other key2 late two.0 two.1.0) =
        sym one.1.1 ∙ two.1.1 in
        let same_tx : tx ≡ other = cc in
        let same_key : key ≡ key2 = cc in
        let same_at : at ≡ late = cc in
        λ i. left_by epoch (Commit (same_tx i) (same_key i) (same_at i)) s before

    pub left_alike : (one other : Option Event) → IsOrdered one body → IsOrdered other body → IsOfPrepared one s
        → IsOfPrepared other s → if_bytes one ≡ if_bytes other → left_if one ≡ left_if other
    left_alike one other ordered also prepared there same = by (either one) (either other)
      where
        by : IsEither one → IsEither other → left_if one ≡ left_if other
        by (a_commit tx key at is) (a_commit tx2 key2 late is2) =
            ap left_if is
            ∙ ordered_same tx tx2 key key2 at late (subst (λ o. IsOrdered o body) is ordered)
            (subst (λ o. IsOrdered o body) is2 also)
            ∙ sym (ap left_if is2)
        by (a_commit tx key at is) (another none) = absurd (differ one other tx key at is prepared none same)
        by (another none) (a_commit tx key at is) = absurd (differ other one tx key at is there none (sym same))
        by (another none) (another nor) = other_leaves one none ∙ sym (other_leaves other nor)

-- one step of a log
module _ (s t : SavingState) (body : Body) (one other : Option Event) (keeps : s.replica.lqh.outlet.keeps ≡ true) where
  abbrev o : OutletState
  o = s.replica.lqh.outlet

  abbrev said : Option Event → List ℕ
  said event = if_bytes s.replica.lqh.rows body event

  appended_same : t.replica.lqh.outlet ≡ behind_all (records_if one s.replica.lqh.rows) o
      → t.replica.lqh.outlet ≡ behind_all (records_if other s.replica.lqh.rows) o → said one ≡ said other
  appended_same first second =
      let both : o.left ++ said one ≡ o.left ++ said other =
      ap (λ (p : OutletState). p.left)
      (sym (appended o keeps (records_if one s.replica.lqh.rows)) ∙ sym first ∙ second
      ∙ appended o keeps (records_if other s.replica.lqh.rows)) in
      sym (drop-append_seam o.left (said one)) ∙ ap (drop (length o.left)) both
      ∙ drop-append_seam o.left (said other)

  told_same : (it : Todo) → IsTold s t body one it → IsTold s t body other it → said one ≡ said other
  told_same (todo.Name finished) first second = ap said first ∙ sym (ap said second)
  told_same todo.Nothing first second = appended_same first second
  told_same (todo.Write piece) first second = appended_same first second
  told_same todo.Sync first second = appended_same first second

  bytes_same : (it : Todo) → IsStepBy s t body it one → IsStepBy s t body it other → said one ≡ said other
  bytes_same it first second =
      told_same it (told_by s t body one it first) (told_by s t body other it second)

  step_alike : (it : Todo) (epoch : ℕ) (before : Rows) → IsStepBy s t body it one → IsStepBy s t body it other
      → left_if s.replica.lqh.rows body epoch before one ≡ left_if s.replica.lqh.rows body epoch before other
  step_alike it epoch before first second =
      left_alike s.replica.lqh.rows body epoch before one other (ordered_by s t body one it first)
      (ordered_by s t body other it second) (prepared_by s t body one it first) (prepared_by s t body other it second)
      (bytes_same it first second)

module _ (start : Start) (member : Member) (there : IsIn member (made start)) where
  abbrev first : RowsState
  first = first_rows start member

  -- these events of a log and those
  pub record AreAlike (one other : List Event) : Type 0 where
    pub bytes : log_bytes (records_behind first one) ≡ log_bytes (records_behind first other)
    pub own : (epoch : ℕ) (before : Rows) → own_behind epoch first before one ≡ own_behind epoch first before other

  more_bytes : (log : List HostStep) (event : Option Event) (older : List Event) → AreEventsOf start member log older
      → log_bytes (records_behind first (option_to_list event ++ older))
      ≡ log_bytes (records_behind first older) ++ log_bytes (records_if event (lqh_after start member log).rows)
  more_bytes log event older are =
      ap log_bytes (records_more first event older)
      ∙ bytes_append (records_if event (rows_behind first older)) (records_behind first older)
      ∙ ap (λ (s : RowsState). log_bytes (records_behind first older) ++ log_bytes (records_if event s))
      (rows_are start member log older are)

  more_own : (log : List HostStep) (body : Body) (epoch : ℕ) (before : Rows) (event : Option Event)
      (older : List Event) → AreEventsOf start member log older
      → own_behind epoch first before (option_to_list event ++ older)
      ≡ left_if (lqh_after start member log).rows body epoch (own_behind epoch first before older) event
  more_own log body epoch before None older are = refl
  more_own log body epoch before (Some event) older are =
      ap (λ (s : RowsState). left_by epoch event s (own_behind epoch first before older))
      (rows_are start member log older are)

  -- behind one more step
  alike_more : NobodyStarts start
      → (e : HostStep) (log : List HostStep) (event event2 : Option Event) (older older2 : List Event)
      → AreEventsOf start member log older → AreEventsOf start member log older2 → IsStepAt start member e log event
      → IsStepAt start member e log event2 → AreAlike older older2
      → AreAlike (option_to_list event ++ older) (option_to_list event2 ++ older2)
  alike_more nobody e log event event2 older older2 of of2 step step2 rest = record {
    bytes = more_bytes log event older of ∙ (λ i. rest.bytes i ++ added i) ∙ sym (more_bytes log event2 older2 of2);
    own = λ epoch before.
        more_own log body epoch before event older of
        ∙ ap (λ rows. left_if now.replica.lqh.rows body epoch rows event) (rest.own epoch before)
        ∙ step_alike now then body event event2 keeps it epoch (own_behind epoch first before older2) step step2
        ∙ sym (more_own log body epoch before event2 older2 of2);
  }
    where
      now : SavingState
      now = saving_after start member log

      then : SavingState
      then = saving_after start member (e ∷ log)

      body : Body
      body = e.step.taken.body

      it : Todo
      it = todo_at start member e log

      keeps : (lqh_after start member log).outlet.keeps ≡ true
      keeps = keeps_bytes start nobody member there log older of

      added : log_bytes (records_if event (lqh_after start member log).rows)
          ≡ log_bytes (records_if event2 (lqh_after start member log).rows)
      added = bytes_same now then body event event2 keeps it step step2

  pub alike : NobodyStarts start → (log : List HostStep) (one other : List Event) → AreEventsOf start member log one
      → AreEventsOf start member log other → AreAlike one other
  alike nobody [] one other are also =
      subst (AreAlike one) (are ∙ sym also) (record { bytes = refl; own = λ epoch before. refl })
  alike nobody (e ∷ log) one other (event, (older, (is, of, step))) (event2, (older2, (is2, of2, step2))) =
      subst (λ xs. AreAlike xs other) (sym is)
      (subst (AreAlike (option_to_list event ++ older)) (sym is2)
      (alike_more nobody e log event event2 older older2 of of2 step step2 (alike nobody log older older2 of of2)))
