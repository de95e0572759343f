-- Rows mark a key to be applied where they take the commit of a record at the first place of its chain, and nowhere
-- else.
use Rattle.std.proofs.Common.{◌≡◌, ◌⊎◌, ◌==◌, ◌++◌, ◌∙◌, ℕ, Bool, true, false, List, [], ◌∷◌, refl, sym, ap, subst}
use Rattle.std.proofs.Common.{inl, inr}
use Rattle.std.proofs.lemmas.Bool.{eqb-true, true≢false}
use Rattle.std.specs.Prelude.{Option, None, Some}
use Rattle.run_theory.specs.Lists.{Each, IsIn}
use Rattle.run_theory.proofs.Pasts.{each_in, in_append}
use Rattle.sig_core.specs.declared.mark.Mark.{Mark}
use Rattle.sig_core.specs.declared.mark.Mark.TheVariants.{Applied}
use Rattle.sig_core.specs.declared.member.Member.{Member}
use Rattle.sig_core.specs.declared.member.TxId.{TxId}
use Rattle.sig_core.specs.declared.rows.PendingRecord.{PendingRecord}
use Rattle.sig_core.specs.declared.signal.Body.TheVariants.{Chain}
use Rattle.sig_core.specs.declared.signal.Signal.{Signal}
use Rattle.sig_core.specs.declared.signal.chain.ChainSignal.TheVariants.{Commit}
use Rattle.sig_core.specs.Rows.{record_state, state_by}
use Rattle.lqh_block.specs.Commit.{applied_marks, commit_row}
use Rattle.lqh_block.specs.Lqh.{lqh_table}
use Rattle.lqh_views.proofs.Walk.{replica_marks_each}
use Rattle.lqh_views.specs.Replica.{replica_by, replica_row}
use Rattle.lqh_views.specs.State.{ReplicaState}
use Rattle.key_laws.specs.Records.{found}
use Rattle.key_laws.specs.Replica.{Cell}
use Rattle.key_laws.proofs.EpochLemmas.{state_found}
use Rattle.world_core.specs.Start.{Start, made}
use Rattle.world_core.specs.Steps.{HostStep}
use Rattle.view_laws.proofs.ballots.MadeSets.{in_either, in_front}
use Rattle.moment_laws.specs.Moments.{IsMoment, logs_of}
use Rattle.moment_laws.specs.Places.{ldm_of}
use Rattle.commit_laws.specs.Traces.{record_at}
use Rattle.commit_laws.proofs.commits.Places.{cell_before}
use Rattle.commit_laws.proofs.records.KeyGoes.{TakesNow}
use Rattle.commit_laws.proofs.hosts.RowsGo.{is_row_mark}
use Rattle.commit_laws.proofs.hosts.RowsTurn.{IsBetween, IsTakenAt, RowsGo, enter, rest, rows_go, take}

-- a commit at the first place of a record that is there
record Applies (s : ReplicaState) (x : Signal) (tx : TxId) (key : List ℕ) : Type 0 where
  epoch : ℕ
  chain : List Member
  body_is : x.body ≡ Chain (Commit tx key epoch chain 0)
  committed : Bool
  state : record_state s.lqh.rows tx key ≡ Some committed

abbrev IsOf : ReplicaState → Signal → TxId → List ℕ → Mark → Type 0
IsOf s x tx key mark = mark ≡ Applied tx key → Applies s x tx key

rows_apply : (s : ReplicaState) (x : Signal) (tx : TxId) (key : List ℕ)
    → Each (IsOf s x tx key) (replica_row s x).effects.marks
rows_apply s x tx key =
    replica_marks_each s x (IsOf s x tx key) (record {
      prepared = λ u own is. absurd cc;
      applied = λ u own epoch chain at committed about first there is. applies u own epoch chain at committed about
          first there is;
      completed = λ u own chain at about is. absurd cc;
      given_up = λ u own about there is. absurd cc;
      expired = λ u own is. absurd cc;
    })
  where
    applies : (u : TxId) (own : List ℕ) (epoch : ℕ) (chain : List Member) (at : ℕ) (committed : Bool)
        → x.body ≡ Chain (Commit u own epoch chain at) → (at == 0) ≡ true
        → record_state s.lqh.rows u own ≡ Some committed → Applied u own ≡ Applied tx key → Applies s x tx key
    applies u own epoch chain at committed about first there is =
        let one : u ≡ tx = cc in
        let here : own ≡ key = cc in
        record {
          epoch = epoch;
          chain = chain;
          body_is = about ∙ (λ i. Chain (Commit (one i) (here i) epoch chain (eqb-true at 0 first i)));
          committed = committed;
          state = (λ i. record_state s.lqh.rows (sym one i) (sym here i)) ∙ there;
        }

-- a record that is there is marked to be applied
commit_marks : (s : ReplicaState) (x : Signal) (tx : TxId) (key : List ℕ) (epoch : ℕ) (chain : List Member)
    → x.body ≡ Chain (Commit tx key epoch chain 0) → (committed : Bool)
    → record_state s.lqh.rows tx key ≡ Some committed → (replica_row s x).effects.marks ≡ Applied tx key ∷ []
unfolding commit_row
commit_marks s x tx key epoch chain about committed there =
    ap (λ body. (replica_by s x body).effects.marks) about
    ∙ (ap (λ body. (lqh_table s.lqh body).effects.marks) about ∙ ap (applied_marks tx key) there)

module _ (start : Start) (all : ℕ → List HostStep) (e : HostStep) (es : List HostStep)
    (moment : IsMoment start all (e ∷ es)) (member : Member) (there : IsIn member (made start)) (tx : TxId)
    (key : List ℕ)
  where
    abbrev old : ℕ → List HostStep
    old = logs_of start es

    state_was : (takes : TakesNow start all e es moment member there)
        → record_state takes.rows.lqh.rows tx key ≡ state_by (record_at start old member key tx)
    state_was takes =
        state_found takes.rows.lqh.rows tx key
        ∙ ap (λ (c : Cell). state_by (found tx c.pending)) (cell_before start all e es moment member there takes key)

    pub applied_marked : (takes : TakesNow start all e es moment member there) (epoch : ℕ) (chain : List Member)
        → e.step.taken.body ≡ Chain (Commit tx key epoch chain 0) → (own : PendingRecord)
        → record_at start (logs_of start es) member key tx ≡ Some own → IsIn (Applied tx key) e.step.marks
    applied_marked takes epoch chain about own is =
        subst (IsIn (Applied tx key)) (sym takes.taken.marks_are)
        (in_append (Applied tx key) takes.taken.front
        ((replica_row takes.rows e.step.taken).effects.marks ++ takes.taken.back)
        (in_front (Applied tx key) (replica_row takes.rows e.step.taken).effects.marks takes.taken.back
        (subst (IsIn (Applied tx key))
        (sym (commit_marks takes.rows e.step.taken tx key epoch chain about own.committed
        (state_was takes ∙ ap state_by is)))
        (inl refl))))

    -- rows take a commit of a record at the first place
    pub record IsOfCommit : Type 0 where
      pub takes : TakesNow start all e es moment member there
      pub epoch : ℕ
      pub chain : List Member
      pub body_is : e.step.taken.body ≡ Chain (Commit tx key epoch chain 0)
      pub own : PendingRecord
      pub record_is : record_at start (logs_of start es) member key tx ≡ Some own

    not_applied : (mark : Mark) → is_row_mark mark ≡ false → mark ≡ Applied tx key → ⊥
    not_applied mark off is = true≢false (sym (ap is_row_mark is) ∙ off)

    some_of : (o : Option PendingRecord) (committed : Bool) → state_by o ≡ Some committed
        → (own : PendingRecord) × (o ≡ Some own)
    some_of None committed is = absurd cc
    some_of (Some own) committed is = (own, refl)

    pub marks_of_commit : e.host ≡ ldm_of start member → IsIn (Applied tx key) e.step.marks
        → IsOfCommit
    marks_of_commit at marked = by (rows_go start all e es moment member there)
      where
        none : Each (λ mark. is_row_mark mark ≡ false) e.step.marks → ⊥
        none all_off =
            not_applied (Applied tx key) (each_in (λ mark. is_row_mark mark ≡ false) (Applied tx key) e.step.marks
            all_off marked)
            refl

        from_rows : (s : ReplicaState) (between : IsBetween start all e es moment member there s)
            (taken : IsTakenAt start all e es moment member there s)
            → IsIn (Applied tx key) (replica_row s e.step.taken).effects.marks
            → IsOfCommit
        from_rows s between taken inside =
            let one =
            each_in (IsOf s e.step.taken tx key) (Applied tx key) (replica_row s e.step.taken).effects.marks
            (rows_apply s e.step.taken tx key) inside refl in
            let takes : TakesNow start all e es moment member there =
            record { rows = s; between = between; taken = taken; at = taken.at; now = taken.now } in
            let own = some_of (record_at start old member key tx) one.committed (sym (state_was takes) ∙ one.state) in
            record {
              takes = takes;
              epoch = one.epoch;
              chain = one.chain;
              body_is = one.body_is;
              own = own.0;
              record_is = own.1;
            }

        by : RowsGo start all e es moment member there → IsOfCommit
        by (rest is quiet) = absurd (none (quiet at).marks)
        by (enter view is quiet) = absurd (none (quiet at).marks)
        by (take s between taken) =
            either (in_either (Applied tx key) taken.front ((replica_row s e.step.taken).effects.marks ++ taken.back)
            (subst (IsIn (Applied tx key)) taken.marks_are marked))
          where
            unmarked : (marks : List Mark) → Each (λ mark. is_row_mark mark ≡ false) marks
                → IsIn (Applied tx key) marks → IsOfCommit
            unmarked marks all there =
                absurd (not_applied (Applied tx key)
                (each_in (λ mark. is_row_mark mark ≡ false) (Applied tx key) marks all there) refl)

            row_or_behind : IsIn (Applied tx key) (replica_row s e.step.taken).effects.marks
                ⊎ IsIn (Applied tx key) taken.back → IsOfCommit
            row_or_behind (inl inside) = from_rows s between taken inside
            row_or_behind (inr behind) = unmarked taken.back taken.unapplied_behind behind

            either : IsIn (Applied tx key) taken.front
                ⊎ IsIn (Applied tx key) ((replica_row s e.step.taken).effects.marks ++ taken.back) → IsOfCommit
            either (inl front) = unmarked taken.front taken.unapplied front
            either (inr later) =
                row_or_behind
                (in_either (Applied tx key) (replica_row s e.step.taken).effects.marks taken.back later)
