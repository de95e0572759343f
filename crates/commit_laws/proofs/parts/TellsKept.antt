-- What a part of an operation tells of a transaction on a key stays so, as long as members keep what they have of it
-- there.
use Rattle.std.proofs.Common.{◌≡◌, ◌++◌, ◌∙◌, ℕ, true, List, [], ◌∷◌, sym, subst, inr}
use Rattle.std.specs.List.{slice_get}
use Rattle.std.specs.Prelude.{Option, None, Some}
use Rattle.run_theory.specs.Lists.{IsIn}
use Rattle.frag_map.specs.Layout.{chain_of}
use Rattle.row_locks.specs.declared.mode.Mode.TheVariants.{Exclusive}
use Rattle.sig_core.specs.declared.member.Member.{Member}
use Rattle.sig_core.specs.declared.member.TxId.{TxId}
use Rattle.sig_core.specs.declared.op.Answer.{Answer}
use Rattle.sig_core.specs.declared.op.Answer.TheVariants.{Done}
use Rattle.sig_core.specs.declared.op.Op.{Op}
use Rattle.sig_core.specs.declared.signal.chain.RowWork.TheVariants.{Operate, Store}
use Rattle.sig_core.specs.declared.view.View.{View}
use Rattle.sig_core.specs.Op.{answer_to}
use Rattle.tc_block.specs.declared.transaction.Transaction.{Transaction}
use Rattle.world_core.specs.Start.{Start, made}
use Rattle.world_core.specs.Steps.{HostStep}
use Rattle.key_laws.specs.OneKey.{AreRight, ops_on, row_after_all}
use Rattle.key_laws.proofs.Holding.{holds_so}
use Rattle.moment_laws.specs.Moments.{IsMoment, current, logs_of}
use Rattle.moment_laws.proofs.MomentMembers.{current_made}
use Rattle.moment_laws.proofs.MomentViews.{moment_less}
use Rattle.request_laws.specs.Routed.{layout_in}
use Rattle.commit_laws.specs.Commits.{CommitsStand}
use Rattle.commit_laws.specs.Parts.{IsAsked, IsStoredTo, Part, Tells, Told, answers, performs, refuses}
use Rattle.commit_laws.specs.Settled.{HasImageIf, IsPrimary, IsSettledWith, row_behind}
use Rattle.commit_laws.specs.Traces.{IsReplicaOf, replica_at}
use Rattle.commit_laws.proofs.commits.Places.{in_at}
use Rattle.commit_laws.proofs.records.MemberKeeps.{KeepsFor}
use Rattle.commit_laws.proofs.records.Replicas.{chain_replica}
use Rattle.commit_laws.proofs.settled.Kept.{AreSame, primary_held, primary_made, settled_kept}

module _ (start : Start) (all : ℕ → List HostStep) (e : HostStep) (es : List HostStep)
    (moment : IsMoment start all (e ∷ es)) (commits : CommitsStand start (logs_of start es))
    (same : current start (logs_of start (e ∷ es)) ≡ current start (logs_of start es)) (key : List ℕ) (tx : TxId)
  where
    abbrev old : ℕ → List HostStep
    old = logs_of start es

    abbrev new : ℕ → List HostStep
    new = logs_of start (e ∷ es)

    abbrev before : IsMoment start all es
    before = moment_less start all e es moment

    abbrev chain_by : View → List Member
    chain_by view = chain_of (layout_in start view) key

    pub primary_was : (m : Member) → IsPrimary start (logs_of start (e ∷ es)) key m
        → IsPrimary start (logs_of start es) key m
    primary_was m is = subst (λ v. slice_get (chain_by v) 0 ≡ Some m) same is

    pub replica_now : (m : Member) → IsReplicaOf start (logs_of start es) key m
        → IsReplicaOf start (logs_of start (e ∷ es)) key m
    replica_now m is = record {
      full = subst (λ (v : View). IsIn m v.full) (sym same) is.full;
      chained = subst (λ v. IsIn m (chain_by v)) (sym same) is.chained;
    }

    pub same_places : (ops : List (Op × Answer)) → AreSame start all e es moment commits key tx ops
    same_places ops = record { primary = λ m is. inr (primary_was m is); written = λ wrote m is. replica_now m is }

    -- who keeps what it has
    abbrev pub MembersKeepIt : Type 0
    MembersKeepIt =
        (m : Member) → IsIn m (made start)
        → KeepsFor tx (replica_at start (logs_of start es) m key) (replica_at start (logs_of start (e ∷ es)) m key)

    module _ (keep : MembersKeepIt) where
      pub settled_still : (ops : List (Op × Answer)) → IsSettledWith start (logs_of start es) key tx ops
          → IsSettledWith start (logs_of start (e ∷ es)) key tx ops
      settled_still ops settled = settled_kept start all e es moment commits key tx ops (same_places ops) keep settled

      module _ (t u : Transaction) (ops : u.ops ≡ t.ops) (asked : u.asked ≡ t.asked) where
        asked_still : (op : Op) → IsAsked start old key tx t op → IsAsked start new key tx u op
        asked_still op asks =
            record { asked = asks.asked; is = asked ∙ asks.is; op_is = asks.op_is; here = asks.here }

        stored_still : (image : Option (List ℕ)) (at : ℕ) → IsStoredTo start old key tx t image at
            → IsStoredTo start new key tx u image at
        stored_still image at s = record {
          op = s.op;
          asks = asked_still s.op s.asks;
          image_is = s.image_is;
          takes_effect =
              λ p is. by_row p (primary_was p is) (λ row. answer_to s.op (row_after_all row (ops_on key u.ops)) ≡ Done)
              (subst (λ w. answer_to s.op (row_behind start old key p w) ≡ Done) (sym ops)
              (s.takes_effect p (primary_was p is)));
          right = λ p is. by_row p (primary_was p is) (λ row. AreRight row (ops_on key u.ops))
              (subst (λ w. AreRight (replica_at start old p key).cell.row (ops_on key w)) (sym ops)
              (s.right p (primary_was p is)));
          stored = λ place m low is.
              let was = subst (λ v. slice_get (chain_by v) place ≡ Some m) same is in
              let there = current_made start all es before m
              (chain_replica start all es before key m (in_at (chain_by (current start old)) place m was)).full in
              subst (HasImageIf true image) (sym (keep m there).found_is) (s.stored place m low was);
          others = λ m there off. (keep m there).found_is ∙ s.others m there (λ is. off (replica_now m is));
          held = λ p is.
              (keep p (primary_made start all e es moment commits key tx t.ops p (primary_was p is))).exclusive
              (s.held p (primary_was p is));
        }
          where
            by_row : (p : Member) → IsPrimary start old key p → (P : Option (List ℕ) → Type 0)
                → P (replica_at start old p key).cell.row → P (replica_at start new p key).cell.row
            by_row p is P so =
                subst P
                (sym ((keep p (primary_made start all e es moment commits key tx t.ops p is)).row
                (primary_held start all e es moment commits key tx t.ops p is)
                (holds_so tx Exclusive (replica_at start old p key).lock.holders (s.held p is)))) so

        pub tells_still : (part : Part) → Tells start (logs_of start es) key tx t part
            → Tells start (logs_of start (e ∷ es)) key tx u part
        tells_still (performs (Operate op) at) tells = (
          asked_still op tells.0,
          subst (IsSettledWith start new key tx) (sym ops) (settled_still t.ops tells.1),
        )
        tells_still (performs (Store own image) at) tells = stored_still image at tells
        tells_still (answers answer) (op, (asks, settled)) = (
          op,
          (
            asked_still op asks,
            subst (λ w. IsSettledWith start new key tx (w ++ (op, answer) ∷ [])) (sym ops)
                (settled_still (t.ops ++ (op, answer) ∷ []) settled),
          ),
        )
        tells_still refuses tells = tt

        pub told_still : (o : Option Part) → Told start (logs_of start es) key tx t o
            → Told start (logs_of start (e ∷ es)) key tx u o
        told_still None told = tt
        told_still (Some part) told = tells_still part told
