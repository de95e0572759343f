-- What a member sends for a part of an operation that it performs tells the truth.
use Rattle.std.proofs.Common.{◌≡◌, ◌⊎◌, ◌+◌, ◌++◌, ◌∙◌, ℕ, Bool, true, false, List, [], ◌∷◌, refl, sym, ap, subst}
use Rattle.std.specs.List.{slice_get}
use Rattle.std.specs.Prelude.{if◌then◌else◌, Option, None, Some}
use Rattle.run_theory.specs.Lists.{IsIn}
use Rattle.frag_map.specs.Layout.{chain_of}
use Rattle.row_locks.specs.declared.mode.Mode.TheVariants.{Exclusive}
use Rattle.row_locks.specs.Holders.{holds_enough}
use Rattle.sig_core.specs.declared.member.Member.{Member}
use Rattle.sig_core.specs.declared.member.TxId.{TxId}
use Rattle.sig_core.specs.declared.op.Answer.{Answer}
use Rattle.sig_core.specs.declared.op.Answer.TheVariants.{Done, E626, E630, Found, Missing}
use Rattle.sig_core.specs.declared.op.Op.{Op}
use Rattle.sig_core.specs.declared.op.Op.TheVariants.{Get}
use Rattle.sig_core.specs.declared.rows.PendingRecord.{PendingRecord}
use Rattle.sig_core.specs.declared.signal.chain.RowWork.{RowWork}
use Rattle.sig_core.specs.declared.signal.chain.RowWork.TheVariants.{Operate, Store}
use Rattle.sig_core.specs.Op.{answer_to, image_of, key_of}
use Rattle.sig_core.specs.Rows.{prepared}
use Rattle.sig_core.proofs.Keys.{same_tx-self}
use Rattle.tc_block.specs.declared.transaction.Transaction.{Transaction}
use Rattle.lqh_block.specs.Work.{op_mode, work_mode}
use Rattle.key_laws.specs.Records.{found, seen_by}
use Rattle.key_laws.specs.Replica.{Cell, operated, storing, worked}
use Rattle.key_laws.proofs.Holding.{holds_so}
use Rattle.key_laws.proofs.RecordLemmas.{found-stored}
use Rattle.run_laws.proofs.tokens.Signals.{operated_token, passed_token, stored_token, work_token}
use Rattle.run_laws.specs.Routes.{IsWorkAt}
use Rattle.world_core.specs.History.{is_done}
use Rattle.world_core.specs.Start.{Start, made}
use Rattle.world_core.specs.Steps.{HostStep}
use Rattle.moment_laws.specs.Moments.{current}
use Rattle.request_laws.specs.Routed.{layout_in}
use Rattle.commit_laws.specs.Parts.{IsAsked, IsStoredTo, Tells, performs}
use Rattle.commit_laws.specs.Settled.{HasImageIf, IsPrimary, IsSettledWith, is_get, row_behind}
use Rattle.commit_laws.specs.Traces.{IsReplicaOf, record_at, replica_at}
use Rattle.commit_laws.proofs.parts.Performs.{answered_settles, seen_is, stored_first, stored_on, whole_settled}
use Rattle.commit_laws.proofs.parts.Sent.{part_by}

module _ (start : Start) (old new : ℕ → List HostStep) (same : current start new ≡ current start old) (key : List ℕ)
    (tx : TxId)
    (me : Member)
    (others_same : (m : Member) → IsIn m (made start)
    → (m ≡ me) ⊎ (replica_at start new m key ≡ replica_at start old m key))
    (chain_made : (place : ℕ) (m : Member)
    → slice_get (chain_of (layout_in start (current start old)) key) place ≡ Some m
    → IsReplicaOf start old key m × IsIn m (made start))
    (row_same : (replica_at start new me key).cell.row ≡ (replica_at start old me key).cell.row)
    (t : Transaction) (cell : Cell) (cell_is : cell ≡ (replica_at start old me key).cell) (refused : Bool)
    (kept : holds_enough tx Exclusive (replica_at start old me key).lock.holders ≡ true
    → holds_enough tx Exclusive (replica_at start new me key).lock.holders ≡ true)
  where
    abbrev chain_old : List Member
    chain_old = chain_of (layout_in start (current start old)) key

    abbrev now : Option PendingRecord
    now = record_at start new me key tx

    -- an image that was prepared here
    has_image : (own : List ℕ) (image : Option (List ℕ))
        → (replica_at start new me key).cell ≡ storing cell tx own image false
        → HasImageIf true image now
    has_image own image is = (
      prepared tx own image,
      (
        ap (λ (c : Cell). found tx c.pending) is
            ∙ (found-stored tx (prepared tx own image) cell.pending
            ∙ ap (λ b. if b then Some (prepared tx own image) else found tx cell.pending) (same_tx-self tx)),
        (refl, refl),
      ),
    )

    -- it goes on to the next place, or is answered
    passes_on : (own : List ℕ) (image : Option (List ℕ)) (at : ℕ) → IsStoredTo start new key tx t image (at + 1)
        → (next : Option Member) → slice_get chain_old (at + 1) ≡ next
        → Tells start new key tx t (part_by (passed_token own image at next))
    passes_on own image at all (Some next) is = all
    passes_on own image at all None is = (
      all.op,
      (
        all.asks,
        whole_settled start new key tx t image (at + 1) all
            (subst (λ v. slice_get (chain_of (layout_in start v) key) (at + 1) ≡ None) (sym same) is),
      ),
    )

    -- an image
    pub stores_tell : (own : List ℕ) (image : Option (List ℕ)) (at : ℕ)
        → slice_get (chain_of (layout_in start (current start old)) key) at ≡ Some me → (b : Bool)
        → (replica_at start new me key).cell ≡ storing cell tx own image b
        → IsStoredTo start old key tx t image at
        → Tells start new key tx t
        (part_by (stored_token own image (chain_of (layout_in start (current start old)) key) at b))
    stores_tell own image at place true is was = tt
    stores_tell own image at place false is was =
        passes_on own image at
        (stored_on start old new same key tx me others_same chain_made row_same t image (has_image own image is) at was
        place
        kept)
        (slice_get chain_old (at + 1)) refl

    -- an operation
    module _ (op : Op) (primary : IsPrimary start old key me) (asks : IsAsked start old key tx t op)
        (settled : IsSettledWith start old key tx t.ops)
        (held : holds_enough tx (op_mode op) (replica_at start new me key).lock.holders ≡ true)
      where
        abbrev left : Option (List ℕ)
        left = row_behind start old key me t.ops

        seen_left : seen_by cell.row (found tx cell.pending) ≡ left
        seen_left =
            ap (λ (c : Cell). seen_by c.row (found tx c.pending)) cell_is
            ∙ seen_is start old new same key tx me others_same chain_made row_same t primary settled op asks

        not_get : (op : Op) → is_get op ≡ false → op_mode op ≡ Exclusive
        not_get (Get own) off = absurd cc
        not_get op off = refl

        done_not : (o : Op) (row : Option (List ℕ)) → answer_to o row ≡ Done → is_get o ≡ false
        unfolding answer_to
        done_not (Get own) None is = absurd cc
        done_not (Get own) (Some value) is = absurd cc
        done_not o row is = refl

        exclusive : is_get op ≡ false → holds_enough tx Exclusive (replica_at start new me key).lock.holders ≡ true
        exclusive off =
            subst (λ m. holds_enough tx m (replica_at start new me key).lock.holders ≡ true) (not_get op off) held

        now_asks : IsAsked start new key tx t op
        now_asks = record { asked = asks.asked; is = asks.is; op_is = asks.op_is; here = asks.here }

        -- it takes no effect
        plain : (answer : Answer) → answer_to op (seen_by cell.row (found tx cell.pending)) ≡ answer
            → is_done answer ≡ false → (replica_at start new me key).cell ≡ cell
            → (o : Op) × (IsAsked start new key tx t o × IsSettledWith start new key tx (t.ops ++ (o, answer) ∷ []))
        plain answer is off same_cell = (
          op,
          (
            now_asks,
            answered_settles start old new same key tx me others_same chain_made row_same t primary settled op asks
                answer
                (sym is ∙ ap (answer_to op) seen_left) off
                (ap (λ (c : Cell). found tx c.pending) (same_cell ∙ cell_is))
                (holds_so tx (op_mode op) (replica_at start new me key).lock.holders held) kept exclusive,
          ),
        )

        takes_effect : (b : Bool) → answer_to op (seen_by cell.row (found tx cell.pending)) ≡ Done
            → (replica_at start new me key).cell ≡ storing cell tx (key_of op) (image_of op) b
            → Tells start new key tx t (part_by (stored_token (key_of op) (image_of op) chain_old 0 b))
        takes_effect true is cell_now = tt
        takes_effect false is cell_now =
            passes_on (key_of op) (image_of op) 0
            (stored_first start old new same key tx me others_same chain_made row_same t primary settled op asks
            (ap (answer_to op) (sym seen_left) ∙ is)
            (exclusive (done_not op (seen_by cell.row (found tx cell.pending)) is))
            (has_image (key_of op) (image_of op) cell_now))
            (slice_get chain_old 1) refl

        by_answer : (answer : Answer) → answer_to op (seen_by cell.row (found tx cell.pending)) ≡ answer
            → (replica_at start new me key).cell ≡ operated cell tx op refused answer
            → Tells start new key tx t (part_by (operated_token op chain_old 0 refused answer))
        by_answer Done is cell_now = takes_effect refused is cell_now
        by_answer (Found value) is cell_now = plain (Found value) is refl cell_now
        by_answer Missing is cell_now = plain Missing is refl cell_now
        by_answer E626 is cell_now = plain E626 is refl cell_now
        by_answer E630 is cell_now = plain E630 is refl cell_now

        pub operates_tell : (replica_at start new me key).cell ≡ worked cell tx refused (Operate op)
            → Tells start new key tx t
            (part_by (work_token cell tx (chain_of (layout_in start (current start old)) key) 0 refused (Operate op)))
        operates_tell is = by_answer (answer_to op (seen_by cell.row (found tx cell.pending))) refl is

    -- whatever part it is
    pub performs_tell : (w : RowWork) (at : ℕ) → IsWorkAt at w
        → slice_get (chain_of (layout_in start (current start old)) key) at ≡ Some me
        → (replica_at start new me key).cell ≡ worked cell tx refused w
        → holds_enough tx (work_mode w) (replica_at start new me key).lock.holders ≡ true
        → Tells start old key tx t (performs w at)
        → Tells start new key tx t
        (part_by (work_token cell tx (chain_of (layout_in start (current start old)) key) at refused w))
    performs_tell (Store own image) at placed place is held tells = stores_tell own image at place refused is tells
    performs_tell (Operate op) at placed place is held tells =
        subst
        (λ n. Tells start new key tx t (part_by (work_token cell tx chain_old n refused (Operate op)))) (sym placed)
        (operates_tell op (subst (λ n. slice_get chain_old n ≡ Some me) placed place) tells.0 tells.1 held is)
