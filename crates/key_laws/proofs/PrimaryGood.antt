-- The events of one key keep it in good order at its primary.
use Rattle.std.proofs.Common.{◌≡◌, ◌⊎◌, ℕ, Bool, true, false, ◌||◌, List, [], ◌∷◌, ◌++◌, refl, sym, ap, ◌∙◌, subst, inl}
use Rattle.std.proofs.Common.{inr}
use Rattle.std.specs.Prelude.{if◌then◌else◌, Option, None, Some}
use Rattle.std.proofs.lemmas.Bool.{or_parts, false_from_ne_true}
use Rattle.run_theory.specs.Lists.{Each}
use Rattle.run_theory.proofs.Pasts.{each_map}
use Rattle.sig_core.specs.declared.member.TxId.{TxId}
use Rattle.sig_core.specs.declared.op.Answer.{Answer}
use Rattle.sig_core.specs.declared.op.Answer.TheVariants.{Done, Found, Missing, E626, E630}
use Rattle.sig_core.specs.declared.op.Op.{Op}
use Rattle.sig_core.specs.declared.op.Op.TheVariants.{Get}
use Rattle.sig_core.specs.declared.rows.PendingRecord.{PendingRecord}
use Rattle.sig_core.specs.Op.{answer_to, image_of, key_of}
use Rattle.sig_core.specs.Rows.{prepared}
use Rattle.sig_core.specs.Same.{same_tx}
use Rattle.row_locks.specs.declared.claim.Holder.{Holder}
use Rattle.row_locks.specs.declared.mode.Mode.TheVariants.{Exclusive}
use Rattle.row_locks.specs.Holders.{holds, holds_enough}
use Rattle.sig_core.proofs.TxLemmas.{same_tx-is, same_tx-swap}
use Rattle.lqh_block.specs.Work.{op_mode}
use Rattle.key_laws.specs.OneKey.{AreRight, row_after, row_after_all, row_by}
use Rattle.key_laws.specs.Primary.{HasPrepared, HoldOn, IsGood, IsOwned, Primary, answered, ended_too, ended_with}
use Rattle.key_laws.specs.Primary.{seen_at, stored_by}
use Rattle.key_laws.specs.PrimaryLaws.{AbortsKeepGood, CommitsKeepGood, CompletionsKeepGood, GrantsKeepGood}
use Rattle.key_laws.specs.PrimaryLaws.{OperationsKeepGood}
use Rattle.key_laws.specs.Records.{AreOnce, as_committed, committed, committed_row, edited, found, if_committed}
use Rattle.key_laws.specs.Records.{seen_by, unless_committed}
use Rattle.sig_core.proofs.Keys.{same_tx-self}
use Rattle.key_laws.proofs.Holding.{holds_so, only_holder}
use Rattle.key_laws.proofs.RecordLemmas.{KeepsTx, committed_keeps, each-edited, each-stored, each_apart, each_both}
use Rattle.key_laws.proofs.RecordLemmas.{each_found, found-edited, found-stored, if_keeps, once-edited, once-stored}
use Rattle.key_laws.proofs.RecordLemmas.{unless_keeps}

right_end : (row : Option (List ℕ)) (xs : List (Op × Answer)) (op : Op × Answer) → AreRight row xs
    → op.1 ≡ answer_to op.0 (row_after_all row xs) → AreRight row (xs ++ op ∷ [])
right_end row [] op all is = (is, tt)
right_end row (x ∷ xs) op all is = (all.0, right_end (row_after x.0 row) xs op all.1 is)

after_end : (row : Option (List ℕ)) (xs : List (Op × Answer)) (op : Op × Answer)
    → row_after_all row (xs ++ op ∷ []) ≡ row_after op.0 (row_after_all row xs)
after_end row [] op = refl
after_end row (x ∷ xs) op = after_end (row_after x.0 row) xs op

-- more holders
pub still_owned : (gone : TxId → Bool) (before after : List Holder) → HoldOn gone before after → (r : PendingRecord)
    → gone r.tx ≡ false → IsOwned before r → IsOwned after r
still_owned gone before after on r here (inl is) = inl is
still_owned gone before after on r here (inr is) = inr (on.exclusive r.tx here is)

not_held : (gone : TxId → Bool) (before after : List Holder) → HoldOn gone before after → (v : TxId) → gone v ≡ false
    → holds v after ≡ false → holds v before ≡ false
not_held gone before after on v here off = false_from_ne_true (holds v before)
    (λ held. absurd (let both : true ≡ false = sym (on.held v here held) ∙ off in cc))

pub grants_keep : GrantsKeepGood
grants_keep p holders good on = record {
  right = good.right;
  leads = good.leads;
  once = good.once;
  owned = each_map (IsOwned p.holders) (IsOwned holders) p.pending
      (λ r is. still_owned (λ v. false) p.holders holders on r refl is) good.owned;
  over = good.over;
  none = λ v alive off. good.none v alive (not_held (λ v. false) p.holders holders on v refl off);
  agreed = on.agreed;
}

either : {A : Type 0} (b : Bool) (x : A) → x ≡ (if b then x else x)
either true x = refl
either false x = refl

-- only a write of a transaction that holds the lock exclusive takes effect
pub writes_exclusive : (op : Op) (row : Option (List ℕ)) → answer_to op row ≡ Done → op_mode op ≡ Exclusive
unfolding answer_to
writes_exclusive (Get key) None is = absurd cc
writes_exclusive (Get key) (Some value) is = absurd cc
writes_exclusive _ row is = refl

-- one operation
module _ (p : Primary) (tx : TxId) (op : Op) (good : IsGood p) (locked : holds_enough tx (op_mode op) p.holders ≡ true)
  where
    abbrev written : PendingRecord
    written = prepared tx (key_of op) (image_of op)

    seen_after : (answer : Answer) (v : TxId)
        → seen_by p.row (found v (stored_by answer tx op p.pending))
        ≡ (if same_tx tx v then row_by answer op (seen_at p v) else seen_at p v)
    seen_after Done v = ap (seen_by p.row) (found-stored v written p.pending) ∙ by (same_tx tx v)
      where
        by : (b : Bool)
            → seen_by p.row (if b then Some written else found v p.pending) ≡ (if b then image_of op else seen_at p v)
        by true = refl
        by false = refl
    seen_after (Found value) v = either (same_tx tx v) (seen_at p v)
    seen_after Missing v = either (same_tx tx v) (seen_at p v)
    seen_after E626 v = either (same_tx tx v) (seen_at p v)
    seen_after E630 v = either (same_tx tx v) (seen_at p v)

    stored_once : (answer : Answer) → AreOnce (stored_by answer tx op p.pending)
    stored_once Done = once-stored written p.pending good.once
    stored_once (Found value) = good.once
    stored_once Missing = good.once
    stored_once E626 = good.once
    stored_once E630 = good.once

    stored_each : (P : PendingRecord → Type 0) (answer : Answer) → (answer ≡ Done → P written) → Each P p.pending
        → Each P (stored_by answer tx op p.pending)
    stored_each P Done own all = each-stored P written p.pending (own refl) all
    stored_each P (Found value) own all = all
    stored_each P Missing own all = all
    stored_each P E626 own all = all
    stored_each P E630 own all = all

    answered_keep : (answer : Answer) → answer ≡ answer_to op (seen_at p tx) → IsGood (answered p tx op answer)
    answered_keep answer is = record {
      right = λ v alive. right_by v (same_tx tx v) refl alive;
      leads = λ v alive. leads_by v (same_tx tx v) refl alive ∙ sym (seen_after answer v);
      once = stored_once answer;
      owned = stored_each (IsOwned p.holders) answer
          (λ done. inr (subst (λ mode. holds_enough tx mode p.holders ≡ true)
          (writes_exclusive op (seen_at p tx) (sym is ∙ done)) locked)) good.owned;
      over =
          stored_each (λ (r : PendingRecord). r.committed ≡ true → p.ended r.tx ≡ true) answer (λ done over. absurd cc)
          good.over;
      none = λ v alive off. none_by v (same_tx tx v) refl alive off;
      agreed = good.agreed;
    }
      where
        right_by : (v : TxId) (b : Bool) → same_tx tx v ≡ b → p.ended v ≡ false
            → AreRight p.row (if b then p.made v ++ (op, answer) ∷ [] else p.made v)
        right_by v true e alive =
            right_end p.row (p.made v) (op, answer) (good.right v alive)
            (is ∙ ap (λ t. answer_to op (seen_at p t)) (same_tx-is tx v e)
            ∙ ap (answer_to op) (sym (good.leads v alive)))
        right_by v false e alive = good.right v alive

        leads_by : (v : TxId) (b : Bool) → same_tx tx v ≡ b → p.ended v ≡ false
            → row_after_all p.row (if b then p.made v ++ (op, answer) ∷ [] else p.made v)
            ≡ (if b then row_by answer op (seen_at p v) else seen_at p v)
        leads_by v true e alive =
            after_end p.row (p.made v) (op, answer) ∙ ap (row_after op) (good.leads v alive)
            ∙ ap (λ a. row_by a op (seen_at p v)) (sym (is ∙ ap (λ t. answer_to op (seen_at p t)) (same_tx-is tx v e)))
        leads_by v false e alive = good.leads v alive

        none_by : (v : TxId) (b : Bool) → same_tx tx v ≡ b → p.ended v ≡ false → holds v p.holders ≡ false
            → (if b then p.made v ++ (op, answer) ∷ [] else p.made v) ≡ []
        none_by v true e alive off =
            let held : holds v p.holders ≡ true =
            ap (λ t. holds t p.holders) (sym (same_tx-is tx v e)) ∙ holds_so tx (op_mode op) p.holders locked in
            absurd (let both : true ≡ false = sym held ∙ off in cc)
        none_by v false e alive off = good.none v alive off

pub operations_keep : OperationsKeepGood
operations_keep p tx op good locked = answered_keep p tx op good locked (answer_to op (seen_at p tx)) refl

-- the end of a transaction
module _ (p : Primary) (tx : TxId) (row : Option (List ℕ)) (f : PendingRecord → Option PendingRecord)
    (holders : List Holder) where
  -- the row is as it was, or nobody else was answered from it
  abbrev pub LeavesRow : Type 0
  LeavesRow = (v : TxId) → p.ended v ≡ false → same_tx tx v ≡ false
      → (row ≡ p.row) ⊎ ((holds v p.holders ≡ false) × (found v p.pending ≡ None))

  ends_keep : KeepsTx f → IsGood p → HoldOn (same_tx tx) p.holders holders → LeavesRow
      → Each (IsOwned holders) (edited f tx p.pending) → IsGood (ended_with p tx row f holders)
  ends_keep keeps good on leaves owned = record {
    right = λ v alive. let parts = or_parts (same_tx tx v) (p.ended v) alive in
        right_by v parts.1 (leaves v parts.1 parts.0);
    leads = λ v alive. let parts = or_parts (same_tx tx v) (p.ended v) alive in
        leads_by v parts.1 (leaves v parts.1 parts.0)
        ∙ ap (seen_by row) (sym (found-edited f keeps tx v p.pending parts.0));
    once = once-edited f keeps tx p.pending good.once;
    owned = owned;
    over = each-edited (λ (r : PendingRecord). r.committed ≡ true → p.ended r.tx ≡ true)
        (λ (r : PendingRecord). r.committed ≡ true → ended_too p.ended tx r.tx ≡ true) f tx p.pending good.once
        (λ r apart over is. over_other (same_tx tx r.tx) (p.ended r.tx) (over is))
        (λ r x own is over done. over_own (same_tx tx x.tx) (p.ended x.tx)
        (same_tx-swap tx x.tx ∙ ap (λ t. same_tx t tx) (keeps r x is) ∙ own)) good.over;
    none = λ v alive off. let parts = or_parts (same_tx tx v) (p.ended v) alive in
        good.none v parts.1 (not_held (same_tx tx) p.holders holders on v parts.0 off);
    agreed = on.agreed;
  }
    where
      over_other : (b c : Bool) → c ≡ true → (b || c) ≡ true
      over_other true c is = refl
      over_other false c is = is

      over_own : (b c : Bool) → b ≡ true → (b || c) ≡ true
      over_own true c is = refl
      over_own false c is = absurd cc

      right_by : (v : TxId) → p.ended v ≡ false
          → (row ≡ p.row) ⊎ ((holds v p.holders ≡ false) × (found v p.pending ≡ None)) → AreRight row (p.made v)
      right_by v alive (inl same) = subst (λ w. AreRight w (p.made v)) (sym same) (good.right v alive)
      right_by v alive (inr off) = subst (AreRight row) (sym (good.none v alive off.0)) tt

      leads_by : (v : TxId) → p.ended v ≡ false
          → (row ≡ p.row) ⊎ ((holds v p.holders ≡ false) × (found v p.pending ≡ None))
          → row_after_all row (p.made v) ≡ seen_by row (found v p.pending)
      leads_by v alive (inl same) =
          subst (λ w. row_after_all w (p.made v) ≡ seen_by w (found v p.pending)) (sym same) (good.leads v alive)
      leads_by v alive (inr off) = ap (row_after_all row) (good.none v alive off.0) ∙ sym (ap (seen_by row) off.1)

  -- the other transactions' records are of their holders still
  others_owned : HoldOn (same_tx tx) p.holders holders → (r : PendingRecord) → same_tx r.tx tx ≡ false
      → IsOwned p.holders r → IsOwned holders r
  others_owned on r apart is = still_owned (same_tx tx) p.holders holders on r (same_tx-swap tx r.tx ∙ apart) is

-- where the transaction had something to commit nobody else was answered from the row
commit_leaves : (p : Primary) (tx : TxId) → IsGood p → (holders : List Holder)
    → LeavesRow p tx (committed_row p.row (found tx p.pending)) as_committed holders
commit_leaves p tx good holders v alive apart = by (found tx p.pending) refl
  where
    beside : (x : PendingRecord) → IsOwned p.holders x × (x.tx ≡ tx) → x.committed ≡ false
        → (holds v p.holders ≡ false) × (found v p.pending ≡ None)
    beside x (inl done, own) waits = absurd (let both : true ≡ false = sym done ∙ waits in cc)
    beside x (inr is, own) waits =
        let exclusive : holds_enough tx Exclusive p.holders ≡ true =
        ap (λ t. holds_enough t Exclusive p.holders) (sym own) ∙ is in
        (alone exclusive, unrecorded exclusive (found v p.pending) refl)
      where
        alone : holds_enough tx Exclusive p.holders ≡ true → holds v p.holders ≡ false
        alone exclusive = false_from_ne_true (holds v p.holders) (λ held.
            let same : v ≡ tx = only_holder p.holders good.agreed tx v exclusive held in
            absurd (let both : true ≡ false = sym (same_tx-self tx) ∙ ap (same_tx tx) (sym same) ∙ apart in cc))

        other : holds_enough tx Exclusive p.holders ≡ true → (y : PendingRecord) → IsOwned p.holders y × (y.tx ≡ v)
            → (y.committed ≡ true → p.ended y.tx ≡ true) → ⊥
        other exclusive y (inl done, at) over =
            let both : true ≡ false = sym (over done) ∙ (ap p.ended at ∙ alive) in absurd cc
        other exclusive y (inr held, at) over =
            let both : true ≡ false = sym (holds_so y.tx Exclusive p.holders held)
            ∙ (ap (λ t. holds t p.holders) at ∙ alone exclusive) in absurd cc

        unrecorded : holds_enough tx Exclusive p.holders ≡ true → (o : Option PendingRecord) → found v p.pending ≡ o
            → found v p.pending ≡ None
        unrecorded exclusive None is = is
        unrecorded exclusive (Some y) is =
            absurd (other exclusive y (each_found (IsOwned p.holders) v p.pending y good.owned is)
            (each_found (λ (r : PendingRecord). r.committed ≡ true → p.ended r.tx ≡ true) v p.pending y good.over is).0)

    by : (o : Option PendingRecord) → found tx p.pending ≡ o
        → (committed_row p.row o ≡ p.row) ⊎ ((holds v p.holders ≡ false) × (found v p.pending ≡ None))
    by None is = inl refl
    by (Some x) is = at x.committed refl
      where
        at : (b : Bool) → x.committed ≡ b
            → ((if b then p.row else x.image) ≡ p.row) ⊎ ((holds v p.holders ≡ false) × (found v p.pending ≡ None))
        at true e = inl refl
        at false e = inr (beside x (each_found (IsOwned p.holders) tx p.pending x good.owned is) e)

pub commits_keep : CommitsKeepGood
commits_keep p tx holders good on =
    let row = committed_row p.row (found tx p.pending) in
    ends_keep p tx row as_committed holders committed_keeps good on (commit_leaves p tx good holders)
    (each-edited (IsOwned p.holders) (IsOwned holders) as_committed tx p.pending good.once
    (others_owned p tx row as_committed holders on)
    (λ r x own is before. inl (done r x is)) good.owned)
  where
    done : (r x : PendingRecord) → as_committed r ≡ Some x → x.committed ≡ true
    done r x is = let now : committed r ≡ x = cc in sym (ap (λ (r : PendingRecord). r.committed) now)

pub aborts_keep : AbortsKeepGood
aborts_keep p tx holders good on =
    ends_keep p tx p.row if_committed holders if_keeps good on (λ v alive apart. inl refl)
    (each-edited (IsOwned p.holders) (IsOwned holders) if_committed tx p.pending good.once
    (others_owned p tx p.row if_committed holders on)
    (λ r x own is before. inl (done r x r.committed refl is)) good.owned)
  where
    done : (r x : PendingRecord) (b : Bool) → r.committed ≡ b → (if b then Some r else None) ≡ Some x
        → x.committed ≡ true
    done r x true e is = let same : r ≡ x = cc in ap (λ (r : PendingRecord). r.committed) (sym same) ∙ e
    done r x false e is = absurd cc

-- a transaction that has nothing prepared has only what is committed
pub each_settled : (tx : TxId) (xs : List PendingRecord) → AreOnce xs → (HasPrepared tx xs → ⊥)
    → Each (λ (r : PendingRecord). r.tx ≡ tx → r.committed ≡ true) xs
each_settled tx [] once none = tt
each_settled tx (r ∷ rest) once none = by (same_tx r.tx tx) refl (each_settled tx rest once.1)
  where
    here : same_tx r.tx tx ≡ true → (b : Bool) → r.committed ≡ b → r.committed ≡ true
    here e true is = is
    here e false is = absurd (none (record {
      record_is = r;
      there = ap (λ b. if b then Some r else found tx rest) e;
      prepared = is;
    }))

    unlike : (x : PendingRecord) → same_tx x.tx tx ≡ false → x.tx ≡ tx → x.committed ≡ true
    unlike x apart is =
        absurd (let both : true ≡ false = sym (same_tx-self tx) ∙ (ap (λ t. same_tx t tx) (sym is) ∙ apart) in cc)

    by : (b : Bool) → same_tx r.tx tx ≡ b
        → ((HasPrepared tx rest → ⊥) → Each (λ (r : PendingRecord). r.tx ≡ tx → r.committed ≡ true) rest)
        → Each (λ (r : PendingRecord). r.tx ≡ tx → r.committed ≡ true) (r ∷ rest)
    by true e more = (
      λ is. here e r.committed refl,
      each_map (λ (x : PendingRecord). same_tx x.tx tx ≡ false) (λ (x : PendingRecord). x.tx ≡ tx → x.committed ≡ true)
          rest unlike
          (each_apart tx rest (ap (λ t. found t rest) (sym (same_tx-is r.tx tx e)) ∙ once.0)),
    )
    by false e more = (
      unlike r e,
      more (λ has. none (record {
        record_is = has.record_is;
        there = ap (λ b. if b then Some r else found tx rest) e ∙ has.there;
        prepared = has.prepared;
      })),
    )

pub completions_keep : CompletionsKeepGood
completions_keep p tx holders good settled on =
    ends_keep p tx p.row unless_committed holders unless_keeps good on (λ v alive apart. inl refl)
    (each-edited Both (IsOwned holders) unless_committed tx p.pending good.once
    (λ r apart both. others_owned p tx p.row unless_committed holders on r apart both.0)
    (λ r x own is both. gone r x r.committed (both.1 (same_tx-is r.tx tx own)) is)
    (each_both (IsOwned p.holders) (λ (r : PendingRecord). r.tx ≡ tx → r.committed ≡ true) Both p.pending
    (λ r a b. (a, b)) good.owned (each_settled tx p.pending good.once settled)))
  where
    Both : PendingRecord → Type 0
    Both = λ r. IsOwned p.holders r × (r.tx ≡ tx → r.committed ≡ true)

    gone : (r x : PendingRecord) (b : Bool) → b ≡ true → (if b then None else Some r) ≡ Some x → IsOwned holders x
    gone r x true e is = absurd cc
    gone r x false e is = absurd cc
