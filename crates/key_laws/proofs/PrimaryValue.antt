-- What the row of a key is led to at its primary, event by event, and that a decision is right.
use Rattle.std.proofs.Common.{◌≡◌, ◌⊎◌, ℕ, Bool, true, false, List, [], ◌∷◌, refl, sym, ap, ◌∙◌, subst, inl, inr}
use Rattle.std.specs.Prelude.{if◌then◌else◌, Option, None, Some}
use Rattle.run_theory.specs.Lists.{Each}
use Rattle.run_theory.proofs.Pasts.{each_map}
use Rattle.sig_core.specs.declared.member.TxId.{TxId}
use Rattle.sig_core.specs.declared.op.Answer.{Answer}
use Rattle.sig_core.specs.declared.op.Answer.TheVariants.{Done, Found, Missing, E626, E630}
use Rattle.sig_core.specs.declared.op.Op.{Op}
use Rattle.sig_core.specs.declared.rows.PendingRecord.{PendingRecord}
use Rattle.sig_core.specs.Op.{answer_to, image_of, key_of}
use Rattle.sig_core.specs.Rows as rows
use Rattle.sig_core.specs.Same.{same_tx}
use Rattle.row_locks.specs.declared.mode.Mode.TheVariants.{Exclusive}
use Rattle.row_locks.specs.Holders.{holds}
use Rattle.key_laws.specs.OneKey.{AreRight, row_after_all}
use Rattle.key_laws.specs.Primary.{IsGood, IsLedTo, IsOwned, Primary, seen_at, stored_by}
use Rattle.key_laws.specs.PrimaryLaws.{AbortsKeepValue, CommitsKeepValue, CompletionsKeepValue, DecisionsAreRight}
use Rattle.key_laws.specs.PrimaryLaws.{IsDecidedRightly, OperationsKeepValue}
use Rattle.key_laws.specs.Records.{AreOnce, as_committed, committed, committed_row, edited, found, is_kept, kept_row}
use Rattle.key_laws.specs.Records.{seen_by}
use Rattle.sig_core.proofs.Keys.{same_tx-self}
use Rattle.key_laws.proofs.Holding.{holds_so, only_holder}
use Rattle.key_laws.proofs.RecordLemmas.{OnlyOf, each-edited, each_found, kept_row-aborted, kept_row-committed}
use Rattle.key_laws.proofs.RecordLemmas.{kept_row-completed, kept_row-one, kept_row-others, kept_row-stored}
use Rattle.key_laws.proofs.RecordLemmas.{kept_row-unkept}

stored_value : (kept : TxId → Bool) (value row : Option (List ℕ)) (tx : TxId) (op : Op) (pending : List PendingRecord)
    (answer : Answer) → kept tx ≡ false
    → IsLedTo kept value row pending → IsLedTo kept value row (stored_by answer tx op pending)
stored_value kept value row tx op pending Done off led =
    kept_row-stored kept row (rows.prepared tx (key_of op) (image_of op)) pending off ∙ led
stored_value kept value row tx op pending (Found other) off led = led
stored_value kept value row tx op pending Missing off led = led
stored_value kept value row tx op pending E626 off led = led
stored_value kept value row tx op pending E630 off led = led

pub operations_value : OperationsKeepValue
operations_value p tx op kept value off led =
    stored_value kept value p.row tx op p.pending (answer_to op (seen_at p tx)) off led

pub aborts_value : AbortsKeepValue
aborts_value p tx holders kept value off led = kept_row-aborted kept p.row tx p.pending off ∙ led

pub completions_value : CompletionsKeepValue
completions_value p tx holders kept value led = kept_row-completed kept p.row tx p.pending ∙ led

-- A record that isn't committed is of the one transaction that holds the lock exclusive.
pub only_of : (p : Primary) → IsGood p → (tx : TxId) → holds tx p.holders ≡ true → OnlyOf tx p.pending
only_of p good tx held =
    each_map (IsOwned p.holders) (λ (r : PendingRecord). (r.committed ≡ true) ⊎ (r.tx ≡ tx)) p.pending each good.owned
  where
    each : (r : PendingRecord) → IsOwned p.holders r → (r.committed ≡ true) ⊎ (r.tx ≡ tx)
    each r (inl done) = inl done
    each r (inr is) = inr (sym (only_holder p.holders good.agreed r.tx tx is held))

-- who has a record prepared holds the lock exclusive
pub prepared_holds : (p : Primary) → IsGood p → (tx : TxId) (x : PendingRecord) → found tx p.pending ≡ Some x
    → x.committed ≡ false → holds tx p.holders ≡ true
prepared_holds p good tx x is prepared = by (each_found (IsOwned p.holders) tx p.pending x good.owned is)
  where
    by : IsOwned p.holders x × (x.tx ≡ tx) → holds tx p.holders ≡ true
    by (inl done, own) = absurd (let both : true ≡ false = sym done ∙ prepared in cc)
    by (inr held, own) = ap (λ t. holds t p.holders) (sym own) ∙ holds_so x.tx Exclusive p.holders held

-- once the one record that isn't committed is, all are
pub all_committed : (tx : TxId) (xs : List PendingRecord) → AreOnce xs → OnlyOf tx xs
    → Each (λ (r : PendingRecord). r.committed ≡ true) (edited as_committed tx xs)
all_committed tx xs once only =
    each-edited (λ (r : PendingRecord). (r.committed ≡ true) ⊎ (r.tx ≡ tx)) (λ (r : PendingRecord). r.committed ≡ true)
    as_committed tx xs once others own only
  where
    others : (r : PendingRecord) → same_tx r.tx tx ≡ false → (r.committed ≡ true) ⊎ (r.tx ≡ tx) → r.committed ≡ true
    others r apart (inl done) = done
    others r apart (inr is) =
        absurd (let both : true ≡ false = sym (same_tx-self tx) ∙ (ap (λ t. same_tx t tx) (sym is) ∙ apart) in cc)

    own : (r x : PendingRecord) → same_tx r.tx tx ≡ true → as_committed r ≡ Some x → (r.committed ≡ true) ⊎ (r.tx ≡ tx)
        → x.committed ≡ true
    own r x same is before = let now : committed r ≡ x = cc in sym (ap (λ (r : PendingRecord). r.committed) now)

-- a commit of a transaction with nothing to commit edits nothing that is kept
pub edited_value : (kept : TxId → Bool) (row : Option (List ℕ)) (tx : TxId) (xs : List PendingRecord)
    → ((r : PendingRecord) → found tx xs ≡ Some r → r.committed ≡ true)
    → kept_row kept row (edited as_committed tx xs) ≡ kept_row kept row xs
edited_value kept row tx [] done = refl
edited_value kept row tx (r ∷ rest) done = by (same_tx r.tx tx) refl (λ more. edited_value kept row tx rest more)
  where
    same_record : r.committed ≡ true → committed r ≡ r
    same_record is = λ i. record { tx = r.tx; key = r.key; image = r.image; committed = sym is i; epoch = r.epoch }

    by : (b : Bool) → same_tx r.tx tx ≡ b
        → (((x : PendingRecord) → found tx rest ≡ Some x → x.committed ≡ true) → kept_row kept row
        (edited as_committed tx rest) ≡ kept_row kept row rest)
        → kept_row kept row (if b then committed r ∷ rest else r ∷ edited as_committed tx rest)
        ≡ kept_row kept row (r ∷ rest)
    by true e more =
        ap (λ x. kept_row kept row (x ∷ rest)) (same_record (done r (ap (λ b. if b then Some r else found tx rest) e)))
    by false e more =
        ap (λ w. if is_kept kept r then r.image else w)
        (more (λ x is. done x (ap (λ b. if b then Some r else found tx rest) e ∙ is)))

pub commits_value : CommitsKeepValue
commits_value p tx holders kept value good on led = by (found tx p.pending) refl
  where
    at : (x : PendingRecord) → found tx p.pending ≡ Some x → (b : Bool) → x.committed ≡ b
        → kept_row kept (if b then p.row else x.image) (edited as_committed tx p.pending) ≡ value
    at x is true e = edited_value kept p.row tx p.pending
        (λ r other. let same : x ≡ r = (let both : Some x ≡ Some r = sym is ∙ other in cc) in
        ap (λ (r : PendingRecord). r.committed) (sym same) ∙ e) ∙ led
    at x is false e =
        let only = only_of p good tx (prepared_holds p good tx x is e) in
        kept_row-committed kept x.image (edited as_committed tx p.pending) (all_committed tx p.pending good.once only)
        ∙ sym (kept_row-one kept p.row tx p.pending x only is e
        (on (record { record_is = x; there = is; prepared = e }))) ∙ led

    by : (o : Option PendingRecord) → found tx p.pending ≡ o
        → kept_row kept (committed_row p.row o) (edited as_committed tx p.pending) ≡ value
    by None is = edited_value kept p.row tx p.pending
        (λ r other. absurd (let both : None ≡ Some r = sym is ∙ other in cc)) ∙ led
    by (Some x) is = at x is x.committed refl

pub decisions_right : DecisionsAreRight
decisions_right p tx kept now value good alive too led = by (found tx p.pending) refl
  where
    -- where the transaction holds the lock, the row is what it is led to
    settled : holds tx p.holders ≡ true → value ≡ p.row
    settled held = sym led ∙ kept_row-unkept kept p.row tx p.pending (only_of p good tx held) too.new

    rightly : holds tx p.holders ≡ true → kept_row now p.row p.pending ≡ seen_at p tx → IsDecidedRightly p tx now value
    rightly held leads = record {
      right = subst (λ w. AreRight w (p.made tx)) (sym (settled held)) (good.right tx alive);
      led = leads ∙ sym (good.leads tx alive) ∙ ap (λ w. row_after_all w (p.made tx)) (sym (settled held));
    }

    held_by : found tx p.pending ≡ None → (b : Bool) → holds tx p.holders ≡ b → IsDecidedRightly p tx now value
    held_by is true held =
        rightly held (kept_row-others kept now p.row tx p.pending too.others is ∙ (led ∙ settled held) ∙ sym
        (ap (seen_by p.row) is))
    held_by is false off = record {
      right = subst (AreRight value) (sym (good.none tx alive off)) tt;
      led = kept_row-others kept now p.row tx p.pending too.others is ∙ led
          ∙ sym (ap (row_after_all value) (good.none tx alive off));
    }

    at : (x : PendingRecord) → found tx p.pending ≡ Some x → (b : Bool) → x.committed ≡ b
        → IsDecidedRightly p tx now value
    at x is true e =
        let own =
        each_found (λ (r : PendingRecord). r.committed ≡ true → p.ended r.tx ≡ true) tx p.pending x good.over is in
        absurd (let both : true ≡ false = sym (own.0 e) ∙ (ap p.ended own.1 ∙ alive) in cc)
    at x is false e =
        let held = prepared_holds p good tx x is e in
        rightly held (kept_row-one now p.row tx p.pending x (only_of p good tx held) is e too.own ∙ sym
        (ap (seen_by p.row) is))

    by : (o : Option PendingRecord) → found tx p.pending ≡ o → IsDecidedRightly p tx now value
    by None is = held_by is (holds tx p.holders) refl
    by (Some x) is = at x is x.committed refl
