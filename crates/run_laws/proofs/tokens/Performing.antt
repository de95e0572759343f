-- A replica performs a part of an operation, and what it sends then tells the truth.
use Rattle.std.proofs.Common.{◌≡◌, ◌⊎◌, ◌≢◌, ◌<◌, ◌≤◌, ◌+◌, ◌++◌, ℕ, Bool, true, false, length, List, [], ◌∷◌, refl}
use Rattle.std.proofs.Common.{sym, ap, ◌∙◌, subst, inl, inr, arith}
use Rattle.std.proofs.lemmas.Bool.{cases_eq}
use Rattle.std.proofs.lemmas.Bool.Decides.{nat_tests}
use Rattle.std.proofs.lemmas.Option.{slice_get-get_or}
use Rattle.std.specs.Prelude.{if◌then◌else◌, nat_lt, slice_get, Option, None, Some}
use Rattle.sig_core.specs.declared.member.Member.{Member}
use Rattle.sig_core.specs.declared.member.TxId.{TxId}
use Rattle.sig_core.specs.declared.op.Answer.{Answer}
use Rattle.sig_core.specs.declared.op.Answer.TheVariants.{Done, Found, Missing, E626, E630}
use Rattle.sig_core.specs.declared.op.Op.{Op}
use Rattle.sig_core.specs.declared.rows.PendingRecord.{PendingRecord}
use Rattle.sig_core.specs.declared.signal.chain.RowWork.{RowWork}
use Rattle.sig_core.specs.declared.signal.chain.RowWork.TheVariants.{Operate, Store}
use Rattle.sig_core.specs.Op.{answer_to, image_of, key_of}
use Rattle.sig_core.specs.Rows.{prepared}
use Rattle.tc_block.specs.declared.transaction.Transaction.{Transaction}
use Rattle.world_core.specs.History.{is_done}
use Rattle.world_core.specs.Start.{Start}
use Rattle.key_laws.specs.Primary.{noted}
use Rattle.key_laws.specs.PrimaryEvents.{made_by, noted_unless}
use Rattle.key_laws.specs.Records.{found, seen_by, stored}
use Rattle.key_laws.specs.Replica.{Cell, operated, storing, worked}
use Rattle.sig_core.proofs.Keys.{same_tx-self}
use Rattle.key_laws.proofs.RecordLemmas.{found-stored}
use Rattle.run_laws.specs.Routes.{IsWorkAt, primary_host, replica_host, replicas}
use Rattle.run_laws.proofs.circle.View.{HasIt, IsAsked, IsStoring, Settles, Stores, Tells, View, answers_settle}
use Rattle.run_laws.proofs.circle.View.{last_settles, next_stores, writes_store}
use Rattle.run_laws.proofs.tokens.Signals.{answers, operated_token, passed_token, performs, stored_token, work_token}

not_none : (xs : List Member) (at : ℕ) → slice_get xs at ≡ None → at < length xs → ⊥
not_none xs at none low =
    let there = slice_get-get_or xs at (record { node = 0; start = 0 }) low in
    some_none (slice_get xs at) none there
  where
    some_none : {x : Member} (o : Option Member) → o ≡ None → o ≡ Some x → ⊥
    some_none o none there = cc

module _ (start : Start) (tx : TxId) (key : List ℕ) where
  -- A host with this cell performs some work, and the primary had made these answers.
  pub record IsPerformed (v w : View) (h : ℕ) (c : Cell) (what : RowWork) (refused : Bool)
      (m : TxId → List (Op × Answer)) : Type 0 where
    pub was : v.rec h ≡ found tx c.pending
    pub here : w.rec h ≡ found tx (worked c tx refused what).pending
    pub elsewhere : (g : ℕ) → g ≢ h → w.rec g ≡ v.rec g
    pub ended : w.ended ≡ v.ended
    pub answered : m tx ≡ v.made
    pub made : h ≡ primary_host start key → w.made ≡ made_by m c tx refused what tx
    pub unmade : h ≢ primary_host start key → w.made ≡ v.made

  noted_own : (m : TxId → List (Op × Answer)) (op : Op × Answer) → noted m tx op tx ≡ m tx ++ op ∷ []
  noted_own m op = ap (λ b. if b then m tx ++ op ∷ [] else m tx) (same_tx-self tx)

  stored_own : (own : List ℕ) (image : Option (List ℕ)) (xs : List PendingRecord)
      → found tx (stored (prepared tx own image) xs) ≡ Some (prepared tx own image)
  stored_own own image xs = found-stored tx (prepared tx own image) xs
      ∙ ap (λ b. if b then Some (prepared tx own image) else found tx xs) (same_tx-self tx)

  -- all records are as before
  as_before : (v w : View) (h : ℕ) → w.rec h ≡ v.rec h → ((g : ℕ) → g ≢ h → w.rec g ≡ v.rec g) → (g : ℕ)
      → w.rec g ≡ v.rec g
  as_before v w h here elsewhere g = by (cases_eq g h)
    where
      by : (g ≡ h) ⊎ (g ≢ h) → w.rec g ≡ v.rec g
      by (inl is) = subst (λ g. w.rec g ≡ v.rec g) (sym is) here
      by (inr off) = elsewhere g off

  -- behind the last place
  past_end : (at : ℕ) → slice_get (replicas start key) (at + 1) ≡ None → length (replicas start key) ≤ at + 1
  past_end at none = by (nat_lt (at + 1) (length (replicas start key))) refl
    where
      by : (b : Bool) → nat_lt (at + 1) (length (replicas start key)) ≡ b → length (replicas start key) ≤ at + 1
      by true e = absurd (not_none (replicas start key) (at + 1) none (grind (arith, nat_tests, e)))
      by false e = grind (arith, nat_tests, e)

  -- an image that was prepared goes on, or is answered
  passes_on : (w : View) (t : Transaction) (own : List ℕ) (op : Op) (image : Option (List ℕ)) (at : ℕ)
      (next : Option Member) → slice_get (replicas start key) (at + 1) ≡ next
      → IsAsked start key t op → Stores start key w (at + 1) image op t.ops
      → Tells start key w t (passed_token own image at next)
  passes_on w t own op image at None is asks stores =
      record {
        op = op;
        asks = asks;
        settles = last_settles start key w (at + 1) t.ops op image stores asks.here
            (omega arith) (past_end at is);
      }
  passes_on w t own op image at (Some next) is asks stores = record { op = op; asks = asks; stores = stores }

  -- an operation at the primary
  module _ (v w : View) (t : Transaction) (h : ℕ) (c : Cell) (op : Op) (m : TxId → List (Op × Answer))
      (inside : 0 < length (replicas start key)) (first : h ≡ primary_host start key)
      (was : v.rec h ≡ found tx c.pending) (elsewhere : (g : ℕ) → g ≢ h → w.rec g ≡ v.rec g) (ended : w.ended ≡ v.ended)
      (answered : m tx ≡ v.made) (settled : Settles start key v t.ops)
      (asks : IsAsked start key t op) where
    plain_tells : (answer : Answer) → is_done answer ≡ false → w.rec h ≡ found tx c.pending
        → w.made ≡ noted m tx (op, answer) tx → Tells start key w t (answers answer)
    plain_tells answer plain here made = record {
      op = op;
      asks = asks;
      settles = answers_settle start key v w t.ops op answer settled asks.here plain
          (made ∙ noted_own m (op, answer) ∙ ap (λ xs. xs ++ (op, answer) ∷ []) answered) ended
          (as_before v w h (here ∙ sym was) elsewhere);
    }

    written_tells : (refused : Bool) → w.rec h ≡ found tx (operated c tx op refused Done).pending
        → w.made ≡ noted_unless m tx op Done refused tx
        → Tells start key w t (operated_token op (replicas start key) 0 refused Done)
    written_tells true here made = inl (record { op = op; asks = asks })
    written_tells false here made =
        passes_on w t (key_of op) op (image_of op) 0 (slice_get (replicas start key) (0 + 1)) refl asks
        (writes_store start key v w t.ops op (image_of op) settled asks.here inside
        (made ∙ noted_own m (op, Done) ∙ ap (λ xs. xs ++ (op, Done) ∷ []) answered) ended
        (subst (λ g. HasIt (image_of op) (w.rec g)) first
        (record {
          is_record = prepared tx (key_of op) (image_of op);
          there = here ∙ stored_own (key_of op) (image_of op) c.pending;
          alive = refl;
          image_is = refl;
        }))
        (λ g off. elsewhere g (λ is. off (is ∙ first))))

    operated_tells : (refused : Bool) (answer : Answer) → w.rec h ≡ found tx (operated c tx op refused answer).pending
        → w.made ≡ noted_unless m tx op answer refused tx
        → Tells start key w t (operated_token op (replicas start key) 0 refused answer)
    operated_tells refused Done here made = written_tells refused here made
    operated_tells refused (Found value) here made = plain_tells (Found value) refl here made
    operated_tells refused Missing here made = plain_tells Missing refl here made
    operated_tells refused E626 here made = plain_tells E626 refl here made
    operated_tells refused E630 here made = plain_tells E630 refl here made

  -- an image behind it
  stored_tells : (v w : View) (t : Transaction) (h : ℕ) (c : Cell) (own : List ℕ) (image : Option (List ℕ)) (at : ℕ)
      → at < length (replicas start key) → h ≡ replica_host start key at
      → v.rec h ≡ found tx c.pending → ((g : ℕ) → g ≢ h → w.rec g ≡ v.rec g) → w.ended ≡ v.ended → w.made ≡ v.made
      → IsStoring start key v t image at
      → (refused : Bool) → w.rec h ≡ found tx (storing c tx own image refused).pending
      → Tells start key w t (stored_token own image (replicas start key) at refused)
  stored_tells v w t h c own image at inside place was elsewhere ended made tells true here = inl (record {
    op = tells.op;
    asks = tells.asks;
  })
  stored_tells v w t h c own image at inside place was elsewhere ended made tells false here =
      passes_on w t own tells.op image at (slice_get (replicas start key) (at + 1)) refl tells.asks
      (next_stores start key v w at t.ops tells.op image h tells.stores inside place made ended
      (record {
        is_record = prepared tx own image;
        there = here ∙ stored_own own image c.pending;
        alive = refl;
        image_is
            = refl;
      }) elsewhere)

  pub performed_tells : (v w : View) (t : Transaction) (h : ℕ) (c : Cell) (what : RowWork) (refused : Bool)
      (m : TxId → List (Op × Answer)) (at : ℕ)
      → at < length (replicas start key) → h ≡ replica_host start key at → IsWorkAt at what
      → IsPerformed v w h c what refused m
      → Tells start key v t (performs what at)
      → Tells start key w t (work_token c tx (replicas start key) at refused what)
  performed_tells v w t h c (Operate op) refused m at inside place first p tells =
      subst (λ at. Tells start key w t (operated_token op (replicas start key) at refused
      (answer_to op (seen_by c.row (found tx c.pending))))) (sym first)
      (operated_tells v w t h c op m (subst (λ at. at < length (replicas start key)) first inside) at_primary p.was
      p.elsewhere p.ended p.answered tells.0 tells.1
      refused (answer_to op (seen_by c.row (found tx c.pending))) p.here (p.made at_primary))
    where
      at_primary : h ≡ primary_host start key
      at_primary = place ∙ ap (replica_host start key) first
  performed_tells v w t h c (Store own image) refused m at inside place behind p tells =
      stored_tells v w t h c own image at inside place p.was p.elsewhere p.ended
      (by (cases_eq h (primary_host start key))) tells refused p.here
    where
      by : (h ≡ primary_host start key) ⊎ (h ≢ primary_host start key) → w.made ≡ v.made
      by (inl is) = p.made is ∙ p.answered
      by (inr off) = p.unmade off
