-- What is seen of one transaction on one key, and what each signal of its operation tells of that.
use Rattle.std.proofs.Common.{◌≡◌, ◌⊎◌, ◌≢◌, ◌<◌, ◌≤◌, ◌+◌, ◌||◌, ◌++◌, ℕ, Bool, true, false, length, List, [], ◌∷◌}
use Rattle.std.proofs.Common.{refl, sym, ap, ◌∙◌, subst, subst₂, inl, inr, arith}
use Rattle.std.proofs.lemmas.Bool.{cases_eq}
use Rattle.std.proofs.lemmas.List.Folds.{list_any-append}
use Rattle.std.specs.List.{list_any}
use Rattle.std.specs.Prelude.{is_some, Option, None, Some}
use Rattle.sig_core.specs.declared.op.Answer.{Answer}
use Rattle.sig_core.specs.declared.op.Answer.TheVariants.{Done}
use Rattle.sig_core.specs.declared.op.Op.{Op}
use Rattle.sig_core.specs.declared.rows.PendingRecord.{PendingRecord}
use Rattle.sig_core.specs.declared.signal.chain.RowWork.TheVariants.{Operate, Store}
use Rattle.sig_core.specs.Op.{key_of}
use Rattle.sig_core.specs.Same.{same_key}
use Rattle.lqh_block.specs.declared.request.Request.{Request}
use Rattle.tc_block.specs.declared.phase.Asked.{Asked}
use Rattle.tc_block.specs.declared.transaction.Transaction.{Transaction}
use Rattle.world_core.specs.History.{is_done}
use Rattle.world_core.specs.Start.{Start}
use Rattle.key_laws.specs.OneKey.{ops_on}
use Rattle.run_laws.specs.Circle.{Agree, IsReplica}
use Rattle.run_laws.specs.Routes.{primary_host, replica_host, replicas}
use Rattle.run_laws.proofs.tokens.Signals.{Token, answers, performs, refuses}
use Rattle.run_laws.proofs.circle.OthersStay.{filter-end}

-- what its primary answered, and whether it ended there; at each host its record and its requests that wait
pub record View : Type 0 where
  pub made : List (Op × Answer)
  pub ended : Bool
  pub rec : ℕ → Option PendingRecord
  pub waits : ℕ → List Request

-- it has an image prepared
pub record HasIt (image : Option (List ℕ)) (o : Option PendingRecord) : Type 0 where
  pub is_record : PendingRecord
  pub there : o ≡ Some is_record
  pub alive : is_record.committed ≡ false
  pub image_is : is_record.image ≡ image

-- one has the records and answers of the other
pub record IsAs (v w : View) : Type 0 where
  pub made : w.made ≡ v.made
  pub ended : w.ended ≡ v.ended
  pub rec : (h : ℕ) → w.rec h ≡ v.rec h

both_have : (image : Option (List ℕ)) (a b : Option PendingRecord) → HasIt image a → HasIt image b → Agree a b
both_have image a b has other =
    subst₂ Agree (sym has.there) (sym other.there) (has.image_is ∙ sym other.image_is, (has.alive, other.alive))

module _ (start : Start) (key : List ℕ) where
  -- the key is settled for these operations
  pub record Settles (v : View) (ops : List (Op × Answer)) : Type 0 where
    pub made : v.made ≡ ops_on key ops
    pub alive : v.ended ≡ false
    pub agreed : (h : ℕ) → IsReplica start key h → Agree (v.rec (primary_host start key)) (v.rec h)
    pub others : (h : ℕ) → (IsReplica start key h → ⊥) → v.rec h ≡ None
    pub written : is_some (v.rec (primary_host start key))
        ≡ list_any (λ (op : Op × Answer). is_done op.1) (ops_on key ops)

  -- an operation's image is prepared at the places below this one
  pub record Stores (v : View) (at : ℕ) (image : Option (List ℕ)) (op : Op) (ops : List (Op × Answer)) : Type 0 where
    pub made : v.made ≡ ops_on key (ops ++ (op, Done) ∷ [])
    pub alive : v.ended ≡ false
    pub prepared : (j : ℕ) → j < at → HasIt image (v.rec (replica_host start key j))
    pub others : (h : ℕ) → (IsReplica start key h → ⊥) → v.rec h ≡ None

  -- an operation on the key is unanswered
  pub record IsAsked (t : Transaction) (op : Op) : Type 0 where
    pub asked : Asked
    pub is : t.asked ≡ Some asked
    pub op_is : asked.op ≡ op
    pub here : same_key (key_of op) key ≡ true

  pub record IsAskedHere (t : Transaction) : Type 0 where
    pub op : Op
    pub asks : IsAsked t op

  pub record IsStoring (v : View) (t : Transaction) (image : Option (List ℕ)) (at : ℕ) : Type 0 where
    pub op : Op
    pub asks : IsAsked t op
    pub stores : Stores v at image op t.ops

  pub record IsAnswered (v : View) (t : Transaction) (answer : Answer) : Type 0 where
    pub op : Op
    pub asks : IsAsked t op
    pub settles : Settles v (t.ops ++ (op, answer) ∷ [])

  -- what a token tells
  abbrev pub Tells : View → Transaction → Token → Type 0
  Tells v t (performs (Operate op) at) = Settles v t.ops × IsAsked t op
  Tells v t (performs (Store own image) at) = IsStoring v t image at
  Tells v t (answers answer) = IsAnswered v t answer
  Tells v t refuses = IsAskedHere t ⊎ Settles v t.ops

  -- the same of what is as before
  pub settles_as : (v w : View) (ops : List (Op × Answer)) → IsAs v w → Settles v ops → Settles w ops
  settles_as v w ops like s = record {
    made = like.made ∙ s.made;
    alive = like.ended ∙ s.alive;
    agreed = λ h is. subst₂ Agree (sym (like.rec (primary_host start key))) (sym (like.rec h)) (s.agreed h is);
    others = λ h off. like.rec h ∙ s.others h off;
    written = ap is_some (like.rec (primary_host start key)) ∙ s.written;
  }

  has_as : (image : Option (List ℕ)) (a b : Option PendingRecord) → b ≡ a → HasIt image a → HasIt image b
  has_as image a b is has = record {
    is_record = has.is_record;
    there = is ∙ has.there;
    alive = has.alive;
    image_is = has.image_is;
  }

  stores_as : (v w : View) (at : ℕ) (image : Option (List ℕ)) (op : Op) (ops : List (Op × Answer)) → IsAs v w
      → Stores v at image op ops → Stores w at image op ops
  stores_as v w at image op ops like s = record {
    made = like.made ∙ s.made;
    alive = like.ended ∙ s.alive;
    prepared = λ j low. has_as image (v.rec (replica_host start key j)) (w.rec (replica_host start key j))
        (like.rec (replica_host start key j)) (s.prepared j low);
    others = λ h off. like.rec h ∙ s.others h off;
  }

  pub tells_as : (v w : View) (t : Transaction) (token : Token) → IsAs v w → Tells v t token → Tells w t token
  tells_as v w t (performs (Operate op) at) like tells = (settles_as v w t.ops like tells.0, tells.1)
  tells_as v w t (performs (Store own image) at) like tells = record {
    op = tells.op;
    asks = tells.asks;
    stores = stores_as v w at image tells.op t.ops like tells.stores;
  }
  tells_as v w t (answers answer) like tells = record {
    op = tells.op;
    asks = tells.asks;
    settles = settles_as v w (t.ops ++ (tells.op, answer) ∷ []) like tells.settles;
  }
  tells_as v w t refuses like (inl asked) = inl asked
  tells_as v w t refuses like (inr settled) = inr (settles_as v w t.ops like settled)

  -- an operation on the key, and on another one
  pub ops_own : (ops : List (Op × Answer)) (op : Op × Answer) → same_key (key_of op.0) key ≡ true
      → ops_on key (ops ++ op ∷ []) ≡ ops_on key ops ++ op ∷ []
  ops_own ops op here = filter-end (λ (op : Op × Answer). same_key (key_of op.0) key) ops op true here

  pub ops_other : (ops : List (Op × Answer)) (op : Op × Answer) → same_key (key_of op.0) key ≡ false
      → ops_on key (ops ++ op ∷ []) ≡ ops_on key ops
  ops_other ops op off = filter-end (λ (op : Op × Answer). same_key (key_of op.0) key) ops op false off

  pub settles_other : (v : View) (ops : List (Op × Answer)) (op : Op × Answer) → same_key (key_of op.0) key ≡ false
      → Settles v ops → Settles v (ops ++ op ∷ [])
  settles_other v ops op off s = record {
    made = s.made ∙ sym (ops_other ops op off);
    alive = s.alive;
    agreed = s.agreed;
    others = s.others;
    written = s.written ∙ ap (list_any (λ (op : Op × Answer). is_done op.1)) (sym (ops_other ops op off));
  }

  -- whether there is a write, with one more operation on the key
  any_own : (ops : List (Op × Answer)) (op : Op) (answer : Answer) → same_key (key_of op) key ≡ true
      → list_any (λ (op : Op × Answer). is_done op.1) (ops_on key (ops ++ (op, answer) ∷ []))
      ≡ (list_any (λ (op : Op × Answer). is_done op.1) (ops_on key ops) || (is_done answer || false))
  any_own ops op answer here =
      ap (list_any (λ (op : Op × Answer). is_done op.1)) (ops_own ops (op, answer) here)
      ∙ list_any-append (λ (op : Op × Answer). is_done op.1) (ops_on key ops) ((op, answer) ∷ [])

  or_false : (a b : Bool) → b ≡ false → (a || (b || false)) ≡ a
  or_false true b off = refl
  or_false false b off = ap (λ b. b || false) off

  or_true : (a b : Bool) → b ≡ true → (a || (b || false)) ≡ true
  or_true true b is = refl
  or_true false b is = ap (λ b. b || false) is

  -- The primary answers an operation that isn't a write that takes effect.
  pub answers_settle : (v w : View) (ops : List (Op × Answer)) (op : Op) (answer : Answer) → Settles v ops
      → same_key (key_of op) key ≡ true → is_done answer ≡ false
      → w.made ≡ v.made ++ (op, answer) ∷ [] → w.ended ≡ v.ended → ((h : ℕ) → w.rec h ≡ v.rec h)
      → Settles w (ops ++ (op, answer) ∷ [])
  answers_settle v w ops op answer s here plain made ended rec = record {
    made = made ∙ ap (λ xs. xs ++ (op, answer) ∷ []) s.made ∙ sym (ops_own ops (op, answer) here);
    alive = ended ∙ s.alive;
    agreed = λ h is. subst₂ Agree (sym (rec (primary_host start key))) (sym (rec h)) (s.agreed h is);
    others = λ h off. rec h ∙ s.others h off;
    written = ap is_some (rec (primary_host start key)) ∙ s.written
        ∙ sym (any_own ops op answer here ∙ or_false (list_any (λ (op : Op × Answer). is_done op.1) (ops_on key ops))
        (is_done answer) plain);
  }

  -- It prepares the image of a write.
  pub writes_store : (v w : View) (ops : List (Op × Answer)) (op : Op) (image : Option (List ℕ)) → Settles v ops
      → same_key (key_of op) key ≡ true → 0 < length (replicas start key)
      → w.made ≡ v.made ++ (op, Done) ∷ [] → w.ended ≡ v.ended → HasIt image (w.rec (primary_host start key))
      → ((h : ℕ) → h ≢ primary_host start key → w.rec h ≡ v.rec h)
      → Stores w 1 image op ops
  writes_store v w ops op image s here some made ended has rec = record {
    made = made ∙ ap (λ xs. xs ++ (op, Done) ∷ []) s.made ∙ sym (ops_own ops (op, Done) here);
    alive = ended ∙ s.alive;
    prepared = λ j low. let first : 0 ≡ j = omega (arith, low) in
        subst (λ j. HasIt image (w.rec (replica_host start key j))) first has;
    others = λ h off. rec h (λ is. off (record { at = 0; inside = some; host_is = sym is })) ∙ s.others h off;
  }

  -- The next place prepares it too.
  pub next_stores : (v w : View) (at : ℕ) (ops : List (Op × Answer)) (op : Op) (image : Option (List ℕ)) (h : ℕ)
      → Stores v at image op ops → at < length (replicas start key) → h ≡ replica_host start key at
      → w.made ≡ v.made → w.ended ≡ v.ended → HasIt image (w.rec h) → ((g : ℕ) → g ≢ h → w.rec g ≡ v.rec g)
      → Stores w (at + 1) image op ops
  next_stores v w at ops op image h s inside place made ended has rec = record {
    made = made ∙ s.made;
    alive = ended ∙ s.alive;
    prepared = λ j low. which j low (cases_eq (replica_host start key j) h);
    others = λ g off. rec g (λ is. off (record { at = at; inside = inside; host_is = sym place ∙ sym is }))
        ∙ s.others g off;
  }
    where
      which : (j : ℕ) → j < at + 1 → (replica_host start key j ≡ h) ⊎ (replica_host start key j ≢ h)
          → HasIt image (w.rec (replica_host start key j))
      which j low (inl is) = subst (λ g. HasIt image (w.rec g)) (sym is) has
      which j low (inr off) = has_as image (v.rec (replica_host start key j)) (w.rec (replica_host start key j))
          (rec (replica_host start key j) off) (s.prepared j (below (cases_eq j at)))
        where
          below : (j ≡ at) ⊎ (j ≢ at) → j < at
          below (inl same) = absurd (off (ap (replica_host start key) same ∙ sym place))
          below (inr differs) = omega (arith, low, differs)

  -- At the last place the write is done.
  pub last_settles : (v : View) (at : ℕ) (ops : List (Op × Answer)) (op : Op) (image : Option (List ℕ))
      → Stores v at image op ops → same_key (key_of op) key ≡ true → 0 < at → length (replicas start key) ≤ at
      → Settles v (ops ++ (op, Done) ∷ [])
  last_settles v at ops op image s here some past = record {
    made = s.made;
    alive = s.alive;
    agreed = λ h is. both_have image (v.rec (primary_host start key)) (v.rec h) first
        (subst (λ g. HasIt image (v.rec g)) is.host_is (s.prepared is.at (omega (arith, is.inside, past))));
    others = s.others;
    written = ap is_some first.there ∙ sym
        (any_own ops op Done here ∙ or_true (list_any (λ (op : Op × Answer). is_done op.1) (ops_on key ops)) true refl);
  }
    where
      first : HasIt image (v.rec (primary_host start key))
      first = s.prepared 0 some
