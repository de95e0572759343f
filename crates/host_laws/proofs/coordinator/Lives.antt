-- Which transactions a coordinator has: those that it has begun and whose end it hasn't reported are among them.
use Rattle.std.proofs.Common.{◌≡◌, ◌⊎◌, ℕ, ◌+◌, ◌<◌, ◌≤◌, List, [], ◌∷◌, ◌++◌, Bool, true, false, refl, ap, sym, ◌∙◌}
use Rattle.std.proofs.Common.{subst, arith, inl, inr}
use Rattle.std.proofs.lemmas.Bool.{and_right, ne_eqb}
use Rattle.std.specs.Prelude.{◌==◌, ◌&&◌, if◌then◌else◌, nat_eq}
use Rattle.indexmap.specs.IndexMap.{insert_entry}
use Rattle.run_theory.proofs.Pasts.{each_append, each_map}
use Rattle.run_theory.specs.Lists.{Each}
use Rattle.sig_core.specs.declared.member.TxId.{TxId}
use Rattle.sig_core.specs.declared.outs.Outgoing.{Outgoing}
use Rattle.sig_core.specs.declared.place.Place.{Place}
use Rattle.sig_core.specs.declared.signal.Body.{Body}
use Rattle.sig_core.specs.declared.signal.Body.TheVariants.{Client}
use Rattle.sig_core.specs.declared.signal.client.ClientSignal.TheVariants.{TcBeginConf, TcCommitConf, TcRollbackRep}
use Rattle.sig_core.specs.Same.{same_tx}
use Rattle.tc_block.specs.declared.transaction.Transaction.{Transaction}
use Rattle.tc_block.specs.Operate.{fresh}
use Rattle.tc_block.specs.State.{TcState}
use Rattle.tc_block.specs.Tc.{next_tx}
use Rattle.host_laws.proofs.api.Begins.{each_changed, each_less}
use Rattle.host_laws.proofs.hosts.SendKinds.{are_of, is_tc_kind, none_of}
use Rattle.run_theory.proofs.Tally.{tally_append, tally_between}
use Rattle.run_theory.specs.Counts.{one_if, tally}
use Rattle.host_laws.proofs.coordinator.Moves.{TcMove, end_of, ends_in, forgets, is_end, is_still_kind, same_tx-is}
use Rattle.host_laws.proofs.coordinator.Moves.{starts, stays, turns}
use Rattle.host_laws.proofs.api.Wishes.{and_false, is_api, sends_of, to_node}
use Rattle.tc_block.specs.Phases.{is_completing}

-- a number that was given before isn't the next one
pub lower_apart : (s : TcState) (v : TxId) → v.seq < s.next_seq → same_tx v (next_tx s) ≡ false
lower_apart s v lt =
    let off : nat_eq v.seq s.next_seq ≡ false = ne_eqb v.seq s.next_seq (λ same. omega (arith, lt, same)) in
    and_right (nat_eq v.tc s.node) (nat_eq v.start s.start && nat_eq v.seq s.next_seq)
    (and_right (nat_eq v.start s.start) (nat_eq v.seq s.next_seq) off)

-- a transaction has begun
abbrev pub start_of : TxId → Body → Bool
start_of tx (Client (TcBeginConf name other)) = same_tx other tx
start_of tx _ = false

abbrev pub is_start : TxId → Place → Body → Bool
is_start tx to body = is_api to.block && start_of tx body

abbrev pub starts_in : TxId → List Outgoing → ℕ
starts_in tx sends = sends_of (to_node 0 (is_start tx)) sends

-- how often the transaction stands among those of a coordinator, and how often as one that completes
abbrev pub is_keyed : TxId → TxId × Transaction → Bool
is_keyed tx e = same_tx e.0 tx

abbrev pub is_over : TxId → TxId × Transaction → Bool
is_over tx e = same_tx e.0 tx && is_completing e.1.phase

-- it has a number that its coordinator has given
pub record IsOwn (node next_seq : ℕ) (tx : TxId) : Type 0 where
  pub early : tx.seq < next_seq
  pub home : tx.tc ≡ node

-- what is so of a transaction at a coordinator that has told so often that it has begun and ended
pub record IsKept (tx : TxId) (s : TcState) (begun ended : ℕ) : Type 0 where
  pub began : tally (is_keyed tx) s.live ≤ begun
  pub order : 1 ≤ ended → 1 ≤ begun
  pub kept : 1 ≤ begun → 1 ≤ tally (is_keyed tx) s.live + ended
  pub told : 1 ≤ tally (is_over tx) s.live → 1 ≤ ended
  pub once : begun ≤ 1
  pub unborn : s.next_seq ≤ tx.seq → begun ≡ 0
  pub own : Each (λ (e : TxId × Transaction). IsOwn s.node s.next_seq e.0) s.live

no_start_tc : (tx one : TxId) (body : Body) → is_tc_kind one body ≡ true → start_of tx body ≡ false
no_start_tc tx one (Client (TcBeginConf name other)) e = cc
no_start_tc tx one _ e = refl

no_start_still : (tx : TxId) (body : Body) → is_still_kind body ≡ true → start_of tx body ≡ false
no_start_still tx (Client (TcBeginConf name other)) e = cc
no_start_still tx _ e = refl

no_end_still : (tx : TxId) (body : Body) → is_still_kind body ≡ true → end_of tx body ≡ false
no_end_still tx (Client (TcCommitConf other epoch)) e = cc
no_end_still tx (Client (TcRollbackRep other cause)) e = cc
no_end_still tx _ e = refl

-- one transaction isn't another
pub apart : (tx one other : TxId) → same_tx one tx ≡ false → same_tx other one ≡ true → same_tx other tx ≡ false
apart tx one other differs same = ap (λ t. same_tx t tx) (same_tx-is other one same) ∙ differs

no_end_other : (tx one : TxId) → same_tx one tx ≡ false → (body : Body) → is_tc_kind one body ≡ true
    → end_of tx body ≡ false
no_end_other tx one differs (Client (TcCommitConf other epoch)) e = apart tx one other differs e
no_end_other tx one differs (Client (TcRollbackRep other cause)) e = apart tx one other differs e
no_end_other tx one differs _ e = refl

no_starts : (tx one : TxId) (sends : List Outgoing) → are_of (is_tc_kind one) sends ≡ true → starts_in tx sends ≡ 0
no_starts tx one sends kind =
    none_of (is_tc_kind one) (to_node 0 (is_start tx))
    (λ to b k. and_false (to.node == 0) (is_api to.block) (no_start_tc tx one b k)) sends kind

no_starts_still : (tx : TxId) (sends : List Outgoing) → are_of is_still_kind sends ≡ true → starts_in tx sends ≡ 0
no_starts_still tx sends kind =
    none_of is_still_kind (to_node 0 (is_start tx))
    (λ to b k. and_false (to.node == 0) (is_api to.block) (no_start_still tx b k)) sends kind

no_ends_still : (tx : TxId) (sends : List Outgoing) → are_of is_still_kind sends ≡ true → ends_in tx sends ≡ 0
no_ends_still tx sends kind =
    none_of is_still_kind (to_node 0 (is_end tx))
    (λ to b k. and_false (to.node == 0) (is_api to.block) (no_end_still tx b k)) sends kind

no_ends_other : (tx one : TxId) (sends : List Outgoing) → same_tx one tx ≡ false → are_of (is_tc_kind one) sends ≡ true
    → ends_in tx sends ≡ 0
no_ends_other tx one sends differs kind =
    none_of (is_tc_kind one) (to_node 0 (is_end tx))
    (λ to b k. and_false (to.node == 0) (is_api to.block) (no_end_other tx one differs b k)) sends kind

-- a new number stands last
pub insert_new : (live : List (TxId × Transaction)) (tx : TxId) (t : Transaction)
    → Each (λ (e : TxId × Transaction). e.0.seq < tx.seq) live → insert_entry same_tx live tx t ≡ live ++ (tx, t) ∷ []
insert_new [] tx t early = refl
insert_new (e ∷ live) tx t early = go (same_tx tx e.0) refl (insert_new live tx t early.1)
  where
    go : (b : Bool) → same_tx tx e.0 ≡ b → insert_entry same_tx live tx t ≡ live ++ (tx, t) ∷ []
        → (if b then (e.0, t) ∷ live else e ∷ insert_entry same_tx live tx t) ≡ e ∷ (live ++ (tx, t) ∷ [])
    go true same rest = absurd (omega (arith, early.0, ap (λ (x : TxId). x.seq) (same_tx-is tx e.0 same)))
    go false same rest = ap (λ es. e ∷ es) rest

-- the same, where nothing was told
kept_same : (tx : TxId) (s : TcState) (b e x y : ℕ) → x ≡ 0 → y ≡ 0 → IsKept tx s b e → IsKept tx s (x + b) (y + e)
kept_same tx s b e x y p q k = record {
  began = omega (arith, k.began, p);
  order = λ h. omega (arith, k.order (omega (arith, h, q)), p);
  kept = λ h. omega (arith, k.kept (omega (arith, h, p)), q);
  told = λ h. omega (arith, k.told h, q);
  once = omega (arith, k.once, p);
  unborn = λ h. omega (arith, k.unborn h, p);
  own = k.own;
}

-- a transaction begins
kept_start : (tx : TxId) (s : TcState) (b e : ℕ) → IsKept tx s b e
    → IsKept tx (record {
      node = s.node;
      start = s.start;
      next_seq = s.next_seq + 1;
      layout = s.layout;
      live = s.live ++
          (next_tx s, fresh) ∷ [];
    }) (one_if (same_tx (next_tx s) tx) + b) e
kept_start tx s b e k = go (same_tx (next_tx s) tx) refl
  where
    keyed : tally (is_keyed tx) (s.live ++ (next_tx s, fresh) ∷ [])
        ≡ tally (is_keyed tx) s.live + (one_if (same_tx (next_tx s) tx) + 0)
    keyed = tally_append (is_keyed tx) s.live ((next_tx s, fresh) ∷ [])

    none : (c : Bool) → one_if (c && false) ≡ 0
    none true = refl
    none false = refl

    done : tally (is_over tx) (s.live ++ (next_tx s, fresh) ∷ []) ≡ tally (is_over tx) s.live
    done = omega (arith, tally_append (is_over tx) s.live ((next_tx s, fresh) ∷ []), none (same_tx (next_tx s) tx))

    go : (m : Bool) → same_tx (next_tx s) tx ≡ m
        → IsKept tx (record {
          node = s.node;
          start = s.start;
          next_seq = s.next_seq + 1;
          layout = s.layout;
          live =
              s.live ++ (next_tx s, fresh) ∷ [];
        }) (one_if (same_tx (next_tx s) tx) + b) e
    go true same =
        let seq : s.next_seq ≡ tx.seq = ap (λ (x : TxId). x.seq) (same_tx-is (next_tx s) tx same) in
        let zero_b : b ≡ 0 = k.unborn (omega (arith, seq)) in
        record {
          began = omega (arith, k.began, keyed);
          order = λ h. omega (arith, ap one_if same);
          kept = λ h. omega (arith, keyed, ap one_if same);
          told = λ h. k.told (omega (arith, h, done));
          once = omega (arith, ap one_if same, zero_b);
          unborn = λ h. absurd (omega (arith, h, seq));
          own =
              each_append (λ (x : TxId × Transaction). IsOwn s.node (s.next_seq + 1) x.0) s.live
              ((next_tx s, fresh) ∷ [])
              (each_map (λ (x : TxId × Transaction). IsOwn s.node s.next_seq x.0)
              (λ (x : TxId × Transaction). IsOwn s.node (s.next_seq + 1) x.0) s.live
              (λ x o. record { early = omega (arith, o.early); home = o.home }) k.own)
              (record { early = omega arith; home = refl }, tt);
        }
    go false same =
        record {
          began = omega (arith, k.began, keyed);
          order = λ h. omega (arith, k.order h);
          kept = λ h. omega (arith, k.kept (omega (arith, h, ap one_if same)), keyed);
          told = λ h. k.told (omega (arith, h, done));
          once = omega (arith, k.once, ap one_if same);
          unborn = λ h. omega (arith, k.unborn (omega (arith, h)), ap one_if same);
          own =
              each_append (λ (x : TxId × Transaction). IsOwn s.node (s.next_seq + 1) x.0) s.live
              ((next_tx s, fresh) ∷ [])
              (each_map (λ (x : TxId × Transaction). IsOwn s.node s.next_seq x.0)
              (λ (x : TxId × Transaction). IsOwn s.node (s.next_seq + 1) x.0) s.live
              (λ x o. record { early = omega (arith, o.early); home = o.home }) k.own)
              (record { early = omega arith; home = refl }, tt);
        }

-- transactions of which so many stand there, and so many complete, after so many reports of its end
kept_live : (tx : TxId) (s : TcState) (live : List (TxId × Transaction)) (b e x y : ℕ) → IsKept tx s b e → x ≡ 0
    → tally (is_keyed tx) live ≤ tally (is_keyed tx) s.live → (1 ≤ y → 1 ≤ tally (is_keyed tx) s.live)
    → (1 ≤ tally (is_keyed tx) s.live → 1 ≤ tally (is_keyed tx) live + (y + e))
    → (1 ≤ tally (is_over tx) live → 1 ≤ y + e) → Each (λ (z : TxId × Transaction). IsOwn s.node s.next_seq z.0) live
    → IsKept tx (record { node = s.node; start = s.start; next_seq = s.next_seq; layout = s.layout; live = live })
    (x + b) (y + e)
kept_live tx s live b e x y k p fewer due left told own = record {
  began = omega (arith, k.began, fewer, p);
  order = λ h. omega (arith, which h, p);
  kept = λ h. stays_some (omega (arith, h, p));
  told = told;
  once = omega (arith, k.once, p);
  unborn = λ h. omega (arith, k.unborn h, p);
  own = own;
}
  where
    some : (m n : ℕ) → 1 ≤ m + n → (1 ≤ m) ⊎ (1 ≤ n)
    some m n h = grind arith

    which : 1 ≤ y + e → 1 ≤ b
    which h = by (some y e h)
      where
        by : (1 ≤ y) ⊎ (1 ≤ e) → 1 ≤ b
        by (inl d) = omega (arith, k.began, due d)
        by (inr d) = k.order d

    stays_some : 1 ≤ b → 1 ≤ tally (is_keyed tx) live + (y + e)
    stays_some h = by (some (tally (is_keyed tx) s.live) e (k.kept h))
      where
        by : (1 ≤ tally (is_keyed tx) s.live) ⊎ (1 ≤ e) → 1 ≤ tally (is_keyed tx) live + (y + e)
        by (inl d) = left d
        by (inr d) = omega (arith, d)

-- one of its transactions takes a turn
kept_turn : (tx one : TxId) (s : TcState) (t u : Transaction) (front back : List (TxId × Transaction))
    (sends : List Outgoing) (b e : ℕ)
    → IsKept tx s b e
    → s.live ≡ front ++ (one, t) ∷ back → are_of (is_tc_kind one) sends ≡ true
    → (is_completing u.phase ≡ true → (is_completing t.phase ≡ true) ⊎ (1 ≤ ends_in one sends))
    → IsKept tx (record {
      node = s.node;
      start = s.start;
      next_seq = s.next_seq;
      layout = s.layout;
      live = front ++
          (one, u) ∷ back;
    }) (starts_in tx sends + b) (ends_in tx sends + e)
kept_turn tx one s t u front back sends b e k is kind told =
    kept_live tx s (front ++ (one, u) ∷ back) b e (starts_in tx sends) (ends_in tx sends) k
    (no_starts tx one sends kind)
    (omega (arith, keyed)) (due (same_tx one tx) refl) (λ h. omega (arith, h, keyed)) (done (same_tx one tx) refl)
    (each_changed (λ (x : TxId × Transaction). IsOwn s.node s.next_seq x.0) front (one, t) (one, u) back s.live is k.own
    (λ o. o))
  where
    keyed : tally (is_keyed tx) (front ++ (one, u) ∷ back) ≡ tally (is_keyed tx) s.live
    keyed =
        omega (
          arith,
          tally_between (is_keyed tx) front (one, t) back s.live is,
          tally_between (is_keyed tx) front (one, u) back (front ++ (one, u) ∷ back) refl,
        )

    due : (m : Bool) → same_tx one tx ≡ m → 1 ≤ ends_in tx sends → 1 ≤ tally (is_keyed tx) s.live
    due true same h = omega (arith, tally_between (is_keyed tx) front (one, t) back s.live is, ap one_if same)
    due false same h = absurd (omega (arith, h, no_ends_other tx one sends same kind))

    done_old : tally (is_over tx) s.live ≡ tally (is_over tx) (front ++ back)
        + one_if (same_tx one tx && is_completing t.phase)
    done_old = tally_between (is_over tx) front (one, t) back s.live is

    done_new : tally (is_over tx) (front ++ (one, u) ∷ back)
        ≡ tally (is_over tx) (front ++ back) + one_if (same_tx one tx && is_completing u.phase)
    done_new = tally_between (is_over tx) front (one, u) back (front ++ (one, u) ∷ back) refl

    done : (m : Bool) → same_tx one tx ≡ m → 1 ≤ tally (is_over tx) (front ++ (one, u) ∷ back)
        → 1 ≤ ends_in tx sends + e
    done false same h =
        let before : 1 ≤ tally (is_over tx) s.live =
        omega (
          arith,
          h,
          done_new,
          done_old,
          ap (λ m. one_if (m && is_completing u.phase)) same,
          ap (λ m. one_if (m && is_completing t.phase)) same,
        ) in
        omega (arith, k.told before)
    done true same h = by (is_completing u.phase) refl
      where
        by : (c : Bool) → is_completing u.phase ≡ c → 1 ≤ ends_in tx sends + e
        by false c =
            let before : 1 ≤ tally (is_over tx) s.live =
            omega (arith, h, done_new, done_old, ap (λ m. one_if (m && is_completing u.phase)) same, ap one_if c) in
            omega (arith, k.told before)
        by true c = which (told c)
          where
            which : (is_completing t.phase ≡ true) ⊎ (1 ≤ ends_in one sends) → 1 ≤ ends_in tx sends + e
            which (inl was) =
                let before : 1 ≤ tally (is_over tx) s.live =
                omega (arith, done_old, ap (λ m. one_if (m && is_completing t.phase)) same, ap one_if was) in
                omega (arith, k.told before)
            which (inr some) =
                let here : 1 ≤ ends_in tx sends = subst (λ x. 1 ≤ ends_in x sends) (same_tx-is one tx same) some in
                omega (arith, here)

-- or is forgotten
kept_forget : (tx one : TxId) (s : TcState) (t : Transaction) (front back : List (TxId × Transaction))
    (sends : List Outgoing) (b e : ℕ)
    → IsKept tx s b e
    → s.live ≡ front ++ (one, t) ∷ back → are_of (is_tc_kind one) sends ≡ true
    → (is_completing t.phase ≡ true) ⊎ (1 ≤ ends_in one sends)
    → IsKept tx (record {
      node = s.node;
      start = s.start;
      next_seq = s.next_seq;
      layout = s.layout;
      live = front ++ back;
    }) (starts_in tx sends + b) (ends_in tx sends + e)
kept_forget tx one s t front back sends b e k is kind told =
    kept_live tx s (front ++ back) b e (starts_in tx sends) (ends_in tx sends) k (no_starts tx one sends kind)
    (omega (arith, keyed)) (due (same_tx one tx) refl) (left (same_tx one tx) refl)
    (λ h. let before : 1 ≤ tally (is_over tx) s.live = omega (arith, h, done_old) in omega (arith, k.told before))
    (each_less (λ (x : TxId × Transaction). IsOwn s.node s.next_seq x.0) front (one, t) back s.live is k.own)
  where
    keyed : tally (is_keyed tx) s.live ≡ tally (is_keyed tx) (front ++ back) + one_if (same_tx one tx)
    keyed = tally_between (is_keyed tx) front (one, t) back s.live is

    done_old : tally (is_over tx) s.live ≡ tally (is_over tx) (front ++ back)
        + one_if (same_tx one tx && is_completing t.phase)
    done_old = tally_between (is_over tx) front (one, t) back s.live is

    due : (m : Bool) → same_tx one tx ≡ m → 1 ≤ ends_in tx sends → 1 ≤ tally (is_keyed tx) s.live
    due true same h = omega (arith, keyed, ap one_if same)
    due false same h = absurd (omega (arith, h, no_ends_other tx one sends same kind))

    left : (m : Bool) → same_tx one tx ≡ m → 1 ≤ tally (is_keyed tx) s.live
        → 1 ≤ tally (is_keyed tx) (front ++ back) + (ends_in tx sends + e)
    left false same h = omega (arith, h, keyed, ap one_if same)
    left true same h = which told
      where
        which : (is_completing t.phase ≡ true) ⊎ (1 ≤ ends_in one sends)
            → 1 ≤ tally (is_keyed tx) (front ++ back) + (ends_in tx sends + e)
        which (inl was) =
            let before : 1 ≤ tally (is_over tx) s.live =
            omega (arith, done_old, ap (λ m. one_if (m && is_completing t.phase)) same, ap one_if was) in
            omega (arith, k.told before)
        which (inr some) =
            let here : 1 ≤ ends_in tx sends = subst (λ x. 1 ≤ ends_in x sends) (same_tx-is one tx same) some in
            omega (arith, here)

-- a step of a coordinator keeps all that
pub kept_move : (tx : TxId) (s after : TcState) (sends : List Outgoing) (b e : ℕ) → TcMove s after sends
    → IsKept tx s b e → IsKept tx after (starts_in tx sends + b) (ends_in tx sends + e)
kept_move tx s after sends b e (stays is kind) k =
    subst (λ a. IsKept tx a (starts_in tx sends + b) (ends_in tx sends + e)) (sym is)
    (kept_same tx s b e (starts_in tx sends) (ends_in tx sends) (no_starts_still tx sends kind)
    (no_ends_still tx sends kind) k)
kept_move tx s after sends b e (turns one t u front back is now kind told) k =
    subst (λ a. IsKept tx a (starts_in tx sends + b) (ends_in tx sends + e)) (sym now)
    (kept_turn tx one s t u front back sends b e k is kind told)
kept_move tx s after sends b e (forgets one t front back is now kind told) k =
    subst (λ a. IsKept tx a (starts_in tx sends + b) (ends_in tx sends + e)) (sym now)
    (kept_forget tx one s t front back sends b e k is kind told)
kept_move tx s after sends b e (starts name is told) k =
    subst (λ a. IsKept tx a (starts_in tx sends + b) (ends_in tx sends + e)) (sym (is ∙ ap (λ live. record {
      node = s.node;
      start = s.start;
      next_seq = s.next_seq + 1;
      layout = s.layout;
      live = live;
    })
    (insert_new s.live (next_tx s) fresh (each_map (λ (x : TxId × Transaction). IsOwn s.node s.next_seq x.0)
    (λ (x : TxId × Transaction). x.0.seq < s.next_seq) s.live (λ x o. o.early) k.own))))
    (subst (λ n. IsKept tx grown n (ends_in tx sends + e)) (sym begins)
    (subst (λ n. IsKept tx grown (one_if (same_tx (next_tx s) tx) + b) n) (sym ends) (kept_start tx s b e k)))
  where
    grown : TcState
    grown = record {
      node = s.node;
      start = s.start;
      next_seq = s.next_seq + 1;
      layout = s.layout;
      live = s.live ++ (next_tx s, fresh) ∷ [];
    }

    begins : starts_in tx sends + b ≡ one_if (same_tx (next_tx s) tx) + b
    begins = omega (arith, ap (starts_in tx) told)

    ends : ends_in tx sends + e ≡ e
    ends = omega (arith, ap (ends_in tx) told)

-- the end is reported of one that has begun
pub due_move : (tx : TxId) (s after : TcState) (sends : List Outgoing) (b e : ℕ) → TcMove s after sends
    → IsKept tx s b e → 1 ≤ ends_in tx sends → 1 ≤ b
due_move tx s after sends b e (stays is kind) k some = absurd (omega (arith, some, no_ends_still tx sends kind))
due_move tx s after sends b e (starts name is told) k some = absurd (omega (arith, some, ap (ends_in tx) told))
due_move tx s after sends b e (turns one t u front back is now kind told) k some = go (same_tx one tx) refl
  where
    go : (m : Bool) → same_tx one tx ≡ m → 1 ≤ b
    go true same = omega (arith, k.began, tally_between (is_keyed tx) front (one, t) back s.live is, ap one_if same)
    go false same = absurd (omega (arith, some, no_ends_other tx one sends same kind))
due_move tx s after sends b e (forgets one t front back is now kind told) k some = go (same_tx one tx) refl
  where
    go : (m : Bool) → same_tx one tx ≡ m → 1 ≤ b
    go true same = omega (arith, k.began, tally_between (is_keyed tx) front (one, t) back s.live is, ap one_if same)
    go false same = absurd (omega (arith, some, no_ends_other tx one sends same kind))
