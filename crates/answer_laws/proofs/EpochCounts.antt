-- Which transactions the block of epochs counts, told from what its node's coordinator sends it.
use Rattle.std.proofs.Common.{◌≡◌, ℕ, ◌+◌, ◌≤◌, ◌<◌, List, [], ◌∷◌, ◌++◌, length, Bool, true, false, cond, refl, ap}
use Rattle.std.proofs.Common.{sym, ◌∙◌, subst, arith}
use Rattle.std.specs.Prelude.{◌==◌, ◌&&◌, not, nat_lt, if◌then◌else◌, Option, None, Some, position, remove}
use Rattle.std.specs.List.{prefix_len}
use Rattle.std.proofs.lemmas.Bool.{false≢true}
use Rattle.std.proofs.lemmas.Bool.Decides.{nat_tests}
use Rattle.run_theory.specs.Links.{put}
use Rattle.sig_core.specs.declared.member.TxId.{TxId}
use Rattle.sig_core.specs.declared.outs.Outgoing.{Outgoing}
use Rattle.sig_core.specs.declared.place.Place.{Place}
use Rattle.sig_core.specs.declared.signal.Body.{Body}
use Rattle.sig_core.specs.declared.signal.Body.TheVariants.{Epoch}
use Rattle.sig_core.specs.declared.signal.epoch.EpochSignal.TheVariants.{DiVerifyReq, DiVerifyEnd}
use Rattle.sig_core.specs.Same.{same_tx}
use Rattle.tc_block.specs.declared.tc.TheConstants.{TRANSACTIONS}
use Rattle.world_core.specs.Hosts.{first_membership, host_for}
use Rattle.world_core.specs.Machine.{addressed, all_addressed, counted as one_counted, machine}
use Rattle.world_core.specs.Start.{Start}
use Rattle.world_core.specs.Steps.{Addressed}
use Rattle.run_laws.proofs.hosts.AlongSteps.{is_dih}
use Rattle.run_theory.proofs.Focus.{IsFocus, absent, found}
use Rattle.host_laws.proofs.hosts.SendKinds.{are_of}
use Rattle.run_theory.proofs.Tally.{tally_between}
use Rattle.run_theory.specs.Counts.{one_if, tally}
use Rattle.host_laws.proofs.coordinator.Moves.{same_tx-is}

-- what the block of epochs makes of the transactions that it counts
abbrev pub with_asked : List TxId → TxId → Bool → List TxId
with_asked c tx true = c ++ tx ∷ []
with_asked c tx false = c

abbrev pub ended_by : List TxId → Option ℕ → List TxId
ended_by c None = c
ended_by c (Some at) = remove c at

abbrev pub counts_by : Body → List TxId → List TxId
counts_by (Epoch (DiVerifyReq tx ops)) c = with_asked c tx (nat_lt (length c) TRANSACTIONS)
counts_by (Epoch (DiVerifyEnd tx)) c = ended_by c (position (same_tx tx) c)
counts_by _ c = c

abbrev pub counts_if : Bool → Body → List TxId → List TxId
counts_if true body c = counts_by body c
counts_if false body c = c

-- of signals on the link of its host to itself, the newest first
abbrev pub counted_of : List Addressed → List TxId
counted_of [] = []
counted_of (x ∷ xs) = counts_if (is_dih x.signal.to.block) x.signal.body (counted_of xs)

-- a signal asks for an epoch
abbrev pub is_request : Body → Bool
is_request (Epoch (DiVerifyReq tx ops)) = true
is_request _ = false

-- each that asks finds fewer counted than a coordinator keeps
abbrev pub AreFew : List Addressed → Type 0
AreFew [] = Unit {0}
AreFew (x ∷ xs) =
    ((is_dih x.signal.to.block && is_request x.signal.body) ≡ true → length (counted_of xs) < TRANSACTIONS) × AreFew xs

-- the same of the signals of a step that are for such places, the first first
abbrev pub sends_count : (Place → Bool) → List Outgoing → List TxId → List TxId
sends_count at [] c = c
sends_count at (o ∷ more) c = sends_count at more (counts_if (at o.to && is_dih o.to.block) o.body c)

abbrev pub SendsFew : (Place → Bool) → List Outgoing → List TxId → Type 0
SendsFew at [] c = Unit {0}
SendsFew at (o ∷ more) c = ((at o.to && (is_dih o.to.block && is_request o.body)) ≡ true → length c < TRANSACTIONS)
    × SendsFew at more (counts_if (at o.to && is_dih o.to.block) o.body c)

module _ (start : Start) (h : ℕ) (stamp : ℕ) where
  -- the places of host h
  abbrev here : Place → Bool
  here to = host_for start to == h

  abbrev sending : (ℕ → ℕ) → Outgoing → Addressed
  sending count o = addressed (first_membership start) h stamp (count (host_for start o.to)) o

  put_one : (b : Bool) (count : ℕ → ℕ) (o : Outgoing) (before : List Addressed)
      → counted_of (if b then sending count o ∷ before else before) ≡ counts_if (b && is_dih o.to.block) o.body
      (counted_of before)
  put_one true count o before = refl
  put_one false count o before = refl

  pub put_counts : (count : ℕ → ℕ) (sends : List Outgoing) (before : List Addressed)
      → counted_of (put (machine start) h
      (all_addressed (first_membership start) h stamp count sends) before) ≡ sends_count here sends (counted_of before)
  put_counts count [] before = refl
  put_counts count (o ∷ more) before =
      put_counts (one_counted (host_for start o.to) count) more (if here o.to then sending count o ∷ before else before)
      ∙ ap (sends_count here more) (put_one (here o.to) count o before)

  pub put_few : (count : ℕ → ℕ) (sends : List Outgoing) (before : List Addressed)
      → AreFew before → SendsFew here sends (counted_of before)
      → AreFew (put (machine start) h (all_addressed (first_membership start) h stamp count sends) before)
  put_few count [] before few more_few = few
  put_few count (o ∷ more) before few more_few =
      put_few (one_counted (host_for start o.to) count) more (if here o.to then sending count o ∷ before else before)
      (now (here o.to) refl)
      (subst (SendsFew here more) (sym (put_one (here o.to) count o before)) more_few.1)
    where
      now : (b : Bool) → here o.to ≡ b → AreFew (if b then sending count o ∷ before else before)
      now true is = (λ e. more_few.0 (ap (λ b. b && (is_dih o.to.block && is_request o.body)) is ∙ e), few)
      now false is = few

-- what neither asks for an epoch nor ends one
abbrev pub is_epochless : Body → Bool
is_epochless (Epoch (DiVerifyReq tx ops)) = false
is_epochless (Epoch (DiVerifyEnd tx)) = false
is_epochless _ = true

still_counts : (b : Bool) (body : Body) (c : List TxId) → is_epochless body ≡ true → counts_if b body c ≡ c
still_counts false body c e = refl
still_counts true (Epoch (DiVerifyReq tx ops)) c e = absurd (false≢true e)
still_counts true (Epoch (DiVerifyEnd tx)) c e = absurd (false≢true e)
still_counts true _ c e = refl

still_asks : (a b : Bool) (body : Body) → is_epochless body ≡ true → (a && (b && is_request body)) ≡ true → ⊥
still_asks true true (Epoch (DiVerifyReq tx ops)) e asks = false≢true e
still_asks true true (Epoch (DiVerifyEnd tx)) e asks = false≢true e
still_asks true true _ e asks = false≢true asks
still_asks true false body e asks = false≢true asks
still_asks false b body e asks = false≢true asks

-- the head and the rest of signals of a kind
pub head_of_kind : (kind : Body → Bool) (o : Outgoing) (more : List Outgoing) → are_of kind (o ∷ more) ≡ true
    → (kind o.body ≡ true) × (are_of kind more ≡ true)
head_of_kind kind o more e = by (kind o.body) refl e
  where
    by : (b : Bool) → kind o.body ≡ b → (if b then are_of kind more else false) ≡ true
        → (kind o.body ≡ true) × (are_of kind more ≡ true)
    by true is e = (is, e)
    by false is e = absurd (false≢true e)

-- such signals change nothing
pub plain_counts : (at : Place → Bool) (sends : List Outgoing) (c : List TxId) → are_of is_epochless sends ≡ true
    → (sends_count at sends c ≡ c) × SendsFew at sends c
plain_counts at [] c e = (refl, tt)
plain_counts at (o ∷ more) c e =
    let parts = head_of_kind is_epochless o more e in
    let rest = plain_counts at more c parts.1 in
    let here = still_counts (at o.to && is_dih o.to.block) o.body c parts.0 in (
      ap (sends_count at more) here ∙ rest.0,
      (
        λ asks. absurd (still_asks (at o.to) (is_dih o.to.block) o.body parts.0 asks),
        subst (SendsFew at more) (sym here) rest.1,
      ),
    )

-- one more is counted, where fewer are than a coordinator keeps
pub asked_count : (c : List TxId) (tx : TxId) → length c < TRANSACTIONS
    → with_asked c tx (nat_lt (length c) TRANSACTIONS) ≡ c ++ tx ∷ []
asked_count c tx low =
    let fewer : nat_lt (length c) TRANSACTIONS ≡ true = grind (arith, nat_tests, low) in
    ap (with_asked c tx) fewer

-- one that ends is counted no more
pub record IsWithout (tx : TxId) (c now : List TxId) : Type 0 where
  pub fewer : length now + 1 ≡ length c
  pub own : (v : TxId) → tally (same_tx v) now + one_if (same_tx v tx) ≡ tally (same_tx v) c

pub ended_count : (c : List TxId) (tx : TxId) → 1 ≤ tally (same_tx tx) c
    → IsWithout tx c (ended_by c (position (same_tx tx) c))
ended_count c tx some = go (nat_lt n (length c)) refl
  where
    n : ℕ
    n = prefix_len (λ x. not (same_tx tx x)) c

    go : (b : Bool) → nat_lt n (length c) ≡ b → IsWithout tx c (ended_by c (cond b (Some n) None))
    go true e =
        let f : IsFocus (same_tx tx) c n = found (same_tx tx) c (grind (arith, nat_tests, e)) in
        record {
          fewer = omega (arith, ap length f.removed, ap length f.is, between f.front f.item f.back);
          own = λ v. omega (
            arith,
            ap (tally (same_tx v)) f.removed,
            tally_between (same_tx v) f.front f.item f.back c f.is,
            ap (λ x. one_if (same_tx v x)) (same_tx-is tx f.item f.passes),
          );
        }
      where
        between : (xs : List TxId) (x : TxId) (ys : List TxId) → length (xs ++ x ∷ ys) ≡ length (xs ++ ys) + 1
        between [] x ys = omega arith
        between (y ∷ xs) x ys = omega (arith, between xs x ys)
    go false e = absurd (omega (arith, some, absent (same_tx tx) c (grind (arith, nat_tests, e))))
