-- The transaction that the API is told of holds the lock for which its own one waits.
use Rattle.std.proofs.Common.{◌≡◌, ◌⊎◌, ◌<◌, ◌≤◌, ℕ, zero, suc, Bool, true, false, List, [], ◌∷◌, ◌++◌, refl, sym, ap}
use Rattle.std.proofs.Common.{subst, ◌∙◌, inl, inr, append_assoc, arith}
use Rattle.std.proofs.lemmas.Bool.{cases_lt, or_left, or_right}
use Rattle.std.specs.Prelude.{◌&&◌, ◌||◌, IfSome, Some}
use Rattle.run_theory.proofs.Pasts.{each_after, each_in}
use Rattle.run_theory.specs.Cuts.{IsCut}
use Rattle.run_theory.specs.Lists.{Each, IsIn}
use Rattle.sig_core.proofs.Keys.{same_tx-self}
use Rattle.sig_core.specs.declared.member.TxId.{TxId}
use Rattle.sig_core.specs.declared.place.Place.{Place}
use Rattle.sig_core.specs.declared.signal.Body.{Body}
use Rattle.sig_core.specs.declared.signal.Body.TheVariants.{Client}
use Rattle.sig_core.specs.declared.signal.client.ClientSignal.TheVariants.{LqhWaitConf, TcWaitConf}
use Rattle.sig_core.specs.Same.{same_tx}
use Rattle.row_locks.proofs.AheadLemmas.{ahead_is_other}
use Rattle.row_locks.specs.declared.claim.Holder.{Holder}
use Rattle.row_locks.specs.Holders.{first_other, holds, tx_if}
use Rattle.row_locks.specs.OrderlyTables.{AreOrderly}
use Rattle.row_locks.specs.Queues.{waits}
use Rattle.row_locks.specs.Tables.{Locks, ahead_at, lock_at, some_if}
use Rattle.node_core.specs.Blocks.{lqh_of}
use Rattle.node_core.specs.Requests.{is_request}
use Rattle.node_core.specs.Row.{row}
use Rattle.world_core.specs.Hosts.{first_hosts, rows_host}
use Rattle.world_core.specs.Machine.{after}
use Rattle.world_core.specs.Start.{Start}
use Rattle.world_core.specs.Steps.{HostStep}
use Rattle.host_laws.proofs.api.Begins.{in_middle}
use Rattle.host_laws.proofs.rows.Operations.{right_of}
use Rattle.host_laws.proofs.rows.Replicas.{logs_keep_well}
use Rattle.host_laws.proofs.api.Wishes.{is_api, is_tc, sends_of}
use Rattle.answer_laws.specs.Answered.{AreQuiet}
use Rattle.command_laws.proofs.rounds.ClosedWaits.{first_open, is_closed}
use Rattle.command_laws.proofs.quiet.Homes.{ahead_rows}
use Rattle.command_laws.proofs.hosts.HostKinds.{node_runs_none}
use Rattle.command_laws.proofs.hosts.HostSends.{not_of_api, shell_silent}
use Rattle.command_laws.proofs.rounds.NoneClosed.{none_closed}
use Rattle.command_laws.proofs.quiet.Since.{front_nil, sent_since}
use Rattle.command_laws.proofs.waits.Rows.{is_telling_who, is_wait_of, tells_who, host_waits}
use Rattle.command_laws.proofs.waits.Sources.{FoundAt, SentBy, came_from, finds_who, is_finding_who, no_find_api}
use Rattle.command_laws.proofs.waits.Sources.{telling_tc, host_found, host_told, sent_by}
use Rattle.command_laws.specs.Served.{IsBehind, IsBehindAt}

-- the first other holder holds the lock
first_holds : (tx : TxId) (holders : List Holder) → same_tx (first_other tx holders) tx ≡ false
    → holds (first_other tx holders) holders ≡ true
first_holds tx [] apart = absurd (let both : true ≡ false = sym (same_tx-self tx) ∙ apart in cc)
first_holds tx (h ∷ holders) apart = by (same_tx h.tx tx) apart (first_holds tx holders)
  where
    by : (b : Bool) → same_tx (tx_if b (first_other tx holders) h.tx) tx ≡ false
        → (same_tx (first_other tx holders) tx ≡ false → holds (first_other tx holders) holders ≡ true)
        → (same_tx h.tx (tx_if b (first_other tx holders) h.tx) || holds (tx_if b (first_other tx holders) h.tx)
        holders) ≡ true
    by true off rest =
        or_right (same_tx h.tx (first_other tx holders)) (holds (first_other tx holders) holders) (rest off)
    by false off rest = or_left (same_tx h.tx h.tx) (holds h.tx holders) (same_tx-self h.tx)

-- whom a transaction waits behind holds the lock, where no wait is closed, and is another one
pub behind_locks : (locks : Locks) (key : List ℕ) (tx who : TxId) → AreOrderly locks
    → is_closed key locks ≡ false → ahead_at locks key tx ≡ Some who → IsBehind tx who key locks
behind_locks locks key tx who orderly none is = by (waits tx (lock_at locks key).queue) refl is
  where
    apart : same_tx who tx ≡ false
    apart = subst (λ o. IfSome o (λ ahead. same_tx ahead tx ≡ false)) is
        (ahead_is_other locks key tx orderly (first_open (lock_at locks key).queue none))

    by : (b : Bool) → waits tx (lock_at locks key).queue ≡ b
        → some_if b (first_other tx (lock_at locks key).holders) ≡ Some who → IsBehind tx who key locks
    by true w e =
        let first : first_other tx (lock_at locks key).holders ≡ who = cc in
        record {
          waiting = w;
          held = subst (λ v. holds v (lock_at locks key).holders ≡ true) first
              (first_holds tx (lock_at locks key).holders (ap (λ v. same_tx v tx) first ∙ apart));
          other = apart;
        }
    by false w e = cc

-- a request is no such signal
plain_by : (a : Bool) (test : Body → Bool) (body : Body) → (is_request body ≡ true → test body ≡ false)
    → (a && test body) ≡ true → is_request body ≡ false
plain_by a test body off e = by (is_request body) refl
  where
    by : (b : Bool) → is_request body ≡ b → is_request body ≡ false
    by false is = is
    by true is = absurd (let both : true ≡ false = sym (right_of a (test body) e) ∙ off is in cc)

plain_tells : (tx who : TxId) (to : Place) (body : Body) → is_telling_who tx who to body ≡ true
    → is_request body ≡ false
plain_tells tx who to body e = plain_by (is_api to.block) (tells_who tx who) body (off body) e
  where
    off : (b : Body) → is_request b ≡ true → tells_who tx who b ≡ false
    off (Client (TcWaitConf one ahead)) r = cc
    off _ r = refl

plain_finds : (tx who : TxId) (to : Place) (body : Body) → is_finding_who tx who to body ≡ true
    → is_request body ≡ false
plain_finds tx who to body e = plain_by (is_tc to.block) (finds_who tx who) body (off body) e
  where
    off : (b : Body) → is_request b ≡ true → finds_who tx who b ≡ false
    off (Client (LqhWaitConf one ahead)) r = cc
    off _ r = refl

some_step : (front : List HostStep) (e : HostStep) (back : List HostStep) → front ++ e ∷ back ≡ [] → ⊥
some_step [] e back is = cc
some_step (f ∷ front) e back is = cc

-- a node stays as it is while only questions and answers to them are taken
node_stays : (start : Start) (tx : TxId) (h : ℕ) (newer log : List HostStep)
    → Each (λ (e : HostStep). is_wait_of tx e.step.taken.body ≡ true) newer
    → after start (suc h) (newer ++ log) ≡ after start (suc h) log
node_stays start tx h [] log kinds = refl
node_stays start tx h (e ∷ newer) log kinds =
    (host_waits start tx (after start (suc h) (newer ++ log)) e.step.taken
    (node_runs_none start h (newer ++ log)) kinds.0).same ∙ node_stays start tx h newer log kinds.1

module _ (start : Start) (was mid : ℕ → List HostStep) (tx who : TxId) (before : AreQuiet start was)
    (since : AreQuiet start mid) (cut : IsCut was mid)
    (kinds : (h : ℕ) → Each (λ (e : HostStep). is_wait_of tx e.step.taken.body ≡ true) (cut (suc h)).newer) where
  -- a step of a node that sent such a signal, as the node was
  record SentHere (test : Place → Body → Bool) (h : ℕ) : Type 0 where
    step : HostStep
    inside : IsIn step (cut (suc h)).newer
    waits_kind : is_wait_of tx step.step.taken.body ≡ true
    sends : 1 ≤ sends_of test (row (after start (suc h) (was (suc h))) step.step.taken).effects.sends

  sent_here : (test : Place → Body → Bool) (h : ℕ) → SentBy start test (suc h) (cut (suc h)).newer (was (suc h))
      → SentHere test h
  sent_here test h b = record {
    step = b.step;
    inside = inside;
    waits_kind =
        each_in (λ (e : HostStep). is_wait_of tx e.step.taken.body ≡ true) b.step (cut (suc h)).newer (kinds h) inside;
    sends = subst (λ g. 1 ≤ sends_of test (row g b.step.step.taken).effects.sends) state b.sends;
  }
    where
      inside : IsIn b.step (cut (suc h)).newer
      inside = subst (IsIn b.step) (sym b.is) (in_middle b.front b.step b.back)

      state : after start (suc h) (b.back ++ was (suc h)) ≡ after start (suc h) (was (suc h))
      state =
          node_stays start tx h b.back (was (suc h))
          (each_after (λ (e : HostStep). is_wait_of tx e.step.taken.body ≡ true) (b.front ++ b.step ∷ []) b.back
          (subst (Each (λ (e : HostStep). is_wait_of tx e.step.taken.body ≡ true))
          (b.is ∙ sym (append_assoc b.front (b.step ∷ []) b.back)) (kinds h)))

  -- at a node the transaction waits behind that one
  pub record IsBehindThere : Type 0 where
    pub node : ℕ
    pub low : node ≤ start.shape.nodes
    pub key : List ℕ
    pub behind : IsBehindAt tx who key (after start (rows_host start node) (mid (rows_host start node)))

  found_there : (h : ℕ) (e : HostStep) → IsIn e (cut (suc h)).newer
      → is_finding_who tx who e.step.taken.to e.step.taken.body ≡ true → IsBehindThere
  found_there h e inside passes = by e.step.taken.from.0 refl
    where
      sent_at : (i : ℕ) → e.step.taken.from.0 ≡ i → 1 ≤ sent_since start (is_finding_who tx who) i (cut i).newer (was i)
      sent_at i at = came_from start was mid before since cut (is_finding_who tx who) (suc h) e inside
          (plain_finds tx who e.step.taken.to e.step.taken.body passes) passes i at

      by : (i : ℕ) → e.step.taken.from.0 ≡ i → IsBehindThere
      by zero at = absurd (omega (
        arith,
        sent_at zero at,
        shell_silent (is_finding_who tx who) (no_find_api tx who)
            start (cut 0).newer (was 0),
      ))
      by (suc k) at = there (cases_lt (suc k) (first_hosts start))
        where
          b : SentBy start (is_finding_who tx who) (suc k) (cut (suc k)).newer (was (suc k))
          b = sent_by start (is_finding_who tx who) (suc k) (cut (suc k)).newer (was (suc k)) (sent_at (suc k) at)

          sender : SentHere (is_finding_who tx who) k
          sender = sent_here (is_finding_who tx who) k b

          found : FoundAt tx who (lqh_of (after start (suc k) (was (suc k))))
          found = host_found tx who
              (after start (suc k) (was (suc k))) sender.step.step.taken sender.waits_kind sender.sends

          behind_now : is_closed found.key (lqh_of (after start (suc k) (was (suc k)))).locks ≡ false
              → IsBehindAt tx who found.key (after start (suc k) (mid (suc k)))
          behind_now none =
              subst (IsBehindAt tx who found.key) (sym (ap (after start (suc k)) (cut (suc k)).is
              ∙ node_stays start tx k (cut (suc k)).newer (was (suc k)) (kinds k)))
              (behind_locks (lqh_of (after start (suc k) (was (suc k)))).locks found.key tx who
              (logs_keep_well start (suc k) (was (suc k))).orderly none found.is)

          -- who has locks is the host of a node's rows
          there : (suc k < first_hosts start) ⊎ (first_hosts start ≤ suc k) → IsBehindThere
          there (inl low) =
              let n = ahead_rows start (suc k) (was (suc k)) low found.key tx who found.is in
              record {
                node = n.node;
                low = n.low;
                key = found.key;
                behind = subst (λ h. IsBehindAt tx who found.key (after start h (mid h))) n.is
                    (behind_now (subst (λ h. is_closed found.key (lqh_of (after start h (was h))).locks ≡ false)
                    (sym n.is) (none_closed start found.key n.node n.some n.low was before)));
              }
          there (inr high) = absurd (some_step b.front b.step b.back
              (sym b.is ∙ front_nil (cut (suc k)).newer (was (suc k))
              (sym (since.within (suc k) high) ∙ (cut (suc k)).is)))

  pub behind_there : (e : HostStep) → IsIn e ((cut 0).newer)
      → is_telling_who tx who e.step.taken.to e.step.taken.body ≡ true → IsBehindThere
  behind_there e inside passes = by e.step.taken.from.0 refl
    where
      sent_at : (i : ℕ) → e.step.taken.from.0 ≡ i → 1 ≤ sent_since start (is_telling_who tx who) i (cut i).newer (was i)
      sent_at i at = came_from start was mid before since cut (is_telling_who tx who) 0 e inside
          (plain_tells tx who e.step.taken.to e.step.taken.body passes) passes i at

      by : (i : ℕ) → e.step.taken.from.0 ≡ i → IsBehindThere
      by zero at =
          absurd (omega (
            arith,
            sent_at zero at,
            shell_silent (is_telling_who tx who) (not_of_api (is_telling_who tx who) (telling_tc tx who)) start
                (cut 0).newer (was 0),
          ))
      by (suc k) at =
          let sender = sent_here (is_telling_who tx who) k
          (sent_by start (is_telling_who tx who) (suc k) (cut (suc k)).newer (was (suc k)) (sent_at (suc k) at)) in
          found_there k sender.step sender.inside
          (host_told tx who
          (after start (suc k) (was (suc k))) sender.step.step.taken sender.waits_kind sender.sends)
