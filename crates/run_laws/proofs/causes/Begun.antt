-- What a coordinator tells of a transaction: that it has begun, once, and before that it has ended.
use Rattle.std.proofs.Common.{◌≡◌, ◌≢◌, ◌⊎◌, ℕ, ◌+◌, ◌<◌, ◌≤◌, List, [], ◌∷◌, ◌++◌, Bool, true, false, refl, ap, sym}
use Rattle.std.proofs.Common.{◌∙◌, subst, arith, inl, inr}
use Rattle.std.specs.Prelude.{◌==◌, ◌&&◌, if◌then◌else◌}
use Rattle.std.proofs.lemmas.Bool.{cases_lt}
use Rattle.run_theory.proofs.Pasts.{each_map}
use Rattle.run_theory.specs.Links.{put, sent}
use Rattle.run_theory.specs.Lists.{IsPast}
use Rattle.sig_core.specs.declared.member.TxId.{TxId}
use Rattle.sig_core.specs.declared.outs.Outgoing.{Outgoing}
use Rattle.sig_core.specs.declared.signal.Body.{Body}
use Rattle.sig_core.specs.declared.signal.Body.TheVariants.{Client}
use Rattle.sig_core.specs.declared.signal.client.ClientSignal.TheVariants.{TcBeginConf, TcCommitConf, TcRollbackRep}
use Rattle.node_core.specs.declared.host.Host as host
use Rattle.node_core.specs.Blocks.{tc_of}
use Rattle.node_core.specs.Requests.{is_request}
use Rattle.node_core.specs.Row.{row}
use Rattle.world_core.specs.Hosts.{first_membership, home, host_for, first_hosts}
use Rattle.world_core.specs.Machine.{addressed, after, all_addressed, counted as one_counted, machine, sent_count}
use Rattle.world_core.specs.Machine.{step_after}
use Rattle.world_core.specs.Start.{Start}
use Rattle.world_core.specs.Steps.{Addressed, HostStep}
use Rattle.host_laws.proofs.rows.Operations.{right_of}
use Rattle.run_laws.proofs.hosts.AlongSteps.{none_kept}
use Rattle.host_laws.proofs.hosts.ShellHost.{TellsHome, told}
use Rattle.host_laws.proofs.hosts.BlocksAlong.{first_live}
use Rattle.host_laws.proofs.hosts.LinkCounts.{sent_to_shell, shell_signals, signals, to_host}
use Rattle.run_theory.proofs.Tally.{tally_none}
use Rattle.run_theory.specs.Counts.{one_if}
use Rattle.host_laws.proofs.coordinator.Lives.{IsKept, due_move, is_start, kept_move, start_of, starts_in}
use Rattle.host_laws.proofs.coordinator.Moves.{TcMove, end_of, host_moves, is_end, same_tx-is}
use Rattle.host_laws.proofs.api.Wishes.{is_api, sends_of}

-- in a list of signals, the newest first, what has ended has begun before
abbrev pub AreOrdered : TxId → List Addressed → Type 0
AreOrdered tx [] = Unit {0}
AreOrdered tx (x ∷ xs) = (is_end tx x.signal.to x.signal.body ≡ true → 1 ≤ signals (is_start tx) xs) × AreOrdered tx xs

ordered_behind : (tx : TxId) (xs ys : List Addressed) → AreOrdered tx (xs ++ ys) → AreOrdered tx ys
ordered_behind tx [] ys h = h
ordered_behind tx (x ∷ xs) ys h = ordered_behind tx xs ys h.1

pub ordered_past : (tx : TxId) (xs ys : List Addressed) → IsPast xs ys → AreOrdered tx ys → AreOrdered tx xs
ordered_past tx xs ys past h = ordered_behind tx past.newer xs (subst (AreOrdered tx) past.is h)

pub plain_start : (tx : TxId) (body : Body) → start_of tx body ≡ true → is_request body ≡ false
plain_start tx (Client (TcBeginConf name other)) e = refl
plain_start tx _ e = cc

pub plain_end : (tx : TxId) (body : Body) → end_of tx body ≡ true → is_request body ≡ false
plain_end tx (Client (TcCommitConf other epoch)) e = refl
plain_end tx (Client (TcRollbackRep other cause)) e = refl
plain_end tx _ e = cc

module _ (start : Start) (tx : TxId) where
  -- what is so of the transaction at a host after a log
  pub record HostKeeps (h : ℕ) (log : List HostStep) : Type 0 where
    pub keeps : IsKept tx (tc_of (after start h log)) (signals (is_start tx) (sent (machine start) h 0 log))
        (signals (is_end tx) (sent (machine start) h 0 log))
    pub ordered : AreOrdered tx (sent (machine start) h 0 log)

  put_ordered : (h stamp : ℕ) (count : ℕ → ℕ) (sends : List Outgoing) (before : List Addressed) → AreOrdered tx before
      → (1 ≤ sends_of (to_host start 0 (is_end tx)) sends → 1 ≤ signals (is_start tx) before)
      → AreOrdered tx (put (machine start) 0 (all_addressed (first_membership start) h stamp count sends) before)
  put_ordered h stamp count [] before ordered due = ordered
  put_ordered h stamp count (o ∷ more) before ordered due =
      put_ordered h stamp (counted_ (host_for start o.to)) more _ (first (host_for start o.to == 0) refl)
      (λ some. later (host_for start o.to == 0) some)
    where
      counted_ : ℕ → ℕ → ℕ
      counted_ to = one_counted to count

      x : Addressed
      x = addressed (first_membership start) h stamp (count (host_for start o.to)) o

      first : (b : Bool) → (host_for start o.to == 0) ≡ b → AreOrdered tx (if b then x ∷ before else before)
      first true at = (λ e. due (omega (arith, ap one_if (ap (λ b. b && is_end tx o.to o.body) at ∙ e))), ordered)
      first false at = ordered

      later : (b : Bool) → 1 ≤ sends_of (to_host start 0 (is_end tx)) more
          → 1 ≤ signals (is_start tx) (if b then x ∷ before else before)
      later true some = omega (arith, due (omega (arith, some)))
      later false some = due (omega (arith, some))

  pub keeps : (h : ℕ) (log : List HostStep) → HostKeeps h log
  keeps h [] = record { keeps = none_kept tx (tc_of (after start h [])) (first_live start h); ordered = tt }
  keeps h (e ∷ log) = next (keeps h log)
    where
      g : host.Host
      g = after start h log

      sends : List Outgoing
      sends = (step_after start h log e).effects.sends

      begun : ℕ
      begun = signals (is_start tx) (sent (machine start) h 0 log)

      ended : ℕ
      ended = signals (is_end tx) (sent (machine start) h 0 log)

      move : TcMove (tc_of g) (tc_of (row g e.step.taken).state) sends
      move = host_moves g e.step.taken

      next : HostKeeps h log → HostKeeps h (e ∷ log)
      next k = record {
        keeps = subst (λ n. IsKept tx (tc_of (after start h (e ∷ log))) n
            (signals (is_end tx) (sent (machine start) h 0 (e ∷ log))))
            (sym (shell_signals start (is_start tx) h e log))
            (subst (λ n. IsKept tx (tc_of (after start h (e ∷ log))) (starts_in tx sends + begun) n)
            (sym (shell_signals start (is_end tx) h e log))
            (kept_move tx (tc_of g) _ sends begun ended move k.keeps));
        ordered = put_ordered h e.step.stamp (sent_count start h log) sends (sent (machine start) h 0 log) k.ordered
            (λ some. due_move tx (tc_of g) _ sends begun ended move k.keeps
            (omega (arith, some, sent_to_shell start (is_end tx) sends)));
      }

  -- neither is told by another host
  pub silent_start : (h : ℕ) (log : List HostStep) → h < first_hosts start → h ≢ home start tx
      → signals (is_start tx) (sent (machine start) h 0 log) ≡ 0
  silent_start h log low differs =
      tally_none (λ (x : Addressed). is_start tx x.signal.to x.signal.body) (sent (machine start) h 0 log)
      (each_map (λ (x : Addressed). TellsHome start h x.signal.body)
      (λ (x : Addressed). is_start tx x.signal.to x.signal.body ≡ false) (sent (machine start) h 0 log)
      (λ x tells. fails x tells (is_start tx x.signal.to x.signal.body) refl) (told start h 0 log low))
    where
      by_home : (body : Body) → TellsHome start h body → start_of tx body ≡ true → h ≡ home start tx
      by_home (Client (TcBeginConf name other)) tells e =
          (tells name other refl).is ∙ ap (home start) (same_tx-is other tx e)
      by_home _ tells e = cc

      fails : (x : Addressed) → TellsHome start h x.signal.body → (b : Bool) → is_start tx x.signal.to x.signal.body ≡ b
          → is_start tx x.signal.to x.signal.body ≡ false
      fails x tells false e = e
      fails x tells true e = absurd (differs (by_home x.signal.body tells
          (right_of (is_api x.signal.to.block) (start_of tx x.signal.body) e)))

  pub silent_end : (h : ℕ) (log : List HostStep) → h < first_hosts start → h ≢ home start tx
      → signals (is_end tx) (sent (machine start) h 0 log) ≡ 0
  silent_end h log low differs = go (cases_lt 0 (signals (is_end tx) (sent (machine start) h 0 log)))
    where
      go : (0 < signals (is_end tx) (sent (machine start) h 0 log))
          ⊎ (signals (is_end tx) (sent (machine start) h 0 log) ≤ 0)
          → signals (is_end tx) (sent (machine start) h 0 log) ≡ 0
      go (inl some) =
          absurd (omega (arith, (keeps h log).keeps.order (omega (arith, some)), silent_start h log low differs))
      go (inr none) = omega (arith, none)
