-- Each host along steps that take questions of what one transaction waits for, and answers to them.
use Rattle.std.proofs.Common.{◌≡◌, ◌⊎◌, ◌≤◌, ◌+◌, ℕ, suc, Bool, true, false, List, [], ◌∷◌, ◌++◌, refl, sym, ap, ◌∙◌}
use Rattle.std.proofs.Common.{subst, inl, inr, arith}
use Rattle.std.specs.Prelude.{Option, None, Some, is_some}
use Rattle.run_theory.specs.Lists.{IsIn}
use Rattle.sig_core.specs.declared.member.Member.{Member}
use Rattle.sig_core.specs.declared.member.TxId.{TxId}
use Rattle.sig_core.specs.declared.signal.Signal.{Signal}
use Rattle.sig_core.specs.Op.{key_of}
use Rattle.row_locks.specs.Tables.{ahead_at}
use Rattle.api_block.specs.declared.opened.OpenTransaction.{OpenTransaction}
use Rattle.api_block.specs.Opened.{has_tx}
use Rattle.node_core.specs.Blocks.{api_of, lqh_of, tc_of}
use Rattle.node_core.specs.declared.host.Host.{Host}
use Rattle.node_core.specs.Row.{row}
use Rattle.tc_block.specs.declared.phase.Asked.{Asked}
use Rattle.tc_block.specs.declared.transaction.Transaction.{Transaction}
use Rattle.world_core.proofs.HostNumbers.{api_runs}
use Rattle.world_core.specs.Hosts.{home, rows_host}
use Rattle.world_core.specs.Machine.{after}
use Rattle.world_core.specs.Start.{Start}
use Rattle.world_core.specs.Steps.{HostStep}
use Rattle.run_theory.specs.Counts.{one_if, tally}
use Rattle.host_laws.proofs.hosts.LinkCounts.{steps, to_host}
use Rattle.host_laws.proofs.api.Wishes.{sends_of}
use Rattle.host_laws.specs.Live.{of_live}
use Rattle.command_laws.proofs.hosts.HostKinds.{node_runs_none}
use Rattle.command_laws.proofs.hosts.BlockSteps.{api_seen}
use Rattle.command_laws.proofs.quiet.Since.{sent_since, sent_since_to}
use Rattle.command_laws.proofs.operations.TellsSince.{OnTc}
use Rattle.command_laws.proofs.waits.Api.{IsAboutOne, StaysAbout, about_waits}
use Rattle.command_laws.proofs.waits.Rows.{is_found, is_other, is_passed, is_probe, is_telling_who, is_wait_of, is_want}
use Rattle.command_laws.proofs.waits.Rows.{host_finds, host_passes, host_waits, host_wants}
use Rattle.command_laws.specs.Served.{IsHeldUpAt}

module _ (start : Start) (was : ℕ → List HostStep) (tx : TxId) (u : Transaction) (asked : Asked) (member : Member)
    (unanswered : u.asked ≡ Some asked) (inside : IsIn member asked.chain)
    (live : OnTc (λ s. of_live tx s.live ≡ Some u) (after start (home start tx) (was (home start tx))))
    (held : IsHeldUpAt tx (key_of asked.op)
    (after start (rows_host start member.node) (was (rows_host start member.node)))) where
  -- a node is as it was, and sends on what it takes of these
  pub record NodeHolds (h : ℕ) (newer : List HostStep) : Type 0 where
    pub plain : sent_since start (is_other tx) (suc h) newer (was (suc h)) ≡ 0
    pub same : after start (suc h) (newer ++ was (suc h)) ≡ after start (suc h) (was (suc h))
    pub wants : home start tx ≡ suc h
        → steps (is_want tx) newer ≤ sent_since_to start (is_probe tx (key_of asked.op)) (suc h)
        (rows_host start member.node) newer (was (suc h))
    pub finds : rows_host start member.node ≡ suc h
        → steps (is_probe tx (key_of asked.op)) newer
        ≤ sent_since_to start (is_found tx) (suc h) (home start tx) newer (was (suc h))
    pub passes : home start tx ≡ suc h
        → steps (is_found tx) newer ≤ sent_since_to start (is_passed tx) (suc h) 0 newer (was (suc h))

  pub node_none : (h : ℕ) → NodeHolds h []
  node_none h = record {
    plain = refl;
    same = refl;
    wants = λ at. omega arith;
    finds = λ at. omega arith;
    passes = λ at. omega arith;
  }

  -- a step of the node, as it was
  record NodeSteps (h : ℕ) (g : Host) (x : Signal) : Type 0 where
    same : (row g x).state ≡ g
    plain : sends_of (is_other tx) (row g x).effects.sends ≡ 0
    wants : home start tx ≡ suc h
        → one_if (is_want tx x.to x.body)
        ≤ sends_of (to_host start (rows_host start member.node) (is_probe tx (key_of asked.op))) (row g x).effects.sends
    finds : rows_host start member.node ≡ suc h
        → one_if (is_probe tx (key_of asked.op) x.to x.body)
        ≤ sends_of (to_host start (home start tx) (is_found tx)) (row g x).effects.sends
    passes : home start tx ≡ suc h
        → one_if (is_found tx x.to x.body) ≤ sends_of (to_host start 0 (is_passed tx)) (row g x).effects.sends

  at_least : (b : Bool) (n : ℕ) → (b ≡ true → 1 ≤ n) → one_if b ≤ n
  at_least true n some = some refl
  at_least false n some = omega arith

  node_steps : (h : ℕ) (x : Signal) → is_wait_of tx x.body ≡ true → NodeSteps h (after start (suc h) (was (suc h))) x
  node_steps h x e =
      let g = after start (suc h) (was (suc h)) in
      let quiet = host_waits start tx g x (node_runs_none start h (was (suc h))) e in
      record {
        same = quiet.same;
        plain = quiet.plain;
        wants = λ at. at_least (is_want tx x.to x.body) _
            (λ on. host_wants start tx g u asked member (here at) unanswered inside x on);
        finds = λ at. at_least (is_probe tx (key_of asked.op) x.to x.body) _
            (λ on. host_finds start tx g (key_of asked.op) (there at) x on);
        passes = λ at. at_least (is_found tx x.to x.body) _ (λ on. host_passes start tx g u (here at) x on);
      }
    where
      here : home start tx ≡ suc h → of_live tx (tc_of (after start (suc h) (was (suc h)))).live ≡ Some u
      here at = subst (λ k. OnTc (λ s. of_live tx s.live ≡ Some u) (after start k (was k))) at live

      there : rows_host start member.node ≡ suc h
          → is_some (ahead_at (lqh_of (after start (suc h) (was (suc h)))).locks (key_of asked.op) tx) ≡ true
      there at = subst (λ k. IsHeldUpAt tx (key_of asked.op) (after start k (was k))) at held

  pub node_next : (h : ℕ) (e : HostStep) (newer : List HostStep) → is_wait_of tx e.step.taken.body ≡ true
      → NodeHolds h newer → NodeHolds h (e ∷ newer)
  node_next h e newer is holds = record {
    plain = omega (arith, holds.plain, steps_on.plain);
    same = steps_on.same ∙ holds.same;
    wants = λ at. omega (arith, holds.wants at, steps_on.wants at);
    finds = λ at. omega (arith, holds.finds at, steps_on.finds at);
    passes = λ at. omega (arith, holds.passes at, steps_on.passes at);
  }
    where
      steps_on : NodeSteps h (after start (suc h) (newer ++ was (suc h))) e.step.taken
      steps_on = subst (λ g. NodeSteps h g e.step.taken) (sym holds.same) (node_steps h e.step.taken is)

  module _ (base : List HostStep) (front : List OpenTransaction) (t : OpenTransaction) (back : List OpenTransaction)
      (own : Option ℕ) (own_tx : t.tx ≡ Some tx) (none : tally (has_tx tx) front ≡ 0) where
    -- the shell's host has the transaction, and knows for whom it waits once it was told
    pub record ShellHolds (newer : List HostStep) : Type 0 where
      pub plain : sent_since start (is_other tx) 0 newer base ≡ 0
      pub ahead : Option TxId
      pub about : IsAboutOne front t back own ahead (api_of (after start 0 (newer ++ base)))
      pub known : 1 ≤ steps (is_passed tx) newer → is_some ahead ≡ true
      pub from : (who : TxId) → ahead ≡ Some who → 1 ≤ steps (is_telling_who tx who) newer

    pub shell_none : IsAboutOne front t back own None (api_of (after start 0 base)) → ShellHolds []
    shell_none about = record {
      plain = refl;
      ahead = None;
      about = about;
      known = λ some. absurd (omega (arith, some));
      from = λ who is. cc;
    }

    pub shell_next : (e : HostStep) (newer : List HostStep) → is_wait_of tx e.step.taken.body ≡ true → ShellHolds newer
        → ShellHolds (e ∷ newer)
    shell_next e newer is holds = record {
      plain = omega (arith, holds.plain, stays.plain);
      ahead = stays.now;
      about = stays.about;
      known = λ some. known (is_passed tx e.step.taken.to e.step.taken.body) refl some;
      from = λ who is. source who (stays.from who is);
    }
      where
        stays : StaysAbout front t back own tx own_tx none holds.ahead e.step.taken.to e.step.taken.body
            (api_seen (row (after start 0 (newer ++ base)) e.step.taken))
        stays = about_waits front t back own tx own_tx none (after start 0 (newer ++ base)) holds.ahead e.step.taken
            (api_runs start (newer ++ base)) is holds.about

        known : (b : Bool) → is_passed tx e.step.taken.to e.step.taken.body ≡ b
            → 1 ≤ one_if (is_passed tx e.step.taken.to e.step.taken.body) + steps (is_passed tx) newer
            → is_some stays.now ≡ true
        known true on some = stays.told on
        known false off some = stays.kept (holds.known (omega (arith, some, ap one_if off)))

        source : (who : TxId)
            → (holds.ahead ≡ Some who) ⊎ (is_telling_who tx who e.step.taken.to e.step.taken.body ≡ true)
            → 1 ≤ steps (is_telling_who tx who) (e ∷ newer)
        source who (inl old) = omega (arith, holds.from who old)
        source who (inr new) = omega (arith, ap one_if new)
