-- Whom a transaction waits for at a place behind the first has let go of the key at the place in front.
use Rattle.std.proofs.Common.{◌≡◌, ◌<◌, ◌+◌, ℕ, true, List, [], ◌∷◌, ◌++◌, length, sym, subst, arith}
use Rattle.std.proofs.lemmas.Bool.{or_right}
use Rattle.std.specs.Prelude.{◌&&◌}
use Rattle.run_theory.specs.Links.{sent, taken}
use Rattle.run_theory.specs.Lists.{IsPast}
use Rattle.run_theory.proofs.Pasts.{past_map}
use Rattle.run_theory.proofs.Runs.{logs_of_run}
use Rattle.sig_core.specs.declared.member.TxId.{TxId}
use Rattle.sig_core.specs.Same.{same_tx}
use Rattle.world_core.specs.Machine.{machine}
use Rattle.world_core.specs.Start.{Start}
use Rattle.world_core.specs.Steps.{Addressed, HostStep}
use Rattle.run_laws.specs.Routes.{replica_host, replicas}
use Rattle.run_laws.specs.Transit.{IsRun, logs_of}
use Rattle.run_laws.proofs.hosts.AlongSteps.{link}
use Rattle.order_laws.proofs.Behind.{is_among, is_behind}
use Rattle.order_laws.specs.LetGo.{HoldersHaveLetGo}
use Rattle.order_laws.proofs.Askers.{asker, came, lined_along}
use Rattle.order_laws.proofs.Attended.{first_idle}
use Rattle.order_laws.proofs.Passed.{passed, passed_along}
use Rattle.order_laws.proofs.Sources.{came_from}

-- who stands behind another in an older part does so in the whole
behind_past : (u v : TxId) (newer xs : List TxId) → is_behind u v xs ≡ true → is_behind u v (newer ++ xs) ≡ true
behind_past u v [] xs is = is
behind_past u v (x ∷ newer) xs is =
    or_right (same_tx x v && is_among u (newer ++ xs)) (is_behind u v (newer ++ xs)) (behind_past u v newer xs is)

module _ (start : Start) (es : List HostStep) (key : List ℕ) (at : ℕ) (run : IsRun start es)
    (inside : at + 1 < length (replicas start key)) where
  abbrev front : ℕ
  front = replica_host start key at

  abbrev here : ℕ
  here = replica_host start key (at + 1)

  -- those that came are an older part of those that were passed on
  pub came_past : IsPast (came key (logs_of start es here)) (passed start key here front (logs_of start es front))
  came_past =
      subst (λ xs. IsPast xs (passed start key here front (logs_of start es front)))
      (sym (came_from start key at inside es run))
      (past_map (λ (x : Addressed). asker key x.signal.body)
      (taken (machine start) front (logs_of start es here)) (sent (machine start) front here (logs_of start es front))
      (link start (logs_of start es) (logs_of_run (machine start) es run.run) front here))

  passed_behind : (u v : TxId) → is_behind u v (came key (logs_of start es here)) ≡ true
      → is_behind u v (passed start key here front (logs_of start es front)) ≡ true
  passed_behind u v is =
      subst (λ xs. is_behind u v xs ≡ true) (sym came_past.is)
      (behind_past u v came_past.newer (came key (logs_of start es here)) is)

pub holders_have_let_go : HoldersHaveLetGo
holders_have_let_go start es key at holder waiter run is =
    let line = lined_along key start (replica_host start key (at + 1))
    (first_idle start key (at + 1) run.shape is.inside) (logs_of start es (replica_host start key (at + 1))) in
    (passed_along start key (replica_host start key (at + 1)) at (omega (arith, is.inside)) es run).behind holder waiter
    (passed_behind start es key at run is.inside holder waiter (line.across holder waiter is.holding is.waiting))
    is.apart
