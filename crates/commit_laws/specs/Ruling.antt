-- Until a takeover is at work in a view, nobody commits, completes or aborts whoever has no coordinator in it.
use Rattle.std.specs.Prelude.{◌≡◌, ◌<◌, ◌⊎◌, ℕ, false, List, [], ◌∷◌}
use Rattle.run_theory.specs.Links.{sent}
use Rattle.run_theory.specs.Lists.{Each, IsIn}
use Rattle.sig_core.specs.declared.member.Member.{Member}
use Rattle.sig_core.specs.declared.member.TxId.{TxId}
use Rattle.sig_core.specs.declared.signal.Body.{Body}
use Rattle.sig_core.specs.declared.signal.Body.TheVariants.{Chain}
use Rattle.sig_core.specs.declared.signal.chain.ChainSignal.TheVariants.{Abort, Aborted, Commit, Committed, Complete}
use Rattle.sig_core.specs.declared.signal.chain.ChainSignal.TheVariants.{Completed}
use Rattle.takeover_block.specs.Rule.{is_at_work}
use Rattle.world_core.specs.Start.{Start, made}
use Rattle.world_core.specs.Steps.{Addressed, HostStep}
use Rattle.view_laws.specs.Order.{sound_machine}
use Rattle.view_laws.specs.Runs.{view_after}
use Rattle.moment_laws.specs.Moments.{IsMoment, current, logs_of}
use Rattle.moment_laws.specs.Places.{tc_of}
use Rattle.request_laws.specs.Orphans.{IsOrphan}
use Rattle.commit_laws.specs.Takeovers.{takeover_at}

-- of whom a signal of chains commits, completes or aborts, of that this is so
abbrev pub EndsOf : (TxId → Type 0) → Body → Type 0
EndsOf D (Chain (Abort tx key)) = D tx
EndsOf D (Chain (Aborted tx key)) = D tx
EndsOf D (Chain (Commit tx key epoch chain at)) = D tx
EndsOf D (Chain (Committed tx key)) = D tx
EndsOf D (Chain (Complete tx key chain at)) = D tx
EndsOf D (Chain (Completed tx key)) = D tx
EndsOf D body = Unit {0}

module _ (start : Start) where
  -- no takeover is at work whose host stands in the current view
  abbrev pub AllRest : (ℕ → List HostStep) → Type 0
  AllRest logs =
      (member : Member) → IsIn member (made start)
      → (view_after start (tc_of start member) (logs (tc_of start member))).number ≡ (current start logs).number
      → is_at_work (takeover_at start logs member).stage ≡ false

  -- and none was since that view is the current one
  abbrev pub NoneRuled : List HostStep → Type 0
  NoneRuled [] = Unit {0}
  NoneRuled (e ∷ es) =
      AllRest (logs_of start (e ∷ es))
      × (((current start (logs_of start es)).number < (current start (logs_of start (e ∷ es))).number) ⊎ NoneRuled es)

-- then none of the signals of the current view ends a transaction that has no coordinator in it
abbrev pub OrphansGoOn : Type 0
OrphansGoOn =
    (start : Start) (all : ℕ → List HostStep) (es : List HostStep) → IsMoment start all es → NoneRuled start es
    → (i j : ℕ) → Each (λ (y : Addressed). y.signal.view.number ≡ (current start (logs_of start es)).number
    → EndsOf (λ tx. IsOrphan (current start (logs_of start es)) tx → ⊥) y.signal.body)
    (sent (sound_machine start) i j (logs_of start es i))
