-- What was written is committed along all replicas.
use Rattle.std.specs.Prelude.{◌≡◌, ℕ, List}
use Rattle.run_theory.specs.Links.{sent}
use Rattle.run_theory.specs.Lists.{Each}
use Rattle.frag_map.specs.Layout.{chain_of}
use Rattle.sig_core.specs.declared.signal.Body.{Body}
use Rattle.sig_core.specs.declared.signal.Body.TheVariants.{Chain}
use Rattle.sig_core.specs.declared.signal.chain.ChainSignal.TheVariants.{Commit}
use Rattle.sig_core.specs.declared.view.View.{View}
use Rattle.world_core.specs.Start.{Start}
use Rattle.world_core.specs.Steps.{Addressed, HostStep}
use Rattle.view_laws.specs.Order.{sound_machine}
use Rattle.moment_laws.specs.Moments.{IsMoment, logs_of}
use Rattle.request_laws.specs.Routed.{layout_in}
use Rattle.commit_laws.specs.Commits.{HasWritten}

abbrev pub GoesWhole : Start → (ℕ → List HostStep) → View → Body → Type 0
GoesWhole start logs view (Chain (Commit tx key epoch chain at)) =
    HasWritten start logs tx key → chain ≡ chain_of (layout_in start view) key
GoesWhole start logs view body = Unit {0}

abbrev pub CommitsGoWhole : Type 0
CommitsGoWhole =
    (start : Start) (all : ℕ → List HostStep) (es : List HostStep) → IsMoment start all es
    → (i j : ℕ) → Each (λ (x : Addressed). GoesWhole start (logs_of start es) x.signal.view x.signal.body)
    (sent (sound_machine start) i j (logs_of start es i))
