-- The current view at an event: it stays or rises, and nobody joins it.
use Rattle.std.proofs.Common.{◌≡◌, ℕ, true, List, ◌∷◌}
use Rattle.sig_core.specs.declared.member.TxId.{TxId}
use Rattle.lqh_block.specs.Views.{is_coordinated, was_begun_by}
use Rattle.world_core.specs.Start.{Start}
use Rattle.world_core.specs.Steps.{HostStep}
use Rattle.moment_laws.specs.Moments.{IsMoment, current, logs_of}
use Rattle.request_laws.proofs.routes.ChainsStay.{any_in}
use Rattle.commit_laws.proofs.hosts.SomePasses.{passing}
use Rattle.commit_laws.proofs.records.Replicas.{full_before}

module _ (start : Start) (all : ℕ → List HostStep) (e : HostStep) (es : List HostStep)
    (moment : IsMoment start all (e ∷ es))
  where
    abbrev old : ℕ → List HostStep
    old = logs_of start es

    abbrev new : ℕ → List HostStep
    new = logs_of start (e ∷ es)

    -- a coordinator that is full now was so before
    pub led_was : (tx : TxId) → is_coordinated (current start new).full tx ≡ true
        → is_coordinated (current start old).full tx ≡ true
    led_was tx is =
        let one = passing (was_begun_by tx) (current start new).full is in
        any_in (was_begun_by tx) one.item (current start old).full
        (full_before start all e es moment one.item one.there) one.is
