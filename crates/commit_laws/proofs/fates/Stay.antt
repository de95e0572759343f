-- Whoever aborts does so for ever, and whoever commits as long as the current view is the same.
use Rattle.std.proofs.Common.{ℕ, List, ◌∷◌}
use Rattle.sig_core.specs.declared.member.TxId.{TxId}
use Rattle.world_core.specs.Start.{Start}
use Rattle.world_core.specs.Steps.{HostStep}
use Rattle.moment_laws.specs.Moments.{IsMoment}
use Rattle.moment_laws.proofs.MomentViews.{moment_less}
use Rattle.commit_laws.specs.Fates.{AbortsStay, CommitsStay}
use Rattle.commit_laws.specs.Together.{FatesMove}
use Rattle.commit_laws.proofs.settled.All.{all_stand}
use Rattle.commit_laws.proofs.fates.Moves.{fates_move}
use Rattle.commit_laws.proofs.forth.KnownComes.{known_commit}

moves_on : (start : Start) (all : ℕ → List HostStep) (e : HostStep) (es : List HostStep)
    → IsMoment start all (e ∷ es) → (tx : TxId) → FatesMove start e es tx
moves_on start all e es moment tx =
    fates_move known_commit start all e es
    (record { moment = moment; stood = all_stand start all es (moment_less start all e es moment) }) tx

pub aborts_stay : AbortsStay
aborts_stay start all e es moment tx is = (moves_on start all e es moment tx).aborting is

pub commits_stay : CommitsStay
commits_stay start all e es moment same tx is = (moves_on start all e es moment tx).committing same is
