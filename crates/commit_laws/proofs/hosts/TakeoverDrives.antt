-- A takeover knows of each that it commits, or completes, in which epoch it was decided.
use Rattle.std.proofs.Common.{◌≡◌, ◌⊎◌, ℕ, inl, inr, subst}
use Rattle.std.specs.Prelude.{Some}
use Rattle.sig_core.specs.declared.member.TxId.{TxId}
use Rattle.sig_core.specs.declared.signal.Body.{Body}
use Rattle.takeover_block.specs.declared.gathered.Gathered.{Gathered}
use Rattle.takeover_block.specs.declared.stage.Stage.TheVariants.{Committing, Completing}
use Rattle.takeover_block.specs.State.{TakeoverState}
use Rattle.takeover_block.proofs.Walk.{IsAtCommit, IsRuledOn, commits_it, completing_it, ruled_is}
use Rattle.outcome_laws.specs.Known.{IsDecidedAs, IsDecidedAt, TakeoverKnows}
use Rattle.outcome_laws.proofs.takeovers.KnowEpochs.{IsKnown, known_at}

module _ (D : TxId → ℕ → Type 0) (B : TxId → Type 0) (s : TakeoverState) (known : TakeoverKnows D B s) (g : Gathered)
    (epoch : ℕ)
  where
    -- of the transaction that it is at
    pub knows_commit : IsAtCommit s g epoch → D g.tx epoch
    knows_commit (commits_it n first at) =
        subst (IsDecidedAt D B (Committing epoch n)) first (known_at D B s (Committing epoch n) known at)
    knows_commit (completing_it n first at) =
        subst (IsDecidedAt D B (Completing epoch n)) first (known_at D B s (Completing epoch n) known at)

    -- and of one that it rules on
    pub knows_drive : (body : Body) → IsAtCommit s g epoch ⊎ (IsRuledOn s body g × (g.epoch ≡ Some epoch))
        → D g.tx epoch
    knows_drive body (inl at) = knows_commit at
    knows_drive body (inr ruled) =
        subst (IsDecidedAs D B g.tx) ruled.1 (ruled_is s body (IsKnown D B) known.gathered g ruled.0)
