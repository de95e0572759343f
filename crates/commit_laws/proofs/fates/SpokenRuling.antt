-- A takeover speaks of the abort of those that it is at work to abort, and of the commit of those that it commits.
use Rattle.std.proofs.Common.{◌≡◌, ◌⊎◌, inl, inr, ℕ, List, subst}
use Rattle.std.specs.Prelude.{None, Some, slice_get}
use Rattle.run_theory.specs.Lists.{Each}
use Rattle.run_theory.proofs.EachSent.{each_get, each_removed}
use Rattle.sig_core.specs.declared.member.TxId.{TxId}
use Rattle.sig_core.specs.declared.signal.Signal.{Signal}
use Rattle.takeover_block.specs.declared.gathered.Gathered.{Gathered}
use Rattle.takeover_block.specs.declared.stage.Stage.TheVariants.{Aborting, Completing}
use Rattle.takeover_block.specs.State.{TakeoverState}
use Rattle.takeover_block.specs.Takeover.{takeover_row}
use Rattle.sig_core.specs.declared.mark.Mark.{Mark}
use Rattle.takeover_block.proofs.Walk.{IsRuledOn, Rules, at_none, at_the_end, behind_one, drives_abort, drives_commit}
use Rattle.takeover_block.proofs.Walk.{drives_completion, is_aborted, is_completed, takeover_does}
use Rattle.commit_laws.proofs.hosts.TakeoverDrives.{knows_commit, knows_drive}
use Rattle.commit_laws.proofs.forth.Speaks.{Anyone, Of}
use Rattle.commit_laws.proofs.fates.SpokenTakeover.{ClosesBy, IsAbortingAt, TakeoverIs, closed_at}
use Rattle.commit_laws.proofs.fates.SpokenWords.{AreSpoken, IsSpoken}

module _ (A C : TxId → Type 0) (W : Gathered → Type 0) (rules : (g : Gathered) → W g → g.epoch ≡ None → A g.tx)
    (s : TakeoverState) (own : TakeoverIs A C W s) (x : Signal) (closes : ClosesBy A C W s x.body)
  where
    -- whom it rules on is as all that is gathered, once all members have ended
    closed : (gathered : List Gathered) → Rules s x.body gathered → Each W gathered
    closed gathered (at_the_end n is at last) = closes n is at last
    closed gathered (at_none is) = tt
    closed gathered (behind_one g first (is_completed key epoch n is at last)) =
        each_removed W s.gathered 0 (closed_at A C W rules s own (Completing epoch n) at)
    closed gathered (behind_one g first (is_aborted key n is at last)) =
        each_removed W s.gathered 0 (closed_at A C W rules s own (Aborting n) at)

    was_aborting : (g : Gathered) (n : ℕ) → slice_get s.gathered 0 ≡ Some g → s.stage ≡ Aborting n → A g.tx
    was_aborting g n first at =
        subst (λ stage. IsAbortingAt A stage (Some g)) at (subst (IsAbortingAt A s.stage) first own.aborting)

    aborts : (g : Gathered) (n : ℕ)
        → ((slice_get s.gathered 0 ≡ Some g) × (s.stage ≡ Aborting n)) ⊎ (IsRuledOn s x.body g × (g.epoch ≡ None))
        → A g.tx
    aborts g n (inl was) = was_aborting g n was.0 was.1
    aborts g n (inr ruled) =
        rules g (each_get W ruled.0.gathered 0 g (closed ruled.0.gathered ruled.0.rules) ruled.0.first) ruled.1

    -- so whatever it takes
    pub takeover_speaks : AreSpoken A C (takeover_row s x).effects.sends
    takeover_speaks =
        (takeover_does s x (IsSpoken A C) (λ (mark : Mark). Unit {0}) (record {
          asks = λ member. tt;
          asks_on = λ left. tt;
          commits = λ g epoch n drives key there.
              knows_drive (Of C) Anyone s own.knows g epoch x.body (drives_commit s x.body g epoch n drives);
          confirms = λ g epoch n drives. tt;
          completes = λ g epoch n drives key there.
              knows_commit (Of C) Anyone s own.knows g epoch (drives_completion s x.body g epoch n drives);
          aborts = λ g n drives key there member among. aborts g n (drives_abort s x.body g n drives);
          drives_on = λ g left. tt;
          gives_up = λ g key n is first at last. was_aborting g n first at;
          ends = λ gathered rules none. (tt, tt);
        })).0
