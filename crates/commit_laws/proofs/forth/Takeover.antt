-- A takeover commits and completes those that it knows to be committed, and tells their clients.
use Rattle.std.proofs.Common.{◌≡◌, Bool, true, false, refl, subst, sym}
use Rattle.sig_core.specs.declared.member.TxId.{TxId}
use Rattle.sig_core.specs.declared.outs.Outgoing.{Outgoing}
use Rattle.sig_core.specs.declared.signal.Body.{Body}
use Rattle.sig_core.specs.declared.signal.Body.TheVariants.{Epoch}
use Rattle.sig_core.specs.declared.signal.epoch.EpochSignal.TheVariants.{DiVerifyConf}
use Rattle.sig_core.specs.declared.signal.Signal.{Signal}
use Rattle.takeover_block.specs.State.{TakeoverState}
use Rattle.takeover_block.specs.Takeover.{takeover_row, takeover_table}
use Rattle.sig_core.specs.declared.mark.Mark.{Mark}
use Rattle.takeover_block.proofs.Walk.{drives_commit, drives_completion, takeover_does}
use Rattle.commit_laws.proofs.hosts.TakeoverDrives.{knows_commit, knows_drive}
use Rattle.outcome_laws.specs.Known.{TakeoverKnows}
use Rattle.outcome_laws.proofs.takeovers.KnowEpochs.{takeover_knows}
use Rattle.commit_laws.proofs.forth.Speaks.{Anyone, AreSpoken, Of, Speaks, gives_epoch, hears}

module _ (F A : TxId → Type 0) where
  abbrev Fits : Outgoing → Type 0
  Fits sent = Speaks F A sent.body

  -- whatever it takes
  pub takeover_speaks : (s : TakeoverState) (x : Signal) → TakeoverKnows (Of F) Anyone s
      → AreSpoken F A (takeover_row s x).effects.sends
  takeover_speaks s x known =
      (takeover_does s x Fits (λ (mark : Mark). Unit {0}) (record {
        asks = λ member. tt;
        asks_on = λ left. tt;
        commits = λ g epoch n drives key there.
            knows_drive (Of F) Anyone s known g epoch x.body (drives_commit s x.body g epoch n drives);
        confirms = λ g epoch n drives.
            knows_commit (Of F) Anyone s known g epoch (drives_completion s x.body g epoch n drives);
        completes = λ g epoch n drives key there.
            knows_commit (Of F) Anyone s known g epoch (drives_completion s x.body g epoch n drives);
        aborts = λ g n drives key there member among. tt;
        drives_on = λ g left. tt;
        gives_up = λ g key n is first at last. tt;
        ends = λ gathered rules none. (tt, tt);
      })).0

  -- an epoch that is given is nothing to it
  pub takeover_learns : (s : TakeoverState) (x : Signal) → TakeoverKnows (Of F) Anyone s → Speaks F A x.body
      → TakeoverKnows (Of F) Anyone (takeover_row s x).state
  takeover_learns s x known spoken = by (gives_epoch x.body) refl
    where
      given : (body : Body) → x.body ≡ body → gives_epoch body ≡ true
          → TakeoverKnows (Of F) Anyone (takeover_row s x).state
      given (Epoch (DiVerifyConf tx epoch)) at is =
          subst (λ b. TakeoverKnows (Of F) Anyone (takeover_table s b).state) (sym at) known
      given body at is = absurd cc

      by : (b : Bool) → gives_epoch x.body ≡ b → TakeoverKnows (Of F) Anyone (takeover_row s x).state
      by true is = given x.body refl is
      by false is = takeover_knows (Of F) Anyone s x known (hears F A x.body is spoken)
