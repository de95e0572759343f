-- What stands of takeovers at a moment goes on to stand behind an event that leaves the current view.
use Rattle.std.proofs.Common.{◌≡◌, ℕ, false, List, ◌∷◌, nat_lt, subst}
use Rattle.run_theory.specs.Lists.{Each, IsIn}
use Rattle.run_theory.proofs.Pasts.{each_from, each_in}
use Rattle.sig_core.specs.declared.member.Member.{Member}
use Rattle.sig_core.specs.declared.member.TxId.{TxId}
use Rattle.sig_core.specs.declared.place.BlockId.TheVariants as block
use Rattle.sig_core.specs.declared.signal.Body.TheVariants.{Takeover}
use Rattle.sig_core.specs.declared.signal.takeover.TakeoverSignal.TheVariants.{LqhTransEnd}
use Rattle.sig_core.specs.declared.view.View.{View}
use Rattle.takeover_block.specs.declared.gathered.Gathered.{Gathered}
use Rattle.takeover_block.specs.declared.stage.Stage.TheVariants.{Gathering}
use Rattle.world_core.specs.Start.{Start, made}
use Rattle.world_core.specs.Steps.{HostStep}
use Rattle.view_laws.specs.Runs.{view_after}
use Rattle.moment_laws.specs.Moments.{IsMoment, current, logs_of}
use Rattle.moment_laws.specs.Places.{tc_of}
use Rattle.moment_laws.proofs.MomentHosts.{tc_low}
use Rattle.moment_laws.proofs.MomentViews.{moment_less, stands_in_current}
use Rattle.moment_laws.proofs.PartTaken.{IsTakenNow}
use Rattle.request_laws.specs.Blocks.{takeover_after}
use Rattle.request_laws.proofs.routes.Headers.{takeover_fenced}
use Rattle.request_laws.proofs.orphans.TakeoversOfOrphans.{takeovers_are_of_orphans}
use Rattle.request_laws.specs.Orphans.{IsOrphan}
use Rattle.commit_laws.specs.Gathering.{EndsGathering, GatheringsAreWhole}
use Rattle.commit_laws.specs.Together.{FatesMove, Follows}
use Rattle.commit_laws.proofs.fates.Forth.{commits_more, right_more}
use Rattle.commit_laws.proofs.fates.SpokenHost.{StandsStill, TakeoverGoes}
use Rattle.commit_laws.proofs.fates.SpokenTakeover.{TakeoverIs}
use Rattle.commit_laws.proofs.takeover.Closes.{all_right}
use Rattle.commit_laws.proofs.takeover.Words.{Aborts, Commits, IsRight, stands_is, takeover_grows}

module _ (start : Start) (all : ℕ → List HostStep) (e : HostStep) (es : List HostStep)
    (follows : Follows start all e es)
    (moves : (tx : TxId) → FatesMove start e es tx) (member : Member) (there : IsIn member (made start))
  where
    abbrev old : ℕ → List HostStep
    old = logs_of start es

    abbrev new : ℕ → List HostStep
    new = logs_of start (e ∷ es)

    abbrev gathered : List Gathered
    gathered = (takeover_after start member (logs_of start es (tc_of start member))).gathered

    less : IsMoment start all es
    less = moment_less start all e es follows.moment

    module _ (still : StandsStill start e es member) where
      stood_is : view_after start (tc_of start member) (old (tc_of start member)) ≡ current start old
      stood_is = stands_in_current start all es less (tc_of start member)
          (tc_low start follows.moment.cluster.nobody member there) still.number_is

      orphans : Each (λ (g : Gathered). IsOrphan (current start old) g.tx) gathered
      orphans =
          subst (λ (v : View). Each (λ (g : Gathered). IsOrphan v g.tx) gathered) stood_is
          ((takeovers_are_of_orphans start all es less).gathered member there)

      pub stands_on : TakeoverIs (Aborts start (logs_of start (e ∷ es))) (Commits start (logs_of start (e ∷ es)))
          (IsRight start (logs_of start (e ∷ es))) (takeover_after start member (logs_of start es (tc_of start member)))
      stands_on =
          let stood = follows.stood.takeovers.each member there in
          takeover_grows (Aborts start old) (Commits start old) (Aborts start new) (Commits start new)
          (IsRight start old)
          (IsRight start new) (λ tx. (moves tx).aborting)
          (commits_more start all e es follows.moment moves still.current_is)
          (λ (g : Gathered). IsOrphan (current start old) g.tx)
          (right_more start all e es follows.moment moves still.current_is)
          (takeover_after start member (old (tc_of start member))) orphans
          (stands_is start old (takeover_after start member (old (tc_of start member)))
          (record {
            told = stood.told still.number_is;
            ruled = stood.ruled still.number_is;
            whole = stood.whole still.number_is;
            left = stood.left still.number_is;
          }))

      closes_on : (whole : GatheringsAreWhole) → e.host ≡ tc_of start member
          → IsTakenNow start all e es follows.moment block.Takeover
          → (n : ℕ) → e.step.taken.body ≡ Takeover LqhTransEnd
          → (takeover_after start member (old (tc_of start member))).stage ≡ Gathering n → nat_lt 1 n ≡ false
          → Each (IsRight start new) gathered
      closes_on whole at taken n ends gathers last =
          each_from (IsRight start new) gathered
          (λ g inside.
          right_more start all e es follows.moment moves still.current_is g
          (each_in (λ (g : Gathered). IsOrphan (current start old) g.tx) g gathered orphans inside)
          (each_in (IsRight start old) g gathered
          (all_right start all es less follows.stood.commits member
          (whole start all e es follows.moment member closing) orphans) inside))
        where
          closing : EndsGathering start e es member
          closing = record {
            made_is = there;
            host_is = at;
            block_is = taken.block;
            body_is = ends;
            sound = taken.sound;
            header = taken.fresh (takeover_fenced e.step.taken LqhTransEnd ends);
            same = still.current_is;
            stands = stood_is;
            awaited = n;
            gathers = gathers;
            last = last;
          }

    -- so it is of the takeover of each member
    pub takeover_goes : GatheringsAreWhole → e.host ≡ tc_of start member
        → TakeoverGoes start all e es follows.moment member (IsRight start (logs_of start (e ∷ es)))
    takeover_goes whole at = record {
      rules = λ g right none. right.0 none;
      stands = stands_on;
      closes = λ still taken. closes_on still whole at taken;
    }
