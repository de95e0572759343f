-- A signal about a chain that rows take is of the current view, which stays as it was; what is told of each that was
-- sent is told of it.
use Rattle.std.proofs.Common.{◌≡◌, ◌≢◌, ◌≤◌, ◌∙◌, ℕ, true, List, ◌∷◌, sym, ap, subst, arith}
use Rattle.sig_core.specs.declared.member.Member.{Member}
use Rattle.sig_core.specs.declared.member.TxId.{TxId}
use Rattle.sig_core.specs.declared.place.BlockId.TheVariants as block
use Rattle.sig_core.specs.declared.signal.Body.TheVariants.{Chain}
use Rattle.sig_core.specs.declared.signal.Signal.{Signal}
use Rattle.sig_core.specs.declared.signal.chain.ChainSignal.{ChainSignal}
use Rattle.sig_core.specs.declared.signal.chain.ChainSignal.TheVariants.{Abort, Commit, Complete}
use Rattle.world_core.specs.Start.{Start}
use Rattle.world_core.specs.Steps.{Addressed, HostStep}
use Rattle.moment_laws.specs.Moments.{IsMoment, current, logs_of}
use Rattle.moment_laws.proofs.MomentSignals.{EachSent, sent_below}
use Rattle.moment_laws.proofs.MomentTurns.{current_rises, old_current}
use Rattle.moment_laws.proofs.MomentViews.{current_number, moment_less}
use Rattle.moment_laws.proofs.PartTaken.{IsTakenNow}
use Rattle.request_laws.proofs.routes.BesideRows.{is_of_rows}
use Rattle.request_laws.proofs.routes.Headers.{chain_fenced, told_of}
use Rattle.commit_laws.specs.Commits.{IsKept}
use Rattle.commit_laws.specs.Fates.{Fate, aborts, commits, fate}
use Rattle.commit_laws.specs.Forth.{ForthIsKnownAlways, IsForth, TellsForth}
use Rattle.commit_laws.specs.Going.{is_forth}
use Rattle.commit_laws.specs.Speaks.{AreSpokenTruly, SaysAbort, SaysCommit}
use Rattle.commit_laws.proofs.forth.DecidedStay.{forth_decided}

module _ (start : Start) (all : ℕ → List HostStep) (e : HostStep) (es : List HostStep)
    (moment : IsMoment start all (e ∷ es)) (taken : IsTakenNow start all e es moment block.Lqh) (signal : ChainSignal)
    (is : e.step.taken.body ≡ Chain signal)
  where
    abbrev old : ℕ → List HostStep
    old = logs_of start es

    abbrev new : ℕ → List HostStep
    new = logs_of start (e ∷ es)

    abbrev x : Signal
    x = e.step.taken

    abbrev before : IsMoment start all es
    before = moment_less start all e es moment

    pub chain_told : (K : Addressed → Type 0) → EachSent start K (logs_of start es)
        → K (record { to = e.host; signal = e.step.taken })
    chain_told K each = told_of start all e es moment K each taken.sound (ap is_of_rows is)

    number_low : x.view.number ≤ current_number start old
    number_low =
        chain_told (λ (y : Addressed). y.signal.view.number ≤ current_number start old) (sent_below start all es before)

    number_new : x.view.number ≡ current_number start new
    number_new = taken.fresh (chain_fenced x signal is)

    pub chain_number : e.step.taken.view.number ≡ current_number start (logs_of start es)
    chain_number =
        let low = number_low in
        let same = number_new in
        let rises = current_rises start all e es moment in
        omega (arith, low, same, rises)

    pub chain_current : current start (logs_of start (e ∷ es)) ≡ current start (logs_of start es)
    chain_current = old_current start all e es moment (sym number_new ∙ chain_number)

    -- what it says of its transaction
    module _ (forth : ForthIsKnownAlways) (spoken : AreSpokenTruly start (logs_of start es)) where
      says : SaysCommit (fate start old) (Chain signal)
      says =
          subst (SaysCommit (fate start old)) is
          (chain_told
          (λ (y : Addressed). y.signal.view.number ≡ current_number start old
          → SaysCommit (fate start old) y.signal.body)
          spoken.commits_said chain_number)

      pub says_abort : SaysAbort (fate start (logs_of start es)) (Chain signal)
      says_abort =
          subst (SaysAbort (fate start old)) is
          (chain_told (λ (y : Addressed). SaysAbort (fate start old) y.signal.body) spoken.aborts_said)

      tells : TellsForth (IsForth start old) (Chain signal)
      tells =
          subst (TellsForth (IsForth start old)) is
          (chain_told (λ (y : Addressed). TellsForth (IsForth start old) y.signal.body)
          (forth start all es before).signals)

      commits_not : (f : Fate) → f ≡ commits → f ≢ aborts
      commits_not f is same = let both : commits ≡ aborts = sym is ∙ same in cc

      pub record IsKeptForth (tx : TxId) : Type 0 where
        pub kept : IsKept start (logs_of start es) tx
        pub forth_is : is_forth start (logs_of start es) tx ≡ true

      kept_by : (tx : TxId) → fate start old tx ≡ commits → is_forth start old tx ≡ true → IsKeptForth tx
      kept_by tx commit gone = record {
        kept = record {
          decided = forth_decided start all es before tx gone;
          fate_is = commits_not (fate start old tx) commit;
        };
        forth_is = gone;
      }

      -- a commit, and a completion, are of one that is kept
      pub commit_kept : (tx : TxId) (key : List ℕ) (epoch : ℕ) (chain : List Member) (at : ℕ)
          → signal ≡ Commit tx key epoch chain at → IsKeptForth tx
      commit_kept tx key epoch chain at same =
          kept_by tx (subst (λ s. SaysCommit (fate start old) (Chain s)) same says)
          (subst (λ s. TellsForth (IsForth start old) (Chain s)) same tells)

      pub complete_kept : (tx : TxId) (key : List ℕ) (chain : List Member) (at : ℕ)
          → signal ≡ Complete tx key chain at → IsKeptForth tx
      complete_kept tx key chain at same =
          kept_by tx (subst (λ s. SaysCommit (fate start old) (Chain s)) same says)
          (subst (λ s. TellsForth (IsForth start old) (Chain s)) same tells)

      pub abort_aborts : (tx : TxId) (key : List ℕ) → signal ≡ Abort tx key
          → fate start (logs_of start es) tx ≡ aborts
      abort_aborts tx key same = subst (λ s. SaysAbort (fate start old) (Chain s)) same says_abort
