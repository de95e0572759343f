-- Whatever comes to be known to the client's side was done, and committed by its coordinator, before.
use Rattle.std.proofs.Common.{◌≡◌, ◌∙◌, ℕ, true, false, List, ◌∷◌, sym, subst}
use Rattle.std.proofs.lemmas.Bool.{true≢false}
use Rattle.sig_core.specs.declared.member.TxId.{TxId}
use Rattle.sig_core.specs.declared.signal.Body.{Body}
use Rattle.sig_core.specs.declared.signal.Body.TheVariants.{Client}
use Rattle.sig_core.specs.declared.signal.client.ClientSignal.{ClientSignal}
use Rattle.sig_core.specs.declared.signal.client.ClientSignal.TheVariants.{TcCommitConf, TcKeyFailConf}
use Rattle.world_core.specs.Start.{Start}
use Rattle.world_core.specs.Steps.{Addressed, HostStep}
use Rattle.world_views.specs.Machine.{IsOwnWork}
use Rattle.moment_laws.proofs.MomentSignals.{EachSent, taken_told}
use Rattle.moment_laws.proofs.MomentViews.{moment_less}
use Rattle.moment_laws.specs.Moments.{IsMoment, logs_of}
use Rattle.commit_laws.proofs.forth.KnownComes.{TakesWord, takes_word}
use Rattle.commit_laws.proofs.hosts.MarkCases.{known_cases}
use Rattle.commit_laws.specs.Commits.{ComesWhenDone, IsDone}
use Rattle.commit_laws.specs.Forth.{IsForth, TellsForth}
use Rattle.commit_laws.specs.Going.{is_forth}
use Rattle.commit_laws.specs.Traces.{is_known}
use Rattle.commit_laws.proofs.settled.All.{all_stand}
use Rattle.commit_laws.proofs.commits.Step.{not_closing}
use Rattle.commit_laws.proofs.forth.All.{forth_is_known}
use Rattle.commit_laws.proofs.forth.Client.{IsToldOf, by_coordinator, by_takeover}

pub record IsDoneBefore (start : Start) (es : List HostStep) (tx : TxId) : Type 0 where
  pub done : IsDone start (logs_of start es) tx
  pub forth : is_forth start (logs_of start es) tx ≡ true

module _ (start : Start) (all : ℕ → List HostStep) (e : HostStep) (es : List HostStep)
    (moment : IsMoment start all (e ∷ es))
  where
    abbrev old : ℕ → List HostStep
    old = logs_of start es

    before : IsMoment start all es
    before = moment_less start all e es moment

    module _ (tx : TxId) (off : is_known start (logs_of start es) tx ≡ false)
        (is : is_known start (logs_of start (e ∷ es)) tx ≡ true) where
      word : TakesWord start e tx
      word =
          takes_word start moment.cluster.nobody e (old 0) tx
          (known_cases start e es tx (λ at here. here) (λ was. absurd (true≢false (sym was ∙ off))) is)

      -- what is told of all that was sent is told of it
      told_of : (K : Body → Type 0) (signal : ClientSignal) → e.step.taken.body ≡ Client signal
          → EachSent start (λ (y : Addressed). K y.signal.body) (logs_of start es) → K (Client signal)
      told_of K signal body_is sent =
          subst K body_is
          (taken_told start (λ (y : Addressed). K y.signal.body) all e es moment sent word.sound
          (λ own. absurd (subst (IsOwnWork start e.host) body_is own))
          (not_closing signal e.step.taken.body body_is))

      pub done_before : IsDoneBefore start es tx
      done_before = by word.told
        where
          forth : (signal : ClientSignal) → e.step.taken.body ≡ Client signal
              → TellsForth (IsForth start (logs_of start es)) (Client signal)
          forth signal body_is =
              told_of (TellsForth (IsForth start old)) signal body_is (forth_is_known start all es before).signals

          done : (signal : ClientSignal) → e.step.taken.body ≡ Client signal
              → ComesWhenDone start (logs_of start es) (Client signal)
          done signal body_is =
              told_of (ComesWhenDone start old) signal body_is (all_stand start all es before).commits.done

          by : IsToldOf tx e.step.taken.body → IsDoneBefore start es tx
          by (by_coordinator epoch body_is) = record {
            done = done (TcCommitConf tx epoch) body_is;
            forth = forth (TcCommitConf tx epoch) body_is;
          }
          by (by_takeover epoch body_is) = record {
            done = (done (TcKeyFailConf tx epoch) body_is).0;
            forth = forth (TcKeyFailConf tx epoch) body_is;
          }
