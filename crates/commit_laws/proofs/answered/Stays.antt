-- What is answered stays so, and rows pass it on as they took it.
use Rattle.std.proofs.Common.{◌≡◌, ◌⊎◌, ℕ, true, List, ◌∷◌, inl, inr}
use Rattle.run_theory.specs.Links.{sent}
use Rattle.run_theory.specs.Lists.{Each, IsPast}
use Rattle.run_theory.proofs.Links.{sent_more}
use Rattle.run_theory.proofs.Pasts.{each_from, each_in, in_past, past_self}
use Rattle.run_theory.proofs.EventCases.{event_cases}
use Rattle.commit_laws.proofs.forth.Grows.{known_grows}
use Rattle.sig_core.specs.declared.member.TxId.{TxId}
use Rattle.sig_core.specs.declared.signal.Body.{Body}
use Rattle.sig_core.specs.declared.signal.Body.TheVariants.{Chain, Client}
use Rattle.sig_core.specs.declared.signal.chain.ChainSignal.TheVariants.{Complete}
use Rattle.sig_core.specs.declared.signal.client.ClientSignal.TheVariants.{TcCommitConf, TcKeyFailConf}
use Rattle.world_core.specs.Start.{Start}
use Rattle.world_core.specs.Steps.{Addressed, HostStep}
use Rattle.world_views.specs.Machine.{machine}
use Rattle.view_laws.specs.Order.{sound_machine}
use Rattle.moment_laws.specs.Moments.{IsMoment, logs_of}
use Rattle.moment_laws.proofs.MomentViews.{moment_less}
use Rattle.commit_laws.specs.Answered.{AllWereCommittedIn, IsAnswered, WasCommittedIn}
use Rattle.commit_laws.specs.Forth.{IsForth, TellsForth}
use Rattle.commit_laws.specs.Going.{is_forth}
use Rattle.commit_laws.specs.Traces.{is_known}
use Rattle.commit_laws.proofs.forth.DecidedStay.{forth_decided, written_before}
use Rattle.commit_laws.proofs.forth.All.{forth_is_known}

module _ (start : Start) (all : ℕ → List HostStep) (e : HostStep) (es : List HostStep)
    (moment : IsMoment start all (e ∷ es))
  where
    abbrev old : ℕ → List HostStep
    old = logs_of start es

    abbrev new : ℕ → List HostStep
    new = logs_of start (e ∷ es)

    abbrev before : IsMoment start all es
    before = moment_less start all e es moment

    -- what was sent stays sent
    sent_stays : (i j : ℕ) → IsPast (sent (sound_machine start) i j (old i)) (sent (sound_machine start) i j (new i))
    sent_stays i j =
        event_cases (machine start) e es i
        (λ log. IsPast (sent (sound_machine start) i j (old i)) (sent (sound_machine start) i j log))
        (λ at. sent_more (sound_machine start) i j (old i) e)
        (λ off. past_self (sent (sound_machine start) i j (old i)))

    pub committed_stays : (number : ℕ) (tx : TxId) (key : List ℕ)
        → WasCommittedIn start (logs_of start es) number tx key
        → WasCommittedIn start (logs_of start (e ∷ es)) number tx key
    committed_stays number tx key was = record {
      from = was.from;
      to = was.to;
      signal = was.signal;
      there = in_past was.signal (sent_stays was.from was.to) was.there;
      body = was.body;
      view = was.view;
    }

    pub all_stay : (number : ℕ) (tx : TxId) → is_forth start (logs_of start es) tx ≡ true
        → AllWereCommittedIn start (logs_of start es) number tx
        → AllWereCommittedIn start (logs_of start (e ∷ es)) number tx
    all_stay number tx forth were key written =
        committed_stays number tx key
        (were key (written_before start all e es moment tx key (forth_decided start all es before tx forth) written))

    either_stays : (number : ℕ) (tx : TxId) → is_forth start old tx ≡ true
        → AllWereCommittedIn start old number tx ⊎ (is_known start old tx ≡ true)
        → AllWereCommittedIn start new number tx ⊎ (is_known start new tx ≡ true)
    either_stays number tx forth (inl were) = inl (all_stay number tx forth were)
    either_stays number tx forth (inr known) = inr (known_grows start e es tx known)

    pub answered_stays : (number : ℕ) (body : Body) → TellsForth (IsForth start (logs_of start es)) body
        → IsAnswered start (logs_of start es) number body → IsAnswered start (logs_of start (e ∷ es)) number body
    answered_stays number (Client (TcCommitConf tx epoch)) forth is = all_stay number tx forth is
    answered_stays number (Client (TcKeyFailConf tx epoch)) forth is = either_stays number tx forth is
    answered_stays number (Chain (Complete tx key chain at)) forth is = either_stays number tx forth is
    answered_stays number body forth is = tt

    -- of all that was sent
    pub sent_answered : ((i j : ℕ)
        → Each (λ (x : Addressed). IsAnswered start (logs_of start es) x.signal.view.number x.signal.body)
        (sent (sound_machine start) i j (logs_of start es i)))
        → (i j : ℕ)
        → Each (λ (x : Addressed). IsAnswered start (logs_of start (e ∷ es)) x.signal.view.number x.signal.body)
        (sent (sound_machine start) i j (logs_of start es i))
    sent_answered were i j =
        each_from (λ (x : Addressed). IsAnswered start new x.signal.view.number x.signal.body)
        (sent (sound_machine start) i j (old i))
        (λ y there.
        answered_stays y.signal.view.number y.signal.body
        (each_in (λ (y : Addressed). TellsForth (IsForth start old) y.signal.body) y
        (sent (sound_machine start) i j (old i)) ((forth_is_known start all es before).signals i j) there)
        (each_in (λ (x : Addressed). IsAnswered start old x.signal.view.number x.signal.body) y
        (sent (sound_machine start) i j (old i)) (were i j) there))
