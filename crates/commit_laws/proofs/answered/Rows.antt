-- Rows complete keys whose commits are answered, and hosts beside them and the coordinators tell of no commit.
use Rattle.std.proofs.Common.{◌≡◌, ◌∙◌, ℕ, List, ◌∷◌, sym, ap, subst}
use Rattle.run_theory.specs.Lists.{Each, IsIn}
use Rattle.run_theory.proofs.Pasts.{each_from, each_in, each_map}
use Rattle.sig_core.specs.declared.member.Member.{Member}
use Rattle.sig_core.specs.declared.outs.Outgoing.{Outgoing}
use Rattle.sig_core.specs.declared.signal.Body.{Body}
use Rattle.sig_core.specs.declared.signal.Body.TheVariants.{Chain, Client}
use Rattle.sig_core.specs.declared.signal.Signal.{Signal}
use Rattle.sig_core.specs.declared.signal.chain.ChainSignal.TheVariants.{Complete}
use Rattle.sig_core.specs.declared.signal.client.ClientSignal.TheVariants.{TcCommitConf, TcKeyFailConf}
use Rattle.sig_core.specs.declared.view.View.{View}
use Rattle.lqh_views.specs.Replica.{replica_row}
use Rattle.lqh_views.specs.State.{ReplicaState}
use Rattle.world_core.specs.Start.{Start, made}
use Rattle.world_core.specs.Steps.{Addressed, HostStep}
use Rattle.world_views.specs.Hosts.{started}
use Rattle.world_views.specs.Machine.{step_after}
use Rattle.view_laws.specs.Runs.{view_after}
use Rattle.moment_laws.specs.Moments.{IsMoment, logs_of}
use Rattle.moment_laws.specs.Places.{ldm_of}
use Rattle.moment_laws.proofs.MomentSignals.{EachSent}
use Rattle.moment_laws.proofs.MomentViews.{moment_less}
use Rattle.request_laws.proofs.routes.Headers.{chain_fenced}
use Rattle.request_laws.proofs.routes.Hosts.{IsBeside}
use Rattle.commit_laws.specs.Answered.{IsAnswered}
use Rattle.commit_laws.specs.Forth.{IsForth, TellsForth}
use Rattle.commit_laws.proofs.answered.Stays.{answered_stays}
use Rattle.commit_laws.proofs.gathering.EndsTold.{IsEnd, beside_ends}
use Rattle.commit_laws.proofs.forth.All.{forth_is_known}
use Rattle.commit_laws.proofs.commits.RowsEnd.{IsRowsWord, rows_words}
use Rattle.commit_laws.proofs.hosts.RowsTurn.{IsTakenAt, rows_each}
use Rattle.commit_laws.proofs.hosts.SaverGoes.{of_saver}
use Rattle.commit_laws.proofs.links.TakenChains.{chain_told}

module _ (start : Start) (all : ℕ → List HostStep) (e : HostStep) (es : List HostStep)
    (moment : IsMoment start all (e ∷ es))
    (answered : EachSent start (λ (y : Addressed). IsAnswered start (logs_of start es) y.signal.view.number
    y.signal.body)
    (logs_of start es))
  where
    abbrev old : ℕ → List HostStep
    old = logs_of start es

    abbrev new : ℕ → List HostStep
    new = logs_of start (e ∷ es)

    abbrev x : Signal
    x = e.step.taken

    abbrev number : ℕ
    number = (view_after start e.host (e ∷ logs_of start es e.host)).number

    abbrev AreAnswered : List Outgoing → Type 0
    AreAnswered sends = Each (λ (o : Outgoing). IsAnswered start (logs_of start (e ∷ es)) number o.body) sends

    -- rows pass on a completion as they took it
    word_answered : (member : Member) (there : IsIn member (made start)) (s : ReplicaState)
        → IsTakenAt start all e es moment member there s → (body : Body) → IsRowsWord x.body body
        → IsAnswered start new number body
    word_answered member there s taken (Chain (Complete tx key chain at)) word =
        answered_stays start all e es moment number (Chain (Complete tx key chain at)) forth
        (subst (λ n. IsAnswered start old n (Chain (Complete tx key chain at))) same
        (subst (IsAnswered start old x.view.number) word.body_is
        (chain_told start all e es moment taken.now (Complete tx key word.chain word.at) word.body_is
        (λ (y : Addressed). IsAnswered start old y.signal.view.number y.signal.body) answered)))
      where
        same : x.view.number ≡ number
        same =
            taken.now.fresh (chain_fenced x (Complete tx key word.chain word.at) word.body_is)
            ∙ sym (ap (λ (v : View). v.number) taken.now.stands)

        forth : TellsForth (IsForth start old) (Chain (Complete tx key chain at))
        forth =
            subst (TellsForth (IsForth start old)) word.body_is
            (chain_told start all e es moment taken.now (Complete tx key word.chain word.at) word.body_is
            (λ (y : Addressed). TellsForth (IsForth start old) y.signal.body)
            (forth_is_known start all es (moment_less start all e es moment)).signals)
    word_answered member there s taken (Client (TcCommitConf tx epoch)) word = absurd word
    word_answered member there s taken (Client (TcKeyFailConf tx epoch)) word = absurd word
    word_answered member there s taken body word = tt

    own_answered : (member : Member) (there : IsIn member (made start)) → e.host ≡ ldm_of start member
        → AreAnswered (step_after start (ldm_of start member) (old (ldm_of start member)) e).effects.sends
    own_answered member there =
        rows_each start all e es moment member there (λ (o : Outgoing). IsAnswered start new number o.body)
        (λ o own.
        of_saver (IsAnswered start new number) (record { reports = λ epoch. tt; confirms = tt; goes_on = λ at. tt })
        o.body own)
        (λ s between taken.
        each_map (λ (o : Outgoing). IsRowsWord x.body o.body) (λ (o : Outgoing). IsAnswered start new number o.body)
        (replica_row s x).effects.sends (λ o word. word_answered member there s taken o.body word) (rows_words s x))

    pub rows_answered : (member : Member) (there : IsIn member (made start)) → e.host ≡ ldm_of start member
        → AreAnswered (step_after start e.host (logs_of start es e.host) e).effects.sends
    rows_answered member there at =
        subst (λ h. AreAnswered (step_after start h (old h) e).effects.sends) (sym at) (own_answered member there at)

    -- hosts beside them
    end_answered : (body : Body) → IsEnd (λ tx. Unit {0}) body → IsAnswered start new number body
    end_answered (Chain (Complete tx key chain at)) ends = absurd ends
    end_answered (Client (TcCommitConf tx epoch)) ends = absurd ends
    end_answered (Client (TcKeyFailConf tx epoch)) ends = absurd ends
    end_answered body ends = tt

    pub beside_answered : IsBeside (started start e.host).parts
        → AreAnswered (step_after start e.host (logs_of start es e.host) e).effects.sends
    beside_answered first =
        each_from (λ (o : Outgoing). IsAnswered start new number o.body) sends
        (λ o inside.
        end_answered o.body
        (each_in (λ (y : Outgoing). IsEnd (λ tx. Unit {0}) y.body) o sends
        (beside_ends start moment.cluster.nobody e.host first (λ tx. Unit {0}) (old e.host) e (λ sound tx told. tt))
        inside))
      where
        sends : List Outgoing
        sends = (step_after start e.host (logs_of start es e.host) e).effects.sends
