-- Where rows commit what they had prepared they take a commit that was sent: so it is of a transaction that was decided
-- in its epoch, went forth, and isn't to abort.
use Rattle.std.proofs.Common.{◌≡◌, ◌∙◌, ℕ, true, List, ◌∷◌, refl, sym, ap, subst}
use Rattle.std.proofs.lemmas.Bool.{true≢false}
use Rattle.std.specs.Prelude.{Some}
use Rattle.run_theory.specs.Lists.{IsIn}
use Rattle.key_laws.specs.Records.{found}
use Rattle.key_laws.specs.Replica.{at_key}
use Rattle.lqh_views.specs.State.{ReplicaState}
use Rattle.sig_core.specs.declared.member.Member.{Member}
use Rattle.sig_core.specs.declared.member.TxId.{TxId}
use Rattle.sig_core.specs.declared.place.BlockId.TheVariants as block
use Rattle.sig_core.specs.declared.rows.PendingRecord.{PendingRecord}
use Rattle.sig_core.specs.declared.signal.chain.ChainSignal.{ChainSignal}
use Rattle.sig_core.specs.declared.signal.chain.ChainSignal.TheVariants.{Commit}
use Rattle.world_core.specs.Start.{Start, made}
use Rattle.world_core.specs.Steps.{HostStep}
use Rattle.moment_laws.proofs.MomentViews.{moment_less}
use Rattle.moment_laws.proofs.PartTaken.{IsTakenNow}
use Rattle.moment_laws.specs.Moments.{IsMoment, logs_of}
use Rattle.outcome_laws.proofs.knowledge.Moments.{moments_know}
use Rattle.outcome_laws.specs.Decided.{IsBegun, IsDecided}
use Rattle.outcome_laws.specs.Know.{TellsTruly}
use Rattle.outcome_laws.specs.Tells.{Tells}
use Rattle.commit_laws.specs.Commits.{HasWritten, IsKept}
use Rattle.commit_laws.specs.Going.{is_forth}
use Rattle.commit_laws.specs.Together.{AllStand}
use Rattle.commit_laws.specs.Traces.{record_at}
use Rattle.commit_laws.proofs.forth.All.{forth_is_known}
use Rattle.commit_laws.proofs.hosts.RowsTurn.{RowsGo, enter, rest, rows_go, take}
use Rattle.commit_laws.proofs.links.TakenChains.{IsKeptForth, chain_told, commit_kept}
use Rattle.commit_laws.proofs.settled.All.{all_stand}
use Rattle.commit_laws.proofs.records.KeptRows.{some_is}
use Rattle.saved_laws.specs.Closings.{Commits, CommitsWereDecided}

module _ (start : Start) (all : ℕ → List HostStep) (e : HostStep) (es : List HostStep)
    (moment : IsMoment start all (e ∷ es)) (member : Member) (there : IsIn member (made start)) (tx : TxId)
    (key : List ℕ) (epoch : ℕ) (commit : Commits start e es member tx key epoch)
  where
    abbrev old : ℕ → List HostStep
    old = logs_of start es

    abbrev new : ℕ → List HostStep
    new = logs_of start (e ∷ es)

    before : IsMoment start all es
    before = moment_less start all e es moment

    -- the record isn't what it was
    unmoved : record_at start new member key tx ≡ record_at start old member key tx → ⊥
    unmoved same =
        let one : Some commit.now ≡ Some commit.r = sym commit.is_now ∙ (same ∙ commit.there) in
        true≢false (sym commit.committed ∙ ap (λ (r : PendingRecord). r.committed) (some_is commit.now commit.r one)
        ∙ commit.prepared)

    taken : IsTakenNow start all e es moment block.Lqh
    taken = by (rows_go start all e es moment member there)
      where
        by : RowsGo start all e es moment member there → IsTakenNow start all e es moment block.Lqh
        by (rest is quiet) =
            absurd (unmoved (ap (λ (s : ReplicaState). found tx (at_key key s.lqh).cell.pending) is))
        by (enter view is quiet) =
            absurd (unmoved (ap (λ (s : ReplicaState). found tx (at_key key s.lqh).cell.pending) is))
        by (take s between taken) = taken.now

    abbrev signal : ChainSignal
    signal = Commit tx key epoch commit.members commit.at

    pub taken_decided : IsDecided start (logs_of start es) tx epoch
    taken_decided =
        subst (Tells (IsDecided start old) (IsBegun start old)) commit.body
        (chain_told start all e es moment taken signal commit.body (TellsTruly start old)
        (moments_know start all es before).signals)

    stood : AllStand start es
    stood = all_stand start all es before

    gone : IsKeptForth start all e es moment taken signal commit.body forth_is_known stood.spoken tx
    gone =
        commit_kept start all e es moment taken signal commit.body forth_is_known stood.spoken tx key epoch
        commit.members commit.at refl

    pub taken_kept : IsKept start (logs_of start es) tx
    taken_kept = gone.kept

    pub taken_forth : is_forth start (logs_of start es) tx ≡ true
    taken_forth = gone.forth_is

    -- it wrote the key
    pub taken_written : HasWritten start (logs_of start es) tx key
    taken_written = (stood.commits.records tx gone.kept member there key commit.r commit.there).0

pub commits_were_decided : CommitsWereDecided
commits_were_decided start all e es begins moment member there tx key at commit =
    taken_decided start all e es moment member there tx key at commit
