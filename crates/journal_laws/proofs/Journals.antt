-- At each moment a member's journal has the records of its events: all that its host takes can be written, where the
-- shell was asked for words and the first epoch of the life can be written.
use Rattle.std.proofs.Common.{◌≡◌, ◌≤◌, ◌&&◌, ℕ, true, List, [], ◌∷◌, arith}
use Rattle.std.proofs.lemmas.Bool.{and_parts, leb-true}
use Rattle.std.specs.Prelude.{nat_le}
use Rattle.frag_map.specs.Shape.{IsShape}
use Rattle.run_theory.proofs.Links.{log_past}
use Rattle.run_theory.proofs.Pasts.{each_past}
use Rattle.run_theory.specs.Lists.{Each}
use Rattle.sig_core.specs.declared.member.TxId.{TxId}
use Rattle.sig_core.specs.declared.signal.Body.{Body}
use Rattle.sig_core.specs.declared.signal.Body.TheVariants.{Chain}
use Rattle.sig_core.specs.declared.signal.Signal.{Signal}
use Rattle.sig_core.specs.declared.signal.chain.ChainSignal.TheVariants.{Commit, LqhKeyReq}
use Rattle.sig_core.specs.declared.view.Shape.{Shape}
use Rattle.redo_format.specs.Records.{IsTransaction}
use Rattle.node_views.specs.WellFormed.{is_body_sound, is_chain, is_sender, is_tx, is_view, is_well_formed}
use Rattle.world_core.specs.Start.{Start}
use Rattle.world_core.specs.Steps.{HostStep}
use Rattle.world_views.specs.Machine.{machine}
use Rattle.moment_laws.specs.Moments.{logs_of}
use Rattle.moment_laws.specs.Places.{ldm_of}
use Rattle.journal_laws.specs.Laws.{JournalsHaveRecords}
use Rattle.journal_laws.proofs.events.HostEvents.{TakesWritable, has_records}
use Rattle.journal_laws.proofs.events.Writable.{IsWritable}
use Rattle.journal_laws.proofs.asked.AllAsk.{all_ask}
use Rattle.journal_laws.proofs.asked.WellAsked.{FitsTx, IsWellAsked}
use Rattle.journal_laws.proofs.epochs.AllLow.{CommitsLow, TakesCommits, commits_low}
use Rattle.journal_laws.proofs.epochs.Low.{IsLow}

body_sound : (shape : Shape) (x : Signal) → is_well_formed shape x ≡ true → is_body_sound shape x.body ≡ true
unfolding is_well_formed
body_sound shape x sound =
    (and_parts (is_sender shape x.member && is_view shape x.view) (is_body_sound shape x.body) sound).1

-- a transaction of the cluster whose number fits has one that can be written
transaction : (shape : Shape) (tx : TxId) → IsShape shape → is_tx shape tx ≡ true → FitsTx tx → IsTransaction tx
transaction shape tx laid is fits =
    let parts = and_parts (nat_le 1 tx.tc) (nat_le tx.tc shape.nodes) is in
    let most : tx.tc ≤ shape.nodes = leb-true tx.tc shape.nodes parts.1 in
    let few : shape.nodes ≤ 8 = laid.nodes_few in
    record { least = leb-true 1 tx.tc parts.0; most = omega (arith, most, few); start = fits.0; seq = fits.1 }

writable : (shape : Shape) (body : Body) → IsShape shape → is_body_sound shape body ≡ true → IsWellAsked body
    → CommitsLow body → IsWritable body
writable shape (Chain (LqhKeyReq tx work members at)) laid sound asked low =
    (transaction shape tx laid (and_parts (is_tx shape tx) (is_chain shape members at) sound).0 asked.0, asked.1)
writable shape (Chain (Commit tx key epoch members at)) laid sound asked low = low
writable shape body laid sound asked low = tt

module _ (start : Start) (laid : IsShape start.shape) (low : IsLow start.epoch) (all : ℕ → List HostStep) where
  takes_writable : (log : List HostStep) → Each (λ (e : HostStep). IsWellAsked e.step.taken.body) log
      → Each (TakesCommits start low all) log → Each (TakesWritable start) log
  takes_writable [] asked commits = tt
  takes_writable (e ∷ log) asked commits = (
    λ sound.
        writable start.shape e.step.taken.body laid (body_sound start.shape e.step.taken sound) asked.0
        (commits.0 sound),
    takes_writable log asked.1 commits.1,
  )

pub journals : JournalsHaveRecords
journals start all es low moment words member there =
    let h : ℕ = ldm_of start member in
    let log : List HostStep = logs_of start es h in
    has_records start member there moment.cluster.nobody moment.cluster.shape log
    (log_past (machine start) h (moment.inside h) (moment.cluster.right.local h))
    (takes_writable start moment.cluster.shape low all log
    (each_past (λ (e : HostStep). IsWellAsked e.step.taken.body) (moment.inside h)
    (all_ask start all moment.cluster words h))
    (commits_low start low all es moment h))
