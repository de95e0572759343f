-- What stands together at each moment: each part of it is kept by an event behind a moment at which all of it stands.
use Rattle.std.specs.Prelude.{◌≡◌, ℕ, true, false, List, ◌∷◌}
use Rattle.run_theory.specs.Links.{sent}
use Rattle.run_theory.specs.Lists.{Each}
use Rattle.sig_core.specs.declared.member.TxId.{TxId}
use Rattle.world_core.specs.Start.{Start}
use Rattle.world_core.specs.Steps.{Addressed, HostStep}
use Rattle.view_laws.specs.Order.{sound_machine}
use Rattle.moment_laws.specs.Moments.{IsMoment, current, logs_of}
use Rattle.commit_laws.specs.Answered.{IsAnswered}
use Rattle.commit_laws.specs.Commits.{CommitsStand}
use Rattle.commit_laws.specs.Fates.{aborts, commits, fate}
use Rattle.commit_laws.specs.Parts.{PartsStand}
use Rattle.commit_laws.specs.Speaks.{AreSpokenTruly}
use Rattle.commit_laws.specs.Takeovers.{TakeoversStand}
use Rattle.commit_laws.specs.Traces.{is_known}
use Rattle.commit_laws.specs.Transit.{AreInTransit}

pub record AllStand (start : Start) (es : List HostStep) : Type 0 where
  pub spoken : AreSpokenTruly start (logs_of start es)
  pub answered : (i j : ℕ)
      → Each (λ (x : Addressed). IsAnswered start (logs_of start es) x.signal.view.number x.signal.body)
      (sent (sound_machine start) i j (logs_of start es i))
  pub takeovers : TakeoversStand start (logs_of start es)
  pub commits : CommitsStand start (logs_of start es)
  pub parts : (xs : List Addressed) → AreInTransit start es xs → PartsStand start (logs_of start es) xs

-- how an event moves what becomes of a transaction: it aborts for ever, and commits as long as the current view is the
-- same
pub record FatesMove (start : Start) (e : HostStep) (es : List HostStep) (tx : TxId) : Type 0 where
  pub aborting : fate start (logs_of start es) tx ≡ aborts → fate start (logs_of start (e ∷ es)) tx ≡ aborts
  pub committing : current start (logs_of start (e ∷ es)) ≡ current start (logs_of start es)
      → fate start (logs_of start es) tx ≡ commits → fate start (logs_of start (e ∷ es)) tx ≡ commits

-- the event comes behind a moment at which all stands
pub record Follows (start : Start) (all : ℕ → List HostStep) (e : HostStep) (es : List HostStep) : Type 0 where
  pub moment : IsMoment start all (e ∷ es)
  pub stood : AllStand start es

abbrev pub EventsMoveFates : Type 0
EventsMoveFates =
    (start : Start) (all : ℕ → List HostStep) (e : HostStep) (es : List HostStep) → Follows start all e es → (tx : TxId)
    → FatesMove start e es tx

-- and each part in turn
abbrev pub EventsKeepTakeovers : Type 0
EventsKeepTakeovers =
    (start : Start) (all : ℕ → List HostStep) (e : HostStep) (es : List HostStep) → Follows start all e es
    → ((tx : TxId) → FatesMove start e es tx) → TakeoversStand start (logs_of start (e ∷ es))

abbrev pub EventsKeepSpoken : Type 0
EventsKeepSpoken =
    (start : Start) (all : ℕ → List HostStep) (e : HostStep) (es : List HostStep) → Follows start all e es
    → ((tx : TxId) → FatesMove start e es tx) → AreSpokenTruly start (logs_of start (e ∷ es))

abbrev pub EventsKeepAnswered : Type 0
EventsKeepAnswered =
    (start : Start) (all : ℕ → List HostStep) (e : HostStep) (es : List HostStep) → Follows start all e es
    → ((tx : TxId) → FatesMove start e es tx) → (i j : ℕ)
    → Each (λ (x : Addressed). IsAnswered start (logs_of start (e ∷ es)) x.signal.view.number x.signal.body)
    (sent (sound_machine start) i j (logs_of start (e ∷ es) i))

-- with what is answered behind the event
abbrev pub EventsKeepCommits : Type 0
EventsKeepCommits =
    (start : Start) (all : ℕ → List HostStep) (e : HostStep) (es : List HostStep) → Follows start all e es
    → ((tx : TxId) → FatesMove start e es tx)
    → ((i j : ℕ) → Each (λ (x : Addressed). IsAnswered start (logs_of start (e ∷ es)) x.signal.view.number
    x.signal.body)
    (sent (sound_machine start) i j (logs_of start (e ∷ es) i)))
    → CommitsStand start (logs_of start (e ∷ es))

abbrev pub EventsKeepParts : Type 0
EventsKeepParts =
    (start : Start) (all : ℕ → List HostStep) (e : HostStep) (es : List HostStep) → Follows start all e es
    → ((tx : TxId) → FatesMove start e es tx) → (xs : List Addressed) → AreInTransit start (e ∷ es) xs
    → PartsStand start (logs_of start (e ∷ es)) xs

-- so all of it stands at each moment
abbrev pub AllStandAlways : Type 0
AllStandAlways =
    (start : Start) (all : ℕ → List HostStep) (es : List HostStep) → IsMoment start all es → AllStand start es

-- whoever comes to be known to the client's side commits
abbrev pub KnownCommit : Type 0
KnownCommit =
    (start : Start) (all : ℕ → List HostStep) (e : HostStep) (es : List HostStep) → Follows start all e es → (tx : TxId)
    → is_known start (logs_of start (e ∷ es)) tx ≡ true → is_known start (logs_of start es) tx ≡ false
    → fate start (logs_of start es) tx ≡ commits
