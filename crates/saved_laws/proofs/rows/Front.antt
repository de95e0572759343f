-- While nobody is decided in a later epoch, the row that takes what is committed up to the epoch is the row, and
-- whoever is committed there takes effect; where all are decided later it is the first row.
use Rattle.std.proofs.Common.{◌≡◌, ◌≤◌, ◌<◌, ◌∙◌, ℕ, Bool, true, false, List, [], ◌∷◌, refl, sym, ap, subst}
use Rattle.std.proofs.lemmas.Bool.{le-leb, lt-leb}
use Rattle.std.specs.FinMap as map
use Rattle.std.specs.Prelude.{if◌then◌else◌, Option, None, Some}
use Rattle.run_theory.proofs.Pasts.{past_less, past_more, past_self}
use Rattle.run_theory.specs.Lists.{IsIn, IsPast}
use Rattle.sig_core.specs.Rows.{row_of, state_by}
use Rattle.sig_core.specs.Same.{same_tx}
use Rattle.sig_core.specs.Table.{Rows}
use Rattle.sig_core.specs.declared.member.Member.{Member}
use Rattle.sig_core.specs.declared.member.TxId.{TxId}
use Rattle.sig_core.proofs.TxLemmas.{same_tx-is}
use Rattle.local_ckpt.specs.Events.{Event}
use Rattle.key_laws.specs.Records.{as_committed, committed_row, found}
use Rattle.key_laws.specs.Replica.{Cell}
use Rattle.key_laws.proofs.RecordLemmas.{committed_keeps, found-edited}
use Rattle.world_core.specs.Start.{Start, made}
use Rattle.world_core.specs.Steps.{HostStep}
use Rattle.moment_laws.specs.Moments.{IsMoment, logs_of}
use Rattle.moment_laws.specs.Places.{ldm_of}
use Rattle.commit_laws.specs.Traces.{IsReplicaOf, record_at, replica_at}
use Rattle.commit_laws.proofs.led.Begins.{replicas_begin_at_rest}
use Rattle.commit_laws.proofs.led.Replicas.{moment_at}
use Rattle.journal_laws.specs.Events.{own_behind}
use Rattle.journal_laws.specs.Journal.{AreEventsOf, first_rows}
use Rattle.saved_laws.specs.Closings.{Commits, CommitsWereDecided}
use Rattle.saved_laws.proofs.rows.Decisions.{DecideWith, decided_with}
use Rattle.saved_laws.proofs.rows.Own.{MomentGoes, OneMore, one_more, own_row, rests, takes}

module _ (decided : CommitsWereDecided) (start : Start) (all : ℕ → List HostStep) (end : List HostStep)
    (begins : start.start_epoch < start.epoch) (moment : IsMoment start all end) (member : Member)
    (there : IsIn member (made start)) (epoch : ℕ) (before : Rows) (key : List ℕ) where
  abbrev own : List Event → Option (List ℕ)
  own events = own_row start member there epoch before key events

  -- whoever is committed was decided, in an epoch of which this is so
  commits_with : (P : ℕ → Type 0) (e : HostStep) (es : List HostStep) → IsPast (e ∷ es) end → DecideWith P es
      → (v : TxId) (at : ℕ) → Commits start e es member v key at → P at
  commits_with P e es past all_so v at c =
      decided_with start P es all_so v at
      (decided start all e es begins (moment_at start all end (e ∷ es) (record { moment = moment; past = past })) member
      there v key at c)

  -- where all are decided later the row is as it was before the first event
  pub first_stays : (es : List HostStep) → IsPast es end → DecideWith (λ at. epoch < at) es → (events : List Event)
      → AreEventsOf start member (logs_of start es (ldm_of start member)) events
      → map.get (own_behind epoch (first_rows start member) before events) key ≡ map.get before key
  first_stays [] past late events are = ap own are
  first_stays (e ∷ es) past late events are =
      by one.goes ∙ first_stays es (past_less e past) late.1 one.older one.are
    where
      one : OneMore start member there epoch before key e es events
      one = one_more start member there epoch before key moment.cluster.nobody e es events are

      by : MomentGoes start member there epoch before key e es one.older events → own events ≡ own one.older
      by (rests own_is row new) = own_is
      by (takes v at c r is begun cell own_is) =
          own_is
          ∙ ap (λ b. if b then r.image else own one.older)
          (lt-leb at epoch (commits_with (λ at. epoch < at) e es past late.1 v at c))

  -- up to a moment at which nobody is decided later
  module _ (final : TxId → Bool) (replicas : IsReplicaOf start (logs_of start []) key member)
      (row_is : map.get before key ≡ row_of (first_rows start member) key) where
    pub record IsFront (es : List HostStep) (events : List Event) : Type 0 where
      pub row : map.get (own_behind epoch (first_rows start member) before events) key
          ≡ (replica_at start (logs_of start es) member key).cell.row
      pub committed : (v : TxId) → state_by (record_at start (logs_of start es) member key v) ≡ Some true
          → final v ≡ true

    pub front_stands : (es : List HostStep) → IsPast es end → DecideWith (λ at. at ≤ epoch) es
        → ((e : HostStep) (more : List HostStep) → IsPast (e ∷ more) es → (v : TxId) (at : ℕ)
        → Commits start e more member v key at → at ≤ epoch → final v ≡ true) → (events : List Event)
        → AreEventsOf start member (logs_of start es (ldm_of start member)) events → IsFront es events
    front_stands [] past low finals events are = record {
      row = ap own are ∙ row_is;
      committed = λ v is.
          absurd (let both : None ≡ Some true =
          sym (ap (λ xs. state_by (found v xs))
          (replicas_begin_at_rest start all (moment_at start all end [] (record { moment = moment; past = past })) key
          member replicas).pending) ∙ is in cc);
    }
    front_stands (e ∷ es) past low finals events are =
        by
        (front_stands es (past_less e past) low.1 (λ d more less. finals d more (past_more e less)) one.older one.are)
        one.goes
      where
        one : OneMore start member there epoch before key e es events
        one = one_more start member there epoch before key moment.cluster.nobody e es events are

        was : Cell
        was = (replica_at start (logs_of start es) member key).cell

        by : IsFront es one.older → MomentGoes start member there epoch before key e es one.older events
            → IsFront (e ∷ es) events
        by rest (rests own_is row new) = record {
          row = own_is ∙ rest.row ∙ sym row;
          committed = λ v is. rest.committed v (new v is);
        }
        by rest (takes v at c r is begun cell own_is) = record {
          row = own_is ∙ ap (λ b. if b then r.image else own one.older) (le-leb at epoch down)
              ∙ sym (ap (λ (d : Cell). d.row) cell ∙ ap (committed_row was.row) is
              ∙ ap (λ b. if b then was.row else r.image) begun);
          committed = λ u so. at_tx u so (same_tx v u) refl;
        }
          where
            down : at ≤ epoch
            down = commits_with (λ at. at ≤ epoch) e es past low.1 v at c

            at_tx : (u : TxId) → state_by (record_at start (logs_of start (e ∷ es)) member key u) ≡ Some true
                → (b : Bool) → same_tx v u ≡ b → final u ≡ true
            at_tx u so true f =
                subst (λ t. final t ≡ true) (same_tx-is v u f) (finals e es (past_self (e ∷ es)) v at c down)
            at_tx u so false f =
                rest.committed u
                (sym (ap state_by (ap (λ (d : Cell). found u d.pending) cell
                ∙ found-edited as_committed committed_keeps v u was.pending f)) ∙ so)
