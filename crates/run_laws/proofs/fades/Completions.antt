-- A row is completed behind its commit at each replica.
use Rattle.std.proofs.Common.{◌≡◌, ℕ, Bool, true, false, List, ◌∷◌, refl, ap, subst}
use Rattle.run_theory.proofs.Runs.{log_of-past}
use Rattle.run_theory.specs.Lists.{IsPast}
use Rattle.world_core.specs.Steps.{Addressed, HostStep}
use Rattle.sig_core.specs.declared.member.TxId.{TxId}
use Rattle.node_core.specs.Requests.{is_request}
use Rattle.world_core.specs.Machine.{machine, signals_of}
use Rattle.world_core.specs.Start.{Start}
use Rattle.sig_core.proofs.Keys.{same_tx-self}
use Rattle.host_laws.proofs.coordinator.Ways.{not_both}
use Rattle.run_laws.specs.Completions.{CompletionsFollowCommits}
use Rattle.run_laws.specs.GivenUp.{is_carried_out, is_given_up}
use Rattle.run_laws.specs.Transit.{AreInTransit, Comes, IsRun, Takes, joined, logs_of}
use Rattle.run_laws.proofs.carried.Next.{carried_next}
use Rattle.run_laws.proofs.carried.Out.{IsCarried, TellsOf}
use Rattle.run_laws.proofs.carried.FirstCommits.{first_next, part}
use Rattle.run_laws.proofs.ways.GivenUp.{completions_are_of_carried_out, none_is_both}
use Rattle.run_laws.proofs.transit.Transit.{along_transit}
use Rattle.run_laws.proofs.transit.Runs.{taking}
use Rattle.run_laws.proofs.causes.Undecided.{carried_out_have_none}
use Rattle.run_laws.proofs.ways.Ways.{carried_more, given_more}
use Rattle.run_laws.proofs.transit.Weighing.{each_taken, in_transit}

-- Along a run: of a transaction that is carried out all holds that is to hold; and where one is neither carried out nor
-- given up,
-- nothing is on its way that commits or completes its rows.
pub record IsUnderWay (start : Start) (tx : TxId) (es : List HostStep) (xs : List Addressed) : Type 0 where
  pub carried : is_carried_out start (logs_of start es) tx ≡ true → IsCarried start (logs_of start es) xs tx
  pub silent : is_carried_out start (logs_of start es) tx ≡ false → is_given_up start (logs_of start es) tx ≡ false
      → in_transit (part tx) xs ≡ 0

module _ (start : Start) (tx : TxId) where
  next : (es : List HostStep) (e : HostStep) (before between : List Addressed) → Comes start es e
      → AreInTransit start es before → IsUnderWay start tx es before → Takes e before between
      → IsUnderWay start tx (e ∷ es) (joined (signals_of start e.host (logs_of start es e.host) e) between)
  next es e before between come transit u takes =
      by (is_carried_out start (logs_of start es) tx) refl (is_given_up start (logs_of start es) tx) refl
    where
      past : (h : ℕ) → IsPast (logs_of start es h) (logs_of start (e ∷ es) h)
      past h = log_of-past (machine start) e es h

      by : (c : Bool) → is_carried_out start (logs_of start es) tx ≡ c → (g : Bool)
          → is_given_up start (logs_of start es) tx ≡ g
          → IsUnderWay start tx (e ∷ es) (joined (signals_of start e.host (logs_of start es e.host) e) between)
      by true is g free = record {
        carried = λ now. carried_next start es e come before between takes tx is
            (carried_out_have_none start es before tx come.before transit is) (u.carried is);
        silent = λ off given. not_both (is_carried_out start (logs_of start (e ∷ es)) tx)
            (carried_more start (logs_of start es) (logs_of start (e ∷ es)) tx past is) off;
      }
      by false is false free =
          let first = first_next start es e come before between transit takes tx is free (u.silent is free) in
          record { carried = first.carried; silent = first.silent }
      by false is true given =
          let given_now = given_more start (logs_of start es) (logs_of start (e ∷ es)) tx past given in
          record {
            carried = λ now. not_both (is_given_up start (logs_of start (e ∷ es)) tx) given_now
                (none_is_both start (logs_of start (e ∷ es)) tx now);
            silent = λ off free. not_both (is_given_up start (logs_of start (e ∷ es)) tx) given_now free;
          }

  pub under_way : (es : List HostStep) (xs : List Addressed) → IsRun start es → AreInTransit start es xs
      → IsUnderWay start tx es xs
  under_way es xs run transit = along_transit start (IsUnderWay start tx)
      (record { carried = λ is. absurd cc; silent = λ off free. refl }) next es xs run transit

pub completions_follow_commits : CompletionsFollowCommits
completions_follow_commits start es e tx key chain at come is =
    let t = taking start es e come in
    let carried = completions_are_of_carried_out start es e tx key chain at come is in
    let told = ((under_way start tx es t.before come.before t.transit).carried carried).told in
    subst (TellsOf start (logs_of start es) tx) is
    (each_taken (λ (x : Addressed). TellsOf start (logs_of start es) tx x.signal.body) e t.before t.between
    (ap is_request is) t.takes told) (same_tx-self tx)
