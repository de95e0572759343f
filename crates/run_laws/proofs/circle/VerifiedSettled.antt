-- A transaction that waits for its epoch, and isn't given up, has of each key what the primary answered.
use Rattle.std.proofs.Common.{◌≡◌, ℕ, Bool, true, false, List, [], ◌∷◌, refl, sym, ap, ◌∙◌, subst}
use Rattle.std.specs.List.{list_any}
use Rattle.std.specs.Prelude.{is_some, None, Some}
use Rattle.run_theory.proofs.Runs.{log_of-past}
use Rattle.run_theory.proofs.Pasts.{each_map}
use Rattle.world_core.specs.Steps.{Addressed, HostStep}
use Rattle.sig_core.specs.declared.member.TxId.{TxId}
use Rattle.sig_core.specs.Same.{same_tx}
use Rattle.node_core.specs.Blocks.{tc_of}
use Rattle.tc_block.specs.declared.phase.Phase.TheVariants.{Verifying}
use Rattle.tc_block.specs.declared.transaction.Transaction.{Transaction}
use Rattle.world_core.specs.Machine.{after, machine, signals_of}
use Rattle.world_core.specs.Hosts.{home}
use Rattle.world_core.specs.Start.{Start}
use Rattle.key_laws.specs.Records.{found}
use Rattle.key_laws.specs.Replica.{Replica}
use Rattle.host_laws.specs.ReplicaLaws.{key_in}
use Rattle.tc_block.specs.Phases.{is_decided}
use Rattle.host_laws.specs.Ways.{forth_by, sent_ways}
use Rattle.host_laws.proofs.coordinator.OneWay.{forth_decided}
use Rattle.host_laws.proofs.hosts.BlocksAlong.{first_live}
use Rattle.run_laws.specs.Circle.{Agree, IsSettledFor, VerifiedAreSettled, at_host, at_primary}
use Rattle.run_laws.specs.GivenUp.{is_carried_out, is_given_up}
use Rattle.run_laws.specs.Live.{live_at, of_host}
use Rattle.run_laws.specs.Routes.{primary_host}
use Rattle.run_laws.specs.Tokens.{is_token}
use Rattle.run_laws.specs.Transit.{AreInTransit, Comes, IsRun, Takes, joined, logs_of}
use Rattle.run_laws.proofs.circle.Kept.{IsGoing}
use Rattle.run_laws.proofs.circle.Circle.{IsCircling}
use Rattle.run_laws.proofs.circle.Steps.{step_circles}
use Rattle.run_laws.proofs.circle.View.{Settles}
use Rattle.run_laws.proofs.hosts.FreshHosts.{none_pending}
use Rattle.run_laws.proofs.circle.KeyMoves.{replica_along}
use Rattle.run_laws.proofs.tokens.Signals.{token_of}
use Rattle.host_laws.proofs.coordinator.OfLive.{each_found}
use Rattle.host_laws.specs.Live.{of_live}
use Rattle.run_laws.proofs.tokens.OnlyToken.{none_asked}
use Rattle.run_laws.proofs.circle.Turns.{is_early}
use Rattle.run_laws.proofs.transit.Transit.{along_transit}
use Rattle.run_laws.proofs.transit.Lists.{uncounted}
use Rattle.run_laws.proofs.circle.ViewOf.{view_of}
use Rattle.run_laws.proofs.ways.Ways.{carried_more, given_more}

-- who waits for its epoch isn't carried out
undone : (start : Start) (logs : ℕ → List HostStep) (tx : TxId) (t : Transaction) → live_at start logs tx ≡ Some t
    → t.phase ≡ Verifying → is_carried_out start logs tx ≡ false
undone start logs tx t live verifying = by (is_carried_out start logs tx) refl
  where
    by : (b : Bool) → is_carried_out start logs tx ≡ b → b ≡ false
    by false e = refl
    by true e =
        let h = home start tx in
        let decided : is_decided t.phase ≡ true =
        each_found (λ (e : TxId × Transaction). list_any (same_tx e.0) (sent_ways start forth_by h (logs h)) ≡ true
        → is_decided e.1.phase ≡ true) (tc_of (after start h (logs h))).live tx t
        (forth_decided start h (logs h)) live e in
        absurd (let both : true ≡ false = sym decided ∙ ap is_decided verifying in cc)

-- before the first step nothing is done
started_live : (start : Start) (tx : TxId) (h : ℕ) → of_host tx (after start h []) ≡ None
started_live start tx h = ap (of_live tx) (first_live start h)

started_none : (start : Start) (tx : TxId) (key : List ℕ) (h : ℕ)
    → found tx (key_in key (after start h [])).cell.pending ≡ None
started_none start tx key h = ap (found tx) (none_pending start h key)

first_circles : (start : Start) (tx : TxId) (key : List ℕ) → IsCircling start tx key [] []
first_circles start tx key = record {
  pristine = λ unborn. record { made = refl; alive = refl; none = started_none start tx key };
  going = λ t live early. absurd (let both : None ≡ Some t = sym (started_live start tx (home start tx)) ∙ live in cc);
}

-- who isn't given up, or carried out, wasn't before
kept_before : (start : Start) (es : List HostStep) (e : HostStep) (tx : TxId)
    → is_given_up start (logs_of start (e ∷ es)) tx ≡ false → is_given_up start (logs_of start es) tx ≡ false
kept_before start es e tx now = by (is_given_up start (logs_of start es) tx) refl
  where
    by : (b : Bool) → is_given_up start (logs_of start es) tx ≡ b → b ≡ false
    by false was = refl
    by true was =
        absurd (let both : true ≡ false = sym (given_more start (logs_of start es) (logs_of start (e ∷ es)) tx
        (log_of-past (machine start) e es) was) ∙ now in cc)

undone_before : (start : Start) (es : List HostStep) (e : HostStep) (tx : TxId)
    → is_carried_out start (logs_of start (e ∷ es)) tx ≡ false → is_carried_out start (logs_of start es) tx ≡ false
undone_before start es e tx now = by (is_carried_out start (logs_of start es) tx) refl
  where
    by : (b : Bool) → is_carried_out start (logs_of start es) tx ≡ b → b ≡ false
    by false was = refl
    by true was =
        absurd (let both : true ≡ false = sym (carried_more start (logs_of start es) (logs_of start (e ∷ es)) tx
        (log_of-past (machine start) e es) was) ∙ now in cc)

-- after every run
abbrev Circles : Start → TxId → List ℕ → List HostStep → List Addressed → Type 0
Circles start tx key es xs = is_given_up start (logs_of start es) tx ≡ false
    → is_carried_out start (logs_of start es) tx ≡ false → IsCircling start tx key es xs

all_circles : (start : Start) (tx : TxId) (key : List ℕ) (es : List HostStep) (xs : List Addressed) → IsRun start es
    → AreInTransit start es xs → Circles start tx key es xs
all_circles start tx key = along_transit start (Circles start tx key) (λ kept waits. first_circles start tx key) next
  where
    next : (es : List HostStep) (e : HostStep) (before between : List Addressed) → Comes start es e
        → AreInTransit start es before → Circles start tx key es before → Takes e before between
        → Circles start tx key (e ∷ es) (joined (signals_of start e.host (logs_of start es e.host) e) between)
    next es e before between come transit circles takes kept waits =
        let kept_then = kept_before start es e tx kept in
        let waits_then = undone_before start es e tx waits in
        step_circles start es e tx key come before between transit takes kept_then waits_then
        (circles kept_then waits_then)

pub verified_settled : VerifiedAreSettled
verified_settled start es xs tx t run transit kept live verifying = record {
  asked = (goes []).asked verifying;
  settled = settled;
}
  where
    goes : (key : List ℕ) → IsGoing start tx key (view_of start (logs_of start es) tx key) t xs
    goes key = (all_circles start tx key es xs run transit kept
        (undone start (logs_of start es) tx t live verifying)).going t live (ap is_early verifying)

    settled : (key : List ℕ) → IsSettledFor start (logs_of start es) tx t.ops key
    settled key =
        let zero_tokens =
        none_asked tx key start es run xs transit t live (ap is_early verifying) ((goes key).asked verifying) in
        let s = (goes key).settled
        (each_map (λ (x : Addressed). is_token tx x.signal.body ≡ false)
        (λ (x : Addressed). token_of tx key x.signal.to x.signal.body ≡ None) xs
        (λ x off. uncounted tx key x.signal.to x.signal.body off) zero_tokens.signals) zero_tokens.waits in
        told key s
      where
        told : (key : List ℕ) → Settles start key (view_of start (logs_of start es) tx key) t.ops
            → IsSettledFor start (logs_of start es) tx t.ops key
        told key s = record {
          made = s.made;
          alive = s.alive;
          agreed = λ h is. subst (λ (r : Replica). Agree (found tx r.cell.pending)
              (found tx (at_host start (logs_of start es) key h).cell.pending)) (sym (here key)) (s.agreed h is);
          others = s.others;
          written = ap (λ (r : Replica). is_some (found tx r.cell.pending)) (here key) ∙ s.written;
        }
          where
            here : (key : List ℕ)
                → (at_primary start (logs_of start es) key).replica
                ≡ at_host start (logs_of start es) key (primary_host start key)
            here key = replica_along start (primary_host start key) key (logs_of start es (primary_host start key))
