-- What a step of a run makes of the records of a transaction of which nothing more is asked.
use Rattle.std.proofs.Common.{◌≡◌, ◌⊎◌, ℕ, Bool, true, false, List, ◌∷◌, refl, sym, ap, ◌∙◌, subst, arith, inl, inr}
use Rattle.std.specs.Prelude.{◌==◌}
use Rattle.std.specs.List.{list_any}
use Rattle.std.proofs.lemmas.Bool.{or_left, or_right}
use Rattle.std.proofs.lemmas.Bool.Decides.{nat_tests}
use Rattle.world_core.specs.Steps.{Addressed, HostStep}
use Rattle.sig_core.specs.declared.member.Member.{Member}
use Rattle.sig_core.specs.declared.member.TxId.{TxId}
use Rattle.sig_core.specs.declared.place.BlockId.TheVariants as block
use Rattle.sig_core.specs.declared.signal.Body.TheVariants.{Chain}
use Rattle.sig_core.specs.declared.signal.chain.ChainSignal.TheVariants.{Abort, Commit}
use Rattle.sig_core.specs.Same.{same_key, same_tx}
use Rattle.node_core.specs.Row.{row}
use Rattle.node_core.specs.declared.host.Host as host
use Rattle.node_core.specs.Requests.{is_request}
use Rattle.world_core.specs.History.{is_applied}
use Rattle.world_core.specs.Hosts.{first_hosts}
use Rattle.world_core.specs.Machine.{after, machine, step_after}
use Rattle.world_core.specs.Marks.{has_mark}
use Rattle.world_core.specs.Start.{Start}
use Rattle.key_laws.specs.Primary.{HasPrepared}
use Rattle.key_laws.specs.Replica.{Event, Replica, key_after}
use Rattle.host_laws.specs.ReplicaLaws.{event_in, key_in}
use Rattle.host_laws.proofs.rows.Replicas.{logs_follow}
use Rattle.host_laws.proofs.hosts.Sums.{total_at}
use Rattle.run_laws.specs.Circle.{at_host}
use Rattle.run_laws.specs.Routes.{primary_host}
use Rattle.run_laws.specs.Tokens.{is_token, tokens, waiting_in}
use Rattle.run_laws.specs.Transit.{Comes, Takes, logs_of}
use Rattle.run_laws.proofs.fades.Hosts.{harmless_in, last_step, primary_step, request_token}
use Rattle.run_laws.proofs.routes.Addressed.{comes_below}
use Rattle.run_laws.proofs.fades.Records.{Fading, HasRecord, fades_prepared, fades_there, fading, once_at}
use Rattle.run_laws.proofs.transit.Weighing.{each_taken, none_passes}
use Rattle.run_theory.proofs.EventCases.{event_moves, event_keeps, event_own}

-- No record of the transaction comes, and none comes to be prepared; the primary marks the commit of one; where the
-- last commit of
-- a key comes none is prepared any more.
pub record StepFades (start : Start) (logs now : ℕ → List HostStep) (e : HostStep) (tx : TxId) : Type 0 where
  pub prepared : (key : List ℕ) (h : ℕ) → HasPrepared tx (at_host start now key h).cell.pending
      → HasPrepared tx (at_host start logs key h).cell.pending
  pub there : (key : List ℕ) (h : ℕ) → HasRecord tx (at_host start now key h).cell.pending
      → HasRecord tx (at_host start logs key h).cell.pending
  pub at_primary : (key : List ℕ) → HasPrepared tx (at_host start logs key (primary_host start key)).cell.pending
      → HasPrepared tx (at_host start now key (primary_host start key)).cell.pending
      ⊎ (has_mark (is_applied tx) (now (primary_host start key)) ≡ true)
  pub committed : (key : List ℕ) (one : TxId) (own : List ℕ) (epoch : ℕ) (chain : List Member) (at : ℕ)
      → e.step.taken.body ≡ Chain (Commit one own epoch chain at) → e.step.taken.to.block ≡ block.Lqh
      → same_tx one tx ≡ true → same_key own key ≡ true → HasPrepared tx (at_host start now key e.host).cell.pending → ⊥
  pub marks : (h : ℕ) → has_mark (is_applied tx) (logs h) ≡ true → has_mark (is_applied tx) (now h) ≡ true

-- a commit at the primary is at the first place of its chain
abbrev pub EndsAtPrimary : Start → HostStep → Type 0
EndsAtPrimary start e =
    (one : TxId) (own : List ℕ) (epoch : ℕ) (chain : List Member) (at : ℕ)
    → e.step.taken.body ≡ Chain (Commit one own epoch chain at) → (at == 0) ≡ (e.host == primary_host start own)

abbrev pub NoAbort : HostStep → TxId → Type 0
NoAbort e tx = (one : TxId) (own : List ℕ) → e.step.taken.body ≡ Chain (Abort one own) → same_tx one tx ≡ false

module _ (start : Start) (es : List HostStep) (e : HostStep) (come : Comes start es e) where
  abbrev h : ℕ
  h = e.host

  -- marks stay
  pub marks_at : (tx : TxId) (k : ℕ) → has_mark (is_applied tx) (logs_of start es k) ≡ true
      → has_mark (is_applied tx) (logs_of start (e ∷ es) k) ≡ true
  marks_at tx =
      event_keeps (machine start) e es (λ k log. has_mark (is_applied tx) log ≡ true)
      (or_right (list_any (is_applied tx) e.step.marks) (has_mark (is_applied tx) (logs_of start es h)))

  module _ (before between : List Addressed) (takes : Takes e before between) (tx : TxId)
      (none : tokens start (logs_of start es) before tx ≡ 0) (no_abort : NoAbort e tx) (ends : EndsAtPrimary start e)
    where
      wait_none : waiting_in tx (after start h (logs_of start es h)) ≡ 0
      wait_none = omega (
        arith,
        none,
        total_at (first_hosts start) (λ k. waiting_in tx (after start k (logs_of start es k))) h
            (comes_below start es e come),
      )

      token_none : is_token tx e.step.taken.body ≡ false
      token_none = by (is_request e.step.taken.body) refl
        where
          by : (b : Bool) → is_request e.step.taken.body ≡ b → is_token tx e.step.taken.body ≡ false
          by true is = request_token tx e.step.taken.body is
          by false is =
              each_taken (λ (x : Addressed). is_token tx x.signal.body ≡ false) e before between is takes
              (none_passes (λ (x : Addressed). is_token tx x.signal.body) before (omega (arith, none)))

      abbrev g : host.Host
      g = after start h (logs_of start es h)

      abbrev event : List ℕ → Event
      event key = event_in key g e.step.taken

      fading_at : (key : List ℕ)
          → Fading tx (event key) (key_in key g).cell.pending (key_after (event key) (key_in key g)).cell.pending
      fading_at key =
          fading tx (event key) (key_in key g) (harmless_in tx key g e.step.taken token_none wait_none no_abort)
          (once_at start key h (logs_of start es h))

      now_is : (key : List ℕ) → key_in key (row g e.step.taken).state ≡ key_after (event key) (key_in key g)
      now_is key = logs_follow start h (logs_of start es h) e key

      key_now : (key : List ℕ) → at_host start (logs_of start (e ∷ es)) key h ≡ key_after (event key) (key_in key g)
      key_now key = event_own (machine start) e es
          (λ k log. key_in key (after start k log) ≡ key_after (event key) (key_in key g)) h refl (now_is key)

      prepared_at : (key : List ℕ) (k : ℕ)
          → HasPrepared tx (at_host start (logs_of start (e ∷ es)) key k).cell.pending
          → HasPrepared tx (at_host start (logs_of start es) key k).cell.pending
      prepared_at key =
          event_moves (machine start) e es
          (λ k was log. HasPrepared tx (key_in key (after start k log)).cell.pending
          → HasPrepared tx (key_in key (after start k was)).cell.pending)
          (λ p. fades_prepared tx (event key) (key_in key g).cell.pending
          (key_after (event key) (key_in key g)).cell.pending (fading_at key)
          (subst (λ (r : Replica). HasPrepared tx r.cell.pending) (now_is key) p)) (λ k log p. p)

      there_at : (key : List ℕ) (k : ℕ)
          → HasRecord tx (at_host start (logs_of start (e ∷ es)) key k).cell.pending
          → HasRecord tx (at_host start (logs_of start es) key k).cell.pending
      there_at key =
          event_moves (machine start) e es
          (λ k was log. HasRecord tx (key_in key (after start k log)).cell.pending
          → HasRecord tx (key_in key (after start k was)).cell.pending)
          (λ p. fades_there tx (event key) (key_in key g).cell.pending
          (key_after (event key) (key_in key g)).cell.pending (fading_at key)
          (subst (λ (r : Replica). HasRecord tx r.cell.pending) (now_is key) p)) (λ k log p. p)

      is_first : (key : List ℕ) → h ≡ primary_host start key
          → (one : TxId) (own : List ℕ) (epoch : ℕ) (chain : List Member) (at : ℕ)
          → e.step.taken.body ≡ Chain (Commit one own epoch chain at) → own ≡ key → (at == 0) ≡ true
      is_first key same one own epoch chain at is own_is =
          ends one own epoch chain at is ∙ ap (λ q. h == primary_host start q) own_is ∙ here same
        where
          here : h ≡ primary_host start key → (h == primary_host start key) ≡ true
          here q = grind (arith, nat_tests, q)

      primary_at : (key : List ℕ)
          → HasPrepared tx (at_host start (logs_of start es) key (primary_host start key)).cell.pending
          → HasPrepared tx (at_host start (logs_of start (e ∷ es)) key (primary_host start key)).cell.pending
          ⊎ (has_mark (is_applied tx) (logs_of start (e ∷ es) (primary_host start key)) ≡ true)
      primary_at key =
          event_moves (machine start) e es
          (λ k was log. k ≡ primary_host start key → HasPrepared tx (key_in key (after start k was)).cell.pending
          → HasPrepared tx (key_in key (after start k log)).cell.pending ⊎ (has_mark (is_applied tx) log ≡ true))
          (λ same p. which (primary_step tx g e.step.taken key (fading_at key) (is_first key same) p))
          (λ k log same p. inl p) (primary_host start key) refl
        where
          which : HasPrepared tx (key_after (event key) (key_in key g)).cell.pending
              ⊎ (list_any (is_applied tx) (step_after start h (logs_of start es h) e).effects.marks ≡ true)
              → HasPrepared tx (key_in key (row g e.step.taken).state).cell.pending
              ⊎ (has_mark (is_applied tx) (e ∷ logs_of start es h) ≡ true)
          which (inl q) = inl (subst (λ (r : Replica). HasPrepared tx r.cell.pending) (sym (now_is key)) q)
          which (inr q) = inr
              (or_left (list_any (is_applied tx) e.step.marks) (has_mark (is_applied tx) (logs_of start es h))
              (ap (list_any (is_applied tx)) come.happens.step.fits.marks ∙ q))

      pub step_fades : StepFades start (logs_of start es) (logs_of start (e ∷ es)) e tx
      step_fades = record {
        prepared = prepared_at;
        there = there_at;
        at_primary = primary_at;
        committed = λ key one own epoch chain at is home same same_own p.
            last_step tx g e.step.taken one own key epoch chain at is home same same_own
            (subst (λ (r : Replica). HasPrepared tx r.cell.pending) (key_now key) p);
        marks = marks_at tx;
      }
