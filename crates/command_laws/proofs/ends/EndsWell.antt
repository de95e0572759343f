-- A transaction that is neither to be committed nor aborted at the client's wish ends for want of room or of time.
use Rattle.std.proofs.Common.{◌≡◌, ℕ, zero, suc, Bool, true, false, List, [], ◌∷◌, ◌++◌, refl, sym, ap, ◌∙◌, subst}
use Rattle.std.proofs.Common.{append_assoc}
use Rattle.std.specs.Prelude.{Option, Some, drop, if◌then◌else◌, length, not}
use Rattle.run_theory.proofs.Pasts.{each_map}
use Rattle.run_theory.specs.Cuts.{IsCut}
use Rattle.run_theory.specs.Lists.{Each, IsIn, IsPast}
use Rattle.sig_core.proofs.Keys.{same_tx-self}
use Rattle.sig_core.specs.declared.member.TxId.{TxId}
use Rattle.sig_core.specs.declared.outcome.AbortCause.{AbortCause}
use Rattle.sig_core.specs.declared.outcome.Outcome.{Outcome}
use Rattle.sig_core.specs.declared.outcome.Outcome.TheVariants as outcome
use Rattle.sig_core.specs.declared.place.Place.{Place}
use Rattle.sig_core.specs.declared.reply.ApiReply.{ApiReply}
use Rattle.sig_core.specs.declared.reply.ApiReply.TheVariants.{Ended}
use Rattle.sig_core.specs.declared.request.ApiReq.{ApiReq}
use Rattle.sig_core.specs.declared.signal.Body.{Body}
use Rattle.sig_core.specs.declared.signal.Body.TheVariants.{Client}
use Rattle.sig_core.specs.declared.signal.client.ClientSignal.TheVariants.{TcCommitConf, TcCommitReq, TcRollbackRep}
use Rattle.sig_core.specs.declared.signal.client.ClientSignal.TheVariants.{TcRollbackReq}
use Rattle.sig_core.specs.Same.{same_tx}
use Rattle.node_core.specs.Replies.{replies_of}
use Rattle.node_core.specs.Requests.{is_request}
use Rattle.world_core.specs.Hosts.{home}
use Rattle.world_core.specs.Machine.{after}
use Rattle.world_core.specs.Start.{Start}
use Rattle.world_core.specs.Steps.{HostStep}
use Rattle.host_laws.proofs.api.Wishes.{is_tc, second_fails}
use Rattle.command_laws.proofs.hosts.ApiChanges.{outcome_in}
use Rattle.command_laws.proofs.ends.Committed.{cut_at_first}
use Rattle.command_laws.proofs.operations.EarlyRun.{no_bad}
use Rattle.command_laws.proofs.operations.EarlySteps.{IsOpenNow, is_bad, is_good, is_wish_to, wish_of}
use Rattle.command_laws.proofs.hosts.EntryGoes.{HasEnded, fails_at_end}
use Rattle.command_laws.proofs.quiet.First.{IsFirst}
use Rattle.command_laws.proofs.operations.Asks.{no_wish_node}
use Rattle.command_laws.proofs.hosts.Pushes.{node_since}
use Rattle.command_laws.proofs.ends.Reported.{OutcomeOf, ending_is}
use Rattle.command_laws.proofs.quiet.Since.{none_taken, sent_since}
use Rattle.command_laws.proofs.operations.TellsSince.{OnTc}
use Rattle.command_laws.proofs.hosts.Tests.{none_at}
use Rattle.command_laws.proofs.hosts.Told.{told_since}
use Rattle.command_laws.specs.Served.{IsServedBetween, is_refusal, replies_since}

request_plain_wish : (tx : TxId) (to : Place) (body : Body) → is_request body ≡ true → is_wish_to tx to body ≡ false
request_plain_wish tx to body is = second_fails (is_tc to.block) (plain body is)
  where
    plain : (b : Body) → is_request b ≡ true → wish_of tx b ≡ false
    plain (Client (TcCommitReq one)) r = cc
    plain (Client (TcRollbackReq one)) r = cc
    plain _ r = refl

-- an end that isn't bad is an abort for want of room or of time
ends_well : (tx : TxId) (body : Body) (end : Outcome) → outcome_in body ≡ Some (tx, end) → is_good tx body ≡ true
    → (cause : AbortCause) × ((end ≡ outcome.Aborted cause) × (is_refusal cause ≡ true))
ends_well tx (Client (TcCommitConf one epoch)) end is good =
    absurd (let same : same_tx one tx ≡ true = ap (λ (e : OutcomeOf). same_tx e.0 tx)
    (ending_is (one, outcome.Committed epoch) (tx, end) is) ∙ same_tx-self tx in
    let off : false ≡ true = sym (ap not same) ∙ good in cc)
ends_well tx (Client (TcRollbackRep one cause)) end is good = (
  cause,
  (
    ap (λ (e : OutcomeOf). e.1) (sym (ending_is (one, outcome.Aborted cause) (tx, end) is)),
    by (is_refusal cause) good (ap (λ (e : OutcomeOf). same_tx e.0 tx)
        (ending_is (one, outcome.Aborted cause) (tx, end) is) ∙ same_tx-self tx),
  ),
)
  where
    by : (b : Bool) → (if b then true else not (same_tx one tx)) ≡ true → same_tx one tx ≡ true → b ≡ true
    by true fine same = refl
    by false fine same = let off : false ≡ true = sym (ap not same) ∙ fine in cc
ends_well tx _ end is good = cc

is_true : (b : Bool) → not b ≡ false → b ≡ true
is_true true e = refl
is_true false e = cc

-- the transaction ended so since then
pub record EndsWell (start : Start) (was now : ℕ → List HostStep) (name : Option ℕ) : Type 0 where
  pub cause : AbortCause
  pub told : IsIn (Ended name (outcome.Aborted cause)) (replies_since start was now)
  pub refusal : is_refusal cause ≡ true

module _ (start : Start) (was now : ℕ → List HostStep) (asked : ApiReq) (served : IsServedBetween start was now asked)
    (f : IsFirst start was now asked) where
  abbrev cut : IsCut was now
  cut = cut_at_first was now f.later f.first f.is served.cut

  past_of : (older : List HostStep) → IsPast (was 0) (older ++ f.first ∷ was 0)
  past_of older = record { newer = older ++ f.first ∷ []; is = sym (append_assoc older (f.first ∷ []) (was 0)) }

  now_of : (newer : List HostStep) (step : HostStep) (older : List HostStep) → f.later ≡ newer ++ step ∷ older
      → now 0 ≡ newer ++ step ∷ (older ++ f.first ∷ was 0)
  now_of newer step older is =
      f.is ∙ ap (λ w. w ++ f.first ∷ was 0) is ∙ append_assoc newer (step ∷ older) (f.first ∷ was 0)

  -- what a step replies is among the replies since then
  pub replied : (newer : List HostStep) (step : HostStep) (older : List HostStep) (reply : ApiReply)
      → f.later ≡ newer ++ step ∷ older
      → replies_of (after start 0 (step ∷ (older ++ f.first ∷ was 0)))
      ≡ replies_of (after start 0 (older ++ f.first ∷ was 0)) ++ reply ∷ [] → IsIn reply (replies_since start was now)
  replied newer step older reply is told =
      subst (λ w. IsIn reply (drop (length (replies_of (after start 0 (was 0)))) (replies_of (after start 0 w))))
      (sym (now_of newer step older is))
      (told_since start (was 0) (older ++ f.first ∷ was 0) newer step reply (past_of older) told)

  module _ (tx : TxId) (wishes : sent_since start (is_wish_to tx) 0 (f.later ++ f.first ∷ []) (was 0) ≡ 0)
      (open_was : (h : ℕ) → home start tx ≡ h → OnTc (IsOpenNow tx) (after start h (was h))) where
    -- nobody wishes for its commit or abort
    no_wishes : (h : ℕ) → sent_since start (is_wish_to tx) h (cut h).newer (was h) ≡ 0
    no_wishes zero = wishes
    no_wishes (suc h) = node_since start (is_wish_to tx) (no_wish_node tx) h (cut (suc h)).newer (was (suc h))

    none_wished : (h : ℕ)
        → Each (λ (e : HostStep). is_wish_to tx e.step.taken.to e.step.taken.body ≡ false) (cut h).newer
    none_wished h =
        each_map (λ (e : HostStep). is_request e.step.taken.body ≡ false → is_wish_to tx e.step.taken.to
        e.step.taken.body ≡ false) (λ (e : HostStep). is_wish_to tx e.step.taken.to e.step.taken.body ≡ false)
        (cut h).newer
        (none_at (is_wish_to tx) (request_plain_wish tx))
        (none_taken start was now served.before served.since cut (is_wish_to tx) (λ i low. no_wishes i) h)

    none_bad : Each (λ (e : HostStep). is_request e.step.taken.body ≡ false → is_bad tx e.step.taken.to
        e.step.taken.body ≡ false) (f.later ++ f.first ∷ [])
    none_bad = none_taken start was now served.before served.since cut (is_bad tx)
        (λ i low. no_bad start was now served.before served.since cut tx none_wished open_was i) 0

    pub ended_well : (name : Option ℕ) → HasEnded tx name start f.later (f.first ∷ was 0) → EndsWell start was now name
    ended_well name ended =
        let w = ends_well tx ended.step.step.taken.body ended.ending.outcome ended.ending.about good in
        record {
          cause = w.0;
          told = replied ended.newer ended.step ended.older (Ended name (outcome.Aborted w.0)) ended.is
              (ended.ending.told ∙ ap (λ end. replies_of (after start 0 (ended.older ++ f.first ∷ was 0)) ++ Ended name
              end ∷ []) w.1.0);
          refusal = w.1.1;
        }
      where
        good : is_good tx ended.step.step.taken.body ≡ true
        good =
            is_true (is_good tx ended.step.step.taken.body)
            (fails_at_end tx name start f.later (f.first ∷ was 0) f.first (is_bad tx) ended f.plain none_bad)
