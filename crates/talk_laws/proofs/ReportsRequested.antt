-- What the client asks coordinators for is what the shell requested: at the request, or, of an operation alone, where
-- its transaction has begun.
use Rattle.std.proofs.Common.{◌≡◌, ◌++◌, ℕ, false, List, [], ◌∷◌, ap, inl, inr, refl, subst, sym, ◌∙◌}
use Rattle.std.proofs.lemmas.Bool.{true≢false}
use Rattle.std.specs.Prelude.{None, Some, remove, slice_set}
use Rattle.run_theory.proofs.EachSent.{each_get, each_removed, each_set}
use Rattle.run_theory.proofs.Pasts.{each_append, each_map}
use Rattle.run_theory.specs.Lists.{Each, IsIn}
use Rattle.sig_core.specs.declared.member.TxId.{TxId}
use Rattle.sig_core.specs.declared.op.Op.{Op}
use Rattle.sig_core.specs.declared.outs.Outgoing.{Outgoing}
use Rattle.sig_core.specs.declared.request.ApiReq.TheVariants as request
use Rattle.sig_core.specs.declared.signal.Body.TheVariants.{Client}
use Rattle.sig_core.specs.declared.signal.client.ClientSignal.TheVariants.{TcCommitReq}
use Rattle.sig_core.specs.Place.{coordinator_of}
use Rattle.sig_core.specs.Step.{to_place}
use Rattle.api_block.specs.declared.opened.Doing.TheVariants.{Beginning, Committing, Ready}
use Rattle.api_block.specs.declared.opened.OpenTransaction.{OpenTransaction}
use Rattle.api_block.specs.Opened.{answered, asked_for, begun, begun_operating, behind, committing, is_beginning}
use Rattle.api_block.specs.Opened.{operating}
use Rattle.report_laws.specs.Requested.{AsksAsRequested, IsRequested, alone, by_name}
use Rattle.world_core.specs.Requests.{request_in}
use Rattle.world_core.specs.Start.{NobodyStarts, Start}
use Rattle.world_core.specs.Steps.{HostStep}
use Rattle.world_views.specs.Machine.{step_after}
use Rattle.answer_laws.proofs.ApiSteps.{is_calm}
use Rattle.talk_laws.specs.Reports.{opened_after}
use Rattle.talk_laws.proofs.ClientTalks.{ArePlain, IsPlain, Talk, TalkForms}
use Rattle.talk_laws.proofs.ShellLogs.{opened_first, step_talks}
use Rattle.talk_laws.proofs.ShellTalks.{HostForms}

-- the operation was requested alone in this log
record HasAlone (log : List HostStep) (op : Op) : Type 0 where
  step : HostStep
  inside : IsIn step log
  is : request_in step.step.taken.body ≡ Some (request.Operate None op)

-- so was one with which the transaction is to begin
abbrev IsFrom : List HostStep → OpenTransaction → Type 0
IsFrom log t = (op : Op) → t.doing ≡ Beginning (Some op) → HasAlone log op

module _ (e : HostStep) (log : List HostStep) where
  -- what a step leaves, and what it asks for
  record LeavesRequested (now : List OpenTransaction) (sends : List Outgoing) : Type 0 where
    opened : Each (IsFrom (e ∷ log)) now
    asks : Each (AsksAsRequested e log) sends

  abbrev Leaves : Talk
  Leaves now sends marks replies = LeavesRequested now sends

  plain_asks : (sends : List Outgoing) → ArePlain sends → Each (AsksAsRequested e log) sends
  plain_asks sends plain =
      each_map IsPlain (AsksAsRequested e log) sends
      (λ sent is tx op same. absurd (true≢false (sym is ∙ ap is_calm same))) plain

  wished : (tx : TxId) → Each (AsksAsRequested e log) (to_place (coordinator_of tx) (Client (TcCommitReq tx)) ∷ [])
  wished tx = ((λ to op is. absurd cc), tt)

  module _ (opened : List OpenTransaction) (all : Each (IsFrom log) opened) where
    still : Each (IsFrom (e ∷ log)) opened
    still =
        each_map (IsFrom log) (IsFrom (e ∷ log)) opened
        (λ t from op is.
        let has = from op is in
        record { step = has.step; inside = inr has.inside; is = has.is }) all

    more : (t : OpenTransaction) → IsFrom (e ∷ log) t → Each (IsFrom (e ∷ log)) (opened ++ t ∷ [])
    more t from = each_append (IsFrom (e ∷ log)) opened (t ∷ []) still (from, tt)

    -- one that has begun
    going_on : (at : ℕ) (t : OpenTransaction) → is_beginning t.doing ≡ false
        → Each (IsFrom (e ∷ log)) (slice_set opened at t)
    going_on at t idle =
        each_set (IsFrom (e ∷ log)) opened at t still
        (λ op is. absurd (true≢false (sym (ap is_beginning is) ∙ idle)))

    gone : (at : ℕ) → Each (IsFrom (e ∷ log)) (remove opened at)
    gone at = each_removed (IsFrom (e ∷ log)) opened at still

    forms : TalkForms opened [] e.step.taken.body Leaves
    forms = record {
      keeps = λ sends plain mute. record { opened = still; asks = plain_asks sends plain };
      opens = λ name node sends new plain mute. record {
        opened = more (asked_for (Some name) node None) (λ op none. absurd cc);
        asks = plain_asks sends plain;
      };
      opens_alone = λ op node sends is plain mute. record {
        opened =
            more (asked_for None node (Some op))
            (λ other same.
            let it : op ≡ other = cc in
            subst (HasAlone (e ∷ log)) it (record { step = e; inside = inl refl; is = is }));
        asks = plain_asks sends plain;
      };
      begins = λ name tx at f is mute. record { opened = going_on at (begun f.item tx) refl; asks = tt };
      begins_alone = λ name tx at f op is nameless does mute. record {
        opened = going_on at (begun_operating f.item tx) refl;
        asks = (
          (λ to other same.
              let it : op ≡ other = cc in
              subst (IsRequested e log) it
              (let from = each_get (IsFrom log) opened at f.item all f.get op does in
              alone from.step from.inside from.is)),
          tt,
        );
      };
      waits = λ p at f ahead sends plain mute. record {
        opened =
            each_set (IsFrom (e ∷ log)) opened at (behind f.item ahead) still
            (each_get (IsFrom (e ∷ log)) opened at f.item still f.get);
        asks = plain_asks sends plain;
      };
      operates = λ name op at f tx is ready own mute. record {
        opened = going_on at (operating f.item) refl;
        asks = (
          (λ to other same.
              let it : op ≡ other = cc in
              subst (IsRequested e log) it (by_name name is)),
          tt,
        );
      };
      answers = λ tx answer at f name is does called. record {
        opened = going_on at (answered f.item Ready) refl;
        asks = tt;
      };
      answers_last = λ tx answer at f is does nameless. record {
        opened = going_on at (answered f.item Committing) refl;
        asks = wished tx;
      };
      wishes = λ p at f tx ready own mute. record {
        opened = going_on at (committing f.item) refl;
        asks = wished tx;
      };
      drops = λ p at f sends plain mute. record { opened = gone at; asks = plain_asks sends plain };
      ends = λ p at f tx outcome sends own plain. record { opened = gone at; asks = plain_asks sends plain };
    }

    beside : HostForms opened [] Leaves
    beside = record {
      stays = λ sends marks plain none. record { opened = still; asks = plain_asks sends plain };
      installs = λ now sends marks replies view leaves. leaves;
    }

module _ (start : Start) (nobody : NobodyStarts start) where
  step_leaves : (e : HostStep) (log : List HostStep) → Each (IsFrom log) (opened_after start log)
      → LeavesRequested e log (opened_after start (e ∷ log)) (step_after start 0 log e).effects.sends
  step_leaves e log all =
      step_talks start nobody e log (Leaves e log) (forms e log (opened_after start log) all)
      (beside e log (opened_after start log) all)

  from_requests : (log : List HostStep) → Each (IsFrom log) (opened_after start log)
  from_requests [] = subst (Each (IsFrom [])) (sym (opened_first start)) tt
  from_requests (e ∷ log) = (step_leaves e log (from_requests log)).opened

  pub asked_as_requested : (e : HostStep) (log : List HostStep)
      → Each (AsksAsRequested e log) (step_after start 0 log e).effects.sends
  asked_as_requested e log = (step_leaves e log (from_requests log)).asks
