-- An operation is asked for by the number of the transaction that is open under the name of its request.
use Rattle.std.proofs.Common.{◌≡◌, ℕ, Bool, List, [], ◌∷◌, ap, inl, refl, subst, sym, ◌∙◌}
use Rattle.std.proofs.lemmas.Bool.{true≢false}
use Rattle.std.specs.Prelude.{Some, slice_set}
use Rattle.run_theory.proofs.Focus.{IsFocus}
use Rattle.run_theory.proofs.Pasts.{each_map, in_append}
use Rattle.run_theory.specs.Lists.{Each, IsIn}
use Rattle.sig_core.specs.declared.member.TxId.{TxId}
use Rattle.sig_core.specs.declared.op.Op.{Op}
use Rattle.sig_core.specs.declared.outs.Outgoing.{Outgoing}
use Rattle.sig_core.specs.declared.signal.Body.{Body}
use Rattle.sig_core.specs.declared.signal.Body.TheVariants.{Client}
use Rattle.sig_core.specs.declared.signal.client.ClientSignal.TheVariants.{TcKeyReq}
use Rattle.sig_core.specs.Place.{coordinator_of}
use Rattle.sig_core.specs.Step.{to_place}
use Rattle.api_block.specs.declared.opened.OpenTransaction.{OpenTransaction}
use Rattle.api_block.specs.Opened.{begins_at, begun_operating, is_named, operating}
use Rattle.host_laws.proofs.api.Begins.{same_name-is}
use Rattle.report_laws.specs.Requested.{name_of_request}
use Rattle.world_core.specs.Requests.{request_in}
use Rattle.world_core.specs.Start.{NobodyStarts, Start}
use Rattle.world_core.specs.Steps.{HostStep}
use Rattle.world_views.specs.Machine.{step_after}
use Rattle.answer_laws.proofs.ApiSteps.{is_calm}
use Rattle.talk_laws.specs.Reports.{IsForItsTransaction, IsOpenIn, opened_after}
use Rattle.talk_laws.proofs.ClientTalks.{ArePlain, IsPlain, Talk, TalkForms}
use Rattle.talk_laws.proofs.ShellLogs.{step_talks}
use Rattle.talk_laws.proofs.ShellTalks.{HostForms}

module _ (opened : List OpenTransaction) (body : Body) where
  -- who is asked for an operation is open behind the step under the name of its request
  abbrev Asks : Talk
  Asks now sends marks replies = Each (IsForItsTransaction now body) sends

  plain_asks : (now : List OpenTransaction) (sends : List Outgoing) → ArePlain sends → Asks now sends [] []
  plain_asks now sends plain =
      each_map IsPlain (IsForItsTransaction now body) sends
      (λ sent is tx op same. absurd (true≢false (sym is ∙ ap is_calm same))) plain

  -- one operation of the transaction that stands at a place now
  asks_one : (p : OpenTransaction → Bool) (at : ℕ) (f : IsFocus p opened at) (u : OpenTransaction) (tx : TxId) (op : Op)
      → u.name ≡ name_of_request (request_in body) → u.tx ≡ Some tx
      → Each (IsForItsTransaction (slice_set opened at u) body)
      (to_place (coordinator_of tx) (Client (TcKeyReq tx op)) ∷ [])
  asks_one p at f u tx op named own = (
    (λ other one is.
        let same : tx ≡ other = cc in (
          ap coordinator_of same,
          subst (IsOpenIn (slice_set opened at u) (name_of_request (request_in body))) same
              (record {
                t = u;
                there = subst (IsIn u) (sym (f.set u)) (in_append u f.front (u ∷ f.back) (inl refl));
                named = named;
                own = own;
              }),
        )),
    tt,
  )

  forms : TalkForms opened [] body Asks
  forms = record {
    keeps = λ sends plain mute. plain_asks _ sends plain;
    opens = λ name node sends new plain mute. plain_asks _ sends plain;
    opens_alone = λ op node sends is plain mute. plain_asks _ sends plain;
    begins = λ name tx at f is mute. tt;
    begins_alone = λ name tx at f op is nameless does mute.
        asks_one (begins_at name tx.tc) at f (begun_operating f.item tx) tx op
        (nameless ∙ sym (ap (λ b. name_of_request (request_in b)) is)) refl;
    waits = λ p at f ahead sends plain mute. plain_asks _ sends plain;
    operates = λ name op at f tx is ready own mute.
        asks_one (is_named (Some name)) at f (operating f.item) tx op
        (same_name-is f.item.name (Some name) f.passes ∙ sym (ap name_of_request is)) own;
    answers = λ tx answer at f name is does called. tt;
    answers_last = λ tx answer at f is does nameless. ((λ to op same. absurd cc), tt);
    wishes = λ p at f tx ready own mute. ((λ to op same. absurd cc), tt);
    drops = λ p at f sends plain mute. plain_asks _ sends plain;
    ends = λ p at f tx outcome sends own plain. plain_asks _ sends plain;
  }

  beside : HostForms opened [] Asks
  beside = record {
    stays = λ sends marks plain none. plain_asks _ sends plain;
    installs = λ now sends marks replies view asks. asks;
  }

pub asked_of_its_transaction : (start : Start) (nobody : NobodyStarts start) (e : HostStep) (log : List HostStep)
    → Each (IsForItsTransaction (opened_after start (e ∷ log)) e.step.taken.body)
    (step_after start 0 log e).effects.sends
asked_of_its_transaction start nobody e log =
    step_talks start nobody e log (Asks (opened_after start log) e.step.taken.body)
    (forms (opened_after start log) e.step.taken.body) (beside (opened_after start log) e.step.taken.body)
