-- A commit of a transaction that takes commands ends in its being committed.
use Rattle.std.proofs.Common.{◌≡◌, ◌⊎◌, ◌+◌, ℕ, zero, suc, Bool, true, false, List, [], ◌∷◌, ◌++◌, refl, sym, ap, ◌∙◌}
use Rattle.std.proofs.Common.{subst, inl, inr, append_assoc, arith, ◌<◌}
use Rattle.std.specs.Prelude.{Option, None, Some}
use Rattle.run_theory.proofs.Pasts.{each_before, each_from, each_map}
use Rattle.run_theory.specs.Cuts.{IsCut}
use Rattle.run_theory.specs.Lists.{Each, IsIn}
use Rattle.sig_core.specs.declared.member.TxId.{TxId}
use Rattle.sig_core.specs.declared.place.Place.{Place}
use Rattle.sig_core.specs.declared.request.ApiReq.TheVariants.{Commit}
use Rattle.sig_core.specs.declared.signal.Body.{Body}
use Rattle.sig_core.specs.declared.signal.Body.TheVariants.{Client}
use Rattle.sig_core.specs.declared.signal.client.ClientSignal.TheVariants.{TcKeyReq, TcRollbackReq}
use Rattle.api_block.specs.declared.opened.Doing.TheVariants.{Ready, Committing}
use Rattle.api_block.specs.declared.opened.OpenTransaction.{OpenTransaction}
use Rattle.api_block.specs.Opened.{is_beginning}
use Rattle.node_core.specs.Blocks.{api_of}
use Rattle.node_core.specs.Requests.{is_request}
use Rattle.world_core.specs.Hosts.{home, first_hosts}
use Rattle.world_core.specs.Machine.{after, step_after}
use Rattle.world_core.specs.Start.{Start}
use Rattle.world_core.specs.Steps.{HostStep}
use Rattle.host_laws.proofs.api.Begins.{in_middle}
use Rattle.answer_laws.proofs.Begins.{no_begin}
use Rattle.host_laws.proofs.api.Wishes.{is_tc, second_fails, sends_of}
use Rattle.answer_laws.specs.Answered.{AreQuiet, EachIsAnswered, IsOpenAt, is_answered_by}
use Rattle.host_laws.specs.OpenedAfter.{opened_after, opened_in}
use Rattle.command_laws.proofs.ends.CommitFirst.{IsAsked, commit_first}
use Rattle.command_laws.proofs.hosts.Entries.{HasOne, IsNamed, NoneBegins, named_found}
use Rattle.command_laws.proofs.hosts.EntryGoes.{HasEnded, commit_goes}
use Rattle.command_laws.proofs.ends.FirmAtQuiet.{firm_at}
use Rattle.command_laws.proofs.ends.FirmHosts.{back_of, firm_since, is_back, is_push_to, push_of}
use Rattle.command_laws.proofs.quiet.First.{IsFirst, first_step, request_first}
use Rattle.command_laws.proofs.hosts.BlockSteps.{api_seen}
use Rattle.command_laws.proofs.hosts.Pushes.{calm_since, node_pushes}
use Rattle.command_laws.proofs.ends.Reported.{reported}
use Rattle.command_laws.proofs.quiet.Since.{none_taken, sent_since}
use Rattle.command_laws.proofs.hosts.Tests.{none_at}
use Rattle.command_laws.specs.Served.{CommitsAreCommitted, IsServedBetween, IsToldCommitted, named_in}

-- at quiet no transaction is beginning
pub calm_at : (start : Start) (logs : ℕ → List HostStep) → AreQuiet start logs → NoneBegins (opened_after start logs)
calm_at start logs quiet = each_from (λ (t : OpenTransaction). is_beginning t.doing ≡ false) (opened_after start logs)
    (λ t inside. no_begin start logs t quiet inside)

-- the cut, with the steps of the shell's host as they were found
abbrev pub cut_at_first : (was now : ℕ → List HostStep) (later : List HostStep) (first : HostStep)
    → now 0 ≡ later ++ first ∷ was 0 → IsCut was now → IsCut was now
cut_at_first was now later first is cut zero = record {
  newer = later ++ first ∷ [];
  is = is ∙ sym (append_assoc later (first ∷ []) (was 0));
}
cut_at_first was now later first is cut (suc h) = cut (suc h)

request_pushes_none : (tx : TxId) (to : Place) (body : Body) → is_request body ≡ true → is_push_to tx to body ≡ false
request_pushes_none tx to body is = second_fails (is_tc to.block) (plain body is)
  where
    plain : (b : Body) → is_request b ≡ true → push_of tx b ≡ false
    plain (Client (TcKeyReq one op)) r = cc
    plain (Client (TcRollbackReq one)) r = cc
    plain _ r = refl

pub sent_append : (start : Start) (test : Place → Body → Bool) (h : ℕ) (xs ys log : List HostStep)
    → sent_since start test h (xs ++ ys) log ≡ sent_since start test h xs (ys ++ log) + sent_since start test h ys log
sent_append start test h [] ys log = omega arith
sent_append start test h (e ∷ xs) ys log =
    omega (
      arith,
      sent_append start test h xs ys log,
      ap (λ l. sends_of test (step_after start h l e).effects.sends)
          (append_assoc xs ys log),
    )

module _ (answered : EachIsAnswered) (start : Start) (was now : ℕ → List HostStep) (name : ℕ) (t : OpenTransaction)
    (tx : TxId) (served : IsServedBetween start was now (Commit name))
    (named : named_in (opened_after start was) name ≡ Some t) (ready : t.doing ≡ Ready) (own : t.tx ≡ Some tx) where
  f : IsFirst start was now (Commit name)
  f = request_first start was now (Commit name) served

  abbrev cut : IsCut was now
  cut = cut_at_first was now f.later f.first f.is served.cut

  asked : IsAsked tx name (api_seen (step_after start 0 (was 0) f.first))
  asked = subst (IsAsked tx name) (sym (first_step start was now (Commit name) f))
      (commit_first (api_of (after start 0 (was 0))) name t tx named ready own (calm_at start was served.before))

  is_open : IsOpenAt tx (after start (home start tx) (was (home start tx)))
  is_open = by t.doing t.tx ready own (answered start was t served.before there)
    where
      n : IsNamed (opened_after start was) name t
      n = named_found (opened_after start was) name t named

      there : IsIn t (opened_after start was)
      there = subst (λ x. IsIn x (opened_after start was)) n.item
          (subst (IsIn n.focus.item) (sym n.focus.is) (in_middle n.focus.front n.focus.item n.focus.back))

      by : (doing : _) (o : Option TxId) → doing ≡ Ready → o ≡ Some tx → is_answered_by start was doing o
          → IsOpenAt tx (after start (home start tx) (was (home start tx)))
      by doing o is some all =
          subst (λ p. is_answered_by start was Ready p) some (subst (λ d. is_answered_by start was d o) is all)

  no_pushes : (h : ℕ) → sent_since start (is_push_to tx) h (cut h).newer (was h) ≡ 0
  no_pushes zero = omega (
    arith,
    sent_append start (is_push_to tx) 0 f.later (f.first ∷ []) (was 0),
    (calm_since tx start f.later (f.first ∷ was 0) f.plain asked.calm).1,
    asked.pushes,
  )
  no_pushes (suc h) = node_pushes start tx h (cut (suc h)).newer (was (suc h))

  none_pushed : (h : ℕ) → Each (λ (e : HostStep). is_push_to tx e.step.taken.to e.step.taken.body ≡ false) (cut h).newer
  none_pushed h =
      each_map (λ (e : HostStep). is_request e.step.taken.body ≡ false → is_push_to tx e.step.taken.to e.step.taken.body
      ≡ false) (λ (e : HostStep). is_push_to tx e.step.taken.to e.step.taken.body ≡ false) (cut h).newer
      (none_at (is_push_to tx) (request_pushes_none tx))
      (none_taken start was now served.before served.since cut (is_push_to tx) (λ i low. no_pushes i) h)

  -- nobody reports its abort, and so the shell's host isn't told of one
  no_backs : (h : ℕ) → h < first_hosts start → sent_since start (is_back tx) h (cut h).newer (was h) ≡ 0
  no_backs h low = (firm_since tx start h (cut h).newer (was h) (firm_at start tx was is_open h low) (none_pushed h)).1

  none_told : Each (λ (e : HostStep). is_request e.step.taken.body ≡ false → back_of tx e.step.taken.body ≡ false)
      (f.later ++ f.first ∷ [])
  none_told = none_taken start was now served.before served.since cut (is_back tx) no_backs 0

  still_committing : HasOne tx (Some name) Committing (opened_after start now) → ⊥
  still_committing has =
      subst (λ d. is_answered_by start now d has.item.tx → ⊥) (sym has.does) (λ none. by has.item.tx none)
      (answered start now has.item served.since has.inside)
    where
      by : (o : Option TxId) → is_answered_by start now Committing o → ⊥
      by (Some one) none = none
      by None none = none

  report : HasEnded tx (Some name) start f.later (f.first ∷ was 0) → IsToldCommitted start was now name tx
  report ended =
      let r = reported start was now served.since tx (Some name) f.later (f.first ∷ was 0) f.is
      (record { newer = f.first ∷ []; is = refl }) f.plain none_later ended in
      record { epoch = r.epoch; told = r.told; marked = r.marked }
    where
      none_later : Each (λ (e : HostStep). is_request e.step.taken.body ≡ false → back_of tx e.step.taken.body ≡ false)
          f.later
      none_later = each_before (λ (e : HostStep). is_request e.step.taken.body ≡ false → back_of tx e.step.taken.body ≡
          false) f.later (f.first ∷ []) none_told

  committed_told : IsToldCommitted start was now name tx
  committed_told = by (commit_goes tx (Some name) start f.later (f.first ∷ was 0) f.plain asked.has)
    where
      by : HasOne tx (Some name) Committing (opened_in (after start 0 (f.later ++ f.first ∷ was 0)))
          ⊎ HasEnded tx (Some name) start f.later (f.first ∷ was 0) → IsToldCommitted start was now name tx
      by (inl has) = absurd (still_committing (subst (λ log. HasOne tx (Some name) Committing
          (opened_in (after start 0 log))) (sym f.is) has))
      by (inr ended) = report ended

-- commits are committed, where each command is answered
pub commits_committed : EachIsAnswered → CommitsAreCommitted
commits_committed answered start was now name t tx served named ready own =
    committed_told answered start was now name t tx served named ready own
