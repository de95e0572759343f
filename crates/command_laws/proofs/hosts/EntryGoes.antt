-- What becomes of a transaction of the API that has begun: it does the same until its operation is answered, or its
-- end is reported.
use Rattle.std.proofs.Common.{◌≡◌, ◌⊎◌, ℕ, Bool, true, false, List, [], ◌∷◌, ◌++◌, refl, sym, ap, ◌∙◌, subst, inl, inr}
use Rattle.std.specs.Prelude.{Option, None, Some}
use Rattle.run_theory.proofs.Pasts.{each_before, each_in}
use Rattle.run_theory.specs.Lists.{Each, IsIn}
use Rattle.sig_core.specs.declared.mark.Mark.TheVariants.{Reported}
use Rattle.sig_core.specs.declared.member.TxId.{TxId}
use Rattle.sig_core.specs.declared.op.Answer.{Answer}
use Rattle.sig_core.specs.declared.outcome.Outcome.{Outcome}
use Rattle.sig_core.specs.declared.reply.ApiReply.TheVariants.{Answered, Ended}
use Rattle.sig_core.specs.declared.place.Place.{Place}
use Rattle.sig_core.specs.declared.signal.Body.{Body}
use Rattle.sig_core.specs.declared.signal.Body.TheVariants.{Client}
use Rattle.sig_core.specs.declared.signal.client.ClientSignal.TheVariants.{TcKeyConf}
use Rattle.sig_core.specs.declared.signal.Signal.{Signal}
use Rattle.sig_core.proofs.Keys.{same_tx-self}
use Rattle.sig_core.specs.Same.{same_tx}
use Rattle.sig_core.specs.Step.{Step}
use Rattle.api_block.specs.Api.{api_row}
use Rattle.api_block.specs.declared.opened.Doing.{Doing}
use Rattle.api_block.specs.declared.opened.Doing.TheVariants.{Operating, Committing}
use Rattle.api_block.specs.declared.opened.OpenTransaction.{OpenTransaction}
use Rattle.api_block.specs.Opened.{begins, behind, has_tx, is_beginning, same_name}
use Rattle.api_block.specs.State.{ApiState}
use Rattle.node_core.specs.Blocks.{api_of, has_api}
use Rattle.node_core.specs.declared.host.Host.{Host}
use Rattle.node_core.specs.Replies.{replies_of}
use Rattle.node_core.specs.Requests.{is_request}
use Rattle.node_core.specs.Row.{row}
use Rattle.world_core.proofs.HostNumbers.{api_runs}
use Rattle.world_core.specs.Machine.{after, step_after}
use Rattle.world_core.specs.Start.{Start}
use Rattle.world_core.specs.Steps.{HostStep}
use Rattle.host_laws.proofs.api.Begins.{in_middle}
use Rattle.host_laws.proofs.rows.Operations.{left_of}
use Rattle.host_laws.proofs.coordinator.Keys.{answer_of}
use Rattle.host_laws.specs.OpenedAfter.{opened_in}
use Rattle.command_laws.proofs.hosts.ApiChanges.{ApiChange, IsOneOf, answers, api_changes, commits, ends, outcome_in}
use Rattle.command_laws.proofs.hosts.ApiChanges.{refuses, rests, starts, waits}
use Rattle.command_laws.proofs.hosts.Entries.{HasOne, IsApart, here_or_apart, same_number}
use Rattle.host_laws.proofs.hosts.BlocksAlong.{replies_are}
use Rattle.command_laws.proofs.hosts.BlockSteps.{api_host, api_seen}

-- the step reports the end of the transaction of this name
pub record IsEnding (tx : TxId) (name : Option ℕ) (g : Host) (body : Body) (step : Step Host) : Type 0 where
  pub outcome : Outcome
  pub about : outcome_in body ≡ Some (tx, outcome)
  pub told : replies_of step.state ≡ replies_of g ++ Ended name outcome ∷ []
  pub marked : step.effects.marks ≡ Reported tx outcome ∷ []

-- the step answers an operation of a transaction of this name, or of one without a name
pub record IsAnswering (name : Option ℕ) (g : Host) (step : Step Host) : Type 0 where
  pub answer : Answer
  pub told : replies_of step.state ≡ replies_of g ++ Answered name answer ∷ []

-- one of these steps behind a log does so
pub record HasEnded (tx : TxId) (name : Option ℕ) (start : Start) (later log : List HostStep) : Type 0 where
  pub newer : List HostStep
  pub step : HostStep
  pub older : List HostStep
  pub is : later ≡ newer ++ step ∷ older
  pub ending : IsEnding tx name (after start 0 (older ++ log)) step.step.taken.body
      (step_after start 0 (older ++ log) step)

-- what fails at each of these steps that takes no request fails at one of them
pub fails_in : (later : List HostStep) (first : HostStep) (test : Place → Body → Bool) (step : HostStep)
    → IsIn step later
    → Each (λ (e : HostStep). is_request e.step.taken.body ≡ false) later
    → Each (λ (e : HostStep). is_request e.step.taken.body ≡ false → test e.step.taken.to e.step.taken.body ≡ false)
    (later ++ first ∷ [])
    → test step.step.taken.to step.step.taken.body ≡ false
fails_in later first test step inside plain none =
    each_in Fails step later (each_before Fails later (first ∷ []) none) inside
    (each_in (λ (e : HostStep). is_request e.step.taken.body ≡ false) step later plain inside)
  where
    Fails : HostStep → Type 0
    Fails e = is_request e.step.taken.body ≡ false → test e.step.taken.to e.step.taken.body ≡ false

-- and at the one in which it ended
pub fails_at_end : (tx : TxId) (name : Option ℕ) (start : Start) (later log : List HostStep) (first : HostStep)
    (test : Place → Body → Bool)
    (ended : HasEnded tx name start later log) → Each (λ (e : HostStep). is_request e.step.taken.body ≡ false) later
    → Each (λ (e : HostStep). is_request e.step.taken.body ≡ false → test e.step.taken.to e.step.taken.body ≡ false)
    (later ++ first ∷ [])
    → test ended.step.step.taken.to ended.step.step.taken.body ≡ false
fails_at_end tx name start later log first test ended plain none =
    fails_in later first test ended.step
    (subst (IsIn ended.step) (sym ended.is) (in_middle ended.newer ended.step ended.older)) plain none

pub record HasAnswered (name : Option ℕ) (start : Start) (later log : List HostStep) : Type 0 where
  pub newer : List HostStep
  pub step : HostStep
  pub older : List HostStep
  pub is : later ≡ newer ++ step ∷ older
  pub answering : IsAnswering name (after start 0 (older ++ log)) (step_after start 0 (older ++ log) step)

-- as the transaction's coordinator told
pub record HasReplied (tx : TxId) (name : Option ℕ) (start : Start) (later log : List HostStep) : Type 0 where
  pub answered : HasAnswered name start later log
  pub about : answer_of tx answered.step.step.taken.body ≡ true

-- the same of a step of the API
record Ends (tx : TxId) (name : Option ℕ) (s : ApiState) (body : Body) (step : Step ApiState) : Type 0 where
  outcome : Outcome
  about : outcome_in body ≡ Some (tx, outcome)
  told : step.state.replies ≡ s.replies ++ Ended name outcome ∷ []
  marked : step.effects.marks ≡ Reported tx outcome ∷ []

record Answers (name : Option ℕ) (s : ApiState) (step : Step ApiState) : Type 0 where
  answer : Answer
  told : step.state.replies ≡ s.replies ++ Answered name answer ∷ []

module _ (tx : TxId) (name : Option ℕ) (stay : Doing) (begun : is_beginning stay ≡ false) where
  -- the signal answers an operation of the transaction
  abbrev IsReply : Body → Type 0
  IsReply body = (stay ≡ Operating) × (answer_of tx body ≡ true)

  Goes : ApiState → Body → Step ApiState → Type 0
  Goes s body step = HasOne tx name stay step.state.opened ⊎ ((IsReply body × Answers name s step)
      ⊎ Ends tx name s body step)

  module _ (s : ApiState) (body : Body) (has : HasOne tx name stay s.opened) where
    as_before : (after : List OpenTransaction) → IsIn has.item after → HasOne tx name stay after
    as_before after inside = record {
      item = has.item;
      inside = inside;
      own = has.own;
      called = has.called;
      does = has.does;
    }

    not_beginning : (t : OpenTransaction) → is_beginning t.doing ≡ true → has.item ≡ t → ⊥
    not_beginning t begins same =
        let off : false ≡ true = sym begun ∙ sym (ap is_beginning has.does)
        ∙ (ap (λ (x : OpenTransaction). is_beginning x.doing) same ∙ begins) in cc

    -- the step is about the transaction, or about another one
    about_one : (step : Step ApiState) (at : IsOneOf s.opened) → (has.item ≡ at.t → Goes s body step)
        → (IsApart has.item at.front at.back → IsIn has.item step.state.opened) → Goes s body step
    unfolding Goes
    about_one step at here apart = by (here_or_apart has.item s.opened at has.inside)
      where
        by : (has.item ≡ at.t) ⊎ IsApart has.item at.front at.back
            → HasOne tx name stay step.state.opened ⊎ ((IsReply body × Answers name s step)
            ⊎ Ends tx name s body step)
        by (inl same) = here same
        by (inr others) = inl (as_before step.state.opened (apart others))

    answered_here : (step : Step ApiState) (t : OpenTransaction) (called : Option ℕ) (answer : Answer) (one : TxId)
        → body ≡ Client (TcKeyConf one answer) → has_tx one t ≡ true → t.doing ≡ Operating → t.name ≡ called
        → step.state.replies ≡ s.replies ++ Answered called answer ∷ [] → has.item ≡ t → Goes s body step
    unfolding Goes
    answered_here step t called answer one about passes does named replies same =
        let names : called ≡ name = sym named ∙ (ap (λ (x : OpenTransaction). x.name) (sym same) ∙ has.called) in
        let own : one ≡ tx = same_number tx one t (ap (λ (x : OpenTransaction). x.tx) (sym same) ∙ has.own) passes in
        inr (inl (
          (
            sym has.does ∙ ap (λ (x : OpenTransaction). x.doing) same ∙ does,
            ap (answer_of tx) about ∙ ap (λ v. same_tx v tx) own ∙ same_tx-self tx,
          ),
          record { answer = answer; told = replies ∙ ap (λ n. s.replies ++ Answered n answer ∷ []) names },
        ))

    change_goes : (step : Step ApiState) → ApiChange s body step → Goes s body step
    unfolding Goes
    change_goes step (rests is adds kind) =
        inl (as_before step.state.opened (subst (IsIn has.item) (sym is) has.inside))
    change_goes step (waits one ahead at about is replies sends) =
        about_one step at (λ same. inl (record {
          item = behind at.t (Some ahead);
          inside = subst (IsIn (behind at.t (Some ahead))) (sym is)
              (in_middle at.front (behind at.t (Some ahead)) at.back);
          own = ap (λ (x : OpenTransaction). x.tx) (sym same) ∙ has.own;
          called = ap (λ (x : OpenTransaction). x.name) (sym same) ∙ has.called;
          does = ap (λ (x : OpenTransaction). x.doing) (sym same) ∙ has.does;
        })) (λ others. subst (IsIn has.item) (sym is) (others.kept _))
    change_goes step (answers one answer called at about passes does named is replies sends) =
        about_one step at (answered_here step at.t (Some called) answer one about passes does named replies)
        (λ others. subst (IsIn has.item) (sym is) (others.kept _))
    change_goes step (commits one answer at about passes does named is replies sends) =
        about_one step at (answered_here step at.t None answer one about passes does named replies)
        (λ others. subst (IsIn has.item) (sym is) (others.kept _))
    change_goes step (ends one end at about passes is replies marks sends) =
        about_one step at ended (λ others. subst (IsIn has.item) (sym is) others.left)
      where
        ended : has.item ≡ at.t → HasOne tx name stay step.state.opened ⊎ ((IsReply body × Answers name s step)
            ⊎ Ends tx name s body step)
        ended same =
            let own : one ≡ tx = same_number tx one at.t (ap (λ (x : OpenTransaction). x.tx) (sym same)
            ∙ has.own) passes in
            inr (inr (record {
              outcome = end;
              about = about ∙ ap (λ t. Some (t, end)) own;
              told = replies ∙ ap (λ called. s.replies ++ Ended called end ∷ [])
                  (ap (λ (x : OpenTransaction). x.name) (sym same) ∙ has.called);
              marked = marks ∙ ap (λ t. Reported t end ∷ []) own;
            }))
    change_goes step (starts called one at u about passes is goes) =
        about_one step at
        (λ same. absurd
        (not_beginning at.t (left_of (is_beginning at.t.doing) (same_name at.t.name called)
        (left_of (begins called at.t) _ passes)) same))
        (λ others. subst (IsIn has.item) (sym is) (others.kept u))
    change_goes step (refuses called at about passes is replies sends) =
        about_one step at
        (λ same. absurd
        (not_beginning at.t (left_of (is_beginning at.t.doing) (same_name at.t.name called) passes) same))
        (λ others. subst (IsIn has.item) (sym is) others.left)

  host_goes : (g : Host) (x : Signal) → has_api g ≡ true → is_request x.body ≡ false → HasOne tx name stay (opened_in g)
      → HasOne tx name stay (opened_in (row g x).state) ⊎ ((IsReply x.body × IsAnswering name g (row g x))
      ⊎ IsEnding tx name g x.body (row g x))
  unfolding Goes
  host_goes g x has plain had =
      by (api_host (Goes (api_of g) x.body) g x has (λ at. change_goes (api_of g) x.body had (api_row (api_of g) x)
      (api_changes (api_of g) x.body plain)) (λ off. inl had))
    where
      by : HasOne tx name stay (opened_in (row g x).state)
          ⊎ ((IsReply x.body × Answers name (api_of g) (api_seen (row g x)))
          ⊎ Ends tx name (api_of g) x.body (api_seen (row g x)))
          → HasOne tx name stay (opened_in (row g x).state) ⊎ ((IsReply x.body × IsAnswering name g (row g x))
          ⊎ IsEnding tx name g x.body (row g x))
      by (inl goes) = inl goes
      by (inr (inl a)) = inr (inl (
        a.0,
        record {
          answer = a.1.answer;
          told = replies_are (row g x).state ∙ a.1.told
              ∙ ap (λ rs. rs ++ Answered name a.1.answer ∷ []) (sym (replies_are g));
        },
      ))
      by (inr (inr e)) = inr (inr (record {
        outcome = e.outcome;
        about = e.about;
        told = replies_are (row g x).state ∙ e.told ∙ ap (λ rs. rs ++ Ended name e.outcome ∷ []) (sym (replies_are g));
        marked = e.marked;
      }))

  -- along steps that aren't requests
  goes_since : (start : Start) (later log : List HostStep)
      → Each (λ (e : HostStep). is_request e.step.taken.body ≡ false) later
      → HasOne tx name stay (opened_in (after start 0 log))
      → HasOne tx name stay (opened_in (after start 0 (later ++ log)))
      ⊎ (((stay ≡ Operating) × HasReplied tx name start later log) ⊎ HasEnded tx name start later log)
  goes_since start [] log plain has = inl has
  goes_since start (e ∷ later) log plain has = by (goes_since start later log plain.1 has)
    where
      next : HasOne tx name stay (opened_in (after start 0 (e ∷ (later ++ log))))
          ⊎ ((IsReply e.step.taken.body
          × IsAnswering name (after start 0 (later ++ log)) (step_after start 0 (later ++ log) e))
          ⊎ IsEnding tx name (after start 0 (later ++ log)) e.step.taken.body (step_after start 0 (later ++ log) e))
          → HasOne tx name stay (opened_in (after start 0 (e ∷ (later ++ log))))
          ⊎ (((stay ≡ Operating) × HasReplied tx name start (e ∷ later) log) ⊎ HasEnded tx name start (e ∷ later) log)
      next (inl goes) = inl goes
      next (inr (inl a)) =
          inr (inl (
            a.0.0,
            record {
              answered = record { newer = []; step = e; older = later; is = refl; answering = a.1 };
              about = a.0.1;
            },
          ))
      next (inr (inr ending)) = inr (inr (record { newer = []; step = e; older = later; is = refl; ending = ending }))

      by : HasOne tx name stay (opened_in (after start 0 (later ++ log)))
          ⊎ (((stay ≡ Operating) × HasReplied tx name start later log) ⊎ HasEnded tx name start later log)
          → HasOne tx name stay (opened_in (after start 0 (e ∷ (later ++ log))))
          ⊎ (((stay ≡ Operating) × HasReplied tx name start (e ∷ later) log) ⊎ HasEnded tx name start (e ∷ later) log)
      by (inl goes) =
          next (host_goes (after start 0 (later ++ log)) e.step.taken (api_runs start (later ++ log)) plain.0 goes)
      by (inr (inl a)) =
          inr (inl (
            a.0,
            record {
              answered = record {
                newer = e ∷ a.1.answered.newer;
                step = a.1.answered.step;
                older = a.1.answered.older;
                is = ap (λ w. e ∷ w) a.1.answered.is;
                answering = a.1.answered.answering;
              };
              about = a.1.about;
            },
          ))
      by (inr (inr ended)) =
          inr (inr (record {
            newer = e ∷ ended.newer;
            step = ended.step;
            older = ended.older;
            is = ap (λ w. e ∷ w) ended.is;
            ending = ended.ending;
          }))

  -- one that has no operation unanswered does the same until its end is reported
  pub entry_goes : (stay ≡ Operating → ⊥) → (start : Start) (later log : List HostStep)
      → Each (λ (e : HostStep). is_request e.step.taken.body ≡ false) later
      → HasOne tx name stay (opened_in (after start 0 log))
      → HasOne tx name stay (opened_in (after start 0 (later ++ log))) ⊎ HasEnded tx name start later log
  entry_goes idle start later log plain has = by (goes_since start later log plain has)
    where
      by : HasOne tx name stay (opened_in (after start 0 (later ++ log)))
          ⊎ (((stay ≡ Operating) × HasReplied tx name start later log) ⊎ HasEnded tx name start later log)
          → HasOne tx name stay (opened_in (after start 0 (later ++ log))) ⊎ HasEnded tx name start later log
      by (inl goes) = inl goes
      by (inr (inl a)) = absurd (idle a.0)
      by (inr (inr ended)) = inr ended

-- so one whose commit was asked for
pub commit_goes : (tx : TxId) (name : Option ℕ) (start : Start) (later log : List HostStep)
    → Each (λ (e : HostStep). is_request e.step.taken.body ≡ false) later
    → HasOne tx name Committing (opened_in (after start 0 log))
    → HasOne tx name Committing (opened_in (after start 0 (later ++ log))) ⊎ HasEnded tx name start later log
commit_goes tx name start later log plain has = entry_goes tx name Committing refl (λ e. cc) start later log plain has

-- one whose operation was sent is operating until that is answered, or its end is reported
pub waiting_goes : (tx : TxId) (name : Option ℕ) (start : Start) (later log : List HostStep)
    → Each (λ (e : HostStep). is_request e.step.taken.body ≡ false) later
    → HasOne tx name Operating (opened_in (after start 0 log))
    → HasOne tx name Operating (opened_in (after start 0 (later ++ log)))
    ⊎ (HasReplied tx name start later log ⊎ HasEnded tx name start later log)
waiting_goes tx name start later log plain has = by (goes_since tx name Operating refl start later log plain has)
  where
    by : HasOne tx name Operating (opened_in (after start 0 (later ++ log)))
        ⊎ (((Operating ≡ Operating) × HasReplied tx name start later log) ⊎ HasEnded tx name start later log)
        → HasOne tx name Operating (opened_in (after start 0 (later ++ log)))
        ⊎ (HasReplied tx name start later log ⊎ HasEnded tx name start later log)
    by (inl goes) = inl goes
    by (inr (inl a)) = inr (inl a.1)
    by (inr (inr ended)) = inr (inr ended)

pub operate_goes : (tx : TxId) (name : Option ℕ) (start : Start) (later log : List HostStep)
    → Each (λ (e : HostStep). is_request e.step.taken.body ≡ false) later
    → HasOne tx name Operating (opened_in (after start 0 log))
    → HasOne tx name Operating (opened_in (after start 0 (later ++ log)))
    ⊎ (HasAnswered name start later log ⊎ HasEnded tx name start later log)
operate_goes tx name start later log plain has = by (waiting_goes tx name start later log plain has)
  where
    by : HasOne tx name Operating (opened_in (after start 0 (later ++ log)))
        ⊎ (HasReplied tx name start later log ⊎ HasEnded tx name start later log)
        → HasOne tx name Operating (opened_in (after start 0 (later ++ log)))
        ⊎ (HasAnswered name start later log ⊎ HasEnded tx name start later log)
    by (inl goes) = inl goes
    by (inr (inl a)) = inr (inl a.answered)
    by (inr (inr ended)) = inr (inr ended)
