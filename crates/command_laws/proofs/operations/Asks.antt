-- The step that asks for an operation, and that no commit or abort of its transaction is wished for then.
use Rattle.std.proofs.Common.{◌≡◌, ◌<◌, ◌+◌, ℕ, Bool, true, false, List, [], ◌∷◌, ◌++◌, refl, sym, ap, ◌∙◌, subst}
use Rattle.std.proofs.Common.{arith}
use Rattle.std.proofs.lemmas.Bool.Decides.{nat_tests}
use Rattle.std.specs.Prelude.{Some, is_some, nat_lt}
use Rattle.run_theory.specs.Lists.{Each, IsIn}
use Rattle.sig_core.specs.declared.member.TxId.{TxId}
use Rattle.sig_core.specs.declared.op.Op.{Op}
use Rattle.sig_core.specs.declared.outs.Outgoing.{Outgoing}
use Rattle.sig_core.specs.declared.place.Place.{Place}
use Rattle.sig_core.specs.declared.reply.Refusal.TheVariants.{NotOpen}
use Rattle.sig_core.specs.declared.request.ApiReq.TheVariants as request
use Rattle.sig_core.specs.declared.signal.Body.{Body}
use Rattle.sig_core.specs.declared.signal.Body.TheVariants.{Client}
use Rattle.sig_core.specs.declared.signal.client.ClientSignal.TheVariants.{TcCommitReq, TcRollbackReq}
use Rattle.sig_core.specs.declared.signal.Signal.{Signal}
use Rattle.sig_core.specs.Same.{same_tx}
use Rattle.sig_core.specs.Step.{Step}
use Rattle.api_block.specs.declared.operate.TheConstants.{OPERATIONS}
use Rattle.api_block.specs.Api.{api_row, request_row}
use Rattle.api_block.specs.declared.opened.Doing.{Doing}
use Rattle.api_block.specs.declared.opened.Doing.TheVariants.{Operating, Ready}
use Rattle.api_block.specs.declared.opened.OpenTransaction.{OpenTransaction}
use Rattle.api_block.specs.Opened.{begins, has_tx, if_there, is_beginning, operating, same_name, where_at}
use Rattle.api_block.specs.Operate.{key_request, operate_by, operate_if, operate_row}
use Rattle.api_block.specs.State.{ApiState, about, changing, refused}
use Rattle.node_core.specs.Blocks.{api_of, has_api}
use Rattle.node_core.specs.declared.host.Host as host
use Rattle.node_core.specs.Requests.{is_request}
use Rattle.node_core.specs.Row.{row}
use Rattle.world_core.proofs.HostNumbers.{api_runs}
use Rattle.world_core.specs.Machine.{after}
use Rattle.world_core.specs.Start.{Start}
use Rattle.world_core.specs.Steps.{HostStep}
use Rattle.host_laws.proofs.api.Begins.{each_at, each_changed, each_less, in_middle}
use Rattle.host_laws.proofs.rows.Operations.{left_of}
use Rattle.host_laws.proofs.hosts.SendKinds.{none_of}
use Rattle.host_laws.proofs.coordinator.Moves.{same_tx-is}
use Rattle.host_laws.proofs.api.Wishes.{is_tc, second_fails, sends_of}
use Rattle.run_theory.specs.Counts.{one_if}
use Rattle.host_laws.specs.OpenedAfter.{opened_in}
use Rattle.command_laws.proofs.hosts.ApiChanges.{ApiChange, IsOneOf, answers, api_changes, commits, ends, is_news_kind}
use Rattle.command_laws.proofs.hosts.ApiChanges.{refuses, rests, starts, waits}
use Rattle.command_laws.proofs.operations.EarlySteps.{is_wish_to, wish_of}
use Rattle.command_laws.proofs.hosts.Entries.{HasOne, IsNamed, NoneBegins, named_found}
use Rattle.command_laws.proofs.hosts.BlockSteps.{api_host}
use Rattle.command_laws.proofs.hosts.Pushes.{change_calm, is_node_kind}
use Rattle.command_laws.proofs.quiet.Since.{sent_since}
use Rattle.command_laws.specs.Served.{named_in}

module _ (tx : TxId) where
  -- what has its number has a name
  abbrev pub HasName : OpenTransaction → Type 0
  HasName t = has_tx tx t ≡ true → is_some t.name ≡ true

  -- the transaction has a name, and none is beginning
  pub record AreNamed (opened : List OpenTransaction) : Type 0 where
    pub calm : NoneBegins opened
    pub named : Each HasName opened

  pub no_wish_news : (to : Place) (body : Body) → is_news_kind body ≡ true → is_wish_to tx to body ≡ false
  no_wish_news to body e = second_fails (is_tc to.block) (plain body e)
    where
      plain : (b : Body) → is_news_kind b ≡ true → wish_of tx b ≡ false
      plain (Client (TcCommitReq one)) k = cc
      plain (Client (TcRollbackReq one)) k = cc
      plain _ k = refl

  pub no_wish_node : (to : Place) (body : Body) → is_node_kind body ≡ true → is_wish_to tx to body ≡ false
  no_wish_node to body e = second_fails (is_tc to.block) (plain body e)
    where
      plain : (b : Body) → is_node_kind b ≡ true → wish_of tx b ≡ false
      plain (Client (TcCommitReq one)) k = cc
      plain (Client (TcRollbackReq one)) k = cc
      plain _ k = refl

  -- a step keeps that, and wishes for no commit or abort of it
  pub record KeepsNamed (opened : List OpenTransaction) (sends : List Outgoing) : Type 0 where
    pub named : AreNamed opened
    pub wishes : sends_of (is_wish_to tx) sends ≡ 0

  module _ (s : ApiState) (body : Body) (were : AreNamed s.opened) where
    other_wish : (one : TxId) (b : Bool) → same_tx one tx ≡ b → (b ≡ true → ⊥) → one_if (same_tx one tx) + 0 ≡ 0
    other_wish one true is none = absurd (none refl)
    other_wish one false is none = ap (λ c. one_if c + 0) is

    change_named : (step : Step ApiState) → ApiChange s body step → KeepsNamed step.state.opened step.effects.sends
    change_named step change = record {
      named = record {
        calm = (change_calm tx s body were.calm step change).calm;
        named = names change;
      };
      wishes = wishes change;
    }
      where
        changed : (at : IsOneOf s.opened) (u : OpenTransaction) → (HasName at.t → HasName u)
            → step.state.opened ≡ at.front ++ u ∷ at.back → Each HasName step.state.opened
        changed at u kept is =
            subst (Each HasName) (sym is) (each_changed HasName at.front at.t u at.back s.opened at.is were.named kept)

        beginning : {A : Type 0} (at : IsOneOf s.opened) → is_beginning at.t.doing ≡ true → A
        beginning at begins_now =
            absurd (let off : false ≡ true =
            sym (each_at (λ (t : OpenTransaction). is_beginning t.doing ≡ false) at.front at.t at.back s.opened at.is
            were.calm) ∙ begins_now in cc)

        names : ApiChange s body step → Each HasName step.state.opened
        names (rests is adds kind) = subst (Each HasName) (sym is) were.named
        names (waits one ahead at about is replies sends) = changed at _ (λ before. before) is
        names (answers one answer called at about passes does named is replies sends) =
            changed at _ (λ before. before) is
        names (commits one answer at about passes does named is replies sends) = changed at _ (λ before. before) is
        names (ends one end at about passes is replies marks sends) =
            subst (Each HasName) (sym is) (each_less HasName at.front at.t at.back s.opened at.is were.named)
        names (starts called one at u about passes is goes) =
            beginning at (left_of (is_beginning at.t.doing) (same_name at.t.name called)
            (left_of (begins called at.t) _ passes))
        names (refuses called at about passes is replies sends) =
            beginning at (left_of (is_beginning at.t.doing) (same_name at.t.name called) passes)

        wishes : ApiChange s body step → sends_of (is_wish_to tx) step.effects.sends ≡ 0
        wishes (rests is adds kind) = none_of is_news_kind (is_wish_to tx) no_wish_news step.effects.sends kind
        wishes (waits one ahead at about is replies sends) = ap (sends_of (is_wish_to tx)) sends
        wishes (answers one answer called at about passes does named is replies sends) =
            ap (sends_of (is_wish_to tx)) sends
        wishes (commits one answer at about passes does named is replies sends) = ap (sends_of (is_wish_to tx)) sends
            ∙ other_wish one (same_tx one tx) refl not_this
          where
            not_this : same_tx one tx ≡ true → ⊥
            not_this same =
                let has = each_at HasName at.front at.t at.back s.opened at.is were.named
                (subst (λ v. has_tx v at.t ≡ true) (same_tx-is one tx same) passes) in
                let off : false ≡ true = sym (ap is_some named) ∙ has in cc
        wishes (ends one end at about passes is replies marks sends) =
            none_of is_news_kind (is_wish_to tx) no_wish_news step.effects.sends sends
        wishes (starts called one at u about passes is goes) =
            beginning at (left_of (is_beginning at.t.doing) (same_name at.t.name called)
            (left_of (begins called at.t) _ passes))
        wishes (refuses called at about passes is replies sends) =
            beginning at (left_of (is_beginning at.t.doing) (same_name at.t.name called) passes)

  host_named : (g : host.Host) (x : Signal) → has_api g ≡ true → is_request x.body ≡ false → AreNamed (opened_in g)
      → KeepsNamed (opened_in (row g x).state) (row g x).effects.sends
  host_named g x has plain were =
      api_host (λ (step : Step ApiState). KeepsNamed step.state.opened step.effects.sends) g x has
      (λ at. change_named (api_of g) x.body were (api_row (api_of g) x) (api_changes (api_of g) x.body plain))
      (λ off. record { named = were; wishes = refl })

  -- along steps of the shell's host that aren't requests
  pub named_since : (start : Start) (later log : List HostStep)
      → Each (λ (e : HostStep). is_request e.step.taken.body ≡ false) later → AreNamed (opened_in (after start 0 log))
      → AreNamed (opened_in (after start 0 (later ++ log))) × (sent_since start (is_wish_to tx) 0 later log ≡ 0)
  named_since start [] log plain were = (were, refl)
  named_since start (e ∷ later) log plain were = next (named_since start later log plain.1 were)
    where
      next : AreNamed (opened_in (after start 0 (later ++ log))) × (sent_since start (is_wish_to tx) 0 later log ≡ 0)
          → AreNamed (opened_in (after start 0 (e ∷ (later ++ log))))
          × (sent_since start (is_wish_to tx) 0 (e ∷ later) log ≡ 0)
      next before =
          let kept =
          host_named (after start 0 (later ++ log)) e.step.taken (api_runs start (later ++ log)) plain.0 before.0 in
          (kept.named, omega (arith, kept.wishes, before.1))

-- the row where the name is found
operate_found : (s : ApiState) (name : ℕ) (op : Op) (t : OpenTransaction) (tx : TxId) → t.doing ≡ Ready → t.tx ≡ Some tx
    → t.operations < OPERATIONS → (f : IsNamed s.opened name t)
    → operate_row s name op ≡ key_request (about (changing s f.at (operating t)) (Some f.at)) tx op
unfolding operate_row
operate_found s name op t tx ready own few f =
    ap (where_at s.opened (refused s (Some name) NotOpen)
    (λ at (u : OpenTransaction). operate_by s name op at u u.doing u.tx)) f.place
    ∙ ap (if_there (refused s (Some name) NotOpen) (λ (u : OpenTransaction). operate_by s name op f.at u u.doing u.tx))
    f.get
    ∙ ap (λ (d : Doing). operate_by s name op f.at t d t.tx) ready ∙ ap (operate_by s name op f.at t Ready) own
    ∙ (let low : nat_lt t.operations OPERATIONS ≡ true = grind (arith, nat_tests, few) in
    ap (operate_if s name op f.at t tx) low)

-- after it the transaction is operating, and its commit or abort isn't wished for
pub record IsAskedFor (tx : TxId) (name : ℕ) (step : Step ApiState) : Type 0 where
  pub has : HasOne tx (Some name) Operating step.state.opened
  pub named : AreNamed tx step.state.opened
  pub wishes : sends_of (is_wish_to tx) step.effects.sends ≡ 0

pub operate_first : (s : ApiState) (name : ℕ) (op : Op) (t : OpenTransaction) (tx : TxId)
    → named_in s.opened name ≡ Some t → t.doing ≡ Ready → t.tx ≡ Some tx → t.operations < OPERATIONS
    → AreNamed tx s.opened
    → IsAskedFor tx name (request_row s (request.Operate (Some name) op))
unfolding request_row
operate_first s name op t tx is ready own few were = record {
  has = record {
    item = operating t;
    inside = subst (IsIn (operating t)) (sym opened) (in_middle f.focus.front (operating t) f.focus.back);
    own = own;
    called = f.called;
    does = refl;
  };
  named = record {
    calm = subst NoneBegins (sym opened)
        (each_changed (λ (u : OpenTransaction). is_beginning u.doing ≡ false) f.focus.front f.focus.item
        (operating t) f.focus.back s.opened f.focus.is were.calm (λ before. refl));
    named = subst (Each (λ (u : OpenTransaction). has_tx tx u ≡ true → is_some u.name ≡ true)) (sym opened)
        (each_changed (λ (u : OpenTransaction). has_tx tx u ≡ true → is_some u.name ≡ true) f.focus.front f.focus.item
        (operating t) f.focus.back s.opened f.focus.is were.named (λ before on. ap is_some f.called));
  };
  wishes = ap (λ (step : Step ApiState). sends_of (is_wish_to tx) step.effects.sends) now;
}
  where
    f : IsNamed s.opened name t
    f = named_found s.opened name t is

    now : operate_row s name op ≡ key_request (about (changing s f.at (operating t)) (Some f.at)) tx op
    now = operate_found s name op t tx ready own few f

    opened : (operate_row s name op).state.opened ≡ f.focus.front ++ operating t ∷ f.focus.back
    opened = ap (λ (step : Step ApiState). step.state.opened) now ∙ f.focus.set (operating t)
