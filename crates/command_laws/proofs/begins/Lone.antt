-- A transaction that was asked for with an operation is beginning until it has begun, and performs that, or is refused.
use Rattle.std.proofs.Common.{◌≡◌, ◌⊎◌, ◌≤◌, ℕ, zero, suc, Bool, true, false, List, [], ◌∷◌, ◌++◌, refl, sym, ap, ◌∙◌}
use Rattle.std.proofs.Common.{subst, inl, inr, arith}
use Rattle.std.specs.Prelude.{◌&&◌, Option, None, Some}
use Rattle.run_theory.specs.Lists.{Each, IsIn}
use Rattle.sig_core.proofs.Keys.{same_tx-self}
use Rattle.sig_core.specs.declared.member.Member.{Member}
use Rattle.sig_core.specs.declared.member.TxId.{TxId}
use Rattle.sig_core.specs.declared.op.Op.{Op}
use Rattle.sig_core.specs.declared.place.BlockId.{BlockId}
use Rattle.sig_core.specs.declared.place.BlockId.TheVariants as block
use Rattle.sig_core.specs.declared.place.Place.{Place}
use Rattle.sig_core.specs.declared.reply.ApiReply.TheVariants.{Refused}
use Rattle.sig_core.specs.declared.reply.Refusal.TheVariants.{TooManyOpen}
use Rattle.sig_core.specs.declared.request.ApiReq.TheVariants as request
use Rattle.sig_core.specs.declared.signal.Body.{Body}
use Rattle.sig_core.specs.declared.signal.Body.TheVariants.{Client}
use Rattle.sig_core.specs.declared.signal.client.ClientSignal.TheVariants.{TcBeginConf}
use Rattle.sig_core.specs.declared.signal.Signal.{Signal}
use Rattle.sig_core.specs.declared.view.View.{View}
use Rattle.sig_core.specs.Step.{Step, stay}
use Rattle.frag_map.specs.Layout.{first_view, members}
use Rattle.api_block.specs.Api.{api_row, api_table, request_row}
use Rattle.api_block.specs.declared.opened.Doing.{Doing}
use Rattle.api_block.specs.declared.opened.Doing.TheVariants.{Beginning, Operating}
use Rattle.api_block.specs.declared.opened.OpenTransaction.{OpenTransaction}
use Rattle.api_block.specs.Members.{least_node}
use Rattle.api_block.specs.Opened.{asked_for, begins, begins_at, begun_operating, behind, is_beginning, is_tx}
use Rattle.api_block.specs.Opened.{same_name}
use Rattle.api_block.specs.Operate.{begun_by, begun_row, lone_by, lone_row}
use Rattle.api_block.specs.State.{ApiState}
use Rattle.node_core.specs.Blocks.{api_of, has_api}
use Rattle.node_core.specs.declared.host.Host as host
use Rattle.node_core.specs.Replies.{replies_of}
use Rattle.node_core.specs.Requests.{is_request}
use Rattle.node_core.specs.Row.{row}
use Rattle.world_core.proofs.HostNumbers.{api_runs}
use Rattle.world_core.specs.Machine.{after}
use Rattle.world_core.specs.Start.{Start}
use Rattle.world_core.specs.Steps.{HostStep}
use Rattle.host_laws.proofs.api.Begins.{in_middle, same_name-is}
use Rattle.run_theory.proofs.Focus.{IsFocus}
use Rattle.api_block.proofs.WhereFound.{where_found}
use Rattle.host_laws.proofs.rows.Operations.{left_of, right_of}
use Rattle.run_theory.proofs.Tally.{only_one, tally_append, tally_between, tally_none}
use Rattle.host_laws.proofs.coordinator.Lives.{is_start, start_of}
use Rattle.host_laws.proofs.api.Wishes.{is_api, sends_of}
use Rattle.run_theory.specs.Counts.{one_if, tally}
use Rattle.host_laws.specs.OpenedAfter.{opened_in}
use Rattle.command_laws.proofs.hosts.ApiChanges.{ApiChange, IsOneOf, answers, api_changes, commits, ends, refuses}
use Rattle.command_laws.proofs.hosts.ApiChanges.{rests, starts, waits}
use Rattle.command_laws.proofs.operations.EarlySteps.{is_wish_to}
use Rattle.command_laws.proofs.hosts.Entries.{HasOne, IsApart, NoneBegins, here_or_apart}
use Rattle.host_laws.proofs.hosts.BlocksAlong.{replies_are}
use Rattle.command_laws.proofs.hosts.BlockSteps.{api_host, api_seen}

abbrev begins_any : OpenTransaction → Bool
begins_any t = is_beginning t.doing

-- one of these is beginning, with this operation and no name, and no other one is
pub record IsAlone (op : Op) (opened : List OpenTransaction) : Type 0 where
  pub item : OpenTransaction
  pub inside : IsIn item opened
  pub called : item.name ≡ None
  pub does : item.doing ≡ Beginning (Some op)
  pub unborn : item.tx ≡ None
  pub only : tally begins_any opened ≤ 1

record BeginsHere (body : Body) (opened : List OpenTransaction) : Type 0 where
  tx : TxId
  about : body ≡ Client (TcBeginConf None tx)
  has : HasOne tx None Operating opened

abbrev IsRefusedHere : ApiState → Step ApiState → Type 0
IsRefusedHere s step = step.state.replies ≡ s.replies ++ Refused None TooManyOpen ∷ []

module _ (op : Op) where
  AloneGoes : ApiState → Body → Step ApiState → Type 0
  AloneGoes s body step = IsAlone op step.state.opened ⊎ (BeginsHere body step.state.opened ⊎ IsRefusedHere s step)

  module _ (s : ApiState) (has : IsAlone op s.opened) where
    -- what is beginning is that one
    is_that : (t : OpenTransaction) → IsIn t s.opened → is_beginning t.doing ≡ true → t ≡ has.item
    is_that t inside begins_now =
        only_one begins_any s.opened t has.item has.only inside has.inside begins_now (ap is_beginning has.does)

    is_inside : (at : IsOneOf s.opened) → IsIn at.t s.opened
    is_inside at = subst (IsIn at.t) (sym at.is) (in_middle at.front at.t at.back)

    no_name : (t : OpenTransaction) (called : Option ℕ) → t ≡ has.item → same_name t.name called ≡ true → called ≡ None
    no_name t called same passes =
        sym (same_name-is t.name called passes) ∙ ap (λ (x : OpenTransaction). x.name) same ∙ has.called

    as_before : (after : List OpenTransaction) → IsIn has.item after → tally begins_any after ≤ 1 → IsAlone op after
    as_before after inside only = record {
      item = has.item;
      inside = inside;
      called = has.called;
      does = has.does;
      unborn = has.unborn;
      only = only;
    }

    -- no more are beginning where one becomes another
    fewer : (at : IsOneOf s.opened) (u : OpenTransaction) (after : List OpenTransaction)
        → after ≡ at.front ++ u ∷ at.back → one_if (is_beginning u.doing) ≤ one_if (is_beginning at.t.doing)
        → tally begins_any after ≤ 1
    fewer at u after is less = omega (
      arith,
      has.only,
      tally_between begins_any at.front at.t at.back s.opened at.is,
      tally_between begins_any at.front u at.back after is,
      less,
    )

    gone : (at : IsOneOf s.opened) (after : List OpenTransaction) → after ≡ at.front ++ at.back
        → tally begins_any after ≤ 1
    gone at after is = omega (
      arith,
      has.only,
      tally_between begins_any at.front at.t at.back s.opened at.is,
      ap
          (tally begins_any) is,
    )

    begins_there : (called : Option ℕ) (tx : TxId)
        → AloneGoes s (Client (TcBeginConf called tx)) (begun_row s called tx)
    unfolding begun_row AloneGoes
    begins_there called tx =
        where_found (begins_at called tx.tc) s.opened (stay s) (λ at t. begun_by s tx at t t.name t.doing)
        (AloneGoes s (Client (TcBeginConf called tx))) (λ none. inl has) present
      where
        present : (at : ℕ) (f : IsFocus (begins_at called tx.tc) s.opened at)
            → AloneGoes s (Client (TcBeginConf called tx)) (begun_by s tx at f.item f.item.name f.item.doing)
        present at f =
            subst (λ n. AloneGoes s (Client (TcBeginConf called tx)) (begun_by s tx at f.item n f.item.doing))
            (sym named)
            (subst (λ d. AloneGoes s (Client (TcBeginConf called tx)) (begun_by s tx at f.item None d)) (sym does)
            (inr (inl (record { tx = tx; about = ap (λ n. Client (TcBeginConf n tx)) is_none; has = operates }))))
          where
            begins_now : begins called f.item ≡ true
            begins_now = left_of (begins called f.item) _ f.passes

            same : f.item ≡ has.item
            same = is_that f.item (subst (IsIn f.item) (sym f.is) (in_middle f.front f.item f.back))
                (left_of (is_beginning f.item.doing) (same_name f.item.name called) begins_now)

            is_none : called ≡ None
            is_none = no_name f.item called same
                (right_of (is_beginning f.item.doing) (same_name f.item.name called) begins_now)

            named : f.item.name ≡ None
            named = ap (λ (x : OpenTransaction). x.name) same ∙ has.called

            does : f.item.doing ≡ Beginning (Some op)
            does = ap (λ (x : OpenTransaction). x.doing) same ∙ has.does

            operates : HasOne tx None Operating (begun_by s tx at f.item None (Beginning (Some op))).state.opened
            operates = record {
              item = begun_operating f.item tx;
              inside = subst (IsIn (begun_operating f.item tx)) (sym (f.set (begun_operating f.item tx)))
                  (in_middle f.front (begun_operating f.item tx) f.back);
              own = refl;
              called = named;
              does = refl;
            }

    not_busy : (t : OpenTransaction) (doing : Doing) → t.doing ≡ doing → is_beginning doing ≡ false → has.item ≡ t → ⊥
    not_busy t doing is off same =
        let both : false ≡ true = sym off ∙ ap is_beginning (sym is)
        ∙ ap (λ (x : OpenTransaction). is_beginning x.doing) (sym same) ∙ ap is_beginning has.does in cc

    -- the step is about the transaction, or about another one
    about_one : (body : Body) (at : IsOneOf s.opened) → (has.item ≡ at.t → AloneGoes s body (api_table s body))
        → (IsApart has.item at.front at.back → IsAlone op (api_table s body).state.opened)
        → AloneGoes s body (api_table s body)
    unfolding AloneGoes
    about_one body at here apart = by (here_or_apart has.item s.opened at has.inside)
      where
        by : (has.item ≡ at.t) ⊎ IsApart has.item at.front at.back
            → IsAlone op (api_table s body).state.opened
            ⊎ (BeginsHere body (api_table s body).state.opened ⊎ IsRefusedHere s (api_table s body))
        by (inl same) = here same
        by (inr others) = inl (apart others)

    change_goes : (body : Body) → ApiChange s body (api_table s body) → AloneGoes s body (api_table s body)
    unfolding AloneGoes
    change_goes body (rests is adds kind) =
        inl (as_before _ (subst (IsIn has.item) (sym is) has.inside)
        (omega (arith, has.only, ap (tally begins_any) is)))
    change_goes body (waits one ahead at about is replies sends) =
        about_one body at (λ same. inl (record {
          item = behind at.t (Some ahead);
          inside =
              subst (IsIn (behind at.t (Some ahead))) (sym is) (in_middle at.front (behind at.t (Some ahead)) at.back);
          called = ap (λ (x : OpenTransaction). x.name) (sym same) ∙ has.called;
          does = ap (λ (x : OpenTransaction). x.doing) (sym same) ∙ has.does;
          unborn = ap (λ (x : OpenTransaction). x.tx) (sym same) ∙ has.unborn;
          only = fewer at (behind at.t (Some ahead)) _ is (omega arith);
        }))
        (λ others. as_before _ (subst (IsIn has.item) (sym is) (others.kept _))
        (fewer at (behind at.t (Some ahead)) _ is (omega arith)))
    change_goes body (answers one answer called at about passes does named is replies sends) =
        about_one body at (λ same. absurd (not_busy at.t Operating does refl same))
        (λ others. as_before _ (subst (IsIn has.item) (sym is) (others.kept _)) (fewer at _ _ is (omega arith)))
    change_goes body (commits one answer at about passes does named is replies sends) =
        about_one body at (λ same. absurd (not_busy at.t Operating does refl same))
        (λ others. as_before _ (subst (IsIn has.item) (sym is) (others.kept _)) (fewer at _ _ is (omega arith)))
    change_goes body (ends one end at about passes is replies marks sends) =
        about_one body at
        (λ same. absurd (let both : false ≡ true = ap (is_tx one) (sym has.unborn) ∙ ap
        (λ (x : OpenTransaction). is_tx one x.tx) same ∙ passes in cc))
        (λ others. as_before _ (subst (IsIn has.item) (sym is) others.left) (gone at _ is))
    change_goes body (starts called one at u about passes is goes) =
        subst (λ b. AloneGoes s b (api_table s b)) (sym about) (begins_there called one)
    change_goes body (refuses called at about passes is replies sends) =
        let same =
        is_that at.t (is_inside at) (left_of (is_beginning at.t.doing) (same_name at.t.name called) passes) in
        inr (inr (replies ∙ ap (λ n. s.replies ++ Refused n TooManyOpen ∷ [])
        (no_name at.t called same (right_of (is_beginning at.t.doing) (same_name at.t.name called) passes))))

  -- the step begins the transaction, or refuses it
  record BeginsNow (to : Place) (body : Body) (opened : List OpenTransaction) : Type 0 where
    tx : TxId
    start : is_start tx to body ≡ true
    has : HasOne tx None Operating opened

  abbrev IsRefusedNow : host.Host → Step host.Host → Type 0
  IsRefusedNow g step = replies_of step.state ≡ replies_of g ++ Refused None TooManyOpen ∷ []

  begin_told : (tx : TxId) (at : BlockId) (body : Body) → at ≡ block.Api → body ≡ Client (TcBeginConf None tx)
      → (is_api at && start_of tx body) ≡ true
  begin_told tx at body api about = ap (λ b. is_api at && start_of tx b) about
      ∙ ap (λ a. is_api a && start_of tx (Client (TcBeginConf None tx))) api ∙ same_tx-self tx

  abbrev GoesHere : ApiState → Place → Body → Step ApiState → Type 0
  GoesHere s to body step = IsAlone op step.state.opened ⊎ (BeginsNow to body step.state.opened ⊎ IsRefusedHere s step)

  step_goes : (s : ApiState) (to : Place) (body : Body) → to.block ≡ block.Api → (step : Step ApiState)
      → AloneGoes s body step → GoesHere s to body step
  unfolding AloneGoes
  step_goes s to body at step (inl goes) = inl goes
  step_goes s to body at step (inr (inl b)) = inr (inl (record {
    tx = b.tx;
    start = begin_told b.tx to.block body at b.about;
    has = b.has;
  }))
  step_goes s to body at step (inr (inr refused_here)) = inr (inr refused_here)

  host_goes : (g : host.Host) (x : Signal) → has_api g ≡ true → is_request x.body ≡ false → IsAlone op (opened_in g)
      → IsAlone op (opened_in (row g x).state)
      ⊎ (BeginsNow x.to x.body (opened_in (row g x).state) ⊎ IsRefusedNow g (row g x))
  host_goes g x has plain had =
      by (api_host (GoesHere (api_of g) x.to x.body) g x has
      (λ at. step_goes (api_of g) x.to x.body at (api_row (api_of g) x)
      (change_goes (api_of g) had x.body (api_changes (api_of g) x.body plain))) (λ off. inl had))
    where
      by : GoesHere (api_of g) x.to x.body (api_seen (row g x)) → IsAlone op (opened_in (row g x).state)
          ⊎ (BeginsNow x.to x.body (opened_in (row g x).state) ⊎ IsRefusedNow g (row g x))
      by (inl goes) = inl goes
      by (inr (inl b)) = inr (inl b)
      by (inr (inr refused_here)) =
          inr (inr (replies_are (row g x).state ∙ refused_here
          ∙ ap (λ rs. rs ++ Refused None TooManyOpen ∷ []) (sym (replies_are g))))

  -- in one of these steps behind a log it began
  pub record HasBegun (start : Start) (later log : List HostStep) : Type 0 where
    pub newer : List HostStep
    pub step : HostStep
    pub older : List HostStep
    pub is : later ≡ newer ++ step ∷ older
    pub tx : TxId
    pub begun : is_start tx step.step.taken.to step.step.taken.body ≡ true
    pub has : HasOne tx None Operating (opened_in (after start 0 (step ∷ (older ++ log))))

  -- or it was refused
  pub record WasRefused (start : Start) (later log : List HostStep) : Type 0 where
    pub newer : List HostStep
    pub step : HostStep
    pub older : List HostStep
    pub is : later ≡ newer ++ step ∷ older
    pub told : replies_of (after start 0 (step ∷ (older ++ log)))
        ≡ replies_of (after start 0 (older ++ log)) ++ Refused None TooManyOpen ∷ []

  -- along steps that aren't requests
  pub begin_goes : (start : Start) (later log : List HostStep)
      → Each (λ (e : HostStep). is_request e.step.taken.body ≡ false) later → IsAlone op (opened_in (after start 0 log))
      → IsAlone op (opened_in (after start 0 (later ++ log))) ⊎ (HasBegun start later log ⊎ WasRefused start later log)
  begin_goes start [] log plain has = inl has
  begin_goes start (e ∷ later) log plain has = by (begin_goes start later log plain.1 has)
    where
      next : IsAlone op (opened_in (row (after start 0 (later ++ log)) e.step.taken).state)
          ⊎ (BeginsNow e.step.taken.to e.step.taken.body (opened_in
          (row (after start 0 (later ++ log)) e.step.taken).state)
          ⊎ IsRefusedNow (after start 0 (later ++ log)) (row (after start 0 (later ++ log)) e.step.taken))
          → IsAlone op (opened_in (after start 0 (e ∷ (later ++ log))))
          ⊎ (HasBegun start (e ∷ later) log ⊎ WasRefused start (e ∷ later) log)
      next (inl goes) = inl goes
      next (inr (inl b)) = inr (inl (record {
        newer = [];
        step = e;
        older = later;
        is = refl;
        tx = b.tx;
        begun = b.start;
        has = b.has;
      }))
      next (inr (inr told)) = inr (inr (record { newer = []; step = e; older = later; is = refl; told = told }))

      by : IsAlone op (opened_in (after start 0 (later ++ log)))
          ⊎ (HasBegun start later log ⊎ WasRefused start later log)
          → IsAlone op (opened_in (after start 0 (e ∷ (later ++ log))))
          ⊎ (HasBegun start (e ∷ later) log ⊎ WasRefused start (e ∷ later) log)
      by (inl goes) =
          next (host_goes (after start 0 (later ++ log)) e.step.taken (api_runs start (later ++ log)) plain.0 goes)
      by (inr (inl b)) = inr (inl (record {
        newer = e ∷ b.newer;
        step = b.step;
        older = b.older;
        is = ap (λ w. e ∷ w) b.is;
        tx = b.tx;
        begun = b.begun;
        has = b.has;
      }))
      by (inr (inr r)) = inr (inr (record {
        newer = e ∷ r.newer;
        step = r.step;
        older = r.older;
        is = ap (λ w. e ∷ w) r.is;
        told = r.told;
      }))

-- there is a least one of some members
least_there : (xs : List Member) (m : Member) → (node : ℕ) × (least_node (xs ++ m ∷ []) ≡ Some node)
unfolding least_node
least_there [] m = (_, refl)
least_there (x ∷ xs) m = (_, refl)

least_of : (nodes : ℕ) → 1 ≤ nodes → (node : ℕ) × (least_node (members nodes) ≡ Some node)
least_of zero some = absurd (omega (arith, some))
least_of (suc n) some = least_there (members n) _

-- the request of an operation alone asks for its transaction
pub record IsAskedAlone (op : Op) (step : Step ApiState) : Type 0 where
  pub alone : IsAlone op step.state.opened
  pub wishes : (tx : TxId) → sends_of (is_wish_to tx) step.effects.sends ≡ 0

pub alone_first : (start : Start) (s : ApiState) (op : Op) → s.view ≡ first_view start.shape.nodes
    → 1 ≤ start.shape.nodes → NoneBegins s.opened
    → IsAskedAlone op (request_row s (request.Operate None op))
unfolding request_row lone_row
alone_first start s op view some calm = subst (λ o. IsAskedAlone op (lone_by s op o)) (sym there) (record {
  alone = record {
    item = asked_for None least.0 (Some op);
    inside = in_middle s.opened (asked_for None least.0 (Some op)) [];
    called = refl;
    does = refl;
    unborn = refl;
    only = omega (
      arith,
      tally_append begins_any s.opened (asked_for None least.0 (Some op) ∷ []),
      tally_none begins_any
          s.opened calm,
    );
  };
  wishes = λ tx. refl;
})
  where
    least : (node : ℕ) × (least_node (members start.shape.nodes) ≡ Some node)
    least = least_of start.shape.nodes some

    there : least_node s.view.full ≡ Some least.0
    there = ap (λ (v : View). least_node v.full) view ∙ least.1
