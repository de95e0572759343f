-- In calm the client's side does at a signal what the API does. A round of time goes to the membership besides, and the
-- view is told.
use Rattle.std.proofs.Common.{◌≡◌, ◌≤◌, ℕ, zero, suc, true, false, List, [], ◌∷◌, ◌++◌, refl, sym, ap}
use Rattle.std.proofs.Common.{◌∙◌, subst, subst₂, append-nil, arith}
use Rattle.std.specs.Prelude.{◌+◌, None}
use Rattle.std.specs.List.{list_any}
use Rattle.std.proofs.lemmas.Bool.{or_right}
use Rattle.std.proofs.lemmas.List.Folds.{list_any-append}
use Rattle.run_theory.specs.Lists.{Each}
use Rattle.frag_map.specs.Layout.{members}
use Rattle.frag_map.specs.Shape.{IsShape}
use Rattle.sig_core.specs.declared.outs.Outgoing.{Outgoing}
use Rattle.sig_core.specs.declared.reply.ApiReply.{ApiReply}
use Rattle.sig_core.specs.declared.reply.ApiReply.TheVariants as reply
use Rattle.sig_core.specs.declared.request.ApiReq.{ApiReq}
use Rattle.sig_core.specs.declared.request.ApiReq.TheVariants as request
use Rattle.sig_core.specs.declared.signal.Body.{Body}
use Rattle.sig_core.specs.declared.signal.Body.TheVariants.{Host, Client}
use Rattle.sig_core.specs.declared.signal.Signal.{Signal}
use Rattle.sig_core.specs.declared.signal.client.ClientSignal.TheVariants.{TcBeginConf, TcBeginRef, TcKeyConf}
use Rattle.sig_core.specs.declared.signal.client.ClientSignal.TheVariants.{TcCommitConf, TcRollbackRep, TcWaitConf}
use Rattle.sig_core.specs.declared.signal.client.ClientSignal.TheVariants.{DumpConf}
use Rattle.sig_core.specs.declared.signal.host.HostSignal.TheVariants.{Continue}
use Rattle.sig_core.specs.declared.signal.host.Work.TheVariants.{Request}
use Rattle.sig_core.specs.declared.place.BlockId.TheVariants.{Lqh, Qmgr}
use Rattle.sig_core.specs.declared.view.View.{View}
use Rattle.sig_core.specs.Step.{Effects, Step, stay}
use Rattle.api_block.specs.declared.members.News.TheVariants as news
use Rattle.api_block.specs.Api.{api_row, request_row}
use Rattle.api_block.specs.Commands.{tick_row}
use Rattle.api_block.specs.Given.{in_given}
use Rattle.api_block.specs.Members.{everyone, telling_all}
use Rattle.api_block.specs.State.{ApiState, about, replied, with_replies}
use Rattle.api_views.specs.Client.{client_row}
use Rattle.api_views.specs.Laws.{IsCalmSignal, calm_state, is_calm_body}
use Rattle.api_views.specs.Rounds.{all_rounds, round_effects}
use Rattle.api_views.specs.State.{ClientState, telling}
use Rattle.api_views.specs.Stops.{has_stopped, is_down, still_runs}
use Rattle.api_views.proofs.CalmLemmas.{calm, calm_shows, calm_tick}
use Rattle.world_core.specs.Start.{Start}
use Rattle.world_views.specs.Machine.{stops_by}
use Rattle.calm_laws.specs.Alike.{first}
use Rattle.calm_laws.specs.Calm.{is_calm_request, is_for_client}
use Rattle.calm_laws.specs.Steps.{ComesCalmly, IsPlainSend, besides, plain_replies}
use Rattle.calm_laws.proofs.places.PlainReplies.{AllPlain, KeepsPlain, keeps_plain, replies_plain}
use Rattle.calm_laws.proofs.places.ShellSends.{marks_plain, sends_plain}
use Rattle.calm_laws.proofs.plain_steps.Rounds.{memberships_told, none_besides, rows_told}

-- a cluster of some nodes of which none has stopped isn't down
pub some_runs : (nodes : ℕ) → 1 ≤ nodes → list_any (still_runs []) (members nodes) ≡ true
unfolding has_stopped
some_runs zero some = absurd (omega (arith, some))
some_runs (suc n) some =
    list_any-append (still_runs []) (members n) (record { node = n + 1; start = 0 } ∷ [])
    ∙ or_right (list_any (still_runs []) (members n)) _ refl

-- the step of the client's side at such a body, and that of the API where these replies were given before
pub record ClientAlike (start : Start) (given : List ApiReply) (body : Body) (t : Step ClientState) (q : Step ApiState)
    : Type 0
  where
    pub api : ApiState
    pub state : t.state ≡ calm_state api start.shape.nodes None
    pub view : api.view ≡ first start
    pub told : in_given given q.state ≡ in_given (given ++ plain_replies api.replies) (with_replies api [])
    pub marks : t.effects.marks ≡ q.effects.marks
    pub sends : t.effects.sends ≡ q.effects.sends ++ besides start 0 body
    pub plain : Each (IsPlainSend 0) q.effects.sends
    pub goes_on : stops_by q.effects.marks ≡ false

module _ (start : Start) (given : List ApiReply) (a : ApiState) (x : Signal) (shape : IsShape start.shape)
    (view : a.view ≡ first start) (none : a.replies ≡ []) (comes : ComesCalmly start 0 x) where
  abbrev s : ClientState
  s = calm_state a start.shape.nodes None

  abbrev IsAlike : Step ClientState → Type 0
  IsAlike t = ClientAlike start given x.body t (api_row a x)

  -- the signal is a calm one
  up : is_down s ≡ false
  unfolding is_down
  up = rw (view, some_runs start.shape.nodes shape.nodes_some) refl

  signal : IsCalmSignal s x
  signal = record {
    view = rw (view, comes.view) refl;
    known = λ vouched. rw (view) (comes.vouched vouched);
    up = up;
  }

  -- what the API does besides: its view stays, and its replies are a plain machine's
  none_plain : AllPlain a.replies
  none_plain = rw (none) tt

  keeps : KeepsPlain a (api_row a x)
  keeps = keeps_plain a none_plain x.body

  replied_plain : in_given given (api_row a x).state
      ≡ in_given (given ++ plain_replies (api_row a x).state.replies) (with_replies (api_row a x).state [])
  replied_plain =
      let all : plain_replies (api_row a x).state.replies ≡ (api_row a x).state.replies =
      replies_plain (api_row a x).state.replies keeps.replies in
      ap (λ (replies : List ApiReply). with_replies (api_row a x).state replies)
      (ap (λ (more : List ApiReply). given ++ more) (sym all)
      ∙ sym (append-nil (given ++ plain_replies (api_row a x).state.replies)))

  -- what is served as the API does it
  served : is_calm_body x.body ≡ true → IsAlike (client_row s x)
  served body = subst IsAlike (sym (calm a start.shape.nodes None x signal body)) (record {
    api = (api_row a x).state;
    state = refl;
    view = keeps.view ∙ view;
    told = replied_plain;
    marks = refl;
    sends =
        sym (append-nil (api_row a x).effects.sends)
        ∙ ap (λ (back : List Outgoing). (api_row a x).effects.sends ++ back) (sym (none_besides start x.body body));
    plain = sends_plain a x.body;
    goes_on = marks_plain a x.body;
  })

  -- a round of time
  rounds_are : (round of at : ℕ) → x.body ≡ Host (Continue (Request (request.Tick round of)) at)
      → (api_row a x).effects ≡ record { sends = telling_all news.Round (everyone a.view); marks = [] }
  unfolding request_row tick_row
  rounds_are round of at is = rw (is) refl

  round_is : (now : ClientState) → (round_effects now).sends ≡ all_rounds now Lqh ++ all_rounds now Qmgr
  unfolding round_effects
  round_is now = refl

  round_marks : (now : ClientState) → (round_effects now).marks ≡ []
  unfolding round_effects
  round_marks now = refl

  ticks : (round of at : ℕ) → x.body ≡ Host (Continue (Request (request.Tick round of)) at) → IsAlike (client_row s x)
  ticks round of at is =
      let now : ClientState = calm_state (api_row a x).state start.shape.nodes None in
      let told : telling_all news.Round (everyone a.view) ≡ all_rounds now Lqh =
      ap (λ (v : View). telling_all news.Round (everyone v)) view
      ∙ sym (rows_told (api_row a x).state start.shape.nodes shape.nodes_some shape.nodes_few) in
      let sends : (api_row a x).effects.sends ≡ all_rounds now Lqh =
      ap (λ (e : Effects). e.sends) (rounds_are round of at is) ∙ told in
      subst IsAlike (sym (calm_tick a start.shape.nodes None x at round of signal is)) (record {
        api = (api_row a x).state;
        state = refl;
        view = keeps.view ∙ view;
        told = replied_plain;
        marks = round_marks now ∙ sym (ap (λ (e : Effects). e.marks) (rounds_are round of at is));
        sends =
            round_is now
            ∙ ap (λ (front : List Outgoing). front ++ all_rounds now Qmgr) (sym sends)
            ∙ ap (λ (back : List Outgoing). (api_row a x).effects.sends ++ back)
            (memberships_told (api_row a x).state start.shape.nodes shape.nodes_some shape.nodes_few
            ∙ sym (ap (besides start 0) is));
        plain = sends_plain a x.body;
        goes_on = marks_plain a x.body;
      })

  -- the view is told, which the API doesn't
  shown_is : (at : ℕ) → x.body ≡ Host (Continue (Request request.View) at) → api_row a x ≡ stay (about a None)
  unfolding request_row
  shown_is at is = rw (is) refl

  shown_replies : (replies : List ApiReply) → replies ≡ []
      → given ++ replies ≡ (given ++ plain_replies (replies ++ reply.View a.view ∷ [])) ++ []
  shown_replies [] is = sym (append-nil (given ++ []))
  shown_replies (one ∷ more) is = absurd cc

  shows_view : (at : ℕ) → x.body ≡ Host (Continue (Request request.View) at) → IsAlike (client_row s x)
  shows_view at is =
      subst₂ (ClientAlike start given x.body)
      (sym (calm_shows a start.shape.nodes None x at signal is
      ∙ ap (λ (q : Step ApiState). stay (telling (calm_state q.state start.shape.nodes None) (reply.View a.view)))
      (shown_is at is)))
      (sym (shown_is at is))
      (record {
        api = replied (about a None) (reply.View a.view ∷ []);
        state = refl;
        view = view;
        told = ap (λ (replies : List ApiReply). with_replies (about a None) replies) (shown_replies a.replies none);
        marks = refl;
        sends = sym (ap (besides start 0) is);
        plain = tt;
        goes_on = refl;
      })

  -- whatever comes in calm
  asked : (r : ApiReq) (at : ℕ) → x.body ≡ Host (Continue (Request r) at) → is_calm_request r ≡ true
      → IsAlike (client_row s x)
  asked (request.Begin name _) at is fits = served (rw (is) refl)
  asked (request.Operate name op) at is fits = served (rw (is) refl)
  asked (request.Commit name) at is fits = served (rw (is) refl)
  asked (request.Abort name) at is fits = served (rw (is) refl)
  asked (request.Tick round of) at is fits = ticks round of at is
  asked (request.Rows node) at is fits = served (rw (is) refl)
  asked (request.Digest node) at is fits = served (rw (is) refl)
  asked request.View at is fits = shows_view at is
  asked request.Waits at is fits = served (rw (is) refl)
  asked request.Pending at is fits = served (rw (is) refl)
  asked _ at is fits = absurd cc

  takes : (body : Body) → x.body ≡ body → is_for_client body ≡ true → IsAlike (client_row s x)
  takes (Host (Continue (Request r) at)) is fits = asked r at is fits
  takes (Client (TcBeginConf name tx)) is fits = served (rw (is) refl)
  takes (Client (TcBeginRef name)) is fits = served (rw (is) refl)
  takes (Client (TcKeyConf tx answer)) is fits = served (rw (is) refl)
  takes (Client (TcCommitConf tx epoch)) is fits = served (rw (is) refl)
  takes (Client (TcRollbackRep tx cause)) is fits = served (rw (is) refl)
  takes (Client (TcWaitConf tx ahead)) is fits = served (rw (is) refl)
  takes (Client (DumpConf rows next)) is fits = served (rw (is) refl)
  takes _ is fits = absurd cc

  pub client_alike : is_for_client x.body ≡ true → IsAlike (client_row s x)
  client_alike fits = takes x.body refl fits
