-- The client's side is asked for a closing where nothing is under way: that leads to the moment at which the master is
-- asked for it.
use Rattle.std.proofs.Common.{◌≡◌, ◌≢◌, ◌⊎◌, ◌<◌, inl, inr, ℕ, List, [], ◌∷◌, ◌++◌, true, false}
use Rattle.std.proofs.Common.{refl, ap, sym, ◌∙◌, subst, append-nil, map, arith}
use Rattle.std.specs.Prelude.{None, Some, slice_get}
use Rattle.std.proofs.lemmas.Bool.{false≢true}
use Rattle.api_block.specs.State.{ApiState}
use Rattle.api_views.specs.declared.closings.Closing.{Closing}
use Rattle.api_views.specs.declared.closings.Closing.TheVariants as closing
use Rattle.api_views.specs.Client.{client_table}
use Rattle.api_views.specs.Closings.{ask_at, ask_of, asking}
use Rattle.api_views.specs.Members.{first_node}
use Rattle.api_views.specs.State.{ClientState}
use Rattle.frag_map.specs.Layout.{members}
use Rattle.frag_map.specs.Replicas.{first_start}
use Rattle.frag_map.specs.Shape.{IsShape}
use Rattle.node_core.specs.Blocks.{has_api}
use Rattle.node_core.specs.declared.host.Host as plain
use Rattle.node_core.specs.declared.host.Host.TheVariants as plain_host
use Rattle.node_views.specs.Blocks.{in_shell, parts_row}
use Rattle.node_views.specs.Parts.{in_client, shell_row}
use Rattle.node_views.specs.Row.{with_parts}
use Rattle.node_views.specs.WellFormed.{is_body_sound, is_well_formed}
use Rattle.node_views.specs.declared.host_body.HostBody as host
use Rattle.node_views.specs.declared.parts.Parts.{Parts}
use Rattle.node_views.specs.declared.parts.Parts.TheVariants.{Shell, Main, Tc, Ldm}
use Rattle.node_views.specs.declared.shell_part.ShellPart.{ShellPart}
use Rattle.node_views.specs.declared.standing.Standing.{Standing}
use Rattle.run_theory.proofs.Runs.{log_of-other, log_of-own, taken-asked}
use Rattle.run_theory.specs.Links.{taken}
use Rattle.run_theory.specs.Lists.{IsIn}
use Rattle.run_theory.specs.Runs.{IsWithin, Run, log_of}
use Rattle.run_theory.proofs.EventCases.{event_leaves}
use Rattle.sig_core.specs.declared.member.Member.{Member}
use Rattle.sig_core.specs.declared.outs.Outgoing.{Outgoing}
use Rattle.sig_core.specs.declared.place.BlockId.TheVariants as block
use Rattle.sig_core.specs.declared.place.Place.{Place}
use Rattle.sig_core.specs.declared.reply.ApiReply.{ApiReply}
use Rattle.sig_core.specs.declared.request.ApiReq.{ApiReq}
use Rattle.sig_core.specs.declared.signal.Body.TheVariants.{Host}
use Rattle.sig_core.specs.declared.signal.Signal.{Signal}
use Rattle.sig_core.specs.declared.signal.host.HostSignal.TheVariants.{Continue}
use Rattle.sig_core.specs.declared.signal.host.Work.TheVariants.{Request}
use Rattle.sig_core.specs.declared.view.View.{View}
use Rattle.sig_core.specs.Place.{checkpoints, client}
use Rattle.sig_core.specs.Step.{Step, to_place}
use Rattle.world_core.specs.Hosts.{host_for, first_hosts}
use Rattle.world_core.specs.Start.{NobodyStarts, Start}
use Rattle.world_core.specs.Steps.{HostStep}
use Rattle.world_views.specs.Machine.{IsOwn, after, has_stopped, machine, replies_at, step_after, step_by, stops_by}
use Rattle.world_views.specs.Machine.{told}
use Rattle.world_views.specs.Right.{replies_in}
use Rattle.world_views.specs.Sending.{is_asked, is_own_work}
use Rattle.calm_laws.specs.Alike.{IsAtEase, first}
use Rattle.calm_laws.proofs.lives.Events.{host_there, within_before}
use Rattle.calm_laws.proofs.lives.FirstMembers.{first_fine}
use Rattle.level_laws.specs.Laws.{HostsAreLevel}
use Rattle.peace_laws.specs.Alike.{ArePartsNear, RestsOfClosings}
use Rattle.peace_laws.specs.Closing.{AllRest, EpochsRest, HasRows, IsAskedFor, MainRests, ShellWaits, host_in, main}
use Rattle.peace_laws.specs.Moments.{Moment, behind, told_by}
use Rattle.peace_laws.specs.Parts.{plain_replies}
use Rattle.peace_laws.specs.Peace.{asks_by, asks_closing, is_closing_request}
use Rattle.peace_laws.specs.Rest.{AreAtRestIn}
use Rattle.peace_laws.specs.Steps.{RequestsNear}
use Rattle.peace_laws.proofs.closings.AskingSteps.{asks_for, closing_of, closings_are_asked_near, course_of, table_is}
use Rattle.peace_laws.proofs.near.CalmNear.{inner_api}
use Rattle.peace_laws.proofs.closings.Ease.{near_parts_by, near_row, requests_for_blocks}
use Rattle.peace_laws.proofs.closings.Moments.{Links, moment}
use Rattle.peace_laws.proofs.closings.Next.{request_goes_on, request_next}
use Rattle.peace_laws.proofs.closings.Steps.{seen}
use Rattle.peace_laws.proofs.near.Mirrored.{IsMirrored}
use Rattle.peace_laws.proofs.closings.OrderLists.{main_reached}
use Rattle.peace_laws.proofs.near.PartKinds.{epochs_rest, first_member, has_rows, main_rests}
use Rattle.peace_laws.proofs.near.Resting.{rests_stays, stays_closeless}
use Rattle.peace_laws.proofs.near.Runs.{IsKept}
use Rattle.peace_laws.proofs.lives.UnderWay.{OnLink, SentOn, said, sent_next}

-- the president of the first view is the first node
node_of : (those : List Member) → slice_get those 0 ≡ Some (first_start 1) → first_node those ≡ Some 1
node_of [] none = absurd (cc (none))
node_of (one ∷ more) is =
    let there : Some one ≡ Some (first_start 1) = is in
    let same : one ≡ first_start 1 = cc (there) in
    ap (λ (m : Member). Some m.node) same

-- what the parts of the shell's host do
record AsksMaster (start : Start) (kind : Closing) (t : Step Parts) : Type 0 where
  sends : t.effects.sends ≡ to_place (checkpoints 1) (ask_of kind) ∷ []
  client : ShellWaits start (Some kind) (behind 0 t.state)
  told : told_by 0 t.state ≡ []

module _ (start : Start) (shape : IsShape start.shape) (request : ApiReq) (asks : is_closing_request request ≡ true)
    (x : Signal) (body_is : x.body ≡ Host (Continue (Request request) 0)) (to_is : x.to ≡ client)
    (view_is : x.view ≡ first start) where
  abbrev kind : Closing
  kind = closing_of request

  row_asks : (given : List ApiReply) (standing : Standing) → IsAtEase start standing → (p : ShellPart) (a : ApiState)
      → ArePartsNear start given (Shell p) (plain_host.Shell a) → p.client.closing ≡ None
      → shell_row p x.to.block x ≡ in_client p (asks_for p.client kind)
  unfolding shell_row
  row_asks given standing ease p a near none =
      ap (λ (to : Place). shell_row p to.block x) to_is
      ∙ ap (in_client p)
      (ap (λ (c : ClientState). client_table c x x.body) (seen p.client x.view (near.1.0 ∙ sym view_is))
      ∙ ap (client_table p.client x) body_is
      ∙ table_is start given shape standing ease p a near none x request 0 asks)

  asks_at : (view : View) → view ≡ first start → asking kind view ≡ to_place (checkpoints 1) (ask_of kind) ∷ []
  asks_at view is =
      ap (asking kind) is ∙ ap (ask_at kind)
      (node_of (members start.shape.nodes) (first_member start.shape.nodes shape.nodes_some))

  parts_ask : (given : List ApiReply) (standing : Standing) → IsAtEase start standing → (parts : Parts)
      (other : plain.Host) → ArePartsNear start given parts other → has_api other ≡ true → RestsOfClosings parts
      → AsksMaster start kind (parts_row parts x)
  parts_ask given standing ease (Shell p) (plain_host.Shell a) near api rests =
      subst (λ (t : Step ShellPart). AsksMaster start kind (in_shell t))
      (sym (row_asks given standing ease p a near rests.0))
      (record {
        sends = asks_at p.client.api.view near.1.0;
        client = record { view = near.1.0; replies = refl; closing_is = refl };
        told = near.1.1.0;
      })
  parts_ask given standing ease (Main p) (plain_host.Shell a) near api rests = absurd near
  parts_ask given standing ease (Tc p) (plain_host.Shell a) near api rests = absurd near
  parts_ask given standing ease (Ldm p) (plain_host.Shell a) near api rests = absurd near
  parts_ask given standing ease parts (plain_host.Main m) near api rests = absurd (false≢true api)
  parts_ask given standing ease parts (plain_host.Tc q) near api rests = absurd (false≢true api)
  parts_ask given standing ease parts (plain_host.Ldm s) near api rests = absurd (false≢true api)

given_kind : (kind : Closing) → is_own_work (ask_of kind) ≡ false
given_kind closing.Gcp = refl
given_kind closing.Micro = refl
given_kind closing.Lcp = refl

-- The step.
module _ (hosts_level : HostsAreLevel) (start : Start) (shape : IsShape start.shape) (request : ApiReq)
    (asks : is_closing_request request ≡ true) (epoch : ℕ) (es : List HostStep) (e : HostStep)
    (run : Run (machine start) (e ∷ es)) (within_now : IsWithin (first_hosts start) (log_of (machine start) (e ∷ es)))
    (kept : IsKept start es) (rests : AreAtRestIn start epoch (log_of (machine start) es))
    (running : (h : ℕ) → has_stopped (log_of (machine start) es h) ≡ false)
    (shell : e.host ≡ 0) (asked : is_asked e.host e.step.taken ≡ true)
    (own : IsOwn start e.host (log_of (machine start) es e.host) e.step.taken)
    (body_is : e.step.taken.body ≡ Host (Continue (Request request) 0)) where
  abbrev x : Signal
  x = e.step.taken

  abbrev pub log : ℕ → List HostStep
  log k = log_of (machine start) es k

  abbrev pub now : ℕ → List HostStep
  now k = log_of (machine start) (e ∷ es) k

  abbrev pub kind_of : Closing
  kind_of = closing_of request

  within : IsWithin (first_hosts start) log
  within = within_before start (first_hosts start) e es within_now

  low : e.host < first_hosts start
  low = host_there start (first_hosts start) e es within_now

  abbrev s : host.HostBody
  s = after start 0 (log 0)

  abbrev before : IsMirrored start 0 (log 0)
  before = kept.mirrored 0

  abbrev replied : List ApiReply
  replied = plain_replies (replies_in start 0 (log 0))

  own_shell : IsOwn start 0 (log 0) x
  own_shell = subst (λ k. IsOwn start k (log k) x) shell own

  to_is : x.to ≡ client
  to_is = ap (λ (y : Signal). y.to) own_shell.is

  view_is : x.view ≡ first start
  view_is = ap (λ (y : Signal). y.view) own_shell.is ∙ before.near.standing.view

  sound : is_well_formed start.shape x ≡ true
  sound =
      first_fine start 0 x (omega arith) view_is (ap (λ (y : Signal). y.member) own_shell.is)
      (ap (is_body_sound start.shape) body_is)

  pub asks_shell : asks_closing 0 x ≡ true
  asks_shell =
      ap (λ (to : Place). asks_by to.block x.body) to_is ∙ ap (asks_by block.Api) body_is ∙ asks

  pub asks_host : asks_closing e.host x ≡ true
  asks_host = ap (λ k. asks_closing k x) shell ∙ asks_shell

  none_under_way : RestsOfClosings s.parts
  none_under_way =
      stays_closeless start 0 epoch s.parts (rests_stays start 0 epoch s.parts (rests 0 (omega arith)))

  rests_host : RestsOfClosings (after start e.host (log e.host)).parts
  rests_host = subst (λ k. RestsOfClosings (after start k (log k)).parts) (sym shell) none_under_way

  pub kept_now : NobodyStarts start → IsKept start (e ∷ es)
  kept_now nobody =
      request_next hosts_level start nobody shape es e run.1 within low kept closings_are_asked_near asks_host
      rests_host

  pub goes_now : NobodyStarts start → stops_by e.step.marks ≡ false
  goes_now nobody =
      request_goes_on hosts_level start nobody shape es e run.1 within low kept closings_are_asked_near asks_host
      rests_host

  near_step : RequestsNear start replied s before.inner x
  near_step =
      closings_are_asked_near start replied s before.inner x shape before.near none_under_way asks_shell sound view_is

  pub no_marks : e.step.marks ≡ []
  no_marks =
      run.1.step.fits.marks
      ∙ subst (λ k. (step_by k (after start k (log k)) x).effects.marks ≡ []) (sym shell) near_step.marks

  abbrev row : Step Parts
  row = parts_row s.parts x

  blocks : step_by 0 s x ≡ with_parts s row
  blocks =
      near_parts_by start 0 replied s before.inner x before.near sound view_is (requests_for_blocks x asks_shell)
      (ap stops_by
      (sym (ap (λ (t : Step host.HostBody). t.effects.marks)
      (near_row start 0 replied s before.inner x before.near sound view_is (requests_for_blocks x asks_shell)))
      ∙ near_step.marks))

  does : AsksMaster start kind_of row
  does =
      parts_ask start shape request asks x body_is to_is view_is replied s.standing before.near.standing s.parts
      before.inner before.near.parts (inner_api start (log 0) before) none_under_way

  abbrev one : Outgoing
  one = to_place (checkpoints 1) (ask_of kind_of)

  sends_are : (step_after start e.host (log e.host) e).effects.sends ≡ one ∷ []
  sends_are =
      subst (λ k. (step_after start k (log k) e).effects.sends ≡ one ∷ []) (sym shell)
      (ap (λ (t : Step host.HostBody). t.effects.sends) blocks ∙ does.sends)

  ease : NobodyStarts start → IsAtEase start (after start e.host (e ∷ log e.host)).standing
  ease nobody =
      subst (λ (those : List HostStep). IsAtEase start (after start e.host those).standing)
      (log_of-own (machine start) e es e.host refl) ((kept_now nobody).mirrored e.host).near.standing

  -- nothing was taken
  same_taken : (a b : ℕ) → taken (machine start) a (now b) ≡ taken (machine start) a (log b)
  same_taken a =
      event_leaves (machine start) e es (λ b. taken (machine start) a)
      (taken-asked (machine start) a e (log e.host) asked)

  mids : (a b : ℕ) → OnLink start log a b (log a) (now b)
  mids a b = record { under = []; gone = []; sent_is = refl; taken_is = same_taken a b }

  nexts : NobodyStarts start → (a b : ℕ)
      → SentOn start log e.host (one ∷ []) a b (map said (mids a b).under) (now a) (now b)
  nexts nobody = sent_next start log es e nobody mids (goes_now nobody) (ease nobody) (one ∷ []) sends_are
      (given_kind kind_of, tt)

  pub links_now : NobodyStarts start → Links start log (e ∷ es)
  links_now nobody a b = (nexts nobody a b).link

  abbrev pub asked_moment : NobodyStarts start → Moment
  asked_moment nobody = moment start log (e ∷ es) (links_now nobody)

  -- the hosts but the shell's stay
  pub stay : (k : ℕ) → k ≢ 0 → (after start k (now k)).parts ≡ (after start k (log k)).parts
  stay k apart =
      ap (λ (those : List HostStep). (after start k those).parts)
      (log_of-other (machine start) e es k (λ same. apart (sym same ∙ shell)))

  own_log : now 0 ≡ e ∷ log 0
  own_log = log_of-own (machine start) e es 0 shell

  replies_are : replies_in start 0 (now 0) ≡ replies_in start 0 (log 0)
  replies_are =
      ap (replies_in start 0) own_log
      ∙ ap (λ (more : List ApiReply). replies_in start 0 (log 0) ++ more)
      (ap (replies_at 0) blocks ∙ does.told)
      ∙ append-nil (replies_in start 0 (log 0))

  shell_asks : ShellWaits start (Some kind_of) (after start 0 (now 0)).parts
  shell_asks =
      subst (ShellWaits start (Some kind_of))
      (sym (ap (λ (those : List HostStep). (after start 0 those).parts) own_log
      ∙ ap (λ (t : Step host.HostBody). (told 0 t).parts) blocks))
      does.client

  all_rest : (nobody : NobodyStarts start) → AllRest start epoch (asked_moment nobody)
  all_rest nobody =
      record {
        master =
            subst (MainRests start epoch) (sym (stay main (λ is. absurd (cc (is)))))
            (main_rests start shape epoch (log main) (kept.mirrored main)
            (rests main (omega (arith, shape.nodes_some))));
        epochs = λ place low.
            subst (EpochsRest epoch) (sym (stay (host_in place false) (λ is. absurd (cc (is)))))
            (epochs_rest start shape epoch place low (log (host_in place false)) (kept.mirrored (host_in place false))
            (rests (host_in place false) (omega (arith, low))));
        rows = λ place low.
            subst HasRows (sym (stay (host_in place true) (λ is. absurd (cc (is)))))
            (has_rows start shape epoch place low (log (host_in place true)) (kept.mirrored (host_in place true)));
      }

  pub asked_for : (nobody : NobodyStarts start) (next : ℕ)
      → IsAskedFor start
      (course_of request epoch next (replies_in start 0 (log 0)))
      (asked_moment nobody)
  unfolding links_now mids
  asked_for nobody next =
      record {
        rest = all_rest nobody;
        client = shell_asks;
        replies = replies_are;
        request = (nexts nobody 0 main).lone one refl refl (sym shell) (sym (main_reached start shape));
        alone = λ a b other is. alone a b other ((nexts nobody a b).only other is);
      }
    where
      alone : (a b : ℕ) (other : Outgoing)
          → IsIn other []
          ⊎ ((a ≡ e.host) × ((b ≡ host_for start other.to) × IsIn other (one ∷ [])))
          → (a ≡ 0) × (b ≡ main)
      alone a b other (inl none) = absurd none
      alone a b other (inr (from, (to, inl same))) =
          (from ∙ shell, to ∙ ap (λ (o : Outgoing). host_for start o.to) same ∙ main_reached start shape)
      alone a b other (inr (from, (to, inr none))) = absurd none
