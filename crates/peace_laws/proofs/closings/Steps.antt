-- What hosts do at something of a closing: the plain ones stay as they are, but for the epoch that they give.
use Rattle.std.proofs.Common.{◌≡◌, ◌≤◌, ◌∙◌, ◌%◌, ◌&&◌, ◌++◌, ℕ, zero, suc, Bool, true, false, nat_le, nat_lt, List, []}
use Rattle.std.proofs.Common.{◌∷◌, refl, sym, ap, subst, append-nil, if◌then◌else◌}
use Rattle.std.proofs.lemmas.Bool.{and_right, false≢true, true≢false}
use Rattle.std.specs.Prelude.{None, Some, length}
use Rattle.api_block.specs.Given.{in_given}
use Rattle.api_block.specs.State.{ApiState, in_view, with_replies}
use Rattle.api_views.specs.declared.closings.Closing.{Closing}
use Rattle.api_views.specs.declared.closings.Closing.TheVariants.{Gcp, Micro, Lcp}
use Rattle.api_views.specs.Client.{client_row, client_table}
use Rattle.api_views.specs.Closings.{closed_if, closed_reply, closed_row, is_asked}
use Rattle.api_views.specs.Members.{noted}
use Rattle.api_views.specs.State.{ClientState, with_api}
use Rattle.dih_node.specs.Dih as dih
use Rattle.dih_node.specs.Dih.{dih_row, dih_table}
use Rattle.dih_node.specs.Orders.{close_row, commit_if, commit_row, committed, copy_row, done_row, noting, prepare_row}
use Rattle.dih_node.specs.Orders.{prepared_if, serving}
use Rattle.dih_node.specs.State as views
use Rattle.dih_node.specs.State.{can_serve, gives, go_on_if, is_unfinished}
use Rattle.dih_node.specs.Verify.{report_if, reported}
use Rattle.gcp_master.specs.Master.{master_row}
use Rattle.lqh_block.specs.State.{LqhState}
use Rattle.lqh_saver.specs.Saver.{idling, in_rows, saver_by}
use Rattle.lqh_saver.specs.State.{SaverState, idle, saving, told_durable}
use Rattle.lqh_views.specs.Replica.{replica_by}
use Rattle.node_core.specs.declared.host.Host as plain
use Rattle.node_core.specs.declared.host.Host.TheVariants as plain_host
use Rattle.node_core.specs.declared.main_part.MainPart as plain_main
use Rattle.node_core.specs.declared.tc_part.TcPart as plain_tc
use Rattle.node_core.specs.Dih as plain_dih
use Rattle.node_views.specs.Blocks.{in_ldm, in_main, in_shell, in_tc, parts_row}
use Rattle.node_views.specs.Parts.{in_client, in_dih, in_master, in_saving, ldm_row, main_row, shell_row, tc_row}
use Rattle.node_views.specs.Row.{with_parts}
use Rattle.node_views.specs.declared.host_body.HostBody as host
use Rattle.node_views.specs.declared.ldm_part.LdmPart.{LdmPart}
use Rattle.node_views.specs.declared.main_part.MainPart.{MainPart}
use Rattle.node_views.specs.declared.parts.Parts.{Parts}
use Rattle.node_views.specs.declared.parts.Parts.TheVariants.{Shell, Main, Tc, Ldm}
use Rattle.node_views.specs.declared.shell_part.ShellPart.{ShellPart}
use Rattle.node_views.specs.declared.standing.Standing.{Standing}
use Rattle.node_views.specs.declared.tc_part.TcPart.{TcPart}
use Rattle.run_theory.specs.Lists.{Each}
use Rattle.run_theory.proofs.Pasts.{each_append, each_map}
use Rattle.sig_core.specs.declared.mark.Mark.{Mark}
use Rattle.sig_core.specs.declared.member.TxId.{TxId}
use Rattle.sig_core.specs.declared.outs.Outgoing.{Outgoing}
use Rattle.sig_core.specs.declared.place.BlockId.{BlockId}
use Rattle.sig_core.specs.declared.place.BlockId.TheVariants as block
use Rattle.sig_core.specs.declared.place.Part.{Part}
use Rattle.sig_core.specs.declared.place.Part.TheVariants as part
use Rattle.sig_core.specs.declared.reply.ApiReply.{ApiReply}
use Rattle.sig_core.specs.declared.signal.Body.{Body}
use Rattle.sig_core.specs.declared.signal.Body.TheVariants.{Epoch}
use Rattle.sig_core.specs.declared.signal.Signal.{Signal}
use Rattle.sig_core.specs.declared.signal.epoch.EpochSignal.{EpochSignal}
use Rattle.sig_core.specs.declared.signal.epoch.EpochSignal.TheVariants as epoch
use Rattle.sig_core.specs.declared.view.View.{View}
use Rattle.sig_core.specs.declared.place.Place.{Place}
use Rattle.sig_core.specs.Place.{checkpoints}
use Rattle.sig_core.specs.Step.{Step, sending, stay}
use Rattle.world_core.specs.Hosts.{part_by}
use Rattle.world_core.specs.Start.{Start}
use Rattle.world_views.specs.Machine.{replies_at, step_by, told}
use Rattle.calm_laws.specs.Alike.{IsAtEase, first}
use Rattle.calm_laws.specs.Plain.{is_beating, is_main}
use Rattle.level_laws.specs.Levels.{host_at}
use Rattle.peace_laws.specs.Alike.{AreEpochsNear, AreNear, ArePartsNear}
use Rattle.peace_laws.specs.Closing.{closes_epoch}
use Rattle.peace_laws.specs.Parts.{plain_replies}
use Rattle.peace_laws.specs.Peace.{has_closer, is_closer, is_for_closing, is_order}
use Rattle.peace_laws.specs.Steps.{ClosingsStepNear, ComesForClosing, IsForMaster, IsOfClosing, asks_master}
use Rattle.peace_laws.proofs.closings.Ease.{closings_for_blocks, has_its_block, near_parts, takes_it}
use Rattle.peace_laws.proofs.closings.MasterNear.{IsClosingMark, master_steps}

-- a step of a host that is near its plain one behind it, at a signal from a member of this node
pub record HostNear (start : Start) (h : ℕ) (given : List ApiReply) (from : ℕ) (t : Step host.HostBody)
    (other : plain.Host)
    : Type 0
  where
    inner : plain.Host
    near : AreNear start (given ++ plain_replies (replies_at h t)) (told h t) inner
    same : host_at start.epoch inner ≡ host_at start.epoch other
    marks : is_beating h ≡ false → t.effects.marks ≡ []
    pub only : Each IsClosingMark t.effects.marks
    sends : Each (IsOfClosing h) t.effects.sends
    masters : is_beating h ≡ false → 1 ≤ from → Each IsForMaster t.effects.sends

-- a part of a node that stays
stays : (start : Start) (h : ℕ) (given : List ApiReply) (from : ℕ) (s : host.HostBody) (other : plain.Host)
    → AreNear start given s other → HostNear start (suc h) given from (stay s) other
stays start h given from s other near = record {
  inner = other;
  near = subst (λ (more : List ApiReply). AreNear start more s other) (sym (append-nil given)) near;
  same = refl;
  marks = λ beats. refl;
  only = tt;
  sends = tt;
  masters = λ beats some. tt;
}

-- a view that was seen
pub seen : (s : ClientState) (view : View) → s.api.view ≡ view → noted s view ≡ s
unfolding noted
seen s view same =
    ap (λ (v : View). with_api s (in_view s.api v)) (greatest (nat_lt s.api.view.number view.number))
  where
    greatest : (b : Bool) → (if b then view else s.api.view) ≡ s.api.view
    greatest true = sym same
    greatest false = refl

-- The client's side is told of the end of a closing.
module _ (start : Start) (given : List ApiReply) (standing : Standing) (ease : IsAtEase start standing) (p : ShellPart)
    (a : ApiState) (near : ArePartsNear start given (Shell p) (plain_host.Shell a)) (from : ℕ) where
  abbrev shell_with : ClientState → host.HostBody
  shell_with c = record { standing = standing; parts = Shell (record { client = c; arbiter = p.arbiter }) }

  -- the plain one isn't
  untold : (closing : Closing) → closes_epoch closing ≡ true → (epoch : ℕ) (replies : List ApiReply) → replies ≡ []
      → (given ++ plain_replies (replies ++ closed_reply closing epoch ∷ [])) ++ [] ≡ given ++ replies
  untold Gcp closes epoch [] is = append-nil (given ++ [])
  untold Micro closes epoch [] is = append-nil (given ++ [])
  untold Lcp closes epoch [] is = absurd (false≢true closes)
  untold closing closes epoch (one ∷ more) is = absurd cc

  none_told : (replies : List ApiReply) → replies ≡ [] → (given ++ plain_replies replies) ++ [] ≡ given ++ replies
  none_told [] is = append-nil (given ++ [])
  none_told (one ∷ more) is = absurd cc

  closed : (closing : Closing) → closes_epoch closing ≡ true → (epoch : ℕ) (asked : Bool)
      → HostNear start 0 given from (stay (shell_with (closed_if p.client closing epoch asked))) (plain_host.Shell a)
  closed closing closes epoch true = record {
    inner =
        plain_host.Shell
        (in_given (given ++ plain_replies (p.client.api.replies ++ closed_reply closing epoch ∷ []))
        (with_replies p.client.api []));
    near = record {
      standing = ease;
      parts = (
        ap (λ (c : ClientState). record c { api = with_replies p.client.api []; closing = None; own = false }) near.0,
        (near.1.0, (refl, refl)),
      );
    };
    same =
        ap (λ (b : ApiState). host_at start.epoch (plain_host.Shell b))
        (ap (with_replies p.client.api) (untold closing closes epoch p.client.api.replies near.1.1.0) ∙ sym near.1.1.1);
    marks = λ beats. refl;
    only = tt;
    sends = tt;
    masters = λ beats some. tt;
  }
  closed closing closes epoch false = record {
    inner =
        plain_host.Shell
        (in_given (given ++ plain_replies p.client.api.replies) (with_replies p.client.api []));
    near = record {
      standing = ease;
      parts =
          (ap (λ (c : ClientState). record c { api = with_replies p.client.api [] }) near.0, (near.1.0, (refl, refl)));
    };
    same =
        ap (λ (b : ApiState). host_at start.epoch (plain_host.Shell b))
        (ap (with_replies p.client.api) (none_told p.client.api.replies near.1.1.0) ∙ sym near.1.1.1);
    marks = λ beats. refl;
    only = tt;
    sends = tt;
    masters = λ beats some. tt;
  }

  abbrev of_client : Step ClientState → Step host.HostBody
  of_client t = with_parts (shell_with p.client) (in_shell (in_client p t))

  client_by : (x : Signal) (body : Body) → is_for_closing block.Api body ≡ true
      → HostNear start 0 given from (of_client (client_table p.client x body)) (plain_host.Shell a)
  unfolding closed_row
  client_by x (Epoch (epoch.GcpRep closed_epoch)) is = closed Gcp refl closed_epoch (is_asked Gcp p.client.closing)
  client_by x (Epoch (epoch.MicroRep closed_epoch)) is =
      closed Micro refl closed_epoch (is_asked Micro p.client.closing)
  client_by x body is = absurd (false≢true is)

  client_near : (x : Signal) → x.view ≡ first start → is_for_closing block.Api x.body ≡ true
      → HostNear start 0 given from (of_client (client_row p.client x)) (plain_host.Shell a)
  client_near x view is =
      subst (λ (c : ClientState). HostNear start 0 given from (of_client (client_table c x x.body))
      (plain_host.Shell a))
      (sym (seen p.client x.view (near.1.0 ∙ sym view))) (client_by x x.body is)

-- What a member tells: its master's node alone.
abbrev IsConfirmed : ℕ → Outgoing → Type 0
IsConfirmed from sent =
    (sent.to ≡ checkpoints from)
    × ((is_for_closing sent.to.block sent.body ≡ true) × (asks_master sent.body ≡ false))

confirmed_of : (h from : ℕ) (sends : List Outgoing) → Each (IsConfirmed from) sends
    → Each (IsOfClosing (suc h)) sends
confirmed_of h from sends is = each_map (IsConfirmed from) (IsOfClosing (suc h)) sends (λ sent one. one.1) is

confirmed_for : (from : ℕ) → 1 ≤ from → (sends : List Outgoing) → Each (IsConfirmed from) sends
    → Each IsForMaster sends
confirmed_for from some sends is =
    each_map (IsConfirmed from) IsForMaster sends
    (λ sent one.
    subst (λ (to : Place). (to.block ≡ block.GcpMaster) × (1 ≤ to.node)) (sym one.0) (refl, some)) is

-- The epochs of a node.
abbrev at_epoch : plain_dih.DihState → ℕ → plain_dih.DihState
at_epoch q epoch = record { node = q.node; epoch = epoch; counted = q.counted }

record DihSteps (from : ℕ) (t : Step views.DihState) (q : plain_dih.DihState) : Type 0 where
  epoch : ℕ
  near : AreEpochsNear t.state (at_epoch q epoch)
  marks : t.effects.marks ≡ []
  sends : Each (IsConfirmed from) t.effects.sends

none_held : (s : views.DihState) → s.held ≡ [] → can_serve s ≡ false
none_held s is = ap (λ (held : List TxId). gives s && nat_lt 0 (length held)) is ∙ and_right (gives s) false refl

module _ (q : plain_dih.DihState) where
  notes : (s : views.DihState) (from closed now : ℕ) → AreEpochsNear s (at_epoch q now)
      → DihSteps from (noting s from closed) q
  unfolding reported
  notes s from closed now near = by (is_unfinished s.counted closed)
    where
      by : (b : Bool)
          → DihSteps from
          (report_if (record s { order = Some (record { epoch = closed; to = from }) })
          (record { epoch = closed; to = from }) b) q
      by true = record {
        epoch = now;
        near = record {
          node = near.node;
          number = near.number;
          fence = near.fence;
          current = near.current;
          counted = near.counted;
          held = near.held;
        };
        marks = refl;
        sends = tt;
      }
      by false = record {
        epoch = now;
        near = record {
          node = near.node;
          number = near.number;
          fence = near.fence;
          current = near.current;
          counted = near.counted;
          held = near.held;
        };
        marks = refl;
        sends = ((refl, (refl, refl)), tt);
      }

  none_served : (from node : ℕ) (b : Bool) → b ≡ false → Each (IsConfirmed from) (go_on_if node b)
  none_served from node true is = absurd (true≢false is)
  none_served from node false is = tt

  serves : (from : ℕ) (t : Step views.DihState) → DihSteps from t q → DihSteps from (serving t) q
  serves from t step = record {
    epoch = step.epoch;
    near = step.near;
    marks = ap (λ (marks : List Mark). marks ++ []) step.marks;
    sends =
        each_append (IsConfirmed from) t.effects.sends _ step.sends
        (none_served from t.state.node (can_serve t.state) (none_held t.state step.near.held));
  }

  module _ (s : views.DihState) (near : AreEpochsNear s q) where
    prepares : (from closed next : ℕ) → DihSteps from (prepare_row s from closed next) q
    unfolding prepare_row
    prepares from closed next = by (nat_le s.current closed)
      where
        by : (b : Bool)
            → DihSteps from
            (sending (prepared_if s closed next b) (checkpoints from) (Epoch (epoch.GcpPrepareConf closed))) q
        by true = record {
          epoch = q.epoch;
          near = record {
            node = near.node;
            number = near.number;
            fence = near.fence;
            current = near.current;
            counted = near.counted;
            held = near.held;
          };
          marks = refl;
          sends = ((refl, (refl, refl)), tt);
        }
        by false = record { epoch = q.epoch; near = near; marks = refl; sends = ((refl, (refl, refl)), tt) }

    commits : (from closed next : ℕ) → DihSteps from (commit_row s from closed next) q
    unfolding commit_row
    commits from closed next = by (nat_le s.current closed)
      where
        by : (b : Bool) → DihSteps from (commit_if s from closed next b) q
        by true =
            serves from _ (notes (committed s closed next) from closed next
            (record {
              node = near.node;
              number = near.number;
              fence = near.fence;
              current = refl;
              counted = near.counted;
              held = near.held;
            }))
        by false = notes s from closed q.epoch near

    by_order : (from : ℕ) (signal : EpochSignal) → is_order block.Dih signal ≡ true
        → DihSteps from (dih.epoch_table s from signal) q
    unfolding close_row copy_row done_row
    by_order from (epoch.GcpPrepare closed next) is = prepares from closed next
    by_order from (epoch.GcpCommit closed next) is = commits from closed next
    by_order from (epoch.GcpClosed closed) is = record {
      epoch = q.epoch;
      near = record {
        node = near.node;
        number = near.number;
        fence = near.fence;
        current = near.current;
        counted = near.counted;
        held = near.held;
      };
      marks = refl;
      sends = ((refl, (refl, refl)), tt);
    }
    by_order from (epoch.CopyGciReq closed mask) is =
        record { epoch = q.epoch; near = near; marks = refl; sends = ((refl, (refl, refl)), tt) }
    by_order from (epoch.GcpDone closed) is = record {
      epoch = q.epoch;
      near = record {
        node = near.node;
        number = near.number;
        fence = near.fence;
        current = near.current;
        counted = near.counted;
        held = near.held;
      };
      marks = refl;
      sends = tt;
    }
    by_order from signal is = absurd (false≢true is)

    dih_by : (from number : ℕ) (body : Body) → is_for_closing block.Dih body ≡ true
        → DihSteps from (dih_table s from number body) q
    dih_by from number (Epoch signal) is = by_order from signal is
    dih_by from number body is = absurd (false≢true is)

-- a part that does something of a closing
module _ (start : Start) (h : ℕ) (given : List ApiReply) (standing : Standing) (ease : IsAtEase start standing)
    (x : Signal) where
  abbrev part_with : Parts → host.HostBody
  part_with parts = record { standing = standing; parts = parts }

  tc_near : (p : TcPart) (q : plain_tc.TcPart) → ArePartsNear start given (Tc p) (plain_host.Tc q)
      → is_for_closing block.Dih x.body ≡ true
      → HostNear start (suc h) given x.member.node (with_parts (part_with (Tc p)) (in_tc (in_dih p (dih_row p.dih x))))
      (plain_host.Tc q)
  tc_near p q near is =
      let step = dih_by q.dih p.dih near.1 x.member.node x.view.number x.body is in
      record {
        inner = plain_host.Tc (record { tc = q.tc; dih = at_epoch q.dih step.epoch });
        near = record { standing = ease; parts = (near.0, step.near) };
        same = refl;
        marks = λ beats. step.marks;
        only = subst (Each IsClosingMark) (sym step.marks) tt;
        sends = confirmed_of h x.member.node _ step.sends;
        masters = λ beats some. confirmed_for x.member.node some _ step.sends;
      }

  -- the rows take it, whatever their saver knows and notices
  rows_by : (p : LdmPart) (s : LqhState) (saver : SaverState) (body : Body)
      → ArePartsNear start given (Ldm p) (plain_host.Ldm s)
      → is_for_closing block.Lqh body ≡ true
      → HostNear start (suc h) given x.member.node
      (with_parts (part_with (Ldm p))
      (in_ldm (in_saving p body (in_rows (saving p.replica saver) (replica_by p.replica x body))))) (plain_host.Ldm s)
  rows_by p s saver (Epoch (epoch.GcpClosed closed)) near is = record {
    inner = plain_host.Ldm s;
    near = record { standing = ease; parts = near };
    same = refl;
    marks = λ beats. refl;
    only = tt;
    sends = ((refl, refl), tt);
    masters = λ beats some. ((refl, some), tt);
  }
  rows_by p s saver (Epoch (epoch.GcpSaveReq closed)) near is = record {
    inner = plain_host.Ldm s;
    near = record { standing = ease; parts = near };
    same = refl;
    marks = λ beats. refl;
    only = tt;
    sends = ((refl, refl), tt);
    masters = λ beats some. ((refl, some), tt);
  }
  rows_by p s saver (Epoch (epoch.GcpDone closed)) near is = record {
    inner = plain_host.Ldm s;
    near = record { standing = ease; parts = near };
    same = refl;
    marks = λ beats. refl;
    only = tt;
    sends = tt;
    masters = λ beats some. tt;
  }
  rows_by p s saver body near is = absurd (false≢true is)

  saver_near : (p : LdmPart) (s : LqhState) → ArePartsNear start given (Ldm p) (plain_host.Ldm s)
      → is_for_closing block.Lqh x.body ≡ true → (body : Body) → is_for_closing block.Lqh body ≡ true
      → HostNear start (suc h) given x.member.node
      (with_parts (part_with (Ldm p))
      (in_ldm (in_saving p x.body (saver_by (idling (saving p.replica p.saver)) x body)))) (plain_host.Ldm s)
  saver_near p s near takes (Epoch (epoch.GcpClosed closed)) is = rows_by p s (idle p.saver) x.body near takes
  saver_near p s near takes (Epoch (epoch.GcpSaveReq closed)) is = rows_by p s (idle p.saver) x.body near takes
  saver_near p s near takes (Epoch (epoch.GcpDone closed)) is =
      rows_by p s (told_durable (idle p.saver) closed) x.body near takes
  saver_near p s near takes body is = absurd (false≢true is)

  main_near : (p : MainPart) (m : plain_main.MainPart) → is_beating (suc h) ≡ true
      → ArePartsNear start given (Main p) (plain_host.Main m) → is_for_closing block.GcpMaster x.body ≡ true
      → (asks_master x.body ≡ true → x.member.node ≡ 0)
      → HostNear start (suc h) given x.member.node
      (with_parts (part_with (Main p)) (in_main (in_master p (master_row p.master x))))
      (plain_host.Main m)
  main_near p m beats near is client =
      let step = master_steps p.master x near is client in
      record {
        inner = plain_host.Main m;
        near = record { standing = ease; parts = step.near };
        same = refl;
        marks = λ none. absurd (true≢false (sym beats ∙ none));
        only = step.marks;
        sends = step.sends;
        masters = λ none some. absurd (true≢false (sym beats ∙ none));
      }

-- what the parts do, by the block that a signal is for
abbrev pub row_at : Parts → BlockId → Signal → Step Parts
row_at (Shell p) to x = in_shell (shell_row p to x)
row_at (Main p) to x = in_main (main_row p to x)
row_at (Tc p) to x = in_tc (tc_row p to x)
row_at (Ldm p) to x = in_ldm (ldm_row p to x)

pub row_is : (parts : Parts) (x : Signal) → row_at parts x.to.block x ≡ parts_row parts x
row_is (Shell p) x = refl
row_is (Main p) x = refl
row_is (Tc p) x = refl
row_is (Ldm p) x = refl

-- the block of a part, where host h has one that takes something of closings
module _ (start : Start) (h : ℕ) (given : List ApiReply) (standing : Standing) (ease : IsAtEase start standing)
    (x : Signal) (client : asks_master x.body ≡ true → x.member.node ≡ 0) where
  abbrev IsStep : BlockId → Parts → plain.Host → Type 0
  IsStep to parts other =
      HostNear start (suc h) given x.member.node
      (with_parts (part_with start h given standing ease x parts) (row_at parts to x)) other

  same_parts : (parts : Parts) (other : plain.Host) → ArePartsNear start given parts other
      → HostNear start (suc h) given x.member.node (stay (part_with start h given standing ease x parts)) other
  same_parts parts other near =
      stays start h given x.member.node (part_with start h given standing ease x parts) other
      (record { standing = ease; parts = near })

  at_master : is_beating (suc h) ≡ true → is_for_closing block.GcpMaster x.body ≡ true → (parts : Parts)
      (other : plain.Host) → ArePartsNear start given parts other → IsStep block.GcpMaster parts other
  unfolding shell_row main_row tc_row ldm_row
  at_master beats is (Main p) (plain_host.Main m) near =
      main_near start h given standing ease x p m beats near is client
  at_master beats is (Shell p) other near = same_parts (Shell p) other near
  at_master beats is (Tc p) other near = same_parts (Tc p) other near
  at_master beats is (Ldm p) other near = same_parts (Ldm p) other near
  at_master beats is parts other near = absurd near

  at_epochs : is_for_closing block.Dih x.body ≡ true → (parts : Parts) (other : plain.Host)
      → ArePartsNear start given parts other → IsStep block.Dih parts other
  unfolding shell_row main_row tc_row ldm_row
  at_epochs is (Tc p) (plain_host.Tc q) near = tc_near start h given standing ease x p q near is
  at_epochs is (Shell p) other near = same_parts (Shell p) other near
  at_epochs is (Main p) other near = same_parts (Main p) other near
  at_epochs is (Ldm p) other near = same_parts (Ldm p) other near
  at_epochs is parts other near = absurd near

  at_rows : is_for_closing block.Lqh x.body ≡ true → (parts : Parts) (other : plain.Host)
      → ArePartsNear start given parts other → IsStep block.Lqh parts other
  unfolding shell_row main_row tc_row ldm_row
  at_rows is (Ldm p) (plain_host.Ldm s) near = saver_near start h given standing ease x p s near is x.body is
  at_rows is (Shell p) other near = same_parts (Shell p) other near
  at_rows is (Main p) other near = same_parts (Main p) other near
  at_rows is (Tc p) other near = same_parts (Tc p) other near
  at_rows is parts other near = absurd near

  at_block : (of : Part) (to : BlockId) → of ≡ part_by (h % 3) → is_closer of to ≡ true
      → is_for_closing to x.body ≡ true → (parts : Parts) (other : plain.Host)
      → ArePartsNear start given parts other → IsStep to parts other
  at_block part.Main block.GcpMaster same has is = at_master (ap is_main (sym same)) is
  at_block part.Tc block.Dih same has is = at_epochs is
  at_block part.Ldm block.Lqh same has is = at_rows is
  at_block of to same has is = absurd (false≢true has)

-- the shell's host has the client's side
module _ (start : Start) (given : List ApiReply) (standing : Standing) (ease : IsAtEase start standing) (x : Signal)
    (view : x.view ≡ first start) where
  at_client : is_for_closing block.Api x.body ≡ true → (parts : Parts) (other : plain.Host)
      → ArePartsNear start given parts other
      → HostNear start 0 given x.member.node
      (with_parts (record { standing = standing; parts = parts }) (row_at parts block.Api x)) other
  unfolding shell_row main_row tc_row ldm_row
  at_client is (Shell p) (plain_host.Shell a) near =
      client_near start given standing ease p a near x.member.node x view is
  at_client is (Main p) (plain_host.Main m) near = record {
    inner = plain_host.Main m;
    near = record { standing = ease; parts = near };
    same = refl;
    marks = λ beats. refl;
    only = tt;
    sends = tt;
    masters = λ beats some. tt;
  }
  at_client is (Tc p) (plain_host.Tc q) near = record {
    inner = plain_host.Tc q;
    near = record { standing = ease; parts = near };
    same = refl;
    marks = λ beats. refl;
    only = tt;
    sends = tt;
    masters = λ beats some. tt;
  }
  at_client is (Ldm p) (plain_host.Ldm s) near = record {
    inner = plain_host.Ldm s;
    near = record { standing = ease; parts = near };
    same = refl;
    marks = λ beats. refl;
    only = tt;
    sends = tt;
    masters = λ beats some. tt;
  }
  at_client is parts other near = absurd near

  by_client : (to : BlockId) → has_closer 0 to ≡ true → is_for_closing to x.body ≡ true → (parts : Parts)
      (other : plain.Host) → ArePartsNear start given parts other
      → HostNear start 0 given x.member.node
      (with_parts (record { standing = standing; parts = parts }) (row_at parts to x)) other
  by_client block.Api has is = at_client is
  by_client to has is = absurd (false≢true has)

-- so whatever the parts of a host do
pub parts_near : (start : Start) (h : ℕ) (given : List ApiReply) (s : host.HostBody) (other : plain.Host) (x : Signal)
    → AreNear start given s other → ComesForClosing start h x
    → HostNear start h given x.member.node (with_parts s (parts_row s.parts x)) other
parts_near start h given s other x near comes =
    subst (λ t. HostNear start h given x.member.node (with_parts s t) other) (row_is s.parts x)
    (by h (has_its_block h x comes.closing))
  where
    by : (h : ℕ) → has_closer h x.to.block ≡ true
        → HostNear start h given x.member.node (with_parts s (row_at s.parts x.to.block x)) other
    by zero has =
        by_client start given s.standing near.standing x comes.view x.to.block has (takes_it h x comes.closing) s.parts
        other near.parts
    by (suc host) has =
        at_block start host given s.standing near.standing x comes.client (part_by (host % 3)) x.to.block refl has
        (takes_it h x comes.closing) s.parts other near.parts

pub closings_step_near : ClosingsStepNear
closings_step_near start h given s other x near comes goes = record {
  inner = all.inner;
  near = all.near;
  same = all.same;
  marks = all.marks;
  sends = all.sends;
  masters = all.masters;
}
  where
    all : HostNear start h given x.member.node (step_by h s x) other
    all =
        subst (λ t. HostNear start h given x.member.node t other)
        (sym (near_parts start h given s other x near comes.fine comes.view
        (closings_for_blocks h x comes.closing) goes))
        (parts_near start h given s other x near comes)
