-- A closing begins where the president's master takes the request for it.
use Rattle.std.proofs.Common.{◌≡◌, ◌⊎◌, ◌∙◌, ◌++◌, inl, inr, ℕ, Bool, true, false, List, [], ◌∷◌, refl, sym, ap, subst}
use Rattle.std.proofs.Common.{append-nil, subst₂}
use Rattle.std.proofs.lemmas.Bool.{false≢true}
use Rattle.std.specs.Prelude.{None, Option, Some}
use Rattle.api_views.specs.declared.closings.Closing.{Closing}
use Rattle.api_views.specs.declared.closings.Closing.TheVariants.{Gcp, Micro, Lcp}
use Rattle.api_views.specs.Closings.{ask_of}
use Rattle.frag_map.specs.Replicas.{first_start}
use Rattle.frag_map.specs.Shape.{IsShape}
use Rattle.gcp_master.specs.declared.local.Local.{Local}
use Rattle.gcp_master.specs.declared.phase.Phase.TheVariants as phase
use Rattle.gcp_master.specs.declared.voices.Voice.{Voice}
use Rattle.gcp_master.specs.Begin.{begin_global, begin_micro, begins, begins_if, begun}
use Rattle.gcp_master.specs.Master.{epoch_table, master_row, master_table}
use Rattle.gcp_master.specs.Requests.{asked_row, global_asked, micro_asked}
use Rattle.gcp_master.specs.Sends.{list_effects, listing}
use Rattle.gcp_master.specs.State.{MasterState}
use Rattle.node_views.specs.Blocks.{in_main, parts_row}
use Rattle.node_views.specs.Parts.{in_master}
use Rattle.node_views.specs.declared.main_part.MainPart.{MainPart}
use Rattle.node_views.specs.declared.parts.Parts.{Parts}
use Rattle.node_views.specs.declared.parts.Parts.TheVariants.{Shell, Main, Tc, Ldm}
use Rattle.run_theory.specs.Lists.{Each, IsIn}
use Rattle.run_theory.proofs.Pasts.{in_append}
use Rattle.sig_core.specs.declared.place.BlockId.TheVariants.{Api}
use Rattle.sig_core.specs.declared.member.Member.{Member}
use Rattle.sig_core.specs.declared.outs.Outgoing.{Outgoing}
use Rattle.sig_core.specs.declared.place.Place.{Place}
use Rattle.sig_core.specs.declared.signal.epoch.EpochSignal.TheVariants.{GcpReq, MicroReq}
use Rattle.sig_core.specs.Place.{checkpoints}
use Rattle.sig_core.specs.Step.{Step, to_place}
use Rattle.world_core.specs.Hosts.{host_for, member_at}
use Rattle.world_core.specs.Start.{Start, made}
use Rattle.calm_laws.specs.Alike.{first}
use Rattle.peace_laws.specs.Closing.{Course, EpochsRest, HasRows, IsAskedFor, MainRests, PresidentRests}
use Rattle.peace_laws.specs.Closing.{ShellWaits, host_in, main, next_of}
use Rattle.peace_laws.specs.Moments.{Moment, Takes, behind, told_by}
use Rattle.peace_laws.specs.UnderWay.{GoingOn, HasMember, IsClient, IsLetter, IsMaster, IsUnderWay, Prepares, ShellHas}
use Rattle.peace_laws.specs.UnderWay.{run_of}
use Rattle.peace_laws.proofs.closings.MainOn.{main_row_is, told_same}
use Rattle.peace_laws.proofs.closings.OrderLists.{IsListed, IsSent, all_letters, stage_listed}
use Rattle.peace_laws.proofs.closings.StageBegins.{stage_begins}
use Rattle.peace_laws.proofs.closings.WayOn.{main_apart}

-- a master at rest, by who it is, and what it has heard of the last closing
abbrev resting : Start → ℕ → List Voice → Local → MasterState
resting start epoch voices local =
    record {
      member = first_start 1;
      view = first start;
      phase = phase.Resting epoch;
      front = None;
      asked = record { global = false; copy = false; local = false; micro = false };
      owed = false;
      voices = voices;
      local = local;
    }

-- and one that has begun a closing
abbrev begun_by : Start → Course → Local → MasterState
begun_by start c local =
    record {
      member = first_start 1;
      view = first start;
      phase = phase.Preparing (run_of c);
      front = None;
      asked = record { global = false; copy = false; local = false; micro = false };
      owed = false;
      voices = [];
      local = local;
    }

resting_is : (start : Start) (epoch : ℕ) (s : MasterState) → PresidentRests start epoch s
    → s ≡ resting start epoch s.voices s.local
resting_is start epoch s rests = λ i. record {
  member = rests.member i;
  view = rests.view i;
  phase = rests.phase i;
  front = rests.front i;
  asked = rests.asked i;
  owed = rests.owed i;
  voices = s.voices;
  local = s.local;
}

-- the request begins it
module _ (start : Start) (c : Course) (voices : List Voice) (local : Local) (voice : Voice)
    (client : voice.member.node ≡ 0) where
  abbrev s : MasterState
  s = resting start c.epoch voices local

  abbrev begins_so : MasterState
  begins_so = begun_by start c local

  global_begins : next_of Gcp c.epoch ≡ Some c.next → epoch_table s voice (GcpReq Api) ≡ listing begins_so 0
  unfolding asked_row begins begun
  global_begins next =
      ap (λ n. asked_row s (global_asked s.asked n)) client
      ∙ ap (λ (o : Option ℕ).
      begins_if
      (begin_global (record s { asked = global_asked s.asked 0 }) c.epoch o).state
      (begin_global (record s { asked = global_asked s.asked 0 }) c.epoch o).spent false)
      next

  micro_begins : next_of Micro c.epoch ≡ Some c.next → epoch_table s voice MicroReq ≡ listing begins_so 0
  unfolding asked_row begins begun
  micro_begins next =
      ap (λ (o : Option ℕ).
      begins_if
      (begin_micro (record s { asked = micro_asked s.asked }) c.epoch o).state
      (begin_micro (record s { asked = micro_asked s.asked }) c.epoch o).spent false)
      next

  request_begins : (number : ℕ) (kind : Closing) → next_of kind c.epoch ≡ Some c.next
      → master_table s voice number (ask_of kind) ≡ listing begins_so 0
  request_begins number Gcp next = global_begins next
  request_begins number Micro next = micro_begins next
  request_begins number Lcp next = absurd (cc (next))

-- a list of one, of which one was taken
none_left : {A : Type 0} (x y : A) (rest : List A) → x ∷ [] ≡ rest ++ y ∷ [] → rest ≡ []
none_left x y [] is = refl
none_left {A} x y (z ∷ rest) is = absurd (go rest (cc (is)))
  where
    go : (rest : List A) → [] ≡ rest ++ y ∷ [] → ⊥
    go [] is = cc (is)
    go (z ∷ rest) is = cc (is)

module _ (start : Start) (shape : IsShape start.shape) (c : Course) (next : next_of c.kind c.epoch ≡ Some c.next)
    (before after : Moment) (asked : IsAskedFor start c before) (step : Takes start before after) where
  there : IsIn step.sent (before.under_way step.sender step.host)
  there = subst (IsIn step.sent) (sym step.there) (in_append step.sent step.rest (step.sent ∷ []) (inl refl))

  from : step.sender ≡ 0
  from = (asked.alone step.sender step.host step.sent there).0

  at : step.host ≡ main
  at = (asked.alone step.sender step.host step.sent there).1

  abbrev request : Outgoing
  request = to_place (checkpoints 1) (ask_of c.kind)

  one_there : request ∷ [] ≡ step.rest ++ step.sent ∷ []
  one_there =
      sym asked.request
      ∙ sym (ap (λ i. before.under_way i main) from)
      ∙ sym (ap (before.under_way step.sender) at)
      ∙ step.there

  rest_none : step.rest ≡ []
  rest_none = none_left request step.sent step.rest one_there

  sent_is : step.sent ≡ request
  sent_is =
      let own : request ∷ [] ≡ step.sent ∷ [] =
      one_there ∙ ap (λ (rest : List Outgoing). rest ++ step.sent ∷ []) rest_none in
      cc (own)

  -- the master begins the closing
  module _ (p : MainPart) (main_is : before.parts main ≡ Main p) (rests : PresidentRests start c.epoch p.master) where
    abbrev t : Step MasterState
    t = master_row p.master step.x

    abbrev n : MasterState
    n = begun_by start c p.master.local

    t_is : t ≡ listing n 0
    t_is =
        ap (λ (s : MasterState). master_row s step.x) (resting_is start c.epoch p.master rests)
        ∙ ap (master_table (resting start c.epoch p.master.voices p.master.local)
        (record { member = step.x.member; from = step.x.from }) step.x.view.number)
        (step.says.body ∙ ap (λ (o : Outgoing). o.body) sent_is)
        ∙ request_begins start c p.master.voices p.master.local (record { member = step.x.member; from = step.x.from })
        (ap (λ (m : Member). m.node) (step.says.member ∙ ap (member_at (made start)) from)) step.x.view.number c.kind
        next

    before_is : before.parts step.host ≡ Main p
    before_is = ap before.parts at ∙ main_is

    stepped_is : in_main (in_master p t) ≡ parts_row (before.parts step.host) step.x
    stepped_is =
        main_row_is p step.x (sym (ap (λ (to : Place). to.block) (step.says.to ∙ ap (λ (o : Outgoing). o.to) sent_is)))
        ∙ ap (λ (parts : Parts). parts_row parts step.x) (sym before_is)

    sends_are : (parts_row (before.parts step.host) step.x).effects.sends ≡ (list_effects n 0).sends
    unfolding listing
    sends_are =
        sym (ap (λ (q : Step Parts). q.effects.sends) stepped_is) ∙ ap (λ (q : Step MasterState). q.effects.sends) t_is

    state_is : t.state ≡ n
    unfolding listing
    state_is = ap (λ (q : Step MasterState). q.state) t_is ∙ told_same n _ refl

    after_is : after.parts main ≡ Main (record { qmgr = p.qmgr; master = n })
    after_is =
        ap after.parts (sym at)
        ∙ step.own
        ∙ ap (λ h. behind h (parts_row (before.parts step.host) step.x).state) at
        ∙ ap (λ (q : Step Parts). q.state) (sym stepped_is)
        ∙ ap (λ (m : MasterState). Main (record { qmgr = p.qmgr; master = m })) state_is

    here : Each (λ (one : Outgoing). IsIn one (after.under_way main (host_for start one.to))) (list_effects n 0).sends
    here =
        subst₂ (λ h sends. Each (λ (one : Outgoing). IsIn one (after.under_way h (host_for start one.to))) sends) at
        sends_are step.sends

    master : IsMaster start n
    master = record { member = refl; view = refl; asked = refl; owed = refl }

    listed : IsListed start c n
    listed = stage_listed start c n master Prepares refl refl

    -- the others stay as they were
    shell_is : after.parts 0 ≡ before.parts 0
    shell_is = step.others 0 (λ same. absurd (cc (same, at)))

    part_is : (place : ℕ) (rows : Bool) → after.parts (host_in place rows) ≡ before.parts (host_in place rows)
    part_is place rows = step.others (host_in place rows) (λ same. main_apart place rows (sym (same ∙ at)))

    waits : (parts : Parts) → ShellWaits start (Some c.kind) parts
        → ShellHas (IsClient start) parts × ShellHas (λ s. s.closing ≡ Some c.kind) parts
    waits (Shell q) is = (record { view = is.view; replies = is.replies }, is.closing_is)
    waits (Main q) is = absurd is
    waits (Tc q) is = absurd is
    waits (Ldm q) is = absurd is

    members : (parts : Parts) → EpochsRest c.epoch parts → HasMember c parts
    members (Tc q) is =
        record { counted = is.counted; held = is.held; order_none = is.order; at = inl is.current }
    members (Shell q) is = absurd is
    members (Main q) is = absurd is
    members (Ldm q) is = absurd is

    replies_are : after.replies ≡ c.before
    replies_are =
        step.told
        ∙ ap (λ h. before.replies ++ told_by h (parts_row (before.parts step.host) step.x).state) at
        ∙ append-nil before.replies
        ∙ asked.replies

    letters : (i j : ℕ) (one : Outgoing) → IsIn one (after.under_way i j) → IsLetter start c after i j one
    letters i j one is = go (step.only i j one is)
      where
        sent : IsSent start c one ⊎ GoingOn start main (host_for start one.to) one
            → IsLetter start c after main (host_for start one.to) one
        sent (inl (inl order)) = inl order
        sent (inl (inr report)) = inr (inr (inr report))
        sent (inr on) = inr (inr (inl on))

        go : (IsIn one (before.under_way i j) × (i ≡ step.sender → j ≡ step.host → IsIn one step.rest))
            ⊎ ((i ≡ step.host)
            × ((j ≡ host_for start one.to) × IsIn one (parts_row (before.parts step.host) step.x).effects.sends))
            → IsLetter start c after i j one
        go (inl was) =
            let where_from = asked.alone i j one was.0 in
            absurd
            (subst (IsIn one) rest_none (was.1 (where_from.0 ∙ sym from) (where_from.1 ∙ sym at)))
        go (inr new) =
            subst (λ k. IsLetter start c after k j one) (sym (new.0 ∙ at))
            (subst (λ k. IsLetter start c after main k one) (sym new.1.0)
            (sent (all_letters start c shape after n 0 refl listed here one (subst (IsIn one) sends_are new.1.1))))

    request_goes : IsUnderWay start c after
    request_goes = record {
      main_part = record { qmgr = p.qmgr; master = n };
      main_is = after_is;
      master = master;
      stage =
          inl (
            Prepares,
            stage_begins start shape c Prepares after n master refl refl refl here
                (λ beyond. absurd (false≢true beyond)) (λ saves. absurd (false≢true saves)),
          );
      shell = subst (ShellHas (IsClient start)) (sym shell_is) (waits (before.parts 0) asked.client).0;
      told = inl (
        subst (ShellHas (λ s. s.closing ≡ Some c.kind)) (sym shell_is) (waits (before.parts 0) asked.client).1,
        replies_are,
      );
      epochs = λ place low.
          subst (HasMember c) (sym (part_is place false))
          (members (before.parts (host_in place false)) (asked.rest.epochs place low));
      rows = λ place low. subst HasRows (sym (part_is place true)) (asked.rest.rows place low);
      letters = letters;
    }

  pub request_on : IsUnderWay start c after
  request_on = go (before.parts main) refl asked.rest.master
    where
      go : (parts : Parts) → before.parts main ≡ parts → MainRests start c.epoch parts → IsUnderWay start c after
      go (Main p) is rests = request_goes p is rests
      go (Shell p) is rests = absurd rests
      go (Tc p) is rests = absurd rests
      go (Ldm p) is rests = absurd rests
