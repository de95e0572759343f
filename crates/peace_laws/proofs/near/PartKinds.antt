-- Which parts the hosts have that are near inner ones, and what it says of them that they are at rest.
use Rattle.std.proofs.Common.{◌≡◌, ◌<◌, ◌≤◌, ℕ, zero, suc, ◌+◌, List, [], ◌∷◌, ◌++◌, true, false, refl, ap, sym, ◌∙◌}
use Rattle.std.proofs.Common.{subst, arith}
use Rattle.std.specs.Prelude.{Some, slice_get}
use Rattle.std.proofs.lemmas.Bool.{false≢true}
use Rattle.frag_map.specs.Layout.{members}
use Rattle.frag_map.specs.Replicas.{first_start}
use Rattle.frag_map.specs.Shape.{IsShape}
use Rattle.gcp_master.specs.Master.{first_phase}
use Rattle.gcp_master.specs.Resume.{is_first_by, is_president}
use Rattle.node_core.specs.Blocks.{has_lqh, has_tc}
use Rattle.node_core.specs.declared.host.Host as plain
use Rattle.node_core.specs.declared.host.Host.TheVariants as kind
use Rattle.node_views.specs.declared.parts.Parts.{Parts}
use Rattle.node_views.specs.declared.parts.Parts.TheVariants.{Shell, Main, Tc, Ldm}
use Rattle.sig_core.specs.declared.member.Member.{Member}
use Rattle.sig_core.specs.declared.reply.ApiReply.{ApiReply}
use Rattle.sig_core.specs.Place.{coordinator, rows_of}
use Rattle.world_core.proofs.HostNumbers.{node_host, rows_run, tc_runs}
use Rattle.world_core.specs.Hosts.{rows_host, tc_host}
use Rattle.world_core.specs.Machine as plain_world
use Rattle.world_core.specs.Start.{Start}
use Rattle.world_core.specs.Steps.{HostStep}
use Rattle.world_views.specs.Machine.{after}
use Rattle.world_views.specs.Right.{replies_in}
use Rattle.calm_laws.specs.Alike.{first}
use Rattle.calm_laws.proofs.places.Main.{main_member}
use Rattle.level_laws.specs.Levels.{host_at}
use Rattle.peace_laws.specs.Alike.{ArePartsNear}
use Rattle.peace_laws.specs.Closing.{EpochsRest, HasRows, MainRests, host_in, main}
use Rattle.peace_laws.specs.Parts.{plain_part, plain_replies}
use Rattle.peace_laws.specs.Rest.{RestsIn}
use Rattle.peace_laws.proofs.near.CalmNear.{inner_main}
use Rattle.peace_laws.proofs.near.Mirrored.{IsMirrored, level_same}
use Rattle.peace_laws.proofs.near.NearHosts.{has_main}

-- the oldest member of the first view is the first node
front_kept : (those : List Member) (last : Member) → slice_get those 0 ≡ Some (first_start 1)
    → slice_get (those ++ last ∷ []) 0 ≡ Some (first_start 1)
front_kept [] last none = absurd (cc (none))
front_kept (one ∷ more) last is = is

pub first_member : (n : ℕ) → 1 ≤ n → slice_get (members n) 0 ≡ Some (first_start 1)
first_member zero some = absurd (omega (arith, some))
first_member (suc n) some = go n
  where
    go : (n : ℕ) → slice_get (members (suc n)) 0 ≡ Some (first_start 1)
    go zero = refl
    go (suc n) = front_kept (members (suc n)) (first_start (suc n + 1)) (go n)

pub first_presides : (start : Start) → IsShape start.shape → is_president (first_start 1) (first start) ≡ true
first_presides start shape =
    ap (is_first_by (first_start 1)) (first_member start.shape.nodes shape.nodes_some)

-- whatever its epochs a plain host has the same blocks
pub tc_level : (epoch : ℕ) (s : plain.Host) → has_tc (host_at epoch s) ≡ has_tc s
tc_level epoch (kind.Shell a) = refl
tc_level epoch (kind.Main m) = refl
tc_level epoch (kind.Tc q) = refl
tc_level epoch (kind.Ldm s) = refl

rows_level : (epoch : ℕ) (s : plain.Host) → has_lqh (host_at epoch s) ≡ has_lqh s
rows_level epoch (kind.Shell a) = refl
rows_level epoch (kind.Main m) = refl
rows_level epoch (kind.Tc q) = refl
rows_level epoch (kind.Ldm s) = refl

module _ (start : Start) (shape : IsShape start.shape) (epoch : ℕ) where
  -- a main part at rest
  main_at_rest : (given : List ApiReply) (parts : Parts) (other : plain.Host) → ArePartsNear start given parts other
      → has_main other ≡ true → RestsIn start main epoch parts → MainRests start epoch parts
  main_at_rest given (Main p) (kind.Main m) near is rests =
      let member : p.master.member ≡ first_start 1 = rests.member ∙ main_member start 0 shape.nodes_some in
      record {
        member = member;
        view = rests.view;
        phase =
            rests.phase
            ∙ ap (λ (m : Member). first_phase epoch (is_president m (first start))) member
            ∙ ap (first_phase epoch) (first_presides start shape);
        front = rests.front;
        asked = rests.asked;
        owed = rests.owed;
      }
  main_at_rest given (Shell p) (kind.Main m) near is rests = absurd near
  main_at_rest given (Tc p) (kind.Main m) near is rests = absurd near
  main_at_rest given (Ldm p) (kind.Main m) near is rests = absurd near
  main_at_rest given parts (kind.Shell a) near is rests = absurd (false≢true is)
  main_at_rest given parts (kind.Tc q) near is rests = absurd (false≢true is)
  main_at_rest given parts (kind.Ldm s) near is rests = absurd (false≢true is)

  pub main_rests : (log : List HostStep) → IsMirrored start main log
      → RestsIn start main epoch (after start main log).parts → MainRests start epoch (after start main log).parts
  main_rests log before rests =
      main_at_rest (plain_replies (replies_in start main log)) (after start main log).parts before.inner
      before.near.parts (inner_main start main log before) rests

  -- a member's epochs
  epochs_at_rest : (h : ℕ) (given : List ApiReply) (parts : Parts) (other : plain.Host)
      → ArePartsNear start given parts other → has_tc other ≡ true → RestsIn start h epoch parts
      → EpochsRest epoch parts
  epochs_at_rest h given (Tc p) (kind.Tc q) near is rests = rests
  epochs_at_rest h given (Shell p) (kind.Tc q) near is rests = absurd near
  epochs_at_rest h given (Main p) (kind.Tc q) near is rests = absurd near
  epochs_at_rest h given (Ldm p) (kind.Tc q) near is rests = absurd near
  epochs_at_rest h given parts (kind.Shell a) near is rests = absurd (false≢true is)
  epochs_at_rest h given parts (kind.Main m) near is rests = absurd (false≢true is)
  epochs_at_rest h given parts (kind.Ldm s) near is rests = absurd (false≢true is)

  rows_at_rest : (given : List ApiReply) (parts : Parts) (other : plain.Host) → ArePartsNear start given parts other
      → has_lqh other ≡ true → HasRows parts
  rows_at_rest given (Ldm p) (kind.Ldm s) near is = tt
  rows_at_rest given (Shell p) (kind.Ldm s) near is = absurd near
  rows_at_rest given (Main p) (kind.Ldm s) near is = absurd near
  rows_at_rest given (Tc p) (kind.Ldm s) near is = absurd near
  rows_at_rest given parts (kind.Shell a) near is = absurd (false≢true is)
  rows_at_rest given parts (kind.Main m) near is = absurd (false≢true is)
  rows_at_rest given parts (kind.Tc q) near is = absurd (false≢true is)

  module _ (place : ℕ) (low : place < start.shape.nodes) where
    tc_there : tc_host start (place + 1) ≡ host_in place false
    tc_there = node_host start (coordinator (place + 1)) (omega arith) (omega (arith, low)) ∙ omega arith

    rows_there : rows_host start (place + 1) ≡ host_in place true
    rows_there = node_host start (rows_of (place + 1)) (omega arith) (omega (arith, low)) ∙ omega arith

    pub epochs_rest : (log : List HostStep) → IsMirrored start (host_in place false) log
        → RestsIn start (host_in place false) epoch (after start (host_in place false) log).parts
        → EpochsRest epoch (after start (host_in place false) log).parts
    epochs_rest log before rests =
        epochs_at_rest (host_in place false) (plain_replies (replies_in start (host_in place false) log))
        (after start (host_in place false) log).parts before.inner before.near.parts
        (sym (tc_level start.epoch before.inner)
        ∙ sym (level_same start (host_in place false) log before has_tc (λ s. refl))
        ∙ subst
        (λ k. has_tc (plain_world.after start k (plain_part start (host_in place false) log)) ≡ true) tc_there
        (tc_runs start (place + 1) (plain_part start (host_in place false) log) (omega arith) (omega (arith, low))))
        rests

    pub has_rows : (log : List HostStep) → IsMirrored start (host_in place true) log
        → HasRows (after start (host_in place true) log).parts
    has_rows log before =
        rows_at_rest (plain_replies (replies_in start (host_in place true) log))
        (after start (host_in place true) log).parts before.inner before.near.parts
        (sym (rows_level start.epoch before.inner)
        ∙ sym (level_same start (host_in place true) log before has_lqh (λ s. refl))
        ∙ subst
        (λ k. has_lqh (plain_world.after start k (plain_part start (host_in place true) log)) ≡ true) rows_there
        (rows_run start (place + 1) (plain_part start (host_in place true) log) (omega arith) (omega (arith, low))))
