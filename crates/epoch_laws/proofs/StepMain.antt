-- What a step of a main host does of its master of checkpoints, and what orders of epochs it sends.
use Rattle.std.proofs.Common.{◌≡◌, ◌⊎◌, ◌++◌, ℕ, List, [], refl, sym, subst, inl, inr}
use Rattle.std.specs.Prelude.{Some}
use Rattle.run_theory.specs.Lists.{Each, IsIn}
use Rattle.run_theory.proofs.Pasts.{each_append, each_from, each_map}
use Rattle.sig_core.specs.declared.outs.Outgoing.{Outgoing}
use Rattle.sig_core.specs.declared.place.BlockId.{BlockId}
use Rattle.sig_core.specs.declared.place.BlockId.TheVariants as block
use Rattle.sig_core.specs.declared.signal.Signal.{Signal}
use Rattle.sig_core.specs.declared.view.View.{View}
use Rattle.gcp_master.specs.declared.phase.Phase.TheVariants.{Unordered}
use Rattle.gcp_master.specs.Master.{master_row}
use Rattle.gcp_master.specs.Resume.{in_view}
use Rattle.gcp_master.specs.State.{MasterState}
use Rattle.node_views.specs.Blocks.{parts_entered}
use Rattle.node_views.specs.declared.host_body.HostBody as hosts
use Rattle.node_views.specs.declared.main_part.MainPart.{MainPart}
use Rattle.node_views.specs.declared.parts.Parts.{Parts}
use Rattle.node_views.specs.declared.parts.Parts.TheVariants.{Main}
use Rattle.node_views.specs.Parts.{main_entered, main_row, main_settled}
use Rattle.qmgr_block.proofs.Settles.{settles_may}
use Rattle.node_views.specs.Replies.{giving}
use Rattle.qmgr_block.specs.Qmgr.{qmgr_installed, qmgr_row}
use Rattle.world_views.specs.Machine.{step_by, told}
use Rattle.epoch_laws.proofs.SentMembership.{Orders, membership_installs_none, membership_orders, nothing_orders}
use Rattle.epoch_laws.proofs.SentMembership.{settling_none}
use Rattle.epoch_laws.proofs.SentNone.{AreNoOrders, IsNoOrder}
use Rattle.epoch_laws.proofs.StepTc.{IsPassed}
use Rattle.world_views.proofs.StepWalk.{IsTaken, IsWalked, Saying, next_comes}

-- the host installed this view, with the master
pub record IsInstalled (s now : MasterState) (stood : View) : Type 0 where
  pub member : now.member ≡ s.member
  pub view : now.view ≡ stood
  pub phase : now.phase ≡ Unordered
  pub voices : now.voices ≡ []

-- nothing comes to the master but that views are installed, the last of which is this one
abbrev pub IsLeft : hosts.HostBody → View → MasterState → MasterState → Type 0
IsLeft host stood s now = ((now ≡ s) × (stood ≡ host.standing.view)) ⊎ IsInstalled s now stood

-- only the membership may order, and that its own master
pub record IsResting (host : hosts.HostBody) (stood : View) (s : MasterState) (now : MainPart) (sends : List Outgoing)
    : Type 0 where
  pub left : IsLeft host stood s now.master
  pub orders : Each (Orders now.qmgr.known) sends

-- the master takes the signal; what orders are sent it sends
pub record IsReached (host : hosts.HostBody) (x : Signal) (stood : View) (s : MasterState) (now : MainPart)
    (sends : List Outgoing) : Type 0 where
  pub passed : IsPassed host x stood
  pub to : x.to.block ≡ block.GcpMaster
  pub before : MasterState
  pub left : IsLeft host stood s before
  pub is : now.master ≡ (master_row before x).state
  pub orders : Each (λ sent. IsNoOrder sent ⊎ IsIn sent (master_row before x).effects.sends) sends

pub record IsStepOfMain (host : hosts.HostBody) (x : Signal) (p : MainPart) (stood : View) (now : Parts)
    (sends : List Outgoing) : Type 0 where
  pub part : MainPart
  pub is : now ≡ Main part
  pub did : IsResting host stood p.master part sends ⊎ IsReached host x stood p.master part sends

installs : (s t : MasterState) (view : View) → t.member ≡ s.member → IsInstalled s (in_view t view) view
unfolding in_view
installs s t view same = record { member = same; view = refl; phase = refl; voices = refl }

left_member : (host : hosts.HostBody) (stood : View) (s now : MasterState) → IsLeft host stood s now
    → now.member ≡ s.member
left_member host stood s now (inl (same, view)) = subst (λ (t : MasterState). now.member ≡ t.member) same refl
left_member host stood s now (inr installed) = installed.member

module _ (host : hosts.HostBody) (x : Signal) (p : MainPart) where
  abbrev SaysMain : Saying
  SaysMain = IsStepOfMain host x p

  -- the membership, or no block at all, takes it
  resting : (stood : View) (q now : MainPart) (before sends : List Outgoing) → IsLeft host stood p.master q.master
      → now.master ≡ q.master → AreNoOrders before → Each (Orders now.qmgr.known) sends
      → SaysMain stood (Main now) (before ++ sends)
  resting stood q now before sends left same front orders = record {
    part = now;
    is = refl;
    did =
        inl (record {
          left = subst (λ (t : MasterState). IsLeft host stood p.master t) (sym same) left;
          orders =
              each_append (Orders now.qmgr.known) before sends (nothing_orders now.qmgr.known before front) orders;
        });
  }

  reached : (stood : View) (q : MainPart) (before : List Outgoing) → IsLeft host stood p.master q.master
      → AreNoOrders before → IsPassed host x stood → x.to.block ≡ block.GcpMaster
      → SaysMain stood (Main (main_row q block.GcpMaster x).state) (before ++ (master_row q.master x).effects.sends)
  unfolding main_row
  reached stood q before left front passed to =
      let sends = (master_row q.master x).effects.sends in
      record {
        part = (main_row q block.GcpMaster x).state;
        is = refl;
        did =
            inr (record {
              passed = passed;
              to = to;
              before = q.master;
              left = left;
              is = refl;
              orders =
                  each_append (λ (sent : Outgoing). IsNoOrder sent ⊎ IsIn sent sends) before sends
                  (each_map IsNoOrder (λ (sent : Outgoing). IsNoOrder sent ⊎ IsIn sent sends) before
                  (λ sent none. inl none) front)
                  (each_from (λ (sent : Outgoing). IsNoOrder sent ⊎ IsIn sent sends) sends (λ sent there. inr there));
            });
      }

  -- the membership settles on a view
  settling : (q : MainPart) (view : View) → main_settled q x.to.block x ≡ Some view
      → AreNoOrders (main_row q x.to.block x).effects.sends
  unfolding main_row
  settling q view is = by x.to.block is
    where
      by : (b : BlockId) → main_settled q b x ≡ Some view → AreNoOrders (main_row q b x).effects.sends
      by block.Qmgr is = settling_none q.qmgr x (settles_may q.qmgr x view is)
      by _ is = absurd cc

  settled_member : (q : MainPart) (view : View) → main_settled q x.to.block x ≡ Some view
      → (main_row q x.to.block x).state.master ≡ q.master
  unfolding main_row
  settled_member q view is = by x.to.block is
    where
      by : (b : BlockId) → main_settled q b x ≡ Some view → (main_row q b x).state.master ≡ q.master
      by block.Qmgr is = refl
      by _ is = absurd cc

  settles : (stood : View) (q : MainPart) (before : List Outgoing) → IsLeft host stood p.master q.master
      → AreNoOrders before → (view : View) → main_settled q x.to.block x ≡ Some view
      → SaysMain view (Main (main_entered (main_row q x.to.block x).state view).state)
      (before
      ++ ((main_row q x.to.block x).effects.sends ++ (main_entered (main_row q x.to.block x).state view).effects.sends))
  settles stood q before left front view is =
      let t = (main_row q x.to.block x).state in
      let now = (main_entered t view).state in
      let own = (main_row q x.to.block x).effects.sends in
      let installed = (qmgr_installed t.qmgr view).effects.sends in
      let same : t.master.member ≡ p.master.member =
      subst (λ (m : MasterState). m.member ≡ p.master.member) (sym (settled_member q view is))
      (left_member host stood p.master q.master left) in
      resting view now now before (own ++ installed) (inr (installs p.master t.master view same)) refl front
      (nothing_orders now.qmgr.known (own ++ installed)
      (each_append IsNoOrder own installed (settling q view is) (membership_installs_none t.qmgr view)))

  taken : (stood : View) (q : MainPart) (before : List Outgoing) → IsLeft host stood p.master q.master
      → AreNoOrders before → IsPassed host x stood → IsTaken SaysMain x stood (Main q) before
  unfolding main_row
  taken stood q before left front passed =
      record { row = λ none. by x.to.block refl; settles = settles stood q before left front }
    where
      by : (b : BlockId) → x.to.block ≡ b
          → SaysMain stood (Main (main_row q b x).state) (before ++ (main_row q b x).effects.sends)
      by block.Qmgr to =
          resting stood q (main_row q block.Qmgr x).state before (qmgr_row q.qmgr x).effects.sends left refl front
          (membership_orders q.qmgr x)
      by block.GcpMaster to = reached stood q before left front passed to
      by _ to = resting stood q q before [] left refl front tt

  hushed : (stood : View) (parts : Parts) (sends : List Outgoing) → SaysMain stood parts sends → SaysMain stood parts []
  hushed stood parts sends says = record { part = says.part; is = says.is; did = by says.did }
    where
      by : IsResting host stood p.master says.part sends ⊎ IsReached host x stood p.master says.part sends
          → IsResting host stood p.master says.part [] ⊎ IsReached host x stood p.master says.part []
      by (inl resting) = inl (record { left = resting.left; orders = tt })
      by (inr reached) =
          inr (record {
            passed = reached.passed;
            to = reached.to;
            before = reached.before;
            left = reached.left;
            is = reached.is;
            orders = tt;
          })

  walked : host.parts ≡ Main p → IsWalked SaysMain host x
  walked is =
      let sends = (main_entered p x.view).effects.sends in
      let installed : IsLeft host x.view p.master (main_entered p x.view).state.master =
      inr (installs p.master p.master x.view refl) in
      record {
        stays = subst (λ (parts : Parts). SaysMain host.standing.view parts []) (sym is)
            (resting host.standing.view p p [] [] (inl (refl, refl)) refl tt tt);
        hushed = hushed;
        goes = λ newer barred.
            subst (λ (parts : Parts). IsTaken SaysMain x host.standing.view parts []) (sym is)
            (taken host.standing.view p [] (inl (refl, refl)) tt (inr (newer, refl, barred)));
        enters = λ newer among.
            subst (λ (parts : Parts).
            SaysMain x.view (parts_entered parts x.view).state (parts_entered parts x.view).effects.sends)
            (sym is)
            (resting x.view (main_entered p x.view).state (main_entered p x.view).state [] sends installed refl tt
            (nothing_orders (main_entered p x.view).state.qmgr.known sends (membership_installs_none p.qmgr x.view)));
        behind = λ newer among barred.
            subst (λ (parts : Parts). IsTaken SaysMain x x.view (parts_entered parts x.view).state
            (parts_entered parts x.view).effects.sends) (sym is)
            (taken x.view (main_entered p x.view).state sends installed (membership_installs_none p.qmgr x.view)
            (inl (newer, refl)));
      }

  -- whatever signal it is
  pub main_steps : (h : ℕ) → host.parts ≡ Main p
      → SaysMain (told h (step_by h host x)).standing.view (told h (step_by h host x)).parts
      (step_by h host x).effects.sends
  main_steps h is = next_comes SaysMain x h host (walked is) tells
    where
      tells : (view : View) (parts : Parts) (sends : List Outgoing) → SaysMain view parts sends
          → SaysMain view (giving parts []) sends
      tells view parts sends says =
          subst (λ (q : Parts). SaysMain view (giving q []) sends) (sym says.is)
          (subst (λ (q : Parts). SaysMain view q sends) says.is says)
