-- An order to save an epoch, or to write it as durable, is of the phase in which the master of its host stands behind
-- the step; no other host sends one.
use Rattle.std.proofs.Common.{◌≡◌, ◌≤◌, ◌⊎◌, ◌∙◌, ◌++◌, ℕ, false, true, List, [], ◌∷◌, refl, sym, subst, inl, inr}
use Rattle.std.specs.Prelude.{Bool, Some}
use Rattle.run_theory.proofs.Pasts.{each_append, each_map}
use Rattle.run_theory.specs.Lists.{Each}
use Rattle.sig_core.specs.declared.mark.Mark.{Mark}
use Rattle.sig_core.specs.declared.outs.Outgoing.{Outgoing}
use Rattle.sig_core.specs.declared.place.BlockId.{BlockId}
use Rattle.sig_core.specs.declared.place.BlockId.TheVariants as block
use Rattle.sig_core.specs.declared.signal.Body.{Body}
use Rattle.sig_core.specs.declared.signal.Body.TheVariants.{Epoch}
use Rattle.sig_core.specs.declared.signal.Signal.{Signal}
use Rattle.sig_core.specs.declared.signal.epoch.EpochSignal.TheVariants.{CopyGciReq, GcpSaveReq}
use Rattle.sig_core.specs.declared.view.View.{View}
use Rattle.sig_core.specs.Step.{Step}
use Rattle.gcp_master.specs.declared.phase.Phase.{Phase}
use Rattle.gcp_master.specs.declared.phase.Phase.TheVariants.{Copying, Saving}
use Rattle.gcp_master.specs.Master.{master_row}
use Rattle.gcp_master.specs.Orders.{mask_of}
use Rattle.gcp_master.specs.Sends.{listing}
use Rattle.gcp_master.specs.State.{MasterState}
use Rattle.gcp_master.proofs.Outcomes.{walking}
use Rattle.gcp_master.proofs.Walk.{listing_does, listing_state, master_steps, walking_does}
use Rattle.node_views.specs.declared.main_part.MainPart.{MainPart}
use Rattle.node_views.specs.declared.parts.Parts.{Parts}
use Rattle.node_views.specs.declared.parts.Parts.TheVariants as part
use Rattle.node_views.specs.Parts.{main_entered, main_row, main_settled}
use Rattle.node_views.specs.Words.{parts_words}
use Rattle.qmgr_block.specs.Qmgr.{qmgr_installed, qmgr_row}
use Rattle.qmgr_block.specs.State.{QmgrState}
use Rattle.qmgr_block.specs.Words.{is_qmgr_word}
use Rattle.qmgr_block.proofs.Walk.{qmgr_words}
use Rattle.step_forms.specs.Does.{IsWord}
use Rattle.world_core.specs.Start.{NobodyStarts, Start}
use Rattle.world_core.specs.Steps.{HostStep}
use Rattle.world_views.specs.Machine.{after, step_after}
use Rattle.world_views.proofs.StepEach.{step_words}
use Rattle.view_laws.specs.Runs.{view_after}
use Rattle.moment_laws.specs.Parts.{Enters, PartsDo, Takes, enters, leaves, settles, stays, takes}
use Rattle.moment_laws.proofs.PartSteps.{after_do}
use Rattle.closing_laws.proofs.closers.Others.{HasNoMaster}

-- such an order
abbrev pub is_late : Body → Bool
is_late (Epoch (GcpSaveReq epoch)) = true
is_late (Epoch (CopyGciReq epoch mask)) = true
is_late body = false

abbrev pub IsNotLate : Outgoing → Type 0
IsNotLate sent = is_late sent.body ≡ false

abbrev pub AreNotLate : List Outgoing → Type 0
AreNotLate sends = Each IsNotLate sends

-- the phase in which it is due
abbrev pub Saves : ℕ → Phase → Type 0
Saves epoch (Saving run) = epoch ≡ run.epoch
Saves epoch phase = ⊥

abbrev pub Copies : ℕ → Phase → Type 0
Copies epoch (Copying run) = epoch ≡ run.epoch
Copies epoch phase = ⊥

-- what a master so may order of that
abbrev pub MayOrder : MasterState → Body → Type 0
MayOrder s (Epoch (GcpSaveReq epoch)) = Saves epoch s.phase
MayOrder s (Epoch (CopyGciReq epoch mask)) = Copies epoch s.phase × (mask ≡ mask_of s.view.full)
MayOrder s body = Unit {0}

abbrev pub MayOrderAll : MasterState → List Outgoing → Type 0
MayOrderAll s sends = Each (λ (sent : Outgoing). MayOrder s sent.body) sends

late_none : (s : MasterState) (body : Body) → is_late body ≡ false → MayOrder s body
late_none s (Epoch (GcpSaveReq epoch)) none = absurd cc
late_none s (Epoch (CopyGciReq epoch mask)) none = absurd cc
late_none s body none = tt

none_late : (s : MasterState) (sends : List Outgoing) → AreNotLate sends → MayOrderAll s sends
none_late s sends none =
    each_map IsNotLate (λ (sent : Outgoing). MayOrder s sent.body) sends
    (λ sent is. late_none s sent.body is) none

abbrev OrdersOf : Step MasterState → Type 0
OrdersOf step = MayOrderAll step.state step.effects.sends

-- what is sent of a list
lists : (s : MasterState) (at : ℕ) → OrdersOf (listing s at)
lists s at = listing_state s at (λ t. MayOrderAll t (listing s at).effects.sends) orders orders
  where
    orders : MayOrderAll s (listing s at).effects.sends
    orders =
        (listing_does s at (λ (sent : Outgoing). MayOrder s sent.body) (λ (mark : Mark). Unit {0}) (record {
          asks = λ known to member is one there. tt;
          prepares = λ run member is there. tt;
          commits = λ run member is there. tt;
          closes = λ run to member is one there. tt;
          saves = λ run member is there. subst (Saves run.epoch) (sym is) refl;
          copies = λ run member is there. (subst (Copies run.epoch) (sym is) refl, refl);
          tells_micro = λ epoch is. tt;
          tells_global = λ epoch copy local is. tt;
          tells_members = λ epoch copy local to member is one there. tt;
          tells_copying = λ epoch local is. tt;
          switches = λ epoch copy member is there. tt;
          goes_on = λ left. tt;
        })).0

-- whatever a master takes
pub master_orders : (s : MasterState) (x : Signal) → OrdersOf (master_row s x)
master_orders s x =
    master_steps s x OrdersOf (record {
      stays = λ t. tt;
      stops = λ t. tt;
      lists = λ t at member view. lists t at;
      closes = λ run t member view at is. lists t 0;
      makes_durable = λ run step is at on all orders. orders;
      walks = λ is at first.
          (walking_does s (λ (sent : Outgoing). MayOrder (walking s).state sent.body) (λ (mark : Mark). Unit {0})
          (λ member there. tt)).0;
      tells_local = λ epoch is at. (tt, tt);
    })

-- a membership orders none
membership_words : (body : Body) → is_qmgr_word body ≡ true → is_late body ≡ false
membership_words (Epoch (GcpSaveReq epoch)) word = absurd cc
membership_words (Epoch (CopyGciReq epoch mask)) word = absurd cc
membership_words body word = refl

membership_late : (q : QmgrState) (x : Signal) → AreNotLate (qmgr_row q x).effects.sends
membership_late q x =
    each_map (IsWord is_qmgr_word) IsNotLate (qmgr_row q x).effects.sends (λ sent. membership_words sent.body)
    (qmgr_words.at_signals q x).0

installed_late : (q : QmgrState) (view : View) → AreNotLate (qmgr_installed q view).effects.sends
installed_late q view =
    each_map (IsWord is_qmgr_word) IsNotLate (qmgr_installed q view).effects.sends
    (λ sent. membership_words sent.body) (qmgr_words.at_installations q view).0

-- the parts of a main host, and what they send
record IsOrdering (now : Parts) (sends : List Outgoing) : Type 0 where
  own : MainPart
  is : now ≡ part.Main own
  orders : MayOrderAll own.master sends

record IsMain (now : Parts) : Type 0 where
  own : MainPart
  is : now ≡ part.Main own

module _ (start : Start) (x : Signal) where
  entered : (p : MainPart) (view : View) (between : Parts) (stood : View) (front : List Outgoing)
      → Enters (part.Main p) view x between stood front → IsMain between × AreNotLate front
  entered p view between stood front (stays same stands none) =
      (record { own = p; is = same }, subst AreNotLate (sym none) tt)
  entered p view between stood front (enters above same stands sends) = (
    record { own = (main_entered p x.view).state; is = same },
    subst AreNotLate (sym sends) (installed_late p.qmgr x.view),
  )

  row_orders : (q : MainPart) (b : BlockId)
      → MayOrderAll (main_row q b x).state.master (main_row q b x).effects.sends
  unfolding main_row
  row_orders q block.Qmgr = none_late q.master (qmgr_row q.qmgr x).effects.sends (membership_late q.qmgr x)
  row_orders q block.GcpMaster = master_orders q.master x
  row_orders q _ = tt

  settles_late : (q : MainPart) (view : View) (b : BlockId) → main_settled q b x ≡ Some view
      → AreNotLate (main_row q b x).effects.sends
  unfolding main_row
  settles_late q view block.Qmgr is = membership_late q.qmgr x
  settles_late q view _ is = absurd cc

  took : (q : MainPart) (stood : View) (now : Parts) (seen : View) (rest : List Outgoing)
      → Takes start.shape (part.Main q) stood x now seen rest → IsOrdering now rest
  took q stood now seen rest (leaves same standing none) =
      record { own = q; is = same; orders = subst (MayOrderAll q.master) (sym none) tt }
  took q stood now seen rest (takes passed none same standing sends) =
      let row = main_row q x.to.block x in
      record {
        own = row.state;
        is = same;
        orders = subst (MayOrderAll row.state.master) (sym sends) (row_orders q x.to.block);
      }
  took q stood now seen rest (settles passed settled same sends) =
      let row = main_row q x.to.block x in
      let later = main_entered row.state seen in
      record {
        own = later.state;
        is = same;
        orders =
            subst (MayOrderAll later.state.master) (sym sends)
            (none_late later.state.master (row.effects.sends ++ later.effects.sends)
            (each_append IsNotLate row.effects.sends later.effects.sends (settles_late q seen x.to.block settled)
            (installed_late row.state.qmgr seen)));
      }

-- so it is along a log: the master behind the step
module _ (start : Start) (nobody : NobodyStarts start) (h : ℕ) (some : 1 ≤ h) (log : List HostStep) (e : HostStep)
    (p : MainPart)
    (runs : (after start h log).parts ≡ part.Main p)
  where
    abbrev x : Signal
    x = e.step.taken

    abbrev sends : List Outgoing
    sends = (step_after start h log e).effects.sends

    abbrev now : Parts
    now = (after start h (e ∷ log)).parts

    abbrev stood : View
    stood = view_after start h (e ∷ log)

    did : PartsDo start.shape (part.Main p) (view_after start h log) x now stood sends
    did =
        subst (λ parts. PartsDo start.shape parts (view_after start h log) x now stood sends) runs
        (after_do start nobody h some log e)

    pub main_orders : (own : MainPart) → now ≡ part.Main own → MayOrderAll own.master sends
    main_orders own is = subst (λ (q : MainPart). MayOrderAll q.master sends) same (by did.sent)
      where
        between : IsMain did.between × AreNotLate did.front
        between = entered start x p (view_after start h log) did.between did.stood did.front did.enters

        behind : IsOrdering now did.rest
        behind =
            took start x between.0.own did.stood now stood did.rest
            (subst (λ parts. Takes start.shape parts did.stood x now stood did.rest) between.0.is did.takes)

        same : behind.own ≡ own
        same = let both : part.Main behind.own ≡ part.Main own = sym behind.is ∙ is in cc

        by : (sends ≡ did.front ++ did.rest) ⊎ (sends ≡ []) → MayOrderAll behind.own.master sends
        by (inl whole) =
            subst (MayOrderAll behind.own.master) (sym whole)
            (each_append (λ (sent : Outgoing). MayOrder behind.own.master sent.body) did.front did.rest
            (none_late behind.own.master did.front between.1) behind.orders)
        by (inr nothing) = subst (MayOrderAll behind.own.master) (sym nothing) tt

-- hosts of other parts order none
other_words : (parts : Parts) → HasNoMaster parts → (body : Body) → parts_words parts body ≡ true
    → is_late body ≡ false
other_words (part.Main p) none body word = absurd none
other_words (part.Shell p) none (Epoch (GcpSaveReq epoch)) word = absurd cc
other_words (part.Shell p) none (Epoch (CopyGciReq epoch mask)) word = absurd cc
other_words (part.Shell p) none body word = refl
other_words (part.Tc p) none (Epoch (GcpSaveReq epoch)) word = absurd cc
other_words (part.Tc p) none (Epoch (CopyGciReq epoch mask)) word = absurd cc
other_words (part.Tc p) none body word = refl
other_words (part.Ldm p) none (Epoch (GcpSaveReq epoch)) word = absurd cc
other_words (part.Ldm p) none (Epoch (CopyGciReq epoch mask)) word = absurd cc
other_words (part.Ldm p) none body word = refl

pub others_late : (start : Start) (h : ℕ) (log : List HostStep) (e : HostStep) → HasNoMaster (after start h log).parts
    → AreNotLate (step_after start h log e).effects.sends
others_late start h log e none =
    (step_words (λ body. is_late body ≡ false) (λ (mark : Mark). Unit {0}) h (after start h log) e.step.taken
    (other_words (after start h log).parts none) (λ mark is. tt)).0
