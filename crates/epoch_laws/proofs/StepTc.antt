-- What a step of a host with a coordinator does of the epochs of its member, and what it sends of them.
use Rattle.std.proofs.Common.{◌≡◌, ◌⊎◌, ◌∙◌, ◌++◌, ◌≤◌, ◌<◌, ℕ, true, false, nat_lt, List, [], refl, sym, subst, inl}
use Rattle.std.proofs.Common.{inr}
use Rattle.run_theory.specs.Lists.{Each}
use Rattle.run_theory.proofs.Pasts.{each_append, each_map}
use Rattle.sig_core.specs.declared.outs.Outgoing.{Outgoing}
use Rattle.sig_core.specs.declared.place.BlockId.{BlockId}
use Rattle.sig_core.specs.declared.place.BlockId.TheVariants as block
use Rattle.sig_core.specs.declared.signal.Body.{Body}
use Rattle.sig_core.specs.declared.signal.Body.TheVariants.{Epoch}
use Rattle.sig_core.specs.declared.signal.Signal.{Signal}
use Rattle.sig_core.specs.declared.signal.epoch.EpochSignal.TheVariants.{GcpCommit, GcpNodeFinish, GcpOrd, GcpPrepare}
use Rattle.sig_core.specs.declared.signal.epoch.EpochSignal.TheVariants.{GcpPrepareConf, GcpStateConf}
use Rattle.sig_core.specs.declared.view.View.{View}
use Rattle.dih_node.specs.Dih.{dih_row}
use Rattle.dih_node.specs.State.{DihState}
use Rattle.node_views.specs.Blocks.{parts_entered}
use Rattle.node_views.specs.declared.host_body.HostBody as hosts
use Rattle.node_views.specs.declared.parts.Parts.{Parts}
use Rattle.node_views.specs.declared.parts.Parts.TheVariants.{Tc}
use Rattle.node_views.specs.declared.tc_part.TcPart.{TcPart}
use Rattle.node_views.specs.Parts.{tc_entered, tc_row}
use Rattle.node_views.specs.Replies.{giving}
use Rattle.node_views.specs.Row.{is_barred}
use Rattle.takeover_block.specs.Takeover.{takeover_row}
use Rattle.tc_views.specs.Coordinator.{coordinator_row}
use Rattle.world_views.specs.Machine.{step_by, told}
use Rattle.epoch_laws.specs.Alike.{IsSound}
use Rattle.epoch_laws.proofs.DihMoves.{IsAt, Moves, Stays, dih_installs_stay, dih_moves, rests}
use Rattle.epoch_laws.proofs.DihRows.{Rises, dih_installs_sound, dih_sound}
use Rattle.epoch_laws.proofs.DihSends.{TellsOf, dih_tells}
use Rattle.epoch_laws.proofs.SentKinds.{coordinator_none, takeover_none}
use Rattle.epoch_laws.proofs.SentNone.{AreNoOrders, IsNoOrder, is_order}
use Rattle.epoch_laws.proofs.SentParts.{entered_none}
use Rattle.world_views.proofs.StepWalk.{IsTaken, IsWalked, Saying, next_comes}

-- The blocks of a host take the signal, where it stands in this view behind it: the signal's own, which is greater, or
-- the one before, where the signal isn't below their fence.
abbrev pub IsPassed : hosts.HostBody → Signal → View → Type 0
IsPassed s x stood =
    ((nat_lt s.standing.view.number x.view.number ≡ true) × (stood ≡ x.view))
    ⊎ ((nat_lt s.standing.view.number x.view.number ≡ false) × (stood ≡ s.standing.view) × (is_barred s x ≡ false))

-- nothing comes to the epochs but that a view is installed
pub record IsLeft (s now : DihState) (sends : List Outgoing) : Type 0 where
  pub stays : Stays s now
  pub none : AreNoOrders sends

-- they take the signal
pub record IsReached (host : hosts.HostBody) (x : Signal) (stood : View) (s now : DihState) (sends : List Outgoing)
    : Type 0
  where
    pub passed : IsPassed host x stood
    pub to : x.to.block ≡ block.Dih
    pub moves : Moves s x.body now
    pub tells : Rises x.body → IsSound s → Each (λ sent. TellsOf s x.body now sent.body) sends

pub record IsStepOfTc (host : hosts.HostBody) (x : Signal) (p : TcPart) (stood : View) (now : Parts)
    (sends : List Outgoing)
    : Type 0 where
  pub part : TcPart
  pub is : now ≡ Tc part
  pub sound : Rises x.body → IsSound p.dih → IsSound part.dih
  pub did : IsLeft p.dih part.dih sends ⊎ IsReached host x stood p.dih part.dih sends

-- what is so from where a view was installed is so from before
pub moves_from : (s t now : DihState) (body : Body) → Stays s t → Moves t body now → Moves s body now
moves_from s t now body same moves = by body moves
  where
    at : IsAt t.current t.prepared t.next now → Stays s now
    at is = record {
      current_is = is.current_is ∙ same.current_is;
      prepared_is = is.prepared_is ∙ same.prepared_is;
      next_is = is.next_is ∙ same.next_is;
    }

    by : (body : Body) → Moves t body now → Moves s body now
    by (Epoch (GcpPrepare epoch next)) (inl (ahead, is)) = inl (
      subst (λ n. n ≤ epoch) same.current_is ahead,
      subst (λ n. IsAt n epoch next now) same.current_is is,
    )
    by (Epoch (GcpPrepare epoch next)) (inr (late, stays)) = inr (subst (λ n. epoch < n) same.current_is late, at stays)
    by (Epoch (GcpCommit epoch next)) (inl (ahead, is)) = inl (subst (λ n. n ≤ epoch) same.current_is ahead, is)
    by (Epoch (GcpCommit epoch next)) (inr (late, stays)) = inr (subst (λ n. epoch < n) same.current_is late, at stays)
    by body stays = at stays

tells_from : (s t now : DihState) (asked : Body) → Stays s t → (sent : Outgoing) → TellsOf t asked now sent.body
    → TellsOf s asked now sent.body
tells_from s t now asked same sent tells = by sent.body tells
  where
    by : (body : Body) → TellsOf t asked now body → TellsOf s asked now body
    by (Epoch (GcpStateConf current prepared next closed saved durable)) (was, is) = (
      record {
        current_is = sym same.current_is ∙ was.current_is;
        prepared_is = sym same.prepared_is ∙ was.prepared_is;
        next_is = sym same.next_is ∙ was.next_is;
      },
      is,
    )
    by body tells = tells

-- what is no order tells nothing
none_tells : (s now : DihState) (asked : Body) (sent : Outgoing) → IsNoOrder sent → TellsOf s asked now sent.body
none_tells s now asked sent none = by sent.body none
  where
    by : (body : Body) → is_order body ≡ false → TellsOf s asked now body
    by (Epoch (GcpPrepare epoch next)) none = absurd cc
    by (Epoch (GcpPrepareConf epoch)) none = absurd cc
    by (Epoch (GcpCommit epoch next)) none = absurd cc
    by (Epoch (GcpNodeFinish epoch)) none = absurd cc
    by (Epoch GcpOrd) none = absurd cc
    by (Epoch (GcpStateConf current prepared next closed saved durable)) none = absurd cc
    by body none = tt

module _ (host : hosts.HostBody) (x : Signal) (p : TcPart) where
  abbrev SaysTc : Saying
  SaysTc = IsStepOfTc host x p

  -- of a part in which a view may have been installed
  record IsFrom (q : TcPart) : Type 0 where
    stays : Stays p.dih q.dih
    sound : IsSound p.dih → IsSound q.dih

  quiet : (stood : View) (q now : TcPart) (before sends : List Outgoing) → IsFrom q → now.dih ≡ q.dih
      → AreNoOrders before → AreNoOrders sends → SaysTc stood (Tc now) (before ++ sends)
  quiet stood q now before sends from same front none = record {
    part = now;
    is = refl;
    sound = λ rises sound. subst IsSound (sym same) (from.sound sound);
    did =
        inl (record {
          stays = subst (λ (t : DihState). Stays p.dih t) (sym same) from.stays;
          none = each_append IsNoOrder before sends front none;
        });
  }

  reached : (stood : View) (q : TcPart) (before : List Outgoing) → IsFrom q → AreNoOrders before
      → IsPassed host x stood → x.to.block ≡ block.Dih
      → SaysTc stood (Tc (tc_row q block.Dih x).state) (before ++ (dih_row q.dih x).effects.sends)
  unfolding tc_row
  reached stood q before from front passed to =
      let now = (dih_row q.dih x).state in
      record {
        part = (tc_row q block.Dih x).state;
        is = refl;
        sound = λ rises sound. dih_sound q.dih x rises (from.sound sound);
        did =
            inr (record {
              passed = passed;
              to = to;
              moves = moves_from p.dih q.dih now x.body from.stays (dih_moves q.dih x);
              tells = λ rises sound.
                  each_append (λ (sent : Outgoing). TellsOf p.dih x.body now sent.body) before
                  (dih_row q.dih x).effects.sends
                  (each_map IsNoOrder (λ (sent : Outgoing). TellsOf p.dih x.body now sent.body) before
                  (none_tells p.dih now x.body) front)
                  (each_map (λ (sent : Outgoing). TellsOf q.dih x.body now sent.body)
                  (λ (sent : Outgoing). TellsOf p.dih x.body now sent.body) (dih_row q.dih x).effects.sends
                  (tells_from p.dih q.dih now x.body from.stays)
                  (dih_tells q.dih x rises (from.sound sound)));
            });
      }

  taken : (stood : View) (q : TcPart) (before : List Outgoing) → IsFrom q → AreNoOrders before
      → IsPassed host x stood → IsTaken SaysTc x stood (Tc q) before
  unfolding tc_row
  taken stood q before from front passed =
      record { row = λ none. by x.to.block refl; settles = λ view is. absurd cc }
    where
      by : (b : BlockId) → x.to.block ≡ b
          → SaysTc stood (Tc (tc_row q b x).state) (before ++ (tc_row q b x).effects.sends)
      by block.Dih to = reached stood q before from front passed to
      by block.Tc to =
          quiet stood q (tc_row q block.Tc x).state before (coordinator_row q.coordinator x).effects.sends from refl
          front (coordinator_none q.coordinator x)
      by block.Takeover to =
          quiet stood q (tc_row q block.Takeover x).state before (takeover_row q.takeover x).effects.sends from refl
          front (takeover_none q.takeover x)
      by _ to = quiet stood q q before [] from refl front tt

  unmoved : IsFrom p
  unmoved = record { stays = rests p.dih; sound = λ sound. sound }

  entered : IsFrom (tc_entered p x.view).state
  entered = record {
    stays = dih_installs_stay p.dih x.view.number;
    sound = dih_installs_sound p.dih x.view.number;
  }

  hushed : (stood : View) (parts : Parts) (sends : List Outgoing) → SaysTc stood parts sends → SaysTc stood parts []
  hushed stood parts sends says = record {
    part = says.part;
    is = says.is;
    sound = says.sound;
    did = by says.did;
  }
    where
      by : IsLeft p.dih says.part.dih sends ⊎ IsReached host x stood p.dih says.part.dih sends
          → IsLeft p.dih says.part.dih [] ⊎ IsReached host x stood p.dih says.part.dih []
      by (inl left) = inl (record { stays = left.stays; none = tt })
      by (inr reached) =
          inr (record {
            passed = reached.passed;
            to = reached.to;
            moves = reached.moves;
            tells = λ rises sound. tt;
          })

  walked : host.parts ≡ Tc p → IsWalked SaysTc host x
  walked is = record {
    stays = subst (λ (parts : Parts). SaysTc host.standing.view parts []) (sym is)
        (quiet host.standing.view p p [] [] unmoved refl tt tt);
    hushed = hushed;
    goes = λ newer barred.
        subst (λ (parts : Parts). IsTaken SaysTc x host.standing.view parts []) (sym is)
        (taken host.standing.view p [] unmoved tt (inr (newer, refl, barred)));
    enters = λ newer among.
        subst (λ (parts : Parts). SaysTc x.view (parts_entered parts x.view).state
        (parts_entered parts x.view).effects.sends)
        (sym is)
        (quiet x.view (tc_entered p x.view).state (tc_entered p x.view).state []
        (tc_entered p x.view).effects.sends entered refl tt (entered_none (Tc p) x.view));
    behind = λ newer among barred.
        subst (λ (parts : Parts). IsTaken SaysTc x x.view (parts_entered parts x.view).state
        (parts_entered parts x.view).effects.sends) (sym is)
        (taken x.view (tc_entered p x.view).state (tc_entered p x.view).effects.sends entered
        (entered_none (Tc p) x.view) (inl (newer, refl)));
  }

  -- whatever signal it is
  pub tc_steps : (h : ℕ) → host.parts ≡ Tc p
      → SaysTc (told h (step_by h host x)).standing.view (told h (step_by h host x)).parts
      (step_by h host x).effects.sends
  tc_steps h is = next_comes SaysTc x h host (walked is) tells
    where
      tells : (view : View) (parts : Parts) (sends : List Outgoing) → SaysTc view parts sends
          → SaysTc view (giving parts []) sends
      tells view parts sends says =
          subst (λ (q : Parts). SaysTc view (giving q []) sends) (sym says.is)
          (subst (λ (q : Parts). SaysTc view q sends) says.is says)
