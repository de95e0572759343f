-- The masters behind an event: the president of the current view says what is right, and the others do nothing.
use Rattle.std.proofs.Common.{◌≡◌, ◌≤◌, ◌<◌, ◌⊎◌, ℕ, List, [], ◌∷◌, refl, sym, ap, subst, ◌∙◌, inl, inr, arith}
use Rattle.std.proofs.lemmas.Bool.{cases_lt}
use Rattle.frag_map.specs.Layout.{first_layout}
use Rattle.run_theory.proofs.Pasts.{each_from}
use Rattle.run_theory.specs.Lists.{IsIn}
use Rattle.sig_core.specs.declared.member.Member.{Member}
use Rattle.sig_core.specs.declared.place.BlockId.{BlockId}
use Rattle.sig_core.specs.declared.place.BlockId.TheVariants as block
use Rattle.sig_core.specs.declared.place.Part.TheVariants.{Main}
use Rattle.sig_core.specs.declared.signal.Body.{Body}
use Rattle.sig_core.specs.declared.signal.Body.TheVariants.{Epoch}
use Rattle.sig_core.specs.declared.signal.epoch.EpochSignal.TheVariants.{GcpOrd}
use Rattle.sig_core.specs.declared.signal.Signal.{Signal}
use Rattle.sig_core.specs.declared.view.Shape.{Shape}
use Rattle.sig_core.specs.declared.view.View.{View}
use Rattle.gcp_master.specs.declared.phase.Phase.{Phase}
use Rattle.gcp_master.specs.declared.phase.Phase.TheVariants.{Gathering, Unordered}
use Rattle.gcp_master.specs.declared.voices.Voice.{Voice}
use Rattle.gcp_master.specs.Known.{nothing_known}
use Rattle.gcp_master.specs.Master.{fresh_master, master_row}
use Rattle.gcp_master.specs.Resume.{in_view}
use Rattle.gcp_master.specs.State.{MasterState}
use Rattle.gcp_master.proofs.Outcomes.{voice_of}
use Rattle.node_views.specs.Blocks.{parts_entered, parts_row}
use Rattle.node_views.specs.declared.host_body.HostBody as hosts
use Rattle.node_views.specs.declared.main_part.MainPart.{MainPart}
use Rattle.node_views.specs.declared.parts.Parts.{Parts}
use Rattle.node_views.specs.declared.parts.Parts.TheVariants as part
use Rattle.node_views.specs.Parts.{main_row}
use Rattle.world_core.specs.Start.{NobodyStarts, Start, made}
use Rattle.world_core.specs.Steps.{Addressed, HostStep}
use Rattle.world_views.specs.Machine.{after}
use Rattle.view_laws.specs.Runs.{view_after}
use Rattle.view_laws.specs.Votes.{main_of}
use Rattle.view_laws.proofs.follow.Hosts.{main_started}
use Rattle.view_laws.proofs.runs.FirstMembers.{main_same}
use Rattle.epoch_laws.specs.Masters.{IsRight, IsRightIn, IsSilent}
use Rattle.epoch_laws.specs.Members.{IsFirst, IsPresident, IsStanding, epochs_of, master_in, master_of}
use Rattle.moment_laws.specs.Places.{tc_of}
use Rattle.moment_laws.specs.Moments.{IsMoment, current, logs_of}
use Rattle.epoch_laws.specs.Stand.{AllStand}
use Rattle.epoch_laws.proofs.DihMoves.{Stays}
use Rattle.epoch_laws.proofs.MasterKeeps.{IsBefore, master_right}
use Rattle.epoch_laws.proofs.MasterKnows.{nothing_is_known}
use Rattle.epoch_laws.proofs.MasterMoves.{Moved, closes, closes_owed, commits, ends, goes_late, hears_finished}
use Rattle.epoch_laws.proofs.MasterMoves.{hears_prepared, is_ordered, learns, resumes, stays, takes_up}
use Rattle.epoch_laws.proofs.MasterMoves as moves
use Rattle.epoch_laws.proofs.MasterRows.{master_goes}
use Rattle.epoch_laws.proofs.MasterSpeaks.{installed}
use Rattle.epoch_laws.proofs.MemberStays.{right_stays}
use Rattle.epoch_laws.proofs.MomentEvents.{MasterDoes, enters, enters_takes, fenced_is, installs, master_does}
use Rattle.epoch_laws.proofs.MomentEvents.{order_told, takes, unmoved}
use Rattle.moment_laws.proofs.MomentHosts.{main_low, main_number, part_some, tc_apart, tc_number}
use Rattle.moment_laws.proofs.MomentMembers.{current_made}
use Rattle.moment_laws.proofs.MomentTurns.{Turn, current_rises, keeps, number_rises, raises, turn}
use Rattle.moment_laws.proofs.MomentViews.{current_above, current_number, moment_less, number_in, stands_in_current}
use Rattle.moment_laws.proofs.MomentWalk as walk
use Rattle.moment_laws.proofs.MomentWalk.{after_moves}
use Rattle.moment_laws.proofs.PartTaken.{IsTakenNow}
use Rattle.epoch_laws.proofs.OrderKeeps.{commit_keeps, prepare_keeps}
use Rattle.epoch_laws.proofs.StandMarks.{marks_by}
use Rattle.epoch_laws.proofs.StandTakes.{Carries, carries, others_same, taken_true, taker_made}
use Rattle.epoch_laws.proofs.StandTakes as took

-- A main host runs a master in its view, of its member.
record RunsMaster (member : Member) (parts : Parts) (view : View) : Type 0 where
  main : MainPart
  is : parts ≡ part.Main main
  view_is : main.master.view ≡ view
  member_is : main.master.member ≡ member

-- a step of a block leaves a master so
master_row_runs : (p : MainPart) (to : BlockId) (x : Signal)
    → ((main_row p to x).state.master.view ≡ p.master.view) × ((main_row p to x).state.master.member ≡ p.master.member)
unfolding main_row
master_row_runs p block.Qmgr x = (refl, refl)
master_row_runs p block.GcpMaster x = let goes = master_goes p.master x in (goes.view, goes.member)
master_row_runs p _ x = (refl, refl)

module _ (member : Member) where
  taken_runs : (parts : Parts) (view : View) (x : Signal) → RunsMaster member parts view
      → RunsMaster member (parts_row parts x).state view
  taken_runs parts view x runs =
      subst (λ (parts : Parts). RunsMaster member (parts_row parts x).state view) (sym runs.is)
      (let row = master_row_runs runs.main x.to.block x in
      record {
        main = (main_row runs.main x.to.block x).state;
        is = refl;
        view_is = row.0 ∙ runs.view_is;
        member_is = row.1 ∙ runs.member_is;
      })

  entered_runs : (parts : Parts) (view seen : View) → RunsMaster member parts view
      → RunsMaster member (parts_entered parts seen).state seen
  entered_runs parts view seen runs =
      subst (λ (parts : Parts). RunsMaster member (parts_entered parts seen).state seen) (sym runs.is)
      (let now = installed runs.main.master seen in
      record { main = _; is = refl; view_is = now.view_is; member_is = now.member ∙ runs.member_is })

  module _ (shape : Shape) (x : Signal) (now : Parts) (seen : View) where
    passes_run : (parts : Parts) (view : View) → RunsMaster member parts view
        → walk.Passes shape parts view x now seen → RunsMaster member now seen
    passes_run parts view runs (walk.leaves is stands) =
        subst (λ (parts : Parts). RunsMaster member parts seen) (sym is)
        (subst (RunsMaster member parts) (sym stands) runs)
    passes_run parts view runs (walk.takes passed none is stands) =
        subst (λ (parts : Parts). RunsMaster member parts seen) (sym is)
        (subst (RunsMaster member (parts_row parts x).state) (sym stands) (taken_runs parts view x runs))
    passes_run parts view runs (walk.settles passed settled is) =
        subst (λ (parts : Parts). RunsMaster member parts seen) (sym is)
        (entered_runs (parts_row parts x).state view seen (taken_runs parts view x runs))

    moves_run : (parts : Parts) (view : View) → RunsMaster member parts view
        → walk.Moves shape parts view x now seen → RunsMaster member now seen
    moves_run parts view runs (walk.plainly passes) = passes_run parts view runs passes
    moves_run parts view runs (walk.entering above passes) =
        passes_run (parts_entered parts x.view).state x.view (entered_runs parts view x.view runs) passes

module _ (start : Start) (nobody : NobodyStarts start) (member : Member) (there : IsIn member (made start)) where
  runs_master : (log : List HostStep)
      → RunsMaster member (after start (main_of start member) log).parts (view_after start (main_of start member) log)
  runs_master [] =
      subst (λ (s : hosts.HostBody). RunsMaster member s.parts s.standing.view)
      (sym (main_started start nobody member there))
      (record { main = _; is = refl; view_is = refl; member_is = refl })
  runs_master (e ∷ log) =
      let h = main_of start member in
      moves_run member start.shape e.step.taken (after start h (e ∷ log)).parts (view_after start h (e ∷ log))
      (after start h log).parts (view_after start h log) (runs_master log)
      (after_moves start nobody h (part_some start Main member) log e)

  -- so the master stands where its host does
  pub master_view : (logs : ℕ → List HostStep)
      → (master_of start logs member).view ≡ view_after start (main_of start member) (logs (main_of start member))
  master_view logs =
      let h = main_of start member in
      let runs = runs_master (logs h) in
      subst (λ (parts : Parts).
      (master_in (fresh_master member (first_layout start.shape).view 0) parts).view ≡ view_after start h (logs h))
      (sym runs.is) runs.view_is

-- a master that does nothing is ordered to go on, or does nothing
unordered_moves : (s : MasterState) (voice : Voice) (body : Body) (phase : Phase) (voices : List Voice)
    → s.phase ≡ Unordered → Moved s voice body phase voices
    → (phase ≡ Unordered)
    ⊎ ((body ≡ Epoch GcpOrd) × (phase ≡ Gathering nothing_known) × (voices ≡ []))
unordered_moves s voice body phase voices at (stays is heard) = inl (is ∙ at)
unordered_moves s voice body phase voices at (is_ordered ord was now none) = inr (ord, now, none)
unordered_moves s voice body phase voices at (learns known told says was new now more) = absurd cc
unordered_moves s voice body phase voices at (resumes known told says was new all goes none) = absurd cc
unordered_moves s voice body phase voices at (hears_prepared run says was new now more) = absurd cc
unordered_moves s voice body phase voices at (commits run says was new all now none) = absurd cc
unordered_moves s voice body phase voices at (hears_finished run says was new now more) = absurd cc
unordered_moves s voice body phase voices at (closes run says was new all now none) = absurd cc
unordered_moves s voice body phase voices at (closes_owed run was all now none) = absurd cc
unordered_moves s voice body phase voices at (goes_late run late now) = absurd (subst (moves.IsLate run) at late)
unordered_moves s voice body phase voices at (ends run late begins none) = absurd (subst (moves.IsLate run) at late)
unordered_moves s voice body phase voices at (takes_up epoch was begins none) = absurd cc

-- the first of a list is one member
pub first_same : (one other : Member) (members : List Member) → IsFirst one members → IsFirst other members
    → one ≡ other
first_same one other [] is is_too = absurd is
first_same one other (oldest ∷ members) is is_too = is ∙ sym is_too

pub first_inside : (member : Member) (members : List Member) → IsFirst member members → IsIn member members
first_inside member [] is = absurd is
first_inside member (oldest ∷ members) is = inl is

module _ (start : Start) (all : ℕ → List HostStep) (e : HostStep) (es : List HostStep)
    (moment : IsMoment start all (e ∷ es)) (stand : AllStand start (logs_of start es))
  where
    abbrev old : ℕ → List HostStep
    old = logs_of start es

    abbrev new : ℕ → List HostStep
    new = logs_of start (e ∷ es)

    abbrev x : Signal
    x = e.step.taken

    abbrev it : Addressed
    it = record { to = e.host; signal = x }

    -- of a member that was made
    module _ (p : Member) (there : IsIn p (made start)) where
      abbrev h : ℕ
      h = main_of start p

      abbrev was : MasterState
      was = master_of start old p

      abbrev is_now : MasterState
      is_now = master_of start new p

      abbrev Rose : Type 0
      Rose = number_in start old (main_of start p) < number_in start new (main_of start p)

      -- it does nothing, or is ordered by this event to go on, in the view that was current before
      pub data Quiet : Type 0 where
        unordered : is_now.phase ≡ Unordered → Quiet
        ordered : e.host ≡ main_of start p → IsTakenNow start all e es moment block.GcpMaster → x.body ≡ Epoch GcpOrd
            → is_now.phase ≡ Gathering nothing_known → is_now.voices ≡ [] → Quiet

      quiet_row : (s : MasterState) → s.phase ≡ Unordered → e.host ≡ main_of start p
          → IsTakenNow start all e es moment block.GcpMaster → is_now ≡ (master_row s x).state → Quiet
      quiet_row s at host taken is = by (unordered_moves s (voice_of x) x.body _ _ at (master_goes s x).moved)
        where
          by : ((master_row s x).state.phase ≡ Unordered)
              ⊎ ((x.body ≡ Epoch GcpOrd) × ((master_row s x).state.phase ≡ Gathering nothing_known)
              × ((master_row s x).state.voices ≡ [])) → Quiet
          by (inl none) = unordered (ap (λ (s : MasterState). s.phase) is ∙ none)
          by (inr (ord, now, none)) =
              ordered host taken ord (ap (λ (s : MasterState). s.phase) is ∙ now)
              (ap (λ (s : MasterState). s.voices) is ∙ none)

      view_same : is_now.view ≡ was.view → Rose → ⊥
      view_same same up =
          let one : (view_after start h (new h)).number ≡ (view_after start h (old h)).number =
          ap (λ (v : View). v.number) (sym (master_view start moment.cluster.nobody p there new) ∙ same ∙ master_view
          start moment.cluster.nobody p there old) in
          omega (arith, one, up)

      -- so it is where its host enters a view
      rose_quiet : Rose → Quiet
      rose_quiet up = by (master_does start all e es moment p)
        where
          by : MasterDoes start all e es moment p → Quiet
          by (unmoved is) = absurd (view_same (ap (λ (s : MasterState). s.view) is) up)
          by (installs at above between is) =
              unordered (ap (λ (s : MasterState). s.phase) is ∙ (installed between _).phase)
          by (enters at above is) = unordered (ap (λ (s : MasterState). s.phase) is ∙ (installed was x.view).phase)
          by (takes at taken is) =
              absurd (view_same (ap (λ (s : MasterState). s.view) is ∙ (master_goes was x).view) up)
          by (enters_takes at above taken is) = quiet_row (in_view was x.view) (installed was x.view).phase at taken is

      -- where it stands in the current view it entered it now, or stood in it before
      pub data Stood : Type 0 where
        rose : Rose → Stood
        stood : IsStanding start old p → current start new ≡ current start old → Stood

      pub stood_by : IsStanding start new p → Stood
      stood_by stands = by (cases_lt (number_in start old h) (number_in start new h))
        where
          by : (number_in start old h < number_in start new h) ⊎ (number_in start new h ≤ number_in start old h) → Stood
          by (inl up) = rose up
          by (inr low) =
              let above =
              current_above start old moment.cluster.nobody h (main_low start moment.cluster.nobody p there) in
              let rises = current_rises start all e es moment in
              let here : number_in start new h ≡ current_number start new = stands in
              stood (omega (arith, low, above, rises, here, number_rises start all e es moment h))
              (kept (turn start all e es moment))
            where
              kept : Turn start all e es moment → current start new ≡ current start old
              kept (keeps same stands) = same
              kept (raises above stands_too) =
                  absurd (omega (
                    arith,
                    low,
                    above,
                    current_above start old moment.cluster.nobody h
                        (main_low start moment.cluster.nobody p there),
                    stands,
                  ))

      -- its host takes no signal for epochs
      pub not_tc : e.host ≡ main_of start p → (m : Member) → e.host ≡ tc_of start m → ⊥
      not_tc at m at_too =
          let one = main_number start moment.cluster.nobody p there in
          let other = tc_number start moment.cluster.nobody m (taker_made start all e es moment stand m at_too) in
          omega (arith, at, at_too, one, other)

      -- who is ordered is the president
      pub ordered_first : e.host ≡ main_of start p → IsTakenNow start all e es moment block.GcpMaster
          → x.body ≡ Epoch GcpOrd → IsPresident start new p
      ordered_first at taken ord =
          let told =
          order_told start all e es moment block.GcpMaster taken GcpOrd ord
          (fenced_is start all e es moment GcpOrd ord refl) stand.signals in
          let first = told.is_true.0 in
          let member_made =
          current_made start all es (moment_less start all e es moment) x.member
          (first_inside x.member (current start old).full first) in
          let one : x.member ≡ p =
          main_same start moment.cluster.nobody x.member p member_made there (sym told.is_true.1 ∙ at) in
          subst (λ (v : View). IsFirst p v.full) (sym told.view)
          (subst (λ (m : Member). IsFirst m (current start old).full) one first)

      quiet_right : Quiet → IsRight start new is_now
      quiet_right (unordered none) = subst (IsRightIn start new is_now.voices) (sym none) tt
      quiet_right (ordered at taken ord phase none) =
          subst (IsRightIn start new is_now.voices) (sym phase)
          (subst (λ voices. IsRightIn start new voices (Gathering nothing_known)) (sym none)
          (nothing_is_known start new, (tt, tt)))

      quiet_unordered : (IsPresident start new p → ⊥) → Quiet → is_now.phase ≡ Unordered
      quiet_unordered other (unordered none) = none
      quiet_unordered other (ordered at taken ord phase none) = absurd (other (ordered_first at taken ord))

      -- the others do nothing
      pub others_next : (IsPresident start new p → ⊥) → IsStanding start new p → is_now.phase ≡ Unordered
      others_next other stands = by (stood_by stands)
        where
          not_before : current start new ≡ current start old → IsPresident start old p → ⊥
          not_before view first = other (subst (λ (v : View). IsFirst p v.full) (sym view) first)

          by : Stood → is_now.phase ≡ Unordered
          by (rose up) = quiet_unordered other (rose_quiet up)
          by (stood stands view) = did (master_does start all e es moment p)
            where
              did : MasterDoes start all e es moment p → is_now.phase ≡ Unordered
              did (unmoved is) = ap (λ (s : MasterState). s.phase) is ∙ stand.others p there (not_before view) stands
              did (installs at up between is) = quiet_unordered other (rose_quiet up)
              did (enters at up is) = quiet_unordered other (rose_quiet up)
              did (takes at taken is) =
                  quiet_unordered other (quiet_row was (stand.others p there (not_before view) stands) at taken is)
              did (enters_takes at up taken is) = quiet_unordered other (rose_quiet up)

      -- the president says what is right
      module _ (first : IsPresident start new p) where
        module _ (stands : IsStanding start old p) (view : current start new ≡ current start old) where
          first_old : IsPresident start old p
          first_old = subst (λ (v : View). IsFirst p v.full) view first

          right_old : IsRight start old was
          right_old = stand.president p first_old stands

          full_same : (current start old).full ≡ (current start new).full
          full_same = sym (ap (λ (v : View). v.full) view)

          pub before_it : IsBefore start old was
          before_it = record {
            view =
                ap (λ (v : View). v.full)
                (master_view start moment.cluster.nobody p there old
                ∙ stands_in_current start all es (moment_less start all e es moment) h
                (main_low start moment.cluster.nobody p there) stands);
            one = p;
            one_in = first_inside p (current start old).full first_old;
            apart = λ member inside.
                tc_apart start moment.cluster.nobody member
                (current_made start all es (moment_less start all e es moment) member inside);
            sound =
                each_from _ (current start old).full
                (λ member inside.
                stand.sound member (current_made start all es (moment_less start all e es moment) member inside));
            alike = stand.alike;
            right = right_old;
            silent = λ silent q is at.
                subst (λ (q : Member). IsSilent (master_of start old q).phase)
                (first_same p q (current start old).full first_old is) silent;
          }

          still_right : (s : MasterState)
              → ((member : Member) → Stays (epochs_of start old member) (epochs_of start new member))
              → IsRight start old s
              → IsRight start new s
          still_right s stay right = right_stays start old new stay full_same s.voices s.phase right

          -- where its host takes no signal for it
          unmoved_right : Carries start all e es moment stand → IsRight start new was
          unmoved_right (took.stay stay) = still_right was stay right_old
          unmoved_right (took.prepares m at inside same epoch next rises order late goes) =
              let q = master_of start old order.president in
              subst (λ (k : Member). IsRight start new (master_of start old k))
              (first_same order.president p (current start old).full order.is first_old)
              (prepare_keeps start old new m (others_same start all e es moment stand m at) full_same inside
              (marks_by start all e es moment stand m at) stand.alike epoch next rises late q.voices q.phase
              (stand.president order.president order.is order.stands) order.far goes).right
          unmoved_right (took.commits m at inside same epoch next rises order late goes) =
              let q = master_of start old order.president in
              subst (λ (k : Member). IsRight start new (master_of start old k))
              (first_same order.president p (current start old).full order.is first_old)
              (commit_keeps start old new m (others_same start all e es moment stand m at) full_same inside
              (marks_by start all e es moment stand m at) stand.alike epoch next rises late q.voices q.phase
              (stand.president order.president order.is order.stands) order.far goes).right

          -- all epochs stay where it takes one
          pub master_stays : e.host ≡ main_of start p → Carries start all e es moment stand → (member : Member)
              → Stays (epochs_of start old member) (epochs_of start new member)
          master_stays at (took.stay stay) = stay
          master_stays at (took.prepares m at_too inside same epoch next rises order late goes) =
              absurd (not_tc at m at_too)
          master_stays at (took.commits m at_too inside same epoch next rises order late goes) =
              absurd (not_tc at m at_too)

          stood_right : MasterDoes start all e es moment p → IsRight start new is_now
          stood_right (unmoved is) =
              subst (IsRight start new) (sym is) (unmoved_right (carries start all e es moment stand))
          stood_right (installs at up between is) = quiet_right (rose_quiet up)
          stood_right (enters at up is) = quiet_right (rose_quiet up)
          stood_right (takes at taken is) =
              subst (IsRight start new) (sym is)
              (still_right (master_row was x).state (master_stays at (carries start all e es moment stand))
              (master_right start old was it before_it (taken_true start all e es moment stand block.GcpMaster taken)))
          stood_right (enters_takes at up taken is) = quiet_right (rose_quiet up)

        pub right_next : IsStanding start new p → IsRight start new is_now
        right_next stands = by (stood_by stands)
          where
            by : Stood → IsRight start new is_now
            by (rose up) = quiet_right (rose_quiet up)
            by (stood was_there view) = stood_right was_there view (master_does start all e es moment p)

    -- so it is of the president of the current view
    pub president_next : (p : Member) → IsPresident start new p → IsStanding start new p
        → IsRight start new (master_of start new p)
    president_next p first =
        right_next p (current_made start all (e ∷ es) moment p (first_inside p (current start new).full first)) first
