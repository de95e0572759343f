-- A master owes no takeover in the first view, and later where it was told, in its view, that the takeover of its
-- member is over.
use Rattle.std.proofs.Common.{◌<◌, ◌≡◌, ◌≤◌, ◌⊎◌, ◌||◌, ◌==◌, ◌&&◌, ℕ, Bool, true, false, List, [], ◌∷◌, refl, sym, ap}
use Rattle.std.proofs.Common.{subst, ◌∙◌, inl, inr, eq-eqb}
use Rattle.std.proofs.lemmas.Bool.{true≢false}
use Rattle.std.specs.Prelude.{if◌then◌else◌, not}
use Rattle.frag_map.specs.Layout.{first_layout}
use Rattle.run_theory.specs.Links.{taken}
use Rattle.run_theory.specs.Lists.{IsIn}
use Rattle.run_theory.specs.Machine.{Machine}
use Rattle.run_theory.proofs.EventCases.{event_keeps}
use Rattle.sig_core.specs.declared.member.Member.{Member}
use Rattle.sig_core.specs.declared.place.BlockId.{BlockId}
use Rattle.sig_core.specs.declared.place.BlockId.TheVariants as block
use Rattle.sig_core.specs.declared.signal.Body.TheVariants.{Host, Takeover}
use Rattle.sig_core.specs.declared.signal.Signal.{Signal}
use Rattle.sig_core.specs.declared.signal.host.HostSignal.TheVariants.{Closed}
use Rattle.sig_core.specs.declared.signal.takeover.TakeoverSignal.TheVariants.{TakeoverEnd}
use Rattle.sig_core.specs.declared.view.View.{View}
use Rattle.gcp_master.specs.Master.{fresh_master, master_row}
use Rattle.gcp_master.specs.Resume.{in_view}
use Rattle.gcp_master.specs.State.{MasterState}
use Rattle.node_views.specs.declared.host_body.HostBody as node
use Rattle.node_views.specs.Fence.{is_body_fenced, is_fenced}
use Rattle.node_views.specs.WellFormed.{is_well_formed}
use Rattle.world_core.specs.Start.{Start, made}
use Rattle.world_core.specs.Steps.{Addressed, HostStep}
use Rattle.world_views.specs.Machine.{IsOwnWork, machine}
use Rattle.world_views.specs.Sending.{is_asked, is_own_work}
use Rattle.view_laws.specs.Order.{sound_machine}
use Rattle.view_laws.specs.Runs.{view_after}
use Rattle.view_laws.specs.Votes.{main_of}
use Rattle.view_laws.proofs.follow.Hosts.{main_started}
use Rattle.moment_laws.specs.Moments.{IsMoment, current, logs_of}
use Rattle.moment_laws.specs.Places.{tc_of}
use Rattle.moment_laws.proofs.MomentSignals.{EachSent, taken_told}
use Rattle.moment_laws.proofs.MomentTurns.{own_behind, own_log}
use Rattle.moment_laws.proofs.MomentViews.{moment_less}
use Rattle.moment_laws.proofs.PartTaken.{IsTakenNow}
use Rattle.epoch_laws.specs.Members.{master_in, master_of}
use Rattle.epoch_laws.proofs.MasterRows.{master_goes}
use Rattle.epoch_laws.proofs.MomentEvents.{MasterDoes, enters, enters_takes, installs, master_does, takes, unmoved}
use Rattle.epoch_laws.proofs.StandMasters.{master_view}
use Rattle.closing_laws.proofs.takeover.MastersOwe.{installed_owes, master_owes}

-- the end of a takeover comes from that of the member to its own master
pub record IsOfTakeover (start : Start) (y : Addressed) : Type 0 where
  pub from : y.signal.from.0 ≡ tc_of start y.signal.member
  pub own : (member : Member) → IsIn member (made start) → y.to ≡ main_of start member → y.signal.member ≡ member

abbrev pub IsOverTrue : Start → Addressed → Type 0
IsOverTrue start y = y.signal.body ≡ Takeover TakeoverEnd → IsOfTakeover start y

-- so it is of all that is sent
abbrev pub EndsAreOwn : Type 0
EndsAreOwn =
    (start : Start) (all : ℕ → List HostStep) (es : List HostStep) → start.start_epoch < start.epoch
    → IsMoment start all es → EachSent start (IsOverTrue start) (logs_of start es)

-- the master was told in the view of this number
pub record IsToldOver (start : Start) (logs : ℕ → List HostStep) (member : Member) (number : ℕ) : Type 0 where
  pub signal : Addressed
  pub there : IsIn signal (taken (sound_machine start) (tc_of start member) (logs (main_of start member)))
  pub body : signal.signal.body ≡ Takeover TakeoverEnd
  pub number_is : signal.signal.view.number ≡ number

abbrev pub IsOverIn : Start → (ℕ → List HostStep) → Member → View → Type 0
IsOverIn start logs member view =
    (view ≡ (first_layout start.shape).view) ⊎ IsToldOver start logs member view.number

abbrev pub AreOver : Start → (ℕ → List HostStep) → Type 0
AreOver start logs =
    (member : Member) → IsIn member (made start) → (master_of start logs member).owed ≡ false
    → IsOverIn start logs member (master_of start logs member).view

-- what was taken stays taken, and what a link gives is
module _ (m : Machine HostStep Addressed) where
  pub taken_more : (i : ℕ) (log : List HostStep) (e : HostStep) (y : Addressed) → IsIn y (taken m i log)
      → IsIn y (taken m i (e ∷ log))
  taken_more i log e y there = by (not (m.asked e) && (m.from (m.signal e) == i))
    where
      by : (b : Bool) → IsIn y (if b then m.signal e ∷ taken m i log else taken m i log)
      by true = inr there
      by false = there

  pub taken_own : (i : ℕ) (log : List HostStep) (e : HostStep) → m.asked e ≡ false → m.from (m.signal e) ≡ i
      → IsIn (m.signal e) (taken m i (e ∷ log))
  taken_own i log e unasked from =
      by (m.asked e) (m.from (m.signal e) == i) unasked (eq-eqb (m.from (m.signal e)) i from)
    where
      by : (a b : Bool) → a ≡ false → b ≡ true
          → IsIn (m.signal e) (if not a && b then m.signal e ∷ taken m i log else taken m i log)
      by false true is at = inl refl
      by false false is at = absurd (true≢false (sym at))
      by true b is at = absurd (true≢false is)

module _ (own : EndsAreOwn) (start : Start) (all : ℕ → List HostStep) (e : HostStep) (es : List HostStep)
    (begins : start.start_epoch < start.epoch) (moment : IsMoment start all (e ∷ es))
    (over : AreOver start (logs_of start es))
  where
    abbrev old : ℕ → List HostStep
    old = logs_of start es

    abbrev new : ℕ → List HostStep
    new = logs_of start (e ∷ es)

    abbrev x : Signal
    x = e.step.taken

    abbrev n : Machine HostStep Addressed
    n = sound_machine start

    module _ (member : Member) (there : IsIn member (made start)) where
      abbrev h : ℕ
      h = main_of start member

      abbrev was : MasterState
      was = master_of start old member

      -- what was told was
      told_still : (number : ℕ) → IsToldOver start old member number → IsToldOver start new member number
      told_still number told = record {
        signal = told.signal;
        there =
            event_keeps (machine start) e es (λ k log. IsIn told.signal (taken n (tc_of start member) log))
            (λ was. taken_more n (tc_of start member) (old e.host) e told.signal was) h told.there;
        body = told.body;
        number_is = told.number_is;
      }

      pub still : (view : View) → IsOverIn start old member view → IsOverIn start new member view
      still view (inl first) = inl first
      still view (inr told) = inr (told_still view.number told)

      -- the end of a takeover is taken
      module _ (at : e.host ≡ main_of start member) (taken_here : IsTakenNow start all e es moment block.GcpMaster)
          (ends : x.body ≡ Takeover TakeoverEnd)
        where
          not_own : IsOwnWork start e.host x.body → ⊥
          not_own work = absurd (subst (IsOwnWork start e.host) ends work)

          is_true : IsOverTrue start (n.signal e)
          is_true =
              taken_told start (IsOverTrue start) all e es moment
              (own start all es begins (moment_less start all e es moment))
              taken_here.sound not_own
              (λ closes. let differ : Takeover TakeoverEnd ≡ Host (Closed closes.cause) = sym ends ∙ closes.is in
              absurd cc)

          fenced : is_fenced x ≡ true
          unfolding is_fenced
          fenced = subst (λ body. is_body_fenced x body ≡ true) (sym ends) refl

          not_asked : is_asked e.host x ≡ false
          not_asked =
              subst (λ body. ((x.from.0 == e.host) && is_own_work body) ≡ false) (sym ends) (by (x.from.0 == e.host))
            where
              by : (b : Bool) → (b && false) ≡ false
              by true = refl
              by false = refl

          unasked : n.asked e ≡ false
          unasked = by (is_asked e.host x) (is_well_formed start.shape x) not_asked taken_here.sound
            where
              by : (a b : Bool) → a ≡ false → b ≡ true → (a || not b) ≡ false
              by false true is sound = refl
              by false false is sound = absurd (true≢false (sym sound))
              by true b is sound = absurd (true≢false is)

          told_now : IsToldOver start new member (current start new).number
          told_now =
              let of = is_true ends in
              let mine : x.member ≡ member = of.own member there at in
              record {
                signal = n.signal e;
                there =
                    subst (λ log. IsIn (n.signal e) (taken n (tc_of start member) log))
                    (sym (subst (λ k. new k ≡ e ∷ old k) at (own_log start all e es moment)))
                    (taken_own n (tc_of start member) (old h) e unasked (of.from ∙ ap (tc_of start) mine));
                body = ends;
                number_is = taken_here.fresh fenced;
              }

          -- in the view in which the master is behind it
          pub over_now : (view : View) → view ≡ current start new → IsOverIn start new member view
          over_now view is =
              inr (subst (λ (v : View). IsToldOver start new member v.number) (sym is) told_now)

      master_here : e.host ≡ main_of start member → (at : BlockId) → IsTakenNow start all e es moment at
          → (master_of start new member).view ≡ current start new
      master_here host at taken_here =
          master_view start moment.cluster.nobody member there new ∙ ap (λ h. view_after start h (new h)) (sym host)
          ∙ own_behind start all e es moment ∙ taken_here.stands

      over_next : (master_of start new member).owed ≡ false
          → IsOverIn start new member (master_of start new member).view
      over_next none = by (master_does start all e es moment member)
        where
          took : e.host ≡ main_of start member → IsTakenNow start all e es moment block.GcpMaster
              → (between : MasterState) → master_of start new member ≡ (master_row between x).state
              → (between.owed ≡ false → IsOverIn start old member between.view)
              → IsOverIn start new member (master_of start new member).view
          took at taken_here between is before = either (master_owes between x)
            where
              either : (x.body ≡ Takeover TakeoverEnd) ⊎ ((master_row between x).state.owed ≡ between.owed)
                  → IsOverIn start new member (master_of start new member).view
              either (inl ends) =
                  over_now at taken_here ends (master_of start new member).view
                  (master_here at block.GcpMaster taken_here)
              either (inr same) =
                  subst (IsOverIn start new member)
                  (sym (ap (λ (s : MasterState). s.view) is ∙ (master_goes between x).view))
                  (still between.view
                  (before (sym same ∙ ap (λ (s : MasterState). s.owed) (sym is) ∙ none)))

          owing : (t : MasterState) (view : View) → (in_view t view).owed ≡ false → ⊥
          owing t view is = true≢false (sym (installed_owes t view) ∙ is)

          by : MasterDoes start all e es moment member → IsOverIn start new member (master_of start new member).view
          by (unmoved is) =
              subst (λ (s : MasterState). IsOverIn start new member s.view) (sym is)
              (still was.view (over member there (ap (λ (s : MasterState). s.owed) (sym is) ∙ none)))
          by (installs at up between is) =
              absurd (owing between _ (ap (λ (s : MasterState). s.owed) (sym is) ∙ none))
          by (enters at up is) = absurd (owing was x.view (ap (λ (s : MasterState). s.owed) (sym is) ∙ none))
          by (takes at taken_here is) = took at taken_here was is (over member there)
          by (enters_takes at up taken_here is) =
              took at taken_here (in_view was x.view) is (λ none. absurd (owing was x.view none))

-- so it is at each moment
pub all_over : EndsAreOwn → (start : Start) (all : ℕ → List HostStep) (es : List HostStep)
    → start.start_epoch < start.epoch
    → IsMoment start all es → AreOver start (logs_of start es)
all_over own start all [] begins moment member there none =
    inl (ap (λ (s : node.HostBody).
    (master_in (fresh_master member (first_layout start.shape).view 0) s.parts).view)
    (main_started start moment.cluster.nobody member there))
all_over own start all (e ∷ es) begins moment member there none =
    over_next own start all e es begins moment (all_over own start all es begins (moment_less start all e es moment))
    member
    there none
