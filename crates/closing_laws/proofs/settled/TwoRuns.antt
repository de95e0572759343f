-- Two moments of different runs: where a host has entered a view on the way to one, and the hosts of the rows of its
-- full members stand in it there, the other run, as it comes to that view, has no more of their logs.
use Rattle.std.proofs.Common.{◌≡◌, ◌≢◌, ◌≤◌, ◌<◌, ◌⊎◌, ◌∙◌, ◌++◌, ℕ, List, [], ◌∷◌, append_assoc, refl, sym, ap, subst}
use Rattle.std.proofs.Common.{inl, inr, arith}
use Rattle.std.proofs.lemmas.Bool.{cases_eq, cases_lt}
use Rattle.std.specs.Prelude.{Some}
use Rattle.run_theory.proofs.Pasts.{past_cases, past_self, past_trans}
use Rattle.run_theory.specs.Lists.{IsIn, IsPast}
use Rattle.frag_map.specs.Layout.{Layout, first_layout}
use Rattle.sig_core.specs.declared.member.Member.{Member}
use Rattle.sig_core.specs.declared.outs.Outgoing.{Outgoing}
use Rattle.sig_core.specs.declared.signal.Signal.{Signal}
use Rattle.sig_core.specs.declared.view.View.{View}
use Rattle.node_views.specs.Blocks.{parts_entered, settled_at}
use Rattle.node_views.specs.declared.parts.Parts.{Parts}
use Rattle.world_core.specs.Hosts.{hosts}
use Rattle.world_core.specs.Start.{NobodyStarts, Start}
use Rattle.world_core.specs.Steps.{HostStep}
use Rattle.world_views.specs.Machine.{after, step_after}
use Rattle.view_laws.proofs.eras.Rises.{entered_follows, host_follows, settled_above, view_rises}
use Rattle.view_laws.proofs.fences.Ranks.{pasts_compare}
use Rattle.view_laws.proofs.runs.AllSound.{have_orderly}
use Rattle.view_laws.proofs.runs.ChosenViews.{one_view}
use Rattle.view_laws.specs.Runs.{view_after}
use Rattle.view_laws.proofs.eras.Deciders.{told_view}
use Rattle.moment_laws.proofs.MomentMembers.{current_made}
use Rattle.moment_laws.proofs.MomentTurns as turns
use Rattle.moment_laws.proofs.MomentViews.{current_above, moment_installed, moment_less}
use Rattle.moment_laws.proofs.PartSteps.{step_do}
use Rattle.moment_laws.specs.Moments.{IsMoment, current, logs_of}
use Rattle.moment_laws.specs.Parts.{Enters, PartsDo, Takes, enters, leaves, settles, stays, takes}
use Rattle.moment_laws.specs.Places.{ldm_of}
use Rattle.outcome_laws.proofs.order.EventsBefore.{IsUpTo, events_up_to, moment_before}
use Rattle.request_laws.proofs.tokens.HostsApart.{ldm_low}
use Rattle.closing_laws.proofs.settled.Cuts.{log_past}

-- A host that comes to stand in a greater view by a signal stands in no lesser one than the signal's.
module _ (start : Start) (nobody : NobodyStarts start) (h : ℕ) (log : List HostStep) (e : HostStep) where
  abbrev x : Signal
  x = e.step.taken

  abbrev view : View
  view = view_after start h log

  number_same : (a b : View) → a ≡ b → a.number ≡ b.number
  number_same a b is = ap (λ (v : View). v.number) is

  low_by : (now : Parts) (seen : View) (sends : List Outgoing)
      → PartsDo start.shape (after start h log).parts (view_after start h log) e.step.taken now seen sends
      → view.number < seen.number → x.view.number ≤ seen.number
  low_by now seen sends did above = entering did.between did.stood did.front did.enters did.takes
    where
      stayed : (between : Parts) (stood : View) → stood ≡ view
          → Takes start.shape between stood x now seen did.rest → x.view.number ≤ seen.number
      stayed between stood is (leaves same seen_is none) =
          let one = number_same seen stood seen_is in
          let other = number_same stood view is in
          absurd (omega (arith, above, one, other))
      stayed between stood is (takes passed unsettled same seen_is sent) =
          let one = number_same seen stood seen_is in
          let other = number_same stood view is in
          absurd (omega (arith, above, one, other))
      stayed between stood is (settles passed settled same sent) =
          let low : x.view.number ≤ stood.number = passed.low in
          let other = number_same stood view is in
          omega (arith, low, other, above)

      entered : (between : Parts) (stood : View) → stood ≡ x.view
          → ((v : View) → settled_at between x ≡ Some v → x.view.number < v.number)
          → Takes start.shape between stood x now seen did.rest → x.view.number ≤ seen.number
      entered between stood is settled_above (leaves same seen_is none) =
          let one = number_same seen stood seen_is in
          let other = number_same stood x.view is in
          omega (arith, one, other)
      entered between stood is settled_above (takes passed unsettled same seen_is sent) =
          let one = number_same seen stood seen_is in
          let other = number_same stood x.view is in
          omega (arith, one, other)
      entered between stood is settled_above (settles passed settled same sent) =
          let up = settled_above seen settled in
          omega (arith, up)

      layout : Layout
      layout = first_layout start.shape

      behind : (v : View) → settled_at (parts_entered (after start h log).parts x.view).state x ≡ Some v
          → x.view.number < v.number
      behind v is =
          settled_above layout (parts_entered (after start h log).parts x.view).state x.view x v
          (entered_follows layout (after start h log).parts view x.view (host_follows start nobody h log)) is

      entering : (between : Parts) (stood : View) (front : List Outgoing)
          → Enters (after start h log).parts view x between stood front
          → Takes start.shape between stood x now seen did.rest → x.view.number ≤ seen.number
      entering between stood front (stays same is none) took = stayed between stood is took
      entering between stood front (enters newer same is sent) took =
          entered between stood is
          (λ v settled. behind v (subst (λ (p : Parts). settled_at p x ≡ Some v) same settled)) took

  pub entrant_low : (view_after start h log).number < (view_after start h (e ∷ log)).number
      → e.step.taken.view.number ≤ (view_after start h (e ∷ log)).number
  entrant_low above =
      let step = step_after start h log e in
      let same : (view_after start h (e ∷ log)).number ≡ step.state.standing.view.number =
      ap (λ (v : View). v.number) (told_view h step) in
      let up : view.number < step.state.standing.view.number = omega (arith, above, same) in
      let low = low_by step.state.parts step.state.standing.view step.effects.sends (step_do start nobody h log e) up in
      omega (arith, low, same)

-- the view in which a host stands has no lesser number behind more of its log
pub views_rise : (start : Start) (nobody : NobodyStarts start) (h : ℕ) (log whole : List HostStep) → IsPast log whole
    → (view_after start h log).number ≤ (view_after start h whole).number
views_rise start nobody h log whole past =
    subst (λ w. (view_after start h log).number ≤ (view_after start h w).number) (sym past.is) (go past.newer)
  where
    go : (newer : List HostStep) → (view_after start h log).number ≤ (view_after start h (newer ++ log)).number
    go [] = omega arith
    go (e ∷ newer) =
        let less = go newer in
        let up = view_rises start nobody h (newer ++ log) e in
        omega (arith, less, up)

-- The event at which a view of this number or a greater one comes to be the current one.
pub record ComesAt (start : Start) (number : ℕ) (es : List HostStep) : Type 0 where
  pub newer : List HostStep
  pub event : HostStep
  pub older : List HostStep
  pub is : es ≡ newer ++ event ∷ older
  pub below : (current start (logs_of start older)).number < number
  pub reached : number ≤ (current start (logs_of start (event ∷ older))).number

pub comes_at : (start : Start) (number : ℕ) → (current start (logs_of start [])).number < number → (es : List HostStep)
    → number ≤ (current start (logs_of start es)).number → ComesAt start number es
comes_at start number first [] reached = absurd (omega (arith, first, reached))
comes_at start number first (e ∷ es) reached =
    by (cases_lt (current start (logs_of start es)).number number) (comes_at start number first es)
  where
    by : ((current start (logs_of start es)).number < number) ⊎ (number ≤ (current start (logs_of start es)).number)
        → (number ≤ (current start (logs_of start es)).number → ComesAt start number es)
        → ComesAt start number (e ∷ es)
    by (inl below) rest =
        record { newer = []; event = e; older = es; is = refl; below = below; reached = reached }
    by (inr before) rest =
        let c = rest before in
        record {
          newer = e ∷ c.newer;
          event = c.event;
          older = c.older;
          is = ap (λ xs. e ∷ xs) c.is;
          below = c.below;
          reached = c.reached;
        }

-- the current view has no lesser number later on
pub current_grows : (start : Start) (all : ℕ → List HostStep) (newer es : List HostStep)
    → IsMoment start all (newer ++ es)
    → (current start (logs_of start es)).number ≤ (current start (logs_of start (newer ++ es))).number
current_grows start all [] es moment = omega arith
current_grows start all (e ∷ newer) es moment =
    let less = current_grows start all newer es (moment_less start all e (newer ++ es) moment) in
    let up = turns.current_rises start all e (newer ++ es) moment in
    omega (arith, less, up)

-- a moment in another run at which the current view is that of this one, and those members' rows have done no more
-- there
pub record ComesAlso (start : Start) (es end : List HostStep) : Type 0 where
  pub newer : List HostStep
  pub moment : List HostStep
  pub is : end ≡ newer ++ moment
  pub current_is : current start (logs_of start moment) ≡ current start (logs_of start es)
  pub within : (member : Member) → IsIn member (current start (logs_of start es)).full
      → IsPast (logs_of start moment (ldm_of start member)) (logs_of start es (ldm_of start member))

module _ (start : Start) (all : ℕ → List HostStep) (es end : List HostStep) (at : IsMoment start all es)
    (last : IsMoment start all end) (part : (h : ℕ) → IsPast (logs_of start es h) (logs_of start end h))
    (first : (current start (logs_of start [])).number < (current start (logs_of start es)).number)
  where
    abbrev number : ℕ
    number = (current start (logs_of start es)).number

    -- the event by which some host enters the view, in this run
    come : ComesAt start (current start (logs_of start es)).number es
    come = comes_at start number first es (omega arith)

    abbrev r : HostStep
    r = come.event

    abbrev older : List HostStep
    older = come.older

    entry : IsMoment start all (come.event ∷ come.older)
    entry = moment_before start all come.newer (r ∷ older) (subst (IsMoment start all) come.is at)

    no_more : (current start (logs_of start (come.event ∷ come.older))).number
        ≤ (current start (logs_of start es)).number
    no_more =
        subst (λ xs. (current start (logs_of start (r ∷ older))).number ≤ (current start (logs_of start xs)).number)
        (sym come.is) (current_grows start all come.newer (r ∷ older) (subst (IsMoment start all) come.is at))

    -- its host stands in the view then, and hadn't before
    abbrev own : List HostStep
    own = logs_of start older r.host

    own_number : (view_after start r.host (r ∷ own)).number ≡ number
    own_number = by (turns.turn start all r older entry)
      where
        by : turns.Turn start all r older entry → (view_after start r.host (r ∷ own)).number ≡ number
        by (turns.keeps same stands) =
            let is = ap (λ (v : View). v.number) same in
            let below = come.below in
            let reached = come.reached in
            absurd (omega (arith, is, below, reached))
        by (turns.raises above stands) =
            let is = ap (λ (v : View). v.number) stands in
            let reached = come.reached in
            let up = no_more in
            omega (arith, is, reached, up)

    entered_low : r.step.taken.view.number ≤ (view_after start r.host (r ∷ own)).number
    entered_low =
        entrant_low start at.cluster.nobody r.host own r
        (let low = current_above start (logs_of start older) at.cluster.nobody r.host
        (turns.host_low start all r older entry) in
        let below = come.below in
        let is = own_number in
        omega (arith, low, below, is))

    -- the same step in the other run
    inside : IsPast (come.event ∷ logs_of start come.older come.event.host) (logs_of start end come.event.host)
    inside =
        past_trans
        (subst (λ log. IsPast log (logs_of start es r.host)) (turns.own_log start all r older entry)
        (subst (λ xs. IsPast (logs_of start (r ∷ older) r.host) (logs_of start xs r.host)) (sym come.is)
        (log_past start r.host come.newer (r ∷ older))))
        (part r.host)

    up_to : IsUpTo start come.event.host come.event (logs_of start come.older come.event.host) end
    up_to = events_up_to start r.host r own inside.newer end inside.is

    there : IsMoment start all (come.event ∷ up_to.before)
    there = moment_before start all up_to.newer (r ∷ up_to.before) (subst (IsMoment start all) up_to.is last)

    there_number : (current start (logs_of start (come.event ∷ up_to.before))).number
        ≡ (current start (logs_of start es)).number
    there_number =
        sym (ap (λ (v : View). v.number)
        (turns.taker_stands start all r up_to.before there
        (subst (λ log. r.step.taken.view.number ≤ (view_after start r.host (r ∷ log)).number) (sym up_to.older)
        entered_low)))
        ∙ ap (λ log. (view_after start r.host (r ∷ log)).number) up_to.older
        ∙ own_number

    -- the other run comes to it
    also : ComesAt start (current start (logs_of start es)).number (come.event ∷ up_to.before)
    also =
        comes_at start number first (r ∷ up_to.before) (let is = there_number in omega (arith, is))

    comes : IsMoment start all (also.event ∷ also.older)
    comes = moment_before start all also.newer (also.event ∷ also.older) (subst (IsMoment start all) also.is there)

    comes_number : (current start (logs_of start (also.event ∷ also.older))).number
        ≡ (current start (logs_of start es)).number
    comes_number =
        let reached = also.reached in
        let is = there_number in
        let up =
        subst (λ xs. (current start (logs_of start (also.event ∷ also.older))).number
        ≤ (current start (logs_of start xs)).number) (sym also.is)
        (current_grows start all also.newer (also.event ∷ also.older) (subst (IsMoment start all) also.is there)) in
        omega (arith, reached, is, up)

    -- whoever stands in the view at the first moment has done no less by then
    no_less : (h : ℕ) → h < hosts start → (view_after start h (logs_of start es h)).number ≡ number
        → IsPast (logs_of start (also.event ∷ also.older) h) (logs_of start es h)
    no_less h low stands = by (cases_eq also.event.host h)
      where
        f : HostStep
        f = also.event

        whole : IsPast (logs_of start (also.event ∷ also.older) h) (logs_of start end h)
        whole =
            subst (λ xs. IsPast (logs_of start (f ∷ also.older) h) (logs_of start xs h))
            (sym (up_to.is ∙ ap (λ xs. up_to.newer ++ xs) also.is))
            (past_trans (log_past start h also.newer (f ∷ also.older))
            (log_past start h up_to.newer (also.newer ++ f ∷ also.older)))

        never : IsPast (logs_of start es h) (logs_of start also.older h) → ⊥
        never past =
            let rises = views_rise start at.cluster.nobody h (logs_of start es h) (logs_of start also.older h) past in
            let up = current_above start (logs_of start also.older) at.cluster.nobody h low in
            let below = also.below in
            omega (arith, rises, up, below, stands)

        compared : IsPast (logs_of start (also.event ∷ also.older) h) (logs_of start es h)
            ⊎ IsPast (logs_of start es h) (logs_of start (also.event ∷ also.older) h)
        compared =
            pasts_compare (logs_of start (f ∷ also.older) h) (logs_of start es h) (logs_of start end h) whole (part h)

        by : (also.event.host ≡ h) ⊎ (also.event.host ≢ h)
            → IsPast (logs_of start (also.event ∷ also.older) h) (logs_of start es h)
        by (inr other) = either compared
          where
            either : IsPast (logs_of start (f ∷ also.older) h) (logs_of start es h)
                ⊎ IsPast (logs_of start es h) (logs_of start (f ∷ also.older) h)
                → IsPast (logs_of start (f ∷ also.older) h) (logs_of start es h)
            either (inl is) = is
            either (inr past) =
                absurd (never (subst (IsPast (logs_of start es h))
                (turns.other_log start all f also.older comes h other) past))
        by (inl same) = either compared
          where
            log_is : logs_of start (f ∷ also.older) h ≡ f ∷ logs_of start also.older h
            log_is =
                subst (λ k. logs_of start (f ∷ also.older) k ≡ f ∷ logs_of start also.older k) same
                (turns.own_log start all f also.older comes)

            split : (f ∷ logs_of start also.older h ≡ logs_of start es h)
                ⊎ IsPast (logs_of start es h) (logs_of start also.older h)
                → IsPast (logs_of start (f ∷ also.older) h) (logs_of start es h)
            split (inl is) =
                subst (IsPast (logs_of start (f ∷ also.older) h)) (log_is ∙ is)
                (past_self (logs_of start (f ∷ also.older) h))
            split (inr past) = absurd (never past)

            either : IsPast (logs_of start (f ∷ also.older) h) (logs_of start es h)
                ⊎ IsPast (logs_of start es h) (logs_of start (f ∷ also.older) h)
                → IsPast (logs_of start (f ∷ also.older) h) (logs_of start es h)
            either (inl is) = is
            either (inr past) = split (past_cases f (subst (IsPast (logs_of start es h)) log_is past))

    pub comes_also : ((member : Member) → IsIn member (current start (logs_of start es)).full
        → view_after start (ldm_of start member) (logs_of start es (ldm_of start member))
        ≡ current start (logs_of start es)) → ComesAlso start es end
    comes_also stand = record {
      newer = up_to.newer ++ also.newer;
      moment = also.event ∷ also.older;
      is =
          up_to.is ∙ ap (λ xs. up_to.newer ++ xs) also.is
          ∙ sym (append_assoc up_to.newer also.newer (also.event ∷ also.older));
      current_is =
          one_view have_orderly start all at.cluster (current start (logs_of start (also.event ∷ also.older)))
          (current start (logs_of start es)) (moment_installed start all (also.event ∷ also.older) comes)
          (moment_installed start all es at) comes_number;
      within = λ member full.
          no_less (ldm_of start member) (ldm_low start at.cluster.nobody member
          (current_made start all es at member full))
          (ap (λ (v : View). v.number) (stand member full));
    }
