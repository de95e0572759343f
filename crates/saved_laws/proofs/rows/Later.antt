-- Which decisions are later than an epoch: those of and behind an event that decides in a later one, those of and
-- behind its closing, and all of a life that begins with a later one.
use Rattle.std.proofs.Common.{◌≡◌, ◌≤◌, ◌<◌, ◌∙◌, ◌++◌, ℕ, List, [], ◌∷◌, reverse, refl, sym, ap, subst, inl, inr}
use Rattle.std.proofs.Common.{append-nil, append_assoc, arith}
use Rattle.std.proofs.lemmas.List.{reverse-append}
use Rattle.run_theory.proofs.Pasts.{each_append, each_in, in_append, in_past, past_less, past_self}
use Rattle.run_theory.specs.Lists.{Each, IsIn, IsPast}
use Rattle.dih_node.specs.Dih.{fresh_dih}
use Rattle.sig_core.specs.declared.entry.Entry.{Entry}
use Rattle.sig_core.specs.declared.mark.Mark.{Mark}
use Rattle.sig_core.specs.declared.mark.Mark.TheVariants.{Closed, Decided}
use Rattle.sig_core.specs.declared.member.Member.{Member}
use Rattle.sig_core.specs.declared.member.TxId.{TxId}
use Rattle.sig_core.specs.declared.place.Part.TheVariants.{Tc}
use Rattle.node_views.specs.declared.host_body.HostBody as node
use Rattle.world_core.specs.Entries.{entries_in, entry_of}
use Rattle.world_core.specs.SerialLaw.{AreEpochsOrdered}
use Rattle.world_core.specs.Start.{Start, made}
use Rattle.world_core.specs.Steps.{HostStep}
use Rattle.view_laws.specs.Order.{decisions, entries_along}
use Rattle.view_laws.specs.Runs.{view_after}
use Rattle.view_laws.proofs.ballots.MadeSets.{in_front}
use Rattle.moment_laws.proofs.MomentHosts.{main_number, part_some, tc_low, tc_member, tc_number, tc_started}
use Rattle.moment_laws.proofs.MomentMembers.{current_host, current_made}
use Rattle.moment_laws.proofs.MomentTurns.{own_behind, stands_behind}
use Rattle.moment_laws.proofs.MomentViews.{moment_less}
use Rattle.moment_laws.specs.Moments.{IsMoment, current, logs_of}
use Rattle.moment_laws.specs.Places.{tc_of}
use Rattle.outcome_laws.proofs.knowledge.CommitsWereDecided.{in_turned}
use Rattle.outcome_laws.proofs.order.EventsBefore.{decisions_past, entries_past, moment_before}
use Rattle.outcome_laws.specs.Counts.{coordinator_member}
use Rattle.epoch_laws.specs.Members.{dih_in, epochs_of}
use Rattle.epoch_laws.proofs.StandMasters.{first_inside}
use Rattle.commit_laws.proofs.hosts.DecidersGo.{decider_home, decider_made, deciders_go_on}
use Rattle.commit_laws.proofs.records.Replicas.{full_before}
use Rattle.closing_laws.proofs.closers.Hear.{closers_have_heard_all}
use Rattle.closing_laws.proofs.settled.Cuts.{goes_back}
use Rattle.closing_laws.proofs.settled.EpochsRise.{epochs_rise, given_now}
use Rattle.closing_laws.specs.Closed.{HasEnded, IsClosing}
use Rattle.saved_laws.proofs.rows.Decisions.{DecideWith, HasLater, IsOfEpoch, each_decided}

-- the entry of a decision among those that the step puts in front
record HasEntry (at : ℕ) (base all : List Entry) : Type 0 where
  front : List Entry
  is : all ≡ front ++ base
  entry : Entry
  there : IsIn entry front
  epoch_is : entry.epoch ≡ at

abbrev epoch_in : Mark → ℕ
epoch_in (Decided tx at) = at
epoch_in mark = 0

has_entry : (h stamp : ℕ) (log : List HostStep) (tx : TxId) (at : ℕ) (marks : List Mark) (front base : List Entry)
    → IsIn (Decided tx at) marks → HasEntry at base (entries_in h stamp log marks (front ++ base))
has_entry h stamp log tx at [] front base there = absurd there
has_entry h stamp log tx at (Decided u n ∷ marks) front base (inl same) =
    let z : Entry = entry_of h stamp log u n in
    let past = entries_past h stamp log marks (z ∷ front ++ base) in
    record {
      front = past.newer ++ z ∷ front;
      is = past.is ∙ sym (append_assoc past.newer (z ∷ front) base);
      entry = z;
      there = in_append z past.newer (z ∷ front) (inl refl);
      epoch_is = sym (ap epoch_in same);
    }
has_entry h stamp log tx at (mark ∷ marks) front base (inl same) = absurd cc
has_entry h stamp log tx at (Decided u n ∷ marks) front base (inr there) =
    has_entry h stamp log tx at marks (entry_of h stamp log u n ∷ front) base there
has_entry h stamp log tx at (mark ∷ marks) front base (inr there) = has_entry h stamp log tx at marks front base there

ordered_pair : (xs ys : List Entry) (a b : Entry) → AreEpochsOrdered (xs ++ ys) → IsIn a xs → IsIn b ys
    → a.epoch ≤ b.epoch
ordered_pair [] ys a b ordered left right = absurd left
ordered_pair (x ∷ xs) ys a b ordered (inl is) right =
    subst (λ (c : Entry). c.epoch ≤ b.epoch) (sym is)
    (each_in (λ (c : Entry). x.epoch ≤ c.epoch) b (xs ++ ys) ordered.0 (in_append b xs ys right))
ordered_pair (x ∷ xs) ys a b ordered (inr left) right = ordered_pair xs ys a b ordered.1 left right

-- where entries are ordered by epochs, a decision has no lesser one than those before it
behind_it : (start : Start) (end es : List HostStep) (e : HostStep) → AreEpochsOrdered (entries_along start end)
    → IsPast (e ∷ es) end → (z : Entry) → IsIn z (decisions start es) → (tx : TxId) (at : ℕ)
    → IsIn (Decided tx at) e.step.marks → z.epoch ≤ at
behind_it start end es e ordered past z inside tx at there =
    let one =
    has_entry e.host e.step.stamp (e ∷ logs_of start es e.host) tx at e.step.marks [] (decisions start es) there in
    let more = decisions_past start past.newer (e ∷ es) in
    let all : decisions start end ≡ (more.newer ++ one.front) ++ decisions start es =
    ap (decisions start) past.is ∙ more.is ∙ ap (λ w. more.newer ++ w) one.is
    ∙ sym (append_assoc more.newer one.front (decisions start es)) in
    subst (λ n. z.epoch ≤ n) one.epoch_is
    (ordered_pair (reverse (decisions start es)) (reverse (more.newer ++ one.front)) z one.entry
    (subst AreEpochsOrdered (ap (λ w. reverse w) all ∙ reverse-append (more.newer ++ one.front) (decisions start es))
    ordered)
    (in_turned z (decisions start es) inside)
    (in_turned one.entry (more.newer ++ one.front) (in_append one.entry more.newer one.front one.there)))

-- who decides is a full member, in the current view
module _ (start : Start) (all : ℕ → List HostStep) (e : HostStep) (es : List HostStep)
    (moment : IsMoment start all (e ∷ es)) (tx : TxId) (epoch : ℕ) (there : IsIn (Decided tx epoch) e.step.marks) where
  decider_full : IsIn (coordinator_member tx) (current start (logs_of start (e ∷ es))).full
  decider_full =
      let h = tc_of start (coordinator_member tx) in
      let made_is = decider_made start all e es moment tx epoch there in
      let home = decider_home start all e es moment tx epoch there in
      subst (λ m. IsIn m (current start (logs_of start (e ∷ es))).full)
      (tc_member start moment.cluster.nobody (coordinator_member tx) made_is)
      (current_host start all (e ∷ es) moment h (part_some start Tc (coordinator_member tx))
      (tc_low start moment.cluster.nobody (coordinator_member tx) made_is)
      (subst (λ k. view_after start k (logs_of start (e ∷ es) k) ≡ current start (logs_of start (e ∷ es))) home
      (own_behind start all e es moment
      ∙ stands_behind start all e es moment (deciders_go_on start all e es moment tx epoch there))))

module _ (start : Start) (all : ℕ → List HostStep) (end : List HostStep) (begins : start.start_epoch < start.epoch)
    (moment : IsMoment start all end) (epoch : ℕ) where
  abbrev IsLate : ℕ → Type 0
  IsLate at = epoch < at

  past_behind : (newer older : List HostStep) → IsPast (newer ++ older) end → IsPast older end
  past_behind [] older past = past
  past_behind (e ∷ newer) older past = past_behind newer older (past_less e past)

  moment_of : (es : List HostStep) → IsPast es end → IsMoment start all es
  moment_of es past = moment_before start all past.newer es (subst (IsMoment start all) past.is moment)

  -- each event decides only later ones, if it does so wherever it comes
  all_late : (newer older : List HostStep) → IsPast (newer ++ older) end
      → ((e : HostStep) (more : List HostStep) → IsPast (e ∷ more ++ older) end → (tx : TxId) (at : ℕ)
      → IsIn (Decided tx at) e.step.marks → epoch < at) → DecideWith (λ at. epoch < at) newer
  all_late [] older past late = tt
  all_late (e ∷ newer) older past late = (
    each_decided IsLate e.step.marks (late e newer past),
    all_late newer older (past_less e past) late,
  )

  -- behind an event that decides in a later epoch, and with it
  module _ (ordered : AreEpochsOrdered (entries_along start end)) (d : HostStep) (older : List HostStep)
      (has : HasLater epoch d.step.marks) where
    with_it : IsPast (d ∷ older) end → (tx : TxId) (at : ℕ) → IsIn (Decided tx at) d.step.marks → epoch < at
    with_it past tx at there =
        let here = moment_of (d ∷ older) past in
        let me = coordinator_member tx in
        let given =
        given_now start all begins d older here me (decider_made start all d older here tx at there)
        (decider_home start all d older here tx at there) in
        let own = given tx at there in
        let first = given has.tx has.at has.there in
        let up = has.later in
        omega (arith, own, first, up)

    one : HasEntry has.at (decisions start older) (decisions start (d ∷ older))
    one =
        has_entry d.host d.step.stamp (d ∷ logs_of start older d.host) has.tx has.at d.step.marks []
        (decisions start older) has.there

    behind : (e : HostStep) (more : List HostStep) → IsPast (e ∷ more ++ d ∷ older) end → (tx : TxId) (at : ℕ)
        → IsIn (Decided tx at) e.step.marks → epoch < at
    behind e more past tx at there =
        let inside =
        in_past one.entry (decisions_past start more (d ∷ older))
        (subst (IsIn one.entry) (sym one.is) (in_front one.entry one.front (decisions start older) one.there)) in
        let below = behind_it start end (more ++ d ∷ older) e ordered past one.entry inside tx at there in
        let up = has.later in
        let is = one.epoch_is in
        omega (arith, below, up, is)

    pub late_behind_later : (newer : List HostStep) → IsPast (newer ++ d ∷ older) end
        → DecideWith (λ at. epoch < at) (newer ++ d ∷ [])
    late_behind_later newer past =
        each_append (λ (e : HostStep). Each (IsOfEpoch (λ at. epoch < at)) e.step.marks) newer (d ∷ [])
        (all_late newer (d ∷ older) past behind)
        (each_decided IsLate d.step.marks (with_it (past_behind newer (d ∷ older) past)), tt)

  -- behind the closing of the epoch, and with it
  module _ (closing : HostStep) (older : List HostStep) (marked : IsIn (Closed epoch) closing.step.marks)
      (past : IsPast (closing ∷ older) end) where
    here : IsMoment start all (closing ∷ older)
    here = moment_of (closing ∷ older) past

    closes : IsClosing start closing (logs_of start (closing ∷ older)) epoch
    closes = closers_have_heard_all start all closing older begins here epoch marked

    closer_made : IsIn closes.member (made start)
    closer_made =
        current_made start all (closing ∷ older) here closes.member
        (first_inside closes.member (current start (logs_of start (closing ∷ older))).full closes.is.president)

    -- the president's host of epochs isn't that of a coordinator
    closes_only : (tx : TxId) (at : ℕ) → IsIn (Decided tx at) closing.step.marks → epoch < at
    closes_only tx at there =
        let home = decider_home start all closing older here tx at there in
        let one = tc_number start moment.cluster.nobody (coordinator_member tx)
        (decider_made start all closing older here tx at there) in
        let other = main_number start moment.cluster.nobody closes.member closer_made in
        let is = closes.is.host_is in
        absurd (omega (arith, home, one, other, is))

    closed_by_then : (e : HostStep) (more : List HostStep) → IsPast (e ∷ more ++ closing ∷ older) end → (tx : TxId)
        (at : ℕ) → IsIn (Decided tx at) e.step.marks → epoch < at
    closed_by_then e more more_past tx at there =
        let me = coordinator_member tx in
        let now = moment_of (e ∷ more ++ closing ∷ older) more_past in
        let full =
        goes_back start all (λ es. IsIn (coordinator_member tx) (current start (logs_of start es)).full)
        (λ e es moment there. full_before start all e es moment (coordinator_member tx) there)
        (e ∷ more) (closing ∷ older) now (decider_full start all e (more ++ closing ∷ older) now tx at there) in
        let ended =
        each_in (λ (m : Member). HasEnded epoch (epochs_of start (logs_of start (closing ∷ older)) m)) me
        (current start (logs_of start (closing ∷ older))).full closes.is.ended full in
        let later = ended.later in
        let rises =
        epochs_rise start all begins more (closing ∷ older)
        (moment_less start all e (more ++ closing ∷ older) now) me in
        let given =
        given_now start all begins e (more ++ closing ∷ older) now me
        (decider_made start all e (more ++ closing ∷ older) now tx at there)
        (decider_home start all e (more ++ closing ∷ older) now tx at there) tx at there in
        omega (arith, later, rises, given)

    pub late_behind_closing : (newer : List HostStep) → IsPast (newer ++ closing ∷ older) end
        → DecideWith (λ at. epoch < at) (newer ++ closing ∷ [])
    late_behind_closing newer newer_past =
        each_append (λ (e : HostStep). Each (IsOfEpoch (λ at. epoch < at)) e.step.marks) newer (closing ∷ [])
        (all_late newer (closing ∷ older) newer_past closed_by_then)
        (each_decided IsLate closing.step.marks closes_only, tt)

  -- in a life that begins with a later epoch
  module _ (low : epoch < start.epoch) where
    first_epoch : (member : Member) → IsIn member (made start)
        → (epochs_of start (logs_of start []) member).current ≡ start.epoch
    first_epoch member there =
        ap (λ (s : node.HostBody). (dih_in (fresh_dih 0 0 0 0) s.parts).current)
        (tc_started start moment.cluster.nobody member there)

    in_life : (e : HostStep) (more : List HostStep) → IsPast (e ∷ more ++ []) end → (tx : TxId) (at : ℕ)
        → IsIn (Decided tx at) e.step.marks → epoch < at
    in_life e more past tx at there =
        let me = coordinator_member tx in
        let now = moment_of (e ∷ more ++ []) past in
        let made_is = decider_made start all e (more ++ []) now tx at there in
        let rises = epochs_rise start all begins more [] (moment_less start all e (more ++ []) now) me in
        let given =
        given_now start all begins e (more ++ []) now me made_is (decider_home start all e (more ++ []) now tx at there)
        tx at there in
        let first = first_epoch me made_is in
        omega (arith, low, rises, given, first)

    pub late_in_life : DecideWith (λ at. epoch < at) end
    late_in_life = all_late end [] (subst (λ es. IsPast es end) (sym (append-nil end)) (past_self end)) in_life
