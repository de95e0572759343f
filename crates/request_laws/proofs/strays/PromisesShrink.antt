-- Where nobody joins, what a member promises behind a chosen view that it has promised is a part of that.
use Rattle.std.proofs.Common.{◌≡◌, ◌⊎◌, ◌≤◌, ◌<◌, ◌∙◌, ◌==◌, ◌++◌, ℕ, suc, Bool, true, false, nat_lt, List, [], ◌∷◌}
use Rattle.std.proofs.Common.{refl, sym, ap, subst, arith, inl, inr}
use Rattle.std.proofs.lemmas.Bool.{cases_lt}
use Rattle.std.specs.List.{list_any}
use Rattle.std.specs.Prelude.{if◌then◌else◌}
use Rattle.frag_map.specs.Layout.{Layout, first_layout}
use Rattle.frag_map.specs.Replicas.{is_member}
use Rattle.run_theory.specs.Lists.{Each, IsIn}
use Rattle.run_theory.proofs.Pasts.{each_append, each_in}
use Rattle.sig_core.specs.declared.member.Member.{Member}
use Rattle.sig_core.specs.declared.signal.Signal.{Signal}
use Rattle.sig_core.specs.declared.view.View.{View}
use Rattle.qmgr_block.specs.Laws.{Event, installs, takes}
use Rattle.qmgr_block.specs.Qmgr.{qmgr_row}
use Rattle.qmgr_block.specs.State.{QmgrState}
use Rattle.world_core.specs.Start.{Start, made}
use Rattle.world_core.specs.Steps.{HostStep}
use Rattle.view_laws.specs.Ballots.{Ballots, IsChosen, Promised}
use Rattle.view_laws.specs.Members.{is_adopted, known_of, promised_at, promises_of, state_of}
use Rattle.view_laws.specs.Orderly.{AreOrderly, ArePromises, IsBehind, IsSpecial}
use Rattle.view_laws.specs.Runs.{AreOfCluster, ballots_of, events_in}
use Rattle.view_laws.specs.Sets.{IsPart, shrinks}
use Rattle.view_laws.proofs.memberships.AlongEvents.{steps}
use Rattle.view_laws.proofs.ballots.OneOfANumber.{chained}
use Rattle.view_laws.proofs.ballots.Promises.{older_promises, promises_rise}
use Rattle.view_laws.proofs.runs.AllSound.{logs_sound}
use Rattle.view_laws.proofs.runs.OrderlyBallots.{own_proposal, sound_orderly}
use Rattle.view_laws.proofs.runs.ViewsShrink.{none_starting}
use Rattle.view_laws.proofs.runs.Sound.{AreSoundLogs, IsProposedBy, IsSoundMember, Says}
use Rattle.view_laws.proofs.ballots.MadeSets.{part_made}
use Rattle.view_laws.proofs.ballots.OnlyShrink.{change_shrinks, chosen_shrink}
use Rattle.view_laws.proofs.memberships.Steps.{Asks, Stays, row_installs}

-- nobody is starting in the set of a promise
abbrev pub NoneStarts : Promised → Type 0
NoneStarts promise = promise.set.starting ≡ []

module _ (start : Start) (logs : ℕ → List HostStep) (are : AreOfCluster start logs) where
  abbrev layout : Layout
  layout = first_layout start.shape

  sound : AreSoundLogs start logs
  sound = logs_sound start logs are

  pub orderly : AreOrderly start.shape (ballots_of start logs)
  orderly = sound_orderly start logs are.shape sound are.nobody

  none_chosen : (set : View) → IsChosen start.shape (ballots_of start logs) set → set.starting ≡ []
  none_chosen = none_starting start logs are.shape sound

  -- nor in what was proposed
  none_proposed : (member : Member) (set : View) → IsProposedBy start logs member set → set.starting ≡ []
  none_proposed member set one =
      ap (λ (v : View). v.starting) (sym one.is)
      ∙ (own_proposal start logs are.shape member (events_in start logs member) (sound.members member one.made)
      one.proposal one.there).of.none

  -- so in none of the promises of a membership
  module _ (me : Member) where
    record NonePromised (promised : View) (promises : List Promised) : Type 0 where
      last : promised.starting ≡ []
      each : Each NoneStarts promises

    none_more : (event : Event) (before now : View) (promises : List Promised) → now.starting ≡ []
        → NonePromised before promises → NonePromised now (promised_at event before now ++ promises)
    none_more event before now promises none old = record {
      last = none;
      each = each_append NoneStarts (promised_at event before now) promises (by (before.number == now.number)) old.each;
    }
      where
        by : (b : Bool) → Each NoneStarts (if b then [] else record { set = now; adopted = is_adopted event } ∷ [])
        by true = tt
        by false = (none, tt)

    taken_none : (s : QmgrState) (x : Signal) → Says start logs me x x.body → s.known.promised.starting ≡ []
        → (qmgr_row s x).state.known.promised.starting ≡ []
    taken_none s x says none = by (steps s x).promise
      where
        by : Stays s (qmgr_row s x).state ⊎ Asks s (qmgr_row s x).state x.body
            → (qmgr_row s x).state.known.promised.starting ≡ []
        by (inl stays) = ap (λ (v : View). v.starting) stays.promised ∙ none
        by (inr asks) =
            ap (λ (v : View). v.starting) asks.promised
            ∙ none_proposed x.member asks.set (subst (Says start logs me x) asks.is says).2

    adopted_none : (promised view : View) → promised.starting ≡ [] → view.starting ≡ []
        → (if nat_lt promised.number view.number then view else promised).starting ≡ []
    adopted_none promised view none other = by (nat_lt promised.number view.number)
      where
        by : (b : Bool) → (if b then view else promised).starting ≡ []
        by true = other
        by false = none

    none_promised : (events : List Event) → IsSoundMember start logs me events
        → NonePromised (known_of me layout events).promised (promises_of me layout events)
    none_promised [] told = record { last = refl; each = (refl, tt) }
    none_promised (takes x ∷ events) told =
        let old = none_promised events (record { taken = told.taken.1; installed = told.installed }) in
        none_more (takes x) (known_of me layout events).promised (known_of me layout (takes x ∷ events)).promised
        (promises_of me layout events) (taken_none (state_of me layout events) x told.taken.0 old.last) old
    none_promised (installs view ∷ events) told =
        let old = none_promised events (record { taken = told.taken; installed = told.installed.1 }) in
        none_more (installs view) (known_of me layout events).promised
        (known_of me layout (installs view ∷ events)).promised (promises_of me layout events)
        (ap (λ (v : View). v.starting) (row_installs (known_of me layout events) view).promised
        ∙ adopted_none (known_of me layout events).promised view old.last told.installed.0.of.none)
        old

    none_made : IsIn me (made start) → Each NoneStarts ((ballots_of start logs).promises me)
    none_made there = by (list_any (is_member me) (made start))
      where
        by : (b : Bool)
            → Each NoneStarts (if b then promises_of me layout (events_in start logs me) else [])
        by true = (none_promised (events_in start logs me) (sound.members me there)).each
        by false = tt

  -- along the promises of a member
  abbrev b : Ballots
  b = ballots_of start logs

  module _ (me : Member) (one : View) (chosen : IsChosen start.shape (ballots_of start logs) one) where
    shrinks_to : (set : View) → IsChosen start.shape b set → one.number < set.number → IsPart one set
    shrinks_to set other = chosen_shrink start.shape are.shape b orderly none_chosen one set chosen other

    -- the view was the last promise, or that was a part of it
    abbrev IsSameOrPart : View → Type 0
    IsSameOrPart last = (one ≡ last) ⊎ ((one.number < last.number) × IsPart one last)

    same_or_below : (last : View) → IsSameOrPart last → one.number ≤ last.number
    same_or_below last (inl same) = let is = ap (λ (v : View). v.number) same in omega (arith, is)
    same_or_below last (inr (below, part)) = omega (arith, below)

    special_part : (last set : View) → set.starting ≡ [] → one.number ≤ last.number → IsSpecial b me last set
        → IsPart one set
    special_part last set none low special =
        by (cases_lt one.number special.base.number)
      where
        base_chosen : IsChosen start.shape b special.base
        base_chosen =
            each_in (IsChosen start.shape b) special.base (b.installed me) (orderly.installed me) special.installed

        from_base : IsPart special.base set
        from_base =
            change_shrinks special.base set special.change (none_chosen special.base base_chosen) none special.made

        by : (one.number < special.base.number) ⊎ (special.base.number ≤ one.number) → IsPart one set
        by (inl less) = part_made one shrinks special.base set (shrinks_to special.base base_chosen less) from_base
        by (inr high) =
            let base = special.number in
            let is : one.number ≡ special.base.number = omega (arith, base, high, low) in
            subst (λ (v : View). IsPart v set)
            (sym ((chained start.shape are.shape b orderly (suc one.number)).same one special.base chosen base_chosen is
            (omega arith)))
            from_base

    next_part : (last set : View) (adopted : Bool) → set.starting ≡ [] → one.number < set.number → IsSameOrPart last
        → IsBehind b me last set adopted → IsPart one set
    next_part last set true none less was behind =
        shrinks_to set (each_in (IsChosen start.shape b) set (b.installed me) (orderly.installed me) behind.installed)
        less
    next_part last set false none less was behind = by behind.from was
      where
        by : IsPart last set ⊎ IsSpecial b me last set → IsSameOrPart last → IsPart one set
        by (inl part) (inl same) = subst (λ (v : View). IsPart v set) (sym same) part
        by (inl part) (inr (below, older)) = part_made one shrinks last set older part
        by (inr special) was = special_part last set none (same_or_below last was) special

    abbrev OfOne : Promised
    OfOne = record { set = one; adopted = false }

    same_promise : (promise : Promised) → OfOne ≡ promise → one ≡ promise.set
    same_promise promise is = ap (λ (p : Promised). p.set) is

    was_last : (last : Promised) (older : List Promised) → ArePromises b me (last ∷ older)
        → IsIn OfOne (last ∷ older)
        → (IsIn OfOne older → one.number < last.set.number → IsPart one last.set) → IsSameOrPart last.set
    was_last last older rising (inl is) part = inl (same_promise last is)
    was_last last older rising (inr behind) part =
        let below : one.number < last.set.number = promises_rise b me last older rising OfOne behind in
        inr (below, part behind below)

    parts_behind : (all : List Promised) → ArePromises b me all → Each NoneStarts all → IsIn OfOne all
        → (p : Promised) → IsIn p all → one.number < p.set.number → IsPart one p.set
    parts_behind [] rising none there p place less = absurd there
    parts_behind (newest ∷ older) rising none (inl is) p (inl same) less =
        let number = ap (λ (v : View). v.number) (same_promise newest is) in
        let other = ap (λ (q : Promised). q.set.number) same in
        absurd (omega (arith, number, other, less))
    parts_behind (newest ∷ older) rising none (inl is) p (inr place) less =
        let number = ap (λ (v : View). v.number) (same_promise newest is) in
        let below = promises_rise b me newest older rising p place in
        absurd (omega (arith, number, below, less))
    parts_behind (newest ∷ older) rising none (inr there) p (inr place) less =
        parts_behind older (older_promises b me newest older rising) none.1 there p place less
    parts_behind (newest ∷ []) rising none (inr there) p (inl same) less = absurd there
    parts_behind (newest ∷ last ∷ older) rising none (inr there) p (inl same) less =
        subst (λ (q : Promised). IsPart one q.set) (sym same)
        (next_part last.set newest.set newest.adopted none.0
        (subst (λ (q : Promised). one.number < q.set.number) same less)
        (was_last last older rising.2 there
        (λ behind below. parts_behind (last ∷ older) rising.2 none.1 (inr behind) last (inl refl) below))
        rising.1)

  -- what it promised behind the view
  pub promise_part : (me : Member) → IsIn me (made start) → (one other : View)
      → IsChosen start.shape (ballots_of start logs) one
      → IsIn (record { set = one; adopted = false }) ((ballots_of start logs).promises me)
      → IsIn (record { set = other; adopted = false }) ((ballots_of start logs).promises me)
      → one.number < other.number → IsPart one other
  promise_part me made_so one other chosen there place less =
      parts_behind me one chosen (b.promises me) (orderly.promises me) (none_made me made_so) there
      (record { set = other; adopted = false }) place less
