-- At each moment a coordinator is fenced at all numbers that its member has confirmed: the member has taken no more
-- confirmations from it than it has taken requests, and links of a moment give what was sent by then.
use Rattle.std.proofs.Common.{◌≡◌, ◌≤◌, ◌==◌, ◌&&◌, ◌||◌, ◌+◌, ◌++◌, ℕ, Bool, true, false, cond, filter, List, [], ◌∷◌}
use Rattle.std.proofs.Common.{refl, sym, ap, subst, inl, inr, arith}
use Rattle.std.proofs.lemmas.Bool.{true≢false}
use Rattle.std.specs.Prelude.{if◌then◌else◌, not}
use Rattle.frag_map.specs.Layout.{first_layout}
use Rattle.run_theory.specs.Counts.{one_if, tally}
use Rattle.run_theory.specs.Links.{IsGiven, is_from, put, sent, taken}
use Rattle.run_theory.specs.Lists.{IsIn, IsPast}
use Rattle.run_theory.specs.Machine.{Machine}
use Rattle.run_theory.proofs.Cuts.{taken_past}
use Rattle.run_theory.proofs.Pasts.{past_less, past_more, past_self, past_trans}
use Rattle.run_theory.proofs.Runs.{logs_of_run}
use Rattle.run_theory.proofs.Tally.{tally_past}
use Rattle.sig_core.specs.declared.member.Member.{Member}
use Rattle.sig_core.specs.declared.place.BlockId.{BlockId}
use Rattle.sig_core.specs.declared.place.BlockId.TheVariants as block
use Rattle.sig_core.specs.declared.signal.Signal.{Signal}
use Rattle.sig_core.specs.Part.{part_of}
use Rattle.node_views.specs.WellFormed.{is_well_formed}
use Rattle.qmgr_block.specs.Laws.{Event, installs, takes}
use Rattle.world_core.specs.Hosts.{host_of}
use Rattle.world_core.specs.Start.{Start, made}
use Rattle.world_core.specs.Steps.{Addressed, HostStep}
use Rattle.world_views.specs.Machine.{after, machine, signals_of, stops_by}
use Rattle.world_views.specs.Sending.{is_asked}
use Rattle.view_laws.specs.Fences.{IsFenced, fence_after}
use Rattle.view_laws.specs.HostEvents.{events_at, events_of, is_membership, taken_in}
use Rattle.view_laws.specs.Members.{confirmed_of}
use Rattle.view_laws.specs.Order.{is_sound, sound_machine}
use Rattle.view_laws.specs.Runs.{events_in}
use Rattle.view_laws.specs.Votes.{main_of}
use Rattle.view_laws.proofs.eras.Shapes.{shape_stays}
use Rattle.view_laws.proofs.fences.Answers.{confirms_fence, confs_none, few_more, sent_few, unasked}
use Rattle.view_laws.proofs.fences.AskedAndConfirmed.{IsAskedAs, IsHeard, confirmed_heard, confs_by, confs_of}
use Rattle.view_laws.proofs.fences.WhatLinksOwe.{HasTaken, asks_fence, in_ldm, not_below, running}
use Rattle.view_laws.proofs.fences.Links.{requests_high_past}
use Rattle.view_laws.proofs.fences.Raised.{taken_fenced}
use Rattle.view_laws.proofs.fences.Seen.{fence_is, fence_or, fence_seen}
use Rattle.view_laws.proofs.fences.AlwaysThere.{fences_are_there}
use Rattle.view_laws.proofs.follow.TakenOnce.{IsTakenOnce, taken_once}
use Rattle.view_laws.proofs.runs.Growth.{events_past}
use Rattle.view_laws.proofs.votes.NoVotes.{is_confirming, is_fencing}
use Rattle.moment_laws.specs.Moments.{IsMoment, logs_of}
use Rattle.commit_laws.proofs.views.CurrentFenced.{ConfirmedIsFenced}
use Rattle.commit_laws.proofs.views.Sound.{no_events}

-- the confirmations among what happens to a membership
confs_append : (c : Bool) (new old : List Event) → confs_of c (new ++ old) ≡ confs_of c new + confs_of c old
confs_append c [] old = omega arith
confs_append c (takes x ∷ new) old = omega (arith, confs_append c new old)
confs_append c (installs view ∷ new) old = confs_append c new old

none_taken : (c : Bool) (events : List Event) → taken_in events ≡ [] → confs_of c events ≡ 0
none_taken c [] none = refl
none_taken c (takes x ∷ events) none = absurd cc
none_taken c (installs view ∷ events) none = none_taken c events none

one_taken : (c : Bool) (x : Signal) (events : List Event) → taken_in events ≡ x ∷ []
    → confs_of c events ≡ confs_by c x.from.0 x.body
one_taken c x [] one = absurd cc
one_taken c x (takes y ∷ events) one =
    let same : y ≡ x = cc in
    let none : taken_in events ≡ [] = cc in
    omega (arith, none_taken c events none, ap (λ (z : Signal). confs_by c z.from.0 z.body) same)
one_taken c x (installs view ∷ events) one = one_taken c x events one

once_few : (c : Bool) (mine : BlockId → Bool) (x : Signal) (events : List Event)
    → IsTakenOnce mine x (taken_in events) → confs_of c events ≤ confs_by c x.from.0 x.body
once_few c mine x events (inl none) = omega (arith, none_taken c events none)
once_few c mine x events (inr one) = omega (arith, one_taken c x events one.0)

-- what a step adds to a count of what was taken from a link
taken_adds : (m : Machine HostStep Addressed) (p : Addressed → Bool) (i : ℕ) (e : HostStep) (log : List HostStep)
    → tally p (taken m i (e ∷ log)) ≡ one_if (is_from m i e && p (m.signal e)) + tally p (taken m i log)
taken_adds m p i e log = by (is_from m i e)
  where
    by : (b : Bool)
        → tally p (if b then m.signal e ∷ taken m i log else taken m i log)
        ≡ one_if (b && p (m.signal e)) + tally p (taken m i log)
    by true = refl
    by false = omega arith

module _ (start : Start) where
  -- the sound machine takes what is well formed as the machine does
  sound_from : (i : ℕ) (e : HostStep) → is_well_formed start.shape e.step.taken ≡ true
      → is_from (sound_machine start) i e ≡ is_from (machine start) i e
  sound_from i e sound = by (is_asked e.host e.step.taken) (is_well_formed start.shape e.step.taken) sound
    where
      by : (a b : Bool) → b ≡ true
          → (not (a || not b) && (e.step.taken.from.0 == i)) ≡ (not a && (e.step.taken.from.0 == i))
      by true b sound = refl
      by false true sound = refl
      by false false sound = absurd (true≢false (sym sound))

  -- and it sends no more
  put_few : (p : Addressed → Bool) (j : ℕ) (xs before more : List Addressed) → tally p before ≤ tally p more
      → tally p (put (sound_machine start) j (filter (is_sound start) xs) before)
      ≤ tally p (put (machine start) j xs more)
  put_few p j [] before more low = low
  put_few p j (x ∷ xs) before more low = by (is_sound start x) (put_few p j xs)
    where
      Later : Type 0
      Later =
          (before more : List Addressed) → tally p before ≤ tally p more
          → tally p (put (sound_machine start) j (filter (is_sound start) xs) before)
          ≤ tally p (put (machine start) j xs more)

      both : Later → (here : Bool)
          → tally p (put (sound_machine start) j (filter (is_sound start) xs) (if here then x ∷ before else before))
          ≤ tally p (put (machine start) j xs (if here then x ∷ more else more))
      both later true = later (x ∷ before) (x ∷ more) (omega (arith, low))
      both later false = later before more low

      one : Later → (here : Bool)
          → tally p (put (sound_machine start) j (filter (is_sound start) xs) before)
          ≤ tally p (put (machine start) j xs (if here then x ∷ more else more))
      one later true = later before (x ∷ more) (omega (arith, low))
      one later false = later before more low

      by : (sound : Bool) → Later
          → tally p
          (put (sound_machine start) j (cond sound (x ∷ filter (is_sound start) xs) (filter (is_sound start) xs))
          before)
          ≤ tally p (put (machine start) j (x ∷ xs) more)
      by true later = both later (x.to == j)
      by false later = one later (x.to == j)

  sent_fewer : (p : Addressed → Bool) (i j : ℕ) (log : List HostStep)
      → tally p (sent (sound_machine start) i j log) ≤ tally p (sent (machine start) i j log)
  sent_fewer p i j [] = omega arith
  sent_fewer p i j (e ∷ log) = by (stops_by e.step.marks) (sent_fewer p i j log)
    where
      by : (stops : Bool) → tally p (sent (sound_machine start) i j log) ≤ tally p (sent (machine start) i j log)
          → tally p
          (put (sound_machine start) j (if stops then [] else filter (is_sound start) (signals_of start i log e))
          (sent (sound_machine start) i j log))
          ≤ tally p
          (put (machine start) j (if stops then [] else signals_of start i log e) (sent (machine start) i j log))
      by true low = low
      by false low =
          put_few p j (signals_of start i log e) (sent (sound_machine start) i j log) (sent (machine start) i j log) low

module _ (start : Start) (all : ℕ → List HostStep) (es : List HostStep) (moment : IsMoment start all es)
    (me : Member) (there : IsIn me (made start)) (at : BlockId) (fenced : IsFenced at)
  where
    abbrev logs : ℕ → List HostStep
    logs = logs_of start es

    abbrev main : ℕ
    main = main_of start me

    abbrev host : ℕ
    host = host_of (made start) (part_of at) me

    abbrev c : Bool
    c = in_ldm at

    abbrev heard_from : List HostStep → ℕ
    heard_from log = tally confirms_fence (taken (sound_machine start) host log)

    abbrev confs_after : List HostStep → ℕ
    confs_after log = confs_of c (events_of is_membership start main log)

    -- a confirmation that the membership takes is well formed, and comes over the link from the part
    sound_more : (log : List HostStep) (e : HostStep) → IsPast (e ∷ log) (all main)
        → confs_after (e ∷ log) + heard_from log ≤ confs_after log + heard_from (e ∷ log)
    sound_more log e past = by (is_well_formed start.shape x) refl (is_confirming x.body) refl
      where
        x : Signal
        x = e.step.taken

        more : heard_from log ≤ heard_from (e ∷ log)
        more = tally_past confirms_fence (taken_past (sound_machine start) host (past_more e (past_self log)))

        new : List Event
        new = events_at is_membership main (after start main log) e.step.taken

        few : confs_after (e ∷ log) ≤ confs_by c x.from.0 x.body + confs_after log
        few =
            omega (
              arith,
              confs_append c new (events_of is_membership start main log),
              once_few c is_membership x new (taken_once is_membership main (after start main log) x),
            )

        shape_is : (after start main log).standing.shape ≡ start.shape
        shape_is = shape_stays start moment.cluster.nobody main log

        by : (sound : Bool) → is_well_formed start.shape x ≡ sound → (confirms : Bool)
            → is_confirming x.body ≡ confirms
            → confs_after (e ∷ log) + heard_from log ≤ confs_after log + heard_from (e ∷ log)
        by true sound confirms is =
            let raw = few_more start all moment.cluster me there at fenced log e past in
            let taken_raw = taken_adds (machine start) confirms_fence host e log in
            let taken_sound = taken_adds (sound_machine start) confirms_fence host e log in
            let same =
            ap (λ b. one_if (b && confirms_fence (record { to = e.host; signal = x })))
            (sound_from start host e sound) in
            omega (arith, few, raw, taken_raw, taken_sound, same)
        by false off false is = omega (arith, few, confs_none c x.from.0 x.body is, more)
        by false off true is =
            let none : events_at is_membership main (after start main log) x ≡ [] =
            no_events is_membership main (after start main log) x (unasked main x (of_fence is))
            (subst (λ shape. is_well_formed shape x ≡ false) (sym shape_is) off) in
            omega (arith, ap (λ events. confs_of c (events ++ events_of is_membership start main log)) none, more)
          where
            of_fence : is_confirming x.body ≡ true → (is_fencing x.body || is_confirming x.body) ≡ true
            of_fence is = or (is_fencing x.body)
              where
                or : (b : Bool) → (b || is_confirming x.body) ≡ true
                or true = refl
                or false = is

    sound_few : (log : List HostStep) → IsPast log (all main) → confs_after log ≤ heard_from log
    sound_few [] past = omega arith
    sound_few (e ∷ log) past = omega (arith, sound_more log e past, sound_few log (past_less e past))

    given_few : (log : List HostStep) (xs : List Addressed) → IsGiven (sound_machine start) host main log xs
        → tally confirms_fence xs ≤ tally confirms_fence (sent (sound_machine start) host main log)
    given_few log xs (inl past) = tally_past confirms_fence past
    given_few [] xs (inr closing) = absurd closing
    given_few (e ∷ log) xs (inr closes) =
        omega (arith, ap (tally confirms_fence) closes.is, tally_past confirms_fence closes.past)

    -- so no more are confirmed than the part has taken requests
    confirmed_few : confs_after (logs main)
        ≤ tally (asks_fence start) (taken (machine start) main (running (logs host)))
    confirmed_few =
        omega (
          arith,
          sound_few (logs main) (moment.inside main),
          given_few (logs host) (taken (sound_machine start) host (logs main))
              ((logs_of_run (sound_machine start) es moment.run).linked host main),
          sent_fewer start confirms_fence host main (logs host),
          sent_few start all moment.cluster me there at fenced (logs host) (moment.inside host),
        )

    asked_later : (number rank : ℕ) → IsAskedAs me (first_layout start.shape) (events_in start logs me) number rank
        → IsAskedAs me (first_layout start.shape) (events_in start all me) number rank
    asked_later number rank was = record {
      older = was.older;
      x = was.x;
      past = past_trans was.past (events_past is_membership start main (moment.inside main));
      now = was.now;
      number_is = was.number_is;
      rank_is = was.rank_is;
    }

    pub confirmed_fenced_at : (number : ℕ)
        → IsIn number (confirmed_of me (first_layout start.shape) (events_in start logs me))
        → number ≤ fence_after start host (logs host) at
    confirmed_fenced_at number confirmed =
        let s = after start host (logs host) in
        let heard : IsHeard me (first_layout start.shape) (events_in start logs me) number =
        confirmed_heard me (first_layout start.shape) (events_in start logs me) number confirmed in
        let has : HasTaken start host (logs host) at number =
        requests_high_past start all moment.cluster me there at fenced (logs host) (moment.inside host) number
        heard.rank (asked_later number heard.rank heard.is) (omega (arith, heard.counts c, confirmed_few)) in
        let low : has.set.number ≤ fence_or (fence_seen at s) s.standing.view.number =
        not_below has.set.number s.standing.view.number (fence_seen at s)
        (fences_are_there start moment.cluster.nobody me there at fenced (logs host))
        (taken_fenced start host (logs host) at has.x has.set has.says has.there) in
        subst (λ fence. number ≤ fence) (sym (fence_is s.parts at s.standing.view.number))
        (omega (arith, has.high, low))

pub confirmed_fenced_now : ConfirmedIsFenced
confirmed_fenced_now start all es moment member there number confirmed =
    confirmed_fenced_at start all es moment member there block.Tc tt number confirmed
