-- The host of a transaction's coordinator tells of its begin once, and asks for its epoch once, and no other host does:
-- so each host is told of it, and asked, once at most.
use Rattle.std.proofs.Common.{◌≡◌, ◌≢◌, ◌≤◌, ◌<◌, ◌⊎◌, ◌∙◌, ℕ, Bool, false, List, [], ◌∷◌, ap, arith, inl, inr}
use Rattle.std.proofs.Common.{refl, subst, sym}
use Rattle.std.proofs.lemmas.Bool.{cases_lt}
use Rattle.run_theory.specs.Lists.{IsIn}
use Rattle.sig_core.specs.declared.member.Member.{Member}
use Rattle.sig_core.specs.declared.member.TxId.{TxId}
use Rattle.sig_core.specs.declared.place.Place.{Place}
use Rattle.sig_core.specs.declared.signal.Body.{Body}
use Rattle.sig_core.specs.declared.signal.Body.TheVariants.{Host}
use Rattle.frag_map.specs.Layout.{first_layout}
use Rattle.tc_block.specs.Complete.{one_if}
use Rattle.node_views.specs.declared.host_body.HostBody as node
use Rattle.node_views.specs.declared.parts.Parts.{Parts}
use Rattle.node_views.specs.declared.parts.Parts.TheVariants as part
use Rattle.tc_views.specs.Coordinator.{fresh_coordinator}
use Rattle.tc_views.specs.State.{CoordinatorState}
use Rattle.world_core.specs.Hosts.{hosts}
use Rattle.world_core.specs.Start.{NobodyStarts, Start, made}
use Rattle.world_core.specs.Steps.{HostStep}
use Rattle.world_views.specs.Hosts.{started}
use Rattle.view_laws.specs.Runs.{AreOfCluster}
use Rattle.moment_laws.proofs.MomentHosts.{HasNoTc, TcHost, of_none, of_tc, tc_host_is, tc_started}
use Rattle.moment_laws.specs.Places.{tc_of}
use Rattle.outcome_laws.proofs.coordinators.Lists.{one_few}
use Rattle.outcome_laws.specs.Counts.{coordinator_member, is_asking, is_begin, is_unborn, may_ask}
use Rattle.outcome_laws.specs.Once.{takes_in}
use Rattle.outcome_laws.specs.Own.{IsOwnAt}
use Rattle.outcome_laws.proofs.once.TakenFromLinks.{AreSentOnly, takes_few}
use Rattle.outcome_laws.proofs.once.AlongLogs.{link_count, log_light, sends_in}
use Rattle.outcome_laws.proofs.once.NobodyElse.{apart_light, asking_coordinators, asks_apart, begin_coordinators}
use Rattle.outcome_laws.proofs.once.NobodyElse.{begins_apart, no_tc_light, nothing, of_nobody}
use Rattle.outcome_laws.proofs.once.Counted.{is_counted, uncounted_asking, uncounted_begin}
use Rattle.outcome_laws.proofs.client.SendsNoAnswers.{is_coordinators}
use Rattle.outcome_laws.proofs.once.Scales.{AreLight}
use Rattle.outcome_laws.proofs.once.CoordinatorScale.{IsTcOf, coordinator_light, no_body, of_coordinator}
use Rattle.outcome_laws.proofs.coordinators.BeginsAndAsks.{asks_once, asks_once_installed, begins_once}
use Rattle.outcome_laws.proofs.coordinators.BeginsAndAsks.{begins_once_installed}
use Rattle.outcome_laws.proofs.coordinators.BeginsAndAsks.{coordinator_of_fresh}

-- no signal adds to what may be sent
pub none_taken : (log : List HostStep) → takes_in no_body log ≡ 0
none_taken [] = refl
none_taken (e ∷ log) = let more = none_taken log in omega (arith, more)

-- a member's coordinator begins as one of it
pub tc_begins : (start : Start) (nobody : NobodyStarts start) (me : Member) → IsIn me (made start)
    → IsTcOf me (started start (tc_of start me)).parts
tc_begins start nobody me there =
    subst (λ (s : node.HostBody). IsTcOf me s.parts) (sym (tc_started start nobody me there))
    (coordinator_of_fresh me (first_layout start.shape))

-- what may be sent at first where nothing ever is
pub none_fresh : (p : Body → Bool) (parts : Parts) → (of_coordinator p nothing).may parts ≡ 0
none_fresh p (part.Tc q) = refl
none_fresh p (part.Shell q) = refl
none_fresh p (part.Main q) = refl
none_fresh p (part.Ldm q) = refl

module _ (p : Body → Bool) (counts : (body : Body) → is_counted body ≡ false → p body ≡ false) (start : Start)
    (logs : ℕ → List HostStep) (are : AreOfCluster start logs)
  where
    -- a coordinator that sends none of a kind
    pub apart_sends : (me : Member) → IsIn me (made start)
        → ((to : Place) (body : Body) → IsOwnAt me to body → p body ≡ false)
        → sends_in p start (tc_of start me) (logs (tc_of start me)) ≡ 0
    apart_sends me there apart =
        let h = tc_of start me in
        let is =
        log_light (of_coordinator p nothing) (IsTcOf me) (apart_light me p counts apart) start h
        (tc_begins start are.nobody me there) (logs h) (are.right.local h) in
        omega (arith, is.below, none_taken (logs h), none_fresh p (started start h).parts)

    -- and one that may send it once at first
    pub own_sends : (me : Member) → IsIn me (made start) → (may : CoordinatorState → ℕ)
        → AreLight (of_coordinator p may) (IsTcOf me)
        → may (fresh_coordinator me.node me.start (first_layout start.shape)) ≤ 1
        → sends_in p start (tc_of start me) (logs (tc_of start me)) ≤ 1
    own_sends me there may light once =
        let h = tc_of start me in
        let is =
        log_light (of_coordinator p may) (IsTcOf me) light start h (tc_begins start are.nobody me there) (logs h)
        (are.right.local h) in
        let fresh : (of_coordinator p may).may (started start h).parts
        ≡ may (fresh_coordinator me.node me.start (first_layout start.shape)) =
        ap (λ (s : node.HostBody). (of_coordinator p may).may s.parts) (tc_started start are.nobody me there) in
        omega (arith, is.below, none_taken (logs h), fresh, once)

    -- a host without a coordinator
    pub no_tc_sends : ((body : Body) → is_coordinators body ≡ false → p body ≡ false) → (h : ℕ)
        → HasNoTc (started start h).parts → sends_in p start h (logs h) ≡ 0
    no_tc_sends coordinators h none =
        let is =
        log_light (of_nobody p) HasNoTc (no_tc_light p counts coordinators) start h none (logs h)
        (are.right.local h) in
        omega (arith, is.below, none_taken (logs h))

    -- a host that isn't there
    pub nowhere_sends : (h : ℕ) → hosts start ≤ h → sends_in p start h (logs h) ≡ 0
    nowhere_sends h high = ap (sends_in p start h) (are.within h high)

-- how often a coordinator may ask for the epoch of a transaction
pub ask_light : (tx : TxId) (me : Member) → AreLight (of_coordinator (is_asking tx) (λ s. may_ask s tx)) (IsTcOf me)
ask_light tx me =
    coordinator_light (is_asking tx) (uncounted_asking tx) me (λ s. may_ask s tx) (λ s x of. asks_once me tx s x of)
    (λ s view of. asks_once_installed tx s view)

module _ (tx : TxId) (start : Start) (logs : ℕ → List HostStep) (are : AreOfCluster start logs) where
  -- what the coordinator of a member alone sends, once
  record IsOnce (p : Body → Bool) : Type 0 where
    counts : (body : Body) → is_counted body ≡ false → p body ≡ false
    coordinators : (body : Body) → is_coordinators body ≡ false → p body ≡ false
    apart : (me : Member) → (coordinator_member tx ≡ me → ⊥) → (to : Place) (body : Body) → IsOwnAt me to body
        → p body ≡ false
    may : CoordinatorState → ℕ
    light : (me : Member) → AreLight (of_coordinator p may) (IsTcOf me)
    first : (me : Member) → may (fresh_coordinator me.node me.start (first_layout start.shape)) ≤ 1

  module _ (p : Body → Bool) (once : IsOnce p) where
    others_send : (h : ℕ) → h ≢ tc_of start (coordinator_member tx) → sends_in p start h (logs h) ≡ 0
    others_send h other = by (cases_lt h (hosts start))
      where
        of_host : TcHost start h → sends_in p start h (logs h) ≡ 0
        of_host (of_none none) = no_tc_sends p once.counts start logs are once.coordinators h none
        of_host (of_tc me there at) =
            subst (λ (k : ℕ). sends_in p start k (logs k) ≡ 0) (sym at)
            (apart_sends p once.counts start logs are me there
            (once.apart me (λ same. other (at ∙ ap (tc_of start) (sym same)))))

        by : (h < hosts start) ⊎ (hosts start ≤ h) → sends_in p start h (logs h) ≡ 0
        by (inl low) = of_host (tc_host_is start are.nobody h low)
        by (inr high) = nowhere_sends p once.counts start logs are h high

    its_own_sends :
        sends_in p start (tc_of start (coordinator_member tx)) (logs (tc_of start (coordinator_member tx))) ≤ 1
    its_own_sends = by (cases_lt h (hosts start))
      where
        h : ℕ
        h = tc_of start (coordinator_member tx)

        none_few : (k : ℕ) → sends_in p start k (logs k) ≡ 0 → sends_in p start k (logs k) ≤ 1
        none_few k none = omega (arith, none)

        of_host : TcHost start h → sends_in p start h (logs h) ≤ 1
        of_host (of_none none) = none_few h (no_tc_sends p once.counts start logs are once.coordinators h none)
        of_host (of_tc me there at) =
            subst (λ (k : ℕ). sends_in p start k (logs k) ≤ 1) (sym at)
            (own_sends p once.counts start logs are me there once.may (once.light me) (once.first me))

        by : (h < hosts start) ⊎ (hosts start ≤ h) → sends_in p start h (logs h) ≤ 1
        by (inl low) = of_host (tc_host_is start are.nobody h low)
        by (inr high) = none_few h (nowhere_sends p once.counts start logs are h high)

    -- so no host takes it twice
    taken_once : AreSentOnly p → (j : ℕ) → takes_in p (logs j) ≤ 1
    taken_once only j =
        let h = tc_of start (coordinator_member tx) in
        omega (
          arith,
          takes_few p only start h logs are.right j
              (λ i other. omega (arith, others_send i other, link_count p start i j (logs i))),
          link_count p start h j (logs h),
          its_own_sends,
        )

  begin_light : (me : Member) → AreLight (of_coordinator (is_begin tx) (λ s. one_if (is_unborn s tx))) (IsTcOf me)
  begin_light me =
      coordinator_light (is_begin tx) (uncounted_begin tx) me (λ s. one_if (is_unborn s tx))
      (λ s x of. begins_once me tx s x of) (λ s view of. begins_once_installed tx s view)

  begins_are : IsOnce (is_begin tx)
  begins_are = record {
    counts = uncounted_begin tx;
    coordinators = begin_coordinators tx;
    apart = begins_apart tx;
    may = λ s. one_if (is_unborn s tx);
    light = begin_light;
    first = λ me. one_few (is_unborn (fresh_coordinator me.node me.start (first_layout start.shape)) tx);
  }

  asks_are : IsOnce (is_asking tx)
  asks_are = record {
    counts = uncounted_asking tx;
    coordinators = asking_coordinators tx;
    apart = asks_apart tx;
    may = λ s. may_ask s tx;
    light = ask_light tx;
    first = λ me.
        let ones = one_few (is_unborn (fresh_coordinator me.node me.start (first_layout start.shape)) tx) in
        omega (arith, ones);
  }

  only_begins : AreSentOnly (is_begin tx)
  only_begins (Host signal) own = refl
  only_begins body own = absurd cc

  pub only_asks : AreSentOnly (is_asking tx)
  only_asks (Host signal) own = refl
  only_asks body own = absurd cc

  pub asks_elsewhere : (h : ℕ) → h ≢ tc_of start (coordinator_member tx)
      → sends_in (is_asking tx) start h (logs h) ≡ 0
  asks_elsewhere = others_send (is_asking tx) asks_are

  -- whatever host it is, it is told of the begin once at most, and asked for an epoch once at most
  pub begin_once : (j : ℕ) → takes_in (is_begin tx) (logs j) ≤ 1
  begin_once = taken_once (is_begin tx) begins_are only_begins

  pub ask_once : (j : ℕ) → takes_in (is_asking tx) (logs j) ≤ 1
  ask_once = taken_once (is_asking tx) asks_are only_asks
