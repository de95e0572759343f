-- In each view at most one takeover is ordered: the host of the oldest member's membership sends as many orders, and
-- signals to go on to them, as it takes of the latter, and one more where it comes to the view; other hosts send none.
use Rattle.std.proofs.Common.{◌≡◌, ◌≢◌, ◌≤◌, ◌<◌, ◌+◌, ◌⊎◌, ◌==◌, ◌&&◌, ◌∙◌, ℕ, Bool, true, false, List, [], ◌∷◌, inl}
use Rattle.std.proofs.Common.{inr, length, nat_le, nat_lt, refl, sym, ap, arith, subst}
use Rattle.std.proofs.lemmas.Bool.{cases_eq, cases_lt, true≢false}
use Rattle.std.proofs.lemmas.Bool.Decides.{nat_tests}
use Rattle.std.specs.Prelude.{if◌then◌else◌}
use Rattle.run_theory.specs.Counts.{one_if as plain_one, total}
use Rattle.run_theory.specs.Lists.{IsIn}
use Rattle.run_theory.proofs.Pasts.{each_past}
use Rattle.run_theory.proofs.EventCases.{event_keeps}
use Rattle.host_laws.proofs.hosts.Sums.{total_add, total_le, total_zero, unit_few, total_same}
use Rattle.sig_core.specs.declared.member.Member.{Member}
use Rattle.sig_core.specs.declared.outs.Outgoing.{Outgoing}
use Rattle.sig_core.specs.declared.place.BlockId.{BlockId}
use Rattle.sig_core.specs.declared.place.Place.{Place}
use Rattle.sig_core.specs.declared.signal.Body.{Body}
use Rattle.sig_core.specs.declared.signal.Body.TheVariants.{Host, Takeover}
use Rattle.sig_core.specs.declared.signal.host.HostSignal.TheVariants.{Continue}
use Rattle.sig_core.specs.declared.signal.host.Work.TheVariants.{Members}
use Rattle.sig_core.specs.declared.signal.Signal.{Signal}
use Rattle.sig_core.specs.declared.signal.takeover.TakeoverSignal.TheVariants.{TakeoverOrd}
use Rattle.sig_core.specs.declared.view.View.{View}
use Rattle.tc_block.specs.Complete.{one_if}
use Rattle.qmgr_block.specs.Install.{is_oldest_of}
use Rattle.qmgr_block.specs.Sets.{members_of}
use Rattle.world_core.specs.Hosts.{hosts}
use Rattle.world_core.specs.Start.{NobodyStarts, Start, made}
use Rattle.world_core.specs.Steps.{HostStep}
use Rattle.world_views.specs.Machine.{step_after, machine}
use Rattle.view_laws.specs.Order.{sound_machine}
use Rattle.view_laws.specs.Runs.{WasInstalled, view_after}
use Rattle.view_laws.specs.Votes.{main_of}
use Rattle.view_laws.proofs.eras.Rises.{view_rises}
use Rattle.view_laws.proofs.runs.Headers.{headers_installed}
use Rattle.view_laws.proofs.runs.AllSound.{have_orderly}
use Rattle.view_laws.proofs.runs.ChosenViews.{one_view}
use Rattle.view_laws.proofs.memberships.SetTests.{same_is}
use Rattle.moment_laws.specs.Moments.{IsMoment, logs_of}
use Rattle.moment_laws.proofs.MomentTurns.{host_low}
use Rattle.moment_laws.proofs.MomentViews.{moment_less}
use Rattle.outcome_laws.proofs.coordinators.Lists.{one_few}
use Rattle.request_laws.specs.Tokens.{all_sent, all_taken, sent_along, taken_along}
use Rattle.request_laws.proofs.routes.Headers.{event_past, own_installed}
use Rattle.request_laws.proofs.tokens.SumsOverHosts.{few_taken}
use Rattle.request_laws.proofs.tokens.FirstInView.{all_taken_more, sent_now, taken_now}
use Rattle.commit_laws.proofs.drive.Kinds.{numbered}
use Rattle.commit_laws.proofs.drive.Ruled.{OrdersAreOnce, is_order}
use Rattle.commit_laws.proofs.orders.Counts.{count_orders, counts, quiet_none}
use Rattle.commit_laws.proofs.orders.Hosts.{OtherHost, host_is, MainHost}
use Rattle.commit_laws.proofs.orders.Main.{goes_from}
use Rattle.commit_laws.proofs.orders.Sent.{sent_few}
use Rattle.commit_laws.proofs.orders.Steps.{step_counts, step_none}
use Rattle.commit_laws.proofs.orders.Unseen.{unseen_none}
use Rattle.commit_laws.proofs.orders.Words.{AreQuiet, is_membership}

-- hosts without a membership order nothing, and send no membership a signal to go on
abbrev pub OthersAreQuiet : Type 0
OthersAreQuiet =
    (start : Start) → NobodyStarts start → (h : ℕ) → OtherHost start h → (log : List HostStep) (e : HostStep)
    → AreQuiet (step_after start h log e).effects.sends

-- the oldest member of a view installs it first, so its membership's host comes to it by no header
abbrev pub OldestGoFirst : Type 0
OldestGoFirst =
    (start : Start) (all : ℕ → List HostStep) (e : HostStep) (es : List HostStep) → IsMoment start all (e ∷ es)
    → (me : Member) → IsIn me (made start) → e.host ≡ main_of start me
    → (view_after start e.host (logs_of start es e.host)).number < e.step.taken.view.number
    → is_oldest_of me e.step.taken.view.full ≡ false

-- tests of numbers
below : (b c : Bool) → (b ≡ true → c ≡ true) → one_if b ≤ one_if c
below true c so = omega (arith, ap one_if (so refl))
below false c so = omega arith

reaches : (n a b : ℕ) → a ≤ b → nat_le n a ≡ true → nat_le n b ≡ true
reaches n a b low is = grind (arith, nat_tests)

grows : (c : Bool) (n a b : ℕ) → a ≤ b → one_if (c && nat_le n a) ≤ one_if (c && nat_le n b)
grows true n a b low = below (nat_le n a) (nat_le n b) (reaches n a b low)
grows false n a b low = omega arith

-- where the number is reached
turn : (n a b : ℕ) → b ≡ n → one_if (nat_lt a b) + one_if (nat_le n a) ≤ one_if (nat_le n b)
turn n a b at = by (cases_lt a b)
  where
    here : (a b n : ℕ) → b ≡ n → nat_le n b ≡ true
    here a b n at = grind (arith, nat_tests)

    under : (a b n : ℕ) → b ≡ n → a < b → nat_le n a ≡ false
    under a b n at less = grind (arith, nat_tests)

    still : (a b : ℕ) → b ≤ a → nat_lt a b ≡ false
    still a b less = grind (arith, nat_tests)

    by : (a < b) ⊎ (b ≤ a) → one_if (nat_lt a b) + one_if (nat_le n a) ≤ one_if (nat_le n b)
    by (inl less) = omega (arith, one_few (nat_lt a b), ap one_if (under a b n at less), ap one_if (here a b n at))
    by (inr more) = omega (arith, ap one_if (still a b more), one_few (nat_le n a), ap one_if (here a b n at))

reached : (c : Bool) → c ≡ true → (n a b : ℕ) → b ≡ n
    → one_if (nat_lt a b) + one_if (c && nat_le n a) ≤ one_if (c && nat_le n b)
reached true is n a b at = turn n a b at
reached false is n a b at = absurd (true≢false (sym is))

equal_self : (a b : ℕ) → a ≡ b → (a == b) ≡ true
equal_self a b same = grind (arith, nat_tests)

turned : (a b : ℕ) → one_if (a == b) ≡ one_if (b == a)
turned a b = by (cases_eq a b)
  where
    same : (a b : ℕ) → a ≡ b → (a == b) ≡ true
    same a b is = grind (arith, nat_tests)

    other : (a b : ℕ) → a ≢ b → (a == b) ≡ false
    other a b off = grind (arith, nat_tests)

    by : (a ≡ b) ⊎ (a ≢ b) → one_if (a == b) ≡ one_if (b == a)
    by (inl is) = ap one_if (same a b is) ∙ sym (ap one_if (same b a (sym is)))
    by (inr off) = ap one_if (other a b off) ∙ sym (ap one_if (other b a (λ is. off (sym is))))

-- the host of the oldest of these members
abbrev oldest_host : Start → List Member → ℕ
oldest_host start [] = 0
oldest_host start (member ∷ members) = main_of start member

oldest_at : (start : Start) (me : Member) (full : List Member) → is_oldest_of me full ≡ true
    → oldest_host start full ≡ main_of start me
oldest_at start me [] is = absurd (true≢false (sym is))
oldest_at start me (member ∷ members) is = ap (main_of start) (sym (same_is me member is))

module _ (others : OthersAreQuiet) (first : OldestGoFirst) (start : Start) (all : ℕ → List HostStep) (view : View)
    (was : WasInstalled start all view)
  where
    abbrev number : ℕ
    number = view.number

    -- the place of the order in the list
    abbrev last : ℕ
    last = length (members_of view)

    -- orders of the view, and signals to go on up to it
    abbrev counted : Signal → Bool
    counted x = counts last x.to.block x.body && (x.view.number == number)

    abbrev going : Signal → Bool
    going x = goes_from last number x.to.block x.view.number x.body

    -- the host is that of the oldest, and has come to the view
    abbrev stands : ℕ → List HostStep → Bool
    stands h log = (oldest_host start view.full == h) && nat_le number (view_after start h log).number

    abbrev Few : ℕ → List HostStep → Type 0
    Few h log = sent_along start counted h log ≤ taken_along start going log + one_if (stands h log)

    module _ (e : HostStep) (es : List HostStep) (moment : IsMoment start all (e ∷ es)) where
      abbrev old : List HostStep
      old = logs_of start es e.host

      abbrev behind : View
      behind = view_after start e.host (e ∷ old)

      abbrev sends : List Outgoing
      sends = (step_after start e.host old e).effects.sends

      abbrev Gains : Type 0
      Gains =
          sent_now start all e es moment counted + one_if (stands e.host old)
          ≤ taken_now start all e es moment going + one_if (stands e.host (e ∷ old))

      more : one_if (stands e.host old) ≤ one_if (stands e.host (e ∷ old))
      more =
          grows (oldest_host start view.full == e.host) number (view_after start e.host old).number behind.number
          (view_rises start moment.cluster.nobody e.host old e)

      module _ (same : behind.number ≡ number) where
        here : last ≡ length (members_of behind)
        here =
            ap (λ (v : View). length (members_of v))
            (sym (one_view have_orderly start all moment.cluster behind view (own_installed start all e es moment) was
            same))

        few : sent_now start all e es moment counted ≤ count_orders last sends
        few = sent_few (λ (to : Place). counts last to.block) start number e.host old e

        none : count_orders last sends ≡ 0 → Gains
        none nothing = omega (arith, few, nothing, more)

        module _ (me : Member) (there : IsIn me (made start)) (at : e.host ≡ main_of start me) where
          younger : (view_after start (main_of start me) old).number < e.step.taken.view.number
              → is_oldest_of me e.step.taken.view.full ≡ false
          younger =
              subst (λ h. (view_after start h old).number < e.step.taken.view.number
              → is_oldest_of me e.step.taken.view.full ≡ false) at (first start all e es moment me there at)

          here_at : last ≡ length (members_of (view_after start (main_of start me) (e ∷ old)))
          here_at = subst (λ h. last ≡ length (members_of (view_after start h (e ∷ old)))) at here

          young : is_oldest_of me view.full ≡ false → count_orders last sends ≡ 0
          young is =
              subst (λ h. count_orders last (step_after start h old e).effects.sends ≡ 0) (sym at)
              (step_none start moment.cluster.nobody me there old e younger last here_at
              (subst (λ h. is_oldest_of me (view_after start h (e ∷ old)).full ≡ false) at
              (subst (λ (v : View). is_oldest_of me v.full ≡ false)
              (sym (one_view have_orderly start all moment.cluster behind view (own_installed start all e es moment) was
              same))
              is)))

          own_counts : count_orders last sends
              ≤ one_if (nat_lt (view_after start e.host old).number behind.number)
              + (if (sound_machine start).asked e then 0
              else one_if (goes_from last behind.number e.step.taken.to.block e.step.taken.view.number
              e.step.taken.body))
          own_counts =
              subst (λ h. count_orders last (step_after start h old e).effects.sends
              ≤ one_if (nat_lt (view_after start h old).number (view_after start h (e ∷ old)).number)
              + (if (sound_machine start).asked e then 0
              else one_if (goes_from last (view_after start h (e ∷ old)).number e.step.taken.to.block
              e.step.taken.view.number e.step.taken.body))) (sym at)
              (step_counts start moment.cluster.nobody me there old e younger last here_at)

          old_gains : is_oldest_of me view.full ≡ true → Gains
          old_gains is =
              omega (
                arith,
                few,
                own_counts,
                ap (λ n. if (sound_machine start).asked e then 0
                    else one_if (goes_from last n e.step.taken.to.block e.step.taken.view.number e.step.taken.body))
                    same,
                reached (oldest_host start view.full == e.host)
                    (equal_self (oldest_host start view.full) e.host (oldest_at start me view.full is ∙ sym at)) number
                    (view_after start e.host old).number behind.number same,
              )

          own_gains : (b : Bool) → is_oldest_of me view.full ≡ b → Gains
          own_gains true is = old_gains is
          own_gains false is = none (young is)

        in_view : MainHost start e.host ⊎ OtherHost start e.host → Gains
        in_view (inl main) = own_gains main.me main.there main.at (is_oldest_of main.me view.full) refl
        in_view (inr other) = none (quiet_none last sends (others start moment.cluster.nobody e.host other old e))

      gains : Gains
      gains = by (cases_eq behind.number number)
        where
          by : (behind.number ≡ number) ⊎ (behind.number ≢ number) → Gains
          by (inl same) = in_view same (host_is start moment.cluster.nobody e.host (host_low start all e es moment))
          by (inr off) =
              let nothing : sent_now start all e es moment counted ≡ 0 =
              unseen_none start e.host old e number (λ x. counts last x.to.block x.body) off in
              omega (arith, nothing, more)

    hosts_few : (es : List HostStep) → IsMoment start all es → (h : ℕ) → Few h (logs_of start es h)
    hosts_few [] moment h = omega arith
    hosts_few (e ∷ es) moment h =
        event_keeps (machine start) e es Few (λ few. let gain = gains e es moment in omega (arith, few, gain)) h
        (hosts_few es (moment_less start all e es moment) h)

    module _ (es : List HostStep) (moment : IsMoment start all es) where
      abbrev logs : ℕ → List HostStep
      logs = logs_of start es

      one_stands : total (hosts start) (λ h. one_if (stands h (logs h))) ≤ 1
      one_stands =
          omega (
            arith,
            total_le (hosts start) (λ h. one_if (stands h (logs h)))
                (λ h. plain_one ((oldest_host start view.full == h) && true))
                (λ h low. less (oldest_host start view.full == h) (nat_le number (view_after start h (logs h)).number)),
            unit_few (hosts start) (oldest_host start view.full) true,
          )
        where
          less : (c d : Bool) → one_if (c && d) ≤ plain_one (c && true)
          less true true = omega arith
          less true false = omega arith
          less false d = omega arith

      all_few : all_sent start counted logs ≤ all_taken start going logs + 1
      all_few =
          omega (
            arith,
            total_le (hosts start) (λ h. sent_along start counted h (logs h))
                (λ h. taken_along start going (logs h) + one_if (stands h (logs h))) (λ h low. hosts_few es moment h),
            total_add (hosts start) (λ h. taken_along start going (logs h)) (λ h. one_if (stands h (logs h))),
            one_stands,
          )

      -- what is counted is an order, or goes on
      parts_of : (b : BlockId) (header : ℕ) (body : Body)
          → one_if (counts last b body && (header == number))
          ≡ one_if (is_order body && (header == number)) + one_if (goes_from last number b header body)
      parts_of b header (Takeover TakeoverOrd) = omega arith
      parts_of b header (Host (Continue Members at)) = by (is_membership b) (nat_le at last)
        where
          by : (c d : Bool) → one_if ((c && d) && (header == number)) ≡ 0 + one_if (c && (d && (number == header)))
          by true true = omega (arith, turned header number)
          by true false = omega arith
          by false d = omega arith
      parts_of b header body = omega arith

      along_parts : (log : List HostStep)
          → taken_along start counted log
          ≡ taken_along start (numbered number is_order) log + taken_along start going log
      along_parts [] = refl
      along_parts (e ∷ log) = by ((sound_machine start).asked e) (along_parts log)
        where
          by : (asked : Bool)
              → taken_along start counted log
              ≡ taken_along start (numbered number is_order) log + taken_along start going log
              → (if asked then 0 else one_if (counted e.step.taken)) + taken_along start counted log
              ≡ ((if asked then 0 else one_if (numbered number is_order e.step.taken))
              + taken_along start (numbered number is_order) log)
              + ((if asked then 0 else one_if (going e.step.taken)) + taken_along start going log)
          by true before = omega (arith, before)
          by false before =
              omega (
                arith,
                before,
                parts_of e.step.taken.to.block e.step.taken.view.number e.step.taken.body,
              )

      all_parts : all_taken start counted logs
          ≡ all_taken start (numbered number is_order) logs + all_taken start going logs
      all_parts =
          omega (
            arith,
            total_same (hosts start) (λ h. taken_along start counted (logs h))
                (λ h. taken_along start (numbered number is_order) (logs h) + taken_along start going (logs h))
                (λ h low. along_parts (logs h)),
            total_add (hosts start) (λ h. taken_along start (numbered number is_order) (logs h))
                (λ h. taken_along start going (logs h)),
          )

      view_once : all_taken start (numbered number is_order) logs ≤ 1
      view_once =
          omega (
            arith,
            all_parts,
            all_few,
            few_taken start counted (λ i log e j. refl) all es moment,
          )

pub orders_are_once : OthersAreQuiet → OldestGoFirst → OrdersAreOnce
orders_are_once others first start all [] moment number =
    let none = total_zero (hosts start) (λ h. 0) (λ h. refl) in omega (arith, none)
orders_are_once others first start all (e ∷ es) moment number =
    by (cases_eq e.step.taken.view.number number)
    (orders_are_once others first start all es (moment_less start all e es moment) number)
  where
    Once : ℕ → Type 0
    Once n = all_taken start (numbered n is_order) (logs_of start (e ∷ es)) ≤ 1

    was : WasInstalled start all e.step.taken.view
    was =
        (each_past (λ e. WasInstalled start all e.step.taken.view) (event_past start all e es moment)
        (headers_installed start all moment.cluster e.host (host_low start all e es moment))).0

    nothing : (asked c d : Bool) → d ≡ false → (if asked then 0 else one_if (c && d)) ≡ 0
    nothing true c d is = refl
    nothing false true d is = ap one_if is
    nothing false false d is = refl

    off_equal : (a b : ℕ) → a ≢ b → (a == b) ≡ false
    off_equal a b off = grind (arith, nat_tests)

    by : (e.step.taken.view.number ≡ number) ⊎ (e.step.taken.view.number ≢ number)
        → all_taken start (numbered number is_order) (logs_of start es) ≤ 1 → Once number
    by (inl same) before =
        subst Once same (view_once others first start all e.step.taken.view was (e ∷ es) moment)
    by (inr off) before =
        let none : taken_now start all e es moment (numbered number is_order) ≡ 0 =
        nothing ((sound_machine start).asked e) (is_order e.step.taken.body) (e.step.taken.view.number == number)
        (off_equal e.step.taken.view.number number off) in
        omega (arith, before, none, all_taken_more start all e es moment (numbered number is_order))
