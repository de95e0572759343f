-- The first moment in a view: no token has its number yet, and no host stands in it; and sums over members.
use Rattle.std.proofs.Common.{◌≡◌, ◌≢◌, ◌≤◌, ◌<◌, ◌+◌, ◌⊎◌, ◌==◌, ◌&&◌, ◌++◌, ℕ, zero, suc, Bool, true, false, List, []}
use Rattle.std.proofs.Common.{◌∷◌, refl, sym, ap, subst, arith, inl, inr}
use Rattle.std.proofs.lemmas.Bool.{cases_eq, eqb-true}
use Rattle.std.specs.Prelude.{if◌then◌else◌}
use Rattle.std.specs.List.{count_by}
use Rattle.frag_map.specs.Layout.{members}
use Rattle.run_theory.specs.Links.{sent_by}
use Rattle.run_theory.specs.Lists.{Each, IsIn}
use Rattle.run_theory.proofs.Links.{sent_by_each}
use Rattle.run_theory.proofs.Pasts.{each_filter, each_map}
use Rattle.host_laws.proofs.hosts.Sums.{total_one, total_same, total_zero}
use Rattle.sig_core.specs.declared.member.Member.{Member}
use Rattle.sig_core.specs.declared.signal.Body.{Body}
use Rattle.sig_core.specs.declared.signal.Signal.{Signal}
use Rattle.sig_core.specs.declared.view.View.{View}
use Rattle.tc_block.specs.Complete.{one_if}
use Rattle.world_core.proofs.MadeFirst.{made_first}
use Rattle.world_core.specs.Hosts.{hosts}
use Rattle.world_core.specs.Start.{NobodyStarts, Start, made}
use Rattle.world_core.specs.Steps.{Addressed, HostStep}
use Rattle.world_views.specs.Machine.{signals_of}
use Rattle.view_laws.specs.Order.{is_sound, sound_machine}
use Rattle.view_laws.specs.Runs.{view_after}
use Rattle.view_laws.proofs.eras.Rises.{view_rises}
use Rattle.view_laws.proofs.follow.Senders.{each_from}
use Rattle.moment_laws.specs.Moments.{IsMoment, logs_of}
use Rattle.moment_laws.proofs.MomentTurns.{host_low, other_log, own_log}
use Rattle.moment_laws.proofs.MomentViews.{current_above, current_number}
use Rattle.outcome_laws.proofs.coordinators.Lists.{count_more}
use Rattle.request_laws.specs.Tokens.{all_sent, all_taken, sent_along, taken_along, total_of}

-- sums over members
pub total_of_same : (ms : List Member) (f g : Member → ℕ) → ((m : Member) → IsIn m ms → f m ≡ g m)
    → total_of ms f ≡ total_of ms g
total_of_same [] f g same = refl
total_of_same (m ∷ ms) f g same =
    omega (arith, same m (inl refl), total_of_same ms f g (λ x there. same x (inr there)))

pub total_of_zero : (ms : List Member) (f : Member → ℕ) → ((m : Member) → IsIn m ms → f m ≡ 0) → total_of ms f ≡ 0
total_of_zero [] f none = refl
total_of_zero (m ∷ ms) f none = omega (arith, none m (inl refl), total_of_zero ms f (λ x there. none x (inr there)))

-- a total with one member more
pub total_of_last : (ms : List Member) (m : Member) (f : Member → ℕ) → total_of (ms ++ m ∷ []) f ≡ total_of ms f + f m
total_of_last [] m f = omega arith
total_of_last (x ∷ ms) m f = omega (arith, total_of_last ms m f)

abbrev pub node_of : ℕ → Member
node_of node = record { node = node; start = 0 }

-- one of them changes: that of a node
pub total_of_one : (n : ℕ) (f g : Member → ℕ) (node : ℕ) → 1 ≤ node → node ≤ n
    → ((k : ℕ) → 1 ≤ k → k ≤ n → k ≢ node → g (node_of k) ≡ f (node_of k))
    → total_of (members n) g + f (node_of node) ≡ total_of (members n) f + g (node_of node)
total_of_one zero f g node some low same = absurd (omega (arith, some, low))
total_of_one (suc n) f g node some low same =
    by (cases_eq (n + 1) node) (total_of_one n f g node some)
  where
    last_f : total_of (members (suc n)) f ≡ total_of (members n) f + f (node_of (n + 1))
    last_f = total_of_last (members n) (node_of (n + 1)) f

    last_g : total_of (members (suc n)) g ≡ total_of (members n) g + g (node_of (n + 1))
    last_g = total_of_last (members n) (node_of (n + 1)) g

    by : ((n + 1) ≡ node) ⊎ ((n + 1) ≢ node)
        → (node ≤ n → ((k : ℕ) → 1 ≤ k → k ≤ n → k ≢ node → g (node_of k) ≡ f (node_of k))
        → total_of (members n) g + f (node_of node) ≡ total_of (members n) f + g (node_of node))
        → total_of (members (suc n)) g + f (node_of node) ≡ total_of (members (suc n)) f + g (node_of node)
    by (inl at) rest =
        omega (
          arith,
          last_f,
          last_g,
          below n (omega (arith, at)),
          ap (λ k. f (node_of k)) at,
          ap (λ k. g (node_of k)) at,
        )
      where
        below : (m : ℕ) → m < node → total_of (members m) g ≡ total_of (members m) f
        below zero high = refl
        below (suc m) high =
            omega (
              arith,
              total_of_last (members m) (node_of (m + 1)) f,
              total_of_last (members m) (node_of (m + 1)) g,
              below m (omega (arith, high)),
              same (m + 1) (omega arith) (omega (arith, high, low)) (λ is. absurd (omega (arith, is, high))),
            )
    by (inr other) rest =
        omega (
          arith,
          last_f,
          last_g,
          same (n + 1) (omega arith) (omega arith) other,
          rest (omega (arith, low, other)) (λ k some low. same k some (omega (arith, low))),
        )

-- so it is of those that are made
pub total_of_made : (start : Start) (nobody : NobodyStarts start) (f g : Member → ℕ) (node : ℕ) → 1 ≤ node
    → node ≤ start.shape.nodes
    → ((k : ℕ) → 1 ≤ k → k ≤ start.shape.nodes → k ≢ node → g (node_of k) ≡ f (node_of k))
    → total_of (made start) g + f (node_of node) ≡ total_of (made start) f + g (node_of node)
total_of_made start nobody f g node some low same =
    subst (λ (ms : List Member). total_of ms g + f (node_of node) ≡ total_of ms f + g (node_of node))
    (sym (made_first start nobody)) (total_of_one start.shape.nodes f g node some low same)

-- signals that pass a test of their bodies, in the view of a number
module _ (start : Start) (nobody : NobodyStarts start) (q : Body → Bool) (number : ℕ) where
  abbrev p : Signal → Bool
  p x = q x.body && (x.view.number == number)

  -- none was sent by a host that stands below it
  low_none : (xs : List Addressed) → Each (λ (x : Addressed). x.signal.view.number < number) xs
      → count_by (λ (x : Addressed). p x.signal) xs ≡ 0
  low_none [] low = refl
  low_none (x ∷ xs) low =
      omega (
        arith,
        count_more (λ (x : Addressed). p x.signal) x xs,
        ap one_if (off x.signal low.0),
        low_none xs low.1,
      )
    where
      off : (x : Signal) → x.view.number < number → p x ≡ false
      off x low = by (q x.body) (x.view.number == number) refl
        where
          by : (b c : Bool) → (x.view.number == number) ≡ c → (b && c) ≡ false
          by false c e = refl
          by true false e = refl
          by true true e = absurd (omega (arith, low, eqb-true x.view.number number e))

  pub sent_low_none : (h : ℕ) (log : List HostStep) → (view_after start h log).number < number
      → sent_along start p h log ≡ 0
  sent_low_none h [] low = refl
  sent_low_none h (e ∷ log) low =
      let rises = view_rises start nobody h log e in
      omega (
        arith,
        low_none (sent_by (sound_machine start) h log e)
            (sent_by_each (sound_machine start) (λ (x : Addressed). x.signal.view.number < number) h log e
            (λ goes. each_filter _ (is_sound start) (signals_of start h log e)
            (each_map _ (λ (x : Addressed). x.signal.view.number < number) (signals_of start h log e)
            (λ x one. let same = ap (λ (v : View). v.number) one.view_is in omega (arith, same, low))
            (each_from start h log e)))),
        sent_low_none h log (omega (arith, low, rises)),
      )

  -- where it is above the current view none was sent at all
  pub all_sent_none : (logs : ℕ → List HostStep) → current_number start logs < number → all_sent start p logs ≡ 0
  all_sent_none logs above =
      omega (
        arith,
        total_same (hosts start) (λ h. sent_along start p h (logs h)) (λ h. 0)
            (λ h low.
            let under =
            current_above start logs nobody h low in sent_low_none h (logs h) (omega (arith, under, above))),
        total_zero (hosts start) (λ h. 0) (λ h. refl),
      )

-- an event adds what it sends and what it takes
module _ (start : Start) (all : ℕ → List HostStep) (e : HostStep) (es : List HostStep)
    (moment : IsMoment start all (e ∷ es)) (p : Signal → Bool)
  where
    abbrev old : ℕ → List HostStep
    old = logs_of start es

    abbrev new : ℕ → List HostStep
    new = logs_of start (e ∷ es)

    -- of these signals the event sends so many, and takes one or none
    abbrev pub sent_now : ℕ
    sent_now = count_by (λ (x : Addressed). p x.signal) (sent_by (sound_machine start) e.host (old e.host) e)

    abbrev pub taken_now : ℕ
    taken_now = if (sound_machine start).asked e then 0 else one_if (p e.step.taken)

    others_apart : (k : ℕ) → k ≢ e.host → new k ≡ old k
    others_apart k off = other_log start all e es moment k (λ is. off (sym is))

    pub all_sent_more : all_sent start p new ≡ all_sent start p old + sent_now
    all_sent_more =
        omega (
          arith,
          total_one (hosts start) (λ h. sent_along start p h (old h)) (λ h. sent_along start p h (new h)) e.host
              (host_low start all e es moment)
              (λ k off. ap (sent_along start p k) (others_apart k off)),
          ap (sent_along start p e.host) (own_log start all e es moment),
        )

    pub all_taken_more : all_taken start p new ≡ all_taken start p old + taken_now
    all_taken_more =
        omega (
          arith,
          total_one (hosts start) (λ h. taken_along start p (old h)) (λ h. taken_along start p (new h)) e.host
              (host_low start all e es moment)
              (λ k off. ap (taken_along start p) (others_apart k off)),
          ap (taken_along start p) (own_log start all e es moment),
        )
