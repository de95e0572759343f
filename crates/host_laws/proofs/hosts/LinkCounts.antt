-- How many signals of a kind were sent over a link and taken from it.
use Rattle.std.proofs.Common.{◌≡◌, ◌≢◌, ◌⊎◌, inl, inr, ℕ, ◌+◌, ◌≤◌, List, [], ◌∷◌, length, Bool, true, false, refl, ap}
use Rattle.std.proofs.Common.{arith}
use Rattle.std.specs.Prelude.{◌==◌, ◌*◌, ◌&&◌, if◌then◌else◌, not, position, Option, None, Some}
use Rattle.std.proofs.lemmas.Bool.{cases_eq}
use Rattle.std.proofs.lemmas.Bool.Decides.{nat_tests}
use Rattle.node_core.specs.Requests.{is_request}
use Rattle.run_theory.specs.Links.{is_from, put, sent, taken}
use Rattle.run_theory.specs.Lists.{Each}
use Rattle.world_core.specs.Steps.{Addressed, HostStep}
use Rattle.sig_core.specs.declared.member.Member.{Member}
use Rattle.sig_core.specs.declared.outs.Outgoing.{Outgoing}
use Rattle.sig_core.specs.declared.place.Part.{Part}
use Rattle.sig_core.specs.declared.place.Part.TheVariants.{Main, Tc, Ldm}
use Rattle.sig_core.specs.declared.place.Place.{Place}
use Rattle.sig_core.specs.declared.signal.Body.{Body}
use Rattle.world_core.specs.Machine.{addressed, all_addressed, counted, machine, sent_count, step_after}
use Rattle.frag_map.specs.Replicas.{is_member}
use Rattle.sig_core.specs.Part.{part_of}
use Rattle.world_core.specs.Hosts.{first_membership, host_at, host_by, host_for, member_of, receiver}
use Rattle.world_core.specs.Start.{Start, made}
use Rattle.run_theory.proofs.Tally.{and_few}
use Rattle.run_theory.specs.Counts.{one_if, tally}
use Rattle.host_laws.proofs.api.Wishes.{sends_of, to_node}

-- what a link gave, which is no request, and passes a test
pub all_three : (a b c : Bool) → a ≡ false → b ≡ true → c ≡ true → ((not a && b) && c) ≡ true
all_three false true c p q r = r
all_three false false c p q r = cc
all_three true b c p q r = cc

-- what is for a host and passes a test
abbrev pub to_host : Start → ℕ → (Place → Body → Bool) → Place → Body → Bool
to_host start host test to body = (host_for start to == host) && test to body

-- how many signals of a list pass a test
abbrev pub signals : (Place → Body → Bool) → List Addressed → ℕ
signals test xs = tally (λ (x : Addressed). test x.signal.to x.signal.body) xs

-- how many steps of a log took one that does
abbrev pub steps : (Place → Body → Bool) → List HostStep → ℕ
steps test log = tally (λ (e : HostStep). test e.step.taken.to e.step.taken.body) log

module _ (start : Start) where
  put_signals : (test : Place → Body → Bool) (j : ℕ) (h stamp : ℕ) (count : ℕ → ℕ) (sends : List Outgoing)
      (before : List Addressed)
      → signals test (put (machine start) j (all_addressed (first_membership start) h stamp count sends) before)
      ≡ sends_of (to_host start j test) sends + signals test before
  put_signals test j h stamp count [] before = omega arith
  put_signals test j h stamp count (sent ∷ more) before =
      let x = addressed (first_membership start) h stamp (count (host_for start sent.to)) sent in
      let rest : signals test (put (machine start) j (all_addressed (first_membership start) h stamp
      (counted (host_for start sent.to) count) more) (if host_for start sent.to == j then x ∷ before else before))
      ≡ sends_of (to_host start j test) more
      + signals test (if host_for start sent.to == j then x ∷ before else before) =
      put_signals test j h stamp (counted (host_for start sent.to) count) more
      (if host_for start sent.to == j then x ∷ before else before) in
      let here = first x (host_for start sent.to == j) in
      omega (arith, rest, here)
    where
      first : (x : Addressed) (b : Bool)
          → signals test (if b then x ∷ before else before)
          ≡ one_if (b && test x.signal.to x.signal.body) + signals test before
      first x true = refl
      first x false = omega arith

  -- one more step of the sender
  pub sent_signals : (test : Place → Body → Bool) (i j : ℕ) (e : HostStep) (log : List HostStep)
      → signals test (sent (machine start) i j (e ∷ log))
      ≡ sends_of (to_host start j test) (step_after start i log e).effects.sends
      + signals test (sent (machine start) i j log)
  sent_signals test i j e log = put_signals test j i e.step.stamp (sent_count start i log)
      (step_after start i log e).effects.sends (sent (machine start) i j log)

  -- one more step of the taker
  pub taken_signals : (test : Place → Body → Bool) (i : ℕ) (e : HostStep) (log : List HostStep)
      → signals test (taken (machine start) i (e ∷ log))
      ≡ one_if (is_from (machine start) i e && test e.step.taken.to e.step.taken.body)
      + signals test (taken (machine start) i log)
  taken_signals test i e log = go (is_from (machine start) i e)
    where
      go : (b : Bool)
          → signals test (if b then record { to = e.host; signal = e.step.taken } ∷ taken (machine start) i log else
          taken (machine start) i log) ≡ one_if (b && test e.step.taken.to e.step.taken.body)
          + signals test (taken (machine start) i log)
      go true = refl
      go false = omega arith

  -- what is so of each signal of a step is so of each that a host sent
  put_truths : (P : Addressed → Type 0) (j : ℕ) (h stamp : ℕ) (count : ℕ → ℕ) (sends : List Outgoing)
      (before : List Addressed)
      → Each (λ (o : Outgoing). (number : ℕ) → P (addressed (first_membership start) h stamp number o)) sends
      → Each P before
      → Each P (put (machine start) j (all_addressed (first_membership start) h stamp count sends) before)
  put_truths P j h stamp count [] before all rest = rest
  put_truths P j h stamp count (sent ∷ more) before all rest =
      put_truths P j h stamp (counted (host_for start sent.to) count) more _ all.1 (first (host_for start sent.to == j))
    where
      first : (b : Bool)
          → Each P (if b then addressed (first_membership start) h stamp (count (host_for start sent.to)) sent ∷ before
          else before)
      first true = (all.0 (count (host_for start sent.to)), rest)
      first false = rest

  pub sent_truths : (P : Addressed → Type 0) (i j : ℕ)
      → ((e : HostStep) (log : List HostStep) → Each (λ (o : Outgoing). (number : ℕ) → P
      (addressed (first_membership start) i e.step.stamp number o)) (step_after start i log e).effects.sends)
      → (log : List HostStep) → Each P (sent (machine start) i j log)
  sent_truths P i j all [] = tt
  sent_truths P i j all (e ∷ log) =
      put_truths P j i e.step.stamp (sent_count start i log) (step_after start i log e).effects.sends
      (sent (machine start) i j log) (all e log) (sent_truths P i j all log)

  -- no more are taken from a link than are taken
  pub taken_steps : (test : Place → Body → Bool) (i : ℕ) (log : List HostStep)
      → signals test (taken (machine start) i log) ≤ steps test log
  taken_steps test i [] = omega arith
  taken_steps test i (e ∷ log) = omega (
    arith,
    taken_signals test i e log,
    taken_steps test i log,
    and_few
        (is_from (machine start) i e) (test e.step.taken.to e.step.taken.body),
  )

  -- the shell's host is the one of node 0
  pub at_shell : (to : Place) → (host_for start to == 0) ≡ (to.node == 0)
  unfolding receiver
  at_shell to = go (to.node == 0)
    where
      other : (place : Option ℕ) (part : Part) → (host_at (length (made start) * 3 + 1) part place == 0) ≡ false
      other None part = grind (arith, nat_tests)
      other (Some at) Main = grind (arith, nat_tests)
      other (Some at) Tc = grind (arith, nat_tests)
      other (Some at) Ldm = grind (arith, nat_tests)

      some : (member : Option Member) → (host_by (made start) (part_of to.block) member == 0) ≡ false
      some None = other None Main
      some (Some member) = other (position (is_member member) (made start)) (part_of to.block)

      go : (b : Bool)
          → ((if b then 0 else host_by (made start) (part_of to.block)
          (member_of (first_membership start).view to.node)) == 0) ≡ b
      go true = refl
      go false = some (member_of (first_membership start).view to.node)

  -- so what is sent to it is what is for node 0
  pub sent_to_shell : (test : Place → Body → Bool) (sends : List Outgoing)
      → sends_of (to_host start 0 test) sends ≡ sends_of (to_node 0 test) sends
  sent_to_shell test [] = refl
  sent_to_shell test (sent ∷ more) =
      omega (arith, ap (λ b. one_if (b && test sent.to sent.body)) (at_shell sent.to), sent_to_shell test more)

  pub shell_signals : (test : Place → Body → Bool) (i : ℕ) (e : HostStep) (log : List HostStep)
      → signals test (sent (machine start) i 0 (e ∷ log))
      ≡ sends_of (to_node 0 test) (step_after start i log e).effects.sends + signals test (sent (machine start) i 0 log)
  shell_signals test i e log =
      omega (arith, sent_signals test i 0 e log, sent_to_shell test (step_after start i log e).effects.sends)

  -- to one host no more is sent than to all
  pub few_sends : (j : ℕ) (test : Place → Body → Bool) (sends : List Outgoing)
      → sends_of (to_host start j test) sends ≤ sends_of test sends
  few_sends j test [] = omega arith
  few_sends j test (x ∷ xs) = omega (arith, few_sends j test xs, and_few (host_for start x.to == j) (test x.to x.body))

  -- steps that took a signal which one host alone sends took it from that host
  pub steps_from : (test : Place → Body → Bool) (i : ℕ)
      → ((to : Place) (body : Body) → test to body ≡ true → is_request body ≡ false)
      → (log : List HostStep) → ((k : ℕ) → k ≢ i → signals test (taken (machine start) k log) ≡ 0)
      → steps test log ≤ signals test (taken (machine start) i log)
  steps_from test i plain [] none = omega arith
  steps_from test i plain (e ∷ log) none =
      go (test e.step.taken.to e.step.taken.body) refl
      (steps_from test i plain log (λ k differs. omega (arith, none k differs, taken_signals test k e log)))
    where
      from : (k : ℕ) → e.step.taken.from.0 ≡ k → test e.step.taken.to e.step.taken.body ≡ true
          → (is_from (machine start) k e && test e.step.taken.to e.step.taken.body) ≡ true
      from k at is =
          all_three (is_request e.step.taken.body) (e.step.taken.from.0 == k) (test e.step.taken.to e.step.taken.body)
          (plain e.step.taken.to e.step.taken.body is) (grind (arith, nat_tests, at)) is

      go : (b : Bool) → test e.step.taken.to e.step.taken.body ≡ b
          → steps test log ≤ signals test (taken (machine start) i log)
          → one_if b + steps test log ≤ signals test (taken (machine start) i (e ∷ log))
      go false is less = omega (arith, less, taken_signals test i e log)
      go true is less = at (cases_eq e.step.taken.from.0 i)
        where
          at : (e.step.taken.from.0 ≡ i) ⊎ (e.step.taken.from.0 ≢ i)
              → one_if true + steps test log ≤ signals test (taken (machine start) i (e ∷ log))
          at (inl same) = omega (arith, less, taken_signals test i e log, ap one_if (from i same is))
          at (inr differs) = absurd (omega (
            arith,
            none e.step.taken.from.0 differs,
            taken_signals test
                e.step.taken.from.0 e log,
            ap one_if (from e.step.taken.from.0 refl is),
          ))
