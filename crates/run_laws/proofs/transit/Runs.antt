-- After each run some signals are in transit: of each link those that were sent and weren't taken.
use Rattle.std.proofs.Common.{◌≡◌, ◌≢◌, ◌⊎◌, ℕ, Bool, true, false, List, [], ◌∷◌, ◌++◌, refl, sym, ap, ◌∙◌, subst, inl}
use Rattle.std.proofs.Common.{inr}
use Rattle.std.proofs.lemmas.Bool.{cases_eq, eq-eqb, ne_eqb}
use Rattle.std.specs.Prelude.{◌==◌, ◌&&◌, if◌then◌else◌}
use Rattle.std.proofs.lemmas.List.{append_assoc, append_cancel_right}
use Rattle.run_theory.proofs.EventCases.{event_each, event_moves}
use Rattle.run_theory.proofs.Runs.{if_false, if_true, log_of-own, taken-asked, taken-other, taken-step}
use Rattle.run_theory.specs.Links.{put, sent, taken}
use Rattle.run_theory.specs.Lists.{Each, IsPast}
use Rattle.world_core.specs.Steps.{Addressed, HostStep}
use Rattle.sig_core.specs.declared.outs.Outgoing.{Outgoing}
use Rattle.node_core.specs.Requests.{is_request}
use Rattle.world_core.proofs.HostNumbers.{given_past}
use Rattle.world_core.specs.Hosts.{Membership, first_membership, receiver}
use Rattle.world_core.specs.Machine.{all_addressed, counted, machine, sent_count, signals_of, step_after}
use Rattle.world_core.specs.Start.{Start}
use Rattle.run_laws.specs.Transit.{AreInTransit, Comes, IsRun, RunsHaveTransit, Takes, joined, logs_of, taken_by}
use Rattle.run_laws.proofs.transit.Transit.{comes, earlier}

-- the items that pass a test, in order
abbrev pub chosen : {A : Type 0} → (A → Bool) → List A → List A
chosen p [] = []
chosen p (x ∷ xs) = if p x then x ∷ chosen p xs else chosen p xs

-- one that fails is left out anyway
pub chosen_without : {A : Type 0} (p : A → Bool) (front : List A) (x : A) (back : List A) → p x ≡ false
    → chosen p (front ++ x ∷ back) ≡ chosen p (front ++ back)
chosen_without p [] x back fails = if_false (x ∷ chosen p back) (chosen p back) fails
chosen_without p (y ∷ front) x back fails = ap (λ w. if p y then y ∷ w else w) (chosen_without p front x back fails)

-- the last item that passes stands between others, and without it the others that pass are left
pub record IsLast {A : Type 0} (p : A → Bool) (xs newer : List A) (x : A) : Type 0 where
  pub front : List A
  pub back : List A
  pub is : xs ≡ front ++ x ∷ back
  pub left : chosen p (front ++ back) ≡ newer

pub last_chosen : {A : Type 0} (p : A → Bool) (xs newer : List A) (x : A) → chosen p xs ≡ newer ++ x ∷ []
    → IsLast p xs newer x
last_chosen p [] [] x is = absurd cc
last_chosen p [] (n ∷ newer) x is = absurd cc
last_chosen {A} p (y ∷ ys) newer x is = by (p y) refl newer is (last_chosen p ys)
  where
    behind : (rest now : List A) → IsLast p ys rest x → ((zs : List A) → chosen p zs ≡ rest → chosen p (y ∷ zs) ≡ now)
        → IsLast p (y ∷ ys) now x
    behind rest now more with_first =
        record {
          front = y ∷ more.front;
          back = more.back;
          is = ap (λ w. y ∷ w) more.is;
          left = with_first (more.front ++ more.back) more.left;
        }

    by : (b : Bool) → p y ≡ b → (now : List A) → (if b then y ∷ chosen p ys else chosen p ys) ≡ now ++ x ∷ []
        → ((rest : List A) (z : A) → chosen p ys ≡ rest ++ z ∷ [] → IsLast p ys rest z) → IsLast p (y ∷ ys) now x
    by true passes [] both more =
        let same : y ≡ x = cc in
        let none : chosen p ys ≡ [] = cc in
        record { front = []; back = ys; is = ap (λ w. w ∷ ys) same; left = none }
    by true passes (n ∷ rest) both more =
        let same : y ≡ n = cc in
        let others : chosen p ys ≡ rest ++ x ∷ [] = cc in
        behind rest (n ∷ rest) (more rest x others)
        (λ zs left. if_true (y ∷ chosen p zs) (chosen p zs) passes ∙ (ap (λ w. y ∷ w) left ∙ ap (λ w. w ∷ rest) same))
    by false fails now both more =
        behind now now (more now x both) (λ zs left. if_false (y ∷ chosen p zs) (chosen p zs) fails ∙ left)

-- the signal is on this link
abbrev pub is_on : ℕ → ℕ → Addressed → Bool
is_on i j x = (x.signal.from.0 == i) && (x.to == j)

and_false : (a b : Bool) → b ≡ false → (a && b) ≡ false
and_false true b off = off
and_false false b off = refl

module _ (start : Start) where
  -- what is in transit on each link was sent on it behind what was taken
  pub record HaveLinks (logs : ℕ → List HostStep) (xs : List Addressed) : Type 0 where
    pub links : (i j : ℕ)
        → sent (machine start) i j (logs i) ≡ chosen (is_on i j) xs ++ taken (machine start) i (logs j)

  put_behind : (j : ℕ) (sends xs ys : List Addressed)
      → put (machine start) j sends (xs ++ ys) ≡ put (machine start) j sends xs ++ ys
  put_behind j [] xs ys = refl
  put_behind j (x ∷ sends) xs ys = by (x.to == j) (put_behind j sends (x ∷ xs) ys) (put_behind j sends xs ys)
    where
      by : (b : Bool) → put (machine start) j sends (x ∷ (xs ++ ys)) ≡ put (machine start) j sends (x ∷ xs) ++ ys
          → put (machine start) j sends (xs ++ ys) ≡ put (machine start) j sends xs ++ ys
          → put (machine start) j sends (if b then x ∷ (xs ++ ys) else xs ++ ys)
          ≡ put (machine start) j sends (if b then x ∷ xs else xs) ++ ys
      by true one other = one
      by false one other = other

  -- what a host sends joins its links alone
  joined_own : (h j : ℕ) (sends xs : List Addressed) → Each (λ (x : Addressed). x.signal.from.0 ≡ h) sends
      → chosen (is_on h j) (joined sends xs) ≡ put (machine start) j sends (chosen (is_on h j) xs)
  joined_own h j [] xs own = refl
  joined_own h j (x ∷ sends) xs own =
      joined_own h j sends (x ∷ xs) own.1
      ∙ ap (λ b. put (machine start) j sends (if b && (x.to == j) then x ∷ chosen (is_on h j) xs else chosen (is_on h j)
      xs)) (eq-eqb x.signal.from.0 h own.0)

  joined_other : (h i j : ℕ) (sends xs : List Addressed) → h ≢ i → Each (λ (x : Addressed). x.signal.from.0 ≡ h) sends
      → chosen (is_on i j) (joined sends xs) ≡ chosen (is_on i j) xs
  joined_other h i j [] xs differs own = refl
  joined_other h i j (x ∷ sends) xs differs own =
      joined_other h i j sends (x ∷ xs) differs own.1
      ∙ ap (λ b. if b && (x.to == j) then x ∷ chosen (is_on i j) xs else chosen (is_on i j) xs)
      (ne_eqb x.signal.from.0 i (λ is. differs (sym own.0 ∙ is)))

  headed_from : (who : Membership) (h stamp : ℕ) (count : ℕ → ℕ) (sends : List Outgoing)
      → Each (λ (x : Addressed). x.signal.from.0 ≡ h) (all_addressed who h stamp count sends)
  headed_from who h stamp count [] = tt
  headed_from who h stamp count (o ∷ more) = (refl, headed_from who h stamp (counted (receiver who o.to) count) more)

  -- the part of a step that takes
  record IsBetween (es : List HostStep) (e : HostStep) (before between : List Addressed) : Type 0 where
    takes : Takes e before between
    links : (i j : ℕ)
        → sent (machine start) i j (logs_of start es i)
        ≡ chosen (is_on i j) between ++ taken (machine start) i (logs_of start (e ∷ es) j)

  module _ (es : List HostStep) (e : HostStep) (come : Comes start es e) (before : List Addressed)
      (held : HaveLinks (logs_of start es) before) where
    abbrev h : ℕ
    h = e.host

    abbrev old : ℕ → List HostStep
    old = logs_of start es

    abbrev now : ℕ → List HostStep
    now = logs_of start (e ∷ es)

    own_now : now h ≡ e ∷ old h
    own_now = log_of-own (machine start) e es h refl

    -- what a host took from a link that the step took nothing from
    taken_same : (i j : ℕ) → (h ≡ j → taken (machine start) i (e ∷ old h) ≡ taken (machine start) i (old h))
        → taken (machine start) i (now j) ≡ taken (machine start) i (old j)
    taken_same i =
        event_moves (machine start) e es
        (λ k was log. (h ≡ k → taken (machine start) i (e ∷ old h) ≡ taken (machine start) i (old h))
        → taken (machine start) i log ≡ taken (machine start) i was) (λ none. none refl) (λ k log none. refl)

    asks : is_request e.step.taken.body ≡ true → IsBetween es e before before
    asks request = record {
      takes = record {
        request = λ is. refl;
        signal = λ off. absurd (let both : true ≡ false = sym request ∙ off in cc);
      };
      links = λ i j. held.links i j ∙ ap (λ w. chosen (is_on i j) before ++ w)
          (sym (taken_same i j (λ at. taken-asked (machine start) i e (old h) request)));
    }

    abbrev from : ℕ
    from = e.step.taken.from.0

    -- the signal is the oldest on its link
    module _ (signal : is_request e.step.taken.body ≡ false) where
      given : IsPast (taken_by e ∷ taken (machine start) from (old h)) (sent (machine start) from h (old from))
      given = given_past start from h (old from) (taken_by e ∷ taken (machine start) from (old h))
          (come.happens.takes signal)

      oldest : chosen (is_on from h) before ≡ given.newer ++ taken_by e ∷ []
      oldest =
          append_cancel_right (chosen (is_on from h) before) (given.newer ++ taken_by e ∷ [])
          (taken (machine start) from (old h))
          (sym (held.links from h) ∙ (given.is ∙ sym (append_assoc given.newer (taken_by e ∷ [])
          (taken (machine start) from (old h)))))

      found : IsLast (is_on from h) before given.newer (taken_by e)
      found = last_chosen (is_on from h) before given.newer (taken_by e) oldest

      links_off : (i j : ℕ) → is_on i j (taken_by e) ≡ false
          → taken (machine start) i (now j) ≡ taken (machine start) i (old j)
          → sent (machine start) i j (old i)
          ≡ chosen (is_on i j) (found.front ++ found.back) ++ taken (machine start) i (now j)
      links_off i j off same =
          held.links i j
          ∙ (ap (λ w. chosen (is_on i j) w ++ taken (machine start) i (old j)) found.is
          ∙ (ap (λ w. w ++ taken (machine start) i (old j)) (chosen_without (is_on i j) found.front (taken_by e)
          found.back off)
          ∙ ap (λ w. chosen (is_on i j) (found.front ++ found.back) ++ w) (sym same)))

      links_on : sent (machine start) from h (old from)
          ≡ chosen (is_on from h) (found.front ++ found.back) ++ taken (machine start) from (now h)
      links_on =
          given.is
          ∙ (ap (λ w. w ++ (taken_by e ∷ taken (machine start) from (old h))) (sym found.left)
          ∙ ap (λ w. chosen (is_on from h) (found.front ++ found.back) ++ w)
          (sym (ap (taken (machine start) from) own_now ∙ taken-step (machine start) from e (old h) signal refl)))

      links_between : (i j : ℕ)
          → sent (machine start) i j (old i)
          ≡ chosen (is_on i j) (found.front ++ found.back) ++ taken (machine start) i (now j)
      links_between i j = by (cases_eq from i) (cases_eq h j)
        where
          by : (from ≡ i) ⊎ (from ≢ i) → (h ≡ j) ⊎ (h ≢ j)
              → sent (machine start) i j (old i)
              ≡ chosen (is_on i j) (found.front ++ found.back) ++ taken (machine start) i (now j)
          by (inl is) (inl at) =
              subst (λ k. sent (machine start) i k (old i) ≡ chosen (is_on i k) (found.front ++ found.back) ++ taken
              (machine start) i (now k)) at
              (subst (λ k. sent (machine start) k h (old k) ≡ chosen (is_on k h) (found.front ++ found.back) ++ taken
              (machine start) k (now h)) is links_on)
          by (inl is) (inr off) =
              links_off i j (and_false (from == i) (h == j) (ne_eqb h j off)) (taken_same i j (λ at. absurd (off at)))
          by (inr off) there = links_off i j (ap (λ b. b && (h == j)) (ne_eqb from i off))
              (taken_same i j (λ at. taken-other (machine start) i e (old h) off))

      gives : IsBetween es e before (found.front ++ found.back)
      gives = record {
        takes = record {
          request = λ is. absurd (let both : true ≡ false = sym is ∙ signal in cc);
          signal = λ off. record { front = found.front; back = found.back; is = found.is; left = refl };
        };
        links = links_between;
      }

    abbrev sends : List Addressed
    sends = signals_of start h (old h) e

    from_here : Each (λ (x : Addressed). x.signal.from.0 ≡ h) sends
    from_here = headed_from (first_membership start) h e.step.stamp (sent_count start h (old h))
        (step_after start h (old h) e).effects.sends

    sends_join : (between : List Addressed) → IsBetween es e before between → HaveLinks now (joined sends between)
    sends_join between is = record {
      links = λ i j. event_each (machine start) e es
          (λ i log. sent (machine start) i j log
          ≡ chosen (is_on i j) (joined sends between) ++ taken (machine start) i (now j))
          (ap (put (machine start) j sends) (is.links h j)
          ∙ (put_behind j sends (chosen (is_on h j) between) (taken (machine start) h (now j))
          ∙ ap (λ w. w ++ taken (machine start) h (now j)) (sym (joined_own h j sends between from_here))))
          (λ i off. is.links i j
          ∙ ap (λ w. w ++ taken (machine start) i (now j)) (sym (joined_other h i j sends between off from_here)))
          i;
    }

  -- some list that has the links in it
  pub record HasTransit (es : List HostStep) : Type 0 where
    pub xs : List Addressed
    pub transit : AreInTransit start es xs
    pub links : HaveLinks (logs_of start es) xs

  passes : (es : List HostStep) (e : HostStep) → Comes start es e → (was : HasTransit es) → (between : List Addressed)
      → IsBetween es e was.xs between → HasTransit (e ∷ es)
  passes es e come was between is = record {
    xs = joined (signals_of start e.host (logs_of start es e.host) e) between;
    transit = (was.xs, (was.transit, record { between = between; takes = is.takes; is = refl }));
    links = sends_join es e come was.xs was.links between is;
  }

  has_next : (es : List HostStep) (e : HostStep) → Comes start es e → HasTransit es → HasTransit (e ∷ es)
  has_next es e come was = by (is_request e.step.taken.body) refl
    where
      by : (b : Bool) → is_request e.step.taken.body ≡ b → HasTransit (e ∷ es)
      by true request = passes es e come was was.xs (asks es e come was.xs was.links request)
      by false signal = passes es e come was _ (gives es e come was.xs was.links signal)

  pub has_transit : (es : List HostStep) → IsRun start es → HasTransit es
  has_transit [] run = record { xs = []; transit = refl; links = record { links = λ i j. refl } }
  has_transit (e ∷ es) run = has_next es e (comes start es e run) (has_transit es (earlier start es e run))

pub runs_have_transit : RunsHaveTransit
runs_have_transit start es run =
    let has = has_transit start es run in
    (has.xs, has.transit)

-- what an event that comes takes, of what is in transit then
pub record IsTaking (start : Start) (es : List HostStep) (e : HostStep) : Type 0 where
  pub before : List Addressed
  pub transit : AreInTransit start es before
  pub between : List Addressed
  pub takes : Takes e before between

pub taking : (start : Start) (es : List HostStep) (e : HostStep) → Comes start es e → IsTaking start es e
taking start es e come =
    let (xs, (before, (rest, passes))) = runs_have_transit start (e ∷ es) come.now in
    record { before = before; transit = rest; between = passes.between; takes = passes.takes }
