-- Over all hosts no more signals of a kind are taken from links than were sent.
use Rattle.std.proofs.Common.{◌≡◌, ◌≤◌, ◌<◌, ◌+◌, ◌⊎◌, ◌==◌, ◌&&◌, ℕ, zero, suc, Bool, true, false, List, [], ◌∷◌, refl}
use Rattle.std.proofs.Common.{sym, ap, arith, inl, inr, ◌∙◌}
use Rattle.std.proofs.lemmas.Bool.{cases_lt, eq-eqb, true≢false}
use Rattle.std.specs.Prelude.{not, if◌then◌else◌}
use Rattle.std.specs.List.{count_by}
use Rattle.run_theory.specs.Counts.{one_if as plain_one, total}
use Rattle.run_theory.specs.Links.{IsGiven, put, sent, sent_by, taken}
use Rattle.run_theory.specs.Lists.{IsPast}
use Rattle.run_theory.specs.Machine.{Machine}
use Rattle.run_theory.specs.Runs.{AreLogs, IsWithin}
use Rattle.run_theory.proofs.Runs.{given_taken, logs_of_run}
use Rattle.host_laws.proofs.hosts.Sums.{total_add, total_le, total_same, total_zero, unit_below, unit_few}
use Rattle.sig_core.specs.declared.member.TxId.{TxId}
use Rattle.sig_core.specs.declared.signal.Body.{Body}
use Rattle.sig_core.specs.declared.signal.Body.TheVariants.{Chain}
use Rattle.sig_core.specs.declared.signal.Signal.{Signal}
use Rattle.tc_block.specs.Complete.{one_if}
use Rattle.world_core.specs.Hosts.{hosts}
use Rattle.world_core.specs.Start.{Start}
use Rattle.world_core.specs.Steps.{Addressed, HostStep}
use Rattle.run_laws.specs.Tokens.{is_token}
use Rattle.view_laws.specs.Order.{sound_machine}
use Rattle.moment_laws.specs.Moments.{IsMoment, logs_of}
use Rattle.moment_laws.proofs.MomentViews.{moment_less, moment_within}
use Rattle.outcome_laws.proofs.coordinators.Lists.{count_both, count_more}
use Rattle.request_laws.specs.Tokens.{TakesAreFew, all_sent, all_taken, sent_along, taken_along}
use Rattle.request_laws.proofs.routes.BesideRows.{is_of_rows}
use Rattle.request_laws.proofs.tokens.Rows.{one_same}

-- a sum of sums may be taken in the other order
pub total_swap : (n m : ℕ) (f : ℕ → ℕ → ℕ)
    → total n (λ j. total m (λ i. f i j)) ≡ total m (λ i. total n (λ j. f i j))
total_swap zero m f = sym (total_zero m (λ i. 0) (λ i. refl))
total_swap (suc n) m f =
    omega (arith, total_swap n m f, total_add m (λ i. f i n) (λ i. total n (λ j. f i j)))

module _ (start : Start) (p : Signal → Bool) where
  abbrev pub n : Machine HostStep Addressed
  n = sound_machine start

  abbrev pub passes : Addressed → Bool
  passes x = p x.signal

  abbrev pub count_on : List Addressed → ℕ
  count_on xs = count_by passes xs

  -- one signal more on a link
  count_if : (b : Bool) (x : Addressed) (xs : List Addressed)
      → count_on (if b then x ∷ xs else xs) ≡ plain_one (b && passes x) + count_on xs
  count_if true x xs = omega (arith, count_more passes x xs, one_same (passes x))
  count_if false x xs = omega arith

  -- what is put on all links is no more than what is sent
  put_total : (m : ℕ) (xs : List Addressed) (before : ℕ → List Addressed)
      → total m (λ j. count_on (put n j xs (before j))) ≤ count_on xs + total m (λ j. count_on (before j))
  put_total m [] before = omega arith
  put_total m (x ∷ xs) before =
      omega (
        arith,
        put_total m xs (λ j. if x.to == j then x ∷ before j else before j),
        total_same m (λ j. count_on (if x.to == j then x ∷ before j else before j))
            (λ j. plain_one ((x.to == j) && passes x) + count_on (before j))
            (λ j low. count_if (x.to == j) x (before j)),
        total_add m (λ j. plain_one ((x.to == j) && passes x)) (λ j. count_on (before j)),
        unit_few m x.to (passes x),
        count_more passes x xs,
        one_same (passes x),
      )

  pub sent_total : (m i : ℕ) (log : List HostStep)
      → total m (λ j. count_on (sent n i j log)) ≤ sent_along start p i log
  sent_total m i [] =
      let none : total m (λ j. count_on (sent n i j [])) ≡ 0 =
      total_zero m (λ j. count_on (sent n i j [])) (λ j. refl) in
      omega (arith, none)
  sent_total m i (e ∷ log) =
      omega (arith, put_total m (sent_by n i log e) (λ j. sent n i j log), sent_total m i log)

  -- what a host takes it takes from one of the links
  abbrev takes : HostStep → Bool
  takes e = not (n.asked e) && p e.step.taken

  taken_more : (i : ℕ) (e : HostStep) (log : List HostStep)
      → count_on (taken n i (e ∷ log))
      ≡ plain_one ((e.step.taken.from.0 == i) && takes e) + count_on (taken n i log)
  taken_more i e log = by (n.asked e) (e.step.taken.from.0 == i)
    where
      by : (asked at : Bool)
          → count_on (if not asked && at then n.signal e ∷ taken n i log else taken n i log)
          ≡ plain_one (at && (not asked && p e.step.taken)) + count_on (taken n i log)
      by true true = omega arith
      by true false = omega arith
      by false true = count_if true (n.signal e) (taken n i log)
      by false false = omega arith

  along_more : (e : HostStep) (log : List HostStep)
      → taken_along start p (e ∷ log) ≡ plain_one (takes e) + taken_along start p log
  along_more e log = by (n.asked e)
    where
      by : (asked : Bool)
          → (if asked then 0 else one_if (p e.step.taken)) + taken_along start p log
          ≡ plain_one (not asked && p e.step.taken) + taken_along start p log
      by true = omega arith
      by false = omega (arith, one_same (p e.step.taken))

  abbrev pub NoneAbove : ℕ → List HostStep → Type 0
  NoneAbove m log = (i : ℕ) → m ≤ i → count_on (taken n i log) ≡ 0

  pub taken_total : (m : ℕ) (log : List HostStep) → NoneAbove m log
      → taken_along start p log ≤ total m (λ i. count_on (taken n i log))
  taken_total m [] none = omega arith
  taken_total m (e ∷ log) none =
      omega (
        arith,
        along_more e log,
        taken_total m log (λ i high. omega (arith, none i high, taken_more i e log)),
        total_same m (λ i. count_on (taken n i (e ∷ log)))
            (λ i. plain_one ((e.step.taken.from.0 == i) && takes e) + count_on (taken n i log))
            (λ i low. taken_more i e log),
        total_add m (λ i. plain_one ((e.step.taken.from.0 == i) && takes e)) (λ i. count_on (taken n i log)),
        one (cases_lt e.step.taken.from.0 m),
      )
    where
      from : ℕ
      from = e.step.taken.from.0

      at_from : (b : Bool) → (from == from) ≡ b → plain_one (b && takes e) ≡ 0 → plain_one (takes e) ≡ 0
      at_from true is none_at = none_at
      at_from false is none_at = absurd (true≢false (sym (eq-eqb from from refl) ∙ is))

      one : (from < m) ⊎ (m ≤ from)
          → plain_one (takes e) ≤ total m (λ i. plain_one ((from == i) && takes e))
      one (inl low) = omega (arith, unit_below m from (takes e) low)
      one (inr high) =
          let none_there : plain_one ((from == from) && takes e) ≡ 0 =
          omega (arith, none from high, taken_more from e log) in
          omega (arith, at_from (from == from) refl none_there)

  -- of signals that close no link
  module _ (unclosed : (i : ℕ) (log : List HostStep) (e : HostStep) (j : ℕ) → p (n.closing i log e j).signal ≡ false)
    where
      -- a link gives no more than was sent, since what closes it doesn't count
      past_count : (xs ys : List Addressed) → IsPast xs ys → count_on xs ≤ count_on ys
      past_count xs ys past = omega (arith, ap count_on past.is, count_both passes past.newer xs)

      pub given_count : (i j : ℕ) (log : List HostStep) (xs : List Addressed) → IsGiven n i j log xs
          → count_on xs ≤ count_on (sent n i j log)
      given_count i j log xs (inl past) = past_count xs (sent n i j log) past
      given_count i j [] xs (inr closing) = absurd closing
      given_count i j (e ∷ log) xs (inr closing) =
          let closed = n.closing i log e j in
          omega (
            arith,
            ap count_on closing.is,
            count_more passes closed closing.rest,
            ap one_if (unclosed i log e j),
            past_count closing.rest (sent n i j (e ∷ log)) closing.past,
          )

      module _ (m : ℕ) (before now : ℕ → List HostStep) (within : IsWithin m before)
          (each_link : (i j : ℕ) → count_on (taken n i (now j)) ≤ count_on (sent n i j (before i)))
        where
          none_above : (j : ℕ) → NoneAbove m (now j)
          none_above j i high =
              let none : count_on (sent n i j (before i)) ≡ 0 = ap (λ log. count_on (sent n i j log)) (within i high) in
              omega (arith, each_link i j, none)

          -- all that hosts took was sent by hosts
          links_few : total m (λ j. taken_along start p (now j)) ≤ total m (λ i. sent_along start p i (before i))
          links_few =
              omega (
                arith,
                total_le m (λ j. taken_along start p (now j)) (λ j. total m (λ i. count_on (taken n i (now j))))
                    (λ j low. taken_total m (now j) (none_above j)),
                total_le m (λ j. total m (λ i. count_on (taken n i (now j))))
                    (λ j. total m (λ i. count_on (sent n i j (before i))))
                    (λ j low. total_le m (λ i. count_on (taken n i (now j))) (λ i. count_on (sent n i j (before i)))
                    (λ i under. each_link i j)),
                total_swap m m (λ i j. count_on (sent n i j (before i))),
                total_le m (λ i. total m (λ j. count_on (sent n i j (before i))))
                    (λ i. sent_along start p i (before i)) (λ i low. sent_total m i (before i)),
              )

      pub few_taken : (all : ℕ → List HostStep) (es : List HostStep) → IsMoment start all es
          → all_taken start p (logs_of start es) ≤ all_sent start p (logs_of start es)
      few_taken all es moment =
          let logs = logs_of start es in
          let right : AreLogs n logs = logs_of_run n es moment.run in
          links_few (hosts start) logs logs (moment_within start all es moment)
          (λ i j. given_count i j (logs i) (taken n i (logs j)) (right.linked i j))

      -- what an event takes was sent before it
      pub few_before : (all : ℕ → List HostStep) (e : HostStep) (es : List HostStep) → IsMoment start all (e ∷ es)
          → all_taken start p (logs_of start (e ∷ es)) ≤ all_sent start p (logs_of start es)
      few_before all e es moment =
          let before = logs_of start es in
          let now = logs_of start (e ∷ es) in
          let right : AreLogs n before = logs_of_run n es moment.run.0 in
          links_few (hosts start) before now
          (moment_within start all es (moment_less start all e es moment))
          (λ i j.
          given_count i j (before i) (taken n i (now j)) (given_taken n es e i j moment.run.1 (right.linked i j)))

  -- such are those about rows
  module _ (only : (x : Signal) → p x ≡ true → is_of_rows x.body ≡ true) where
    closing_none : (i : ℕ) (log : List HostStep) (e : HostStep) (j : ℕ) → p (n.closing i log e j).signal ≡ false
    closing_none i log e j = by (p (n.closing i log e j).signal) refl
      where
        by : (b : Bool) → p (n.closing i log e j).signal ≡ b → b ≡ false
        by false is = refl
        by true is = let rows = only (n.closing i log e j).signal is in absurd (true≢false (sym rows))

    pub takes_few : (all : ℕ → List HostStep) (es : List HostStep) → IsMoment start all es
        → all_taken start p (logs_of start es) ≤ all_sent start p (logs_of start es)
    takes_few = few_taken closing_none

    -- what an event takes was sent before it
    pub takes_before : (all : ℕ → List HostStep) (e : HostStep) (es : List HostStep) → IsMoment start all (e ∷ es)
        → all_taken start p (logs_of start (e ∷ es)) ≤ all_sent start p (logs_of start es)
    takes_before = few_before closing_none

-- tokens are such
pub token_of_rows : (tx : TxId) (body : Body) → is_token tx body ≡ true → is_of_rows body ≡ true
token_of_rows tx (Chain signal) is = refl
token_of_rows tx body is = absurd (true≢false (sym is))

pub takes_are_few : TakesAreFew
takes_are_few start all es moment p only =
    takes_few start p (λ x is. let token = only x is in token_of_rows token.0 x.body token.1) all es moment
