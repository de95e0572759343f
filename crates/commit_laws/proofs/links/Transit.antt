-- What is in transit at a moment, link by link: of the signals that aren't closings, those that were sent and
-- weren't taken.
use Rattle.std.proofs.Common.{◌≡◌, ◌≢◌, ◌⊎◌, ◌==◌, ◌&&◌, ◌||◌, ℕ, Bool, true, false, List, [], ◌∷◌, ◌++◌, refl, sym, ap}
use Rattle.std.proofs.Common.{◌∙◌, subst, inl, inr}
use Rattle.std.proofs.lemmas.Bool.{cases_eq, eq-eqb, ne_eqb, and_right}
use Rattle.std.proofs.lemmas.List.{append_assoc, append_cancel_right}
use Rattle.std.specs.Prelude.{if◌then◌else◌, not}
use Rattle.run_theory.proofs.Links.{sent_by_each}
use Rattle.run_theory.proofs.Pasts.{each_filter, each_map}
use Rattle.run_theory.proofs.Runs.{if_false, if_true, log_of-other, log_of-own, taken-asked, taken-other, taken-step}
use Rattle.run_theory.specs.Links.{IsGiven, put, sent, sent_by, taken}
use Rattle.run_theory.specs.Lists.{Each, IsPast}
use Rattle.run_theory.specs.Machine.{Machine}
use Rattle.sig_core.specs.declared.signal.Body.TheVariants.{Host}
use Rattle.sig_core.specs.declared.signal.host.HostSignal.TheVariants.{Closed}
use Rattle.world_core.specs.Start.{Start}
use Rattle.world_core.specs.Steps.{Addressed, HostStep}
use Rattle.run_laws.specs.Transit.{joined, taken_by}
use Rattle.run_laws.proofs.transit.Runs.{IsLast, chosen, chosen_without, is_on, last_chosen}
use Rattle.world_views.specs.Machine.{cause_in, signals_of}
use Rattle.view_laws.specs.Order.{is_sound, sound_machine}
use Rattle.view_laws.proofs.follow.Senders.{each_from}
use Rattle.moment_laws.specs.Moments.{IsMoment, logs_of}
use Rattle.moment_laws.proofs.MomentViews.{moment_less}
use Rattle.commit_laws.specs.Transit.{AreInTransit, MomentsHaveTransit, Takes, is_closing}

-- the signal counts: it isn't a closing
abbrev pub counts : Addressed → Bool
counts x = not (is_closing x.signal.body)

-- on this link
abbrev pub counts_on : ℕ → ℕ → Addressed → Bool
counts_on i j x = is_on i j x && counts x

pub chosen_append : {A : Type 0} (p : A → Bool) (xs ys : List A) → chosen p (xs ++ ys) ≡ chosen p xs ++ chosen p ys
chosen_append p [] ys = refl
chosen_append {A} p (x ∷ xs) ys = by (p x) (chosen_append p xs ys)
  where
    by : (b : Bool) → chosen p (xs ++ ys) ≡ chosen p xs ++ chosen p ys
        → (if b then x ∷ chosen p (xs ++ ys) else chosen p (xs ++ ys))
        ≡ (if b then x ∷ chosen p xs else chosen p xs) ++ chosen p ys
    by true is = ap (λ w. x ∷ w) is
    by false is = is

off_link : (a b c : Bool) → (a && b) ≡ false → ((a && b) && c) ≡ false
off_link a b c off = ap (λ d. d && c) off

module _ (start : Start) where
  abbrev pub n : Machine HostStep Addressed
  n = sound_machine start

  pub record HaveLinks (logs : ℕ → List HostStep) (xs : List Addressed) : Type 0 where
    pub links : (i j : ℕ)
        → chosen counts (sent n i j (logs i)) ≡ chosen (counts_on i j) xs ++ chosen counts (taken n i (logs j))

  -- what a link gives that isn't a closing lies behind what was sent
  given_past : (i j : ℕ) (log : List HostStep) (x : Addressed) (xs : List Addressed) → is_closing x.signal.body ≡ false
      → IsGiven n i j log (x ∷ xs) → IsPast (x ∷ xs) (sent n i j log)
  given_past i j log x xs open_ (inl past) = past
  given_past i j [] x xs open_ (inr closing) = absurd closing
  given_past i j (e ∷ log) x xs open_ (inr closing) =
      let same : n.closing i log e j ≡ x = cc (closing.is) in
      let body : Host (Closed (cause_in e.step.marks)) ≡ x.signal.body = ap (λ (y : Addressed). y.signal.body) same in
      absurd (let both : true ≡ false = ap is_closing body ∙ open_ in cc)

  -- what a host sends joins its links alone
  joined_own : (h j : ℕ) (sends xs ys zs : List Addressed) → Each (λ (x : Addressed). x.signal.from.0 ≡ h) sends
      → chosen counts ys ≡ chosen (counts_on h j) xs ++ zs
      → chosen counts (put n j sends ys) ≡ chosen (counts_on h j) (joined sends xs) ++ zs
  joined_own h j [] xs ys zs own is = is
  joined_own h j (x ∷ sends) xs ys zs own is =
      joined_own h j sends (x ∷ xs) (if x.to == j then x ∷ ys else ys) zs own.1
      (by (x.to == j) ∙ ap (λ b. (if (b && (x.to == j)) && counts x then x ∷ chosen (counts_on h j) xs else chosen
      (counts_on h j) xs) ++ zs)
      (sym (eq-eqb x.signal.from.0 h own.0)))
    where
      one : (b : Bool) → (if b then x ∷ chosen counts ys else chosen counts ys)
          ≡ (if b then x ∷ chosen (counts_on h j) xs else chosen (counts_on h j) xs) ++ zs
      one true = ap (λ w. x ∷ w) is
      one false = is

      by : (b : Bool) → chosen counts (if b then x ∷ ys else ys)
          ≡ (if (true && b) && counts x then x ∷ chosen (counts_on h j) xs else chosen (counts_on h j) xs) ++ zs
      by true = one (counts x)
      by false = is

  joined_other : (h i j : ℕ) (sends xs : List Addressed) → h ≢ i → Each (λ (x : Addressed). x.signal.from.0 ≡ h) sends
      → chosen (counts_on i j) (joined sends xs) ≡ chosen (counts_on i j) xs
  joined_other h i j [] xs differs own = refl
  joined_other h i j (x ∷ sends) xs differs own =
      joined_other h i j sends (x ∷ xs) differs own.1
      ∙ ap (λ b. if (b && (x.to == j)) && counts x then x ∷ chosen (counts_on i j) xs else chosen (counts_on i j) xs)
      (ne_eqb x.signal.from.0 i (λ is. differs (sym own.0 ∙ is)))

  from_host : (h : ℕ) (log : List HostStep) (e : HostStep)
      → Each (λ (x : Addressed). x.signal.from.0 ≡ h) (sent_by n h log e)
  from_host h log e =
      sent_by_each n IsFrom h log e
      (λ goes. each_filter IsFrom (is_sound start) (signals_of start h log e)
      (each_map _ IsFrom (signals_of start h log e) (λ x one. one.from) (each_from start h log e)))
    where
      IsFrom : Addressed → Type 0
      IsFrom x = x.signal.from.0 ≡ h

  -- the part of a step that takes
  record IsBetween (es : List HostStep) (e : HostStep) (before between : List Addressed) : Type 0 where
    takes : Takes start e before between
    links : (i j : ℕ) → chosen counts (sent n i j (logs_of start es i))
        ≡ chosen (counts_on i j) between ++ chosen counts (taken n i (logs_of start (e ∷ es) j))

  module _ (all : ℕ → List HostStep) (es : List HostStep) (e : HostStep) (moment : IsMoment start all (e ∷ es))
      (before : List Addressed) (held : HaveLinks (logs_of start es) before)
    where
      abbrev h : ℕ
      h = e.host

      abbrev old : ℕ → List HostStep
      old = logs_of start es

      abbrev now : ℕ → List HostStep
      now = logs_of start (e ∷ es)

      abbrev had : ℕ → List HostStep → List Addressed
      had i log = chosen counts (taken n i log)

      own_now : now h ≡ e ∷ old h
      own_now = log_of-own n e es h refl

      -- what a host took from a link that the step took nothing from
      taken_same : (i j : ℕ) → (h ≡ j → had i (e ∷ old h) ≡ had i (old h)) → had i (now j) ≡ had i (old j)
      taken_same i j none = by (cases_eq h j)
        where
          by : (h ≡ j) ⊎ (h ≢ j) → had i (now j) ≡ had i (old j)
          by (inl at) = subst (λ k. had i (now k) ≡ had i (old k)) at (ap (had i) own_now ∙ none at)
          by (inr off) = ap (had i) (log_of-other n e es j off)

      nothing : (n.asked e || is_closing e.step.taken.body) ≡ true → ((i : ℕ) → had i (e ∷ old h) ≡ had i (old h))
          → IsBetween es e before before
      nothing alone none = record {
        takes = record { alone = λ is. refl; signal = λ off. absurd (let both : true ≡ false = sym alone ∙ off in cc) };
        links =
            λ i j. held.links i j ∙ ap (λ w. chosen (counts_on i j) before ++ w) (sym (taken_same i j (λ at. none i)));
      }

      abbrev from : ℕ
      from = e.step.taken.from.0

      -- the signal is the oldest on its link
      module _ (asked : n.asked e ≡ false) (goes : is_closing e.step.taken.body ≡ false) where
        abbrev rests : List Addressed
        rests = taken n from (old h)

        given : IsPast (taken_by e ∷ rests) (sent n from h (old from))
        given = given_past from h (old from) (taken_by e) rests goes (moment.run.1.takes asked)

        abbrev newer : List Addressed
        newer = chosen counts given.newer

        one_counts : counts (taken_by e) ≡ true
        one_counts = ap not goes

        taken_counts : chosen counts (taken_by e ∷ rests) ≡ taken_by e ∷ chosen counts rests
        taken_counts = if_true (taken_by e ∷ chosen counts rests) (chosen counts rests) one_counts

        sent_is : chosen counts (sent n from h (old from)) ≡ newer ++ (taken_by e ∷ chosen counts rests)
        sent_is =
            ap (chosen counts) given.is
            ∙ (chosen_append counts given.newer (taken_by e ∷ rests) ∙ ap (λ w. newer ++ w) taken_counts)

        oldest : chosen (counts_on from h) before ≡ newer ++ taken_by e ∷ []
        oldest =
            append_cancel_right (chosen (counts_on from h) before) (newer ++ taken_by e ∷ []) (chosen counts rests)
            (sym (held.links from h) ∙ (sent_is ∙ sym (append_assoc newer (taken_by e ∷ []) (chosen counts rests))))

        abbrev found : IsLast (counts_on from h) before newer (taken_by e)
        found = last_chosen (counts_on from h) before newer (taken_by e) oldest

        abbrev Linked : ℕ → ℕ → Type 0
        Linked i j =
            chosen counts (sent n i j (old i)) ≡ chosen (counts_on i j) (found.front ++ found.back) ++ had i (now j)

        links_off : (i j : ℕ) → is_on i j (taken_by e) ≡ false → had i (now j) ≡ had i (old j) → Linked i j
        links_off i j off same =
            held.links i j
            ∙ (ap (λ w. chosen (counts_on i j) w ++ had i (old j)) found.is
            ∙ (ap (λ w. w ++ had i (old j)) (chosen_without (counts_on i j) found.front (taken_by e) found.back
            (off_link (from == i) (h == j) (counts (taken_by e)) off))
            ∙ ap (λ w. chosen (counts_on i j) (found.front ++ found.back) ++ w) (sym same)))

        links_on : Linked from h
        links_on =
            sent_is
            ∙ (ap (λ w. w ++ (taken_by e ∷ chosen counts rests)) (sym found.left)
            ∙ ap (λ w. chosen (counts_on from h) (found.front ++ found.back) ++ w)
            (sym (ap (had from) own_now ∙ (ap (chosen counts) (taken-step n from e (old h) asked refl) ∙
            taken_counts))))

        links_between : (i j : ℕ) → Linked i j
        links_between i j = by (cases_eq from i) (cases_eq h j)
          where
            by : (from ≡ i) ⊎ (from ≢ i) → (h ≡ j) ⊎ (h ≢ j) → Linked i j
            by (inl is) (inl at) = subst (λ k. Linked i k) at (subst (λ k. Linked k h) is links_on)
            by (inl is) (inr off) =
                links_off i j (and_right (from == i) (h == j) (ne_eqb h j off)) (taken_same i j (λ at. absurd (off at)))
            by (inr off) there =
                links_off i j (ap (λ b. b && (h == j)) (ne_eqb from i off))
                (taken_same i j (λ at. ap (chosen counts) (taken-other n i e (old h) off)))

        neither : (n.asked e || is_closing e.step.taken.body) ≡ false
        neither = ap (λ b. b || is_closing e.step.taken.body) asked ∙ goes

        gives : IsBetween es e before (found.front ++ found.back)
        gives = record {
          takes = record {
            alone = λ is. absurd (let both : true ≡ false = sym is ∙ neither in cc);
            signal = λ off. record { front = found.front; back = found.back; is = found.is; left = refl };
          };
          links = links_between;
        }

      -- a closing counts as nothing
      closes : is_closing e.step.taken.body ≡ true → (i : ℕ) → had i (e ∷ old h) ≡ had i (old h)
      closes is i = by (not (n.asked e) && (from == i))
        where
          by : (b : Bool)
              → chosen counts (if b then taken_by e ∷ taken n i (old h) else taken n i (old h)) ≡ had i (old h)
          by true = if_false (taken_by e ∷ had i (old h)) (had i (old h)) (ap not is)
          by false = refl

      abbrev sends : List Addressed
      sends = sent_by n h (old h) e

      abbrev LinkedBy : List Addressed → ℕ → ℕ → Type 0
      LinkedBy xs i j = chosen counts (sent n i j (now i)) ≡ chosen (counts_on i j) xs ++ had i (now j)

      sends_join : (between : List Addressed) → IsBetween es e before between → HaveLinks now (joined sends between)
      sends_join between is = record { links = λ i j. by i j (cases_eq h i) }
        where
          own : (j : ℕ) → LinkedBy (joined sends between) h j
          own j =
              ap (λ log. chosen counts (sent n h j log)) own_now
              ∙ joined_own h j sends between (sent n h j (old h)) (had h (now j)) (from_host h (old h) e) (is.links h j)

          by : (i j : ℕ) → (h ≡ i) ⊎ (h ≢ i) → LinkedBy (joined sends between) i j
          by i j (inl at) = subst (λ k. LinkedBy (joined sends between) k j) at (own j)
          by i j (inr off) =
              ap (λ log. chosen counts (sent n i j log)) (log_of-other n e es i off)
              ∙ (is.links i j
              ∙ ap (λ w. w ++ had i (now j)) (sym (joined_other h i j sends between off (from_host h (old h) e))))

  -- some list that has the links in it
  pub record HasTransit (es : List HostStep) : Type 0 where
    pub xs : List Addressed
    pub transit : AreInTransit start es xs
    pub links : HaveLinks (logs_of start es) xs

  module _ (all : ℕ → List HostStep) (es : List HostStep) (e : HostStep) (moment : IsMoment start all (e ∷ es)) where
    passes : (was : HasTransit es) → (between : List Addressed) → IsBetween es e was.xs between → HasTransit (e ∷ es)
    passes was between is = record {
      xs = joined (sent_by n e.host (logs_of start es e.host) e) between;
      transit = (was.xs, (was.transit, record { between = between; takes = is.takes; is = refl }));
      links = sends_join all es e moment was.xs was.links between is;
    }

    has_next : HasTransit es → HasTransit (e ∷ es)
    has_next was = by (n.asked e) (is_closing e.step.taken.body) refl refl
      where
        by : (asked closing : Bool) → n.asked e ≡ asked → is_closing e.step.taken.body ≡ closing → HasTransit (e ∷ es)
        by true closing asked goes =
            passes was was.xs (nothing all es e moment was.xs was.links
            (ap (λ b. b || is_closing e.step.taken.body) asked)
            (λ i. ap (chosen counts) (taken-asked n i e (logs_of start es e.host) asked)))
        by false true asked goes =
            passes was was.xs (nothing all es e moment was.xs was.links
            (ap (λ b. b || is_closing e.step.taken.body) asked ∙ goes) (closes all es e moment was.xs was.links goes))
        by false false asked goes = passes was _ (gives all es e moment was.xs was.links asked goes)

  pub has_transit : (all : ℕ → List HostStep) (es : List HostStep) → IsMoment start all es → HasTransit es
  has_transit all [] moment = record { xs = []; transit = refl; links = record { links = λ i j. refl } }
  has_transit all (e ∷ es) moment =
      has_next all es e moment (has_transit all es (moment_less start all e es moment))

pub moments_have_transit : MomentsHaveTransit
moments_have_transit start all es moment =
    let has = has_transit start all es moment in
    (has.xs, has.transit)
