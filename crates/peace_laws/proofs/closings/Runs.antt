-- A run in which a closing is under way, step by step: it is kept, and its moments are those of the closing.
use Rattle.std.proofs.Common.{◌≡◌, ◌≢◌, ◌⊎◌, ◌<◌, ◌+◌, inl, inr, ℕ, zero, suc, List, [], ◌∷◌, ◌++◌, Bool, true, false}
use Rattle.std.proofs.Common.{refl, ap, sym, ◌∙◌, subst, append-nil, length, map}
use Rattle.std.specs.List.{list_any}
use Rattle.std.specs.Prelude.{◌||◌, ◌%◌, Option, None, Some, if◌then◌else◌, option_to_list}
use Rattle.std.proofs.lemmas.Bool.{cases_eq, false≢true}
use Rattle.api_views.specs.Closings.{ask_of}
use Rattle.frag_map.specs.Shape.{IsShape}
use Rattle.node_views.specs.Blocks.{parts_row}
use Rattle.node_views.specs.declared.parts.Parts.{Parts}
use Rattle.run_theory.specs.Lists.{Each, IsIn}
use Rattle.run_theory.specs.Runs.{IsWithin, Run, log_of}
use Rattle.run_theory.proofs.EventCases.{event_each}
use Rattle.sig_core.specs.declared.outs.Outgoing.{Outgoing}
use Rattle.sig_core.specs.declared.place.BlockId.{BlockId}
use Rattle.sig_core.specs.declared.place.BlockId.TheVariants as block
use Rattle.sig_core.specs.declared.place.Part.{Part}
use Rattle.sig_core.specs.declared.place.Part.TheVariants as part
use Rattle.sig_core.specs.declared.request.ApiReq.{ApiReq}
use Rattle.sig_core.specs.declared.signal.Signal.{Signal}
use Rattle.sig_core.specs.Place.{checkpoints}
use Rattle.sig_core.specs.Step.{to_place}
use Rattle.world_core.specs.Hosts.{first_hosts, part_by}
use Rattle.world_core.specs.Requests.{request_in}
use Rattle.world_core.specs.Start.{NobodyStarts, Start}
use Rattle.world_core.specs.Steps.{HostStep}
use Rattle.world_views.specs.Machine.{after, has_stopped, machine}
use Rattle.world_views.specs.Requests.{request_of, requests}
use Rattle.world_views.specs.Sending.{is_asked}
use Rattle.calm_laws.specs.Calm.{is_calm}
use Rattle.calm_laws.specs.Plain.{is_beating, is_main}
use Rattle.calm_laws.specs.Resting.{IsRestingPart}
use Rattle.level_laws.specs.Laws.{HostsAreLevel}
use Rattle.peace_laws.specs.Closing.{Course, IsAskedFor, main, next_of}
use Rattle.peace_laws.specs.Laws.{is_spent}
use Rattle.peace_laws.specs.Moments.{GoesOn, Moment, Takes, behind, newest}
use Rattle.peace_laws.specs.Peace.{ArePeaceful, asks_closing, has_closer, is_closer, is_closing, is_peaceful}
use Rattle.peace_laws.specs.UnderWay.{IsUnderWay}
use Rattle.peace_laws.proofs.closings.Ends as ends
use Rattle.peace_laws.proofs.closings.Marks.{all_below}
use Rattle.peace_laws.proofs.closings.Moments as moments
use Rattle.peace_laws.proofs.closings.Moments.{Links, moment}
use Rattle.peace_laws.proofs.closings.Letters.{IsFit, fit_at, letter_fits, request_fits}
use Rattle.peace_laws.proofs.lives.NextSignals.{AllTaken}
use Rattle.peace_laws.proofs.closings.RequestOn.{request_on}
use Rattle.peace_laws.proofs.near.Runs.{IsKept}
use Rattle.peace_laws.proofs.closings.ShellOwns.{ShellOwns, owns_next, resting_next}
use Rattle.peace_laws.proofs.lives.Stands.{AreBelow}
use Rattle.peace_laws.proofs.lives.UnderWay.{said}

-- a claim about each host, where the one of the step has it
pub each_host : (start : Start) (es : List HostStep) (e : HostStep) (P : ℕ → List HostStep → Type 0)
    → P e.host (e ∷ log_of (machine start) es e.host) → ((h : ℕ) → P h (log_of (machine start) es h)) → (h : ℕ)
    → P h (log_of (machine start) (e ∷ es) h)
each_host start es e P own before = event_each (machine start) e es P own (λ h apart. before h)

-- What hosts have done since these logs, in an epoch: they go on, and only the master of the first node had part in it.
pub record AreOn (start : Start) (epoch : ℕ) (base : ℕ → List HostStep) (es : List HostStep) : Type 0 where
  pub kept : IsKept start es
  pub running : (h : ℕ) → has_stopped (log_of (machine start) es h) ≡ false
  pub peaceful : ArePeaceful (log_of (machine start) es)
  pub beating : (h : ℕ) → h < first_hosts start → is_beating h ≡ true
      → IsRestingPart start h 1 (after start h (log_of (machine start) es h)).parts
  pub aside : (h : ℕ) → is_beating h ≡ true → h ≢ main
      → (after start h (log_of (machine start) es h)).parts ≡ (after start h (base h)).parts
  pub owns : ShellOwns (after start 0 (log_of (machine start) es 0)).parts
  pub below : (h : ℕ) → AreBelow epoch (log_of (machine start) es h)
  pub once : length (requests (log_of (machine start) es 0)) ≡ 1 + length (requests (base 0))

-- And the closing goes on.
pub record IsOn (start : Start) (c : Course) (base : ℕ → List HostStep) (es : List HostStep) : Type 0 where
  pub on : AreOn start c.epoch base es
  pub links : Links start base es
  pub first : Moment
  pub asked : IsAskedFor start c first
  pub since : List Moment
  pub goes : GoesOn start first since
  pub now : newest first since ≡ moment start base es links
  pub under : IsAskedFor start c (moment start base es links) ⊎ IsUnderWay start c (moment start base es links)

-- whatever is under way fits
module _ (start : Start) (shape : IsShape start.shape) (c : Course) (base : ℕ → List HostStep) (es : List HostStep)
    (links : Links start base es) where
  pub asked_is : IsAskedFor start c (moment start base es links) → (i h : ℕ) (one : Outgoing)
      → IsIn one (map said (links i h).under)
      → (i ≡ 0) × ((h ≡ main) × (one ≡ to_place (checkpoints 1) (ask_of c.kind)))
  asked_is asked i h one is =
      let at : (i ≡ 0) × (h ≡ main) = asked.alone i h one is in (
        at.0,
        (
          at.1,
          alone (subst (IsIn one) asked.request
              (subst (λ k. IsIn one (map said (links 0 k).under)) at.1
              (subst (λ k. IsIn one (map said (links k h).under)) at.0 is))),
        ),
      )
    where
      alone : IsIn one (to_place (checkpoints 1) (ask_of c.kind) ∷ [])
          → one ≡ to_place (checkpoints 1) (ask_of c.kind)
      alone (inl same) = same
      alone (inr none) = absurd none

  pub asked_fits : IsAskedFor start c (moment start base es links) → (i h : ℕ) (one : Outgoing)
      → IsIn one (map said (links i h).under) → IsFit start i h one
  asked_fits asked i h one is =
      let at : (i ≡ 0) × ((h ≡ main) × (one ≡ to_place (checkpoints 1) (ask_of c.kind))) = asked_is asked i h one is in
      fit_at start i h 0 main one (to_place (checkpoints 1) (ask_of c.kind)) at.0 at.1.0 at.1.1
      (request_fits start shape c)

  pub fits : IsAskedFor start c (moment start base es links) ⊎ IsUnderWay start c (moment start base es links)
      → (i h : ℕ) (one : Outgoing) → IsIn one (map said (links i h).under) → IsFit start i h one
  fits (inl asked) i h one is = asked_fits asked i h one is
  fits (inr under) i h one is =
      letter_fits start shape c (moment start base es links) i h one (under.letters i h one is)

-- the block of a main part
closer_of : (of : Part) (to : BlockId) → is_closer of to ≡ true → is_main of ≡ true → to ≡ block.GcpMaster
closer_of part.Main block.GcpMaster has is = refl
closer_of part.Main to has is = absurd (false≢true has)
closer_of part.Tc to has is = absurd (false≢true is)
closer_of part.Ldm to has is = absurd (false≢true is)

master_of : (h : ℕ) (to : BlockId) → has_closer h to ≡ true → is_beating h ≡ true → to ≡ block.GcpMaster
master_of zero to has beats = absurd (false≢true beats)
master_of (suc h) to has beats = closer_of (part_by (h % 3)) to has beats

behind_beating : (h : ℕ) (parts : Parts) → is_beating h ≡ true → behind h parts ≡ parts
behind_beating zero parts beats = absurd (false≢true beats)
behind_beating (suc h) parts beats = refl

-- one of three
third : (a b c : Bool) → b ≡ true → (a || (b || c)) ≡ true
third true b c is = refl
third false true c is = refl
third false false c is = absurd (false≢true is)

-- One more step, where all that is under way fits.
module _ (hosts_level : HostsAreLevel) (start : Start) (shape : IsShape start.shape) (epoch : ℕ)
    (base : ℕ → List HostStep) (all : AllTaken start base) (es : List HostStep) (e : HostStep)
    (run : Run (machine start) (e ∷ es)) (within_now : IsWithin (first_hosts start) (log_of (machine start) (e ∷ es)))
    (unasked : is_asked e.host e.step.taken ≡ false) (unspent : list_any is_spent e.step.marks ≡ false)
    (on : AreOn start epoch base es) (links : Links start base es)
    (fit : (i h : ℕ) (one : Outgoing) → IsIn one (map said (links i h).under) → IsFit start i h one) where
  abbrev h : ℕ
  h = e.host

  abbrev x : Signal
  x = e.step.taken

  abbrev log : ℕ → List HostStep
  log k = log_of (machine start) es k

  fitting : IsFit start x.from.0 h (record { to = x.to; body = x.body })
  fitting =
      moments.fits hosts_level start shape base all es e run within_now on.kept on.running unasked unspent links fit

  parts_now : (after start h (log_of (machine start) (e ∷ es) h)).parts
      ≡ behind h (parts_row (after start h (log h)).parts x).state
  parts_now =
      moments.parts_now hosts_level start shape base all es e run within_now on.kept on.running unasked unspent links
      fit

  parts_stay : (k : ℕ) → k ≢ h
      → (after start k (log_of (machine start) (e ∷ es) k)).parts ≡ (after start k (log k)).parts
  parts_stay =
      moments.parts_stay hosts_level start shape base all es e run within_now on.kept on.running unasked unspent links
      fit

  beating : (k : ℕ) → k < first_hosts start → is_beating k ≡ true
      → IsRestingPart start k 1 (after start k (log_of (machine start) (e ∷ es) k)).parts
  beating k low beats = go (cases_eq k h)
    where
      go : (k ≡ h) ⊎ (k ≢ h) → IsRestingPart start k 1 (after start k (log_of (machine start) (e ∷ es) k)).parts
      go (inl at) =
          let here : is_beating h ≡ true = subst (λ j. is_beating j ≡ true) at beats in
          subst (λ j. IsRestingPart start j 1 (after start j (log_of (machine start) (e ∷ es) j)).parts) (sym at)
          (subst (IsRestingPart start h 1)
          (sym (parts_now ∙ behind_beating h (parts_row (after start h (log h)).parts x).state here))
          (resting_next start h (after start h (log h)).parts x (master_of h x.to.block fitting.block here)
          (on.beating h fitting.low here)))
      go (inr apart) = subst (IsRestingPart start k 1) (sym (parts_stay k apart)) (on.beating k low beats)

  aside : (k : ℕ) → is_beating k ≡ true → k ≢ main
      → (after start k (log_of (machine start) (e ∷ es) k)).parts ≡ (after start k (base k)).parts
  aside k beats other =
      parts_stay k (λ same. other (same ∙ fitting.beats (subst (λ j. is_beating j ≡ true) same beats)))
      ∙ on.aside k beats other

  owns : ShellOwns (after start 0 (log_of (machine start) (e ∷ es) 0)).parts
  owns = go (cases_eq 0 h)
    where
      closing : has_closer h x.to.block ≡ true
      closing = fitting.block

      go : (0 ≡ h) ⊎ (0 ≢ h) → ShellOwns (after start 0 (log_of (machine start) (e ∷ es) 0)).parts
      go (inl at) =
          subst ShellOwns
          (sym (subst
          (λ j. (after start j (log_of (machine start) (e ∷ es) j)).parts
          ≡ behind j (parts_row (after start j (log j)).parts x).state)
          (sym at) parts_now))
          (owns_next (after start 0 (log 0)).parts x (subst (λ j. has_closer j x.to.block ≡ true) (sym at) closing)
          (moments.for_closing hosts_level start shape base all es e run within_now on.kept on.running unasked unspent
          links fit)
          on.owns)
      go (inr apart) = subst ShellOwns (sym (parts_stay 0 apart)) on.owns

  closing_now : is_closing h x ≡ true
  closing_now =
      moments.closing hosts_level start shape base all es e run within_now on.kept on.running unasked unspent links fit

  none_asked : request_of e ≡ None
  none_asked = ap (λ (b : Bool). if b then request_in x.body else None) unasked

  once : length (requests (log_of (machine start) (e ∷ es) 0)) ≡ 1 + length (requests (base 0))
  once =
      each_host start es e
      (λ k those. k ≡ 0 → length (requests those) ≡ 1 + length (requests (base 0)))
      (λ at.
      ap (λ (o : Option ApiReq). length (requests (log h) ++ option_to_list o)) none_asked
      ∙ own at)
      (λ k at. subst (λ j. length (requests (log j)) ≡ 1 + length (requests (base 0))) (sym at) on.once) 0 refl
    where
      own : h ≡ 0 → length (requests (log h) ++ []) ≡ 1 + length (requests (base 0))
      own at =
          ap length (append-nil (requests (log h)))
          ∙ subst (λ j. length (requests (log j)) ≡ 1 + length (requests (base 0))) (sym at) on.once

  on_next : NobodyStarts start → AreOn start epoch base (e ∷ es)
  on_next nobody =
      record {
        kept =
            moments.kept_now hosts_level start shape base all es e run within_now on.kept on.running unasked unspent
            links fit nobody;
        running =
            moments.running_now hosts_level start shape base all es e run within_now on.kept on.running unasked unspent
            links fit;
        peaceful =
            each_host start es e (λ k those. Each (λ d. is_peaceful k d.step.taken ≡ true) those)
            (third (is_calm h x) (is_closing h x) (asks_closing h x) closing_now, on.peaceful h) on.peaceful;
        beating = beating;
        aside = aside;
        owns = owns;
        below =
            each_host start es e (λ k those. AreBelow epoch those) (
              all_below epoch e.step.marks
                  (moments.marks_now hosts_level start shape base all es e run within_now on.kept on.running unasked
                  unspent links fit),
              on.below h,
            )
            on.below;
        once = once;
      }

-- So of a closing.
module _ (hosts_level : HostsAreLevel) (start : Start) (nobody : NobodyStarts start) (shape : IsShape start.shape)
    (c : Course)
    (next_is : next_of c.kind c.epoch ≡ Some c.next) (base : ℕ → List HostStep) (all : AllTaken start base)
    (es : List HostStep) (e : HostStep) (run : Run (machine start) (e ∷ es))
    (within_now : IsWithin (first_hosts start) (log_of (machine start) (e ∷ es)))
    (unasked : is_asked e.host e.step.taken ≡ false) (unspent : list_any is_spent e.step.marks ≡ false)
    (on : IsOn start c base es) where
  abbrev was : Moment
  was = moment start base es on.links

  fit : (i h : ℕ) (one : Outgoing) → IsIn one (map said (on.links i h).under) → IsFit start i h one
  fit = fits start shape c base es on.links on.under

  links_now : Links start base (e ∷ es)
  links_now =
      moments.links_now hosts_level start shape base all es e run within_now on.on.kept on.on.running unasked unspent
      on.links fit nobody

  takes : Takes start was (moment start base (e ∷ es) links_now)
  unfolding links_now
  takes =
      moments.takes hosts_level start shape base all es e run within_now on.on.kept on.on.running unasked unspent
      on.links fit nobody

  under : IsAskedFor start c was ⊎ IsUnderWay start c was
      → IsUnderWay start c (moment start base (e ∷ es) links_now)
  under (inl asked) = request_on start shape c next_is was (moment start base (e ∷ es) links_now) asked takes
  under (inr before) = ends.goes_on start shape c next_is was (moment start base (e ∷ es) links_now) before takes

  pub is_on_next : IsOn start c base (e ∷ es)
  is_on_next =
      record {
        on =
            on_next hosts_level start shape c.epoch base all es e run within_now unasked unspent on.on on.links fit
            nobody;
        links = links_now;
        first = on.first;
        asked = on.asked;
        since = moment start base (e ∷ es) links_now ∷ on.since;
        goes = (on.goes, subst (λ m. Takes start m (moment start base (e ∷ es) links_now)) (sym on.now) takes);
        now = refl;
        under = inr (under on.under);
      }
