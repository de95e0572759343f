-- Peace goes on by a calm request from one moment at which nothing is under way to the next, in the same epoch.
use Rattle.std.proofs.Common.{◌≡◌, ◌≢◌, ◌⊎◌, ◌+◌, ◌<◌, ◌≤◌, inl, inr, ℕ, List, [], ◌∷◌, ◌++◌, length, Bool, true, false}
use Rattle.std.proofs.Common.{refl, ap, sym, ◌∙◌, subst, length-append, arith}
use Rattle.std.proofs.Math.Path.{fun_ext}
use Rattle.std.proofs.lemmas.Bool.{cases_eq}
use Rattle.std.specs.Prelude.{◌||◌}
use Rattle.frag_map.specs.Shape.{IsShape}
use Rattle.host_laws.proofs.hosts.HostMarks.{AreMarks, decides, plain, row_marks}
use Rattle.host_laws.proofs.hosts.HostMarks as marks
use Rattle.host_laws.proofs.hosts.PlainMarks.{ArePlain}
use Rattle.node_core.specs.declared.host.Host as plain_host
use Rattle.node_core.specs.declared.host.Host.TheVariants as kind
use Rattle.node_core.specs.Row.{row}
use Rattle.run_theory.proofs.Growth.{grow}
use Rattle.run_theory.proofs.Pasts.{past_self, past_trans}
use Rattle.run_theory.proofs.Runs.{log_of-past}
use Rattle.run_theory.specs.Along.{Grows}
use Rattle.run_theory.specs.Links.{sent}
use Rattle.run_theory.specs.Lists.{Each, IsPast}
use Rattle.run_theory.specs.Runs.{IsWithin, Run, log_of}
use Rattle.run_theory.proofs.EventCases.{event_each}
use Rattle.sig_core.specs.declared.mark.Mark.{Mark}
use Rattle.sig_core.specs.declared.mark.Mark.TheVariants.{Decided}
use Rattle.sig_core.specs.declared.request.ApiReq.{ApiReq}
use Rattle.peace_laws.proofs.lives.FirstHosts.{go_within}
use Rattle.world_core.specs.Hosts.{first_hosts}
use Rattle.world_core.specs.Start.{NobodyStarts, Start}
use Rattle.world_core.specs.Steps.{HostStep}
use Rattle.world_views.proofs.SentFacts.{is_stamped}
use Rattle.world_views.specs.Machine.{after, has_stopped, machine}
use Rattle.world_views.specs.Quiet.{IsQuiet}
use Rattle.world_views.specs.Requests.{requests}
use Rattle.calm_laws.specs.Calm.{is_calm, is_calm_request}
use Rattle.calm_laws.specs.Plain.{is_beating}
use Rattle.calm_laws.specs.Resting.{AreResting, IsRestingPart}
use Rattle.calm_laws.proofs.lives.Events.{host_there, within_before}
use Rattle.calm_laws.proofs.lives.FirstRing.{behind_of_front, front_low}
use Rattle.calm_laws.proofs.places.Main.{IsMainAt, main_at, main_beats, main_low, main_place}
use Rattle.calm_laws.proofs.lives.Steady.{IsGood, IsShellSteady, IsSteady, behind, rests_more}
use Rattle.qmgr_block.specs.Ring.{place_in_front}
use Rattle.level_laws.specs.Laws.{HostsAreLevel}
use Rattle.peace_laws.specs.Laws.{GoOnBy}
use Rattle.peace_laws.specs.Peace.{ArePeaceful, asks_closing, is_closing, is_peaceful}
use Rattle.peace_laws.proofs.near.CalmFacts.{facts, next}
use Rattle.peace_laws.proofs.lives.NextGood.{IsNextInCalm, main_good, main_rests, other_good, other_rests}
use Rattle.peace_laws.proofs.lives.NextSignals.{AllTaken, next_calm, room, signal_fine, within_now}
use Rattle.peace_laws.proofs.plain.CountsNobody.{counts_nobody}
use Rattle.peace_laws.proofs.near.Resting.{Gives, StaysIn, near_gives, rests_stays, stays_closeless, stays_rests}
use Rattle.peace_laws.proofs.near.Runs.{IsKept}
use Rattle.peace_laws.proofs.lives.Stands.{AreBelow, IsBelow, Rests, Stands, taken_by_all}

-- what a plain host that gives an epoch decides is below no other
plain_below : (epoch : ℕ) (those : List Mark) → ArePlain those → Each (IsBelow epoch) those
plain_below epoch [] all = tt
plain_below epoch (Decided tx other ∷ more) all = absurd cc
plain_below epoch (mark ∷ more) all = (tt, plain_below epoch more all.1)

marks_below : (epoch : ℕ) (those : List Mark) → AreMarks epoch those → Each (IsBelow epoch) those
marks_below epoch those (plain all) = plain_below epoch those all
marks_below epoch those (decides tx is) = subst (Each (IsBelow epoch)) (sym is) (omega arith, tt)

gives_in : (epoch : ℕ) (s : plain_host.Host) → Gives epoch s → marks.IsIn epoch s
gives_in epoch (kind.Tc q) gives runs = gives
gives_in epoch (kind.Shell a) gives runs = absurd cc
gives_in epoch (kind.Main m) gives runs = absurd cc
gives_in epoch (kind.Ldm s) gives runs = absurd cc

-- What all hosts have done since the quiet moment, calmly.
record AreGood (start : Start) (epoch : ℕ) (base : ℕ → List HostStep) (es : List HostStep) : Type 0 where
  kept : IsKept start es
  peaceful : ArePeaceful (log_of (machine start) es)
  running : (h : ℕ) → has_stopped (log_of (machine start) es h) ≡ false
  stays : (h : ℕ) → h < first_hosts start → StaysIn start h epoch (after start h (log_of (machine start) es h)).parts
  good : (h : ℕ) → IsGood start base h (log_of (machine start) es h)
  below : (h : ℕ) → AreBelow epoch (log_of (machine start) es h)

module _ (hosts_level : HostsAreLevel) (start : Start) (nobody : NobodyStarts start) (shape : IsShape start.shape)
    (request : ApiReq) (epoch : ℕ)
    (was more : ℕ → List HostStep) (rests : Rests start epoch was) (quiet : IsQuiet start was)
    (by : GoOnBy start request was more) (asks_calmly : is_calm_request request ≡ true) where
  all : AllTaken start was
  all = taken_by_all start was rests.stands quiet

  -- one more step
  module _ (es : List HostStep) (e : HostStep) (run : Run (machine start) (e ∷ es))
      (upto : (h : ℕ) → IsPast (log_of (machine start) (e ∷ es) h) (more h)) (are : AreGood start epoch was es) where
    abbrev log : List HostStep
    log = log_of (machine start) es e.host

    within : IsWithin (first_hosts start) (log_of (machine start) (e ∷ es))
    within = within_now start request was more all by asks_calmly es e run upto are.running are.good nobody

    low : e.host < first_hosts start
    low = host_there start (first_hosts start) e es within

    within_then : IsWithin (first_hosts start) (log_of (machine start) es)
    within_then = within_before start (first_hosts start) e es within

    calm : is_calm e.host e.step.taken ≡ true
    calm = next_calm start request was more all by asks_calmly es e run upto are.running are.good nobody

    stays : StaysIn start e.host epoch (after start e.host log).parts
    stays = are.stays e.host low

    known : IsNextInCalm start es e (are.kept.mirrored e.host)
    known =
        facts hosts_level start nobody shape es e run calm within_then low are.kept
        (stays_closeless start e.host epoch (after start e.host log).parts stays)

    kept : IsKept start (e ∷ es)
    kept =
        (next hosts_level start nobody shape es e run calm within_then low are.kept
        (stays_closeless start e.host epoch (after start e.host log).parts stays)).kept

    -- a claim about each host, where the one of the step has it
    each_host : (P : ℕ → List HostStep → Type 0) → P e.host (e ∷ log)
        → ((h : ℕ) → P h (log_of (machine start) es h)) → (h : ℕ) → P h (log_of (machine start) (e ∷ es) h)
    each_host P own before = event_each (machine start) e es P own (λ h apart. before h)

    here : (b : Bool) → is_beating e.host ≡ b → IsGood start was e.host (e ∷ log)
        × StaysIn start e.host epoch (after start e.host (e ∷ log)).parts
    here true beats =
        let at : IsMainAt start e.host = main_place start e.host low beats in
        let fine = signal_fine start request was more all by asks_calmly es e run upto are.running are.good nobody in
        let rooms =
        room start request was more all by asks_calmly es e run upto are.running are.good nobody at.place at.low
        at.is (known.unasked beats) in (
          main_good hosts_level start shape epoch was es e are.kept.mirrored low known stays fine (are.good e.host)
              beats at.place at.low at.is rooms nobody,
          main_rests hosts_level start shape epoch was es e are.kept.mirrored low known stays fine (are.good e.host)
              beats at.place at.low at.is rooms,
        )
    here false takes =
        let fine = signal_fine start request was more all by asks_calmly es e run upto are.running are.good nobody in (
          other_good hosts_level start shape epoch was es e are.kept.mirrored low known stays fine (are.good e.host)
              takes nobody,
          other_rests hosts_level start shape epoch was es e are.kept.mirrored low known stays fine (are.good e.host)
              takes,
        )

    own_below : (b : Bool) → is_beating e.host ≡ b → Each (IsBelow epoch) e.step.marks
    own_below true beats = subst (Each (IsBelow epoch)) (sym (known.none beats)) tt
    own_below false takes =
        subst (Each (IsBelow epoch)) (sym (known.marks ∙ (known.alike takes).marks))
        (marks_below epoch (row (are.kept.mirrored e.host).inner e.step.taken).effects.marks
        (row_marks epoch (are.kept.mirrored e.host).inner e.step.taken
        (gives_in epoch (are.kept.mirrored e.host).inner
        (near_gives start _ e.host epoch (after start e.host log).parts (are.kept.mirrored e.host).inner
        (are.kept.mirrored e.host).near.parts stays))))

    good_next : AreGood start epoch was (e ∷ es)
    good_next =
        record {
          kept = kept;
          peaceful =
              each_host (λ h those. Each (λ d. is_peaceful h d.step.taken ≡ true) those) (
                ap (λ b. b || (is_closing e.host e.step.taken || asks_closing e.host e.step.taken)) calm,
                are.peaceful e.host,
              ) are.peaceful;
          running = each_host (λ h those. has_stopped those ≡ false) known.goes_on are.running;
          stays = each_host (λ h those. h < first_hosts start → StaysIn start h epoch (after start h those).parts)
              (λ there. (here (is_beating e.host) refl).1) are.stays;
          good = each_host (IsGood start was) (here (is_beating e.host) refl).0 are.good;
          below = each_host (λ h those. AreBelow epoch those)
              (own_below (is_beating e.host) refl, are.below e.host) are.below;
        }

  -- at the quiet moment nothing was done since
  begins_good : (h : ℕ) → IsGood start was h (was h)
  begins_good h =
      record {
        past = past_self (was h);
        since = λ j. record { newer = []; is = refl; fine = tt };
        main = λ k low at.
            let rest : IsRestingPart start (main_at k) 1 (after start (main_at k) (was h)).parts =
            subst (λ i. IsRestingPart start (main_at k) 1 (after start (main_at k) (was i)).parts) (sym at)
            (rests.beating (main_at k) (main_low start k low) (main_beats k)) in
            record {
              alone = λ one. rest;
              steady = λ some. record {
                late = 1;
                some = omega arith;
                rounds = 0;
                took = omega arith;
                rests = rest;
                heard = λ less. absurd (omega (arith, less));
                beats = omega arith;
              };
            };
        shell = λ at. record { rounds = 0; told = λ k low. omega arith; asked = omega arith };
      }

  abbrev first : List HostStep
  first = rests.stands.es

  begins : AreGood start epoch was first
  begins =
      record {
        kept = rests.stands.kept;
        peaceful = subst ArePeaceful (sym rests.stands.is) rests.stands.peaceful;
        running = λ h.
            subst (λ (logs : ℕ → List HostStep). has_stopped (logs h) ≡ false) (sym rests.stands.is)
            (rests.stands.running h);
        stays = λ h low.
            subst (λ (logs : ℕ → List HostStep). StaysIn start h epoch (after start h (logs h)).parts)
            (sym rests.stands.is) (rests_stays start h epoch (after start h (was h)).parts (rests.rests h low));
        good = λ h.
            subst (λ (logs : ℕ → List HostStep). IsGood start was h (logs h)) (sym rests.stands.is) (begins_good h);
        below = λ h.
            subst (λ (logs : ℕ → List HostStep). AreBelow epoch (logs h)) (sym rests.stands.is) (rests.below h);
      }

  -- the run to it goes on
  grows : Grows (machine start) first more
  grows =
      grow (machine start) (is_stamped start) (first_hosts start) first more rests.stands.run
      (go_within start nobody request was more by)
      by.right
      (subst (λ (logs : ℕ → List HostStep). (h : ℕ) → IsPast (logs h) (more h)) (sym rests.stands.is) by.past)

  -- and stays good
  goes : (newer : List HostStep) → Run (machine start) (newer ++ first)
      → ((h : ℕ) → IsPast (log_of (machine start) (newer ++ first) h) (more h))
      → AreGood start epoch was (newer ++ first)
  goes [] run upto = begins
  goes (e ∷ newer) run upto =
      good_next (newer ++ first) e run upto
      (goes newer run.0 (λ h. past_trans (log_of-past (machine start) e (newer ++ first) h) (upto h)))

  logs_are : log_of (machine start) (grows.more ++ first) ≡ more
  logs_are = fun_ext grows.logs

  all_good : AreGood start epoch was (grows.more ++ first)
  all_good =
      goes grows.more grows.run
      (subst (λ (logs : ℕ → List HostStep). (h : ℕ) → IsPast (logs h) (more h)) (sym logs_are)
      (λ h. past_self (more h)))

  good_at : (h : ℕ) → IsGood start was h (more h)
  good_at h = subst (λ (logs : ℕ → List HostStep). IsGood start was h (logs h)) logs_are (all_good.good h)

  pub calm_stands : Stands start more
  calm_stands =
      record {
        es = grows.more ++ first;
        run = grows.run;
        is = logs_are;
        within = go_within start nobody request was more by;
        kept = all_good.kept;
        peaceful = subst ArePeaceful logs_are all_good.peaceful;
        running = λ h.
            subst (λ (logs : ℕ → List HostStep). has_stopped (logs h) ≡ false) logs_are (all_good.running h);
      }

  -- Where nothing is under way again:
  module _ (quiet_again : IsQuiet start more) where
    again : AllTaken start more
    again = taken_by_all start more calm_stands quiet_again

    shell : IsShellSteady start (was 0) (more 0)
    shell = (good_at 0).shell refl

    -- there was one round at most,
    few_rounds : shell.rounds ≤ 1
    few_rounds =
        omega (arith, shell.asked, ap length by.asked, length-append (requests (was 0)) (request ∷ []))

    module _ (some : 2 ≤ start.shape.nodes) where
      abbrev steady : (k : ℕ) → k < start.shape.nodes → IsSteady start (was (main_at k)) k (more (main_at k))
      steady k low = ((good_at (main_at k)).main k low refl).steady some

      -- each main part took it, or there was none,
      took_all : (k : ℕ) (low : k < start.shape.nodes) → (steady k low).rounds ≡ shell.rounds
      took_all k low =
          omega (
            arith,
            (steady k low).took,
            shell.told k low,
            ap length (all 0 (main_at k) (omega arith) (main_low start k low)),
            ap length (again 0 (main_at k) (omega arith) (main_low start k low)),
          )

      -- and the heartbeat of the main part in front, which that sent at it
      module _ (k : ℕ) (low : k < start.shape.nodes) where
        abbrev front : ℕ
        front = place_in_front start.shape.nodes k

        ahead_low : front < start.shape.nodes
        ahead_low = front_low start.shape.nodes k low

        back : behind start front ≡ main_at k
        back = ap main_at (behind_of_front start.shape.nodes k low)

        told_it : shell.rounds + length (sent (machine start) (main_at front) (main_at k) (was (main_at front)))
            ≤ length (sent (machine start) (main_at front) (main_at k) (more (main_at front)))
        told_it =
            subst
            (λ j.
            shell.rounds + length (sent (machine start) (main_at front) j (was (main_at front)))
            ≤ length (sent (machine start) (main_at front) j (more (main_at front))))
            back
            (subst
            (λ n.
            n + length (sent (machine start) (main_at front) (behind start front) (was (main_at front)))
            ≤ length (sent (machine start) (main_at front) (behind start front) (more (main_at front))))
            (took_all front ahead_low) (steady front ahead_low).beats)

        heard_it : 1 ≤ shell.rounds → (steady k low).late ≡ 0
        heard_it one =
            (steady k low).heard
            (omega (
              arith,
              one,
              told_it,
              ap length (all (main_at front) (main_at k) (main_low start front ahead_low) (main_low start k low)),
              ap length (again (main_at front) (main_at k) (main_low start front ahead_low) (main_low start k low)),
            ))

        few_missed : (steady k low).late + (steady k low).rounds ≤ 1
        few_missed = go (cases_eq shell.rounds 0)
          where
            go : (shell.rounds ≡ 0) ⊎ (shell.rounds ≢ 0) → (steady k low).late + (steady k low).rounds ≤ 1
            go (inl none) = omega (arith, none, took_all k low, (steady k low).some)
            go (inr one) = omega (arith, took_all k low, few_rounds, heard_it (omega (arith, one)))

        rests_again : IsRestingPart start (main_at k) 1 (after start (main_at k) (more (main_at k))).parts
        rests_again =
            rests_more start (main_at k) ((steady k low).late + (steady k low).rounds) 1
            (after start (main_at k) (more (main_at k))).parts few_missed (steady k low).rests

    rest_at : (k : ℕ) → k < start.shape.nodes
        → IsRestingPart start (main_at k) 1 (after start (main_at k) (more (main_at k))).parts
    rest_at k low = go (cases_eq start.shape.nodes 1)
      where
        go : (start.shape.nodes ≡ 1) ⊎ (start.shape.nodes ≢ 1)
            → IsRestingPart start (main_at k) 1 (after start (main_at k) (more (main_at k))).parts
        go (inl one) = ((good_at (main_at k)).main k low refl).alone one
        go (inr many) = rests_again (omega (arith, many, low)) k low

    all_rest : AreResting start more
    all_rest h low beats =
        let at : IsMainAt start h = main_place start h low beats in
        subst (λ i. IsRestingPart start i 1 (after start i (more i)).parts) (sym at.is) (rest_at at.place at.low)

    pub calm_rests : Rests start epoch more
    calm_rests =
        record {
          stands = calm_stands;
          beating = all_rest;
          rests = λ h low.
              stays_rests start h epoch (after start h (more h)).parts
              (subst (λ (logs : ℕ → List HostStep). StaysIn start h epoch (after start h (logs h)).parts) logs_are
              (all_good.stays h low))
              (counts_nobody start shape more calm_stands quiet_again h low);
          below = λ h.
              subst (λ (logs : ℕ → List HostStep). AreBelow epoch (logs h)) logs_are (all_good.below h);
        }
