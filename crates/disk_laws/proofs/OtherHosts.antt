-- A disk keeps nothing of a host of its node that neither has rows nor coordinates.
use Rattle.std.proofs.Common.{◌≡◌, ◌≢◌, ◌⊎◌, ◌∙◌, ℕ, zero, suc, ◌+◌, ◌-◌, ◌/◌, ◌%◌, ◌≤◌, ◌<◌, ◌==◌, ◌&&◌, Bool, true}
use Rattle.std.proofs.Common.{false, not, List, [], ◌∷◌, refl, ap, sym, subst, inl, inr, arith, if◌then◌else◌}
use Rattle.std.specs.Prelude.{None}
use Rattle.std.proofs.lemmas.Bool.{and_from, cases_lt, eq-eqb}
use Rattle.run_theory.specs.Links.{IsGiven, taken}
use Rattle.run_theory.specs.Lists.{Each, IsIn}
use Rattle.run_theory.specs.Logs.{IsLog}
use Rattle.run_theory.proofs.Pasts.{each_past}
use Rattle.sig_core.specs.declared.member.Member.{Member}
use Rattle.sig_core.specs.declared.signal.Body.TheVariants.{Epoch, Host}
use Rattle.sig_core.specs.declared.signal.Signal.{Signal}
use Rattle.sig_core.specs.declared.signal.epoch.EpochSignal.TheVariants.{CopyGciReq}
use Rattle.sig_core.specs.declared.signal.host.HostSignal.TheVariants.{Closed}
use Rattle.sig_core.specs.declared.view.View.{View}
use Rattle.sig_core.specs.Members.{nobody}
use Rattle.node_views.specs.Blocks.{parts_entered, parts_row}
use Rattle.node_views.specs.declared.host_body.HostBody as hosts_of
use Rattle.node_views.specs.declared.parts.Parts.{Parts}
use Rattle.node_views.specs.declared.parts.Parts.TheVariants as part
use Rattle.node_views.specs.Saving.{outlet_of}
use Rattle.node_views.proofs.HostWalk.{Saying}
use Rattle.world_views.proofs.AllBegin.{started_behind}
use Rattle.world_core.proofs.MadeFirst.{hosts_first}
use Rattle.world_core.proofs.HostNumbers.{made_at}
use Rattle.world_core.specs.Hosts.{hosts, member_at, part_by}
use Rattle.world_core.specs.Start.{NobodyStarts, Start, made}
use Rattle.world_core.specs.Steps.{Addressed, HostStep}
use Rattle.world_core.specs.World.{logs_at}
use Rattle.world_views.specs.Disks.{newest_taken}
use Rattle.world_views.specs.Driven.{IsSound}
use Rattle.world_views.specs.Hosts.{part_started, started}
use Rattle.world_views.specs.Machine.{after, cause_in, machine, step_by}
use Rattle.world_views.specs.Sending.{is_asked, is_own_work}
use Rattle.world_views.specs.World.{Whole}
use Rattle.world_views.proofs.StepWalk.{step_so}
use Rattle.moment_laws.specs.Places.{ldm_of, tc_of}
use Rattle.moment_laws.proofs.MomentHosts.{ldm_number, tc_number}
use Rattle.disk_world.specs.Keeping.{NothingNew, kept_beside}
use Rattle.disk_laws.proofs.CopyOrders.{GoesToEpochs, all_go}
use Rattle.disk_laws.proofs.GoneLemmas.{kept_behind, place_of}
use Rattle.disk_laws.proofs.NotedSignals.{IsNoRows, durable, kept_says, no_rows, nothing}
use Rattle.disk_laws.proofs.SavedLemmas.{told_some}

and_none : (b : Bool) → (b && false) ≡ false
and_none true = refl
and_none false = refl

-- blocks without rows never get any
none_row : (parts : Parts) (x : Signal) → outlet_of parts ≡ None → outlet_of (parts_row parts x).state ≡ None
none_row (part.Shell p) x none = refl
none_row (part.Main p) x none = refl
none_row (part.Tc p) x none = refl
none_row (part.Ldm p) x none = absurd cc

none_entered : (parts : Parts) (view : View) → outlet_of parts ≡ None
    → outlet_of (parts_entered parts view).state ≡ None
none_entered (part.Shell p) view none = refl
none_entered (part.Main p) view none = refl
none_entered (part.Tc p) view none = refl
none_entered (part.Ldm p) view none = absurd cc

abbrev HasNone : Saying
HasNone standing parts sends marks = outlet_of parts ≡ None

step_none : (h : ℕ) (s : hosts_of.HostBody) (x : Signal) → outlet_of s.parts ≡ None
    → outlet_of (step_by h s x).state.parts ≡ None
step_none h s x none =
    step_so HasNone x h s (record {
      own = record {
        counts = λ standing parts sends marks left so. so;
        cuts = λ standing parts sends marks first so. so;
        stops = λ standing parts sends marks cause so. so;
        hushes = λ standing parts sends marks stops so. so;
      };
      stays = none;
      goes = λ sound old barred left. record {
        row = λ unsettled. none_row s.parts x none;
        settles = λ view at. none_entered (parts_row s.parts x).state view (none_row s.parts x none);
      };
      enters = λ sound newer among left. none_entered s.parts x.view none;
      behind = λ sound newer among barred left. record {
        row = λ unsettled. none_row (parts_entered s.parts x.view).state x (none_entered s.parts x.view none);
        settles = λ view at.
            none_entered (parts_row (parts_entered s.parts x.view).state x).state view
            (none_row (parts_entered s.parts x.view).state x (none_entered s.parts x.view none));
      };
    })

module _ (start : Start) where
  none_after : (h : ℕ) (log : List HostStep) → 1 ≤ h → outlet_of (started start h).parts ≡ None
      → outlet_of (after start h log).parts ≡ None
  none_after h [] some none = none
  none_after h (e ∷ log) some none =
      let t = step_by h (after start h log) e.step.taken in
      ap (λ (s : hosts_of.HostBody). outlet_of s.parts) (told_some h t some)
      ∙ step_none h (after start h log) e.step.taken (none_after h log some none)

  -- a main part has none
  main_none : NobodyStarts start → (k : ℕ) → k % 3 ≡ 0 → outlet_of (started start (suc k)).parts ≡ None
  main_none none_starts k is =
      ap (λ (s : hosts_of.HostBody). outlet_of s.parts) (started_behind start none_starts k)
      ∙ ap (λ left. outlet_of (part_started start (part_by left) (member_at (made start) (suc k))).parts) is

  -- what a link gave to a host was sent to it, or is a closing
  given_goes : NobodyStarts start → (i j : ℕ) (log : List HostStep) (x : Addressed) (xs : List Addressed)
      → IsGiven (machine start) i j log (x ∷ xs) → (epoch mask : ℕ) → x.signal.body ≡ Epoch (CopyGciReq epoch mask)
      → GoesToEpochs start x
  given_goes none_starts i j log x xs (inl past) epoch mask is =
      let told : Each (GoesToEpochs start) (x ∷ xs) =
      each_past (GoesToEpochs start) past (all_go start none_starts i j log) in
      told.0
  given_goes none_starts i j [] x xs (inr closing) epoch mask is = absurd closing
  given_goes none_starts i j (e ∷ log) x xs (inr closing) epoch mask is =
      let same : (machine start).closing i log e j ≡ x = cc (closing.is) in
      let body : Host (Closed (cause_in e.step.marks)) ≡ Epoch (CopyGciReq epoch mask) =
      ap (λ (y : Addressed). y.signal.body) same ∙ is in
      absurd cc

  module _ (w : Whole) (sound : IsSound start w) (h : ℕ) (low : h < hosts start) (main : h % 3 ≡ 1) where
    -- no order to note an epoch comes to a main host
    takes_none : (e : HostStep) (log : List HostStep) → logs_at w.logs h ≡ e ∷ log → (epoch mask : ℕ)
        → e.step.taken.body ≡ Epoch (CopyGciReq epoch mask) → ⊥
    takes_none e log is epoch mask says = by (cases_lt x.from.0 (hosts start))
      where
        x : Signal
        x = e.step.taken

        not_asked : is_asked e.host x ≡ false
        not_asked = ap (λ body. (x.from.0 == e.host) && is_own_work body) says ∙ and_none (x.from.0 == e.host)

        taken_is : taken (machine start) x.from.0 (logs_at w.logs h)
            ≡ (machine start).signal e ∷ taken (machine start) x.from.0 log
        taken_is =
            ap (taken (machine start) x.from.0) is
            ∙ ap
            (λ (own : Bool). if own then (machine start).signal e ∷ taken (machine start) x.from.0 log
            else taken (machine start) x.from.0 log)
            (and_from (not (is_asked e.host x)) (x.from.0 == x.from.0) (ap not not_asked)
            (eq-eqb x.from.0 x.from.0 refl))

        at : e.host ≡ h
        at = (subst (IsLog (machine start) h) is (sound.right.local h low)).0.at

        goes : GoesToEpochs start ((machine start).signal e) → ⊥
        goes all =
            let least = all epoch mask says (ap (λ n. n % 3) at ∙ main) in omega (arith, least, at, low)

        by : (x.from.0 < hosts start) ⊎ (hosts start ≤ x.from.0) → ⊥
        by (inl there) =
            goes (given_goes sound.right.nobody x.from.0 h (logs_at w.logs x.from.0) ((machine start).signal e) _
            (subst (IsGiven (machine start) x.from.0 h (logs_at w.logs x.from.0)) taken_is
            (sound.right.linked x.from.0 h there low).given) epoch mask says)
        by (inr beyond) =
            let both : [] ≡ (machine start).signal e ∷ taken (machine start) x.from.0 log =
            sym (sound.right.no_others x.from.0 h beyond) ∙ taken_is in
            absurd cc

    pub main_keeps_nothing : 1 ≤ h → outlet_of (started start h).parts ≡ None
        → kept_behind start h (logs_at w.logs h) ≡ NothingNew
    main_keeps_nothing some none = by (logs_at w.logs h) refl
      where
        newest : (e : HostStep) (log : List HostStep) → logs_at w.logs h ≡ e ∷ log
            → IsNoRows (kept_behind start h (e ∷ log)) → kept_behind start h (e ∷ log) ≡ NothingNew
        newest e log is (nothing so) = so
        newest e log is (durable one) =
            absurd (takes_none e log is one.epoch one.mask
            (kept_says (after start h (e ∷ log)) e.step.taken one.epoch one.mask one.is).body)

        by : (log : List HostStep) → logs_at w.logs h ≡ log → kept_behind start h (logs_at w.logs h) ≡ NothingNew
        by [] is =
            ap (kept_behind start h) is ∙ ap (λ o. kept_beside o (started start h) None) none
        by (e ∷ log) is =
            ap (kept_behind start h) is
            ∙ newest e log is
            (no_rows (after start h (e ∷ log)) (newest_taken (e ∷ log)) (none_after h (e ∷ log) some none))

pub others_keep_nothing : (start : Start) (w : Whole) → IsSound start w → (member : Member) → IsIn member (made start)
    → (h : ℕ) → 1 ≤ h → h < hosts start → h ≢ ldm_of start member → h ≢ tc_of start member
    → place_of start h ≡ member.node - 1 → kept_behind start h (logs_at w.logs h) ≡ NothingNew
others_keep_nothing start w sound member there zero some low not_rows not_tc at = absurd (omega (arith, some))
others_keep_nothing start w sound member there (suc k) some low not_rows not_tc at =
    main_keeps_nothing start w sound (suc k) low (omega (arith, first)) some
    (main_none start sound.right.nobody k first)
  where
    place : k / 3 ≡ member.node - 1
    place =
        let few : k / 3 < start.shape.nodes = omega (arith, low, hosts_first start sound.right.nobody) in
        let node : place_of start (suc k) ≡ k / 3 + 1 - 1 =
        ap (λ (m : Member). m.node - 1) (made_at start (k / 3) nobody few) in
        omega (arith, node, at)

    first : k % 3 ≡ 0
    first =
        let rows = ldm_number start sound.right.nobody member there in
        let tc = tc_number start sound.right.nobody member there in
        omega (arith, place, rows, tc, not_rows, not_tc)
