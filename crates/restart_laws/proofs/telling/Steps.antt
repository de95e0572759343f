-- A host goes on, and the disk of its node keeps what it is to keep of it, or the host stops: a host that tells by its
-- log has told, then as before, only what its disk kept.
use Rattle.std.proofs.Common.{◌≡◌, ◌≢◌, ◌≤◌, ◌<◌, ◌⊎◌, inl, inr, ℕ, zero, suc, List, ◌∷◌, Bool, true, false}
use Rattle.std.proofs.Common.{length, refl, sym, ap, subst, ◌∙◌, arith}
use Rattle.std.proofs.lemmas.Bool.{cases_eq, true≢false}
use Rattle.std.specs.List.{list_any}
use Rattle.std.specs.Prelude.{Ok, Some}
use Rattle.run_theory.specs.Lists.{IsIn}
use Rattle.run_theory.specs.Logs.{IsLog}
use Rattle.sig_core.specs.declared.member.Member.{Member}
use Rattle.sig_core.specs.declared.outcome.StopCause.TheVariants.{Disk}
use Rattle.sig_core.specs.declared.signal.Body.{Body}
use Rattle.sys_restart.specs.Answers.{count_of}
use Rattle.view_laws.proofs.runs.FirstMembers.{node_low, node_some}
use Rattle.view_laws.proofs.standing.Home.{host_home, host_made}
use Rattle.world_core.specs.Hosts.{hosts, member_at}
use Rattle.world_core.specs.Start.{Start, made}
use Rattle.world_core.specs.Steps.{HostStep}
use Rattle.world_core.specs.World.{logs_at}
use Rattle.world_views.specs.Driven.{IsDriven, IsSound}
use Rattle.world_views.specs.Links.{link}
use Rattle.world_views.specs.Machine.{after, has_stopped, machine, own_stop}
use Rattle.world_views.specs.Right.{IsRight}
use Rattle.world_views.specs.World.{Whole, body_at, has_stopped_in}
use Rattle.world_views.proofs.DiskLemmas.{disk_driven}
use Rattle.world_views.proofs.ScheduleLemmas.{running_low}
use Rattle.disk_world.specs.Disks.{Disks, GoesOn, HasGoneOn, KeepsStep, node_of}
use Rattle.disk_laws.specs.Noted.{is_disk_stop, kept_if, kept_part}
use Rattle.restart_laws.specs.Told.{IsTold}
use Rattle.restart_laws.proofs.telling.Facts.{TellsByLog}
use Rattle.restart_laws.proofs.telling.Last.{last_told}
use Rattle.restart_laws.proofs.telling.Alone.{stays_told, takes}
use Rattle.restart_laws.proofs.telling.Marks.{steps_fail_not}
use Rattle.restart_laws.proofs.telling.Over.{TakesFrom, none_taken, one_taken, told_over}
use Rattle.restart_laws.proofs.telling.Stops.{ended, link_other, logs_there, stop, stop_other, stop_own}
use Rattle.restart_laws.proofs.telling.Stops.{stop_takes_none}
use Rattle.restart_laws.proofs.telling.Whole.{all_told}

-- a host that runs stands so as its log leads to
pub body_is : (start : Start) (w : Whole) (sound : IsSound start w) (g : ℕ) → has_stopped_in w g ≡ false
    → body_at w.bodies g ≡ after start g (logs_at w.logs g)
body_is start w sound g runs =
    let low = running_low start w g sound runs in
    sound.right.bodies g low (sym (sound.right.stopped g low) ∙ runs)

-- and its node is one of the cluster
pub node_is : (start : Start) (w : Whole) (sound : IsSound start w) (g : ℕ) → 1 ≤ g → has_stopped_in w g ≡ false
    → node_of w g ≡ (member_at (made start) g).node
node_is start w sound g some runs =
    let low = running_low start w g sound runs in
    ap (λ s. s.standing.member.node) (body_is start w sound g runs)
    ∙ ap (λ (m : Member). m.node) (host_home start sound.right.nobody g some low (logs_at w.logs g)).is

module _ (start : Start) (w t : Whole) (old new : Disks) (counts : List ℕ) (sound : IsSound start w)
    (tells_all : start.shape.nodes ≤ length old.told) (uses_all : start.shape.nodes ≤ length old.slots)
    (gone : HasGoneOn w old new counts t)
  where
    abbrev g : ℕ
    g = gone.host

    abbrev u : Whole
    u = gone.stepped

    pub sound_then : IsSound start u
    sound_then =
        record { given = sound.given; right = (gone.driven start sound).right sound.given sound.right }

    -- what became of the host that went on: where a call for its step failed, it stopped behind that
    pub data Becomes : Type 0 where
      goes_on : t ≡ u → Becomes
      fails : (e : HostStep) → logs_at u.logs g ≡ e ∷ logs_at w.logs g → 1 ≤ g → has_stopped_in u g ≡ false
          → t ≡ ended u g (count_of counts (node_of u g)) → Becomes

    module _ (e : HostStep) (more : logs_at u.logs g ≡ e ∷ logs_at w.logs g) (some : 1 ≤ g)
        (runs : has_stopped_in u g ≡ false)
      where
        keeps : KeepsStep u g old
        keeps =
            let low = running_low start u g sound_then runs in
            let there = host_made start sound.right.nobody g some low in
            let node = node_is start u sound_then g some runs in
            let first = node_some start sound.right.nobody (member_at (made start) g) there in
            let last = node_low start sound.right.nobody (member_at (made start) g) there in
            record {
              part = some;
              runs = runs;
              has = record {
                some = omega (arith, node, first);
                disk = omega (arith, node, last, tells_all);
                slots_of = omega (arith, node, last, uses_all);
              };
            }

        kept : (b : Bool) → GoesOn b u g (count_of counts (node_of u g)) t → Becomes
        kept true is = goes_on is
        kept false is = fails e more some runs is

        made_one : Becomes
        made_one = let step = gone.kept e more keeps in kept step.ok step.goes

    pub becomes : Becomes
    becomes = by (has_stopped_in u g) refl g refl gone.alone.own
      where
        by : (b : Bool) → has_stopped_in u g ≡ b → (h : ℕ) → g ≡ h
            → (logs_at u.logs g ≡ logs_at w.logs g) ⊎ ((e : HostStep) × (logs_at u.logs g ≡ e ∷ logs_at w.logs g))
            → Becomes
        by true stops h is own = goes_on (gone.nothing (inr (inr stops))).0
        by false runs zero is own = goes_on (gone.nothing (inl is)).0
        by false runs (suc h) is (inl same) = goes_on (gone.nothing (inr (inl same))).0
        by false runs (suc h) is (inr (e, more)) = made_one e more (omega (arith, is)) runs

    module _ (h : ℕ) (Tells : List HostStep → Body → Type 0) (tells : TellsByLog start h Tells)
        (told : IsTold start h (Tells (kept_part (logs_at w.logs h))) w)
      where
        abbrev KeptIn : Whole → Type 0
        KeptIn v = IsTold start h (Tells (kept_part (logs_at v.logs h))) v

        -- where the host made no step
        silent : logs_at u.logs h ≡ logs_at w.logs h → KeptIn u
        silent same =
            subst (λ log. IsTold start h (Tells (kept_part log)) u) (sym same)
            (stays_told start w u g gone.alone sound_then h (Tells (kept_part (logs_at w.logs h))) same told)

        -- or one by which its disk didn't fail
        kept_whole : (e : HostStep) (log : List HostStep) → list_any is_disk_stop e.step.marks ≡ false
            → kept_part (e ∷ log) ≡ e ∷ log
        kept_whole e log runs_on = ap (kept_if e log) runs_on

        runs_on : (e : HostStep) → logs_at u.logs h ≡ e ∷ logs_at w.logs h → h ≡ g
            → logs_at u.logs g ≡ e ∷ logs_at w.logs g → list_any is_disk_stop e.step.marks ≡ false
        runs_on e now at more =
            steps_fail_not start h (logs_at w.logs h) e (tells.stops_none (logs_at w.logs h))
            (subst (IsLog (machine start) h) now (sound_then.right.local h tells.low)).0.fits
            (λ count stops.
            gone.alone.unfailed e count more (subst (λ k. own_stop k e.step.taken ≡ Some (Disk count)) at stops))

        stepped_told : KeptIn u
        stepped_told = by (cases_eq h g)
          where
            own : h ≡ g → (logs_at u.logs g ≡ logs_at w.logs g)
                ⊎ ((e : HostStep) × (logs_at u.logs g ≡ e ∷ logs_at w.logs g))
                → KeptIn u
            own at (inl same) = silent (subst (λ k. logs_at u.logs k ≡ logs_at w.logs k) (sym at) same)
            own at (inr (e, more)) =
                let now : logs_at u.logs h ≡ e ∷ logs_at w.logs h =
                subst (λ k. logs_at u.logs k ≡ e ∷ logs_at w.logs k) (sym at) more
                in
                let whole : kept_part (logs_at u.logs h) ≡ logs_at u.logs h =
                ap kept_part now ∙ kept_whole e (logs_at w.logs h) (runs_on e now at more) ∙ sym now
                in
                subst (λ log. IsTold start h (Tells log) u) (sym whole)
                (all_told start h Tells tells sound_then.given u sound_then.right)

            by : (h ≡ g) ⊎ (h ≢ g) → KeptIn u
            by (inl at) = own at gone.alone.own
            by (inr apart) = silent (gone.alone.others h apart)

        -- the disk of the host that went on failed, and it stopped
        module _ (some : 1 ≤ g) (runs : has_stopped_in u g ≡ false) (count : ℕ) where
          low : g < hosts start
          low = running_low start u g sound_then runs

          there : g < length u.logs
          there = let many = sound_then.right.sizes.logs in omega (arith, many, low)

          driven : IsDriven start u (ended u g count)
          driven = disk_driven (Ok tt) u (ended u g count) g count some runs refl start sound_then

          sound_now : IsRight start sound_then.given (ended u g count)
          sound_now = driven.right sound_then.given sound_then.right

          -- another one
          other_told : h ≢ g → KeptIn (ended u g count)
          other_told apart =
              subst (λ log. IsTold start h (Tells (kept_part log)) (ended u g count))
              (sym (stop_other u g count h apart))
              (told_over start h (Tells (kept_part (logs_at u.logs h))) u (ended u g count) stepped_told stops
              sound_now.local
              (λ j x. subst (λ l. IsIn x l.signals → IsIn x (link u.links h j).signals)
              (sym (link_other u g count h j apart)) (λ is. is)))
            where
              stops : (j : ℕ) → j < hosts start → TakesFrom start h j u (ended u g count)
              stops j few = by (cases_eq j g)
                where
                  by : (j ≡ g) ⊎ (j ≢ g) → TakesFrom start h j u (ended u g count)
                  by (inl same) =
                      subst (λ k. TakesFrom start h k u (ended u g count)) (sym same)
                      (one_taken (stop u g count) (stop_own u g count there)
                      (λ from. absurd (true≢false (sym from ∙ stop_takes_none u g count start h))))
                  by (inr apart) = none_taken (stop_other u g count j apart)

          -- this one: its last step is lost
          own_told : h ≡ g → (e : HostStep) → logs_at u.logs g ≡ e ∷ logs_at w.logs g → KeptIn (ended u g count)
          own_told at e more =
              let now : logs_at u.logs h ≡ e ∷ logs_at w.logs h =
              subst (λ k. logs_at u.logs k ≡ e ∷ logs_at w.logs k) (sym at) more
              in
              let still : has_stopped (logs_at u.logs h) ≡ false =
              subst (λ k. has_stopped (logs_at u.logs k) ≡ false) (sym at)
              (sym (sound_then.right.stopped g low) ∙ runs)
              in
              let log : logs_at (ended u h count).logs h ≡ stop u h count ∷ logs_at u.logs h =
              stop_own u h count (logs_there start sound_then.given u sound_then.right h count tells.low)
              in
              let left : kept_part (logs_at (ended u h count).logs h) ≡ logs_at w.logs h =
              ap kept_part log ∙ ap (λ rest. kept_part (stop u h count ∷ rest)) now
              in
              subst (λ k. KeptIn (ended u k count)) at
              (subst (λ log. IsTold start h (Tells log) (ended u h count)) (sym left)
              (last_told start h Tells tells w u sound.given sound_then.given sound.right sound_then.right e now
              still (takes start w u g gone.alone sound_then h) count))

        pub host_told : KeptIn t
        host_told = by becomes
          where
            failed : (e : HostStep) → logs_at u.logs g ≡ e ∷ logs_at w.logs g → (some : 1 ≤ g)
                (runs : has_stopped_in u g ≡ false) → (count : ℕ) → (h ≡ g) ⊎ (h ≢ g) → KeptIn (ended u g count)
            failed e more some runs count (inl at) = own_told some runs count at e more
            failed e more some runs count (inr apart) = other_told some runs count apart

            by : Becomes → KeptIn t
            by (goes_on is) = subst KeptIn (sym is) stepped_told
            by (fails e more some runs is) =
                subst KeptIn (sym is) (failed e more some runs (count_of counts (node_of u g)) (cases_eq h g))
