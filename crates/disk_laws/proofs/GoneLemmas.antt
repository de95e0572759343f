-- What it comes to that a host went on and a disk kept what it was to keep: for the world, and for the disks.
use Rattle.std.proofs.Common.{◌≡◌, ◌≢◌, ◌⊎◌, ◌∙◌, ℕ, zero, suc, ◌-◌, ◌≤◌, ◌<◌, ◌==◌, Bool, true, false, List, [], ◌∷◌}
use Rattle.std.proofs.Common.{length, refl, ap, sym, subst, inl, inr, arith}
use Rattle.std.proofs.lemmas.Bool.{eq-eqb, eqb-true, true≢false}
use Rattle.run_theory.specs.Lists.{IsIn}
use Rattle.run_theory.specs.Logs.{IsLog, IsRunning, IsStep}
use Rattle.sig_core.specs.declared.mark.Mark.TheVariants.{Stopped}
use Rattle.sig_core.specs.declared.member.Member.{Member}
use Rattle.sig_core.specs.declared.outcome.StopCause.TheVariants.{Disk}
use Rattle.sig_core.specs.Step.{Step}
use Rattle.node_views.specs.declared.host_body.HostBody.{HostBody}
use Rattle.node_views.specs.Row.{stopping}
use Rattle.view_laws.proofs.runs.FirstMembers.{node_low, node_some}
use Rattle.view_laws.proofs.standing.Home.{host_home, host_made}
use Rattle.world_core.specs.Hosts.{hosts, member_at}
use Rattle.world_core.specs.Start.{Start, made}
use Rattle.world_core.specs.Steps.{Addressed, HostStep}
use Rattle.world_core.specs.World.{logs_at, of_host, with_step}
use Rattle.world_core.proofs.LogIndex.{logs_at_other, logs_at_own}
use Rattle.world_views.specs.Disks.{HasAtMostOneMore, newest_taken}
use Rattle.world_views.specs.Driven.{IsSound}
use Rattle.world_views.specs.Machine.{after, has_stopped, machine, stops_by}
use Rattle.world_views.specs.World.{Whole, body_at, halting, has_stopped_in, step_made, stopped}
use Rattle.world_views.proofs.Entered.{entered_by}
use Rattle.world_views.proofs.ScheduleLemmas.{running_low}
use Rattle.disk_world.specs.Disks.{Disks, GoesOn, HasDisk, HasGoneOn, HasKept, HasKeptStep, kept_in, node_of}
use Rattle.disk_world.specs.Keeping.{Kept, kept_of}
use Rattle.disk_world.proofs.KeptLemmas.{kept_as}
use Rattle.sys_restart.specs.Answers.{count_of}

-- what a disk keeps of a host behind a log of it
abbrev pub kept_behind : Start → ℕ → List HostStep → Kept
kept_behind start h log = kept_of (after start h log) (newest_taken log)

-- the place of the disk of a host's node
abbrev pub place_of : Start → ℕ → ℕ
place_of start h = (member_at (made start) h).node - 1

-- of a member's host it is that of its node
pub place_is : (start : Start) (member : Member) (h : ℕ) → member_at (made start) h ≡ member
    → place_of start h ≡ member.node - 1
place_is start member h is = ap (λ (m : Member). m.node - 1) is

-- a log of a host has a step more, by which the host stopped
pub record HasStopped (start : Start) (g : ℕ) (log now : List HostStep) : Type 0 where
  pub e : HostStep
  pub is : now ≡ e ∷ log
  pub stops : stops_by e.step.marks ≡ true
  pub step : IsStep (machine start) g log e

-- in the later one of two worlds the log of a host is the same, or has such a step more
abbrev pub IsSameOrStopped : Start → Whole → Whole → ℕ → Type 0
IsSameOrStopped start w t g =
    (logs_at t.logs g ≡ logs_at w.logs g) ⊎ HasStopped start g (logs_at w.logs g) (logs_at t.logs g)

-- a host that may make a step ran before
pub running : (start : Start) (log : List HostStep) → IsRunning (machine start) log → has_stopped log ≡ false
running start [] runs = refl
running start (newest ∷ older) runs = runs

-- a host whose log has a step more, or none, ran before where it runs
pub ran_before : (start : Start) (h : ℕ) (log now : List HostStep) → HasAtMostOneMore log now
    → IsLog (machine start) h now → has_stopped now ≡ false → has_stopped log ≡ false
ran_before start h log now (inl same) is runs = ap has_stopped (sym same) ∙ runs
ran_before start h log now (inr (e, more)) is runs =
    let local : IsLog (machine start) h (e ∷ log) = subst (IsLog (machine start) h) more is in
    running start log local.0.runs

module _ (start : Start) (w t : Whole) (old new : Disks) (counts : List ℕ) (sound : IsSound start w)
    (gone : HasGoneOn w old new counts t) where
  abbrev h : ℕ
  h = gone.host

  abbrev stepped : Whole
  stepped = gone.stepped

  abbrev now : List HostStep
  now = logs_at stepped.logs h

  pub sound_still : IsSound start stepped
  sound_still =
      record { given = sound.given; right = (gone.driven start sound).right sound.given sound.right }

  -- it made a step
  abbrev pub IsStepped : HostStep → Type 0
  IsStepped e = now ≡ e ∷ logs_at w.logs h

  -- A host that keeps nothing went on; or one that runs made a step, and the disk of its node kept what it was to keep
  -- of it, or failed.
  pub data Comes : Type 0 where
    as_was : t ≡ stepped → new ≡ old → ((e : HostStep) → IsStepped e → 1 ≤ h → has_stopped_in stepped h ≡ true) → Comes
    keeps : 1 ≤ h → h < hosts start → has_stopped now ≡ false → (e : HostStep) → IsStepped e → t ≡ stepped
        → HasKept (kept_behind start h now) (place_of start h) old new true → Comes
    fails : 1 ≤ h → h < hosts start → has_stopped now ≡ false → (e : HostStep) → IsStepped e → (count : ℕ)
        → t ≡ stopped stepped h (Disk count) 1
        → HasKept (kept_behind start h now) (place_of start h) old new false → Comes

  module _ (some : 1 ≤ h) (runs : has_stopped_in stepped h ≡ false) where
    low : h < hosts start
    low = running_low start stepped h sound_still runs

    ran : has_stopped now ≡ false
    ran = sym (sound_still.right.stopped h low) ∙ runs

    body_is : body_at stepped.bodies h ≡ after start h now
    body_is = sound_still.right.bodies h low ran

    member_is : (body_at stepped.bodies h).standing.member ≡ member_at (made start) h
    member_is =
        ap (λ (s : HostBody). s.standing.member) body_is ∙ (host_home start sound.right.nobody h some low now).is

    node_is : node_of stepped h ≡ (member_at (made start) h).node
    node_is = ap (λ (m : Member). m.node) member_is

    kept_is : kept_in stepped h ≡ kept_behind start h now
    kept_is = ap (λ (s : HostBody). kept_of s (newest_taken now)) body_is

    there : IsIn (member_at (made start) h) (made start)
    there = host_made start sound.right.nobody h some low

    has_disk : start.shape.nodes ≤ length old.told → start.shape.nodes ≤ length old.slots
        → HasDisk (node_of stepped h) (length old.told) (length old.slots)
    has_disk told slots =
        let least = node_some start sound.right.nobody (member_at (made start) h) there in
        let most = node_low start sound.right.nobody (member_at (made start) h) there in record {
          some = omega (arith, least, node_is);
          disk = omega (arith, most, node_is, told);
          slots_of = omega (arith, most, node_is, slots);
        }

    kept_so : (ok : Bool) → HasKept (kept_in stepped h) (node_of stepped h - 1) old new ok
        → HasKept (kept_behind start h now) (place_of start h) old new ok
    kept_so ok has =
        kept_as (kept_in stepped h) (kept_behind start h now) (node_of stepped h - 1) (place_of start h) old old new new
        ok has kept_is (ap (λ (node : ℕ). node - 1) node_is) refl refl

    kept_comes : (e : HostStep) → IsStepped e → HasKeptStep stepped h old new counts t → Comes
    kept_comes e more step = by step.ok step.kept step.goes
      where
        by : (ok : Bool) → HasKept (kept_in stepped h) (node_of stepped h - 1) old new ok
            → GoesOn ok stepped h (count_of counts (node_of stepped h)) t → Comes
        by true has same = keeps some low ran e more same (kept_so true has)
        by false has same = fails some low ran e more (count_of counts (node_of stepped h)) same (kept_so false has)

  pub comes : start.shape.nodes ≤ length old.told → start.shape.nodes ≤ length old.slots → Comes
  comes told slots = by h refl (has_stopped_in stepped h) refl gone.alone.own
    where
      by : (k : ℕ) → h ≡ k → (b : Bool) → has_stopped_in stepped h ≡ b → HasAtMostOneMore (logs_at w.logs h) now → Comes
      by k is true e own = let none = gone.nothing (inr (inr e)) in as_was none.0 none.1 (λ step more some. e)
      by zero is false e own =
          let none = gone.nothing (inl is) in as_was none.0 none.1 (λ step more some. absurd (omega (arith, some, is)))
      by (suc k) is false e (inl same) =
          let none = gone.nothing (inr (inl same)) in
          as_was none.0 none.1
          (λ step more some.
          let size : length (logs_at w.logs h) ≡ suc (length (logs_at w.logs h)) = ap length (sym same ∙ more) in
          absurd (omega (arith, size)))
      by (suc k) is false e (inr (step, more)) =
          let some : 1 ≤ h = omega (arith, is) in
          kept_comes some e step more
          (gone.kept step more (record { part = some; runs = e; has = has_disk some e told slots }))

  -- the logs of the world behind it
  pub logs_same : t ≡ stepped → (g : ℕ) → logs_at t.logs g ≡ logs_at stepped.logs g
  logs_same same g = ap (λ (v : Whole). logs_at v.logs g) same

  -- A host that keeps nothing went on: its log is as it was, or has a step more, by which it stopped.
  pub stopped_or : t ≡ stepped → ((e : HostStep) → IsStepped e → 1 ≤ h → has_stopped_in stepped h ≡ true) → (g : ℕ)
      → 1 ≤ g → g < hosts start → IsSameOrStopped start w t g
  stopped_or same stops g some low = by (g == h) refl
    where
      own : g ≡ h → HasAtMostOneMore (logs_at w.logs h) now → IsSameOrStopped start w t h
      own at (inl as_it_was) = inl (logs_same same h ∙ as_it_was)
      own at (inr (e, more)) =
          let here : 1 ≤ h = omega (arith, some, at) in
          let below : h < hosts start = omega (arith, low, at) in
          let local : IsLog (machine start) h (e ∷ logs_at w.logs h) =
          subst (IsLog (machine start) h) more (sound_still.right.local h below) in
          inr (record {
            e = e;
            is = logs_same same h ∙ more;
            stops = ap has_stopped (sym more) ∙ sym (sound_still.right.stopped h below) ∙ stops e more here;
            step = local.0;
          })

      by : (b : Bool) → (g == h) ≡ b → IsSameOrStopped start w t g
      by true e = subst (IsSameOrStopped start w t) (sym (eqb-true g h e)) (own (eqb-true g h e) gone.alone.own)
      by false e =
          inl (logs_same same g ∙ gone.alone.others g (λ is. true≢false (sym (eq-eqb g h is) ∙ e)))

  -- where the host stopped, its log has that
  pub record HasFailedStop (count : ℕ) : Type 0 where
    pub stop : HostStep
    pub marks : stop.step.marks ≡ Stopped (Disk count) ∷ []
    pub own : logs_at t.logs h ≡ stop ∷ now
    pub others : (g : ℕ) → g ≢ h → logs_at t.logs g ≡ logs_at stepped.logs g

  pub failed_stop : (count : ℕ) → h < hosts start → t ≡ stopped stepped h (Disk count) 1 → HasFailedStop count
  failed_stop count low same = record {
    stop = of_host h (step_made stepped x by);
    marks = refl;
    own = logs_are h
        ∙ logs_at_own stepped.logs h (step_made stepped x by) (omega (arith, low, sound_still.right.sizes.logs));
    others = λ g apart. logs_are g ∙ logs_at_other stepped.logs h g (step_made stepped x by) apart;
  }
    where
      x : Addressed
      x = halting stepped h (body_at stepped.bodies h).standing.view (Disk count)

      by : Step HostBody
      by = stopping (body_at stepped.bodies h) (Disk count)

      logs_are : (g : ℕ) → logs_at t.logs g ≡ logs_at (with_step stepped.logs h (step_made stepped x by)) g
      logs_are g =
          ap (λ (v : Whole). logs_at v.logs g) same
          ∙ ap (λ (v : Whole). logs_at v.logs g) (entered_by stepped 1 x by)
