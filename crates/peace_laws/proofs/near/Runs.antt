-- Each step of a peaceful run keeps the hosts near, and the plain events a run.
use Rattle.std.proofs.Common.{◌≡◌, ◌<◌, ◌≤◌, inl, ℕ, zero, suc, ◌%◌, List, [], ◌∷◌, Bool, true, false}
use Rattle.std.proofs.Common.{refl, ap, sym, ◌∙◌, subst, arith}
use Rattle.std.specs.Prelude.{map}
use Rattle.frag_map.specs.Shape.{IsShape}
use Rattle.gcp_master.specs.Master.{first_phase}
use Rattle.gcp_master.specs.Resume.{is_president}
use Rattle.node_core.specs.declared.host.Host as plain_host
use Rattle.node_core.specs.Row.{row}
use Rattle.node_views.specs.WellFormed.{is_well_formed}
use Rattle.node_views.specs.declared.main_part.MainPart.{MainPart}
use Rattle.node_views.specs.declared.parts.Parts.{Parts}
use Rattle.node_views.specs.declared.parts.Parts.TheVariants.{Main}
use Rattle.run_laws.specs.Transit.{Comes}
use Rattle.run_theory.specs.Links.{sent, taken}
use Rattle.run_theory.specs.Lists.{Each}
use Rattle.run_theory.specs.Logs.{IsRunning, last}
use Rattle.run_theory.specs.Runs.{Happens, IsWithin, Run, log_of}
use Rattle.run_theory.proofs.EventCases.{event_each}
use Rattle.sig_core.specs.declared.mark.Mark.{Mark}
use Rattle.sig_core.specs.declared.member.Member.{Member}
use Rattle.sig_core.specs.declared.place.Part.{Part}
use Rattle.sig_core.specs.declared.place.Part.TheVariants as part
use Rattle.sig_core.specs.Step.{Step}
use Rattle.world_core.specs.Hosts.{first_hosts, member_at, part_by}
use Rattle.world_core.specs.Machine as plain
use Rattle.world_core.specs.Machine.{last_stamp}
use Rattle.world_core.specs.Start.{NobodyStarts, Start, made}
use Rattle.world_core.specs.Steps.{HostStep}
use Rattle.world_views.specs.Hosts.{part_started, started}
use Rattle.world_views.specs.Machine.{after, machine}
use Rattle.world_views.proofs.AllBegin.{started_behind}
use Rattle.world_views.proofs.SentFacts.{last_is}
use Rattle.calm_laws.specs.Alike.{first}
use Rattle.calm_laws.specs.Known.{IsOfFirst, txs_in}
use Rattle.calm_laws.specs.Plain.{is_beating}
use Rattle.calm_laws.proofs.lives.Beginnings.{begin_alike}
use Rattle.calm_laws.proofs.lives.Events.{within_next}
use Rattle.calm_laws.proofs.known.Transactions.{coming_known}
use Rattle.calm_laws.proofs.lives.WellFormed.{coming_well_formed}
use Rattle.level_laws.specs.Laws.{HostsAreLevel}
use Rattle.level_laws.specs.Levels.{host_sized, mark_at}
use Rattle.view_laws.proofs.fences.WhatLinksOwe.{running_if}
use Rattle.peace_laws.specs.Alike.{AreNear, IsMasterNear, IsPhaseNear}
use Rattle.peace_laws.specs.Parts.{levelled, plain_part}
use Rattle.peace_laws.specs.Peace.{is_closing}
use Rattle.peace_laws.proofs.lives.Arrivals.{Arrives, arrives}
use Rattle.peace_laws.proofs.closings.Signals.{IsPlainKind}
use Rattle.peace_laws.proofs.near.Signals.{fine_level, txs_level}
use Rattle.peace_laws.proofs.near.Mirrored.{IsLeftOut, IsMirrored, IsPlainStep, left_mirrored, level_step}
use Rattle.peace_laws.proofs.near.Mirrored.{plain_mirrored}
use Rattle.peace_laws.proofs.near.NearHosts.{begin_level, resting_main}
use Rattle.peace_laws.proofs.plain.Events.{events_are, is_left, left_none, no_part, plain_events, plain_within}

-- The plain events are a run, and after it each host is near an inner one.
pub record IsKept (start : Start) (es : List HostStep) : Type 0 where
  pub run : Run (plain.machine start) (plain_events start es)
  pub mirrored : (h : ℕ) → IsMirrored start h (log_of (machine start) es h)

-- as it is when a life begins without rows
abbrev IsNearIn : Parts → Type 0
IsNearIn (Main p) = IsMasterNear p.master
IsNearIn parts = ⊥

first_near : (epoch : ℕ) (b : Bool) → IsPhaseNear (first_phase epoch b)
first_near epoch true = tt
first_near epoch false = tt

master_begins : (start : Start) (of : Part) (member : Member) (p : MainPart)
    → (part_started start of member).parts ≡ Main p → IsMasterNear p.master
master_begins start part.Main member p is =
    let phase : IsPhaseNear (first_phase start.epoch (is_president member (first start))) =
    first_near start.epoch (is_president member (first start)) in
    subst IsNearIn is (record { phase = phase; front = tt; asked = (refl, refl) })
master_begins start part.Tc member p is = absurd cc
master_begins start part.Ldm member p is = absurd cc

masters_begin : (start : Start) (nobody : NobodyStarts start) (h : ℕ) (p : MainPart) → (after start h []).parts ≡ Main p
    → IsMasterNear p.master
unfolding started
masters_begin start nobody zero p is = absurd cc
masters_begin start nobody (suc h) p is =
    master_begins start (part_by (h % 3)) (member_at (made start) (suc h)) p
    (ap (λ s. s.parts) (sym (started_behind start nobody h)) ∙ is)

begins_near : (start : Start) (nobody : NobodyStarts start) (h : ℕ) → start.rows ≡ []
    → AreNear start [] (after start h []) (plain.after start h [])
begins_near start nobody h none =
    (resting_main start [] (after start h []) (plain.after start h []) (begin_alike start nobody h none)
    (masters_begin start nobody h)).0

begins_mirrored : (start : Start) (nobody : NobodyStarts start) (h : ℕ) → start.rows ≡ [] → IsMirrored start h []
begins_mirrored start nobody h none =
    record {
      inner = plain.after start h [];
      near = begins_near start nobody h none;
      level = ap (λ part. host_sized (plain.after start h part)) (no_part start h) ∙ begin_level start h none;
      late = subst (λ those. last_stamp those ≤ 0) (sym (no_part start h)) (omega arith);
      links = λ j here takes. ap (sent (plain.machine start) h j) (no_part start h);
      counts = λ j here takes. ap (λ those. plain.sent_count start h those j) (sym (no_part start h));
      took = λ i here takes. ap (taken (plain.machine start) i) (no_part start h);
      none = λ j low here beats. ap (sent (plain.machine start) h j) (no_part start h);
      seen = λ j. tt;
      asked = λ here. tt;
    }

pub begins_kept : (start : Start) → NobodyStarts start → start.rows ≡ [] → IsKept start []
begins_kept start nobody none = record { run = tt; mirrored = λ h. begins_mirrored start nobody h none }

-- what the machine in which nothing fails knows of stamps
plain_last : (start : Start) (h : ℕ) (log : List HostStep) → last (plain.machine start) h log ≡ last_stamp log
plain_last start h [] = refl
plain_last start h (e ∷ log) = refl

plain_runs : (start : Start) (log : List HostStep) → IsRunning (plain.machine start) log
plain_runs start [] = tt
plain_runs start (e ∷ log) = refl

-- the step with other marks
abbrev marked : HostStep → List Mark → HostStep
marked e marks = record { host = e.host; step = record e.step { marks = marks } }

-- One more step.
module _ (hosts_level : HostsAreLevel) (start : Start) (shape : IsShape start.shape) (es : List HostStep) (e : HostStep)
    (happens : Happens (machine start) es e) (within : IsWithin (first_hosts start) (log_of (machine start) es))
    (low : e.host < first_hosts start) (kept : IsKept start es) where
  abbrev log : List HostStep
  log = log_of (machine start) es e.host

  abbrev before : IsMirrored start e.host log
  before = kept.mirrored e.host

  pub later : NobodyStarts start → last_stamp log ≤ e.step.stamp
  later nobody = omega (arith, happens.step.stamped, last_is start nobody e.host log)

  -- the hosts, if the one of the step is near
  mirrored_next : IsMirrored start e.host (e ∷ log) → (h : ℕ) → IsMirrored start h (log_of (machine start) (e ∷ es) h)
  mirrored_next own =
      event_each (machine start) e es (λ h log. IsMirrored start h log) own (λ h apart. kept.mirrored h)

  -- a step that the plain machine doesn't make
  pub left_next : is_left e ≡ true → IsLeftOut start e.host log e before → IsKept start (e ∷ es)
  left_next out left =
      record {
        run =
            subst (λ b. Run (plain.machine start) (running_if b (levelled start.epoch e) (plain_events start es)))
            (sym out) kept.run;
        mirrored = mirrored_next (left_mirrored start e.host log e before left);
      }

  -- A step whose signal the plain machine may take.
  module _ (nobody : NobodyStarts start) (kind : IsPlainKind e.step.taken.to.block e.step.taken.body)
      (takes : is_beating e.host ≡ false) where
    pub arrival : Arrives start es e.host e.step.taken
    arrival =
        arrives start es e.host e.step.taken within kept.mirrored nobody kind takes kept.run happens.step.fits.comes
        happens.takes

    abbrev rest : List HostStep
    rest = plain_part start e.host log

    -- with the marks of its row it happens there
    happens_plain : (marks : List Mark) → marks ≡ (row before.inner e.step.taken).effects.marks
        → Happens (plain.machine start) (plain_events start es) (levelled start.epoch (marked e marks))
    happens_plain marks are =
        let same : log_of (plain.machine start) (plain_events start es) e.host ≡ rest = events_are start es e.host in
        record {
          step = record {
            at = refl;
            stamped =
                let behind =
                ap (last (plain.machine start) e.host) same ∙ plain_last start e.host rest in
                omega (arith, happens.step.stamped, last_is start nobody e.host log, behind, before.late);
            runs = plain_runs start (log_of (plain.machine start) (plain_events start es) e.host);
            fits =
                subst (λ those. plain.FitsRow start e.host those (levelled start.epoch (marked e marks))) (sym same)
                (record {
                  marks =
                      ap (map (mark_at start.epoch)) are
                      ∙ sym
                      (ap (λ (s : Step plain_host.Host). s.effects.marks)
                      (level_step hosts_level start e.host log e before));
                  asked_at = last_stamp log;
                  asked = arrival.rightly;
                });
          };
          there = inl refl;
          takes = arrival.takes;
        }

    abbrev other : HostStep
    other = levelled start.epoch (marked e (row before.inner e.step.taken).effects.marks)

    coming : Comes start (plain_events start es) other
    coming =
        let here : IsWithin (first_hosts start) (log_of (plain.machine start) (plain_events start es)) =
        plain_within start (first_hosts start) es within in
        let now : Happens (plain.machine start) (plain_events start es) other =
        happens_plain (row before.inner e.step.taken).effects.marks refl in
        record {
          before = record { shape = shape; run = kept.run; within = here };
          happens = now;
          now = record {
            shape = shape;
            run = (kept.run, now);
            within = within_next start (first_hosts start) other (plain_events start es) low here;
          };
        }

    -- so it is well formed, and tells of no transactions but those of members that began the life
    pub fine : is_well_formed start.shape e.step.taken ≡ true
    fine =
        sym (fine_level start.epoch start.shape e.step.taken)
        ∙ coming_well_formed start (plain_events start es) other coming

    pub known : Each (IsOfFirst start) (txs_in e.step.taken.body)
    known =
        subst (Each (IsOfFirst start)) (txs_level start.epoch e.step.taken.body)
        (coming_known start (plain_events start es) other coming)

    pub plain_next : is_closing e.host e.step.taken ≡ false → IsPlainStep start e.host log e before
        → e.step.marks ≡ (row before.inner e.step.taken).effects.marks → IsKept start (e ∷ es)
    plain_next beside step marks =
        record {
          run =
              subst (λ b. Run (plain.machine start) (running_if b (levelled start.epoch e) (plain_events start es)))
              (sym (left_none e takes beside)) (kept.run, happens_plain e.step.marks marks);
          mirrored = mirrored_next (plain_mirrored hosts_level start e.host log e before step nobody);
        }
