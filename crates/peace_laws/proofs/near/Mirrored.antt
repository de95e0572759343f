-- A host that is near a plain one after its log, whose plain part that one made but for epochs.
use Rattle.std.proofs.Common.{◌≡◌, ◌<◌, ◌≤◌, ℕ, List, [], ◌∷◌, ◌++◌, Bool, true, false, refl, ap, sym}
use Rattle.std.proofs.Common.{◌∙◌, subst, arith}
use Rattle.std.specs.Prelude.{if◌then◌else◌, ◌==◌, ◌&&◌, map, not}
use Rattle.lqh_block.specs.State.{LqhState}
use Rattle.node_core.specs.declared.host.Host as plain_host
use Rattle.node_core.specs.declared.host.Host.TheVariants.{Ldm}
use Rattle.node_core.specs.Row.{row}
use Rattle.run_theory.specs.Links.{sent, taken}
use Rattle.run_theory.specs.Lists.{Each}
use Rattle.sig_core.specs.declared.outs.Outgoing.{Outgoing}
use Rattle.sig_core.specs.Step.{Step}
use Rattle.world_core.specs.Hosts.{first_hosts}
use Rattle.world_core.specs.Machine as plain
use Rattle.world_core.specs.Machine.{last_stamp}
use Rattle.world_core.specs.Start.{NobodyStarts, Start, made}
use Rattle.world_core.specs.Steps.{Addressed, HostStep}
use Rattle.world_views.specs.Machine.{after, machine, sent_count, step_after, stops_by}
use Rattle.world_views.specs.Right.{replies_in}
use Rattle.world_views.specs.Sending.{is_asked, routed_all}
use Rattle.calm_laws.specs.Plain.{is_beating}
use Rattle.calm_laws.specs.Steps.{IsPlainSend}
use Rattle.calm_laws.proofs.lives.Asked.{IsAskedAlike}
use Rattle.calm_laws.proofs.places.Plain.{none_next}
use Rattle.level_laws.specs.Laws.{HostsAreLevel}
use Rattle.level_laws.specs.Levels.{effects_at, host_at, host_sized, lqh_sized, send_at, signal_at}
use Rattle.level_laws.proofs.SizedRows.{onto, row_sized, sized_same}
use Rattle.peace_laws.specs.Alike.{AreNear}
use Rattle.peace_laws.specs.Parts.{levelled, plain_part, plain_replies}
use Rattle.peace_laws.proofs.near.Signals.{request_level, work_level}
use Rattle.peace_laws.proofs.near.Seen.{IsSeen, IsSentFor, seen_next}
use Rattle.peace_laws.proofs.near.Sent.{IsAside, addressed_at, count_next, sent_next}

-- Host h is near an inner one, which is that of the plain part of its log but for epochs, and for the bytes of its
-- journal, which tell them. To hosts that are no main parts it sent what that did, and took from them what that did; to
-- main parts that sent nothing.
pub record IsMirrored (start : Start) (h : ℕ) (log : List HostStep) : Type 0 where
  pub inner : plain_host.Host
  pub near : AreNear start (plain_replies (replies_in start h log)) (after start h log) inner
  pub level : host_sized (plain.after start h (plain_part start h log)) ≡ host_at start.epoch inner
  pub late : last_stamp (plain_part start h log) ≤ last_stamp log
  pub links : (j : ℕ) → is_beating h ≡ false → is_beating j ≡ false
      → sent (plain.machine start) h j (plain_part start h log)
      ≡ map (addressed_at start.epoch) (sent (machine start) h j log)
  pub counts : (j : ℕ) → is_beating h ≡ false → is_beating j ≡ false
      → sent_count start h log j ≡ plain.sent_count start h (plain_part start h log) j
  pub took : (i : ℕ) → is_beating h ≡ false → is_beating i ≡ false
      → taken (plain.machine start) i (plain_part start h log)
      ≡ map (addressed_at start.epoch) (taken (machine start) i log)
  pub none : (j : ℕ) → j < first_hosts start → is_beating h ≡ false → is_beating j ≡ true
      → sent (plain.machine start) h j (plain_part start h log) ≡ []
  pub seen : (j : ℕ) → Each (IsSeen start h) (sent (machine start) h j log)
  pub asked : is_beating h ≡ false → Each IsAskedAlike log

-- what doesn't look at those bytes is the same of both
pub level_same : (start : Start) (h : ℕ) (log : List HostStep) (m : IsMirrored start h log) {A : Type 0}
    (f : plain_host.Host → A) → ((s : LqhState) → f (Ldm (lqh_sized s)) ≡ f (Ldm s))
    → f (plain.after start h (plain_part start h log)) ≡ f (host_at start.epoch m.inner)
level_same start h log m f rows = sym (sized_same f rows (plain.after start h (plain_part start h log))) ∙ ap f m.level

-- A step that the plain part leaves out: to hosts that are no main parts it sends nothing, and takes nothing from them.
pub record IsLeftOut (start : Start) (h : ℕ) (log : List HostStep) (e : HostStep) (before : IsMirrored start h log)
    : Type 0
  where
    pub out : plain_part start h (e ∷ log) ≡ plain_part start h log
    pub inner : plain_host.Host
    pub near : AreNear start (plain_replies (replies_in start h (e ∷ log))) (after start h (e ∷ log)) inner
    pub same : host_at start.epoch inner ≡ host_at start.epoch before.inner
    pub later : last_stamp log ≤ e.step.stamp
    pub sends : Each (IsSentFor h) (step_after start h log e).effects.sends
    pub links : (j : ℕ) → is_beating h ≡ false → is_beating j ≡ false
        → sent (machine start) h j (e ∷ log) ≡ sent (machine start) h j log
    pub counts : (j : ℕ) → is_beating h ≡ false → is_beating j ≡ false
        → sent_count start h (e ∷ log) j ≡ sent_count start h log j
    pub took : (i : ℕ) → is_beating h ≡ false → is_beating i ≡ false
        → taken (machine start) i (e ∷ log) ≡ taken (machine start) i log
    pub asked : is_beating h ≡ false → IsAskedAlike e

pub left_mirrored : (start : Start) (h : ℕ) (log : List HostStep) (e : HostStep) (before : IsMirrored start h log)
    → IsLeftOut start h log e before → IsMirrored start h (e ∷ log)
left_mirrored start h log e before left =
    record {
      inner = left.inner;
      near = left.near;
      level = ap (λ part. host_sized (plain.after start h part)) left.out ∙ before.level ∙ sym left.same;
      late = subst (λ part. last_stamp part ≤ e.step.stamp) (sym left.out) (omega (arith, before.late, left.later));
      links = λ j here takes.
          ap (sent (plain.machine start) h j) left.out ∙ before.links j here takes
          ∙ ap (map (addressed_at start.epoch)) (sym (left.links j here takes));
      counts = λ j here takes.
          left.counts j here takes ∙ before.counts j here takes
          ∙ ap (λ part. plain.sent_count start h part j) (sym left.out);
      took = λ i here takes.
          ap (taken (plain.machine start) i) left.out ∙ before.took i here takes
          ∙ ap (map (addressed_at start.epoch)) (sym (left.took i here takes));
      none = λ j low here beats. ap (sent (plain.machine start) h j) left.out ∙ before.none j low here beats;
      seen = λ j. seen_next start h j log e left.near.standing.view left.sends (before.seen j);
      asked = λ here. (left.asked here, before.asked here);
    }

-- A step that the plain one makes too: it sends what that does, and what goes aside.
pub record IsPlainStep (start : Start) (h : ℕ) (log : List HostStep) (e : HostStep) (before : IsMirrored start h log)
    : Type 0
  where
    pub part : plain_part start h (e ∷ log) ≡ levelled start.epoch e ∷ plain_part start h log
    pub near : AreNear start (plain_replies (replies_in start h (e ∷ log))) (after start h (e ∷ log))
        (row before.inner e.step.taken).state
    pub goes_on : stops_by e.step.marks ≡ false
    pub extra : List Outgoing
    pub sends : (step_after start h log e).effects.sends ≡ (row before.inner e.step.taken).effects.sends ++ extra
    pub plain_ones : Each (IsPlainSend h) (row before.inner e.step.taken).effects.sends
    pub aside : Each IsAside (routed_all (made start) h (after start h (e ∷ log)).standing extra)
    pub for_all : Each (IsSentFor h) (step_after start h log e).effects.sends
    pub asked : IsAskedAlike e

-- what a plain host sends is so whatever its epochs
plain_level : (epoch h : ℕ) (sends : List Outgoing) → Each (IsPlainSend h) sends
    → Each (IsPlainSend h) (map (send_at epoch) sends)
plain_level epoch h [] all = tt
plain_level epoch h (sent ∷ more) all = (
  record { place = all.0.place; work = work_level epoch sent.body ∙ all.0.work },
  plain_level epoch h more all.1,
)

module _ (hosts_level : HostsAreLevel) (start : Start) (h : ℕ) (log : List HostStep) (e : HostStep)
    (before : IsMirrored start h log) where
  abbrev part : List HostStep
  part = plain_part start h log

  abbrev now : HostStep
  now = levelled start.epoch e

  -- the plain one's step is the inner one's, but for epochs and those bytes
  pub level_step : onto host_sized (plain.step_after start h part now)
      ≡ record {
        state = host_at start.epoch (row before.inner e.step.taken).state;
        effects = effects_at start.epoch (row before.inner e.step.taken).effects;
      }
  level_step =
      sym (row_sized (plain.after start h part) now.step.taken)
      ∙ ap (λ s. row s now.step.taken) before.level ∙ hosts_level start.epoch before.inner e.step.taken

  module _ (step : IsPlainStep start h log e before) where
    abbrev both : List Outgoing
    both = (row before.inner e.step.taken).effects.sends

    plain_sends : (plain.step_after start h part now).effects.sends ≡ map (send_at start.epoch) both
    plain_sends = ap (λ (s : Step plain_host.Host). s.effects.sends) level_step

    took_next : (i : ℕ)
        → taken (plain.machine start) i part ≡ map (addressed_at start.epoch) (taken (machine start) i log)
        → taken (plain.machine start) i (now ∷ part)
        ≡ map (addressed_at start.epoch) (taken (machine start) i (e ∷ log))
    took_next i was =
        ap (λ (b : Bool).
        if not b && (e.step.taken.from.0 == i) then one ∷ taken (plain.machine start) i part
        else taken (plain.machine start) i part)
        (request_level start.epoch e.step.taken.body ∙ sym step.asked)
        ∙ by (not (is_asked e.host e.step.taken) && (e.step.taken.from.0 == i))
      where
        one : Addressed
        one = record { to = e.host; signal = signal_at start.epoch e.step.taken }

        by : (b : Bool)
            → (if b then one ∷ taken (plain.machine start) i part else taken (plain.machine start) i part)
            ≡ map (addressed_at start.epoch)
            (if b then record { to = e.host; signal = e.step.taken } ∷ taken (machine start) i log
            else taken (machine start) i log)
        by true = ap (λ xs. one ∷ xs) was
        by false = was

    pub plain_mirrored : NobodyStarts start → IsMirrored start h (e ∷ log)
    plain_mirrored nobody =
        record {
          inner = (row before.inner e.step.taken).state;
          near = step.near;
          level =
              ap (λ those. host_sized (plain.after start h those)) step.part
              ∙ ap (λ (s : Step plain_host.Host). s.state) level_step;
          late = subst (λ those. last_stamp those ≤ e.step.stamp) (sym step.part) (omega arith);
          links = λ j here takes.
              ap (sent (plain.machine start) h j) step.part
              ∙ sent_next start nobody h log e step.near.standing both step.extra step.sends step.plain_ones step.aside
              j takes
              start.epoch part now refl plain_sends (before.counts j here takes) step.goes_on
              (before.links j here takes);
          counts = λ j here takes.
              count_next start nobody h log e step.near.standing both step.extra step.sends step.plain_ones step.aside j
              takes
              start.epoch part now refl plain_sends (before.counts j here takes)
              ∙ ap (λ those. plain.sent_count start h those j) (sym step.part);
          took = λ i here takes.
              ap (taken (plain.machine start) i) step.part ∙ took_next i (before.took i here takes);
          none = λ j low here beats.
              ap (sent (plain.machine start) h j) step.part
              ∙ none_next start j low beats h part now
              (subst (Each (IsPlainSend h)) (sym plain_sends) (plain_level start.epoch h both step.plain_ones))
              (before.none j low here beats);
          seen = λ j. seen_next start h j log e step.near.standing.view step.for_all (before.seen j);
          asked = λ here. (step.asked, before.asked here);
        }
