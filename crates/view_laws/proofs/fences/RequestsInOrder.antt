-- Requests for fences are put on the link from a main host to a part of its member in the order of promises: for each
-- promise one for each block of the part, or none.
use Rattle.std.proofs.Common.{◌≡◌, ◌⊎◌, ◌==◌, ◌&&◌, ◌++◌, ◌∙◌, ℕ, Bool, true, false, cond, filter, List, [], ◌∷◌, refl}
use Rattle.std.proofs.Common.{ap, sym, subst, inl, inr}
use Rattle.std.specs.Prelude.{if◌then◌else◌, not, Some}
use Rattle.frag_map.specs.Layout.{Layout, first_layout}
use Rattle.run_theory.specs.Links.{put}
use Rattle.run_theory.specs.Lists.{Each, IsIn}
use Rattle.run_theory.proofs.Pasts.{each_map}
use Rattle.sig_core.specs.declared.member.Member.{Member}
use Rattle.sig_core.specs.declared.outs.Outgoing.{Outgoing}
use Rattle.sig_core.specs.declared.place.BlockId.{BlockId}
use Rattle.sig_core.specs.declared.place.BlockId.TheVariants as block
use Rattle.sig_core.specs.declared.signal.Signal.{Signal}
use Rattle.sig_core.specs.declared.view.View.{View}
use Rattle.node_views.specs.Blocks.{parts_entered, parts_row}
use Rattle.node_views.specs.declared.main_part.MainPart.{MainPart}
use Rattle.node_views.specs.declared.parts.Parts.{Parts}
use Rattle.node_views.specs.declared.parts.Parts.TheVariants.{Shell, Main, Tc, Ldm}
use Rattle.node_views.specs.declared.standing.Standing.{Standing}
use Rattle.node_views.specs.Parts.{main_row}
use Rattle.node_views.specs.WellFormed.{is_well_formed}
use Rattle.qmgr_block.specs.Laws.{Event, installs, takes}
use Rattle.qmgr_block.specs.State.{QmgrState}
use Rattle.world_core.specs.Machine.{counted}
use Rattle.world_core.specs.Start.{NobodyStarts, Start, made}
use Rattle.world_core.specs.Steps.{Addressed, HostStep}
use Rattle.world_views.specs.declared.sender.Sender.{Sender}
use Rattle.world_views.specs.Hosts.{reached}
use Rattle.world_views.specs.Machine.{after, machine, step_after}
use Rattle.world_views.specs.Sending.{addressed, all_addressed, headed, is_kept_back, routed, routed_all, routed_if}
use Rattle.view_laws.specs.HostEvents.{events_at, events_of, is_membership, taking}
use Rattle.view_laws.specs.Members.{known_of, state_of}
use Rattle.view_laws.specs.Votes.{main_of, membership_in}
use Rattle.view_laws.proofs.fences.Asked.{IsOff, asked_fences, fencing, off_none, row_only, unasking}
use Rattle.view_laws.proofs.fences.WhatLinksOwe.{asks_fence}
use Rattle.view_laws.proofs.fences.Sent.{untold_fence}
use Rattle.view_laws.proofs.follow.Hosts.{hosts_follow}
use Rattle.view_laws.proofs.votes.Lists.{IsSaidOf, SayingAll, all_said, behind_all}
use Rattle.view_laws.proofs.votes.Memberships.{entered_in}
use Rattle.view_laws.proofs.votes.OtherBlocks.{master_none}
use Rattle.view_laws.proofs.votes.NoVotes.{AreNoVotes, IsNoVote, is_fencing}

-- requests among other sends
none_off : (sends : List Outgoing) → AreNoVotes sends → Each IsOff sends
none_off sends all = each_map IsNoVote IsOff sends (λ sent off. untold_fence sent.body off) all

fencing_front : (more sends : List Outgoing) → AreNoVotes more → fencing (more ++ sends) ≡ fencing sends
fencing_front [] sends all = refl
fencing_front (sent ∷ more) sends all =
    subst (λ b. cond b (sent ∷ fencing (more ++ sends)) (fencing (more ++ sends)) ≡ fencing sends)
    (sym (unasking sent.body (untold_fence sent.body all.0))) (fencing_front more sends all.1)

fencing_behind : (sends more : List Outgoing) → AreNoVotes more → fencing (sends ++ more) ≡ fencing sends
fencing_behind [] more all = off_none more (none_off more all)
fencing_behind (sent ∷ sends) more all = by (is_fencing sent.body) (fencing_behind sends more all)
  where
    by : (b : Bool) → fencing (sends ++ more) ≡ fencing sends
        → cond b (sent ∷ fencing (sends ++ more)) (fencing (sends ++ more))
        ≡ cond b (sent ∷ fencing sends) (fencing sends)
    by true is = ap (λ os. sent ∷ os) is
    by false is = is

-- those of a step are what one signal asks for that the membership takes in it
pub data AreAsked (w : Member) (layout : Layout) (old new : List Event) (sends : List Outgoing) : Type 0 where
  nothing : fencing sends ≡ [] → AreAsked w layout old new sends
  asked : (newer older : List Event) (x : Signal) → new ≡ newer ++ takes x ∷ older
      → fencing sends ≡ asked_fences (known_of w layout (older ++ old)) x.body → AreAsked w layout old new sends

module _ (w : Member) (layout : Layout) (old : List Event) where
  other_asked : (new : List Event) (sends other : List Outgoing) → fencing other ≡ fencing sends
      → AreAsked w layout old new sends → AreAsked w layout old new other
  other_asked new sends other same (nothing is) = nothing (same ∙ is)
  other_asked new sends other same (asked newer older x is fences) = asked newer older x is (same ∙ fences)

  later_asked : (view : View) (new : List Event) (sends : List Outgoing) → AreAsked w layout old new sends
      → AreAsked w layout old (installs view ∷ new) sends
  later_asked view new sends (nothing is) = nothing is
  later_asked view new sends (asked newer older x is fences) =
      asked (installs view ∷ newer) older x (ap (λ es. installs view ∷ es) is) fences

  module _ (x : Signal) where
    -- what the main part does: P is so of what the membership is asked for, and of what asks for nothing
    record IsOfAsked (P : SayingAll) (q : QmgrState) : Type 0 where
      asks : (sends : List Outgoing) → fencing sends ≡ asked_fences q.known x.body → P (takes x ∷ []) sends
      none : (sends : List Outgoing) → fencing sends ≡ [] → P [] sends

    row_by : (P : SayingAll) (p : MainPart) → IsOfAsked P p.qmgr → (b : BlockId)
        → P (taking is_membership x (is_membership b)) (main_row p b x).effects.sends
    unfolding main_row
    row_by P p of block.Qmgr = of.asks _ (row_only p.qmgr x)
    row_by P p of block.GcpMaster = of.none _ (off_none _ (none_off _ (master_none p.master x)))
    row_by P p of _ = of.none [] refl

    row_asked : (P : SayingAll) (parts : Parts) (q : QmgrState) → membership_in parts ≡ Some q → IsOfAsked P q
        → P (taking is_membership x (is_membership x.to.block)) (parts_row parts x).effects.sends
    row_asked P (Main p) q is of =
        let same : q ≡ p.qmgr = cc in
        row_by P p (subst (λ r. IsOfAsked P r) same of) x.to.block
    row_asked P (Shell p) q is of = absurd cc
    row_asked P (Tc p) q is of = absurd cc
    row_asked P (Ldm p) q is of = absurd cc

    front_said : (parts : Parts) → membership_in parts ≡ Some (state_of w layout old)
        → IsSaidOf is_membership (AreAsked w layout old) parts x
    front_said parts is = record {
      opens = record {
        none = λ events. nothing refl;
        front = λ events more sends none are.
            other_asked events sends (more ++ sends) (fencing_front more sends none) are;
      };
      row =
          row_asked (AreAsked w layout old) parts (state_of w layout old) is (record {
            asks = λ sends fences. asked [] [] x refl fences;
            none = λ sends off. nothing off;
          });
      later = λ view sends more none are.
          later_asked view _ (sends ++ more) (other_asked _ sends (sends ++ more) (fencing_behind sends more none) are);
    }

    behind_said : (parts : Parts) (view : View) → membership_in parts ≡ Some (state_of w layout (installs view ∷ old))
        → IsSaidOf is_membership (behind_all view (AreAsked w layout old)) parts x
    behind_said parts view is = record {
      opens = record {
        none = λ events. nothing refl;
        front = λ events more sends none are.
            other_asked _ sends (more ++ sends) (fencing_front more sends none) are;
      };
      row =
          row_asked (behind_all view (AreAsked w layout old)) parts (state_of w layout (installs view ∷ old)) is
          (record {
            asks = λ sends fences. asked [] (installs view ∷ []) x refl fences;
            none = λ sends off. nothing off;
          });
      later = λ next sends more none are.
          later_asked next _ (sends ++ more) (other_asked _ sends (sends ++ more) (fencing_behind sends more none) are);
    }

pub step_asked : (start : Start) (nobody : NobodyStarts start) (w : Member) (log : List HostStep) (e : HostStep)
    → IsIn w (made start)
    → AreAsked w (first_layout start.shape) (events_of is_membership start (main_of start w) log)
    (events_at is_membership (main_of start w) (after start (main_of start w) log) e.step.taken)
    (step_after start (main_of start w) log e).effects.sends
step_asked start nobody w log e there =
    let h = main_of start w in
    let s = after start h log in
    let x = e.step.taken in
    let old = events_of is_membership start h log in
    let layout = first_layout start.shape in
    let is : membership_in s.parts ≡ Some (state_of w layout old) = (hosts_follow start nobody w log there).state in
    all_said is_membership x (AreAsked w layout old) s (front_said w layout old x s.parts is)
    (behind_said w layout old x (parts_entered s.parts x.view).state x.view
    (entered_in s.parts (state_of w layout old) x.view is))
    h

-- it is on its way as this was sent
pub record IsOf (o : Outgoing) (y : Addressed) : Type 0 where
  pub place : y.signal.to ≡ o.to
  pub body : y.signal.body ≡ o.body

-- the requests that are on their way
abbrev pub onward : Start → List Addressed → List Addressed
onward start ys = filter (asks_fence start) ys

module _ (start : Start) (h to : ℕ) (standing : Standing) (by : Sender) where
  -- this one is sent to that host, and is well formed
  abbrev pub goes : Outgoing → Bool
  goes o =
      not (is_kept_back h standing (reached (made start) h standing.view o.to) o)
      && ((reached (made start) h standing.view o.to == to) && is_well_formed start.shape (headed by 0 o))

  -- these, those of them that go there, put on the link make that of this
  abbrev pub Line : List Outgoing → List Addressed → List Addressed → Type 0
  Line [] before now = now ≡ before
  Line (o ∷ os) before now =
      ((goes o ≡ true) × (y : Addressed) × IsOf o y × Line os (y ∷ before) now)
      ⊎ ((goes o ≡ false) × Line os before now)

  passes : (o : Outgoing) (os : List Outgoing) (before now : List Addressed) (asks : Bool) → goes o ≡ false
      → Line os before now → Line (cond asks (o ∷ os) os) before now
  passes o os before now true off line = inr (off, line)
  passes o os before now false off line = line

  puts : (o : Outgoing) (y : Addressed) (os : List Outgoing) (before now : List Addressed) (asks sound : Bool)
      → IsOf o y → goes o ≡ sound → Line os (cond (asks && sound) (y ∷ before) before) now
      → Line (cond asks (o ∷ os) os) before now
  puts o y os before now true true of is line = inl (is, y, of, line)
  puts o y os before now true false of is line = inr (is, line)
  puts o y os before now false sound of is line = line

  same_sound : (number : ℕ) (o : Outgoing)
      → is_well_formed start.shape (headed by 0 o) ≡ is_well_formed start.shape (headed by number o)
  unfolding is_well_formed
  same_sound number o = refl

  pub line : (sends : List Outgoing) (count : ℕ → ℕ) (before : List Addressed)
      → Line (fencing sends) (onward start before)
      (onward start
      (put (machine start) to (all_addressed by count (routed_all (made start) h standing sends)) before))
  line [] count before = refl
  line (o ∷ sends) count before = kept (line sends) (is_kept_back h standing place o) refl
    where
      place : ℕ
      place = reached (made start) h standing.view o.to

      y : Addressed
      y = addressed by (count place) (routed place o)

      os : List Outgoing
      os = fencing sends

      rest : List Addressed
      rest = all_addressed by (counted place count) (routed_all (made start) h standing sends)

      Later : Type 0
      Later =
          (count : ℕ → ℕ) (before : List Addressed)
          → Line os (onward start before)
          (onward start
          (put (machine start) to (all_addressed by count (routed_all (made start) h standing sends)) before))

      reach : Later → is_kept_back h standing place o ≡ false → (b : Bool) → (place == to) ≡ b
          → Line (cond (is_fencing o.body) (o ∷ os) os) (onward start before)
          (onward start (put (machine start) to rest (if b then y ∷ before else before)))
      reach later free false e =
          passes o os (onward start before) _ (is_fencing o.body)
          (ap (λ k. not k && ((place == to) && is_well_formed start.shape (headed by 0 o))) free
          ∙ ap (λ b. b && is_well_formed start.shape (headed by 0 o)) e)
          (later (counted place count) before)
      reach later free true e =
          puts o y os (onward start before) _ (is_fencing o.body) (is_well_formed start.shape y.signal)
          (record { place = refl; body = refl })
          (ap (λ k. not k && ((place == to) && is_well_formed start.shape (headed by 0 o))) free
          ∙ ap (λ b. b && is_well_formed start.shape (headed by 0 o)) e
          ∙ same_sound (count place) o)
          (later (counted place count) (y ∷ before))

      kept : Later → (b : Bool) → is_kept_back h standing place o ≡ b
          → Line (cond (is_fencing o.body) (o ∷ os) os) (onward start before)
          (onward start
          (put (machine start) to
          (all_addressed by count (routed_if b (routed place o) (routed_all (made start) h standing sends))) before))
      kept later true e =
          passes o os (onward start before) _ (is_fencing o.body)
          (ap (λ k. not k && ((place == to) && is_well_formed start.shape (headed by 0 o))) e)
          (later count before)
      kept later false e = reach later e (place == to) refl
